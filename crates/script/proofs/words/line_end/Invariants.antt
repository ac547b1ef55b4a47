-- The bytes that were looked at are no line feeds.
use Rattle.script.proofs.FirstLine.{in_line}
use Rattle.script.proofs.Leading.{Passed}
use Rattle.script.proofs.words.line_end.Given as goal

abbrev pub invariant-loop-i : goal.invariant-loop-i
invariant-loop-i l = Passed in_line l.text l.i
