-- The lines that are left make of the script as it is now what all lines make of an empty one.
use Rattle.script.proofs.Reading.{Toward}
use Rattle.script.proofs.reader.read.Given as goal
use Rattle.script.specs.Sheets.{sheet}

abbrev pub invariant-loop-line : goal.invariant-loop-line
invariant-loop-line l = Toward (goal.iterator-loop-line).next_gives l.line-iterator l.text l.number (sheet l.draft)
