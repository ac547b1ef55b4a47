-- No event before this one breaks a link that does not stand.
use Rattle.std.proofs.Common.{◌≡◌, [], take, drop}
use Rattle.script.proofs.links.first_bad_break.Given as goal
use Rattle.script.specs.Sheets.{bad_break}

abbrev pub invariant-loop-i : goal.invariant-loop-i
invariant-loop-i l = bad_break (take l.i l.events) (drop l.i l.events) ≡ bad_break [] l.events
