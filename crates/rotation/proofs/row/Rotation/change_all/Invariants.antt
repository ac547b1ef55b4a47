-- What is left of the changes makes of the row as it is now what all of them make of it as it was.
use Rattle.std.proofs.Common.{◌≡◌, drop}
use Rattle.rotation.proofs.row.Rotation.change_all.Given as goal
use Rattle.rotation.specs.Rows.{row, meant_all, nobody}
use Rattle.swarm.proofs.Taken.{after}

abbrev pub invariant-loop-change : goal.invariant-loop-change
invariant-loop-change l = after nobody (meant_all (drop l.change-index l.changes)) (row l.after) ≡ after nobody (meant_all l.changes) (row l.initial.after)
