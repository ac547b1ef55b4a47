-- The others among the ids that were looked at stand in front, in their order.
use Rattle.std.proofs.Common.{◌≡◌, ◌≤◌, length, take}
use Rattle.rotation.proofs.row.Rotation.leave.Given as goal
use Rattle.swarm.specs.Turns.{without}

abbrev pub invariant-loop-other : goal.invariant-loop-other
invariant-loop-other l = (take l.count l.ids ≡ without l.id (take l.other-index l.other-items)) × (l.count ≤ l.other-index) × (length l.ids ≡ 64)
