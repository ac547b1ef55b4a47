-- The seats before this place have changed, and the others are as they were.
use Rattle.arena.proofs.InPlace.{Mapped}
use Rattle.arena.proofs.play.change_at.Given as goal
use Rattle.arena.specs.Seats.{seat, change_at}
use Rattle.rotation.specs.Rows.{meant_all}

abbrev pub invariant-loop-node : goal.invariant-loop-node
invariant-loop-node l = Mapped seat (change_at l.id (meant_all l.changes)) l.initial.nodes l.nodes l.node-index
