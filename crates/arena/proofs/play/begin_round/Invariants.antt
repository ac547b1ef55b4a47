-- The round has begun at the seats before this place.
use Rattle.arena.proofs.InPlace.{Mapped}
use Rattle.arena.proofs.play.begin_round.Given as goal
use Rattle.arena.specs.Seats.{seat, begun}

abbrev pub invariant-loop-node : goal.invariant-loop-node
invariant-loop-node l = Mapped seat begun l.initial.nodes l.nodes l.node-index
