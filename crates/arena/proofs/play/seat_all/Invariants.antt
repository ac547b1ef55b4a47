-- Those who are seated, and then those of the rest, are all.
use Rattle.arena.proofs.Due.{Seated}
use Rattle.arena.proofs.play.seat_all.Given as goal
use Rattle.std.proofs.Common.{vec_items}

abbrev pub invariant-loop-peer : goal.invariant-loop-peer
invariant-loop-peer l = Seated (vec_items l.nodes) l.peers l.peer-index
