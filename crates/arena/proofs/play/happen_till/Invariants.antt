-- The events before this place have happened.
use Rattle.std.proofs.Common.{◌≡◌, fold, take}
use Rattle.arena.proofs.play.happen_till.Given as goal
use Rattle.arena.specs.Seats.{seats, happens}

abbrev pub invariant-loop-event : goal.invariant-loop-event
invariant-loop-event l = seats l.nodes ≡ fold (λ ss e. happens e ss) (seats l.initial.nodes) (take l.event-index l.event-items)
