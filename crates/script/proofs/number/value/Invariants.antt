-- The digits that are left go on from the number so far, which 64 bits hold.
use Rattle.std.proofs.Common.{◌≡◌, ◌^◌, ◌<◌, drop}
use Rattle.script.proofs.number.value.Given as goal
use Rattle.script.specs.Words.{onward}

abbrev pub invariant-loop-b : goal.invariant-loop-b
invariant-loop-b l = (onward l.n (drop l.b-index l.word) ≡ onward 0 l.word) × (l.n < 2 ^ 64)
