use Rattle.std.proofs.Common.{◌*◌}
use Rattle.sha256.specs.Steps.{DoesMore}
use Rattle.sha256.proofs.block.later.Given as goal

abbrev pub invariant-loop-j : goal.invariant-loop-j
invariant-loop-j g l = DoesMore g.W.Word.lanes g.W.Word.lane 0 l.initial.v l.initial.w (16 * l.j) l.v l.w
