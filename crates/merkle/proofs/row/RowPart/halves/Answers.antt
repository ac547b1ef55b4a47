use Rattle.std.proofs.Common.{length, arith}
use Rattle.swarm.proofs.Cuts.{cut_between}
use Rattle.merkle.proofs.row.RowPart.halves.Goals as goal

pub split_at-requires : goal.split_at-requires
split_at-requires c = omega (arith, cut_between (length c.args.self.leaves.now) (omega arith))

pub invariant_of-result : goal.invariant_of-result
invariant_of-result c = let k = cut_between (length c.args.self.leaves.now) (omega arith) in record { some = omega arith; few = omega arith }

pub invariant_of-result-2 : goal.invariant_of-result-2
invariant_of-result-2 c = let k = cut_between (length c.args.self.leaves.now) (omega arith) in record { some = omega arith; few = omega arith }
