use Rattle.std.proofs.Common.{length}
use Rattle.merkle.proofs.row.RowPart.+root.Given as goal

abbrev pub decreases-root : goal.decreases-root
decreases-root l = length l.self.leaves.now
