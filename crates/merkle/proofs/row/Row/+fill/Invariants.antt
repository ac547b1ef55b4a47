use Rattle.std.proofs.Common.{length}
use Rattle.merkle.proofs.row.Row.+fill.Given as goal

abbrev pub decreases-fill : goal.decreases-fill
decreases-fill l = length l.self.leaves.now
