-- Each call has a digest less of the path.
use Rattle.std.proofs.Common.{length}
use Rattle.merkle.proofs.checking.+folded.Given as goal

abbrev pub decreases-folded : goal.decreases-folded
decreases-folded l = length l.path.now
