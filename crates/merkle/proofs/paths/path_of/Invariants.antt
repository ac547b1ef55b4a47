use Rattle.std.proofs.Common.{length}
use Rattle.bytetree.specs.ByteTree.{path}
use Rattle.merkle.proofs.Walks.{Walk}
use Rattle.merkle.proofs.paths.path_of.Given as goal

abbrev pub invariant-loop-left : goal.invariant-loop-left
invariant-loop-left g l = Walk l.found l.place (g.P.Part.leaves l.part) (path l.m (g.P.Part.leaves l.fn.whole))

abbrev pub decreases-loop-left : goal.decreases-loop-left
decreases-loop-left g l = length (g.P.Part.leaves l.part)
