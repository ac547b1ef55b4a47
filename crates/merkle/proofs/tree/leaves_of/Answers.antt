use Rattle.std.proofs.Common.{◌∙◌}
use Rattle.merkle.proofs.Leaves.{leaves_four}
use Rattle.merkle.proofs.tree.leaves_of.Goals as goal

pub returns : goal.returns
returns c = rw c.unwrap.ensures at c.digest_four.ensures.value ∙ leaves_four c.args.group.now c.as_chunks.result.0.now c.requires c.as_chunks.ensures.front
