use Rattle.std.proofs.Common.{◌∙◌, ap₂, arith, rules}
use Rattle.std.proofs.lemmas.List.{map-id}
use Rattle.sha256.specs.Sha256.{compress}
use Rattle.sha256.proofs.Turns.{eight}
use Rattle.sha256.proofs.block.compressed.Goals as goal

pub returns : goal.returns
returns c = c.after_block-v.ensures 0 (omega arith) ∙ ap₂ compress (eight c.args.value (search rules)) (map-id _ ∙ c.load.ensures.value)
