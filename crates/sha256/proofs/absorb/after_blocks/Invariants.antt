use Rattle.std.proofs.Common.{◌≡◌, take}
use Rattle.sha256.specs.Streams.{after}
use Rattle.sha256.proofs.absorb.after_blocks.Given as goal

abbrev pub invariant-loop-block : goal.invariant-loop-block
invariant-loop-block l = l.value ≡ after l.fn.value (take l.block-index l.blocks)
