use Rattle.std.proofs.Common.{refl, sym}
use Rattle.bytetree.specs.Pieces.{parts}
use Rattle.merkle.proofs.digests.Digests.new.Goals as goal

pub returns : goal.returns
unfolding parts
returns c = record { made = (record { digests = c.in_ok-with_capacity.ensures.items; counted = refl }, c.in_ok-length.ensures.made.0, sym c.in_ok-length.ensures.taken) }
