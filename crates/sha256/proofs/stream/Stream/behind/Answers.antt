use Rattle.std.proofs.Common.{◌+◌, length, refl, ap}
use Rattle.sha256.proofs.Taking.{taken_some}
use Rattle.sha256.proofs.stream.Stream.behind.Goals as goal

pub returns-clause-adds : goal.returns-clause-adds
returns-clause-adds c = taken_some c.args.blocks.now c.args.self _ c.requires.even c.told-blocks c.requires.made refl (ap (λ bytes. c.args.self.count + length bytes) c.as_flattened.ensures.value)
