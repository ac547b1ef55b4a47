use native.Mathlib.Nat.{sub-zero}
use Rattle.std.proofs.Common.{take}
use Rattle.merkle.proofs.Steps.{flat_joined}
use Rattle.merkle.proofs.path.Path.bytes.Goals as goal

pub returns-clause-value : goal.returns-clause-value
returns-clause-value c = cc (flat_joined (take c.args.self.now.count c.args.self.now.digests), sub-zero c.args.self.now.count)
