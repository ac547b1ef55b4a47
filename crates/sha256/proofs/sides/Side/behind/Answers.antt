use Rattle.std.proofs.Common.{refl, subst}
use Rattle.sha256.proofs.SideLaws.{moved_on}
use Rattle.sha256.proofs.Taking.{flat}
use Rattle.sha256.specs.Streams.{Adds}
use Rattle.sha256.proofs.sides.Side.behind.Goals as goal

pub returns-clause-keeps : goal.returns-clause-keeps
returns-clause-keeps c = moved_on c.args.self _ c.split_at.result.0.now c.split_at.ensures.by_index.0 refl c.behind.ensures.adds

pub returns-clause-taken : goal.returns-clause-taken
returns-clause-taken c = record {
  adds = subst (λ taken. Adds (flat taken) c.args.self.stream c.behind.result) c.split_at.ensures.front c.behind.ensures.adds;
  blocks = c.split_at.ensures.back;
  back = refl;
}
