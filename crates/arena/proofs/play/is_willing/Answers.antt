-- The peers that are asked are all that it may be.
use Rattle.std.proofs.Common.{◌∙◌, rules, tests}
use Rattle.arena.proofs.Willing.{takes, all-willing}
use Rattle.arena.proofs.play.is_willing.Goals as goal
use Rattle.std.proofs.lemmas.Iterator.{YieldsList-from_slice}
use Rattle.std.proofs.lemmas.Iterator.Search.{all_from_yields_List}

pub returns : goal.returns
returns c =
    all_from_yields_List (takes c.args.id c.args.other) _ _ c.all.result c.all.ensures.ran (YieldsList-from_slice c.args.nodes.now cc) (λ x b q k. (search rules, search (rules, tests))) ∙
    all-willing c.args.id c.args.other c.args.nodes.now
