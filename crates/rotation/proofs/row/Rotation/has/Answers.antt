-- Whoever is among the ids that are there is in the row.
use Rattle.std.proofs.Common.{eqb, ◌∙◌, rules, tests}
use Rattle.rotation.proofs.InRow.{any-is_in}
use Rattle.rotation.proofs.row.Rotation.has.Goals as goal
use Rattle.rotation.specs.Rows.{row}
use Rattle.std.proofs.lemmas.Iterator.{YieldsList-from_slice}
use Rattle.std.proofs.lemmas.Iterator.Search.{any_from_yields_List}

pub returns : goal.returns
returns c =
    any_from_yields_List (λ x. eqb x c.args.id) _ _ c.any.result c.any.ensures.ran (YieldsList-from_slice (row c.args.self) cc) (λ x b q k. (search rules, search (rules, tests))) ∙
    any-is_in c.args.id (row c.args.self)
