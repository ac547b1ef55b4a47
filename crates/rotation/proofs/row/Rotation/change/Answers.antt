-- What a rotation makes of one change is what the row makes of it.
use Rattle.std.proofs.Common.{[], ◌∷◌, sym, ap, ◌∙◌}
use Rattle.rotation.proofs.Changes.{join_or_same, leave_taken}
use Rattle.rotation.proofs.row.Rotation.change.Goals as goal
use Rattle.rotation.specs.Rows.{row, meant, nobody}
use Rattle.swarm.proofs.Taken.{after}

pub returns-in-Join : goal.returns-in-Join
returns-in-Join c =
    ap row c.unwrap_or.ensures ∙ join_or_same c.in-Join.id c.args.self c.join.result c.join.ensures.taken c.join.ensures.after ∙
    ap (λ x. after nobody (meant x ∷ []) (row c.args.self)) (sym c.in-Join.is)

pub returns-in-Leave : goal.returns-in-Leave
returns-in-Leave c =
    c.leave.ensures ∙ leave_taken c.in-Leave.id (row c.args.self) ∙
    ap (λ x. after nobody (meant x ∷ []) (row c.args.self)) (sym c.in-Leave.is)
