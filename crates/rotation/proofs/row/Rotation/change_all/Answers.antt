-- Changes that are taken one by one are those that are taken all at once.
use Rattle.std.proofs.Common.{◌+◌, get_or, drop, sym, ap, ◌∙◌}
use Rattle.rotation.proofs.row.Rotation.change_all.Goals as goal
use Rattle.rotation.specs.Rows.{row, meant, meant_all, nobody}
use Rattle.rotation.specs.declared.change.Change.TheVariants.{Join}
use Rattle.std.proofs.lemmas.List.{at_drop_more, at_drop_all}
use Rattle.swarm.proofs.Taken.{after, after_more}
use Rattle.swarm.specs.Code.{taken}
use Rattle.swarm.specs.Turns.{changed}

pub loop-change-preserved : goal.loop-change-preserved
loop-change-preserved c =
    let cs = c.args.changes.now in
    let i = c.loop-change.change-index in
    let rest = meant_all (drop (i + 1) cs) in
    ap (λ xs. after nobody rest xs) c.change-after.ensures ∙
    sym (after_more nobody (meant (get_or cs i (Join 0))) rest (row c.loop-change.after)) ∙
    sym (at_drop_more (λ xs. after nobody (meant_all xs) (row c.loop-change.after)) cs i (Join 0) c.loop-change-test.true) ∙
    c.loop-change.invariant

pub returns : goal.returns
unfolding taken changed
returns c =
    let all = at_drop_all (λ xs. after nobody (meant_all xs) (row c.loop-change.after)) c.args.changes.now c.loop-change.change-index c.loop-change-test.false in
    sym all ∙ c.loop-change.invariant
