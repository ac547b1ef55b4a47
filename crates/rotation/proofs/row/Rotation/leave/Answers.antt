-- Each id that is looked at is left if it is another.
use Rattle.std.proofs.Common.{[], ◌∷◌, ◌++◌, get_or, refl, ap, sym, ◌∙◌, arith, length-set}
use Rattle.rotation.proofs.InRow.{without-more_kept, without-more_gone}
use Rattle.rotation.proofs.row.Rotation.leave.Goals as goal
use Rattle.rotation.proofs.row.Rotation.leave.Goals.{then-other-id, else-other-id}
use Rattle.rotation.specs.Rows.{row}
use Rattle.std.proofs.lemmas.List.{take_more_set}
use Rattle.swarm.specs.Turns.{without}

pub loop-other-init : goal.loop-other-init
unfolding without
loop-other-init c = (refl, omega arith, c.args.self.sized)

pub loop-other-preserved : goal.loop-other-preserved
loop-other-preserved c =
    let inv = c.loop-other.invariant in
    let i = c.loop-other.other-index in
    let x = get_or (row c.args.self) i 0 in
    elim c.if-other-id.branch [
      | then-other-id w ↦ rw (w.ids-is, w.count-is) (
        take_more_set c.loop-other.ids c.loop-other.count x (omega arith) ∙ ap (λ xs. xs ++ x ∷ []) inv.0 ∙ sym (without-more_kept c.args.id (row c.args.self) i c.loop-other-test.true w.if-other-id.true),
        omega arith,
        length-set c.loop-other.ids c.loop-other.count x ∙ inv.2,
      )
      | else-other-id w ↦ rw (w.ids-is, w.count-is) (inv.0 ∙ sym (without-more_gone c.args.id (row c.args.self) i c.loop-other-test.true w.if-other-id.false), omega arith, inv.2)
    ]
