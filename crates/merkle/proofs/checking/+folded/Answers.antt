-- Each return is one step along the path.
use Rattle.std.proofs.Common.{◌≡◌, ◌&&◌, ◌==◌, Some, sym, ap, ◌∙◌, arith}
use Rattle.std.proofs.lemmas.Bool.Decides.{nat_tests}
use Rattle.swarm.proofs.Cuts.{cut_between}
use Rattle.merkle.proofs.Folds.{leads_at_end, too_long, leads_in_front, leads_in_back}
use Rattle.merkle.proofs.checking.+folded.Goals as goal
use Rattle.merkle.proofs.checking.+folded.Goals.{then-pieces-eq1, else-pieces-eq1}

pub returns-in_default : goal.returns-in_default
returns-in_default t c =
    let alone : c.if-pieces-eq1.then_some ≡ (c.args.pieces == 1 && c.args.place == 0) = elim c.if-pieces-eq1.branch [
      | then-pieces-eq1 w ↦ grind (arith, nat_tests)
      | else-pieces-eq1 w ↦ grind (arith, nat_tests)
    ] in
    cc (c.then_some.ensures, leads_at_end c.args.pieces c.args.place c.args.digest c.args.path.now c.in_default.ensures.cases)

pub returns-then-pieces-lt2 : goal.returns-then-pieces-lt2
returns-then-pieces-lt2 t c = sym (too_long _ _ _ _ (omega (arith, c.in-Some.ensures.cases.1)) c.if-pieces-lt2.true)

pub returns-in_err-inner : goal.returns-in_err-inner
returns-in_err-inner t c =
    c.from_residual.ensures ∙ sym (leads_in_front _ _ _ c.if-pieces-lt2.false c.split-left.ensures.value c.in-Some.ensures.cases.0 c.if-place-left.true (sym c.in_err-inner.was ∙ c.folded.ensures))

pub overflow_sub-pieces : goal.overflow_sub-pieces
overflow_sub-pieces t c = omega (arith, cut_between c.args.pieces (omega arith), c.split-left.ensures.value)

pub returns-in_err-inner-2 : goal.returns-in_err-inner-2
returns-in_err-inner-2 t c =
    c.from_residual-in_err-inner-2.ensures
    ∙ sym (leads_in_back _ _ _ c.if-pieces-lt2.false c.split-left.ensures.value c.in-Some.ensures.cases.0 c.if-place-left.false (sym c.in_err-inner-2.was ∙ c.folded-else-place-left.ensures))

pub returns-in_ok-inner : goal.returns-in_ok-inner
returns-in_ok-inner t c =
    ap Some c.node_over.ensures ∙ sym (leads_in_front _ _ _ c.if-pieces-lt2.false c.split-left.ensures.value c.in-Some.ensures.cases.0 c.if-place-left.true (sym c.in_ok-inner.was ∙ c.folded.ensures))

pub returns-in_ok-inner-2 : goal.returns-in_ok-inner-2
returns-in_ok-inner-2 t c =
    ap Some c.node_over-else-place-left.ensures
    ∙ sym (leads_in_back _ _ _ c.if-pieces-lt2.false c.split-left.ensures.value c.in-Some.ensures.cases.0 c.if-place-left.false (sym c.in_ok-inner-2.was ∙ c.folded-else-place-left.ensures))
