-- How a function comes to be given what a reader has.
use Rattle.std.proofs.Common.{◌≡◌, ℕ, List, [], ◌∷◌, ◌++◌, Option, Ok, refl, ap, sym, subst, ◌∙◌}
use Rattle.std.specs.List.{FoldsTo, concat}
use Rattle.std.specs.Fn.{Called, CalledAt}
use Rattle.std.specs.Io.KnownBytes.{Consumes}
use Rattle.std.proofs.KnownBytes.{Consumes-trans}
use Rattle.std.proofs.lemmas.List.{append-nil}
use Rattle.std.proofs.lemmas.List.Folds.{concat-append}
use Rattle.program.specs.Parts.{Takes, TakesUpTo}
use denote.Ref.{Bor}

FoldsTo-snoc : {P A : Type 0} (R : P → A → P → Type 0) (p q r : P) (xs : List A) (x : A) → FoldsTo R p xs q → R q x r → FoldsTo R p (xs ++ x ∷ []) r
FoldsTo-snoc R p q r [] x before step = (r, subst (λ s. R s x r) (sym before) step, refl)
FoldsTo-snoc R p q r (y ∷ xs) x before step = (before.0, before.1, FoldsTo-snoc R before.0 q r xs x before.2 step)

module _ {F E : Type 0} (g : Takes F E) where
  -- after one part more
  pub takes_more : (f last next : F) (a b c : Option (List ℕ)) (part : Bor (List ℕ))
      → TakesUpTo g f last a b → Consumes b c part.now → Called g last (part, tt) (Ok tt) next → TakesUpTo g f next a c
  takes_more f last next a b c part before gave took =
      let called : CalledAt g last part.now (Ok tt) next = record { shown = part; shows = refl; called = took } in
      let joined : concat before.0 ++ part.now ≡ concat (before.0 ++ part.now ∷ []) =
      ap (λ l. concat before.0 ++ l) (sym (append-nil part.now)) ∙ sym (concat-append before.0 (part.now ∷ [])) in
      (before.0 ++ part.now ∷ [], FoldsTo-snoc _ f last next before.0 part.now before.1 called, subst (Consumes a c) joined (Consumes-trans a b c _ _ before.2 gave))
