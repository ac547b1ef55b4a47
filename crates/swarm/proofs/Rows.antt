-- Whoever is among the first n of a row and stays is so still when others have come and left, and is one place nearer after a turn that it has not.
use Rattle.std.proofs.Common.{◌≡◌, ℕ, zero, suc, Bool, true, false, not, ◌||◌, eqb, ◌⊎◌, List, [], ◌∷◌, ◌++◌, take, ap, inl, inr, ⊎_elim, arith}
use Rattle.std.proofs.lemmas.Bool.Decides.{nat_tests}
use Rattle.std.proofs.lemmas.Bool.{false≢true, and_parts, or_cases, cond_both, eqb-true, not-true}
use Rattle.swarm.specs.Turns.{Change, Joins, Leaves, is_in, without, turned, changed, first, no_leave}

or_more : (b x y : Bool) → (x ≡ true → y ≡ true) → (b || x) ≡ true → (b || y) ≡ true
or_more true x y f h = h
or_more false x y f h = f h

-- q is among the first n of the row
abbrev pub Within : ℕ → ℕ → List ℕ → Type 0
Within q n row = is_in q (take n row) ≡ true

module _ (q : ℕ) where
  within_more : (n : ℕ) (row : List ℕ) → Within q n row → Within q (suc n) row
  unfolding is_in
  within_more zero row h = absurd (false≢true h)
  within_more (suc n) [] h = h
  within_more (suc n) (x ∷ xs) h = or_more (eqb x q) _ _ (within_more n xs) h

  within_joined : (n : ℕ) (row others : List ℕ) → Within q n row → Within q n (row ++ others)
  unfolding is_in
  within_joined zero row others h = h
  within_joined (suc n) [] others h = absurd (false≢true h)
  within_joined (suc n) (x ∷ xs) others h = or_more (eqb x q) _ _ (within_joined n xs others) h

  within_without : (n x : ℕ) (row : List ℕ) → eqb x q ≡ false → Within q n row → Within q n (without x row)
  unfolding is_in without
  within_without zero x row ne h = h
  within_without (suc n) x [] ne h = h
  within_without (suc n) x (y ∷ ys) ne h =
      cond_both (eqb y x) (without x ys) (y ∷ without x ys) (Within q (suc n))
      (λ e. within_more n (without x ys) (within_without n x ys ne (grind (arith, nat_tests))))
      (λ _. or_more (eqb y q) _ _ (within_without n x ys ne) h)

  pub within_changed : (n : ℕ) (cs : List Change) (row : List ℕ) → no_leave q cs ≡ true → Within q n row → Within q n (changed cs row)
  unfolding changed no_leave
  within_changed n [] row stay h = h
  within_changed n (Joins x ∷ cs) row stay h =
      within_changed n cs _ stay (cond_both (is_in x row) row (row ++ (x ∷ [])) (Within q n) (λ _. h) (λ _. within_joined n row (x ∷ []) h))
  within_changed n (Leaves x ∷ cs) row stay h =
      let (gone, after) = and_parts (not (eqb x q)) (no_leave q cs) stay in
      within_changed n cs (without x row) after (within_without n x row (not-true (eqb x q) gone) h)

  pub first_or_nearer : (n : ℕ) (row : List ℕ) → Within q (suc n) row → (first row ≡ q ∷ []) ⊎ Within q n (turned row)
  unfolding is_in first
  first_or_nearer n [] h = absurd (false≢true h)
  first_or_nearer n (x ∷ xs) h = ⊎_elim (λ e. inl (ap (λ (y : ℕ). y ∷ []) (eqb-true x q e))) (λ e. inr (within_joined n xs (x ∷ []) e)) (or_cases (eqb x q) _ h)
