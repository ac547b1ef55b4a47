-- Changes that are taken one by one are those that are taken all at once.
use Rattle.std.proofs.Common.{◌≡◌, ℕ, Bool, true, false, cond, not, ◌||◌, ltb, List, [], ◌∷◌, length, refl}
use Rattle.swarm.specs.Code.{taken}
use Rattle.swarm.specs.Turns.{Change, Joins, Leaves, changed}

-- the row after those of these changes that are taken
abbrev pub after : (ℕ → Bool) → List Change → List ℕ → List ℕ
after shut cs row = changed (taken shut row cs) row

pub after_more : (shut : ℕ → Bool) (c : Change) (cs : List Change) (row : List ℕ) → after shut (c ∷ cs) row ≡ after shut cs (after shut (c ∷ []) row)
unfolding taken changed
after_more shut (Joins x) cs row = by_test (shut x || not (ltb (length row) 64))
  where
    by_test : (refused : Bool) →
        changed (cond refused (taken shut row cs) (Joins x ∷ taken shut (changed (Joins x ∷ []) row) cs)) row ≡
        after shut cs (changed (cond refused (taken shut row []) (Joins x ∷ taken shut (changed (Joins x ∷ []) row) [])) row)
    by_test true = refl
    by_test false = refl
after_more shut (Leaves x) cs row = refl
