-- The lines of a text are what stands before its first line feed, and then the lines of what follows it.
use Rattle.std.proofs.Common.{◌≡◌, ℕ, suc, ◌+◌, ◌<◌, Bool, true, false, cond, not, eqb, List, [], ◌∷◌, length, take, drop, sym, refl, ap, ◌∙◌, one-add, arith}
use Rattle.script.specs.Words.{lines}
use Rattle.std.proofs.lemmas.List.{take_all}
use Rattle.std.specs.List.{prefix_len, onto_first}

-- a byte of a line
abbrev pub in_line : ℕ → Bool
in_line b = not (eqb b 10)

-- how many bytes stand before the first line feed
abbrev pub upto : List ℕ → ℕ
upto xs = prefix_len in_line xs

last_whole : (xs : List ℕ) → upto xs ≡ length xs → lines xs ≡ take (upto xs) xs ∷ []
last_whole [] h = refl
last_whole (x ∷ xs) h = step (eqb x 10) h (last_whole xs)
  where
    step : (b : Bool) → cond (not b) (1 + upto xs) 0 ≡ length (x ∷ xs) → (upto xs ≡ length xs → lines xs ≡ take (upto xs) xs ∷ []) →
        cond b ([] ∷ lines xs) (onto_first x (lines xs)) ≡ take (cond (not b) (1 + upto xs) 0) (x ∷ xs) ∷ []
    step true l ih = absurd (omega arith)
    step false l ih = rw one-add (ap (onto_first x) (ih (omega arith)))

first_part : (xs : List ℕ) → upto xs < length xs → lines xs ≡ take (upto xs) xs ∷ lines (drop (upto xs + 1) xs)
first_part [] h = absurd (omega arith)
first_part (x ∷ xs) h = step (eqb x 10) h (first_part xs)
  where
    step : (b : Bool) → cond (not b) (1 + upto xs) 0 < length (x ∷ xs) → (upto xs < length xs → lines xs ≡ take (upto xs) xs ∷ lines (drop (upto xs + 1) xs)) →
        cond b ([] ∷ lines xs) (onto_first x (lines xs)) ≡ take (cond (not b) (1 + upto xs) 0) (x ∷ xs) ∷ lines (drop (cond (not b) (1 + upto xs) 0 + 1) (x ∷ xs))
    step true l ih = refl
    step false l ih = let e : 1 + upto xs + 1 ≡ suc (upto xs + 1) = omega arith in rw (e, one-add) (ap (onto_first x) (ih (omega arith)))

-- the same, of a number that is known to be upto xs
module _ (xs : List ℕ) (n : ℕ) (e : n ≡ upto xs) where
  pub only_line : n ≡ length xs → lines xs ≡ xs ∷ []
  only_line h = last_whole xs (sym e ∙ h) ∙ ap (λ ys. ys ∷ []) (take_all (upto xs) xs (omega arith))

  pub first_line : n < length xs → lines xs ≡ take n xs ∷ lines (drop (n + 1) xs)
  first_line h = rw e (first_part xs (omega arith))
