-- One lane of a vector of four.
use Rattle.std.proofs.Common.{◌≡◌, ℕ, ◌<◌, List, [], ◌∷◌, length, get_or, ◌∙◌, refl, ap, arith}
use lib.Lanes.{zip2}
use Rattle.std.proofs.lemmas.Simd.{length-zip2, get_or-zip2, get_or-replicate}

-- An operation goes lane by lane.
pub lane_of_both : (f : ℕ → ℕ → ℕ) (xs ys : List ℕ) (i : ℕ) → length xs ≡ 4 → length ys ≡ 4 → i < 4 → get_or (zip2 f xs ys) i 0 ≡ f (get_or xs i 0) (get_or ys i 0)
lane_of_both f xs ys i l m h = get_or-zip2 f xs ys i 0 0 0 (omega arith) (omega arith)

-- An operation with one number in each lane.
pub lane_with : (f : ℕ → ℕ → ℕ) (xs : List ℕ) (n i : ℕ) → length xs ≡ 4 → i < 4 → get_or (zip2 f xs (n ∷ n ∷ n ∷ n ∷ [])) i 0 ≡ f (get_or xs i 0) n
lane_with f xs n i l h = lane_of_both f xs (n ∷ n ∷ n ∷ n ∷ []) i l refl h ∙ ap (f (get_or xs i 0)) (get_or-replicate 4 i n 0 h)

pub length_with : (f : ℕ → ℕ → ℕ) (xs : List ℕ) (n : ℕ) → length xs ≡ 4 → length (zip2 f xs (n ∷ n ∷ n ∷ n ∷ [])) ≡ 4
length_with f xs n l = length-zip2 f xs (n ∷ n ∷ n ∷ n ∷ []) l ∙ l
