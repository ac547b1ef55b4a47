-- What a rotation does to its array is what happens to the row that the array stands for.
use Rattle.std.proofs.Common.{◌≡◌, ℕ, zero, suc, ◌+◌, ◌<◌, ◌≤◌, Bool, true, false, cond, not, ◌||◌, eqb, List, [], ◌∷◌, ◌++◌, length, get_or, take, drop, filter, sym, refl, ap, append-nil, ◌≢◌, ◌∙◌, arith}
use Rattle.std.proofs.lemmas.List.Elements.{filter_more}
use Rattle.std.proofs.lemmas.List.Recursion.{same_from_clauses}
use Rattle.std.specs.List.{list_any}
use Rattle.std.proofs.lemmas.List.{take_at}
use Rattle.std.proofs.lemmas.Bool.Decides.{nat_tests}
use Rattle.swarm.specs.Turns.{Joins, first, is_in, changed, turned, without}

-- the library's search for an id is whether it is in
pub any-is_in : (q : ℕ) (xs : List ℕ) → list_any (λ x. eqb x q) xs ≡ is_in q xs
unfolding is_in
any-is_in q = same_from_clauses (list_any (λ x. eqb x q)) (is_in q) (λ x b. eqb x q || b) refl (λ _ _. refl) (λ _ _. refl)

-- the first goes to the end
pub turned-parts : (xs : List ℕ) → drop 1 xs ++ take 1 xs ≡ turned xs
turned-parts [] = refl
turned-parts (x ∷ xs) = refl

-- whoever is left when one leaves is whoever another id has
pub without-kept : (q : ℕ) (xs : List ℕ) → filter (λ x. not (eqb x q)) xs ≡ without q xs
unfolding without
without-kept q [] = refl
without-kept q (x ∷ xs) = step (eqb x q) (filter (λ x. not (eqb x q)) xs) (without q xs) (without-kept q xs)
  where
    step : (b : Bool) (ks bs : List ℕ) → ks ≡ bs → cond (not b) (x ∷ ks) ks ≡ cond b bs (x ∷ bs)
    step true ks bs e = e
    step false ks bs e = ap (λ ys. x ∷ ys) e

without-more : (q : ℕ) (xs : List ℕ) (i : ℕ) → i < length xs → without q (take (i + 1) xs) ≡ without q (take i xs) ++ cond (not (eqb (get_or xs i 0) q)) (get_or xs i 0 ∷ []) []
without-more q xs i h =
    sym (without-kept q (take (i + 1) xs)) ∙ filter_more (λ x. not (eqb x q)) xs i 0 h ∙ ap (λ ys. ys ++ cond (not (eqb (get_or xs i 0) q)) (get_or xs i 0 ∷ []) []) (without-kept q (take i xs))

-- another id that is looked at is left
pub without-more_kept : (q : ℕ) (xs : List ℕ) (i : ℕ) → i < length xs → (get_or xs i 0 ≢ q) → without q (take (i + 1) xs) ≡ without q (take i xs) ++ get_or xs i 0 ∷ []
without-more_kept q xs i h e = let m = without-more q xs i h in grind (arith, nat_tests)

pub without-more_gone : (q : ℕ) (xs : List ℕ) (i : ℕ) → i < length xs → get_or xs i 0 ≡ q → without q (take (i + 1) xs) ≡ without q (take i xs)
without-more_gone q xs i h e = let m = without-more q xs i h in grind (arith, nat_tests, append-nil)

-- who is there changes nothing by joining
pub join_there : (q : ℕ) (xs : List ℕ) → is_in q xs ≡ true → changed (Joins q ∷ []) xs ≡ xs
unfolding changed
join_there q xs h = ap (λ b. cond b xs (xs ++ (q ∷ []))) h

-- who is not there joins at the end
pub join_new : (q : ℕ) (xs : List ℕ) → is_in q xs ≡ false → changed (Joins q ∷ []) xs ≡ xs ++ (q ∷ [])
unfolding changed
join_new q xs h = ap (λ b. cond b xs (xs ++ (q ∷ []))) h

-- the first of the ids that are there has the turn
pub first_front : (n : ℕ) (xs : List ℕ) → 0 < n → n ≤ length xs → get_or xs 0 0 ∷ [] ≡ first (take n xs)
unfolding first
first_front zero xs h l = absurd (omega arith)
first_front (suc n) [] h l = absurd (omega arith)
first_front (suc n) (x ∷ xs) h l = refl

-- where the ids that are there rotate by one, the row turns
pub turn_front : (n : ℕ) (xs ys zs : List ℕ) → length ys ≡ n → ys ≡ drop 1 (take n xs) ++ take 1 (take n xs) → take n (ys ++ zs) ≡ turned (take n xs)
turn_front n xs ys zs l e = take_at ys zs n l ∙ e ∙ turned-parts (take n xs)
