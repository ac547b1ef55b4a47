-- Whoever is in a row is in it when it is turned and when others join, and is not when it leaves; and so a row keeps to its length.
use Rattle.std.proofs.Common.{◌≡◌, ℕ, zero, suc, ◌<◌, ◌≤◌, Bool, true, false, cond, not, ◌&&◌, ◌||◌, eqb, ltb, List, [], ◌∷◌, ◌++◌, length, take, refl, arith, length-take}
use Rattle.std.proofs.lemmas.Bool.Decides.{nat_tests}
use Rattle.std.proofs.lemmas.List.{length_push, take_all}
use Rattle.swarm.specs.Turns.{Change, Joins, is_in, without, changed, turned, first}
use Rattle.swarm.specs.Code.{taken}
use Rattle.swarm.proofs.Taken.{after}

pub is_in-append : (q : ℕ) (xs ys : List ℕ) → is_in q (xs ++ ys) ≡ (is_in q xs || is_in q ys)
unfolding is_in
is_in-append q [] ys = refl
is_in-append q (x ∷ xs) ys = let e = is_in-append q xs ys in grind arith

pub is_in-turned : (q : ℕ) (row : List ℕ) → is_in q (turned row) ≡ is_in q row
unfolding is_in
is_in-turned q [] = refl
is_in-turned q (x ∷ xs) = let e = is_in-append q xs (x ∷ []) in grind arith

pub is_in-without : (q x : ℕ) (row : List ℕ) → is_in q (without x row) ≡ (not (eqb q x) && is_in q row)
unfolding is_in without
is_in-without q x [] = grind arith
is_in-without q x (y ∷ ys) = let e = is_in-without q x ys in grind (arith, nat_tests)

-- who isn't in a row isn't in its beginning
is_in-take : (q n : ℕ) (row : List ℕ) → is_in q row ≡ false → is_in q (take n row) ≡ false
unfolding is_in
is_in-take q zero row e = refl
is_in-take q (suc n) [] e = refl
is_in-take q (suc n) (x ∷ xs) e = let i = is_in-take q n xs in grind arith

pub is_in-first : (q : ℕ) (row : List ℕ) → is_in q (first row) ≡ true → is_in q row ≡ true
unfolding is_in first
is_in-first q [] e = e
is_in-first q (x ∷ xs) e = grind arith

pub length-turned : (row : List ℕ) → length (turned row) ≡ length row
length-turned [] = refl
length-turned (x ∷ xs) = let e = length_push xs x in omega arith

pub length_without : (x : ℕ) (row : List ℕ) → length (without x row) ≤ length row
unfolding without
length_without x [] = omega arith
length_without x (y ∷ ys) = let e = length_without x ys in grind arith

pub length-first : (row : List ℕ) → length (first row) ≤ 4
unfolding first
length-first [] = omega arith
length-first (x ∷ xs) = omega arith

-- the row after some came and left, while some were shut out
abbrev pub row_after : List ℕ → List Change → List ℕ → List ℕ
row_after shuts cs row = after (λ q. is_in q shuts) cs row

-- after one came it is as it was, or longer by one where there was room
joins-ways : (shuts : List ℕ) (x : ℕ) (row : List ℕ) → row_after shuts (Joins x ∷ []) row ≡ cond ((is_in x shuts || not (ltb (length row) 64)) || is_in x row) row (row ++ (x ∷ []))
unfolding changed taken
joins-ways shuts x row = grind arith

pub is_in-joins : (shuts : List ℕ) (x q : ℕ) (row : List ℕ) → is_in q row ≡ true → is_in q (row_after shuts (Joins x ∷ []) row) ≡ true
is_in-joins shuts x q row e = let w = joins-ways shuts x row in let a = is_in-append q row (x ∷ []) in grind arith

pub length-joins : (shuts : List ℕ) (x : ℕ) (row : List ℕ) → length row ≤ 64 → length (row_after shuts (Joins x ∷ []) row) ≤ 64
length-joins shuts x row few = let w = joins-ways shuts x row in let a = length_push row x in grind (arith, nat_tests)

-- the n newest of a row with one more before it, or the row itself
abbrev pub kept : Bool → ℕ → ℕ → List ℕ → List ℕ
kept as_is n q xs = cond as_is xs (take n (q ∷ xs))

pub length-kept : (as_is : Bool) (n q : ℕ) (xs : List ℕ) → length xs ≤ n → length (kept as_is n q xs) ≤ n
length-kept true n q xs few = few
length-kept false n q xs few = let e = length-take n (q ∷ xs) in omega arith

-- either way the one is in it then
pub is_in_kept_new : (n q : ℕ) (xs : List ℕ) (as_is : Bool) → 0 < n → as_is ≡ false → is_in q (kept (is_in q xs || as_is) n q xs) ≡ true
unfolding is_in
is_in_kept_new zero q xs as_is l e = absurd (omega arith)
is_in_kept_new (suc n) q xs as_is l e = grind arith

-- while there is room all stay
pub is_in-kept-stays : (as_is : Bool) (n q k : ℕ) (xs : List ℕ) → is_in k xs ≡ true → length xs < n → is_in k (kept as_is n q xs) ≡ true
unfolding is_in
is_in-kept-stays true n q k xs e l = e
is_in-kept-stays false n q k xs e l = rw (take_all n (q ∷ xs) l) (grind arith)

-- nobody else comes in
pub is_in_kept_others : (as_is : Bool) (n q k : ℕ) (xs : List ℕ) → (k ≡ q → ⊥) → is_in k xs ≡ false → is_in k (kept as_is n q xs) ≡ false
unfolding is_in
is_in_kept_others true n q k xs ne e = e
is_in_kept_others false n q k xs ne e = is_in-take k n (q ∷ xs) (grind (arith, nat_tests))
