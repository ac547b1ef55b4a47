-- A row of two or more is cut into a front and a back, both shorter and neither empty, and its digest and its ways are made of theirs.
use Rattle.std.proofs.Common.{◌≡◌, ℕ, zero, suc, ◌+◌, ◌-◌, ◌<◌, ◌≤◌, cond, ltb, List, [], ◌∷◌, length, get_or, refl, ap, ◌∙◌, arith, length-drop, length-take, get_or-drop, get_or-take}
use lib.ListN
use Rattle.std.proofs.lemmas.Bool.{cond_both, cond-true, cond-false, ltb-true, lt-ltb, le-ltb}
use Rattle.swarm.specs.Tree.{Dig, Node, take, drop, doubled, cut, top_f, top, way_f, way}

take-is-take : (k : ℕ) (xs : List ℕ) → take k xs ≡ ListN.take k xs
unfolding take
take-is-take zero xs = refl
take-is-take (suc k) [] = refl
take-is-take (suc k) (x ∷ xs) = ap {B = List ℕ} (λ r. x ∷ r) (take-is-take k xs)

drop-is-drop : (k : ℕ) (xs : List ℕ) → drop k xs ≡ ListN.drop k xs
unfolding drop
drop-is-drop zero xs = refl
drop-is-drop (suc k) [] = refl
drop-is-drop (suc k) (x ∷ xs) = drop-is-drop k xs

doubled_between : (f k n : ℕ) → 0 < k → k < n → (0 < doubled f k n) × (doubled f k n < n)
unfolding doubled
doubled_between zero k n p h = (p, h)
doubled_between (suc f) k n p h =
    cond_both (ltb (k + k) n) (doubled f (k + k) n) k (λ c. (0 < c) × (c < n)) (λ e. doubled_between f (k + k) n (omega arith) (ltb-true (k + k) n e)) (λ _. (p, h))

-- A row of two or more is cut after its first piece and before its end.
pub cut_between : (n : ℕ) → 1 < n → (0 < cut n) × (cut n < n)
cut_between n h = doubled_between n 1 n (omega arith) h

abbrev pub front : List ℕ → List ℕ
front xs = take (cut (length xs)) xs

abbrev pub back : List ℕ → List ℕ
back xs = drop (cut (length xs)) xs

pub length_front : (xs : List ℕ) → 1 < length xs → length (front xs) ≡ cut (length xs)
length_front xs h = let c = cut_between (length xs) h in rw take-is-take (simp length-take (omega arith))

pub length_back : (xs : List ℕ) → length (back xs) ≡ length xs - cut (length xs)
length_back xs = rw drop-is-drop (length-drop (cut (length xs)) xs)

pub get_or_front : (xs : List ℕ) (m d : ℕ) → m < cut (length xs) → get_or (front xs) m d ≡ get_or xs m d
get_or_front xs m d h = rw take-is-take (get_or-take (cut (length xs)) xs m d h)

pub get_or_back : (xs : List ℕ) (m d : ℕ) → cut (length xs) ≤ m → get_or (back xs) (m - cut (length xs)) d ≡ get_or xs m d
get_or_back xs m d h = let e : cut (length xs) + (m - cut (length xs)) ≡ m = omega arith in rw (drop-is-drop, get_or-drop, e)

halves_shorter : (xs : List ℕ) → 1 < length xs → (length (front xs) < length xs) × (length (back xs) < length xs)
halves_shorter xs h = let c = cut_between (length xs) h in omega (arith, length_front xs h, length_back xs)

-- What holds of no piece and of one, and of a row if of its front and its back, holds of every row.
module _ (P : List ℕ → Type 0) (none : P []) (one : (x : ℕ) → P (x ∷ [])) (both : (xs : List ℕ) → 1 < length xs → P (front xs) → P (back xs) → P xs) where
  by_length : (f : ℕ) (xs : List ℕ) → length xs ≤ f → P xs
  by_length f [] h = none
  by_length f (x ∷ []) h = one x
  by_length zero (x ∷ (y ∷ ys)) h = absurd (omega arith)
  by_length (suc f) (x ∷ (y ∷ ys)) h =
      let xs : List ℕ = x ∷ (y ∷ ys) in
      let two : 1 < length xs = omega arith in
      let s = halves_shorter xs two in
      both xs two (by_length f (front xs) (omega arith)) (by_length f (back xs) (omega arith))

  pub by_halves : (xs : List ℕ) → P xs
  by_halves xs = by_length (length xs) xs (omega arith)

-- the fuel of g doesn't matter for this row, as long as it is no less than the row is long
abbrev FuelLasts : {X : Type 0} → (ℕ → List ℕ → X) → List ℕ → Type 0
FuelLasts g xs = (e f : ℕ) → length xs ≤ e → length xs ≤ f → g e xs ≡ g f xs

-- Whatever goes by halves while its fuel lasts is, with fuel for the whole row, made of what it is with fuel for each half.
module _ {X : Type 0} (g : ℕ → List ℕ → X) (join : List ℕ → X → X → X)
    (none : (f : ℕ) → g f [] ≡ g 0 []) (one : (f x : ℕ) → g (suc f) (x ∷ []) ≡ g 1 (x ∷ []))
    (more : (f x y : ℕ) (ys : List ℕ) → let xs : List ℕ = x ∷ (y ∷ ys) in g (suc f) xs ≡ join xs (g f (front xs)) (g f (back xs))) where
  both : (f : ℕ) (xs : List ℕ) → 1 < length xs → g (suc f) xs ≡ join xs (g f (front xs)) (g f (back xs))
  both f [] two = absurd (omega arith)
  both f (x ∷ []) two = absurd (omega arith)
  both f (x ∷ (y ∷ ys)) two = more f x y ys

  fuel_lasts : (xs : List ℕ) → FuelLasts g xs
  fuel_lasts = by_halves (FuelLasts g) (λ e f _ _. cc (none e, none f)) on_one on_both
    where
      on_one : (x : ℕ) → FuelLasts g (x ∷ [])
      on_one x zero f h k = absurd (omega arith)
      on_one x (suc e) zero h k = absurd (omega arith)
      on_one x (suc e) (suc f) h k = cc (one e x, one f x)

      on_both : (xs : List ℕ) → 1 < length xs → FuelLasts g (front xs) → FuelLasts g (back xs) → FuelLasts g xs
      on_both xs two a b zero f h k = absurd (omega arith)
      on_both xs two a b (suc e) zero h k = absurd (omega arith)
      on_both xs two a b (suc e) (suc f) h k =
          let s = halves_shorter xs two in
          cc (both e xs two, both f xs two, a e f (omega arith) (omega arith), b e f (omega arith) (omega arith))

  pub of_halves : (xs : List ℕ) → 1 < length xs → g (length xs) xs ≡ join xs (g (length (front xs)) (front xs)) (g (length (back xs)) (back xs))
  of_halves xs two =
      let s = halves_shorter xs two in
      let n = length xs in
      cc (
        fuel_lasts xs n (suc n) (omega arith) (omega arith),
        both n xs two,
        fuel_lasts (front xs) n (length (front xs)) (omega arith) (omega arith),
        fuel_lasts (back xs) n (length (back xs)) (omega arith) (omega arith),
      )

pub top_of_halves : (xs : List ℕ) → 1 < length xs → top xs ≡ Node (top (front xs)) (top (back xs))
unfolding top_f
top_of_halves = of_halves top_f (λ _. Node) (elim [ zero ↦ refl | suc f ↦ refl ]) (λ f x. refl) (λ f x y ys. refl)

-- the way of a place of this row, from the ways of the places of its front and of its back
abbrev way_over : List ℕ → (ℕ → List Dig) → (ℕ → List Dig) → ℕ → List Dig
way_over xs a b m = cond (ltb m (cut (length xs))) (top (back xs) ∷ a m) (top (front xs) ∷ b (m - cut (length xs)))

way_of_halves : (m : ℕ) (xs : List ℕ) → 1 < length xs → way m xs ≡ way_over xs (λ i. way i (front xs)) (λ i. way i (back xs)) m
unfolding way_f
way_of_halves m xs two = ap (λ w. w m) (of_halves (λ f xs i. way_f f i xs) way_over (elim [ zero ↦ refl | suc f ↦ refl ]) (λ f x. refl) (λ f x y ys. refl) xs two)

pub way_in_front : (m : ℕ) (xs : List ℕ) → 1 < length xs → m < cut (length xs) → way m xs ≡ top (back xs) ∷ way m (front xs)
way_in_front m xs two h = way_of_halves m xs two ∙ cond-true _ _ _ (lt-ltb m (cut (length xs)) h)

pub way_in_back : (m : ℕ) (xs : List ℕ) → 1 < length xs → cut (length xs) ≤ m → way m xs ≡ top (front xs) ∷ way (m - cut (length xs)) (back xs)
way_in_back m xs two h = way_of_halves m xs two ∙ cond-false _ _ _ (le-ltb m (cut (length xs)) h)
