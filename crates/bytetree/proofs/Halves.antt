-- A row of two or more is cut into a front and a back, both shorter and neither empty, and its root and its paths are made of theirs.
use Rattle.std.proofs.Common.{◌≡◌, ℕ, zero, suc, ◌+◌, ◌-◌, ◌*◌, ◌^◌, ◌<◌, ◌≤◌, cond, ltb, List, [], ◌∷◌, length, get_or, take, drop, refl, ap, ◌∙◌, le-mul_of_pos_right, arith, length-drop, length-take, get_or-drop, get_or-take, pow_pos}
use native.Mathlib.Nat.{pow-succ'}
use Rattle.std.proofs.lemmas.Bool.{cond_both, cond-true, cond-false, ltb-true, ltb-false, lt-ltb, le-ltb}
use Rattle.swarm.specs.Tree.{doubled, cut}
use Rattle.swarm.proofs.Cuts.{cut_between}
use Rattle.bytetree.specs.ByteTree.{node, root_f, root, path_f, path}

module _ {A : Type 0} where
  -- the first of a row, up to where it is cut
  abbrev pub front : List A → List A
  front xs = take (cut (length xs)) xs

  -- the rest of it
  abbrev pub back : List A → List A
  back xs = drop (cut (length xs)) xs

  -- The front is as long as the cut says.
  pub length_front : (xs : List A) → 1 < length xs → length (front xs) ≡ cut (length xs)
  length_front xs h = let c = cut_between (length xs) h in simp length-take (omega arith)

  -- The back has what is left.
  pub length_back : (xs : List A) → length (back xs) ≡ length xs - cut (length xs)
  length_back xs = length-drop (cut (length xs)) xs

  -- Each place before the cut is a place of the front.
  pub get_or_front : (xs : List A) (m : ℕ) (d : A) → m < cut (length xs) → get_or (front xs) m d ≡ get_or xs m d
  get_or_front xs m d h = get_or-take (cut (length xs)) xs m d h

  -- Each other place is a place of the back.
  pub get_or_back : (xs : List A) (m : ℕ) (d : A) → cut (length xs) ≤ m → get_or (back xs) (m - cut (length xs)) d ≡ get_or xs m d
  get_or_back xs m d h = let e : cut (length xs) + (m - cut (length xs)) ≡ m = omega arith in rw (get_or-drop, e)

  halves_shorter : (xs : List A) → 1 < length xs → (length (front xs) < length xs) × (length (back xs) < length xs)
  halves_shorter xs h = let c = cut_between (length xs) h in omega (arith, length_front xs h, length_back xs)

-- What holds of an empty row and of a row of one, and of a row if of its front and its back, holds of every row.
module _ {A : Type 0} (P : List A → Type 0) (none : P []) (one : (x : A) → P (x ∷ [])) (both : (xs : List A) → 1 < length xs → P (front xs) → P (back xs) → P xs) where
  by_length : (f : ℕ) (xs : List A) → length xs ≤ f → P xs
  by_length f [] h = none
  by_length f (x ∷ []) h = one x
  by_length zero (x ∷ (y ∷ ys)) h = absurd (omega arith)
  by_length (suc f) (x ∷ (y ∷ ys)) h =
      let xs : List A = x ∷ (y ∷ ys) in
      let two : 1 < length xs = omega arith in
      let s = halves_shorter xs two in
      both xs two (by_length f (front xs) (omega arith)) (by_length f (back xs) (omega arith))

  pub by_halves : (xs : List A) → P xs
  by_halves xs = by_length (length xs) xs (omega arith)

-- the fuel of g doesn't matter for this row, as long as it is no less than the row is long
abbrev FuelLasts : {A X : Type 0} → (ℕ → List A → X) → List A → Type 0
FuelLasts g xs = (e f : ℕ) → length xs ≤ e → length xs ≤ f → g e xs ≡ g f xs

-- What goes by halves does not depend on its fuel, as long as there is enough of it.
module _ {A X : Type 0} (g : ℕ → List A → X) (join : List A → X → X → X)
    (none : (f : ℕ) → g f [] ≡ g 0 []) (one : (f : ℕ) (x : A) → g (suc f) (x ∷ []) ≡ g 1 (x ∷ []))
    (more : (f : ℕ) (x y : A) (ys : List A) → let xs : List A = x ∷ (y ∷ ys) in g (suc f) xs ≡ join xs (g f (front xs)) (g f (back xs))) where
  both : (f : ℕ) (xs : List A) → 1 < length xs → g (suc f) xs ≡ join xs (g f (front xs)) (g f (back xs))
  both f [] two = absurd (omega arith)
  both f (x ∷ []) two = absurd (omega arith)
  both f (x ∷ (y ∷ ys)) two = more f x y ys

  fuel_lasts : (xs : List A) → FuelLasts g xs
  fuel_lasts = by_halves (FuelLasts g) (λ e f _ _. cc (none e, none f)) on_one on_both
    where
      on_one : (x : A) → FuelLasts g (x ∷ [])
      on_one x zero f h k = absurd (omega arith)
      on_one x (suc e) zero h k = absurd (omega arith)
      on_one x (suc e) (suc f) h k = cc (one e x, one f x)

      on_both : (xs : List A) → 1 < length xs → FuelLasts g (front xs) → FuelLasts g (back xs) → FuelLasts g xs
      on_both xs two a b zero f h k = absurd (omega arith)
      on_both xs two a b (suc e) zero h k = absurd (omega arith)
      on_both xs two a b (suc e) (suc f) h k =
          let s = halves_shorter xs two in
          cc (both e xs two, both f xs two, a e f (omega arith) (omega arith), b e f (omega arith) (omega arith))

  -- With fuel for the whole row it is made of what it is with fuel for each half.
  pub of_halves : (xs : List A) → 1 < length xs → g (length xs) xs ≡ join xs (g (length (front xs)) (front xs)) (g (length (back xs)) (back xs))
  of_halves xs two =
      let s = halves_shorter xs two in
      let n = length xs in
      cc (
        fuel_lasts xs n (suc n) (omega arith) (omega arith),
        both n xs two,
        fuel_lasts (front xs) n (length (front xs)) (omega arith) (omega arith),
        fuel_lasts (back xs) n (length (back xs)) (omega arith) (omega arith),
      )

-- The root over one digest is that digest.
pub root_one : (d : List ℕ) → root (d ∷ []) ≡ d
unfolding root_f
root_one d = refl

-- The root over two or more is the node of the roots of the front and the back.
pub root_of_halves : (ds : List (List ℕ)) → 1 < length ds → root ds ≡ node (root (take (cut (length ds)) ds)) (root (drop (cut (length ds)) ds))
unfolding root_f
root_of_halves = of_halves root_f (λ _. node) (elim [ zero ↦ refl | suc f ↦ refl ]) (λ f x. refl) (λ f x y ys. refl)

-- the path of a place of this row, from the paths of the places of its front and of its back
abbrev path_over : List (List ℕ) → (ℕ → List (List ℕ)) → (ℕ → List (List ℕ)) → ℕ → List (List ℕ)
path_over ds a b m = cond (ltb m (cut (length ds))) (root (back ds) ∷ a m) (root (front ds) ∷ b (m - cut (length ds)))

path_of_halves : (m : ℕ) (ds : List (List ℕ)) → 1 < length ds → path m ds ≡ path_over ds (λ i. path i (front ds)) (λ i. path i (back ds)) m
unfolding path_f
path_of_halves m ds two = ap (λ w. w m) (of_halves (λ f ds i. path_f f i ds) path_over (elim [ zero ↦ refl | suc f ↦ refl ]) (λ f x. refl) (λ f x y ys. refl) ds two)

-- The path of the one place of a row of one is empty.
pub path_one : (m : ℕ) (d : List ℕ) → path m (d ∷ []) ≡ []
unfolding path_f
path_one m d = refl

-- The path of a place in the front has the root of the back first.
pub path_in_front : (m : ℕ) (ds : List (List ℕ)) → 1 < length ds → m < cut (length ds) → path m ds ≡ root (drop (cut (length ds)) ds) ∷ path m (take (cut (length ds)) ds)
path_in_front m ds two h = path_of_halves m ds two ∙ cond-true _ _ _ (lt-ltb m (cut (length ds)) h)

-- The path of a place in the back has the root of the front first.
pub path_in_back : (m : ℕ) (ds : List (List ℕ)) → 1 < length ds → cut (length ds) ≤ m → path m ds ≡ root (take (cut (length ds)) ds) ∷ path (m - cut (length ds)) (drop (cut (length ds)) ds)
path_in_back m ds two h = path_of_halves m ds two ∙ cond-false _ _ _ (le-ltb m (cut (length ds)) h)

twice_as : (k d : ℕ) → k * 2 ^ suc d ≡ (k + k) * 2 ^ d
twice_as k d = rw pow-succ' (omega arith)

-- From k on, doubled d times at most, one comes to no less than half of n, if n is no more than k doubled once more.
doubled_half : (f d k n : ℕ) → 0 < k → k < n → n ≤ k * 2 ^ suc d → n ≤ f + k → (doubled f k n ≤ k * 2 ^ d) × (n ≤ doubled f k n + doubled f k n)
unfolding doubled
doubled_half zero d k n p l u e = absurd (omega arith)
doubled_half (suc f) zero k n p l u e = rw (cond-false (ltb (k + k) n) _ _ (le-ltb (k + k) n (omega arith))) (omega arith)
doubled_half (suc f) (suc d) k n p l u e =
    cond_both (ltb (k + k) n) (doubled f (k + k) n) k (λ c. (c ≤ k * 2 ^ suc d) × (n ≤ c + c))
    (λ t. rw twice_as (doubled_half f d (k + k) n (omega arith) (ltb-true (k + k) n t) (rw (← twice_as) u) (omega arith)))
    (λ t. (le-mul_of_pos_right k (pow_pos (suc d)), ltb-false (k + k) n t))

-- A row of at most 2 ^ suc k is cut into two of at most 2 ^ k.
pub cut_half : (n k : ℕ) → 1 < n → n ≤ 2 ^ suc k → (cut n ≤ 2 ^ k) × (n - cut n ≤ 2 ^ k)
cut_half n k two h = omega (arith, doubled_half n k 1 n (omega arith) two (omega arith) (omega arith))
