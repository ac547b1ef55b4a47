-- The path of a place leads to the root and is short, and roots, paths and what paths lead to are the images of those of terms.
use Rattle.std.proofs.Common.{◌≡◌, ℕ, zero, suc, ◌-◌, ◌^◌, ◌<◌, ◌≤◌, ◌⊎◌, List, [], ◌∷◌, map, length, get_or, take, drop, Some, refl, ap, inl, inr, arith}
use Rattle.std.proofs.lemmas.Bool.{cases_lt}
use Rattle.std.proofs.lemmas.Bool.Decides.{nat_tests}
use Rattle.std.proofs.lemmas.List.{length-map}
use Rattle.swarm.specs.Tree
use Rattle.swarm.specs.Tree.{Dig, Leaf, Maybe, Is, left_of, right_of, leads, cut, top_f, top, way_f, way}
use Rattle.swarm.proofs.Cuts
use Rattle.bytetree.specs.ByteTree.{leaf, root_f, root, path_f, path, beside_right, beside_left, folds}
use Rattle.bytetree.specs.Image.{PathLeads, PathShort, ImageOfTerms, image, image_of}
use Rattle.bytetree.proofs.Halves.{front, back, length_front, length_back, get_or_front, get_or_back, by_halves, root_of_halves, path_in_front, path_in_back, cut_half}

-- A path from a place in the front leads to what it leads to there, beside its first digest.
pub folds_in_front : (n m : ℕ) (d p : List ℕ) (ps : List (List ℕ)) → 1 < n → m < cut n → folds n m d (p ∷ ps) ≡ beside_right p (folds (cut n) m d ps)
unfolding folds
folds_in_front n m d p ps h k = grind (arith, nat_tests)

-- A path from a place in the back likewise, its first digest on the left.
pub folds_in_back : (n m : ℕ) (d p : List ℕ) (ps : List (List ℕ)) → 1 < n → cut n ≤ m → folds n m d (p ∷ ps) ≡ beside_left p (folds (n - cut n) (m - cut n) d ps)
unfolding folds
folds_in_back n m d p ps h k = grind (arith, nat_tests)

-- what stands at each place of this row is led to the root by the path of that place
abbrev EachLeads : List (List ℕ) → Type 0
EachLeads ds = (m : ℕ) → m < length ds → folds (length ds) m (get_or ds m []) (path m ds) ≡ Some (root ds)

each_in_one : (d : List ℕ) → EachLeads (d ∷ [])
unfolding folds root_f path_f
each_in_one d zero h = refl
each_in_one d (suc m) h = absurd (omega arith)

each_in_both : (ds : List (List ℕ)) → 1 < length ds → EachLeads (front ds) → EachLeads (back ds) → EachLeads ds
each_in_both ds two a b m k = go (cases_lt m (cut (length ds)))
  where
    go : (m < cut (length ds)) ⊎ (cut (length ds) ≤ m) → folds (length ds) m (get_or ds m []) (path m ds) ≡ Some (root ds)
    go (inl h) = cc (
      path_in_front m ds two h,
      folds_in_front (length ds) m (get_or ds m []) (root (back ds)) (path m (front ds)) two h,
      a m (omega (arith, length_front ds two)),
      length_front ds two,
      get_or_front ds m [] h,
      root_of_halves ds two,
    )
    go (inr h) = cc (
      path_in_back m ds two h,
      folds_in_back (length ds) m (get_or ds m []) (root (front ds)) (path (m - cut (length ds)) (back ds)) two h,
      b (m - cut (length ds)) (omega (arith, length_back ds)),
      length_back ds,
      get_or_back ds m [] h,
      root_of_halves ds two,
    )

-- The path of a place leads from what stands there to the root.
pub path-leads : PathLeads
path-leads m ds = by_halves EachLeads (λ m h. absurd (omega arith)) each_in_one each_in_both ds m

-- the path of each place of this row is no longer than k, if the row is no longer than 2 ^ k
abbrev EachShort : List (List ℕ) → Type 0
EachShort ds = (k m : ℕ) → length ds ≤ 2 ^ k → length (path m ds) ≤ k

short_in_none : EachShort []
unfolding path_f
short_in_none k m h = omega arith

short_in_one : (d : List ℕ) → EachShort (d ∷ [])
unfolding path_f
short_in_one d k m h = omega arith

short_in_both : (ds : List (List ℕ)) → 1 < length ds → EachShort (front ds) → EachShort (back ds) → EachShort ds
short_in_both ds two a b zero m h = absurd (omega arith)
short_in_both ds two a b (suc k) m h = go (cases_lt m (cut (length ds)))
  where
    go : (m < cut (length ds)) ⊎ (cut (length ds) ≤ m) → length (path m ds) ≤ suc k
    go (inl l) = let c = cut_half (length ds) k two h in rw (path_in_front m ds two l) (omega (arith, a k m (omega (arith, length_front ds two))))
    go (inr l) = let c = cut_half (length ds) k two h in rw (path_in_back m ds two l) (omega (arith, b k (m - cut (length ds)) (omega (arith, length_back ds))))

-- The path of a row of at most 2 ^ k is no longer than k.
pub path-short : PathShort
path-short k m ds = by_halves EachShort short_in_none short_in_one short_in_both ds k m

module _ (f : ℕ → List ℕ) where
  abbrev leaf_of : ℕ → List ℕ
  leaf_of x = leaf (f x)

  map-take : (k : ℕ) (xs : List ℕ) → take k (map leaf_of xs) ≡ map leaf_of (Tree.take k xs)
  unfolding Tree.take
  map-take zero xs = refl
  map-take (suc k) [] = refl
  map-take (suc k) (x ∷ xs) = ap {B = List (List ℕ)} (λ r. leaf_of x ∷ r) (map-take k xs)

  map-drop : (k : ℕ) (xs : List ℕ) → drop k (map leaf_of xs) ≡ map leaf_of (Tree.drop k xs)
  unfolding Tree.drop
  map-drop zero xs = refl
  map-drop (suc k) [] = refl
  map-drop (suc k) (x ∷ xs) = map-drop k xs

  map_front : (xs : List ℕ) → front (map leaf_of xs) ≡ map leaf_of (Cuts.front xs)
  map_front xs = rw length-map (map-take (cut (length xs)) xs)

  map_back : (xs : List ℕ) → back (map leaf_of xs) ≡ map leaf_of (Cuts.back xs)
  map_back xs = rw length-map (map-drop (cut (length xs)) xs)

  two_leaves : (xs : List ℕ) → 1 < length xs → 1 < length (map leaf_of xs)
  two_leaves xs two = rw length-map two

  abbrev RootImage : List ℕ → Type 0
  RootImage xs = root (map leaf_of xs) ≡ image f (top xs)

  root-both : (xs : List ℕ) → 1 < length xs → RootImage (Cuts.front xs) → RootImage (Cuts.back xs) → RootImage xs
  unfolding image
  root-both xs two a b = cc (root_of_halves (map leaf_of xs) (two_leaves xs two), map_front xs, map_back xs, Cuts.top_of_halves xs two)

  root-image : (xs : List ℕ) → RootImage xs
  unfolding root_f top_f image
  root-image = Cuts.by_halves RootImage refl (λ x. refl) root-both

  abbrev PathImage : List ℕ → Type 0
  PathImage xs = (m : ℕ) → path m (map leaf_of xs) ≡ map (image f) (way m xs)

  path-both : (xs : List ℕ) → 1 < length xs → PathImage (Cuts.front xs) → PathImage (Cuts.back xs) → PathImage xs
  path-both xs two a b m = go (cases_lt m (cut (length xs)))
    where
      go : (m < cut (length xs)) ⊎ (cut (length xs) ≤ m) → path m (map leaf_of xs) ≡ map (image f) (way m xs)
      go (inl h) = cc (
        path_in_front m (map leaf_of xs) (two_leaves xs two) (rw length-map h),
        map_front xs,
        map_back xs,
        root-image (Cuts.back xs),
        a m,
        Cuts.way_in_front m xs two h,
      )
      go (inr h) = cc (
        path_in_back m (map leaf_of xs) (two_leaves xs two) (rw length-map h),
        length-map xs leaf_of,
        map_front xs,
        map_back xs,
        root-image (Cuts.front xs),
        b (m - cut (length xs)),
        Cuts.way_in_back m xs two h,
      )

  path-image : (xs : List ℕ) → PathImage xs
  unfolding path_f way_f
  path-image = Cuts.by_halves PathImage (λ m. refl) (λ x m. refl) path-both

  right-image : (p : Dig) (o : Maybe) → beside_right (image f p) (image_of f o) ≡ image_of f (left_of p o)
  unfolding image
  right-image p Tree.None = refl
  right-image p (Is d) = refl

  left_image : (p : Dig) (o : Maybe) → beside_left (image f p) (image_of f o) ≡ image_of f (right_of p o)
  unfolding image
  left_image p Tree.None = refl
  left_image p (Is d) = refl

  folds-image : (n m x : ℕ) (ps : List Dig) → folds n m (leaf_of x) (map (image f) ps) ≡ image_of f (leads n m (Leaf x) ps)
  unfolding folds leads image
  folds-image n m x [] = grind (arith, nat_tests)
  folds-image n m x (p ∷ ps) = grind (arith, nat_tests, folds-image (cut n) m x ps, folds-image (n - cut n) (m - cut n) x ps, right-image, left_image)

-- Roots, paths and what paths lead to are the images of those of terms.
pub image_of_terms : ImageOfTerms
image_of_terms = record { of_root = root-image; of_path = λ f m xs. path-image f xs m; of_folds = folds-image }
