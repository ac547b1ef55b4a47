-- A way leads from a piece to the top just if the piece is the one at that place and the way is that place's own.
use Rattle.std.proofs.Common.{◌≡◌, ℕ, zero, suc, ◌-◌, ◌<◌, ◌≤◌, ◌⊎◌, List, [], ◌∷◌, length, get_or, sym, refl, ap, ◌∙◌, inl, inr, arith}
use Rattle.std.proofs.lemmas.Bool.{cases_lt}
use Rattle.std.proofs.lemmas.Bool.Decides.{nat_tests}
use Rattle.swarm.specs.Tree.{Dig, Leaf, Node, cut, top_f, top, way_f, way, Maybe, None, Is, left_of, right_of, leads}
use Rattle.swarm.specs.Promise.{WayExact}
use Rattle.swarm.specs.Levels.{WayUnique}
use Rattle.swarm.proofs.Cuts.{cut_between, front, back, length_front, length_back, get_or_front, get_or_back, by_halves, top_of_halves, way_in_front, way_in_back}

leads_in_front : (n m : ℕ) (d p : Dig) (ps : List Dig) → 1 < n → m < cut n → leads n m d (p ∷ ps) ≡ left_of p (leads (cut n) m d ps)
unfolding leads
leads_in_front n m d p ps h k = grind (arith, nat_tests)

leads_in_back : (n m : ℕ) (d p : Dig) (ps : List Dig) → 1 < n → cut n ≤ m → leads n m d (p ∷ ps) ≡ right_of p (leads (n - cut n) (m - cut n) d ps)
unfolding leads
leads_in_back n m d p ps h k = grind (arith, nat_tests)

-- An empty way leads from the one piece of a row of one to itself.
empty_leads : (n m : ℕ) (d c : Dig) → leads n m d [] ≡ Is c → (n ≡ 1) × (m ≡ 0) × (d ≡ c)
unfolding leads
empty_leads n m d c e = (grind (arith, nat_tests), grind (arith, nat_tests), grind (arith, nat_tests))

-- Any other leads only where there are two pieces or more.
other_leads : (n m : ℕ) (d p c : Dig) (ps : List Dig) → leads n m d (p ∷ ps) ≡ Is c → 1 < n
unfolding leads
other_leads n m d p c ps e = grind (arith, nat_tests)

none_is_not : (d : Dig) → None ≡ Is d → ⊥
none_is_not d e = let z : ◌≡◌ {A = ℕ} 0 1 = cc in omega arith

left_of_made_of : (o : Maybe) (p a b : Dig) → left_of p o ≡ Is (Node a b) → (o ≡ Is a) × (p ≡ b)
left_of_made_of None p a b e = absurd (none_is_not (Node a b) e)
left_of_made_of (Is d) p a b e = (cc, cc)

right_of_made_of : (o : Maybe) (p a b : Dig) → right_of p o ≡ Is (Node a b) → (o ≡ Is b) × (p ≡ a)
right_of_made_of None p a b e = absurd (none_is_not (Node a b) e)
right_of_made_of (Is d) p a b e = (cc, cc)

-- whatever leads to the top of this row is the piece at that place, by the way of that place
abbrev OnlyItsOwn : List ℕ → Type 0
OnlyItsOwn xs = (m x : ℕ) (ps : List Dig) → leads (length xs) m (Leaf x) ps ≡ Is (top xs) → (m < length xs) × (get_or xs m (suc x) ≡ x) × (ps ≡ way m xs)

only_in_none : OnlyItsOwn []
only_in_none m x [] e = absurd (omega (arith, empty_leads _ _ _ _ e))
only_in_none m x (p ∷ ps) e = absurd (omega (arith, other_leads _ _ _ _ _ ps e))

only_in_one : (y : ℕ) → OnlyItsOwn (y ∷ [])
unfolding top_f way_f
only_in_one y m x [] e = let z = empty_leads _ _ _ _ e in (omega arith, (cc), refl)
only_in_one y m x (p ∷ ps) e = absurd (omega (arith, other_leads _ _ _ _ _ ps e))

only_in_both : (xs : List ℕ) → 1 < length xs → OnlyItsOwn (front xs) → OnlyItsOwn (back xs) → OnlyItsOwn xs
only_in_both xs two a b m x [] e = absurd (omega (arith, empty_leads _ _ _ _ e))
only_in_both xs two a b m x (p ∷ ps) e = go (cases_lt m (cut (length xs)))
  where
    whole : leads (length xs) m (Leaf x) (p ∷ ps) ≡ Is (Node (top (front xs)) (top (back xs)))
    whole = e ∙ ap Is (top_of_halves xs two)

    go : (m < cut (length xs)) ⊎ (cut (length xs) ≤ m) → (m < length xs) × (get_or xs m (suc x) ≡ x) × (p ∷ ps ≡ way m xs)
    go (inl h) =
        let c = cut_between (length xs) two in
        let l = left_of_made_of _ p _ _ (sym (leads_in_front (length xs) m (Leaf x) p ps two h) ∙ whole) in
        let i = a m x ps (ap (λ k. leads k m (Leaf x) ps) (length_front xs two) ∙ l.0) in
        (omega (arith, length_front xs two), sym (get_or_front xs m (suc x) h) ∙ i.1, cc (way_in_front m xs two h))
    go (inr h) =
        let c = cut_between (length xs) two in
        let r = right_of_made_of _ p _ _ (sym (leads_in_back (length xs) m (Leaf x) p ps two h) ∙ whole) in
        let i = b (m - cut (length xs)) x ps (ap (λ k. leads k (m - cut (length xs)) (Leaf x) ps) (length_back xs) ∙ r.0) in
        (omega (arith, length_back xs), sym (get_or_back xs m (suc x) h) ∙ i.1, cc (way_in_back m xs two h))

only_its_own : (xs : List ℕ) → OnlyItsOwn xs
only_its_own = by_halves OnlyItsOwn only_in_none only_in_one only_in_both

-- the piece at each place of this row is led to the top by the way of that place
abbrev EachItsOwn : List ℕ → Type 0
EachItsOwn xs = (m d : ℕ) → m < length xs → leads (length xs) m (Leaf (get_or xs m d)) (way m xs) ≡ Is (top xs)

each_in_none : EachItsOwn []
each_in_none m d h = absurd (omega arith)

each_in_one : (y : ℕ) → EachItsOwn (y ∷ [])
unfolding leads top_f way_f
each_in_one y zero d h = refl
each_in_one y (suc m) d h = absurd (omega arith)

each_in_both : (xs : List ℕ) → 1 < length xs → EachItsOwn (front xs) → EachItsOwn (back xs) → EachItsOwn xs
each_in_both xs two a b m d k = go (cases_lt m (cut (length xs)))
  where
    go : (m < cut (length xs)) ⊎ (cut (length xs) ≤ m) → leads (length xs) m (Leaf (get_or xs m d)) (way m xs) ≡ Is (top xs)
    go (inl h) = cc (
      way_in_front m xs two h,
      leads_in_front (length xs) m (Leaf (get_or xs m d)) (top (back xs)) (way m (front xs)) two h,
      a m d (omega (arith, length_front xs two)),
      length_front xs two,
      get_or_front xs m d h,
      top_of_halves xs two,
    )
    go (inr h) = cc (
      way_in_back m xs two h,
      leads_in_back (length xs) m (Leaf (get_or xs m d)) (top (front xs)) (way (m - cut (length xs)) (back xs)) two h,
      b (m - cut (length xs)) d (omega (arith, length_back xs)),
      length_back xs,
      get_or_back xs m d h,
      top_of_halves xs two,
    )

each_its_own : (xs : List ℕ) → EachItsOwn xs
each_its_own = by_halves EachItsOwn each_in_none each_in_one each_in_both

pub way_exact : WayExact
way_exact = (λ xs m x ps e. let o = only_its_own xs m x ps e in (o.0, o.1), each_its_own)

pub way_unique : WayUnique
way_unique xs m x ps e = (only_its_own xs m x ps e).2
