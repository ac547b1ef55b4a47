-- What is put into its place in a list keeps the list's order, and loses nothing of it.
use Rattle.std.proofs.Common.{◌≡◌, ℕ, zero, suc, ◌+◌, ◌-◌, ◌<◌, ◌≤◌, Bool, true, false, not, ◌⊎◌, inl, inr, eqb, ltb, List, [], ◌∷◌, length, get_or, take, drop, refl, sym, ap, ◌∙◌, subst, subst₂, ⊎_elim, arith}
use Rattle.script.specs.Sheets.{known, place, number_of, tick_of}
use Rattle.script.specs.Sound.{Ordered}
use Rattle.script.specs.declared.sheet.Event.{Event}
use Rattle.script.specs.declared.sheet.Peer.{Peer}
use Rattle.std.proofs.ByRecursion.{All-append, All-take, All-drop, All-weaker, all_from_every, every_from_all}
use Rattle.std.proofs.lemmas.Bool.{ltb-true, ltb-false, eqb-true, eqb-false, or_cases, or_parts, or_left, or_right, false≢true}
use Rattle.std.proofs.lemmas.Bool.Decides.{nat_tests}
use Rattle.std.proofs.lemmas.List.Edits.{length-insert, get_or-insert_below, get_or-insert_at, get_or-insert_above}
use Rattle.std.proofs.lemmas.List.Sums.{prefix_len-le-length, prefix_len_passes, prefix_len_stops}
use Rattle.std.specs.List.{insert, AllByRecursion}

tri : (m n : ℕ) → (m < n) ⊎ ((m ≡ n) ⊎ (n < m))
tri m n = go (ltb m n) refl (eqb m n) refl
  where
    go : (b : Bool) → ltb m n ≡ b → (e : Bool) → eqb m n ≡ e → (m < n) ⊎ ((m ≡ n) ⊎ (n < m))
    go true h e k = inl (ltb-true m n h)
    go false h true k = inr (inl (eqb-true m n k))
    go false h false k = let most = ltb-false m n h in let apart = eqb-false m n k in inr (inr (omega arith))

module _ {X : Type 0} where
  pub all_inserted : (P : X → Type 0) (xs : List X) (i : ℕ) (x : X) → AllByRecursion P xs → P x → AllByRecursion P (insert xs i x)
  all_inserted P xs i x h p = All-append P (take i xs) (x ∷ drop i xs) (All-take P i xs h) (p, All-drop P i xs h)

  -- what is put where R holds to it from all before, and from it to all behind, keeps all pairs in R
  pairs_inserted : (R : X → X → Type 0) (xs : List X) (i : ℕ) (x : X) → i ≤ length xs → Ordered R xs → ((k : ℕ) (d : X) → k < i → R (get_or xs k d) x) →
      ((k : ℕ) (d : X) → i ≤ k → k < length xs → R x (get_or xs k d)) → Ordered R (insert xs i x)
  pairs_inserted R xs i x within pairs low high a b d ab bl = go (tri a i) (tri b i)
    where
      new : List X
      new = insert xs i x

      grown : length new ≡ length xs + 1
      grown = length-insert xs i x within

      under : (k : ℕ) → k < i → get_or new k d ≡ get_or xs k d
      under k l = get_or-insert_below xs i x d k l within

      here : (k : ℕ) → k ≡ i → get_or new k d ≡ x
      here k e = ap (λ k. get_or new k d) e ∙ get_or-insert_at xs i x d within

      over : (k : ℕ) → i < k → get_or new k d ≡ get_or xs (k - 1) d
      over k l = subst (λ q. get_or new q d ≡ get_or xs (k - 1) d) {x = k - 1 + 1} (omega arith) (get_or-insert_above xs i x d (k - 1) (omega arith) within)

      go : (a < i) ⊎ ((a ≡ i) ⊎ (i < a)) → (b < i) ⊎ ((b ≡ i) ⊎ (i < b)) → R (get_or new a d) (get_or new b d)
      go (inl al) (inl bl') = subst₂ R (sym (under a al)) (sym (under b bl')) (pairs a b d ab (omega arith))
      go (inl al) (inr (inl be)) = subst₂ R (sym (under a al)) (sym (here b be)) (low a d al)
      go (inl al) (inr (inr bm)) = subst₂ R (sym (under a al)) (sym (over b bm)) (pairs a (b - 1) d (omega arith) (omega (arith, grown)))
      go (inr (inl ae)) (inr (inr bm)) = subst₂ R (sym (here a ae)) (sym (over b bm)) (high (b - 1) d (omega arith) (omega (arith, grown)))
      go (inr (inr am)) (inr (inr bm)) = subst₂ R (sym (over a am)) (sym (over b bm)) (pairs (a - 1) (b - 1) d (omega arith) (omega (arith, grown)))
      go (inr (inl ae)) (inl bl') = absurd (omega arith)
      go (inr (inl ae)) (inr (inl be)) = absurd (omega arith)
      go (inr (inr am)) (inl bl') = absurd (omega arith)
      go (inr (inr am)) (inr (inl be)) = absurd (omega arith)

  -- R holds from x to what has a greater key, and what R puts behind such an item has a greater key too
  module _ (key : X → ℕ) (R : X → X → Type 0) (x : X) (before : (y : X) → key x < key y → R x y) (far : (y z : X) → key x < key y → R y z → key x < key z) where
    -- it is enough that R holds to x from each item of no greater key
    pub ordered_inserted : (xs : List X) → AllByRecursion (λ y. key y ≤ key x → R y x) xs → Ordered R xs → Ordered R (insert xs (place key (key x) xs) x)
    ordered_inserted xs h o = pairs_inserted R xs at x (prefix_len-le-length _ xs) o
        (λ k d l. every_from_all _ xs h k d (omega arith) (omega (arith, prefix_len-le-length passes xs)) (let p = prefix_len_passes passes xs k d l in grind (arith, nat_tests)))
        (λ k d l m. before _ (greater k d l m))
      where
        passes : X → Bool
        passes y = not (ltb (key x) (key y))

        at : ℕ
        at = place key (key x) xs

        first : (d : X) → at < length xs → key x < key (get_or xs at d)
        first d l = let p = prefix_len_stops passes xs d l in grind (arith, nat_tests)

        greater : (k : ℕ) (d : X) → at ≤ k → k < length xs → key x < key (get_or xs k d)
        greater k d l m = go (tri at k)
          where
            go : (at < k) ⊎ ((at ≡ k) ⊎ (k < at)) → key x < key (get_or xs k d)
            go (inl more) = far _ _ (first d (omega arith)) (o at k d more m)
            go (inr (inl e)) = subst (λ k. key x < key (get_or xs k d)) e (first d (omega arith))
            go (inr (inr less)) = absurd (omega arith)

pub known_inserted : (n : ℕ) (ps : List Peer) (i : ℕ) (p : Peer) → known n ps ≡ true → known n (insert ps i p) ≡ true
known_inserted n ps zero p h = or_right _ _ h
known_inserted n [] (suc i) p h = absurd (false≢true h)
known_inserted n (q ∷ qs) (suc i) p h = ⊎_elim (or_left _ _) (λ k. or_right _ _ (known_inserted n qs i p k)) (or_cases (eqb q.id n) (known n qs) h)

pub unknown_all : (n : ℕ) (ps : List Peer) → known n ps ≡ false → AllByRecursion (λ p. p.id ≡ n → ⊥) ps
unknown_all n [] h = tt
unknown_all n (p ∷ ps) h = let e = or_parts (eqb p.id n) (known n ps) h in (eqb-false _ _ e.0, unknown_all n ps e.1)

-- a new peer at its place keeps the peers' order, and an event at its place that of the events
pub peers_inserted : (ps : List Peer) (p : Peer) → known p.id ps ≡ false → Ordered (λ p q. number_of p < number_of q) ps → Ordered (λ p q. number_of p < number_of q) (insert ps (place number_of p.id ps) p)
peers_inserted ps p new rise =
    ordered_inserted number_of (λ p q. number_of p < number_of q) p (λ q l. l) (λ q r l m. omega arith) ps
    (All-weaker _ _ (λ q other l. omega arith) ps (unknown_all p.id ps new)) rise

pub events_inserted : (es : List Event) (e : Event) → Ordered (λ e f. tick_of e ≤ tick_of f) es → Ordered (λ e f. tick_of e ≤ tick_of f) (insert es (place tick_of e.at es) e)
events_inserted es e rise =
    ordered_inserted tick_of (λ e f. tick_of e ≤ tick_of f) e (λ f l. omega arith) (λ f k l m. omega arith) es (all_from_every _ es (λ _ _ _ _ l. l)) rise
