-- Whoever stays linked to a peer has its turn there, whatever happens to all others.
use Rattle.std.proofs.Common.{◌≡◌, ℕ, zero, suc, ◌<◌, ◌≤◌, Bool, true, not, ◌&&◌, ◌||◌, eqb, ltb, leb, ◌⊎◌, List, [], ◌∷◌, map, length, get_or, sym, refl, ap, ◌∙◌, subst, inl, inr, ⊎_elim, arith}
use lib.ListN.{length-map}
use Rattle.arena.specs.Fairness.{Played, FairRounds, after, no_seat, holders, apart, all_apart}
use Rattle.arena.specs.Seats.{Seat, willing, reseated, change_at, linked, parted, happens, happen_till, begun, beginning}
use Rattle.rotation.specs.Rows.{nobody}
use Rattle.script.specs.declared.sheet.Event.{Event}
use Rattle.script.specs.declared.sheet.LinkEvent.{LinkEvent}
use Rattle.script.specs.declared.sheet.LinkEvent.TheVariants.{Opens, Breaks}
use Rattle.std.proofs.lemmas.List.{get_or-map, take_all}
use Rattle.std.proofs.lemmas.Bool.{and_from, and_parts, cond_both, cond-true, or_right, eqb-true, false≢true}
use Rattle.std.proofs.lemmas.Bool.Decides.{nat_tests}
use Rattle.swarm.proofs.InRow.{is_in-append}
use Rattle.swarm.proofs.Rows.{Within, within_changed, first_or_nearer}
use Rattle.swarm.specs.Code.{taken}
use Rattle.swarm.specs.Turns.{Change, Joins, Leaves, is_in, changed, no_leave}

-- what is taken of changes leaves nobody whom they don't
no_leave-taken : (q : ℕ) (shut : ℕ → Bool) (row : List ℕ) (cs : List Change) → no_leave q cs ≡ true → no_leave q (taken shut row cs) ≡ true
unfolding no_leave taken
no_leave-taken q shut row [] h = h
no_leave-taken q shut row (Joins x ∷ cs) h =
    cond_both (shut x || not (ltb (length row) 64)) (taken shut row cs) (Joins x ∷ taken shut (changed (Joins x ∷ []) row) cs) (λ ds. no_leave q ds ≡ true)
    (λ _. no_leave-taken q shut row cs h) (λ _. no_leave-taken q shut (changed (Joins x ∷ []) row) cs h)
no_leave-taken q shut row (Leaves x ∷ cs) h =
    let (other, rest) = and_parts (not (eqb x q)) (no_leave q cs) h in and_from _ _ other (no_leave-taken q shut (changed (Leaves x ∷ []) row) cs rest)

module _ (p q n : ℕ) where
  -- this is peer p, and q is among the first n of its row
  abbrev Stays : Seat → Type 0
  Stays s = (s.id ≡ p) × Within q n s.row

  -- a change at a peer leaves q there unless it is p that q leaves
  stays-changed : (id : ℕ) (cs : List Change) (s : Seat) → (id ≡ p → no_leave q cs ≡ true) → Stays s → Stays (change_at id cs s)
  stays-changed id cs s away (e, h) =
      cond_both (eqb s.id id) (reseated cs s) s Stays (λ same. (e, within_changed q n (taken nobody s.row cs) s.row (no_leave-taken q nobody s.row cs (away (sym (eqb-true s.id id same) ∙ e))) h)) (λ _. (e, h))

  -- at place i of a list
  abbrev StaysAt : ℕ → List Seat → Type 0
  StaysAt i ss = (i < length ss) × Stays (get_or ss i no_seat)

  stays-map : (i : ℕ) (f : Seat → Seat) (ss : List Seat) → ((s : Seat) → Stays s → Stays (f s)) → StaysAt i ss → StaysAt i (map f ss)
  stays-map i f ss keeps (l, h) = (omega (arith, length-map ss f), subst Stays (sym (get_or-map f ss i no_seat no_seat l)) (keeps (get_or ss i no_seat) h))

  -- an event of another link than that between p and q
  abbrev Other : Event → Type 0
  Other e = not ((eqb e.a p && eqb e.b q) || (eqb e.a q && eqb e.b p)) ≡ true

  stays-happens : (i : ℕ) (e : Event) (ss : List Seat) → Other e → StaysAt i ss → StaysAt i (happens e ss)
  unfolding no_leave
  stays-happens i e ss other h = by_kind e.what
    where
      at_a : (cs : List Change) → no_leave q cs ≡ true → e.a ≡ p → no_leave q (Leaves e.b ∷ cs) ≡ true
      at_a cs k same = grind (arith, nat_tests)

      at_b : (cs : List Change) → no_leave q cs ≡ true → e.b ≡ p → no_leave q (Leaves e.a ∷ cs) ≡ true
      at_b cs k same = grind (arith, nat_tests)

      both : (cs ds : List Change) → no_leave q cs ≡ true → no_leave q ds ≡ true → StaysAt i (map (change_at e.b (Leaves e.a ∷ ds)) (map (change_at e.a (Leaves e.b ∷ cs)) ss))
      both cs ds k m =
          stays-map i (change_at e.b (Leaves e.a ∷ ds)) (map (change_at e.a (Leaves e.b ∷ cs)) ss) (λ s. stays-changed e.b (Leaves e.a ∷ ds) s (at_b ds m))
          (stays-map i (change_at e.a (Leaves e.b ∷ cs)) ss (λ s. stays-changed e.a (Leaves e.b ∷ cs) s (at_a cs k)) h)

      by_kind : (what : LinkEvent) → StaysAt i (elim what [ Opens d ↦ linked e.a e.b ss | Breaks ↦ parted e.a e.b ss ])
      by_kind (Opens d) =
          cond_both (willing e.a e.b ss && willing e.b e.a ss) _ ss (StaysAt i) (λ _. both (Joins e.b ∷ []) (Joins e.a ∷ []) refl refl) (λ _. h)
      by_kind Breaks = both [] [] refl refl

  stays_till : (i t : ℕ) (es : List Event) (ss : List Seat) → apart p q t es ≡ true → StaysAt i ss → StaysAt i (happen_till t es ss)
  unfolding happen_till apart
  stays_till i t [] ss h k = k
  stays_till i t (e ∷ es) ss h k =
      cond_both (leb e.at t) (happen_till t es (happens e ss)) ss (StaysAt i) (λ due. let (other, rest) = here due in stays_till i t es (happens e ss) rest (stays-happens i e ss other k)) (λ _. k)
    where
      here : leb e.at t ≡ true → Other e × (apart p q t es ≡ true)
      here due = and_parts (not ((eqb e.a p && eqb e.b q) || (eqb e.a q && eqb e.b p))) (apart p q t es) (sym (cond-true _ _ _ due) ∙ h)

-- when a round begins at a peer, q has the turn there or is one place nearer
turn_or_nearer : (p q n : ℕ) (s : Seat) → Stays p q (suc n) s → ((begun s).holder ≡ q ∷ []) ⊎ Stays p q n (begun s)
turn_or_nearer p q n s (e, h) = ⊎_elim (λ f. inl f) (λ k. inr (e, k)) (first_or_nearer q n s.row h)

-- whoever is among the first n has its turn within n rounds
fair_within : (p q n i : ℕ) (rs : List Played) (ss : List Seat) → StaysAt p q n i ss → all_apart p q rs ≡ true → n ≤ length rs → is_in q (holders i rs ss) ≡ true
unfolding holders all_apart is_in
fair_within p q zero i rs ss h k l = absurd (false≢true h.1.1)
fair_within p q (suc n) i [] ss h k l = absurd (omega arith)
fair_within p q (suc n) i (r ∷ rs) ss h k l =
    let (here, later) = and_parts (apart p q (beginning r.round) r.events) (all_apart p q rs) k in
    let due = happen_till (beginning r.round) r.events ss in
    let (inside, stays) = stays_till p q (suc n) i (beginning r.round) r.events ss here h in
    let now-holds = get_or-map begun due i no_seat no_seat inside in
    let there = is_in-append q (get_or (after r ss) i no_seat).holder (holders i rs (after r ss)) in
    ⊎_elim
    (λ f. there ∙ ap (λ xs. is_in q xs || is_in q (holders i rs (after r ss))) (ap (λ s. s.holder) now-holds ∙ f) ∙ grind (arith, nat_tests))
    (λ f. there ∙ or_right _ _ (fair_within p q n i rs (after r ss) (omega (arith, length-map due begun), subst (Stays p q n) (sym now-holds) f) later (omega arith)))
    (turn_or_nearer p q n (get_or due i no_seat) stays)

pub fair-rounds : FairRounds
fair-rounds ss i q rs inside here away long =
    fair_within (get_or ss i no_seat).id q (length (get_or ss i no_seat).row) i rs ss
    (inside, (refl, ap (is_in q) (take_all (length (get_or ss i no_seat).row) (get_or ss i no_seat).row (omega arith)) ∙ here)) away long
