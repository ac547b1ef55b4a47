-- One round and one word more in the middle of a block.
use Rattle.std.proofs.Common.{◌≡◌, ℕ, ◌+◌, ◌%◌, ◌<◌, ◌≤◌, ◌≢◌, List, [], ◌∷◌, length, get_or, set, sym, ap, ◌∙◌, subst, ap₂, inl, inr, add-zero, mod-eq_of_lt, zero-add, add-one, arith}
use lib.Lanes.{zip2}
use Rattle.std.proofs.lemmas.Simd.{pick_l_whole}
use Rattle.sha256.specs.Words.{add}
use Rattle.std.proofs.lemmas.List.{length-set, get_or-set_same, get_or-set_other}
use Rattle.std.proofs.lemmas.Bool.{cases_eq}
use Rattle.sha256.specs.Constants.{constants}
use Rattle.sha256.specs.Sha256.{round, rounds, schedule, next_word, compress}
use Rattle.sha256.specs.Steps.{Started, Done, Ring, next_in}
use Rattle.sha256.proofs.Schedules.{schedule-stays, schedule-next}

-- A word of the block's own is the schedule's word at its place.
own_word : (ws : List ℕ) (i : ℕ) → length ws ≡ 16 → i < 16 → get_or (schedule ws 48) i 0 ≡ get_or ws i 0
unfolding schedule
own_word ws i l lt = schedule-stays ws 0 48 i (omega (arith, l))

-- One round more.
rounds-more : (ws h vs : List ℕ) (t x : ℕ) → vs ≡ rounds ws h t → x ≡ get_or (schedule ws 48) t 0 → round (get_or constants t 0) x vs ≡ rounds ws h (t + 1)
unfolding rounds
rounds-more ws h vs t x p q = ap₂ (λ (y : ℕ) (us : List ℕ). round (get_or constants t 0) y us) q p ∙ ap (rounds ws h) (sym (add-one t))

-- A round with a word of the block's own.
pub first-turned : (ws h vs vs' w : List ℕ) (i x : ℕ) → length ws ≡ 16 → i < 16 → Started ws h i vs w → x ≡ get_or w i 0 → vs' ≡ round (get_or constants i 0) x vs → Started ws h (i + 1) vs' w
first-turned ws h vs vs' w i x l lt s p e =
    record { done = e ∙ rounds-more ws h vs i x s.done (p ∙ ap (λ (xs : List ℕ). get_or xs i 0) s.all ∙ sym (own_word ws i l lt)); all = s.all }

-- After sixteen rounds the block's words are the sixteen at hand.
pub all-started : (ws h : List ℕ) {vs w : List ℕ} → length ws ≡ 16 → Started ws h 16 vs w → Done ws h 0 vs w
all-started ws h {vs} {w} l s = record { done = s.done; ring = λ j lt. simp (zero-add, mod-eq_of_lt lt) (ap (λ (xs : List ℕ). get_or xs j 0) s.all ∙ sym (own_word ws j l lt)); sized = ap length s.all ∙ l }

-- A round with one word more, which takes the place of the oldest.
pub turned : (ws h vs vs' w : List ℕ) (t i x : ℕ) → length ws ≡ 16 → i < 16 → t ≤ 32 → t % 16 ≡ 0 → Done ws h (t + i) vs w → x ≡ next_in w i → vs' ≡ round (get_or constants (t + 16 + i) 0) x vs →
    Done ws h (t + (i + 1)) vs' (set w i x)
turned ws h vs vs' w t i x l lt le m d q e = record { done = e ∙ done; ring = ring; sized = length-set w i x ∙ d.sized }
  where
    n : ℕ
    n = t + i

    place : (j : ℕ) → (n + j) % 16 ≡ (i + j) % 16
    place j = omega (arith, m)

    at : (j : ℕ) → j < 16 → get_or w ((i + j) % 16) 0 ≡ get_or (schedule ws 48) (n + j) 0
    at j h = ap (λ (k : ℕ). get_or w k 0) (sym (place j)) ∙ d.ring j h

    word-is : x ≡ get_or (schedule ws 48) (n + 16) 0
    word-is =
        let oldest : get_or w i 0 ≡ get_or (schedule ws 48) n 0 = simp (add-zero, mod-eq_of_lt lt) at (at 0 (omega arith)) in
        let same : next_in w i ≡ next_word (schedule ws 48) n = cc (at 14 (omega arith), at 9 (omega arith), at 1 (omega arith), oldest) in
        q ∙ same ∙ sym (schedule-next ws n l (omega arith))

    done : round (get_or constants (t + 16 + i) 0) x vs ≡ rounds ws h (t + (i + 1) + 16)
    done =
        let constant : t + 16 + i ≡ n + 16 = omega arith in
        let count : n + 16 + 1 ≡ t + (i + 1) + 16 = omega arith in
        ap (λ (k : ℕ). round (get_or constants k 0) x vs) constant ∙ rounds-more ws h vs (n + 16) x d.done word-is ∙ ap (rounds ws h) count

    newest : (j : ℕ) → j ≡ 15 → get_or (set w i x) ((t + (i + 1) + j) % 16) 0 ≡ get_or (schedule ws 48) (t + (i + 1) + j) 0
    newest j e15 =
        let there : (t + (i + 1) + j) % 16 ≡ i = omega (arith, place 16) in
        let which : t + (i + 1) + j ≡ n + 16 = omega arith in
        ap (λ (k : ℕ). get_or (set w i x) k 0) there ∙ get_or-set_same w i x 0 (omega (arith, d.sized)) ∙ word-is ∙ ap (λ (k : ℕ). get_or (schedule ws 48) k 0) (sym which)

    older : (j : ℕ) → j < 16 → j ≢ 15 → get_or (set w i x) ((t + (i + 1) + j) % 16) 0 ≡ get_or (schedule ws 48) (t + (i + 1) + j) 0
    older j lt' other =
        let which : t + (i + 1) + j ≡ n + (j + 1) = omega arith in
        let elsewhere : (n + (j + 1)) % 16 ≢ i = λ here. other (omega (arith, here, m)) in
        ap (λ (k : ℕ). get_or (set w i x) (k % 16) 0) which ∙ get_or-set_other w i ((n + (j + 1)) % 16) x 0 elsewhere
        ∙ d.ring (j + 1) (omega (arith, other)) ∙ ap (λ (k : ℕ). get_or (schedule ws 48) k 0) (sym which)

    ring : Ring ws (t + (i + 1)) (set w i x)
    ring j lt' = elim (cases_eq j 15) [ inl e15 ↦ newest j e15 | inr other ↦ older j lt' other ]

-- The number of words done, written in another way.
pub recounted : {ws h vs w : List ℕ} (m n : ℕ) → m ≡ n → Done ws h m vs w → Done ws h n vs w
recounted {ws} {h} {vs} {w} m n e d = subst (λ (k : ℕ). Done ws h k vs w) e d

-- A list of eight is made of its eight places.
pub eight : (h : List ℕ) → length h ≡ 8 → get_or h 0 0 ∷ get_or h 1 0 ∷ get_or h 2 0 ∷ get_or h 3 0 ∷ get_or h 4 0 ∷ get_or h 5 0 ∷ get_or h 6 0 ∷ get_or h 7 0 ∷ [] ≡ h
eight h l = pick_l_whole 0 h 8 l

-- No round is done before the first.
pub none_done : (ws h vs w : List ℕ) → vs ≡ h → w ≡ ws → Started ws h 0 vs w
unfolding rounds
none_done ws h vs w p q = record { done = p; all = q }

-- After 64 rounds the variables are added to the hash value.
pub all_done : (ws h vs w g r : List ℕ) → g ≡ h → Done ws h 48 vs w → r ≡ zip2 add g vs → r ≡ compress h ws
all_done ws h vs w g r p d e = e ∙ ap₂ (zip2 add) p d.done
