-- If true peers together have every piece, then after so many rounds each of them has every piece.
use Rattle.std.proofs.Common.{◌≡◌, ℕ, zero, suc, ◌+◌, ◌-◌, ◌*◌, ◌<◌, ◌≤◌, Bool, true, false, cond, ltb, sym, refl, ◌∙◌, subst, subst₂, ⊎_elim, mul-le-mul_left, mul-zero, mul-suc, arith}
use mathlib.Core.List.{Memᴰ}
use native.Mathlib.Decide.{le_ind}
use Rattle.std.proofs.lemmas.Bool.{cases_lt, cases_Bool, both_ways, cond-true, cond-false, lt-ltb, le-ltb}
use Rattle.swarm.specs.Swarm.{Rules, size, Round, Rounds}
use Rattle.swarm.specs.Promise.{Joined, Sound, AllDone}
use Rattle.swarm.specs.Levels.{SoundWithin, TrueRound, TrueRounds, AllDoneWithin}
use Rattle.swarm.proofs.Counts.{Grows, count, count_le, count_lt, size_le_count, count_lacking}

-- the states of a run, by how many rounds are over
record Run (r : Rules) (k : ℕ) (s t : ℕ → ℕ → Bool) : Type 0 where
  at : ℕ → ℕ → ℕ → Bool
  starts : at 0 ≡ s
  ends : at k ≡ t
  round : (i : ℕ) → i < k → TrueRound r i (at i) (at (suc i))

longer : {r : Rules} {k : ℕ} {s t u : ℕ → ℕ → Bool} → Run r k s t → TrueRound r k t u → Run r (suc k) s u
longer {r} {k} {s} {t} {u} c new = record { at = longer_at; starts = old 0 (omega arith) ∙ c.starts; ends = last; round = each }
  where
    longer_at : ℕ → ℕ → ℕ → Bool
    longer_at i = cond (ltb k i) u (c.at i)

    old : (i : ℕ) → i ≤ k → longer_at i ≡ c.at i
    old i h = cond-false (ltb k i) u (c.at i) (le-ltb k i h)

    last : longer_at (suc k) ≡ u
    last = cond-true (ltb k (suc k)) u (c.at (suc k)) (lt-ltb k (suc k) (omega arith))

    newest : TrueRound r k (longer_at k) (longer_at (suc k))
    newest = subst₂ (TrueRound r k) (sym (old k (omega arith) ∙ c.ends)) (sym last) new

    each : (i : ℕ) → i < suc k → TrueRound r i (longer_at i) (longer_at (suc i))
    each i h =
        ⊎_elim (λ less. subst₂ (TrueRound r i) (sym (old i (omega arith))) (sym (old (suc i) less)) (c.round i less))
        (λ above. subst (λ j. TrueRound r j (longer_at j) (longer_at (suc j))) {x = k} (omega arith) newest) (cases_lt i k)

run : {r : Rules} {k : ℕ} {s t : ℕ → ℕ → Bool} → TrueRounds r k s t → Run r k s t
run {s} TrueRounds.none = record { at = λ _. s; starts = refl; ends = refl; round = λ i h. absurd (omega arith) }
run (TrueRounds.then before new) = longer (run before) new

-- On the way from a peer that has something to one that lacks it there is a step from one that has it to one that lacks it.
crossing : (r : Rules) (has : ℕ → Bool) {p q : ℕ} → Joined r p q → has p ≡ true → has q ≡ false →
    (a b : ℕ) × (a < r.peers) × (r.true' a ≡ true) × (Memᴰ b (r.friends a)) × (b < r.peers) × (r.true' b ≡ true) × (has a ≡ true) × (has b ≡ false)
crossing r has Joined.self there lacks = absurd (both_ways (has _) lacks there)
crossing r has (Joined.over {q = a} {s = b} before a_in a-true mem b-in b-true) there lacks =
    ⊎_elim (λ e. (a, b, a_in, a-true, mem, b-in, b-true, e, lacks)) (λ e. crossing r has before there e) (cases_Bool (has a))

module _ {r : Rules} {k : ℕ} {s t : ℕ → ℕ → Bool} (c : Run r k s t) where
  grows : (i j : ℕ) → i ≤ j → j ≤ k → Grows r (c.at i) (c.at j)
  grows i = le_ind {n = i} (λ j. j ≤ k → Grows r (c.at i) (c.at j)) (λ _ _ _ _ _ _ h. h)
      (λ j _ before within p m p-in p-true m-in h. (c.round j within).keep p m p-in p-true m-in (before (omega arith) p m p-in p-true m-in h))

  count_keeps : (i j : ℕ) → i ≤ j → j ≤ k → count r (c.at i) ≤ count r (c.at j)
  count_keeps i j from within = count_le r (c.at i) (c.at j) (grows i j from within)

  count_rises : (i j : ℕ) → i ≤ j → j ≤ k → (p m : ℕ) → p < r.peers → r.true' p ≡ true → m < size r → c.at i p m ≡ false → c.at j p m ≡ true → count r (c.at i) < count r (c.at j)
  count_rises i j from within = count_lt r (c.at i) (c.at j) (grows i j from within)

  -- Where b has the turn at a and lacked what a had, the count has risen when the round is over.
  count_rises_by_turn : (a b m i j : ℕ) → a < r.peers → b < r.peers → r.true' a ≡ true → r.true' b ≡ true → m < size r → c.at i a m ≡ true → c.at i b m ≡ false →
      i ≤ j → j < k → r.turn j a ≡ b → count r (c.at i) < count r (c.at (suc j))
  count_rises_by_turn a b m i j a_in b-in a-true b-true m-in has lacks from before turn = ⊎_elim had lacked (cases_Bool (c.at j b m))
    where
      had : c.at j b m ≡ true → count r (c.at i) < count r (c.at (suc j))
      had e = omega (arith, count_rises i j from (omega arith) b m b-in b-true m-in lacks e, count_keeps j (suc j) (omega arith) before)

      lacked : c.at j b m ≡ false → count r (c.at i) < count r (c.at (suc j))
      lacked e =
          let (x, x-in, lacks-x, gets-x) = (c.round j before).gives a b m a_in b-in a-true b-true turn m-in (grows i j from (omega arith) a m a_in a-true m-in has) e in
          omega (arith, count_keeps i j from (omega arith), count_rises j (suc j) (omega arith) before b x b-in b-true x-in lacks-x gets-x)

  -- p has a piece m from the start, and q lacks it to the end
  module _ {d : ℕ} (sound : SoundWithin r d k) (p q m : ℕ) (p-in : p < r.peers) (q-in : q < r.peers) (p-true : r.true' p ≡ true) (q-true : r.true' q ≡ true) (m-in : m < size r)
      (has : c.at 0 p m ≡ true) (lacks : c.at k q m ≡ false) where
    lacks_at : (i : ℕ) → i ≤ k → c.at i q m ≡ false
    lacks_at i within = ⊎_elim (λ e. absurd (both_ways (c.at k q m) lacks (grows i k within (omega arith) q m q-in q-true m-in e))) (λ e. e) (cases_Bool (c.at i q m))

    count_rises_in_d : (i : ℕ) → i + d ≤ k → count r (c.at i) < count r (c.at (i + d))
    count_rises_in_d i within =
        let has-at = grows 0 i (omega arith) (omega arith) p m p-in p-true m-in has in
        let way = sound.joined_all p q p-in q-in p-true q-true in
        let (a, b, a_in, a-true, friend, b-in, b-true, a-has, b-lacks) = crossing r (λ p. c.at i p m) way has-at (lacks_at i (omega arith)) in
        let (j, from, before, turn) = sound.fair a b i a_in b-in a-true b-true friend within in
        omega (arith, count_rises_by_turn a b m i j a_in b-in a-true b-true m-in a-has b-lacks from (omega arith) turn, count_keeps (suc j) (i + d) before within)

    count_after : (n : ℕ) → d * n ≤ k → count r (c.at 0) + n ≤ count r (c.at (d * n))
    count_after zero within = rw mul-zero (omega arith)
    count_after (suc n) within = rw mul-suc (omega (arith, count_after n (omega arith), count_rises_in_d (d * n) (omega arith)))

    lacks_not_so_long : d * (r.peers * size r - size r) ≤ k → size r ≤ count r (c.at 0) → ⊥
    lacks_not_so_long enough all_there =
        let n = r.peers * size r - size r in
        omega (arith, count_after n enough, count_lacking r (c.at (d * n)) q m q-in q-true m-in (lacks_at (d * n) enough))

pub all_done_within : AllDoneWithin
all_done_within r d k sound s t rounds somebody enough q m q-in q-true m-in = ⊎_elim (λ e. e) (λ e. absurd (never e)) (cases_Bool (t q m))
  where
    never : t q m ≡ false → ⊥
    never lacks =
        let c = run rounds in
        let (p, p-in, p-true, has) = somebody m m-in in
        let all_there : size r ≤ count r (c.at 0) = rw c.starts (size_le_count r s somebody) in
        lacks_not_so_long c sound p q m p-in q-in p-true q-true m-in (rw c.starts has) (rw c.ends lacks) enough all_there

true_round : {r : Rules} {k : ℕ} {s t : ℕ → ℕ → Bool} → Round r k s t → TrueRound r k s t
true_round h = record { keep = λ p m _ _ _. h.keep p m; gives = h.gives }

true_rounds : {r : Rules} {k : ℕ} {s t : ℕ → ℕ → Bool} → Rounds r k s t → TrueRounds r k s t
true_rounds Rounds.none = TrueRounds.none
true_rounds (Rounds.then before new) = TrueRounds.then (true_rounds before) (true_round new)

sound_within : (r : Rules) (d k : ℕ) → Sound r d → SoundWithin r d k
sound_within r d k h = record { fair = λ p q i p-in _ p-true _ mem _. h.fair p q i p-in p-true mem; joined_all = h.joined_all }

pub all_done : AllDone
all_done r d sound s t k rounds somebody enough =
    let less : r.peers * size r - size r ≤ r.peers * size r = omega arith in
    all_done_within r d k (sound_within r d k sound) s t (true_rounds rounds) somebody (omega (arith, mul-le-mul_left d less))
