-- How many pieces true peers have, counted once for each who has it, grows with what they get.
use Rattle.std.proofs.Common.{◌≡◌, ℕ, zero, suc, ◌+◌, ◌*◌, ◌<◌, ◌≤◌, Bool, true, false, cond, ◌&&◌, refl, subst, ⊎_elim, arith}
use Rattle.std.proofs.lemmas.Bool.{cases_lt, false≢true}
use Rattle.swarm.specs.Swarm.{Rules, size}

sum_to : ℕ → (ℕ → ℕ) → ℕ
sum_to zero f = 0
sum_to (suc n) f = sum_to n f + f n

sum_le : (n : ℕ) (f g : ℕ → ℕ) → ((i : ℕ) → i < n → f i ≤ g i) → sum_to n f ≤ sum_to n g
unfolding sum_to
sum_le zero f g le = omega arith
sum_le (suc n) f g le = omega (arith, sum_le n f g (λ i h. le i (omega arith)), le n (omega arith))

sum_lt : (n : ℕ) (f g : ℕ → ℕ) → ((i : ℕ) → i < n → f i ≤ g i) → (i : ℕ) → i < n → f i < g i → sum_to n f < sum_to n g
unfolding sum_to
sum_lt zero f g le i h lt = omega arith
sum_lt (suc n) f g le i h lt =
    let le-before : (j : ℕ) → j < n → f j ≤ g j = λ j below. le j (omega arith) in
    ⊎_elim (λ below. omega (arith, sum_lt n f g le-before i below lt, le n (omega arith)))
    (λ above. omega (arith, sum_le n f g le-before, subst (λ j. f j < g j) {y = n} (omega arith) lt)) (cases_lt i n)

sum_same : (n c : ℕ) → sum_to n (λ _. c) ≡ n * c
unfolding sum_to
sum_same zero c = omega arith
sum_same (suc n) c = omega (arith, sum_same n c)

-- what true peers have of the file in one state they have in another
abbrev pub Grows : Rules → (ℕ → ℕ → Bool) → (ℕ → ℕ → Bool) → Type 0
Grows r s t = (p m : ℕ) → p < r.peers → r.true' p ≡ true → m < size r → s p m ≡ true → t p m ≡ true

one : Bool → ℕ
one b = cond b 1 0

one_le : (b x y : Bool) → (b ≡ true → x ≡ true → y ≡ true) → one (b && x) ≤ one (b && y)
unfolding one
one_le b x y f = grind arith

one_below : (b : Bool) → one b ≤ 1
unfolding one
one_below b = grind arith

one_less : (b x y : Bool) → b ≡ true → x ≡ false → y ≡ true → one (b && x) < one (b && y)
unfolding one
one_less b x y e f g = grind arith

module _ (r : Rules) where
  -- how many true peers have the piece m
  having : (ℕ → ℕ → Bool) → ℕ → ℕ
  having s m = sum_to r.peers (λ p. one (r.true' p && s p m))

  -- all the pieces of the file, each counted once for each true peer that has it
  pub count : (ℕ → ℕ → Bool) → ℕ
  count s = sum_to (size r) (having s)

  module _ (s t : ℕ → ℕ → Bool) (more : Grows r s t) where
    one_le_at : (m : ℕ) → m < size r → (p : ℕ) → p < r.peers → one (r.true' p && s p m) ≤ one (r.true' p && t p m)
    one_le_at m m-in p p-in = one_le (r.true' p) (s p m) (t p m) (λ e. more p m p-in e m-in)

    having_le : (m : ℕ) → m < size r → having s m ≤ having t m
    unfolding having
    having_le m m-in = sum_le r.peers _ _ (one_le_at m m-in)

    pub count_le : count s ≤ count t
    unfolding count
    count_le = sum_le (size r) (having s) (having t) having_le

    having_lt : (p m : ℕ) → p < r.peers → r.true' p ≡ true → m < size r → s p m ≡ false → t p m ≡ true → having s m < having t m
    unfolding having
    having_lt p m p-in p-true m-in lacked got = sum_lt r.peers _ _ (one_le_at m m-in) p p-in (one_less (r.true' p) (s p m) (t p m) p-true lacked got)

    pub count_lt : (p m : ℕ) → p < r.peers → r.true' p ≡ true → m < size r → s p m ≡ false → t p m ≡ true → count s < count t
    unfolding count
    count_lt p m p-in p-true m-in lacked got = sum_lt (size r) (having s) (having t) having_le m m-in (having_lt p m p-in p-true m-in lacked got)

  -- Where true peers together have every piece, the count is at least the number of pieces.
  pub size_le_count : (s : ℕ → ℕ → Bool) → ((m : ℕ) → m < size r → (p : ℕ) × (p < r.peers) × (r.true' p ≡ true) × (s p m ≡ true)) → size r ≤ count s
  unfolding count
  size_le_count s somebody = omega (arith, sum_same (size r) 1, sum_le (size r) (λ _. 1) (having s) some_have)
    where
      some_have : (m : ℕ) → m < size r → 1 ≤ having s m
      some_have m m-in =
          let (p, p-in, p-true, has) = somebody m m-in in
          omega (arith, having_lt (λ _ _. false) s (λ _ _ _ _ _ e. absurd (false≢true e)) p m p-in p-true m-in refl has)

  having_most : (s : ℕ → ℕ → Bool) (m : ℕ) → having s m ≤ r.peers
  unfolding having
  having_most s m = omega (arith, sum_same r.peers 1, sum_le r.peers _ (λ _. 1) (λ p _. one_below (r.true' p && s p m)))

  count_most : (s : ℕ → ℕ → Bool) → count s ≤ size r * r.peers
  unfolding count
  count_most s = omega (arith, sum_same (size r) r.peers, sum_le (size r) (having s) (λ _. r.peers) (λ m _. having_most s m))

  -- Where a true peer lacks a piece, the count is below the number of all that can be had.
  pub count_lacking : (s : ℕ → ℕ → Bool) (p m : ℕ) → p < r.peers → r.true' p ≡ true → m < size r → s p m ≡ false → count s < size r * r.peers
  count_lacking s p m p-in p-true m-in lacked =
      omega (arith, count_most (λ _ _. true), count_lt s (λ _ _. true) (λ _ _ _ _ _ _. refl) p m p-in p-true m-in lacked refl)
