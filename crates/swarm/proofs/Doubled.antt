-- A number that doubles while that stays below another comes to the greatest power of two below it, which is the least that is no less than half of it.
use Rattle.std.proofs.Common.{◌≡◌, ℕ, zero, suc, ◌+◌, ◌^◌, ◌<◌, ◌≤◌, ltb, sym, refl, ap, ◌∙◌, arith}
use Rattle.std.specs.Int.{IsNextPowerOfTwo, div_ceil}
use Rattle.std.proofs.Math.Nat.{two-pow-succ}
use Rattle.std.proofs.Math.Pow.{pow_mono}
use Rattle.std.proofs.lemmas.Bool.{cond-true, cond-false, lt-ltb, le-ltb}
use Rattle.swarm.specs.Tree.{doubled}

pub doubled-done : (f k n : ℕ) → n ≤ k + k → doubled f k n ≡ k
unfolding doubled
doubled-done zero k n h = refl
doubled-done (suc f) k n h = cond-false (ltb (k + k) n) (doubled f (k + k) n) k (le-ltb (k + k) n h)

doubled-more : (f k n : ℕ) → k + k < n → doubled (suc f) k n ≡ doubled f (k + k) n
unfolding doubled
doubled-more f k n h = cond-true (ltb (k + k) n) (doubled f (k + k) n) k (lt-ltb (k + k) n h)

below_power : (k : ℕ) → k < 2 ^ k
below_power zero = omega arith
below_power (suc k) = omega (arith, two-pow-succ k, below_power k)

-- From 2 ^ j it comes to 2 ^ m, where that is enough and stays below.
doublings : (i j f n m : ℕ) → m ≡ j + i → i ≤ f → n ≤ 2 ^ m + 2 ^ m → (0 < i → 2 ^ m < n) → doubled f (2 ^ j) n ≡ 2 ^ m
doublings zero j f n m e l h s =
    let stays : j ≡ m = omega arith in
    let same : 2 ^ j ≡ 2 ^ m = ap (λ (k : ℕ). 2 ^ k) stays in
    doubled-done f (2 ^ j) n (omega arith) ∙ same
doublings (suc i) j zero n m e l h s = absurd (omega arith)
doublings (suc i) j (suc f) n m e l h s =
    let more : 2 ^ suc j ≤ 2 ^ m = pow_mono (omega arith) in
    let below : 2 ^ m < n = s (omega arith) in
    doubled-more f (2 ^ j) n (omega (arith, two-pow-succ j)) ∙ ap (λ (k : ℕ). doubled f k n) (sym (two-pow-succ j)) ∙ doublings i (suc j) f n m (omega arith) (omega arith) h (λ _. below)

-- The least power of two that is no less than half of a number is the greatest below that number.
pub doubled-power : (n half r : ℕ) → half ≡ div_ceil n 2 → IsNextPowerOfTwo half r → r ≡ doubled n 1 n
doubled-power n half r h ((zero, e), lo, up) = e ∙ sym (doublings 0 0 n n 0 refl (omega arith) (omega arith) (λ z. absurd (omega arith)))
doubled-power n half r h ((suc k, e), lo, up) =
    let two = two-pow-succ k in
    let some = below_power k in
    let long = below_power (suc k) in
    let below : 2 ^ suc k < n = omega arith in
    e ∙ sym (doublings (suc k) 0 n n (suc k) (omega arith) (omega arith) (omega arith) (λ _. below))
