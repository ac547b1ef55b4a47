-- The functions on words: shorter forms of two of them, and that each gives a word.
use Rattle.std.proofs.Common.{◌≡◌, ℕ, zero, suc, ◌+◌, ◌-◌, ◌/◌, ◌%◌, ◌^◌, ◌<◌, ◌≤◌, refl, pow-suc, arith}
use lib.Arith.{half_le}
use lib.Bits.{bit_and, bit_xor, and_shr, xor_shr, and_mod, xor_mod, and_lt, or_lt, xor_lt}
use lib.Pow.{shr_le}
use Rattle.sha256.specs.Words.{complement, shr, shl, rotr, ch, maj, bsig0, bsig1, ssig0, ssig1}

by_digits : (a b : ℕ) → a / 2 ≡ b / 2 → a % 2 ≡ b % 2 → a ≡ b
by_digits a b hi lo = omega arith

and_half : (a b : ℕ) → bit_and a b / 2 ≡ bit_and (a / 2) (b / 2)
and_half a b = and_shr a b 1

xor_half : (a b : ℕ) → bit_xor a b / 2 ≡ bit_xor (a / 2) (b / 2)
xor_half a b = xor_shr a b 1

and_odd : (a b : ℕ) → bit_and a b % 2 ≡ bit_and (a % 2) (b % 2)
and_odd a b = and_mod a b 1

xor_odd : (a b : ℕ) → bit_xor a b % 2 ≡ bit_xor (a % 2) (b % 2)
xor_odd a b = xor_mod a b 1

-- what holds of 0 and of 1 holds of a lowest digit
on_digit : (P : ℕ → Type 0) → P 0 → P 1 → (x : ℕ) → P (x % 2)
on_digit P p q x = go (x % 2) (omega arith)
  where
    go : (y : ℕ) → y < 2 → P y
    go zero h = p
    go (suc zero) h = q
    go (suc (suc y)) h = absurd (omega arith)

-- the same of three numbers
on_digits : (P : ℕ → ℕ → ℕ → Type 0) → P 0 0 0 → P 0 0 1 → P 0 1 0 → P 0 1 1 → P 1 0 0 → P 1 0 1 → P 1 1 0 → P 1 1 1 → (x y z : ℕ) → P (x % 2) (y % 2) (z % 2)
on_digits P a b c d e f g h x y z =
    on_digit (λ x. P x (y % 2) (z % 2))
    (on_digit (λ y. P 0 y (z % 2)) (on_digit (P 0 0) a b z) (on_digit (P 0 1) c d z) y)
    (on_digit (λ y. P 1 y (z % 2)) (on_digit (P 1 0) e f z) (on_digit (P 1 1) g h z) y)
    x

abbrev short_maj : ℕ → ℕ → ℕ → ℕ
short_maj a b c = bit_xor (bit_and (bit_xor a b) (bit_xor b c)) b

maj_upto : (n a b c : ℕ) → a ≤ n → b ≤ n → c ≤ n → short_maj a b c ≡ maj a b c
maj_upto zero zero zero zero p q r = refl
maj_upto zero (suc a) b c p q r = absurd (omega arith)
maj_upto zero zero (suc b) c p q r = absurd (omega arith)
maj_upto zero zero zero (suc c) p q r = absurd (omega arith)
maj_upto (suc n) a b c p q r =
    by_digits (short_maj a b c) (maj a b c)
    (simp (xor_half, and_half) (maj_upto n (a / 2) (b / 2) (c / 2) (half_le p) (half_le q) (half_le r)))
    (simp (xor_odd, and_odd) (on_digits (λ a b c. short_maj a b c ≡ maj a b c) refl refl refl refl refl refl refl refl a b c))

-- The majority, with one operation less.
pub maj-short : (a b c : ℕ) → bit_xor (bit_and (bit_xor a b) (bit_xor b c)) b ≡ maj a b c
maj-short a b c = maj_upto (a + b + c) a b c (omega arith) (omega arith) (omega arith)

abbrev short_ch : ℕ → ℕ → ℕ → ℕ
short_ch e f g = bit_xor (bit_and (bit_xor f g) e) g

-- ch, where n is the complement of e
abbrev ch_by : ℕ → ℕ → ℕ → ℕ → ℕ
ch_by n e f g = bit_xor (bit_and e f) (bit_and n g)

complement_half : (k e : ℕ) → e < 2 ^ suc k → (2 ^ suc k - 1 - e) / 2 ≡ 2 ^ k - 1 - e / 2
complement_half k e h = let p = pow-suc 2 k in omega arith

complement_odd : (k e : ℕ) → e < 2 ^ suc k → (2 ^ suc k - 1 - e) % 2 ≡ 1 - e % 2
complement_odd k e h = let p = pow-suc 2 k in omega arith

half_below : (k x : ℕ) → x < 2 ^ suc k → x / 2 < 2 ^ k
half_below k x h = let p = pow-suc 2 k in omega arith

ch_upto : (k e f g : ℕ) → e < 2 ^ k → f < 2 ^ k → g < 2 ^ k → short_ch e f g ≡ ch_by (2 ^ k - 1 - e) e f g
ch_upto zero zero zero zero p q r = refl
ch_upto zero (suc e) f g p q r = absurd (omega arith)
ch_upto zero zero (suc f) g p q r = absurd (omega arith)
ch_upto zero zero zero (suc g) p q r = absurd (omega arith)
ch_upto (suc k) e f g p q r =
    by_digits (short_ch e f g) (ch_by (2 ^ suc k - 1 - e) e f g)
    (simp (xor_half, and_half, complement_half k e p) (ch_upto k (e / 2) (f / 2) (g / 2) (half_below k e p) (half_below k f q) (half_below k g r)))
    (simp (xor_odd, and_odd, complement_odd k e p) (on_digits (λ e f g. short_ch e f g ≡ ch_by (1 - e) e f g) refl refl refl refl refl refl refl refl e f g))

-- The choice, with one operation less.
pub ch-short : (e f g : ℕ) → e < 2 ^ 32 → f < 2 ^ 32 → g < 2 ^ 32 → bit_xor (bit_and (bit_xor f g) e) g ≡ ch e f g
ch-short e f g p q r = ch_upto 32 e f g p q r

-- A rotated word is a word.
pub rotr_below : (n x : ℕ) → 0 < n → n < 32 → x < 2 ^ 32 → rotr n x < 2 ^ 32
rotr_below n x p q h = or_lt 32 (shr n x) (shl (32 - n) x) (omega (arith, shr_le x n)) (omega arith)

-- the exclusive or of three words
xors_below : (x y z : ℕ) → x < 2 ^ 32 → y < 2 ^ 32 → z < 2 ^ 32 → bit_xor (bit_xor x y) z < 2 ^ 32
xors_below x y z p q r = xor_lt 32 (bit_xor x y) z (xor_lt 32 x y p q) r

rots_below : (i j k x : ℕ) → 0 < i → i < 32 → 0 < j → j < 32 → 0 < k → k < 32 → x < 2 ^ 32 → bit_xor (bit_xor (rotr i x) (rotr j x)) (rotr k x) < 2 ^ 32
rots_below i j k x a b c d e f h = xors_below (rotr i x) (rotr j x) (rotr k x) (rotr_below i x a b h) (rotr_below j x c d h) (rotr_below k x e f h)

rots_shr_below : (i j k x : ℕ) → 0 < i → i < 32 → 0 < j → j < 32 → x < 2 ^ 32 → bit_xor (bit_xor (rotr i x) (rotr j x)) (shr k x) < 2 ^ 32
rots_shr_below i j k x a b c d h = xors_below (rotr i x) (rotr j x) (shr k x) (rotr_below i x a b h) (rotr_below j x c d h) (omega (arith, shr_le x k))

-- The upper sigma 0 of a word is a word.
pub bsig0_below : (x : ℕ) → x < 2 ^ 32 → bsig0 x < 2 ^ 32
bsig0_below x h = rots_below 2 13 22 x (omega arith) (omega arith) (omega arith) (omega arith) (omega arith) (omega arith) h

-- The upper sigma 1 of a word is a word.
pub bsig1_below : (x : ℕ) → x < 2 ^ 32 → bsig1 x < 2 ^ 32
bsig1_below x h = rots_below 6 11 25 x (omega arith) (omega arith) (omega arith) (omega arith) (omega arith) (omega arith) h

-- The lower sigma 0 of a word is a word.
pub ssig0_below : (x : ℕ) → x < 2 ^ 32 → ssig0 x < 2 ^ 32
ssig0_below x h = rots_shr_below 7 18 3 x (omega arith) (omega arith) (omega arith) (omega arith) h

-- The lower sigma 1 of a word is a word.
pub ssig1_below : (x : ℕ) → x < 2 ^ 32 → ssig1 x < 2 ^ 32
ssig1_below x h = rots_shr_below 17 19 10 x (omega arith) (omega arith) (omega arith) (omega arith) h

-- The choice between words is a word.
pub ch_below : (x y z : ℕ) → x < 2 ^ 32 → y < 2 ^ 32 → z < 2 ^ 32 → ch x y z < 2 ^ 32
ch_below x y z p q r = xor_lt 32 (bit_and x y) (bit_and (complement x) z) (and_lt 32 x y p q) (and_lt 32 (complement x) z (omega arith) r)

-- The majority of words is a word.
pub maj_below : (x y z : ℕ) → x < 2 ^ 32 → y < 2 ^ 32 → z < 2 ^ 32 → maj x y z < 2 ^ 32
maj_below x y z p q r = xors_below (bit_and x y) (bit_and x z) (bit_and y z) (and_lt 32 x y p q) (and_lt 32 x z p r) (and_lt 32 y z q r)
