-- A number is the number that its bytes are, and bytes are the bytes of the number that they are.
use Rattle.std.proofs.Common.{◌≡◌, ℕ, zero, suc, ◌+◌, ◌*◌, ◌/◌, ◌%◌, ◌^◌, ◌<◌, List, [], ◌∷◌, length, refl, ◌∙◌, mod-eq_of_lt, arith}
use native.Mathlib.Nat.{mod-one, one-le-pow, pow-succ'}
use lib.Arith.{digits_div, digits_mod, mod-mul}
use Rattle.std.proofs.lemmas.Int.Digits.{number_lt}
use Rattle.std.specs.Int.Digits.{number_from_digits_after, number_from_digits, AllBelowBase}
use Rattle.wire.specs.Bytes.{number_of, bytes_of}

-- the bytes of a number after another number
after-bytes : (k a n : ℕ) → number_from_digits_after 256 a (bytes_of k n) ≡ a * 256 ^ k + n % 256 ^ k
after-bytes zero a n = omega (arith, mod-one n)
after-bytes (suc k) a n =
    let h = after-bytes k (a * 256 + n / 256 ^ k % 256) n in
    let m = mod-mul n {m = 256} {c = 256 ^ k} (omega arith) (one-le-pow k 256 (omega arith)) in
    rw (pow-succ' 256 k) (omega arith)

-- the number of a number's bytes
pub number-bytes : (k n : ℕ) → n < 256 ^ k → number_of (bytes_of k n) ≡ n
number-bytes k n h = after-bytes k 0 n ∙ omega (arith, mod-eq_of_lt h)

-- digits after a number are that number in front of theirs
after-number : (n : ℕ) (ds : List ℕ) → number_from_digits_after 256 n ds ≡ n * 256 ^ length ds + number_from_digits 256 ds
after-number n [] = omega arith
after-number n (d ∷ ds) =
    let h = after-number (n * 256 + d) ds in
    let z = after-number (0 * 256 + d) ds in
    rw (pow-succ' 256 (length ds)) (omega arith)

bytes_after : (a : ℕ) (bs : List ℕ) → AllBelowBase 256 bs → bytes_of (length bs) (number_from_digits_after 256 a bs) ≡ bs
bytes_after a [] u = refl
bytes_after a (b ∷ bs) u =
    let e = after-number (a * 256 + b) bs in
    let q = digits_div (a * 256 + b) (number_lt 256 bs u.1) in
    let r = digits_mod a u.0 in
    let t = bytes_after (a * 256 + b) bs u.1 in
    cc

-- the bytes of the number that k bytes are, and how great it can be
pub bytes-number : (k : ℕ) (bs : List ℕ) → length bs ≡ k → AllBelowBase 256 bs → (bytes_of k (number_of bs) ≡ bs) × (number_of bs < 256 ^ k)
bytes-number k bs e u = rw (← e) (bytes_after 0 bs u, number_lt 256 bs u)
