-- What the library reads of bytes, the high byte first, is the number that they are.
use Rattle.std.proofs.Common.{◌≡◌, ℕ, zero, suc, add-one, ◌+◌, ◌-◌, ◌*◌, ◌^◌, ◌<◌, List, length, get_or, take, refl, ap, ◌∙◌, arith}
use native.Mathlib.Nat.{pow-succ'}
use Rattle.std.proofs.lemmas.Int.Digits.{number_more}
use Rattle.std.proofs.lemmas.List.{take_all}
use Rattle.std.specs.Int.{w16, w32, w64, byte_worth, sum_through, from_be_bytes}
use Rattle.wire.specs.Bytes.{number_of}

worth : (i w b : ℕ) → i ≡ w → byte_worth i b ≡ b * 256 ^ w
worth zero w b e = rw (← e) (omega arith)
worth (suc i) w b e = rw (← e) refl

-- the sum of the first bytes by their weights is the number that they are, by the weight of the last of them
front : (bs : List ℕ) (k j w : ℕ) → j + w ≡ k → k < length bs → sum_through (λ i. byte_worth (k - i) (get_or bs i 0)) j ≡ number_of (take (suc j) bs) * 256 ^ w
front bs k zero w e l =
    let first : get_or bs 0 0 ≡ number_of (take 1 bs) = omega (arith, number_more 256 bs 0 (omega arith)) in
    worth (k - 0) w (get_or bs 0 0) (omega arith) ∙ ap (λ n. n * 256 ^ w) first
front bs k (suc j) w e l =
    let m : number_of (take (suc (suc j)) bs) ≡ number_of (take (suc j) bs) * 256 + get_or bs (suc j) 0 = rw (← add-one (suc j)) (number_more 256 bs (suc j) (omega arith)) in
    let h = front bs k j (suc w) (omega arith) l in
    let s = worth (k - suc j) w (get_or bs (suc j) 0) (omega arith) in
    let p = pow-succ' 256 w in
    rw (h, s, p, m) (omega arith)

-- so the library's reading is that number, at each width
whole : (bs : List ℕ) (k : ℕ) → length bs ≡ suc k → sum_through (λ i. byte_worth (k - i) (get_or bs i 0)) k ≡ number_of bs
whole bs k l = front bs k k 0 (omega arith) (omega arith) ∙ omega (arith, ap number_of (take_all (suc k) bs (omega arith)))

pub from_two : (bs : List ℕ) → length bs ≡ 2 → from_be_bytes w16 bs ≡ number_of bs
from_two bs l = whole bs 1 l

pub from_four : (bs : List ℕ) → length bs ≡ 4 → from_be_bytes w32 bs ≡ number_of bs
from_four bs l = whole bs 3 l

pub from_eight : (bs : List ℕ) → length bs ≡ 8 → from_be_bytes w64 bs ≡ number_of bs
from_eight bs l = whole bs 7 l
