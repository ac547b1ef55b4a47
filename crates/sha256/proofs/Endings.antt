-- A stream's end: the bytes of a hash value by their places, and the padding part by part.
use Rattle.std.proofs.Common.{◌≡◌, ℕ, zero, suc, ◌-◌, ◌*◌, ◌/◌, ◌%◌, ◌^◌, ◌<◌, ◌≤◌, List, [], ◌∷◌, ◌++◌, length, get_or, take, replicate, sym, refl, ap, ◌∙◌, subst, arith}
use native.Mathlib.Nat.{div-div-eq-div-mul}
use Rattle.std.proofs.lemmas.List.{append_assoc}
use Rattle.std.proofs.lemmas.Grind.{same_number_lists}
use Rattle.sha256.specs.Sha256.{word_bytes, bytes, pad, digest}
use Rattle.sha256.specs.Streams.{Taken}
use Rattle.sha256.proofs.Laws.{length-bytes}
use Rattle.sha256.specs.declared.stream.Stream.{Stream}

get_or-bytes : (ws : List ℕ) (i : ℕ) → i < 4 * length ws → get_or (bytes ws) i 0 ≡ get_or (word_bytes (get_or ws (i / 4) 0)) (i % 4) 0
unfolding bytes
get_or-bytes [] i h = absurd (omega arith)
get_or-bytes (w ∷ ws) zero h = refl
get_or-bytes (w ∷ ws) (suc zero) h = refl
get_or-bytes (w ∷ ws) (suc (suc zero)) h = refl
get_or-bytes (w ∷ ws) (suc (suc (suc zero))) h = refl
get_or-bytes (w ∷ ws) (suc (suc (suc (suc i)))) h =
    let place : suc (suc (suc (suc i))) / 4 ≡ suc (i / 4) = omega arith in
    let left : suc (suc (suc (suc i))) % 4 ≡ i % 4 = omega arith in
    rw (place, left) (get_or-bytes ws i (omega arith))

-- The bytes of a hash value, each by its place.
pub bytes_are : (value out : List ℕ) → length value ≡ 8 → length out ≡ 32 → ((i : ℕ) → i < 32 → get_or out i 0 ≡ get_or (word_bytes (get_or value (i / 4) 0)) (i % 4) 0) → out ≡ bytes value
bytes_are value out l m each =
    same_number_lists out (bytes value) (omega (arith, l, m, length-bytes value)) (λ i h. each i (omega (arith, m)) ∙ sym (get_or-bytes value i (omega (arith, l, m))))

-- The number of bits in eight bytes is that in two words.
pub bits_are : (x : ℕ) →
    (x / 72057594037927936 % 256) ∷ (x / 281474976710656 % 256) ∷ (x / 1099511627776 % 256) ∷ (x / 4294967296 % 256) ∷ (x / 16777216 % 256) ∷ (x / 65536 % 256) ∷ (x / 256 % 256) ∷ (x % 256) ∷ []
    ≡ word_bytes (x / 4294967296) ++ word_bytes x
bits_are x = rw (div-div-eq-div-mul x 4294967296 16777216, div-div-eq-div-mul x 4294967296 65536, div-div-eq-div-mul x 4294967296 256) refl

-- The padding, part by part.
pub ended : {s : Stream} (m zeros bits : List ℕ) → zeros ≡ replicate ((119 - length m % 64) % 64) 0 → bits ≡ word_bytes (8 * length m / 2 ^ 32) ++ word_bytes (8 * length m) →
    Taken (((m ++ (128 ∷ [])) ++ zeros) ++ bits) s → bytes s.value ≡ digest m
unfolding digest
ended {s} m zeros bits p q t =
    let same : ((m ++ (128 ∷ [])) ++ zeros) ++ bits ≡ pad m = rw (append_assoc (m ++ (128 ∷ [])) zeros bits, append_assoc m (128 ∷ []) (zeros ++ bits), p, q) refl in
    ap bytes (subst (λ (xs : List ℕ). Taken xs s) same t).hashes

take-replicate : (k n d : ℕ) → k ≤ n → take k (replicate n d) ≡ replicate k d
take-replicate zero n d le = refl
take-replicate (suc k) zero d le = absurd (omega arith)
take-replicate (suc k) (suc n) d le = ap {B = List ℕ} (λ (xs : List ℕ). d ∷ xs) (take-replicate k n d (omega arith))

-- Some of 64 zeros.
pub zeros_are : (k z : ℕ) → k ≡ z → z ≤ 64 → take {A = ℕ} k (replicate 64 0) ≡ replicate z 0
zeros_are k z e le = ap (λ (j : ℕ). take {A = ℕ} j (replicate 64 0)) e ∙ take-replicate z 64 0 le
