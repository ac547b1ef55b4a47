-- The hash value as bytes come in: what a front settles, what one more block does, and how long the padding is.
use Rattle.std.proofs.Common.{◌≡◌, ℕ, zero, suc, ◌+◌, ◌-◌, ◌*◌, ◌/◌, ◌%◌, ◌<◌, ◌≤◌, List, ◌++◌, length, take, drop, refl, ap, ◌∙◌, ap₂, arith, length-append, length-drop}
use lib.ListN.{length-replicate}
use Rattle.std.proofs.lemmas.List.{take-append-le, drop-append-le, take_all, drop_at}
use Rattle.sha256.specs.Sha256.{words, padding, pad, compress, block, hashed}

block_front : (m more : List ℕ) (i : ℕ) → 64 * suc i ≤ length m → block (m ++ more) i ≡ block m i
block_front m more i h =
    let l : 64 * i ≤ length m = omega arith in
    let k : 64 ≤ length (drop (64 * i) m) = omega (arith, length-drop (64 * i) m) in
    ap words (ap (take 64) (drop-append-le (64 * i) m more l) ∙ take-append-le 64 (drop (64 * i) m) more k)

-- What follows the first i blocks doesn't change the hash value after them.
pub hashed_front : (m more : List ℕ) (i : ℕ) → 64 * i ≤ length m → hashed (m ++ more) i ≡ hashed m i
unfolding hashed
hashed_front m more zero h = refl
hashed_front m more (suc i) h = ap₂ compress (hashed_front m more i (omega arith)) (block_front m more i h)

hashed_suc : (bs : List ℕ) (i : ℕ) → hashed bs (suc i) ≡ compress (hashed bs i) (block bs i)
unfolding hashed
hashed_suc bs i = refl

block_last : (m part : List ℕ) (i : ℕ) → length m ≡ 64 * i → length part ≡ 64 → block (m ++ part) i ≡ words part
block_last m part i e f = ap words (ap (take 64) (drop_at m part (64 * i) e) ∙ take_all 64 part (omega arith))

-- One more block after whole blocks is one more step.
pub hashed-next : (m part : List ℕ) → length m % 64 ≡ 0 → length part ≡ 64 → hashed (m ++ part) (length (m ++ part) / 64) ≡ compress (hashed m (length m / 64)) (words part)
hashed-next m part e f =
    let i = length m / 64 in
    let k : length (m ++ part) / 64 ≡ suc i = omega (arith, length-append m part) in
    ap (hashed (m ++ part)) k ∙ hashed_suc (m ++ part) i
    ∙ ap₂ compress (hashed_front m part i (omega arith)) (block_last m part i (omega arith) f)

length-padding : (n : ℕ) → length (padding n) ≡ (119 - n % 64) % 64 + 9
length-padding n = simp (length-append, length-replicate) (omega arith)

-- A padded message is whole blocks.
pub length-pad : (m : List ℕ) → length (pad m) % 64 ≡ 0
length-pad m = omega (arith, length-append m (padding (length m)), length-padding (length m))

-- Where the last block has room for the number of bits, the padding fills that block.
pub length_padding_one : (m : List ℕ) → length m % 64 < 56 → length (padding (length m)) ≡ 64 - length m % 64
length_padding_one m h = omega (arith, length-padding (length m))

-- Where it has none, the padding fills one more.
pub length_padding_two : (m : List ℕ) → 56 ≤ length m % 64 → length (padding (length m)) ≡ 128 - length m % 64
length_padding_two m h = omega (arith, length-padding (length m))
