-- A hash value is eight words, and a digest is 32 bytes.
use Rattle.std.proofs.Common.{◌≡◌, ℕ, zero, suc, ◌*◌, ◌/◌, ◌^◌, ◌<◌, List, [], ◌∷◌, length, sym, refl, ap, ◌∙◌, arith}
use lib.Lanes.{zip2}
use lib.LanesLaws.{length-zip2}
use Rattle.std.specs.List.{AllByRecursion}
use Rattle.sha256.specs.Words.{add}
use Rattle.sha256.specs.Constants.{initial}
use Rattle.sha256.specs.Sha256.{rounds, compress, block, hashed, bytes, pad, digest}

-- There are eight working variables after any number of rounds.
pub length-rounds : (ws h : List ℕ) (t : ℕ) → length h ≡ 8 → length (rounds ws h t) ≡ 8
unfolding rounds
length-rounds ws h zero e = e
length-rounds ws h (suc t) e = refl

-- A block leaves a hash value of eight elements.
pub length-compress : (h ws : List ℕ) → length h ≡ 8 → length (compress h ws) ≡ 8
length-compress h ws e = length-zip2 add h (rounds ws h 64) (e ∙ sym (length-rounds ws h 64 e)) ∙ e

-- A hash value has eight elements.
pub length-hashed : (bs : List ℕ) (i : ℕ) → length (hashed bs i) ≡ 8
unfolding hashed initial
length-hashed bs zero = refl
length-hashed bs (suc i) = length-compress (hashed bs i) (block bs i) (length-hashed bs i)

-- Each word has four bytes.
pub length-bytes : (ws : List ℕ) → length (bytes ws) ≡ 4 * length ws
unfolding bytes
length-bytes [] = refl
length-bytes (w ∷ ws) = omega (arith, length-bytes ws)

-- A digest has 32 elements.
pub length-digest : (m : List ℕ) → length (digest m) ≡ 32
unfolding digest
length-digest m = length-bytes (hashed (pad m) (length (pad m) / 64)) ∙ ap (λ n. 4 * n) (length-hashed (pad m) (length (pad m) / 64))

all-bytes : (ws : List ℕ) → AllByRecursion (λ b. b < 256) (bytes ws)
unfolding bytes
all-bytes [] = tt
all-bytes (w ∷ ws) = (omega arith, (omega arith, (omega arith, (omega arith, all-bytes ws))))

-- Each element of a digest is a byte.
pub bytes-digest : (m : List ℕ) → AllByRecursion (λ b. b < 256) (digest m)
unfolding digest
bytes-digest m = all-bytes (hashed (pad m) (length (pad m) / 64))

sums_below : (xs ys : List ℕ) → AllByRecursion (λ w. w < 2 ^ 32) (zip2 add xs ys)
sums_below [] ys = tt
sums_below (x ∷ xs) [] = tt
sums_below (x ∷ xs) (y ∷ ys) = (omega arith, sums_below xs ys)

-- Each element of a hash value is a word.
pub hashed_below : (bs : List ℕ) (i : ℕ) → AllByRecursion (λ w. w < 2 ^ 32) (hashed bs i)
unfolding hashed initial
hashed_below bs zero = omega arith
hashed_below bs (suc i) = sums_below (hashed bs i) (rounds (block bs i) (hashed bs i) 64)
