-- SHA-256 of a byte string: padding, schedule, rounds and digest. Assumes nothing.
use Rattle.std.specs.Prelude.{ℕ, zero, suc, ◌+◌, ◌-◌, ◌*◌, ◌/◌, ◌%◌, ◌^◌, ◌<◌, List, [], ◌∷◌, ◌++◌, length, take, drop, replicate, slice_index}
use Rattle.std.specs.Simd.Lanes.{zip2}
use Rattle.std.specs.List.{AllByRecursion}
use Rattle.sha256.specs.Words.{add, ch, maj, bsig0, bsig1, ssig0, ssig1}
use Rattle.sha256.specs.Constants.{constants, initial}

-- what has a digest: bytes, and so many that 64 bits hold the number of their bits
pub record Message (m : List ℕ) : Type 0 where
  pub bytes : AllByRecursion (λ b. b < 256) m
  pub short : length m < 2 ^ 61

-- four bytes as a word and a word as four bytes, the high byte first
abbrev pub word : ℕ → ℕ → ℕ → ℕ → ℕ
word a b c d = a * 16777216 + b * 65536 + c * 256 + d

unfoldable pub words : List ℕ → List ℕ
words [] = []
words (a ∷ []) = []
words (a ∷ b ∷ []) = []
words (a ∷ b ∷ c ∷ []) = []
words (a ∷ b ∷ c ∷ d ∷ bs) = word a b c d ∷ words bs

abbrev pub word_bytes : ℕ → List ℕ
word_bytes w = (w / 16777216 % 256) ∷ (w / 65536 % 256) ∷ (w / 256 % 256) ∷ (w % 256) ∷ []

unfoldable pub bytes : List ℕ → List ℕ
bytes [] = []
bytes (w ∷ ws) = word_bytes w ++ bytes ws

-- the bytes after a message of n bytes: a bit 1, as few bits 0 as fill a block, and the number of bits in 64 bits
abbrev pub padding : ℕ → List ℕ
padding n = 128 ∷ (replicate ((119 - n % 64) % 64) 0 ++ (word_bytes (8 * n / 2 ^ 32) ++ word_bytes (8 * n)))

abbrev pub pad : List ℕ → List ℕ
pad m = m ++ padding (length m)

-- word t + 16, from the sixteen before it
abbrev pub next_word : List ℕ → ℕ → ℕ
next_word ws t = add (add (add (ssig1 (slice_index ws (t + 14))) (slice_index ws (t + 9))) (ssig0 (slice_index ws (t + 1)))) (slice_index ws t)

-- the words of a block, and t more
unfoldable pub schedule : List ℕ → ℕ → List ℕ
schedule ws zero = ws
schedule ws (suc t) = schedule ws t ++ (next_word (schedule ws t) t ∷ [])

-- one round, on the working variables a to h, with a constant and a word
abbrev pub round_on : ℕ → ℕ → ℕ → ℕ → ℕ → ℕ → ℕ → ℕ → ℕ → ℕ → List ℕ
round_on k w a b c d e f g h =
    let t1 = add (add (add (add h (bsig1 e)) (ch e f g)) k) w in
    let t2 = add (bsig0 a) (maj a b c) in
    add t1 t2 ∷ a ∷ b ∷ c ∷ add d t1 ∷ e ∷ f ∷ g ∷ []

abbrev pub round : ℕ → ℕ → List ℕ → List ℕ
round k w vs = round_on k w (slice_index vs 0) (slice_index vs 1) (slice_index vs 2) (slice_index vs 3) (slice_index vs 4) (slice_index vs 5) (slice_index vs 6) (slice_index vs 7)

-- the working variables after t rounds
unfoldable pub rounds : List ℕ → List ℕ → ℕ → List ℕ
rounds ws h zero = h
rounds ws h (suc t) = round (slice_index constants t) (slice_index (schedule ws 48) t) (rounds ws h t)

-- the hash value after a block of sixteen words
abbrev pub compress : List ℕ → List ℕ → List ℕ
compress h ws = zip2 add h (rounds ws h 64)

-- block i of a byte string, as words
abbrev pub block : List ℕ → ℕ → List ℕ
block bs i = words (take 64 (drop (64 * i) bs))

-- the hash value after the first i blocks
unfoldable pub hashed : List ℕ → ℕ → List ℕ
hashed bs zero = initial
hashed bs (suc i) = compress (hashed bs i) (block bs i)

unfoldable pub digest : List ℕ → List ℕ
digest m = bytes (hashed (pad m) (length (pad m) / 64))
