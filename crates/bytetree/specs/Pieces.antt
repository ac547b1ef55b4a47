-- A file as pieces of 16,384 bytes, the last one perhaps shorter. Assumes nothing.
use Rattle.std.specs.Prelude.{ℕ, zero, suc, ◌+◌, ◌-◌, ◌*◌, ◌/◌, min, List, [], ◌∷◌, length, take, drop}

-- k parts of n, and less where there is no more
unfoldable pub parts : {X : Type 0} → ℕ → ℕ → List X → List (List X)
parts n zero xs = []
parts n (suc k) xs = take n xs ∷ parts n k (drop n xs)

-- how many pieces a file of this many bytes has
abbrev pub piece_count : ℕ → ℕ
piece_count len = (len + 16383) / 16384

-- how long piece m of such a file is
abbrev pub piece_length : ℕ → ℕ → ℕ
piece_length len m = min 16384 (len - 16384 * m)

abbrev pub pieces : List ℕ → List (List ℕ)
pieces file = parts 16384 (piece_count (length file)) file
