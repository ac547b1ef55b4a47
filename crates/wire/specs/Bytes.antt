-- Numbers as bytes, the high byte first. Assumes nothing.
use Rattle.std.specs.Prelude.{ℕ, zero, suc, ◌/◌, ◌%◌, ◌^◌, List, [], ◌∷◌}
use Rattle.std.specs.Int.Digits.{number_from_digits}

-- the number that bytes are
abbrev pub number_of : List ℕ → ℕ
number_of bs = number_from_digits 256 bs

-- a number as so many bytes
abbrev pub bytes_of : ℕ → ℕ → List ℕ
bytes_of zero n = []
bytes_of (suc k) n = (n / 256 ^ k % 256) ∷ bytes_of k n
