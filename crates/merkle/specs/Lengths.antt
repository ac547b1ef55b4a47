-- How long a file can be. Assumes nothing.
use Rattle.std.specs.Prelude.{ℕ, ◌^◌, ◌≤◌, Bool, ◌&&◌, nat_le}

-- can a file have so many bytes
abbrev pub is_length : ℕ → Bool
is_length len = nat_le 1 len && nat_le len (2 ^ 30)

-- a file can have so many bytes
abbrev pub IsLength : ℕ → Type 0
IsLength len = (1 ≤ len) × (len ≤ 2 ^ 30)
