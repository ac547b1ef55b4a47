-- Parts that are hashed side by side, each behind a byte. Assumes nothing.
use Rattle.std.specs.Prelude.{ℕ, ◌+◌, Bool, true, ◌&&◌, List, length}
use Rattle.std.specs.Simd.Lanes.{fold_l}
use Rattle.sha256.specs.Hashers.{counts}

-- a padding can count the bytes of each
abbrev pub each_counts : List (List ℕ) → Bool
each_counts parts = fold_l (λ fits part. fits && counts (1 + length part)) true parts
