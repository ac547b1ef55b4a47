-- What a stream of bytes has left in a hasher. Assumes nothing.
use Rattle.std.specs.Prelude.{◌≡◌, ℕ, ◌+◌, ◌*◌, ◌/◌, ◌%◌, ◌^◌, ◌<◌, List, ◌++◌, fold, length, take, drop}
use Rattle.sha256.specs.Sha256.{hashed, compress, words}
use Rattle.sha256.specs.declared.stream.Stream.{Stream}

-- a hash value after the blocks that follow it
abbrev pub after : List ℕ → List (List ℕ) → List ℕ
after value blocks = fold (λ v block. compress v (words block)) value blocks

-- exactly the bytes m have been taken in: the whole blocks are in the hash value, the others at hand
pub record Taken (m : List ℕ) (s : Stream) : Type 0 where
  pub hashes : s.value ≡ hashed m (length m / 64)
  pub held : take (length m % 64) s.rest ≡ drop (64 * (length m / 64)) m
  pub counted : s.count ≡ length m

-- n bytes more are no more than the stream can count
abbrev pub Fits : Stream → ℕ → Type 0
Fits s n = s.count + n < 2 ^ 64

-- the new stream has taken in a part behind what the old one had
pub record Adds (part : List ℕ) (old new : Stream) : Type 0 where
  pub taken : (m : List ℕ) → Taken m old → Taken (m ++ part) new
  pub counted : new.count ≡ old.count + length part
