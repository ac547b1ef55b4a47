-- What a hasher has taken in. Assumes nothing.
use Rattle.std.specs.Prelude.{ℕ, ◌^◌, Bool, List, nat_lt}
use Rattle.sha256.specs.Streams.{Taken}
use Rattle.sha256.specs.declared.hasher.Hasher.{Hasher}

-- exactly the bytes m
abbrev pub Took : List ℕ → Hasher → Type 0
Took m h = Taken m h.stream

-- a padding can count this many bytes
abbrev pub counts : ℕ → Bool
counts n = nat_lt n (2 ^ 61)
