-- Byte strings that are hashed side by side: what of each is taken in, what is left, and which lane is whose. Assumes nothing.
use Rattle.std.specs.Prelude.{◌≡◌, ℕ, List, [], ◌∷◌, ◌++◌, flat_map, fold, min, length, take, drop}
use Rattle.sha256.specs.Lanes.{Lanes, lane}
use Rattle.sha256.specs.Streams.{Adds, Taken}
use Rattle.sha256.specs.declared.sides.Side.{Side}

-- the bytes m are those taken in, then the blocks, then what is left behind them
pub record Holds (m : List ℕ) (s : Side) : Type 0 where
  pub front : List ℕ
  pub taken : Taken front s.stream
  pub all : m ≡ front ++ (flat_map (λ b. b) s.blocks.now ++ s.back.now)

-- the new side is of the bytes that the old one was of
abbrev pub Keeps : Side → Side → Type 0
Keeps old new = (m : List ℕ) → Holds m old → Holds m new

-- the new side is the old one with its first n blocks taken in
pub record Behind (n : ℕ) (old new : Side) : Type 0 where
  pub adds : Adds (flat_map (λ b. b) (take n old.blocks.now)) old.stream new.stream
  pub blocks : new.blocks.now ≡ drop n old.blocks.now
  pub back : new.back.now ≡ old.back.now

-- how many blocks the side with the fewest has left
abbrev pub fewest : List Side → ℕ
fewest [] = 0
fewest (s ∷ ss) = fold (λ n t. min n (length t.blocks.now)) (length s.blocks.now) ss

-- the hash values in the four lanes
abbrev pub lanes : Lanes → List (List ℕ)
lanes v = lane 0 v ∷ lane 1 v ∷ lane 2 v ∷ lane 3 v ∷ []
