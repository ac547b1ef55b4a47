-- Four blocks side by side: a vector is the list of its four lanes, and each block has a lane of its own. Assumes nothing.
use Rattle.std.specs.Prelude.{ℕ, List, [], ◌∷◌, map, slice_index}
use Rattle.sha256.specs.Steps.{values}
use Rattle.sha256.specs.declared.rounds.Variables.{Variables}

-- the working variables of the four
abbrev pub Lanes : Type 0
Lanes = Variables (List ℕ)

-- lane i of the eight working variables
abbrev pub lane : ℕ → Lanes → List ℕ
lane i v = values (λ x. slice_index x i) v

-- lane i of each word
abbrev pub column : ℕ → List (List ℕ) → List ℕ
column i w = map (λ x. slice_index x i) w

-- the four lanes, each with its sixteen words
abbrev pub columns : List (List ℕ) → List (List ℕ)
columns w = column 0 w ∷ column 1 w ∷ column 2 w ∷ column 3 w ∷ []
