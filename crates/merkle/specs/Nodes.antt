-- The nodes of a tree in a row: those of the left half, the root, those of the right half. Assumes nothing.
use Rattle.std.specs.Prelude.{ℕ, zero, suc, List, [], ◌∷◌, ◌++◌, length, take, drop}
use Rattle.bytetree.specs.ByteTree.{root}
use Rattle.swarm.specs.Tree.{cut}

unfoldable pub inner_f : ℕ → List (List ℕ) → List (List ℕ)
inner_f zero ds = []
inner_f (suc f) [] = []
inner_f (suc f) (d ∷ []) = []
inner_f (suc f) (d ∷ (e ∷ ds)) =
    let all : List (List ℕ) = d ∷ (e ∷ ds) in
    inner_f f (take (cut (length all)) all) ++ (root all ∷ inner_f f (drop (cut (length all)) all))

-- one node less than there are leaves
abbrev pub inner : List (List ℕ) → List (List ℕ)
inner ds = inner_f (length ds) ds
