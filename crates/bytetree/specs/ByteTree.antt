-- The tree over the pieces of a file as byte strings, the path of a piece, and what a path leads to. Assumes nothing.
use Rattle.std.specs.Prelude.{◌≡◌, ℕ, zero, suc, ◌-◌, ◌*◌, ◌/◌, ◌<◌, cond, ◌&&◌, List, [], ◌∷◌, ◌++◌, map, length, take, drop, Some, None, Option, ◌==◌, nat_lt}
use Rattle.sha256.specs.Sha256.{digest}
use Rattle.swarm.specs.Tree.{cut}
use Rattle.bytetree.specs.Pieces.{parts, piece_count, piece_length, pieces}

abbrev pub leaf : List ℕ → List ℕ
leaf piece = digest (0 ∷ piece)

abbrev pub node : List ℕ → List ℕ → List ℕ
node left right = digest (1 ∷ (left ++ right))

-- the root over a row of leaf digests
unfoldable pub root_f : ℕ → List (List ℕ) → List ℕ
root_f zero ds = []
root_f (suc f) [] = []
root_f (suc f) (d ∷ []) = d
root_f (suc f) (d ∷ (e ∷ ds)) =
    let all : List (List ℕ) = d ∷ (e ∷ ds) in
    node (root_f f (take (cut (length all)) all)) (root_f f (drop (cut (length all)) all))

abbrev pub root : List (List ℕ) → List ℕ
root ds = root_f (length ds) ds

-- the path of place m, the digest next to the root first
unfoldable pub path_f : ℕ → ℕ → List (List ℕ) → List (List ℕ)
path_f zero m ds = []
path_f (suc f) m [] = []
path_f (suc f) m (d ∷ []) = []
path_f (suc f) m (d ∷ (e ∷ ds)) =
    let all : List (List ℕ) = d ∷ (e ∷ ds) in
    let k = cut (length all) in
    cond (nat_lt m k) (root (drop k all) ∷ path_f f m (take k all)) (root (take k all) ∷ path_f f (m - k) (drop k all))

abbrev pub path : ℕ → List (List ℕ) → List (List ℕ)
path m ds = path_f (length ds) m ds

-- what a digest below leads to, with its sibling on the right or on the left
abbrev pub beside_right : List ℕ → Option (List ℕ) → Option (List ℕ)
beside_right p None = None
beside_right p (Some d) = Some (node d p)

abbrev pub beside_left : List ℕ → Option (List ℕ) → Option (List ℕ)
beside_left p None = None
beside_left p (Some d) = Some (node p d)

-- what a path leads to, from the digest at place m of n
unfoldable pub folds : ℕ → ℕ → List ℕ → List (List ℕ) → Option (List ℕ)
folds n m d [] = cond (n == 1 && m == 0) (Some d) None
folds n m d (p ∷ ps) = cond (nat_lt n 2) None (cond (nat_lt m (cut n)) (beside_right p (folds (cut n) m d ps)) (beside_left p (folds (n - cut n) (m - cut n) d ps)))

-- a path as it is sent and kept: digests of 32 bytes, one after the other
abbrev pub digests : List ℕ → List (List ℕ)
digests bs = parts 32 (length bs / 32) bs

unfoldable pub joined_up : List (List ℕ) → List ℕ
joined_up [] = []
joined_up (d ∷ ds) = d ++ joined_up ds

-- these bytes and this path lead to the root of a file of this length at place m
pub record Leads (len : ℕ) (top : List ℕ) (m : ℕ) (piece way : List ℕ) : Type 0 where
  pub there : m < piece_count len
  pub sized : length piece ≡ piece_length len m
  pub whole : length way ≡ 32 * (length way / 32)
  pub leads : folds (piece_count len) m (leaf piece) (digests way) ≡ Some top

-- the leaf digests of a file, and its root
abbrev pub leaves : List ℕ → List (List ℕ)
leaves file = map leaf (pieces file)

abbrev pub file_root : List ℕ → List ℕ
file_root file = root (leaves file)
