-- Whatever leads to a file's root is the file's, or hands over two byte strings of one digest: which two, and what is claimed of them. Assumes nothing.
use Rattle.std.specs.Prelude.{◌≡◌, ℕ, ◌-◌, ◌<◌, Bool, true, false, cond, ◌&&◌, ◌≢◌, List, [], ◌∷◌, ◌++◌, map, length, take, drop, Some, None, Option, ◌==◌, nat_lt, slice_index_or}
use Rattle.std.specs.List.{AllByRecursion}
use Rattle.sha256.specs.Sha256.{digest, Message}
use Rattle.swarm.specs.Tree.{cut}
use Rattle.bytetree.specs.Pieces.{pieces}
use Rattle.bytetree.specs.ByteTree.{leaf, root, path, folds, digests, joined_up, leaves, file_root, Leads}

pub data Pair : Type 0 where
  Two : List ℕ → List ℕ → Pair

-- two different byte strings with one SHA-256
pub record Collision (x y : List ℕ) : Type 0 where
  pub first : Message x
  pub second : Message y
  pub differ : x ≢ y
  pub agree : digest x ≡ digest y

unfoldable pub same : List ℕ → List ℕ → Bool
same [] [] = true
same [] (y ∷ ys) = false
same (x ∷ xs) [] = false
same (x ∷ xs) (y ∷ ys) = x == y && same xs ys

-- two strings that should be the same: the pair if they differ, otherwise what is found further down
abbrev pub unless : List ℕ → List ℕ → Option Pair → Option Pair
unless xs ys further = cond (same xs ys) further (Some (Two xs ys))

-- the digest that a path leads to, or nothing at all
abbrev pub reached : Option (List ℕ) → List ℕ
reached None = []
reached (Some d) = d

-- from the root down: at each node the bytes that were hashed for the file beside those hashed along the path, at the end the two pieces
unfoldable pub clash : List (List ℕ) → ℕ → List ℕ → List (List ℕ) → Option Pair
clash xs m piece [] = unless (0 ∷ slice_index_or xs 0 []) (0 ∷ piece) None
clash xs m piece (p ∷ ps) =
    let k = cut (length xs) in
    let left = take k xs in
    let right = drop k xs in
    let file : List ℕ = 1 ∷ (root (map leaf left) ++ root (map leaf right)) in
    cond (nat_lt m k)
    (unless file (1 ∷ (reached (folds k m (leaf piece) ps) ++ p)) (clash left m piece ps))
    (unless file (1 ∷ (p ++ reached (folds (length xs - k) (m - k) (leaf piece) ps))) (clash right (m - k) piece ps))

-- the two strings of a file, a place, and bytes and a path that lead to its root there
abbrev pub found : List ℕ → ℕ → List ℕ → List ℕ → Option Pair
found file m piece way = clash (pieces file) m piece (digests way)

-- without two strings these are the file's bytes at that place, and the path is the path
abbrev pub Verdict : List ℕ → ℕ → List ℕ → List ℕ → Option Pair → Type 0
Verdict file m piece way None = (piece ≡ slice_index_or (pieces file) m []) × (way ≡ joined_up (path m (leaves file)))
Verdict file m piece way (Some (Two x y)) = Collision x y

abbrev pub CollisionOrRight : Type 0
CollisionOrRight = (file piece way : List ℕ) (m : ℕ) → Message file → AllByRecursion (λ b. b < 256) piece → AllByRecursion (λ b. b < 256) way →
    Leads (length file) (file_root file) m piece way → Verdict file m piece way (found file m piece way)
