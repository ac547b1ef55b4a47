-- The tree over bytes is the image of the tree of terms, place by place; the laws of paths and of pieces. Assumes nothing.
use Rattle.std.specs.Prelude.{◌≡◌, ℕ, ◌^◌, ◌<◌, ◌≤◌, List, [], map, length, Some, None, Option, slice_index_or}
use Rattle.std.specs.Simd.Lanes.{sum_l}
use Rattle.std.specs.List.{range_with_len}
use Rattle.swarm.specs.Tree.{Dig, NoLeaf, Leaf, Node, Maybe, Is, top, way, leads}
use Rattle.swarm.specs.Tree as Tree
use Rattle.bytetree.specs.Pieces.{piece_count, piece_length, pieces}
use Rattle.bytetree.specs.ByteTree.{leaf, node, root, path, folds, joined_up, leaves, file_root, Leads}

-- the bytes of a digest that is a term, where f gives the bytes of each piece
unfoldable pub image : (ℕ → List ℕ) → Dig → List ℕ
image f NoLeaf = []
image f (Leaf x) = leaf (f x)
image f (Node a b) = node (image f a) (image f b)

abbrev pub image_of : (ℕ → List ℕ) → Maybe → Option (List ℕ)
image_of f Tree.None = None
image_of f (Is d) = Some (image f d)

-- roots, paths and what paths lead to
pub record ImageOfTerms : Type 0 where
  pub of_root : (f : ℕ → List ℕ) (xs : List ℕ) → root (map (λ x. leaf (f x)) xs) ≡ image f (top xs)
  pub of_path : (f : ℕ → List ℕ) (m : ℕ) (xs : List ℕ) → path m (map (λ x. leaf (f x)) xs) ≡ map (image f) (way m xs)
  pub of_folds : (f : ℕ → List ℕ) (n m x : ℕ) (ps : List Dig) → folds n m (leaf (f x)) (map (image f) ps) ≡ image_of f (leads n m (Leaf x) ps)

-- the path of a place leads from what stands there to the root
abbrev pub PathLeads : Type 0
PathLeads = (m : ℕ) (ds : List (List ℕ)) → m < length ds → folds (length ds) m (slice_index_or ds m []) (path m ds) ≡ Some (root ds)

-- what a file has at a place, and the path of that place as it is sent, lead to the file's root
abbrev pub OwnLeads : Type 0
OwnLeads = (file : List ℕ) (m : ℕ) → m < piece_count (length file) → Leads (length file) (file_root file) m (slice_index_or (pieces file) m []) (joined_up (path m (leaves file)))

-- the path of a row of at most 2 ^ k is no longer than k
abbrev pub PathShort : Type 0
PathShort = (k m : ℕ) (ds : List (List ℕ)) → length ds ≤ 2 ^ k → length (path m ds) ≤ k

-- the pieces of a file are the file, each as long as it should be, and their lengths add up
pub record PiecesAddUp : Type 0 where
  pub all : (file : List ℕ) → joined_up (pieces file) ≡ file
  pub counted : (file : List ℕ) → length (pieces file) ≡ piece_count (length file)
  pub sized : (file : List ℕ) (m : ℕ) → m < piece_count (length file) → length (slice_index_or (pieces file) m []) ≡ piece_length (length file) m
  pub sum : (len : ℕ) → sum_l (map (piece_length len) (range_with_len 0 (piece_count len))) ≡ len
