-- The tree of a whole file. Assumes nothing.
use Rattle.std.specs.Prelude.{◌≡◌, ℕ, List, vec_items}
use Rattle.std.proofs.Math.ListN as Lists
use Rattle.bytetree.specs.ByteTree.{leaves, file_root}
use Rattle.merkle.specs.declared.numbers.Numbers.{Numbers}
use Rattle.merkle.specs.declared.whole.Tree.{Tree}

-- the numbers of this file
pub record Known (file : List ℕ) (n : Numbers) : Type 0 where
  pub long : n.length ≡ Lists.length file
  pub top : n.root ≡ file_root file

-- and all its digests
pub record TreeOf (file : List ℕ) (t : Tree) : Type 0 where
  pub known : Known file t.numbers
  pub digests : vec_items t.leaves ≡ leaves file
