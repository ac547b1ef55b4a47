-- What was taken in of a file. Assumes nothing.
use Rattle.std.specs.Prelude.{◌≡◌, ℕ, ◌+◌, ◌%◌, Bool, ◌&&◌, List, ◌++◌, vec_items, ◌==◌, nat_le}
use Rattle.std.proofs.Math.ListN as Lists
use Rattle.bytetree.specs.ByteTree.{leaves}
use Rattle.merkle.specs.declared.digests.Digests.{Digests}

-- exactly these bytes
pub record Of (file : List ℕ) (d : Digests) : Type 0 where
  pub digests : vec_items d.leaves ≡ leaves file
  pub counted : d.taken ≡ Lists.length file

-- what was taken in goes on by these bytes, of a file that stays as long
pub record TakesIn (part : List ℕ) (before after : Digests) : Type 0 where
  pub taken : (file : List ℕ) → Of file before → Of (file ++ part) after
  pub counted : after.taken ≡ before.taken + Lists.length part
  pub same : after.length ≡ before.length

-- can so many bytes follow: what was taken in are whole pieces, and the file is long enough
abbrev pub follows : Digests → ℕ → Bool
follows d n = d.taken % 16384 == 0 && nat_le (d.taken + n) d.length

-- was all of the file taken in
abbrev pub complete : Digests → Bool
complete d = d.taken == d.length
