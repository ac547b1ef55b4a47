-- The digests of a path. Assumes nothing.
use Rattle.std.specs.Prelude.{◌≡◌, ℕ, ◌<◌, ◌≤◌, List, Option, MatchOption, take}
use Rattle.bytetree.specs.ByteTree.{path}
use Rattle.merkle.specs.declared.path.Path.{Path}

abbrev pub steps : Path → List (List ℕ)
steps p = take p.count p.digests

-- the path of place m among n leaf digests, or nothing where there is no such place
abbrev pub PathOf : (m n : ℕ) → List (List ℕ) → Option Path → Type 0
PathOf m n ds found = MatchOption found (n ≤ m) (λ p. (m < n) × (steps p ≡ path m ds))
