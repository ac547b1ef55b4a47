-- Lists in parts of one length and joined up, as the library has them and as the tree has them.
use Rattle.std.proofs.Common.{◌≡◌, ℕ, zero, suc, List, [], ◌∷◌, ◌++◌, take, drop, refl, ap}
use Rattle.std.specs.List.{flat_map}
use Rattle.std.specs.Simd.{first_chunks}
use Rattle.bytetree.specs.Pieces.{parts}
use Rattle.bytetree.specs.ByteTree.{joined_up}

-- Digests one after the other are joined up.
pub flat_joined : (ds : List (List ℕ)) → flat_map (λ d. d) ds ≡ joined_up ds
unfolding joined_up
flat_joined [] = refl
flat_joined (d ∷ ds) = ap (λ (r : List ℕ). d ++ r) (flat_joined ds)

-- The first arrays of a slice are its parts.
pub chunks_parts : (n k : ℕ) (xs : List ℕ) → first_chunks n k xs ≡ parts n k xs
unfolding parts
chunks_parts n zero xs = refl
chunks_parts n (suc k) xs = ap (λ (ps : List (List ℕ)). take n xs ∷ ps) (chunks_parts n k (drop n xs))
