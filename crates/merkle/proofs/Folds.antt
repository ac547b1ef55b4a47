-- What a path leads to, digest by digest.
use Rattle.std.proofs.Common.{◌≡◌, ℕ, ◌-◌, ◌<◌, ◌≤◌, ◌&&◌, ◌==◌, List, [], ◌∷◌, length, None, Option, arith}
use Rattle.std.specs.Bool.{then_some}
use Rattle.std.proofs.lemmas.Bool.Decides.{nat_tests}
use Rattle.swarm.specs.Tree.{cut}
use Rattle.bytetree.specs.ByteTree.{folds, beside_right, beside_left}
use Rattle.bytetree.proofs.Trees.{folds_in_front, folds_in_back}

module _ (n m : ℕ) (d : List ℕ) where
  -- A path that is at its end leads from the digest of a single piece to that digest, and nowhere from another place, or among more pieces.
  pub leads_at_end : (way : List (List ℕ)) → length way ≡ 0 → then_some (n == 1 && m == 0) d ≡ folds n m d way
  unfolding folds
  leads_at_end [] h = grind (arith, nat_tests)
  leads_at_end (p ∷ ps) h = absurd (omega arith)

  -- A path that is not at its end leads nowhere from a single piece.
  pub too_long : (way : List (List ℕ)) → 0 < length way → n < 2 → folds n m d way ≡ None
  unfolding folds
  too_long [] h few = absurd (omega arith)
  too_long (p ∷ ps) h few = grind (arith, nat_tests)

  module _ {k : ℕ} {first : List ℕ} {rest way : List (List ℕ)} {inner : Option (List ℕ)} (two : 1 < n) (halves : k ≡ cut n) (split : way ≡ first ∷ rest) where
    -- From a place in the front it leads to what the rest of it leads to there, beside its first digest.
    pub leads_in_front : m < k → inner ≡ folds k m d rest → folds n m d way ≡ beside_right first inner
    leads_in_front h e = cc (folds_in_front n m d first rest two (omega arith))

    -- From a place in the back likewise, its first digest on the left.
    pub leads_in_back : k ≤ m → inner ≡ folds (n - k) (m - k) d rest → folds n m d way ≡ beside_left first inner
    leads_in_back h e = cc (folds_in_back n m d first rest two (omega arith))
