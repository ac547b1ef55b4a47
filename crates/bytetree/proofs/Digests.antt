-- The roots and paths over leaf digests are 32 bytes each, and a file's piece by its path, as they are sent, lead to the file's root.
use Rattle.std.proofs.Common.{◌≡◌, ℕ, ◌-◌, ◌<◌, ◌≤◌, ◌⊎◌, List, [], ◌∷◌, map, length, sym, subst, inl, inr, arith}
use Rattle.std.specs.List.{AllByRecursion}
use Rattle.std.proofs.lemmas.List.{length-map, get_or-map}
use Rattle.std.proofs.ByRecursion.{All-take, All-drop, All-weaker}
use Rattle.std.proofs.lemmas.Bool.{cases_lt}
use Rattle.sha256.specs.Sha256.{digest}
use Rattle.sha256.proofs.Laws.{length-digest, bytes-digest}
use Rattle.swarm.specs.Tree.{cut}
use Rattle.swarm.proofs.Cuts.{cut_between}
use Rattle.bytetree.specs.Pieces.{pieces}
use Rattle.bytetree.specs.Image.{OwnLeads}
use Rattle.bytetree.specs.ByteTree.{leaf, root, path_f, path, leaves}
use Rattle.bytetree.proofs.Halves.{front, back, length_front, length_back, by_halves, root_one, root_of_halves, path_in_front, path_in_back}
use Rattle.bytetree.proofs.Trees.{path-leads}
use Rattle.bytetree.proofs.Files.{pieces_add_up, digests_join, length-joined}

-- bytes, as many as a digest has
pub record IsDigest (d : List ℕ) : Type 0 where
  pub bytes : AllByRecursion (λ b. b < 256) d
  pub long : length d ≡ 32

-- What SHA-256 gives is a digest.
pub digest-is : (m : List ℕ) → IsDigest (digest m)
digest-is m = record { bytes = bytes-digest m; long = length-digest m }

-- Leaves are digests.
pub leaves_are : (xs : List (List ℕ)) → AllByRecursion IsDigest (map leaf xs)
leaves_are [] = tt
leaves_are (x ∷ xs) = (digest-is (0 ∷ x), leaves_are xs)

-- The root over some digests is a digest.
pub root_is : (ds : List (List ℕ)) → 0 < length ds → AllByRecursion IsDigest ds → IsDigest (root ds)
root_is [] h a = absurd (omega arith)
root_is (d ∷ []) h a = rw root_one a.0
root_is (d ∷ (e ∷ ds)) h a = let all : List (List ℕ) = d ∷ (e ∷ ds) in subst IsDigest (sym (root_of_halves all (omega arith))) (digest-is _)

-- the path of each place of this row has digests only, if the row has
abbrev EachIs : List (List ℕ) → Type 0
EachIs ds = (m : ℕ) → AllByRecursion IsDigest ds → AllByRecursion IsDigest (path m ds)

is_in_both : (ds : List (List ℕ)) → 1 < length ds → EachIs (front ds) → EachIs (back ds) → EachIs ds
is_in_both ds two a b m h = go (cases_lt m (cut (length ds)))
  where
    left : AllByRecursion IsDigest (front ds)
    left = All-take IsDigest (cut (length ds)) ds h

    right : AllByRecursion IsDigest (back ds)
    right = All-drop IsDigest (cut (length ds)) ds h

    go : (m < cut (length ds)) ⊎ (cut (length ds) ≤ m) → AllByRecursion IsDigest (path m ds)
    go (inl l) = let c = cut_between (length ds) two in rw (path_in_front m ds two l) (root_is (back ds) (omega (arith, length_back ds)) right, a m left)
    go (inr l) = let c = cut_between (length ds) two in rw (path_in_back m ds two l) (root_is (front ds) (omega (arith, length_front ds two)) left, b (m - cut (length ds)) right)

-- The paths over digests are digests.
pub path-is : (ds : List (List ℕ)) (m : ℕ) → AllByRecursion IsDigest ds → AllByRecursion IsDigest (path m ds)
unfolding path_f
path-is = by_halves EachIs (λ m h. tt) (λ d m h. tt) is_in_both

-- What a file has at a place, and the path of that place as it is sent, lead to the file's root.
pub own_leads : OwnLeads
own_leads file m h =
    let long = All-weaker IsDigest (λ d. length d ≡ 32) (λ d i. i.long) (path m (leaves file)) (path-is (leaves file) m (leaves_are (pieces file))) in
    let n = pieces_add_up.counted file in
    record {
      there = h;
      sized = pieces_add_up.sized file m h;
      whole = omega (arith, length-joined (path m (leaves file)) long);
      leads = cc (digests_join (path m (leaves file)) long, n, length-map (pieces file) leaf, get_or-map leaf (pieces file) m [] [] (omega arith), path-leads m (leaves file) (rw length-map (omega arith)));
    }
