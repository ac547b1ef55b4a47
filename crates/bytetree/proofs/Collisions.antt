-- Whatever leads to a file's root is the file's own piece by its own path, or two byte strings of one digest are found on the way.
use Rattle.std.proofs.Common.{◌≡◌, ℕ, ◌-◌, ◌*◌, ◌/◌, ◌^◌, ◌<◌, ◌≤◌, true, false, eqb, ◌≢◌, ◌⊎◌, List, [], ◌∷◌, ◌++◌, map, length, get_or, take, drop, Some, None, Option, sym, refl, ap, ◌∙◌, subst, inl, inr, arith, length-append}
use Rattle.std.specs.List.{AllByRecursion}
use Rattle.std.proofs.lemmas.List.{take_at, drop_at, take-map, drop-map, length-map}
use Rattle.std.proofs.ByRecursion.{All-append, All-take, All-drop}
use Rattle.std.proofs.lemmas.Bool.{cases_lt, cond_both, cond-true, cond-false, lt-ltb, le-ltb, both_ways, eq-eqb, eqb-true, and_from, and_parts}
use Rattle.std.proofs.lemmas.Bool.Decides.{nat_tests}
use Rattle.sha256.specs.Sha256.{Message}
use Rattle.swarm.specs.Tree.{cut}
use Rattle.swarm.proofs.Cuts.{cut_between}
use Rattle.bytetree.specs.Pieces.{pieces}
use Rattle.bytetree.specs.ByteTree.{leaf, node, root, path, folds, beside_right, beside_left, digests, joined_up}
use Rattle.bytetree.specs.Collision.{Pair, Two, Collision, same, unless, clash, Verdict, CollisionOrRight}
use Rattle.bytetree.proofs.Halves.{front, back, length_front, length_back, get_or_front, get_or_back, root_one, root_of_halves, path_one, path_in_front, path_in_back}
use Rattle.bytetree.proofs.Trees.{folds_in_front, folds_in_back}
use Rattle.bytetree.proofs.Digests.{IsDigest, digest-is, leaves_are, root_is}
use Rattle.bytetree.proofs.Files.{pieces_add_up, pieces-bytes, pieces-short, digests-bytes, digests-long, join_digests}

same_true : (xs ys : List ℕ) → same xs ys ≡ true → xs ≡ ys
unfolding same
same_true [] [] e = refl
same_true [] (y ∷ ys) e = cc
same_true (x ∷ xs) [] e = cc
same_true (x ∷ xs) (y ∷ ys) e = let p = and_parts (eqb x y) (same xs ys) e in cc (eqb-true x y p.0, same_true xs ys p.1)

same_self : (xs : List ℕ) → same xs xs ≡ true
unfolding same
same_self [] = refl
same_self (x ∷ xs) = and_from _ _ (eq-eqb x x refl) (same_self xs)

same_false : (xs ys : List ℕ) → same xs ys ≡ false → xs ≢ ys
same_false xs ys e q = both_ways (same xs ys) e (rw (← q) (same_self xs))

-- bytes, and few enough to be hashed as a leaf
record Small (p : List ℕ) : Type 0 where
  bytes : AllByRecursion (λ b. b < 256) p
  short : length p < 2 ^ 60

leaf_message : (p : List ℕ) → Small p → Message (0 ∷ p)
leaf_message p s = record { bytes = (omega arith, s.bytes); short = omega (arith, s.short) }

node_message : (a b : List ℕ) → IsDigest a → IsDigest b → Message (1 ∷ (a ++ b))
node_message a b p q = record { bytes = (omega arith, All-append (λ b. b < 256) a b p.bytes q.bytes); short = simp length-append (omega (arith, p.long, q.long)) }

-- Two nodes of the same bytes have the same digests below.
node-parts : (a b c d : List ℕ) → IsDigest a → IsDigest c → ◌≡◌ {A = List ℕ} (1 ∷ (a ++ b)) (1 ∷ (c ++ d)) → (a ≡ c) × (b ≡ d)
node-parts a b c d p q e =
    let s : a ++ b ≡ c ++ d = cc in
    (sym (take_at a b 32 p.long) ∙ ap (take 32) s ∙ take_at c d 32 q.long, sym (drop_at a b 32 p.long) ∙ ap (drop 32) s ∙ drop_at c d 32 q.long)

leaves_front : (xs : List (List ℕ)) → front (map leaf xs) ≡ map leaf (front xs)
leaves_front xs = rw length-map (take-map leaf (cut (length xs)) xs)

leaves_back : (xs : List (List ℕ)) → back (map leaf xs) ≡ map leaf (back xs)
leaves_back xs = rw length-map (drop-map leaf (cut (length xs)) xs)

root_of_leaves : (xs : List (List ℕ)) → 1 < length xs → root (map leaf xs) ≡ node (root (map leaf (front xs))) (root (map leaf (back xs)))
root_of_leaves xs two = cc (root_of_halves (map leaf xs) (rw length-map two), leaves_front xs, leaves_back xs)

path_front_leaves : (m : ℕ) (xs : List (List ℕ)) → 1 < length xs → m < cut (length xs) → path m (map leaf xs) ≡ root (map leaf (back xs)) ∷ path m (map leaf (front xs))
path_front_leaves m xs two h = cc (path_in_front m (map leaf xs) (rw length-map two) (rw length-map h), leaves_front xs, leaves_back xs)

path_back_leaves : (m : ℕ) (xs : List (List ℕ)) → 1 < length xs → cut (length xs) ≤ m → path m (map leaf xs) ≡ root (map leaf (front xs)) ∷ path (m - cut (length xs)) (map leaf (back xs))
path_back_leaves m xs two h = cc (path_in_back m (map leaf xs) (rw length-map two) (rw length-map h), length-map xs leaf, leaves_front xs, leaves_back xs)

root_front : (xs : List (List ℕ)) → 1 < length xs → IsDigest (root (map leaf (front xs)))
root_front xs two = let c = cut_between (length xs) two in root_is (map leaf (front xs)) (rw length-map (omega (arith, length_front xs two))) (leaves_are (front xs))

root_back : (xs : List (List ℕ)) → 1 < length xs → IsDigest (root (map leaf (back xs)))
root_back xs two = let c = cut_between (length xs) two in root_is (map leaf (back xs)) (rw length-map (omega (arith, length_back xs))) (leaves_are (back xs))

-- An empty path leads from the one digest of a row of one to itself.
empty_folds : (n m : ℕ) (d c : List ℕ) → folds n m d [] ≡ Some c → (n ≡ 1) × (m ≡ 0) × (d ≡ c)
unfolding folds
empty_folds n m d c e = (grind (arith, nat_tests), grind (arith, nat_tests), grind (arith, nat_tests))

-- Any other leads only where there are two or more.
other_folds : (n m : ℕ) (d p c : List ℕ) (ps : List (List ℕ)) → folds n m d (p ∷ ps) ≡ Some c → 1 < n
unfolding folds
other_folds n m d p c ps e = grind (arith, nat_tests)

-- what is said of a row of pieces, a piece and a path, by the two strings found, or by none
abbrev RowVerdict : List (List ℕ) → ℕ → List ℕ → List (List ℕ) → Option Pair → Type 0
RowVerdict xs m piece ps None = (piece ≡ get_or xs m []) × (ps ≡ path m (map leaf xs))
RowVerdict xs m piece ps (Some (Two x y)) = Collision x y

-- whatever leads to the root of a row by this path has that said of it
abbrev OnRow : List (List ℕ) → Type 0
OnRow ps = (xs : List (List ℕ)) (m : ℕ) (piece : List ℕ) → AllByRecursion Small xs → Small piece → AllByRecursion IsDigest ps →
    folds (length xs) m (leaf piece) ps ≡ Some (root (map leaf xs)) → RowVerdict xs m piece ps (clash xs m piece ps)

at_end : OnRow []
unfolding clash
at_end [] m piece small s ds e = absurd (omega (arith, empty_folds _ _ _ _ e))
at_end (x ∷ (y ∷ ys)) m piece small s ds e = absurd (omega (arith, empty_folds _ _ _ _ e))
at_end (x ∷ []) m piece small s ds e =
    let z = empty_folds 1 m (leaf piece) (root (leaf x ∷ [])) e in
    cond_both (same (0 ∷ x) (0 ∷ piece)) None (Some (Two (0 ∷ x) (0 ∷ piece))) (RowVerdict (x ∷ []) m piece [])
    (λ t. let q = same_true (0 ∷ x) (0 ∷ piece) t in rw z.1 (cc, sym (path_one 0 (leaf x))))
    (λ t. record { first = leaf_message x small.0; second = leaf_message piece s; differ = same_false (0 ∷ x) (0 ∷ piece) t; agree = cc (root_one (leaf x)) })

made_right : (o : Option (List ℕ)) (p c : List ℕ) → beside_right p o ≡ Some c → (d : List ℕ) × (o ≡ Some d) × (node d p ≡ c)
made_right None p c e = let z : ◌≡◌ {A = ℕ} 0 1 = cc in absurd (omega arith)
made_right (Some d) p c e = (d, refl, (cc))

made_left : (o : Option (List ℕ)) (p c : List ℕ) → beside_left p o ≡ Some c → (d : List ℕ) × (o ≡ Some d) × (node p d ≡ c)
made_left None p c e = let z : ◌≡◌ {A = ℕ} 0 1 = cc in absurd (omega arith)
made_left (Some d) p c e = (d, refl, (cc))

-- what a path in the front leads to there, by which it leads to this
from_front : (n m : ℕ) (a p c : List ℕ) (ps : List (List ℕ)) → 1 < n → m < cut n → folds n m a (p ∷ ps) ≡ Some c → (d : List ℕ) × (folds (cut n) m a ps ≡ Some d) × (node d p ≡ c)
from_front n m a p c ps two h e = made_right _ p c (sym (folds_in_front n m a p ps two h) ∙ e)

from_back : (n m : ℕ) (a p c : List ℕ) (ps : List (List ℕ)) → 1 < n → cut n ≤ m → folds n m a (p ∷ ps) ≡ Some c → (d : List ℕ) × (folds (n - cut n) (m - cut n) a ps ≡ Some d) × (node p d ≡ c)
from_back n m a p c ps two h e = made_left _ p c (sym (folds_in_back n m a p ps two h) ∙ e)

-- Whatever a path leads to from a leaf is a digest.
folds_is : (n m : ℕ) (piece c : List ℕ) (ps : List (List ℕ)) → folds n m (leaf piece) ps ≡ Some c → IsDigest c
folds_is n m piece c [] e = subst IsDigest (empty_folds _ _ _ _ e).2 (digest-is (0 ∷ piece))
folds_is n m piece c (p ∷ ps) e = go (other_folds n m (leaf piece) p c ps e) (cases_lt m (cut n))
  where
    go : 1 < n → (m < cut n) ⊎ (cut n ≤ m) → IsDigest c
    go two (inl h) = subst IsDigest (from_front n m (leaf piece) p c ps two h e).2 (digest-is _)
    go two (inr h) = subst IsDigest (from_back n m (leaf piece) p c ps two h e).2 (digest-is _)

clash_front : (xs : List (List ℕ)) (m : ℕ) (piece p d : List ℕ) (ps : List (List ℕ)) → m < cut (length xs) → folds (cut (length xs)) m (leaf piece) ps ≡ Some d →
    clash xs m piece (p ∷ ps) ≡ unless (1 ∷ (root (map leaf (front xs)) ++ root (map leaf (back xs)))) (1 ∷ (d ++ p)) (clash (front xs) m piece ps)
unfolding clash
clash_front xs m piece p d ps h e = cond-true _ _ _ (lt-ltb m (cut (length xs)) h) ∙ rw e

clash_back : (xs : List (List ℕ)) (m : ℕ) (piece p d : List ℕ) (ps : List (List ℕ)) → cut (length xs) ≤ m → folds (length xs - cut (length xs)) (m - cut (length xs)) (leaf piece) ps ≡ Some d →
    clash xs m piece (p ∷ ps) ≡ unless (1 ∷ (root (map leaf (front xs)) ++ root (map leaf (back xs)))) (1 ∷ (p ++ d)) (clash (back xs) (m - cut (length xs)) piece ps)
unfolding clash
clash_back xs m piece p d ps h e = cond-false _ _ _ (le-ltb m (cut (length xs)) h) ∙ rw e

-- At a node either its bytes are told apart, and are two strings of one digest, or the digests below are the same and it goes on.
at_node : (P : Option Pair → Type 0) (a b c d : List ℕ) (further : Option Pair) → IsDigest a → IsDigest b → IsDigest c → IsDigest d → node a b ≡ node c d →
    ((x y : List ℕ) → Collision x y → P (Some (Two x y))) → (a ≡ c → b ≡ d → P further) → P (unless (1 ∷ (a ++ b)) (1 ∷ (c ++ d)) further)
at_node P a b c d further da db dc dd e apart on =
    let x : List ℕ = 1 ∷ (a ++ b) in
    let y : List ℕ = 1 ∷ (c ++ d) in
    cond_both (same x y) further (Some (Two x y)) P
    (λ t. let q = node-parts a b c d da dc (same_true x y t) in on q.0 q.1)
    (λ t. apart x y (record { first = node_message a b da db; second = node_message c d dc dd; differ = same_false x y t; agree = e }))

verdict_front : (xs : List (List ℕ)) (m : ℕ) (piece p : List ℕ) (ps : List (List ℕ)) → 1 < length xs → m < cut (length xs) → root (map leaf (back xs)) ≡ p →
    (o : Option Pair) → RowVerdict (front xs) m piece ps o → RowVerdict xs m piece (p ∷ ps) o
verdict_front xs m piece p ps two h e None v = (v.0 ∙ get_or_front xs m [] h, cc (path_front_leaves m xs two h, v.1))
verdict_front xs m piece p ps two h e (Some (Two x y)) v = v

verdict_back : (xs : List (List ℕ)) (m : ℕ) (piece p : List ℕ) (ps : List (List ℕ)) → 1 < length xs → cut (length xs) ≤ m → root (map leaf (front xs)) ≡ p →
    (o : Option Pair) → RowVerdict (back xs) (m - cut (length xs)) piece ps o → RowVerdict xs m piece (p ∷ ps) o
verdict_back xs m piece p ps two h e None v = (v.0 ∙ get_or_back xs m [] h, cc (path_back_leaves m xs two h, v.1))
verdict_back xs m piece p ps two h e (Some (Two x y)) v = v

one_more : (p : List ℕ) (ps : List (List ℕ)) → OnRow ps → OnRow (p ∷ ps)
one_more p ps below xs m piece small s ds e = go (other_folds _ _ _ p _ ps e) (cases_lt m (cut (length xs)))
  where
    go : 1 < length xs → (m < cut (length xs)) ⊎ (cut (length xs) ≤ m) → RowVerdict xs m piece (p ∷ ps) (clash xs m piece (p ∷ ps))
    go two (inl h) =
        let l = length_front xs two in
        let r = from_front (length xs) m (leaf piece) p (root (map leaf xs)) ps two h e in
        let further = clash (front xs) m piece ps in
        subst (RowVerdict xs m piece (p ∷ ps)) (sym (clash_front xs m piece p r.0 ps h r.1))
        (at_node (RowVerdict xs m piece (p ∷ ps)) (root (map leaf (front xs))) (root (map leaf (back xs))) r.0 p further
        (root_front xs two) (root_back xs two) (folds_is (cut (length xs)) m piece r.0 ps r.1) ds.0 (sym (root_of_leaves xs two) ∙ sym r.2)
        (λ x y c. c)
        (λ a b. verdict_front xs m piece p ps two h b further (below (front xs) m piece (All-take Small (cut (length xs)) xs small) s ds.1 (cc (l, a, r.1)))))
    go two (inr h) =
        let l = length_back xs in
        let r = from_back (length xs) m (leaf piece) p (root (map leaf xs)) ps two h e in
        let i = m - cut (length xs) in
        let further = clash (back xs) i piece ps in
        subst (RowVerdict xs m piece (p ∷ ps)) (sym (clash_back xs m piece p r.0 ps h r.1))
        (at_node (RowVerdict xs m piece (p ∷ ps)) (root (map leaf (front xs))) (root (map leaf (back xs))) p r.0 further
        (root_front xs two) (root_back xs two) ds.0 (folds_is (length xs - cut (length xs)) i piece r.0 ps r.1) (sym (root_of_leaves xs two) ∙ sym r.2)
        (λ x y c. c)
        (λ a b. verdict_back xs m piece p ps two h a further (below (back xs) i piece (All-drop Small (cut (length xs)) xs small) s ds.1 (cc (l, b, r.1)))))

-- A piece and a path that lead to the root of a row are the piece and the path of that place, or two strings of one digest are found.
row_collision_or_right : (xs : List (List ℕ)) (m : ℕ) (piece : List ℕ) (ps : List (List ℕ)) → AllByRecursion Small xs → Small piece → AllByRecursion IsDigest ps →
    folds (length xs) m (leaf piece) ps ≡ Some (root (map leaf xs)) → RowVerdict xs m piece ps (clash xs m piece ps)
row_collision_or_right xs m piece [] = at_end xs m piece
row_collision_or_right xs m piece (p ∷ ps) = one_more p ps (λ ys i q. row_collision_or_right ys i q ps) xs m piece

all_small : (xs : List (List ℕ)) → AllByRecursion (AllByRecursion (λ b. b < 256)) xs → AllByRecursion (λ x. length x ≤ 16384) xs → AllByRecursion Small xs
all_small [] b l = tt
all_small (x ∷ xs) b l = (record { bytes = b.0; short = omega (arith, l.0) }, all_small xs b.1 l.1)

all-digest : (ds : List (List ℕ)) → AllByRecursion (AllByRecursion (λ b. b < 256)) ds → AllByRecursion (λ d. length d ≡ 32) ds → AllByRecursion IsDigest ds
all-digest [] b l = tt
all-digest (d ∷ ds) b l = (record { bytes = b.0; long = l.0 }, all-digest ds b.1 l.1)

verdict_of_file : (file piece way : List ℕ) (m : ℕ) → length way ≡ 32 * (length way / 32) → (o : Option Pair) → RowVerdict (pieces file) m piece (digests way) o → Verdict file m piece way o
verdict_of_file file piece way m e None v = (v.0, sym (join_digests way e) ∙ ap joined_up v.1)
verdict_of_file file piece way m e (Some (Two x y)) v = v

-- Bytes and a path that lead to a file's root are the file's at that place, or two strings of one digest are found.
pub collision_or_right : CollisionOrRight
collision_or_right file piece way m message pb wb l =
    let n = pieces_add_up.counted file in
    verdict_of_file file piece way m l.whole (clash (pieces file) m piece (digests way))
    (row_collision_or_right (pieces file) m piece (digests way)
    (all_small (pieces file) (pieces-bytes file message.bytes) (pieces-short file))
    (record { bytes = pb; short = omega (arith, l.sized) })
    (all-digest (digests way) (digests-bytes way wb) (digests-long way))
    (rw n l.leads))
