-- The nodes of a row are those of its front, its root and those of its back, one less than its leaves.
use Rattle.std.proofs.Common.{◌≡◌, ℕ, zero, suc, ◌+◌, ◌-◌, ◌<◌, ◌≤◌, List, [], ◌∷◌, ◌++◌, length, get_or, take, drop, set, refl, ap, ◌∙◌, append-nil, arith, length-append, length-drop}
use borrow.Rule.Slice.PartMut.{put_mid}
use lib.Seq.{append_snoc}
use Rattle.std.proofs.lemmas.List.{take_at, drop_at, get_or_at, set_at, drop_more, drop_all}
use Rattle.swarm.specs.Tree.{cut}
use Rattle.swarm.proofs.Cuts.{cut_between}
use Rattle.bytetree.specs.ByteTree.{root}
use Rattle.bytetree.proofs.Halves.{front, back, length_front, length_back, by_halves, of_halves, root_one}
use Rattle.merkle.specs.Nodes.{inner_f, inner}

-- A row of one has its digest as its root.
pub root_alone : (ds : List (List ℕ)) → length ds ≡ 1 → get_or ds 0 [] ≡ root ds
root_alone [] h = absurd (omega arith)
root_alone (d ∷ []) h = cc (root_one d)
root_alone (d ∷ (e ∷ ds)) h = absurd (omega arith)

-- The halves of a row of two or more are as long as it, and neither is empty.
pub halved : (ds : List (List ℕ)) {left right : List (List ℕ)} → 1 < length ds → left ≡ take (cut (length ds)) ds → right ≡ drop (cut (length ds)) ds →
    (length left ≡ cut (length ds)) × (0 < length left) × (0 < length right) × (length left + length right ≡ length ds)
halved ds {left} {right} two f b =
    let c = cut_between (length ds) two in
    let l : length left ≡ cut (length ds) = ap length f ∙ length_front ds two in
    let r : length right ≡ length ds - cut (length ds) = ap length b ∙ length_back ds in
    (l, omega arith, omega arith, omega arith)

-- A row of one has no nodes.
pub inner_alone : (ds : List (List ℕ)) → length ds ≡ 1 → inner ds ≡ []
unfolding inner_f
inner_alone [] h = absurd (omega arith)
inner_alone (d ∷ []) h = refl
inner_alone (d ∷ (e ∷ ds)) h = absurd (omega arith)

-- The nodes of two or more are those of the front, the root and those of the back.
pub inner_of_halves : (ds : List (List ℕ)) → 1 < length ds → inner ds ≡ inner (front ds) ++ (root ds ∷ inner (back ds))
unfolding inner_f
inner_of_halves = of_halves inner_f (λ ds a b. a ++ (root ds ∷ b)) (elim [ zero ↦ refl | suc f ↦ refl ]) (λ f d. refl) (λ f d e ds. refl)

-- this row has one node less than leaves, if it has leaves
abbrev OneLess : List (List ℕ) → Type 0
OneLess ds = 0 < length ds → length (inner ds) + 1 ≡ length ds

-- There is one node less than there are leaves.
pub length-inner : (ds : List (List ℕ)) → 0 < length ds → length (inner ds) + 1 ≡ length ds
length-inner = by_halves OneLess (λ h. absurd (omega arith)) (λ d h. rw (inner_alone (d ∷ []) refl)) on_both
  where
    on_both : (ds : List (List ℕ)) → 1 < length ds → OneLess (front ds) → OneLess (back ds) → OneLess ds
    on_both ds two a b h =
        let c = cut_between (length ds) two in
        let l = length_front ds two in
        let r = length_back ds in
        rw (inner_of_halves ds two, length-append) (omega (arith, a (omega arith), b (omega arith)))

-- Nodes that are those of a row are one less than its leaves.
pub inner_long : (ds : List (List ℕ)) {nodes : List (List ℕ)} → nodes ≡ inner ds → 0 < length ds → length nodes + 1 ≡ length ds
inner_long ds {nodes} e some = let l : length nodes ≡ length (inner ds) = ap length e in omega (arith, length-inner ds some)

-- as many nodes stand before the root
before : (ds : List (List ℕ)) → 1 < length ds → length (inner (front ds)) ≡ cut (length ds) - 1
before ds two =
    let c = cut_between (length ds) two in
    let l = length_front ds two in
    omega (arith, length-inner (front ds) (omega arith))

-- The nodes before the root are those of the front.
pub inner_front : (ds : List (List ℕ)) → 1 < length ds → take (cut (length ds) - 1) (inner ds) ≡ inner (front ds)
inner_front ds two = rw (inner_of_halves ds two) (take_at (inner (front ds)) _ _ (before ds two))

-- The root stands where the row is cut.
pub inner-top : (ds : List (List ℕ)) → 1 < length ds → get_or (inner ds) (cut (length ds) - 1) [] ≡ root ds
inner-top ds two = rw (inner_of_halves ds two) (get_or_at (inner (front ds)) (root ds) _ [] _ (before ds two))

-- The nodes after the root are those of the back.
pub inner_back : (ds : List (List ℕ)) → 1 < length ds → drop (cut (length ds)) (inner ds) ≡ inner (back ds)
inner_back ds two =
    let k = before ds two in
    let c = cut_between (length ds) two in
    rw (inner_of_halves ds two, ← append_snoc) (drop_at (inner (front ds) ++ (root ds ∷ [])) _ _ (rw length-append (omega arith)))

-- What is written to a list between its first part and its last stands between them.
written : {X : Type 0} (xs ls rs : List X) (k i n : ℕ) (d : X) → 0 < k → k ≤ length xs → i ≡ k - 1 → length ls ≡ i → length xs ≤ k + n → set (put_mid k n (ls ++ drop i xs) rs) (k - 1) d ≡ ls ++ (d ∷ rs)
written xs ls rs k i n d p h e l u =
    let y = get_or xs i d in
    let zs = drop (i + 1) xs in
    let q : length (ls ++ (y ∷ [])) ≡ k = simp length-append (omega arith) in
    cc (
      drop_more xs i d (omega arith),
      append_snoc ls y zs,
      take_at (ls ++ (y ∷ [])) zs k q,
      drop_at (ls ++ (y ∷ [])) zs k q,
      drop_all n zs (simp length-drop (omega arith)),
      append-nil rs,
      append_snoc ls y rs,
      set_at ls y rs d i l,
    )

-- The nodes of the front, those of the back and the root, each written to its place, are the nodes of the row.
pub inner-written : (ds xs ls rs : List (List ℕ)) (k i n : ℕ) (d : List ℕ) → 1 < length ds → k ≡ cut (length ds) → i ≡ k - 1 → length xs + 1 ≡ length ds → length xs ≤ k + n →
    ls ≡ inner (take k ds) → rs ≡ inner (drop k ds) → d ≡ root ds → set (put_mid k n (ls ++ drop i xs) rs) (k - 1) d ≡ inner ds
inner-written ds xs ls rs k i n d two e j l h a b r =
    let c = cut_between (length ds) two in
    let q = before ds two in
    let s : length ls ≡ length (inner (front ds)) = cc in
    cc (written xs ls rs k i n d (omega arith) (omega arith) j (omega arith) h, inner_of_halves ds two)
