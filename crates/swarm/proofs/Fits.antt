-- A piece with its way fits just if it is the file's piece at that place, and the file's own piece with its way fits.
use Rattle.std.proofs.Common.{◌≡◌, ℕ, suc, ◌<◌, true, ltb, List, get_or, sym, refl, ap, ◌∙◌, ap₂, arith}
use Rattle.std.proofs.lemmas.Bool.{and_from, and_parts, false≢true, lt-ltb}
use Rattle.std.proofs.lemmas.Bool.Decides.{nat_tests}
use Rattle.swarm.proofs.Paths.{way_exact}
use Rattle.swarm.specs.Swarm.{Rules, size, fits, is_top, same_dig}
use Rattle.swarm.specs.Tree.{Dig, Leaf, Node, Maybe, None, Is, top, way, leads}

same_dig-refl : (d : Dig) → same_dig d d ≡ true
unfolding same_dig
same_dig-refl Dig.NoLeaf = refl
same_dig-refl (Leaf x) = grind (arith, nat_tests)
same_dig-refl (Node c d) = and_from (same_dig c c) (same_dig d d) (same_dig-refl c) (same_dig-refl d)

same_dig-same : (c d : Dig) → same_dig c d ≡ true → c ≡ d
unfolding same_dig
same_dig-same Dig.NoLeaf Dig.NoLeaf h = refl
same_dig-same Dig.NoLeaf (Leaf y) h = absurd (false≢true h)
same_dig-same Dig.NoLeaf (Node c d) h = absurd (false≢true h)
same_dig-same (Leaf x) Dig.NoLeaf h = absurd (false≢true h)
same_dig-same (Leaf x) (Leaf y) h = let e : x ≡ y = grind (arith, nat_tests) in ap Leaf e
same_dig-same (Leaf x) (Node c d) h = absurd (false≢true h)
same_dig-same (Node a e) Dig.NoLeaf h = absurd (false≢true h)
same_dig-same (Node a e) (Leaf y) h = absurd (false≢true h)
same_dig-same (Node a e) (Node c d) h =
    let (left, right) = and_parts (same_dig a c) (same_dig e d) h in
    ap₂ Node (same_dig-same a c left) (same_dig-same e d right)

is_top_same : (t : Dig) (m : Maybe) → is_top t m ≡ true → m ≡ Is t
is_top_same t None h = absurd (false≢true h)
is_top_same t (Is d) h = ap Is (sym (same_dig-same t d h))

pub fits-right : (r : Rules) (m x : ℕ) (ps : List Dig) → fits r m x ps ≡ true → (m < size r) × (get_or r.file m (suc x) ≡ x)
fits-right r m x ps h =
    way_exact.0 r.file m x ps
    (is_top_same (top r.file) (leads (size r) m (Leaf x) ps) (and_parts (ltb m (size r)) (is_top (top r.file) (leads (size r) m (Leaf x) ps)) h).1)

pub right-fits : (r : Rules) (m x : ℕ) (ps : List Dig) → m < size r → get_or r.file m (suc x) ≡ x → ps ≡ way m r.file → fits r m x ps ≡ true
right-fits r m x ps l e p =
    and_from (ltb m (size r)) (is_top (top r.file) (leads (size r) m (Leaf x) ps)) (lt-ltb m (size r) l)
    (ap (is_top (top r.file)) leads-top ∙ same_dig-refl (top r.file))
  where
    leads-top : leads (size r) m (Leaf x) ps ≡ Is (top r.file)
    leads-top = ap₂ (λ y qs. leads (size r) m (Leaf y) qs) (sym e) p ∙ way_exact.1 r.file m (suc x) l
