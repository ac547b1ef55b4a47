-- Digests along a tree over the pieces of a file, and ways from a piece to the top. Digests are terms: two of them are the same only if what they are of is. Assumes nothing.
use Rattle.std.specs.Prelude.{ℕ, zero, suc, ◌+◌, ◌-◌, cond, ◌&&◌, List, [], ◌∷◌, length, ◌==◌, nat_lt}

pub data Dig : Type 0 where
  NoLeaf : Dig
  Leaf : ℕ → Dig
  Node : Dig → Dig → Dig

unfoldable pub take : ℕ → List ℕ → List ℕ
take zero xs = []
take (suc k) [] = []
take (suc k) (x ∷ xs) = x ∷ take k xs

unfoldable pub drop : ℕ → List ℕ → List ℕ
drop zero xs = xs
drop (suc k) [] = []
drop (suc k) (x ∷ xs) = drop k xs

-- the greatest power of two below n, for n above 1
unfoldable pub doubled : ℕ → ℕ → ℕ → ℕ
doubled zero k n = k
doubled (suc f) k n = cond (nat_lt (k + k) n) (doubled f (k + k) n) k

abbrev pub cut : ℕ → ℕ
cut n = doubled n 1 n

-- the digest of a row, oldest first, as in RFC 9162
unfoldable pub top_f : ℕ → List ℕ → Dig
top_f zero xs = NoLeaf
top_f (suc f) [] = NoLeaf
top_f (suc f) (x ∷ []) = Leaf x
top_f (suc f) (x ∷ (y ∷ ys)) = Node (top_f f (take (cut (length (x ∷ (y ∷ ys)))) (x ∷ (y ∷ ys)))) (top_f f (drop (cut (length (x ∷ (y ∷ ys)))) (x ∷ (y ∷ ys))))

abbrev pub top : List ℕ → Dig
top xs = top_f (length xs) xs

-- the way of place m of a row, the digest next to the top first
unfoldable pub way_f : ℕ → ℕ → List ℕ → List Dig
way_f zero m xs = []
way_f (suc f) m [] = []
way_f (suc f) m (x ∷ []) = []
way_f (suc f) m (x ∷ (y ∷ ys)) = cond (nat_lt m (cut (length (x ∷ (y ∷ ys)))))
    (top (drop (cut (length (x ∷ (y ∷ ys)))) (x ∷ (y ∷ ys))) ∷ way_f f m (take (cut (length (x ∷ (y ∷ ys)))) (x ∷ (y ∷ ys))))
    (top (take (cut (length (x ∷ (y ∷ ys)))) (x ∷ (y ∷ ys))) ∷ way_f f (m - cut (length (x ∷ (y ∷ ys)))) (drop (cut (length (x ∷ (y ∷ ys)))) (x ∷ (y ∷ ys))))

abbrev pub way : ℕ → List ℕ → List Dig
way m xs = way_f (length xs) m xs

-- what a way leads to, from a leaf at place m of n
pub data Maybe : Type 0 where
  None : Maybe
  Is : Dig → Maybe

abbrev pub left_of : Dig → Maybe → Maybe
left_of p None = None
left_of p (Is d) = Is (Node d p)

abbrev pub right_of : Dig → Maybe → Maybe
right_of p None = None
right_of p (Is d) = Is (Node p d)

abbrev pub at_end : ℕ → ℕ → Dig → Maybe
at_end n m d = cond (n == 1 && m == 0) (Is d) None

abbrev pub step : (ℕ → ℕ → Maybe) → ℕ → ℕ → Dig → Maybe
step up n m p = cond (nat_lt n 2) None (cond (nat_lt m (cut n)) (left_of p (up (cut n) m)) (right_of p (up (n - cut n) (m - cut n))))

unfoldable pub leads : ℕ → ℕ → Dig → List Dig → Maybe
leads n m d [] = at_end n m d
leads n m d (p ∷ ps) = step (λ k i. leads k i d ps) n m p
