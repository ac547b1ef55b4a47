-- What is promised of the whole, and of its parts. Each is a type; a proof of the type is the theorem. Assumes nothing.
use Rattle.std.specs.Prelude.{◌≡◌, ℕ, suc, ◌+◌, ◌*◌, ◌<◌, ◌≤◌, Bool, true, false, ◌&&◌, List, length, slice_index_or}
use mathlib.Core.List.{Memᴰ}
use Rattle.swarm.specs.Tree.{Dig, Leaf, top, way, leads, Is}
use Rattle.swarm.specs.Turns.{Change, is_in, stays, longest, turns}
use Rattle.swarm.specs.Swarm.{Rules, size, World, Has, Word, comes, Reach, fits, Rounds}

-- 1. A way leads from a piece to the top just if it is the piece at that place, and there is one for each.
abbrev pub WayExact : Type 0
WayExact =
    ((xs : List ℕ) (m x : ℕ) (ps : List Dig) → leads (length xs) m (Leaf x) ps ≡ Is (top xs) → (m < length xs) × (slice_index_or xs m (suc x) ≡ x)) ×
    ((xs : List ℕ) (m d : ℕ) → m < length xs → leads (length xs) m (Leaf (slice_index_or xs m d)) (way m xs) ≡ Is (top xs))

-- 2. Whatever a true peer has is so, whoever it came from.
abbrev pub Right : Type 0
Right = (r : Rules) (w : World) → Reach r w → (p m x : ℕ) → r.true' p ≡ true → w.got p m ≡ Has x → (m < size r) × (slice_index_or r.file m (suc x) ≡ x)

-- 3. Nobody who keeps to the rules is shut out; whoever sends what isn't so is, by whom it came to.
abbrev pub ShutRightly : Type 0
ShutRightly =
    (r : Rules) (w : World) → Reach r w → ((p q : ℕ) → w.shut p q ≡ true → r.true' q ≡ false) ×
    ((b : Word) → w.shut b.to b.from ≡ false → (b.asked && fits r b.place b.what b.its_way) ≡ false → (comes r b w).shut b.to b.from ≡ true)

-- true peers are joined both ways, all of them hang together, and each friend has its turn in every so many rounds
pub data Joined (r : Rules) : ℕ → ℕ → Type 0 where
  self : {p : ℕ} → Joined r p p
  over : {p q s : ℕ} → Joined r p q → q < r.peers → r.true' q ≡ true → Memᴰ s (r.friends q) → s < r.peers → r.true' s ≡ true → Joined r p s

pub record Sound (r : Rules) (d : ℕ) : Type 0 where
  pub both : (p q : ℕ) → p < r.peers → q < r.peers → r.true' p ≡ true → r.true' q ≡ true → Memᴰ q (r.friends p) → Memᴰ p (r.friends q)
  pub fair : (p q k : ℕ) → p < r.peers → r.true' p ≡ true → Memᴰ q (r.friends p) → (j : ℕ) × (k ≤ j) × (j < k + d) × (r.turn j p ≡ q)
  pub joined_all : (p q : ℕ) → p < r.peers → q < r.peers → r.true' p ≡ true → r.true' q ≡ true → Joined r p q

-- 4. If true peers together have every piece, then after so many rounds each of them has every piece.
abbrev pub AllDone : Type 0
AllDone =
    (r : Rules) (d : ℕ) → Sound r d → (s t : ℕ → ℕ → Bool) (k : ℕ) → Rounds r k s t → ((m : ℕ) → m < size r → (p : ℕ) × (p < r.peers) × (r.true' p ≡ true) × (s p m ≡ true)) →
    d * (r.peers * size r) ≤ k → (p m : ℕ) → p < r.peers → r.true' p ≡ true → m < size r → t p m ≡ true

-- 5. In a row from which the first has the turn and goes to the end, to which others come at the end and which they leave, whoever stays has its turn in any so many rounds as the row is ever long.
abbrev pub FairTurn : Type 0
FairTurn = (d q : ℕ) (row : List ℕ) (css : List (List Change)) → is_in q row ≡ true → stays q css ≡ true → longest row css ≤ d → length css ≡ d → is_in q (turns row css) ≡ true

-- THE MAIN PROMISE. Whatever peers that don't keep to the rules send, or don't: what a true peer has is the file's, bit for bit; no true peer is ever shut out, and whoever sends what isn't so is;
-- and as long as true peers together have all, each of them has all after so many rounds.
pub record Whole (r : Rules) : Type 0 where
  pub right : (w : World) → Reach r w → (p m x : ℕ) → r.true' p ≡ true → w.got p m ≡ Has x → (m < size r) × (slice_index_or r.file m (suc x) ≡ x)
  pub shut_rightly : (w : World) → Reach r w → ((p q : ℕ) → w.shut p q ≡ true → r.true' q ≡ false) ×
      ((b : Word) → w.shut b.to b.from ≡ false → (b.asked && fits r b.place b.what b.its_way) ≡ false → (comes r b w).shut b.to b.from ≡ true)
  pub takes : (w : World) → Reach r w → (b : Word) → r.true' b.from ≡ true → b.asked ≡ true → (b.place < size r) → slice_index_or r.file b.place (suc b.what) ≡ b.what → b.its_way ≡ way b.place r.file →
      (comes r b w).got b.to b.place ≡ Has b.what
  pub all_done : (d : ℕ) → Sound r d → (s t : ℕ → ℕ → Bool) (k : ℕ) → Rounds r k s t → ((m : ℕ) → m < size r → (p : ℕ) × (p < r.peers) × (r.true' p ≡ true) × (s p m ≡ true)) →
      d * (r.peers * size r) ≤ k → (p m : ℕ) → p < r.peers → r.true' p ≡ true → m < size r → t p m ≡ true

abbrev pub Main : Type 0
Main = ((r : Rules) → Whole r) × (WayExact × FairTurn)
