-- Peers that bring each other the pieces of a file, some of which send what they like; what each takes and whom it shuts out; and rounds. Assumes nothing.
use Rattle.std.specs.Prelude.{◌≡◌, ℕ, suc, ◌<◌, Bool, true, false, cond, ◌&&◌, List, length, ◌==◌, nat_lt, slice_index_or}
use Rattle.swarm.specs.Tree.{Dig, Leaf, Node, Maybe, None, Is, top, way, leads}

-- peers: how many there are; true ones keep to the rules; friends: which true ones each is joined with; turn: who has the turn at a peer in a round; file: its pieces
pub record Rules : Type 0 where
  pub peers : ℕ
  pub true' : ℕ → Bool
  pub friends : ℕ → List ℕ
  pub turn : ℕ → ℕ → ℕ
  pub file : List ℕ

abbrev pub size : Rules → ℕ
size r = length r.file

-- got: of each peer and piece, whether it has it, and what; shut: whom each peer has shut out
pub data Piece : Type 0 where
  Missing : Piece
  Has : ℕ → Piece

pub record World : Type 0 where
  pub got : ℕ → ℕ → Piece
  pub shut : ℕ → ℕ → Bool

unfoldable pub same_dig : Dig → Dig → Bool
same_dig Dig.NoLeaf Dig.NoLeaf = true
same_dig Dig.NoLeaf (Leaf y) = false
same_dig Dig.NoLeaf (Node c d) = false
same_dig (Leaf x) Dig.NoLeaf = false
same_dig (Leaf x) (Leaf y) = x == y
same_dig (Leaf x) (Node c d) = false
same_dig (Node a e) Dig.NoLeaf = false
same_dig (Node a e) (Leaf y) = false
same_dig (Node a e) (Node c d) = same_dig a c && same_dig e d

abbrev pub is_top : Dig → Maybe → Bool
is_top t None = false
is_top t (Is d) = same_dig t d

-- does a piece with its way fit what is known of the file: how many pieces, and the top
abbrev pub fits : Rules → ℕ → ℕ → List Dig → Bool
fits r m x ps = nat_lt m (size r) && is_top (top r.file) (leads (size r) m (Leaf x) ps)

abbrev pub at2 : {A : Type 0} → ℕ → ℕ → A → (ℕ → ℕ → A) → ℕ → ℕ → A
at2 i j x f p q = cond (p == i && q == j) x (f p q)

-- a piece comes: from whom, to whom, which, what, its way, and whether it was asked for on this link and is still awaited
pub record Word : Type 0 where
  pub from : ℕ
  pub to : ℕ
  pub place : ℕ
  pub what : ℕ
  pub its_way : List Dig
  pub asked : Bool

abbrev pub keeps : Rules → Word → World → World
keeps r b w = record { got = at2 b.to b.place (Has b.what) w.got; shut = w.shut }

abbrev pub comes : Rules → Word → World → World
comes r b w = cond (w.shut b.to b.from) w (cond (b.asked && fits r b.place b.what b.its_way) (keeps r b w) (record { got = w.got; shut = at2 b.to b.from true w.shut }))

-- what true peers send was asked for, and is so; at first some have pieces, all right
pub data Reach (r : Rules) : World → Type 0 where
  begin : (w : World) → ((p m x : ℕ) → r.true' p ≡ true → w.got p m ≡ Has x → (m < size r) × (slice_index_or r.file m (suc x) ≡ x)) → ((p q : ℕ) → w.shut p q ≡ false) → Reach r w
  more : {w : World} → Reach r w → (b : Word) → (r.true' b.from ≡ true → (b.place < size r) × (slice_index_or r.file b.place (suc b.what) ≡ b.what) × (b.its_way ≡ way b.place r.file) × (b.asked ≡ true)) → Reach r (comes r b w)
  -- a peer forgets one whom it shut out: the oldest of 4,096, or all at a fall; and after a fall it has some of what it had
  forgets : {w : World} → Reach r w → (p q : ℕ) → Reach r (record { got = w.got; shut = at2 p q false w.shut })
  loses : {w : World} → Reach r w → (p m : ℕ) → Reach r (record { got = at2 p m Missing w.got; shut = w.shut })

abbrev pub is_has : Piece → Bool
is_has Missing = false
is_has (Has x) = true

-- in a round who has the turn at a true peer gets something that it lacks, if that peer has something that it lacks; what else comes is open
pub record Round (r : Rules) (k : ℕ) (s t : ℕ → ℕ → Bool) : Type 0 where
  pub keep : (p m : ℕ) → s p m ≡ true → t p m ≡ true
  pub gives : (p q m : ℕ) → p < r.peers → q < r.peers → r.true' p ≡ true → r.true' q ≡ true → r.turn k p ≡ q → m < size r → s p m ≡ true → s q m ≡ false →
      (x : ℕ) × (x < size r) × (s q x ≡ false) × (t q x ≡ true)

pub data Rounds (r : Rules) : ℕ → (ℕ → ℕ → Bool) → (ℕ → ℕ → Bool) → Type 0 where
  none : {s : ℕ → ℕ → Bool} → Rounds r 0 s s
  then : {k : ℕ} {s t u : ℕ → ℕ → Bool} → Rounds r k s t → Round r k t u → Rounds r (suc k) s u
