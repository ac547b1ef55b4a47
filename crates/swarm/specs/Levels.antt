-- What the levels above the promise rest on: ways are unique, a turn comes with its round, and all is done in a run of finitely many rounds. Each is a type; a proof of the type is the theorem. Assumes nothing.
use Rattle.std.specs.Prelude.{◌≡◌, ℕ, zero, suc, ◌+◌, ◌-◌, ◌*◌, ◌<◌, ◌≤◌, Bool, true, false, List, [], ◌∷◌, length, take, drop}
use mathlib.Core.List.{Memᴰ}
use Rattle.swarm.specs.Tree.{Dig, Leaf, top, way, leads, Is}
use Rattle.swarm.specs.Turns.{Change, is_in, stays, next, first}
use Rattle.swarm.specs.Swarm.{Rules, size, Rounds}
use Rattle.swarm.specs.Promise.{Joined, Sound}

-- Whatever leads from a piece to the top is the way of that place.
abbrev pub WayUnique : Type 0
WayUnique = (xs : List ℕ) (m x : ℕ) (ps : List Dig) → leads (length xs) m (Leaf x) ps ≡ Is (top xs) → ps ≡ way m xs

-- the row as round k finds it, with what changes after each round; past the last round it stays as it is
unfoldable pub row_at : ℕ → List ℕ → List (List Change) → List ℕ
row_at zero row css = row
row_at (suc k) row [] = row
row_at (suc k) row (cs ∷ css) = row_at k (next cs row) css

-- Whoever is in the row as round k finds it is its first at some round from k on, before as many rounds are over as that row is long, if it stays for these.
abbrev pub TurnAt : Type 0
TurnAt =
    (q k : ℕ) (row : List ℕ) (css : List (List Change)) → is_in q (row_at k row css) ≡ true → stays q (take (length (row_at k row css)) (drop k css)) ≡ true → k + length (row_at k row css) ≤ length css →
    (j : ℕ) × (k ≤ j) × (j < k + length (row_at k row css)) × (first (row_at j row css) ≡ q ∷ [])

-- in k rounds each true friend of a true peer has its turn in every d of them, and true peers hang together
pub record SoundWithin (r : Rules) (d k : ℕ) : Type 0 where
  pub fair : (p q i : ℕ) → p < r.peers → q < r.peers → r.true' p ≡ true → r.true' q ≡ true → Memᴰ q (r.friends p) → i + d ≤ k → (j : ℕ) × (i ≤ j) × (j < i + d) × (r.turn j p ≡ q)
  pub joined_all : (p q : ℕ) → p < r.peers → q < r.peers → r.true' p ≡ true → r.true' q ≡ true → Joined r p q

-- a round of which nothing is asked but what true peers do with the file's pieces
pub record TrueRound (r : Rules) (k : ℕ) (s t : ℕ → ℕ → Bool) : Type 0 where
  pub keep : (p m : ℕ) → p < r.peers → r.true' p ≡ true → m < size r → s p m ≡ true → t p m ≡ true
  pub gives : (p q m : ℕ) → p < r.peers → q < r.peers → r.true' p ≡ true → r.true' q ≡ true → r.turn k p ≡ q → m < size r → s p m ≡ true → s q m ≡ false →
      (x : ℕ) × (x < size r) × (s q x ≡ false) × (t q x ≡ true)

pub data TrueRounds (r : Rules) : ℕ → (ℕ → ℕ → Bool) → (ℕ → ℕ → Bool) → Type 0 where
  none : {s : ℕ → ℕ → Bool} → TrueRounds r 0 s s
  then : {k : ℕ} {s t u : ℕ → ℕ → Bool} → TrueRounds r k s t → TrueRound r k t u → TrueRounds r (suc k) s u

-- If true peers together have every piece, then after so many rounds each of them has every piece. A piece that somebody has needs no round there, so the product is less by one round of each piece.
abbrev pub AllDoneWithin : Type 0
AllDoneWithin =
    (r : Rules) (d k : ℕ) → SoundWithin r d k → (s t : ℕ → ℕ → Bool) → TrueRounds r k s t → ((m : ℕ) → m < size r → (p : ℕ) × (p < r.peers) × (r.true' p ≡ true) × (s p m ≡ true)) →
    d * (r.peers * size r - size r) ≤ k → (p m : ℕ) → p < r.peers → r.true' p ≡ true → m < size r → t p m ≡ true

-- what the two theorems make of a number: k rounds are enough for n peers and P pieces where each true friend has its turn in every d rounds
abbrev pub Enough : (d n P k : ℕ) → Type 0
Enough d n P k =
    (r : Rules) → r.peers ≡ n → size r ≡ P → Sound r d → (s t : ℕ → ℕ → Bool) → Rounds r k s t → ((m : ℕ) → m < P → (p : ℕ) × (p < n) × (r.true' p ≡ true) × (s p m ≡ true)) →
    (p m : ℕ) → p < n → r.true' p ≡ true → m < P → t p m ≡ true

abbrev pub EnoughWithin : (d n P k : ℕ) → Type 0
EnoughWithin d n P k =
    (r : Rules) → r.peers ≡ n → size r ≡ P → SoundWithin r d k → (s t : ℕ → ℕ → Bool) → TrueRounds r k s t → ((m : ℕ) → m < P → (p : ℕ) × (p < n) × (r.true' p ≡ true) × (s p m ≡ true)) →
    (p m : ℕ) → p < n → r.true' p ≡ true → m < P → t p m ≡ true
