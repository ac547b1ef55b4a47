-- What the code of a peer must do, seen over the states of its choice: what it does at each event, and what it answers and sends. A peer's code has to give a term of this. Assumes nothing.
use Rattle.std.specs.Prelude.{◌≡◌, ℕ, ◌<◌, ◌≤◌, Bool, true, false, cond, not, ◌&&◌, ◌||◌, List, [], ◌∷◌, length, ◌≢◌, nat_lt, slice_index, slice_index_or}
use Rattle.swarm.specs.Tree.{Dig, way}
use Rattle.swarm.specs.Turns.{Change, Joins, Leaves, is_in, changed, turned, next, no_leave}
use Rattle.swarm.specs.Swarm.{Rules, size, fits}

-- joins of those who are shut out don't count, nor a sixty-fifth
unfoldable pub taken : (ℕ → Bool) → List ℕ → List Change → List Change
taken shut row [] = []
taken shut row (Joins x ∷ cs) = cond (shut x || not (nat_lt (length row) 64)) (taken shut row cs) (Joins x ∷ taken shut (changed (Joins x ∷ []) row) cs)
taken shut row (Leaves x ∷ cs) = Leaves x ∷ taken shut (changed (Leaves x ∷ []) row) cs

-- one true peer, p: what it has on disk, whom it lets ask in a round, what it asks of one that lets it, and what it does with what comes; of files with at most 65,536 pieces
pub record Code (r : Rules) (p : ℕ) (State : Type 0) : Type 0 where
  pub has : State → ℕ → Bool
  pub holds : State → ℕ → ℕ
  -- the way kept with a piece
  pub ways : State → ℕ → List Dig
  -- does the disk write what comes; that is the disk's word, not the program's
  pub writes : State → Bool
  pub disk : Bool → State → State
  pub shut : State → ℕ → Bool
  -- whom it has shut out, the newest first, as far as it remembers
  pub shuts : State → List ℕ
  pub row : State → List ℕ
  pub rounds : List Change → State → State
  pub lets : State → List ℕ
  pub asks : (of' : ℕ) → (told : ℕ → Bool) → State → ℕ
  pub ask : (of' place : ℕ) → State → State
  pub awaits : (of' place : ℕ) → State → Bool
  pub comes : (from place what : ℕ) → List Dig → State → State
  -- somebody else asks it; and whether it then has a piece to send to somebody
  pub asked_of : (from place : ℕ) → State → State
  pub serves : (to place : ℕ) → State → Bool
  -- it has sent that piece
  pub sent : (to place : ℕ) → State → State
  -- it begins with what it brings, and nobody is shut out or asked
  pub first : List ℕ → State
  pub first_so : (h : List ℕ) → (row (first h) ≡ []) × (shuts (first h) ≡ []) × ((m : ℕ) → m < size r → has (first h) m ≡ is_in m h) × ((q m : ℕ) → awaits q m (first h) ≡ false)
  -- what it brings is the file's, and its disk writes; what it sends is what it has and was asked for, each ask once; the disk changes nothing else
  pub first_brings : (h : List ℕ) → (writes (first h) ≡ true) × ((m : ℕ) → m < size r → is_in m h ≡ true → (holds (first h) m ≡ slice_index r.file m) × (ways (first h) m ≡ way m r.file)) × ((q m : ℕ) → serves q m (first h) ≡ false)
  pub disk_so : (b : Bool) (s : State) → (writes (disk b s) ≡ b) × ((k : ℕ) → (has (disk b s) k ≡ has s k) × (holds (disk b s) k ≡ holds s k) × (ways (disk b s) k ≡ ways s k)) × ((k l : ℕ) → (serves k l (disk b s) ≡ serves k l s) × (awaits k l (disk b s) ≡ awaits k l s)) × (shuts (disk b s) ≡ shuts s) × (row (disk b s) ≡ row s)
  pub writes_stay : (cs : List Change) (q m x : ℕ) (ps : List Dig) (s : State) → (writes (rounds cs s) ≡ writes s) × (writes (asked_of q m s) ≡ writes s) × (writes (comes q m x ps s) ≡ writes s) × (writes (sent q m s) ≡ writes s)
  pub ways_stay : (cs : List Change) (q m : ℕ) (s : State) (k : ℕ) → (ways (rounds cs s) k ≡ ways s k) × (ways (ask q m s) k ≡ ways s k) × (ways (asked_of q m s) k ≡ ways s k) × (ways (sent q m s) k ≡ ways s k)
  pub serves_has : (q m : ℕ) (s : State) → serves q m s ≡ true → (m < size r) × (has s m ≡ true)
  pub serves_new : (cs : List Change) (q m x : ℕ) (ps : List Dig) (k l : ℕ) (s : State) → (serves k l (rounds cs s) ≡ true → serves k l s ≡ true) × (serves k l (ask q m s) ≡ true → serves k l s ≡ true) × (serves k l (comes q m x ps s) ≡ true → serves k l s ≡ true) × (serves k l (sent q m s) ≡ true → serves k l s ≡ true) × (serves k l (asked_of q m s) ≡ true → ((k ≡ q) → (l ≡ m) → ⊥) → serves k l s ≡ true)
  pub sent_so : (q m : ℕ) (s : State) → (serves q m (sent q m s) ≡ false) × ((k : ℕ) → (has (sent q m s) k ≡ has s k) × (holds (sent q m s) k ≡ holds s k)) × (shuts (sent q m s) ≡ shuts s) × (row (sent q m s) ≡ row s)
  pub shut_is : (s : State) (q : ℕ) → shut s q ≡ is_in q (shuts s)
  pub shuts_few : (s : State) → length (shuts s) ≤ 4096
  -- the row of friends from round to round; the first may ask, at most four may; 64 friends are taken; a round shuts nobody out, and what was asked for stays awaited as long as the link stands, and ends with it
  pub rounds_so : (cs : List Change) (s : State) → row (rounds cs s) ≡ next (taken (shut s) (turned (row s)) cs) (row s)
  pub rounds_shut : (cs : List Change) (s : State) → shuts (rounds cs s) ≡ shuts s
  pub rounds_awaits : (cs : List Change) (s : State) (k l : ℕ) → no_leave k cs ≡ true → awaits k l s ≡ true → awaits k l (rounds cs s) ≡ true
  pub rounds_ends : (cs : List Change) (s : State) (k l : ℕ) → no_leave k cs ≡ false → awaits k l (rounds cs s) ≡ false
  pub lets_turn : (s : State) (q : ℕ) (qs : List ℕ) → row s ≡ q ∷ qs → is_in q (lets s) ≡ true
  pub lets_few : (s : State) → length (lets s) ≤ 4
  pub keeps : (cs : List Change) (s : State) (m : ℕ) → (has (rounds cs s) m ≡ has s m) × (holds (rounds cs s) m ≡ holds s m)
  pub ask_so : (q m : ℕ) (s : State) → is_in q (row s) ≡ true → m < size r →
      (awaits q m (ask q m s) ≡ true) × ((k l : ℕ) → awaits k l s ≡ true → awaits k l (ask q m s) ≡ true) × ((k : ℕ) → (has (ask q m s) k ≡ has s k) × (holds (ask q m s) k ≡ holds s k)) × (shuts (ask q m s) ≡ shuts s) × (row (ask q m s) ≡ row s) × (writes (ask q m s) ≡ writes s)
  pub asked_so : (q m : ℕ) (s : State) → is_in q (lets s) ≡ true → has s m ≡ true → m < size r →
      (serves q m (asked_of q m s) ≡ true) × ((k : ℕ) → (has (asked_of q m s) k ≡ has s k) × (holds (asked_of q m s) k ≡ holds s k)) × (shuts (asked_of q m s) ≡ shuts s) × (row (asked_of q m s) ≡ row s)
  pub awaits_on : (q m x : ℕ) (ps : List Dig) (s : State) (k l : ℕ) → awaits k l s ≡ true → ((k ≡ q) → (l ≡ m) → ⊥) → awaits k l (comes q m x ps s) ≡ true
  -- it asks for something that it lacks and the other has told of, if there is such, whatever else is under way
  pub asks_lacking : (q : ℕ) (t : ℕ → Bool) (s : State) (m : ℕ) → m < size r → t m ≡ true → has s m ≡ false → (asks q t s < size r) × (t (asks q t s) ≡ true) × (has s (asks q t s) ≡ false)
  pub comes_so : (q m x : ℕ) (ps : List Dig) (s : State) → writes s ≡ true → shut s q ≡ false → awaits q m s ≡ true → fits r m x ps ≡ true →
      (has (comes q m x ps s) m ≡ true) × (has s m ≡ false → (holds (comes q m x ps s) m ≡ x) × (ways (comes q m x ps s) m ≡ ps)) × (shuts (comes q m x ps s) ≡ shuts s) × (row (comes q m x ps s) ≡ row s)
  -- each ask is good for one piece; what it has stays as it is; and where the disk doesn't write nothing is taken
  pub awaits_one : (q m x : ℕ) (ps : List Dig) (s : State) → writes s ≡ true → fits r m x ps ≡ true → awaits q m (comes q m x ps (ask q m s)) ≡ awaits q m s
  pub comes_keeps : (q m x : ℕ) (ps : List Dig) (s : State) (k : ℕ) → has s k ≡ true → (has (comes q m x ps s) k ≡ true) × (holds (comes q m x ps s) k ≡ holds s k) × (ways (comes q m x ps s) k ≡ ways s k)
  pub comes_no_disk : (q m x : ℕ) (ps : List Dig) (s : State) (k : ℕ) → writes s ≡ false → has (comes q m x ps s) k ≡ has s k
  pub comes_false : (q m x : ℕ) (ps : List Dig) (s : State) → (awaits q m s && fits r m x ps) ≡ false → ((k : ℕ) → (has (comes q m x ps s) k ≡ has s k) × (holds (comes q m x ps s) k ≡ holds s k)) × (shut (comes q m x ps s) q ≡ true)
  -- nobody else is shut out by it, and nobody is let back but the one longest remembered, of 4,096
  pub not_let_back : (q m x : ℕ) (ps : List Dig) (s : State) (k : ℕ) → shut s k ≡ true → length (shuts s) < 4096 → shut (comes q m x ps s) k ≡ true
  pub others_shut : (q m x : ℕ) (ps : List Dig) (s : State) (k : ℕ) → (k ≢ q) → shut s k ≡ false → shut (comes q m x ps s) k ≡ false
  pub others_same : (q m x : ℕ) (ps : List Dig) (s : State) (k : ℕ) → (k ≢ m) → (has (comes q m x ps s) k ≡ has s k) × (holds (comes q m x ps s) k ≡ holds s k)

-- so each round in which who has the turn asks, and what it asked for comes, is one of this world's: it has something more, and nobody is shut out for it
abbrev pub GivesOne : (r : Rules) (q : ℕ) (State : Type 0) → Code r q State → Type 0
GivesOne r q State c =
    (p : ℕ) (told : ℕ → Bool) (s : State) (m d : ℕ) → c.writes s ≡ true → is_in p (c.row s) ≡ true → m < size r → told m ≡ true → c.has s m ≡ false → c.shut s p ≡ false →
    fits r (c.asks p told s) (slice_index_or r.file (c.asks p told s) d) (way (c.asks p told s) r.file) ≡ true →
    (x : ℕ) × (x < size r) × (told x ≡ true) × (c.has s x ≡ false) × (c.has (c.comes p x (slice_index_or r.file x d) (way x r.file) (c.ask p x s)) x ≡ true) ×
    (c.shut (c.comes p x (slice_index_or r.file x d) (way x r.file) (c.ask p x s)) p ≡ false)

-- Whatever code does what it must gives one piece more in a turn.
abbrev pub CodeGivesOne : Type 0 → Type 0
CodeGivesOne State = (r : Rules) (q : ℕ) (c : Code r q State) → GivesOne r q State c
