-- What a peer that keeps to the rules is: one definition for each thing that can happen to it, over all that can be seen of it, and the record of those whose every step does just that. Assumes nothing.
use Rattle.std.specs.Prelude.{◌≡◌, ℕ, pred, ◌+◌, ◌<◌, ◌≤◌, Bool, true, false, cond, not, ◌&&◌, ◌||◌, List, [], ◌∷◌, length, take, ◌==◌, nat_lt, slice_index}
use Rattle.swarm.specs.Tree.{Dig, way}
use Rattle.swarm.specs.Turns.{Change, Joins, Leaves, is_in, without, changed, turned}
use Rattle.swarm.specs.Swarm.{Rules, size, fits}
use Rattle.swarm.specs.Code.{Code, taken}

-- the ask of a friend that is yet to be met: the newest only
pub data Held : Type 0 where
  Nothing : Held
  Wants : (place : ℕ) → Held

abbrev pub wants : ℕ → Held → Bool
wants m Nothing = false
wants m (Wants k) = k == m

-- all that can be seen of a peer:
-- has, holds, ways: which pieces are on disk, what each holds, and the way that is kept with it; writes: does the disk write
-- shuts: whom it has shut out, the newest first
-- row: the row as the round found it, its first having the turn; rotation: the row as it is now, turned, with those who came since and without those who left
-- lets: whom it lets ask in this round; awaited: how many of a place were asked for on the link to a friend and did not come yet; held: the ask that is yet to be met
pub record Seen : Type 0 where
  pub has : ℕ → Bool
  pub holds : ℕ → ℕ
  pub ways : ℕ → List Dig
  pub writes : Bool
  pub shuts : List ℕ
  pub row : List ℕ
  pub rotation : List ℕ
  pub lets : List ℕ
  pub awaited : (of' place : ℕ) → ℕ
  pub held : (from : ℕ) → Held

-- the same, place by place and friend by friend
pub record Same (s t : Seen) : Type 0 where
  pub has : (k : ℕ) → s.has k ≡ t.has k
  pub holds : (k : ℕ) → s.holds k ≡ t.holds k
  pub ways : (k : ℕ) → s.ways k ≡ t.ways k
  pub writes : s.writes ≡ t.writes
  pub shuts : s.shuts ≡ t.shuts
  pub row : s.row ≡ t.row
  pub rotation : s.rotation ≡ t.rotation
  pub lets : s.lets ≡ t.lets
  pub awaited : (q m : ℕ) → s.awaited q m ≡ t.awaited q m
  pub held : (q : ℕ) → s.held q ≡ t.held q

-- what it brings: those of these places that the file has
abbrev pub brings : Rules → List ℕ → ℕ → Bool
brings r h m = nat_lt m (size r) && is_in m h

-- it starts with what it brings, which is the file's, and with nobody
abbrev pub starts : Rules → List ℕ → Seen
starts r h = record {
  has = brings r h;
  holds = λ m. cond (brings r h m) (slice_index r.file m) 0;
  ways = λ m. cond (brings r h m) (way m r.file) [];
  writes = true;
  shuts = [];
  row = [];
  rotation = [];
  lets = [];
  awaited = λ q m. 0;
  held = λ q. Nothing;
}

-- a round begins: the row turns, others are let ask, and the asks that were not met lapse
abbrev pub begun : List ℕ → Seen → Seen
begun ls s = record { has = s.has; holds = s.holds; ways = s.ways; writes = s.writes; shuts = s.shuts; row = s.rotation; rotation = turned s.rotation; lets = ls; awaited = s.awaited; held = λ q. Nothing }

-- who is let ask in a round that finds this row: its first, at most four, all of them friends
pub record Chosen (row lets : List ℕ) : Type 0 where
  pub turn_in : (q : ℕ) (qs : List ℕ) → row ≡ q ∷ qs → is_in q lets ≡ true
  pub few : length lets ≤ 4
  pub near : (q : ℕ) → is_in q lets ≡ true → is_in q row ≡ true

-- a link came about; not taken of one who is shut out, nor a sixty-fifth
abbrev pub joined : ℕ → Seen → Seen
joined x s = record { has = s.has; holds = s.holds; ways = s.ways; writes = s.writes; shuts = s.shuts; row = s.row; rotation = changed (taken (λ q. is_in q s.shuts) s.rotation (Joins x ∷ [])) s.rotation; lets = s.lets; awaited = s.awaited; held = s.held }

-- a link ended, and with it all that was asked on it, either way
abbrev pub parted : ℕ → Seen → Seen
parted x s = record { has = s.has; holds = s.holds; ways = s.ways; writes = s.writes; shuts = s.shuts; row = s.row; rotation = without x s.rotation; lets = without x s.lets; awaited = λ q m. cond (q == x) 0 (s.awaited q m); held = λ q. cond (q == x) Nothing (s.held q) }

-- the disk stops or starts to write
abbrev pub disked : Bool → Seen → Seen
disked b s = record { has = s.has; holds = s.holds; ways = s.ways; writes = b; shuts = s.shuts; row = s.row; rotation = s.rotation; lets = s.lets; awaited = s.awaited; held = s.held }

-- it asks a friend for a place
abbrev pub asking : (of' place : ℕ) → Seen → Seen
asking q m s = record { has = s.has; holds = s.holds; ways = s.ways; writes = s.writes; shuts = s.shuts; row = s.row; rotation = s.rotation; lets = s.lets; awaited = λ k l. s.awaited k l + cond (k == q && (l == m && is_in q s.rotation)) 1 0; held = s.held }

-- is what comes awaited on that link, and does it fit
abbrev pub good : Rules → (from place what : ℕ) → List Dig → Seen → Bool
good r q m x ps s = nat_lt 0 (s.awaited q m) && fits r m x ps

-- is it written: it is good, its sender isn't shut out, and the disk writes
abbrev pub written : Rules → (from place what : ℕ) → List Dig → Seen → Bool
written r q m x ps s = good r q m x ps s && (not (is_in q s.shuts) && s.writes)

-- a piece comes on a link: it is kept where it lacked, its sender is shut out where it isn't good, and one ask is met; that the link of one who is shut out ends is the next step
abbrev pub came : Rules → (from place what : ℕ) → List Dig → Seen → Seen
came r q m x ps s = record {
  has = λ k. s.has k || (k == m && written r q m x ps s);
  holds = λ k. cond (k == m && (not (s.has m) && written r q m x ps s)) x (s.holds k);
  ways = λ k. cond (k == m && (not (s.has m) && written r q m x ps s)) ps (s.ways k);
  writes = s.writes;
  shuts = cond (is_in q s.shuts || good r q m x ps s) s.shuts (take 4096 (q ∷ s.shuts));
  row = s.row;
  rotation = s.rotation;
  lets = s.lets;
  awaited = λ k l. cond (k == q && l == m) (pred (s.awaited k l)) (s.awaited k l);
  held = s.held;
}

-- may its ask be held: it is let ask, and the piece is there
abbrev pub may : Rules → (from place : ℕ) → Seen → Bool
may r q m s = is_in q s.lets && (s.has m && nat_lt m (size r))

-- a friend asks it for a place
abbrev pub asked : Rules → (from place : ℕ) → Seen → Seen
asked r q m s = record { has = s.has; holds = s.holds; ways = s.ways; writes = s.writes; shuts = s.shuts; row = s.row; rotation = s.rotation; lets = s.lets; awaited = s.awaited; held = λ k. cond (k == q && may r q m s) (Wants m) (s.held k) }

-- it has sent a place to a friend
abbrev pub served : (to place : ℕ) → Seen → Seen
served q m s = record { has = s.has; holds = s.holds; ways = s.ways; writes = s.writes; shuts = s.shuts; row = s.row; rotation = s.rotation; lets = s.lets; awaited = s.awaited; held = λ k. cond (k == q && wants m (s.held q)) Nothing (s.held k) }

-- what holds of a peer at all times: few are remembered, linked and let; only friends are let, awaited and served; what is to be served is there
pub record Fine (r : Rules) (s : Seen) : Type 0 where
  pub shuts_few : length s.shuts ≤ 4096
  pub links_few : length s.rotation ≤ 64
  pub lets_few : length s.lets ≤ 4
  pub lets_near : (q : ℕ) → is_in q s.lets ≡ true → is_in q s.rotation ≡ true
  pub awaited_near : (q m : ℕ) → 0 < s.awaited q m → is_in q s.rotation ≡ true
  pub held_let : (q m : ℕ) → s.held q ≡ Wants m → (is_in q s.lets ≡ true) × (m < size r) × (s.has m ≡ true)

-- peer p as code over states of its choice: each step leaves what its definition leaves, and whom it lets and what it asks for are free within what is said of them
pub record Honest (r : Rules) (p : ℕ) (State : Type 0) : Type 0 where
  pub see : State → Seen
  pub first : List ℕ → State
  pub begins : State → State
  pub joins : ℕ → State → State
  pub leaves : ℕ → State → State
  pub disk : Bool → State → State
  pub asks : (of' : ℕ) → (told : ℕ → Bool) → State → ℕ
  pub ask : (of' place : ℕ) → State → State
  pub comes : (from place what : ℕ) → List Dig → State → State
  pub asked_of : (from place : ℕ) → State → State
  pub sent : (to place : ℕ) → State → State
  pub fine : (s : State) → Fine r (see s)
  pub first_so : (h : List ℕ) → Same (see (first h)) (starts r h)
  pub begins_so : (s : State) → Same (see (begins s)) (begun (see (begins s)).lets (see s))
  pub begins_lets : (s : State) → Chosen (see s).rotation (see (begins s)).lets
  pub joins_so : (q : ℕ) (s : State) → Same (see (joins q s)) (joined q (see s))
  pub leaves_so : (q : ℕ) (s : State) → Same (see (leaves q s)) (parted q (see s))
  pub disk_so : (b : Bool) (s : State) → Same (see (disk b s)) (disked b (see s))
  pub asks_lacking : (q : ℕ) (t : ℕ → Bool) (s : State) (m : ℕ) → m < size r → t m ≡ true → (see s).has m ≡ false → (asks q t s < size r) × (t (asks q t s) ≡ true) × ((see s).has (asks q t s) ≡ false)
  pub ask_so : (q m : ℕ) (s : State) → Same (see (ask q m s)) (asking q m (see s))
  pub comes_so : (q m x : ℕ) (ps : List Dig) (s : State) → Same (see (comes q m x ps s)) (came r q m x ps (see s))
  pub asked_so : (q m : ℕ) (s : State) → Same (see (asked_of q m s)) (asked r q m (see s))
  pub sent_so : (q m : ℕ) (s : State) → Same (see (sent q m s)) (served q m (see s))

-- the definitions themselves as a peer's states: what is seen, and that it is as it must be
abbrev pub Plain : Rules → Type 0
Plain r = (s : Seen) × Fine r s

-- what it is seen as while nobody came or left since the round began
abbrev pub SettledAs : Seen → Type 0
SettledAs s = (s.rotation ≡ turned s.row) × ((q : ℕ) (qs : List ℕ) → s.row ≡ q ∷ qs → is_in q s.lets ≡ true)

-- `Code` has these states only, since its changes come with a round's end
abbrev pub SettledState : {r : Rules} {p : ℕ} {State : Type 0} → Honest r p State → Type 0
SettledState {State = State} h = (s : State) × SettledAs (h.see s)

-- links come about and end, one after the other
unfoldable pub applied : {r : Rules} {p : ℕ} {State : Type 0} → Honest r p State → List Change → State → State
applied h [] s = s
applied h (Joins x ∷ cs) s = applied h cs (h.joins x s)
applied h (Leaves x ∷ cs) s = applied h cs (h.leaves x s)

-- code that shows and does what the peer shows and does
pub record Over {r : Rules} {p : ℕ} {State : Type 0} (h : Honest r p State) (c : Code r p (SettledState h)) : Type 0 where
  pub has : (s : SettledState h) (k : ℕ) → c.has s k ≡ (h.see s.0).has k
  pub holds : (s : SettledState h) (k : ℕ) → c.holds s k ≡ (h.see s.0).holds k
  pub ways : (s : SettledState h) (k : ℕ) → c.ways s k ≡ (h.see s.0).ways k
  pub writes : (s : SettledState h) → c.writes s ≡ (h.see s.0).writes
  pub shuts : (s : SettledState h) → c.shuts s ≡ (h.see s.0).shuts
  pub row : (s : SettledState h) → c.row s ≡ (h.see s.0).row
  pub lets : (s : SettledState h) → c.lets s ≡ (h.see s.0).lets
  pub awaits : (s : SettledState h) (q m : ℕ) → c.awaits q m s ≡ nat_lt 0 ((h.see s.0).awaited q m)
  pub serves : (s : SettledState h) (q m : ℕ) → c.serves q m s ≡ wants m ((h.see s.0).held q)
  pub asks : (s : SettledState h) (q : ℕ) (t : ℕ → Bool) → c.asks q t s ≡ h.asks q t s.0
  pub first : (b : List ℕ) → (c.first b).0 ≡ h.first b
  pub rounds : (s : SettledState h) (cs : List Change) → (c.rounds cs s).0 ≡ h.begins (applied h cs s.0)
  pub disk : (s : SettledState h) (b : Bool) → (c.disk b s).0 ≡ h.disk b s.0
  pub ask : (s : SettledState h) (q m : ℕ) → (c.ask q m s).0 ≡ h.ask q m s.0
  pub comes : (s : SettledState h) (q m x : ℕ) (ps : List Dig) → (c.comes q m x ps s).0 ≡ h.comes q m x ps s.0
  pub asked_of : (s : SettledState h) (q m : ℕ) → (c.asked_of q m s).0 ≡ h.asked_of q m s.0
  pub sent : (s : SettledState h) (q m : ℕ) → (c.sent q m s).0 ≡ h.sent q m s.0

-- A peer that keeps to the rules step by step, with states of any type, does what the code of a peer must do.
abbrev pub HonestIsCode : Type 0 → Type 0
HonestIsCode State = (r : Rules) (p : ℕ) (h : Honest r p State) → (c : Code r p (SettledState h)) × Over h c

-- There are such peers.
abbrev pub HonestIsMet : Type 0
HonestIsMet = (r : Rules) (p : ℕ) → Honest r p (Plain r)
