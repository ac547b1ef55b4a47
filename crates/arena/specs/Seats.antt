-- What the events of a script make of the rows of its honest peers, round by round. Assumes nothing.
use Rattle.std.specs.Prelude.{ℕ, suc, ◌*◌, min, Bool, true, cond, not, ◌&&◌, ◌||◌, List, [], ◌∷◌, map, ◌==◌, nat_le}
use Rattle.arena.specs.declared.node.Node.{Node}
use Rattle.rotation.specs.Rows.{row, room, nobody}
use Rattle.script.specs.Statements.{most}
use Rattle.script.specs.declared.sheet.Event.{Event}
use Rattle.script.specs.declared.sheet.LinkEvent.TheVariants.{Opens, Breaks}
use Rattle.script.specs.declared.sheet.Peer.{Peer}
use Rattle.std.specs.Option.{option_to_list}
use Rattle.swarm.specs.Code.{taken}
use Rattle.swarm.specs.Turns.{Change, Joins, Leaves, changed, turned, first}

-- an honest peer: its number, its row, and who has the turn, if anybody
pub record Seat : Type 0 where
  pub id : ℕ
  pub row : List ℕ
  pub holder : List ℕ

abbrev pub seat : Node → Seat
seat n = record { id = n.id; row = row n.rotation; holder = option_to_list n.holder }

abbrev pub seats : List Node → List Seat
seats ns = map seat ns

-- the honest peers of a script, with nobody in their rows
unfoldable pub seated : List Peer → List Seat
seated [] = []
seated (p ∷ ps) = cond p.honest (record { id = p.id; row = []; holder = [] } ∷ seated ps) (seated ps)

-- does peer id take a link to another: a faulty one always does, an honest one if its row has room
unfoldable pub willing : (id other : ℕ) → List Seat → Bool
willing id other [] = true
willing id other (s ∷ ss) = (not (s.id == id) || room other s.row) && willing id other ss

-- a seat after its row changed
abbrev pub reseated : List Change → Seat → Seat
reseated cs s = record { id = s.id; row = changed (taken nobody s.row cs) s.row; holder = s.holder }

-- the row of peer id changes
abbrev pub change_at : ℕ → List Change → Seat → Seat
change_at id cs s = cond (s.id == id) (reseated cs s) s

-- a link comes about if both take it, and ends an old one between them
abbrev pub linked : (a e : ℕ) → List Seat → List Seat
linked a e ss = cond (willing a e ss && willing e a ss) (map (change_at e (Leaves a ∷ Joins a ∷ [])) (map (change_at a (Leaves e ∷ Joins e ∷ [])) ss)) ss

-- a link breaks
abbrev pub parted : (a e : ℕ) → List Seat → List Seat
parted a e ss = map (change_at e (Leaves a ∷ [])) (map (change_at a (Leaves e ∷ [])) ss)

abbrev pub happens : Event → List Seat → List Seat
happens e ss = elim e.what [ Opens d ↦ linked e.a e.b ss | Breaks ↦ parted e.a e.b ss ]

-- what is due up to a tick happens, of events by their ticks
unfoldable pub happen_till : ℕ → List Event → List Seat → List Seat
happen_till t [] ss = ss
happen_till t (e ∷ es) ss = cond (nat_le e.at t) (happen_till t es (happens e ss)) ss

-- how many are due
unfoldable pub due_till : ℕ → List Event → ℕ
due_till t [] = 0
due_till t (e ∷ es) = cond (nat_le e.at t) (suc (due_till t es)) 0

-- a round begins at a peer: the first of its row has the turn and goes to the end
abbrev pub begun : Seat → Seat
begun s = record { id = s.id; row = turned s.row; holder = first s.row }

-- the tick at which a round of 64 ticks begins, as far as 64 bits go
abbrev pub beginning : ℕ → ℕ
beginning k = min (k * 64) most

-- what is due up to the beginning of a round happens, and then it begins at each peer
abbrev pub round_at : ℕ → List Event → List Seat → List Seat
round_at k es ss = map begun (happen_till (beginning k) es ss)
