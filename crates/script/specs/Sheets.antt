-- What a script says, statement by statement. Assumes nothing.
use Rattle.std.specs.Prelude.{◌≡◌, ℕ, ◌+◌, min, Bool, true, false, cond, ◌&&◌, ◌||◌, List, [], ◌∷◌, ◌++◌, is_ok, Some, None, Ok, Err, vec_items, Option, Result, ◌==◌, nat_lt}
use Rattle.script.specs.Statements.{statement, most}
use Rattle.script.specs.Words.{words, lines}
use Rattle.script.specs.declared.sheet.BadLine.{BadLine}
use Rattle.script.specs.declared.draft.Draft.{Draft}
use Rattle.script.specs.declared.sheet.Event.{Event}
use Rattle.script.specs.declared.sheet.LinkEvent.{LinkEvent}
use Rattle.script.specs.declared.sheet.LinkEvent.TheVariants.{Opens, Breaks}
use Rattle.script.specs.declared.sheet.Peer.{Peer}
use Rattle.script.specs.declared.sheet.ReadFault.{ReadFault}
use Rattle.script.specs.declared.sheet.ReadFault.TheVariants.{Line, OutOfMemory}
use Rattle.script.specs.declared.sheet.Script.{Script}
use Rattle.script.specs.declared.statement.Expected.{Expected}
use Rattle.script.specs.declared.statement.Statement.{Statement}
use Rattle.std.specs.List.{insert, fold, list_any, position_or_len}

-- peers by their numbers, events by their ticks and lines, and how many rounds, once that is said
pub record Sheet : Type 0 where
  pub peers : List Peer
  pub events : List Event
  pub rounds : Option ℕ

abbrev pub blank_sheet : Sheet
blank_sheet = record { peers = []; events = []; rounds = None }

-- what a draft and a script stand for
abbrev pub sheet : Draft → Sheet
sheet s = record { peers = vec_items s.peers; events = vec_items s.events; rounds = s.rounds }

abbrev pub whole : Script → Sheet
whole s = record { peers = vec_items s.peers; events = vec_items s.events; rounds = Some s.rounds }

-- is a peer of that number there
abbrev pub known : ℕ → List Peer → Bool
known n ps = list_any (λ p. p.id == n) ps

-- before how many items one of that key stands that is read after them: the first of a greater key
abbrev pub place : {X : Type 0} → (X → ℕ) → ℕ → List X → ℕ
place key n xs = position_or_len (λ x. nat_lt n (key x)) xs

-- peers stand by their numbers, events by their ticks
abbrev pub number_of : Peer → ℕ
number_of p = p.id

abbrev pub tick_of : Event → ℕ
tick_of e = e.at

abbrev pub with_peer : Peer → Sheet → Result Sheet Expected
with_peer p s = cond (known p.id s.peers) (Err Expected.NewPeer) (Ok (record { peers = insert s.peers (place number_of p.id s.peers) p; events = s.events; rounds = s.rounds }))

abbrev pub with_event : Event → Sheet → Result Sheet Expected
with_event e s =
    cond (known e.a s.peers && known e.b s.peers)
    (cond (e.a == e.b) (Err Expected.OtherPeer) (Ok (record { peers = s.peers; events = insert s.events (place tick_of e.at s.events) e; rounds = s.rounds })))
    (Err Expected.KnownPeer)

-- one statement more, on a line; none may follow `rounds`
abbrev pub with_statement : ℕ → Statement → Sheet → Result Sheet Expected
with_statement line (Statement.Peer n) s = with_peer (record { id = n; honest = true }) s
with_statement line (Statement.False n) s = with_peer (record { id = n; honest = false }) s
with_statement line (Statement.Link a b t d) s = with_event (record { at = t; a = a; b = b; what = Opens d; line = line }) s
with_statement line (Statement.Break a b t) s = with_event (record { at = t; a = a; b = b; what = Breaks; line = line }) s
with_statement line (Statement.Rounds n) s = Ok (record { peers = s.peers; events = s.events; rounds = Some n })

abbrev pub more : ℕ → Sheet → Statement → Result Sheet Expected
more line s st = elim s.rounds [ None ↦ with_statement line st s | Some n ↦ Err Expected.Nothing ]

-- does a statement want memory
abbrev pub kept : Statement → Bool
kept (Statement.Peer n) = true
kept (Statement.False n) = true
kept (Statement.Link a b t d) = true
kept (Statement.Break a b t) = true
kept (Statement.Rounds n) = false

-- are two events of one pair of peers
abbrev pub same_pair : Event → Event → Bool
same_pair e f = (e.a == f.a && e.b == f.b) || (e.a == f.b && e.b == f.a)

abbrev pub opening : LinkEvent → Bool
opening (Opens d) = true
opening Breaks = false

-- does the link of an event stand after others, the earliest first, if it stood or not before them
abbrev pub stands : Event → Bool → List Event → Bool
stands e before fs = fold (λ standing f. cond (same_pair f e) (opening f.what) standing) before fs

-- the line of the first event that breaks a link which does not stand, after those that came before
unfoldable pub bad_break : List Event → List Event → Option ℕ
bad_break past [] = None
bad_break past (e ∷ es) = cond (opening e.what || stands e false past) (bad_break (past ++ (e ∷ [])) es) (Some e.line)

-- the whole sheet after its last line: it says how many rounds, and breaks only links that stand
abbrev pub finished : ℕ → Sheet → Result Sheet BadLine
finished line s = elim s.rounds [
  | None ↦ Err (record { line = line; expected = Expected.Rounds })
  | Some n ↦ elim (bad_break [] s.events) [ None ↦ Ok s | Some bad ↦ Err (record { line = bad; expected = Expected.StandingLink }) ]
]

-- a line: nothing, or a statement
abbrev pub with_words : ℕ → Sheet → List (List ℕ) → Result Sheet Expected
with_words line s [] = Ok s
with_words line s (w ∷ ws) = elim (statement (w ∷ ws)) [ Ok st ↦ more line s st | Err e ↦ Err e ]

-- lines are counted from 1, as far as 64 bits go
abbrev pub next_line : ℕ → ℕ
next_line n = min (n + 1) most

-- what was expected, on that line
abbrev pub numbered : ℕ → Result Sheet Expected → Result Sheet BadLine
numbered n (Ok s) = Ok s
numbered n (Err e) = Err (record { line = n; expected = e })

-- the lines that follow line n
unfoldable pub with_lines : ℕ → Sheet → List (List ℕ) → Result Sheet BadLine
with_lines n s [] = finished n s
with_lines n s (l ∷ ls) = elim (numbered (next_line n) (with_words (next_line n) s (words l))) [ Ok t ↦ with_lines (next_line n) t ls | Err b ↦ Err b ]

-- a whole text
abbrev pub script : List ℕ → Result Sheet BadLine
script text = with_lines 0 blank_sheet (lines text)

-- does a line have a statement that is taken and wants memory
abbrev pub kept_line : ℕ → Sheet → List (List ℕ) → Bool
kept_line line s [] = false
kept_line line s (w ∷ ws) = elim (statement (w ∷ ws)) [ Ok st ↦ kept st && is_ok (more line s st) | Err e ↦ false ]

-- does one of the lines that follow line n, before the first bad one
unfoldable pub kept_lines : ℕ → Sheet → List (List ℕ) → Bool
kept_lines n s [] = false
kept_lines n s (l ∷ ls) = kept_line (next_line n) s (words l) || elim (numbered (next_line n) (with_words (next_line n) s (words l))) [ Ok t ↦ kept_lines (next_line n) t ls | Err b ↦ false ]

-- an answer is the text's; or there was no memory, which can be only where this is so
abbrev pub Reads : {X : Type 0} → (X → Sheet) → Type 0 → Result Sheet BadLine → Result X ReadFault → Type 0
Reads seen wants said (Ok s) = said ≡ Ok (seen s)
Reads seen wants said (Err (Line b)) = said ≡ Err b
Reads seen wants said (Err OutOfMemory) = wants
