-- Whatever text is read as a script is sound.
use Rattle.std.proofs.Common.{◌≡◌, ℕ, ◌<◌, ◌≤◌, ◌&&◌, eqb, List, [], ◌∷◌, is_some, Some, None, Ok, Err, Option, Result, refl, ap, subst, arith}
use Rattle.script.proofs.Inserting.{all_inserted, known_inserted, peers_inserted, events_inserted}
use Rattle.script.specs.Sheets.{Sheet, blank_sheet, known, number_of, tick_of, with_peer, with_event, with_statement, more, with_words, next_line, numbered, with_lines, bad_break, finished}
use Rattle.script.specs.Sound.{Ordered, Ends, Sound, ScriptSound}
use Rattle.script.specs.Statements.{Read, statement}
use Rattle.script.specs.Words.{words, lines}
use Rattle.script.specs.declared.sheet.BadLine.{BadLine}
use Rattle.script.specs.declared.sheet.Event.{Event}
use Rattle.script.specs.declared.sheet.Peer.{Peer}
use Rattle.script.specs.declared.statement.Expected.{Expected}
use Rattle.script.specs.declared.statement.Statement.{Statement}
use Rattle.std.proofs.ByRecursion.{All-weaker}
use Rattle.std.proofs.lemmas.Bool.{cond_both, and_parts}
use Rattle.std.specs.List.{AllByRecursion}

-- what holds after each line
record Good (s : Sheet) : Type 0 where
  peers_rise : Ordered (λ p q. number_of p < number_of q) s.peers
  events_rise : Ordered (λ e f. tick_of e ≤ tick_of f) s.events
  ends : AllByRecursion (Ends s.peers) s.events

-- the sheet, if it is taken, is good
abbrev Keeps : Result Sheet Expected → Type 0
Keeps (Ok s) = Good s
Keeps (Err e) = Unit {0}

err_ok : {P : Type 0} (b : BadLine) (t : Sheet) → ◌≡◌ {A = Result Sheet BadLine} (Err b) (Ok t) → P
err_ok b t h = let z : ◌≡◌ {A = ℕ} 0 1 = cc in absurd (omega arith)

module _ (s : Sheet) (g : Good s) where
  peer_kept : (p : Peer) → Keeps (with_peer p s)
  peer_kept p = cond_both (known p.id s.peers) (Err Expected.NewPeer) _ Keeps (λ _. tt) λ new. record {
    peers_rise = peers_inserted s.peers p new g.peers_rise;
    events_rise = g.events_rise;
    ends = All-weaker _ _ (λ e h. (known_inserted e.a s.peers _ p h.0, known_inserted e.b s.peers _ p h.1, h.2)) s.events g.ends;
  }

  event_kept : (e : Event) → Keeps (with_event e s)
  event_kept e = cond_both (known e.a s.peers && known e.b s.peers) _ (Err Expected.KnownPeer) Keeps
      (λ both. cond_both (eqb e.a e.b) (Err Expected.OtherPeer) _ Keeps (λ _. tt) λ apart. let h = and_parts _ _ both in record {
        peers_rise = g.peers_rise;
        events_rise = events_inserted s.events e g.events_rise;
        ends = all_inserted (Ends s.peers) s.events _ e g.ends (h.0, h.1, apart);
      })
      (λ _. tt)

  statement-kept : (line : ℕ) (st : Statement) → Keeps (with_statement line st s)
  statement-kept line (Statement.Peer n) = peer_kept _
  statement-kept line (Statement.False n) = peer_kept _
  statement-kept line (Statement.Link a b t d) = event_kept _
  statement-kept line (Statement.Break a b t) = event_kept _
  statement-kept line (Statement.Rounds n) = record { peers_rise = g.peers_rise; events_rise = g.events_rise; ends = g.ends }

  more-kept : (line : ℕ) (st : Statement) → Keeps (more line s st)
  more-kept line st = go s.rounds
    where
      go : (o : Option ℕ) → Keeps (elim o [ None ↦ with_statement line st s | Some n ↦ Err Expected.Nothing ])
      go None = statement-kept line st
      go (Some n) = tt

  words-kept : (line : ℕ) (ws : List (List ℕ)) → Keeps (with_words line s ws)
  words-kept line [] = g
  words-kept line (w ∷ ws) = go (statement (w ∷ ws))
    where
      go : (r : Read) → Keeps (elim r [ Ok st ↦ more line s st | Err e ↦ Err e ])
      go (Ok st) = more-kept line st
      go (Err e) = tt

  finished_sound : (n : ℕ) (t : Sheet) → finished n s ≡ Ok t → Sound t
  finished_sound n t h = go s.rounds (bad_break [] s.events) refl refl h
    where
      go : (o bad : Option ℕ) → s.rounds ≡ o → bad_break [] s.events ≡ bad →
          elim o as (λ _. Result Sheet BadLine) [
            | None ↦ Err (record { line = n; expected = Expected.Rounds })
            | Some _ ↦ elim bad as (λ _. Result Sheet BadLine) [ None ↦ Ok s | Some b ↦ Err (record { line = b; expected = Expected.StandingLink }) ]
          ] ≡ Ok t → Sound t
      go None bad said stand h = err_ok _ t h
      go (Some r) (Some b) said stand h = err_ok _ t h
      go (Some r) None said stand h =
          subst Sound (cc) (record { peers_rise = g.peers_rise; events_rise = g.events_rise; ends = g.ends; rounds_said = ap is_some said; breaks_stand = stand })

lines_sound : (ls : List (List ℕ)) (n : ℕ) (s t : Sheet) → Good s → with_lines n s ls ≡ Ok t → Sound t
unfolding with_lines
lines_sound [] n s t g h = finished_sound s g n t h
lines_sound (l ∷ ls) n s t g h = go (with_words (next_line n) s (words l)) (words-kept s g (next_line n) (words l)) (λ u. lines_sound ls (next_line n) u t) h
  where
    go : (r : Result Sheet Expected) → Keeps r → ((u : Sheet) → Good u → with_lines (next_line n) u ls ≡ Ok t → Sound t) →
        elim (numbered (next_line n) r) as (λ _. Result Sheet BadLine) [ Ok u ↦ with_lines (next_line n) u ls | Err b ↦ Err b ] ≡ Ok t → Sound t
    go (Ok u) k on h = on u k h
    go (Err e) k on h = err_ok _ t h

pub script_sound : ScriptSound
script_sound text s h = lines_sound (lines text) 0 blank_sheet s (record { peers_rise = λ i j d l m. absurd (omega arith); events_rise = λ i j d l m. absurd (omega arith); ends = tt }) h
