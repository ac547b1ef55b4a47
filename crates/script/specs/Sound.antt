-- What a script that is read can be relied on for. Assumes nothing.
use Rattle.std.specs.Prelude.{◌≡◌, ℕ, ◌<◌, ◌≤◌, true, false, List, [], AllPairs, is_some, None, Ok, ◌==◌}
use Rattle.script.specs.Sheets.{Sheet, known, number_of, tick_of, bad_break, script}
use Rattle.script.specs.declared.sheet.Event.{Event}
use Rattle.script.specs.declared.sheet.Peer.{Peer}
use Rattle.std.specs.List.{AllByRecursion}

-- each item stands so to all that follow it
abbrev pub Ordered : {X : Type 0} → (X → X → Type 0) → List X → Type 0
Ordered R xs = AllPairs R xs

-- both ends of an event are peers of the script, and different
abbrev pub Ends : List Peer → Event → Type 0
Ends ps e = (known e.a ps ≡ true) × (known e.b ps ≡ true) × ((e.a == e.b) ≡ false)

pub record Sound (s : Sheet) : Type 0 where
  -- peers stand by their numbers, none twice
  pub peers_rise : Ordered (λ p q. number_of p < number_of q) s.peers
  -- events stand by their ticks
  pub events_rise : Ordered (λ e f. tick_of e ≤ tick_of f) s.events
  pub ends : AllByRecursion (Ends s.peers) s.events
  -- it says how many rounds, and breaks only links that stand
  pub rounds_said : is_some s.rounds ≡ true
  pub breaks_stand : bad_break [] s.events ≡ None

-- Whatever text is read as a script is sound.
abbrev pub ScriptSound : Type 0
ScriptSound = (text : List ℕ) (s : Sheet) → script text ≡ Ok s → Sound s
