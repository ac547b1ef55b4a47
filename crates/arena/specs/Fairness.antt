-- What the rounds of a script promise: whoever stays linked to a peer has its turn there. Assumes nothing.
use Rattle.std.specs.Prelude.{◌≡◌, ℕ, ◌<◌, ◌≤◌, Bool, true, cond, not, ◌&&◌, ◌||◌, List, [], ◌∷◌, ◌++◌, length, ◌==◌, nat_le, slice_index_or}
use Rattle.arena.specs.Seats.{Seat, beginning, round_at}
use Rattle.script.specs.declared.sheet.Event.{Event}
use Rattle.swarm.specs.Turns.{is_in}

-- a round that is played: its number, and the events that were still to come
pub record Played : Type 0 where
  pub round : ℕ
  pub events : List Event

abbrev pub after : Played → List Seat → List Seat
after p ss = round_at p.round p.events ss

-- what stands past the last seat
abbrev pub no_seat : Seat
no_seat = record { id = 0; row = []; holder = [] }

-- who has the turn at place i, round after round
unfoldable pub holders : ℕ → List Played → List Seat → List ℕ
holders i [] ss = []
holders i (p ∷ ps) ss = (slice_index_or (after p ss) i no_seat).holder ++ holders i ps (after p ss)

-- no event that is due up to a tick is of the link between two peers
unfoldable pub apart : (p q t : ℕ) → List Event → Bool
apart p q t [] = true
apart p q t (e ∷ es) = cond (nat_le e.at t) (not ((e.a == p && e.b == q) || (e.a == q && e.b == p)) && apart p q t es) true

unfoldable pub all_apart : (p q : ℕ) → List Played → Bool
all_apart p q [] = true
all_apart p q (r ∷ rs) = apart p q (beginning r.round) r.events && all_apart p q rs

-- Whoever is in the row of a peer, and whose link with it no event touches, has had the turn there once as many rounds are played as the row was long, whatever happens to all others.
abbrev pub FairRounds : Type 0
FairRounds =
    (ss : List Seat) (i q : ℕ) (rs : List Played) → i < length ss → is_in q (slice_index_or ss i no_seat).row ≡ true → all_apart (slice_index_or ss i no_seat).id q rs ≡ true →
    length (slice_index_or ss i no_seat).row ≤ length rs → is_in q (holders i rs ss) ≡ true
