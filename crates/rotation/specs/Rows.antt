-- The row that a rotation stands for, and what its changes mean. Assumes nothing.
use Rattle.std.specs.Prelude.{◌≡◌, ℕ, ◌≤◌, Bool, true, false, ◌||◌, List, ◌∷◌, ◌++◌, map, length, take, nat_lt}
use Rattle.rotation.specs.declared.row.Rotation.{Rotation}
use Rattle.rotation.specs.declared.change.Change.{Change}
use Rattle.rotation.specs.declared.change.Change.TheVariants.{Join, Leave}
use Rattle.swarm.specs.Turns as Turns
use Rattle.swarm.specs.Turns.{is_in, longest, stays, turns}

-- the ids that are there, the next to have the turn first
abbrev pub row : Rotation → List ℕ
row r = take r.count r.ids

abbrev pub meant : Change → Turns.Change
meant (Join x) = Turns.Joins x
meant (Leave x) = Turns.Leaves x

abbrev pub meant_all : List Change → List Turns.Change
meant_all cs = map meant cs

-- can one join: it is there, or there are fewer than 64
abbrev pub room : ℕ → List ℕ → Bool
room q row = is_in q row || nat_lt (length row) 64

-- a rotation knows nobody who is shut out
abbrev pub nobody : ℕ → Bool
nobody q = false

-- whoever is in the row as the turn is given and stays is the one who has it, or has it in a later round, once as many rounds are over as the row is ever long:
-- holder has the turn, cs changes in that round and leaves after, and css are the changes of whatever rounds follow
abbrev pub Fair : (row holder : List ℕ) → List Turns.Change → (after : List ℕ) → Type 0
Fair row holder cs after =
    (q : ℕ) (css : List (List Turns.Change)) → is_in q row ≡ true → stays q (cs ∷ css) ≡ true → longest row (cs ∷ css) ≤ length (cs ∷ css) → is_in q (holder ++ turns after css) ≡ true
