-- What a rotation makes of one change is what the row makes of it.
use Rattle.std.proofs.Common.{◌≡◌, ℕ, Bool, true, false, cond, not, ◌||◌, ltb, List, [], ◌∷◌, Result, Ok, Err, length, sym, refl, ◌∙◌}
use Rattle.rotation.proofs.InRow.{join_there}
use Rattle.std.proofs.Math.Bool.{or-false}
use Rattle.rotation.specs.Rows.{row, room, nobody}
use Rattle.rotation.specs.declared.row.Rotation.{Rotation}
use Rattle.std.specs.Result.{MatchResult, result_unwrap_or, is_ok}
use Rattle.swarm.specs.Faults.{number}
use Rattle.swarm.specs.declared.fault.Fault.{Fault}
use Rattle.std.proofs.lemmas.Bool.{or_right, true≢false}
use Rattle.swarm.proofs.Taken.{after}
use Rattle.swarm.specs.Code.{taken}
use Rattle.swarm.specs.Turns.{Joins, Leaves, is_in, changed, without}

pub join_taken : (q : ℕ) (row : List ℕ) → (is_in q row || ltb (length row) 64) ≡ true → changed (Joins q ∷ []) row ≡ after nobody (Joins q ∷ []) row
unfolding taken changed
join_taken q row h = by_room (ltb (length row) 64) h
  where
    by_room : (room : Bool) → (is_in q row || room) ≡ true → changed (Joins q ∷ []) row ≡ changed (cond (not room) [] (Joins q ∷ [])) row
    by_room true e = refl
    by_room false e = join_there q row (sym (or-false (is_in q row)) ∙ e)

pub join_refused : (q : ℕ) (row : List ℕ) → (is_in q row || ltb (length row) 64) ≡ false → row ≡ after nobody (Joins q ∷ []) row
unfolding taken changed
join_refused q row h = by_room (ltb (length row) 64) h
  where
    by_room : (room : Bool) → (is_in q row || room) ≡ false → row ≡ changed (cond (not room) [] (Joins q ∷ [])) row
    by_room true e = absurd (true≢false (sym (or_right (is_in q row) true refl) ∙ e))
    by_room false e = refl

-- a rotation that joins where it can is the row after the change
pub join_or_same : (q : ℕ) (r : Rotation) (joined : Result Rotation Fault) → is_ok joined ≡ room q (row r) →
    MatchResult joined (λ s. row s ≡ changed (Joins q ∷ []) (row r)) (λ e. (e ≡ Fault.TooMany) × (number e ≡ 8)) → row (result_unwrap_or joined r) ≡ after nobody (Joins q ∷ []) (row r)
join_or_same q r (Ok s) taken is = is ∙ join_taken q (row r) (sym taken)
join_or_same q r (Err e) taken is = join_refused q (row r) (sym taken)

pub leave_taken : (q : ℕ) (row : List ℕ) → without q row ≡ after nobody (Leaves q ∷ []) row
unfolding taken changed
leave_taken q row = refl
