-- Whoever is in a row and stays has its turn before as many rounds are over as the row is long.
use Rattle.std.proofs.Common.{◌≡◌, ℕ, zero, suc, ◌<◌, ◌≤◌, true, eqb, List, [], ◌∷◌, length, take, refl, ⊎_elim, arith}
use lib.Seq.{take-length}
use Rattle.std.proofs.lemmas.Bool.Decides.{nat_tests}
use Rattle.std.proofs.lemmas.Bool.{false≢true, and_from, and_parts, or_left, or_right, eq-eqb}
use Rattle.swarm.specs.Turns.{Change, is_in, turned, next, first, turns, longest, no_leave, stays}
use Rattle.swarm.specs.Levels.{row_at, TurnAt}
use Rattle.swarm.specs.Promise.{FairTurn}
use Rattle.swarm.proofs.Rows.{Within, within_changed, first_or_nearer}

-- q is the first at some of the first n rounds
abbrev Turn : ℕ → ℕ → List ℕ → List (List Change) → Type 0
Turn q n row css = (j : ℕ) × (j < n) × (first (row_at j row css) ≡ q ∷ [])

one_later : (q n : ℕ) (row : List ℕ) (cs : List Change) (css : List (List Change)) → Turn q n (next cs row) css → Turn q (suc n) row (cs ∷ css)
unfolding row_at
one_later q n row cs css (j, less, is) = (suc j, omega arith, is)

turn_within : (q n : ℕ) (row : List ℕ) (css : List (List Change)) → Within q n row → stays q (take n css) ≡ true → n ≤ length css → Turn q n row css
unfolding is_in row_at stays
turn_within q zero row css h stay enough = absurd (false≢true h)
turn_within q (suc n) row [] h stay enough = absurd (omega arith)
turn_within q (suc n) row (cs ∷ css) h stay enough =
    let (now, after) = and_parts (no_leave q cs) (stays q (take n css)) stay in
    let later = λ (near : Within q n (turned row)). turn_within q n (next cs row) css (within_changed q n cs (turned row) now near) after (omega arith) in
    ⊎_elim (λ is. (zero, omega arith, is)) (λ near. one_later q n row cs css (later near)) (first_or_nearer q n row h)

pub turn_at : TurnAt
unfolding row_at stays
turn_at q zero row css h stay enough =
    let (j, less, is) = turn_within q (length row) row css (rw take-length h) stay (omega arith) in
    (j, omega arith, omega arith, is)
turn_at q (suc k) row [] h stay enough = absurd (omega arith)
turn_at q (suc k) row (cs ∷ css) h stay enough =
    let (j, from, less, is) = turn_at q k (next cs row) css h stay (omega arith) in
    (suc j, omega arith, omega arith, is)

-- The first of a round is among those who have the turn.
in_turns : (q j : ℕ) (row : List ℕ) (css : List (List Change)) → j < length css → first (row_at j row css) ≡ q ∷ [] → is_in q (turns row css) ≡ true
unfolding turns row_at is_in first
in_turns q j row [] less is = absurd (omega arith)
in_turns q zero row (cs ∷ css) less is = rw is (or_left (eqb q q) _ (eq-eqb q q refl))
in_turns q (suc j) [] (cs ∷ css) less is = in_turns q j (next cs []) css (omega arith) is
in_turns q (suc j) (x ∷ xs) (cs ∷ css) less is = or_right (eqb x q) _ (in_turns q j (next cs (x ∷ xs)) css (omega arith) is)

length-longest : (row : List ℕ) (css : List (List Change)) → length row ≤ longest row css
unfolding longest
length-longest row [] = omega arith
length-longest row (cs ∷ css) = grind (arith, nat_tests)

stays-take : (q n : ℕ) (css : List (List Change)) → stays q css ≡ true → stays q (take n css) ≡ true
unfolding stays
stays-take q zero css h = refl
stays-take q (suc n) [] h = refl
stays-take q (suc n) (cs ∷ css) h = let (now, after) = and_parts (no_leave q cs) (stays q css) h in and_from _ _ now (stays-take q n css after)

pub fair-turn : FairTurn
unfolding row_at
fair-turn d q row css h stay long rounds =
    let enough : length row ≤ length css = omega (arith, length-longest row css) in
    let (j, from, less, is) = turn_at q 0 row css h (stays-take q (length row) css stay) (omega arith) in
    in_turns q j row css (omega arith) is
