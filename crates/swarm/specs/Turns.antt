-- A row of friends: the first has the turn and goes to the end; others come at the end, and leave. Assumes nothing.
use Rattle.std.specs.Prelude.{ℕ, Bool, true, false, cond, not, ◌&&◌, ◌||◌, List, [], ◌∷◌, ◌++◌, length, ◌==◌, nat_lt}

pub data Change : Type 0 where
  Joins : (friend : ℕ) → Change
  Leaves : (friend : ℕ) → Change

unfoldable pub is_in : ℕ → List ℕ → Bool
is_in n [] = false
is_in n (x ∷ xs) = x == n || is_in n xs

unfoldable pub without : ℕ → List ℕ → List ℕ
without n [] = []
without n (x ∷ xs) = cond (x == n) (without n xs) (x ∷ without n xs)

abbrev pub turned : List ℕ → List ℕ
turned [] = []
turned (x ∷ xs) = xs ++ (x ∷ [])

unfoldable pub changed : List Change → List ℕ → List ℕ
changed [] row = row
changed (Joins x ∷ cs) row = changed cs (cond (is_in x row) row (row ++ (x ∷ [])))
changed (Leaves x ∷ cs) row = changed cs (without x row)

-- from one round to the next
abbrev pub next : List Change → List ℕ → List ℕ
next cs row = changed cs (turned row)

unfoldable pub first : List ℕ → List ℕ
first [] = []
first (x ∷ xs) = x ∷ []

-- who has the turn, round by round, with what changes after each
unfoldable pub turns : List ℕ → List (List Change) → List ℕ
turns row [] = []
turns row (cs ∷ css) = first row ++ turns (next cs row) css

abbrev pub larger : ℕ → ℕ → ℕ
larger a e = cond (nat_lt a e) e a

unfoldable pub longest : List ℕ → List (List Change) → ℕ
longest row [] = length row
longest row (cs ∷ css) = larger (length row) (longest (next cs row) css)

unfoldable pub no_leave : ℕ → List Change → Bool
no_leave q [] = true
no_leave q (Joins x ∷ cs) = no_leave q cs
no_leave q (Leaves x ∷ cs) = not (x == q) && no_leave q cs

unfoldable pub stays : ℕ → List (List Change) → Bool
stays q [] = true
stays q (cs ∷ css) = no_leave q cs && stays q css
