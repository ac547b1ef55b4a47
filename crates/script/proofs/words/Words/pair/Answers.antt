-- The parts of a pair are read one after another.
use Rattle.std.proofs.Common.{ℕ, List, ◌∙◌}
use Rattle.script.proofs.Exits.{handed_on}
use Rattle.script.proofs.words.Words.pair.Goals as goal
use Rattle.script.specs.Statements.{Read, number, most}
use Rattle.script.specs.declared.parts.Pair.{Pair}
use Rattle.script.specs.declared.statement.Expected.{Expected}

-- what is read after the word `at`
abbrev tick : (Pair → List (List ℕ) → Read) → ℕ → ℕ → Unit {0} → List (List ℕ) → Read
tick next a b _ ws = number 0 most Expected.Tick ws (λ t ws. next (record { a = a; b = b; at = t }) ws)

pub returns-in_err-keyword : goal.returns-in_err-keyword
returns-in_err-keyword c next =
    handed_on _ _ c.from_residual-in_err-keyword.ensures.1
    (c.in_ok-a.ensures _ ∙ c.in_ok-b.ensures _ ∙ c.in_err-keyword.ensures (tick next c.in_ok-a.a c.in_ok-b.b))

pub returns-in_err-at : goal.returns-in_err-at
returns-in_err-at c next =
    handed_on _ _ c.from_residual-in_err-at.ensures.1
    (c.in_ok-a.ensures _ ∙ c.in_ok-b.ensures _ ∙ c.in_ok-keyword.ensures (tick next c.in_ok-a.a c.in_ok-b.b) ∙ c.in_err-at.ensures _)

pub returns : goal.returns
returns c next =
    c.in_ok-a.ensures _ ∙ c.in_ok-b.ensures _ ∙ c.in_ok-keyword.ensures (tick next c.in_ok-a.a c.in_ok-b.b) ∙ c.in_ok-at.ensures _
