-- The name says which statement it is, and its parts are read one after another.
use Rattle.std.proofs.Common.{ℕ, List, ◌∷◌, ap, ◌∙◌}
use Rattle.script.proofs.Exits.{handed_on}
use Rattle.script.proofs.statement.named.Goals as goal
use Rattle.script.specs.Statements.{Read, ended, delay, statement}
use Rattle.script.specs.Words.{left}
use Rattle.script.specs.declared.parts.Pair.{Pair}
use Rattle.script.specs.declared.statement.Statement.{Statement}

-- what is read after a pair
abbrev delayed : Pair → ℕ → List (List ℕ) → Read
delayed p d ws = ended (Statement.Link p.a p.b p.at d) ws

abbrev linked : Pair → List (List ℕ) → Read
linked p ws = delay ws (delayed p)

abbrev broken : Pair → List (List ℕ) → Read
broken p ws = ended (Statement.Break p.a p.b p.at) ws

pub returns-in_err-a-in-link : goal.returns-in_err-a-in-link
returns-in_err-a-in-link c =
    handed_on _ _ c.from_residual-in_err-a-in-link.ensures.1
    (ap (λ w. statement (w ∷ left c.args.words.now)) c.in-link.is ∙ c.in_err-a-in-link.ensures linked)

pub returns-in_err-delay-in-link : goal.returns-in_err-delay-in-link
returns-in_err-delay-in-link c =
    handed_on _ _ c.from_residual-in_err-delay-in-link.ensures.1
    (ap (λ w. statement (w ∷ left c.args.words.now)) c.in-link.is ∙ c.in_ok-a-in-link.ensures linked ∙ c.in_err-delay-in-link.ensures (delayed c.in_ok-a-in-link.field-0))

pub returns-in_ok-delay-in-link : goal.returns-in_ok-delay-in-link
returns-in_ok-delay-in-link c =
    ap (λ w. statement (w ∷ left c.args.words.now)) c.in-link.is ∙ c.in_ok-a-in-link.ensures linked ∙ c.in_ok-delay-in-link.ensures (delayed c.in_ok-a-in-link.field-0)

pub returns-in_err-a-in-break : goal.returns-in_err-a-in-break
returns-in_err-a-in-break c =
    handed_on _ _ c.from_residual-in_err-a-in-break.ensures.1
    (ap (λ w. statement (w ∷ left c.args.words.now)) c.in-break.is ∙ c.in_err-a-in-break.ensures broken)

pub returns-in_ok-a-in-break : goal.returns-in_ok-a-in-break
returns-in_ok-a-in-break c = ap (λ w. statement (w ∷ left c.args.words.now)) c.in-break.is ∙ c.in_ok-a-in-break.ensures broken
