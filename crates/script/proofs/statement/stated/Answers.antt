-- A name that is no text is no statement's.
use Rattle.std.proofs.Common.{◌≡◌, ◌∷◌, Ok, Err, Result, MatchResult, ap, ◌∙◌, rules}
use Rattle.script.proofs.Exits.{handed}
use Rattle.script.proofs.SameWord.{no_text_says}
use Rattle.script.proofs.statement.stated.Goals as goal
use Rattle.script.specs.Statements.{statement}
use Rattle.script.specs.Words.{left}
use Rattle.script.specs.declared.statement.Expected.{Expected}
use Rattle.std.specs.Result.{result_or}

-- where `or` gives the other fault, the first was one
faulted : {X E N : Type 0} (P : X → Type 0) (Q : E → Type 0) (r : Result X E) (other e : Expected) → MatchResult r P (λ x. N × Q x) → result_or r (Err other) ≡ Err e → N × (other ≡ e)
faulted P Q (Ok x) other e h k = absurd (cc)
faulted P Q (Err x) other e h k = (h.0, cc)

pub returns-in_err-name-2 : goal.returns-in_err-name-2
returns-in_err-name-2 c =
    let here : left c.args.words ≡ c.in_ok-name.name.now ∷ left c.next.new.self = search rules in
    let p = faulted _ _ c.from_utf8.result Expected.Statement c.in_err-name-2.field-0.0 c.from_utf8.ensures.cases (search rules) in
    handed _ c.from_residual-in_err-name-2.ensures.1 (ap statement here ∙ no_text_says c.in_ok-name.name.now (left c.next.new.self) p.0 ∙ ap (λ e. Err e) p.1)
