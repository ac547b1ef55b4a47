-- What a `?` hands on, or the last part gives, is what the whole is read as.
use Rattle.std.proofs.Common.{◌≡◌, IsErrAnd, Ok, Err, Result, sym, ap, ◌∙◌, MatchResult}
use Rattle.script.specs.Statements.{Read}
use Rattle.script.specs.declared.statement.Expected.{Expected}

pub handed_on : {X : Type 0} (r : Result X Expected) (P : X → Type 0) {e : Expected} {read : Read} → IsErrAnd r (λ d. d ≡ e) → read ≡ Err e → MatchResult r P (λ d. read ≡ Err d)
handed_on (Ok x) P h f = absurd h
handed_on (Err d) P h f = f ∙ ap (λ d. Err d) (sym h)

pub handed : (r : Read) {e : Expected} {read : Read} → IsErrAnd r (λ d. d ≡ e) → read ≡ Err e → r ≡ read
handed (Ok x) h f = absurd h
handed (Err d) h f = ap (λ d. Err d) h ∙ sym f

-- what is read as its last part is, whatever that is
pub last_part : {X : Type 0} (r : Result X Expected) (P : X → Read) {read last : Read} → read ≡ last → MatchResult r (λ x. last ≡ P x) (λ d. last ≡ Err d) → MatchResult r (λ x. read ≡ P x) (λ d. read ≡ Err d)
last_part (Ok x) P e h = e ∙ h
last_part (Err d) P e h = e ∙ h
