-- A buffer whose filled front grows by what is read after it.
use Rattle.std.proofs.Common.{◌≡◌, ℕ, ◌+◌, ◌≤◌, List, ◌++◌, length, take, ap, ◌∙◌, sym, length-take-le}
use Rattle.std.proofs.Math.Seq.{take-append-add}
use Rattle.std.proofs.lemmas.List.{take-append-le}
use borrow.Rule.Slice.PartMut.{put_mid}

-- n bytes of what is read into the rest stand after the f that were there
pub take-filled : (f n room : ℕ) (buffer part : List ℕ) → f ≤ length buffer → n ≤ length part
    → take f buffer ++ take n part ≡ take (f + n) (put_mid f room buffer part)
take-filled f n room buffer part within fits =
    let front : length (take f buffer) ≡ f = length-take-le f buffer within in
    let filled = put_mid f room buffer part in
    sym (ap (λ k. take (k + n) filled) (sym front) ∙ take-append-add (take f buffer) _ n ∙ ap (λ l. take f buffer ++ l) (take-append-le n part _ fits))
