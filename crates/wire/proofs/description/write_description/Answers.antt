-- The fields of a description stand one after the other, and nothing behind them is changed.
use Rattle.std.proofs.Common.{◌≡◌, ℕ, true, List, [], ◌∷◌, ◌++◌, length, drop, refl, sym, ap, ◌∙◌, arith, rules}
use Rattle.std.proofs.lemmas.Bool.{cond-true}
use Rattle.std.proofs.lemmas.List.{append_assoc, length-append}
use Rattle.wire.proofs.Writing.{next, nothing}
use Rattle.wire.proofs.description.write_description.Goals as goal
use Rattle.wire.specs.Bytes.{bytes_of}
use Rattle.wire.specs.Formats.{Described, description_bytes, description_size, said, fits}

-- the fields, one behind the other, are the description's bytes
one_after_other : (d : Described) (ls : List ℕ) (n : ℕ) → ls ≡ bytes_of 8 d.len → n ≡ length d.name → (((([] ++ (1 ∷ [])) ++ ls) ++ d.root) ++ (n ∷ [])) ++ d.name ≡ description_bytes d
one_after_other d ls n l e = simp append_assoc (rw (l, e) refl)

sized : (d : Described) → length d.root ≡ 32 → length (description_bytes d) ≡ description_size d
sized d h = simp length-append (omega arith)

pub returns-clause-bytes : goal.returns-clause-bytes
returns-clause-bytes c =
    let d = said c.args.d.now in
    let out = c.args.out.now in
    let room : fits d out ≡ true = search rules in
    let number : c.to_be_bytes.result ≡ bytes_of 8 d.len = search rules in
    let size : c.in_ok-size.size ≡ length d.name = search rules in
    let kind = next (1 ∷ []) (nothing out) c.write_field-place.ensures.bytes c.write_field-place.ensures.place in
    let len = next c.to_be_bytes.result kind c.write_field-place-2.ensures.bytes c.write_field-place-2.ensures.place in
    let root = next d.root len c.write_field-place-3.ensures.bytes c.write_field-place-3.ensures.place in
    let count = next (c.in_ok-size.size ∷ []) root c.write_field-place-4.ensures.bytes c.write_field-place-4.ensures.place in
    let name = next d.name count c.write_field.ensures.bytes c.write_field.ensures.place in
    name.bytes ∙ ap (λ xs. xs ++ drop (length xs) out) (one_after_other d _ _ number size) ∙ ap (λ n. description_bytes d ++ drop n out) (sized d (search rules)) ∙ sym (cond-true _ _ _ room)
