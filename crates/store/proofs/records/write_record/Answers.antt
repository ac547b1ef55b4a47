-- The fields of a record and the zeros stand one after the other.
use Rattle.std.proofs.Common.{◌≡◌, true, [], ◌∷◌, length, sym, ◌∙◌, arith, rules}
use Rattle.std.proofs.lemmas.Bool.{cond-true}
use Rattle.std.proofs.lemmas.List.{length-append}
use Rattle.wire.proofs.Writing.{next, nothing}
use Rattle.store.proofs.Writing.{one_after_other, zeros}
use Rattle.store.proofs.records.write_record.Goals as goal
use Rattle.store.specs.Records.{said, fits, digests}
use Rattle.wire.specs.Bytes.{bytes_of}

pub returns-clause-bytes : goal.returns-clause-bytes
returns-clause-bytes c =
    let r = said c.args.r.now in
    let out = c.args.block.now in
    let room : fits r out ≡ true = search rules in
    let number : c.to_be_bytes.result ≡ bytes_of 4 r.piece = search rules in
    let piece = next c.to_be_bytes.result (nothing out) c.write_field-place.ensures.bytes c.write_field-place.ensures.place in
    let digest = next r.digest piece c.write_field-place-2.ensures.bytes c.write_field-place-2.ensures.place in
    let count = next (length c.as_chunks.result.0.now ∷ []) digest c.write_field-place-3.ensures.bytes c.write_field-place-3.ensures.place in
    let path = next r.path count c.write_field-place-4.ensures.bytes c.write_field-place-4.ensures.place in
    let chunks : length c.as_chunks.result.0.now ≡ digests r.path = search rules in
    zeros out _ _ c.fill.new.self _ path (simp length-append (omega arith)) (c.fill.ensures.after (λ y e. e)) ∙ one_after_other r _ _ number chunks (search rules) out c.if-block-ne-SIZE.false ∙ sym (cond-true _ _ _ room)
