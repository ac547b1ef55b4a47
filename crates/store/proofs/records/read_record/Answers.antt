-- A record is read field by field, and has one form in bytes.
use Rattle.std.proofs.Common.{rules}
use Rattle.store.proofs.Form.{fields_in, record_read, record_written}
use Rattle.store.proofs.records.read_record.Goals as goal
use Rattle.wire.specs.Laws.{ReadsWritten, WritesRead}
use Rattle.store.specs.Laws.{IsRecord}
use Rattle.store.specs.Records.{read_record, record_bytes}

-- the laws stand beside whatever is read
with_laws : {P : Type 0} → P → record { read : P; round_trip : ReadsWritten IsRecord record_bytes read_record; one_form : WritesRead IsRecord record_bytes read_record }
with_laws p = record { read = p; round_trip = record_read; one_form = record_written }

pub returns-then-block-ne-SIZE : goal.returns-then-block-ne-SIZE
returns-then-block-ne-SIZE c = with_laws (search rules)

pub returns : goal.returns
returns c =
    let fields =
    fields_in c.args.block.now c.in_ok-piece.piece.now c.next.new.fields.0.now c.in_ok-digest.digest.now c.next-2.new.fields.0.now c.in_ok-count.field-0.now c.next-3.new.fields.0.now
    (search rules) (search rules) (search rules) (search rules) in
    with_laws (rw fields c.record_of.ensures)
