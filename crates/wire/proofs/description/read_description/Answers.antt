-- A description is read field by field, and has one form in bytes.
use Rattle.std.proofs.Common.{arith, rules}
use Rattle.std.proofs.lemmas.Grind.{common_steps}
use Rattle.wire.proofs.DescriptionForm.{description_read, description_written}
use Rattle.wire.proofs.description.read_description.Goals as goal
use Rattle.wire.specs.Formats.{description_bytes, read_description}
use Rattle.wire.specs.Laws.{IsDescription, ReadsWritten, WritesRead}

-- the laws stand beside whatever is read
with_laws : {P Q : Type 0} → P → Q → record { read : P; possible : Q; round_trip : ReadsWritten IsDescription description_bytes read_description; one_form : WritesRead IsDescription description_bytes read_description }
with_laws p q = record { read = p; possible = q; round_trip = description_read; one_form = description_written }

pub returns-in_err-kind : goal.returns-in_err-kind
returns-in_err-kind c = with_laws (search rules) (search rules)

pub returns-then-kind-ne-KIND : goal.returns-then-kind-ne-KIND
returns-then-kind-ne-KIND c = with_laws (search rules) (search rules)

pub returns-in_err-length : goal.returns-in_err-length
returns-in_err-length c = with_laws (search rules) (search rules)

pub returns-in_err-root : goal.returns-in_err-root
returns-in_err-root c = with_laws (grind (arith, common_steps)) (search rules)

pub returns-in_err-size : goal.returns-in_err-size
returns-in_err-size c = with_laws (grind (arith, common_steps)) (search rules)

pub returns-clause-round_trip : goal.returns-clause-round_trip
returns-clause-round_trip c = description_read

pub returns-clause-one_form : goal.returns-clause-one_form
returns-clause-one_form c = description_written
