-- Settings are read field by field, and have one form in bytes.
use Rattle.std.proofs.Common.{◌≡◌, ◌∙◌, rules}
use Rattle.wire.proofs.SettingsForm.{settings_read, settings_written}
use Rattle.wire.proofs.Sums.{from_two, from_eight}
use Rattle.wire.proofs.settings.read_settings.Goals as goal
use Rattle.wire.specs.Bytes.{number_of}
use Rattle.wire.specs.Formats.{settings_bytes, read_settings}
use Rattle.wire.specs.Laws.{IsSettings, ReadsWritten, WritesRead}

-- the laws stand beside whatever is read
with_laws : {P : Type 0} → P → record { read : P; round_trip : ReadsWritten IsSettings settings_bytes read_settings; one_form : WritesRead IsSettings settings_bytes read_settings }
with_laws p = record { read = p; round_trip = settings_read; one_form = settings_written }

pub returns-in_err-round : goal.returns-in_err-round
returns-in_err-round c = with_laws (search rules)

pub returns-in_err-first_tick : goal.returns-in_err-first_tick
returns-in_err-first_tick c = with_laws (search rules)

pub returns-in_err-own_number : goal.returns-in_err-own_number
returns-in_err-own_number c = with_laws (search rules)

pub returns-then-from_be_bytes-ne-ROUND : goal.returns-then-from_be_bytes-ne-ROUND
returns-then-from_be_bytes-ne-ROUND c = with_laws (search (rules, from_two, from_eight))

pub returns-then-not-is_empty : goal.returns-then-not-is_empty
returns-then-not-is_empty c = with_laws (search (rules, from_two, from_eight))

pub returns : goal.returns
returns c =
    let round : c.from_be_bytes.result ≡ number_of c.in_ok-round.round.now = c.from_be_bytes.ensures ∙ from_two c.in_ok-round.round.now (search rules) in
    let first : c.from_be_bytes-2.result ≡ number_of c.in_ok-first_tick.first_tick.now = c.from_be_bytes-2.ensures ∙ from_eight c.in_ok-first_tick.first_tick.now (search rules) in
    let own : c.from_be_bytes-3.result ≡ number_of c.in_ok-own_number.own_number.now = c.from_be_bytes-3.ensures ∙ from_eight c.in_ok-own_number.own_number.now (search rules) in
    with_laws (search rules)
