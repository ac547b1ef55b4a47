-- Settings have one form in bytes.
use Rattle.std.proofs.Common.{◌≡◌, ℕ, List, ◌++◌, length, take, drop, Ok, sym, ap, ◌∙◌, arith}
use Rattle.std.proofs.lemmas.List.{nil_from_length}
use Rattle.std.specs.Int.Digits.{AllBelowBase}
use Rattle.wire.proofs.Reading.{field_read}
use Rattle.wire.proofs.NumberBytes.{bytes-number, number-bytes}
use Rattle.wire.specs.Bytes.{number_of, bytes_of}
use Rattle.wire.specs.Formats.{field, read_settings, settings_bytes, settings_of}
use Rattle.wire.specs.Laws.{IsSettings, ReadsWritten, WritesRead}
use Rattle.wire.specs.declared.settings.Settings.{Settings}

-- settings that are written are read back
pub settings_read : ReadsWritten IsSettings settings_bytes read_settings
settings_read s h = rw (number-bytes 8 s.first_tick h.0, number-bytes 8 s.own_number h.1)

-- the fields of which settings are made
fields_form : (r f o rest : List ℕ) (s : Settings) → settings_of r f o rest ≡ Ok s → (number_of r ≡ 64) × (number_of f ≡ s.first_tick) × (number_of o ≡ s.own_number) × (length rest ≡ 0)
fields_form r f o rest s e = (grind arith, grind arith, grind arith, grind arith)

-- such fields are those of the settings' bytes
fields_written : (r f o rest : List ℕ) (s : Settings) → length r ≡ 2 → length f ≡ 8 → length o ≡ 8 → AllBelowBase 256 r → AllBelowBase 256 f → AllBelowBase 256 o → settings_of r f o rest ≡ Ok s →
    IsSettings s × (settings_bytes s ≡ r ++ (f ++ (o ++ rest)))
fields_written r f o rest s lr lf lo ur uf uo e =
    let made = fields_form r f o rest s e in
    let br = bytes-number 2 r lr ur in
    let bf = bytes-number 8 f lf uf in
    let bo = bytes-number 8 o lo uo in
    let er : bytes_of 2 64 ≡ r = ap (bytes_of 2) (sym made.0) ∙ br.0 in
    let ef : bytes_of 8 s.first_tick ≡ f = ap (bytes_of 8) (sym made.1) ∙ bf.0 in
    let eo : bytes_of 8 s.own_number ≡ o = ap (bytes_of 8) (sym made.2) ∙ bo.0 in
    ((omega arith, omega arith), rw (← er, ← ef, ← eo, nil_from_length rest made.3))

-- what is read as settings is how they are written
pub settings_written : WritesRead IsSettings settings_bytes read_settings
settings_written bs s u e =
    let round = field_read 2 bs (λ round rest. field 8 rest (λ first rest. field 8 rest (λ own rest. settings_of round first own rest))) s u e in
    let after = drop 2 bs in
    let first = field_read 8 after (λ first rest. field 8 rest (λ own rest. settings_of (take 2 bs) first own rest)) s round.0.back round.1 in
    let last = drop 8 after in
    let own = field_read 8 last (λ own rest. settings_of (take 2 bs) (take 8 after) own rest) s first.0.back first.1 in
    let w =
    fields_written (take 2 bs) (take 8 after) (take 8 last) (drop 8 last) s round.0.sized first.0.sized own.0.sized round.0.front first.0.front own.0.front
    own.1 in
    (w.0, w.1 ∙ rw (own.0.whole, first.0.whole, round.0.whole))
