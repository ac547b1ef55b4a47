-- The library's digits of a byte are those of the numbers below sixteen.
use Rattle.std.proofs.Common.{◌≡◌, ℕ, ◌/◌, ◌%◌, ◌<◌, false, arith, rules}
use Rattle.std.proofs.lemmas.Bool.Decides.{nat_tests}
use Rattle.std.proofs.lemmas.Fmt.{hex_byte}
use Rattle.std.specs.Fmt.{digit_glyph}
use Rattle.wire.specs.Hex.{hex_digit}
use Rattle.wire.proofs.hex.write_byte.Goals as goal

glyph : (n : ℕ) → n < 16 → digit_glyph false n ≡ hex_digit n
glyph n h = grind (arith, nat_tests)

pub returns : goal.returns
returns g c =
    let two = hex_byte false c.args.byte (omega arith) in
    let high = glyph (c.args.byte / 16) (omega arith) in
    let low = glyph (c.args.byte % 16) (omega arith) in
    search rules
