-- Of no bytes there are no digits.
use Rattle.std.proofs.Common.{sym, ap, ◌∙◌, rules}
use Rattle.std.proofs.lemmas.List.{nil_from_length}
use Rattle.wire.specs.Hex.{hex_of}
use Rattle.wire.proofs.hex.hex_digits.Goals as goal

pub returns-then-is_empty : goal.returns-then-is_empty
unfolding hex_of
returns-then-is_empty c = c.new.ensures.bytes ∙ ap hex_of (sym (nil_from_length c.args.bytes.now (search rules)))
