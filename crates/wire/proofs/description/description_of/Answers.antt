-- The length is the number that its bytes are, so it is refused just where no file has it.
use Rattle.std.proofs.Common.{◌≡◌, ◌∙◌, rules}
use Rattle.wire.proofs.Sums.{from_eight}
use Rattle.wire.proofs.description.description_of.Goals as goal
use Rattle.wire.specs.Bytes.{number_of}

pub returns-in_err-map_err-clause-made : goal.returns-in_err-map_err-clause-made
returns-in_err-map_err-clause-made c =
    let n : c.from_be_bytes-length.result ≡ number_of c.args.length.now = c.from_be_bytes-length.ensures ∙ from_eight c.args.length.now (search rules) in
    search rules
