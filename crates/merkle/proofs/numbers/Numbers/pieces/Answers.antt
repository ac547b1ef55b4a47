use Rattle.bytetree.proofs.Files.{pieces_add_up}
use Rattle.merkle.proofs.numbers.Numbers.pieces.Goals as goal

pub returns-clause-add_up : goal.returns-clause-add_up
returns-clause-add_up c = pieces_add_up
