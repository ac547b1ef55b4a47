use Rattle.bytetree.proofs.Halves.{root_of_halves}
use Rattle.merkle.proofs.Inner.{root_alone}
use Rattle.merkle.proofs.row.RowPart.+root.Goals as goal

pub returns-in-None : goal.returns-in-None
returns-in-None t c = root_alone c.args.self.leaves.now c.in-None.ensures

pub returns-in-Some : goal.returns-in-Some
returns-in-Some t c = cc (root_of_halves c.args.self.leaves.now c.in-Some.ensures.0, c.in-Some.ensures.1, c.in-Some.ensures.2)
