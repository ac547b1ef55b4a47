use Rattle.std.proofs.Common.{arith}
use Rattle.merkle.proofs.Inner.{halved, root_alone, inner_long, inner-top}
use Rattle.merkle.proofs.branch.BranchPart.root.Goals as goal

pub bounds-self-len : goal.bounds-self-len
bounds-self-len c =
    let row = c.args.self.row.leaves.now in
    let h = halved row c.in-Some.ensures.0 c.in-Some.ensures.1 c.in-Some.ensures.2 in
    omega (arith, inner_long row c.args.self.above (omega arith))

pub returns-in-None : goal.returns-in-None
returns-in-None c = root_alone c.args.self.row.leaves.now c.in-None.ensures

pub returns-in-Some : goal.returns-in-Some
returns-in-Some c =
    let row = c.args.self.row.leaves.now in
    let h = halved row c.in-Some.ensures.0 c.in-Some.ensures.1 c.in-Some.ensures.2 in
    cc (inner-top row c.in-Some.ensures.0, c.args.self.above, h.0, c.len.ensures)
