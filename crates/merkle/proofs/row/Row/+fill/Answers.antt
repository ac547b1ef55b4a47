use Rattle.std.proofs.Common.{◌≡◌, sym, ◌∙◌, arith, length-append, length-drop, length-take}
use Rattle.std.proofs.lemmas.List.{nil_from_length}
use Rattle.bytetree.specs.ByteTree.{root}
use Rattle.bytetree.proofs.Halves.{root_of_halves}
use Rattle.merkle.proofs.Inner.{halved, root_alone, inner_alone, inner-written}
use Rattle.merkle.proofs.row.Row.+fill.Goals as goal

pub returns-in_default-clause-top : goal.returns-in_default-clause-top
returns-in_default-clause-top t c = root_alone c.args.self.leaves.now c.in_default.ensures

pub returns-in_default-clause-filled : goal.returns-in_default-clause-filled
returns-in_default-clause-filled t c = nil_from_length c.args.nodes.now (omega (arith, c.in_default.ensures)) ∙ sym (inner_alone c.args.self.leaves.now c.in_default.ensures)

pub returns-clause-top : goal.returns-clause-top
returns-clause-top t c = cc (root_of_halves c.args.self.leaves.now c.in-Some.ensures.0, c.in-Some.ensures.1, c.in-Some.ensures.2)

pub returns-clause-filled : goal.returns-clause-filled
returns-clause-filled t c =
    let ds = c.args.self.leaves.now in
    let (two, left, right) = c.in-Some.ensures in
    let h = halved ds two left right in
    let l = simp length-take at c.fill-top_left.auto.nodes in
    let top : c.node_over-top.result ≡ root ds = cc (root_of_halves ds two, left, right) in
    inner-written ds c.args.nodes.now c.fill-top_left.new.nodes c.fill-top_right.new.nodes c.len-at.result _ _ _
    two
    (c.len-at.ensures ∙ h.0)
    (omega arith)
    (omega arith)
    (simp (length-append, length-drop) (omega arith))
    (cc)
    (cc)
    top
