-- A seat of that number changes, and any other stays.
use Rattle.std.proofs.Common.{get_or, arith}
use Rattle.arena.proofs.InPlace.{mapped_more}
use Rattle.arena.proofs.play.change_at.Goals as goal
use Rattle.arena.proofs.play.change_at.Goals.{then-node-id, else-node-id}
use Rattle.arena.specs.Seats.{seat, change_at}
use Rattle.rotation.specs.Rows.{meant_all}
use Rattle.std.proofs.lemmas.Bool.Decides.{nat_tests}

pub loop-node-preserved : goal.loop-node-preserved
loop-node-preserved c =
    let f = change_at c.args.id (meant_all c.args.changes.now) in
    let ns = c.loop-node.nodes in
    let i = c.loop-node.node-index in
    elim c.if-node-id.branch [
      | then-node-id w ↦ rw w.nodes-is (mapped_more seat f c.args.nodes.now ns i w.change.new.self c.node-item.result c.loop-node-test.true (omega arith) c.loop-node.invariant (let h = w.change.ensures in grind (arith, nat_tests)))
      | else-node-id w ↦ rw w.nodes-is (mapped_more seat f c.args.nodes.now ns i (get_or ns i c.node-item.result) c.node-item.result c.loop-node-test.true (omega arith) c.loop-node.invariant (grind (arith, nat_tests)))
    ]
