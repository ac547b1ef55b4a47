-- Each seat begins its round, after what was due has happened.
use Rattle.std.proofs.Common.{arith}
use Rattle.arena.proofs.InPlace.{mapped_more}
use Rattle.arena.proofs.Staying.{fair-rounds}
use Rattle.arena.proofs.play.begin_round.Goals as goal
use Rattle.arena.specs.Seats.{seat, begun}

pub loop-node-preserved : goal.loop-node-preserved
loop-node-preserved c =
    mapped_more seat begun c.happen_till-due.new.nodes c.loop-node.nodes c.loop-node.node-index c.begin.new.self c.node-item.result
    c.loop-node-test.true (omega arith) c.loop-node.invariant c.begin.ensures

pub returns-clause-fair : goal.returns-clause-fair
returns-clause-fair c = fair-rounds
