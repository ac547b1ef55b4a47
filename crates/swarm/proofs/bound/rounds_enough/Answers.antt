-- The product is what the promise asks for.
use Rattle.std.proofs.Common.{◌≡◌, ◌*◌}
use Rattle.swarm.proofs.Enough.{enough}
use Rattle.swarm.proofs.Main.{main}
use Rattle.swarm.proofs.bound.rounds_enough.Goals as goal

pub returns : goal.returns
returns c =
    let e : c.from.result * (c.from-2.result * c.from-3.result) ≡ c.args.window * (c.args.peers * c.args.pieces) = cc in
    record { value = e; enough = enough c.args.window c.args.peers c.args.pieces _ e; promise = main }
