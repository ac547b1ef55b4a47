-- The product is what the theorem on finite runs asks for.
use Rattle.std.proofs.Common.{◌≡◌, ◌-◌, ◌*◌}
use Rattle.swarm.proofs.AllDone.{all_done_within}
use Rattle.swarm.proofs.Enough.{enough_within}
use Rattle.swarm.proofs.bound.least_rounds_enough.Goals as goal

pub returns : goal.returns
returns c =
    let e : c.from-3.result * c.saturating_sub.result ≡ c.args.window * (c.args.peers * c.args.pieces - c.args.pieces) = cc in
    record { value = e; enough = enough_within c.args.window c.args.peers c.args.pieces _ e; promise = all_done_within }
