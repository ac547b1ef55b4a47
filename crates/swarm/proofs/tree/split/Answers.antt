-- The power of two that stands in the middle is the one that the definition comes to.
use Rattle.std.proofs.Common.{arith}
use Rattle.swarm.proofs.Doubled.{doubled-power}
use Rattle.swarm.proofs.Paths.{way_exact, way_unique}
use Rattle.swarm.proofs.tree.split.Goals as goal

pub next_power_of_two-requires : goal.next_power_of_two-requires
next_power_of_two-requires c = omega (arith, c.ranges.pieces)

pub returns : goal.returns
returns c =
    let p = c.next_power_of_two.ensures in
    record {
      value = doubled-power c.args.pieces c.div_ceil.result _ (omega (arith, c.ranges.pieces)) (p.power, p.lower_bound, p.upper_bound);
      exact = way_exact;
      unique = way_unique;
    }
