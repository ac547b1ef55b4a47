-- The events stand by their ticks.
use Rattle.std.proofs.Common.{leb, rules, tests}
use Rattle.script.proofs.Searching.{parted_place, not_falling}
use Rattle.script.proofs.places.place_of.Goals as goal
use Rattle.script.specs.Sheets.{tick_of}
use Rattle.std.proofs.lemmas.List.Sorted.{IsPartitionedBy-leb, IsPartitionPoint-from_clause}

pub returns-clause-value : goal.returns-clause-value
returns-clause-value c =
    let es = c.args.events.now in
    parted_place es c.args.tick c.partition_point.result c.partition_point.ensures.bound
    (IsPartitionPoint-from_clause (λ e. leb (tick_of e) c.args.tick) es _ c.partition_point.ensures.partitioned
    (IsPartitionedBy-leb tick_of es c.args.tick (not_falling es c.requires)) (λ a r f k. search (rules, tests)))
