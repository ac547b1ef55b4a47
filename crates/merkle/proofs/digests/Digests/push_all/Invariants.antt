-- So much of the part is taken in, all of it whole groups.
use Rattle.std.proofs.Common.{◌≡◌, ◌-◌, ◌%◌, length}
use Rattle.std.specs.Slice.Iter.{chunks_exact_rest, chunks_exact_size}
use Rattle.merkle.proofs.Growing.{Reached}
use Rattle.merkle.proofs.digests.Digests.push_all.Given as goal

abbrev pub invariant-loop-group : goal.invariant-loop-group
invariant-loop-group l =
    Reached l.initial.self l.self l.part (chunks_exact_rest l.group-iterator) × ((length l.part - length (chunks_exact_rest l.group-iterator)) % 65536 ≡ 0) × (chunks_exact_size l.group-iterator ≡ 65536)
