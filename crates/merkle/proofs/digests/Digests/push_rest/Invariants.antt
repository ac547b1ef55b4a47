-- So much of the part is taken in, whole pieces as long as something is left.
use Rattle.std.proofs.Common.{◌≡◌, ◌-◌, ◌%◌, ◌<◌, length}
use Rattle.std.specs.Slice.Iter.{chunks_rest, chunks_size}
use Rattle.merkle.proofs.Growing.{Reached}
use Rattle.merkle.proofs.digests.Digests.push_rest.Given as goal

abbrev pub invariant-loop-piece : goal.invariant-loop-piece
invariant-loop-piece l =
    Reached l.initial.self l.self l.part (chunks_rest l.piece-iterator) × (0 < length (chunks_rest l.piece-iterator) → (length l.part - length (chunks_rest l.piece-iterator)) % 16384 ≡ 0) × (chunks_size l.piece-iterator ≡ 16384)
