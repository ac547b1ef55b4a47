use Rattle.std.proofs.Common.{◌≡◌, ◌+◌, length, ap, ◌∙◌, arith}
use Rattle.std.proofs.lemmas.List.{length-append}
use Rattle.std.specs.Slice.Iter.{chunks_rest}
use Rattle.merkle.proofs.Growing.{reached_more, reached_long}
use Rattle.merkle.proofs.digests.Digests.push_rest.Goals as goal

pub loop-piece-preserved : goal.loop-piece-preserved
loop-piece-preserved c =
    let (reached, even, size) = c.loop-piece.invariant in
    let step = c.in-Some.ensures.steps in
    let less : length (chunks_rest c.loop-piece.piece-iterator) ≡ length c.in-Some.piece.now + length (chunks_rest c.next.new.self) = ap length step.1.0 ∙ length-append c.in-Some.piece.now (chunks_rest c.next.new.self) in
    (reached_more c.in-Some.piece.now (chunks_rest c.next.new.self) reached step.1.0 c.push.ensures, λ some. omega (arith, even step.1.2, step.1.1, less, reached_long reached), cc)
