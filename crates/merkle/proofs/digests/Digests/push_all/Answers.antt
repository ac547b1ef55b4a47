use Rattle.std.proofs.Common.{◌≡◌, ◌+◌, length, ap, ◌∙◌, arith}
use Rattle.std.proofs.lemmas.List.{length-append}
use Rattle.std.specs.Slice.Iter.{chunks_exact_rest}
use Rattle.merkle.proofs.Growing.{reached_more, reached_long}
use Rattle.merkle.proofs.digests.Digests.push_all.Goals as goal

pub loop-group-preserved : goal.loop-group-preserved
loop-group-preserved c =
    let (reached, even, size) = c.loop-group.invariant in
    let step = c.in-Some.ensures.steps in
    let less : length (chunks_exact_rest c.loop-group.group-iterator) ≡ length c.in-Some.group.now + length (chunks_exact_rest c.next.new.self) = ap length step.1.0 ∙ length-append c.in-Some.group.now (chunks_exact_rest c.next.new.self) in
    (reached_more c.in-Some.group.now (chunks_exact_rest c.next.new.self) reached step.1.0 c.push_four.ensures, omega (arith, even, step.1.1, less, reached_long reached), cc)
