use Rattle.std.proofs.Common.{[], ◌∷◌, ◌++◌, List, ℕ, ap, ◌∙◌, arith}
use Rattle.sha256.proofs.Taking.{cut, length-cut}
use Rattle.sha256.proofs.sides.Side.begun.Goals as goal

pub invariant_of-result : goal.invariant_of-result
invariant_of-result c =
    let two = c.split_at.ensures in
    let chunks = c.as_chunks.ensures in
    let others = length-cut _ _ _ chunks.front chunks.back in
    record {
      even = λ some. omega (arith, some, two.front_len, two.back_len, chunks.front_len, c.absorb.ensures.counted, c.absorb-2.ensures.counted, c.new.ensures.counted);
      short = omega (arith, two.front_len, two.back_len, others, c.absorb.ensures.counted, c.absorb-2.ensures.counted, c.new.ensures.counted);
    }

pub returns-clause-all : goal.returns-clause-all
returns-clause-all c =
    let one = c.absorb.ensures.taken [] c.new.ensures in
    record {
      front = c.args.first ∷ c.split_at.result.0.now;
      taken = c.absorb-2.ensures.taken _ one;
      all = ap (◌∷◌ c.args.first) (c.split_at.ensures.by_index.0 ∙ ap (λ (xs : List ℕ). c.split_at.result.0.now ++ xs) (cut _ _ _ c.as_chunks.ensures.front c.as_chunks.ensures.back));
    }
