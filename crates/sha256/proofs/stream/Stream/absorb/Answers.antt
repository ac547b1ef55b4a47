use Rattle.std.proofs.Common.{arith}
use Rattle.sha256.proofs.Taking.{cut, length-cut, adds_both}
use Rattle.sha256.proofs.stream.Stream.absorb.Goals as goal

pub take_blocks-requires-clause-countable : goal.take_blocks-requires-clause-countable
take_blocks-requires-clause-countable c =
    let two = c.split_at.ensures in
    let others = length-cut _ _ _ c.as_chunks.ensures.front c.as_chunks.ensures.back in
    omega (arith, c.requires, two.front_len, two.back_len, others, c.fill-2.ensures.counted)

pub fill-requires-3-clause-room : goal.fill-requires-3-clause-room
fill-requires-3-clause-room c =
    let two = c.split_at.ensures in
    let others = length-cut _ _ _ c.as_chunks.ensures.front c.as_chunks.ensures.back in
    omega (arith, two.front_len, c.as_chunks.ensures.back_len, others, c.fill-2.ensures.counted, c.take_blocks.ensures.counted)

pub fill-requires-3-clause-countable : goal.fill-requires-3-clause-countable
fill-requires-3-clause-countable c =
    let two = c.split_at.ensures in
    let others = length-cut _ _ _ c.as_chunks.ensures.front c.as_chunks.ensures.back in
    omega (arith, c.requires, two.front_len, two.back_len, others, c.fill-2.ensures.counted, c.take_blocks.ensures.counted)

pub returns : goal.returns
returns c =
    let others = cut _ _ _ c.as_chunks.ensures.front c.as_chunks.ensures.back in
    adds_both c.fill-2.ensures (adds_both c.take_blocks.ensures c.fill-3.ensures others) c.split_at.ensures.by_index.0
