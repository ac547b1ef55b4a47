use Rattle.std.proofs.Common.{arith}
use Rattle.merkle.proofs.Inner.{halved}
use Rattle.merkle.proofs.Walks.{walk_begins, walk_room, walk_front, walk_back, walk_ends}
use Rattle.merkle.proofs.paths.path_of.Goals as goal

pub loop-left-init : goal.loop-left-init
loop-left-init g c = walk_begins c.none-found.result c.args.m (g.P.Part.leaves c.args.whole) c.none-found.ensures (omega (arith, c.len.ensures)) (g.met.P.Part.few c.args.whole)

pub with-found-requires : goal.with-found-requires
with-found-requires g c = walk_room c.loop-left.invariant c.in-Some.ensures.0

pub loop-left-smaller-then-place-at : goal.loop-left-smaller-then-place-at
loop-left-smaller-then-place-at g c = let e = c.in-Some.ensures in let h = halved (g.P.Part.leaves c.loop-left.part) e.0 e.1 e.2 in omega arith

pub loop-left-preserved-then-place-at : goal.loop-left-preserved-then-place-at
loop-left-preserved-then-place-at g c =
    let e = c.in-Some.ensures in
    walk_front c.loop-left.invariant e.0 e.1 e.2 c.if-place-at.true c.len-at.ensures (cc (c.with-found.ensures.digests, c.root.ensures))

pub with-found-requires-else-place-at : goal.with-found-requires-else-place-at
with-found-requires-else-place-at g c = walk_room c.loop-left.invariant c.in-Some.ensures.0

pub loop-left-smaller : goal.loop-left-smaller
loop-left-smaller g c = let e = c.in-Some.ensures in let h = halved (g.P.Part.leaves c.loop-left.part) e.0 e.1 e.2 in omega arith

pub loop-left-preserved : goal.loop-left-preserved
loop-left-preserved g c =
    let e = c.in-Some.ensures in
    walk_back c.loop-left.invariant e.0 e.1 e.2 c.if-place-at.false c.len-at.ensures (cc (c.with-found-else-place-at.ensures.digests, c.root-else-place-at.ensures))

pub returns : goal.returns
returns g c = (omega (arith, c.len.ensures), walk_ends c.loop-left.invariant (omega (arith, c.in_default.ensures)))
