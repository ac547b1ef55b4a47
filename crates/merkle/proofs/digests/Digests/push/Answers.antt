use Rattle.std.proofs.Common.{refl}
use Rattle.merkle.proofs.Growing.{follows-parts}
use Rattle.merkle.proofs.Leaves.{one_taken, count_more}
use Rattle.merkle.proofs.digests.Digests.push.Goals as goal

pub returns : goal.returns
returns c =
    let even = (follows-parts c.args.self.now _ c.requires.next).0 in
    record {
      taken = λ file o. record {
        digests = one_taken file _ _ _ _ _ even o.counted c.requires.sized.0 c.requires.sized.1 o.digests c.leaf_of.ensures c.push_reserved.ensures.items;
        counted = count_more file _ _ o.counted;
      };
      counted = refl;
      same = refl;
    }
