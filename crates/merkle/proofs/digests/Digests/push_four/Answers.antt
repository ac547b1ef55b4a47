use Rattle.std.proofs.Common.{ℕ, List, ◌++◌, vec_items, refl, ap, ◌∙◌, arith}
use Rattle.std.proofs.lemmas.List.{length-append}
use Rattle.merkle.proofs.Growing.{follows-parts}
use Rattle.merkle.proofs.Leaves.{group_taken}
use Rattle.merkle.proofs.digests.Digests.push_four.Goals as goal

pub returns : goal.returns
returns c =
    let d = c.args.self.now in
    let group = c.args.group.now in
    let before = vec_items d.leaves in
    let pushed = rw c.unwrap.ensures at c.extend_from_slice.ensures.items in
    let even = (follows-parts d 65536 c.requires.next).0 in
    record {
      taken = λ file o. record {
        digests = group_taken file group before _ d.taken even o.counted o.digests (pushed ∙ ap (λ (xs : List (List ℕ)). before ++ xs) c.leaves_of.ensures);
        counted = omega (arith, o.counted, c.requires.sized, length-append file group);
      };
      counted = omega (arith, c.requires.sized);
      same = refl;
    }
