use Rattle.std.proofs.Common.{◌≡◌, ◌-◌, length, rules, ap₂, ◌∙◌, bit_or}
use Rattle.sha256.specs.Words.{shr, shl}
use Rattle.sha256.proofs.LaneOf.{lane_of_both, lane_with, length_with}
use Rattle.sha256.proofs.words.U32x4Word.rotated.Goals as goal

pub returns : goal.returns
returns c i h =
    let x = c.args.self in
    let n = c.args.n in
    let l : length x ≡ 4 = search rules in
    lane_of_both _ _ _ i (length_with (λ a b. shr b a) x n l) (length_with (λ a b. shl b a) x (32 - n) l) h ∙ ap₂ bit_or (lane_with (λ a b. shr b a) x n i l h) (lane_with (λ a b. shl b a) x (32 - n) i l h)
