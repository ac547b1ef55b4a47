use Rattle.std.proofs.Common.{◌≡◌, length, map, refl, ◌∙◌, rules}
use Rattle.std.proofs.lemmas.List.{length-map}
use Rattle.sha256.specs.Steps.{values}
use Rattle.sha256.proofs.Turns.{none_done, all_done}
use Rattle.sha256.proofs.block.after_block.Goals as goal

pub returns : goal.returns
returns g c k lt =
    let lane = g.W.Word.lane k in
    let h = values lane c.args.value in
    let ws = map lane c.args.words in
    let sixteen : length c.args.words ≡ 16 = search rules in
    let l = length-map c.args.words lane ∙ sixteen in
    let s = none_done ws h h ws refl refl in
    let d = c.first_sixteen-v.ensures k ws h lt l s in
    let d = c.later-v.ensures k ws h lt l d in
    all_done ws h _ _ _ _ refl d (c.plus.ensures k lt)
