use Rattle.sha256.proofs.BitLaws.{maj-short}
use Rattle.sha256.proofs.words.majority.Goals as goal

pub returns : goal.returns
returns g c i lt =
    let lane = g.W.Word.lane i in
    let x = c.args.x in
    let y = c.args.y in
    let z = c.args.z in
    rw (c.xor-3.ensures.value i lt, c.and.ensures.value i lt, c.xor.ensures.value i lt, c.xor-2.ensures.value i lt) (maj-short (lane x) (lane y) (lane z))
