use Rattle.sha256.proofs.BitLaws.{ch-short}
use Rattle.sha256.proofs.words.choose.Goals as goal

pub returns : goal.returns
returns g c i lt =
    let lane = g.W.Word.lane i in
    let x = c.args.x in
    let y = c.args.y in
    let z = c.args.z in
    let a = c.xor.ensures.words i lt in
    let p = c.and.ensures.words i lt in
    rw (c.xor-2.ensures.value i lt, c.and.ensures.value i lt, c.xor.ensures.value i lt) (ch-short (lane x) (lane y) (lane z) p.1 a.0 a.1)
