use Rattle.std.proofs.Common.{◌≡◌, ◌+◌, ◌%◌, map, arith}
use Rattle.std.proofs.lemmas.List.{get_or-map, map-set}
use Rattle.sha256.specs.Constants.{constants}
use Rattle.sha256.specs.Steps.{next_in}
use Rattle.sha256.proofs.Turns.{turned}
use Rattle.sha256.proofs.block.turn.Goals as goal

pub returns : goal.returns
unfolding constants
returns g c k ws h lt l d =
    let lane = g.W.Word.lane k in
    let w = c.args.w.now in
    let i = c.args.i in
    let x = c.plus-x.result in
    let fifteenth = get_or-map lane w ((i + 14) % 16) c.index-w-i.result 0 (omega (arith, c.told-w)) in
    let tenth = get_or-map lane w ((i + 9) % 16) c.index-w-i-2.result 0 (omega (arith, c.told-w)) in
    let second = get_or-map lane w ((i + 1) % 16) c.index-w-i-3.result 0 (omega (arith, c.told-w)) in
    let oldest = get_or-map lane w i c.index-w-i-4.result 0 (omega (arith, c.told-w)) in
    let next : lane x ≡ next_in (map lane w) i = cc (c.plus-x.ensures k lt, c.plus-2.ensures k lt, c.plus.ensures k lt, c.small_sigma1.ensures k lt, c.small_sigma0.ensures k lt) in
    rw (map-set lane w i x) (turned ws h _ _ _ c.args.t i (lane x) l c.requires.0 c.requires.1.0 c.requires.1.1 d next (c.round.ensures k lt))
