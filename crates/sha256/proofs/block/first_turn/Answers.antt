use Rattle.std.proofs.Common.{sym, arith}
use Rattle.std.proofs.lemmas.List.{get_or-map}
use Rattle.sha256.specs.Constants.{constants}
use Rattle.sha256.proofs.Turns.{first-turned}
use Rattle.sha256.proofs.block.first_turn.Goals as goal

pub returns : goal.returns
unfolding constants
returns g c k ws h lt l s =
    let i = c.args.i in
    let word = sym (get_or-map (g.W.Word.lane k) c.args.w.now i c.index-w-i.result 0 (omega (arith, c.told-w))) in
    first-turned ws h _ _ _ i _ l c.requires s word (c.round.ensures k lt)
