-- Those before the first that is not due happen.
use Rattle.std.proofs.Common.{◌≡◌, not, ltb, unwrap_or, length, take, sym, ap, ◌∙◌, rules, tests, arith}
use Rattle.arena.proofs.Due.{due_till-place, place_or_all, happened}
use Rattle.arena.proofs.play.happen_till.Goals as goal
use Rattle.arena.specs.Seats.{seats, happens, due_till}
use Rattle.std.proofs.lemmas.Iterator.{YieldsList-from_slice}
use Rattle.std.proofs.lemmas.Iterator.Search.{position_from_yields_List}
use Rattle.std.proofs.lemmas.List.Sums.{prefix_len-le-length}
use Rattle.std.proofs.lemmas.List.{take_all}
use Rattle.std.specs.List.{fold}

pub returns : goal.returns
returns c =
    let t = c.args.tick in
    let es = c.args.events.now in
    let found = position_from_yields_List (λ e. ltb t e.at) _ _ c.position.result c.position.ensures.ran (YieldsList-from_slice es cc) (λ x b q k. (search rules, search (rules, tests))) in
    let few = prefix_len-le-length (λ e. not (ltb t e.at)) es in
    let due : c.unwrap_or-due.result ≡ due_till t es = c.unwrap_or-due.ensures ∙ ap (λ r. unwrap_or r (length es)) found ∙ place_or_all _ _ few ∙ sym (due_till-place t es) in
    record {
      after = c.loop-event.invariant ∙ ap (fold (λ ss e. happens e ss) (seats c.args.nodes.now)) (take_all c.loop-event.event-index (take c.unwrap_or-due.result es) (omega arith) ∙ ap (λ n. take n es) due) ∙ sym (happened t es (seats c.args.nodes.now));
      due = due;
      bound = omega (arith, due_till-place t es, few, due);
    }
