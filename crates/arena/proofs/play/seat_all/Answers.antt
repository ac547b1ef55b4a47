-- An honest peer is seated after those before it, and a faulty one is passed.
use Rattle.std.proofs.Common.{◌++◌, vec_items, sym, ap, ◌∙◌, append-nil}
use Rattle.arena.proofs.Due.{seated_honest, seated_faulty, seated_some, seated_end}
use Rattle.arena.proofs.play.seat_all.Goals as goal
use Rattle.arena.proofs.play.seat_all.Goals.{then-peer+in_ok-push, else-peer}
use Rattle.arena.specs.Seats.{seats}
use Rattle.std.proofs.lemmas.Result.{MatchResult-from_err}

pub loop-peer-preserved : goal.loop-peer-preserved
loop-peer-preserved c =
    let before = vec_items c.loop-peer.nodes in
    let after = vec_items c.if-peer.nodes in
    elim c.if-peer.branch [
      | then-peer+in_ok-push w ↦
          seated_honest before after c.args.peers.now c.loop-peer.peer-index c.loop-peer-test.true c.loop-peer.invariant _ w.if-peer.true w.new.ensures (ap vec_items w.nodes-is ∙ w.in_ok-push.ensures.items)
      | else-peer w ↦
          seated_faulty before after c.args.peers.now c.loop-peer.peer-index c.loop-peer-test.true c.loop-peer.invariant w.if-peer.false (ap vec_items w.nodes-is)
    ]

pub returns : goal.returns
returns c = sym (append-nil _) ∙ ap (λ ss. seats (vec_items c.loop-peer.nodes) ++ ss) (sym (seated_end c.args.peers.now c.loop-peer.peer-index c.loop-peer-test.false)) ∙ c.loop-peer.invariant

pub returns-in_err-push : goal.returns-in_err-push
returns-in_err-push c =
    MatchResult-from_err c.from_residual.result _ _ c.from_residual.ensures.0
    (λ _. seated_some (vec_items c.loop-peer.nodes) (vec_items c.loop-peer.nodes) c.args.peers.now c.loop-peer.peer-index c.loop-peer-test.true c.loop-peer.invariant c.if-peer.true)
