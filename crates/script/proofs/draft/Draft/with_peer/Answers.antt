-- A new peer at its place keeps the order.
use Rattle.std.proofs.Common.{◌≡◌, ◌<◌, false, sym, subst, rules}
use Rattle.script.proofs.Inserting.{peers_inserted}
use Rattle.script.proofs.draft.Draft.with_peer.Goals as goal
use Rattle.script.specs.Sheets.{known, place, number_of}
use Rattle.script.specs.Sound.{Ordered}
use Rattle.std.specs.List.{insert}

pub invariant_of-self-clause-peers_rise : goal.invariant_of-self-clause-peers_rise
invariant_of-self-clause-peers_rise c =
    let ps = c.args.self.peers.items in
    let p = c.args.peer in
    let new : known p.id ps ≡ false = search rules in
    let now : c.insert.new.self.items ≡ insert ps (place number_of p.id ps) p = search rules in
    subst (Ordered (λ p q. number_of p < number_of q)) (sym now) (peers_inserted ps p new c.args.self.peers_rise)
