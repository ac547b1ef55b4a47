-- An event at its place keeps the order.
use Rattle.std.proofs.Common.{◌≡◌, ◌≤◌, sym, subst, rules}
use Rattle.script.proofs.Inserting.{events_inserted}
use Rattle.script.proofs.draft.Draft.with_event.Goals as goal
use Rattle.script.specs.Sheets.{place, tick_of}
use Rattle.script.specs.Sound.{Ordered}
use Rattle.std.specs.List.{insert}

pub invariant_of-self-clause-events_rise : goal.invariant_of-self-clause-events_rise
invariant_of-self-clause-events_rise c =
    let es = c.args.self.events.items in
    let e = c.args.event in
    let now : c.insert.new.self.items ≡ insert es (place tick_of e.at es) e = search rules in
    subst (Ordered (λ e f. tick_of e ≤ tick_of f)) (sym now) (events_inserted es e c.args.self.events_rise)
