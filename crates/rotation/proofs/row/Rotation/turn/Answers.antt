-- Where the ids that are there rotate by one, the row turns.
use Rattle.std.proofs.Common.{[], refl, ap, ◌∙◌, arith}
use Rattle.rotation.proofs.Fairness.{fair}
use Rattle.rotation.proofs.InRow.{first_front, turn_front}
use Rattle.rotation.proofs.row.Rotation.turn.Goals as goal
use Rattle.rotation.specs.Rows.{row}
use Rattle.std.proofs.lemmas.List.{length-take-le}
use Rattle.swarm.proofs.FairTurn.{turn_at}
use Rattle.swarm.specs.Turns.{changed, first}

pub returns-then-count-eq0 : goal.returns-then-count-eq0
unfolding first
returns-then-count-eq0 c = rw c.if-count-eq0.true (record { after = refl; holder = refl; fair = λ cs. fair [] [] cs (changed cs []) refl refl; round = turn_at })

pub returns : goal.returns
returns c =
    let holder = first_front c.args.self.count c.args.self.ids (omega arith) (omega arith) in
    let long = c.rotate_left.ensures.len ∙ length-take-le c.args.self.count c.args.self.ids (omega arith) in
    let after = turn_front c.args.self.count c.args.self.ids c.rotate_left.new.self _ long c.rotate_left.ensures.after in
    record { after = after; holder = holder; fair = λ cs. fair (row c.args.self) _ cs _ holder (ap (changed cs) after); round = turn_at }
