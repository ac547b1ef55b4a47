-- Who is there changes nothing, and another comes at the end.
use Rattle.std.proofs.Common.{sym, ◌∙◌}
use Rattle.rotation.proofs.InRow.{join_there, join_new}
use Rattle.rotation.specs.Rows.{row}
use Rattle.rotation.proofs.row.Rotation.join.Goals as goal

pub returns-then-has-clause-after : goal.returns-then-has-clause-after
returns-then-has-clause-after c = sym (join_there c.args.id (row c.args.self) (sym c.if-has.ensures))

pub returns-clause-after : goal.returns-clause-after
returns-clause-after c = c.push.ensures ∙ sym (join_new c.args.id (row c.args.self) (sym c.if-has.ensures))
