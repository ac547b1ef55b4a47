-- An event that opens a link, or breaks one that stands, is passed, and the first other is the answer.
use Rattle.std.proofs.Common.{sym}
use Rattle.script.proofs.Standing.{bad_here, bad_later, bad_none}
use Rattle.script.proofs.links.first_bad_break.Goals as goal
use Rattle.script.proofs.links.first_bad_break.Goals.{else-not-is_opening-via-then-not-is_opening+else-not-has_link_after, else-not-is_opening-via-else-not-is_opening}
use Rattle.std.proofs.lemmas.Bool.{or_from, or_left, or_right}

pub returns-then-not-has_link_after : goal.returns-then-not-has_link_after
returns-then-not-has_link_after c =
    bad_here c.args.events.now c.loop-i.i c.loop-i-test.true
    (or_from _ _ (sym c.if-not-is_opening.ensures) (sym c.if-not-has_link_after.ensures)) c.loop-i.invariant

pub loop-i-preserved : goal.loop-i-preserved
loop-i-preserved c =
    bad_later c.args.events.now c.loop-i.i c.loop-i-test.true
    (elim c.else-not-is_opening.branch [
      | else-not-is_opening-via-then-not-is_opening+else-not-has_link_after w ↦ or_right _ _ (sym w.if-not-has_link_after.ensures)
      | else-not-is_opening-via-else-not-is_opening w ↦ or_left _ _ (sym w.if-not-is_opening.ensures)
    ])
    c.loop-i.invariant

pub returns : goal.returns
returns c = bad_none c.args.events.now c.loop-i.i c.loop-i-test.false c.loop-i.invariant
