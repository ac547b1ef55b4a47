-- The loop stops at the first line feed.
use Rattle.std.proofs.Common.{arith}
use Rattle.script.proofs.FirstLine.{in_line}
use Rattle.script.proofs.Leading.{one_more, stopped, all_passed}
use Rattle.script.proofs.words.line_end.Goals as goal
use Rattle.std.proofs.lemmas.Bool.Decides.{nat_tests}

pub returns-then-b-eq10 : goal.returns-then-b-eq10
returns-then-b-eq10 c = record {
  front = stopped in_line c.args.text.now c.loop-i.i c.loop-i.invariant (omega arith) (grind (arith, nat_tests));
  within = omega arith;
}

pub loop-i-preserved : goal.loop-i-preserved
loop-i-preserved c = one_more in_line c.args.text.now c.loop-i.i c.loop-i.invariant (omega arith) (grind (arith, nat_tests))

pub returns : goal.returns
returns c = record { front = all_passed in_line c.args.text.now c.loop-i.i c.loop-i.invariant (omega arith) (omega arith); within = omega arith }
