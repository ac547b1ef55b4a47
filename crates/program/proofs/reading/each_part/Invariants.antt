use Rattle.program.specs.Parts.{TakesUpTo}
use Rattle.program.proofs.reading.each_part.Given as goal

abbrev pub invariant-loop : goal.invariant-loop
invariant-loop g l =
    goal.F-IsAlwaysCallable g l.take
    × TakesUpTo g.F.FnMut l.initial.take l.take (g.R.Read.remaining l.initial.reader) (g.R.Read.remaining l.reader)
