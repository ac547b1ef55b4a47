use Rattle.std.proofs.Common.{rules, refl, subst, ◌≡◌, Ok}
use Rattle.std.specs.Fn.{Called}
use denote.Param.Always.{mut_next}
use Rattle.program.proofs.Taking.{takes_more}
use Rattle.program.proofs.reading.each_part.Goals as goal

pub loop-preserved : goal.loop-preserved
loop-preserved g c =
    let taken : c.take.result ≡ Ok tt = search rules in
    let took = subst (λ r. Called g.F.FnMut c.loop.take (c.in_ok-part.part, tt) r c.take.new.self) taken c.take.ensures in (
      mut_next g.F.FnMut _ _ _ _ _ c.take.ensures refl c.loop.invariant.0,
      takes_more g.F.FnMut _ _ _ _ _ _ c.in_ok-part.part c.loop.invariant.1 c.in_ok-part.ensures.bytes took,
    )
