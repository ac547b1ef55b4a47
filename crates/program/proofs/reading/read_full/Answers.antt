use Rattle.std.proofs.Common.{rules, subst}
use Rattle.std.proofs.KnownBytes.{Consumes-trans}
use Rattle.std.specs.Io.KnownBytes.{Consumes}
use Rattle.program.proofs.Fills.{take-filled}
use Rattle.program.proofs.reading.read_full.Goals as goal

pub loop-filled-preserved : goal.loop-filled-preserved
loop-filled-preserved g c =
    let now = c.in_ok-count.ensures in
    let joined = take-filled c.loop-filled.filled c.in_ok-count.count _ c.loop-filled.buffer c.read.new.buf c.loop-filled.invariant.1 now.bound.0 in
    (search rules, search rules, subst (Consumes _ _) joined (Consumes-trans _ _ _ _ _ c.loop-filled.invariant.2 now.bytes.0))
