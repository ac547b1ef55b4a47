use Rattle.std.proofs.Common.{rules}
use Rattle.sha256.proofs.LaneOf.{lane_with}
use Rattle.sha256.proofs.words.U32x4Word.shifted.Goals as goal

pub returns : goal.returns
returns c i h = lane_with _ c.args.self c.args.n i (search rules) h
