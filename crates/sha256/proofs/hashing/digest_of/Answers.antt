use Rattle.std.proofs.Common.{[]}
use Rattle.sha256.proofs.hashing.digest_of.Goals as goal

pub returns-clause-value : goal.returns-clause-value
returns-clause-value c = c.finish.ensures _ (c.in_ok-update.ensures.taken [] c.new.ensures)
