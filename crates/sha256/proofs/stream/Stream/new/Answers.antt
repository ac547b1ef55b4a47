use Rattle.std.proofs.Common.{refl}
use Rattle.sha256.specs.Constants.{initial}
use Rattle.sha256.specs.Sha256.{hashed}
use Rattle.sha256.proofs.stream.Stream.new.Goals as goal

pub returns : goal.returns
unfolding hashed initial
returns c = record { hashes = refl; held = refl; counted = refl }
