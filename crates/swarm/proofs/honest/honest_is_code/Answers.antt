-- Each clause is a theorem of its own file.
use Rattle.std.proofs.Common.{refl}
use Rattle.swarm.proofs.GivesOne.{gives_one}
use Rattle.swarm.proofs.HonestCode.{code_of, code_over}
use Rattle.swarm.proofs.Plain.{plain}
use Rattle.swarm.proofs.honest.honest_is_code.Goals as goal

pub returns : goal.returns
returns g c = record { yes = refl; code = λ r p h. (code_of r p h, code_over r p h); gives = λ r q k. gives_one r q _ k; met = plain }
