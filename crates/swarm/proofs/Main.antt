-- The main promise: each of its parts is proved in a file of its own.
use Rattle.swarm.proofs.AllDone.{all_done}
use Rattle.swarm.proofs.FairTurn.{fair-turn}
use Rattle.swarm.proofs.Paths.{way_exact}
use Rattle.swarm.proofs.Right.{right, shut_rightly, takes}
use Rattle.swarm.specs.Promise.{Main, Whole}
use Rattle.swarm.specs.Swarm.{Rules}

whole : (r : Rules) → Whole r
whole r = record { right = right r; shut_rightly = shut_rightly r; takes = takes r; all_done = all_done r }

pub main : Main
main = (whole, (way_exact, fair-turn))
