-- The peers stand by their numbers.
use Rattle.std.proofs.Common.{rules}
use Rattle.script.proofs.Searching.{searched}
use Rattle.script.proofs.places.find_peer.Goals as goal
use Rattle.std.proofs.lemmas.List.Sorted.{answers_always}

pub returns : goal.returns
returns c =
    let facts = c.binary_search_by_key.ensures in
    searched c.args.peers.now c.requires c.args.id c.binary_search_by_key.result facts.bound (facts.position (λ p. p.id) (answers_always _ _ _ (λ f a r g called. search rules)))
