use Rattle.std.proofs.Common.{◌≡◌, ℕ, [], get_or, refl, rules, arith}
use Rattle.sha256.specs.Sha256.{word}
use Rattle.sha256.proofs.Arrays.{made_each}
use Rattle.sha256.proofs.Loads.{words-are}
use Rattle.sha256.proofs.block.load.Goals as goal

pub returns : goal.returns
returns c =
    let items = c.from_fn.ensures.items in
    let fours = c.as_chunks.result.0.now in
    let at : ℕ → ℕ = λ i. word (get_or (get_or fours i []) 0 0) (get_or (get_or fours i []) 1 0) (get_or (get_or fours i []) 2 0) (get_or (get_or fours i []) 3 0) in
    record {
      value = words-are _ _ fours c.told-block c.as_chunks.ensures.front items.long (λ i h. made_each _ (λ k y. y ≡ at k) _ (λ k y f' called. (search rules, search rules)) _ 0 16 _ refl items.each i 0 (omega arith) (omega arith));
      sized = items.long;
    }
