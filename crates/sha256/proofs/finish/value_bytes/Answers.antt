use Rattle.std.proofs.Common.{◌≡◌, ◌/◌, ◌%◌, get_or, refl, rules, arith}
use Rattle.sha256.specs.Sha256.{word_bytes}
use Rattle.sha256.proofs.Arrays.{made_each}
use Rattle.sha256.proofs.Endings.{bytes_are}
use Rattle.sha256.proofs.finish.value_bytes.Goals as goal

pub returns : goal.returns
returns c =
    let all = c.from_fn.ensures.items in
    bytes_are c.args.value c.from_fn.result (search rules) all.long
    (λ i h. made_each _ (λ i y. y ≡ get_or (word_bytes (get_or c.args.value (i / 4) 0)) (i % 4) 0) _ (λ i y f k. (search rules, search rules)) c.from_fn.result 0 32 _ refl all.each i 0 (omega arith) h)
