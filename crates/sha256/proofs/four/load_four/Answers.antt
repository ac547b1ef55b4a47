use Rattle.std.proofs.Common.{◌≡◌, ℕ, ◌<◌, [], Bor, List, map, length, get_or, refl, ◌∙◌, rules, arith}
use Rattle.sha256.specs.Lanes.{column}
use Rattle.sha256.specs.Sha256.{words}
use Rattle.sha256.proofs.Arrays.{made_each, mapped, mapped_each}
use Rattle.sha256.proofs.Loads.{columns-are}
use Rattle.sha256.proofs.four.load_four.Goals as goal

none : Bor (List ℕ)
none = record { ref_ptr = (0, 0); now = [] }

pub returns : goal.returns
returns c =
    let blocks = c.args.blocks in
    let rows = c.map-rows.result in
    let mapping = c.map-rows.ensures.items in
    let making = c.from_fn.ensures.items in
    let loaded : rows ≡ map (λ block. words block.now) blocks = mapped _ (λ block. words block.now) _ (λ x y f' called. (search rules, search rules)) _ _ 4 (search rules) mapping in
    let sized : (k : ℕ) → k < 4 → length (get_or rows k []) ≡ 16 = λ k h. mapped_each _ (λ x y. length y ≡ 16) _ (λ x y f' called. (search rules, search rules)) blocks rows 0 4 _ refl mapping.each k none [] (omega arith) (omega arith) in
    let across : (i : ℕ) → i < 16 → get_or c.from_fn.result i [] ≡ column i rows = λ i h. made_each _ (λ k y. y ≡ column k rows) _ (λ k y f' called. (search rules, search rules)) _ 0 16 _ refl making.each i [] (omega arith) (omega arith) in
    columns-are _ rows mapping.long sized making.long across ∙ loaded
