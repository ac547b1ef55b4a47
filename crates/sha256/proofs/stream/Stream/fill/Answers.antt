use Rattle.std.proofs.Common.{◌≡◌, List, ℕ, ◌++◌, ◌+◌, ◌%◌, length, take, ap, ◌∙◌, arith, rules}
use Rattle.std.proofs.lemmas.List.{places}
use Rattle.std.proofs.lemmas.Slice.{take-put_mid}
use Rattle.sha256.proofs.Taking.{taken_within, taken-whole}
use Rattle.sha256.proofs.stream.Stream.fill.Goals as goal
use Rattle.sha256.proofs.stream.Stream.fill.Goals.{then-end-eq64, else-end-eq64}

pub returns : goal.returns
returns c =
    let copied = c.copy_from_slice.ensures.after in
    let long : length c.copy_from_slice.new.self ≡ length c.args.part.now = ap length copied in
    let at = c.args.self.count % 64 in
    let put = take-put_mid at _ c.args.self.rest c.copy_from_slice.new.self (at + length c.args.part.now) (omega (arith, long)) (omega (arith, c.requires.room, long))
    ∙ ap (λ (xs : List ℕ). take at c.args.self.rest ++ xs) copied in
    elim c.if-end-eq64.branch [
      | then-end-eq64 w ↦ rw w.self-is record { taken = λ m h. taken-whole m c.args.part.now c.args.self _ h (search rules) put w.if-end-eq64.true (search (rules, places)) w.after_blocks-self.ensures; counted = search rules }
      | else-end-eq64 w ↦ rw w.self-is record { taken = λ m h. taken_within m c.args.part.now c.args.self _ h (search rules) put (omega (arith, c.requires.room, w.if-end-eq64.false)) (search rules); counted = search rules }
    ]
