use Rattle.std.proofs.Common.{◌≡◌, ◌+◌, ◌<◌, ◌∷◌, [], List, ℕ, Bor, Result, Ok, IfOk, is_ok, length, get_or, true, sym, ap, subst, ◌∙◌, refl, rules, arith}
use Rattle.std.specs.List.{AllZip}
use Rattle.sha256.specs.Hashers.{counts}
use Rattle.sha256.specs.Sha256.{digest}
use Rattle.sha256.specs.Sides.{Holds, Keeps}
use Rattle.sha256.specs.declared.hasher.TooLong.{TooLong}
use Rattle.sha256.specs.declared.sides.Side.{Side}
use Rattle.sha256.proofs.Arrays.{four_places, mapped_each}
use Rattle.sha256.proofs.FourDigests.{four_count, four_digests}
use Rattle.sha256.proofs.together.digest_four.Goals as goal

none : Bor (List ℕ)
none = record { ref_ptr = (0, 0); now = [] }

no_side : Side
no_side = record { stream = record { value = []; rest = []; count = 0 }; blocks = record { ref_ptr = (0, 0); now = [] }; back = record { ref_ptr = (0, 0); now = [] }; even = λ some. refl; short = omega arith }

-- what a side answers for a part
abbrev Begins : ℕ → Bor (List ℕ) → Result Side TooLong → Type 0
Begins first part side = (is_ok side ≡ counts (1 + length part.now)) × IfOk side (Holds (first ∷ part.now))

pub returns : goal.returns
returns c =
    let sides = c.in_ok-sides.sides in
    let oks = c.in_ok-sides.ensures.ok in
    let side : ℕ → Side = λ k. get_or sides k no_side in
    let each : (k : ℕ) → k < 4 → Begins c.args.first (get_or c.args.parts k none) (get_or c.map.result k (Ok no_side)) =
    λ k lt. mapped_each _ (Begins c.args.first) _ (λ x y f k. (search rules, search rules)) c.args.parts c.map.result 0 4 _ refl c.map.ensures.items.each k none (Ok no_side) (omega arith) lt in
    let same : (k : ℕ) → k < 4 → get_or c.map.result k (Ok no_side) ≡ Ok (side k) = λ k lt. let stepped = (oks.at k (Ok no_side) no_side lt).2 in search rules in
    let ended : (k : ℕ) (s : Side) → k < 4 → (m : List ℕ) → Holds m (get_or c.side_by_side.result k s) → get_or c.map-2.result k [] ≡ digest m =
    λ k s lt. mapped_each _ (λ x y. (m : List ℕ) → Holds m x → y ≡ digest m) _ (λ x y f k. (search rules, search rules)) c.side_by_side.result c.map-2.result 0 4 _ refl c.map-2.ensures.items.each k s [] (omega arith) lt in
    let fits : (k : ℕ) → k < 4 → counts (1 + length (get_or c.args.parts k none).now) ≡ true = λ k lt. sym (each k lt).0 ∙ ap is_ok (same k lt) in
    let holds : (k : ℕ) → k < 4 → Holds (c.args.first ∷ (get_or c.args.parts k none).now) (side k) = λ k lt. subst (λ r. IfOk r (Holds (c.args.first ∷ (get_or c.args.parts k none).now))) (same k lt) (each k lt).1 in
    let kept = subst (λ olds. AllZip Keeps olds c.side_by_side.result) (sym (four_places sides no_side no_side no_side no_side oks.long)) c.side_by_side.ensures.keeps in
    record {
      fits = four_count c.args.parts none (search rules) true (fits 0 (omega arith)) (fits 1 (omega arith)) (fits 2 (omega arith)) (fits 3 (omega arith));
      value = four_digests c.args.parts none (search rules) c.args.first (side 0) (side 1) (side 2) (side 3) c.side_by_side.result c.map-2.result c.map-2.ensures.items.long kept ended
          (holds 0 (omega arith)) (holds 1 (omega arith)) (holds 2 (omega arith)) (holds 3 (omega arith));
    }
