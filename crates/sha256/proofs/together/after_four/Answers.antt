use Rattle.std.proofs.Common.{◌≡◌, List, ℕ, ◌∷◌, [], ◌∙◌, ◌≤◌, length, get_or, take, map, sym, refl, ap, ap₂, subst, arith, rules, length-take, Bor}
use Rattle.std.proofs.lemmas.Fn.{fold_over, fronts}
use Rattle.std.proofs.lemmas.Iterator.{YieldsList, YieldsList-from_slice, YieldsList-from_zip, zips}
use Rattle.std.specs.List.{AllByRecursion, zip}
use Rattle.std.specs.Simd.Lanes.{zip2}
use Rattle.std.specs.Slice.Iter.{iter_rest}
use Rattle.sha256.specs.Lanes.{lane}
use Rattle.sha256.specs.Sha256.{compress, words}
use Rattle.sha256.specs.Sides.{lanes}
use Rattle.sha256.specs.Streams.{after}
use Rattle.sha256.proofs.Arrays.{four_places}
use Rattle.sha256.proofs.SideLaws.{rows, columns, next_row}
use Rattle.sha256.proofs.together.after_four.Goals as goal

pub returns : goal.returns
returns c =
    let v = c.args.v in
    let n = c.args.count in
    let none : Bor (List (List ℕ)) = record { ref_ptr = (0, 0); now = [] } in
    let blocks : ℕ → List (List ℕ) = λ k. take n (get_or c.args.blocks k none).now in
    let places = four_places c.args.blocks none none none none (search rules) in
    let few = subst (AllByRecursion (λ b. n ≤ length b.now)) (sym places) c.requires in
    let long : (k : ℕ) → n ≤ length (get_or c.args.blocks k none).now → length (blocks k) ≡ n = λ k le. omega (arith, length-take n (get_or c.args.blocks k none).now, le) in
    let p = YieldsList-from_slice {s = c.zip.result.a} (blocks 0) (ap iter_rest c.zip.ensures.first ∙ c.iter.ensures.rest) in
    let q = YieldsList-from_slice {s = c.zip.result.b} (blocks 1) c.zip.ensures.second.0 in
    let r = YieldsList-from_slice {s = c.zip-2.result.b} (blocks 2) c.zip-2.ensures.second.0 in
    let s = YieldsList-from_slice {s = c.zip-3.result.b} (blocks 3) c.zip-3.ensures.second.0 in
    let two = subst (λ s. YieldsList (zips fronts fronts) (λ y. (y.0.now, y.1.now)) s (zip (blocks 0) (blocks 1))) (sym c.zip-2.ensures.first) (YieldsList-from_zip {s = c.zip.result} p q) in
    let three = subst (λ s. YieldsList (zips (zips fronts fronts) fronts) (λ y. ((y.0.0.now, y.0.1.now), y.1.now)) s (zip (zip (blocks 0) (blocks 1)) (blocks 2))) (sym c.zip-3.ensures.first)
    (YieldsList-from_zip {s = c.zip-2.result} two r) in
    let four = YieldsList-from_zip {s = c.zip-3.result} three s in
    let all = fold_over (zips (zips (zips fronts fronts) fronts) fronts) (λ y. (((y.0.0.0.now, y.0.0.1.now), y.0.1.now), y.1.now)) _
    (λ ys w. (lane 0 w ≡ after (lane 0 v) (map (λ y. y.0.0.0) ys)) × (lane 1 w ≡ after (lane 1 v) (map (λ y. y.0.0.1) ys)) × (lane 2 w ≡ after (lane 2 v) (map (λ y. y.0.1) ys)) × (lane 3 w ≡ after (lane 3 v) (map (λ y. y.1) ys))) _
    (λ ys u x w f so_far k.
    let next : lanes w ≡ zip2 (λ value block. compress value (words block.now)) (lanes u) (x.0.0.0 ∷ x.0.0.1 ∷ x.0.1 ∷ x.1 ∷ []) = search rules in
    let at : (i : ℕ) → get_or (lanes w) i [] ≡ get_or (zip2 (λ value block. compress value (words block.now)) (lanes u) (x.0.0.0 ∷ x.0.0.1 ∷ x.0.1 ∷ x.1 ∷ [])) i [] = λ i. ap (λ values. get_or values i []) next in
    ((next_row (λ y. y.0.0.0) ys _ _ so_far.0 (at 0), next_row (λ y. y.0.0.1) ys _ _ so_far.1 (at 1), next_row (λ y. y.0.1) ys _ _ so_far.2 (at 2), next_row (λ y. y.1) ys _ _ so_far.3 (at 3)), refl))
    c.zip-3.result (rows (blocks 0) (blocks 1) (blocks 2) (blocks 3)) v c.fold.result four.runs (refl, refl, refl, refl) c.fold.ensures.ran in
    let whole = columns (blocks 0) (blocks 1) (blocks 2) (blocks 3)
    (omega (arith, long 0 few.0, long 1 few.1.0)) (omega (arith, long 0 few.0, long 2 few.1.1.0)) (omega (arith, long 0 few.0, long 3 few.1.1.1.0)) in
    subst (λ bs. lanes c.fold.result ≡ zip2 (λ value b. after value (take n b.now)) (lanes v) bs) places
    (ap₂ ◌∷◌ (all.0 ∙ ap (after (lane 0 v)) whole.first) (ap₂ ◌∷◌ (all.1 ∙ ap (after (lane 1 v)) whole.second) (ap₂ ◌∷◌ (all.2 ∙ ap (after (lane 2 v)) whole.third) (ap₂ ◌∷◌ (all.3 ∙ ap (after (lane 3 v)) whole.fourth) refl))))
