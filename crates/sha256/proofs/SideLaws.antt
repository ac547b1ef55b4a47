-- Byte strings side by side: what moves on when blocks are taken in, and which blocks four have in common.
use Rattle.std.proofs.Common.{◌≡◌, ℕ, List, [], ◌∷◌, ◌++◌, map, length, get_or, sym, refl, ap, ap₂, ◌∙◌, arith}
use Rattle.std.proofs.lemmas.List.{append_assoc}
use Rattle.std.proofs.lemmas.List.Concat.{flat_map-append}
use Rattle.std.proofs.lemmas.List.{map-append}
use Rattle.std.proofs.lemmas.List.Sums.{fold_push}
use Rattle.std.specs.List.{zip}
use Rattle.sha256.specs.Sha256.{compress, words}
use Rattle.sha256.specs.Streams.{Adds, after}
use Rattle.sha256.specs.Sides.{Keeps, lanes}
use Rattle.sha256.specs.declared.sides.Side.{Side}
use Rattle.sha256.specs.Lanes.{Lanes}
use Rattle.sha256.proofs.Taking.{flat}
use Rattle.sha256.proofs.Turns.{eight}

-- A side that takes in its first blocks is of the same bytes.
pub moved_on : (s t : Side) (taken : List (List ℕ)) → s.blocks.now ≡ taken ++ t.blocks.now → t.back.now ≡ s.back.now → Adds (flat taken) s.stream t.stream → Keeps s t
moved_on s t taken cut same adds m h = record {
  front = h.front ++ flat taken;
  taken = adds.taken h.front h.taken;
  all = h.all ∙ ap (λ (xs : List ℕ). h.front ++ xs)
      (ap₂ ◌++◌ (ap flat cut ∙ flat_map-append (λ b. b) taken t.blocks.now) (sym same) ∙ append_assoc (flat taken) (flat t.blocks.now) t.back.now)
      ∙ sym (append_assoc h.front (flat taken) (flat t.blocks.now ++ t.back.now));
}

-- Four lists, place by place.
abbrev pub rows : {A : Type 0} → List A → List A → List A → List A → List (((A × A) × A) × A)
rows p q r s = zip (zip (zip p q) r) s

-- The rows of four lists that are as long as one another have each list whole.
pub record Columns {A : Type 0} (p q r s : List A) : Type 0 where
  pub first : map (λ (y : ((A × A) × A) × A). y.0.0.0) (rows p q r s) ≡ p
  pub second : map (λ (y : ((A × A) × A) × A). y.0.0.1) (rows p q r s) ≡ q
  pub third : map (λ (y : ((A × A) × A) × A). y.0.1) (rows p q r s) ≡ r
  pub fourth : map (λ (y : ((A × A) × A) × A). y.1) (rows p q r s) ≡ s

pub columns : {A : Type 0} (p q r s : List A) → length q ≡ length p → length r ≡ length p → length s ≡ length p → Columns p q r s
columns [] [] [] [] b c d = record { first = refl; second = refl; third = refl; fourth = refl }
columns [] (y ∷ q) r s b c d = absurd (omega arith)
columns [] [] (z ∷ r) s b c d = absurd (omega arith)
columns [] [] [] (w ∷ s) b c d = absurd (omega arith)
columns (x ∷ p) [] r s b c d = absurd (omega arith)
columns (x ∷ p) (y ∷ q) [] s b c d = absurd (omega arith)
columns (x ∷ p) (y ∷ q) (z ∷ r) [] b c d = absurd (omega arith)
columns (x ∷ p) (y ∷ q) (z ∷ r) (w ∷ s) b c d =
    let rest = columns p q r s (omega arith) (omega arith) (omega arith) in
    record { first = ap (◌∷◌ x) rest.first; second = ap (◌∷◌ y) rest.second; third = ap (◌∷◌ z) rest.third; fourth = ap (◌∷◌ w) rest.fourth }

-- One block more behind a hash value.
pub next_row : {R : Type 0} (f : R → List ℕ) (ys : List R) (y : R) (value : List ℕ) {v w : List ℕ} → v ≡ after value (map f ys) → w ≡ compress v (words (f y)) → w ≡ after value (map f (ys ++ (y ∷ [])))
next_row f ys y value e p =
    p ∙ ap (λ (u : List ℕ). compress u (words (f y))) e ∙ sym (fold_push (λ (u b : List ℕ). compress u (words b)) value (map f ys) (f y)) ∙ ap (after value) (sym (map-append f ys (y ∷ [])))

-- The words of four hash values at one place.
abbrev pub at_place : List ℕ → List ℕ → List ℕ → List ℕ → ℕ → List ℕ
at_place p q r s i = get_or p i 0 ∷ get_or q i 0 ∷ get_or r i 0 ∷ get_or s i 0 ∷ []

-- Four hash values that lie in the lanes place by place.
pub lanes_are : (p q r s : List ℕ) (v : Lanes) → length p ≡ 8 → length q ≡ 8 → length r ≡ 8 → length s ≡ 8 → v.a ≡ at_place p q r s 0 → v.b ≡ at_place p q r s 1 → v.c ≡ at_place p q r s 2 → v.d ≡ at_place p q r s 3 →
    v.e ≡ at_place p q r s 4 → v.f ≡ at_place p q r s 5 → v.g ≡ at_place p q r s 6 → v.h ≡ at_place p q r s 7 → lanes v ≡ p ∷ q ∷ r ∷ s ∷ []
lanes_are p q r s v i j k l a b c d e f g h = rw (a, b, c, d, e, f, g, h, eight p i, eight q j, eight r k, eight s l) refl
