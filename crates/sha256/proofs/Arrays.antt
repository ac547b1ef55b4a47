-- Arrays made by calls of a closure that no call changes: what holds of each call holds at each place.
use Rattle.std.proofs.Common.{◌≡◌, ℕ, zero, suc, ◌+◌, ◌<◌, ◌≤◌, List, [], ◌∷◌, map, length, get_or, drop, subst, sym, refl, ap, ap₂, ◌∙◌, arith, inl, inr, drop-cons, add-one}
use Rattle.std.proofs.lemmas.Bool.{cases_eq}
use Rattle.std.proofs.lemmas.List.{drop_all}
use mathlib.Core.Path.{subst₂}
use Rattle.std.specs.Fn.{Called}
use Rattle.std.specs.Array.{IsFromFnResultFrom, IsMapOf, MapsFrom}
use denote.Param.Members.{Mut}

-- `from_fn`: each call is at a place.
pub made_each : {F B : Type 0} (g : Mut F (ℕ × Unit {0}) B) (P : ℕ → B → Type 0) (f : F) → ((i : ℕ) (y : B) (f' : F) → Called g f (i, tt) y f' → P i y × (f' ≡ f)) →
    (ys : List B) (i n : ℕ) (q : F) → q ≡ f → IsFromFnResultFrom g q ys i n → (k : ℕ) (d : B) → i ≤ k → k < i + n → P k (get_or ys k d)
made_each g P f step ys i zero q e all k d le lt = absurd (omega arith)
made_each g P f step ys i (suc n) q e all k d le lt =
    let now = step i all.1 all.0 (subst (λ p. Called g p (i, tt) all.1 all.0) e all.3) in
    elim (cases_eq k i) [
      | inl same ↦ subst (λ j. P j (get_or ys j d)) (sym same) (subst (P i) (sym (all.2.1 d)) now.0)
      | inr other ↦ made_each g P f step ys (i + 1) n all.0 now.1 all.4 k d (omega (arith, other)) (omega arith)
    ]

-- What stands from a place on, where x stands at it.
from_place : {X : Type 0} (zs : List X) (i : ℕ) (x : X) → i < length zs → get_or zs i x ≡ x → drop i zs ≡ x ∷ drop (i + 1) zs
from_place zs i x lt e = drop-cons zs i x lt ∙ ap₂ (λ z j. z ∷ drop j zs) e (sym (add-one i))

module _ {F A B : Type 0} (g : Mut F (A × Unit {0}) B) (h : A → B) (f : F) (step : (x : A) (y : B) (f' : F) → Called g f (x, tt) y f' → (y ≡ h x) × (f' ≡ f)) (xs : List A) (ys : List B) where
  mapped_from : (i n : ℕ) (q : F) → q ≡ f → MapsFrom g q xs ys i n → length xs ≡ i + n → length ys ≡ i + n → drop i ys ≡ map h (drop i xs)
  mapped_from i zero q e all l m = drop_all i ys (omega arith) ∙ ap (map h) (sym (drop_all i xs (omega arith)))
  mapped_from i (suc n) q e all l m =
      let now = step all.1 all.2 all.0 (subst (λ p. Called g p (all.1, tt) all.2 all.0) e all.5) in
      let rest = mapped_from (i + 1) n all.0 now.1 all.6 (omega arith) (omega arith) in
      from_place ys i all.2 (omega arith) all.4.0 ∙ ap₂ ◌∷◌ now.0 rest ∙ ap (map h) (sym (from_place xs i all.1 (omega arith) all.3.0))

  -- `map`: each call is at an element.
  pub mapped : (n : ℕ) → length xs ≡ n → IsMapOf g f xs ys n → ys ≡ map h xs
  mapped n l all = mapped_from 0 n f refl all.each (omega arith) (omega (arith, all.long))

-- An array of four by its places.
pub four_places : {X : Type 0} (xs : List X) (a b c d : X) → length xs ≡ 4 → get_or xs 0 a ∷ get_or xs 1 b ∷ get_or xs 2 c ∷ get_or xs 3 d ∷ [] ≡ xs
four_places [] a b c d l = absurd (omega arith)
four_places (x ∷ []) a b c d l = absurd (omega arith)
four_places (x ∷ y ∷ []) a b c d l = absurd (omega arith)
four_places (x ∷ y ∷ z ∷ []) a b c d l = absurd (omega arith)
four_places (x ∷ y ∷ z ∷ w ∷ []) a b c d l = refl
four_places (x ∷ y ∷ z ∷ w ∷ v ∷ vs) a b c d l = absurd (omega arith)

-- What holds of an element and of what the call at it gave, place by place.
pub mapped_each : {F A B : Type 0} (g : Mut F (A × Unit {0}) B) (P : A → B → Type 0) (f : F) → ((x : A) (y : B) (f' : F) → Called g f (x, tt) y f' → P x y × (f' ≡ f)) →
    (xs : List A) (ys : List B) (i n : ℕ) (q : F) → q ≡ f → MapsFrom g q xs ys i n → (k : ℕ) (c : A) (d : B) → i ≤ k → k < i + n → P (get_or xs k c) (get_or ys k d)
mapped_each g P f step xs ys i zero q e all k c d le lt = absurd (omega arith)
mapped_each g P f step xs ys i (suc n) q e all k c d le lt =
    let now = step all.1 all.2 all.0 (subst (λ p. Called g p (all.1, tt) all.2 all.0) e all.5) in
    elim (cases_eq k i) [
      | inl same ↦ subst (λ j. P (get_or xs j c) (get_or ys j d)) (sym same) (subst₂ P (sym (all.3.1 c)) (sym (all.4.1 d)) now.0)
      | inr other ↦ mapped_each g P f step xs ys (i + 1) n all.0 now.1 all.6 k c d (omega (arith, other)) (omega arith)
    ]
