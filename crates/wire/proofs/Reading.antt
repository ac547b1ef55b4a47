-- A field in front of other bytes is read as that field, and what is read is in front.
use Rattle.std.proofs.Common.{◌≡◌, ℕ, ◌<◌, ◌≤◌, List, [], ◌∷◌, ◌++◌, length, get_or, take, drop, Ok, Result, refl, sym, ap, ◌∙◌, zero-add, arith}
use Rattle.std.proofs.ByRecursion.{All-drop, All-take}
use Rattle.std.proofs.lemmas.List.{drop_at, length-append, length-take-le, take-append-drop, take_at}
use Rattle.std.proofs.lemmas.Bool.{cond-false, le-ltb}
use Rattle.std.specs.Int.Digits.{AllBelowBase}
use Rattle.wire.specs.Bytes.{number_of}
use Rattle.wire.specs.Formats.{IsField, field}
use Rattle.wire.specs.declared.damage.Damage.{Damage}

-- bytes as a field of n bytes and what follows it
pub record Cut (n : ℕ) (bs : List ℕ) : Type 0 where
  pub sized : length (take n bs) ≡ n
  pub front : AllBelowBase 256 (take n bs)
  pub back : AllBelowBase 256 (drop n bs)
  pub whole : take n bs ++ drop n bs ≡ bs

-- bytes begin with a part of them that is in front
pub front_field : (n : ℕ) (xs ys : List ℕ) → length xs ≡ n → IsField n (xs ++ ys) xs ys
front_field n xs ys h = (simp length-append (omega arith), h, sym (take_at xs ys n h), sym (drop_at xs ys n h), simp length-append (omega arith))

-- one byte is the first of them alone
pub one_byte : (bs : List ℕ) → length bs ≡ 1 → get_or bs 0 0 ∷ [] ≡ bs
one_byte [] h = absurd (omega arith)
one_byte (b ∷ []) h = refl
one_byte (b ∷ c ∷ bs) h = absurd (omega arith)

-- and it is the number that it is
pub byte_number : (bs : List ℕ) → length bs ≡ 1 → number_of bs ≡ get_or bs 0 0
byte_number bs h = ap number_of (sym (one_byte bs h)) ∙ zero-add (get_or bs 0 0)

-- bytes are the field that they begin with and what follows it
pub whole_field : (n : ℕ) (bs xs rest : List ℕ) → IsField n bs xs rest → xs ++ rest ≡ bs
whole_field n bs xs rest h = rw (h.2, h.3) (take-append-drop n bs)

module _ {X : Type 0} (n : ℕ) where
  -- a field that bytes begin with is read off them
  pub field_of : (bs xs rest : List ℕ) (next : List ℕ → List ℕ → Result X Damage) → IsField n bs xs rest → field n bs next ≡ next xs rest
  field_of bs xs rest next h = cond-false _ _ _ (le-ltb _ n h.0) ∙ rw (h.2, h.3)

  -- where something is made of a field, its bytes are there
  pub field_read : (bs : List ℕ) (next : List ℕ → List ℕ → Result X Damage) (x : X) → AllBelowBase 256 bs → field n bs next ≡ Ok x → Cut n bs × (next (take n bs) (drop n bs) ≡ Ok x)
  field_read bs next x u e =
      let room : n ≤ length bs = grind arith in
      (record { sized = length-take-le n bs room; front = All-take (λ b. b < 256) n bs u; back = All-drop (λ b. b < 256) n bs u; whole = take-append-drop n bs }, grind arith)
