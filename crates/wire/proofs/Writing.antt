-- Fields that are written one after the other to the front of a byte string.
use Rattle.std.proofs.Common.{◌≡◌, ℕ, ◌+◌, List, [], ◌++◌, length, drop, refl, ◌∙◌, sym}
use Rattle.std.proofs.lemmas.List.{append_assoc, drop_at, drop-drop, length-append, take_at}
use Rattle.wire.specs.Formats.{with_field}

-- bytes with some written to their front, and the place behind those
pub record Front (out xs z : List ℕ) (p : ℕ) : Type 0 where
  pub bytes : z ≡ xs ++ drop (length xs) out
  pub place : p ≡ length xs

pub nothing : (out : List ℕ) → Front out [] out 0
nothing out = record { bytes = refl; place = refl }

-- a field behind what was written
pub next : {out xs z w : List ℕ} {p q : ℕ} (ys : List ℕ) → Front out xs z p → w ≡ with_field p ys z → q ≡ p + length ys → Front out (xs ++ ys) w q
next {out} {xs} {z} {w} {p} {q} ys f h e =
    let l : length xs ≡ p = sym f.place in
    record {
      bytes = h ∙ rw (f.bytes, f.place, take_at xs _ (length xs) refl, ← drop-drop (length ys) (length xs) (xs ++ drop (length xs) out), drop_at xs _ (length xs) refl, drop-drop, append_assoc, length-append);
      place = e ∙ rw (f.place, length-append);
    }
