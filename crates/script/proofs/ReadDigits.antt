-- Digits that are read one at a time give the number that all of them write.
use Rattle.std.proofs.Common.{◌≡◌, ℕ, ◌+◌, ◌-◌, ◌*◌, ◌^◌, ◌<◌, ◌≤◌, true, false, List, [], ◌∷◌, length, get_or, drop, Some, None, ◌∙◌, arith}
use Rattle.script.specs.Words.{onward, read_on}
use Rattle.std.proofs.lemmas.List.{at_drop_more, at_drop_all}
use Rattle.std.proofs.lemmas.Bool.Decides.{nat_tests}
use Rattle.std.specs.Char.{is_ascii_digit}

read_on_grows : (n : ℕ) (ds : List ℕ) → n ≤ read_on n ds
read_on_grows n [] = omega arith
read_on_grows n (d ∷ ds) = omega (arith, read_on_grows (n * 10 + (d - 48)) ds)

-- a number that 64 bits do not hold stays so
too_large : (n : ℕ) (ds : List ℕ) → 2 ^ 64 ≤ n → onward n ds ≡ None
too_large n ds h = let g = read_on_grows n ds in grind (arith, nat_tests)

module _ (n : ℕ) (ds : List ℕ) (i : ℕ) (l : i < length ds) where
  pub next_digit : is_ascii_digit (get_or ds i 0) ≡ true → onward n (drop i ds) ≡ onward (n * 10 + (get_or ds i 0 - 48)) (drop (i + 1) ds)
  next_digit h = at_drop_more (onward n) ds i 0 l ∙ rw h

  pub no_digit : is_ascii_digit (get_or ds i 0) ≡ false → onward n (drop i ds) ≡ None
  no_digit h = at_drop_more (onward n) ds i 0 l ∙ rw h

  pub overflow : is_ascii_digit (get_or ds i 0) ≡ true → 2 ^ 64 ≤ n * 10 + (get_or ds i 0 - 48) → onward n (drop i ds) ≡ None
  overflow h big = next_digit h ∙ too_large (n * 10 + (get_or ds i 0 - 48)) (drop (i + 1) ds) big

pub all_read : (n : ℕ) (ds : List ℕ) (i : ℕ) → length ds ≤ i → n < 2 ^ 64 → onward n (drop i ds) ≡ Some n
all_read n ds i l small = at_drop_all (onward n) ds i l ∙ grind (arith, nat_tests)
