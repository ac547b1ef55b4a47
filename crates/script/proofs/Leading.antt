-- A search that stops at the first byte that fails a test has passed as many as pass it in front.
use Rattle.std.proofs.Common.{◌≡◌, ℕ, ◌+◌, ◌<◌, ◌≤◌, Bool, true, false, List, length, get_or, drop, arith}
use Rattle.std.proofs.lemmas.List.Sums.{prefix_len-drop_yes, prefix_len-drop_no, prefix_len-drop_all}
use Rattle.std.specs.List.{prefix_len}

-- the first i of them pass
abbrev pub Passed : (ℕ → Bool) → List ℕ → ℕ → Type 0
Passed p xs i = prefix_len p xs ≡ i + prefix_len p (drop i xs)

module _ (p : ℕ → Bool) (xs : List ℕ) (i : ℕ) (h : Passed p xs i) where
  pub one_more : i < length xs → p (get_or xs i 0) ≡ true → Passed p xs (i + 1)
  one_more l e = omega (arith, prefix_len-drop_yes p xs i 0 l e)

  pub stopped : i < length xs → p (get_or xs i 0) ≡ false → i ≡ prefix_len p xs
  stopped l e = omega (arith, prefix_len-drop_no p xs i 0 l e)

  pub all_passed : length xs ≤ i → i ≤ length xs → length xs ≡ prefix_len p xs
  all_passed l m = omega (arith, prefix_len-drop_all p xs i l)
