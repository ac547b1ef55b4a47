-- What the search for a character from a text's end leaves after it.
use Rattle.std.proofs.Common.{◌≡◌, ◌≢◌, ◌==◌, ℕ, ◌+◌, ◌-◌, ◌<◌, ◌≤◌, List, not, length, get_or, drop, ap, ◌∙◌, arith, length-drop}
use Rattle.std.specs.Prelude.{Option, None, Some}
use Rattle.std.specs.Option.{MatchOption}
use Rattle.std.specs.List.{after_last, suffix_len}
use Rattle.std.specs.Str.{NoCharPasses}
use Rattle.std.proofs.lemmas.List.Sums.{suffix_len_is}
use Rattle.std.proofs.lemmas.Str.Pattern.{NoCharPasses-char}
use borrow.Author.Tests.{ne_eqb, eq-eqb}
use lib.Seq.{get_or-drop}

-- what stands from n on holds no c, and c stands before it
pub after_last_is : (c : ℕ) (text : List ℕ) (n : ℕ) → c < 128 → n ≤ length text → NoCharPasses (λ d. d == c) (drop n text)
    → (0 < n → get_or text (n - 1) 0 ≡ c) → drop n text ≡ after_last (λ b. b == c) text
after_last_is c text n low within free before =
    let later : (k : ℕ) → n ≤ k → k < length text → get_or text k 0 ≢ c = λ k a l e.
    let back : n + (k - n) ≡ k = omega arith in
    NoCharPasses-char c (drop n text) (k - n) free low (omega (arith, length-drop n text)) (get_or-drop n text (k - n) 0 ∙ ap (λ i. get_or text i 0) back ∙ e) in
    let long : suffix_len (λ b. not (b == c)) text ≡ length text - n = suffix_len_is (λ b. not (b == c)) text n 0 within
    (λ k a l. ap not (ne_eqb _ c (later k a l))) (λ some. ap not (eq-eqb _ c (before some))) in
    let from : n ≡ length text - suffix_len (λ b. not (b == c)) text = omega arith in
    ap (λ i. drop i text) from

-- two facts of one option, and what each of its cases makes of them
pub both_cases : {A : Type 0} (o : Option A) (P R G : Type 0) (Q S : A → Type 0) → (P → R → G) → ((x : A) → Q x → S x → G)
    → MatchOption o P Q → MatchOption o R S → G
both_cases None P R G Q S none some a b = none a b
both_cases (Some x) P R G Q S none some a b = some x a b
