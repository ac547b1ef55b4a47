-- A word is a number just if it is how that number is written.
use Rattle.std.proofs.Common.{◌≡◌, ℕ, zero, suc, ◌^◌, ◌<◌, Bool, true, false, cond, ◌&&◌, ltb, List, length, get_or, Some, None, decimal, sym, refl, ap, ◌∙◌, arith, rules}
use Rattle.script.specs.Laws.{NumeralExact}
use Rattle.script.specs.Words.{numeral, plain, read_on}
use Rattle.std.proofs.lemmas.Fmt.{decimal_digit, decimal-digits_value, decimal_nonempty, digits_decimal, first_decimal, digits_value-decimal}
use Rattle.std.proofs.lemmas.Str.Parse.{IsNumeralModel, numerals_by_fold, tells_all_ascii_digits}
use Rattle.std.proofs.lemmas.Bool.{and_from, and_parts, cond-true, lt-ltb, ltb-true}
use Rattle.std.proofs.lemmas.Bool.Decides.{nat_tests}
use Rattle.std.specs.Str.{all_ascii_digits}

digits : IsNumeralModel (λ ds. all_ascii_digits ds ≡ true) (read_on 0)
digits = numerals_by_fold _ tells_all_ascii_digits read_on (search rules)

told : (b : Bool) (v n : ℕ) → cond b (Some v) None ≡ Some n → (b ≡ true) × (v ≡ n)
told true v n e = (refl, cc)
told false v n e = absurd (let z : ◌≡◌ {A = ℕ} 0 1 = cc in omega arith)

pub is-written : (n : ℕ) (ds : List ℕ) → numeral ds ≡ Some n → ds ≡ decimal n
is-written n ds e =
    let t = told (plain ds && ltb (read_on 0 ds) (2 ^ 64)) (read_on 0 ds) n e in
    let p = and_parts (plain ds) (ltb (read_on 0 ds) (2 ^ 64)) t.0 in
    let all : all_ascii_digits ds ≡ true = grind (arith, nat_tests) in
    let some : 0 < length ds = grind (arith, nat_tests) in
    let zero : get_or ds 0 0 ≡ 48 → length ds ≡ 1 = λ z. grind (arith, nat_tests) in
    sym (decimal-digits_value digits ds all some zero (ltb-true _ _ p.1)) ∙ ap decimal t.1

-- a number below ten is one digit, and any other starts with no zero
plain_decimal : (n : ℕ) → n < 2 ^ 64 → plain (decimal n) ≡ true
plain_decimal zero h = ap plain (decimal_digit 0 (omega arith))
plain_decimal (suc n) h =
    let all = digits_decimal digits (suc n) h in
    let some = decimal_nonempty (suc n) h in
    let first = first_decimal (suc n) (omega arith) h in
    grind (arith, nat_tests)

pub numeral_decimal : (n : ℕ) → n < 2 ^ 64 → numeral (decimal n) ≡ Some n
numeral_decimal n h =
    let value = digits_value-decimal digits n h in
    let p = plain_decimal n h in
    let small = lt-ltb (read_on 0 (decimal n)) (2 ^ 64) (omega arith) in
    cond-true _ _ _ (and_from _ _ p small) ∙ ap (λ v. Some v) value

pub numeral_exact : NumeralExact
numeral_exact n ds h = (is-written n ds, λ e. ap numeral e ∙ numeral_decimal n h)
