-- Each digit goes on from the number so far; another byte, or a number that 64 bits do not hold, ends it.
use Rattle.std.proofs.Common.{◌≡◌, ◌+◌, ◌-◌, ◌*◌, get_or, drop, sym, ap, ◌∙◌, arith}
use Rattle.script.proofs.ReadDigits.{next_digit, no_digit, overflow, all_read}
use Rattle.script.proofs.number.value.Goals as goal
use Rattle.script.specs.Words.{onward}

pub returns-then-not-is_ascii_digit : goal.returns-then-not-is_ascii_digit
returns-then-not-is_ascii_digit c =
    sym (no_digit c.loop-b.n c.args.word.now c.loop-b.b-index (omega arith) (sym c.if-not-is_ascii_digit.ensures.value)) ∙ c.loop-b.invariant.0

pub returns-in_err-checked_mul : goal.returns-in_err-checked_mul
returns-in_err-checked_mul c =
    let digit = sym c.if-not-is_ascii_digit.ensures.value in
    c.from_residual.ensures ∙ sym (overflow c.loop-b.n c.args.word.now c.loop-b.b-index (omega arith) digit (omega (arith, c.in_err-checked_mul.ensures))) ∙ c.loop-b.invariant.0

pub returns-in_err-n : goal.returns-in_err-n
returns-in_err-n c =
    let digit = sym c.if-not-is_ascii_digit.ensures.value in
    let big = c.in_err-n.ensures in
    let ten = c.in_ok-checked_mul.ensures in
    c.from_residual-in_err-n.ensures ∙ sym (overflow c.loop-b.n c.args.word.now c.loop-b.b-index (omega arith) digit (omega (arith, big, ten))) ∙ c.loop-b.invariant.0

pub loop-b-preserved : goal.loop-b-preserved
loop-b-preserved c =
    let digit = sym c.if-not-is_ascii_digit.ensures.value in
    let ten = c.in_ok-checked_mul.ensures in
    let sum = c.in_ok-n.ensures in
    let i = c.loop-b.b-index in
    let e : c.in_ok-n.n ≡ c.loop-b.n * 10 + (get_or c.args.word.now i 0 - 48) = omega (arith, ten, sum) in
    (ap (λ n. onward n (drop (i + 1) c.args.word.now)) e ∙ sym (next_digit c.loop-b.n c.args.word.now i (omega arith) digit) ∙ c.loop-b.invariant.0, omega (arith, sum))

pub returns : goal.returns
returns c = sym (all_read c.loop-b.n c.args.word.now c.loop-b.b-index (omega arith) (omega arith)) ∙ c.loop-b.invariant.0
