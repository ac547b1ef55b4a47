-- Each byte adds its two digits.
use Rattle.std.proofs.Common.{◌≡◌, ℕ, ◌+◌, ◌/◌, ◌%◌, ◌<◌, List, [], ◌∷◌, ◌++◌, length, get_or, take, refl, sym, ap, ◌∙◌, arith, rules}
use Rattle.std.proofs.Output.{has_written_append, has_written_of_eq}
use Rattle.std.proofs.lemmas.List.{take_more}
use Rattle.wire.specs.Hex.{hex_digit, hex_of}
use Rattle.wire.proofs.hex.HexDisplay.fmt.Goals as goal

hex_of-append : (xs ys : List ℕ) → hex_of (xs ++ ys) ≡ hex_of xs ++ hex_of ys
unfolding hex_of
hex_of-append [] ys = refl
hex_of-append (x ∷ xs) ys = ap (λ ds. hex_digit (x / 16) ∷ hex_digit (x % 16) ∷ ds) (hex_of-append xs ys)

more : (bs : List ℕ) (i : ℕ) → i < length bs → hex_of (take i bs) ++ (hex_digit (get_or bs i 0 / 16) ∷ hex_digit (get_or bs i 0 % 16) ∷ []) ≡ hex_of (take (i + 1) bs)
unfolding hex_of
more bs i h = sym (ap hex_of (take_more bs i 0 h) ∙ hex_of-append (take i bs) (get_or bs i 0 ∷ []))

pub loop-byte-init : goal.loop-byte-init
unfolding hex_of
loop-byte-init g c = search rules

pub loop-byte-preserved : goal.loop-byte-preserved
loop-byte-preserved g c = λ plain.
    has_written_of_eq _ _ _ _ _ (more c.args.self.now.0.now c.loop-byte.byte-index (omega arith)) (has_written_append _ _ _ _ _ _ (c.loop-byte.invariant plain) (search rules))
