-- The lines of a text, the words of a line, and the number that a word is. Assumes nothing.
use Rattle.std.specs.Prelude.{ℕ, ◌+◌, ◌-◌, ◌*◌, ◌^◌, Bool, false, cond, not, ◌&&◌, ◌||◌, List, [], ◌∷◌, length, Some, None, Option, ◌==◌, nat_lt, slice_index}
use Rattle.script.specs.declared.words.Lines.{Lines}
use Rattle.script.specs.declared.words.Words.{Words}
use Rattle.std.specs.List.{slice_split}
use Rattle.std.specs.Str.{all_ascii_digits}

-- a space, a tab or a carriage return
abbrev pub blank : ℕ → Bool
blank b = b == 32 || (b == 9 || b == 13)

-- a byte of a word: no blank, and no `#`, with which a comment starts
abbrev pub in_word : ℕ → Bool
in_word b = not (blank b) && not (b == 35)

-- does a word go on here
abbrev pub goes_on : List ℕ → Bool
goes_on [] = false
goes_on (b ∷ bs) = in_word b

-- the first word longer by a byte in front
abbrev pub grown : ℕ → List (List ℕ) → List (List ℕ)
grown b [] = (b ∷ []) ∷ []
grown b (w ∷ ws) = (b ∷ w) ∷ ws

-- the words of a line: its longest runs of such bytes, up to a comment
unfoldable pub words : List ℕ → List (List ℕ)
words [] = []
words (b ∷ bs) = cond (b == 35) [] (cond (blank b) (words bs) (cond (goes_on bs) (grown b (words bs)) ((b ∷ []) ∷ words bs)))

-- the words that are left
abbrev pub left : Words → List (List ℕ)
left w = words w.rest.now

-- the lines of a text: what stands between its line feeds
abbrev pub lines : List ℕ → List (List ℕ)
lines bs = slice_split (λ b. b == 10) bs

-- the lines that are left
abbrev pub lines_left : Lines → List (List ℕ)
lines_left l = elim l.rest [ Some text ↦ lines text.now | None ↦ [] ]

-- digits from the left, after the number so far
abbrev pub read_on : ℕ → List ℕ → ℕ
read_on n [] = n
read_on n (c ∷ cs) = read_on (n * 10 + (c - 48)) cs

-- digits, with no zero in front of others
abbrev pub plain : List ℕ → Bool
plain ds = all_ascii_digits ds && (nat_lt 0 (length ds) && (length ds == 1 || not (slice_index ds 0 == 48)))

-- the number of 64 bits that a word is
abbrev pub numeral : List ℕ → Option ℕ
numeral ds = cond (plain ds && nat_lt (read_on 0 ds) (2 ^ 64)) (Some (read_on 0 ds)) None

-- the number of 64 bits that digits write after the number so far
abbrev pub onward : ℕ → List ℕ → Option ℕ
onward n ds = cond (all_ascii_digits ds && nat_lt (read_on n ds) (2 ^ 64)) (Some (read_on n ds)) None
