-- The statement that the words of a line are, or what they should have been. Assumes nothing.
use Rattle.std.specs.Prelude.{◌≡◌, ℕ, Bool, cond, ◌&&◌, ◌||◌, List, [], ◌∷◌, Some, None, Ok, Err, codes, Result, MatchResult, nat_le}
use Rattle.script.specs.Words.{numeral}
use Rattle.script.specs.declared.statement.Expected.{Expected}
use Rattle.script.specs.declared.statement.Statement.{Statement}
use Rattle.std.specs.Str.{bytes_eq}

abbrev pub Read : Type 0
Read = Result Statement Expected

-- what is read of a part with what follows it: a result hands on what was taken, with the words that are left, and a fault is the whole's
abbrev pub Takes : {X : Type 0} → ((X → List (List ℕ) → Read) → Read) → List (List ℕ) → Result X Expected → Type 0
Takes {X} read left result = (next : X → List (List ℕ) → Read) → MatchResult result (λ x. read next ≡ next x left) (λ e. read next ≡ Err e)

-- is it that word
abbrev pub is : List ℕ → List ℕ → Bool
is w k = bytes_eq w k

-- the next word is a number from low to high, and with it the words after it are read; else something else was expected
abbrev pub number : (low high : ℕ) → Expected → List (List ℕ) → (ℕ → List (List ℕ) → Read) → Read
number low high e [] next = Err e
number low high e (w ∷ ws) next = elim (numeral w) [ Some n ↦ cond (nat_le low n && nat_le n high) (next n ws) (Err e) | None ↦ Err e ]

-- the most rounds that a script may ask for
abbrev pub most_rounds : ℕ
most_rounds = 4294967295

-- the most that 64 bits hold
abbrev pub most : ℕ
most = 18446744073709551615

-- the next word is this one
abbrev pub keyword : List ℕ → Expected → List (List ℕ) → (List (List ℕ) → Read) → Read
keyword k e [] next = Err e
keyword k e (w ∷ ws) next = cond (is w k) (next ws) (Err e)

-- the line ends here
abbrev pub ended : Statement → List (List ℕ) → Read
ended s [] = Ok s
ended s (w ∷ ws) = Err Expected.LineEnd

-- two peers' numbers, the word `at` and a tick
abbrev pub pair : List (List ℕ) → (ℕ → ℕ → ℕ → List (List ℕ) → Read) → Read
pair ws next =
    number 1 most Expected.PeerNumber ws (λ a ws. number 1 most Expected.PeerNumber ws (λ b ws.
    keyword (codes "at") Expected.At ws (λ ws. number 0 most Expected.Tick ws (λ t ws. next a b t ws))))

-- a delay from 1 to 8 ticks, and 1 where none is given
abbrev pub delay : List (List ℕ) → (ℕ → List (List ℕ) → Read) → Read
delay [] next = next 1 []
delay (w ∷ ws) next = keyword (codes "delay") Expected.Delay (w ∷ ws) (λ ws. number 1 8 Expected.DelayTicks ws next)

-- a statement of the language that is not played yet
abbrev pub later : List ℕ → Bool
later w = is w (codes "pieces") || (is w (codes "fall") || (is w (codes "disk") || is w (codes "say")))

abbrev pub statement : List (List ℕ) → Read
statement [] = Err Expected.Statement
statement (w ∷ ws) =
    cond (is w (codes "peer")) (number 1 most Expected.PeerNumber ws (λ n ws. ended (Statement.Peer n) ws))
    (cond (is w (codes "false")) (number 1 most Expected.PeerNumber ws (λ n ws. ended (Statement.False n) ws))
    (cond (is w (codes "link")) (pair ws (λ a b t ws. delay ws (λ d ws. ended (Statement.Link a b t d) ws)))
    (cond (is w (codes "break")) (pair ws (λ a b t ws. ended (Statement.Break a b t) ws))
    (cond (is w (codes "rounds")) (number 0 most_rounds Expected.Count ws (λ n ws. ended (Statement.Rounds n) ws))
    (cond (later w) (Err Expected.Played) (Err Expected.Statement))))))
