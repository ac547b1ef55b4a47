-- How statements are written, and what is said of reading them. Assumes nothing.
use Rattle.std.specs.Prelude.{◌≡◌, ℕ, ◌^◌, ◌<◌, Bool, true, cond, ◌&&◌, ◌⊎◌, ◌↔◌, List, [], ◌∷◌, Some, Ok, codes, decimal, ◌==◌, nat_le}
use Rattle.script.specs.Statements.{most, most_rounds, statement}
use Rattle.script.specs.Words.{numeral}
use Rattle.script.specs.declared.statement.Statement.{Statement}
use Rattle.script.specs.declared.statement.Statement.TheVariants.{Peer, False, Link, Break, Rounds}

-- a word is a number just if it is how that number is written, in decimal and with no zeros in front
abbrev pub NumeralExact : Type 0
NumeralExact = (n : ℕ) (ds : List ℕ) → n < 2 ^ 64 → (numeral ds ≡ Some n) ↔ (ds ≡ decimal n)

-- the words by which a statement is written
abbrev pub written : Statement → List (List ℕ)
written (Peer n) = codes "peer" ∷ (decimal n ∷ [])
written (False n) = codes "false" ∷ (decimal n ∷ [])
written (Link a b t d) = codes "link" ∷ (decimal a ∷ (decimal b ∷ (codes "at" ∷ (decimal t ∷ (codes "delay" ∷ (decimal d ∷ []))))))
written (Break a b t) = codes "break" ∷ (decimal a ∷ (decimal b ∷ (codes "at" ∷ (decimal t ∷ []))))
written (Rounds n) = codes "rounds" ∷ (decimal n ∷ [])

-- the same with a delay of 1 left out
abbrev pub short : Statement → List (List ℕ)
short (Peer n) = written (Peer n)
short (False n) = written (False n)
short (Link a b t d) = cond (d == 1) (codes "link" ∷ (decimal a ∷ (decimal b ∷ (codes "at" ∷ (decimal t ∷ []))))) (written (Link a b t d))
short (Break a b t) = written (Break a b t)
short (Rounds n) = written (Rounds n)

-- are its numbers in range
abbrev pub in_range : (low high : ℕ) → ℕ → Bool
in_range low high n = nat_le low n && nat_le n high

abbrev pub proper : Statement → Bool
proper (Peer n) = in_range 1 most n
proper (False n) = in_range 1 most n
proper (Link a b t d) = in_range 1 most a && (in_range 1 most b && (in_range 0 most t && in_range 1 8 d))
proper (Break a b t) = in_range 1 most a && (in_range 1 most b && in_range 0 most t)
proper (Rounds n) = in_range 0 most_rounds n

-- what is written of a statement is read as that statement
abbrev pub WrittenRead : Type 0
WrittenRead = (s : Statement) → proper s ≡ true → (statement (written s) ≡ Ok s) × (statement (short s) ≡ Ok s)

-- the words are how a proper statement is written, but for a delay of 1 that may be left out
abbrev pub Spells : List (List ℕ) → Statement → Type 0
Spells ws s = (proper s ≡ true) × ((ws ≡ written s) ⊎ (ws ≡ short s))

-- nothing else is read as a statement
abbrev pub ReadWritten : Type 0
ReadWritten = (ws : List (List ℕ)) (s : Statement) → statement ws ≡ Ok s → Spells ws s
