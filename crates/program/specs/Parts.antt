-- What it is that a function was given the parts of what a reader had.
use Rattle.std.specs.Prelude.{ℕ, List, Option, Result, Ok, Err}
use Rattle.std.specs.List.{FoldsTo, concat}
use Rattle.std.specs.Fn.{CalledAt, Mut}
use Rattle.std.specs.Io.KnownBytes.{Consumes, IsAtEnd}
use Rattle.program.specs.declared.reading.PartError.{PartError}
use Rattle.program.specs.declared.reading.PartError.TheVariants.{Unread, Refused}
use denote.Ref.{Bor}

-- a function that takes a part or refuses it
abbrev pub Takes : (F E : Type 0) → Type 1
Takes F E = Mut F (Bor (List ℕ) × Unit {0}) (Result (Unit {0}) E)

-- f was called at parts, one after the other, took each, and is then last; joined they are what the reader gave
abbrev pub TakesUpTo : {F E : Type 0} → Takes F E → (f last : F) → (old new : Option (List ℕ)) → Type 0
TakesUpTo g f last old new =
    (parts : List (List ℕ)) × FoldsTo (λ p x q. CalledAt g p x (Ok tt) q) f parts last × Consumes old new (concat parts)

-- it took all: nothing is left
abbrev pub TakesAll : {F E : Type 0} → Takes F E → F → (old new : Option (List ℕ)) → Type 0
TakesAll {F} g f old new = (last : F) × TakesUpTo g f last old new × IsAtEnd new

-- it took all but the last part that was read, which it refused with this error; or all but what was lost as the
-- reader failed
abbrev pub Stops : {F E : Type 0} → Takes F E → F → (old new : Option (List ℕ)) → PartError E → Type 0
Stops {F} g f old new (Unread x) =
    (last : F) × (left : Option (List ℕ)) × (lost : List ℕ) × TakesUpTo g f last old left × Consumes left new lost
Stops {F} g f old new (Refused e) =
    (last : F) × (left : Option (List ℕ)) × (part : List ℕ) × (after : F)
    × TakesUpTo g f last old left × Consumes left new part × CalledAt g last part (Err e) after
