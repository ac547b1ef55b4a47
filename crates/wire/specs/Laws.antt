-- What is said of reading and writing a format: each thing has one form in bytes. Assumes nothing.
use Rattle.std.specs.Prelude.{◌≡◌, ℕ, ◌^◌, ◌<◌, true, List, length, Ok, Result}
use Rattle.std.specs.List.{AllByRecursion}
use Rattle.wire.specs.Formats.{Described, proper}
use Rattle.wire.specs.declared.settings.Settings.{Settings}

-- which descriptions and which settings there are
abbrev pub IsDescription : Described → Type 0
IsDescription d = (proper d ≡ true) × (length d.root ≡ 32)

abbrev pub IsSettings : Settings → Type 0
IsSettings s = (s.first_tick < 2 ^ 64) × (s.own_number < 2 ^ 64)

-- what is written is read back
abbrev pub ReadsWritten : {X E : Type 0} → (X → Type 0) → (X → List ℕ) → (List ℕ → Result X E) → Type 0
ReadsWritten {X} {E} Is write read = (x : X) → Is x → read (write x) ≡ Ok x

-- whatever is read is written back to the same bytes, so no two byte strings are read alike
abbrev pub WritesRead : {X E : Type 0} → (X → Type 0) → (X → List ℕ) → (List ℕ → Result X E) → Type 0
WritesRead {X} {E} Is write read = (bs : List ℕ) (x : X) → AllByRecursion (λ b. b < 256) bs → read bs ≡ Ok x → Is x × (write x ≡ bs)
