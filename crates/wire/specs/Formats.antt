-- Descriptions and settings as bytes, and what any byte string is read as. Assumes nothing.
use Rattle.std.specs.Prelude.{◌≡◌, ℕ, ◌+◌, ◌≤◌, Bool, cond, ◌&&◌, List, ◌∷◌, ◌++◌, length, take, drop, Ok, Err, Result, ◌==◌, nat_le, nat_lt}
use Rattle.merkle.specs.Lengths.{is_length}
use Rattle.wire.specs.Bytes.{number_of, bytes_of}
use Rattle.wire.specs.declared.damage.Damage.{Damage}
use Rattle.wire.specs.declared.damage.Damage.TheVariants.{Short, Kind, Length, Name, Round, Long}
use Rattle.wire.specs.declared.description.Description.{Description}
use Rattle.wire.specs.declared.settings.Settings.{Settings}

-- the next field, of n bytes, and what is made of it and of what follows it
abbrev pub field : {X : Type 0} → ℕ → List ℕ → (List ℕ → List ℕ → Result X Damage) → Result X Damage
field n bs next = cond (nat_lt (length bs) n) (Err Short) (next (take n bs) (drop n bs))

-- bytes begin with a field of n bytes, and this is what follows it
abbrev pub IsField : ℕ → List ℕ → List ℕ → List ℕ → Type 0
IsField n bs x rest = (n ≤ length bs) × (length x ≡ n) × (x ≡ take n bs) × (rest ≡ drop n bs) × (length rest + n ≡ length bs)

-- bytes with those of a field at a place, and all others as they were
abbrev pub with_field : ℕ → List ℕ → List ℕ → List ℕ
with_field at xs bs = take at bs ++ (xs ++ drop (at + length xs) bs)

-- what a description says: how long the file is, the root of its tree, and its name
pub record Described : Type 0 where
  pub len : ℕ
  pub root : List ℕ
  pub name : List ℕ

abbrev pub said : Description → Described
said d = record { len = d.length; root = d.root; name = d.name.now }

-- a description: 1, the length of the file, the root, the length of the name, and the name
abbrev pub description_bytes : Described → List ℕ
description_bytes d = 1 ∷ (bytes_of 8 d.len ++ (d.root ++ (length d.name ∷ d.name)))

abbrev pub description_size : Described → ℕ
description_size d = 42 + length d.name

-- can a file be so long, and a name
abbrev pub proper : Described → Bool
proper d = is_length d.len && nat_le (length d.name) 255

-- is it written to the front of what is there: it can be, and there is room
abbrev pub fits : Described → List ℕ → Bool
fits d out = proper d && nat_le (description_size d) (length out)

-- what is there then: the description and what was behind it, or all as it was
abbrev pub written : Described → List ℕ → List ℕ
written d out = cond (fits d out) (description_bytes d ++ drop (description_size d) out) out

-- what is read: the fields, in their order, and of whole ones first the length and then the name
abbrev pub description_of : (len root size name : List ℕ) → Result Described Damage
description_of len root size name =
    cond (is_length (number_of len)) (cond (length name == number_of size) (Ok (record { len = number_of len; root = root; name = name })) (Err Name)) (Err Length)

abbrev pub read_numbers : List ℕ → Result Described Damage
read_numbers bs = field 8 bs (λ len rest. field 32 rest (λ root rest. field 1 rest (λ size name. description_of len root size name)))

abbrev pub read_description : List ℕ → Result Described Damage
read_description bs = field 1 bs (λ kind rest. cond (number_of kind == 1) (read_numbers rest) (Err Kind))

-- settings: the length of a round in ticks, which is 64, the first tick and the own number
abbrev pub settings_bytes : Settings → List ℕ
settings_bytes s = bytes_of 2 64 ++ (bytes_of 8 s.first_tick ++ bytes_of 8 s.own_number)

-- what is read: the fields, in their order, and of whole ones first the round and then what follows
abbrev pub settings_of : (round first own rest : List ℕ) → Result Settings Damage
settings_of round first own rest =
    cond (number_of round == 64) (cond (length rest == 0) (Ok (record { first_tick = number_of first; own_number = number_of own })) (Err Long)) (Err Round)

abbrev pub read_settings : List ℕ → Result Settings Damage
read_settings bs = field 2 bs (λ round rest. field 8 rest (λ first rest. field 8 rest (λ own rest. settings_of round first own rest)))
