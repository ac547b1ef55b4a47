-- A description has one form in bytes.
use Rattle.std.proofs.Common.{◌≡◌, ℕ, ◌^◌, ◌<◌, true, cond, eqb, leb, List, [], ◌∷◌, ◌++◌, length, take, drop, Ok, Err, Result, sym, refl, ap, ◌∙◌, zero-add, arith}
use Rattle.merkle.specs.Lengths.{is_length}
use Rattle.std.proofs.lemmas.Bool.{and_from, and_parts, cond-true, eq-eqb, le-leb}
use Rattle.std.specs.Int.Digits.{AllBelowBase}
use Rattle.wire.proofs.Reading.{byte_number, field_of, field_read, front_field, one_byte}
use Rattle.wire.proofs.NumberBytes.{bytes-number, number-bytes}
use Rattle.wire.specs.Bytes.{number_of, bytes_of}
use Rattle.wire.specs.Formats.{Described, IsField, field, read_description, read_numbers, description_bytes, description_of}
use Rattle.wire.specs.declared.damage.Damage.{Damage}
use Rattle.wire.specs.declared.damage.Damage.TheVariants.{Kind}
use Rattle.wire.specs.Laws.{IsDescription, ReadsWritten, WritesRead}

-- a length that a file can have is below 256 ^ 8
small : (n : ℕ) → is_length n ≡ true → n < 256 ^ 8
small n h = grind arith

-- the fields of a description make it
fields_read : (d : Described) → IsDescription d → description_of (bytes_of 8 d.len) d.root (length d.name ∷ []) d.name ≡ Ok d
fields_read d h =
    let can = and_parts _ _ h.0 in
    rw (number-bytes 8 d.len (small d.len can.0), can.0, zero-add, eq-eqb (length d.name) (length d.name) refl)

-- a description is read of its fields, after a 1
fields_of : (bs kind r0 len r1 root r2 size name : List ℕ) → IsField 1 bs kind r0 → number_of kind ≡ 1 → IsField 8 r0 len r1 → IsField 32 r1 root r2 → IsField 1 r2 size name →
    read_description bs ≡ description_of len root size name
fields_of bs kind r0 len r1 root r2 size name k one l r s =
    field_of 1 bs kind r0 (λ kind rest. cond (eqb (number_of kind) 1) (read_numbers rest) (Err Kind)) k ∙ cond-true _ _ _ (eq-eqb _ 1 one)
    ∙ field_of 8 r0 len r1 (λ len rest. field 32 rest (λ root rest. field 1 rest (λ size name. description_of len root size name))) l
    ∙ field_of 32 r1 root r2 (λ root rest. field 1 rest (λ size name. description_of len root size name)) r
    ∙ field_of 1 r2 size name (λ size name. description_of len root size name) s

-- a description that is written is read back
pub description_read : ReadsWritten IsDescription description_bytes read_description
description_read d h =
    let len = bytes_of 8 d.len in
    let size : List ℕ = length d.name ∷ [] in
    fields_of (description_bytes d) (1 ∷ []) (len ++ (d.root ++ (size ++ d.name))) len (d.root ++ (size ++ d.name)) d.root (size ++ d.name) size d.name
    (front_field 1 (1 ∷ []) _ refl) refl (front_field 8 len _ refl) (front_field 32 d.root _ h.1) (front_field 1 size d.name refl)
    ∙ fields_read d h

-- the fields of which a description is made
fields_form : (len root size name : List ℕ) (d : Described) → description_of len root size name ≡ Ok d →
    (is_length d.len ≡ true) × (number_of len ≡ d.len) × (root ≡ d.root) × (number_of size ≡ length name) × (name ≡ d.name)
fields_form len root size name d e = (grind arith, grind arith, grind arith, grind arith, grind arith)

-- such fields, after a 1, are those of the description's bytes
fields_written : (len root size name : List ℕ) (d : Described) → length len ≡ 8 → length root ≡ 32 → length size ≡ 1 → AllBelowBase 256 len → AllBelowBase 256 size → description_of len root size name ≡ Ok d →
    IsDescription d × (description_bytes d ≡ 1 ∷ (len ++ (root ++ (size ++ name))))
fields_written len root size name d ll lr ls ul us e =
    let made = fields_form len root size name d e in
    let small = (bytes-number 1 size ls us).1 in
    let el : bytes_of 8 d.len ≡ len = ap (bytes_of 8) (sym made.1) ∙ (bytes-number 8 len ll ul).0 in
    let es : length name ∷ [] ≡ size = ap (λ n. n ∷ []) (sym made.3 ∙ byte_number size ls) ∙ one_byte size ls in
    let short : leb (length d.name) 255 ≡ true = rw (← made.4) (le-leb (length name) 255 (omega arith)) in
    ((and_from _ _ made.0 short, ap length (sym made.2) ∙ lr), rw (← el, ← es, made.2, made.4))

-- nothing is read after another first byte than 1
kind_read : (kind : ℕ) (read : Result Described Damage) (d : Described) → cond (eqb kind 1) read (Err Kind) ≡ Ok d → (kind ≡ 1) × (read ≡ Ok d)
kind_read kind read d e = (grind arith, grind arith)

-- the fields after the first byte
numbers_written : (bs : List ℕ) (d : Described) → AllBelowBase 256 bs → read_numbers bs ≡ Ok d → IsDescription d × (description_bytes d ≡ 1 ∷ bs)
numbers_written bs d u e =
    let len = field_read 8 bs (λ len rest. field 32 rest (λ root rest. field 1 rest (λ size name. description_of len root size name))) d u e in
    let after = drop 8 bs in
    let root = field_read 32 after (λ root rest. field 1 rest (λ size name. description_of (take 8 bs) root size name)) d len.0.back len.1 in
    let last = drop 32 after in
    let size = field_read 1 last (λ size name. description_of (take 8 bs) (take 32 after) size name) d root.0.back root.1 in
    let w =
    fields_written (take 8 bs) (take 32 after) (take 1 last) (drop 1 last) d len.0.sized root.0.sized size.0.sized len.0.front size.0.front size.1 in
    (w.0, w.1 ∙ rw (size.0.whole, root.0.whole, len.0.whole))

-- what is read as a description is how it is written
pub description_written : WritesRead IsDescription description_bytes read_description
description_written bs d u e =
    let kind = field_read 1 bs (λ kind rest. cond (eqb (number_of kind) 1) (read_numbers rest) (Err Kind)) d u e in
    let read = kind_read (number_of (take 1 bs)) (read_numbers (drop 1 bs)) d kind.1 in
    let w = numbers_written (drop 1 bs) d kind.0.back read.1 in
    let one : 1 ∷ [] ≡ take 1 bs = ap (λ n. n ∷ []) (sym read.0 ∙ byte_number (take 1 bs) kind.0.sized) ∙ one_byte (take 1 bs) kind.0.sized in
    (w.0, w.1 ∙ ap (λ xs. xs ++ drop 1 bs) one ∙ kind.0.whole)
