-- A record has one form in bytes.
use Rattle.std.proofs.Common.{◌≡◌, ℕ, zero, suc, ◌-◌, ◌*◌, ◌%◌, ◌<◌, ◌≤◌, true, cond, eqb, List, [], ◌∷◌, ◌++◌, length, get_or, take, drop, replicate, Ok, Err, Result, sym, refl, ap, ◌∙◌, arith}
use Rattle.std.proofs.ByRecursion.{All-take}
use Rattle.std.proofs.lemmas.List.{append_assoc, drop_at, drop-drop, drop_more, get_or_at, length-append, length-drop, length-replicate, length-take-le, take-append-drop, take_at}
use Rattle.std.proofs.lemmas.Bool.{and_from, and_parts, cond-true, eq-eqb, eqb-true, le-leb, leb-true}
use Rattle.std.specs.Int.Digits.{AllBelowBase}
use Rattle.wire.specs.Laws.{ReadsWritten, WritesRead}
use Rattle.store.specs.Laws.{IsRecord}
use Rattle.store.specs.Records.{Recorded, all_zero, digests, is_path, read_record, record_bytes, record_of}
use Rattle.store.specs.declared.flaw.Flaw.{Flaw}
use Rattle.store.specs.declared.flaw.Flaw.TheVariants.{Size}
use Rattle.wire.proofs.NumberBytes.{bytes-number, number-bytes}
use Rattle.wire.proofs.Reading.{one_byte, whole_field}
use Rattle.wire.specs.Bytes.{number_of, bytes_of}
use Rattle.wire.specs.Formats.{IsField}

-- zeros are all 0
zeros_zero : (n : ℕ) → all_zero (replicate n 0) ≡ true
zeros_zero zero = refl
zeros_zero (suc n) = zeros_zero n

-- what is all 0 is zeros
zero_zeros : (xs : List ℕ) → all_zero xs ≡ true → xs ≡ replicate (length xs) 0
zero_zeros [] h = refl
zero_zeros (x ∷ xs) h =
    let both = and_parts _ _ h in
    rw (eqb-true x 0 both.0, ← zero_zeros xs both.1)

-- the bytes of a path that can be
path-size : (path : List ℕ) → is_path path ≡ true → (length path ≡ 32 * digests path) × (digests path ≤ 16)
path-size path h =
    let both = and_parts _ _ h in
    let whole = eqb-true (length path % 32) 0 both.0 in
    let few = leb-true (digests path) 16 both.1 in
    (omega arith, few)

-- the fields that a path and zeros are read from
fields_read : (r : Recorded) (n : ℕ) → is_path r.path ≡ true → record_of r.piece r.digest (digests r.path) (r.path ++ replicate n 0) ≡ Ok r
fields_read r n h =
    let s = path-size r.path h in
    rw (le-leb (digests r.path) 16 s.1, take_at r.path (replicate n 0) _ s.0, drop_at r.path (replicate n 0) _ s.0, zeros_zero n)

-- a block of such fields is read as them
fields_of : (p d : List ℕ) (n : ℕ) (rest bs : List ℕ) → bs ≡ p ++ (d ++ (n ∷ rest)) → length p ≡ 4 → length d ≡ 32 → length bs ≡ 1024 → read_record bs ≡ record_of (number_of p) d n rest
fields_of p d n rest bs e lp ld l =
    let front : bs ≡ (p ++ d) ++ (n ∷ rest) = e ∙ sym (append_assoc p d (n ∷ rest)) in
    let whole : bs ≡ ((p ++ d) ++ (n ∷ [])) ++ rest = front ∙ sym (append_assoc (p ++ d) (n ∷ []) rest) in
    let number : take 4 bs ≡ p = rw (e, take_at p _ 4 lp) in
    let digest : take 32 (drop 4 bs) ≡ d = rw (e, drop_at p _ 4 lp, take_at d _ 32 ld) in
    let count : get_or bs 36 0 ≡ n = rw (front, get_or_at (p ++ d) n rest 0 36 (simp length-append (omega arith))) in
    let after : drop 37 bs ≡ rest = rw (whole, drop_at ((p ++ d) ++ (n ∷ [])) rest 37 (simp length-append (omega arith))) in
    cond-true _ _ _ (eq-eqb _ 1024 l) ∙ rw (number, digest, count, after)

-- a block whose fields were read one after the other is read as them
pub fields_in : (bs p r0 d r1 c rest : List ℕ) → IsField 4 bs p r0 → IsField 32 r0 d r1 → IsField 1 r1 c rest → length bs ≡ 1024 → read_record bs ≡ record_of (number_of p) d (get_or c 0 0) rest
fields_in bs p r0 d r1 c rest hp hd hc l =
    let back : get_or c 0 0 ∷ rest ≡ r1 = ap (λ n. n ++ rest) (one_byte c hc.1) ∙ whole_field 1 r1 c rest hc in
    let whole : p ++ (d ++ (get_or c 0 0 ∷ rest)) ≡ bs = rw (back, whole_field 32 r0 d r1 hd) (whole_field 4 bs p r0 hp) in
    fields_of p d (get_or c 0 0) rest bs (sym whole) hp.1 hd.1 l

-- the block of a record has 1,024 bytes
sized : (r : Recorded) → IsRecord r → length (record_bytes r) ≡ 1024
sized r h =
    let s = path-size r.path h.2 in
    simp (length-append, length-replicate) (omega arith)

-- a record that is written is read back
pub record_read : ReadsWritten IsRecord record_bytes read_record
record_read r h =
    let n = 987 - length r.path in
    let same = number-bytes 4 r.piece h.0 in
    fields_of (bytes_of 4 r.piece) r.digest (digests r.path) (r.path ++ replicate n 0) (record_bytes r) refl refl h.1 (sized r h)
    ∙ ap (λ k. record_of k r.digest (digests r.path) (r.path ++ replicate n 0)) same ∙ fields_read r n h.2

-- the fields of which a record is made
fields_form : (p : ℕ) (d : List ℕ) (n : ℕ) (rest : List ℕ) (r : Recorded) → record_of p d n rest ≡ Ok r →
    (n ≤ 16) × (all_zero (drop (32 * n) rest) ≡ true) × (p ≡ r.piece) × (d ≡ r.digest) × (take (32 * n) rest ≡ r.path)
fields_form p d n rest r e = (grind arith, grind arith, grind arith, grind arith, grind arith)

-- the path and the zeros of such a record
path_form : (n : ℕ) (rest path : List ℕ) → n ≤ 16 → length rest ≡ 987 → all_zero (drop (32 * n) rest) ≡ true → take (32 * n) rest ≡ path →
    (is_path path ≡ true) × (digests path ≡ n) × (path ++ replicate (987 - length path) 0 ≡ rest)
path_form n rest path few l z e =
    let long : length path ≡ 32 * n = ap length (sym e) ∙ length-take-le (32 * n) rest (omega arith) in
    let count : digests path ≡ n = omega arith in
    let left : length (drop (32 * n) rest) ≡ 987 - length path = simp (length-drop, long) (omega arith) in
    let zeros : drop (32 * n) rest ≡ replicate (987 - length path) 0 = zero_zeros (drop (32 * n) rest) z ∙ ap (λ k. replicate k 0) left in
    (and_from _ _ (eq-eqb (length path % 32) 0 (omega arith)) (le-leb (digests path) 16 (omega arith)), count, rw (← zeros, ← e) (take-append-drop (32 * n) rest))

-- the fields of which a record is made are those of its bytes
fields_written : (p d : List ℕ) (n : ℕ) (rest : List ℕ) (r : Recorded) → length p ≡ 4 → length d ≡ 32 → length rest ≡ 987 → AllBelowBase 256 p → record_of (number_of p) d n rest ≡ Ok r →
    IsRecord r × (record_bytes r ≡ p ++ (d ++ (n ∷ rest)))
fields_written p d n rest r lp ld lr u e =
    let made = fields_form (number_of p) d n rest r e in
    let number = bytes-number 4 p lp u in
    let same : bytes_of 4 r.piece ≡ p = ap (bytes_of 4) (sym made.2) ∙ number.0 in
    let path = path_form n rest r.path made.0 lr made.1 made.4 in
    ((omega arith, ap length (sym made.3) ∙ ld, path.0), rw (← same, made.3, ← path.1, ← path.2))

-- bytes as the fields of a block
whole : (bs : List ℕ) → length bs ≡ 1024 → take 4 bs ++ (take 32 (drop 4 bs) ++ (get_or bs 36 0 ∷ drop 37 bs)) ≡ bs
whole bs l =
    let count : drop 36 bs ≡ get_or bs 36 0 ∷ drop 37 bs = drop_more bs 36 0 (omega arith) in
    let back : take 32 (drop 4 bs) ++ drop 36 bs ≡ drop 4 bs = rw (← drop-drop 32 4 bs) (take-append-drop 32 (drop 4 bs)) in
    rw (← count, back) (take-append-drop 4 bs)

-- only a block of 1,024 bytes is read
size_read : (n : ℕ) (read : Result Recorded Flaw) (r : Recorded) → cond (eqb n 1024) read (Err Size) ≡ Ok r → (n ≡ 1024) × (read ≡ Ok r)
size_read n read r e = (grind arith, grind arith)

-- what is read as a record is how it is written
pub record_written : WritesRead IsRecord record_bytes read_record
record_written bs r u e =
    let read = size_read (length bs) (record_of (number_of (take 4 bs)) (take 32 (drop 4 bs)) (get_or bs 36 0) (drop 37 bs)) r e in
    let l = read.0 in
    let w =
    fields_written (take 4 bs) (take 32 (drop 4 bs)) (get_or bs 36 0) (drop 37 bs) r (length-take-le 4 bs (omega arith)) (length-take-le 32 (drop 4 bs) (simp length-drop (omega arith)))
    (simp length-drop (omega arith)) (All-take (λ b. b < 256) 4 bs u) read.1 in
    (w.0, w.1 ∙ whole bs l)
