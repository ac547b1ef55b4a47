-- A stream that takes in a part has taken in that part behind the others.
use Rattle.std.proofs.Common.{◌≡◌, ℕ, zero, suc, ◌+◌, ◌*◌, ◌/◌, ◌%◌, ◌<◌, ◌≤◌, List, [], ◌∷◌, ◌++◌, length, get_or, take, drop, sym, refl, ap, ◌∙◌, subst, ap₂, arith}
use Rattle.std.proofs.lemmas.List.{length-append, drop-append-le, take_all, drop_all, drop-take, take-take, take-append-drop, append_assoc, append-nil}
use Rattle.std.specs.List.{flat_map}
use Rattle.std.specs.Simd.{first_chunks}
use Rattle.sha256.specs.Sha256.{hashed, compress, words}
use Rattle.sha256.specs.Streams.{Adds, Taken, after}
use Rattle.sha256.specs.declared.stream.Stream.{Stream}
use Rattle.sha256.proofs.Streams.{hashed_front, hashed-next}

-- A stream whose block has a part put behind what is at hand.
module _ (m part : List ℕ) (s t : Stream) (h : Taken m s) (more : t.count ≡ s.count + length part)
    (put : take (s.count % 64 + length part) t.rest ≡ take (s.count % 64) s.rest ++ part) where
  long : length (m ++ part) ≡ s.count + length part
  long = length-append m part ∙ ap (λ (k : ℕ). k + length part) (sym h.counted)

  joined : take (s.count % 64 + length part) t.rest ≡ drop (64 * (s.count / 64)) (m ++ part)
  joined =
      let fits : 64 * (s.count / 64) ≤ length m = omega (arith, h.counted) in
      let held : take (s.count % 64) s.rest ≡ drop (64 * (s.count / 64)) m = rw h.counted h.held in
      put ∙ ap (λ (xs : List ℕ). xs ++ part) held ∙ sym (drop-append-le (64 * (s.count / 64)) m part fits)

  before : s.value ≡ hashed (m ++ part) (s.count / 64)
  before =
      let fits : 64 * (length m / 64) ≤ length m = omega arith in
      h.hashes ∙ sym (hashed_front m part (length m / 64) fits) ∙ ap (λ (k : ℕ). hashed (m ++ part) (k / 64)) (sym h.counted)

  -- A part that leaves the block open.
  pub taken_within : s.count % 64 + length part < 64 → t.value ≡ s.value → Taken (m ++ part) t
  taken_within lt same =
      let blocks : length (m ++ part) / 64 ≡ s.count / 64 = omega (arith, long) in
      let left : length (m ++ part) % 64 ≡ s.count % 64 + length part = omega (arith, long) in
      record { hashes = rw blocks (same ∙ before); held = rw (blocks, left) joined; counted = more ∙ sym long }

  -- A part that fills the block.
  pub taken-whole : s.count % 64 + length part ≡ 64 → length t.rest ≡ 64 → t.value ≡ compress s.value (words t.rest) → Taken (m ++ part) t
  unfolding hashed
  taken-whole full l next =
      let blocks : length (m ++ part) / 64 ≡ suc (s.count / 64) = omega (arith, long) in
      let none : length (m ++ part) % 64 ≡ 0 = omega (arith, long) in
      let end : length (m ++ part) ≤ 64 * suc (s.count / 64) = omega (arith, long) in
      let here = take_all 64 t.rest (omega (arith, l)) in
      let filled : t.rest ≡ drop (64 * (s.count / 64)) (m ++ part) = sym here ∙ (rw full at joined) in
      let whole : t.rest ≡ take 64 (drop (64 * (s.count / 64)) (m ++ part)) = sym here ∙ ap (take 64) filled in
      record {
        hashes = rw blocks (next ∙ ap₂ (λ (v b : List ℕ). compress v (words b)) before whole);
        held = rw (blocks, none) (sym (drop_all (64 * suc (s.count / 64)) (m ++ part) end));
        counted = more ∙ sym long;
      }

-- The bytes of blocks.
abbrev pub flat : List (List ℕ) → List ℕ
flat blocks = flat_map (λ b. b) blocks

-- Each block has 64 bytes.
abbrev pub Whole : List (List ℕ) → Type 0
Whole blocks = (i : ℕ) → i < length blocks → length (get_or blocks i []) ≡ 64

flat_even : (blocks : List (List ℕ)) → Whole blocks → length (flat blocks) % 64 ≡ 0
flat_even [] w = refl
flat_even (b ∷ bs) w = omega (arith, length-append b (flat bs), w 0 (omega arith), flat_even bs (λ i h. w (suc i) (omega arith)))

-- Blocks behind whole blocks.
pub after-hashed : (m : List ℕ) (blocks : List (List ℕ)) → length m % 64 ≡ 0 → Whole blocks → after (hashed m (length m / 64)) blocks ≡ hashed (m ++ flat blocks) (length (m ++ flat blocks) / 64)
after-hashed m [] even w = ap (λ (xs : List ℕ). hashed xs (length xs / 64)) (sym (append-nil m))
after-hashed m (b ∷ bs) even w =
    let long : length b ≡ 64 = w 0 (omega arith) in
    ap (λ (v : List ℕ). after v bs) (sym (hashed-next m b even long))
    ∙ after-hashed (m ++ b) bs (omega (arith, length-append m b, long)) (λ i h. w (suc i) (omega arith))
    ∙ ap (λ (xs : List ℕ). hashed xs (length xs / 64)) (append_assoc m b (flat bs))

-- A stream takes in whole blocks where none is begun.
pub taken_blocks : (blocks : List (List ℕ)) (s t : Stream) → s.count % 64 ≡ 0 → Whole blocks → t.value ≡ after s.value blocks → t.count ≡ s.count + length (flat blocks) → Adds (flat blocks) s t
taken_blocks blocks s t even w next more = record { taken = taken; counted = more }
  where
    taken : (m : List ℕ) → Taken m s → Taken (m ++ flat blocks) t
    taken m h =
        let whole : length m % 64 ≡ 0 = omega (arith, h.counted) in
        let long = length-append m (flat blocks) in
        let none : length (m ++ flat blocks) % 64 ≡ 0 = omega (arith, long, flat_even blocks w) in
        let end : length (m ++ flat blocks) ≤ 64 * (length (m ++ flat blocks) / 64) = omega arith in
        record {
          hashes = next ∙ ap (λ (v : List ℕ). after v blocks) h.hashes ∙ after-hashed m blocks whole w;
          held = rw none (sym (drop_all (64 * (length (m ++ flat blocks) / 64)) (m ++ flat blocks) end));
          counted = more ∙ ap (λ (k : ℕ). k + length (flat blocks)) h.counted ∙ sym long;
        }

-- The same where there may be no blocks.
pub taken_some : (blocks : List (List ℕ)) (s t : Stream) → (0 < length blocks → s.count % 64 ≡ 0) → Whole blocks → t.value ≡ after s.value blocks → t.rest ≡ s.rest → t.count ≡ s.count + length (flat blocks) → Adds (flat blocks) s t
taken_some [] s t even w next same more = record {
  taken = λ m h. subst (λ (xs : List ℕ). Taken xs t) (sym (append-nil m)) (record { hashes = next ∙ h.hashes; held = ap (take (length m % 64)) same ∙ h.held; counted = omega (arith, more, h.counted) });
  counted = more;
}
taken_some (b ∷ bs) s t even w next same more = taken_blocks (b ∷ bs) s t (even (omega arith)) w next more

-- The bytes of the first blocks of a part.
pub flat-first_chunks : (k : ℕ) (xs : List ℕ) → flat (first_chunks 64 k xs) ≡ take (k * 64) xs
flat-first_chunks zero xs = refl
flat-first_chunks (suc k) xs =
    let n = 64 + k * 64 in
    let long : n ≡ suc k * 64 = omega arith in
    ap₂ ◌++◌ (sym (take-take 64 n xs (omega arith))) (flat-first_chunks k (drop 64 xs) ∙ sym (drop-take 64 (k * 64) xs))
    ∙ take-append-drop 64 (take n xs) ∙ ap (λ (j : ℕ). take j xs) long

-- A part is its blocks and what is left behind them.
pub cut : (part back : List ℕ) (blocks : List (List ℕ)) → blocks ≡ first_chunks 64 (length part / 64) part → back ≡ drop (length part / 64 * 64) part → part ≡ flat blocks ++ back
cut part back blocks p q =
    sym (take-append-drop (length part / 64 * 64) part) ∙ ap₂ ◌++◌ (sym (ap flat p ∙ flat-first_chunks (length part / 64) part)) (sym q)

-- How long the two are.
pub length-cut : (part back : List ℕ) (blocks : List (List ℕ)) → blocks ≡ first_chunks 64 (length part / 64) part → back ≡ drop (length part / 64 * 64) part → length (flat blocks) + length back ≡ length part
length-cut part back blocks p q = sym (ap length (cut part back blocks p q) ∙ length-append (flat blocks) back)

-- Parts one after the other.
pub adds_both : {p q whole : List ℕ} {r s t : Stream} → Adds p r s → Adds q s t → whole ≡ p ++ q → Adds whole r t
adds_both {p} {q} {whole} {r} {s} {t} a b e = record {
  taken = λ m h. subst (λ (xs : List ℕ). Taken xs t) (append_assoc m p q ∙ ap (λ (xs : List ℕ). m ++ xs) (sym e)) (b.taken (m ++ p) (a.taken m h));
  counted = omega (arith, a.counted, b.counted, length-append p q, ap length e);
}
