-- The fields of a record that are written one after the other to a block, and the zeros behind them.
use Rattle.std.proofs.Common.{◌≡◌, ℕ, ◌-◌, ◌≤◌, List, [], ◌∷◌, ◌++◌, length, take, drop, replicate, refl, ap, ◌∙◌, arith}
use borrow.Rule.Slice.PartMut.{put_mid}
use Rattle.std.proofs.lemmas.List.{append_assoc, append-nil, drop_all, length-append, length-drop, take_at, take_rest}
use Rattle.store.specs.Records.{Recorded, digests, record_bytes}
use Rattle.wire.proofs.Writing.{Front}
use Rattle.wire.specs.Bytes.{bytes_of}

-- zeros from the end of what was written to the end of the block
pub zeros : (out xs z zs : List ℕ) (p : ℕ) → Front out xs z p → length xs ≤ length out → zs ≡ replicate (length (take (length z - p) (drop p z))) 0 →
    put_mid p (length z - p) z zs ≡ xs ++ replicate (length out - length xs) 0
zeros out xs z zs p f h e =
    let long : length z ≡ length out = ap length f.bytes ∙ simp (length-append, length-drop) (omega arith) in
    let left : length (take (length z - p) (drop p z)) ≡ length out - length xs = ap length (take_rest z p) ∙ length-drop p z ∙ omega (arith, f.place) in
    let back : drop (length z - p) (drop p z) ≡ [] = drop_all _ (drop p z) (simp length-drop (omega arith)) in
    let front : take p z ≡ xs = rw (f.bytes, f.place, take_at xs _ (length xs) refl) in
    rw (front, back, append-nil, e, left)

-- the fields, one behind the other, and the zeros are the record's bytes
pub one_after_other : (r : Recorded) (ps : List ℕ) (n : ℕ) → ps ≡ bytes_of 4 r.piece → n ≡ digests r.path → length r.digest ≡ 32 → (out : List ℕ) → length out ≡ 1024 →
    (((([] ++ ps) ++ r.digest) ++ (n ∷ [])) ++ r.path) ++ replicate (length out - length (((([] ++ ps) ++ r.digest) ++ (n ∷ [])) ++ r.path)) 0 ≡ record_bytes r
one_after_other r ps n p e l out o =
    let four : length ps ≡ 4 = ap length p in
    let left : length out - length (((([] ++ ps) ++ r.digest) ++ (n ∷ [])) ++ r.path) ≡ 987 - length r.path = simp length-append (omega arith) in
    rw left (simp append_assoc (rw (p, e) refl))
