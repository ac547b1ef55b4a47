-- The leaf digests of a file that grows by whole pieces.
use Rattle.std.proofs.Common.{◌≡◌, ℕ, ◌+◌, ◌/◌, ◌%◌, ◌<◌, ◌≤◌, List, [], ◌∷◌, ◌++◌, map, length, get_or, sym, refl, ap, ◌∙◌, ap₂, arith}
use Rattle.std.proofs.lemmas.List.{map-append, take_all, length-append}
use Rattle.std.specs.Simd.{first_chunks}
use Rattle.bytetree.specs.Pieces.{parts, pieces, piece_count}
use Rattle.bytetree.specs.ByteTree.{leaf, leaves}
use Rattle.bytetree.proofs.Files.{pieces-append}

-- What follows whole pieces has its own digests behind theirs.
pub leaves-more : (file part : List ℕ) → length file % 16384 ≡ 0 → leaves (file ++ part) ≡ leaves file ++ leaves part
leaves-more file part even =
    ap (map leaf) (pieces-append file part (length file / 16384) (omega arith)) ∙ map-append leaf (pieces file) (pieces part)

-- At most one whole piece has one digest.
pub leaves_one : (piece : List ℕ) → 0 < length piece → length piece ≤ 16384 → leaves piece ≡ leaf piece ∷ []
unfolding parts
leaves_one piece some le =
    let one : piece_count (length piece) ≡ 1 = omega arith in
    ap (λ (k : ℕ). map leaf (parts 16384 k piece)) one ∙ ap (λ (p : List ℕ). leaf p ∷ []) (take_all 16384 piece le)

-- One piece more, as what was taken in.
pub one_taken : (file piece d : List ℕ) (ds es : List (List ℕ)) (n : ℕ) → n % 16384 ≡ 0 → n ≡ length file → 0 < length piece → length piece ≤ 16384 → ds ≡ leaves file → d ≡ leaf piece → es ≡ ds ++ (d ∷ []) → es ≡ leaves (file ++ piece)
one_taken file piece d ds es n even e some le p q r =
    let whole : length file % 16384 ≡ 0 = ap (λ (k : ℕ). k % 16384) (sym e) ∙ even in
    r ∙ ap₂ (λ (xs : List (List ℕ)) (x : List ℕ). xs ++ (x ∷ [])) p q ∙ ap (λ (xs : List (List ℕ)). leaves file ++ xs) (sym (leaves_one piece some le)) ∙ sym (leaves-more file piece whole)

-- So many bytes more.
pub count_more : (file part : List ℕ) (n : ℕ) → n ≡ length file → n + length part ≡ length (file ++ part)
count_more file part n e = ap (λ (k : ℕ). k + length part) e ∙ sym (length-append file part)

-- Four whole pieces have four digests.
pub leaves_four : (group : List ℕ) (pieces : List (List ℕ)) → length group ≡ 65536 → pieces ≡ first_chunks 16384 (length group / 16384) group →
    leaf (get_or pieces 0 []) ∷ (leaf (get_or pieces 1 []) ∷ (leaf (get_or pieces 2 []) ∷ (leaf (get_or pieces 3 []) ∷ []))) ≡ leaves group
unfolding parts
leaves_four group pieces long e =
    let four : length group / 16384 ≡ 4 = omega (arith, long) in
    let count : piece_count (length group) ≡ 4 = omega (arith, long) in
    rw (e, four, count) refl

-- A group of pieces, as what was taken in.
pub group_taken : (file group : List ℕ) (ds es : List (List ℕ)) (n : ℕ) → n % 16384 ≡ 0 → n ≡ length file → ds ≡ leaves file → es ≡ ds ++ leaves group → es ≡ leaves (file ++ group)
group_taken file group ds es n even e p q =
    let whole : length file % 16384 ≡ 0 = ap (λ (k : ℕ). k % 16384) (sym e) ∙ even in
    q ∙ ap (λ (xs : List (List ℕ)). xs ++ leaves group) p ∙ sym (leaves-more file group whole)
