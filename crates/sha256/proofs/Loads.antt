-- The words of a block, alone or in a lane.
use Rattle.std.proofs.Common.{◌≡◌, ℕ, zero, suc, ◌+◌, ◌*◌, ◌/◌, ◌<◌, List, [], ◌∷◌, length, get_or, drop, sym, ap, ap₂, refl, ◌∙◌, get_or-take, get_or-drop, add-zero, arith}
use Rattle.std.specs.Simd.{first_chunks}
use Rattle.std.proofs.lemmas.Grind.{same_number_lists}
use Rattle.std.proofs.lemmas.List.{length-map, get_or-map}
use Rattle.std.proofs.lemmas.Simd.{pick_l_whole}
use Rattle.sha256.specs.Lanes.{column, columns}
use Rattle.sha256.specs.Sha256.{word, words}
use Rattle.sha256.proofs.Schedules.{length-words, get_or_words}

-- A block has sixteen words.
pub length-block : (bs : List ℕ) → length bs ≡ 64 → length (words bs) ≡ 16
length-block bs m = length-words bs 16 m

-- A byte of a chunk of four, by its place among all.
pub get_or-chunks : (n : ℕ) (bs : List ℕ) (i j : ℕ) → i < n → j < 4 → get_or (get_or (first_chunks 4 n bs) i []) j 0 ≡ get_or bs (4 * i + j) 0
get_or-chunks zero bs i j h lt = absurd (omega arith)
get_or-chunks (suc n) bs zero j h lt = let there : j ≡ 4 * 0 + j = omega arith in get_or-take 4 bs j 0 lt ∙ ap (λ (k : ℕ). get_or bs k 0) there
get_or-chunks (suc n) bs (suc i) j h lt =
    let there : 4 + (4 * i + j) ≡ 4 * suc i + j = omega arith in
    get_or-chunks n (drop 4 bs) i j (omega arith) lt ∙ get_or-drop 4 bs (4 * i + j) 0 ∙ ap (λ (k : ℕ). get_or bs k 0) there

-- Words that are made of the chunks.
pub words-are : (bs ws : List ℕ) (fours : List (List ℕ)) → length bs ≡ 64 → fours ≡ first_chunks 4 (length bs / 4) bs → length ws ≡ 16 →
    ((i : ℕ) → i < 16 → get_or ws i 0 ≡ word (get_or (get_or fours i []) 0 0) (get_or (get_or fours i []) 1 0) (get_or (get_or fours i []) 2 0) (get_or (get_or fours i []) 3 0)) → ws ≡ words bs
words-are bs ws fours m front l each = same_number_lists ws (words bs) (l ∙ sym (length-block bs m)) at
  where
    at : (i : ℕ) → i < length ws → get_or ws i 0 ≡ get_or (words bs) i 0
    at i h =
        let byte : (j : ℕ) → j < 4 → get_or (get_or fours i []) j 0 ≡ get_or bs (4 * i + j) 0 = λ j k. rw front (get_or-chunks (length bs / 4) bs i j (omega (arith, h, l, m)) k) in
        let first : get_or (get_or fours i []) 0 0 ≡ get_or bs (4 * i) 0 = rw add-zero at (byte 0 (omega arith)) in
        cc (each i (omega (arith, h, l)), first, byte 1 (omega arith), byte 2 (omega arith), byte 3 (omega arith), get_or_words bs i (omega (arith, h, l, m)))

-- A lane of sixteen vectors, word by word.
pub column-is : (k : ℕ) (w : List (List ℕ)) (xs : List ℕ) → length w ≡ 16 → length xs ≡ 16 → ((i : ℕ) → i < 16 → get_or (get_or w i []) k 0 ≡ get_or xs i 0) → column k w ≡ xs
column-is k w xs l m each =
    let long = length-map w (λ (x : List ℕ). get_or x k 0) ∙ l in
    same_number_lists (column k w) xs (long ∙ sym m) (λ i h. get_or-map (λ (x : List ℕ). get_or x k 0) w i [] 0 (omega (arith, h, long)) ∙ each i (omega (arith, h, long)))

-- Each lane of sixteen vectors that are made across four rows of sixteen.
pub columns-are : (w rows : List (List ℕ)) → length rows ≡ 4 → ((k : ℕ) → k < 4 → length (get_or rows k []) ≡ 16) → length w ≡ 16 → ((i : ℕ) → i < 16 → get_or w i [] ≡ column i rows) → columns w ≡ rows
columns-are w rows l sized m across = ap₂ ◌∷◌ (lane 0 (omega arith)) (ap₂ ◌∷◌ (lane 1 (omega arith)) (ap₂ ◌∷◌ (lane 2 (omega arith)) (ap₂ ◌∷◌ (lane 3 (omega arith)) refl))) ∙ pick_l_whole [] rows 4 l
  where
    lane : (k : ℕ) → k < 4 → column k w ≡ get_or rows k []
    lane k h = column-is k w (get_or rows k []) m (sized k h) (λ i lt. ap (λ (x : List ℕ). get_or x k 0) (across i lt) ∙ get_or-map (λ (row : List ℕ). get_or row i 0) rows k [] 0 (omega (arith, l)))
