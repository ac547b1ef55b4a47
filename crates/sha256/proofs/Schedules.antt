-- The schedule of a block by its places, and the words of a byte string by theirs.
use Rattle.std.proofs.Common.{◌≡◌, ℕ, zero, suc, ◌+◌, ◌-◌, ◌*◌, ◌<◌, ◌≤◌, List, [], ◌∷◌, ◌++◌, length, get_or, sym, refl, ap, ◌∙◌, add-zero, add-suc, arith}
use Rattle.std.proofs.lemmas.List.{get_or_append_left, get_or_push, length_push}
use Rattle.sha256.specs.Sha256.{word, words, next_word, schedule}

schedule_suc : (ws : List ℕ) (t : ℕ) → schedule ws (suc t) ≡ schedule ws t ++ (next_word (schedule ws t) t ∷ [])
unfolding schedule
schedule_suc ws t = refl

-- A schedule has a word more for each step.
pub length-schedule : (ws : List ℕ) (t : ℕ) → length (schedule ws t) ≡ length ws + t
unfolding schedule
length-schedule ws zero = omega arith
length-schedule ws (suc t) = omega (arith, length_push (schedule ws t) (next_word (schedule ws t) t), length-schedule ws t)

-- Further steps leave the words that are there.
pub schedule-stays : (ws : List ℕ) (t n i : ℕ) → i < length ws + t → get_or (schedule ws (t + n)) i 0 ≡ get_or (schedule ws t) i 0
schedule-stays ws t zero i h = rw add-zero
schedule-stays ws t (suc n) i h =
    let k = length-schedule ws (t + n) in
    rw (add-suc, schedule_suc) (get_or_append_left (schedule ws (t + n)) _ 0 i (omega arith) ∙ schedule-stays ws t n i h)

stays_upto : (ws : List ℕ) (t n i : ℕ) → t ≤ n → i < length ws + t → get_or (schedule ws t) i 0 ≡ get_or (schedule ws n) i 0
stays_upto ws t n i h k = let e : t + (n - t) ≡ n = omega arith in sym (rw e at (schedule-stays ws t (n - t) i k))

next_upto : (ws : List ℕ) (t n : ℕ) → length ws ≡ 16 → t < n → get_or (schedule ws n) (t + 16) 0 ≡ next_word (schedule ws n) t
next_upto ws t n e h =
    let k = length-schedule ws t in
    let a = stays_upto ws (suc t) n (t + 16) h (omega arith) in
    let b = ap (λ xs. get_or xs (t + 16) 0) (schedule_suc ws t) ∙ get_or_push (schedule ws t) (next_word (schedule ws t) t) 0 (t + 16) (omega arith) in
    let s : (i : ℕ) → i < 16 + t → get_or (schedule ws t) i 0 ≡ get_or (schedule ws n) i 0 = λ i l. stays_upto ws t n i (omega arith) (omega arith) in
    sym a ∙ b ∙ simp (s t (omega arith), s (t + 1) (omega arith), s (t + 9) (omega arith), s (t + 14) (omega arith))

-- Past the words of its block, each word of a schedule is made of four before it.
pub schedule-next : (ws : List ℕ) (t : ℕ) → length ws ≡ 16 → t < 48 → get_or (schedule ws 48) (t + 16) 0 ≡ next_word (schedule ws 48) t
schedule-next ws t = next_upto ws t 48

-- Four bytes make a word.
pub length-words : (bs : List ℕ) (n : ℕ) → length bs ≡ 4 * n → length (words bs) ≡ n
unfolding words
length-words [] n e = omega arith
length-words (a ∷ []) n e = absurd (omega arith)
length-words (a ∷ b ∷ []) n e = absurd (omega arith)
length-words (a ∷ b ∷ c ∷ []) n e = absurd (omega arith)
length-words (a ∷ b ∷ c ∷ d ∷ bs) zero e = absurd (omega arith)
length-words (a ∷ b ∷ c ∷ d ∷ bs) (suc n) e = ap suc (length-words bs n (omega arith))

-- Word i is made of the four bytes from 4 * i on.
pub get_or_words : (bs : List ℕ) (i : ℕ) → 4 * i + 4 ≤ length bs → get_or (words bs) i 0 ≡ word (get_or bs (4 * i) 0) (get_or bs (4 * i + 1) 0) (get_or bs (4 * i + 2) 0) (get_or bs (4 * i + 3) 0)
unfolding words
get_or_words [] i h = absurd (omega arith)
get_or_words (a ∷ []) i h = absurd (omega arith)
get_or_words (a ∷ b ∷ []) i h = absurd (omega arith)
get_or_words (a ∷ b ∷ c ∷ []) i h = absurd (omega arith)
get_or_words (a ∷ b ∷ c ∷ d ∷ bs) zero h = refl
get_or_words (a ∷ b ∷ c ∷ d ∷ bs) (suc i) h =
    let e : 4 * suc i ≡ suc (suc (suc (suc (4 * i)))) = omega arith in
    let f : (k : ℕ) → 4 * suc i + k ≡ suc (suc (suc (suc (4 * i + k)))) = λ k. omega arith in
    rw (f 1, f 2, f 3, e) (get_or_words bs i (omega arith))
