-- The words of a line are the bytes of words after its first blanks, and then the words of what follows.
use Rattle.std.proofs.Common.{◌≡◌, ℕ, Bool, true, false, cond, eqb, List, [], ◌∷◌, length, take, drop, sym, refl, ap, ◌∙◌, subst, ap₂, one-add, arith}
use Rattle.script.specs.Words.{blank, in_word, goes_on, grown, words}
use Rattle.std.proofs.lemmas.Bool.{cond-true, eqb-true, false≢true}
use Rattle.std.proofs.lemmas.Bool.Decides.{nat_tests}
use Rattle.std.specs.List.{prefix_len}

-- a word in front of others, where it is one
abbrev pub put : List ℕ → List (List ℕ) → List (List ℕ)
put [] ws = []
put (b ∷ w) ws = (b ∷ w) ∷ ws

-- the bytes of a word in front, and what follows them
abbrev front : List ℕ → List ℕ
front xs = take (prefix_len in_word xs) xs

abbrev behind : List ℕ → List ℕ
behind xs = drop (prefix_len in_word xs) xs

-- what is left after the first blanks
abbrev unblank : List ℕ → List ℕ
unblank xs = drop (prefix_len blank xs) xs

-- where a byte of a word is in front, it is one of the first word
module _ (x : ℕ) (xs : List ℕ) (h : in_word x ≡ true) where
  front_more : front (x ∷ xs) ≡ x ∷ front xs
  front_more = rw (h, one-add)

  behind_more : behind (x ∷ xs) ≡ behind xs
  behind_more = rw (h, one-add)

  words_more : words (x ∷ xs) ≡ cond (goes_on xs) (grown x (words xs)) ((x ∷ []) ∷ words xs)
  unfolding words
  words_more = grind (arith, nat_tests)

  -- the first word goes on as far as bytes of words do
  word_in_front : cond (goes_on xs) (grown x (words xs)) ((x ∷ []) ∷ words xs) ≡ (x ∷ front xs) ∷ words (behind xs) → words (x ∷ xs) ≡ front (x ∷ xs) ∷ words (behind (x ∷ xs))
  word_in_front ih = words_more ∙ ih ∙ sym (ap₂ (λ f b. f ∷ words b) front_more behind_more)

grown-word : (x : ℕ) (xs : List ℕ) → cond (goes_on xs) (grown x (words xs)) ((x ∷ []) ∷ words xs) ≡ (x ∷ front xs) ∷ words (behind xs)
unfolding words
grown-word x [] = refl
grown-word x (y ∷ ys) = step (in_word y) refl (grown-word y ys)
  where
    step : (b : Bool) → in_word y ≡ b → cond (goes_on ys) (grown y (words ys)) ((y ∷ []) ∷ words ys) ≡ (y ∷ front ys) ∷ words (behind ys) →
        cond (goes_on (y ∷ ys)) (grown x (words (y ∷ ys))) ((x ∷ []) ∷ words (y ∷ ys)) ≡ (x ∷ front (y ∷ ys)) ∷ words (behind (y ∷ ys))
    step true e ih = cond-true (in_word y) _ _ e ∙ ap (grown x) (word_in_front y ys e ih)
    step false e ih = rw e

-- with no blank in front, the first word starts there, or there is none
word_or_none : (x : ℕ) (xs : List ℕ) → blank x ≡ false → words (x ∷ xs) ≡ put (front (x ∷ xs)) (words (behind (x ∷ xs)))
unfolding words
word_or_none x xs h = step (in_word x) refl
  where
    step : (b : Bool) → in_word x ≡ b → words (x ∷ xs) ≡ put (front (x ∷ xs)) (words (behind (x ∷ xs)))
    step true e = word_in_front x xs e (grown-word x xs) ∙ rw (front_more x xs e)
    step false e = let hash : eqb x 35 ≡ true = grind (arith, nat_tests) in rw (e, hash)

-- what first_word says, of what is left after the first blanks
abbrev Split : List ℕ → List ℕ → Type 0
Split xs left = words xs ≡ put (front left) (words (behind left))

first_split : (xs : List ℕ) → Split xs (unblank xs)
unfolding words
first_split [] = refl
first_split (x ∷ xs) = step (blank x) refl (first_split xs)
  where
    step : (b : Bool) → blank x ≡ b → Split xs (unblank xs) → Split (x ∷ xs) (unblank (x ∷ xs))
    step true e ih =
        let w : words (x ∷ xs) ≡ words xs = grind (arith, nat_tests) in
        let u : unblank (x ∷ xs) ≡ unblank xs = rw (e, one-add) in
        subst (Split (x ∷ xs)) (sym u) (w ∙ ih)
    step false e ih =
        let u : unblank (x ∷ xs) ≡ x ∷ xs = rw e in
        subst (Split (x ∷ xs)) (sym u) (word_or_none x xs e)

-- the first word of a line is what is cut off after its blanks
pub split_off : (xs line word rest : List ℕ) (i n : ℕ) → i ≡ prefix_len blank xs → line ≡ drop i xs → n ≡ prefix_len in_word line → word ≡ take n line → rest ≡ drop n line → words xs ≡ put word (words rest)
split_off xs line word rest i n blanks cut end first more =
    let at_word : line ≡ unblank xs = cut ∙ ap (λ n. drop n xs) blanks in
    subst (Split xs) (sym at_word) (first_split xs) ∙ sym (ap₂ (λ w r. put w (words r)) (first ∙ ap (λ n. take n line) end) (more ∙ ap (λ n. drop n line) end))

pub no_word : (w : List ℕ) (ws : List (List ℕ)) → true ≡ eqb (length w) 0 → put w ws ≡ []
no_word [] ws e = refl
no_word (b ∷ w) ws e = let long = eqb-true (length (b ∷ w)) 0 (sym e) in absurd (omega arith)

pub one_word : (w : List ℕ) (ws : List (List ℕ)) → false ≡ eqb (length w) 0 → put w ws ≡ w ∷ ws
one_word [] ws e = absurd (false≢true e)
one_word (b ∷ w) ws e = refl
