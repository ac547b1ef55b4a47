-- What stands in the middle of a block: how many rounds are done, and which words are at hand. Assumes nothing.
use Rattle.std.specs.Prelude.{◌≡◌, ℕ, ◌+◌, ◌%◌, ◌<◌, List, [], ◌∷◌, map, length, slice_index}
use Rattle.sha256.specs.Words.{add, ssig0, ssig1}
use Rattle.sha256.specs.Sha256.{rounds, schedule}
use Rattle.sha256.specs.declared.rounds.Variables.{Variables}

-- the working variables, where `lane` is what a word is in the lane that is meant
abbrev pub values : {W : Type 0} → (W → ℕ) → Variables W → List ℕ
values lane v = lane v.a ∷ lane v.b ∷ lane v.c ∷ lane v.d ∷ lane v.e ∷ lane v.f ∷ lane v.g ∷ lane v.h ∷ []

-- t rounds are done on the hash value h, and the block's words are at hand
pub record Started (ws h : List ℕ) (t : ℕ) (vs w : List ℕ) : Type 0 where
  pub done : vs ≡ rounds ws h t
  pub all : w ≡ ws

-- the words from place n on, sixteen of them, word i at place i % 16
abbrev pub Ring : List ℕ → ℕ → List ℕ → Type 0
Ring ws n w = (j : ℕ) → j < 16 → slice_index w ((n + j) % 16) ≡ slice_index (schedule ws 48) (n + j)

-- n + 16 rounds are done, and as many words
pub record Done (ws h : List ℕ) (n : ℕ) (vs w : List ℕ) : Type 0 where
  pub done : vs ≡ rounds ws h (n + 16)
  pub ring : Ring ws n w
  pub sized : length w ≡ 16

-- in each lane, what is done with n more words at v and w is done with m more at v' and w'
abbrev pub DoesMore : {W : Type 0} → ℕ → (ℕ → W → ℕ) → ℕ → Variables W → List W → ℕ → Variables W → List W → Type 0
DoesMore lanes lane n v w m v' w' =
    (i : ℕ) (ws h : List ℕ) → i < lanes → length ws ≡ 16 → Done ws h n (values (lane i) v) (map (lane i) w) → Done ws h m (values (lane i) v') (map (lane i) w')

-- the next word, of the sixteen newest with the oldest at place i
abbrev pub next_in : List ℕ → ℕ → ℕ
next_in w i = add (add (add (ssig1 (slice_index w ((i + 14) % 16))) (slice_index w ((i + 9) % 16))) (ssig0 (slice_index w ((i + 1) % 16)))) (slice_index w i)
