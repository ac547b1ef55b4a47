-- A list in parts of one length: the parts of a file are its pieces, and those of a path as it is sent are its digests.
use Rattle.std.proofs.Common.{◌≡◌, ℕ, zero, suc, ◌+◌, ◌-◌, ◌*◌, ◌/◌, ◌<◌, ◌≤◌, min, List, [], ◌∷◌, ◌++◌, map, length, get_or, take, drop, sym, refl, ap, ◌∙◌, suc-add, mul-zero, zero-add, arith, length-append, length-drop, take-append-drop, length-take}
use lib.Lanes.{sum_l}
use Rattle.std.specs.List.{range_with_len, AllByRecursion}
use Rattle.std.proofs.lemmas.List.{drop-drop, take_at, drop_at, take-append-le, drop-append-le, nil_from_length}
use Rattle.std.proofs.ByRecursion.{All-take, All-drop}
use Rattle.bytetree.specs.Pieces.{parts, piece_count, piece_length, pieces}
use Rattle.bytetree.specs.ByteTree.{digests, joined_up}
use Rattle.bytetree.specs.Image.{PiecesAddUp}

module _ {X : Type 0} where
  -- There are k parts.
  pub length-parts : (n k : ℕ) (xs : List X) → length (parts n k xs) ≡ k
  unfolding parts
  length-parts n zero xs = refl
  length-parts n (suc k) xs = ap suc (length-parts n k (drop n xs))

  -- Part m begins after m parts.
  pub get_or-parts : (n k : ℕ) (xs : List X) (m : ℕ) (d : List X) → m < k → get_or (parts n k xs) m d ≡ take n (drop (n * m) xs)
  unfolding parts
  get_or-parts n zero xs m d h = absurd (omega arith)
  get_or-parts n (suc k) xs zero d h = rw mul-zero
  get_or-parts n (suc k) xs (suc m) d h =
      let e : n + n * m ≡ n * suc m = omega arith in
      get_or-parts n k (drop n xs) m d (omega arith) ∙ ap (take n) (drop-drop (n * m) n xs ∙ ap (λ i. drop i xs) e)

  -- Each part that ends within the list is n long.
  pub part_long : (n k : ℕ) (xs : List X) (m : ℕ) (d : List X) → m < k → n * suc m ≤ length xs → length (get_or (parts n k xs) m d) ≡ n
  part_long n k xs m d h l = rw (get_or-parts n k xs m d h) (simp (length-take, length-drop) (omega arith))

  -- If all of them do, then all are.
  pub parts-long : (n k : ℕ) (xs : List X) → n * k ≤ length xs → AllByRecursion (λ p. length p ≡ n) (parts n k xs)
  unfolding parts
  parts-long n zero xs h = tt
  parts-long n (suc k) xs h = (simp length-take (omega arith), parts-long n k (drop n xs) (simp length-drop (omega arith)))

  -- No part is longer than n.
  pub parts-short : (n k : ℕ) (xs : List X) → AllByRecursion (λ p. length p ≤ n) (parts n k xs)
  unfolding parts
  parts-short n zero xs = tt
  parts-short n (suc k) xs = (simp length-take (omega arith), parts-short n k (drop n xs))

  -- The parts of two lists joined where a part ends are those of the one and those of the other.
  pub parts-append : (n k j : ℕ) (xs ys : List X) → length xs ≡ n * k → parts n (k + j) (xs ++ ys) ≡ parts n k xs ++ parts n j ys
  unfolding parts
  parts-append n zero j xs ys e = rw (zero-add, nil_from_length xs (omega arith))
  parts-append n (suc k) j xs ys e =
      let l : n ≤ length xs = omega arith in
      rw (suc-add, take-append-le n xs ys l, drop-append-le n xs ys l) (ap {B = List (List X)} (λ r. take n xs ∷ r) (parts-append n k j (drop n xs) ys (simp length-drop (omega arith))))

  -- What holds of each element holds of each element of each part.
  pub all-parts : (P : X → Type 0) (n k : ℕ) (xs : List X) → AllByRecursion P xs → AllByRecursion (AllByRecursion P) (parts n k xs)
  unfolding parts
  all-parts P n zero xs h = tt
  all-parts P n (suc k) xs h = (All-take P n xs h, all-parts P n k (drop n xs) (All-drop P n xs h))

-- Parts that reach to the end make up the whole again.
pub joined-parts : (n k : ℕ) (xs : List ℕ) → length xs ≤ n * k → joined_up (parts n k xs) ≡ xs
unfolding parts joined_up
joined-parts n zero xs h = sym (nil_from_length xs (omega arith))
joined-parts n (suc k) xs h = rw (joined-parts n k (drop n xs) (simp length-drop (omega arith))) (take-append-drop n xs)

sum-from : (len k a : ℕ) → sum_l (map (piece_length len) (range_with_len a k)) ≡ min (16384 * k) (len - 16384 * a)
sum-from len zero a = omega arith
sum-from len (suc k) a = omega (arith, sum-from len k (a + 1))

-- The pieces of a file are the file, each as long as it should be, and their lengths add up.
pub pieces_add_up : PiecesAddUp
pieces_add_up = record {
  all = λ file. joined-parts 16384 (piece_count (length file)) file (omega arith);
  counted = λ file. length-parts 16384 (piece_count (length file)) file;
  sized = λ file m h. rw (get_or-parts 16384 (piece_count (length file)) file m [] h) (simp (length-take, length-drop));
  sum = λ len. omega (arith, sum-from len (piece_count len) 0);
}

-- The pieces of two files joined where a piece ends are those of the one and those of the other.
pub pieces-append : (a b : List ℕ) (k : ℕ) → length a ≡ 16384 * k → pieces (a ++ b) ≡ pieces a ++ pieces b
pieces-append a b k e =
    let first : piece_count (length a) ≡ k = omega arith in
    let both : piece_count (length (a ++ b)) ≡ k + piece_count (length b) = simp length-append (omega arith) in
    rw (first, both) (parts-append 16384 k (piece_count (length b)) a b e)

-- Each piece is no longer than 16,384 bytes.
pub pieces-short : (file : List ℕ) → AllByRecursion (λ p. length p ≤ 16384) (pieces file)
pieces-short file = parts-short 16384 (piece_count (length file)) file

-- The pieces of bytes are bytes.
pub pieces-bytes : (file : List ℕ) → AllByRecursion (λ b. b < 256) file → AllByRecursion (AllByRecursion (λ b. b < 256)) (pieces file)
pieces-bytes file = all-parts (λ b. b < 256) 16384 (piece_count (length file)) file

-- Digests that are joined up are 32 bytes for each.
pub length-joined : (ds : List (List ℕ)) → AllByRecursion (λ d. length d ≡ 32) ds → length (joined_up ds) ≡ 32 * length ds
unfolding joined_up
length-joined [] h = refl
length-joined (d ∷ ds) h = simp length-append (omega (arith, h.0, length-joined ds h.1))

parts-joined : (ds : List (List ℕ)) → AllByRecursion (λ d. length d ≡ 32) ds → parts 32 (length ds) (joined_up ds) ≡ ds
unfolding parts joined_up
parts-joined [] h = refl
parts-joined (d ∷ ds) h = cc (take_at d (joined_up ds) 32 h.0, drop_at d (joined_up ds) 32 h.0, parts-joined ds h.1)

-- Digests that are joined up come apart again.
pub digests_join : (ds : List (List ℕ)) → AllByRecursion (λ d. length d ≡ 32) ds → digests (joined_up ds) ≡ ds
digests_join ds h =
    let many : length (joined_up ds) / 32 ≡ length ds = omega (arith, length-joined ds h) in
    rw many (parts-joined ds h)

-- Bytes that come apart into digests with none left over are these joined up.
pub join_digests : (bs : List ℕ) → length bs ≡ 32 * (length bs / 32) → joined_up (digests bs) ≡ bs
join_digests bs e = joined-parts 32 (length bs / 32) bs (omega arith)

-- Each of the digests is 32 long.
pub digests-long : (bs : List ℕ) → AllByRecursion (λ d. length d ≡ 32) (digests bs)
digests-long bs = parts-long 32 (length bs / 32) bs (omega arith)

-- The digests of bytes are bytes.
pub digests-bytes : (bs : List ℕ) → AllByRecursion (λ b. b < 256) bs → AllByRecursion (AllByRecursion (λ b. b < 256)) (digests bs)
digests-bytes bs = all-parts (λ b. b < 256) 32 (length bs / 32) bs
