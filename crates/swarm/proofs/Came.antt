-- After a piece came, was asked for or was sent, just that piece is there, awaited and to be served which the step says.
use Rattle.std.proofs.Common.{◌≡◌, ℕ, pred, ◌+◌, ◌<◌, Bool, true, false, cond, not, ◌&&◌, ◌||◌, eqb, ltb, arith}
use Rattle.std.proofs.lemmas.Bool.Decides.{nat_tests}
use Rattle.swarm.specs.Honest.{Held, Nothing, Wants, wants}

-- which pieces are there after place m came, and was written if w
module _ (has : ℕ → Bool) (m : ℕ) (w : Bool) where
  pub has-came : w ≡ true → (has m || (eqb m m && w)) ≡ true
  has-came e = grind (arith, nat_tests)

  pub has_unwritten : (k : ℕ) → w ≡ false → (has k || (eqb k m && w)) ≡ has k
  has_unwritten k e = grind arith

  pub has_elsewhere : (k : ℕ) → (k ≡ m → ⊥) → (has k || (eqb k m && w)) ≡ has k
  has_elsewhere k ne = grind (arith, nat_tests)

-- what the pieces hold then, and what way is kept with each
module _ {A : Type 0} (has : ℕ → Bool) (m : ℕ) (w : Bool) (x : A) (holds : ℕ → A) where
  pub holds-came : w ≡ true → has m ≡ false → cond (eqb m m && (not (has m) && w)) x (holds m) ≡ x
  holds-came e lacks = grind (arith, nat_tests)

  pub holds_kept : (k : ℕ) → has k ≡ true → cond (eqb k m && (not (has m) && w)) x (holds k) ≡ holds k
  holds_kept k e = grind (arith, nat_tests)

  pub holds_unwritten : (k : ℕ) → w ≡ false → cond (eqb k m && (not (has m) && w)) x (holds k) ≡ holds k
  holds_unwritten k e = grind arith

  pub holds_elsewhere : (k : ℕ) → (k ≡ m → ⊥) → cond (eqb k m && (not (has m) && w)) x (holds k) ≡ holds k
  holds_elsewhere k ne = grind (arith, nat_tests)

-- of n that are awaited none is met by another piece
pub awaits_others : (q m k l n : ℕ) → ltb 0 n ≡ true → (k ≡ q → l ≡ m → ⊥) → ltb 0 (cond (eqb k q && eqb l m) (pred n) n) ≡ true
awaits_others q m k l n e ne = grind (arith, nat_tests)

-- n were awaited, a when one more was asked for, c when one came: as many as before, for nothing is awaited of one who is not near
pub awaits_met : (q m n : ℕ) (near : Bool) → (0 < n → near ≡ true) →
    (a c : ℕ) → a ≡ n + cond (eqb q q && (eqb m m && near)) 1 0 → c ≡ cond (eqb q q && eqb m m) (pred a) a → ltb 0 c ≡ ltb 0 n
awaits_met q m n near by a c ask come = grind (arith, nat_tests)

pub awaits-asked : (q m n : ℕ) (near : Bool) → near ≡ true → ltb 0 (n + cond (eqb q q && (eqb m m && near)) 1 0) ≡ true
awaits-asked q m n near e = grind (arith, nat_tests)

pub awaits-more : (n d : ℕ) → ltb 0 n ≡ true → ltb 0 (n + d) ≡ true
awaits-more n d e = grind (arith, nat_tests)

pub wants_is : (m : ℕ) (w : Held) → wants m w ≡ true → w ≡ Wants m
wants_is m w e = grind (arith, nat_tests)

pub wants-may : (q m : ℕ) (may : Bool) (w : Held) → may ≡ true → wants m (cond (eqb q q && may) (Wants m) w) ≡ true
wants-may q m may w e = grind (arith, nat_tests)

-- by an ask nothing else is wanted that wasn't before
pub wants-asked : (q m k l : ℕ) (may : Bool) (w : Held) → wants l (cond (eqb k q && may) (Wants m) w) ≡ true → (k ≡ q → l ≡ m → ⊥) → wants l w ≡ true
wants-asked q m k l may w e ne = grind (arith, nat_tests)

pub wants-sent : (l : ℕ) (b : Bool) (w : Held) → wants l (cond b Nothing w) ≡ true → wants l w ≡ true
wants-sent l b w e = grind arith

pub wants_sent_no_more : (q m : ℕ) (w : Held) → wants m (cond (eqb q q && wants m w) Nothing w) ≡ false
wants_sent_no_more q m w = grind (arith, nat_tests)
