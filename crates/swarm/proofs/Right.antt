-- Whatever a true peer has is the file's, no true peer is shut out, whoever sends what isn't so is, and what a true peer sends is taken.
use Rattle.std.proofs.Common.{◌≡◌, ℕ, suc, ◌<◌, Bool, true, false, cond, ◌&&◌, eqb, ◌⊎◌, get_or, sym, refl, subst₂, inl, inr, ⊎_elim, arith}
use Rattle.std.proofs.lemmas.Bool.{and_from, and_parts, both_ways, cases_Bool}
use Rattle.std.proofs.lemmas.Bool.Decides.{nat_tests}
use Rattle.swarm.proofs.Comes.{good, comes_cases}
use Rattle.swarm.proofs.Fits.{fits-right, right-fits}
use Rattle.swarm.specs.Promise.{Right, ShutRightly}
use Rattle.swarm.specs.Swarm.{Rules, World, Word, Missing, Has, Reach, begin, more, forgets, loses, comes, fits, at2, size}
use Rattle.swarm.specs.Tree.{way}

-- what may be had of a place
abbrev So : Rules → ℕ → ℕ → Type 0
So r m x = (m < size r) × (get_or r.file m (suc x) ≡ x)

-- a test that puts something at one place either did so there or left what was there
at2_cases : {A : Type 0} (i j : ℕ) (y : A) (f : ℕ → ℕ → A) (p m : ℕ) (P : A → Type 0) → (p ≡ i → m ≡ j → P y) → P (f p m) → P (at2 i j y f p m)
at2_cases i j y f p m P here there = by_test (eqb p i && eqb m j) (λ e. here (grind (arith, nat_tests)) (grind (arith, nat_tests)))
  where
    by_test : (b : Bool) → (b ≡ true → P y) → P (cond b y (f p m))
    by_test true h = h refl
    by_test false h = there

at2_here : {A : Type 0} (i j : ℕ) (y : A) (f : ℕ → ℕ → A) → at2 i j y f i j ≡ y
at2_here i j y f = grind (arith, nat_tests)

pub right : Right
right r w (begin v s f) p m x t h = s p m x t h
right r w (more {w = v} reach b s) p m x t h =
    ⊎_elim (λ so. so) (λ e. right r v reach p m x t e)
    (comes_cases r b v (λ u. u.got p m ≡ Has x → So r m x ⊎ (v.got p m ≡ Has x)) (λ _ e. inr e)
    (λ _ f. at2_cases b.to b.place (Has b.what) v.got p m (λ y. y ≡ Has x → So r m x ⊎ (v.got p m ≡ Has x)) (λ _ e k. inl (kept e k f)) inr) (λ _ _ e. inr e) h)
  where
    kept : m ≡ b.place → Has b.what ≡ Has x → good r b ≡ true → So r m x
    kept e k f = let same : b.what ≡ x = cc in subst₂ (So r) (sym e) same (fits-right r b.place b.what b.its_way (and_parts b.asked (fits r b.place b.what b.its_way) f).1)
right r w (forgets {w = v} reach q k) p m x t h = right r v reach p m x t h
right r w (loses {w = v} reach q k) p m x t h =
    right r v reach p m x t (at2_cases q k Missing v.got p m (λ y. y ≡ Has x → v.got p m ≡ Has x) (λ _ _ e. cc) (λ e. e) h)

-- what a true peer sends was asked for and fits
true_good : (r : Rules) (b : Word) → (b.place < size r) × (get_or r.file b.place (suc b.what) ≡ b.what) × (b.its_way ≡ way b.place r.file) × (b.asked ≡ true) → good r b ≡ true
true_good r b s = and_from b.asked (fits r b.place b.what b.its_way) s.3 (right-fits r b.place b.what b.its_way s.0 s.1 s.2)

true_false : {A : Type 0} {b : Bool} → b ≡ true → b ≡ false → A
true_false {b = b} h k = absurd (both_ways b k h)

-- no true peer is shut out
spared : (r : Rules) (w : World) → Reach r w → (p q : ℕ) → w.shut p q ≡ true → r.true' q ≡ false
spared r w (begin v s f) p q h = true_false h (f p q)
spared r w (more {w = v} reach b s) p q h =
    comes_cases r b v (λ u. u.shut p q ≡ true → r.true' q ≡ false) (λ _. spared r v reach p q) (λ _ _. spared r v reach p q)
    (λ _ f. at2_cases b.to b.from true v.shut p q (λ y. y ≡ true → r.true' q ≡ false) (λ _ e _. ⊎_elim (λ t. true_false (true_good r b (s (at_from e t))) f) (λ k. k) (cases_Bool (r.true' q))) (spared r v reach p q)) h
  where
    at_from : q ≡ b.from → r.true' q ≡ true → r.true' b.from ≡ true
    at_from e t = rw e at t
spared r w (forgets {w = v} reach i j) p q h = at2_cases i j false v.shut p q (λ y. y ≡ true → r.true' q ≡ false) (λ _ _ e. true_false e refl) (spared r v reach p q) h
spared r w (loses {w = v} reach i j) p q h = spared r v reach p q h

-- whoever sends what isn't so is shut out
banned : (r : Rules) (w : World) (b : Word) → w.shut b.to b.from ≡ false → good r b ≡ false → (comes r b w).shut b.to b.from ≡ true
banned r w b h f =
    comes_cases r b w (λ u. u.shut b.to b.from ≡ true) (λ e. e) (λ _ g. true_false g f) (λ _ _. at2_here b.to b.from true w.shut)

pub shut_rightly : ShutRightly
shut_rightly r w reach = (spared r w reach, λ b h f. banned r w b h f)

pub takes : (r : Rules) (w : World) → Reach r w → (b : Word) → r.true' b.from ≡ true → b.asked ≡ true → b.place < size r →
    get_or r.file b.place (suc b.what) ≡ b.what → b.its_way ≡ way b.place r.file → (comes r b w).got b.to b.place ≡ Has b.what
takes r w reach b t a l e p =
    comes_cases r b w (λ u. u.got b.to b.place ≡ Has b.what) (λ out. true_false t (spared r w reach b.to b.from out))
    (λ _ _. at2_here b.to b.place (Has b.what) w.got) (λ _ f. true_false (true_good r b (l, e, p, a)) f)
