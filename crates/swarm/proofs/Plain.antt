-- A peer that keeps to the rules can be: the definitions themselves are one.
use Rattle.std.proofs.Common.{◌≡◌, ℕ, zero, suc, ◌<◌, Bool, true, false, cond, not, ◌&&◌, ◌||◌, ltb, List, ◌∷◌, refl, ◌∙◌, arith}
use Rattle.std.proofs.lemmas.Bool.Decides.{nat_tests}
use Rattle.std.proofs.lemmas.Bool.{or_left}
use Rattle.swarm.specs.Tree.{Dig}
use Rattle.swarm.specs.Turns.{is_in, first}
use Rattle.swarm.specs.Swarm.{Rules, size}
use Rattle.swarm.specs.Honest.{Seen, Same, Chosen, Fine, Honest, Plain}
use Rattle.swarm.specs.Honest.{starts, begun, joined, parted, disked, asking, came, asked, served, good}
use Rattle.swarm.proofs.InRow.{is_in-turned, is_in-without, is_in-first, length-turned, length_without, length-first, is_in-joins, length-joins, length-kept}

starts-fine : (r : Rules) (h : List ℕ) → Fine r (starts r h)
starts-fine r h = record { shuts_few = omega arith; links_few = omega arith; lets_few = omega arith; lets_near = λ q e. e; awaited_near = λ q m l. absurd (omega arith); held_let = λ q m e. grind arith }

begun-fine : (r : Rules) (s : Seen) → Fine r s → Fine r (begun (first s.rotation) s)
begun-fine r s f = record {
  shuts_few = f.shuts_few;
  links_few = let e = length-turned s.rotation in omega (arith, f.links_few);
  lets_few = length-first s.rotation;
  lets_near = λ q e. is_in-turned q s.rotation ∙ is_in-first q s.rotation e;
  awaited_near = λ q m l. is_in-turned q s.rotation ∙ f.awaited_near q m l;
  held_let = λ q m e. grind arith;
}

joined-fine : (r : Rules) (x : ℕ) (s : Seen) → Fine r s → Fine r (joined x s)
joined-fine r x s f = record {
  shuts_few = f.shuts_few;
  links_few = length-joins s.shuts x s.rotation f.links_few;
  lets_few = f.lets_few;
  lets_near = λ q e. is_in-joins s.shuts x q s.rotation (f.lets_near q e);
  awaited_near = λ q m l. is_in-joins s.shuts x q s.rotation (f.awaited_near q m l);
  held_let = f.held_let;
}

parted-fine : (r : Rules) (x : ℕ) (s : Seen) → Fine r s → Fine r (parted x s)
parted-fine r x s f = record {
  shuts_few = f.shuts_few;
  links_few = let e = length_without x s.rotation in omega (arith, f.links_few);
  lets_few = let e = length_without x s.lets in omega (arith, f.lets_few);
  lets_near = λ q e. let n = f.lets_near q in let a = is_in-without q x s.lets in let b = is_in-without q x s.rotation in grind arith;
  awaited_near = λ q m l. let n = f.awaited_near q m in let b = is_in-without q x s.rotation in grind arith;
  held_let = λ q m e. let h = f.held_let q m in let a = is_in-without q x s.lets in grind arith;
}

disked-fine : (r : Rules) (b : Bool) (s : Seen) → Fine r s → Fine r (disked b s)
disked-fine r b s f = record { shuts_few = f.shuts_few; links_few = f.links_few; lets_few = f.lets_few; lets_near = f.lets_near; awaited_near = f.awaited_near; held_let = f.held_let }

asking-fine : (r : Rules) (q m : ℕ) (s : Seen) → Fine r s → Fine r (asking q m s)
asking-fine r q m s f = record {
  shuts_few = f.shuts_few;
  links_few = f.links_few;
  lets_few = f.lets_few;
  lets_near = f.lets_near;
  awaited_near = λ k l a. let n = f.awaited_near k l in grind (arith, nat_tests);
  held_let = f.held_let;
}

came-fine : (r : Rules) (q m x : ℕ) (ps : List Dig) (s : Seen) → Fine r s → Fine r (came r q m x ps s)
came-fine r q m x ps s f = record {
  shuts_few = length-kept (is_in q s.shuts || good r q m x ps s) 4096 q s.shuts f.shuts_few;
  links_few = f.links_few;
  lets_few = f.lets_few;
  lets_near = f.lets_near;
  awaited_near = λ k l a. let n = f.awaited_near k l in grind arith;
  held_let = λ k l e. let h = f.held_let k l e in (h.0, h.1, or_left _ _ h.2);
}

asked-fine : (r : Rules) (q m : ℕ) (s : Seen) → Fine r s → Fine r (asked r q m s)
asked-fine r q m s f = record {
  shuts_few = f.shuts_few;
  links_few = f.links_few;
  lets_few = f.lets_few;
  lets_near = f.lets_near;
  awaited_near = f.awaited_near;
  held_let = λ k l e. let h = f.held_let k l in grind (arith, nat_tests);
}

served-fine : (r : Rules) (q m : ℕ) (s : Seen) → Fine r s → Fine r (served q m s)
served-fine r q m s f = record {
  shuts_few = f.shuts_few;
  links_few = f.links_few;
  lets_few = f.lets_few;
  lets_near = f.lets_near;
  awaited_near = f.awaited_near;
  held_let = λ k l e. let h = f.held_let k l in grind arith;
}

same : (s : Seen) → Same s s
same s = record { has = λ k. refl; holds = λ k. refl; ways = λ k. refl; writes = refl; shuts = refl; row = refl; rotation = refl; lets = refl; awaited = λ q m. refl; held = λ q. refl }

first_let : (q : ℕ) (qs row : List ℕ) → row ≡ q ∷ qs → is_in q (first row) ≡ true
unfolding is_in first
first_let q qs row e = rw e (grind arith)

-- to let the first of a row ask, and nobody else, is within what is said
first_chosen : (row : List ℕ) → Chosen row (first row)
first_chosen row = record { turn_in = λ q qs e. first_let q qs row e; few = length-first row; near = λ q e. is_in-first q row e }

-- the lowest place below n that is told and lacked, and n if there is none
lowest : (told has : ℕ → Bool) → ℕ → ℕ
lowest told has zero = zero
lowest told has (suc n) = cond (ltb (lowest told has n) n) (lowest told has n) (cond (told n && not (has n)) n (suc n))

lowest_found : (told has : ℕ → Bool) (n : ℕ) → lowest told has n < n → (told (lowest told has n) ≡ true) × (has (lowest told has n) ≡ false)
unfolding lowest
lowest_found told has zero l = absurd (omega arith)
lowest_found told has (suc n) l = let found = lowest_found told has n in grind (arith, nat_tests)

lowest_below : (told has : ℕ → Bool) (n m : ℕ) → m < n → told m ≡ true → has m ≡ false → lowest told has n < n
unfolding lowest
lowest_below told has zero m l t h = absurd (omega arith)
lowest_below told has (suc n) m l t h = let below = λ (k : m < n). lowest_below told has n m k t h in grind (arith, nat_tests)

lowest_lacking : (told has : ℕ → Bool) (n m : ℕ) → m < n → told m ≡ true → has m ≡ false → (lowest told has n < n) × (told (lowest told has n) ≡ true) × (has (lowest told has n) ≡ false)
lowest_lacking told has n m l t h = let below = lowest_below told has n m l t h in let found = lowest_found told has n below in (below, found.0, found.1)

pub plain : (r : Rules) (p : ℕ) → Honest r p (Plain r)
plain r p = record {
  see = λ s. s.0;
  first = λ h. (starts r h, starts-fine r h);
  begins = λ s. (begun (first s.0.rotation) s.0, begun-fine r s.0 s.1);
  joins = λ q s. (joined q s.0, joined-fine r q s.0 s.1);
  leaves = λ q s. (parted q s.0, parted-fine r q s.0 s.1);
  disk = λ b s. (disked b s.0, disked-fine r b s.0 s.1);
  asks = λ q t s. lowest t s.0.has (size r);
  ask = λ q m s. (asking q m s.0, asking-fine r q m s.0 s.1);
  comes = λ q m x ps s. (came r q m x ps s.0, came-fine r q m x ps s.0 s.1);
  asked_of = λ q m s. (asked r q m s.0, asked-fine r q m s.0 s.1);
  sent = λ q m s. (served q m s.0, served-fine r q m s.0 s.1);
  fine = λ s. s.1;
  first_so = λ h. same (starts r h);
  begins_so = λ s. same (begun (first s.0.rotation) s.0);
  begins_lets = λ s. first_chosen s.0.rotation;
  joins_so = λ q s. same (joined q s.0);
  leaves_so = λ q s. same (parted q s.0);
  disk_so = λ b s. same (disked b s.0);
  asks_lacking = λ q t s m. lowest_lacking t s.0.has (size r) m;
  ask_so = λ q m s. same (asking q m s.0);
  comes_so = λ q m x ps s. same (came r q m x ps s.0);
  asked_so = λ q m s. same (asked r q m s.0);
  sent_so = λ q m s. same (served q m s.0);
}
