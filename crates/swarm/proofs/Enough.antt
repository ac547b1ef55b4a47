-- So many rounds are enough: the two theorems on rounds at a number of peers and pieces.
use Rattle.std.proofs.Common.{◌≡◌, ℕ, ◌-◌, ◌*◌, ◌<◌, Bool, true, sym, subst₂, le_of_eq}
use Rattle.swarm.proofs.AllDone.{all_done, all_done_within}
use Rattle.swarm.specs.Levels.{Enough, EnoughWithin}
use Rattle.swarm.specs.Swarm.{Rules}

-- true peers together have every piece
abbrev Together : Rules → (ℕ → ℕ → Bool) → ℕ → ℕ → Type 0
Together r s n P = (m : ℕ) → m < P → (p : ℕ) × (p < n) × (r.true' p ≡ true) × (s p m ≡ true)

-- each of them has every piece
abbrev Done : Rules → (ℕ → ℕ → Bool) → ℕ → ℕ → Type 0
Done r t n P = (p m : ℕ) → p < n → r.true' p ≡ true → m < P → t p m ≡ true

pub enough : (d n P k : ℕ) → k ≡ d * (n * P) → Enough d n P k
enough d n P k e r en eP sound s t rounds together =
    subst₂ (λ n P. k ≡ d * (n * P) → Together r s n P → Done r t n P) en eP (λ e together. all_done r d sound s t k rounds together (le_of_eq (sym e))) e together

pub enough_within : (d n P k : ℕ) → k ≡ d * (n * P - P) → EnoughWithin d n P k
enough_within d n P k e r en eP sound s t rounds together =
    subst₂ (λ n P. k ≡ d * (n * P - P) → Together r s n P → Done r t n P) en eP (λ e together. all_done_within r d k sound s t rounds together (le_of_eq (sym e))) e together
