-- Whoever stays in the row has had the turn once as many rounds are over as the row is ever long.
use Rattle.std.proofs.Common.{◌≡◌, ℕ, List, ◌∷◌, ◌++◌, length, refl, ◌∙◌, ap₂}
use Rattle.rotation.specs.Rows.{Fair}
use Rattle.swarm.proofs.FairTurn.{fair-turn}
use Rattle.swarm.specs.Turns.{Change, is_in, first, next, turns}

pub fair : (row holder : List ℕ) (cs : List Change) (after : List ℕ) → holder ≡ first row → after ≡ next cs row → Fair row holder cs after
unfolding turns
fair row holder cs after eh ea q css here stay long =
    ap₂ (λ xs ys. is_in q (xs ++ turns ys css)) eh ea ∙ fair-turn (length (cs ∷ css)) q row (cs ∷ css) here stay long refl
