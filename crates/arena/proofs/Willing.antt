-- A peer takes a link just if each of the peers that it may be does.
use Rattle.std.proofs.Common.{◌≡◌, ℕ, not, ◌&&◌, ◌||◌, Bool, eqb, List, refl}
use Rattle.arena.specs.Seats.{seats, willing}
use Rattle.arena.specs.declared.node.Node.{Node}
use Rattle.rotation.specs.Rows.{row, room}
use Rattle.std.proofs.lemmas.List.Recursion.{same_from_clauses}
use Rattle.std.specs.List.{list_all}

-- does this peer, if it is peer id, take a link to another
abbrev pub takes : (id other : ℕ) → Node → Bool
takes id other n = not (eqb n.id id) || room other (row n.rotation)

pub all-willing : (id other : ℕ) (ns : List Node) → list_all (takes id other) ns ≡ willing id other (seats ns)
unfolding willing
all-willing id other = same_from_clauses (list_all (takes id other)) (λ ns. willing id other (seats ns)) (λ n b. takes id other n && b) refl (λ _ _. refl) (λ _ _. refl)
