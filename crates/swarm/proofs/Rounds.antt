-- When some have come and left in a round and the next has begun, only the row, the asks and what is awaited of those who left are others.
use Rattle.std.proofs.Common.{◌≡◌, ℕ, cond, List, [], ◌∷◌, sym, refl, ap, ◌∙◌, ap₂, arith}
use Rattle.std.proofs.lemmas.Bool.Decides.{nat_tests}
use Rattle.swarm.specs.Turns.{Change, Joins, Leaves, is_in, changed, turned, no_leave}
use Rattle.swarm.specs.Swarm.{Rules}
use Rattle.swarm.specs.Code.{taken}
use Rattle.swarm.specs.Honest.{Seen, Same, Honest, SettledAs, applied, begun, joined, parted, Nothing}
use Rattle.swarm.proofs.InRow.{row_after}
use Rattle.swarm.proofs.Taken.{after_more}

-- what coming, leaving and a round's beginning leave as it is
abbrev pub Stays : Seen → Seen → Type 0
Stays s t = record { has : (k : ℕ) → t.has k ≡ s.has k; holds : (k : ℕ) → t.holds k ≡ s.holds k; ways : (k : ℕ) → t.ways k ≡ s.ways k; writes : t.writes ≡ s.writes; shuts : t.shuts ≡ s.shuts }

stays_by : (s t : Seen) → Same t s → Stays s t
stays_by s t e = record { has = e.has; holds = e.holds; ways = e.ways; writes = e.writes; shuts = e.shuts }

stays_then : (s t u : Seen) → Stays s t → Stays t u → Stays s u
stays_then s t u e f = record { has = λ k. f.has k ∙ e.has k; holds = λ k. f.holds k ∙ e.holds k; ways = λ k. f.ways k ∙ e.ways k; writes = f.writes ∙ e.writes; shuts = f.shuts ∙ e.shuts }

row_after_same : (cs : List Change) (s t : Seen) → Same s t → row_after s.shuts cs s.rotation ≡ row_after t.shuts cs t.rotation
row_after_same cs s t e = ap₂ (λ shuts row. row_after shuts cs row) e.shuts e.rotation

module _ {State : Type 0} (r : Rules) (p : ℕ) (h : Honest r p State) where
  -- some come and leave, and then a round begins
  unfoldable pub rounded : List Change → State → State
  rounded cs s = h.begins (applied h cs s)

  applied-stays : (cs : List Change) (s : State) → Stays (h.see s) (h.see (applied h cs s))
  unfolding applied
  applied-stays [] s = record { has = λ k. refl; holds = λ k. refl; ways = λ k. refl; writes = refl; shuts = refl }
  applied-stays (Joins x ∷ cs) s = let t = h.joins x s in stays_then (h.see s) (h.see t) (h.see (applied h cs t)) (stays_by (joined x (h.see s)) (h.see t) (h.joins_so x s)) (applied-stays cs t)
  applied-stays (Leaves x ∷ cs) s = let t = h.leaves x s in stays_then (h.see s) (h.see t) (h.see (applied h cs t)) (stays_by (parted x (h.see s)) (h.see t) (h.leaves_so x s)) (applied-stays cs t)

  pub rounded_stays : (cs : List Change) (s : State) → Stays (h.see s) (h.see (rounded cs s))
  unfolding rounded
  rounded_stays cs s = let t = applied h cs s in let u = h.begins t in
      stays_then (h.see s) (h.see t) (h.see u) (applied-stays cs s) (stays_by (begun (h.see u).lets (h.see t)) (h.see u) (h.begins_so t))

  applied-rotation : (cs : List Change) (s : State) → (h.see (applied h cs s)).rotation ≡ row_after (h.see s).shuts cs (h.see s).rotation
  unfolding applied changed taken
  applied-rotation [] s = refl
  applied-rotation (Joins x ∷ cs) s = let t = h.joins x s in
      applied-rotation cs t ∙ row_after_same cs (h.see t) (joined x (h.see s)) (h.joins_so x s) ∙ sym (after_more (λ q. is_in q (h.see s).shuts) (Joins x) cs (h.see s).rotation)
  applied-rotation (Leaves x ∷ cs) s = let t = h.leaves x s in applied-rotation cs t ∙ row_after_same cs (h.see t) (parted x (h.see s)) (h.leaves_so x s)

  -- what was asked for on a link that ended is awaited no more
  applied-awaited : (cs : List Change) (s : State) (k l : ℕ) → (h.see (applied h cs s)).awaited k l ≡ cond (no_leave k cs) ((h.see s).awaited k l) 0
  unfolding applied no_leave
  applied-awaited [] s k l = refl
  applied-awaited (Joins x ∷ cs) s k l = let i = applied-awaited cs (h.joins x s) k l in let e = (h.joins_so x s).awaited k l in rw e at i
  applied-awaited (Leaves x ∷ cs) s k l = let i = applied-awaited cs (h.leaves x s) k l in let e = (h.leaves_so x s).awaited k l in grind (arith, nat_tests)

  pub rounded_row : (cs : List Change) (s : State) → (h.see (rounded cs s)).row ≡ row_after (h.see s).shuts cs (h.see s).rotation
  unfolding rounded
  rounded_row cs s = (h.begins_so (applied h cs s)).row ∙ applied-rotation cs s

  pub rounded_awaited : (cs : List Change) (s : State) (k l : ℕ) → (h.see (rounded cs s)).awaited k l ≡ cond (no_leave k cs) ((h.see s).awaited k l) 0
  unfolding rounded
  rounded_awaited cs s k l = (h.begins_so (applied h cs s)).awaited k l ∙ applied-awaited cs s k l

  pub rounded_held : (cs : List Change) (s : State) (k : ℕ) → (h.see (rounded cs s)).held k ≡ Nothing
  unfolding rounded
  rounded_held cs s k = (h.begins_so (applied h cs s)).held k

  -- nobody came or left since the round began
  pub rounded_settled : (cs : List Change) (s : State) → SettledAs (h.see (rounded cs s))
  unfolding rounded
  rounded_settled cs s = let t = applied h cs s in ((h.begins_so t).rotation ∙ ap turned (sym (h.begins_so t).row), λ q qs e. (h.begins_lets t).turn_in q qs (sym (h.begins_so t).row ∙ e))
