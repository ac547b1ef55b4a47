-- What is due happens one event after the other, and honest peers are seated one after the other.
use Rattle.std.proofs.Common.{◌≡◌, ℕ, suc, ◌+◌, ◌<◌, ◌≤◌, Bool, true, false, cond, leb, ltb, List, [], ◌∷◌, ◌++◌, length, Some, None, unwrap_or, get_or, take, drop, refl, sym, ap, ◌∙◌, append_assoc, arith, length-append}
use Rattle.arena.specs.Seats.{Seat, seat, seats, happens, happen_till, due_till, seated}
use Rattle.arena.specs.declared.node.Node.{Node}
use Rattle.script.specs.declared.sheet.Event.{Event}
use Rattle.script.specs.declared.sheet.Peer.{Peer}
use Rattle.std.proofs.lemmas.List.Recursion.{is_position_or_len}
use Rattle.std.proofs.lemmas.List.{at_drop_more, at_drop_all, map-append}
use Rattle.std.specs.List.{position_or_len, fold}
use Rattle.std.proofs.lemmas.Bool.{cond-true, cond-false}
use Rattle.std.proofs.lemmas.Bool.Decides.{nat_tests}

-- what the code reads past the end
abbrev pub no_peer : Peer
no_peer = record { id = 0; honest = false }

-- how many are due is the place of the first that is not
pub due_till-place : (t : ℕ) (es : List Event) → due_till t es ≡ position_or_len (λ e. ltb t e.at) es
unfolding due_till
due_till-place t = is_position_or_len (due_till t) (λ e. ltb t e.at) refl (λ e es. grind (arith, nat_tests))

-- the place of the first of them, or else how many there are
pub place_or_all : (p n : ℕ) → p ≤ n → unwrap_or (cond (ltb p n) (Some p) None) n ≡ p
place_or_all p n h = grind (arith, nat_tests)

-- those that are due happen one after the other
pub happened : (t : ℕ) (es : List Event) (ss : List Seat) → happen_till t es ss ≡ fold (λ rs e. happens e rs) ss (take (due_till t es) es)
unfolding happen_till due_till
happened t [] ss = refl
happened t (e ∷ es) ss = by_test (leb e.at t) (happened t es (happens e ss))
  where
    by_test : (due : Bool) → happen_till t es (happens e ss) ≡ fold (λ rs d. happens d rs) (happens e ss) (take (due_till t es) es) →
        cond due (happen_till t es (happens e ss)) ss ≡ fold (λ rs d. happens d rs) ss (take (cond due (suc (due_till t es)) 0) (e ∷ es))
    by_test true h = h
    by_test false h = refl

seated-next : (ps : List Peer) (i : ℕ) → i < length ps → seated (drop i ps) ≡
    cond (get_or ps i no_peer).honest (record { id = (get_or ps i no_peer).id; row = []; holder = [] } ∷ seated (drop (i + 1) ps)) (seated (drop (i + 1) ps))
unfolding seated
seated-next ps i h = at_drop_more seated ps i no_peer h

pub seated_end : (ps : List Peer) (i : ℕ) → length ps ≤ i → seated (drop i ps) ≡ []
unfolding seated
seated_end ps i l = at_drop_all seated ps i l

-- those of these nodes and of the rest of the peers are all
abbrev pub Seated : List Node → List Peer → ℕ → Type 0
Seated ns ps i = seats ns ++ seated (drop i ps) ≡ seated ps

module _ (ns ms : List Node) (ps : List Peer) (i : ℕ) (h : i < length ps) (inv : Seated ns ps i) where
  pub seated_honest : (n : Node) → (get_or ps i no_peer).honest ≡ true → seat n ≡ record { id = (get_or ps i no_peer).id; row = []; holder = [] } → ms ≡ ns ++ (n ∷ []) → Seated ms ps (i + 1)
  seated_honest n e s m =
      ap (λ (ks : List Node). seats ks ++ seated (drop (i + 1) ps)) m ∙ ap (λ ss. ss ++ seated (drop (i + 1) ps)) (map-append seat ns (n ∷ [])) ∙ append_assoc (seats ns) (seat n ∷ []) (seated (drop (i + 1) ps)) ∙
      ap (λ s. seats ns ++ (s ∷ seated (drop (i + 1) ps))) s ∙ ap (λ ss. seats ns ++ ss) (sym (seated-next ps i h ∙ cond-true _ _ _ e)) ∙ inv

  pub seated_faulty : (get_or ps i no_peer).honest ≡ false → ms ≡ ns → Seated ms ps (i + 1)
  seated_faulty e m = ap (λ (ks : List Node). seats ks ++ seated (drop (i + 1) ps)) m ∙ ap (λ ss. seats ns ++ ss) (sym (seated-next ps i h ∙ cond-false _ _ _ e)) ∙ inv

  -- where one is honest there is somebody to seat
  pub seated_some : (get_or ps i no_peer).honest ≡ true → 0 < length (seated ps)
  seated_some e =
      let all = ap length (sym inv) in let here = ap length (seated-next ps i h ∙ cond-true _ _ _ e) in omega (arith, length-append (seats ns) (seated (drop i ps)))
