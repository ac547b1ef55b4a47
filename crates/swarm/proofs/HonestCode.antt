-- A peer that keeps to the rules does what the code of a peer must do.
use Rattle.std.proofs.Common.{ℕ, not, ◌&&◌, eqb, ltb, List, sym, refl, ap, ◌∙◌, arith, lit<}
use Rattle.std.proofs.lemmas.Bool.{and_left, and_right, and_from, or_left, or_right, not_from_false, cond-true, cond-false, false≢true, lt-ltb}
use Rattle.swarm.specs.Turns.{is_in, turned, no_leave}
use Rattle.swarm.specs.Swarm.{Rules, size}
use Rattle.swarm.specs.Code.{Code}
use Rattle.swarm.specs.Honest.{wants, Seen, Same, Honest, SettledAs, SettledState, Over, starts, disked, asking, good, came, may, asked, served}
use Rattle.swarm.proofs.InRow.{is_in-turned, row_after, is_in_kept_new, is_in-kept-stays, is_in_kept_others}
use Rattle.swarm.proofs.Rounds.{rounded, rounded_stays, rounded_row, rounded_awaited, rounded_held, rounded_settled}
use Rattle.swarm.proofs.Came.{has-came, has_unwritten, has_elsewhere, holds-came, holds_kept, holds_unwritten, holds_elsewhere}
use Rattle.swarm.proofs.Came.{awaits_others, awaits_met, awaits-asked, awaits-more, wants_is, wants-may, wants-asked, wants-sent, wants_sent_no_more}

settled_same : (t s : Seen) → Same t s → SettledAs s → SettledAs t
settled_same t s e f = (e.rotation ∙ f.0 ∙ ap turned (sym e.row), λ q qs i. ap (is_in q) e.lets ∙ f.1 q qs (sym e.row ∙ i))

starts_settled : (r : Rules) (b : List ℕ) → SettledAs (starts r b)
starts_settled r b = (refl, λ q qs e. grind arith)

module _ {State : Type 0} (r : Rules) (p : ℕ) (h : Honest r p State) where
  abbrev see : SettledState h → Seen
  see s = h.see s.0

  -- a state that is settled since what it is seen as is
  abbrev settled : (t : State) (u : Seen) → Same (h.see t) u → SettledAs u → SettledState h
  settled t u e f = (t, settled_same (h.see t) u e f)

  pub code_of : Code r p (SettledState h)
  code_of = record {
    has = λ s. (see s).has;
    holds = λ s. (see s).holds;
    ways = λ s. (see s).ways;
    writes = λ s. (see s).writes;
    disk = λ b s. settled (h.disk b s.0) (disked b (see s)) (h.disk_so b s.0) s.1;
    shut = λ s q. is_in q (see s).shuts;
    shuts = λ s. (see s).shuts;
    row = λ s. (see s).row;
    rounds = λ cs s. (rounded r p h cs s.0, rounded_settled r p h cs s.0);
    lets = λ s. (see s).lets;
    asks = λ q t s. h.asks q t s.0;
    ask = λ q m s. settled (h.ask q m s.0) (asking q m (see s)) (h.ask_so q m s.0) s.1;
    awaits = λ q m s. ltb 0 ((see s).awaited q m);
    comes = λ q m x ps s. settled (h.comes q m x ps s.0) (came r q m x ps (see s)) (h.comes_so q m x ps s.0) s.1;
    asked_of = λ q m s. settled (h.asked_of q m s.0) (asked r q m (see s)) (h.asked_so q m s.0) s.1;
    serves = λ q m s. wants m ((see s).held q);
    sent = λ q m s. settled (h.sent q m s.0) (served q m (see s)) (h.sent_so q m s.0) s.1;
    first = λ b. settled (h.first b) (starts r b) (h.first_so b) (starts_settled r b);
    first_so = λ b. let e = h.first_so b in (e.row, e.shuts, λ m l. e.has m ∙ ap (λ x. x && is_in m b) (lt-ltb m (size r) l), λ q m. ap (ltb 0) (e.awaited q m));
    first_brings = λ b. let e = h.first_so b in (e.writes, λ m l i. let here = and_from _ _ (lt-ltb m (size r) l) i in (e.holds m ∙ cond-true _ _ _ here, e.ways m ∙ cond-true _ _ _ here), λ q m. ap (wants m) (e.held q));
    disk_so = λ b s. let e = h.disk_so b s.0 in (e.writes, λ k. (e.has k, e.holds k, e.ways k), λ k l. (ap (wants l) (e.held k), ap (ltb 0) (e.awaited k l)), e.shuts, e.row);
    writes_stay = λ cs q m x ps s. ((rounded_stays r p h cs s.0).writes, (h.asked_so q m s.0).writes, (h.comes_so q m x ps s.0).writes, (h.sent_so q m s.0).writes);
    ways_stay = λ cs q m s k. ((rounded_stays r p h cs s.0).ways k, (h.ask_so q m s.0).ways k, (h.asked_so q m s.0).ways k, (h.sent_so q m s.0).ways k);
    serves_has = λ q m s e. let f = (h.fine s.0).held_let q m (wants_is m ((see s).held q) e) in (f.1, f.2);
    serves_new = λ cs q m x ps k l s. (
      λ e. absurd (false≢true (sym (ap (wants l) (rounded_held r p h cs s.0 k)) ∙ e)),
      λ e. sym (ap (wants l) ((h.ask_so q m s.0).held k)) ∙ e,
      λ e. sym (ap (wants l) ((h.comes_so q m x ps s.0).held k)) ∙ e,
      λ e. wants-sent l (eqb k q && wants m ((see s).held q)) ((see s).held k) (sym (ap (wants l) ((h.sent_so q m s.0).held k)) ∙ e),
      λ e. wants-asked q m k l (may r q m (see s)) ((see s).held k) (sym (ap (wants l) ((h.asked_so q m s.0).held k)) ∙ e),
    );
    sent_so = λ q m s. let e = h.sent_so q m s.0 in (ap (wants m) (e.held q) ∙ wants_sent_no_more q m ((see s).held q), λ k. (e.has k, e.holds k), e.shuts, e.row);
    shut_is = λ s q. refl;
    shuts_few = λ s. (h.fine s.0).shuts_few;
    rounds_so = λ cs s. rounded_row r p h cs s.0 ∙ ap (row_after (see s).shuts cs) s.1.0;
    rounds_shut = λ cs s. (rounded_stays r p h cs s.0).shuts;
    rounds_awaits = λ cs s k l stays e. ap (ltb 0) (rounded_awaited r p h cs s.0 k l ∙ cond-true (no_leave k cs) _ _ stays) ∙ e;
    rounds_ends = λ cs s k l leaves. ap (ltb 0) (rounded_awaited r p h cs s.0 k l ∙ cond-false (no_leave k cs) _ _ leaves);
    lets_turn = λ s. s.1.1;
    lets_few = λ s. (h.fine s.0).lets_few;
    keeps = λ cs s m. let e = rounded_stays r p h cs s.0 in (e.has m, e.holds m);
    ask_so = λ q m s near small.
        let e = h.ask_so q m s.0 in
        let now-near = ap (is_in q) s.1.0 ∙ is_in-turned q (see s).row ∙ near in (
          ap (ltb 0) (e.awaited q m) ∙ awaits-asked q m ((see s).awaited q m) (is_in q (see s).rotation) now-near,
          λ k l a. ap (ltb 0) (e.awaited k l) ∙ awaits-more ((see s).awaited k l) _ a,
          λ k. (e.has k, e.holds k),
          e.shuts,
          e.row,
          e.writes,
        );
    asked_so = λ q m s lets has small.
        let e = h.asked_so q m s.0 in
        let may-ask = and_from _ _ lets (and_from _ _ has (lt-ltb m (size r) small)) in
        (ap (wants m) (e.held q) ∙ wants-may q m (may r q m (see s)) ((see s).held q) may-ask, λ k. (e.has k, e.holds k), e.shuts, e.row);
    awaits_on = λ q m x ps s k l e ne. ap (ltb 0) ((h.comes_so q m x ps s.0).awaited k l) ∙ awaits_others q m k l ((see s).awaited k l) e ne;
    asks_lacking = λ q t s. h.asks_lacking q t s.0;
    comes_so = λ q m x ps s writes heard awaits fit.
        let e = h.comes_so q m x ps s.0 in
        let g = and_from _ _ awaits fit in
        let w = and_from _ _ g (and_from _ _ (not_from_false _ heard) writes) in
        let v = see s in (
          e.has m ∙ has-came v.has m _ w,
          λ lacks. (e.holds m ∙ holds-came v.has m _ x v.holds w lacks, e.ways m ∙ holds-came v.has m _ ps v.ways w lacks),
          e.shuts ∙ cond-true _ _ _ (or_right _ _ g),
          e.row,
        );
    awaits_one = λ q m x ps s writes fit.
        let near = (h.fine s.0).awaited_near q m in
        awaits_met q m ((see s).awaited q m) (is_in q (see s).rotation) near _ _ ((h.ask_so q m s.0).awaited q m) ((h.comes_so q m x ps (h.ask q m s.0)).awaited q m);
    comes_keeps = λ q m x ps s k i.
        let e = h.comes_so q m x ps s.0 in
        let v = see s in
        (e.has k ∙ or_left _ _ i, e.holds k ∙ holds_kept v.has m _ x v.holds k i, e.ways k ∙ holds_kept v.has m _ ps v.ways k i);
    comes_no_disk = λ q m x ps s k stuck.
        let v = see s in
        let w = and_right (good r q m x ps v) _ (and_right (not (is_in q v.shuts)) _ stuck) in
        (h.comes_so q m x ps s.0).has k ∙ has_unwritten v.has m _ k w;
    comes_false = λ q m x ps s bad.
        let e = h.comes_so q m x ps s.0 in
        let v = see s in
        let w = and_left _ (not (is_in q v.shuts) && v.writes) bad in
        (λ k. (e.has k ∙ has_unwritten v.has m _ k w, e.holds k ∙ holds_unwritten v.has m _ x v.holds k w), ap (is_in q) e.shuts ∙ is_in_kept_new 4096 q v.shuts _ (lit< tt) bad);
    not_let_back = λ q m x ps s k e l. ap (is_in k) (h.comes_so q m x ps s.0).shuts ∙ is_in-kept-stays _ 4096 q k (see s).shuts e l;
    others_shut = λ q m x ps s k ne e. ap (is_in k) (h.comes_so q m x ps s.0).shuts ∙ is_in_kept_others _ 4096 q k (see s).shuts ne e;
    others_same = λ q m x ps s k ne.
        let e = h.comes_so q m x ps s.0 in
        let v = see s in
        (e.has k ∙ has_elsewhere v.has m _ k ne, e.holds k ∙ holds_elsewhere v.has m _ x v.holds k ne);
  }

  pub code_over : Over h code_of
  unfolding code_of rounded
  code_over = record {
    has = λ s k. refl;
    holds = λ s k. refl;
    ways = λ s k. refl;
    writes = λ s. refl;
    shuts = λ s. refl;
    row = λ s. refl;
    lets = λ s. refl;
    awaits = λ s q m. refl;
    serves = λ s q m. refl;
    asks = λ s q t. refl;
    first = λ b. refl;
    rounds = λ s cs. refl;
    disk = λ s b. refl;
    ask = λ s q m. refl;
    comes = λ s q m x ps. refl;
    asked_of = λ s q m. refl;
    sent = λ s q m. refl;
  }
