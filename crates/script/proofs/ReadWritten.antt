-- What is read as a statement is how that statement is written, but for a delay of 1 that may be left out.
use Rattle.std.proofs.Common.{◌≡◌, ℕ, Bool, true, false, cond, ◌⊎◌, List, [], ◌∷◌, Some, None, Ok, Err, codes, decimal, Option, sym, refl, ap, ◌∙◌, subst, subst₂, inl, inr, ⊎_elim, arith}
use Rattle.script.proofs.NumeralExact.{is-written}
use Rattle.script.proofs.SameWord.{is_decides}
use Rattle.script.specs.Laws.{in_range, Spells, ReadWritten}
use Rattle.script.specs.Statements.{Read, is, number, most, keyword, ended, pair, delay, later, most_rounds}
use Rattle.script.specs.Words.{numeral}
use Rattle.script.specs.declared.statement.Expected.{Expected}
use Rattle.script.specs.declared.statement.Statement.{Statement}
use Rattle.std.proofs.lemmas.Bool.{and_from}

err_ok : (e : Expected) (s : Statement) → ◌≡◌ {A = Read} (Err e) (Ok s) → ⊥
err_ok e s h = let z : ◌≡◌ {A = ℕ} 0 1 = cc in omega arith

-- a choice that is read came one way or the other
cond_way : (b : Bool) (x y : Read) (s : Statement) → cond b x y ≡ Ok s → ((b ≡ true) × (x ≡ Ok s)) ⊎ (y ≡ Ok s)
cond_way true x y s h = inl (refl, h)
cond_way false x y s h = inr h

-- the same of a choice between what is read and an error
cond_read : (b : Bool) (x : Read) (e : Expected) (s : Statement) → cond b x (Err e) ≡ Ok s → (b ≡ true) × (x ≡ Ok s)
cond_read b x e s h = ⊎_elim (λ t. t) (λ f. absurd (err_ok e s f)) (cond_way b x (Err e) s h)

number_read : (low high : ℕ) (e : Expected) (ws : List (List ℕ)) (next : ℕ → List (List ℕ) → Read) (s : Statement) → number low high e ws next ≡ Ok s →
    (n : ℕ) × (rest : List (List ℕ)) × (ws ≡ decimal n ∷ rest) × (in_range low high n ≡ true) × (next n rest ≡ Ok s)
number_read low high e [] next s h = absurd (err_ok e s h)
number_read low high e (w ∷ ws) next s h = go (numeral w) refl h
  where
    go : (o : Option ℕ) → numeral w ≡ o → elim o as (λ _. Read) [ Some n ↦ cond (in_range low high n) (next n ws) (Err e) | None ↦ Err e ] ≡ Ok s →
        (n : ℕ) × (rest : List (List ℕ)) × (w ∷ ws ≡ decimal n ∷ rest) × (in_range low high n ≡ true) × (next n rest ≡ Ok s)
    go None t h = absurd (err_ok e s h)
    go (Some n) t h = let p = cond_read (in_range low high n) (next n ws) e s h in (n, ws, ap (λ w. w ∷ ws) (is-written n w t), p.0, p.1)

keyword_read : (k : List ℕ) (e : Expected) (ws : List (List ℕ)) (next : List (List ℕ) → Read) (s : Statement) → keyword k e ws next ≡ Ok s →
    (rest : List (List ℕ)) × (ws ≡ k ∷ rest) × (next rest ≡ Ok s)
keyword_read k e [] next s h = absurd (err_ok e s h)
keyword_read k e (w ∷ ws) next s h = let p = cond_read (is w k) (next ws) e s h in (ws, ap (λ w. w ∷ ws) ((is_decides w k).0 p.0), p.1)

ended_read : (t : Statement) (ws : List (List ℕ)) (s : Statement) → ended t ws ≡ Ok s → (ws ≡ []) × (s ≡ t)
ended_read t [] s h = (refl, cc)
ended_read t (w ∷ ws) s h = absurd (err_ok Expected.LineEnd s h)

delay_read : (ws : List (List ℕ)) (next : ℕ → List (List ℕ) → Read) (s : Statement) → delay ws next ≡ Ok s →
    ((d : ℕ) × (rest : List (List ℕ)) × (ws ≡ codes "delay" ∷ (decimal d ∷ rest)) × (in_range 1 8 d ≡ true) × (next d rest ≡ Ok s)) ⊎ ((ws ≡ []) × (next 1 [] ≡ Ok s))
delay_read [] next s h = inr (refl, h)
delay_read (w ∷ ws) next s h =
    let k = keyword_read (codes "delay") Expected.Delay (w ∷ ws) (λ ws. number 1 8 Expected.DelayTicks ws next) s h in
    let n = number_read 1 8 Expected.DelayTicks k.0 next s k.2 in
    inl (n.0, n.1, k.1 ∙ ap (λ ws. codes "delay" ∷ ws) n.2, n.3, n.4)

record PairRead (ws : List (List ℕ)) (next : ℕ → ℕ → ℕ → List (List ℕ) → Read) (s : Statement) : Type 0 where
  a : ℕ
  b : ℕ
  t : ℕ
  rest : List (List ℕ)
  are : ws ≡ decimal a ∷ (decimal b ∷ (codes "at" ∷ (decimal t ∷ rest)))
  a_range : in_range 1 most a ≡ true
  b_range : in_range 1 most b ≡ true
  t_range : in_range 0 most t ≡ true
  on : next a b t rest ≡ Ok s

pair_read : (ws : List (List ℕ)) (next : ℕ → ℕ → ℕ → List (List ℕ) → Read) (s : Statement) → pair ws next ≡ Ok s → PairRead ws next s
pair_read ws next s h =
    let pa = number_read 1 most Expected.PeerNumber ws _ s h in
    let pb = number_read 1 most Expected.PeerNumber pa.1 _ s pa.4 in
    let at = keyword_read (codes "at") Expected.At pb.1 _ s pb.4 in
    let pt = number_read 0 most Expected.Tick at.0 _ s at.2 in
    record { a = pa.0; b = pb.0; t = pt.0; rest = pt.1; are = cc; a_range = pa.3; b_range = pb.3; t_range = pt.3; on = pt.4 }

-- a number with which the line ends
last_read : (low high : ℕ) (e : Expected) (made : ℕ → Statement) (ws : List (List ℕ)) (s : Statement) → number low high e ws (λ n ws. ended (made n) ws) ≡ Ok s →
    (n : ℕ) × (ws ≡ decimal n ∷ []) × (in_range low high n ≡ true) × (s ≡ made n)
last_read low high e made ws s h =
    let p = number_read low high e ws (λ n ws. ended (made n) ws) s h in
    let q = ended_read (made p.0) p.1 s p.4 in
    (p.0, p.2 ∙ ap (λ ws. decimal p.0 ∷ ws) q.0, p.3, q.1)

module _ (w : List ℕ) (ws : List (List ℕ)) (s : Statement) where
  -- a statement that is a word and a number
  as_last : (k : List ℕ) (low high : ℕ) (e : Expected) (made : ℕ → Statement) → ((n : ℕ) → in_range low high n ≡ true → Spells (k ∷ (decimal n ∷ [])) (made n)) →
      w ≡ k → number low high e ws (λ n ws. ended (made n) ws) ≡ Ok s → Spells (w ∷ ws) s
  as_last k low high e made f here h =
      let p = last_read low high e made ws s h in
      let are : w ∷ ws ≡ k ∷ (decimal p.0 ∷ []) = λ i. here i ∷ p.1 i in
      subst₂ Spells (sym are) (sym p.3) (f p.0 p.2)

  as_link : w ≡ codes "link" → pair ws (λ a b t ws. delay ws (λ d ws. ended (Statement.Link a b t d) ws)) ≡ Ok s → Spells (w ∷ ws) s
  as_link k h =
      let p = pair_read ws (λ a b t ws. delay ws (λ d ws. ended (Statement.Link a b t d) ws)) s h in
      ⊎_elim
      (λ g.
      let q = ended_read (Statement.Link p.a p.b p.t g.0) g.1 s g.4 in
      subst (Spells (w ∷ ws)) (sym q.1) (and_from _ _ p.a_range (and_from _ _ p.b_range (and_from _ _ p.t_range g.3)), inl (cc)))
      (λ l.
      let q = ended_read (Statement.Link p.a p.b p.t 1) [] s l.1 in
      subst (Spells (w ∷ ws)) (sym q.1) (and_from _ _ p.a_range (and_from _ _ p.b_range (and_from _ _ p.t_range refl)), inr (cc)))
      (delay_read p.rest _ s p.on)

  as_break : w ≡ codes "break" → pair ws (λ a b t ws. ended (Statement.Break a b t) ws) ≡ Ok s → Spells (w ∷ ws) s
  as_break k h =
      let p = pair_read ws (λ a b t ws. ended (Statement.Break a b t) ws) s h in
      let q = ended_read (Statement.Break p.a p.b p.t) p.rest s p.on in
      subst (Spells (w ∷ ws)) (sym q.1) (and_from _ _ p.a_range (and_from _ _ p.b_range p.t_range), inl (cc))

  as_none : cond (later w) (Err Expected.Played) (Err Expected.Statement) ≡ Ok s → Spells (w ∷ ws) s
  as_none h = absurd (⊎_elim (λ p. err_ok Expected.Played s p.1) (err_ok Expected.Statement s) (cond_way (later w) (Err Expected.Played) (Err Expected.Statement) s h))

  -- the first word is this one, or the line is read another way
  by_word : (k : List ℕ) (x y : Read) → (w ≡ k → x ≡ Ok s → Spells (w ∷ ws) s) → (y ≡ Ok s → Spells (w ∷ ws) s) → cond (is w k) x y ≡ Ok s → Spells (w ∷ ws) s
  by_word k x y f g h = ⊎_elim (λ p. f ((is_decides w k).0 p.0) p.1) g (cond_way (is w k) x y s h)

pub read_written : ReadWritten
read_written [] s h = absurd (err_ok Expected.Statement s h)
read_written (w ∷ ws) s h =
    by_word w ws s (codes "peer") _ _ (as_last w ws s (codes "peer") 1 most Expected.PeerNumber (λ n. Statement.Peer n) (λ n r. (r, inl refl)))
    (by_word w ws s (codes "false") _ _ (as_last w ws s (codes "false") 1 most Expected.PeerNumber (λ n. Statement.False n) (λ n r. (r, inl refl)))
    (by_word w ws s (codes "link") _ _ (as_link w ws s)
    (by_word w ws s (codes "break") _ _ (as_break w ws s)
    (by_word w ws s (codes "rounds") _ _ (as_last w ws s (codes "rounds") 0 most_rounds Expected.Count (λ n. Statement.Rounds n) (λ n r. (r, inl refl))) (as_none w ws s))))) h
