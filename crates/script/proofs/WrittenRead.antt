-- What is written of a statement is read as that statement.
use Rattle.std.proofs.Common.{◌≡◌, ℕ, Bool, true, false, eqb, leb, List, [], ◌∷◌, Some, Ok, codes, decimal, sym, refl, ap, ◌∙◌, arith}
use Rattle.script.proofs.NumeralExact.{numeral_decimal}
use Rattle.script.specs.Laws.{in_range, proper, written, short, WrittenRead}
use Rattle.script.specs.Statements.{Read, most, number, ended, pair, delay, statement, most_rounds}
use Rattle.script.specs.Words.{numeral}
use Rattle.script.specs.declared.statement.Expected.{Expected}
use Rattle.script.specs.declared.statement.Statement.{Statement}
use Rattle.script.specs.declared.statement.Statement.TheVariants.{Peer, False, Link, Break, Rounds}
use Rattle.std.proofs.lemmas.Bool.{and_parts, cond-false, cond-true, eqb-true, leb-true}

-- a number in range is read
read_back : (low high n : ℕ) → leb high most ≡ true → in_range low high n ≡ true → numeral (decimal n) ≡ Some n
read_back low high n m r = let small = leb-true n high (and_parts (leb low n) (leb n high) r).1 in let fits = leb-true high most m in numeral_decimal n (omega arith)

last_back : (low high n : ℕ) (e : Expected) (made : ℕ → Statement) → leb high most ≡ true → in_range low high n ≡ true → number low high e (decimal n ∷ []) (λ n ws. ended (made n) ws) ≡ Ok (made n)
last_back low high n e made m r = rw (read_back low high n m r, r, number)

pair_back : (a b t : ℕ) (ws : List (List ℕ)) (next : ℕ → ℕ → ℕ → List (List ℕ) → Read) → in_range 1 most a ≡ true → in_range 1 most b ≡ true → in_range 0 most t ≡ true →
    pair (decimal a ∷ (decimal b ∷ (codes "at" ∷ (decimal t ∷ ws)))) next ≡ next a b t ws
pair_back a b t ws next pa pb pt = rw (read_back 1 most a refl pa, pa, read_back 1 most b refl pb, pb, read_back 0 most t refl pt, pt, number)

-- a link is read with its delay, and as one of delay 1 without
module _ (a b t d : ℕ) (p : proper (Link a b t d) ≡ true) where
  link_back : (ws : List (List ℕ)) → statement (codes "link" ∷ (decimal a ∷ (decimal b ∷ (codes "at" ∷ (decimal t ∷ ws))))) ≡ delay ws (λ d ws. ended (Link a b t d) ws)
  link_back ws =
      let pa = and_parts _ _ p in
      let pb = and_parts _ _ pa.1 in
      pair_back a b t ws (λ a b t ws. delay ws (λ d ws. ended (Link a b t d) ws)) pa.0 pb.0 (and_parts _ _ pb.1).0

  with_delay : statement (written (Link a b t d)) ≡ Ok (Link a b t d)
  with_delay =
      let pd = (and_parts (in_range 0 most t) (in_range 1 8 d) (and_parts (in_range 1 most b) _ (and_parts (in_range 1 most a) _ p).1).1).1 in
      link_back (codes "delay" ∷ (decimal d ∷ [])) ∙ rw (read_back 1 8 d refl pd, pd, number)

  without-delay : (one : Bool) → eqb d 1 ≡ one → statement (short (Link a b t d)) ≡ Ok (Link a b t d)
  without-delay true e = ap statement (cond-true (eqb d 1) _ _ e) ∙ link_back [] ∙ ap (λ d. Ok (Link a b t d)) (sym (eqb-true d 1 e))
  without-delay false e = ap statement (cond-false (eqb d 1) _ _ e) ∙ with_delay

pub written_read : WrittenRead
written_read (Peer n) p = let read = last_back 1 most n Expected.PeerNumber (λ n. Peer n) refl p in (read, read)
written_read (False n) p = let read = last_back 1 most n Expected.PeerNumber (λ n. False n) refl p in (read, read)
written_read (Link a b t d) p = (with_delay a b t d p, without-delay a b t d p (eqb d 1) refl)
written_read (Break a b t) p =
    let pa = and_parts _ _ p in
    let pb = and_parts _ _ pa.1 in
    let read = pair_back a b t [] (λ a b t ws. ended (Break a b t) ws) pa.0 pb.0 pb.1 in
    (read, read)
written_read (Rounds n) p = let read = last_back 0 most_rounds n Expected.Count (λ n. Rounds n) refl p in (read, read)
