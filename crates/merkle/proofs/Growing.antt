-- How a part is taken in, turn by turn.
use Rattle.std.proofs.Common.{◌≡◌, ℕ, ◌+◌, ◌%◌, ◌≤◌, true, eqb, leb, List, ◌++◌, length, sym, ap, ◌∙◌, subst, arith}
use Rattle.std.proofs.lemmas.List.{append_assoc, length-append}
use Rattle.std.proofs.lemmas.Bool.{and_parts, eqb-true, leb-true}
use Rattle.merkle.specs.Files.{Of, TakesIn, follows}
use Rattle.merkle.specs.declared.digests.Digests.{Digests}

as_file : {d : Digests} (xs ys : List ℕ) → xs ≡ ys → Of xs d → Of ys d
as_file {d} xs ys e o = subst (λ (f : List ℕ). Of f d) e o

as_part : (before after : Digests) (xs ys : List ℕ) → xs ≡ ys → TakesIn xs before after → TakesIn ys before after
as_part before after xs ys e t = subst (λ (p : List ℕ). TakesIn p before after) e t

-- One part and then another.
takes_both : {before mid after : Digests} (xs ys : List ℕ) → TakesIn xs before mid → TakesIn ys mid after → TakesIn (xs ++ ys) before after
takes_both xs ys s t = record {
  taken = λ file o. as_file ((file ++ xs) ++ ys) (file ++ (xs ++ ys)) (append_assoc file xs ys) (t.taken (file ++ xs) (s.taken file o));
  counted = omega (arith, s.counted, t.counted, length-append xs ys);
  same = t.same ∙ s.same;
}

-- a part is taken in up to what is left of it
pub record Reached (before after : Digests) (part rest : List ℕ) : Type 0 where
  pub front : List ℕ
  pub whole : part ≡ front ++ rest
  pub taken : TakesIn front before after

-- What was taken in and what is left are as long as the part.
pub reached_long : {before after : Digests} {part rest : List ℕ} (r : Reached before after part rest) → length part ≡ length r.front + length rest
reached_long {before} {after} {part} {rest} r = ap length r.whole ∙ length-append r.front rest

-- What is left begins with what is taken in next.
pub reached_more : {before mid after : Digests} {part rest : List ℕ} (xs left : List ℕ) → Reached before mid part rest → rest ≡ xs ++ left → TakesIn xs mid after → Reached before after part left
reached_more xs left r e t = record {
  front = r.front ++ xs;
  whole = r.whole ∙ ap (λ (ys : List ℕ). r.front ++ ys) e ∙ sym (append_assoc r.front xs left);
  taken = takes_both r.front xs r.taken t;
}

-- What it means that so many bytes can follow.
pub follows-parts : (d : Digests) (n : ℕ) → follows d n ≡ true → (d.taken % 16384 ≡ 0) × (d.taken + n ≤ d.length)
follows-parts d n f =
    let both = and_parts (eqb (d.taken % 16384) 0) (leb (d.taken + n) d.length) f in
    (eqb-true _ _ both.0, leb-true _ _ both.1)
