-- The test of a word against another tells whether they are the same, and so which statement a line is.
use Rattle.std.proofs.Common.{◌≡◌, ℕ, Bool, true, false, List, [], ◌∷◌, Err, codes, Decides, refl, sym, subst, nat_lt}
use Rattle.script.specs.Statements.{is, statement}
use Rattle.script.specs.declared.statement.Expected.TheVariants as Expected
use Rattle.std.proofs.lemmas.Slice.Eq.{bytes_eq-Decides}
use Rattle.std.proofs.lemmas.Bool.{and_parts, ltb-true}
use Rattle.std.proofs.lemmas.Str.{IsUtf8-from_ascii}
use Rattle.std.proofs.lemmas.Str.Ascii.{IsAscii-nil, IsAscii-cons}
use Rattle.std.specs.List.{list_all}
use Rattle.std.specs.Str.{IsAscii, IsUtf8}

pub is_decides : (xs ys : List ℕ) → Decides (is xs ys) (xs ≡ ys)
is_decides = bytes_eq-Decides

-- two words that differ are not the same
pub is_not : (w k : List ℕ) → (w ≡ k → ⊥) → is w k ≡ false
is_not w k other = go (is w k) (is_decides w k).0
  where
    go : (b : Bool) → (b ≡ true → w ≡ k) → b ≡ false
    go true h = absurd (other (h refl))
    go false h = refl

-- a name that no statement has
pub none_says : (w : List ℕ) (ws : List (List ℕ)) → (w ≡ codes "peer" → ⊥) → (w ≡ codes "false" → ⊥) → (w ≡ codes "link" → ⊥) → (w ≡ codes "break" → ⊥) → (w ≡ codes "rounds" → ⊥) →
    (w ≡ codes "pieces" → ⊥) → (w ≡ codes "fall" → ⊥) → (w ≡ codes "disk" → ⊥) → (w ≡ codes "say" → ⊥) → statement (w ∷ ws) ≡ Err Expected.Statement
none_says w ws p f l b r i a d s =
    rw (is_not w _ p, is_not w _ f, is_not w _ l, is_not w _ b, is_not w _ r, is_not w _ i, is_not w _ a, is_not w _ d, is_not w _ s)

ascii : (bs : List ℕ) → list_all (λ b. nat_lt b 128) bs ≡ true → IsAscii bs
ascii [] h = IsAscii-nil
ascii (b ∷ bs) h = let p = and_parts (nat_lt b 128) (list_all (λ b. nat_lt b 128) bs) h in IsAscii-cons b bs (ltb-true b 128 p.0) (ascii bs p.1)

-- what is no text is no statement's name
pub no_text_says : (w : List ℕ) (ws : List (List ℕ)) → ¬ IsUtf8 w → statement (w ∷ ws) ≡ Err Expected.Statement
no_text_says w ws bad =
    let other : (k : List ℕ) → list_all (λ b. nat_lt b 128) k ≡ true → w ≡ k → ⊥ = λ k a e. bad (subst IsUtf8 (sym e) (IsUtf8-from_ascii k (ascii k a))) in
    none_says w ws (other _ refl) (other _ refl) (other _ refl) (other _ refl) (other _ refl) (other _ refl) (other _ refl) (other _ refl) (other _ refl)
