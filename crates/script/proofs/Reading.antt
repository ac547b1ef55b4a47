-- What is left to read of a text makes, line by line, what the whole of it makes.
use Rattle.std.proofs.Common.{◌≡◌, ℕ, Bool, true, false, ◌||◌, List, [], ◌∷◌, IsErrAnd, Some, None, Ok, Err, Option, Result, sym, refl, ap, ◌∙◌, subst, Bor}
use Rattle.script.specs.Sheets.{Sheet, Reads, blank_sheet, sheet, whole, next_line, numbered, with_words, with_lines, kept_line, kept_lines}
use Rattle.script.specs.Words.{words, lines}
use Rattle.script.specs.declared.sheet.BadLine.{BadLine}
use Rattle.script.specs.declared.sheet.ReadFault.{ReadFault}
use Rattle.script.specs.declared.sheet.ReadFault.TheVariants.{Line, OutOfMemory}
use Rattle.script.specs.declared.sheet.Script.{Script}
use Rattle.std.specs.Iterator.{AlwaysYields}
use Rattle.std.proofs.lemmas.Bool.{or_left, or_right}

-- an iterator gives lines that make of a sheet after line n what all lines of the text make of a blank one, and want memory only if those do
pub record Toward {S : Type 0} (steps : S → Option (Bor (List ℕ)) → S → Type 0) (it : S) (text : List ℕ) (n : ℕ) (s : Sheet) : Type 0 where
  pub rest : List (List ℕ)
  pub gives : AlwaysYields steps (λ line. line.now) it rest
  pub makes : with_lines n s rest ≡ with_lines 0 blank_sheet (lines text)
  pub wants : kept_lines n s rest ≡ true → kept_lines 0 blank_sheet (lines text) ≡ true

-- what follows a line that is read
abbrev go_on : ℕ → List (List ℕ) → Result Sheet BadLine → Result Sheet BadLine
go_on k ls r = elim r [ Ok t ↦ with_lines k t ls | Err b ↦ Err b ]

abbrev keep_on : ℕ → List (List ℕ) → Result Sheet BadLine → Bool
keep_on k ls r = elim r [ Ok t ↦ kept_lines k t ls | Err b ↦ false ]

-- a line that is taken, or the first that is not
module _ (n k : ℕ) (s : Sheet) (l : List ℕ) (ls : List (List ℕ)) (next : k ≡ next_line n) where
  line_first : with_lines n s (l ∷ ls) ≡ go_on k ls (numbered k (with_words k s (words l)))
  unfolding with_lines
  line_first = subst (λ (k : ℕ). with_lines n s (l ∷ ls) ≡ go_on k ls (numbered k (with_words k s (words l)))) (sym next) refl

  pub taken_line : (t : Sheet) → numbered k (with_words k s (words l)) ≡ Ok t → with_lines n s (l ∷ ls) ≡ with_lines k t ls
  taken_line t e = line_first ∙ ap (go_on k ls) e

  refused_line : (b : BadLine) → numbered k (with_words k s (words l)) ≡ Err b → with_lines n s (l ∷ ls) ≡ Err b
  refused_line b e = line_first ∙ ap (go_on k ls) e

  kept-first : kept_lines n s (l ∷ ls) ≡ (kept_line k s (words l) || keep_on k ls (numbered k (with_words k s (words l))))
  unfolding kept_lines
  kept-first = subst (λ (k : ℕ). kept_lines n s (l ∷ ls) ≡ (kept_line k s (words l) || keep_on k ls (numbered k (with_words k s (words l))))) (sym next) refl

  -- a later line that wants memory is one of these
  pub kept-later : (t : Sheet) → numbered k (with_words k s (words l)) ≡ Ok t → kept_lines k t ls ≡ true → kept_lines n s (l ∷ ls) ≡ true
  kept-later t e h = kept-first ∙ or_right _ _ (ap (keep_on k ls) e ∙ h)

  -- a refusal is handed on as it is
  pub handed_fault : (f : ReadFault) (r : Result Script ReadFault) → Reads sheet (kept_line k s (words l) ≡ true) (numbered k (with_words k s (words l))) (Err f) → IsErrAnd r (λ g. g ≡ f) →
      Reads whole (kept_lines n s (l ∷ ls) ≡ true) (with_lines n s (l ∷ ls)) r
  handed_fault f (Ok x) h e = absurd e
  handed_fault (Line b) (Err g) h e = subst (λ (g : ReadFault). Reads whole (kept_lines n s (l ∷ ls) ≡ true) (with_lines n s (l ∷ ls)) (Err g)) (sym e) (refused_line b h)
  handed_fault OutOfMemory (Err g) h e = subst (λ (g : ReadFault). Reads whole (kept_lines n s (l ∷ ls) ≡ true) (with_lines n s (l ∷ ls)) (Err g)) (sym e) (kept-first ∙ or_left _ _ h)

-- an answer to the rest is one to the whole
pub reads_whole : {wants wants' : Type 0} {said said' : Result Sheet BadLine} (r : Result Script ReadFault) → (wants → wants') → said ≡ said' → Reads whole wants said r → Reads whole wants' said' r
reads_whole (Ok s) f e h = sym e ∙ h
reads_whole (Err (Line b)) f e h = sym e ∙ h
reads_whole (Err OutOfMemory) f e h = f h

module _ {S : Type 0} (steps : S → Option (Bor (List ℕ)) → S → Type 0) (it next : S) (text : List ℕ) (n : ℕ) (s : Sheet) (t : Toward steps it text n s) where
  -- where the iterator ends, no line is left
  pub none_left : steps it None next → t.rest ≡ []
  none_left end = go t.rest t.gives
    where
      go : (ls : List (List ℕ)) → AlwaysYields steps (λ line. line.now) it ls → ls ≡ []
      go [] g = refl
      go (l ∷ ls) g = absurd (g.0 next end)

  -- where it gives a line, that is the first that was left
  pub first_left : (line : Bor (List ℕ)) → steps it (Some line) next → (ls : List (List ℕ)) × (t.rest ≡ line.now ∷ ls) × AlwaysYields steps (λ line. line.now) next ls
  first_left line here = go t.rest t.gives
    where
      go : (rest : List (List ℕ)) → AlwaysYields steps (λ line. line.now) it rest → (ls : List (List ℕ)) × (rest ≡ line.now ∷ ls) × AlwaysYields steps (λ line. line.now) next ls
      go [] g = absurd (g line next here)
      go (l ∷ ls) g = let p = g.1 line next here in (ls, ap (λ l. l ∷ ls) (sym p.0), p.1)
