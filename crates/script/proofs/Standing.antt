-- Events that are looked at one after the other tell which break is the first bad one.
use Rattle.std.proofs.Common.{◌≡◌, ℕ, ◌+◌, ◌<◌, ◌≤◌, true, false, cond, ◌||◌, List, [], ◌∷◌, ◌++◌, length, get_or, take, drop, Some, None, sym, ap, ◌∙◌}
use Rattle.script.specs.Sheets.{opening, stands, bad_break}
use Rattle.script.specs.declared.sheet.Event.{Event}
use Rattle.script.specs.declared.sheet.LinkEvent.TheVariants.{Opens}
use Rattle.std.proofs.lemmas.List.{at_drop_more, at_drop_all, take_more}
use Rattle.std.proofs.lemmas.Bool.{cond-true, cond-false}

-- what the code reads past the end
abbrev pub no_event : Event
no_event = record { at = 0; a = 0; b = 0; what = Opens 0; line = 0 }

-- the first bad break after the first i events
abbrev From : List Event → ℕ → Type 0
From es i = bad_break (take i es) (drop i es) ≡ bad_break [] es

module _ (es : List Event) (i : ℕ) (h : i < length es) where
  here : bad_break (take i es) (drop i es) ≡
      cond (opening (get_or es i no_event).what || stands (get_or es i no_event) false (take i es)) (bad_break (take i es ++ (get_or es i no_event ∷ [])) (drop (i + 1) es)) (Some (get_or es i no_event).line)
  unfolding bad_break
  here = at_drop_more (bad_break (take i es)) es i no_event h

  pub bad_here : (opening (get_or es i no_event).what || stands (get_or es i no_event) false (take i es)) ≡ false → From es i → Some (get_or es i no_event).line ≡ bad_break [] es
  bad_here e f = sym (here ∙ cond-false _ _ _ e) ∙ f

  pub bad_later : (opening (get_or es i no_event).what || stands (get_or es i no_event) false (take i es)) ≡ true → From es i → From es (i + 1)
  bad_later e f = ap (λ xs. bad_break xs (drop (i + 1) es)) (take_more es i no_event h) ∙ sym (here ∙ cond-true _ _ _ e) ∙ f

pub bad_none : (es : List Event) (i : ℕ) → length es ≤ i → From es i → None ≡ bad_break [] es
unfolding bad_break
bad_none es i l f = sym (at_drop_all (bad_break (take i es)) es i l) ∙ f
