-- The digests of four parts in an array, each by its place.
use Rattle.std.proofs.Common.{◌≡◌, ℕ, ◌+◌, ◌<◌, Bool, true, List, [], ◌∷◌, map, length, get_or, sym, refl, ap, ap₂, ◌∙◌, subst, arith, Bor}
use Rattle.std.specs.List.{AllZip}
use Rattle.sha256.specs.Hashers.{counts}
use Rattle.sha256.specs.Parts.{each_counts}
use Rattle.sha256.specs.Sha256.{digest}
use Rattle.sha256.specs.Sides.{Holds, Keeps}
use Rattle.sha256.specs.declared.sides.Side.{Side}
use Rattle.sha256.proofs.Arrays.{four_places}

module _ (parts : List (Bor (List ℕ))) (none : Bor (List ℕ)) (l : length parts ≡ 4) where
  -- Whether a padding can count them, where it can count three.
  pub four_count : (d : Bool) → counts (1 + length (get_or parts 0 none).now) ≡ true → counts (1 + length (get_or parts 1 none).now) ≡ true → counts (1 + length (get_or parts 2 none).now) ≡ true →
      counts (1 + length (get_or parts 3 none).now) ≡ d → d ≡ each_counts (map (λ part. part.now) parts)
  four_count d p q r s = subst (λ ps. d ≡ each_counts (map (λ part. part.now) ps)) (four_places parts none none none none l) (rw (p, q, r, s) refl)

  -- Their digests, of sides that kept their bytes.
  pub four_digests : (first : ℕ) (a b c d : Side) (news : List Side) (ds : List (List ℕ)) → length ds ≡ 4 → AllZip Keeps (a ∷ b ∷ c ∷ d ∷ []) news →
      ((k : ℕ) (s : Side) → k < 4 → (m : List ℕ) → Holds m (get_or news k s) → get_or ds k [] ≡ digest m) → Holds (first ∷ (get_or parts 0 none).now) a → Holds (first ∷ (get_or parts 1 none).now) b →
      Holds (first ∷ (get_or parts 2 none).now) c → Holds (first ∷ (get_or parts 3 none).now) d → ds ≡ map (λ part. digest (first ∷ part.now)) parts
  four_digests first a b c d [] ds l' kept each p q r s = absurd kept
  four_digests first a b c d (e ∷ []) ds l' kept each p q r s = absurd kept.1
  four_digests first a b c d (e ∷ f ∷ []) ds l' kept each p q r s = absurd kept.1.1
  four_digests first a b c d (e ∷ f ∷ g ∷ []) ds l' kept each p q r s = absurd kept.1.1.1
  four_digests first a b c d (e ∷ f ∷ g ∷ h ∷ []) ds l' kept each p q r s =
      sym (four_places ds [] [] [] [] l')
      ∙ ap₂ ◌∷◌ (each 0 e (omega arith) _ (kept.0 _ p)) (ap₂ ◌∷◌ (each 1 e (omega arith) _ (kept.1.0 _ q)) (ap₂ ◌∷◌ (each 2 e (omega arith) _ (kept.1.1.0 _ r)) (ap₂ ◌∷◌ (each 3 e (omega arith) _ (kept.1.1.1.0 _ s)) refl)))
      ∙ ap (map (λ part. digest (first ∷ part.now))) (four_places parts none none none none l)
  four_digests first a b c d (e ∷ f ∷ g ∷ h ∷ i ∷ is) ds l' kept each p q r s = absurd kept.1.1.1.1
