-- What a binary search finds among items whose keys rise.
use Rattle.std.proofs.Common.{◌≡◌, ℕ, ◌<◌, ◌≤◌, true, false, eqb, ltb, leb, List, length, get_or, Ok, Err, Result, IfErr, refl, sym, ap, is_ok, arith}
use Rattle.script.specs.Sheets.{known, place, number_of, tick_of}
use Rattle.script.specs.Sound.{Ordered}
use Rattle.script.specs.declared.sheet.Event.{Event}
use Rattle.script.specs.declared.sheet.LinkEvent.TheVariants.{Opens}
use Rattle.script.specs.declared.sheet.Peer.{Peer}
use Rattle.std.proofs.lemmas.Bool.Decides.{nat_tests}
use Rattle.std.proofs.lemmas.Cmp.{ranked}
use Rattle.std.proofs.lemmas.List.Recursion.{or_at, or_from_places}
use Rattle.std.proofs.lemmas.List.Sums.{position_or_len_is}
use Rattle.std.specs.List.Sorted.{IsSearchInRange, IsBinarySearchResult, IsNonDecreasingBy, IsPartitionPoint}
use Rattle.std.specs.Ordering.{nat_cmp, ordering_index}

module _ (ps : List Peer) (rise : Ordered (λ p q. number_of p < number_of q) ps) (n : ℕ) where
  nobody : Peer
  nobody = record { id = 0; honest = false }

  -- the comparisons with n rise along the list, as a binary search asks
  comparisons_rise : IsNonDecreasingBy (λ p. ordering_index (nat_cmp (number_of p) n)) ps
  comparisons_rise i j d le in_range =
      let keys_rise : number_of (get_or ps i d) ≤ number_of (get_or ps j d) = grind (arith, rise i j d, λ (same : i ≡ j). ap (λ i. number_of (get_or ps i d)) same) in
      grind (arith, nat_tests)

  -- it ends at the peer of that number, or at its place
  pub searched : (r : Result ℕ ℕ) → IsSearchInRange r (length ps) → IsBinarySearchResult (λ p. nat_cmp (number_of p) n) ps r →
      record { known : is_ok r ≡ known n ps; place : IfErr r (λ at. at ≡ place number_of n ps); bound : IfErr r (λ at. at ≤ length ps) }
  searched (Ok at) in_range equal =
      let same = ranked (number_of (get_or ps at nobody)) n _ (sym (equal nobody)) in
      record { known = sym (or_at (known n) (λ p. eqb p.id n) refl (λ _ _. refl) ps at nobody in_range (grind (arith, nat_tests))); place = tt; bound = tt }
  searched (Err at) in_range parted =
      let smaller : (k : ℕ) → k < at → number_of (get_or ps k nobody) < n = λ k l. ranked _ n _ (sym ((parted comparisons_rise).0 k nobody (omega arith) l)) in
      let greater : (k : ℕ) → at ≤ k → k < length ps → n < number_of (get_or ps k nobody) = λ k l m. ranked _ n _ (sym ((parted comparisons_rise).1 k nobody l m)) in
      record {
        known = sym (or_from_places (known n) (λ p. eqb p.id n) refl (λ _ _. refl) ps nobody (λ k m. grind (arith, nat_tests, smaller k, greater k)));
        place = sym (position_or_len_is (λ p. ltb n (number_of p)) ps at nobody in_range (λ k l. grind (arith, nat_tests, smaller k)) (λ m. grind (arith, nat_tests, greater at)));
        bound = in_range;
      }

-- where the ticks up to t end, an event of tick t has its place
pub parted_place : (es : List Event) (t at : ℕ) → at ≤ length es → IsPartitionPoint (λ e. leb (tick_of e) t ≡ true) (λ e. leb (tick_of e) t ≡ false) es at → at ≡ place tick_of t es
parted_place es t at within parted =
    let none : Event = record { at = 0; a = 0; b = 0; what = Opens 0; line = 0 } in
    sym (position_or_len_is (λ e. ltb t (tick_of e)) es at none within
    (λ k l. let p = parted.0 k none (omega arith) l in grind (arith, nat_tests))
    (λ m. let p = parted.1 at none (omega arith) m in grind (arith, nat_tests)))

-- ticks that rise from each event to all behind it do not fall
pub not_falling : (es : List Event) → Ordered (λ e f. tick_of e ≤ tick_of f) es → IsNonDecreasingBy tick_of es
not_falling es rise i j d le in_range = grind (arith, rise i j d, λ (same : i ≡ j). ap (λ i. tick_of (get_or es i d)) same)
