-- A list that is changed in place, item by item, is seen as the map of what was seen.
use Rattle.std.proofs.Common.{◌≡◌, ℕ, ◌+◌, ◌<◌, List, ◌++◌, map, length, get_or, take, drop, set, sym, ap, ◌∙◌, arith}
use lib.ListN.{length-map}
use Rattle.std.proofs.lemmas.List.Edits.{map_over_more}
use Rattle.std.proofs.lemmas.List.{get_or-map, map-set}

module _ {X Y : Type 0} (view : X → Y) (f : Y → Y) (xs ys : List X) (i : ℕ) where
  -- the first i are mapped
  abbrev pub Mapped : Type 0
  Mapped = map view ys ≡ map f (take i (map view xs)) ++ drop i (map view xs)

pub mapped_more : {X Y : Type 0} (view : X → Y) (f : Y → Y) (xs ys : List X) (i : ℕ) (y d : X) → i < length xs → length ys ≡ length xs → Mapped view f xs ys i → view y ≡ f (view (get_or ys i d)) → Mapped view f xs (set ys i y) (i + 1)
mapped_more view f xs ys i y d h l inv new =
    map-set view ys i y ∙ ap (set (map view ys) i) new ∙
    map_over_more f (map view xs) (map view ys) i (view (get_or ys i d)) (omega (arith, length-map xs view)) inv (sym (get_or-map view ys i d (view (get_or ys i d)) (omega arith)))
