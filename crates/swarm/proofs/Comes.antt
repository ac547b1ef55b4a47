-- A piece that comes is passed over, kept, or its sender is shut out.
use Rattle.std.proofs.Common.{◌≡◌, Bool, true, false, cond, ◌&&◌, refl}
use Rattle.swarm.specs.Swarm.{Rules, World, Word, comes, keeps, fits, at2}

-- was it asked for, and does it fit
abbrev pub good : Rules → Word → Bool
good r b = b.asked && fits r b.place b.what b.its_way

abbrev pub bans : Word → World → World
bans b w = record { got = w.got; shut = at2 b.to b.from true w.shut }

pub comes_cases : (r : Rules) (b : Word) (w : World) (P : World → Type 0) → (w.shut b.to b.from ≡ true → P w) →
    (w.shut b.to b.from ≡ false → good r b ≡ true → P (keeps r b w)) → (w.shut b.to b.from ≡ false → good r b ≡ false → P (bans b w)) → P (comes r b w)
comes_cases r b w P over kept shut = by_tests (w.shut b.to b.from) (good r b) over kept shut
  where
    by_tests : (out so : Bool) → (out ≡ true → P w) → (out ≡ false → so ≡ true → P (keeps r b w)) → (out ≡ false → so ≡ false → P (bans b w)) → P (cond out w (cond so (keeps r b w) (bans b w)))
    by_tests true so f g h = f refl
    by_tests false true f g h = g refl refl
    by_tests false false f g h = h refl refl
