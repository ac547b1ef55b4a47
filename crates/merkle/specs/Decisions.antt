-- What a test decides. Assumes nothing.
use Rattle.std.specs.Prelude.{◌≡◌, Bool, true}

-- it answers true if and only if P
abbrev pub Decides : Bool → Type 0 → Type 0
Decides b P = (b ≡ true → P) × (P → b ≡ true)
