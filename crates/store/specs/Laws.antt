-- Which records there are. Assumes nothing.
use Rattle.std.specs.Prelude.{◌≡◌, ◌^◌, ◌<◌, true, length}
use Rattle.store.specs.Records.{Recorded, is_path}

abbrev pub IsRecord : Recorded → Type 0
IsRecord r = (r.piece < 2 ^ 32) × (length r.digest ≡ 32) × (is_path r.path ≡ true)
