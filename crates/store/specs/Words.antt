-- What is said, for people, of bytes that are no record and of a record that isn't written. Assumes nothing.
use Rattle.std.specs.Prelude.{ℕ, List, codes}
use Rattle.store.specs.declared.flaw.Flaw.{Flaw}
use Rattle.store.specs.declared.flaw.Flaw.TheVariants.{Size, Count, Rest}
use Rattle.store.specs.declared.flaw.Unfit.{Unfit}
use Rattle.store.specs.declared.flaw.Unfit.TheVariants.{Block, Path}

abbrev pub flaw_words : Flaw → List ℕ
flaw_words Size = codes "a record is 1024 bytes"
flaw_words Count = codes "a path has at most 16 digests"
flaw_words Rest = codes "only zeros come after a path"

abbrev pub unfit_words : Unfit → List ℕ
unfit_words Block = codes "a record is written to 1024 bytes"
unfit_words Path = codes "a path is a whole number of digests, at most 16"
