-- What is said, for people, of bytes that are no description or no settings. Assumes nothing.
use Rattle.std.specs.Prelude.{ℕ, List, codes}
use Rattle.wire.specs.declared.damage.Damage.{Damage}
use Rattle.wire.specs.declared.damage.Damage.TheVariants.{Short, Kind, Length, Name, Round, Long}

abbrev pub damage_words : Damage → List ℕ
damage_words Short = codes "it is cut off"
damage_words Kind = codes "it doesn't begin with 1"
damage_words Length = codes "its length is not 1 to 1073741824"
damage_words Name = codes "its name has another length than it says"
damage_words Round = codes "its round is not 64 ticks"
damage_words Long = codes "it goes on after its end"
