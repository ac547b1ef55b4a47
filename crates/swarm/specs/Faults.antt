-- The number of each fault, and what is printed of it. Assumes nothing.
use Rattle.std.specs.Prelude.{ℕ, List, codes}
use Rattle.swarm.specs.declared.fault.Fault.{Fault}
use Rattle.swarm.specs.declared.fault.Fault.TheVariants.{BadMessage, BadPiece, OtherFile, WrongPath, NotAsked, NotGranted, Banned, TooMany, WrongRound, DiskFailed, BadSettings, TrackerFull, NoMemory}

-- want of memory is no fault of the protocol and has none of its twelve numbers
abbrev pub number : Fault → ℕ
number BadMessage = 1
number BadPiece = 2
number OtherFile = 3
number WrongPath = 4
number NotAsked = 5
number NotGranted = 6
number Banned = 7
number TooMany = 8
number WrongRound = 9
number DiskFailed = 10
number BadSettings = 11
number TrackerFull = 12
number NoMemory = 0

-- what is printed of it
abbrev pub in_words : Fault → List ℕ
in_words BadMessage = codes "the message is wrong"
in_words BadPiece = codes "the piece isn't there or has another length"
in_words OtherFile = codes "it is another file"
in_words WrongPath = codes "the path leads elsewhere"
in_words NotAsked = codes "the piece wasn't asked for"
in_words NotGranted = codes "the neighbor isn't granted"
in_words Banned = codes "the neighbor is banned"
in_words TooMany = codes "all neighbors are there"
in_words WrongRound = codes "it is the may of another round"
in_words DiskFailed = codes "the disk doesn't write"
in_words BadSettings = codes "such settings can't be"
in_words TrackerFull = codes "the tracker is full"
in_words NoMemory = codes "there is no memory"
