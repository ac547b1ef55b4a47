-- What is said, for people, of a script that can't be read. Assumes nothing.
use Rattle.std.specs.Prelude.{ℕ, List, ◌++◌, codes, decimal}
use Rattle.script.specs.declared.sheet.BadLine.{BadLine}
use Rattle.script.specs.declared.sheet.ReadFault.{ReadFault}
use Rattle.script.specs.declared.sheet.ReadFault.TheVariants.{Line, OutOfMemory}
use Rattle.script.specs.declared.statement.Expected.{Expected}

-- what was expected, in words that go on after "expected"
abbrev pub expected_words : Expected → List ℕ
expected_words Expected.Statement = codes "a statement: peer, false, link, break or rounds"
expected_words Expected.Played = codes "one of the statements that are played so far: peer, false, link, break or rounds"
expected_words Expected.PeerNumber = codes "a peer's number, from 1"
expected_words Expected.NewPeer = codes "a peer that no line above declares"
expected_words Expected.KnownPeer = codes "peers that lines above declare"
expected_words Expected.OtherPeer = codes "two different peers"
expected_words Expected.At = codes "the word at and a tick"
expected_words Expected.Tick = codes "a tick"
expected_words Expected.Delay = codes "the word delay, or the end of the line"
expected_words Expected.DelayTicks = codes "a delay from 1 to 8 ticks"
expected_words Expected.Count = codes "a number of rounds, below 4294967296"
expected_words Expected.LineEnd = codes "the end of the line"
expected_words Expected.StandingLink = codes "a link that stands at that tick"
expected_words Expected.Nothing = codes "nothing after rounds"
expected_words Expected.Rounds = codes "rounds as the last statement"

abbrev pub line_words : BadLine → List ℕ
line_words b = codes "line " ++ (decimal b.line ++ (codes ": expected " ++ expected_words b.expected))

abbrev pub fault_words : ReadFault → List ℕ
fault_words (Line b) = line_words b
fault_words OutOfMemory = codes "there is no memory for it"
