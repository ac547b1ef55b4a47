-- The laws stand beside whatever is read.
use Rattle.script.proofs.NumeralExact.{numeral_exact}
use Rattle.script.proofs.ReadWritten.{read_written}
use Rattle.script.proofs.WrittenRead.{written_read}
use Rattle.script.proofs.statement.read_statement.Goals as goal

pub returns-clause-numerals : goal.returns-clause-numerals
returns-clause-numerals c = numeral_exact

pub returns-clause-written : goal.returns-clause-written
returns-clause-written c = written_read

pub returns-clause-only : goal.returns-clause-only
returns-clause-only c = read_written
