-- One segment after the other.
use Rattle.std.proofs.Common.{subst, sym}
use Rattle.octet_reading.specs.Reading.{IsBytes}
use Rattle.amqp_commands.specs.Spelled.{AllBytes}
use Rattle.amqp_commands.proofs.read.+are_octets.Goals as goal

pub returns-in-Some : goal.returns-in-Some
returns-in-Some t c = subst AllBytes (sym c.in-Some.ensures.cases.0) (subst IsBytes c.as_slice.ensures c.are_small.ensures, c.are_octets.ensures)
