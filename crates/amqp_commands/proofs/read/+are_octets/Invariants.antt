-- Down the list.
use Rattle.std.proofs.Common.{length}
use Rattle.amqp_commands.proofs.read.+are_octets.Given as goal

abbrev pub decreases-are_octets : goal.decreases-are_octets
decreases-are_octets l = length l.segments.now
