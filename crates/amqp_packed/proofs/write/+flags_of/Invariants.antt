-- Down the list.
use Rattle.std.proofs.Common.{length}
use Rattle.amqp_packed.proofs.write.+flags_of.Given as goal

abbrev pub decreases-flags_of : goal.decreases-flags_of
decreases-flags_of l = length l.fields.now
