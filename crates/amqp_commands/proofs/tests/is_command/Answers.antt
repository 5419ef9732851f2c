-- What one segment spelled is written.
use Rattle.std.proofs.Common.{subst}
use Rattle.amqp_commands.specs.Spelled.{UnitSpelled}
use Rattle.amqp_commands.proofs.Sound.{alone_fine}
use Rattle.amqp_commands.proofs.tests.is_command.Goals as goal

pub write_unit-requires : goal.write_unit-requires
write_unit-requires c = alone_fine c.in-Ok.unit _ (subst (UnitSpelled c.in-Ok.unit) c.in_ok-assembly.ensures c.in-Ok.ensures.found)
