-- The command has a spelling.
use Rattle.std.proofs.Common.{subst}
use Rattle.amqp_commands.specs.Units.{command_fine, content_fine}
use Rattle.broker_core.specs.Commands.{IsFine}
use Rattle.broker_core.proofs.Fine.{first_of}
use Rattle.broker_core.proofs.broker.Broker.decide.Goals as goal

pub command-requires : goal.command-requires
command-requires c = first_of (command_fine c.in-Do.command) (content_fine c.in-Do.command c.in-Do.content) (subst IsFine c.in-Do.is c.requires)
