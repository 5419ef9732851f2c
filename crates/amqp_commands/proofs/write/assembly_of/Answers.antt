-- The parts of a unit that has a spelling have one.
use Rattle.std.proofs.Common.{◌≡◌, true, subst}
use Rattle.amqp_commands.specs.Units.{unit_fine}
use Rattle.amqp_commands.proofs.Sound.{command_part, content_part}
use Rattle.amqp_commands.proofs.write.assembly_of.Goals as goal

pub push_command-requires : goal.push_command-requires
push_command-requires c = command_part c.in-Command.sync c.in-Command.command c.in-Command.content (subst (λ unit. unit_fine unit ≡ true) c.in-Command.is c.requires)

pub push_content-requires : goal.push_content-requires
push_content-requires c = content_part c.in-Command.sync c.in-Command.command c.in-Command.content (subst (λ unit. unit_fine unit ≡ true) c.in-Command.is c.requires)
