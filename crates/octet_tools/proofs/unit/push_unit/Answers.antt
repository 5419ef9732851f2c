-- What can be shown of a command and of its content.
use Rattle.octet_tools.proofs.Showing.{command_part, content_part}
use Rattle.octet_tools.proofs.unit.push_unit.Goals as goal

pub push_command-requires : goal.push_command-requires
push_command-requires c = command_part c.args.unit.now c.in-Command.sync c.in-Command.command c.in-Command.content c.in-Command.is c.requires

pub push_content-requires : goal.push_content-requires
push_content-requires c = content_part c.args.unit.now c.in-Command.sync c.in-Command.command c.in-Command.content c.in-Command.is c.requires
