-- Head and fields of a listed command.
use Rattle.std.proofs.Common.{map, ◌∙◌, ap, sym}
use Rattle.amqp_packed.specs.Lent.{lent}
use Rattle.amqp_commands.proofs.Putting.{listed_put}
use Rattle.amqp_commands.proofs.put.put_command.Goals as goal

pub returns-in_ok-fields-in-Some : goal.returns-in_ok-fields-in-Some
returns-in_ok-fields-in-Some c =
    listed_put c.put_fields.result c.args.sync c.args.command.now c.in-Some.kind c.args.out.now.items c.put_command_head.new.out.items c.put_fields.new.out.items (map lent c.as_slice.result.now)
    (sym c.in-Some.ensures) c.in_ok-put_command_head-in-Some.ensures (ap (map lent) c.as_slice.ensures.value ∙ c.in_ok-fields-in-Some.ensures.fields) c.put_fields.ensures
