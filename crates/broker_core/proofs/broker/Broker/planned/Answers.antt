-- The fields of a command with a spelling have one.
use Rattle.std.proofs.Common.{◌≡◌, ℕ, List, [], ◌∷◌, true, sym, subst}
use Rattle.octet_reading.specs.declared.part.SizeWidth.TheVariants.{One}
use Rattle.amqp_terms.specs.declared.command.Command.{Command}
use Rattle.amqp_packed.specs.Spelling.{text_fine}
use Rattle.amqp_packed.specs.Typed.{of_str8, of_bit, of_map}
use Rattle.amqp_commands.specs.Units.{command_fine}
use Rattle.broker_core.proofs.Fine.{query_fine, alternate_fine, arguments_fine}
use Rattle.broker_core.proofs.broker.Broker.planned.Goals as goal

abbrev IsFine : Command → Type 0
IsFine m = command_fine m ≡ true

abbrev IsText : List ℕ → Type 0
IsText t = text_fine One t ≡ true

pub exchange_declare-requires : goal.exchange_declare-requires
exchange_declare-requires c =
    let e = c.in-ExchangeDeclare in
    arguments_fine (of_str8 e.exchange) (of_str8 e.kind) (of_str8 e.alternate_exchange) (of_bit e.passive) (of_bit e.durable) (of_bit e.auto_delete) e.arguments (subst IsFine e.is c.requires)

pub queue_declare-requires-clause-alternate : goal.queue_declare-requires-clause-alternate
queue_declare-requires-clause-alternate c =
    let q = c.in-QueueDeclare in
    subst IsText (sym c.or_empty-in-QueueDeclare-2.ensures) (alternate_fine q.queue q.alternate_exchange (of_bit q.passive ∷ of_bit q.durable ∷ of_bit q.exclusive ∷ of_bit q.auto_delete ∷ of_map q.arguments ∷ []) (subst IsFine q.is c.requires))

pub queue_declare-requires-clause-arguments : goal.queue_declare-requires-clause-arguments
queue_declare-requires-clause-arguments c =
    let q = c.in-QueueDeclare in
    arguments_fine (of_str8 q.queue) (of_str8 q.alternate_exchange) (of_bit q.passive) (of_bit q.durable) (of_bit q.exclusive) (of_bit q.auto_delete) q.arguments (subst IsFine q.is c.requires)

pub queue_query-requires : goal.queue_query-requires
queue_query-requires c = subst IsText (sym c.or_empty-in-QueueQuery.ensures) (query_fine c.in-QueueQuery.queue (subst IsFine c.in-QueueQuery.is c.requires))
