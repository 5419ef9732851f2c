-- Names and arguments are fine.
use Rattle.std.proofs.Common.{◌≡◌, ℕ, ◌&&◌, nat_lt, List, Option, true, sym, subst, rules, refl, arith}
use Rattle.std.proofs.lemmas.Bool.Decides.{nat_tests}
use Rattle.octet_reading.specs.declared.part.SizeWidth.TheVariants.{One}
use Rattle.amqp_values.specs.declared.value.Value.{Value}
use Rattle.amqp_packed.specs.Spelling.{text_fine, is_fine}
use Rattle.amqp_packed.specs.Typed.{of_bit}
use Rattle.broker_core.specs.Sound.{map_fine}
use Rattle.broker_core.proofs.Sounding.{queue_found}
use Rattle.broker_core.proofs.Results.{both, bit_is, query_fine}
use Rattle.broker_core.proofs.broker.Broker.queue_result.Goals as goal

abbrev IsMap : Option Value → Type 0
IsMap m = map_fine m ≡ true

abbrev IsText : List ℕ → Type 0
IsText t = text_fine One t ≡ true

pub returns-clause-fine : goal.returns-clause-fine
returns-clause-fine c =
    let marks = c.in-Some.marks.now in
    let fine = queue_found c.args.name.now c.self.inside.queues.entries c.self.invariant.queues marks (search rules) in
    both (text_fine One c.in_ok-queue.queue) _ (subst IsText (sym c.in_ok-queue.ensures) c.requires)
    (both (text_fine One c.in_ok-alternate.alternate) _ (subst IsText (sym c.in_ok-alternate.ensures) fine.0)
    (both (is_fine (of_bit marks.durable)) _ (bit_is marks.durable)
    (query_fine c.is_some.result marks.auto_delete c.in_ok-arguments.arguments (nat_lt c.available.result 4294967296 && true) (subst IsMap (sym c.in_ok-arguments.ensures) fine.1) (both (nat_lt c.available.result 4294967296) true (grind (arith, nat_tests, c.available.type_inv)) refl))))
