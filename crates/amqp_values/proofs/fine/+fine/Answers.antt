-- One item that isn't fine is enough.
use Rattle.std.proofs.Common.{◌&&◌, eqb, sym, ap, ◌∙◌}
use Rattle.amqp_values.specs.declared.value.Pair.{Pair}
use Rattle.amqp_values.specs.declared.value.Value.{Value}
use Rattle.amqp_values.specs.Spelling.{Told, told, told_pair}
use Rattle.amqp_values.proofs.Items.{one_not}
use Rattle.amqp_values.proofs.fine.+fine.Goals as goal

pub are_fine-returns-then-not-is_fine : goal.are_fine-returns-then-not-is_fine
are_fine-returns-then-not-is_fine t c =
    sym (one_not told (λ (t : Told). t.fine) c.args.items.now c.loop-item.item-index c.item-item.result c.loop-item-test.true
    (ap (λ (v : Value). (told v).fine) (sym c.item-item.is) ∙ sym c.is_fine.ensures ∙ c.if-not-is_fine.true))

pub are_pairs-returns-then-not-is_fine : goal.are_pairs-returns-then-not-is_fine
are_pairs-returns-then-not-is_fine t c =
    sym (one_not told_pair (λ (p : Pair Told). p.value.fine) c.args.pairs.now c.loop-pair.pair-index c.pair-item.result c.loop-pair-test.true
    (ap (λ (p : Pair Value). (told p.value).fine) (sym c.pair-item.is) ∙ sym c.is_fine.ensures ∙ c.if-not-is_fine.true))

pub are_alike-returns-then-not-is_alike : goal.are_alike-returns-then-not-is_alike
are_alike-returns-then-not-is_alike t c =
    sym (one_not told (λ (t : Told). eqb t.code c.args.code && t.fine) c.args.items.now c.loop-item.item-index c.item-item.result c.loop-item-test.true
    (ap (λ (v : Value). eqb (told v).code c.args.code && (told v).fine) (sym c.item-item.is) ∙ sym c.is_alike.ensures ∙ c.if-not-is_alike.true))
