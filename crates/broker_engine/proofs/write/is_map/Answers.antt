-- Its code is known by its variant.
use Rattle.std.proofs.Common.{eqb, ap, sym, ◌∙◌}
use Rattle.std.proofs.lemmas.Bool.{and_from}
use Rattle.amqp_values.specs.declared.value.Value.{Value}
use Rattle.amqp_values.specs.Spelling.{Told, told, is_valid}
use Rattle.amqp_values.proofs.Telling.{told_map}
use Rattle.broker_engine.proofs.write.is_map.Goals as goal

pub returns-in-Map : goal.returns-in-Map
returns-in-Map c = λ e.
    and_from (eqb (told c.args.value.now).code 168) (is_valid c.args.value.now) (ap (λ (v : Value). eqb (told v).code 168) c.in-Map.is ∙ ap (λ (t : Told). eqb t.code 168) (told_map _)) (sym c.valid.ensures ∙ e)
