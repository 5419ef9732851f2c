-- Its code is known by its variant.
use Rattle.std.proofs.Common.{eqb, ap, sym, ◌∙◌}
use Rattle.std.proofs.lemmas.Bool.{and_from}
use Rattle.amqp_values.specs.declared.value.Value.{Value}
use Rattle.amqp_values.specs.Spelling.{Told, told, is_valid}
use Rattle.amqp_values.proofs.Telling.{told_array}
use Rattle.broker_engine.proofs.write.is_array.Goals as goal

pub returns-in-Array : goal.returns-in-Array
returns-in-Array c = λ e.
    and_from (eqb (told c.args.value.now).code 170) (is_valid c.args.value.now) (ap (λ (v : Value). eqb (told v).code 170) c.in-Array.is ∙ ap (λ (t : Told). eqb t.code 170) (told_array _ _)) (sym c.valid.ensures ∙ e)
