-- One after the other.
use Rattle.std.proofs.Common.{◌∙◌, ◌++◌, ◌∷◌, [], ap, codes}
use Rattle.amqp_values.specs.declared.value.Value.TheVariants as value
use Rattle.conn_core.proofs.answers.mechanisms.Goals as goal

pub returns : goal.returns
returns c =
    let first = c.in_ok-push_name.ensures ∙ ap (λ ns. ns ++ value.Text16 (codes "ANONYMOUS") ∷ []) c.new-names.ensures in
    c.array.ensures ∙ ap (value.Array 149) (c.in_ok-push_name-2.ensures ∙ ap (λ ns. ns ++ value.Text16 (codes "PLAIN") ∷ []) first)
