-- What has a row has parts that have one.
use Rattle.std.proofs.Common.{◌≡◌, ◌&&◌, not, true, ℕ, List, Option, subst}
use Rattle.std.specs.Prelude.{nat_lt}
use Rattle.std.proofs.lemmas.Bool.{and_parts}
use Rattle.keeper_rows.specs.declared.kept.Kept.{Kept}
use Rattle.keeper_rows.specs.declared.kept.Kept.TheVariants.{Exchange}
use Rattle.amqp_values.specs.declared.value.Value.{Value}
use Rattle.keeper_rows.specs.Rows.{has_row, text_fine, name_fine, copy_fine, arguments_fine, is_reserved}
use Rattle.keeper_rows.proofs.write.put_inside.Goals as goal

pub put_copy-requires : goal.put_copy-requires
put_copy-requires c =
    let fine = subst (λ (k : Kept). has_row k ≡ true) c.in-Intent.is c.requires in
    (and_parts _ (copy_fine c.in-Intent.copy) (and_parts _ _ fine).1).1

exchange_arguments : (name : List ℕ) (kind : ℕ) (alternate : List ℕ) (arguments : Option Value) → has_row (Exchange name kind alternate arguments) ≡ true → arguments_fine arguments ≡ true
exchange_arguments name kind alternate arguments fine =
    (and_parts (text_fine alternate) (arguments_fine arguments) (and_parts (nat_lt kind 4) (text_fine alternate && arguments_fine arguments) (and_parts (name_fine name && not (is_reserved name)) (nat_lt kind 4 && (text_fine alternate && arguments_fine arguments)) fine).1).1).1

pub put_arguments-requires-in-Exchange : goal.put_arguments-requires-in-Exchange
put_arguments-requires-in-Exchange c =
    exchange_arguments c.in-Exchange.name c.in-Exchange.kind c.in-Exchange.alternate c.in-Exchange.arguments (subst (λ (k : Kept). has_row k ≡ true) c.in-Exchange.is c.requires)
