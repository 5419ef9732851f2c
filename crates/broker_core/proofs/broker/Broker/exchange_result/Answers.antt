-- The word and the arguments are fine.
use Rattle.std.proofs.Common.{◌≡◌, ℕ, List, Option, true, sym, subst, refl, rules, length}
use Rattle.std.specs.Str.{is_utf8}
use Rattle.std.proofs.lemmas.Str.{is_utf8-from_IsUtf8}
use Rattle.octet_reading.specs.Spelling.{fits}
use Rattle.broker_core.proofs.Fine.{kind_fits}
use Rattle.octet_reading.specs.declared.part.SizeWidth.TheVariants.{One}
use Rattle.amqp_values.specs.declared.value.Value.{Value}
use Rattle.amqp_packed.specs.Spelling.{text_fine, is_fine}
use Rattle.amqp_packed.specs.Typed.{of_bit, of_map}
use Rattle.broker_core.specs.Sound.{map_fine}
use Rattle.broker_core.proofs.Sounding.{exchange_found}
use Rattle.broker_core.proofs.Results.{both, bit_is, map_is}
use Rattle.broker_core.proofs.broker.Broker.exchange_result.Goals as goal

abbrev IsMap : Option Value → Type 0
IsMap m = map_fine m ≡ true

abbrev Fits : List ℕ → Type 0
Fits t = fits One (length t) ≡ true

abbrev IsText : List ℕ → Type 0
IsText t = text_fine One t ≡ true

pub returns-clause-fine : goal.returns-clause-fine
returns-clause-fine c =
    let marks = c.in-Some.marks.now in
    let word = c.kind_name.result.now in
    let fine = exchange_found c.args.name.now c.self.inside.exchanges.entries c.self.invariant.exchanges marks (search rules) in
    both (text_fine One c.in_ok-kind.kind) _ (subst IsText (sym c.in_ok-kind.ensures) (both (fits One (length word)) (is_utf8 word) (subst Fits (sym c.kind_name.ensures) (kind_fits marks.kind)) (is_utf8-from_IsUtf8 word c.kind_name.utf8)))
    (both (is_fine (of_bit marks.durable)) _ (bit_is marks.durable)
    (both (is_fine (of_map c.in_ok-arguments.arguments)) true (map_is c.in_ok-arguments.arguments (subst IsMap (sym c.in_ok-arguments.ensures) fine)) refl))
