-- A short text is a field.
use Rattle.std.proofs.Common.{◌≡◌, ℕ, List, true, length, sym, subst, arith}
use Rattle.std.proofs.lemmas.Bool.Decides.{nat_tests}
use Rattle.std.proofs.lemmas.Str.{is_utf8-from_IsUtf8}
use Rattle.std.specs.Str.{is_utf8}
use Rattle.octet_reading.specs.declared.part.SizeWidth.TheVariants.{One}
use Rattle.octet_reading.specs.Spelling.{fits}
use Rattle.amqp_packed.specs.Spelling.{text_fine}
use Rattle.broker_core.proofs.Results.{both}
use Rattle.broker_core.proofs.tests.field.Goals as goal

abbrev IsText : List ℕ → Type 0
IsText t = text_fine One t ≡ true

pub returns : goal.returns
returns c =
    let text = c.args.text.now in
    subst IsText (sym c.in_ok-from_text.ensures) (both (fits One (length text)) (is_utf8 text) (grind (arith, nat_tests, c.if-text-gt255.false)) (is_utf8-from_IsUtf8 text c.utf8.text))
