-- A reason's word is a short text.
use Rattle.std.proofs.Common.{◌≡◌, ◌∙◌, ◌&&◌, ltb, length, true, ap, sym, subst, refl}
use Rattle.std.proofs.lemmas.Bool.{and_from}
use Rattle.std.proofs.lemmas.Str.{is_utf8-from_IsUtf8}
use Rattle.octet_reading.specs.declared.part.SizeWidth.TheVariants.{One}
use Rattle.amqp_packed.specs.Spelling.{text_fine}
use Rattle.broker_engine.proofs.Said.{word_short}
use Rattle.broker_engine.proofs.write.close_of.Goals as goal

pub returns-clause-fine : goal.returns-clause-fine
returns-clause-fine c =
    let short : ltb (length c.word.result.now) 256 ≡ true = ap (λ w. ltb (length w) 256) c.word.ensures ∙ word_short c.args.why in
    subst (λ t. (text_fine One t && true) ≡ true) (sym c.in_ok-from_text.ensures)
    (and_from (text_fine One c.word.result.now) true (and_from (ltb (length c.word.result.now) 256) _ short (is_utf8-from_IsUtf8 c.word.result.now c.word.utf8)) refl)
