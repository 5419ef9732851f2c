-- A text is UTF-8.
use Rattle.std.proofs.Common.{◌≡◌, ltb, length, true, subst}
use Rattle.std.proofs.lemmas.Bool.{and_from}
use Rattle.std.proofs.lemmas.Str.{is_utf8-from_IsUtf8}
use Rattle.octet_reading.specs.declared.part.SizeWidth.TheVariants.{One}
use Rattle.amqp_packed.specs.Spelling.{text_fine}
use Rattle.broker_engine.proofs.write.is_short.Goals as goal

pub returns : goal.returns
returns c = λ short.
    subst (λ text. text_fine One text ≡ true) c.as_slice.ensures.value
    (and_from (ltb (length c.as_slice.result.now) 256) _ short (is_utf8-from_IsUtf8 c.as_slice.result.now c.as_slice.ensures.utf8))
