-- A text is in UTF-8.
use Rattle.std.proofs.Common.{◌≡◌, ◌&&◌, Bool, true, false, length, ap, sym, subst, ◌∙◌, refl}
use Rattle.std.specs.Prelude.{IsUtf8}
use Rattle.std.specs.Str.{is_utf8}
use Rattle.std.proofs.lemmas.Str.{is_utf8-from_IsUtf8}
use Rattle.octet_reading.specs.Spelling.{fits}
use Rattle.amqp_values.proofs.fine.text_fits.Goals as goal

and_true : (b : Bool) → (b && true) ≡ b
and_true true = refl
and_true false = refl

pub returns : goal.returns
returns c =
    let utf8 : is_utf8 c.args.text.now ≡ true = is_utf8-from_IsUtf8 c.args.text.now (subst IsUtf8 c.as_slice.ensures.value c.as_slice.ensures.utf8) in
    c.fits.ensures ∙ ap (λ octets. fits c.args.width (length octets)) c.as_slice.ensures.value
    ∙ sym (ap (λ b. fits c.args.width (length c.args.text.now) && b) utf8 ∙ and_true (fits c.args.width (length c.args.text.now)))
