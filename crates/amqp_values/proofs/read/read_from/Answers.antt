-- The flaw that was found, by its index.
use Rattle.std.proofs.Common.{◌≡◌, ◌-◌, Err, length, ap, sym, subst, ◌∙◌}
use Rattle.std.specs.Prelude.{max}
use Rattle.octet_reading.specs.declared.flaw.ReadError.{ReadError}
use Rattle.octet_reading.specs.Reading.{Fails}
use Rattle.amqp_values.specs.Values.{value_at, index_of}
use Rattle.amqp_values.proofs.read.read_from.Goals as goal

pub returns-in-Err-Flaw : goal.returns-in-Err-Flaw
returns-in-Err-Flaw c =
    let flaw = c.in-Err-Flaw.flaw in
    let found : value_at 16 c.args.code c.octets_from-rest.result.now ≡ Err flaw =
    subst (λ (e : ReadError). Fails e (value_at 16 c.args.code c.octets_from-rest.result.now)) c.in-Err-Flaw.field-0-is c.in-Err-Flaw.ensures.gives in
    ap (λ octets. index_of (max c.args.at (length c.args.octets.now)) (value_at 16 c.args.code octets)) (sym c.octets_from-rest.ensures)
    ∙ ap (index_of (max c.args.at (length c.args.octets.now))) found
    ∙ ap (λ end. Err (record { at = end - flaw.left; why = flaw.why })) (sym c.max-end.ensures)
