-- std's test of a text is the definition's.
use Rattle.std.proofs.Common.{List, ℕ, Some, None, Bool, Option, if◌then◌else◌, ap, sym, ◌∙◌}
use Rattle.std.proofs.lemmas.Bool.{false_from_ne_true}
use Rattle.std.specs.Str.{is_utf8}
use Rattle.std.proofs.lemmas.Str.{is_utf8-from_IsUtf8, IsUtf8-from_is_utf8}
use Rattle.keeper_rows.proofs.read.as_text.Goals as goal

picks : List ℕ → Bool → Option (List ℕ)
picks octets b = if b then Some octets else None

pub returns-in-Ok : goal.returns-in-Ok
unfolding picks
returns-in-Ok c = ap Some c.in-Ok.ensures.cases.0 ∙ sym (ap (picks c.args.octets.now) (is_utf8-from_IsUtf8 c.args.octets.now c.in-Ok.ensures.cases.1))

pub returns-in-Err : goal.returns-in-Err
unfolding picks
returns-in-Err c =
    sym (ap (picks c.args.octets.now) (false_from_ne_true (is_utf8 c.args.octets.now) (λ t. c.in-Err.ensures.cases.0 (IsUtf8-from_is_utf8 c.args.octets.now t))))
