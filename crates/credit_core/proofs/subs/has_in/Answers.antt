-- There is a place exactly where one has the destination.
use Rattle.std.proofs.Common.{sym, ◌∙◌}
use Rattle.credit_core.specs.Turns.{is_for}
use Rattle.credit_core.proofs.Places.{found, missing, has_first, has_none}
use Rattle.credit_core.proofs.subs.has_in.Goals as goal

pub returns-in-Some : goal.returns-in-Some
returns-in-Some c =
    let test = is_for c.args.destination.now in
    let xs = c.args.places.now.items in
    sym (has_first test xs (found test xs c.in-Some.field-0 (sym c.find.ensures ∙ c.in-Some.is)).there)

pub returns-in-None : goal.returns-in-None
returns-in-None c =
    let test = is_for c.args.destination.now in
    let xs = c.args.places.now.items in
    sym (has_none test xs (missing test xs (sym c.find.ensures ∙ c.in-None.is)))
