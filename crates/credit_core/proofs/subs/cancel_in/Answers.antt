-- The place is that of the first subscription with the destination.
use Rattle.std.proofs.Common.{sym, ◌∙◌, ap}
use Rattle.std.specs.List.{remove}
use Rattle.credit_core.specs.Turns.{is_for}
use Rattle.credit_core.proofs.Places.{found, missing, has_first, has_none, removed_first, removed_none}
use Rattle.credit_core.proofs.subs.cancel_in.Goals as goal

pub returns-in-Some-remove-clause-there : goal.returns-in-Some-remove-clause-there
returns-in-Some-remove-clause-there c =
    let test = is_for c.args.destination.now in
    let xs = c.args.places.now.items in
    let first = found test xs c.in-Some.place (sym c.find.ensures ∙ c.in-Some.is) in
    sym (has_first test xs first.there)

pub returns-in-Some-remove-clause-places : goal.returns-in-Some-remove-clause-places
returns-in-Some-remove-clause-places c =
    let test = is_for c.args.destination.now in
    let xs = c.args.places.now.items in
    let first = found test xs c.in-Some.place (sym c.find.ensures ∙ c.in-Some.is) in
    c.in-Some-remove.ensures.items ∙ ap (λ k. remove xs k) (sym first.is) ∙ removed_first c.args.destination.now xs first.there

pub returns-in-None-clause-there : goal.returns-in-None-clause-there
returns-in-None-clause-there c =
    let test = is_for c.args.destination.now in
    let xs = c.args.places.now.items in
    sym (has_none test xs (missing test xs (sym c.find.ensures ∙ c.in-None.is)))

pub returns-in-None-clause-places : goal.returns-in-None-clause-places
returns-in-None-clause-places c =
    let test = is_for c.args.destination.now in
    let xs = c.args.places.now.items in
    removed_none c.args.destination.now xs (missing test xs (sym c.find.ensures ∙ c.in-None.is))
