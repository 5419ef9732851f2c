-- The place is that of the first subscription with the destination.
use Rattle.std.proofs.Common.{sym, ◌∙◌, ap}
use Rattle.credit_core.specs.Turns.{is_for, at_place, changed_by}
use Rattle.credit_core.proofs.Places.{found, missing, has_first, has_none, changed_first, changed_none}
use Rattle.credit_core.proofs.subs.change_in.Goals as goal

pub returns-in-Some-clause-there : goal.returns-in-Some-clause-there
returns-in-Some-clause-there c =
    let test = is_for c.args.destination.now in
    let xs = c.args.places.now.items in
    let first = found test xs c.in-Some.place (sym c.find.ensures ∙ c.in-Some.is) in
    sym (has_first test xs first.there)

pub returns-in-Some-clause-places : goal.returns-in-Some-clause-places
returns-in-Some-clause-places c =
    let test = is_for c.args.destination.now in
    let xs = c.args.places.now.items in
    let f = changed_by c.args.change in
    let first = found test xs c.in-Some.place (sym c.find.ensures ∙ c.in-Some.is) in
    c.change_at.ensures.places ∙ ap (λ k. at_place f k xs) (sym first.is) ∙ changed_first f c.args.destination.now xs first.there

pub returns-in-None-clause-there : goal.returns-in-None-clause-there
returns-in-None-clause-there c =
    let test = is_for c.args.destination.now in
    let xs = c.args.places.now.items in
    sym (has_none test xs (missing test xs (sym c.find.ensures ∙ c.in-None.is)))

pub returns-in-None-clause-places : goal.returns-in-None-clause-places
returns-in-None-clause-places c =
    let test = is_for c.args.destination.now in
    let xs = c.args.places.now.items in
    changed_none (changed_by c.args.change) c.args.destination.now xs (missing test xs (sym c.find.ensures ∙ c.in-None.is))
