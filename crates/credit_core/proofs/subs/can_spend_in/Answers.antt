-- The subscription at the place is the one of the destination.
use Rattle.std.proofs.Common.{◌≡◌, ◌∙◌, sym, ap, slice_index_or}
use Rattle.credit_core.specs.Turns.{is_for, takes}
use Rattle.credit_core.proofs.Places.{place, found, missing, find_none, find_first}
use Rattle.credit_core.proofs.subs.can_spend_in.Goals as goal

pub returns-in_default : goal.returns-in_default
returns-in_default c =
    let test = is_for c.args.destination.now in
    let xs = c.args.places.now.items in
    sym (ap (λ r. takes r c.args.octets) (find_none test xs (missing test xs (sym c.find.ensures ∙ c.in_default.is))))

pub returns : goal.returns
returns c =
    let test = is_for c.args.destination.now in
    let xs = c.args.places.now.items in
    let first = found test xs c.in-Some.place (sym c.find.ensures ∙ c.in-Some.is) in
    let state = c.in-Some-get.state.now in
    let there : state ≡ slice_index_or xs (place test xs) state = c.in-Some-get.ensures.lookup ∙ ap (λ k. slice_index_or xs k state) (sym first.is) in
    c.takes.ensures ∙ sym (ap (λ r. takes r c.args.octets) (find_first test xs state first.there there))
