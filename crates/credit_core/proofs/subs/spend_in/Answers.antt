-- The subscription is there, as its credit suffices.
use Rattle.std.proofs.Common.{◌≡◌, ◌++◌, ◌∷◌, [], sym, ap, ◌∙◌, slice_index_or}
use Rattle.std.specs.List.{remove}
use Rattle.std.proofs.lemmas.Bool.{true≢false}
use Rattle.credit_core.specs.declared.sub.SubState.{SubState}
use Rattle.credit_core.specs.Turns.{is_for, takes, epoch_in, spent_by}
use Rattle.credit_core.proofs.Places.{place, found, missing, find_none, find_first, moved_first}
use Rattle.credit_core.proofs.subs.spend_in.Goals as goal

pub unreachable-requires : goal.unreachable-requires
unreachable-requires c =
    let test = is_for c.args.destination.now in
    let xs = c.args.places.now.items in
    true≢false (sym c.requires ∙ ap (λ r. takes r c.args.octets) (find_none test xs (missing test xs (sym c.find.ensures ∙ c.in_default.is))))

pub spent-state-requires : goal.spent-state-requires
spent-state-requires c =
    let test = is_for c.args.destination.now in
    let xs = c.args.places.now.items in
    let first = found test xs c.in-Some.place (sym c.find.ensures ∙ c.in-Some.is) in
    let state = c.in-Some-remove.state in
    let there : state ≡ slice_index_or xs (place test xs) state = c.in-Some-remove.ensures.value ∙ ap (λ k. slice_index_or xs k state) (sym first.is) in
    sym (ap (λ r. takes r c.args.octets) (find_first test xs state first.there there)) ∙ c.requires

pub returns-clause-epoch : goal.returns-clause-epoch
returns-clause-epoch c =
    let test = is_for c.args.destination.now in
    let xs = c.args.places.now.items in
    let first = found test xs c.in-Some.place (sym c.find.ensures ∙ c.in-Some.is) in
    let state = c.in-Some-remove.state in
    let there : state ≡ slice_index_or xs (place test xs) state = c.in-Some-remove.ensures.value ∙ ap (λ k. slice_index_or xs k state) (sym first.is) in
    ap (λ (s : SubState). s.epoch) c.spent-state.ensures ∙ sym (ap epoch_in (find_first test xs state first.there there))

pub returns-clause-places : goal.returns-clause-places
returns-clause-places c =
    let test = is_for c.args.destination.now in
    let xs = c.args.places.now.items in
    let first = found test xs c.in-Some.place (sym c.find.ensures ∙ c.in-Some.is) in
    let state = c.in-Some-remove.state in
    let there : state ≡ slice_index_or xs (place test xs) state = c.in-Some-remove.ensures.value ∙ ap (λ k. slice_index_or xs k state) (sym first.is) in
    c.push_back_reserved.ensures.items
    ∙ ap (λ s. c.remove.new.self.items ++ s ∷ []) c.spent-state.ensures
    ∙ ap (λ ys. ys ++ spent_by c.args.octets state ∷ []) (c.in-Some-remove.ensures.items ∙ ap (remove xs) (sym first.is))
    ∙ moved_first (spent_by c.args.octets) c.args.destination.now xs state first.there there
