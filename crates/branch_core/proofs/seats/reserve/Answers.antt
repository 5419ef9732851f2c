-- Room alone is written.
use Rattle.std.proofs.Common.{true, ◌≡◌, ◌≤◌, ◌∙◌, Option, None, Some, is_some, ap, sym, subst, ℕ, OnOk}
use Rattle.std.proofs.lemmas.Bool.{true≢false}
use Rattle.sorted_map.proofs.Showing.{seen_same, seen_find, seen_written}
use Rattle.std.specs.Option.{option_map}
use Rattle.std.specs.Ordering.{nat_cmp}
use Rattle.branch_core.specs.State.{Seated, seated, tx_room, tx_in, room_in}
use Rattle.branch_intents.specs.Intents.{Intended}
use Rattle.branch_core.proofs.seats.reserve.Goals as goal

pub reserve-requires : goal.reserve-requires
reserve-requires c = has c.value_mut.result.now.tx (sym (ap (λ (o : Option Seated). is_some (tx_in o)) (seen_find seated nat_cmp c.args.session c.args.seats.now.entries ∙ ap (option_map seated) (sym c.in-Some.ensures.some.1 ∙ c.value_mut.ensures.value))) ∙ c.requires) where
  has : (tx : Option Intended) → is_some (option_map (λ i. i.items) tx) ≡ true → is_some tx ≡ true
  has None e = e
  has (Some i) e = e

pub unreachable-requires : goal.unreachable-requires
unreachable-requires c = true≢false (sym c.requires ∙ ap (λ (o : Option Seated). is_some (tx_in o)) (seen_find seated nat_cmp c.args.session c.args.seats.now.entries ∙ ap (option_map seated) c.in-None.ensures.none))

pub returns-clause-seats : goal.returns-clause-seats
returns-clause-seats c = seen_same seated c.args.seats.now.entries c.in-Some.index c.value_mut.result.now c.reserve.new.self c.value_mut.ensures.value c.reserve.ensures.seated

pub returns-clause-ok : goal.returns-clause-ok
returns-clause-ok c =
    subst (λ (n : ℕ). OnOk c.reserve.result (c.args.more ≤ n))
    (sym (ap room_in (seen_written (λ s. tx_room s.tx) nat_cmp c.args.session c.args.seats.now.entries c.in-Some.index c.reserve.new.self c.in-Some.ensures.index c.in-Some.ensures.some.0)))
    c.reserve.ensures.ok
