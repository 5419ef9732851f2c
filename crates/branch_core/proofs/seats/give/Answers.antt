-- What is written is a change of the seat.
use Rattle.std.proofs.Common.{Some, ◌<◌, ◌+◌, ◌∙◌, Option, is_some, ap, sym, subst, ℕ}
use Rattle.std.proofs.lemmas.Bool.{true≢false}
use Rattle.sorted_map.proofs.Showing.{seen_find, seen_changed, seen_there, seen_written}
use Rattle.std.specs.Option.{option_map}
use Rattle.std.specs.Ordering.{nat_cmp}
use Rattle.branch_core.specs.State.{Seated, seated, tx_room, tx_in, room_in}
use Rattle.branch_core.specs.Acts.{tx_given}
use Rattle.sorted_map.specs.Map.{with_value}
use Rattle.branch_core.proofs.seats.give.Goals as goal

pub put-requires : goal.put-requires
put-requires c = subst (λ (o : Option ℕ). 0 < room_in o) (seen_there (λ s. tx_room s.tx) nat_cmp c.args.session c.args.seats.now.entries c.in-Some.index c.value_mut.result.now c.in-Some.ensures.index c.value_mut.ensures.value) c.requires.room

pub unreachable-requires : goal.unreachable-requires
unreachable-requires c = true≢false (sym c.requires.tx ∙ ap (λ (o : Option Seated). is_some (tx_in o)) (seen_find seated nat_cmp c.args.session c.args.seats.now.entries ∙ ap (option_map seated) c.in-None.ensures.none))

pub returns-clause-seats : goal.returns-clause-seats
returns-clause-seats c = seen_changed seated nat_cmp c.args.session (tx_given c.args.intent) c.args.seats.now.entries c.in-Some.index c.value_mut.result.now c.put.new.self c.in-Some.ensures.index c.value_mut.ensures.value c.in-Some.ensures.some.1 c.put.ensures.seated

pub returns-clause-room : goal.returns-clause-room
returns-clause-room c =
    ap (λ (o : Option ℕ). room_in o + 1) (seen_written (λ s. tx_room s.tx) nat_cmp c.args.session c.args.seats.now.entries c.in-Some.index c.put.new.self c.in-Some.ensures.index c.in-Some.ensures.some.0)
    ∙ (c.put.ensures.room
    ∙ sym (ap room_in (seen_there (λ s. tx_room s.tx) nat_cmp c.args.session c.args.seats.now.entries c.in-Some.index c.value_mut.result.now c.in-Some.ensures.index c.value_mut.ensures.value)))

pub returns-clause-seat : goal.returns-clause-seat
returns-clause-seat c =
    seen_find seated nat_cmp c.args.session (with_value c.args.seats.now.entries c.in-Some.index c.put.new.self)
    ∙ (ap (option_map seated) (c.in-Some.ensures.written c.put.new.self)
    ∙ (ap (λ (t : Seated). Some t) c.put.ensures.seated
    ∙ sym (ap (option_map (tx_given c.args.intent)) (seen_find seated nat_cmp c.args.session c.args.seats.now.entries ∙ ap (option_map seated) (sym c.in-Some.ensures.some.1 ∙ c.value_mut.ensures.value)))))
