-- What is written is a change of the seat.
use Rattle.std.proofs.Common.{◌∙◌, ap, sym}
use Rattle.sorted_map.proofs.Showing.{seen_find, seen_changed, unchanged}
use Rattle.std.specs.Option.{option_map}
use Rattle.std.specs.Ordering.{nat_cmp}
use Rattle.branch_core.specs.State.{seated, seats_of, tx_in}
use Rattle.branch_core.specs.Acts.{tx_emptied}
use Rattle.branch_core.proofs.seats.take.Goals as goal

pub returns-in-Some-clause-intents : goal.returns-in-Some-clause-intents
returns-in-Some-clause-intents c = c.take.ensures.intents ∙ sym (ap tx_in (seen_find seated nat_cmp c.args.session c.args.seats.now.entries ∙ ap (option_map seated) (sym c.in-Some.ensures.some.1 ∙ c.value_mut.ensures.value)))

pub returns-in-Some-clause-seats : goal.returns-in-Some-clause-seats
returns-in-Some-clause-seats c = seen_changed seated nat_cmp c.args.session tx_emptied c.args.seats.now.entries c.in-Some.index c.value_mut.result.now c.take.new.self c.in-Some.ensures.index c.value_mut.ensures.value c.in-Some.ensures.some.1 c.take.ensures.seated

pub returns-in-None-clause-intents : goal.returns-in-None-clause-intents
returns-in-None-clause-intents c = sym (ap tx_in (seen_find seated nat_cmp c.args.session c.args.seats.now.entries ∙ ap (option_map seated) c.in-None.ensures.none))

pub returns-in-None-clause-seats : goal.returns-in-None-clause-seats
returns-in-None-clause-seats c = sym (unchanged nat_cmp c.args.session tx_emptied (seats_of c.args.seats.now.entries) (seen_find seated nat_cmp c.args.session c.args.seats.now.entries ∙ ap (option_map seated) c.in-None.ensures.none))
