-- What is written is a change of the seat, and a new one is put in.
use Rattle.std.proofs.Common.{◌∙◌, Option, ap, sym}
use Rattle.sorted_map.proofs.Showing.{seen_find, seen_put, seen_changed}
use Rattle.std.specs.Option.{option_map}
use Rattle.std.specs.Ordering.{nat_cmp}
use Rattle.branch_core.specs.State.{Seated, seated, seats_of}
use Rattle.branch_core.specs.Acts.{selecting, seat_changed_if}
use Rattle.sorted_map.specs.Map.{put}
use Rattle.branch_core.proofs.seats.select.Goals as goal

pub returns-in-Some : goal.returns-in-Some
returns-in-Some c =
    seen_changed seated nat_cmp c.args.session (selecting c.args.dtx) c.args.seats.now.entries c.in-Some.index c.value_mut.result.now c.select.new.self c.in-Some.ensures.index c.value_mut.ensures.value c.in-Some.ensures.some.1 c.select.ensures
    ∙ sym (ap (λ (o : Option Seated). seat_changed_if o c.args.session (selecting c.args.dtx) (seats_of c.args.seats.now.entries)) (seen_find seated nat_cmp c.args.session c.args.seats.now.entries ∙ ap (option_map seated) (sym c.in-Some.ensures.some.1 ∙ c.value_mut.ensures.value)))

pub returns-in-None : goal.returns-in-None
returns-in-None c =
    ap seats_of c.put.ensures.entries
    ∙ (seen_put seated nat_cmp c.args.session c.select-in-None.new.self c.args.seats.now.entries
    ∙ (ap (λ (t : Seated). put nat_cmp c.args.session t (seats_of c.args.seats.now.entries)) (c.select-in-None.ensures ∙ ap (selecting c.args.dtx) c.new-seat.ensures)
    ∙ sym (ap (λ (o : Option Seated). seat_changed_if o c.args.session (selecting c.args.dtx) (seats_of c.args.seats.now.entries)) (seen_find seated nat_cmp c.args.session c.args.seats.now.entries ∙ ap (option_map seated) c.in-None.ensures.none))))
