-- What is written is a change of the seat.
use Rattle.std.proofs.Common.{◌≡◌, ◌∙◌, None, ap, sym, rules}
use Rattle.sorted_map.proofs.Showing.{seen_find, seen_changed, unchanged}
use Rattle.std.specs.Option.{option_map}
use Rattle.std.specs.Ordering.{nat_cmp}
use Rattle.sorted_map.specs.Map.{find}
use Rattle.branch_core.specs.State.{seated, seats_of}
use Rattle.branch_core.specs.Acts.{turned}
use Rattle.branch_core.proofs.seats.turn_one.Goals as goal

pub returns-in-Some : goal.returns-in-Some
returns-in-Some c = seen_changed seated nat_cmp c.args.session (turned c.args.turn) c.args.seats.now.entries c.in-Some.index c.value_mut.result.now c.turn.new.self c.in-Some.ensures.index c.value_mut.ensures.value c.in-Some.ensures.some.1 c.turn.ensures

pub returns-in_default : goal.returns-in_default
returns-in_default c = sym (unchanged nat_cmp c.args.session (turned c.args.turn) (seats_of c.args.seats.now.entries) (seen_find seated nat_cmp c.args.session c.args.seats.now.entries ∙ ap (option_map seated) none)) where
  none : find nat_cmp c.args.session c.args.seats.now.entries ≡ None
  none = search rules
