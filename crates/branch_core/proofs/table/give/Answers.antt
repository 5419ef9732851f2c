-- What is written is a change at the place.
use Rattle.std.proofs.Common.{◌<◌, ◌+◌, ◌∙◌, Option, ap, sym, subst, ℕ}
use Rattle.sorted_map.proofs.Showing.{seen_change, seen_value, value_with}
use Rattle.std.specs.Option.{option_map}
use Rattle.sorted_map.specs.Map.{with_value}
use Rattle.branch_core.specs.Held.{held, given}
use Rattle.branch_core.specs.State.{room_in}
use Rattle.branch_core.proofs.table.give.Goals as goal

pub put-requires : goal.put-requires
put-requires c = subst (λ (o : Option ℕ). 0 < room_in o) (seen_value (λ b. b.intents.room) c.args.branches.now.entries c.args.place ∙ ap (option_map _) c.value_mut.ensures.value) c.requires.room

pub returns-clause-branches : goal.returns-clause-branches
returns-clause-branches c = seen_change held (given c.args.intent) c.args.branches.now.entries c.args.place c.value_mut.result.now c.put.new.self c.value_mut.ensures.value c.put.ensures.held

pub returns-clause-room : goal.returns-clause-room
returns-clause-room c =
    ap (λ (o : Option ℕ). room_in o + 1) (seen_value (λ b. b.intents.room) (with_value c.args.branches.now.entries c.args.place c.put.new.self) c.args.place ∙ ap (option_map _) (value_with c.args.branches.now.entries c.args.place c.put.new.self c.requires.place))
    ∙ (c.put.ensures.room
    ∙ sym (ap room_in (seen_value (λ b. b.intents.room) c.args.branches.now.entries c.args.place ∙ ap (option_map _) c.value_mut.ensures.value)))
