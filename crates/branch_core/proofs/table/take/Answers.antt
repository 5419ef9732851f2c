-- What is written is a change at the place.
use Rattle.std.proofs.Common.{◌∙◌, Some, ap, sym}
use Rattle.std.specs.Option.{option_map}
use Rattle.sorted_map.proofs.Showing.{seen_change, seen_value}
use Rattle.branch_core.specs.Held.{held, emptied, intents_of}
use Rattle.branch_core.proofs.table.take.Goals as goal

pub returns-clause-intents : goal.returns-clause-intents
returns-clause-intents c = ap (λ is. Some is) c.take.ensures.intents ∙ sym (ap (option_map intents_of) (seen_value held c.args.branches.now.entries c.args.place ∙ ap (option_map held) c.value_mut.ensures.value))

pub returns-clause-branches : goal.returns-clause-branches
returns-clause-branches c = seen_change held emptied c.args.branches.now.entries c.args.place c.value_mut.result.now c.take.new.self c.value_mut.ensures.value c.take.ensures.held
