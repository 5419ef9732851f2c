-- All lists are empty.
use Rattle.std.proofs.Common.{replicate, []}
use Rattle.node_list.specs.Lists.{Shows}
use Rattle.node_list.proofs.Showing.{lists_are, held_are, sound_is, nothing_shows}
use Rattle.node_list.proofs.lists.Lists.new.Given.{Over}
use Rattle.node_list.proofs.lists.Lists.new.Goals as goal

shown : (g : Over) (c : goal.After-new g) → Shows c.new.result c.in_ok-ends.ends.items c.in_ok-held_ends.held_ends.items (replicate c.args.lists []) (replicate c.args.lists [])
shown g c = nothing_shows c.new.result c.new.ensures.empty c.args.lists c.in_ok-ends.ends.items c.in_ok-held_ends.held_ends.items c.in_ok-ends.ensures c.in_ok-held_ends.ensures

pub invariant_of-result : goal.invariant_of-result
invariant_of-result g c = sound_is c.new.result c.in_ok-ends.ends.items c.in_ok-held_ends.held_ends.items _ _ (shown g c)

pub returns-clause-lists : goal.returns-clause-lists
returns-clause-lists g c = lists_are c.new.result c.in_ok-ends.ends.items c.in_ok-held_ends.held_ends.items _ _ (shown g c)

pub returns-clause-held : goal.returns-clause-held
returns-clause-held g c = held_are c.new.result c.in_ok-ends.ends.items c.in_ok-held_ends.held_ends.items _ _ (shown g c)
