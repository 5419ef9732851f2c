-- There are so many empty lists more.
use Rattle.std.proofs.Common.{◌∙◌, ◌++◌, replicate, [], ap, List}
use Rattle.node_list.specs.declared.links.Ends.{Ends}
use Rattle.node_list.specs.Links.{no_ends}
use Rattle.node_list.specs.Lists.{Listed, Shows, listed}
use Rattle.node_list.proofs.Showing.{lists_are, held_are, sound_is, wider_shows}
use Rattle.node_list.proofs.lists.Lists.widen.Given.{Over}
use Rattle.node_list.proofs.lists.Lists.widen.Goals as goal

abbrev was : (g : Over) → goal.After-push_empty-2 g → Listed g.row.T.Denot
was g c = listed c.self.inside.nodes c.self.inside.ends.items c.self.inside.held_ends.items

shown : (g : Over) (c : goal.After-push_empty-2 g) → Shows c.self.inside.nodes c.push_empty.new.ends.items c.push_empty-2.new.ends.items ((was g c).lists ++ replicate c.args.lists []) ((was g c).held ++ replicate c.args.lists [])
shown g c =
    wider_shows c.self.inside.nodes c.self.inside.ends.items c.self.inside.held_ends.items c.self.invariant c.args.lists c.push_empty.new.ends.items c.push_empty-2.new.ends.items
    (c.push_empty.ensures ∙ ap (λ (es : List Ends). es ++ replicate c.args.lists no_ends) c.reserve.ensures.items)
    (c.push_empty-2.ensures ∙ ap (λ (es : List Ends). es ++ replicate c.args.lists no_ends) c.reserve-2.ensures.items)

pub invariant_of-self-2 : goal.invariant_of-self-2
invariant_of-self-2 g c = sound_is c.self.inside.nodes c.push_empty.new.ends.items c.push_empty-2.new.ends.items _ _ (shown g c)

pub returns-clause-lists : goal.returns-clause-lists
returns-clause-lists g c = rw (← c.self.view_is) (lists_are c.self.inside.nodes c.push_empty.new.ends.items c.push_empty-2.new.ends.items _ _ (shown g c))

pub returns-clause-held : goal.returns-clause-held
returns-clause-held g c = rw (← c.self.view_is) (held_are c.self.inside.nodes c.push_empty.new.ends.items c.push_empty-2.new.ends.items _ _ (shown g c))
