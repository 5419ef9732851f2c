-- The node is in no list, and everything else stays.
use Rattle.std.proofs.Common.{◌≡◌, ◌∙◌, None, ℕ, ap, map, slice_index_or, arith}
use Rattle.std.proofs.lemmas.List.{map-set}
use Rattle.node_list.specs.Keys.{without}
use Rattle.node_list.specs.Links.{place_in, place_at, item_in}
use Rattle.node_list.specs.Lists.{Listed, Shows, listed}
use Rattle.node_list.proofs.Showing.{lists_are, held_are, sound_is, is_listed, unlink_shows}
use Rattle.node_list.proofs.lists.Lists.unlink.Given.{Over}
use Rattle.node_list.proofs.lists.Lists.unlink.Goals as goal

abbrev was : (g : Over) → goal.After-join-2 g → Listed g.row.T.Denot
was g c = listed c.self.inside.nodes c.self.inside.ends.items c.self.inside.held_ends.items

shown : (g : Over) (c : goal.After-join-2 g) → Shows c.join-2.new.nodes c.join.new.ends.items c.join-2.new.ends.items (map (λ keys. without c.args.key keys) (was g c).lists) (map (λ keys. without c.args.key keys) (was g c).held)
shown g c =
    unlink_shows c.self.inside.nodes c.remove-node.new.self c.join.new.nodes c.join-2.new.nodes c.self.inside.ends.items c.self.inside.held_ends.items c.self.invariant c.args.key c.remove-node.ensures.updates (c.join-2.ensures.items ∙ c.join.ensures.items)
    (slice_index_or c.remove-node.result.places 0 None) (slice_index_or c.remove-node.result.places 1 None) (ap (place_in 0) c.remove-node.ensures.value) (ap (place_in 1) c.remove-node.ensures.value)
    c.join.new.ends.items c.join-2.new.ends.items c.join.ensures.places (c.join.ensures.lanes 1 one_zero) c.join.ensures.ends c.join-2.ensures.places (c.join-2.ensures.lanes 0 zero_one) c.join-2.ensures.ends where
      one_zero : ◌≡◌ {A = ℕ} 1 0 → ⊥
      one_zero e = omega (arith, e)

      zero_one : ◌≡◌ {A = ℕ} 0 1 → ⊥
      zero_one e = omega (arith, e)

pub join-requires-clause-list : goal.join-requires-clause-list
join-requires-clause-list g c = is_listed (place_at c.self.inside.nodes 0) c.self.inside.ends.items _ c.self.invariant.order c.args.key (slice_index_or c.remove-node.result.places 0 None) (ap (place_in 0) c.remove-node.ensures.value)

pub join-requires-2-clause-list : goal.join-requires-2-clause-list
join-requires-2-clause-list g c = is_listed (place_at c.self.inside.nodes 1) c.self.inside.held_ends.items _ c.self.invariant.held c.args.key (slice_index_or c.remove-node.result.places 1 None) (ap (place_in 1) c.remove-node.ensures.value)

pub invariant_of-self : goal.invariant_of-self
invariant_of-self g c = sound_is c.join-2.new.nodes c.join.new.ends.items c.join-2.new.ends.items _ _ (shown g c)

pub returns-clause-items : goal.returns-clause-items
returns-clause-items g c =
    rw (← c.self.view_is) ((c.join-2.ensures.items ∙ c.join.ensures.items) ∙ (ap (map item_in) c.remove-node.ensures.slots ∙ map-set item_in c.self.inside.nodes.slots c.args.key None))

pub returns-clause-lists : goal.returns-clause-lists
returns-clause-lists g c = rw (← c.self.view_is) (lists_are c.join-2.new.nodes c.join.new.ends.items c.join-2.new.ends.items _ _ (shown g c))

pub returns-clause-held : goal.returns-clause-held
returns-clause-held g c = rw (← c.self.view_is) (held_are c.join-2.new.nodes c.join.new.ends.items c.join-2.new.ends.items _ _ (shown g c))
