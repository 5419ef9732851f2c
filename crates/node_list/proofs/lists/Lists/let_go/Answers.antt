-- The node is in no holder's list, and everything else stays.
use Rattle.std.proofs.Common.{◌≡◌, ◌∙◌, None, ℕ, sym, map, arith}
use Rattle.node_list.specs.Keys.{without}
use Rattle.node_list.specs.Links.{place_at, placed}
use Rattle.node_list.specs.Lists.{Listed, Shows, listed}
use Rattle.node_list.proofs.Showing.{lists_are, held_are, sound_is, is_listed, lets_go_shows, joined_same}
use Rattle.node_list.proofs.lists.Lists.let_go.Given.{Over}
use Rattle.node_list.proofs.lists.Lists.let_go.Goals as goal

abbrev was : (g : Over) → goal.After-join g → Listed g.row.T.Denot
was g c = listed c.self.inside.nodes c.self.inside.ends.items c.self.inside.held_ends.items

shown : (g : Over) (c : goal.After-join g) → Shows c.join.new.nodes c.self.inside.ends.items c.join.new.ends.items (was g c).lists (map (λ keys. without c.args.key keys) (was g c).held)
shown g c =
    lets_go_shows c.self.inside.nodes c.join.new.nodes c.self.inside.ends.items c.self.inside.held_ends.items c.self.invariant (c.join.ensures.items ∙ c.set_place.ensures.items) c.args.key
    c.place_of-place.result (sym c.place_of-place.ensures) c.join.new.ends.items
    (λ j. c.join.ensures.places j ∙ joined_same c.place_of-place.result (place_at c.set_place.new.nodes 1) (placed c.args.key None (place_at c.self.inside.nodes 1)) j (c.set_place.ensures.set j))
    (λ j. c.join.ensures.lanes 0 zero_one j ∙ c.set_place.ensures.lanes 0 zero_one j) c.join.ensures.ends where
      zero_one : ◌≡◌ {A = ℕ} 0 1 → ⊥
      zero_one e = omega (arith, e)

pub join-requires-clause-list : goal.join-requires-clause-list
join-requires-clause-list g c = is_listed (place_at c.self.inside.nodes 1) c.self.inside.held_ends.items _ c.self.invariant.held c.args.key c.place_of-place.result (sym c.place_of-place.ensures)

pub invariant_of-self : goal.invariant_of-self
invariant_of-self g c = sound_is c.join.new.nodes c.self.inside.ends.items c.join.new.ends.items _ _ (shown g c)

pub returns-clause-held : goal.returns-clause-held
returns-clause-held g c = rw (← c.self.view_is) (held_are c.join.new.nodes c.self.inside.ends.items c.join.new.ends.items _ _ (shown g c))

pub returns-clause-lists : goal.returns-clause-lists
returns-clause-lists g c = rw (← c.self.view_is) (lists_are c.join.new.nodes c.self.inside.ends.items c.join.new.ends.items _ _ (shown g c))
