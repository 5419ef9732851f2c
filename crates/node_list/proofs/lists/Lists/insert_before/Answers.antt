-- The node stands before the other one, and everything else stays.
use Rattle.std.proofs.Common.{◌≡◌, ◌<◌, ◌∙◌, Option, Some, ℕ, sym, ap, subst, length, map, arith}
use Rattle.node_list.specs.Keys.{put_before}
use Rattle.node_list.specs.Links.{place_at, list_of, previous_of}
use Rattle.node_list.specs.Lists.{Listed, Shows, Puts, listed}
use Rattle.node_list.proofs.Showing.{lists_are, held_are, sound_is, puts_shows, puts_is, befores_are}
use Rattle.node_list.proofs.Spelling.{listed_below}
use Rattle.node_list.proofs.lists.Lists.insert_before.Given.{Over}
use Rattle.node_list.proofs.lists.Lists.insert_before.Goals as goal

abbrev was : (g : Over) → goal.After-put g → Listed g.row.T.Denot
was g c = listed c.self.inside.nodes c.self.inside.ends.items c.self.inside.held_ends.items

shown : (g : Over) (c : goal.After-put g) → Shows c.put.new.nodes c.put.new.ends.items c.self.inside.held_ends.items (map (λ keys. put_before c.args.key c.insert_reserved-made.result keys) (was g c).lists) (was g c).held
shown g c =
    let is : place_at c.self.inside.nodes 0 c.args.key ≡ Some c.in-Some.other = sym c.place_of.ensures ∙ c.in-Some.is in
    let at : list_of (place_at c.self.inside.nodes 0 c.args.key) ≡ Some c.in-Some.other.list = ap list_of is in
    let lt : c.in-Some.other.list < length c.self.inside.ends.items = listed_below (place_at c.self.inside.nodes 0) c.self.inside.ends.items (was g c).lists c.self.invariant.order c.in-Some.other.list c.args.key at in
    rw (befores_are (place_at c.self.inside.nodes 0) c.self.inside.ends.items (was g c).lists c.self.invariant.order c.args.key c.insert_reserved-made.result c.in-Some.other.list at)
    (puts_shows c.self.inside.nodes c.insert_reserved-made.new.self c.put.new.nodes c.self.inside.ends.items c.self.inside.held_ends.items c.self.invariant c.insert_reserved-made.result c.args.item
    c.insert_reserved-made.ensures.was_vacant c.insert_reserved-made.ensures.updates c.put.ensures.items c.in-Some.other.list lt (Some c.args.key) (c.self.invariant.order.covers c.in-Some.other.list c.args.key at)
    (record { list = c.in-Some.other.list; previous = c.in-Some.other.previous; next = Some c.args.key })
    (ap (λ (x : Option ℕ). record { list = c.in-Some.other.list; previous = x; next = Some c.args.key }) (sym (ap previous_of is)))
    c.put.new.ends.items c.put.ensures.places (c.put.ensures.lanes 1 one_zero) c.put.ensures.ends) where
      one_zero : ◌≡◌ {A = ℕ} 1 0 → ⊥
      one_zero e = omega (arith, e)

pub put-requires-clause-list : goal.put-requires-clause-list
put-requires-clause-list g c = listed_below (place_at c.self.inside.nodes 0) c.self.inside.ends.items _ c.self.invariant.order c.in-Some.other.list c.args.key (ap list_of (sym c.place_of.ensures ∙ c.in-Some.is))

pub invariant_of-self : goal.invariant_of-self
invariant_of-self g c = sound_is c.put.new.nodes c.put.new.ends.items c.self.inside.held_ends.items _ _ (shown g c)

pub returns-clause-item : goal.returns-clause-item
returns-clause-item g c =
    subst (λ (v : Listed g.row.T.Denot). Puts v (listed c.put.new.nodes c.put.new.ends.items c.self.inside.held_ends.items) c.insert_reserved-made.result c.args.item) c.self.view_is
    (puts_is c.self.inside.nodes c.insert_reserved-made.new.self c.put.new.nodes c.self.inside.ends.items c.self.inside.held_ends.items c.put.new.ends.items c.insert_reserved-made.result c.args.item
    c.insert_reserved-made.ensures.was_vacant c.insert_reserved-made.ensures.updates c.put.ensures.items)

pub returns-clause-lists : goal.returns-clause-lists
returns-clause-lists g c = rw (← c.self.view_is) (lists_are c.put.new.nodes c.put.new.ends.items c.self.inside.held_ends.items _ _ (shown g c))

pub returns-clause-held : goal.returns-clause-held
returns-clause-held g c = rw (← c.self.view_is) (held_are c.put.new.nodes c.put.new.ends.items c.self.inside.held_ends.items _ _ (shown g c))
