-- The node is the last of its list, and everything else stays.
use Rattle.std.proofs.Common.{◌≡◌, refl, ◌<◌, ◌∙◌, ◌++◌, ◌∷◌, [], None, ℕ, sym, ap, subst, length, slice_set, arith}
use Rattle.std.proofs.lemmas.List.{get_or_default}
use Rattle.node_list.specs.declared.links.Ends.{Ends}
use Rattle.node_list.specs.Keys.{list_at}
use Rattle.node_list.specs.Links.{no_ends}
use Rattle.node_list.specs.Lists.{Listed, Shows, Puts, listed}
use Rattle.node_list.proofs.Showing.{lists_are, held_are, sound_is, puts_shows, puts_is}
use Rattle.node_list.proofs.lists.Lists.push_back.Given.{Over}
use Rattle.node_list.proofs.lists.Lists.push_back.Goals as goal

abbrev was : (g : Over) → goal.After-put g → Listed g.row.T.Denot
was g c = listed c.self.inside.nodes c.self.inside.ends.items c.self.inside.held_ends.items

shown : (g : Over) (c : goal.After-put g) → Shows c.put.new.nodes c.put.new.ends.items c.self.inside.held_ends.items (slice_set (was g c).lists c.args.list (list_at (was g c).lists c.args.list ++ c.insert_reserved-key.result ∷ [])) (was g c).held
shown g c =
    let within = subst (λ (v : Listed g.row.T.Denot). c.args.list < length v.lists) (sym c.self.view_is) c.requires.list in
    let lt : c.args.list < length c.self.inside.ends.items = subst (λ (n : ℕ). c.args.list < n) c.self.invariant.order.count within in
    puts_shows c.self.inside.nodes c.insert_reserved-key.new.self c.put.new.nodes c.self.inside.ends.items c.self.inside.held_ends.items c.self.invariant c.insert_reserved-key.result c.args.item
    c.insert_reserved-key.ensures.was_vacant c.insert_reserved-key.ensures.updates c.put.ensures.items c.args.list lt None refl
    (record { list = c.args.list; previous = c.index.result.now.last; next = None })
    (ap (λ (x : Ends). record { list = c.args.list; previous = x.last; next = None }) (c.index.ensures ∙ get_or_default c.self.inside.ends.items c.args.list c.index.result.now no_ends lt))
    c.put.new.ends.items c.put.ensures.places (c.put.ensures.lanes 1 one_zero) c.put.ensures.ends where
      one_zero : ◌≡◌ {A = ℕ} 1 0 → ⊥
      one_zero e = omega (arith, e)

pub invariant_of-self : goal.invariant_of-self
invariant_of-self g c = sound_is c.put.new.nodes c.put.new.ends.items c.self.inside.held_ends.items _ _ (shown g c)

pub returns-clause-item : goal.returns-clause-item
returns-clause-item g c =
    subst (λ (v : Listed g.row.T.Denot). Puts v (listed c.put.new.nodes c.put.new.ends.items c.self.inside.held_ends.items) c.insert_reserved-key.result c.args.item) c.self.view_is
    (puts_is c.self.inside.nodes c.insert_reserved-key.new.self c.put.new.nodes c.self.inside.ends.items c.self.inside.held_ends.items c.put.new.ends.items c.insert_reserved-key.result c.args.item
    c.insert_reserved-key.ensures.was_vacant c.insert_reserved-key.ensures.updates c.put.ensures.items)

pub returns-clause-lists : goal.returns-clause-lists
returns-clause-lists g c = rw (← c.self.view_is) (lists_are c.put.new.nodes c.put.new.ends.items c.self.inside.held_ends.items _ _ (shown g c))

pub returns-clause-held : goal.returns-clause-held
returns-clause-held g c = rw (← c.self.view_is) (held_are c.put.new.nodes c.put.new.ends.items c.self.inside.held_ends.items _ _ (shown g c))
