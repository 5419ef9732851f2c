-- The node is the last of its holder's list, and everything else stays.
use Rattle.std.proofs.Common.{◌≡◌, ◌<◌, ◌++◌, ◌∷◌, [], ℕ, sym, subst, length, slice_set, arith}
use Rattle.node_list.specs.Keys.{list_at}
use Rattle.node_list.specs.Lists.{Listed, IsFree, Shows, listed}
use Rattle.node_list.proofs.Showing.{lists_are, held_are, sound_is, hold_shows}
use Rattle.node_list.proofs.lists.Lists.hold.Given.{Over}
use Rattle.node_list.proofs.lists.Lists.hold.Goals as goal

abbrev was : (g : Over) → goal.After-put g → Listed g.row.T.Denot
was g c = listed c.self.inside.nodes c.self.inside.ends.items c.self.inside.held_ends.items

shown : (g : Over) (c : goal.After-put g) → Shows c.put.new.nodes c.self.inside.ends.items c.put.new.ends.items (was g c).lists (slice_set (was g c).held c.args.holder (list_at (was g c).held c.args.holder ++ c.args.key ∷ []))
shown g c =
    hold_shows c.self.inside.nodes c.put.new.nodes c.self.inside.ends.items c.self.inside.held_ends.items c.self.invariant c.put.ensures.items c.args.key c.args.holder
    (subst (λ (v : Listed g.row.T.Denot). c.args.holder < length v.held) (sym c.self.view_is) c.requires.holder)
    (subst (λ (v : Listed g.row.T.Denot). IsFree v c.args.key) (sym c.self.view_is) c.requires.free)
    c.index.result.now c.index.ensures c.put.new.ends.items c.put.ensures.places (c.put.ensures.lanes 0 zero_one) c.put.ensures.ends where
      zero_one : ◌≡◌ {A = ℕ} 0 1 → ⊥
      zero_one e = omega (arith, e)

pub invariant_of-self : goal.invariant_of-self
invariant_of-self g c = sound_is c.put.new.nodes c.self.inside.ends.items c.put.new.ends.items _ _ (shown g c)

pub returns-clause-held : goal.returns-clause-held
returns-clause-held g c = rw (← c.self.view_is) (held_are c.put.new.nodes c.self.inside.ends.items c.put.new.ends.items _ _ (shown g c))

pub returns-clause-lists : goal.returns-clause-lists
returns-clause-lists g c = rw (← c.self.view_is) (lists_are c.put.new.nodes c.self.inside.ends.items c.put.new.ends.items _ _ (shown g c))
