-- Whatever is written through the borrow is the item, and all lists stay.
use Rattle.std.proofs.Common.{◌∙◌, sym, ap, refl}
use Rattle.std.specs.Option.{option_copied_mut}
use Rattle.node_list.specs.Links.{item_in}
use Rattle.node_list.proofs.Showing.{written_sound, written_is, item_is}
use Rattle.node_list.proofs.lists.Lists.get_mut.Goals as goal

pub invariant_of-self-lent : goal.invariant_of-self-lent
invariant_of-self-lent g c w =
    let found = sym c.get_mut.ensures.value ∙ ap option_copied_mut c.in-Some.is in
    written_sound c.self.inside.nodes c.self.inside.ends.items c.self.inside.held_ends.items c.self.invariant c.args.key c.in-Some.node.now found w

pub returns : goal.returns
returns g c =
    let found = sym c.get_mut.ensures.value ∙ ap option_copied_mut c.in-Some.is in (
      (refl, λ w. rw (← c.self.view_is) (written_is c.self.inside.nodes c.self.inside.ends.items c.self.inside.held_ends.items c.self.invariant c.args.key c.in-Some.node.now found w)),
      record { writes_back = tt; value = rw (← c.self.view_is) (item_is c.self.inside.nodes c.args.key ∙ ap item_in found); steps = c.tick.ensures },
    )
