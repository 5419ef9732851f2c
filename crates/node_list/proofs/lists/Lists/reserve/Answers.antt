-- Only the room changes.
use Rattle.node_list.proofs.Showing.{room_sound, room_kept}
use Rattle.node_list.proofs.lists.Lists.reserve.Goals as goal

pub invariant_of-self : goal.invariant_of-self
invariant_of-self g c = room_sound c.self.inside.nodes c.self.inside.ends.items c.self.inside.held_ends.items c.self.invariant c.reserve.new.self c.reserve.ensures.rest_kept

pub returns-in_err-reserve-clause-kept : goal.returns-in_err-reserve-clause-kept
returns-in_err-reserve-clause-kept g c =
    rw (← c.self.view_is) (room_kept c.self.inside.nodes c.self.inside.ends.items c.self.inside.held_ends.items c.reserve.new.self c.reserve.ensures.rest_kept)

pub invariant_of-self-2 : goal.invariant_of-self-2
invariant_of-self-2 g c = room_sound c.self.inside.nodes c.self.inside.ends.items c.self.inside.held_ends.items c.self.invariant c.reserve.new.self c.reserve.ensures.rest_kept

pub returns-clause-kept : goal.returns-clause-kept
returns-clause-kept g c =
    rw (← c.self.view_is) (room_kept c.self.inside.nodes c.self.inside.ends.items c.self.inside.held_ends.items c.reserve.new.self c.reserve.ensures.rest_kept)
