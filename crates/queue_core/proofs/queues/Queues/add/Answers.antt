-- A queue's list is one of the lists, and the others stay.
use Rattle.std.proofs.Common.{◌∙◌, ◌++◌, ◌∷◌, [], None, List, sym, ap, subst}
use Rattle.std.specs.Option.{option_copied}
use Rattle.queue_copies.specs.Copied.{Copied, copies_at, IsGreatest}
use Rattle.queue_core.specs.Queues.{Queued, Stands}
use Rattle.queue_core.proofs.Standing.{found_within, set_stands}
use Rattle.queue_core.proofs.queues.Queues.add.Goals as goal

pub add_by-requires-clause-list : goal.add_by-requires-clause-list
add_by-requires-clause-list c = found_within c.self.inside.names.entries c.self.inside.names.free c.self.inside.names.count c.self.inside.copies.lists c.self.invariant c.args.name.now c.in-Some.queue.now (sym c.get.ensures ∙ ap option_copied c.in-Some.is)

pub add_by-requires-clause-greatest : goal.add_by-requires-clause-greatest
add_by-requires-clause-greatest c = subst (λ (v : Queued). IsGreatest c.args.copy.number v.lists) (sym c.self.view_is) c.requires.greatest

pub invariant_of-self : goal.invariant_of-self
invariant_of-self c =
    subst (λ (ls : List (List Copied)). Stands c.self.inside.names.entries c.self.inside.names.free c.self.inside.names.count ls) (sym c.add_by.ensures.lists)
    (set_stands c.self.inside.names.entries c.self.inside.names.free c.self.inside.names.count c.self.inside.copies.lists c.self.invariant c.args.name.now c.in-Some.queue.now (sym c.get.ensures ∙ ap option_copied c.in-Some.is)
    (copies_at c.self.inside.copies.lists c.in-Some.queue.now.1 ++ record { copy = c.args.copy; hold = None } ∷ []))
