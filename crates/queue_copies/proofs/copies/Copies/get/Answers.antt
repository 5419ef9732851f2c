-- The copy of the number's entry, and none where it has no key.
use Rattle.std.proofs.Common.{◌∙◌, sym, ap}
use Rattle.std.specs.Option.{option_copied}
use Rattle.queue_copies.specs.Copied.{Stock, find_in, copy_of}
use Rattle.queue_copies.proofs.Standing.{is_live}
use Rattle.queue_copies.proofs.Finding.{copy_found, copy_missing}
use Rattle.queue_copies.proofs.copies.Copies.get.Goals as goal

pub get-requires-in-Some : goal.get-requires-in-Some
get-requires-in-Some g c =
    is_live c.self.inside.nodes c.self.inside.keys c.self.inside.shelves.items c.self.inside.slots.items c.self.invariant.whole c.args.number c.in-Some.key.now (sym c.get.ensures.value ∙ ap option_copied c.in-Some.is)

pub returns-in-Some-clause-copy : goal.returns-in-Some-clause-copy
returns-in-Some-clause-copy g c =
    copy_found c.self.inside.nodes c.self.inside.keys c.self.inside.shelves.items c.self.inside.slots.items c.self.invariant.whole c.args.number c.in-Some.key.now c.get-in-Some.result.now (sym c.get.ensures.value ∙ ap option_copied c.in-Some.is) c.get-in-Some.ensures.item
    ∙ ap (λ (v : Stock). copy_of (find_in c.args.number v.lists)) c.self.view_is

pub returns-in-None-clause-copy : goal.returns-in-None-clause-copy
returns-in-None-clause-copy g c =
    copy_missing c.self.inside.nodes c.self.inside.keys c.self.inside.shelves.items c.self.inside.slots.items c.self.invariant.whole c.args.number (sym c.get.ensures.value ∙ ap option_copied c.in-None.is)
    ∙ ap (λ (v : Stock). copy_of (find_in c.args.number v.lists)) c.self.view_is
