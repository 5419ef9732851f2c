-- A copy's number has a key, and no key is of a greater one.
use Rattle.std.proofs.Common.{sym, subst}
use Rattle.queue_copies.specs.Copied.{Stock, IsThere}
use Rattle.queue_copies.proofs.Standing.{greatest_there}
use Rattle.queue_copies.proofs.copies.Copies.greatest.Goals as goal

pub returns : goal.returns
returns c number there =
    greatest_there c.self.inside.nodes c.self.inside.keys c.self.inside.shelves.items c.self.inside.slots.items c.self.invariant.whole c.self.inside.greatest c.self.invariant.greatest_of number
    (subst (λ (v : Stock). IsThere number v.lists) (sym c.self.view_is) there)
