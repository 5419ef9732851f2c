-- A number has a key exactly where it is there.
use Rattle.std.proofs.Common.{rules, ◌≡◌, ◌∙◌, is_some, nat_eq, ap}
use Rattle.indexmap.specs.IndexMap.{get}
use Rattle.queue_copies.specs.Copied.{Stock, find_in}
use Rattle.queue_copies.proofs.Standing.{keyed_is}
use Rattle.queue_copies.proofs.copies.Copies.contains.Goals as goal

pub returns : goal.returns
returns c =
    let told : c.contains_key.result ≡ is_some (get nat_eq c.self.inside.keys c.args.number) = search rules in
    told
    ∙ (keyed_is c.self.inside.nodes c.self.inside.keys c.self.inside.shelves.items c.self.inside.slots.items c.self.invariant.whole c.args.number
    ∙ ap (λ (v : Stock). is_some (find_in c.args.number v.lists)) c.self.view_is)
