-- The item of the key stays, and so do all the others.
use Rattle.std.proofs.Common.{sym, ap, ◌∙◌, None}
use Rattle.std.specs.Option.{option_copied_mut}
use Rattle.std.proofs.Math.Seq.{map-set_same}
use Rattle.node_list.specs.Links.{item_in}
use Rattle.node_list.proofs.links.set_place.Goals as goal

pub returns-in-Some-clause-items : goal.returns-in-Some-clause-items
returns-in-Some-clause-items g c =
    let found = sym c.get_mut.ensures.value ∙ ap option_copied_mut c.in-Some.is in
    map-set_same item_in c.args.nodes.now.slots c.args.key _ None (sym (ap item_in found))
