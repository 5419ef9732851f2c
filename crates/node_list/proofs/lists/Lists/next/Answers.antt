-- The place of the node names the one behind it, which is live.
use Rattle.std.proofs.Common.{◌∙◌, sym, ap, subst, IfSome}
use Rattle.node_list.specs.Links.{next_of, place_at}
use Rattle.node_list.specs.Lists.{Listed, IsLive}
use Rattle.node_list.proofs.Showing.{next_is_in, next_live, if_live, live_is}
use Rattle.node_list.proofs.lists.Lists.next.Goals as goal

pub returns-in-Some-clause-next : goal.returns-in-Some-clause-next
returns-in-Some-clause-next g c =
    let is = sym c.place_of.ensures ∙ c.in-Some.is in
    rw (← c.self.view_is) (λ list h. sym (ap next_of is) ∙ next_is_in (place_at c.self.inside.nodes 0) c.self.inside.ends.items _ c.self.invariant.order list c.args.key h)

pub returns-in-Some-clause-live : goal.returns-in-Some-clause-live
returns-in-Some-clause-live g c =
    let live = live_is c.self.inside.nodes c.args.key (subst (λ (v : Listed g.row.T.Denot). IsLive v c.args.key) (sym c.self.view_is) c.requires) in
    subst (λ (v : Listed g.row.T.Denot). IfSome c.in-Some.place.next (λ key. IsLive v key)) c.self.view_is
    (if_live c.self.inside.nodes c.self.inside.ends.items c.self.inside.held_ends.items c.in-Some.place.next
    (next_live c.self.inside.nodes c.self.inside.ends.items c.self.inside.held_ends.items c.self.invariant c.args.key live c.in-Some.place (sym c.place_of.ensures ∙ c.in-Some.is)))
