-- The first node is live.
use Rattle.std.proofs.Common.{◌<◌, sym, subst, length, IfSome}
use Rattle.node_list.specs.Lists.{Listed, IsLive}
use Rattle.node_list.proofs.Showing.{first_live, if_live}
use Rattle.node_list.proofs.lists.Lists.first_held.Goals as goal

pub returns-clause-live : goal.returns-clause-live
returns-clause-live g c =
    let within = subst (λ (v : Listed g.row.T.Denot). c.args.holder < length v.held) (sym c.self.view_is) c.requires in
    let first = first_live c.self.inside.nodes 1 c.self.inside.held_ends.items _ c.self.invariant.held c.args.holder within c.index.result.now c.index.ensures in
    subst (λ (v : Listed g.row.T.Denot). IfSome c.index.result.now.first (λ key. IsLive v key)) c.self.view_is
    (if_live c.self.inside.nodes c.self.inside.ends.items c.self.inside.held_ends.items c.index.result.now.first first.1)
