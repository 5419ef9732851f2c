-- The copy is in its holder's list, and all others are where they were.
use Rattle.std.proofs.Common.{◌≡◌, ◌∙◌, ◌<◌, Some, List, sym, ap, subst}
use Rattle.std.proofs.lemmas.Option.{none-some}
use Rattle.queue_copies.specs.Copied.{Copied, find_in, hold_of}
use Rattle.held_copies.specs.Holding.{HeldStock, session_of, Fits}
use Rattle.held_copies.proofs.Tying.{acquire_fits, holds_lane}
use Rattle.held_copies.proofs.copies.HeldCopies.acquire.Goals as goal

pub lane_for-lane-requires-clause-ready : goal.lane_for-lane-requires-clause-ready
lane_for-lane-requires-clause-ready g c session q none =
    subst (λ (v : HeldStock). 0 < v.sessions) (sym c.self.view_is)
    (c.requires.room session q (λ other t.
    let l = holds_lane c.self.inside.lanes c.self.inside.copies.lists c.self.invariant.fits other session (subst (λ (v : HeldStock). session_of (hold_of (find_in other v.lists)) ≡ Some session) (sym c.self.view_is) t) in
    none-some l.0 (sym none ∙ l.1.0)))

pub forget-requires-clause-fits : goal.forget-requires-clause-fits
forget-requires-clause-fits g c =
    subst (λ (ls : List (List Copied)). Fits c.lane_for-lane.new.self ls) (sym c.hold-before.ensures.lists)
    (acquire_fits c.self.inside.lanes c.lane_for-lane.new.self c.self.inside.copies.lists c.self.invariant.fits c.lane_for-lane.ensures.kept c.args.number c.args.holder c.lane_for-lane.result c.lane_for-lane.ensures.lies)

pub returns-clause-had : goal.returns-clause-had
returns-clause-had g c session other q t =
    let l = holds_lane c.self.inside.lanes c.self.inside.copies.lists c.self.invariant.fits other session (subst (λ (v : HeldStock). session_of (hold_of (find_in other v.lists)) ≡ Some session) (sym c.self.view_is) t) in
    c.forget.ensures.ready ∙ (c.lane_for-lane.ensures.had session l.0 q l.1.0 ∙ ap (λ (v : HeldStock). v.sessions) c.self.view_is)
