-- Who has a copy in the session's list is the session, and what it holds is there.
use Rattle.std.proofs.Common.{◌≡◌, ◌∙◌, Some, ℕ, IfSome, IfNone, sym, subst}
use Rattle.std.proofs.lemmas.Option.{none-some}
use Rattle.queue_copies.specs.Copied.{find_in, hold_of, lane_of}
use Rattle.held_copies.specs.Holding.{HeldStock, session_of}
use Rattle.held_copies.proofs.Tying.{lane_holds, holds_lane, if_some, if_none}
use Rattle.held_copies.proofs.copies.HeldCopies.first_held.Goals as goal

pub returns-in-Some-clause-some : goal.returns-in-Some-clause-some
returns-in-Some-clause-some g c =
    subst (λ (v : HeldStock). IfSome c.first_held.result (λ number. session_of (hold_of (find_in number v.lists)) ≡ Some c.args.session)) c.self.view_is
    (if_some (λ number. lane_of (hold_of (find_in number c.self.inside.copies.lists)) ≡ Some c.in-Some.lane) (λ number. session_of (hold_of (find_in number c.self.inside.copies.lists)) ≡ Some c.args.session) c.first_held.result
    (λ number q. lane_holds c.self.inside.lanes c.self.inside.copies.lists c.self.invariant.fits number c.args.session c.in-Some.lane c.in-Some.ensures.above c.in-Some.ensures.own q)
    c.first_held.ensures.some)

pub returns-in-Some-clause-none : goal.returns-in-Some-clause-none
returns-in-Some-clause-none g c =
    subst (λ (v : HeldStock). IfNone c.first_held.result ((number : ℕ) → session_of (hold_of (find_in number v.lists)) ≡ Some c.args.session → ⊥)) c.self.view_is
    (if_none ((number : ℕ) → lane_of (hold_of (find_in number c.self.inside.copies.lists)) ≡ Some c.in-Some.lane → ⊥) ((number : ℕ) → session_of (hold_of (find_in number c.self.inside.copies.lists)) ≡ Some c.args.session → ⊥) c.first_held.result
    (λ none number q.
    let l = holds_lane c.self.inside.lanes c.self.inside.copies.lists c.self.invariant.fits number c.args.session q in
    none number (l.1.1 ∙ (sym l.1.0 ∙ (sym c.lane.ensures.lane ∙ c.in-Some.is))))
    c.first_held.ensures.none)

pub returns-in-None-clause-none : goal.returns-in-None-clause-none
returns-in-None-clause-none g c number q =
    let l = holds_lane c.self.inside.lanes c.self.inside.copies.lists c.self.invariant.fits number c.args.session (subst (λ (v : HeldStock). session_of (hold_of (find_in number v.lists)) ≡ Some c.args.session) (sym c.self.view_is) q) in
    none-some l.0 (sym (sym c.lane.ensures.lane ∙ c.in-None.is) ∙ l.1.0)
