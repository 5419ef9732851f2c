-- The session that was found took the command-point, and no other changed.
use Rattle.std.proofs.Common.{◌≡◌, true, refl, subst, sym, arith}
use Rattle.std.specs.Map.{lookup}
use Rattle.history_model.specs.Life.{Point}
use Rattle.history_model.specs.Pairs.{Paired}
use Rattle.history_model.specs.Standing.{is_name, hears_in}
use Rattle.hub_core.specs.declared.session.Session.{Session}
use Rattle.hub_core.specs.Stands.{Sits}
use Rattle.hub_core.proofs.StateLemmas.{sends_point, heard_set, no_point, nobody_hears}
use Rattle.hub_core.proofs.state.point_in.Goals as goal

pub returns-then-number-next : goal.returns-then-number-next
returns-then-number-next c = λ lives p within.
    let old : Session = c.in-Some.session.now in
    let new : Session = record old { receiver = c.point_at.new.self; pointed = true } in
    subst (λ es. Paired Sits es (hears_in lives c.args.name.now (lookup (is_name c.args.name.now) lives) (Point c.args.number))) (sym (c.get_mut.follows.holds new).0)
    (heard_set c.args.name.now c.args.sessions.now.entries lives old new (Point c.args.number) p c.in-Some.ensures.value
    (λ life e s. record { place_is = s.place_is; attached = s.attached; brief = s.brief; pointed = refl; receives = c.point_at.ensures life s.receives; sends = sends_point old.sender life c.args.number s.sends }))

pub returns-else-number-next : goal.returns-else-number-next
returns-else-number-next c = λ lives p within.
    let old : Session = c.in-Some.session.now in
    subst (λ es. Paired Sits es (hears_in lives c.args.name.now (lookup (is_name c.args.name.now) lives) (Point c.args.number))) (sym (c.get_mut.follows.holds old).0)
    (heard_set c.args.name.now c.args.sessions.now.entries lives old old (Point c.args.number) p c.in-Some.ensures.value
    (λ life e s. absurd (no_point c.args.name.now lives old life c.args.number within e s (omega (arith, c.next.ensures.value)))))

pub returns-in-None : goal.returns-in-None
returns-in-None c = λ lives p within.
    let same : c.args.sessions.now.entries ≡ c.get_mut.follows.lender-at-none.entries = cc c.get_mut.follows.holds-at-none in
    subst (λ es. Paired Sits es (hears_in lives c.args.name.now (lookup (is_name c.args.name.now) lives) (Point c.args.number))) same
    (nobody_hears c.args.name.now c.args.sessions.now.entries lives (Point c.args.number) p c.in-None.ensures.value)
