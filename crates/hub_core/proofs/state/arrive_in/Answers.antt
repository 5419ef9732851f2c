-- The session that was found took the command, and no other changed.
use Rattle.std.proofs.Common.{subst, sym, arith}
use Rattle.std.specs.Map.{lookup}
use Rattle.history_model.specs.Life.{Does}
use Rattle.history_model.specs.Pairs.{Paired}
use Rattle.history_model.specs.Standing.{is_name, hears_in}
use Rattle.hub_core.specs.declared.session.Session.{Session}
use Rattle.hub_core.specs.Stands.{Sits}
use Rattle.hub_core.proofs.StateLemmas.{sends_does, heard_set, no_arrival, nobody_arrives}
use Rattle.hub_core.proofs.state.arrive_in.Goals as goal

pub returns-then-next-lt-FAR_END : goal.returns-then-next-lt-FAR_END
returns-then-next-lt-FAR_END c = λ lives p may.
    let old : Session = c.in-Some.session.now in
    let new : Session = record old { receiver = c.arrive.new.self } in
    subst (λ es. Paired Sits es (hears_in lives c.args.name.now (lookup (is_name c.args.name.now) lives) Does)) (sym (c.get_mut.follows.holds new).0)
    (heard_set c.args.name.now c.args.sessions.now.entries lives old new Does p c.in-Some.ensures.value
    (λ life e s. record { place_is = s.place_is; attached = s.attached; brief = s.brief; pointed = s.pointed; receives = c.arrive.ensures.does life s.receives; sends = sends_does old.sender life s.sends }))

pub returns-else-next-lt-FAR_END : goal.returns-else-next-lt-FAR_END
returns-else-next-lt-FAR_END c = λ lives p may.
    let old : Session = c.in-Some.session.now in
    subst (λ es. Paired Sits es (hears_in lives c.args.name.now (lookup (is_name c.args.name.now) lives) Does)) (sym (c.get_mut.follows.holds old).0)
    (heard_set c.args.name.now c.args.sessions.now.entries lives old old Does p c.in-Some.ensures.value
    (λ life e s. absurd (no_arrival c.args.name.now lives old life may e s (omega (arith, c.next.ensures.value)))))

pub returns-in-None : goal.returns-in-None
returns-in-None c = λ lives p may. absurd (nobody_arrives c.args.name.now c.args.sessions.now.entries lives p c.in-None.ensures.value may)
