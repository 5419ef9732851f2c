-- The new life has its rows in both tables.
use Rattle.std.proofs.Common.{Some, cond, eqb, ◌&&◌, sym, subst, ap, ◌∙◌, [], ◌∷◌}
use Rattle.std.specs.BTreeMap.{insert_entry}
use Rattle.std.specs.Ordering.{nat_cmp}
use Rattle.std.specs.Cmp.Lexicographic.{slice_cmp}
use Rattle.history_model.specs.Life.{Attach}
use Rattle.history_model.specs.Pairs.{Paired}
use Rattle.history_model.proofs.Tables.{paired-insert}
use Rattle.hub_core.specs.Places.{holder_in}
use Rattle.hub_core.specs.Stands.{Sits}
use Rattle.hub_core.proofs.state.State.seat.Goals as goal

pub returns-in-Ok-clause-seated : goal.returns-in-Ok-clause-seated
returns-in-Ok-clause-seated c = λ w queues s.
    record {
      joined_is = s.joined_is;
      limited = s.limited;
      holders = λ a k. c.in_ok-put.ensures.ok a k
          ∙ ap (λ n. cond (eqb a c.args.connection && eqb k c.args.channel) (Some n) (holder_in c.args.self.now.places a k)) c.in_ok-holder.ensures
          ∙ ap (λ o. cond (eqb a c.args.connection && eqb k c.args.channel) (Some c.args.name.now) o) (s.holders a k);
      lives_are = subst (λ es. Paired Sits es (insert_entry (slice_cmp nat_cmp) w.lives c.args.name.now (Attach c.args.connection c.args.channel ∷ [])))
          (sym (c.in-Ok.ensures.ok ∙ ap (λ k. insert_entry (slice_cmp nat_cmp) c.args.self.now.sessions.entries k c.begun-session.result) c.in_ok-key.ensures))
          (paired-insert Sits (slice_cmp nat_cmp) c.args.name.now c.begun-session.result (Attach c.args.connection c.args.channel ∷ []) c.begun-session.ensures s.lives_are);
      notices_are = s.notices_are;
      queues_are = s.queues_are;
    }
