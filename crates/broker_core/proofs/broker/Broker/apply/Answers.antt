-- What the three steps do, one after another.
use Rattle.std.proofs.Common.{ℕ, List, ap, subst, ◌∙◌}
use Rattle.amqp_terms.specs.declared.unit.Unit.{Unit as AnyUnit}
use Rattle.broker_core.specs.State.{Stand, Planned}
use Rattle.broker_core.specs.Edits.{Applied, given_all}
use Rattle.broker_core.specs.Ends.{Passes}
use Rattle.broker_core.proofs.broker.Broker.apply.Goals as goal

pub returns-clause-applied : goal.returns-clause-applied
returns-clause-applied c =
    subst (λ (p : Planned). (x : Stand) × Applied p c.args.self.now x × Passes p.moment x c.pass.new.self) c.plan.view_is (
      c.give_all.new.self,
      record {
        next = c.act_all.new.self;
        acted = c.act_all.ensures;
        exchanges = c.give_all.ensures.exchanges;
        queues = c.give_all.ensures.queues;
        sessions = c.give_all.ensures.sessions ∙ ap (λ (given : List (ℕ × AnyUnit)). given_all given c.act_all.new.self.sessions.entries) c.as_slice.ensures.value;
        owned = c.give_all.ensures.owned;
        time = c.give_all.ensures.time;
      },
      c.pass.ensures,
    )
