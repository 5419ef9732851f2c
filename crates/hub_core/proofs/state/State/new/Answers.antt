-- The tables are empty.
use Rattle.std.proofs.Common.{refl, ap, subst, sym, [], arith}
use Rattle.history_model.specs.Pairs.{Paired, none}
use Rattle.hub_core.specs.Places.{holder_in}
use Rattle.hub_core.specs.Stands.{Sits}
use Rattle.hub_core.proofs.state.State.new.Goals as goal

pub returns : goal.returns
returns c = record {
  joined_is = refl;
  limited = omega arith;
  holders = λ a k. ap (λ rows. holder_in rows a k) c.new.ensures;
  lives_are = subst (λ es. Paired Sits es []) (sym c.new-2.ensures.empty) none;
  notices_are = c.new-3.ensures.empty;
  queues_are = c.new-4.ensures.empty;
}
