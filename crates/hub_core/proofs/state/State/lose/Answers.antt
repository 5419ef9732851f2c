-- Both tables let go of the connection's rows.
use Rattle.std.proofs.Common.{None, cond, eqb, ◌∙◌, ap, rules}
use Rattle.hub_core.proofs.state.State.lose.Goals as goal

pub returns : goal.returns
returns c = λ w queues s. record {
  joined_is = s.joined_is;
  limited = s.limited;
  holders = λ c' k. c.lose.ensures c' k ∙ ap (λ o. cond (eqb c' c.args.connection) None o) (s.holders c' k);
  lives_are = c.part_on.ensures w.lives s.lives_are;
  notices_are = search rules;
  queues_are = s.queues_are;
}
