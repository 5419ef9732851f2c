-- A command that the definitions cover is a declare.
use Rattle.std.proofs.Common.{◌≡◌, true, false, Bool, Option, None, Some, ℕ, subst}
use Rattle.std.proofs.lemmas.Bool.{and_parts, false≢true}
use Rattle.amqp_terms.specs.declared.command.Command.{Command}
use Rattle.amqp_terms.specs.declared.content.Content.{Content}
use Rattle.amqp_terms.specs.declared.unit.Unit.TheVariants as unit
use Rattle.history_model.specs.Standing.{World, life_at}
use Rattle.history_model.specs.State.{State, covers_unit, may_arrive, declares}
use Rattle.hub_core.proofs.state.State.builds_unit.Goals as goal

covered_declares : (w : World) (s : State) (c k : ℕ) (sync : Bool) (command : Command) (content : Option Content) → covers_unit w s c k (unit.Command sync command content) ≡ true → declares s command ≡ true
covered_declares w s c k false command None is = (and_parts (may_arrive (life_at w (w.holder c k))) (declares s command) is).1
covered_declares w s c k false command (Some content) is = absurd (false≢true is)
covered_declares w s c k true command content is = absurd (false≢true is)

pub returns-in-Command : goal.returns-in-Command
returns-in-Command c = λ w queues s is.
    c.builds_command.ensures w queues s
    (covered_declares w (record { queues = queues }) c.args.connection c.args.channel c.in-Command.sync _ c.in-Command.content
    (subst (λ u. covers_unit w (record { queues = queues }) c.args.connection c.args.channel u ≡ true) c.in-Command.is is))
