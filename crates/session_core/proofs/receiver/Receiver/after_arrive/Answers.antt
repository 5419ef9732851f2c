-- A command that is new goes on to the next number that is missing; another one leaves it.
use Rattle.std.proofs.Common.{◌∷◌, sym, subst, arith}
use Rattle.history_model.specs.Life.{Does}
use Rattle.session_core.specs.Received.{Receives}
use Rattle.session_core.proofs.Receiving.{next_at, next_new, next_old}
use Rattle.session_core.proofs.receiver.Receiver.after_arrive.Goals as goal

pub returns-then-self : goal.returns-then-self
returns-then-self c = λ h s. next_at (Does ∷ h) _ (next_new _ h _ (subst (λ r. Receives r h) (sym c.self.view_is) s) c.if-self.true c.least_missing.ensures)

pub returns-else-self : goal.returns-else-self
returns-else-self c = λ h s. next_at (Does ∷ h) _ (next_old _ h (subst (λ r. Receives r h) (sym c.self.view_is) s) (omega (arith, c.if-self.false, c.self.invariant.low)))
