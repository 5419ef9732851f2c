-- The counter is the least number that is missing.
use Rattle.std.proofs.Common.{sym, subst}
use Rattle.session_core.specs.Received.{Receives}
use Rattle.session_core.proofs.Receiving.{next_is}
use Rattle.session_core.proofs.receiver.Receiver.next.Goals as goal

pub returns-clause-next : goal.returns-clause-next
returns-clause-next c = λ h s. next_is _ h (subst (λ r. Receives r h) (sym c.self.view_is) s)
