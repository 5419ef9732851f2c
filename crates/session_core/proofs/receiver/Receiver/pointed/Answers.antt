-- The counter is the least number that is missing.
use Rattle.std.proofs.Common.{◌∙◌, ap, sym}
use Rattle.serial_ranges.specs.Serial.{unwrapped}
use Rattle.history_model.specs.Life.{next}
use Rattle.session_core.specs.Received.{Received, pointed}
use Rattle.session_core.proofs.Receiving.{next_is}
use Rattle.session_core.proofs.receiver.Receiver.pointed.Goals as goal

pub returns-then-offset-eq0-clause-pointed : goal.returns-then-offset-eq0-clause-pointed
returns-then-offset-eq0-clause-pointed c = λ h s.
    c.unwrap.ensures ∙ ap (λ n. unwrapped n c.args.serial) (ap (λ (r : Received). r.next) c.self.view_is ∙ next_is c.args.self.now h s)
    ∙ sym (ap (pointed (next h) c.args.serial) c.if-offset-eq0.true)
