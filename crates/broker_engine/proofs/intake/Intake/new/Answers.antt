-- The assembler took nothing.
use Rattle.std.proofs.Common.{[], sym, subst, refl}
use Rattle.amqp_frames.specs.Stands.{Stands}
use Rattle.broker_engine.proofs.intake.Intake.new.Goals as goal

pub returns : goal.returns
returns c = λ wide first.
    (refl, subst (λ n. Stands c.in_ok-assembler.assembler (λ place. 65535) n []) first (c.in_ok-assembler.ensures (λ place. 65535) (λ p le. sym wide)))
