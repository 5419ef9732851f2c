-- The state tells it.
use Rattle.history_model.specs.Standing.{world}
use Rattle.history_model.specs.State.{state}
use Rattle.hub_core.proofs.hub.Hub.builds.Goals as goal

pub returns : goal.returns
returns g c = λ h s is. c.builds.ensures (world h) (state h).queues s is
