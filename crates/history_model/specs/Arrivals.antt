-- What the broker hears over its whole life, the newest first.
use Rattle.amqp_terms.specs.declared.event.HubEvent.{HubEvent}

-- an event of the hub, or the end of a broker and a new one over its store
pub data Arrival : Type 0 where
  Hears : (event : HubEvent) → Arrival
  Restart : Arrival
