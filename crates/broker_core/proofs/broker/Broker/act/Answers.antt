-- All stays fine.
use Rattle.std.proofs.Common.{subst, sym}
use Rattle.name_map.specs.Named.{find}
use Rattle.broker_core.specs.Sound.{EditFine, ExchangeFine, QueueFine}
use Rattle.broker_core.proofs.Sounding.{Each, each_out, each_filter, exchange_placed, queue_placed, exchange_unbound}
use Rattle.broker_core.proofs.broker.Broker.act.Goals as goal

pub invariant_of-self-in-PlaceExchange : goal.invariant_of-self-in-PlaceExchange
invariant_of-self-in-PlaceExchange c = record {
  exchanges = exchange_placed c.in-PlaceExchange.name c.in-PlaceExchange.marks c.self.inside.exchanges c.place_exchange.new.exchanges (find c.in-PlaceExchange.name c.self.inside.exchanges.entries) c.place_exchange.ensures.places (subst EditFine c.in-PlaceExchange.is c.requires.fine) c.self.invariant.exchanges;
  queues = c.self.invariant.queues;
}

pub invariant_of-self-in-DropExchange : goal.invariant_of-self-in-DropExchange
invariant_of-self-in-DropExchange c = record {
  exchanges = subst (Each (λ x. ExchangeFine x.0)) (sym c.delete.ensures.entries) (each_out (λ x. ExchangeFine x.0) c.in-DropExchange.name c.self.inside.exchanges.entries c.self.invariant.exchanges);
  queues = c.self.invariant.queues;
}

pub invariant_of-self-in-Unbind : goal.invariant_of-self-in-Unbind
invariant_of-self-in-Unbind c = record {
  exchanges = subst (Each (λ x. ExchangeFine x.0)) (sym c.unbind.ensures.entries) (exchange_unbound c.in-Unbind.exchange (find c.in-Unbind.exchange c.self.inside.exchanges.entries) c.in-Unbind.queue c.in-Unbind.key c.self.inside.exchanges.rows c.self.inside.exchanges.entries c.self.invariant.exchanges);
  queues = c.self.invariant.queues;
}

pub invariant_of-self-in-PlaceQueue : goal.invariant_of-self-in-PlaceQueue
invariant_of-self-in-PlaceQueue c = record {
  exchanges = c.self.invariant.exchanges;
  queues = queue_placed c.in-PlaceQueue.name c.in-PlaceQueue.marks c.self.inside.queues c.place_queue.new.queues (find c.in-PlaceQueue.name c.self.inside.queues.entries) c.place_queue.ensures.places (subst EditFine c.in-PlaceQueue.is c.requires.fine) c.self.invariant.queues;
}

pub invariant_of-self-in-PlaceOwn : goal.invariant_of-self-in-PlaceOwn
invariant_of-self-in-PlaceOwn c = record {
  exchanges = c.self.invariant.exchanges;
  queues = queue_placed c.in-PlaceOwn.name c.in-PlaceOwn.marks c.self.inside.queues c.place_queue-in-PlaceOwn.new.queues (find c.in-PlaceOwn.name c.self.inside.queues.entries) c.place_queue-in-PlaceOwn.ensures.places (subst EditFine c.in-PlaceOwn.is c.requires.fine) c.self.invariant.queues;
}

pub invariant_of-self-in-DropQueue : goal.invariant_of-self-in-DropQueue
invariant_of-self-in-DropQueue c = record {
  exchanges = subst (Each (λ x. ExchangeFine x.0)) (sym c.unbind_queue.ensures.entries) (each_filter (λ x. ExchangeFine x.0) _ c.self.inside.exchanges.entries c.self.invariant.exchanges);
  queues = subst (Each (λ x. QueueFine x.0)) (sym c.delete-in-DropQueue.ensures.entries) (each_out (λ x. QueueFine x.0) c.in-DropQueue.name c.self.inside.queues.entries c.self.invariant.queues);
}
