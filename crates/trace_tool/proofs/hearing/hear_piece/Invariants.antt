-- The octets so far were heard, and each step takes some.
use Rattle.std.proofs.Common.{◌≡◌, ℕ, List, length}
use Rattle.history_model.specs.Arrivals.{Arrival}
use Rattle.broker_engine.specs.Feeds.{Talks}
use Rattle.hub_core.specs.Hub.{Serves, keeper_of}
use Rattle.trace_tool.proofs.Pieces.{GoesOn}
use Rattle.trace_tool.proofs.hearing.hear_piece.Given as goal

abbrev pub decreases-loop-rest : goal.decreases-loop-rest
decreases-loop-rest g l = length l.rest

abbrev pub invariant-loop-rest : goal.invariant-loop-rest
invariant-loop-rest g l =
    ((h : List Arrival) (before : List ℕ) → Serves l.initial.hub h → Talks l.initial.conn before → GoesOn l.hub l.conn h l.number before l.octets l.rest l.initial.sent.items l.sent.items)
    × (keeper_of l.hub ≡ keeper_of l.initial.hub)
