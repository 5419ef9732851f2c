-- The names so far, and those of the bindings that are left.
use Rattle.std.proofs.Common.{◌≡◌}
use Rattle.std.specs.Option.{option_copied}
use Rattle.exchange_core.specs.Routes.{queues_of}
use Rattle.exchange_core.proofs.Gathering.{left}
use Rattle.exchange_core.proofs.routes.queues_of.Given as goal

abbrev pub invariant-loop-row : goal.invariant-loop-row
invariant-loop-row l = left l.kind l.key (option_copied l.headers) l.names.items l.rows ≡ queues_of l.kind l.key (option_copied l.headers) l.initial.rows
