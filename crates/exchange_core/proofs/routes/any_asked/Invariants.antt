-- Those left decide where all do.
use Rattle.std.proofs.Common.{◌≡◌}
use Rattle.std.specs.List.{list_any}
use Rattle.std.specs.Option.{option_copied}
use Rattle.exchange_core.specs.Routes.{is_asked}
use Rattle.exchange_core.proofs.routes.any_asked.Given as goal

abbrev pub invariant-loop-row : goal.invariant-loop-row
invariant-loop-row l = list_any (is_asked (option_copied l.key) (option_copied l.arguments)) l.rows ≡ list_any (is_asked (option_copied l.key) (option_copied l.arguments)) l.initial.rows
