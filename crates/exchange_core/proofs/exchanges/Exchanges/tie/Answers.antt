-- The binding is of an exchange that is there.
use Rattle.std.proofs.Common.{rules, ◌≡◌, List, Some, refl, sym, subst}
use Rattle.name_map.specs.Named.{find}
use Rattle.exchange_core.specs.Routes.{Rowed}
use Rattle.exchange_core.specs.Exchanges.{OwnRows}
use Rattle.exchange_core.proofs.Owning.{bound_owns}
use Rattle.exchange_core.proofs.exchanges.Exchanges.tie.Goals as goal

pub invariant_of-self : goal.invariant_of-self
invariant_of-self c =
    let found : find c.args.exchange.now c.self.inside.names.entries ≡ Some c.in-Some.entry.now = search rules in
    subst (λ (rs : List Rowed). OwnRows c.self.inside.names.entries rs) (sym c.put.ensures.rows)
    (bound_owns c.self.inside.names.entries c.self.inside.bindings.rows c.self.invariant c.args.exchange.now c.in-Some.entry.now found (record { exchange = c.in-Some.entry.now.1; binding = c.args.binding }) refl)
