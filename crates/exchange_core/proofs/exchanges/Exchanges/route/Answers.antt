-- The bindings are sorted, and so are the names.
use Rattle.std.proofs.Common.{ℕ, List, sym, subst}
use Rattle.std.specs.Cmp.Lexicographic.{slice_cmp}
use Rattle.std.specs.List.Sorted.{IsStrictlySortedBy}
use Rattle.std.specs.Option.{option_copied}
use Rattle.std.specs.Ordering.{nat_cmp, on}
use Rattle.name_map.specs.Named.{find}
use Rattle.binding_table.specs.Spots.{spot, queue_order}
use Rattle.exchange_core.specs.Exchanges.{Exchanged}
use Rattle.exchange_core.proofs.Rising.{routed_sorted, if_ok}
use Rattle.exchange_core.proofs.exchanges.Exchanges.route.Goals as goal

pub returns-clause-sorted : goal.returns-clause-sorted
returns-clause-sorted c =
    if_ok
    (λ names e. subst (λ (ns : List (List ℕ)). IsStrictlySortedBy (slice_cmp nat_cmp) ns) (sym e)
    (routed_sorted (find c.args.exchange.now c.args.self.now.entries) c.args.key.now (option_copied c.args.headers) c.args.self.now.rows
    (subst (λ (v : Exchanged). IsStrictlySortedBy (on spot queue_order) v.rows) c.self.view_is c.rows.ensures.sorted)))
    c.routes.result c.routes.ensures
