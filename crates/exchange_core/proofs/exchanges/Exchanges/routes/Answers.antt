-- Among the bindings of the exchange those with the key are the ones that take the message.
use Rattle.std.proofs.Common.{rules, ◌≡◌, ◌∙◌, ℕ, List, IfOk, Option, Some, filter, map, sym, ap, subst}
use Rattle.std.specs.Option.{option_copied}
use Rattle.name_map.specs.Named.{find}
use Rattle.binding_table.specs.Rows.{is_of}
use Rattle.exchange_core.specs.declared.marks.ExchangeMarks.{ExchangeMarks}
use Rattle.exchange_core.specs.declared.marks.Kind.{Kind}
use Rattle.exchange_core.specs.declared.marks.Kind.TheVariants as kinds
use Rattle.exchange_core.specs.Routes.{Rowed, queues_of, each_once}
use Rattle.exchange_core.specs.Exchanges.{Exchanged, routed}
use Rattle.exchange_core.proofs.Gathering.{with_key}
use Rattle.exchange_core.proofs.exchanges.Exchanges.routes.Goals as goal

pub returns-in-Direct : goal.returns-in-Direct
returns-in-Direct c =
    let found : find c.args.exchange.now c.self.inside.names.entries ≡ Some c.in-Some.entry.now = search rules in
    subst (λ (names : List (List ℕ)). IfOk c.queues_of.result (λ ns. ns.items ≡ names))
    (ap (queues_of kinds.Direct c.args.key.now (option_copied c.args.headers)) c.of_key.ensures
    ∙ (ap (λ (rs : List Rowed). each_once (map (λ (r : Rowed). r.binding.queue) rs)) (with_key c.in-Some.entry.now.1 c.args.key.now (option_copied c.args.headers) c.self.inside.bindings.rows)
    ∙ (ap (λ (k : Kind). queues_of k c.args.key.now (option_copied c.args.headers) (filter (is_of c.in-Some.entry.now.1) c.self.inside.bindings.rows)) (sym c.in-Direct.is)
    ∙ (ap (λ (o : Option (ExchangeMarks × ℕ)). routed o c.args.key.now (option_copied c.args.headers) c.self.inside.bindings.rows) (sym found)
    ∙ ap (λ (v : Exchanged). routed (find c.args.exchange.now v.entries) c.args.key.now (option_copied c.args.headers) v.rows) c.self.view_is))))
    c.queues_of.ensures
