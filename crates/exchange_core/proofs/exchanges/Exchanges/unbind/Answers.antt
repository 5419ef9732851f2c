-- Bindings go, and an exchange that has none left.
use Rattle.std.proofs.Common.{rules, ◌≡◌, ◌∙◌, List, [], Some, sym, ap, subst, filter}
use Rattle.name_map.specs.Named.{find}
use Rattle.binding_table.specs.Rows.{is_of}
use Rattle.exchange_core.specs.Routes.{Rowed, has_none}
use Rattle.exchange_core.specs.Exchanges.{Entry, OwnRows}
use Rattle.exchange_core.proofs.Owning.{unbound_owns, ended_owns, none_is}
use Rattle.exchange_core.proofs.exchanges.Exchanges.unbind.Goals as goal

pub invariant_of-self : goal.invariant_of-self
invariant_of-self c = subst (λ (rs : List Rowed). OwnRows c.self.inside.names.entries rs) (sym c.take.ensures.rows) (unbound_owns c.self.inside.names.entries c.self.inside.bindings.rows c.self.invariant (record { exchange = c.in-Some.entry.now.1; queue = c.args.queue.now; key = c.args.key.now }))

pub invariant_of-self-then-is_empty : goal.invariant_of-self-then-is_empty
invariant_of-self-then-is_empty c =
    let found : find c.args.exchange.now c.self.inside.names.entries ≡ Some c.in-Some.entry.now = search rules in
    let owns = subst (λ (rs : List Rowed). OwnRows c.self.inside.names.entries rs) (sym c.take.ensures.rows) (unbound_owns c.self.inside.names.entries c.self.inside.bindings.rows c.self.invariant (record { exchange = c.in-Some.entry.now.1; queue = c.args.queue.now; key = c.args.key.now })) in
    let none : filter (is_of c.in-Some.entry.now.1) c.take.new.self.rows ≡ [] = none_is (filter (is_of c.in-Some.entry.now.1) c.take.new.self.rows) (ap has_none (sym c.of_exchange.ensures) ∙ (sym c.is_empty.ensures ∙ c.if-is_empty.true)) in
    subst (λ (es : List Entry). OwnRows es c.take.new.self.rows) (sym c.take-then-is_empty.ensures.entries)
    (ended_owns c.self.inside.names.entries c.take.new.self.rows owns c.args.exchange.now c.in-Some.entry.now found none)

pub invariant_of-self-else-is_empty : goal.invariant_of-self-else-is_empty
invariant_of-self-else-is_empty c = subst (λ (rs : List Rowed). OwnRows c.self.inside.names.entries rs) (sym c.take.ensures.rows) (unbound_owns c.self.inside.names.entries c.self.inside.bindings.rows c.self.invariant (record { exchange = c.in-Some.entry.now.1; queue = c.args.queue.now; key = c.args.key.now }))

pub invariant_of-self-else-ends : goal.invariant_of-self-else-ends
invariant_of-self-else-ends c = subst (λ (rs : List Rowed). OwnRows c.self.inside.names.entries rs) (sym c.take.ensures.rows) (unbound_owns c.self.inside.names.entries c.self.inside.bindings.rows c.self.invariant (record { exchange = c.in-Some.entry.now.1; queue = c.args.queue.now; key = c.args.key.now }))
