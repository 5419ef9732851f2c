-- The exchange's number has no bindings then.
use Rattle.std.proofs.Common.{◌∙◌, ℕ, List, Option, sym, ap, subst}
use Rattle.name_map.specs.Named.{find, out}
use Rattle.name_map.proofs.Placing.{out_none}
use Rattle.exchange_core.specs.declared.marks.ExchangeMarks.{ExchangeMarks}
use Rattle.exchange_core.specs.Routes.{Rowed}
use Rattle.exchange_core.specs.Exchanges.{Exchanged, Entry, OwnRows, rows_without}
use Rattle.exchange_core.proofs.Owning.{out_owns}
use Rattle.exchange_core.proofs.exchanges.Exchanges.delete.Goals as goal

pub invariant_of-self : goal.invariant_of-self
invariant_of-self c =
    subst (λ (es : List Entry). OwnRows es c.clear.new.self.rows) (sym c.take.ensures.entries)
    (subst (λ (rs : List Rowed). OwnRows (out c.args.name.now c.self.inside.names.entries) rs) (sym c.clear.ensures.rows)
    (out_owns c.self.inside.names.entries c.self.inside.bindings.rows c.self.invariant c.args.name.now c.in-Some.taken.1 c.in-Some.ensures.some.1))

pub invariant_of-self-in_default : goal.invariant_of-self-in_default
invariant_of-self-in_default c =
    subst (λ (es : List Entry). OwnRows es c.self.inside.bindings.rows) (sym (c.take.ensures.entries ∙ out_none c.args.name.now c.self.inside.names.entries c.in_default.ensures.none.0)) c.self.invariant

pub returns-in-Some-clause-rows : goal.returns-in-Some-clause-rows
returns-in-Some-clause-rows c =
    c.clear.ensures.rows
    ∙ (ap (λ (o : Option (ExchangeMarks × ℕ)). rows_without o c.self.inside.bindings.rows) (sym c.in-Some.ensures.some.1)
    ∙ ap (λ (v : Exchanged). rows_without (find c.args.name.now v.entries) v.rows) c.self.view_is)
