-- The exchange's number had no bindings.
use Rattle.std.proofs.Common.{◌∙◌, List, sym, ap, subst}
use Rattle.name_map.specs.Named.{put}
use Rattle.exchange_core.specs.Exchanges.{Exchanged, Entry, OwnRows}
use Rattle.exchange_core.proofs.Owning.{put_owns}
use Rattle.exchange_core.proofs.exchanges.Exchanges.place.Goals as goal

pub invariant_of-self : goal.invariant_of-self
invariant_of-self c =
    subst (λ (es : List Entry). OwnRows es c.self.inside.bindings.rows) (sym c.put.ensures.entries)
    (put_owns c.self.inside.names.entries c.self.inside.bindings.rows c.self.invariant c.args.name (c.args.marks, c.put.result))

pub returns-clause-entries : goal.returns-clause-entries
returns-clause-entries c = (
  c.put.result,
  c.put.ensures.entries ∙ ap (λ (v : Exchanged). put c.args.name (c.args.marks, c.put.result) v.entries) c.self.view_is,
  c.self.invariant c.put.result c.put.ensures.fresh,
)
