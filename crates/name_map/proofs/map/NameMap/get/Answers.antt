-- The name's entry is at its place, and at a gap there is none.
use Rattle.std.proofs.Common.{◌∙◌, sym, ap, subst}
use Rattle.name_map.specs.Named.{Named, find, IsPlace}
use Rattle.name_map.proofs.Placing.{place_at, gap_none}
use Rattle.name_map.proofs.map.NameMap.get.Goals as goal

pub returns-in-Ok : goal.returns-in-Ok
returns-in-Ok g c =
    place_at c.args.name.now c.self.inside.entries.items c.self.invariant c.in-Ok.place c.index.result.now
    (subst (λ (v : Named g.row.T.Denot). IsPlace c.args.name.now v.entries c.in-Ok.place) (sym c.self.view_is) c.in-Ok.ensures.found) c.index.ensures
    ∙ ap (λ (v : Named g.row.T.Denot). find c.args.name.now v.entries) c.self.view_is

pub returns-in-Err : goal.returns-in-Err
returns-in-Err g c = sym (gap_none c.args.name.now c.args.self.now.entries c.in-Err.field-0 c.in-Err.ensures.gap)
