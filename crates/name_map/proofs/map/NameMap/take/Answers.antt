-- The name's entry is taken out at its place.
use Rattle.std.proofs.Common.{◌∙◌, sym, ap, subst}
use Rattle.name_map.specs.Named.{Named, Sorted, find, out, IsPlace}
use Rattle.name_map.proofs.Placing.{place_at, place_named, place_removed, sorted_out, gap_none, out_none, out_gone}
use Rattle.name_map.proofs.map.NameMap.take.Goals as goal

pub invariant_of-self : goal.invariant_of-self
invariant_of-self g c =
    subst Sorted
    (sym (c.remove.ensures.items ∙ place_removed c.args.name.now c.self.inside.entries.items c.self.invariant c.in-Ok.place c.remove.result (subst (λ (v : Named g.row.T.Denot). IsPlace c.args.name.now v.entries c.in-Ok.place) (sym c.self.view_is) c.in-Ok.ensures.found)))
    (sorted_out c.args.name.now c.self.inside.entries.items c.self.invariant)

pub returns-in-Ok-clause-entries : goal.returns-in-Ok-clause-entries
returns-in-Ok-clause-entries g c =
    c.remove.ensures.items
    ∙ (place_removed c.args.name.now c.self.inside.entries.items c.self.invariant c.in-Ok.place c.remove.result (subst (λ (v : Named g.row.T.Denot). IsPlace c.args.name.now v.entries c.in-Ok.place) (sym c.self.view_is) c.in-Ok.ensures.found)
    ∙ ap (λ (v : Named g.row.T.Denot). out c.args.name.now v.entries) c.self.view_is)

pub returns-in-Ok-clause-some : goal.returns-in-Ok-clause-some
returns-in-Ok-clause-some g c = (
  place_named c.args.name.now c.self.inside.entries.items c.in-Ok.place c.remove.result (subst (λ (v : Named g.row.T.Denot). IsPlace c.args.name.now v.entries c.in-Ok.place) (sym c.self.view_is) c.in-Ok.ensures.found) c.remove.ensures.value,
  sym (place_at c.args.name.now c.self.inside.entries.items c.self.invariant c.in-Ok.place c.remove.result (subst (λ (v : Named g.row.T.Denot). IsPlace c.args.name.now v.entries c.in-Ok.place) (sym c.self.view_is) c.in-Ok.ensures.found) c.remove.ensures.value
      ∙ ap (λ (v : Named g.row.T.Denot). find c.args.name.now v.entries) c.self.view_is),
)

pub returns-in-Err-clause-entries : goal.returns-in-Err-clause-entries
returns-in-Err-clause-entries g c = sym (out_none c.args.name.now c.args.self.now.entries (gap_none c.args.name.now c.args.self.now.entries c.in-Err.field-0 c.in-Err.ensures.gap))

pub returns-in-Err-clause-none : goal.returns-in-Err-clause-none
returns-in-Err-clause-none g c = gap_none c.args.name.now c.args.self.now.entries c.in-Err.field-0 c.in-Err.ensures.gap

pub returns-in-Ok-clause-gone : goal.returns-in-Ok-clause-gone
returns-in-Ok-clause-gone g c =
    ap (find c.args.name.now) (c.remove.ensures.items ∙ place_removed c.args.name.now c.self.inside.entries.items c.self.invariant c.in-Ok.place c.remove.result (subst (λ (v : Named g.row.T.Denot). IsPlace c.args.name.now v.entries c.in-Ok.place) (sym c.self.view_is) c.in-Ok.ensures.found))
    ∙ out_gone c.args.name.now c.self.inside.entries.items c.self.invariant

pub returns-in-Err-clause-gone : goal.returns-in-Err-clause-gone
returns-in-Err-clause-gone g c = gap_none c.args.name.now c.args.self.now.entries c.in-Err.field-0 c.in-Err.ensures.gap
