-- The name is put in at its gap.
use Rattle.std.proofs.Common.{◌≡◌, ◌∙◌, None, sym, ap, subst}
use Rattle.name_map.specs.Named.{Named, Sorted, find, put, IsPlace, IsGap}
use Rattle.name_map.proofs.Placing.{place_some, gap_is, sorted_put}
use Rattle.name_map.proofs.map.NameMap.put.Goals as goal

pub unreachable-requires : goal.unreachable-requires
unreachable-requires g c =
    place_some c.args.name c.self.inside.entries.items c.self.invariant c.in-Ok.field-0
    (subst (λ (v : Named g.row.T.Denot). IsPlace c.args.name v.entries c.in-Ok.field-0) (sym c.self.view_is) c.in-Ok.ensures.found)
    (subst (λ (v : Named g.row.T.Denot). find c.args.name v.entries ≡ None) (sym c.self.view_is) c.requires.new)

pub invariant_of-self : goal.invariant_of-self
invariant_of-self g c =
    subst Sorted
    (sym (c.in-Ok-insert.ensures.items ∙ gap_is c.args.name c.args.value c.self.inside.entries.items c.in-Err.place (subst (λ (v : Named g.row.T.Denot). IsGap c.args.name v.entries c.in-Err.place) (sym c.self.view_is) c.in-Err.ensures.gap)))
    (sorted_put c.args.name c.args.value c.self.inside.entries.items c.self.invariant (subst (λ (v : Named g.row.T.Denot). find c.args.name v.entries ≡ None) (sym c.self.view_is) c.requires.new))

pub returns-clause-entries : goal.returns-clause-entries
returns-clause-entries g c =
    c.in-Ok-insert.ensures.items
    ∙ (gap_is c.args.name c.args.value c.self.inside.entries.items c.in-Err.place (subst (λ (v : Named g.row.T.Denot). IsGap c.args.name v.entries c.in-Err.place) (sym c.self.view_is) c.in-Err.ensures.gap)
    ∙ ap (λ (v : Named g.row.T.Denot). put c.args.name c.args.value v.entries) c.self.view_is)
