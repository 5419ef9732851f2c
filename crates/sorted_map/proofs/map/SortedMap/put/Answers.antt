-- The key goes in between those before it and those behind.
use Rattle.std.proofs.Common.{◌≡◌, ◌∙◌, List, None, length, sym, ap, subst}
use Rattle.std.specs.List.Sorted.{IsStrictlySortedBy}
use Rattle.sorted_map.specs.Cuts.{before}
use Rattle.sorted_map.proofs.Changing.{insert_cut, sorted_put}
use Rattle.sorted_map.specs.Map.{Mapped, by_key, from_key, find, put}
use Rattle.sorted_map.proofs.Ordering.{entry_total, none_there}
use Rattle.sorted_map.proofs.map.SortedMap.put.Goals as goal

pub invariant_of-self : goal.invariant_of-self
invariant_of-self g c = subst (IsStrictlySortedBy (by_key g.K.Ord.cmp)) (sym (c.in-Ok.ensures.items ∙ insert_cut (by_key g.K.Ord.cmp) (entry_total g.K.Ord.cmp g.met.K.Ord.total) (c.args.key, c.args.value) c.self.inside.entries.items c.self.invariant (none_there g.K.Ord.cmp c.args.key c.self.inside.entries.items (subst (λ (v : Mapped g.row.K.Denot g.row.T.Denot). find g.K.Ord.cmp c.args.key v.entries ≡ None) (sym c.self.view_is) c.requires.new)) c.part-low.result.0 (subst (λ (es : List (g.row.K.Denot × g.row.T.Denot)). c.part-low.result.0 ≡ length (before (from_key g.K.Ord.cmp c.args.key) es)) c.as_slice.ensures.value c.part-low.ensures.before))) (sorted_put (by_key g.K.Ord.cmp) (entry_total g.K.Ord.cmp g.met.K.Ord.total) (c.args.key, c.args.value) c.self.inside.entries.items c.self.invariant)

pub returns-clause-entries : goal.returns-clause-entries
returns-clause-entries g c =
    c.in-Ok.ensures.items
    ∙ (insert_cut (by_key g.K.Ord.cmp) (entry_total g.K.Ord.cmp g.met.K.Ord.total) (c.args.key, c.args.value) c.self.inside.entries.items c.self.invariant (none_there g.K.Ord.cmp c.args.key c.self.inside.entries.items (subst (λ (v : Mapped g.row.K.Denot g.row.T.Denot). find g.K.Ord.cmp c.args.key v.entries ≡ None) (sym c.self.view_is) c.requires.new)) c.part-low.result.0 (subst (λ (es : List (g.row.K.Denot × g.row.T.Denot)). c.part-low.result.0 ≡ length (before (from_key g.K.Ord.cmp c.args.key) es)) c.as_slice.ensures.value c.part-low.ensures.before)
    ∙ ap (λ (v : Mapped g.row.K.Denot g.row.T.Denot). put g.K.Ord.cmp c.args.key c.args.value v.entries) c.self.view_is)
