-- The first of those with the key is its entry, and the only one.
use Rattle.std.proofs.Common.{arith, ◌≡◌, ◌<◌, ◌+◌, ◌∙◌, List, length, sym, ap, subst}
use Rattle.std.specs.List.Sorted.{IsStrictlySortedBy}
use Rattle.sorted_map.specs.Cuts.{before, within}
use Rattle.sorted_map.proofs.Changing.{sorted_remove}
use Rattle.sorted_map.proofs.Cutting.{at_cut, one_taken, none_taken}
use Rattle.sorted_map.specs.Map.{Mapped, by_key, from_key, find, out}
use Rattle.sorted_map.proofs.Ordering.{entry_total, rises, apart, found_first}
use Rattle.sorted_map.proofs.Keying.{keyed_so, gone}
use Rattle.sorted_map.proofs.map.SortedMap.take.Goals as goal

pub returns-then-low-high-clause-entries : goal.returns-then-low-high-clause-entries
returns-then-low-high-clause-entries g c =
    subst (λ (v : Mapped g.row.K.Denot g.row.T.Denot). v.entries ≡ out g.K.Ord.cmp c.args.key.now v.entries) c.self.view_is (none_taken (by_key g.K.Ord.cmp) (from_key g.K.Ord.cmp c.args.key.now) (rises g.K.Ord.cmp g.met.K.Ord.total c.args.key.now) c.self.inside.entries.items c.self.invariant (omega (arith, c.if-low-high.true, (subst (λ (es : List (g.row.K.Denot × g.row.T.Denot)). c.part-low.result.1 ≡ c.part-low.result.0 + length (within (from_key g.K.Ord.cmp c.args.key.now) es)) c.as_slice.ensures.value c.part-low.ensures.within))))

pub invariant_of-self : goal.invariant_of-self
invariant_of-self g c = subst (IsStrictlySortedBy (by_key g.K.Ord.cmp)) (sym c.remove.ensures.items) (sorted_remove (by_key g.K.Ord.cmp) (entry_total g.K.Ord.cmp g.met.K.Ord.total) c.self.inside.entries.items c.part-low.result.0 c.self.invariant)

pub returns-clause-entries : goal.returns-clause-entries
returns-clause-entries g c =
    let some : 0 < length (within (from_key g.K.Ord.cmp c.args.key.now) c.self.inside.entries.items) = omega (arith, c.if-low-high.false, (subst (λ (es : List (g.row.K.Denot × g.row.T.Denot)). c.part-low.result.1 ≡ c.part-low.result.0 + length (within (from_key g.K.Ord.cmp c.args.key.now) es)) c.as_slice.ensures.value c.part-low.ensures.within)) in
    c.remove.ensures.items
    ∙ (one_taken (by_key g.K.Ord.cmp) (from_key g.K.Ord.cmp c.args.key.now) (apart g.K.Ord.cmp g.met.K.Ord.total c.args.key.now) (rises g.K.Ord.cmp g.met.K.Ord.total c.args.key.now) c.self.inside.entries.items c.self.invariant c.part-low.result.0 (subst (λ (es : List (g.row.K.Denot × g.row.T.Denot)). c.part-low.result.0 ≡ length (before (from_key g.K.Ord.cmp c.args.key.now) es)) c.as_slice.ensures.value c.part-low.ensures.before) some
    ∙ ap (λ (v : Mapped g.row.K.Denot g.row.T.Denot). out g.K.Ord.cmp c.args.key.now v.entries) c.self.view_is)

pub returns-clause-some : goal.returns-clause-some
returns-clause-some g c =
    let some : 0 < length (within (from_key g.K.Ord.cmp c.args.key.now) c.self.inside.entries.items) = omega (arith, c.if-low-high.false, (subst (λ (es : List (g.row.K.Denot × g.row.T.Denot)). c.part-low.result.1 ≡ c.part-low.result.0 + length (within (from_key g.K.Ord.cmp c.args.key.now) es)) c.as_slice.ensures.value c.part-low.ensures.within)) in
    let first = at_cut (by_key g.K.Ord.cmp) (from_key g.K.Ord.cmp c.args.key.now) (rises g.K.Ord.cmp g.met.K.Ord.total c.args.key.now) c.self.inside.entries.items c.self.invariant c.part-low.result.0 (subst (λ (es : List (g.row.K.Denot × g.row.T.Denot)). c.part-low.result.0 ≡ length (before (from_key g.K.Ord.cmp c.args.key.now) es)) c.as_slice.ensures.value c.part-low.ensures.before) some c.remove.result c.remove.ensures.value in (
      keyed_so g.K.Ord.cmp c.args.key.now c.self.inside.entries.items c.remove.result some first,
      sym (found_first g.K.Ord.cmp c.args.key.now c.self.inside.entries.items c.remove.result some first ∙ ap (λ (v : Mapped g.row.K.Denot g.row.T.Denot). find g.K.Ord.cmp c.args.key.now v.entries) c.self.view_is),
    )

pub returns-clause-gone : goal.returns-clause-gone
returns-clause-gone g c = ap (find g.K.Ord.cmp c.args.key.now) (returns-clause-entries g c) ∙ gone g.K.Ord.cmp c.args.key.now c.args.self.now.entries
