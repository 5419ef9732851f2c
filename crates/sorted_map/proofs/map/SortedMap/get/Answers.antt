-- The first of those with the key is its entry.
use Rattle.std.proofs.Common.{arith, ◌≡◌, ◌<◌, ◌+◌, ◌∙◌, List, length, ap, subst}
use Rattle.sorted_map.specs.Cuts.{before, within}
use Rattle.sorted_map.proofs.Cutting.{at_cut}
use Rattle.sorted_map.specs.Map.{Mapped, by_key, from_key, find}
use Rattle.sorted_map.proofs.Ordering.{rises, found_first}
use Rattle.sorted_map.proofs.map.SortedMap.get.Goals as goal

pub returns-then-low-high : goal.returns-then-low-high
returns-then-low-high g c =
    let some : 0 < length (within (from_key g.K.Ord.cmp c.args.key.now) c.self.inside.entries.items) = omega (arith, c.if-low-high.true, (subst (λ (es : List (g.row.K.Denot × g.row.T.Denot)). c.part-low.result.1 ≡ c.part-low.result.0 + length (within (from_key g.K.Ord.cmp c.args.key.now) es)) c.as_slice.ensures.value c.part-low.ensures.within)) in
    found_first g.K.Ord.cmp c.args.key.now c.self.inside.entries.items c.index.result.now some (at_cut (by_key g.K.Ord.cmp) (from_key g.K.Ord.cmp c.args.key.now) (rises g.K.Ord.cmp g.met.K.Ord.total c.args.key.now) c.self.inside.entries.items c.self.invariant c.part-low.result.0 (subst (λ (es : List (g.row.K.Denot × g.row.T.Denot)). c.part-low.result.0 ≡ length (before (from_key g.K.Ord.cmp c.args.key.now) es)) c.as_slice.ensures.value c.part-low.ensures.before) some c.index.result.now c.index.ensures)
    ∙ ap (λ (v : Mapped g.row.K.Denot g.row.T.Denot). find g.K.Ord.cmp c.args.key.now v.entries) c.self.view_is
