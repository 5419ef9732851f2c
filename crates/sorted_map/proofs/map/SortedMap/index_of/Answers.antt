-- The key stands behind those before it.
use Rattle.std.proofs.Common.{arith, ℕ, Some, ◌≡◌, ◌<◌, ◌+◌, ◌∙◌, List, length, ap, subst}
use Rattle.sorted_map.specs.Cuts.{before, within}
use Rattle.sorted_map.specs.Map.{Mapped, from_key, find, value_at, with_value}
use Rattle.sorted_map.proofs.Keying.{at_point, find_written}
use Rattle.sorted_map.proofs.map.SortedMap.index_of.Goals as goal

pub returns-then-low-high-clause-some : goal.returns-then-low-high-clause-some
returns-then-low-high-clause-some g c =
    let is = c.as_slice.ensures.value in
    let some : 0 < length (within (from_key g.K.Ord.cmp c.args.key.now) c.self.inside.entries.items) = omega (arith, c.if-low-high.true, (subst (λ (es : List (g.row.K.Denot × g.row.T.Denot)). c.part-low.result.1 ≡ c.part-low.result.0 + length (within (from_key g.K.Ord.cmp c.args.key.now) es)) is c.part-low.ensures.within)) in
    subst (λ (v : Mapped g.row.K.Denot g.row.T.Denot). (c.part-low.result.0 < length v.entries) × (value_at v.entries c.part-low.result.0 ≡ find g.K.Ord.cmp c.args.key.now v.entries)) c.self.view_is (
      omega (arith, c.if-low-high.true, c.part-low.ensures.bound, ap length is),
      ap (value_at c.self.inside.entries.items) (subst (λ (es : List (g.row.K.Denot × g.row.T.Denot)). c.part-low.result.0 ≡ length (before (from_key g.K.Ord.cmp c.args.key.now) es)) is c.part-low.ensures.before) ∙ at_point g.K.Ord.cmp g.met.K.Ord.total c.args.key.now c.self.inside.entries.items c.self.invariant some,
    )

pub returns-then-low-high-clause-written : goal.returns-then-low-high-clause-written
returns-then-low-high-clause-written g c value =
    let is = c.as_slice.ensures.value in
    let some : 0 < length (within (from_key g.K.Ord.cmp c.args.key.now) c.self.inside.entries.items) = omega (arith, c.if-low-high.true, (subst (λ (es : List (g.row.K.Denot × g.row.T.Denot)). c.part-low.result.1 ≡ c.part-low.result.0 + length (within (from_key g.K.Ord.cmp c.args.key.now) es)) is c.part-low.ensures.within)) in
    subst (λ (v : Mapped g.row.K.Denot g.row.T.Denot). find g.K.Ord.cmp c.args.key.now (with_value v.entries c.part-low.result.0 value) ≡ Some value) c.self.view_is
    (ap (λ (n : ℕ). find g.K.Ord.cmp c.args.key.now (with_value c.self.inside.entries.items n value)) (subst (λ (es : List (g.row.K.Denot × g.row.T.Denot)). c.part-low.result.0 ≡ length (before (from_key g.K.Ord.cmp c.args.key.now) es)) is c.part-low.ensures.before)
    ∙ find_written g.K.Ord.cmp g.met.K.Ord.total c.args.key.now c.self.inside.entries.items value c.self.invariant some)
