-- The runs before the number go, and the first begins at it.
use Rattle.std.proofs.Common.{◌<◌, ◌≤◌, ◌∙◌, ap, sym, subst}
use Rattle.serial_ranges.specs.Runs.{AreRuns, Cuts, IsSplit, trimmed}
use Rattle.serial_ranges.proofs.Splitting.{cut_runs, cut_names}
use Rattle.serial_ranges.proofs.range_set.cut.Goals as goal

pub returns-clause-runs : goal.returns-clause-runs
returns-clause-runs c =
    let s = subst (λ ys. IsSplit (λ y. y.1 < c.args.number) (λ y. c.args.number ≤ y.1) ys c.ended-gone.result) c.as_slice.ensures.value c.ended-gone.ensures in
    subst AreRuns (sym (c.trim.ensures ∙ ap (trimmed c.args.number) c.close.ensures.items)) (cut_runs c.args.runs.now.items c.args.number c.ended-gone.result c.requires s)

pub returns-clause-cuts : goal.returns-clause-cuts
returns-clause-cuts c =
    let s = subst (λ ys. IsSplit (λ y. y.1 < c.args.number) (λ y. c.args.number ≤ y.1) ys c.ended-gone.result) c.as_slice.ensures.value c.ended-gone.ensures in
    subst (Cuts c.args.runs.now.items c.args.number) (sym (c.trim.ensures ∙ ap (trimmed c.args.number) c.close.ensures.items)) (cut_names c.args.runs.now.items c.args.number c.ended-gone.result c.requires s)
