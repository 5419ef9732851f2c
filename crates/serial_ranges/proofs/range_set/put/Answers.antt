-- The run lies alone, or covers those that it touches.
use Rattle.std.proofs.Common.{◌+◌, ◌<◌, ◌≤◌, ◌∷◌, ◌++◌, take, drop, fold, ◌∙◌, ap, sym, subst, arith}
use Rattle.serial_ranges.specs.Runs.{AreRuns, Adds, IsSplit, join}
use Rattle.serial_ranges.proofs.Splitting.{put_here, put_over, by_answer, on_ok}
use Rattle.serial_ranges.proofs.range_set.put.Goals as goal

pub returns-then-end-start-clause-runs : goal.returns-then-end-start-clause-runs
returns-then-end-start-clause-runs c =
    let xs = c.args.runs.now.items in
    let s = subst (λ n. IsSplit (λ y. y.1 < n) (λ y. n ≤ y.1) xs c.ended-start.result) c.saturating_sub.ensures (subst (λ ys. IsSplit (λ y. y.1 < c.saturating_sub.result) (λ y. c.saturating_sub.result ≤ y.1) ys c.ended-start.result) c.as_slice.ensures.value c.ended-start.ensures) in
    let e = subst (λ ys. IsSplit (λ y. y.0 ≤ c.args.upper + 1) (λ y. c.args.upper + 1 < y.0) ys c.begun-end.result) c.as_slice-2.ensures.value c.begun-end.ensures in
    let p = put_here xs c.args.lower c.args.upper c.ended-start.result c.begun-end.result c.requires.order c.requires.within c.requires.runs s e c.if-end-start.true in
    by_answer AreRuns c.insert.result c.insert.new.runs.items (take c.ended-start.result xs ++ (c.args.lower, c.args.upper) ∷ drop c.ended-start.result xs) xs c.insert.ensures.ok c.insert.ensures.err p.runs c.requires.runs

pub returns-then-end-start-clause-adds : goal.returns-then-end-start-clause-adds
returns-then-end-start-clause-adds c =
    let xs = c.args.runs.now.items in
    let s = subst (λ n. IsSplit (λ y. y.1 < n) (λ y. n ≤ y.1) xs c.ended-start.result) c.saturating_sub.ensures (subst (λ ys. IsSplit (λ y. y.1 < c.saturating_sub.result) (λ y. c.saturating_sub.result ≤ y.1) ys c.ended-start.result) c.as_slice.ensures.value c.ended-start.ensures) in
    let e = subst (λ ys. IsSplit (λ y. y.0 ≤ c.args.upper + 1) (λ y. c.args.upper + 1 < y.0) ys c.begun-end.result) c.as_slice-2.ensures.value c.begun-end.ensures in
    let p = put_here xs c.args.lower c.args.upper c.ended-start.result c.begun-end.result c.requires.order c.requires.within c.requires.runs s e c.if-end-start.true in
    on_ok (Adds xs (c.args.lower, c.args.upper)) c.insert.result c.insert.new.runs.items (take c.ended-start.result xs ++ (c.args.lower, c.args.upper) ∷ drop c.ended-start.result xs) c.insert.ensures.ok p.adds

pub returns-clause-runs : goal.returns-clause-runs
returns-clause-runs c =
    let xs = c.args.runs.now.items in
    let s = subst (λ n. IsSplit (λ y. y.1 < n) (λ y. n ≤ y.1) xs c.ended-start.result) c.saturating_sub.ensures (subst (λ ys. IsSplit (λ y. y.1 < c.saturating_sub.result) (λ y. c.saturating_sub.result ≤ y.1) ys c.ended-start.result) c.as_slice.ensures.value c.ended-start.ensures) in
    let e = subst (λ ys. IsSplit (λ y. y.0 ≤ c.args.upper + 1) (λ y. c.args.upper + 1 < y.0) ys c.begun-end.result) c.as_slice-2.ensures.value c.begun-end.ensures in
    let p = put_over xs c.args.lower c.args.upper c.ended-start.result c.begun-end.result c.requires.order c.requires.within c.requires.runs s e (omega (arith, c.if-end-start.false)) in
    let mid = c.split_at-2.ensures.back ∙ ap (drop c.ended-start.result) (c.split_at.ensures.front ∙ ap (take c.begun-end.result) c.as_slice-3.ensures.value) in
    subst AreRuns (sym (c.replace.ensures.items ∙ ap (λ r. take c.ended-start.result xs ++ r ∷ drop c.begun-end.result xs) (c.joined-run.ensures ∙ ap (fold join (c.args.lower, c.args.upper)) mid))) p.runs

pub returns-clause-adds : goal.returns-clause-adds
returns-clause-adds c =
    let xs = c.args.runs.now.items in
    let s = subst (λ n. IsSplit (λ y. y.1 < n) (λ y. n ≤ y.1) xs c.ended-start.result) c.saturating_sub.ensures (subst (λ ys. IsSplit (λ y. y.1 < c.saturating_sub.result) (λ y. c.saturating_sub.result ≤ y.1) ys c.ended-start.result) c.as_slice.ensures.value c.ended-start.ensures) in
    let e = subst (λ ys. IsSplit (λ y. y.0 ≤ c.args.upper + 1) (λ y. c.args.upper + 1 < y.0) ys c.begun-end.result) c.as_slice-2.ensures.value c.begun-end.ensures in
    let p = put_over xs c.args.lower c.args.upper c.ended-start.result c.begun-end.result c.requires.order c.requires.within c.requires.runs s e (omega (arith, c.if-end-start.false)) in
    let mid = c.split_at-2.ensures.back ∙ ap (drop c.ended-start.result) (c.split_at.ensures.front ∙ ap (take c.begun-end.result) c.as_slice-3.ensures.value) in
    subst (Adds xs (c.args.lower, c.args.upper)) (sym (c.replace.ensures.items ∙ ap (λ r. take c.ended-start.result xs ++ r ∷ drop c.begun-end.result xs) (c.joined-run.ensures ∙ ap (fold join (c.args.lower, c.args.upper)) mid))) p.adds
