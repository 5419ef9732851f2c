-- What the run reports holds whatever a store answers.
use Rattle.std.proofs.Common.{List, [], Bool, true, false, not, ℕ, Option, None, Some, IfSome, ◌≡◌, sym, refl}
use Rattle.line_runs.specs.Lines.{strays}
use Rattle.trace_tool.specs.Tool.{replayed}
use Rattle.trace_tool.proofs.replay.run_replay.Goals as goal

turned : (b : Bool) → not b ≡ true → b ≡ false
turned true e = sym e
turned false e = refl

told : (left : Option (List ℕ)) (P : List ℕ → Type 0) → IfSome left (λ all. (later : List Bool) → strays (replayed all) ≡ false → P all)
    → IfSome left (λ all. not (strays (replayed all)) ≡ true → P all)
told None P t = t
told (Some all) P t = λ covered. t [] (turned (strays (replayed all)) covered)

pub returns-in-Ok-clause-reports : goal.returns-in-Ok-clause-reports
returns-in-Ok-clause-reports g c = told _ _ c.run_lines-ended.ensures.reports
