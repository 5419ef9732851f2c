-- A sink that stopped took a front of the line's text.
use Rattle.std.proofs.Common.{List, ℕ, Bool, Option, Some, Ok, subst, inl, inr}
use Rattle.std.specs.Io.KnownBytes.{Appends}
use Rattle.line_runs.specs.Lines.{LineStep}
use Rattle.line_runs.specs.Tool.{StepsBy}
use Rattle.line_runs.specs.Run.{TakesLine}
use Rattle.line_runs.specs.Write.{IsFrontOf}
use Rattle.line_runs.specs.declared.run.Ended.TheVariants as ended
use Rattle.line_runs.proofs.run.take_line.Goals as goal

written : (step : List Bool → List (List ℕ) → List ℕ → LineStep) (stands : List (List ℕ) → Type 0) (given : List Bool) (past : List (List ℕ)) (line text front : List ℕ) (number : ℕ)
    (held holds : Option (List ℕ)) → IsFrontOf front text → Appends held holds front → StepsBy step stands given past line (Ok text)
    → TakesLine step stands given past line number held holds (Some ended.NoMemory)
written step stands given past line text front number held holds is appends (inl lacks) = inl lacks
written step stands given past line text front number held holds is appends (inr steps) =
    inr (inr (record { text = text; front = front; goes = steps.1; is_front = is; appends = appends }))

pub returns-in-Ok-clause-takes : goal.returns-in-Ok-clause-takes
returns-in-Ok-clause-takes g c = λ opened past stood.
    let m = c.in-NoMemory.ensures.moves in
    written (g.T.LineTool.step opened) (g.T.LineTool.stands c.take.new.self opened) _ past _ c.in-Ok.text m.front c.args.number _ _
    (subst (λ p. IsFrontOf m.front p) c.as_slice.ensures m.is_front) m.appends (c.in-Ok.ensures.steps opened past stood)

failed : (step : List Bool → List (List ℕ) → List ℕ → LineStep) (stands : List (List ℕ) → Type 0) (given : List Bool) (past : List (List ℕ)) (line text front : List ℕ) (number : ℕ)
    (held holds : Option (List ℕ)) → IsFrontOf front text → Appends held holds front → StepsBy step stands given past line (Ok text)
    → TakesLine step stands given past line number held holds (Some ended.WriteFault)
failed step stands given past line text front number held holds is appends (inl lacks) = inl lacks
failed step stands given past line text front number held holds is appends (inr steps) =
    inr (record { text = text; front = front; goes = steps.1; is_front = is; appends = appends })

pub returns-in-Failed-clause-takes : goal.returns-in-Failed-clause-takes
returns-in-Failed-clause-takes g c = λ opened past stood.
    let m = c.in-Failed.ensures.moves in
    failed (g.T.LineTool.step opened) (g.T.LineTool.stands c.take.new.self opened) _ past _ c.in-Ok.text m.front c.args.number _ _
    (subst (λ p. IsFrontOf m.front p) c.as_slice.ensures m.is_front) m.appends (c.in-Ok.ensures.steps opened past stood)
