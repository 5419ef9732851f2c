-- What a tool's answer to a line says of the lines so far.
use Rattle.std.specs.Prelude.{◌≡◌, ℕ, Bool, List, ◌∷◌, ◌++◌, ◌⊎◌, Result, Ok, Err}
use Rattle.line_runs.specs.Lines.{LineStep, Goes, Breaks, Lacks}
use Rattle.line_runs.specs.declared.tool.Stop.{Stop}
use Rattle.line_runs.specs.declared.tool.Stop.TheVariants.{BadLine, Unbuilt, NoMemory}

-- answers are only added
abbrev pub Grows : List Bool → List Bool → Type 0
Grows old new = (more : List Bool) × (new ≡ old ++ more)

-- whatever the store answers later, the line's step is this one
abbrev pub StepIs : (List Bool → List (List ℕ) → List ℕ → LineStep) → List Bool → List (List ℕ) → List ℕ → LineStep → Type 0
StepIs step given past line this = (later : List Bool) → step (given ++ later) past line ≡ this

-- the answer is the line's step, and the tool stands for one line more
abbrev pub StepsTo : (List Bool → List (List ℕ) → List ℕ → LineStep) → (List (List ℕ) → Type 0) → List Bool → List (List ℕ) → List ℕ → Result (List ℕ) Stop → Type 0
StepsTo step stands given past line (Ok text) = stands (line ∷ past) × StepIs step given past line (Goes text)
StepsTo step stands given past line (Err (BadLine why)) = StepIs step given past line (Breaks why)
StepsTo step stands given past line (Err Unbuilt) = ⊥
StepsTo step stands given past line (Err NoMemory) = Unit {0}

-- the same, unless nothing is said of the line
abbrev pub StepsBy : (List Bool → List (List ℕ) → List ℕ → LineStep) → (List (List ℕ) → Type 0) → List Bool → List (List ℕ) → List ℕ → Result (List ℕ) Stop → Type 0
StepsBy step stands given past line result = StepIs step given past line Lacks ⊎ StepsTo step stands given past line result
