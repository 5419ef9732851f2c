-- What a run over an input read and wrote, by how it ended.
use Rattle.std.specs.Prelude.{◌≡◌, ℕ, ◌+◌, ◌<◌, ◌≤◌, ◌^◌, Bool, true, false, List, [], ◌∷◌, ◌++◌, length, Option, None, Some, ◌⊎◌, IfSome}
use Rattle.std.specs.Io.KnownBytes.{Consumes, Appends, IsAtEnd}
use Rattle.outside_core.specs.Faults.{Rose}
use Rattle.line_runs.specs.Lines.{LineStep, Goes, Breaks, Lacks, Ending, BreaksAt, PassesLimit, Progress, Going, read_by, strays, at_end, outcome, output_of, ending_of, written_by}
use Rattle.line_runs.specs.Tool.{StepIs}
use Rattle.line_runs.specs.Waiting.{Waiting}
use Rattle.line_runs.specs.Write.{IsFrontOf}
use Rattle.line_runs.specs.declared.run.Ended.{Ended}
use Rattle.line_runs.specs.declared.run.Ended.TheVariants as ended

-- a front of what the line's step gives was written
pub record WritesSome (step : List Bool → List (List ℕ) → List ℕ → LineStep) (given : List Bool) (past : List (List ℕ)) (line : List ℕ) (held holds : Option (List ℕ)) : Type 0 where
  pub text : List ℕ
  pub front : List ℕ
  pub goes : StepIs step given past line (Goes text)
  pub is_front : IsFrontOf front text
  pub appends : Appends held holds front

-- one line was taken, and its text written; or the run ended there
abbrev pub TakesKnown : (List Bool → List (List ℕ) → List ℕ → LineStep) → (List (List ℕ) → Type 0) → List Bool → List (List ℕ) → List ℕ → ℕ → Option (List ℕ) → Option (List ℕ) → Option Ended → Type 0
TakesKnown step stands given past line number held holds None =
    (text : List ℕ) × StepIs step given past line (Goes text) × stands (line ∷ past) × Appends held holds text
TakesKnown step stands given past line number held holds (Some (ended.BadLine at why)) =
    (at ≡ number) × StepIs step given past line (Breaks why) × Appends held holds []
TakesKnown step stands given past line number held holds (Some (ended.Unbuilt at)) = ⊥
TakesKnown step stands given past line number held holds (Some ended.WriteFault) = WritesSome step given past line held holds
TakesKnown step stands given past line number held holds (Some ended.NoMemory) =
    Appends held holds [] ⊎ WritesSome step given past line held holds
TakesKnown step stands given past line number held holds (Some ended.Ok) = ⊥
TakesKnown step stands given past line number held holds (Some ended.ReadFault) = ⊥
TakesKnown step stands given past line number held holds (Some ended.InputTooLong) = ⊥

-- the same, unless nothing is said of the line
abbrev pub TakesLine : (List Bool → List (List ℕ) → List ℕ → LineStep) → (List (List ℕ) → Type 0) → List Bool → List (List ℕ) → List ℕ → ℕ → Option (List ℕ) → Option (List ℕ) → Option Ended → Type 0
TakesLine step stands given past line number held holds answer =
    StepIs step given past line Lacks ⊎ TakesKnown step stands given past line number held holds answer

-- the sink's count never falls, and rose where a write failed
pub record WriteHasCause (before now : ℕ) (answer : Option Ended) : Type 0 where
  pub later : before ≤ now
  pub failed : answer ≡ Some ended.WriteFault → Rose before now

-- the source's count never falls, and rose where a read failed
pub record ReadHasCause (before now : ℕ) (answer : Option Ended) : Type 0 where
  pub later : before ≤ now
  pub failed : answer ≡ Some ended.ReadFault → Rose before now

-- a run that ended so wrote exactly what it wrote until then
pub record EndsBy (run : Progress) (closing : List (List ℕ) → List ℕ) (ending : Option Ending) (held holds : Option (List ℕ)) : Type 0 where
  pub ending_is : ending_of run ≡ ending
  pub wrote : Appends held holds (written_by closing run)

-- the source failed, and what whole lines gave before was written
pub record StopsReading (step : List (List ℕ) → List ℕ → LineStep) (left remains held holds : Option (List ℕ)) : Type 0 where
  pub took : List ℕ
  pub consumes : Consumes left remains took
  pub goes : ending_of (read_by step took) ≡ None
  pub wrote : Appends held holds (output_of (read_by step took))

-- a front of all that the run writes was written
pub record StopsWriting (run : Progress) (closing : List (List ℕ) → List ℕ) (held holds : Option (List ℕ)) : Type 0 where
  pub front : List ℕ
  pub is_front : IsFrontOf front (written_by closing run)
  pub wrote : Appends held holds front

-- what a run over the whole input wrote, by how it ended; where something is said of each of its lines, it is never Unbuilt
abbrev pub Reports : (List (List ℕ) → List ℕ → LineStep) → (List (List ℕ) → List ℕ) → List ℕ → Option (List ℕ) → Option (List ℕ) → Option (List ℕ) → Option (List ℕ) → Ended → Type 0
Reports step closing all left remains held holds ended.Ok = EndsBy (outcome step all) closing None held holds
Reports step closing all left remains held holds (ended.BadLine line why) = EndsBy (outcome step all) closing (Some (BreaksAt line why)) held holds
Reports step closing all left remains held holds (ended.Unbuilt line) = ⊥
Reports step closing all left remains held holds ended.ReadFault = StopsReading step left remains held holds
Reports step closing all left remains held holds ended.WriteFault = StopsWriting (outcome step all) closing held holds
Reports step closing all left remains held holds ended.NoMemory = StopsWriting (outcome step all) closing held holds
Reports step closing all left remains held holds ended.InputTooLong = EndsBy (outcome step all) closing (Some PassesLimit) held holds

-- the same, where the source tells its octets, something is said of each line, and whatever the store answers later
abbrev pub ReportsTold : (List Bool → List (List ℕ) → List ℕ → LineStep) → (List Bool → List (List ℕ) → List ℕ) → List Bool → Option (List ℕ) → Option (List ℕ) → Option (List ℕ) → Option (List ℕ) → Ended → Type 0
ReportsTold step closing given left remains held holds answer =
    IfSome left (λ all. (later : List Bool) → strays (outcome (step (given ++ later)) all) ≡ false
    → Reports (step (given ++ later)) (closing (given ++ later)) all left remains held holds answer)

-- the run comes to a line of which nothing is said, whatever the store answers later
abbrev pub StraysTold : (List Bool → List (List ℕ) → List ℕ → LineStep) → List Bool → Option (List ℕ) → Type 0
StraysTold step given left = IfSome left (λ all. (later : List Bool) → strays (outcome (step (given ++ later)) all) ≡ true)

-- whole lines were taken, and the octets at hand follow them
pub record AfterLines (step : List Bool → List (List ℕ) → List ℕ → LineStep) (given : List Bool) (took text : List ℕ) (run : List Bool → Progress) : Type 0 where
  pub taken : List ℕ
  pub parts : took ≡ taken ++ text
  pub reads : (later : List Bool) → read_by (step (given ++ later)) taken ≡ run later

-- the last line was taken, which lacked its LF
pub record AfterLast (step : List Bool → List (List ℕ) → List ℕ → LineStep) (given : List Bool) (took : List ℕ) (waiting : Waiting) (run : List Bool → Progress) : Type 0 where
  pub none : waiting.text ≡ []
  pub ended : waiting.ended ≡ true
  pub reads : (later : List Bool) → at_end (step (given ++ later)) (read_by (step (given ++ later)) took) ≡ run later

-- the octets that were read bring the run so far, whatever the store answers later
abbrev pub ReadsAs : (List Bool → List (List ℕ) → List ℕ → LineStep) → List Bool → List ℕ → Waiting → (List Bool → Progress) → Type 0
ReadsAs step given took waiting run = AfterLines step given took waiting.text run ⊎ AfterLast step given took waiting run

-- what a run has taken and written while it goes on
pub record Reached (step : List Bool → List (List ℕ) → List ℕ → LineStep) (given : List Bool) (left remains held holds : Option (List ℕ)) (waiting : Waiting) (past : List (List ℕ)) : Type 0 where
  pub took : List ℕ
  pub wrote : List ℕ
  pub consumes : Consumes left remains took
  pub appends : Appends held holds wrote
  pub count : waiting.count ≡ length took
  pub limited : waiting.count ≤ 2 ^ 30
  pub ends : waiting.ended ≡ true → IsAtEnd remains
  pub whole : ReadsAs step given took waiting (λ _. Going past [] wrote)

-- after one turn: one line further, or at the end
abbrev pub Turns : (List Bool → List (List ℕ) → List ℕ → LineStep) → (List Bool → List (List ℕ) → List ℕ) → (List (List ℕ) → Type 0) → List Bool → Option (List ℕ) → Option (List ℕ) → Option (List ℕ) → Option (List ℕ) → Waiting → ℕ → Option Ended → Type 0
Turns step closing stands given left remains held holds waiting number None =
    StraysTold step given left ⊎ ((past : List (List ℕ)) × stands past × (length past ≡ number) × Reached step given left remains held holds waiting past)
Turns step closing stands given left remains held holds waiting number (Some answer) =
    ReportsTold step closing given left remains held holds answer

-- a turn that goes on took at least one octet
abbrev pub MovesOn : Waiting → Waiting → Option Ended → Type 0
MovesOn old new None = (old.count + length new.text < new.count + length old.text) × (old.count ≤ 2 ^ 30 → new.count ≤ 2 ^ 30)
MovesOn old new (Some answer) = Unit {0}

-- where the source ended, nothing is left of it
abbrev pub KnowsEnd : Option (List ℕ) → Option (List ℕ) → Waiting → Waiting → Option Ended → Type 0
KnowsEnd left remains old new None = (old.ended ≡ true → IsAtEnd left) → new.ended ≡ true → IsAtEnd remains
KnowsEnd left remains old new (Some ended.Ok) = (old.ended ≡ true → IsAtEnd left) → IsAtEnd remains
KnowsEnd left remains old new (Some (ended.BadLine line why)) = Unit {0}
KnowsEnd left remains old new (Some (ended.Unbuilt line)) = Unit {0}
KnowsEnd left remains old new (Some ended.ReadFault) = Unit {0}
KnowsEnd left remains old new (Some ended.WriteFault) = Unit {0}
KnowsEnd left remains old new (Some ended.NoMemory) = Unit {0}
KnowsEnd left remains old new (Some ended.InputTooLong) = Unit {0}

-- the closing lines were written, or a front of them
pub record ClosesPartly (closing : List Bool → List (List ℕ) → List ℕ) (given : List Bool) (past : List (List ℕ)) (held holds : Option (List ℕ)) : Type 0 where
  pub text : List ℕ
  pub front : List ℕ
  pub closes : (later : List Bool) → closing (given ++ later) past ≡ text
  pub is_front : IsFrontOf front text
  pub appends : Appends held holds front

-- how the closing lines were written
abbrev pub Closes : (List Bool → List (List ℕ) → List ℕ) → List Bool → List (List ℕ) → Option (List ℕ) → Option (List ℕ) → Ended → Type 0
Closes closing given past held holds ended.Ok = (text : List ℕ) × ((later : List Bool) → closing (given ++ later) past ≡ text) × Appends held holds text
Closes closing given past held holds ended.WriteFault = ClosesPartly closing given past held holds
Closes closing given past held holds ended.NoMemory = Appends held holds [] ⊎ ClosesPartly closing given past held holds
Closes closing given past held holds (ended.BadLine line why) = ⊥
Closes closing given past held holds (ended.Unbuilt line) = ⊥
Closes closing given past held holds ended.ReadFault = ⊥
Closes closing given past held holds ended.InputTooLong = ⊥
