-- What pieces of octets do to a course and its text.
use Rattle.std.specs.Prelude.{◌≡◌, ℕ, ◌<◌, List, [], ◌++◌, length, take, Result, Ok, Err}
use Rattle.amqp_frames.specs.declared.assembler.Assembler.{Assembler}
use Rattle.amqp_frames.specs.Cut.{Cutting, Cuts, Faults, cut}
use Rattle.amqp_frames.specs.Stands.{Stands}
use Rattle.octet_tools.specs.declared.tool.OctetTool.{OctetTool}
use Rattle.octet_tools.specs.declared.course.Stage.{Stage}
use Rattle.octet_tools.specs.declared.course.Stage.TheVariants as stage
use Rattle.octet_tools.specs.declared.course.Stop.{Stop}
use Rattle.octet_tools.specs.declared.course.Stop.TheVariants as stop
use Rattle.octet_tools.specs.Course.{Course, Opens, Runs, Ends, Brings, Gives, Breaks, limits, done_text, opened, opened_text, after, texts}

-- no fault came
abbrev pub IsCut : Cutting → Type 0
IsCut (Cuts frames rest) = Unit {0}
IsCut (Faults frames at why) = ⊥

-- an assembler took these octets, and no fault came
pub record Took (a : Assembler) (first : ℕ) (octets : List ℕ) : Type 0 where
  pub stands : Stands a limits first octets
  pub sound : IsCut (cut limits first octets)

-- what is kept is where the course is
abbrev pub StandsFor : Stage → Course → Type 0
StandsFor (stage.Opening octets) (Opens before) = (octets.items ≡ before) × (length before < 8)
StandsFor (stage.Open assembler) (Runs first octets) = Took assembler first octets
StandsFor s c = ⊥

-- an assembler is where the course is
abbrev pub IsAt : Assembler → Course → Type 0
IsAt a (Opens octets) = ⊥
IsAt a (Runs first octets) = Took a first octets
IsAt a (Ends at why) = ⊥

-- the first eight octets were taken
abbrev pub Opened : OctetTool → List ℕ → List ℕ → List ℕ → Result Assembler Stop → Type 0
Opened t eight old new (Ok a) = IsAt a (opened eight) × (new ≡ old ++ opened_text t eight)
Opened t eight old new (Err (stop.Malformed at why)) = ⊥
Opened t eight old new (Err stop.NoMemory) = Unit {0}

-- octets of frames were taken from the start on
abbrev pub Began : OctetTool → List ℕ → List ℕ → List ℕ → Result Assembler Stop → Type 0
Began t octets old new (Ok a) = IsAt a (after (Runs 0 []) octets) × (new ≡ old ++ texts t (Runs 0 []) octets)
Began t octets old new (Err (stop.Malformed at why)) = after (Runs 0 []) octets ≡ Ends at why
Began t octets old new (Err stop.NoMemory) = Unit {0}

-- octets were put at the end
abbrev pub KeepsOrNoMemory : List ℕ → List ℕ → List ℕ → Result (Unit {0}) Stop → Type 0
KeepsOrNoMemory old new more (Ok none) = new ≡ old ++ more
KeepsOrNoMemory old new more (Err (stop.Malformed at why)) = ⊥
KeepsOrNoMemory old new more (Err stop.NoMemory) = Unit {0}

-- the text of an assembly, or its fault
abbrev pub Brought : OctetTool → Brings → List ℕ → List ℕ → Result (Unit {0}) Stop → Type 0
Brought t (Gives done unit) old new (Ok none) = new ≡ old ++ done_text t done unit
Brought t (Breaks at why) old new (Err (stop.Malformed at' why')) = (at' ≡ at) × (why' ≡ why) × (new ≡ old)
Brought t b old new (Err stop.NoMemory) = Unit {0}
Brought t b old new r = ⊥

-- octets were taken, and their text was added; or the first fault came within them
abbrev pub Takes : OctetTool → (Course → Type 0) → Course → List ℕ → List ℕ → List ℕ → Result (Unit {0}) Stop → Type 0
Takes t stands c piece old new (Ok none) = stands (after c piece) × (new ≡ old ++ texts t c piece)
Takes t stands c piece old new (Err (stop.Malformed at why)) = (after c piece ≡ Ends at why) × (new ≡ old ++ texts t c piece)
Takes t stands c piece old new (Err stop.NoMemory) = Unit {0}

-- the same of the first of them
abbrev pub Steps : OctetTool → (Course → Type 0) → Course → List ℕ → List ℕ → List ℕ → Result ℕ Stop → Type 0
Steps t stands c piece old new (Ok taken) = stands (after c (take taken piece)) × (new ≡ old ++ texts t c (take taken piece))
Steps t stands c piece old new (Err (stop.Malformed at why)) = (after c piece ≡ Ends at why) × (new ≡ old ++ texts t c piece)
Steps t stands c piece old new (Err stop.NoMemory) = Unit {0}

-- the same after a call that takes an assembly
abbrev pub DoneSteps : OctetTool → Assembler → Course → List ℕ → ℕ → List ℕ → List ℕ → Result (Unit {0}) Stop → Type 0
DoneSteps t a c piece taken old new (Ok none) = Steps t (IsAt a) c piece old new (Ok taken)
DoneSteps t a c piece taken old new (Err s) = Steps t (IsAt a) c piece old new (Err s)
