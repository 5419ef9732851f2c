-- What a whole piece, written over several calls, does to the octets that a sink took.
use Rattle.std.specs.Prelude.{◌≡◌, ℕ, ◌≤◌, List, ◌++◌, Option}
use Rattle.std.specs.Io.KnownBytes.{Appends}
use Rattle.outside_core.specs.Faults.{Rose}
use Rattle.line_runs.specs.declared.write.Written.{Written}
use Rattle.line_runs.specs.declared.write.Written.TheVariants.{All, Failed, NoMemory}

-- a front of the whole
abbrev pub IsFrontOf : List ℕ → List ℕ → Type 0
IsFrontOf front whole = (rest : List ℕ) × (whole ≡ front ++ rest)

-- a front of the piece was taken
pub record WritesFront (held holds : Option (List ℕ)) (piece : List ℕ) : Type 0 where
  pub front : List ℕ
  pub is_front : IsFrontOf front piece
  pub appends : Appends held holds front

-- the piece is taken whole, or a front of it
abbrev pub WritesPiece : Option (List ℕ) → Option (List ℕ) → List ℕ → Written → Type 0
WritesPiece held holds piece All = Appends held holds piece
WritesPiece held holds piece Failed = WritesFront held holds piece
WritesPiece held holds piece NoMemory = WritesFront held holds piece

-- the count never falls, and rose where the sink failed
pub record WrittenHasCause (before now : ℕ) (answer : Written) : Type 0 where
  pub later : before ≤ now
  pub failed : answer ≡ Failed → Rose before now
