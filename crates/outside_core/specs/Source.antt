-- What a read does to the octets that a source has left, and why it may fail.
use Rattle.std.specs.Prelude.{◌≡◌, ℕ, ◌<◌, ◌≤◌, List, [], length, take, Option}
use Rattle.std.specs.Io.KnownBytes.{Consumes, IsAtEnd}
use Rattle.outside_core.specs.Faults.{Rose}
use Rattle.outside_core.specs.declared.source.ReadAnswer.{ReadAnswer}
use Rattle.outside_core.specs.declared.source.ReadAnswer.TheVariants.{Took, End, Failed}

-- octets move from the source to the buffer's front, and `End` comes only where none is left
abbrev pub Reads : Option (List ℕ) → Option (List ℕ) → List ℕ → ReadAnswer → Type 0
Reads old new buffer (Took n) = (0 < n) × (n ≤ length buffer) × Consumes old new (take n buffer)
Reads old new buffer End = IsAtEnd old × IsAtEnd new × Consumes old new []
Reads old new buffer Failed = Consumes old new []

-- the count never falls, and rose where the read failed
pub record ReadHasCause (before now : ℕ) (answer : ReadAnswer) : Type 0 where
  pub later : before ≤ now
  pub failed : answer ≡ Failed → Rose before now
