-- What a write does to the octets that a sink took, and why it may fail.
use Rattle.std.specs.Prelude.{◌≡◌, ℕ, ◌<◌, ◌≤◌, List, [], length, take, Option}
use Rattle.std.specs.Io.KnownBytes.{Appends}
use Rattle.outside_core.specs.Faults.{Rose}
use Rattle.outside_core.specs.declared.sink.WriteAnswer.{WriteAnswer}
use Rattle.outside_core.specs.declared.sink.WriteAnswer.TheVariants.{Took, Failed, NoMemory}

-- octets move from the piece's front to the sink's end
abbrev pub Writes : Option (List ℕ) → Option (List ℕ) → List ℕ → WriteAnswer → Type 0
Writes old new piece (Took n) = (0 < n) × (n ≤ length piece) × Appends old new (take n piece)
Writes old new piece Failed = Appends old new []
Writes old new piece NoMemory = Appends old new []

-- the count never falls, and rose where the write failed
pub record WriteHasCause (before now : ℕ) (answer : WriteAnswer) : Type 0 where
  pub later : before ≤ now
  pub failed : answer ≡ Failed → Rose before now
