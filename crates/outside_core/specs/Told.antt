-- What an object in memory tells.
use Rattle.std.specs.Prelude.{ℕ, List}

-- the octets that it has left or took, and how many of its calls failed
pub record Told : Type 0 where
  pub octets : List ℕ
  pub faults : ℕ
