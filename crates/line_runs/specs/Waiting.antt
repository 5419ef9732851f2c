-- What a reading of lines has read and not given.
use Rattle.std.specs.Prelude.{ℕ, Bool, List}

-- the octets at hand, how many were read in all, and whether the source ended
pub record Waiting : Type 0 where
  pub text : List ℕ
  pub count : ℕ
  pub ended : Bool
