-- What the loop over reads keeps.
use Rattle.std.proofs.Common.{◌≡◌, ℕ, ◌++◌, List, [], Option, sym, refl, arith}
use Rattle.std.proofs.lemmas.List.{append-nil}
use Rattle.std.proofs.KnownBytes.{Consumes-nil}
use Rattle.line_runs.specs.Waiting.{Waiting}
use Rattle.line_runs.specs.Reading.{Moves}

-- so many octets were read, and stand at the end of what was at hand
pub record SoFar (left now : Option (List ℕ)) (old new : Waiting) : Type 0 where
  pub took : List ℕ
  pub moves : Moves left now old new took
  pub text : new.text ≡ old.text ++ took

-- nothing was read
pub so_far_none : (left : Option (List ℕ)) (old : Waiting) → SoFar left left old old
so_far_none left old = record {
  took = [];
  moves = record {
    consumes = Consumes-nil left;
    count = omega arith;
    limited = λ some. absurd (omega arith);
    stays = λ e. (refl, e);
    ends = λ known e. known e;
  };
  text = sym (append-nil old.text);
}
