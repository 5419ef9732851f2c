-- Rising lists of numbers.
use Rattle.std.specs.Prelude.{ℕ, ◌<◌, ◌==◌, ◌||◌, nat_lt, Bool, false, if◌then◌else◌, List, [], ◌∷◌, ◌++◌, Option, None, Some}

abbrev pub Each : (ℕ → Type 0) → List ℕ → Type 0
Each P [] = Unit {0}
Each P (n ∷ numbers) = P n × Each P numbers

abbrev pub Rising : List ℕ → Type 0
Rising [] = Unit {0}
Rising (n ∷ numbers) = Each (λ m. n < m) numbers × Rising numbers

abbrev pub has : ℕ → List ℕ → Bool
has number [] = false
has number (n ∷ numbers) = (n == number) || has number numbers

-- those below a number
abbrev pub below : ℕ → List ℕ → List ℕ
below number [] = []
below number (n ∷ numbers) = if nat_lt n number then n ∷ below number numbers else below number numbers

-- those from a number on
abbrev pub from : ℕ → List ℕ → List ℕ
from number [] = []
from number (n ∷ numbers) = if nat_lt n number then from number numbers else n ∷ from number numbers

-- a number at its place
abbrev pub with_number : ℕ → List ℕ → List ℕ
with_number number numbers = below number numbers ++ number ∷ from number numbers

abbrev pub without : ℕ → List ℕ → List ℕ
without number [] = []
without number (n ∷ numbers) = if n == number then without number numbers else n ∷ without number numbers

abbrev pub first_of : List ℕ → Option ℕ
first_of [] = None
first_of (n ∷ numbers) = Some n

-- the least one above a number
abbrev pub first_above : ℕ → List ℕ → Option ℕ
first_above number [] = None
first_above number (n ∷ numbers) = if nat_lt number n then Some n else first_above number numbers
