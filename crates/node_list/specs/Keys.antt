-- Lists of keys.
use Rattle.std.specs.Prelude.{◌≡◌, ℕ, ◌==◌, ◌||◌, Bool, false, if◌then◌else◌, List, [], ◌∷◌, Option, None, Some, slice_index_or}

abbrev pub has : ℕ → List ℕ → Bool
has key [] = false
has key (k ∷ keys) = (k == key) || has key keys

-- each key stands in it once
abbrev pub Distinct : List ℕ → Type 0
Distinct [] = Unit {0}
Distinct (k ∷ keys) = (has k keys ≡ false) × Distinct keys

abbrev pub without : ℕ → List ℕ → List ℕ
without key [] = []
without key (k ∷ keys) = if k == key then without key keys else k ∷ without key keys

-- the key put before another one
abbrev pub put_before : ℕ → ℕ → List ℕ → List ℕ
put_before other key [] = []
put_before other key (k ∷ keys) = if k == other then key ∷ k ∷ keys else k ∷ put_before other key keys

abbrev pub first_of : List ℕ → Option ℕ
first_of [] = None
first_of (k ∷ keys) = Some k

-- the one behind a key
abbrev pub next_in : ℕ → List ℕ → Option ℕ
next_in key [] = None
next_in key (k ∷ keys) = if k == key then first_of keys else next_in key keys

-- one of many lists; past their end it is empty
abbrev pub list_at : List (List ℕ) → ℕ → List ℕ
list_at lists i = slice_index_or lists i []
