-- What a keeper in memory tells.
use Rattle.std.specs.Prelude.{◌≡◌, ◌==◌, true, is_some, ℕ, ◌-◌, ◌^◌, zero, suc, nat_lt, not, if◌then◌else◌, Bool, List, [], ◌∷◌, ◌++◌, Option, None, Some}
use Rattle.std.specs.List.{list_any}
use Rattle.keeper_core.specs.declared.row.Row.{Row}
use Rattle.keeper_core.specs.declared.row.Change.{Change}
use Rattle.keeper_core.specs.declared.row.Change.TheVariants.{Put, Drop}
use Rattle.std.specs.Map.{lookup}
use Rattle.std.specs.BTreeMap.{is_at}
use Rattle.std.specs.Ordering.{nat_cmp}
use Rattle.std.specs.Cmp.Lexicographic.{slice_cmp}

-- its rows, the answers of its applies, its counts, and the numbers of the calls that fail
pub record Kept : Type 0 where
  pub rows : List Row
  pub answers : Option (List Bool)
  pub list_faults : ℕ
  pub apply_faults : ℕ
  pub writes : ℕ
  pub failing_applies : List ℕ
  pub failing_lists : List ℕ

-- the rows of a table, where a key without a content is no row
abbrev pub rows_in : List (List ℕ × Option (List ℕ)) → List Row
rows_in [] = []
rows_in ((key, None) ∷ table) = rows_in table
rows_in ((key, Some content) ∷ table) = (record { key = key; content = content }) ∷ rows_in table

-- the answers of so many calls, of which the failing ones have these numbers, counted from 1
abbrev pub answers_of : List ℕ → ℕ → List Bool
answers_of failing zero = []
answers_of failing (suc n) = answers_of failing n ++ not (list_any (λ m. m == suc n) failing) ∷ []

-- the same, as long as the calls can be counted
abbrev pub answers_upto : List ℕ → ℕ → Option (List Bool)
answers_upto failing calls = if nat_lt calls (2 ^ 64 - 1) then Some (answers_of failing calls) else None

-- the key that a change names
abbrev pub key_of : Change → List ℕ
key_of (Put row) = row.key
key_of (Drop key) = key

-- the table has the key of the row that is put
abbrev pub HasPlace : List (List ℕ × Option (List ℕ)) → Change → Type 0
HasPlace table (Put row) = is_some (lookup (is_at (slice_cmp nat_cmp row.key)) table) ≡ true
HasPlace table (Drop key) = Unit {0}

-- it has all of them
abbrev pub HasRoom : List (List ℕ × Option (List ℕ)) → List Change → Type 0
HasRoom table [] = Unit {0}
HasRoom table (change ∷ changes) = HasPlace table change × HasRoom table changes
