-- Rows by rising key, and what changes do to them.
use Rattle.std.specs.Prelude.{ℕ, not, bytes_eq, List, [], ◌∷◌, map}
use Rattle.std.specs.Ordering.{nat_cmp, match_ordering}
use Rattle.std.specs.Cmp.Lexicographic.{slice_cmp}
use Rattle.std.specs.List.{filter, fold}
use Rattle.std.specs.List.Sorted.{IsStrictlySortedBy}
use Rattle.keeper_core.specs.declared.row.Row.{Row}
use Rattle.keeper_core.specs.declared.row.Change.{Change}
use Rattle.keeper_core.specs.declared.row.Change.TheVariants.{Put, Drop}

-- each key is below those after it, octet by octet
abbrev pub IsRising : List Row → Type 0
IsRising rows = IsStrictlySortedBy (slice_cmp nat_cmp) (map (λ row. row.key) rows)

-- the row at its place, in place of one of its key
abbrev pub put : List Row → Row → List Row
put [] row = row ∷ []
put (first ∷ rows) row = match_ordering (slice_cmp nat_cmp row.key first.key) (row ∷ first ∷ rows) (row ∷ rows) (first ∷ put rows row)

-- without the row of the key
abbrev pub without : List Row → List ℕ → List Row
without rows key = filter (λ row. not (bytes_eq key row.key)) rows

-- after a change
abbrev pub change_by : List Row → Change → List Row
change_by rows (Put row) = put rows row
change_by rows (Drop key) = without rows key

-- after changes, in their order
abbrev pub changed : List Row → List Change → List Row
changed rows changes = fold change_by rows changes
