-- What is known of a list's copies without a walk.
use Rattle.std.specs.Prelude.{ℕ, ◌+◌, ◌-◌, Bool, true, false, List, [], slice_index_or}
use Rattle.number_tree.specs.Numbers.{with_number, without}

-- the numbers of those that are available, and how many are held
pub record Shelved : Type 0 where
  pub available : List ℕ
  pub held : ℕ

abbrev pub empty_shelf : Shelved
empty_shelf = record { available = []; held = 0 }

-- what is known of one of the lists; past their end there is nothing
abbrev pub shelf_at : List Shelved → ℕ → Shelved
shelf_at shelves list = slice_index_or shelves list empty_shelf

-- ---- once a copy that is held or not

-- is held
abbrev pub shelf_held : Bool → ℕ → Shelved → Shelved
shelf_held true number s = s
shelf_held false number s = record { available = without number s.available; held = s.held + 1 }

-- is available
abbrev pub shelf_free : Bool → ℕ → Shelved → Shelved
shelf_free true number s = record { available = with_number number s.available; held = s.held - 1 }
shelf_free false number s = s

-- is gone
abbrev pub shelf_without : Bool → ℕ → Shelved → Shelved
shelf_without true number s = record { available = s.available; held = s.held - 1 }
shelf_without false number s = record { available = without number s.available; held = s.held }
