-- Copies in lists.
use Rattle.std.specs.Prelude.{◌≡◌, ℕ, ◌==◌, ◌<◌, ◌||◌, Bool, true, if◌then◌else◌, List, [], ◌∷◌, length, Option, None, Some, IsSome, is_some, slice_index_or}
use Rattle.number_tree.specs.Numbers.{Rising, has}
use Rattle.queue_copies.specs.declared.entry.Holder.{Holder}
use Rattle.queue_copies.specs.declared.entry.QueueCopy.{QueueCopy}
use Rattle.queue_copies.specs.Shelves.{Shelved}

-- who holds a copy, and the number of his list
pub record Hold : Type 0 where
  pub holder : Holder
  pub lane : ℕ

pub record Copied : Type 0 where
  pub copy : QueueCopy
  pub hold : Option Hold

-- the copies of each list by rising number, and how many more may be added
pub record Stock : Type 0 where
  pub lists : List (List Copied)
  pub spare : ℕ

-- one of the lists; past their end it is empty
abbrev pub copies_at : List (List Copied) → ℕ → List Copied
copies_at lists list = slice_index_or lists list []

abbrev pub numbers : List Copied → List ℕ
numbers [] = []
numbers (c ∷ cs) = c.copy.number ∷ numbers cs

-- the numbers of each list rise, and no two lists share one
pub record Ordered (lists : List (List Copied)) : Type 0 where
  pub rising : (list : ℕ) → Rising (numbers (copies_at lists list))
  pub apart : (number list other : ℕ) → has number (numbers (copies_at lists list)) ≡ true → has number (numbers (copies_at lists other)) ≡ true → list ≡ other

-- ---- the copy with a number

abbrev pub find : ℕ → List Copied → Option Copied
find number [] = None
find number (c ∷ cs) = if c.copy.number == number then Some c else find number cs

abbrev pub either : Option Copied → Option Copied → Option Copied
either None other = other
either (Some c) other = Some c

abbrev pub find_in : ℕ → List (List Copied) → Option Copied
find_in number [] = None
find_in number (cs ∷ lists) = either (find number cs) (find_in number lists)

abbrev pub IsThere : ℕ → List (List Copied) → Type 0
IsThere number lists = IsSome (find_in number lists)

-- it is above the numbers of all copies
abbrev pub IsGreatest : ℕ → List (List Copied) → Type 0
IsGreatest number lists = (other : ℕ) → IsThere other lists → other < number

abbrev pub copy_of : Option Copied → Option QueueCopy
copy_of None = None
copy_of (Some c) = Some c.copy

abbrev pub hold_of : Option Copied → Option Hold
hold_of None = None
hold_of (Some c) = c.hold

abbrev pub holder_of : Option Hold → Option Holder
holder_of None = None
holder_of (Some h) = Some h.holder

abbrev pub lane_of : Option Hold → Option ℕ
lane_of None = None
lane_of (Some h) = Some h.lane

-- ---- changes

-- the copy with a number is changed so
abbrev pub changed : ℕ → (Copied → Copied) → List Copied → List Copied
changed number f [] = []
changed number f (c ∷ cs) = (if c.copy.number == number then f c else c) ∷ changed number f cs

-- the copy with a number is gone
abbrev pub removed : ℕ → List Copied → List Copied
removed number [] = []
removed number (c ∷ cs) = if c.copy.number == number then removed number cs else c ∷ removed number cs

abbrev pub held_by : Holder → ℕ → Copied → Copied
held_by holder lane c = record { copy = c.copy; hold = Some (record { holder = holder; lane = lane }) }

abbrev pub released : Bool → Copied → Copied
released again c = record { copy = record c.copy { redelivered = c.copy.redelivered || again }; hold = None }

-- ---- those that nobody holds

abbrev pub available : List Copied → List ℕ
available [] = []
available (c ∷ cs) = if is_some c.hold then available cs else c.copy.number ∷ available cs

-- the copies that are held
abbrev pub held_only : List Copied → List Copied
held_only [] = []
held_only (c ∷ cs) = if is_some c.hold then c ∷ held_only cs else held_only cs

abbrev pub shelf_of : List Copied → Shelved
shelf_of cs = record { available = available cs; held = length (held_only cs) }
