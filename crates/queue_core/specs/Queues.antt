-- Queues by name.
use Rattle.std.specs.Prelude.{◌≡◌, ℕ, ◌<◌, ◌≤◌, ◌||◌, Bool, false, bytes_eq, List, [], ◌∷◌, length, Option, None, Some, slice_set}
use Rattle.queue_copies.specs.Copied.{Copied, copies_at, available, held_only}
use Rattle.named_lists.specs.Lists.{lists_of, times, Parted}
use Rattle.queue_core.specs.declared.marks.QueueMarks.{QueueMarks}

-- the queues by name, each with its marks and the number of its list; the copies of each list by rising number; for how
-- many more copies, queues, and sessions that hold nothing yet there is room
pub record Queued : Type 0 where
  pub entries : List (List ℕ × (QueueMarks × ℕ))
  pub lists : List (List Copied)
  pub spare : ℕ
  pub room : ℕ
  pub sessions : ℕ

abbrev pub marks_in : Option (QueueMarks × ℕ) → Option QueueMarks
marks_in None = None
marks_in (Some queue) = Some queue.0

-- the copies of a queue, where it is there
abbrev pub copies_in : Option (QueueMarks × ℕ) → List (List Copied) → List Copied
copies_in None lists = []
copies_in (Some queue) lists = copies_at lists queue.1

-- the copies of a queue become these
abbrev pub at_name : Option (QueueMarks × ℕ) → (List Copied → List Copied) → List (List Copied) → List (List Copied)
at_name None f lists = lists
at_name (Some queue) f lists = slice_set lists queue.1 (f (copies_at lists queue.1))

abbrev pub counts_in : Option (QueueMarks × ℕ) → List (List Copied) → Option (ℕ × ℕ)
counts_in None lists = None
counts_in (Some queue) lists = Some (length (available (copies_at lists queue.1)), length (held_only (copies_at lists queue.1)))

abbrev pub names_of : List (List ℕ × (QueueMarks × ℕ)) → List (List ℕ)
names_of [] = []
names_of (e ∷ es) = e.0 ∷ names_of es

-- a queue has this alternate exchange
abbrev pub has_alternate : List ℕ → List (List ℕ × (QueueMarks × ℕ)) → Bool
has_alternate exchange [] = false
has_alternate exchange (e ∷ es) = bytes_eq e.1.0.alternate exchange || has_alternate exchange es

abbrev pub plain_marks : QueueMarks → QueueMarks
plain_marks marks = record marks { durable = false; exclusive = None; auto_delete = false }

-- each list is a queue's or free, and what is no queue's is empty
pub record Stands (entries : List (List ℕ × (QueueMarks × ℕ))) (free : List ℕ) (count : ℕ) (lists : List (List Copied)) : Type 0 where
  pub parted : Parted (lists_of entries) free count
  pub within : count ≤ length lists
  pub empty : (list : ℕ) → times list (lists_of entries) ≡ 0 → copies_at lists list ≡ []

-- each list is one queue's at most, a queue's is one of the lists, and what is no queue's is empty
pub record OwnLists (entries : List (List ℕ × (QueueMarks × ℕ))) (lists : List (List Copied)) : Type 0 where
  pub once : (list : ℕ) → times list (lists_of entries) ≤ 1
  pub within : (list : ℕ) → 1 ≤ times list (lists_of entries) → list < length lists
  pub empty : (list : ℕ) → times list (lists_of entries) ≡ 0 → copies_at lists list ≡ []
