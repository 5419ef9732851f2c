-- What sessions hold.
use Rattle.std.specs.Prelude.{◌≡◌, ℕ, List, Option, None, Some}
use Rattle.queue_copies.specs.Copied.{Hold, Copied, find_in, hold_of}
use Rattle.held_copies.specs.Lanes.{Laned, Lies, session_in}

-- the copies of each list by rising number, how many more may be added, and how many more sessions may hold something
pub record HeldStock : Type 0 where
  pub lists : List (List Copied)
  pub spare : ℕ
  pub sessions : ℕ

-- the session that holds
abbrev pub session_of : Option Hold → Option ℕ
session_of None = None
session_of (Some h) = session_in h.holder

-- each copy that is held is in the list of its holder
abbrev pub Fits : Laned → List (List Copied) → Type 0
Fits lanes lists = (number : ℕ) (h : Hold) → hold_of (find_in number lists) ≡ Some h → Lies lanes h.holder h.lane
