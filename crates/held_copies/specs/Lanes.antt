-- The lists of sessions.
use Rattle.std.specs.Prelude.{◌≡◌, ◌≢◌, ℕ, ◌+◌, ◌<◌, ◌≤◌, ◌==◌, ◌||◌, nat_eq, Bool, true, false, List, [], ◌∷◌, Option, None, Some}
use Rattle.std.specs.Map.{lookup}
use Rattle.queue_copies.specs.declared.entry.Holder.{Holder}
use Rattle.queue_copies.specs.declared.entry.Holder.TheVariants.{Session, Branch}

-- the list of each session that has one; how many more can have one, and how many lists there are with list 0; how many
-- lists are free, and the room for more sessions and more lists
pub record Laned : Type 0 where
  pub of : List (ℕ × ℕ)
  pub ready : ℕ
  pub count : ℕ
  pub free : ℕ
  pub keys : ℕ
  pub room : ℕ

abbrev pub lane_in : Laned → ℕ → Option ℕ
lane_in v session = lookup (nat_eq session) v.of

abbrev pub has : ℕ → List ℕ → Bool
has lane [] = false
has lane (l ∷ lanes) = (l == lane) || has lane lanes

abbrev pub Distinct : List ℕ → Type 0
Distinct [] = Unit {0}
Distinct (l ∷ lanes) = (has l lanes ≡ false) × Distinct lanes

-- list 0 is no session's, and no list is that of two
pub record Apart (of : ℕ → Option ℕ) (free : List ℕ) (count : ℕ) : Type 0 where
  pub own : (session other lane : ℕ) → of session ≡ Some lane → of other ≡ Some lane → session ≡ other
  pub above : (session lane : ℕ) → of session ≡ Some lane → lane ≢ 0
  pub below : (session lane : ℕ) → of session ≡ Some lane → lane < count
  pub taken : (session lane : ℕ) → of session ≡ Some lane → has lane free ≡ false
  pub free_above : (lane : ℕ) → has lane free ≡ true → lane ≢ 0
  pub free_below : (lane : ℕ) → has lane free ≡ true → lane < count
  pub distinct : Distinct free
  pub some : 0 < count

pub record IsReady (ready free keys used capacity : ℕ) : Type 0 where
  pub lists : ready ≤ free
  pub sessions : ready ≤ keys
  pub room : used + free ≤ capacity

-- the session of a holder
abbrev pub session_in : Holder → Option ℕ
session_in (Session session transfer) = Some session
session_in (Branch xid) = None

-- it is the list of a holder
abbrev pub Lies : Laned → Holder → ℕ → Type 0
Lies v (Session session transfer) lane = lane_in v session ≡ Some lane
Lies v (Branch xid) lane = lane ≡ 0
