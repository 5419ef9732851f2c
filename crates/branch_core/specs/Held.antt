-- A branch, and what is done to it.
use Rattle.std.specs.Prelude.{ℕ, ◌+◌, ◌^◌, ◌==◌, ◌&&◌, nat_le, nat_lt, not, Bool, true, false, if◌then◌else◌, List, [], ◌∷◌, ◌++◌, filter, Option, None, Some}
use Rattle.branch_intents.specs.declared.intents.Intent.{Intent}
use Rattle.std.specs.List.{list_any}
use Rattle.branch_intents.specs.Intents.{names, is_on}
use Rattle.number_tree.specs.Numbers.{has, with_number, without}
use Rattle.branch_core.specs.declared.branch.Branch.{Branch}
use Rattle.branch_core.specs.declared.branch.Change.{Change}
use Rattle.branch_core.specs.declared.branch.Change.TheVariants.{Part, Leave, Expire, Time, Prepare, Gone}

-- the sessions that are associated with a branch, its mark or 0, whether it is prepared, what it will do, the time that it
-- was given, and when it is due
pub record Held : Type 0 where
  pub sessions : List ℕ
  pub status : ℕ
  pub prepared : Bool
  pub intents : List Intent
  pub seconds : ℕ
  pub deadline : Option ℕ

abbrev pub held : Branch → Held
held b = record { sessions = b.sessions; status = b.status; prepared = b.prepared; intents = b.intents.items; seconds = b.seconds; deadline = b.deadline }

abbrev pub fresh : ℕ → Held
fresh session = record { sessions = session ∷ []; status = 0; prepared = false; intents = []; seconds = 0; deadline = None }

abbrev pub joined : ℕ → Held → Held
joined session h = record h { sessions = with_number session h.sessions }

-- the first mark stays, and a prepared branch gets none
abbrev pub marked : ℕ → Held → Held
marked status h = if h.status == 0 && not h.prepared then record h { status = status } else h

-- a session's association ends; where it failed, the branch is marked
abbrev pub parted : Bool → ℕ → Held → Held
parted false session h = record h { sessions = without session h.sessions }
parted true session h = marked 1 (record h { sessions = without session h.sessions })

abbrev pub is_due : ℕ → Option ℕ → Bool
is_due now None = false
is_due now (Some deadline) = nat_le deadline now

-- what is left where a copy or a queue is gone
abbrev pub without_intents : List ℕ → Option ℕ → List Intent → List Intent
without_intents queue number intents = filter (λ intent. not (is_on queue number intent)) intents

-- the time comes that many seconds from now; none for 0 seconds, or where there is no such time
abbrev pub deadline_of : ℕ → ℕ → Option ℕ
deadline_of seconds now = if seconds == 0 then None else if nat_lt (now + seconds) (2 ^ 64) then Some (now + seconds) else None

abbrev pub timed : ℕ → ℕ → Held → Held
timed seconds now h = record h { seconds = seconds; deadline = deadline_of seconds now }

abbrev pub as_prepared : Held → Held
as_prepared h = record h { prepared = true }

-- with an intent more, which comes last
abbrev pub given : Intent → Held → Held
given intent h = record h { intents = h.intents ++ intent ∷ [] }

abbrev pub intents_of : Held → List Intent
intents_of h = h.intents

abbrev pub emptied : Held → Held
emptied h = record h { intents = [] }

abbrev pub is_any : {X : Type 0} → List X → Bool
is_any [] = false
is_any (x ∷ xs) = true

-- it is marked, and its intents are to be undone
abbrev pub is_undone : Held → Bool
is_undone h = not (h.status == 0) && is_any h.intents

-- a prepared branch names the queue
abbrev pub names_queue : List ℕ → Held → Bool
names_queue queue h = h.prepared && list_any (names queue) h.intents

-- the session ends: its branch is marked
abbrev pub left_in : ℕ → Held → Held
left_in session h = if has session h.sessions then parted true session h else h

-- time has come so far: what is due is marked
abbrev pub expired_in : ℕ → Held → Held
expired_in now h = if is_due now h.deadline then marked 2 h else h

-- a copy or a queue is gone, which is nothing to a prepared branch
abbrev pub gone_in : List ℕ → Option ℕ → Held → Held
gone_in queue number h = if h.prepared then h else record h { intents = without_intents queue number h.intents }

abbrev pub changed_by : Change → Held → Held
changed_by (Part session fails) h = parted fails session h
changed_by (Leave session) h = left_in session h
changed_by (Expire now) h = expired_in now h
changed_by (Time seconds now) h = timed seconds now h
changed_by Prepare h = as_prepared h
changed_by (Gone queue number) h = gone_in queue.now number h
