-- What each call makes of the branches.
use Rattle.std.specs.Prelude.{ℕ, zero, suc, ◌+◌, ◌-◌, position, ◌^◌, nat_lt, ◌==◌, Bool, true, false, if◌then◌else◌, List, [], ◌∷◌, ◌++◌, map, filter, Option, None, Some}
use Rattle.std.specs.Option.{option_map}
use Rattle.std.specs.Ordering.{nat_cmp}
use Rattle.amqp_values.specs.declared.value.Xid.{Xid}
use Rattle.branch_intents.specs.declared.intents.Intent.{Intent}
use Rattle.sorted_map.specs.Map.{index_of, changed, changed_at, seen, value_at}
use Rattle.sorted_map.specs.Map as maps
use Rattle.branch_core.specs.Xids.{xid_order, find, put, out}
use Rattle.branch_core.specs.declared.seats.Turn.{Turn}
use Rattle.branch_core.specs.declared.seats.Turn.TheVariants.{Activate, Leave, Push, Pull, Gone}
use Rattle.branch_core.specs.declared.marks.Start.{Start}
use Rattle.branch_core.specs.declared.marks.Start.TheVariants as start
use Rattle.branch_core.specs.declared.marks.End.{End}
use Rattle.branch_core.specs.declared.marks.End.TheVariants as end
use Rattle.branch_core.specs.declared.marks.Owner.{Owner}
use Rattle.branch_core.specs.declared.marks.Owner.TheVariants as owner
use Rattle.branch_core.specs.Held.{Held, fresh, joined, parted, given, without_intents, left_in, expired_in, gone_in, intents_of, emptied, is_undone, names_queue}
use Rattle.branch_core.specs.State.{State, Seated, seat_of, owner_of}
use Rattle.branch_core.specs.Faults.{status_in}

abbrev pub place_of : Xid → State → ℕ
place_of xid s = index_of xid_order xid s.branches

-- ---- a session's seat

abbrev pub empty_seat : Seated
empty_seat = record { tx = None; dtx = false; active = None }

abbrev pub activate : ℕ → Seated → Seated
activate place t = record t { active = Some place }

-- where the session was active at that place, it is no more
abbrev pub left_by : ℕ → Option ℕ → Option ℕ
left_by place None = None
left_by place (Some other) = if other == place then None else Some other

abbrev pub left : ℕ → Seated → Seated
left place t = record t { active = left_by place t.active }

-- the place behind; none where it can't be counted
abbrev pub up : ℕ → Option ℕ
up place = if nat_lt (place + 1) (2 ^ 64) then Some (place + 1) else None

-- a branch that comes in at a place moves those from there on; one that goes moves those behind it
abbrev pub pushed_by : ℕ → Option ℕ → Option ℕ
pushed_by place None = None
pushed_by place (Some other) = if nat_lt other place then Some other else up other

abbrev pub pushed : ℕ → Seated → Seated
pushed place t = record t { active = pushed_by place t.active }

-- and who was active in it is active nowhere
abbrev pub pulled_by : ℕ → Option ℕ → Option ℕ
pulled_by place None = None
pulled_by place (Some other) = if nat_lt place other then Some (other - 1) else left_by place (Some other)

abbrev pub pulled : ℕ → Seated → Seated
pulled place t = record t { active = pulled_by place t.active }

abbrev pub with_tx : Seated → Seated
with_tx t = record t { tx = Some [] }

abbrev pub with_dtx : Seated → Seated
with_dtx t = record t { dtx = true }

abbrev pub selecting : Bool → Seated → Seated
selecting true t = with_dtx t
selecting false t = with_tx t

-- a session that has selected nothing yet gets a seat
abbrev pub seat_changed_if : Option Seated → ℕ → (Seated → Seated) → List (ℕ × Seated) → List (ℕ × Seated)
seat_changed_if None session change seats = maps.put nat_cmp session (change empty_seat) seats
seat_changed_if (Some t) session change seats = changed nat_cmp session change seats

abbrev pub selected : ℕ → Bool → State → State
selected session dtx s = record s { seats = seat_changed_if (seat_of session s) session (selecting dtx) s.seats }

abbrev pub with_seat : ℕ → (Seated → Seated) → State → State
with_seat session change s = record s { seats = changed nat_cmp session change s.seats }

-- ---- work on branches

abbrev pub placed : ℕ → Xid → State → State
placed session xid s = record {
  branches = put xid (fresh session) s.branches;
  seats = changed nat_cmp session (activate (place_of xid s)) (seen (pushed (place_of xid s)) s.seats);
}

abbrev pub joined_in : ℕ → Xid → State → State
joined_in session xid s = record {
  branches = changed xid_order xid (joined session) s.branches;
  seats = changed nat_cmp session (activate (place_of xid s)) s.seats;
}

-- join gives the mark of a marked branch without an association
abbrev joined_if : ℕ → ℕ → Xid → State → State
joined_if zero session xid s = joined_in session xid s
joined_if (suc status) session xid s = s

abbrev pub started : Start → ℕ → Xid → State → State
started start.New session xid s = placed session xid s
started start.Join session xid s = joined_if (status_in (find xid s.branches)) session xid s
started start.Resume session xid s = with_seat session (activate (place_of xid s)) s

abbrev pub ended_in : End → ℕ → Held → Held
ended_in end.Success session h = parted false session h
ended_in end.Fail session h = parted true session h
ended_in end.Suspend session h = h

abbrev ended_branches : End → ℕ → Xid → List (Xid × Held) → List (Xid × Held)
ended_branches end.Suspend session xid branches = branches
ended_branches how session xid branches = changed xid_order xid (ended_in how session) branches

abbrev pub ended : End → ℕ → Xid → State → State
ended how session xid s = record {
  branches = ended_branches how session xid s.branches;
  seats = changed nat_cmp session (left (place_of xid s)) s.seats;
}

-- the mark that the branch has then
abbrev pub end_status : End → ℕ → Option Held → ℕ
end_status how session None = 0
end_status how session (Some h) = (ended_in how session h).status

abbrev pub finished : Xid → State → State
finished xid s = record {
  branches = out xid s.branches;
  seats = seen (pulled (place_of xid s)) s.seats;
}

abbrev pub with_branch : Xid → (Held → Held) → State → State
with_branch xid change s = record s { branches = changed xid_order xid change s.branches }

-- ---- intents

abbrev pub tx_given : Intent → Seated → Seated
tx_given intent t = record t { tx = option_map (λ intents. intents ++ intent ∷ []) t.tx }

abbrev added_by : Owner → Intent → ℕ → State → State
added_by owner.Now intent session s = s
added_by owner.Tx intent session s = with_seat session (tx_given intent) s
added_by (owner.Branch place) intent session s = record s { branches = changed_at place (given intent) s.branches }

abbrev pub added : Intent → ℕ → State → State
added intent session s = added_by (owner_of session s) intent session s

abbrev pub tx_emptied : Seated → Seated
tx_emptied t = record t { tx = option_map (λ intents. []) t.tx }

-- a session's tx without the intents on what is gone
abbrev pub seat_without : List ℕ → Option ℕ → Seated → Seated
seat_without queue number t = record t { tx = option_map (without_intents queue number) t.tx }

abbrev pub turned : Turn → Seated → Seated
turned (Activate place) t = activate place t
turned (Leave place) t = left place t
turned (Push place) t = pushed place t
turned (Pull place) t = pulled place t
turned (Gone queue number) t = seat_without queue.now number t

abbrev pub seconds_of : Held → ℕ
seconds_of h = h.seconds

-- ---- all branches

abbrev pub left_all : ℕ → State → State
left_all session s = record { branches = seen (left_in session) s.branches; seats = maps.out nat_cmp session s.seats }

abbrev pub expired_all : ℕ → State → State
expired_all now s = record s { branches = seen (expired_in now) s.branches }

abbrev pub gone_all : List ℕ → Option ℕ → State → State
gone_all queue number s = record { branches = seen (gone_in queue number) s.branches; seats = seen (seat_without queue number) s.seats }

abbrev pub is_undone_at : Xid × Held → Bool
is_undone_at e = is_undone e.1

-- the place of the first branch that is marked and has intents
abbrev pub undo_place : State → Option ℕ
undo_place s = position is_undone_at s.branches

abbrev undone_by : Option ℕ → State → State
undone_by None s = s
undone_by (Some place) s = record s { branches = changed_at place emptied s.branches }

abbrev pub undone : State → State
undone s = undone_by (undo_place s) s

abbrev undo_intents_by : Option ℕ → State → Option (List Intent)
undo_intents_by None s = None
undo_intents_by (Some place) s = option_map intents_of (value_at s.branches place)

abbrev pub undo_intents : State → Option (List Intent)
undo_intents s = undo_intents_by (undo_place s) s

-- ---- questions

abbrev pub start_status : Start → Option Held → ℕ
start_status start.New found = 0
start_status start.Join found = status_in found
start_status start.Resume found = status_in found

abbrev pub prepared_xids : List (Xid × Held) → List Xid
prepared_xids branches = map (λ e. e.0) (filter (λ e. e.1.prepared) branches)

-- a prepared branch names the queue
abbrev pub names_at : List ℕ → Xid × Held → Bool
names_at queue e = names_queue queue e.1
