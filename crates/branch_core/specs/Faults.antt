-- The first condition of a command that holds; its code.
use Rattle.std.specs.Prelude.{◌≡◌, ℕ, zero, suc, ◌==◌, ◌&&◌, nat_le, not, Bool, true, false, if◌then◌else◌, List, [], ◌∷◌, length, Option, None, Some, is_some}
use Rattle.amqp_values.specs.declared.value.Xid.{Xid}
use Rattle.number_tree.specs.Numbers.{has}
use Rattle.sorted_map.specs.Map.{index_of}
use Rattle.branch_core.specs.Xids.{xid_order, find}
use Rattle.branch_core.specs.declared.marks.Start.{Start}
use Rattle.branch_core.specs.declared.marks.Start.TheVariants as start
use Rattle.branch_core.specs.declared.marks.End.{End}
use Rattle.branch_core.specs.declared.marks.End.TheVariants as end
use Rattle.branch_core.specs.declared.marks.BranchFault.{BranchFault}
use Rattle.branch_core.specs.declared.marks.BranchFault.TheVariants.{Refused, NoMemory}
use Rattle.branch_core.specs.declared.marks.Standing.{Standing}
use Rattle.branch_core.specs.declared.marks.Standing.TheVariants as standing
use Rattle.branch_core.specs.Held.{Held, is_any}
use Rattle.branch_core.specs.State.{State, seat_of, dtx_in, tx_in, active_in}

abbrev pub first_of : List (Bool × ℕ) → Option ℕ
first_of [] = None
first_of (c ∷ more) = if c.0 then Some c.1 else first_of more

-- a call that did nothing tells the code of its refusal, and want of memory comes only where nothing refuses
abbrev pub Tells : BranchFault → Option ℕ → Type 0
Tells (Refused code) fault = fault ≡ Some code
Tells NoMemory fault = fault ≡ None

abbrev pub IsRefusal : BranchFault → Type 0
IsRefusal (Refused code) = Unit {0}
IsRefusal NoMemory = ⊥

-- ---- a branch, where it is there

abbrev pub status_in : Option Held → ℕ
status_in None = 0
status_in (Some h) = h.status

abbrev pub prepared_in : Option Held → Bool
prepared_in None = false
prepared_in (Some h) = h.prepared

-- a session is associated with it
abbrev pub associated_in : Option Held → Bool
associated_in None = false
associated_in (Some h) = is_any h.sessions

-- this session is
abbrev pub linked_in : ℕ → Option Held → Bool
linked_in session None = false
linked_in session (Some h) = has session h.sessions

abbrev standing_by : ℕ → Bool → Bool → Standing
standing_by zero true associated = standing.Prepared
standing_by zero false true = standing.Associated
standing_by zero false false = standing.Idle
standing_by (suc zero) prepared associated = standing.RbRollback
standing_by (suc (suc more)) prepared associated = standing.RbTimeout

-- how far a branch has come; a mark goes before all else
abbrev pub standing_in : Option Held → Standing
standing_in None = standing.Missing
standing_in (Some h) = standing_by h.status h.prepared (is_any h.sessions)

-- ---- conditions

abbrev pub is_new : Start → Bool
is_new start.New = true
is_new start.Join = false
is_new start.Resume = false

-- resume wants an association, and join none
abbrev pub is_unfit : Start → Bool → Bool
is_unfit start.New linked = false
is_unfit start.Join linked = linked
is_unfit start.Resume linked = not linked

-- one phase wants a branch that isn't prepared, and two want one that is
abbrev pub is_unphased : Bool → Bool → Bool
is_unphased one_phase prepared = if one_phase then prepared else not prepared

abbrev pub is_suspend : End → Bool
is_suspend end.Success = false
is_suspend end.Fail = false
is_suspend end.Suspend = true

abbrev pub is_at : ℕ → Option ℕ → Bool
is_at place None = false
is_at place (Some other) = other == place

module _ (session : ℕ) (xid : Xid) (s : State) where
  abbrev pub start_fault : Start → Option ℕ
  start_fault how =
      first_of
      ((not (dtx_in (seat_of session s)), 409)
      ∷ (is_some (active_in (seat_of session s)), 409)
      ∷ (is_new how && is_some (find xid s.branches), 530)
      ∷ (not (is_new how) && not (is_some (find xid s.branches)), 404)
      ∷ (prepared_in (find xid s.branches), 409)
      ∷ (is_unfit how (linked_in session (find xid s.branches)), 409)
      ∷ (is_new how && nat_le 65536 (length s.branches), 506)
      ∷ [])

  abbrev pub end_fault : End → Option ℕ
  end_fault how =
      first_of
      ((not (dtx_in (seat_of session s)), 409)
      ∷ (not (is_some (find xid s.branches)), 404)
      ∷ (not (linked_in session (find xid s.branches)), 409)
      ∷ (is_suspend how && not (is_at (index_of xid_order xid s.branches) (active_in (seat_of session s))), 409)
      ∷ [])

module _ (xid : Xid) (s : State) where
  abbrev pub prepare_fault : Option ℕ
  prepare_fault =
      first_of
      ((not (is_some (find xid s.branches)), 404)
      ∷ (associated_in (find xid s.branches), 409)
      ∷ (prepared_in (find xid s.branches), 409)
      ∷ [])

  abbrev pub commit_fault : Bool → Option ℕ
  commit_fault one_phase =
      first_of
      ((not (is_some (find xid s.branches)), 404)
      ∷ (associated_in (find xid s.branches), 409)
      ∷ (is_unphased one_phase (prepared_in (find xid s.branches)), 409)
      ∷ [])

  abbrev pub rollback_fault : Option ℕ
  rollback_fault =
      first_of
      ((not (is_some (find xid s.branches)), 404)
      ∷ (associated_in (find xid s.branches), 409)
      ∷ [])

  abbrev pub timeout_fault : Option ℕ
  timeout_fault = first_of ((not (is_some (find xid s.branches)), 404) ∷ [])

abbrev pub select_fault : ℕ → Bool → State → Option ℕ
select_fault session dtx s =
    first_of
    ((is_some (tx_in (seat_of session s)), 409)
    ∷ (not dtx && dtx_in (seat_of session s), 409)
    ∷ [])
