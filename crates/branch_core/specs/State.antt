-- Branches in order and what sessions have selected.
use Rattle.std.specs.Prelude.{◌≡◌, ℕ, ◌<◌, ◌≤◌, Bool, true, false, List, [], ◌∷◌, Option, None, Some}
use Rattle.std.specs.Option.{option_map}
use Rattle.std.specs.Ordering.{nat_cmp}
use Rattle.amqp_values.specs.declared.value.Xid.{Xid}
use Rattle.branch_intents.specs.declared.intents.Intent.{Intent}
use Rattle.branch_intents.specs.Intents.{Intended}
use Rattle.sorted_map.specs.Map.{find, seen, value_at, index_of}
use Rattle.branch_core.specs.declared.branch.Branch.{Branch}
use Rattle.branch_core.specs.declared.marks.Owner.{Owner}
use Rattle.branch_core.specs.declared.marks.Owner.TheVariants as owner
use Rattle.branch_core.specs.declared.seats.Seat.{Seat}
use Rattle.branch_core.specs.Held.{Held, held}

-- what a session's tx gathers, where it has one; whether it has selected dtx; the place of the branch in which it is active
pub record Seated : Type 0 where
  pub tx : Option (List Intent)
  pub dtx : Bool
  pub active : Option ℕ

-- the branches by xid, and the sessions that have selected something by number
pub record State : Type 0 where
  pub branches : List (Xid × Held)
  pub seats : List (ℕ × Seated)

-- for how many more branches and sessions there is room, whether there is room for one association, and for how many more
-- intents there is room in each branch and in each session's tx
pub record Room : Type 0 where
  pub branches : ℕ
  pub seats : ℕ
  pub slot : Bool
  pub intents : List (Xid × ℕ)
  pub tx : List (ℕ × ℕ)

pub record Branched : Type 0 where
  pub state : State
  pub room : Room

abbrev pub seated : Seat → Seated
seated s = record { tx = option_map (λ i. i.items) s.tx; dtx = s.dtx; active = s.active }

abbrev pub tx_room : Option Intended → ℕ
tx_room None = 0
tx_room (Some i) = i.room

abbrev pub branches_of : List (Xid × Branch) → List (Xid × Held)
branches_of es = seen held es

abbrev pub seats_of : List (ℕ × Seat) → List (ℕ × Seated)
seats_of es = seen seated es

abbrev pub state_of : List (Xid × Branch) → List (ℕ × Seat) → State
state_of branches seats = record { branches = branches_of branches; seats = seats_of seats }

abbrev pub intent_rooms : List (Xid × Branch) → List (Xid × ℕ)
intent_rooms es = seen (λ b. b.intents.room) es

abbrev pub tx_rooms : List (ℕ × Seat) → List (ℕ × ℕ)
tx_rooms es = seen (λ s. tx_room s.tx) es

-- ---- a session

abbrev pub seat_of : ℕ → State → Option Seated
seat_of session s = find nat_cmp session s.seats

abbrev pub dtx_in : Option Seated → Bool
dtx_in None = false
dtx_in (Some t) = t.dtx

abbrev pub tx_in : Option Seated → Option (List Intent)
tx_in None = None
tx_in (Some t) = t.tx

abbrev pub active_in : Option Seated → Option ℕ
active_in None = None
active_in (Some t) = t.active

abbrev owner_by : Option (List Intent) → Option ℕ → Owner
owner_by (Some intents) active = owner.Tx
owner_by None (Some place) = owner.Branch place
owner_by None None = owner.Now

-- where its publishes and accepts go
abbrev pub owner_of : ℕ → State → Owner
owner_of session s = owner_by (tx_in (seat_of session s)) (active_in (seat_of session s))

-- they don't act at once
abbrev pub IsOwned : Owner → Type 0
IsOwned owner.Now = ⊥
IsOwned owner.Tx = Unit {0}
IsOwned (owner.Branch place) = Unit {0}

-- a place is that of a branch
abbrev pub IsBelow : ℕ → Owner → Type 0
IsBelow count owner.Now = Unit {0}
IsBelow count owner.Tx = Unit {0}
IsBelow count (owner.Branch place) = place < count

abbrev pub below_in : ℕ → Option ℕ → Type 0
below_in count None = Unit {0}
below_in count (Some place) = place < count

abbrev pub AllBelow : ℕ → List (ℕ × Seated) → Type 0
AllBelow count [] = Unit {0}
AllBelow count (e ∷ es) = below_in count e.1.active × AllBelow count es

-- ---- room

abbrev pub room_in : Option ℕ → ℕ
room_in None = 0
room_in (Some n) = n

abbrev pub tx_room_of : ℕ → List (ℕ × ℕ) → ℕ
tx_room_of session rooms = room_in (value_at rooms (index_of nat_cmp session rooms))

abbrev fits_by : Owner → ℕ → ℕ → Room → Type 0
fits_by owner.Now session n r = Unit {0}
fits_by owner.Tx session n r = n ≤ tx_room_of session r.tx
fits_by (owner.Branch place) session n r = n ≤ room_in (value_at r.intents place)

-- there is room for so many intents where the session's go
abbrev pub Fits : ℕ → ℕ → Branched → Type 0
Fits session n b = fits_by (owner_of session b.state) session n b.room

-- there is room for so many intents of a session, for one branch, and for a selection and an association of it
pub record HasRoom (session n : ℕ) (b : Branched) : Type 0 where
  pub intents : Fits session n b
  pub branch : 0 < b.room.branches
  pub seat : 0 < b.room.seats
  pub slot : b.room.slot ≡ true
