-- Subscriptions in turn order, and what each call does to them.
use Rattle.std.specs.Prelude.{◌≡◌, ℕ, zero, suc, ◌+◌, ◌==◌, ◌&&◌, min, Bool, true, false, if◌then◌else◌, List, [], ◌∷◌, ◌++◌, Option, None, Some, bytes_eq}
use Rattle.std.specs.List.{find, list_any}
use Rattle.credit_core.specs.declared.credit.Credit.TheVariants.{Left}
use Rattle.credit_core.specs.declared.sub.Sub.{Sub}
use Rattle.credit_core.specs.declared.sub.SubState.{SubState}
use Rattle.credit_core.specs.declared.sub.Change.{Change}
use Rattle.credit_core.specs.declared.sub.Change.TheVariants as change
use Rattle.credit_core.specs.Credit.{suffices, spent, added}

-- the subscriptions, the next one to be asked first, and for how many more there is room
pub record Turns : Type 0 where
  pub places : List SubState
  pub room : ℕ

-- whether a subscription has this destination
abbrev pub is_for : List ℕ → SubState → Bool
is_for destination s = bytes_eq s.sub.destination destination

abbrev pub has : List ℕ → List SubState → Bool
has destination places = list_any (is_for destination) places

-- a new one has no credit
abbrev pub fresh : Sub → SubState
fresh sub = record { sub = sub; mode = 0; messages = Left 0; octets = Left 0; browsed = 0; epoch = 0 }

-- ---- what a call does to the one of a destination; the others stay as they are

-- it is changed in its place
abbrev pub changed : (SubState → SubState) → List ℕ → List SubState → List SubState
changed f destination [] = []
changed f destination (s ∷ places) = if is_for destination s then f s ∷ places else s ∷ changed f destination places

-- it is gone
abbrev pub removed : List ℕ → List SubState → List SubState
removed destination [] = []
removed destination (s ∷ places) = if is_for destination s then places else s ∷ removed destination places

-- it is changed and goes last
abbrev pub moved : (SubState → SubState) → List ℕ → List SubState → List SubState
moved f destination [] = []
moved f destination (s ∷ places) = if is_for destination s then places ++ f s ∷ [] else s ∷ moved f destination places

-- ---- the changes

-- one more, as far as a 64-bit number goes
abbrev pub one_more : ℕ → ℕ
one_more n = min (n + 1) 18446744073709551615

-- unit 0 is messages, another one octets
abbrev pub flowed : ℕ → ℕ → SubState → SubState
flowed unit value s =
    if unit == 0 then record { sub = s.sub; mode = s.mode; messages = added s.messages value; octets = s.octets; browsed = s.browsed; epoch = s.epoch }
    else record { sub = s.sub; mode = s.mode; messages = s.messages; octets = added s.octets value; browsed = s.browsed; epoch = s.epoch }

-- no credit is left
abbrev pub emptied : SubState → SubState
emptied s = record { sub = s.sub; mode = s.mode; messages = Left 0; octets = Left 0; browsed = s.browsed; epoch = s.epoch }

-- nor does what was sent before give any back
abbrev pub stopped : SubState → SubState
stopped s = record { sub = s.sub; mode = s.mode; messages = Left 0; octets = Left 0; browsed = s.browsed; epoch = one_more s.epoch }

abbrev pub with_mode : ℕ → SubState → SubState
with_mode mode s = record { sub = s.sub; mode = mode; messages = Left 0; octets = Left 0; browsed = s.browsed; epoch = one_more s.epoch }

abbrev pub browsed : ℕ → SubState → SubState
browsed number s = record { sub = s.sub; mode = s.mode; messages = s.messages; octets = s.octets; browsed = number; epoch = s.epoch }

-- a message with a body of so many octets is sent
abbrev pub spent_by : ℕ → SubState → SubState
spent_by octets s = record { sub = s.sub; mode = s.mode; messages = spent s.messages 1; octets = spent s.octets octets; browsed = s.browsed; epoch = s.epoch }

-- in window mode its credit comes back, unless there was a stop or a mode was set since
abbrev pub restored : ℕ → ℕ → SubState → SubState
restored epoch octets s =
    if (s.mode == 1) && (s.epoch == epoch) then record { sub = s.sub; mode = s.mode; messages = added s.messages 1; octets = added s.octets octets; browsed = s.browsed; epoch = s.epoch }
    else s

-- ---- what may be sent

abbrev pub can_take : ℕ → SubState → Bool
can_take octets s = suffices s.messages 1 && suffices s.octets octets

abbrev pub takes : Option SubState → ℕ → Bool
takes None octets = false
takes (Some s) octets = can_take octets s

-- whether the destination is there and both credits suffice
abbrev pub can_spend : List ℕ → ℕ → List SubState → Bool
can_spend destination octets places = takes (find (is_for destination) places) octets

abbrev pub CanSpend : List ℕ → ℕ → List SubState → Type 0
CanSpend destination octets places = can_spend destination octets places ≡ true

abbrev pub epoch_in : Option SubState → ℕ
epoch_in None = 0
epoch_in (Some s) = s.epoch

-- the epoch of a destination
abbrev pub epoch_of : List ℕ → List SubState → ℕ
epoch_of destination places = epoch_in (find (is_for destination) places)

-- whether a place can take what its queue offers
abbrev pub takes_offer : SubState → Option ℕ → Bool
takes_offer s None = false
takes_offer s (Some octets) = can_take octets s

abbrev pub further : Option ℕ → Option ℕ
further None = None
further (Some place) = Some (place + 1)

-- the first place that can take what its queue offers
abbrev pub ready : List SubState → List (Option ℕ) → Option ℕ
ready [] offers = None
ready (s ∷ places) [] = None
ready (s ∷ places) (offer ∷ offers) = if takes_offer s offer then Some 0 else further (ready places offers)

-- ---- on the way

-- the one at a place is changed
abbrev pub at_place : (SubState → SubState) → ℕ → List SubState → List SubState
at_place f place [] = []
at_place f zero (s ∷ places) = f s ∷ places
at_place f (suc place) (s ∷ places) = s ∷ at_place f place places

-- what a change does to a subscription
abbrev pub changed_by : Change → SubState → SubState
changed_by (change.Flow unit value) s = flowed unit value s
changed_by change.Stop s = stopped s
changed_by (change.Mode mode) s = with_mode mode s
changed_by change.Empty s = emptied s
changed_by (change.Restore epoch octets) s = restored epoch octets s
changed_by (change.Browse number) s = browsed number s
