-- What the end of a session does, and the time.
use Rattle.std.specs.Prelude.{◌≡◌, ℕ, ◌==◌, max, if◌then◌else◌, List, [], ◌∷◌, Option, None, Some}
use Rattle.std.specs.Ordering.{nat_cmp}
use Rattle.sorted_map.specs.Map.{out}
use Rattle.broker_core.specs.declared.edit.Edit.{Edit}
use Rattle.broker_core.specs.declared.edit.Edit.TheVariants.{DropQueue}
use Rattle.broker_core.specs.declared.plan.Moment.{Moment}
use Rattle.broker_core.specs.declared.plan.Moment.TheVariants as moment
use Rattle.broker_core.specs.State.{Stand}
use Rattle.broker_core.specs.Edits.{Acted, ActedAll}

-- the queues that are a session's own, in order
abbrev pub own_names : ℕ → List (List ℕ × ℕ) → List (List ℕ)
own_names session [] = []
own_names session (e ∷ es) = if e.1 == session then e.0 ∷ own_names session es else own_names session es

abbrev pub drops : List (List ℕ) → List Edit
drops [] = []
drops (name ∷ names) = DropQueue name ∷ drops names

-- the first of them is gone
pub record DropsFirst (session : ℕ) (old new : Stand) : Type 0 where
  pub name : List ℕ
  pub first : own_names session old.owned.entries ≡ name ∷ own_names session new.owned.entries
  pub acted : Acted (DropQueue name) old new

-- all of them are gone, one after another, and then the session
pub record Ended (session : ℕ) (old new : Stand) : Type 0 where
  pub next : Stand
  pub acted : ActedAll (drops (own_names session old.owned.entries)) old next
  pub exchanges : new.exchanges ≡ next.exchanges
  pub queues : new.queues ≡ next.queues
  pub sessions : new.sessions.entries ≡ out nat_cmp session next.sessions.entries
  pub owned : new.owned ≡ next.owned
  pub time : new.time ≡ next.time

-- time never goes back
abbrev pub Passes : Option Moment → Stand → Stand → Type 0
Passes None old new = new ≡ old
Passes (Some (moment.End session)) old new = Ended session old new
Passes (Some (moment.Tick now)) old new = new ≡ record old { time = max old.time now }
