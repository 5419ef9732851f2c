-- The code's tables stand for what was heard.
use Rattle.std.specs.Prelude.{◌≡◌, ℕ, ◌^◌, ◌≤◌, true, List, [], Option, None, Some}
use Rattle.history_model.specs.Arrivals.{Arrival}
use Rattle.history_model.specs.Life.{Heard, place, number, is_new, next}
use Rattle.history_model.specs.Pairs.{Paired}
use Rattle.history_model.specs.Standing.{World, world}
use Rattle.history_model.specs.State.{state}
use Rattle.session_core.specs.declared.receiver.Arrival.{Arrival as Arrived}
use Rattle.hub_core.specs.declared.session.Session.{Session}
use Rattle.hub_core.specs.declared.state.State.{State}
use Rattle.hub_core.specs.Places.{holder_in}
use Rattle.session_core.specs.Received.{Receives}
use Rattle.session_core.specs.Sent.{Sends}

-- a session stands for its life
pub record Sits (s : Session) (h : List Heard) : Type 0 where
  pub place_is : place h ≡ Some (s.connection, s.channel)
  pub attached : s.loose ≡ None
  pub brief : s.timeout ≡ 0
  pub pointed : s.pointed ≡ true
  pub receives : Receives s.receiver h
  pub sends : Sends s.sender h

-- a command stands for the one that its session expects
pub record Comes (a : Arrived) (h : List Heard) : Type 0 where
  pub number_is : a.number ≡ number h
  pub new_is : a.new ≡ is_new h

-- the next number of a life, if there is one
abbrev pub next_in : Option (List Heard) → ℕ
next_in None = 0
next_in (Some life) = next life

-- the tables stand for this standing of sessions and these queues
pub record StandsAs (s : State) (w : World) (queues : List (List ℕ)) : Type 0 where
  pub joined_is : s.joined ≡ w.joined
  pub limited : s.joined ≤ 2 ^ 62
  pub holders : (c k : ℕ) → holder_in s.places c k ≡ w.holder c k
  pub lives_are : Paired Sits s.sessions.entries w.lives
  pub notices_are : s.notices.entries ≡ []
  pub queues_are : s.queues.keys ≡ queues

-- the tables stand for these arrivals
abbrev pub Stands : State → List Arrival → Type 0
Stands s h = StandsAs s (world h) (state h).queues
