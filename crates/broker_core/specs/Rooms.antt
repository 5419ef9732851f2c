-- What room that is made leaves as it was.
use Rattle.std.specs.Prelude.{◌≡◌, ℕ, List, [], ◌++◌, replicate}
use Rattle.queue_copies.specs.Copied.{Copied}
use Rattle.broker_core.specs.State.{Stand}

-- the lists of copies may be more, and the new ones are empty
abbrev pub Grown : List (List Copied) → List (List Copied) → Type 0
Grown old new = (more : ℕ) × (new ≡ old ++ replicate more [])

pub record Same (old new : Stand) : Type 0 where
  pub exchanges : new.exchanges.entries ≡ old.exchanges.entries
  pub rows : new.exchanges.rows ≡ old.exchanges.rows
  pub queues : new.queues.entries ≡ old.queues.entries
  pub lists : Grown old.queues.lists new.queues.lists
  pub sessions : new.sessions.entries ≡ old.sessions.entries
  pub owned : new.owned.entries ≡ old.owned.entries
  pub time : new.time ≡ old.time
