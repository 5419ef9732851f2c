-- What is left of a list from a node on.
use Rattle.std.specs.Prelude.{◌≡◌, ℕ, ◌==◌, true, if◌then◌else◌, List, [], ◌∷◌, Option, None, Some, map}
use Rattle.node_list.specs.Keys.{has, Distinct, list_at}
use Rattle.node_list.specs.Lists.{Listed, item_at, IsLive}
use Rattle.queue_copies.specs.declared.entry.Holder.{Holder}
use Rattle.queue_copies.specs.declared.entry.QueueCopy.{QueueCopy}
use Rattle.queue_copies.specs.declared.entry.Entry.{Entry}
use Rattle.queue_copies.specs.Copied.{Copied, holder_of}
use Rattle.queue_copies.specs.Sound.{gathered}

-- a copy with its holder
abbrev pub pair : Copied → QueueCopy × Option Holder
pair c = (c.copy, holder_of c.hold)

-- the keys from one on
abbrev pub from_key : ℕ → List ℕ → List ℕ
from_key key [] = []
from_key key (k ∷ keys) = if k == key then k ∷ keys else from_key key keys

abbrev pub from_next : Option ℕ → List ℕ → List ℕ
from_next None keys = []
from_next (Some key) keys = from_key key keys

abbrev pub rest : Listed Entry → ℕ → Option ℕ → List (QueueCopy × Option Holder)
rest nodes list next = map pair (gathered (item_at nodes) (from_next next (list_at nodes.lists list)))

-- the next node is one of the list, whose nodes are there
pub record Stands (nodes : Listed Entry) (list : ℕ) (next : Option ℕ) : Type 0 where
  pub distinct : Distinct (list_at nodes.lists list)
  pub live : (key : ℕ) → has key (list_at nodes.lists list) ≡ true → IsLive nodes key
  pub one : (key : ℕ) → next ≡ Some key → has key (list_at nodes.lists list) ≡ true
