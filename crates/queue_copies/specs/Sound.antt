-- What ties the parts of `Copies` together.
use Rattle.std.specs.Prelude.{◌≡◌, ℕ, ◌==◌, ◌<◌, ◌≤◌, ◌^◌, nat_eq, Bool, false, List, [], ◌∷◌, map, length, Option, None, Some}
use Rattle.indexmap.specs.IndexMap.{IndexMap, get, index_map_len, spare}
use Rattle.node_list.specs.Keys.{has, list_at}
use Rattle.node_list.specs.Lists.{Listed, item_at}
use Rattle.number_tree.specs.Numbers.{Rising}
use Rattle.number_tree.specs.declared.numbers.Slot.{Slot}
use Rattle.queue_copies.specs.declared.entry.Held.{Held}
use Rattle.queue_copies.specs.declared.entry.Entry.{Entry}
use Rattle.queue_copies.specs.Shelves.{Shelved, shelf_at}
use Rattle.queue_copies.specs.Copied.{Hold, Copied, Stock, numbers, shelf_of}

abbrev pub seen_hold : Option Held → Option Hold
seen_hold None = None
seen_hold (Some h) = Some (record { holder = h.holder; lane = h.lane })

abbrev pub seen : Entry → Copied
seen e = record { copy = e.copy; hold = seen_hold e.held }

abbrev pub seen_first : Option Entry → List Copied → List Copied
seen_first None cs = cs
seen_first (Some e) cs = seen e ∷ cs

-- the copies at these keys
abbrev pub gathered : (ℕ → Option Entry) → List ℕ → List Copied
gathered f [] = []
gathered f (k ∷ keys) = seen_first (f k) (gathered f keys)

abbrev pub stocked : Listed Entry → List Slot → Stock
stocked nodes slots = record { lists = map (gathered (item_at nodes)) nodes.lists; spare = length slots }

abbrev pub number_in : Option Entry → Option ℕ
number_in None = None
number_in (Some e) = Some e.copy.number

abbrev pub lies_in : ℕ → Option Entry → Bool
lies_in list None = false
lies_in list (Some e) = e.list == list

abbrev pub is_lane : ℕ → Option Held → Bool
is_lane lane None = false
is_lane lane (Some h) = h.lane == lane

abbrev pub held_in : ℕ → Option Entry → Bool
held_in lane None = false
held_in lane (Some e) = is_lane lane e.held

-- entries by key, the keys of each list and of each holder, the key of a number, and what is known of each list
pub record Sound (f : ℕ → Option Entry) (lists lanes : List (List ℕ)) (key_of : ℕ → Option ℕ) (shelves : List Shelved) : Type 0 where
  pub numbered : (number key : ℕ) → key_of number ≡ Some key → number_in (f key) ≡ Some number
  pub keyed : (number key : ℕ) → number_in (f key) ≡ Some number → key_of number ≡ Some key
  pub listed : (list key : ℕ) → has key (list_at lists list) ≡ lies_in list (f key)
  pub held : (lane key : ℕ) → has key (list_at lanes lane) ≡ held_in lane (f key)
  pub as_many : length lanes ≡ length lists
  pub shelved : length shelves ≡ length lists
  pub rising : (list : ℕ) → Rising (numbers (gathered f (list_at lists list)))
  pub known : (list : ℕ) → shelf_at shelves list ≡ shelf_of (gathered f (list_at lists list))

pub record Whole {S : Type 0} (nodes : Listed Entry) (keys : IndexMap ℕ ℕ S) (shelves : List Shelved) (slots : List Slot) : Type 0 where
  pub sound : Sound (item_at nodes) nodes.lists nodes.held (get nat_eq keys) shelves
  pub few : index_map_len keys < 2 ^ 63
  pub nodes_room : length slots ≤ nodes.spare
  pub keys_room : length slots ≤ spare keys

-- the greatest number is at least that of each copy
pub record Tied {S : Type 0} (nodes : Listed Entry) (keys : IndexMap ℕ ℕ S) (shelves : List Shelved) (slots : List Slot) (greatest : ℕ) : Type 0 where
  pub whole : Whole nodes keys shelves slots
  pub greatest_of : (number key : ℕ) → get nat_eq keys number ≡ Some key → number ≤ greatest
