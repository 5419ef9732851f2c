-- What nodes and ends spell: lists of keys, linked both ways. A spot of a list is a key, or none for the list's
-- ends; the first key comes after none, and the last one before none.
use Rattle.std.specs.Prelude.{◌≡◌, ℕ, zero, suc, ◌==◌, ◌<◌, true, if◌then◌else◌, List, [], ◌∷◌, length, map, Option, None, Some, slice_index_or, slice_set}
use Rattle.slab.specs.Slab.{Slab, get}
use Rattle.node_list.specs.declared.links.Place.{Place}
use Rattle.node_list.specs.declared.links.Ends.{Ends}
use Rattle.node_list.specs.declared.links.Node.{Node}
use Rattle.node_list.specs.Keys.{has, Distinct, list_at}

-- ---- nodes, by key

module _ {T : Type 0} where
  abbrev pub place_in : ℕ → Option (Node T) → Option Place
  place_in lane None = None
  place_in lane (Some node) = slice_index_or node.places lane None

  -- lane 0 is the place in a list, lane 1 the one in a holder's list
  abbrev pub place_at : Slab (Node T) → ℕ → ℕ → Option Place
  place_at nodes lane key = place_in lane (get nodes key)

  abbrev pub item_in : Option (Node T) → Option T
  item_in None = None
  item_in (Some node) = Some node.item

  abbrev pub item_slots : Slab (Node T) → List (Option T)
  item_slots nodes = map item_in nodes.slots

abbrev pub next_of : Option Place → Option ℕ
next_of None = None
next_of (Some place) = place.next

abbrev pub previous_of : Option Place → Option ℕ
previous_of None = None
previous_of (Some place) = place.previous

abbrev pub list_of : Option Place → Option ℕ
list_of None = None
list_of (Some place) = Some place.list

abbrev pub no_ends : Ends
no_ends = record { first = None; last = None }

abbrev pub ends_at : List Ends → ℕ → Ends
ends_at ends list = slice_index_or ends list no_ends

-- ---- what they spell

-- the spot after another one of a list
abbrev pub after : (ℕ → Option Place) → List Ends → ℕ → Option ℕ → Option ℕ
after f ends list None = (ends_at ends list).first
after f ends list (Some key) = next_of (f key)

-- the spot before another one
abbrev pub before : (ℕ → Option Place) → List Ends → ℕ → Option ℕ → Option ℕ
before f ends list None = (ends_at ends list).last
before f ends list (Some key) = previous_of (f key)

-- from a spot on come these keys, and each knows the one before it
abbrev pub Chain : (Option ℕ → Option ℕ) → (Option ℕ → Option ℕ) → Option ℕ → List ℕ → Type 0
Chain A B spot [] = (A spot ≡ None) × (B None ≡ spot)
Chain A B spot (k ∷ keys) = (A spot ≡ Some k) × ((B (Some k) ≡ spot) × Chain A B (Some k) keys)

-- places and ends spell these lists, and no place is outside of them
pub record Spells (f : ℕ → Option Place) (ends : List Ends) (lists : List (List ℕ)) : Type 0 where
  pub count : length lists ≡ length ends
  pub chains : (list : ℕ) → list < length ends → Chain (after f ends list) (before f ends list) None (list_at lists list)
  pub distinct : (list : ℕ) → Distinct (list_at lists list)
  pub listed : (list key : ℕ) → has key (list_at lists list) ≡ true → list_of (f key) ≡ Some list
  pub covers : (list key : ℕ) → list_of (f key) ≡ Some list → has key (list_at lists list) ≡ true

-- the keys from a spot on, so many at most
abbrev pub walk : ℕ → (ℕ → Option Place) → Option ℕ → List ℕ
walk zero f spot = []
walk (suc fuel) f None = []
walk (suc fuel) f (Some key) = key ∷ walk fuel f (next_of (f key))

abbrev pub walks : ℕ → (ℕ → Option Place) → List Ends → List (List ℕ)
walks fuel f ends = map (λ e. walk fuel f e.first) ends

-- ---- changes of places and ends

-- a key has this place
abbrev pub placed : ℕ → Option Place → (ℕ → Option Place) → ℕ → Option Place
placed key place f j = if j == key then place else f j

abbrev pub next_by : Option ℕ → Option Place → Option Place
next_by next None = None
next_by next (Some place) = Some (record { list = place.list; previous = place.previous; next = next })

abbrev pub previous_by : Option ℕ → Option Place → Option Place
previous_by previous None = None
previous_by previous (Some place) = Some (record { list = place.list; previous = previous; next = place.next })

-- after a spot comes this one
abbrev pub with_next : Option ℕ → Option ℕ → (ℕ → Option Place) → ℕ → Option Place
with_next None next f j = f j
with_next (Some key) next f j = if j == key then next_by next (f j) else f j

abbrev pub first_set : List Ends → ℕ → Option ℕ → Option ℕ → List Ends
first_set ends list None next = slice_set ends list (record { first = next; last = (ends_at ends list).last })
first_set ends list (Some key) next = ends

-- before a spot comes this one
abbrev pub with_previous : Option ℕ → Option ℕ → (ℕ → Option Place) → ℕ → Option Place
with_previous None previous f j = f j
with_previous (Some key) previous f j = if j == key then previous_by previous (f j) else f j

abbrev pub last_set : List Ends → ℕ → Option ℕ → Option ℕ → List Ends
last_set ends list None previous = slice_set ends list (record { first = (ends_at ends list).first; last = previous })
last_set ends list (Some key) previous = ends

-- the neighbours of a place that is gone are linked
abbrev pub joined : Option Place → (ℕ → Option Place) → ℕ → Option Place
joined None f = f
joined (Some place) f = with_previous place.next place.previous (with_next place.previous place.next f)

abbrev pub ends_joined : Option Place → List Ends → List Ends
ends_joined None ends = ends
ends_joined (Some place) ends = last_set (first_set ends place.list place.previous place.next) place.list place.next place.previous

-- a key has this place, and its neighbours know it
abbrev pub put_in : ℕ → Place → (ℕ → Option Place) → ℕ → Option Place
put_in key place f = with_previous place.next (Some key) (with_next place.previous (Some key) (placed key (Some place) f))

abbrev pub ends_put : ℕ → Place → List Ends → List Ends
ends_put key place ends = last_set (first_set ends place.list place.previous (Some key)) place.list place.next (Some key)

-- the list of a place, where there is one, is one of so many
abbrev pub IsListed : Option Place → ℕ → Type 0
IsListed None count = ◌≡◌ {A = ℕ} 0 0
IsListed (Some place) count = place.list < count
