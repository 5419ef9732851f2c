-- What a contract sees of `Lists`.
use Rattle.std.specs.Prelude.{◌≡◌, ◌≢◌, ℕ, ◌-◌, List, length, Option, None, Some, IsSome, false, refl, slice_index_or}
use Rattle.std.specs.Coded.{Coded, code_by, coded×, coded_ℕ, coded_list, coded_option}
use Rattle.slab.specs.Slab.{Slab, get, slab_len}
use Rattle.node_list.specs.declared.links.Ends.{Ends}
use Rattle.node_list.specs.declared.links.Node.{Node}
use Rattle.node_list.specs.Keys.{has, list_at}
use Rattle.node_list.specs.Links.{place_at, item_slots, list_of, Spells, walks}

-- the item or nothing at each key from 0 on, the keys of each list and of each holder's list, and for how many more
-- nodes there is room
pub record Listed (T : Type 0) : Type 0 where
  pub items : List (Option T)
  pub lists : List (List ℕ)
  pub held : List (List ℕ)
  pub spare : ℕ

-- it is stored as the tuple of its fields
abbrev pub listed_code : {T : Type 0} → Coded T → Coded (Listed T)
listed_code {T} code =
    code_by
    (List (Option T) × (List (List ℕ) × (List (List ℕ) × ℕ)))
    (coded× (coded_list (coded_option code)) (coded× (coded_list (coded_list coded_ℕ)) (coded× (coded_list (coded_list coded_ℕ)) coded_ℕ)))
    (λ v. (v.items, (v.lists, (v.held, v.spare))))
    (λ p. record { items = p.0; lists = p.1.0; held = p.1.1.0; spare = p.1.1.1 })
    (λ _. refl)

module _ {T : Type 0} where
  -- the item of a key
  abbrev pub item_at : Listed T → ℕ → Option T
  item_at v key = slice_index_or v.items key None

  -- the key is one of a node
  abbrev pub IsLive : Listed T → ℕ → Type 0
  IsLive v key = IsSome (item_at v key)

  -- no holder has the key
  abbrev pub IsFree : Listed T → ℕ → Type 0
  IsFree v key = (holder : ℕ) → has key (list_at v.held holder) ≡ false

  -- a key that had no item has this one, and every other key keeps what it had
  pub record Puts (old new : Listed T) (key : ℕ) (item : T) : Type 0 where
    pub was : item_at old key ≡ None
    pub is : item_at new key ≡ Some item
    pub others : (other : ℕ) → other ≢ key → item_at new other ≡ item_at old other

  -- ---- what nodes and ends show

  abbrev pub listed : Slab (Node T) → List Ends → List Ends → Listed T
  listed nodes ends held_ends = record {
    items = item_slots nodes;
    lists = walks (length nodes.slots) (place_at nodes 0) ends;
    held = walks (length nodes.slots) (place_at nodes 1) held_ends;
    spare = nodes.capacity - slab_len nodes;
  }

  -- they show these lists and holder's lists, as many of both, and each node lies in a list
  pub record Shows (nodes : Slab (Node T)) (ends held_ends : List Ends) (lists held_lists : List (List ℕ)) : Type 0 where
    pub order : Spells (place_at nodes 0) ends lists
    pub held : Spells (place_at nodes 1) held_ends held_lists
    pub as_many : length held_ends ≡ length ends
    pub all : (key : ℕ) → IsSome (get nodes key) → IsSome (list_of (place_at nodes 0 key))

  abbrev pub IsSound : Slab (Node T) → List Ends → List Ends → Type 0
  IsSound nodes ends held_ends = Shows nodes ends held_ends (listed nodes ends held_ends).lists (listed nodes ends held_ends).held
