-- Which bindings take a message, and which queues it goes to (AMQP 0-10, "exchange").
use Rattle.std.specs.Prelude.{ℕ, ◌&&◌, Bool, true, false, if◌then◌else◌, List, [], ◌∷◌, map, filter, bytes_eq, Option, None, Some}
use Rattle.amqp_values.specs.declared.value.Value.{Value}
use Rattle.binding_table.specs.declared.row.Row.{Row}
use Rattle.topic_keys.specs.Topics.{words}
use Rattle.topic_keys.specs.Topics as topics
use Rattle.header_match.specs.Equality.{arguments_equal}
use Rattle.header_match.specs.Headers as headers
use Rattle.exchange_core.specs.declared.marks.Kind.{Kind}
use Rattle.exchange_core.specs.declared.marks.Kind.TheVariants as kinds

-- a binding with the number of its exchange
abbrev pub Rowed : Type 0
Rowed = Row (Option Value)

-- a binding of an exchange of this kind takes a message with this key and these headers
abbrev pub takes : Kind → List ℕ → Option Value → Rowed → Bool
takes kinds.Direct key asked row = bytes_eq row.binding.key key
takes kinds.Fanout key asked row = true
takes kinds.Topic key asked row = topics.matches (words row.binding.key) (words key)
takes kinds.Headers key asked row = headers.matches row.binding.arguments asked

abbrev pub is_same : Option (List ℕ) → List ℕ → Bool
is_same None name = false
is_same (Some other) name = bytes_eq other name

-- the last of some names
abbrev pub last_of : List (List ℕ) → Option (List ℕ)
last_of [] = None
last_of (name ∷ []) = Some name
last_of (name ∷ more ∷ names) = last_of (more ∷ names)

-- names that differ from the one before each
abbrev pub others : Option (List ℕ) → List (List ℕ) → List (List ℕ)
others before [] = []
others before (name ∷ names) = if is_same before name then others before names else name ∷ others (Some name) names

-- of names that come one behind another each once
abbrev pub each_once : List (List ℕ) → List (List ℕ)
each_once names = others None names

-- the queues of the bindings that take a message
abbrev pub queues_of : Kind → List ℕ → Option Value → List Rowed → List (List ℕ)
queues_of kind key asked rows = each_once (map (λ (r : Rowed). r.binding.queue) (filter (takes kind key asked) rows))

-- ---- what exchange.bound asks

abbrev key_is : Option (List ℕ) → Rowed → Bool
key_is None row = true
key_is (Some key) row = bytes_eq row.binding.key key

abbrev arguments_are : Option Value → Rowed → Bool
arguments_are None row = true
arguments_are (Some arguments) row = arguments_equal row.binding.arguments (Some arguments)

-- a binding has the key, where one is given, and the arguments, where some are
abbrev pub is_asked : Option (List ℕ) → Option Value → Rowed → Bool
is_asked key arguments row = key_is key row && arguments_are arguments row

-- arguments have an entry
abbrev pub has_entry : Option Value → Bool
has_entry arguments = elim (headers.entries arguments) [ [] ↦ false | _ ∷ _ ↦ true ]

abbrev pub has_none : List Rowed → Bool
has_none [] = true
has_none (row ∷ rows) = false
