-- What a binding of a headers exchange asks of headers (AMQP 0-10, "exchange", headers).
use Rattle.std.specs.Prelude.{ℕ, ◌&&◌, ◌||◌, not, Bool, true, false, if◌then◌else◌, List, [], ◌∷◌, take, bytes_eq, Option, None, Some}
use Rattle.std.specs.List.{list_any, list_all}
use Rattle.amqp_values.specs.declared.value.Pair.{Pair}
use Rattle.amqp_values.specs.declared.value.Value.{Value}
use Rattle.amqp_values.specs.declared.value.Value.TheOpen.{Value-F}
use Rattle.amqp_values.specs.declared.value.Value.TheViews.{out-Value}
use Rattle.header_match.specs.Equality.{equal}

abbrev layer_entries : Value-F Value → List (Pair Value)
layer_entries (Value-F.Map pairs) = pairs
layer_entries _ = []

-- a map's entries; what is missing is an empty map
abbrev pub entries : Option Value → List (Pair Value)
entries None = []
entries (Some value) = layer_entries (out-Value value)

abbrev layer_void : Value-F Value → Bool
layer_void Value-F.Void = true
layer_void _ = false

abbrev pub is_void : Value → Bool
is_void value = layer_void (out-Value value)

-- the octets of `any`
abbrev pub is_any : List ℕ → Bool
is_any text = bytes_eq text (97 ∷ 110 ∷ 121 ∷ [])

abbrev layer_any : Value-F Value → Bool
layer_any (Value-F.Text8 text) = is_any text
layer_any (Value-F.Text16 text) = is_any text
layer_any _ = false

-- a text that is exactly `any`
abbrev pub says_any : Value → Bool
says_any value = layer_any (out-Value value)

-- the octets of `x-match`
abbrev pub is_x_match : List ℕ → Bool
is_x_match key = bytes_eq key (120 ∷ 45 ∷ 109 ∷ 97 ∷ 116 ∷ 99 ∷ 104 ∷ [])

-- one entry is enough
abbrev pub asks_any : List (Pair Value) → Bool
asks_any asked = list_any (λ p. is_x_match p.key && says_any p.value) asked

-- keys that begin with `x-` are not compared
abbrev pub is_compared : List ℕ → Bool
is_compared key = not (bytes_eq (take 2 key) (120 ∷ 45 ∷ []))

-- headers have the key, with the value where one is asked
abbrev pub holds : List (Pair Value) → Pair Value → Bool
holds headers p = list_any (λ (h : Pair Value). bytes_eq h.key p.key && (is_void p.value || equal p.value h.value)) headers

abbrev pub any_holds : List (Pair Value) → List (Pair Value) → Bool
any_holds asked headers = list_any (λ p. is_compared p.key && holds headers p) asked

abbrev pub all_hold : List (Pair Value) → List (Pair Value) → Bool
all_hold asked headers = list_all (λ p. not (is_compared p.key) || holds headers p) asked

-- whether headers have what a binding's arguments ask
abbrev pub matches : Option Value → Option Value → Bool
matches asked headers = if asks_any (entries asked) then any_holds (entries asked) (entries headers) else all_hold (entries asked) (entries headers)
