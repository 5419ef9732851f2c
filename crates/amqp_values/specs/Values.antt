-- The value that octets spell, read from left to right (AMQP 0-10, "types").
use Rattle.std.specs.Prelude.{◌≡◌, ℕ, zero, suc, ◌-◌, ◌==◌, max, nat_le, not, Bool, if◌then◌else◌, bytes_eq, ◌≤◌, ◌<◌, List, [], length, drop, slice_index, Option, None, Some, Result, Ok, Err}
use Rattle.std.specs.Int.{w8, w32}
use Rattle.std.specs.BTreeMap.{is_at}
use Rattle.std.specs.Cmp.Lexicographic.{slice_cmp}
use Rattle.std.specs.List.{list_any}
use Rattle.std.specs.Ordering.{nat_cmp}
use Rattle.octet_reading.specs.declared.why.Why.TheVariants.{UnknownCode, BadBoolean, RepeatedKey, TooDeep}
use Rattle.octet_reading.specs.declared.flaw.Flaw.{Flaw}
use Rattle.octet_reading.specs.declared.part.SizeWidth.TheVariants.{One, Two, Four}
use Rattle.octet_reading.specs.Reading.{Taken, ◌>>=◌, check, flaw_at, number_at, part_at, sized_at, text_at, many_at, ended, followed}
use Rattle.amqp_values.specs.declared.kind.Kind.{Kind}
use Rattle.amqp_values.specs.declared.kind.Kind.TheVariants as kinds
use Rattle.amqp_values.specs.declared.kind.Container.{Container}
use Rattle.amqp_values.specs.declared.kind.Container.TheVariants as of
use Rattle.amqp_values.specs.declared.value.Pair.{Pair}
use Rattle.amqp_values.specs.declared.value.Value.{Value}
use Rattle.amqp_values.specs.declared.value.Value.TheVariants as v
use Rattle.amqp_values.specs.declared.fault.ValueFault.{ValueFault}
use Rattle.amqp_values.specs.declared.fault.ValueError.{ValueError}
use Rattle.amqp_values.specs.declared.fault.ValueError.TheVariants as refused
use Rattle.amqp_values.specs.Codes.{kind, is_known, is_array_code}

-- reads a value of a code
abbrev pub Reader : Type 0
Reader = ℕ → List ℕ → Taken Value

-- a code, and a value of it
unfoldable pub item_at : Reader → List ℕ → Taken Value
item_at value octets = do
  code ← number_at w8 octets
  _ ← check (is_known code.0) (flaw_at UnknownCode octets)
  value code.0 code.1

-- a pair has the key
abbrev pub has_key : List (Pair Value) → List ℕ → Bool
has_key pairs key = list_any (λ p. bytes_eq p.key key) pairs

-- a key that no pair before has, and an item
unfoldable pub pair_at : Reader → List (Pair Value) → List ℕ → Taken (Pair Value)
pair_at value front octets = do
  key ← text_at One octets
  _ ← check (not (has_key front key.0)) (flaw_at RepeatedKey octets)
  item ← item_at value key.1
  Ok (record { key = key.0; value = item.0 }, item.1)

-- a count, and so many pairs
unfoldable pub map_in : Reader → List ℕ → Result Value Flaw
map_in value octets = do
  count ← number_at w32 octets
  pairs ← many_at (pair_at value) [] count.0 (length octets) count.1
  _ ← ended pairs.1
  Ok (v.Map pairs.0)

-- a count, and so many items
unfoldable pub list_in : Reader → List ℕ → Result Value Flaw
list_in value octets = do
  count ← number_at w32 octets
  items ← many_at (λ front. item_at value) [] count.0 (length octets) count.1
  _ ← ended items.1
  Ok (v.List items.0)

-- a code, a count, and so many values of the code
unfoldable pub array_in : Reader → List ℕ → Result Value Flaw
array_in value octets = do
  code ← number_at w8 octets
  _ ← check (is_array_code code.0) (flaw_at UnknownCode octets)
  count ← number_at w32 code.1
  items ← many_at (λ front. value code.0) [] count.0 (length code.1) count.1
  _ ← ended items.1
  Ok (v.Array code.0 items.0)

-- what a container holds
abbrev pub content_in : Reader → Container → List ℕ → Result Value Flaw
content_in value of.Map octets = map_in value octets
content_in value of.List octets = list_in value octets
content_in value of.Array octets = array_in value octets

-- a container behind its size; inside none it stands too deep, and one of size 0 has no count
unfoldable pub container_at : Option Reader → ℕ → Container → List ℕ → Taken Value
container_at None code of octets = do
  content ← sized_at Four octets
  Err (flaw_at TooDeep octets)
container_at (Some value) code of octets = do
  content ← sized_at Four octets
  if length content.0 == 0 then Ok (v.Bare code, content.1) else followed content.1 (content_in value of content.0)

-- so many octets under a code
unfoldable pub fixed_at : ℕ → ℕ → List ℕ → Taken Value
fixed_at code size octets = do
  part ← part_at octets octets size
  Ok (v.Fixed code part.0, part.1)

-- one octet that is 0 or 1
unfoldable pub boolean_at : ℕ → List ℕ → Taken Value
boolean_at code octets = do
  part ← part_at octets octets 1
  _ ← check (nat_le (slice_index octets 0) 1) (flaw_at BadBoolean octets)
  Ok (v.Fixed code part.0, part.1)

-- a value of a kind, by what reads the values inside it
unfoldable pub kind_at : Option Reader → ℕ → List ℕ → Option Kind → Taken Value
kind_at inner code octets None = Err (flaw_at UnknownCode octets)
kind_at inner code octets (Some (kinds.Fixed size)) = fixed_at code size octets
kind_at inner code octets (Some kinds.Boolean) = boolean_at code octets
kind_at inner code octets (Some kinds.Text8) = do
  text ← text_at One octets
  Ok (v.Text8 text.0, text.1)
kind_at inner code octets (Some kinds.Text16) = do
  text ← text_at Two octets
  Ok (v.Text16 text.0, text.1)
kind_at inner code octets (Some (kinds.Bin width)) = do
  part ← sized_at width octets
  Ok (v.Bin code part.0, part.1)
kind_at inner code octets (Some (kinds.Container of)) = container_at inner code of octets
kind_at inner code octets (Some kinds.Struct32) = do
  part ← sized_at Four octets
  Ok (v.Struct32 part.0, part.1)
kind_at inner code octets (Some kinds.Void) = Ok (v.Void, octets)
kind_at inner code octets (Some kinds.Bit) = Ok (v.Bit, octets)

abbrev pub read_by : Option Reader → Reader
read_by inner code octets = kind_at inner code octets (kind code)

-- what reads inside so many levels of containers
abbrev pub inner_at : ℕ → Option Reader
inner_at zero = None
inner_at (suc levels) = Some (read_by (inner_at levels))

-- a value that stands where so many levels of containers are left
abbrev pub value_at : ℕ → Reader
value_at levels = read_by (inner_at levels)

-- the text is among the keys, as their table compares them
abbrev pub has_text : List (List ℕ) → List ℕ → Bool
has_text keys text = list_any (is_at (slice_cmp nat_cmp text)) keys

-- the keys of the pairs are those that were seen
abbrev pub SeesAll : List (List ℕ) → List (Pair Value) → Type 0
SeesAll keys pairs = (text : List ℕ) → has_text keys text ≡ has_key pairs text

-- the value at an index and the index after it, or the first fault by its index; beyond the octets there are none
abbrev pub index_of : ℕ → Taken Value → Result (Value × ℕ) ValueFault
index_of end (Ok (value, rest)) = Ok (value, end - length rest)
index_of end (Err flaw) = Err (record { at = end - flaw.left; why = flaw.why })

abbrev pub read_at : ℕ → List ℕ → ℕ → Result (Value × ℕ) ValueFault
read_at code octets at = index_of (max at (length octets)) (value_at 16 code (drop at octets))

-- the answer is this one, unless memory was wanting
abbrev pub Answers : {X : Type 0} → Result X ValueError → Result X ValueFault → Type 0
Answers (Ok x) read = read ≡ Ok x
Answers (Err (refused.Bad fault)) read = read ≡ Err fault
Answers (Err refused.NoMemory) read = Unit {0}

-- the keys of few pairs aren't noted, and those of more are
abbrev pub SeesLong : List (List ℕ) → List (Pair Value) → Type 0
SeesLong keys pairs = (length pairs ≤ 64 → keys ≡ []) × (64 < length pairs → SeesAll keys pairs)
