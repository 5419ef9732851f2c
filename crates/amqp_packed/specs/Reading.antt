-- The fields that octets spell, read from left to right (AMQP 0-10, "packing").
use Rattle.std.specs.Prelude.{◌≡◌, ℕ, zero, suc, ◌+◌, ◌-◌, ◌*◌, ◌/◌, ◌%◌, ◌^◌, ◌==◌, ◌&&◌, min, max, nat_lt, Bool, true, false, if◌then◌else◌, List, [], ◌∷◌, ◌++◌, length, drop, slice_index, slice_get, Option, None, Some, Result, Ok, Err}
use Rattle.std.specs.Int.{w8, w16, w32, w64}
use Rattle.octet_reading.specs.declared.why.Why.{Why}
use Rattle.octet_reading.specs.declared.why.Why.TheVariants.{ReservedFlag, BadRanges, BadStruct}
use Rattle.octet_reading.specs.declared.flaw.Flaw.{Flaw}
use Rattle.octet_reading.specs.declared.part.SizeWidth.TheVariants.{One, Two, Four}
use Rattle.octet_reading.specs.Reading.{Taken, ◌>>=◌, check, flaw_at, number_at, part_at, sized_at, text_at, ended, followed}
use Rattle.amqp_values.specs.declared.value.Range.{Range}
use Rattle.amqp_values.specs.declared.value.Xid.{Xid}
use Rattle.amqp_values.specs.declared.value.ReplyTo.{ReplyTo}
use Rattle.amqp_values.specs.declared.fault.ValueFault.{ValueFault}
use Rattle.amqp_values.specs.Values.{value_at}
use Rattle.amqp_packed.specs.declared.field.FieldKind.{FieldKind}
use Rattle.amqp_packed.specs.declared.field.FieldKind.TheVariants as k
use Rattle.amqp_packed.specs.declared.field.Field.{Field}
use Rattle.amqp_packed.specs.declared.field.Field.TheVariants as f
use Rattle.amqp_packed.specs.declared.error.PackError.{PackError}
use Rattle.amqp_packed.specs.declared.error.PackError.TheVariants as refused

-- reads a field of a kind
abbrev pub Reader : Type 0
Reader = FieldKind → List ℕ → Taken Field

-- two octets of flags, field 1 the lowest bit of the first; none is set beyond so many fields
unfoldable pub flags_at : ℕ → List ℕ → Taken ℕ
flags_at count octets = do
  part ← part_at octets octets 2
  _ ← check (nat_lt (slice_index octets 0) (2 ^ min count 8)) (flaw_at ReservedFlag octets)
  _ ← check (nat_lt (slice_index octets 1) (2 ^ (count - 8))) (flaw_at ReservedFlag (drop 1 octets))
  Ok (slice_index octets 0 + 256 * slice_index octets 1, part.1)

-- a field that is present where its flag is set
unfoldable pub slot_at : Reader → FieldKind → ℕ → List ℕ → Taken Field
slot_at one kind flags octets = if flags % 2 == 1 then one kind octets else Ok (f.Absent, octets)

-- a field for each kind, after those in front
unfoldable pub slots_at : Reader → List FieldKind → ℕ → List Field → List ℕ → Taken (List Field)
slots_at one [] flags front octets = Ok (front, octets)
slots_at one (kind ∷ kinds) flags front octets = do
  field ← slot_at one kind flags octets
  slots_at one kinds (flags / 2) (front ++ field.0 ∷ []) field.1

-- the flags, and the fields
unfoldable pub fields_at : Reader → List FieldKind → List ℕ → Taken (List Field)
fields_at one table octets = do
  flags ← flags_at (length table) octets
  slots_at one table flags.0 [] flags.1

-- a pair whose numbers rise by less than half of the circle
unfoldable pub range_at : List ℕ → Taken Range
range_at octets = do
  lower ← number_at w32 octets
  upper ← number_at w32 lower.1
  _ ← check (nat_lt ((upper.0 + 4294967296 - lower.0) % 4294967296) 2147483648) (flaw_at BadRanges octets)
  Ok (record { lower = lower.0; upper = upper.0 }, upper.1)

-- so many pairs, after those in front
unfoldable pub ranges_from : ℕ → List Range → List ℕ → Result (List Range) Flaw
ranges_from zero front octets = Ok front
ranges_from (suc n) front octets = do
  range ← range_at octets
  ranges_from n (front ++ range.0 ∷ []) range.1

unfoldable pub ranges_in : List ℕ → Result Field Flaw
ranges_in octets = do
  ranges ← ranges_from (length octets / 8) [] octets
  Ok (f.Ranges ranges)

-- pairs behind the count of their octets
unfoldable pub ranges_at : List ℕ → Taken Field
ranges_at octets = do
  part ← sized_at Two octets
  _ ← check (length part.0 % 8 == 0) (flaw_at BadRanges octets)
  followed part.1 (ranges_in part.0)

-- a field that has no fields in it
unfoldable pub plain_at : Reader
plain_at k.Bit octets = Ok (f.Bit, octets)
plain_at k.U8 octets = do
  n ← number_at w8 octets
  Ok (f.U8 n.0, n.1)
plain_at k.U16 octets = do
  n ← number_at w16 octets
  Ok (f.U16 n.0, n.1)
plain_at k.U32 octets = do
  n ← number_at w32 octets
  Ok (f.U32 n.0, n.1)
plain_at k.U64 octets = do
  n ← number_at w64 octets
  Ok (f.U64 n.0, n.1)
plain_at k.Str8 octets = do
  t ← text_at One octets
  Ok (f.Str8 t.0, t.1)
plain_at k.Str16 octets = do
  t ← text_at Two octets
  Ok (f.Str16 t.0, t.1)
plain_at k.Vbin8 octets = do
  part ← sized_at One octets
  Ok (f.Vbin8 part.0, part.1)
plain_at k.Vbin16 octets = do
  part ← sized_at Two octets
  Ok (f.Vbin16 part.0, part.1)
plain_at k.Vbin32 octets = do
  part ← sized_at Four octets
  Ok (f.Vbin32 part.0, part.1)
plain_at k.Uuid octets = do
  part ← part_at octets octets 16
  Ok (f.Uuid part.0, part.1)
plain_at k.Datetime octets = do
  n ← number_at w64 octets
  Ok (f.Datetime n.0, n.1)
plain_at k.Map octets = do
  value ← value_at 16 168 octets
  Ok (f.Map value.0, value.1)
plain_at k.Array octets = do
  value ← value_at 16 170 octets
  Ok (f.Array value.0, value.1)
plain_at k.Ranges octets = ranges_at octets
plain_at k.Struct32 octets = do
  part ← sized_at Four octets
  Ok (f.Struct32 part.0, part.1)
plain_at k.Xid octets = Ok (f.Absent, octets)
plain_at k.ReplyTo octets = Ok (f.Absent, octets)

-- an absent field counts as 0 or empty
abbrev pub u32_or_0 : Field → ℕ
u32_or_0 (f.U32 n) = n
u32_or_0 field = 0

abbrev pub octets_or_none : Field → List ℕ
octets_or_none (f.Vbin8 octets) = octets
octets_or_none field = []

abbrev pub text_or_none : Field → List ℕ
text_or_none (f.Str8 text) = text
text_or_none field = []

-- past the end every field is absent
abbrev pub given : Option Field → Field
given None = f.Absent
given (Some field) = field

-- the struct that three fields, or two, make
abbrev pub xid_of : List Field → Xid
xid_of fields = record { format = u32_or_0 (given (slice_get fields 0)); global = octets_or_none (given (slice_get fields 1)); branch = octets_or_none (given (slice_get fields 2)) }

abbrev pub reply_of : List Field → ReplyTo
reply_of fields = record { exchange = text_or_none (given (slice_get fields 0)); routing_key = text_or_none (given (slice_get fields 1)) }

-- the class and code of an xid, and its fields
unfoldable pub xid_in : List ℕ → Result Field Flaw
xid_in octets = do
  class ← part_at octets octets 2
  _ ← check ((slice_index octets 0 == 6) && (slice_index octets 1 == 4)) (flaw_at BadStruct octets)
  fields ← fields_at plain_at (k.U32 ∷ k.Vbin8 ∷ k.Vbin8 ∷ []) class.1
  _ ← ended fields.1
  Ok (f.Xid (xid_of fields.0))

-- the fields of a reply-to
unfoldable pub reply_in : List ℕ → Result Field Flaw
reply_in octets = do
  fields ← fields_at plain_at (k.Str8 ∷ k.Str8 ∷ []) octets
  _ ← ended fields.1
  Ok (f.ReplyTo (reply_of fields.0))

unfoldable pub xid_at : List ℕ → Taken Field
xid_at octets = do
  part ← sized_at Four octets
  followed part.1 (xid_in part.0)

unfoldable pub reply_at : List ℕ → Taken Field
reply_at octets = do
  part ← sized_at Two octets
  followed part.1 (reply_in part.0)

-- any field
unfoldable pub field_at : Reader
field_at k.Xid octets = xid_at octets
field_at k.ReplyTo octets = reply_at octets
field_at kind octets = plain_at kind octets

-- fields that take all of the octets; else what is left is wrong for the reason given
unfoldable pub all_fields_at : Why → List FieldKind → List ℕ → Result (List Field) Flaw
all_fields_at why table octets = do
  fields ← fields_at field_at table octets
  _ ← check (length fields.1 == 0) (flaw_at why fields.1)
  Ok fields.0

-- inside a field there is no other with fields
abbrev pub reader : Bool → Reader
reader true = plain_at
reader false = field_at

-- the fields at an index and the index after them, or the first fault by its index; beyond the octets there are none
abbrev pub index_of : ℕ → Taken (List Field) → Result (List Field × ℕ) ValueFault
index_of end (Ok (fields, rest)) = Ok (fields, end - length rest)
index_of end (Err flaw) = Err (record { at = end - flaw.left; why = flaw.why })

abbrev pub read_at : List FieldKind → List ℕ → ℕ → Result (List Field × ℕ) ValueFault
read_at table octets at = index_of (max at (length octets)) (fields_at field_at table (drop at octets))

-- the answer is this one, unless memory was wanting
abbrev pub Answers : {X : Type 0} → Result X PackError → Result X ValueFault → Type 0
Answers (Ok x) read = read ≡ Ok x
Answers (Err (refused.Bad fault)) read = read ≡ Err fault
Answers (Err refused.NoMemory) read = Unit {0}
