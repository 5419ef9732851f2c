-- The octets that spell fields (AMQP 0-10, "packing").
use Rattle.std.specs.Prelude.{◌≡◌, ℕ, ◌+◌, ◌-◌, ◌*◌, ◌/◌, ◌%◌, ◌==◌, ◌&&◌, nat_lt, Bool, true, false, if◌then◌else◌, List, [], ◌∷◌, ◌++◌, length, map, flat_map}
use Rattle.std.specs.Int.{w8, w16, w32, w64, to_be_bytes}
use Rattle.std.specs.List.{list_all}
use Rattle.std.specs.Str.{is_utf8}
use Rattle.octet_reading.specs.declared.part.SizeWidth.{SizeWidth}
use Rattle.octet_reading.specs.declared.part.SizeWidth.TheVariants.{One, Two, Four}
use Rattle.amqp_values.specs.declared.value.Range.{Range}
use Rattle.amqp_values.specs.declared.value.Value.{Value}
use Rattle.amqp_values.specs.declared.value.Xid.{Xid}
use Rattle.amqp_values.specs.declared.value.ReplyTo.{ReplyTo}
use Rattle.octet_reading.specs.Spelling.{sized, fits}
use Rattle.amqp_values.specs.Spelling.{told, spelling, is_valid}
use Rattle.amqp_packed.specs.declared.field.FieldKind.{FieldKind}
use Rattle.amqp_packed.specs.declared.field.FieldKind.TheVariants as k
use Rattle.amqp_packed.specs.declared.field.Field.{Field}
use Rattle.amqp_packed.specs.declared.field.Field.TheVariants as f

abbrev pub range_octets : Range → List ℕ
range_octets range = to_be_bytes w32 range.lower ++ to_be_bytes w32 range.upper

-- pairs behind the count of their octets
abbrev pub ranges_octets : List Range → List ℕ
ranges_octets ranges = sized Two (flat_map range_octets ranges)

-- the class and code, the flags of all fields, and the fields
unfoldable pub xid_content : Xid → List ℕ
xid_content xid = 6 ∷ 4 ∷ 7 ∷ 0 ∷ to_be_bytes w32 xid.format ++ sized One xid.global ++ sized One xid.branch

-- the flags of both fields, and the fields
abbrev pub reply_content : ReplyTo → List ℕ
reply_content reply = 3 ∷ 0 ∷ sized One reply.exchange ++ sized One reply.routing_key

-- what stands for a field; its flag is elsewhere
abbrev pub field_octets : Field → List ℕ
field_octets f.Absent = []
field_octets f.Bit = []
field_octets (f.U8 n) = to_be_bytes w8 n
field_octets (f.U16 n) = to_be_bytes w16 n
field_octets (f.U32 n) = to_be_bytes w32 n
field_octets (f.U64 n) = to_be_bytes w64 n
field_octets (f.Str8 text) = sized One text
field_octets (f.Str16 text) = sized Two text
field_octets (f.Vbin8 octets) = sized One octets
field_octets (f.Vbin16 octets) = sized Two octets
field_octets (f.Vbin32 octets) = sized Four octets
field_octets (f.Uuid octets) = octets
field_octets (f.Datetime n) = to_be_bytes w64 n
field_octets (f.Map value) = spelling value
field_octets (f.Array value) = spelling value
field_octets (f.Ranges ranges) = ranges_octets ranges
field_octets (f.Struct32 octets) = sized Four octets
field_octets (f.Xid xid) = sized Four (xid_content xid)
field_octets (f.ReplyTo reply) = sized Two (reply_content reply)

-- a field is there
abbrev pub is_there : Field → Bool
is_there f.Absent = false
is_there field = true

abbrev pub flag_of : Field → ℕ
flag_of field = if is_there field then 1 else 0

-- flags that are set or not, the first the lowest bit
unfoldable pub bits : List Bool → ℕ
bits [] = 0
bits (flag ∷ flags) = (if flag then 1 else 0) + 2 * bits flags

abbrev pub flags_of : List Field → ℕ
flags_of fields = bits (map is_there fields)

-- flags in two octets
abbrev pub flag_octets : ℕ → List ℕ
flag_octets flags = flags % 256 ∷ flags / 256 ∷ []

-- two octets of flags, and the fields that are present
abbrev pub packed : List Field → List ℕ
packed fields = flag_octets (flags_of fields) ++ flat_map field_octets fields

-- numbers that rise by less than half of the circle
abbrev pub range_fine : Range → Bool
range_fine range =
    nat_lt range.lower 4294967296 && (nat_lt range.upper 4294967296 && nat_lt ((range.upper + 4294967296 - range.lower) % 4294967296) 2147483648)

abbrev pub text_fine : SizeWidth → List ℕ → Bool
text_fine width text = fits width (length text) && is_utf8 text

-- a container of that code, or one that is bare
abbrev pub coded : ℕ → Value → Bool
coded code value = ((told value).code == code) && is_valid value

-- a field has a spelling
abbrev pub is_fine : Field → Bool
is_fine f.Absent = true
is_fine f.Bit = true
is_fine (f.U8 n) = nat_lt n 256
is_fine (f.U16 n) = nat_lt n 65536
is_fine (f.U32 n) = nat_lt n 4294967296
is_fine (f.U64 n) = nat_lt n 18446744073709551616
is_fine (f.Str8 text) = text_fine One text
is_fine (f.Str16 text) = text_fine Two text
is_fine (f.Vbin8 octets) = fits One (length octets)
is_fine (f.Vbin16 octets) = fits Two (length octets)
is_fine (f.Vbin32 octets) = fits Four (length octets)
is_fine (f.Uuid octets) = length octets == 16
is_fine (f.Datetime n) = nat_lt n 18446744073709551616
is_fine (f.Map value) = coded 168 value
is_fine (f.Array value) = coded 170 value
is_fine (f.Ranges ranges) = nat_lt (length ranges) 8192 && list_all range_fine ranges
is_fine (f.Struct32 octets) = fits Four (length octets)
is_fine (f.Xid xid) = nat_lt xid.format 4294967296 && (fits One (length xid.global) && fits One (length xid.branch))
is_fine (f.ReplyTo reply) = text_fine One reply.exchange && text_fine One reply.routing_key

-- a field may stand at a kind: it is absent, or of the kind
abbrev pub Stands : FieldKind → Field → Type 0
Stands kind f.Absent = Unit {0}
Stands kind f.Bit = kind ≡ k.Bit
Stands kind (f.U8 n) = kind ≡ k.U8
Stands kind (f.U16 n) = kind ≡ k.U16
Stands kind (f.U32 n) = kind ≡ k.U32
Stands kind (f.U64 n) = kind ≡ k.U64
Stands kind (f.Str8 text) = kind ≡ k.Str8
Stands kind (f.Str16 text) = kind ≡ k.Str16
Stands kind (f.Vbin8 octets) = kind ≡ k.Vbin8
Stands kind (f.Vbin16 octets) = kind ≡ k.Vbin16
Stands kind (f.Vbin32 octets) = kind ≡ k.Vbin32
Stands kind (f.Uuid octets) = kind ≡ k.Uuid
Stands kind (f.Datetime n) = kind ≡ k.Datetime
Stands kind (f.Map value) = kind ≡ k.Map
Stands kind (f.Array value) = kind ≡ k.Array
Stands kind (f.Ranges ranges) = kind ≡ k.Ranges
Stands kind (f.Struct32 octets) = kind ≡ k.Struct32
Stands kind (f.Xid xid) = kind ≡ k.Xid
Stands kind (f.ReplyTo reply) = kind ≡ k.ReplyTo

-- a field for each kind
unfoldable pub Alike : List FieldKind → List Field → Type 0
Alike [] fields = length fields ≡ 0
Alike (kind ∷ table) [] = ⊥
Alike (kind ∷ table) (x ∷ xs) = Stands kind x × Alike table xs

-- the fields fit the table, and have a spelling
abbrev pub AreOf : List FieldKind → List Field → Type 0
AreOf table fields = Alike table fields × (list_all is_fine fields ≡ true)
