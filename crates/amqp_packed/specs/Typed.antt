-- Fields as commands have them: a bit is set or not, another field is there or absent.
use Rattle.std.specs.Prelude.{ℕ, Bool, true, false, List, [], ◌∷◌, Option, None, Some}
use Rattle.amqp_values.specs.declared.value.Range.{Range}
use Rattle.amqp_values.specs.declared.value.Value.{Value}
use Rattle.amqp_values.specs.declared.value.Xid.{Xid}
use Rattle.amqp_values.specs.declared.value.ReplyTo.{ReplyTo}
use Rattle.amqp_packed.specs.declared.field.Field.{Field}
use Rattle.amqp_packed.specs.declared.field.Field.TheVariants as f

-- past the end every field is absent
abbrev pub first : List Field → Field
first [] = f.Absent
first (x ∷ xs) = x

abbrev pub others : List Field → List Field
others [] = []
others (x ∷ xs) = xs

-- a field of each kind, to and from what a command has
abbrev pub as_bit : Field → Bool
as_bit f.Bit = true
as_bit field = false

abbrev pub of_bit : Bool → Field
of_bit true = f.Bit
of_bit false = f.Absent

abbrev pub as_u8 : Field → Option ℕ
as_u8 (f.U8 x) = Some x
as_u8 field = None

abbrev pub of_u8 : Option ℕ → Field
of_u8 None = f.Absent
of_u8 (Some x) = f.U8 x

abbrev pub as_u16 : Field → Option ℕ
as_u16 (f.U16 x) = Some x
as_u16 field = None

abbrev pub of_u16 : Option ℕ → Field
of_u16 None = f.Absent
of_u16 (Some x) = f.U16 x

abbrev pub as_u32 : Field → Option ℕ
as_u32 (f.U32 x) = Some x
as_u32 field = None

abbrev pub of_u32 : Option ℕ → Field
of_u32 None = f.Absent
of_u32 (Some x) = f.U32 x

abbrev pub as_u64 : Field → Option ℕ
as_u64 (f.U64 x) = Some x
as_u64 field = None

abbrev pub of_u64 : Option ℕ → Field
of_u64 None = f.Absent
of_u64 (Some x) = f.U64 x

abbrev pub as_str8 : Field → Option (List ℕ)
as_str8 (f.Str8 x) = Some x
as_str8 field = None

abbrev pub of_str8 : Option (List ℕ) → Field
of_str8 None = f.Absent
of_str8 (Some x) = f.Str8 x

abbrev pub as_str16 : Field → Option (List ℕ)
as_str16 (f.Str16 x) = Some x
as_str16 field = None

abbrev pub of_str16 : Option (List ℕ) → Field
of_str16 None = f.Absent
of_str16 (Some x) = f.Str16 x

abbrev pub as_vbin8 : Field → Option (List ℕ)
as_vbin8 (f.Vbin8 x) = Some x
as_vbin8 field = None

abbrev pub of_vbin8 : Option (List ℕ) → Field
of_vbin8 None = f.Absent
of_vbin8 (Some x) = f.Vbin8 x

abbrev pub as_vbin16 : Field → Option (List ℕ)
as_vbin16 (f.Vbin16 x) = Some x
as_vbin16 field = None

abbrev pub of_vbin16 : Option (List ℕ) → Field
of_vbin16 None = f.Absent
of_vbin16 (Some x) = f.Vbin16 x

abbrev pub as_vbin32 : Field → Option (List ℕ)
as_vbin32 (f.Vbin32 x) = Some x
as_vbin32 field = None

abbrev pub of_vbin32 : Option (List ℕ) → Field
of_vbin32 None = f.Absent
of_vbin32 (Some x) = f.Vbin32 x

abbrev pub as_uuid : Field → Option (List ℕ)
as_uuid (f.Uuid x) = Some x
as_uuid field = None

abbrev pub of_uuid : Option (List ℕ) → Field
of_uuid None = f.Absent
of_uuid (Some x) = f.Uuid x

abbrev pub as_datetime : Field → Option ℕ
as_datetime (f.Datetime x) = Some x
as_datetime field = None

abbrev pub of_datetime : Option ℕ → Field
of_datetime None = f.Absent
of_datetime (Some x) = f.Datetime x

abbrev pub as_map : Field → Option Value
as_map (f.Map x) = Some x
as_map field = None

abbrev pub of_map : Option Value → Field
of_map None = f.Absent
of_map (Some x) = f.Map x

abbrev pub as_array : Field → Option Value
as_array (f.Array x) = Some x
as_array field = None

abbrev pub of_array : Option Value → Field
of_array None = f.Absent
of_array (Some x) = f.Array x

abbrev pub as_ranges : Field → Option (List Range)
as_ranges (f.Ranges x) = Some x
as_ranges field = None

abbrev pub of_ranges : Option (List Range) → Field
of_ranges None = f.Absent
of_ranges (Some x) = f.Ranges x

abbrev pub as_struct32 : Field → Option (List ℕ)
as_struct32 (f.Struct32 x) = Some x
as_struct32 field = None

abbrev pub of_struct32 : Option (List ℕ) → Field
of_struct32 None = f.Absent
of_struct32 (Some x) = f.Struct32 x

abbrev pub as_xid : Field → Option Xid
as_xid (f.Xid x) = Some x
as_xid field = None

abbrev pub of_xid : Option Xid → Field
of_xid None = f.Absent
of_xid (Some x) = f.Xid x

abbrev pub as_reply_to : Field → Option ReplyTo
as_reply_to (f.ReplyTo x) = Some x
as_reply_to field = None

abbrev pub of_reply_to : Option ReplyTo → Field
of_reply_to None = f.Absent
of_reply_to (Some x) = f.ReplyTo x
