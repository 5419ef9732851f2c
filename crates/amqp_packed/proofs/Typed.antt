-- A field that was made of what a command has stands at its kind, and tells it again.
use Rattle.std.proofs.Common.{◌≡◌, ℕ, Bool, true, false, List, [], ◌∷◌, Option, None, Some, refl}
use Rattle.amqp_values.specs.declared.value.Range.{Range}
use Rattle.amqp_values.specs.declared.value.Value.{Value}
use Rattle.amqp_values.specs.declared.value.Xid.{Xid}
use Rattle.amqp_values.specs.declared.value.ReplyTo.{ReplyTo}
use Rattle.amqp_packed.specs.declared.field.Field.{Field}
use Rattle.amqp_packed.specs.declared.field.Field.TheVariants as f
use Rattle.amqp_packed.specs.declared.field.FieldKind.TheVariants as k
use Rattle.amqp_packed.specs.Spelling.{Stands}
use Rattle.amqp_packed.specs.Typed.{as_bit, of_bit, as_u8, of_u8, as_u16, of_u16, as_u32, of_u32, as_u64, of_u64, as_str8, of_str8, as_str16, of_str16, as_vbin8, of_vbin8, as_vbin16, of_vbin16, as_vbin32, of_vbin32, as_uuid, of_uuid, as_datetime, of_datetime, as_map, of_map, as_array, of_array, as_ranges, of_ranges, as_struct32, of_struct32, as_xid, of_xid, as_reply_to, of_reply_to}

pub back_bit : (b : Bool) → as_bit (of_bit b) ≡ b
back_bit true = refl
back_bit false = refl

pub stands_bit : (b : Bool) → Stands k.Bit (of_bit b)
stands_bit true = refl
stands_bit false = tt

pub back_u8 : (x : Option ℕ) → as_u8 (of_u8 x) ≡ x
back_u8 None = refl
back_u8 (Some x) = refl

pub stands_u8 : (x : Option ℕ) → Stands k.U8 (of_u8 x)
stands_u8 None = tt
stands_u8 (Some x) = refl

pub back_u16 : (x : Option ℕ) → as_u16 (of_u16 x) ≡ x
back_u16 None = refl
back_u16 (Some x) = refl

pub stands_u16 : (x : Option ℕ) → Stands k.U16 (of_u16 x)
stands_u16 None = tt
stands_u16 (Some x) = refl

pub back_u32 : (x : Option ℕ) → as_u32 (of_u32 x) ≡ x
back_u32 None = refl
back_u32 (Some x) = refl

pub stands_u32 : (x : Option ℕ) → Stands k.U32 (of_u32 x)
stands_u32 None = tt
stands_u32 (Some x) = refl

pub back_u64 : (x : Option ℕ) → as_u64 (of_u64 x) ≡ x
back_u64 None = refl
back_u64 (Some x) = refl

pub stands_u64 : (x : Option ℕ) → Stands k.U64 (of_u64 x)
stands_u64 None = tt
stands_u64 (Some x) = refl

pub back_str8 : (x : Option (List ℕ)) → as_str8 (of_str8 x) ≡ x
back_str8 None = refl
back_str8 (Some x) = refl

pub stands_str8 : (x : Option (List ℕ)) → Stands k.Str8 (of_str8 x)
stands_str8 None = tt
stands_str8 (Some x) = refl

pub back_str16 : (x : Option (List ℕ)) → as_str16 (of_str16 x) ≡ x
back_str16 None = refl
back_str16 (Some x) = refl

pub stands_str16 : (x : Option (List ℕ)) → Stands k.Str16 (of_str16 x)
stands_str16 None = tt
stands_str16 (Some x) = refl

pub back_vbin8 : (x : Option (List ℕ)) → as_vbin8 (of_vbin8 x) ≡ x
back_vbin8 None = refl
back_vbin8 (Some x) = refl

pub stands_vbin8 : (x : Option (List ℕ)) → Stands k.Vbin8 (of_vbin8 x)
stands_vbin8 None = tt
stands_vbin8 (Some x) = refl

pub back_vbin16 : (x : Option (List ℕ)) → as_vbin16 (of_vbin16 x) ≡ x
back_vbin16 None = refl
back_vbin16 (Some x) = refl

pub stands_vbin16 : (x : Option (List ℕ)) → Stands k.Vbin16 (of_vbin16 x)
stands_vbin16 None = tt
stands_vbin16 (Some x) = refl

pub back_vbin32 : (x : Option (List ℕ)) → as_vbin32 (of_vbin32 x) ≡ x
back_vbin32 None = refl
back_vbin32 (Some x) = refl

pub stands_vbin32 : (x : Option (List ℕ)) → Stands k.Vbin32 (of_vbin32 x)
stands_vbin32 None = tt
stands_vbin32 (Some x) = refl

pub back_uuid : (x : Option (List ℕ)) → as_uuid (of_uuid x) ≡ x
back_uuid None = refl
back_uuid (Some x) = refl

pub stands_uuid : (x : Option (List ℕ)) → Stands k.Uuid (of_uuid x)
stands_uuid None = tt
stands_uuid (Some x) = refl

pub back_datetime : (x : Option ℕ) → as_datetime (of_datetime x) ≡ x
back_datetime None = refl
back_datetime (Some x) = refl

pub stands_datetime : (x : Option ℕ) → Stands k.Datetime (of_datetime x)
stands_datetime None = tt
stands_datetime (Some x) = refl

pub back_map : (x : Option Value) → as_map (of_map x) ≡ x
back_map None = refl
back_map (Some x) = refl

pub stands_map : (x : Option Value) → Stands k.Map (of_map x)
stands_map None = tt
stands_map (Some x) = refl

pub back_array : (x : Option Value) → as_array (of_array x) ≡ x
back_array None = refl
back_array (Some x) = refl

pub stands_array : (x : Option Value) → Stands k.Array (of_array x)
stands_array None = tt
stands_array (Some x) = refl

pub back_ranges : (x : Option (List Range)) → as_ranges (of_ranges x) ≡ x
back_ranges None = refl
back_ranges (Some x) = refl

pub stands_ranges : (x : Option (List Range)) → Stands k.Ranges (of_ranges x)
stands_ranges None = tt
stands_ranges (Some x) = refl

pub back_struct32 : (x : Option (List ℕ)) → as_struct32 (of_struct32 x) ≡ x
back_struct32 None = refl
back_struct32 (Some x) = refl

pub stands_struct32 : (x : Option (List ℕ)) → Stands k.Struct32 (of_struct32 x)
stands_struct32 None = tt
stands_struct32 (Some x) = refl

pub back_xid : (x : Option Xid) → as_xid (of_xid x) ≡ x
back_xid None = refl
back_xid (Some x) = refl

pub stands_xid : (x : Option Xid) → Stands k.Xid (of_xid x)
stands_xid None = tt
stands_xid (Some x) = refl

pub back_reply_to : (x : Option ReplyTo) → as_reply_to (of_reply_to x) ≡ x
back_reply_to None = refl
back_reply_to (Some x) = refl

pub stands_reply_to : (x : Option ReplyTo) → Stands k.ReplyTo (of_reply_to x)
stands_reply_to None = tt
stands_reply_to (Some x) = refl

pub ruleset backs = (back_bit, back_u8, back_u16, back_u32, back_u64, back_str8, back_str16, back_vbin8, back_vbin16, back_vbin32, back_uuid, back_datetime, back_map, back_array, back_ranges, back_struct32, back_xid, back_reply_to)
