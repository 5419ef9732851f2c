-- The octets that may spell fields: those that are written, and others for structs in which a field is absent.
use Rattle.std.specs.Prelude.{◌≡◌, ℕ, ◌/◌, ◌%◌, List, [], ◌∷◌, ◌++◌, flat_map}
use Rattle.octet_reading.specs.declared.part.SizeWidth.TheVariants.{Two, Four}
use Rattle.amqp_values.specs.declared.value.Xid.{Xid}
use Rattle.amqp_values.specs.declared.value.ReplyTo.{ReplyTo}
use Rattle.octet_reading.specs.Spelling.{sized}
use Rattle.amqp_packed.specs.declared.field.FieldKind.TheVariants as k
use Rattle.amqp_packed.specs.declared.field.Field.{Field}
use Rattle.amqp_packed.specs.declared.field.Field.TheVariants as f
use Rattle.amqp_packed.specs.Reading.{xid_of, reply_of}
use Rattle.amqp_packed.specs.Spelling.{field_octets, flags_of, packed, AreOf}

-- a field of an xid that is 0 or empty may be absent
pub record XidSpelled (xid : Xid) (octets : List ℕ) : Type 0 where
  pub fields : List Field
  pub fit : AreOf (k.U32 ∷ k.Vbin8 ∷ k.Vbin8 ∷ []) fields
  pub means : xid_of fields ≡ xid
  pub is : octets ≡ sized Four (6 ∷ 4 ∷ packed fields)

pub record ReplySpelled (reply : ReplyTo) (octets : List ℕ) : Type 0 where
  pub fields : List Field
  pub fit : AreOf (k.Str8 ∷ k.Str8 ∷ []) fields
  pub means : reply_of fields ≡ reply
  pub is : octets ≡ sized Two (packed fields)

-- every other field is spelled as it is written
abbrev pub Spelled : Field → List ℕ → Type 0
Spelled (f.Xid xid) octets = XidSpelled xid octets
Spelled (f.ReplyTo reply) octets = ReplySpelled reply octets
Spelled field octets = octets ≡ field_octets field

-- a text for each field
unfoldable pub Each : List Field → List (List ℕ) → Type 0
Each [] texts = texts ≡ []
Each (x ∷ xs) [] = ⊥
Each (x ∷ xs) (text ∷ texts) = Spelled x text × Each xs texts

-- two octets of flags, a text for each field, and what follows
pub record Packs (fields : List Field) (octets rest : List ℕ) : Type 0 where
  pub texts : List (List ℕ)
  pub each : Each fields texts
  pub parts : octets ≡ flags_of fields % 256 ∷ flags_of fields / 256 ∷ flat_map (λ text. text) texts ++ rest
