-- What is written of fields that were read is hardly longer than what was read: an xid may have left out six octets, a reply-to two.
use Rattle.std.proofs.Common.{◌≡◌, ◌+◌, ◌*◌, ◌≤◌, ℕ, suc, List, [], ◌∷◌, ◌++◌, length, flat_map, refl, sym, ap, subst, ◌∙◌, arith}
use Rattle.std.proofs.lemmas.List.{length-append}
use Rattle.std.proofs.lemmas.List.Concat.{flat_map-cons}
use Rattle.octet_reading.specs.declared.part.SizeWidth.TheVariants.{Two, Four}
use Rattle.octet_reading.specs.Spelling.{sized}
use Rattle.amqp_values.specs.declared.value.Xid.{Xid}
use Rattle.amqp_values.specs.declared.value.ReplyTo.{ReplyTo}
use Rattle.amqp_packed.specs.declared.field.FieldKind.TheVariants as k
use Rattle.amqp_packed.specs.declared.field.Field.{Field}
use Rattle.amqp_packed.specs.declared.field.Field.TheVariants as f
use Rattle.amqp_packed.specs.Reading.{octets_or_none, text_or_none, xid_of, reply_of}
use Rattle.amqp_packed.specs.Spelling.{field_octets, packed, xid_content, reply_content, Alike, AreOf}
use Rattle.amqp_packed.specs.Spelled.{Spelled, Each, Packs, XidSpelled, ReplySpelled}
use Rattle.amqp_packed.proofs.Sizes.{xid_length, reply_length}

octets_near : (x : Field) → length (octets_or_none x) ≤ length (field_octets x)
octets_near f.Absent = omega arith
octets_near f.Bit = omega arith
octets_near (f.U8 n) = omega arith
octets_near (f.U16 n) = omega arith
octets_near (f.U32 n) = omega arith
octets_near (f.U64 n) = omega arith
octets_near (f.Str8 t) = omega arith
octets_near (f.Str16 t) = omega arith
octets_near (f.Vbin8 o) = omega arith
octets_near (f.Vbin16 o) = omega arith
octets_near (f.Vbin32 o) = omega arith
octets_near (f.Uuid o) = omega arith
octets_near (f.Datetime n) = omega arith
octets_near (f.Map v) = omega arith
octets_near (f.Array v) = omega arith
octets_near (f.Ranges r) = omega arith
octets_near (f.Struct32 o) = omega arith
octets_near (f.Xid x) = omega arith
octets_near (f.ReplyTo r) = omega arith

text_near : (x : Field) → length (text_or_none x) ≤ length (field_octets x)
text_near f.Absent = omega arith
text_near f.Bit = omega arith
text_near (f.U8 n) = omega arith
text_near (f.U16 n) = omega arith
text_near (f.U32 n) = omega arith
text_near (f.U64 n) = omega arith
text_near (f.Str8 t) = omega arith
text_near (f.Str16 t) = omega arith
text_near (f.Vbin8 o) = omega arith
text_near (f.Vbin16 o) = omega arith
text_near (f.Vbin32 o) = omega arith
text_near (f.Uuid o) = omega arith
text_near (f.Datetime n) = omega arith
text_near (f.Map v) = omega arith
text_near (f.Array v) = omega arith
text_near (f.Ranges r) = omega arith
text_near (f.Struct32 o) = omega arith
text_near (f.Xid x) = omega arith
text_near (f.ReplyTo r) = omega arith

-- three fields, and two
xid_near : (fields : List Field) → Alike (k.U32 ∷ k.Vbin8 ∷ k.Vbin8 ∷ []) fields
    → length (xid_of fields).global + length (xid_of fields).branch ≤ length (flat_map field_octets fields)
unfolding Alike
xid_near [] h = absurd h
xid_near (x ∷ []) h = absurd h.1
xid_near (x ∷ y ∷ []) h = absurd h.1.1
xid_near (x ∷ y ∷ z ∷ more) h =
    omega (
      arith,
      octets_near y,
      octets_near z,
      ap length (flat_map-cons field_octets x (y ∷ z ∷ more)),
      length-append (field_octets x) (flat_map field_octets (y ∷ z ∷ more)),
      ap length (flat_map-cons field_octets y (z ∷ more)),
      length-append (field_octets y) (flat_map field_octets (z ∷ more)),
      ap length (flat_map-cons field_octets z more),
      length-append (field_octets z) (flat_map field_octets more),
    )

reply_near : (fields : List Field) → Alike (k.Str8 ∷ k.Str8 ∷ []) fields
    → length (reply_of fields).exchange + length (reply_of fields).routing_key ≤ length (flat_map field_octets fields)
unfolding Alike
reply_near [] h = absurd h
reply_near (x ∷ []) h = absurd h.1
reply_near (x ∷ y ∷ more) h =
    omega (
      arith,
      text_near x,
      text_near y,
      ap length (flat_map-cons field_octets x (y ∷ more)),
      length-append (field_octets x) (flat_map field_octets (y ∷ more)),
      ap length (flat_map-cons field_octets y more),
      length-append (field_octets y) (flat_map field_octets more),
    )

xid_written : (xid : Xid) (octets : List ℕ) → XidSpelled xid octets → length (field_octets (f.Xid xid)) ≤ length octets + 6
xid_written xid octets s =
    let near = subst (λ (x : Xid). length x.global + length x.branch ≤ length (flat_map field_octets s.fields)) s.means (xid_near s.fields s.fit.0) in
    omega (arith, near, xid_length xid, ap length s.is)

reply_written : (reply : ReplyTo) (octets : List ℕ) → ReplySpelled reply octets → length (field_octets (f.ReplyTo reply)) ≤ length octets + 6
reply_written reply octets s =
    let near = subst (λ (x : ReplyTo). length x.exchange + length x.routing_key ≤ length (flat_map field_octets s.fields)) s.means (reply_near s.fields s.fit.0) in
    omega (arith, near, reply_length reply, ap length s.is)

same_near : (x : Field) (text : List ℕ) → text ≡ field_octets x → length (field_octets x) ≤ length text + 6
same_near x text e = omega (arith, ap length e)

field_near : (x : Field) (text : List ℕ) → Spelled x text → length (field_octets x) ≤ length text + 6
field_near f.Absent text s = same_near f.Absent text s
field_near f.Bit text s = same_near f.Bit text s
field_near (f.U8 n) text s = same_near (f.U8 n) text s
field_near (f.U16 n) text s = same_near (f.U16 n) text s
field_near (f.U32 n) text s = same_near (f.U32 n) text s
field_near (f.U64 n) text s = same_near (f.U64 n) text s
field_near (f.Str8 t) text s = same_near (f.Str8 t) text s
field_near (f.Str16 t) text s = same_near (f.Str16 t) text s
field_near (f.Vbin8 o) text s = same_near (f.Vbin8 o) text s
field_near (f.Vbin16 o) text s = same_near (f.Vbin16 o) text s
field_near (f.Vbin32 o) text s = same_near (f.Vbin32 o) text s
field_near (f.Uuid o) text s = same_near (f.Uuid o) text s
field_near (f.Datetime n) text s = same_near (f.Datetime n) text s
field_near (f.Map v) text s = same_near (f.Map v) text s
field_near (f.Array v) text s = same_near (f.Array v) text s
field_near (f.Ranges r) text s = same_near (f.Ranges r) text s
field_near (f.Struct32 o) text s = same_near (f.Struct32 o) text s
field_near (f.Xid x) text s = xid_written x text s
field_near (f.ReplyTo r) text s = reply_written r text s

fields_near : (fields : List Field) (texts : List (List ℕ)) → Each fields texts → length (flat_map field_octets fields) ≤ length (flat_map (λ text. text) texts) + 6 * length fields
unfolding Each
fields_near [] texts each = omega arith
fields_near (x ∷ xs) [] each = absurd each
fields_near (x ∷ xs) (text ∷ texts) (one, more) =
    omega (
      arith,
      field_near x text one,
      fields_near xs texts more,
      ap length (flat_map-cons field_octets x xs),
      length-append (field_octets x) (flat_map field_octets xs),
      ap length (flat_map-cons (λ t. t) text texts),
      length-append text (flat_map (λ t. t) texts),
    )

-- fields that take all of the octets
pub packed_near : (fields : List Field) (octets : List ℕ) → Packs fields octets [] → length (packed fields) ≤ length octets + 6 * length fields
packed_near fields octets p = omega (arith, fields_near fields p.texts p.each, ap length p.parts, length-append (flat_map (λ text. text) p.texts) [])
