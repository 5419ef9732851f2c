-- The structs of a header segment (AMQP 0-10, "message").
use Rattle.std.specs.Prelude.{◌≡◌, ℕ, zero, suc, ◌==◌, ◌&&◌, ◌-◌, nat_lt, nat_le, not, Bool, if◌then◌else◌, List, [], ◌∷◌, ◌++◌, length, drop, slice_index, flat_map, Result, Ok, Err}
use Rattle.std.specs.List.{list_all}
use Rattle.octet_reading.specs.declared.why.Why.TheVariants.{BadStruct, SizeDiffers}
use Rattle.octet_reading.specs.declared.flaw.Flaw.{Flaw}
use Rattle.octet_reading.specs.declared.part.SizeWidth.TheVariants.{Four}
use Rattle.octet_reading.specs.Reading.{Taken, ◌>>=◌, check, flaw_at, sized_at, followed}
use Rattle.octet_reading.specs.Spelling.{sized, fits}
use Rattle.amqp_values.specs.declared.fault.ValueFault.{ValueFault}
use Rattle.amqp_terms.specs.declared.content.DeliveryProperties.{DeliveryProperties}
use Rattle.amqp_terms.specs.declared.content.MessageProperties.{MessageProperties}
use Rattle.amqp_terms.specs.declared.content.HeaderItem.{HeaderItem}
use Rattle.amqp_terms.specs.declared.content.HeaderItem.TheVariants as h
use Rattle.amqp_packed.specs.declared.field.FieldKind.{FieldKind}
use Rattle.amqp_packed.specs.declared.field.FieldKind.TheVariants as k
use Rattle.amqp_packed.specs.declared.field.Field.{Field}
use Rattle.amqp_packed.specs.Reading.{all_fields_at}
use Rattle.amqp_packed.specs.Spelling.{packed, is_fine}
use Rattle.amqp_packed.specs.Typed.{first, others, as_bit, of_bit, as_u8, of_u8, as_u64, of_u64, as_datetime, of_datetime, as_str8, of_str8, as_str16, of_str16, as_uuid, of_uuid, as_vbin16, of_vbin16, as_reply_to, of_reply_to, as_map, of_map}
use Rattle.amqp_structs.specs.declared.error.HeaderError.{HeaderError}
use Rattle.amqp_structs.specs.declared.error.HeaderError.TheVariants as refused

-- 4,1 delivery-properties
abbrev pub delivery_table : List FieldKind
delivery_table = k.Bit ∷ k.Bit ∷ k.Bit ∷ k.U8 ∷ k.U8 ∷ k.U64 ∷ k.Datetime ∷ k.Datetime ∷ k.Str8 ∷ k.Str8 ∷ k.Str16 ∷ k.U64 ∷ []

unfoldable pub delivery_fields : DeliveryProperties → List Field
delivery_fields d = of_bit d.discard_unroutable ∷ of_bit d.immediate ∷ of_bit d.redelivered ∷ of_u8 d.priority ∷ of_u8 d.delivery_mode ∷ of_u64 d.ttl ∷ of_datetime d.timestamp ∷ of_datetime d.expiration ∷ of_str8 d.exchange ∷ of_str8 d.routing_key ∷ of_str16 d.resume_id ∷ of_u64 d.resume_ttl ∷ []

unfoldable pub delivery_by : List Field → DeliveryProperties
delivery_by fields = record {
  discard_unroutable = as_bit (first fields);
  immediate = as_bit (first (others fields));
  redelivered = as_bit (first (others (others fields)));
  priority = as_u8 (first (others (others (others fields))));
  delivery_mode = as_u8 (first (others (others (others (others fields)))));
  ttl = as_u64 (first (others (others (others (others (others fields))))));
  timestamp = as_datetime (first (others (others (others (others (others (others fields)))))));
  expiration = as_datetime (first (others (others (others (others (others (others (others fields))))))));
  exchange = as_str8 (first (others (others (others (others (others (others (others (others fields)))))))));
  routing_key = as_str8 (first (others (others (others (others (others (others (others (others (others fields))))))))));
  resume_id = as_str16 (first (others (others (others (others (others (others (others (others (others (others fields)))))))))));
  resume_ttl = as_u64 (first (others (others (others (others (others (others (others (others (others (others (others fields))))))))))));
}

-- 4,3 message-properties
abbrev pub message_table : List FieldKind
message_table = k.U64 ∷ k.Uuid ∷ k.Vbin16 ∷ k.ReplyTo ∷ k.Str8 ∷ k.Str8 ∷ k.Vbin16 ∷ k.Vbin16 ∷ k.Map ∷ []

unfoldable pub message_fields : MessageProperties → List Field
message_fields m = of_u64 m.content_length ∷ of_uuid m.message_id ∷ of_vbin16 m.correlation_id ∷ of_reply_to m.reply_to ∷ of_str8 m.content_type ∷ of_str8 m.content_encoding ∷ of_vbin16 m.user_id ∷ of_vbin16 m.app_id ∷ of_map m.application_headers ∷ []

unfoldable pub message_by : List Field → MessageProperties
message_by fields = record {
  content_length = as_u64 (first fields);
  message_id = as_uuid (first (others fields));
  correlation_id = as_vbin16 (first (others (others fields)));
  reply_to = as_reply_to (first (others (others (others fields))));
  content_type = as_str8 (first (others (others (others (others fields)))));
  content_encoding = as_str8 (first (others (others (others (others (others fields))))));
  user_id = as_vbin16 (first (others (others (others (others (others (others fields)))))));
  app_id = as_vbin16 (first (others (others (others (others (others (others (others fields))))))));
  application_headers = as_map (first (others (others (others (others (others (others (others (others fields)))))))));
}

unfoldable pub delivery_in : List ℕ → Result HeaderItem Flaw
delivery_in octets = do
  fields ← all_fields_at SizeDiffers delivery_table octets
  Ok (h.Delivery (delivery_by fields))

unfoldable pub message_in : List ℕ → Result HeaderItem Flaw
message_in octets = do
  fields ← all_fields_at SizeDiffers message_table octets
  Ok (h.Message (message_by fields))

-- a struct's content: class, code, and what follows them; two structs are read by their tables
abbrev pub is_delivery : ℕ → ℕ → Bool
is_delivery class code = (class == 4) && (code == 1)

abbrev pub is_message : ℕ → ℕ → Bool
is_message class code = (class == 4) && (code == 3)

abbrev pub coded_in : ℕ → ℕ → List ℕ → Result HeaderItem Flaw
coded_in class code octets =
    if is_delivery class code then delivery_in octets else if is_message class code then message_in octets else Ok (h.Other class code octets)

abbrev pub struct_in : List ℕ → Result HeaderItem Flaw
struct_in octets = coded_in (slice_index octets 0) (slice_index octets 1) (drop 2 octets)

-- a struct behind its size
unfoldable pub struct_at : List ℕ → Taken HeaderItem
struct_at octets = do
  part ← sized_at Four octets
  _ ← check (nat_le 2 (length part.0)) (flaw_at BadStruct octets)
  followed part.1 (struct_in part.0)

-- structs as long as there are octets, after those in front; each takes some
unfoldable pub structs_at : ℕ → List HeaderItem → List ℕ → Result (List HeaderItem) Flaw
structs_at most front [] = Ok front
structs_at zero front (octet ∷ octets) = Ok front
structs_at (suc most) front (octet ∷ octets) = do
  item ← struct_at (octet ∷ octets)
  structs_at most (front ++ item.0 ∷ []) item.1

-- all structs of a segment
abbrev pub header_in : List ℕ → Result (List HeaderItem) Flaw
header_in octets = structs_at (length octets) [] octets

-- the octets of a struct, as they are written
abbrev pub struct_content : HeaderItem → List ℕ
struct_content (h.Delivery d) = 4 ∷ 1 ∷ packed (delivery_fields d)
struct_content (h.Message m) = 4 ∷ 3 ∷ packed (message_fields m)
struct_content (h.Other class code octets) = class ∷ code ∷ octets

abbrev pub struct_octets : HeaderItem → List ℕ
struct_octets item = sized Four (struct_content item)

abbrev pub header_octets : List HeaderItem → List ℕ
header_octets items = flat_map struct_octets items

-- a struct whose fields have spellings, or another than the two
abbrev pub is_sound : HeaderItem → Bool
is_sound (h.Delivery d) = list_all is_fine (delivery_fields d)
is_sound (h.Message m) = list_all is_fine (message_fields m)
is_sound (h.Other class code octets) = (nat_lt class 256 && nat_lt code 256) && (not (is_delivery class code) && not (is_message class code))

-- and whose size can be counted: it has a spelling
abbrev pub has_spelling : HeaderItem → Bool
has_spelling item = is_sound item && fits Four (length (struct_content item))

-- what was read, or the first fault by its index
abbrev pub index_of : {A : Type 0} → ℕ → Result A Flaw → Result A ValueFault
index_of end (Ok x) = Ok x
index_of end (Err flaw) = Err (record { at = end - flaw.left; why = flaw.why })

abbrev pub read_in : List ℕ → Result (List HeaderItem) ValueFault
read_in octets = index_of (length octets) (header_in octets)

-- the answer is this one, unless memory was wanting
abbrev pub Answers : {X : Type 0} → Result X HeaderError → Result X ValueFault → Type 0
Answers (Ok x) read = read ≡ Ok x
Answers (Err (refused.Bad fault)) read = read ≡ Err fault
Answers (Err refused.NoMemory) read = Unit {0}
