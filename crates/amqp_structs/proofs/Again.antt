-- Structs that were written are read again.
use Rattle.std.proofs.Common.{◌≡◌, if◌then◌else◌, ℕ, zero, suc, ◌+◌, ◌<◌, ◌≤◌, ◌&&◌, not, Bool, true, false, List, [], ◌∷◌, ◌++◌, length, Ok, refl, sym, ap, ◌∙◌, append_assoc, arith}
use Rattle.std.specs.Prelude.{nat_le, nat_lt}
use Rattle.std.specs.List.{list_all}
use Rattle.std.proofs.lemmas.Bool.{and_parts, le-leb}
use Rattle.std.proofs.lemmas.List.{append-nil, length-append}
use Rattle.std.proofs.lemmas.List.Concat.{flat_map-cons}
use Rattle.octet_reading.specs.declared.why.Why.TheVariants.{BadStruct, SizeDiffers}
use Rattle.octet_reading.specs.declared.part.SizeWidth.TheVariants.{Four}
use Rattle.octet_reading.specs.Reading.{◌>>=◌, check, flaw_at, followed}
use Rattle.octet_reading.specs.Spelling.{fits}
use Rattle.octet_reading.proofs.Again.{sized_again}
use Rattle.amqp_terms.specs.declared.content.DeliveryProperties.{DeliveryProperties}
use Rattle.amqp_terms.specs.declared.content.MessageProperties.{MessageProperties}
use Rattle.amqp_terms.specs.declared.content.HeaderItem.{HeaderItem}
use Rattle.amqp_terms.specs.declared.content.HeaderItem.TheVariants as h
use Rattle.amqp_packed.specs.Spelling.{Alike}
use Rattle.amqp_packed.proofs.Again.{all_fields_again}
use Rattle.amqp_packed.proofs.Typed.{back_bit, stands_bit, back_datetime, stands_datetime, back_map, stands_map, back_reply_to, stands_reply_to, back_str16, stands_str16, back_str8, stands_str8, back_u64, stands_u64, back_u8, stands_u8, back_uuid, stands_uuid, back_vbin16, stands_vbin16}
use Rattle.amqp_structs.specs.Header.{delivery_table, delivery_fields, delivery_by, message_table, message_fields, message_by, delivery_in, message_in, is_delivery, is_message, struct_in, struct_at, structs_at, header_in, struct_content, struct_octets, header_octets, is_sound, has_spelling}

delivery_back : (d : DeliveryProperties) → delivery_by (delivery_fields d) ≡ d
unfolding delivery_by delivery_fields
delivery_back d = rw (back_bit d.discard_unroutable, back_bit d.immediate, back_bit d.redelivered, back_u8 d.priority, back_u8 d.delivery_mode, back_u64 d.ttl, back_datetime d.timestamp, back_datetime d.expiration, back_str8 d.exchange, back_str8 d.routing_key, back_str16 d.resume_id, back_u64 d.resume_ttl) refl

delivery_stands : (d : DeliveryProperties) → Alike delivery_table (delivery_fields d)
unfolding delivery_fields Alike
delivery_stands d = (stands_bit d.discard_unroutable, (stands_bit d.immediate, (stands_bit d.redelivered, (stands_u8 d.priority, (stands_u8 d.delivery_mode, (stands_u64 d.ttl, (stands_datetime d.timestamp, (stands_datetime d.expiration, (stands_str8 d.exchange, (stands_str8 d.routing_key, (stands_str16 d.resume_id, (stands_u64 d.resume_ttl, refl))))))))))))

message_back : (m : MessageProperties) → message_by (message_fields m) ≡ m
unfolding message_by message_fields
message_back m = rw (back_u64 m.content_length, back_uuid m.message_id, back_vbin16 m.correlation_id, back_reply_to m.reply_to, back_str8 m.content_type, back_str8 m.content_encoding, back_vbin16 m.user_id, back_vbin16 m.app_id, back_map m.application_headers) refl

message_stands : (m : MessageProperties) → Alike message_table (message_fields m)
unfolding message_fields Alike
message_stands m = (stands_u64 m.content_length, (stands_uuid m.message_id, (stands_vbin16 m.correlation_id, (stands_reply_to m.reply_to, (stands_str8 m.content_type, (stands_str8 m.content_encoding, (stands_vbin16 m.user_id, (stands_vbin16 m.app_id, (stands_map m.application_headers, refl)))))))))

not_true : (b : Bool) → not b ≡ true → b ≡ false
not_true true e = sym e
not_true false e = refl

-- what follows class and code
content_again : (item : HeaderItem) → is_sound item ≡ true → struct_in (struct_content item) ≡ Ok item
unfolding delivery_in message_in
content_again (h.Delivery d) fine =
    ap (λ r. r >>= λ fields. Ok (h.Delivery (delivery_by fields))) (all_fields_again SizeDiffers delivery_table (delivery_fields d) (delivery_stands d, fine)) ∙ ap (λ p. Ok (h.Delivery p)) (delivery_back d)
content_again (h.Message m) fine =
    ap (λ r. r >>= λ fields. Ok (h.Message (message_by fields))) (all_fields_again SizeDiffers message_table (message_fields m) (message_stands m, fine)) ∙ ap (λ p. Ok (h.Message p)) (message_back m)
content_again (h.Other class code octets) fine =
    let two = (and_parts (nat_lt class 256 && nat_lt code 256) (not (is_delivery class code) && not (is_message class code)) fine).1 in
    let p = and_parts (not (is_delivery class code)) (not (is_message class code)) two in
    ap (λ b. if b then delivery_in octets else if is_message class code then message_in octets else Ok (h.Other class code octets)) (not_true (is_delivery class code) p.0)
    ∙ ap (λ b. if b then message_in octets else Ok (h.Other class code octets)) (not_true (is_message class code) p.1)

content_long : (item : HeaderItem) → nat_le 2 (length (struct_content item)) ≡ true
content_long (h.Delivery d) = le-leb 2 _ (omega arith)
content_long (h.Message m) = le-leb 2 _ (omega arith)
content_long (h.Other class code octets) = le-leb 2 _ (omega arith)

pub struct_again : (item : HeaderItem) (rest : List ℕ) → has_spelling item ≡ true → struct_at (struct_octets item ++ rest) ≡ Ok (item, rest)
unfolding struct_at
struct_again item rest fine =
    let p = and_parts (is_sound item) (fits Four (length (struct_content item))) fine in
    let all = struct_octets item ++ rest in
    ap (λ r. r >>= λ part. check (nat_le 2 (length part.0)) (flaw_at BadStruct all) >>= λ _. followed part.1 (struct_in part.0)) (sized_again Four (struct_content item) rest p.1)
    ∙ ap (λ b. check b (flaw_at BadStruct all) >>= λ _. followed rest (struct_in (struct_content item))) (content_long item)
    ∙ ap (followed rest) (content_again item p.0)

-- a step where octets are left
step : (most : ℕ) (front : List HeaderItem) (octets : List ℕ) → 0 < length octets → structs_at (suc most) front octets ≡ (struct_at octets >>= λ item. structs_at most (front ++ item.0 ∷ []) item.1)
unfolding structs_at
step most front [] some = absurd (omega (arith, some))
step most front (octet ∷ octets) some = refl

none : (most : ℕ) (front : List HeaderItem) → structs_at most front [] ≡ Ok front
unfolding structs_at
none zero front = refl
none (suc most) front = refl

structs_again : (most : ℕ) (front items : List HeaderItem) → list_all has_spelling items ≡ true → length (header_octets items) ≤ most → structs_at most front (header_octets items) ≡ Ok (front ++ items)
structs_again most front [] fine le = none most front ∙ ap Ok (sym (append-nil front))
structs_again most front (x ∷ xs) fine le =
    let p = and_parts (has_spelling x) (list_all has_spelling xs) fine in
    let split : header_octets (x ∷ xs) ≡ struct_octets x ++ header_octets xs = flat_map-cons struct_octets x xs in
    let some : 4 ≤ length (struct_octets x) = omega arith in
    let sizes : length (header_octets (x ∷ xs)) ≡ length (struct_octets x) + length (header_octets xs) = ap length split ∙ length-append (struct_octets x) (header_octets xs) in
    by most (omega (arith, le, sizes)) (omega (arith, le, sizes, some)) (omega (arith, some, sizes)) split p.0 (λ n le'. structs_again n (front ++ x ∷ []) xs p.1 le')
  where
    by : (n : ℕ) → length (struct_octets x) + length (header_octets xs) ≤ n → 4 ≤ n → 0 < length (header_octets (x ∷ xs)) → header_octets (x ∷ xs) ≡ struct_octets x ++ header_octets xs → has_spelling x ≡ true
        → ((n : ℕ) → length (header_octets xs) ≤ n → structs_at n (front ++ x ∷ []) (header_octets xs) ≡ Ok ((front ++ x ∷ []) ++ xs)) → structs_at n front (header_octets (x ∷ xs)) ≡ Ok (front ++ x ∷ xs)
    by zero le' four more split one all = absurd (omega (arith, four))
    by (suc n) le' four more split one all =
        let some : 4 ≤ length (struct_octets x) = omega arith in
        step n front (header_octets (x ∷ xs)) more
        ∙ ap (λ octets. struct_at octets >>= λ item. structs_at n (front ++ item.0 ∷ []) item.1) split
        ∙ ap (λ r. r >>= λ item. structs_at n (front ++ item.0 ∷ []) item.1) (struct_again x (header_octets xs) one)
        ∙ all n (omega (arith, le', some))
        ∙ ap Ok (append_assoc front (x ∷ []) xs)

pub header_again : (items : List HeaderItem) → list_all has_spelling items ≡ true → header_in (header_octets items) ≡ Ok items
header_again items fine = structs_again (length (header_octets items)) [] items fine (omega arith)
