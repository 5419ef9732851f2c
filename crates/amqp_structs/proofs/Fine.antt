-- What was read of few enough octets has a size that can be counted when it is written.
use Rattle.std.proofs.Common.{◌≡◌, ◌+◌, ◌*◌, ◌<◌, ◌≤◌, ◌&&◌, ℕ, true, List, [], ◌∷◌, ◌++◌, length, flat_map, Result, Ok, Err, IfOk, refl, ap, subst, ◌∙◌, arith}
use Rattle.std.specs.List.{list_all}
use Rattle.std.proofs.lemmas.Bool.{and_parts, and_from, lt-ltb}
use Rattle.std.proofs.lemmas.List.{length-append}
use Rattle.std.proofs.lemmas.List.Concat.{flat_map-cons}
use Rattle.octet_reading.specs.declared.part.SizeWidth.TheVariants.{Four}
use Rattle.octet_reading.specs.Spelling.{sized, fits}
use Rattle.octet_reading.specs.Reading.{IsBytes}
use Rattle.amqp_terms.specs.declared.content.DeliveryProperties.{DeliveryProperties}
use Rattle.amqp_terms.specs.declared.content.MessageProperties.{MessageProperties}
use Rattle.amqp_terms.specs.declared.content.HeaderItem.{HeaderItem}
use Rattle.amqp_terms.specs.declared.content.HeaderItem.TheVariants as h
use Rattle.amqp_packed.proofs.Near.{packed_near}
use Rattle.amqp_structs.specs.declared.error.HeaderError.{HeaderError}
use Rattle.amqp_structs.specs.Header.{delivery_fields, message_fields, struct_content, is_sound, has_spelling, read_in, Answers}
use Rattle.amqp_structs.specs.Spelled.{ContentSpelled, StructSpelled, EachStruct, HeaderSpelled}
use Rattle.amqp_structs.proofs.Public.{found_in}

twelve : (d : DeliveryProperties) → length (delivery_fields d) ≡ 12
unfolding delivery_fields
twelve d = refl

nine : (m : MessageProperties) → length (message_fields m) ≡ 9
unfolding message_fields
nine m = refl

content_near : (item : HeaderItem) (content : List ℕ) → ContentSpelled item content → length (struct_content item) ≤ length content + 72
content_near (h.Delivery d) content s = omega (arith, packed_near (delivery_fields d) s.text s.packs, twelve d, ap length s.is)
content_near (h.Message m) content s = omega (arith, packed_near (message_fields m) s.text s.packs, nine m, ap length s.is)
content_near (h.Other class code octets) content s = omega (arith, ap length s)

struct_fine : (item : HeaderItem) (text : List ℕ) → is_sound item ≡ true → StructSpelled item text → length text < 2147483648 → has_spelling item ≡ true
struct_fine item text sound s short =
    and_from (is_sound item) (fits Four (length (struct_content item))) sound (lt-ltb _ _ (omega (arith, content_near item s.content s.spelled, ap length s.is, short)))

each_fine : (items : List HeaderItem) (texts : List (List ℕ)) → list_all is_sound items ≡ true → EachStruct items texts → length (flat_map (λ text. text) texts) < 2147483648 → list_all has_spelling items ≡ true
unfolding EachStruct
each_fine [] texts sound each short = refl
each_fine (x ∷ xs) [] sound each short = absurd each
each_fine (x ∷ xs) (text ∷ texts) sound (one, more) short =
    let sizes : length (flat_map (λ t. t) (text ∷ texts)) ≡ length text + length (flat_map (λ t. t) texts) = ap length (flat_map-cons (λ t. t) text texts) ∙ length-append text (flat_map (λ t. t) texts) in
    let p = and_parts (is_sound x) (list_all is_sound xs) sound in
    and_from (has_spelling x) (list_all has_spelling xs) (struct_fine x text p.0 one (omega (arith, short, sizes))) (each_fine xs texts p.1 more (omega (arith, short, sizes)))

pub header_fine : (items : List HeaderItem) (octets : List ℕ) → list_all is_sound items ≡ true → HeaderSpelled items octets → length octets < 2147483648 → list_all has_spelling items ≡ true
header_fine items octets sound s short = each_fine items s.texts sound s.each (subst (λ os. length os < 2147483648) s.parts short)

pub fine_in : (octets : List ℕ) (r : Result (List HeaderItem) HeaderError) → IsBytes octets → Answers r (read_in octets) → length octets < 2147483648 → IfOk r (λ items. list_all has_spelling items ≡ true)
fine_in octets (Err error) bytes e short = tt
fine_in octets (Ok items) bytes e short = let f = found_in octets (Ok items) bytes e in header_fine items octets f.0 f.1 short
