-- What is read is spelled so.
use Rattle.std.proofs.Common.{◌≡◌, if◌then◌else◌, ℕ, zero, suc, ◌+◌, ◌<◌, ◌≤◌, ◌&&◌, not, Bool, true, false, eqb, List, [], ◌∷◌, ◌++◌, length, drop, Result, Ok, Err, refl, sym, ap, subst, ◌∙◌, append_assoc, arith}
use Rattle.std.specs.Prelude.{nat_le, nat_lt, slice_index}
use Rattle.std.specs.List.{list_all, flat_map}
use Rattle.std.proofs.lemmas.Bool.{and_parts, and_from, eqb-true, leb-true, lt-ltb}
use Rattle.std.proofs.lemmas.List.{append-nil, length-append}
use Rattle.std.proofs.lemmas.List.Concat.{flat_map-cons}
use Rattle.octet_reading.specs.declared.why.Why.TheVariants.{BadStruct, SizeDiffers}
use Rattle.octet_reading.specs.declared.flaw.Flaw.{Flaw}
use Rattle.octet_reading.specs.declared.part.SizeWidth.TheVariants.{Four}
use Rattle.octet_reading.specs.Reading.{◌>>=◌, check, flaw_at, sized_at, followed}
use Rattle.octet_reading.specs.Spelling.{sized}
use Rattle.octet_reading.specs.Reading.{IsBytes}
use Rattle.octet_reading.proofs.Found.{IsBytes-drop, Holds, holds_bind, holds_map, holds_check, SizedIs, sized_found}
use Rattle.amqp_terms.specs.declared.content.HeaderItem.{HeaderItem}
use Rattle.amqp_terms.specs.declared.content.HeaderItem.TheVariants as h
use Rattle.amqp_packed.specs.declared.field.Field.{Field}
use Rattle.amqp_packed.specs.Reading.{all_fields_at}
use Rattle.amqp_packed.specs.Spelling.{is_fine}
use Rattle.amqp_packed.specs.Spelled.{Packs}
use Rattle.amqp_packed.proofs.Structs.{AllIs, all_fields_found}
use Rattle.amqp_packed.proofs.Rounds.{rounds, rounds_stay}
use Rattle.amqp_structs.specs.Header.{delivery_table, delivery_fields, delivery_by, message_table, message_fields, message_by, delivery_in, message_in, is_delivery, is_message, coded_in, struct_in, struct_at, structs_at, header_in, is_sound}
use Rattle.amqp_structs.specs.Spelled.{ContentSpelled, StructSpelled, EachStruct, HeaderSpelled}

delivery_rounds : (fields : List Field) → delivery_fields (delivery_by fields) ≡ rounds delivery_table fields
unfolding delivery_by delivery_fields
delivery_rounds fields = refl

message_rounds : (fields : List Field) → message_fields (message_by fields) ≡ rounds message_table fields
unfolding message_by message_fields
message_rounds fields = refl

-- what a struct's content was read as
record ContentIs (class code : ℕ) (octets : List ℕ) (item : HeaderItem) : Type 0 where
  pub sound : is_sound item ≡ true
  pub spelled : ContentSpelled item (class ∷ code ∷ octets)

delivery_found : (octets : List ℕ) → IsBytes octets → Holds (ContentIs 4 1 octets) (delivery_in octets)
unfolding delivery_in
delivery_found octets bytes =
    holds_bind (AllIs delivery_table octets) (ContentIs 4 1 octets) (all_fields_at SizeDiffers delivery_table octets) (λ fields. Ok (h.Delivery (delivery_by fields))) (all_fields_found SizeDiffers delivery_table octets bytes)
    (λ fields all.
    let same : fields ≡ delivery_fields (delivery_by fields) = sym (delivery_rounds fields ∙ rounds_stay delivery_table fields all.fit.0) in
    record {
      sound = subst (λ fs. list_all is_fine fs ≡ true) same all.fit.1;
      spelled = record { text = octets; is = refl; packs = subst (λ fs. Packs fs octets []) same all.packs };
    })

message_found : (octets : List ℕ) → IsBytes octets → Holds (ContentIs 4 3 octets) (message_in octets)
unfolding message_in
message_found octets bytes =
    holds_bind (AllIs message_table octets) (ContentIs 4 3 octets) (all_fields_at SizeDiffers message_table octets) (λ fields. Ok (h.Message (message_by fields))) (all_fields_found SizeDiffers message_table octets bytes)
    (λ fields all.
    let same : fields ≡ message_fields (message_by fields) = sym (message_rounds fields ∙ rounds_stay message_table fields all.fit.0) in
    record {
      sound = subst (λ fs. list_all is_fine fs ≡ true) same all.fit.1;
      spelled = record { text = octets; is = refl; packs = subst (λ fs. Packs fs octets []) same all.packs };
    })

coded_found : (class code : ℕ) (octets : List ℕ) → class < 256 → code < 256 → IsBytes octets → Holds (ContentIs class code octets) (coded_in class code octets)
coded_found class code octets c k bytes = by (is_delivery class code) (is_message class code) refl refl
  where
    by : (d m : Bool) → is_delivery class code ≡ d → is_message class code ≡ m
        → Holds (ContentIs class code octets) (if d then delivery_in octets else if m then message_in octets else Ok (h.Other class code octets))
    by true m e e' =
        let p = and_parts (eqb class 4) (eqb code 1) e in
        subst (λ n. Holds (ContentIs n code octets) (delivery_in octets)) (sym (eqb-true class 4 p.0))
        (subst (λ n. Holds (ContentIs 4 n octets) (delivery_in octets)) (sym (eqb-true code 1 p.1)) (delivery_found octets bytes))
    by false true e e' =
        let p = and_parts (eqb class 4) (eqb code 3) e' in
        subst (λ n. Holds (ContentIs n code octets) (message_in octets)) (sym (eqb-true class 4 p.0))
        (subst (λ n. Holds (ContentIs 4 n octets) (message_in octets)) (sym (eqb-true code 3 p.1)) (message_found octets bytes))
    by false false e e' = record {
      sound = and_from (nat_lt class 256 && nat_lt code 256) (not (is_delivery class code) && not (is_message class code)) (and_from (nat_lt class 256) (nat_lt code 256) (lt-ltb _ _ c) (lt-ltb _ _ k))
          (and_from (not (is_delivery class code)) (not (is_message class code)) (ap not e) (ap not e'));
      spelled = refl;
    }

-- the first two octets stand apart
two_first : (octets : List ℕ) → 2 ≤ length octets → octets ≡ slice_index octets 0 ∷ slice_index octets 1 ∷ drop 2 octets
two_first [] le = absurd (omega (arith, le))
two_first (x ∷ []) le = absurd (omega (arith, le))
two_first (x ∷ y ∷ octets) le = refl

record StructIs (octets : List ℕ) (x : HeaderItem × List ℕ) : Type 0 where
  pub sound : is_sound x.0 ≡ true
  pub text : List ℕ
  pub spelled : StructSpelled x.0 text
  pub parts : octets ≡ text ++ x.1
  pub some : 4 ≤ length text
  pub rest : IsBytes x.1

struct_found : (octets : List ℕ) → IsBytes octets → Holds (StructIs octets) (struct_at octets)
unfolding struct_at
struct_found octets bytes =
    holds_bind (SizedIs Four octets) (StructIs octets) (sized_at Four octets) (λ part. check (nat_le 2 (length part.0)) (flaw_at BadStruct octets) >>= λ _. followed part.1 (struct_in part.0)) (sized_found Four octets bytes)
    (λ part s. holds_check (StructIs octets) (nat_le 2 (length part.0)) (flaw_at BadStruct octets) (followed part.1 (struct_in part.0))
    (λ two. by part s (leb-true 2 (length part.0) two) (struct_in part.0)
    (coded_found (slice_index part.0 0) (slice_index part.0 1) (drop 2 part.0) (s.inside 0) (s.inside 1) (IsBytes-drop 2 part.0 s.inside))))
  where
    by : (part : List ℕ × List ℕ) → SizedIs Four octets part → 2 ≤ length part.0 → (r : Result HeaderItem Flaw) → Holds (ContentIs (slice_index part.0 0) (slice_index part.0 1) (drop 2 part.0)) r → Holds (StructIs octets) (followed part.1 r)
    by part s le (Err flaw) found = tt
    by part s le (Ok item) found = record {
      sound = found.sound;
      text = sized Four part.0;
      spelled = record { content = part.0; spelled = subst (ContentSpelled item) (sym (two_first part.0 le)) found.spelled; is = refl };
      parts = s.parts;
      some = omega arith;
      rest = s.rest;
    }

record StructsAre (front : List HeaderItem) (octets : List ℕ) (items : List HeaderItem) : Type 0 where
  pub more : List HeaderItem
  pub items_are : items ≡ front ++ more
  pub sound : list_all is_sound more ≡ true
  pub texts : List (List ℕ)
  pub each : EachStruct more texts
  pub parts : octets ≡ flat_map (λ text. text) texts

structs_found : (most : ℕ) (front : List HeaderItem) (octets : List ℕ) → IsBytes octets → length octets ≤ most → Holds (StructsAre front octets) (structs_at most front octets)
unfolding structs_at EachStruct
structs_found zero front [] bytes le = record { more = []; items_are = sym (append-nil front); sound = refl; texts = []; each = refl; parts = refl }
structs_found zero front (octet ∷ octets) bytes le = absurd (omega (arith, le))
structs_found (suc most) front [] bytes le = record { more = []; items_are = sym (append-nil front); sound = refl; texts = []; each = refl; parts = refl }
structs_found (suc most) front (octet ∷ octets) bytes le =
    let all = octet ∷ octets in
    holds_bind (StructIs all) (StructsAre front all) (struct_at all) (λ item. structs_at most (front ++ item.0 ∷ []) item.1) (struct_found all bytes)
    (λ item s.
    let sizes : length all ≡ length s.text + length item.1 = ap length s.parts ∙ length-append s.text item.1 in
    holds_map (StructsAre (front ++ item.0 ∷ []) item.1) (StructsAre front all) (structs_at most (front ++ item.0 ∷ []) item.1) (structs_found most (front ++ item.0 ∷ []) item.1 s.rest (omega (arith, le, sizes, s.some)))
    (λ items m. record {
      more = item.0 ∷ m.more;
      items_are = m.items_are ∙ append_assoc front (item.0 ∷ []) m.more;
      sound = and_from (is_sound item.0) (list_all is_sound m.more) s.sound m.sound;
      texts = s.text ∷ m.texts;
      each = (s.spelled, m.each);
      parts = s.parts ∙ ap (λ zs. s.text ++ zs) m.parts ∙ sym (flat_map-cons (λ text. text) s.text m.texts);
    }))

-- all structs of a segment
pub record HeaderIs (octets : List ℕ) (items : List HeaderItem) : Type 0 where
  pub sound : list_all is_sound items ≡ true
  pub spelled : HeaderSpelled items octets

pub header_found : (octets : List ℕ) → IsBytes octets → Holds (HeaderIs octets) (header_in octets)
header_found octets bytes =
    holds_map (StructsAre [] octets) (HeaderIs octets) (header_in octets) (structs_found (length octets) [] octets bytes (omega arith))
    (λ items m. subst (HeaderIs octets) (sym m.items_are) (record { sound = m.sound; spelled = record { texts = m.texts; each = m.each; parts = m.parts } }))
