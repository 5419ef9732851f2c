-- What is read at a kind has a spelling, and the octets spell it.
use Rattle.std.proofs.Common.{◌≡◌, ℕ, zero, suc, ◌+◌, ◌-◌, ◌/◌, ◌%◌, ◌<◌, ◌&&◌, Bool, true, false, eqb, leb, ltb, List, [], ◌∷◌, ◌++◌, length, Result, Ok, Err, refl, sym, ap, subst, ◌∙◌, append_assoc, arith}
use Rattle.std.proofs.lemmas.Bool.{and_from, ltb-true, lt-ltb, le-leb, eqb-true, eq-eqb, false≢true}
use Rattle.std.proofs.lemmas.List.{append-nil, length-append, nil_from_length}
use Rattle.std.proofs.lemmas.List.Concat.{flat_map-cons}
use Rattle.std.specs.Int.{w8, w16, w32, w64, to_be_bytes}
use Rattle.std.specs.List.{flat_map, list_all}
use Rattle.std.specs.Str.{is_utf8}
use Rattle.octet_reading.specs.declared.part.SizeWidth.TheVariants.{One, Two, Four}
use Rattle.octet_reading.specs.declared.why.Why.TheVariants.{BadRanges}
use Rattle.octet_reading.specs.declared.flaw.Flaw.{Flaw}
use Rattle.octet_reading.specs.Reading.{Taken, ◌>>=◌, check, flaw_at, number_at, part_at, sized_at, text_at, followed, IsBytes}
use Rattle.amqp_values.specs.declared.value.Range.{Range}
use Rattle.amqp_values.specs.declared.value.Value.{Value}
use Rattle.amqp_values.specs.Values.{value_at}
use Rattle.octet_reading.specs.Spelling.{sized, fits}
use Rattle.amqp_values.specs.Spelling.{told, spelling, is_valid}
use Rattle.octet_reading.proofs.Found.{Holds, holds_bind, holds_map, holds_check, NumberIs, octet_found, count_found, PartIs, part_found, SizedIs, sized_found, TextIs, text_found, pair_found, eight_found}
use Rattle.amqp_values.proofs.Spelled.{ValueIs, finds}
use Rattle.amqp_packed.specs.declared.field.FieldKind.{FieldKind}
use Rattle.amqp_packed.specs.declared.field.FieldKind.TheVariants as k
use Rattle.amqp_packed.specs.declared.field.Field.{Field}
use Rattle.amqp_packed.specs.declared.field.Field.TheVariants as f
use Rattle.amqp_packed.specs.Reading.{range_at, ranges_from, ranges_in, ranges_at, plain_at}
use Rattle.amqp_packed.specs.Spelling.{range_octets, ranges_octets, range_fine, coded, flag_of, is_fine, Stands}
use Rattle.amqp_packed.specs.Spelled.{Spelled}
use Rattle.amqp_packed.proofs.Sizes.{ranges_length}

-- ---- a field at its kind

pub record FieldIs (kind : FieldKind) (octets : List ℕ) (x : Field × List ℕ) : Type 0 where
  pub stands : Stands kind x.0
  pub fine : is_fine x.0 ≡ true
  pub there : flag_of x.0 ≡ 1
  pub text : List ℕ
  pub spelled : Spelled x.0 text
  pub parts : octets ≡ text ++ x.1
  pub rest : IsBytes x.1

-- ---- pairs of serials

record RangeIs (octets : List ℕ) (x : Range × List ℕ) : Type 0 where
  pub fine : range_fine x.0 ≡ true
  pub parts : octets ≡ range_octets x.0 ++ x.1
  pub rest : IsBytes x.1

range_found : (octets : List ℕ) → IsBytes octets → Holds (RangeIs octets) (range_at octets)
unfolding range_at
range_found octets bytes =
    let wide : ℕ → ℕ → Bool = λ lower upper. ltb ((upper + 4294967296 - lower) % 4294967296) 2147483648 in
    let last : ℕ → (ℕ × List ℕ) → Taken Range = λ lower upper. check (wide lower upper.0) (flaw_at BadRanges octets) >>= λ _. Ok (record { lower = lower; upper = upper.0 }, upper.1) in
    holds_bind (NumberIs w32 4294967296 octets) (RangeIs octets) (number_at w32 octets) (λ lower. number_at w32 lower.1 >>= last lower.0) (count_found octets bytes)
    (λ lower l. holds_bind (NumberIs w32 4294967296 lower.1) (RangeIs octets) (number_at w32 lower.1) (last lower.0) (count_found lower.1 l.rest)
    (λ upper u. holds_check (RangeIs octets) (wide lower.0 upper.0) (flaw_at BadRanges octets) (Ok (record { lower = lower.0; upper = upper.0 }, upper.1))
    (λ h. record {
      fine = and_from (ltb lower.0 4294967296) (ltb upper.0 4294967296 && wide lower.0 upper.0) (lt-ltb _ _ l.low) (and_from (ltb upper.0 4294967296) (wide lower.0 upper.0) (lt-ltb _ _ u.low) h);
      parts = l.parts ∙ ap (λ xs. to_be_bytes w32 lower.0 ++ xs) u.parts ∙ sym (append_assoc (to_be_bytes w32 lower.0) (to_be_bytes w32 upper.0) upper.1);
      rest = u.rest;
    })))

record RangesAre (front : List Range) (n : ℕ) (octets : List ℕ) (ranges : List Range) : Type 0 where
  pub more : List Range
  pub items : ranges ≡ front ++ more
  pub count : length more ≡ n
  pub fine : list_all range_fine more ≡ true
  pub after : List ℕ
  pub parts : octets ≡ flat_map range_octets more ++ after

ranges_found : (n : ℕ) (front : List Range) (octets : List ℕ) → IsBytes octets → Holds (RangesAre front n octets) (ranges_from n front octets)
unfolding ranges_from
ranges_found zero front octets bytes = record { more = []; items = sym (append-nil front); count = refl; fine = refl; after = octets; parts = refl }
ranges_found (suc n) front octets bytes =
    holds_bind (RangeIs octets) (RangesAre front (suc n) octets) (range_at octets) (λ range. ranges_from n (front ++ range.0 ∷ []) range.1) (range_found octets bytes)
    (λ range r. holds_map (RangesAre (front ++ range.0 ∷ []) n range.1) (RangesAre front (suc n) octets) (ranges_from n (front ++ range.0 ∷ []) range.1) (ranges_found n (front ++ range.0 ∷ []) range.1 r.rest)
    (λ ranges m. record {
      more = range.0 ∷ m.more;
      items = m.items ∙ append_assoc front (range.0 ∷ []) m.more;
      count = ap suc m.count;
      fine = and_from (range_fine range.0) (list_all range_fine m.more) r.fine m.fine;
      after = m.after;
      parts = r.parts ∙ ap (λ xs. range_octets range.0 ++ xs) m.parts ∙ sym (append_assoc (range_octets range.0) (flat_map range_octets m.more) m.after)
          ∙ ap (λ xs. xs ++ m.after) (sym (flat_map-cons range_octets range.0 m.more));
    }))

record RangesInside (octets : List ℕ) (x : Field) : Type 0 where
  pub ranges : List Range
  pub is : x ≡ f.Ranges ranges
  pub fine : list_all range_fine ranges ≡ true
  pub all : octets ≡ flat_map range_octets ranges

ranges_inside : (octets : List ℕ) → IsBytes octets → length octets % 8 ≡ 0 → Holds (RangesInside octets) (ranges_in octets)
unfolding ranges_in
ranges_inside octets bytes eight =
    holds_bind (RangesAre [] (length octets / 8) octets) (RangesInside octets) (ranges_from (length octets / 8) [] octets) (λ ranges. Ok (f.Ranges ranges)) (ranges_found (length octets / 8) [] octets bytes)
    (λ ranges m.
    let sizes : length octets ≡ length (flat_map range_octets m.more) + length m.after = ap length m.parts ∙ length-append (flat_map range_octets m.more) m.after in
    let none : m.after ≡ [] = nil_from_length m.after (omega (arith, eight, sizes, ranges_length m.more, m.count)) in
    record {
      ranges = m.more;
      is = ap f.Ranges m.items;
      fine = m.fine;
      all = m.parts ∙ ap (λ xs. flat_map range_octets m.more ++ xs) none ∙ append-nil (flat_map range_octets m.more);
    })

ranges_field : (octets : List ℕ) → IsBytes octets → Holds (FieldIs k.Ranges octets) (ranges_at octets)
unfolding ranges_at
ranges_field octets bytes =
    let goes : (List ℕ × List ℕ) → Taken Field = λ part. check (eqb (length part.0 % 8) 0) (flaw_at BadRanges octets) >>= λ _. followed part.1 (ranges_in part.0) in
    holds_bind (SizedIs Two octets) (FieldIs k.Ranges octets) (sized_at Two octets) goes (sized_found Two octets bytes)
    (λ part s. holds_check (FieldIs k.Ranges octets) (eqb (length part.0 % 8) 0) (flaw_at BadRanges octets) (followed part.1 (ranges_in part.0))
    (λ eight. by part s (ranges_in part.0) (ranges_inside part.0 s.inside (eqb-true (length part.0 % 8) 0 eight))))
  where
    by : (part : List ℕ × List ℕ) → SizedIs Two octets part → (r : Result Field Flaw) → Holds (RangesInside part.0) r → Holds (FieldIs k.Ranges octets) (followed part.1 r)
    by part s (Err flaw) i = tt
    by part s (Ok x) i =
        let few : length i.ranges < 8192 = omega (arith, ltb-true (length part.0) 65536 s.fit, ap length i.all, ranges_length i.ranges) in
        subst (λ y. FieldIs k.Ranges octets (y, part.1)) (sym i.is) (record {
          stands = refl;
          fine = and_from (ltb (length i.ranges) 8192) (list_all range_fine i.ranges) (lt-ltb _ _ few) i.fine;
          there = refl;
          text = ranges_octets i.ranges;
          spelled = refl;
          parts = s.parts ∙ ap (λ xs. sized Two xs ++ part.1) i.all;
          rest = s.rest;
        })

coded_found : (code : ℕ) (octets : List ℕ) (x : Value × List ℕ) → ValueIs 16 code octets x → coded code x.0 ≡ true
coded_found code octets x v =
    and_from (eqb (told x.0).code code) (is_valid x.0) (eq-eqb (told x.0).code code v.code_is) (and_from (told x.0).fine (leb (told x.0).levels 16) v.fine (le-leb (told x.0).levels 16 v.levels))

-- ---- each kind with no fields in it

unfoldable pub is_plain : FieldKind → Bool
is_plain k.Xid = false
is_plain k.ReplyTo = false
is_plain k.Bit = true
is_plain k.U8 = true
is_plain k.U16 = true
is_plain k.U32 = true
is_plain k.U64 = true
is_plain k.Str8 = true
is_plain k.Str16 = true
is_plain k.Vbin8 = true
is_plain k.Vbin16 = true
is_plain k.Vbin32 = true
is_plain k.Uuid = true
is_plain k.Datetime = true
is_plain k.Map = true
is_plain k.Array = true
is_plain k.Ranges = true
is_plain k.Struct32 = true

pub plain_found : (kind : FieldKind) → is_plain kind ≡ true → (octets : List ℕ) → IsBytes octets → Holds (FieldIs kind octets) (plain_at kind octets)
unfolding is_plain plain_at
plain_found k.Xid h octets bytes = absurd (false≢true h)
plain_found k.ReplyTo h octets bytes = absurd (false≢true h)
plain_found k.Bit h octets bytes = record { stands = refl; fine = refl; there = refl; text = []; spelled = refl; parts = refl; rest = bytes }
plain_found k.Ranges h octets bytes = ranges_field octets bytes
plain_found k.U8 h octets bytes =
    holds_bind (NumberIs w8 256 octets) (FieldIs k.U8 octets) (number_at w8 octets) (λ y. Ok (f.U8 y.0, y.1)) (octet_found octets bytes) (λ y p. record { stands = refl; fine = lt-ltb _ _ p.low; there = refl; text = to_be_bytes w8 y.0; spelled = refl; parts = p.parts; rest = p.rest })
plain_found k.U16 h octets bytes =
    holds_bind (NumberIs w16 65536 octets) (FieldIs k.U16 octets) (number_at w16 octets) (λ y. Ok (f.U16 y.0, y.1)) (pair_found octets bytes) (λ y p. record { stands = refl; fine = lt-ltb _ _ p.low; there = refl; text = to_be_bytes w16 y.0; spelled = refl; parts = p.parts; rest = p.rest })
plain_found k.U32 h octets bytes =
    holds_bind (NumberIs w32 4294967296 octets) (FieldIs k.U32 octets) (number_at w32 octets) (λ y. Ok (f.U32 y.0, y.1)) (count_found octets bytes) (λ y p. record { stands = refl; fine = lt-ltb _ _ p.low; there = refl; text = to_be_bytes w32 y.0; spelled = refl; parts = p.parts; rest = p.rest })
plain_found k.U64 h octets bytes =
    holds_bind (NumberIs w64 18446744073709551616 octets) (FieldIs k.U64 octets) (number_at w64 octets) (λ y. Ok (f.U64 y.0, y.1)) (eight_found octets bytes) (λ y p. record { stands = refl; fine = lt-ltb _ _ p.low; there = refl; text = to_be_bytes w64 y.0; spelled = refl; parts = p.parts; rest = p.rest })
plain_found k.Datetime h octets bytes =
    holds_bind (NumberIs w64 18446744073709551616 octets) (FieldIs k.Datetime octets) (number_at w64 octets) (λ y. Ok (f.Datetime y.0, y.1)) (eight_found octets bytes) (λ y p. record { stands = refl; fine = lt-ltb _ _ p.low; there = refl; text = to_be_bytes w64 y.0; spelled = refl; parts = p.parts; rest = p.rest })
plain_found k.Str8 h octets bytes =
    holds_bind (TextIs One octets) (FieldIs k.Str8 octets) (text_at One octets) (λ y. Ok (f.Str8 y.0, y.1)) (text_found One octets bytes) (λ y p. record { stands = refl; fine = and_from (fits One (length y.0)) (is_utf8 y.0) p.fit p.utf8; there = refl; text = sized One y.0; spelled = refl; parts = p.parts; rest = p.rest })
plain_found k.Str16 h octets bytes =
    holds_bind (TextIs Two octets) (FieldIs k.Str16 octets) (text_at Two octets) (λ y. Ok (f.Str16 y.0, y.1)) (text_found Two octets bytes) (λ y p. record { stands = refl; fine = and_from (fits Two (length y.0)) (is_utf8 y.0) p.fit p.utf8; there = refl; text = sized Two y.0; spelled = refl; parts = p.parts; rest = p.rest })
plain_found k.Vbin8 h octets bytes =
    holds_bind (SizedIs One octets) (FieldIs k.Vbin8 octets) (sized_at One octets) (λ y. Ok (f.Vbin8 y.0, y.1)) (sized_found One octets bytes) (λ y p. record { stands = refl; fine = p.fit; there = refl; text = sized One y.0; spelled = refl; parts = p.parts; rest = p.rest })
plain_found k.Vbin16 h octets bytes =
    holds_bind (SizedIs Two octets) (FieldIs k.Vbin16 octets) (sized_at Two octets) (λ y. Ok (f.Vbin16 y.0, y.1)) (sized_found Two octets bytes) (λ y p. record { stands = refl; fine = p.fit; there = refl; text = sized Two y.0; spelled = refl; parts = p.parts; rest = p.rest })
plain_found k.Vbin32 h octets bytes =
    holds_bind (SizedIs Four octets) (FieldIs k.Vbin32 octets) (sized_at Four octets) (λ y. Ok (f.Vbin32 y.0, y.1)) (sized_found Four octets bytes) (λ y p. record { stands = refl; fine = p.fit; there = refl; text = sized Four y.0; spelled = refl; parts = p.parts; rest = p.rest })
plain_found k.Struct32 h octets bytes =
    holds_bind (SizedIs Four octets) (FieldIs k.Struct32 octets) (sized_at Four octets) (λ y. Ok (f.Struct32 y.0, y.1)) (sized_found Four octets bytes) (λ y p. record { stands = refl; fine = p.fit; there = refl; text = sized Four y.0; spelled = refl; parts = p.parts; rest = p.rest })
plain_found k.Uuid h octets bytes =
    holds_bind (PartIs octets 16) (FieldIs k.Uuid octets) (part_at octets octets 16) (λ y. Ok (f.Uuid y.0, y.1)) (part_found octets octets 16 bytes) (λ y p. record { stands = refl; fine = eq-eqb (length y.0) 16 p.long; there = refl; text = y.0; spelled = refl; parts = p.parts; rest = p.rest })
plain_found k.Map h octets bytes =
    holds_bind (ValueIs 16 168 octets) (FieldIs k.Map octets) (value_at 16 168 octets) (λ y. Ok (f.Map y.0, y.1)) (finds 16 168 octets bytes) (λ y p. record { stands = refl; fine = coded_found 168 octets y p; there = refl; text = spelling y.0; spelled = refl; parts = p.parts; rest = p.rest })
plain_found k.Array h octets bytes =
    holds_bind (ValueIs 16 170 octets) (FieldIs k.Array octets) (value_at 16 170 octets) (λ y. Ok (f.Array y.0, y.1)) (finds 16 170 octets bytes) (λ y p. record { stands = refl; fine = coded_found 170 octets y p; there = refl; text = spelling y.0; spelled = refl; parts = p.parts; rest = p.rest })
