-- Fields that were written are read again, whatever follows.
use Rattle.std.proofs.Common.{◌≡◌, if◌then◌else◌, ℕ, suc, ◌+◌, ◌-◌, ◌*◌, ◌/◌, ◌%◌, ◌^◌, ◌<◌, ◌≤◌, ◌&&◌, true, eqb, leb, ltb, List, [], ◌∷◌, ◌++◌, length, drop, Result, Ok, refl, sym, ap, subst, ◌∙◌, ◌⊎◌, append_assoc, arith, inl, inr}
use Rattle.std.specs.Prelude.{min, max}
use Rattle.std.proofs.Math.Pow.{pow_mono}
use Rattle.std.proofs.lemmas.Nat.{pow-add}
use Rattle.std.proofs.lemmas.Bool.{and_parts, ltb-true, leb-true, lt-ltb, eqb-true, eq-eqb, cases_lt, ne_eqb}
use Rattle.std.proofs.lemmas.List.{append-nil, length-append, length-drop}
use Rattle.std.proofs.lemmas.List.Concat.{flat_map-cons}
use Rattle.std.specs.Int.{w8, w16, w32, w64, to_be_bytes}
use Rattle.std.specs.List.{flat_map, list_all}
use Rattle.std.specs.Str.{is_utf8}
use Rattle.octet_reading.specs.declared.part.SizeWidth.TheVariants.{One, Two, Four}
use Rattle.octet_reading.specs.declared.why.Why.{Why}
use Rattle.octet_reading.specs.declared.why.Why.TheVariants.{ReservedFlag, BadRanges, BadStruct}
use Rattle.octet_reading.specs.declared.flaw.Flaw.{Flaw}
use Rattle.octet_reading.specs.Reading.{Taken, ◌>>=◌, check, flaw_at, number_at, part_at, followed, ended}
use Rattle.amqp_values.specs.declared.value.Range.{Range}
use Rattle.amqp_values.specs.declared.value.Value.{Value}
use Rattle.amqp_values.specs.declared.value.Xid.{Xid}
use Rattle.amqp_values.specs.declared.value.ReplyTo.{ReplyTo}
use Rattle.amqp_values.specs.Values.{value_at}
use Rattle.octet_reading.specs.Spelling.{sized, fits}
use Rattle.amqp_values.specs.Spelling.{told, spelling, is_valid}
use Rattle.octet_reading.proofs.Again.{wide8, wide16, wide32, wide64, number_again, part_again, sized_again, text_again}
use Rattle.amqp_values.proofs.ReadBack.{reads}
use Rattle.amqp_packed.specs.declared.field.FieldKind.{FieldKind}
use Rattle.amqp_packed.specs.declared.field.FieldKind.TheVariants as k
use Rattle.amqp_packed.specs.declared.field.Field.{Field}
use Rattle.amqp_packed.specs.declared.field.Field.TheVariants as f
use Rattle.amqp_packed.specs.Reading.{Reader, flags_at, slot_at, slots_at, fields_at, range_at, ranges_from, ranges_in, ranges_at, plain_at, field_at, xid_in, xid_at, reply_in, reply_at, xid_of, reply_of, index_of, read_at, all_fields_at}
use Rattle.amqp_packed.specs.Spelling.{range_octets, ranges_octets, range_fine, text_fine, coded, xid_content, reply_content, field_octets, flag_of, flags_of, packed, is_fine, Stands, Alike, AreOf, bits}
use Rattle.amqp_packed.proofs.Sizes.{ranges_length, xid_length, reply_length}

-- ---- flags

abbrev pub IsThere : Field → Type 0
IsThere x = flag_of x ≡ 1

pub there_or_not : (x : Field) → (flag_of x ≡ 1) ⊎ (x ≡ f.Absent)
there_or_not f.Absent = inr refl
there_or_not f.Bit = inl refl
there_or_not (f.U8 n) = inl refl
there_or_not (f.U16 n) = inl refl
there_or_not (f.U32 n) = inl refl
there_or_not (f.U64 n) = inl refl
there_or_not (f.Str8 t) = inl refl
there_or_not (f.Str16 t) = inl refl
there_or_not (f.Vbin8 o) = inl refl
there_or_not (f.Vbin16 o) = inl refl
there_or_not (f.Vbin32 o) = inl refl
there_or_not (f.Uuid o) = inl refl
there_or_not (f.Datetime n) = inl refl
there_or_not (f.Map v) = inl refl
there_or_not (f.Array v) = inl refl
there_or_not (f.Ranges r) = inl refl
there_or_not (f.Struct32 o) = inl refl
there_or_not (f.Xid x) = inl refl
there_or_not (f.ReplyTo r) = inl refl

flag_small : (x : Field) → flag_of x ≤ 1
flag_small x = elim (there_or_not x) [
  | inl e ↦ omega (arith, e)
  | inr e ↦ subst (λ y. flag_of y ≤ 1) (sym e) (omega arith)
]

pub flags_below : (fields : List Field) → flags_of fields < 2 ^ length fields
unfolding bits
flags_below [] = omega arith
flags_below (x ∷ xs) =
    let one_more : length (x ∷ xs) ≡ 1 + length xs = omega arith in
    let twice : 2 ^ length (x ∷ xs) ≡ 2 * 2 ^ length xs = ap (λ n. 2 ^ n) one_more ∙ pow-add 2 1 (length xs) in
    omega (arith, flag_small x, flags_below xs, twice)

record FlagsFit (n flags : ℕ) : Type 0 where
  pub low : flags % 256 < 2 ^ min n 8
  pub high : flags / 256 < 2 ^ (n - 8)

flags_fit : (n flags : ℕ) → flags < 2 ^ n → FlagsFit n flags
flags_fit n flags lt =
    elim (cases_lt 8 n) [
      | inl more ↦ by_two more
      | inr few ↦ by_one few
    ]
  where
    by_two : 8 < n → FlagsFit n flags
    by_two more =
        let parts : 2 ^ n ≡ 2 ^ (n - 8) * 256 = ap (λ m. 2 ^ m) (omega (arith, more)) ∙ pow-add 2 (n - 8) 8 in
        let eight : min n 8 ≡ 8 = omega (arith, more) in
        record {
          low = subst (λ m. flags % 256 < 2 ^ m) (sym eight) (omega arith);
          high = omega (arith, lt, parts);
        }

    by_one : n ≤ 8 → FlagsFit n flags
    by_one few =
        let most : 2 ^ n ≤ 2 ^ 8 = pow_mono few in
        let all : min n 8 ≡ n = omega (arith, few) in
        let none : n - 8 ≡ 0 = omega (arith, few) in
        record {
          low = subst (λ m. flags % 256 < 2 ^ m) (sym all) (omega (arith, lt));
          high = subst (λ m. flags / 256 < 2 ^ m) (sym none) (omega (arith, lt, most));
        }

pub flags_again : (n flags : ℕ) (rest : List ℕ) → flags < 2 ^ n → flags_at n (flags % 256 ∷ flags / 256 ∷ rest) ≡ Ok (flags, rest)
unfolding flags_at
flags_again n flags rest lt =
    let fit = flags_fit n flags lt in
    let all = flags % 256 ∷ flags / 256 ∷ rest in
    let value : flags % 256 + 256 * (flags / 256) ≡ flags = omega arith in
    ap (λ r. r >>= λ part. check (ltb (flags % 256) (2 ^ min n 8)) (flaw_at ReservedFlag all) >>= λ _. check (ltb (flags / 256) (2 ^ (n - 8))) (flaw_at ReservedFlag (drop 1 all))
    >>= λ _. Ok (flags % 256 + 256 * (flags / 256), part.1)) (part_again all (flags % 256 ∷ flags / 256 ∷ []) rest)
    ∙ ap (λ b. check b (flaw_at ReservedFlag all) >>= λ _. check (ltb (flags / 256) (2 ^ (n - 8))) (flaw_at ReservedFlag (drop 1 all)) >>= λ _. Ok (flags % 256 + 256 * (flags / 256), rest)) (lt-ltb _ _ fit.low)
    ∙ ap (λ b. check b (flaw_at ReservedFlag (drop 1 all)) >>= λ _. Ok (flags % 256 + 256 * (flags / 256), rest)) (lt-ltb _ _ fit.high)
    ∙ ap (λ m. Ok (m, rest)) value

-- ---- fields by a reader of each

-- where a field is there, it is read again at its kind
abbrev pub Agains : Reader → List FieldKind → List Field → Type 0
Agains one [] fields = length fields ≡ 0
Agains one (kind ∷ table) [] = ⊥
Agains one (kind ∷ table) (x ∷ xs) = (flag_of x ≡ 1 → (rest : List ℕ) → one kind (field_octets x ++ rest) ≡ Ok (x, rest)) × Agains one table xs

slot_again : (one : Reader) (kind : FieldKind) (x : Field) (more : ℕ) (rest : List ℕ) → (flag_of x ≡ 1 → (rest : List ℕ) → one kind (field_octets x ++ rest) ≡ Ok (x, rest))
    → slot_at one kind (flag_of x + 2 * more) (field_octets x ++ rest) ≡ Ok (x, rest)
unfolding slot_at
slot_again one kind x more rest again = elim (there_or_not x) [
  | inl e ↦ ap (λ b. if b then one kind (field_octets x ++ rest) else Ok (f.Absent, field_octets x ++ rest)) (eq-eqb ((flag_of x + 2 * more) % 2) 1 (omega (arith, e))) ∙ again e rest
  | inr e ↦ subst (λ y. (if eqb ((flag_of y + 2 * more) % 2) 1 then one kind (field_octets y ++ rest) else Ok (f.Absent, field_octets y ++ rest)) ≡ Ok (y, rest)) (sym e)
      (ap (λ b. if b then one kind rest else Ok (f.Absent, rest)) (ne_eqb ((0 + 2 * more) % 2) 1 (λ odd. omega (arith, odd))))
]

slots_again : (one : Reader) (table : List FieldKind) (fields front : List Field) (rest : List ℕ) → Agains one table fields
    → slots_at one table (flags_of fields) front (flat_map field_octets fields ++ rest) ≡ Ok (front ++ fields, rest)
unfolding slots_at bits
slots_again one [] [] front rest h = ap (λ xs. Ok (xs, rest)) (sym (append-nil front))
slots_again one [] (x ∷ xs) front rest h = absurd (omega (arith, h))
slots_again one (kind ∷ table) [] front rest h = absurd h
slots_again one (kind ∷ table) (x ∷ xs) front rest (again, more) =
    let after = flat_map field_octets xs ++ rest in
    let flags = flag_of x + 2 * flags_of xs in
    let split : flat_map field_octets (x ∷ xs) ++ rest ≡ field_octets x ++ after = ap (λ ys. ys ++ rest) (flat_map-cons field_octets x xs) ∙ append_assoc (field_octets x) (flat_map field_octets xs) rest in
    let half : flags / 2 ≡ flags_of xs = omega (arith, flag_small x) in
    ap (λ ys. slot_at one kind flags ys >>= λ y. slots_at one table (flags / 2) (front ++ y.0 ∷ []) y.1) split
    ∙ ap (λ r. r >>= λ y. slots_at one table (flags / 2) (front ++ y.0 ∷ []) y.1) (slot_again one kind x (flags_of xs) after again)
    ∙ ap (λ m. slots_at one table m (front ++ x ∷ []) after) half
    ∙ slots_again one table xs (front ++ x ∷ []) rest more
    ∙ ap (λ ys. Ok (ys, rest)) (append_assoc front (x ∷ []) xs)

agains_length : (one : Reader) (table : List FieldKind) (fields : List Field) → Agains one table fields → length fields ≡ length table
agains_length one [] fields h = h
agains_length one (kind ∷ table) [] h = absurd h
agains_length one (kind ∷ table) (x ∷ xs) h = ap suc (agains_length one table xs h.1)

pub fields_again : (one : Reader) (table : List FieldKind) (fields : List Field) (rest : List ℕ) → Agains one table fields → fields_at one table (packed fields ++ rest) ≡ Ok (fields, rest)
unfolding fields_at
fields_again one table fields rest again =
    let below : flags_of fields < 2 ^ length table = subst (λ n. flags_of fields < 2 ^ n) (agains_length one table fields again) (flags_below fields) in
    ap (λ r. r >>= λ flags. slots_at one table flags.0 [] flags.1) (flags_again (length table) (flags_of fields) (flat_map field_octets fields ++ rest) below)
    ∙ slots_again one table fields [] rest again

-- ---- each kind

range_again : (range : Range) (rest : List ℕ) → range_fine range ≡ true → range_at (range_octets range ++ rest) ≡ Ok (range, rest)
unfolding range_at
range_again range rest fine =
    let low = and_parts (ltb range.lower 4294967296) (ltb range.upper 4294967296 && ltb ((range.upper + 4294967296 - range.lower) % 4294967296) 2147483648) fine in
    let high = and_parts (ltb range.upper 4294967296) (ltb ((range.upper + 4294967296 - range.lower) % 4294967296) 2147483648) low.1 in
    let all = range_octets range ++ rest in
    let last : ℕ → (ℕ × List ℕ) → Taken Range = λ lower upper. check (ltb ((upper.0 + 4294967296 - lower) % 4294967296) 2147483648) (flaw_at BadRanges all) >>= λ _. Ok (record { lower = lower; upper = upper.0 }, upper.1) in
    ap (λ ys. number_at w32 ys >>= λ lower. number_at w32 lower.1 >>= last lower.0) (append_assoc (to_be_bytes w32 range.lower) (to_be_bytes w32 range.upper) rest)
    ∙ ap (λ r. r >>= λ lower. number_at w32 lower.1 >>= last lower.0) (number_again w32 4294967296 wide32 range.lower (to_be_bytes w32 range.upper ++ rest) (ltb-true range.lower 4294967296 low.0))
    ∙ ap (λ r. r >>= last range.lower) (number_again w32 4294967296 wide32 range.upper rest (ltb-true range.upper 4294967296 high.0))
    ∙ ap (λ b. check b (flaw_at BadRanges all) >>= λ _. Ok (range, rest)) high.1

ranges_again : (ranges front : List Range) → list_all range_fine ranges ≡ true → ranges_from (length ranges) front (flat_map range_octets ranges) ≡ Ok (front ++ ranges)
unfolding ranges_from
ranges_again [] front fine = ap Ok (sym (append-nil front))
ranges_again (x ∷ xs) front fine =
    let p = and_parts (range_fine x) (list_all range_fine xs) fine in
    ap (λ ys. range_at ys >>= λ y. ranges_from (length xs) (front ++ y.0 ∷ []) y.1) (flat_map-cons range_octets x xs)
    ∙ ap (λ r. r >>= λ y. ranges_from (length xs) (front ++ y.0 ∷ []) y.1) (range_again x (flat_map range_octets xs) p.0)
    ∙ ranges_again xs (front ++ x ∷ []) p.1
    ∙ ap Ok (append_assoc front (x ∷ []) xs)

ranges_inside : (ranges : List Range) → list_all range_fine ranges ≡ true → ranges_in (flat_map range_octets ranges) ≡ Ok (f.Ranges ranges)
unfolding ranges_in
ranges_inside ranges fine =
    let part = flat_map range_octets ranges in
    let count : length part / 8 ≡ length ranges = omega (arith, ranges_length ranges) in
    ap (λ n. ranges_from n [] part >>= λ xs. Ok (f.Ranges xs)) count
    ∙ ap (λ r. r >>= λ xs. Ok (f.Ranges xs)) (ranges_again ranges [] fine)

ranges_back : (ranges : List Range) (rest : List ℕ) → is_fine (f.Ranges ranges) ≡ true → ranges_at (ranges_octets ranges ++ rest) ≡ Ok (f.Ranges ranges, rest)
unfolding ranges_at
ranges_back ranges rest fine =
    let p = and_parts (ltb (length ranges) 8192) (list_all range_fine ranges) fine in
    let part = flat_map range_octets ranges in
    let all = ranges_octets ranges ++ rest in
    let size : fits Two (length part) ≡ true = lt-ltb _ _ (omega (arith, ranges_length ranges, ltb-true (length ranges) 8192 p.0)) in
    let eight : eqb (length part % 8) 0 ≡ true = eq-eqb (length part % 8) 0 (omega (arith, ranges_length ranges)) in
    ap (λ r. r >>= λ x. check (eqb (length x.0 % 8) 0) (flaw_at BadRanges all) >>= λ _. followed x.1 (ranges_in x.0)) (sized_again Two part rest size)
    ∙ ap (λ b. check b (flaw_at BadRanges all) >>= λ _. followed rest (ranges_in part)) eight
    ∙ ap (followed rest) (ranges_inside ranges p.1)

coded_again : (code : ℕ) (value : Value) (rest : List ℕ) → coded code value ≡ true → value_at 16 code (spelling value ++ rest) ≡ Ok (value, rest)
coded_again code value rest fine =
    let p = and_parts (eqb (told value).code code) (is_valid value) fine in
    let q = and_parts (told value).fine (leb (told value).levels 16) p.1 in
    subst (λ c. value_at 16 c (spelling value ++ rest) ≡ Ok (value, rest)) (eqb-true (told value).code code p.0) (reads 16 value q.0 (leb-true (told value).levels 16 q.1) rest)

bit_field : (rest : List ℕ) → is_fine f.Bit ≡ true → plain_at k.Bit (field_octets f.Bit ++ rest) ≡ Ok (f.Bit, rest)
unfolding plain_at
bit_field rest fine =
    refl

u8_field : (n : ℕ) (rest : List ℕ) → is_fine (f.U8 n) ≡ true → plain_at k.U8 (field_octets (f.U8 n) ++ rest) ≡ Ok (f.U8 n, rest)
unfolding plain_at
u8_field n rest fine =
    ap (λ r. r >>= λ y. Ok (f.U8 y.0, y.1)) (number_again w8 256 wide8 n rest (ltb-true n 256 fine))

u16_field : (n : ℕ) (rest : List ℕ) → is_fine (f.U16 n) ≡ true → plain_at k.U16 (field_octets (f.U16 n) ++ rest) ≡ Ok (f.U16 n, rest)
unfolding plain_at
u16_field n rest fine =
    ap (λ r. r >>= λ y. Ok (f.U16 y.0, y.1)) (number_again w16 65536 wide16 n rest (ltb-true n 65536 fine))

u32_field : (n : ℕ) (rest : List ℕ) → is_fine (f.U32 n) ≡ true → plain_at k.U32 (field_octets (f.U32 n) ++ rest) ≡ Ok (f.U32 n, rest)
unfolding plain_at
u32_field n rest fine =
    ap (λ r. r >>= λ y. Ok (f.U32 y.0, y.1)) (number_again w32 4294967296 wide32 n rest (ltb-true n 4294967296 fine))

u64_field : (n : ℕ) (rest : List ℕ) → is_fine (f.U64 n) ≡ true → plain_at k.U64 (field_octets (f.U64 n) ++ rest) ≡ Ok (f.U64 n, rest)
unfolding plain_at
u64_field n rest fine =
    ap (λ r. r >>= λ y. Ok (f.U64 y.0, y.1)) (number_again w64 18446744073709551616 wide64 n rest (ltb-true n 18446744073709551616 fine))

str8_field : (t : List ℕ) (rest : List ℕ) → is_fine (f.Str8 t) ≡ true → plain_at k.Str8 (field_octets (f.Str8 t) ++ rest) ≡ Ok (f.Str8 t, rest)
unfolding plain_at
str8_field t rest fine =
    let p = and_parts (fits One (length t)) (is_utf8 t) fine in ap (λ r. r >>= λ y. Ok (f.Str8 y.0, y.1)) (text_again One t rest p.0 p.1)

str16_field : (t : List ℕ) (rest : List ℕ) → is_fine (f.Str16 t) ≡ true → plain_at k.Str16 (field_octets (f.Str16 t) ++ rest) ≡ Ok (f.Str16 t, rest)
unfolding plain_at
str16_field t rest fine =
    let p = and_parts (fits Two (length t)) (is_utf8 t) fine in ap (λ r. r >>= λ y. Ok (f.Str16 y.0, y.1)) (text_again Two t rest p.0 p.1)

vbin8_field : (o : List ℕ) (rest : List ℕ) → is_fine (f.Vbin8 o) ≡ true → plain_at k.Vbin8 (field_octets (f.Vbin8 o) ++ rest) ≡ Ok (f.Vbin8 o, rest)
unfolding plain_at
vbin8_field o rest fine =
    ap (λ r. r >>= λ y. Ok (f.Vbin8 y.0, y.1)) (sized_again One o rest fine)

vbin16_field : (o : List ℕ) (rest : List ℕ) → is_fine (f.Vbin16 o) ≡ true → plain_at k.Vbin16 (field_octets (f.Vbin16 o) ++ rest) ≡ Ok (f.Vbin16 o, rest)
unfolding plain_at
vbin16_field o rest fine =
    ap (λ r. r >>= λ y. Ok (f.Vbin16 y.0, y.1)) (sized_again Two o rest fine)

vbin32_field : (o : List ℕ) (rest : List ℕ) → is_fine (f.Vbin32 o) ≡ true → plain_at k.Vbin32 (field_octets (f.Vbin32 o) ++ rest) ≡ Ok (f.Vbin32 o, rest)
unfolding plain_at
vbin32_field o rest fine =
    ap (λ r. r >>= λ y. Ok (f.Vbin32 y.0, y.1)) (sized_again Four o rest fine)

uuid_field : (o : List ℕ) (rest : List ℕ) → is_fine (f.Uuid o) ≡ true → plain_at k.Uuid (field_octets (f.Uuid o) ++ rest) ≡ Ok (f.Uuid o, rest)
unfolding plain_at
uuid_field o rest fine =
    ap (λ r. r >>= λ y. Ok (f.Uuid y.0, y.1)) (subst (λ n. part_at (o ++ rest) (o ++ rest) n ≡ Ok (o, rest)) (eqb-true (length o) 16 fine) (part_again (o ++ rest) o rest))

datetime_field : (n : ℕ) (rest : List ℕ) → is_fine (f.Datetime n) ≡ true → plain_at k.Datetime (field_octets (f.Datetime n) ++ rest) ≡ Ok (f.Datetime n, rest)
unfolding plain_at
datetime_field n rest fine =
    ap (λ r. r >>= λ y. Ok (f.Datetime y.0, y.1)) (number_again w64 18446744073709551616 wide64 n rest (ltb-true n 18446744073709551616 fine))

map_field : (v : Value) (rest : List ℕ) → is_fine (f.Map v) ≡ true → plain_at k.Map (field_octets (f.Map v) ++ rest) ≡ Ok (f.Map v, rest)
unfolding plain_at
map_field v rest fine =
    ap (λ r. r >>= λ y. Ok (f.Map y.0, y.1)) (coded_again 168 v rest fine)

array_field : (v : Value) (rest : List ℕ) → is_fine (f.Array v) ≡ true → plain_at k.Array (field_octets (f.Array v) ++ rest) ≡ Ok (f.Array v, rest)
unfolding plain_at
array_field v rest fine =
    ap (λ r. r >>= λ y. Ok (f.Array y.0, y.1)) (coded_again 170 v rest fine)

ranges_field : (r : List Range) (rest : List ℕ) → is_fine (f.Ranges r) ≡ true → plain_at k.Ranges (field_octets (f.Ranges r) ++ rest) ≡ Ok (f.Ranges r, rest)
unfolding plain_at
ranges_field r rest fine =
    ranges_back r rest fine

struct32_field : (o : List ℕ) (rest : List ℕ) → is_fine (f.Struct32 o) ≡ true → plain_at k.Struct32 (field_octets (f.Struct32 o) ++ rest) ≡ Ok (f.Struct32 o, rest)
unfolding plain_at
struct32_field o rest fine =
    ap (λ r. r >>= λ y. Ok (f.Struct32 y.0, y.1)) (sized_again Four o rest fine)

-- ---- structs

inner_xid : Xid → List Field
inner_xid xid = f.U32 xid.format ∷ f.Vbin8 xid.global ∷ f.Vbin8 xid.branch ∷ []

xid_table : List FieldKind
xid_table = k.U32 ∷ k.Vbin8 ∷ k.Vbin8 ∷ []

xid_inside : (xid : Xid) → is_fine (f.Xid xid) ≡ true → xid_in (xid_content xid) ≡ Ok (f.Xid xid)
unfolding xid_in xid_content inner_xid xid_table bits
xid_inside xid fine =
    let p = and_parts (ltb xid.format 4294967296) (fits One (length xid.global) && fits One (length xid.branch)) fine in
    let q = and_parts (fits One (length xid.global)) (fits One (length xid.branch)) p.1 in
    let all = 6 ∷ 4 ∷ packed (inner_xid xid) in
    let same : xid_content xid ≡ all = ap (λ b. 6 ∷ 4 ∷ 7 ∷ 0 ∷ to_be_bytes w32 xid.format ++ sized One xid.global ++ b) (sym (append-nil (sized One xid.branch))) in
    let again : Agains plain_at xid_table (inner_xid xid) = (
      λ there rest. u32_field xid.format rest p.0,
      (λ there rest. vbin8_field xid.global rest q.0, (λ there rest. vbin8_field xid.branch rest q.1, refl)),
    ) in
    let fields : fields_at plain_at xid_table (packed (inner_xid xid)) ≡ Ok (inner_xid xid, []) =
    ap (fields_at plain_at xid_table) (sym (append-nil (packed (inner_xid xid)))) ∙ fields_again plain_at xid_table (inner_xid xid) [] again in
    let last : (List Field × List ℕ) → Result Field Flaw = λ fs. ended fs.1 >>= λ _. Ok (f.Xid (xid_of fs.0)) in
    ap xid_in same
    ∙ ap (λ r. r >>= λ class. check true (flaw_at BadStruct all) >>= λ _. fields_at plain_at xid_table class.1 >>= last) (part_again all (6 ∷ 4 ∷ []) (packed (inner_xid xid)))
    ∙ ap (λ r. r >>= last) fields

xid_back : (xid : Xid) (rest : List ℕ) → is_fine (f.Xid xid) ≡ true → xid_at (field_octets (f.Xid xid) ++ rest) ≡ Ok (f.Xid xid, rest)
unfolding xid_at
xid_back xid rest fine =
    let p = and_parts (ltb xid.format 4294967296) (fits One (length xid.global) && fits One (length xid.branch)) fine in
    let q = and_parts (fits One (length xid.global)) (fits One (length xid.branch)) p.1 in
    let size : fits Four (length (xid_content xid)) ≡ true = lt-ltb _ _ (omega (arith, xid_length xid, ltb-true (length xid.global) 256 q.0, ltb-true (length xid.branch) 256 q.1)) in
    ap (λ r. r >>= λ part. followed part.1 (xid_in part.0)) (sized_again Four (xid_content xid) rest size)
    ∙ ap (followed rest) (xid_inside xid fine)

inner_reply : ReplyTo → List Field
inner_reply reply = f.Str8 reply.exchange ∷ f.Str8 reply.routing_key ∷ []

reply_table : List FieldKind
reply_table = k.Str8 ∷ k.Str8 ∷ []

reply_inside : (reply : ReplyTo) → is_fine (f.ReplyTo reply) ≡ true → reply_in (reply_content reply) ≡ Ok (f.ReplyTo reply)
unfolding reply_in inner_reply reply_table bits
reply_inside reply fine =
    let p = and_parts (text_fine One reply.exchange) (text_fine One reply.routing_key) fine in
    let all = packed (inner_reply reply) in
    let same : reply_content reply ≡ all = ap (λ b. 3 ∷ 0 ∷ sized One reply.exchange ++ b) (sym (append-nil (sized One reply.routing_key))) in
    let again : Agains plain_at reply_table (inner_reply reply) = (λ there rest. str8_field reply.exchange rest p.0, (λ there rest. str8_field reply.routing_key rest p.1, refl)) in
    let fields : fields_at plain_at reply_table all ≡ Ok (inner_reply reply, []) =
    ap (fields_at plain_at reply_table) (sym (append-nil all)) ∙ fields_again plain_at reply_table (inner_reply reply) [] again in
    ap reply_in same
    ∙ ap (λ r. r >>= λ fs. ended fs.1 >>= λ _. Ok (f.ReplyTo (reply_of fs.0))) fields

reply_back : (reply : ReplyTo) (rest : List ℕ) → is_fine (f.ReplyTo reply) ≡ true → reply_at (field_octets (f.ReplyTo reply) ++ rest) ≡ Ok (f.ReplyTo reply, rest)
unfolding reply_at
reply_back reply rest fine =
    let p = and_parts (text_fine One reply.exchange) (text_fine One reply.routing_key) fine in
    let exchange = and_parts (fits One (length reply.exchange)) (is_utf8 reply.exchange) p.0 in
    let key = and_parts (fits One (length reply.routing_key)) (is_utf8 reply.routing_key) p.1 in
    let size : fits Two (length (reply_content reply)) ≡ true =
    lt-ltb _ _ (omega (arith, reply_length reply, ltb-true (length reply.exchange) 256 exchange.0, ltb-true (length reply.routing_key) 256 key.0)) in
    ap (λ r. r >>= λ part. followed part.1 (reply_in part.0)) (sized_again Two (reply_content reply) rest size)
    ∙ ap (followed rest) (reply_inside reply fine)

-- ---- any field, and all of them

field_again : (kind : FieldKind) (x : Field) → Stands kind x → is_fine x ≡ true → flag_of x ≡ 1 → (rest : List ℕ) → field_at kind (field_octets x ++ rest) ≡ Ok (x, rest)
unfolding field_at
field_again kind f.Absent stands fine there rest = absurd (omega (arith, there))
field_again kind f.Bit stands fine there rest = subst (λ kind'. field_at kind' (field_octets f.Bit ++ rest) ≡ Ok (f.Bit, rest)) (sym stands) (bit_field rest fine)
field_again kind (f.U8 n) stands fine there rest = subst (λ kind'. field_at kind' (field_octets (f.U8 n) ++ rest) ≡ Ok ((f.U8 n), rest)) (sym stands) (u8_field n rest fine)
field_again kind (f.U16 n) stands fine there rest = subst (λ kind'. field_at kind' (field_octets (f.U16 n) ++ rest) ≡ Ok ((f.U16 n), rest)) (sym stands) (u16_field n rest fine)
field_again kind (f.U32 n) stands fine there rest = subst (λ kind'. field_at kind' (field_octets (f.U32 n) ++ rest) ≡ Ok ((f.U32 n), rest)) (sym stands) (u32_field n rest fine)
field_again kind (f.U64 n) stands fine there rest = subst (λ kind'. field_at kind' (field_octets (f.U64 n) ++ rest) ≡ Ok ((f.U64 n), rest)) (sym stands) (u64_field n rest fine)
field_again kind (f.Str8 t) stands fine there rest = subst (λ kind'. field_at kind' (field_octets (f.Str8 t) ++ rest) ≡ Ok ((f.Str8 t), rest)) (sym stands) (str8_field t rest fine)
field_again kind (f.Str16 t) stands fine there rest = subst (λ kind'. field_at kind' (field_octets (f.Str16 t) ++ rest) ≡ Ok ((f.Str16 t), rest)) (sym stands) (str16_field t rest fine)
field_again kind (f.Vbin8 o) stands fine there rest = subst (λ kind'. field_at kind' (field_octets (f.Vbin8 o) ++ rest) ≡ Ok ((f.Vbin8 o), rest)) (sym stands) (vbin8_field o rest fine)
field_again kind (f.Vbin16 o) stands fine there rest = subst (λ kind'. field_at kind' (field_octets (f.Vbin16 o) ++ rest) ≡ Ok ((f.Vbin16 o), rest)) (sym stands) (vbin16_field o rest fine)
field_again kind (f.Vbin32 o) stands fine there rest = subst (λ kind'. field_at kind' (field_octets (f.Vbin32 o) ++ rest) ≡ Ok ((f.Vbin32 o), rest)) (sym stands) (vbin32_field o rest fine)
field_again kind (f.Uuid o) stands fine there rest = subst (λ kind'. field_at kind' (field_octets (f.Uuid o) ++ rest) ≡ Ok ((f.Uuid o), rest)) (sym stands) (uuid_field o rest fine)
field_again kind (f.Datetime n) stands fine there rest = subst (λ kind'. field_at kind' (field_octets (f.Datetime n) ++ rest) ≡ Ok ((f.Datetime n), rest)) (sym stands) (datetime_field n rest fine)
field_again kind (f.Map v) stands fine there rest = subst (λ kind'. field_at kind' (field_octets (f.Map v) ++ rest) ≡ Ok ((f.Map v), rest)) (sym stands) (map_field v rest fine)
field_again kind (f.Array v) stands fine there rest = subst (λ kind'. field_at kind' (field_octets (f.Array v) ++ rest) ≡ Ok ((f.Array v), rest)) (sym stands) (array_field v rest fine)
field_again kind (f.Ranges r) stands fine there rest = subst (λ kind'. field_at kind' (field_octets (f.Ranges r) ++ rest) ≡ Ok ((f.Ranges r), rest)) (sym stands) (ranges_field r rest fine)
field_again kind (f.Struct32 o) stands fine there rest = subst (λ kind'. field_at kind' (field_octets (f.Struct32 o) ++ rest) ≡ Ok ((f.Struct32 o), rest)) (sym stands) (struct32_field o rest fine)
field_again kind (f.Xid x) stands fine there rest = subst (λ kind'. field_at kind' (field_octets (f.Xid x) ++ rest) ≡ Ok ((f.Xid x), rest)) (sym stands) (xid_back x rest fine)
field_again kind (f.ReplyTo r) stands fine there rest = subst (λ kind'. field_at kind' (field_octets (f.ReplyTo r) ++ rest) ≡ Ok ((f.ReplyTo r), rest)) (sym stands) (reply_back r rest fine)

agains_of : (table : List FieldKind) (fields : List Field) → Alike table fields → list_all is_fine fields ≡ true → Agains field_at table fields
unfolding Alike
agains_of [] fields h fine = h
agains_of (kind ∷ table) [] h fine = absurd h
agains_of (kind ∷ table) (x ∷ xs) h fine =
    let p = and_parts (is_fine x) (list_all is_fine xs) fine in
    (field_again kind x h.0 p.0, agains_of table xs h.1 p.1)

-- fields that fit a table and were written are read again
pub table_again : (table : List FieldKind) (fields : List Field) (rest : List ℕ) → AreOf table fields → fields_at field_at table (packed fields ++ rest) ≡ Ok (fields, rest)
table_again table fields rest fit = fields_again field_at table fields rest (agains_of table fields fit.0 fit.1)

pub all_fields_again : (why : Why) (table : List FieldKind) (fields : List Field) → AreOf table fields → all_fields_at why table (packed fields) ≡ Ok fields
unfolding all_fields_at
all_fields_again why table fields fit =
    let last : (List Field × List ℕ) → Result (List Field) Flaw = λ x. check (eqb (length x.1) 0) (flaw_at why x.1) >>= λ _. Ok x.0 in
    ap (λ octets. fields_at field_at table octets >>= last) (sym (append-nil (packed fields)))
    ∙ ap (λ r. r >>= last) (table_again table fields [] fit)

-- by index: fields that stand at an index are read from there
pub read_back : (table : List FieldKind) (octets : List ℕ) (at : ℕ) (fields : List Field) (rest : List ℕ) → AreOf table fields → drop at octets ≡ packed fields ++ rest
    → read_at table octets at ≡ Ok (fields, at + length (packed fields))
read_back table octets at fields rest fit there =
    let read : fields_at field_at table (drop at octets) ≡ Ok (fields, rest) = ap (fields_at field_at table) there ∙ table_again table fields rest fit in
    let sizes : length octets - at ≡ length (packed fields) + length rest = sym (length-drop at octets) ∙ ap length there ∙ length-append (packed fields) rest in
    let end : max at (length octets) - length rest ≡ at + length (packed fields) = omega (arith, sizes) in
    ap (index_of (max at (length octets))) read ∙ ap (λ n. Ok (fields, n)) end
