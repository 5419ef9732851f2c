-- What is read of structs in fields, and over any table, has a spelling, and the octets spell it.
use Rattle.std.proofs.Common.{◌≡◌, ℕ, ◌+◌, ◌-◌, ◌/◌, ◌%◌, ◌&&◌, true, eqb, ltb, List, [], ◌∷◌, ◌++◌, length, drop, Result, Ok, Err, IfOk, refl, sym, ap, subst, ◌∙◌, arith}
use Rattle.std.specs.Prelude.{max, slice_index}
use Rattle.std.proofs.lemmas.Bool.{and_parts, and_from, eqb-true, false≢true}
use Rattle.std.proofs.lemmas.List.{append-nil, length-append, length-drop, drop-drop, drop_at, nil_from_length}
use Rattle.std.proofs.lemmas.List.Concat.{flat_map-cons}
use Rattle.std.proofs.lemmas.Str.{IsUtf8-nil, is_utf8-from_IsUtf8}
use Rattle.std.specs.List.{flat_map, list_all}
use Rattle.octet_reading.specs.declared.part.SizeWidth.TheVariants.{One, Two, Four}
use Rattle.octet_reading.specs.declared.why.Why.{Why}
use Rattle.octet_reading.specs.declared.why.Why.TheVariants.{BadStruct, SizeDiffers}
use Rattle.octet_reading.specs.declared.flaw.Flaw.{Flaw}
use Rattle.octet_reading.specs.Reading.{Taken, ◌>>=◌, check, flaw_at, part_at, sized_at, followed, ended, IsBytes}
use Rattle.amqp_values.specs.declared.fault.ValueFault.{ValueFault}
use Rattle.octet_reading.specs.Spelling.{sized, fits}
use Rattle.octet_reading.proofs.Found.{IsBytes-drop, Holds, holds_bind, holds_check, PartIs, part_found, SizedIs, sized_found}
use Rattle.amqp_packed.specs.declared.error.PackError.{PackError}
use Rattle.amqp_packed.specs.declared.field.FieldKind.{FieldKind}
use Rattle.amqp_packed.specs.declared.field.FieldKind.TheVariants as k
use Rattle.amqp_packed.specs.declared.field.Field.{Field}
use Rattle.amqp_packed.specs.declared.field.Field.TheVariants as f
use Rattle.amqp_packed.specs.Reading.{fields_at, plain_at, field_at, xid_in, xid_at, reply_in, reply_at, u32_or_0, octets_or_none, text_or_none, xid_of, reply_of, index_of, read_at, Answers, all_fields_at}
use Rattle.amqp_packed.specs.Spelling.{text_fine, field_octets, flags_of, packed, is_fine, Stands, Alike, AreOf}
use Rattle.amqp_packed.specs.Spelled.{Spelled, Each, Packs}
use Rattle.amqp_packed.proofs.Found.{FieldIs, is_plain, plain_found}
use Rattle.amqp_packed.proofs.Slots.{AllFound, FieldsAre, fields_found}

-- ---- structs

-- a field of a plain kind is spelled as it is written
plain_text : (kind : FieldKind) (x : Field) (text : List ℕ) → is_plain kind ≡ true → Stands kind x → Spelled x text → text ≡ field_octets x
unfolding is_plain
plain_text kind f.Absent text h stands s = s
plain_text kind f.Bit text h stands s = s
plain_text kind (f.U8 n) text h stands s = s
plain_text kind (f.U16 n) text h stands s = s
plain_text kind (f.U32 n) text h stands s = s
plain_text kind (f.U64 n) text h stands s = s
plain_text kind (f.Str8 t) text h stands s = s
plain_text kind (f.Str16 t) text h stands s = s
plain_text kind (f.Vbin8 o) text h stands s = s
plain_text kind (f.Vbin16 o) text h stands s = s
plain_text kind (f.Vbin32 o) text h stands s = s
plain_text kind (f.Uuid o) text h stands s = s
plain_text kind (f.Datetime n) text h stands s = s
plain_text kind (f.Map v) text h stands s = s
plain_text kind (f.Array v) text h stands s = s
plain_text kind (f.Ranges r) text h stands s = s
plain_text kind (f.Struct32 o) text h stands s = s
plain_text kind (f.Xid x) text h stands s = absurd (false≢true (ap is_plain (sym stands) ∙ h))
plain_text kind (f.ReplyTo r) text h stands s = absurd (false≢true (ap is_plain (sym stands) ∙ h))

abbrev Plains : List FieldKind → Type 0
Plains [] = Unit {0}
Plains (kind ∷ table) = (is_plain kind ≡ true) × Plains table

plain_texts : (table : List FieldKind) (fields : List Field) (texts : List (List ℕ)) → Plains table → Alike table fields → Each fields texts → flat_map (λ text. text) texts ≡ flat_map field_octets fields
unfolding Alike Each
plain_texts [] [] texts h alike each = ap (flat_map (λ text. text)) each
plain_texts [] (x ∷ xs) texts h alike each = absurd (omega (arith, alike))
plain_texts (kind ∷ table) [] texts h alike each = absurd alike
plain_texts (kind ∷ table) (x ∷ xs) [] h alike each = absurd each
plain_texts (kind ∷ table) (x ∷ xs) (text ∷ texts) h alike each =
    flat_map-cons (λ text. text) text texts ∙ ap (λ ys. text ++ ys) (plain_texts table xs texts h.1 alike.1 each.1)
    ∙ ap (λ ys. ys ++ flat_map field_octets xs) (plain_text kind x text h.0 alike.0 each.0) ∙ sym (flat_map-cons field_octets x xs)

whole : (table : List FieldKind) (octets : List ℕ) (x : List Field × List ℕ) → Plains table → FieldsAre table octets x → eqb (length x.1) 0 ≡ true → octets ≡ packed x.0
whole table octets x h m none =
    let end : x.1 ≡ [] = nil_from_length x.1 (eqb-true (length x.1) 0 none) in
    let front : List ℕ → List ℕ = λ zs. flags_of x.0 % 256 ∷ flags_of x.0 / 256 ∷ zs in
    m.packs.parts ∙ ap (λ r. front (flat_map (λ text. text) m.packs.texts ++ r)) end ∙ ap front (append-nil (flat_map (λ text. text) m.packs.texts) ∙ plain_texts table x.0 m.packs.texts h m.fit.0 m.packs.each)

u32_low : (x : Field) → is_fine x ≡ true → ltb (u32_or_0 x) 4294967296 ≡ true
u32_low f.Absent fine = refl
u32_low f.Bit fine = refl
u32_low (f.U8 n) fine = refl
u32_low (f.U16 n) fine = refl
u32_low (f.U32 n) fine = fine
u32_low (f.U64 n) fine = refl
u32_low (f.Str8 t) fine = refl
u32_low (f.Str16 t) fine = refl
u32_low (f.Vbin8 o) fine = refl
u32_low (f.Vbin16 o) fine = refl
u32_low (f.Vbin32 o) fine = refl
u32_low (f.Uuid o) fine = refl
u32_low (f.Datetime n) fine = refl
u32_low (f.Map v) fine = refl
u32_low (f.Array v) fine = refl
u32_low (f.Ranges r) fine = refl
u32_low (f.Struct32 o) fine = refl
u32_low (f.Xid x) fine = refl
u32_low (f.ReplyTo r) fine = refl

octets_fit : (x : Field) → is_fine x ≡ true → fits One (length (octets_or_none x)) ≡ true
octets_fit f.Absent fine = refl
octets_fit f.Bit fine = refl
octets_fit (f.U8 n) fine = refl
octets_fit (f.U16 n) fine = refl
octets_fit (f.U32 n) fine = refl
octets_fit (f.U64 n) fine = refl
octets_fit (f.Str8 t) fine = refl
octets_fit (f.Str16 t) fine = refl
octets_fit (f.Vbin8 o) fine = fine
octets_fit (f.Vbin16 o) fine = refl
octets_fit (f.Vbin32 o) fine = refl
octets_fit (f.Uuid o) fine = refl
octets_fit (f.Datetime n) fine = refl
octets_fit (f.Map v) fine = refl
octets_fit (f.Array v) fine = refl
octets_fit (f.Ranges r) fine = refl
octets_fit (f.Struct32 o) fine = refl
octets_fit (f.Xid x) fine = refl
octets_fit (f.ReplyTo r) fine = refl

no_text : text_fine One [] ≡ true
no_text = is_utf8-from_IsUtf8 [] IsUtf8-nil

text_fits : (x : Field) → is_fine x ≡ true → text_fine One (text_or_none x) ≡ true
text_fits f.Absent fine = no_text
text_fits f.Bit fine = no_text
text_fits (f.U8 n) fine = no_text
text_fits (f.U16 n) fine = no_text
text_fits (f.U32 n) fine = no_text
text_fits (f.U64 n) fine = no_text
text_fits (f.Str8 t) fine = fine
text_fits (f.Str16 t) fine = no_text
text_fits (f.Vbin8 o) fine = no_text
text_fits (f.Vbin16 o) fine = no_text
text_fits (f.Vbin32 o) fine = no_text
text_fits (f.Uuid o) fine = no_text
text_fits (f.Datetime n) fine = no_text
text_fits (f.Map v) fine = no_text
text_fits (f.Array v) fine = no_text
text_fits (f.Ranges r) fine = no_text
text_fits (f.Struct32 o) fine = no_text
text_fits (f.Xid x) fine = no_text
text_fits (f.ReplyTo r) fine = no_text

xid_table : List FieldKind
xid_table = k.U32 ∷ k.Vbin8 ∷ k.Vbin8 ∷ []

reply_table : List FieldKind
reply_table = k.Str8 ∷ k.Str8 ∷ []

xid_fine : (fields : List Field) → AreOf xid_table fields → is_fine (f.Xid (xid_of fields)) ≡ true
unfolding xid_table Alike
xid_fine [] h = absurd h.0
xid_fine (a ∷ []) h = absurd h.0.1
xid_fine (a ∷ b ∷ []) h = absurd h.0.1.1
xid_fine (a ∷ b ∷ c ∷ d ∷ more) h = absurd (omega (arith, h.0.1.1.1))
xid_fine (a ∷ b ∷ c ∷ []) h =
    let p = and_parts (is_fine a) (list_all is_fine (b ∷ c ∷ [])) h.1 in
    let q = and_parts (is_fine b) (list_all is_fine (c ∷ [])) p.1 in
    let r = and_parts (is_fine c) true q.1 in
    and_from (ltb (u32_or_0 a) 4294967296) (fits One (length (octets_or_none b)) && fits One (length (octets_or_none c))) (u32_low a p.0)
    (and_from (fits One (length (octets_or_none b))) (fits One (length (octets_or_none c))) (octets_fit b q.0) (octets_fit c r.0))

reply_fine : (fields : List Field) → AreOf reply_table fields → is_fine (f.ReplyTo (reply_of fields)) ≡ true
unfolding reply_table Alike
reply_fine [] h = absurd h.0
reply_fine (a ∷ []) h = absurd h.0.1
reply_fine (a ∷ b ∷ c ∷ more) h = absurd (omega (arith, h.0.1.1))
reply_fine (a ∷ b ∷ []) h =
    let p = and_parts (is_fine a) (list_all is_fine (b ∷ [])) h.1 in
    let q = and_parts (is_fine b) true p.1 in
    and_from (text_fine One (text_or_none a)) (text_fine One (text_or_none b)) (text_fits a p.0) (text_fits b q.0)

-- a struct that is all of these octets
record XidInside (octets : List ℕ) (x : Field) : Type 0 where
  pub fields : List Field
  pub is : x ≡ f.Xid (xid_of fields)
  pub fit : AreOf xid_table fields
  pub all : octets ≡ 6 ∷ 4 ∷ packed fields

record ReplyInside (octets : List ℕ) (x : Field) : Type 0 where
  pub fields : List Field
  pub is : x ≡ f.ReplyTo (reply_of fields)
  pub fit : AreOf reply_table fields
  pub all : octets ≡ packed fields

two_octets : (all front rest : List ℕ) (a b : ℕ) → all ≡ front ++ rest → length front ≡ 2 → slice_index all 0 ≡ a → slice_index all 1 ≡ b → all ≡ a ∷ b ∷ rest
two_octets all [] rest a b e len first second = absurd (omega (arith, len))
two_octets all (u ∷ []) rest a b e len first second = absurd (omega (arith, len))
two_octets all (u ∷ v ∷ w ∷ ws) rest a b e len first second = absurd (omega (arith, len))
two_octets all (u ∷ v ∷ []) rest a b e len first second =
    e ∙ ap (λ n. n ∷ v ∷ rest) (ap (λ zs. slice_index zs 0) (sym e) ∙ first) ∙ ap (λ n. a ∷ n ∷ rest) (ap (λ zs. slice_index zs 1) (sym e) ∙ second)

xid_inside : (octets : List ℕ) → IsBytes octets → Holds (XidInside octets) (xid_in octets)
unfolding xid_in xid_table is_plain
xid_inside octets bytes =
    let Q = XidInside octets in
    let named = eqb (slice_index octets 0) 6 && eqb (slice_index octets 1) 4 in
    let last : (List Field × List ℕ) → Result Field Flaw = λ fs. ended fs.1 >>= λ _. Ok (f.Xid (xid_of fs.0)) in
    holds_bind (PartIs octets 2) Q (part_at octets octets 2) (λ class. check named (flaw_at BadStruct octets) >>= λ _. fields_at plain_at xid_table class.1 >>= last) (part_found octets octets 2 bytes)
    (λ class p. holds_check Q named (flaw_at BadStruct octets) (fields_at plain_at xid_table class.1 >>= last)
    (λ n. holds_bind (FieldsAre xid_table class.1) Q (fields_at plain_at xid_table class.1) last
    (fields_found plain_at xid_table class.1 (plain_found k.U32 refl, (plain_found k.Vbin8 refl, (plain_found k.Vbin8 refl, tt))) p.rest)
    (λ fs m. holds_check Q (eqb (length fs.1) 0) (flaw_at SizeDiffers fs.1) (Ok (f.Xid (xid_of fs.0)))
    (λ none.
    let names = and_parts (eqb (slice_index octets 0) 6) (eqb (slice_index octets 1) 4) n in
    record {
      fields = fs.0;
      is = refl;
      fit = m.fit;
      all = two_octets octets class.0 class.1 6 4 p.parts p.long (eqb-true (slice_index octets 0) 6 names.0) (eqb-true (slice_index octets 1) 4 names.1)
          ∙ ap (λ zs. 6 ∷ 4 ∷ zs) (whole xid_table class.1 fs (refl, (refl, (refl, tt))) m none);
    }))))

reply_inside : (octets : List ℕ) → IsBytes octets → Holds (ReplyInside octets) (reply_in octets)
unfolding reply_in reply_table is_plain
reply_inside octets bytes =
    let Q = ReplyInside octets in
    holds_bind (FieldsAre reply_table octets) Q (fields_at plain_at reply_table octets) (λ fs. ended fs.1 >>= λ _. Ok (f.ReplyTo (reply_of fs.0)))
    (fields_found plain_at reply_table octets (plain_found k.Str8 refl, (plain_found k.Str8 refl, tt)) bytes)
    (λ fs m. holds_check Q (eqb (length fs.1) 0) (flaw_at SizeDiffers fs.1) (Ok (f.ReplyTo (reply_of fs.0)))
    (λ none. record { fields = fs.0; is = refl; fit = m.fit; all = whole reply_table octets fs (refl, (refl, tt)) m none }))

xid_field : (octets : List ℕ) → IsBytes octets → Holds (FieldIs k.Xid octets) (xid_at octets)
unfolding xid_at xid_table
xid_field octets bytes =
    holds_bind (SizedIs Four octets) (FieldIs k.Xid octets) (sized_at Four octets) (λ part. followed part.1 (xid_in part.0)) (sized_found Four octets bytes)
    (λ part s. by part s (xid_in part.0) (xid_inside part.0 s.inside))
  where
    by : (part : List ℕ × List ℕ) → SizedIs Four octets part → (r : Result Field Flaw) → Holds (XidInside part.0) r → Holds (FieldIs k.Xid octets) (followed part.1 r)
    by part s (Err flaw) i = tt
    by part s (Ok x) i = subst (λ y. FieldIs k.Xid octets (y, part.1)) (sym i.is) (record {
      stands = refl;
      fine = xid_fine i.fields i.fit;
      there = refl;
      text = sized Four part.0;
      spelled = record { fields = i.fields; fit = i.fit; means = refl; is = ap (sized Four) i.all };
      parts = s.parts;
      rest = s.rest;
    })

reply_field : (octets : List ℕ) → IsBytes octets → Holds (FieldIs k.ReplyTo octets) (reply_at octets)
unfolding reply_at reply_table
reply_field octets bytes =
    holds_bind (SizedIs Two octets) (FieldIs k.ReplyTo octets) (sized_at Two octets) (λ part. followed part.1 (reply_in part.0)) (sized_found Two octets bytes)
    (λ part s. by part s (reply_in part.0) (reply_inside part.0 s.inside))
  where
    by : (part : List ℕ × List ℕ) → SizedIs Two octets part → (r : Result Field Flaw) → Holds (ReplyInside part.0) r → Holds (FieldIs k.ReplyTo octets) (followed part.1 r)
    by part s (Err flaw) i = tt
    by part s (Ok x) i = subst (λ y. FieldIs k.ReplyTo octets (y, part.1)) (sym i.is) (record {
      stands = refl;
      fine = reply_fine i.fields i.fit;
      there = refl;
      text = sized Two part.0;
      spelled = record { fields = i.fields; fit = i.fit; means = refl; is = ap (sized Two) i.all };
      parts = s.parts;
      rest = s.rest;
    })

-- ---- any field, and all of them

field_found : (kind : FieldKind) (octets : List ℕ) → IsBytes octets → Holds (FieldIs kind octets) (field_at kind octets)
unfolding field_at is_plain
field_found k.Xid octets bytes = xid_field octets bytes
field_found k.ReplyTo octets bytes = reply_field octets bytes
field_found k.Bit octets bytes = plain_found k.Bit refl octets bytes
field_found k.U8 octets bytes = plain_found k.U8 refl octets bytes
field_found k.U16 octets bytes = plain_found k.U16 refl octets bytes
field_found k.U32 octets bytes = plain_found k.U32 refl octets bytes
field_found k.U64 octets bytes = plain_found k.U64 refl octets bytes
field_found k.Str8 octets bytes = plain_found k.Str8 refl octets bytes
field_found k.Str16 octets bytes = plain_found k.Str16 refl octets bytes
field_found k.Vbin8 octets bytes = plain_found k.Vbin8 refl octets bytes
field_found k.Vbin16 octets bytes = plain_found k.Vbin16 refl octets bytes
field_found k.Vbin32 octets bytes = plain_found k.Vbin32 refl octets bytes
field_found k.Uuid octets bytes = plain_found k.Uuid refl octets bytes
field_found k.Datetime octets bytes = plain_found k.Datetime refl octets bytes
field_found k.Map octets bytes = plain_found k.Map refl octets bytes
field_found k.Array octets bytes = plain_found k.Array refl octets bytes
field_found k.Ranges octets bytes = plain_found k.Ranges refl octets bytes
field_found k.Struct32 octets bytes = plain_found k.Struct32 refl octets bytes

all_found : (table : List FieldKind) → AllFound field_at table
all_found [] = tt
all_found (kind ∷ table) = (field_found kind, all_found table)

-- all fields that are read over a table
pub table_found : (table : List FieldKind) (octets : List ℕ) → IsBytes octets → Holds (FieldsAre table octets) (fields_at field_at table octets)
table_found table octets bytes = fields_found field_at table octets (all_found table) bytes

-- fields that take all of the octets
pub record AllIs (table : List FieldKind) (octets : List ℕ) (fields : List Field) : Type 0 where
  pub fit : AreOf table fields
  pub packs : Packs fields octets []

pub all_fields_found : (why : Why) (table : List FieldKind) (octets : List ℕ) → IsBytes octets → Holds (AllIs table octets) (all_fields_at why table octets)
unfolding all_fields_at
all_fields_found why table octets bytes =
    holds_bind (FieldsAre table octets) (AllIs table octets) (fields_at field_at table octets) (λ fields. check (eqb (length fields.1) 0) (flaw_at why fields.1) >>= λ _. Ok fields.0) (table_found table octets bytes)
    (λ fields f. holds_check (AllIs table octets) (eqb (length fields.1) 0) (flaw_at why fields.1) (Ok fields.0)
    (λ none. record { fit = f.fit; packs = subst (Packs fields.0 octets) (nil_from_length fields.1 (eqb-true (length fields.1) 0 none)) f.packs }))

-- by index: what was read fits the table and stands at the index, and what follows it stands at the index after
abbrev pub StandsAt : List FieldKind → List ℕ → ℕ → (List Field × ℕ) → Type 0
StandsAt table octets at x = AreOf table x.0 × Packs x.0 (drop at octets) (drop x.1 octets)

abbrev InOk : ((List Field × ℕ) → Type 0) → Result (List Field × ℕ) ValueFault → Type 0
InOk P (Ok x) = P x
InOk P (Err fault) = Unit {0}

stands_at : (table : List FieldKind) (octets : List ℕ) (at : ℕ) (r : Taken (List Field)) → Holds (FieldsAre table (drop at octets)) r → InOk (StandsAt table octets at) (index_of (max at (length octets)) r)
stands_at table octets at (Err flaw) m = tt
stands_at table octets at (Ok (fields, rest)) m =
    let front = flags_of fields % 256 ∷ flags_of fields / 256 ∷ flat_map (λ text. text) m.packs.texts in
    let there : drop at octets ≡ front ++ rest = m.packs.parts in
    let sizes : length octets - at ≡ length front + length rest = sym (length-drop at octets) ∙ ap length there ∙ length-append front rest in
    let end : max at (length octets) - length rest ≡ at + length front = omega (arith, sizes) in
    let after : drop (max at (length octets) - length rest) octets ≡ rest =
    ap (λ n. drop n octets) end ∙ sym (drop-drop (length front) at octets) ∙ ap (drop (length front)) there ∙ drop_at front rest (length front) refl in
    (m.fit, subst (Packs fields (drop at octets)) (sym after) m.packs)

pub found_in : (table : List FieldKind) (octets : List ℕ) (at : ℕ) (r : Result (List Field × ℕ) PackError) → IsBytes octets → Answers r (read_at table octets at) → IfOk r (StandsAt table octets at)
found_in table octets at (Err error) bytes e = tt
found_in table octets at (Ok x) bytes e =
    subst (InOk (StandsAt table octets at)) e (stands_at table octets at (fields_at field_at table (drop at octets)) (table_found table (drop at octets) (IsBytes-drop at octets bytes)))
