-- What is read over a table fits it, and the octets spell it: the flags, and a field for each kind.
use Rattle.std.proofs.Common.{◌≡◌, if◌then◌else◌, ℕ, ◌+◌, ◌-◌, ◌*◌, ◌/◌, ◌%◌, ◌^◌, ◌<◌, Bool, true, false, eqb, ltb, List, [], ◌∷◌, ◌++◌, length, drop, Ok, refl, sym, ap, subst, ◌∙◌, append_assoc, arith, inl, inr}
use Rattle.std.specs.Prelude.{min, slice_index}
use Rattle.std.proofs.lemmas.Nat.{pow-add}
use Rattle.std.proofs.lemmas.Bool.{and_from, ltb-true, eqb-true, eq-eqb, cases_lt, false≢true}
use Rattle.std.proofs.lemmas.List.{append-nil, length-append}
use Rattle.std.proofs.lemmas.List.Concat.{flat_map-cons}
use Rattle.std.specs.List.{flat_map, list_all}
use Rattle.octet_reading.specs.declared.why.Why.TheVariants.{ReservedFlag}
use Rattle.octet_reading.specs.Reading.{Taken, ◌>>=◌, check, flaw_at, part_at, IsBytes}
use Rattle.octet_reading.proofs.Found.{Holds, holds_bind, holds_map, holds_check, PartIs, part_found}
use Rattle.amqp_packed.specs.declared.field.FieldKind.{FieldKind}
use Rattle.amqp_packed.specs.declared.field.Field.{Field}
use Rattle.amqp_packed.specs.declared.field.Field.TheVariants as f
use Rattle.amqp_packed.specs.Reading.{Reader, flags_at, slot_at, slots_at, fields_at}
use Rattle.amqp_packed.specs.Spelling.{flag_of, flags_of, is_fine, Stands, Alike, AreOf, bits}
use Rattle.amqp_packed.specs.Spelled.{Spelled, Each, Packs}
use Rattle.amqp_packed.proofs.Found.{FieldIs}

-- ---- flags

record FlagsAre (n : ℕ) (octets : List ℕ) (x : ℕ × List ℕ) : Type 0 where
  pub below : x.0 < 2 ^ n
  pub parts : octets ≡ x.0 % 256 ∷ x.0 / 256 ∷ x.1
  pub rest : IsBytes x.1

flags_low : (n low high : ℕ) → low < 2 ^ min n 8 → high < 2 ^ (n - 8) → low < 256 → low + 256 * high < 2 ^ n
flags_low n low high l h small = elim (cases_lt 8 n) [
  | inl more ↦ let parts : 2 ^ n ≡ 2 ^ (n - 8) * 256 = ap (λ m. 2 ^ m) (omega (arith, more)) ∙ pow-add 2 (n - 8) 8 in omega (arith, h, small, parts)
  | inr few ↦
      let all : min n 8 ≡ n = omega (arith, few) in
      let none : n - 8 ≡ 0 = omega (arith, few) in
      omega (arith, subst (λ m. low < 2 ^ m) all l, subst (λ m. high < 2 ^ m) none h)
]

flags_found : (n : ℕ) (octets : List ℕ) → IsBytes octets → Holds (FlagsAre n octets) (flags_at n octets)
unfolding flags_at
flags_found n octets bytes =
    let low = slice_index octets 0 in
    let high = slice_index octets 1 in
    let last : (List ℕ × List ℕ) → Taken ℕ = λ part. check (ltb high (2 ^ (n - 8))) (flaw_at ReservedFlag (drop 1 octets)) >>= λ _. Ok (low + 256 * high, part.1) in
    holds_bind (PartIs octets 2) (FlagsAre n octets) (part_at octets octets 2) (λ part. check (ltb low (2 ^ min n 8)) (flaw_at ReservedFlag octets) >>= λ _. last part) (part_found octets octets 2 bytes)
    (λ part p. holds_check (FlagsAre n octets) (ltb low (2 ^ min n 8)) (flaw_at ReservedFlag octets) (last part)
    (λ l. holds_check (FlagsAre n octets) (ltb high (2 ^ (n - 8))) (flaw_at ReservedFlag (drop 1 octets)) (Ok (low + 256 * high, part.1))
    (λ h. two part.0 part.1 octets bytes p.parts p.long p.rest (ltb-true low (2 ^ min n 8) l) (ltb-true high (2 ^ (n - 8)) h))))
  where
    two : (front rest all : List ℕ) → IsBytes all → all ≡ front ++ rest → length front ≡ 2 → IsBytes rest → slice_index all 0 < 2 ^ min n 8 → slice_index all 1 < 2 ^ (n - 8)
        → FlagsAre n all (slice_index all 0 + 256 * slice_index all 1, rest)
    two front rest [] b e len r l h = absurd (omega (arith, ap length e, length-append front rest, len))
    two front rest (x ∷ []) b e len r l h = absurd (omega (arith, ap length e, length-append front rest, len))
    two [] rest (x ∷ y ∷ all) b e len r l h = absurd (omega (arith, len))
    two (u ∷ []) rest (x ∷ y ∷ all) b e len r l h = absurd (omega (arith, len))
    two (u ∷ v ∷ w ∷ ws) rest (x ∷ y ∷ all) b e len r l h = absurd (omega (arith, len))
    two (u ∷ v ∷ []) rest (x ∷ y ∷ all) b e len r l h =
        let low : (x + 256 * y) % 256 ≡ x = omega (arith, b 0) in
        let high : (x + 256 * y) / 256 ≡ y = omega (arith, b 0) in
        let after : all ≡ rest = ap (drop 2) e in
        record {
          below = flags_low n x y l h (b 0);
          parts = ap (λ m. m ∷ y ∷ all) (sym low) ∙ ap (λ m. (x + 256 * y) % 256 ∷ m ∷ all) (sym high) ∙ ap (λ zs. (x + 256 * y) % 256 ∷ (x + 256 * y) / 256 ∷ zs) after;
          rest = r;
        }

-- ---- fields by a reader of each

abbrev pub AllFound : Reader → List FieldKind → Type 0
AllFound one [] = Unit {0}
AllFound one (kind ∷ table) = ((octets : List ℕ) → IsBytes octets → Holds (FieldIs kind octets) (one kind octets)) × AllFound one table

record SlotIs (kind : FieldKind) (flags : ℕ) (octets : List ℕ) (x : Field × List ℕ) : Type 0 where
  pub stands : Stands kind x.0
  pub fine : is_fine x.0 ≡ true
  pub flag : flag_of x.0 ≡ flags % 2
  pub text : List ℕ
  pub spelled : Spelled x.0 text
  pub parts : octets ≡ text ++ x.1
  pub rest : IsBytes x.1

slot_found : (one : Reader) (kind : FieldKind) (flags : ℕ) (octets : List ℕ) → IsBytes octets → Holds (FieldIs kind octets) (one kind octets) → Holds (SlotIs kind flags octets) (slot_at one kind flags octets)
unfolding slot_at
slot_found one kind flags octets bytes found = by (eqb (flags % 2) 1) refl
  where
    by : (b : Bool) → eqb (flags % 2) 1 ≡ b → Holds (SlotIs kind flags octets) (if b then one kind octets else Ok (f.Absent, octets))
    by true e = holds_map (FieldIs kind octets) (SlotIs kind flags octets) (one kind octets) found
        (λ x p. record { stands = p.stands; fine = p.fine; flag = p.there ∙ sym (eqb-true (flags % 2) 1 e); text = p.text; spelled = p.spelled; parts = p.parts; rest = p.rest })
    by false e =
        let odd : flags % 2 ≡ 1 → ⊥ = λ one'. false≢true (sym e ∙ eq-eqb (flags % 2) 1 one') in
        let even : 0 ≡ flags % 2 = elim (cases_lt (flags % 2) 1) [
          | inl lt ↦ omega (arith, lt)
          | inr le ↦ absurd (odd (omega (arith, le)))
        ] in
        record { stands = tt; fine = refl; flag = even; text = []; spelled = refl; parts = refl; rest = bytes }

record SlotsAre (table : List FieldKind) (front : List Field) (flags : ℕ) (octets : List ℕ) (x : List Field × List ℕ) : Type 0 where
  pub more : List Field
  pub items : x.0 ≡ front ++ more
  pub alike : Alike table more
  pub fine : list_all is_fine more ≡ true
  pub flags_are : flags_of more ≡ flags
  pub texts : List (List ℕ)
  pub each : Each more texts
  pub parts : octets ≡ flat_map (λ text. text) texts ++ x.1
  pub rest : IsBytes x.1

slots_found : (one : Reader) (table : List FieldKind) (flags : ℕ) (front : List Field) (octets : List ℕ) → AllFound one table → flags < 2 ^ length table → IsBytes octets
    → Holds (SlotsAre table front flags octets) (slots_at one table flags front octets)
unfolding slots_at Alike Each bits
slots_found one [] flags front octets found below bytes =
    record { more = []; items = sym (append-nil front); alike = refl; fine = refl; flags_are = omega (arith, below); texts = []; each = refl; parts = refl; rest = bytes }
slots_found one (kind ∷ table) flags front octets (found, others) below bytes =
    let one_more : length (kind ∷ table) ≡ 1 + length table = omega arith in
    let twice : 2 ^ length (kind ∷ table) ≡ 2 * 2 ^ length table = ap (λ n. 2 ^ n) one_more ∙ pow-add 2 1 (length table) in
    let half : flags / 2 < 2 ^ length table = omega (arith, below, twice) in
    holds_bind (SlotIs kind flags octets) (SlotsAre (kind ∷ table) front flags octets) (slot_at one kind flags octets) (λ x. slots_at one table (flags / 2) (front ++ x.0 ∷ []) x.1)
    (slot_found one kind flags octets bytes (found octets bytes))
    (λ x s. holds_map (SlotsAre table (front ++ x.0 ∷ []) (flags / 2) x.1) (SlotsAre (kind ∷ table) front flags octets) (slots_at one table (flags / 2) (front ++ x.0 ∷ []) x.1)
    (slots_found one table (flags / 2) (front ++ x.0 ∷ []) x.1 others half s.rest)
    (λ y m. record {
      more = x.0 ∷ m.more;
      items = m.items ∙ append_assoc front (x.0 ∷ []) m.more;
      alike = (s.stands, m.alike);
      fine = and_from (is_fine x.0) (list_all is_fine m.more) s.fine m.fine;
      flags_are = omega (arith, s.flag, m.flags_are);
      texts = s.text ∷ m.texts;
      each = (s.spelled, m.each);
      parts = s.parts ∙ ap (λ xs. s.text ++ xs) m.parts ∙ sym (append_assoc s.text (flat_map (λ text. text) m.texts) y.1) ∙ ap (λ xs. xs ++ y.1) (sym (flat_map-cons (λ text. text) s.text m.texts));
      rest = m.rest;
    }))

pub record FieldsAre (table : List FieldKind) (octets : List ℕ) (x : List Field × List ℕ) : Type 0 where
  pub fit : AreOf table x.0
  pub packs : Packs x.0 octets x.1
  pub rest : IsBytes x.1

pub fields_found : (one : Reader) (table : List FieldKind) (octets : List ℕ) → AllFound one table → IsBytes octets → Holds (FieldsAre table octets) (fields_at one table octets)
unfolding fields_at
fields_found one table octets found bytes =
    holds_bind (FlagsAre (length table) octets) (FieldsAre table octets) (flags_at (length table) octets) (λ flags. slots_at one table flags.0 [] flags.1) (flags_found (length table) octets bytes)
    (λ flags f. holds_map (SlotsAre table [] flags.0 flags.1) (FieldsAre table octets) (slots_at one table flags.0 [] flags.1) (slots_found one table flags.0 [] flags.1 found f.below f.rest)
    (λ x m. subst (λ xs. FieldsAre table octets (xs, x.1)) (sym m.items) (record {
      fit = (m.alike, m.fine);
      packs = record {
        texts = m.texts;
        each = m.each;
        parts = f.parts ∙ ap (λ zs. flags.0 % 256 ∷ flags.0 / 256 ∷ zs) m.parts ∙ ap (λ n. n % 256 ∷ n / 256 ∷ flat_map (λ text. text) m.texts ++ x.1) (sym m.flags_are);
      };
      rest = m.rest;
    })))
