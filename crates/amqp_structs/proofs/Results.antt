-- Results that were written are read again, and what is read is spelled so.
use Rattle.std.proofs.Common.{◌≡◌, if◌then◌else◌, ℕ, ◌&&◌, Bool, true, false, eqb, List, [], ◌∷◌, ◌++◌, length, Option, None, Some, Result, Ok, Err, IfOk, refl, sym, ap, subst, ◌∙◌, arith}
use Rattle.std.specs.Prelude.{slice_index, is_some}
use Rattle.std.specs.List.{find, list_all}
use Rattle.std.proofs.lemmas.Bool.{and_parts, eqb-true, false≢true}
use Rattle.octet_reading.specs.declared.why.Why.TheVariants.{BadStruct, SizeDiffers}
use Rattle.octet_reading.specs.declared.flaw.Flaw.{Flaw}
use Rattle.octet_reading.specs.Reading.{◌>>=◌, flaw_at, part_at, IsBytes}
use Rattle.octet_reading.proofs.Again.{part_again}
use Rattle.octet_reading.proofs.Found.{Holds, holds_bind, PartIs, part_found}
use Rattle.amqp_values.specs.declared.fault.ValueFault.{ValueFault}
use Rattle.amqp_terms.specs.declared.result.ResultValue.{ResultValue}
use Rattle.amqp_terms.specs.declared.result.ResultValue.TheVariants as v
use Rattle.amqp_packed.specs.declared.field.Field.{Field}
use Rattle.amqp_packed.specs.Reading.{all_fields_at}
use Rattle.amqp_packed.specs.Spelling.{packed, is_fine, Alike}
use Rattle.amqp_packed.specs.Spelled.{Packs}
use Rattle.amqp_packed.proofs.Again.{all_fields_again}
use Rattle.amqp_packed.proofs.Structs.{AllIs, all_fields_found}
use Rattle.amqp_packed.proofs.Rounds.{rounds, rounds_stay}
use Rattle.amqp_packed.proofs.Typed.{back_array, stands_array, back_bit, stands_bit, back_map, stands_map, back_ranges, stands_ranges, back_str8, stands_str8, back_u16, stands_u16, back_u32, stands_u32}
use Rattle.amqp_structs.specs.declared.result.ResultKind.{ResultKind}
use Rattle.amqp_structs.specs.declared.result.ResultKind.TheVariants as rk
use Rattle.amqp_structs.specs.declared.error.HeaderError.{HeaderError}
use Rattle.amqp_structs.specs.Header.{index_of, Answers}
use Rattle.amqp_structs.specs.Results.{result_class, result_code, all_results, result_kind, result_table, result_kind_of, result_fields, result_by, known, result_in, read_result_in, result_head, result_octets, result_fine, ResultSpelled}

result_back : (value : ResultValue) → result_by (result_kind_of value) (result_fields value) ≡ value
result_back (v.Acquired a) = rw (back_ranges a) refl
result_back (v.XaResult a) = rw (back_u16 a) refl
result_back (v.GetTimeoutResult a) = rw (back_u32 a) refl
result_back (v.RecoverResult a) = rw (back_array a) refl
result_back (v.ExchangeQueryResult a b c d) = rw (back_str8 a, back_bit b, back_bit c, back_map d) refl
result_back (v.ExchangeBoundResult a b c d e) = rw (back_bit a, back_bit b, back_bit c, back_bit d, back_bit e) refl
result_back (v.QueueQueryResult a b c d e f g h) = rw (back_str8 a, back_str8 b, back_bit c, back_bit d, back_bit e, back_map f, back_u32 g, back_u32 h) refl

result_stands : (value : ResultValue) → Alike (result_table (result_kind_of value)) (result_fields value)
unfolding Alike
result_stands (v.Acquired a) = (stands_ranges a, refl)
result_stands (v.XaResult a) = (stands_u16 a, refl)
result_stands (v.GetTimeoutResult a) = (stands_u32 a, refl)
result_stands (v.RecoverResult a) = (stands_array a, refl)
result_stands (v.ExchangeQueryResult a b c d) = (stands_str8 a, (stands_bit b, (stands_bit c, (stands_map d, refl))))
result_stands (v.ExchangeBoundResult a b c d e) = (stands_bit a, (stands_bit b, (stands_bit c, (stands_bit d, (stands_bit e, refl)))))
result_stands (v.QueueQueryResult a b c d e f g h) = (stands_str8 a, (stands_str8 b, (stands_bit c, (stands_bit d, (stands_bit e, (stands_map f, (stands_u32 g, (stands_u32 h, refl))))))))

result_rounds : (kind : ResultKind) (fields : List Field) → result_fields (result_by kind fields) ≡ rounds (result_table kind) fields
result_rounds rk.Acquired fields = refl
result_rounds rk.XaResult fields = refl
result_rounds rk.GetTimeoutResult fields = refl
result_rounds rk.RecoverResult fields = refl
result_rounds rk.ExchangeQueryResult fields = refl
result_rounds rk.ExchangeBoundResult fields = refl
result_rounds rk.QueueQueryResult fields = refl

result_made : (kind : ResultKind) (fields : List Field) → result_kind_of (result_by kind fields) ≡ kind
result_made rk.Acquired fields = refl
result_made rk.XaResult fields = refl
result_made rk.GetTimeoutResult fields = refl
result_made rk.RecoverResult fields = refl
result_made rk.ExchangeQueryResult fields = refl
result_made rk.ExchangeBoundResult fields = refl
result_made rk.QueueQueryResult fields = refl

result_known : (kind : ResultKind) → result_kind (result_class kind) (result_code kind) ≡ Some kind
unfolding result_kind
result_known rk.Acquired = refl
result_known rk.XaResult = refl
result_known rk.GetTimeoutResult = refl
result_known rk.RecoverResult = refl
result_known rk.ExchangeQueryResult = refl
result_known rk.ExchangeBoundResult = refl
result_known rk.QueueQueryResult = refl

kind_again : (kind : ResultKind) (fields : List Field) (value : ResultValue) → all_fields_at SizeDiffers (result_table kind) (packed fields) ≡ Ok fields → result_by kind fields ≡ value
    → result_in (result_head kind ++ packed fields) ≡ Ok value
unfolding result_in
kind_again kind fields value read made =
    let all = result_head kind ++ packed fields in
    let last : List ℕ → ResultKind → Result ResultValue Flaw = λ args k. all_fields_at SizeDiffers (result_table k) args >>= λ fs. Ok (result_by k fs) in
    ap (λ r. r >>= λ head. known (flaw_at BadStruct all) (result_kind (result_class kind) (result_code kind)) >>= last head.1) (part_again all (result_head kind) (packed fields))
    ∙ ap (λ o. known (flaw_at BadStruct all) o >>= last (packed fields)) (result_known kind)
    ∙ ap (λ r. r >>= λ fs. Ok (result_by kind fs)) read
    ∙ ap Ok made

pub result_again : (octets : List ℕ) (value : ResultValue) → result_fine value ≡ true → octets ≡ result_octets value → read_result_in octets ≡ Ok value
result_again octets value fine is =
    ap (λ os. index_of (length octets) (result_in os)) is
    ∙ ap (index_of (length octets)) (kind_again (result_kind_of value) (result_fields value) value (all_fields_again SizeDiffers (result_table (result_kind_of value)) (result_fields value) (result_stands value, fine)) (result_back value))

-- ---- what is read

pub some_same : {X : Type 0} (d x y : X) → Some x ≡ Some y → x ≡ y
some_same d x y e = ap (λ o. get_some d o) e
  where
    get_some : {X : Type 0} → X → Option X → X
    get_some d None = d
    get_some d (Some z) = z

pub found_passes : {X : Type 0} (test : X → Bool) (xs : List X) (y : X) → find test xs ≡ Some y → test y ≡ true
found_passes test [] y e = absurd (false≢true (ap is_some e))
found_passes test (x ∷ xs) y e = by (test x) refl e (found_passes test xs y)
  where
    by : (b : Bool) → test x ≡ b → (if b then Some x else find test xs) ≡ Some y → (find test xs ≡ Some y → test y ≡ true) → test y ≡ true
    by true h e' more = ap test (sym (some_same x x y e')) ∙ h
    by false h e' more = more e'

pub record HasCode (class code class' code' : ℕ) : Type 0 where
  pub class_is : class' ≡ class
  pub code_is : code' ≡ code

result_codes : (class code : ℕ) (kind : ResultKind) → result_kind class code ≡ Some kind → HasCode class code (result_class kind) (result_code kind)
unfolding result_kind
result_codes class code kind e =
    let p = and_parts (eqb (result_class kind) class) (eqb (result_code kind) code) (found_passes (λ k. eqb (result_class k) class && eqb (result_code k) code) all_results kind e) in
    record { class_is = eqb-true (result_class kind) class p.0; code_is = eqb-true (result_code kind) code p.1 }

kind_found : (octets : List ℕ) (class code : ℕ) (args : List ℕ) → octets ≡ class ∷ code ∷ args → IsBytes args → (kind : ResultKind) → result_kind class code ≡ Some kind
    → Holds (λ value. ResultSpelled value octets) (all_fields_at SizeDiffers (result_table kind) args >>= λ fields. Ok (result_by kind fields))
kind_found octets class code args is bytes kind k =
    holds_bind (AllIs (result_table kind) args) (λ value. ResultSpelled value octets) (all_fields_at SizeDiffers (result_table kind) args) (λ fields. Ok (result_by kind fields)) (all_fields_found SizeDiffers (result_table kind) args bytes)
    (λ fields all.
    let same : fields ≡ result_fields (result_by kind fields) = sym (result_rounds kind fields ∙ rounds_stay (result_table kind) fields all.fit.0) in
    let codes = result_codes class code kind k in
    record {
      text = args;
      is = is ∙ ap (λ n. n ∷ code ∷ args) (sym codes.class_is) ∙ ap (λ n. result_class kind ∷ n ∷ args) (sym codes.code_is) ∙ ap (λ k'. result_head k' ++ args) (sym (result_made kind fields));
      packs = subst (λ fs. Packs fs args []) same all.packs;
      fine = subst (λ fs. list_all is_fine fs ≡ true) same all.fit.1;
    })

pub two_parts : (octets front rest : List ℕ) → octets ≡ front ++ rest → length front ≡ 2 → octets ≡ slice_index octets 0 ∷ slice_index octets 1 ∷ rest
two_parts octets [] rest e len = absurd (omega (arith, len))
two_parts octets (x ∷ []) rest e len = absurd (omega (arith, len))
two_parts octets (x ∷ y ∷ []) rest e len = e ∙ sym (ap (λ os. slice_index os 0 ∷ slice_index os 1 ∷ rest) e)
two_parts octets (x ∷ y ∷ z ∷ front) rest e len = absurd (omega (arith, len))

result_found : (octets : List ℕ) → IsBytes octets → Holds (λ value. ResultSpelled value octets) (result_in octets)
unfolding result_in
result_found octets bytes =
    let Q = λ (value : ResultValue). ResultSpelled value octets in
    holds_bind (PartIs octets 2) Q (part_at octets octets 2)
    (λ head. known (flaw_at BadStruct octets) (result_kind (slice_index octets 0) (slice_index octets 1)) >>= λ kind. all_fields_at SizeDiffers (result_table kind) head.1 >>= λ fields. Ok (result_by kind fields)) (part_found octets octets 2 bytes)
    (λ head p. by head.1 (two_parts octets head.0 head.1 p.parts p.long) p.rest (result_kind (slice_index octets 0) (slice_index octets 1)) refl)
  where
    by : (args : List ℕ) → octets ≡ slice_index octets 0 ∷ slice_index octets 1 ∷ args → IsBytes args → (o : Option ResultKind) → result_kind (slice_index octets 0) (slice_index octets 1) ≡ o
        → Holds (λ value. ResultSpelled value octets) (known (flaw_at BadStruct octets) o >>= λ kind. all_fields_at SizeDiffers (result_table kind) args >>= λ fields. Ok (result_by kind fields))
    by args is bytes None k = tt
    by args is bytes (Some kind) k = kind_found octets (slice_index octets 0) (slice_index octets 1) args is bytes kind k

abbrev Told : List ℕ → Result ResultValue ValueFault → Type 0
Told octets (Ok value) = ResultSpelled value octets
Told octets (Err fault) = Unit {0}

indexed : (octets : List ℕ) (end : ℕ) (r : Result ResultValue Flaw) → Holds (λ value. ResultSpelled value octets) r → Told octets (index_of end r)
indexed octets end (Ok value) m = m
indexed octets end (Err flaw) m = tt

pub found_in : (octets : List ℕ) (r : Result ResultValue HeaderError) → IsBytes octets → Answers r (read_result_in octets) → IfOk r (λ value. ResultSpelled value octets)
found_in octets (Err error) bytes e = tt
found_in octets (Ok value) bytes e = subst (Told octets) e (indexed octets (length octets) (result_in octets) (result_found octets bytes))
