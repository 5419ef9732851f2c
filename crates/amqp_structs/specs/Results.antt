-- The values of execution.result (AMQP 0-10, "message", "dtx", "exchange", "queue").
use Rattle.std.specs.Prelude.{◌≡◌, ℕ, ◌==◌, ◌&&◌, Bool, true, List, [], ◌∷◌, ◌++◌, length, slice_index, Option, None, Some, Result, Ok, Err}
use Rattle.std.specs.List.{find, list_all}
use Rattle.octet_reading.specs.declared.why.Why.TheVariants.{BadStruct, SizeDiffers}
use Rattle.octet_reading.specs.declared.flaw.Flaw.{Flaw}
use Rattle.octet_reading.specs.Reading.{◌>>=◌, flaw_at, part_at}
use Rattle.amqp_values.specs.declared.fault.ValueFault.{ValueFault}
use Rattle.amqp_terms.specs.declared.result.ResultValue.{ResultValue}
use Rattle.amqp_terms.specs.declared.result.ResultValue.TheVariants as v
use Rattle.amqp_packed.specs.declared.field.FieldKind.{FieldKind}
use Rattle.amqp_packed.specs.declared.field.FieldKind.TheVariants as k
use Rattle.amqp_packed.specs.declared.field.Field.{Field}
use Rattle.amqp_packed.specs.Reading.{all_fields_at}
use Rattle.amqp_packed.specs.Spelling.{packed, is_fine}
use Rattle.amqp_packed.specs.Spelled.{Packs}
use Rattle.amqp_packed.specs.Typed.{first, others, as_array, of_array, as_bit, of_bit, as_map, of_map, as_ranges, of_ranges, as_str8, of_str8, as_u16, of_u16, as_u32, of_u32}
use Rattle.amqp_structs.specs.declared.result.ResultKind.{ResultKind}
use Rattle.amqp_structs.specs.declared.result.ResultKind.TheVariants as rk
use Rattle.amqp_structs.specs.Header.{index_of}

-- the class and the code of each kind of result
abbrev pub result_class : ResultKind → ℕ
result_class rk.Acquired = 4
result_class rk.XaResult = 6
result_class rk.GetTimeoutResult = 6
result_class rk.RecoverResult = 6
result_class rk.ExchangeQueryResult = 7
result_class rk.ExchangeBoundResult = 7
result_class rk.QueueQueryResult = 8

abbrev pub result_code : ResultKind → ℕ
result_code rk.Acquired = 4
result_code rk.XaResult = 1
result_code rk.GetTimeoutResult = 2
result_code rk.RecoverResult = 3
result_code rk.ExchangeQueryResult = 1
result_code rk.ExchangeBoundResult = 2
result_code rk.QueueQueryResult = 1

abbrev pub all_results : List ResultKind
all_results = rk.Acquired ∷ rk.XaResult ∷ rk.GetTimeoutResult ∷ rk.RecoverResult ∷ rk.ExchangeQueryResult ∷ rk.ExchangeBoundResult ∷ rk.QueueQueryResult ∷ []

-- the kind of a class and code, if one has them
unfoldable pub result_kind : ℕ → ℕ → Option ResultKind
result_kind class code = find (λ kind. (result_class kind == class) && (result_code kind == code)) all_results

-- its fields, in order
abbrev pub result_table : ResultKind → List FieldKind
result_table rk.Acquired = k.Ranges ∷ []
result_table rk.XaResult = k.U16 ∷ []
result_table rk.GetTimeoutResult = k.U32 ∷ []
result_table rk.RecoverResult = k.Array ∷ []
result_table rk.ExchangeQueryResult = k.Str8 ∷ k.Bit ∷ k.Bit ∷ k.Map ∷ []
result_table rk.ExchangeBoundResult = k.Bit ∷ k.Bit ∷ k.Bit ∷ k.Bit ∷ k.Bit ∷ []
result_table rk.QueueQueryResult = k.Str8 ∷ k.Str8 ∷ k.Bit ∷ k.Bit ∷ k.Bit ∷ k.Map ∷ k.U32 ∷ k.U32 ∷ []

-- what kind a result is, its fields in order, and the result that fields make
abbrev pub result_kind_of : ResultValue → ResultKind
result_kind_of (v.Acquired a) = rk.Acquired
result_kind_of (v.XaResult a) = rk.XaResult
result_kind_of (v.GetTimeoutResult a) = rk.GetTimeoutResult
result_kind_of (v.RecoverResult a) = rk.RecoverResult
result_kind_of (v.ExchangeQueryResult a b c d) = rk.ExchangeQueryResult
result_kind_of (v.ExchangeBoundResult a b c d e) = rk.ExchangeBoundResult
result_kind_of (v.QueueQueryResult a b c d e f g h) = rk.QueueQueryResult

abbrev pub result_fields : ResultValue → List Field
result_fields (v.Acquired a) = of_ranges a ∷ []
result_fields (v.XaResult a) = of_u16 a ∷ []
result_fields (v.GetTimeoutResult a) = of_u32 a ∷ []
result_fields (v.RecoverResult a) = of_array a ∷ []
result_fields (v.ExchangeQueryResult a b c d) = of_str8 a ∷ of_bit b ∷ of_bit c ∷ of_map d ∷ []
result_fields (v.ExchangeBoundResult a b c d e) = of_bit a ∷ of_bit b ∷ of_bit c ∷ of_bit d ∷ of_bit e ∷ []
result_fields (v.QueueQueryResult a b c d e f g h) = of_str8 a ∷ of_str8 b ∷ of_bit c ∷ of_bit d ∷ of_bit e ∷ of_map f ∷ of_u32 g ∷ of_u32 h ∷ []

abbrev pub result_by : ResultKind → List Field → ResultValue
result_by rk.Acquired fs = v.Acquired (as_ranges (first fs))
result_by rk.XaResult fs = v.XaResult (as_u16 (first fs))
result_by rk.GetTimeoutResult fs = v.GetTimeoutResult (as_u32 (first fs))
result_by rk.RecoverResult fs = v.RecoverResult (as_array (first fs))
result_by rk.ExchangeQueryResult fs = v.ExchangeQueryResult (as_str8 (first fs)) (as_bit (first (others fs))) (as_bit (first (others (others fs)))) (as_map (first (others (others (others fs)))))
result_by rk.ExchangeBoundResult fs = v.ExchangeBoundResult (as_bit (first fs)) (as_bit (first (others fs))) (as_bit (first (others (others fs)))) (as_bit (first (others (others (others fs))))) (as_bit (first (others (others (others (others fs))))))
result_by rk.QueueQueryResult fs = v.QueueQueryResult (as_str8 (first fs)) (as_str8 (first (others fs))) (as_bit (first (others (others fs)))) (as_bit (first (others (others (others fs))))) (as_bit (first (others (others (others (others fs)))))) (as_map (first (others (others (others (others (others fs))))))) (as_u32 (first (others (others (others (others (others (others fs)))))))) (as_u32 (first (others (others (others (others (others (others (others fs)))))))))

-- what must be there
abbrev pub known : {A : Type 0} → Flaw → Option A → Result A Flaw
known flaw None = Err flaw
known flaw (Some x) = Ok x

-- class, code and fields; of another class and code it is no result
unfoldable pub result_in : List ℕ → Result ResultValue Flaw
result_in octets = do
  head ← part_at octets octets 2
  kind ← known (flaw_at BadStruct octets) (result_kind (slice_index octets 0) (slice_index octets 1))
  fields ← all_fields_at SizeDiffers (result_table kind) head.1
  Ok (result_by kind fields)

abbrev pub read_result_in : List ℕ → Result ResultValue ValueFault
read_result_in octets = index_of (length octets) (result_in octets)

-- the octets of a result, as they are written
abbrev pub result_head : ResultKind → List ℕ
result_head kind = result_class kind ∷ result_code kind ∷ []

abbrev pub result_octets : ResultValue → List ℕ
result_octets value = result_head (result_kind_of value) ++ packed (result_fields value)

-- a result's fields have spellings
abbrev pub result_fine : ResultValue → Bool
result_fine value = list_all is_fine (result_fields value)

-- class, code and octets that spell the fields, which have spellings
pub record ResultSpelled (value : ResultValue) (octets : List ℕ) : Type 0 where
  pub text : List ℕ
  pub is : octets ≡ result_head (result_kind_of value) ++ text
  pub packs : Packs (result_fields value) text []
  pub fine : result_fine value ≡ true
