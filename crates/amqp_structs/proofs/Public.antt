-- The laws of reading, for the public call.
use Rattle.std.proofs.Common.{◌≡◌, ℕ, true, List, length, Result, Ok, Err, IfOk, ap, subst, ◌∙◌}
use Rattle.std.specs.List.{list_all}
use Rattle.octet_reading.specs.declared.flaw.Flaw.{Flaw}
use Rattle.octet_reading.specs.Reading.{IsBytes}
use Rattle.octet_reading.proofs.Found.{Holds}
use Rattle.amqp_values.specs.declared.fault.ValueFault.{ValueFault}
use Rattle.amqp_terms.specs.declared.content.HeaderItem.{HeaderItem}
use Rattle.amqp_structs.specs.declared.error.HeaderError.{HeaderError}
use Rattle.amqp_structs.specs.Header.{header_in, header_octets, is_sound, has_spelling, index_of, read_in, Answers}
use Rattle.amqp_structs.specs.Spelled.{HeaderSpelled}
use Rattle.amqp_structs.proofs.Again.{header_again}
use Rattle.amqp_structs.proofs.Found.{HeaderIs, header_found}

pub read_back : (octets : List ℕ) (items : List HeaderItem) → list_all has_spelling items ≡ true → octets ≡ header_octets items → read_in octets ≡ Ok items
read_back octets items fine is = ap (λ os. index_of (length octets) (header_in os)) is ∙ ap (index_of (length octets)) (header_again items fine)

abbrev Found : List ℕ → Result (List HeaderItem) ValueFault → Type 0
Found octets (Ok items) = (list_all is_sound items ≡ true) × HeaderSpelled items octets
Found octets (Err fault) = Unit {0}

indexed : (octets : List ℕ) (end : ℕ) (r : Result (List HeaderItem) Flaw) → Holds (HeaderIs octets) r → Found octets (index_of end r)
indexed octets end (Ok items) m = (m.sound, m.spelled)
indexed octets end (Err flaw) m = tt

pub found_in : (octets : List ℕ) (r : Result (List HeaderItem) HeaderError) → IsBytes octets → Answers r (read_in octets) → IfOk r (λ items. (list_all is_sound items ≡ true) × HeaderSpelled items octets)
found_in octets (Err error) bytes e = tt
found_in octets (Ok items) bytes e = subst (Found octets) e (indexed octets (length octets) (header_in octets) (header_found octets bytes))
