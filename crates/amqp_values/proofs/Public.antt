-- The laws of reading, by index.
use Rattle.std.proofs.Common.{◌≡◌, ℕ, ◌+◌, ◌-◌, ◌&&◌, leb, ◌++◌, List, length, drop, true, Result, Ok, Err, IfOk, refl, ap, sym, subst, ◌∙◌, arith}
use Rattle.std.proofs.lemmas.Bool.{and_parts, leb-true, le-leb}
use Rattle.std.proofs.lemmas.List.{length-append, length-drop, drop-drop, drop_at}
use Rattle.std.specs.Prelude.{max}
use Rattle.amqp_values.specs.declared.value.Value.{Value}
use Rattle.amqp_values.specs.Spelling.{told, spelling, is_valid}
use Rattle.octet_reading.specs.Reading.{Taken, IsBytes}
use Rattle.amqp_values.specs.declared.fault.ValueFault.{ValueFault}
use Rattle.amqp_values.specs.declared.fault.ValueError.{ValueError}
use Rattle.amqp_values.specs.Values.{value_at, index_of, read_at, Answers}
use Rattle.octet_reading.proofs.Found.{IsBytes-drop, Holds}
use Rattle.amqp_values.proofs.Spelled.{ValueIs, finds}
use Rattle.amqp_values.proofs.ReadBack.{reads}

pub read_back : (code : ℕ) (octets : List ℕ) (at : ℕ) (value : Value) (rest : List ℕ) → is_valid value ≡ true → (told value).code ≡ code → drop at octets ≡ spelling value ++ rest
    → read_at code octets at ≡ Ok (value, at + length (spelling value))
read_back code octets at value rest valid same there =
    let p = and_parts (told value).fine (leb (told value).levels 16) valid in
    let read : value_at 16 code (drop at octets) ≡ Ok (value, rest) =
    ap (value_at 16 code) there ∙ subst (λ c. value_at 16 c (spelling value ++ rest) ≡ Ok (value, rest)) same (reads 16 value p.0 (leb-true (told value).levels 16 p.1) rest) in
    let sizes : length octets - at ≡ length (spelling value) + length rest = sym (length-drop at octets) ∙ ap length there ∙ length-append (spelling value) rest in
    let end : max at (length octets) - length rest ≡ at + length (spelling value) = omega (arith, sizes) in
    ap (index_of (max at (length octets))) read ∙ ap (λ n. Ok (value, n)) end

-- what was read from an index stands there, and what follows it from the index after
abbrev pub StandsAt : ℕ → List ℕ → ℕ → (Value × ℕ) → Type 0
StandsAt code octets at x = (is_valid x.0 ≡ true) × ((told x.0).code ≡ code) × (drop at octets ≡ spelling x.0 ++ drop x.1 octets)

abbrev pub InOk : ((Value × ℕ) → Type 0) → Result (Value × ℕ) ValueFault → Type 0
InOk P (Ok x) = P x
InOk P (Err fault) = Unit {0}

stands : (code : ℕ) (octets : List ℕ) (at : ℕ) (r : Taken Value) → Holds (ValueIs 16 code (drop at octets)) r → InOk (StandsAt code octets at) (index_of (max at (length octets)) r)
stands code octets at (Ok (value, rest)) s =
    let sizes : length octets - at ≡ length (spelling value) + length rest = sym (length-drop at octets) ∙ ap length s.parts ∙ length-append (spelling value) rest in
    let end : max at (length octets) - length rest ≡ at + length (spelling value) = omega (arith, sizes) in
    let after : drop (max at (length octets) - length rest) octets ≡ rest =
    ap (λ n. drop n octets) end ∙ sym (drop-drop (length (spelling value)) at octets) ∙ ap (drop (length (spelling value))) s.parts ∙ drop_at (spelling value) rest (length (spelling value)) refl in
    let levels = le-leb (told value).levels 16 s.levels in
    (ap (λ b. b && leb (told value).levels 16) s.fine ∙ levels, s.code_is, s.parts ∙ ap (λ xs. spelling value ++ xs) (sym after))
stands code octets at (Err flaw) s = tt

pub found : (code : ℕ) (octets : List ℕ) (at : ℕ) → IsBytes octets → InOk (StandsAt code octets at) (read_at code octets at)
found code octets at bytes = stands code octets at (value_at 16 code (drop at octets)) (finds 16 code (drop at octets) (IsBytes-drop at octets bytes))

pub found_in : (code : ℕ) (octets : List ℕ) (at : ℕ) (r : Result (Value × ℕ) ValueError) → IsBytes octets → Answers r (read_at code octets at) → IfOk r (StandsAt code octets at)
found_in code octets at (Ok x) bytes e = subst (InOk (StandsAt code octets at)) e (found code octets at bytes)
found_in code octets at (Err error) bytes e = tt
