-- Items are read one after the other, as loops do.
use Rattle.std.proofs.Common.{◌≡◌, ℕ, suc, ◌+◌, ◌-◌, ◌<◌, ◌≤◌, ◌/◌, List, [], ◌∷◌, ◌++◌, Result, Ok, sym, ap, ◌∙◌, refl, arith}
use Rattle.octet_reading.specs.declared.flaw.Flaw.{Flaw}
use Rattle.octet_reading.specs.declared.flaw.ReadError.{ReadError}
use Rattle.octet_reading.specs.declared.flaw.ReadError.TheVariants as error
use Rattle.octet_reading.specs.Reading.{Taken, ◌>>=◌, Fails}
use Rattle.amqp_values.specs.declared.value.Range.{Range}
use Rattle.amqp_packed.specs.declared.field.FieldKind.{FieldKind}
use Rattle.amqp_packed.specs.declared.field.Field.{Field}
use Rattle.amqp_packed.specs.Reading.{Reader, range_at, ranges_from, slot_at, slots_at}

ranges_step : (front : List Range) (n : ℕ) (rest : List ℕ) → ranges_from (suc n) front rest ≡ (range_at rest >>= λ x. ranges_from n (front ++ x.0 ∷ []) x.1)
unfolding ranges_from
ranges_step front n rest = refl

left : (count i : ℕ) → i < count → count - i ≡ suc (count - (i + 1))
left count i lt = omega arith

pub range_fails : (e : ReadError) (front : List Range) (count i : ℕ) (rest : List ℕ) (total : Result (List Range) Flaw) → i < count → Fails e (range_at rest)
    → ranges_from (count - i) front rest ≡ total → Fails e total
range_fails error.Memory front count i rest total lt f so_far = tt
range_fails (error.Flaw flaw) front count i rest total lt f so_far =
    sym so_far ∙ ap (λ n. ranges_from n front rest) (left count i lt) ∙ ranges_step front (count - (i + 1)) rest
    ∙ ap (λ r. r >>= λ x. ranges_from (count - (i + 1)) (front ++ x.0 ∷ []) x.1) f

pub range_goes_on : (front : List Range) (count i : ℕ) (rest : List ℕ) (x : Range) (more : List ℕ) (total : Result (List Range) Flaw) → i < count → range_at rest ≡ Ok (x, more)
    → ranges_from (count - i) front rest ≡ total → ranges_from (count - (i + 1)) (front ++ x ∷ []) more ≡ total
range_goes_on front count i rest x more total lt h so_far =
    sym (ap (λ n. ranges_from n front rest) (left count i lt) ∙ ranges_step front (count - (i + 1)) rest
    ∙ ap (λ r. r >>= λ y. ranges_from (count - (i + 1)) (front ++ y.0 ∷ []) y.1) h) ∙ so_far

none_left : (front : List Range) (rest : List ℕ) → ranges_from 0 front rest ≡ Ok front
unfolding ranges_from
none_left front rest = refl

pub ranges_done : (front : List Range) (count i : ℕ) (rest : List ℕ) (total : Result (List Range) Flaw) → count ≤ i → ranges_from (count - i) front rest ≡ total → total ≡ Ok front
ranges_done front count i rest total le so_far =
    let over : count - i ≡ 0 = omega arith in
    sym so_far ∙ ap (λ n. ranges_from n front rest) over ∙ none_left front rest

slots_step : (one : Reader) (kind : FieldKind) (kinds : List FieldKind) (flags : ℕ) (front : List Field) (rest : List ℕ)
    → slots_at one (kind ∷ kinds) flags front rest ≡ (slot_at one kind flags rest >>= λ x. slots_at one kinds (flags / 2) (front ++ x.0 ∷ []) x.1)
unfolding slots_at
slots_step one kind kinds flags front rest = refl

pub slot_fails : (e : ReadError) (one : Reader) (kind : FieldKind) (kinds more : List FieldKind) (flags : ℕ) (front : List Field) (rest : List ℕ) (total : Taken (List Field))
    → kinds ≡ kind ∷ more → Fails e (slot_at one kind flags rest) → slots_at one kinds flags front rest ≡ total → Fails e total
slot_fails error.Memory one kind kinds more flags front rest total is f so_far = tt
slot_fails (error.Flaw flaw) one kind kinds more flags front rest total is f so_far =
    sym so_far ∙ ap (λ ks. slots_at one ks flags front rest) is ∙ slots_step one kind more flags front rest
    ∙ ap (λ r. r >>= λ x. slots_at one more (flags / 2) (front ++ x.0 ∷ []) x.1) f

pub slot_goes_on : (one : Reader) (kind : FieldKind) (kinds more : List FieldKind) (flags : ℕ) (front : List Field) (rest : List ℕ) (x : Field) (after : List ℕ) (total : Taken (List Field))
    → kinds ≡ kind ∷ more → slot_at one kind flags rest ≡ Ok (x, after) → slots_at one kinds flags front rest ≡ total → slots_at one more (flags / 2) (front ++ x ∷ []) after ≡ total
slot_goes_on one kind kinds more flags front rest x after total is h so_far =
    sym (ap (λ ks. slots_at one ks flags front rest) is ∙ slots_step one kind more flags front rest
    ∙ ap (λ r. r >>= λ y. slots_at one more (flags / 2) (front ++ y.0 ∷ []) y.1) h) ∙ so_far

no_slots : (one : Reader) (flags : ℕ) (front : List Field) (rest : List ℕ) → slots_at one [] flags front rest ≡ Ok (front, rest)
unfolding slots_at
no_slots one flags front rest = refl

pub slots_done : (one : Reader) (kinds : List FieldKind) (flags : ℕ) (front : List Field) (rest : List ℕ) (total : Taken (List Field)) → kinds ≡ [] → slots_at one kinds flags front rest ≡ total → total ≡ Ok (front, rest)
slots_done one kinds flags front rest total is so_far = sym so_far ∙ ap (λ ks. slots_at one ks flags front rest) is ∙ no_slots one flags front rest
