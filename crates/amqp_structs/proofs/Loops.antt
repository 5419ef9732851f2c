-- Structs are read one after the other, as the loop does.
use Rattle.std.proofs.Common.{◌≡◌, Bool, true, false, eqb, ℕ, zero, suc, ◌+◌, ◌-◌, ◌<◌, ◌≤◌, List, [], ◌∷◌, ◌++◌, length, Result, Ok, sym, ap, ◌∙◌, refl, arith}
use Rattle.std.proofs.lemmas.Bool.{eqb-true, true≢false}
use Rattle.std.proofs.lemmas.List.{nil_from_length}
use Rattle.octet_reading.specs.declared.flaw.Flaw.{Flaw}
use Rattle.octet_reading.specs.declared.flaw.ReadError.{ReadError}
use Rattle.octet_reading.specs.declared.flaw.ReadError.TheVariants as error
use Rattle.octet_reading.specs.Reading.{◌>>=◌, Fails}
use Rattle.amqp_terms.specs.declared.content.HeaderItem.{HeaderItem}
use Rattle.amqp_structs.specs.Header.{struct_at, structs_at}

pub some_left : (n : ℕ) (b : Bool) → b ≡ eqb n 0 → b ≡ false → 0 < n
some_left zero b e f = absurd (true≢false (sym e ∙ f))
some_left (suc n) b e f = omega arith

pub empty : (rest : List ℕ) (b : Bool) → b ≡ eqb (length rest) 0 → b ≡ true → rest ≡ []
empty rest b e t = nil_from_length rest (eqb-true (length rest) 0 (sym e ∙ t))

step : (most : ℕ) (front : List HeaderItem) (rest : List ℕ) → 0 < length rest → structs_at (suc most) front rest ≡ (struct_at rest >>= λ item. structs_at most (front ++ item.0 ∷ []) item.1)
unfolding structs_at
step most front [] some = absurd (omega (arith, some))
step most front (octet ∷ octets) some = refl

left : (count i : ℕ) → i < count → count - i ≡ suc (count - (i + 1))
left count i lt = omega arith

pub fails : (e : ReadError) (front : List HeaderItem) (count i : ℕ) (rest : List ℕ) (total : Result (List HeaderItem) Flaw) → i < count → 0 < length rest → Fails e (struct_at rest)
    → structs_at (count - i) front rest ≡ total → Fails e total
fails error.Memory front count i rest total lt some f so_far = tt
fails (error.Flaw flaw) front count i rest total lt some f so_far =
    sym so_far ∙ ap (λ n. structs_at n front rest) (left count i lt) ∙ step (count - (i + 1)) front rest some
    ∙ ap (λ r. r >>= λ item. structs_at (count - (i + 1)) (front ++ item.0 ∷ []) item.1) f

pub goes_on : (front : List HeaderItem) (count i : ℕ) (rest : List ℕ) (x : HeaderItem) (more : List ℕ) (total : Result (List HeaderItem) Flaw) → i < count → 0 < length rest → struct_at rest ≡ Ok (x, more)
    → structs_at (count - i) front rest ≡ total → structs_at (count - (i + 1)) (front ++ x ∷ []) more ≡ total
goes_on front count i rest x more total lt some h so_far =
    sym (ap (λ n. structs_at n front rest) (left count i lt) ∙ step (count - (i + 1)) front rest some
    ∙ ap (λ r. r >>= λ item. structs_at (count - (i + 1)) (front ++ item.0 ∷ []) item.1) h) ∙ so_far

none_left : (most : ℕ) (front : List HeaderItem) → structs_at most front [] ≡ Ok front
unfolding structs_at
none_left zero front = refl
none_left (suc most) front = refl

pub all_read : (most : ℕ) (front : List HeaderItem) (rest : List ℕ) (total : Result (List HeaderItem) Flaw) → rest ≡ [] → structs_at most front rest ≡ total → total ≡ Ok front
all_read most front rest total none so_far = sym so_far ∙ ap (structs_at most front) none ∙ none_left most front

none_more : (front : List HeaderItem) (rest : List ℕ) → structs_at 0 front rest ≡ Ok front
unfolding structs_at
none_more front [] = refl
none_more front (octet ∷ octets) = refl

pub is_done : (front : List HeaderItem) (count i : ℕ) (rest : List ℕ) (total : Result (List HeaderItem) Flaw) → count ≤ i → structs_at (count - i) front rest ≡ total → total ≡ Ok front
is_done front count i rest total le so_far =
    let over : count - i ≡ 0 = omega arith in
    sym so_far ∙ ap (λ n. structs_at n front rest) over ∙ none_more front rest
