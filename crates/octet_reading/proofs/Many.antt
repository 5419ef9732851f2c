-- Items are read one after the other, as a loop does.
use Rattle.std.proofs.Common.{◌≡◌, ℕ, suc, ◌+◌, ◌-◌, ◌<◌, ◌≤◌, ltb, List, [], ◌∷◌, ◌++◌, length, Result, Ok, sym, ap, ◌∙◌, refl, arith}
use Rattle.octet_reading.specs.declared.why.Why.TheVariants.{CountDiffers}
use Rattle.octet_reading.specs.declared.flaw.Flaw.{Flaw}
use Rattle.octet_reading.specs.declared.flaw.ReadError.{ReadError}
use Rattle.octet_reading.specs.declared.flaw.ReadError.TheVariants as error
use Rattle.octet_reading.specs.Reading.{Taken, ◌>>=◌, check, Fails, many_at}

module _ {A : Type 0} (one : List A → List ℕ → Taken A) where
  -- what the loop wants before an item
  abbrev pub more : ℕ → List ℕ → Result (Unit {0}) Flaw
  more from rest = check (ltb 0 (length rest)) (record { left = from; why = CountDiffers })

  step : (front : List A) (n from : ℕ) (rest : List ℕ) → many_at one front (suc n) from rest ≡ (more from rest >>= λ _. one front rest >>= λ x. many_at one (front ++ x.0 ∷ []) n from x.1)
  unfolding many_at
  step front n from rest = refl

  left : (count i : ℕ) → i < count → count - i ≡ suc (count - (i + 1))
  left count i lt = omega arith

  -- nothing is left, and an item should be
  pub more_fails : (e : ReadError) (front : List A) (count i from : ℕ) (rest : List ℕ) (total : Taken (List A)) → i < count → Fails e (more from rest)
      → many_at one front (count - i) from rest ≡ total → Fails e total
  more_fails error.Memory front count i from rest total lt f so_far = tt
  more_fails (error.Flaw flaw) front count i from rest total lt f so_far =
      sym so_far ∙ ap (λ n. many_at one front n from rest) (left count i lt) ∙ step front (count - (i + 1)) from rest
      ∙ ap (λ r. r >>= λ _. one front rest >>= λ x. many_at one (front ++ x.0 ∷ []) (count - (i + 1)) from x.1) f

  -- an item isn't there
  pub one_fails : (e : ReadError) (front : List A) (count i from : ℕ) (rest : List ℕ) (total : Taken (List A)) → i < count → more from rest ≡ Ok tt → Fails e (one front rest)
      → many_at one front (count - i) from rest ≡ total → Fails e total
  one_fails error.Memory front count i from rest total lt m f so_far = tt
  one_fails (error.Flaw flaw) front count i from rest total lt m f so_far =
      sym so_far ∙ ap (λ n. many_at one front n from rest) (left count i lt) ∙ step front (count - (i + 1)) from rest
      ∙ ap (λ r. r >>= λ _. one front rest >>= λ x. many_at one (front ++ x.0 ∷ []) (count - (i + 1)) from x.1) m
      ∙ ap (λ r. r >>= λ x. many_at one (front ++ x.0 ∷ []) (count - (i + 1)) from x.1) f

  -- one item more
  pub goes_on : (front : List A) (count i from : ℕ) (rest : List ℕ) (x : A) (after : List ℕ) (total : Taken (List A)) → i < count → more from rest ≡ Ok tt → one front rest ≡ Ok (x, after)
      → many_at one front (count - i) from rest ≡ total → many_at one (front ++ x ∷ []) (count - (i + 1)) from after ≡ total
  goes_on front count i from rest x after total lt m h so_far =
      sym (ap (λ n. many_at one front n from rest) (left count i lt) ∙ step front (count - (i + 1)) from rest
      ∙ ap (λ r. r >>= λ _. one front rest >>= λ y. many_at one (front ++ y.0 ∷ []) (count - (i + 1)) from y.1) m
      ∙ ap (λ r. r >>= λ y. many_at one (front ++ y.0 ∷ []) (count - (i + 1)) from y.1) h) ∙ so_far

  none_left : (front : List A) (from : ℕ) (rest : List ℕ) → many_at one front 0 from rest ≡ Ok (front, rest)
  unfolding many_at
  none_left front from rest = refl

  -- all were read
  pub is_done : (front : List A) (count i from : ℕ) (rest : List ℕ) (total : Taken (List A)) → count ≤ i → many_at one front (count - i) from rest ≡ total → total ≡ Ok (front, rest)
  is_done front count i from rest total le so_far =
      let over : count - i ≡ 0 = omega arith in
      sym so_far ∙ ap (λ n. many_at one front n from rest) over ∙ none_left front from rest
