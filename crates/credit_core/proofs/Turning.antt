-- The first place that can take what its queue offers.
use Rattle.std.proofs.Common.{◌≡◌, ℕ, zero, suc, ◌+◌, ◌<◌, ◌≤◌, Bool, true, false, List, [], ◌∷◌, length, take, Option, Some, None, refl, sym, ap, ◌∙◌, arith, slice_index_or, if◌then◌else◌}
use Rattle.std.proofs.lemmas.Bool.{true≢false}
use Rattle.std.proofs.lemmas.Option.{none-some}
use Rattle.credit_core.specs.declared.sub.SubState.{SubState}
use Rattle.credit_core.specs.Turns.{takes_offer, further, ready}

further_none : (r : Option ℕ) → further r ≡ None → r ≡ None
further_none None e = refl
further_none (Some n) e = absurd (none-some (n + 1) (sym e))

first_none : (b : Bool) (r : Option ℕ) → (if b then Some 0 else further r) ≡ None → (b ≡ false) × (r ≡ None)
first_none true r e = absurd (none-some 0 (sym e))
first_none false r e = (refl, further_none r e)

-- what comes of the first, and of the rest
by_first : (b : Bool) (r s : Option ℕ) → b ≡ false → r ≡ s → (if b then Some 0 else further r) ≡ further s
by_first true r s e e' = absurd (true≢false e)
by_first false r s e e' = ap further e'

by_hit : (b : Bool) (r : Option ℕ) → b ≡ true → (if b then Some 0 else further r) ≡ Some 0
by_hit true r e = refl
by_hit false r e = absurd (true≢false (sym e))

-- none before this place can, and it can
pub hit : (n : ℕ) (ps : List SubState) (os : List (Option ℕ)) (s : SubState) (o : Option ℕ) → n < length ps → n < length os
    → s ≡ slice_index_or ps n s → o ≡ slice_index_or os n o → ready (take n ps) os ≡ None → takes_offer s o ≡ true → ready ps os ≡ Some n
hit n [] os s o lt lt' e e' before t = absurd (omega (arith, lt))
hit n (p ∷ ps) [] s o lt lt' e e' before t = absurd (omega (arith, lt'))
hit zero (p ∷ ps) (q ∷ os) s o lt lt' e e' before t = by_hit (takes_offer p q) (ready ps os) (sym (ap (λ x. takes_offer x q) e) ∙ ap (takes_offer s) (sym e') ∙ t)
hit (suc n) (p ∷ ps) (q ∷ os) s o lt lt' e e' before t =
    let h = first_none (takes_offer p q) (ready (take n ps) os) before in
    by_first (takes_offer p q) (ready ps os) (Some n) h.0 (hit n ps os s o (omega (arith, lt)) (omega (arith, lt')) e e' h.1 t) ∙ ap Some (omega arith)

-- none before this place can, nor can it
pub miss : (n : ℕ) (ps : List SubState) (os : List (Option ℕ)) (s : SubState) (o : Option ℕ) → n < length ps → n < length os
    → s ≡ slice_index_or ps n s → o ≡ slice_index_or os n o → ready (take n ps) os ≡ None → takes_offer s o ≡ false → ready (take (suc n) ps) os ≡ None
miss n [] os s o lt lt' e e' before t = refl
miss n (p ∷ ps) [] s o lt lt' e e' before t = refl
miss zero (p ∷ ps) (q ∷ os) s o lt lt' e e' before t = by_first (takes_offer p q) (ready (take 0 ps) os) None (sym (ap (λ x. takes_offer x q) e) ∙ ap (takes_offer s) (sym e') ∙ t) refl
miss (suc n) (p ∷ ps) (q ∷ os) s o lt lt' e e' before t =
    let h = first_none (takes_offer p q) (ready (take n ps) os) before in
    by_first (takes_offer p q) (ready (take (suc n) ps) os) None h.0 (miss n ps os s o (omega (arith, lt)) (omega (arith, lt')) e e' h.1 t)

-- none before this place can, and no more is offered
pub short : (n : ℕ) (ps : List SubState) (os : List (Option ℕ)) → length os ≤ n → ready (take n ps) os ≡ None → ready ps os ≡ None
short n [] os le before = refl
short n (p ∷ ps) [] le before = refl
short zero (p ∷ ps) (q ∷ os) le before = absurd (omega (arith, le))
short (suc n) (p ∷ ps) (q ∷ os) le before =
    let h = first_none (takes_offer p q) (ready (take n ps) os) before in
    by_first (takes_offer p q) (ready ps os) None h.0 (short n ps os (omega (arith, le)) h.1)
