-- Where a name stands among sorted ones, and what a change there makes of them.
use Rattle.std.proofs.Common.{◌≡◌, ℕ, zero, suc, ◌<◌, ◌≤◌, Bool, true, false, if◌then◌else◌, List, [], ◌∷◌, ◌⊎◌, length, Result, Ok, Err, IfOk, IfErr, Option, None, Some, refl, sym, ap, subst, inl, inr, ◌∙◌, arith, slice_index_or, bytes_eq, nat_cmp}
use Rattle.std.proofs.lemmas.Bool.{true≢false, cases_lt}
use Rattle.std.proofs.lemmas.Map.Text.{is_eq-slice_cmp}
use Rattle.std.proofs.lemmas.Slice.Eq.{bytes_eq-Decides}
use Rattle.std.proofs.lemmas.Cmp.{nat_list_cmp_total}
use Rattle.std.specs.Cmp.Lexicographic.{slice_cmp}
use Rattle.std.specs.declared.cmp.Ordering.{Ordering}
use Rattle.std.specs.declared.cmp.Ordering.TheVariants.{Less, Equal, Greater}
use Rattle.std.specs.Ordering.{is_lt, is_eq, ordering_index, ordering_reverse}
use Rattle.std.specs.List.{insert, remove}
use Rattle.std.specs.List.Sorted.{IsNonDecreasingBy, IsSearchInRange, IsBinarySearchResult}
use Rattle.name_map.specs.Named.{Before, EachName, Sorted, find, put, out, IsPlace, IsGap}

abbrev cmp : List ℕ → List ℕ → Ordering
cmp a b = slice_cmp nat_cmp a b

less_greater : Less ≡ Greater → ⊥
less_greater e = true≢false (ap is_lt e)

less_equal : Less ≡ Equal → ⊥
less_equal e = true≢false (ap is_lt e)

-- the other way round
turned : (a b : List ℕ) (o : Ordering) → cmp a b ≡ o → cmp b a ≡ ordering_reverse o
turned a b o e = nat_list_cmp_total.antisymm b a ∙ ap ordering_reverse e

equal_is : (a b : List ℕ) (o : Ordering) → cmp a b ≡ o → bytes_eq a b ≡ is_eq o
equal_is a b o e = sym (is_eq-slice_cmp a b) ∙ ap is_eq e

-- what comes before one that comes no later than another comes before that
before_equal : (a b name : List ℕ) → Before a b → cmp b name ≡ Equal → cmp a name ≡ Less
before_equal a b name lt e =
    turned name a Greater (nat_list_cmp_total.congr name b a (turned b name Equal e) ∙ turned a b Less lt)

index_low : (a b name : List ℕ) → Before a b → (o : Ordering) → cmp b name ≡ o → ordering_index (cmp a name) ≤ ordering_index o
index_low a b name lt Less e = omega (arith, ap ordering_index (nat_list_cmp_total.trans a b name lt e))
index_low a b name lt Equal e = omega (arith, ap ordering_index (before_equal a b name lt e))
index_low a b name lt Greater e = at_most (cmp a name) where
  at_most : (o : Ordering) → ordering_index o ≤ 2
  at_most Less = omega arith
  at_most Equal = omega arith
  at_most Greater = omega arith

pub same_name : (a b : List ℕ) → cmp a b ≡ Equal → a ≡ b
same_name a b e = (bytes_eq-Decides a b).0 (equal_is a b Equal e)

module _ {T : Type 0} where
  each_at : (P : List ℕ → Type 0) (es : List (List ℕ × T)) → EachName P es → (i : ℕ) (d : List ℕ × T) → i < length es → P (slice_index_or es i d).0
  each_at P [] p i d lt = absurd (omega (arith, lt))
  each_at P (e ∷ es) p zero d lt = p.0
  each_at P (e ∷ es) p (suc i) d lt = each_at P es p.1 i d (omega (arith, lt))

  sorted_at : (es : List (List ℕ × T)) → Sorted es → (i j : ℕ) (d : List ℕ × T) → i < j → j < length es → Before (slice_index_or es i d).0 (slice_index_or es j d).0
  sorted_at [] s i j d lt in_them = absurd (omega (arith, in_them))
  sorted_at (e ∷ es) s i zero d lt in_them = absurd (omega (arith, lt))
  sorted_at (e ∷ es) s zero (suc j) d lt in_them = each_at (Before e.0) es s.0 j d (omega (arith, in_them))
  sorted_at (e ∷ es) s (suc i) (suc j) d lt in_them = sorted_at es s.1 i j d (omega (arith, lt)) (omega (arith, in_them))

  -- compared with a name they rise
  pub rises : (name : List ℕ) (es : List (List ℕ × T)) → Sorted es → IsNonDecreasingBy (λ e. ordering_index (slice_cmp nat_cmp e.0 name)) es
  rises name es s i j d le in_them = elim (cases_lt i j) [
    | inl lt ↦ index_low (slice_index_or es i d).0 (slice_index_or es j d).0 name (sorted_at es s i j d lt in_them) (cmp (slice_index_or es j d).0 name) refl
    | inr ge ↦ omega (arith, ap (λ (k : ℕ). ordering_index (cmp (slice_index_or es k d).0 name)) (same i j (omega (arith, le, ge))))
  ] where
    same : (a b : ℕ) → a ≡ b → a ≡ b
    same a b e = e

  -- ---- at its place

  pub place_find : (name : List ℕ) (es : List (List ℕ × T)) → Sorted es → (i : ℕ) (d : List ℕ × T) → i < length es → cmp (slice_index_or es i d).0 name ≡ Equal → find name es ≡ Some (slice_index_or es i d).1
  place_find name [] s i d lt e = absurd (omega (arith, lt))
  place_find name (x ∷ es) s zero d lt e = ap (λ (b : Bool). if b then Some x.1 else find name es) (equal_is x.0 name Equal e)
  place_find name (x ∷ es) s (suc i) d lt e =
      ap (λ (b : Bool). if b then Some x.1 else find name es) (equal_is x.0 name Less (before_equal x.0 (slice_index_or es i d).0 name (each_at (Before x.0) es s.0 i d (omega (arith, lt))) e))
      ∙ place_find name es s.1 i d (omega (arith, lt)) e

  pub place_out : (name : List ℕ) (es : List (List ℕ × T)) → Sorted es → (i : ℕ) (d : List ℕ × T) → i < length es → cmp (slice_index_or es i d).0 name ≡ Equal → remove es i ≡ out name es
  place_out name [] s i d lt e = absurd (omega (arith, lt))
  place_out name (x ∷ es) s zero d lt e = sym (ap (λ (b : Bool). if b then es else x ∷ out name es) (equal_is x.0 name Equal e))
  place_out name (x ∷ es) s (suc i) d lt e =
      ap (λ (xs : List (List ℕ × T)). x ∷ xs) (place_out name es s.1 i d (omega (arith, lt)) e)
      ∙ sym (ap (λ (b : Bool). if b then es else x ∷ out name es) (equal_is x.0 name Less (before_equal x.0 (slice_index_or es i d).0 name (each_at (Before x.0) es s.0 i d (omega (arith, lt))) e)))

  -- ---- at its gap

  pub gap_find : (name : List ℕ) (es : List (List ℕ × T)) → ((k : ℕ) (d : List ℕ × T) → k < length es → is_eq (cmp (slice_index_or es k d).0 name) ≡ false) → find name es ≡ None
  gap_find name [] f = refl
  gap_find name (x ∷ es) f =
      ap (λ (b : Bool). if b then Some x.1 else find name es) (sym (is_eq-slice_cmp x.0 name) ∙ f 0 x (omega arith))
      ∙ gap_find name es (λ k d lt. f (suc k) d (omega (arith, lt)))

  pub gap_put : (name : List ℕ) (v : T) (es : List (List ℕ × T)) (i : ℕ) → i ≤ length es → ((k : ℕ) (d : List ℕ × T) → k < i → cmp (slice_index_or es k d).0 name ≡ Less)
      → ((k : ℕ) (d : List ℕ × T) → i ≤ k → k < length es → cmp (slice_index_or es k d).0 name ≡ Greater) → insert es i (name, v) ≡ put name v es
  gap_put name v [] zero le low high = refl
  gap_put name v [] (suc i) le low high = absurd (omega (arith, le))
  gap_put name v (x ∷ es) zero le low high = sym (ap (λ (b : Bool). if b then (name, v) ∷ x ∷ es else x ∷ put name v es) (ap is_lt (turned x.0 name Greater (high 0 x (omega arith) (omega arith)))))
  gap_put name v (x ∷ es) (suc i) le low high =
      ap (λ (xs : List (List ℕ × T)). x ∷ xs) (gap_put name v es i (omega (arith, le)) (λ k d lt. low (suc k) d (omega (arith, lt))) (λ k d ge lt. high (suc k) d (omega (arith, ge)) (omega (arith, lt))))
      ∙ sym (ap (λ (b : Bool). if b then (name, v) ∷ x ∷ es else x ∷ put name v es) (ap is_lt (turned x.0 name Less (low 0 x (omega arith)))))

  -- ---- what is sorted stays so

  each_out : (P : List ℕ → Type 0) (name : List ℕ) (es : List (List ℕ × T)) → EachName P es → EachName P (out name es)
  each_out P name [] p = tt
  each_out P name (e ∷ es) p = go (bytes_eq e.0 name) (each_out P name es p.1) where
    go : (b : Bool) → EachName P (out name es) → EachName P (if b then es else e ∷ out name es)
    go true q = p.1
    go false q = (p.0, q)

  pub sorted_out : (name : List ℕ) (es : List (List ℕ × T)) → Sorted es → Sorted (out name es)
  sorted_out name [] s = tt
  sorted_out name (e ∷ es) s = go (bytes_eq e.0 name) (each_out (Before e.0) name es s.0) (sorted_out name es s.1) where
    go : (b : Bool) → EachName (Before e.0) (out name es) → Sorted (out name es) → Sorted (if b then es else e ∷ out name es)
    go true q r = s.1
    go false q r = (q, r)

  each_put : (P : List ℕ → Type 0) (name : List ℕ) (v : T) (es : List (List ℕ × T)) → P name → EachName P es → EachName P (put name v es)
  each_put P name v [] here p = (here, tt)
  each_put P name v (e ∷ es) here p = go (is_lt (cmp name e.0)) (each_put P name v es here p.1) where
    go : (b : Bool) → EachName P (put name v es) → EachName P (if b then (name, v) ∷ e ∷ es else e ∷ put name v es)
    go true q = (here, p)
    go false q = (p.0, q)

  each_behind : (a b : List ℕ) (es : List (List ℕ × T)) → Before a b → EachName (Before b) es → EachName (Before a) es
  each_behind a b [] lt p = tt
  each_behind a b (e ∷ es) lt p = (nat_list_cmp_total.trans a b e.0 lt p.0, each_behind a b es lt p.1)

  pub sorted_put : (name : List ℕ) (v : T) (es : List (List ℕ × T)) → Sorted es → find name es ≡ None → Sorted (put name v es)
  sorted_put name v [] s new = (tt, tt)
  sorted_put name v (e ∷ es) s new = go (cmp name e.0) refl (λ q. sorted_put name v es s.1 q) where
    not_here : (b : Bool) → bytes_eq e.0 name ≡ b → (if b then Some e.1 else find name es) ≡ None → b ≡ false
    not_here true q n = absurd (some_none n) where
      some_none : ◌≡◌ {A = Option T} (Some e.1) None → ⊥
      some_none h = true≢false (ap (λ (o : Option T). elim o [ None ↦ false | Some x ↦ true ]) h)
    not_here false q n = refl

    away : bytes_eq e.0 name ≡ false
    away = not_here (bytes_eq e.0 name) refl new

    rest : find name es ≡ None
    rest = sym (ap (λ (b : Bool). if b then Some e.1 else find name es) away) ∙ new

    later : cmp name e.0 ≡ Greater → Before e.0 name
    later q = turned name e.0 Greater q

    go : (o : Ordering) → cmp name e.0 ≡ o → (find name es ≡ None → Sorted (put name v es)) → Sorted (if is_lt o then (name, v) ∷ e ∷ es else e ∷ put name v es)
    go Less q ih = ((q, each_behind name e.0 es q s.0), s)
    go Equal q ih = absurd (true≢false (sym (equal_is e.0 name Equal (turned name e.0 Equal q)) ∙ away))
    go Greater q ih = (each_put (Before e.0) name v es (later q) s.0, ih rest)

  -- ---- what a search tells

  pub gap_none : (name : List ℕ) (es : List (List ℕ × T)) (i : ℕ) → IsGap name es i → find name es ≡ None
  gap_none name es i g = gap_find name es (λ k d lt. go k d lt (cases_lt k i)) where
    go : (k : ℕ) (d : List ℕ × T) → k < length es → (k < i) ⊎ (i ≤ k) → is_eq (cmp (slice_index_or es k d).0 name) ≡ false
    go k d lt (inl low) = ap is_eq (g.1.0 k d (omega arith) low)
    go k d lt (inr high) = ap is_eq (g.1.1 k d high lt)

  pub gap_is : (name : List ℕ) (v : T) (es : List (List ℕ × T)) (i : ℕ) → IsGap name es i → insert es i (name, v) ≡ put name v es
  gap_is name v es i g = gap_put name v es i g.0 (λ k d lt. g.1.0 k d (omega arith) lt) (λ k d ge lt. g.1.1 k d ge lt)

  -- without a name that isn't there nothing changes
  pub out_none : (name : List ℕ) (es : List (List ℕ × T)) → find name es ≡ None → out name es ≡ es
  out_none name [] q = refl
  out_none name (e ∷ es) q = go (bytes_eq e.0 name) q (out_none name es) where
    go : (b : Bool) → (if b then Some e.1 else find name es) ≡ None → (find name es ≡ None → out name es ≡ es) → (if b then es else e ∷ out name es) ≡ e ∷ es
    go true n ih = absurd (true≢false (ap (λ (o : Option T). elim o [ None ↦ false | Some x ↦ true ]) n))
    go false n ih = ap (λ (xs : List (List ℕ × T)). e ∷ xs) (ih n)

  pub searched : (name : List ℕ) (es : List (List ℕ × T)) → Sorted es → (r : Result ℕ ℕ) → IsSearchInRange r (length es) → IsBinarySearchResult (λ e. slice_cmp nat_cmp e.0 name) es r → record { found : IfOk r (IsPlace name es); gap : IfErr r (IsGap name es) }
  searched name es s (Ok i) bound held = record { found = (bound, held); gap = tt }
  searched name es s (Err i) bound parted = record { found = tt; gap = (bound, parted (rises name es s)) }

  pub place_at : (name : List ℕ) (es : List (List ℕ × T)) → Sorted es → (i : ℕ) (x : List ℕ × T) → IsPlace name es i → x ≡ slice_index_or es i x → Some x.1 ≡ find name es
  place_at name es s i x p is = ap (λ (e : List ℕ × T). Some e.1) is ∙ sym (place_find name es s i x p.0 (p.1 x))

  pub place_named : (name : List ℕ) (es : List (List ℕ × T)) (i : ℕ) (x : List ℕ × T) → IsPlace name es i → x ≡ slice_index_or es i x → x.0 ≡ name
  place_named name es i x p is = ap (λ (e : List ℕ × T). e.0) is ∙ same_name (slice_index_or es i x).0 name (p.1 x)

  pub place_removed : (name : List ℕ) (es : List (List ℕ × T)) → Sorted es → (i : ℕ) (d : List ℕ × T) → IsPlace name es i → remove es i ≡ out name es
  place_removed name es s i d p = place_out name es s i d p.0 (p.1 d)

  -- a name that has a place is found
  pub place_some : (name : List ℕ) (es : List (List ℕ × T)) → Sorted es → (i : ℕ) → IsPlace name es i → find name es ≡ None → ⊥
  place_some name [] s i p q = omega (arith, p.0)
  place_some name (e ∷ es) s i p q = true≢false (ap (λ (o : Option T). elim o [ None ↦ false | Some x ↦ true ]) (sym (place_find name (e ∷ es) s i e p.0 (p.1 e)) ∙ q))

  -- ---- a name that is taken out is gone

  before_none : (a : List ℕ) (es : List (List ℕ × T)) → EachName (Before a) es → find a es ≡ None
  before_none a [] p = refl
  before_none a (e ∷ es) p = ap (λ (b : Bool). if b then Some e.1 else find a es) (equal_is e.0 a Greater (turned a e.0 Less p.0)) ∙ before_none a es p.1

  pub out_gone : (name : List ℕ) (es : List (List ℕ × T)) → Sorted es → find name (out name es) ≡ None
  out_gone name [] s = refl
  out_gone name (e ∷ es) s = go (bytes_eq e.0 name) refl (out_gone name es s.1) where
    go : (b : Bool) → bytes_eq e.0 name ≡ b → find name (out name es) ≡ None → find name (if b then es else e ∷ out name es) ≡ None
    go true q ih = before_none name es (subst (λ (a : List ℕ). EachName (Before a) es) ((bytes_eq-Decides e.0 name).0 q) s.0)
    go false q ih = ap (λ (b : Bool). if b then Some e.1 else find name (out name es)) q ∙ ih

  -- ---- without the name at an index

  each_remove : (P : List ℕ → Type 0) (es : List (List ℕ × T)) (i : ℕ) → EachName P es → EachName P (remove es i)
  each_remove P [] zero p = tt
  each_remove P [] (suc i) p = tt
  each_remove P (e ∷ es) zero p = p.1
  each_remove P (e ∷ es) (suc i) p = (p.0, each_remove P es i p.1)

  pub sorted_remove : (es : List (List ℕ × T)) (i : ℕ) → Sorted es → Sorted (remove es i)
  sorted_remove [] zero s = tt
  sorted_remove [] (suc i) s = tt
  sorted_remove (e ∷ es) zero s = s.1
  sorted_remove (e ∷ es) (suc i) s = (each_remove (Before e.0) es i s.0, sorted_remove es i s.1)
