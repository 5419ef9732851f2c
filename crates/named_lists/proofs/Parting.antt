-- Each list stays a name's or free, once.
use Rattle.std.proofs.Common.{◌≡◌, ℕ, zero, suc, ◌+◌, ◌<◌, ◌==◌, Bool, true, false, if◌then◌else◌, List, [], ◌∷◌, ◌++◌, length, Option, None, Some, bytes_eq, slice_index_or, refl, sym, ap, arith}
use Rattle.std.specs.List.{remove}
use Rattle.std.specs.Prelude.{nat_lt}
use Rattle.std.specs.Cmp.Lexicographic.{slice_cmp}
use Rattle.std.specs.Ordering.{nat_cmp, is_lt}
use Rattle.std.proofs.lemmas.Bool.{true≢false}
use Rattle.std.proofs.lemmas.Bool.Decides.{nat_tests}
use Rattle.name_map.specs.Named.{find, put, out}
use Rattle.named_lists.specs.Lists.{lists_of, times, Parted}

abbrev pub one_if : Bool → ℕ
one_if b = if b then 1 else 0

pub times_last : (l m : ℕ) (xs : List ℕ) → times l (xs ++ m ∷ []) ≡ times l xs + one_if (m == l)
times_last l m [] = omega arith
times_last l m (x ∷ xs) = omega (arith, times_last l m xs)

below_more : (l count : ℕ) → one_if (nat_lt l (count + 1)) ≡ one_if (nat_lt l count) + one_if (count == l)
below_more l count = grind (arith, nat_tests)

module _ {M : Type 0} where
  pub times_put : (l : ℕ) (name : List ℕ) (v : M × ℕ) (es : List (List ℕ × (M × ℕ))) → times l (lists_of (put name v es)) ≡ one_if (v.1 == l) + times l (lists_of es)
  times_put l name v [] = refl
  times_put l name v (e ∷ es) = go (is_lt (slice_cmp nat_cmp name e.0)) (times_put l name v es) where
    go : (b : Bool) → times l (lists_of (put name v es)) ≡ one_if (v.1 == l) + times l (lists_of es) → times l (lists_of (if b then (name, v) ∷ e ∷ es else e ∷ put name v es)) ≡ one_if (v.1 == l) + times l (lists_of (e ∷ es))
    go true ih = refl
    go false ih = omega (arith, ih)

  some_is : (x y : M × ℕ) → ◌≡◌ {A = Option (M × ℕ)} (Some x) (Some y) → x ≡ y
  some_is x y e = ap (λ (o : Option (M × ℕ)). elim o [ None ↦ x | Some z ↦ z ]) e

  none_some : (x : M × ℕ) → ◌≡◌ {A = Option (M × ℕ)} None (Some x) → ⊥
  none_some x e = true≢false (ap (λ (o : Option (M × ℕ)). elim o [ None ↦ true | Some z ↦ false ]) e)

  pub times_out : (l : ℕ) (name : List ℕ) (es : List (List ℕ × (M × ℕ))) (x : M × ℕ) → find name es ≡ Some x → one_if (x.1 == l) + times l (lists_of (out name es)) ≡ times l (lists_of es)
  times_out l name [] x q = absurd (none_some x q)
  times_out l name (e ∷ es) x q = go (bytes_eq e.0 name) q (times_out l name es x) where
    go : (b : Bool) → (if b then Some e.1 else find name es) ≡ Some x → (find name es ≡ Some x → one_if (x.1 == l) + times l (lists_of (out name es)) ≡ times l (lists_of es))
        → one_if (x.1 == l) + times l (lists_of (if b then es else e ∷ out name es)) ≡ times l (lists_of (e ∷ es))
    go true t ih = ap (λ (y : M × ℕ). one_if (y.1 == l) + times l (lists_of es)) (sym (some_is e.1 x t))
    go false t ih = omega (arith, ih t)

  pub length_put : (name : List ℕ) (v : M × ℕ) (es : List (List ℕ × (M × ℕ))) → length (put name v es) ≡ length es + 1
  length_put name v [] = omega arith
  length_put name v (e ∷ es) = go (is_lt (slice_cmp nat_cmp name e.0)) (length_put name v es) where
    go : (b : Bool) → length (put name v es) ≡ length es + 1 → length (if b then (name, v) ∷ e ∷ es else e ∷ put name v es) ≡ length (e ∷ es) + 1
    go true ih = omega arith
    go false ih = omega (arith, ih)

  pub length_out : (name : List ℕ) (es : List (List ℕ × (M × ℕ))) (x : M × ℕ) → find name es ≡ Some x → length (out name es) + 1 ≡ length es
  length_out name [] x q = absurd (none_some x q)
  length_out name (e ∷ es) x q = go (bytes_eq e.0 name) q (length_out name es x) where
    go : (b : Bool) → (if b then Some e.1 else find name es) ≡ Some x → (find name es ≡ Some x → length (out name es) + 1 ≡ length es) → length (if b then es else e ∷ out name es) + 1 ≡ length (e ∷ es)
    go true t ih = omega arith
    go false t ih = omega (arith, ih t)

  pub put_parted : (name : List ℕ) (v : M × ℕ) (es : List (List ℕ × (M × ℕ))) (free : List ℕ) (count : ℕ) → Parted (lists_of es) (free ++ v.1 ∷ []) count → Parted (lists_of (put name v es)) free count
  put_parted name v es free count p l = omega (arith, p l, times_put l name v es, times_last l v.1 free)

  pub take_parted : (name : List ℕ) (es : List (List ℕ × (M × ℕ))) (x : M × ℕ) (free : List ℕ) (count : ℕ) → find name es ≡ Some x → Parted (lists_of es) free count → Parted (lists_of (out name es)) (free ++ x.1 ∷ []) count
  take_parted name es x free count q p l = omega (arith, p l, times_out l name es x q, times_last l x.1 free)

module _ {M : Type 0} where
  pub times_remove : (l : ℕ) (es : List (List ℕ × (M × ℕ))) (i : ℕ) (d : List ℕ × (M × ℕ)) → i < length es → one_if ((slice_index_or es i d).1.1 == l) + times l (lists_of (remove es i)) ≡ times l (lists_of es)
  times_remove l [] i d lt = absurd (omega (arith, lt))
  times_remove l (e ∷ es) zero d lt = refl
  times_remove l (e ∷ es) (suc i) d lt = omega (arith, times_remove l es i d (omega (arith, lt)))

  pub length_remove : (es : List (List ℕ × (M × ℕ))) (i : ℕ) → i < length es → length (remove es i) + 1 ≡ length es
  length_remove [] i lt = absurd (omega (arith, lt))
  length_remove (e ∷ es) zero lt = omega arith
  length_remove (e ∷ es) (suc i) lt = omega (arith, length_remove es i (omega (arith, lt)))

  pub remove_parted : (es : List (List ℕ × (M × ℕ))) (i : ℕ) (d : List ℕ × (M × ℕ)) (free : List ℕ) (count : ℕ) → i < length es → Parted (lists_of es) free count → Parted (lists_of (remove es i)) (free ++ (slice_index_or es i d).1.1 ∷ []) count
  remove_parted es i d free count lt p l = omega (arith, p l, times_remove l es i d lt, times_last l (slice_index_or es i d).1.1 free)

-- a list that was free is no name's
pub free_out : (used free : List ℕ) (count l : ℕ) → Parted used (free ++ l ∷ []) count → times l used ≡ 0
free_out used free count l p = go (nat_lt l count) refl where
  once : one_if (l == l) ≡ 1
  once = grind (arith, nat_tests)

  go : (b : Bool) → nat_lt l count ≡ b → times l used ≡ 0
  go true t = omega (arith, p l, times_last l l free, once, ap one_if t)
  go false t = omega (arith, p l, times_last l l free, once, ap one_if t)

pub widen_parted : (used free : List ℕ) (count : ℕ) → Parted used free count → Parted used (free ++ count ∷ []) (count + 1)
widen_parted used free count p l = omega (arith, p l, times_last l count free, below_more l count)
