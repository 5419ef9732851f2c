-- Entries seen by a function are found and changed as they are themselves.
use Rattle.std.proofs.Common.{◌≡◌, ℕ, zero, suc, ◌+◌, ◌<◌, ◌≤◌, Bool, not, true, false, if◌then◌else◌, List, [], ◌∷◌, ◌++◌, length, filter, cond, nat_lt, position, slice_index_or, Option, None, Some, refl, sym, ap, ◌∙◌, arith}
use Rattle.std.specs.Borrow.{Bor}
use Rattle.std.specs.List.{prefix_len}
use Rattle.std.specs.Option.{option_map, option_copied}
use Rattle.std.specs.Ordering.{is_lt, is_gt, is_eq}
use Rattle.std.specs.declared.cmp.Ordering.{Ordering}
use Rattle.sorted_map.specs.Cuts.{before, within, behind}
use Rattle.sorted_map.specs.Map.{from_key, find, put, out, index_of, key_at, value_at, with_value, changed_at, changed_if, changed, seen}

module _ {K T U : Type 0} (look : T → U) where
  pub seen_length : (es : List (K × T)) → length (seen look es) ≡ length es
  seen_length [] = refl
  seen_length (e ∷ es) = ap suc (seen_length es)

  pub seen_value : (es : List (K × T)) (i : ℕ) → value_at (seen look es) i ≡ option_map look (value_at es i)
  seen_value [] i = refl
  seen_value (e ∷ es) zero = refl
  seen_value (e ∷ es) (suc i) = seen_value es i

  -- what was written at an index is seen as a change there
  pub seen_change : (change : U → U) (es : List (K × T)) (i : ℕ) (old new : T) → value_at es i ≡ Some old → look new ≡ change (look old) → seen look (with_value es i new) ≡ changed_at i change (seen look es)
  seen_change change [] i old new at is = refl
  seen_change change (e ∷ es) zero old new at is = ap (λ (u : U). (e.0, u) ∷ seen look es) (is ∙ ap (λ (t : T). change (look t)) (sym (same at))) where
    same : ◌≡◌ {A = Option T} (Some e.1) (Some old) → e.1 ≡ old
    same p = ap (λ (o : Option T). elim o [ None ↦ e.1 | Some t ↦ t ]) p
  seen_change change (e ∷ es) (suc i) old new at is = ap (λ (us : List (K × U)). (e.0, look e.1) ∷ us) (seen_change change es i old new at is)

  -- a test of keys alone
  seen_filter : (p : K → Bool) (es : List (K × T)) → filter (λ (e : K × U). p e.0) (seen look es) ≡ seen look (filter (λ (e : K × T). p e.0) es)
  seen_filter p [] = refl
  seen_filter p (e ∷ es) = go (p e.0) (seen_filter p es) where
    go : (b : Bool) → filter (λ (e : K × U). p e.0) (seen look es) ≡ seen look (filter (λ (e : K × T). p e.0) es)
        → (if b then (e.0, look e.1) ∷ filter (λ (e : K × U). p e.0) (seen look es) else filter (λ (e : K × U). p e.0) (seen look es)) ≡ seen look (if b then e ∷ filter (λ (e : K × T). p e.0) es else filter (λ (e : K × T). p e.0) es)
    go true ih = ap (λ (us : List (K × U)). (e.0, look e.1) ∷ us) ih
    go false ih = ih

  seen_append : (xs ys : List (K × T)) → seen look (xs ++ ys) ≡ seen look xs ++ seen look ys
  seen_append [] ys = refl
  seen_append (x ∷ xs) ys = ap (λ (us : List (K × U)). (x.0, look x.1) ∷ us) (seen_append xs ys)

  module _ (cmp : K → K → Ordering) (key : K) where
    pub seen_index : (es : List (K × T)) → index_of cmp key (seen look es) ≡ index_of cmp key es
    seen_index es = ap length (seen_filter (λ k. is_lt (cmp k key)) es) ∙ seen_length (before (from_key cmp key) es)

    pub seen_find : (es : List (K × T)) → find cmp key (seen look es) ≡ option_map look (find cmp key es)
    seen_find es = ap (λ (ws : List (K × U)). elim ws [ [] ↦ None | w ∷ more ↦ Some w.1 ]) (seen_filter (λ k. is_eq (cmp k key)) es) ∙ first (within (from_key cmp key) es) where
      first : (ws : List (K × T)) → ◌≡◌ {A = Option U} (elim (seen look ws) [ [] ↦ None | w ∷ more ↦ Some w.1 ]) (option_map look (elim ws [ [] ↦ None | w ∷ more ↦ Some w.1 ]))
      first [] = refl
      first (w ∷ ws) = refl

    pub seen_put : (value : T) (es : List (K × T)) → seen look (put cmp key value es) ≡ put cmp key (look value) (seen look es)
    seen_put value es =
        seen_append (before (from_key cmp key) es) ((key, value) ∷ behind (from_key cmp key) es)
        ∙ (ap (λ (us : List (K × U)). us ++ (key, look value) ∷ seen look (behind (from_key cmp key) es)) (sym (seen_filter (λ k. is_lt (cmp k key)) es))
        ∙ ap (λ (us : List (K × U)). before (from_key cmp key) (seen look es) ++ (key, look value) ∷ us) (sym (seen_filter (λ k. is_gt (cmp k key)) es)))

    pub seen_out : (es : List (K × T)) → seen look (out cmp key es) ≡ out cmp key (seen look es)
    seen_out es = sym (seen_filter (λ k. not (is_eq (cmp k key))) es)

    -- what was written at a key's index is seen as a change of the key
    pub seen_changed : (change : U → U) (es : List (K × T)) (i : ℕ) (old new : T) → i ≡ index_of cmp key es → value_at es i ≡ Some old → value_at es i ≡ find cmp key es → look new ≡ change (look old) → seen look (with_value es i new) ≡ changed cmp key change (seen look es)
    seen_changed change es i old new is at found same =
        seen_change change es i old new at same
        ∙ (ap (λ (n : ℕ). changed_at n change (seen look es)) (is ∙ sym (seen_index es))
        ∙ ap (λ (o : Option U). changed_if o (index_of cmp key (seen look es)) change (seen look es)) (ap (option_map look) (sym at ∙ found) ∙ sym (seen_find es)))

-- what was found is seen as what is found among what is seen
pub seen_through : {T U : Type 0} (look : T → U) (r : Option (Bor T)) → option_map (λ b. look b.now) r ≡ option_map look (option_copied r)
seen_through look None = refl
seen_through look (Some b) = refl

module _ {K T : Type 0} where
  -- where the first so many are changed
  abbrev pub changed_below : ℕ → (T → T) → List (K × T) → List (K × T)
  changed_below zero change es = es
  changed_below (suc n) change [] = []
  changed_below (suc n) change (e ∷ es) = (e.0, change e.1) ∷ changed_below n change es

  changed_next : (n : ℕ) (change : T → T) (es : List (K × T)) → changed_at n change (changed_below n change es) ≡ changed_below (suc n) change es
  changed_next zero change [] = refl
  changed_next zero change (e ∷ es) = refl
  changed_next (suc n) change [] = refl
  changed_next (suc n) change (e ∷ es) = ap (λ (xs : List (K × T)). (e.0, change e.1) ∷ xs) (changed_next n change es)

  pub changed_one : (n : ℕ) (change : T → T) (es : List (K × T)) → changed_at n change (changed_below n change es) ≡ changed_below (n + 1) change es
  changed_one n change es = changed_next n change es ∙ ap (λ (m : ℕ). changed_below m change es) (same (suc n) (n + 1) (omega arith)) where
    same : (a b : ℕ) → a ≡ b → a ≡ b
    same a b e = e

  pub changed_all : (n : ℕ) (change : T → T) (es : List (K × T)) → length es ≤ n → changed_below n change es ≡ seen change es
  changed_all zero change [] le = refl
  changed_all zero change (e ∷ es) le = absurd (omega (arith, le))
  changed_all (suc n) change [] le = refl
  changed_all (suc n) change (e ∷ es) le = ap (λ (xs : List (K × T)). (e.0, change e.1) ∷ xs) (changed_all n change es (omega (arith, le)))

  pub changed_length : (n : ℕ) (change : T → T) (es : List (K × T)) → length (changed_below n change es) ≡ length es
  changed_length zero change es = refl
  changed_length (suc n) change [] = refl
  changed_length (suc n) change (e ∷ es) = ap suc (changed_length n change es)

module _ {K T : Type 0} where
  pub value_with : (es : List (K × T)) (i : ℕ) (new : T) → i < length es → value_at (with_value es i new) i ≡ Some new
  value_with [] i new lt = absurd (omega (arith, lt))
  value_with (e ∷ es) zero new lt = refl
  value_with (e ∷ es) (suc i) new lt = value_with es i new (omega (arith, lt))

  -- what is written changes no key
  index_with : (cmp : K → K → Ordering) (key : K) (es : List (K × T)) (i : ℕ) (new : T) → index_of cmp key (with_value es i new) ≡ index_of cmp key es
  index_with cmp key [] i new = refl
  index_with cmp key (e ∷ es) zero new = go (is_lt (cmp e.0 key)) where
    go : (b : Bool) → length (if b then (e.0, new) ∷ before (from_key cmp key) es else before (from_key cmp key) es) ≡ length (if b then e ∷ before (from_key cmp key) es else before (from_key cmp key) es)
    go true = refl
    go false = refl
  index_with cmp key (e ∷ es) (suc i) new = go (is_lt (cmp e.0 key)) (index_with cmp key es i new) where
    go : (b : Bool) → index_of cmp key (with_value es i new) ≡ index_of cmp key es
        → length (if b then e ∷ before (from_key cmp key) (with_value es i new) else before (from_key cmp key) (with_value es i new)) ≡ length (if b then e ∷ before (from_key cmp key) es else before (from_key cmp key) es)
    go true ih = ap suc ih
    go false ih = ih

module _ {K T U : Type 0} (look : T → U) (cmp : K → K → Ordering) (key : K) where
  pub seen_there : (es : List (K × T)) (i : ℕ) (old : T) → i ≡ index_of cmp key es → value_at es i ≡ Some old → value_at (seen look es) (index_of cmp key (seen look es)) ≡ Some (look old)
  seen_there es i old is at = ap (value_at (seen look es)) (seen_index look cmp key es ∙ sym is) ∙ (seen_value look es i ∙ ap (option_map look) at)

  pub seen_written : (es : List (K × T)) (i : ℕ) (new : T) → i ≡ index_of cmp key es → i < length es → value_at (seen look (with_value es i new)) (index_of cmp key (seen look (with_value es i new))) ≡ Some (look new)
  seen_written es i new is lt = seen_there (with_value es i new) i new (is ∙ sym (index_with cmp key es i new)) (value_with es i new lt)

module _ {K T : Type 0} where
  -- a key that isn't there changes nothing
  pub unchanged : (cmp : K → K → Ordering) (key : K) (change : T → T) (es : List (K × T)) → find cmp key es ≡ None → changed cmp key change es ≡ es
  unchanged cmp key change es none = ap (λ (o : Option T). changed_if o (index_of cmp key es) change es) none

  same_at : (i : ℕ) (es : List (K × T)) → changed_at i (λ t. t) es ≡ es
  same_at i [] = refl
  same_at zero (e ∷ es) = refl
  same_at (suc i) (e ∷ es) = ap (λ (xs : List (K × T)). e ∷ xs) (same_at i es)

-- what is seen alike is seen as it was
pub seen_same : {K T U : Type 0} (look : T → U) (es : List (K × T)) (i : ℕ) (old new : T) → value_at es i ≡ Some old → look new ≡ look old → seen look (with_value es i new) ≡ seen look es
seen_same look es i old new at is = seen_change look (λ u. u) es i old new at is ∙ same_at i (seen look es)

module _ {K T : Type 0} where
  pub length_changed_at : (i : ℕ) (change : T → T) (es : List (K × T)) → length (changed_at i change es) ≡ length es
  length_changed_at i change [] = refl
  length_changed_at zero change (e ∷ es) = refl
  length_changed_at (suc i) change (e ∷ es) = ap suc (length_changed_at i change es)

  pub length_changed : (cmp : K → K → Ordering) (key : K) (change : T → T) (es : List (K × T)) → length (changed cmp key change es) ≡ length es
  length_changed cmp key change es = go (find cmp key es) where
    go : (o : Option T) → length (changed_if o (index_of cmp key es) change es) ≡ length es
    go None = refl
    go (Some t) = length_changed_at (index_of cmp key es) change es

module _ {K T U : Type 0} (look : T → U) where
  pub seen_key : (es : List (K × T)) (i : ℕ) → key_at (seen look es) i ≡ key_at es i
  seen_key [] i = refl
  seen_key (e ∷ es) zero = refl
  seen_key (e ∷ es) (suc i) = seen_key es i

  seen_prefix : (p : U → Bool) (es : List (K × T)) → prefix_len (λ (e : K × T). p (look e.1)) es ≡ prefix_len (λ (e : K × U). p e.1) (seen look es)
  seen_prefix p [] = refl
  seen_prefix p (e ∷ es) = ap (λ (n : ℕ). cond (p (look e.1)) (1 + n) 0) (seen_prefix p es)

  pub seen_position : (p : U → Bool) (es : List (K × T)) → position (λ (e : K × T). p (look e.1)) es ≡ position (λ (e : K × U). p e.1) (seen look es)
  seen_position p es =
      ap (λ (n : ℕ). cond (nat_lt n (length es)) (Some n) None) (seen_prefix (λ u. not (p u)) es)
      ∙ ap (λ (m : ℕ). cond (nat_lt (prefix_len (λ (e : K × U). not (p e.1)) (seen look es)) m) (Some (prefix_len (λ (e : K × U). not (p e.1)) (seen look es))) None) (sym (seen_length look es))

  pub key_is : (es : List (K × T)) (i : ℕ) (d : K × T) → i < length es → key_at es i ≡ Some (slice_index_or es i d).0
  key_is [] i d lt = absurd (omega (arith, lt))
  key_is (e ∷ es) zero d lt = refl
  key_is (e ∷ es) (suc i) d lt = key_is es i d (omega (arith, lt))

  pub value_of : (es : List (K × T)) (i : ℕ) (d : K × T) → i < length es → value_at es i ≡ Some (slice_index_or es i d).1
  value_of [] i d lt = absurd (omega (arith, lt))
  value_of (e ∷ es) zero d lt = refl
  value_of (e ∷ es) (suc i) d lt = value_of es i d (omega (arith, lt))
