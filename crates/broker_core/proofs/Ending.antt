-- The first queue of a session, and those behind it.
use Rattle.std.proofs.Common.{◌≡◌, ℕ, suc, ◌+◌, ◌==◌, Bool, true, false, not, cond, nat_lt, if◌then◌else◌, List, [], ◌∷◌, length, position, slice_index_or, nat_cmp, Option, None, Some, refl, sym, ap, subst, ◌∙◌, arith}
use Rattle.std.proofs.lemmas.Cmp.{nat_list_cmp_total}
use Rattle.std.specs.Cmp.Lexicographic.{slice_cmp}
use Rattle.std.specs.declared.cmp.Ordering.TheVariants.{Equal}
use Rattle.std.proofs.lemmas.Bool.{true≢false}
use Rattle.std.proofs.lemmas.Bool.Decides.{nat_tests}
use Rattle.std.specs.List.{prefix_len, remove}
use Rattle.std.specs.Option.{option_map}
use Rattle.sorted_map.proofs.Changing.{same_equal}
use Rattle.broker_core.specs.Ends.{own_names}

prefix_by : {X : Type 0} (p : X → Bool) (e : X) (es : List X) (b : Bool) → p e ≡ b → prefix_len (λ x. not (p x)) (e ∷ es) ≡ cond (not b) (1 + prefix_len (λ x. not (p x)) es) 0
prefix_by p e es b t = ap (λ (c : Bool). cond (not c) (1 + prefix_len (λ x. not (p x)) es) 0) t

some_first : (n : ℕ) → nat_lt 0 (suc n) ≡ true
some_first n = grind (arith, nat_tests)

step_true : {X : Type 0} (p : X → Bool) (e : X) (es : List X) → p e ≡ true → position p (e ∷ es) ≡ Some 0
step_true p e es t =
    ap (λ (k : ℕ). cond (nat_lt k (length (e ∷ es))) (Some k) None) (prefix_by p e es true t)
    ∙ ap (λ (b : Bool). cond b (Some 0) None) (some_first (length es))

one_more : (k : ℕ) → 1 + k ≡ suc k
one_more k = omega arith

later : (k n : ℕ) → nat_lt (1 + k) (suc n) ≡ nat_lt k n
later k n = grind (arith, nat_tests)

step_false : {X : Type 0} (p : X → Bool) (e : X) (es : List X) → p e ≡ false → position p (e ∷ es) ≡ option_map suc (position p es)
step_false p e es f =
    let k = prefix_len (λ x. not (p x)) es in
    ap (λ (m : ℕ). cond (nat_lt m (length (e ∷ es))) (Some m) None) (prefix_by p e es false f)
    ∙ (ap (λ (b : Bool). cond b (Some (1 + k)) None) (later k (length es)) ∙ go k (nat_lt k (length es))) where
      go : (k : ℕ) (b : Bool) → cond b (Some (1 + k)) None ≡ option_map suc (cond b (Some k) None)
      go k true = ap Some (one_more k)
      go k false = refl

some_none : {A : Type 0} (a : A) → ◌≡◌ {A = Option A} None (Some a) → ⊥
some_none {A} a q = true≢false (ap (λ (o : Option A). elim o [ None ↦ true | Some b ↦ false ]) q)

is_some_of : {A : Type 0} (a b : A) → ◌≡◌ {A = Option A} (Some a) (Some b) → a ≡ b
is_some_of {A} a b q = ap (λ (o : Option A). elim o [ None ↦ a | Some c ↦ c ]) q

-- a name comes neither before nor behind itself
pub same_again : {a b : List ℕ} → a ≡ b → slice_cmp nat_cmp a b ≡ Equal
same_again {a} {b} e = subst (λ (x : List ℕ). slice_cmp nat_cmp a x ≡ Equal) e (same_equal (slice_cmp nat_cmp) nat_list_cmp_total a)

module _ (session : ℕ) where
  abbrev pub is_own : List ℕ × ℕ → Bool
  is_own e = e.1 == session

  pub own_none : (es : List (List ℕ × ℕ)) → position is_own es ≡ None → own_names session es ≡ []
  own_none [] q = refl
  own_none (e ∷ es) q = go (e.1 == session) refl (own_none es) where
    rest : (o : Option ℕ) → option_map suc o ≡ None → o ≡ None
    rest None r = refl
    rest (Some i) r = absurd (some_none (suc i) (sym r))

    go : (b : Bool) → (e.1 == session) ≡ b → (position is_own es ≡ None → own_names session es ≡ []) → own_names session (e ∷ es) ≡ []
    go true t behind = absurd (some_none 0 (sym q ∙ step_true is_own e es t))
    go false f behind =
        ap (λ (b : Bool). if b then e.0 ∷ own_names session es else own_names session es) f
        ∙ behind (rest (position is_own es) (sym (step_false is_own e es f) ∙ q))

  pub own_some : (es : List (List ℕ × ℕ)) (i : ℕ) (d : List ℕ × ℕ) → position is_own es ≡ Some i → own_names session es ≡ (slice_index_or es i d).0 ∷ own_names session (remove es i)
  own_some [] i d q = absurd (some_none i q)
  own_some (e ∷ es) i d q = go (e.1 == session) refl (position is_own es) refl (λ j r. own_some es j d r) where
    go : (b : Bool) → (e.1 == session) ≡ b → (o : Option ℕ) → position is_own es ≡ o
        → ((j : ℕ) → position is_own es ≡ Some j → own_names session es ≡ (slice_index_or es j d).0 ∷ own_names session (remove es j))
        → own_names session (e ∷ es) ≡ (slice_index_or (e ∷ es) i d).0 ∷ own_names session (remove (e ∷ es) i)
    go true t o r behind =
        ap (λ (b : Bool). if b then e.0 ∷ own_names session es else own_names session es) t
        ∙ ap (λ (n : ℕ). (slice_index_or (e ∷ es) n d).0 ∷ own_names session (remove (e ∷ es) n)) (is_some_of 0 i (sym (step_true is_own e es t) ∙ q))
    go false f None r behind = absurd (some_none i (sym (ap (option_map suc) r) ∙ (sym (step_false is_own e es f) ∙ q)))
    go false f (Some j) r behind =
        ap (λ (b : Bool). if b then e.0 ∷ own_names session es else own_names session es) f
        ∙ (behind j r
        ∙ (sym (ap (λ (b : Bool). (slice_index_or es j d).0 ∷ (if b then e.0 ∷ own_names session (remove es j) else own_names session (remove es j))) f)
        ∙ ap (λ (n : ℕ). (slice_index_or (e ∷ es) n d).0 ∷ own_names session (remove (e ∷ es) n)) (is_some_of (suc j) i (sym (ap (option_map suc) r) ∙ (sym (step_false is_own e es f) ∙ q)))))
