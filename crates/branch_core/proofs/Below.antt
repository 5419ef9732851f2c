-- Each session is active at a place where a branch is.
use Rattle.std.proofs.Common.{◌≡◌, ℕ, zero, suc, ◌+◌, ◌-◌, ◌<◌, ◌≤◌, ◌==◌, nat_lt, ◌⊎◌, inl, inr, ◌^◌, Bool, true, false, not, if◌then◌else◌, List, [], ◌∷◌, ◌++◌, length, filter, Option, None, Some, refl, sym, ap, subst, ◌∙◌, arith}
use Rattle.std.proofs.lemmas.Bool.{true≢false, cases_lt}
use Rattle.std.specs.Ordering.{nat_cmp, is_lt, is_eq, is_gt}
use Rattle.sorted_map.specs.Cuts.{before, within, behind}
use Rattle.sorted_map.specs.Map.{from_key, first_of, find, put, out, index_of, changed, changed_at, changed_if, seen}
use Rattle.sorted_map.proofs.Showing.{seen_length}
use Rattle.amqp_values.specs.declared.value.Xid.{Xid}
use Rattle.branch_core.specs.declared.branch.Branch.{Branch}
use Rattle.branch_core.specs.Held.{Held, held}
use Rattle.branch_core.specs.State.{State, branches_of, Seated, AllBelow, below_in, active_in}
use Rattle.branch_core.specs.Acts.{selecting, seat_changed_if, empty_seat, activate, left, left_by, pushed, pushed_by, up, pulled, pulled_by}

-- who is found is active below
pub found_below : (count session place : ℕ) (es : List (ℕ × Seated)) → AllBelow count es → active_in (find nat_cmp session es) ≡ Some place → place < count
found_below count session place es all is = go (within (from_key nat_cmp session) es) (those es all) is where
  those : (es : List (ℕ × Seated)) → AllBelow count es → AllBelow count (within (from_key nat_cmp session) es)
  those [] a = a
  those (e ∷ es) a = one (is_eq (nat_cmp e.0 session)) a.0 (those es a.1) where
    one : (b : Bool) → below_in count e.1.active → AllBelow count (within (from_key nat_cmp session) es) → AllBelow count (if b then e ∷ within (from_key nat_cmp session) es else within (from_key nat_cmp session) es)
    one true h t = (h, t)
    one false h t = t

  go : (ws : List (ℕ × Seated)) → AllBelow count ws → active_in (first_of ws) ≡ Some place → place < count
  go [] a e = absurd (nothing e) where
    nothing : ◌≡◌ {A = Option ℕ} None (Some place) → ⊥
    nothing p = true≢false (sym (ap (λ (o : Option ℕ). elim o [ None ↦ false | Some x ↦ true ]) p))
  go (w ∷ ws) a e = here w.1.active a.0 e where
    here : (active : Option ℕ) → below_in count active → active ≡ Some place → place < count
    here None h p = absurd (true≢false (sym (ap (λ (o : Option ℕ). elim o [ None ↦ false | Some x ↦ true ]) p)))
    here (Some other) h p = subst (λ n. n < count) (ap (λ (o : Option ℕ). elim o [ None ↦ other | Some x ↦ x ]) p) h

module _ (count after : ℕ) (f : Seated → Seated) (keeps : (t : Seated) → below_in count t.active → below_in after (f t).active) where
  pub below_seen : (es : List (ℕ × Seated)) → AllBelow count es → AllBelow after (seen f es)
  below_seen [] a = a
  below_seen (e ∷ es) a = (keeps e.1 a.0, below_seen es a.1)

module _ (count : ℕ) (f : Seated → Seated) (keeps : (t : Seated) → below_in count t.active → below_in count (f t).active) where
  below_at : (i : ℕ) (es : List (ℕ × Seated)) → AllBelow count es → AllBelow count (changed_at i f es)
  below_at i [] a = a
  below_at zero (e ∷ es) a = (keeps e.1 a.0, a.1)
  below_at (suc i) (e ∷ es) a = (a.0, below_at i es a.1)

  pub below_changed : (session : ℕ) (es : List (ℕ × Seated)) → AllBelow count es → AllBelow count (changed nat_cmp session f es)
  below_changed session es a = go (find nat_cmp session es) where
    go : (o : Option Seated) → AllBelow count (changed_if o (index_of nat_cmp session es) f es)
    go None = a
    go (Some t) = below_at (index_of nat_cmp session es) es a

module _ (count : ℕ) where
  below_filter : (p : ℕ × Seated → Bool) (es : List (ℕ × Seated)) → AllBelow count es → AllBelow count (filter p es)
  below_filter p [] a = a
  below_filter p (e ∷ es) a = go (p e) (below_filter p es a.1) where
    go : (b : Bool) → AllBelow count (filter p es) → AllBelow count (if b then e ∷ filter p es else filter p es)
    go true t = (a.0, t)
    go false t = t

  below_append : (xs ys : List (ℕ × Seated)) → AllBelow count xs → AllBelow count ys → AllBelow count (xs ++ ys)
  below_append [] ys a b = b
  below_append (x ∷ xs) ys a b = (a.0, below_append xs ys a.1 b)

  pub below_put : (session : ℕ) (t : Seated) (es : List (ℕ × Seated)) → below_in count t.active → AllBelow count es → AllBelow count (put nat_cmp session t es)
  below_put session t es b a = below_append (before (from_key nat_cmp session) es) ((session, t) ∷ behind (from_key nat_cmp session) es) (below_filter (λ e. is_lt (from_key nat_cmp session e)) es a) (b, below_filter (λ e. is_gt (from_key nat_cmp session e)) es a)

  pub below_out : (session : ℕ) (es : List (ℕ × Seated)) → AllBelow count es → AllBelow count (out nat_cmp session es)
  below_out session es a = below_filter (λ e. not (is_eq (from_key nat_cmp session e))) es a

-- what each change leaves of a place
pub below_activate : (count place : ℕ) → place < count → (t : Seated) → below_in count t.active → below_in count (activate place t).active
below_activate count place lt t b = lt

pub below_left : (count place : ℕ) (t : Seated) → below_in count t.active → below_in count (left place t).active
below_left count place t b = go t.active b where
  go : (active : Option ℕ) → below_in count active → below_in count (left_by place active)
  go None b = b
  go (Some other) b = one (other == place) where
    one : (c : Bool) → below_in count (if c then None else Some other)
    one true = tt
    one false = b

pub below_pushed : (count place : ℕ) (t : Seated) → below_in count t.active → below_in (count + 1) (pushed place t).active
below_pushed count place t b = go t.active b where
  go : (active : Option ℕ) → below_in count active → below_in (count + 1) (pushed_by place active)
  go None b = b
  go (Some other) b = one (nat_lt other place) where
    up_one : (c : Bool) → below_in (count + 1) (if c then Some (other + 1) else None)
    up_one true = omega (arith, b)
    up_one false = tt

    one : (c : Bool) → below_in (count + 1) (if c then Some other else up other)
    one true = omega (arith, b)
    one false = up_one (nat_lt (other + 1) (2 ^ 64))

pub below_pulled : (count after place : ℕ) → after + 1 ≡ count → place < count → (t : Seated) → below_in count t.active → below_in after (pulled place t).active
below_pulled count after place len lt t b = go t.active b where
  go : (active : Option ℕ) → below_in count active → below_in after (pulled_by place active)
  go None b = b
  go (Some other) b = one (nat_lt place other) refl where
    here : (c : Bool) → (other == place) ≡ c → nat_lt place other ≡ false → below_in after (if c then None else Some other)
    here true e f = tt
    here false e f = less (cases_lt other place) where
      less : (other < place) ⊎ (place ≤ other) → other < after
      less (inl l) = omega (arith, l, lt, len)
      less (inr r) = absurd (grind (arith, e, f, r))

    one : (c : Bool) → nat_lt place other ≡ c → below_in after (if c then Some (other - 1) else left_by place (Some other))
    one true e = grind (arith, e, b, len)
    one false e = here (other == place) refl e

pub same_count : (old new : List (Xid × Branch)) → length (branches_of new) ≡ length (branches_of old) → length new ≡ length old
same_count old new e = sym (seen_length held new) ∙ (e ∙ seen_length held old)

pub below_selecting : (count session : ℕ) (dtx : Bool) (o : Option Seated) (es : List (ℕ × Seated)) → AllBelow count es → AllBelow count (seat_changed_if o session (selecting dtx) es)
below_selecting count session dtx None es a = below_put count session (selecting dtx empty_seat) es (keeps dtx empty_seat tt) a where
  keeps : (dtx : Bool) (t : Seated) → below_in count t.active → below_in count (selecting dtx t).active
  keeps true t b = b
  keeps false t b = b
below_selecting count session dtx (Some t) es a = below_changed count (selecting dtx) (keeps dtx) session es a where
  keeps : (dtx : Bool) (t : Seated) → below_in count t.active → below_in count (selecting dtx t).active
  keeps true t b = b
  keeps false t b = b

pub state_is : {a b : List (Xid × Held)} {c d : List (ℕ × Seated)} → a ≡ b → c ≡ d → ◌≡◌ {A = State} (record { branches = a; seats = c }) (record { branches = b; seats = d })
state_is {a} {b} {c} {d} p q = ap (λ (x : List (Xid × Held)). record { branches = x; seats = c }) p ∙ ap (λ (y : List (ℕ × Seated)). record { branches = b; seats = y }) q
