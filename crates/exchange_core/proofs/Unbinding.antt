-- Bindings of a queue that go from one exchange after another.
use Rattle.std.proofs.Common.{◌≡◌, ℕ, zero, suc, ◌+◌, ◌<◌, ◌≤◌, ◌==◌, ◌&&◌, not, Bool, true, false, if◌then◌else◌, List, [], ◌∷◌, ◌⊎◌, inl, inr, length, take, drop, filter, bytes_eq, slice_index_or, refl, sym, ap, subst, ◌∙◌, arith}
use Rattle.std.proofs.lemmas.Bool.{true≢false, cases_lt, eqb-true}
use Rattle.std.specs.Prelude.{nat_lt}
use Rattle.std.specs.List.{AllByRecursion, remove}
use Rattle.named_lists.specs.Lists.{lists_of, times, Parted}
use Rattle.named_lists.proofs.Parting.{one_if}
use Rattle.binding_table.specs.Rows.{is_of, is_of_queue}
use Rattle.exchange_core.specs.Routes.{Rowed, has_none}
use Rattle.exchange_core.specs.Exchanges.{Entry, OwnRows, is_other, goes}
use Rattle.exchange_core.proofs.Filtering.{filter_still, filter_both}
use Rattle.sorted_map.proofs.Cutting.{filter_same}

module _ {X : Type 0} where
  pub all_next : (P : X → Type 0) (xs : List X) (i : ℕ) (d : X) → i < length xs → AllByRecursion P (take i xs) → P (slice_index_or xs i d) → AllByRecursion P (take (suc i) xs)
  all_next P [] i d lt h p = absurd (omega (arith, lt))
  all_next P (x ∷ xs) zero d lt h p = (p, tt)
  all_next P (x ∷ xs) (suc i) d lt h p = (h.0, all_next P xs i d (omega (arith, lt)) h.1 p)

  pub all_kept : (P Q : X → Type 0) → ((x : X) → P x → Q x) → (xs : List X) → AllByRecursion P xs → AllByRecursion Q xs
  all_kept P Q f [] h = tt
  all_kept P Q f (x ∷ xs) h = (f x h.0, all_kept P Q f xs h.1)

  take_remove : (xs : List X) (i : ℕ) → take i (remove xs i) ≡ take i xs
  take_remove [] zero = refl
  take_remove [] (suc i) = refl
  take_remove (x ∷ xs) zero = zero_take xs where
    zero_take : (ys : List X) → take 0 ys ≡ []
    zero_take [] = refl
    zero_take (y ∷ ys) = refl
  take_remove (x ∷ xs) (suc i) = ap (λ (ys : List X). x ∷ ys) (take_remove xs i)

  pub all_remove : (P : X → Type 0) (xs : List X) (i : ℕ) → AllByRecursion P (take i xs) → AllByRecursion P (take i (remove xs i))
  all_remove P xs i h = subst (AllByRecursion P) (sym (take_remove xs i)) h

  take_all : (xs : List X) (i : ℕ) → length xs ≤ i → take i xs ≡ xs
  take_all [] zero le = refl
  take_all [] (suc i) le = refl
  take_all (x ∷ xs) zero le = absurd (omega (arith, le))
  take_all (x ∷ xs) (suc i) le = ap (λ (ys : List X). x ∷ ys) (take_all xs i (omega (arith, le)))

  pub all_taken : (P : X → Type 0) (xs : List X) (i : ℕ) → length xs ≤ i → AllByRecursion P (take i xs) → AllByRecursion P xs
  all_taken P xs i le h = subst (AllByRecursion P) (take_all xs i le) h

  -- what is at an index and passes is among those that pass
  passes : (p : X → Bool) (xs : List X) (i : ℕ) (d : X) → i < length xs → p (slice_index_or xs i d) ≡ true → filter p xs ≡ [] → ⊥
  passes p [] i d lt e f = omega (arith, lt)
  passes p (x ∷ xs) zero d lt e f = omega (arith, ap length (sym (ap (λ (b : Bool). if b then x ∷ filter p xs else filter p xs) e) ∙ f))
  passes p (x ∷ xs) (suc i) d lt e f = passes p xs i d (omega (arith, lt)) e (rest (p x) f) where
    rest : (b : Bool) → (if b then x ∷ filter p xs else filter p xs) ≡ [] → filter p xs ≡ []
    rest true g = absurd (omega (arith, ap length g))
    rest false g = g

  none_passes : (p : X → Bool) (xs : List X) → ((i : ℕ) (d : X) → i < length xs → p (slice_index_or xs i d) ≡ true → ⊥) → filter p xs ≡ []
  none_passes p [] f = refl
  none_passes p (x ∷ xs) f = go (p x) (f 0 x (omega arith)) (none_passes p xs (λ i d lt. f (suc i) d (omega (arith, lt)))) where
    go : (b : Bool) → (b ≡ true → ⊥) → filter p xs ≡ [] → (if b then x ∷ filter p xs else filter p xs) ≡ []
    go true n e = absurd (n refl)
    go false n e = e

  -- without those that pass there are only the others
  pub only_others : (p : X → Bool) (xs : List X) → filter p xs ≡ [] → filter (λ x. not (p x)) xs ≡ xs
  only_others p [] e = refl
  only_others p (x ∷ xs) e = go (p x) e (λ (f : filter p xs ≡ []). only_others p xs f) where
    go : (b : Bool) → (if b then x ∷ filter p xs else filter p xs) ≡ [] → (filter p xs ≡ [] → filter (λ x. not (p x)) xs ≡ xs) → (if not b then x ∷ filter (λ x. not (p x)) xs else filter (λ x. not (p x)) xs) ≡ x ∷ xs
    go true f ih = absurd (omega (arith, ap length f))
    go false f ih = ap (λ (ys : List X). x ∷ ys) (ih f)

module _ (queue : List ℕ) (rows : List Rowed) where
  -- an exchange has no binding of the queue
  abbrev pub Clear : Entry → Type 0
  Clear e = filter (is_of_queue e.1.1 queue) rows ≡ []

  clear_at : (n : ℕ) (entries : List Entry) → AllByRecursion Clear entries → 0 < times n (lists_of entries) → filter (is_of_queue n queue) rows ≡ []
  clear_at n [] h lt = absurd (omega (arith, lt))
  clear_at n (e ∷ es) h lt = go (e.1.1 == n) refl (λ (m : 0 < times n (lists_of es)). clear_at n es h.1 m) where
    go : (b : Bool) → (e.1.1 == n) ≡ b → (0 < times n (lists_of es) → filter (is_of_queue n queue) rows ≡ []) → filter (is_of_queue n queue) rows ≡ []
    go true f ih = ap (λ (m : ℕ). filter (is_of_queue m queue) rows) (sym (eqb-true e.1.1 n f)) ∙ h.0
    go false f ih = ih (omega (arith, lt, ap one_if f))

  -- where no exchange has one, there is none
  pub all_clear : (entries : List Entry) → OwnRows entries rows → AllByRecursion Clear entries → rows ≡ filter (is_other queue) rows
  all_clear entries o h = sym (only_others (λ (r : Rowed). bytes_eq r.binding.queue queue) rows (none_passes (λ (r : Rowed). bytes_eq r.binding.queue queue) rows gone)) where
    gone : (i : ℕ) (d : Rowed) → i < length rows → bytes_eq (slice_index_or rows i d).binding.queue queue ≡ true → ⊥
    gone i d lt e = go (cases_lt 0 (times (slice_index_or rows i d).exchange (lists_of entries))) where
      own : ((slice_index_or rows i d).exchange == (slice_index_or rows i d).exchange) ≡ true
      own = same (slice_index_or rows i d).exchange where
        same : (n : ℕ) → (n == n) ≡ true
        same n = grind (arith)

      go : (0 < times (slice_index_or rows i d).exchange (lists_of entries)) ⊎ (times (slice_index_or rows i d).exchange (lists_of entries) ≤ 0) → ⊥
      go (inl some) = passes (is_of_queue (slice_index_or rows i d).exchange queue) rows i d lt (ap (λ (b : Bool). b && bytes_eq (slice_index_or rows i d).binding.queue queue) own ∙ e) (clear_at (slice_index_or rows i d).exchange entries h some)
      go (inr none) = passes (is_of (slice_index_or rows i d).exchange) rows i d lt own (o (slice_index_or rows i d).exchange (omega (arith, none)))

-- fewer bindings
pub still_clear : (n : ℕ) (queue : List ℕ) (rows : List Rowed) (entries : List Entry) → AllByRecursion (Clear queue rows) entries → AllByRecursion (Clear queue (filter (λ r. not (is_of_queue n queue r)) rows)) entries
still_clear n queue rows entries h =
    all_kept (Clear queue rows) (Clear queue (filter (λ r. not (is_of_queue n queue r)) rows)) (λ e f. filter_still (is_of_queue e.1.1 queue) (λ r. not (is_of_queue n queue r)) rows f) entries h

-- one exchange more
pub next_clear : (queue : List ℕ) (rows : List Rowed) (entries : List Entry) (i : ℕ) (d : Entry) → i < length entries → AllByRecursion (Clear queue rows) (take i entries) → Clear queue rows (slice_index_or entries i d) → AllByRecursion (Clear queue rows) (take (i + 1) entries)
next_clear queue rows entries i d lt h p = subst (λ (n : ℕ). AllByRecursion (Clear queue rows) (take n entries)) (one i) (all_next (Clear queue rows) entries i d lt h p) where
  one : (i : ℕ) → suc i ≡ i + 1
  one i = omega arith

-- ---- which exchanges stay

module _ {X : Type 0} where
  pub filter_remove : (p : X → Bool) (xs : List X) (i : ℕ) (d : X) → i < length xs → p (slice_index_or xs i d) ≡ false → filter p (remove xs i) ≡ filter p xs
  filter_remove p [] i d lt e = absurd (omega (arith, lt))
  filter_remove p (x ∷ xs) zero d lt e = sym (ap (λ (b : Bool). if b then x ∷ filter p xs else filter p xs) e)
  filter_remove p (x ∷ xs) (suc i) d lt e = ap (λ (ys : List X). if p x then x ∷ ys else ys) (filter_remove p xs i d (omega (arith, lt)) e)

  pub drop_remove : (xs : List X) (i : ℕ) → drop i (remove xs i) ≡ drop (suc i) xs
  drop_remove [] zero = refl
  drop_remove [] (suc i) = refl
  drop_remove (x ∷ xs) zero = all xs where
    all : (ys : List X) → drop 0 ys ≡ ys
    all [] = refl
    all (y ∷ ys) = refl
  drop_remove (x ∷ xs) (suc i) = drop_remove xs i

  pub all_head : (P : X → Type 0) (xs : List X) (i : ℕ) (d : X) → i < length xs → AllByRecursion P (drop i xs) → P (slice_index_or xs i d)
  all_head P [] i d lt h = absurd (omega (arith, lt))
  all_head P (x ∷ xs) zero d lt h = h.0
  all_head P (x ∷ xs) (suc i) d lt h = all_head P xs i d (omega (arith, lt)) h

  pub all_tail : (P : X → Type 0) (xs : List X) (i : ℕ) → AllByRecursion P (drop i xs) → AllByRecursion P (drop (suc i) xs)
  all_tail P [] zero h = tt
  all_tail P [] (suc i) h = tt
  all_tail P (x ∷ xs) zero h = tail xs h.1 where
    tail : (ys : List X) → AllByRecursion P ys → AllByRecursion P (drop 0 ys)
    tail [] h = h
    tail (y ∷ ys) h = h
  all_tail P (x ∷ xs) (suc i) h = all_tail P xs i h

  pub filter_all : (p : X → Bool) (xs : List X) → AllByRecursion (λ x. p x ≡ true) xs → filter p xs ≡ xs
  filter_all p [] h = refl
  filter_all p (x ∷ xs) h = ap (λ (b : Bool). if b then x ∷ filter p xs else filter p xs) h.0 ∙ ap (λ (ys : List X). x ∷ ys) (filter_all p xs h.1)

  pub all_from : (P : X → Type 0) → ((x : X) → P x) → (xs : List X) → AllByRecursion P xs
  all_from P f [] = tt
  all_from P f (x ∷ xs) = (f x, all_from P f xs)

-- a number that stands once stands no more behind its index
times_behind : (n : ℕ) (entries : List Entry) (i : ℕ) (d : Entry) → i < length entries → (slice_index_or entries i d).1.1 ≡ n → times n (lists_of entries) ≤ 1 → times n (lists_of (drop (suc i) entries)) ≡ 0
times_behind n [] i d lt e le = absurd (omega (arith, lt))
times_behind n (x ∷ xs) zero d lt e le = zero_drop xs (omega (arith, le, own x.1.1 n e)) where
  own : (m n : ℕ) → m ≡ n → one_if (m == n) ≡ 1
  own m n e = grind (arith, e)

  zero_drop : (ys : List Entry) → times n (lists_of ys) ≡ 0 → times n (lists_of (drop 0 ys)) ≡ 0
  zero_drop [] f = f
  zero_drop (y ∷ ys) f = f
times_behind n (x ∷ xs) (suc i) d lt e le = times_behind n xs i d (omega (arith, lt)) e (omega (arith, le))

module _ (queue : List ℕ) (rows first : List Rowed) where
  -- the bindings of the queue at an exchange are those that it had
  abbrev pub Untouched : Entry → Type 0
  Untouched e = filter (is_of_queue e.1.1 queue) rows ≡ filter (is_of_queue e.1.1 queue) first

module _ (queue : List ℕ) (rows first : List Rowed) where
  -- also when those of another exchange go
  pub still_untouched : (n : ℕ) (entries : List Entry) → times n (lists_of entries) ≡ 0 → AllByRecursion (Untouched queue rows first) entries → AllByRecursion (Untouched queue (filter (λ r. not (is_of_queue n queue r)) rows) first) entries
  still_untouched n [] z h = tt
  still_untouched n (e ∷ es) z h = (
    filter_both (is_of_queue e.1.1 queue) (λ r. not (is_of_queue n queue r)) rows
        ∙ (filter_same (λ r. not (is_of_queue n queue r) && is_of_queue e.1.1 queue r) (is_of_queue e.1.1 queue) (λ r. apart r.exchange (bytes_eq r.binding.queue queue)) rows ∙ h.0),
    still_untouched n es (omega (arith, z)) h.1,
  ) where
    differ : (e.1.1 == n) ≡ false
    differ = none (e.1.1 == n) (omega (arith, z)) where
      none : (b : Bool) → one_if b ≡ 0 → b ≡ false
      none true f = absurd (omega (arith, f))
      none false f = refl

    apart : (x : ℕ) (q : Bool) → (not ((x == n) && q) && ((x == e.1.1) && q)) ≡ ((x == e.1.1) && q)
    apart x q = go (x == n) (x == e.1.1) q refl refl where
      go : (a b q : Bool) → (x == n) ≡ a → (x == e.1.1) ≡ b → (not (a && q) && (b && q)) ≡ (b && q)
      go true true q f g = absurd (true≢false (sym (grind (arith, eqb-true x n f, eqb-true x e.1.1 g)) ∙ differ))
      go true false q f g = both q where
        both : (q : Bool) → (not q && false) ≡ false
        both true = refl
        both false = refl
      go false b q f g = refl

  -- the bindings that an exchange has left are those of other queues
  pub left_others : (n : ℕ) → filter (is_other queue) rows ≡ filter (is_other queue) first → filter (is_of n) (filter (λ r. not (is_of_queue n queue r)) rows) ≡ filter (is_of n) (filter (is_other queue) first)
  left_others n e =
      filter_both (is_of n) (λ r. not (is_of_queue n queue r)) rows
      ∙ (filter_same (λ r. not (is_of_queue n queue r) && is_of n r) (λ r. is_other queue r && is_of n r) (λ r. same (is_of n r) (bytes_eq r.binding.queue queue)) rows
      ∙ (sym (filter_both (is_of n) (is_other queue) rows) ∙ ap (filter (is_of n)) e)) where
        same : (a b : Bool) → (not (a && b) && a) ≡ (not b && a)
        same true true = refl
        same true false = refl
        same false true = refl
        same false false = refl

one_more : (i : ℕ) → suc i ≡ i + 1
one_more i = omega arith

pub all_plus : {X : Type 0} (P : X → Type 0) (xs : List X) (i : ℕ) (d : X) → i < length xs → AllByRecursion P (take i xs) → P (slice_index_or xs i d) → AllByRecursion P (take (i + 1) xs)
all_plus P xs i d lt h p = subst (λ (n : ℕ). AllByRecursion P (take n xs)) (one_more i) (all_next P xs i d lt h p)

pub drop_plus : {X : Type 0} (P : X → Type 0) (xs : List X) (i : ℕ) → AllByRecursion P (drop (suc i) xs) → AllByRecursion P (drop (i + 1) xs)
drop_plus P xs i h = subst (λ (n : ℕ). AllByRecursion P (drop n xs)) (one_more i) h

at_most_one : (b : Bool) (u f : ℕ) → u + f ≡ one_if b → u ≤ 1
at_most_one true u f e = omega (arith, e)
at_most_one false u f e = omega (arith, e)

-- behind an exchange all are untouched also when its bindings go
pub behind_untouched : (queue : List ℕ) (rows first : List Rowed) (entries : List Entry) (free : List ℕ) (count i : ℕ) (d : Entry) → Parted (lists_of entries) free count → i < length entries → AllByRecursion (Untouched queue rows first) (drop i entries)
    → AllByRecursion (Untouched queue (filter (λ r. not (is_of_queue (slice_index_or entries i d).1.1 queue r)) rows) first) (drop (suc i) entries)
behind_untouched queue rows first entries free count i d p lt h =
    let n = (slice_index_or entries i d).1.1 in
    still_untouched queue rows first n (drop (suc i) entries) (times_behind n entries i d lt refl (at_most_one (nat_lt n count) (times n (lists_of entries)) (times n free) (p n))) (all_tail (Untouched queue rows first) entries i h)

-- what the tests tell of an exchange
pub goes_is : (queue : List ℕ) (rows first : List Rowed) (e : Entry) → Untouched queue rows first e → filter (is_other queue) rows ≡ filter (is_other queue) first → (b u g : Bool) → b ≡ has_none (filter (is_of_queue e.1.1 queue) rows)
    → u ≡ has_none (filter (is_of e.1.1) (filter (λ r. not (is_of_queue e.1.1 queue r)) rows)) → g ≡ e.1.0.auto_delete && (not b && u) → g ≡ goes queue first e
goes_is queue rows first e untouched others b u g f h k =
    k
    ∙ (ap (λ (x : Bool). e.1.0.auto_delete && (not x && u)) (f ∙ ap has_none untouched)
    ∙ ap (λ (x : Bool). e.1.0.auto_delete && (not (has_none (filter (is_of_queue e.1.1 queue) first)) && x)) (h ∙ ap has_none (left_others queue rows first e.1.1 others)))

pub parts_true : (a b c : Bool) → a && (b && c) ≡ true → c ≡ true
parts_true true true c e = e
parts_true true false c e = absurd (true≢false (sym e))
parts_true false b c e = absurd (true≢false (sym e))
