-- Runs in parts.
use Rattle.std.proofs.Common.{◌≡◌, Result, Ok, Err, OnOk, OnErr, ℕ, zero, suc, ◌+◌, ◌-◌, ◌^◌, ◌<◌, ◌≤◌, ◌&&◌, ◌||◌, min, max, leb, ltb, Bool, true, false, cond, List, [], ◌∷◌, ◌++◌, length, take, drop, slice_index_or, fold, inl, inr, ◌∙◌, ap, sym, subst, refl, arith}
use Rattle.std.proofs.lemmas.Bool.{and_from, and_left, and_right, and_parts, or_left, or_right, or_cases, leb-true, leb-false, ltb-true, ltb-false, le-leb, lt-leb, cases_lt}
use Rattle.std.specs.List.Sorted.{IsPartitionPoint}
use Rattle.std.proofs.lemmas.List.{take-append-drop}
use Rattle.serial_ranges.specs.Runs.{within, names, Rise, AreRuns, Adds, Cuts, IsLeastMissing, Every, IsSplit, IsBehind, join, trimmed, common, IsMet}

-- ---- every run

pub every_mono : (P Q : ℕ × ℕ → Type 0) (xs : List (ℕ × ℕ)) → ((x : ℕ × ℕ) → P x → Q x) → Every P xs → Every Q xs
every_mono P Q [] f e = tt
every_mono P Q (x ∷ xs) f e = (f x e.0, every_mono P Q xs f e.1)

pub every_both : (P Q R : ℕ × ℕ → Type 0) (xs : List (ℕ × ℕ)) → ((x : ℕ × ℕ) → P x → Q x → R x) → Every P xs → Every Q xs → Every R xs
every_both P Q R [] f p q = tt
every_both P Q R (x ∷ xs) f p q = (f x p.0 q.0, every_both P Q R xs f p.1 q.1)

pub every_take : (P : ℕ × ℕ → Type 0) (n : ℕ) (xs : List (ℕ × ℕ)) → Every P xs → Every P (take n xs)
every_take P zero xs e = tt
every_take P (suc n) [] e = tt
every_take P (suc n) (x ∷ xs) e = (e.0, every_take P n xs e.1)

pub every_drop : (P : ℕ × ℕ → Type 0) (n : ℕ) (xs : List (ℕ × ℕ)) → Every P xs → Every P (drop n xs)
every_drop P zero xs e = e
every_drop P (suc n) [] e = tt
every_drop P (suc n) (x ∷ xs) e = every_drop P n xs e.1

-- ---- runs that rise

-- where a run behind these may begin
pub past : ℕ → List (ℕ × ℕ) → ℕ
past low [] = low
past low (x ∷ xs) = past (x.1 + 2) xs

pub rise_left : (low : ℕ) (xs ys : List (ℕ × ℕ)) → Rise low (xs ++ ys) → Rise low xs
rise_left low [] ys r = tt
rise_left low (x ∷ xs) ys r = (r.0, r.1, r.2, rise_left (x.1 + 2) xs ys r.3)

pub rise_right : (low : ℕ) (xs ys : List (ℕ × ℕ)) → Rise low (xs ++ ys) → Rise (past low xs) ys
unfolding past
rise_right low [] ys r = r
rise_right low (x ∷ xs) ys r = rise_right (x.1 + 2) xs ys r.3

pub rise_join : (low : ℕ) (xs ys : List (ℕ × ℕ)) → Rise low xs → Rise (past low xs) ys → Rise low (xs ++ ys)
unfolding past
rise_join low [] ys r s = s
rise_join low (x ∷ xs) ys r s = (r.0, r.1, r.2, rise_join (x.1 + 2) xs ys r.3 s)

pub rise_low : (low less : ℕ) (xs : List (ℕ × ℕ)) → less ≤ low → Rise low xs → Every (λ x. less ≤ x.0) xs
rise_low low less [] le r = tt
rise_low low less (x ∷ xs) le r = (omega (arith, le, r.0), rise_low (x.1 + 2) less xs (omega (arith, le, r.0, r.1)) r.3)

pub rise_small : (low : ℕ) (xs : List (ℕ × ℕ)) → Rise low xs → Every (λ x. x.1 < 2 ^ 63) xs
rise_small low [] r = tt
rise_small low (x ∷ xs) r = (r.2, rise_small (x.1 + 2) xs r.3)

pub raised : (low high : ℕ) (xs : List (ℕ × ℕ)) → Rise low xs → Every (λ x. high ≤ x.0) xs → Rise high xs
raised low high [] r e = tt
raised low high (x ∷ xs) r e = (e.0, r.1, r.2, r.3)

pub past_low : (low : ℕ) (xs : List (ℕ × ℕ)) → Rise low xs → low ≤ past low xs
unfolding past
past_low low [] r = omega arith
past_low low (x ∷ xs) r = let more = past_low (x.1 + 2) xs r.3 in omega (arith, r.0, r.1, more)

pub past_below : (low b : ℕ) (xs : List (ℕ × ℕ)) → low ≤ b → Every (λ x. x.1 < b - 1) xs → past low xs ≤ b
unfolding past
past_below low b [] le e = le
past_below low b (x ∷ xs) le e = past_below (x.1 + 2) b xs (omega (arith, e.0)) e.1

-- ---- what runs name

pub within_parts : (x : ℕ × ℕ) (n : ℕ) → within x n ≡ true → (x.0 ≤ n) × (n ≤ x.1)
within_parts x n e = let p = and_parts (leb x.0 n) (leb n x.1) e in (leb-true x.0 n p.0, leb-true n x.1 p.1)

pub within_from : (x : ℕ × ℕ) (n : ℕ) → x.0 ≤ n → n ≤ x.1 → within x n ≡ true
within_from x n p q = and_from (leb x.0 n) (leb n x.1) (le-leb x.0 n p) (le-leb n x.1 q)

both : (a b : Bool) → (a ≡ true → b ≡ true) → (b ≡ true → a ≡ true) → a ≡ b
both true b f g = sym (f refl)
both false true f g = g refl
both false false f g = refl

pub or_assoc3 : (a b c : Bool) → ((a || b) || c) ≡ (a || (b || c))
or_assoc3 true b c = refl
or_assoc3 false b c = refl

pub names_append : (xs ys : List (ℕ × ℕ)) (n : ℕ) → names (xs ++ ys) n ≡ (names xs n || names ys n)
names_append [] ys n = refl
names_append (x ∷ xs) ys n = ap (λ b. within x n || b) (names_append xs ys n) ∙ sym (or_assoc3 (within x n) (names xs n) (names ys n))

pub names_below : (n : ℕ) (xs : List (ℕ × ℕ)) → Every (λ x. x.1 < n) xs → names xs n ≡ false
names_below n [] e = refl
names_below n (x ∷ xs) e = ap (λ b. b || names xs n) (and_right (leb x.0 n) (leb n x.1) (lt-leb n x.1 e.0)) ∙ names_below n xs e.1

pub names_above : (n : ℕ) (xs : List (ℕ × ℕ)) → Every (λ x. n < x.0) xs → names xs n ≡ false
names_above n [] e = refl
names_above n (x ∷ xs) e = ap (λ b. b || names xs n) (and_left (leb x.0 n) (leb n x.1) (lt-leb x.0 n e.0)) ∙ names_above n xs e.1

-- ---- runs that are joined

join_covers : (a x : ℕ × ℕ) (n : ℕ) → a.0 ≤ x.1 + 1 → x.0 ≤ a.1 + 1 → within (join a x) n ≡ (within a n || within x n)
join_covers a x n p q = both (within (join a x) n) (within a n || within x n) out back
  where
    out : within (join a x) n ≡ true → (within a n || within x n) ≡ true
    out e =
        let w = within_parts (join a x) n e in
        elim (cases_lt n a.0) [
          | inl lt ↦ or_right (within a n) (within x n) (within_from x n (omega (arith, w.0, lt)) (omega (arith, lt, p)))
          | inr ge ↦ elim (cases_lt a.1 n) [
            | inl gt ↦ or_right (within a n) (within x n) (within_from x n (omega (arith, q, gt)) (omega (arith, w.1, gt)))
            | inr le ↦ or_left (within a n) (within x n) (within_from a n ge le)
          ]
        ]

    back : (within a n || within x n) ≡ true → within (join a x) n ≡ true
    back e = elim (or_cases (within a n) (within x n) e) [
      | inl f ↦ (let w = within_parts a n f in within_from (join a x) n (omega (arith, w.0)) (omega (arith, w.1)))
      | inr f ↦ (let w = within_parts x n f in within_from (join a x) n (omega (arith, w.0)) (omega (arith, w.1)))
    ]

pub fold_covers : (a : ℕ × ℕ) (xs : List (ℕ × ℕ)) (n : ℕ) → Every (λ x. a.0 ≤ x.1 + 1) xs → Every (λ x. x.0 ≤ a.1 + 1) xs → within (fold join a xs) n ≡ (within a n || names xs n)
fold_covers a [] n p q = sym (or_false (within a n))
  where
    or_false : (b : Bool) → (b || false) ≡ b
    or_false true = refl
    or_false false = refl
fold_covers a (x ∷ xs) n p q =
    fold_covers (join a x) xs n (every_mono (λ y. a.0 ≤ y.1 + 1) (λ y. min a.0 x.0 ≤ y.1 + 1) xs (λ y le. omega (arith, le)) p.1)
    (every_mono (λ y. y.0 ≤ a.1 + 1) (λ y. y.0 ≤ max a.1 x.1 + 1) xs (λ y le. omega (arith, le)) q.1)
    ∙ ap (λ b. b || names xs n) (join_covers a x n p.0 q.0) ∙ or_assoc3 (within a n) (within x n) (names xs n)

record Covers (a : ℕ × ℕ) (low : ℕ) (xs : List (ℕ × ℕ)) : Type 0 where
  pub lower : (fold join a xs).0 ≤ a.0
  pub upper : a.1 ≤ (fold join a xs).1
  pub from : low ≤ a.0 → low ≤ (fold join a xs).0
  pub small : a.1 < 2 ^ 63 → (fold join a xs).1 < 2 ^ 63
  pub ends : (fold join a xs).1 + 2 ≤ max (a.1 + 2) (past low xs)

covers : (a : ℕ × ℕ) (low : ℕ) (xs : List (ℕ × ℕ)) → Rise low xs → Covers a low xs
unfolding past
covers a low [] r = record { lower = omega arith; upper = omega arith; from = λ le. le; small = λ le. le; ends = omega arith }
covers a low (x ∷ xs) r =
    let c = covers (join a x) (x.1 + 2) xs r.3 in
    let m = past_low (x.1 + 2) xs r.3 in
    record {
      lower = omega (arith, c.lower);
      upper = omega (arith, c.upper);
      from = λ le. fold_from (join a x) low (x.1 + 2) xs (omega (arith, le, r.0)) (omega (arith, r.0, r.1)) r.3;
      small = λ le. c.small (omega (arith, le, r.2));
      ends = omega (arith, c.ends, m);
    }
  where
    fold_from : (b : ℕ × ℕ) (least from : ℕ) (ys : List (ℕ × ℕ)) → least ≤ b.0 → least ≤ from → Rise from ys → least ≤ (fold join b ys).0
    fold_from b least from [] le le2 s = le
    fold_from b least from (y ∷ ys) le le2 s = fold_from (join b y) least (y.1 + 2) ys (omega (arith, le, le2, s.0)) (omega (arith, le2, s.0, s.1)) s.3

-- ---- a run among the others

shuffled : (f r m b : Bool) → (f || ((r || m) || b)) ≡ (r || (f || (m || b)))
shuffled true true m b = refl
shuffled true false m b = refl
shuffled false r m b = or_assoc3 r m b

pub put_names : (front mid back : List (ℕ × ℕ)) (run : ℕ × ℕ) → Every (λ x. run.0 ≤ x.1 + 1) mid → Every (λ x. x.0 ≤ run.1 + 1) mid
    → Adds (front ++ (mid ++ back)) run (front ++ fold join run mid ∷ back)
put_names front mid back run p q n =
    names_append front (fold join run mid ∷ back) n ∙ ap (λ b. names front n || (b || names back n)) (fold_covers run mid n p q)
    ∙ shuffled (names front n) (within run n) (names mid n) (names back n)
    ∙ sym (ap (λ b. within run n || b) (names_append front (mid ++ back) n ∙ ap (λ b. names front n || b) (names_append mid back n)))

pub put_runs : (front mid back : List (ℕ × ℕ)) (run : ℕ × ℕ) → run.0 ≤ run.1 → run.1 < 2 ^ 63 → Every (λ x. x.1 < run.0 - 1) front → Every (λ x. run.1 + 1 < x.0) back
    → AreRuns (front ++ (mid ++ back)) → AreRuns (front ++ fold join run mid ∷ back)
put_runs front mid back run order small before behind r =
    let low = past 0 front in
    let rest = rise_right 0 front (mid ++ back) r in
    let c = covers run low mid (rise_left low mid back rest) in
    let last = rise_right low mid back rest in
    rise_join 0 front (fold join run mid ∷ back) (rise_left 0 front (mid ++ back) r) (
      c.from (past_below 0 run.0 front (omega arith) before),
      omega (arith, c.lower, c.upper, order),
      c.small small,
      raised (past low mid) ((fold join run mid).1 + 2) back last (every_both (λ x. run.1 + 1 < x.0) (λ x. past low mid ≤ x.0) (λ x. (fold join run mid).1 + 2 ≤ x.0) back (λ x gt le. omega (arith, gt, le, c.ends)) behind (rise_low (past low mid) (past low mid) back (omega arith) last)),
    )

-- ---- where a search ends

every_get : (P : ℕ × ℕ → Type 0) (xs : List (ℕ × ℕ)) (i : ℕ) (d : ℕ × ℕ) → Every P xs → i < length xs → P (slice_index_or xs i d)
every_get P [] i d e lt = absurd (omega (arith, lt))
every_get P (x ∷ xs) zero d e lt = e.0
every_get P (x ∷ xs) (suc i) d e lt = every_get P xs i d e.1 (omega (arith, lt))

every_all : (P : ℕ × ℕ → Type 0) (xs : List (ℕ × ℕ)) → ((k : ℕ) (d : ℕ × ℕ) → k < length xs → P (slice_index_or xs k d)) → Every P xs
every_all P [] f = tt
every_all P (x ∷ xs) f = (f zero x (omega arith), every_all P xs (λ k d lt. f (suc k) d (omega (arith, lt))))

every_front : (P : ℕ × ℕ → Type 0) (xs : List (ℕ × ℕ)) (i : ℕ) → ((k : ℕ) (d : ℕ × ℕ) → k < i → P (slice_index_or xs k d)) → Every P (take i xs)
every_front P xs zero f = tt
every_front P [] (suc i) f = tt
every_front P (x ∷ xs) (suc i) f = (f zero x (omega arith), every_front P xs i (λ k d lt. f (suc k) d (omega (arith, lt))))

every_back : (P : ℕ × ℕ → Type 0) (xs : List (ℕ × ℕ)) (i : ℕ) → ((k : ℕ) (d : ℕ × ℕ) → i ≤ k → k < length xs → P (slice_index_or xs k d)) → Every P (drop i xs)
every_back P xs zero f = every_all P xs (λ k d lt. f k d (omega arith) lt)
every_back P [] (suc i) f = tt
every_back P (x ∷ xs) (suc i) f = every_back P xs i (λ k d ge lt. f (suc k) d (omega (arith, ge)) (omega (arith, lt)))

rise_order : (low : ℕ) (xs : List (ℕ × ℕ)) → Rise low xs → Every (λ x. x.0 ≤ x.1) xs
rise_order low [] r = tt
rise_order low (x ∷ xs) r = (r.1, rise_order (x.1 + 2) xs r.3)

pub uppers_rise : (low : ℕ) (xs : List (ℕ × ℕ)) → Rise low xs → (i j : ℕ) (d : ℕ × ℕ) → i ≤ j → j < length xs → (slice_index_or xs i d).1 ≤ (slice_index_or xs j d).1
uppers_rise low [] r i j d le lt = absurd (omega (arith, lt))
uppers_rise low (x ∷ xs) r zero zero d le lt = omega arith
uppers_rise low (x ∷ xs) r zero (suc j) d le lt =
    every_get (λ y. x.1 ≤ y.1) xs j d (every_both (λ y. x.1 + 2 ≤ y.0) (λ y. y.0 ≤ y.1) (λ y. x.1 ≤ y.1) xs (λ y p q. omega (arith, p, q)) (rise_low (x.1 + 2) (x.1 + 2) xs (omega arith) r.3) (rise_order (x.1 + 2) xs r.3)) (omega (arith, lt))
uppers_rise low (x ∷ xs) r (suc i) zero d le lt = absurd (omega (arith, le))
uppers_rise low (x ∷ xs) r (suc i) (suc j) d le lt = uppers_rise (x.1 + 2) xs r.3 i j d (omega (arith, le)) (omega (arith, lt))

pub lowers_rise : (low : ℕ) (xs : List (ℕ × ℕ)) → Rise low xs → (i j : ℕ) (d : ℕ × ℕ) → i ≤ j → j < length xs → (slice_index_or xs i d).0 ≤ (slice_index_or xs j d).0
lowers_rise low [] r i j d le lt = absurd (omega (arith, lt))
lowers_rise low (x ∷ xs) r zero zero d le lt = omega arith
lowers_rise low (x ∷ xs) r zero (suc j) d le lt = every_get (λ y. x.0 ≤ y.0) xs j d (rise_low (x.1 + 2) x.0 xs (omega (arith, r.1)) r.3) (omega (arith, lt))
lowers_rise low (x ∷ xs) r (suc i) zero d le lt = absurd (omega (arith, le))
lowers_rise low (x ∷ xs) r (suc i) (suc j) d le lt = lowers_rise (x.1 + 2) xs r.3 i j d (omega (arith, le)) (omega (arith, lt))

pub split_uppers : (xs : List (ℕ × ℕ)) (number i : ℕ) → i ≤ length xs → IsPartitionPoint (λ y. ltb y.1 number ≡ true) (λ y. ltb y.1 number ≡ false) xs i → IsSplit (λ y. y.1 < number) (λ y. number ≤ y.1) xs i
split_uppers xs number i few p = record {
  few = few;
  front = every_front (λ y. y.1 < number) xs i (λ k d lt. ltb-true (slice_index_or xs k d).1 number (p.0 k d (omega arith) lt));
  back = every_back (λ y. number ≤ y.1) xs i (λ k d ge lt. omega (arith, ltb-false (slice_index_or xs k d).1 number (p.1 k d ge lt)));
}

pub split_lowers : (xs : List (ℕ × ℕ)) (number i : ℕ) → i ≤ length xs → IsPartitionPoint (λ y. leb y.0 number ≡ true) (λ y. leb y.0 number ≡ false) xs i → IsSplit (λ y. y.0 ≤ number) (λ y. number < y.0) xs i
split_lowers xs number i few p = record {
  few = few;
  front = every_front (λ y. y.0 ≤ number) xs i (λ k d lt. leb-true (slice_index_or xs k d).0 number (p.0 k d (omega arith) lt));
  back = every_back (λ y. number < y.0) xs i (λ k d ge lt. leb-false (slice_index_or xs k d).0 number (p.1 k d ge lt));
}

-- ---- the runs behind a number

pub behind_names : (runs more : List (ℕ × ℕ)) (run : ℕ × ℕ) (n : ℕ) → AreRuns runs → IsBehind runs n (run ∷ more) → names runs n ≡ leb run.0 n
behind_names runs more run n r b =
    ap (λ xs. names xs n) b.parts ∙ names_append b.front (run ∷ more) n ∙ ap (λ f. f || (within run n || names more n)) (names_below n b.front b.before) ∙ by_order (leb run.0 n) refl
  where
    rest : Rise (past 0 b.front) (run ∷ more)
    rest = rise_right 0 b.front (run ∷ more) (subst AreRuns b.parts r)

    by_order : (t : Bool) → leb run.0 n ≡ t → (within run n || names more n) ≡ t
    by_order true e = or_left (within run n) (names more n) (within_from run n (leb-true run.0 n e) b.from.0)
    by_order false e =
        ap (λ f. f || names more n) (and_left (leb run.0 n) (leb n run.1) e)
        ∙ names_above n more (every_mono (λ y. run.1 + 2 ≤ y.0) (λ y. n < y.0) more (λ y le. omega (arith, le, leb-false run.0 n e, rest.1)) (rise_low (run.1 + 2) (run.1 + 2) more (omega arith) rest.3))

pub behind_none : (runs : List (ℕ × ℕ)) (n : ℕ) → IsBehind runs n [] → names runs n ≡ false
behind_none runs n b = ap (λ xs. names xs n) b.parts ∙ names_append b.front [] n ∙ ap (λ f. f || false) (names_below n b.front b.before)

pub missing_behind : (runs more : List (ℕ × ℕ)) (run : ℕ × ℕ) (from : ℕ) → AreRuns runs → IsBehind runs from (run ∷ more) → run.0 ≤ from → IsLeastMissing runs from (run.1 + 1)
missing_behind runs more run from r b le = record {
  from_there = omega (arith, b.from.0);
  missing =
      ap (λ xs. names xs (run.1 + 1)) b.parts ∙ names_append b.front (run ∷ more) (run.1 + 1)
      ∙ ap (λ f. f || (within run (run.1 + 1) || names more (run.1 + 1))) (names_below (run.1 + 1) b.front (every_mono (λ y. y.1 < from) (λ y. y.1 < run.1 + 1) b.front (λ y lt. omega (arith, lt, b.from.0)) b.before))
      ∙ ap (λ f. f || names more (run.1 + 1)) (and_right (leb run.0 (run.1 + 1)) (leb (run.1 + 1) run.1) (lt-leb (run.1 + 1) run.1 (omega arith)))
      ∙ names_above (run.1 + 1) more (every_mono (λ y. run.1 + 2 ≤ y.0) (λ y. run.1 + 1 < y.0) more (λ y ge. omega (arith, ge)) (rise_low (run.1 + 2) (run.1 + 2) more (omega arith) rest.3));
  before = λ m ge lt.
      ap (λ xs. names xs m) b.parts ∙ names_append b.front (run ∷ more) m
      ∙ or_right (names b.front m) (names (run ∷ more) m) (or_left (within run m) (names more m) (within_from run m (omega (arith, le, ge)) (omega (arith, lt))));
}
  where
    rest : Rise (past 0 b.front) (run ∷ more)
    rest = rise_right 0 b.front (run ∷ more) (subst AreRuns b.parts r)

pub missing_here : (runs : List (ℕ × ℕ)) (from : ℕ) → names runs from ≡ false → IsLeastMissing runs from from
missing_here runs from e = record { from_there = omega arith; missing = e; before = λ m ge lt. absurd (omega (arith, ge, lt)) }

-- ---- what is cut off

trimmed_runs : (low number : ℕ) (xs : List (ℕ × ℕ)) → Rise low xs → Every (λ y. number ≤ y.1) xs → AreRuns (trimmed number xs)
trimmed_runs low number [] r e = tt
trimmed_runs low number (x ∷ xs) r e = (omega arith, omega (arith, r.1, e.0), r.2, r.3)

trimmed_names : (low number : ℕ) (xs : List (ℕ × ℕ)) (n : ℕ) → Rise low xs → Every (λ y. number ≤ y.1) xs → names (trimmed number xs) n ≡ (leb number n && names xs n)
trimmed_names low number [] n r e = sym (and_right (leb number n) false refl)
trimmed_names low number (x ∷ xs) n r e = by_order (leb number n) refl
  where
    first : ℕ × ℕ
    first = (max x.0 number, x.1)

    by_order : (t : Bool) → leb number n ≡ t → (within first n || names xs n) ≡ (t && (within x n || names xs n))
    by_order true le = ap (λ f. f || names xs n) (both (within first n) (within x n)
        (λ f. let w = within_parts first n f in within_from x n (omega (arith, w.0)) w.1)
        (λ f. let w = within_parts x n f in within_from first n (omega (arith, w.0, leb-true number n le)) w.1))
    by_order false gt =
        ap (λ f. f || names xs n) (and_left (leb (max x.0 number) n) (leb n x.1) (lt-leb (max x.0 number) n (omega (arith, leb-false number n gt))))
        ∙ names_above n xs (every_mono (λ y. x.1 + 2 ≤ y.0) (λ y. n < y.0) xs (λ y le. omega (arith, le, e.0, leb-false number n gt)) (rise_low (x.1 + 2) (x.1 + 2) xs (omega arith) r.3))

pub cut_runs : (xs : List (ℕ × ℕ)) (number i : ℕ) → AreRuns xs → IsSplit (λ y. y.1 < number) (λ y. number ≤ y.1) xs i → AreRuns (trimmed number (drop i xs))
cut_runs xs number i r s = trimmed_runs (past 0 (take i xs)) number (drop i xs) (rise_right 0 (take i xs) (drop i xs) (subst AreRuns (sym (take-append-drop i xs)) r)) s.back

pub cut_names : (xs : List (ℕ × ℕ)) (number i : ℕ) → AreRuns xs → IsSplit (λ y. y.1 < number) (λ y. number ≤ y.1) xs i → Cuts xs number (trimmed number (drop i xs))
cut_names xs number i r s n =
    trimmed_names (past 0 (take i xs)) number (drop i xs) n (rise_right 0 (take i xs) (drop i xs) (subst AreRuns (sym (take-append-drop i xs)) r)) s.back
    ∙ sym (ap (λ ys. leb number n && names ys n) (sym (take-append-drop i xs)) ∙ ap (λ f. leb number n && f) (names_append (take i xs) (drop i xs) n) ∙ by_order (leb number n) refl)
  where
    by_order : (t : Bool) → leb number n ≡ t → (t && (names (take i xs) n || names (drop i xs) n)) ≡ (t && names (drop i xs) n)
    by_order false gt = refl
    by_order true le = ap (λ f. f || names (drop i xs) n) (names_below n (take i xs) (every_mono (λ y. y.1 < number) (λ y. y.1 < n) (take i xs) (λ y lt. omega (arith, lt, leb-true number n le)) s.front))

-- ---- the first of the runs behind a number

pub first_names : (runs rest : List (ℕ × ℕ)) (n : ℕ) → AreRuns runs → IsBehind runs n rest → 0 < length rest → leb (slice_index_or rest 0 (0, 0)).0 n ≡ names runs n
first_names runs [] n r b some = absurd (omega (arith, some))
first_names runs (x ∷ xs) n r b some = sym (behind_names runs xs x n r b)

pub no_names : (runs rest : List (ℕ × ℕ)) (n : ℕ) → IsBehind runs n rest → length rest < 1 → false ≡ names runs n
no_names runs [] n b none = sym (behind_none runs n b)
no_names runs (x ∷ xs) n b none = absurd (omega (arith, none))

pub first_missing : (runs rest : List (ℕ × ℕ)) (from : ℕ) → AreRuns runs → IsBehind runs from rest → 0 < length rest → (slice_index_or rest 0 (0, 0)).0 ≤ from → IsLeastMissing runs from ((slice_index_or rest 0 (0, 0)).1 + 1)
first_missing runs [] from r b some le = absurd (omega (arith, some))
first_missing runs (x ∷ xs) from r b some le = missing_behind runs xs x from r b le

pub first_small : (runs rest : List (ℕ × ℕ)) (from : ℕ) → AreRuns runs → IsBehind runs from rest → (slice_index_or rest 0 (0, 0)).1 < 2 ^ 63
first_small runs [] from r b = omega arith
first_small runs (x ∷ xs) from r b = (rise_right 0 b.front (x ∷ xs) (subst AreRuns b.parts r)).2

-- ---- a run that is put

every_later : (P : ℕ × ℕ → Type 0) (i j : ℕ) (xs : List (ℕ × ℕ)) → i ≤ j → Every P (drop i xs) → Every P (drop j xs)
every_later P zero j xs le e = every_drop P j xs e
every_later P (suc i) zero xs le e = absurd (omega (arith, le))
every_later P (suc i) (suc j) [] le e = tt
every_later P (suc i) (suc j) (x ∷ xs) le e = every_later P i j xs (omega (arith, le)) e

every_mid : (P : ℕ × ℕ → Type 0) (i j : ℕ) (xs : List (ℕ × ℕ)) → Every P (drop i xs) → Every P (drop i (take j xs))
every_mid P zero j xs e = every_take P j xs e
every_mid P (suc i) zero xs e = tt
every_mid P (suc i) (suc j) [] e = tt
every_mid P (suc i) (suc j) (x ∷ xs) e = every_mid P i j xs e

three_parts : (i j : ℕ) (xs : List (ℕ × ℕ)) → i ≤ j → take i xs ++ (drop i (take j xs) ++ drop j xs) ≡ xs
three_parts zero j xs le = take-append-drop j xs
three_parts (suc i) zero xs le = absurd (omega (arith, le))
three_parts (suc i) (suc j) [] le = refl
three_parts (suc i) (suc j) (x ∷ xs) le = ap (λ ys. x ∷ ys) (three_parts i j xs (omega (arith, le)))

pub record IsPut (xs : List (ℕ × ℕ)) (run : ℕ × ℕ) (ys : List (ℕ × ℕ)) : Type 0 where
  pub runs : AreRuns ys
  pub adds : Adds xs run ys

pub put_here : (xs : List (ℕ × ℕ)) (lower upper start end : ℕ) → lower ≤ upper → upper < 2 ^ 63 → AreRuns xs
    → IsSplit (λ y. y.1 < lower - 1) (λ y. lower - 1 ≤ y.1) xs start → IsSplit (λ y. y.0 ≤ upper + 1) (λ y. upper + 1 < y.0) xs end → end ≤ start
    → IsPut xs (lower, upper) (take start xs ++ (lower, upper) ∷ drop start xs)
put_here xs lower upper start end order small r s e le =
    let whole : take start xs ++ drop start xs ≡ xs = take-append-drop start xs in
    record {
      runs = put_runs (take start xs) [] (drop start xs) (lower, upper) order small s.front (every_later (λ y. upper + 1 < y.0) end start xs le e.back) (subst AreRuns (sym whole) r);
      adds = subst (λ zs. Adds zs (lower, upper) (take start xs ++ (lower, upper) ∷ drop start xs)) whole (put_names (take start xs) [] (drop start xs) (lower, upper) tt tt);
    }

pub put_over : (xs : List (ℕ × ℕ)) (lower upper start end : ℕ) → lower ≤ upper → upper < 2 ^ 63 → AreRuns xs
    → IsSplit (λ y. y.1 < lower - 1) (λ y. lower - 1 ≤ y.1) xs start → IsSplit (λ y. y.0 ≤ upper + 1) (λ y. upper + 1 < y.0) xs end → start ≤ end
    → IsPut xs (lower, upper) (take start xs ++ fold join (lower, upper) (drop start (take end xs)) ∷ drop end xs)
put_over xs lower upper start end order small r s e le =
    let mid = drop start (take end xs) in
    let whole : take start xs ++ (mid ++ drop end xs) ≡ xs = three_parts start end xs le in
    record {
      runs = put_runs (take start xs) mid (drop end xs) (lower, upper) order small s.front e.back (subst AreRuns (sym whole) r);
      adds = subst (λ zs. Adds zs (lower, upper) (take start xs ++ fold join (lower, upper) mid ∷ drop end xs)) whole
          (put_names (take start xs) mid (drop end xs) (lower, upper)
          (every_mono (λ y. lower - 1 ≤ y.1) (λ y. lower ≤ y.1 + 1) mid (λ y ge. omega (arith, ge)) (every_mid (λ y. lower - 1 ≤ y.1) start end xs s.back))
          (every_drop (λ y. y.0 ≤ upper + 1) start (take end xs) e.front));
    }

pub by_answer : {E : Type 0} (P : List (ℕ × ℕ) → Type 0) (r : Result (Unit {0}) E) (new put old : List (ℕ × ℕ)) → OnOk r (new ≡ put) → OnErr r (new ≡ old) → P put → P old → P new
by_answer P (Ok none) new put old ok err p q = subst P (sym ok) p
by_answer P (Err e) new put old ok err p q = subst P (sym err) q

pub on_ok : {E : Type 0} (P : List (ℕ × ℕ) → Type 0) (r : Result (Unit {0}) E) (new put : List (ℕ × ℕ)) → OnOk r (new ≡ put) → P put → OnOk r (P new)
on_ok P (Ok none) new put ok p = subst P (sym ok) p
on_ok P (Err e) new put ok p = tt

-- ---- what two sets have in common

pub common_names : (x y : ℕ × ℕ) (n : ℕ) → names (common x y) n ≡ (within x n && within y n)
common_names x y n = by_order (leb (max x.0 y.0) (min x.1 y.1)) refl
  where
    run : ℕ × ℕ
    run = (max x.0 y.0, min x.1 y.1)

    by_order : (t : Bool) → leb (max x.0 y.0) (min x.1 y.1) ≡ t → names (cond t (run ∷ []) []) n ≡ (within x n && within y n)
    by_order true le = both (within run n || false) (within x n && within y n)
        (λ e. elim (or_cases (within run n) false e) [
          | inl f ↦ (let w = within_parts run n f in and_from (within x n) (within y n) (within_from x n (omega (arith, w.0)) (omega (arith, w.1))) (within_from y n (omega (arith, w.0)) (omega (arith, w.1))))
          | inr f ↦ absurd (cc f)
        ])
        (λ e. let p = and_parts (within x n) (within y n) e in let v = within_parts x n p.0 in let w = within_parts y n p.1 in or_left (within run n) false (within_from run n (omega (arith, v.0, w.0)) (omega (arith, v.1, w.1))))
    by_order false gt = both false (within x n && within y n) (λ e. absurd (cc e))
        (λ e. let p = and_parts (within x n) (within y n) e in let v = within_parts x n p.0 in let w = within_parts y n p.1 in absurd (omega (arith, leb-false (max x.0 y.0) (min x.1 y.1) gt, v.0, v.1, w.0, w.1)))

-- so much of two sets is told by the runs so far, and the rest lies behind them
pub record Meeting (one other both_runs xs ys : List (ℕ × ℕ)) : Type 0 where
  pub runs : AreRuns both_runs
  pub low : ℕ
  pub rises : Rise low xs
  pub low' : ℕ
  pub rises' : Rise low' ys
  pub behind : past 0 both_runs ≤ max low low'
  pub told : (n : ℕ) → (names one n && names other n) ≡ (names both_runs n || (names xs n && names ys n))

pub meeting_start : (one other : List (ℕ × ℕ)) → AreRuns one → AreRuns other → Meeting one other [] one other
unfolding past
meeting_start one other r s = record { runs = tt; low = 0; rises = r; low' = 0; rises' = s; behind = omega arith; told = λ n. refl }

pub past_join : (low : ℕ) (xs ys : List (ℕ × ℕ)) → past low (xs ++ ys) ≡ past (past low xs) ys
unfolding past
past_join low [] ys = refl
past_join low (x ∷ xs) ys = past_join (x.1 + 2) xs ys

common_rises : (low : ℕ) (x y : ℕ × ℕ) → low ≤ max x.0 y.0 → x.1 < 2 ^ 63 → Rise low (common x y)
common_rises low x y le small = by_order (leb (max x.0 y.0) (min x.1 y.1)) refl
  where
    by_order : (t : Bool) → leb (max x.0 y.0) (min x.1 y.1) ≡ t → Rise low (cond t ((max x.0 y.0, min x.1 y.1) ∷ []) [])
    by_order true e = (le, leb-true (max x.0 y.0) (min x.1 y.1) e, omega (arith, small), tt)
    by_order false e = tt

common_past : (low high : ℕ) (x y : ℕ × ℕ) → low ≤ high → min x.1 y.1 + 2 ≤ high → past low (common x y) ≤ high
unfolding past
common_past low high x y le ends = by_order (leb (max x.0 y.0) (min x.1 y.1))
  where
    by_order : (t : Bool) → past low (cond t ((max x.0 y.0, min x.1 y.1) ∷ []) []) ≤ high
    by_order true = ends
    by_order false = le

-- the first run is passed, where nothing of the others' rest is in it
passes : (wx wy x y : Bool) → (wx ≡ true → y ≡ false) → ((wx || x) && (wy || y)) ≡ ((wx && wy) || (x && (wy || y)))
passes false wy x y f = refl
passes true true x y f = refl
passes true false x true f = absurd (cc (f refl))
passes true false true false f = refl
passes true false false false f = refl

passes' : (wx wy x y : Bool) → (wy ≡ true → x ≡ false) → ((wx || x) && (wy || y)) ≡ ((wx && wy) || ((wx || x) && y))
passes' true true x y f = refl
passes' false true true y f = absurd (cc (f refl))
passes' false true false y f = refl
passes' true false x y f = refl
passes' false false x y f = refl

pub meeting_first : (one other both_runs xs ys : List (ℕ × ℕ)) (x y : ℕ × ℕ) → Meeting one other both_runs (x ∷ xs) (y ∷ ys) → x.1 < y.1 → Meeting one other (both_runs ++ common x y) xs (y ∷ ys)
meeting_first one other both_runs xs ys x y m lt = record {
  runs = rise_join 0 both_runs (common x y) m.runs (common_rises (past 0 both_runs) x y (omega (arith, m.behind, m.rises.0, m.rises'.0)) m.rises.2);
  low = x.1 + 2;
  rises = m.rises.3;
  low' = m.low';
  rises' = m.rises';
  behind = subst (λ n. n ≤ max (x.1 + 2) m.low') (sym (past_join 0 both_runs (common x y)))
      (common_past (past 0 both_runs) (max (x.1 + 2) m.low') x y (omega (arith, m.behind, m.rises.0, m.rises.1)) (omega arith));
  told = λ n.
      m.told n
      ∙ ap (λ b. names both_runs n || b) (passes (within x n) (within y n) (names xs n) (names ys n)
      (λ e. names_above n ys (every_mono (λ z. y.1 + 2 ≤ z.0) (λ z. n < z.0) ys (λ z le. omega (arith, le, lt, (within_parts x n e).1)) (rise_low (y.1 + 2) (y.1 + 2) ys (omega arith) m.rises'.3))))
      ∙ ap (λ b. names both_runs n || (b || (names xs n && names (y ∷ ys) n))) (sym (common_names x y n))
      ∙ sym (or_assoc3 (names both_runs n) (names (common x y) n) (names xs n && names (y ∷ ys) n))
      ∙ ap (λ b. b || (names xs n && names (y ∷ ys) n)) (sym (names_append both_runs (common x y) n));
}

pub meeting_other : (one other both_runs xs ys : List (ℕ × ℕ)) (x y : ℕ × ℕ) → Meeting one other both_runs (x ∷ xs) (y ∷ ys) → y.1 ≤ x.1 → Meeting one other (both_runs ++ common x y) (x ∷ xs) ys
meeting_other one other both_runs xs ys x y m le = record {
  runs = rise_join 0 both_runs (common x y) m.runs (common_rises (past 0 both_runs) x y (omega (arith, m.behind, m.rises.0, m.rises'.0)) m.rises.2);
  low = m.low;
  rises = m.rises;
  low' = y.1 + 2;
  rises' = m.rises'.3;
  behind = subst (λ n. n ≤ max m.low (y.1 + 2)) (sym (past_join 0 both_runs (common x y)))
      (common_past (past 0 both_runs) (max m.low (y.1 + 2)) x y (omega (arith, m.behind, m.rises'.0, m.rises'.1)) (omega arith));
  told = λ n.
      m.told n
      ∙ ap (λ b. names both_runs n || b) (passes' (within x n) (within y n) (names xs n) (names ys n)
      (λ e. names_above n xs (every_mono (λ z. x.1 + 2 ≤ z.0) (λ z. n < z.0) xs (λ z ge. omega (arith, ge, le, (within_parts y n e).1)) (rise_low (x.1 + 2) (x.1 + 2) xs (omega arith) m.rises.3))))
      ∙ ap (λ b. names both_runs n || (b || (names (x ∷ xs) n && names ys n))) (sym (common_names x y n))
      ∙ sym (or_assoc3 (names both_runs n) (names (common x y) n) (names (x ∷ xs) n && names ys n))
      ∙ ap (λ b. b || (names (x ∷ xs) n && names ys n)) (sym (names_append both_runs (common x y) n));
}

or_none : (b : Bool) → (b || false) ≡ b
or_none true = refl
or_none false = refl

pub meeting_end : (one other both_runs ys : List (ℕ × ℕ)) → Meeting one other both_runs [] ys → IsMet one other both_runs
meeting_end one other both_runs ys m = record { runs = m.runs; meets = λ n. sym (m.told n ∙ or_none (names both_runs n)) }

pub meeting_end' : (one other both_runs xs : List (ℕ × ℕ)) → Meeting one other both_runs xs [] → IsMet one other both_runs
meeting_end' one other both_runs xs m = record { runs = m.runs; meets = λ n. sym (m.told n ∙ ap (λ b. names both_runs n || b) (and_right (names xs n) false refl) ∙ or_none (names both_runs n)) }

pub step_first : (one other out out' xs ys xs' ys' : List (ℕ × ℕ)) (x y : ℕ × ℕ) → xs ≡ x ∷ xs' → ys ≡ y ∷ ys' → out' ≡ out ++ common x y → Meeting one other out xs ys → x.1 < y.1 → Meeting one other out' xs' ys
step_first one other out out' xs ys xs' ys' x y is is' grown m lt =
    subst (λ zs. Meeting one other zs xs' ys) (sym grown) (subst (λ zs. Meeting one other (out ++ common x y) xs' zs) (sym is')
    (meeting_first one other out xs' ys' x y (subst (λ zs. Meeting one other out (x ∷ xs') zs) is' (subst (λ zs. Meeting one other out zs ys) is m)) lt))

pub step_other : (one other out out' xs ys xs' ys' : List (ℕ × ℕ)) (x y : ℕ × ℕ) → xs ≡ x ∷ xs' → ys ≡ y ∷ ys' → out' ≡ out ++ common x y → Meeting one other out xs ys → y.1 ≤ x.1 → Meeting one other out' xs ys'
step_other one other out out' xs ys xs' ys' x y is is' grown m le =
    subst (λ zs. Meeting one other zs xs ys') (sym grown) (subst (λ zs. Meeting one other (out ++ common x y) zs ys') (sym is)
    (meeting_other one other out xs' ys' x y (subst (λ zs. Meeting one other out (x ∷ xs') zs) is' (subst (λ zs. Meeting one other out zs ys) is m)) le))
