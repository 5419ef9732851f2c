-- The queues of a route come in order, each once.
use Rattle.std.proofs.Common.{◌≡◌, ℕ, Bool, true, false, if◌then◌else◌, List, [], ◌∷◌, map, filter, bytes_eq, Option, None, Some, Result, Ok, Err, IfOk, refl, sym, ap, ◌∙◌}
use Rattle.std.proofs.lemmas.Bool.{true≢false, eqb-true}
use Rattle.std.proofs.lemmas.Cmp.{nat_cmp_total, nat_list_cmp_total}
use Rattle.std.proofs.lemmas.Map.Text.{is_eq-slice_cmp}
use Rattle.std.specs.Cmp.Lexicographic.{slice_cmp}
use Rattle.std.specs.Ordering.{is_le, is_eq, nat_cmp, ordering_then, on}
use Rattle.std.specs.declared.cmp.Ordering.{Ordering}
use Rattle.std.specs.declared.cmp.Ordering.TheVariants.{Less, Equal, Greater}
use Rattle.std.specs.List.{AllByRecursion}
use Rattle.std.specs.List.Sorted.{IsStrictlySortedBy}
use Rattle.amqp_values.specs.declared.value.Value.{Value}
use Rattle.binding_table.specs.Spots.{spot, queue_order}
use Rattle.binding_table.specs.Rows.{is_of}
use Rattle.binding_table.proofs.Cuts.{queues_total}
use Rattle.sorted_map.proofs.Changing.{sorted_filter, all_filter, kept_filter, same_equal}
use Rattle.exchange_core.specs.declared.marks.ExchangeMarks.{ExchangeMarks}
use Rattle.exchange_core.specs.declared.marks.Kind.{Kind}
use Rattle.exchange_core.specs.Routes.{Rowed, takes, is_same, others, queues_of}
use Rattle.exchange_core.specs.Exchanges.{routed}

abbrev R : List ℕ → List ℕ → Ordering
R = slice_cmp nat_cmp

-- no name is behind a later one
abbrev Rises : List (List ℕ) → Type 0
Rises [] = Unit {0}
Rises (x ∷ xs) = AllByRecursion (λ y. is_le (R x y) ≡ true) xs × Rises xs

abbrev AtMost : Option (List ℕ) → List (List ℕ) → Type 0
AtMost None names = Unit {0}
AtMost (Some b) names = AllByRecursion (λ y. is_le (R b y) ≡ true) names

abbrev Above : Option (List ℕ) → List (List ℕ) → Type 0
Above None names = Unit {0}
Above (Some b) names = AllByRecursion (λ y. R b y ≡ Less) names

less_than : (b x : List ℕ) → is_le (R b x) ≡ true → bytes_eq b x ≡ false → R b x ≡ Less
less_than b x le n = go (R b x) refl le where
  go : (o : Ordering) → R b x ≡ o → is_le o ≡ true → o ≡ Less
  go Less e q = refl
  go Equal e q = absurd (true≢false (sym (ap is_eq e) ∙ (is_eq-slice_cmp b x ∙ n)))
  go Greater e q = absurd (true≢false (sym q))

all_above : (b x : List ℕ) → R b x ≡ Less → (ys : List (List ℕ)) → AllByRecursion (λ y. R x y ≡ Less) ys → AllByRecursion (λ y. R b y ≡ Less) ys
all_above b x lt [] h = tt
all_above b x lt (y ∷ ys) h = (nat_list_cmp_total.trans b x y lt h.0, all_above b x lt ys h.1)

record Strict (before : Option (List ℕ)) (names : List (List ℕ)) : Type 0 where
  sorted : IsStrictlySortedBy R names
  above : Above before names

at_most_tail : (before : Option (List ℕ)) (x : List ℕ) (xs : List (List ℕ)) → AtMost before (x ∷ xs) → AtMost before xs
at_most_tail None x xs h = tt
at_most_tail (Some b) x xs h = h.1

strict : (names : List (List ℕ)) (before : Option (List ℕ)) → Rises names → AtMost before names → Strict before (others before names)
unfolding IsStrictlySortedBy
strict [] before r a = record { sorted = tt; above = none before } where
  none : (before : Option (List ℕ)) → Above before []
  none None = tt
  none (Some b) = tt
strict (x ∷ xs) before r a = go (is_same before x) refl (strict xs before r.1 (at_most_tail before x xs a)) (strict xs (Some x) r.1 r.0) where
  above : (before : Option (List ℕ)) → AtMost before (x ∷ xs) → is_same before x ≡ false → (ys : List (List ℕ)) → AllByRecursion (λ y. R x y ≡ Less) ys → Above before (x ∷ ys)
  above None a n ys h = tt
  above (Some b) a n ys h = (less_than b x a.0 n, all_above b x (less_than b x a.0 n) ys h)

  go : (s : Bool) → is_same before x ≡ s → Strict before (others before xs) → Strict (Some x) (others (Some x) xs) → Strict before (if s then others before xs else x ∷ others (Some x) xs)
  go true e same other = same
  go false e same other = record { sorted = (other.above, other.sorted); above = above before a e (others (Some x) xs) other.above }

-- ---- the queues of sorted bindings

by_queue : (n : ℕ) (a b : Rowed) → a.exchange ≡ n → b.exchange ≡ n → queue_order (spot a) (spot b) ≡ Less → is_le (R a.binding.queue b.binding.queue) ≡ true
by_queue n a b e f lt = go (nat_cmp a.exchange b.exchange) (R a.binding.queue b.binding.queue) (R a.binding.key b.binding.key) (same a.exchange b.exchange (e ∙ sym f)) lt where
  same : (x y : ℕ) → x ≡ y → nat_cmp x y ≡ Equal
  same x y e = ap (nat_cmp x) (sym e) ∙ same_equal nat_cmp nat_cmp_total x

  go : (x q k : Ordering) → x ≡ Equal → ordering_then (ordering_then x q) k ≡ Less → is_le q ≡ true
  go x q k e h = next q (sym (ap (λ (o : Ordering). ordering_then (ordering_then o q) k) e) ∙ h) where
    next : (q : Ordering) → ordering_then (ordering_then Equal q) k ≡ Less → is_le q ≡ true
    next Less h = refl
    next Equal h = refl
    next Greater h = absurd (true≢false (sym (ap is_le h)))

rising : (n : ℕ) (rows : List Rowed) → AllByRecursion (λ r. r.exchange ≡ n) rows → IsStrictlySortedBy (on spot queue_order) rows → Rises (map (λ (r : Rowed). r.binding.queue) rows)
unfolding IsStrictlySortedBy
rising n [] e s = tt
rising n (r ∷ rs) e s = (each rs e.1 s.0, rising n rs e.1 s.1) where
  each : (rs : List Rowed) → AllByRecursion (λ r. r.exchange ≡ n) rs → AllByRecursion (λ y. queue_order (spot r) (spot y) ≡ Less) rs → AllByRecursion (λ y. is_le (R r.binding.queue y) ≡ true) (map (λ (r : Rowed). r.binding.queue) rs)
  each [] f h = tt
  each (y ∷ ys) f h = (by_queue n r y e.0 f.0 h.0, each ys f.1 h.1)

of_sorted : (n : ℕ) (kind : Kind) (key : List ℕ) (asked : Option Value) (rows : List Rowed) → IsStrictlySortedBy (on spot queue_order) rows → IsStrictlySortedBy R (queues_of kind key asked (filter (is_of n) rows))
of_sorted n kind key asked rows s =
    let total = queues_total in
    let mine = all_filter (on spot queue_order) total (is_of n) (λ (r : Rowed). r.exchange ≡ n) (λ r e. eqb-true r.exchange n e) rows in
    let sorted = sorted_filter (on spot queue_order) total (takes kind key asked) (filter (is_of n) rows) (sorted_filter (on spot queue_order) total (is_of n) rows s) in
    let all = kept_filter (on spot queue_order) total (takes kind key asked) (λ (r : Rowed). r.exchange ≡ n) (filter (is_of n) rows) mine in
    (strict (map (λ (r : Rowed). r.binding.queue) (filter (takes kind key asked) (filter (is_of n) rows))) None (rising n (filter (takes kind key asked) (filter (is_of n) rows)) all sorted) tt).sorted

pub routed_sorted : (exchange : Option (ExchangeMarks × ℕ)) (key : List ℕ) (asked : Option Value) (rows : List Rowed) → IsStrictlySortedBy (on spot queue_order) rows → IsStrictlySortedBy (slice_cmp nat_cmp) (routed exchange key asked rows)
unfolding IsStrictlySortedBy
routed_sorted None key asked rows s = tt
routed_sorted (Some exchange) key asked rows s = of_sorted exchange.1 exchange.0.kind key asked rows s

pub if_ok : {A E : Type 0} {P Q : A → Type 0} → ((x : A) → P x → Q x) → (r : Result A E) → IfOk r P → IfOk r Q
if_ok f (Ok x) p = f x p
if_ok f (Err e) p = tt
