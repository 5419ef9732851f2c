-- What is no exchange's number has no bindings.
use Rattle.std.proofs.Common.{◌≡◌, ℕ, ◌<◌, ◌==◌, ◌&&◌, not, Bool, true, false, if◌then◌else◌, List, [], ◌∷◌, ◌++◌, length, filter, bytes_eq, slice_index_or, Some, refl, sym, ap, ◌∙◌, arith}
use Rattle.std.proofs.lemmas.Bool.{true≢false, eqb-true}
use Rattle.std.specs.List.{remove}
use Rattle.std.specs.Ordering.{is_lt, is_gt, is_eq}
use Rattle.name_map.specs.Named.{find, out}
use Rattle.name_map.specs.Named as named
use Rattle.named_lists.specs.Lists.{lists_of, times}
use Rattle.named_lists.proofs.Parting.{one_if, times_put, times_out, times_remove}
use Rattle.binding_table.specs.Spots.{Spot, spot}
use Rattle.sorted_map.specs.Cuts.{before, behind}
use Rattle.binding_table.specs.Rows.{is_of, is_of_queue, put, from_spot}
use Rattle.binding_table.specs.Rows as table
use Rattle.exchange_core.specs.declared.marks.ExchangeMarks.{ExchangeMarks}
use Rattle.exchange_core.specs.Routes.{Rowed, has_none}
use Rattle.exchange_core.specs.Exchanges.{Entry, OwnRows, is_other}
use Rattle.exchange_core.proofs.Filtering.{filter_still, filter_none, filter_both}
use Rattle.sorted_map.proofs.Cutting.{filter_same}

pub put_owns : (entries : List Entry) (rows : List Rowed) → OwnRows entries rows → (name : List ℕ) (x : ExchangeMarks × ℕ) → OwnRows (named.put name x entries) rows
put_owns entries rows o name x n z = o n (omega (arith, z, times_put n name x entries))

pub out_owns : (entries : List Entry) (rows : List Rowed) → OwnRows entries rows → (name : List ℕ) (x : ExchangeMarks × ℕ) → find name entries ≡ Some x → OwnRows (out name entries) (filter (λ r. not (is_of x.1 r)) rows)
out_owns entries rows o name x q n z = go (x.1 == n) refl where
  go : (b : Bool) → (x.1 == n) ≡ b → filter (is_of n) (filter (λ r. not (is_of x.1 r)) rows) ≡ []
  go true e = ap (λ (m : ℕ). filter (is_of m) (filter (λ r. not (is_of x.1 r)) rows)) (sym (eqb-true x.1 n e)) ∙ filter_none (is_of x.1) rows
  go false e = filter_still (is_of n) (λ r. not (is_of x.1 r)) rows (o n (omega (arith, z, times_out n name entries x q, ap one_if e)))

-- fewer bindings
pub filter_owns : (entries : List Entry) (rows : List Rowed) → OwnRows entries rows → (q : Rowed → Bool) → OwnRows entries (filter q rows)
filter_owns entries rows o q n z = filter_still (is_of n) q rows (o n z)

filter_append : {X : Type 0} (p : X → Bool) (xs ys : List X) → filter p (xs ++ ys) ≡ filter p xs ++ filter p ys
filter_append p [] ys = refl
filter_append {X} p (x ∷ xs) ys = go (p x) (filter_append p xs ys) where
  go : (b : Bool) → filter p (xs ++ ys) ≡ filter p xs ++ filter p ys → (if b then x ∷ filter p (xs ++ ys) else filter p (xs ++ ys)) ≡ (if b then x ∷ filter p xs else filter p xs) ++ filter p ys
  go true e = ap (λ (zs : List X). x ∷ zs) e
  go false e = e

-- an exchange that is there has its number
not_its : (entries : List Entry) (name : List ℕ) (x : ExchangeMarks × ℕ) → find name entries ≡ Some x → (n : ℕ) → times n (lists_of entries) ≡ 0 → (x.1 == n) ≡ false
not_its entries name x q n z = go (x.1 == n) refl where
  go : (b : Bool) → (x.1 == n) ≡ b → b ≡ false
  go true e = absurd (omega (arith, z, times_out n name entries x q, ap one_if e))
  go false e = refl

-- with a binding of an exchange that is there
pub bound_owns : (entries : List Entry) (rows : List Rowed) → OwnRows entries rows → (name : List ℕ) (x : ExchangeMarks × ℕ) → find name entries ≡ Some x → (row : Rowed) → row.exchange ≡ x.1 → OwnRows entries (put row rows)
bound_owns entries rows o name x q row e n z =
    filter_append (is_of n) (before (from_spot (spot row)) rows) (row ∷ behind (from_spot (spot row)) rows)
    ∙ (ap (λ (rs : List Rowed). rs ++ filter (is_of n) (row ∷ behind (from_spot (spot row)) rows)) (filter_still (is_of n) (λ r. is_lt (from_spot (spot row) r)) rows (o n z))
    ∙ (ap (λ (b : Bool). if b then row ∷ filter (is_of n) (behind (from_spot (spot row)) rows) else filter (is_of n) (behind (from_spot (spot row)) rows)) (ap (λ (m : ℕ). m == n) e ∙ not_its entries name x q n z)
    ∙ filter_still (is_of n) (λ r. is_gt (from_spot (spot row) r)) rows (o n z)))

-- without a binding
pub unbound_owns : (entries : List Entry) (rows : List Rowed) → OwnRows entries rows → (s : Spot) → OwnRows entries (table.out s rows)
unbound_owns entries rows o s = filter_owns entries rows o (λ r. not (is_eq (from_spot s r)))

-- without an exchange that has no binding
pub ended_owns : (entries : List Entry) (rows : List Rowed) → OwnRows entries rows → (name : List ℕ) (x : ExchangeMarks × ℕ) → find name entries ≡ Some x → filter (is_of x.1) rows ≡ [] → OwnRows (out name entries) rows
ended_owns entries rows o name x q none n z = go (x.1 == n) refl where
  go : (b : Bool) → (x.1 == n) ≡ b → filter (is_of n) rows ≡ []
  go true e = ap (λ (m : ℕ). filter (is_of m) rows) (sym (eqb-true x.1 n e)) ∙ none
  go false e = o n (omega (arith, z, times_out n name entries x q, ap one_if e))

pub none_is : (rows : List Rowed) → has_none rows ≡ true → rows ≡ []
none_is [] e = refl
none_is (row ∷ rows) e = absurd (true≢false (sym e))

-- without the exchange at an index that has no binding
pub removed_owns : (entries : List Entry) (rows : List Rowed) → OwnRows entries rows → (i : ℕ) (d : Entry) → i < length entries → filter (is_of (slice_index_or entries i d).1.1) rows ≡ [] → OwnRows (remove entries i) rows
removed_owns entries rows o i d lt none n z = go ((slice_index_or entries i d).1.1 == n) refl where
  go : (b : Bool) → ((slice_index_or entries i d).1.1 == n) ≡ b → filter (is_of n) rows ≡ []
  go true e = ap (λ (m : ℕ). filter (is_of m) rows) (sym (eqb-true (slice_index_or entries i d).1.1 n e)) ∙ none
  go false e = o n (omega (arith, z, times_remove n entries i d lt, ap one_if e))

-- bindings of other queues stay
pub others_stay : (n : ℕ) (queue : List ℕ) (rows : List Rowed) → filter (is_other queue) (filter (λ r. not (is_of_queue n queue r)) rows) ≡ filter (is_other queue) rows
others_stay n queue rows = filter_both (is_other queue) (λ r. not (is_of_queue n queue r)) rows ∙ filter_same (λ r. not (is_of_queue n queue r) && is_other queue r) (is_other queue) (λ r. same (is_of n r) (bytes_eq r.binding.queue queue)) rows where
  same : (a b : Bool) → (not (a && b) && not b) ≡ not b
  same true true = refl
  same true false = refl
  same false true = refl
  same false false = refl
