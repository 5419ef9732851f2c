-- Rows under their keys, and in order.
use Rattle.std.specs.Prelude.{◌≡◌, ℕ, ◌==◌, ◌&&◌, not, Bool, List, [], ◌∷◌, ◌++◌, map, bytes_eq, filter, Option, None, Some, refl}
use Rattle.std.specs.Ordering.{is_lt, is_gt, is_eq}
use Rattle.std.specs.declared.cmp.Ordering.{Ordering}
use Rattle.std.specs.declared.cmp.Ordering.TheVariants.{Less}
use Rattle.std.specs.List.Sorted.{IsStrictlySortedBy}
use Rattle.std.specs.Ordering.{on}
use Rattle.std.specs.Coded.{Coded, code_by, coded×, coded_ℕ, coded_list}
use Rattle.sorted_map.specs.Cuts.{before, within, behind, outside, IsOrder, times}
use Rattle.binding_table.specs.declared.order.By.TheVariants as by
use Rattle.binding_table.specs.declared.row.Binding.{Binding}
use Rattle.binding_table.specs.declared.row.Row.{Row}
use Rattle.binding_table.specs.Spots.{Spot, spot, order, queue_order}

-- the same keys in both orders
pub record Kept {A : Type 0} (at : ℕ → Option (Row A)) (ks ls : List ℕ) : Type 0 where
  pub by_queue : IsOrder (on spot (order by.Queue)) at ks
  pub by_key : IsOrder (on spot (order by.Key)) at ls
  pub alike : (k : ℕ) → times k ks ≡ times k ls

-- ---- what a table shows

-- bindings by exchange, queue and key, and how many more may be put in without memory
pub record Bound (A : Type 0) : Type 0 where
  pub rows : List (Row A)
  pub room : ℕ

-- a row is stored as the tuple of its fields, and so is what a table shows
abbrev pub row_code : {A : Type 0} → Coded A → Coded (Row A)
row_code {A} code =
    code_by
    (ℕ × (List ℕ × (List ℕ × A)))
    (coded× coded_ℕ (coded× (coded_list coded_ℕ) (coded× (coded_list coded_ℕ) code)))
    (λ r. (r.exchange, (r.binding.queue, (r.binding.key, r.binding.arguments))))
    (λ p. record { exchange = p.0; binding = record { queue = p.1.0; key = p.1.1.0; arguments = p.1.1.1 } })
    (λ _. refl)

abbrev pub bound_code : {A : Type 0} → Coded A → Coded (Bound A)
bound_code {A} code = code_by (List (Row A) × ℕ) (coded× (coded_list (row_code code)) coded_ℕ) (λ v. (v.rows, v.room)) (λ p. record { rows = p.0; room = p.1 }) (λ _. refl)

module _ {A : Type 0} where
  abbrev pub first_of : List (Row A) → Option (Binding A)
  first_of [] = None
  first_of (r ∷ rs) = Some r.binding

  -- where a row stands, seen from a spot
  abbrev pub from_spot : Spot → Row A → Ordering
  from_spot s r = queue_order (spot r) s

  -- the row at a spot
  abbrev pub at : Spot → List (Row A) → List (Row A)
  at s rows = within (from_spot s) rows

  -- with a row at a spot where none is
  abbrev pub put : Row A → List (Row A) → List (Row A)
  put r rows = before (from_spot (spot r)) rows ++ r ∷ behind (from_spot (spot r)) rows

  -- without the row at a spot
  abbrev pub out : Spot → List (Row A) → List (Row A)
  out s rows = outside (from_spot s) rows

  -- the binding at a spot
  abbrev pub find : Spot → List (Row A) → Option (Binding A)
  find s rows = first_of (at s rows)

  -- is of that exchange; is of it and of that queue; has that key there
  abbrev pub is_of : ℕ → Row A → Bool
  is_of n r = r.exchange == n

  abbrev pub is_of_queue : ℕ → List ℕ → Row A → Bool
  is_of_queue n queue r = is_of n r && bytes_eq r.binding.queue queue

  abbrev pub has_key : ℕ → List ℕ → Row A → Bool
  has_key n key r = is_of n r && bytes_eq r.binding.key key
