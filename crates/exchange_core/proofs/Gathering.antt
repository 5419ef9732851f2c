-- Queues gathered one after another.
use Rattle.std.proofs.Common.{◌≡◌, ℕ, suc, ◌-◌, ◌&&◌, not, Bool, true, false, if◌then◌else◌, List, [], ◌∷◌, ◌++◌, length, map, filter, bytes_eq, Option, Some, refl, sym, ap, ◌∙◌, arith}
use Rattle.std.proofs.lemmas.Bool.{true≢false}
use Rattle.std.specs.List.{slice_get}
use Rattle.amqp_values.specs.declared.value.Value.{Value}
use Rattle.exchange_core.specs.declared.marks.Kind.{Kind}
use Rattle.exchange_core.specs.declared.marks.Kind.TheVariants as kinds
use Rattle.binding_table.specs.Rows.{is_of, has_key}
use Rattle.sorted_map.proofs.Cutting.{filter_same}
use Rattle.exchange_core.proofs.Filtering.{filter_both}
use Rattle.exchange_core.specs.Routes.{Rowed, takes, is_same, last_of, others}

-- ---- the last name

pub last_get : (names : List (List ℕ)) → slice_get names (length names - 1) ≡ last_of names
last_get [] = refl
last_get (name ∷ []) = refl
last_get (name ∷ more ∷ names) = ap (slice_get (name ∷ more ∷ names)) (one (length names)) ∙ (ap (slice_get (more ∷ names)) (two (length names)) ∙ last_get (more ∷ names)) where
  one : (n : ℕ) → suc (suc n) - 1 ≡ suc n
  one n = omega arith

  two : (n : ℕ) → n ≡ suc n - 1
  two n = omega arith

pub last_more : (names : List (List ℕ)) (name : List ℕ) → last_of (names ++ name ∷ []) ≡ Some name
last_more [] name = refl
last_more (x ∷ []) name = refl
last_more (x ∷ y ∷ names) name = last_more (y ∷ names) name

append_more : (xs : List (List ℕ)) (y : List ℕ) (ys : List (List ℕ)) → (xs ++ y ∷ []) ++ ys ≡ xs ++ y ∷ ys
append_more [] y ys = refl
append_more (x ∷ xs) y ys = ap (λ (zs : List (List ℕ)). x ∷ zs) (append_more xs y ys)

append_none : (xs : List (List ℕ)) → xs ++ [] ≡ xs
append_none [] = refl
append_none (x ∷ xs) = ap (λ (zs : List (List ℕ)). x ∷ zs) (append_none xs)

-- ---- names so far, and those of the bindings that are left

module _ (kind : Kind) (key : List ℕ) (asked : Option Value) where
  abbrev pub left : List (List ℕ) → List Rowed → List (List ℕ)
  left names rows = names ++ others (last_of names) (map (λ (r : Rowed). r.binding.queue) (filter (takes kind key asked) rows))

  pub none_left : (names : List (List ℕ)) → left names [] ≡ names
  none_left names = append_none names

  -- a binding that doesn't take the message, or one of the queue before
  pub passed : (names : List (List ℕ)) (row : Rowed) (rows : List Rowed) → takes kind key asked row && not (is_same (last_of names) row.binding.queue) ≡ false → left names (row ∷ rows) ≡ left names rows
  passed names row rows e = go (takes kind key asked row) (is_same (last_of names) row.binding.queue) refl e where
    rest : List (List ℕ)
    rest = map (λ (r : Rowed). r.binding.queue) (filter (takes kind key asked) rows)

    go : (t s : Bool) → is_same (last_of names) row.binding.queue ≡ s → t && not s ≡ false
        → names ++ others (last_of names) (map (λ (r : Rowed). r.binding.queue) (if t then row ∷ filter (takes kind key asked) rows else filter (takes kind key asked) rows)) ≡ names ++ others (last_of names) rest
    go true true f e = ap (λ (b : Bool). names ++ (if b then others (last_of names) rest else row.binding.queue ∷ others (Some row.binding.queue) rest)) f
    go true false f e = absurd (true≢false e)
    go false s f e = refl

  -- a binding of another queue that takes the message
  pub gained : (names : List (List ℕ)) (row : Rowed) (rows : List Rowed) → takes kind key asked row && not (is_same (last_of names) row.binding.queue) ≡ true → left names (row ∷ rows) ≡ left (names ++ row.binding.queue ∷ []) rows
  gained names row rows e = go (takes kind key asked row) (is_same (last_of names) row.binding.queue) refl e where
    rest : List (List ℕ)
    rest = map (λ (r : Rowed). r.binding.queue) (filter (takes kind key asked) rows)

    go : (t s : Bool) → is_same (last_of names) row.binding.queue ≡ s → t && not s ≡ true
        → names ++ others (last_of names) (map (λ (r : Rowed). r.binding.queue) (if t then row ∷ filter (takes kind key asked) rows else filter (takes kind key asked) rows)) ≡ left (names ++ row.binding.queue ∷ []) rows
    go true true f e = absurd (true≢false (sym e))
    go true false f e =
        ap (λ (b : Bool). names ++ (if b then others (last_of names) rest else row.binding.queue ∷ others (Some row.binding.queue) rest)) f
        ∙ (sym (append_more names row.binding.queue (others (Some row.binding.queue) rest))
        ∙ ap (λ (o : Option (List ℕ)). (names ++ row.binding.queue ∷ []) ++ others o rest) (sym (last_more names row.binding.queue)))
    go false s f e = absurd (true≢false (sym e))

pub both_true : {a b : Bool} → a ≡ true → b ≡ true → a && b ≡ true
both_true {a} {b} e f = ap (λ (x : Bool). x && b) e ∙ f

-- among the bindings of an exchange those with the key
pub with_key : (n : ℕ) (key : List ℕ) (asked : Option Value) (rows : List Rowed) → filter (takes kinds.Direct key asked) (filter (has_key n key) rows) ≡ filter (takes kinds.Direct key asked) (filter (is_of n) rows)
with_key n key asked rows =
    filter_both (takes kinds.Direct key asked) (has_key n key) rows
    ∙ (filter_same (λ r. has_key n key r && takes kinds.Direct key asked r) (λ r. is_of n r && takes kinds.Direct key asked r) (λ r. twice (is_of n r) (bytes_eq r.binding.key key)) rows
    ∙ sym (filter_both (takes kinds.Direct key asked) (is_of n) rows)) where
      twice : (a b : Bool) → (a && b) && b ≡ a && b
      twice true true = refl
      twice true false = refl
      twice false b = refl
