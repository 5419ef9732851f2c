-- Tables of the code and of the definitions with the same keys change alike.
use Rattle.std.proofs.Common.{◌≡◌, suc, cond, Bool, true, false, List, [], ◌∷◌, length, Some, ◌∙◌, ap, sym, subst, refl, filter}
use Rattle.std.specs.declared.cmp.Ordering.{Ordering}
use Rattle.std.specs.declared.cmp.Ordering.TheVariants.{Less, Equal, Greater}
use Rattle.std.specs.Map.{lookup, set_value}
use Rattle.std.specs.BTreeMap.{insert_entry}
use Rattle.std.specs.Ordering.{match_ordering}
use Rattle.history_model.specs.Pairs.{Paired, none, more, Both}

-- look-ups by tests that agree agree
pub lookup_same : {K X : Type 0} (f g : K → Bool) (es : List (K × X)) → ((k : K) → f k ≡ g k) → lookup f es ≡ lookup g es
lookup_same f g [] same = refl
lookup_same f g (e ∷ es) same = ap (λ b. cond b (Some e.1) (lookup f es)) (same e.0) ∙ ap (λ o. cond (g e.0) (Some e.1) o) (lookup_same f g es same)

-- a look-up finds related values, or none in both
pub paired-lookup : {K X Y : Type 0} (R : X → Y → Type 0) (test : K → Bool) {es : List (K × X)} {fs : List (K × Y)} → Paired R es fs → Both R (lookup test es) (lookup test fs)
paired-lookup R test none = tt
paired-lookup R test (more {k = k} {x = x} {y = y} {es = es} {fs = fs} r p) =
    elim (test k) as (λ b. Both R (cond b (Some x) (lookup test es)) (cond b (Some y) (lookup test fs))) [ true ↦ r | false ↦ paired-lookup R test p ]

-- a value is set in both
pub paired-set : {K X Y : Type 0} (R : X → Y → Type 0) (test : K → Bool) (x : X) (y : Y) {es : List (K × X)} {fs : List (K × Y)} → R x y → Paired R es fs → Paired R (set_value test es x) (set_value test fs y)
paired-set R test x y r none = none
paired-set R test x y r (more {k = k} {x = a} {y = b} {es = es} {fs = fs} q p) =
    elim (test k) as (λ t. Paired R (cond t ((k, x) ∷ es) ((k, a) ∷ set_value test es x)) (cond t ((k, y) ∷ fs) ((k, b) ∷ set_value test fs y))) [ true ↦ more r p | false ↦ more q (paired-set R test x y r p) ]

-- a row is put in both
pub paired-insert : {K X Y : Type 0} (R : X → Y → Type 0) (cmp : K → K → Ordering) (k : K) (x : X) (y : Y) {es : List (K × X)} {fs : List (K × Y)} → R x y → Paired R es fs
    → Paired R (insert_entry cmp es k x) (insert_entry cmp fs k y)
paired-insert R cmp k x y r none = more r none
paired-insert R cmp k x y r (more {k = j} {x = a} {y = b} {es = es} {fs = fs} q p) =
    elim (cmp k j) as (λ o. Paired R (match_ordering o ((k, x) ∷ (j, a) ∷ es) ((j, x) ∷ es) ((j, a) ∷ insert_entry cmp es k x)) (match_ordering o ((k, y) ∷ (j, b) ∷ fs) ((j, y) ∷ fs) ((j, b) ∷ insert_entry cmp fs k y)))
    [ Less ↦ more r (more q p) | Equal ↦ more r p | Greater ↦ more q (paired-insert R cmp k x y r p) ]

-- both have as many rows
pub length-paired : {K X Y : Type 0} (R : X → Y → Type 0) {es : List (K × X)} {fs : List (K × Y)} → Paired R es fs → length es ≡ length fs
length-paired R none = refl
length-paired R (more r p) = ap suc (length-paired R p)

-- rows that stay in both stay alike
pub paired-filter : {K X Y : Type 0} (R : X → Y → Type 0) (f : (K × X) → Bool) (g : (K × Y) → Bool) → ((k : K) (x : X) (y : Y) → R x y → f (k, x) ≡ g (k, y))
    → {es : List (K × X)} {fs : List (K × Y)} → Paired R es fs → Paired R (filter f es) (filter g fs)
paired-filter R f g same none = none
paired-filter R f g same (more {k = k} {x = x} {y = y} {es = es} {fs = fs} r p) =
    subst (λ b. Paired R (cond b ((k, x) ∷ filter f es) (filter f es)) (cond (g (k, y)) ((k, y) ∷ filter g fs) (filter g fs))) (sym (same k x y r))
    (elim (g (k, y)) as (λ b. Paired R (cond b ((k, x) ∷ filter f es) (filter f es)) (cond b ((k, y) ∷ filter g fs) (filter g fs)))
    [ true ↦ more r (paired-filter R f g same p) | false ↦ paired-filter R f g same p ])
