-- Copies are taken out one by one, until a list is as wanted.
use Rattle.std.proofs.Common.{◌≡◌, ◌≢◌, ℕ, zero, suc, ◌==◌, ◌||◌, ◌<◌, Bool, true, false, if◌then◌else◌, nat_eq, List, [], ◌∷◌, ◌++◌, length, map, Option, None, Some, IsSome, is_some, refl, sym, ap, subst, ◌∙◌, arith, slice_index_or, slice_set}
use Rattle.std.proofs.lemmas.Bool.{eqb-true, true≢false}
use Rattle.std.proofs.lemmas.Option.{none-some}
use Rattle.std.proofs.lemmas.List.{set-get_or, get_or-set_same, get_or-set_other, get_or_past, length-set, length-map, ext_get_or}
use Rattle.std.proofs.Math.ListN.{get_or-map as map_at}
use Rattle.indexmap.specs.IndexMap.{IndexMap, get}
use Rattle.node_list.specs.Keys.{has as has_key, list_at}
use Rattle.node_list.specs.Lists.{Listed, item_at}
use Rattle.number_tree.specs.Numbers.{Each, Rising, has, without, first_of}
use Rattle.number_tree.specs.declared.numbers.Slot.{Slot}
use Rattle.queue_copies.specs.declared.entry.Entry.{Entry}
use Rattle.queue_copies.specs.Shelves.{Shelved}
use Rattle.queue_copies.specs.Copied.{Hold, Copied, Ordered, copies_at, numbers, find, either, find_in, IsThere, removed, available, held_only}
use Rattle.queue_copies.specs.Sound.{seen, gathered, lies_in, stocked, Whole}
use Rattle.queue_copies.proofs.Numbers.{same, differ, is_false, high_out, length_without}
use Rattle.queue_copies.proofs.Parted.{Parted, parted, removed_same, removed_is, held_append, rising_available, each_available}
use Rattle.queue_copies.proofs.Gathering.{has_none, find_key}
use Rattle.queue_copies.proofs.Sounding.{copies_are, entry_of, only, nowhere}

-- ---- what is found

pub find_has : (n : ℕ) (cs : List Copied) → is_some (find n cs) ≡ has n (numbers cs)
find_has n [] = refl
find_has n (c ∷ cs) = go (c.copy.number == n) (find_has n cs) where
  go : (b : Bool) → is_some (find n cs) ≡ has n (numbers cs) → is_some (if b then Some c else find n cs) ≡ (b || has n (numbers cs))
  go true ih = refl
  go false ih = ih

-- an available number is that of a copy that nobody holds
pub available_find : (n : ℕ) (cs : List Copied) → Rising (numbers cs) → has n (available cs) ≡ true → (c : Copied) × ((find n cs ≡ Some c) × (c.hold ≡ None))
available_find n [] r h = absurd (true≢false (sym h))
available_find n (d ∷ cs) r h = go d.hold refl (d.copy.number == n) refl (available_find n cs r.1) where
  some_one : (o : Option Hold) (b : Bool) → is_some o ≡ b → (h : Hold) → o ≡ Some h → b ≡ true
  some_one o b e k q = sym e ∙ ap (λ (p : Option Hold). is_some p) q

  low : d.copy.number ≡ n → has n (available cs) ≡ false
  low e = high_out n (available cs) (subst (λ (m : ℕ). Each (λ k. m < k) (available cs)) e (each_available (λ k. d.copy.number < k) cs r.0))

  rest : has n (available cs) ≡ true → (d.copy.number == n) ≡ false → ((c : Copied) × ((find n cs ≡ Some c) × (c.hold ≡ None))) → (c : Copied) × ((find n (d ∷ cs) ≡ Some c) × (c.hold ≡ None))
  rest t e x = (x.0, (ap (λ (b : Bool). if b then Some d else find n cs) e ∙ x.1.0, x.1.1))

  go : (o : Option Hold) → d.hold ≡ o → (b : Bool) → (d.copy.number == n) ≡ b → (has n (available cs) ≡ true → (c : Copied) × ((find n cs ≡ Some c) × (c.hold ≡ None))) → (c : Copied) × ((find n (d ∷ cs) ≡ Some c) × (c.hold ≡ None))
  go None q true e ih = (d, (ap (λ (b : Bool). if b then Some d else find n cs) e, q))
  go None q false e ih =
      let t : has n (available cs) ≡ true = sym (ap (λ (b : Bool). b || has n (available cs)) e) ∙ (sym (ap (λ (p : Option Hold). has n (if is_some p then available cs else d.copy.number ∷ available cs)) q) ∙ h) in
      rest t e (ih t)
  go (Some k) q true e ih =
      let t : has n (available cs) ≡ true = sym (ap (λ (p : Option Hold). has n (if is_some p then available cs else d.copy.number ∷ available cs)) q) ∙ h in
      absurd (true≢false (sym t ∙ low (eqb-true d.copy.number n e)))
  go (Some k) q false e ih =
      let t : has n (available cs) ≡ true = sym (ap (λ (p : Option Hold). has n (if is_some p then available cs else d.copy.number ∷ available cs)) q) ∙ h in
      rest t e (ih t)

either_some : (a b : Option Copied) → IsSome b → IsSome (either a b)
either_some None b s = s
either_some (Some c) b s = refl

either_first : (a b : Option Copied) → IsSome a → IsSome (either a b)
either_first None b s = absurd (true≢false (sym s))
either_first (Some c) b s = refl

-- what one list has is there
pub is_in : (n : ℕ) (lists : List (List Copied)) (l : ℕ) → has n (numbers (copies_at lists l)) ≡ true → IsThere n lists
is_in n [] l h = absurd (true≢false (sym h ∙ ap (λ (cs : List Copied). has n (numbers cs)) (get_or_past [] l [] (omega arith))))
is_in n (cs ∷ lists) zero h = either_first (find n cs) (find_in n lists) (find_has n cs ∙ h)
is_in n (cs ∷ lists) (suc l) h = either_some (find n cs) (find_in n lists) (is_in n lists l h)

-- ---- what stays of a list

first_in : (ns : List ℕ) (n : ℕ) → first_of ns ≡ Some n → has n ns ≡ true
first_in [] n q = absurd (none-some n q)
first_in (m ∷ ns) n q = ap (λ (b : Bool). b || has n ns) (ap (λ (k : ℕ). k == n) (some_is m n q) ∙ same n) where
  some_is : (x y : ℕ) → ◌≡◌ {A = Option ℕ} (Some x) (Some y) → x ≡ y
  some_is x y e = ap (λ (o : Option ℕ). elim o [ None ↦ x | Some z ↦ z ]) e

none_in : (ns : List ℕ) → first_of ns ≡ None → ns ≡ []
none_in [] q = refl
none_in (m ∷ ns) q = absurd (none-some m (sym q))

-- a list of which nothing is available has held copies alone
all_held : (cs : List Copied) → available cs ≡ [] → held_only cs ≡ cs
all_held [] q = refl
all_held (c ∷ cs) q = go (is_some c.hold) q (all_held cs) where
  go : (b : Bool) → (if b then available cs else c.copy.number ∷ available cs) ≡ [] → (available cs ≡ [] → held_only cs ≡ cs) → (if b then c ∷ held_only cs else held_only cs) ≡ c ∷ cs
  go true e ih = ap (λ (xs : List Copied). c ∷ xs) (ih e)
  go false e ih = absurd (cons_nil c.copy.number (available cs) e) where
    cons_nil : (m : ℕ) (ns : List ℕ) → m ∷ ns ≡ [] → ⊥
    cons_nil m ns e = none-some m (ap first_of (sym e))

available_numbers : (n : ℕ) (cs : List Copied) (c : Copied) → find n cs ≡ Some c → has n (numbers cs) ≡ true
available_numbers n cs c q = sym (find_has n cs) ∙ ap (λ (o : Option Copied). is_some o) q

module _ (lists : List (List Copied)) (o : Ordered lists) (l n : ℕ) (h : has n (numbers (copies_at lists l)) ≡ true) where
  -- a number is in no other list
  pub elsewhere : (m : ℕ) → m ≢ l → removed n (copies_at lists m) ≡ copies_at lists m
  elsewhere m d = removed_same n (copies_at lists m) (is_false (has n (numbers (copies_at lists m))) (λ t. d (o.apart n m l t h)))

  -- what a list is to become stays
  pub set_removed : (lt : l < length lists) (cs : List Copied) → slice_set (map (removed n) lists) l cs ≡ slice_set lists l cs
  set_removed lt cs =
      ext_get_or [] (slice_set (map (removed n) lists) l cs) (slice_set lists l cs)
      (length-set (map (removed n) lists) l cs ∙ (length-map lists (removed n) ∙ sym (length-set lists l cs))) (λ m in_them. at m (m == l) refl) where
        at : (m : ℕ) (b : Bool) → (m == l) ≡ b → slice_index_or (slice_set (map (removed n) lists) l cs) m [] ≡ slice_index_or (slice_set lists l cs) m []
        at m true e =
            ap (λ (k : ℕ). slice_index_or (slice_set (map (removed n) lists) l cs) k []) (eqb-true m l e)
            ∙ (get_or-set_same (map (removed n) lists) l cs [] (subst (λ (k : ℕ). l < k) (sym (length-map lists (removed n))) lt)
            ∙ (sym (get_or-set_same lists l cs [] lt) ∙ ap (λ (k : ℕ). slice_index_or (slice_set lists l cs) k []) (sym (eqb-true m l e))))
        at m false e =
            get_or-set_other (map (removed n) lists) l m cs [] (differ m l e)
            ∙ (map_at (removed n) lists m [] ∙ (elsewhere m (differ m l e) ∙ sym (get_or-set_other lists l m cs [] (differ m l e))))

  pub at_removed : copies_at (map (removed n) lists) l ≡ removed n (copies_at lists l)
  at_removed = map_at (removed n) lists l []

held_removed : (n : ℕ) (cs : List Copied) (c : Copied) (front back : List Copied) → Parted n cs c front back → c.hold ≡ None → held_only (removed n cs) ≡ held_only cs
held_removed n cs c front back p q =
    ap held_only (removed_is n cs c front back p)
    ∙ (held_append front back
    ∙ (ap (λ (o : Option Hold). held_only front ++ (if is_some o then c ∷ held_only back else held_only back)) (sym q) ∙ (sym (held_append front (c ∷ back)) ∙ ap held_only (sym p.whole))))

less_available : (n : ℕ) (cs : List Copied) → has n (available cs) ≡ true → Rising (numbers cs) → length (available (removed n cs)) < length (available cs)
less_available n cs h r = omega (arith, ap length (available_removed cs), length_without n (available cs) (rising_available cs r) h) where
  if_without : (b d : Bool) (c : Copied) (xs : List Copied) (ns : List ℕ) → available xs ≡ ns → (c.copy.number == n) ≡ b → is_some c.hold ≡ d → available (if b then xs else c ∷ xs) ≡ without n (if d then available xs else c.copy.number ∷ available xs) → available (if b then xs else c ∷ xs) ≡ without n (if d then available xs else c.copy.number ∷ available xs)
  if_without b d c xs ns e f g x = x

  available_removed : (xs : List Copied) → available (removed n xs) ≡ without n (available xs)
  available_removed [] = refl
  available_removed (c ∷ xs) = go (c.copy.number == n) refl (is_some c.hold) refl (available_removed xs) where
    go : (b : Bool) → (c.copy.number == n) ≡ b → (d : Bool) → is_some c.hold ≡ d → available (removed n xs) ≡ without n (available xs)
        → available (if b then removed n xs else c ∷ removed n xs) ≡ without n (if d then available xs else c.copy.number ∷ available xs)
    go true e true f ih = ih
    go true e false f ih = ih ∙ ap (λ (b : Bool). if b then without n (available xs) else c.copy.number ∷ without n (available xs)) (sym e)
    go false e true f ih = ap (λ (b : Bool). if b then available (removed n xs) else c.copy.number ∷ available (removed n xs)) f ∙ ih
    go false e false f ih =
        ap (λ (b : Bool). if b then available (removed n xs) else c.copy.number ∷ available (removed n xs)) f
        ∙ (ap (λ (ns : List ℕ). c.copy.number ∷ ns) ih ∙ ap (λ (b : Bool). if b then without n (available xs) else c.copy.number ∷ without n (available xs)) (sym e))

module _ (lists : List (List Copied)) (o : Ordered lists) (l n : ℕ) (first : first_of (available (copies_at lists l)) ≡ Some n) where
  is_one : has n (available (copies_at lists l)) ≡ true
  is_one = first_in (available (copies_at lists l)) n first

  one : (c : Copied) × ((find n (copies_at lists l) ≡ Some c) × (c.hold ≡ None))
  one = available_find n (copies_at lists l) (o.rising l) is_one

  in_numbers : has n (numbers (copies_at lists l)) ≡ true
  in_numbers = let c = available_find n (copies_at lists l) (o.rising l) is_one in available_numbers n (copies_at lists l) c.0 c.1.0

  pub purge_there : IsThere n lists
  purge_there = is_in n lists l in_numbers

  pub purge_step : l < length lists → slice_set (map (removed n) lists) l (held_only (copies_at (map (removed n) lists) l)) ≡ slice_set lists l (held_only (copies_at lists l))
  purge_step lt =
      let c = available_find n (copies_at lists l) (o.rising l) is_one in
      let p = parted n (copies_at lists l) c.0 (o.rising l) c.1.0 in
      set_removed lists o l n in_numbers lt (held_only (copies_at (map (removed n) lists) l))
      ∙ ap (slice_set lists l) (ap held_only (at_removed lists o l n in_numbers) ∙ held_removed n (copies_at lists l) c.0 p.0 p.1.0 p.1.1 c.1.1)

  pub purge_less : length (available (copies_at (map (removed n) lists) l)) < length (available (copies_at lists l))
  purge_less =
      let lt = less_available n (copies_at lists l) is_one (o.rising l) in
      omega (arith, lt, ap (λ (cs : List Copied). length (available cs)) (at_removed lists o l n in_numbers))

pub purge_end : (lists : List (List Copied)) (l : ℕ) → first_of (available (copies_at lists l)) ≡ None → slice_set lists l (held_only (copies_at lists l)) ≡ lists
purge_end lists l first = ap (slice_set lists l) (all_held (copies_at lists l) (none_in (available (copies_at lists l)) first)) ∙ set-get_or lists l []

-- ---- what the fields show is in order

module _ {S : Type 0} (nodes : Listed Entry) (keys : IndexMap ℕ ℕ S) (shelves : List Shelved) (slots : List Slot) (w : Whole nodes keys shelves slots) where
  -- the list of a number is that of its entry
  lies : (n l : ℕ) → has n (numbers (copies_at (stocked nodes slots).lists l)) ≡ true → (key : ℕ) × ((get nat_eq keys n ≡ Some key) × (has_key key (list_at nodes.lists l) ≡ true))
  lies n l h = go (get nat_eq keys n) refl where
    cs_is : copies_at (stocked nodes slots).lists l ≡ gathered (item_at nodes) (list_at nodes.lists l)
    cs_is = copies_are (item_at nodes) nodes.lists nodes.held (get nat_eq keys) shelves w.sound l

    h2 : has n (numbers (gathered (item_at nodes) (list_at nodes.lists l))) ≡ true
    h2 = sym (ap (λ (cs : List Copied). has n (numbers cs)) cs_is) ∙ h

    is_true : (b : Bool) (c : Copied) → is_some (if b then Some c else None) ≡ true → b ≡ true
    is_true true c q = refl
    is_true false c q = absurd (true≢false (sym q))

    go : (o : Option ℕ) → get nat_eq keys n ≡ o → (key : ℕ) × ((get nat_eq keys n ≡ Some key) × (has_key key (list_at nodes.lists l) ≡ true))
    go None q = absurd (true≢false (sym h2 ∙ has_none (item_at nodes) n (nowhere (item_at nodes) nodes.lists nodes.held (get nat_eq keys) shelves w.sound n q) (list_at nodes.lists l)))
    go (Some key) q =
        let e = entry_of (item_at nodes) nodes.lists nodes.held (get nat_eq keys) shelves w.sound n key q in (
          key,
          (
            q,
            is_true (has_key key (list_at nodes.lists l)) (seen e.0)
                (sym (ap (λ (o : Option Copied). is_some o) (find_key (item_at nodes) n key e.0 e.1.0 e.1.1 (only (item_at nodes) nodes.lists nodes.held (get nat_eq keys) shelves w.sound n key q) (list_at nodes.lists l)))
                ∙ (find_has n (gathered (item_at nodes) (list_at nodes.lists l)) ∙ h2)),
          ),
        )

  pub is_ordered : Ordered (stocked nodes slots).lists
  is_ordered = record {
    rising = λ l. subst (λ (cs : List Copied). Rising (numbers cs)) (sym (copies_are (item_at nodes) nodes.lists nodes.held (get nat_eq keys) shelves w.sound l)) (w.sound.rising l);
    apart = λ n l m h k.
        let x = lies n l h in
        let y = lies n m k in
        let e = entry_of (item_at nodes) nodes.lists nodes.held (get nat_eq keys) shelves w.sound n x.0 x.1.0 in
        let same_key : x.0 ≡ y.0 = key_is x.0 y.0 (sym x.1.0 ∙ y.1.0) in
        let at_l : (e.0.list == l) ≡ true = sym (w.sound.listed l x.0 ∙ ap (lies_in l) e.1.0) ∙ x.1.1 in
        let at_m : (e.0.list == m) ≡ true = sym (w.sound.listed m x.0 ∙ ap (lies_in m) e.1.0) ∙ (ap (λ (j : ℕ). has_key j (list_at nodes.lists m)) same_key ∙ y.1.1) in
        sym (eqb-true e.0.list l at_l) ∙ eqb-true e.0.list m at_m;
  } where
    key_is : (x y : ℕ) → ◌≡◌ {A = Option ℕ} (Some x) (Some y) → x ≡ y
    key_is x y e = ap (λ (o : Option ℕ). elim o [ None ↦ x | Some z ↦ z ]) e
