-- Copies before and behind the one with a number, and what changes with it.
use Rattle.std.proofs.Common.{◌≡◌, ℕ, ◌+◌, ◌<◌, ◌==◌, ◌||◌, Bool, true, false, if◌then◌else◌, List, [], ◌∷◌, ◌++◌, length, Option, None, Some, is_some, refl, sym, ap, subst, ◌∙◌, arith}
use Rattle.std.proofs.lemmas.Bool.{eqb-true, true≢false}
use Rattle.std.proofs.lemmas.Option.{none-some}
use Rattle.std.proofs.lemmas.List.{length-append}
use Rattle.number_tree.specs.Numbers.{Each, Rising, has, with_number, without}
use Rattle.queue_copies.specs.declared.entry.Holder.{Holder}
use Rattle.queue_copies.specs.Shelves.{Shelved, shelf_held, shelf_free, shelf_without}
use Rattle.queue_copies.specs.Copied.{Hold, Copied, numbers, find, changed, removed, held_by, released, available, held_only, shelf_of}
use Rattle.queue_copies.proofs.Numbers.{same, low_out, high_out, with_between, without_between, has_append, has_here}

pub record Parted (n : ℕ) (cs : List Copied) (c : Copied) (front back : List Copied) : Type 0 where
  pub whole : cs ≡ front ++ c ∷ back
  pub number : c.copy.number ≡ n
  pub low : Each (λ m. m < n) (numbers front)
  pub high : Each (λ m. n < m) (numbers back)

-- a number above others of a rising list comes behind them
found_high : (n m : ℕ) (cs : List Copied) (c : Copied) → Each (λ k. m < k) (numbers cs) → find n cs ≡ Some c → m < n
found_high n m [] c e f = absurd (none-some c f)
found_high n m (d ∷ cs) c e f = go (d.copy.number == n) refl f (found_high n m cs c e.1) where
  go : (b : Bool) → (d.copy.number == n) ≡ b → (if b then Some d else find n cs) ≡ Some c → (find n cs ≡ Some c → m < n) → m < n
  go true i h ih = subst (λ (k : ℕ). m < k) (eqb-true d.copy.number n i) e.0
  go false i h ih = ih h

pub parted : (n : ℕ) (cs : List Copied) (c : Copied) → Rising (numbers cs) → find n cs ≡ Some c → (front : List Copied) × ((back : List Copied) × Parted n cs c front back)
parted n [] c r f = absurd (none-some c f)
parted n (d ∷ cs) c r f = go (d.copy.number == n) refl f (parted n cs c r.1) where
  some_is : (x y : Copied) → ◌≡◌ {A = Option Copied} (Some x) (Some y) → x ≡ y
  some_is x y e = ap (λ (o : Option Copied). elim o [ None ↦ x | Some z ↦ z ]) e

  go : (b : Bool) → (d.copy.number == n) ≡ b → (if b then Some d else find n cs) ≡ Some c → (find n cs ≡ Some c → (front : List Copied) × ((back : List Copied) × Parted n cs c front back))
      → (front : List Copied) × ((back : List Copied) × Parted n (d ∷ cs) c front back)
  go true i h ih =
      let is : d ≡ c = some_is d c h in
      let at : d.copy.number ≡ n = eqb-true d.copy.number n i in (
        [],
        (
          cs,
          record {
            whole = ap (λ (x : Copied). x ∷ cs) is;
            number = subst (λ (x : Copied). x.copy.number ≡ n) is at;
            low = tt;
            high = subst (λ (k : ℕ). Each (λ m. k < m) (numbers cs)) at r.0;
          },
        ),
      )
  go false i h ih =
      let p = ih h in
      let q = p.1.1 in (
        d ∷ p.0,
        (
          p.1.0,
          record {
            whole = ap (λ (xs : List Copied). d ∷ xs) q.whole;
            number = q.number;
            low = (found_high n d.copy.number cs c r.0 h, q.low);
            high = q.high;
          },
        ),
      )

-- ---- parts

numbers_append : (xs ys : List Copied) → numbers (xs ++ ys) ≡ numbers xs ++ numbers ys
numbers_append [] ys = refl
numbers_append (x ∷ xs) ys = ap (λ (ns : List ℕ). x.copy.number ∷ ns) (numbers_append xs ys)

if_nums : (b : Bool) (n : ℕ) (xs ys : List ℕ) → (if b then xs ++ ys else n ∷ xs ++ ys) ≡ (if b then xs else n ∷ xs) ++ ys
if_nums true n xs ys = refl
if_nums false n xs ys = refl

pub available_append : (xs ys : List Copied) → available (xs ++ ys) ≡ available xs ++ available ys
available_append [] ys = refl
available_append (x ∷ xs) ys = ap (λ (ns : List ℕ). if is_some x.hold then ns else x.copy.number ∷ ns) (available_append xs ys) ∙ if_nums (is_some x.hold) x.copy.number (available xs) (available ys)

if_held : (b : Bool) (x : Copied) (xs ys : List Copied) → (if b then x ∷ xs ++ ys else xs ++ ys) ≡ (if b then x ∷ xs else xs) ++ ys
if_held true x xs ys = refl
if_held false x xs ys = refl

pub held_append : (xs ys : List Copied) → held_only (xs ++ ys) ≡ held_only xs ++ held_only ys
held_append [] ys = refl
held_append (x ∷ xs) ys = ap (λ (zs : List Copied). if is_some x.hold then x ∷ zs else zs) (held_append xs ys) ∙ if_held (is_some x.hold) x (held_only xs) (held_only ys)

pub each_available : (P : ℕ → Type 0) (cs : List Copied) → Each P (numbers cs) → Each P (available cs)
each_available P [] e = tt
each_available P (c ∷ cs) e = go (is_some c.hold) (each_available P cs e.1) where
  go : (b : Bool) → Each P (available cs) → Each P (if b then available cs else c.copy.number ∷ available cs)
  go true ih = ih
  go false ih = (e.0, ih)

pub rising_available : (cs : List Copied) → Rising (numbers cs) → Rising (available cs)
rising_available [] r = tt
rising_available (c ∷ cs) r = go (is_some c.hold) (rising_available cs r.1) where
  go : (b : Bool) → Rising (available cs) → Rising (if b then available cs else c.copy.number ∷ available cs)
  go true ih = ih
  go false ih = (each_available (λ m. c.copy.number < m) cs r.0, ih)

pub changed_same : (n : ℕ) (f : Copied → Copied) (cs : List Copied) → has n (numbers cs) ≡ false → changed n f cs ≡ cs
changed_same n f [] e = refl
changed_same n f (c ∷ cs) e = go (c.copy.number == n) refl (changed_same n f cs) where
  go : (b : Bool) → (c.copy.number == n) ≡ b → (has n (numbers cs) ≡ false → changed n f cs ≡ cs) → (if b then f c else c) ∷ changed n f cs ≡ c ∷ cs
  go true i ih = absurd (true≢false (sym (ap (λ (b : Bool). b || has n (numbers cs)) i) ∙ e))
  go false i ih = ap (λ (xs : List Copied). c ∷ xs) (ih (sym (ap (λ (b : Bool). b || has n (numbers cs)) i) ∙ e))

pub removed_same : (n : ℕ) (cs : List Copied) → has n (numbers cs) ≡ false → removed n cs ≡ cs
removed_same n [] e = refl
removed_same n (c ∷ cs) e = go (c.copy.number == n) refl (removed_same n cs) where
  go : (b : Bool) → (c.copy.number == n) ≡ b → (has n (numbers cs) ≡ false → removed n cs ≡ cs) → (if b then removed n cs else c ∷ removed n cs) ≡ c ∷ cs
  go true i ih = absurd (true≢false (sym (ap (λ (b : Bool). b || has n (numbers cs)) i) ∙ e))
  go false i ih = ap (λ (xs : List Copied). c ∷ xs) (ih (sym (ap (λ (b : Bool). b || has n (numbers cs)) i) ∙ e))

changed_append : (n : ℕ) (f : Copied → Copied) (xs ys : List Copied) → changed n f (xs ++ ys) ≡ changed n f xs ++ changed n f ys
changed_append n f [] ys = refl
changed_append n f (x ∷ xs) ys = ap (λ (zs : List Copied). (if x.copy.number == n then f x else x) ∷ zs) (changed_append n f xs ys)

if_removed : (b : Bool) (x : Copied) (xs ys : List Copied) → (if b then xs ++ ys else x ∷ xs ++ ys) ≡ (if b then xs else x ∷ xs) ++ ys
if_removed true x xs ys = refl
if_removed false x xs ys = refl

removed_append : (n : ℕ) (xs ys : List Copied) → removed n (xs ++ ys) ≡ removed n xs ++ removed n ys
removed_append n [] ys = refl
removed_append n (x ∷ xs) ys = ap (λ (zs : List Copied). if x.copy.number == n then zs else x ∷ zs) (removed_append n xs ys) ∙ if_removed (x.copy.number == n) x (removed n xs) (removed n ys)

-- those that are available and those that are held are all
pub count_both : (cs : List Copied) → length (available cs) + length (held_only cs) ≡ length cs
count_both [] = refl
count_both (c ∷ cs) = go (is_some c.hold) (count_both cs) where
  go : (b : Bool) → length (available cs) + length (held_only cs) ≡ length cs → length (if b then available cs else c.copy.number ∷ available cs) + length (if b then c ∷ held_only cs else held_only cs) ≡ length (c ∷ cs)
  go true ih = omega (arith, ih)
  go false ih = omega (arith, ih)

-- ---- what is known of a list once its copy is held, free or gone

module _ (n : ℕ) (cs : List Copied) (c : Copied) (front back : List Copied) (p : Parted n cs c front back) where
  at : (c.copy.number == n) ≡ true
  at = ap (λ (m : ℕ). m == n) p.number ∙ same n

  changed_is : (f : Copied → Copied) → changed n f cs ≡ front ++ f c ∷ back
  changed_is f =
      ap (changed n f) p.whole
      ∙ (changed_append n f front (c ∷ back)
      ∙ (ap (λ (xs : List Copied). xs ++ (if c.copy.number == n then f c else c) ∷ changed n f back) (changed_same n f front (low_out n (numbers front) p.low))
      ∙ (ap (λ (b : Bool). front ++ (if b then f c else c) ∷ changed n f back) at
      ∙ ap (λ (xs : List Copied). front ++ f c ∷ xs) (changed_same n f back (high_out n (numbers back) p.high)))))

  pub removed_is : removed n cs ≡ front ++ back
  removed_is =
      ap (removed n) p.whole
      ∙ (removed_append n front (c ∷ back)
      ∙ (ap (λ (xs : List Copied). xs ++ (if c.copy.number == n then removed n back else c ∷ removed n back)) (removed_same n front (low_out n (numbers front) p.low))
      ∙ (ap (λ (b : Bool). front ++ (if b then removed n back else c ∷ removed n back)) at
      ∙ ap (λ (xs : List Copied). front ++ xs) (removed_same n back (high_out n (numbers back) p.high)))))

  low : Each (λ m. m < n) (available front)
  low = each_available (λ m. m < n) front p.low

  high : Each (λ m. n < m) (available back)
  high = each_available (λ m. n < m) back p.high

  -- with another copy at its place
  free_of : (x : Copied) → x.hold ≡ None → x.copy.number ≡ n → available (front ++ x ∷ back) ≡ available front ++ n ∷ available back
  free_of x h e =
      available_append front (x ∷ back)
      ∙ (ap (λ (o : Option Hold). available front ++ (if is_some o then available back else x.copy.number ∷ available back)) h
      ∙ ap (λ (m : ℕ). available front ++ m ∷ available back) e)

  held_of : (x : Copied) (h : Hold) → x.hold ≡ Some h → available (front ++ x ∷ back) ≡ available front ++ available back
  held_of x h e = available_append front (x ∷ back) ∙ ap (λ (o : Option Hold). available front ++ (if is_some o then available back else x.copy.number ∷ available back)) e

  gone_of : available (front ++ back) ≡ available front ++ available back
  gone_of = available_append front back

  abbrev rest : ℕ
  rest = length (held_only front) + length (held_only back)

  rest_free : (x : Copied) → x.hold ≡ None → length (held_only (front ++ x ∷ back)) ≡ rest
  rest_free x h =
      let e = held_append front (x ∷ back) ∙ ap (λ (o : Option Hold). held_only front ++ (if is_some o then x ∷ held_only back else held_only back)) h in
      ap length e ∙ length-append (held_only front) (held_only back)

  rest_held : (x : Copied) (h : Hold) → x.hold ≡ Some h → length (held_only (front ++ x ∷ back)) ≡ rest + 1
  rest_held x h q =
      let e = held_append front (x ∷ back) ∙ ap (λ (o : Option Hold). held_only front ++ (if is_some o then x ∷ held_only back else held_only back)) q in
      omega (arith, ap length e, length-append (held_only front) (x ∷ held_only back))

  rest_gone : length (held_only (front ++ back)) ≡ rest
  rest_gone = ap length (held_append front back) ∙ length-append (held_only front) (held_only back)

  shelf_is : (a b : Shelved) → a.available ≡ b.available → a.held ≡ b.held → a ≡ b
  shelf_is a b e f = ap (λ (ns : List ℕ). record { available = ns; held = a.held }) e ∙ ap (λ (m : ℕ). record { available = b.available; held = m }) f

  -- whether it is available, and the counts
  pub free_there : c.hold ≡ None → has n (available cs) ≡ true
  free_there h = ap (λ (xs : List Copied). has n (available xs)) p.whole ∙ (ap (has n) (free_of c h p.number) ∙ (has_append n (available front) (n ∷ available back) (low_out n (available front) low) ∙ has_here n (available back)))

  pub held_away : (h : Hold) → c.hold ≡ Some h → has n (available cs) ≡ false
  held_away h e = ap (λ (xs : List Copied). has n (available xs)) p.whole ∙ (ap (has n) (held_of c h e) ∙ (has_append n (available front) (available back) (low_out n (available front) low) ∙ high_out n (available back) high))

  pub held_some : (h : Hold) → c.hold ≡ Some h → 0 < length (held_only cs)
  held_some h e = omega (arith, ap (λ (xs : List Copied). length (held_only xs)) p.whole, rest_held c h e)

  hold_go : (o : Option Hold) → c.hold ≡ o → (holder : Holder) (lane : ℕ) → shelf_of (changed n (held_by holder lane) cs) ≡ shelf_held (is_some o) n (shelf_of cs)
  hold_go None e holder lane =
      shelf_is (shelf_of (changed n (held_by holder lane) cs)) (shelf_held false n (shelf_of cs))
      (ap available (changed_is (held_by holder lane)) ∙ (held_of (held_by holder lane c) (record { holder = holder; lane = lane }) refl
      ∙ (sym (without_between n (available front) (available back) low high) ∙ ap (without n) (sym (ap available p.whole ∙ free_of c e p.number)))))
      (ap (λ (xs : List Copied). length (held_only xs)) (changed_is (held_by holder lane)) ∙ (rest_held (held_by holder lane c) (record { holder = holder; lane = lane }) refl
      ∙ ap (λ (m : ℕ). m + 1) (sym (ap (λ (xs : List Copied). length (held_only xs)) p.whole ∙ rest_free c e))))
  hold_go (Some h) e holder lane =
      shelf_is (shelf_of (changed n (held_by holder lane) cs)) (shelf_of cs)
      (ap available (changed_is (held_by holder lane)) ∙ (held_of (held_by holder lane c) (record { holder = holder; lane = lane }) refl ∙ sym (ap available p.whole ∙ held_of c h e)))
      (ap (λ (xs : List Copied). length (held_only xs)) (changed_is (held_by holder lane)) ∙ (rest_held (held_by holder lane c) (record { holder = holder; lane = lane }) refl
      ∙ sym (ap (λ (xs : List Copied). length (held_only xs)) p.whole ∙ rest_held c h e)))

  pub shelf_hold : (holder : Holder) (lane : ℕ) → shelf_of (changed n (held_by holder lane) cs) ≡ shelf_held (is_some c.hold) n (shelf_of cs)
  shelf_hold holder lane = hold_go c.hold refl holder lane

  release_go : (o : Option Hold) → c.hold ≡ o → (again : Bool) → shelf_of (changed n (released again) cs) ≡ shelf_free (is_some o) n (shelf_of cs)
  release_go None e again =
      shelf_is (shelf_of (changed n (released again) cs)) (shelf_of cs)
      (ap available (changed_is (released again)) ∙ (free_of (released again c) refl p.number ∙ sym (ap available p.whole ∙ free_of c e p.number)))
      (ap (λ (xs : List Copied). length (held_only xs)) (changed_is (released again)) ∙ (rest_free (released again c) refl ∙ sym (ap (λ (xs : List Copied). length (held_only xs)) p.whole ∙ rest_free c e)))
  release_go (Some h) e again =
      shelf_is (shelf_of (changed n (released again) cs)) (shelf_free true n (shelf_of cs))
      (ap available (changed_is (released again)) ∙ (free_of (released again c) refl p.number
      ∙ (sym (with_between n (available front) (available back) low high) ∙ ap (with_number n) (sym (ap available p.whole ∙ held_of c h e)))))
      (omega (arith, ap (λ (xs : List Copied). length (held_only xs)) (changed_is (released again)), rest_free (released again c) refl, ap (λ (xs : List Copied). length (held_only xs)) p.whole, rest_held c h e))

  pub shelf_release : (again : Bool) → shelf_of (changed n (released again) cs) ≡ shelf_free (is_some c.hold) n (shelf_of cs)
  shelf_release again = release_go c.hold refl again

  remove_go : (o : Option Hold) → c.hold ≡ o → shelf_of (removed n cs) ≡ shelf_without (is_some o) n (shelf_of cs)
  remove_go None e =
      shelf_is (shelf_of (removed n cs)) (shelf_without false n (shelf_of cs))
      (ap available removed_is ∙ (gone_of ∙ (sym (without_between n (available front) (available back) low high) ∙ ap (without n) (sym (ap available p.whole ∙ free_of c e p.number)))))
      (ap (λ (xs : List Copied). length (held_only xs)) removed_is ∙ (rest_gone ∙ sym (ap (λ (xs : List Copied). length (held_only xs)) p.whole ∙ rest_free c e)))
  remove_go (Some h) e =
      shelf_is (shelf_of (removed n cs)) (shelf_without true n (shelf_of cs))
      (ap available removed_is ∙ (gone_of ∙ sym (ap available p.whole ∙ held_of c h e)))
      (omega (arith, ap (λ (xs : List Copied). length (held_only xs)) removed_is, rest_gone, ap (λ (xs : List Copied). length (held_only xs)) p.whole, rest_held c h e))

  pub shelf_remove : shelf_of (removed n cs) ≡ shelf_without (is_some c.hold) n (shelf_of cs)
  shelf_remove = remove_go c.hold refl
