-- What ties the parts of `Copies` together stays once a copy is added, changed or gone.
use Rattle.std.proofs.Common.{◌≡◌, ◌≢◌, ℕ, ◌==◌, ◌||◌, ◌<◌, ◌≤◌, Bool, true, false, if◌then◌else◌, cond, nat_eq, List, [], ◌∷◌, ◌++◌, length, map, Option, None, Some, refl, sym, ap, subst, inl, inr, ◌∙◌, arith, slice_set}
use Rattle.std.proofs.lemmas.Bool.{eqb-true, true≢false, cases_lt}
use Rattle.std.proofs.lemmas.Option.{none-some}
use Rattle.std.proofs.lemmas.List.{get_or_past, get_or-set_same, get_or-set_other, length-set, length-map}
use Rattle.std.proofs.Math.ListN.{get_or-map as map_at}
use Rattle.std.specs.Map.{lookup, keys_of}
use Rattle.node_list.specs.Keys.{has, without, list_at}
use Rattle.node_list.proofs.Keys.{has_put, in_put, has_without, has_out, without_absent}
use Rattle.number_tree.specs.Numbers.{Each, Rising, has as has_number, without as without_number}
use Rattle.queue_copies.specs.declared.entry.Entry.{Entry}
use Rattle.queue_copies.specs.Shelves.{Shelved, shelf_at, empty_shelf}
use Rattle.queue_copies.specs.Copied.{Copied, copies_at, numbers, find_in, changed, removed, shelf_of}
use Rattle.queue_copies.specs.Sound.{seen, seen_first, gathered, number_in, lies_in, is_lane, held_in, Sound}
use Rattle.queue_copies.proofs.Numbers.{same, apart, differ, is_false, rising_last, no_more, rising_without}
use Rattle.queue_copies.proofs.Parted.{Parted, parted}
use Rattle.queue_copies.proofs.Gathering.{some_is, number_some, gathered_same, gathered_last, numbers_same, find_in_none, has_none, find_key, find_in_key, changed_gathered, removed_gathered}

-- entries but the one of a key
abbrev pub Others : (ℕ → Option Entry) → (ℕ → Option Entry) → ℕ → Type 0
Others f h key = (j : ℕ) → (j == key) ≡ false → h j ≡ f j

-- a look-up of a key among entries
pub among : {X : Type 0} (n : ℕ) (es : List (ℕ × X)) (x : X) → lookup (nat_eq n) es ≡ Some x → has_number n (keys_of es) ≡ true
among {X} n [] x q = absurd (none-some x q)
among {X} n (e ∷ es) x q = go (nat_eq n e.0) refl q (among n es x) where
  or_true : (b : Bool) → (b || true) ≡ true
  or_true true = refl
  or_true false = refl

  go : (b : Bool) → nat_eq n e.0 ≡ b → cond b (Some e.1) (lookup (nat_eq n) es) ≡ Some x → (lookup (nat_eq n) es ≡ Some x → has_number n (keys_of es) ≡ true) → ((e.0 == n) || has_number n (keys_of es)) ≡ true
  go true t h ih = ap (λ (b : Bool). b || has_number n (keys_of es)) (ap (λ (m : ℕ). m == n) (sym (eqb-true n e.0 t)) ∙ same n)
  go false t h ih = ap (λ (b : Bool). (e.0 == n) || b) (ih h) ∙ or_true (e.0 == n)

length_numbers : (cs : List Copied) → length (numbers cs) ≡ length cs
length_numbers [] = refl
length_numbers (c ∷ cs) = omega (arith, length_numbers cs)

module _ (f : ℕ → Option Entry) (lists lanes : List (List ℕ)) (key_of : ℕ → Option ℕ) (shelves : List Shelved) (s : Sound f lists lanes key_of shelves) where
  pub entry_of : (n key : ℕ) → key_of n ≡ Some key → (e : Entry) × ((f key ≡ Some e) × (e.copy.number ≡ n))
  entry_of n key q = number_some (f key) n (s.numbered n key q)

  -- the entry of a number's key has that number
  pub number_is : (n key : ℕ) (e : Entry) → key_of n ≡ Some key → f key ≡ Some e → e.copy.number ≡ n
  number_is n key e q is = some_is e.copy.number n (sym (ap number_in is) ∙ s.numbered n key q)

  pub only : (n key : ℕ) → key_of n ≡ Some key → (j : ℕ) → number_in (f j) ≡ Some n → j ≡ key
  only n key q j t = some_is j key (sym (s.keyed n j t) ∙ q)

  pub nowhere : (n : ℕ) → key_of n ≡ None → (j : ℕ) → number_in (f j) ≡ Some n → ⊥
  nowhere n q j t = none-some j (sym q ∙ s.keyed n j t)

  pub in_list : (key : ℕ) (e : Entry) → f key ≡ Some e → has key (list_at lists e.list) ≡ true
  in_list key e is = s.listed e.list key ∙ (ap (lies_in e.list) is ∙ same e.list)

  pub off_list : (key : ℕ) (e : Entry) (l : ℕ) → f key ≡ Some e → l ≢ e.list → has key (list_at lists l) ≡ false
  off_list key e l is d = s.listed l key ∙ (ap (lies_in l) is ∙ apart e.list l (λ i. d (sym i)))

  pub within : (key : ℕ) (e : Entry) → f key ≡ Some e → e.list < length lists
  within key e is = elim (cases_lt e.list (length lists)) [
    | inl lt ↦ lt
    | inr ge ↦ absurd (true≢false (sym (in_list key e is) ∙ ap (λ (ks : List ℕ). has key ks) (get_or_past lists e.list [] ge)))
  ]

  pub copies_are : (l : ℕ) → copies_at (map (gathered f) lists) l ≡ gathered f (list_at lists l)
  copies_are l = map_at (gathered f) lists l []

  -- out list has a number without a key
  pub missing : (n : ℕ) → key_of n ≡ None → find_in n (map (gathered f) lists) ≡ None
  missing n q = find_in_none f n (nowhere n q) lists

  -- as many different numbers as a list has are keys
  pub few : {X : Type 0} (es : List (ℕ × X)) → ((n k : ℕ) → key_of n ≡ Some k → has_number n (keys_of es) ≡ true) → (l : ℕ) → length (gathered f (list_at lists l)) ≤ length es
  few {X} es q l =
      let cs = gathered f (list_at lists l) in
      let le = no_more (numbers cs) (keys_of es) (s.rising l) (λ m h. elim (key_of m) as (λ (o : Option ℕ). key_of m ≡ o → has_number m (keys_of es) ≡ true) [
        | None ↦ (λ t. absurd (true≢false (sym h ∙ has_none f m (nowhere m t) (list_at lists l))))
        | Some k ↦ (λ t. q m k t)
      ] refl) in
      omega (arith, le, length_numbers cs, length-map es (λ (e : ℕ × X). e.0))

  module _ (n key : ℕ) (e : Entry) (q : key_of n ≡ Some key) (is : f key ≡ Some e) where
    pub found : find_in n (map (gathered f) lists) ≡ Some (seen e)
    found = find_in_key f n key e is (number_is n key e q is) (only n key q) lists e.list (in_list key e is)

    pub part : (front : List Copied) × ((back : List Copied) × Parted n (gathered f (list_at lists e.list)) (seen e) front back)
    part =
        parted n (gathered f (list_at lists e.list)) (seen e) (s.rising e.list)
        (find_key f n key e is (number_is n key e q is) (only n key q) (list_at lists e.list) ∙ ap (λ (b : Bool). if b then Some (seen e) else None) (in_list key e is))

    -- the entry changes
    module _ (h : ℕ → Option Entry) (others : Others f h key) (e2 : Entry) (is2 : h key ≡ Some e2) (g : Copied → Copied) (to : seen e2 ≡ g (seen e)) (list_same : e2.list ≡ e.list) (number_same : e2.copy.number ≡ e.copy.number) where
      entry_go : {A : Type 0} (p : Option Entry → A) → p (Some e2) ≡ p (Some e) → (k : ℕ) (b : Bool) → (k == key) ≡ b → p (h k) ≡ p (f k)
      entry_go {A} p t k true w = ap (λ (j : ℕ). p (h j)) (eqb-true k key w) ∙ (ap p is2 ∙ (t ∙ (ap p (sym is) ∙ ap (λ (j : ℕ). p (f j)) (sym (eqb-true k key w)))))
      entry_go {A} p t k false w = ap p (others k w)

      entry_same : {A : Type 0} (p : Option Entry → A) → p (Some e2) ≡ p (Some e) → (k : ℕ) → p (h k) ≡ p (f k)
      entry_same {A} p t k = entry_go p t k (k == key) refl

      number_kept : (k : ℕ) → number_in (h k) ≡ number_in (f k)
      number_kept k = entry_same number_in (ap (λ (m : ℕ). Some m) number_same) k

      pub changes_is : (ks : List ℕ) → gathered h ks ≡ changed n g (gathered f ks)
      changes_is ks = changed_gathered f n key e is (number_is n key e q is) (only n key q) h others g e2 is2 to ks

      pub changes_sound : (lanes2 : List (List ℕ)) → length lanes2 ≡ length lanes → ((lane j : ℕ) → has j (list_at lanes2 lane) ≡ held_in lane (h j))
          → (shelves2 : List Shelved) (shelf : Shelved) → shelves2 ≡ slice_set shelves e.list shelf → shelf ≡ shelf_of (changed n g (gathered f (list_at lists e.list))) → Sound h lists lanes2 key_of shelves2
      changes_sound lanes2 lanes_len held2 shelves2 shelf set known2 = record {
        numbered = λ m k t. number_kept k ∙ s.numbered m k t;
        keyed = λ m k t. s.keyed m k (sym (number_kept k) ∙ t);
        listed = λ l k. s.listed l k ∙ sym (entry_same (lies_in l) (ap (λ (i : ℕ). i == l) list_same) k);
        held = held2;
        as_many = lanes_len ∙ s.as_many;
        shelved = ap length set ∙ (length-set shelves e.list shelf ∙ s.shelved);
        rising = λ l. subst Rising (sym (numbers_same f h (list_at lists l) number_kept)) (s.rising l);
        known = λ l. ap (λ (xs : List Shelved). shelf_at xs l) set ∙ known_go l (l == e.list) refl;
      } where
        known_go : (l : ℕ) (b : Bool) → (l == e.list) ≡ b → shelf_at (slice_set shelves e.list shelf) l ≡ shelf_of (gathered h (list_at lists l))
        known_go l true w =
            ap (λ (i : ℕ). shelf_at (slice_set shelves e.list shelf) i) (eqb-true l e.list w)
            ∙ (get_or-set_same shelves e.list shelf empty_shelf (subst (λ (m : ℕ). e.list < m) (sym s.shelved) (within key e is))
            ∙ (known2 ∙ (ap shelf_of (sym (changes_is (list_at lists e.list))) ∙ ap (λ (i : ℕ). shelf_of (gathered h (list_at lists i))) (sym (eqb-true l e.list w)))))
        known_go l false w =
            get_or-set_other shelves e.list l shelf empty_shelf (differ l e.list w)
            ∙ (s.known l ∙ ap shelf_of (sym (gathered_same f h (list_at lists l) (λ j t. others j (is_false (j == key) (λ i. true≢false (sym t ∙ (ap (λ (k : ℕ). has k (list_at lists l)) (eqb-true j key i) ∙ off_list key e l is (differ l e.list w)))))))))

    -- the entry is gone
    module _ (h : ℕ → Option Entry) (others : Others f h key) (gone : h key ≡ None) where
      pub removes_is : (ks : List ℕ) → gathered h (without key ks) ≡ removed n (gathered f ks)
      removes_is ks = removed_gathered f n key e is (number_is n key e q is) (only n key q) h others ks

      at_without : (xs : List (List ℕ)) (i : ℕ) → list_at (map (λ ks. without key ks) xs) i ≡ without key (list_at xs i)
      at_without xs i = map_at (λ ks. without key ks) xs i []

      -- what stands in lists by a test of entries still does
      stand_go : (xs : List (List ℕ)) (test : Option Entry → Bool) → test None ≡ false → (i : ℕ) → ((j : ℕ) → has j (list_at xs i) ≡ test (f j)) → (j : ℕ) (b : Bool) → (j == key) ≡ b → has j (without key (list_at xs i)) ≡ test (h j)
      stand_go xs test out i all j true w =
          ap (λ (k : ℕ). has k (without key (list_at xs i))) (eqb-true j key w)
          ∙ (has_out key (list_at xs i) ∙ (sym out ∙ (ap test (sym gone) ∙ ap (λ (k : ℕ). test (h k)) (sym (eqb-true j key w)))))
      stand_go xs test out i all j false w = has_without j key (list_at xs i) (differ j key w) ∙ (all j ∙ ap test (sym (others j w)))

      stand : (xs : List (List ℕ)) (test : Option Entry → Bool) → test None ≡ false → (i : ℕ) → ((j : ℕ) → has j (list_at xs i) ≡ test (f j)) → (j : ℕ) → has j (list_at (map (λ ks. without key ks) xs) i) ≡ test (h j)
      stand xs test out i all j = ap (has j) (at_without xs i) ∙ stand_go xs test out i all j (j == key) refl

      numbered_go : (key_of2 : ℕ → Option ℕ) → ((m : ℕ) → (m == n) ≡ false → key_of2 m ≡ key_of m) → (m k : ℕ) → (m == n) ≡ false → key_of2 m ≡ Some k → (b : Bool) → (k == key) ≡ b → number_in (h k) ≡ Some m
      numbered_go key_of2 rest m k d t true w = absurd (differ m n d (some_is m n (sym (s.numbered m k (sym (rest m d) ∙ t)) ∙ (ap (λ (j : ℕ). number_in (f j)) (eqb-true k key w) ∙ s.numbered n key q))))
      numbered_go key_of2 rest m k d t false w = ap number_in (others k w) ∙ s.numbered m k (sym (rest m d) ∙ t)

      first_go : (key_of2 : ℕ → Option ℕ) → key_of2 n ≡ None → ((m : ℕ) → (m == n) ≡ false → key_of2 m ≡ key_of m) → (m k : ℕ) → key_of2 m ≡ Some k → (b : Bool) → (m == n) ≡ b → number_in (h k) ≡ Some m
      first_go key_of2 out rest m k t true w = absurd (none-some k (sym out ∙ (ap key_of2 (sym (eqb-true m n w)) ∙ t)))
      first_go key_of2 out rest m k t false w = numbered_go key_of2 rest m k w t (k == key) refl

      keyed_go : (key_of2 : ℕ → Option ℕ) → ((m : ℕ) → (m == n) ≡ false → key_of2 m ≡ key_of m) → (m k : ℕ) → number_in (h k) ≡ Some m → (b : Bool) → (k == key) ≡ b → key_of2 m ≡ Some k
      keyed_go key_of2 rest m k t true w = absurd (none-some m (ap number_in (sym gone) ∙ (ap (λ (j : ℕ). number_in (h j)) (sym (eqb-true k key w)) ∙ t)))
      keyed_go key_of2 rest m k t false w =
          let at = ap number_in (sym (others k w)) ∙ t in
          rest m (is_false (m == n) (λ i. differ k key w (only n key q k (at ∙ ap (λ (j : ℕ). Some j) (eqb-true m n i))))) ∙ s.keyed m k at

      pub removes_sound : (key_of2 : ℕ → Option ℕ) → key_of2 n ≡ None → ((m : ℕ) → (m == n) ≡ false → key_of2 m ≡ key_of m) → (lists2 lanes2 : List (List ℕ)) → lists2 ≡ map (λ ks. without key ks) lists → lanes2 ≡ map (λ ks. without key ks) lanes
          → (shelves2 : List Shelved) (shelf : Shelved) → shelves2 ≡ slice_set shelves e.list shelf → shelf ≡ shelf_of (removed n (gathered f (list_at lists e.list))) → Sound h lists2 lanes2 key_of2 shelves2
      removes_sound key_of2 out rest lists2 lanes2 l_is h_is shelves2 shelf set known2 = record {
        numbered = λ m k t. first_go key_of2 out rest m k t (m == n) refl;
        keyed = λ m k t. keyed_go key_of2 rest m k t (k == key) refl;
        listed = λ l k. ap (λ (xs : List (List ℕ)). has k (list_at xs l)) l_is ∙ stand lists (lies_in l) refl l (s.listed l) k;
        held = λ l k. ap (λ (xs : List (List ℕ)). has k (list_at xs l)) h_is ∙ stand lanes (held_in l) refl l (s.held l) k;
        as_many = ap length h_is ∙ (length-map lanes (λ ks. without key ks) ∙ (s.as_many ∙ sym (ap length l_is ∙ length-map lists (λ ks. without key ks))));
        shelved = ap length set ∙ (length-set shelves e.list shelf ∙ (s.shelved ∙ sym (ap length l_is ∙ length-map lists (λ ks. without key ks))));
        rising = λ l. subst Rising (sym (ap numbers (copies2 l) ∙ numbers_removed (gathered f (list_at lists l)))) (rising_without n (numbers (gathered f (list_at lists l))) (s.rising l));
        known = λ l. ap (λ (xs : List Shelved). shelf_at xs l) set ∙ (known_go l (l == e.list) refl ∙ ap shelf_of (sym (copies2 l)));
      } where
        copies2 : (l : ℕ) → gathered h (list_at lists2 l) ≡ removed n (gathered f (list_at lists l))
        copies2 l = ap (gathered h) (ap (λ (xs : List (List ℕ)). list_at xs l) l_is ∙ at_without lists l) ∙ removes_is (list_at lists l)

        numbers_if : (b : Bool) (c : Copied) (cs : List Copied) → numbers (if b then cs else c ∷ cs) ≡ (if b then numbers cs else c.copy.number ∷ numbers cs)
        numbers_if true c cs = refl
        numbers_if false c cs = refl

        numbers_removed : (cs : List Copied) → numbers (removed n cs) ≡ without_number n (numbers cs)
        numbers_removed [] = refl
        numbers_removed (c ∷ cs) = numbers_if (c.copy.number == n) c (removed n cs) ∙ ap (λ (ns : List ℕ). if c.copy.number == n then ns else c.copy.number ∷ ns) (numbers_removed cs)

        known_go : (l : ℕ) (b : Bool) → (l == e.list) ≡ b → shelf_at (slice_set shelves e.list shelf) l ≡ shelf_of (removed n (gathered f (list_at lists l)))
        known_go l true w =
            ap (λ (i : ℕ). shelf_at (slice_set shelves e.list shelf) i) (eqb-true l e.list w)
            ∙ (get_or-set_same shelves e.list shelf empty_shelf (subst (λ (m : ℕ). e.list < m) (sym s.shelved) (within key e is))
            ∙ (known2 ∙ ap (λ (i : ℕ). shelf_of (removed n (gathered f (list_at lists i)))) (sym (eqb-true l e.list w))))
        known_go l false w =
            get_or-set_other shelves e.list l shelf empty_shelf (differ l e.list w)
            ∙ (s.known l
            ∙ (ap shelf_of (sym (gathered_same f h (list_at lists l) (λ j t. others j (is_false (j == key) (λ i. true≢false (sym t ∙ (ap (λ (k : ℕ). has k (list_at lists l)) (eqb-true j key i) ∙ off_list key e l is (differ l e.list w))))))))
            ∙ (ap (λ (ks : List ℕ). shelf_of (gathered h ks)) (sym (without_absent key (list_at lists l) (off_list key e l is (differ l e.list w))))
            ∙ ap shelf_of (removes_is (list_at lists l)))))

  -- a copy is added
  module _ (n key : ℕ) (e : Entry) (new : key_of n ≡ None) (vacant : f key ≡ None) (h : ℕ → Option Entry) (others : Others f h key) (is : h key ≡ Some e) (num : e.copy.number ≡ n) (bare : e.held ≡ None) (lt : e.list < length lists)
      (last : Each (λ m. m < n) (numbers (gathered f (list_at lists e.list)))) where
    pub unlisted : (l : ℕ) → has key (list_at lists l) ≡ false
    unlisted l = s.listed l key ∙ ap (lies_in l) vacant

    pub as_before : (ks : List ℕ) → has key ks ≡ false → gathered h ks ≡ gathered f ks
    as_before ks out = gathered_same f h ks (λ j t. others j (is_false (j == key) (λ i. true≢false (sym t ∙ (ap (λ (k : ℕ). has k ks) (eqb-true j key i) ∙ out)))))

    pub added_is : (l : ℕ) → gathered h (list_at lists l ++ key ∷ []) ≡ gathered f (list_at lists l) ++ seen e ∷ []
    added_is l = gathered_last h (list_at lists l) key ∙ (ap (λ (o : Option Entry). gathered h (list_at lists l) ++ seen_first o []) is ∙ ap (λ (xs : List Copied). xs ++ seen e ∷ []) (as_before (list_at lists l) (unlisted l)))

    pub adds_sound : (key_of2 : ℕ → Option ℕ) → key_of2 n ≡ Some key → ((m : ℕ) → (m == n) ≡ false → key_of2 m ≡ key_of m) → (lists2 : List (List ℕ)) → lists2 ≡ slice_set lists e.list (list_at lists e.list ++ key ∷ [])
        → (shelves2 : List Shelved) (shelf : Shelved) → shelves2 ≡ slice_set shelves e.list shelf → shelf ≡ shelf_of (gathered f (list_at lists e.list) ++ seen e ∷ []) → Sound h lists2 lanes key_of2 shelves2
    adds_sound key_of2 put rest lists2 l_is shelves2 shelf set known2 = record {
      numbered = λ m k t. numbered_go m k t (m == n) refl;
      keyed = λ m k t. keyed_go m k t (k == key) refl;
      listed = λ l k. ap (λ (xs : List (List ℕ)). has k (list_at xs l)) l_is ∙ listed_go l k (l == e.list) refl (k == key) refl;
      held = λ l k. held_go l k (k == key) refl;
      as_many = s.as_many ∙ sym (ap length l_is ∙ length-set lists e.list (list_at lists e.list ++ key ∷ []));
      shelved = ap length set ∙ (length-set shelves e.list shelf ∙ (s.shelved ∙ sym (ap length l_is ∙ length-set lists e.list (list_at lists e.list ++ key ∷ []))));
      rising = λ l. subst (λ (xs : List (List ℕ)). Rising (numbers (gathered h (list_at xs l)))) (sym l_is) (rising_go l (l == e.list) refl);
      known = λ l. ap (λ (xs : List Shelved). shelf_at xs l) set ∙ (known_go l (l == e.list) refl ∙ ap (λ (xs : List (List ℕ)). shelf_of (gathered h (list_at xs l))) (sym l_is));
    } where
      numbered_go : (m k : ℕ) → key_of2 m ≡ Some k → (b : Bool) → (m == n) ≡ b → number_in (h k) ≡ Some m
      numbered_go m k t true w =
          let k_is : key ≡ k = some_is key k (sym put ∙ (ap key_of2 (sym (eqb-true m n w)) ∙ t)) in
          ap (λ (j : ℕ). number_in (h j)) (sym k_is) ∙ (ap number_in is ∙ ap (λ (j : ℕ). Some j) (num ∙ sym (eqb-true m n w)))
      numbered_go m k t false w =
          let at = s.numbered m k (sym (rest m w) ∙ t) in
          ap number_in (others k (is_false (k == key) (λ i. none-some m (sym (ap number_in vacant) ∙ (ap (λ (j : ℕ). number_in (f j)) (sym (eqb-true k key i)) ∙ at))))) ∙ at

      keyed_go : (m k : ℕ) → number_in (h k) ≡ Some m → (b : Bool) → (k == key) ≡ b → key_of2 m ≡ Some k
      keyed_go m k t true w =
          let m_is : e.copy.number ≡ m = some_is e.copy.number m (sym (ap number_in is) ∙ (ap (λ (j : ℕ). number_in (h j)) (sym (eqb-true k key w)) ∙ t)) in
          ap key_of2 (sym m_is ∙ num) ∙ (put ∙ ap (λ (j : ℕ). Some j) (sym (eqb-true k key w)))
      keyed_go m k t false w =
          let at = s.keyed m k (ap number_in (sym (others k w)) ∙ t) in
          rest m (is_false (m == n) (λ i. none-some k (sym new ∙ (ap key_of (sym (eqb-true m n i)) ∙ at)))) ∙ at

      here_in : has key (list_at lists e.list ++ key ∷ []) ≡ true
      here_in = in_put None key (list_at lists e.list) refl

      listed_go : (l k : ℕ) (b : Bool) → (l == e.list) ≡ b → (d : Bool) → (k == key) ≡ d → has k (list_at (slice_set lists e.list (list_at lists e.list ++ key ∷ [])) l) ≡ lies_in l (h k)
      listed_go l k true w true v =
          ap (λ (i : ℕ). has k (list_at (slice_set lists e.list (list_at lists e.list ++ key ∷ [])) i)) (eqb-true l e.list w)
          ∙ (ap (has k) (get_or-set_same lists e.list (list_at lists e.list ++ key ∷ []) [] lt)
          ∙ (ap (λ (j : ℕ). has j (list_at lists e.list ++ key ∷ [])) (eqb-true k key v) ∙ (here_in
          ∙ (sym (ap (λ (i : ℕ). e.list == i) (eqb-true l e.list w) ∙ same e.list) ∙ (ap (lies_in l) (sym is) ∙ ap (λ (j : ℕ). lies_in l (h j)) (sym (eqb-true k key v)))))))
      listed_go l k true w false v =
          ap (λ (i : ℕ). has k (list_at (slice_set lists e.list (list_at lists e.list ++ key ∷ [])) i)) (eqb-true l e.list w)
          ∙ (ap (has k) (get_or-set_same lists e.list (list_at lists e.list ++ key ∷ []) [] lt)
          ∙ (has_put None key k (list_at lists e.list) (differ k key v)
          ∙ (s.listed e.list k ∙ (ap (λ (i : ℕ). lies_in i (f k)) (sym (eqb-true l e.list w)) ∙ ap (lies_in l) (sym (others k v))))))
      listed_go l k false w true v =
          ap (has k) (get_or-set_other lists e.list l (list_at lists e.list ++ key ∷ []) [] (differ l e.list w))
          ∙ (ap (λ (j : ℕ). has j (list_at lists l)) (eqb-true k key v) ∙ (unlisted l
          ∙ (sym (apart e.list l (λ i. differ l e.list w (sym i))) ∙ (ap (lies_in l) (sym is) ∙ ap (λ (j : ℕ). lies_in l (h j)) (sym (eqb-true k key v))))))
      listed_go l k false w false v =
          ap (has k) (get_or-set_other lists e.list l (list_at lists e.list ++ key ∷ []) [] (differ l e.list w)) ∙ (s.listed l k ∙ ap (lies_in l) (sym (others k v)))

      held_go : (l k : ℕ) (d : Bool) → (k == key) ≡ d → has k (list_at lanes l) ≡ held_in l (h k)
      held_go l k true v =
          s.held l k ∙ (ap (λ (j : ℕ). held_in l (f j)) (eqb-true k key v) ∙ (ap (held_in l) vacant
          ∙ (sym (ap (is_lane l) bare) ∙ (ap (held_in l) (sym is) ∙ ap (λ (j : ℕ). held_in l (h j)) (sym (eqb-true k key v))))))
      held_go l k false v = s.held l k ∙ ap (held_in l) (sym (others k v))

      numbers_last : (cs : List Copied) (c : Copied) → numbers (cs ++ c ∷ []) ≡ numbers cs ++ c.copy.number ∷ []
      numbers_last [] c = refl
      numbers_last (x ∷ cs) c = ap (λ (ns : List ℕ). x.copy.number ∷ ns) (numbers_last cs c)

      rising_go : (l : ℕ) (b : Bool) → (l == e.list) ≡ b → Rising (numbers (gathered h (list_at (slice_set lists e.list (list_at lists e.list ++ key ∷ [])) l)))
      rising_go l true w =
          subst (λ (ks : List ℕ). Rising (numbers (gathered h ks))) (sym (ap (λ (i : ℕ). list_at (slice_set lists e.list (list_at lists e.list ++ key ∷ [])) i) (eqb-true l e.list w) ∙ get_or-set_same lists e.list (list_at lists e.list ++ key ∷ []) [] lt))
          (subst Rising (sym (ap numbers (added_is e.list) ∙ (numbers_last (gathered f (list_at lists e.list)) (seen e) ∙ ap (λ (m : ℕ). numbers (gathered f (list_at lists e.list)) ++ m ∷ []) num)))
          (rising_last (numbers (gathered f (list_at lists e.list))) n (s.rising e.list) last))
      rising_go l false w =
          subst (λ (ks : List ℕ). Rising (numbers (gathered h ks))) (sym (get_or-set_other lists e.list l (list_at lists e.list ++ key ∷ []) [] (differ l e.list w)))
          (subst (λ (cs : List Copied). Rising (numbers cs)) (sym (as_before (list_at lists l) (unlisted l))) (s.rising l))

      known_go : (l : ℕ) (b : Bool) → (l == e.list) ≡ b → shelf_at (slice_set shelves e.list shelf) l ≡ shelf_of (gathered h (list_at (slice_set lists e.list (list_at lists e.list ++ key ∷ [])) l))
      known_go l true w =
          ap (λ (i : ℕ). shelf_at (slice_set shelves e.list shelf) i) (eqb-true l e.list w)
          ∙ (get_or-set_same shelves e.list shelf empty_shelf (subst (λ (m : ℕ). e.list < m) (sym s.shelved) lt)
          ∙ (known2 ∙ (ap shelf_of (sym (added_is e.list))
          ∙ (ap (λ (ks : List ℕ). shelf_of (gathered h ks)) (sym (get_or-set_same lists e.list (list_at lists e.list ++ key ∷ []) [] lt))
          ∙ ap (λ (i : ℕ). shelf_of (gathered h (list_at (slice_set lists e.list (list_at lists e.list ++ key ∷ [])) i))) (sym (eqb-true l e.list w))))))
      known_go l false w =
          get_or-set_other shelves e.list l shelf empty_shelf (differ l e.list w)
          ∙ (s.known l ∙ (ap shelf_of (sym (as_before (list_at lists l) (unlisted l)))
          ∙ ap (λ (ks : List ℕ). shelf_of (gathered h ks)) (sym (get_or-set_other lists e.list l (list_at lists e.list ++ key ∷ []) [] (differ l e.list w)))))
