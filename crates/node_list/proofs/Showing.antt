-- What nodes and ends show after each call.
use Rattle.std.proofs.Common.{◌≡◌, ◌≢◌, ◌⊎◌, ℕ, zero, suc, ◌+◌, ◌-◌, ◌<◌, ◌≤◌, Bool, true, false, List, [], ◌∷◌, ◌++◌, length, map, replicate, Option, None, Some, is_some, cond, IsSome, IfSome, inl, inr, sym, ap, ◌∙◌, subst, refl, arith, slice_index_or, slice_set}
use Rattle.std.proofs.lemmas.Bool.{true≢false, cases_lt, cases_eq}
use Rattle.std.proofs.lemmas.Option.{none-some}
use Rattle.std.proofs.lemmas.List.{length-set, length-map, get_or-set_same, get_or-set_other, get_or_past, get_or_default, ext_get_or, map-set, length-append, length-replicate, get_or-replicate}
use Rattle.std.proofs.Math.Seq.{map-set_same}
use Rattle.std.specs.List.{count_by}
use Rattle.std.proofs.lemmas.List.Folds.{fold-map}
use Rattle.std.proofs.Math.ListN.{get_or-map as map_at}
use Rattle.slab.specs.Slab.{Slab, get, ContainsKey, Updates, slab_len}
use Rattle.node_list.specs.declared.links.Place.{Place}
use Rattle.node_list.specs.declared.links.Ends.{Ends}
use Rattle.node_list.specs.declared.links.Node.{Node}
use Rattle.node_list.specs.Keys.{has, without, put_before, first_of, next_in, list_at, Distinct}
use Rattle.node_list.specs.Links.{place_in, place_at, item_in, item_slots, next_of, list_of, no_ends, ends_at, after, before, Chain, Spells, placed, with_next, with_previous, joined, ends_joined, put_in, ends_put, IsListed}
use Rattle.node_list.specs.Lists.{Listed, IsLive, IsFree, Puts, listed, Shows, IsSound}
use Rattle.node_list.proofs.Keys.{put_at, is_spot, before_absent}
use Rattle.node_list.proofs.Chains.{chain_first, chain_next, chain_same}
use Rattle.node_list.proofs.Spelling.{placed_here, placed_other, spells_same, in_bound, listed_below, none_spells, cut_spells, put_spells, walks_are, set_length, put_list_is, joined_list_is, next_listed, first_listed, in_one}

-- ---- changes that go by key

wn_same : (spot n : Option ℕ) (f g : ℕ → Option Place) (j : ℕ) → f j ≡ g j → with_next spot n f j ≡ with_next spot n g j
wn_same None n f g j e = e
wn_same (Some k) n f g j e = rw e refl

wp_same : (spot n : Option ℕ) (f g : ℕ → Option Place) (j : ℕ) → f j ≡ g j → with_previous spot n f j ≡ with_previous spot n g j
wp_same None n f g j e = e
wp_same (Some k) n f g j e = rw e refl

placed_same : (key : ℕ) (p : Option Place) (f g : ℕ → Option Place) (j : ℕ) → f j ≡ g j → placed key p f j ≡ placed key p g j
placed_same key p f g j e = rw e refl

pub joined_same : (p : Option Place) (f g : ℕ → Option Place) (j : ℕ) → f j ≡ g j → joined p f j ≡ joined p g j
joined_same None f g j e = e
joined_same (Some p) f g j e = wp_same p.next p.previous (with_next p.previous p.next f) (with_next p.previous p.next g) j (wn_same p.previous p.next f g j e)

put_same : (key : ℕ) (p : Place) (f g : ℕ → Option Place) (j : ℕ) → f j ≡ g j → put_in key p f j ≡ put_in key p g j
put_same key p f g j e =
    wp_same p.next (Some key) (with_next p.previous (Some key) (placed key (Some p) f)) (with_next p.previous (Some key) (placed key (Some p) g)) j
    (wn_same p.previous (Some key) (placed key (Some p) f) (placed key (Some p) g) j (placed_same key (Some p) f g j e))

-- ---- lists with more at the end

replicate_at : {A : Type 0} (n : ℕ) (d : A) (i : ℕ) → slice_index_or (replicate n d) i d ≡ d
replicate_at n d i = elim (cases_lt i n) [
  | inl lt ↦ get_or-replicate n i d d lt
  | inr ge ↦ get_or_past (replicate n d) i d (subst (λ (m : ℕ). m ≤ i) (sym (length-replicate n d)) ge)
]

pub grown_at : {A : Type 0} (xs : List A) (n : ℕ) (d : A) (i : ℕ) → slice_index_or (xs ++ replicate n d) i d ≡ slice_index_or xs i d
grown_at [] n d i = replicate_at n d i ∙ sym (get_or_past [] i d (omega arith))
grown_at (x ∷ xs) n d zero = refl
grown_at (x ∷ xs) n d (suc i) = grown_at xs n d i

pub grown_length : {A : Type 0} (xs : List A) (n : ℕ) (d : A) → length (xs ++ replicate n d) ≡ length xs + n
grown_length xs n d = length-append xs (replicate n d) ∙ ap (λ (m : ℕ). length xs + m) (length-replicate n d)

count_map : {A : Type 0} (xs : List (Option A)) → count_by (λ b. b) (map is_some xs) ≡ count_by is_some xs
count_map xs = fold-map (λ (n : ℕ) (b : Bool). n + cond b 1 0) is_some 0 xs

-- ---- one lane

pub put_ends_length : (ends : List Ends) (key : ℕ) (p : Place) → p.list < length ends → length (ends_put key p ends) ≡ length ends
put_ends_length ends key p lt = set_length ends p.list lt p.previous p.next (Some key) (Some key)

pub joined_ends_length : (ends : List Ends) (p : Option Place) → IsListed p (length ends) → length (ends_joined p ends) ≡ length ends
joined_ends_length ends None l = refl
joined_ends_length ends (Some p) lt = set_length ends p.list lt p.previous p.next p.next p.previous

module _ (f : ℕ → Option Place) (ends : List Ends) (lists : List (List ℕ)) (s : Spells f ends lists) where
  -- a key is cut out, where it is in a list
  pub cut_is : (key : ℕ) (p : Option Place) → f key ≡ p → (f2 : ℕ → Option Place) → ((j : ℕ) → f2 j ≡ joined p (placed key None f) j) → Spells f2 (ends_joined p ends) (map (λ keys. without key keys) lists)
  cut_is key None e f2 eq = spells_same (placed key None f) ends (map (λ keys. without key keys) lists) (none_spells f ends lists s key e) f2 eq
  cut_is key (Some p) e f2 eq = spells_same (joined (Some p) (placed key None f)) (ends_joined (Some p) ends) (map (λ keys. without key keys) lists) (cut_spells f ends lists s key p e) f2 eq

  pub is_listed : (key : ℕ) (p : Option Place) → f key ≡ p → IsListed p (length ends)
  is_listed key None e = refl
  is_listed key (Some p) e = listed_below f ends lists s p.list key (ap list_of e)

  -- a key is put in before a spot
  pub put_is : (key : ℕ) → f key ≡ None → (l : ℕ) → l < length ends → (spot : Option ℕ) → is_spot spot (list_at lists l) ≡ true
      → (p : Place) → p ≡ record { list = l; previous = before f ends l spot; next = spot } → (f2 : ℕ → Option Place) → ((j : ℕ) → f2 j ≡ put_in key p f j)
      → Spells f2 (ends_put key p ends) (slice_set lists l (put_at spot key (list_at lists l)))
  put_is key e l lt spot on p is f2 eq =
      spells_same (put_in key p f) (ends_put key p ends) (slice_set lists l (put_at spot key (list_at lists l)))
      (subst (λ (q : Place). Spells (put_in key q f) (ends_put key q ends) (slice_set lists l (put_at spot key (list_at lists l)))) (sym is) (put_spells f ends lists s key e l lt spot on))
      f2 eq

  no_place : (p : Option Place) → ((i : ℕ) → list_of p ≡ Some i → ⊥) → p ≡ None
  no_place None n = refl
  no_place (Some p) n = absurd (n p.list refl)

  -- a key in no list has no place
  pub free_is : (key : ℕ) → ((i : ℕ) → has key (list_at lists i) ≡ false) → f key ≡ None
  free_is key n = no_place (f key) (λ i e. true≢false (sym (s.covers i key e) ∙ n i))

  pub first_is : (l : ℕ) → l < length ends → (ends_at ends l).first ≡ first_of (list_at lists l)
  first_is l lt = chain_first (after f ends l) (before f ends l) None (list_at lists l) (s.chains l lt)

  pub next_is_in : (l key : ℕ) → has key (list_at lists l) ≡ true → next_of (f key) ≡ next_in key (list_at lists l)
  next_is_in l key h = chain_next (after f ends l) (before f ends l) None (list_at lists l) key (s.chains l (in_bound f ends lists s l key h)) h

  -- a key before another one, whatever list that is in
  pub befores_are : (other key l : ℕ) → list_of (f other) ≡ Some l → map (λ keys. put_before other key keys) lists ≡ slice_set lists l (put_before other key (list_at lists l))
  befores_are other key l e =
      let put = put_before other key (list_at lists l) in
      ext_get_or [] (map (λ keys. put_before other key keys) lists) (slice_set lists l put) (length-map lists (λ keys. put_before other key keys) ∙ sym (length-set lists l put))
      (λ i lt. map_at (λ keys. put_before other key keys) lists i [] ∙ befores_at i (subst (λ (m : ℕ). i < m) (length-map lists (λ keys. put_before other key keys)) lt) (cases_eq i l)) where
        befores_at : (i : ℕ) → i < length lists → (i ≡ l) ⊎ (i ≢ l) → put_before other key (list_at lists i) ≡ slice_index_or (slice_set lists l (put_before other key (list_at lists l))) i []
        befores_at i lt (inl q) =
            subst (λ (m : ℕ). put_before other key (list_at lists m) ≡ slice_index_or (slice_set lists l (put_before other key (list_at lists l))) m []) (sym q)
            (sym (get_or-set_same lists l (put_before other key (list_at lists l)) [] (subst (λ (m : ℕ). m < length lists) q lt)))
        befores_at i lt (inr d) = before_absent other key (list_at lists i) (in_one f ends lists s other l i e d) ∙ sym (get_or-set_other lists l i (put_before other key (list_at lists l)) [] d)

-- ---- more lists

module _ (f : ℕ → Option Place) (ends : List Ends) (lists : List (List ℕ)) (s : Spells f ends lists) (n : ℕ) where
  abbrev more_ends : List Ends
  more_ends = ends ++ replicate n no_ends

  abbrev more_lists : List (List ℕ)
  more_lists = lists ++ replicate n []

  more_chain : (i : ℕ) → (i < length ends) ⊎ (length ends ≤ i) → Chain (after f more_ends i) (before f more_ends i) None (list_at lists i)
  more_chain i (inl lt) =
      let is = grown_at ends n no_ends i in
      chain_same (after f ends i) (before f ends i) (after f more_ends i) (before f more_ends i) None (list_at lists i) (s.chains i lt)
      (ap (λ (e : Ends). e.first) is) (λ k h. refl) (ap (λ (e : Ends). e.last) is) (λ k h. refl)
  more_chain i (inr ge) =
      let is = grown_at ends n no_ends i ∙ get_or_past ends i no_ends ge in
      subst (Chain (after f more_ends i) (before f more_ends i) None) (sym (get_or_past lists i [] (subst (λ (m : ℕ). m ≤ i) (sym s.count) ge)))
      (ap (λ (e : Ends). e.first) is, ap (λ (e : Ends). e.last) is)

  pub spells_more : Spells f more_ends more_lists
  spells_more = record {
    count = grown_length lists n [] ∙ (ap (λ (m : ℕ). m + n) s.count ∙ sym (grown_length ends n no_ends));
    chains = λ i lt. subst (Chain (after f more_ends i) (before f more_ends i) None) (sym (grown_at lists n [] i)) (more_chain i (cases_lt i (length ends)));
    distinct = λ i. subst Distinct (sym (grown_at lists n [] i)) (s.distinct i);
    listed = λ i k h. s.listed i k (sym (ap (λ (ks : List ℕ). has k ks) (grown_at lists n [] i)) ∙ h);
    covers = λ i k e. ap (λ (ks : List ℕ). has k ks) (grown_at lists n [] i) ∙ s.covers i k e;
  }

-- ---- what is answered

if_some : (o : Option ℕ) (P : ℕ → Type 0) → ((j : ℕ) → o ≡ Some j → P j) → IfSome o P
if_some None P f = tt
if_some (Some j) P f = f j refl

some_is : (o : Option ℕ) → IsSome o → (j : ℕ) × (o ≡ Some j)
some_is None e = absurd (true≢false (sym e))
some_is (Some j) e = (j, refl)

-- ---- nodes

module _ {T : Type 0} where
  pub item_is : (nodes : Slab (Node T)) (key : ℕ) → slice_index_or (item_slots nodes) key None ≡ item_in (get nodes key)
  item_is nodes key = map_at item_in nodes.slots key None

  item_some : (o : Option (Node T)) → IsSome o → IsSome (item_in o)
  item_some None e = e
  item_some (Some n) e = refl

  some_item : (o : Option (Node T)) → IsSome (item_in o) → IsSome o
  some_item None e = e
  some_item (Some n) e = refl

  -- a live key has a node
  pub live_is : (nodes : Slab (Node T)) (key : ℕ) → IsSome (slice_index_or (item_slots nodes) key None) → ContainsKey nodes key
  live_is nodes key e = some_item (get nodes key) (subst IsSome (item_is nodes key) e)

  pub is_live : (nodes : Slab (Node T)) (key : ℕ) → ContainsKey nodes key → IsSome (slice_index_or (item_slots nodes) key None)
  is_live nodes key e = subst IsSome (sym (item_is nodes key)) (item_some (get nodes key) e)

  place_some : (lane : ℕ) (o : Option (Node T)) (i : ℕ) → list_of (place_in lane o) ≡ Some i → IsSome o
  place_some lane None i e = absurd (none-some i e)
  place_some lane (Some n) i e = refl

  pub listed_live : (nodes : Slab (Node T)) (lane key i : ℕ) → list_of (place_at nodes lane key) ≡ Some i → ContainsKey nodes key
  listed_live nodes lane key i e = place_some lane (get nodes key) i e

  key_below : (nodes : Slab (Node T)) (lane key i : ℕ) → list_of (place_at nodes lane key) ≡ Some i → key < length nodes.slots
  key_below nodes lane key i e = elim (cases_lt key (length nodes.slots)) [
    | inl lt ↦ lt
    | inr ge ↦ absurd (none-some i (sym (ap (λ (o : Option (Node T)). list_of (place_in lane o)) (get_or_past nodes.slots key None ge)) ∙ e))
  ]

  module _ (nodes : Slab (Node T)) (ends held_ends : List Ends) (lists held_lists : List (List ℕ)) (shows : Shows nodes ends held_ends lists held_lists) where
    pub lists_are : (listed nodes ends held_ends).lists ≡ lists
    lists_are = walks_are (place_at nodes 0) ends lists shows.order (length nodes.slots) (λ k i e. key_below nodes 0 k i e)

    pub held_are : (listed nodes ends held_ends).held ≡ held_lists
    held_are = walks_are (place_at nodes 1) held_ends held_lists shows.held (length nodes.slots) (λ k i e. key_below nodes 1 k i e)

    pub sound_is : IsSound nodes ends held_ends
    sound_is = rw (lists_are) (rw (held_are) shows)

  -- ---- a call's nodes beside the ones before it

  all_by : (nodes nodes2 : Slab (Node T)) → item_slots nodes2 ≡ item_slots nodes → ((k : ℕ) → IsSome (get nodes k) → IsSome (list_of (place_at nodes2 0 k))) → (k : ℕ) → IsSome (get nodes2 k) → IsSome (list_of (place_at nodes2 0 k))
  all_by nodes nodes2 items all k live = all k (live_is nodes k (subst (λ (xs : List (Option T)). IsSome (slice_index_or xs k None)) items (is_live nodes2 k live)))

  -- a node's places stay, where only lane 0 or lane 1 is changed
  module _ (nodes nodes2 : Slab (Node T)) (ends held_ends : List Ends) (sound : IsSound nodes ends held_ends) (items : item_slots nodes2 ≡ item_slots nodes) where
    abbrev before_call : Listed T
    before_call = listed nodes ends held_ends

    -- holder's lists change
    pub held_shows : (held2 : List Ends) (hs : List (List ℕ)) → ((j : ℕ) → place_at nodes2 0 j ≡ place_at nodes 0 j) → Spells (place_at nodes2 1) held2 hs → length held2 ≡ length held_ends → Shows nodes2 ends held2 before_call.lists hs
    held_shows held2 hs lanes spells len = record {
      order = spells_same (place_at nodes 0) ends before_call.lists sound.order (place_at nodes2 0) lanes;
      held = spells;
      as_many = len ∙ sound.as_many;
      all = all_by nodes nodes2 items (λ k live. subst IsSome (sym (ap list_of (lanes k))) (sound.all k live));
    }

    -- a node that nobody holds goes to the end of a holder's list
    pub hold_shows : (key holder : ℕ) → holder < length before_call.held → IsFree before_call key → (x : Ends) → x ≡ slice_index_or held_ends holder x
        → (held2 : List Ends) → ((j : ℕ) → place_at nodes2 1 j ≡ put_in key (record { list = holder; previous = x.last; next = None }) (place_at nodes 1) j)
        → ((j : ℕ) → place_at nodes2 0 j ≡ place_at nodes 0 j) → held2 ≡ ends_put key (record { list = holder; previous = x.last; next = None }) held_ends
        → Shows nodes2 ends held2 before_call.lists (slice_set before_call.held holder (list_at before_call.held holder ++ key ∷ []))
    hold_shows key holder within free x is held2 places lanes e =
        let lt : holder < length held_ends = subst (λ (n : ℕ). holder < n) sound.held.count within in
        let at : x ≡ ends_at held_ends holder = is ∙ get_or_default held_ends holder x no_ends lt in
        let spells = put_is (place_at nodes 1) held_ends before_call.held sound.held key (free_is (place_at nodes 1) held_ends before_call.held sound.held key free) holder lt None refl
        (record { list = holder; previous = x.last; next = None }) (ap (λ (y : Ends). record { list = holder; previous = y.last; next = None }) at) (place_at nodes2 1) places in
        held_shows held2 _ lanes (subst (λ (es : List Ends). Spells (place_at nodes2 1) es (slice_set before_call.held holder (list_at before_call.held holder ++ key ∷ []))) (sym e) spells)
        (ap length e ∙ put_ends_length held_ends key (record { list = holder; previous = x.last; next = None }) lt)

    -- a node is let go
    pub lets_go_shows : (key : ℕ) (p : Option Place) → place_at nodes 1 key ≡ p → (held2 : List Ends) → ((j : ℕ) → place_at nodes2 1 j ≡ joined p (placed key None (place_at nodes 1)) j)
        → ((j : ℕ) → place_at nodes2 0 j ≡ place_at nodes 0 j) → held2 ≡ ends_joined p held_ends → Shows nodes2 ends held2 before_call.lists (map (λ keys. without key keys) before_call.held)
    lets_go_shows key p is held2 places lanes e =
        let spells = cut_is (place_at nodes 1) held_ends before_call.held sound.held key p is (place_at nodes2 1) places in
        held_shows held2 _ lanes (subst (λ (es : List Ends). Spells (place_at nodes2 1) es (map (λ keys. without key keys) before_call.held)) (sym e) spells)
        (ap length e ∙ joined_ends_length held_ends p (is_listed (place_at nodes 1) held_ends before_call.held sound.held key p is))

  -- ---- a new node

  -- nothing is placed by a node with no places
  new_place_is : (nodes nodes2 : Slab (Node T)) (key : ℕ) (item : T) → get nodes key ≡ None → Updates nodes nodes2 key (Some (record { item = item; places = None ∷ None ∷ [] })) → (lane : ℕ) → slice_index_or {A = Option Place} (None ∷ None ∷ []) lane None ≡ None → (j : ℕ) → place_at nodes2 lane j ≡ place_at nodes lane j
  new_place_is nodes nodes2 key item vacant updates lane none j = elim (cases_eq j key) [
    | inl q ↦ subst (λ (m : ℕ). place_at nodes2 lane m ≡ place_at nodes lane m) (sym q) ((ap (place_in lane) updates.changed ∙ none) ∙ sym (ap (place_in lane) vacant))
    | inr d ↦ ap (place_in lane) (updates.others j d)
  ]

  pub puts_is : (nodes nodes2 nodes3 : Slab (Node T)) (ends held_ends ends2 : List Ends) (key : ℕ) (item : T) → get nodes key ≡ None → Updates nodes nodes2 key (Some (record { item = item; places = None ∷ None ∷ [] })) → item_slots nodes3 ≡ item_slots nodes2
      → Puts (listed nodes ends held_ends) (listed nodes3 ends2 held_ends) key item
  puts_is nodes nodes2 nodes3 ends held_ends ends2 key item vacant updates items = record {
    was = item_is nodes key ∙ ap item_in vacant;
    is = ap (λ (xs : List (Option T)). slice_index_or xs key None) items ∙ (item_is nodes2 key ∙ ap item_in updates.changed);
    others = λ j d. ap (λ (xs : List (Option T)). slice_index_or xs j None) items ∙ (item_is nodes2 j ∙ (ap item_in (updates.others j d) ∙ sym (item_is nodes j)));
  }

  module _ (nodes nodes2 nodes3 : Slab (Node T)) (ends held_ends : List Ends) (sound : IsSound nodes ends held_ends) (key : ℕ) (item : T) (vacant : get nodes key ≡ None)
      (updates : Updates nodes nodes2 key (Some (record { item = item; places = None ∷ None ∷ [] }))) (items : item_slots nodes3 ≡ item_slots nodes2) where
    abbrev before_put : Listed T
    before_put = listed nodes ends held_ends

    pub puts_shows : (l : ℕ) → l < length ends → (spot : Option ℕ) → is_spot spot (list_at before_put.lists l) ≡ true → (p : Place) → p ≡ record { list = l; previous = before (place_at nodes 0) ends l spot; next = spot }
        → (ends2 : List Ends) → ((j : ℕ) → place_at nodes3 0 j ≡ put_in key p (place_at nodes2 0) j) → ((j : ℕ) → place_at nodes3 1 j ≡ place_at nodes2 1 j) → ends2 ≡ ends_put key p ends
        → Shows nodes3 ends2 held_ends (slice_set before_put.lists l (put_at spot key (list_at before_put.lists l))) before_put.held
    puts_shows l lt spot on p is ends2 places lanes e =
        let place0 = new_place_is nodes nodes2 key item vacant updates 0 refl in
        let place1 = new_place_is nodes nodes2 key item vacant updates 1 refl in
        let puts = λ (j : ℕ). places j ∙ put_same key p (place_at nodes2 0) (place_at nodes 0) j (place0 j) in
        let spells = put_is (place_at nodes 0) ends before_put.lists sound.order key (ap (place_in 0) vacant) l lt spot on p is (place_at nodes3 0) puts in
        record {
          order = subst (λ (es : List Ends). Spells (place_at nodes3 0) es (slice_set before_put.lists l (put_at spot key (list_at before_put.lists l)))) (sym e) spells;
          held = spells_same (place_at nodes 1) held_ends before_put.held sound.held (place_at nodes3 1) (λ j. lanes j ∙ place1 j);
          as_many = sound.as_many ∙ sym (ap length e ∙ put_ends_length ends key p (subst (λ (m : ℕ). m < length ends) (sym (ap (λ (q : Place). q.list) is)) lt));
          all = all_by nodes2 nodes3 items (λ k live. subst IsSome (sym (ap list_of (puts k) ∙ put_list_is (place_at nodes 0) key p k)) (put_all k live (cases_eq k key)));
        } where
          put_all : (k : ℕ) → IsSome (get nodes2 k) → (k ≡ key) ⊎ (k ≢ key) → IsSome (list_of (placed key (Some p) (place_at nodes 0) k))
          put_all k live (inl q) = subst (λ (m : ℕ). IsSome (list_of (placed key (Some p) (place_at nodes 0) m))) (sym q) (subst (λ (o : Option Place). IsSome (list_of o)) (sym (placed_here (place_at nodes 0) key (Some p))) refl)
          put_all k live (inr d) = subst (λ (o : Option Place). IsSome (list_of o)) (sym (placed_other (place_at nodes 0) key (Some p) k d)) (sound.all k (subst IsSome (updates.others k d) live))

  -- ---- a node is taken out

  module _ (nodes nodes2 nodes3 nodes4 : Slab (Node T)) (ends held_ends : List Ends) (sound : IsSound nodes ends held_ends) (key : ℕ) (updates : Updates nodes nodes2 key None) (items : item_slots nodes4 ≡ item_slots nodes2) where
    abbrev before_cut : Listed T
    before_cut = listed nodes ends held_ends

    gone_is : (lane j : ℕ) → place_at nodes2 lane j ≡ placed key None (place_at nodes lane) j
    gone_is lane j = elim (cases_eq j key) [
      | inl q ↦ subst (λ (m : ℕ). place_at nodes2 lane m ≡ placed key None (place_at nodes lane) m) (sym q) (ap (place_in lane) updates.changed ∙ sym (placed_here (place_at nodes lane) key None))
      | inr d ↦ ap (place_in lane) (updates.others j d) ∙ sym (placed_other (place_at nodes lane) key None j d)
    ]

    pub unlink_shows : (p q : Option Place) → place_at nodes 0 key ≡ p → place_at nodes 1 key ≡ q → (ends2 held2 : List Ends)
        → ((j : ℕ) → place_at nodes3 0 j ≡ joined p (place_at nodes2 0) j) → ((j : ℕ) → place_at nodes3 1 j ≡ place_at nodes2 1 j) → ends2 ≡ ends_joined p ends
        → ((j : ℕ) → place_at nodes4 1 j ≡ joined q (place_at nodes3 1) j) → ((j : ℕ) → place_at nodes4 0 j ≡ place_at nodes3 0 j) → held2 ≡ ends_joined q held_ends
        → Shows nodes4 ends2 held2 (map (λ keys. without key keys) before_cut.lists) (map (λ keys. without key keys) before_cut.held)
    unlink_shows p q p_is q_is ends2 held2 places lanes e places2 lanes2 e2 =
        let cuts = λ (j : ℕ). (lanes2 j ∙ places j) ∙ joined_same p (place_at nodes2 0) (placed key None (place_at nodes 0)) j (gone_is 0 j) in
        let cuts2 = λ (j : ℕ). places2 j ∙ joined_same q (place_at nodes3 1) (placed key None (place_at nodes 1)) j (lanes j ∙ gone_is 1 j) in
        record {
          order = subst (λ (es : List Ends). Spells (place_at nodes4 0) es (map (λ keys. without key keys) before_cut.lists)) (sym e) (cut_is (place_at nodes 0) ends before_cut.lists sound.order key p p_is (place_at nodes4 0) cuts);
          held = subst (λ (es : List Ends). Spells (place_at nodes4 1) es (map (λ keys. without key keys) before_cut.held)) (sym e2) (cut_is (place_at nodes 1) held_ends before_cut.held sound.held key q q_is (place_at nodes4 1) cuts2);
          as_many = (ap length e2 ∙ joined_ends_length held_ends q (is_listed (place_at nodes 1) held_ends before_cut.held sound.held key q q_is))
              ∙ (sound.as_many ∙ sym (ap length e ∙ joined_ends_length ends p (is_listed (place_at nodes 0) ends before_cut.lists sound.order key p p_is)));
          all = all_by nodes2 nodes4 items (λ k live. subst IsSome (sym (ap list_of (cuts k) ∙ joined_list_is (placed key None (place_at nodes 0)) p k)) (cut_all k live (cases_eq k key)));
        } where
          cut_all : (k : ℕ) → IsSome (get nodes2 k) → (k ≡ key) ⊎ (k ≢ key) → IsSome (list_of (placed key None (place_at nodes 0) k))
          cut_all k live (inl r) = absurd (true≢false (sym (subst IsSome (ap (get nodes2) r ∙ updates.changed) live)))
          cut_all k live (inr d) = subst (λ (o : Option Place). IsSome (list_of o)) (sym (placed_other (place_at nodes 0) key None k d)) (sound.all k (subst IsSome (updates.others k d) live))

  -- ---- room

  pub room_sound : (nodes : Slab (Node T)) (ends held_ends : List Ends) → IsSound nodes ends held_ends → (nodes2 : Slab (Node T)) → nodes2 ≡ record nodes { capacity = nodes2.capacity } → IsSound nodes2 ends held_ends
  room_sound nodes ends held_ends sound nodes2 e =
      subst (λ (m : Slab (Node T)). IsSound m ends held_ends) (sym e) (record { order = sound.order; held = sound.held; as_many = sound.as_many; all = sound.all })

  pub room_kept : (nodes : Slab (Node T)) (ends held_ends : List Ends) (nodes2 : Slab (Node T)) → nodes2 ≡ record nodes { capacity = nodes2.capacity }
      → listed nodes2 ends held_ends ≡ record (listed nodes ends held_ends) { spare = (listed nodes2 ends held_ends).spare }
  room_kept nodes ends held_ends nodes2 e =
      subst (λ (m : Slab (Node T)). listed m ends held_ends ≡ record (listed nodes ends held_ends) { spare = (listed m ends held_ends).spare }) (sym e) refl

  -- ---- an item is written

  listed_is : (a b : Listed T) → a.items ≡ b.items → a.lists ≡ b.lists → a.held ≡ b.held → a.spare ≡ b.spare → a ≡ b
  listed_is a b e f g h = rw e (rw f (rw g (rw h refl)))

  module _ (nodes : Slab (Node T)) (ends held_ends : List Ends) (sound : IsSound nodes ends held_ends) (key : ℕ) (node : Node T) (found : get nodes key ≡ Some node) (w : T) where
    abbrev pub written : Slab (Node T)
    written = record nodes { slots = slice_set nodes.slots key (Some (record { item = w; places = node.places })) }

    written_places : (lane : ℕ) → map (place_in lane) written.slots ≡ map (place_in lane) nodes.slots
    written_places lane = map-set_same (place_in lane) nodes.slots key _ None (sym (ap (place_in lane) found))

    written_place : (lane j : ℕ) → place_at written lane j ≡ place_at nodes lane j
    written_place lane j = sym (map_at (place_in lane) written.slots j None) ∙ (ap (λ (ps : List (Option Place)). slice_index_or ps j None) (written_places lane) ∙ map_at (place_in lane) nodes.slots j None)

    written_some : map is_some written.slots ≡ map is_some nodes.slots
    written_some = map-set_same is_some nodes.slots key _ None (sym (ap is_some found))

    written_len : slab_len written ≡ slab_len nodes
    written_len = sym (count_map written.slots) ∙ (ap (λ (bs : List Bool). count_by (λ b. b) bs) written_some ∙ count_map nodes.slots)

    written_shows : Shows written ends held_ends (listed nodes ends held_ends).lists (listed nodes ends held_ends).held
    written_shows = record {
      order = spells_same (place_at nodes 0) ends (listed nodes ends held_ends).lists sound.order (place_at written 0) (written_place 0);
      held = spells_same (place_at nodes 1) held_ends (listed nodes ends held_ends).held sound.held (place_at written 1) (written_place 1);
      as_many = sound.as_many;
      all = λ k live. subst IsSome (sym (ap list_of (written_place 0 k))) (sound.all k (written_live k live));
    } where
      written_live : (k : ℕ) → IsSome (get written k) → IsSome (get nodes k)
      written_live k live = sym (map_at is_some nodes.slots k None) ∙ (sym (ap (λ (bs : List Bool). slice_index_or bs k false) written_some) ∙ (map_at is_some written.slots k None ∙ live))

    pub written_sound : IsSound written ends held_ends
    written_sound = sound_is written ends held_ends (listed nodes ends held_ends).lists (listed nodes ends held_ends).held written_shows

    pub written_is : listed written ends held_ends ≡ record (listed nodes ends held_ends) { items = slice_set (listed nodes ends held_ends).items key (Some w) }
    written_is =
        listed_is (listed written ends held_ends) (record (listed nodes ends held_ends) { items = slice_set (listed nodes ends held_ends).items key (Some w) })
        (map-set item_in nodes.slots key (Some (record { item = w; places = node.places })))
        (lists_are written ends held_ends (listed nodes ends held_ends).lists (listed nodes ends held_ends).held written_shows)
        (held_are written ends held_ends (listed nodes ends held_ends).lists (listed nodes ends held_ends).held written_shows)
        (ap (λ (n : ℕ). nodes.capacity - n) written_len)

  pub wider_shows : (nodes : Slab (Node T)) (ends held_ends : List Ends) → IsSound nodes ends held_ends → (n : ℕ) → (ends2 held2 : List Ends) → ends2 ≡ ends ++ replicate n no_ends → held2 ≡ held_ends ++ replicate n no_ends
      → Shows nodes ends2 held2 ((listed nodes ends held_ends).lists ++ replicate n []) ((listed nodes ends held_ends).held ++ replicate n [])
  wider_shows nodes ends held_ends sound n ends2 held2 e f = record {
    order = subst (λ (es : List Ends). Spells (place_at nodes 0) es ((listed nodes ends held_ends).lists ++ replicate n [])) (sym e) (spells_more (place_at nodes 0) ends (listed nodes ends held_ends).lists sound.order n);
    held = subst (λ (es : List Ends). Spells (place_at nodes 1) es ((listed nodes ends held_ends).held ++ replicate n [])) (sym f) (spells_more (place_at nodes 1) held_ends (listed nodes ends held_ends).held sound.held n);
    as_many = (ap length f ∙ grown_length held_ends n no_ends) ∙ (ap (λ (m : ℕ). m + n) sound.as_many ∙ sym (ap length e ∙ grown_length ends n no_ends));
    all = sound.all;
  }

  -- ---- nothing

  no_node : (nodes : Slab (Node T)) → nodes.slots ≡ [] → (key : ℕ) → get nodes key ≡ None
  no_node nodes e key = get_or_past nodes.slots key None (subst (λ (xs : List (Option (Node T))). length xs ≤ key) (sym e) (omega arith))

  nothing_spells : (nodes : Slab (Node T)) → nodes.slots ≡ [] → (lane n : ℕ) → Spells (place_at nodes lane) (replicate n no_ends) (replicate n [])
  nothing_spells nodes e lane n = spells_more (place_at nodes lane) [] [] (record {
    count = refl;
    chains = λ i lt. absurd (omega (arith, lt));
    distinct = λ i. subst Distinct (sym (get_or_past [] i [] (omega arith))) tt;
    listed = λ i k h. absurd (true≢false (sym h ∙ ap (λ (ks : List ℕ). has k ks) (get_or_past [] i [] (omega arith))));
    covers = λ i k q. absurd (none-some i (sym (ap (λ (o : Option (Node T)). list_of (place_in lane o)) (no_node nodes e k)) ∙ q));
  }) n

  pub nothing_shows : (nodes : Slab (Node T)) → nodes.slots ≡ [] → (n : ℕ) → (ends held_ends : List Ends) → ends ≡ replicate n no_ends → held_ends ≡ replicate n no_ends → Shows nodes ends held_ends (replicate n []) (replicate n [])
  nothing_shows nodes e n ends held_ends f g = record {
    order = subst (λ (es : List Ends). Spells (place_at nodes 0) es (replicate n [])) (sym f) (nothing_spells nodes e 0 n);
    held = subst (λ (es : List Ends). Spells (place_at nodes 1) es (replicate n [])) (sym g) (nothing_spells nodes e 1 n);
    as_many = ap length (g ∙ sym f);
    all = λ k live. absurd (true≢false (sym (subst IsSome (no_node nodes e k) live)));
  }

  -- ---- what is answered

  pub first_live : (nodes : Slab (Node T)) (lane : ℕ) (ends : List Ends) (lists : List (List ℕ)) → Spells (place_at nodes lane) ends lists → (l : ℕ) → l < length lists → (x : Ends) → x ≡ slice_index_or ends l x
      → (x.first ≡ first_of (list_at lists l)) × IfSome x.first (λ j. ContainsKey nodes j)
  first_live nodes lane ends lists s l within x is =
      let lt : l < length ends = subst (λ (m : ℕ). l < m) s.count within in
      let at : x.first ≡ (ends_at ends l).first = ap (λ (e : Ends). e.first) (is ∙ get_or_default ends l x no_ends lt) in (
        at ∙ first_is (place_at nodes lane) ends lists s l lt,
        if_some x.first (λ j. ContainsKey nodes j) (λ j q. listed_live nodes lane j l (first_listed (place_at nodes lane) ends lists s l lt j (sym at ∙ q))),
      )

  pub next_live : (nodes : Slab (Node T)) (ends held_ends : List Ends) → IsSound nodes ends held_ends → (key : ℕ) → ContainsKey nodes key → (p : Place) → place_at nodes 0 key ≡ Some p → IfSome p.next (λ j. ContainsKey nodes j)
  next_live nodes ends held_ends sound key live p is =
      let some = some_is (list_of (place_at nodes 0 key)) (sound.all key live) in
      if_some p.next (λ j. ContainsKey nodes j) (λ j q. listed_live nodes 0 j some.0 (next_listed (place_at nodes 0) ends (listed nodes ends held_ends).lists sound.order some.0 key some.1 j (ap next_of is ∙ q)))

  pub if_live : (nodes : Slab (Node T)) (ends held_ends : List Ends) (o : Option ℕ) → IfSome o (λ j. ContainsKey nodes j) → IfSome o (λ j. IsLive (listed nodes ends held_ends) j)
  if_live nodes ends held_ends None f = tt
  if_live nodes ends held_ends (Some j) f = is_live nodes j f

  -- a live node has a place in a list
  pub has_place : (nodes : Slab (Node T)) (ends held_ends : List Ends) → IsSound nodes ends held_ends → (key : ℕ) → ContainsKey nodes key → place_at nodes 0 key ≡ None → ⊥
  has_place nodes ends held_ends sound key live e = true≢false (sym (subst (λ (o : Option Place). IsSome (list_of o)) e (sound.all key live)))
