-- What places and ends spell after a key is cut out or put in.
use Rattle.std.proofs.Common.{◌≡◌, ◌≢◌, ℕ, zero, suc, ◌<◌, ◌≤◌, ◌==◌, ◌⊎◌, Bool, true, false, if◌then◌else◌, List, [], ◌∷◌, length, map, Option, None, Some, inl, inr, sym, ap, ◌∙◌, subst, refl, arith, slice_set}
use Rattle.std.proofs.lemmas.Bool.{true≢false, cases_lt, cases_eq}
use Rattle.std.proofs.lemmas.Option.{none-some}
use Rattle.std.proofs.lemmas.List.{length-set, length-map, get_or-set_same, get_or-set_other, get_or_past, get_or-map, ext_get_or}
use Rattle.std.proofs.Math.ListN.{get_or-map as map_at}
use Rattle.node_list.specs.declared.links.Place.{Place}
use Rattle.node_list.specs.declared.links.Ends.{Ends}
use Rattle.node_list.specs.Keys.{has, Distinct, without, list_at}
use Rattle.node_list.specs.Links.{next_of, previous_of, list_of, no_ends, ends_at, after, before, Chain, Spells, walk, walks, placed, next_by, previous_by, with_next, first_set, with_previous, last_set, joined, ends_joined, put_in, ends_put}
use Rattle.node_list.proofs.Keys.{same, apart, here, other, without_absent, has_without, has_out, from_without, distinct_without, few, put_at, is_spot, in_put, has_put, distinct_put}
use Rattle.node_list.proofs.Chains.{key_in, off_none, before_in, after_in, previous_apart, next_apart, chain_same, IsCut, cut_chain, IsPut, put_chain}

-- ---- changes of a place

pub next_list : (n : Option ℕ) (p : Option Place) → list_of (next_by n p) ≡ list_of p
next_list n None = refl
next_list n (Some p) = refl

next_previous : (n : Option ℕ) (p : Option Place) → previous_of (next_by n p) ≡ previous_of p
next_previous n None = refl
next_previous n (Some p) = refl

next_is : (n : Option ℕ) (i : ℕ) (p : Option Place) → list_of p ≡ Some i → next_of (next_by n p) ≡ n
next_is n i None e = absurd (none-some i e)
next_is n i (Some p) e = refl

previous_list : (n : Option ℕ) (p : Option Place) → list_of (previous_by n p) ≡ list_of p
previous_list n None = refl
previous_list n (Some p) = refl

previous_next : (n : Option ℕ) (p : Option Place) → next_of (previous_by n p) ≡ next_of p
previous_next n None = refl
previous_next n (Some p) = refl

previous_is : (n : Option ℕ) (i : ℕ) (p : Option Place) → list_of p ≡ Some i → previous_of (previous_by n p) ≡ n
previous_is n i None e = absurd (none-some i e)
previous_is n i (Some p) e = refl

if_same : {A : Type 0} (P : A → Type 0) (b : Bool) (x y : A) → P x → P y → P (if b then x else y)
if_same P true x y p q = p
if_same P false x y p q = q

module _ (g : ℕ → Option Place) where
  pub placed_here : (key : ℕ) (p : Option Place) → placed key p g key ≡ p
  placed_here key p = ap (λ (b : Bool). if b then p else g key) (same key)

  pub placed_other : (key : ℕ) (p : Option Place) (j : ℕ) → j ≢ key → placed key p g j ≡ g j
  placed_other key p j d = ap (λ (b : Bool). if b then p else g j) (apart j key d)

  wn_list : (spot n : Option ℕ) (j : ℕ) → list_of (with_next spot n g j) ≡ list_of (g j)
  wn_list None n j = refl
  wn_list (Some k) n j = if_same (λ p. list_of p ≡ list_of (g j)) (j == k) (next_by n (g j)) (g j) (next_list n (g j)) refl

  wn_previous : (spot n : Option ℕ) (j : ℕ) → previous_of (with_next spot n g j) ≡ previous_of (g j)
  wn_previous None n j = refl
  wn_previous (Some k) n j = if_same (λ p. previous_of p ≡ previous_of (g j)) (j == k) (next_by n (g j)) (g j) (next_previous n (g j)) refl

  wn_other : (spot n : Option ℕ) (j : ℕ) → spot ≢ Some j → with_next spot n g j ≡ g j
  wn_other None n j d = refl
  wn_other (Some k) n j d = ap (λ (b : Bool). if b then next_by n (g j) else g j) (apart j k (λ e. d (ap (λ (i : ℕ). Some i) (sym e))))

  wn_here : (k : ℕ) (n : Option ℕ) → with_next (Some k) n g k ≡ next_by n (g k)
  wn_here k n = ap (λ (b : Bool). if b then next_by n (g k) else g k) (same k)

  wp_list : (spot n : Option ℕ) (j : ℕ) → list_of (with_previous spot n g j) ≡ list_of (g j)
  wp_list None n j = refl
  wp_list (Some k) n j = if_same (λ p. list_of p ≡ list_of (g j)) (j == k) (previous_by n (g j)) (g j) (previous_list n (g j)) refl

  wp_next : (spot n : Option ℕ) (j : ℕ) → next_of (with_previous spot n g j) ≡ next_of (g j)
  wp_next None n j = refl
  wp_next (Some k) n j = if_same (λ p. next_of p ≡ next_of (g j)) (j == k) (previous_by n (g j)) (g j) (previous_next n (g j)) refl

  wp_other : (spot n : Option ℕ) (j : ℕ) → spot ≢ Some j → with_previous spot n g j ≡ g j
  wp_other None n j d = refl
  wp_other (Some k) n j d = ap (λ (b : Bool). if b then previous_by n (g j) else g j) (apart j k (λ e. d (ap (λ (i : ℕ). Some i) (sym e))))

  wp_here : (k : ℕ) (n : Option ℕ) → with_previous (Some k) n g k ≡ previous_by n (g k)
  wp_here k n = ap (λ (b : Bool). if b then previous_by n (g k) else g k) (same k)

-- the list of a place stays where its neighbours change
pub put_list_is : (f : ℕ → Option Place) (key : ℕ) (p : Place) (j : ℕ) → list_of (put_in key p f j) ≡ list_of (placed key (Some p) f j)
put_list_is f key p j = wp_list (with_next p.previous (Some key) (placed key (Some p) f)) p.next (Some key) j ∙ wn_list (placed key (Some p) f) p.previous (Some key) j

pub joined_list_is : (f : ℕ → Option Place) (p : Option Place) (j : ℕ) → list_of (joined p f j) ≡ list_of (f j)
joined_list_is f None j = refl
joined_list_is f (Some p) j = wp_list (with_next p.previous p.next f) p.next p.previous j ∙ wn_list f p.previous p.next j

-- ---- changes of the ends

module _ (ends : List Ends) (l : ℕ) (lt : l < length ends) where
  set_first : (n : Option ℕ) → ends_at (first_set ends l None n) l ≡ record { first = n; last = (ends_at ends l).last }
  set_first n = get_or-set_same ends l _ no_ends lt

  set_last : (n : Option ℕ) → ends_at (last_set ends l None n) l ≡ record { first = (ends_at ends l).first; last = n }
  set_last n = get_or-set_same ends l _ no_ends lt

  first_far : (spot n : Option ℕ) (i : ℕ) → i ≢ l → ends_at (first_set ends l spot n) i ≡ ends_at ends i
  first_far None n i d = get_or-set_other ends l i _ no_ends d
  first_far (Some k) n i d = refl

  last_far : (spot n : Option ℕ) (i : ℕ) → i ≢ l → ends_at (last_set ends l spot n) i ≡ ends_at ends i
  last_far None n i d = get_or-set_other ends l i _ no_ends d
  last_far (Some k) n i d = refl

  first_length : (spot n : Option ℕ) → length (first_set ends l spot n) ≡ length ends
  first_length None n = length-set ends l _
  first_length (Some k) n = refl

  last_length : (spot n : Option ℕ) → length (last_set ends l spot n) ≡ length ends
  last_length None n = length-set ends l _
  last_length (Some k) n = refl

  first_last : (spot n : Option ℕ) → (ends_at (first_set ends l spot n) l).last ≡ (ends_at ends l).last
  first_last None n = ap (λ (e : Ends). e.last) (set_first n)
  first_last (Some k) n = refl

  last_first : (spot n : Option ℕ) → (ends_at (last_set ends l spot n) l).first ≡ (ends_at ends l).first
  last_first None n = ap (λ (e : Ends). e.first) (set_last n)
  last_first (Some k) n = refl

pub set_length : (ends : List Ends) (l : ℕ) → l < length ends → (spot spot2 n n2 : Option ℕ) → length (last_set (first_set ends l spot n) l spot2 n2) ≡ length ends
set_length ends l lt spot spot2 n n2 =
    last_length (first_set ends l spot n) l (subst (λ (m : ℕ). l < m) (sym (first_length ends l lt spot n)) lt) spot2 n2 ∙ first_length ends l lt spot n

-- ---- two spots of a list linked anew

module _ (g : ℕ → Option Place) (ends : List Ends) (l : ℕ) (lt : l < length ends) (P N n p : Option ℕ)
    (there_P : (k : ℕ) → P ≡ Some k → list_of (g k) ≡ Some l) (there_N : (k : ℕ) → N ≡ Some k → list_of (g k) ≡ Some l) where
  abbrev pub places : ℕ → Option Place
  places = with_previous N p (with_next P n g)

  abbrev pub both_ends : List Ends
  both_ends = last_set (first_set ends l P n) l N p

  lt_first : l < length (first_set ends l P n)
  lt_first = subst (λ (m : ℕ). l < m) (sym (first_length ends l lt P n)) lt

  pub both_length : length both_ends ≡ length ends
  both_length = last_length (first_set ends l P n) l lt_first N p ∙ first_length ends l lt P n

  pub both_list : (j : ℕ) → list_of (places j) ≡ list_of (g j)
  both_list j = wp_list (with_next P n g) N p j ∙ wn_list g P n j

  next_here_go : (P2 : Option ℕ) → P ≡ P2 → after (with_next P2 n g) (first_set ends l P2 n) l P2 ≡ n
  next_here_go None e = ap (λ (x : Ends). x.first) (set_first ends l lt n)
  next_here_go (Some k) e = ap next_of (wn_here g k n) ∙ next_is n l (g k) (there_P k e)

  after_same : (x : Option ℕ) → after places both_ends l x ≡ after (with_next P n g) (first_set ends l P n) l x
  after_same None = last_first (first_set ends l P n) l lt_first N p
  after_same (Some k) = wp_next (with_next P n g) N p k

  pub next_here : after places both_ends l P ≡ n
  next_here = after_same P ∙ next_here_go P refl

  next_first : (P2 : Option ℕ) → None ≢ P2 → (ends_at (first_set ends l P2 n) l).first ≡ (ends_at ends l).first
  next_first None d = absurd (d refl)
  next_first (Some k) d = refl

  next_other_go : (x : Option ℕ) → x ≢ P → after (with_next P n g) (first_set ends l P n) l x ≡ after g ends l x
  next_other_go None d = next_first P d
  next_other_go (Some k) d = ap next_of (wn_other g P n k (λ e. d (sym e)))

  pub next_other : (x : Option ℕ) → x ≢ P → after places both_ends l x ≡ after g ends l x
  next_other x d = after_same x ∙ next_other_go x d

  before_same : (x : Option ℕ) → before (with_next P n g) (first_set ends l P n) l x ≡ before g ends l x
  before_same None = first_last ends l lt P n
  before_same (Some k) = wn_previous g P n k

  previous_here_go : (N2 : Option ℕ) → N ≡ N2 → before (with_previous N2 p (with_next P n g)) (last_set (first_set ends l P n) l N2 p) l N2 ≡ p
  previous_here_go None e = ap (λ (x : Ends). x.last) (set_last (first_set ends l P n) l lt_first p)
  previous_here_go (Some k) e = ap previous_of (wp_here (with_next P n g) k p) ∙ previous_is p l (with_next P n g k) (wn_list g P n k ∙ there_N k e)

  pub previous_here : before places both_ends l N ≡ p
  previous_here = previous_here_go N refl

  previous_last : (N2 : Option ℕ) → None ≢ N2 → (ends_at (last_set (first_set ends l P n) l N2 p) l).last ≡ (ends_at (first_set ends l P n) l).last
  previous_last None d = absurd (d refl)
  previous_last (Some k) d = refl

  previous_other_go : (x : Option ℕ) → x ≢ N → before places both_ends l x ≡ before (with_next P n g) (first_set ends l P n) l x
  previous_other_go None d = previous_last N d
  previous_other_go (Some k) d = ap previous_of (wp_other (with_next P n g) N p k (λ e. d (sym e)))

  pub previous_other : (x : Option ℕ) → x ≢ N → before places both_ends l x ≡ before g ends l x
  previous_other x d = previous_other_go x d ∙ before_same x

  -- another list
  module _ (i : ℕ) (d : i ≢ l) where
    pub far_ends : ends_at both_ends i ≡ ends_at ends i
    far_ends = last_far (first_set ends l P n) l lt_first N p i d ∙ first_far ends l lt P n i d

    pub far_place : (k : ℕ) → list_of (g k) ≡ Some i → places k ≡ g k
    far_place k e =
        wp_other (with_next P n g) N p k (λ q. d (ap key_in (sym e ∙ there_N k q)))
        ∙ wn_other g P n k (λ q. d (ap key_in (sym e ∙ there_P k q)))

    pub far_chain : (f : ℕ → Option Place) (keys : List ℕ) → ((k : ℕ) → has k keys ≡ true → list_of (f k) ≡ Some i) → ((k : ℕ) → has k keys ≡ true → g k ≡ f k)
        → Chain (after f ends i) (before f ends i) None keys → Chain (after places both_ends i) (before places both_ends i) None keys
    far_chain f keys listed eq c =
        let at = λ (k : ℕ) (h : has k keys ≡ true). far_place k (ap list_of (eq k h) ∙ listed k h) ∙ eq k h in
        chain_same (after f ends i) (before f ends i) (after places both_ends i) (before places both_ends i) None keys c
        (ap (λ (x : Ends). x.first) far_ends) (λ k h. ap next_of (at k h))
        (ap (λ (x : Ends). x.last) far_ends) (λ k h. ap previous_of (at k h))

-- ---- what is spelled

bool_false : (b : Bool) → (b ≡ true → ⊥) → b ≡ false
bool_false true f = absurd (f refl)
bool_false false f = refl

module _ (f : ℕ → Option Place) (ends : List Ends) (lists : List (List ℕ)) (s : Spells f ends lists) where
  pub in_bound : (l key : ℕ) → has key (list_at lists l) ≡ true → l < length ends
  in_bound l key h = elim (cases_lt l (length lists)) [
    | inl lt ↦ subst (λ (m : ℕ). l < m) s.count lt
    | inr ge ↦ absurd (true≢false (sym h ∙ ap (λ (ks : List ℕ). has key ks) (get_or_past lists l [] ge)))
  ]

  pub listed_below : (l key : ℕ) → list_of (f key) ≡ Some l → l < length ends
  listed_below l key e = in_bound l key (s.covers l key e)

  -- a key with no place is in no list
  pub in_none : (key : ℕ) → f key ≡ None → (l : ℕ) → has key (list_at lists l) ≡ false
  in_none key e l = bool_false (has key (list_at lists l)) (λ h. none-some l (sym (ap list_of e) ∙ s.listed l key h))

  -- a key is in one list only
  pub in_one : (key l i : ℕ) → list_of (f key) ≡ Some l → i ≢ l → has key (list_at lists i) ≡ false
  in_one key l i e d = bool_false (has key (list_at lists i)) (λ h. d (ap key_in (sym (s.listed i key h) ∙ e)))

  pub spells_same : (f2 : ℕ → Option Place) → ((j : ℕ) → f2 j ≡ f j) → Spells f2 ends lists
  spells_same f2 eq = record {
    count = s.count;
    chains = λ i lt. chain_same (after f ends i) (before f ends i) (after f2 ends i) (before f2 ends i) None (list_at lists i) (s.chains i lt) refl (λ k h. ap next_of (eq k)) refl (λ k h. ap previous_of (eq k));
    distinct = s.distinct;
    listed = λ i k h. ap list_of (eq k) ∙ s.listed i k h;
    covers = λ i k e. s.covers i k (sym (ap list_of (eq k)) ∙ e);
  }

  -- the next one and the first one are of the same list
  pub next_listed : (l key : ℕ) → list_of (f key) ≡ Some l → (j : ℕ) → next_of (f key) ≡ Some j → list_of (f j) ≡ Some l
  next_listed l key e j q =
      after_in (after f ends l) (before f ends l) (λ x. (i : ℕ) → x ≡ Some i → list_of (f i) ≡ Some l) None (list_at lists l) key (s.chains l (listed_below l key e)) (s.covers l key e)
      (λ i r. absurd (none-some i r)) (λ k h i r. subst (λ (m : ℕ). list_of (f m) ≡ Some l) (ap key_in r) (s.listed l k h)) j q

  first_go : (l : ℕ) (keys : List ℕ) → Chain (after f ends l) (before f ends l) None keys → ((k : ℕ) → has k keys ≡ true → list_of (f k) ≡ Some l) → (j : ℕ) → (ends_at ends l).first ≡ Some j → list_of (f j) ≡ Some l
  first_go l [] c all j e = absurd (none-some j (sym c.0 ∙ e))
  first_go l (k ∷ keys) c all j e = subst (λ (m : ℕ). list_of (f m) ≡ Some l) (ap key_in (sym c.0 ∙ e)) (all k (here k keys))

  pub first_listed : (l : ℕ) → l < length ends → (j : ℕ) → (ends_at ends l).first ≡ Some j → list_of (f j) ≡ Some l
  first_listed l lt j e = first_go l (list_at lists l) (s.chains l lt) (s.listed l) j e

  -- ---- a key is cut out

  module _ (key : ℕ) (place : Place) (e : f key ≡ Some place) where
    abbrev pub cut_lists : List (List ℕ)
    cut_lists = map (λ keys. without key keys) lists

    cut_at : (i : ℕ) → list_at cut_lists i ≡ without key (list_at lists i)
    cut_at i = map_at (λ keys. without key keys) lists i []

    cut_in : has key (list_at lists place.list) ≡ true
    cut_in = s.covers place.list key (ap list_of e)

    cut_lt : place.list < length ends
    cut_lt = in_bound place.list key cut_in

    cut_links : Chain (after f ends place.list) (before f ends place.list) None (list_at lists place.list)
    cut_links = s.chains place.list cut_lt

    abbrev gone : ℕ → Option Place
    gone = placed key None f

    cut_previous : (k : ℕ) → place.previous ≡ Some k → list_of (gone k) ≡ Some place.list
    cut_previous k q =
        let is = ap previous_of e in
        let ne : k ≢ key = λ r. previous_apart (after f ends place.list) (before f ends place.list) None (list_at lists place.list) key cut_links (s.distinct place.list) (off_none (list_at lists place.list)) cut_in ((is ∙ q) ∙ ap (λ (j : ℕ). Some j) r) in
        ap list_of (placed_other f key None k ne)
        ∙ before_in (after f ends place.list) (before f ends place.list) (λ x. (j : ℕ) → x ≡ Some j → list_of (f j) ≡ Some place.list) None (list_at lists place.list) (Some key) cut_links cut_in
        (λ j r. absurd (none-some j r)) (λ j h i r. subst (λ (m : ℕ). list_of (f m) ≡ Some place.list) (ap key_in r) (s.listed place.list j h)) k (is ∙ q)

    cut_next : (k : ℕ) → place.next ≡ Some k → list_of (gone k) ≡ Some place.list
    cut_next k q =
        let is = ap next_of e in
        let ne : k ≢ key = λ r. next_apart (after f ends place.list) (before f ends place.list) None (list_at lists place.list) key cut_links (s.distinct place.list) cut_in ((is ∙ q) ∙ ap (λ (j : ℕ). Some j) r) in
        ap list_of (placed_other f key None k ne)
        ∙ after_in (after f ends place.list) (before f ends place.list) (λ x. (j : ℕ) → x ≡ Some j → list_of (f j) ≡ Some place.list) None (list_at lists place.list) key cut_links cut_in
        (λ j r. absurd (none-some j r)) (λ j h i r. subst (λ (m : ℕ). list_of (f m) ≡ Some place.list) (ap key_in r) (s.listed place.list j h)) k (is ∙ q)

    abbrev cut_f : ℕ → Option Place
    cut_f = joined (Some place) gone

    abbrev cut_ends : List Ends
    cut_ends = ends_joined (Some place) ends

    gone_after : (x : Option ℕ) → x ≢ Some key → after gone ends place.list x ≡ after f ends place.list x
    gone_after None d = refl
    gone_after (Some k) d = ap next_of (placed_other f key None k (λ r. d (ap (λ (j : ℕ). Some j) r)))

    gone_before : (x : Option ℕ) → x ≢ Some key → before gone ends place.list x ≡ before f ends place.list x
    gone_before None d = refl
    gone_before (Some k) d = ap previous_of (placed_other f key None k (λ r. d (ap (λ (j : ℕ). Some j) r)))

    is_cut : IsCut (after f ends place.list) (before f ends place.list) (after cut_f cut_ends place.list) (before cut_f cut_ends place.list) key
    is_cut =
        let P = ap previous_of e in
        let N = ap next_of e in
        record {
          skips = ap (after cut_f cut_ends place.list) P ∙ (next_here gone ends place.list cut_lt place.previous place.next place.next place.previous cut_previous cut_next ∙ sym N);
          back = ap (before cut_f cut_ends place.list) N ∙ (previous_here gone ends place.list cut_lt place.previous place.next place.next place.previous cut_previous cut_next ∙ sym P);
          nexts = λ x d ne. next_other gone ends place.list cut_lt place.previous place.next place.next place.previous cut_previous cut_next x (λ q. d (q ∙ sym P)) ∙ gone_after x ne;
          previouses = λ x d ne. previous_other gone ends place.list cut_lt place.previous place.next place.next place.previous cut_previous cut_next x (λ q. d (q ∙ sym N)) ∙ gone_before x ne;
        }

    cut_lists_at : (i : ℕ) → i < length ends → Chain (after cut_f cut_ends i) (before cut_f cut_ends i) None (without key (list_at lists i))
    cut_lists_at i lt = elim (cases_eq place.list i) [
      | inl q ↦ subst (λ (m : ℕ). Chain (after cut_f cut_ends m) (before cut_f cut_ends m) None (without key (list_at lists m))) q
          (cut_chain (after f ends place.list) (before f ends place.list) (after cut_f cut_ends place.list) (before cut_f cut_ends place.list) key is_cut None (list_at lists place.list) (s.distinct place.list) (off_none (list_at lists place.list)) (none-some key) cut_in cut_links)
      | inr d ↦ let n = in_one key place.list i (ap list_of e) (λ q. d (sym q)) in
          subst (Chain (after cut_f cut_ends i) (before cut_f cut_ends i) None) (sym (without_absent key (list_at lists i) n))
          (far_chain gone ends place.list cut_lt place.previous place.next place.next place.previous cut_previous cut_next i (λ q. d (sym q)) f (list_at lists i) (s.listed i)
          (λ k h. placed_other f key None k (other k key (list_at lists i) h n)) (s.chains i lt))
    ]

    cut_list : (j : ℕ) → list_of (cut_f j) ≡ list_of (gone j)
    cut_list j = both_list gone ends place.list cut_lt place.previous place.next place.next place.previous cut_previous cut_next j

    cut_listed : (i k : ℕ) → has k (without key (list_at lists i)) ≡ true → list_of (cut_f k) ≡ Some i
    cut_listed i k h =
        cut_list k ∙ (ap list_of (placed_other f key None k (other k key (without key (list_at lists i)) h (has_out key (list_at lists i)))) ∙ s.listed i k (from_without k key (list_at lists i) h))

    cut_covers : (i k : ℕ) → list_of (cut_f k) ≡ Some i → has k (without key (list_at lists i)) ≡ true
    cut_covers i k q =
        let q2 = sym (cut_list k) ∙ q in
        let ne : k ≢ key = λ r. none-some i (sym (ap (λ (m : ℕ). list_of (gone m)) r ∙ ap list_of (placed_here f key None)) ∙ q2) in
        has_without k key (list_at lists i) ne ∙ s.covers i k (sym (ap list_of (placed_other f key None k ne)) ∙ q2)

    pub cut_spells : Spells cut_f cut_ends cut_lists
    cut_spells = record {
      count = length-map lists (λ keys. without key keys) ∙ (s.count ∙ sym (both_length gone ends place.list cut_lt place.previous place.next place.next place.previous cut_previous cut_next));
      chains = λ i lt. subst (Chain (after cut_f cut_ends i) (before cut_f cut_ends i) None) (sym (cut_at i)) (cut_lists_at i (subst (λ (m : ℕ). i < m) (both_length gone ends place.list cut_lt place.previous place.next place.next place.previous cut_previous cut_next) lt));
      distinct = λ i. subst Distinct (sym (cut_at i)) (distinct_without key (list_at lists i) (s.distinct i));
      listed = λ i k h. cut_listed i k (sym (ap (λ (ks : List ℕ). has k ks) (cut_at i)) ∙ h);
      covers = λ i k q. ap (λ (ks : List ℕ). has k ks) (cut_at i) ∙ cut_covers i k q;
    }

  -- a key that is in no list, and has no place
  pub none_lists : (key : ℕ) → ((i : ℕ) → has key (list_at lists i) ≡ false) → map (λ keys. without key keys) lists ≡ lists
  none_lists key n =
      ext_get_or [] (map (λ keys. without key keys) lists) lists (length-map lists (λ keys. without key keys))
      (λ i lt. map_at (λ keys. without key keys) lists i [] ∙ without_absent key (list_at lists i) (n i))

  pub none_spells : (key : ℕ) → f key ≡ None → Spells (placed key None f) ends (map (λ keys. without key keys) lists)
  none_spells key e =
      subst (Spells (placed key None f) ends) (sym (none_lists key (in_none key e)))
      (spells_same (placed key None f) (λ j. gone_go j (cases_eq j key))) where
        gone_go : (j : ℕ) → (j ≡ key) ⊎ (j ≢ key) → placed key None f j ≡ f j
        gone_go j (inl q) = ap (placed key None f) q ∙ (placed_here f key None ∙ (sym e ∙ ap f (sym q)))
        gone_go j (inr d) = placed_other f key None j d

  -- ---- a key is put in before a spot

  module _ (key : ℕ) (e : f key ≡ None) (l : ℕ) (lt : l < length ends) (spot : Option ℕ) (on : is_spot spot (list_at lists l) ≡ true) where
    abbrev pub new_place : Place
    new_place = record { list = l; previous = before f ends l spot; next = spot }

    abbrev pub put_lists : List (List ℕ)
    put_lists = slice_set lists l (put_at spot key (list_at lists l))

    abbrev come : ℕ → Option Place
    come = placed key (Some new_place) f

    put_links : Chain (after f ends l) (before f ends l) None (list_at lists l)
    put_links = s.chains l lt

    put_absent : (i : ℕ) → has key (list_at lists i) ≡ false
    put_absent = in_none key e

    come_listed : (i k : ℕ) → has k (list_at lists i) ≡ true → come k ≡ f k
    come_listed i k h = placed_other f key (Some new_place) k (other k key (list_at lists i) h (put_absent i))

    put_previous : (k : ℕ) → before f ends l spot ≡ Some k → list_of (come k) ≡ Some l
    put_previous k q =
        before_in (after f ends l) (before f ends l) (λ x. (j : ℕ) → x ≡ Some j → list_of (come j) ≡ Some l) None (list_at lists l) spot put_links on
        (λ j r. absurd (none-some j r)) (λ j h i r. subst (λ (m : ℕ). list_of (come m) ≡ Some l) (ap key_in r) (ap list_of (come_listed l j h) ∙ s.listed l j h)) k q

    put_next : (k : ℕ) → spot ≡ Some k → list_of (come k) ≡ Some l
    put_next k q =
        let h : has k (list_at lists l) ≡ true = subst (λ (x : Option ℕ). is_spot x (list_at lists l) ≡ true) q on in
        ap list_of (come_listed l k h) ∙ s.listed l k h

    abbrev pub put_f : ℕ → Option Place
    put_f = put_in key new_place f

    abbrev pub new_ends : List Ends
    new_ends = ends_put key new_place ends

    come_after : (x : Option ℕ) → x ≢ Some key → after come ends l x ≡ after f ends l x
    come_after None d = refl
    come_after (Some k) d = ap next_of (placed_other f key (Some new_place) k (λ r. d (ap (λ (j : ℕ). Some j) r)))

    come_before : (x : Option ℕ) → x ≢ Some key → before come ends l x ≡ before f ends l x
    come_before None d = refl
    come_before (Some k) d = ap previous_of (placed_other f key (Some new_place) k (λ r. d (ap (λ (j : ℕ). Some j) r)))

    spot_apart : Some key ≢ spot
    spot_apart q = true≢false (sym (subst (λ (x : Option ℕ). is_spot x (list_at lists l) ≡ true) (sym q) on) ∙ put_absent l)

    before_apart : Some key ≢ before f ends l spot
    before_apart q = none-some l (sym (ap list_of e) ∙ before_listed (sym q)) where
      before_listed : before f ends l spot ≡ Some key → list_of (f key) ≡ Some l
      before_listed r =
          before_in (after f ends l) (before f ends l) (λ x. (j : ℕ) → x ≡ Some j → list_of (f j) ≡ Some l) None (list_at lists l) spot put_links on
          (λ j q. absurd (none-some j q)) (λ j h i q. subst (λ (m : ℕ). list_of (f m) ≡ Some l) (ap key_in q) (s.listed l j h)) key r

    is_put : IsPut (after f ends l) (before f ends l) (after put_f new_ends l) (before put_f new_ends l) spot key
    is_put = record {
      before_it = next_here come ends l lt (before f ends l spot) spot (Some key) (Some key) put_previous put_next;
      its_previous = previous_other come ends l lt (before f ends l spot) spot (Some key) (Some key) put_previous put_next (Some key) spot_apart ∙ ap previous_of (placed_here f key (Some new_place));
      its_next = next_other come ends l lt (before f ends l spot) spot (Some key) (Some key) put_previous put_next (Some key) before_apart ∙ ap next_of (placed_here f key (Some new_place));
      after_it = previous_here come ends l lt (before f ends l spot) spot (Some key) (Some key) put_previous put_next;
      nexts = λ x d ne. next_other come ends l lt (before f ends l spot) spot (Some key) (Some key) put_previous put_next x d ∙ come_after x ne;
      previouses = λ x d ne. previous_other come ends l lt (before f ends l spot) spot (Some key) (Some key) put_previous put_next x d ∙ come_before x ne;
    }

    put_here : list_at put_lists l ≡ put_at spot key (list_at lists l)
    put_here = get_or-set_same lists l _ [] (subst (λ (m : ℕ). l < m) (sym s.count) lt)

    put_far : (i : ℕ) → i ≢ l → list_at put_lists i ≡ list_at lists i
    put_far i d = get_or-set_other lists l i _ [] d

    put_lists_at : (i : ℕ) → i < length ends → Chain (after put_f new_ends i) (before put_f new_ends i) None (list_at put_lists i)
    put_lists_at i less = elim (cases_eq l i) [
      | inl q ↦ subst (λ (m : ℕ). Chain (after put_f new_ends m) (before put_f new_ends m) None (list_at put_lists m)) q
          (subst (Chain (after put_f new_ends l) (before put_f new_ends l) None) (sym put_here)
          (put_chain (after f ends l) (before f ends l) (after put_f new_ends l) (before put_f new_ends l) spot key is_put None (list_at lists l) (s.distinct l) (off_none (list_at lists l)) (none-some key) (put_absent l) on put_links))
      | inr d ↦
          subst (Chain (after put_f new_ends i) (before put_f new_ends i) None) (sym (put_far i (λ q. d (sym q))))
          (far_chain come ends l lt (before f ends l spot) spot (Some key) (Some key) put_previous put_next i (λ q. d (sym q)) f (list_at lists i) (s.listed i)
          (come_listed i) (s.chains i less))
    ]

    put_list : (j : ℕ) → list_of (put_f j) ≡ list_of (come j)
    put_list j = both_list come ends l lt (before f ends l spot) spot (Some key) (Some key) put_previous put_next j

    put_length : length new_ends ≡ length ends
    put_length = both_length come ends l lt (before f ends l spot) spot (Some key) (Some key) put_previous put_next

    put_distinct : (i : ℕ) → Distinct (list_at put_lists i)
    put_distinct i = elim (cases_eq l i) [
      | inl q ↦ subst (λ (m : ℕ). Distinct (list_at put_lists m)) q (subst Distinct (sym put_here) (distinct_put spot key (list_at lists l) (put_absent l) (s.distinct l)))
      | inr d ↦ subst Distinct (sym (put_far i (λ q. d (sym q)))) (s.distinct i)
    ]

    put_listed : (i k : ℕ) → has k (list_at put_lists i) ≡ true → list_of (put_f k) ≡ Some i
    put_listed i k h = elim (cases_eq l i) [
      | inl q ↦ elim (cases_eq k key) [
        | inl r ↦ put_list k ∙ (ap (λ (m : ℕ). list_of (come m)) r ∙ (ap list_of (placed_here f key (Some new_place)) ∙ ap (λ (m : ℕ). Some m) q))
        | inr n ↦
            let h2 : has k (list_at lists l) ≡ true = sym (has_put spot key k (list_at lists l) n) ∙ (sym (ap (λ (ks : List ℕ). has k ks) put_here) ∙ (ap (λ (m : ℕ). has k (list_at put_lists m)) q ∙ h)) in
            put_list k ∙ (ap list_of (come_listed l k h2) ∙ (s.listed l k h2 ∙ ap (λ (m : ℕ). Some m) q))
      ]
      | inr d ↦
          let h2 : has k (list_at lists i) ≡ true = sym (ap (λ (ks : List ℕ). has k ks) (put_far i (λ q. d (sym q)))) ∙ h in
          put_list k ∙ (ap list_of (come_listed i k h2) ∙ s.listed i k h2)
    ]

    put_covers : (i k : ℕ) → list_of (put_f k) ≡ Some i → has k (list_at put_lists i) ≡ true
    put_covers i k q = elim (cases_eq k key) [
      | inl r ↦
          let il : l ≡ i = ap key_in (sym (ap (λ (m : ℕ). list_of (come m)) r ∙ ap list_of (placed_here f key (Some new_place))) ∙ (sym (put_list k) ∙ q)) in
          subst (λ (m : ℕ). has k (list_at put_lists m) ≡ true) il
          (ap (λ (m : ℕ). has m (list_at put_lists l)) r ∙ (ap (λ (ks : List ℕ). has key ks) put_here ∙ in_put spot key (list_at lists l) on))
      | inr n ↦
          let h : has k (list_at lists i) ≡ true = s.covers i k (sym (ap list_of (placed_other f key (Some new_place) k n)) ∙ (sym (put_list k) ∙ q)) in
          elim (cases_eq l i) [
            | inl il ↦ subst (λ (m : ℕ). has k (list_at put_lists m) ≡ true) il
                (ap (λ (ks : List ℕ). has k ks) put_here ∙ (has_put spot key k (list_at lists l) n ∙ (ap (λ (m : ℕ). has k (list_at lists m)) il ∙ h)))
            | inr d ↦ ap (λ (ks : List ℕ). has k ks) (put_far i (λ r. d (sym r))) ∙ h
          ]
    ]

    pub put_spells : Spells put_f new_ends put_lists
    put_spells = record {
      count = length-set lists l (put_at spot key (list_at lists l)) ∙ (s.count ∙ sym put_length);
      chains = λ i less. put_lists_at i (subst (λ (m : ℕ). i < m) put_length less);
      distinct = put_distinct;
      listed = put_listed;
      covers = put_covers;
    }

  -- ---- the walks

  walk_none : (fuel : ℕ) → walk fuel f None ≡ []
  walk_none zero = refl
  walk_none (suc fuel) = refl

  walk_is : (i fuel : ℕ) (from : Option ℕ) (keys : List ℕ) → Chain (after f ends i) (before f ends i) from keys → length keys ≤ fuel → walk fuel f (after f ends i from) ≡ keys
  walk_is i fuel from [] c le = ap (walk fuel f) c.0 ∙ walk_none fuel
  walk_is i zero from (k ∷ keys) c le = absurd (omega (arith, le))
  walk_is i (suc fuel) from (k ∷ keys) c le = ap (walk (suc fuel) f) c.0 ∙ ap (λ (ks : List ℕ). k ∷ ks) (walk_is i fuel (Some k) keys c.1.1 (omega (arith, le)))

  pub walks_are : (fuel : ℕ) → ((k i : ℕ) → list_of (f k) ≡ Some i → k < fuel) → walks fuel f ends ≡ lists
  walks_are fuel below =
      ext_get_or [] (walks fuel f ends) lists (length-map ends (λ e. walk fuel f e.first) ∙ sym s.count)
      (λ i lt.
      let less : i < length ends = subst (λ (m : ℕ). i < m) (length-map ends (λ e. walk fuel f e.first)) lt in
      get_or-map (λ e. walk fuel f e.first) ends i no_ends [] less
      ∙ walk_is i fuel None (list_at lists i) (s.chains i less) (few fuel (list_at lists i) (s.distinct i) (λ k h. below k i (s.listed i k h))))
