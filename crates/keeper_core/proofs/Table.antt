-- The rows of a table, after a place of it changes.
use Rattle.std.proofs.Common.{◌≡◌, ℕ, ◌++◌, Result, Ok, Err, OnOk, OnErr, not, Bool, true, false, List, [], ◌∷◌, Option, None, Some, is_some, cond, map, ◌∙◌, ap, sym, subst, refl}
use Rattle.std.proofs.lemmas.Bool.{false≢true}
use Rattle.std.specs.Prelude.{bytes_eq}
use Rattle.std.proofs.Common.{Ordering, Less, Equal, Greater}
use Rattle.std.specs.Ordering.{nat_cmp, is_eq, match_ordering}
use Rattle.std.specs.Cmp.Lexicographic.{slice_cmp, nat_list_cmp_total, texts_ties, bytes_decides}
use Rattle.std.specs.List.{AllByRecursion}
use Rattle.std.specs.List.Sorted.{IsStrictlySortedBy}
use Rattle.std.specs.Map.{keys_of, lookup, set_value, remove_entry}
use Rattle.std.specs.BTreeMap.{insert_entry, is_at}
use Rattle.keeper_core.specs.declared.row.Row.{Row}
use Rattle.keeper_core.specs.declared.row.Change.{Change}
use Rattle.keeper_core.specs.declared.row.Change.TheVariants.{Put, Drop}
use Rattle.keeper_core.specs.Kept.{rows_in, HasPlace, HasRoom}
use Rattle.keeper_core.specs.Rows.{put, without, IsRising}

abbrev pub Table : Type 0
Table = List (List ℕ × Option (List ℕ))

abbrev pub row : List ℕ → List ℕ → Row
row key content = record { key = key; content = content }

-- what compares equal is equal
same : (a b : List ℕ) → slice_cmp nat_cmp a b ≡ Equal → a ≡ b
same a b e = (bytes_decides a b).0 (texts_ties a b ∙ ap is_eq e)

-- all keys are above this one
abbrev pub Above : List ℕ → List (List ℕ) → Type 0
Above key keys = AllByRecursion (λ other. slice_cmp nat_cmp key other ≡ Less) keys

above_lower : (low key : List ℕ) (keys : List (List ℕ)) → slice_cmp nat_cmp low key ≡ Less → Above key keys → Above low keys
above_lower low key [] e h = tt
above_lower low key (k ∷ keys) e (h, hs) = (nat_list_cmp_total.trans low key k e h, above_lower low key keys e hs)

put_first : (es : Table) (k c : List ℕ) → Above k (keys_of es) → put (rows_in es) (row k c) ≡ row k c ∷ rows_in es
put_first [] k c h = refl
put_first ((key, None) ∷ es) k c (h, hs) = put_first es k c hs
put_first ((key, Some d) ∷ es) k c (h, hs) = ap (λ o. match_ordering o (row k c ∷ row key d ∷ rows_in es) (row k c ∷ rows_in es) (row key d ∷ put (rows_in es) (row k c))) h

-- a content is put at a key
pub put_place : (es : Table) (k c : List ℕ) → IsStrictlySortedBy (slice_cmp nat_cmp) (keys_of es) → rows_in (insert_entry (slice_cmp nat_cmp) es k (Some c)) ≡ put (rows_in es) (row k c)
unfolding IsStrictlySortedBy
put_place [] k c h = refl
put_place ((key, v) ∷ es) k c (h, hs) = by (put_place es k c hs) v (slice_cmp nat_cmp k key) refl
  where
    by : rows_in (insert_entry (slice_cmp nat_cmp) es k (Some c)) ≡ put (rows_in es) (row k c) → (v : Option (List ℕ)) (o : Ordering) → slice_cmp nat_cmp k key ≡ o
        → rows_in (match_ordering o ((k, Some c) ∷ (key, v) ∷ es) ((key, Some c) ∷ es) ((key, v) ∷ insert_entry (slice_cmp nat_cmp) es k (Some c))) ≡ put (rows_in ((key, v) ∷ es)) (row k c)
    by more None Less e = sym (put_first es k c (above_lower k key (keys_of es) e h))
    by more None Equal e = ap (λ x. row x c ∷ rows_in es) (sym (same k key e)) ∙ sym (put_first es k c (subst (λ x. Above x (keys_of es)) (sym (same k key e)) h))
    by more None Greater e = more
    by more (Some d) Less e = sym (ap (λ o. match_ordering o (row k c ∷ row key d ∷ rows_in es) (row k c ∷ rows_in es) (row key d ∷ put (rows_in es) (row k c))) e)
    by more (Some d) Equal e = ap (λ x. row x c ∷ rows_in es) (sym (same k key e)) ∙ sym (ap (λ o. match_ordering o (row k c ∷ row key d ∷ rows_in es) (row k c ∷ rows_in es) (row key d ∷ put (rows_in es) (row k c))) e)
    by more (Some d) Greater e = ap (λ rows. row key d ∷ rows) more ∙ sym (ap (λ o. match_ordering o (row k c ∷ row key d ∷ rows_in es) (row k c ∷ rows_in es) (row key d ∷ put (rows_in es) (row k c))) e)

-- a place is made for a key that isn't there
pub make_empty : (es : Table) (k : List ℕ) → lookup (is_at (slice_cmp nat_cmp k)) es ≡ None → rows_in (insert_entry (slice_cmp nat_cmp) es k None) ≡ rows_in es
make_empty [] k h = refl
make_empty ((key, v) ∷ es) k h = by (make_empty es k) (slice_cmp nat_cmp k key) h
  where
    kept : (v : Option (List ℕ)) (a b : Table) → rows_in a ≡ rows_in b → rows_in ((key, v) ∷ a) ≡ rows_in ((key, v) ∷ b)
    kept None a b e = e
    kept (Some d) a b e = ap (λ rows. row key d ∷ rows) e

    some_none : {x : Option (List ℕ)} → Some x ≡ None → ⊥
    some_none e = false≢true (sym (ap is_some e))

    by : (lookup (is_at (slice_cmp nat_cmp k)) es ≡ None → rows_in (insert_entry (slice_cmp nat_cmp) es k None) ≡ rows_in es) → (o : Ordering) → cond (is_eq o) (Some v) (lookup (is_at (slice_cmp nat_cmp k)) es) ≡ None
        → rows_in (match_ordering o ((k, None) ∷ (key, v) ∷ es) ((key, None) ∷ es) ((key, v) ∷ insert_entry (slice_cmp nat_cmp) es k None)) ≡ rows_in ((key, v) ∷ es)
    by more Less e = refl
    by more Equal e = absurd (some_none e)
    by more Greater e = kept v (insert_entry (slice_cmp nat_cmp) es k None) es (more e)

-- no row has a key that isn't there
pub without_absent : (es : Table) (k : List ℕ) → lookup (is_at (slice_cmp nat_cmp k)) es ≡ None → without (rows_in es) k ≡ rows_in es
without_absent [] k h = refl
without_absent ((key, v) ∷ es) k h = by (without_absent es k) v (is_eq (slice_cmp nat_cmp k key)) (texts_ties k key) h
  where
    some_none : {x : Option (List ℕ)} → Some x ≡ None → ⊥
    some_none e = false≢true (sym (ap is_some e))

    by : (lookup (is_at (slice_cmp nat_cmp k)) es ≡ None → without (rows_in es) k ≡ rows_in es) → (v : Option (List ℕ)) (b : Bool) → bytes_eq k key ≡ b → cond b (Some v) (lookup (is_at (slice_cmp nat_cmp k)) es) ≡ None → without (rows_in ((key, v) ∷ es)) k ≡ rows_in ((key, v) ∷ es)
    by more v true e n = absurd (some_none n)
    by more None false e n = more n
    by more (Some d) false e n = ap (λ b. cond (not b) (row key d ∷ without (rows_in es) k) (without (rows_in es) k)) e ∙ ap (λ rows. row key d ∷ rows) (more n)

none_above : (es : Table) (k : List ℕ) → Above k (keys_of es) → lookup (is_at (slice_cmp nat_cmp k)) es ≡ None
none_above [] k h = refl
none_above (e ∷ es) k (h, hs) = ap (λ o. cond (is_eq o) (Some e.1) (lookup (is_at (slice_cmp nat_cmp k)) es)) h ∙ none_above es k hs

-- a content is taken from a key
pub drop_place : (es : Table) (k : List ℕ) → IsStrictlySortedBy (slice_cmp nat_cmp) (keys_of es) → rows_in (set_value (is_at (slice_cmp nat_cmp k)) es None) ≡ without (rows_in es) k
unfolding IsStrictlySortedBy
drop_place [] k h = refl
drop_place ((key, v) ∷ es) k (h, hs) = by (drop_place es k hs) v (slice_cmp nat_cmp k key) refl
  where
    rest : slice_cmp nat_cmp k key ≡ Equal → rows_in es ≡ without (rows_in es) k
    rest e = sym (without_absent es k (none_above es k (subst (λ x. Above x (keys_of es)) (sym (same k key e)) h)))

    by_rest : rows_in (set_value (is_at (slice_cmp nat_cmp k)) es None) ≡ without (rows_in es) k → (o : Ordering) → is_eq o ≡ false → slice_cmp nat_cmp k key ≡ o → (v : Option (List ℕ)) → rows_in ((key, v) ∷ set_value (is_at (slice_cmp nat_cmp k)) es None) ≡ without (rows_in ((key, v) ∷ es)) k
    by_rest more o f e None = more
    by_rest more o f e (Some d) = ap (λ rows. row key d ∷ rows) more ∙ sym (ap (λ b. cond (not b) (row key d ∷ without (rows_in es) k) (without (rows_in es) k)) (texts_ties k key ∙ ap is_eq e ∙ f))

    by : rows_in (set_value (is_at (slice_cmp nat_cmp k)) es None) ≡ without (rows_in es) k → (v : Option (List ℕ)) (o : Ordering) → slice_cmp nat_cmp k key ≡ o
        → rows_in (cond (is_eq o) ((key, None) ∷ es) ((key, v) ∷ set_value (is_at (slice_cmp nat_cmp k)) es None)) ≡ without (rows_in ((key, v) ∷ es)) k
    by more v Less e = by_rest more Less refl e v
    by more v Greater e = by_rest more Greater refl e v
    by more None Equal e = rest e
    by more (Some d) Equal e = rest e ∙ sym (ap (λ b. cond (not b) (row key d ∷ without (rows_in es) k) (without (rows_in es) k)) (texts_ties k key ∙ ap is_eq e))

-- a place without a row is let go of
pub clear_place : (test : List ℕ → Bool) (es : Table) → lookup test es ≡ Some None → rows_in (remove_entry test es) ≡ rows_in es
clear_place test [] h = refl
clear_place test ((key, v) ∷ es) h = by (clear_place test es) v (test key) h
  where
    some_is : Option (Option (List ℕ)) → Bool
    some_is None = false
    some_is (Some None) = false
    some_is (Some (Some d)) = true

    by : (lookup test es ≡ Some None → rows_in (remove_entry test es) ≡ rows_in es) → (v : Option (List ℕ)) (b : Bool) → cond b (Some v) (lookup test es) ≡ Some None → rows_in (cond b es ((key, v) ∷ remove_entry test es)) ≡ rows_in ((key, v) ∷ es)
    by more None true e = refl
    by more (Some d) true e = absurd (false≢true (sym (ap some_is e)))
    by more None false e = more e
    by more (Some d) false e = ap (λ rows. row key d ∷ rows) (more e)

-- after a key got a value, each key that was there is there
pub still_there : (b : Bool) (v : Option (List ℕ)) (old new : Option (Option (List ℕ))) → new ≡ cond b (Some v) old → is_some old ≡ true → is_some new ≡ true
still_there true v old new e h = ap is_some e
still_there false v old new e h = ap is_some e ∙ h

not_there : {X : Type 0} (o : Option X) → is_some o ≡ false → o ≡ None
not_there None e = refl
not_there (Some x) e = absurd (false≢true (sym e))

-- the same, by the answer of `contains_key`
pub make_missing : (es : Table) (k key : List ℕ) → key ≡ k → is_some (lookup (is_at (slice_cmp nat_cmp k)) es) ≡ false → rows_in (insert_entry (slice_cmp nat_cmp) es key None) ≡ rows_in es
make_missing es k key e h = ap (λ x. rows_in (insert_entry (slice_cmp nat_cmp) es x None)) e ∙ make_empty es k (not_there (lookup (is_at (slice_cmp nat_cmp k)) es) h)

-- what keeps each place keeps the room
pub room_kept : (old new : Table) → ((other : Change) → HasPlace old other → HasPlace new other) → (changes : List Change) → HasRoom old changes → HasRoom new changes
room_kept old new f [] h = tt
room_kept old new f (change ∷ changes) (h, hs) = (f change h, room_kept old new f changes hs)

-- room for one change more
pub room_more : (table : Table) (changes : List Change) (change : Change) → HasRoom table changes → HasPlace table change → HasRoom table (changes ++ change ∷ [])
room_more table [] change h p = (p, tt)
room_more table (first ∷ changes) change (h, hs) p = (h, room_more table changes change hs p)

-- a put, by what the table's insert answers
pub put_done : {X Y : Type 0} (r : Result X Y) (old new : Table) (k c : List ℕ) → IsStrictlySortedBy (slice_cmp nat_cmp) (keys_of old)
    → OnOk r (new ≡ insert_entry (slice_cmp nat_cmp) old k (Some c)) → OnErr r (lookup (is_at (slice_cmp nat_cmp k)) old ≡ None)
    → is_some (lookup (is_at (slice_cmp nat_cmp k)) old) ≡ true → rows_in new ≡ put (rows_in old) (row k c)
put_done (Ok x) old new k c s ok err h = ap rows_in ok ∙ put_place old k c s
put_done (Err y) old new k c s ok err h = absurd (false≢true (sym (ap is_some err) ∙ h))

-- each place stays where one gets a value
pub set_stays : (old new : Table) (k : List ℕ) (v : Option (List ℕ)) → ((q : List ℕ) → lookup (is_at (slice_cmp nat_cmp q)) new ≡ cond (is_eq (slice_cmp nat_cmp k q)) (Some v) (lookup (is_at (slice_cmp nat_cmp q)) old))
    → (other : Change) → HasPlace old other → HasPlace new other
set_stays old new k v f (Put other) p = still_there (is_eq (slice_cmp nat_cmp k other.key)) v (lookup (is_at (slice_cmp nat_cmp other.key)) old) (lookup (is_at (slice_cmp nat_cmp other.key)) new) (f other.key) p
set_stays old new k v f (Drop key) p = tt

-- each place stays, by what the table's insert answers
pub put_stays : {X Y U : Type 0} (r : Result X Y) (old new : Table) (k : List ℕ) (v : Option (List ℕ))
    → (U → (q : List ℕ) → lookup (is_at (slice_cmp nat_cmp q)) new ≡ cond (is_eq (slice_cmp nat_cmp k q)) (Some v) (lookup (is_at (slice_cmp nat_cmp q)) old))
    → OnOk r U → OnErr r (lookup (is_at (slice_cmp nat_cmp k)) old ≡ None) → is_some (lookup (is_at (slice_cmp nat_cmp k)) old) ≡ true
    → (other : Change) → HasPlace old other → HasPlace new other
put_stays (Ok x) old new k v f ok err h other p = set_stays old new k v (f ok) other p
put_stays (Err y) old new k v f ok err h other p = absurd (false≢true (sym (ap is_some err) ∙ h))

above_rows : (es : Table) (k : List ℕ) → Above k (keys_of es) → Above k (map (λ r. r.key) (rows_in es))
above_rows [] k h = tt
above_rows ((key, None) ∷ es) k (h, hs) = above_rows es k hs
above_rows ((key, Some d) ∷ es) k (h, hs) = (h, above_rows es k hs)

-- the rows of a table in order are in order
pub rising : (es : Table) → IsStrictlySortedBy (slice_cmp nat_cmp) (keys_of es) → IsRising (rows_in es)
unfolding IsStrictlySortedBy
rising [] h = tt
rising ((key, None) ∷ es) (h, hs) = rising es hs
rising ((key, Some d) ∷ es) (h, hs) = (above_rows es key h, rising es hs)
