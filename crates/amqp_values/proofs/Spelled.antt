-- What is read is a value that has a spelling, and is spelled so.
use Rattle.std.proofs.Common.{◌≡◌, if◌then◌else◌, ℕ, zero, suc, ◌≤◌, ◌&&◌, ◌||◌, not, Bool, true, false, eqb, leb, List, [], ◌∷◌, ◌++◌, length, map, Option, None, Some, Result, Ok, Err, refl, sym, ap, subst, ◌∙◌, append_assoc, arith}
use Rattle.std.proofs.lemmas.Bool.{false≢true, eqb-true, eq-eqb, lt-ltb}
use Rattle.std.proofs.lemmas.List.{append-nil, length-map, nil_from_length}
use Rattle.std.specs.Prelude.{bytes_eq, slice_index}
use Rattle.std.specs.Cmp.{partial_equiv_from_equiv}
use Rattle.std.specs.Cmp.Lexicographic.{nat_list_eq_equiv}
use Rattle.std.specs.Int.{w8, w32, to_be_bytes}
use Rattle.std.specs.List.{flat_map, list_all, list_any}
use Rattle.std.specs.Str.{is_utf8}
use Rattle.octet_reading.specs.declared.part.SizeWidth.TheVariants.{One, Two, Four}
use Rattle.octet_reading.specs.declared.why.Why.TheVariants.{UnknownCode, BadBoolean, SizeDiffers, RepeatedKey, TooDeep}
use Rattle.octet_reading.specs.declared.flaw.Flaw.{Flaw}
use Rattle.octet_reading.specs.Reading.{Taken, ◌>>=◌, check, flaw_at, number_at, part_at, sized_at, text_at, many_at, ended, followed, IsBytes}
use Rattle.amqp_values.specs.declared.kind.Kind.{Kind}
use Rattle.amqp_values.specs.declared.kind.Kind.TheVariants as kinds
use Rattle.amqp_values.specs.declared.kind.Container.{Container}
use Rattle.amqp_values.specs.declared.kind.Container.TheVariants as of
use Rattle.amqp_values.specs.declared.value.Pair.{Pair}
use Rattle.amqp_values.specs.declared.value.Value.{Value}
use Rattle.amqp_values.specs.declared.value.Value.TheVariants as v
use Rattle.amqp_values.specs.Codes.{kind, is_known, is_array_code}
use Rattle.octet_reading.specs.Spelling.{sized, fits}
use Rattle.amqp_values.specs.Spelling.{Told, told, told_pair, fixed_fine, bin_fine, bin_octets, item_octets, pair_octets, counted, keys_fine, deepest, deepest_pair}
use Rattle.amqp_values.specs.Values.{item_at, pair_at, has_key, map_in, list_in, array_in, content_in, container_at, fixed_at, boolean_at, kind_at, inner_at, value_at}
use Rattle.amqp_values.proofs.Telling.{told_fixed, told_text8, told_text16, told_bin, told_map, told_list, told_array, told_struct32, told_bare, told_void, told_bit}
use Rattle.amqp_values.proofs.Noting.{key_more}
use Rattle.amqp_values.proofs.Known.{agrees_in, kind_agrees}
use Rattle.amqp_values.proofs.ReadBack.{flat_told, or_parts}
use Rattle.octet_reading.proofs.Found.{Holds, holds_bind, holds_map, holds_check, NumberIs, octet_found, count_found, octet_is, PartIs, part_found, SizedIs, sized_found, TextIs, text_found, OneIs, Goods, ManyAre, many_found}

both : (a b : Bool) → a ≡ true → b ≡ true → (a && b) ≡ true
both true b h k = k
both false b h k = absurd (false≢true h)

-- what was read is this value, spelled at the octets' front
pub record ValueIs (n code : ℕ) (octets : List ℕ) (x : Value × List ℕ) : Type 0 where
  pub parts : octets ≡ (told x.0).octets ++ x.1
  pub code_is : (told x.0).code ≡ code
  pub fine : (told x.0).fine ≡ true
  pub levels : (told x.0).levels ≤ n
  pub rest : IsBytes x.1

abbrev pub Finds : ℕ → Type 0
Finds n = (code : ℕ) (octets : List ℕ) → IsBytes octets → Holds (ValueIs n code octets) (value_at n code octets)

-- the same, by what is told
made : (n code : ℕ) (octets rest : List ℕ) (value : Value) (t : Told) → told value ≡ t → octets ≡ t.octets ++ rest → t.code ≡ code → t.fine ≡ true → t.levels ≤ n → IsBytes rest → ValueIs n code octets (value, rest)
made n code octets rest value t e p c f l b = record {
  parts = p ∙ ap (λ (s : Told). s.octets ++ rest) (sym e);
  code_is = ap (λ (s : Told). s.code) e ∙ c;
  fine = ap (λ (s : Told). s.fine) e ∙ f;
  levels = subst (λ (s : Told). s.levels ≤ n) (sym e) l;
  rest = b;
}

-- ---- items

Fine : ℕ → List Value → Value → Type 0
Fine m front x = ((told x).fine ≡ true) × ((told x).levels ≤ m)

item_found : (m : ℕ) → Finds m → (front : List Value) (octets : List ℕ) → IsBytes octets
    → Holds (OneIs (λ front'. item_at (value_at m)) (λ x. item_octets (told x)) (Fine m) front octets) (item_at (value_at m) octets)
unfolding item_at Fine
item_found m finds front octets bytes =
    let Q = OneIs (λ front'. item_at (value_at m)) (λ x. item_octets (told x)) (Fine m) front octets in
    holds_bind (NumberIs w8 256 octets) Q (number_at w8 octets) (λ code. check (is_known code.0) (flaw_at UnknownCode octets) >>= λ _. value_at m code.0 code.1) (octet_found octets bytes)
    (λ code c. holds_check Q (is_known code.0) (flaw_at UnknownCode octets) (value_at m code.0 code.1)
    (λ _. holds_map (ValueIs m code.0 code.1) Q (value_at m code.0 code.1) (finds code.0 code.1 c.rest)
    (λ x i. record {
      parts = c.parts ∙ ap (λ xs. xs ++ code.1) (octet_is code.0 c.low) ∙ ap (λ xs. code.0 ∷ xs) i.parts ∙ ap (λ k. k ∷ ((told x.0).octets ++ x.1)) (sym i.code_is);
      good = (i.fine, i.levels);
      rest = i.rest;
    })))

items_fine : (m : ℕ) (front items : List Value) → Goods (λ front'. item_at (value_at m)) (λ x. item_octets (told x)) (Fine m) front items → (list_all (λ (t : Told). t.fine) (map told items) ≡ true) × (deepest (map told items) ≤ m)
unfolding Fine
items_fine m front [] g = (refl, omega arith)
items_fine m front (x ∷ xs) (g, gs) =
    let more = items_fine m (front ++ x ∷ []) xs gs in
    (both (told x).fine (list_all (λ (t : Told). t.fine) (map told xs)) g.0 more.0, omega (arith, g.1, more.1))

-- ---- values of one code

Alike : ℕ → ℕ → List Value → Value → Type 0
Alike m code front x = ((told x).code ≡ code) × (((told x).fine ≡ true) × ((told x).levels ≤ m))

alike_found : (m : ℕ) → Finds m → (code : ℕ) (front : List Value) (octets : List ℕ) → IsBytes octets
    → Holds (OneIs (λ front'. value_at m code) (λ x. (told x).octets) (Alike m code) front octets) (value_at m code octets)
unfolding Alike
alike_found m finds code front octets bytes =
    holds_map (ValueIs m code octets) (OneIs (λ front'. value_at m code) (λ x. (told x).octets) (Alike m code) front octets) (value_at m code octets) (finds code octets bytes)
    (λ x i. record { parts = i.parts; good = (i.code_is, (i.fine, i.levels)); rest = i.rest })

alike_fine : (m code : ℕ) (front items : List Value) → Goods (λ front'. value_at m code) (λ x. (told x).octets) (Alike m code) front items
    → (list_all (λ (t : Told). eqb t.code code && t.fine) (map told items) ≡ true) × (deepest (map told items) ≤ m)
unfolding Alike
alike_fine m code front [] g = (refl, omega arith)
alike_fine m code front (x ∷ xs) (g, gs) =
    let more = alike_fine m code (front ++ x ∷ []) xs gs in (
      both (eqb (told x).code code && (told x).fine) (list_all (λ (t : Told). eqb t.code code && t.fine) (map told xs)) (both (eqb (told x).code code) (told x).fine (eq-eqb (told x).code code g.0) g.1.0) more.0,
      omega (arith, g.1.1, more.1),
    )

-- ---- pairs

record PairFine (m : ℕ) (front : List (Pair Value)) (p : Pair Value) : Type 0 where
  pub key : (fits One (length p.key) && is_utf8 p.key) ≡ true
  pub new : has_key front p.key ≡ false
  pub fine : (told p.value).fine ≡ true
  pub levels : (told p.value).levels ≤ m

new_is : (b : Bool) → not b ≡ true → b ≡ false
new_is true h = absurd (false≢true h)
new_is false h = refl

pair_found : (m : ℕ) → Finds m → (front : List (Pair Value)) (octets : List ℕ) → IsBytes octets
    → Holds (OneIs (pair_at (value_at m)) (λ p. pair_octets (told_pair p)) (PairFine m) front octets) (pair_at (value_at m) front octets)
unfolding pair_at Fine
pair_found m finds front octets bytes =
    let Q = OneIs (pair_at (value_at m)) (λ p. pair_octets (told_pair p)) (PairFine m) front octets in
    let item : (List ℕ × List ℕ) → Taken (Pair Value) = λ key. item_at (value_at m) key.1 >>= λ x. Ok (record { key = key.0; value = x.0 }, x.1) in
    holds_bind (TextIs One octets) Q (text_at One octets) (λ key. check (not (has_key front key.0)) (flaw_at RepeatedKey octets) >>= λ _. item key) (text_found One octets bytes)
    (λ key t. holds_check Q (not (has_key front key.0)) (flaw_at RepeatedKey octets) (item key)
    (λ n. holds_bind (OneIs (λ front'. item_at (value_at m)) (λ x. item_octets (told x)) (Fine m) [] key.1) Q (item_at (value_at m) key.1) (λ x. Ok (record { key = key.0; value = x.0 }, x.1)) (item_found m finds [] key.1 t.rest)
    (λ x i. record {
      parts = t.parts ∙ ap (λ xs. sized One key.0 ++ xs) i.parts ∙ sym (append_assoc (sized One key.0) (item_octets (told x.0)) x.1);
      good = record { key = both (fits One (length key.0)) (is_utf8 key.0) t.fit t.utf8; new = new_is (has_key front key.0) n; fine = i.good.0; levels = i.good.1 };
      rest = i.rest;
    })))

abbrev PairGoods : ℕ → List (Pair Value) → List (Pair Value) → Type 0
PairGoods m = Goods (pair_at (value_at m)) (λ p. pair_octets (told_pair p)) (PairFine m)

-- a key that stands in front stands in no pair after it
apart : (m : ℕ) (p : Pair Value) (front : List (Pair Value)) → ((k : List ℕ) → has_key front k ≡ false → bytes_eq p.key k ≡ false) → (more : List (Pair Value)) → PairGoods m front more
    → list_any (λ (q : Pair Told). bytes_eq q.key p.key) (map told_pair more) ≡ false
apart m p front h [] g = refl
apart m p front h (x ∷ more) (g, gs) =
    let here : bytes_eq x.key p.key ≡ false = (partial_equiv_from_equiv nat_list_eq_equiv).symm x.key p.key ∙ h x.key g.new in
    ap (λ b. b || list_any (λ (q : Pair Told). bytes_eq q.key p.key) (map told_pair more)) here
    ∙ apart m p (front ++ x ∷ []) (λ k none. h k (or_parts (has_key front k) (bytes_eq x.key k) (sym (key_more front x k) ∙ none)).0) more gs

pairs_fine : (m : ℕ) (front pairs : List (Pair Value)) → PairGoods m front pairs
    → (keys_fine (map told_pair pairs) ≡ true) × ((list_all (λ (p : Pair Told). p.value.fine) (map told_pair pairs) ≡ true) × (deepest_pair (map told_pair pairs) ≤ m))
pairs_fine m front [] g = (refl, (refl, omega arith))
pairs_fine m front (p ∷ pairs) (g, gs) =
    let more = pairs_fine m (front ++ p ∷ []) pairs gs in
    let later = list_any (λ (q : Pair Told). bytes_eq q.key p.key) (map told_pair pairs) in
    let none : later ≡ false = apart m p (front ++ p ∷ []) (λ k none'. (or_parts (has_key front k) (bytes_eq p.key k) (sym (key_more front p k) ∙ none')).1) pairs gs in (
      both (fits One (length p.key) && is_utf8 p.key) (not later && keys_fine (map told_pair pairs)) g.key (both (not later) (keys_fine (map told_pair pairs)) (ap not none) more.0),
      (both (told p.value).fine (list_all (λ (q : Pair Told). q.value.fine) (map told_pair pairs)) g.fine more.1.0, omega (arith, g.levels, more.1.1)),
    )

-- ---- containers

-- a container that holds these octets
record InsideIs (m code : ℕ) (content : List ℕ) (value : Value) : Type 0 where
  pub octets : (told value).octets ≡ sized Four content
  pub code_is : (told value).code ≡ code
  pub fine : fits Four (length content) ≡ true → (told value).fine ≡ true
  pub levels : (told value).levels ≤ suc m

inside : (m code : ℕ) (content : List ℕ) (value : Value) (t : Told) → told value ≡ t → t.octets ≡ sized Four content → t.code ≡ code → (fits Four (length content) ≡ true → t.fine ≡ true) → t.levels ≤ suc m → InsideIs m code content value
inside m code content value t e o c f l = record {
  octets = ap (λ (s : Told). s.octets) e ∙ o;
  code_is = ap (λ (s : Told). s.code) e ∙ c;
  fine = λ h. ap (λ (s : Told). s.fine) e ∙ f h;
  levels = subst (λ (s : Told). s.levels ≤ suc m) (sym e) l;
}

-- a count and items are all of the octets
whole : {X : Type 0} (spell : X → List ℕ) (octets after rest : List ℕ) (items : List X) → octets ≡ to_be_bytes w32 (length items) ++ after → after ≡ flat_map spell items ++ rest → eqb (length rest) 0 ≡ true
    → octets ≡ to_be_bytes w32 (length items) ++ flat_map spell items
whole spell octets after rest items p q none =
    p ∙ ap (λ xs. to_be_bytes w32 (length items) ++ xs) (q ∙ ap (λ r. flat_map spell items ++ r) (nil_from_length rest (eqb-true (length rest) 0 none)) ∙ append-nil (flat_map spell items))

list_found : (m : ℕ) → Finds m → (octets : List ℕ) → IsBytes octets → Holds (InsideIs m 169 octets) (list_in (value_at m) octets)
unfolding list_in
list_found m finds octets bytes =
    let one : List Value → List ℕ → Taken Value = λ front. item_at (value_at m) in
    let spell : Value → List ℕ = λ x. item_octets (told x) in
    let Q = InsideIs m 169 octets in
    holds_bind (NumberIs w32 4294967296 octets) Q (number_at w32 octets) (λ count. many_at one [] count.0 (length octets) count.1 >>= λ items. ended items.1 >>= λ _. Ok (v.List items.0)) (count_found octets bytes)
    (λ count c. holds_bind (ManyAre one spell (Fine m) [] count.0 count.1) Q (many_at one [] count.0 (length octets) count.1) (λ items. ended items.1 >>= λ _. Ok (v.List items.0))
    (many_found one spell (Fine m) (item_found m finds) [] count.0 (length octets) count.1 c.rest)
    (λ items a. holds_check Q (eqb (length items.1) 0) (flaw_at SizeDiffers items.1) (Ok (v.List items.0)) (λ none. subst (λ xs. Q (v.List xs)) (sym a.items)
    (let tolds = map told a.more in
    let f = items_fine m [] a.more a.good in
    let n : count.0 ≡ length tolds = sym a.count ∙ sym (length-map a.more told) in
    let few : fits Four (length tolds) ≡ true = lt-ltb _ _ (omega (arith, c.low, n)) in
    let text : octets ≡ counted (length tolds) (flat_map item_octets tolds) =
    whole spell octets count.1 items.1 a.more (c.parts ∙ ap (λ k. to_be_bytes w32 k ++ count.1) (sym a.count)) a.parts none
    ∙ ap (λ k. to_be_bytes w32 k ++ flat_map spell a.more) (sym (length-map a.more told)) ∙ ap (λ xs. to_be_bytes w32 (length tolds) ++ xs) (sym (flat_told told item_octets a.more)) in
    inside m 169 octets (v.List a.more) _ (told_list a.more) (ap (sized Four) (sym text)) refl
    (λ h. both (fits Four (length (counted (length tolds) (flat_map item_octets tolds)))) (fits Four (length tolds) && list_all (λ (t : Told). t.fine) tolds) (ap (λ xs. fits Four (length xs)) (sym text) ∙ h) (both (fits Four (length tolds)) (list_all (λ (t : Told). t.fine) tolds) few f.0))
    (omega (arith, f.1))))))

map_found : (m : ℕ) → Finds m → (octets : List ℕ) → IsBytes octets → Holds (InsideIs m 168 octets) (map_in (value_at m) octets)
unfolding map_in
map_found m finds octets bytes =
    let one = pair_at (value_at m) in
    let spell : Pair Value → List ℕ = λ p. pair_octets (told_pair p) in
    let Q = InsideIs m 168 octets in
    holds_bind (NumberIs w32 4294967296 octets) Q (number_at w32 octets) (λ count. many_at one [] count.0 (length octets) count.1 >>= λ pairs. ended pairs.1 >>= λ _. Ok (v.Map pairs.0)) (count_found octets bytes)
    (λ count c. holds_bind (ManyAre one spell (PairFine m) [] count.0 count.1) Q (many_at one [] count.0 (length octets) count.1) (λ pairs. ended pairs.1 >>= λ _. Ok (v.Map pairs.0))
    (many_found one spell (PairFine m) (pair_found m finds) [] count.0 (length octets) count.1 c.rest)
    (λ pairs a. holds_check Q (eqb (length pairs.1) 0) (flaw_at SizeDiffers pairs.1) (Ok (v.Map pairs.0)) (λ none. subst (λ xs. Q (v.Map xs)) (sym a.items)
    (let tolds = map told_pair a.more in
    let f = pairs_fine m [] a.more a.good in
    let n : count.0 ≡ length tolds = sym a.count ∙ sym (length-map a.more told_pair) in
    let few : fits Four (length tolds) ≡ true = lt-ltb _ _ (omega (arith, c.low, n)) in
    let fine = list_all (λ (p : Pair Told). p.value.fine) tolds in
    let text : octets ≡ counted (length tolds) (flat_map pair_octets tolds) =
    whole spell octets count.1 pairs.1 a.more (c.parts ∙ ap (λ k. to_be_bytes w32 k ++ count.1) (sym a.count)) a.parts none
    ∙ ap (λ k. to_be_bytes w32 k ++ flat_map spell a.more) (sym (length-map a.more told_pair)) ∙ ap (λ xs. to_be_bytes w32 (length tolds) ++ xs) (sym (flat_told told_pair pair_octets a.more)) in
    inside m 168 octets (v.Map a.more) _ (told_map a.more) (ap (sized Four) (sym text)) refl
    (λ h. both (fits Four (length (counted (length tolds) (flat_map pair_octets tolds)))) (fits Four (length tolds) && (keys_fine tolds && fine)) (ap (λ xs. fits Four (length xs)) (sym text) ∙ h)
    (both (fits Four (length tolds)) (keys_fine tolds && fine) few (both (keys_fine tolds) fine f.0 f.1.0)))
    (omega (arith, f.1.1))))))

array_found : (m : ℕ) → Finds m → (octets : List ℕ) → IsBytes octets → Holds (InsideIs m 170 octets) (array_in (value_at m) octets)
unfolding array_in
array_found m finds octets bytes =
    let spell : Value → List ℕ = λ x. (told x).octets in
    let Q = InsideIs m 170 octets in
    holds_bind (NumberIs w8 256 octets) Q (number_at w8 octets) (λ code. check (is_array_code code.0) (flaw_at UnknownCode octets) >>= λ _. number_at w32 code.1
    >>= λ count. many_at (λ front. value_at m code.0) [] count.0 (length code.1) count.1 >>= λ items. ended items.1 >>= λ _. Ok (v.Array code.0 items.0)) (octet_found octets bytes)
    (λ code k. holds_check Q (is_array_code code.0) (flaw_at UnknownCode octets)
    (number_at w32 code.1 >>= λ count. many_at (λ front. value_at m code.0) [] count.0 (length code.1) count.1 >>= λ items. ended items.1 >>= λ _. Ok (v.Array code.0 items.0))
    (λ known. holds_bind (NumberIs w32 4294967296 code.1) Q (number_at w32 code.1) (λ count. many_at (λ front. value_at m code.0) [] count.0 (length code.1) count.1 >>= λ items. ended items.1 >>= λ _. Ok (v.Array code.0 items.0)) (count_found code.1 k.rest)
    (λ count c. holds_bind (ManyAre (λ front. value_at m code.0) spell (Alike m code.0) [] count.0 count.1) Q (many_at (λ front. value_at m code.0) [] count.0 (length code.1) count.1) (λ items. ended items.1 >>= λ _. Ok (v.Array code.0 items.0))
    (many_found (λ front. value_at m code.0) spell (Alike m code.0) (alike_found m finds code.0) [] count.0 (length code.1) count.1 c.rest)
    (λ items a. holds_check Q (eqb (length items.1) 0) (flaw_at SizeDiffers items.1) (Ok (v.Array code.0 items.0)) (λ none. subst (λ xs. Q (v.Array code.0 xs)) (sym a.items)
    (let tolds = map told a.more in
    let f = alike_fine m code.0 [] a.more a.good in
    let n : count.0 ≡ length tolds = sym a.count ∙ sym (length-map a.more told) in
    let few : fits Four (length tolds) ≡ true = lt-ltb _ _ (omega (arith, c.low, n)) in
    let fine = list_all (λ (t : Told). eqb t.code code.0 && t.fine) tolds in
    let text = flat_map (λ (t : Told). t.octets) tolds in
    let after : code.1 ≡ counted (length tolds) text =
    whole spell code.1 count.1 items.1 a.more (c.parts ∙ ap (λ q. to_be_bytes w32 q ++ count.1) (sym a.count)) a.parts none
    ∙ ap (λ q. to_be_bytes w32 q ++ flat_map spell a.more) (sym (length-map a.more told)) ∙ ap (λ xs. to_be_bytes w32 (length tolds) ++ xs) (sym (flat_told told (λ (t : Told). t.octets) a.more)) in
    let all : octets ≡ code.0 ∷ counted (length tolds) text = k.parts ∙ ap (λ xs. xs ++ code.1) (octet_is code.0 k.low) ∙ ap (λ xs. code.0 ∷ xs) after in
    inside m 170 octets (v.Array code.0 a.more) _ (told_array code.0 a.more) (ap (sized Four) (sym all)) refl
    (λ h. both (fits Four (length (code.0 ∷ counted (length tolds) text))) (fits Four (length tolds) && (is_array_code code.0 && fine)) (ap (λ xs. fits Four (length xs)) (sym all) ∙ h)
    (both (fits Four (length tolds)) (is_array_code code.0 && fine) few (both (is_array_code code.0) fine known f.0)))
    (omega (arith, f.1))))))))

-- the code of a container
of_code : Container → ℕ
of_code of.Map = 168
of_code of.List = 169
of_code of.Array = 170

content_found : (m : ℕ) → Finds m → (of : Container) (octets : List ℕ) → IsBytes octets → Holds (InsideIs m (of_code of) octets) (content_in (value_at m) of octets)
unfolding of_code
content_found m finds of.Map octets bytes = map_found m finds octets bytes
content_found m finds of.List octets bytes = list_found m finds octets bytes
content_found m finds of.Array octets bytes = array_found m finds octets bytes

three : (of : Container) → (eqb (of_code of) 168 || (eqb (of_code of) 169 || eqb (of_code of) 170)) ≡ true
unfolding of_code
three of.Map = refl
three of.List = refl
three of.Array = refl

container_found : (n code : ℕ) (of : Container) → of_code of ≡ code → ((m : ℕ) → n ≡ suc m → Finds m) → (octets : List ℕ) → IsBytes octets → Holds (ValueIs n code octets) (container_at (inner_at n) code of octets)
unfolding container_at
container_found zero code of same finds octets bytes =
    holds_bind (SizedIs Four octets) (ValueIs zero code octets) (sized_at Four octets) (λ content. Err (flaw_at TooDeep octets)) (sized_found Four octets bytes) (λ content s. tt)
container_found (suc m) code of same finds octets bytes =
    let Q = ValueIs (suc m) code octets in
    let goes : (List ℕ × List ℕ) → Taken Value = λ content. if eqb (length content.0) 0 then Ok (v.Bare code, content.1) else followed content.1 (content_in (value_at m) of content.0) in
    holds_bind (SizedIs Four octets) Q (sized_at Four octets) goes (sized_found Four octets bytes)
    (λ content s. by content s (content_found m (finds m refl) of content.0 s.inside) (eqb (length content.0) 0) refl)
  where
    by : (content : List ℕ × List ℕ) → SizedIs Four octets content → Holds (InsideIs m (of_code of) content.0) (content_in (value_at m) of content.0) → (b : Bool) → eqb (length content.0) 0 ≡ b
        → Holds (ValueIs (suc m) code octets) (if b then Ok (v.Bare code, content.1) else followed content.1 (content_in (value_at m) of content.0))
    by content s found true e =
        let none : content.0 ≡ [] = nil_from_length content.0 (eqb-true (length content.0) 0 e) in
        made (suc m) code octets content.1 (v.Bare code) _ (told_bare code) (s.parts ∙ ap (λ xs. sized Four xs ++ content.1) none) refl
        (subst (λ c. (eqb c 168 || (eqb c 169 || eqb c 170)) ≡ true) same (three of)) (omega arith) s.rest
    by content s found false e = full (content_in (value_at m) of content.0) found
      where
        full : (r : Result Value Flaw) → Holds (InsideIs m (of_code of) content.0) r → Holds (ValueIs (suc m) code octets) (followed content.1 r)
        full (Ok value) i = record {
          parts = s.parts ∙ ap (λ xs. xs ++ content.1) (sym i.octets);
          code_is = i.code_is ∙ same;
          fine = i.fine s.fit;
          levels = i.levels;
          rest = s.rest;
        }
        full (Err flaw) i = tt

-- ---- all kinds

kind_found : (n code : ℕ) (octets : List ℕ) → ((m : ℕ) → n ≡ suc m → Finds m) → IsBytes octets → (k : Option Kind) → kind code ≡ k → agrees_in code k ≡ true → Holds (ValueIs n code octets) (kind_at (inner_at n) code octets k)
unfolding kind_at fixed_at boolean_at of_code
kind_found n code octets finds bytes None e a = tt
kind_found n code octets finds bytes (Some (kinds.Fixed size)) e a =
    holds_bind (PartIs octets size) (ValueIs n code octets) (part_at octets octets size) (λ part. Ok (v.Fixed code part.0, part.1)) (part_found octets octets size bytes)
    (λ part p. made n code octets part.1 (v.Fixed code part.0) _ (told_fixed code part.0) p.parts refl (ap (λ k. fixed_fine k part.0) e ∙ eq-eqb (length part.0) size p.long) (omega arith) p.rest)
kind_found n code octets finds bytes (Some kinds.Boolean) e a =
    let Q = ValueIs n code octets in
    holds_bind (PartIs octets 1) Q (part_at octets octets 1) (λ part. check (leb (slice_index octets 0) 1) (flaw_at BadBoolean octets) >>= λ _. Ok (v.Fixed code part.0, part.1)) (part_found octets octets 1 bytes)
    (λ part p. holds_check Q (leb (slice_index octets 0) 1) (flaw_at BadBoolean octets) (Ok (v.Fixed code part.0, part.1))
    (λ low. made n code octets part.1 (v.Fixed code part.0) _ (told_fixed code part.0) p.parts refl
    (ap (λ k. fixed_fine k part.0) e ∙ both (eqb (length part.0) 1) (leb (slice_index part.0 0) 1) (eq-eqb (length part.0) 1 p.long) (ap (λ x. leb x 1) (first part.0 part.1 octets p.parts p.long) ∙ low)) (omega arith) p.rest))
  where
    first : (xs ys all : List ℕ) → all ≡ xs ++ ys → length xs ≡ 1 → slice_index xs 0 ≡ slice_index all 0
    first [] ys all q len = absurd (omega (arith, len))
    first (x ∷ xs) ys all q len = ap (λ zs. slice_index zs 0) (sym q)
kind_found n code octets finds bytes (Some kinds.Text8) e a =
    holds_bind (TextIs One octets) (ValueIs n code octets) (text_at One octets) (λ t. Ok (v.Text8 t.0, t.1)) (text_found One octets bytes)
    (λ t p. made n code octets t.1 (v.Text8 t.0) _ (told_text8 t.0) p.parts (eqb-true 133 code a) (both (fits One (length t.0)) (is_utf8 t.0) p.fit p.utf8) (omega arith) p.rest)
kind_found n code octets finds bytes (Some kinds.Text16) e a =
    holds_bind (TextIs Two octets) (ValueIs n code octets) (text_at Two octets) (λ t. Ok (v.Text16 t.0, t.1)) (text_found Two octets bytes)
    (λ t p. made n code octets t.1 (v.Text16 t.0) _ (told_text16 t.0) p.parts (eqb-true 149 code a) (both (fits Two (length t.0)) (is_utf8 t.0) p.fit p.utf8) (omega arith) p.rest)
kind_found n code octets finds bytes (Some (kinds.Bin width)) e a =
    holds_bind (SizedIs width octets) (ValueIs n code octets) (sized_at width octets) (λ part. Ok (v.Bin code part.0, part.1)) (sized_found width octets bytes)
    (λ part p. made n code octets part.1 (v.Bin code part.0) _ (told_bin code part.0) (p.parts ∙ ap (λ k. bin_octets k part.0 ++ part.1) (sym e)) refl (ap (λ k. bin_fine k part.0) e ∙ p.fit) (omega arith) p.rest)
kind_found n code octets finds bytes (Some (kinds.Container of.Map)) e a = container_found n code of.Map (eqb-true 168 code a) finds octets bytes
kind_found n code octets finds bytes (Some (kinds.Container of.List)) e a = container_found n code of.List (eqb-true 169 code a) finds octets bytes
kind_found n code octets finds bytes (Some (kinds.Container of.Array)) e a = container_found n code of.Array (eqb-true 170 code a) finds octets bytes
kind_found n code octets finds bytes (Some kinds.Struct32) e a =
    holds_bind (SizedIs Four octets) (ValueIs n code octets) (sized_at Four octets) (λ part. Ok (v.Struct32 part.0, part.1)) (sized_found Four octets bytes)
    (λ part p. made n code octets part.1 (v.Struct32 part.0) _ (told_struct32 part.0) p.parts (eqb-true 171 code a) p.fit (omega arith) p.rest)
kind_found n code octets finds bytes (Some kinds.Void) e a = made n code octets octets v.Void _ told_void refl (eqb-true 240 code a) refl (omega arith) bytes
kind_found n code octets finds bytes (Some kinds.Bit) e a = made n code octets octets v.Bit _ told_bit refl (eqb-true 241 code a) refl (omega arith) bytes

before : (m n : ℕ) → suc n ≡ suc m → n ≡ m
before m n e = omega (arith, e)

pub finds : (n : ℕ) → Finds n
finds zero code octets bytes = kind_found zero code octets (λ m e. absurd (omega (arith, e))) bytes (kind code) refl (kind_agrees code)
finds (suc n) code octets bytes = kind_found (suc n) code octets (λ m e. subst Finds (before m n e) (finds n)) bytes (kind code) refl (kind_agrees code)
