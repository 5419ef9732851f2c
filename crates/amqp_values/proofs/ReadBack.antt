-- What a value spells is read again as that value, whatever follows.
use Rattle.std.proofs.Common.{◌≡◌, if◌then◌else◌, ℕ, zero, suc, ◌<◌, ◌≤◌, ◌&&◌, ◌||◌, not, Bool, true, false, eqb, leb, ltb, List, [], ◌∷◌, ◌++◌, length, map, Option, None, Some, Result, Ok, refl, sym, ap, subst, ◌∙◌, append_assoc, arith}
use Rattle.std.proofs.lemmas.Bool.{false≢true, and_parts, eqb-true, ltb-true, le-ltb, ne_eqb}
use Rattle.std.proofs.lemmas.List.{append-nil, length-append, length-map}
use Rattle.std.specs.Prelude.{bytes_eq}
use Rattle.std.specs.Cmp.{partial_equiv_from_equiv}
use Rattle.std.specs.Cmp.Lexicographic.{nat_list_eq_equiv}
use Rattle.std.specs.Int.{w8, w32, byte_len, from_be_bytes, to_be_bytes}
use Rattle.std.specs.List.{flat_map, list_all, list_any}
use Rattle.std.specs.Str.{is_utf8}
use Rattle.octet_reading.specs.declared.part.SizeWidth.TheVariants.{One, Two, Four}
use Rattle.octet_reading.specs.declared.why.Why.TheVariants.{UnknownCode, BadBoolean, RepeatedKey}
use Rattle.octet_reading.specs.declared.flaw.Flaw.{Flaw}
use Rattle.octet_reading.specs.Reading.{Taken, ◌>>=◌, check, flaw_at, number_at, part_at, text_at, many_at, ended, followed}
use Rattle.amqp_values.specs.declared.kind.Kind.{Kind}
use Rattle.amqp_values.specs.declared.kind.Kind.TheVariants as kinds
use Rattle.amqp_values.specs.declared.kind.Container.{Container}
use Rattle.amqp_values.specs.declared.kind.Container.TheVariants as of
use Rattle.amqp_values.specs.declared.value.Pair.{Pair}
use Rattle.amqp_values.specs.declared.value.Value.{Value}
use Rattle.amqp_values.specs.declared.value.Value.TheVariants as v
use Rattle.amqp_values.specs.Codes.{kind, is_known, is_array_code}
use Rattle.octet_reading.specs.Spelling.{sized, fits}
use Rattle.amqp_values.specs.Spelling.{Told, told, told_pair, map_told, list_told, array_told, fixed_fine, bin_fine, bin_octets, item_octets, pair_octets, counted, keys_fine, deepest, deepest_pair}
use Rattle.amqp_values.specs.Values.{Reader, item_at, pair_at, has_key, map_in, list_in, array_in, content_in, container_at, fixed_at, boolean_at, kind_at, read_by, inner_at, value_at}
use Rattle.amqp_values.proofs.Noting.{key_more}
use Rattle.amqp_values.proofs.Known.{via, one_of, known, has_octets}
use Rattle.amqp_values.proofs.Cases.{by_cases}
use Rattle.amqp_values.proofs.Telling.{told_fixed, told_text8, told_text16, told_bin, told_map, told_list, told_array, told_struct32, told_bare, told_void, told_bit}
use Rattle.octet_reading.proofs.Again.{number_again, wide32, part_again, sized_again, text_again, Agains, many_again}

-- an octet is read as itself
pub octet_again : (c : ℕ) (rest : List ℕ) → number_at w8 (c ∷ rest) ≡ Ok (c, rest)
octet_again c rest =
    let long : ltb (length (c ∷ rest)) (byte_len w8) ≡ false = le-ltb _ _ (omega arith) in
    let same : from_be_bytes w8 (c ∷ []) ≡ c = omega arith in
    rw (long, same) refl

-- ---- values without values in them

pub fixed_kind : (inner : Option Reader) (code : ℕ) (octets rest : List ℕ) (k : Option Kind) → fixed_fine k octets ≡ true → kind_at inner code (octets ++ rest) k ≡ Ok (v.Fixed code octets, rest)
unfolding kind_at fixed_at boolean_at
fixed_kind inner code octets rest (Some (kinds.Fixed size)) h =
    ap (λ r. r >>= λ part. Ok (v.Fixed code part.0, part.1))
    (subst (λ n. part_at (octets ++ rest) (octets ++ rest) n ≡ Ok (octets, rest)) (eqb-true (length octets) size h) (part_again (octets ++ rest) octets rest))
fixed_kind inner code [] rest (Some kinds.Boolean) h = absurd (false≢true h)
fixed_kind inner code (x ∷ []) rest (Some kinds.Boolean) h =
    ap (λ r. r >>= λ part. check (leb x 1) (flaw_at BadBoolean (x ∷ rest)) >>= λ _. Ok (v.Fixed code part.0, part.1)) (part_again (x ∷ rest) (x ∷ []) rest)
    ∙ ap (λ b. check b (flaw_at BadBoolean (x ∷ rest)) >>= λ _. Ok (v.Fixed code (x ∷ []), rest)) (and_parts true (leb x 1) h).1
fixed_kind inner code (x ∷ y ∷ octets) rest (Some kinds.Boolean) h =
    absurd (omega (arith, eqb-true (length (x ∷ y ∷ octets)) 1 (and_parts (eqb (length (x ∷ y ∷ octets)) 1) (leb x 1) h).0))
fixed_kind inner code octets rest None h = absurd (false≢true h)
fixed_kind inner code octets rest (Some kinds.Text8) h = absurd (false≢true h)
fixed_kind inner code octets rest (Some kinds.Text16) h = absurd (false≢true h)
fixed_kind inner code octets rest (Some (kinds.Bin width)) h = absurd (false≢true h)
fixed_kind inner code octets rest (Some (kinds.Container of)) h = absurd (false≢true h)
fixed_kind inner code octets rest (Some kinds.Struct32) h = absurd (false≢true h)
fixed_kind inner code octets rest (Some kinds.Void) h = absurd (false≢true h)
fixed_kind inner code octets rest (Some kinds.Bit) h = absurd (false≢true h)

pub bin_kind : (inner : Option Reader) (code : ℕ) (octets rest : List ℕ) (k : Option Kind) → bin_fine k octets ≡ true → kind_at inner code (bin_octets k octets ++ rest) k ≡ Ok (v.Bin code octets, rest)
unfolding kind_at
bin_kind inner code octets rest (Some (kinds.Bin width)) h = ap (λ r. r >>= λ part. Ok (v.Bin code part.0, part.1)) (sized_again width octets rest h)
bin_kind inner code octets rest None h = absurd (false≢true h)
bin_kind inner code octets rest (Some (kinds.Fixed size)) h = absurd (false≢true h)
bin_kind inner code octets rest (Some kinds.Boolean) h = absurd (false≢true h)
bin_kind inner code octets rest (Some kinds.Text8) h = absurd (false≢true h)
bin_kind inner code octets rest (Some kinds.Text16) h = absurd (false≢true h)
bin_kind inner code octets rest (Some (kinds.Container of)) h = absurd (false≢true h)
bin_kind inner code octets rest (Some kinds.Struct32) h = absurd (false≢true h)
bin_kind inner code octets rest (Some kinds.Void) h = absurd (false≢true h)
bin_kind inner code octets rest (Some kinds.Bit) h = absurd (false≢true h)

pub text8_back : (inner : Option Reader) (text rest : List ℕ) → (fits One (length text) && is_utf8 text) ≡ true → read_by inner 133 (sized One text ++ rest) ≡ Ok (v.Text8 text, rest)
unfolding kind kind_at
text8_back inner text rest h =
    let p = and_parts (fits One (length text)) (is_utf8 text) h in
    ap (λ r. r >>= λ t. Ok (v.Text8 t.0, t.1)) (text_again One text rest p.0 p.1)

pub text16_back : (inner : Option Reader) (text rest : List ℕ) → (fits Two (length text) && is_utf8 text) ≡ true → read_by inner 149 (sized Two text ++ rest) ≡ Ok (v.Text16 text, rest)
unfolding kind kind_at
text16_back inner text rest h =
    let p = and_parts (fits Two (length text)) (is_utf8 text) h in
    ap (λ r. r >>= λ t. Ok (v.Text16 t.0, t.1)) (text_again Two text rest p.0 p.1)

pub struct32_back : (inner : Option Reader) (octets rest : List ℕ) → fits Four (length octets) ≡ true → read_by inner 171 (sized Four octets ++ rest) ≡ Ok (v.Struct32 octets, rest)
unfolding kind kind_at
struct32_back inner octets rest h = ap (λ r. r >>= λ part. Ok (v.Struct32 part.0, part.1)) (sized_again Four octets rest h)

pub void_back : (inner : Option Reader) (rest : List ℕ) → read_by inner 240 rest ≡ Ok (v.Void, rest)
unfolding kind kind_at
void_back inner rest = refl

pub bit_back : (inner : Option Reader) (rest : List ℕ) → read_by inner 241 rest ≡ Ok (v.Bit, rest)
unfolding kind kind_at
bit_back inner rest = refl

-- ---- containers

filled : Reader → ℕ → Container → (List ℕ × List ℕ) → Taken Value
filled value code of content = if eqb (length content.0) 0 then Ok (v.Bare code, content.1) else followed content.1 (content_in value of content.0)

pub bare_container : (value : Reader) (code : ℕ) (of : Container) (rest : List ℕ) → container_at (Some value) code of (to_be_bytes w32 0 ++ rest) ≡ Ok (v.Bare code, rest)
unfolding container_at filled
bare_container value code of rest = ap (λ r. r >>= filled value code of) (sized_again Four [] rest refl)

pub full_container : (value : Reader) (code : ℕ) (of : Container) (content rest : List ℕ) (whole : Value) → fits Four (length content) ≡ true → 0 < length content → content_in value of content ≡ Ok whole
    → container_at (Some value) code of (sized Four content ++ rest) ≡ Ok (whole, rest)
unfolding container_at filled
full_container value code of content rest whole h some e =
    let full : eqb (length content) 0 ≡ false = ne_eqb (length content) 0 (λ e'. omega (arith, some, e')) in
    ap (λ r. r >>= filled value code of) (sized_again Four content rest h)
    ∙ ap (λ b. if b then Ok (v.Bare code, rest) else followed rest (content_in value of content)) full
    ∙ ap (followed rest) e

-- the texts of what is told of each are those of each
pub flat_told : {X T : Type 0} (f : X → T) (spell : T → List ℕ) (xs : List X) → flat_map spell (map f xs) ≡ flat_map (λ x. spell (f x)) xs
flat_told f spell [] = refl
flat_told f spell (x ∷ xs) = ap (λ ys. spell (f x) ++ ys) (flat_told f spell xs)

-- a count, and items that are read again
counted_back : {X : Type 0} (one : List X → List ℕ → Taken X) (spell : X → List ℕ) (items : List X) (make : List X → Value) → ltb (length items) 4294967296 ≡ true → Agains one spell [] items
    → (number_at w32 (to_be_bytes w32 (length items) ++ flat_map spell items) >>= λ count. many_at one [] count.0 (length (to_be_bytes w32 (length items) ++ flat_map spell items)) count.1
    >>= λ xs. ended xs.1 >>= λ _. Ok (make xs.0)) ≡ Ok (make items)
counted_back one spell items make h again =
    let text = to_be_bytes w32 (length items) ++ flat_map spell items in
    let after : (ℕ × List ℕ) → Result Value Flaw = λ count. many_at one [] count.0 (length text) count.1 >>= λ xs. ended xs.1 >>= λ _. Ok (make xs.0) in
    let all : many_at one [] (length items) (length text) (flat_map spell items) ≡ Ok (items, []) =
    ap (many_at one [] (length items) (length text)) (sym (append-nil (flat_map spell items))) ∙ many_again one spell [] items (length text) [] again in
    ap (λ r. r >>= after) (number_again w32 4294967296 wide32 (length items) (flat_map spell items) (ltb-true (length items) 4294967296 h))
    ∙ ap (λ r. r >>= λ xs. ended xs.1 >>= λ _. Ok (make xs.0)) all

-- ---- a value at a depth

-- what is told so is read as this value
abbrev pub ReadsAs : ℕ → Value → Told → Type 0
ReadsAs n value t = t.fine ≡ true → t.levels ≤ n → (rest : List ℕ) → value_at n t.code (t.octets ++ rest) ≡ Ok (value, rest)

abbrev pub Reads : ℕ → Value → Type 0
Reads n value = ReadsAs n value (told value)

item_back : (m : ℕ) (x : Value) → Reads m x → (told x).fine ≡ true → (told x).levels ≤ m → (rest : List ℕ) → item_at (value_at m) (item_octets (told x) ++ rest) ≡ Ok (x, rest)
unfolding item_at
item_back m x r f l rest =
    let all = item_octets (told x) ++ rest in
    ap (λ q. q >>= λ code. check (is_known code.0) (flaw_at UnknownCode all) >>= λ _. value_at m code.0 code.1) (octet_again (told x).code ((told x).octets ++ rest))
    ∙ ap (λ b. check b (flaw_at UnknownCode all) >>= λ _. value_at m (told x).code ((told x).octets ++ rest)) (known x f)
    ∙ r f l rest

items_again : (m : ℕ) → ((x : Value) → Reads m x) → (front items : List Value) → list_all (λ (t : Told). t.fine) (map told items) ≡ true → deepest (map told items) ≤ m
    → Agains (λ front'. item_at (value_at m)) (λ x. item_octets (told x)) front items
items_again m ih front [] f l = tt
items_again m ih front (x ∷ xs) f l =
    let p = and_parts (told x).fine (list_all (λ (t : Told). t.fine) (map told xs)) f in
    (((λ rest. item_back m x (ih x) p.0 (omega (arith, l)) rest), omega arith), items_again m ih (front ++ x ∷ []) xs p.1 (omega (arith, l)))

values_again : (m : ℕ) → ((x : Value) → Reads m x) → (code : ℕ) → ltb code 240 ≡ true → (front items : List Value) → list_all (λ (t : Told). eqb t.code code && t.fine) (map told items) ≡ true → deepest (map told items) ≤ m
    → Agains (λ front'. value_at m code) (λ x. (told x).octets) front items
values_again m ih code b front [] f l = tt
values_again m ih code b front (x ∷ xs) f l =
    let p = and_parts (eqb (told x).code code && (told x).fine) (list_all (λ (t : Told). eqb t.code code && t.fine) (map told xs)) f in
    let q = and_parts (eqb (told x).code code) (told x).fine p.0 in
    let e : (told x).code ≡ code = eqb-true (told x).code code q.0 in (
      ((λ rest. subst (λ c. value_at m c ((told x).octets ++ rest) ≡ Ok (x, rest)) e (ih x q.1 (omega (arith, l)) rest)), has_octets x q.1 (ap (λ c. ltb c 240) e ∙ b)),
      values_again m ih code b (front ++ x ∷ []) xs p.1 (omega (arith, l)),
    )

-- ---- pairs

pub or_parts : (a b : Bool) → (a || b) ≡ false → (a ≡ false) × (b ≡ false)
or_parts true b h = absurd (false≢true (sym h))
or_parts false b h = (refl, h)

not_is : (b : Bool) → not b ≡ true → b ≡ false
not_is true h = absurd (false≢true h)
not_is false h = refl

-- no key of the pairs is in front
Fresh : List (Pair Value) → List (Pair Value) → Type 0
Fresh front [] = Unit {0}
Fresh front (p ∷ pairs) = (has_key front p.key ≡ false) × Fresh front pairs

fresh_none : (pairs : List (Pair Value)) → Fresh [] pairs
unfolding Fresh
fresh_none [] = tt
fresh_none (p ∷ pairs) = (refl, fresh_none pairs)

fresh_more : (front : List (Pair Value)) (p : Pair Value) (pairs : List (Pair Value)) → Fresh front pairs → list_any (λ (q : Pair Told). bytes_eq q.key p.key) (map told_pair pairs) ≡ false → Fresh (front ++ p ∷ []) pairs
unfolding Fresh
fresh_more front p [] h n = tt
fresh_more front p (q ∷ pairs) (h, hs) n =
    let o = or_parts (bytes_eq q.key p.key) (list_any (λ (r : Pair Told). bytes_eq r.key p.key) (map told_pair pairs)) n in
    let other : bytes_eq p.key q.key ≡ false = (partial_equiv_from_equiv nat_list_eq_equiv).symm p.key q.key ∙ o.0 in
    (key_more front p q.key ∙ ap (λ b. b || bytes_eq p.key q.key) h ∙ other, fresh_more front p pairs hs o.1)

pair_back : (m : ℕ) (front : List (Pair Value)) (p : Pair Value) → Reads m p.value → (told p.value).fine ≡ true → (told p.value).levels ≤ m → (fits One (length p.key) && is_utf8 p.key) ≡ true → has_key front p.key ≡ false
    → (rest : List ℕ) → pair_at (value_at m) front (pair_octets (told_pair p) ++ rest) ≡ Ok (p, rest)
unfolding pair_at
pair_back m front p r f l k fresh rest =
    let all = pair_octets (told_pair p) ++ rest in
    let item = item_octets (told p.value) ++ rest in
    let made : (Value × List ℕ) → Taken (Pair Value) = λ x. Ok (record { key = p.key; value = x.0 }, x.1) in
    let goes : (List ℕ × List ℕ) → Taken (Pair Value) = λ key. check (not (has_key front key.0)) (flaw_at RepeatedKey all) >>= λ _. item_at (value_at m) key.1 >>= λ x. Ok (record { key = key.0; value = x.0 }, x.1) in
    let t = and_parts (fits One (length p.key)) (is_utf8 p.key) k in
    ap (λ xs. text_at One xs >>= goes) (append_assoc (sized One p.key) (item_octets (told p.value)) rest)
    ∙ ap (λ q. q >>= goes) (text_again One p.key item t.0 t.1)
    ∙ ap (λ b. check (not b) (flaw_at RepeatedKey all) >>= λ _. item_at (value_at m) item >>= made) fresh
    ∙ ap (λ q. q >>= made) (item_back m p.value r f l rest)

pairs_again : (m : ℕ) → ((x : Value) → Reads m x) → (front pairs : List (Pair Value)) → keys_fine (map told_pair pairs) ≡ true → list_all (λ (p : Pair Told). p.value.fine) (map told_pair pairs) ≡ true → deepest_pair (map told_pair pairs) ≤ m
    → Fresh front pairs → Agains (pair_at (value_at m)) (λ p. pair_octets (told_pair p)) front pairs
unfolding Fresh
pairs_again m ih front [] k f l fresh = tt
pairs_again m ih front (p ∷ pairs) k f l (new, fresh) =
    let q = and_parts (told p.value).fine (list_all (λ (r : Pair Told). r.value.fine) (map told_pair pairs)) f in
    let later = list_any (λ (r : Pair Told). bytes_eq r.key p.key) (map told_pair pairs) in
    let a = and_parts (fits One (length p.key) && is_utf8 p.key) (not later && keys_fine (map told_pair pairs)) k in
    let b = and_parts (not later) (keys_fine (map told_pair pairs)) a.1 in (
      ((λ rest. pair_back m front p (ih p.value) q.0 (omega (arith, l)) a.0 new rest), omega (arith, length-append (sized One p.key) (item_octets (told p.value)))),
      pairs_again m ih (front ++ p ∷ []) pairs b.1 q.1 (omega (arith, l)) (fresh_more front p pairs fresh (not_is later b.0)),
    )

-- ---- containers at a depth

list_back : (m : ℕ) → ((x : Value) → Reads m x) → (items : List Value) → ReadsAs (suc m) (v.List items) (list_told items)
unfolding kind kind_at list_in
list_back m ih items f l rest =
    let content = counted (length (map told items)) (flat_map item_octets (map told items)) in
    let p = and_parts (fits Four (length content)) (fits Four (length (map told items)) && list_all (λ (t : Told). t.fine) (map told items)) f in
    let q = and_parts (fits Four (length (map told items))) (list_all (λ (t : Told). t.fine) (map told items)) p.1 in
    let few : ltb (length items) 4294967296 ≡ true = ap (λ n. ltb n 4294967296) (sym (length-map items told)) ∙ q.0 in
    let same : content ≡ to_be_bytes w32 (length items) ++ flat_map (λ x. item_octets (told x)) items =
    ap (λ n. to_be_bytes w32 n ++ flat_map item_octets (map told items)) (length-map items told) ∙ ap (λ xs. to_be_bytes w32 (length items) ++ xs) (flat_told told item_octets items) in
    full_container (value_at m) 169 of.List content rest (v.List items) p.0 (omega arith)
    (ap (list_in (value_at m)) same ∙ counted_back (λ front. item_at (value_at m)) (λ x. item_octets (told x)) items v.List few (items_again m ih [] items q.1 (omega (arith, l))))

map_back : (m : ℕ) → ((x : Value) → Reads m x) → (pairs : List (Pair Value)) → ReadsAs (suc m) (v.Map pairs) (map_told pairs)
unfolding kind kind_at map_in
map_back m ih pairs f l rest =
    let tolds = map told_pair pairs in
    let content = counted (length tolds) (flat_map pair_octets tolds) in
    let fine = list_all (λ (p : Pair Told). p.value.fine) tolds in
    let p = and_parts (fits Four (length content)) (fits Four (length tolds) && (keys_fine tolds && fine)) f in
    let q = and_parts (fits Four (length tolds)) (keys_fine tolds && fine) p.1 in
    let r = and_parts (keys_fine tolds) fine q.1 in
    let few : ltb (length pairs) 4294967296 ≡ true = ap (λ n. ltb n 4294967296) (sym (length-map pairs told_pair)) ∙ q.0 in
    let same : content ≡ to_be_bytes w32 (length pairs) ++ flat_map (λ x. pair_octets (told_pair x)) pairs =
    ap (λ n. to_be_bytes w32 n ++ flat_map pair_octets tolds) (length-map pairs told_pair) ∙ ap (λ xs. to_be_bytes w32 (length pairs) ++ xs) (flat_told told_pair pair_octets pairs) in
    full_container (value_at m) 168 of.Map content rest (v.Map pairs) p.0 (omega arith)
    (ap (map_in (value_at m)) same ∙ counted_back (pair_at (value_at m)) (λ x. pair_octets (told_pair x)) pairs v.Map few (pairs_again m ih [] pairs r.0 r.1 (omega (arith, l)) (fresh_none pairs)))

array_back : (m : ℕ) → ((x : Value) → Reads m x) → (code : ℕ) (items : List Value) → ReadsAs (suc m) (v.Array code items) (array_told code items)
unfolding kind kind_at array_in
array_back m ih code items f l rest =
    let tolds = map told items in
    let text = flat_map (λ (t : Told). t.octets) tolds in
    let content = code ∷ counted (length tolds) text in
    let fine = list_all (λ (t : Told). eqb t.code code && t.fine) tolds in
    let p = and_parts (fits Four (length content)) (fits Four (length tolds) && (is_array_code code && fine)) f in
    let q = and_parts (fits Four (length tolds)) (is_array_code code && fine) p.1 in
    let r = and_parts (is_array_code code) fine q.1 in
    let below = (and_parts (is_known code) (ltb code 240) r.0).1 in
    let few : ltb (length items) 4294967296 ≡ true = ap (λ n. ltb n 4294967296) (sym (length-map items told)) ∙ q.0 in
    let after = to_be_bytes w32 (length items) ++ flat_map (λ x. (told x).octets) items in
    let same : content ≡ code ∷ after =
    ap (λ n. code ∷ (to_be_bytes w32 n ++ text)) (length-map items told) ∙ ap (λ xs. code ∷ (to_be_bytes w32 (length items) ++ xs)) (flat_told told (λ (t : Told). t.octets) items) in
    let inside : (ℕ × List ℕ) → Result Value Flaw = λ c. number_at w32 c.1 >>= λ count. many_at (λ front. value_at m c.0) [] count.0 (length c.1) count.1 >>= λ xs. ended xs.1 >>= λ _. Ok (v.Array c.0 xs.0) in
    full_container (value_at m) 170 of.Array content rest (v.Array code items) p.0 (omega arith)
    (ap (array_in (value_at m)) same
    ∙ ap (λ s. s >>= λ c. check (is_array_code c.0) (flaw_at UnknownCode (code ∷ after)) >>= λ _. inside c) (octet_again code after)
    ∙ ap (λ b. check b (flaw_at UnknownCode (code ∷ after)) >>= λ _. inside (code, after)) r.0
    ∙ counted_back (λ front. value_at m code) (λ x. (told x).octets) items (v.Array code) few (values_again m ih code below [] items r.1 (omega (arith, l))))

bare_back : (value : Reader) (code : ℕ) → (eqb code 168 || (eqb code 169 || eqb code 170)) ≡ true → (rest : List ℕ) → read_by (Some value) code (to_be_bytes w32 0 ++ rest) ≡ Ok (v.Bare code, rest)
unfolding kind kind_at
bare_back value code h rest =
    one_of (λ c. read_by (Some value) c (to_be_bytes w32 0 ++ rest) ≡ Ok (v.Bare c, rest)) code 168 169 170 h
    (bare_container value 168 of.Map rest) (bare_container value 169 of.List rest) (bare_container value 170 of.Array rest)

-- a value that has a spelling is read where its levels are left
pub reads : (n : ℕ) (value : Value) → Reads n value
reads zero = by_cases (Reads zero) (record {
  fixed = λ code octets. via (ReadsAs zero (v.Fixed code octets)) (v.Fixed code octets) _ (told_fixed code octets) (λ f l rest. fixed_kind None code octets rest (kind code) f);
  text8 = λ text. via (ReadsAs zero (v.Text8 text)) (v.Text8 text) _ (told_text8 text) (λ f l rest. text8_back None text rest f);
  text16 = λ text. via (ReadsAs zero (v.Text16 text)) (v.Text16 text) _ (told_text16 text) (λ f l rest. text16_back None text rest f);
  bin = λ code octets. via (ReadsAs zero (v.Bin code octets)) (v.Bin code octets) _ (told_bin code octets) (λ f l rest. bin_kind None code octets rest (kind code) f);
  map = λ pairs. via (ReadsAs zero (v.Map pairs)) (v.Map pairs) _ (told_map pairs) (λ f l rest. absurd (omega (arith, l)));
  list = λ items. via (ReadsAs zero (v.List items)) (v.List items) _ (told_list items) (λ f l rest. absurd (omega (arith, l)));
  array = λ code items. via (ReadsAs zero (v.Array code items)) (v.Array code items) _ (told_array code items) (λ f l rest. absurd (omega (arith, l)));
  struct32 = λ octets. via (ReadsAs zero (v.Struct32 octets)) (v.Struct32 octets) _ (told_struct32 octets) (λ f l rest. struct32_back None octets rest f);
  bare = λ code. via (ReadsAs zero (v.Bare code)) (v.Bare code) _ (told_bare code) (λ f l rest. absurd (omega (arith, l)));
  void = via (ReadsAs zero v.Void) v.Void _ told_void (λ f l rest. void_back None rest);
  bit = via (ReadsAs zero v.Bit) v.Bit _ told_bit (λ f l rest. bit_back None rest);
})
reads (suc m) = by_cases (Reads (suc m)) (record {
  fixed = λ code octets. via (ReadsAs (suc m) (v.Fixed code octets)) (v.Fixed code octets) _ (told_fixed code octets) (λ f l rest. fixed_kind (inner_at (suc m)) code octets rest (kind code) f);
  text8 = λ text. via (ReadsAs (suc m) (v.Text8 text)) (v.Text8 text) _ (told_text8 text) (λ f l rest. text8_back (inner_at (suc m)) text rest f);
  text16 = λ text. via (ReadsAs (suc m) (v.Text16 text)) (v.Text16 text) _ (told_text16 text) (λ f l rest. text16_back (inner_at (suc m)) text rest f);
  bin = λ code octets. via (ReadsAs (suc m) (v.Bin code octets)) (v.Bin code octets) _ (told_bin code octets) (λ f l rest. bin_kind (inner_at (suc m)) code octets rest (kind code) f);
  map = λ pairs. via (ReadsAs (suc m) (v.Map pairs)) (v.Map pairs) _ (told_map pairs) (map_back m (reads m) pairs);
  list = λ items. via (ReadsAs (suc m) (v.List items)) (v.List items) _ (told_list items) (list_back m (reads m) items);
  array = λ code items. via (ReadsAs (suc m) (v.Array code items)) (v.Array code items) _ (told_array code items) (array_back m (reads m) code items);
  struct32 = λ octets. via (ReadsAs (suc m) (v.Struct32 octets)) (v.Struct32 octets) _ (told_struct32 octets) (λ f l rest. struct32_back (inner_at (suc m)) octets rest f);
  bare = λ code. via (ReadsAs (suc m) (v.Bare code)) (v.Bare code) _ (told_bare code) (λ f l rest. bare_back (value_at m) code f rest);
  void = via (ReadsAs (suc m) v.Void) v.Void _ told_void (λ f l rest. void_back (inner_at (suc m)) rest);
  bit = via (ReadsAs (suc m) v.Bit) v.Bit _ told_bit (λ f l rest. bit_back (inner_at (suc m)) rest);
})
