-- What the table of codes says of each: a value's code is known, and only Void and Bit have no octets.
use Rattle.std.proofs.Common.{◌≡◌, ℕ, ◌<◌, ◌||◌, Bool, true, false, cond, eqb, leb, ltb, List, [], ◌∷◌, length, Option, None, Some, is_some, sym, subst, refl, arith}
use Rattle.std.proofs.lemmas.Bool.{false≢true, and_parts, eqb-true, ltb-true}
use Rattle.std.specs.Prelude.{slice_index}
use Rattle.std.specs.List.{list_all}
use Rattle.octet_reading.specs.declared.part.SizeWidth.TheVariants.{One, Two, Four}
use Rattle.std.specs.Map.{lookup}
use Rattle.amqp_values.specs.declared.kind.Kind.{Kind}
use Rattle.amqp_values.specs.declared.kind.Kind.TheVariants as kinds
use Rattle.amqp_values.specs.declared.kind.Container.TheVariants as of
use Rattle.amqp_values.specs.declared.value.Value.{Value}
use Rattle.amqp_values.specs.declared.value.Value.TheVariants as v
use Rattle.amqp_values.specs.Codes.{kind, is_known, code_table}
use Rattle.amqp_values.specs.Spelling.{Told, told, fixed_fine, bin_fine, bin_octets}
use Rattle.amqp_values.proofs.Cases.{by_cases}
use Rattle.amqp_values.proofs.Telling.{told_fixed, told_text8, told_text16, told_bin, told_map, told_list, told_array, told_struct32, told_bare, told_void, told_bit}

-- a width of at least one octet
pub positive : Kind → Bool
positive (kinds.Fixed size) = ltb 0 size
positive kinds.Boolean = true
positive kinds.Text8 = true
positive kinds.Text16 = true
positive (kinds.Bin width) = true
positive (kinds.Container of) = true
positive kinds.Struct32 = true
positive kinds.Void = true
positive kinds.Bit = true

pub positive_in : Option Kind → Bool
unfolding positive
positive_in None = true
positive_in (Some k) = positive k

in_row : (test : ℕ → Bool) (rows : List (ℕ × Kind)) → list_all (λ row. positive row.1) rows ≡ true → positive_in (lookup test rows) ≡ true
unfolding positive_in
in_row test [] h = refl
in_row test (row ∷ rows) h =
    let p = and_parts (positive row.1) (list_all (λ r. positive r.1) rows) h in
    elim (test row.0) as (λ b. positive_in (cond b (Some row.1) (lookup test rows)) ≡ true) [ true ↦ p.0 | false ↦ in_row test rows p.1 ]

each_row : list_all (λ row. positive row.1) code_table ≡ true
unfolding positive
each_row = refl

-- no code has values of a fixed width of 0
pub kind_positive : (code : ℕ) → positive_in (kind code) ≡ true
unfolding kind
kind_positive code = in_row (λ c. eqb c code) code_table each_row

-- by what is told
pub via : (Q : Told → Type 0) (value : Value) (t : Told) → told value ≡ t → Q t → Q (told value)
via Q value t e q = subst Q (sym e) q

abbrev KnownWhereFine : Told → Type 0
KnownWhereFine t = t.fine ≡ true → is_known t.code ≡ true

fixed_known : (k : Option Kind) (octets : List ℕ) → fixed_fine k octets ≡ true → is_some k ≡ true
fixed_known None octets h = absurd (false≢true h)
fixed_known (Some k) octets h = refl

bin_known : (k : Option Kind) (octets : List ℕ) → bin_fine k octets ≡ true → is_some k ≡ true
bin_known None octets h = absurd (false≢true h)
bin_known (Some k) octets h = refl

-- one of three
pub one_of : (Q : ℕ → Type 0) (code a b c : ℕ) → (eqb code a || (eqb code b || eqb code c)) ≡ true → Q a → Q b → Q c → Q code
one_of Q code a b c h qa qb qc = first (eqb code a) refl h
  where
    third : (t : Bool) → eqb code c ≡ t → t ≡ true → Q code
    third true e h' = subst Q (sym (eqb-true code c e)) qc
    third false e h' = absurd (false≢true h')

    second : (t : Bool) → eqb code b ≡ t → (t || eqb code c) ≡ true → Q code
    second true e h' = subst Q (sym (eqb-true code b e)) qb
    second false e h' = third (eqb code c) refl h'

    first : (t : Bool) → eqb code a ≡ t → (t || (eqb code b || eqb code c)) ≡ true → Q code
    first true e h' = subst Q (sym (eqb-true code a e)) qa
    first false e h' = second (eqb code b) refl h'

-- a value that has a spelling has a code of the table
pub known : (value : Value) → (told value).fine ≡ true → is_known (told value).code ≡ true
unfolding kind
known = by_cases (λ value. KnownWhereFine (told value)) (record {
  fixed = λ code octets. via KnownWhereFine (v.Fixed code octets) _ (told_fixed code octets) (λ h. fixed_known (kind code) octets h);
  text8 = λ text. via KnownWhereFine (v.Text8 text) _ (told_text8 text) (λ h. refl);
  text16 = λ text. via KnownWhereFine (v.Text16 text) _ (told_text16 text) (λ h. refl);
  bin = λ code octets. via KnownWhereFine (v.Bin code octets) _ (told_bin code octets) (λ h. bin_known (kind code) octets h);
  map = λ pairs. via KnownWhereFine (v.Map pairs) _ (told_map pairs) (λ h. refl);
  list = λ items. via KnownWhereFine (v.List items) _ (told_list items) (λ h. refl);
  array = λ code items. via KnownWhereFine (v.Array code items) _ (told_array code items) (λ h. refl);
  struct32 = λ octets. via KnownWhereFine (v.Struct32 octets) _ (told_struct32 octets) (λ h. refl);
  bare = λ code. via KnownWhereFine (v.Bare code) _ (told_bare code) (λ h. one_of (λ c. is_known c ≡ true) code 168 169 170 h refl refl refl);
  void = via KnownWhereFine v.Void _ told_void (λ h. refl);
  bit = via KnownWhereFine v.Bit _ told_bit (λ h. refl);
})

abbrev SomeBelow : Told → Type 0
SomeBelow t = t.fine ≡ true → ltb t.code 240 ≡ true → 0 < length t.octets

fixed_some : (k : Option Kind) (octets : List ℕ) → positive_in k ≡ true → fixed_fine k octets ≡ true → 0 < length octets
unfolding positive_in positive
fixed_some (Some (kinds.Fixed size)) octets p h = omega (arith, ltb-true 0 size p, eqb-true (length octets) size h)
fixed_some (Some kinds.Boolean) octets p h = omega (arith, eqb-true (length octets) 1 (and_parts (eqb (length octets) 1) (leb (slice_index octets 0) 1) h).0)
fixed_some None octets p h = absurd (false≢true h)
fixed_some (Some kinds.Text8) octets p h = absurd (false≢true h)
fixed_some (Some kinds.Text16) octets p h = absurd (false≢true h)
fixed_some (Some (kinds.Bin width)) octets p h = absurd (false≢true h)
fixed_some (Some (kinds.Container of)) octets p h = absurd (false≢true h)
fixed_some (Some kinds.Struct32) octets p h = absurd (false≢true h)
fixed_some (Some kinds.Void) octets p h = absurd (false≢true h)
fixed_some (Some kinds.Bit) octets p h = absurd (false≢true h)

bin_some : (k : Option Kind) (octets : List ℕ) → bin_fine k octets ≡ true → 0 < length (bin_octets k octets)
bin_some (Some (kinds.Bin One)) octets h = omega arith
bin_some (Some (kinds.Bin Two)) octets h = omega arith
bin_some (Some (kinds.Bin Four)) octets h = omega arith
bin_some None octets h = absurd (false≢true h)
bin_some (Some (kinds.Fixed size)) octets h = absurd (false≢true h)
bin_some (Some kinds.Boolean) octets h = absurd (false≢true h)
bin_some (Some kinds.Text8) octets h = absurd (false≢true h)
bin_some (Some kinds.Text16) octets h = absurd (false≢true h)
bin_some (Some (kinds.Container of)) octets h = absurd (false≢true h)
bin_some (Some kinds.Struct32) octets h = absurd (false≢true h)
bin_some (Some kinds.Void) octets h = absurd (false≢true h)
bin_some (Some kinds.Bit) octets h = absurd (false≢true h)

-- but for Void and Bit a value has octets
pub has_octets : (value : Value) → (told value).fine ≡ true → ltb (told value).code 240 ≡ true → 0 < length (told value).octets
has_octets = by_cases (λ value. SomeBelow (told value)) (record {
  fixed = λ code octets. via SomeBelow (v.Fixed code octets) _ (told_fixed code octets) (λ h b. fixed_some (kind code) octets (kind_positive code) h);
  text8 = λ text. via SomeBelow (v.Text8 text) _ (told_text8 text) (λ h b. omega arith);
  text16 = λ text. via SomeBelow (v.Text16 text) _ (told_text16 text) (λ h b. omega arith);
  bin = λ code octets. via SomeBelow (v.Bin code octets) _ (told_bin code octets) (λ h b. bin_some (kind code) octets h);
  map = λ pairs. via SomeBelow (v.Map pairs) _ (told_map pairs) (λ h b. omega arith);
  list = λ items. via SomeBelow (v.List items) _ (told_list items) (λ h b. omega arith);
  array = λ code items. via SomeBelow (v.Array code items) _ (told_array code items) (λ h b. omega arith);
  struct32 = λ octets. via SomeBelow (v.Struct32 octets) _ (told_struct32 octets) (λ h b. omega arith);
  bare = λ code. via SomeBelow (v.Bare code) _ (told_bare code) (λ h b. omega arith);
  void = via SomeBelow v.Void _ told_void (λ h b. absurd (false≢true b));
  bit = via SomeBelow v.Bit _ told_bit (λ h b. absurd (false≢true b));
})

-- a kind that has one code has this one
abbrev pub agrees : ℕ → Kind → Bool
agrees code (kinds.Fixed size) = true
agrees code kinds.Boolean = true
agrees code kinds.Text8 = eqb 133 code
agrees code kinds.Text16 = eqb 149 code
agrees code (kinds.Bin width) = true
agrees code (kinds.Container of.Map) = eqb 168 code
agrees code (kinds.Container of.List) = eqb 169 code
agrees code (kinds.Container of.Array) = eqb 170 code
agrees code kinds.Struct32 = eqb 171 code
agrees code kinds.Void = eqb 240 code
agrees code kinds.Bit = eqb 241 code

abbrev pub agrees_in : ℕ → Option Kind → Bool
agrees_in code None = true
agrees_in code (Some k) = agrees code k

row_agrees : (code : ℕ) (rows : List (ℕ × Kind)) → list_all (λ row. agrees row.0 row.1) rows ≡ true → agrees_in code (lookup (λ c. eqb c code) rows) ≡ true
row_agrees code [] h = refl
row_agrees code (row ∷ rows) h =
    let p = and_parts (agrees row.0 row.1) (list_all (λ r. agrees r.0 r.1) rows) h in
    by p.0 (row_agrees code rows p.1) (eqb row.0 code) refl
  where
    by : agrees row.0 row.1 ≡ true → agrees_in code (lookup (λ c. eqb c code) rows) ≡ true → (b : Bool) → eqb row.0 code ≡ b → agrees_in code (cond b (Some row.1) (lookup (λ c. eqb c code) rows)) ≡ true
    by here more true e = subst (λ c. agrees c row.1 ≡ true) (eqb-true row.0 code e) here
    by here more false e = more

all_agree : list_all (λ row. agrees row.0 row.1) code_table ≡ true
all_agree = refl

pub kind_agrees : (code : ℕ) → agrees_in code (kind code) ≡ true
unfolding kind
kind_agrees code = row_agrees code code_table all_agree
