-- What was written is read again.
use Rattle.std.proofs.Common.{◌≡◌, ℕ, ◌^◌, ◌<◌, ◌==◌, ◌&&◌, not, Bool, true, false, if◌then◌else◌, List, [], ◌∷◌, ◌++◌, length, Option, None, Some, Result, Ok, refl, sym, ap, ◌∙◌, append_assoc, arith}
use Rattle.std.specs.Prelude.{nat_lt}
use Rattle.std.specs.Int.{w8, w32, w64, to_be_bytes}
use Rattle.std.specs.Str.{is_utf8}
use Rattle.std.proofs.lemmas.Bool.{and_parts, ltb-true, leb-true, lt-ltb, eqb-true, ne_eqb}
use Rattle.std.proofs.lemmas.List.{append-nil}
use Rattle.octet_reading.specs.declared.flaw.Flaw.{Flaw}
use Rattle.octet_reading.specs.declared.why.Why.TheVariants.{BadStruct, BadBoolean}
use Rattle.octet_reading.specs.declared.part.SizeWidth.TheVariants.{One, Four}
use Rattle.octet_reading.specs.Reading.{◌>>=◌, check, flaw_at, number_at, sized_at, text_at, ended}
use Rattle.octet_reading.specs.Spelling.{sized, fits}
use Rattle.octet_reading.proofs.Again.{wide32, wide64, number_again, sized_again, text_again}
use Rattle.amqp_values.specs.declared.value.Value.{Value}
use Rattle.amqp_values.specs.declared.value.Xid.{Xid}
use Rattle.amqp_values.specs.Values.{value_at}
use Rattle.amqp_values.specs.Spelling.{told, spelling, is_valid}
use Rattle.amqp_values.proofs.ReadBack.{reads, octet_again}
use Rattle.amqp_values.proofs.Known.{has_octets}
use Rattle.amqp_packed.specs.Spelling.{coded}
use Rattle.keeper_rows.specs.declared.kept.RowCopy.{RowCopy}
use Rattle.keeper_rows.specs.declared.kept.Kept.{Kept}
use Rattle.keeper_rows.specs.declared.kept.Kept.TheVariants.{Branch, Intent, Message, Queue, Exchange, Binding}
use Rattle.keeper_rows.specs.Rows.{text_fine, name_fine, is_reserved, number_fine, xid_fine, part_fine, copy_fine, arguments_fine, has_row, xid_octets, letter_of, name_of, or_nothing, marks_of, copy_octets, map_octets, arguments_octets, kind_of, inside_of, has_format, IsRowOf}
use Rattle.keeper_rows.specs.Form.{text_in, name_in, name_at, xid_at, part_in, parts_in, marked_in, copy_in, map_in, perhaps_in, arguments_in, branch_in, intent_of, intent_in, message_in, queue_in, exchange_of, exchange_in, binding_in, row_in, kept_in}

-- ---- a step of reading

bind_is : {A B : Type 0} (r : Result A Flaw) (f : A → Result B Flaw) (x : A) (y : Result B Flaw) → r ≡ Ok x → f x ≡ y → (r >>= f) ≡ y
bind_is r f x y e g = ap (λ q. q >>= f) e ∙ g

check_is : {B : Type 0} (b : Bool) (flaw : Flaw) (r y : Result B Flaw) → b ≡ true → r ≡ y → (check b flaw >>= λ _. r) ≡ y
check_is b flaw r y e g = ap (λ c. check c flaw >>= λ _. r) e ∙ g

-- ---- texts

text_whole : (text : List ℕ) → text_fine text ≡ true → text_in text ≡ Ok text
unfolding text_in
text_whole text fine =
    let p = and_parts (fits One (length text)) (is_utf8 text) fine in
    check_is _ _ _ _ p.0 (check_is _ _ _ _ p.1 refl)

name_whole : (name : List ℕ) → name_fine name ≡ true → name_in name ≡ Ok name
unfolding name_in
name_whole name fine =
    let p = and_parts (nat_lt 0 (length name)) (text_fine name) fine in
    check_is _ _ _ _ p.0 (text_whole name p.1)

text_sized : (text rest : List ℕ) → text_fine text ≡ true → text_at One (sized One text ++ rest) ≡ Ok (text, rest)
text_sized text rest fine =
    let p = and_parts (fits One (length text)) (is_utf8 text) fine in
    text_again One text rest p.0 p.1

name_sized : (name rest : List ℕ) → name_fine name ≡ true → name_at (sized One name ++ rest) ≡ Ok (name, rest)
unfolding name_at
name_sized name rest fine =
    let p = and_parts (nat_lt 0 (length name)) (text_fine name) fine in
    bind_is _ _ _ _ (text_sized name rest p.1) (check_is _ _ _ _ p.0 refl)

-- the last part
sized_last : (octets : List ℕ) → fits Four (length octets) ≡ true → sized_at Four (sized Four octets) ≡ Ok (octets, [])
sized_last octets fine = ap (sized_at Four) (sym (append-nil (sized Four octets))) ∙ sized_again Four octets [] fine

-- ---- xids

xid_again : (xid : Xid) (rest : List ℕ) → xid_fine xid ≡ true → xid_at (xid_octets xid ++ rest) ≡ Ok (xid, rest)
unfolding xid_at
xid_again xid rest fine =
    let p = and_parts (nat_lt xid.format 4294967296) (fits One (length xid.global) && fits One (length xid.branch)) fine in
    let q = and_parts (fits One (length xid.global)) (fits One (length xid.branch)) p.1 in
    let parts = append_assoc (to_be_bytes w32 xid.format) (sized One xid.global ++ sized One xid.branch) rest ∙ ap (λ xs. to_be_bytes w32 xid.format ++ xs) (append_assoc (sized One xid.global) (sized One xid.branch) rest) in
    ap xid_at parts ∙
    bind_is _ _ _ _ (number_again w32 4294967296 wide32 xid.format (sized One xid.global ++ (sized One xid.branch ++ rest)) (ltb-true xid.format 4294967296 p.0))
    (bind_is _ _ _ _ (sized_again One xid.global (sized One xid.branch ++ rest) q.0)
    (bind_is _ _ _ _ (sized_again One xid.branch rest q.1) refl))

xid_last : (xid : Xid) → xid_fine xid ≡ true → xid_at (xid_octets xid) ≡ Ok (xid, [])
xid_last xid fine = ap xid_at (sym (append-nil (xid_octets xid))) ∙ xid_again xid [] fine

number_last : (n : ℕ) → n < 4294967296 → number_at w32 (to_be_bytes w32 n) ≡ Ok (n, [])
number_last n lt = ap (number_at w32) (sym (append-nil (to_be_bytes w32 n))) ∙ number_again w32 4294967296 wide32 n [] lt

eight_last : (n : ℕ) → n < 18446744073709551616 → number_at w64 (to_be_bytes w64 n) ≡ Ok (n, [])
eight_last n lt = ap (number_at w64) (sym (append-nil (to_be_bytes w64 n))) ∙ number_again w64 18446744073709551616 wide64 n [] lt

-- ---- copies

parts_again : (exchange : List ℕ) (header body : Option (List ℕ)) → parts_in (marks_of header body) exchange (or_nothing header) (or_nothing body) ≡ Ok (record { exchange = exchange; header = header; body = body })
unfolding parts_in part_in
parts_again exchange None None = refl
parts_again exchange (Some header) None = refl
parts_again exchange None (Some body) = refl
parts_again exchange (Some header) (Some body) = refl

marks_low : (header body : Option (List ℕ)) → nat_lt (marks_of header body) 4 ≡ true
marks_low None None = refl
marks_low (Some header) None = refl
marks_low None (Some body) = refl
marks_low (Some header) (Some body) = refl

part_fits : (part : Option (List ℕ)) → part_fine part ≡ true → fits Four (length (or_nothing part)) ≡ true
part_fits None fine = refl
part_fits (Some octets) fine = fine

marked_again : (copy : RowCopy) → copy_fine copy ≡ true → marked_in (marks_of copy.header copy.body) (sized One copy.exchange ++ (sized Four (or_nothing copy.header) ++ sized Four (or_nothing copy.body))) ≡ Ok copy
unfolding marked_in
marked_again copy fine =
    let p = and_parts (text_fine copy.exchange) (part_fine copy.header && part_fine copy.body) fine in
    let q = and_parts (part_fine copy.header) (part_fine copy.body) p.1 in
    bind_is _ _ _ _ (text_sized copy.exchange (sized Four (or_nothing copy.header) ++ sized Four (or_nothing copy.body)) p.0)
    (bind_is _ _ _ _ (sized_again Four (or_nothing copy.header) (sized Four (or_nothing copy.body)) (part_fits copy.header q.0))
    (bind_is _ _ _ _ (sized_last (or_nothing copy.body) (part_fits copy.body q.1)) (parts_again copy.exchange copy.header copy.body)))

copy_again : (copy : RowCopy) → copy_fine copy ≡ true → copy_in (copy_octets copy) ≡ Ok copy
unfolding copy_in
copy_again copy fine =
    bind_is _ _ _ _ (octet_again (marks_of copy.header copy.body) (sized One copy.exchange ++ (sized Four (or_nothing copy.header) ++ sized Four (or_nothing copy.body))))
    (check_is _ _ _ _ (marks_low copy.header copy.body) (marked_again copy fine))

-- ---- arguments

value_last : (value : Value) → coded 168 value ≡ true → value_at 16 168 (spelling value) ≡ Ok (value, [])
value_last value fine =
    let c = and_parts ((told value).code == 168) (is_valid value) fine in
    let v = and_parts (told value).fine _ c.1 in
    ap (value_at 16 168) (sym (append-nil (spelling value)))
    ∙ ap (λ k. value_at 16 k (spelling value ++ [])) (sym (eqb-true (told value).code 168 c.0))
    ∙ reads 16 value v.0 (leb-true (told value).levels 16 v.1) []

some_octets : (value : Value) → coded 168 value ≡ true → (length (spelling value) == 0) ≡ false
some_octets value fine =
    let c = and_parts ((told value).code == 168) (is_valid value) fine in
    let v = and_parts (told value).fine _ c.1 in
    let code : (told value).code ≡ 168 = eqb-true (told value).code 168 c.0 in
    ne_eqb (length (spelling value)) 0 (λ e. omega (arith, e, has_octets value v.0 (lt-ltb (told value).code 240 (omega (arith, code)))))

map_again : (value : Value) → coded 168 value ≡ true → map_in (spelling value) ≡ Ok value
unfolding map_in
map_again value fine = bind_is _ _ _ _ (value_last value fine) refl

perhaps_again : (arguments : Option Value) → arguments_fine arguments ≡ true → perhaps_in (map_octets arguments) ≡ Ok arguments
unfolding perhaps_in
perhaps_again None fine = refl
perhaps_again (Some value) fine =
    let p = and_parts (coded 168 value) (fits Four (length (spelling value))) fine in
    ap (λ (b : Bool). if b then Ok None else (map_in (spelling value) >>= λ v. Ok (Some v))) (some_octets value p.0)
    ∙ ap (λ r. r >>= λ v. Ok (Some v)) (map_again value p.0)

arguments_fit : (arguments : Option Value) → arguments_fine arguments ≡ true → fits Four (length (map_octets arguments)) ≡ true
arguments_fit None fine = refl
arguments_fit (Some value) fine = (and_parts (coded 168 value) (fits Four (length (spelling value))) fine).1

arguments_again : (arguments : Option Value) → arguments_fine arguments ≡ true → arguments_in (arguments_octets arguments) ≡ Ok arguments
unfolding arguments_in
arguments_again arguments fine = bind_is _ _ _ _ (sized_last (map_octets arguments) (arguments_fit arguments fine)) (perhaps_again arguments fine)

-- ---- rows

kind_again : (accept : Bool) → (kind_of accept == 1) ≡ accept
kind_again true = refl
kind_again false = refl

kind_low : (accept : Bool) → nat_lt (kind_of accept) 2 ≡ true
kind_low true = refl
kind_low false = refl

number_low : (has_copy : Bool) (number : ℕ) → number_fine has_copy number ≡ true → number < 18446744073709551616
number_low true number fine =
    let p = and_parts (nat_lt 0 number) _ fine in
    omega (arith, leb-true number (2 ^ 62) p.1)
number_low false number fine = omega (arith, eqb-true number 0 fine)

branch_again : (xid : Xid) (count : ℕ) → has_row (Branch xid count) ≡ true → branch_in (xid_octets xid) (to_be_bytes w32 count) ≡ Ok (Branch xid count)
unfolding branch_in
branch_again xid count fine =
    let p = and_parts (xid_fine xid) (nat_lt count 4294967296) fine in
    bind_is _ _ _ _ (xid_last xid p.0) (bind_is _ (λ c. ended c.1 >>= λ _. Ok (Branch xid c.0)) _ _ (number_last count (ltb-true count 4294967296 p.1)) refl)

intent_back : (xid : Xid) (index : ℕ) (accept : Bool) (queue : List ℕ) (number : ℕ) (copy : RowCopy) → name_fine queue ≡ true → number_fine accept number ≡ true → copy_fine copy ≡ true
    → intent_of xid index accept (sized One queue ++ (to_be_bytes w64 number ++ copy_octets copy)) ≡ Ok (Intent xid index accept queue number copy)
unfolding intent_of
intent_back xid index accept queue number copy n m c =
    bind_is _ _ _ _ (name_sized queue (to_be_bytes w64 number ++ copy_octets copy) n)
    (bind_is _ _ _ _ (number_again w64 18446744073709551616 wide64 number (copy_octets copy) (number_low accept number m))
    (check_is _ _ _ _ m (bind_is _ _ _ _ (copy_again copy c) refl)))

intent_again : (xid : Xid) (index : ℕ) (accept : Bool) (queue : List ℕ) (number : ℕ) (copy : RowCopy) → has_row (Intent xid index accept queue number copy) ≡ true
    → intent_in (xid_octets xid ++ to_be_bytes w32 index) (kind_of accept ∷ (sized One queue ++ (to_be_bytes w64 number ++ copy_octets copy))) ≡ Ok (Intent xid index accept queue number copy)
unfolding intent_in
intent_again xid index accept queue number copy fine =
    let p = and_parts (xid_fine xid && nat_lt index 4294967296) ((name_fine queue && number_fine accept number) && copy_fine copy) fine in
    let k = and_parts (xid_fine xid) (nat_lt index 4294967296) p.0 in
    let q = and_parts (name_fine queue && number_fine accept number) (copy_fine copy) p.1 in
    let n = and_parts (name_fine queue) (number_fine accept number) q.0 in
    let content = kind_of accept ∷ (sized One queue ++ (to_be_bytes w64 number ++ copy_octets copy)) in
    bind_is _ _ _ _ (xid_again xid (to_be_bytes w32 index) k.0)
    (bind_is _ (λ i. ended i.1 >>= λ _. number_at w8 content >>= λ k. check (nat_lt k.0 2) (flaw_at BadBoolean content) >>= λ _. intent_of xid i.0 (k.0 == 1) k.1) _ _ (number_last index (ltb-true index 4294967296 k.1))
    (bind_is _ (λ k. check (nat_lt k.0 2) (flaw_at BadBoolean content) >>= λ _. intent_of xid index (k.0 == 1) k.1) _ _ (octet_again (kind_of accept) (sized One queue ++ (to_be_bytes w64 number ++ copy_octets copy)))
    (check_is _ (flaw_at BadBoolean content) _ _ (kind_low accept)
    (ap (λ a. intent_of xid index a (sized One queue ++ (to_be_bytes w64 number ++ copy_octets copy))) (kind_again accept) ∙ intent_back xid index accept queue number copy n.0 n.1 q.1))))

message_again : (queue : List ℕ) (number : ℕ) (copy : RowCopy) → has_row (Message queue number copy) ≡ true → message_in (sized One queue ++ to_be_bytes w64 number) (copy_octets copy) ≡ Ok (Message queue number copy)
unfolding message_in
message_again queue number copy fine =
    let p = and_parts (name_fine queue && number_fine true number) (copy_fine copy) fine in
    let n = and_parts (name_fine queue) (number_fine true number) p.0 in
    bind_is _ _ _ _ (name_sized queue (to_be_bytes w64 number) n.0)
    (bind_is _ (λ m. ended m.1 >>= λ _. check (number_fine true m.0) (flaw_at BadStruct (to_be_bytes w64 number)) >>= λ _. copy_in (copy_octets copy) >>= λ c. Ok (Message queue m.0 c)) _ _ (eight_last number (number_low true number n.1))
    (check_is _ (flaw_at BadStruct (to_be_bytes w64 number)) _ _ n.1 (bind_is _ (λ c. Ok (Message queue number c)) _ _ (copy_again copy p.1) refl)))

queue_again : (name alternate : List ℕ) (arguments : Option Value) → has_row (Queue name alternate arguments) ≡ true → queue_in name (sized One alternate ++ arguments_octets arguments) ≡ Ok (Queue name alternate arguments)
unfolding queue_in
queue_again name alternate arguments fine =
    let p = and_parts (name_fine name) (text_fine alternate && arguments_fine arguments) fine in
    let q = and_parts (text_fine alternate) (arguments_fine arguments) p.1 in
    bind_is _ _ _ _ (name_whole name p.0) (bind_is _ _ _ _ (text_sized alternate (arguments_octets arguments) q.0) (bind_is _ _ _ _ (arguments_again arguments q.1) refl))

exchange_back : (name : List ℕ) (kind : ℕ) (alternate : List ℕ) (arguments : Option Value) → text_fine alternate ≡ true → arguments_fine arguments ≡ true
    → exchange_of name kind (sized One alternate ++ arguments_octets arguments) ≡ Ok (Exchange name kind alternate arguments)
unfolding exchange_of
exchange_back name kind alternate arguments t a =
    bind_is _ _ _ _ (text_sized alternate (arguments_octets arguments) t) (bind_is _ _ _ _ (arguments_again arguments a) refl)

exchange_again : (name : List ℕ) (kind : ℕ) (alternate : List ℕ) (arguments : Option Value) → has_row (Exchange name kind alternate arguments) ≡ true
    → exchange_in name (kind ∷ (sized One alternate ++ arguments_octets arguments)) ≡ Ok (Exchange name kind alternate arguments)
unfolding exchange_in
exchange_again name kind alternate arguments fine =
    let p = and_parts (name_fine name && not (is_reserved name)) (nat_lt kind 4 && (text_fine alternate && arguments_fine arguments)) fine in
    let n = and_parts (name_fine name) (not (is_reserved name)) p.0 in
    let k = and_parts (nat_lt kind 4) (text_fine alternate && arguments_fine arguments) p.1 in
    let q = and_parts (text_fine alternate) (arguments_fine arguments) k.1 in
    bind_is _ _ _ _ (name_whole name n.0)
    (check_is _ _ _ _ n.1
    (bind_is _ _ _ _ (octet_again kind (sized One alternate ++ arguments_octets arguments))
    (check_is _ _ _ _ k.0 (exchange_back name kind alternate arguments q.0 q.1))))

binding_again : (exchange queue key : List ℕ) (arguments : Option Value) → has_row (Binding exchange queue key arguments) ≡ true
    → binding_in (sized One exchange ++ (sized One queue ++ key)) (arguments_octets arguments) ≡ Ok (Binding exchange queue key arguments)
unfolding binding_in
binding_again exchange queue key arguments fine =
    let p = and_parts (name_fine exchange && (name_fine queue && text_fine key)) (arguments_fine arguments) fine in
    let n = and_parts (name_fine exchange) (name_fine queue && text_fine key) p.0 in
    let q = and_parts (name_fine queue) (text_fine key) n.1 in
    bind_is _ _ _ _ (name_sized exchange (sized One queue ++ key) n.0)
    (bind_is _ _ _ _ (name_sized queue key q.0)
    (bind_is _ _ _ _ (text_whole key q.1) (bind_is _ _ _ _ (arguments_again arguments p.1) refl)))

row_again : (kept : Kept) → has_row kept ≡ true → row_in (letter_of kept) (name_of kept) (inside_of kept) ≡ Ok kept
row_again (Branch xid count) fine = branch_again xid count fine
row_again (Intent xid index accept queue number copy) fine = intent_again xid index accept queue number copy fine
row_again (Message queue number copy) fine = message_again queue number copy fine
row_again (Queue name alternate arguments) fine = queue_again name alternate arguments fine
row_again (Exchange name kind alternate arguments) fine = exchange_again name kind alternate arguments fine
row_again (Binding exchange queue key arguments) fine = binding_again exchange queue key arguments fine

kept_go : (kept : Kept) (format : ℕ) → has_row kept ≡ true → has_format (letter_of kept) format ≡ true → kept_in (letter_of kept ∷ name_of kept) (format ∷ inside_of kept) ≡ Ok kept
unfolding kept_in
kept_go kept format fine formats =
    bind_is _ _ _ _ (octet_again (letter_of kept) (name_of kept)) (bind_is _ _ _ _ (octet_again format (inside_of kept)) (check_is _ _ _ _ formats (row_again kept fine)))

pub kept_again : (key content : List ℕ) (kept : Kept) → IsRowOf (record { key = key; content = content }) kept → kept_in key content ≡ Ok kept
kept_again key content kept is = ap (λ k. kept_in k content) is.key_is ∙ ap (λ c. kept_in (letter_of kept ∷ name_of kept) c) is.content_is ∙ kept_go kept is.format is.fine is.formats
