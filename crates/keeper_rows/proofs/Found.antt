-- What was read is spelled there.
use Rattle.std.proofs.Common.{◌≡◌, ℕ, zero, suc, ◌<◌, ◌==◌, ◌&&◌, ◌||◌, not, Bool, true, false, if◌then◌else◌, List, [], ◌∷◌, ◌++◌, length, Option, None, Some, Result, Ok, Err, refl, sym, ap, subst, ◌∙◌, append_assoc, arith}
use Rattle.std.specs.Prelude.{nat_lt, IfOk}
use Rattle.std.specs.Int.{w8, w32, w64, to_be_bytes}
use Rattle.std.specs.Str.{is_utf8}
use Rattle.std.proofs.lemmas.Bool.{and_from, ltb-true, lt-ltb, le-leb, eqb-true, eq-eqb, true≢false}
use Rattle.std.proofs.lemmas.List.{append-nil}
use Rattle.octet_reading.specs.declared.flaw.Flaw.{Flaw}
use Rattle.octet_reading.specs.declared.part.SizeWidth.TheVariants.{One, Four}
use Rattle.octet_reading.specs.Reading.{◌>>=◌, number_at, sized_at, text_at, ended, IsBytes}
use Rattle.octet_reading.specs.Spelling.{sized, fits}
use Rattle.octet_reading.proofs.Found.{Holds, holds_bind, holds_map, holds_check, NumberIs, octet_found, count_found, eight_found, octet_is, SizedIs, sized_found, TextIs, text_found}
use Rattle.amqp_values.specs.declared.value.Value.{Value}
use Rattle.amqp_values.specs.declared.value.Xid.{Xid}
use Rattle.amqp_values.specs.Values.{value_at}
use Rattle.amqp_values.specs.Spelling.{spelling}
use Rattle.amqp_values.proofs.Spelled.{ValueIs, finds}
use Rattle.amqp_packed.specs.Spelling.{coded}
use Rattle.keeper_rows.specs.declared.kept.RowCopy.{RowCopy}
use Rattle.keeper_rows.specs.declared.kept.Kept.{Kept}
use Rattle.keeper_rows.specs.declared.kept.Kept.TheVariants.{Intent, Exchange}
use Rattle.keeper_rows.specs.declared.kept.RowError.{RowError}
use Rattle.keeper_rows.specs.Rows.{text_fine, name_fine, is_reserved, number_fine, xid_fine, part_fine, copy_fine, arguments_fine, has_row, xid_octets, letter_of, name_of, or_nothing, marks_of, copy_octets, map_octets, arguments_octets, kind_of, inside_of, has_format, IsRowOf}
use Rattle.keeper_rows.specs.Form.{text_in, name_in, name_at, xid_at, has_header, has_body, where_there, part_in, parts_in, marked_in, copy_in, map_in, perhaps_in, arguments_in, branch_in, intent_of, intent_in, message_in, queue_in, exchange_of, exchange_in, binding_in, row_in, kept_in, Answers}

-- nothing is left
empty : (octets : List ℕ) → (length octets == 0) ≡ true → octets ≡ []
empty [] e = refl
empty (x ∷ xs) e = absurd (omega (arith, eqb-true (length (x ∷ xs)) 0 e))

holds_end : {B : Type 0} (Q : B → Type 0) (rest : List ℕ) (r : Result B Flaw) → (rest ≡ [] → Holds Q r) → Holds Q (ended rest >>= λ _. r)
holds_end Q rest r then_r = holds_check Q (length rest == 0) _ r (λ e. then_r (empty rest e))

-- ---- texts

record TextIn (octets text : List ℕ) : Type 0 where
  pub is : octets ≡ text
  pub fine : text_fine text ≡ true

text_in_found : (octets : List ℕ) → Holds (TextIn octets) (text_in octets)
unfolding text_in
text_in_found octets =
    holds_check (TextIn octets) (nat_lt (length octets) 256) _ _ (λ short.
    holds_check (TextIn octets) (is_utf8 octets) _ _ (λ utf8. record { is = refl; fine = and_from _ _ short utf8 }))

record NameIn (octets name : List ℕ) : Type 0 where
  pub is : octets ≡ name
  pub fine : name_fine name ≡ true

name_in_found : (octets : List ℕ) → Holds (NameIn octets) (name_in octets)
unfolding name_in
name_in_found octets =
    holds_check (NameIn octets) (nat_lt 0 (length octets)) _ _ (λ some.
    holds_map (TextIn octets) (NameIn octets) (text_in octets) (text_in_found octets) (λ name t. record { is = t.is; fine = and_from _ _ (ap (λ xs. nat_lt 0 (length xs)) (sym t.is) ∙ some) t.fine }))

record NameAt (octets : List ℕ) (x : List ℕ × List ℕ) : Type 0 where
  pub parts : octets ≡ sized One x.0 ++ x.1
  pub fine : name_fine x.0 ≡ true
  pub rest : IsBytes x.1

name_at_found : (octets : List ℕ) → IsBytes octets → Holds (NameAt octets) (name_at octets)
unfolding name_at
name_at_found octets bytes =
    holds_bind (TextIs One octets) (NameAt octets) (text_at One octets) _ (text_found One octets bytes) (λ name t.
    holds_check (NameAt octets) (nat_lt 0 (length name.0)) _ _ (λ some. record { parts = t.parts; fine = and_from _ _ some (and_from _ _ t.fit t.utf8); rest = t.rest }))

-- ---- xids

record XidIs (octets : List ℕ) (x : Xid × List ℕ) : Type 0 where
  pub parts : octets ≡ xid_octets x.0 ++ x.1
  pub fine : xid_fine x.0 ≡ true
  pub rest : IsBytes x.1

xid_found : (octets : List ℕ) → IsBytes octets → Holds (XidIs octets) (xid_at octets)
unfolding xid_at
xid_found octets bytes =
    holds_bind (NumberIs w32 4294967296 octets) (XidIs octets) (number_at w32 octets) _ (count_found octets bytes) (λ format f.
    holds_bind (SizedIs One format.1) (XidIs octets) (sized_at One format.1) _ (sized_found One format.1 f.rest) (λ global g.
    holds_bind (SizedIs One global.1) (XidIs octets) (sized_at One global.1) _ (sized_found One global.1 g.rest) (λ branch b. record {
      parts = f.parts ∙ (ap (λ xs. to_be_bytes w32 format.0 ++ xs) (g.parts ∙ (ap (λ xs. sized One global.0 ++ xs) b.parts ∙ sym (append_assoc (sized One global.0) (sized One branch.0) branch.1))) ∙ sym (append_assoc (to_be_bytes w32 format.0) (sized One global.0 ++ sized One branch.0) branch.1));
      fine = and_from _ _ (lt-ltb _ _ f.low) (and_from _ _ g.fit b.fit);
      rest = b.rest;
    })))

-- ---- copies

record PartIn (there : Bool) (octets : List ℕ) (part : Option (List ℕ)) : Type 0 where
  pub is : part ≡ where_there there octets
  pub nothing : there ≡ false → octets ≡ []

or_left_false : (a b : Bool) → a ≡ false → (a || b) ≡ true → b ≡ true
or_left_false true b e f = absurd (true≢false e)
or_left_false false b e f = f

part_in_found : (there : Bool) (octets : List ℕ) → Holds (PartIn there octets) (part_in there octets)
unfolding part_in
part_in_found there octets =
    holds_check (PartIn there octets) (there || length octets == 0) _ _ (λ h. record { is = refl; nothing = λ e. empty octets (or_left_false there (length octets == 0) e h) })

record PartsIn (marks : ℕ) (exchange header body : List ℕ) (copy : RowCopy) : Type 0 where
  pub exchange_is : exchange ≡ copy.exchange
  pub header_in : PartIn (has_header marks) header copy.header
  pub body_in : PartIn (has_body marks) body copy.body

parts_in_found : (marks : ℕ) (exchange header body : List ℕ) → Holds (PartsIn marks exchange header body) (parts_in marks exchange header body)
unfolding parts_in
parts_in_found marks exchange header body =
    holds_bind (PartIn (has_header marks) header) (PartsIn marks exchange header body) (part_in (has_header marks) header) _ (part_in_found (has_header marks) header) (λ h p.
    holds_bind (PartIn (has_body marks) body) (PartsIn marks exchange header body) (part_in (has_body marks) body) _ (part_in_found (has_body marks) body) (λ b q.
    record { exchange_is = refl; header_in = p; body_in = q }))

or_nothing_is : (there : Bool) (octets : List ℕ) (part : Option (List ℕ)) → PartIn there octets part → octets ≡ or_nothing part
or_nothing_is true octets part p = ap or_nothing (sym p.is)
or_nothing_is false octets part p = p.nothing refl ∙ ap or_nothing (sym p.is)

part_fine_is : (there : Bool) (octets : List ℕ) (part : Option (List ℕ)) → PartIn there octets part → fits Four (length octets) ≡ true → part_fine part ≡ true
part_fine_is true octets part p fit = ap part_fine p.is ∙ fit
part_fine_is false octets part p fit = ap part_fine p.is

-- below 4 the marks tell what is there
marks_are : (marks : ℕ) → marks < 4 → (header body : List ℕ) → marks ≡ marks_of (where_there (has_header marks) header) (where_there (has_body marks) body)
marks_are zero lt header body = refl
marks_are (suc zero) lt header body = refl
marks_are (suc (suc zero)) lt header body = refl
marks_are (suc (suc (suc zero))) lt header body = refl
marks_are (suc (suc (suc (suc n)))) lt header body = absurd (omega (arith, lt))

record MarkedIs (marks : ℕ) (octets : List ℕ) (copy : RowCopy) : Type 0 where
  pub marks_is : marks ≡ marks_of copy.header copy.body
  pub parts : octets ≡ sized One copy.exchange ++ (sized Four (or_nothing copy.header) ++ sized Four (or_nothing copy.body))
  pub fine : copy_fine copy ≡ true

marked_found : (marks : ℕ) (octets : List ℕ) → marks < 4 → IsBytes octets → Holds (MarkedIs marks octets) (marked_in marks octets)
unfolding marked_in
marked_found marks octets low bytes =
    holds_bind (TextIs One octets) (MarkedIs marks octets) (text_at One octets) _ (text_found One octets bytes) (λ exchange t.
    holds_bind (SizedIs Four exchange.1) (MarkedIs marks octets) (sized_at Four exchange.1) _ (sized_found Four exchange.1 t.rest) (λ header h.
    holds_bind (SizedIs Four header.1) (MarkedIs marks octets) (sized_at Four header.1) _ (sized_found Four header.1 h.rest) (λ body b.
    holds_end (MarkedIs marks octets) body.1 _ (λ none.
    holds_map (PartsIn marks exchange.0 header.0 body.0) (MarkedIs marks octets) (parts_in marks exchange.0 header.0 body.0) (parts_in_found marks exchange.0 header.0 body.0) (λ copy p. record {
      marks_is = marks_are marks low header.0 body.0 ∙ (ap (λ x. marks_of x (where_there (has_body marks) body.0)) (sym p.header_in.is) ∙ ap (λ x. marks_of copy.header x) (sym p.body_in.is));
      parts = t.parts ∙ (ap (λ xs. sized One xs ++ exchange.1) p.exchange_is
          ∙ ap (λ xs. sized One copy.exchange ++ xs) (h.parts ∙ (ap (λ xs. sized Four xs ++ header.1) (or_nothing_is (has_header marks) header.0 copy.header p.header_in)
          ∙ ap (λ xs. sized Four (or_nothing copy.header) ++ xs) (b.parts ∙ (ap (λ xs. sized Four body.0 ++ xs) none ∙ (append-nil (sized Four body.0) ∙ ap (sized Four) (or_nothing_is (has_body marks) body.0 copy.body p.body_in)))))));
      fine = and_from _ _ (ap text_fine (sym p.exchange_is) ∙ and_from _ _ t.fit t.utf8) (and_from _ _ (part_fine_is (has_header marks) header.0 copy.header p.header_in h.fit) (part_fine_is (has_body marks) body.0 copy.body p.body_in b.fit));
    })))))

record CopyIs (octets : List ℕ) (copy : RowCopy) : Type 0 where
  pub parts : octets ≡ copy_octets copy
  pub fine : copy_fine copy ≡ true

below : (n m : ℕ) → nat_lt n m ≡ true → n < m
below n m e = ltb-true n m e

copy_found : (octets : List ℕ) → IsBytes octets → Holds (CopyIs octets) (copy_in octets)
unfolding copy_in
copy_found octets bytes =
    holds_bind (NumberIs w8 256 octets) (CopyIs octets) (number_at w8 octets) _ (octet_found octets bytes) (λ marks m.
    holds_check (CopyIs octets) (nat_lt marks.0 4) _ _ (λ low.
    holds_map (MarkedIs marks.0 marks.1) (CopyIs octets) (marked_in marks.0 marks.1) (marked_found marks.0 marks.1 (below marks.0 4 low) m.rest) (λ copy c. record {
      parts = m.parts ∙ (ap (λ xs. xs ++ marks.1) (octet_is marks.0 m.low) ∙ (ap (λ n. n ∷ marks.1) c.marks_is ∙ ap (λ xs. marks_of copy.header copy.body ∷ xs) c.parts));
      fine = c.fine;
    })))

-- ---- arguments

record MapIs (octets : List ℕ) (value : Value) : Type 0 where
  pub parts : octets ≡ spelling value
  pub fine : coded 168 value ≡ true

map_found : (octets : List ℕ) → IsBytes octets → Holds (MapIs octets) (map_in octets)
unfolding map_in
map_found octets bytes =
    holds_bind (ValueIs 16 168 octets) (MapIs octets) (value_at 16 168 octets) _ (finds 16 168 octets bytes) (λ value v.
    holds_end (MapIs octets) value.1 _ (λ none. record {
      parts = v.parts ∙ (ap (λ xs. spelling value.0 ++ xs) none ∙ append-nil (spelling value.0));
      fine = coded_is octets value v;
    })) where
      coded_is : (octets : List ℕ) (value : Value × List ℕ) → ValueIs 16 168 octets value → coded 168 value.0 ≡ true
      coded_is octets value v = and_from _ _ (eq-eqb _ _ v.code_is) (and_from _ _ v.fine (le-leb _ _ v.levels))

record PerhapsIs (octets : List ℕ) (arguments : Option Value) : Type 0 where
  pub parts : octets ≡ map_octets arguments
  pub fine : fits Four (length octets) ≡ true → arguments_fine arguments ≡ true

perhaps_go : (octets : List ℕ) (b : Bool) → (length octets == 0) ≡ b → IsBytes octets → Holds (PerhapsIs octets) (if b then Ok None else (map_in octets >>= λ value. Ok (Some value)))
perhaps_go octets true e bytes = record { parts = empty octets e; fine = λ fit. refl }
perhaps_go octets false e bytes =
    holds_bind (MapIs octets) (PerhapsIs octets) (map_in octets) (λ value. Ok (Some value)) (map_found octets bytes) (λ value m. record {
      parts = m.parts;
      fine = λ fit. and_from _ _ m.fine (ap (λ xs. fits Four (length xs)) (sym m.parts) ∙ fit);
    })

perhaps_found : (octets : List ℕ) → IsBytes octets → Holds (PerhapsIs octets) (perhaps_in octets)
unfolding perhaps_in
perhaps_found octets bytes = perhaps_go octets (length octets == 0) refl bytes

record ArgumentsAre (octets : List ℕ) (arguments : Option Value) : Type 0 where
  pub parts : octets ≡ arguments_octets arguments
  pub fine : arguments_fine arguments ≡ true

arguments_found : (octets : List ℕ) → IsBytes octets → Holds (ArgumentsAre octets) (arguments_in octets)
unfolding arguments_in
arguments_found octets bytes =
    holds_bind (SizedIs Four octets) (ArgumentsAre octets) (sized_at Four octets) _ (sized_found Four octets bytes) (λ part p.
    holds_end (ArgumentsAre octets) part.1 _ (λ none.
    holds_map (PerhapsIs part.0) (ArgumentsAre octets) (perhaps_in part.0) (perhaps_found part.0 p.inside) (λ arguments a. record {
      parts = p.parts ∙ (ap (λ xs. sized Four part.0 ++ xs) none ∙ (append-nil (sized Four part.0) ∙ ap (sized Four) a.parts));
      fine = a.fine p.fit;
    })))

-- ---- rows

record KeptIs (letter : ℕ) (key content : List ℕ) (kept : Kept) : Type 0 where
  pub letter_is : letter ≡ letter_of kept
  pub key_is : key ≡ name_of kept
  pub inside_is : content ≡ inside_of kept
  pub fine : has_row kept ≡ true

-- a part that ends what there is
last_is : (octets front rest : List ℕ) → octets ≡ front ++ rest → rest ≡ [] → octets ≡ front
last_is octets front rest e n = e ∙ (ap (λ xs. front ++ xs) n ∙ append-nil front)

branch_found : (key content : List ℕ) → IsBytes key → IsBytes content → Holds (KeptIs 66 key content) (branch_in key content)
unfolding branch_in
branch_found key content kb cb =
    holds_bind (XidIs key) (KeptIs 66 key content) (xid_at key) _ (xid_found key kb) (λ xid x.
    holds_end (KeptIs 66 key content) xid.1 _ (λ none.
    holds_bind (NumberIs w32 4294967296 content) (KeptIs 66 key content) (number_at w32 content) _ (count_found content cb) (λ count c.
    holds_end (KeptIs 66 key content) count.1 _ (λ none2. record {
      letter_is = refl;
      key_is = last_is key (xid_octets xid.0) xid.1 x.parts none;
      inside_is = last_is content (to_be_bytes w32 count.0) count.1 c.parts none2;
      fine = and_from _ _ x.fine (lt-ltb _ _ c.low);
    }))))

record IntentIs (xid : Xid) (index : ℕ) (accept : Bool) (content : List ℕ) (kept : Kept) : Type 0 where
  pub queue : List ℕ
  pub number : ℕ
  pub copy : RowCopy
  pub kept_is : kept ≡ Intent xid index accept queue number copy
  pub parts : content ≡ sized One queue ++ (to_be_bytes w64 number ++ copy_octets copy)
  pub queue_fine : name_fine queue ≡ true
  pub number_is : number_fine accept number ≡ true
  pub copy_is : copy_fine copy ≡ true

intent_of_found : (xid : Xid) (index : ℕ) (accept : Bool) (content : List ℕ) → IsBytes content → Holds (IntentIs xid index accept content) (intent_of xid index accept content)
unfolding intent_of
intent_of_found xid index accept content cb =
    holds_bind (NameAt content) (IntentIs xid index accept content) (name_at content) _ (name_at_found content cb) (λ queue q.
    holds_bind (NumberIs w64 18446744073709551616 queue.1) (IntentIs xid index accept content) (number_at w64 queue.1) _ (eight_found queue.1 q.rest) (λ number n.
    holds_check (IntentIs xid index accept content) (number_fine accept number.0) _ _ (λ fine.
    holds_bind (CopyIs number.1) (IntentIs xid index accept content) (copy_in number.1) _ (copy_found number.1 n.rest) (λ copy c. record {
      queue = queue.0;
      number = number.0;
      copy = copy;
      kept_is = refl;
      parts = q.parts ∙ ap (λ xs. sized One queue.0 ++ xs) (n.parts ∙ ap (λ xs. to_be_bytes w64 number.0 ++ xs) c.parts);
      queue_fine = q.fine;
      number_is = fine;
      copy_is = c.fine;
    }))))

kind_is : (kind : ℕ) → kind < 2 → kind ≡ kind_of (kind == 1)
kind_is zero lt = refl
kind_is (suc zero) lt = refl
kind_is (suc (suc n)) lt = absurd (omega (arith, lt))

intent_found : (key content : List ℕ) → IsBytes key → IsBytes content → Holds (KeptIs 73 key content) (intent_in key content)
unfolding intent_in
intent_found key content kb cb =
    holds_bind (XidIs key) (KeptIs 73 key content) (xid_at key) _ (xid_found key kb) (λ xid x.
    holds_bind (NumberIs w32 4294967296 xid.1) (KeptIs 73 key content) (number_at w32 xid.1) _ (count_found xid.1 x.rest) (λ index i.
    holds_end (KeptIs 73 key content) index.1 _ (λ none.
    holds_bind (NumberIs w8 256 content) (KeptIs 73 key content) (number_at w8 content) _ (octet_found content cb) (λ kind k.
    holds_check (KeptIs 73 key content) (nat_lt kind.0 2) _ _ (λ low.
    holds_map (IntentIs xid.0 index.0 (kind.0 == 1) kind.1) (KeptIs 73 key content) (intent_of xid.0 index.0 (kind.0 == 1) kind.1) (intent_of_found xid.0 index.0 (kind.0 == 1) kind.1 k.rest) (λ kept p.
    subst (KeptIs 73 key content) (sym p.kept_is) (record {
      letter_is = refl;
      key_is = x.parts ∙ ap (λ xs. xid_octets xid.0 ++ xs) (last_is xid.1 (to_be_bytes w32 index.0) index.1 i.parts none);
      inside_is = k.parts ∙ (ap (λ xs. xs ++ kind.1) (octet_is kind.0 k.low) ∙ (ap (λ n. n ∷ kind.1) (kind_is kind.0 (below kind.0 2 low)) ∙ ap (λ xs. kind_of (kind.0 == 1) ∷ xs) p.parts));
      fine = and_from _ _ (and_from _ _ x.fine (lt-ltb _ _ i.low)) (and_from _ _ (and_from _ _ p.queue_fine p.number_is) p.copy_is);
    })))))))

message_found : (key content : List ℕ) → IsBytes key → IsBytes content → Holds (KeptIs 77 key content) (message_in key content)
unfolding message_in
message_found key content kb cb =
    holds_bind (NameAt key) (KeptIs 77 key content) (name_at key) _ (name_at_found key kb) (λ queue q.
    holds_bind (NumberIs w64 18446744073709551616 queue.1) (KeptIs 77 key content) (number_at w64 queue.1) _ (eight_found queue.1 q.rest) (λ number n.
    holds_end (KeptIs 77 key content) number.1 _ (λ none.
    holds_check (KeptIs 77 key content) (number_fine true number.0) _ _ (λ fine.
    holds_bind (CopyIs content) (KeptIs 77 key content) (copy_in content) _ (copy_found content cb) (λ copy c. record {
      letter_is = refl;
      key_is = q.parts ∙ ap (λ xs. sized One queue.0 ++ xs) (last_is queue.1 (to_be_bytes w64 number.0) number.1 n.parts none);
      inside_is = c.parts;
      fine = and_from _ _ (and_from _ _ q.fine fine) c.fine;
    })))))

queue_found : (key content : List ℕ) → IsBytes key → IsBytes content → Holds (KeptIs 81 key content) (queue_in key content)
unfolding queue_in
queue_found key content kb cb =
    holds_bind (NameIn key) (KeptIs 81 key content) (name_in key) _ (name_in_found key) (λ name n.
    holds_bind (TextIs One content) (KeptIs 81 key content) (text_at One content) _ (text_found One content cb) (λ alternate t.
    holds_bind (ArgumentsAre alternate.1) (KeptIs 81 key content) (arguments_in alternate.1) _ (arguments_found alternate.1 t.rest) (λ arguments a. record {
      letter_is = refl;
      key_is = n.is;
      inside_is = t.parts ∙ ap (λ xs. sized One alternate.0 ++ xs) a.parts;
      fine = and_from _ _ n.fine (and_from _ _ (and_from _ _ t.fit t.utf8) a.fine);
    })))

record ExchangeIs (name : List ℕ) (kind : ℕ) (content : List ℕ) (kept : Kept) : Type 0 where
  pub alternate : List ℕ
  pub arguments : Option Value
  pub kept_is : kept ≡ Exchange name kind alternate arguments
  pub parts : content ≡ sized One alternate ++ arguments_octets arguments
  pub fine : (text_fine alternate && arguments_fine arguments) ≡ true

exchange_of_found : (name : List ℕ) (kind : ℕ) (content : List ℕ) → IsBytes content → Holds (ExchangeIs name kind content) (exchange_of name kind content)
unfolding exchange_of
exchange_of_found name kind content cb =
    holds_bind (TextIs One content) (ExchangeIs name kind content) (text_at One content) _ (text_found One content cb) (λ alternate t.
    holds_bind (ArgumentsAre alternate.1) (ExchangeIs name kind content) (arguments_in alternate.1) _ (arguments_found alternate.1 t.rest) (λ arguments a. record {
      alternate = alternate.0;
      arguments = arguments;
      kept_is = refl;
      parts = t.parts ∙ ap (λ xs. sized One alternate.0 ++ xs) a.parts;
      fine = and_from _ _ (and_from _ _ t.fit t.utf8) a.fine;
    }))

exchange_found : (key content : List ℕ) → IsBytes key → IsBytes content → Holds (KeptIs 69 key content) (exchange_in key content)
unfolding exchange_in
exchange_found key content kb cb =
    holds_bind (NameIn key) (KeptIs 69 key content) (name_in key) _ (name_in_found key) (λ name n.
    holds_check (KeptIs 69 key content) (not (is_reserved key)) _ _ (λ free.
    holds_bind (NumberIs w8 256 content) (KeptIs 69 key content) (number_at w8 content) _ (octet_found content cb) (λ kind k.
    holds_check (KeptIs 69 key content) (nat_lt kind.0 4) _ _ (λ low.
    holds_map (ExchangeIs name kind.0 kind.1) (KeptIs 69 key content) (exchange_of name kind.0 kind.1) (exchange_of_found name kind.0 kind.1 k.rest) (λ kept p.
    subst (KeptIs 69 key content) (sym p.kept_is) (record {
      letter_is = refl;
      key_is = n.is;
      inside_is = k.parts ∙ (ap (λ xs. xs ++ kind.1) (octet_is kind.0 k.low) ∙ ap (λ xs. kind.0 ∷ xs) p.parts);
      fine = and_from _ _ (and_from _ _ n.fine (ap (λ k. not (is_reserved k)) (sym n.is) ∙ free)) (and_from _ _ low p.fine);
    }))))))

binding_found : (key content : List ℕ) → IsBytes key → IsBytes content → Holds (KeptIs 82 key content) (binding_in key content)
unfolding binding_in
binding_found key content kb cb =
    holds_bind (NameAt key) (KeptIs 82 key content) (name_at key) _ (name_at_found key kb) (λ exchange e.
    holds_bind (NameAt exchange.1) (KeptIs 82 key content) (name_at exchange.1) _ (name_at_found exchange.1 e.rest) (λ queue q.
    holds_bind (TextIn queue.1) (KeptIs 82 key content) (text_in queue.1) _ (text_in_found queue.1) (λ word w.
    holds_bind (ArgumentsAre content) (KeptIs 82 key content) (arguments_in content) _ (arguments_found content cb) (λ arguments a. record {
      letter_is = refl;
      key_is = e.parts ∙ ap (λ xs. sized One exchange.0 ++ xs) (q.parts ∙ ap (λ xs. sized One queue.0 ++ xs) w.is);
      inside_is = a.parts;
      fine = and_from _ _ (and_from _ _ e.fine (and_from _ _ q.fine w.fine)) a.fine;
    }))))

-- by the letter of the key, one test after the other
letter_go : (letter code : ℕ) (key content : List ℕ) (b : Bool) (r s : Result Kept Flaw) → (letter == code) ≡ b → Holds (KeptIs code key content) r → Holds (KeptIs letter key content) s → Holds (KeptIs letter key content) (if b then r else s)
letter_go letter code key content true r s e h g = subst (λ n. Holds (KeptIs n key content) r) (sym (eqb-true letter code e)) h
letter_go letter code key content false r s e h g = g

row_found : (letter : ℕ) (key content : List ℕ) → IsBytes key → IsBytes content → Holds (KeptIs letter key content) (row_in letter key content)
row_found letter key content kb cb =
    letter_go letter 66 key content (letter == 66) _ _ refl (branch_found key content kb cb)
    (letter_go letter 73 key content (letter == 73) _ _ refl (intent_found key content kb cb)
    (letter_go letter 77 key content (letter == 77) _ _ refl (message_found key content kb cb)
    (letter_go letter 81 key content (letter == 81) _ _ refl (queue_found key content kb cb)
    (letter_go letter 69 key content (letter == 69) _ _ refl (exchange_found key content kb cb)
    (letter_go letter 82 key content (letter == 82) _ _ refl (binding_found key content kb cb) tt)))))

kept_found : (key content : List ℕ) → IsBytes key → IsBytes content → Holds (IsRowOf (record { key = key; content = content })) (kept_in key content)
unfolding kept_in
kept_found key content kb cb =
    let Q = IsRowOf (record { key = key; content = content }) in
    holds_bind (NumberIs w8 256 key) Q (number_at w8 key) _ (octet_found key kb) (λ letter l.
    holds_bind (NumberIs w8 256 content) Q (number_at w8 content) _ (octet_found content cb) (λ format f.
    holds_check Q (has_format letter.0 format.0) _ _ (λ fits.
    holds_map (KeptIs letter.0 letter.1 format.1) Q (row_in letter.0 letter.1 format.1) (row_found letter.0 letter.1 format.1 l.rest f.rest) (λ kept k. record {
      fine = k.fine;
      format = format.0;
      formats = ap (λ n. has_format n format.0) (sym k.letter_is) ∙ fits;
      key_is = l.parts ∙ (ap (λ xs. xs ++ letter.1) (octet_is letter.0 l.low) ∙ (ap (λ n. n ∷ letter.1) k.letter_is ∙ ap (λ xs. letter_of kept ∷ xs) k.key_is));
      content_is = f.parts ∙ (ap (λ xs. xs ++ format.1) (octet_is format.0 f.low) ∙ ap (λ xs. format.0 ∷ xs) k.inside_is);
    }))))

-- for the public call
found_by : (key content : List ℕ) (r : Result Kept RowError) (read : Result Kept Flaw) → Holds (IsRowOf (record { key = key; content = content })) read → Answers r read → IfOk r (λ kept. IsRowOf (record { key = key; content = content }) kept)
found_by key content (Err error) read h a = tt
found_by key content (Ok kept) read h a = subst (Holds (IsRowOf (record { key = key; content = content }))) a h

pub found_in : (key content : List ℕ) (r : Result Kept RowError) → IsBytes key → IsBytes content → Answers r (kept_in key content) → IfOk r (λ kept. IsRowOf (record { key = key; content = content }) kept)
found_in key content r kb cb a = found_by key content r (kept_in key content) (kept_found key content kb cb) a
