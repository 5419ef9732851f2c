-- What a row keeps, read by the form of its key and content.
use Rattle.std.specs.Prelude.{◌≡◌, ℕ, ◌==◌, ◌||◌, not, nat_lt, Bool, true, if◌then◌else◌, List, length, Option, None, Some, Result, Ok, Err}
use Rattle.std.specs.Int.{w8, w32, w64}
use Rattle.std.specs.Str.{is_utf8}
use Rattle.octet_reading.specs.declared.why.Why.TheVariants.{Short, BadText, SizeDiffers, BadStruct, UnknownCode, BadBoolean}
use Rattle.octet_reading.specs.declared.part.SizeWidth.TheVariants.{One, Four}
use Rattle.octet_reading.specs.declared.flaw.Flaw.{Flaw}
use Rattle.octet_reading.specs.Reading.{Taken, ◌>>=◌, check, flaw_at, number_at, sized_at, text_at, ended}
use Rattle.amqp_values.specs.declared.value.Value.{Value}
use Rattle.amqp_values.specs.declared.value.Xid.{Xid}
use Rattle.amqp_values.specs.Values.{value_at}
use Rattle.keeper_rows.specs.declared.kept.RowCopy.{RowCopy}
use Rattle.keeper_rows.specs.declared.kept.Kept.{Kept}
use Rattle.keeper_rows.specs.declared.kept.Kept.TheVariants.{Branch, Intent, Message, Queue, Exchange, Binding}
use Rattle.keeper_rows.specs.declared.kept.RowError.{RowError}
use Rattle.keeper_rows.specs.declared.kept.RowError.TheVariants.{BadRow, NoMemory}
use Rattle.keeper_rows.specs.Rows.{is_reserved, number_fine, has_format}

-- a text that is all there is
unfoldable pub text_in : List ℕ → Result (List ℕ) Flaw
text_in octets = do
  _ ← check (nat_lt (length octets) 256) (flaw_at SizeDiffers octets)
  _ ← check (is_utf8 octets) (flaw_at BadText octets)
  Ok octets

-- the same, and not empty
unfoldable pub name_in : List ℕ → Result (List ℕ) Flaw
name_in octets = do
  _ ← check (nat_lt 0 (length octets)) (flaw_at Short octets)
  text_in octets

-- a name behind its size
unfoldable pub name_at : List ℕ → Taken (List ℕ)
name_at octets = do
  name ← text_at One octets
  _ ← check (nat_lt 0 (length name.0)) (flaw_at Short octets)
  Ok name

unfoldable pub xid_at : List ℕ → Taken Xid
xid_at octets = do
  format ← number_at w32 octets
  global ← sized_at One format.1
  branch ← sized_at One global.1
  Ok (record { format = format.0; global = global.0; branch = branch.0 }, branch.1)

-- ---- copies

abbrev pub has_header : ℕ → Bool
has_header marks = marks == 1 || marks == 3

abbrev pub has_body : ℕ → Bool
has_body marks = marks == 2 || marks == 3

abbrev pub where_there : Bool → List ℕ → Option (List ℕ)
where_there there octets = if there then Some octets else None

-- what isn't there has no octets
unfoldable pub part_in : Bool → List ℕ → Result (Option (List ℕ)) Flaw
part_in there octets = do
  _ ← check (there || length octets == 0) (flaw_at SizeDiffers octets)
  Ok (where_there there octets)

unfoldable pub parts_in : ℕ → List ℕ → List ℕ → List ℕ → Result RowCopy Flaw
parts_in marks exchange header body = do
  header ← part_in (has_header marks) header
  body ← part_in (has_body marks) body
  Ok (record { exchange = exchange; header = header; body = body })

unfoldable pub marked_in : ℕ → List ℕ → Result RowCopy Flaw
marked_in marks octets = do
  exchange ← text_at One octets
  header ← sized_at Four exchange.1
  body ← sized_at Four header.1
  _ ← ended body.1
  parts_in marks exchange.0 header.0 body.0

unfoldable pub copy_in : List ℕ → Result RowCopy Flaw
copy_in octets = do
  marks ← number_at w8 octets
  _ ← check (nat_lt marks.0 4) (flaw_at BadStruct octets)
  marked_in marks.0 marks.1

-- ---- arguments

unfoldable pub map_in : List ℕ → Result Value Flaw
map_in octets = do
  value ← value_at 16 168 octets
  _ ← ended value.1
  Ok value.0

-- no octets are no arguments
unfoldable pub perhaps_in : List ℕ → Result (Option Value) Flaw
perhaps_in octets = if length octets == 0 then Ok None else (map_in octets >>= λ value. Ok (Some value))

unfoldable pub arguments_in : List ℕ → Result (Option Value) Flaw
arguments_in octets = do
  part ← sized_at Four octets
  _ ← ended part.1
  perhaps_in part.0

-- ---- rows, by the letter of the key

unfoldable pub branch_in : List ℕ → List ℕ → Result Kept Flaw
branch_in key content = do
  xid ← xid_at key
  _ ← ended xid.1
  count ← number_at w32 content
  _ ← ended count.1
  Ok (Branch xid.0 count.0)

-- what stands behind the kind of an intent
unfoldable pub intent_of : Xid → ℕ → Bool → List ℕ → Result Kept Flaw
intent_of xid index accept content = do
  queue ← name_at content
  number ← number_at w64 queue.1
  _ ← check (number_fine accept number.0) (flaw_at BadStruct queue.1)
  copy ← copy_in number.1
  Ok (Intent xid index accept queue.0 number.0 copy)

unfoldable pub intent_in : List ℕ → List ℕ → Result Kept Flaw
intent_in key content = do
  xid ← xid_at key
  index ← number_at w32 xid.1
  _ ← ended index.1
  kind ← number_at w8 content
  _ ← check (nat_lt kind.0 2) (flaw_at BadBoolean content)
  intent_of xid.0 index.0 (kind.0 == 1) kind.1

unfoldable pub message_in : List ℕ → List ℕ → Result Kept Flaw
message_in key content = do
  queue ← name_at key
  number ← number_at w64 queue.1
  _ ← ended number.1
  _ ← check (number_fine true number.0) (flaw_at BadStruct queue.1)
  copy ← copy_in content
  Ok (Message queue.0 number.0 copy)

unfoldable pub queue_in : List ℕ → List ℕ → Result Kept Flaw
queue_in key content = do
  name ← name_in key
  alternate ← text_at One content
  arguments ← arguments_in alternate.1
  Ok (Queue name alternate.0 arguments)

-- what stands behind the kind of an exchange
unfoldable pub exchange_of : List ℕ → ℕ → List ℕ → Result Kept Flaw
exchange_of name kind content = do
  alternate ← text_at One content
  arguments ← arguments_in alternate.1
  Ok (Exchange name kind alternate.0 arguments)

unfoldable pub exchange_in : List ℕ → List ℕ → Result Kept Flaw
exchange_in key content = do
  name ← name_in key
  _ ← check (not (is_reserved key)) (flaw_at BadStruct key)
  kind ← number_at w8 content
  _ ← check (nat_lt kind.0 4) (flaw_at BadStruct content)
  exchange_of name kind.0 kind.1

unfoldable pub binding_in : List ℕ → List ℕ → Result Kept Flaw
binding_in key content = do
  exchange ← name_at key
  queue ← name_at exchange.1
  word ← text_in queue.1
  arguments ← arguments_in content
  Ok (Binding exchange.0 queue.0 word arguments)

abbrev pub row_in : ℕ → List ℕ → List ℕ → Result Kept Flaw
row_in letter key content =
    if letter == 66 then branch_in key content
    else if letter == 73 then intent_in key content
    else if letter == 77 then message_in key content
    else if letter == 81 then queue_in key content
    else if letter == 69 then exchange_in key content
    else if letter == 82 then binding_in key content
    else Err (flaw_at UnknownCode key)

unfoldable pub kept_in : List ℕ → List ℕ → Result Kept Flaw
kept_in key content = do
  letter ← number_at w8 key
  format ← number_at w8 content
  _ ← check (has_format letter.0 format.0) (flaw_at BadStruct content)
  row_in letter.0 letter.1 format.1

-- what reading answers; which flaw it is isn't told
abbrev pub Answers : Result Kept RowError → Result Kept Flaw → Type 0
Answers (Ok kept) read = read ≡ Ok kept
Answers (Err BadRow) (Ok kept) = ⊥
Answers (Err BadRow) (Err flaw) = Unit {0}
Answers (Err NoMemory) read = Unit {0}
