-- The rows of what is kept.
use Rattle.std.specs.Prelude.{◌≡◌, ℕ, ◌^◌, ◌==◌, ◌&&◌, ◌||◌, not, nat_eq, nat_lt, nat_le, Bool, true, if◌then◌else◌, List, [], ◌∷◌, ◌++◌, length, Option, None, Some}
use Rattle.std.specs.Int.{w32, w64, to_be_bytes}
use Rattle.std.specs.Str.{is_utf8}
use Rattle.std.specs.List.{starts_with}
use Rattle.octet_reading.specs.declared.part.SizeWidth.TheVariants.{One, Four}
use Rattle.octet_reading.specs.Spelling.{sized, fits}
use Rattle.amqp_values.specs.declared.value.Value.{Value}
use Rattle.amqp_values.specs.declared.value.Xid.{Xid}
use Rattle.amqp_values.specs.Spelling.{spelling}
use Rattle.amqp_packed.specs.Spelling.{coded}
use Rattle.keeper_core.specs.declared.row.Row.{Row}
use Rattle.keeper_rows.specs.declared.kept.RowCopy.{RowCopy}
use Rattle.keeper_rows.specs.declared.kept.Kept.{Kept}
use Rattle.keeper_rows.specs.declared.kept.Kept.TheVariants.{Branch, Intent, Message, Queue, Exchange, Binding}

-- ---- what has a row

abbrev pub text_fine : List ℕ → Bool
text_fine text = fits One (length text) && is_utf8 text

-- a name isn't empty
abbrev pub name_fine : List ℕ → Bool
name_fine name = nat_lt 0 (length name) && text_fine name

-- the names of the exchanges that are there from the start, and others like them, have no row
abbrev pub is_reserved : List ℕ → Bool
is_reserved name = starts_with nat_eq name (97 ∷ 109 ∷ 113 ∷ 46 ∷ [])

-- a publish has no number yet; a copy's is at least 1
abbrev pub number_fine : Bool → ℕ → Bool
number_fine has_copy number = if has_copy then nat_lt 0 number && nat_le number (2 ^ 62) else number == 0

abbrev pub xid_fine : Xid → Bool
xid_fine xid = nat_lt xid.format 4294967296 && (fits One (length xid.global) && fits One (length xid.branch))

abbrev pub part_fine : Option (List ℕ) → Bool
part_fine None = true
part_fine (Some octets) = fits Four (length octets)

abbrev pub copy_fine : RowCopy → Bool
copy_fine copy = text_fine copy.exchange && (part_fine copy.header && part_fine copy.body)

-- arguments are a map
abbrev pub arguments_fine : Option Value → Bool
arguments_fine None = true
arguments_fine (Some value) = coded 168 value && fits Four (length (spelling value))

abbrev pub has_row : Kept → Bool
has_row (Branch xid count) = xid_fine xid && nat_lt count 4294967296
has_row (Intent xid index accept queue number copy) = (xid_fine xid && nat_lt index 4294967296) && ((name_fine queue && (number_fine accept number)) && copy_fine copy)
has_row (Message queue number copy) = (name_fine queue && number_fine true number) && copy_fine copy
has_row (Queue name alternate arguments) = name_fine name && (text_fine alternate && arguments_fine arguments)
has_row (Exchange name kind alternate arguments) = (name_fine name && not (is_reserved name)) && (nat_lt kind 4 && (text_fine alternate && arguments_fine arguments))
has_row (Binding exchange queue key arguments) = (name_fine exchange && (name_fine queue && text_fine key)) && arguments_fine arguments

-- ---- keys

abbrev pub xid_octets : Xid → List ℕ
xid_octets xid = to_be_bytes w32 xid.format ++ (sized One xid.global ++ sized One xid.branch)

-- the letters are B, I, M, Q, E and R
abbrev pub letter_of : Kept → ℕ
letter_of (Branch xid count) = 66
letter_of (Intent xid index accept queue number copy) = 73
letter_of (Message queue number copy) = 77
letter_of (Queue name alternate arguments) = 81
letter_of (Exchange name kind alternate arguments) = 69
letter_of (Binding exchange queue key arguments) = 82

abbrev pub name_of : Kept → List ℕ
name_of (Branch xid count) = xid_octets xid
name_of (Intent xid index accept queue number copy) = xid_octets xid ++ to_be_bytes w32 index
name_of (Message queue number copy) = sized One queue ++ to_be_bytes w64 number
name_of (Queue name alternate arguments) = name
name_of (Exchange name kind alternate arguments) = name
name_of (Binding exchange queue key arguments) = sized One exchange ++ (sized One queue ++ key)

abbrev pub key_of : Kept → List ℕ
key_of kept = letter_of kept ∷ name_of kept

-- ---- contents

abbrev pub or_nothing : Option (List ℕ) → List ℕ
or_nothing None = []
or_nothing (Some octets) = octets

-- 1 for a header, 2 for a body
abbrev pub marks_of : Option (List ℕ) → Option (List ℕ) → ℕ
marks_of None None = 0
marks_of (Some header) None = 1
marks_of None (Some body) = 2
marks_of (Some header) (Some body) = 3

abbrev pub copy_octets : RowCopy → List ℕ
copy_octets copy = marks_of copy.header copy.body ∷ (sized One copy.exchange ++ (sized Four (or_nothing copy.header) ++ sized Four (or_nothing copy.body)))

abbrev pub map_octets : Option Value → List ℕ
map_octets None = []
map_octets (Some value) = spelling value

abbrev pub arguments_octets : Option Value → List ℕ
arguments_octets arguments = sized Four (map_octets arguments)

-- 1 for an accept
abbrev pub kind_of : Bool → ℕ
kind_of accept = if accept then 1 else 0

abbrev pub inside_of : Kept → List ℕ
inside_of (Branch xid count) = to_be_bytes w32 count
inside_of (Intent xid index accept queue number copy) = kind_of accept ∷ (sized One queue ++ (to_be_bytes w64 number ++ copy_octets copy))
inside_of (Message queue number copy) = copy_octets copy
inside_of (Queue name alternate arguments) = sized One alternate ++ arguments_octets arguments
inside_of (Exchange name kind alternate arguments) = kind ∷ (sized One alternate ++ arguments_octets arguments)
inside_of (Binding exchange queue key arguments) = arguments_octets arguments

-- the row that is written; its format is 2
abbrev pub row_of : Kept → Row
row_of kept = record { key = key_of kept; content = 2 ∷ inside_of kept }

-- rows with these letters may have format 1 too
abbrev pub is_old : ℕ → Bool
is_old letter = (letter == 66 || letter == 73) || (letter == 77 || letter == 81)

abbrev pub has_format : ℕ → ℕ → Bool
has_format letter format = (format == 2) || (format == 1 && is_old letter)

-- a row of what is kept, in either format
pub record IsRowOf (row : Row) (kept : Kept) : Type 0 where
  pub fine : has_row kept ≡ true
  pub format : ℕ
  pub formats : has_format (letter_of kept) format ≡ true
  pub key_is : row.key ≡ key_of kept
  pub content_is : row.content ≡ format ∷ inside_of kept
