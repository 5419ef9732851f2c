-- Reading from left to right, with the first flaw that is met.
use Rattle.std.specs.Prelude.{◌≡◌, ℕ, zero, suc, ◌+◌, ◌-◌, ◌^◌, ◌==◌, ◌<◌, ◌≤◌, min, Bool, nat_lt, if◌then◌else◌, List, [], ◌∷◌, ◌++◌, length, take, drop, slice_index, Result, Ok, Err}
use Rattle.std.specs.Int.{Width, w8, w16, w32, byte_len, from_be_bytes}
use Rattle.std.specs.Str.{is_utf8}
use Rattle.octet_reading.specs.declared.why.Why.{Why}
use Rattle.octet_reading.specs.declared.why.Why.TheVariants.{Short, BadText, SizeDiffers, CountDiffers}
use Rattle.octet_reading.specs.declared.flaw.Flaw.{Flaw}
use Rattle.octet_reading.specs.declared.flaw.ReadError.{ReadError}
use Rattle.octet_reading.specs.declared.flaw.ReadError.TheVariants as error
use Rattle.octet_reading.specs.declared.part.SizeWidth.{SizeWidth}
use Rattle.octet_reading.specs.declared.part.SizeWidth.TheVariants.{One, Two, Four}

-- a value and the octets after it, or the first flaw
abbrev pub Taken : Type 0 → Type 0
Taken A = Result (A × List ℕ) Flaw

infixl 10 ◌>>=◌
abbrev pub ◌>>=◌ : {A B : Type 0} → Result A Flaw → (A → Result B Flaw) → Result B Flaw
(Ok x) >>= f = f x
(Err e) >>= f = Err e

-- what a function answered is what reading gives, unless memory was wanting
abbrev pub Fails : {Y : Type 0} → ReadError → Result Y Flaw → Type 0
Fails error.Memory read = Unit {0}
Fails (error.Flaw f) read = read ≡ Err f

abbrev pub Gives : {X Y : Type 0} → (X → Y) → Result X ReadError → Result Y Flaw → Type 0
Gives view (Ok x) read = read ≡ Ok (view x)
Gives view (Err e) read = Fails e read

-- what follows is so long at most, and so many octets at most are left from a flaw on
abbrev pub Within : {X : Type 0} → (X → List ℕ) → ℕ → Result X ReadError → Type 0
Within rest limit (Ok x) = length (rest x) ≤ limit
Within rest limit (Err error.Memory) = Unit {0}
Within rest limit (Err (error.Flaw f)) = f.left ≤ limit

-- a flaw at the front of these octets
abbrev pub flaw_at : Why → List ℕ → Flaw
flaw_at why octets = record { left = length octets; why = why }

-- a test that must hold
abbrev pub check : Bool → Flaw → Result (Unit {0}) Flaw
check b flaw = if b then Ok tt else Err flaw

-- a number
abbrev pub number_at : Width → List ℕ → Taken ℕ
number_at w octets =
    if nat_lt (length octets) (byte_len w) then Err (flaw_at Short octets) else Ok (from_be_bytes w (take (byte_len w) octets), drop (byte_len w) octets)

-- so many octets; where they aren't there, the flaw is at `from`
abbrev pub part_at : List ℕ → List ℕ → ℕ → Taken (List ℕ)
part_at from octets size = if nat_lt (length octets) size then Err (flaw_at Short from) else Ok (take size octets, drop size octets)

abbrev pub width_of : SizeWidth → Width
width_of One = w8
width_of Two = w16
width_of Four = w32

abbrev pub size_at : SizeWidth → List ℕ → Taken ℕ
size_at width octets = number_at (width_of width) octets

-- octets behind their size; where they aren't there, the flaw is at the size
unfoldable pub sized_at : SizeWidth → List ℕ → Taken (List ℕ)
sized_at width octets = do
  size ← size_at width octets
  part_at octets size.1 size.0

-- a text behind its size; where it isn't one, the flaw is at its first octet
unfoldable pub text_at : SizeWidth → List ℕ → Taken (List ℕ)
text_at width octets = do
  part ← sized_at width octets
  _ ← check (is_utf8 part.0) (record { left = length part.0 + length part.1; why = BadText })
  Ok part

-- so many items, after those in front; where none is left, the flaw is at `from`
unfoldable pub many_at : {A : Type 0} → (List A → List ℕ → Taken A) → List A → ℕ → ℕ → List ℕ → Taken (List A)
many_at one front zero from octets = Ok (front, octets)
many_at one front (suc n) from octets = do
  _ ← check (nat_lt 0 (length octets)) (record { left = from; why = CountDiffers })
  x ← one front octets
  many_at one (front ++ x.0 ∷ []) n from x.1

-- nothing is left
abbrev pub ended : List ℕ → Result (Unit {0}) Flaw
ended rest = check (length rest == 0) (flaw_at SizeDiffers rest)

-- so many octets follow those in which a flaw was found
abbrev pub behind : Flaw → ℕ → Flaw
behind flaw after = record { left = flaw.left + after; why = flaw.why }

-- what a part holds, and what follows the part
abbrev pub followed : {A : Type 0} → List ℕ → Result A Flaw → Taken A
followed rest (Ok x) = Ok (x, rest)
followed rest (Err flaw) = Err (behind flaw (length rest))

-- a flaw is moved by what follows
abbrev pub Moves : ℕ → ReadError → ReadError → Type 0
Moves after error.Memory moved = moved ≡ error.Memory
Moves after (error.Flaw flaw) moved = moved ≡ error.Flaw (record { left = min (flaw.left + after) (2 ^ 64 - 1); why = flaw.why })

-- each is below 256
abbrev pub IsBytes : List ℕ → Type 0
IsBytes octets = (i : ℕ) → slice_index octets i < 256
