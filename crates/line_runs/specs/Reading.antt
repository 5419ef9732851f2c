-- What the next line is, and what became of the octets that were read for it.
use Rattle.std.specs.Prelude.{◌≡◌, ℕ, ◌+◌, ◌<◌, ◌≤◌, ◌^◌, true, false, List, [], ◌∷◌, ◌++◌, length, take, drop, Option, ◌⊎◌}
use Rattle.std.specs.Io.KnownBytes.{Consumes, IsAtEnd}
use Rattle.outside_core.specs.Faults.{Rose}
use Rattle.line_runs.specs.Breaks.{IsUnbroken}
use Rattle.line_runs.specs.Waiting.{Waiting}
use Rattle.line_runs.specs.declared.reading.Next.{Next}
use Rattle.line_runs.specs.declared.reading.Next.TheVariants as next
use Rattle.line_runs.specs.declared.reading.Ready.{Ready}
use Rattle.line_runs.specs.declared.reading.Ready.TheVariants as ready
use Rattle.line_runs.specs.declared.reading.Look.{Look}
use Rattle.line_runs.specs.declared.reading.Look.TheVariants as look
use Rattle.line_runs.specs.declared.reading.Filled.{Filled}
use Rattle.line_runs.specs.declared.reading.Filled.TheVariants as filled
use Rattle.line_runs.specs.declared.reading.Onto.{Onto}
use Rattle.line_runs.specs.declared.reading.Onto.TheVariants as onto

-- a read puts what it took to the text's end
abbrev pub ReadsOnto : Option (List ℕ) → Option (List ℕ) → List ℕ → List ℕ → ℕ → Onto → Type 0
ReadsOnto left remains old new size (onto.Took n) =
    (0 < n) × (n ≤ size) × ((got : List ℕ) × (length got ≡ n) × Consumes left remains got × (new ≡ old ++ got))
ReadsOnto left remains old new size onto.End = IsAtEnd left × IsAtEnd remains × Consumes left remains []
ReadsOnto left remains old new size onto.Failed = Consumes left remains []
ReadsOnto left remains old new size onto.NoMemory = Unit {0}

-- the count never falls, and rose where the read failed
pub record OntoHasCause (before now : ℕ) (answer : Onto) : Type 0 where
  pub later : before ≤ now
  pub failed : answer ≡ onto.Failed → Rose before now

-- a whole line ends at an LF
pub record EndsLine (text line rest : List ℕ) : Type 0 where
  pub unbroken : IsUnbroken line
  pub short : length line ≤ 131200
  pub parts : text ≡ line ++ 10 ∷ rest

-- a front that is one octet too long for a line
pub record IsTooLong (text : List ℕ) : Type 0 where
  pub front : List ℕ
  pub rest : List ℕ
  pub unbroken : IsUnbroken front
  pub long : length front ≡ 131201
  pub parts : text ≡ front ++ rest

-- an open line, not too long
pub record IsOpenLine (text : List ℕ) : Type 0 where
  pub unbroken : IsUnbroken text
  pub short : length text ≤ 131200

-- a line with an LF, an open one, or too many octets
abbrev pub Looks : List ℕ → Look → Type 0
Looks text (look.Line end) = (end < length text) × EndsLine text (take end text) (drop (end + 1) text)
Looks text look.Open = IsOpenLine text
Looks text look.TooLong = IsTooLong text

-- nothing was read
pub record ReadsNothing (old new : Waiting) : Type 0 where
  pub count : new.count ≡ old.count
  pub ended : new.ended ≡ old.ended

-- what the octets at hand hold
abbrev pub IsReady : Waiting → Waiting → Ready → Type 0
IsReady old new (ready.Line line) = ReadsNothing old new × EndsLine old.text line.items new.text
IsReady old new ready.LongLine = ReadsNothing old new × IsTooLong old.text
IsReady old new ready.Open = (new ≡ old) × IsOpenLine old.text
IsReady old new ready.NoMemory = Unit {0}

-- octets went from the source to the reading
pub record Moves (left remains : Option (List ℕ)) (old new : Waiting) (took : List ℕ) : Type 0 where
  pub consumes : Consumes left remains took
  pub count : new.count ≡ old.count + length took
  pub limited : 0 < length took → new.count ≤ 2 ^ 30
  pub stays : old.ended ≡ true → (took ≡ []) × (new.ended ≡ true)
  pub ends : (old.ended ≡ true → IsAtEnd left) → new.ended ≡ true → IsAtEnd remains

-- octets past the limit were taken, and not kept
pub record PassesBy (left remains : Option (List ℕ)) (took : List ℕ) : Type 0 where
  pub last : List ℕ
  pub some : 0 < length last
  pub consumes : Consumes left remains (took ++ last)

-- what a read brought
abbrev pub Fills : Option (List ℕ) → Option (List ℕ) → Waiting → Waiting → Filled → Type 0
Fills left remains old new filled.More =
    (got : List ℕ) × (0 < length got) × Moves left remains old new got × (new.text ≡ old.text ++ got) × (new.ended ≡ false)
Fills left remains old new filled.End = Moves left remains old new [] × (new.text ≡ old.text) × (new.ended ≡ true)
Fills left remains old new filled.Failed = Moves left remains old new [] × (new.text ≡ old.text) × (new.ended ≡ false)
Fills left remains old new filled.TooMuch =
    PassesBy left remains [] × (new.text ≡ old.text) × (new.ended ≡ false) × (old.ended ≡ false) × (old.count ≡ 2 ^ 30)
Fills left remains old new filled.NoMemory = Unit {0}

-- the count never falls, and rose where the read failed
pub record FillHasCause (before now : ℕ) (answer : Filled) : Type 0 where
  pub later : before ≤ now
  pub failed : answer ≡ filled.Failed → Rose before now

-- all that is at hand is given
abbrev pub IsLast : Waiting → Waiting → Next → Type 0
IsLast old new (next.Line line) = ReadsNothing old new × (old.text ≡ line.items) × (0 < length line.items) × (new.text ≡ [])
IsLast old new next.End = ReadsNothing old new × (old.text ≡ []) × (new.text ≡ [])
IsLast old new next.NoMemory = Unit {0}
IsLast old new next.LongLine = ⊥
IsLast old new next.Failed = ⊥
IsLast old new next.TooMuch = ⊥

-- the last line lacks its LF
pub record EndsLast (text line : List ℕ) (new : Waiting) : Type 0 where
  pub unbroken : IsUnbroken line
  pub short : length line ≤ 131200
  pub is : text ≡ line
  pub some : 0 < length line
  pub ended : new.ended ≡ true
  pub none : new.text ≡ []

-- a line, by either end
abbrev pub Gives : List ℕ → List ℕ → Waiting → Type 0
Gives text line new = EndsLine text line new.text ⊎ EndsLast text line new

-- what came next, out of what was at hand and what was read for it
abbrev pub TakesNext : Option (List ℕ) → Option (List ℕ) → Waiting → Waiting → Next → Type 0
TakesNext left remains old new (next.Line line) =
    (took : List ℕ) × Moves left remains old new took × Gives (old.text ++ took) line.items new
TakesNext left remains old new next.LongLine = (took : List ℕ) × Moves left remains old new took × IsTooLong (old.text ++ took)
TakesNext left remains old new next.End =
    (took : List ℕ) × Moves left remains old new took × (old.text ++ took ≡ []) × (new.text ≡ []) × (new.ended ≡ true)
TakesNext left remains old new next.Failed =
    (took : List ℕ) × Moves left remains old new took × IsOpenLine (old.text ++ took) × (new.ended ≡ false)
TakesNext left remains old new next.TooMuch =
    (took : List ℕ) × PassesBy left remains took × IsOpenLine (old.text ++ took) × (old.ended ≡ false) × (old.count + length took ≡ 2 ^ 30)
TakesNext left remains old new next.NoMemory = Unit {0}

-- the count never falls, and rose where the read failed
pub record NextHasCause (before now : ℕ) (answer : Next) : Type 0 where
  pub later : before ≤ now
  pub failed : answer ≡ next.Failed → Rose before now
