-- What an input means to a tool that takes lines: octet by octet, up to its end or to the first line that breaks.
use Rattle.std.specs.Prelude.{ℕ, ◌+◌, ◌==◌, ◌^◌, nat_lt, nat_le, if◌then◌else◌, Bool, true, false, List, [], ◌∷◌, ◌++◌, length, take, Option, Some, None}
use Rattle.std.specs.List.{fold}
use Rattle.line_runs.specs.declared.tool.TraceWhy.{TraceWhy}
use Rattle.line_runs.specs.declared.tool.TraceWhy.TheVariants.{TooLong}

-- what a tool does with a line; of a line that lacks its law nothing is said, nor of what follows it
pub data LineStep : Type 0 where
  Goes : (text : List ℕ) → LineStep
  Breaks : (why : TraceWhy) → LineStep
  Lacks : LineStep

-- how a run ends before the input's end; lines count from 1
pub data Ending : Type 0 where
  BreaksAt : (line : ℕ) → (why : TraceWhy) → Ending
  LacksAt : (line : ℕ) → Ending
  PassesLimit : Ending

-- the lines taken (the newest first), the octets of the line that comes, what was written; or the end
pub data Progress : Type 0 where
  Going : (past : List (List ℕ)) → (text : List ℕ) → (output : List ℕ) → Progress
  Over : (output : List ℕ) → (ending : Ending) → Progress

-- after the tool did this with the line
abbrev pub after : LineStep → List (List ℕ) → List ℕ → List ℕ → Progress
after (Goes text) past line output = Going (line ∷ past) [] (output ++ text)
after (Breaks why) past line output = Over output (BreaksAt (length past + 1) why)
after Lacks past line output = Over output (LacksAt (length past + 1))

-- the octets of a line go on with one that is no LF
abbrev pub longer : List (List ℕ) → List ℕ → List ℕ → ℕ → Progress
longer past text output octet =
    if nat_lt (length text) 131200 then Going past (text ++ octet ∷ []) output
    else Over output (BreaksAt (length past + 1) TooLong)

-- an LF ends the line, and another octet belongs to it; after the end nothing is looked at
abbrev pub next_octet : (List (List ℕ) → List ℕ → LineStep) → Progress → ℕ → Progress
next_octet step (Over output ending) octet = Over output ending
next_octet step (Going past text output) octet =
    if octet == 10 then after (step past text) past text output else longer past text output octet

-- how far these octets bring a run that begins with them
abbrev pub read_by : (List (List ℕ) → List ℕ → LineStep) → List ℕ → Progress
read_by step octets = fold (next_octet step) (Going [] [] []) octets

-- at the input's end a last line that lacks its LF counts, if it isn't empty
abbrev pub at_end : (List (List ℕ) → List ℕ → LineStep) → Progress → Progress
at_end step (Over output ending) = Over output ending
at_end step (Going past [] output) = Going past [] output
at_end step (Going past (octet ∷ octets) output) = after (step past (octet ∷ octets)) past (octet ∷ octets) output

-- where the input passes the limit
abbrev pub at_limit : Progress → Progress
at_limit (Over output ending) = Over output ending
at_limit (Going past text output) = Over output PassesLimit

-- the most octets of an input
unfoldable pub longest_input : ℕ
longest_input = 2 ^ 30

-- how far a whole input brings a run
unfoldable pub outcome : (List (List ℕ) → List ℕ → LineStep) → List ℕ → Progress
outcome step all =
    if nat_le (length all) longest_input then at_end step (read_by step all)
    else at_limit (read_by step (take longest_input all))

-- what was written before the closing lines
abbrev pub output_of : Progress → List ℕ
output_of (Going past text output) = output
output_of (Over output ending) = output

-- how the run ended, if it did before the input's end
abbrev pub ending_of : Progress → Option Ending
ending_of (Going past text output) = None
ending_of (Over output ending) = Some ending

-- all that a run writes, with the closing lines where the input ended well
abbrev pub written_by : (List (List ℕ) → List ℕ) → Progress → List ℕ
written_by closing (Going past text output) = output ++ closing past
written_by closing (Over output ending) = output

-- whether the run comes to a line of which nothing is said
abbrev pub strays : Progress → Bool
strays (Going past text output) = false
strays (Over output (BreaksAt line why)) = false
strays (Over output (LacksAt line)) = true
strays (Over output PassesLimit) = false
