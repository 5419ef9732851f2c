-- What a keeper's calls do to what it tells.
use Rattle.std.specs.Prelude.{◌≡◌, ℕ, ◌+◌, ◌-◌, ◌^◌, ◌≤◌, min, Bool, true, false, List, ◌∷◌, [], ◌++◌, Option, Some, IfSome, Result, Ok, Err}
use Rattle.outside_core.specs.Faults.{Rose}
use Rattle.keeper_core.specs.declared.row.Row.{Row}
use Rattle.keeper_core.specs.declared.row.Change.{Change}
use Rattle.keeper_core.specs.declared.keeper.KeeperFault.{KeeperFault}
use Rattle.keeper_core.specs.declared.keeper.KeeperFault.TheVariants.{Failed, NoMemory}
use Rattle.keeper_core.specs.Rows.{IsRising, changed}

-- one more, up to the greatest u64
abbrev pub one_more : ℕ → ℕ
one_more n = min (n + 1) (2 ^ 64 - 1)

-- the rows are those that it held, or some that it may give, by rising key
abbrev pub Gives : Option (List Row) → (List Row → Type 0) → Result (List Row) KeeperFault → Type 0
Gives held may_give (Ok rows) = IfSome held (λ held. rows ≡ held) × may_give rows × IsRising rows
Gives held may_give (Err fault) = Unit {0}

-- the count never falls, and rose where the call failed
abbrev pub FailsWithCause : {X : Type 0} → ℕ → ℕ → Result X KeeperFault → Type 0
FailsWithCause before now (Ok x) = before ≤ now
FailsWithCause before now (Err Failed) = (before ≤ now) × Rose before now
FailsWithCause before now (Err NoMemory) = before ≤ now

-- all changes act, in their order, or none
abbrev pub Applies : Option (List Row) → Option (List Row) → List Change → Result (Unit {0}) KeeperFault → Type 0
Applies held holds changes (Ok done) = IfSome held (λ rows. holds ≡ Some (changed rows changes))
Applies held holds changes (Err fault) = holds ≡ held

-- the answer was added to those that are told; want of memory is none
abbrev pub Answered : Option (List Bool) → Option (List Bool) → Result (Unit {0}) KeeperFault → Type 0
Answered told tells (Ok done) = IfSome tells (λ all. (before : List Bool) × (told ≡ Some before) × (all ≡ before ++ true ∷ []))
Answered told tells (Err Failed) = IfSome tells (λ all. (before : List Bool) × (told ≡ Some before) × (all ≡ before ++ false ∷ []))
Answered told tells (Err NoMemory) = tells ≡ told

-- the applies that took effect
abbrev pub Writes : ℕ → ℕ → Result (Unit {0}) KeeperFault → Type 0
Writes before now (Ok done) = now ≡ one_more before
Writes before now (Err fault) = now ≡ before
