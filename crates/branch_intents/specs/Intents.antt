-- Intents, with the room for more.
use Rattle.std.specs.Prelude.{ℕ, ◌==◌, ◌&&◌, Bool, false, List, bytes_eq, Option, None, Some}
use Rattle.branch_intents.specs.declared.intents.Intent.{Intent}
use Rattle.branch_intents.specs.declared.intents.Intent.TheVariants.{Publish, Accept}

pub record Intended : Type 0 where
  pub items : List Intent
  pub room : ℕ

-- it is to put something into a queue, or to take something out
abbrev pub names : List ℕ → Intent → Bool
names name (Publish queue exchange header body) = bytes_eq queue name
names name (Accept queue number) = bytes_eq queue name

-- it is to take this copy out of a queue, or, where no number is given, names the queue
abbrev pub is_on : List ℕ → Option ℕ → Intent → Bool
is_on name None intent = names name intent
is_on name (Some number) (Publish queue exchange header body) = false
is_on name (Some number) (Accept queue other) = bytes_eq queue name && (other == number)
