-- What is true of all that the broker holds, and of what it puts in: names and arguments have spellings.
use Rattle.std.specs.Prelude.{◌≡◌, ℕ, Bool, true, List, Option, None, Some}
use Rattle.std.specs.List.{AllByRecursion}
use Rattle.octet_reading.specs.declared.part.SizeWidth.TheVariants.{One}
use Rattle.amqp_values.specs.declared.value.Value.{Value}
use Rattle.amqp_packed.specs.Spelling.{text_fine, coded}
use Rattle.exchange_core.specs.declared.marks.ExchangeMarks.{ExchangeMarks}
use Rattle.queue_core.specs.declared.marks.QueueMarks.{QueueMarks}
use Rattle.broker_core.specs.declared.edit.Edit.{Edit}
use Rattle.broker_core.specs.declared.edit.Edit.TheVariants.{PlaceExchange, PlaceQueue, PlaceOwn}
use Rattle.broker_core.specs.State.{Stand}

-- arguments are a map with a spelling, where they are there
abbrev pub map_fine : Option Value → Bool
map_fine None = true
map_fine (Some value) = coded 168 value

abbrev pub ExchangeFine : ExchangeMarks → Type 0
ExchangeFine marks = map_fine marks.arguments ≡ true

abbrev pub QueueFine : QueueMarks → Type 0
QueueFine marks = (text_fine One marks.alternate ≡ true) × (map_fine marks.arguments ≡ true)

-- what a change puts in
abbrev pub EditFine : Edit → Type 0
EditFine (PlaceExchange name marks) = ExchangeFine marks
EditFine (PlaceQueue name marks) = QueueFine marks
EditFine (PlaceOwn name again session marks) = QueueFine marks
EditFine edit = Unit {0}

abbrev pub AllFine : List Edit → Type 0
AllFine edits = AllByRecursion EditFine edits

pub record Sound (s : Stand) : Type 0 where
  pub exchanges : AllByRecursion {X = List ℕ × (ExchangeMarks × ℕ)} (λ e. ExchangeFine e.1.0) s.exchanges.entries
  pub queues : AllByRecursion {X = List ℕ × (QueueMarks × ℕ)} (λ e. QueueFine e.1.0) s.queues.entries
