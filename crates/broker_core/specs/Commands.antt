-- What is decided for each entry.
use Rattle.std.specs.Prelude.{◌≡◌, ℕ, ◌+◌, ◌-◌, ◌==◌, ◌||◌, ◌&&◌, Bool, true, false, if◌then◌else◌, List, [], ◌∷◌, Option, None, Some}
use Rattle.amqp_values.specs.declared.value.Value.{Value}
use Rattle.amqp_terms.specs.declared.command.Command.{Command}
use Rattle.amqp_terms.specs.declared.command.Command.TheVariants as does
use Rattle.amqp_terms.specs.declared.unit.Unit.TheVariants as unit
use Rattle.amqp_commands.specs.declared.commands.CommandKind.{CommandKind}
use Rattle.amqp_commands.specs.Kinds.{command_class, command_code}
use Rattle.amqp_commands.specs.Terms.{command_kind_of}
use Rattle.amqp_commands.specs.Units.{unit_fine}
use Rattle.broker_core.specs.declared.answer.Asker.{Asker}
use Rattle.broker_core.specs.declared.edit.Edit.TheVariants.{Fail, Complete, DropExchange, Bind, Unbind, DropQueue, Purge}
use Rattle.broker_core.specs.declared.plan.Entry.{Entry}
use Rattle.broker_core.specs.declared.plan.Entry.TheVariants.{Do, Drain, Done, End, Tick}
use Rattle.broker_core.specs.declared.plan.Moment.TheVariants as moment
use Rattle.broker_core.specs.State.{Stand, Planned, nothing, only, at, session_of, exchange_marks}
use Rattle.broker_core.specs.Verdict.{or_empty, before, refused, answered, unless}
use Rattle.broker_core.specs.Exchange as exchange
use Rattle.broker_core.specs.Queue as queue

-- the class and the code of a command
abbrev unknown_head : Command → ℕ × ℕ
unknown_head (does.Unknown class code rest) = (class, code)
unknown_head command = (0, 0)

abbrev head_by : Option CommandKind → Command → ℕ × ℕ
head_by None command = unknown_head command
head_by (Some kind) command = (command_class kind, command_code kind)

abbrev pub head_of : Command → ℕ × ℕ
head_of command = head_by (command_kind_of command) command

-- who does which command
abbrev pub asker_of : ℕ → ℕ → Command → Asker
asker_of session number command = record { session = session; number = number; class = (head_of command).0; code = (head_of command).1 }

-- the classes file and stream and message.resume are known and not built
abbrev pub unknown_code : ℕ → ℕ → ℕ
unknown_code class code = if (class == 9 || class == 10) || (class == 4 && code == 6) then 540 else 503

-- ---- by command, where the session may do any

module _ (asker : Asker) (s : Stand) where
  abbrev pub exchange_declare : List ℕ → List ℕ → List ℕ → Bool → Bool → Bool → Option Value → Planned
  exchange_declare name word alternate true durable auto_delete arguments = unless asker (exchange.declare_passive_stop name word s) nothing
  exchange_declare name word alternate false durable auto_delete arguments =
      unless asker (exchange.declare_stop name word alternate s) (exchange.declared name (exchange.kind_named word) durable auto_delete alternate arguments)

  abbrev pub queue_declare : List ℕ → List ℕ → Bool → Bool → Bool → Bool → Option Value → Planned
  queue_declare name alternate true durable exclusive auto_delete arguments = unless asker (queue.declare_passive_stop asker.session name s) nothing
  queue_declare name alternate false durable exclusive auto_delete arguments =
      unless asker (queue.declare_stop asker.session name alternate exclusive s) (queue.declared asker.session name exclusive durable auto_delete alternate arguments)

  abbrev pub exchange_bind : List ℕ → List ℕ → List ℕ → Option Value → Planned
  exchange_bind exchange_name name key arguments =
      unless asker (exchange.bind_stop asker.session exchange_name name key s) (only (Bind exchange_name (record { queue = name; key = key; arguments = arguments })))

  abbrev pub planned : Command → Planned
  planned does.ExecutionSync = nothing
  planned (does.ExecutionResult id value) = nothing
  planned (does.ExecutionException code id class command field text info) = only (Fail asker.session)
  planned (does.ExchangeDeclare name word alternate passive durable auto_delete arguments) =
      exchange_declare (or_empty name) (or_empty word) (or_empty alternate) passive durable auto_delete arguments
  planned (does.ExchangeDelete name if_unused) = unless asker (exchange.delete_stop (or_empty name) if_unused s) (only (DropExchange (or_empty name)))
  planned (does.ExchangeQuery name) = answered asker (exchange.query_result (exchange_marks (or_empty name) s))
  planned (does.ExchangeBind name exchange_name key arguments) = exchange_bind (or_empty exchange_name) (or_empty name) (or_empty key) arguments
  planned (does.ExchangeUnbind name exchange_name key) =
      unless asker (exchange.unbind_stop (or_empty exchange_name) (or_empty name) (or_empty key) s) (only (Unbind (or_empty exchange_name) (or_empty name) (or_empty key)))
  planned (does.ExchangeBound exchange_name name key arguments) = answered asker (exchange.bound_result (exchange.bound_bits (or_empty exchange_name) (or_empty name) key arguments s))
  planned (does.QueueDeclare name alternate passive durable exclusive auto_delete arguments) =
      queue_declare (or_empty name) (or_empty alternate) passive durable exclusive auto_delete arguments
  planned (does.QueueDelete name if_unused if_empty) = unless asker (queue.delete_stop asker.session (or_empty name) if_empty s) (only (DropQueue (or_empty name)))
  planned (does.QueuePurge name) = unless asker (queue.purge_stop asker.session (or_empty name) s) (only (Purge (or_empty name)))
  planned (does.QueueQuery name) = answered asker (queue.query_result (or_empty name) s)
  planned (does.Unknown class code rest) = refused asker (unknown_code class code)
  planned command = refused asker 540

-- ---- entries

abbrev pub commanded : Asker → Command → Stand → Planned
commanded asker command s = unless asker (before (session_of asker.session s)) (planned asker s command)

-- how many numbers runs have
abbrev pub count_of : List (ℕ × ℕ) → ℕ
count_of [] = 0
count_of (run ∷ runs) = (run.1 + 1 - run.0) + count_of runs

-- a session's end and the time need no decision
abbrev pub decision_of : Entry → Stand → Planned
decision_of (Do session number command content) s = commanded (asker_of session number command) command s
decision_of (Drain sessions) s = nothing
decision_of (Done session numbers) s = only (Complete session (count_of numbers))
decision_of (End session) s = at (moment.End session)
decision_of (Tick now) s = at (moment.Tick now)

-- a command is a unit with a spelling
abbrev pub IsFine : Entry → Type 0
IsFine (Do session number command content) = unit_fine (unit.Command false command content) ≡ true
IsFine entry = Unit {0}
