-- A listed command is put by its kind.
use Rattle.std.proofs.Common.{◌≡◌, ℕ, Bool, List, ◌++◌, Option, None, Some, Result, Ok, Err, OnOk, ◌∙◌, ap, sym, append_assoc}
use Rattle.octet_reading.specs.declared.memory.NoMemory.{NoMemory}
use Rattle.amqp_terms.specs.declared.command.Command.{Command}
use Rattle.amqp_terms.specs.declared.command.Command.TheVariants as m
use Rattle.amqp_packed.specs.declared.field.Field.{Field}
use Rattle.amqp_packed.specs.Spelling.{packed}
use Rattle.amqp_commands.specs.declared.commands.CommandKind.{CommandKind}
use Rattle.amqp_commands.specs.Kinds.{command_class, command_code}
use Rattle.amqp_commands.specs.Terms.{command_kind_of, command_fields}
use Rattle.amqp_commands.specs.Units.{command_head, kind_octets, command_octets}

known_octets : (sync : Bool) (command : Command) (kind : CommandKind) → command_kind_of command ≡ Some kind → kind_octets sync (packed (command_fields command)) (Some kind) ≡ command_octets sync command
known_octets sync (m.Unknown class code rest) kind e = absurd (cc e)
known_octets sync command kind e = ap (kind_octets sync (packed (command_fields command))) (sym e)

pub listed_put : (r : Result (Unit {0}) NoMemory) (sync : Bool) (command : Command) (kind : CommandKind) (out mid new : List ℕ) (fields : List Field) → command_kind_of command ≡ Some kind
    → mid ≡ out ++ command_head (command_class kind) (command_code kind) sync → fields ≡ command_fields command → OnOk r (new ≡ mid ++ packed fields) → OnOk r (new ≡ out ++ command_octets sync command)
listed_put (Ok none) sync command kind out mid new fields e head same put =
    put ∙ ap (λ xs. xs ++ packed fields) head ∙ append_assoc out (command_head (command_class kind) (command_code kind) sync) (packed fields)
    ∙ ap (λ fs. out ++ (command_head (command_class kind) (command_code kind) sync ++ packed fs)) same ∙ ap (λ xs. out ++ xs) (known_octets sync command kind e)
listed_put (Err e') sync command kind out mid new fields e head same put = tt
