-- Why a command isn't done.
use Rattle.std.specs.Prelude.{ℕ, ◌==◌, nat_le, nat_eq, Bool, true, false, if◌then◌else◌, List, [], ◌∷◌, codes, Option, None, Some}
use Rattle.std.specs.List.{starts_with}
use Rattle.amqp_terms.specs.declared.unit.Unit.{Unit as AnyUnit}
use Rattle.amqp_terms.specs.declared.unit.Unit.TheVariants as unit
use Rattle.amqp_terms.specs.declared.result.ResultValue.{ResultValue}
use Rattle.amqp_terms.specs.declared.command.Command.TheVariants.{ExecutionException, ExecutionResult}
use Rattle.amqp_structs.specs.Results.{result_octets}
use Rattle.serial_ranges.specs.Serial.{serial_of}
use Rattle.broker_core.specs.declared.session.Session.{Session}
use Rattle.broker_core.specs.declared.answer.Stop.{Stop}
use Rattle.broker_core.specs.declared.answer.Stop.TheVariants.{Skip, Refuse}
use Rattle.broker_core.specs.declared.answer.Asker.{Asker}
use Rattle.broker_core.specs.declared.edit.Edit.TheVariants.{Fail}
use Rattle.broker_core.specs.State.{Planned, nothing, only, with_given}

-- the first condition that holds
abbrev pub first_of : List (Bool × Stop) → Option Stop
first_of [] = None
first_of (c ∷ more) = if c.0 then Some c.1 else first_of more

-- an absent field counts as empty
abbrev pub or_empty : Option (List ℕ) → List ℕ
or_empty None = []
or_empty (Some name) = name

abbrev pub is_empty : List ℕ → Bool
is_empty [] = true
is_empty (octet ∷ octets) = false

-- it begins with `amq.`
abbrev pub is_reserved : List ℕ → Bool
is_reserved name = starts_with nat_eq name (codes "amq.")

-- a session that isn't there or has failed does nothing, and one that 8,192 commands are uncompleted of may do nothing
abbrev pub before : Option Session → Option Stop
before None = Some Skip
before (Some s) = first_of ((s.failed, Skip) ∷ (nat_le 8192 s.uncompleted, Refuse 506) ∷ [])

-- the names of error codes (AMQP 0-10, "execution.error-code")
abbrev pub error_name : ℕ → List ℕ
error_name code =
    if code == 404 then codes "not-found"
    else if code == 405 then codes "resource-locked"
    else if code == 406 then codes "precondition-failed"
    else if code == 409 then codes "illegal-state"
    else if code == 503 then codes "command-invalid"
    else if code == 506 then codes "resource-limit-exceeded"
    else if code == 530 then codes "not-allowed"
    else if code == 531 then codes "illegal-argument"
    else if code == 540 then codes "not-implemented"
    else if code == 541 then codes "internal-error"
    else codes "invalid-argument"

abbrev pub exception_unit : Asker → ℕ → AnyUnit
exception_unit asker code =
    unit.Command
    false
    (ExecutionException (Some code) (Some (serial_of asker.number)) (Some asker.class) (Some asker.code) (Some 0) (Some (error_name code)) None)
    None

abbrev pub result_unit : Asker → ResultValue → AnyUnit
result_unit asker value = unit.Command false (ExecutionResult (Some (serial_of asker.number)) (Some (result_octets value))) None

-- ---- what is planned

-- an exception, and the session fails
abbrev pub refused : Asker → ℕ → Planned
refused asker code = with_given asker.session (exception_unit asker code) (only (Fail asker.session))

abbrev pub answered : Asker → ResultValue → Planned
answered asker value = with_given asker.session (result_unit asker value) nothing

abbrev pub stopped : Asker → Stop → Planned
stopped asker Skip = nothing
stopped asker (Refuse code) = refused asker code

-- what a command does where nothing stops it
abbrev pub unless : Asker → Option Stop → Planned → Planned
unless asker None plan = plan
unless asker (Some stop) plan = stopped asker stop
