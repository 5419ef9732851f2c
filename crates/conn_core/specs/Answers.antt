-- The units of answers (AMQP 0-10, "connection").
use Rattle.std.specs.Prelude.{ℕ, false, codes, List, [], ◌∷◌, Some}
use Rattle.octet_reading.specs.declared.why.Why.{Why}
use Rattle.octet_reading.specs.Words.{word_of}
use Rattle.amqp_values.specs.declared.value.Value.{Value}
use Rattle.amqp_values.specs.declared.value.Value.TheVariants as value
use Rattle.amqp_terms.specs.declared.unit.Unit.{Unit as AnyUnit}
use Rattle.amqp_terms.specs.declared.unit.Unit.TheVariants as unit
use Rattle.amqp_terms.specs.declared.control.Control.TheVariants as control
use Rattle.conn_core.specs.declared.answers.Reply.{Reply}
use Rattle.conn_core.specs.declared.answers.Reply.TheVariants as reply
use Rattle.conn_core.specs.declared.turn.Answer.{Answer}
use Rattle.conn_core.specs.declared.turn.Answer.TheVariants as answer

-- the mechanisms and the locale that are offered
abbrev pub mechanisms : Value
mechanisms = value.Array 149 (value.Text16 (codes "ANONYMOUS") ∷ value.Text16 (codes "PLAIN") ∷ [])

abbrev pub locales : Value
locales = value.Array 149 (value.Text16 (codes "en_US") ∷ [])

-- with no properties
abbrev pub start : AnyUnit
start = unit.Control (control.ConnectionStart (Some (value.Map [])) (Some mechanisms) (Some locales))

-- channels 0 to 63, frames of up to 65535 octets, heartbeats every 0 to 120 seconds
abbrev pub tune : AnyUnit
tune = unit.Control (control.ConnectionTune (Some 64) (Some 65535) (Some 0) (Some 120))

-- no other hosts
abbrev pub open_ok : AnyUnit
open_ok = unit.Control (control.ConnectionOpenOk (Some (value.Array 149 [])))

-- the reason's word as text
abbrev pub close : ℕ → Why → AnyUnit
close code reason = unit.Control (control.ConnectionClose (Some code) (Some (word_of reason)))

abbrev pub units_of : Answer → List AnyUnit
units_of answer.Nothing = []
units_of answer.Start = start ∷ []
units_of answer.Tune = tune ∷ []
units_of answer.OpenOk = open_ok ∷ []
units_of answer.Heartbeat = unit.Control control.ConnectionHeartbeat ∷ []
units_of (answer.Close code reason) = close code reason ∷ []
units_of answer.CloseOk = unit.Control control.ConnectionCloseOk ∷ []

-- ---- the client's

-- no properties, ANONYMOUS with an empty response
abbrev pub start_ok : AnyUnit
start_ok = unit.Control (control.ConnectionStartOk (Some (value.Map [])) (Some (codes "ANONYMOUS")) (Some []) (Some (codes "en_US")))

-- the empty host, no capabilities
abbrev pub open_host : AnyUnit
open_host = unit.Control (control.ConnectionOpen (Some []) (Some (value.Array 149 [])) false)

-- without a heartbeat
abbrev pub tune_ok : ℕ → ℕ → AnyUnit
tune_ok channels frame = unit.Control (control.ConnectionTuneOk (Some channels) (Some frame) (Some 0))

abbrev pub replies_of : Reply → List AnyUnit
replies_of reply.Nothing = []
replies_of reply.StartOk = start_ok ∷ []
replies_of (reply.TuneOkAndOpen channels frame) = tune_ok channels frame ∷ open_host ∷ []
replies_of reply.CloseOk = unit.Control control.ConnectionCloseOk ∷ []
