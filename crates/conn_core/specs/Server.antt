-- The table of the server's end (AMQP 0-10, "connection").
use Rattle.std.specs.Prelude.{ℕ, ◌==◌, ◌&&◌, ◌||◌, nat_le, bytes_eq, codes, Bool, true, false, if◌then◌else◌, List, [], Option, None, Some}
use Rattle.octet_reading.specs.declared.why.Why.{Why}
use Rattle.octet_reading.specs.declared.why.Why.TheVariants as why
use Rattle.amqp_terms.specs.declared.unit.Unit.{Unit as AnyUnit}
use Rattle.amqp_terms.specs.declared.unit.Unit.TheVariants as unit
use Rattle.amqp_terms.specs.declared.control.Control.{Control}
use Rattle.amqp_terms.specs.declared.control.Control.TheVariants as control
use Rattle.conn_core.specs.declared.turn.Answer.{Answer}
use Rattle.conn_core.specs.declared.turn.Answer.TheVariants as answer
use Rattle.conn_core.specs.declared.turn.State.{State}
use Rattle.conn_core.specs.declared.turn.State.TheVariants as state
use Rattle.conn_core.specs.declared.turn.Turn.{Turn}
use Rattle.conn_core.specs.Mechanism.{takes_start}

-- it waits for something else, and answers
abbrev pub goes : State → Answer → Turn
goes next answer = record { state = next; answer = answer; closed = None; pass = false; agreed = None }

-- the connection is closed
abbrev pub closes : Answer → Option Why → Turn
closes answer reason = record { state = state.Closed; answer = answer; closed = Some reason; pass = false; agreed = None }

abbrev pub closes_by : ℕ → Why → Turn
closes_by code reason = closes (answer.Close code reason) (Some reason)

abbrev pub out_of_order : Turn
out_of_order = closes_by 501 why.OutOfOrder

-- what is meant for a session goes on to it, once the connection is open
abbrev pub session_turn : State → Turn
session_turn state.Open = record { state = state.Open; answer = answer.Nothing; closed = None; pass = true; agreed = None }
session_turn _ = out_of_order

abbrev pub start_turn : State → Option (List ℕ) → Option (List ℕ) → Turn
start_turn state.StartOk mechanism response = if takes_start mechanism response then goes state.TuneOk answer.Tune else closes_by 320 why.Mechanism
start_turn _ mechanism response = out_of_order

-- an absent number is the one that stands in for it
abbrev pub or_else : Option ℕ → ℕ → ℕ
or_else None n = n
or_else (Some m) n = m

-- channels, frames and heartbeats within what was offered
abbrev pub is_within : ℕ → ℕ → ℕ → Bool
is_within channels frame heartbeat = (nat_le channels 64 && nat_le 4096 frame) && nat_le heartbeat 120

abbrev pub agrees : ℕ → ℕ → Turn
agrees frame heartbeat = record { state = state.OpenWait; answer = answer.Nothing; closed = None; pass = false; agreed = Some (frame, heartbeat) }

abbrev pub tune_turn : State → Option ℕ → Option ℕ → Option ℕ → Turn
tune_turn state.TuneOk channels frame heartbeat =
    if is_within (or_else channels 64) (or_else frame 65535) (or_else heartbeat 0) then agrees (or_else frame 65535) (or_else heartbeat 0)
    else closes answer.Nothing (Some why.TuneRange)
tune_turn _ channels frame heartbeat = out_of_order

abbrev pub is_host : Option (List ℕ) → Bool
is_host None = true
is_host (Some host) = bytes_eq host [] || bytes_eq host (codes "/")

abbrev pub open_turn : State → Option (List ℕ) → Turn
open_turn state.OpenWait host = if is_host host then goes state.Open answer.OpenOk else closes_by 402 why.VirtualHost
open_turn _ host = out_of_order

-- a control of class connection
abbrev pub is_of_connection : Control → Bool
is_of_connection (control.ConnectionStart properties mechanisms locales) = true
is_of_connection (control.ConnectionStartOk properties mechanism response locale) = true
is_of_connection (control.ConnectionSecure challenge) = true
is_of_connection (control.ConnectionSecureOk response) = true
is_of_connection (control.ConnectionTune channels frame heartbeat_min heartbeat_max) = true
is_of_connection (control.ConnectionTuneOk channels frame heartbeat) = true
is_of_connection (control.ConnectionOpen host capabilities insist) = true
is_of_connection (control.ConnectionOpenOk hosts) = true
is_of_connection control.ConnectionHeartbeat = true
is_of_connection (control.ConnectionClose code text) = true
is_of_connection control.ConnectionCloseOk = true
is_of_connection _ = false

-- such a control on channel 0
abbrev pub connection_turn : State → Control → Turn
connection_turn s control.ConnectionHeartbeat = goes s answer.Nothing
connection_turn s control.ConnectionCloseOk = goes s answer.Nothing
connection_turn s (control.ConnectionClose code text) = closes answer.CloseOk None
connection_turn s (control.ConnectionStartOk properties mechanism response locale) = start_turn s mechanism response
connection_turn s (control.ConnectionTuneOk channels frame heartbeat) = tune_turn s channels frame heartbeat
connection_turn s (control.ConnectionOpen host capabilities insist) = open_turn s host
connection_turn s _ = out_of_order

-- a control of class connection on another channel is out of order, whatever it is
abbrev pub control_turn : State → ℕ → Control → Turn
control_turn s channel c = if is_of_connection c then (if channel == 0 then connection_turn s c else out_of_order) else session_turn s

abbrev pub unit_turn : State → ℕ → AnyUnit → Turn
unit_turn s channel (unit.Control c) = control_turn s channel c
unit_turn s channel (unit.Command sync command content) = session_turn s

-- before the protocol header, and when it is closed, an end hears no unit
abbrev pub turn_of : State → ℕ → AnyUnit → Turn
turn_of state.Header channel u = goes state.Header answer.Nothing
turn_of state.Closed channel u = goes state.Closed answer.Nothing
turn_of s channel u = unit_turn s channel u
