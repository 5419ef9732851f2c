-- The table of the client's end (AMQP 0-10, "connection").
use Rattle.std.specs.Prelude.{ℕ, ◌==◌, nat_le, bytes_eq, Bool, true, false, if◌then◌else◌, List, Option, None, Some}
use Rattle.octet_reading.specs.declared.why.Why.{Why}
use Rattle.octet_reading.specs.declared.why.Why.TheVariants as why
use Rattle.amqp_terms.specs.declared.unit.Unit.{Unit as AnyUnit}
use Rattle.amqp_terms.specs.declared.unit.Unit.TheVariants as unit
use Rattle.amqp_terms.specs.declared.control.Control.{Control}
use Rattle.amqp_terms.specs.declared.control.Control.TheVariants as control
use Rattle.conn_core.specs.declared.said.Said.{Said}
use Rattle.conn_core.specs.declared.answers.Reply.{Reply}
use Rattle.conn_core.specs.declared.answers.Reply.TheVariants as reply
use Rattle.conn_core.specs.declared.client.Wait.{Wait}
use Rattle.conn_core.specs.declared.client.Wait.TheVariants as wait
use Rattle.conn_core.specs.declared.client.Step.{Step}
use Rattle.conn_core.specs.Answers.{replies_of}
use Rattle.conn_core.specs.Server.{is_of_connection, or_else}
use Rattle.conn_core.specs.Standing.{protocol}

-- what it waits for, and the largest frame
pub record Client : Type 0 where
  pub wait : Wait
  pub max_frame : ℕ

abbrev pub goes : Wait → Reply → Step
goes w r = record { wait = w; reply = r; closed = None; pass = false; agreed = None }

abbrev pub closes : Reply → Option Why → Step
closes r reason = record { wait = wait.Closed; reply = r; closed = Some reason; pass = false; agreed = None }

abbrev pub out_of_order : Step
out_of_order = closes reply.Nothing (Some why.OutOfOrder)

abbrev pub header_step : Wait → List ℕ → Step
header_step wait.Header octets = if bytes_eq octets protocol then goes wait.Start reply.Nothing else closes reply.Nothing (Some why.BadHeader)
header_step w octets = goes w reply.Nothing

-- what is meant for the session goes on once the connection is open, and is passed over before
abbrev pub is_open : Wait → Bool
is_open wait.Nothing = true
is_open _ = false

abbrev pub passes : Wait → Step
passes w = record { wait = w; reply = reply.Nothing; closed = None; pass = is_open w; agreed = None }

abbrev pub started : Wait → Step
started wait.Start = goes wait.Tune reply.StartOk
started _ = out_of_order

abbrev pub agrees : ℕ → ℕ → Step
agrees channels frame = record { wait = wait.OpenOk; reply = reply.TuneOkAndOpen channels frame; closed = None; pass = false; agreed = Some frame }

-- what is offered is taken, where frames have the standard's least size
abbrev pub tuned : Wait → ℕ → ℕ → Step
tuned wait.Tune channels frame = if nat_le 4096 frame then agrees channels frame else out_of_order
tuned _ channels frame = out_of_order

abbrev pub opened : Wait → Step
opened wait.OpenOk = goes wait.Nothing reply.Nothing
opened _ = out_of_order

abbrev pub connection_step : Wait → Control → Step
connection_step w control.ConnectionHeartbeat = goes w reply.Nothing
connection_step w control.ConnectionCloseOk = goes w reply.Nothing
connection_step w (control.ConnectionClose code text) = closes reply.CloseOk None
connection_step w (control.ConnectionStart properties mechanisms locales) = started w
connection_step w (control.ConnectionTune channels frame heartbeat_min heartbeat_max) = tuned w (or_else channels 64) (or_else frame 65535)
connection_step w (control.ConnectionOpenOk hosts) = opened w
connection_step w _ = out_of_order

abbrev pub control_step : Wait → ℕ → Control → Step
control_step w channel c = if is_of_connection c then (if channel == 0 then connection_step w c else out_of_order) else passes w

abbrev pub heard_step : Wait → ℕ → AnyUnit → Step
heard_step w channel (unit.Control c) = control_step w channel c
heard_step w channel (unit.Command sync command content) = passes w

-- before the protocol header, and when it is closed, an end hears no unit
abbrev pub step_of : Wait → ℕ → AnyUnit → Step
step_of wait.Header channel u = goes wait.Header reply.Nothing
step_of wait.Closed channel u = goes wait.Closed reply.Nothing
step_of w channel u = heard_step w channel u

-- ---- after a step

abbrev pub frame_by : ℕ → Option ℕ → ℕ
frame_by frame None = frame
frame_by frame (Some agreed) = agreed

abbrev pub after : Client → Step → Client
after c s = record { wait = s.wait; max_frame = frame_by c.max_frame s.agreed }

abbrev pub said : Client → Step → Said
said c s = record { units = replies_of s.reply; echo = false; max_frame = frame_by c.max_frame s.agreed; closed = s.closed; pass = s.pass }
