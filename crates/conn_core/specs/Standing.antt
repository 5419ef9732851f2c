-- How the server's end stands, and what it says.
use Rattle.std.specs.Prelude.{ℕ, ◌-◌, ◌*◌, ◌==◌, max, nat_le, bytes_eq, Bool, true, false, if◌then◌else◌, List, [], ◌∷◌, Option, None, Some}
use Rattle.octet_reading.specs.declared.why.Why.TheVariants as why
use Rattle.conn_core.specs.declared.said.Said.{Said}
use Rattle.conn_core.specs.declared.turn.Answer.{Answer}
use Rattle.conn_core.specs.declared.turn.Answer.TheVariants as answer
use Rattle.conn_core.specs.declared.turn.State.{State}
use Rattle.conn_core.specs.declared.turn.State.TheVariants as state
use Rattle.conn_core.specs.declared.turn.Turn.{Turn}
use Rattle.conn_core.specs.Server.{goes, closes}
use Rattle.conn_core.specs.Answers.{units_of}

-- what it waits for, the largest frame, the heartbeat, or 0 for none, the time, when octets came last, and when the heartbeat was agreed or one was written last
pub record Standing : Type 0 where
  pub state : State
  pub max_frame : ℕ
  pub heartbeat : ℕ
  pub now : ℕ
  pub heard : ℕ
  pub beat : ℕ

abbrev pub began : State → ℕ → Standing
began s frame = record { state = s; max_frame = frame; heartbeat = 0; now = 0; heard = 0; beat = 0 }

-- it was told the time
abbrev pub told : Standing → ℕ → Standing
told s now = record { state = s.state; max_frame = s.max_frame; heartbeat = s.heartbeat; now = max s.now now; heard = s.heard; beat = s.beat }

-- octets came
abbrev pub heard_now : Standing → Standing
heard_now s = record { state = s.state; max_frame = s.max_frame; heartbeat = s.heartbeat; now = s.now; heard = s.now; beat = s.beat }

-- ---- after a turn

abbrev pub frame_by : ℕ → Option (ℕ × ℕ) → ℕ
frame_by frame None = frame
frame_by frame (Some agreed) = agreed.0

abbrev pub heartbeat_by : ℕ → Option (ℕ × ℕ) → ℕ
heartbeat_by heartbeat None = heartbeat
heartbeat_by heartbeat (Some agreed) = agreed.1

-- a heartbeat was agreed, or one is written
abbrev pub beats : Option (ℕ × ℕ) → Answer → Bool
beats (Some agreed) a = true
beats None answer.Heartbeat = true
beats None _ = false

abbrev pub after : Standing → Turn → Standing
after s t = record {
  state = t.state;
  max_frame = frame_by s.max_frame t.agreed;
  heartbeat = heartbeat_by s.heartbeat t.agreed;
  now = s.now;
  heard = s.heard;
  beat = if beats t.agreed t.answer then s.now else s.beat;
}

abbrev pub said : Bool → Standing → Turn → Said
said echo s t = record { units = units_of t.answer; echo = echo; max_frame = frame_by s.max_frame t.agreed; closed = t.closed; pass = t.pass }

-- ---- what is no unit

-- the protocol header of AMQP 0-10
abbrev pub protocol : List ℕ
protocol = 65 ∷ 77 ∷ 81 ∷ 80 ∷ 1 ∷ 1 ∷ 0 ∷ 10 ∷ []

abbrev pub awaits_header : State → Bool
awaits_header state.Header = true
awaits_header _ = false

-- the end echoes its own header, whether the peer's is right or not
abbrev pub header_turn : State → List ℕ → Turn
header_turn state.Header octets = if bytes_eq octets protocol then goes state.StartOk answer.Start else closes answer.Nothing (Some why.BadHeader)
header_turn s octets = goes s answer.Nothing

-- with a heartbeat: two of them without an octet close the connection, one without one of its own asks for it
abbrev pub beat_turn : Standing → Turn
beat_turn s =
    if nat_le (s.heartbeat * 2) (s.now - s.heard) then closes answer.Nothing (Some why.Silent)
    else if nat_le s.heartbeat (s.now - s.beat) then goes s.state answer.Heartbeat
    else goes s.state answer.Nothing

abbrev pub moment_turn : Standing → State → Turn
moment_turn s state.Closed = goes s.state answer.Nothing
moment_turn s _ = if s.heartbeat == 0 then goes s.state answer.Nothing else beat_turn s
