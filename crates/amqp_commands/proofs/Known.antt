-- Kinds with fields and what they make tell of each other; classes and codes tell of kinds.
use Rattle.std.proofs.Common.{◌≡◌, ℕ, ◌&&◌, true, eqb, List, Some, refl}
use Rattle.std.proofs.lemmas.Bool.{and_parts, eqb-true}
use Rattle.amqp_packed.specs.Spelling.{Alike}
use Rattle.amqp_packed.proofs.Typed.{back_array, stands_array, back_bit, stands_bit, back_map, stands_map, back_ranges, stands_ranges, back_str16, stands_str16, back_str8, stands_str8, back_struct32, stands_struct32, back_u16, stands_u16, back_u32, stands_u32, back_u64, stands_u64, back_u8, stands_u8, back_vbin16, stands_vbin16, back_vbin32, stands_vbin32, back_xid, stands_xid}
use Rattle.amqp_packed.proofs.Rounds.{rounds}
use Rattle.amqp_structs.proofs.Results.{found_passes, HasCode}
use Rattle.amqp_terms.specs.declared.control.Control.{Control}
use Rattle.amqp_terms.specs.declared.control.Control.TheVariants as c
use Rattle.amqp_terms.specs.declared.command.Command.{Command}
use Rattle.amqp_terms.specs.declared.command.Command.TheVariants as m
use Rattle.amqp_packed.specs.declared.field.Field.{Field}
use Rattle.amqp_commands.specs.declared.controls.ControlKind.{ControlKind}
use Rattle.amqp_commands.specs.declared.controls.ControlKind.TheVariants as ck
use Rattle.amqp_commands.specs.declared.commands.CommandKind.{CommandKind}
use Rattle.amqp_commands.specs.declared.commands.CommandKind.TheVariants as mk
use Rattle.amqp_commands.specs.Kinds.{is_control_class, control_class, control_code, all_controls, control_kind, control_table, is_command_class, command_class, command_code, all_commands, command_kind, command_table}
use Rattle.amqp_commands.specs.Terms.{control_kind_of, control_fields, control_by, command_kind_of, command_fields, command_by}

-- ---- controls

pub control_back : (control : Control) → control_by (control_kind_of control) (control_fields control) ≡ control
control_back (c.ConnectionStart a b c) = rw (back_map a, back_array b, back_array c) refl
control_back (c.ConnectionStartOk a b c d) = rw (back_map a, back_str8 b, back_vbin32 c, back_str8 d) refl
control_back (c.ConnectionSecure a) = rw (back_vbin32 a) refl
control_back (c.ConnectionSecureOk a) = rw (back_vbin32 a) refl
control_back (c.ConnectionTune a b c d) = rw (back_u16 a, back_u16 b, back_u16 c, back_u16 d) refl
control_back (c.ConnectionTuneOk a b c) = rw (back_u16 a, back_u16 b, back_u16 c) refl
control_back (c.ConnectionOpen a b c) = rw (back_str8 a, back_array b, back_bit c) refl
control_back (c.ConnectionOpenOk a) = rw (back_array a) refl
control_back c.ConnectionHeartbeat = refl
control_back (c.ConnectionClose a b) = rw (back_u16 a, back_str8 b) refl
control_back c.ConnectionCloseOk = refl
control_back (c.SessionAttach a b) = rw (back_vbin16 a, back_bit b) refl
control_back (c.SessionAttached a) = rw (back_vbin16 a) refl
control_back (c.SessionDetach a) = rw (back_vbin16 a) refl
control_back (c.SessionDetached a b) = rw (back_vbin16 a, back_u8 b) refl
control_back (c.SessionRequestTimeout a) = rw (back_u32 a) refl
control_back (c.SessionTimeout a) = rw (back_u32 a) refl
control_back (c.SessionCommandPoint a b) = rw (back_u32 a, back_u64 b) refl
control_back (c.SessionExpected a b) = rw (back_ranges a, back_array b) refl
control_back (c.SessionConfirmed a b) = rw (back_ranges a, back_array b) refl
control_back (c.SessionCompleted a b) = rw (back_ranges a, back_bit b) refl
control_back (c.SessionKnownCompleted a) = rw (back_ranges a) refl
control_back (c.SessionFlush a b c) = rw (back_bit a, back_bit b, back_bit c) refl
control_back (c.SessionGap a) = rw (back_ranges a) refl

pub control_stands : (control : Control) → Alike (control_table (control_kind_of control)) (control_fields control)
unfolding Alike
control_stands (c.ConnectionStart a b c) = (stands_map a, (stands_array b, (stands_array c, refl)))
control_stands (c.ConnectionStartOk a b c d) = (stands_map a, (stands_str8 b, (stands_vbin32 c, (stands_str8 d, refl))))
control_stands (c.ConnectionSecure a) = (stands_vbin32 a, refl)
control_stands (c.ConnectionSecureOk a) = (stands_vbin32 a, refl)
control_stands (c.ConnectionTune a b c d) = (stands_u16 a, (stands_u16 b, (stands_u16 c, (stands_u16 d, refl))))
control_stands (c.ConnectionTuneOk a b c) = (stands_u16 a, (stands_u16 b, (stands_u16 c, refl)))
control_stands (c.ConnectionOpen a b c) = (stands_str8 a, (stands_array b, (stands_bit c, refl)))
control_stands (c.ConnectionOpenOk a) = (stands_array a, refl)
control_stands c.ConnectionHeartbeat = refl
control_stands (c.ConnectionClose a b) = (stands_u16 a, (stands_str8 b, refl))
control_stands c.ConnectionCloseOk = refl
control_stands (c.SessionAttach a b) = (stands_vbin16 a, (stands_bit b, refl))
control_stands (c.SessionAttached a) = (stands_vbin16 a, refl)
control_stands (c.SessionDetach a) = (stands_vbin16 a, refl)
control_stands (c.SessionDetached a b) = (stands_vbin16 a, (stands_u8 b, refl))
control_stands (c.SessionRequestTimeout a) = (stands_u32 a, refl)
control_stands (c.SessionTimeout a) = (stands_u32 a, refl)
control_stands (c.SessionCommandPoint a b) = (stands_u32 a, (stands_u64 b, refl))
control_stands (c.SessionExpected a b) = (stands_ranges a, (stands_array b, refl))
control_stands (c.SessionConfirmed a b) = (stands_ranges a, (stands_array b, refl))
control_stands (c.SessionCompleted a b) = (stands_ranges a, (stands_bit b, refl))
control_stands (c.SessionKnownCompleted a) = (stands_ranges a, refl)
control_stands (c.SessionFlush a b c) = (stands_bit a, (stands_bit b, (stands_bit c, refl)))
control_stands (c.SessionGap a) = (stands_ranges a, refl)

pub control_rounds : (kind : ControlKind) (fields : List Field) → control_fields (control_by kind fields) ≡ rounds (control_table kind) fields
control_rounds ck.ConnectionStart fields = refl
control_rounds ck.ConnectionStartOk fields = refl
control_rounds ck.ConnectionSecure fields = refl
control_rounds ck.ConnectionSecureOk fields = refl
control_rounds ck.ConnectionTune fields = refl
control_rounds ck.ConnectionTuneOk fields = refl
control_rounds ck.ConnectionOpen fields = refl
control_rounds ck.ConnectionOpenOk fields = refl
control_rounds ck.ConnectionHeartbeat fields = refl
control_rounds ck.ConnectionClose fields = refl
control_rounds ck.ConnectionCloseOk fields = refl
control_rounds ck.SessionAttach fields = refl
control_rounds ck.SessionAttached fields = refl
control_rounds ck.SessionDetach fields = refl
control_rounds ck.SessionDetached fields = refl
control_rounds ck.SessionRequestTimeout fields = refl
control_rounds ck.SessionTimeout fields = refl
control_rounds ck.SessionCommandPoint fields = refl
control_rounds ck.SessionExpected fields = refl
control_rounds ck.SessionConfirmed fields = refl
control_rounds ck.SessionCompleted fields = refl
control_rounds ck.SessionKnownCompleted fields = refl
control_rounds ck.SessionFlush fields = refl
control_rounds ck.SessionGap fields = refl

pub control_made : (kind : ControlKind) (fields : List Field) → control_kind_of (control_by kind fields) ≡ kind
control_made ck.ConnectionStart fields = refl
control_made ck.ConnectionStartOk fields = refl
control_made ck.ConnectionSecure fields = refl
control_made ck.ConnectionSecureOk fields = refl
control_made ck.ConnectionTune fields = refl
control_made ck.ConnectionTuneOk fields = refl
control_made ck.ConnectionOpen fields = refl
control_made ck.ConnectionOpenOk fields = refl
control_made ck.ConnectionHeartbeat fields = refl
control_made ck.ConnectionClose fields = refl
control_made ck.ConnectionCloseOk fields = refl
control_made ck.SessionAttach fields = refl
control_made ck.SessionAttached fields = refl
control_made ck.SessionDetach fields = refl
control_made ck.SessionDetached fields = refl
control_made ck.SessionRequestTimeout fields = refl
control_made ck.SessionTimeout fields = refl
control_made ck.SessionCommandPoint fields = refl
control_made ck.SessionExpected fields = refl
control_made ck.SessionConfirmed fields = refl
control_made ck.SessionCompleted fields = refl
control_made ck.SessionKnownCompleted fields = refl
control_made ck.SessionFlush fields = refl
control_made ck.SessionGap fields = refl

pub control_known : (kind : ControlKind) → control_kind (control_class kind) (control_code kind) ≡ Some kind
unfolding control_kind
control_known ck.ConnectionStart = refl
control_known ck.ConnectionStartOk = refl
control_known ck.ConnectionSecure = refl
control_known ck.ConnectionSecureOk = refl
control_known ck.ConnectionTune = refl
control_known ck.ConnectionTuneOk = refl
control_known ck.ConnectionOpen = refl
control_known ck.ConnectionOpenOk = refl
control_known ck.ConnectionHeartbeat = refl
control_known ck.ConnectionClose = refl
control_known ck.ConnectionCloseOk = refl
control_known ck.SessionAttach = refl
control_known ck.SessionAttached = refl
control_known ck.SessionDetach = refl
control_known ck.SessionDetached = refl
control_known ck.SessionRequestTimeout = refl
control_known ck.SessionTimeout = refl
control_known ck.SessionCommandPoint = refl
control_known ck.SessionExpected = refl
control_known ck.SessionConfirmed = refl
control_known ck.SessionCompleted = refl
control_known ck.SessionKnownCompleted = refl
control_known ck.SessionFlush = refl
control_known ck.SessionGap = refl

pub control_listed : (kind : ControlKind) → is_control_class (control_class kind) ≡ true
control_listed ck.ConnectionStart = refl
control_listed ck.ConnectionStartOk = refl
control_listed ck.ConnectionSecure = refl
control_listed ck.ConnectionSecureOk = refl
control_listed ck.ConnectionTune = refl
control_listed ck.ConnectionTuneOk = refl
control_listed ck.ConnectionOpen = refl
control_listed ck.ConnectionOpenOk = refl
control_listed ck.ConnectionHeartbeat = refl
control_listed ck.ConnectionClose = refl
control_listed ck.ConnectionCloseOk = refl
control_listed ck.SessionAttach = refl
control_listed ck.SessionAttached = refl
control_listed ck.SessionDetach = refl
control_listed ck.SessionDetached = refl
control_listed ck.SessionRequestTimeout = refl
control_listed ck.SessionTimeout = refl
control_listed ck.SessionCommandPoint = refl
control_listed ck.SessionExpected = refl
control_listed ck.SessionConfirmed = refl
control_listed ck.SessionCompleted = refl
control_listed ck.SessionKnownCompleted = refl
control_listed ck.SessionFlush = refl
control_listed ck.SessionGap = refl

-- ---- commands

-- a command of a kind
pub record OfKind (kind : CommandKind) (command : Command) : Type 0 where
  pub is : command_kind_of command ≡ Some kind
  pub stands : Alike (command_table kind) (command_fields command)
  pub back : command_by kind (command_fields command) ≡ command

-- each command is of a kind, or unknown
pub record Cases (Q : Command → Type 0) : Type 0 where
  pub known : (kind : CommandKind) (command : Command) → OfKind kind command → Q command
  pub unknown : (class code : ℕ) (rest : List ℕ) → Q (m.Unknown class code rest)

pub by_cases : (Q : Command → Type 0) → Cases Q → (command : Command) → Q command
unfolding Alike
by_cases Q cases m.ExecutionSync = cases.known mk.ExecutionSync m.ExecutionSync (record { is = refl; stands = refl; back = refl })
by_cases Q cases (m.ExecutionResult a b) = cases.known mk.ExecutionResult (m.ExecutionResult a b) (record { is = refl; stands = (stands_u32 a, (stands_struct32 b, refl)); back = rw (back_u32 a, back_struct32 b) refl })
by_cases Q cases (m.ExecutionException a b c d e f g) = cases.known mk.ExecutionException (m.ExecutionException a b c d e f g) (record { is = refl; stands = (stands_u16 a, (stands_u32 b, (stands_u8 c, (stands_u8 d, (stands_u8 e, (stands_str16 f, (stands_map g, refl))))))); back = rw (back_u16 a, back_u32 b, back_u8 c, back_u8 d, back_u8 e, back_str16 f, back_map g) refl })
by_cases Q cases (m.MessageTransfer a b c) = cases.known mk.MessageTransfer (m.MessageTransfer a b c) (record { is = refl; stands = (stands_str8 a, (stands_u8 b, (stands_u8 c, refl))); back = rw (back_str8 a, back_u8 b, back_u8 c) refl })
by_cases Q cases (m.MessageAccept a) = cases.known mk.MessageAccept (m.MessageAccept a) (record { is = refl; stands = (stands_ranges a, refl); back = rw (back_ranges a) refl })
by_cases Q cases (m.MessageReject a b c) = cases.known mk.MessageReject (m.MessageReject a b c) (record { is = refl; stands = (stands_ranges a, (stands_u16 b, (stands_str8 c, refl))); back = rw (back_ranges a, back_u16 b, back_str8 c) refl })
by_cases Q cases (m.MessageRelease a b) = cases.known mk.MessageRelease (m.MessageRelease a b) (record { is = refl; stands = (stands_ranges a, (stands_bit b, refl)); back = rw (back_ranges a, back_bit b) refl })
by_cases Q cases (m.MessageAcquire a) = cases.known mk.MessageAcquire (m.MessageAcquire a) (record { is = refl; stands = (stands_ranges a, refl); back = rw (back_ranges a) refl })
by_cases Q cases (m.MessageSubscribe a b c d e f g h) = cases.known mk.MessageSubscribe (m.MessageSubscribe a b c d e f g h) (record { is = refl; stands = (stands_str8 a, (stands_str8 b, (stands_u8 c, (stands_u8 d, (stands_bit e, (stands_str16 f, (stands_u64 g, (stands_map h, refl)))))))); back = rw (back_str8 a, back_str8 b, back_u8 c, back_u8 d, back_bit e, back_str16 f, back_u64 g, back_map h) refl })
by_cases Q cases (m.MessageCancel a) = cases.known mk.MessageCancel (m.MessageCancel a) (record { is = refl; stands = (stands_str8 a, refl); back = rw (back_str8 a) refl })
by_cases Q cases (m.MessageSetFlowMode a b) = cases.known mk.MessageSetFlowMode (m.MessageSetFlowMode a b) (record { is = refl; stands = (stands_str8 a, (stands_u8 b, refl)); back = rw (back_str8 a, back_u8 b) refl })
by_cases Q cases (m.MessageFlow a b c) = cases.known mk.MessageFlow (m.MessageFlow a b c) (record { is = refl; stands = (stands_str8 a, (stands_u8 b, (stands_u32 c, refl))); back = rw (back_str8 a, back_u8 b, back_u32 c) refl })
by_cases Q cases (m.MessageFlush a) = cases.known mk.MessageFlush (m.MessageFlush a) (record { is = refl; stands = (stands_str8 a, refl); back = rw (back_str8 a) refl })
by_cases Q cases (m.MessageStop a) = cases.known mk.MessageStop (m.MessageStop a) (record { is = refl; stands = (stands_str8 a, refl); back = rw (back_str8 a) refl })
by_cases Q cases m.TxSelect = cases.known mk.TxSelect m.TxSelect (record { is = refl; stands = refl; back = refl })
by_cases Q cases m.TxCommit = cases.known mk.TxCommit m.TxCommit (record { is = refl; stands = refl; back = refl })
by_cases Q cases m.TxRollback = cases.known mk.TxRollback m.TxRollback (record { is = refl; stands = refl; back = refl })
by_cases Q cases m.DtxSelect = cases.known mk.DtxSelect m.DtxSelect (record { is = refl; stands = refl; back = refl })
by_cases Q cases (m.DtxStart a b c) = cases.known mk.DtxStart (m.DtxStart a b c) (record { is = refl; stands = (stands_xid a, (stands_bit b, (stands_bit c, refl))); back = rw (back_xid a, back_bit b, back_bit c) refl })
by_cases Q cases (m.DtxEnd a b c) = cases.known mk.DtxEnd (m.DtxEnd a b c) (record { is = refl; stands = (stands_xid a, (stands_bit b, (stands_bit c, refl))); back = rw (back_xid a, back_bit b, back_bit c) refl })
by_cases Q cases (m.DtxCommit a b) = cases.known mk.DtxCommit (m.DtxCommit a b) (record { is = refl; stands = (stands_xid a, (stands_bit b, refl)); back = rw (back_xid a, back_bit b) refl })
by_cases Q cases (m.DtxForget a) = cases.known mk.DtxForget (m.DtxForget a) (record { is = refl; stands = (stands_xid a, refl); back = rw (back_xid a) refl })
by_cases Q cases (m.DtxGetTimeout a) = cases.known mk.DtxGetTimeout (m.DtxGetTimeout a) (record { is = refl; stands = (stands_xid a, refl); back = rw (back_xid a) refl })
by_cases Q cases (m.DtxPrepare a) = cases.known mk.DtxPrepare (m.DtxPrepare a) (record { is = refl; stands = (stands_xid a, refl); back = rw (back_xid a) refl })
by_cases Q cases (m.DtxRollback a) = cases.known mk.DtxRollback (m.DtxRollback a) (record { is = refl; stands = (stands_xid a, refl); back = rw (back_xid a) refl })
by_cases Q cases m.DtxRecover = cases.known mk.DtxRecover m.DtxRecover (record { is = refl; stands = refl; back = refl })
by_cases Q cases (m.DtxSetTimeout a b) = cases.known mk.DtxSetTimeout (m.DtxSetTimeout a b) (record { is = refl; stands = (stands_xid a, (stands_u32 b, refl)); back = rw (back_xid a, back_u32 b) refl })
by_cases Q cases (m.ExchangeDeclare a b c d e f g) = cases.known mk.ExchangeDeclare (m.ExchangeDeclare a b c d e f g) (record { is = refl; stands = (stands_str8 a, (stands_str8 b, (stands_str8 c, (stands_bit d, (stands_bit e, (stands_bit f, (stands_map g, refl))))))); back = rw (back_str8 a, back_str8 b, back_str8 c, back_bit d, back_bit e, back_bit f, back_map g) refl })
by_cases Q cases (m.ExchangeDelete a b) = cases.known mk.ExchangeDelete (m.ExchangeDelete a b) (record { is = refl; stands = (stands_str8 a, (stands_bit b, refl)); back = rw (back_str8 a, back_bit b) refl })
by_cases Q cases (m.ExchangeQuery a) = cases.known mk.ExchangeQuery (m.ExchangeQuery a) (record { is = refl; stands = (stands_str8 a, refl); back = rw (back_str8 a) refl })
by_cases Q cases (m.ExchangeBind a b c d) = cases.known mk.ExchangeBind (m.ExchangeBind a b c d) (record { is = refl; stands = (stands_str8 a, (stands_str8 b, (stands_str8 c, (stands_map d, refl)))); back = rw (back_str8 a, back_str8 b, back_str8 c, back_map d) refl })
by_cases Q cases (m.ExchangeUnbind a b c) = cases.known mk.ExchangeUnbind (m.ExchangeUnbind a b c) (record { is = refl; stands = (stands_str8 a, (stands_str8 b, (stands_str8 c, refl))); back = rw (back_str8 a, back_str8 b, back_str8 c) refl })
by_cases Q cases (m.ExchangeBound a b c d) = cases.known mk.ExchangeBound (m.ExchangeBound a b c d) (record { is = refl; stands = (stands_str8 a, (stands_str8 b, (stands_str8 c, (stands_map d, refl)))); back = rw (back_str8 a, back_str8 b, back_str8 c, back_map d) refl })
by_cases Q cases (m.QueueDeclare a b c d e f g) = cases.known mk.QueueDeclare (m.QueueDeclare a b c d e f g) (record { is = refl; stands = (stands_str8 a, (stands_str8 b, (stands_bit c, (stands_bit d, (stands_bit e, (stands_bit f, (stands_map g, refl))))))); back = rw (back_str8 a, back_str8 b, back_bit c, back_bit d, back_bit e, back_bit f, back_map g) refl })
by_cases Q cases (m.QueueDelete a b c) = cases.known mk.QueueDelete (m.QueueDelete a b c) (record { is = refl; stands = (stands_str8 a, (stands_bit b, (stands_bit c, refl))); back = rw (back_str8 a, back_bit b, back_bit c) refl })
by_cases Q cases (m.QueuePurge a) = cases.known mk.QueuePurge (m.QueuePurge a) (record { is = refl; stands = (stands_str8 a, refl); back = rw (back_str8 a) refl })
by_cases Q cases (m.QueueQuery a) = cases.known mk.QueueQuery (m.QueueQuery a) (record { is = refl; stands = (stands_str8 a, refl); back = rw (back_str8 a) refl })
by_cases Q cases (m.Unknown class code rest) = cases.unknown class code rest

pub command_rounds : (kind : CommandKind) (fields : List Field) → command_fields (command_by kind fields) ≡ rounds (command_table kind) fields
command_rounds mk.ExecutionSync fields = refl
command_rounds mk.ExecutionResult fields = refl
command_rounds mk.ExecutionException fields = refl
command_rounds mk.MessageTransfer fields = refl
command_rounds mk.MessageAccept fields = refl
command_rounds mk.MessageReject fields = refl
command_rounds mk.MessageRelease fields = refl
command_rounds mk.MessageAcquire fields = refl
command_rounds mk.MessageSubscribe fields = refl
command_rounds mk.MessageCancel fields = refl
command_rounds mk.MessageSetFlowMode fields = refl
command_rounds mk.MessageFlow fields = refl
command_rounds mk.MessageFlush fields = refl
command_rounds mk.MessageStop fields = refl
command_rounds mk.TxSelect fields = refl
command_rounds mk.TxCommit fields = refl
command_rounds mk.TxRollback fields = refl
command_rounds mk.DtxSelect fields = refl
command_rounds mk.DtxStart fields = refl
command_rounds mk.DtxEnd fields = refl
command_rounds mk.DtxCommit fields = refl
command_rounds mk.DtxForget fields = refl
command_rounds mk.DtxGetTimeout fields = refl
command_rounds mk.DtxPrepare fields = refl
command_rounds mk.DtxRollback fields = refl
command_rounds mk.DtxRecover fields = refl
command_rounds mk.DtxSetTimeout fields = refl
command_rounds mk.ExchangeDeclare fields = refl
command_rounds mk.ExchangeDelete fields = refl
command_rounds mk.ExchangeQuery fields = refl
command_rounds mk.ExchangeBind fields = refl
command_rounds mk.ExchangeUnbind fields = refl
command_rounds mk.ExchangeBound fields = refl
command_rounds mk.QueueDeclare fields = refl
command_rounds mk.QueueDelete fields = refl
command_rounds mk.QueuePurge fields = refl
command_rounds mk.QueueQuery fields = refl

pub command_made : (kind : CommandKind) (fields : List Field) → command_kind_of (command_by kind fields) ≡ Some kind
command_made mk.ExecutionSync fields = refl
command_made mk.ExecutionResult fields = refl
command_made mk.ExecutionException fields = refl
command_made mk.MessageTransfer fields = refl
command_made mk.MessageAccept fields = refl
command_made mk.MessageReject fields = refl
command_made mk.MessageRelease fields = refl
command_made mk.MessageAcquire fields = refl
command_made mk.MessageSubscribe fields = refl
command_made mk.MessageCancel fields = refl
command_made mk.MessageSetFlowMode fields = refl
command_made mk.MessageFlow fields = refl
command_made mk.MessageFlush fields = refl
command_made mk.MessageStop fields = refl
command_made mk.TxSelect fields = refl
command_made mk.TxCommit fields = refl
command_made mk.TxRollback fields = refl
command_made mk.DtxSelect fields = refl
command_made mk.DtxStart fields = refl
command_made mk.DtxEnd fields = refl
command_made mk.DtxCommit fields = refl
command_made mk.DtxForget fields = refl
command_made mk.DtxGetTimeout fields = refl
command_made mk.DtxPrepare fields = refl
command_made mk.DtxRollback fields = refl
command_made mk.DtxRecover fields = refl
command_made mk.DtxSetTimeout fields = refl
command_made mk.ExchangeDeclare fields = refl
command_made mk.ExchangeDelete fields = refl
command_made mk.ExchangeQuery fields = refl
command_made mk.ExchangeBind fields = refl
command_made mk.ExchangeUnbind fields = refl
command_made mk.ExchangeBound fields = refl
command_made mk.QueueDeclare fields = refl
command_made mk.QueueDelete fields = refl
command_made mk.QueuePurge fields = refl
command_made mk.QueueQuery fields = refl

pub command_known : (kind : CommandKind) → command_kind (command_class kind) (command_code kind) ≡ Some kind
unfolding command_kind
command_known mk.ExecutionSync = refl
command_known mk.ExecutionResult = refl
command_known mk.ExecutionException = refl
command_known mk.MessageTransfer = refl
command_known mk.MessageAccept = refl
command_known mk.MessageReject = refl
command_known mk.MessageRelease = refl
command_known mk.MessageAcquire = refl
command_known mk.MessageSubscribe = refl
command_known mk.MessageCancel = refl
command_known mk.MessageSetFlowMode = refl
command_known mk.MessageFlow = refl
command_known mk.MessageFlush = refl
command_known mk.MessageStop = refl
command_known mk.TxSelect = refl
command_known mk.TxCommit = refl
command_known mk.TxRollback = refl
command_known mk.DtxSelect = refl
command_known mk.DtxStart = refl
command_known mk.DtxEnd = refl
command_known mk.DtxCommit = refl
command_known mk.DtxForget = refl
command_known mk.DtxGetTimeout = refl
command_known mk.DtxPrepare = refl
command_known mk.DtxRollback = refl
command_known mk.DtxRecover = refl
command_known mk.DtxSetTimeout = refl
command_known mk.ExchangeDeclare = refl
command_known mk.ExchangeDelete = refl
command_known mk.ExchangeQuery = refl
command_known mk.ExchangeBind = refl
command_known mk.ExchangeUnbind = refl
command_known mk.ExchangeBound = refl
command_known mk.QueueDeclare = refl
command_known mk.QueueDelete = refl
command_known mk.QueuePurge = refl
command_known mk.QueueQuery = refl

pub command_listed : (kind : CommandKind) → is_command_class (command_class kind) ≡ true
command_listed mk.ExecutionSync = refl
command_listed mk.ExecutionResult = refl
command_listed mk.ExecutionException = refl
command_listed mk.MessageTransfer = refl
command_listed mk.MessageAccept = refl
command_listed mk.MessageReject = refl
command_listed mk.MessageRelease = refl
command_listed mk.MessageAcquire = refl
command_listed mk.MessageSubscribe = refl
command_listed mk.MessageCancel = refl
command_listed mk.MessageSetFlowMode = refl
command_listed mk.MessageFlow = refl
command_listed mk.MessageFlush = refl
command_listed mk.MessageStop = refl
command_listed mk.TxSelect = refl
command_listed mk.TxCommit = refl
command_listed mk.TxRollback = refl
command_listed mk.DtxSelect = refl
command_listed mk.DtxStart = refl
command_listed mk.DtxEnd = refl
command_listed mk.DtxCommit = refl
command_listed mk.DtxForget = refl
command_listed mk.DtxGetTimeout = refl
command_listed mk.DtxPrepare = refl
command_listed mk.DtxRollback = refl
command_listed mk.DtxRecover = refl
command_listed mk.DtxSetTimeout = refl
command_listed mk.ExchangeDeclare = refl
command_listed mk.ExchangeDelete = refl
command_listed mk.ExchangeQuery = refl
command_listed mk.ExchangeBind = refl
command_listed mk.ExchangeUnbind = refl
command_listed mk.ExchangeBound = refl
command_listed mk.QueueDeclare = refl
command_listed mk.QueueDelete = refl
command_listed mk.QueuePurge = refl
command_listed mk.QueueQuery = refl

-- ---- codes of what is found

pub control_codes : (class code : ℕ) (kind : ControlKind) → control_kind class code ≡ Some kind → HasCode class code (control_class kind) (control_code kind)
unfolding control_kind
control_codes class code kind e =
    let p = and_parts (eqb (control_class kind) class) (eqb (control_code kind) code) (found_passes (λ k. eqb (control_class k) class && eqb (control_code k) code) all_controls kind e) in
    record { class_is = eqb-true (control_class kind) class p.0; code_is = eqb-true (control_code kind) code p.1 }

pub command_codes : (class code : ℕ) (kind : CommandKind) → command_kind class code ≡ Some kind → HasCode class code (command_class kind) (command_code kind)
unfolding command_kind
command_codes class code kind e =
    let p = and_parts (eqb (command_class kind) class) (eqb (command_code kind) code) (found_passes (λ k. eqb (command_class k) class && eqb (command_code k) code) all_commands kind e) in
    record { class_is = eqb-true (command_class kind) class p.0; code_is = eqb-true (command_code kind) code p.1 }
