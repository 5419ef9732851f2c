-- Controls and commands as kinds with fields.
use Rattle.std.specs.Prelude.{List, [], ◌∷◌, Option, None, Some}
use Rattle.amqp_terms.specs.declared.control.Control.{Control}
use Rattle.amqp_terms.specs.declared.control.Control.TheVariants as c
use Rattle.amqp_terms.specs.declared.command.Command.{Command}
use Rattle.amqp_terms.specs.declared.command.Command.TheVariants as m
use Rattle.amqp_packed.specs.declared.field.Field.{Field}
use Rattle.amqp_packed.specs.Typed.{first, others, as_array, of_array, as_bit, of_bit, as_map, of_map, as_ranges, of_ranges, as_str16, of_str16, as_str8, of_str8, as_struct32, of_struct32, as_u16, of_u16, as_u32, of_u32, as_u64, of_u64, as_u8, of_u8, as_vbin16, of_vbin16, as_vbin32, of_vbin32, as_xid, of_xid}
use Rattle.amqp_commands.specs.declared.controls.ControlKind.{ControlKind}
use Rattle.amqp_commands.specs.declared.controls.ControlKind.TheVariants as ck
use Rattle.amqp_commands.specs.declared.commands.CommandKind.{CommandKind}
use Rattle.amqp_commands.specs.declared.commands.CommandKind.TheVariants as mk

-- what kind a control is, its fields in order, and the control that fields make
abbrev pub control_kind_of : Control → ControlKind
control_kind_of (c.ConnectionStart a b c) = ck.ConnectionStart
control_kind_of (c.ConnectionStartOk a b c d) = ck.ConnectionStartOk
control_kind_of (c.ConnectionSecure a) = ck.ConnectionSecure
control_kind_of (c.ConnectionSecureOk a) = ck.ConnectionSecureOk
control_kind_of (c.ConnectionTune a b c d) = ck.ConnectionTune
control_kind_of (c.ConnectionTuneOk a b c) = ck.ConnectionTuneOk
control_kind_of (c.ConnectionOpen a b c) = ck.ConnectionOpen
control_kind_of (c.ConnectionOpenOk a) = ck.ConnectionOpenOk
control_kind_of c.ConnectionHeartbeat = ck.ConnectionHeartbeat
control_kind_of (c.ConnectionClose a b) = ck.ConnectionClose
control_kind_of c.ConnectionCloseOk = ck.ConnectionCloseOk
control_kind_of (c.SessionAttach a b) = ck.SessionAttach
control_kind_of (c.SessionAttached a) = ck.SessionAttached
control_kind_of (c.SessionDetach a) = ck.SessionDetach
control_kind_of (c.SessionDetached a b) = ck.SessionDetached
control_kind_of (c.SessionRequestTimeout a) = ck.SessionRequestTimeout
control_kind_of (c.SessionTimeout a) = ck.SessionTimeout
control_kind_of (c.SessionCommandPoint a b) = ck.SessionCommandPoint
control_kind_of (c.SessionExpected a b) = ck.SessionExpected
control_kind_of (c.SessionConfirmed a b) = ck.SessionConfirmed
control_kind_of (c.SessionCompleted a b) = ck.SessionCompleted
control_kind_of (c.SessionKnownCompleted a) = ck.SessionKnownCompleted
control_kind_of (c.SessionFlush a b c) = ck.SessionFlush
control_kind_of (c.SessionGap a) = ck.SessionGap

abbrev pub control_fields : Control → List Field
control_fields (c.ConnectionStart a b c) = of_map a ∷ of_array b ∷ of_array c ∷ []
control_fields (c.ConnectionStartOk a b c d) = of_map a ∷ of_str8 b ∷ of_vbin32 c ∷ of_str8 d ∷ []
control_fields (c.ConnectionSecure a) = of_vbin32 a ∷ []
control_fields (c.ConnectionSecureOk a) = of_vbin32 a ∷ []
control_fields (c.ConnectionTune a b c d) = of_u16 a ∷ of_u16 b ∷ of_u16 c ∷ of_u16 d ∷ []
control_fields (c.ConnectionTuneOk a b c) = of_u16 a ∷ of_u16 b ∷ of_u16 c ∷ []
control_fields (c.ConnectionOpen a b c) = of_str8 a ∷ of_array b ∷ of_bit c ∷ []
control_fields (c.ConnectionOpenOk a) = of_array a ∷ []
control_fields c.ConnectionHeartbeat = []
control_fields (c.ConnectionClose a b) = of_u16 a ∷ of_str8 b ∷ []
control_fields c.ConnectionCloseOk = []
control_fields (c.SessionAttach a b) = of_vbin16 a ∷ of_bit b ∷ []
control_fields (c.SessionAttached a) = of_vbin16 a ∷ []
control_fields (c.SessionDetach a) = of_vbin16 a ∷ []
control_fields (c.SessionDetached a b) = of_vbin16 a ∷ of_u8 b ∷ []
control_fields (c.SessionRequestTimeout a) = of_u32 a ∷ []
control_fields (c.SessionTimeout a) = of_u32 a ∷ []
control_fields (c.SessionCommandPoint a b) = of_u32 a ∷ of_u64 b ∷ []
control_fields (c.SessionExpected a b) = of_ranges a ∷ of_array b ∷ []
control_fields (c.SessionConfirmed a b) = of_ranges a ∷ of_array b ∷ []
control_fields (c.SessionCompleted a b) = of_ranges a ∷ of_bit b ∷ []
control_fields (c.SessionKnownCompleted a) = of_ranges a ∷ []
control_fields (c.SessionFlush a b c) = of_bit a ∷ of_bit b ∷ of_bit c ∷ []
control_fields (c.SessionGap a) = of_ranges a ∷ []

abbrev pub control_by : ControlKind → List Field → Control
control_by ck.ConnectionStart fs = c.ConnectionStart (as_map (first fs)) (as_array (first (others fs))) (as_array (first (others (others fs))))
control_by ck.ConnectionStartOk fs = c.ConnectionStartOk (as_map (first fs)) (as_str8 (first (others fs))) (as_vbin32 (first (others (others fs)))) (as_str8 (first (others (others (others fs)))))
control_by ck.ConnectionSecure fs = c.ConnectionSecure (as_vbin32 (first fs))
control_by ck.ConnectionSecureOk fs = c.ConnectionSecureOk (as_vbin32 (first fs))
control_by ck.ConnectionTune fs = c.ConnectionTune (as_u16 (first fs)) (as_u16 (first (others fs))) (as_u16 (first (others (others fs)))) (as_u16 (first (others (others (others fs)))))
control_by ck.ConnectionTuneOk fs = c.ConnectionTuneOk (as_u16 (first fs)) (as_u16 (first (others fs))) (as_u16 (first (others (others fs))))
control_by ck.ConnectionOpen fs = c.ConnectionOpen (as_str8 (first fs)) (as_array (first (others fs))) (as_bit (first (others (others fs))))
control_by ck.ConnectionOpenOk fs = c.ConnectionOpenOk (as_array (first fs))
control_by ck.ConnectionHeartbeat fs = c.ConnectionHeartbeat
control_by ck.ConnectionClose fs = c.ConnectionClose (as_u16 (first fs)) (as_str8 (first (others fs)))
control_by ck.ConnectionCloseOk fs = c.ConnectionCloseOk
control_by ck.SessionAttach fs = c.SessionAttach (as_vbin16 (first fs)) (as_bit (first (others fs)))
control_by ck.SessionAttached fs = c.SessionAttached (as_vbin16 (first fs))
control_by ck.SessionDetach fs = c.SessionDetach (as_vbin16 (first fs))
control_by ck.SessionDetached fs = c.SessionDetached (as_vbin16 (first fs)) (as_u8 (first (others fs)))
control_by ck.SessionRequestTimeout fs = c.SessionRequestTimeout (as_u32 (first fs))
control_by ck.SessionTimeout fs = c.SessionTimeout (as_u32 (first fs))
control_by ck.SessionCommandPoint fs = c.SessionCommandPoint (as_u32 (first fs)) (as_u64 (first (others fs)))
control_by ck.SessionExpected fs = c.SessionExpected (as_ranges (first fs)) (as_array (first (others fs)))
control_by ck.SessionConfirmed fs = c.SessionConfirmed (as_ranges (first fs)) (as_array (first (others fs)))
control_by ck.SessionCompleted fs = c.SessionCompleted (as_ranges (first fs)) (as_bit (first (others fs)))
control_by ck.SessionKnownCompleted fs = c.SessionKnownCompleted (as_ranges (first fs))
control_by ck.SessionFlush fs = c.SessionFlush (as_bit (first fs)) (as_bit (first (others fs))) (as_bit (first (others (others fs))))
control_by ck.SessionGap fs = c.SessionGap (as_ranges (first fs))

-- what kind a command is, its fields in order, and the command that fields make
abbrev pub command_kind_of : Command → Option CommandKind
command_kind_of m.ExecutionSync = Some mk.ExecutionSync
command_kind_of (m.ExecutionResult a b) = Some mk.ExecutionResult
command_kind_of (m.ExecutionException a b c d e f g) = Some mk.ExecutionException
command_kind_of (m.MessageTransfer a b c) = Some mk.MessageTransfer
command_kind_of (m.MessageAccept a) = Some mk.MessageAccept
command_kind_of (m.MessageReject a b c) = Some mk.MessageReject
command_kind_of (m.MessageRelease a b) = Some mk.MessageRelease
command_kind_of (m.MessageAcquire a) = Some mk.MessageAcquire
command_kind_of (m.MessageSubscribe a b c d e f g h) = Some mk.MessageSubscribe
command_kind_of (m.MessageCancel a) = Some mk.MessageCancel
command_kind_of (m.MessageSetFlowMode a b) = Some mk.MessageSetFlowMode
command_kind_of (m.MessageFlow a b c) = Some mk.MessageFlow
command_kind_of (m.MessageFlush a) = Some mk.MessageFlush
command_kind_of (m.MessageStop a) = Some mk.MessageStop
command_kind_of m.TxSelect = Some mk.TxSelect
command_kind_of m.TxCommit = Some mk.TxCommit
command_kind_of m.TxRollback = Some mk.TxRollback
command_kind_of m.DtxSelect = Some mk.DtxSelect
command_kind_of (m.DtxStart a b c) = Some mk.DtxStart
command_kind_of (m.DtxEnd a b c) = Some mk.DtxEnd
command_kind_of (m.DtxCommit a b) = Some mk.DtxCommit
command_kind_of (m.DtxForget a) = Some mk.DtxForget
command_kind_of (m.DtxGetTimeout a) = Some mk.DtxGetTimeout
command_kind_of (m.DtxPrepare a) = Some mk.DtxPrepare
command_kind_of (m.DtxRollback a) = Some mk.DtxRollback
command_kind_of m.DtxRecover = Some mk.DtxRecover
command_kind_of (m.DtxSetTimeout a b) = Some mk.DtxSetTimeout
command_kind_of (m.ExchangeDeclare a b c d e f g) = Some mk.ExchangeDeclare
command_kind_of (m.ExchangeDelete a b) = Some mk.ExchangeDelete
command_kind_of (m.ExchangeQuery a) = Some mk.ExchangeQuery
command_kind_of (m.ExchangeBind a b c d) = Some mk.ExchangeBind
command_kind_of (m.ExchangeUnbind a b c) = Some mk.ExchangeUnbind
command_kind_of (m.ExchangeBound a b c d) = Some mk.ExchangeBound
command_kind_of (m.QueueDeclare a b c d e f g) = Some mk.QueueDeclare
command_kind_of (m.QueueDelete a b c) = Some mk.QueueDelete
command_kind_of (m.QueuePurge a) = Some mk.QueuePurge
command_kind_of (m.QueueQuery a) = Some mk.QueueQuery
command_kind_of (m.Unknown class code rest) = None

abbrev pub command_fields : Command → List Field
command_fields m.ExecutionSync = []
command_fields (m.ExecutionResult a b) = of_u32 a ∷ of_struct32 b ∷ []
command_fields (m.ExecutionException a b c d e f g) = of_u16 a ∷ of_u32 b ∷ of_u8 c ∷ of_u8 d ∷ of_u8 e ∷ of_str16 f ∷ of_map g ∷ []
command_fields (m.MessageTransfer a b c) = of_str8 a ∷ of_u8 b ∷ of_u8 c ∷ []
command_fields (m.MessageAccept a) = of_ranges a ∷ []
command_fields (m.MessageReject a b c) = of_ranges a ∷ of_u16 b ∷ of_str8 c ∷ []
command_fields (m.MessageRelease a b) = of_ranges a ∷ of_bit b ∷ []
command_fields (m.MessageAcquire a) = of_ranges a ∷ []
command_fields (m.MessageSubscribe a b c d e f g h) = of_str8 a ∷ of_str8 b ∷ of_u8 c ∷ of_u8 d ∷ of_bit e ∷ of_str16 f ∷ of_u64 g ∷ of_map h ∷ []
command_fields (m.MessageCancel a) = of_str8 a ∷ []
command_fields (m.MessageSetFlowMode a b) = of_str8 a ∷ of_u8 b ∷ []
command_fields (m.MessageFlow a b c) = of_str8 a ∷ of_u8 b ∷ of_u32 c ∷ []
command_fields (m.MessageFlush a) = of_str8 a ∷ []
command_fields (m.MessageStop a) = of_str8 a ∷ []
command_fields m.TxSelect = []
command_fields m.TxCommit = []
command_fields m.TxRollback = []
command_fields m.DtxSelect = []
command_fields (m.DtxStart a b c) = of_xid a ∷ of_bit b ∷ of_bit c ∷ []
command_fields (m.DtxEnd a b c) = of_xid a ∷ of_bit b ∷ of_bit c ∷ []
command_fields (m.DtxCommit a b) = of_xid a ∷ of_bit b ∷ []
command_fields (m.DtxForget a) = of_xid a ∷ []
command_fields (m.DtxGetTimeout a) = of_xid a ∷ []
command_fields (m.DtxPrepare a) = of_xid a ∷ []
command_fields (m.DtxRollback a) = of_xid a ∷ []
command_fields m.DtxRecover = []
command_fields (m.DtxSetTimeout a b) = of_xid a ∷ of_u32 b ∷ []
command_fields (m.ExchangeDeclare a b c d e f g) = of_str8 a ∷ of_str8 b ∷ of_str8 c ∷ of_bit d ∷ of_bit e ∷ of_bit f ∷ of_map g ∷ []
command_fields (m.ExchangeDelete a b) = of_str8 a ∷ of_bit b ∷ []
command_fields (m.ExchangeQuery a) = of_str8 a ∷ []
command_fields (m.ExchangeBind a b c d) = of_str8 a ∷ of_str8 b ∷ of_str8 c ∷ of_map d ∷ []
command_fields (m.ExchangeUnbind a b c) = of_str8 a ∷ of_str8 b ∷ of_str8 c ∷ []
command_fields (m.ExchangeBound a b c d) = of_str8 a ∷ of_str8 b ∷ of_str8 c ∷ of_map d ∷ []
command_fields (m.QueueDeclare a b c d e f g) = of_str8 a ∷ of_str8 b ∷ of_bit c ∷ of_bit d ∷ of_bit e ∷ of_bit f ∷ of_map g ∷ []
command_fields (m.QueueDelete a b c) = of_str8 a ∷ of_bit b ∷ of_bit c ∷ []
command_fields (m.QueuePurge a) = of_str8 a ∷ []
command_fields (m.QueueQuery a) = of_str8 a ∷ []
command_fields (m.Unknown class code rest) = []

abbrev pub command_by : CommandKind → List Field → Command
command_by mk.ExecutionSync fs = m.ExecutionSync
command_by mk.ExecutionResult fs = m.ExecutionResult (as_u32 (first fs)) (as_struct32 (first (others fs)))
command_by mk.ExecutionException fs = m.ExecutionException (as_u16 (first fs)) (as_u32 (first (others fs))) (as_u8 (first (others (others fs)))) (as_u8 (first (others (others (others fs))))) (as_u8 (first (others (others (others (others fs)))))) (as_str16 (first (others (others (others (others (others fs))))))) (as_map (first (others (others (others (others (others (others fs))))))))
command_by mk.MessageTransfer fs = m.MessageTransfer (as_str8 (first fs)) (as_u8 (first (others fs))) (as_u8 (first (others (others fs))))
command_by mk.MessageAccept fs = m.MessageAccept (as_ranges (first fs))
command_by mk.MessageReject fs = m.MessageReject (as_ranges (first fs)) (as_u16 (first (others fs))) (as_str8 (first (others (others fs))))
command_by mk.MessageRelease fs = m.MessageRelease (as_ranges (first fs)) (as_bit (first (others fs)))
command_by mk.MessageAcquire fs = m.MessageAcquire (as_ranges (first fs))
command_by mk.MessageSubscribe fs = m.MessageSubscribe (as_str8 (first fs)) (as_str8 (first (others fs))) (as_u8 (first (others (others fs)))) (as_u8 (first (others (others (others fs))))) (as_bit (first (others (others (others (others fs)))))) (as_str16 (first (others (others (others (others (others fs))))))) (as_u64 (first (others (others (others (others (others (others fs)))))))) (as_map (first (others (others (others (others (others (others (others fs)))))))))
command_by mk.MessageCancel fs = m.MessageCancel (as_str8 (first fs))
command_by mk.MessageSetFlowMode fs = m.MessageSetFlowMode (as_str8 (first fs)) (as_u8 (first (others fs)))
command_by mk.MessageFlow fs = m.MessageFlow (as_str8 (first fs)) (as_u8 (first (others fs))) (as_u32 (first (others (others fs))))
command_by mk.MessageFlush fs = m.MessageFlush (as_str8 (first fs))
command_by mk.MessageStop fs = m.MessageStop (as_str8 (first fs))
command_by mk.TxSelect fs = m.TxSelect
command_by mk.TxCommit fs = m.TxCommit
command_by mk.TxRollback fs = m.TxRollback
command_by mk.DtxSelect fs = m.DtxSelect
command_by mk.DtxStart fs = m.DtxStart (as_xid (first fs)) (as_bit (first (others fs))) (as_bit (first (others (others fs))))
command_by mk.DtxEnd fs = m.DtxEnd (as_xid (first fs)) (as_bit (first (others fs))) (as_bit (first (others (others fs))))
command_by mk.DtxCommit fs = m.DtxCommit (as_xid (first fs)) (as_bit (first (others fs)))
command_by mk.DtxForget fs = m.DtxForget (as_xid (first fs))
command_by mk.DtxGetTimeout fs = m.DtxGetTimeout (as_xid (first fs))
command_by mk.DtxPrepare fs = m.DtxPrepare (as_xid (first fs))
command_by mk.DtxRollback fs = m.DtxRollback (as_xid (first fs))
command_by mk.DtxRecover fs = m.DtxRecover
command_by mk.DtxSetTimeout fs = m.DtxSetTimeout (as_xid (first fs)) (as_u32 (first (others fs)))
command_by mk.ExchangeDeclare fs = m.ExchangeDeclare (as_str8 (first fs)) (as_str8 (first (others fs))) (as_str8 (first (others (others fs)))) (as_bit (first (others (others (others fs))))) (as_bit (first (others (others (others (others fs)))))) (as_bit (first (others (others (others (others (others fs))))))) (as_map (first (others (others (others (others (others (others fs))))))))
command_by mk.ExchangeDelete fs = m.ExchangeDelete (as_str8 (first fs)) (as_bit (first (others fs)))
command_by mk.ExchangeQuery fs = m.ExchangeQuery (as_str8 (first fs))
command_by mk.ExchangeBind fs = m.ExchangeBind (as_str8 (first fs)) (as_str8 (first (others fs))) (as_str8 (first (others (others fs)))) (as_map (first (others (others (others fs)))))
command_by mk.ExchangeUnbind fs = m.ExchangeUnbind (as_str8 (first fs)) (as_str8 (first (others fs))) (as_str8 (first (others (others fs))))
command_by mk.ExchangeBound fs = m.ExchangeBound (as_str8 (first fs)) (as_str8 (first (others fs))) (as_str8 (first (others (others fs)))) (as_map (first (others (others (others fs)))))
command_by mk.QueueDeclare fs = m.QueueDeclare (as_str8 (first fs)) (as_str8 (first (others fs))) (as_bit (first (others (others fs)))) (as_bit (first (others (others (others fs))))) (as_bit (first (others (others (others (others fs)))))) (as_bit (first (others (others (others (others (others fs))))))) (as_map (first (others (others (others (others (others (others fs))))))))
command_by mk.QueueDelete fs = m.QueueDelete (as_str8 (first fs)) (as_bit (first (others fs))) (as_bit (first (others (others fs))))
command_by mk.QueuePurge fs = m.QueuePurge (as_str8 (first fs))
command_by mk.QueueQuery fs = m.QueueQuery (as_str8 (first fs))
