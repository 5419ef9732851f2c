-- The controls and commands by class and code, with the kinds of their fields (AMQP 0-10, the chapters of the classes).
use Rattle.std.specs.Prelude.{ℕ, ◌==◌, ◌&&◌, ◌||◌, nat_le, Bool, List, [], ◌∷◌, Option}
use Rattle.std.specs.List.{find}
use Rattle.amqp_packed.specs.declared.field.FieldKind.{FieldKind}
use Rattle.amqp_packed.specs.declared.field.FieldKind.TheVariants as k
use Rattle.amqp_commands.specs.declared.controls.ControlKind.{ControlKind}
use Rattle.amqp_commands.specs.declared.controls.ControlKind.TheVariants as ck
use Rattle.amqp_commands.specs.declared.commands.CommandKind.{CommandKind}
use Rattle.amqp_commands.specs.declared.commands.CommandKind.TheVariants as mk

-- the classes connection and session have controls, those from execution to queue commands
abbrev pub is_control_class : ℕ → Bool
is_control_class class = (class == 1) || (class == 2)

abbrev pub is_command_class : ℕ → Bool
is_command_class class = nat_le 3 class && nat_le class 10

-- the class and the code of each kind of control
abbrev pub control_class : ControlKind → ℕ
control_class ck.ConnectionStart = 1
control_class ck.ConnectionStartOk = 1
control_class ck.ConnectionSecure = 1
control_class ck.ConnectionSecureOk = 1
control_class ck.ConnectionTune = 1
control_class ck.ConnectionTuneOk = 1
control_class ck.ConnectionOpen = 1
control_class ck.ConnectionOpenOk = 1
control_class ck.ConnectionHeartbeat = 1
control_class ck.ConnectionClose = 1
control_class ck.ConnectionCloseOk = 1
control_class ck.SessionAttach = 2
control_class ck.SessionAttached = 2
control_class ck.SessionDetach = 2
control_class ck.SessionDetached = 2
control_class ck.SessionRequestTimeout = 2
control_class ck.SessionTimeout = 2
control_class ck.SessionCommandPoint = 2
control_class ck.SessionExpected = 2
control_class ck.SessionConfirmed = 2
control_class ck.SessionCompleted = 2
control_class ck.SessionKnownCompleted = 2
control_class ck.SessionFlush = 2
control_class ck.SessionGap = 2

abbrev pub control_code : ControlKind → ℕ
control_code ck.ConnectionStart = 1
control_code ck.ConnectionStartOk = 2
control_code ck.ConnectionSecure = 3
control_code ck.ConnectionSecureOk = 4
control_code ck.ConnectionTune = 5
control_code ck.ConnectionTuneOk = 6
control_code ck.ConnectionOpen = 7
control_code ck.ConnectionOpenOk = 8
control_code ck.ConnectionHeartbeat = 10
control_code ck.ConnectionClose = 11
control_code ck.ConnectionCloseOk = 12
control_code ck.SessionAttach = 1
control_code ck.SessionAttached = 2
control_code ck.SessionDetach = 3
control_code ck.SessionDetached = 4
control_code ck.SessionRequestTimeout = 5
control_code ck.SessionTimeout = 6
control_code ck.SessionCommandPoint = 7
control_code ck.SessionExpected = 8
control_code ck.SessionConfirmed = 9
control_code ck.SessionCompleted = 10
control_code ck.SessionKnownCompleted = 11
control_code ck.SessionFlush = 12
control_code ck.SessionGap = 13

abbrev pub all_controls : List ControlKind
all_controls =
    ck.ConnectionStart ∷
    ck.ConnectionStartOk ∷
    ck.ConnectionSecure ∷
    ck.ConnectionSecureOk ∷
    ck.ConnectionTune ∷
    ck.ConnectionTuneOk ∷
    ck.ConnectionOpen ∷
    ck.ConnectionOpenOk ∷
    ck.ConnectionHeartbeat ∷
    ck.ConnectionClose ∷
    ck.ConnectionCloseOk ∷
    ck.SessionAttach ∷
    ck.SessionAttached ∷
    ck.SessionDetach ∷
    ck.SessionDetached ∷
    ck.SessionRequestTimeout ∷
    ck.SessionTimeout ∷
    ck.SessionCommandPoint ∷
    ck.SessionExpected ∷
    ck.SessionConfirmed ∷
    ck.SessionCompleted ∷
    ck.SessionKnownCompleted ∷
    ck.SessionFlush ∷
    ck.SessionGap ∷
    []

-- the kind of a class and code, if one has them
unfoldable pub control_kind : ℕ → ℕ → Option ControlKind
control_kind class code = find (λ kind. (control_class kind == class) && (control_code kind == code)) all_controls

-- its fields, in order
abbrev pub control_table : ControlKind → List FieldKind
control_table ck.ConnectionStart = k.Map ∷ k.Array ∷ k.Array ∷ []
control_table ck.ConnectionStartOk = k.Map ∷ k.Str8 ∷ k.Vbin32 ∷ k.Str8 ∷ []
control_table ck.ConnectionSecure = k.Vbin32 ∷ []
control_table ck.ConnectionSecureOk = k.Vbin32 ∷ []
control_table ck.ConnectionTune = k.U16 ∷ k.U16 ∷ k.U16 ∷ k.U16 ∷ []
control_table ck.ConnectionTuneOk = k.U16 ∷ k.U16 ∷ k.U16 ∷ []
control_table ck.ConnectionOpen = k.Str8 ∷ k.Array ∷ k.Bit ∷ []
control_table ck.ConnectionOpenOk = k.Array ∷ []
control_table ck.ConnectionHeartbeat = []
control_table ck.ConnectionClose = k.U16 ∷ k.Str8 ∷ []
control_table ck.ConnectionCloseOk = []
control_table ck.SessionAttach = k.Vbin16 ∷ k.Bit ∷ []
control_table ck.SessionAttached = k.Vbin16 ∷ []
control_table ck.SessionDetach = k.Vbin16 ∷ []
control_table ck.SessionDetached = k.Vbin16 ∷ k.U8 ∷ []
control_table ck.SessionRequestTimeout = k.U32 ∷ []
control_table ck.SessionTimeout = k.U32 ∷ []
control_table ck.SessionCommandPoint = k.U32 ∷ k.U64 ∷ []
control_table ck.SessionExpected = k.Ranges ∷ k.Array ∷ []
control_table ck.SessionConfirmed = k.Ranges ∷ k.Array ∷ []
control_table ck.SessionCompleted = k.Ranges ∷ k.Bit ∷ []
control_table ck.SessionKnownCompleted = k.Ranges ∷ []
control_table ck.SessionFlush = k.Bit ∷ k.Bit ∷ k.Bit ∷ []
control_table ck.SessionGap = k.Ranges ∷ []

-- the class and the code of each kind of command
abbrev pub command_class : CommandKind → ℕ
command_class mk.ExecutionSync = 3
command_class mk.ExecutionResult = 3
command_class mk.ExecutionException = 3
command_class mk.MessageTransfer = 4
command_class mk.MessageAccept = 4
command_class mk.MessageReject = 4
command_class mk.MessageRelease = 4
command_class mk.MessageAcquire = 4
command_class mk.MessageSubscribe = 4
command_class mk.MessageCancel = 4
command_class mk.MessageSetFlowMode = 4
command_class mk.MessageFlow = 4
command_class mk.MessageFlush = 4
command_class mk.MessageStop = 4
command_class mk.TxSelect = 5
command_class mk.TxCommit = 5
command_class mk.TxRollback = 5
command_class mk.DtxSelect = 6
command_class mk.DtxStart = 6
command_class mk.DtxEnd = 6
command_class mk.DtxCommit = 6
command_class mk.DtxForget = 6
command_class mk.DtxGetTimeout = 6
command_class mk.DtxPrepare = 6
command_class mk.DtxRollback = 6
command_class mk.DtxRecover = 6
command_class mk.DtxSetTimeout = 6
command_class mk.ExchangeDeclare = 7
command_class mk.ExchangeDelete = 7
command_class mk.ExchangeQuery = 7
command_class mk.ExchangeBind = 7
command_class mk.ExchangeUnbind = 7
command_class mk.ExchangeBound = 7
command_class mk.QueueDeclare = 8
command_class mk.QueueDelete = 8
command_class mk.QueuePurge = 8
command_class mk.QueueQuery = 8

abbrev pub command_code : CommandKind → ℕ
command_code mk.ExecutionSync = 1
command_code mk.ExecutionResult = 2
command_code mk.ExecutionException = 3
command_code mk.MessageTransfer = 1
command_code mk.MessageAccept = 2
command_code mk.MessageReject = 3
command_code mk.MessageRelease = 4
command_code mk.MessageAcquire = 5
command_code mk.MessageSubscribe = 7
command_code mk.MessageCancel = 8
command_code mk.MessageSetFlowMode = 9
command_code mk.MessageFlow = 10
command_code mk.MessageFlush = 11
command_code mk.MessageStop = 12
command_code mk.TxSelect = 1
command_code mk.TxCommit = 2
command_code mk.TxRollback = 3
command_code mk.DtxSelect = 1
command_code mk.DtxStart = 2
command_code mk.DtxEnd = 3
command_code mk.DtxCommit = 4
command_code mk.DtxForget = 5
command_code mk.DtxGetTimeout = 6
command_code mk.DtxPrepare = 7
command_code mk.DtxRollback = 9
command_code mk.DtxRecover = 8
command_code mk.DtxSetTimeout = 10
command_code mk.ExchangeDeclare = 1
command_code mk.ExchangeDelete = 2
command_code mk.ExchangeQuery = 3
command_code mk.ExchangeBind = 4
command_code mk.ExchangeUnbind = 5
command_code mk.ExchangeBound = 6
command_code mk.QueueDeclare = 1
command_code mk.QueueDelete = 2
command_code mk.QueuePurge = 3
command_code mk.QueueQuery = 4

abbrev pub all_commands : List CommandKind
all_commands =
    mk.ExecutionSync ∷
    mk.ExecutionResult ∷
    mk.ExecutionException ∷
    mk.MessageTransfer ∷
    mk.MessageAccept ∷
    mk.MessageReject ∷
    mk.MessageRelease ∷
    mk.MessageAcquire ∷
    mk.MessageSubscribe ∷
    mk.MessageCancel ∷
    mk.MessageSetFlowMode ∷
    mk.MessageFlow ∷
    mk.MessageFlush ∷
    mk.MessageStop ∷
    mk.TxSelect ∷
    mk.TxCommit ∷
    mk.TxRollback ∷
    mk.DtxSelect ∷
    mk.DtxStart ∷
    mk.DtxEnd ∷
    mk.DtxCommit ∷
    mk.DtxForget ∷
    mk.DtxGetTimeout ∷
    mk.DtxPrepare ∷
    mk.DtxRollback ∷
    mk.DtxRecover ∷
    mk.DtxSetTimeout ∷
    mk.ExchangeDeclare ∷
    mk.ExchangeDelete ∷
    mk.ExchangeQuery ∷
    mk.ExchangeBind ∷
    mk.ExchangeUnbind ∷
    mk.ExchangeBound ∷
    mk.QueueDeclare ∷
    mk.QueueDelete ∷
    mk.QueuePurge ∷
    mk.QueueQuery ∷
    []

-- the kind of a class and code, if one has them
unfoldable pub command_kind : ℕ → ℕ → Option CommandKind
command_kind class code = find (λ kind. (command_class kind == class) && (command_code kind == code)) all_commands

-- its fields, in order
abbrev pub command_table : CommandKind → List FieldKind
command_table mk.ExecutionSync = []
command_table mk.ExecutionResult = k.U32 ∷ k.Struct32 ∷ []
command_table mk.ExecutionException = k.U16 ∷ k.U32 ∷ k.U8 ∷ k.U8 ∷ k.U8 ∷ k.Str16 ∷ k.Map ∷ []
command_table mk.MessageTransfer = k.Str8 ∷ k.U8 ∷ k.U8 ∷ []
command_table mk.MessageAccept = k.Ranges ∷ []
command_table mk.MessageReject = k.Ranges ∷ k.U16 ∷ k.Str8 ∷ []
command_table mk.MessageRelease = k.Ranges ∷ k.Bit ∷ []
command_table mk.MessageAcquire = k.Ranges ∷ []
command_table mk.MessageSubscribe = k.Str8 ∷ k.Str8 ∷ k.U8 ∷ k.U8 ∷ k.Bit ∷ k.Str16 ∷ k.U64 ∷ k.Map ∷ []
command_table mk.MessageCancel = k.Str8 ∷ []
command_table mk.MessageSetFlowMode = k.Str8 ∷ k.U8 ∷ []
command_table mk.MessageFlow = k.Str8 ∷ k.U8 ∷ k.U32 ∷ []
command_table mk.MessageFlush = k.Str8 ∷ []
command_table mk.MessageStop = k.Str8 ∷ []
command_table mk.TxSelect = []
command_table mk.TxCommit = []
command_table mk.TxRollback = []
command_table mk.DtxSelect = []
command_table mk.DtxStart = k.Xid ∷ k.Bit ∷ k.Bit ∷ []
command_table mk.DtxEnd = k.Xid ∷ k.Bit ∷ k.Bit ∷ []
command_table mk.DtxCommit = k.Xid ∷ k.Bit ∷ []
command_table mk.DtxForget = k.Xid ∷ []
command_table mk.DtxGetTimeout = k.Xid ∷ []
command_table mk.DtxPrepare = k.Xid ∷ []
command_table mk.DtxRollback = k.Xid ∷ []
command_table mk.DtxRecover = []
command_table mk.DtxSetTimeout = k.Xid ∷ k.U32 ∷ []
command_table mk.ExchangeDeclare = k.Str8 ∷ k.Str8 ∷ k.Str8 ∷ k.Bit ∷ k.Bit ∷ k.Bit ∷ k.Map ∷ []
command_table mk.ExchangeDelete = k.Str8 ∷ k.Bit ∷ []
command_table mk.ExchangeQuery = k.Str8 ∷ []
command_table mk.ExchangeBind = k.Str8 ∷ k.Str8 ∷ k.Str8 ∷ k.Map ∷ []
command_table mk.ExchangeUnbind = k.Str8 ∷ k.Str8 ∷ k.Str8 ∷ []
command_table mk.ExchangeBound = k.Str8 ∷ k.Str8 ∷ k.Str8 ∷ k.Map ∷ []
command_table mk.QueueDeclare = k.Str8 ∷ k.Str8 ∷ k.Bit ∷ k.Bit ∷ k.Bit ∷ k.Bit ∷ k.Map ∷ []
command_table mk.QueueDelete = k.Str8 ∷ k.Bit ∷ k.Bit ∷ []
command_table mk.QueuePurge = k.Str8 ∷ []
command_table mk.QueueQuery = k.Str8 ∷ []
