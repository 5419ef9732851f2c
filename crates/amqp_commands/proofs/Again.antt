-- Units that were written are read again.
use Rattle.std.proofs.Common.{◌≡◌, if◌then◌else◌, ℕ, ◌&&◌, ◌||◌, not, Bool, true, false, List, [], ◌∷◌, ◌++◌, drop, Option, None, Some, Result, Ok, Err, refl, sym, ap, ◌∙◌}
use Rattle.std.specs.Prelude.{is_some, nat_lt}
use Rattle.std.specs.List.{list_all}
use Rattle.std.proofs.lemmas.Bool.{and_parts, false≢true}
use Rattle.octet_reading.specs.declared.why.Why.TheVariants.{UnknownClass, UnknownControl, TrailingOctets, ContentNotAllowed}
use Rattle.octet_reading.specs.declared.flaw.Flaw.{Flaw}
use Rattle.octet_reading.specs.Reading.{◌>>=◌, check, flaw_at}
use Rattle.octet_reading.proofs.Again.{part_again}
use Rattle.amqp_terms.specs.declared.control.Control.{Control}
use Rattle.amqp_terms.specs.declared.command.Command.{Command}
use Rattle.amqp_terms.specs.declared.command.Command.TheVariants as m
use Rattle.amqp_packed.specs.declared.field.Field.{Field}
use Rattle.amqp_terms.specs.declared.content.Content.{Content}
use Rattle.amqp_terms.specs.declared.content.HeaderItem.{HeaderItem}
use Rattle.amqp_terms.specs.declared.unit.Unit.{Unit as AnyUnit}
use Rattle.amqp_terms.specs.declared.unit.Unit.TheVariants as unit
use Rattle.amqp_frames.specs.declared.assembly.Segment.{Segment}
use Rattle.amqp_frames.specs.Assembly.{is_alone}
use Rattle.amqp_packed.specs.Reading.{all_fields_at}
use Rattle.amqp_packed.specs.Spelling.{packed, is_fine}
use Rattle.amqp_packed.proofs.Again.{all_fields_again}
use Rattle.amqp_structs.specs.Header.{header_octets}
use Rattle.amqp_structs.proofs.Again.{header_again}
use Rattle.amqp_commands.specs.declared.controls.ControlKind.{ControlKind}
use Rattle.amqp_commands.specs.declared.commands.CommandKind.{CommandKind}
use Rattle.amqp_commands.specs.Kinds.{is_control_class, control_class, control_code, control_kind, control_table, is_command_class, command_class, command_code, command_kind, command_table}
use Rattle.amqp_commands.specs.Terms.{control_kind_of, control_fields, control_by, command_kind_of, command_fields, command_by}
use Rattle.amqp_structs.specs.Results.{known}
use Rattle.amqp_commands.specs.Units.{control_in, session_header_at, command_of, command_in, in_segment, takes_content, body_of, with_header, content_in, with_content, after_command, command_unit, control_unit, unit_in, control_head, control_octets, command_head, kind_octets, command_octets, header_segments, body_segments, content_segments, unit_segments, command_fine, header_fine, content_sound, content_fine, unit_fine}
use Rattle.amqp_commands.proofs.Known.{control_back, control_stands, control_known, control_listed, OfKind, by_cases, command_known, command_listed}

-- ---- a control's segment

kind_again : (kind : ControlKind) (fields : List Field) (control : Control) → all_fields_at TrailingOctets (control_table kind) (packed fields) ≡ Ok fields → control_by kind fields ≡ control
    → control_in (control_head kind ++ packed fields) ≡ Ok control
unfolding control_in
kind_again kind fields control read made =
    let all = control_head kind ++ packed fields in
    let last : List ℕ → ControlKind → Result Control Flaw = λ args k. all_fields_at TrailingOctets (control_table k) args >>= λ fs. Ok (control_by k fs) in
    let listed : List ℕ → Result Control Flaw = λ args. known (flaw_at UnknownControl (drop 1 all)) (control_kind (control_class kind) (control_code kind)) >>= last args in
    ap (λ r. r >>= λ head. check (is_control_class (control_class kind)) (flaw_at UnknownClass all) >>= λ _. listed head.1) (part_again all (control_head kind) (packed fields))
    ∙ ap (λ b. check b (flaw_at UnknownClass all) >>= λ _. listed (packed fields)) (control_listed kind)
    ∙ ap (λ o. known (flaw_at UnknownControl (drop 1 all)) o >>= last (packed fields)) (control_known kind)
    ∙ ap (λ r. r >>= λ fs. Ok (control_by kind fs)) read
    ∙ ap Ok made

pub control_again : (control : Control) → list_all is_fine (control_fields control) ≡ true → control_in (control_octets control) ≡ Ok control
control_again control fine =
    kind_again (control_kind_of control) (control_fields control) control (all_fields_again TrailingOctets (control_table (control_kind_of control)) (control_fields control) (control_stands control, fine)) (control_back control)

-- ---- a command's segment

-- the session header of either sort
header_back : (sync : Bool) (args : List ℕ) → session_header_at (1 ∷ (if sync then 1 else 0) ∷ args) ≡ Ok (sync, args)
unfolding session_header_at
header_back true args = ap (λ r. r >>= λ part. Ok (true, part.1)) (part_again (1 ∷ 1 ∷ args) (1 ∷ 1 ∷ []) args)
header_back false args = ap (λ r. r >>= λ part. Ok (false, part.1)) (part_again (1 ∷ 0 ∷ args) (1 ∷ 0 ∷ []) args)

coded_again : (class code : ℕ) (sync : Bool) (args : List ℕ) (command : Command) → is_command_class class ≡ true → command_of class code args (command_kind class code) ≡ Ok command
    → command_in (command_head class code sync ++ args) ≡ Ok (sync, command)
unfolding command_in
coded_again class code sync args command listed made =
    let after = 1 ∷ (if sync then 1 else 0) ∷ args in
    let all = command_head class code sync ++ args in
    let last : (Bool × List ℕ) → Result (Bool × Command) Flaw = λ s. command_of class code s.1 (command_kind class code) >>= λ command. Ok (s.0, command) in
    ap (λ r. r >>= λ head. check (is_command_class class) (flaw_at UnknownClass all) >>= λ _. session_header_at head.1 >>= last) (part_again all (class ∷ code ∷ []) after)
    ∙ ap (λ b. check b (flaw_at UnknownClass all) >>= λ _. session_header_at after >>= last) listed
    ∙ ap (λ r. r >>= last) (header_back sync args)
    ∙ ap (λ r. r >>= λ command. Ok (sync, command)) made

args_again : (kind : CommandKind) (command : Command) → OfKind kind command → list_all is_fine (command_fields command) ≡ true
    → command_of (command_class kind) (command_code kind) (packed (command_fields command)) (command_kind (command_class kind) (command_code kind)) ≡ Ok command
unfolding command_of
args_again kind command of fine =
    ap (command_of (command_class kind) (command_code kind) (packed (command_fields command))) (command_known kind)
    ∙ ap (λ r. r >>= λ fields. Ok (command_by kind fields)) (all_fields_again TrailingOctets (command_table kind) (command_fields command) (of.stands, fine))
    ∙ ap Ok of.back

-- what a command of a kind is written as, and when it has a spelling
record Written (kind : CommandKind) (command : Command) : Type 0 where
  pub octets : (sync : Bool) → command_octets sync command ≡ command_head (command_class kind) (command_code kind) sync ++ packed (command_fields command)
  pub fine : command_fine command ≡ list_all is_fine (command_fields command)

written : (command : Command) (kind : CommandKind) → command_kind_of command ≡ Some kind → Written kind command
written m.ExecutionSync kind same = record { octets = λ sync. ap (kind_octets sync (packed (command_fields m.ExecutionSync))) same; fine = refl }
written (m.ExecutionResult a b) kind same = record { octets = λ sync. ap (kind_octets sync (packed (command_fields (m.ExecutionResult a b)))) same; fine = refl }
written (m.ExecutionException a b c d e f g) kind same = record { octets = λ sync. ap (kind_octets sync (packed (command_fields (m.ExecutionException a b c d e f g)))) same; fine = refl }
written (m.MessageTransfer a b c) kind same = record { octets = λ sync. ap (kind_octets sync (packed (command_fields (m.MessageTransfer a b c)))) same; fine = refl }
written (m.MessageAccept a) kind same = record { octets = λ sync. ap (kind_octets sync (packed (command_fields (m.MessageAccept a)))) same; fine = refl }
written (m.MessageReject a b c) kind same = record { octets = λ sync. ap (kind_octets sync (packed (command_fields (m.MessageReject a b c)))) same; fine = refl }
written (m.MessageRelease a b) kind same = record { octets = λ sync. ap (kind_octets sync (packed (command_fields (m.MessageRelease a b)))) same; fine = refl }
written (m.MessageAcquire a) kind same = record { octets = λ sync. ap (kind_octets sync (packed (command_fields (m.MessageAcquire a)))) same; fine = refl }
written (m.MessageSubscribe a b c d e f g h) kind same = record { octets = λ sync. ap (kind_octets sync (packed (command_fields (m.MessageSubscribe a b c d e f g h)))) same; fine = refl }
written (m.MessageCancel a) kind same = record { octets = λ sync. ap (kind_octets sync (packed (command_fields (m.MessageCancel a)))) same; fine = refl }
written (m.MessageSetFlowMode a b) kind same = record { octets = λ sync. ap (kind_octets sync (packed (command_fields (m.MessageSetFlowMode a b)))) same; fine = refl }
written (m.MessageFlow a b c) kind same = record { octets = λ sync. ap (kind_octets sync (packed (command_fields (m.MessageFlow a b c)))) same; fine = refl }
written (m.MessageFlush a) kind same = record { octets = λ sync. ap (kind_octets sync (packed (command_fields (m.MessageFlush a)))) same; fine = refl }
written (m.MessageStop a) kind same = record { octets = λ sync. ap (kind_octets sync (packed (command_fields (m.MessageStop a)))) same; fine = refl }
written m.TxSelect kind same = record { octets = λ sync. ap (kind_octets sync (packed (command_fields m.TxSelect))) same; fine = refl }
written m.TxCommit kind same = record { octets = λ sync. ap (kind_octets sync (packed (command_fields m.TxCommit))) same; fine = refl }
written m.TxRollback kind same = record { octets = λ sync. ap (kind_octets sync (packed (command_fields m.TxRollback))) same; fine = refl }
written m.DtxSelect kind same = record { octets = λ sync. ap (kind_octets sync (packed (command_fields m.DtxSelect))) same; fine = refl }
written (m.DtxStart a b c) kind same = record { octets = λ sync. ap (kind_octets sync (packed (command_fields (m.DtxStart a b c)))) same; fine = refl }
written (m.DtxEnd a b c) kind same = record { octets = λ sync. ap (kind_octets sync (packed (command_fields (m.DtxEnd a b c)))) same; fine = refl }
written (m.DtxCommit a b) kind same = record { octets = λ sync. ap (kind_octets sync (packed (command_fields (m.DtxCommit a b)))) same; fine = refl }
written (m.DtxForget a) kind same = record { octets = λ sync. ap (kind_octets sync (packed (command_fields (m.DtxForget a)))) same; fine = refl }
written (m.DtxGetTimeout a) kind same = record { octets = λ sync. ap (kind_octets sync (packed (command_fields (m.DtxGetTimeout a)))) same; fine = refl }
written (m.DtxPrepare a) kind same = record { octets = λ sync. ap (kind_octets sync (packed (command_fields (m.DtxPrepare a)))) same; fine = refl }
written (m.DtxRollback a) kind same = record { octets = λ sync. ap (kind_octets sync (packed (command_fields (m.DtxRollback a)))) same; fine = refl }
written m.DtxRecover kind same = record { octets = λ sync. ap (kind_octets sync (packed (command_fields m.DtxRecover))) same; fine = refl }
written (m.DtxSetTimeout a b) kind same = record { octets = λ sync. ap (kind_octets sync (packed (command_fields (m.DtxSetTimeout a b)))) same; fine = refl }
written (m.ExchangeDeclare a b c d e f g) kind same = record { octets = λ sync. ap (kind_octets sync (packed (command_fields (m.ExchangeDeclare a b c d e f g)))) same; fine = refl }
written (m.ExchangeDelete a b) kind same = record { octets = λ sync. ap (kind_octets sync (packed (command_fields (m.ExchangeDelete a b)))) same; fine = refl }
written (m.ExchangeQuery a) kind same = record { octets = λ sync. ap (kind_octets sync (packed (command_fields (m.ExchangeQuery a)))) same; fine = refl }
written (m.ExchangeBind a b c d) kind same = record { octets = λ sync. ap (kind_octets sync (packed (command_fields (m.ExchangeBind a b c d)))) same; fine = refl }
written (m.ExchangeUnbind a b c) kind same = record { octets = λ sync. ap (kind_octets sync (packed (command_fields (m.ExchangeUnbind a b c)))) same; fine = refl }
written (m.ExchangeBound a b c d) kind same = record { octets = λ sync. ap (kind_octets sync (packed (command_fields (m.ExchangeBound a b c d)))) same; fine = refl }
written (m.QueueDeclare a b c d e f g) kind same = record { octets = λ sync. ap (kind_octets sync (packed (command_fields (m.QueueDeclare a b c d e f g)))) same; fine = refl }
written (m.QueueDelete a b c) kind same = record { octets = λ sync. ap (kind_octets sync (packed (command_fields (m.QueueDelete a b c)))) same; fine = refl }
written (m.QueuePurge a) kind same = record { octets = λ sync. ap (kind_octets sync (packed (command_fields (m.QueuePurge a)))) same; fine = refl }
written (m.QueueQuery a) kind same = record { octets = λ sync. ap (kind_octets sync (packed (command_fields (m.QueueQuery a)))) same; fine = refl }
written (m.Unknown class code rest) kind same = absurd (false≢true (ap is_some same))

Reads : Command → Type 0
Reads command = (sync : Bool) → command_fine command ≡ true → command_in (command_octets sync command) ≡ Ok (sync, command)

known_again : (kind : CommandKind) (command : Command) → OfKind kind command → Reads command
unfolding Reads
known_again kind command of sync fine =
    let w = written command kind of.is in
    ap command_in (w.octets sync)
    ∙ coded_again (command_class kind) (command_code kind) sync (packed (command_fields command)) command (command_listed kind) (args_again kind command of (sym w.fine ∙ fine))

unknown_again : (class code : ℕ) (rest : List ℕ) → Reads (m.Unknown class code rest)
unfolding Reads command_of
unknown_again class code rest sync fine =
    let p = and_parts (is_command_class class && nat_lt code 256) (not (is_some (command_kind class code))) fine in
    coded_again class code sync rest (m.Unknown class code rest) (and_parts (is_command_class class) (nat_lt code 256) p.0).0 (ap (command_of class code rest) (no_kind (command_kind class code) p.1))
  where
    no_kind : (o : Option CommandKind) → not (is_some o) ≡ true → o ≡ None
    no_kind None e = refl
    no_kind (Some k) e = absurd (false≢true e)

pub command_again : (command : Command) (sync : Bool) → command_fine command ≡ true → command_in (command_octets sync command) ≡ Ok (sync, command)
unfolding Reads
command_again = by_cases Reads (record { known = known_again; unknown = unknown_again })

-- ---- content

body_back : (body : Option (List ℕ)) → body_of (body_segments body) ≡ body
body_back None = refl
body_back (Some octets) = refl

content_again : (content : Content) → content_sound (Some content) ≡ true → not (is_alone (content_segments (Some content))) ≡ true → content_in (content_segments (Some content)) ≡ Ok (Some content)
content_again content sound some = by content.header content.body sound some
  where
    by : (header : Option (List HeaderItem)) (body : Option (List ℕ)) → header_fine header ≡ true → not (is_alone (header_segments header ++ body_segments body)) ≡ true
        → content_in (header_segments header ++ body_segments body) ≡ Ok (Some (record { header = header; body = body }))
    by None None sound some = absurd (false≢true some)
    by None (Some body) sound some = refl
    by (Some header) body sound some =
        ap (λ r. with_header (body_segments body) (in_segment 1 (header_octets header) r)) (header_again header sound)
        ∙ ap (λ b. Ok (Some (record { header = Some header; body = b }))) (body_back body)

-- ---- units

unit_back : (u : AnyUnit) → unit_fine u ≡ true → unit_in (unit_segments u) ≡ Ok u
unit_back (unit.Control control) fine = ap (λ r. control_unit (in_segment 0 (control_octets control) r)) (control_again control fine)
unit_back (unit.Command sync command content) fine =
    let p = and_parts (command_fine command) (content_fine command content) fine in
    ap (λ r. command_unit (content_segments content) (in_segment 0 (command_octets sync command) r)) (command_again command sync p.0)
    ∙ after content p.1
  where
    after : (content : Option Content) → content_fine command content ≡ true → after_command sync command (content_segments content) ≡ Ok (unit.Command sync command content)
    after None fine = refl
    after (Some content) fine =
        let all = content_segments (Some content) in
        let p = and_parts (takes_content command) (content_sound (Some content) && not (is_alone all)) fine in
        let q = and_parts (content_sound (Some content)) (not (is_alone all)) p.1 in
        allowed (is_alone all) p.0
        ∙ ap (with_content sync command) (content_again content q.0 q.1)
      where
        allowed : (b : Bool) → takes_content command ≡ true
            → (if b || takes_content command then with_content sync command (content_in (content_segments (Some content))) else Err (record { segment = 1; at = 0; why = ContentNotAllowed })) ≡ with_content sync command (content_in (content_segments (Some content)))
        allowed true e = refl
        allowed false e = ap (λ t. if t then with_content sync command (content_in (content_segments (Some content))) else Err (record { segment = 1; at = 0; why = ContentNotAllowed })) e

pub unit_again : (segments : List Segment) (u : AnyUnit) → unit_fine u ≡ true → segments ≡ unit_segments u → unit_in segments ≡ Ok u
unit_again segments u fine is = ap unit_in is ∙ unit_back u fine
