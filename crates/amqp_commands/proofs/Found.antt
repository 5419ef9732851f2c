-- What is read is spelled so.
use Rattle.std.proofs.Common.{◌≡◌, if◌then◌else◌, ℕ, zero, suc, ◌<◌, ◌≤◌, ◌&&◌, ◌||◌, not, Bool, true, false, eqb, ltb, leb, List, [], ◌∷◌, ◌++◌, drop, Option, None, Some, Result, Ok, Err, IfOk, refl, sym, ap, subst, ◌∙◌, arith}
use Rattle.std.specs.Prelude.{slice_index, is_some, nat_lt}
use Rattle.std.specs.List.{list_all}
use Rattle.std.proofs.lemmas.Bool.{and_parts, and_from, eqb-true, ltb-true, leb-true, lt-ltb, false≢true}
use Rattle.octet_reading.specs.declared.why.Why.TheVariants.{UnknownClass, UnknownControl, BadSessionHeader, TrailingOctets, ContentNotAllowed}
use Rattle.octet_reading.specs.declared.flaw.Flaw.{Flaw}
use Rattle.octet_reading.specs.Reading.{◌>>=◌, check, flaw_at, part_at, IsBytes}
use Rattle.octet_reading.proofs.Found.{Holds, holds_bind, holds_check, PartIs, part_found}
use Rattle.amqp_terms.specs.declared.control.Control.{Control}
use Rattle.amqp_terms.specs.declared.command.Command.{Command}
use Rattle.amqp_terms.specs.declared.command.Command.TheVariants as m
use Rattle.amqp_terms.specs.declared.content.Content.{Content}
use Rattle.amqp_terms.specs.declared.content.HeaderItem.{HeaderItem}
use Rattle.amqp_terms.specs.declared.unit.Unit.{Unit as AnyUnit}
use Rattle.amqp_packed.specs.Reading.{all_fields_at}
use Rattle.amqp_packed.specs.Spelling.{is_fine}
use Rattle.amqp_packed.specs.Spelled.{Packs}
use Rattle.amqp_packed.proofs.Structs.{AllIs, all_fields_found}
use Rattle.amqp_packed.proofs.Rounds.{rounds_stay}
use Rattle.amqp_structs.specs.Header.{header_in}
use Rattle.amqp_structs.proofs.Found.{HeaderIs, header_found}
use Rattle.amqp_structs.proofs.Results.{two_parts}
use Rattle.amqp_frames.specs.declared.assembly.Segment.{Segment}
use Rattle.amqp_frames.specs.Assembly.{is_alone, follow, IsPlaced}
use Rattle.amqp_commands.specs.declared.controls.ControlKind.{ControlKind}
use Rattle.amqp_commands.specs.declared.commands.CommandKind.{CommandKind}
use Rattle.amqp_commands.specs.declared.error.UnitFault.{UnitFault}
use Rattle.amqp_commands.specs.declared.error.UnitError.{UnitError}
use Rattle.amqp_commands.specs.Kinds.{is_control_class, control_class, control_kind, control_table, is_command_class, command_kind, command_table}
use Rattle.amqp_commands.specs.Terms.{control_fields, control_by, command_kind_of, command_fields, command_by}
use Rattle.amqp_structs.specs.Results.{known}
use Rattle.amqp_commands.specs.Units.{control_in, control_head, session_header_at, command_of, command_in, command_fine, in_segment, takes_content, body_of, with_header, content_in, with_content, after_command, command_unit, control_unit, unit_in, body_segments, Answers}
use Rattle.amqp_commands.specs.Spelled.{AllBytes, ControlSpelled, FieldsSpelled, ArgsSpelled, CommandSpelled, ContentSpelled, UnitSpelled}
use Rattle.amqp_commands.proofs.Known.{control_rounds, control_made, control_codes, command_rounds, command_made, command_codes}

-- ---- a control's segment

control_kind_found : (octets : List ℕ) (class code : ℕ) (args : List ℕ) → octets ≡ class ∷ code ∷ args → IsBytes args → (kind : ControlKind) → control_kind class code ≡ Some kind
    → Holds (λ control. ControlSpelled control octets) (all_fields_at TrailingOctets (control_table kind) args >>= λ fields. Ok (control_by kind fields))
control_kind_found octets class code args is bytes kind k =
    holds_bind (AllIs (control_table kind) args) (λ control. ControlSpelled control octets) (all_fields_at TrailingOctets (control_table kind) args) (λ fields. Ok (control_by kind fields)) (all_fields_found TrailingOctets (control_table kind) args bytes)
    (λ fields all.
    let same : fields ≡ control_fields (control_by kind fields) = sym (control_rounds kind fields ∙ rounds_stay (control_table kind) fields all.fit.0) in
    let codes = control_codes class code kind k in
    record {
      text = args;
      is = is ∙ ap (λ n. n ∷ code ∷ args) (sym codes.class_is) ∙ ap (λ n. control_class kind ∷ n ∷ args) (sym codes.code_is) ∙ ap (λ k'. control_head k' ++ args) (sym (control_made kind fields));
      packs = subst (λ fs. Packs fs args []) same all.packs;
      fine = subst (λ fs. list_all is_fine fs ≡ true) same all.fit.1;
    })

control_found : (octets : List ℕ) → IsBytes octets → Holds (λ control. ControlSpelled control octets) (control_in octets)
unfolding control_in
control_found octets bytes =
    let class = slice_index octets 0 in
    let code = slice_index octets 1 in
    let Q = λ (control : Control). ControlSpelled control octets in
    let last : List ℕ → ControlKind → Result Control Flaw = λ args kind. all_fields_at TrailingOctets (control_table kind) args >>= λ fields. Ok (control_by kind fields) in
    let listed : List ℕ → Option ControlKind → Result Control Flaw = λ args o. known (flaw_at UnknownControl (drop 1 octets)) o >>= last args in
    holds_bind (PartIs octets 2) Q (part_at octets octets 2) (λ head. check (is_control_class class) (flaw_at UnknownClass octets) >>= λ _. listed head.1 (control_kind class code)) (part_found octets octets 2 bytes)
    (λ head p. holds_check Q (is_control_class class) (flaw_at UnknownClass octets) (listed head.1 (control_kind class code))
    (λ _. by head.1 (two_parts octets head.0 head.1 p.parts p.long) p.rest (control_kind class code) refl))
  where
    by : (args : List ℕ) → octets ≡ slice_index octets 0 ∷ slice_index octets 1 ∷ args → IsBytes args → (o : Option ControlKind) → control_kind (slice_index octets 0) (slice_index octets 1) ≡ o
        → Holds (λ control. ControlSpelled control octets) (known (flaw_at UnknownControl (drop 1 octets)) o >>= λ kind. all_fields_at TrailingOctets (control_table kind) args >>= λ fields. Ok (control_by kind fields))
    by args is bytes None k = tt
    by args is bytes (Some kind) k = control_kind_found octets (slice_index octets 0) (slice_index octets 1) args is bytes kind k

-- ---- a command's segment

record HeaderFound (octets : List ℕ) (x : Bool × List ℕ) : Type 0 where
  pub is : octets ≡ 1 ∷ (if x.0 then 1 else 0) ∷ x.1
  pub rest : IsBytes x.1

session_found : (octets : List ℕ) → IsBytes octets → Holds (HeaderFound octets) (session_header_at octets)
unfolding session_header_at
session_found octets bytes =
    let one = slice_index octets 0 in
    let flag = slice_index octets 1 in
    holds_bind (PartIs octets 2) (HeaderFound octets) (part_at octets octets 2) (λ part. check (eqb one 1 && nat_lt flag 2) (flaw_at BadSessionHeader octets) >>= λ _. Ok (eqb flag 1, part.1)) (part_found octets octets 2 bytes)
    (λ part p. holds_check (HeaderFound octets) (eqb one 1 && nat_lt flag 2) (flaw_at BadSessionHeader octets) (Ok (eqb flag 1, part.1))
    (λ t.
    let q = and_parts (eqb one 1) (nat_lt flag 2) t in
    let first : one ≡ 1 = eqb-true one 1 q.0 in
    let second : flag ≡ (if eqb flag 1 then 1 else 0) = bit flag (ltb-true flag 2 q.1) in
    record {
      is = two_parts octets part.0 part.1 p.parts p.long ∙ ap (λ n. n ∷ flag ∷ part.1) first ∙ ap (λ n. 1 ∷ n ∷ part.1) second;
      rest = p.rest;
    }))
  where
    bit : (n : ℕ) → n < 2 → n ≡ (if eqb n 1 then 1 else 0)
    bit zero lt = refl
    bit (suc zero) lt = refl
    bit (suc (suc n)) lt = absurd (omega (arith, lt))

record ArgsFound (class code : ℕ) (octets : List ℕ) (command : Command) : Type 0 where
  pub args : ArgsSpelled class code command octets
  pub fine : command_fine command ≡ true

kind_args : (class code : ℕ) (octets : List ℕ) (command : Command) (kind : CommandKind) → command_kind_of command ≡ Some kind → FieldsSpelled class code command octets → list_all is_fine (command_fields command) ≡ true → ArgsFound class code octets command
kind_args class code octets m.ExecutionSync kind is spelled fine = record { args = spelled; fine = fine }
kind_args class code octets (m.ExecutionResult a b) kind is spelled fine = record { args = spelled; fine = fine }
kind_args class code octets (m.ExecutionException a b c d e f g) kind is spelled fine = record { args = spelled; fine = fine }
kind_args class code octets (m.MessageTransfer a b c) kind is spelled fine = record { args = spelled; fine = fine }
kind_args class code octets (m.MessageAccept a) kind is spelled fine = record { args = spelled; fine = fine }
kind_args class code octets (m.MessageReject a b c) kind is spelled fine = record { args = spelled; fine = fine }
kind_args class code octets (m.MessageRelease a b) kind is spelled fine = record { args = spelled; fine = fine }
kind_args class code octets (m.MessageAcquire a) kind is spelled fine = record { args = spelled; fine = fine }
kind_args class code octets (m.MessageSubscribe a b c d e f g h) kind is spelled fine = record { args = spelled; fine = fine }
kind_args class code octets (m.MessageCancel a) kind is spelled fine = record { args = spelled; fine = fine }
kind_args class code octets (m.MessageSetFlowMode a b) kind is spelled fine = record { args = spelled; fine = fine }
kind_args class code octets (m.MessageFlow a b c) kind is spelled fine = record { args = spelled; fine = fine }
kind_args class code octets (m.MessageFlush a) kind is spelled fine = record { args = spelled; fine = fine }
kind_args class code octets (m.MessageStop a) kind is spelled fine = record { args = spelled; fine = fine }
kind_args class code octets m.TxSelect kind is spelled fine = record { args = spelled; fine = fine }
kind_args class code octets m.TxCommit kind is spelled fine = record { args = spelled; fine = fine }
kind_args class code octets m.TxRollback kind is spelled fine = record { args = spelled; fine = fine }
kind_args class code octets m.DtxSelect kind is spelled fine = record { args = spelled; fine = fine }
kind_args class code octets (m.DtxStart a b c) kind is spelled fine = record { args = spelled; fine = fine }
kind_args class code octets (m.DtxEnd a b c) kind is spelled fine = record { args = spelled; fine = fine }
kind_args class code octets (m.DtxCommit a b) kind is spelled fine = record { args = spelled; fine = fine }
kind_args class code octets (m.DtxForget a) kind is spelled fine = record { args = spelled; fine = fine }
kind_args class code octets (m.DtxGetTimeout a) kind is spelled fine = record { args = spelled; fine = fine }
kind_args class code octets (m.DtxPrepare a) kind is spelled fine = record { args = spelled; fine = fine }
kind_args class code octets (m.DtxRollback a) kind is spelled fine = record { args = spelled; fine = fine }
kind_args class code octets m.DtxRecover kind is spelled fine = record { args = spelled; fine = fine }
kind_args class code octets (m.DtxSetTimeout a b) kind is spelled fine = record { args = spelled; fine = fine }
kind_args class code octets (m.ExchangeDeclare a b c d e f g) kind is spelled fine = record { args = spelled; fine = fine }
kind_args class code octets (m.ExchangeDelete a b) kind is spelled fine = record { args = spelled; fine = fine }
kind_args class code octets (m.ExchangeQuery a) kind is spelled fine = record { args = spelled; fine = fine }
kind_args class code octets (m.ExchangeBind a b c d) kind is spelled fine = record { args = spelled; fine = fine }
kind_args class code octets (m.ExchangeUnbind a b c) kind is spelled fine = record { args = spelled; fine = fine }
kind_args class code octets (m.ExchangeBound a b c d) kind is spelled fine = record { args = spelled; fine = fine }
kind_args class code octets (m.QueueDeclare a b c d e f g) kind is spelled fine = record { args = spelled; fine = fine }
kind_args class code octets (m.QueueDelete a b c) kind is spelled fine = record { args = spelled; fine = fine }
kind_args class code octets (m.QueuePurge a) kind is spelled fine = record { args = spelled; fine = fine }
kind_args class code octets (m.QueueQuery a) kind is spelled fine = record { args = spelled; fine = fine }
kind_args class code octets (m.Unknown class' code' rest) kind is spelled fine = absurd (false≢true (ap is_some is))

args_found : (class code : ℕ) (octets : List ℕ) → is_command_class class ≡ true → code < 256 → IsBytes octets → (o : Option CommandKind) → command_kind class code ≡ o → Holds (ArgsFound class code octets) (command_of class code octets o)
unfolding command_of
args_found class code octets listed small bytes None k = record {
  args = record { class_is = refl; code_is = refl; rest_is = refl };
  fine = and_from (is_command_class class && nat_lt code 256) (not (is_some (command_kind class code))) (and_from (is_command_class class) (nat_lt code 256) listed (lt-ltb _ _ small)) (ap (λ o. not (is_some o)) k);
}
args_found class code octets listed small bytes (Some kind) k =
    holds_bind (AllIs (command_table kind) octets) (ArgsFound class code octets) (all_fields_at TrailingOctets (command_table kind) octets) (λ fields. Ok (command_by kind fields)) (all_fields_found TrailingOctets (command_table kind) octets bytes)
    (λ fields all.
    let same : fields ≡ command_fields (command_by kind fields) = sym (command_rounds kind fields ∙ rounds_stay (command_table kind) fields all.fit.0) in
    let codes = command_codes class code kind k in
    kind_args class code octets (command_by kind fields) kind (command_made kind fields)
    (record { kind = kind; is = command_made kind fields; class_is = codes.class_is; code_is = codes.code_is; packs = subst (λ fs. Packs fs octets []) same all.packs })
    (subst (λ fs. list_all is_fine fs ≡ true) same all.fit.1))

command_found : (octets : List ℕ) → IsBytes octets → Holds (λ x. CommandSpelled x.0 x.1 octets) (command_in octets)
unfolding command_in
command_found octets bytes =
    let class = slice_index octets 0 in
    let code = slice_index octets 1 in
    let Q = λ (x : Bool × Command). CommandSpelled x.0 x.1 octets in
    let made : (Bool × List ℕ) → Result (Bool × Command) Flaw = λ s. command_of class code s.1 (command_kind class code) >>= λ command. Ok (s.0, command) in
    holds_bind (PartIs octets 2) Q (part_at octets octets 2) (λ head. check (is_command_class class) (flaw_at UnknownClass octets) >>= λ _. session_header_at head.1 >>= made) (part_found octets octets 2 bytes)
    (λ head p. holds_check Q (is_command_class class) (flaw_at UnknownClass octets) (session_header_at head.1 >>= made)
    (λ listed. holds_bind (HeaderFound head.1) Q (session_header_at head.1) made (session_found head.1 p.rest)
    (λ s h. holds_bind (ArgsFound class code s.1) Q (command_of class code s.1 (command_kind class code)) (λ command. Ok (s.0, command))
    (args_found class code s.1 listed (omega (arith, bytes 1)) h.rest (command_kind class code) refl)
    (λ command a. record {
      class = class;
      code = code;
      text = s.1;
      is = two_parts octets head.0 head.1 p.parts p.long ∙ ap (λ zs. class ∷ code ∷ zs) h.is;
      args = a.args;
      fine = a.fine;
    }))))

-- ---- content

abbrev InOk : {X : Type 0} → (X → Type 0) → Result X UnitFault → Type 0
InOk P (Ok x) = P x
InOk P (Err fault) = Unit {0}

segment_is : (segment : Segment) (kind : ℕ) → segment.kind ≡ kind → segment ≡ record { kind = kind; octets = segment.octets }
segment_is segment kind e = ap (λ n. record { kind = n; octets = segment.octets }) e

-- after a kind there are none with a greater one than 3
last_one : (segments : List Segment) → follow 3 segments ≡ true → segments ≡ []
last_one [] h = refl
last_one (segment ∷ segments) h =
    let p = and_parts (leb 2 segment.kind && leb segment.kind 3) (ltb 3 segment.kind && follow segment.kind segments) h in
    let le = leb-true segment.kind 3 (and_parts (leb 2 segment.kind) (leb segment.kind 3) p.0).1 in
    let lt = ltb-true 3 segment.kind (and_parts (ltb 3 segment.kind) (follow segment.kind segments) p.1).0 in
    absurd (omega (arith, le, lt))

-- after a header there is a body or nothing
body_there : (segments : List Segment) → follow 2 segments ≡ true → segments ≡ body_segments (body_of segments)
body_there [] h = refl
body_there (segment ∷ segments) h =
    let p = and_parts (leb 2 segment.kind && leb segment.kind 3) (ltb 2 segment.kind && follow segment.kind segments) h in
    let le = leb-true segment.kind 3 (and_parts (leb 2 segment.kind) (leb segment.kind 3) p.0).1 in
    let q = and_parts (ltb 2 segment.kind) (follow segment.kind segments) p.1 in
    let three : segment.kind ≡ 3 = omega (arith, le, ltb-true 2 segment.kind q.0) in
    ap (λ more. segment ∷ more) (last_one segments (subst (λ n. follow n segments ≡ true) three q.1)) ∙ ap (λ s. s ∷ []) (segment_is segment 3 three)

content_found : (command : Command) (segments : List Segment) → AllBytes segments → follow 1 segments ≡ true → is_alone segments ≡ false → takes_content command ≡ true → InOk (λ content. ContentSpelled command content segments) (content_in segments)
content_found command [] bytes h some takes = absurd (false≢true (sym some))
content_found command (segment ∷ segments) bytes h some takes =
    let p = and_parts (leb 2 segment.kind && leb segment.kind 3) (ltb 1 segment.kind && follow segment.kind segments) h in
    let kinds = and_parts (leb 2 segment.kind) (leb segment.kind 3) p.0 in
    let q = and_parts (ltb 1 segment.kind) (follow segment.kind segments) p.1 in
    by (eqb segment.kind 2) refl (leb-true 2 segment.kind kinds.0) (leb-true segment.kind 3 kinds.1) q.1
  where
    by : (b : Bool) → eqb segment.kind 2 ≡ b → 2 ≤ segment.kind → segment.kind ≤ 3 → follow segment.kind segments ≡ true
        → InOk (λ content. ContentSpelled command content (segment ∷ segments)) (if b then with_header segments (in_segment 1 segment.octets (header_in segment.octets)) else Ok (Some (record { header = None; body = Some segment.octets })))
    by true e low high more =
        let two : segment.kind ≡ 2 = eqb-true segment.kind 2 e in
        headed (header_in segment.octets) (header_found segment.octets bytes.0) two (body_there segments (subst (λ n. follow n segments ≡ true) two more))
      where
        headed : (r : Result (List HeaderItem) Flaw) → Holds (HeaderIs segment.octets) r → segment.kind ≡ 2 → segments ≡ body_segments (body_of segments)
            → InOk (λ content. ContentSpelled command content (segment ∷ segments)) (with_header segments (in_segment 1 segment.octets r))
        headed (Err flaw) found two body = tt
        headed (Ok header) found two body =
            (takes, record { text = segment.octets; spelled = found.spelled; sound = found.sound; is = ap (λ s. s ∷ segments) (segment_is segment 2 two) ∙ ap (λ more. record { kind = 2; octets = segment.octets } ∷ more) body })
    by false e low high more =
        let three : segment.kind ≡ 3 = other segment.kind e low high in
        (takes, ap (λ more'. segment ∷ more') (last_one segments (subst (λ n. follow n segments ≡ true) three more)) ∙ ap (λ s. s ∷ []) (segment_is segment 3 three))
      where
        other : (n : ℕ) → eqb n 2 ≡ false → 2 ≤ n → n ≤ 3 → n ≡ 3
        other zero e low high = absurd (omega (arith, low))
        other (suc zero) e low high = absurd (omega (arith, low))
        other (suc (suc zero)) e low high = absurd (false≢true (sym e))
        other (suc (suc (suc n))) e low high = omega (arith, high)

-- ---- units

after_found : (sync : Bool) (command : Command) (octets : List ℕ) (segments : List Segment) → CommandSpelled sync command octets → AllBytes segments → follow 1 segments ≡ true
    → InOk (λ u. UnitSpelled u (record { kind = 1; octets = octets } ∷ segments)) (after_command sync command segments)
after_found sync command octets [] spelled bytes h = record { octets = octets; more = []; spelled = spelled; content_spelled = refl; is = refl }
after_found sync command octets (segment ∷ segments) spelled bytes h = by (takes_content command) refl
  where
    all : List Segment
    all = segment ∷ segments

    by : (b : Bool) → takes_content command ≡ b → InOk (λ u. UnitSpelled u (record { kind = 1; octets = octets } ∷ all)) (if false || b then with_content sync command (content_in all) else Err (record { segment = 1; at = 0; why = ContentNotAllowed }))
    by false e = tt
    by true e = made (content_in all) (content_found command all bytes h refl e)
      where
        made : (r : Result (Option Content) UnitFault) → InOk (λ content. ContentSpelled command content all) r → InOk (λ u. UnitSpelled u (record { kind = 1; octets = octets } ∷ all)) (with_content sync command r)
        made (Err fault) found = tt
        made (Ok content) found = record { octets = octets; more = all; spelled = spelled; content_spelled = found; is = refl }

unit_found : (segments : List Segment) → AllBytes segments → IsPlaced segments → InOk (λ u. UnitSpelled u segments) (unit_in segments)
unit_found [] bytes h = absurd (false≢true h)
unit_found (segment ∷ segments) bytes h = by (eqb segment.kind 0) refl h
  where
    by : (b : Bool) → eqb segment.kind 0 ≡ b → (if b then is_alone segments else eqb segment.kind 1 && follow 1 segments) ≡ true
        → InOk (λ u. UnitSpelled u (segment ∷ segments)) (if b then control_unit (in_segment 0 segment.octets (control_in segment.octets)) else command_unit segments (in_segment 0 segment.octets (command_in segment.octets)))
    by true e alone = made (control_in segment.octets) (control_found segment.octets bytes.0) (ap (λ more. segment ∷ more) (is_none segments alone) ∙ ap (λ s. s ∷ []) (segment_is segment 0 (eqb-true segment.kind 0 e)))
      where
        is_none : (segments : List Segment) → is_alone segments ≡ true → segments ≡ []
        is_none [] h = refl
        is_none (s ∷ ss) h = absurd (false≢true h)

        made : (r : Result Control Flaw) → Holds (λ control. ControlSpelled control segment.octets) r → segment ∷ segments ≡ record { kind = 0; octets = segment.octets } ∷ []
            → InOk (λ u. UnitSpelled u (segment ∷ segments)) (control_unit (in_segment 0 segment.octets r))
        made (Err flaw) found is = tt
        made (Ok control) found is = record { octets = segment.octets; spelled = found; is = is }
    by false e placed =
        let p = and_parts (eqb segment.kind 1) (follow 1 segments) placed in
        let first = segment_is segment 1 (eqb-true segment.kind 1 p.0) in
        made (command_in segment.octets) (command_found segment.octets bytes.0) first p.1
      where
        made : (r : Result (Bool × Command) Flaw) → Holds (λ x. CommandSpelled x.0 x.1 segment.octets) r → segment ≡ record { kind = 1; octets = segment.octets } → follow 1 segments ≡ true
            → InOk (λ u. UnitSpelled u (segment ∷ segments)) (command_unit segments (in_segment 0 segment.octets r))
        made (Err flaw) found first more = tt
        made (Ok (sync, command)) found first more =
            subst (λ s. InOk (λ u. UnitSpelled u (s ∷ segments)) (after_command sync command segments)) (sym first) (after_found sync command segment.octets segments found bytes.1 more)

pub found_in : (segments : List Segment) (r : Result AnyUnit UnitError) → AllBytes segments → IsPlaced segments → Answers r (unit_in segments) → IfOk r (λ u. UnitSpelled u segments)
found_in segments (Err error) bytes placed e = tt
found_in segments (Ok u) bytes placed e = subst (InOk (λ u. UnitSpelled u segments)) e (unit_found segments bytes placed)
