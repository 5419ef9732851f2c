-- What the calls of an assembler give, wherever the course is.
use Rattle.std.proofs.Common.{◌≡◌, ℕ, ◌+◌, ◌<◌, true, false, cond, List, [], ◌++◌, length, Option, None, Some, Result, Ok, Err, IfOk, ◌∙◌, ap, sym, subst, refl, arith}
use Rattle.std.specs.Prelude.{bytes_eq}
use Rattle.std.proofs.lemmas.List.{append-nil, append_assoc, length-append}
use Rattle.octet_reading.specs.declared.memory.NoMemory.{NoMemory}
use Rattle.amqp_frames.specs.declared.assembler.Assembler.{Assembler}
use Rattle.amqp_frames.specs.declared.done.Done.{Done}
use Rattle.amqp_frames.specs.declared.done.FrameError.TheVariants as error
use Rattle.amqp_frames.specs.declared.done.FrameFault.{FrameFault}
use Rattle.amqp_frames.specs.Cut.{cut}
use Rattle.amqp_frames.specs.Stands.{Stands, Comes, Feeds}
use Rattle.amqp_commands.specs.Units.{unit_in}
use Rattle.octet_tools.specs.declared.tool.OctetTool.{OctetTool}
use Rattle.octet_tools.specs.declared.tool.OctetTool.TheVariants as tool
use Rattle.octet_tools.specs.declared.course.Stage.{Stage}
use Rattle.octet_tools.specs.declared.course.Stage.TheVariants as stage
use Rattle.octet_tools.specs.declared.course.Stop.{Stop}
use Rattle.octet_tools.specs.declared.course.Stop.TheVariants as stop
use Rattle.octet_tools.specs.Course.{protocol_header, unit_brings, limits, Course, Opens, Runs, Ends, opened, opened_text, after, texts}
use Rattle.octet_tools.specs.Taking.{Took, IsAt, StandsFor, Began, Opened, KeepsOrNoMemory, Brought, Takes, Steps, DoneSteps}
use Rattle.octet_tools.proofs.Coursing.{after_parts, texts_parts, at_frames, StepsOn, step_none, step_done, step_refused, opens_few, opens_all, few_quiet}

-- a new assembler took nothing
pub new_took : (r : Result Assembler NoMemory) (first : ℕ) → IfOk r (λ a. Stands a limits first []) → IfOk r (λ a. Took a first [])
new_took (Ok a) first s = record { stands = s; sound = tt }
new_took (Err e) first s = tt

-- ---- a piece

pub fed_none : (t : OctetTool) (a b : Assembler) (c : Course) (piece : List ℕ) (taken : ℕ) (d : Option Done) (old : List ℕ) → IsAt a c
    → ((first : ℕ) (octets : List ℕ) → Stands a limits first octets → Feeds b limits first octets piece (Ok (record { taken = taken; done = d }))) → d ≡ None
    → Steps t (IsAt b) c piece old old (Ok taken)
fed_none t a b c piece taken d old s feeds none =
    let at = at_frames a c s in
    let f = feeds at.first at.octets at.took.stands in
    subst (λ d. Steps t (IsAt b) d piece old old (Ok taken)) (sym at.is)
    (step_none t b at.first at.octets piece taken old old at.took.sound f.0 (subst (Comes limits at.first (cut limits at.first at.octets) piece taken) none f.1) refl)

pub fed_done : (t : OctetTool) (a b : Assembler) (c : Course) (piece : List ℕ) (taken : ℕ) (given : Option Done) (done : Done) (old new : List ℕ) (r : Result (Unit {0}) Stop) → IsAt a c
    → ((first : ℕ) (octets : List ℕ) → Stands a limits first octets → Feeds b limits first octets piece (Ok (record { taken = taken; done = given }))) → given ≡ Some done
    → Brought t (unit_brings done (unit_in done.assembly)) old new r → DoneSteps t b c piece taken old new r
fed_done t a b c piece taken given done old new r s feeds is w =
    let at = at_frames a c s in
    let f = feeds at.first at.octets at.took.stands in
    by_result r at.is
    (step_done t b at.first at.octets piece taken done old new r f.0 (subst (Comes limits at.first (cut limits at.first at.octets) piece taken) is f.1) w)
  where
    by_result : (q : Result (Unit {0}) Stop) {first : ℕ} {octets : List ℕ} → c ≡ Runs first octets → StepsOn t b first octets piece taken old new q → DoneSteps t b c piece taken old new q
    by_result (Ok none) e x = subst (λ d. Steps t (IsAt b) d piece old new (Ok taken)) (sym e) x
    by_result (Err (stop.Malformed at why)) e x = subst (λ d. Steps t (IsAt b) d piece old new (Err (stop.Malformed at why))) (sym e) x
    by_result (Err stop.NoMemory) e x = tt

pub fed_refused : (t : OctetTool) (a b : Assembler) (c : Course) (piece : List ℕ) (fault : FrameFault) (s : Stop) (old : List ℕ) → IsAt a c
    → ((first : ℕ) (octets : List ℕ) → Stands a limits first octets → Feeds b limits first octets piece (Err (error.Bad fault))) → s ≡ stop.Malformed fault.at fault.why
    → Steps t (IsAt b) c piece old old (Err s)
fed_refused t a b c piece fault s old at_ feeds is =
    let at = at_frames a c at_ in
    let f = feeds at.first at.octets at.took.stands in
    subst (λ q. Steps t (IsAt b) c piece old old (Err q)) (sym is)
    (subst (λ d. Steps t (IsAt b) d piece old old (Err (stop.Malformed fault.at fault.why))) (sym at.is)
    (step_refused t at.first at.octets piece fault old old at.took.sound f.1 refl))

-- ---- the first eight octets

-- eight that are no protocol header
pub opened_frames : (t : OctetTool) (eight old new : List ℕ) (r : Result Assembler Stop) → length eight ≡ 8 → bytes_eq eight protocol_header ≡ false → Began t eight old new r → Opened t eight old new r
opened_frames t eight old new (Ok a) long other b =
    let q = few_quiet t eight (omega (arith, long)) in (
      subst (IsAt a) (q.goes ∙ ap (λ x. cond x (Runs 8 []) (Runs 0 eight)) (sym other)) b.0,
      b.1 ∙ ap (λ xs. old ++ xs) (q.silent ∙ sym (no_text t)),
    )
  where
    no_text : (u : OctetTool) → opened_text u eight ≡ []
    no_text tool.Show = refl
    no_text (tool.Reframe n) = ap (λ x. cond x protocol_header []) other
opened_frames t eight old new (Err (stop.Malformed at why)) long other b =
    let q = few_quiet t eight (omega (arith, long)) in
    let e : Runs 0 eight ≡ Ends at why = sym q.goes ∙ b in absurd (cc e)
opened_frames t eight old new (Err stop.NoMemory) long other b = tt

-- a protocol header
pub opened_behind : (t : OctetTool) (a : Assembler) (eight old new : List ℕ) → bytes_eq eight protocol_header ≡ true → eight ≡ protocol_header → Took a 8 [] → new ≡ old ++ opened_text t protocol_header
    → Opened t eight old new (Ok a)
opened_behind t a eight old new same is took wrote = (
  subst (IsAt a) (ap (λ x. cond x (Runs 8 []) (Runs 0 eight)) (sym same)) took,
  wrote ∙ ap (λ xs. old ++ opened_text t xs) (sym is),
)

-- the eight octets hold a fault
pub began_stops : (t : OctetTool) (stands : Course → Type 0) (octets old new : List ℕ) (s : Stop) → Takes t stands (Runs 0 []) octets old new (Err s) → Began t octets old new (Err s)
began_stops t stands octets old new (stop.Malformed at why) x = x.0
began_stops t stands octets old new stop.NoMemory x = tt

-- ---- a stage

-- where a stage is
abbrev pub StageAt : Stage → Course → Type 0
StageAt (stage.Opening octets) c = (before : List ℕ) × (c ≡ Opens before) × (octets.items ≡ before) × (length before < 8)
StageAt (stage.Open a) c = IsAt a c

pub stage_at : (s : Stage) (c : Course) → StandsFor s c → StageAt s c
stage_at (stage.Opening octets) (Opens before) h = (before, refl, h.0, h.1)
stage_at (stage.Opening octets) (Runs first before) h = absurd h
stage_at (stage.Opening octets) (Ends at why) h = absurd h
stage_at (stage.Open a) (Opens before) h = absurd h
stage_at (stage.Open a) (Runs first before) h = h
stage_at (stage.Open a) (Ends at why) h = absurd h

stands_open : (a : Assembler) (c : Course) → IsAt a c → StandsFor (stage.Open a) c
stands_open a (Opens before) h = absurd h
stands_open a (Runs first before) h = h
stands_open a (Ends at why) h = absurd h

pub takes_open : (t : OctetTool) (a : Assembler) (c : Course) (piece old new : List ℕ) (r : Result (Unit {0}) Stop) → Takes t (IsAt a) c piece old new r → Takes t (StandsFor (stage.Open a)) c piece old new r
takes_open t a c piece old new (Ok none) x = (stands_open a (after c piece) x.0, x.1)
takes_open t a c piece old new (Err (stop.Malformed at why)) x = x
takes_open t a c piece old new (Err stop.NoMemory) x = tt

-- fewer than eight octets so far
pub opening_few : (t : OctetTool) (stands : Course → Type 0) (c : Course) (items new piece old : List ℕ) (r : Result (Unit {0}) Stop) (before : List ℕ) → c ≡ Opens before → items ≡ before
    → length items + length piece < 8 → ((b : List ℕ) → new ≡ b → length b < 8 → stands (Opens b)) → KeepsOrNoMemory items new piece r → Takes t stands c piece old old r
opening_few t stands c items new piece old (Ok none) before is same lt open_ k =
    let few = opens_few t before piece (omega (arith, lt, ap length same)) in (
      subst stands (sym (ap (λ d. after d piece) is ∙ few.0)) (open_ (before ++ piece) (k ∙ ap (λ xs. xs ++ piece) same) (omega (arith, lt, ap length same, length-append before piece))),
      sym (append-nil old) ∙ ap (λ xs. old ++ xs) (sym (ap (λ d. texts t d piece) is ∙ few.1)),
    )
opening_few t stands c items new piece old (Err (stop.Malformed at why)) before is same lt open_ k = absurd k
opening_few t stands c items new piece old (Err stop.NoMemory) before is same lt open_ k = tt

-- eight, and what follows them
pub opening_all : (t : OctetTool) (stands : Course → Type 0) (a : Assembler) (c : Course) (items front rest piece old mid new : List ℕ) (r : Result (Unit {0}) Stop) (before : List ℕ) → c ≡ Opens before → items ≡ before
    → front ++ rest ≡ piece → 0 < length front → length items + length front ≡ 8 → Opened t (items ++ front) old mid (Ok a)
    → Takes t stands (opened (items ++ front)) rest mid new r → Takes t stands c piece old new r
opening_all t stands a c items front rest piece old mid new (Ok none) before is same parts some eight o x =
    let all = opens_all t items front some eight in
    let begins : c ≡ Opens items = is ∙ ap Opens (sym same) in
    let goes : after c piece ≡ after (opened (items ++ front)) rest = ap (λ d. after d piece) begins ∙ ap (after (Opens items)) (sym parts) ∙ after_parts (Opens items) front rest ∙ ap (λ d. after d rest) all.0 in
    let said : texts t c piece ≡ opened_text t (items ++ front) ++ texts t (opened (items ++ front)) rest =
    ap (λ d. texts t d piece) begins ∙ ap (texts t (Opens items)) (sym parts) ∙ texts_parts t (Opens items) front rest ∙ ap (λ ys. ys ++ texts t (after (Opens items) front) rest) all.1
    ∙ ap (λ d. opened_text t (items ++ front) ++ texts t d rest) all.0 in (
      subst stands (sym goes) x.0,
      x.1 ∙ ap (λ xs. xs ++ texts t (opened (items ++ front)) rest) o.1 ∙ append_assoc old (opened_text t (items ++ front)) (texts t (opened (items ++ front)) rest) ∙ ap (λ xs. old ++ xs) (sym said),
    )
opening_all t stands a c items front rest piece old mid new (Err (stop.Malformed at why)) before is same parts some eight o x =
    let all = opens_all t items front some eight in
    let begins : c ≡ Opens items = is ∙ ap Opens (sym same) in
    let goes : after c piece ≡ after (opened (items ++ front)) rest = ap (λ d. after d piece) begins ∙ ap (after (Opens items)) (sym parts) ∙ after_parts (Opens items) front rest ∙ ap (λ d. after d rest) all.0 in
    let said : texts t c piece ≡ opened_text t (items ++ front) ++ texts t (opened (items ++ front)) rest =
    ap (λ d. texts t d piece) begins ∙ ap (texts t (Opens items)) (sym parts) ∙ texts_parts t (Opens items) front rest ∙ ap (λ ys. ys ++ texts t (after (Opens items) front) rest) all.1
    ∙ ap (λ d. opened_text t (items ++ front) ++ texts t d rest) all.0 in (
      goes ∙ x.0,
      x.1 ∙ ap (λ xs. xs ++ texts t (opened (items ++ front)) rest) o.1 ∙ append_assoc old (opened_text t (items ++ front)) (texts t (opened (items ++ front)) rest) ∙ ap (λ xs. old ++ xs) (sym said),
    )
opening_all t stands a c items front rest piece old mid new (Err stop.NoMemory) before is same parts some eight o x = tt
