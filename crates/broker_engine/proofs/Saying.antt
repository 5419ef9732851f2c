-- What the octets of a connection say first, by what an assembler gives.
use Rattle.std.proofs.Common.{◌≡◌, ℕ, zero, suc, ◌+◌, ◌≤◌, true, List, [], ◌∷◌, ◌++◌, length, take, drop, fold, Option, None, Some, is_none, Result, Ok, Err, IfOk, ◌<◌, ◌∙◌, ap, sym, subst, refl, arith, append_assoc}
use Rattle.std.proofs.lemmas.Bool.{and_parts}
use Rattle.std.proofs.lemmas.List.{length-append, append-nil, take-append-drop, length-take-le}
use Rattle.std.proofs.lemmas.List.Sums.{fold-append}
use Rattle.std.proofs.Math.Seq.{take-length}
use Rattle.octet_reading.specs.declared.memory.NoMemory.{NoMemory}
use Rattle.amqp_terms.specs.declared.unit.Unit.{Unit as AnyUnit}
use Rattle.amqp_commands.specs.Units.{unit_in}
use Rattle.amqp_frames.specs.declared.done.Done.{Done}
use Rattle.amqp_frames.specs.declared.done.FrameFault.{FrameFault}
use Rattle.amqp_frames.specs.declared.assembler.Assembler.{Assembler}
use Rattle.amqp_frames.specs.Cut.{Cutting, Cuts, Faults, cut, cut_on, cut_octet, whole, is_quiet, all_quiet}
use Rattle.amqp_frames.specs.Stands.{Stands, Run, Refused, Comes}
use Rattle.broker_engine.specs.declared.intake.Closing.{Closing}
use Rattle.broker_engine.specs.declared.intake.Fed.{Fed}
use Rattle.broker_engine.specs.declared.intake.State.{State}
use Rattle.broker_engine.specs.declared.intake.State.TheVariants as state
use Rattle.broker_engine.specs.Talk.{Brings, Nothing, Passes, Closes, Talk, Open, Shut, Says, Waits, Tells, Ends, unit_brings, done_brings, brings, stays, next_cutting, talk_octet, talk, one_later, says_first, says}
use Rattle.broker_engine.specs.Feeds.{TalksAs, Fits, Read, TakesSome}
use Rattle.broker_engine.specs.Wire.{close_octets}

-- the largest frame at each place
abbrev pub limits : ℕ → ℕ
limits place = 65535

-- ---- quiet octets

none_brings : (o : Option Done) → is_none o ≡ true → done_brings o ≡ Nothing
none_brings None q = refl
none_brings (Some done) q = absurd (cc q)

quiet_brings : (c : Cutting) → is_quiet c ≡ true → brings c ≡ Nothing
quiet_brings (Cuts frames []) q = none_brings (whole (Cuts frames [])) q
quiet_brings (Cuts frames (o ∷ rest)) q = refl
quiet_brings (Faults frames at why) q = absurd (cc q)

-- so many octets later
later : ℕ → Says → Says
later zero s = s
later (suc n) s = one_later (later n s)

later_waits : (n : ℕ) → later n Waits ≡ Waits
unfolding later
later_waits zero = refl
later_waits (suc n) = ap one_later (later_waits n)

later_tells : (n m k : ℕ) (u : AnyUnit) → later n (Tells m k u) ≡ Tells (m + n) k u
unfolding later
later_tells zero m k u = ap (λ x. Tells x k u) (omega arith)
later_tells (suc n) m k u = ap one_later (later_tells n m k u) ∙ ap (λ x. Tells x k u) (omega arith)

later_ends : (n : ℕ) (c : Closing) → later n (Ends c) ≡ Ends c
unfolding later
later_ends zero c = refl
later_ends (suc n) c = ap one_later (later_ends n c)

-- quiet octets say nothing, and leave the connection open
says_front : (c : Cutting) (xs ys : List ℕ) → all_quiet limits 0 c xs ≡ true → says (Open c) (xs ++ ys) ≡ later (length xs) (says (Open (cut_on limits 0 c xs)) ys)
unfolding later
says_front c [] ys q = refl
says_front c (x ∷ xs) ys q =
    let parts = and_parts (is_quiet (next_cutting c x)) (all_quiet limits 0 (next_cutting c x) xs) q in
    let none = quiet_brings (next_cutting c x) parts.0 in
    ap (λ b. says_first b (says (stays b (next_cutting c x)) (xs ++ ys))) none ∙ ap one_later (says_front (next_cutting c x) xs ys parts.1)

talk_front : (c : Cutting) (xs : List ℕ) → all_quiet limits 0 c xs ≡ true → fold talk_octet (Open c) xs ≡ Open (cut_on limits 0 c xs)
talk_front c [] q = refl
talk_front c (x ∷ xs) q =
    let parts = and_parts (is_quiet (next_cutting c x)) (all_quiet limits 0 (next_cutting c x) xs) q in
    ap (λ b. fold talk_octet (stays b (next_cutting c x)) xs) (quiet_brings (next_cutting c x) parts.0) ∙ talk_front (next_cutting c x) xs parts.1

-- ---- the octet that brings something

-- nothing is heard after the end
shut_stays : (xs : List ℕ) → fold talk_octet Shut xs ≡ Shut
shut_stays [] = refl
shut_stays (x ∷ xs) = shut_stays xs

says_shut : (xs : List ℕ) → says Shut xs ≡ Waits
says_shut [] = refl
says_shut (x ∷ xs) = ap one_later (says_shut xs)

-- the cut at the last octet of a run
cut_last : (c : Cutting) (front : List ℕ) (o : ℕ) → cut_on limits 0 c (front ++ o ∷ []) ≡ next_cutting (cut_on limits 0 c front) o
cut_last c front o = fold-append (cut_octet limits 0) c front (o ∷ [])

-- what a run's last octet brings is what is said, and decides whether the connection stays open
record Decided (c : Cutting) (octets more : List ℕ) (b : Brings) : Type 0 where
  pub front : List ℕ
  pub many : length octets ≡ 1 + length front
  pub said : says (Open c) (octets ++ more) ≡ later (length front) (says_first b (says (stays b (cut_on limits 0 c octets)) more))
  pub then_ : fold talk_octet (Open c) octets ≡ stays b (cut_on limits 0 c octets)

decided : (c : Cutting) (octets more : List ℕ) (b : Brings) → Run limits 0 c octets → brings (cut_on limits 0 c octets) ≡ b → Decided c octets more b
decided c octets more b r e =
    let last : cut_on limits 0 c octets ≡ next_cutting (cut_on limits 0 c r.front) r.octet = ap (cut_on limits 0 c) r.parts ∙ cut_last c r.front r.octet in
    let whole_is : octets ++ more ≡ r.front ++ (r.octet ∷ more) = ap (λ xs. xs ++ more) r.parts ∙ append_assoc r.front (r.octet ∷ []) more in
    let here : brings (next_cutting (cut_on limits 0 c r.front) r.octet) ≡ b = ap brings (sym last) ∙ e in
    record {
      front = r.front;
      many = omega (arith, ap length r.parts, length-append r.front (r.octet ∷ []));
      said = ap (says (Open c)) whole_is ∙ says_front c r.front (r.octet ∷ more) r.before
          ∙ ap (λ x. later (length r.front) (says_first x (says (stays x (next_cutting (cut_on limits 0 c r.front) r.octet)) more))) here
          ∙ ap (λ x. later (length r.front) (says_first b (says (stays b x) more))) (sym last);
      then_ = ap (fold talk_octet (Open c)) r.parts ∙ fold-append talk_octet (Open c) r.front (r.octet ∷ []) ∙ ap (λ t. talk_octet t r.octet) (talk_front c r.front r.before)
          ∙ ap (λ x. stays x (next_cutting (cut_on limits 0 c r.front) r.octet)) here ∙ ap (stays b) (sym last);
    }

-- further octets after those before
pub talk_parts : (before xs : List ℕ) → talk (before ++ xs) ≡ fold talk_octet (talk before) xs
talk_parts before xs = fold-append talk_octet (Open (Cuts [] [])) before xs

cut_parts : (before xs : List ℕ) → cut limits 0 (before ++ xs) ≡ cut_on limits 0 (cut limits 0 before) xs
cut_parts before xs = fold-append (cut_octet limits 0) (Cuts [] []) before xs

brings_whole : (c : Cutting) (done : Done) → whole c ≡ Some done → brings c ≡ done_brings (Some done)
brings_whole (Cuts frames rest) done e = ap done_brings e
brings_whole (Faults frames at why) done e = absurd (cc e)

-- an open connection isn't behind a fault
abbrev IsSound : Talk → Type 0
IsSound (Open (Cuts frames rest)) = Unit {0}
IsSound (Open (Faults frames at why)) = ⊥
IsSound Shut = Unit {0}

stays_sound : (c : Cutting) → IsSound (stays (brings c) c)
stays_sound (Cuts frames rest) = by_brings (brings (Cuts frames rest))
  where
    by_brings : (b : Brings) → IsSound (stays b (Cuts frames rest))
    by_brings Nothing = tt
    by_brings (Passes k u) = tt
    by_brings (Closes closing) = tt
stays_sound (Faults frames at why) = tt

fold_sound : (t : Talk) (xs : List ℕ) → IsSound t → IsSound (fold talk_octet t xs)
fold_sound t [] s = s
fold_sound (Open c) (x ∷ xs) s = fold_sound (talk_octet (Open c) x) xs (stays_sound (next_cutting c x))
fold_sound Shut (x ∷ xs) s = fold_sound Shut xs tt

-- ---- what a connection gives

-- all octets were taken, and none brought anything
pub feeds_waits : (a : Assembler) (before piece : List ℕ) (taken : ℕ) (old new : List ℕ) → talk before ≡ Open (cut limits 0 before) → Stands a limits 0 (before ++ take taken piece)
    → Comes limits 0 (cut limits 0 before) piece taken None → new ≡ old
    → TalksAs (state.Open a) (before ++ take taken piece) × Fits (says (talk before) piece) (length piece) (record { taken = taken; unit = None; closed = None }) old new
feeds_waits a before piece taken old new is s comes same =
    let all : take taken piece ≡ piece = ap (λ n. take n piece) comes.0 ∙ take-length piece in
    let quiet : all_quiet limits 0 (cut limits 0 before) (take taken piece) ≡ true = subst (λ xs. all_quiet limits 0 (cut limits 0 before) xs ≡ true) (sym all) comes.1 in
    let said : says (talk before) piece ≡ Waits =
    ap (λ t. says t piece) is ∙ ap (says (Open (cut limits 0 before))) (sym (append-nil piece)) ∙ says_front (cut limits 0 before) piece [] comes.1 ∙ later_waits (length piece) in (
      (
        talk_parts before (take taken piece) ∙ ap (λ t. fold talk_octet t (take taken piece)) is ∙ talk_front (cut limits 0 before) (take taken piece) quiet
            ∙ ap Open (sym (cut_parts before (take taken piece))),
        s,
      ),
      subst (λ x. Fits x (length piece) (record { taken = taken; unit = None; closed = None }) old new) (sym said) (ap (λ n. record { taken = n; unit = None; closed = None }) comes.0, same),
    )

-- an assembly came, and it is a unit or none
pub feeds_done : (a : Assembler) (after : State) (before piece : List ℕ) (taken : ℕ) (done : Done) (fed : Fed) (old new : List ℕ) → talk before ≡ Open (cut limits 0 before)
    → taken ≤ length piece → Stands a limits 0 (before ++ take taken piece) → Comes limits 0 (cut limits 0 before) piece taken (Some done)
    → Read (unit_brings done.channel done.at (unit_in done.assembly)) taken (length piece) (state.Open a) after fed old new
    → TalksAs after (before ++ take fed.taken piece) × Fits (says (talk before) piece) (length piece) fed old new
feeds_done a after before piece taken done fed old new is within s comes r = by_brings (unit_brings done.channel done.at (unit_in done.assembly)) refl r
  where
    part : List ℕ
    part = take taken piece

    by_brings : (b : Brings) → unit_brings done.channel done.at (unit_in done.assembly) ≡ b → Read b taken (length piece) (state.Open a) after fed old new
        → TalksAs after (before ++ take fed.taken piece) × Fits (says (talk before) piece) (length piece) fed old new
    by_brings Nothing e q = absurd q
    by_brings (Passes k u) e q =
        let c = cut limits 0 before in
        let d = decided c part (drop taken piece) (Passes k u) comes.run (brings_whole (cut_on limits 0 c part) done comes.gives ∙ e) in
        let n : length part ≡ taken = length-take-le taken piece within in
        let said : says (talk before) piece ≡ Tells taken k u =
        ap (λ t. says t piece) is ∙ ap (says (Open c)) (sym (take-append-drop taken piece)) ∙ d.said ∙ later_tells (length d.front) 1 k u ∙ ap (λ m. Tells m k u) (omega (arith, d.many, n)) in
        let talks : TalksAs (state.Open a) (before ++ part) =
        (talk_parts before part ∙ ap (λ t. fold talk_octet t part) is ∙ d.then_ ∙ ap Open (sym (cut_parts before part)), s) in (
          subst (λ x. TalksAs x (before ++ take fed.taken piece)) (sym q.1) (subst (λ (f : Fed). TalksAs (state.Open a) (before ++ take f.taken piece)) (sym q.0) talks),
          subst (λ x. Fits x (length piece) fed old new) (sym said) (q.0, q.2),
        )
    by_brings (Closes closing) e q =
        let c = cut limits 0 before in
        let d = decided c part (drop taken piece) (Closes closing) comes.run (brings_whole (cut_on limits 0 c part) done comes.gives ∙ e) in
        let said : says (talk before) piece ≡ Ends closing =
        ap (λ t. says t piece) is ∙ ap (says (Open c)) (sym (take-append-drop taken piece)) ∙ d.said ∙ later_ends (length d.front) closing in
        let talks : talk (before ++ piece) ≡ Shut =
        talk_parts before piece ∙ ap (λ t. fold talk_octet t piece) is ∙ ap (fold talk_octet (Open c)) (sym (take-append-drop taken piece))
        ∙ fold-append talk_octet (Open c) part (drop taken piece) ∙ ap (λ t. fold talk_octet t (drop taken piece)) d.then_ ∙ shut_stays (drop taken piece) in
        let all : before ++ take (length piece) piece ≡ before ++ piece = ap (λ xs. before ++ xs) (take-length piece) in (
          subst (λ x. TalksAs x (before ++ take fed.taken piece)) (sym q.1)
              (subst (λ (f : Fed). TalksAs state.Closed (before ++ take f.taken piece)) (sym q.0) (subst (λ xs. talk xs ≡ Shut) (sym all) talks)),
          subst (λ x. Fits x (length piece) fed old new) (sym said) (q.0, q.2),
        )

-- a frame was refused
pub feeds_refused : (before piece : List ℕ) (fault : FrameFault) (after : State) (fed : Fed) (old new : List ℕ) → talk before ≡ Open (cut limits 0 before)
    → Refused limits 0 (cut limits 0 before) piece fault
    → fed ≡ record { taken = length piece; unit = None; closed = Some (record { at = fault.at; segment = None; why = Some fault.why }) } → after ≡ state.Closed → new ≡ old ++ close_octets fault.why
    → TalksAs after (before ++ take fed.taken piece) × Fits (says (talk before) piece) (length piece) fed old new
feeds_refused before piece fault after fed old new is refused fed_is after_is new_is =
    by_cut (cut limits 0 before) is (subst IsSound is (fold_sound (Open (Cuts [] [])) before tt)) refused
  where
    by_cut : (c : Cutting) → talk before ≡ Open c → IsSound (Open c) → Refused limits 0 c piece fault
        → TalksAs after (before ++ take fed.taken piece) × Fits (says (talk before) piece) (length piece) fed old new
    by_cut (Faults frames at why) e sound r = absurd sound
    by_cut (Cuts frames rest) e sound r =
        let c = Cuts frames rest in
        let closing : Closing = record { at = fault.at; segment = None; why = Some fault.why } in
        let d = decided c r.part r.more (Closes closing) r.refuses.run (ap brings r.refuses.refuses) in
        let said : says (talk before) piece ≡ Ends closing = ap (λ t. says t piece) e ∙ ap (says (Open c)) r.parts ∙ d.said ∙ later_ends (length d.front) closing in
        let talks : talk (before ++ piece) ≡ Shut =
        talk_parts before piece ∙ ap (λ t. fold talk_octet t piece) e ∙ ap (fold talk_octet (Open c)) r.parts
        ∙ fold-append talk_octet (Open c) r.part r.more ∙ ap (λ t. fold talk_octet t r.more) d.then_ ∙ shut_stays r.more in
        let all : before ++ take (length piece) piece ≡ before ++ piece = ap (λ xs. before ++ xs) (take-length piece) in (
          subst (λ x. TalksAs x (before ++ take fed.taken piece)) (sym after_is)
              (subst (λ (f : Fed). TalksAs state.Closed (before ++ take f.taken piece)) (sym fed_is) (subst (λ xs. talk xs ≡ Shut) (sym all) talks)),
          subst (λ x. Fits x (length piece) fed old new) (sym said) (fed_is, new_is),
        )

-- a Closed connection hears nothing
pub feeds_shut : (before piece : List ℕ) (old : List ℕ) → talk before ≡ Shut
    → (talk (before ++ take (length piece) piece) ≡ Shut) × Fits (says (talk before) piece) (length piece) (record { taken = length piece; unit = None; closed = None }) old old
feeds_shut before piece old is =
    let said : says (talk before) piece ≡ Waits = ap (λ t. says t piece) is ∙ says_shut piece in (
      talk_parts before (take (length piece) piece) ∙ ap (λ t. fold talk_octet t (take (length piece) piece)) is ∙ shut_stays (take (length piece) piece),
      subst (λ x. Fits x (length piece) (record { taken = length piece; unit = None; closed = None }) old old) (sym said) (refl, refl),
    )

-- what holds of an answer
pub if_ok : {X E : Type 0} (r : Result X E) (P Q : X → Type 0) → ((x : X) → P x → Q x) → IfOk r P → IfOk r Q
if_ok (Ok x) P Q f h = f x h
if_ok (Err e) P Q f h = tt

-- a unit that was read takes what its assembly took, or all
pub read_takes : (r : Result Fed NoMemory) (piece : List ℕ) (b : Brings) (taken : ℕ) (before after : State) (old new : List ℕ) → taken ≤ length piece → (0 < length piece → 0 < taken)
    → IfOk r (λ fed. Read b taken (length piece) before after fed old new) → TakesSome piece r
read_takes (Ok fed) piece Nothing taken before after old new low some h = absurd h
read_takes (Ok fed) piece (Passes k u) taken before after old new low some h =
    let is : fed.taken ≡ taken = ap (λ (f : Fed). f.taken) h.0 in
    (subst (λ n. n ≤ length piece) (sym is) low, λ lt. subst (λ n. 0 < n) (sym is) (some lt))
read_takes (Ok fed) piece (Closes closing) taken before after old new low some h =
    let is : fed.taken ≡ length piece = ap (λ (f : Fed). f.taken) h.0 in
    (subst (λ n. n ≤ length piece) (sym is) (omega arith), λ lt. subst (λ n. 0 < n) (sym is) lt)
read_takes (Err none) piece b taken before after old new low some h = tt
