-- Steps, and a piece that is taken step by step.
use Rattle.std.proofs.Common.{◌≡◌, ℕ, ◌+◌, ◌-◌, ◌*◌, ◌^◌, ◌<◌, ◌≤◌, true, cond, List, [], ◌∷◌, ◌++◌, length, take, drop, Option, None, Some, is_none, Result, Ok, Err, inl, inr, ◌∙◌, ap, sym, subst, refl, arith, append_assoc, get_or}
use Rattle.std.proofs.lemmas.Bool.{eq-eqb}
use Rattle.std.proofs.lemmas.List.{length-append, append-nil, take-append-drop, length-take-le}
use Rattle.std.proofs.lemmas.List.Sums.{fold-append}
use Rattle.std.proofs.Math.Seq.{take-append_seam, take-length}
use Rattle.octet_reading.specs.declared.memory.NoMemory.{NoMemory}
use Rattle.amqp_frames.specs.declared.assembler.Assembler.{Assembler}
use Rattle.amqp_frames.specs.declared.assembler.Front.{Front}
use Rattle.amqp_frames.specs.declared.assembler.Step.{Step}
use Rattle.amqp_frames.specs.declared.assembler.Step.TheVariants as step
use Rattle.amqp_frames.specs.declared.done.Done.{Done}
use Rattle.amqp_frames.specs.declared.done.FrameFault.{FrameFault}
use Rattle.amqp_frames.specs.declared.header.FrameHeader.{FrameHeader}
use Rattle.amqp_frames.specs.Cut.{Frame, Cutting, Cuts, Faults, header_in, header_at, frame_of, place_after, grown, cut_octet, cut_on, cut, ended_by, whole, is_quiet, all_quiet, open_size, payload_of_header}
use Rattle.amqp_frames.specs.Frames.{track}
use Rattle.amqp_frames.specs.Kept.{kept}
use Rattle.amqp_frames.specs.Lane.{lane_of}
use Rattle.amqp_frames.specs.Touched.{lane_in}
use Rattle.amqp_frames.specs.Stands.{Between, Within, open_with, StandsAs, Stands, After, Took, Run, KeepsLog, LogKept, TakesPiece, RefusesPiece, Refused}
use Rattle.amqp_frames.proofs.Octets.{Grew, octet_short, quiet_rest, faults_stay, quiet_more, quiet_both, run_one, run_behind}

-- ---- a frame's end

-- a frame without need is whole
pub grown_whole : (a : Assembler) (limits : ℕ → ℕ) (first : ℕ) (frames : List Frame) (rest : List ℕ) → Within a limits first frames rest → a.front.need ≡ 0
    → grown a.front.at frames rest ≡ Cuts (frame_of a.front.at rest ∷ frames) []
grown_whole a limits first frames rest w need =
    ap (λ b. cond b (Cuts (frame_of a.front.at rest ∷ frames) []) (Cuts frames rest))
    (eq-eqb (length rest) (header_at rest).size (omega (arith, w.need_is, need, ap (λ (h : FrameHeader). h.size) w.header_is)))

pub after_whole : (a b : Assembler) (limits : ℕ → ℕ) (first : ℕ) (frames : List Frame) (rest : List ℕ) (done : Done) → Within a limits first frames rest → a.front.need ≡ 0
    → Some done ≡ ended_by (frame_of a.front.at rest ∷ frames) → Between b limits first (frame_of a.front.at rest ∷ frames) []
    → After b limits first (grown a.front.at frames rest) (Ok (step.Done done))
after_whole a b limits first frames rest done w need gives s =
    subst (λ c. After b limits first c (Ok (step.Done done))) (sym (grown_whole a limits first frames rest w need)) (sym gives, inl s)

pub after_quiet : (a b : Assembler) (limits : ℕ → ℕ) (first : ℕ) (frames : List Frame) (rest : List ℕ) → Within a limits first frames rest → a.front.need ≡ 0
    → None ≡ ended_by (frame_of a.front.at rest ∷ frames) → Between b limits first (frame_of a.front.at rest ∷ frames) []
    → After b limits first (grown a.front.at frames rest) (Ok step.Quiet)
after_quiet a b limits first frames rest w need gives s =
    subst (λ c. After b limits first c (Ok step.Quiet)) (sym (grown_whole a limits first frames rest w need)) (ap is_none (sym gives), inl s)

-- ---- taking back

pub log_joined : (a b c : Assembler) → KeepsLog a b → KeepsLog b c → KeepsLog a c
log_joined a b c k l = record { max_is = l.max_is ∙ k.max_is; fault_is = l.fault_is ∙ k.fault_is; undone_is = λ i. l.undone_is i ∙ k.undone_is i; reach = λ r. l.reach (k.reach r) }

pub log_then : (a b c : Assembler) (r : Result Step NoMemory) → KeepsLog a b → LogKept b c r → LogKept a c r
log_then a b c (Ok step.Quiet) k l = log_joined a b c k l
log_then a b c (Ok (step.Done done)) k l = tt
log_then a b c (Ok (step.Bad fault)) k l = log_joined a b c k l
log_then a b c (Err none) k l = log_joined a b c k l

-- ---- a header

-- twelve octets are their own front
pub header_whole : (octets rest : List ℕ) → octets ≡ rest → length rest ≡ 12 → header_in octets ≡ header_at rest
header_whole octets rest same twelve = ap header_in (same ∙ sym (ap (λ n. take n rest) (sym twelve) ∙ take-length rest))

-- another part of a header
pub between_partial : (a b : Assembler) (limits : ℕ → ℕ) (first : ℕ) (frames : List Frame) (rest new : List ℕ) → Between a limits first frames rest → length new < 12
    → b.fault ≡ a.fault → b.max_frame ≡ a.max_frame → b.partial ≡ new → b.front ≡ a.front → b.lanes.items ≡ a.lanes.items → Between b limits first frames new
between_partial a b limits first frames rest new s short fault max partial front lanes = record {
  faultless = fault ∙ s.faultless;
  at_is = ap (λ (f : Front). f.at) front ∙ s.at_is;
  short = short;
  partial_is = partial;
  need_is = ap (λ (f : Front). f.need) front ∙ s.need_is;
  lanes_are = λ c t le. ap (λ l. lane_in l (2 * c + t)) lanes ∙ s.lanes_are c t le;
  unfinished_is = ap (λ (f : Front). f.unfinished) front ∙ s.unfinished_is;
  limit_is = λ p le. s.limit_is p le ∙ sym max;
}

pub after_octet : (b : Assembler) (limits : ℕ → ℕ) (first : ℕ) (frames : List Frame) (rest : List ℕ) (o : ℕ) → length rest + 1 < 12 → Between b limits first frames (rest ++ o ∷ [])
    → After b limits first (cut_octet limits first (Cuts frames rest) o) (Ok step.Quiet)
after_octet b limits first frames rest o short s =
    subst (λ c. After b limits first c (Ok step.Quiet)) (sym (octet_short limits first frames rest o short))
    (quiet_rest frames (rest ++ o ∷ []) (omega (arith, length-append rest (o ∷ []))), inl s)

-- ---- an octet or a run as octets that were taken

-- the first octet of a piece
pub take_one : (xs : List ℕ) → 0 < length xs → get_or xs 0 0 ∷ [] ≡ take 1 xs
take_one [] lt = absurd (omega arith)
take_one (x ∷ xs) lt = refl

pub took_one : (a : Assembler) (limits : ℕ → ℕ) (first : ℕ) (cutting : Cutting) (o : ℕ) (r : Result Step NoMemory) → After a limits first (cut_octet limits first cutting o) r → Took a limits first cutting (o ∷ []) r
took_one a limits first cutting o (Ok step.Quiet) h = (quiet_more limits first cutting [] o refl h.0, h.1)
took_one a limits first cutting o (Ok (step.Done done)) h = (record { run = run_one limits first cutting o; gives = h.0 }, h.1)
took_one a limits first cutting o (Ok (step.Bad fault)) h = record { run = run_one limits first cutting o; frames = h.0; refuses = h.1 }
took_one a limits first cutting o (Err none) h = tt

pub took_run : (a : Assembler) (limits : ℕ → ℕ) (first : ℕ) (frames : List Frame) (rest run : List ℕ) (r : Result Step NoMemory) → Grew limits first frames rest run
    → After a limits first (grown (place_after first frames) frames (rest ++ run)) r → Took a limits first (Cuts frames rest) run r
took_run a limits first frames rest run (Ok step.Quiet) g h =
    let quiet : is_quiet (cut_on limits first (Cuts frames rest) run) ≡ true = ap is_quiet g.grew ∙ h.0 in (
      subst (λ xs. all_quiet limits first (Cuts frames rest) xs ≡ true) (sym g.runs.parts)
          (quiet_more limits first (Cuts frames rest) g.runs.front g.runs.octet g.runs.before (subst (λ xs. is_quiet (cut_on limits first (Cuts frames rest) xs) ≡ true) g.runs.parts quiet)),
      subst (StandsAs a limits first) (sym g.grew) h.1,
    )
took_run a limits first frames rest run (Ok (step.Done done)) g h = (record { run = g.runs; gives = ap whole g.grew ∙ h.0 }, subst (StandsAs a limits first) (sym g.grew) h.1)
took_run a limits first frames rest run (Ok (step.Bad fault)) g h = record { run = g.runs; frames = h.0; refuses = g.grew ∙ h.1 }
took_run a limits first frames rest run (Err none) g h = tt

-- a step before the header came whole
pub step_octet : (a b : Assembler) (limits : ℕ → ℕ) (first : ℕ) (cutting : Cutting) (o : ℕ) (r : Result Step NoMemory) → StandsAs a limits first cutting → a.fault ≡ None → a.front.need ≡ 0
    → ((frames : List Frame) (rest : List ℕ) → Between a limits first frames rest → After b limits first (cut_octet limits first (Cuts frames rest) o) r) → Took b limits first cutting (o ∷ []) r
step_octet a b limits first (Cuts frames rest) o r (inl s) none need f = took_one b limits first (Cuts frames rest) o r (f frames rest s)
step_octet a b limits first (Cuts frames rest) o r (inr w) none need f = absurd (omega (arith, w.1, need))
step_octet a b limits first (Faults frames at why) o r s none need f = let e : Some (record { at = at; why = why }) ≡ None = sym s.0 ∙ none in absurd (cc e)

-- and behind it
pub step_run : (a b : Assembler) (limits : ℕ → ℕ) (first : ℕ) (cutting : Cutting) (run : List ℕ) (r : Result Step NoMemory) → StandsAs a limits first cutting → a.fault ≡ None → (a.front.need ≡ 0 → ⊥)
    → ((frames : List Frame) (rest : List ℕ) → Within a limits first frames rest → Took b limits first (Cuts frames rest) run r) → Took b limits first cutting run r
step_run a b limits first (Cuts frames rest) run r (inl s) none need f = absurd (need s.need_is)
step_run a b limits first (Cuts frames rest) run r (inr w) none need f = f frames rest w.0
step_run a b limits first (Faults frames at why) run r s none need f = let e : Some (record { at = at; why = why }) ≡ None = sym s.0 ∙ none in absurd (cc e)

-- ---- a piece

-- nothing came of the octets so far
pub record Going (a : Assembler) (limits : ℕ → ℕ) (first : ℕ) (cutting : Cutting) (piece rest : List ℕ) : Type 0 where
  pub front : List ℕ
  pub parts : piece ≡ front ++ rest
  pub before : all_quiet limits first cutting front ≡ true
  pub stands : StandsAs a limits first (cut_on limits first cutting front)

pub going_start : (a : Assembler) (limits : ℕ → ℕ) (first : ℕ) (cutting : Cutting) (piece : List ℕ) → StandsAs a limits first cutting → Going a limits first cutting piece piece
going_start a limits first cutting piece s = record { front = []; parts = refl; before = refl; stands = s }

-- further octets in two parts
cut_parts : (limits : ℕ → ℕ) (first : ℕ) (cutting : Cutting) (xs ys : List ℕ) → cut_on limits first cutting (xs ++ ys) ≡ cut_on limits first (cut_on limits first cutting xs) ys
cut_parts limits first cutting xs ys = fold-append (cut_octet limits first) cutting xs ys

pub going_more : (a b : Assembler) (limits : ℕ → ℕ) (first : ℕ) (cutting : Cutting) (piece rest : List ℕ) (n : ℕ) (g : Going a limits first cutting piece rest)
    → Took b limits first (cut_on limits first cutting g.front) (take n rest) (Ok step.Quiet) → Going b limits first cutting piece (drop n rest)
going_more a b limits first cutting piece rest n g t = record {
  front = g.front ++ take n rest;
  parts = g.parts ∙ ap (λ xs. g.front ++ xs) (sym (take-append-drop n rest)) ∙ sym (append_assoc g.front (take n rest) (drop n rest));
  before = quiet_both limits first cutting g.front (take n rest) g.before t.0;
  stands = subst (StandsAs b limits first) (sym (cut_parts limits first cutting g.front (take n rest))) t.1;
}

-- what was taken of the piece
taken_is : (front rest : List ℕ) (n : ℕ) → n ≤ length rest → take (length (front ++ rest) - (length rest - n)) (front ++ rest) ≡ front ++ take n rest
taken_is front rest n le =
    ap (λ k. take k (front ++ rest)) (omega (arith, length-append front rest, length-append front (take n rest), length-take-le n rest le))
    ∙ ap (λ xs. take (length (front ++ take n rest)) (front ++ xs)) (sym (take-append-drop n rest))
    ∙ ap (take (length (front ++ take n rest))) (sym (append_assoc front (take n rest) (drop n rest)))
    ∙ take-append_seam (front ++ take n rest) (drop n rest)

pub going_gives : (a b : Assembler) (limits : ℕ → ℕ) (first : ℕ) (cutting : Cutting) (piece rest : List ℕ) (n k : ℕ) (done : Done) (g : Going a limits first cutting piece rest) → n ≤ length rest
    → k ≡ length piece - (length rest - n) → Took b limits first (cut_on limits first cutting g.front) (take n rest) (Ok (step.Done done))
    → TakesPiece b limits first cutting piece (record { taken = k; done = Some done })
going_gives a b limits first cutting piece rest n k done g le is t =
    let same : take k piece ≡ g.front ++ take n rest =
    ap (λ m. take m piece) is ∙ ap (λ xs. take (length xs - (length rest - n)) xs) g.parts ∙ taken_is g.front rest n le in
    let on : cut_on limits first cutting (take k piece) ≡ cut_on limits first (cut_on limits first cutting g.front) (take n rest) =
    ap (cut_on limits first cutting) same ∙ cut_parts limits first cutting g.front (take n rest) in
    record {
      stands = subst (StandsAs b limits first) (sym on) t.1;
      comes = record {
        run = subst (Run limits first cutting) (sym same) (run_behind limits first cutting g.front (take n rest) g.before t.0.run);
        gives = ap whole on ∙ t.0.gives;
      };
    }

pub going_refuses : (a b : Assembler) (limits : ℕ → ℕ) (first : ℕ) (cutting : Cutting) (piece rest : List ℕ) (n : ℕ) (fault : FrameFault) (g : Going a limits first cutting piece rest)
    → Took b limits first (cut_on limits first cutting g.front) (take n rest) (Ok (step.Bad fault)) → RefusesPiece limits first cutting piece fault
going_refuses a b limits first cutting piece rest n fault g t = record {
  part = g.front ++ take n rest;
  more = drop n rest;
  parts = g.parts ∙ ap (λ xs. g.front ++ xs) (sym (take-append-drop n rest)) ∙ sym (append_assoc g.front (take n rest) (drop n rest));
  refuses = record {
    run = run_behind limits first cutting g.front (take n rest) g.before t.run;
    frames = t.frames;
    refuses = cut_parts limits first cutting g.front (take n rest) ∙ t.refuses;
  };
}

pub going_ends : (a : Assembler) (limits : ℕ → ℕ) (first : ℕ) (cutting : Cutting) (piece rest : List ℕ) (g : Going a limits first cutting piece rest) → rest ≡ []
    → TakesPiece a limits first cutting piece (record { taken = length piece; done = None })
going_ends a limits first cutting piece rest g empty =
    let all : piece ≡ g.front = g.parts ∙ ap (λ xs. g.front ++ xs) empty ∙ append-nil g.front in
    record {
      stands = subst (λ xs. StandsAs a limits first (cut_on limits first cutting xs)) (sym all ∙ sym (take_all piece)) g.stands;
      comes = (refl, subst (λ xs. all_quiet limits first cutting xs ≡ true) (sym all) g.before);
    }
  where
    take_all : (xs : List ℕ) → take (length xs) xs ≡ xs
    take_all xs = take-length xs

-- ---- the calls of an assembler

-- an assembler that differs in nothing that is seen
pub stands_like : (a b : Assembler) (limits : ℕ → ℕ) (first : ℕ) (cutting : Cutting) → a.fault ≡ None → b.fault ≡ a.fault → b.max_frame ≡ a.max_frame → b.partial ≡ a.partial → b.front ≡ a.front
    → ((i : ℕ) → lane_in b.lanes.items i ≡ lane_in a.lanes.items i) → StandsAs a limits first cutting → StandsAs b limits first cutting
stands_like a b limits first (Cuts frames rest) none fault max partial front lanes (inl s) = inl (record {
  faultless = fault ∙ s.faultless;
  at_is = ap (λ (f : Front). f.at) front ∙ s.at_is;
  short = s.short;
  partial_is = partial ∙ s.partial_is;
  need_is = ap (λ (f : Front). f.need) front ∙ s.need_is;
  lanes_are = λ c t le. lanes (2 * c + t) ∙ s.lanes_are c t le;
  unfinished_is = ap (λ (f : Front). f.unfinished) front ∙ s.unfinished_is;
  limit_is = λ p le. s.limit_is p le ∙ sym max;
})
stands_like a b limits first (Cuts frames rest) none fault max partial front lanes (inr w) = inr (
  record {
    faultless = fault ∙ w.0.faultless;
    at_is = ap (λ (f : Front). f.at) front ∙ w.0.at_is;
    near = subst (λ (f : Front). f.at < 2 ^ 62) (sym front) w.0.near;
    long = w.0.long;
    partial_is = partial ∙ w.0.partial_is;
    header_is = ap (λ (f : Front). f.header) front ∙ w.0.header_is;
    kind_low = subst (λ (f : Front). f.header.kind ≤ 3) (sym front) w.0.kind_low;
    track_is = subst (λ (f : Front). f.header.track ≡ track f.header.kind) (sym front) w.0.track_is;
    size_low = subst (λ (f : Front). f.header.size < 2 ^ 16) (sym front) w.0.size_low;
    need_is = subst (λ (f : Front). f.need + length rest ≡ f.header.size) (sym front) w.0.need_is;
    lanes_are = λ c t le. lanes (2 * c + t) ∙ w.0.lanes_are c t le ∙ ap (λ (f : Front). lane_of t (open_with f.at frames rest c t)) (sym front);
    unfinished_is = ap (λ (f : Front). f.unfinished) front ∙ w.0.unfinished_is ∙ ap (λ (f : Front). open_size frames + payload_of_header f.header) (sym front);
    limit_is = λ p lt. w.0.limit_is p lt ∙ sym max;
  },
  subst (λ (f : Front). 0 < f.need) (sym front) w.1,
)
stands_like a b limits first (Faults frames at why) none fault max partial front lanes s = let e : Some (record { at = at; why = why }) ≡ None = sym s.0 ∙ none in absurd (cc e)

-- a piece after a fault
pub fed_faulty : (a : Assembler) (limits : ℕ → ℕ) (first : ℕ) (octets piece : List ℕ) (fault : FrameFault) → Stands a limits first octets → a.fault ≡ Some fault
    → Stands a limits first (octets ++ piece) × Refused limits first (cut limits first octets) piece fault
fed_faulty a limits first octets piece fault s is =
    let r = by_cutting (cut limits first octets) s in
    (subst (StandsAs a limits first) (sym (cut_parts limits first (Cuts [] []) octets piece)) r.0, r.1)
  where
    by_cutting : (c : Cutting) → StandsAs a limits first c → StandsAs a limits first (cut_on limits first c piece) × Refused limits first c piece fault
    by_cutting (Cuts frames rest) (inl t) = let e : Some fault ≡ None = sym is ∙ t.faultless in absurd (cc e)
    by_cutting (Cuts frames rest) (inr w) = let e : Some fault ≡ None = sym is ∙ w.0.faultless in absurd (cc e)
    by_cutting (Faults frames at why) t =
        let e : Some fault ≡ Some (record { at = at; why = why }) = sym is ∙ t.0 in
        (subst (StandsAs a limits first) (sym (faults_stay limits first frames at why piece)) t, cc e)

-- octets of a piece after those before it
pub fed_front : (a : Assembler) (limits : ℕ → ℕ) (first : ℕ) (octets xs : List ℕ) → StandsAs a limits first (cut_on limits first (cut limits first octets) xs) → Stands a limits first (octets ++ xs)
fed_front a limits first octets xs s = subst (StandsAs a limits first) (sym (cut_parts limits first (Cuts [] []) octets xs)) s

-- the first fault, in this piece
pub fed_refuses : (a b : Assembler) (limits : ℕ → ℕ) (first : ℕ) (octets piece : List ℕ) (fault : FrameFault) → Stands a limits first octets → a.fault ≡ None → b.fault ≡ Some fault → kept b ≡ 0
    → RefusesPiece limits first (cut limits first octets) piece fault → Stands b limits first (octets ++ piece) × Refused limits first (cut limits first octets) piece fault
fed_refuses a b limits first octets piece fault s none is empty r =
    let on : cut_on limits first (cut limits first octets) piece ≡ Faults r.refuses.frames fault.at fault.why =
    ap (cut_on limits first (cut limits first octets)) r.parts ∙ cut_parts limits first (cut limits first octets) r.part r.more
    ∙ ap (λ c. cut_on limits first c r.more) r.refuses.refuses ∙ faults_stay limits first r.refuses.frames fault.at fault.why r.more in (
      fed_front b limits first octets piece (subst (StandsAs b limits first) (sym on) (is, empty)),
      by_cutting (cut limits first octets) s r,
    )
  where
    by_cutting : (c : Cutting) → StandsAs a limits first c → RefusesPiece limits first c piece fault → Refused limits first c piece fault
    by_cutting (Cuts frames rest) t q = q
    by_cutting (Faults frames at why) t q = let e : Some (record { at = at; why = why }) ≡ None = sym t.0 ∙ none in absurd (cc e)

-- without a fault none came
pub faultless_of : (a : Assembler) (f : Option FrameFault) → f ≡ a.fault → is_none f ≡ true → a.fault ≡ None
faultless_of a None e t = sym e
faultless_of a (Some f) e t = absurd (cc t)
