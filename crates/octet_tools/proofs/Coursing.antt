-- Octets take a course on, in runs that bring something with their last octet.
use Rattle.std.proofs.Common.{◌≡◌, ℕ, ◌+◌, ◌<◌, ltb, true, false, cond, List, [], ◌∷◌, ◌++◌, length, take, drop, Option, None, Some, is_none, Result, Ok, Err, ◌∙◌, ap, sym, subst, refl, arith, append_assoc}
use Rattle.std.proofs.lemmas.Bool.{and_parts, lt-ltb, le-ltb}
use Rattle.std.proofs.lemmas.List.{length-append, append-nil, take-append-drop}
use Rattle.std.proofs.lemmas.List.Sums.{fold-append}
use Rattle.std.proofs.Math.Seq.{take-length}
use Rattle.octet_reading.specs.declared.why.Why.{Why}
use Rattle.amqp_frames.specs.declared.assembler.Assembler.{Assembler}
use Rattle.amqp_frames.specs.declared.done.Done.{Done}
use Rattle.amqp_frames.specs.declared.done.FrameFault.{FrameFault}
use Rattle.amqp_frames.specs.Cut.{Cutting, Cuts, Faults, cut, cut_on, cut_octet, whole, is_quiet, all_quiet}
use Rattle.amqp_frames.specs.Stands.{Stands, Run, Comes, Refused}
use Rattle.amqp_frames.proofs.Back.{few_octets}
use Rattle.amqp_commands.specs.Units.{unit_in}
use Rattle.octet_tools.specs.declared.tool.OctetTool.{OctetTool}
use Rattle.octet_tools.specs.declared.course.Stop.{Stop}
use Rattle.octet_tools.specs.declared.course.Stop.TheVariants as stop
use Rattle.octet_tools.specs.Course.{Brings, Nothing, Gives, Breaks, unit_brings, done_brings, brings, limits, Course, Opens, Runs, Ends, stays, opened, opened_text, next, after, brings_text, text, texts}
use Rattle.octet_tools.specs.Taking.{IsCut, Took, IsAt, Brought, Steps, Takes}

-- ---- further octets

pub after_parts : (c : Course) (xs ys : List ℕ) → after c (xs ++ ys) ≡ after (after c xs) ys
after_parts c xs ys = fold-append next c xs ys

pub texts_parts : (t : OctetTool) (c : Course) (xs ys : List ℕ) → texts t c (xs ++ ys) ≡ texts t c xs ++ texts t (after c xs) ys
texts_parts t c [] ys = refl
texts_parts t c (x ∷ xs) ys = ap (λ zs. text t c x ++ zs) (texts_parts t (next c x) xs ys) ∙ sym (append_assoc (text t c x) (texts t (next c x) xs) (texts t (after (next c x) xs) ys))

-- nothing counts after the end
pub after_end : (at : ℕ) (why : Why) (xs : List ℕ) → after (Ends at why) xs ≡ Ends at why
after_end at why [] = refl
after_end at why (x ∷ xs) = after_end at why xs

pub texts_end : (t : OctetTool) (at : ℕ) (why : Why) (xs : List ℕ) → texts t (Ends at why) xs ≡ []
texts_end t at why [] = refl
texts_end t at why (x ∷ xs) = texts_end t at why xs

-- ---- quiet octets

none_brings : (o : Option Done) → is_none o ≡ true → done_brings o ≡ Nothing
none_brings None q = refl
none_brings (Some done) q = absurd (cc q)

pub quiet_brings : (c : Cutting) → is_quiet c ≡ true → brings c ≡ Nothing
quiet_brings (Cuts frames []) q = none_brings (whole (Cuts frames [])) q
quiet_brings (Cuts frames (o ∷ rest)) q = refl
quiet_brings (Faults frames at why) q = absurd (cc q)

pub cut_more : (first : ℕ) (octets xs : List ℕ) → cut limits first (octets ++ xs) ≡ cut_on limits first (cut limits first octets) xs
cut_more first octets xs = fold-append (cut_octet limits first) (Cuts [] []) octets xs

pub record Quiet (t : OctetTool) (first : ℕ) (octets xs : List ℕ) : Type 0 where
  pub goes : after (Runs first octets) xs ≡ Runs first (octets ++ xs)
  pub silent : texts t (Runs first octets) xs ≡ []

pub runs_quiet : (t : OctetTool) (first : ℕ) (octets xs : List ℕ) → all_quiet limits first (cut limits first octets) xs ≡ true → Quiet t first octets xs
runs_quiet t first octets [] q = record { goes = ap (Runs first) (sym (append-nil octets)); silent = refl }
runs_quiet t first octets (x ∷ xs) q =
    let is : cut limits first (octets ++ x ∷ []) ≡ cut_octet limits first (cut limits first octets) x = cut_more first octets (x ∷ []) in
    let parts = and_parts (is_quiet (cut_octet limits first (cut limits first octets) x)) (all_quiet limits first (cut_octet limits first (cut limits first octets) x) xs) q in
    let none : brings (cut limits first (octets ++ x ∷ [])) ≡ Nothing = ap brings is ∙ quiet_brings (cut_octet limits first (cut limits first octets) x) parts.0 in
    let later = runs_quiet t first (octets ++ x ∷ []) xs (ap (λ c. all_quiet limits first c xs) is ∙ parts.1) in
    let now : next (Runs first octets) x ≡ Runs first (octets ++ x ∷ []) = ap (stays first (octets ++ x ∷ [])) none in
    record {
      goes = ap (λ c. after c xs) now ∙ later.goes ∙ ap (Runs first) (append_assoc octets (x ∷ []) xs);
      silent = ap (λ b. brings_text t b ++ texts t (next (Runs first octets) x) xs) none ∙ ap (λ c. texts t c xs) now ∙ later.silent;
    }

-- ---- a run whose last octet brings something

pub record Decided (t : OctetTool) (first : ℕ) (octets xs : List ℕ) (b : Brings) : Type 0 where
  pub goes : after (Runs first octets) xs ≡ stays first (octets ++ xs) b
  pub said : texts t (Runs first octets) xs ≡ brings_text t b

pub run_decides : (t : OctetTool) (first : ℕ) (octets xs : List ℕ) (b : Brings) → Run limits first (cut limits first octets) xs → brings (cut_on limits first (cut limits first octets) xs) ≡ b
    → Decided t first octets xs b
run_decides t first octets xs b r e =
    let quiet = runs_quiet t first octets r.front r.before in
    let joined : (octets ++ r.front) ++ r.octet ∷ [] ≡ octets ++ xs = append_assoc octets r.front (r.octet ∷ []) ∙ ap (λ ys. octets ++ ys) (sym r.parts) in
    let here : brings (cut limits first ((octets ++ r.front) ++ r.octet ∷ [])) ≡ b = ap (λ ys. brings (cut limits first ys)) joined ∙ ap brings (cut_more first octets xs) ∙ e in
    record {
      goes = ap (after (Runs first octets)) r.parts ∙ after_parts (Runs first octets) r.front (r.octet ∷ []) ∙ ap (λ c. next c r.octet) quiet.goes
          ∙ ap (λ x. stays first ((octets ++ r.front) ++ r.octet ∷ []) x) here ∙ ap (λ ys. stays first ys b) joined;
      said = ap (texts t (Runs first octets)) r.parts ∙ texts_parts t (Runs first octets) r.front (r.octet ∷ [])
          ∙ ap (λ ys. ys ++ texts t (after (Runs first octets) r.front) (r.octet ∷ [])) quiet.silent
          ∙ ap (λ c. texts t c (r.octet ∷ [])) quiet.goes ∙ append-nil (brings_text t (brings (cut limits first ((octets ++ r.front) ++ r.octet ∷ []))))
          ∙ ap (brings_text t) here;
    }

brings_whole : (c : Cutting) (done : Done) → whole c ≡ Some done → brings c ≡ unit_brings done (unit_in done.assembly)
brings_whole (Cuts frames rest) done e = ap done_brings e
brings_whole (Faults frames at why) done e = absurd (cc e)

-- ---- the frames that an assembler took

quiet_cut : (first : ℕ) (c : Cutting) (xs : List ℕ) → IsCut c → all_quiet limits first c xs ≡ true → IsCut (cut_on limits first c xs)
quiet_cut first c [] s q = s
quiet_cut first c (x ∷ xs) s q =
    let parts = and_parts (is_quiet (cut_octet limits first c x)) (all_quiet limits first (cut_octet limits first c x) xs) q in
    quiet_cut first (cut_octet limits first c x) xs (by_quiet (cut_octet limits first c x) parts.0) parts.1
  where
    by_quiet : (d : Cutting) → is_quiet d ≡ true → IsCut d
    by_quiet (Cuts frames rest) e = tt
    by_quiet (Faults frames at why) e = absurd (cc e)

whole_cut : (c : Cutting) (done : Done) → whole c ≡ Some done → IsCut c
whole_cut (Cuts frames rest) done e = tt
whole_cut (Faults frames at why) done e = absurd (cc e)

-- a piece in which no assembly ended
pub step_none : (t : OctetTool) (a : Assembler) (first : ℕ) (octets piece : List ℕ) (taken : ℕ) (old new : List ℕ) → IsCut (cut limits first octets) → Stands a limits first (octets ++ take taken piece)
    → Comes limits first (cut limits first octets) piece taken None → new ≡ old
    → IsAt a (after (Runs first octets) (take taken piece)) × (new ≡ old ++ texts t (Runs first octets) (take taken piece))
step_none t a first octets piece taken old new sound s comes same =
    let all : take taken piece ≡ piece = ap (λ n. take n piece) comes.0 ∙ take-length piece in
    let still : all_quiet limits first (cut limits first octets) (take taken piece) ≡ true = subst (λ xs. all_quiet limits first (cut limits first octets) xs ≡ true) (sym all) comes.1 in
    let quiet = runs_quiet t first octets (take taken piece) still in (
      subst (IsAt a) (sym quiet.goes) (record { stands = s; sound = subst IsCut (sym (cut_more first octets (take taken piece))) (quiet_cut first (cut limits first octets) (take taken piece) sound still) }),
      same ∙ sym (append-nil old) ∙ ap (λ xs. old ++ xs) (sym quiet.silent),
    )

-- what was taken, or the end
abbrev pub StepsOn : OctetTool → Assembler → ℕ → List ℕ → List ℕ → ℕ → List ℕ → List ℕ → Result (Unit {0}) Stop → Type 0
StepsOn t a first octets piece taken old new (Ok none) = IsAt a (after (Runs first octets) (take taken piece)) × (new ≡ old ++ texts t (Runs first octets) (take taken piece))
StepsOn t a first octets piece taken old new (Err (stop.Malformed at why)) = (after (Runs first octets) piece ≡ Ends at why) × (new ≡ old ++ texts t (Runs first octets) piece)
StepsOn t a first octets piece taken old new (Err stop.NoMemory) = Unit {0}

-- a fault within a piece ends the course, and nothing is written for it
ends_course : (t : OctetTool) (first : ℕ) (octets xs more piece : List ℕ) (at : ℕ) (why : Why) → Decided t first octets xs (Breaks at why) → xs ++ more ≡ piece
    → (after (Runs first octets) piece ≡ Ends at why) × (texts t (Runs first octets) piece ≡ [])
ends_course t first octets xs more piece at why x whole_is = (
  ap (after (Runs first octets)) (sym whole_is) ∙ after_parts (Runs first octets) xs more ∙ ap (λ c. after c more) x.goes ∙ after_end at why more,
  ap (texts t (Runs first octets)) (sym whole_is) ∙ texts_parts t (Runs first octets) xs more ∙ ap (λ ys. ys ++ texts t (after (Runs first octets) xs) more) x.said
      ∙ ap (λ c. texts t c more) x.goes ∙ texts_end t at why more,
)

-- an assembly that is a unit, or none
pub step_done : (t : OctetTool) (a : Assembler) (first : ℕ) (octets piece : List ℕ) (taken : ℕ) (done : Done) (old new : List ℕ) (r : Result (Unit {0}) Stop) → Stands a limits first (octets ++ take taken piece)
    → Comes limits first (cut limits first octets) piece taken (Some done) → Brought t (unit_brings done (unit_in done.assembly)) old new r
    → StepsOn t a first octets piece taken old new r
step_done t a first octets piece taken done old new r s comes brought = by_brings (unit_brings done (unit_in done.assembly)) refl r brought
  where
    xs : List ℕ
    xs = take taken piece

    here : (b : Brings) → unit_brings done (unit_in done.assembly) ≡ b → Decided t first octets xs b
    here b e = run_decides t first octets xs b comes.run (brings_whole (cut_on limits first (cut limits first octets) xs) done comes.gives ∙ e)

    by_brings : (b : Brings) → unit_brings done (unit_in done.assembly) ≡ b → (q : Result (Unit {0}) Stop) → Brought t b old new q → StepsOn t a first octets piece taken old new q
    by_brings (Gives d u) e (Ok none) w =
        let x = here (Gives d u) e in (
          subst (IsAt a) (sym x.goes) (record { stands = s; sound = subst IsCut (sym (cut_more first octets xs)) (whole_cut (cut_on limits first (cut limits first octets) xs) done comes.gives) }),
          w ∙ ap (λ ys. old ++ ys) (sym x.said),
        )
    by_brings (Gives d u) e (Err (stop.Malformed at' why')) w = absurd w
    by_brings (Gives d u) e (Err stop.NoMemory) w = tt
    by_brings (Breaks at why) e (Err (stop.Malformed at' why')) w =
        let x = ends_course t first octets xs (drop taken piece) piece at why (here (Breaks at why) e) (take-append-drop taken piece) in (
          x.0 ∙ ap (λ n. Ends n why) (sym w.0) ∙ ap (Ends at') (sym w.1),
          w.2 ∙ sym (append-nil old) ∙ ap (λ ys. old ++ ys) (sym x.1),
        )
    by_brings (Breaks at why) e (Ok none) w = absurd w
    by_brings (Breaks at why) e (Err stop.NoMemory) w = tt
    by_brings Nothing e (Ok none) w = absurd w
    by_brings Nothing e (Err (stop.Malformed at' why')) w = absurd w
    by_brings Nothing e (Err stop.NoMemory) w = tt

-- a frame was refused
pub step_refused : (t : OctetTool) (first : ℕ) (octets piece : List ℕ) (fault : FrameFault) (old new : List ℕ) → IsCut (cut limits first octets) → Refused limits first (cut limits first octets) piece fault → new ≡ old
    → (after (Runs first octets) piece ≡ Ends fault.at fault.why) × (new ≡ old ++ texts t (Runs first octets) piece)
step_refused t first octets piece fault old new sound refused same = by_cut (cut limits first octets) refl sound refused
  where
    by_cut : (c : Cutting) → cut limits first octets ≡ c → IsCut c → Refused limits first c piece fault
        → (after (Runs first octets) piece ≡ Ends fault.at fault.why) × (new ≡ old ++ texts t (Runs first octets) piece)
    by_cut (Faults frames at why) e s r = absurd s
    by_cut (Cuts frames rest) e s r =
        let run : Run limits first (cut limits first octets) r.part = subst (λ c. Run limits first c r.part) (sym e) r.refuses.run in
        let x = ends_course t first octets r.part r.more piece fault.at fault.why
        (run_decides t first octets r.part (Breaks fault.at fault.why) run (ap (λ c. brings (cut_on limits first c r.part)) e ∙ ap brings r.refuses.refuses)) (sym r.parts) in
        (x.0, same ∙ sym (append-nil old) ∙ ap (λ ys. old ++ ys) (sym x.1))

-- ---- the calls, wherever the course is

-- a course of frames
pub record AtFrames (a : Assembler) (c : Course) : Type 0 where
  pub first : ℕ
  pub octets : List ℕ
  pub is : c ≡ Runs first octets
  pub took : Took a first octets

pub at_frames : (a : Assembler) (c : Course) → IsAt a c → AtFrames a c
at_frames a (Opens octets) s = absurd s
at_frames a (Runs first octets) s = record { first = first; octets = octets; is = refl; took = s }
at_frames a (Ends at why) s = absurd s

-- ---- steps that follow one another

pub record Going (t : OctetTool) (a : Assembler) (c : Course) (piece rest old new : List ℕ) : Type 0 where
  pub front : List ℕ
  pub parts : piece ≡ front ++ rest
  pub at : IsAt a (after c front)
  pub wrote : new ≡ old ++ texts t c front

pub going_start : (t : OctetTool) (a : Assembler) (c : Course) (piece old : List ℕ) → IsAt a c → Going t a c piece piece old old
going_start t a c piece old s = record { front = []; parts = refl; at = s; wrote = sym (append-nil old) }

pub going_more : (t : OctetTool) (a b : Assembler) (c : Course) (piece rest old mid new : List ℕ) (taken : ℕ) → (g : Going t a c piece rest old mid)
    → IsAt b (after (after c g.front) (take taken rest)) × (new ≡ mid ++ texts t (after c g.front) (take taken rest)) → Going t b c piece (drop taken rest) old new
going_more t a b c piece rest old mid new taken g s = record {
  front = g.front ++ take taken rest;
  parts = g.parts ∙ ap (λ xs. g.front ++ xs) (sym (take-append-drop taken rest)) ∙ sym (append_assoc g.front (take taken rest) (drop taken rest));
  at = subst (IsAt b) (sym (after_parts c g.front (take taken rest))) s.0;
  wrote = s.1 ∙ ap (λ xs. xs ++ texts t (after c g.front) (take taken rest)) g.wrote ∙ append_assoc old (texts t c g.front) (texts t (after c g.front) (take taken rest))
      ∙ ap (λ xs. old ++ xs) (sym (texts_parts t c g.front (take taken rest)));
}

pub going_stops : (t : OctetTool) (a b : Assembler) (c : Course) (piece rest old mid new : List ℕ) (s : Stop) → (g : Going t a c piece rest old mid)
    → Steps t (IsAt b) (after c g.front) rest mid new (Err s) → Takes t (IsAt b) c piece old new (Err s)
going_stops t a b c piece rest old mid new (stop.Malformed at why) g s = (
  ap (after c) g.parts ∙ after_parts c g.front rest ∙ s.0,
  s.1 ∙ ap (λ xs. xs ++ texts t (after c g.front) rest) g.wrote ∙ append_assoc old (texts t c g.front) (texts t (after c g.front) rest)
      ∙ ap (λ xs. old ++ xs) (sym (texts_parts t c g.front rest) ∙ ap (texts t c) (sym g.parts)),
)
going_stops t a b c piece rest old mid new stop.NoMemory g s = tt

pub going_ends : (t : OctetTool) (a : Assembler) (c : Course) (piece rest old new : List ℕ) → (g : Going t a c piece rest old new) → rest ≡ []
    → IsAt a (after c piece) × (new ≡ old ++ texts t c piece)
going_ends t a c piece rest old new g empty =
    let all : piece ≡ g.front = g.parts ∙ ap (λ xs. g.front ++ xs) empty ∙ append-nil g.front in
    (subst (λ xs. IsAt a (after c xs)) (sym all) g.at, g.wrote ∙ ap (λ xs. old ++ texts t c xs) (sym all))

-- ---- the first eight octets

-- fewer than eight
pub opens_few : (t : OctetTool) (before xs : List ℕ) → length before + length xs < 8 → (after (Opens before) xs ≡ Opens (before ++ xs)) × (texts t (Opens before) xs ≡ [])
opens_few t before [] lt = (ap Opens (sym (append-nil before)), refl)
opens_few t before (x ∷ xs) lt =
    let less : ltb (length before + 1) 8 ≡ true = lt-ltb (length before + 1) 8 (omega (arith, lt)) in
    let now : next (Opens before) x ≡ Opens (before ++ x ∷ []) = ap (λ b. cond b (Opens (before ++ x ∷ [])) (opened (before ++ x ∷ []))) less in
    let more = opens_few t (before ++ x ∷ []) xs (omega (arith, lt, length-append before (x ∷ []))) in (
      ap (λ c. after c xs) now ∙ more.0 ∙ ap Opens (append_assoc before (x ∷ []) xs),
      ap (λ b. cond b [] (opened_text t (before ++ x ∷ [])) ++ texts t (next (Opens before) x) xs) less ∙ ap (λ c. texts t c xs) now ∙ more.1,
    )

-- all eight
pub opens_all : (t : OctetTool) (before xs : List ℕ) → 0 < length xs → length before + length xs ≡ 8
    → (after (Opens before) xs ≡ opened (before ++ xs)) × (texts t (Opens before) xs ≡ opened_text t (before ++ xs))
opens_all t before [] some e = absurd (omega arith)
opens_all t before (x ∷ []) some e =
    let whole : ltb (length before + 1) 8 ≡ false = le-ltb (length before + 1) 8 (omega (arith, e)) in (
      ap (λ b. cond b (Opens (before ++ x ∷ [])) (opened (before ++ x ∷ []))) whole,
      append-nil (cond (ltb (length before + 1) 8) [] (opened_text t (before ++ x ∷ []))) ∙ ap (λ b. cond b [] (opened_text t (before ++ x ∷ []))) whole,
    )
opens_all t before (x ∷ y ∷ xs) some e =
    let less : ltb (length before + 1) 8 ≡ true = lt-ltb (length before + 1) 8 (omega (arith, e)) in
    let now : next (Opens before) x ≡ Opens (before ++ x ∷ []) = ap (λ b. cond b (Opens (before ++ x ∷ [])) (opened (before ++ x ∷ []))) less in
    let more = opens_all t (before ++ x ∷ []) (y ∷ xs) (omega arith) (omega (arith, e, length-append before (x ∷ []))) in
    let joined : (before ++ x ∷ []) ++ (y ∷ xs) ≡ before ++ (x ∷ y ∷ xs) = append_assoc before (x ∷ []) (y ∷ xs) in (
      ap (λ c. after c (y ∷ xs)) now ∙ more.0 ∙ ap opened joined,
      ap (λ b. cond b [] (opened_text t (before ++ x ∷ [])) ++ texts t (next (Opens before) x) (y ∷ xs)) less ∙ ap (λ c. texts t c (y ∷ xs)) now ∙ more.1 ∙ ap (opened_text t) joined,
    )

-- eight octets of frames bring nothing
pub few_quiet : (t : OctetTool) (xs : List ℕ) → length xs < 12 → Quiet t 0 [] xs
few_quiet t xs lt = runs_quiet t 0 [] xs (few_octets limits 0 [] xs lt)
