-- What each turn of a run makes of what was read and written before it.
use Rattle.std.proofs.Common.{◌≡◌, ℕ, ◌-◌, ◌<◌, ◌≤◌, ◌^◌, max, List, [], ◌++◌, length, take, Option, None, Some, IfSome, ◌∙◌, ap, sym, subst, refl, arith, append_assoc}
use Rattle.std.proofs.lemmas.List.{length-append, append-nil, take_all}
use Rattle.std.proofs.Math.Seq.{take-append-add}
use Rattle.std.specs.Io.KnownBytes.{Consumes, Appends, IsAtEnd}
use Rattle.std.proofs.KnownBytes.{Consumes-trans, Consumes-nil, Appends-trans, Appends-nil}
use Rattle.octet_reading.specs.declared.why.Why.{Why}
use Rattle.line_runs.specs.Lines.{longest_input}
use Rattle.line_runs.specs.Write.{IsFrontOf}
use Rattle.line_runs.proofs.Scans.{longest_input_is}
use Rattle.octet_tools.specs.declared.tool.OctetTool.{OctetTool}
use Rattle.octet_tools.specs.declared.course.Stage.{Stage}
use Rattle.octet_tools.specs.declared.course.Stage.TheVariants as stage
use Rattle.octet_tools.specs.declared.run.OctetsEnded.{OctetsEnded}
use Rattle.octet_tools.specs.declared.run.OctetsEnded.TheVariants as ended
use Rattle.octet_tools.specs.Course.{Course, Opens, Runs, Ends, after, course, texts, output, fault_of}
use Rattle.octet_tools.specs.Taking.{StandsFor}
use Rattle.octet_tools.specs.Run.{EndsBy, StopsWriting, ReportsTold, Reached, Puts}
use Rattle.octet_tools.proofs.Coursing.{after_parts, texts_parts, after_end, texts_end}

-- nothing was taken yet
pub reached_start : (t : OctetTool) (left held : Option (List ℕ)) (s : Stage) → StandsFor s (Opens []) → Reached t left left held held s (2 ^ 30)
reached_start t left held s stands = record { took = []; consumes = Consumes-nil left; counted = omega arith; stands = stands; wrote = Appends-nil held }

-- a stage stands for no end
standing_on : (s : Stage) (c : Course) → StandsFor s c → fault_of c ≡ None
standing_on (stage.Opening octets) (Opens before) h = refl
standing_on (stage.Opening octets) (Runs first before) h = absurd h
standing_on (stage.Opening octets) (Ends at why) h = absurd h
standing_on (stage.Open a) (Opens before) h = absurd h
standing_on (stage.Open a) (Runs first before) h = refl
standing_on (stage.Open a) (Ends at why) h = absurd h

-- ---- more octets

course_more : (took piece : List ℕ) → course (took ++ piece) ≡ after (course took) piece
course_more took piece = after_parts (Opens []) took piece

output_more : (t : OctetTool) (took piece : List ℕ) → output t (took ++ piece) ≡ output t took ++ texts t (course took) piece
output_more t took piece = texts_parts t (Opens []) took piece

pub reached_more : (t : OctetTool) (left mid remains held now holds : Option (List ℕ)) (s s' : Stage) (room : ℕ) (piece : List ℕ) → (r : Reached t left mid held now s room)
    → Consumes mid remains piece → StandsFor s' (after (course r.took) piece) → Appends now holds (texts t (course r.took) piece) → length piece ≤ room
    → Reached t left remains held holds s' (room - length piece)
reached_more t left mid remains held now holds s s' room piece r c stands w le = record {
  took = r.took ++ piece;
  consumes = Consumes-trans left mid remains r.took piece r.consumes c;
  counted = omega (arith, r.counted, length-append r.took piece, le);
  stands = subst (StandsFor s') (sym (course_more r.took piece)) stands;
  wrote = subst (λ xs. Appends held holds xs) (sym (output_more t r.took piece)) (Appends-trans held now holds (output t r.took) (texts t (course r.took) piece) r.wrote w);
}

-- ---- the whole input

some_all : (left remains : Option (List ℕ)) (took : List ℕ) (P : List ℕ → Type 0) → Consumes left remains took → ((rest : List ℕ) → P (took ++ rest)) → IfSome left P
some_all None remains took P c f = tt
some_all (Some all) None took P c f = absurd c
some_all (Some all) (Some rest) took P c f = subst P (sym c) (f rest)

-- the first 2^30 octets begin with what was taken
limit_parts : (took rest : List ℕ) → length took ≤ 2 ^ 30 → take longest_input (took ++ rest) ≡ took ++ take (longest_input - length took) rest
limit_parts took rest le = ap (λ n. take n (took ++ rest)) (omega (arith, longest_input_is, le)) ∙ take-append-add took rest (longest_input - length took)

front_of : (t : OctetTool) (took rest front text : List ℕ) → length took ≤ 2 ^ 30 → IsFrontOf front (output t took) → IsFrontOf front (output t (take longest_input (took ++ rest)))
front_of t took rest front text le f =
    let more = take (longest_input - length took) rest in (
      f.0 ++ texts t (course took) more,
      ap (output t) (limit_parts took rest le) ∙ output_more t took more ∙ ap (λ xs. xs ++ texts t (course took) more) f.1 ∙ append_assoc front f.0 (texts t (course took) more),
    )

-- ---- ends

-- before anything was written
pub none_written : (t : OctetTool) (left remains held : Option (List ℕ)) → ReportsTold t left remains held held ended.NoMemory
none_written t None remains held = tt
none_written t (Some all) remains held = record { front = []; is_front = (output t (take longest_input all), refl); wrote = Appends-nil held }

-- the input ended
pub ends_well : (t : OctetTool) (left mid remains held now : Option (List ℕ)) (s : Stage) (room : ℕ) → Reached t left mid held now s room → IsAtEnd mid → ReportsTold t left remains held now ended.Ok
ends_well t left mid remains held now s room r at = told left mid r.consumes at
  where
    by_all : (all : List ℕ) → all ≡ r.took → (length all ≤ longest_input) × EndsBy t (take longest_input all) None held now
    by_all all e =
        let short : length all ≤ longest_input = omega (arith, longest_input_is, r.counted, ap length e) in
        let whole : take longest_input all ≡ r.took = take_all longest_input all short ∙ e in
        (short, record { fault_is = ap (λ xs. fault_of (course xs)) whole ∙ standing_on s (course r.took) r.stands; wrote = subst (λ xs. Appends held now (output t xs)) (sym whole) r.wrote })

    told : (l m : Option (List ℕ)) → Consumes l m r.took → IsAtEnd m → ReportsTold t l remains held now ended.Ok
    told None m c e = tt
    told (Some all) None c e = absurd c
    told (Some all) (Some rest) c e = by_all all (c ∙ ap (λ xs. r.took ++ xs) e ∙ append-nil r.took)

-- a read failed
pub ends_failed : (t : OctetTool) (left mid remains held now : Option (List ℕ)) (s : Stage) (room : ℕ) → Reached t left mid held now s room → Consumes mid remains []
    → ReportsTold t left remains held now ended.ReadFault
ends_failed t left mid remains held now s room r c = by_left left (subst (Consumes left remains) (append-nil r.took) (Consumes-trans left mid remains r.took [] r.consumes c))
  where
    by_left : (l : Option (List ℕ)) → Consumes l remains r.took → ReportsTold t l remains held now ended.ReadFault
    by_left None k = tt
    by_left (Some all) k = record { took = r.took; consumes = k; ends = record { fault_is = standing_on s (course r.took) r.stands; wrote = r.wrote } }

-- there are too many octets
pub ends_past : (t : OctetTool) (left mid remains held now : Option (List ℕ)) (s : Stage) (last : List ℕ) → Reached t left mid held now s 0 → Consumes mid remains last → 0 < length last
    → ReportsTold t left remains held now ended.InputTooLong
ends_past t left mid remains held now s last r c some =
    some_all left remains (r.took ++ last) (λ all. (longest_input < length all) × EndsBy t (take longest_input all) None held now) (Consumes-trans left mid remains r.took last r.consumes c) by_rest
  where
    by_rest : (rest : List ℕ) → (longest_input < length ((r.took ++ last) ++ rest)) × EndsBy t (take longest_input ((r.took ++ last) ++ rest)) None held now
    by_rest rest =
        let joined = append_assoc r.took last rest in
        let none : longest_input - length r.took ≡ 0 = omega (arith, longest_input_is, r.counted) in
        let whole : take longest_input ((r.took ++ last) ++ rest) ≡ r.took =
        ap (take longest_input) joined ∙ limit_parts r.took (last ++ rest) (omega (arith, r.counted)) ∙ ap (λ n. r.took ++ take n (last ++ rest)) none ∙ append-nil r.took in (
          omega (arith, longest_input_is, r.counted, some, length-append (r.took ++ last) rest, length-append r.took last),
          record { fault_is = ap (λ xs. fault_of (course xs)) whole ∙ standing_on s (course r.took) r.stands; wrote = subst (λ xs. Appends held now (output t xs)) (sym whole) r.wrote },
        )

-- a fault came within a piece
pub ends_malformed : (t : OctetTool) (left mid remains held now holds : Option (List ℕ)) (s : Stage) (room at : ℕ) (why : Why) (piece : List ℕ) → (r : Reached t left mid held now s room)
    → Consumes mid remains piece → length piece ≤ room → (after (course r.took) piece ≡ Ends at why) × Appends now holds (texts t (course r.took) piece)
    → ReportsTold t left remains held holds (ended.Malformed at why)
ends_malformed t left mid remains held now holds s room at why piece r c le p =
    some_all left remains (r.took ++ piece) (λ all. EndsBy t (take longest_input all) (Some (at, why)) held holds) (Consumes-trans left mid remains r.took piece r.consumes c) by_rest
  where
    by_rest : (rest : List ℕ) → EndsBy t (take longest_input ((r.took ++ piece) ++ rest)) (Some (at, why)) held holds
    by_rest rest =
        let took = r.took ++ piece in
        let more = take (longest_input - length took) rest in
        let short : length took ≤ 2 ^ 30 = omega (arith, r.counted, le, length-append r.took piece) in
        let ends : course took ≡ Ends at why = course_more r.took piece ∙ p.0 in
        let whole = limit_parts took rest short in
        let wrote : Appends held holds (output t took) =
        subst (λ xs. Appends held holds xs) (sym (output_more t r.took piece)) (Appends-trans held now holds (output t r.took) (texts t (course r.took) piece) r.wrote p.1) in
        let same : output t (take longest_input (took ++ rest)) ≡ output t took =
        ap (output t) whole ∙ output_more t took more ∙ ap (λ d. output t took ++ texts t d more) ends ∙ ap (λ xs. output t took ++ xs) (texts_end t at why more) ∙ append-nil (output t took) in
        record {
          fault_is = ap (λ xs. fault_of (course xs)) whole ∙ ap fault_of (course_more took more ∙ ap (λ d. after d more) ends ∙ after_end at why more);
          wrote = subst (λ xs. Appends held holds xs) (sym same) wrote;
        }

-- a front of a piece's text was written
pub ends_stopped : (t : OctetTool) (left mid remains held now holds : Option (List ℕ)) (s : Stage) (room : ℕ) (piece : List ℕ) → (r : Reached t left mid held now s room)
    → Consumes mid remains piece → length piece ≤ room → StopsWriting (texts t (course r.took) piece) now holds
    → IfSome left (λ all. StopsWriting (output t (take longest_input all)) held holds)
ends_stopped t left mid remains held now holds s room piece r c le w =
    some_all left remains (r.took ++ piece) (λ all. StopsWriting (output t (take longest_input all)) held holds) (Consumes-trans left mid remains r.took piece r.consumes c)
    (λ rest. record {
      front = output t r.took ++ w.front;
      is_front = front_of t (r.took ++ piece) rest (output t r.took ++ w.front) [] (omega (arith, r.counted, le, length-append r.took piece))
          (w.is_front.0, output_more t r.took piece ∙ ap (λ xs. output t r.took ++ xs) w.is_front.1 ∙ sym (append_assoc (output t r.took) w.front w.is_front.0));
      wrote = Appends-trans held now holds (output t r.took) w.front r.wrote w.wrote;
    })

-- whatever ended it in a piece
pub ends_in_piece : (t : OctetTool) (left mid remains held now holds : Option (List ℕ)) (s : Stage) (stands : Course → Type 0) (room : ℕ) (piece : List ℕ) (e : OctetsEnded) → (r : Reached t left mid held now s room)
    → Consumes mid remains piece → length piece ≤ room → Puts t stands (course r.took) piece now holds (Some e) → ReportsTold t left remains held holds e
ends_in_piece t left mid remains held now holds s stands room piece (ended.Malformed at why) r c le p = ends_malformed t left mid remains held now holds s room at why piece r c le p
ends_in_piece t left mid remains held now holds s stands room piece ended.WriteFault r c le p = ends_stopped t left mid remains held now holds s room piece r c le p
ends_in_piece t left mid remains held now holds s stands room piece ended.NoMemory r c le p = ends_stopped t left mid remains held now holds s room piece r c le p
ends_in_piece t left mid remains held now holds s stands room piece ended.Ok r c le p = absurd p
ends_in_piece t left mid remains held now holds s stands room piece ended.ReadFault r c le p = absurd p
ends_in_piece t left mid remains held now holds s stands room piece ended.InputTooLong r c le p = absurd p

-- a piece fits where there is room for an octet
pub fits_room : (room count long size : ℕ) → long ≡ count → count ≤ size → size ≤ max room 1 → (room ≡ 0 → ⊥) → long ≤ room
fits_room room count long size e le few some = omega (arith, e, le, few, some)
