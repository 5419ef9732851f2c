-- One octet more, and runs of a payload.
use Rattle.std.proofs.Common.{◌≡◌, ℕ, ◌+◌, ◌<◌, ◌≤◌, eqb, true, cond, List, [], ◌∷◌, ◌++◌, length, ◌∙◌, ap, sym, subst, refl, arith, append_assoc}
use Rattle.amqp_frames.specs.declared.header.FrameHeader.{FrameHeader}
use Rattle.octet_reading.specs.declared.why.Why.{Why}
use Rattle.std.proofs.lemmas.Bool.{lt-ltb, le-ltb, eq-eqb, ne_eqb, and_from, and_parts}
use Rattle.std.proofs.lemmas.List.{length-append, take-append-le}
use Rattle.amqp_frames.specs.Cut.{Frame, Cutting, Cuts, Faults, header_in, header_at, frame_of, frame_fault, checked, grown, place_after, cut_octet, cut_on, is_quiet, all_quiet}
use Rattle.amqp_frames.specs.Stands.{Run}

-- ---- one octet

length_more : (rest : List ℕ) (o : ℕ) → length (rest ++ o ∷ []) ≡ length rest + 1
length_more rest o = length-append rest (o ∷ [])

-- a header goes on
pub octet_short : (limits : ℕ → ℕ) (first : ℕ) (frames : List Frame) (rest : List ℕ) (o : ℕ) → length rest + 1 < 12 → cut_octet limits first (Cuts frames rest) o ≡ Cuts frames (rest ++ o ∷ [])
unfolding cut_octet
octet_short limits first frames rest o lt =
    ap (λ b. cond b (Cuts frames (rest ++ o ∷ [])) (cond (eqb (length (rest ++ o ∷ [])) 12) (checked (frame_fault (limits (place_after first frames)) (place_after first frames) (header_at (rest ++ o ∷ [])) frames) (place_after first frames) frames (rest ++ o ∷ [])) (grown (place_after first frames) frames (rest ++ o ∷ []))))
    (lt-ltb (length (rest ++ o ∷ [])) 12 (omega (arith, length_more rest o)))

-- a header comes whole
pub octet_twelfth : (limits : ℕ → ℕ) (first : ℕ) (frames : List Frame) (rest : List ℕ) (o : ℕ) → length rest + 1 ≡ 12 → cut_octet limits first (Cuts frames rest) o
    ≡ checked (frame_fault (limits (place_after first frames)) (place_after first frames) (header_at (rest ++ o ∷ [])) frames) (place_after first frames) frames (rest ++ o ∷ [])
unfolding cut_octet
octet_twelfth limits first frames rest o e =
    ap (λ b. cond b (Cuts frames (rest ++ o ∷ [])) (cond (eqb (length (rest ++ o ∷ [])) 12) (checked (frame_fault (limits (place_after first frames)) (place_after first frames) (header_at (rest ++ o ∷ [])) frames) (place_after first frames) frames (rest ++ o ∷ [])) (grown (place_after first frames) frames (rest ++ o ∷ []))))
    (le-ltb (length (rest ++ o ∷ [])) 12 (omega (arith, length_more rest o)))
    ∙ ap (λ b. cond b (checked (frame_fault (limits (place_after first frames)) (place_after first frames) (header_at (rest ++ o ∷ [])) frames) (place_after first frames) frames (rest ++ o ∷ [])) (grown (place_after first frames) frames (rest ++ o ∷ [])))
    (eq-eqb (length (rest ++ o ∷ [])) 12 (omega (arith, length_more rest o)))

-- a payload goes on
pub octet_long : (limits : ℕ → ℕ) (first : ℕ) (frames : List Frame) (rest : List ℕ) (o : ℕ) → 12 ≤ length rest → cut_octet limits first (Cuts frames rest) o ≡ grown (place_after first frames) frames (rest ++ o ∷ [])
unfolding cut_octet
octet_long limits first frames rest o le =
    ap (λ b. cond b (Cuts frames (rest ++ o ∷ [])) (cond (eqb (length (rest ++ o ∷ [])) 12) (checked (frame_fault (limits (place_after first frames)) (place_after first frames) (header_at (rest ++ o ∷ [])) frames) (place_after first frames) frames (rest ++ o ∷ [])) (grown (place_after first frames) frames (rest ++ o ∷ []))))
    (le-ltb (length (rest ++ o ∷ [])) 12 (omega (arith, length_more rest o)))
    ∙ ap (λ b. cond b (checked (frame_fault (limits (place_after first frames)) (place_after first frames) (header_at (rest ++ o ∷ [])) frames) (place_after first frames) frames (rest ++ o ∷ [])) (grown (place_after first frames) frames (rest ++ o ∷ [])))
    (ne_eqb (length (rest ++ o ∷ [])) 12 (λ e. omega (arith, length_more rest o)))

-- nothing is taken after a fault
pub faults_stay : (limits : ℕ → ℕ) (first : ℕ) (frames : List Frame) (at : ℕ) (why : Why) (octets : List ℕ) → cut_on limits first (Faults frames at why) octets ≡ Faults frames at why
unfolding cut_octet
faults_stay limits first frames at why [] = refl
faults_stay limits first frames at why (o ∷ octets) = faults_stay limits first frames at why octets

-- ---- quiet

pub quiet_rest : (frames : List Frame) (rest : List ℕ) → 0 < length rest → is_quiet (Cuts frames rest) ≡ true
quiet_rest frames [] lt = absurd (omega arith)
quiet_rest frames (x ∷ xs) lt = refl

pub quiet_more : (limits : ℕ → ℕ) (first : ℕ) (cutting : Cutting) (front : List ℕ) (o : ℕ) → all_quiet limits first cutting front ≡ true
    → is_quiet (cut_on limits first cutting (front ++ o ∷ [])) ≡ true → all_quiet limits first cutting (front ++ o ∷ []) ≡ true
quiet_more limits first cutting [] o before last = and_from (is_quiet (cut_octet limits first cutting o)) true last refl
quiet_more limits first cutting (x ∷ xs) o before last =
    let parts = and_parts (is_quiet (cut_octet limits first cutting x)) (all_quiet limits first (cut_octet limits first cutting x) xs) before in
    and_from (is_quiet (cut_octet limits first cutting x)) (all_quiet limits first (cut_octet limits first cutting x) (xs ++ o ∷ [])) parts.0
    (quiet_more limits first (cut_octet limits first cutting x) xs o parts.1 last)

pub quiet_both : (limits : ℕ → ℕ) (first : ℕ) (cutting : Cutting) (a b : List ℕ) → all_quiet limits first cutting a ≡ true
    → all_quiet limits first (cut_on limits first cutting a) b ≡ true → all_quiet limits first cutting (a ++ b) ≡ true
quiet_both limits first cutting [] b before after = after
quiet_both limits first cutting (x ∷ xs) b before after =
    let parts = and_parts (is_quiet (cut_octet limits first cutting x)) (all_quiet limits first (cut_octet limits first cutting x) xs) before in
    and_from (is_quiet (cut_octet limits first cutting x)) (all_quiet limits first (cut_octet limits first cutting x) (xs ++ b)) parts.0
    (quiet_both limits first (cut_octet limits first cutting x) xs b parts.1 after)

-- a run of one octet
pub run_one : (limits : ℕ → ℕ) (first : ℕ) (cutting : Cutting) (o : ℕ) → Run limits first cutting (o ∷ [])
run_one limits first cutting o = record { front = []; octet = o; parts = refl; before = refl }

-- one octet before a run
pub run_onto : (limits : ℕ → ℕ) (first : ℕ) (cutting : Cutting) (o : ℕ) (octets : List ℕ) → is_quiet (cut_octet limits first cutting o) ≡ true
    → Run limits first (cut_octet limits first cutting o) octets → Run limits first cutting (o ∷ octets)
run_onto limits first cutting o octets quiet r = record {
  front = o ∷ r.front;
  octet = r.octet;
  parts = ap (λ l. o ∷ l) r.parts;
  before = and_from (is_quiet (cut_octet limits first cutting o)) (all_quiet limits first (cut_octet limits first cutting o) r.front) quiet r.before;
}

-- quiet octets before a run
pub run_behind : (limits : ℕ → ℕ) (first : ℕ) (cutting : Cutting) (before octets : List ℕ) → all_quiet limits first cutting before ≡ true
    → Run limits first (cut_on limits first cutting before) octets → Run limits first cutting (before ++ octets)
run_behind limits first cutting [] octets quiet r = r
run_behind limits first cutting (x ∷ xs) octets quiet r =
    let parts = and_parts (is_quiet (cut_octet limits first cutting x)) (all_quiet limits first (cut_octet limits first cutting x) xs) quiet in
    run_onto limits first cutting x (xs ++ octets) parts.0 (run_behind limits first (cut_octet limits first cutting x) xs octets parts.1 r)

-- ---- runs of a payload

pub record Grew (limits : ℕ → ℕ) (first : ℕ) (frames : List Frame) (rest run : List ℕ) : Type 0 where
  pub runs : Run limits first (Cuts frames rest) run
  pub grew : cut_on limits first (Cuts frames rest) run ≡ grown (place_after first frames) frames (rest ++ run)

-- the header stays
pub header_same : (rest more : List ℕ) → 12 ≤ length rest → header_at (rest ++ more) ≡ header_at rest
header_same rest more le = ap header_in (take-append-le 12 rest more le)

-- a payload that isn't whole goes on
grown_open : (at : ℕ) (frames : List Frame) (rest : List ℕ) → (length rest ≡ (header_at rest).size → ⊥) → grown at frames rest ≡ Cuts frames rest
grown_open at frames rest ne = ap (λ b. cond b (Cuts (frame_of at rest ∷ frames) []) (Cuts frames rest)) (ne_eqb (length rest) (header_at rest).size ne)

pub run_grows : (limits : ℕ → ℕ) (first : ℕ) (frames : List Frame) (rest run : List ℕ) → 12 ≤ length rest → 0 < length run → length rest + length run ≤ (header_at rest).size → Grew limits first frames rest run
run_grows limits first frames rest [] long some fits = absurd (omega arith)
run_grows limits first frames rest (o ∷ []) long some fits = record { runs = run_one limits first (Cuts frames rest) o; grew = octet_long limits first frames rest o long }
run_grows limits first frames rest (o ∷ q ∷ run) long some fits =
    let n = length_more rest o in
    let same = header_same rest (o ∷ []) long in
    let now : cut_octet limits first (Cuts frames rest) o ≡ Cuts frames (rest ++ o ∷ []) =
    octet_long limits first frames rest o long
    ∙ grown_open (place_after first frames) frames (rest ++ o ∷ []) (λ e. omega (arith, n, e, fits, ap (λ (h : FrameHeader). h.size) same)) in
    let later = run_grows limits first frames (rest ++ o ∷ []) (q ∷ run) (omega (arith, n)) (omega arith) (omega (arith, n, fits, ap (λ (h : FrameHeader). h.size) same)) in
    let joined : (rest ++ o ∷ []) ++ (q ∷ run) ≡ rest ++ (o ∷ q ∷ run) = append_assoc rest (o ∷ []) (q ∷ run) in
    record {
      runs = run_onto limits first (Cuts frames rest) o (q ∷ run) (ap is_quiet now ∙ quiet_rest frames (rest ++ o ∷ []) (omega (arith, n)))
          (subst (λ c. Run limits first c (q ∷ run)) (sym now) later.runs);
      grew = ap (λ c. cut_on limits first c (q ∷ run)) now ∙ later.grew ∙ ap (grown (place_after first frames) frames) joined;
    }
