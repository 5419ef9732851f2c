-- A change that was noted last is taken back first.
use Rattle.std.proofs.Common.{◌≡◌, ℕ, zero, suc, ◌<◌, eqb, cond, Bool, true, false, List, [], ◌∷◌, ◌++◌, length, take, get_or, ◌∙◌, ap, sym, refl, arith, set, ◌≢◌, subst, Result, Ok, Err, OnOk, OnErr}
use Rattle.std.proofs.Math.ListN.{get_or-append}
use Rattle.std.proofs.Math.Seq.{take-length, take-append_seam, get_or-append_seam}
use Rattle.std.proofs.lemmas.List.{get_or-set_same, get_or-set_other, length-append, length-set}
use Rattle.amqp_frames.specs.declared.lane.Mark.{Mark}
use Rattle.octet_reading.specs.declared.memory.NoMemory.{NoMemory}
use Rattle.amqp_frames.specs.declared.lane.Lane.{Lane}
use Rattle.amqp_frames.specs.declared.touched.Touch.{Touch}
use Rattle.amqp_frames.specs.Lane.{empty_lane, restored, octets_of, pushed}
use Rattle.amqp_frames.specs.Touched.{lane_in, put_back, undone, InReach}

-- lanes that are alike at each number are alike with a change taken back
pub put_back_same : (t : Touch) (f g : ℕ → Lane) → ((i : ℕ) → f i ≡ g i) → (i : ℕ) → put_back t f i ≡ put_back t g i
put_back_same t f g same i = ap (λ x. cond (eqb i t.lane) (restored t.kind t.len t.mark x) x) (same i)

pub undone_same : (log : List Touch) (f g : ℕ → Lane) → ((i : ℕ) → f i ≡ g i) → (i : ℕ) → undone log f i ≡ undone log g i
undone_same [] f g same i = same i
undone_same (t ∷ log) f g same i = put_back_same t (undone log f) (undone log g) (undone_same log f g same) i

-- the newest change is the first that is taken back
pub undone_last : (log : List Touch) (t : Touch) (f : ℕ → Lane) (i : ℕ) → undone (log ++ t ∷ []) f i ≡ undone log (put_back t f) i
undone_last [] t f i = refl
undone_last (s ∷ log) t f i = put_back_same s (undone (log ++ t ∷ []) f) (undone log (put_back t f)) (undone_last log t f) i

-- a change and the note of it leave what is taken back
pub undone_more : (log : List Touch) (t : Touch) (before after : ℕ → Lane) → ((i : ℕ) → put_back t after i ≡ before i) → (i : ℕ) → undone (log ++ t ∷ []) after i ≡ undone log before i
undone_more log t before after back i = undone_last log t after i ∙ undone_same log (put_back t after) before back i

-- a lane that is there is changed, and noted as it was
pub changed_back : (log : List Touch) (lanes : List Lane) (t : Touch) (new : Lane) (before : ℕ → Lane) → t.lane < length lanes → ((i : ℕ) → lane_in lanes i ≡ before i)
    → restored t.kind t.len t.mark new ≡ lane_in lanes t.lane → (i : ℕ) → undone (log ++ t ∷ []) (lane_in (set lanes t.lane new)) i ≡ undone log before i
changed_back log lanes t new before there same back = undone_more log t before (lane_in (set lanes t.lane new)) (λ i. at_number i (eqb i t.lane) refl)
  where
    at_number : (i : ℕ) (b : Bool) → eqb i t.lane ≡ b → put_back t (lane_in (set lanes t.lane new)) i ≡ before i
    at_number i true e =
        let is : i ≡ t.lane = grind (arith, e) in
        ap (λ x. cond x (restored t.kind t.len t.mark (lane_in (set lanes t.lane new) i)) (lane_in (set lanes t.lane new) i)) e
        ∙ ap (λ j. restored t.kind t.len t.mark (lane_in (set lanes t.lane new) j)) is
        ∙ ap (restored t.kind t.len t.mark) (get_or-set_same lanes t.lane new empty_lane there)
        ∙ back ∙ same t.lane ∙ ap before (sym is)
    at_number i false e =
        let other : i ≢ t.lane = λ is. grind (arith, e, is) in
        ap (λ x. cond x (restored t.kind t.len t.mark (lane_in (set lanes t.lane new) i)) (lane_in (set lanes t.lane new) i)) e
        ∙ get_or-set_other lanes t.lane i new empty_lane other ∙ same i

-- a new mark is taken back
pub mark_back : (kind : ℕ) (lane : Lane) (m : Mark) → restored kind (length (octets_of kind lane)) lane.mark (record lane { mark = m }) ≡ lane
mark_back kind lane m = by_kind (eqb kind 2) (eqb kind 3)
  where
    by_kind : (b d : Bool)
        → cond b (record lane { header = take (length (cond b lane.header (cond d lane.body lane.first))) lane.header; mark = lane.mark })
        (cond d (record lane { body = take (length (cond b lane.header (cond d lane.body lane.first))) lane.body; mark = lane.mark })
        (record lane { first = take (length (cond b lane.header (cond d lane.body lane.first))) lane.first; mark = lane.mark })) ≡ lane
    by_kind true d = ap (λ h. record lane { header = h }) (take-length lane.header)
    by_kind false true = ap (λ h. record lane { body = h }) (take-length lane.body)
    by_kind false false = ap (λ h. record lane { first = h }) (take-length lane.first)

-- octets that came are taken back
pub octets_back : (kind : ℕ) (lane : Lane) (octets : List ℕ) → restored kind (length (octets_of kind lane)) lane.mark (pushed kind octets lane) ≡ lane
octets_back kind lane octets = by_kind (eqb kind 2) (eqb kind 3)
  where
    back : Bool → Bool → ℕ → Lane → Lane
    back b d len x = cond b (record x { header = take len x.header; mark = lane.mark }) (cond d (record x { body = take len x.body; mark = lane.mark }) (record x { first = take len x.first; mark = lane.mark }))

    by_kind : (b d : Bool)
        → back b d (length (cond b lane.header (cond d lane.body lane.first)))
        (cond b (record lane { header = lane.header ++ octets }) (cond d (record lane { body = lane.body ++ octets }) (record lane { first = lane.first ++ octets }))) ≡ lane
    by_kind true d = ap (λ h. record lane { header = h }) (take-append_seam lane.header octets)
    by_kind false true = ap (λ h. record lane { body = h }) (take-append_seam lane.body octets)
    by_kind false false = ap (λ h. record lane { first = h }) (take-append_seam lane.first octets)

-- a lane that is there is the one that is found
pub found : (lanes : List Lane) (n : ℕ) (x : Lane) → n < length lanes → x ≡ get_or lanes n x → x ≡ lane_in lanes n
found [] n x lt e = absurd (omega arith)
found (l ∷ lanes) zero x lt e = e
found (l ∷ lanes) (suc n) x lt e = found lanes n x (omega arith) e

-- the newest change, put back in its lane
pub newest_back : (log : List Touch) (t : Touch) (lanes : List Lane) (new x : Lane) → t.lane < length lanes → x ≡ get_or lanes t.lane x → new ≡ restored t.kind t.len t.mark x
    → (i : ℕ) → undone log (lane_in (set lanes t.lane new)) i ≡ undone (log ++ t ∷ []) (lane_in lanes) i
newest_back log t lanes new x there is back i =
    undone_same log (lane_in (set lanes t.lane new)) (put_back t (lane_in lanes)) (λ j. at_number j (eqb j t.lane) refl) i ∙ sym (undone_last log t (lane_in lanes) i)
  where
    at_number : (j : ℕ) (b : Bool) → eqb j t.lane ≡ b → lane_in (set lanes t.lane new) j ≡ put_back t (lane_in lanes) j
    at_number j true e =
        let same : j ≡ t.lane = grind (arith, e) in
        ap (λ n. lane_in (set lanes t.lane new) n) same ∙ get_or-set_same lanes t.lane new empty_lane there ∙ back
        ∙ ap (restored t.kind t.len t.mark) (found lanes t.lane x there is ∙ ap (lane_in lanes) (sym same))
        ∙ sym (ap (λ b. cond b (restored t.kind t.len t.mark (lane_in lanes j)) (lane_in lanes j)) e)
    at_number j false e =
        let other : j ≢ t.lane = λ same. grind (arith, e, same) in
        get_or-set_other lanes t.lane j new empty_lane other ∙ sym (ap (λ b. cond b (restored t.kind t.len t.mark (lane_in lanes j)) (lane_in lanes j)) e)

-- the lanes of a log are there, of all its changes but the last too
pub reach_front : (log : List Touch) (t : Touch) (lanes : List Lane) (new : Lane) → InReach (log ++ t ∷ []) lanes → InReach log (set lanes t.lane new)
reach_front log t lanes new reach = λ k d lt.
    let in_whole : k < length (log ++ t ∷ []) = simp length-append (omega arith) in
    let same : get_or (log ++ t ∷ []) k d ≡ get_or log k d = get_or-append log (t ∷ []) d k lt in
    let low : (get_or log k d).lane < length lanes = subst (λ (x : Touch). x.lane < length lanes) same (reach k d in_whole) in
    simp length-set low

pub reach_last : (log : List Touch) (t : Touch) (lanes : List Lane) → InReach (log ++ t ∷ []) lanes → t.lane < length lanes
reach_last log t lanes reach =
    let at : length log < length (log ++ t ∷ []) = simp length-append (omega arith) in
    subst (λ (x : Touch). x.lane < length lanes) (get_or-append_seam log t [] t) (reach (length log) t at)

-- octets that came, or didn't for want of memory, are taken back
pub push_back : (kind : ℕ) (lane new : Lane) (octets : List ℕ) (r : Result (Unit {0}) NoMemory) → OnOk r (new ≡ pushed kind octets lane) → OnErr r (new ≡ lane)
    → restored kind (length (octets_of kind lane)) lane.mark new ≡ lane
push_back kind lane new octets (Ok done) ok err = ap (restored kind (length (octets_of kind lane)) lane.mark) ok ∙ octets_back kind lane octets
push_back kind lane new octets (Err none) ok err = ap (restored kind (length (octets_of kind lane)) lane.mark) err ∙ mark_back kind lane lane.mark
