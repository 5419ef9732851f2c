-- Lanes stand for the open frames as headers and payloads come, and as frames end.
use Rattle.std.proofs.Common.{◌≡◌, ℕ, zero, suc, ◌+◌, ◌-◌, ◌*◌, ◌^◌, ◌<◌, ◌≤◌, ◌&&◌, ◌||◌, bit_and, min, eqb, ltb, leb, not, Bool, true, false, cond, List, [], ◌∷◌, ◌++◌, length, drop, Option, None, Some, is_none, ◌∙◌, ap, sym, subst, refl, arith, append_assoc}
use Rattle.std.proofs.lemmas.Bool.{eq-eqb, ltb-false, leb-false, eqb-true, and_parts, and_from, not-false}
use Rattle.std.proofs.lemmas.Bool.Decides.{nat_tests}
use Rattle.std.proofs.lemmas.List.{length-append, drop-append-le, append-nil, length-drop}
use Rattle.octet_reading.specs.declared.why.Why.{Why}
use Rattle.octet_reading.specs.declared.why.Why.TheVariants.{BadFlags, TooLarge, TooMuchOpen}
use Rattle.amqp_frames.specs.declared.assembly.Segment.{Segment}
use Rattle.amqp_frames.specs.declared.assembler.Assembler.{Assembler}
use Rattle.amqp_frames.specs.declared.done.Done.{Done}
use Rattle.amqp_frames.specs.declared.header.FrameHeader.{FrameHeader}
use Rattle.amqp_frames.specs.declared.lane.Lane.{Lane}
use Rattle.amqp_frames.specs.declared.lane.Mark.{Mark}
use Rattle.amqp_frames.specs.Cut.{Frame, header_at, frame_of, is_on, open_on, open_size, ends_assembly, newest, payloads_of, payloads_size, payload_of_header, segments_of, place_after, ended_by, in_place, form_fault, size_fault, or_else, fault_beside, frame_fault}
use Rattle.amqp_frames.specs.Frames.{track}
use Rattle.amqp_frames.specs.Lane.{lane_of, mark_of, empty_lane, first_place, lane_segments, marked, pushed}
use Rattle.amqp_frames.specs.Touched.{lane_in, lane_number}
use Rattle.amqp_frames.specs.Stands.{Between, Within, open_with}
use Rattle.amqp_frames.proofs.Octets.{header_same}

-- a lane's number tells its channel and track
pub number_is : (c t : ℕ) (h : FrameHeader) → t ≤ 1 → h.track ≤ 1 → eqb (2 * c + t) (2 * h.channel + h.track) ≡ (eqb h.channel c && eqb h.track t)
number_is c t h low high = grind (arith, nat_tests)

pub track_low : (kind : ℕ) → track kind ≤ 1
track_low kind = elim (eqb kind 0) as (λ b. cond b 0 1 ≤ 1) [ true ↦ omega arith | false ↦ omega arith ]

-- ---- a frame ends

-- and its assembly goes on
pub frame_goes_on : (a b : Assembler) (limits : ℕ → ℕ) (first : ℕ) (frames : List Frame) (rest : List ℕ) → Within a limits first frames rest → a.front.need ≡ 0
    → ends_assembly a.front.header ≡ false → b.fault ≡ a.fault → b.max_frame ≡ a.max_frame → b.partial ≡ a.partial → b.front.need ≡ 0 → b.front.unfinished ≡ a.front.unfinished
    → ((i : ℕ) → lane_in b.lanes.items i ≡ lane_in a.lanes.items i) → b.front.at ≡ a.front.at + a.front.header.size
    → Between b limits first (frame_of a.front.at rest ∷ frames) []
frame_goes_on a b limits first frames rest w whole stays fault max partial need unfinished lanes at =
    let open_ : ends_assembly (header_at rest) ≡ false = ap ends_assembly (sym w.header_is) ∙ stays in
    record {
      faultless = fault ∙ w.faultless;
      at_is = at ∙ ap (λ (h : FrameHeader). a.front.at + h.size) w.header_is;
      short = omega arith;
      partial_is = partial ∙ w.partial_is;
      need_is = need;
      lanes_are = λ c t le. lanes (2 * c + t) ∙ w.lanes_are c t le
          ∙ ap (lane_of t) (sym (ap (λ b. cond (is_on c t (header_at rest)) (cond b [] (frame_of a.front.at rest ∷ open_on c t frames)) (open_on c t frames)) open_));
      unfinished_is = unfinished ∙ w.unfinished_is ∙ ap (λ (h : FrameHeader). open_size frames + payload_of_header h) w.header_is
          ∙ sym (ap (λ b. cond b (open_size frames - payloads_size (open_on (header_at rest).channel (header_at rest).track frames)) (open_size frames + payload_of_header (header_at rest))) open_);
      limit_is = λ p le. w.limit_is p (omega (arith, le, w.long, w.need_is, w.at_is, ap (λ (h : FrameHeader). h.size) w.header_is)) ∙ sym max;
    }

-- the frame's own lane
own_lane : (a : Assembler) (limits : ℕ → ℕ) (first : ℕ) (frames : List Frame) (rest : List ℕ) → Within a limits first frames rest
    → lane_in a.lanes.items (lane_number a.front.header) ≡ lane_of a.front.header.track (frame_of a.front.at rest ∷ open_on (header_at rest).channel (header_at rest).track frames)
own_lane a limits first frames rest w =
    let h = header_at rest in
    let here : is_on h.channel h.track h ≡ true = and_from (eqb h.channel h.channel) (eqb h.track h.track) (eq-eqb h.channel h.channel refl) (eq-eqb h.track h.track refl) in
    let low : a.front.header.track ≤ 1 = subst (λ n. n ≤ 1) (sym w.track_is) (track_low a.front.header.kind) in
    w.lanes_are a.front.header.channel a.front.header.track low
    ∙ ap (λ (g : FrameHeader). lane_of a.front.header.track (open_with a.front.at frames rest g.channel g.track)) w.header_is
    ∙ ap (λ b. lane_of a.front.header.track (cond b (frame_of a.front.at rest ∷ open_on h.channel h.track frames) (open_on h.channel h.track frames))) here

segments_same : (t : ℕ) (frames : List Frame) → t ≤ 1 → lane_segments t (lane_of t frames) ≡ segments_of t frames
segments_same zero frames le = refl
segments_same (suc zero) frames le = refl
segments_same (suc (suc t)) frames le = absurd (omega (arith, le))

-- what is handed out where it ends its assembly
pub done_is : (a : Assembler) (limits : ℕ → ℕ) (first : ℕ) (frames : List Frame) (rest : List ℕ) (assembly : List Segment) (m : Mark) (end : ℕ) → Within a limits first frames rest
    → ends_assembly a.front.header ≡ true → assembly ≡ lane_segments a.front.header.track (lane_in a.lanes.items (lane_number a.front.header))
    → m ≡ (lane_in a.lanes.items (lane_number a.front.header)).mark → end ≡ a.front.at + a.front.header.size
    → Some (record { channel = a.front.header.channel; assembly = assembly; at = m.at; end = end }) ≡ ended_by (frame_of a.front.at rest ∷ frames)
done_is a limits first frames rest assembly m end w closes whole mark at =
    let h = header_at rest in
    let f = frame_of a.front.at rest in
    let opens = f ∷ open_on h.channel h.track frames in
    let closed : ends_assembly h ≡ true = ap ends_assembly (sym w.header_is) ∙ closes in
    let own = own_lane a limits first frames rest w in
    let low : a.front.header.track ≤ 1 = subst (λ n. n ≤ 1) (sym w.track_is) (track_low a.front.header.kind) in
    let channel_is : a.front.header.channel ≡ h.channel = ap (λ (g : FrameHeader). g.channel) w.header_is in
    let segments_are : assembly ≡ segments_of h.track opens =
    whole ∙ ap (lane_segments a.front.header.track) own ∙ segments_same a.front.header.track opens low ∙ ap (λ (g : FrameHeader). segments_of g.track opens) w.header_is in
    let place_is : m.at ≡ first_place opens = ap (λ (x : Mark). x.at) mark ∙ ap (λ (l : Lane). l.mark.at) own in
    let end_is : end ≡ a.front.at + h.size = at ∙ ap (λ (g : FrameHeader). a.front.at + g.size) w.header_is in
    let is : ◌≡◌ {A = Done} (record { channel = a.front.header.channel; assembly = assembly; at = m.at; end = end })
    (record { channel = h.channel; assembly = segments_of h.track opens; at = first_place opens; end = a.front.at + h.size }) =
    ap (λ n. record { channel = n; assembly = assembly; at = m.at; end = end }) channel_is
    ∙ ap (λ s. record { channel = h.channel; assembly = s; at = m.at; end = end }) segments_are
    ∙ ap (λ n. record { channel = h.channel; assembly = segments_of h.track opens; at = n; end = end }) place_is
    ∙ ap (λ n. record { channel = h.channel; assembly = segments_of h.track opens; at = first_place opens; end = n }) end_is in
    ap Some is ∙ sym (ap (λ b. cond b (Some (record { channel = h.channel; assembly = segments_of h.track opens; at = first_place opens; end = a.front.at + h.size })) None) closed)

-- and its lane is empty then
pub assembly_ends : (a b : Assembler) (limits : ℕ → ℕ) (first : ℕ) (frames : List Frame) (rest : List ℕ) (m : Mark) → Within a limits first frames rest → a.front.need ≡ 0
    → ends_assembly a.front.header ≡ true → b.fault ≡ a.fault → b.max_frame ≡ a.max_frame → b.partial ≡ a.partial → b.front.need ≡ 0
    → m ≡ (lane_in a.lanes.items (lane_number a.front.header)).mark → b.front.unfinished ≡ a.front.unfinished - m.size
    → ((i : ℕ) → lane_in b.lanes.items i ≡ cond (eqb i (lane_number a.front.header)) empty_lane (lane_in a.lanes.items i)) → b.front.at ≡ a.front.at + a.front.header.size
    → Between b limits first (frame_of a.front.at rest ∷ frames) []
assembly_ends a b limits first frames rest m w whole closes fault max partial need mark unfinished lanes at =
    let h = header_at rest in
    let f = frame_of a.front.at rest in
    let closed : ends_assembly h ≡ true = ap ends_assembly (sym w.header_is) ∙ closes in
    let low : a.front.header.track ≤ 1 = subst (λ n. n ≤ 1) (sym w.track_is) (track_low a.front.header.kind) in
    let size_is : m.size ≡ payloads_size (open_on h.channel h.track frames) + payload_of_header h =
    ap (λ (x : Mark). x.size) mark ∙ ap (λ (l : Lane). l.mark.size) (own_lane a limits first frames rest w) in
    record {
      faultless = fault ∙ w.faultless;
      at_is = at ∙ ap (λ (g : FrameHeader). a.front.at + g.size) w.header_is;
      short = omega arith;
      partial_is = partial ∙ w.partial_is;
      need_is = need;
      lanes_are = λ c t le.
          lanes (2 * c + t)
          ∙ ap (λ b. cond b empty_lane (lane_in a.lanes.items (2 * c + t))) (number_is c t a.front.header le low ∙ ap (is_on c t) w.header_is)
          ∙ ap (λ l. cond (is_on c t h) empty_lane l) (w.lanes_are c t le)
          ∙ by_test (is_on c t h) t f (open_on c t frames)
          ∙ ap (lane_of t) (sym (ap (λ b. cond (is_on c t h) (cond b [] (f ∷ open_on c t frames)) (open_on c t frames)) closed));
      unfinished_is =
          let sum : a.front.unfinished ≡ open_size frames + payload_of_header h = w.unfinished_is ∙ ap (λ (g : FrameHeader). open_size frames + payload_of_header g) w.header_is in
          let less : b.front.unfinished ≡ open_size frames - payloads_size (open_on h.channel h.track frames) = omega (arith, unfinished, size_is, sum) in
          less ∙ sym (ap (λ b. cond b (open_size frames - payloads_size (open_on h.channel h.track frames)) (open_size frames + payload_of_header h)) closed);
      limit_is = λ p le. w.limit_is p (omega (arith, le, w.long, w.need_is, w.at_is, ap (λ (g : FrameHeader). g.size) w.header_is)) ∙ sym max;
    }
  where
    by_test : (b : Bool) (t : ℕ) (f : Frame) (opens : List Frame) → cond b empty_lane (lane_of t (cond b (f ∷ opens) opens)) ≡ lane_of t (cond b [] opens)
    by_test true t f opens = refl
    by_test false t f opens = refl

-- ---- a frame begins

-- what a header that passed says
pub record Formed (at : ℕ) (h : FrameHeader) : Type 0 where
  pub near : at < 2 ^ 62
  pub low : 12 ≤ h.size
  pub kind_low : h.kind ≤ 3
  pub track_is : h.track ≡ track h.kind
  pub channel_low : h.channel ≤ 63

none_parts : (b : Bool) (why : Why) (other : Option Why) → cond b (Some why) other ≡ None → (b ≡ false) × (other ≡ None)
none_parts true why other e = absurd (cc e)
none_parts false why other e = (refl, e)

pub formed : (max at : ℕ) (h : FrameHeader) → form_fault max at h ≡ None → Formed at h
formed max at h e =
    let a = none_parts (leb (2 ^ 62) at) _ _ e in
    let b = none_parts (ltb h.size 12 || ltb max h.size) _ _ a.1 in
    let c = none_parts (not (eqb (bit_and h.flags 192) 0)) _ _ b.1 in
    let d = none_parts (ltb 3 h.kind) _ _ c.1 in
    let t = none_parts (not (eqb h.track (track h.kind))) _ _ d.1 in
    let k = none_parts (ltb 63 h.channel) _ _ t.1 in
    record {
      near = leb-false (2 ^ 62) at a.0;
      low = ltb-false h.size 12 (or_none (ltb h.size 12) (ltb max h.size) b.0);
      kind_low = ltb-false 3 h.kind d.0;
      track_is = eqb-true h.track (track h.kind) (not-false (eqb h.track (track h.kind)) t.0);
      channel_low = ltb-false 63 h.channel k.0;
    }
  where
    or_none : (x y : Bool) → (x || y) ≡ false → x ≡ false
    or_none true y e = absurd (cc e)
    or_none false y e = refl

or_else_parts : (a b : Option Why) → or_else a b ≡ None → (a ≡ None) × (b ≡ None)
or_else_parts None b e = (refl, e)
or_else_parts (Some why) b e = absurd (cc e)

-- a payload that fits beside those of its assembly and of all open ones
sized : (b : Bool) (payload assembled open_octets : ℕ) → cond b (size_fault payload assembled open_octets) (Some BadFlags) ≡ None → (assembled + payload ≤ 16777216) × (open_octets + payload ≤ 33554432)
sized true payload assembled open_octets e =
    let x = none_parts (ltb 16777216 (assembled + payload)) TooLarge _ e in
    let y = none_parts (ltb 33554432 (open_octets + payload)) TooMuchOpen _ x.1 in
    (ltb-false 16777216 (assembled + payload) x.0, ltb-false 33554432 (open_octets + payload) y.0)
sized false payload assembled open_octets e = absurd (cc e)

-- what a frame that passed says
pub record Passed (at : ℕ) (h : FrameHeader) (frames : List Frame) : Type 0 where
  pub form : Formed at h
  pub assembly_fits : payloads_size (open_on h.channel h.track frames) + payload_of_header h ≤ 16777216
  pub open_fits : open_size frames + payload_of_header h ≤ 33554432

pub fits_of : (max at : ℕ) (h : FrameHeader) (frames : List Frame) → frame_fault max at h frames ≡ None → Passed at h frames
fits_of max at h frames none =
    let parts = or_else_parts (form_fault max at h) _ none in
    let fits = sized (in_place (newest (open_on h.channel h.track frames)) h) (payload_of_header h) (payloads_size (open_on h.channel h.track frames)) (open_size frames) parts.1 in
    record { form = formed max at h parts.0; assembly_fits = fits.0; open_fits = fits.1 }

-- the code's test is that of the definitions
pub fault_is : (a : Assembler) (limits : ℕ → ℕ) (first : ℕ) (frames : List Frame) (rest : List ℕ) (h : FrameHeader) → Between a limits first frames rest
    → fault_beside a.max_frame a.front.at h (lane_in a.lanes.items (lane_number h)).mark.last (lane_in a.lanes.items (lane_number h)).mark.size a.front.unfinished
    ≡ frame_fault (limits (place_after first frames)) (place_after first frames) h frames
fault_is a limits first frames rest h s =
    ap (λ n. fault_beside a.max_frame n h (lane_in a.lanes.items (lane_number h)).mark.last (lane_in a.lanes.items (lane_number h)).mark.size a.front.unfinished) s.at_is
    ∙ ap (λ n. fault_beside n (place_after first frames) h (lane_in a.lanes.items (lane_number h)).mark.last (lane_in a.lanes.items (lane_number h)).mark.size a.front.unfinished) (sym (s.limit_is (place_after first frames) (omega arith)))
    ∙ ap (λ n. fault_beside (limits (place_after first frames)) (place_after first frames) h (lane_in a.lanes.items (lane_number h)).mark.last (lane_in a.lanes.items (lane_number h)).mark.size n) s.unfinished_is
    ∙ by_form (form_fault (limits (place_after first frames)) (place_after first frames) h) refl
  where
    beside : Mark → Option Why
    beside m = cond (in_place m.last h) (size_fault (payload_of_header h) m.size (open_size frames)) (Some BadFlags)

    by_form : (o : Option Why) → form_fault (limits (place_after first frames)) (place_after first frames) h ≡ o
        → or_else (form_fault (limits (place_after first frames)) (place_after first frames) h) (beside (lane_in a.lanes.items (lane_number h)).mark)
        ≡ or_else (form_fault (limits (place_after first frames)) (place_after first frames) h) (beside (mark_of (open_on h.channel h.track frames)))
    by_form None e =
        let low : h.track ≤ 1 = subst (λ n. n ≤ 1) (sym (formed (limits (place_after first frames)) (place_after first frames) h e).track_is) (track_low h.kind) in
        ap (λ (l : Lane). or_else (form_fault (limits (place_after first frames)) (place_after first frames) h) (beside l.mark)) (s.lanes_are h.channel h.track low)
    by_form (Some why) e =
        ap (λ o. or_else o (beside (lane_in a.lanes.items (lane_number h)).mark)) e ∙ sym (ap (λ o. or_else o (beside (mark_of (open_on h.channel h.track frames)))) e)

-- a frame without its payload changes the mark alone
begun_lane : (t : ℕ) (frames : List Frame) (f : Frame) → f.payload ≡ [] → payloads_size frames + payload_of_header f.header ≤ 16777216
    → ◌≡◌ {A = Lane} (record (lane_of t frames) { mark = marked (mark_of frames) f.header f.at }) (lane_of t (f ∷ frames))
begun_lane t frames f none small =
    let size_is : min (payloads_size frames + payload_of_header f.header) (2 ^ 32 - 1) ≡ payloads_size frames + payload_of_header f.header = omega (arith, small) in
    ap (λ n. record (lane_of t frames) { mark = record (marked (mark_of frames) f.header f.at) { size = n } }) size_is
    ∙ ap (λ n. record (lane_of t frames) { mark = record (mark_of (f ∷ frames)) { at = n } }) (place frames)
    ∙ ap (λ x. record (lane_of t (f ∷ frames)) { first = x; header = payloads_of 2 frames; body = payloads_of 3 frames }) (more t)
    ∙ ap (λ x. record (lane_of t (f ∷ frames)) { header = x; body = payloads_of 3 frames }) (more 2)
    ∙ ap (λ x. record (lane_of t (f ∷ frames)) { body = x }) (more 3)
  where
    by_test : (b : Bool) (xs : List ℕ) → xs ++ cond b [] [] ≡ xs
    by_test true xs = append-nil xs
    by_test false xs = append-nil xs

    place : (fs : List Frame) → cond (is_none (newest fs)) f.at (first_place fs) ≡ first_place (f ∷ fs)
    place [] = refl
    place (g ∷ gs) = refl

    more : (k : ℕ) → payloads_of k frames ≡ payloads_of k frames ++ cond (eqb f.header.kind k) f.payload []
    more k = sym (ap (λ p. payloads_of k frames ++ cond (eqb f.header.kind k) p []) none ∙ by_test (eqb f.header.kind k) (payloads_of k frames))

-- in the lane of its channel and track
begun_at : (frames : List Frame) (f : Frame) (c t : ℕ) → f.payload ≡ [] → payloads_size (open_on f.header.channel f.header.track frames) + payload_of_header f.header ≤ 16777216
    → cond (is_on c t f.header) (record (lane_of t (open_on c t frames)) { mark = marked (mark_of (open_on c t frames)) f.header f.at }) (lane_of t (open_on c t frames))
    ≡ lane_of t (cond (is_on c t f.header) (f ∷ open_on c t frames) (open_on c t frames))
begun_at frames f c t none small = by_test (is_on c t f.header) refl
  where
    by_test : (b : Bool) → is_on c t f.header ≡ b
        → cond b (record (lane_of t (open_on c t frames)) { mark = marked (mark_of (open_on c t frames)) f.header f.at }) (lane_of t (open_on c t frames))
        ≡ lane_of t (cond b (f ∷ open_on c t frames) (open_on c t frames))
    by_test true e =
        let parts = and_parts (eqb f.header.channel c) (eqb f.header.track t) e in
        begun_lane t (open_on c t frames) f none
        (subst (λ n. payloads_size (open_on n t frames) + payload_of_header f.header ≤ 16777216) (eqb-true f.header.channel c parts.0)
        (subst (λ n. payloads_size (open_on f.header.channel n frames) + payload_of_header f.header ≤ 16777216) (eqb-true f.header.track t parts.1) small))
    by_test false e = refl

pub frame_begins : (a b : Assembler) (limits : ℕ → ℕ) (first : ℕ) (frames : List Frame) (rest : List ℕ) (h : FrameHeader) → Between a limits first frames [] → length rest ≡ 12 → h ≡ header_at rest
    → None ≡ frame_fault (limits (place_after first frames)) (place_after first frames) h frames → h.size < 2 ^ 16
    → b.fault ≡ a.fault → b.max_frame ≡ a.max_frame → b.partial ≡ a.partial → b.front.at ≡ a.front.at → b.front.header ≡ h → b.front.need ≡ payload_of_header h
    → b.front.unfinished ≡ min (a.front.unfinished + payload_of_header h) (2 ^ 32 - 1)
    → ((i : ℕ) → lane_in b.lanes.items i ≡ cond (eqb i (lane_number h)) (record (lane_in a.lanes.items i) { mark = marked (lane_in a.lanes.items i).mark h a.front.at }) (lane_in a.lanes.items i))
    → Within b limits first frames rest
frame_begins a b limits first frames rest h s twelve is none small fault max partial at header need unfinished lanes =
    let place = place_after first frames in
    let passed = fits_of (limits place) place h frames (sym none) in
    let form = passed.form in
    let low : h.track ≤ 1 = subst (λ n. n ≤ 1) (sym form.track_is) (track_low h.kind) in
    let f = frame_of b.front.at rest in
    let empty : f.payload ≡ [] = none_left rest twelve in
    let head_is : b.front.header ≡ header_at rest = header ∙ is in
    record {
      faultless = fault ∙ s.faultless;
      at_is = at ∙ s.at_is;
      near = omega (arith, form.near, at, s.at_is);
      long = omega (arith, twelve);
      partial_is = partial ∙ s.partial_is;
      header_is = head_is;
      kind_low = subst (λ (g : FrameHeader). g.kind ≤ 3) (sym header) form.kind_low;
      track_is = subst (λ (g : FrameHeader). g.track ≡ track g.kind) (sym header) form.track_is;
      size_low = subst (λ (g : FrameHeader). g.size < 2 ^ 16) (sym header) small;
      need_is = omega (arith, need, twelve, form.low, ap (λ (g : FrameHeader). g.size) header);
      lanes_are = λ c t le.
          lanes (2 * c + t)
          ∙ ap (λ b'. cond b' (record (lane_in a.lanes.items (2 * c + t)) { mark = marked (lane_in a.lanes.items (2 * c + t)).mark h a.front.at }) (lane_in a.lanes.items (2 * c + t))) (number_is c t h le low ∙ ap (is_on c t) is)
          ∙ ap (λ (l : Lane). cond (is_on c t (header_at rest)) (record l { mark = marked l.mark h a.front.at }) l) (s.lanes_are c t le)
          ∙ ap (λ (g : FrameHeader). cond (is_on c t (header_at rest)) (record (lane_of t (open_on c t frames)) { mark = marked (mark_of (open_on c t frames)) g a.front.at }) (lane_of t (open_on c t frames))) is
          ∙ ap (λ n. cond (is_on c t (header_at rest)) (record (lane_of t (open_on c t frames)) { mark = marked (mark_of (open_on c t frames)) (header_at rest) n }) (lane_of t (open_on c t frames))) (sym at)
          ∙ begun_at frames f c t empty (subst (λ (g : FrameHeader). payloads_size (open_on g.channel g.track frames) + payload_of_header g ≤ 16777216) is passed.assembly_fits);
      unfinished_is = omega (arith, unfinished, passed.open_fits, s.unfinished_is, ap payload_of_header header);
      limit_is = λ p lt. s.limit_is p (omega (arith, lt)) ∙ sym max;
    }
  where
    no_length : (xs : List ℕ) → length xs ≡ 0 → xs ≡ []
    no_length [] e = refl
    no_length (x ∷ xs) e = absurd (omega arith)

    none_left : (xs : List ℕ) → length xs ≡ 12 → drop 12 xs ≡ []
    none_left xs e = no_length (drop 12 xs) (omega (arith, length-drop 12 xs, e))

-- ---- a payload goes on

-- octets that come to a segment of this type
parts_pushed : (k : ℕ) (xs ys zs p run : List ℕ) (m : Mark) → k ≤ 3
    → ◌≡◌ {A = Lane} (pushed k run (record { first = xs ++ cond (eqb k (track k)) p []; header = ys ++ cond (eqb k 2) p []; body = zs ++ cond (eqb k 3) p []; mark = m }))
    (record { first = xs ++ cond (eqb k (track k)) (p ++ run) []; header = ys ++ cond (eqb k 2) (p ++ run) []; body = zs ++ cond (eqb k 3) (p ++ run) []; mark = m })
parts_pushed zero xs ys zs p run m le = ap (λ x. record { first = x; header = ys ++ []; body = zs ++ []; mark = m }) (append_assoc xs p run)
parts_pushed (suc zero) xs ys zs p run m le = ap (λ x. record { first = x; header = ys ++ []; body = zs ++ []; mark = m }) (append_assoc xs p run)
parts_pushed (suc (suc zero)) xs ys zs p run m le = ap (λ x. record { first = xs ++ []; header = x; body = zs ++ []; mark = m }) (append_assoc ys p run)
parts_pushed (suc (suc (suc zero))) xs ys zs p run m le = ap (λ x. record { first = xs ++ []; header = ys ++ []; body = x; mark = m }) (append_assoc zs p run)
parts_pushed (suc (suc (suc (suc k)))) xs ys zs p run m le = absurd (omega (arith, le))

pushed_lane : (t at : ℕ) (h : FrameHeader) (opens : List Frame) (p run : List ℕ) → h.kind ≤ 3 → t ≡ track h.kind
    → pushed h.kind run (lane_of t (record { header = h; payload = p; at = at } ∷ opens)) ≡ lane_of t (record { header = h; payload = p ++ run; at = at } ∷ opens)
pushed_lane t at h opens p run low is =
    ap (λ n. pushed h.kind run (lane_of n (record { header = h; payload = p; at = at } ∷ opens))) is
    ∙ parts_pushed h.kind (payloads_of (track h.kind) opens) (payloads_of 2 opens) (payloads_of 3 opens) p run (mark_of (record { header = h; payload = p; at = at } ∷ opens)) low
    ∙ sym (ap (λ n. lane_of n (record { header = h; payload = p ++ run; at = at } ∷ opens)) is)

-- in the lane of its channel and track
grown_at : (frames : List Frame) (f : Frame) (c t : ℕ) (run : List ℕ) → f.header.kind ≤ 3 → f.header.track ≡ track f.header.kind
    → cond (is_on c t f.header) (pushed f.header.kind run (lane_of t (cond (is_on c t f.header) (f ∷ open_on c t frames) (open_on c t frames)))) (lane_of t (cond (is_on c t f.header) (f ∷ open_on c t frames) (open_on c t frames)))
    ≡ lane_of t (cond (is_on c t f.header) (record f { payload = f.payload ++ run } ∷ open_on c t frames) (open_on c t frames))
grown_at frames f c t run low is = by_test (is_on c t f.header) refl
  where
    by_test : (b : Bool) → is_on c t f.header ≡ b
        → cond b (pushed f.header.kind run (lane_of t (cond b (f ∷ open_on c t frames) (open_on c t frames)))) (lane_of t (cond b (f ∷ open_on c t frames) (open_on c t frames)))
        ≡ lane_of t (cond b (record f { payload = f.payload ++ run } ∷ open_on c t frames) (open_on c t frames))
    by_test true e =
        let parts = and_parts (eqb f.header.channel c) (eqb f.header.track t) e in
        pushed_lane t f.at f.header (open_on c t frames) f.payload run low (sym (eqb-true f.header.track t parts.1) ∙ is)
    by_test false e = refl

pub run_comes : (a b : Assembler) (limits : ℕ → ℕ) (first : ℕ) (frames : List Frame) (rest run : List ℕ) → Within a limits first frames rest → length run ≤ a.front.need
    → b.fault ≡ a.fault → b.max_frame ≡ a.max_frame → b.partial ≡ a.partial → b.front.at ≡ a.front.at → b.front.header ≡ a.front.header → b.front.need ≡ a.front.need - length run
    → b.front.unfinished ≡ a.front.unfinished
    → ((i : ℕ) → lane_in b.lanes.items i ≡ cond (eqb i (lane_number a.front.header)) (pushed a.front.header.kind run (lane_in a.lanes.items i)) (lane_in a.lanes.items i))
    → Within b limits first frames (rest ++ run)
run_comes a b limits first frames rest run w fits fault max partial at header need unfinished lanes =
    let same = header_same rest run w.long in
    let low : a.front.header.track ≤ 1 = subst (λ n. n ≤ 1) (sym w.track_is) (track_low a.front.header.kind) in
    let n = length-append rest run in
    let f = frame_of a.front.at rest in
    record {
      faultless = fault ∙ w.faultless;
      at_is = at ∙ w.at_is;
      near = omega (arith, w.near, at);
      long = omega (arith, w.long, n);
      partial_is = partial ∙ w.partial_is;
      header_is = header ∙ w.header_is ∙ sym same;
      kind_low = subst (λ (g : FrameHeader). g.kind ≤ 3) (sym header) w.kind_low;
      track_is = subst (λ (g : FrameHeader). g.track ≡ track g.kind) (sym header) w.track_is;
      size_low = subst (λ (g : FrameHeader). g.size < 2 ^ 16) (sym header) w.size_low;
      need_is = omega (arith, need, fits, n, w.need_is, ap (λ (g : FrameHeader). g.size) header);
      lanes_are = λ c t le.
          lanes (2 * c + t)
          ∙ ap (λ b'. cond b' (pushed a.front.header.kind run (lane_in a.lanes.items (2 * c + t))) (lane_in a.lanes.items (2 * c + t))) (number_is c t a.front.header le low ∙ ap (is_on c t) w.header_is)
          ∙ ap (λ l. cond (is_on c t (header_at rest)) (pushed a.front.header.kind run l) l) (w.lanes_are c t le)
          ∙ ap (λ k. cond (is_on c t (header_at rest)) (pushed k run (lane_of t (open_with a.front.at frames rest c t))) (lane_of t (open_with a.front.at frames rest c t))) (ap (λ (g : FrameHeader). g.kind) w.header_is)
          ∙ grown_at frames f c t run (subst (λ (g : FrameHeader). g.kind ≤ 3) w.header_is w.kind_low) (subst (λ (g : FrameHeader). g.track ≡ track g.kind) w.header_is w.track_is)
          ∙ ap (λ p. lane_of t (cond (is_on c t (header_at rest)) (record f { payload = p } ∷ open_on c t frames) (open_on c t frames))) (sym (drop-append-le 12 rest run w.long))
          ∙ ap (λ (g : FrameHeader). lane_of t (cond (is_on c t g) (record { header = g; payload = drop 12 (rest ++ run); at = a.front.at } ∷ open_on c t frames) (open_on c t frames))) (sym same)
          ∙ ap (λ m. lane_of t (open_with m frames (rest ++ run) c t)) (sym at);
      unfinished_is = unfinished ∙ w.unfinished_is ∙ ap (λ (g : FrameHeader). open_size frames + payload_of_header g) (sym header);
      limit_is = λ p lt. w.limit_is p lt ∙ sym max;
    }
