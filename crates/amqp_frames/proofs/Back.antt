-- What was laid in frames is cut out of them again, frame by frame and segment by segment.
use Rattle.std.proofs.Common.{◌≡◌, ℕ, zero, suc, ◌+◌, ◌-◌, ◌*◌, ◌^◌, ◌<◌, ◌≤◌, ◌&&◌, ◌||◌, eqb, ltb, leb, bit_and, not, Bool, true, false, cond, List, [], ◌∷◌, ◌++◌, length, take, drop, Option, None, Some, is_none, inl, inr, ◌∙◌, ap, sym, subst, refl, arith, append_assoc}
use Rattle.std.specs.Int.{w16, to_be_bytes, from_be_bytes}
use Rattle.std.proofs.lemmas.Bool.{eq-eqb, ne_eqb, eqb-true, ltb-true, leb-true, lt-ltb, le-ltb, lt-leb, le-leb, and_parts, and_from, cond_both, cases_lt, cases_eq, or_from, or_left, or_right}
use Rattle.std.proofs.lemmas.List.{length-append, append-nil, take-append-drop, length-take-le, length-drop}
use Rattle.std.proofs.lemmas.List.Sums.{fold-append}
use Rattle.std.proofs.lemmas.Nat.{from_be_bytes-to_be_bytes_2}
use Rattle.octet_reading.specs.declared.why.Why.{Why}
use Rattle.octet_reading.specs.declared.why.Why.TheVariants.{TooFar, BadSize, BadFlags, BadType, BadTrack, TooManyChannels, TooLarge, TooMuchOpen}
use Rattle.amqp_frames.specs.declared.assembly.Segment.{Segment}
use Rattle.amqp_frames.specs.declared.done.Done.{Done}
use Rattle.amqp_frames.specs.declared.header.FrameHeader.{FrameHeader}
use Rattle.amqp_frames.specs.Assembly.{IsPlaced, is_placed, is_alone, follow}
use Rattle.amqp_frames.specs.Back.{octets_in, track_of, MayCome, ComesBack}
use Rattle.amqp_frames.specs.Cut.{Frame, Cutting, Cuts, Faults, header_in, header_at, frame_of, is_set, is_on, open_on, open_size, ends_assembly, is_last_frame, newest, oldest_from, payloads_of, payloads_size, has_kind, payload_of_header, segments_of, segment_of, place_after, frame_fault, form_fault, in_place, size_fault, or_else, checked, grown, cut_octet, cut_on, ended_by, whole, is_quiet, all_quiet}
use Rattle.amqp_frames.specs.Frames.{track, frame, frames_from, laid_segment, last_mark, laid_segments, laid}
use Rattle.amqp_frames.specs.Stands.{Run, Gives}
use Rattle.amqp_frames.proofs.Laying.{last_step, mid_step}
use Rattle.amqp_frames.proofs.Octets.{octet_short, octet_twelfth, run_grows, run_behind, quiet_rest, quiet_more, quiet_both}

-- ---- a header

-- flags by their four bits
flags_of : Bool → Bool → Bool → Bool → ℕ
flags_of b8 b4 b2 b1 = cond b8 8 0 + cond b4 4 0 + cond b2 2 0 + cond b1 1 0

record Bits (b8 b4 b2 b1 : Bool) : Type 0 where
  pub format : is_set (flags_of b8 b4 b2 b1) 192 ≡ false
  pub segment : is_set (flags_of b8 b4 b2 b1) 8 ≡ b8
  pub ends : is_set (flags_of b8 b4 b2 b1) 4 ≡ b4
  pub begins : is_set (flags_of b8 b4 b2 b1) 2 ≡ b2
  pub last : is_set (flags_of b8 b4 b2 b1) 1 ≡ b1
  pub same : bit_and (flags_of b8 b4 b2 b1) 12 ≡ cond b8 8 0 + cond b4 4 0

bits : (b8 b4 b2 b1 : Bool) → Bits b8 b4 b2 b1
unfolding flags_of
bits true true true true = record { format = refl; segment = refl; ends = refl; begins = refl; last = refl; same = refl }
bits true true true false = record { format = refl; segment = refl; ends = refl; begins = refl; last = refl; same = refl }
bits true true false true = record { format = refl; segment = refl; ends = refl; begins = refl; last = refl; same = refl }
bits true true false false = record { format = refl; segment = refl; ends = refl; begins = refl; last = refl; same = refl }
bits true false true true = record { format = refl; segment = refl; ends = refl; begins = refl; last = refl; same = refl }
bits true false true false = record { format = refl; segment = refl; ends = refl; begins = refl; last = refl; same = refl }
bits true false false true = record { format = refl; segment = refl; ends = refl; begins = refl; last = refl; same = refl }
bits true false false false = record { format = refl; segment = refl; ends = refl; begins = refl; last = refl; same = refl }
bits false true true true = record { format = refl; segment = refl; ends = refl; begins = refl; last = refl; same = refl }
bits false true true false = record { format = refl; segment = refl; ends = refl; begins = refl; last = refl; same = refl }
bits false true false true = record { format = refl; segment = refl; ends = refl; begins = refl; last = refl; same = refl }
bits false true false false = record { format = refl; segment = refl; ends = refl; begins = refl; last = refl; same = refl }
bits false false true true = record { format = refl; segment = refl; ends = refl; begins = refl; last = refl; same = refl }
bits false false true false = record { format = refl; segment = refl; ends = refl; begins = refl; last = refl; same = refl }
bits false false false true = record { format = refl; segment = refl; ends = refl; begins = refl; last = refl; same = refl }
bits false false false false = record { format = refl; segment = refl; ends = refl; begins = refl; last = refl; same = refl }

head : ℕ → ℕ → ℕ → ℕ → FrameHeader
head channel flags kind n = record { flags = flags; kind = kind; size = n + 12; track = track kind; channel = channel }

front_octets : ℕ → ℕ → ℕ → ℕ → List ℕ
front_octets flags kind channel n = flags ∷ kind ∷ (to_be_bytes w16 (n + 12) ++ 0 ∷ track kind ∷ (to_be_bytes w16 channel ++ 0 ∷ 0 ∷ 0 ∷ []))

track_bits : (kind : ℕ) → bit_and (track kind) 15 ≡ track kind
track_bits kind = elim (eqb kind 0) as (λ b. bit_and (cond b 0 1) 15 ≡ cond b 0 1) [ true ↦ refl | false ↦ refl ]

head_is : (flags kind channel n : ℕ) (rest : List ℕ) → n + 12 < 2 ^ 16 → channel < 2 ^ 16 → header_at ((front_octets flags kind channel n ++ 0 ∷ []) ++ rest) ≡ head channel flags kind n
unfolding header_in head front_octets
head_is flags kind channel n rest small low =
    ap (λ s. record { flags = flags; kind = kind; size = s; track = bit_and (track kind) 15; channel = from_be_bytes w16 (to_be_bytes w16 channel) }) (from_be_bytes-to_be_bytes_2 (n + 12) small)
    ∙ ap (λ t. record { flags = flags; kind = kind; size = n + 12; track = t; channel = from_be_bytes w16 (to_be_bytes w16 channel) }) (track_bits kind)
    ∙ ap (λ c. record { flags = flags; kind = kind; size = n + 12; track = track kind; channel = c }) (from_be_bytes-to_be_bytes_2 channel low)

-- ---- a frame

-- it comes whole with its last octet
record Whole (limits : ℕ → ℕ) (first : ℕ) (frames : List Frame) (f : Frame) (octets : List ℕ) : Type 0 where
  pub run : Run limits first (Cuts frames []) octets
  pub after : cut_on limits first (Cuts frames []) octets ≡ Cuts (f ∷ frames) []

-- fewer than twelve octets
short_run : (limits : ℕ → ℕ) (first : ℕ) (frames : List Frame) (rest xs : List ℕ) → length rest + length xs < 12
    → (cut_on limits first (Cuts frames rest) xs ≡ Cuts frames (rest ++ xs)) × (all_quiet limits first (Cuts frames rest) xs ≡ true)
short_run limits first frames rest [] lt = (ap (Cuts frames) (sym (append-nil rest)), refl)
short_run limits first frames rest (o ∷ xs) lt =
    let n = length-append rest (o ∷ []) in
    let now = octet_short limits first frames rest o (omega (arith, lt)) in
    let later = short_run limits first frames (rest ++ o ∷ []) xs (omega (arith, lt, n)) in (
      ap (λ c. cut_on limits first c xs) now ∙ later.0 ∙ ap (Cuts frames) (append_assoc rest (o ∷ []) xs),
      and_from (is_quiet (cut_octet limits first (Cuts frames rest) o)) (all_quiet limits first (cut_octet limits first (Cuts frames rest) o) xs)
          (ap is_quiet now ∙ quiet_rest frames (rest ++ o ∷ []) (omega (arith, n))) (ap (λ c. all_quiet limits first c xs) now ∙ later.1),
    )

-- they bring nothing
pub few_octets : (limits : ℕ → ℕ) (first : ℕ) (frames : List Frame) (xs : List ℕ) → length xs < 12 → all_quiet limits first (Cuts frames []) xs ≡ true
few_octets limits first frames xs lt = (short_run limits first frames [] xs (omega (arith, lt))).1

grown_whole : (at : ℕ) (frames : List Frame) (rest : List ℕ) → length rest ≡ (header_at rest).size → grown at frames rest ≡ Cuts (frame_of at rest ∷ frames) []
grown_whole at frames rest e = ap (λ b. cond b (Cuts (frame_of at rest ∷ frames) []) (Cuts frames rest)) (eq-eqb (length rest) (header_at rest).size e)

grown_part : (at : ℕ) (frames : List Frame) (rest : List ℕ) → (length rest ≡ (header_at rest).size → ⊥) → grown at frames rest ≡ Cuts frames rest
grown_part at frames rest ne = ap (λ b. cond b (Cuts (frame_of at rest ∷ frames) []) (Cuts frames rest)) (ne_eqb (length rest) (header_at rest).size ne)

frame_comes : (limits : ℕ → ℕ) (first : ℕ) (frames : List Frame) (flags kind channel : ℕ) (payload : List ℕ) → length payload + 12 < 2 ^ 16 → channel < 2 ^ 16
    → frame_fault (limits (place_after first frames)) (place_after first frames) (head channel flags kind (length payload)) frames ≡ None
    → Whole limits first frames (record { header = head channel flags kind (length payload); payload = payload; at = place_after first frames }) (frame flags kind channel payload)
unfolding front_octets head
frame_comes limits first frames flags kind channel payload small low fine = by_payload payload refl
  where
    n : ℕ
    n = length payload

    at : ℕ
    at = place_after first frames

    front : List ℕ
    front = front_octets flags kind channel n

    twelve : List ℕ
    twelve = front ++ 0 ∷ []

    -- the header comes whole
    header_comes : cut_on limits first (Cuts frames []) twelve ≡ grown at frames twelve
    header_comes =
        let early = short_run limits first frames [] front (omega arith) in
        let is : header_at twelve ≡ head channel flags kind n = ap header_at (sym (append-nil twelve)) ∙ head_is flags kind channel n [] small low in
        fold-append (cut_octet limits first) (Cuts frames []) front (0 ∷ [])
        ∙ ap (λ c. cut_octet limits first c 0) early.0
        ∙ octet_twelfth limits first frames front 0 refl
        ∙ ap (λ h. checked (frame_fault (limits at) at h frames) at frames twelve) is
        ∙ ap (λ o. checked o at frames twelve) fine

    by_payload : (p : List ℕ) → payload ≡ p
        → Whole limits first frames (record { header = head channel flags kind n; payload = payload; at = at }) (frame flags kind channel payload)
    by_payload [] e =
        let is : header_at twelve ≡ head channel flags kind n = ap header_at (sym (append-nil twelve)) ∙ head_is flags kind channel n [] small low in
        let size_is : (header_at twelve).size ≡ n + 12 = ap (λ (h : FrameHeader). h.size) is in
        let none : n ≡ 0 = ap length e in
        let all : frame flags kind channel payload ≡ twelve = ap (λ xs. twelve ++ xs) e ∙ append-nil twelve in
        let whole_is : cut_on limits first (Cuts frames []) twelve ≡ Cuts (record { header = head channel flags kind n; payload = payload; at = at } ∷ frames) [] =
        header_comes ∙ grown_whole at frames twelve (omega (arith, size_is, none))
        ∙ ap (λ h. Cuts (record { header = h; payload = []; at = at } ∷ frames) []) is
        ∙ ap (λ xs. Cuts (record { header = head channel flags kind n; payload = xs; at = at } ∷ frames) []) (sym e) in
        record {
          run = subst (Run limits first (Cuts frames [])) (sym all)
              (record { front = front; octet = 0; parts = refl; before = (short_run limits first frames [] front (omega arith)).1 });
          after = ap (cut_on limits first (Cuts frames [])) all ∙ whole_is;
        }
    by_payload (p ∷ ps) e =
        let is : header_at twelve ≡ head channel flags kind n = ap header_at (sym (append-nil twelve)) ∙ head_is flags kind channel n [] small low in
        let size_is : (header_at twelve).size ≡ n + 12 = ap (λ (h : FrameHeader). h.size) is in
        let some : 0 < n = omega (arith, ap length e) in
        let now : cut_on limits first (Cuts frames []) twelve ≡ Cuts frames twelve = header_comes ∙ grown_part at frames twelve (λ q. omega (arith, q, size_is, some)) in
        let more = run_grows limits first frames twelve payload (omega arith) some (omega (arith, size_is)) in
        let is_all = head_is flags kind channel n payload small low in
        let size_all : (header_at (twelve ++ payload)).size ≡ n + 12 = ap (λ (h : FrameHeader). h.size) is_all in
        let quiet : all_quiet limits first (Cuts frames []) twelve ≡ true =
        quiet_more limits first (Cuts frames []) front 0 (short_run limits first frames [] front (omega arith)).1 (ap is_quiet now ∙ quiet_rest frames twelve (omega arith)) in
        record {
          run = run_behind limits first (Cuts frames []) twelve payload quiet (subst (λ c. Run limits first c payload) (sym now) more.runs);
          after = fold-append (cut_octet limits first) (Cuts frames []) twelve payload ∙ ap (λ c. cut_on limits first c payload) now ∙ more.grew
              ∙ grown_whole at frames (twelve ++ payload) (omega (arith, length-append twelve payload, size_all))
              ∙ ap (λ h. Cuts (record { header = h; payload = payload; at = at } ∷ frames) []) is_all;
        }

-- ---- an assembly that is being laid

-- these open frames of its lane stand before what was there
record Laid (first channel t : ℕ) (base fs : List Frame) : Type 0 where
  pub open_is : open_on channel t (fs ++ base) ≡ fs
  pub others : (c s : ℕ) → (eqb channel c && eqb t s) ≡ false → open_on c s (fs ++ base) ≡ open_on c s base
  pub size_is : open_size (fs ++ base) ≡ open_size base + payloads_size fs

-- a further frame that doesn't end it
laid_more : (first channel t : ℕ) (base fs : List Frame) (f : Frame) → f.header.channel ≡ channel → f.header.track ≡ t → ends_assembly f.header ≡ false → Laid first channel t base fs → Laid first channel t base (f ∷ fs)
laid_more first channel t base fs f on_channel on_track goes l =
    let here : is_on channel t f.header ≡ true = and_from (eqb f.header.channel channel) (eqb f.header.track t) (eq-eqb f.header.channel channel on_channel) (eq-eqb f.header.track t on_track) in
    record {
      open_is = ap (λ b. cond b (cond (ends_assembly f.header) [] (f ∷ open_on channel t (fs ++ base))) (open_on channel t (fs ++ base))) here
          ∙ ap (λ b. cond b [] (f ∷ open_on channel t (fs ++ base))) goes ∙ ap (λ xs. f ∷ xs) l.open_is;
      others = λ c s ne.
          ap (λ b. cond b (cond (ends_assembly f.header) [] (f ∷ open_on c s (fs ++ base))) (open_on c s (fs ++ base)))
          (ap (λ n. eqb n c && eqb f.header.track s) on_channel ∙ ap (λ n. eqb channel c && eqb n s) on_track ∙ ne) ∙ l.others c s ne;
      size_is = ap (λ b. cond b (open_size (fs ++ base) - payloads_size (open_on f.header.channel f.header.track (fs ++ base))) (open_size (fs ++ base) + payload_of_header f.header)) goes
          ∙ omega (arith, l.size_is);
    }

-- what octets laid further leave: the newest frame, and those of the assembly before it; p and q are the payloads and the types that came
record Lays (limits : ℕ → ℕ) (first channel t : ℕ) (base fs : List Frame) (ends last : Bool) (kind : ℕ) (p : ℕ → List ℕ) (q : ℕ → Bool) (n m : ℕ) (octets : List ℕ) : Type 0 where
  pub g : Frame
  pub gs : List Frame
  pub laid : Laid first channel t base gs
  pub run : Run limits first (Cuts (fs ++ base) []) octets
  pub after : cut_on limits first (Cuts (fs ++ base) []) octets ≡ Cuts (g ∷ (gs ++ base)) []
  pub channel_is : g.header.channel ≡ channel
  pub track_is : g.header.track ≡ t
  pub ends_is : ends_assembly g.header ≡ ends
  pub last_is : is_last_frame g.header ≡ last
  pub kind_is : g.header.kind ≡ kind
  pub payloads_are : (k : ℕ) → payloads_of k (g ∷ gs) ≡ payloads_of k fs ++ p k
  pub kinds_are : (k : ℕ) → has_kind k (g ∷ gs) ≡ (has_kind k fs || q k)
  pub size_is : payloads_size (g ∷ gs) ≡ payloads_size fs + n
  pub oldest_is : oldest_from g.at gs ≡ oldest_from (place_after first (fs ++ base)) fs
  pub end_is : g.at + g.header.size ≡ place_after first (fs ++ base) + length octets
  pub bound : length octets ≤ 13 * n + 12 * m

-- flags without the mark of a last frame
no_last : (b8 b4 b2 : Bool) → flags_of b8 b4 b2 false ≡ cond b8 8 0 + cond b4 4 0 + cond b2 2 0
unfolding flags_of
no_last b8 b4 b2 = omega arith

-- a frame that doesn't end its assembly is quiet
open_quiet : (f : Frame) (frames : List Frame) → ends_assembly f.header ≡ false → is_quiet (Cuts (f ∷ frames) []) ≡ true
open_quiet f frames goes =
    ap (λ b. is_none {T = Done} (cond b (Some (record { channel = f.header.channel; assembly = segments_of f.header.track (f ∷ open_on f.header.channel f.header.track frames); at = oldest_from f.at (open_on f.header.channel f.header.track frames); end = f.at + f.header.size })) None)) goes

or_assoc : (x y z : Bool) → ((x || y) || z) ≡ (x || (y || z))
or_assoc true y z = refl
or_assoc false y z = refl

-- octets behind others
lays_both : (limits : ℕ → ℕ) (first channel t : ℕ) (base fs : List Frame) (ends last last' : Bool) (kind kind' : ℕ) (p p' : ℕ → List ℕ) (q q' : ℕ → Bool) (n n' m m' : ℕ) (octets more : List ℕ)
    → (l : Lays limits first channel t base fs false last kind p q n m octets) → Lays limits first channel t base (l.g ∷ l.gs) ends last' kind' p' q' n' m' more
    → Lays limits first channel t base fs ends last' kind' (λ k. p k ++ p' k) (λ k. q k || q' k) (n + n') (m + m') (octets ++ more)
lays_both limits first channel t base fs ends last last' kind kind' p p' q q' n n' m m' octets more l r =
    let joined = length-append octets more in
    let quiet : all_quiet limits first (Cuts (fs ++ base) []) octets ≡ true =
    subst (λ xs. all_quiet limits first (Cuts (fs ++ base) []) xs ≡ true) (sym l.run.parts)
    (quiet_more limits first (Cuts (fs ++ base) []) l.run.front l.run.octet l.run.before
    (ap (λ xs. is_quiet (cut_on limits first (Cuts (fs ++ base) []) xs)) (sym l.run.parts) ∙ ap is_quiet l.after ∙ open_quiet l.g (l.gs ++ base) l.ends_is)) in
    record {
      g = r.g;
      gs = r.gs;
      laid = r.laid;
      run = run_behind limits first (Cuts (fs ++ base) []) octets more quiet (subst (λ c. Run limits first c more) (sym l.after) r.run);
      after = fold-append (cut_octet limits first) (Cuts (fs ++ base) []) octets more ∙ ap (λ c. cut_on limits first c more) l.after ∙ r.after;
      channel_is = r.channel_is;
      track_is = r.track_is;
      ends_is = r.ends_is;
      last_is = r.last_is;
      kind_is = r.kind_is;
      payloads_are = λ k. r.payloads_are k ∙ ap (λ xs. xs ++ p' k) (l.payloads_are k) ∙ append_assoc (payloads_of k fs) (p k) (p' k);
      kinds_are = λ k. r.kinds_are k ∙ ap (λ b. b || q' k) (l.kinds_are k) ∙ or_assoc (has_kind k fs) (q k) (q' k);
      size_is = omega (arith, r.size_is, l.size_is);
      oldest_is = r.oldest_is ∙ l.oldest_is;
      end_is = omega (arith, r.end_is, l.end_is, joined);
      bound = omega (arith, r.bound, l.bound, joined);
    }

-- the same in other words
lays_as : (limits : ℕ → ℕ) (first channel t : ℕ) (base fs : List Frame) (ends last : Bool) (kind : ℕ) (p p' : ℕ → List ℕ) (q q' : ℕ → Bool) (n n' m m' : ℕ) (octets same : List ℕ)
    → ((k : ℕ) → p k ≡ p' k) → ((k : ℕ) → q k ≡ q' k) → n ≡ n' → m ≡ m' → octets ≡ same
    → Lays limits first channel t base fs ends last kind p q n m octets → Lays limits first channel t base fs ends last kind p' q' n' m' same
lays_as limits first channel t base fs ends last kind p p' q q' n n' m m' octets same ps qs ns ms os l = record {
  g = l.g;
  gs = l.gs;
  laid = l.laid;
  run = subst (Run limits first (Cuts (fs ++ base) [])) os l.run;
  after = ap (cut_on limits first (Cuts (fs ++ base) [])) (sym os) ∙ l.after;
  channel_is = l.channel_is;
  track_is = l.track_is;
  ends_is = l.ends_is;
  last_is = l.last_is;
  kind_is = l.kind_is;
  payloads_are = λ k. l.payloads_are k ∙ ap (λ xs. payloads_of k fs ++ xs) (ps k);
  kinds_are = λ k. l.kinds_are k ∙ ap (λ b. has_kind k fs || b) (qs k);
  size_is = omega (arith, l.size_is, ns);
  oldest_is = l.oldest_is;
  end_is = omega (arith, l.end_is, ap length os);
  bound = omega (arith, l.bound, ap length os, ns, ms);
}

-- ---- a segment

-- what stands before the rest of it
record Before (limits : ℕ → ℕ) (first channel most : ℕ) (base fs : List Frame) (b8 b4 b2 : Bool) (kind : ℕ) (rest : List ℕ) : Type 0 where
  pub most_low : 1 ≤ most
  pub most_small : most + 12 < 2 ^ 16
  pub allowed : (place : ℕ) → most + 12 ≤ limits place
  pub channel_low : channel ≤ 63
  pub kind_low : kind ≤ 3
  pub laid : Laid first channel (track kind) base fs
  pub in_place_is : (b1 : Bool) (n : ℕ) → in_place (newest fs) (head channel (flags_of b8 b4 b2 b1) kind n) ≡ true
  pub near : place_after first (fs ++ base) + 13 * length rest + 12 < 2 ^ 62
  pub assembly_fits : payloads_size fs + length rest ≤ 16777216
  pub open_fits : open_size base + payloads_size fs + length rest ≤ 33554432

-- a frame of it passes
frame_passes : (limits : ℕ → ℕ) (first channel most : ℕ) (base fs : List Frame) (b8 b4 b2 : Bool) (kind : ℕ) (rest : List ℕ) → Before limits first channel most base fs b8 b4 b2 kind rest
    → (b1 : Bool) (n : ℕ) → n ≤ most → n ≤ length rest
    → frame_fault (limits (place_after first (fs ++ base))) (place_after first (fs ++ base)) (head channel (flags_of b8 b4 b2 b1) kind n) (fs ++ base) ≡ None
unfolding head
frame_passes limits first channel most base fs b8 b4 b2 kind rest s b1 n le fits =
    let at = place_after first (fs ++ base) in
    let opens : open_on channel (track kind) (fs ++ base) ≡ fs = s.laid.open_is in
    let same : (n + 12) - 12 ≡ n = omega arith in
    by_parts (leb (2 ^ 62) at) (ltb (n + 12) 12 || ltb (limits at) (n + 12)) (is_set (flags_of b8 b4 b2 b1) 192) (ltb 3 kind) (eqb (track kind) (track kind)) (ltb 63 channel)
    (in_place (newest (open_on channel (track kind) (fs ++ base))) (head channel (flags_of b8 b4 b2 b1) kind n))
    (size_fault ((n + 12) - 12) (payloads_size (open_on channel (track kind) (fs ++ base))) (open_size (fs ++ base)))
    (lt-leb (2 ^ 62) at (omega (arith, s.near)))
    (or_from (ltb (n + 12) 12) (ltb (limits at) (n + 12)) (le-ltb (n + 12) 12 (omega arith)) (le-ltb (limits at) (n + 12) (omega (arith, le, s.allowed at))))
    (bits b8 b4 b2 b1).format (le-ltb 3 kind s.kind_low) (eq-eqb (track kind) (track kind) refl) (le-ltb 63 channel s.channel_low)
    (ap (λ (fr : List Frame). in_place (newest fr) (head channel (flags_of b8 b4 b2 b1) kind n)) opens ∙ s.in_place_is b1 n)
    (ap (λ k. size_fault k (payloads_size (open_on channel (track kind) (fs ++ base))) (open_size (fs ++ base))) same
    ∙ ap (λ (fr : List Frame). size_fault n (payloads_size fr) (open_size (fs ++ base))) opens
    ∙ fits_both (ltb 16777216 (payloads_size fs + n)) (ltb 33554432 (open_size (fs ++ base) + n))
    (le-ltb 16777216 (payloads_size fs + n) (omega (arith, s.assembly_fits, fits))) (le-ltb 33554432 (open_size (fs ++ base) + n) (omega (arith, s.open_fits, fits, s.laid.size_is))))
  where
    fits_both : (x y : Bool) → x ≡ false → y ≡ false → cond x (Some TooLarge) (cond y (Some TooMuchOpen) None) ≡ None
    fits_both x y e f = ap (λ b. cond b (Some TooLarge) (cond y (Some TooMuchOpen) None)) e ∙ ap (λ b. cond b (Some TooMuchOpen) None) f

    by_parts : (a b c d e f g : Bool) (o : Option Why) → a ≡ false → b ≡ false → c ≡ false → d ≡ false → e ≡ true → f ≡ false → g ≡ true → o ≡ None
        → or_else (cond a (Some TooFar) (cond b (Some BadSize) (cond c (Some BadFlags) (cond d (Some BadType) (cond (not e) (Some BadTrack) (cond f (Some TooManyChannels) None)))))) (cond g o (Some BadFlags)) ≡ None
    by_parts a b c d e f g o pa pb pc pd pe pf pg po = rw (pa, pb, pc, pd, pe, pf, pg, po) refl

frame_length : (flags kind channel : ℕ) (payload : List ℕ) → length (frame flags kind channel payload) ≡ length payload + 12
frame_length flags kind channel payload = omega arith

-- one frame of it, and its header
one_frame : (limits : ℕ → ℕ) (first channel most : ℕ) (base fs : List Frame) (b8 b4 b2 : Bool) (kind : ℕ) (rest : List ℕ) → Before limits first channel most base fs b8 b4 b2 kind rest
    → (b1 ends : Bool) (part : List ℕ) (m : ℕ) → (b4 && b1) ≡ ends → length part ≤ most → length part ≤ length rest → 12 ≤ 12 * length part + 12 * m
    → (l : Lays limits first channel (track kind) base fs ends b1 kind (λ k. cond (eqb kind k) part []) (λ k. eqb kind k) (length part) m (frame (flags_of b8 b4 b2 b1) kind channel part))
    × (l.g.header ≡ head channel (flags_of b8 b4 b2 b1) kind (length part))
unfolding head
one_frame limits first channel most base fs b8 b4 b2 kind rest s b1 ends part m ended le fits many =
    let flags = flags_of b8 b4 b2 b1 in
    let at = place_after first (fs ++ base) in
    let c = frame_comes limits first (fs ++ base) flags kind channel part (omega (arith, le, s.most_small)) (omega (arith, s.channel_low)) (frame_passes limits first channel most base fs b8 b4 b2 kind rest s b1 (length part) le fits) in
    let long = frame_length flags kind channel part in (
      record {
        g = record { header = head channel flags kind (length part); payload = part; at = at };
        gs = fs;
        laid = s.laid;
        run = c.run;
        after = c.after;
        channel_is = refl;
        track_is = refl;
        ends_is = ap (λ b. b && is_set flags 1) (bits b8 b4 b2 b1).ends ∙ ap (λ b. b4 && b) (bits b8 b4 b2 b1).last ∙ ended;
        last_is = (bits b8 b4 b2 b1).last;
        kind_is = refl;
        payloads_are = λ k. refl;
        kinds_are = λ k. refl;
        size_is = omega arith;
        oldest_is = refl;
        end_is = omega (arith, long);
        bound = omega (arith, long, many);
      },
      refl,
    )

and_true : (b : Bool) → (b && true) ≡ b
and_true true = refl
and_true false = refl

or_same : (b : Bool) → (b || b) ≡ b
or_same true = refl
or_same false = refl

-- its last frame
last_one : (fuel : ℕ) (limits : ℕ → ℕ) (first channel most : ℕ) (base fs : List Frame) (b8 b4 b2 : Bool) (kind : ℕ) (rest : List ℕ) → length rest ≤ most
    → Before limits first channel most base fs b8 b4 b2 kind rest
    → Lays limits first channel (track kind) base fs b4 true kind (λ k. cond (eqb kind k) rest []) (λ k. eqb kind k) (length rest) 1 (frames_from (suc fuel) most (cond b8 8 0 + cond b4 4 0) kind channel (cond b2 2 0) rest)
unfolding flags_of
last_one fuel limits first channel most base fs b8 b4 b2 kind rest le s =
    let one = one_frame limits first channel most base fs b8 b4 b2 kind rest s true b4 rest 1 (and_true b4) le (omega arith) (omega arith) in
    lays_as limits first channel (track kind) base fs b4 true kind (λ k. cond (eqb kind k) rest []) (λ k. cond (eqb kind k) rest []) (λ k. eqb kind k) (λ k. eqb kind k) (length rest) (length rest) 1 1
    (frame (flags_of b8 b4 b2 true) kind channel rest) (frames_from (suc fuel) most (cond b8 8 0 + cond b4 4 0) kind channel (cond b2 2 0) rest)
    (λ k. refl) (λ k. refl) refl refl (sym (last_step fuel most (cond b8 8 0 + cond b4 4 0) kind channel (cond b2 2 0) rest le)) one.0

-- a frame of the same segment may come after one that isn't the last
goes_on_in_place : (channel kind n m : ℕ) (b8 b4 b2 b1 : Bool) → in_place (Some (head channel (flags_of b8 b4 b2 false) kind m)) (head channel (flags_of b8 b4 false b1) kind n) ≡ true
unfolding head
goes_on_in_place channel kind n m b8 b4 b2 b1 =
    by_parts (is_set (flags_of b8 b4 b2 false) 1) (is_set (flags_of b8 b4 false b1) 2) (eqb kind kind) (eqb (bit_and (flags_of b8 b4 false b1) 12) (bit_and (flags_of b8 b4 b2 false) 12)) _
    (bits b8 b4 b2 false).last (bits b8 b4 false b1).begins (eq-eqb kind kind refl)
    (eq-eqb (bit_and (flags_of b8 b4 false b1) 12) (bit_and (flags_of b8 b4 b2 false) 12) ((bits b8 b4 false b1).same ∙ sym (bits b8 b4 b2 false).same))
  where
    by_parts : (a b c d e : Bool) → a ≡ false → b ≡ false → c ≡ true → d ≡ true → cond a e (not b && (c && d)) ≡ true
    by_parts a b c d e pa pb pc pd = rw (pa, pb, pc, pd) refl

-- one kind's payloads in two parts
part_joined : (b : Bool) (x y rest : List ℕ) → x ++ y ≡ rest → cond b x [] ++ cond b y [] ≡ cond b rest []
part_joined true x y rest e = e
part_joined false x y rest e = refl

-- the frames of a segment
segment_cuts : (fuel : ℕ) (limits : ℕ → ℕ) (first channel most : ℕ) (base fs : List Frame) (b8 b4 b2 : Bool) (kind : ℕ) (rest : List ℕ) → length rest ≤ fuel
    → Before limits first channel most base fs b8 b4 b2 kind rest
    → Lays limits first channel (track kind) base fs b4 true kind (λ k. cond (eqb kind k) rest []) (λ k. eqb kind k) (length rest) 1 (frames_from (suc fuel) most (cond b8 8 0 + cond b4 4 0) kind channel (cond b2 2 0) rest)
segment_cuts zero limits first channel most base fs b8 b4 b2 kind rest enough s = last_one zero limits first channel most base fs b8 b4 b2 kind rest (omega (arith, enough)) s
segment_cuts (suc fuel) limits first channel most base fs b8 b4 b2 kind rest enough s = elim (cases_lt most (length rest)) [
  | inr le ↦ last_one (suc fuel) limits first channel most base fs b8 b4 b2 kind rest le s
  | inl lt ↦
      let part = take most rest in
      let later = drop most rest in
      let part_long : length part ≡ most = length-take-le most rest (omega (arith, lt)) in
      let later_long : length later ≡ length rest - most = length-drop most rest in
      let one = one_frame limits first channel most base fs b8 b4 b2 kind rest s false false part 0 (and_false b4) (omega (arith, part_long)) (omega (arith, part_long, lt)) (omega (arith, part_long, s.most_low)) in
      let l = one.0 in
      let long = frame_length (flags_of b8 b4 b2 false) kind channel part in
      let next : Before limits first channel most base (l.g ∷ l.gs) b8 b4 false kind later = record {
        most_low = s.most_low;
        most_small = s.most_small;
        allowed = s.allowed;
        channel_low = s.channel_low;
        kind_low = s.kind_low;
        laid = laid_more first channel (track kind) base l.gs l.g l.channel_is l.track_is l.ends_is l.laid;
        in_place_is = λ b1 n. ap (λ h. in_place (Some h) (head channel (flags_of b8 b4 false b1) kind n)) one.1 ∙ goes_on_in_place channel kind n (length part) b8 b4 b2 b1;
        near = omega (arith, l.end_is, long, part_long, later_long, lt, s.near, s.most_low);
        assembly_fits = omega (arith, l.size_is, part_long, later_long, lt, s.assembly_fits);
        open_fits = omega (arith, l.size_is, part_long, later_long, lt, s.open_fits);
      } in
      let r = segment_cuts fuel limits first channel most base (l.g ∷ l.gs) b8 b4 false kind later (omega (arith, later_long, lt, enough, s.most_low)) next in
      let flags_are : flags_of b8 b4 b2 false ≡ cond b8 8 0 + cond b4 4 0 + cond b2 2 0 = no_last b8 b4 b2 in
      lays_as limits first channel (track kind) base fs b4 true kind (λ k. cond (eqb kind k) part [] ++ cond (eqb kind k) later []) (λ k. cond (eqb kind k) rest []) (λ k. eqb kind k || eqb kind k) (λ k. eqb kind k)
      (length part + length later) (length rest) (0 + 1) 1
      (frame (flags_of b8 b4 b2 false) kind channel part ++ frames_from (suc fuel) most (cond b8 8 0 + cond b4 4 0) kind channel 0 later) (frames_from (suc (suc fuel)) most (cond b8 8 0 + cond b4 4 0) kind channel (cond b2 2 0) rest)
      (λ k. part_joined (eqb kind k) part later rest (take-append-drop most rest)) (λ k. or_same (eqb kind k)) (omega (arith, part_long, later_long, lt)) refl
      (ap (λ n. frame n kind channel part ++ frames_from (suc fuel) most (cond b8 8 0 + cond b4 4 0) kind channel 0 later) flags_are
      ∙ sym (mid_step (suc fuel) most (cond b8 8 0 + cond b4 4 0) kind channel (cond b2 2 0) rest lt))
      (lays_both limits first channel (track kind) base fs b4 false true kind kind (λ k. cond (eqb kind k) part []) (λ k. cond (eqb kind k) later []) (λ k. eqb kind k) (λ k. eqb kind k) (length part) (length later) 0 1
      (frame (flags_of b8 b4 b2 false) kind channel part) (frames_from (suc fuel) most (cond b8 8 0 + cond b4 4 0) kind channel 0 later) l r)
]
  where
    and_false : (b : Bool) → (b && false) ≡ false
    and_false true = refl
    and_false false = refl

-- ---- an assembly

-- the payloads of one type, and whether a segment has it
payloads_in : ℕ → List Segment → List ℕ
payloads_in k [] = []
payloads_in k (s ∷ ss) = cond (eqb s.kind k) s.octets [] ++ payloads_in k ss

kind_in : ℕ → List Segment → Bool
kind_in k [] = false
kind_in k (s ∷ ss) = eqb s.kind k || kind_in k ss

is_nil : List Segment → Bool
is_nil [] = true
is_nil (s ∷ ss) = false

-- what frames are laid for
record Room (limits : ℕ → ℕ) (channel most : ℕ) : Type 0 where
  pub most_low : 1 ≤ most
  pub most_small : most + 12 < 2 ^ 16
  pub allowed : (place : ℕ) → most + 12 ≤ limits place
  pub channel_low : channel ≤ 63

record Begins (first channel : ℕ) (base fs : List Frame) (b8 : Bool) (s : Segment) (ss : List Segment) : Type 0 where
  pub kind_low : s.kind ≤ 3
  pub later_low : is_nil ss ≡ false → 1 ≤ s.kind
  pub follows : follow s.kind ss ≡ true
  pub laid : Laid first channel (track s.kind) base fs
  pub in_place_is : (b1 : Bool) (n : ℕ) → in_place (newest fs) (head channel (flags_of b8 (is_nil ss) true b1) s.kind n) ≡ true
  pub near : place_after first (fs ++ base) + 13 * octets_in (s ∷ ss) + 12 * length (s ∷ ss) < 2 ^ 62
  pub assembly_fits : payloads_size fs + octets_in (s ∷ ss) ≤ 16777216
  pub open_fits : open_size base + payloads_size fs + octets_in (s ∷ ss) ≤ 33554432

track_one : (k : ℕ) → 1 ≤ k → track k ≡ 1
track_one k le = ap (λ b. cond b 0 1) (ne_eqb k 0 (λ e. omega (arith, e, le)))

-- a later segment may begin behind the last frame of one
begins_in_place : (channel kind n : ℕ) (last : FrameHeader) (b4 b1 : Bool) → is_last_frame last ≡ true → last.kind < kind → in_place (Some last) (head channel (flags_of false b4 true b1) kind n) ≡ true
unfolding head
begins_in_place channel kind n last b4 b1 ended lt =
    by_parts (is_last_frame last) (is_set (flags_of false b4 true b1) 2) (is_set (flags_of false b4 true b1) 8) (ltb last.kind kind) _
    ended (bits false b4 true b1).begins (bits false b4 true b1).segment (lt-ltb last.kind kind lt)
  where
    by_parts : (a b c d e : Bool) → a ≡ true → b ≡ true → c ≡ false → d ≡ true → cond a ((b && not c) && d) e ≡ true
    by_parts a b c d e pa pb pc pd = rw (pa, pb, pc, pd) refl

or_false : (b : Bool) → (b || false) ≡ b
or_false true = refl
or_false false = refl

assembly_cuts : (ss : List Segment) (limits : ℕ → ℕ) (first channel most : ℕ) (base fs : List Frame) (b8 : Bool) (s : Segment) → Room limits channel most → Begins first channel base fs b8 s ss
    → (kind : ℕ) × Lays limits first channel (track s.kind) base fs true true kind (λ k. payloads_in k (s ∷ ss)) (λ k. kind_in k (s ∷ ss)) (octets_in (s ∷ ss)) (length (s ∷ ss)) (laid_segments most (cond b8 8 0) channel (s ∷ ss))
unfolding payloads_in kind_in is_nil
assembly_cuts [] limits first channel most base fs b8 s room b = (
  s.kind,
  lays_as limits first channel (track s.kind) base fs true true s.kind (λ k. cond (eqb s.kind k) s.octets []) (λ k. payloads_in k (s ∷ [])) (λ k. eqb s.kind k) (λ k. kind_in k (s ∷ [])) (length s.octets) (octets_in (s ∷ [])) 1 1
      (laid_segment most (cond b8 8 0 + 4) s.kind channel s.octets) (laid_segments most (cond b8 8 0) channel (s ∷ []))
      (λ k. sym (append-nil (cond (eqb s.kind k) s.octets []))) (λ k. sym (or_false (eqb s.kind k))) (omega arith) refl (sym (append-nil (laid_segment most (cond b8 8 0 + 4) s.kind channel s.octets)))
      (segment_cuts (length s.octets) limits first channel most base fs b8 true true s.kind s.octets (omega arith) (record {
        most_low = room.most_low;
        most_small = room.most_small;
        allowed = room.allowed;
        channel_low = room.channel_low;
        kind_low = b.kind_low;
        laid = b.laid;
        in_place_is = b.in_place_is;
        near = omega (arith, b.near);
        assembly_fits = omega (arith, b.assembly_fits);
        open_fits = omega (arith, b.open_fits);
      })),
)
assembly_cuts (s2 ∷ ss) limits first channel most base fs b8 s room b =
    let f1 = and_parts (leb 2 s2.kind && leb s2.kind 3) (ltb s.kind s2.kind && follow s2.kind ss) b.follows in
    let f2 = and_parts (leb 2 s2.kind) (leb s2.kind 3) f1.0 in
    let f3 = and_parts (ltb s.kind s2.kind) (follow s2.kind ss) f1.1 in
    let low : 2 ≤ s2.kind = leb-true 2 s2.kind f2.0 in
    let less : s.kind < s2.kind = ltb-true s.kind s2.kind f3.0 in
    let same : track s2.kind ≡ track s.kind = track_one s2.kind (omega (arith, low)) ∙ sym (track_one s.kind (b.later_low refl)) in
    let l = segment_cuts (length s.octets) limits first channel most base fs b8 false true s.kind s.octets (omega arith) (record {
      most_low = room.most_low;
      most_small = room.most_small;
      allowed = room.allowed;
      channel_low = room.channel_low;
      kind_low = b.kind_low;
      laid = b.laid;
      in_place_is = b.in_place_is;
      near = omega (arith, b.near);
      assembly_fits = omega (arith, b.assembly_fits);
      open_fits = omega (arith, b.open_fits);
    }) in
    let r = assembly_cuts ss limits first channel most base (l.g ∷ l.gs) false s2 room (record {
      kind_low = leb-true s2.kind 3 f2.1;
      later_low = λ none. omega (arith, low);
      follows = f3.1;
      laid = subst (λ t. Laid first channel t base (l.g ∷ l.gs)) (sym same) (laid_more first channel (track s.kind) base l.gs l.g l.channel_is l.track_is l.ends_is l.laid);
      in_place_is = λ b1 n. begins_in_place channel s2.kind n l.g.header (is_nil ss) b1 l.last_is (omega (arith, l.kind_is, less));
      near = omega (arith, b.near, l.end_is, l.bound);
      assembly_fits = omega (arith, b.assembly_fits, l.size_is);
      open_fits = omega (arith, b.open_fits, l.size_is);
    }) in
    let later = laid_segments most 0 channel (s2 ∷ ss) in
    let r1 : Lays limits first channel (track s.kind) base (l.g ∷ l.gs) true true r.0 (λ k. payloads_in k (s2 ∷ ss)) (λ k. kind_in k (s2 ∷ ss)) (octets_in (s2 ∷ ss)) (length (s2 ∷ ss)) later =
    subst (λ t. Lays limits first channel t base (l.g ∷ l.gs) true true r.0 (λ k. payloads_in k (s2 ∷ ss)) (λ k. kind_in k (s2 ∷ ss)) (octets_in (s2 ∷ ss)) (length (s2 ∷ ss)) later) same r.1 in (
      r.0,
      lays_as limits first channel (track s.kind) base fs true true r.0 (λ k. cond (eqb s.kind k) s.octets [] ++ payloads_in k (s2 ∷ ss)) (λ k. payloads_in k (s ∷ s2 ∷ ss)) (λ k. eqb s.kind k || kind_in k (s2 ∷ ss)) (λ k. kind_in k (s ∷ s2 ∷ ss))
          (length s.octets + octets_in (s2 ∷ ss)) (octets_in (s ∷ s2 ∷ ss)) (1 + length (s2 ∷ ss)) (length (s ∷ s2 ∷ ss))
          (laid_segment most (cond b8 8 0 + 0) s.kind channel s.octets ++ later) (laid_segments most (cond b8 8 0) channel (s ∷ s2 ∷ ss))
          (λ k. refl) (λ k. refl) (omega arith) (omega arith) refl
          (lays_both limits first channel (track s.kind) base fs true true true s.kind r.0 (λ k. cond (eqb s.kind k) s.octets []) (λ k. payloads_in k (s2 ∷ ss)) (λ k. eqb s.kind k) (λ k. kind_in k (s2 ∷ ss))
          (length s.octets) (octets_in (s2 ∷ ss)) 1 (length (s2 ∷ ss)) (laid_segment most (cond b8 8 0 + 0) s.kind channel s.octets) later l r1),
    )

-- ---- what comes out

seg : ℕ → List ℕ → Segment
seg kind octets = record { kind = kind; octets = octets }

-- the segments of payloads by their types
content_of : ℕ → (ℕ → List ℕ) → (ℕ → Bool) → List Segment
content_of t p q = cond (eqb t 0) (record { kind = 0; octets = p 0 } ∷ []) (record { kind = 1; octets = p 1 } ∷ (cond (q 2) (record { kind = 2; octets = p 2 } ∷ []) [] ++ cond (q 3) (record { kind = 3; octets = p 3 } ∷ []) []))

content_same : (t : ℕ) (p p' : ℕ → List ℕ) (q q' : ℕ → Bool) → ((k : ℕ) → p k ≡ p' k) → ((k : ℕ) → q k ≡ q' k) → content_of t p q ≡ content_of t p' q'
unfolding content_of
content_same t p p' q q' ps qs = rw (ps 0, ps 1, ps 2, ps 3, qs 2, qs 3) refl

-- what comes after the first segment
rest_of : List Segment → List Segment
rest_of ss = cond (kind_in 2 ss) (record { kind = 2; octets = payloads_in 2 ss } ∷ []) [] ++ cond (kind_in 3 ss) (record { kind = 3; octets = payloads_in 3 ss } ∷ []) []

IsRest : List Segment → Type 0
IsRest ss = (payloads_in 1 ss ≡ []) × (rest_of ss ≡ ss)

record Follows (before : ℕ) (s : Segment) (ss : List Segment) : Type 0 where
  pub low : 2 ≤ s.kind
  pub high : s.kind ≤ 3
  pub less : before < s.kind
  pub more : follow s.kind ss ≡ true

follows_of : (before : ℕ) (s : Segment) (ss : List Segment) → follow before (s ∷ ss) ≡ true → Follows before s ss
follows_of before s ss e =
    let a = and_parts (leb 2 s.kind && leb s.kind 3) (ltb before s.kind && follow s.kind ss) e in
    let b = and_parts (leb 2 s.kind) (leb s.kind 3) a.0 in
    let c = and_parts (ltb before s.kind) (follow s.kind ss) a.1 in
    record { low = leb-true 2 s.kind b.0; high = leb-true s.kind 3 b.1; less = ltb-true before s.kind c.0; more = c.1 }

rest_is : (ss : List Segment) → follow 1 ss ≡ true → IsRest ss
unfolding IsRest rest_of payloads_in kind_in seg
rest_is [] e = (refl, refl)
rest_is (s ∷ []) e =
    let f = follows_of 1 s [] e in
    elim (cases_eq s.kind 2) [
      | inl two ↦ subst (λ k. IsRest (seg k s.octets ∷ [])) (sym two) (refl, ap (λ xs. record { kind = 2; octets = xs } ∷ []) (append-nil s.octets))
      | inr ne ↦
          let three : s.kind ≡ 3 = omega (arith, f.low, f.high, ne) in
          subst (λ k. IsRest (seg k s.octets ∷ [])) (sym three) (refl, ap (λ xs. record { kind = 3; octets = xs } ∷ []) (append-nil s.octets))
    ]
rest_is (s ∷ s2 ∷ []) e =
    let f = follows_of 1 s (s2 ∷ []) e in
    let f2 = follows_of s.kind s2 [] f.more in
    let two : s.kind ≡ 2 = omega (arith, f.low, f2.less, f2.high) in
    let three : s2.kind ≡ 3 = omega (arith, f.low, f2.less, f2.high) in
    subst (λ k. IsRest (seg k s.octets ∷ seg s2.kind s2.octets ∷ [])) (sym two)
    (subst (λ k. IsRest (seg 2 s.octets ∷ seg k s2.octets ∷ [])) (sym three)
    (refl, ap (λ xs. record { kind = 2; octets = xs } ∷ record { kind = 3; octets = s2.octets ++ [] } ∷ []) (append-nil s.octets) ∙ ap (λ xs. record { kind = 2; octets = s.octets } ∷ record { kind = 3; octets = xs } ∷ []) (append-nil s2.octets)))
rest_is (s ∷ s2 ∷ s3 ∷ ss) e =
    let f = follows_of 1 s (s2 ∷ s3 ∷ ss) e in
    let f2 = follows_of s.kind s2 (s3 ∷ ss) f.more in
    let f3 = follows_of s2.kind s3 ss f2.more in
    absurd (omega (arith, f.low, f2.less, f3.less, f3.high))

follow_length : (before : ℕ) (ss : List Segment) → follow before ss ≡ true → before + length ss ≤ before + 3
follow_length before [] e = omega arith
follow_length before (s ∷ ss) e = let f = follows_of before s ss e in omega (arith, few s.kind ss f.high f.more, f.low)
  where
    few : (k : ℕ) (xs : List Segment) → k ≤ 3 → follow k xs ≡ true → length xs + k ≤ 3
    few k [] le q = omega (arith, le)
    few k (x ∷ xs) le q = let g = follows_of k x xs q in omega (arith, few x.kind xs g.high g.more, g.less)

-- the first segment of a placed assembly
record First (s : Segment) (ss : List Segment) : Type 0 where
  pub low : s.kind ≤ 1
  pub alone : s.kind ≡ 0 → ss ≡ []
  pub follows : follow s.kind ss ≡ true

first_of : (s : Segment) (ss : List Segment) → IsPlaced (s ∷ ss) → First s ss
first_of s ss placed = elim (cases_eq s.kind 0) [
  | inl zero_is ↦
      let none : ss ≡ [] = alone_is ss (ap (λ b. cond b (is_alone ss) (eqb s.kind 1 && follow 1 ss)) (sym (eq-eqb s.kind 0 zero_is)) ∙ placed) in
      record { low = omega (arith, zero_is); alone = λ e. none; follows = ap (follow s.kind) none }
  | inr ne ↦
      let parts = and_parts (eqb s.kind 1) (follow 1 ss) (ap (λ b. cond b (is_alone ss) (eqb s.kind 1 && follow 1 ss)) (sym (ne_eqb s.kind 0 ne)) ∙ placed) in
      let one : s.kind ≡ 1 = eqb-true s.kind 1 parts.0 in
      record { low = omega (arith, one); alone = λ e. absurd (ne e); follows = ap (λ k. follow k ss) one ∙ parts.1 }
]
  where
    alone_is : (xs : List Segment) → is_alone xs ≡ true → xs ≡ []
    alone_is [] e = refl
    alone_is (x ∷ xs) e = absurd (cc e)

-- a command with what comes after it
at_one : (o : List ℕ) (ss : List Segment) → IsRest ss → content_of 1 (λ j. cond (eqb 1 j) o [] ++ payloads_in j ss) (λ j. eqb 1 j || kind_in j ss) ≡ record { kind = 1; octets = o } ∷ ss
unfolding content_of IsRest rest_of
at_one o ss r = ap (λ xs. record { kind = 1; octets = o ++ xs } ∷ rest_of ss) r.0 ∙ ap (λ xs. record { kind = 1; octets = xs } ∷ rest_of ss) (append-nil o) ∙ ap (λ xs. record { kind = 1; octets = o } ∷ xs) r.1

-- a placed assembly is that of its own payloads
content_is : (s : Segment) (ss : List Segment) → First s ss → content_of (track s.kind) (λ k. payloads_in k (s ∷ ss)) (λ k. kind_in k (s ∷ ss)) ≡ s ∷ ss
unfolding content_of payloads_in kind_in
content_is s ss f = elim (cases_eq s.kind 0) [
  | inl zero_is ↦
      ap (λ xs. content_of (track s.kind) (λ k. payloads_in k (s ∷ xs)) (λ k. kind_in k (s ∷ xs))) (f.alone zero_is)
      ∙ by_zero s.kind s.octets zero_is ∙ ap (λ xs. s ∷ xs) (sym (f.alone zero_is))
  | inr ne ↦
      let one : s.kind ≡ 1 = omega (arith, f.low, ne) in
      by_one s.kind s.octets one (rest_is ss (ap (λ k. follow k ss) (sym one) ∙ f.follows))
]
  where
    by_zero : (k : ℕ) (o : List ℕ) → k ≡ 0 → content_of (track k) (λ j. cond (eqb k j) o [] ++ []) (λ j. eqb k j || false) ≡ record { kind = k; octets = o } ∷ []
    by_zero k o e = subst (λ m. content_of (track m) (λ j. cond (eqb m j) o [] ++ []) (λ j. eqb m j || false) ≡ record { kind = m; octets = o } ∷ []) (sym e) (ap (λ xs. record { kind = 0; octets = xs } ∷ []) (append-nil o))

    by_one : (k : ℕ) (o : List ℕ) → k ≡ 1 → IsRest ss → content_of (track k) (λ j. cond (eqb k j) o [] ++ payloads_in j ss) (λ j. eqb k j || kind_in j ss) ≡ record { kind = k; octets = o } ∷ ss
    by_one k o e r =
        subst (λ m. content_of (track m) (λ j. cond (eqb m j) o [] ++ payloads_in j ss) (λ j. eqb m j || kind_in j ss) ≡ record { kind = m; octets = o } ∷ ss) (sym e) (at_one o ss r)

-- ---- the whole

-- what the laid octets leave is the assembly
comes_of : (limits : ℕ → ℕ) (first channel kind m : ℕ) (frames : List Frame) (s : Segment) (ss : List Segment) (octets : List ℕ) → First s ss → m ≤ 4
    → Lays limits first channel (track s.kind) frames [] true true kind (λ k. payloads_in k (s ∷ ss)) (λ k. kind_in k (s ∷ ss)) (octets_in (s ∷ ss)) m octets
    → ComesBack limits first frames channel (s ∷ ss) octets
unfolding content_of
comes_of limits first channel kind m frames s ss octets f small l =
    let g = l.g in
    let t = track s.kind in
    let opens : open_on g.header.channel g.header.track (l.gs ++ frames) ≡ l.gs =
    ap (λ c. open_on c g.header.track (l.gs ++ frames)) l.channel_is ∙ ap (λ u. open_on channel u (l.gs ++ frames)) l.track_is ∙ l.laid.open_is in
    let segments_are : segments_of g.header.track (g ∷ open_on g.header.channel g.header.track (l.gs ++ frames)) ≡ s ∷ ss =
    ap (λ fs. segments_of g.header.track (g ∷ fs)) opens ∙ ap (λ u. segments_of u (g ∷ l.gs)) l.track_is
    ∙ content_same t (λ k. payloads_of k (g ∷ l.gs)) (λ k. payloads_in k (s ∷ ss)) (λ k. has_kind k (g ∷ l.gs)) (λ k. kind_in k (s ∷ ss)) l.payloads_are l.kinds_are
    ∙ content_is s ss f in
    let at_is : oldest_from g.at (open_on g.header.channel g.header.track (l.gs ++ frames)) ≡ place_after first frames = ap (oldest_from g.at) opens ∙ l.oldest_is in
    let done : ended_by (g ∷ (l.gs ++ frames)) ≡ Some (record { channel = channel; assembly = s ∷ ss; at = place_after first frames; end = place_after first frames + length octets }) =
    ap (λ b. cond b (Some (record { channel = g.header.channel; assembly = segments_of g.header.track (g ∷ open_on g.header.channel g.header.track (l.gs ++ frames)); at = oldest_from g.at (open_on g.header.channel g.header.track (l.gs ++ frames)); end = g.at + g.header.size })) None) l.ends_is
    ∙ ap (λ c. Some (record { channel = c; assembly = segments_of g.header.track (g ∷ open_on g.header.channel g.header.track (l.gs ++ frames)); at = oldest_from g.at (open_on g.header.channel g.header.track (l.gs ++ frames)); end = g.at + g.header.size })) l.channel_is
    ∙ ap (λ a. Some (record { channel = channel; assembly = a; at = oldest_from g.at (open_on g.header.channel g.header.track (l.gs ++ frames)); end = g.at + g.header.size })) segments_are
    ∙ ap (λ x. Some (record { channel = channel; assembly = s ∷ ss; at = x; end = g.at + g.header.size })) at_is
    ∙ ap (λ x. Some (record { channel = channel; assembly = s ∷ ss; at = place_after first frames; end = x })) l.end_is in
    let here : is_on channel t g.header ≡ true = and_from (eqb g.header.channel channel) (eqb g.header.track t) (eq-eqb g.header.channel channel l.channel_is) (eq-eqb g.header.track t l.track_is) in
    record {
      gives = record { run = l.run; gives = ap whole l.after ∙ done };
      later = g ∷ l.gs;
      cuts = l.after;
      free = ap (λ b. cond b (cond (ends_assembly g.header) [] (g ∷ open_on channel t (l.gs ++ frames))) (open_on channel t (l.gs ++ frames))) here
          ∙ ap (λ b. cond b [] (g ∷ open_on channel t (l.gs ++ frames))) l.ends_is;
      others = λ c u ne.
          ap (λ b. cond b (cond (ends_assembly g.header) [] (g ∷ open_on c u (l.gs ++ frames))) (open_on c u (l.gs ++ frames)))
          (ap (λ x. eqb x c && eqb g.header.track u) l.channel_is ∙ ap (λ x. eqb channel c && eqb x u) l.track_is ∙ ne) ∙ l.laid.others c u ne;
      open_same = ap (λ b. cond b (open_size (l.gs ++ frames) - payloads_size (open_on g.header.channel g.header.track (l.gs ++ frames))) (open_size (l.gs ++ frames) + payload_of_header g.header)) l.ends_is
          ∙ omega (arith, l.laid.size_is, ap payloads_size opens);
      few = omega (arith, l.bound, small);
    }

nil_true : {ss : List Segment} → ss ≡ [] → is_nil ss ≡ true
unfolding is_nil
nil_true e = ap is_nil e

nil_is : {ss : List Segment} → ss ≡ [] → is_nil ss ≡ false → ⊥
unfolding is_nil
nil_is e f = let g : is_nil [] ≡ false = sym (ap is_nil e) ∙ f in absurd (cc g)

-- the first segment may begin where the lane is free
first_in_place : (channel kind n : ℕ) (b4 b1 : Bool) → kind ≤ 1 → (kind ≡ 0 → b4 ≡ true) → in_place None (head channel (flags_of true b4 true b1) kind n) ≡ true
unfolding head
first_in_place channel kind n b4 b1 low alone =
    by_parts (is_set (flags_of true b4 true b1) 8) (is_set (flags_of true b4 true b1) 2) (is_set (flags_of true b4 true b1) 4) (bits true b4 true b1).segment (bits true b4 true b1).begins
    (elim (cases_eq kind 0) [
      | inl zero_is ↦ or_left (eqb kind 0 && is_set (flags_of true b4 true b1) 4) (eqb kind 1) (and_from (eqb kind 0) (is_set (flags_of true b4 true b1) 4) (eq-eqb kind 0 zero_is) ((bits true b4 true b1).ends ∙ alone zero_is))
      | inr ne ↦ or_right (eqb kind 0 && is_set (flags_of true b4 true b1) 4) (eqb kind 1) (eq-eqb kind 1 (omega (arith, low, ne)))
    ])
  where
    by_parts : (a b c : Bool) → a ≡ true → b ≡ true → ((eqb kind 0 && c) || eqb kind 1) ≡ true → ((a && b) && ((eqb kind 0 && c) || eqb kind 1)) ≡ true
    by_parts a b c pa pb pc = rw (pa, pb, pc) refl

pub comes_back : (limits : ℕ → ℕ) (first : ℕ) (frames : List Frame) (channel : ℕ) (segments : List Segment) (max_frame : ℕ) → 4096 ≤ max_frame → max_frame < 2 ^ 16
    → MayCome limits first frames channel segments max_frame → ComesBack limits first frames channel segments (laid channel segments max_frame)
comes_back limits first frames channel [] max_frame low small m = absurd (cc m.placed)
comes_back limits first frames channel (s ∷ ss) max_frame low small m =
    let f = first_of s ss m.placed in
    let few = follow_length s.kind ss f.follows in
    let cuts = assembly_cuts ss limits first channel (max_frame - 12) frames [] true s
    (record { most_low = omega (arith, low); most_small = omega (arith, small); allowed = λ p. omega (arith, low, m.allowed p); channel_low = m.channel_low })
    (record {
      kind_low = omega (arith, f.low);
      later_low = later_low f;
      follows = f.follows;
      laid = record { open_is = m.free; others = λ c t ne. refl; size_is = omega arith };
      in_place_is = in_place_first f;
      near = omega (arith, m.near, m.assembly_fits, few);
      assembly_fits = omega (arith, m.assembly_fits);
      open_fits = omega (arith, m.open_fits);
    }) in
    comes_of limits first channel cuts.0 (length (s ∷ ss)) frames s ss (laid channel (s ∷ ss) max_frame) f (omega (arith, few)) cuts.1
  where
    later_low : First s ss → is_nil ss ≡ false → 1 ≤ s.kind
    later_low f e = elim (cases_eq s.kind 0) [ inl zero_is ↦ absurd (nil_is (f.alone zero_is) e) | inr ne ↦ omega (arith, ne) ]

    in_place_first : First s ss → (b1 : Bool) (n : ℕ) → in_place None (head channel (flags_of true (is_nil ss) true b1) s.kind n) ≡ true
    in_place_first f b1 n = first_in_place channel s.kind n (is_nil ss) b1 f.low (λ e. nil_true (f.alone e))
