-- What an assembler keeps is bounded: by the payloads of open assemblies, which the checks of frames bound, and a part of a header.
use Rattle.std.proofs.Common.{◌≡◌, ℕ, zero, suc, ◌+◌, ◌-◌, ◌*◌, ◌/◌, ◌%◌, ◌^◌, ◌<◌, ◌≤◌, ◌&&◌, eqb, Bool, true, false, cond, List, [], ◌∷◌, ◌++◌, length, take, drop, get_or, Option, None, Some, Result, Ok, Err, inl, inr, ◌∙◌, ap, sym, subst, refl, arith}
use Rattle.std.proofs.lemmas.Bool.{eq-eqb, ne_eqb, eqb-true, eqb-false, cond_both, cases_order}
use Rattle.std.proofs.lemmas.Bool.Decides.{nat_tests}
use Rattle.std.proofs.lemmas.List.{length-append, length-drop}
use Rattle.octet_reading.specs.declared.why.Why.{Why}
use Rattle.octet_reading.specs.declared.why.Why.TheVariants.{BadFlags}
use Rattle.amqp_frames.specs.declared.assembler.Assembler.{Assembler}
use Rattle.amqp_frames.specs.declared.header.FrameHeader.{FrameHeader}
use Rattle.amqp_frames.specs.declared.lane.Lane.{Lane}
use Rattle.amqp_frames.specs.declared.done.Done.{Done}
use Rattle.amqp_frames.specs.Assembly.{IsPlaced}
use Rattle.amqp_frames.specs.Back.{octets_in}
use Rattle.amqp_frames.specs.Cut.{Frame, Cutting, Cuts, Faults, header_at, frame_of, is_on, open_on, open_size, ends_assembly, payloads_of, payloads_size, payload_of_header, place_after, frame_fault, form_fault, in_place, newest, size_fault, checked, grown, cut_octet, cut_on, cut, oldest_from, segments_of, has_kind, whole}
use Rattle.amqp_frames.specs.Frames.{track}
use Rattle.amqp_frames.specs.Kept.{kept_in_lane, kept_in_lanes, kept}
use Rattle.amqp_frames.specs.Lane.{lane_of, empty_lane}
use Rattle.amqp_frames.specs.declared.done.Fed.{Fed}
use Rattle.amqp_frames.specs.declared.done.FrameError.{FrameError}
use Rattle.amqp_frames.specs.declared.done.FrameError.TheVariants as error
use Rattle.amqp_frames.specs.Stands.{Between, Within, open_with, StandsAs, Stands, Feeds}
use Rattle.amqp_frames.specs.Touched.{lane_in}
use Rattle.amqp_frames.proofs.Lanes.{formed, fits_of, track_low, number_is}
use Rattle.amqp_frames.proofs.Octets.{octet_short, octet_twelfth, octet_long, header_same}

-- ---- what the frames of a cut are

-- a frame that was checked, with its payload whole
pub record Checked (f : Frame) (frames : List Frame) : Type 0 where
  pub track_small : f.header.track ≤ 1
  pub channel_small : f.header.channel ≤ 63
  pub assembly_small : payloads_size (f ∷ open_on f.header.channel f.header.track frames) ≤ 16777216
  pub whole : length f.payload ≡ payload_of_header f.header
  pub bounded : open_size (f ∷ frames) ≤ 33554432

pub AllChecked : List Frame → Type 0
AllChecked [] = Unit {0}
AllChecked (f ∷ frames) = Checked f frames × AllChecked frames

-- a frame that was checked, with a part of its payload
pub record AtHand (frames : List Frame) (rest : List ℕ) : Type 0 where
  pub track_small : (header_at rest).track ≤ 1
  pub channel_small : (header_at rest).channel ≤ 63
  pub assembly_small : payloads_size (open_on (header_at rest).channel (header_at rest).track frames) + payload_of_header (header_at rest) ≤ 16777216
  pub bounded : open_size frames + payload_of_header (header_at rest) ≤ 33554432
  pub within : length rest ≤ (header_at rest).size

pub IsChecked : Cutting → Type 0
unfolding AllChecked
IsChecked (Cuts frames rest) = AllChecked frames × (12 ≤ length rest → AtHand frames rest × (length rest < (header_at rest).size))
IsChecked (Faults frames at why) = Unit {0}

open_bounded : (frames : List Frame) → AllChecked frames → open_size frames ≤ 33554432
unfolding AllChecked
open_bounded [] a = omega arith
open_bounded (f ∷ frames) a = a.0.bounded

-- a frame that may end
grown_checked : (at : ℕ) (frames : List Frame) (rest : List ℕ) → AllChecked frames → 12 ≤ length rest → AtHand frames rest → IsChecked (grown at frames rest)
unfolding AllChecked IsChecked
grown_checked at frames rest a long h =
    cond_both (eqb (length rest) (header_at rest).size) (Cuts (frame_of at rest ∷ frames) []) (Cuts frames rest) IsChecked
    (λ e. (
      (
        record {
          track_small = h.track_small;
          channel_small = h.channel_small;
          assembly_small = h.assembly_small;
          whole = omega (arith, length-drop 12 rest, eqb-true (length rest) (header_at rest).size e);
          bounded = cond_both (ends_assembly (header_at rest)) (open_size frames - payloads_size (open_on (header_at rest).channel (header_at rest).track frames)) (open_size frames + payload_of_header (header_at rest)) (λ n. n ≤ 33554432)
              (λ x. omega (arith, h.bounded)) (λ x. h.bounded);
        },
        a,
      ),
      λ le. absurd (omega (arith, le)),
    ))
    (λ e. (a, λ le. (h, less e)))
  where
    less : eqb (length rest) (header_at rest).size ≡ false → length rest < (header_at rest).size
    less e = elim (cases_order (length rest) (header_at rest).size) [
      | inl same ↦ absurd (eqb-false (length rest) (header_at rest).size e same)
      | inr order ↦ elim order [ inl lt ↦ lt | inr gt ↦ absurd (omega (arith, gt, h.within)) ]
    ]

-- a header that may be refused
checked_checked : (o : Option Why) (limits : ℕ → ℕ) (at : ℕ) (frames : List Frame) (rest : List ℕ) → AllChecked frames → length rest ≡ 12
    → frame_fault (limits at) at (header_at rest) frames ≡ o → IsChecked (checked o at frames rest)
unfolding IsChecked
checked_checked (Some why) limits at frames rest a twelve e = tt
checked_checked None limits at frames rest a twelve e =
    let fits = fits_of (limits at) at (header_at rest) frames e in
    grown_checked at frames rest a (omega (arith, twelve)) (record {
      track_small = subst (λ n. n ≤ 1) (sym fits.form.track_is) (track_low (header_at rest).kind);
      channel_small = fits.form.channel_low;
      assembly_small = fits.assembly_fits;
      bounded = fits.open_fits;
      within = omega (arith, twelve, fits.form.low);
    })

octet_checked : (limits : ℕ → ℕ) (first : ℕ) (c : Cutting) (o : ℕ) → IsChecked c → IsChecked (cut_octet limits first c o)
unfolding IsChecked cut_octet
octet_checked limits first (Faults frames at why) o s = tt
octet_checked limits first (Cuts frames rest) o s =
    let n = length-append rest (o ∷ []) in
    elim (cases_order (length rest + 1) 12) [
      | inl same ↦
          subst IsChecked (sym (octet_twelfth limits first frames rest o same))
          (checked_checked (frame_fault (limits (place_after first frames)) (place_after first frames) (header_at (rest ++ o ∷ [])) frames) limits (place_after first frames) frames (rest ++ o ∷ []) s.0 (omega (arith, n, same)) refl)
      | inr order ↦ elim order [
        | inl lt ↦ subst IsChecked (sym (octet_short limits first frames rest o lt)) (s.0, λ le. absurd (omega (arith, n, lt, le)))
        | inr gt ↦
            let long : 12 ≤ length rest = omega (arith, gt) in
            let h = s.1 long in
            let same = header_same rest (o ∷ []) long in
            let size_is : (header_at (rest ++ o ∷ [])).size ≡ (header_at rest).size = ap (λ (g : FrameHeader). g.size) same in
            subst IsChecked (sym (octet_long limits first frames rest o long))
            (grown_checked (place_after first frames) frames (rest ++ o ∷ []) s.0 (omega (arith, n, long)) (record {
              track_small = subst (λ (g : FrameHeader). g.track ≤ 1) (sym same) h.0.track_small;
              channel_small = subst (λ (g : FrameHeader). g.channel ≤ 63) (sym same) h.0.channel_small;
              assembly_small = subst (λ (g : FrameHeader). payloads_size (open_on g.channel g.track frames) + payload_of_header g ≤ 16777216) (sym same) h.0.assembly_small;
              bounded = subst (λ (g : FrameHeader). open_size frames + payload_of_header g ≤ 33554432) (sym same) h.0.bounded;
              within = omega (arith, n, h.1, size_is);
            }))
      ]
    ]

octets_checked : (limits : ℕ → ℕ) (first : ℕ) (c : Cutting) (octets : List ℕ) → IsChecked c → IsChecked (cut_on limits first c octets)
octets_checked limits first c [] s = s
octets_checked limits first c (o ∷ octets) s = octets_checked limits first (cut_octet limits first c o) octets (octet_checked limits first c o s)

-- ---- sums over lanes

sum_below : ℕ → (ℕ → ℕ) → ℕ
sum_below zero f = 0
sum_below (suc n) f = sum_below n f + f n

sum_most : (n : ℕ) (f g : ℕ → ℕ) → ((i : ℕ) → f i ≤ g i) → sum_below n f ≤ sum_below n g
unfolding sum_below
sum_most zero f g le = omega arith
sum_most (suc n) f g le = omega (arith, sum_most n f g le, le n)

sum_longer : (n k : ℕ) (f : ℕ → ℕ) → sum_below n f ≤ sum_below (n + k) f
unfolding sum_below
sum_longer n zero f = subst (λ m. sum_below n f ≤ sum_below m f) (add_none n) (omega arith)
  where
    add_none : (m : ℕ) → m ≡ m + 0
    add_none m = omega arith
sum_longer n (suc k) f = subst (λ m. sum_below n f ≤ sum_below m f) (add_one n k) (omega (arith, sum_longer n k f))
  where
    add_one : (m j : ℕ) → suc (m + j) ≡ m + suc j
    add_one m j = omega arith

-- two that are the same but for one place
sum_same : (n : ℕ) (f g : ℕ → ℕ) → ((i : ℕ) → i < n → g i ≡ f i) → sum_below n g ≡ sum_below n f
unfolding sum_below
sum_same zero f g same = refl
sum_same (suc n) f g same = omega (arith, sum_same n f g (λ i lt. same i (omega (arith, lt))), same n (omega arith))

sum_changed : (n j : ℕ) (f g : ℕ → ℕ) → ((i : ℕ) → (i ≡ j → ⊥) → g i ≡ f i) → j < n → sum_below n g + f j ≡ sum_below n f + g j
unfolding sum_below
sum_changed zero j f g same lt = absurd (omega (arith, lt))
sum_changed (suc n) j f g same lt = elim (cases_order j n) [
  | inl here ↦
      let below = sum_same n f g (λ i less. same i (λ e. omega (arith, less, e, here))) in
      let at_g : g n ≡ g j = ap g (sym here) in
      let at_f : f n ≡ f j = ap f (sym here) in
      omega (arith, below, at_g, at_f)
  | inr order ↦ elim order [
    | inl less ↦ omega (arith, sum_changed n j f g same less, same n (λ e. omega (arith, e, less)))
    | inr more ↦ absurd (omega (arith, more, lt))
  ]
]

sum_front : (n : ℕ) (f : ℕ → ℕ) → sum_below (suc n) f ≡ f 0 + sum_below n (λ i. f (suc i))
unfolding sum_below
sum_front zero f = omega arith
sum_front (suc n) f = omega (arith, sum_front n f)

lanes_sum : (lanes : List Lane) → kept_in_lanes lanes ≡ sum_below (length lanes) (λ i. kept_in_lane (lane_in lanes i))
unfolding sum_below
lanes_sum [] = refl
lanes_sum (lane ∷ lanes) = omega (arith, lanes_sum lanes, sum_front (length lanes) (λ i. kept_in_lane (lane_in (lane ∷ lanes) i)))

-- ---- open payloads, by the number of their lane

-- how many octets the open frames of a lane have
opened : List Frame → ℕ → ℕ
opened frames i = payloads_size (open_on (i / 2) (i % 2) frames)

-- with a frame that doesn't end its assembly
opened_with : Frame → List Frame → ℕ → ℕ
opened_with f frames i = payloads_size (cond (is_on (i / 2) (i % 2) f.header) (f ∷ open_on (i / 2) (i % 2) frames) (open_on (i / 2) (i % 2) frames))

-- a frame is on its own lane alone
on_own : (i : ℕ) (h : FrameHeader) → h.track ≤ 1 → is_on (i / 2) (i % 2) h ≡ eqb i (2 * h.channel + h.track)
on_own i h low =
    let whole : 2 * (i / 2) + i % 2 ≡ i = omega arith in
    let small : i % 2 ≤ 1 = omega arith in
    sym (number_is (i / 2) (i % 2) h small low) ∙ ap (λ n. eqb n (2 * h.channel + h.track)) whole

own_half : (c t : ℕ) → t ≤ 1 → (2 * c + t) / 2 ≡ c
own_half c t le = omega (arith, le)

own_rest : (c t : ℕ) → t ≤ 1 → (2 * c + t) % 2 ≡ t
own_rest c t le = omega (arith, le)

own_opened : (frames : List Frame) (h : FrameHeader) → h.track ≤ 1 → opened frames (2 * h.channel + h.track) ≡ payloads_size (open_on h.channel h.track frames)
unfolding opened
own_opened frames h low =
    ap (λ n. payloads_size (open_on n ((2 * h.channel + h.track) % 2) frames)) (own_half h.channel h.track low)
    ∙ ap (λ n. payloads_size (open_on h.channel n frames)) (own_rest h.channel h.track low)

not_own : (i : ℕ) (h : FrameHeader) → h.track ≤ 1 → (i ≡ 2 * h.channel + h.track → ⊥) → is_on (i / 2) (i % 2) h ≡ false
not_own i h low ne = on_own i h low ∙ ne_eqb i (2 * h.channel + h.track) ne

is_own : (h : FrameHeader) → h.track ≤ 1 → is_on ((2 * h.channel + h.track) / 2) ((2 * h.channel + h.track) % 2) h ≡ true
is_own h low = on_own (2 * h.channel + h.track) h low ∙ eq-eqb (2 * h.channel + h.track) (2 * h.channel + h.track) refl

-- such a frame adds its payload
sum_with : (f : Frame) (frames : List Frame) (n : ℕ) → f.header.track ≤ 1 → ((m : ℕ) → sum_below m (opened frames) ≤ open_size frames)
    → sum_below n (opened_with f frames) ≤ open_size frames + payload_of_header f.header
unfolding opened opened_with
sum_with f frames n low all =
    let j = 2 * f.header.channel + f.header.track in
    let m = n + (j + 1) in
    let far : j < m = omega arith in
    let changed = sum_changed m j (opened frames) (opened_with f frames)
    (λ i ne. ap (λ b. payloads_size (cond b (f ∷ open_on (i / 2) (i % 2) frames) (open_on (i / 2) (i % 2) frames))) (not_own i f.header low ne)) far in
    let here : opened_with f frames j ≡ opened frames j + payload_of_header f.header =
    ap (λ b. payloads_size (cond b (f ∷ open_on (j / 2) (j % 2) frames) (open_on (j / 2) (j % 2) frames))) (is_own f.header low) in
    omega (arith, changed, here, all m, sum_longer n (j + 1) (opened_with f frames))

-- a frame that ends takes its assembly's away
sum_ended : (f : Frame) (frames : List Frame) (n : ℕ) → f.header.track ≤ 1 → ends_assembly f.header ≡ true → ((m : ℕ) → sum_below m (opened frames) ≤ open_size frames)
    → sum_below n (opened (f ∷ frames)) ≤ open_size frames - payloads_size (open_on f.header.channel f.header.track frames)
unfolding opened
sum_ended f frames n low ends all =
    let j = 2 * f.header.channel + f.header.track in
    let m = n + (j + 1) in
    let far : j < m = omega arith in
    let changed = sum_changed m j (opened frames) (opened (f ∷ frames))
    (λ i ne. ap (λ b. payloads_size (cond b (cond (ends_assembly f.header) [] (f ∷ open_on (i / 2) (i % 2) frames)) (open_on (i / 2) (i % 2) frames))) (not_own i f.header low ne)) far in
    let here : opened (f ∷ frames) j ≡ 0 =
    ap (λ b. payloads_size (cond b (cond (ends_assembly f.header) [] (f ∷ open_on (j / 2) (j % 2) frames)) (open_on (j / 2) (j % 2) frames))) (is_own f.header low)
    ∙ ap (λ b. payloads_size (cond b [] (f ∷ open_on (j / 2) (j % 2) frames))) ends in
    omega (arith, changed, here, all m, own_opened frames f.header low, sum_longer n (j + 1) (opened (f ∷ frames)))

sum_opened : (frames : List Frame) → AllChecked frames → (n : ℕ) → sum_below n (opened frames) ≤ open_size frames
unfolding AllChecked opened opened_with sum_below
sum_opened [] a n = none n
  where
    none : (k : ℕ) → sum_below k (opened []) ≤ 0
    none zero = omega arith
    none (suc k) = omega (arith, none k)
sum_opened (f ∷ frames) a n = by_end (ends_assembly f.header) refl (λ m. sum_opened frames a.1 m)
  where
    by_end : (b : Bool) → ends_assembly f.header ≡ b → ((m : ℕ) → sum_below m (opened frames) ≤ open_size frames)
        → sum_below n (opened (f ∷ frames)) ≤ cond (ends_assembly f.header) (open_size frames - payloads_size (open_on f.header.channel f.header.track frames)) (open_size frames + payload_of_header f.header)
    by_end true e all =
        subst (λ b. sum_below n (opened (f ∷ frames)) ≤ cond b (open_size frames - payloads_size (open_on f.header.channel f.header.track frames)) (open_size frames + payload_of_header f.header)) (sym e)
        (sum_ended f frames n a.0.track_small e all)
    by_end false e all =
        let same = sum_same n (opened_with f frames) (opened (f ∷ frames))
        (λ i lt. ap (λ b. payloads_size (cond (is_on (i / 2) (i % 2) f.header) (cond b [] (f ∷ open_on (i / 2) (i % 2) frames)) (open_on (i / 2) (i % 2) frames))) e) in
        subst (λ b. sum_below n (opened (f ∷ frames)) ≤ cond b (open_size frames - payloads_size (open_on f.header.channel f.header.track frames)) (open_size frames + payload_of_header f.header)) (sym e)
        (omega (arith, same, sum_with f frames n a.0.track_small all))

-- ---- a lane holds no more than the payloads of its frames

AllFit : List Frame → Type 0
AllFit [] = Unit {0}
AllFit (f ∷ frames) = (length f.payload ≤ payload_of_header f.header) × AllFit frames

open_fit : (c t : ℕ) (frames : List Frame) → AllChecked frames → AllFit (open_on c t frames)
unfolding AllChecked AllFit
open_fit c t [] a = tt
open_fit c t (f ∷ frames) a =
    cond_both (is_on c t f.header) (cond (ends_assembly f.header) [] (f ∷ open_on c t frames)) (open_on c t frames) AllFit
    (λ e. cond_both (ends_assembly f.header) [] (f ∷ open_on c t frames) AllFit (λ x. tt) (λ x. (omega (arith, a.0.whole), open_fit c t frames a.1)))
    (λ e. open_fit c t frames a.1)

-- a payload goes to one segment at most
one_part : (k t n : ℕ) → t ≤ 1 → cond (eqb k t) n 0 + cond (eqb k 2) n 0 + cond (eqb k 3) n 0 ≤ n
one_part k t n le = grind (arith, nat_tests)

part_length : (b : Bool) (p : List ℕ) → length (cond b p []) ≡ cond b (length p) 0
part_length true p = refl
part_length false p = refl

lane_fits : (t : ℕ) (frames : List Frame) → t ≤ 1 → AllFit frames → kept_in_lane (lane_of t frames) ≤ payloads_size frames
unfolding AllFit
lane_fits t [] le a = omega arith
lane_fits t (f ∷ frames) le a =
    let k = f.header.kind in
    omega (
      arith,
      lane_fits t frames le a.1,
      a.0,
      one_part k t (length f.payload) le,
      length-append (payloads_of t frames) (cond (eqb k t) f.payload []),
      part_length (eqb k t) f.payload,
      length-append (payloads_of 2 frames) (cond (eqb k 2) f.payload []),
      part_length (eqb k 2) f.payload,
      length-append (payloads_of 3 frames) (cond (eqb k 3) f.payload []),
      part_length (eqb k 3) f.payload,
    )

-- ---- the bound

between_kept : (a : Assembler) (limits : ℕ → ℕ) (first : ℕ) (frames : List Frame) (rest : List ℕ) → Between a limits first frames rest → AllChecked frames → kept a ≤ 2 ^ 25 + 11
unfolding opened
between_kept a limits first frames rest s c =
    let small = sum_most (length a.lanes.items) (λ i. kept_in_lane (lane_in a.lanes.items i)) (opened frames)
    (λ i.
    let whole : 2 * (i / 2) + i % 2 ≡ i = omega arith in
    let low : i % 2 ≤ 1 = omega arith in
    subst (λ n. kept_in_lane (lane_in a.lanes.items n) ≤ payloads_size (open_on (i / 2) (i % 2) frames)) whole
    (subst (λ l. kept_in_lane l ≤ payloads_size (open_on (i / 2) (i % 2) frames)) (sym (s.lanes_are (i / 2) (i % 2) low))
    (lane_fits (i % 2) (open_on (i / 2) (i % 2) frames) low (open_fit (i / 2) (i % 2) frames c)))) in
    omega (arith, lanes_sum a.lanes.items, small, sum_opened frames c (length a.lanes.items), open_bounded frames c, s.short, ap length s.partial_is)

within_kept : (a : Assembler) (limits : ℕ → ℕ) (first : ℕ) (frames : List Frame) (rest : List ℕ) → Within a limits first frames rest → AllChecked frames → AtHand frames rest → kept a ≤ 2 ^ 25 + 11
unfolding opened_with AllFit
within_kept a limits first frames rest w c h =
    let f = frame_of a.front.at rest in
    let fits : length f.payload ≤ payload_of_header f.header = omega (arith, length-drop 12 rest, h.within, w.long) in
    let small = sum_most (length a.lanes.items) (λ i. kept_in_lane (lane_in a.lanes.items i)) (opened_with f frames)
    (λ i.
    let whole : 2 * (i / 2) + i % 2 ≡ i = omega arith in
    let low : i % 2 ≤ 1 = omega arith in
    subst (λ n. kept_in_lane (lane_in a.lanes.items n) ≤ payloads_size (open_with a.front.at frames rest (i / 2) (i % 2))) whole
    (subst (λ l. kept_in_lane l ≤ payloads_size (open_with a.front.at frames rest (i / 2) (i % 2))) (sym (w.lanes_are (i / 2) (i % 2) low))
    (lane_fits (i % 2) (open_with a.front.at frames rest (i / 2) (i % 2)) low
    (cond_both (is_on (i / 2) (i % 2) (header_at rest)) (f ∷ open_on (i / 2) (i % 2) frames) (open_on (i / 2) (i % 2) frames) AllFit
    (λ e. (fits, open_fit (i / 2) (i % 2) frames c)) (λ e. open_fit (i / 2) (i % 2) frames c))))) in
    omega (arith, lanes_sum a.lanes.items, small, sum_with f frames (length a.lanes.items) h.track_small (sum_opened frames c), h.bounded, ap length w.partial_is)

-- whatever octets it took
pub stands_kept : (a : Assembler) (limits : ℕ → ℕ) (first : ℕ) (octets : List ℕ) → Stands a limits first octets → kept a ≤ 2 ^ 25 + 11
unfolding IsChecked AllChecked
stands_kept a limits first octets s = by_cut (cut limits first octets) (octets_checked limits first (Cuts [] []) octets (tt, λ le. absurd (omega (arith, le)))) s
  where
    by_cut : (c : Cutting) → IsChecked c → StandsAs a limits first c → kept a ≤ 2 ^ 25 + 11
    by_cut (Cuts frames rest) k (inl b) = between_kept a limits first frames rest b k.0
    by_cut (Cuts frames rest) k (inr w) = within_kept a limits first frames rest w.0 k.0 (k.1 w.0.long).0
    by_cut (Faults frames at why) k f = omega (arith, f.1)

-- and whatever a piece gave
pub feeds_kept : (a : Assembler) (limits : ℕ → ℕ) (first : ℕ) (octets piece : List ℕ) (r : Result Fed FrameError) → Feeds a limits first octets piece r → kept a ≤ 2 ^ 25 + 11
feeds_kept a limits first octets piece (Ok fed) f = stands_kept a limits first (octets ++ take fed.taken piece) f.0
feeds_kept a limits first octets piece (Err (error.Bad fault)) f = stands_kept a limits first (octets ++ piece) f.0
feeds_kept a limits first octets piece (Err error.NoMemory) f = stands_kept a limits first octets f

-- ---- what is handed out

-- an assembly that may be laid again
pub record IsSmall (done : Done) : Type 0 where
  pub channel_small : done.channel ≤ 63
  pub placed : IsPlaced done.assembly
  pub octets_small : octets_in done.assembly ≤ 16777216

segments_placed : (t : ℕ) (frames : List Frame) → IsPlaced (segments_of t frames)
segments_placed t frames = by_test (eqb t 0) (has_kind 2 frames) (has_kind 3 frames) (payloads_of 0 frames) (payloads_of 1 frames) (payloads_of 2 frames) (payloads_of 3 frames)
  where
    by_test : (a b c : Bool) (w x y z : List ℕ)
        → IsPlaced (cond a (record { kind = 0; octets = w } ∷ []) (record { kind = 1; octets = x } ∷ (cond b (record { kind = 2; octets = y } ∷ []) [] ++ cond c (record { kind = 3; octets = z } ∷ []) [])))
    by_test true b c w x y z = refl
    by_test false true true w x y z = refl
    by_test false true false w x y z = refl
    by_test false false true w x y z = refl
    by_test false false false w x y z = refl

segments_fit : (t : ℕ) (frames : List Frame) → t ≤ 1 → AllFit frames → octets_in (segments_of t frames) ≤ payloads_size frames
segments_fit t frames le a = elim (cases_order t 0) [
  | inl none ↦
      let is : segments_of t frames ≡ record { kind = 0; octets = payloads_of 0 frames } ∷ [] = ap (λ n. segments_of n frames) none in
      omega (arith, ap octets_in is, lane_fits 0 frames (omega arith) a)
  | inr order ↦
      let one : t ≡ 1 = elim order [ inl lt ↦ absurd (omega (arith, lt)) | inr gt ↦ omega (arith, gt, le) ] in
      omega (arith, ap (λ n. octets_in (segments_of n frames)) one, by_test (has_kind 2 frames) (has_kind 3 frames) (payloads_of 1 frames) (payloads_of 2 frames) (payloads_of 3 frames), lane_fits 1 frames (omega arith) a)
]
  where
    by_test : (b c : Bool) (x y z : List ℕ)
        → octets_in (record { kind = 1; octets = x } ∷ (cond b (record { kind = 2; octets = y } ∷ []) [] ++ cond c (record { kind = 3; octets = z } ∷ []) [])) ≤ length x + length y + length z
    by_test true true x y z = omega arith
    by_test true false x y z = omega arith
    by_test false true x y z = omega arith
    by_test false false x y z = omega arith

pub IsChecked-start : IsChecked (Cuts [] [])
unfolding IsChecked AllChecked
IsChecked-start = (tt, λ le. absurd (omega (arith, le)))

pub checked_octet : (limits : ℕ → ℕ) (first : ℕ) (c : Cutting) (o : ℕ) → IsChecked c → IsChecked (cut_octet limits first c o)
checked_octet limits first c o s = octet_checked limits first c o s

pub checked_done : (c : Cutting) (done : Done) → IsChecked c → whole c ≡ Some done → IsSmall done
unfolding IsChecked AllChecked AllFit
checked_done (Cuts [] []) done k e = absurd (cc e)
checked_done (Cuts (f ∷ frames) []) done k e =
    let d : Done = record { channel = f.header.channel; assembly = segments_of f.header.track (f ∷ open_on f.header.channel f.header.track frames); at = oldest_from f.at (open_on f.header.channel f.header.track frames); end = f.at + f.header.size } in
    let small : IsSmall d = record {
      channel_small = k.0.0.channel_small;
      placed = segments_placed f.header.track (f ∷ open_on f.header.channel f.header.track frames);
      octets_small = omega (
        arith,
        k.0.0.assembly_small,
        segments_fit f.header.track (f ∷ open_on f.header.channel f.header.track frames) k.0.0.track_small (omega (arith, k.0.0.whole), open_fit f.header.channel f.header.track frames k.0.1),
      );
    } in
    by_end (ends_assembly f.header) d small e
  where
    by_end : (b : Bool) (d : Done) → IsSmall d → cond b (Some d) None ≡ Some done → IsSmall done
    by_end true d small q = let same : d ≡ done = cc q in subst IsSmall same small
    by_end false d small q = absurd (cc q)
checked_done (Cuts frames (o ∷ rest)) done k e = absurd (cc e)
checked_done (Faults frames at why) done k e = absurd (cc e)
