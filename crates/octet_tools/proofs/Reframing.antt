-- Octets that are laid in other frames bring the same units.
use Rattle.std.proofs.Common.{◌≡◌, ℕ, zero, suc, ◌+◌, ◌-◌, ◌*◌, ◌^◌, ◌<◌, ◌≤◌, ◌&&◌, eqb, ltb, leb, Bool, true, false, cond, List, [], ◌∷◌, ◌++◌, length, take, drop, Option, None, Some, Result, Ok, Err, inl, inr, ◌∙◌, ap, sym, subst, refl, arith, append_assoc}
use Rattle.std.specs.Prelude.{bytes_eq}
use Rattle.std.proofs.lemmas.Bool.{and_parts, and_left, cases_lt, eqb-true, ltb-true, ltb-false, ne_eqb}
use Rattle.std.proofs.lemmas.List.{length-append, append-nil, take-append-drop, length-take-le, length-drop, nil_from_length}
use Rattle.octet_reading.specs.declared.why.Why.{Why}
use Rattle.amqp_terms.specs.declared.unit.Unit.{Unit as AnyUnit}
use Rattle.amqp_frames.specs.declared.assembly.Segment.{Segment}
use Rattle.amqp_frames.specs.declared.done.Done.{Done}
use Rattle.amqp_frames.specs.Assembly.{IsPlaced}
use Rattle.amqp_frames.specs.Back.{track_of, ComesBack}
use Rattle.amqp_frames.specs.Cut.{Frame, Cutting, Cuts, Faults, cut, cut_on, cut_octet, whole, all_quiet, open_on, open_size, place_after, ended_by, ends_assembly, segments_of, oldest_from}
use Rattle.amqp_frames.specs.Frames.{frames_from, laid}
use Rattle.amqp_frames.specs.Stands.{Run}
use Rattle.amqp_frames.proofs.Back.{comes_back, few_octets}
use Rattle.amqp_frames.proofs.Keeping.{IsChecked, IsChecked-start, checked_octet, checked_done, IsSmall}
use Rattle.amqp_commands.specs.declared.error.UnitFault.{UnitFault}
use Rattle.amqp_commands.specs.Units.{unit_in}
use Rattle.octet_tools.specs.declared.tool.OctetTool.{OctetTool}
use Rattle.octet_tools.specs.declared.tool.OctetTool.TheVariants as tool
use Rattle.octet_tools.specs.Course.{MayRun, protocol_header, Brings, Nothing, Gives, Breaks, unit_brings, done_brings, brings, limits, Course, Opens, Runs, Ends, stays, opened, opened_text, next, after, brings_text, texts, output}
use Rattle.octet_tools.specs.Units.{brings_units, unit_at, units_from, units, KeepsUnits}
use Rattle.octet_tools.proofs.Coursing.{after_parts, texts_parts, texts_end, cut_more, quiet_brings, opens_few, opens_all}

-- ---- units of further octets

units_parts : (c : Course) (xs ys : List ℕ) → units_from c (xs ++ ys) ≡ units_from c xs ++ units_from (after c xs) ys
units_parts c [] ys = refl
units_parts c (x ∷ xs) ys = ap (λ zs. unit_at c x ++ zs) (units_parts (next c x) xs ys) ∙ sym (append_assoc (unit_at c x) (units_from (next c x) xs) (units_from (after (next c x) xs) ys))

units_end : (at : ℕ) (why : Why) (xs : List ℕ) → units_from (Ends at why) xs ≡ []
units_end at why [] = refl
units_end at why (x ∷ xs) = units_end at why xs

record Still (first : ℕ) (octets xs : List ℕ) : Type 0 where
  pub goes : after (Runs first octets) xs ≡ Runs first (octets ++ xs)
  pub none : units_from (Runs first octets) xs ≡ []

still : (first : ℕ) (octets xs : List ℕ) → all_quiet limits first (cut limits first octets) xs ≡ true → Still first octets xs
still first octets [] q = record { goes = ap (Runs first) (sym (append-nil octets)); none = refl }
still first octets (x ∷ xs) q =
    let is : cut limits first (octets ++ x ∷ []) ≡ cut_octet limits first (cut limits first octets) x = cut_more first octets (x ∷ []) in
    let parts = and_parts _ (all_quiet limits first (cut_octet limits first (cut limits first octets) x) xs) q in
    let nothing : brings (cut limits first (octets ++ x ∷ [])) ≡ Nothing = ap brings is ∙ quiet_brings (cut_octet limits first (cut limits first octets) x) parts.0 in
    let later = still first (octets ++ x ∷ []) xs (ap (λ c. all_quiet limits first c xs) is ∙ parts.1) in
    let now : next (Runs first octets) x ≡ Runs first (octets ++ x ∷ []) = ap (stays first (octets ++ x ∷ [])) nothing in
    record {
      goes = ap (λ c. after c xs) now ∙ later.goes ∙ ap (Runs first) (append_assoc octets (x ∷ []) xs);
      none = ap (λ b. brings_units b ++ units_from (next (Runs first octets) x) xs) nothing ∙ ap (λ c. units_from c xs) now ∙ later.none;
    }

record Told (first : ℕ) (octets xs : List ℕ) (b : Brings) : Type 0 where
  pub goes : after (Runs first octets) xs ≡ stays first (octets ++ xs) b
  pub units_are : units_from (Runs first octets) xs ≡ brings_units b

told : (first : ℕ) (octets xs : List ℕ) (b : Brings) → Run limits first (cut limits first octets) xs → brings (cut_on limits first (cut limits first octets) xs) ≡ b → Told first octets xs b
told first octets xs b r e =
    let quiet = still first octets r.front r.before in
    let joined : (octets ++ r.front) ++ r.octet ∷ [] ≡ octets ++ xs = append_assoc octets r.front (r.octet ∷ []) ∙ ap (λ ys. octets ++ ys) (sym r.parts) in
    let here : brings (cut limits first ((octets ++ r.front) ++ r.octet ∷ [])) ≡ b = ap (λ ys. brings (cut limits first ys)) joined ∙ ap brings (cut_more first octets xs) ∙ e in
    record {
      goes = ap (after (Runs first octets)) r.parts ∙ after_parts (Runs first octets) r.front (r.octet ∷ []) ∙ ap (λ c. next c r.octet) quiet.goes
          ∙ ap (λ x. stays first ((octets ++ r.front) ++ r.octet ∷ []) x) here ∙ ap (λ ys. stays first ys b) joined;
      units_are = ap (units_from (Runs first octets)) r.parts ∙ units_parts (Runs first octets) r.front (r.octet ∷ [])
          ∙ ap (λ ys. ys ++ units_from (after (Runs first octets) r.front) (r.octet ∷ [])) quiet.none
          ∙ ap (λ c. units_from c (r.octet ∷ [])) quiet.goes ∙ append-nil (brings_units (brings (cut limits first ((octets ++ r.front) ++ r.octet ∷ []))))
          ∙ ap brings_units here;
    }

-- ---- the octets that are laid

-- whole frames, and none of them open
record IsFree (first : ℕ) (octets : List ℕ) (room : ℕ) : Type 0 where
  pub frames : List Frame
  pub cuts : cut limits first octets ≡ Cuts frames []
  pub free : (c t : ℕ) → open_on c t frames ≡ []
  pub none : open_size frames ≡ 0
  pub near : place_after first frames + room * 2 ^ 28 ≤ 2 ^ 60

end_place : (first : ℕ) (frames : List Frame) (done : Done) → ended_by frames ≡ Some done → place_after first frames ≡ done.end
end_place first [] done e = absurd (cc e)
end_place first (f ∷ frames) done e = by_end (ends_assembly f.header) (record { channel = f.header.channel; assembly = segments_of f.header.track (f ∷ open_on f.header.channel f.header.track frames); at = oldest_from f.at (open_on f.header.channel f.header.track frames); end = f.at + f.header.size }) refl e
  where
    by_end : (b : Bool) (d : Done) → d.end ≡ f.at + f.header.size → cond b (Some d) None ≡ Some done → f.at + f.header.size ≡ done.end
    by_end true d is q = let same : d ≡ done = cc q in sym is ∙ ap (λ (x : Done). x.end) same
    by_end false d is q = absurd (cc q)

-- an assembly that is laid brings its unit, and leaves no frame open
record Laying (first : ℕ) (octets : List ℕ) (room channel : ℕ) (segments : List Segment) (u : AnyUnit) (xs : List ℕ) : Type 0 where
  pub units_are : units_from (Runs first octets) xs ≡ (channel, u) ∷ []
  pub goes : after (Runs first octets) xs ≡ Runs first (octets ++ xs)
  pub free : IsFree first (octets ++ xs) room

laying : (first : ℕ) (octets : List ℕ) (room n : ℕ) (done : Done) (u : AnyUnit) → 4096 ≤ n → n < 2 ^ 16 → IsFree first octets (suc room) → IsSmall done → unit_in done.assembly ≡ Ok u
    → Laying first octets room done.channel done.assembly u (laid done.channel done.assembly n)
laying first octets room n done u low small s d is =
    let xs = laid done.channel done.assembly n in
    let b = comes_back limits first s.frames done.channel done.assembly n low small (record {
      placed = d.placed;
      channel_low = d.channel_small;
      allowed = λ place. omega (arith, small);
      free = s.free done.channel (track_of done.assembly);
      near = omega (arith, s.near);
      assembly_fits = d.octets_small;
      open_fits = omega (arith, s.none, d.octets_small);
    }) in
    let again : Done = record { channel = done.channel; assembly = done.assembly; at = place_after first s.frames; end = place_after first s.frames + length xs } in
    let on : cut_on limits first (cut limits first octets) xs ≡ Cuts (b.later ++ s.frames) [] = ap (λ c. cut_on limits first c xs) s.cuts ∙ b.cuts in
    let ended : ended_by (b.later ++ s.frames) ≡ Some again = sym (ap whole b.cuts) ∙ b.gives.gives in
    let told_ = told first octets xs (Gives again u) (subst (λ c. Run limits first c xs) (sym s.cuts) b.gives.run)
    (ap brings on ∙ ap done_brings ended ∙ ap (unit_brings again) is) in
    record {
      units_are = told_.units_are;
      goes = told_.goes;
      free = record {
        frames = b.later ++ s.frames;
        cuts = cut_more first octets xs ∙ on;
        free = λ c t. by_lane c t (eqb done.channel c && eqb (track_of done.assembly) t) refl b s;
        none = b.open_same ∙ s.none;
        near = omega (arith, end_place first (b.later ++ s.frames) again ended, b.few, d.octets_small, s.near);
      };
    }
  where
    by_lane : (c t : ℕ) (x : Bool) → (eqb done.channel c && eqb (track_of done.assembly) t) ≡ x
        → (b : ComesBack limits first s.frames done.channel done.assembly (laid done.channel done.assembly n)) → (f : IsFree first octets (suc room)) → open_on c t (b.later ++ s.frames) ≡ []
    by_lane c t true e b f =
        let parts = and_parts (eqb done.channel c) (eqb (track_of done.assembly) t) e in
        subst (λ k. open_on k t (b.later ++ s.frames) ≡ []) (eqb-true done.channel c parts.0)
        (subst (λ k. open_on done.channel k (b.later ++ s.frames) ≡ []) (eqb-true (track_of done.assembly) t parts.1) b.free)
    by_lane c t false e b f = b.others c t e ∙ s.free c t

-- ---- all frames of the input

-- where a unit came from
BroughtBy : Cutting → Brings → Type 0
BroughtBy c Nothing = Unit {0}
BroughtBy c (Gives done u) = (whole c ≡ Some done) × (unit_in done.assembly ≡ Ok u)
BroughtBy c (Breaks at why) = Unit {0}

brought : (c : Cutting) → BroughtBy c (brings c)
unfolding BroughtBy
brought (Faults frames at why) = tt
brought (Cuts frames rest) = by_whole (whole (Cuts frames rest)) refl
  where
    by_unit : (done : Done) (r : Result AnyUnit UnitFault) → whole (Cuts frames rest) ≡ Some done → unit_in done.assembly ≡ r → BroughtBy (Cuts frames rest) (unit_brings done r)
    by_unit done (Ok u) w e = (w, e)
    by_unit done (Err fault) w e = tt

    by_whole : (o : Option Done) → whole (Cuts frames rest) ≡ o → BroughtBy (Cuts frames rest) (done_brings o)
    by_whole None w = tt
    by_whole (Some done) w = by_unit done (unit_in done.assembly) w refl

less_room : (first : ℕ) (octets : List ℕ) (room : ℕ) → IsFree first octets (suc room) → IsFree first octets room
less_room first octets room s = record { frames = s.frames; cuts = s.cuts; free = s.free; none = s.none; near = omega (arith, s.near) }

reframed : (n : ℕ) (first : ℕ) (octets : List ℕ) (first' : ℕ) (octets' xs : List ℕ) → 4096 ≤ n → n < 2 ^ 16 → IsChecked (cut limits first octets) → IsFree first' octets' (length xs)
    → units_from (Runs first' octets') (texts (tool.Reframe n) (Runs first octets) xs) ≡ units_from (Runs first octets) xs
unfolding BroughtBy
reframed n first octets first' octets' [] low small k s = refl
reframed n first octets first' octets' (x ∷ xs) low small k s =
    by_brings (brings (cut limits first (octets ++ x ∷ []))) (brought (cut limits first (octets ++ x ∷ [])))
    (subst IsChecked (sym (cut_more first octets (x ∷ []))) (checked_octet limits first (cut limits first octets) x k))
    (λ first2 octets2 k2 s2. reframed n first (octets ++ x ∷ []) first2 octets2 xs low small k2 s2)
  where
    by_brings : (b : Brings) → BroughtBy (cut limits first (octets ++ x ∷ [])) b → IsChecked (cut limits first (octets ++ x ∷ []))
        → ((first2 : ℕ) (octets2 : List ℕ) → IsChecked (cut limits first (octets ++ x ∷ [])) → IsFree first2 octets2 (length xs)
        → units_from (Runs first2 octets2) (texts (tool.Reframe n) (Runs first (octets ++ x ∷ [])) xs) ≡ units_from (Runs first (octets ++ x ∷ [])) xs)
        → units_from (Runs first' octets') (brings_text (tool.Reframe n) b ++ texts (tool.Reframe n) (stays first (octets ++ x ∷ []) b) xs)
        ≡ brings_units b ++ units_from (stays first (octets ++ x ∷ []) b) xs
    by_brings Nothing w k2 f = f first' octets' k2 (less_room first' octets' (length xs) s)
    by_brings (Breaks at why) w k2 f = ap (units_from (Runs first' octets')) (texts_end (tool.Reframe n) at why xs) ∙ sym (units_end at why xs)
    by_brings (Gives d v) w k2 f =
        let l = laying first' octets' (length xs) n d v low small s (checked_done (cut limits first (octets ++ x ∷ [])) d k2 w.0) w.1 in
        let out = laid d.channel d.assembly n in
        let more = texts (tool.Reframe n) (Runs first (octets ++ x ∷ [])) xs in
        units_parts (Runs first' octets') out more ∙ ap (λ ys. ys ++ units_from (after (Runs first' octets') out) more) l.units_are
        ∙ ap (λ c. ((d.channel, v) ∷ []) ++ units_from c more) l.goes ∙ ap (λ ys. ((d.channel, v) ∷ []) ++ ys) (f first' (octets' ++ out) k2 l.free)

-- ---- the first eight octets

-- octets that begin no protocol header
IsSmallest : List ℕ → Type 0
IsSmallest [] = Unit {0}
IsSmallest (x ∷ xs) = x ≤ 15

not_header : (xs : List ℕ) → IsSmallest xs → 0 < length xs → bytes_eq xs protocol_header ≡ false
unfolding IsSmallest
not_header [] s some = absurd (omega arith)
not_header (x ∷ xs) s some = and_left (eqb x 65) (bytes_eq xs (77 ∷ 81 ∷ 80 ∷ 1 ∷ 1 ∷ 0 ∷ 10 ∷ [])) (ne_eqb x 65 (λ e. omega (arith, s, e)))

take_smallest : (n : ℕ) (xs : List ℕ) → IsSmallest xs → IsSmallest (take n xs)
unfolding IsSmallest
take_smallest zero xs s = tt
take_smallest (suc n) [] s = tt
take_smallest (suc n) (x ∷ xs) s = s

-- fewer than eight octets, and the eighth, bring no unit
opens_by : (before : List ℕ) (x : ℕ) (xs : List ℕ) → length before + length (x ∷ xs) ≤ 8 → (b : Bool) → ltb (length before + 1) 8 ≡ b
    → (length before + 1 < 8 → units_from (Opens (before ++ x ∷ [])) xs ≡ []) → units_from (cond (ltb (length before + 1) 8) (Opens (before ++ x ∷ [])) (opened (before ++ x ∷ []))) xs ≡ []
opens_by before x xs le true e f = ap (λ b. units_from (cond b (Opens (before ++ x ∷ [])) (opened (before ++ x ∷ []))) xs) e ∙ f (ltb-true (length before + 1) 8 e)
opens_by before x xs le false e f =
    let none : xs ≡ [] = nil_from_length xs (omega (arith, le, ltb-false (length before + 1) 8 e)) in
    ap (units_from (cond (ltb (length before + 1) 8) (Opens (before ++ x ∷ [])) (opened (before ++ x ∷ [])))) none

opens_none : (before xs : List ℕ) → length before + length xs ≤ 8 → units_from (Opens before) xs ≡ []
opens_none before [] le = refl
opens_none before (x ∷ xs) le = opens_by before x xs le (ltb (length before + 1) 8) refl (λ lt. opens_none (before ++ x ∷ []) xs (omega (arith, le, length-append before (x ∷ []))))

opens_eight : (eight : List ℕ) → length eight ≡ 8 → units_from (Opens []) eight ≡ []
opens_eight eight long = opens_none [] eight (omega (arith, long))

-- such octets are frames from the first on
unheaded : (xs : List ℕ) → IsSmallest xs → units_from (Opens []) xs ≡ units_from (Runs 0 []) xs
unheaded xs s = elim (cases_lt (length xs) 8) [
  | inl lt ↦ opens_none [] xs (omega (arith, lt)) ∙ sym (still 0 [] xs (few_octets limits 0 [] xs (omega (arith, lt)))).none
  | inr le ↦
      let eight = take 8 xs in
      let rest = drop 8 xs in
      let long : length eight ≡ 8 = length-take-le 8 xs le in
      let parts : eight ++ rest ≡ xs = take-append-drop 8 xs in
      let frames = still 0 [] eight (few_octets limits 0 [] eight (omega (arith, long))) in
      let here : after (Opens []) eight ≡ Runs 0 eight =
      (opens_all tool.Show [] eight (omega (arith, long)) (omega (arith, long))).0 ∙ ap (λ b. cond b (Runs 8 []) (Runs 0 eight)) (not_header eight (take_smallest 8 xs s) (omega (arith, long))) in
      ap (units_from (Opens [])) (sym parts) ∙ units_parts (Opens []) eight rest ∙ ap (λ ys. ys ++ units_from (after (Opens []) eight) rest) (opens_eight eight long)
      ∙ ap (λ c. units_from c rest) here
      ∙ sym (ap (λ c. units_from c rest) frames.goes) ∙ sym (ap (λ ys. ys ++ units_from (after (Runs 0 []) eight) rest) frames.none) ∙ sym (units_parts (Runs 0 []) eight rest) ∙ ap (units_from (Runs 0 [])) parts
]

-- what is laid begins with flags
laid_smallest : (channel : ℕ) (segments : List Segment) (n : ℕ) (more : List ℕ) → IsPlaced segments → IsSmallest (laid channel segments n ++ more)
unfolding IsSmallest frames_from
laid_smallest channel [] n more placed = absurd (cc placed)
laid_smallest channel (s ∷ []) n more placed = by_test (leb (length s.octets) (n - 12)) _ _ _
  where
    by_test : (b : Bool) (a c : List ℕ) (y : List ℕ) → IsSmallest ((cond b (15 ∷ a) (14 ∷ c) ++ y) ++ more)
    by_test true a c y = omega arith
    by_test false a c y = omega arith
laid_smallest channel (s ∷ s2 ∷ ss) n more placed = by_test (leb (length s.octets) (n - 12)) _ _ _
  where
    by_test : (b : Bool) (a c : List ℕ) (y : List ℕ) → IsSmallest ((cond b (11 ∷ a) (10 ∷ c) ++ y) ++ more)
    by_test true a c y = omega arith
    by_test false a c y = omega arith

-- and so does what `reframe` writes behind no protocol header
text_smallest : (n : ℕ) (first : ℕ) (octets xs : List ℕ) → IsChecked (cut limits first octets) → IsSmallest (texts (tool.Reframe n) (Runs first octets) xs)
unfolding IsSmallest BroughtBy
text_smallest n first octets [] k = tt
text_smallest n first octets (x ∷ xs) k =
    by_brings (brings (cut limits first (octets ++ x ∷ []))) (brought (cut limits first (octets ++ x ∷ [])))
    (subst IsChecked (sym (cut_more first octets (x ∷ []))) (checked_octet limits first (cut limits first octets) x k))
    (λ k2. text_smallest n first (octets ++ x ∷ []) xs k2)
  where
    by_brings : (b : Brings) → BroughtBy (cut limits first (octets ++ x ∷ [])) b → IsChecked (cut limits first (octets ++ x ∷ []))
        → (IsChecked (cut limits first (octets ++ x ∷ [])) → IsSmallest (texts (tool.Reframe n) (Runs first (octets ++ x ∷ [])) xs))
        → IsSmallest (brings_text (tool.Reframe n) b ++ texts (tool.Reframe n) (stays first (octets ++ x ∷ []) b) xs)
    by_brings Nothing w k2 f = f k2
    by_brings (Breaks at why) w k2 f = subst IsSmallest (sym (texts_end (tool.Reframe n) at why xs)) tt
    by_brings (Gives d v) w k2 f =
        laid_smallest d.channel d.assembly n (texts (tool.Reframe n) (Runs first (octets ++ x ∷ [])) xs) (checked_done (cut limits first (octets ++ x ∷ [])) d k2 w.0).placed

all_checked : (first : ℕ) (c : Cutting) (xs : List ℕ) → IsChecked c → IsChecked (cut_on limits first c xs)
all_checked first c [] k = k
all_checked first c (x ∷ xs) k = all_checked first (cut_octet limits first c x) xs (checked_octet limits first c x k)

fresh : (first : ℕ) (room : ℕ) → first ≤ 8 → room ≤ 2 ^ 30 → IsFree first [] room
fresh first room low few = record { frames = []; cuts = refl; free = λ c t. refl; none = refl; near = omega (arith, low, few) }

reframe_keeps : (n : ℕ) (octets : List ℕ) → 4096 ≤ n → n < 2 ^ 16 → length octets ≤ 2 ^ 30 → units (output (tool.Reframe n) octets) ≡ units octets
unfolding IsSmallest
reframe_keeps n octets low small few = elim (cases_lt (length octets) 8) [
  | inl lt ↦ ap units (opens_few (tool.Reframe n) [] octets (omega (arith, lt))).1 ∙ sym (opens_none [] octets (omega (arith, lt)))
  | inr le ↦ by_header (bytes_eq (take 8 octets) protocol_header) refl (length-take-le 8 octets le) (take-append-drop 8 octets) (length-drop 8 octets)
]
  where
    by_eight : (b : Bool) (eight rest : List ℕ) → bytes_eq eight protocol_header ≡ b → length rest ≤ 2 ^ 30
        → units (opened_text (tool.Reframe n) eight ++ texts (tool.Reframe n) (opened eight) rest) ≡ units_from (opened eight) rest
    by_eight true eight rest is le =
        ap (λ b. units (cond b protocol_header [] ++ texts (tool.Reframe n) (cond b (Runs 8 []) (Runs 0 eight)) rest)) is
        ∙ units_parts (Opens []) protocol_header (texts (tool.Reframe n) (Runs 8 []) rest)
        ∙ ap (λ ys. ys ++ units_from (after (Opens []) protocol_header) (texts (tool.Reframe n) (Runs 8 []) rest)) (opens_eight protocol_header refl)
        ∙ ap (λ c. units_from c (texts (tool.Reframe n) (Runs 8 []) rest)) (opens_all tool.Show [] protocol_header (omega arith) refl).0
        ∙ reframed n 8 [] 8 [] rest low small IsChecked-start (fresh 8 (length rest) (omega arith) le)
        ∙ sym (ap (λ b. units_from (cond b (Runs 8 []) (Runs 0 eight)) rest) is)
    by_eight false eight rest is le =
        ap (λ b. units (cond b protocol_header [] ++ texts (tool.Reframe n) (cond b (Runs 8 []) (Runs 0 eight)) rest)) is
        ∙ unheaded (texts (tool.Reframe n) (Runs 0 eight) rest) (text_smallest n 0 eight rest (all_checked 0 (Cuts [] []) eight IsChecked-start))
        ∙ reframed n 0 eight 0 [] rest low small (all_checked 0 (Cuts [] []) eight IsChecked-start) (fresh 0 (length rest) (omega arith) le)
        ∙ sym (ap (λ b. units_from (cond b (Runs 8 []) (Runs 0 eight)) rest) is)

    by_header : (b : Bool) → bytes_eq (take 8 octets) protocol_header ≡ b → length (take 8 octets) ≡ 8 → take 8 octets ++ drop 8 octets ≡ octets → length (drop 8 octets) ≡ length octets - 8
        → units (output (tool.Reframe n) octets) ≡ units octets
    by_header b is long parts left =
        let eight = take 8 octets in
        let rest = drop 8 octets in
        let o = opens_all (tool.Reframe n) [] eight (omega (arith, long)) (omega (arith, long)) in
        let wrote : output (tool.Reframe n) octets ≡ opened_text (tool.Reframe n) eight ++ texts (tool.Reframe n) (opened eight) rest =
        ap (output (tool.Reframe n)) (sym parts) ∙ texts_parts (tool.Reframe n) (Opens []) eight rest ∙ ap (λ ys. ys ++ texts (tool.Reframe n) (after (Opens []) eight) rest) o.1
        ∙ ap (λ c. opened_text (tool.Reframe n) eight ++ texts (tool.Reframe n) c rest) o.0 in
        let came : units octets ≡ units_from (opened eight) rest =
        ap units (sym parts) ∙ units_parts (Opens []) eight rest ∙ ap (λ ys. ys ++ units_from (after (Opens []) eight) rest) (opens_eight eight long) ∙ ap (λ c. units_from c rest) o.0 in
        ap units wrote ∙ by_eight b eight rest is (omega (arith, left, few)) ∙ sym came

pub keeps_units : (t : OctetTool) → MayRun t → KeepsUnits t
keeps_units tool.Show may = tt
keeps_units (tool.Reframe n) may = λ octets word few. reframe_keeps n octets may word few
