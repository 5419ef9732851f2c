-- A piece is heard unit by unit.
use Rattle.std.proofs.Common.{◌≡◌, ℕ, cond, flat_map, eqb, true, false, List, [], ◌∷◌, ◌++◌, length, take, drop, fold, Option, None, Some, Result, Ok, Err, ◌⊎◌, inl, inr, ◌∙◌, ap, sym, subst, refl, arith, append_assoc}
use Rattle.std.proofs.lemmas.Bool.{eqb-true, false≢true}
use Rattle.std.proofs.lemmas.List.{append-nil, take-append-drop, length-drop}
use Rattle.std.proofs.Math.Seq.{take-length}
use Rattle.amqp_terms.specs.declared.unit.Unit.{Unit as AnyUnit}
use Rattle.amqp_terms.specs.declared.event.HubEvent.TheVariants as event
use Rattle.history_model.specs.Arrivals.{Arrival, Hears}
use Rattle.broker_engine.specs.declared.intake.Closing.{Closing}
use Rattle.broker_engine.specs.declared.conn.Conn.{Conn}
use Rattle.broker_engine.specs.declared.intake.Fed.{Fed}
use Rattle.broker_engine.specs.declared.intake.State.{State}
use Rattle.broker_engine.specs.declared.intake.State.TheVariants as state
use Rattle.amqp_frames.specs.Cut.{cut}
use Rattle.broker_engine.specs.Talk.{Talk, Open, Shut, Says, Waits, Tells, Ends, talk_octet, talk, says, is_shut}
use Rattle.broker_engine.specs.Feeds.{Talks, TalksAs, Fits, TellsOwn, is_own}
use Rattle.conn_core.specs.Server.{is_of_connection}
use Rattle.amqp_terms.specs.declared.unit.Unit.TheVariants as unit
use Rattle.amqp_terms.specs.declared.control.Control.{Control}
use Rattle.amqp_terms.specs.declared.control.Control.TheVariants as control
use Rattle.history_model.specs.Answers.{answers}
use Rattle.history_model.specs.Standing.{World, world}
use Rattle.history_model.specs.State.{State as Broker, state, covers_unit, covers_control}
use Rattle.broker_engine.specs.Trace.{Went, sent_before, hear_unit, hear_octets, hear_piece}
use Rattle.broker_engine.specs.Wire.{out_octets, closing_octets}
use Rattle.broker_engine.proofs.Saying.{talk_parts}
use Rattle.broker_engine.proofs.Hears.{HeardAs, heard_as}
use Rattle.hub_core.specs.declared.hub.Hub.{Hub}
use Rattle.hub_core.specs.Hub.{Serves}
use Rattle.line_runs.specs.declared.tool.Stop.{Stop}
use Rattle.line_runs.specs.declared.tool.Stop.TheVariants.{BadLine, Unbuilt, NoMemory}
use Rattle.trace_tool.specs.declared.hearing.Heard.{Heard}
use Rattle.trace_tool.specs.Hearing.{SomeHeard, HeardOne, UnitDone, HeardSome, HeardEnd, SomeDone, HeardPiece, PieceDone}

sent_none : (w : Option Went) → w ≡ sent_before [] w
sent_none None = refl
sent_none (Some w) = refl

sent_twice : (a b : List ℕ) (w : Option Went) → sent_before a (sent_before b w) ≡ sent_before (a ++ b) w
sent_twice a b None = refl
sent_twice a b (Some w) = ap (λ xs. Some (record { sent = xs; heard = w.heard; refused = w.refused })) (sym (append_assoc a b w.sent))

no_octets : (xs : List ℕ) → length xs ≡ 0 → xs ≡ []
no_octets [] e = refl
no_octets (x ∷ xs) e = absurd (omega arith)

-- ---- what a connection gave

-- a unit
pub record Told (s : Says) (taken k : ℕ) (u : AnyUnit) (old new : List ℕ) : Type 0 where
  pub says_is : s ≡ Tells taken k u
  pub same : new ≡ old

pub told : (s : Says) (all taken k : ℕ) (u : AnyUnit) (closed : Option Closing) (old new : List ℕ) → Fits s all (record { taken = taken; unit = Some (k, u); closed = closed }) old new → Told s taken k u old new
told Waits all taken k u closed old new f = let e : Some (k, u) ≡ None = ap (λ (x : Fed). x.unit) f.0 in absurd (cc e)
told (Tells n j v) all taken k u closed old new f =
    let e : Some (k, u) ≡ Some (j, v) = ap (λ (x : Fed). x.unit) f.0 in
    let n_is : taken ≡ n = ap (λ (x : Fed). x.taken) f.0 in
    let both : ◌≡◌ {A = ℕ × AnyUnit} (k, u) (j, v) = cc e in
    let k_is : k ≡ j = ap (λ (x : ℕ × AnyUnit). x.0) both in
    let u_is : u ≡ v = ap (λ (x : ℕ × AnyUnit). x.1) both in
    record { says_is = ap (λ m. Tells m j v) (sym n_is) ∙ ap (λ m. Tells taken m v) (sym k_is) ∙ ap (λ m. Tells taken k m) (sym u_is); same = f.1 }
told (Ends closing) all taken k u closed old new f = let e : Some (k, u) ≡ None = ap (λ (x : Fed). x.unit) f.0 in absurd (cc e)

-- the end
pub record Ended (s : Says) (all taken : ℕ) (closing : Closing) (old new : List ℕ) : Type 0 where
  pub says_is : s ≡ Ends closing
  pub all_is : taken ≡ all
  pub sent : new ≡ old ++ closing_octets closing.why

pub ended : (s : Says) (all taken : ℕ) (closing : Closing) (old new : List ℕ) → Fits s all (record { taken = taken; unit = None; closed = Some closing }) old new → Ended s all taken closing old new
ended Waits all taken closing old new f = let e : Some closing ≡ None = ap (λ (x : Fed). x.closed) f.0 in absurd (cc e)
ended (Tells n j v) all taken closing old new f = let e : Some closing ≡ None = ap (λ (x : Fed). x.closed) f.0 in absurd (cc e)
ended (Ends c) all taken closing old new f =
    let e : Some closing ≡ Some c = ap (λ (x : Fed). x.closed) f.0 in
    let same : closing ≡ c = cc e in
    record { says_is = ap Ends (sym same); all_is = ap (λ (x : Fed). x.taken) f.0; sent = f.1 ∙ ap (λ (x : Closing). old ++ closing_octets x.why) (sym same) }

-- nothing
pub record Waited (s : Says) (all taken : ℕ) (old new : List ℕ) : Type 0 where
  pub says_is : s ≡ Waits
  pub all_is : taken ≡ all
  pub same : new ≡ old

pub waited : (s : Says) (all taken : ℕ) (old new : List ℕ) → Fits s all (record { taken = taken; unit = None; closed = None }) old new → Waited s all taken old new
waited Waits all taken old new f = record { says_is = refl; all_is = ap (λ (x : Fed). x.taken) f.0; same = f.1 }
waited (Tells n j v) all taken old new f = let e : None ≡ Some (j, v) = ap (λ (x : Fed). x.unit) f.0 in absurd (cc e)
waited (Ends c) all taken old new f = let e : None ≡ Some c = ap (λ (x : Fed). x.closed) f.0 in absurd (cc e)

-- ---- octets up to the end of a unit

-- a unit was heard
pub some_unit : {K : Type 0} (hub : Hub K) (conn : Conn) (h : List Arrival) (n : ℕ) (before octets old mid new : List ℕ) (taken k : ℕ) (u : AnyUnit)
    → Told (says (talk before) octets) taken k u old mid → Talks conn (before ++ take taken octets) → HeardOne hub h (event.Unit n k u) mid new
    → HeardSome hub conn h n before octets old new taken
some_unit hub conn h n before octets old mid new taken k u t talks one = record {
  more = one.more;
  then_ = Hears (event.Unit n k u) ∷ h;
  goes = subst (λ s. HeardAs s n (talk before) octets h) t.says_is (heard_as n (talk before) octets h)
      ∙ one.goes (λ more. hear_octets n (fold talk_octet (talk before) (take taken octets)) (drop taken octets) more)
      ∙ ap (λ x. sent_before one.more (hear_octets n x (drop taken octets) (Hears (event.Unit n k u) ∷ h))) (sym (talk_parts before (take taken octets)));
  sent = one.sent ∙ ap (λ xs. xs ++ one.more) t.same;
  serves = one.serves;
  talks = talks;
}

-- a unit isn't built
pub some_unbuilt : (h : List Arrival) (n : ℕ) (before octets old mid : List ℕ) (taken k : ℕ) (u : AnyUnit)
    → Told (says (talk before) octets) taken k u old mid → ((rest : List Arrival → Option Went) → hear_unit h (event.Unit n k u) rest ≡ None) → hear_octets n (talk before) octets h ≡ None
some_unbuilt h n before octets old mid taken k u t none =
    subst (λ s. HeardAs s n (talk before) octets h) t.says_is (heard_as n (talk before) octets h)
    ∙ none (λ more. hear_octets n (fold talk_octet (talk before) (take taken octets)) (drop taken octets) more)

-- a unit of which nothing is said, or what became of it
pub some_done : {K : Type 0} (hub : Hub K) (conn : Conn) (h : List Arrival) (n : ℕ) (before octets old mid new : List ℕ) (taken k : ℕ) (u : AnyUnit)
    → Told (says (talk before) octets) taken k u old mid → Talks conn (before ++ take taken octets) → UnitDone hub h (event.Unit n k u) mid new (Ok tt)
    → SomeDone hub conn h n before octets old new (Ok (record { taken = taken; refused = None }))
some_done hub conn h n before octets old mid new taken k u t talks (inl lacks) = inl (some_unbuilt h n before octets old mid taken k u t lacks)
some_done hub conn h n before octets old mid new taken k u t talks (inr one) = inr (some_unit hub conn h n before octets old mid new taken k u t talks one)

-- it stopped at the unit
pub some_stopped : {K : Type 0} (hub : Hub K) (conn : Conn) (h : List Arrival) (n : ℕ) (before octets old mid new : List ℕ) (taken k : ℕ) (u : AnyUnit) (stop : Stop)
    → Told (says (talk before) octets) taken k u old mid → UnitDone hub h (event.Unit n k u) mid new (Err stop) → SomeDone hub conn h n before octets old new (Err stop)
some_stopped hub conn h n before octets old mid new taken k u stop t (inl lacks) = inl (some_unbuilt h n before octets old mid taken k u t lacks)
some_stopped hub conn h n before octets old mid new taken k u Unbuilt t (inr d) = absurd d
some_stopped hub conn h n before octets old mid new taken k u NoMemory t (inr d) = inr tt
some_stopped hub conn h n before octets old mid new taken k u (BadLine why) t (inr d) = absurd d

-- the end was heard
pub some_end : {K : Type 0} (hub : Hub K) (conn : Conn) (h : List Arrival) (n : ℕ) (before octets old new : List ℕ) (taken : ℕ) (closing : Closing)
    → Ended (says (talk before) octets) (length octets) taken closing old new → Talks conn (before ++ take taken octets) → Serves hub (Hears (event.Lost n) ∷ h)
    → HeardEnd hub conn h n before octets old new closing
some_end hub conn h n before octets old new taken closing e talks serves = record {
  goes = subst (λ s. HeardAs s n (talk before) octets h) e.says_is (heard_as n (talk before) octets h);
  sent = e.sent;
  serves = serves;
  talks = subst (λ xs. Talks conn (before ++ xs)) (ap (λ m. take m octets) e.all_is ∙ take-length octets) talks;
}

-- nothing was heard
pub some_none : {K : Type 0} (hub : Hub K) (conn : Conn) (h : List Arrival) (n : ℕ) (before octets old new : List ℕ) (taken : ℕ)
    → Waited (says (talk before) octets) (length octets) taken old new → Talks conn (before ++ take taken octets) → Serves hub h → HeardSome hub conn h n before octets old new taken
some_none hub conn h n before octets old new taken w talks serves =
    let all : take taken octets ≡ octets = ap (λ m. take m octets) w.all_is ∙ take-length octets in
    let none : drop taken octets ≡ [] = no_octets (drop taken octets) (omega (arith, length-drop taken octets, w.all_is)) in
    record {
      more = [];
      then_ = h;
      goes = subst (λ s. HeardAs s n (talk before) octets h) w.says_is (heard_as n (talk before) octets h)
          ∙ ap (λ t. hear_octets n t [] h) (ap (fold talk_octet (talk before)) (sym all) ∙ sym (talk_parts before (take taken octets)))
          ∙ ap (λ xs. hear_octets n (talk (before ++ take taken octets)) xs h) (sym none)
          ∙ sent_none (hear_octets n (talk (before ++ take taken octets)) (drop taken octets) h);
      sent = w.same ∙ sym (append-nil old);
      serves = serves;
      talks = talks;
    }

-- a unit for the connection itself, of which nothing is said
own_uncovered : (w : World) (s : Broker) (n k : ℕ) (u : AnyUnit) → is_own u ≡ true → covers_unit w s n k u ≡ false
own_uncovered w s n k (unit.Command sync command content) own = absurd (false≢true own)
own_uncovered w s n k (unit.Control c) own = by_control c own
  where
    by_control : (x : Control) → is_of_connection x ≡ true → covers_control w n k x ≡ false
    by_control (control.ConnectionStart a b c) own = refl
    by_control (control.ConnectionStartOk a b c d) own = refl
    by_control (control.ConnectionSecure a) own = refl
    by_control (control.ConnectionSecureOk a) own = refl
    by_control (control.ConnectionTune a b c d) own = refl
    by_control (control.ConnectionTuneOk a b c) own = refl
    by_control (control.ConnectionOpen a b c) own = refl
    by_control (control.ConnectionOpenOk a) own = refl
    by_control control.ConnectionHeartbeat own = refl
    by_control (control.ConnectionClose a b) own = refl
    by_control control.ConnectionCloseOk own = refl
    by_control (control.SessionAttach a b) own = absurd (false≢true own)
    by_control (control.SessionAttached a) own = absurd (false≢true own)
    by_control (control.SessionDetach a) own = absurd (false≢true own)
    by_control (control.SessionDetached a b) own = absurd (false≢true own)
    by_control (control.SessionRequestTimeout a) own = absurd (false≢true own)
    by_control (control.SessionTimeout a) own = absurd (false≢true own)
    by_control (control.SessionCommandPoint a b) own = absurd (false≢true own)
    by_control (control.SessionExpected a b) own = absurd (false≢true own)
    by_control (control.SessionConfirmed a b) own = absurd (false≢true own)
    by_control (control.SessionCompleted a b) own = absurd (false≢true own)
    by_control (control.SessionKnownCompleted a) own = absurd (false≢true own)
    by_control (control.SessionFlush a b c) own = absurd (false≢true own)
    by_control (control.SessionGap a) own = absurd (false≢true own)

pub own_lacks : (h : List Arrival) (n : ℕ) (before octets : List ℕ) → TellsOwn (says (talk before) octets) → hear_octets n (talk before) octets h ≡ None
own_lacks h n before octets own = by_says (says (talk before) octets) own (heard_as n (talk before) octets h)
  where
    by_says : (s : Says) → TellsOwn s → HeardAs s n (talk before) octets h → hear_octets n (talk before) octets h ≡ None
    by_says Waits own heard = absurd own
    by_says (Ends closing) own heard = absurd own
    by_says (Tells taken k u) own heard =
        heard ∙ ap (λ b. cond b (sent_before (flat_map out_octets (answers (world h) (event.Unit n k u))) (hear_octets n (fold talk_octet (talk before) (take taken octets)) (drop taken octets) (Hears (event.Unit n k u) ∷ h))) None)
        (own_uncovered (world h) (state h) n k u own)

-- ---- a whole piece

-- the octets so far were heard, and the rest follows
pub record Going {K : Type 0} (hub : Hub K) (conn : Conn) (h : List Arrival) (n : ℕ) (before octets rest old new : List ℕ) : Type 0 where
  pub sofar : List ℕ
  pub then_ : List Arrival
  pub front : List ℕ
  pub parts : octets ≡ front ++ rest
  pub goes : hear_octets n (talk before) octets h ≡ sent_before sofar (hear_octets n (talk (before ++ front)) rest then_)
  pub sent : new ≡ old ++ sofar
  pub serves : Serves hub then_
  pub talks : Talks conn (before ++ front)

pub going_start : {K : Type 0} (hub : Hub K) (conn : Conn) (h : List Arrival) (n : ℕ) (before octets old : List ℕ) → Serves hub h → Talks conn before → Going hub conn h n before octets octets old old
going_start hub conn h n before octets old serves talks = record {
  sofar = [];
  then_ = h;
  front = [];
  parts = refl;
  goes = sent_none (hear_octets n (talk before) octets h) ∙ ap (λ xs. sent_before [] (hear_octets n (talk xs) octets h)) (sym (append-nil before));
  sent = sym (append-nil old);
  serves = serves;
  talks = subst (Talks conn) (sym (append-nil before)) talks;
}

pub going_more : {K : Type 0} (hub next : Hub K) (conn then_conn : Conn) (h : List Arrival) (n : ℕ) (before octets rest old mid new : List ℕ) (taken : ℕ)
    (g : Going hub conn h n before octets rest old mid) → HeardSome next then_conn g.then_ n (before ++ g.front) rest mid new taken
    → Going next then_conn h n before octets (drop taken rest) old new
going_more hub next conn then_conn h n before octets rest old mid new taken g s =
    let joined : (before ++ g.front) ++ take taken rest ≡ before ++ (g.front ++ take taken rest) = append_assoc before g.front (take taken rest) in
    record {
      sofar = g.sofar ++ s.more;
      then_ = s.then_;
      front = g.front ++ take taken rest;
      parts = g.parts ∙ ap (λ xs. g.front ++ xs) (sym (take-append-drop taken rest)) ∙ sym (append_assoc g.front (take taken rest) (drop taken rest));
      goes = g.goes ∙ ap (sent_before g.sofar) s.goes ∙ sent_twice g.sofar s.more (hear_octets n (talk ((before ++ g.front) ++ take taken rest)) (drop taken rest) s.then_)
          ∙ ap (λ xs. sent_before (g.sofar ++ s.more) (hear_octets n (talk xs) (drop taken rest) s.then_)) joined;
      sent = s.sent ∙ ap (λ xs. xs ++ s.more) g.sent ∙ append_assoc old g.sofar s.more;
      serves = s.serves;
      talks = subst (Talks then_conn) joined s.talks;
    }

-- an open connection hears its octets
hears_open : (n : ℕ) (t : Talk) (octets : List ℕ) (h : List Arrival) → is_shut t ≡ false → hear_piece n t octets h ≡ hear_octets n t octets h
hears_open n (Open c) octets h e = refl
hears_open n Shut octets h e = absurd (cc e)

pub going_ends : {K : Type 0} (hub next : Hub K) (conn : Conn) (h : List Arrival) (n : ℕ) (before octets rest old new : List ℕ) (g : Going hub conn h n before octets rest old new)
    → is_shut (talk before) ≡ false → rest ≡ [] → Serves next (Hears (event.Drain n) ∷ g.then_) → HeardPiece next conn h n before octets old new None
going_ends hub next conn h n before octets rest old new g open_ none serves =
    let all : octets ≡ g.front = g.parts ∙ ap (λ xs. g.front ++ xs) none ∙ append-nil g.front in
    record {
      went = record { sent = g.sofar ++ []; heard = Hears (event.Drain n) ∷ g.then_; refused = None };
      goes = hears_open n (talk before) octets h open_ ∙ g.goes ∙ ap (λ xs. sent_before g.sofar (hear_octets n (talk (before ++ g.front)) xs g.then_)) none;
      refused_is = refl;
      sent = g.sent ∙ ap (λ xs. old ++ xs) (sym (append-nil g.sofar));
      serves = serves;
      talks = subst (λ xs. Talks conn (before ++ xs)) (sym all) g.talks;
    }

pub going_closes : {K : Type 0} (hub next : Hub K) (conn then_conn : Conn) (h : List Arrival) (n : ℕ) (before octets rest old mid new : List ℕ) (closing : Closing) (g : Going hub conn h n before octets rest old mid)
    → is_shut (talk before) ≡ false → HeardEnd next then_conn g.then_ n (before ++ g.front) rest mid new closing → HeardPiece next then_conn h n before octets old new (Some closing)
going_closes hub next conn then_conn h n before octets rest old mid new closing g open_ e = record {
  went = record { sent = g.sofar ++ closing_octets closing.why; heard = Hears (event.Lost n) ∷ g.then_; refused = Some closing };
  goes = hears_open n (talk before) octets h open_ ∙ g.goes ∙ ap (sent_before g.sofar) e.goes;
  refused_is = refl;
  sent = e.sent ∙ ap (λ xs. xs ++ closing_octets closing.why) g.sent ∙ append_assoc old g.sofar (closing_octets closing.why);
  serves = e.serves;
  talks = subst (Talks then_conn) (append_assoc before g.front rest ∙ ap (λ xs. before ++ xs) (sym g.parts)) e.talks;
}

-- nothing is left
pub tested_empty : (xs : List ℕ) → true ≡ eqb (length xs) 0 → xs ≡ []
tested_empty xs e = no_octets xs (eqb-true (length xs) 0 (sym e))

-- ---- or nothing is said of a unit on the way

abbrev pub GoesOn : {K : Type 0} → Hub K → Conn → List Arrival → ℕ → List ℕ → List ℕ → List ℕ → List ℕ → List ℕ → Type 0
GoesOn hub conn h n before octets rest old new = (hear_octets n (talk before) octets h ≡ None) ⊎ Going hub conn h n before octets rest old new

module _ {K : Type 0} (hub next : Hub K) (conn then_conn : Conn) (h : List Arrival) (n : ℕ) (before octets rest old mid new : List ℕ) where
  lacked : (g : Going hub conn h n before octets rest old mid) → hear_octets n (talk (before ++ g.front)) rest g.then_ ≡ None → hear_octets n (talk before) octets h ≡ None
  lacked g none = g.goes ∙ ap (sent_before g.sofar) none

  -- what the rest says of the whole
  abbrev OfRest : Result Heard Stop → Type 0
  OfRest r = (g : Going hub conn h n before octets rest old mid) → SomeDone next then_conn g.then_ n (before ++ g.front) rest mid new r

  pub goes_more : (heard : Heard) → heard.refused ≡ None → OfRest (Ok heard) → GoesOn hub conn h n before octets rest old mid
      → GoesOn next then_conn h n before octets (drop heard.taken rest) old new
  goes_more heard none says (inl lacks) = inl lacks
  goes_more heard none says (inr g) = by_done (says g)
    where
      by_done : SomeDone next then_conn g.then_ n (before ++ g.front) rest mid new (Ok heard) → GoesOn next then_conn h n before octets (drop heard.taken rest) old new
      by_done (inl lacks) = inl (lacked g lacks)
      by_done (inr s) = inr (going_more hub next conn then_conn h n before octets rest old mid new heard.taken g
          (subst (λ (o : Option Closing). SomeHeard next then_conn g.then_ n (before ++ g.front) rest mid new heard.taken o) none s))

  pub piece_closes : (heard : Heard) (closing : Closing) → heard.refused ≡ Some closing → is_shut (talk before) ≡ false → OfRest (Ok heard) → GoesOn hub conn h n before octets rest old mid
      → PieceDone next then_conn h n before octets old new (Ok (Some closing))
  piece_closes heard closing some open_ says (inl lacks) = inl (hears_open n (talk before) octets h open_ ∙ lacks)
  piece_closes heard closing some open_ says (inr g) = by_done (says g)
    where
      by_done : SomeDone next then_conn g.then_ n (before ++ g.front) rest mid new (Ok heard) → PieceDone next then_conn h n before octets old new (Ok (Some closing))
      by_done (inl lacks) = inl (hears_open n (talk before) octets h open_ ∙ lacked g lacks)
      by_done (inr s) = inr (going_closes hub next conn then_conn h n before octets rest old mid new closing g open_
          (subst (λ (o : Option Closing). SomeHeard next then_conn g.then_ n (before ++ g.front) rest mid new heard.taken o) some s))

  -- it stopped on the way
  pub piece_stopped : (stop : Stop) → is_shut (talk before) ≡ false → OfRest (Err stop) → GoesOn hub conn h n before octets rest old mid
      → PieceDone next then_conn h n before octets old new (Err stop)
  piece_stopped stop open_ says (inl lacks) = inl (hears_open n (talk before) octets h open_ ∙ lacks)
  piece_stopped stop open_ says (inr g) = by_done stop (says g)
    where
      by_done : (x : Stop) → SomeDone next then_conn g.then_ n (before ++ g.front) rest mid new (Err x) → PieceDone next then_conn h n before octets old new (Err x)
      by_done x (inl lacks) = inl (hears_open n (talk before) octets h open_ ∙ lacked g lacks)
      by_done Unbuilt (inr d) = absurd d
      by_done NoMemory (inr d) = inr tt
      by_done (BadLine why) (inr d) = absurd d

-- all is heard, and a drain follows
pub piece_ends : {K : Type 0} (hub next : Hub K) (conn : Conn) (h : List Arrival) (n : ℕ) (before octets rest old new drained : List ℕ)
    → is_shut (talk before) ≡ false → rest ≡ [] → ((g : List Arrival) → Serves hub g → conn.max_frame ≡ 65535 → Serves next (Hears (event.Drain n) ∷ g) × (drained ≡ new))
    → GoesOn hub conn h n before octets rest old new → PieceDone next conn h n before octets old drained (Ok None)
piece_ends hub next conn h n before octets rest old new drained open_ none drains (inl lacks) = inl (hears_open n (talk before) octets h open_ ∙ lacks)
piece_ends hub next conn h n before octets rest old new drained open_ none drains (inr g) =
    let d = drains g.then_ g.serves g.talks.wide in
    subst (λ xs. PieceDone next conn h n before octets old xs (Ok None)) (sym d.1) (inr (going_ends hub next conn h n before octets rest old new g open_ none d.0))

shut_stays : (xs : List ℕ) → fold talk_octet Shut xs ≡ Shut
shut_stays [] = refl
shut_stays (x ∷ xs) = shut_stays xs

-- a Closed connection stays so
stays_shut : (s : State) (before more : List ℕ) → talk before ≡ Shut → TalksAs s before → TalksAs s (before ++ more)
stays_shut (state.Open a) before more is t = let e : Shut ≡ Open (cut (λ place. 65535) 0 before) = sym is ∙ t.0 in absurd (cc e)
stays_shut state.Closed before more is t = talk_parts before more ∙ ap (λ x. fold talk_octet x more) is ∙ shut_stays more

-- and hears nothing
pub going_shut : {K : Type 0} (hub : Hub K) (conn : Conn) (h : List Arrival) (n : ℕ) (before octets old : List ℕ) → is_shut (talk before) ≡ true → Serves hub h → Talks conn before
    → HeardPiece hub conn h n before octets old old None
going_shut hub conn h n before octets old shut serves talks =
    let is : talk before ≡ Shut = of_shut (talk before) shut in
    record {
      went = record { sent = []; heard = h; refused = None };
      goes = ap (λ t. hear_piece n t octets h) is;
      refused_is = refl;
      sent = sym (append-nil old);
      serves = serves;
      talks = record { begun = talks.begun; is_open = talks.is_open; wide = talks.wide; talks = stays_shut conn.intake.state before octets is talks.talks };
    }
  where
    of_shut : (t : Talk) → is_shut t ≡ true → t ≡ Shut
    of_shut (Open c) e = absurd (cc e)
    of_shut Shut e = refl
