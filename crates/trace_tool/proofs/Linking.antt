-- Connections of the code and of the definitions change alike.
use Rattle.std.proofs.Common.{◌≡◌, ℕ, eqb, nat_cmp, cond, Bool, true, false, List, [], ◌∷◌, ◌++◌, map, Option, None, Some, is_some, Result, Ok, Err, inl, inr, ◌∙◌, ap, sym, subst, refl, arith}
use Rattle.std.specs.BTreeMap.{is_at}
use Rattle.std.specs.Map.{lookup, set_value, remove_entry}
use Rattle.std.specs.Option.{option_map}
use Rattle.std.proofs.lemmas.Bool.Decides.{nat_tests}
use Rattle.amqp_terms.specs.declared.event.HubEvent.TheVariants as event
use Rattle.history_model.specs.declared.trace.TraceEvent.TheVariants as trace
use Rattle.history_model.specs.Arrivals.{Arrival, Hears}
use Rattle.history_model.specs.Pairs.{Paired, none, more, Both}
use Rattle.history_model.proofs.Tables.{lookup_same, paired-lookup, paired-set}
use Rattle.broker_engine.specs.declared.intake.Closing.{Closing}
use Rattle.broker_engine.specs.declared.conn.Conn.{Conn}
use Rattle.broker_engine.specs.Feeds.{Talks}
use Rattle.broker_engine.specs.Talk.{Talk, Open, Shut, talk, is_shut}
use Rattle.broker_engine.specs.Trace.{Past, Link, link_of, hear_link, heard_by, drain_talk, drain_link, lose_link, put_octets}
use Rattle.hub_core.specs.declared.hub.Hub.{Hub}
use Rattle.hub_core.specs.Hub.{Serves}
use Rattle.line_runs.specs.Lines.{Goes, Breaks, Lacks}
use Rattle.line_runs.specs.declared.tool.Stop.{Stop}
use Rattle.line_runs.specs.declared.tool.Stop.TheVariants.{BadLine, Unbuilt, NoMemory}
use Rattle.line_runs.specs.declared.tool.TraceWhy.TheVariants.{NoSuchConnection}
use Rattle.trace_tool.specs.declared.replay.Replay.{Replay}
use Rattle.trace_tool.specs.declared.wire.Wire.{Wire}
use Rattle.trace_tool.specs.Hearing.{PieceDone}
use Rattle.trace_tool.specs.Linked.{Linked, LinkLacks, Drained, wire_name}
use Rattle.trace_tool.specs.Replay.{IsLink, StandsFor, Happens, event_step, conn_name, went_step, went_lines}

-- ---- tables

-- the names are alike
pub names_alike : {wires : List (ℕ × Wire)} {links : List (ℕ × Link)} → Paired IsLink wires links → map wire_name wires ≡ map conn_name links
names_alike none = refl
names_alike (more {k = k} {x = x} {y = y} {es = es} {fs = fs} r p) = ap (λ n. record { number = n; name = k } ∷ map wire_name es) r.number_is ∙ ap (λ l. conn_name (k, y) ∷ l) (names_alike p)

-- the code's order finds a number
pub at_number : (c k : ℕ) → is_at (nat_cmp c) k ≡ eqb k c
at_number c k = grind (arith, nat_tests)

set_same : {K X : Type 0} (f g : K → Bool) (es : List (K × X)) (x : X) → ((k : K) → f k ≡ g k) → set_value f es x ≡ set_value g es x
set_same f g [] x same = refl
set_same f g (e ∷ es) x same = ap (λ b. cond b ((e.0, x) ∷ es) (e ∷ set_value f es x)) (same e.0) ∙ ap (λ l. cond (g e.0) ((e.0, x) ∷ es) (e ∷ l)) (set_same f g es x same)

remove_same : {K X : Type 0} (f g : K → Bool) (es : List (K × X)) → ((k : K) → f k ≡ g k) → remove_entry f es ≡ remove_entry g es
remove_same f g [] same = refl
remove_same f g (e ∷ es) same = ap (λ b. cond b es (e ∷ remove_entry f es)) (same e.0) ∙ ap (λ l. cond (g e.0) es (e ∷ l)) (remove_same f g es same)

-- a row is taken from both
paired-remove : {K X Y : Type 0} (R : X → Y → Type 0) (test : K → Bool) {es : List (K × X)} {fs : List (K × Y)} → Paired R es fs → Paired R (remove_entry test es) (remove_entry test fs)
paired-remove R test none = none
paired-remove R test (more {k = k} {x = x} {y = y} {es = es} {fs = fs} r p) =
    elim (test k) as (λ b. Paired R (cond b es ((k, x) ∷ remove_entry test es)) (cond b fs ((k, y) ∷ remove_entry test fs))) [ true ↦ p | false ↦ more r (paired-remove R test p) ]

pub gone_alike : (c : ℕ) (wires now : List (ℕ × Wire)) (links : List (ℕ × Link)) → now ≡ remove_entry (is_at (nat_cmp c)) wires → Paired IsLink wires links → Paired IsLink now (remove_entry (λ n. eqb n c) links)
gone_alike c wires now links is p =
    subst (λ es. Paired IsLink es (remove_entry (λ n. eqb n c) links)) (sym (is ∙ remove_same (is_at (nat_cmp c)) (λ n. eqb n c) wires (at_number c))) (paired-remove IsLink (λ n. eqb n c) p)

-- both have a connection, or neither
pub link_alike : (c : ℕ) (wires : List (ℕ × Wire)) (links : List (ℕ × Link)) (o : Option Wire) → o ≡ lookup (is_at (nat_cmp c)) wires → Paired IsLink wires links → Both IsLink o (lookup (λ n. eqb n c) links)
link_alike c wires links o is p =
    subst (λ x. Both IsLink x (lookup (λ n. eqb n c) links)) (sym (is ∙ lookup_same (is_at (nat_cmp c)) (λ n. eqb n c) wires (at_number c))) (paired-lookup IsLink (λ n. eqb n c) p)

both-is_some : (a : Option Wire) (b : Option Link) → Both IsLink a b → is_some a ≡ is_some b
both-is_some None None h = refl
both-is_some None (Some y) h = absurd h
both-is_some (Some x) None h = absurd h
both-is_some (Some x) (Some y) h = refl

pub has_alike : (c : ℕ) (wires : List (ℕ × Wire)) (links : List (ℕ × Link)) → Paired IsLink wires links → is_some (lookup (is_at (nat_cmp c)) wires) ≡ is_some (lookup (λ n. eqb n c) links)
has_alike c wires links p = both-is_some (lookup (is_at (nat_cmp c)) wires) (lookup (λ n. eqb n c) links) (link_alike c wires links (lookup (is_at (nat_cmp c)) wires) refl p)

-- the number that was found
pub number_alike : (o : Option Wire) (link : Option Link) (wire : Wire) → o ≡ Some wire → Both IsLink o link → Some wire.number ≡ option_map (λ (l : Link). l.number) link
number_alike o link wire is h = by_link link (subst (λ x. Both IsLink x link) is h)
  where
    by_link : (l : Option Link) → Both IsLink (Some wire) l → Some wire.number ≡ option_map (λ (x : Link). x.number) l
    by_link None b = absurd b
    by_link (Some x) b = ap Some b.number_is

pub none_alike : (o : Option Wire) (link : Option Link) → o ≡ None → Both IsLink o link → link ≡ None
none_alike o None is h = refl
none_alike o (Some link) is h = absurd (subst (λ x. Both IsLink x (Some link)) is h)

-- ---- drains

pub drained_shut : {K : Type 0} (hub : Hub K) (h : List Arrival) (link : Option Link) (wire : Wire) (sent : List ℕ) → Both IsLink (Some wire) link → Serves hub h
    → ((before : List ℕ) → Talks wire.conn before → true ≡ is_shut (talk before)) → Drained hub h link sent sent (Ok tt)
drained_shut hub h None wire sent b s shut = absurd b
drained_shut hub h (Some link) wire sent b s shut = (subst (Serves hub) (by_talk (talk link.heard) (shut link.heard b.talks)) s, refl)
  where
    by_talk : (t : Talk) → true ≡ is_shut t → h ≡ drain_talk t link.number h
    by_talk (Open c) e = absurd (cc e)
    by_talk Shut e = refl

pub drained_open : {K : Type 0} (hub : Hub K) (h : List Arrival) (link : Option Link) (wire : Wire) (old new : List ℕ) → Both IsLink (Some wire) link
    → (wire.conn.max_frame ≡ 65535 → Serves hub (Hears (event.Drain wire.number) ∷ h) × (new ≡ old)) → ((before : List ℕ) → Talks wire.conn before → false ≡ is_shut (talk before)) → Drained hub h link old new (Ok tt)
drained_open hub h None wire old new b s open_ = absurd b
drained_open hub h (Some link) wire old new b s open_ =
    let d = s b.talks.wide in (subst (Serves hub) (ap (λ n. Hears (event.Drain n) ∷ h) b.number_is ∙ by_talk (talk link.heard) (open_ link.heard b.talks)) d.0, d.1)
  where
    by_talk : (t : Talk) → false ≡ is_shut t → Hears (event.Drain link.number) ∷ h ≡ drain_talk t link.number h
    by_talk (Open c) e = refl
    by_talk Shut e = absurd (cc e)

pub drained_err : {K : Type 0} (hub : Hub K) (h : List Arrival) (link : Option Link) (wire : Wire) (old new : List ℕ) → Both IsLink (Some wire) link → Drained hub h link old new (Err NoMemory)
drained_err hub h None wire old new b = absurd b
drained_err hub h (Some link) wire old new b = tt

pub drained_none : {K : Type 0} (hub : Hub K) (h : List Arrival) (link : Option Link) (old new : List ℕ) → Both IsLink None link → Drained hub h link old new (Err (BadLine NoSuchConnection))
drained_none hub h None old new b = refl
drained_none hub h (Some link) old new b = absurd b

-- ---- a piece on its connection

pub linked : {K : Type 0} (hub : Hub K) (wires now : List (ℕ × Wire)) (h : List Arrival) (links : List (ℕ × Link)) (c : ℕ) (octets old new : List ℕ) (r : Result (Option Closing) Stop) (wire : Wire) (conn : Conn)
    → Some wire ≡ lookup (is_at (nat_cmp c)) wires → Paired IsLink wires links → now ≡ set_value (is_at (nat_cmp c)) wires (record { number = wire.number; conn = conn })
    → ((before : List ℕ) → Talks wire.conn before → PieceDone hub conn h wire.number before octets old new r) → Linked hub now h links c octets old new r
linked hub wires now h links c octets old new r wire conn found p set done =
    by_link (lookup (λ n. eqb n c) links) refl (link_alike c wires links (Some wire) found p)
  where
    by_result : (x : Result (Option Closing) Stop) (link : Link) → lookup (λ n. eqb n c) links ≡ Some link → IsLink wire link → PieceDone hub conn h link.number link.heard octets old new x → Linked hub now h links c octets old new x
    by_result x link there is (inl lacks) = inl (record { link = link; there = there; lacks = lacks })
    by_result (Ok refused) link there is (inr d) = inr (record {
      link = link;
      there = there;
      went = d.went;
      goes = d.goes;
      refused_is = d.refused_is;
      sent = d.sent;
      serves = d.serves;
      links_are = subst (λ es. Paired IsLink es (put_octets links c (Some link) octets)) (sym (set ∙ set_same (is_at (nat_cmp c)) (λ n. eqb n c) wires (record { number = wire.number; conn = conn }) (at_number c)))
          (paired-set IsLink (λ n. eqb n c) (record { number = wire.number; conn = conn }) (record { number = link.number; heard = link.heard ++ octets }) (record { number_is = is.number_is; talks = d.talks }) p);
    })
    by_result (Err Unbuilt) link there is (inr d) = absurd d
    by_result (Err NoMemory) link there is (inr d) = inr tt
    by_result (Err (BadLine why)) link there is (inr d) = absurd d

    by_link : (o : Option Link) → lookup (λ n. eqb n c) links ≡ o → Both IsLink (Some wire) o → Linked hub now h links c octets old new r
    by_link None e b = absurd b
    by_link (Some link) e b = by_result r link e b (subst (λ n. PieceDone hub conn h n link.heard octets old new r) b.number_is (done link.heard b.talks))

pub linked_none : {K : Type 0} (hub : Hub K) (wires now : List (ℕ × Wire)) (h : List Arrival) (links : List (ℕ × Link)) (c : ℕ) (octets old new : List ℕ) → None ≡ lookup (is_at (nat_cmp c)) wires → Paired IsLink wires links
    → Linked hub now h links c octets old new (Err (BadLine NoSuchConnection))
linked_none hub wires now h links c octets old new found p = inr (none_alike None (lookup (λ n. eqb n c) links) refl (link_alike c wires links None found p), refl)

-- ---- events

-- octets came, of which nothing is said
lacked : (p : Past) (c : ℕ) (octets : List ℕ) → LinkLacks p.arrivals p.connections c octets → event_step p (trace.Bytes c octets) ≡ Lacks
lacked p c octets l =
    ap (λ o. cond (is_some o) (went_step c (hear_link o octets p.arrivals)) (Breaks NoSuchConnection)) l.there ∙ ap (went_step c) l.lacks

-- octets came
pub bytes_came : {K : Type 0} (now : Replay K) (p : Past) (c : ℕ) (octets text old sent : List ℕ) (refused : Option Closing) → old ≡ []
    → Linked now.hub now.connections.entries p.arrivals p.connections c octets old sent (Ok refused) → text ≡ went_lines c sent refused → Happens now p (trace.Bytes c octets) (Ok text)
bytes_came now p c octets text old sent refused empty (inl l) t = inl (lacked p c octets l)
bytes_came now p c octets text old sent refused empty (inr f) t =
    let came : hear_link (link_of p c) octets p.arrivals ≡ Some f.went = ap (λ o. hear_link o octets p.arrivals) f.there ∙ f.goes in
    let text_is : went_lines c f.went.sent f.went.refused ≡ text =
    ap (λ xs. went_lines c xs f.went.refused) (sym (f.sent ∙ ap (λ xs. xs ++ f.went.sent) empty)) ∙ ap (went_lines c sent) (sym f.refused_is) ∙ sym t in
    inr (
      ap (λ o. cond (is_some o) (went_step c (hear_link o octets p.arrivals)) (Breaks NoSuchConnection)) f.there ∙ ap (went_step c) f.goes ∙ ap Goes text_is,
      record {
        serves = subst (Serves now.hub) (sym (ap (λ w. heard_by w p.arrivals) came)) f.serves;
        links_are = subst (λ o. Paired IsLink now.connections.entries (put_octets p.connections c o octets)) (sym f.there) f.links_are;
      },
    )

-- or they were refused
pub bytes_stopped : {K : Type 0} (now : Replay K) (hub : Hub K) (wires : List (ℕ × Wire)) (p : Past) (c : ℕ) (octets old sent : List ℕ) (stop : Stop)
    → Linked hub wires p.arrivals p.connections c octets old sent (Err stop) → Happens now p (trace.Bytes c octets) (Err stop)
bytes_stopped now hub wires p c octets old sent stop (inl l) = inl (lacked p c octets l)
bytes_stopped now hub wires p c octets old sent Unbuilt (inr d) = absurd d
bytes_stopped now hub wires p c octets old sent (BadLine why) (inr d) =
    inr (ap (λ o. cond (is_some o) (went_step c (hear_link o octets p.arrivals)) (Breaks NoSuchConnection)) d.0 ∙ ap Breaks (sym d.1))
bytes_stopped now hub wires p c octets old sent NoMemory (inr d) = inr tt

-- a connection was lost
pub lost_is : {K : Type 0} (now : Replay K) (p : Past) (c number : ℕ) → Some number ≡ option_map (λ (l : Link). l.number) (link_of p c) → Serves now.hub (Hears (event.Lost number) ∷ p.arrivals)
    → Paired IsLink now.connections.entries (remove_entry (λ n. eqb n c) p.connections) → Happens now p (trace.Lose c) (Ok [])
lost_is now p c number is s links = inr (by_link (link_of p c) is)
  where
    by_link : (o : Option Link) → Some number ≡ option_map (λ (l : Link). l.number) o
        → (cond (is_some o) (Goes []) (Breaks NoSuchConnection) ≡ Goes []) × StandsFor now (record { connections = remove_entry (λ n. eqb n c) p.connections; arrivals = lose_link o p.arrivals })
    by_link None e = absurd (cc e)
    by_link (Some link) e =
        let same : number ≡ link.number = cc e in (refl, record { serves = subst (λ n. Serves now.hub (Hears (event.Lost n) ∷ p.arrivals)) same s; links_are = links })

pub lost_none : {K : Type 0} (now : Replay K) (p : Past) (c : ℕ) → None ≡ option_map (λ (l : Link). l.number) (link_of p c) → Happens now p (trace.Lose c) (Err (BadLine NoSuchConnection))
lost_none now p c is = inr (by_link (link_of p c) is)
  where
    by_link : (o : Option Link) → None ≡ option_map (λ (l : Link). l.number) o → cond (is_some o) (Goes []) (Breaks NoSuchConnection) ≡ Breaks NoSuchConnection
    by_link None e = refl
    by_link (Some link) e = absurd (cc e)

-- deliveries went out, or there is no such connection
pub drained_is : {K : Type 0} (now : Replay K) (p : Past) (c : ℕ) (text old new : List ℕ) → old ≡ [] → text ≡ went_lines c new None → Drained now.hub p.arrivals (link_of p c) old new (Ok tt) → Paired IsLink now.connections.entries p.connections
    → Happens now p (trace.Quiet c) (Ok text)
drained_is now p c text old new empty is d links = inr (by_link (link_of p c) d)
  where
    by_link : (o : Option Link) → Drained now.hub p.arrivals o old new (Ok tt) → (cond (is_some o) (Goes []) (Breaks NoSuchConnection) ≡ Goes text) × StandsFor now (record { connections = p.connections; arrivals = drain_link o p.arrivals })
    by_link None e = absurd e
    by_link (Some link) e = (ap Goes (sym (is ∙ ap (λ xs. went_lines c xs None) (e.1 ∙ empty))), record { serves = e.0; links_are = links })

abbrev Stops : Option Link → Stop → Type 0
Stops o (BadLine why) = cond (is_some o) (Goes []) (Breaks NoSuchConnection) ≡ Breaks why
Stops o Unbuilt = ⊥
Stops o NoMemory = Unit {0}

pub not_drained : {K : Type 0} (now : Replay K) (hub : Hub K) (p : Past) (c : ℕ) (old new : List ℕ) (stop : Stop) → Drained hub p.arrivals (link_of p c) old new (Err stop) → Happens now p (trace.Quiet c) (Err stop)
not_drained now hub p c old new stop d = by_stop stop (by_link (link_of p c) stop d)
  where
    by_link : (o : Option Link) (x : Stop) → Drained hub p.arrivals o old new (Err x) → Stops o x
    by_link None (BadLine why) e = ap Breaks (sym e)
    by_link None Unbuilt e = absurd e
    by_link None NoMemory e = absurd e
    by_link (Some link) NoMemory e = tt
    by_link (Some link) Unbuilt e = absurd e
    by_link (Some link) (BadLine why) e = absurd e

    by_stop : (x : Stop) → Stops (link_of p c) x → Happens now p (trace.Quiet c) (Err x)
    by_stop (BadLine why) e = inr e
    by_stop Unbuilt e = absurd e
    by_stop NoMemory e = inr tt
