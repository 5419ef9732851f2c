-- Chains of keys, linked both ways: a key is cut out of one, or put in.
use Rattle.std.proofs.Common.{◌≡◌, ◌≢◌, ℕ, ◌==◌, Bool, true, false, if◌then◌else◌, List, [], ◌∷◌, ◌++◌, Option, None, Some, sym, ap, ◌∙◌, subst, refl}
use Rattle.std.proofs.lemmas.Bool.{eqb-true, true≢false}
use Rattle.std.proofs.lemmas.Option.{none-some}
use Rattle.node_list.specs.Keys.{has, Distinct, without, put_before, first_of, next_in}
use Rattle.node_list.specs.Links.{Chain}
use Rattle.node_list.proofs.Keys.{differ, here, there, other, behind, absent, without_absent, put_at, is_spot}

abbrev pub key_in : Option ℕ → ℕ
key_in None = 0
key_in (Some k) = k

-- the spot is none of the keys
abbrev pub Off : Option ℕ → List ℕ → Type 0
Off spot keys = (k : ℕ) → has k keys ≡ true → spot ≢ Some k

pub off_none : (keys : List ℕ) → Off None keys
off_none keys k h e = none-some k e

off_key : (k : ℕ) (keys : List ℕ) → has k keys ≡ false → Off (Some k) keys
off_key k keys n j h e = other j k keys h n (sym (ap key_in e))

off_tail : (spot : Option ℕ) (k : ℕ) (keys : List ℕ) → Off spot (k ∷ keys) → Off spot keys
off_tail spot k keys off j h = off j (there j k keys h)

module _ (A B : Option ℕ → Option ℕ) where
  -- ---- what comes before and after a spot of a chain

  before_go : (P : Option ℕ → Type 0) (from : Option ℕ) (k j : ℕ) (keys : List ℕ) (b : Bool) → (k == j) ≡ b → B (Some k) ≡ from → P from
      → (has j keys ≡ true → P (B (Some j))) → has j (k ∷ keys) ≡ true → P (B (Some j))
  before_go P from k j keys true e is p ih h = subst P (sym is ∙ ap (λ (i : ℕ). B (Some i)) (eqb-true k j e)) p
  before_go P from k j keys false e is p ih h = ih (behind j k keys e h)

  pub before_in : (P : Option ℕ → Type 0) (from : Option ℕ) (keys : List ℕ) (spot : Option ℕ) → Chain A B from keys → is_spot spot keys ≡ true → P from → ((k : ℕ) → has k keys ≡ true → P (Some k)) → P (B spot)
  before_in P from [] None c h p all = subst P (sym c.1) p
  before_in P from [] (Some j) c h p all = absurd (true≢false (sym h))
  before_in P from (k ∷ keys) None c h p all = before_in P (Some k) keys None c.1.1 refl (all k (here k keys)) (λ j m. all j (there j k keys m))
  before_in P from (k ∷ keys) (Some j) c h p all =
      before_go P from k j keys (k == j) refl c.1.0 p (λ m. before_in P (Some k) keys (Some j) c.1.1 m (all k (here k keys)) (λ i n. all i (there i k keys n))) h

  after_first : (P : Option ℕ → Type 0) (k : ℕ) (keys : List ℕ) → Chain A B (Some k) keys → P None → ((i : ℕ) → has i keys ≡ true → P (Some i)) → P (A (Some k))
  after_first P k [] c p all = subst P (sym c.0) p
  after_first P k (m ∷ keys) c p all = subst P (sym c.0) (all m (here m keys))

  after_go : (P : Option ℕ → Type 0) (k j : ℕ) (keys : List ℕ) (b : Bool) → (k == j) ≡ b → P (A (Some k))
      → (has j keys ≡ true → P (A (Some j))) → has j (k ∷ keys) ≡ true → P (A (Some j))
  after_go P k j keys true e p ih h = subst P (ap (λ (i : ℕ). A (Some i)) (eqb-true k j e)) p
  after_go P k j keys false e p ih h = ih (behind j k keys e h)

  -- behind the first one
  pub after_in : (P : Option ℕ → Type 0) (from : Option ℕ) (keys : List ℕ) (j : ℕ) → Chain A B from keys → has j keys ≡ true → P None → ((i : ℕ) → has i keys ≡ true → P (Some i)) → P (A (Some j))
  after_in P from [] j c h p all = absurd (true≢false (sym h))
  after_in P from (k ∷ keys) j c h p all =
      after_go P k j keys (k == j) refl (after_first P k keys c.1.1 p (λ i n. all i (there i k keys n)))
      (λ m. after_in P (Some k) keys j c.1.1 m p (λ i n. all i (there i k keys n))) h

  -- no key's next one stands before it
  pub after_off : (from : Option ℕ) (k j : ℕ) (keys : List ℕ) → has k keys ≡ false → Chain A B (Some k) keys → has j keys ≡ true → A (Some j) ≢ Some k
  after_off from k j keys n c h = after_in (λ x. x ≢ Some k) (Some k) keys j c h (none-some k) (λ i m q. other i k keys m n (ap key_in q))

  -- ---- no key comes before or after itself

  previous_go : (from : Option ℕ) (k j : ℕ) (keys : List ℕ) (b : Bool) → (k == j) ≡ b → B (Some k) ≡ from → from ≢ Some k
      → (has j keys ≡ true → B (Some j) ≢ Some j) → has j (k ∷ keys) ≡ true → B (Some j) ≢ Some j
  previous_go from k j keys true e is ne ih h = subst (λ (i : ℕ). B (Some i) ≢ Some i) (eqb-true k j e) (λ q. ne (sym is ∙ q))
  previous_go from k j keys false e is ne ih h = ih (behind j k keys e h)

  pub previous_apart : (from : Option ℕ) (keys : List ℕ) (j : ℕ) → Chain A B from keys → Distinct keys → Off from keys → has j keys ≡ true → B (Some j) ≢ Some j
  previous_apart from [] j c d off h = absurd (true≢false (sym h))
  previous_apart from (k ∷ keys) j c d off h = previous_go from k j keys (k == j) refl c.1.0 (off k (here k keys)) (λ m. previous_apart (Some k) keys j c.1.1 d.1 (off_key k keys d.0) m) h

  next_apart_go : (k j : ℕ) (keys : List ℕ) (b : Bool) → (k == j) ≡ b → A (Some k) ≢ Some k
      → (has j keys ≡ true → A (Some j) ≢ Some j) → has j (k ∷ keys) ≡ true → A (Some j) ≢ Some j
  next_apart_go k j keys true e ne ih h = subst (λ (i : ℕ). A (Some i) ≢ Some i) (eqb-true k j e) ne
  next_apart_go k j keys false e ne ih h = ih (behind j k keys e h)

  pub next_apart : (from : Option ℕ) (keys : List ℕ) (j : ℕ) → Chain A B from keys → Distinct keys → has j keys ≡ true → A (Some j) ≢ Some j
  next_apart from [] j c d h = absurd (true≢false (sym h))
  next_apart from (k ∷ keys) j c d h =
      next_apart_go k j keys (k == j) refl (after_first (λ x. x ≢ Some k) k keys c.1.1 (none-some k) (λ i m q. other i k keys m d.0 (ap key_in q)))
      (λ m. next_apart (Some k) keys j c.1.1 d.1 m) h

  -- ---- the same links make the same chain

  module _ (C D : Option ℕ → Option ℕ) where
    pub chain_same : (from : Option ℕ) (keys : List ℕ) → Chain A B from keys → C from ≡ A from → ((k : ℕ) → has k keys ≡ true → C (Some k) ≡ A (Some k))
        → D None ≡ B None → ((k : ℕ) → has k keys ≡ true → D (Some k) ≡ B (Some k)) → Chain C D from keys
    chain_same from [] c a an b bs = (a ∙ c.0, b ∙ c.1)
    chain_same from (k ∷ keys) c a an b bs = (
      a ∙ c.0,
      (
        bs k (here k keys) ∙ c.1.0,
        chain_same (Some k) keys c.1.1 (an k (here k keys)) (λ j h. an j (there j k keys h)) b (λ j h. bs j (there j k keys h)),
      ),
    )

    -- ---- a key is cut out

    pub record IsCut (key : ℕ) : Type 0 where
      pub skips : C (B (Some key)) ≡ A (Some key)
      pub back : D (A (Some key)) ≡ B (Some key)
      pub nexts : (x : Option ℕ) → x ≢ B (Some key) → x ≢ Some key → C x ≡ A x
      pub previouses : (x : Option ℕ) → x ≢ A (Some key) → x ≢ Some key → D x ≡ B x

    -- the key is the first
    cut_first : (key : ℕ) → IsCut key → (from : Option ℕ) (keys : List ℕ) → has key keys ≡ false → Distinct keys → Off from keys → B (Some key) ≡ from → Chain A B (Some key) keys → Chain C D from keys
    cut_first key cut from [] n d off is c =
        ((ap C (sym is) ∙ cut.skips) ∙ c.0, (ap D (sym c.0) ∙ cut.back) ∙ is)
    cut_first key cut from (m ∷ keys) n d off is c =
        let a = absent key m keys n in (
          (ap C (sym is) ∙ cut.skips) ∙ c.0,
          (
            (ap D (sym c.0) ∙ cut.back) ∙ is,
            chain_same_from m keys key cut from d off is a.0 a.1 c,
          ),
        ) where
          chain_same_from : (m : ℕ) (keys : List ℕ) (key : ℕ) → IsCut key → (from : Option ℕ) → Distinct (m ∷ keys) → Off from (m ∷ keys) → B (Some key) ≡ from → m ≢ key → has key keys ≡ false → Chain A B (Some key) (m ∷ keys) → Chain C D (Some m) keys
          chain_same_from m keys key cut from d off is ne n c =
              chain_same (Some m) keys c.1.1
              (cut.nexts (Some m) (λ q. off m (here m keys) (sym is ∙ sym q)) (λ q. ne (ap key_in q)))
              (λ j h. cut.nexts (Some j) (λ q. off j (there j m keys h) (sym is ∙ sym q)) (λ q. other j key keys h n (ap key_in q)))
              (cut.previouses None (λ q. none-some m (q ∙ c.0)) (λ q. none-some key q))
              (λ j h. cut.previouses (Some j) (λ q. other j m keys h d.0 (ap key_in (q ∙ c.0))) (λ q. other j key keys h n (ap key_in q)))

    cut_go : (key : ℕ) → IsCut key → (from : Option ℕ) (k : ℕ) (keys : List ℕ) (b : Bool) → (k == key) ≡ b → Distinct (k ∷ keys) → Off from (k ∷ keys) → from ≢ Some key → has key (k ∷ keys) ≡ true → Chain A B from (k ∷ keys)
        → (has key keys ≡ true → Chain C D (Some k) (without key keys)) → Chain C D from (if b then without key keys else k ∷ without key keys)
    cut_go key cut from k keys true e d off nf h c ih =
        let is : k ≡ key = eqb-true k key e in
        let n : has key keys ≡ false = subst (λ (i : ℕ). has i keys ≡ false) is d.0 in
        subst (Chain C D from) (sym (without_absent key keys n))
        (cut_first key cut from keys n d.1 (off_tail from k keys off) (ap (λ (i : ℕ). B (Some i)) (sym is) ∙ c.1.0) (subst (λ (i : ℕ). Chain A B (Some i) keys) is c.1.1))
    cut_go key cut from k keys false e d off nf h c ih =
        let h2 = behind key k keys e h in
        let not_before = before_in (λ x. from ≢ x) (Some k) keys (Some key) c.1.1 h2 (off k (here k keys)) (λ j m. off j (there j k keys m)) in
        let not_after = after_off from k key keys d.0 c.1.1 h2 in (
          cut.nexts from not_before nf ∙ c.0,
          (cut.previouses (Some k) (λ q. not_after (sym q)) (λ q. differ k key e (ap key_in q)) ∙ c.1.0, ih h2),
        )

    pub cut_chain : (key : ℕ) → IsCut key → (from : Option ℕ) (keys : List ℕ) → Distinct keys → Off from keys → from ≢ Some key → has key keys ≡ true → Chain A B from keys → Chain C D from (without key keys)
    cut_chain key cut from [] d off nf h c = absurd (true≢false (sym h))
    cut_chain key cut from (k ∷ keys) d off nf h c =
        cut_go key cut from k keys (k == key) refl d off nf h c
        (λ m. cut_chain key cut (Some k) keys d.1 (off_key k keys d.0) (λ q. other key k keys m d.0 (sym (ap key_in q))) m c.1.1)

    -- ---- a key is put in before a spot

    pub record IsPut (spot : Option ℕ) (key : ℕ) : Type 0 where
      pub before_it : C (B spot) ≡ Some key
      pub its_previous : D (Some key) ≡ B spot
      pub its_next : C (Some key) ≡ spot
      pub after_it : D spot ≡ Some key
      pub nexts : (x : Option ℕ) → x ≢ B spot → x ≢ Some key → C x ≡ A x
      pub previouses : (x : Option ℕ) → x ≢ spot → x ≢ Some key → D x ≡ B x

    -- at the end
    put_last : (key : ℕ) → IsPut None key → (from : Option ℕ) (keys : List ℕ) → Distinct keys → Off from keys → from ≢ Some key → has key keys ≡ false → Chain A B from keys → Chain C D from (keys ++ key ∷ [])
    put_last key put from [] d off nf n c = (ap C (sym c.1) ∙ put.before_it, (put.its_previous ∙ c.1, (put.its_next, put.after_it)))
    put_last key put from (k ∷ keys) d off nf n c =
        let a = absent key k keys n in
        let not_before = before_in (λ x. from ≢ x) (Some k) keys None c.1.1 refl (off k (here k keys)) (λ j m. off j (there j k keys m)) in (
          put.nexts from not_before nf ∙ c.0,
          (
            put.previouses (Some k) (λ q. none-some k (sym q)) (λ q. a.0 (ap key_in q)) ∙ c.1.0,
            put_last key put (Some k) keys d.1 (off_key k keys d.0) (λ q. a.0 (ap key_in q)) a.1 c.1.1,
          ),
        )

    put_go : (o key : ℕ) → IsPut (Some o) key → (from : Option ℕ) (k : ℕ) (keys : List ℕ) (b : Bool) → (k == o) ≡ b → Distinct (k ∷ keys) → Off from (k ∷ keys) → from ≢ Some key → has key (k ∷ keys) ≡ false → has o (k ∷ keys) ≡ true → Chain A B from (k ∷ keys)
        → (has o keys ≡ true → Chain C D (Some k) (put_before o key keys)) → Chain C D from (if b then key ∷ k ∷ keys else k ∷ put_before o key keys)
    put_go o key put from k keys true e d off nf n h c ih =
        let is : k ≡ o = eqb-true k o e in
        let a = absent key k keys n in
        let prev : B (Some o) ≡ from = ap (λ (i : ℕ). B (Some i)) (sym is) ∙ c.1.0 in (
          ap C (sym prev) ∙ put.before_it,
          (
            put.its_previous ∙ prev,
            (
              put.its_next ∙ ap (λ (i : ℕ). Some i) (sym is),
              (
                ap (λ (i : ℕ). D (Some i)) is ∙ put.after_it,
                chain_same (Some k) keys c.1.1
                    (put.nexts (Some k) (λ q. off k (here k keys) (sym prev ∙ sym q)) (λ q. a.0 (ap key_in q)))
                    (λ j m. put.nexts (Some j) (λ q. off j (there j k keys m) (sym prev ∙ sym q)) (λ q. other j key keys m a.1 (ap key_in q)))
                    (put.previouses None (none-some o) (none-some key))
                    (λ j m. put.previouses (Some j) (λ q. other j k keys m d.0 (ap key_in q ∙ sym is)) (λ q. other j key keys m a.1 (ap key_in q))),
              ),
            ),
          ),
        )
    put_go o key put from k keys false e d off nf n h c ih =
        let h2 = behind o k keys e h in
        let a = absent key k keys n in
        let not_before = before_in (λ x. from ≢ x) (Some k) keys (Some o) c.1.1 h2 (off k (here k keys)) (λ j m. off j (there j k keys m)) in (
          put.nexts from not_before nf ∙ c.0,
          (put.previouses (Some k) (λ q. differ k o e (ap key_in q)) (λ q. a.0 (ap key_in q)) ∙ c.1.0, ih h2),
        )

    put_there : (o key : ℕ) → IsPut (Some o) key → (from : Option ℕ) (keys : List ℕ) → Distinct keys → Off from keys → from ≢ Some key → has key keys ≡ false → has o keys ≡ true → Chain A B from keys → Chain C D from (put_before o key keys)
    put_there o key put from [] d off nf n h c = absurd (true≢false (sym h))
    put_there o key put from (k ∷ keys) d off nf n h c =
        put_go o key put from k keys (k == o) refl d off nf n h c
        (λ m. put_there o key put (Some k) keys d.1 (off_key k keys d.0) (λ q. (absent key k keys n).0 (ap key_in q)) (absent key k keys n).1 m c.1.1)

    pub put_chain : (spot : Option ℕ) (key : ℕ) → IsPut spot key → (from : Option ℕ) (keys : List ℕ) → Distinct keys → Off from keys → from ≢ Some key → has key keys ≡ false → is_spot spot keys ≡ true → Chain A B from keys → Chain C D from (put_at spot key keys)
    put_chain None key put from keys d off nf n h c = put_last key put from keys d off nf n c
    put_chain (Some o) key put from keys d off nf n h c = put_there o key put from keys d off nf n h c

  -- ---- what a chain tells

  pub chain_first : (from : Option ℕ) (keys : List ℕ) → Chain A B from keys → A from ≡ first_of keys
  chain_first from [] c = c.0
  chain_first from (k ∷ keys) c = c.0

  next_go : (k j : ℕ) (keys : List ℕ) (b : Bool) → (k == j) ≡ b → A (Some k) ≡ first_of keys → (has j keys ≡ true → A (Some j) ≡ next_in j keys) → has j (k ∷ keys) ≡ true → A (Some j) ≡ (if b then first_of keys else next_in j keys)
  next_go k j keys true e is ih h = ap (λ (i : ℕ). A (Some i)) (sym (eqb-true k j e)) ∙ is
  next_go k j keys false e is ih h = ih (behind j k keys e h)

  pub chain_next : (from : Option ℕ) (keys : List ℕ) (j : ℕ) → Chain A B from keys → has j keys ≡ true → A (Some j) ≡ next_in j keys
  chain_next from [] j c h = absurd (true≢false (sym h))
  chain_next from (k ∷ keys) j c h = next_go k j keys (k == j) refl (chain_first (Some k) keys c.1.1) (λ m. chain_next (Some k) keys j c.1.1 m) h
