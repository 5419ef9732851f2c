-- Some of the words from a later one on, and how a pattern goes on.
use Rattle.std.proofs.Common.{◌≡◌, ◌⊎◌, ℕ, ◌≤◌, ◌&&◌, Bool, true, false, if◌then◌else◌, List, [], ◌∷◌, length, inl, inr, refl, sym, ap, subst, ◌∙◌, arith}
use Rattle.std.proofs.lemmas.Bool.{and_parts, or_cases, or_left, or_right, true≢false}
use Rattle.topic_keys.specs.Topics.{is_hash, takes, behind, first_taken, matches}
use Rattle.topic_keys.specs.Ahead.{Reached}

-- these are the words, or some of them from a later one on, or none
abbrev pub IsRest : List (List ℕ) → List (List ℕ) → Type 0
IsRest rest [] = rest ≡ []
IsRest rest (word ∷ words) = (rest ≡ word ∷ words) ⊎ IsRest rest words

rest_all : (words : List (List ℕ)) → IsRest words words
rest_all [] = refl
rest_all (word ∷ words) = inl refl

rest_found : (test : List (List ℕ) → Bool) (rest words : List (List ℕ)) → IsRest rest words → test rest ≡ true → behind test words ≡ true
rest_found test rest [] is e = ap test (sym is) ∙ e
rest_found test rest (word ∷ words) (inl is) e = or_left (test (word ∷ words)) (behind test words) (ap test (sym is) ∙ e)
rest_found test rest (word ∷ words) (inr is) e = or_right (test (word ∷ words)) (behind test words) (rest_found test rest words is e)

pub record Found (test : List (List ℕ) → Bool) (words : List (List ℕ)) : Type 0 where
  pub rest : List (List ℕ)
  pub is : IsRest rest words
  pub passes : test rest ≡ true

find_rest : (test : List (List ℕ) → Bool) (words : List (List ℕ)) → behind test words ≡ true → Found test words
find_rest test [] e = record { rest = []; is = refl; passes = e }
find_rest test (word ∷ words) e = elim (or_cases (test (word ∷ words)) (behind test words) e) [
  | inl here ↦ record { rest = word ∷ words; is = inl refl; passes = here }
  | inr later ↦ let f = find_rest test words later in record { rest = f.rest; is = inr f.is; passes = f.passes }
]

-- a rest of a rest is one
rest_rest : (a b c : List (List ℕ)) → IsRest a b → IsRest b c → IsRest a c
rest_rest a b [] i j = subst (IsRest a) j i
rest_rest a b (word ∷ words) i (inl j) = subst (IsRest a) j i
rest_rest a b (word ∷ words) i (inr j) = inr (rest_rest a b words i j)

abbrev tail_of : List (List ℕ) → List (List ℕ)
tail_of [] = []
tail_of (x ∷ xs) = xs

tail_is : (word w : List ℕ) (a words : List (List ℕ)) → word ∷ a ≡ w ∷ words → IsRest a words
tail_is word w a words e = subst (λ xs. IsRest xs words) (sym (ap tail_of e)) (rest_all words)

nil_not : (word : List ℕ) (a : List (List ℕ)) → word ∷ a ≡ [] → ⊥
nil_not word a e = omega (arith, ap length e)

rest_tail : (word : List ℕ) (a words : List (List ℕ)) → IsRest (word ∷ a) words → IsRest a words
rest_tail word a [] i = absurd (nil_not word a i)
rest_tail word a (w ∷ words) (inl i) = inr (tail_is word w a words i)
rest_tail word a (w ∷ words) (inr i) = inr (rest_tail word a words i)

-- what follows the first word of a rest is a rest of what follows the first word of all
rest_behind : (word : List ℕ) (a : List (List ℕ)) (w : List ℕ) (words : List (List ℕ)) → IsRest (word ∷ a) (w ∷ words) → IsRest a words
rest_behind word a w words (inl i) = tail_is word w a words i
rest_behind word a w words (inr i) = rest_tail word a words i

-- ---- how a pattern goes on

-- so far each word was taken: what is left decides, and what matches from a later word on leaves a rest that matches
pub record Going (patterns words more_patterns more_words : List (List ℕ)) : Type 0 where
  pub same : matches patterns words ≡ matches more_patterns more_words
  pub near : (rest : List (List ℕ)) → IsRest rest words → matches patterns rest ≡ true → Found (matches more_patterns) more_words
  pub fewer : length more_patterns ≤ length patterns
  pub no_more : length more_words ≤ length words

-- a pattern that is no `#` goes word by word
plain : (pattern : List ℕ) (patterns words : List (List ℕ)) → is_hash pattern ≡ false → matches (pattern ∷ patterns) words ≡ first_taken pattern (matches patterns) words
plain pattern patterns words e = ap (λ (b : Bool). if b then behind (matches patterns) words else first_taken pattern (matches patterns) words) e

hashed : (pattern : List ℕ) (patterns words : List (List ℕ)) → is_hash pattern ≡ true → matches (pattern ∷ patterns) words ≡ behind (matches patterns) words
hashed pattern patterns words e = ap (λ (b : Bool). if b then behind (matches patterns) words else first_taken pattern (matches patterns) words) e

taken_rest : (pattern : List ℕ) (patterns : List (List ℕ)) (word : List ℕ) (words rest : List (List ℕ)) → IsRest rest (word ∷ words) → first_taken pattern (matches patterns) rest ≡ true → Found (matches patterns) words
taken_rest pattern patterns word words [] is e = absurd (true≢false (sym e))
taken_rest pattern patterns word words (r ∷ rest) is e =
    record { rest = rest; is = rest_behind r rest word words is; passes = (and_parts (takes pattern r) (matches patterns rest) e).1 }

pub goes_on : (all words : List (List ℕ)) (pattern : List ℕ) (patterns : List (List ℕ)) (word : List ℕ) (more : List (List ℕ)) → is_hash pattern ≡ false → takes pattern word ≡ true
    → Going all words (pattern ∷ patterns) (word ∷ more) → Going all words patterns more
goes_on all words pattern patterns word more plain_is taken g = record {
  same = g.same ∙ (plain pattern patterns (word ∷ more) plain_is ∙ ap (λ (b : Bool). b && matches patterns more) taken);
  near = λ rest is e. let f = g.near rest is e in taken_rest pattern patterns word more f.rest f.is (sym (plain pattern patterns f.rest plain_is) ∙ f.passes);
  fewer = omega (arith, g.fewer);
  no_more = omega (arith, g.no_more);
}

-- ---- where it stops

same_truth : (a b : Bool) → (a ≡ true → b ≡ true) → (b ≡ true → a ≡ true) → a ≡ b
same_truth true b f g = sym (f refl)
same_truth false true f g = g refl
same_truth false false f g = refl

pub reaches : (all words : List (List ℕ)) (pattern : List ℕ) (patterns more : List (List ℕ)) → is_hash pattern ≡ true → Going all words (pattern ∷ patterns) more → Reached all words patterns more
reaches all words pattern patterns more hash g =
    let alone : matches all words ≡ behind (matches patterns) more = g.same ∙ hashed pattern patterns more hash in
    record {
      alone = alone;
      after_hash = same_truth (behind (matches all) words) (behind (matches patterns) more)
          (λ e. let f = find_rest (matches all) words e in
          let n = g.near f.rest f.is f.passes in
          let h = find_rest (matches patterns) n.rest (sym (hashed pattern patterns n.rest hash) ∙ n.passes) in
          rest_found (matches patterns) h.rest more (rest_rest h.rest n.rest more h.is n.is) h.passes)
          (λ e. rest_found (matches all) words words (rest_all words) (alone ∙ e));
      fewer = omega (arith, g.fewer);
      no_more = g.no_more;
    }

-- ---- behind a `#`

pub ends_behind : (patterns words : List (List ℕ)) → matches patterns words ≡ true → behind (matches patterns) words ≡ true
ends_behind patterns words e = rest_found (matches patterns) words words (rest_all words) e
