-- What is read is spelled so: numbers, parts, texts, and items.
use Rattle.std.proofs.Common.{◌≡◌, if◌then◌else◌, ℕ, zero, suc, ◌+◌, ◌<◌, ◌≤◌, Bool, true, false, ltb, List, [], ◌∷◌, ◌++◌, length, take, drop, Result, Ok, Err, refl, sym, ap, ◌∙◌, append_assoc, arith, inl, inr}
use Rattle.std.proofs.lemmas.Bool.{cases_lt, ltb-false, lt-ltb}
use Rattle.std.proofs.lemmas.List.{append-nil, length-take, take-append-drop, get_or-drop, get_or-take, get_or_past}
use Rattle.std.proofs.lemmas.List.Concat.{flat_map-cons}
use Rattle.std.proofs.lemmas.Nat.{be_bytes_2, be_bytes_4, be_bytes_8}
use Rattle.std.specs.Int.{Width, w8, w16, w32, w64, byte_len, from_be_bytes, to_be_bytes}
use Rattle.std.specs.List.{flat_map}
use Rattle.std.specs.Str.{is_utf8}
use Rattle.octet_reading.specs.declared.part.SizeWidth.{SizeWidth}
use Rattle.octet_reading.specs.declared.part.SizeWidth.TheVariants.{One, Two, Four}
use Rattle.octet_reading.specs.declared.why.Why.TheVariants.{Short, BadText, CountDiffers}
use Rattle.octet_reading.specs.declared.flaw.Flaw.{Flaw}
use Rattle.octet_reading.specs.Reading.{Taken, ◌>>=◌, check, flaw_at, number_at, part_at, width_of, size_at, sized_at, text_at, many_at, IsBytes}
use Rattle.octet_reading.specs.Spelling.{sized, fits}

pub IsBytes-drop : (n : ℕ) (octets : List ℕ) → IsBytes octets → IsBytes (drop n octets)
IsBytes-drop n octets h i = rw get_or-drop (h (n + i))

IsBytes-take : (n : ℕ) (octets : List ℕ) → IsBytes octets → IsBytes (take n octets)
IsBytes-take n octets h i =
    elim (cases_lt i n) [
      | inl lt ↦ rw (get_or-take n octets i 0 lt) (h i)
      | inr le ↦ rw (get_or_past (take n octets) i 0 (omega (arith, length-take n octets))) (omega arith)
    ]

-- what was read is so; of a flaw nothing is said
abbrev pub Holds : {A : Type 0} → (A → Type 0) → Result A Flaw → Type 0
Holds P (Ok x) = P x
Holds P (Err f) = Unit {0}

pub holds_bind : {A B : Type 0} (P : A → Type 0) (Q : B → Type 0) (r : Result A Flaw) (f : A → Result B Flaw) → Holds P r → ((x : A) → P x → Holds Q (f x)) → Holds Q (r >>= f)
holds_bind P Q (Ok x) f h g = g x h
holds_bind P Q (Err e) f h g = tt

pub holds_map : {A : Type 0} (P Q : A → Type 0) (r : Result A Flaw) → Holds P r → ((x : A) → P x → Q x) → Holds Q r
holds_map P Q (Ok x) h g = g x h
holds_map P Q (Err e) h g = tt

pub holds_check : {B : Type 0} (Q : B → Type 0) (b : Bool) (flaw : Flaw) (r : Result B Flaw) → (b ≡ true → Holds Q r) → Holds Q (check b flaw >>= λ _. r)
holds_check Q true flaw r g = g refl
holds_check Q false flaw r g = tt

-- octets of a width are the spelling of their number
record IsExact (w : Width) (limit : ℕ) : Type 0 where
  pub back : (octets : List ℕ) → length octets ≡ byte_len w → IsBytes octets → to_be_bytes w (from_be_bytes w octets) ≡ octets
  pub below : (octets : List ℕ) → IsBytes octets → from_be_bytes w octets < limit

back8 : (octets : List ℕ) → length octets ≡ 1 → IsBytes octets → to_be_bytes w8 (from_be_bytes w8 octets) ≡ octets
back8 [] len fits = absurd (omega (arith, len))
back8 (x ∷ []) len fits = ap (λ n. n ∷ []) (omega (arith, fits 0))
back8 (x ∷ y ∷ octets) len fits = absurd (omega (arith, len))

exact8 : IsExact w8 256
exact8 = record { back = back8; below = λ octets fits. omega (arith, fits 0) }

exact16 : IsExact w16 65536
exact16 = record { back = λ octets len fits. be_bytes_2 octets _ len fits refl; below = λ octets fits. omega (arith, fits 0, fits 1) }

exact32 : IsExact w32 4294967296
exact32 = record { back = λ octets len fits. be_bytes_4 octets _ len fits refl; below = λ octets fits. omega (arith, fits 0, fits 1, fits 2, fits 3) }

exact64 : IsExact w64 18446744073709551616
exact64 = record {
  back = λ octets len fits. be_bytes_8 octets _ len fits refl;
  below = λ octets fits. omega (arith, fits 0, fits 1, fits 2, fits 3, fits 4, fits 5, fits 6, fits 7);
}

pub record NumberIs (w : Width) (limit : ℕ) (octets : List ℕ) (x : ℕ × List ℕ) : Type 0 where
  pub parts : octets ≡ to_be_bytes w x.0 ++ x.1
  pub low : x.0 < limit
  pub rest : IsBytes x.1

number_found : (w : Width) (limit : ℕ) → IsExact w limit → (octets : List ℕ) → IsBytes octets → Holds (NumberIs w limit octets) (number_at w octets)
number_found w limit exact octets bytes = by (ltb (length octets) (byte_len w)) refl
  where
    by : (b : Bool) → ltb (length octets) (byte_len w) ≡ b → Holds (NumberIs w limit octets) (if b then Err (flaw_at Short octets) else Ok (from_be_bytes w (take (byte_len w) octets), drop (byte_len w) octets))
    by true e = tt
    by false e =
        let long : byte_len w ≤ length octets = ltb-false _ _ e in
        let fits = IsBytes-take (byte_len w) octets bytes in
        record {
          parts = sym (take-append-drop (byte_len w) octets) ∙ ap (λ xs. xs ++ drop (byte_len w) octets) (sym (exact.back (take (byte_len w) octets) (omega (arith, length-take (byte_len w) octets)) fits));
          low = exact.below (take (byte_len w) octets) fits;
          rest = IsBytes-drop (byte_len w) octets bytes;
        }

pub octet_found : (octets : List ℕ) → IsBytes octets → Holds (NumberIs w8 256 octets) (number_at w8 octets)
octet_found = number_found w8 256 exact8

pub pair_found : (octets : List ℕ) → IsBytes octets → Holds (NumberIs w16 65536 octets) (number_at w16 octets)
pair_found = number_found w16 65536 exact16

pub count_found : (octets : List ℕ) → IsBytes octets → Holds (NumberIs w32 4294967296 octets) (number_at w32 octets)
count_found = number_found w32 4294967296 exact32

pub eight_found : (octets : List ℕ) → IsBytes octets → Holds (NumberIs w64 18446744073709551616 octets) (number_at w64 octets)
eight_found = number_found w64 18446744073709551616 exact64

-- one octet's spelling is itself
pub octet_is : (c : ℕ) → c < 256 → to_be_bytes w8 c ≡ c ∷ []
octet_is c lt = ap (λ n. n ∷ []) (omega (arith, lt))

pub record PartIs (octets : List ℕ) (size : ℕ) (x : List ℕ × List ℕ) : Type 0 where
  pub parts : octets ≡ x.0 ++ x.1
  pub long : length x.0 ≡ size
  pub inside : IsBytes x.0
  pub rest : IsBytes x.1

pub part_found : (from octets : List ℕ) (size : ℕ) → IsBytes octets → Holds (PartIs octets size) (part_at from octets size)
part_found from octets size bytes = by (ltb (length octets) size) refl
  where
    by : (b : Bool) → ltb (length octets) size ≡ b → Holds (PartIs octets size) (if b then Err (flaw_at Short from) else Ok (take size octets, drop size octets))
    by true e = tt
    by false e =
        let enough : size ≤ length octets = ltb-false _ _ e in
        record {
          parts = sym (take-append-drop size octets);
          long = omega (arith, length-take size octets);
          inside = IsBytes-take size octets bytes;
          rest = IsBytes-drop size octets bytes;
        }

record SizeIs (width : SizeWidth) (octets : List ℕ) (x : ℕ × List ℕ) : Type 0 where
  pub parts : octets ≡ to_be_bytes (width_of width) x.0 ++ x.1
  pub fit : fits width x.0 ≡ true
  pub rest : IsBytes x.1

size_found : (width : SizeWidth) (octets : List ℕ) → IsBytes octets → Holds (SizeIs width octets) (size_at width octets)
size_found One octets bytes = holds_map (NumberIs w8 256 octets) (SizeIs One octets) (number_at w8 octets) (number_found w8 256 exact8 octets bytes) (λ x n. record { parts = n.parts; fit = lt-ltb _ _ n.low; rest = n.rest })
size_found Two octets bytes = holds_map (NumberIs w16 65536 octets) (SizeIs Two octets) (number_at w16 octets) (number_found w16 65536 exact16 octets bytes) (λ x n. record { parts = n.parts; fit = lt-ltb _ _ n.low; rest = n.rest })
size_found Four octets bytes = holds_map (NumberIs w32 4294967296 octets) (SizeIs Four octets) (number_at w32 octets) (number_found w32 4294967296 exact32 octets bytes) (λ x n. record { parts = n.parts; fit = lt-ltb _ _ n.low; rest = n.rest })

pub record SizedIs (width : SizeWidth) (octets : List ℕ) (x : List ℕ × List ℕ) : Type 0 where
  pub parts : octets ≡ sized width x.0 ++ x.1
  pub fit : fits width (length x.0) ≡ true
  pub inside : IsBytes x.0
  pub rest : IsBytes x.1

pub sized_found : (width : SizeWidth) (octets : List ℕ) → IsBytes octets → Holds (SizedIs width octets) (sized_at width octets)
unfolding sized_at
sized_found width octets bytes =
    holds_bind (SizeIs width octets) (SizedIs width octets) (size_at width octets) (λ size. part_at octets size.1 size.0) (size_found width octets bytes)
    (λ size s. holds_map (PartIs size.1 size.0) (SizedIs width octets) (part_at octets size.1 size.0) (part_found octets size.1 size.0 s.rest)
    (λ x p. record {
      parts = s.parts ∙ ap (λ xs. to_be_bytes (width_of width) size.0 ++ xs) p.parts ∙ sym (append_assoc (to_be_bytes (width_of width) size.0) x.0 x.1)
          ∙ ap (λ n. (to_be_bytes (width_of width) n ++ x.0) ++ x.1) (sym p.long);
      fit = ap (fits width) p.long ∙ s.fit;
      inside = p.inside;
      rest = p.rest;
    }))

pub record TextIs (width : SizeWidth) (octets : List ℕ) (x : List ℕ × List ℕ) : Type 0 where
  pub parts : octets ≡ sized width x.0 ++ x.1
  pub fit : fits width (length x.0) ≡ true
  pub utf8 : is_utf8 x.0 ≡ true
  pub rest : IsBytes x.1

pub text_found : (width : SizeWidth) (octets : List ℕ) → IsBytes octets → Holds (TextIs width octets) (text_at width octets)
unfolding text_at
text_found width octets bytes =
    holds_bind (SizedIs width octets) (TextIs width octets) (sized_at width octets) (λ part. check (is_utf8 part.0) (record { left = length part.0 + length part.1; why = BadText }) >>= λ _. Ok part) (sized_found width octets bytes)
    (λ part s. holds_check (TextIs width octets) (is_utf8 part.0) (record { left = length part.0 + length part.1; why = BadText }) (Ok part)
    (λ u. record { parts = s.parts; fit = s.fit; utf8 = u; rest = s.rest }))

module _ {A : Type 0} (one : List A → List ℕ → Taken A) (spell : A → List ℕ) (Good : List A → A → Type 0) where
  pub record OneIs (front : List A) (octets : List ℕ) (x : A × List ℕ) : Type 0 where
    pub parts : octets ≡ spell x.0 ++ x.1
    pub good : Good front x.0
    pub rest : IsBytes x.1

  abbrev pub Goods : List A → List A → Type 0
  Goods front [] = Unit {0}
  Goods front (x ∷ xs) = Good front x × Goods (front ++ x ∷ []) xs

  pub record ManyAre (front : List A) (n : ℕ) (octets : List ℕ) (x : List A × List ℕ) : Type 0 where
    pub more : List A
    pub items : x.0 ≡ front ++ more
    pub count : length more ≡ n
    pub parts : octets ≡ flat_map spell more ++ x.1
    pub good : Goods front more
    pub rest : IsBytes x.1

  pub many_found : ((front : List A) (octets : List ℕ) → IsBytes octets → Holds (OneIs front octets) (one front octets))
      → (front : List A) (n from : ℕ) (octets : List ℕ) → IsBytes octets → Holds (ManyAre front n octets) (many_at one front n from octets)
  unfolding many_at
  many_found found front zero from octets bytes = record { more = []; items = sym (append-nil front); count = refl; parts = refl; good = tt; rest = bytes }
  many_found found front (suc n) from octets bytes =
      holds_check (ManyAre front (suc n) octets) (ltb 0 (length octets)) (record { left = from; why = CountDiffers }) (one front octets >>= λ x. many_at one (front ++ x.0 ∷ []) n from x.1)
      (λ _. holds_bind (OneIs front octets) (ManyAre front (suc n) octets) (one front octets) (λ x. many_at one (front ++ x.0 ∷ []) n from x.1) (found front octets bytes)
      (λ x h. holds_map (ManyAre (front ++ x.0 ∷ []) n x.1) (ManyAre front (suc n) octets) (many_at one (front ++ x.0 ∷ []) n from x.1) (many_found found (front ++ x.0 ∷ []) n from x.1 h.rest)
      (λ y m. record {
        more = x.0 ∷ m.more;
        items = m.items ∙ append_assoc front (x.0 ∷ []) m.more;
        count = ap suc m.count;
        parts = h.parts ∙ ap (λ t. spell x.0 ++ t) m.parts ∙ sym (append_assoc (spell x.0) (flat_map spell m.more) y.1) ∙ ap (λ t. t ++ y.1) (sym (flat_map-cons spell x.0 m.more));
        good = (h.good, m.good);
        rest = m.rest;
      })))
