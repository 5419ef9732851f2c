-- What is spelled is read again, whatever follows: numbers, parts, texts, and items.
use Rattle.std.proofs.Common.{◌≡◌, if◌then◌else◌, ℕ, ◌+◌, ◌<◌, true, false, ltb, List, [], ◌∷◌, ◌++◌, length, Ok, Err, refl, sym, ap, ◌∙◌, append_assoc, arith}
use Rattle.std.specs.Int.{Width, w8, w16, w32, w64, byte_len, from_be_bytes, to_be_bytes}
use Rattle.std.specs.List.{flat_map}
use Rattle.std.specs.Str.{is_utf8}
use Rattle.std.proofs.lemmas.Bool.{ltb-true, le-ltb, lt-ltb}
use Rattle.std.proofs.lemmas.List.{take_at, drop_at, length-append, append-nil}
use Rattle.std.proofs.lemmas.List.Concat.{flat_map-cons}
use Rattle.std.proofs.lemmas.Nat.{from_be_bytes-to_be_bytes_2, from_be_bytes-to_be_bytes_4, from_be_bytes-to_be_bytes_8}
use Rattle.octet_reading.specs.declared.part.SizeWidth.{SizeWidth}
use Rattle.octet_reading.specs.declared.part.SizeWidth.TheVariants.{One, Two, Four}
use Rattle.octet_reading.specs.declared.why.Why.TheVariants.{BadText, CountDiffers}
use Rattle.octet_reading.specs.Reading.{Taken, ◌>>=◌, check, number_at, part_at, width_of, size_at, sized_at, text_at, many_at}
use Rattle.octet_reading.specs.Spelling.{sized, fits}

-- numbers below a limit have one spelling of that width
pub record IsWide (w : Width) (limit : ℕ) : Type 0 where
  pub len : (n : ℕ) → length (to_be_bytes w n) ≡ byte_len w
  pub again : (n : ℕ) → n < limit → from_be_bytes w (to_be_bytes w n) ≡ n

pub wide8 : IsWide w8 256
wide8 = record { len = λ n. refl; again = λ n lt. omega (arith, lt) }

pub wide16 : IsWide w16 65536
wide16 = record { len = λ n. refl; again = λ n lt. from_be_bytes-to_be_bytes_2 n lt }

pub wide32 : IsWide w32 4294967296
wide32 = record { len = λ n. refl; again = λ n lt. from_be_bytes-to_be_bytes_4 n lt }

pub wide64 : IsWide w64 18446744073709551616
wide64 = record { len = λ n. refl; again = λ n lt. from_be_bytes-to_be_bytes_8 n lt }

pub number_again : (w : Width) (limit : ℕ) (wide : IsWide w limit) (n : ℕ) (rest : List ℕ) → n < limit → number_at w (to_be_bytes w n ++ rest) ≡ Ok (n, rest)
number_again w limit wide n rest lt =
    let len = wide.len n in
    let long : ltb (length (to_be_bytes w n ++ rest)) (byte_len w) ≡ false = le-ltb _ _ (omega (arith, length-append (to_be_bytes w n) rest, len)) in
    rw (long, take_at (to_be_bytes w n) rest (byte_len w) len, drop_at (to_be_bytes w n) rest (byte_len w) len, wide.again n lt) refl

pub part_again : (from octets rest : List ℕ) → part_at from (octets ++ rest) (length octets) ≡ Ok (octets, rest)
part_again from octets rest =
    let long : ltb (length (octets ++ rest)) (length octets) ≡ false = le-ltb _ _ (omega (arith, length-append octets rest)) in
    rw (long, take_at octets rest (length octets) refl, drop_at octets rest (length octets) refl) refl

pub size_again : (width : SizeWidth) (n : ℕ) (rest : List ℕ) → fits width n ≡ true → size_at width (to_be_bytes (width_of width) n ++ rest) ≡ Ok (n, rest)
size_again One n rest h = number_again w8 256 wide8 n rest (ltb-true n 256 h)
size_again Two n rest h = number_again w16 65536 wide16 n rest (ltb-true n 65536 h)
size_again Four n rest h = number_again w32 4294967296 wide32 n rest (ltb-true n 4294967296 h)

pub sized_again : (width : SizeWidth) (octets rest : List ℕ) → fits width (length octets) ≡ true → sized_at width (sized width octets ++ rest) ≡ Ok (octets, rest)
unfolding sized_at
sized_again width octets rest h =
    let all = sized width octets ++ rest in
    ap (λ xs. size_at width xs >>= λ size. part_at all size.1 size.0) (append_assoc (to_be_bytes (width_of width) (length octets)) octets rest)
    ∙ ap (λ r. r >>= λ size. part_at all size.1 size.0) (size_again width (length octets) (octets ++ rest) h)
    ∙ part_again all octets rest

pub text_again : (width : SizeWidth) (text rest : List ℕ) → fits width (length text) ≡ true → is_utf8 text ≡ true → text_at width (sized width text ++ rest) ≡ Ok (text, rest)
unfolding text_at
text_again width text rest h u =
    let goes : (List ℕ × List ℕ) → Taken (List ℕ) = λ part. check (is_utf8 part.0) (record { left = length part.0 + length part.1; why = BadText }) >>= λ _. Ok part in
    ap (λ r. r >>= goes) (sized_again width text rest h)
    ∙ ap (λ b. (if b then Ok tt else Err (record { left = length text + length rest; why = BadText })) >>= λ _. Ok (text, rest)) u

module _ {A : Type 0} (one : List A → List ℕ → Taken A) (spell : A → List ℕ) where
  -- each item is read again after those before it, and has octets
  abbrev pub Agains : List A → List A → Type 0
  Agains front [] = Unit {0}
  Agains front (x ∷ xs) = (((rest : List ℕ) → one front (spell x ++ rest) ≡ Ok (x, rest)) × (0 < length (spell x))) × Agains (front ++ x ∷ []) xs

  pub many_again : (front items : List A) (from : ℕ) (rest : List ℕ) → Agains front items → many_at one front (length items) from (flat_map spell items ++ rest) ≡ Ok (front ++ items, rest)
  unfolding many_at
  many_again front [] from rest h = ap (λ xs. Ok (xs, rest)) (sym (append-nil front))
  many_again front (x ∷ xs) from rest ((again, some), more) =
      let text = flat_map spell (x ∷ xs) ++ rest in
      let after = flat_map spell xs ++ rest in
      let split : text ≡ spell x ++ after = ap (λ ys. ys ++ rest) (flat_map-cons spell x xs) ∙ append_assoc (spell x) (flat_map spell xs) rest in
      let left : ltb 0 (length text) ≡ true = lt-ltb _ _ (omega (arith, ap length split, length-append (spell x) after, some)) in
      let goes : (A × List ℕ) → Taken (List A) = λ y. many_at one (front ++ y.0 ∷ []) (length xs) from y.1 in
      ap (λ b. (if b then Ok tt else Err (record { left = from; why = CountDiffers })) >>= λ _. one front text >>= goes) left
      ∙ ap (λ ys. one front ys >>= goes) split
      ∙ ap (λ r. r >>= goes) (again after)
      ∙ many_again (front ++ x ∷ []) xs from rest more
      ∙ ap (λ ys. Ok (ys, rest)) (append_assoc front (x ∷ []) xs)
