-- Queues have lists of their own, and what is no queue's is empty.
use Rattle.std.proofs.Common.{◌≡◌, ◌≢◌, ℕ, ◌+◌, ◌<◌, ◌≤◌, ◌==◌, Bool, true, false, if◌then◌else◌, List, [], ◌∷◌, ◌++◌, length, replicate, Option, None, Some, bytes_eq, refl, sym, ap, subst, inl, inr, ◌∙◌, arith, slice_set, slice_index_or}
use Rattle.std.specs.Prelude.{nat_lt}
use Rattle.std.proofs.lemmas.Bool.{true≢false, eqb-true, ltb-true}
use Rattle.std.proofs.lemmas.Bool.Decides.{nat_tests}
use Rattle.std.proofs.lemmas.List.{length-set, length-append, get_or-set_same, get_or-set_other}
use Rattle.node_list.proofs.Showing.{grown_at}
use Rattle.name_map.specs.Named.{find, put, out}
use Rattle.named_lists.specs.Lists.{lists_of, times, Parted}
use Rattle.named_lists.proofs.Parting.{one_if, times_last, times_put, times_out, put_parted, take_parted}
use Rattle.queue_copies.specs.Copied.{Copied, copies_at}
use Rattle.queue_core.specs.declared.marks.QueueMarks.{QueueMarks}
use Rattle.queue_core.specs.Queues.{Stands, OwnLists}

same : (n : ℕ) → (n == n) ≡ true
same n = grind (arith, nat_tests)

differ : (a b : ℕ) → (a == b) ≡ false → a ≢ b
differ a b e = grind (arith, nat_tests, e)

-- a list that a queue has is counted
found_times : (name : List ℕ) (es : List (List ℕ × (QueueMarks × ℕ))) (x : QueueMarks × ℕ) → find name es ≡ Some x → 1 ≤ times x.1 (lists_of es)
found_times name es x q = omega (arith, times_out x.1 name es x q, ap one_if (same x.1))

in_count : (l count m : ℕ) → 1 ≤ m → m ≡ one_if (nat_lt l count) → l < count
in_count l count m le e = go (nat_lt l count) refl where
  go : (b : Bool) → nat_lt l count ≡ b → l < count
  go true t = ltb-true l count t
  go false t = absurd (omega (arith, le, e, ap one_if t))

module _ (entries : List (List ℕ × (QueueMarks × ℕ))) (free : List ℕ) (count : ℕ) (lists : List (List Copied)) where
  pub found_below : Stands entries free count lists → (name : List ℕ) (x : QueueMarks × ℕ) → find name entries ≡ Some x → x.1 < count
  found_below s name x q = in_count x.1 count (times x.1 (lists_of entries) + times x.1 free) (omega (arith, found_times name entries x q)) (s.parted x.1)

  pub found_within : Stands entries free count lists → (name : List ℕ) (x : QueueMarks × ℕ) → find name entries ≡ Some x → x.1 < length lists
  found_within s name x q = omega (arith, found_below s name x q, s.within)

  -- a list that is free is no queue's
  free_out : Parted (lists_of entries) free count → (l : ℕ) → 1 ≤ times l free → times l (lists_of entries) ≡ 0
  free_out p l le = go (nat_lt l count) refl where
    go : (b : Bool) → nat_lt l count ≡ b → times l (lists_of entries) ≡ 0
    go true t = omega (arith, p l, le, ap one_if t)
    go false t = omega (arith, p l, le, ap one_if t)

  pub set_stands : Stands entries free count lists → (name : List ℕ) (x : QueueMarks × ℕ) → find name entries ≡ Some x → (cs : List Copied) → Stands entries free count (slice_set lists x.1 cs)
  set_stands s name x q cs = record {
    parted = s.parted;
    within = omega (arith, s.within, length-set lists x.1 cs);
    empty = λ l z. get_or-set_other lists x.1 l cs [] (λ e. omega (arith, found_times name entries x q, z, ap (λ (k : ℕ). times k (lists_of entries)) e)) ∙ s.empty l z;
  }

  pub out_stands : Stands entries free count lists → (name : List ℕ) (x : QueueMarks × ℕ) → find name entries ≡ Some x → Stands (out name entries) (free ++ x.1 ∷ []) count (slice_set lists x.1 [])
  out_stands s name x q = record {
    parted = take_parted name entries x free count q s.parted;
    within = omega (arith, s.within, length-set lists x.1 []);
    empty = λ l z. go l z (x.1 == l) refl;
  } where
    go : (l : ℕ) → times l (lists_of (out name entries)) ≡ 0 → (b : Bool) → (x.1 == l) ≡ b → slice_index_or (slice_set lists x.1 []) l [] ≡ []
    go l z true e =
        ap (λ (k : ℕ). slice_index_or (slice_set lists x.1 []) k []) (sym (eqb-true x.1 l e))
        ∙ get_or-set_same lists x.1 [] [] (found_within s name x q)
    go l z false e =
        get_or-set_other lists x.1 l [] [] (λ i. differ x.1 l e (sym i))
        ∙ s.empty l (omega (arith, z, times_out l name entries x q, ap one_if e))

pub put_stands : (entries : List (List ℕ × (QueueMarks × ℕ))) (free : List ℕ) (count : ℕ) (lists : List (List Copied)) (name : List ℕ) (x : QueueMarks × ℕ) → Stands entries (free ++ x.1 ∷ []) count lists → Stands (put name x entries) free count lists
put_stands entries free count lists name x s = record {
  parted = put_parted name x entries free count s.parted;
  within = s.within;
  empty = λ l z. s.empty l (omega (arith, z, times_put l name x entries));
}

pub put_empty : (entries : List (List ℕ × (QueueMarks × ℕ))) (free : List ℕ) (count : ℕ) (lists : List (List Copied)) (l : ℕ) → Stands entries (free ++ l ∷ []) count lists → copies_at lists l ≡ []
put_empty entries free count lists l s = s.empty l (free_out entries (free ++ l ∷ []) count lists s.parted l (omega (arith, times_last l l free, ap one_if (same l))))

pub grown_stands : (entries : List (List ℕ × (QueueMarks × ℕ))) (free free2 : List ℕ) (count count2 : ℕ) (lists lists2 : List (List Copied)) (more : ℕ) → Stands entries free count lists → Parted (lists_of entries) free2 count2 → lists2 ≡ lists ++ replicate more [] → count2 ≤ length lists2 → Stands entries free2 count2 lists2
grown_stands entries free free2 count count2 lists lists2 more s p is le = record {
  parted = p;
  within = le;
  empty = λ l z. ap (λ (ls : List (List Copied)). slice_index_or ls l []) is ∙ (grown_at lists more [] l ∙ s.empty l z);
}

abbrev head_or : ℕ → List ℕ → ℕ
head_or d [] = d
head_or d (x ∷ xs) = x

abbrev tail_of : List ℕ → List ℕ
tail_of [] = []
tail_of (x ∷ xs) = xs

head_is : (x y : ℕ) (xs ys : List ℕ) → x ∷ xs ≡ y ∷ ys → x ≡ y
head_is x y xs ys e = ap (head_or x) e

-- the last of two equal lists
pub last_is : (xs ys : List ℕ) (a b : ℕ) → xs ++ a ∷ [] ≡ ys ++ b ∷ [] → (a ≡ b) × (xs ≡ ys)
last_is [] [] a b e = (head_is a b [] [] e, refl)
last_is [] (y ∷ ys) a b e = absurd (omega (arith, ap length e, length-append ys (b ∷ [])))
last_is (x ∷ xs) [] a b e = absurd (omega (arith, ap length e, length-append xs (a ∷ [])))
last_is (x ∷ xs) (y ∷ ys) a b e =
    let rest = last_is xs ys a b (ap tail_of e) in
    (rest.0, ap (λ (z : ℕ). z ∷ xs) (head_is x y (xs ++ a ∷ []) (ys ++ b ∷ []) e) ∙ ap (λ (zs : List ℕ). y ∷ zs) rest.1)

-- a queue that is taken out and put in again has its list back
module _ (entries : List (List ℕ × (QueueMarks × ℕ))) (free : List ℕ) (count : ℕ) (lists : List (List Copied)) (s : Stands entries free count lists) (name : List ℕ) (x : QueueMarks × ℕ) (q : find name entries ≡ Some x)
    (name2 : List ℕ) (marks : QueueMarks) (list : ℕ) (free2 : List ℕ) (same_free : free ++ x.1 ∷ [] ≡ free2 ++ list ∷ []) where
  pub again_list : x.1 ≡ list
  again_list = (last_is free free2 x.1 list same_free).0

  pub again_stands : Stands (put name2 (marks, list) (out name entries)) free2 count lists
  again_stands = record {
    parted = put_parted name2 (marks, list) (out name entries) free2 count (subst (λ (ls : List ℕ). Parted (lists_of (out name entries)) ls count) same_free (take_parted name entries x free count q s.parted));
    within = s.within;
    empty = λ l z. s.empty l (omega (arith, z, times_put l name2 (marks, list) (out name entries), times_out l name entries x q, ap (λ (k : ℕ). one_if (k == l)) again_list));
  }

some_queue : (x y : QueueMarks × ℕ) → ◌≡◌ {A = Option (QueueMarks × ℕ)} (Some x) (Some y) → x ≡ y
some_queue x y e = ap (λ (o : Option (QueueMarks × ℕ)). elim o [ None ↦ x | Some z ↦ z ]) e

pub found_same : (name : List ℕ) (entries : List (List ℕ × (QueueMarks × ℕ))) (x y : QueueMarks × ℕ) → find name entries ≡ Some x → find name entries ≡ Some y → x ≡ y
found_same name entries x y p q = some_queue x y (sym p ∙ q)

at_most_one : (b : Bool) (m n : ℕ) → m + n ≡ one_if b → m ≤ 1
at_most_one true m n e = omega (arith, e)
at_most_one false m n e = omega (arith, e)

pub own_lists : (entries : List (List ℕ × (QueueMarks × ℕ))) (free : List ℕ) (count : ℕ) (lists : List (List Copied)) → Stands entries free count lists → OwnLists entries lists
own_lists entries free count lists s = record {
  once = λ l. at_most_one (nat_lt l count) (times l (lists_of entries)) (times l free) (s.parted l);
  within = λ l le. omega (arith, s.within, in_count l count (times l (lists_of entries) + times l free) (omega (arith, le)) (s.parted l));
  empty = s.empty;
}
