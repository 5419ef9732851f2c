-- Names with lists.
use Rattle.std.specs.Prelude.{◌≡◌, ℕ, ◌+◌, ◌≤◌, ◌==◌, nat_lt, if◌then◌else◌, List, [], ◌∷◌, refl}
use Rattle.std.specs.Coded.{Coded, code_by, coded×, coded_ℕ, coded_list}

-- names in order with marks and lists, the lists that are free, how many lists there are, and the room for more
pub record NameLists (M : Type 0) : Type 0 where
  pub entries : List (List ℕ × (M × ℕ))
  pub free : List ℕ
  pub count : ℕ
  pub spare : ℕ

-- it is stored as the tuple of its fields
abbrev pub name_lists_code : {M : Type 0} → Coded M → Coded (NameLists M)
name_lists_code {M} code =
    code_by
    (List (List ℕ × (M × ℕ)) × (List ℕ × (ℕ × ℕ)))
    (coded× (coded_list (coded× (coded_list coded_ℕ) (coded× code coded_ℕ))) (coded× (coded_list coded_ℕ) (coded× coded_ℕ coded_ℕ)))
    (λ v. (v.entries, (v.free, (v.count, v.spare))))
    (λ p. record { entries = p.0; free = p.1.0; count = p.1.1.0; spare = p.1.1.1 })
    (λ _. refl)

abbrev pub lists_of : {M : Type 0} → List (List ℕ × (M × ℕ)) → List ℕ
lists_of [] = []
lists_of (e ∷ es) = e.1.1 ∷ lists_of es

-- how often a number stands in a list
abbrev pub times : ℕ → List ℕ → ℕ
times n [] = 0
times n (m ∷ ms) = (if m == n then 1 else 0) + times n ms

-- each of so many lists is a name's or free, once
abbrev pub Parted : List ℕ → List ℕ → ℕ → Type 0
Parted used free count = (list : ℕ) → times list used + times list free ≡ (if nat_lt list count then 1 else 0)

pub record IsReady (free room used capacity : ℕ) : Type 0 where
  pub names : free ≤ room
  pub lists : used + free ≤ capacity
