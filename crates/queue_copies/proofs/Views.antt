-- What lists of copies become.
use Rattle.std.proofs.Common.{◌≡◌, ℕ, suc, ◌<◌, false, if◌then◌else◌, is_some, List, [], ◌∷◌, ◌++◌, length, map, Option, None, refl, sym, ap, ◌∙◌}
use Rattle.std.proofs.lemmas.List.{append-nil}
use Rattle.node_list.specs.Keys.{has, without, list_at}
use Rattle.number_tree.specs.Numbers.{Each, with_number}
use Rattle.queue_copies.specs.declared.entry.Entry.{Entry}
use Rattle.queue_copies.specs.Copied.{Hold, Copied, Stock, numbers, changed, removed, available, held_only, shelf_of}
use Rattle.queue_copies.specs.Sound.{gathered}
use Rattle.queue_copies.proofs.Numbers.{with_between}
use Rattle.queue_copies.proofs.Parted.{each_available, available_append, held_append}

pub map_changed : (f h : ℕ → Option Entry) (n : ℕ) (g : Copied → Copied) → ((ks : List ℕ) → gathered h ks ≡ changed n g (gathered f ks)) → (lists : List (List ℕ)) → map (gathered h) lists ≡ map (changed n g) (map (gathered f) lists)
map_changed f h n g q [] = refl
map_changed f h n g q (ks ∷ lists) = ap (λ (cs : List Copied). cs ∷ map (gathered h) lists) (q ks) ∙ ap (λ (ls : List (List Copied)). changed n g (gathered f ks) ∷ ls) (map_changed f h n g q lists)

pub map_removed : (f h : ℕ → Option Entry) (n key : ℕ) → ((ks : List ℕ) → gathered h (without key ks) ≡ removed n (gathered f ks)) → (lists : List (List ℕ)) → map (gathered h) (map (λ ks. without key ks) lists) ≡ map (removed n) (map (gathered f) lists)
map_removed f h n key q [] = refl
map_removed f h n key q (ks ∷ lists) = ap (λ (cs : List Copied). cs ∷ map (gathered h) (map (λ ks. without key ks) lists)) (q ks) ∙ ap (λ (ls : List (List Copied)). removed n (gathered f ks) ∷ ls) (map_removed f h n key q lists)

pub map_kept : (f h : ℕ → Option Entry) (key : ℕ) → ((ks : List ℕ) → has key ks ≡ false → gathered h ks ≡ gathered f ks) → (lists : List (List ℕ)) → ((l : ℕ) → has key (list_at lists l) ≡ false) → map (gathered h) lists ≡ map (gathered f) lists
map_kept f h key q [] away = refl
map_kept f h key q (ks ∷ lists) away =
    ap (λ (cs : List Copied). cs ∷ map (gathered h) lists) (q ks (away 0)) ∙ ap (λ (ls : List (List Copied)). gathered f ks ∷ ls) (map_kept f h key q lists (λ l. away (suc l)))

pub stock_is : (a b : Stock) → a.lists ≡ b.lists → a.spare ≡ b.spare → a ≡ b
stock_is a b e f = ap (λ (ls : List (List Copied)). record { lists = ls; spare = a.spare }) e ∙ ap (λ (m : ℕ). record { lists = b.lists; spare = m }) f

-- what is known of a list once a copy is added that nobody holds
pub shelf_added : (cs : List Copied) (c : Copied) (n : ℕ) → c.hold ≡ None → c.copy.number ≡ n → Each (λ m. m < n) (numbers cs) → shelf_of (cs ++ c ∷ []) ≡ record { available = with_number n (available cs); held = length (held_only cs) }
shelf_added cs c n h e low =
    ap (λ (ns : List ℕ). record { available = ns; held = length (held_only (cs ++ c ∷ [])) })
    (available_append cs (c ∷ []) ∙ (ap (λ (o : Option Hold). available cs ++ (if is_some o then [] else c.copy.number ∷ [])) h ∙ (ap (λ (m : ℕ). available cs ++ m ∷ []) e
    ∙ (sym (with_between n (available cs) [] (each_available (λ m. m < n) cs low) tt) ∙ ap (with_number n) (append-nil (available cs))))))
    ∙ ap (λ (m : ℕ). record { available = with_number n (available cs); held = m })
    (ap length (held_append cs (c ∷ []) ∙ (ap (λ (o : Option Hold). held_only cs ++ (if is_some o then c ∷ [] else [])) h ∙ append-nil (held_only cs))))
