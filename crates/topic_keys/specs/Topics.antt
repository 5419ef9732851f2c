-- Topic patterns and routing keys, word by word.
use Rattle.std.specs.Prelude.{ℕ, ◌==◌, ◌&&◌, ◌||◌, Bool, true, false, if◌then◌else◌, List, [], ◌∷◌, bytes_eq}
use Rattle.std.specs.List.{slice_split}

abbrev pub is_dot : ℕ → Bool
is_dot octet = octet == 46

-- n dots part n + 1 words, of which some may be empty
abbrev pub words : List ℕ → List (List ℕ)
words text = slice_split is_dot text

-- `#` stands for any number of words, also none
abbrev pub is_hash : List ℕ → Bool
is_hash word = bytes_eq word (35 ∷ [])

-- `*` stands for any one word
abbrev pub is_star : List ℕ → Bool
is_star word = bytes_eq word (42 ∷ [])

abbrev pub takes : List ℕ → List ℕ → Bool
takes pattern word = is_star pattern || bytes_eq pattern word

-- whether the words, or some of them from a later one on, or none, pass a test
abbrev pub behind : (List (List ℕ) → Bool) → List (List ℕ) → Bool
behind test [] = test []
behind test (word ∷ words) = test (word ∷ words) || behind test words

-- whether the first word is taken, and what follows it passes a test
abbrev pub first_taken : List ℕ → (List (List ℕ) → Bool) → List (List ℕ) → Bool
first_taken pattern test [] = false
first_taken pattern test (word ∷ words) = takes pattern word && test words

abbrev pub matches : List (List ℕ) → List (List ℕ) → Bool
matches [] [] = true
matches [] (word ∷ words) = false
matches (pattern ∷ patterns) words = if is_hash pattern then behind (matches patterns) words else first_taken pattern (matches patterns) words
