-- How far a pattern goes without `#`.
use Rattle.std.specs.Prelude.{◌≡◌, ℕ, ◌<◌, ◌≤◌, true, false, List, [], length, Option, None, Some}
use Rattle.topic_keys.specs.declared.topic.Ahead.{Ahead}
use Rattle.topic_keys.specs.declared.topic.Ahead.TheVariants.{Ends, Fails, Hash}
use Rattle.topic_keys.specs.Topics.{words, behind, matches}

-- the words of a text that is left; where none is, there are none
abbrev pub left : Option (List ℕ) → List (List ℕ)
left None = []
left (Some text) = words text

-- up to a `#` all words were taken: what follows it decides, also where a `#` stands before
pub record Reached (patterns words more_patterns more_words : List (List ℕ)) : Type 0 where
  pub alone : matches patterns words ≡ behind (matches more_patterns) more_words
  pub after_hash : behind (matches patterns) words ≡ behind (matches more_patterns) more_words
  pub fewer : length more_patterns < length patterns
  pub no_more : length more_words ≤ length words

abbrev pub AheadIs : Ahead → List (List ℕ) → List (List ℕ) → List (List ℕ) → List (List ℕ) → Type 0
AheadIs Ends patterns words more_patterns more_words = matches patterns words ≡ true
AheadIs Fails patterns words more_patterns more_words = matches patterns words ≡ false
AheadIs Hash patterns words more_patterns more_words = Reached patterns words more_patterns more_words

-- a pattern at its end matches no words alone
abbrev pub EndIs : Ahead → List (List ℕ) → Type 0
EndIs Ends words = words ≡ []
EndIs Fails words = 0 < length words
EndIs Hash words = ⊥
