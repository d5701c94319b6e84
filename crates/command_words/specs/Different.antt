-- Words, each once.
use Rattle.std.specs.Prelude.{List, [], ◌∷◌, ◌++◌, Bool, filter, not, if◌then◌else◌}
use Rattle.std.specs.List.{list_any}
use Rattle.std.specs.Str.{bytes_eq}
use Rattle.command_words.specs.Words.{Word}

-- each where it stands first
abbrev pub different : List Word → List Word
different [] = []
different (word ∷ words) = word ∷ filter (λ other. not (bytes_eq other word)) (different words)

-- ---- of the code

abbrev pub has : Word → List Word → Bool
has word words = list_any (λ other. bytes_eq other word) words

-- words with one more, unless it is there
abbrev pub with_word : List Word → Word → List Word
with_word words word = if has word words then words else words ++ word ∷ []
