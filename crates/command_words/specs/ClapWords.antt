-- What the code makes of the words of a command by `clap`: a command without arguments, with one, with four, or with one that takes
-- several words.
use Rattle.std.specs.Prelude.{◌≡◌, ◌≢◌, List, [], ◌∷◌, map, IsSome, MatchOption, Option, None, Some, true, codes}
use Rattle.std.specs.Borrow.{Bor}
use Rattle.clap.specs.Faults.{fault_of}
use Rattle.clap.specs.Simple.{App, matches_of, new_app, new_rule, with_rule}
use Rattle.clap.specs.Walk.{Row, Rule, rows_of}
use Rattle.clap.specs.Matches.{found_of}
use Rattle.clap.specs.Lexer.{usize_max}
use Rattle.clap.specs.declared.builder.action.ArgAction.TheVariants.{Set}
use Rattle.clap.specs.declared.parser.matches.ArgMatches.{ArgMatches}
use Rattle.command_words.specs.Words.{Word}

-- the texts behind references
abbrev pub seen : List (Bor Word) → List Word
seen words = map (λ word. word.now) words

-- the command's word, `--`, and the positional words
abbrev pub command_line : (first : Word) → (words : List Word) → List Word
command_line first words = first ∷ codes "--" ∷ words

-- an argument that takes one word, which has to be there
abbrev pub one_word : Word → Rule
one_word id = record (new_rule id) { required = true; action = Some Set }

-- an argument that takes one word or more
abbrev pub some_words : Word → Rule
some_words id = record (one_word id) { range = Some (record { start_inclusive = 1; end_inclusive = usize_max }) }

-- commands by their arguments
abbrev pub without_words : Word → App
without_words first = new_app first

abbrev pub with_one_word : Word → App
with_one_word first = with_rule (new_app first) (one_word (codes "word"))

abbrev pub with_some_words : Word → App
with_some_words first = with_rule (new_app first) (some_words (codes "words"))

abbrev pub with_four_words : Word → App
with_four_words first =
    with_rule (with_rule (with_rule (with_rule (new_app first) (one_word (codes "file"))) (one_word (codes "line"))) (one_word (codes "column"))) (one_word (codes "name"))

-- what clap finds in words: these matches exactly where it takes them
abbrev pub Finds : App → List Word → Option ArgMatches → Type 0
Finds app words found = MatchOption found (fault_of app words ≢ []) (λ m. (fault_of app words ≡ []) × (rows_of (found_of m) ≡ matches_of app words))

-- the value that is read of what was found: there is one where something was found
abbrev pub HasValue : {V : Type 0} → (List Row → Option V) → Option ArgMatches → Type 0
HasValue read found = MatchOption found (Unit {0}) (λ m. IsSome (read (rows_of (found_of m))))

-- a value is what is read of what was found, and none where nothing was
abbrev pub IsValue : {V : Type 0} → (List Row → Option V) → Option ArgMatches → Option V → Type 0
IsValue {V} read found value = MatchOption found (value ≡ None) (λ m. read (rows_of (found_of m)) ≡ value)
