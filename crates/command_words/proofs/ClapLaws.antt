-- What is found in the words of a command says of them.
use Rattle.std.proofs.Common.{◌≡◌, ◌≢◌, ◌<◌, ◌≤◌, ◌^◌, ℕ, List, [], ◌∷◌, length, true, false, Option, Some, None, is_some, IsTrue, refl, ap, sym, ◌∙◌, subst, codes, arith}
use Rattle.std.specs.Prelude.{IsSome, IsSomeAnd, MatchOption, option_map}
use Rattle.std.specs.Borrow.{Bor}
use Rattle.std.proofs.lemmas.Bool.{false≢true}
use Rattle.std.proofs.lemmas.List.{length-map}
use Rattle.clap.specs.Lexer.{usize_max}
use Rattle.clap.specs.Matches.{first_value, found_of, matched_of, raw_values}
use Rattle.clap.specs.Simple.{App, is_simple}
use Rattle.clap.specs.Faults.{fault_of, is_simple_and_free}
use Rattle.clap.specs.Walk.{Row, all_of, first_of, rows_of, rule_of}
use Rattle.clap.specs.declared.builder.arg.Arg.{Arg}
use Rattle.clap.specs.declared.builder.range.ValueRange.{ValueRange}
use Rattle.clap.specs.declared.parser.matches.ArgMatches.{ArgMatches}
use Rattle.clap.specs.declared.parser.matches.Found.{Found}
use Rattle.clap.proofs.WalkLemmas.{both, first_value-rows, raw_values-rows}
use Rattle.command_words.specs.ClapWords.{Finds, HasValue, IsValue, command_line, one_word, seen, some_words, with_four_words, with_one_word, with_some_words, without_words}
use Rattle.command_words.specs.FourValues.{AreFound, AreValues, HasFourValues}
use Rattle.command_words.specs.Words.{Word}
use Rattle.command_words.specs.declared.clap_words.FourWords.{FourWords}
use Rattle.command_words.proofs.ClapRuns.{four_found, four_taken, none_refused, none_taken, one_found, one_taken, some_found, some_refused}

moved : (app other : App) (line words : List Word) (found : Option ArgMatches) → app ≡ other → line ≡ words → Finds app line found → Finds other words found
moved app other line words found apps lines h =
    let P : App → Type 0 = λ a. Finds a line found in
    let Q : List Word → Type 0 = λ ws. Finds other ws found in subst Q lines (subst P apps h)

is_there : (o : Option Word) (w : Word) → o ≡ Some w → IsSome o
is_there o w same = ap is_some same

same_word : (o : Option Word) (v w : Word) → o ≡ Some v → o ≡ Some w → v ≡ w
same_word o v w one other = cc

no_value_case : (o v : Option Word) → None ≡ v → v ≡ o → IsSome o → ⊥
no_value_case o v none same some = false≢true (ap is_some (none ∙ same) ∙ some)

-- an argument that has a value isn't without one
pub no_value : (f : Found) (id : Word) → None ≡ first_value f id → IsSome (first_of id (rows_of f)) → ⊥
no_value f id none some = no_value_case (first_of id (rows_of f)) (first_value f id) none (first_value-rows f id) some

-- the value of an argument
pub value_is : (f : Found) (id word copy : Word) → Some word ≡ first_value f id → copy ≡ word → first_of id (rows_of f) ≡ Some copy
value_is f id word copy found same = sym (first_value-rows f id) ∙ sym found ∙ ap (λ (w : Word). Some w) (sym same)

-- a command that has only simple arguments
pub simple_of : (a : App) → is_simple_and_free a ≡ true → is_simple a ≡ true
simple_of a h = (both (is_simple a) _ h).0

-- ---- without words

alone_of : (first : Word) (words : List Word) (found : Option ArgMatches) → Finds (without_words first) (command_line first words) found
    → (IsTrue (is_some found) → words ≡ []) × (words ≡ [] → IsTrue (is_some found))
alone_of first words None h = (λ t. absurd (false≢true t), λ none. absurd (h (ap (λ (ws : List Word). fault_of (without_words first) (command_line first ws)) none ∙ none_taken first)))
alone_of first words (Some m) h = (λ t. none_refused first words h.0, λ none. refl)

pub alone : (first : Word) (words line : List Word) (app : App) (found : Option ArgMatches) → app ≡ without_words first → line ≡ command_line first words → Finds app line found
    → (IsTrue (is_some found) → words ≡ []) × (words ≡ [] → IsTrue (is_some found))
alone first words line app found apps lines h = alone_of first words found (moved app (without_words first) line (command_line first words) found apps lines h)

-- ---- one word

abbrev word_in : ArgMatches → Option Word
word_in m = first_of (codes "word") (rows_of (found_of m))

-- the word that was found
pub record HasWord (words : List Word) (m : ArgMatches) : Type 0 where
  pub word : Word
  pub words_are : words ≡ word ∷ []
  pub found : first_of (codes "word") (rows_of (found_of m)) ≡ Some word

pub has_word : (first : Word) (words line : List Word) (app : App) (m : ArgMatches) → app ≡ with_one_word first → line ≡ command_line first words → Finds app line (Some m) → HasWord words m
has_word first words line app m apps lines h =
    let here = moved app (with_one_word first) line (command_line first words) (Some m) apps lines h in
    let found = one_found first words here.0 in record {
      word = found.0;
      words_are = found.1;
      found = ap (λ (rows : List Row). first_of (codes "word") rows) here.1 ∙ found.2;
    }

pub no_word : (first : Word) (words line : List Word) (app : App) → app ≡ with_one_word first → line ≡ command_line first words → Finds app line None → (word : Word) → words ≢ word ∷ []
no_word first words line app apps lines h word same =
    let here = moved app (with_one_word first) line (command_line first words) None apps lines h in
    here (ap (λ (ws : List Word). fault_of (with_one_word first) (command_line first ws)) same ∙ one_taken first word)

-- ---- four words

abbrev in_four : Word → ArgMatches → Option Word
in_four id m = first_of id (rows_of (found_of m))

-- the words that were found
pub record HasFour (words : List Word) (m : ArgMatches) : Type 0 where
  pub file : Word
  pub line : Word
  pub column : Word
  pub name : Word
  pub words_are : words ≡ file ∷ line ∷ column ∷ name ∷ []
  pub file_found : first_of (codes "file") (rows_of (found_of m)) ≡ Some file
  pub line_found : first_of (codes "line") (rows_of (found_of m)) ≡ Some line
  pub column_found : first_of (codes "column") (rows_of (found_of m)) ≡ Some column
  pub name_found : first_of (codes "name") (rows_of (found_of m)) ≡ Some name

pub has_four : (first : Word) (words line : List Word) (app : App) (m : ArgMatches) → app ≡ with_four_words first → line ≡ command_line first words → Finds app line (Some m) → HasFour words m
has_four first words line app m apps lines h =
    let here = moved app (with_four_words first) line (command_line first words) (Some m) apps lines h in
    let found = four_found first words here.0 in record {
      file = found.file;
      line = found.line;
      column = found.column;
      name = found.name;
      words_are = found.words_are;
      file_found = ap (λ (rows : List Row). first_of (codes "file") rows) here.1 ∙ found.file_found;
      line_found = ap (λ (rows : List Row). first_of (codes "line") rows) here.1 ∙ found.line_found;
      column_found = ap (λ (rows : List Row). first_of (codes "column") rows) here.1 ∙ found.column_found;
      name_found = ap (λ (rows : List Row). first_of (codes "name") rows) here.1 ∙ found.name_found;
    }

pub the_four : (words : List Word) (m : ArgMatches) (file line column name : Word) → HasFour words m
    → first_of (codes "file") (rows_of (found_of m)) ≡ Some file → first_of (codes "line") (rows_of (found_of m)) ≡ Some line
    → first_of (codes "column") (rows_of (found_of m)) ≡ Some column → first_of (codes "name") (rows_of (found_of m)) ≡ Some name
    → words ≡ file ∷ line ∷ column ∷ name ∷ []
the_four words m file line column name h a b c d =
    let files = same_word (in_four (codes "file") m) h.file file h.file_found a in
    let lines = same_word (in_four (codes "line") m) h.line line h.line_found b in
    let columns = same_word (in_four (codes "column") m) h.column column h.column_found c in
    let names = same_word (in_four (codes "name") m) h.name name h.name_found d in
    h.words_are ∙ λ j. files j ∷ lines j ∷ columns j ∷ names j ∷ []

pub no_four : (first : Word) (words line : List Word) (app : App) → app ≡ with_four_words first → line ≡ command_line first words → Finds app line None
    → (a b c d : Word) → words ≢ a ∷ b ∷ c ∷ d ∷ []
no_four first words line app apps lines h a b c d same =
    let here = moved app (with_four_words first) line (command_line first words) None apps lines h in
    here (ap (λ (ws : List Word). fault_of (with_four_words first) (command_line first ws)) same ∙ four_taken first a b c d)

-- ---- some words

-- all words were found
pub record HasAll (words : List Word) (m : ArgMatches) : Type 0 where
  pub some : 0 < length words
  pub found : all_of (codes "words") (rows_of (found_of m)) ≡ Some words

pub has_all : (first : Word) (words line : List Word) (app : App) (m : ArgMatches) → app ≡ with_some_words first → line ≡ command_line first words → Finds app line (Some m) → HasAll words m
has_all first words line app m apps lines h =
    let here = moved app (with_some_words first) line (command_line first words) (Some m) apps lines h in
    let found = some_found first words here.0 in record {
      some = found.0;
      found = ap (λ (rows : List Row). all_of (codes "words") rows) here.1 ∙ found.1;
    }

pub none_of_some : (first : Word) (words line : List Word) (app : App) → length words ≤ usize_max → app ≡ with_some_words first → line ≡ command_line first words → Finds app line None → words ≡ []
none_of_some first words line app few apps lines h =
    let here = moved app (with_some_words first) line (command_line first words) None apps lines h in some_refused first words few here

-- the words of a line that memory holds are no more than a command may have
pub few_words : (first : Word) (words : List Word) (items : List (Bor Word)) (room : ℕ) → seen items ≡ command_line first words → length items ≤ room → room < 2 ^ 63 → length words ≤ usize_max
few_words first words items room same within small =
    let longer = ap (λ (ws : List Word). length ws) same in
    let all = length-map items (λ (w : Bor Word). w.now) in omega (arith, longer, all, within, small)

-- ---- an argument that takes several words

range_is : (o : Option ValueRange) (range : ValueRange) → IsSomeAnd o (λ r. r ≡ range) → o ≡ Some range
range_is None range h = absurd h
range_is (Some r) range h = ap (λ (x : ValueRange). Some x) h

pub ranged : (old new : Arg) (id : Word) → rule_of old ≡ one_word id → new ≡ record old { num_vals = new.num_vals } → IsSomeAnd new.num_vals (λ r. r ≡ record { start_inclusive = 1; end_inclusive = usize_max })
    → rule_of new ≡ some_words id
ranged old new id rule same range =
    ap rule_of same
    ∙ λ j. record (rule j) { range = range_is new.num_vals (record { start_inclusive = 1; end_inclusive = usize_max }) range j }

pub stays_local : (old new : Arg) → new ≡ record old { num_vals = new.num_vals } → old.global ≡ false → new.global ≡ false
stays_local old new same local = ap (λ (a : Arg). a.global) same ∙ local

-- ---- values of several words

no_values_case : (o v : Option (List Word)) → None ≡ v → v ≡ o → IsSome o → ⊥
no_values_case o v none same some = false≢true (ap is_some (none ∙ same) ∙ some)

pub no_values : (f : Found) (id : Word) → None ≡ option_map raw_values (matched_of f id) → IsSome (all_of id (rows_of f)) → ⊥
no_values f id none some = no_values_case (all_of id (rows_of f)) (option_map raw_values (matched_of f id)) none (raw_values-rows f id) some

pub values_are : (f : Found) (id : Word) (words all : List Word) → Some words ≡ option_map raw_values (matched_of f id) → all ≡ words → all_of id (rows_of f) ≡ Some all
values_are f id words all found same = sym (raw_values-rows f id) ∙ sym found ∙ ap (λ (ws : List Word). Some ws) (sym same)

-- ---- what the words are, by what was found of them

at_some : {V : Type 0} (P : Type 0) (Q : V → Type 0) (o : Option V) (v : V) → o ≡ Some v → Q v → MatchOption o P Q
at_some {V} P Q o v same h = let R : Option V → Type 0 = λ x. MatchOption x P Q in subst R (sym same) h

at_none : {V : Type 0} (P : Type 0) (Q : V → Type 0) (o : Option V) → o ≡ None → P → MatchOption o P Q
at_none {V} P Q o same h = let R : Option V → Type 0 = λ x. MatchOption x P Q in subst R (sym same) h

pub word_there : (first : Word) (words line : List Word) (app : App) (found : Option ArgMatches) → app ≡ with_one_word first → line ≡ command_line first words → Finds app line found → HasValue (first_of (codes "word")) found
word_there first words line app None apps lines h = tt
word_there first words line app (Some m) apps lines h = let has = has_word first words line app m apps lines h in is_there (word_in m) has.word has.found

pub word_is : (first : Word) (words line : List Word) (app : App) (found : Option ArgMatches) (word : Option Word) → app ≡ with_one_word first → line ≡ command_line first words → Finds app line found
    → IsValue (first_of (codes "word")) found word → MatchOption word ((w : Word) → words ≢ w ∷ []) (λ w. words ≡ w ∷ [])
word_is first words line app None word apps lines h value = at_none ((w : Word) → words ≢ w ∷ []) (λ w. words ≡ w ∷ []) word value (no_word first words line app apps lines h)
word_is first words line app (Some m) word apps lines h value =
    let has = has_word first words line app m apps lines h in at_some ((w : Word) → words ≢ w ∷ []) (λ w. words ≡ w ∷ []) word has.word (sym value ∙ has.found) has.words_are

pub all_there : (first : Word) (words line : List Word) (app : App) (found : Option ArgMatches) → app ≡ with_some_words first → line ≡ command_line first words → Finds app line found → HasValue (all_of (codes "words")) found
all_there first words line app None apps lines h = tt
all_there first words line app (Some m) apps lines h = let has = has_all first words line app m apps lines h in ap is_some has.found

pub all_are : (first : Word) (words line : List Word) (app : App) (found : Option ArgMatches) (all : Option (List Word)) → length words ≤ usize_max → app ≡ with_some_words first → line ≡ command_line first words → Finds app line found
    → IsValue (all_of (codes "words")) found all → MatchOption all (words ≡ []) (λ ws. (ws ≡ words) × (0 < length ws))
all_are first words line app None all few apps lines h value = at_none (words ≡ []) (λ ws. (ws ≡ words) × (0 < length ws)) all value (none_of_some first words line app few apps lines h)
all_are first words line app (Some m) all few apps lines h value =
    let has = has_all first words line app m apps lines h in at_some (words ≡ []) (λ ws. (ws ≡ words) × (0 < length ws)) all words (sym value ∙ has.found) (refl, has.some)

pub each_there : (first : Word) (words line : List Word) (app : App) (found : Option ArgMatches) → app ≡ with_four_words first → line ≡ command_line first words → Finds app line found → HasFourValues found
each_there first words line app None apps lines h = tt
each_there first words line app (Some m) apps lines h =
    let has = has_four first words line app m apps lines h in record {
      file = is_there (in_four (codes "file") m) has.file has.file_found;
      line = is_there (in_four (codes "line") m) has.line has.line_found;
      column = is_there (in_four (codes "column") m) has.column has.column_found;
      name = is_there (in_four (codes "name") m) has.name has.name_found;
    }

abbrev IsFour : List Word → Option FourWords → Type 0
IsFour words four = MatchOption four ((a b c d : Word) → words ≢ a ∷ b ∷ c ∷ d ∷ []) (λ w. words ≡ w.file ∷ w.line ∷ w.column ∷ w.name ∷ [])

four_case : (words : List Word) (m : ArgMatches) (four : Option FourWords) → HasFour words m → AreFound (rows_of (found_of m)) four → IsFour words four
four_case words m None has value = absurd value
four_case words m (Some four) has value = the_four words m four.file four.line four.column four.name has value.file value.line value.column value.name

pub four_are : (first : Word) (words line : List Word) (app : App) (found : Option ArgMatches) (four : Option FourWords) → app ≡ with_four_words first → line ≡ command_line first words → Finds app line found
    → AreValues found four → MatchOption four ((a b c d : Word) → words ≢ a ∷ b ∷ c ∷ d ∷ []) (λ w. words ≡ w.file ∷ w.line ∷ w.column ∷ w.name ∷ [])
four_are first words line app None four apps lines h value =
    at_none ((a b c d : Word) → words ≢ a ∷ b ∷ c ∷ d ∷ []) (λ (w : FourWords). words ≡ w.file ∷ w.line ∷ w.column ∷ w.name ∷ []) four value (no_four first words line app apps lines h)
four_are first words line app (Some m) four apps lines h value = four_case words m four (has_four first words line app m apps lines h) value
