-- What clap finds in the words of commands.
use Rattle.std.proofs.Common.{◌≡◌, ◌≢◌, ◌<◌, ◌≤◌, ℕ, List, [], ◌∷◌, ◌++◌, length, append_assoc, append-nil, refl, ap, sym, ◌∙◌, arith, codes, fold, Bool, true, false, Option, Some, None, is_some}
use Rattle.std.proofs.lemmas.Bool.Decides.{nat_tests}
use Rattle.clap.specs.Faults.{check_fault, defaults_fault, entered_fault, fault_of, is_simple_and_free, settle_fault, walk_fault}
use Rattle.clap.specs.Kinds.{Kinds, or_else, range_kinds, values_kinds}
use Rattle.clap.specs.Lexer.{usize_max}
use Rattle.clap.specs.Simple.{App, Shape, built, entered, matches_of}
use Rattle.clap.specs.Walk.{Row, Walk, all_of, finished, first_of, settled, walked}
use Rattle.clap.specs.Walk.Waiting.{positional}
use Rattle.clap.specs.declared.builder.value_parser.ValueParser.TheVariants as vp
use Rattle.clap.proofs.OnLiterals.{clap_on_literals}
use Rattle.command_words.specs.ClapWords.{command_line, with_four_words, with_one_word, with_some_words, without_words}
use Rattle.command_words.specs.Words.{Word}

abbrev some_kinds : Kinds → Bool
some_kinds [] = false
some_kinds (k ∷ ks) = true

not_none : (ks : Kinds) → some_kinds ks ≡ true → ks ≡ [] → ⊥
not_none [] some none = cc
not_none (k ∷ ks) some none = cc

-- ---- without words

pub none_simple : (first : Word) → is_simple_and_free (without_words first) ≡ true
unfolding clap_on_literals
none_simple first = refl

pub none_taken : (first : Word) → fault_of (without_words first) (command_line first []) ≡ []
unfolding clap_on_literals
none_taken first = refl

refused_kinds : (first word : Word) (words : List Word) → some_kinds (fault_of (without_words first) (command_line first (word ∷ words))) ≡ true
unfolding clap_on_literals
refused_kinds first word words = refl

pub none_refused : (first : Word) (words : List Word) → fault_of (without_words first) (command_line first words) ≡ [] → words ≡ []
none_refused first [] none = refl
none_refused first (word ∷ words) none = absurd (not_none _ (refused_kinds first word words) none)

-- ---- one word

pub one_simple : (first : Word) → is_simple_and_free (with_one_word first) ≡ true
unfolding clap_on_literals
one_simple first = refl

pub one_taken : (first word : Word) → fault_of (with_one_word first) (command_line first (word ∷ [])) ≡ []
unfolding clap_on_literals
one_taken first word = refl

one_missing : (first : Word) → some_kinds (fault_of (with_one_word first) (command_line first [])) ≡ true
unfolding clap_on_literals
one_missing first = refl

one_over : (first a b : Word) (words : List Word) → some_kinds (fault_of (with_one_word first) (command_line first (a ∷ b ∷ words))) ≡ true
unfolding clap_on_literals
one_over first a b words = refl

one_value : (first word : Word) → first_of (codes "word") (matches_of (with_one_word first) (command_line first (word ∷ []))) ≡ Some word
unfolding clap_on_literals
one_value first word = refl

-- the word that is found is the only one
pub one_found : (first : Word) (words : List Word) → fault_of (with_one_word first) (command_line first words) ≡ []
    → (word : Word) × (words ≡ word ∷ []) × (first_of (codes "word") (matches_of (with_one_word first) (command_line first words)) ≡ Some word)
one_found first [] none = absurd (not_none _ (one_missing first) none)
one_found first (a ∷ []) none = (a, refl, one_value first a)
one_found first (a ∷ b ∷ words) none = absurd (not_none _ (one_over first a b words) none)

-- ---- four words

pub four_simple : (first : Word) → is_simple_and_free (with_four_words first) ≡ true
unfolding clap_on_literals
four_simple first = refl

pub four_taken : (first a b c d : Word) → fault_of (with_four_words first) (command_line first (a ∷ b ∷ c ∷ d ∷ [])) ≡ []
unfolding clap_on_literals
four_taken first a b c d = refl

four_none : (first : Word) → some_kinds (fault_of (with_four_words first) (command_line first [])) ≡ true
unfolding clap_on_literals
four_none first = refl

four_one : (first a : Word) → some_kinds (fault_of (with_four_words first) (command_line first (a ∷ []))) ≡ true
unfolding clap_on_literals
four_one first a = refl

four_two : (first a b : Word) → some_kinds (fault_of (with_four_words first) (command_line first (a ∷ b ∷ []))) ≡ true
unfolding clap_on_literals
four_two first a b = refl

four_three : (first a b c : Word) → some_kinds (fault_of (with_four_words first) (command_line first (a ∷ b ∷ c ∷ []))) ≡ true
unfolding clap_on_literals
four_three first a b c = refl

four_over : (first a b c d e : Word) (words : List Word) → some_kinds (fault_of (with_four_words first) (command_line first (a ∷ b ∷ c ∷ d ∷ e ∷ words))) ≡ true
unfolding clap_on_literals
four_over first a b c d e words = refl

abbrev pub found_in : (id first : Word) → List Word → Option Word
found_in id first words = first_of id (matches_of (with_four_words first) (command_line first words))

file_is : (first a b c d : Word) → found_in (codes "file") first (a ∷ b ∷ c ∷ d ∷ []) ≡ Some a
unfolding clap_on_literals
file_is first a b c d = refl

line_is : (first a b c d : Word) → found_in (codes "line") first (a ∷ b ∷ c ∷ d ∷ []) ≡ Some b
unfolding clap_on_literals
line_is first a b c d = refl

column_is : (first a b c d : Word) → found_in (codes "column") first (a ∷ b ∷ c ∷ d ∷ []) ≡ Some c
unfolding clap_on_literals
column_is first a b c d = refl

name_is : (first a b c d : Word) → found_in (codes "name") first (a ∷ b ∷ c ∷ d ∷ []) ≡ Some d
unfolding clap_on_literals
name_is first a b c d = refl

-- the words that are found are the four, in their order
pub record AreFour (first : Word) (words : List Word) : Type 0 where
  pub file : Word
  pub line : Word
  pub column : Word
  pub name : Word
  pub words_are : words ≡ file ∷ line ∷ column ∷ name ∷ []
  pub file_found : found_in (codes "file") first words ≡ Some file
  pub line_found : found_in (codes "line") first words ≡ Some line
  pub column_found : found_in (codes "column") first words ≡ Some column
  pub name_found : found_in (codes "name") first words ≡ Some name

pub four_found : (first : Word) (words : List Word) → fault_of (with_four_words first) (command_line first words) ≡ [] → AreFour first words
four_found first [] none = absurd (not_none _ (four_none first) none)
four_found first (a ∷ []) none = absurd (not_none _ (four_one first a) none)
four_found first (a ∷ b ∷ []) none = absurd (not_none _ (four_two first a b) none)
four_found first (a ∷ b ∷ c ∷ []) none = absurd (not_none _ (four_three first a b c) none)
four_found first (a ∷ b ∷ c ∷ d ∷ []) none = record {
  file = a;
  line = b;
  column = c;
  name = d;
  words_are = refl;
  file_found = file_is first a b c d;
  line_found = line_is first a b c d;
  column_found = column_is first a b c d;
  name_found = name_is first a b c d;
}
four_found first (a ∷ b ∷ c ∷ d ∷ e ∷ words) none = absurd (not_none _ (four_over first a b c d e words) none)

-- ---- some words

pub some_simple : (first : Word) → is_simple_and_free (with_some_words first) ≡ true
unfolding clap_on_literals
some_simple first = refl

some_missing : (first : Word) → some_kinds (fault_of (with_some_words first) (command_line first [])) ≡ true
unfolding clap_on_literals
some_missing first = refl

-- the command as clap builds it
abbrev shape : Word → Shape
shape first = (built (with_some_words first)).top

-- between two words, where these were read
abbrev after : List Word → Walk
after words = record {
  held = record { rows = []; pending = Some (codes "words", words); skip = 0 };
  waiting = positional;
  position = 1;
  is_trailing = true;
  stopped = None;
}

one_more : (first : Word) (words : List Word) (word : Word) → walked (shape first).rules [] (after words) word ≡ after (words ++ word ∷ [])
unfolding clap_on_literals
one_more first words word = refl

all_read : (first : Word) (words more : List Word) → fold (walked (shape first).rules []) (after words) more ≡ after (words ++ more)
all_read first words [] = ap after (sym (append-nil words))
all_read first words (word ∷ more) =
    ap (λ (w : Walk). fold (walked (shape first).rules []) w more) (one_more first words word) ∙ all_read first (words ++ word ∷ []) more ∙ ap after (append_assoc words (word ∷ []) more)

next_fault : (first : Word) (words more : List Word) (word : Word) → walk_fault (shape first) [] (after words) (word ∷ more) ≡ walk_fault (shape first) [] (walked (shape first).rules [] (after words) word) more
unfolding clap_on_literals
next_fault first words more word = refl

no_fault : (first : Word) (words more : List Word) → walk_fault (shape first) [] (after words) more ≡ []
unfolding walk_fault
no_fault first words [] = refl
no_fault first words (word ∷ more) =
    next_fault first words more word ∙ ap (λ (w : Walk). walk_fault (shape first) [] w more) (one_more first words word) ∙ no_fault first (words ++ word ∷ []) more

all_pass : (words : List Word) → values_kinds false vp.String words ≡ []
all_pass [] = refl
all_pass (word ∷ words) = all_pass words

fits : (n : ℕ) → 0 < n → n ≤ usize_max → range_kinds 1 usize_max n ≡ []
fits n some few = grind (arith, nat_tests)

-- ---- the whole run

abbrev built_app : Word → App
built_app first = built (with_some_words first)

-- the faults of a run, by those of its walk and where this ends
abbrev run_fault : (first : Word) → Walk → Kinds → Kinds
run_fault first end walked_kinds =
    let s = shape first in
    or_else walked_kinds
    (or_else (entered_fault (built_app first) end.stopped)
    (or_else (settle_fault s.rules s.args_override_self end.held)
    (or_else (defaults_fault (settled s.rules end.held).rows s.rules)
    (check_fault s (finished s.rules end.held) (is_some (entered (built_app first) end.stopped))))))

run_is : (first word : Word) (words : List Word) → fault_of (with_some_words first) (command_line first (word ∷ words))
    ≡ run_fault first (fold (walked (shape first).rules []) (after (word ∷ [])) words) (walk_fault (shape first) [] (after (word ∷ [])) words)
unfolding clap_on_literals
run_is first word words = refl

end_is : (first word : Word) (words : List Word) → run_fault first (after (word ∷ words)) [] ≡ or_else (or_else (range_kinds 1 usize_max (length (word ∷ words))) (values_kinds false vp.String (word ∷ words))) []
unfolding clap_on_literals
end_is first word words = refl

pub some_taken : (first word : Word) (words : List Word) → length (word ∷ words) ≤ usize_max → fault_of (with_some_words first) (command_line first (word ∷ words)) ≡ []
some_taken first word words few =
    run_is first word words
    ∙ (λ j. run_fault first (all_read first (word ∷ []) words j) (no_fault first (word ∷ []) words j))
    ∙ end_is first word words
    ∙ λ j. or_else (or_else (fits (length (word ∷ words)) (omega arith) few j) (all_pass (word ∷ words) j)) []

rows_are : (first word : Word) (words : List Word) → matches_of (with_some_words first) (command_line first (word ∷ words))
    ≡ finished (shape first).rules (fold (walked (shape first).rules []) (after (word ∷ [])) words).held
unfolding clap_on_literals
rows_are first word words = refl

all_held : (first word : Word) (words : List Word) → all_of (codes "words") (finished (shape first).rules (after (word ∷ words)).held) ≡ Some (word ∷ words)
unfolding clap_on_literals
all_held first word words = refl

some_values : (first word : Word) (words : List Word) → all_of (codes "words") (matches_of (with_some_words first) (command_line first (word ∷ words))) ≡ Some (word ∷ words)
some_values first word words =
    ap (λ (rows : List Row). all_of (codes "words") rows) (rows_are first word words)
    ∙ ap (λ (w : Walk). all_of (codes "words") (finished (shape first).rules w.held)) (all_read first (word ∷ []) words)
    ∙ all_held first word words

-- the words that are found are all of them
pub some_found : (first : Word) (words : List Word) → fault_of (with_some_words first) (command_line first words) ≡ []
    → (0 < length words) × (all_of (codes "words") (matches_of (with_some_words first) (command_line first words)) ≡ Some words)
some_found first [] none = absurd (not_none _ (some_missing first) none)
some_found first (word ∷ words) none = (omega arith, some_values first word words)

pub some_refused : (first : Word) (words : List Word) → length words ≤ usize_max → fault_of (with_some_words first) (command_line first words) ≢ [] → words ≡ []
some_refused first [] few some = refl
some_refused first (word ∷ words) few some = absurd (some (some_taken first word words few))
