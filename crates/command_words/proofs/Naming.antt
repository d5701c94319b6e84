-- Which command a first word asks for.
use Rattle.std.proofs.Common.{◌≡◌, ◌≢◌, ◌<◌, ◌≤◌, ◌⊎◌, ℕ, List, [], ◌∷◌, length, true, false, refl, ap, sym, ◌∙◌, subst, inl, inr, arith, codes, drop, get_or, String, Global}
use Rattle.std.specs.Str.{bytes_eq}
use Rattle.std.specs.String.{string_bytes}
use Rattle.std.proofs.lemmas.Slice.Eq.{bytes_eq-Decides}
use Rattle.std.proofs.lemmas.Bool.{false≢true}
use Rattle.ls_base.specs.Limits.{max_documents}
use Rattle.ls_base.specs.declared.places.Pos.{Pos}
use Rattle.std.specs.Prelude.{MatchOption, Option, Some, None}
use Rattle.command_words.specs.Commands.{AreRenameWords, AreSelfrunWords, AreWordsOf, Asks, AsksBy, PositionalOf, Picks, name_of}
use Rattle.command_words.specs.Different.{different}
use Rattle.command_words.specs.Numbers.{IsNumber}
use Rattle.command_words.specs.Words.{Word, are_taken, positional_words, texts}
use Rattle.command_words.specs.declared.command.Command.{Command}
use Rattle.command_words.specs.declared.command.Command.TheVariants.{Arrows, Check, Rename, Replay, Selfrun, Serve, ServeAhead, TooManyFiles, Unknown}

pub some_at : {T : Type 0} (P : Type 0) (Q : T → Type 0) (o : Option T) (v : T) → o ≡ Some v → MatchOption o P Q → Q v
some_at {T} P Q o v same h = let R : Option T → Type 0 = λ x. MatchOption x P Q in subst R same h

pub none_at : {T : Type 0} (P : Type 0) (Q : T → Type 0) (o : Option T) → o ≡ None → MatchOption o P Q → P
none_at {T} P Q o same h = let R : Option T → Type 0 = λ x. MatchOption x P Q in subst R same h

apart : (a b : Word) → bytes_eq a b ≡ false → a ≡ b → ⊥
apart a b tested same = false≢true (sym tested ∙ (bytes_eq-Decides a b).1 same)

-- such a command is `arrows`, without words
pub arrows_only : (words : List Word) (command : Command) → AsksBy (codes "arrows") words command → (command ≡ Arrows) × (words ≡ [])
arrows_only words Arrows h = (refl, h.1)
arrows_only words Serve h = absurd (apart (codes "arrows") (codes "serve") refl h.0)
arrows_only words ServeAhead h = absurd h.1
arrows_only words (Replay f) h = absurd (apart (codes "arrows") (codes "replay") refl h.0)
arrows_only words (Check fs) h = absurd (apart (codes "arrows") (codes "check") refl h.0)
arrows_only words TooManyFiles h = absurd (apart (codes "arrows") (codes "check") refl h.0)
arrows_only words (Rename f p n) h = absurd (apart (codes "arrows") (codes "rename") refl h.0)
arrows_only words (Selfrun n) h = absurd (apart (codes "arrows") (codes "selfrun") refl h.0)
arrows_only words Unknown h = absurd h.1

-- such a command is `serve`, without words
pub serve_only : (words : List Word) (command : Command) → AsksBy (codes "serve") words command → (command ≡ Serve) × (words ≡ [])
serve_only words Arrows h = absurd (apart (codes "serve") (codes "arrows") refl h.0)
serve_only words Serve h = (refl, h.1)
serve_only words ServeAhead h = absurd h.1
serve_only words (Replay f) h = absurd (apart (codes "serve") (codes "replay") refl h.0)
serve_only words (Check fs) h = absurd (apart (codes "serve") (codes "check") refl h.0)
serve_only words TooManyFiles h = absurd (apart (codes "serve") (codes "check") refl h.0)
serve_only words (Rename f p n) h = absurd (apart (codes "serve") (codes "rename") refl h.0)
serve_only words (Selfrun n) h = absurd (apart (codes "serve") (codes "selfrun") refl h.0)
serve_only words Unknown h = absurd h.1

-- such a command is `replay` with one word
pub replay_only : (words : List Word) (command : Command) → AsksBy (codes "replay") words command → (file : Word) × (command ≡ Replay file) × (words ≡ file ∷ [])
replay_only words Arrows h = absurd (apart (codes "replay") (codes "arrows") refl h.0)
replay_only words Serve h = absurd (apart (codes "replay") (codes "serve") refl h.0)
replay_only words ServeAhead h = absurd h.1
replay_only words (Replay f) h = (f, refl, h.1)
replay_only words (Check fs) h = absurd (apart (codes "replay") (codes "check") refl h.0)
replay_only words TooManyFiles h = absurd (apart (codes "replay") (codes "check") refl h.0)
replay_only words (Rename f p n) h = absurd (apart (codes "replay") (codes "rename") refl h.0)
replay_only words (Selfrun n) h = absurd (apart (codes "replay") (codes "selfrun") refl h.0)
replay_only words Unknown h = absurd h.1

-- such a command is `rename` with its words
pub rename_only : (words : List Word) (command : Command) → AsksBy (codes "rename") words command → (file : Word) × (position : Pos) × (name : Word) × (command ≡ Rename file position name) × AreRenameWords words file position name
rename_only words Arrows h = absurd (apart (codes "rename") (codes "arrows") refl h.0)
rename_only words Serve h = absurd (apart (codes "rename") (codes "serve") refl h.0)
rename_only words ServeAhead h = absurd h.1
rename_only words (Replay f) h = absurd (apart (codes "rename") (codes "replay") refl h.0)
rename_only words (Check fs) h = absurd (apart (codes "rename") (codes "check") refl h.0)
rename_only words TooManyFiles h = absurd (apart (codes "rename") (codes "check") refl h.0)
rename_only words (Rename f p n) h = (f, p, n, refl, h.1)
rename_only words (Selfrun n) h = absurd (apart (codes "rename") (codes "selfrun") refl h.0)
rename_only words Unknown h = absurd h.1

-- such a command is `selfrun` with a number
pub selfrun_only : (words : List Word) (command : Command) → AsksBy (codes "selfrun") words command → (libraries : ℕ) × (command ≡ Selfrun libraries) × AreSelfrunWords words libraries
selfrun_only words Arrows h = absurd (apart (codes "selfrun") (codes "arrows") refl h.0)
selfrun_only words Serve h = absurd (apart (codes "selfrun") (codes "serve") refl h.0)
selfrun_only words ServeAhead h = absurd h.1
selfrun_only words (Replay f) h = absurd (apart (codes "selfrun") (codes "replay") refl h.0)
selfrun_only words (Check fs) h = absurd (apart (codes "selfrun") (codes "check") refl h.0)
selfrun_only words TooManyFiles h = absurd (apart (codes "selfrun") (codes "check") refl h.0)
selfrun_only words (Rename f p n) h = absurd (apart (codes "selfrun") (codes "rename") refl h.0)
selfrun_only words (Selfrun n) h = (n, refl, h.1)
selfrun_only words Unknown h = absurd h.1

-- `check` of files that are few enough, or of too many
abbrev pub IsCheck : List Word → Command → Type 0
IsCheck words command = ((files : List Word) × (command ≡ Check files) × (0 < length words) × (files ≡ different words) × (length files ≤ max_documents))
    ⊎ ((command ≡ TooManyFiles) × (max_documents < length (different words)))

pub check_only : (words : List Word) (command : Command) → AsksBy (codes "check") words command → IsCheck words command
check_only words Arrows h = absurd (apart (codes "check") (codes "arrows") refl h.0)
check_only words Serve h = absurd (apart (codes "check") (codes "serve") refl h.0)
check_only words ServeAhead h = absurd h.1
check_only words (Replay f) h = absurd (apart (codes "check") (codes "replay") refl h.0)
check_only words (Check fs) h = inl (fs, refl, h.1.0, h.1.1, h.1.2)
check_only words TooManyFiles h = inr (refl, h.1)
check_only words (Rename f p n) h = absurd (apart (codes "check") (codes "rename") refl h.0)
check_only words (Selfrun n) h = absurd (apart (codes "check") (codes "selfrun") refl h.0)
check_only words Unknown h = absurd h.1

-- ---- what is picked

pub no_arrows : (words : List Word) → words ≢ [] → Picks (AsksBy (codes "arrows") words) Unknown
no_arrows words some command h = some (arrows_only words command h).1

pub no_serve : (words : List Word) → words ≢ [] → Picks (AsksBy (codes "serve") words) Unknown
no_serve words some command h = some (serve_only words command h).1

pub no_replay : (words : List Word) → ((word : Word) → words ≢ word ∷ []) → Picks (AsksBy (codes "replay") words) Unknown
no_replay words not_one command h = let found = replay_only words command h in not_one found.0 found.2

nothing_below : (words : List Word) → words ≡ [] → 0 < length words → ⊥
nothing_below [] none some = omega arith
nothing_below (word ∷ words) none some = cc

over_limit : (words : List Word) → words ≡ [] → max_documents < length (different words) → ⊥
over_limit [] none some = omega arith
over_limit (word ∷ words) none some = cc

pub no_check : (words : List Word) → words ≡ [] → Picks (AsksBy (codes "check") words) Unknown
no_check words none command h =
    elim (check_only words command h) [
      | inl found ↦ nothing_below words none found.2
      | inr found ↦ over_limit words none found.1
    ]

pub no_rename : (words : List Word) → ((a b c d : Word) → words ≢ a ∷ b ∷ c ∷ d ∷ []) → Picks (AsksBy (codes "rename") words) Unknown
no_rename words not_four command h =
    let found = rename_only words command h in not_four found.0 found.4.line found.4.column found.2 found.4.words_are

pub no_selfrun : (words : List Word) → ((word : Word) → words ≢ word ∷ []) → Picks (AsksBy (codes "selfrun") words) Unknown
no_selfrun words not_one command h = let found = selfrun_only words command h in not_one found.2.count found.2.words_are

-- words whose places aren't numbers
second_of_four : (a b c d a' b' c' d' : Word) → a ∷ b ∷ c ∷ d ∷ [] ≡ a' ∷ b' ∷ c' ∷ d' ∷ [] → b' ≡ b
second_of_four a b c d a' b' c' d' same = cc

third_of_four : (a b c d a' b' c' d' : Word) → a ∷ b ∷ c ∷ d ∷ [] ≡ a' ∷ b' ∷ c' ∷ d' ∷ [] → c' ≡ c
third_of_four a b c d a' b' c' d' same = cc

only_of_one : (a b : Word) → a ∷ [] ≡ b ∷ [] → b ≡ a
only_of_one a b same = cc

number_of_same : (a b : Word) (n : ℕ) → b ≡ a → IsNumber b n → IsNumber a n
number_of_same a b n same h = let P : Word → Type 0 = λ w. IsNumber w n in subst P same h

pub no_line : (file line column name : Word) → ((n : ℕ) → ¬ IsNumber line n) → Picks (AsksBy (codes "rename") (file ∷ line ∷ column ∷ name ∷ [])) Unknown
no_line file line column name none command h =
    let found = rename_only (file ∷ line ∷ column ∷ name ∷ []) command h in
    let w = found.4 in
    none found.1.line (number_of_same line w.line found.1.line (second_of_four file line column name found.0 w.line w.column found.2 w.words_are) w.line_is)

pub no_column : (file line column name : Word) → ((n : ℕ) → ¬ IsNumber column n) → Picks (AsksBy (codes "rename") (file ∷ line ∷ column ∷ name ∷ [])) Unknown
no_column file line column name none command h =
    let found = rename_only (file ∷ line ∷ column ∷ name ∷ []) command h in
    let w = found.4 in
    none found.1.character (number_of_same column w.column found.1.character (third_of_four file line column name found.0 w.line w.column found.2 w.words_are) w.column_is)

pub no_count : (count : Word) → ((n : ℕ) → ¬ IsNumber count n) → Picks (AsksBy (codes "selfrun") (count ∷ [])) Unknown
no_count count none command h =
    let found = selfrun_only (count ∷ []) command h in
    let w = found.2 in none found.0 (number_of_same count w.count found.0 (only_of_one count w.count w.words_are) w.count_is)

one_number : (word : Word) (m n : ℕ) → IsNumber word m → IsNumber word n → m ≡ n
one_number word m n one other = one.value ∙ sym other.value

pub out_of_range : (count : Word) (n : ℕ) → IsNumber count n → (1 ≤ n → n ≤ 60 → ⊥) → Picks (AsksBy (codes "selfrun") (count ∷ [])) Unknown
out_of_range count n number outside command h =
    let found = selfrun_only (count ∷ []) command h in
    let w = found.2 in
    let same = one_number count found.0 n (number_of_same count w.count found.0 (only_of_one count w.count w.words_are) w.count_is) number in
    let some = w.some in
    let most = w.most in outside (omega arith) (omega arith)

pub no_name : (first : Word) (words : List Word) → first ≢ codes "arrows" → first ≢ codes "serve" → first ≢ codes "replay" → first ≢ codes "check" → first ≢ codes "rename" → first ≢ codes "selfrun" → Picks (AsksBy first words) Unknown
no_name first words a s r c n f Arrows h = a h.0
no_name first words a s r c n f Serve h = s h.0
no_name first words a s r c n f ServeAhead h = h.1
no_name first words a s r c n f (Replay file) h = r h.0
no_name first words a s r c n f (Check files) h = c h.0
no_name first words a s r c n f TooManyFiles h = c h.0
no_name first words a s r c n f (Rename file position name) h = n h.0
no_name first words a s r c n f (Selfrun libraries) h = f h.0
no_name first words a s r c n f Unknown h = h.1

pub unlike : (first name : Word) → bytes_eq first name ≡ false → first ≢ name
unlike first name test same = apart first name test same

-- a first word that is a command's
pub named_by : (first name : Word) (words : List Word) (command : Command) → bytes_eq first name ≡ true → Picks (AsksBy name words) command → Picks (AsksBy first words) command
named_by first name words command same h = let P : Word → Type 0 = λ w. Picks (AsksBy w words) command in subst P (sym ((bytes_eq-Decides first name).0 same)) h

-- the same words
pub asked_as : (name : Word) (all words : List Word) (command : Command) → all ≡ words → Picks (AsksBy name all) command → Picks (AsksBy name words) command
asked_as name all words command same h = let P : List Word → Type 0 = λ ws. Picks (AsksBy name ws) command in subst P same h

-- four words, of which two write the numbers of a position, or don't
pub rename_at : (file line column name l c : Word) (position : Pos) → l ≡ line → c ≡ column → IsNumber l position.line × IsNumber c position.character
    → AsksBy (codes "rename") (file ∷ line ∷ column ∷ name ∷ []) (Rename file position name)
rename_at file line column name l c position lines columns numbers = (
  refl,
  record {
    line = line;
    column = column;
    words_are = refl;
    line_is = number_of_same line l position.line lines numbers.0;
    column_is = number_of_same column c position.character columns numbers.1;
  },
)

pub no_position : (file line column name l c : Word) → l ≡ line → c ≡ column → ((position : Pos) → ¬ (IsNumber l position.line × IsNumber c position.character))
    → Picks (AsksBy (codes "rename") (file ∷ line ∷ column ∷ name ∷ [])) Unknown
no_position file line column name l c lines columns none command h =
    let found = rename_only (file ∷ line ∷ column ∷ name ∷ []) command h in
    let w = found.4 in
    none found.1 (
      number_of_same l w.line found.1.line (second_of_four file line column name found.0 w.line w.column found.2 w.words_are ∙ sym lines) w.line_is,
      number_of_same c w.column found.1.character (third_of_four file line column name found.0 w.line w.column found.2 w.words_are ∙ sym columns) w.column_is,
    )

-- ---- what words ask for, by the first one and the positional words behind it

heads : (a b : Word) (words others : List Word) → a ∷ words ≡ b ∷ others → a ≡ b
heads a b words others same = cc

tails : (a b : Word) (words others : List Word) → a ∷ words ≡ b ∷ others → words ≡ others
tails a b words others same = cc

asked : (first : Word) (rest : List Word) (command : Command) → are_taken rest ≡ true → AsksBy first (positional_words rest) command → Asks (first ∷ rest) command
asked first rest command taken h = record { rest = rest; words_are = ap (λ (word : Word). word ∷ rest) h.0; taken = taken; asks = h.1 }

pub asked_by : (first : Word) (rest : List Word) (command : Command) → Asks (first ∷ rest) command → AsksBy first (positional_words rest) command
asked_by first rest command h = (
  heads first (name_of command) rest h.rest h.words_are,
  let P : List Word → Type 0 = λ words. AreWordsOf (positional_words words) command in subst P (sym (tails first (name_of command) rest h.rest h.words_are)) h.asks,
)

pub picked : (first : Word) (rest : List Word) (command : Command) → are_taken rest ≡ true → Picks (AsksBy first (positional_words rest)) command → PositionalOf (first ∷ rest) command
picked first rest Arrows taken h = asked first rest Arrows taken h
picked first rest Serve taken h = asked first rest Serve taken h
picked first rest ServeAhead taken h = asked first rest ServeAhead taken h
picked first rest (Replay file) taken h = asked first rest (Replay file) taken h
picked first rest (Check files) taken h = asked first rest (Check files) taken h
picked first rest TooManyFiles taken h = asked first rest TooManyFiles taken h
picked first rest (Rename file position name) taken h = asked first rest (Rename file position name) taken h
picked first rest (Selfrun libraries) taken h = asked first rest (Selfrun libraries) taken h
picked first rest Unknown taken h = λ command asks. h command (asked_by first rest command asks)

pub not_taken : (first : Word) (rest : List Word) → are_taken rest ≡ false → PositionalOf (first ∷ rest) Unknown
not_taken first rest refused command asks =
    false≢true (sym refused ∙ ap are_taken (tails first (name_of command) rest asks.rest asks.words_are) ∙ asks.taken)

nothing : (word : Word) (words : List Word) → [] ≡ word ∷ words → ⊥
nothing word words same = cc

pub no_words : PositionalOf [] Unknown
no_words command asks = nothing (name_of command) asks.rest asks.words_are

-- the first word and those behind it are the words
pub all_words : (words rest : List (String Global)) (first : String Global) (text : Word) → 1 ≤ length words → first ≡ get_or words 0 first → text ≡ string_bytes first → rest ≡ drop 1 words → text ∷ texts rest ≡ texts words
all_words [] rest first text some is same rests = absurd (omega arith)
all_words (word ∷ words) rest first text some is same rests = λ j. (same ∙ ap string_bytes is) j ∷ texts (rests j)
