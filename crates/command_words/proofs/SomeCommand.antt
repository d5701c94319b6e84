-- Words ask for some command.
use Rattle.std.proofs.Common.{◌≡◌, ◌<◌, ◌≤◌, ◌⊎◌, ℕ, List, [], ◌∷◌, length, Bool, true, false, refl, sym, subst, inl, inr, arith, codes, ltb}
use Rattle.std.specs.Str.{bytes_eq}
use Rattle.std.specs.Str.Parse.{AllDigits, digits_value}
use Rattle.std.specs.Char.{digit_value}
use Rattle.std.proofs.lemmas.Bool.Decides.{nat_tests}
use Rattle.std.proofs.lemmas.Slice.Eq.{bytes_eq-Decides}
use Rattle.ls_base.specs.Limits.{max_documents}
use Rattle.command_words.specs.Commands.{AsksBy, CommandOf, IsServeAhead, Picks, PositionalOf}
use Rattle.command_words.specs.Different.{different}
use Rattle.command_words.specs.Numbers.{IsNumber}
use Rattle.command_words.specs.Words.{Word, are_taken, positional_words}
use Rattle.command_words.proofs.AheadWords.{ahead_or_not, is_ahead, not_ahead}
use Rattle.command_words.proofs.Naming.{no_arrows, no_check, no_column, no_count, no_line, no_name, no_rename, no_replay, no_selfrun, no_serve, no_words, not_taken, out_of_range, picked, unlike}
use Rattle.command_words.specs.declared.command.Command.{Command}
use Rattle.command_words.specs.declared.command.Command.TheVariants.{Arrows, Check, Rename, Replay, Selfrun, Serve, ServeAhead, TooManyFiles, Unknown}

-- ---- numbers

below : (m n : ℕ) → ltb m n ≡ true → m < n
below m n test = grind (arith, nat_tests)

not_below : (m n : ℕ) → ltb m n ≡ false → n ≤ m
not_below m n test = grind (arith, nat_tests)

digit_case : (c : ℕ) (cs : Word) (b : Bool) → ltb (digit_value c) 10 ≡ b → AllDigits 10 cs ⊎ ¬ AllDigits 10 cs → AllDigits 10 (c ∷ cs) ⊎ ¬ AllDigits 10 (c ∷ cs)
digit_case c cs true test (inl rest) = inl (below (digit_value c) 10 test, rest)
digit_case c cs true test (inr rest) = inr (λ h. rest h.1)
digit_case c cs false test rest = inr (λ h. let over = not_below (digit_value c) 10 test in let under = h.0 in omega arith)

digits_or_not : (word : Word) → AllDigits 10 word ⊎ ¬ AllDigits 10 word
digits_or_not [] = inl tt
digits_or_not (c ∷ cs) = digit_case c cs (ltb (digit_value c) 10) refl (digits_or_not cs)

abbrev NumberOrNot : Word → Type 0
NumberOrNot word = ((n : ℕ) × IsNumber word n) ⊎ ((n : ℕ) → ¬ IsNumber word n)

number_case : (word : Word) (some long : Bool) → ltb 0 (length word) ≡ some → ltb 9 (length word) ≡ long → AllDigits 10 word ⊎ ¬ AllDigits 10 word → NumberOrNot word
number_case word false long some_is long_is digits = inr (λ n h. let none = not_below 0 (length word) some_is in let some = h.digits.0 in omega arith)
number_case word true true some_is long_is digits = inr (λ n h. let over = below 9 (length word) long_is in let short = h.short in omega arith)
number_case word true false some_is long_is (inl digits) =
    inl (digits_value 10 word, record { digits = (below 0 (length word) some_is, digits); short = not_below 9 (length word) long_is; value = refl })
number_case word true false some_is long_is (inr none) = inr (λ n h. none h.digits.1)

number_or_not : (word : Word) → NumberOrNot word
number_or_not word = number_case word (ltb 0 (length word)) (ltb 9 (length word)) refl refl (digits_or_not word)

-- ---- the words of each command

abbrev HasCommand : (first : Word) → List Word → Type 0
HasCommand first words = (command : Command) × Picks (AsksBy first words) command

no_head : (a : Word) (words : List Word) → a ∷ words ≡ [] → ⊥
no_head a words same = cc

no_tail : (a b c : Word) (words : List Word) → a ∷ b ∷ words ≡ c ∷ [] → ⊥
no_tail a b c words same = cc

nil_one : (a : Word) → [] ≡ a ∷ [] → ⊥
nil_one a same = cc

arrows_some : (words : List Word) → HasCommand (codes "arrows") words
arrows_some [] = (Arrows, (refl, refl))
arrows_some (w ∷ ws) = (Unknown, no_arrows (w ∷ ws) (no_head w ws))

serve_some : (words : List Word) → HasCommand (codes "serve") words
serve_some [] = (Serve, (refl, refl))
serve_some (w ∷ ws) = (Unknown, no_serve (w ∷ ws) (no_head w ws))

replay_some : (words : List Word) → HasCommand (codes "replay") words
replay_some [] = (Unknown, no_replay [] nil_one)
replay_some (w ∷ []) = (Replay w, (refl, refl))
replay_some (w ∷ v ∷ ws) = (Unknown, no_replay (w ∷ v ∷ ws) (λ a. no_tail w v a ws))

check_case : (word : Word) (words : List Word) (many : Bool) → ltb max_documents (length (different (word ∷ words))) ≡ many → HasCommand (codes "check") (word ∷ words)
check_case word words true many = (TooManyFiles, (refl, below max_documents (length (different (word ∷ words))) many))
check_case word words false many = (Check (different (word ∷ words)), (refl, (omega arith, refl, not_below max_documents (length (different (word ∷ words))) many)))

check_some : (words : List Word) → HasCommand (codes "check") words
check_some [] = (Unknown, no_check [] refl)
check_some (word ∷ words) = check_case word words (ltb max_documents (length (different (word ∷ words)))) refl

four_case : (file line column name : Word) → NumberOrNot line → NumberOrNot column → HasCommand (codes "rename") (file ∷ line ∷ column ∷ name ∷ [])
four_case file line column name (inl l) (inl c) = (
  Rename file (record { line = l.0; character = c.0 }) name,
  (refl, record { line = line; column = column; words_are = refl; line_is = l.1; column_is = c.1 }),
)
four_case file line column name (inl l) (inr none) = (Unknown, no_column file line column name none)
four_case file line column name (inr none) c = (Unknown, no_line file line column name none)

none_four : (a b c d : Word) → [] ≡ a ∷ b ∷ c ∷ d ∷ [] → ⊥
none_four a b c d same = cc

one_four : (w a b c d : Word) → w ∷ [] ≡ a ∷ b ∷ c ∷ d ∷ [] → ⊥
one_four w a b c d same = cc

two_four : (v w a b c d : Word) → v ∷ w ∷ [] ≡ a ∷ b ∷ c ∷ d ∷ [] → ⊥
two_four v w a b c d same = cc

three_four : (u v w a b c d : Word) → u ∷ v ∷ w ∷ [] ≡ a ∷ b ∷ c ∷ d ∷ [] → ⊥
three_four u v w a b c d same = cc

five_four : (s t u v w a b c d : Word) (ws : List Word) → s ∷ t ∷ u ∷ v ∷ w ∷ ws ≡ a ∷ b ∷ c ∷ d ∷ [] → ⊥
five_four s t u v w a b c d ws same = cc

rename_some : (words : List Word) → HasCommand (codes "rename") words
rename_some [] = (Unknown, no_rename [] none_four)
rename_some (w ∷ []) = (Unknown, no_rename (w ∷ []) (one_four w))
rename_some (v ∷ w ∷ []) = (Unknown, no_rename (v ∷ w ∷ []) (two_four v w))
rename_some (u ∷ v ∷ w ∷ []) = (Unknown, no_rename (u ∷ v ∷ w ∷ []) (three_four u v w))
rename_some (file ∷ line ∷ column ∷ name ∷ []) = four_case file line column name (number_or_not line) (number_or_not column)
rename_some (s ∷ t ∷ u ∷ v ∷ w ∷ ws) = (Unknown, no_rename (s ∷ t ∷ u ∷ v ∷ w ∷ ws) (λ a b c d. five_four s t u v w a b c d ws))

range_case : (count : Word) (n : ℕ) (some many : Bool) → ltb 0 n ≡ some → ltb 60 n ≡ many → IsNumber count n → HasCommand (codes "selfrun") (count ∷ [])
range_case count n true false some many number =
    (Selfrun n, (refl, record { count = count; words_are = refl; count_is = number; some = (let one = below 0 n some in omega arith); most = not_below 60 n many }))
range_case count n true true some many number = (Unknown, out_of_range count n number (λ one most. let over = below 60 n many in omega arith))
range_case count n false many some many_is number = (Unknown, out_of_range count n number (λ one most. let none = not_below 0 n some in omega arith))

count_case : (count : Word) → NumberOrNot count → HasCommand (codes "selfrun") (count ∷ [])
count_case count (inl n) = range_case count n.0 (ltb 0 n.0) (ltb 60 n.0) refl refl n.1
count_case count (inr none) = (Unknown, no_count count none)

selfrun_some : (words : List Word) → HasCommand (codes "selfrun") words
selfrun_some [] = (Unknown, no_selfrun [] nil_one)
selfrun_some (w ∷ []) = count_case w (number_or_not w)
selfrun_some (w ∷ v ∷ ws) = (Unknown, no_selfrun (w ∷ v ∷ ws) (λ a. no_tail w v a ws))

-- ---- any first word

named : (first name : Word) (words : List Word) → bytes_eq first name ≡ true → HasCommand name words → HasCommand first words
named first name words same found = let P : Word → Type 0 = λ w. HasCommand w words in subst P (sym ((bytes_eq-Decides first name).0 same)) found

name_case : (first : Word) (words : List Word) (a s r c n f : Bool) → bytes_eq first (codes "arrows") ≡ a → bytes_eq first (codes "serve") ≡ s → bytes_eq first (codes "replay") ≡ r
    → bytes_eq first (codes "check") ≡ c → bytes_eq first (codes "rename") ≡ n → bytes_eq first (codes "selfrun") ≡ f → HasCommand first words
name_case first words true s r c n f a_is s_is r_is c_is n_is f_is = named first (codes "arrows") words a_is (arrows_some words)
name_case first words false true r c n f a_is s_is r_is c_is n_is f_is = named first (codes "serve") words s_is (serve_some words)
name_case first words false false true c n f a_is s_is r_is c_is n_is f_is = named first (codes "replay") words r_is (replay_some words)
name_case first words false false false true n f a_is s_is r_is c_is n_is f_is = named first (codes "check") words c_is (check_some words)
name_case first words false false false false true f a_is s_is r_is c_is n_is f_is = named first (codes "rename") words n_is (rename_some words)
name_case first words false false false false false true a_is s_is r_is c_is n_is f_is = named first (codes "selfrun") words f_is (selfrun_some words)
name_case first words false false false false false false a_is s_is r_is c_is n_is f_is = (
  Unknown,
  no_name first words (unlike first (codes "arrows") a_is) (unlike first (codes "serve") s_is) (unlike first (codes "replay") r_is) (unlike first (codes "check") c_is)
      (unlike first (codes "rename") n_is) (unlike first (codes "selfrun") f_is),
)

by_name : (first : Word) (words : List Word) → HasCommand first words
by_name first words =
    name_case first words (bytes_eq first (codes "arrows")) (bytes_eq first (codes "serve")) (bytes_eq first (codes "replay")) (bytes_eq first (codes "check"))
    (bytes_eq first (codes "rename")) (bytes_eq first (codes "selfrun")) refl refl refl refl refl refl

taken_case : (first : Word) (rest : List Word) (taken : Bool) → are_taken rest ≡ taken → (command : Command) × PositionalOf (first ∷ rest) command
taken_case first rest true taken = let found = by_name first (positional_words rest) in (found.0, picked first rest found.0 taken found.1)
taken_case first rest false refused = (Unknown, not_taken first rest refused)

some_positional : (words : List Word) → (command : Command) × PositionalOf words command
some_positional [] = (Unknown, no_words)
some_positional (first ∷ rest) = taken_case first rest (are_taken rest) refl

ahead_case : (words : List Word) → IsServeAhead words ⊎ ¬ IsServeAhead words → (command : Command) × CommandOf words command
ahead_case words (inl ahead) = (ServeAhead, is_ahead words ahead)
ahead_case words (inr other) = let found = some_positional words in (found.0, not_ahead words found.0 other found.1)

pub some_command : (words : List Word) → (command : Command) × CommandOf words command
some_command words = ahead_case words (ahead_or_not words)
