-- The texts of the standard libraries' names, as they are written.
use Rattle.std.proofs.Common.{◌≡◌, ℕ, List, [], ◌∷◌, codes, map, refl, sym, ◌∙◌}
use Rattle.std.specs.Str.{chars}
use lib.Utf8.{encode}
use Rattle.scheme_tokens.specs.Lexical.{is_initial, is_subsequent}
use Rattle.scheme_tokens.specs.LibraryNames.{library_text, IsProper}
use Rattle.scheme_tokens.specs.Mirror.Words.{is_numeral, is_identifier}
use Rattle.scheme_tokens.specs.Mirror.Spelled.{spelled}
use Rattle.scheme_tokens.proofs.EveryName.{text_of, text_tells, text_of-proper}
use Rattle.scheme_tokens.proofs.StandardProper.{scheme, AreAllProper, standard_proper}
use Rattle.scheme_model.specs.Requirements.{LibraryName}
use Rattle.scheme_model.specs.StandardLibraries.{StandardLibrary, standard_libraries}
use Rattle.base_library.specs.Texts.{name_text, SpellsAll, SpellsStandard}

-- ---- one by one

base_text : library_text (scheme (codes "base")) ≡ name_text (scheme (codes "base"))
unfolding chars encode spelled is_numeral is_identifier is_initial is_subsequent
base_text = refl

case_lambda_text : library_text (scheme (codes "case-lambda")) ≡ name_text (scheme (codes "case-lambda"))
unfolding chars encode spelled is_numeral is_identifier is_initial is_subsequent
case_lambda_text = refl

char_text : library_text (scheme (codes "char")) ≡ name_text (scheme (codes "char"))
unfolding chars encode spelled is_numeral is_identifier is_initial is_subsequent
char_text = refl

complex_text : library_text (scheme (codes "complex")) ≡ name_text (scheme (codes "complex"))
unfolding chars encode spelled is_numeral is_identifier is_initial is_subsequent
complex_text = refl

cxr_text : library_text (scheme (codes "cxr")) ≡ name_text (scheme (codes "cxr"))
unfolding chars encode spelled is_numeral is_identifier is_initial is_subsequent
cxr_text = refl

eval_text : library_text (scheme (codes "eval")) ≡ name_text (scheme (codes "eval"))
unfolding chars encode spelled is_numeral is_identifier is_initial is_subsequent
eval_text = refl

file_text : library_text (scheme (codes "file")) ≡ name_text (scheme (codes "file"))
unfolding chars encode spelled is_numeral is_identifier is_initial is_subsequent
file_text = refl

inexact_text : library_text (scheme (codes "inexact")) ≡ name_text (scheme (codes "inexact"))
unfolding chars encode spelled is_numeral is_identifier is_initial is_subsequent
inexact_text = refl

lazy_text : library_text (scheme (codes "lazy")) ≡ name_text (scheme (codes "lazy"))
unfolding chars encode spelled is_numeral is_identifier is_initial is_subsequent
lazy_text = refl

load_text : library_text (scheme (codes "load")) ≡ name_text (scheme (codes "load"))
unfolding chars encode spelled is_numeral is_identifier is_initial is_subsequent
load_text = refl

process_context_text : library_text (scheme (codes "process-context")) ≡ name_text (scheme (codes "process-context"))
unfolding chars encode spelled is_numeral is_identifier is_initial is_subsequent
process_context_text = refl

read_text : library_text (scheme (codes "read")) ≡ name_text (scheme (codes "read"))
unfolding chars encode spelled is_numeral is_identifier is_initial is_subsequent
read_text = refl

repl_text : library_text (scheme (codes "repl")) ≡ name_text (scheme (codes "repl"))
unfolding chars encode spelled is_numeral is_identifier is_initial is_subsequent
repl_text = refl

time_text : library_text (scheme (codes "time")) ≡ name_text (scheme (codes "time"))
unfolding chars encode spelled is_numeral is_identifier is_initial is_subsequent
time_text = refl

write_text : library_text (scheme (codes "write")) ≡ name_text (scheme (codes "write"))
unfolding chars encode spelled is_numeral is_identifier is_initial is_subsequent
write_text = refl

-- ---- all of them

abbrev AreWritten : List StandardLibrary → Type 0
AreWritten [] = Unit {0}
AreWritten (l ∷ ls) = (library_text l.name ≡ name_text l.name) × AreWritten ls

all_written : AreWritten standard_libraries
unfolding standard_libraries
all_written =
    (base_text, (case_lambda_text, (char_text, (complex_text, (cxr_text, (eval_text, (file_text, (inexact_text, (lazy_text, (load_text, (process_context_text, (read_text, (repl_text, (time_text, (write_text, tt)))))))))))))))

all_spelled : (ls : List StandardLibrary) → AreAllProper ls → AreWritten ls → SpellsAll text_of ls
all_spelled [] h k = tt
all_spelled (l ∷ ls) h k = (text_of-proper l.name h.0 ∙ k.0, all_spelled ls h.1 k.1)

one_text : (ls : List StandardLibrary) → AreWritten ls → map (λ (l : StandardLibrary). name_text l.name) ls ≡ map (λ (l : StandardLibrary). library_text l.name) ls
one_text [] h = refl
one_text (l ∷ ls) h = λ j. sym h.0 j ∷ one_text ls h.1 j

pub told : (spelled : LibraryName → List ℕ) × SpellsStandard spelled × ((n : LibraryName) → IsProper n → spelled n ≡ library_text n)
told = (text_of, record { tells = text_tells; standard = all_spelled standard_libraries standard_proper all_written }, text_of-proper)

pub same_texts : map (λ (l : StandardLibrary). name_text l.name) standard_libraries ≡ map (λ (l : StandardLibrary). library_text l.name) standard_libraries
same_texts = one_text standard_libraries all_written
