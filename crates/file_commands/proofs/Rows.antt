-- Files, and what is printed of them: texts with their data, and lines told from outside.
use Rattle.std.proofs.Common.{◌≡◌, ℕ, pos, List, [], ◌∷◌, map, Bool, true, false, cond, Option, Some, None, Ok, codes, refl}
use Rattle.std.specs.Char.{encode_utf8}
use Rattle.std.specs.Fmt.{digits}
use Rattle.std.specs.Str.{bytes_eq, chars, is_utf8}
use Rattle.ls_base.specs.declared.answers.TextEdit.{TextEdit}
use Rattle.ls_base.specs.declared.encoding.Encoding.TheVariants.{Utf16}
use Rattle.ls_base.specs.declared.places.Pos.{Pos}
use Rattle.scheme_model.specs.Data as g
use Rattle.scheme_model.specs.Diagnostics.{Span}
use Rattle.scheme_model.specs.Kinds as k
use Rattle.scheme_model.specs.Prelude.{prelude}
use Rattle.scheme_model.specs.StandardLibraries.{standard_libraries}
use Rattle.scheme_model.specs.StandardNames.{base_names}
use Rattle.included_documents.specs.Meant.{meant}
use Rattle.document_store.specs.Texts.{Document}
use Rattle.read_documents.specs.Listed.{lists_of}
use Rattle.read_documents.specs.Readings.{Read, Reads}
use Rattle.rename_conditions.specs.Readers.{Reader, Reading}
use Rattle.file_commands.specs.Checking as checking
use Rattle.file_commands.specs.Renaming.{printed, rename_in_text, renamed_in}
use Rattle.file_commands.specs.declared.checking.Checked.{Checked}
use Rattle.file_commands.specs.declared.renaming.Renamed.TheVariants.{Edits, NotUtf8, Refused}

abbrev s : ℕ → ℕ → Span
s start end = record { start = start; end = end }

abbrev p : ℕ → ℕ → ℕ → ℕ → g.Place
p first last start end = record { first = first; last = last; start = start; end = end }

abbrev at : ℕ → ℕ → Pos
at line character = record { line = line; character = character }

abbrev edit : ℕ → ℕ → ℕ → ℕ → List ℕ → TextEdit
edit l c m d new = record { range = record { start = at l c; end = at m d }; new_text = new }

abbrev checked : List ℕ → Bool → Checked
checked lines error = record { lines = lines; has_error = error }

-- what is printed of texts that are read so
abbrev printed_of : List (List ℕ × Document) → List Read → Checked
printed_of ds rs = checking.printed (map (λ l. (l.uri, l.list)) (lists_of Utf16 ds rs))

-- texts that read so, and a new name that is a symbol or isn't
abbrev r : List g.Datum → List Span → Reading
r items spans = record { items = items; spans = spans }

abbrev read_among : List (List ℕ × Reading) → List ℕ → Option Reading
read_among [] text = None
read_among (e ∷ es) text = cond (bytes_eq e.0 text) (Some e.1) (read_among es text)

abbrev reader : List (List ℕ × Reading) → Option (List ℕ) → Reader
reader readings symbol = record { read = read_among readings; symbol = λ name. symbol; meant = meant }

-- ---- check

keyword_redefined : printed_of (((codes "b.scm"), (pos 0, (codes "(begin (define begin list))"))) ∷ []) (Reads (codes "b.scm") (((g.list (p 0 7 0 27) (g.part (g.atom (p 1 1 1 6) (g.spelled (k.Name (codes "begin") false))) (g.part (g.list (p 2 6 7 26) (g.part (g.atom (p 3 3 8 14) (g.spelled (k.Name (codes "define") false))) (g.part (g.atom (p 4 4 15 20) (g.spelled (k.Name (codes "begin") false))) (g.part (g.atom (p 5 5 21 25) (g.spelled (k.Name (codes "list") false))) g.none)))) g.none)))) ∷ []) ((s 0 1) ∷ (s 1 6) ∷ (s 7 8) ∷ (s 8 14) ∷ (s 15 20) ∷ (s 21 25) ∷ (s 25 26) ∷ (s 26 27) ∷ []) ∷ []) ≡ checked ((codes "b.scm:0:0: warning 104 no import, (scheme base) is used\nb.scm:0:15: error 41 keyword redefined begin\n")) true
unfolding base_names standard_libraries prelude encode_utf8 chars digits
keyword_redefined = refl

import_hidden : printed_of (((codes "g.scm"), (pos 0, (codes "(import (scheme base))\n(define (f) (g))\n(define (square x) (* x x))\n(f)\n(define (g) (square 2))"))) ∷ []) (Reads (codes "g.scm") (((g.list (p 0 6 0 22) (g.part (g.atom (p 1 1 1 7) (g.spelled (k.Name (codes "import") false))) (g.part (g.list (p 2 5 8 21) (g.part (g.atom (p 3 3 9 15) (g.spelled (k.Name (codes "scheme") false))) (g.part (g.atom (p 4 4 16 20) (g.spelled (k.Name (codes "base") false))) g.none))) g.none)))) ∷ ((g.list (p 7 15 23 39) (g.part (g.atom (p 8 8 24 30) (g.spelled (k.Name (codes "define") false))) (g.part (g.list (p 9 11 31 34) (g.part (g.atom (p 10 10 32 33) (g.spelled (k.Name (codes "f") false))) g.none)) (g.part (g.list (p 12 14 35 38) (g.part (g.atom (p 13 13 36 37) (g.spelled (k.Name (codes "g") false))) g.none)) g.none))))) ∷ ((g.list (p 16 27 40 67) (g.part (g.atom (p 17 17 41 47) (g.spelled (k.Name (codes "define") false))) (g.part (g.list (p 18 21 48 58) (g.part (g.atom (p 19 19 49 55) (g.spelled (k.Name (codes "square") false))) (g.part (g.atom (p 20 20 56 57) (g.spelled (k.Name (codes "x") false))) g.none))) (g.part (g.list (p 22 26 59 66) (g.part (g.atom (p 23 23 60 61) (g.spelled (k.Name (codes "*") false))) (g.part (g.atom (p 24 24 62 63) (g.spelled (k.Name (codes "x") false))) (g.part (g.atom (p 25 25 64 65) (g.spelled (k.Name (codes "x") false))) g.none)))) g.none))))) ∷ ((g.list (p 28 30 68 71) (g.part (g.atom (p 29 29 69 70) (g.spelled (k.Name (codes "f") false))) g.none))) ∷ ((g.list (p 31 40 72 95) (g.part (g.atom (p 32 32 73 79) (g.spelled (k.Name (codes "define") false))) (g.part (g.list (p 33 35 80 83) (g.part (g.atom (p 34 34 81 82) (g.spelled (k.Name (codes "g") false))) g.none)) (g.part (g.list (p 36 39 84 94) (g.part (g.atom (p 37 37 85 91) (g.spelled (k.Name (codes "square") false))) (g.part (g.atom (p 38 38 92 93) (g.spelled (k.Numeral (codes "2")))) g.none))) g.none))))) ∷ []) ((s 0 1) ∷ (s 1 7) ∷ (s 8 9) ∷ (s 9 15) ∷ (s 16 20) ∷ (s 20 21) ∷ (s 21 22) ∷ (s 23 24) ∷ (s 24 30) ∷ (s 31 32) ∷ (s 32 33) ∷ (s 33 34) ∷ (s 35 36) ∷ (s 36 37) ∷ (s 37 38) ∷ (s 38 39) ∷ (s 40 41) ∷ (s 41 47) ∷ (s 48 49) ∷ (s 49 55) ∷ (s 56 57) ∷ (s 57 58) ∷ (s 59 60) ∷ (s 60 61) ∷ (s 62 63) ∷ (s 64 65) ∷ (s 65 66) ∷ (s 66 67) ∷ (s 68 69) ∷ (s 69 70) ∷ (s 70 71) ∷ (s 72 73) ∷ (s 73 79) ∷ (s 80 81) ∷ (s 81 82) ∷ (s 82 83) ∷ (s 84 85) ∷ (s 85 91) ∷ (s 92 93) ∷ (s 93 94) ∷ (s 94 95) ∷ []) ∷ []) ≡ checked ((codes "g.scm:2:9: warning 101 definition hides import square\n")) false
unfolding base_names standard_libraries prelude encode_utf8 chars digits
import_hidden = refl

-- a file that isn't UTF-8 stands among the others by its name, and is an Error
second_of_three : checking.printed (checking.with_file ((codes "a.scm", []) ∷ (codes "c.scm", []) ∷ []) (codes "b.scm", 255 ∷ [])) ≡ checked (codes "b.scm:0:0: error 13 not UTF-8\n") true
unfolding chars digits is_utf8
second_of_three = refl

-- ---- rename

abbrev one : List ℕ
one = codes "(define x 1)"

abbrev one_read : List ℕ × Reading
one_read = (one, r (((g.list (p 0 4 0 12) (g.part (g.atom (p 1 1 1 7) (g.spelled (k.Name (codes "define") false))) (g.part (g.atom (p 2 2 8 9) (g.spelled (k.Name (codes "x") false))) (g.part (g.atom (p 3 3 10 11) (g.spelled (k.Numeral (codes "1")))) g.none))))) ∷ []) ((s 0 1) ∷ (s 1 7) ∷ (s 8 9) ∷ (s 10 11) ∷ (s 11 12) ∷ []))

bad_name : renamed_in (reader ((one_read) ∷ []) (None)) (codes "f.scm") one (at 0 8) (codes "1x") ≡ Refused (codes "refused 3 bad name\n")
unfolding base_names standard_libraries prelude encode_utf8 chars digits is_utf8 printed rename_in_text
bad_name = refl

standard_name : renamed_in (reader ((one_read) ∷ []) (Some (codes "x"))) (codes "f.scm") one (at 0 1) (codes "x") ≡ Refused (codes "refused 2 standard define\n")
unfolding base_names standard_libraries prelude encode_utf8 chars digits is_utf8 printed rename_in_text
standard_name = refl

not_bound : renamed_in (reader ((one_read) ∷ []) (Some (codes "y"))) (codes "f.scm") one (at 0 10) (codes "y") ≡ Refused (codes "refused 1 not bound\n")
unfolding base_names standard_libraries prelude encode_utf8 chars digits is_utf8 printed rename_in_text
not_bound = refl

-- edits, document by document
two_edits : printed (Ok (record { uri = codes "f.scm"; edits = edit 1 8 1 9 (codes "u") ∷ edit 2 10 2 11 (codes "u") ∷ [] } ∷ [])) ≡ Edits (codes "f.scm:1:8-1:9: u\nf.scm:2:10-2:11: u\n")
unfolding digits printed
two_edits = refl

not_utf8 : (it : Reader) (place : Pos) → renamed_in it (codes "f.scm") (255 ∷ []) place (codes "y") ≡ NotUtf8 (codes "f.scm:0:0: error 13 not UTF-8\n")
unfolding chars digits is_utf8
not_utf8 it place = refl
