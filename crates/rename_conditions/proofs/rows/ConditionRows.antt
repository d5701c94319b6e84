-- Open documents, and what a rename of an identifier edits or why it is refused, from outside.
-- Written by tests/definitions/rows; each row is checked by computing it.
use Rattle.std.specs.Prelude.{◌≡◌, ℕ, true, false, List, [], ◌∷◌, Some, None, codes, refl}
use Rattle.std.specs.Char.{encode_utf8}
use Rattle.std.specs.Str.{chars}
use Rattle.scheme_model.specs.StandardNames.{base_names}
use Rattle.scheme_model.specs.StandardLibraries.{standard_libraries}
use Rattle.scheme_model.specs.Prelude.{prelude}
use Rattle.scheme_model.specs.Kinds as k
use Rattle.scheme_model.specs.Data as g
use Rattle.scheme_model.specs.Diagnostics.{Span}
use Rattle.scheme_tokens.specs.Lexical.{is_initial, is_subsequent}
use Rattle.scheme_tokens.specs.Mirror.Spelled.{spelled}
use Rattle.scheme_tokens.specs.Mirror.Words.{is_identifier, is_numeral}
use Rattle.rename_model.specs.Difference as d
use Rattle.text_edits.specs.Edits.{Edit}
use Rattle.rename_conditions.specs.Readers.{Reading}
use Rattle.rename_conditions.specs.Opened.{DocEdits}
use Rattle.rename_conditions.proofs.RenameShown as w
use Rattle.rename_conditions.proofs.RenameShown.{rename_rows}

abbrev p : ℕ → ℕ → ℕ → ℕ → g.Place
p first last start end = record { first = first; last = last; start = start; end = end }

abbrev s : ℕ → ℕ → Span
s start end = record { start = start; end = end }

abbrev r : List g.Datum → List Span → Reading
r items spans = record { items = items; spans = spans }

abbrev e : ℕ → ℕ → List ℕ → Edit
e start end text = record { start = start; end = end; text = text }

abbrev es : ℕ → List Edit → DocEdits
es document edits = record { document = document; edits = edits }

pub begin-of-a-program : rename_rows (((codes "(begin (define x 1))"), r (((g.list (p 0 7 0 20) (g.part (g.atom (p 1 1 1 6) (g.spelled (k.Name (codes "begin") false))) (g.part (g.list (p 2 6 7 19) (g.part (g.atom (p 3 3 8 14) (g.spelled (k.Name (codes "define") false))) (g.part (g.atom (p 4 4 15 16) (g.spelled (k.Name (codes "x") false))) (g.part (g.atom (p 5 5 17 18) (g.spelled (k.Numeral (codes "1")))) g.none)))) g.none)))) ∷ []) ((s 0 1) ∷ (s 1 6) ∷ (s 7 8) ∷ (s 8 14) ∷ (s 15 16) ∷ (s 17 18) ∷ (s 18 19) ∷ (s 19 20) ∷ [])) ∷ []) (Some (codes "z")) (((codes "(begin (define x 1))")) ∷ []) 0 1 (codes "z") ≡ w.OfStandard (codes "begin")
unfolding base_names standard_libraries prelude encode_utf8 chars spelled is_numeral is_identifier is_initial is_subsequent
begin-of-a-program = refl

pub same-name : rename_rows (((codes "(define (f a) a)"), r (((g.list (p 0 7 0 16) (g.part (g.atom (p 1 1 1 7) (g.spelled (k.Name (codes "define") false))) (g.part (g.list (p 2 5 8 13) (g.part (g.atom (p 3 3 9 10) (g.spelled (k.Name (codes "f") false))) (g.part (g.atom (p 4 4 11 12) (g.spelled (k.Name (codes "a") false))) g.none))) (g.part (g.atom (p 6 6 14 15) (g.spelled (k.Name (codes "a") false))) g.none))))) ∷ []) ((s 0 1) ∷ (s 1 7) ∷ (s 8 9) ∷ (s 9 10) ∷ (s 11 12) ∷ (s 12 13) ∷ (s 14 15) ∷ (s 15 16) ∷ [])) ∷ []) (Some (codes "a")) (((codes "(define (f a) a)")) ∷ []) 0 11 (codes "a") ≡ w.Edits ((es 0 ((e 11 12 (codes "a")) ∷ (e 14 15 (codes "a")) ∷ [])) ∷ [])
unfolding base_names standard_libraries prelude encode_utf8 chars spelled is_numeral is_identifier is_initial is_subsequent
same-name = refl

pub record-field-twice : rename_rows (((codes "(define-record-type point (make x y) point? (x px) (y py))"), r (((g.list (p 0 17 0 58) (g.part (g.atom (p 1 1 1 19) (g.spelled (k.Name (codes "define-record-type") false))) (g.part (g.atom (p 2 2 20 25) (g.spelled (k.Name (codes "point") false))) (g.part (g.list (p 3 7 26 36) (g.part (g.atom (p 4 4 27 31) (g.spelled (k.Name (codes "make") false))) (g.part (g.atom (p 5 5 32 33) (g.spelled (k.Name (codes "x") false))) (g.part (g.atom (p 6 6 34 35) (g.spelled (k.Name (codes "y") false))) g.none)))) (g.part (g.atom (p 8 8 37 43) (g.spelled (k.Name (codes "point?") false))) (g.part (g.list (p 9 12 44 50) (g.part (g.atom (p 10 10 45 46) (g.spelled (k.Name (codes "x") false))) (g.part (g.atom (p 11 11 47 49) (g.spelled (k.Name (codes "px") false))) g.none))) (g.part (g.list (p 13 16 51 57) (g.part (g.atom (p 14 14 52 53) (g.spelled (k.Name (codes "y") false))) (g.part (g.atom (p 15 15 54 56) (g.spelled (k.Name (codes "py") false))) g.none))) g.none)))))))) ∷ []) ((s 0 1) ∷ (s 1 19) ∷ (s 20 25) ∷ (s 26 27) ∷ (s 27 31) ∷ (s 32 33) ∷ (s 34 35) ∷ (s 35 36) ∷ (s 37 43) ∷ (s 44 45) ∷ (s 45 46) ∷ (s 47 49) ∷ (s 49 50) ∷ (s 51 52) ∷ (s 52 53) ∷ (s 54 56) ∷ (s 56 57) ∷ (s 57 58) ∷ [])) ∷ []) (Some (codes "y")) (((codes "(define-record-type point (make x y) point? (x px) (y py))")) ∷ []) 0 45 (codes "y") ≡ w.Differs d.IsBroken 0 0 w.Nothing w.Nothing
unfolding base_names standard_libraries prelude encode_utf8 chars spelled is_numeral is_identifier is_initial is_subsequent
record-field-twice = refl

pub syntax-rules-has-no-link : rename_rows (((codes "(define-syntax m (syntax-rules () ((_ a) a)))"), r (((g.list (p 0 15 0 45) (g.part (g.atom (p 1 1 1 14) (g.spelled (k.Name (codes "define-syntax") false))) (g.part (g.atom (p 2 2 15 16) (g.spelled (k.Name (codes "m") false))) (g.part (g.list (p 3 14 17 44) (g.part (g.atom (p 4 4 18 30) (g.spelled (k.Name (codes "syntax-rules") false))) (g.part (g.list (p 5 6 31 33) g.none) (g.part (g.list (p 7 13 34 43) (g.part (g.list (p 8 11 35 40) (g.part (g.atom (p 9 9 36 37) (g.spelled (k.Name (codes "_") false))) (g.part (g.atom (p 10 10 38 39) (g.spelled (k.Name (codes "a") false))) g.none))) (g.part (g.atom (p 12 12 41 42) (g.spelled (k.Name (codes "a") false))) g.none))) g.none)))) g.none))))) ∷ []) ((s 0 1) ∷ (s 1 14) ∷ (s 15 16) ∷ (s 17 18) ∷ (s 18 30) ∷ (s 31 32) ∷ (s 32 33) ∷ (s 34 35) ∷ (s 35 36) ∷ (s 36 37) ∷ (s 38 39) ∷ (s 39 40) ∷ (s 41 42) ∷ (s 42 43) ∷ (s 43 44) ∷ (s 44 45) ∷ [])) ∷ []) (Some (codes "z")) (((codes "(define-syntax m (syntax-rules () ((_ a) a)))")) ∷ []) 0 18 (codes "z") ≡ w.NotBound
unfolding base_names standard_libraries prelude encode_utf8 chars spelled is_numeral is_identifier is_initial is_subsequent
syntax-rules-has-no-link = refl

pub prefix-stays : rename_rows (((codes "(import (scheme base) (prefix (stack) s:)) (s:push 1 '())"), r (((g.list (p 0 13 0 42) (g.part (g.atom (p 1 1 1 7) (g.spelled (k.Name (codes "import") false))) (g.part (g.list (p 2 5 8 21) (g.part (g.atom (p 3 3 9 15) (g.spelled (k.Name (codes "scheme") false))) (g.part (g.atom (p 4 4 16 20) (g.spelled (k.Name (codes "base") false))) g.none))) (g.part (g.list (p 6 12 22 41) (g.part (g.atom (p 7 7 23 29) (g.spelled (k.Name (codes "prefix") false))) (g.part (g.list (p 8 10 30 37) (g.part (g.atom (p 9 9 31 36) (g.spelled (k.Name (codes "stack") false))) g.none)) (g.part (g.atom (p 11 11 38 40) (g.spelled (k.Name (codes "s:") false))) g.none)))) g.none))))) ∷ ((g.list (p 14 20 43 57) (g.part (g.atom (p 15 15 44 50) (g.spelled (k.Name (codes "s:push") false))) (g.part (g.atom (p 16 16 51 52) (g.spelled (k.Numeral (codes "1")))) (g.part (g.list (p 17 19 53 56) (g.part (g.atom (p 17 17 53 54) (g.implied k.Quote)) (g.part (g.list (p 18 19 54 56) g.none) g.none))) g.none))))) ∷ []) ((s 0 1) ∷ (s 1 7) ∷ (s 8 9) ∷ (s 9 15) ∷ (s 16 20) ∷ (s 20 21) ∷ (s 22 23) ∷ (s 23 29) ∷ (s 30 31) ∷ (s 31 36) ∷ (s 36 37) ∷ (s 38 40) ∷ (s 40 41) ∷ (s 41 42) ∷ (s 43 44) ∷ (s 44 50) ∷ (s 51 52) ∷ (s 53 54) ∷ (s 54 55) ∷ (s 55 56) ∷ (s 56 57) ∷ [])) ∷ ((codes "(define-library (stack) (export push) (import (scheme base)) (begin (define (push x s) (cons x s))))"), r (((g.list (p 0 32 0 100) (g.part (g.atom (p 1 1 1 15) (g.spelled (k.Name (codes "define-library") false))) (g.part (g.list (p 2 4 16 23) (g.part (g.atom (p 3 3 17 22) (g.spelled (k.Name (codes "stack") false))) g.none)) (g.part (g.list (p 5 8 24 37) (g.part (g.atom (p 6 6 25 31) (g.spelled (k.Name (codes "export") false))) (g.part (g.atom (p 7 7 32 36) (g.spelled (k.Name (codes "push") false))) g.none))) (g.part (g.list (p 9 15 38 60) (g.part (g.atom (p 10 10 39 45) (g.spelled (k.Name (codes "import") false))) (g.part (g.list (p 11 14 46 59) (g.part (g.atom (p 12 12 47 53) (g.spelled (k.Name (codes "scheme") false))) (g.part (g.atom (p 13 13 54 58) (g.spelled (k.Name (codes "base") false))) g.none))) g.none))) (g.part (g.list (p 16 31 61 99) (g.part (g.atom (p 17 17 62 67) (g.spelled (k.Name (codes "begin") false))) (g.part (g.list (p 18 30 68 98) (g.part (g.atom (p 19 19 69 75) (g.spelled (k.Name (codes "define") false))) (g.part (g.list (p 20 24 76 86) (g.part (g.atom (p 21 21 77 81) (g.spelled (k.Name (codes "push") false))) (g.part (g.atom (p 22 22 82 83) (g.spelled (k.Name (codes "x") false))) (g.part (g.atom (p 23 23 84 85) (g.spelled (k.Name (codes "s") false))) g.none)))) (g.part (g.list (p 25 29 87 97) (g.part (g.atom (p 26 26 88 92) (g.spelled (k.Name (codes "cons") false))) (g.part (g.atom (p 27 27 93 94) (g.spelled (k.Name (codes "x") false))) (g.part (g.atom (p 28 28 95 96) (g.spelled (k.Name (codes "s") false))) g.none)))) g.none)))) g.none))) g.none))))))) ∷ []) ((s 0 1) ∷ (s 1 15) ∷ (s 16 17) ∷ (s 17 22) ∷ (s 22 23) ∷ (s 24 25) ∷ (s 25 31) ∷ (s 32 36) ∷ (s 36 37) ∷ (s 38 39) ∷ (s 39 45) ∷ (s 46 47) ∷ (s 47 53) ∷ (s 54 58) ∷ (s 58 59) ∷ (s 59 60) ∷ (s 61 62) ∷ (s 62 67) ∷ (s 68 69) ∷ (s 69 75) ∷ (s 76 77) ∷ (s 77 81) ∷ (s 82 83) ∷ (s 84 85) ∷ (s 85 86) ∷ (s 87 88) ∷ (s 88 92) ∷ (s 93 94) ∷ (s 95 96) ∷ (s 96 97) ∷ (s 97 98) ∷ (s 98 99) ∷ (s 99 100) ∷ [])) ∷ []) (Some (codes "s:put")) (((codes "(import (scheme base) (prefix (stack) s:)) (s:push 1 '())")) ∷ ((codes "(define-library (stack) (export push) (import (scheme base)) (begin (define (push x s) (cons x s))))")) ∷ []) 0 44 (codes "s:put") ≡ w.Edits ((es 0 ((e 44 50 (codes "s:put")) ∷ [])) ∷ (es 1 ((e 32 36 (codes "put")) ∷ (e 77 81 (codes "put")) ∷ [])) ∷ [])
unfolding base_names standard_libraries prelude encode_utf8 chars spelled is_numeral is_identifier is_initial is_subsequent
prefix-stays = refl

pub unbound-bound : rename_rows (((40 ∷ 100 ∷ 101 ∷ 102 ∷ 105 ∷ 110 ∷ 101 ∷ 32 ∷ 40 ∷ 102 ∷ 32 ∷ 120 ∷ 41 ∷ 32 ∷ 40 ∷ 103 ∷ 32 ∷ 120 ∷ 41 ∷ 41 ∷ 10 ∷ 40 ∷ 102 ∷ 32 ∷ 49 ∷ 41 ∷ []), r (((g.list (p 0 10 0 20) (g.part (g.atom (p 1 1 1 7) (g.spelled (k.Name (codes "define") false))) (g.part (g.list (p 2 5 8 13) (g.part (g.atom (p 3 3 9 10) (g.spelled (k.Name (codes "f") false))) (g.part (g.atom (p 4 4 11 12) (g.spelled (k.Name (codes "x") false))) g.none))) (g.part (g.list (p 6 9 14 19) (g.part (g.atom (p 7 7 15 16) (g.spelled (k.Name (codes "g") false))) (g.part (g.atom (p 8 8 17 18) (g.spelled (k.Name (codes "x") false))) g.none))) g.none))))) ∷ ((g.list (p 11 14 21 26) (g.part (g.atom (p 12 12 22 23) (g.spelled (k.Name (codes "f") false))) (g.part (g.atom (p 13 13 24 25) (g.spelled (k.Numeral (codes "1")))) g.none)))) ∷ []) ((s 0 1) ∷ (s 1 7) ∷ (s 8 9) ∷ (s 9 10) ∷ (s 11 12) ∷ (s 12 13) ∷ (s 14 15) ∷ (s 15 16) ∷ (s 17 18) ∷ (s 18 19) ∷ (s 19 20) ∷ (s 21 22) ∷ (s 22 23) ∷ (s 24 25) ∷ (s 25 26) ∷ [])) ∷ []) (Some (codes "g")) (((40 ∷ 100 ∷ 101 ∷ 102 ∷ 105 ∷ 110 ∷ 101 ∷ 32 ∷ 40 ∷ 102 ∷ 32 ∷ 120 ∷ 41 ∷ 32 ∷ 40 ∷ 103 ∷ 32 ∷ 120 ∷ 41 ∷ 41 ∷ 10 ∷ 40 ∷ 102 ∷ 32 ∷ 49 ∷ 41 ∷ [])) ∷ []) 0 9 (codes "g") ≡ w.Differs d.IsShadowed 0 15 (w.Unbound (codes "g")) (w.Binder 0 9)
unfolding base_names standard_libraries prelude encode_utf8 chars spelled is_numeral is_identifier is_initial is_subsequent
unbound-bound = refl

pub quasiquote-is-standard : rename_rows (((codes "(define (f a) (quasiquote a))"), r (((g.list (p 0 10 0 29) (g.part (g.atom (p 1 1 1 7) (g.spelled (k.Name (codes "define") false))) (g.part (g.list (p 2 5 8 13) (g.part (g.atom (p 3 3 9 10) (g.spelled (k.Name (codes "f") false))) (g.part (g.atom (p 4 4 11 12) (g.spelled (k.Name (codes "a") false))) g.none))) (g.part (g.list (p 6 9 14 28) (g.part (g.atom (p 7 7 15 25) (g.spelled (k.Name (codes "quasiquote") false))) (g.part (g.atom (p 8 8 26 27) (g.spelled (k.Name (codes "a") false))) g.none))) g.none))))) ∷ []) ((s 0 1) ∷ (s 1 7) ∷ (s 8 9) ∷ (s 9 10) ∷ (s 11 12) ∷ (s 12 13) ∷ (s 14 15) ∷ (s 15 25) ∷ (s 26 27) ∷ (s 27 28) ∷ (s 28 29) ∷ [])) ∷ []) (Some (codes "z")) (((codes "(define (f a) (quasiquote a))")) ∷ []) 0 15 (codes "z") ≡ w.OfStandard (codes "quasiquote")
unfolding base_names standard_libraries prelude encode_utf8 chars spelled is_numeral is_identifier is_initial is_subsequent
quasiquote-is-standard = refl

pub requirement : rename_rows (((codes "(cond-expand ((and r7rs) 1) (else 2))"), r (((g.list (p 0 13 0 37) (g.part (g.atom (p 1 1 1 12) (g.spelled (k.Name (codes "cond-expand") false))) (g.part (g.list (p 2 8 13 27) (g.part (g.list (p 3 6 14 24) (g.part (g.atom (p 4 4 15 18) (g.spelled (k.Name (codes "and") false))) (g.part (g.atom (p 5 5 19 23) (g.spelled (k.Name (codes "r7rs") false))) g.none))) (g.part (g.atom (p 7 7 25 26) (g.spelled (k.Numeral (codes "1")))) g.none))) (g.part (g.list (p 9 12 28 36) (g.part (g.atom (p 10 10 29 33) (g.spelled (k.Name (codes "else") false))) (g.part (g.atom (p 11 11 34 35) (g.spelled (k.Numeral (codes "2")))) g.none))) g.none))))) ∷ []) ((s 0 1) ∷ (s 1 12) ∷ (s 13 14) ∷ (s 14 15) ∷ (s 15 18) ∷ (s 19 23) ∷ (s 23 24) ∷ (s 25 26) ∷ (s 26 27) ∷ (s 28 29) ∷ (s 29 33) ∷ (s 34 35) ∷ (s 35 36) ∷ (s 36 37) ∷ [])) ∷ []) (Some (codes "z")) (((codes "(cond-expand ((and r7rs) 1) (else 2))")) ∷ []) 0 19 (codes "z") ≡ w.NotBound
unfolding base_names standard_libraries prelude encode_utf8 chars spelled is_numeral is_identifier is_initial is_subsequent
requirement = refl

pub warnings-in-reach : rename_rows (((40 ∷ 100 ∷ 101 ∷ 102 ∷ 105 ∷ 110 ∷ 101 ∷ 32 ∷ 120 ∷ 32 ∷ 40 ∷ 103 ∷ 41 ∷ 41 ∷ 10 ∷ 40 ∷ 108 ∷ 105 ∷ 115 ∷ 116 ∷ 32 ∷ 120 ∷ 41 ∷ []), r (((g.list (p 0 6 0 14) (g.part (g.atom (p 1 1 1 7) (g.spelled (k.Name (codes "define") false))) (g.part (g.atom (p 2 2 8 9) (g.spelled (k.Name (codes "x") false))) (g.part (g.list (p 3 5 10 13) (g.part (g.atom (p 4 4 11 12) (g.spelled (k.Name (codes "g") false))) g.none)) g.none))))) ∷ ((g.list (p 7 10 15 23) (g.part (g.atom (p 8 8 16 20) (g.spelled (k.Name (codes "list") false))) (g.part (g.atom (p 9 9 21 22) (g.spelled (k.Name (codes "x") false))) g.none)))) ∷ []) ((s 0 1) ∷ (s 1 7) ∷ (s 8 9) ∷ (s 10 11) ∷ (s 11 12) ∷ (s 12 13) ∷ (s 13 14) ∷ (s 15 16) ∷ (s 16 20) ∷ (s 21 22) ∷ (s 22 23) ∷ [])) ∷ []) (Some (codes "y")) (((40 ∷ 100 ∷ 101 ∷ 102 ∷ 105 ∷ 110 ∷ 101 ∷ 32 ∷ 120 ∷ 32 ∷ 40 ∷ 103 ∷ 41 ∷ 41 ∷ 10 ∷ 40 ∷ 108 ∷ 105 ∷ 115 ∷ 116 ∷ 32 ∷ 120 ∷ 41 ∷ [])) ∷ []) 0 8 (codes "y") ≡ w.Edits ((es 0 ((e 8 9 (codes "y")) ∷ (e 21 22 (codes "y")) ∷ [])) ∷ [])
unfolding base_names standard_libraries prelude encode_utf8 chars spelled is_numeral is_identifier is_initial is_subsequent
warnings-in-reach = refl

pub bad-name : rename_rows (((codes "(define x 1)"), r (((g.list (p 0 4 0 12) (g.part (g.atom (p 1 1 1 7) (g.spelled (k.Name (codes "define") false))) (g.part (g.atom (p 2 2 8 9) (g.spelled (k.Name (codes "x") false))) (g.part (g.atom (p 3 3 10 11) (g.spelled (k.Numeral (codes "1")))) g.none))))) ∷ []) ((s 0 1) ∷ (s 1 7) ∷ (s 8 9) ∷ (s 10 11) ∷ (s 11 12) ∷ [])) ∷ []) None (((codes "(define x 1)")) ∷ []) 0 8 (codes "1x") ≡ w.BadName
unfolding base_names standard_libraries prelude encode_utf8 chars spelled is_numeral is_identifier is_initial is_subsequent
bad-name = refl

pub needless-bars : rename_rows (((40 ∷ 100 ∷ 101 ∷ 102 ∷ 105 ∷ 110 ∷ 101 ∷ 32 ∷ 40 ∷ 102 ∷ 32 ∷ 120 ∷ 41 ∷ 32 ∷ 40 ∷ 108 ∷ 105 ∷ 115 ∷ 116 ∷ 32 ∷ 124 ∷ 120 ∷ 124 ∷ 32 ∷ 120 ∷ 41 ∷ 41 ∷ []), r (((g.list (p 0 11 0 27) (g.part (g.atom (p 1 1 1 7) (g.spelled (k.Name (codes "define") false))) (g.part (g.list (p 2 5 8 13) (g.part (g.atom (p 3 3 9 10) (g.spelled (k.Name (codes "f") false))) (g.part (g.atom (p 4 4 11 12) (g.spelled (k.Name (codes "x") false))) g.none))) (g.part (g.list (p 6 10 14 26) (g.part (g.atom (p 7 7 15 19) (g.spelled (k.Name (codes "list") false))) (g.part (g.atom (p 8 8 20 23) (g.spelled (k.Name (codes "x") true))) (g.part (g.atom (p 9 9 24 25) (g.spelled (k.Name (codes "x") false))) g.none)))) g.none))))) ∷ []) ((s 0 1) ∷ (s 1 7) ∷ (s 8 9) ∷ (s 9 10) ∷ (s 11 12) ∷ (s 12 13) ∷ (s 14 15) ∷ (s 15 19) ∷ (s 20 23) ∷ (s 24 25) ∷ (s 25 26) ∷ (s 26 27) ∷ [])) ∷ []) (Some (codes "u")) (((40 ∷ 100 ∷ 101 ∷ 102 ∷ 105 ∷ 110 ∷ 101 ∷ 32 ∷ 40 ∷ 102 ∷ 32 ∷ 120 ∷ 41 ∷ 32 ∷ 40 ∷ 108 ∷ 105 ∷ 115 ∷ 116 ∷ 32 ∷ 124 ∷ 120 ∷ 124 ∷ 32 ∷ 120 ∷ 41 ∷ 41 ∷ [])) ∷ []) 0 11 (124 ∷ 117 ∷ 124 ∷ []) ≡ w.Edits ((es 0 ((e 11 12 (codes "u")) ∷ (e 20 23 (124 ∷ 117 ∷ 124 ∷ [])) ∷ (e 24 25 (codes "u")) ∷ [])) ∷ [])
unfolding base_names standard_libraries prelude encode_utf8 chars spelled is_numeral is_identifier is_initial is_subsequent
needless-bars = refl

pub first-unreadable : rename_rows (((codes "(define x 1)"), r (((g.list (p 0 4 0 12) (g.part (g.atom (p 1 1 1 7) (g.spelled (k.Name (codes "define") false))) (g.part (g.atom (p 2 2 8 9) (g.spelled (k.Name (codes "x") false))) (g.part (g.atom (p 3 3 10 11) (g.spelled (k.Numeral (codes "1")))) g.none))))) ∷ []) ((s 0 1) ∷ (s 1 7) ∷ (s 8 9) ∷ (s 10 11) ∷ (s 11 12) ∷ [])) ∷ []) (Some (codes "y")) (((codes "(")) ∷ ((codes "(define x 1)")) ∷ ((40 ∷ 100 ∷ 101 ∷ 102 ∷ 105 ∷ 110 ∷ 101 ∷ 32 ∷ 115 ∷ 32 ∷ 34 ∷ 111 ∷ 112 ∷ 101 ∷ 110 ∷ [])) ∷ []) 1 8 (codes "y") ≡ w.Unreadable 0
unfolding base_names standard_libraries prelude encode_utf8 chars spelled is_numeral is_identifier is_initial is_subsequent
first-unreadable = refl

pub three-libraries : rename_rows (((codes "(define-library (a) (export f) (import (scheme base)) (begin (define (f x) x)))"), r (((g.list (p 0 27 0 79) (g.part (g.atom (p 1 1 1 15) (g.spelled (k.Name (codes "define-library") false))) (g.part (g.list (p 2 4 16 19) (g.part (g.atom (p 3 3 17 18) (g.spelled (k.Name (codes "a") false))) g.none)) (g.part (g.list (p 5 8 20 30) (g.part (g.atom (p 6 6 21 27) (g.spelled (k.Name (codes "export") false))) (g.part (g.atom (p 7 7 28 29) (g.spelled (k.Name (codes "f") false))) g.none))) (g.part (g.list (p 9 15 31 53) (g.part (g.atom (p 10 10 32 38) (g.spelled (k.Name (codes "import") false))) (g.part (g.list (p 11 14 39 52) (g.part (g.atom (p 12 12 40 46) (g.spelled (k.Name (codes "scheme") false))) (g.part (g.atom (p 13 13 47 51) (g.spelled (k.Name (codes "base") false))) g.none))) g.none))) (g.part (g.list (p 16 26 54 78) (g.part (g.atom (p 17 17 55 60) (g.spelled (k.Name (codes "begin") false))) (g.part (g.list (p 18 25 61 77) (g.part (g.atom (p 19 19 62 68) (g.spelled (k.Name (codes "define") false))) (g.part (g.list (p 20 23 69 74) (g.part (g.atom (p 21 21 70 71) (g.spelled (k.Name (codes "f") false))) (g.part (g.atom (p 22 22 72 73) (g.spelled (k.Name (codes "x") false))) g.none))) (g.part (g.atom (p 24 24 75 76) (g.spelled (k.Name (codes "x") false))) g.none)))) g.none))) g.none))))))) ∷ []) ((s 0 1) ∷ (s 1 15) ∷ (s 16 17) ∷ (s 17 18) ∷ (s 18 19) ∷ (s 20 21) ∷ (s 21 27) ∷ (s 28 29) ∷ (s 29 30) ∷ (s 31 32) ∷ (s 32 38) ∷ (s 39 40) ∷ (s 40 46) ∷ (s 47 51) ∷ (s 51 52) ∷ (s 52 53) ∷ (s 54 55) ∷ (s 55 60) ∷ (s 61 62) ∷ (s 62 68) ∷ (s 69 70) ∷ (s 70 71) ∷ (s 72 73) ∷ (s 73 74) ∷ (s 75 76) ∷ (s 76 77) ∷ (s 77 78) ∷ (s 78 79) ∷ [])) ∷ ((codes "(define-library (b) (export (rename p:f q)) (import (scheme base) (prefix (a) p:)) (begin (define (h) (p:f 1))))"), r (((g.list (p 0 40 0 112) (g.part (g.atom (p 1 1 1 15) (g.spelled (k.Name (codes "define-library") false))) (g.part (g.list (p 2 4 16 19) (g.part (g.atom (p 3 3 17 18) (g.spelled (k.Name (codes "b") false))) g.none)) (g.part (g.list (p 5 12 20 43) (g.part (g.atom (p 6 6 21 27) (g.spelled (k.Name (codes "export") false))) (g.part (g.list (p 7 11 28 42) (g.part (g.atom (p 8 8 29 35) (g.spelled (k.Name (codes "rename") false))) (g.part (g.atom (p 9 9 36 39) (g.spelled (k.Name (codes "p:f") false))) (g.part (g.atom (p 10 10 40 41) (g.spelled (k.Name (codes "q") false))) g.none)))) g.none))) (g.part (g.list (p 13 26 44 82) (g.part (g.atom (p 14 14 45 51) (g.spelled (k.Name (codes "import") false))) (g.part (g.list (p 15 18 52 65) (g.part (g.atom (p 16 16 53 59) (g.spelled (k.Name (codes "scheme") false))) (g.part (g.atom (p 17 17 60 64) (g.spelled (k.Name (codes "base") false))) g.none))) (g.part (g.list (p 19 25 66 81) (g.part (g.atom (p 20 20 67 73) (g.spelled (k.Name (codes "prefix") false))) (g.part (g.list (p 21 23 74 77) (g.part (g.atom (p 22 22 75 76) (g.spelled (k.Name (codes "a") false))) g.none)) (g.part (g.atom (p 24 24 78 80) (g.spelled (k.Name (codes "p:") false))) g.none)))) g.none)))) (g.part (g.list (p 27 39 83 111) (g.part (g.atom (p 28 28 84 89) (g.spelled (k.Name (codes "begin") false))) (g.part (g.list (p 29 38 90 110) (g.part (g.atom (p 30 30 91 97) (g.spelled (k.Name (codes "define") false))) (g.part (g.list (p 31 33 98 101) (g.part (g.atom (p 32 32 99 100) (g.spelled (k.Name (codes "h") false))) g.none)) (g.part (g.list (p 34 37 102 109) (g.part (g.atom (p 35 35 103 106) (g.spelled (k.Name (codes "p:f") false))) (g.part (g.atom (p 36 36 107 108) (g.spelled (k.Numeral (codes "1")))) g.none))) g.none)))) g.none))) g.none))))))) ∷ []) ((s 0 1) ∷ (s 1 15) ∷ (s 16 17) ∷ (s 17 18) ∷ (s 18 19) ∷ (s 20 21) ∷ (s 21 27) ∷ (s 28 29) ∷ (s 29 35) ∷ (s 36 39) ∷ (s 40 41) ∷ (s 41 42) ∷ (s 42 43) ∷ (s 44 45) ∷ (s 45 51) ∷ (s 52 53) ∷ (s 53 59) ∷ (s 60 64) ∷ (s 64 65) ∷ (s 66 67) ∷ (s 67 73) ∷ (s 74 75) ∷ (s 75 76) ∷ (s 76 77) ∷ (s 78 80) ∷ (s 80 81) ∷ (s 81 82) ∷ (s 83 84) ∷ (s 84 89) ∷ (s 90 91) ∷ (s 91 97) ∷ (s 98 99) ∷ (s 99 100) ∷ (s 100 101) ∷ (s 102 103) ∷ (s 103 106) ∷ (s 107 108) ∷ (s 108 109) ∷ (s 109 110) ∷ (s 110 111) ∷ (s 111 112) ∷ [])) ∷ ((codes "(define-library (c) (export q) (import (scheme base) (b)) (begin (define (k) (q 2))))"), r (((g.list (p 0 32 0 85) (g.part (g.atom (p 1 1 1 15) (g.spelled (k.Name (codes "define-library") false))) (g.part (g.list (p 2 4 16 19) (g.part (g.atom (p 3 3 17 18) (g.spelled (k.Name (codes "c") false))) g.none)) (g.part (g.list (p 5 8 20 30) (g.part (g.atom (p 6 6 21 27) (g.spelled (k.Name (codes "export") false))) (g.part (g.atom (p 7 7 28 29) (g.spelled (k.Name (codes "q") false))) g.none))) (g.part (g.list (p 9 18 31 57) (g.part (g.atom (p 10 10 32 38) (g.spelled (k.Name (codes "import") false))) (g.part (g.list (p 11 14 39 52) (g.part (g.atom (p 12 12 40 46) (g.spelled (k.Name (codes "scheme") false))) (g.part (g.atom (p 13 13 47 51) (g.spelled (k.Name (codes "base") false))) g.none))) (g.part (g.list (p 15 17 53 56) (g.part (g.atom (p 16 16 54 55) (g.spelled (k.Name (codes "b") false))) g.none)) g.none)))) (g.part (g.list (p 19 31 58 84) (g.part (g.atom (p 20 20 59 64) (g.spelled (k.Name (codes "begin") false))) (g.part (g.list (p 21 30 65 83) (g.part (g.atom (p 22 22 66 72) (g.spelled (k.Name (codes "define") false))) (g.part (g.list (p 23 25 73 76) (g.part (g.atom (p 24 24 74 75) (g.spelled (k.Name (codes "k") false))) g.none)) (g.part (g.list (p 26 29 77 82) (g.part (g.atom (p 27 27 78 79) (g.spelled (k.Name (codes "q") false))) (g.part (g.atom (p 28 28 80 81) (g.spelled (k.Numeral (codes "2")))) g.none))) g.none)))) g.none))) g.none))))))) ∷ []) ((s 0 1) ∷ (s 1 15) ∷ (s 16 17) ∷ (s 17 18) ∷ (s 18 19) ∷ (s 20 21) ∷ (s 21 27) ∷ (s 28 29) ∷ (s 29 30) ∷ (s 31 32) ∷ (s 32 38) ∷ (s 39 40) ∷ (s 40 46) ∷ (s 47 51) ∷ (s 51 52) ∷ (s 53 54) ∷ (s 54 55) ∷ (s 55 56) ∷ (s 56 57) ∷ (s 58 59) ∷ (s 59 64) ∷ (s 65 66) ∷ (s 66 72) ∷ (s 73 74) ∷ (s 74 75) ∷ (s 75 76) ∷ (s 77 78) ∷ (s 78 79) ∷ (s 80 81) ∷ (s 81 82) ∷ (s 82 83) ∷ (s 83 84) ∷ (s 84 85) ∷ [])) ∷ []) (Some (codes "g")) (((codes "(define-library (a) (export f) (import (scheme base)) (begin (define (f x) x)))")) ∷ ((codes "(define-library (b) (export (rename p:f q)) (import (scheme base) (prefix (a) p:)) (begin (define (h) (p:f 1))))")) ∷ ((codes "(define-library (c) (export q) (import (scheme base) (b)) (begin (define (k) (q 2))))")) ∷ []) 0 70 (codes "g") ≡ w.Edits ((es 0 ((e 28 29 (codes "g")) ∷ (e 70 71 (codes "g")) ∷ [])) ∷ (es 1 ((e 36 39 (codes "p:g")) ∷ (e 103 106 (codes "p:g")) ∷ [])) ∷ [])
unfolding base_names standard_libraries prelude encode_utf8 chars spelled is_numeral is_identifier is_initial is_subsequent
three-libraries = refl

pub dead-template-is-renamed : rename_rows (((40 ∷ 100 ∷ 101 ∷ 102 ∷ 105 ∷ 110 ∷ 101 ∷ 45 ∷ 115 ∷ 121 ∷ 110 ∷ 116 ∷ 97 ∷ 120 ∷ 32 ∷ 109 ∷ 121 ∷ 45 ∷ 111 ∷ 114 ∷ 32 ∷ 40 ∷ 115 ∷ 121 ∷ 110 ∷ 116 ∷ 97 ∷ 120 ∷ 45 ∷ 114 ∷ 117 ∷ 108 ∷ 101 ∷ 115 ∷ 32 ∷ 40 ∷ 41 ∷ 32 ∷ 40 ∷ 40 ∷ 95 ∷ 32 ∷ 97 ∷ 32 ∷ 98 ∷ 41 ∷ 32 ∷ 40 ∷ 108 ∷ 101 ∷ 116 ∷ 32 ∷ 40 ∷ 40 ∷ 116 ∷ 32 ∷ 97 ∷ 41 ∷ 41 ∷ 32 ∷ 40 ∷ 105 ∷ 102 ∷ 32 ∷ 116 ∷ 32 ∷ 116 ∷ 32 ∷ 98 ∷ 41 ∷ 41 ∷ 41 ∷ 41 ∷ 41 ∷ 10 ∷ 40 ∷ 100 ∷ 101 ∷ 102 ∷ 105 ∷ 110 ∷ 101 ∷ 32 ∷ 116 ∷ 32 ∷ 53 ∷ 41 ∷ 10 ∷ []), r (((g.list (p 0 30 0 74) (g.part (g.atom (p 1 1 1 14) (g.spelled (k.Name (codes "define-syntax") false))) (g.part (g.atom (p 2 2 15 20) (g.spelled (k.Name (codes "my-or") false))) (g.part (g.list (p 3 29 21 73) (g.part (g.atom (p 4 4 22 34) (g.spelled (k.Name (codes "syntax-rules") false))) (g.part (g.list (p 5 6 35 37) g.none) (g.part (g.list (p 7 28 38 72) (g.part (g.list (p 8 12 39 46) (g.part (g.atom (p 9 9 40 41) (g.spelled (k.Name (codes "_") false))) (g.part (g.atom (p 10 10 42 43) (g.spelled (k.Name (codes "a") false))) (g.part (g.atom (p 11 11 44 45) (g.spelled (k.Name (codes "b") false))) g.none)))) (g.part (g.list (p 13 27 47 71) (g.part (g.atom (p 14 14 48 51) (g.spelled (k.Name (codes "let") false))) (g.part (g.list (p 15 20 52 59) (g.part (g.list (p 16 19 53 58) (g.part (g.atom (p 17 17 54 55) (g.spelled (k.Name (codes "t") false))) (g.part (g.atom (p 18 18 56 57) (g.spelled (k.Name (codes "a") false))) g.none))) g.none)) (g.part (g.list (p 21 26 60 70) (g.part (g.atom (p 22 22 61 63) (g.spelled (k.Name (codes "if") false))) (g.part (g.atom (p 23 23 64 65) (g.spelled (k.Name (codes "t") false))) (g.part (g.atom (p 24 24 66 67) (g.spelled (k.Name (codes "t") false))) (g.part (g.atom (p 25 25 68 69) (g.spelled (k.Name (codes "b") false))) g.none))))) g.none)))) g.none))) g.none)))) g.none))))) ∷ ((g.list (p 31 35 75 87) (g.part (g.atom (p 32 32 76 82) (g.spelled (k.Name (codes "define") false))) (g.part (g.atom (p 33 33 83 84) (g.spelled (k.Name (codes "t") false))) (g.part (g.atom (p 34 34 85 86) (g.spelled (k.Numeral (codes "5")))) g.none))))) ∷ []) ((s 0 1) ∷ (s 1 14) ∷ (s 15 20) ∷ (s 21 22) ∷ (s 22 34) ∷ (s 35 36) ∷ (s 36 37) ∷ (s 38 39) ∷ (s 39 40) ∷ (s 40 41) ∷ (s 42 43) ∷ (s 44 45) ∷ (s 45 46) ∷ (s 47 48) ∷ (s 48 51) ∷ (s 52 53) ∷ (s 53 54) ∷ (s 54 55) ∷ (s 56 57) ∷ (s 57 58) ∷ (s 58 59) ∷ (s 60 61) ∷ (s 61 63) ∷ (s 64 65) ∷ (s 66 67) ∷ (s 68 69) ∷ (s 69 70) ∷ (s 70 71) ∷ (s 71 72) ∷ (s 72 73) ∷ (s 73 74) ∷ (s 75 76) ∷ (s 76 82) ∷ (s 83 84) ∷ (s 85 86) ∷ (s 86 87) ∷ [])) ∷ []) (Some (codes "u")) (((40 ∷ 100 ∷ 101 ∷ 102 ∷ 105 ∷ 110 ∷ 101 ∷ 45 ∷ 115 ∷ 121 ∷ 110 ∷ 116 ∷ 97 ∷ 120 ∷ 32 ∷ 109 ∷ 121 ∷ 45 ∷ 111 ∷ 114 ∷ 32 ∷ 40 ∷ 115 ∷ 121 ∷ 110 ∷ 116 ∷ 97 ∷ 120 ∷ 45 ∷ 114 ∷ 117 ∷ 108 ∷ 101 ∷ 115 ∷ 32 ∷ 40 ∷ 41 ∷ 32 ∷ 40 ∷ 40 ∷ 95 ∷ 32 ∷ 97 ∷ 32 ∷ 98 ∷ 41 ∷ 32 ∷ 40 ∷ 108 ∷ 101 ∷ 116 ∷ 32 ∷ 40 ∷ 40 ∷ 116 ∷ 32 ∷ 97 ∷ 41 ∷ 41 ∷ 32 ∷ 40 ∷ 105 ∷ 102 ∷ 32 ∷ 116 ∷ 32 ∷ 116 ∷ 32 ∷ 98 ∷ 41 ∷ 41 ∷ 41 ∷ 41 ∷ 41 ∷ 10 ∷ 40 ∷ 100 ∷ 101 ∷ 102 ∷ 105 ∷ 110 ∷ 101 ∷ 32 ∷ 116 ∷ 32 ∷ 53 ∷ 41 ∷ 10 ∷ [])) ∷ []) 0 83 (codes "u") ≡ w.Edits ((es 0 ((e 54 55 (codes "u")) ∷ (e 64 65 (codes "u")) ∷ (e 66 67 (codes "u")) ∷ (e 83 84 (codes "u")) ∷ [])) ∷ [])
unfolding base_names standard_libraries prelude encode_utf8 chars spelled is_numeral is_identifier is_initial is_subsequent
dead-template-is-renamed = refl

pub own-definition-of-a-standard-name : rename_rows (((40 ∷ 100 ∷ 101 ∷ 102 ∷ 105 ∷ 110 ∷ 101 ∷ 32 ∷ 40 ∷ 115 ∷ 113 ∷ 117 ∷ 97 ∷ 114 ∷ 101 ∷ 32 ∷ 120 ∷ 41 ∷ 32 ∷ 40 ∷ 42 ∷ 32 ∷ 120 ∷ 32 ∷ 120 ∷ 41 ∷ 41 ∷ 10 ∷ 40 ∷ 115 ∷ 113 ∷ 117 ∷ 97 ∷ 114 ∷ 101 ∷ 32 ∷ 50 ∷ 41 ∷ []), r (((g.list (p 0 11 0 27) (g.part (g.atom (p 1 1 1 7) (g.spelled (k.Name (codes "define") false))) (g.part (g.list (p 2 5 8 18) (g.part (g.atom (p 3 3 9 15) (g.spelled (k.Name (codes "square") false))) (g.part (g.atom (p 4 4 16 17) (g.spelled (k.Name (codes "x") false))) g.none))) (g.part (g.list (p 6 10 19 26) (g.part (g.atom (p 7 7 20 21) (g.spelled (k.Name (codes "*") false))) (g.part (g.atom (p 8 8 22 23) (g.spelled (k.Name (codes "x") false))) (g.part (g.atom (p 9 9 24 25) (g.spelled (k.Name (codes "x") false))) g.none)))) g.none))))) ∷ ((g.list (p 12 15 28 38) (g.part (g.atom (p 13 13 29 35) (g.spelled (k.Name (codes "square") false))) (g.part (g.atom (p 14 14 36 37) (g.spelled (k.Numeral (codes "2")))) g.none)))) ∷ []) ((s 0 1) ∷ (s 1 7) ∷ (s 8 9) ∷ (s 9 15) ∷ (s 16 17) ∷ (s 17 18) ∷ (s 19 20) ∷ (s 20 21) ∷ (s 22 23) ∷ (s 24 25) ∷ (s 25 26) ∷ (s 26 27) ∷ (s 28 29) ∷ (s 29 35) ∷ (s 36 37) ∷ (s 37 38) ∷ [])) ∷ []) (Some (codes "twice")) (((40 ∷ 100 ∷ 101 ∷ 102 ∷ 105 ∷ 110 ∷ 101 ∷ 32 ∷ 40 ∷ 115 ∷ 113 ∷ 117 ∷ 97 ∷ 114 ∷ 101 ∷ 32 ∷ 120 ∷ 41 ∷ 32 ∷ 40 ∷ 42 ∷ 32 ∷ 120 ∷ 32 ∷ 120 ∷ 41 ∷ 41 ∷ 10 ∷ 40 ∷ 115 ∷ 113 ∷ 117 ∷ 97 ∷ 114 ∷ 101 ∷ 32 ∷ 50 ∷ 41 ∷ [])) ∷ []) 0 9 (codes "twice") ≡ w.Edits ((es 0 ((e 9 15 (codes "twice")) ∷ (e 29 35 (codes "twice")) ∷ [])) ∷ [])
unfolding base_names standard_libraries prelude encode_utf8 chars spelled is_numeral is_identifier is_initial is_subsequent
own-definition-of-a-standard-name = refl

pub broken-in-reach : rename_rows (((40 ∷ 100 ∷ 101 ∷ 102 ∷ 105 ∷ 110 ∷ 101 ∷ 32 ∷ 120 ∷ 32 ∷ 49 ∷ 41 ∷ 10 ∷ 40 ∷ 105 ∷ 102 ∷ 41 ∷ []), r (((g.list (p 0 4 0 12) (g.part (g.atom (p 1 1 1 7) (g.spelled (k.Name (codes "define") false))) (g.part (g.atom (p 2 2 8 9) (g.spelled (k.Name (codes "x") false))) (g.part (g.atom (p 3 3 10 11) (g.spelled (k.Numeral (codes "1")))) g.none))))) ∷ ((g.list (p 5 7 13 17) (g.part (g.atom (p 6 6 14 16) (g.spelled (k.Name (codes "if") false))) g.none))) ∷ []) ((s 0 1) ∷ (s 1 7) ∷ (s 8 9) ∷ (s 10 11) ∷ (s 11 12) ∷ (s 13 14) ∷ (s 14 16) ∷ (s 16 17) ∷ [])) ∷ []) (Some (codes "y")) (((40 ∷ 100 ∷ 101 ∷ 102 ∷ 105 ∷ 110 ∷ 101 ∷ 32 ∷ 120 ∷ 32 ∷ 49 ∷ 41 ∷ 10 ∷ 40 ∷ 105 ∷ 102 ∷ 41 ∷ [])) ∷ []) 0 8 (codes "y") ≡ w.BrokenUnit 0 13 31
unfolding base_names standard_libraries prelude encode_utf8 chars spelled is_numeral is_identifier is_initial is_subsequent
broken-in-reach = refl

pub clash-at-another-member : rename_rows (((codes "(define-library (l) (export f (rename f b:f)) (import (scheme base)) (begin (define (f x) x)))"), r (((g.list (p 0 32 0 94) (g.part (g.atom (p 1 1 1 15) (g.spelled (k.Name (codes "define-library") false))) (g.part (g.list (p 2 4 16 19) (g.part (g.atom (p 3 3 17 18) (g.spelled (k.Name (codes "l") false))) g.none)) (g.part (g.list (p 5 13 20 45) (g.part (g.atom (p 6 6 21 27) (g.spelled (k.Name (codes "export") false))) (g.part (g.atom (p 7 7 28 29) (g.spelled (k.Name (codes "f") false))) (g.part (g.list (p 8 12 30 44) (g.part (g.atom (p 9 9 31 37) (g.spelled (k.Name (codes "rename") false))) (g.part (g.atom (p 10 10 38 39) (g.spelled (k.Name (codes "f") false))) (g.part (g.atom (p 11 11 40 43) (g.spelled (k.Name (codes "b:f") false))) g.none)))) g.none)))) (g.part (g.list (p 14 20 46 68) (g.part (g.atom (p 15 15 47 53) (g.spelled (k.Name (codes "import") false))) (g.part (g.list (p 16 19 54 67) (g.part (g.atom (p 17 17 55 61) (g.spelled (k.Name (codes "scheme") false))) (g.part (g.atom (p 18 18 62 66) (g.spelled (k.Name (codes "base") false))) g.none))) g.none))) (g.part (g.list (p 21 31 69 93) (g.part (g.atom (p 22 22 70 75) (g.spelled (k.Name (codes "begin") false))) (g.part (g.list (p 23 30 76 92) (g.part (g.atom (p 24 24 77 83) (g.spelled (k.Name (codes "define") false))) (g.part (g.list (p 25 28 84 89) (g.part (g.atom (p 26 26 85 86) (g.spelled (k.Name (codes "f") false))) (g.part (g.atom (p 27 27 87 88) (g.spelled (k.Name (codes "x") false))) g.none))) (g.part (g.atom (p 29 29 90 91) (g.spelled (k.Name (codes "x") false))) g.none)))) g.none))) g.none))))))) ∷ []) ((s 0 1) ∷ (s 1 15) ∷ (s 16 17) ∷ (s 17 18) ∷ (s 18 19) ∷ (s 20 21) ∷ (s 21 27) ∷ (s 28 29) ∷ (s 30 31) ∷ (s 31 37) ∷ (s 38 39) ∷ (s 40 43) ∷ (s 43 44) ∷ (s 44 45) ∷ (s 46 47) ∷ (s 47 53) ∷ (s 54 55) ∷ (s 55 61) ∷ (s 62 66) ∷ (s 66 67) ∷ (s 67 68) ∷ (s 69 70) ∷ (s 70 75) ∷ (s 76 77) ∷ (s 77 83) ∷ (s 84 85) ∷ (s 85 86) ∷ (s 87 88) ∷ (s 88 89) ∷ (s 90 91) ∷ (s 91 92) ∷ (s 92 93) ∷ (s 93 94) ∷ [])) ∷ ((codes "(import (scheme base) (prefix (only (l) b:f) a) (prefix (only (l) f) ab:)) (ab:f 1)"), r (((g.list (p 0 28 0 74) (g.part (g.atom (p 1 1 1 7) (g.spelled (k.Name (codes "import") false))) (g.part (g.list (p 2 5 8 21) (g.part (g.atom (p 3 3 9 15) (g.spelled (k.Name (codes "scheme") false))) (g.part (g.atom (p 4 4 16 20) (g.spelled (k.Name (codes "base") false))) g.none))) (g.part (g.list (p 6 16 22 47) (g.part (g.atom (p 7 7 23 29) (g.spelled (k.Name (codes "prefix") false))) (g.part (g.list (p 8 14 30 44) (g.part (g.atom (p 9 9 31 35) (g.spelled (k.Name (codes "only") false))) (g.part (g.list (p 10 12 36 39) (g.part (g.atom (p 11 11 37 38) (g.spelled (k.Name (codes "l") false))) g.none)) (g.part (g.atom (p 13 13 40 43) (g.spelled (k.Name (codes "b:f") false))) g.none)))) (g.part (g.atom (p 15 15 45 46) (g.spelled (k.Name (codes "a") false))) g.none)))) (g.part (g.list (p 17 27 48 73) (g.part (g.atom (p 18 18 49 55) (g.spelled (k.Name (codes "prefix") false))) (g.part (g.list (p 19 25 56 68) (g.part (g.atom (p 20 20 57 61) (g.spelled (k.Name (codes "only") false))) (g.part (g.list (p 21 23 62 65) (g.part (g.atom (p 22 22 63 64) (g.spelled (k.Name (codes "l") false))) g.none)) (g.part (g.atom (p 24 24 66 67) (g.spelled (k.Name (codes "f") false))) g.none)))) (g.part (g.atom (p 26 26 69 72) (g.spelled (k.Name (codes "ab:") false))) g.none)))) g.none)))))) ∷ ((g.list (p 29 32 75 83) (g.part (g.atom (p 30 30 76 80) (g.spelled (k.Name (codes "ab:f") false))) (g.part (g.atom (p 31 31 81 82) (g.spelled (k.Numeral (codes "1")))) g.none)))) ∷ []) ((s 0 1) ∷ (s 1 7) ∷ (s 8 9) ∷ (s 9 15) ∷ (s 16 20) ∷ (s 20 21) ∷ (s 22 23) ∷ (s 23 29) ∷ (s 30 31) ∷ (s 31 35) ∷ (s 36 37) ∷ (s 37 38) ∷ (s 38 39) ∷ (s 40 43) ∷ (s 43 44) ∷ (s 45 46) ∷ (s 46 47) ∷ (s 48 49) ∷ (s 49 55) ∷ (s 56 57) ∷ (s 57 61) ∷ (s 62 63) ∷ (s 63 64) ∷ (s 64 65) ∷ (s 66 67) ∷ (s 67 68) ∷ (s 69 72) ∷ (s 72 73) ∷ (s 73 74) ∷ (s 75 76) ∷ (s 76 80) ∷ (s 81 82) ∷ (s 82 83) ∷ [])) ∷ []) (Some (codes "g")) (((codes "(define-library (l) (export f (rename f b:f)) (import (scheme base)) (begin (define (f x) x)))")) ∷ ((codes "(import (scheme base) (prefix (only (l) b:f) a) (prefix (only (l) f) ab:)) (ab:f 1)")) ∷ []) 0 85 (codes "g") ≡ w.PrefixClash 1 76
unfolding base_names standard_libraries prelude encode_utf8 chars spelled is_numeral is_identifier is_initial is_subsequent
clash-at-another-member = refl

pub export-differs : rename_rows (((codes "(define-library (k) (export x) (import (scheme base)) (begin (define x 1)))"), r (((g.list (p 0 24 0 75) (g.part (g.atom (p 1 1 1 15) (g.spelled (k.Name (codes "define-library") false))) (g.part (g.list (p 2 4 16 19) (g.part (g.atom (p 3 3 17 18) (g.spelled (k.Name (codes "k") false))) g.none)) (g.part (g.list (p 5 8 20 30) (g.part (g.atom (p 6 6 21 27) (g.spelled (k.Name (codes "export") false))) (g.part (g.atom (p 7 7 28 29) (g.spelled (k.Name (codes "x") false))) g.none))) (g.part (g.list (p 9 15 31 53) (g.part (g.atom (p 10 10 32 38) (g.spelled (k.Name (codes "import") false))) (g.part (g.list (p 11 14 39 52) (g.part (g.atom (p 12 12 40 46) (g.spelled (k.Name (codes "scheme") false))) (g.part (g.atom (p 13 13 47 51) (g.spelled (k.Name (codes "base") false))) g.none))) g.none))) (g.part (g.list (p 16 23 54 74) (g.part (g.atom (p 17 17 55 60) (g.spelled (k.Name (codes "begin") false))) (g.part (g.list (p 18 22 61 73) (g.part (g.atom (p 19 19 62 68) (g.spelled (k.Name (codes "define") false))) (g.part (g.atom (p 20 20 69 70) (g.spelled (k.Name (codes "x") false))) (g.part (g.atom (p 21 21 71 72) (g.spelled (k.Numeral (codes "1")))) g.none)))) g.none))) g.none))))))) ∷ []) ((s 0 1) ∷ (s 1 15) ∷ (s 16 17) ∷ (s 17 18) ∷ (s 18 19) ∷ (s 20 21) ∷ (s 21 27) ∷ (s 28 29) ∷ (s 29 30) ∷ (s 31 32) ∷ (s 32 38) ∷ (s 39 40) ∷ (s 40 46) ∷ (s 47 51) ∷ (s 51 52) ∷ (s 52 53) ∷ (s 54 55) ∷ (s 55 60) ∷ (s 61 62) ∷ (s 62 68) ∷ (s 69 70) ∷ (s 71 72) ∷ (s 72 73) ∷ (s 73 74) ∷ (s 74 75) ∷ [])) ∷ ((codes "(define-library (l) (export x) (import (scheme base) (k)) (begin (define y 1)))"), r (((g.list (p 0 27 0 79) (g.part (g.atom (p 1 1 1 15) (g.spelled (k.Name (codes "define-library") false))) (g.part (g.list (p 2 4 16 19) (g.part (g.atom (p 3 3 17 18) (g.spelled (k.Name (codes "l") false))) g.none)) (g.part (g.list (p 5 8 20 30) (g.part (g.atom (p 6 6 21 27) (g.spelled (k.Name (codes "export") false))) (g.part (g.atom (p 7 7 28 29) (g.spelled (k.Name (codes "x") false))) g.none))) (g.part (g.list (p 9 18 31 57) (g.part (g.atom (p 10 10 32 38) (g.spelled (k.Name (codes "import") false))) (g.part (g.list (p 11 14 39 52) (g.part (g.atom (p 12 12 40 46) (g.spelled (k.Name (codes "scheme") false))) (g.part (g.atom (p 13 13 47 51) (g.spelled (k.Name (codes "base") false))) g.none))) (g.part (g.list (p 15 17 53 56) (g.part (g.atom (p 16 16 54 55) (g.spelled (k.Name (codes "k") false))) g.none)) g.none)))) (g.part (g.list (p 19 26 58 78) (g.part (g.atom (p 20 20 59 64) (g.spelled (k.Name (codes "begin") false))) (g.part (g.list (p 21 25 65 77) (g.part (g.atom (p 22 22 66 72) (g.spelled (k.Name (codes "define") false))) (g.part (g.atom (p 23 23 73 74) (g.spelled (k.Name (codes "y") false))) (g.part (g.atom (p 24 24 75 76) (g.spelled (k.Numeral (codes "1")))) g.none)))) g.none))) g.none))))))) ∷ []) ((s 0 1) ∷ (s 1 15) ∷ (s 16 17) ∷ (s 17 18) ∷ (s 18 19) ∷ (s 20 21) ∷ (s 21 27) ∷ (s 28 29) ∷ (s 29 30) ∷ (s 31 32) ∷ (s 32 38) ∷ (s 39 40) ∷ (s 40 46) ∷ (s 47 51) ∷ (s 51 52) ∷ (s 53 54) ∷ (s 54 55) ∷ (s 55 56) ∷ (s 56 57) ∷ (s 58 59) ∷ (s 59 64) ∷ (s 65 66) ∷ (s 66 72) ∷ (s 73 74) ∷ (s 75 76) ∷ (s 76 77) ∷ (s 77 78) ∷ (s 78 79) ∷ [])) ∷ []) (Some (codes "x")) (((codes "(define-library (k) (export x) (import (scheme base)) (begin (define x 1)))")) ∷ ((codes "(define-library (l) (export x) (import (scheme base) (k)) (begin (define y 1)))")) ∷ []) 1 73 (codes "x") ≡ w.Differs d.IsExport 1 28 (w.Binder 0 69) (w.Binder 1 73)
unfolding base_names standard_libraries prelude encode_utf8 chars spelled is_numeral is_identifier is_initial is_subsequent
export-differs = refl

pub first-of-a-pattern : rename_rows (((codes "(define-syntax m (syntax-rules () ((m a) a)))"), r (((g.list (p 0 15 0 45) (g.part (g.atom (p 1 1 1 14) (g.spelled (k.Name (codes "define-syntax") false))) (g.part (g.atom (p 2 2 15 16) (g.spelled (k.Name (codes "m") false))) (g.part (g.list (p 3 14 17 44) (g.part (g.atom (p 4 4 18 30) (g.spelled (k.Name (codes "syntax-rules") false))) (g.part (g.list (p 5 6 31 33) g.none) (g.part (g.list (p 7 13 34 43) (g.part (g.list (p 8 11 35 40) (g.part (g.atom (p 9 9 36 37) (g.spelled (k.Name (codes "m") false))) (g.part (g.atom (p 10 10 38 39) (g.spelled (k.Name (codes "a") false))) g.none))) (g.part (g.atom (p 12 12 41 42) (g.spelled (k.Name (codes "a") false))) g.none))) g.none)))) g.none))))) ∷ []) ((s 0 1) ∷ (s 1 14) ∷ (s 15 16) ∷ (s 17 18) ∷ (s 18 30) ∷ (s 31 32) ∷ (s 32 33) ∷ (s 34 35) ∷ (s 35 36) ∷ (s 36 37) ∷ (s 38 39) ∷ (s 39 40) ∷ (s 41 42) ∷ (s 42 43) ∷ (s 43 44) ∷ (s 44 45) ∷ [])) ∷ []) (Some (codes "z")) (((codes "(define-syntax m (syntax-rules () ((m a) a)))")) ∷ []) 0 36 (codes "z") ≡ w.NotBound
unfolding base_names standard_libraries prelude encode_utf8 chars spelled is_numeral is_identifier is_initial is_subsequent
first-of-a-pattern = refl

pub broken-outside-reach : rename_rows (((40 ∷ 100 ∷ 101 ∷ 102 ∷ 105 ∷ 110 ∷ 101 ∷ 32 ∷ 120 ∷ 32 ∷ 49 ∷ 41 ∷ 10 ∷ 40 ∷ 108 ∷ 105 ∷ 115 ∷ 116 ∷ 32 ∷ 120 ∷ 41 ∷ []), r (((g.list (p 0 4 0 12) (g.part (g.atom (p 1 1 1 7) (g.spelled (k.Name (codes "define") false))) (g.part (g.atom (p 2 2 8 9) (g.spelled (k.Name (codes "x") false))) (g.part (g.atom (p 3 3 10 11) (g.spelled (k.Numeral (codes "1")))) g.none))))) ∷ ((g.list (p 5 8 13 21) (g.part (g.atom (p 6 6 14 18) (g.spelled (k.Name (codes "list") false))) (g.part (g.atom (p 7 7 19 20) (g.spelled (k.Name (codes "x") false))) g.none)))) ∷ []) ((s 0 1) ∷ (s 1 7) ∷ (s 8 9) ∷ (s 10 11) ∷ (s 11 12) ∷ (s 13 14) ∷ (s 14 18) ∷ (s 19 20) ∷ (s 20 21) ∷ [])) ∷ ((codes "(if)"), r (((g.list (p 0 2 0 4) (g.part (g.atom (p 1 1 1 3) (g.spelled (k.Name (codes "if") false))) g.none))) ∷ []) ((s 0 1) ∷ (s 1 3) ∷ (s 3 4) ∷ [])) ∷ []) (Some (codes "y")) (((40 ∷ 100 ∷ 101 ∷ 102 ∷ 105 ∷ 110 ∷ 101 ∷ 32 ∷ 120 ∷ 32 ∷ 49 ∷ 41 ∷ 10 ∷ 40 ∷ 108 ∷ 105 ∷ 115 ∷ 116 ∷ 32 ∷ 120 ∷ 41 ∷ [])) ∷ ((codes "(if)")) ∷ []) 0 8 (codes "y") ≡ w.Edits ((es 0 ((e 8 9 (codes "y")) ∷ (e 19 20 (codes "y")) ∷ [])) ∷ [])
unfolding base_names standard_libraries prelude encode_utf8 chars spelled is_numeral is_identifier is_initial is_subsequent
broken-outside-reach = refl

pub underscore-of-a-pattern : rename_rows (((codes "(define-syntax m (syntax-rules () ((_ _ a) a)))"), r (((g.list (p 0 16 0 47) (g.part (g.atom (p 1 1 1 14) (g.spelled (k.Name (codes "define-syntax") false))) (g.part (g.atom (p 2 2 15 16) (g.spelled (k.Name (codes "m") false))) (g.part (g.list (p 3 15 17 46) (g.part (g.atom (p 4 4 18 30) (g.spelled (k.Name (codes "syntax-rules") false))) (g.part (g.list (p 5 6 31 33) g.none) (g.part (g.list (p 7 14 34 45) (g.part (g.list (p 8 12 35 42) (g.part (g.atom (p 9 9 36 37) (g.spelled (k.Name (codes "_") false))) (g.part (g.atom (p 10 10 38 39) (g.spelled (k.Name (codes "_") false))) (g.part (g.atom (p 11 11 40 41) (g.spelled (k.Name (codes "a") false))) g.none)))) (g.part (g.atom (p 13 13 43 44) (g.spelled (k.Name (codes "a") false))) g.none))) g.none)))) g.none))))) ∷ []) ((s 0 1) ∷ (s 1 14) ∷ (s 15 16) ∷ (s 17 18) ∷ (s 18 30) ∷ (s 31 32) ∷ (s 32 33) ∷ (s 34 35) ∷ (s 35 36) ∷ (s 36 37) ∷ (s 38 39) ∷ (s 40 41) ∷ (s 41 42) ∷ (s 43 44) ∷ (s 44 45) ∷ (s 45 46) ∷ (s 46 47) ∷ [])) ∷ []) (Some (codes "z")) (((codes "(define-syntax m (syntax-rules () ((_ _ a) a)))")) ∷ []) 0 38 (codes "z") ≡ w.NotBound
unfolding base_names standard_libraries prelude encode_utf8 chars spelled is_numeral is_identifier is_initial is_subsequent
underscore-of-a-pattern = refl

pub captured : rename_rows (((codes "(define (f x) (+ x y)) (define y 1)"), r (((g.list (p 0 11 0 22) (g.part (g.atom (p 1 1 1 7) (g.spelled (k.Name (codes "define") false))) (g.part (g.list (p 2 5 8 13) (g.part (g.atom (p 3 3 9 10) (g.spelled (k.Name (codes "f") false))) (g.part (g.atom (p 4 4 11 12) (g.spelled (k.Name (codes "x") false))) g.none))) (g.part (g.list (p 6 10 14 21) (g.part (g.atom (p 7 7 15 16) (g.spelled (k.Name (codes "+") false))) (g.part (g.atom (p 8 8 17 18) (g.spelled (k.Name (codes "x") false))) (g.part (g.atom (p 9 9 19 20) (g.spelled (k.Name (codes "y") false))) g.none)))) g.none))))) ∷ ((g.list (p 12 16 23 35) (g.part (g.atom (p 13 13 24 30) (g.spelled (k.Name (codes "define") false))) (g.part (g.atom (p 14 14 31 32) (g.spelled (k.Name (codes "y") false))) (g.part (g.atom (p 15 15 33 34) (g.spelled (k.Numeral (codes "1")))) g.none))))) ∷ []) ((s 0 1) ∷ (s 1 7) ∷ (s 8 9) ∷ (s 9 10) ∷ (s 11 12) ∷ (s 12 13) ∷ (s 14 15) ∷ (s 15 16) ∷ (s 17 18) ∷ (s 19 20) ∷ (s 20 21) ∷ (s 21 22) ∷ (s 23 24) ∷ (s 24 30) ∷ (s 31 32) ∷ (s 33 34) ∷ (s 34 35) ∷ [])) ∷ []) (Some (codes "x")) (((codes "(define (f x) (+ x y)) (define y 1)")) ∷ []) 0 31 (codes "x") ≡ w.Differs d.IsCaptured 0 19 (w.Binder 0 31) (w.Binder 0 11)
unfolding base_names standard_libraries prelude encode_utf8 chars spelled is_numeral is_identifier is_initial is_subsequent
captured = refl

pub renamed-standard : rename_rows (((40 ∷ 105 ∷ 109 ∷ 112 ∷ 111 ∷ 114 ∷ 116 ∷ 32 ∷ 40 ∷ 115 ∷ 99 ∷ 104 ∷ 101 ∷ 109 ∷ 101 ∷ 32 ∷ 98 ∷ 97 ∷ 115 ∷ 101 ∷ 41 ∷ 32 ∷ 40 ∷ 114 ∷ 101 ∷ 110 ∷ 97 ∷ 109 ∷ 101 ∷ 32 ∷ 40 ∷ 115 ∷ 99 ∷ 104 ∷ 101 ∷ 109 ∷ 101 ∷ 32 ∷ 98 ∷ 97 ∷ 115 ∷ 101 ∷ 41 ∷ 32 ∷ 40 ∷ 99 ∷ 97 ∷ 114 ∷ 32 ∷ 107 ∷ 97 ∷ 114 ∷ 41 ∷ 41 ∷ 41 ∷ 10 ∷ 40 ∷ 100 ∷ 101 ∷ 102 ∷ 105 ∷ 110 ∷ 101 ∷ 32 ∷ 40 ∷ 102 ∷ 32 ∷ 112 ∷ 41 ∷ 32 ∷ 40 ∷ 107 ∷ 97 ∷ 114 ∷ 32 ∷ 112 ∷ 41 ∷ 41 ∷ []), r (((g.list (p 0 17 0 55) (g.part (g.atom (p 1 1 1 7) (g.spelled (k.Name (codes "import") false))) (g.part (g.list (p 2 5 8 21) (g.part (g.atom (p 3 3 9 15) (g.spelled (k.Name (codes "scheme") false))) (g.part (g.atom (p 4 4 16 20) (g.spelled (k.Name (codes "base") false))) g.none))) (g.part (g.list (p 6 16 22 54) (g.part (g.atom (p 7 7 23 29) (g.spelled (k.Name (codes "rename") false))) (g.part (g.list (p 8 11 30 43) (g.part (g.atom (p 9 9 31 37) (g.spelled (k.Name (codes "scheme") false))) (g.part (g.atom (p 10 10 38 42) (g.spelled (k.Name (codes "base") false))) g.none))) (g.part (g.list (p 12 15 44 53) (g.part (g.atom (p 13 13 45 48) (g.spelled (k.Name (codes "car") false))) (g.part (g.atom (p 14 14 49 52) (g.spelled (k.Name (codes "kar") false))) g.none))) g.none)))) g.none))))) ∷ ((g.list (p 18 28 56 78) (g.part (g.atom (p 19 19 57 63) (g.spelled (k.Name (codes "define") false))) (g.part (g.list (p 20 23 64 69) (g.part (g.atom (p 21 21 65 66) (g.spelled (k.Name (codes "f") false))) (g.part (g.atom (p 22 22 67 68) (g.spelled (k.Name (codes "p") false))) g.none))) (g.part (g.list (p 24 27 70 77) (g.part (g.atom (p 25 25 71 74) (g.spelled (k.Name (codes "kar") false))) (g.part (g.atom (p 26 26 75 76) (g.spelled (k.Name (codes "p") false))) g.none))) g.none))))) ∷ []) ((s 0 1) ∷ (s 1 7) ∷ (s 8 9) ∷ (s 9 15) ∷ (s 16 20) ∷ (s 20 21) ∷ (s 22 23) ∷ (s 23 29) ∷ (s 30 31) ∷ (s 31 37) ∷ (s 38 42) ∷ (s 42 43) ∷ (s 44 45) ∷ (s 45 48) ∷ (s 49 52) ∷ (s 52 53) ∷ (s 53 54) ∷ (s 54 55) ∷ (s 56 57) ∷ (s 57 63) ∷ (s 64 65) ∷ (s 65 66) ∷ (s 67 68) ∷ (s 68 69) ∷ (s 70 71) ∷ (s 71 74) ∷ (s 75 76) ∷ (s 76 77) ∷ (s 77 78) ∷ [])) ∷ []) (Some (codes "first")) (((40 ∷ 105 ∷ 109 ∷ 112 ∷ 111 ∷ 114 ∷ 116 ∷ 32 ∷ 40 ∷ 115 ∷ 99 ∷ 104 ∷ 101 ∷ 109 ∷ 101 ∷ 32 ∷ 98 ∷ 97 ∷ 115 ∷ 101 ∷ 41 ∷ 32 ∷ 40 ∷ 114 ∷ 101 ∷ 110 ∷ 97 ∷ 109 ∷ 101 ∷ 32 ∷ 40 ∷ 115 ∷ 99 ∷ 104 ∷ 101 ∷ 109 ∷ 101 ∷ 32 ∷ 98 ∷ 97 ∷ 115 ∷ 101 ∷ 41 ∷ 32 ∷ 40 ∷ 99 ∷ 97 ∷ 114 ∷ 32 ∷ 107 ∷ 97 ∷ 114 ∷ 41 ∷ 41 ∷ 41 ∷ 10 ∷ 40 ∷ 100 ∷ 101 ∷ 102 ∷ 105 ∷ 110 ∷ 101 ∷ 32 ∷ 40 ∷ 102 ∷ 32 ∷ 112 ∷ 41 ∷ 32 ∷ 40 ∷ 107 ∷ 97 ∷ 114 ∷ 32 ∷ 112 ∷ 41 ∷ 41 ∷ [])) ∷ []) 0 71 (codes "first") ≡ w.Edits ((es 0 ((e 49 52 (codes "first")) ∷ (e 71 74 (codes "first")) ∷ [])) ∷ [])
unfolding base_names standard_libraries prelude encode_utf8 chars spelled is_numeral is_identifier is_initial is_subsequent
renamed-standard = refl

pub mark-of-quasiquote : rename_rows (((40 ∷ 100 ∷ 101 ∷ 102 ∷ 105 ∷ 110 ∷ 101 ∷ 32 ∷ 40 ∷ 102 ∷ 32 ∷ 97 ∷ 41 ∷ 32 ∷ 96 ∷ 40 ∷ 97 ∷ 32 ∷ 40 ∷ 117 ∷ 110 ∷ 113 ∷ 117 ∷ 111 ∷ 116 ∷ 101 ∷ 32 ∷ 97 ∷ 41 ∷ 41 ∷ 41 ∷ []), r (((g.list (p 0 14 0 31) (g.part (g.atom (p 1 1 1 7) (g.spelled (k.Name (codes "define") false))) (g.part (g.list (p 2 5 8 13) (g.part (g.atom (p 3 3 9 10) (g.spelled (k.Name (codes "f") false))) (g.part (g.atom (p 4 4 11 12) (g.spelled (k.Name (codes "a") false))) g.none))) (g.part (g.list (p 6 13 14 30) (g.part (g.atom (p 6 6 14 15) (g.implied k.Quasi)) (g.part (g.list (p 7 13 15 30) (g.part (g.atom (p 8 8 16 17) (g.spelled (k.Name (codes "a") false))) (g.part (g.list (p 9 12 18 29) (g.part (g.atom (p 10 10 19 26) (g.spelled (k.Name (codes "unquote") false))) (g.part (g.atom (p 11 11 27 28) (g.spelled (k.Name (codes "a") false))) g.none))) g.none))) g.none))) g.none))))) ∷ []) ((s 0 1) ∷ (s 1 7) ∷ (s 8 9) ∷ (s 9 10) ∷ (s 11 12) ∷ (s 12 13) ∷ (s 14 15) ∷ (s 15 16) ∷ (s 16 17) ∷ (s 18 19) ∷ (s 19 26) ∷ (s 27 28) ∷ (s 28 29) ∷ (s 29 30) ∷ (s 30 31) ∷ [])) ∷ []) (Some (codes "z")) (((40 ∷ 100 ∷ 101 ∷ 102 ∷ 105 ∷ 110 ∷ 101 ∷ 32 ∷ 40 ∷ 102 ∷ 32 ∷ 97 ∷ 41 ∷ 32 ∷ 96 ∷ 40 ∷ 97 ∷ 32 ∷ 40 ∷ 117 ∷ 110 ∷ 113 ∷ 117 ∷ 111 ∷ 116 ∷ 101 ∷ 32 ∷ 97 ∷ 41 ∷ 41 ∷ 41 ∷ [])) ∷ []) 0 19 (codes "z") ≡ w.NotBound
unfolding base_names standard_libraries prelude encode_utf8 chars spelled is_numeral is_identifier is_initial is_subsequent
mark-of-quasiquote = refl

pub standard-hidden : rename_rows (((40 ∷ 100 ∷ 101 ∷ 102 ∷ 105 ∷ 110 ∷ 101 ∷ 32 ∷ 40 ∷ 102 ∷ 32 ∷ 120 ∷ 41 ∷ 32 ∷ 40 ∷ 108 ∷ 105 ∷ 115 ∷ 116 ∷ 32 ∷ 120 ∷ 41 ∷ 41 ∷ 10 ∷ 40 ∷ 102 ∷ 32 ∷ 49 ∷ 41 ∷ []), r (((g.list (p 0 10 0 23) (g.part (g.atom (p 1 1 1 7) (g.spelled (k.Name (codes "define") false))) (g.part (g.list (p 2 5 8 13) (g.part (g.atom (p 3 3 9 10) (g.spelled (k.Name (codes "f") false))) (g.part (g.atom (p 4 4 11 12) (g.spelled (k.Name (codes "x") false))) g.none))) (g.part (g.list (p 6 9 14 22) (g.part (g.atom (p 7 7 15 19) (g.spelled (k.Name (codes "list") false))) (g.part (g.atom (p 8 8 20 21) (g.spelled (k.Name (codes "x") false))) g.none))) g.none))))) ∷ ((g.list (p 11 14 24 29) (g.part (g.atom (p 12 12 25 26) (g.spelled (k.Name (codes "f") false))) (g.part (g.atom (p 13 13 27 28) (g.spelled (k.Numeral (codes "1")))) g.none)))) ∷ []) ((s 0 1) ∷ (s 1 7) ∷ (s 8 9) ∷ (s 9 10) ∷ (s 11 12) ∷ (s 12 13) ∷ (s 14 15) ∷ (s 15 19) ∷ (s 20 21) ∷ (s 21 22) ∷ (s 22 23) ∷ (s 24 25) ∷ (s 25 26) ∷ (s 27 28) ∷ (s 28 29) ∷ [])) ∷ []) (Some (codes "list")) (((40 ∷ 100 ∷ 101 ∷ 102 ∷ 105 ∷ 110 ∷ 101 ∷ 32 ∷ 40 ∷ 102 ∷ 32 ∷ 120 ∷ 41 ∷ 32 ∷ 40 ∷ 108 ∷ 105 ∷ 115 ∷ 116 ∷ 32 ∷ 120 ∷ 41 ∷ 41 ∷ 10 ∷ 40 ∷ 102 ∷ 32 ∷ 49 ∷ 41 ∷ [])) ∷ []) 0 9 (codes "list") ≡ w.Differs d.IsShadowed 0 15 (w.Standard (codes "list")) (w.Binder 0 9)
unfolding base_names standard_libraries prelude encode_utf8 chars spelled is_numeral is_identifier is_initial is_subsequent
standard-hidden = refl

pub acting-ellipsis : rename_rows (((codes "(define-syntax m (syntax-rules () ((_ a ...) (list a ...))))"), r (((g.list (p 0 20 0 60) (g.part (g.atom (p 1 1 1 14) (g.spelled (k.Name (codes "define-syntax") false))) (g.part (g.atom (p 2 2 15 16) (g.spelled (k.Name (codes "m") false))) (g.part (g.list (p 3 19 17 59) (g.part (g.atom (p 4 4 18 30) (g.spelled (k.Name (codes "syntax-rules") false))) (g.part (g.list (p 5 6 31 33) g.none) (g.part (g.list (p 7 18 34 58) (g.part (g.list (p 8 12 35 44) (g.part (g.atom (p 9 9 36 37) (g.spelled (k.Name (codes "_") false))) (g.part (g.atom (p 10 10 38 39) (g.spelled (k.Name (codes "a") false))) (g.part (g.atom (p 11 11 40 43) (g.spelled (k.Name (codes "...") false))) g.none)))) (g.part (g.list (p 13 17 45 57) (g.part (g.atom (p 14 14 46 50) (g.spelled (k.Name (codes "list") false))) (g.part (g.atom (p 15 15 51 52) (g.spelled (k.Name (codes "a") false))) (g.part (g.atom (p 16 16 53 56) (g.spelled (k.Name (codes "...") false))) g.none)))) g.none))) g.none)))) g.none))))) ∷ []) ((s 0 1) ∷ (s 1 14) ∷ (s 15 16) ∷ (s 17 18) ∷ (s 18 30) ∷ (s 31 32) ∷ (s 32 33) ∷ (s 34 35) ∷ (s 35 36) ∷ (s 36 37) ∷ (s 38 39) ∷ (s 40 43) ∷ (s 43 44) ∷ (s 45 46) ∷ (s 46 50) ∷ (s 51 52) ∷ (s 53 56) ∷ (s 56 57) ∷ (s 57 58) ∷ (s 58 59) ∷ (s 59 60) ∷ [])) ∷ []) (Some (codes "z")) (((codes "(define-syntax m (syntax-rules () ((_ a ...) (list a ...))))")) ∷ []) 0 53 (codes "z") ≡ w.NotBound
unfolding base_names standard_libraries prelude encode_utf8 chars spelled is_numeral is_identifier is_initial is_subsequent
acting-ellipsis = refl

pub record-field : rename_rows (((codes "(define-record-type point (make x y) point? (x px) (y py))"), r (((g.list (p 0 17 0 58) (g.part (g.atom (p 1 1 1 19) (g.spelled (k.Name (codes "define-record-type") false))) (g.part (g.atom (p 2 2 20 25) (g.spelled (k.Name (codes "point") false))) (g.part (g.list (p 3 7 26 36) (g.part (g.atom (p 4 4 27 31) (g.spelled (k.Name (codes "make") false))) (g.part (g.atom (p 5 5 32 33) (g.spelled (k.Name (codes "x") false))) (g.part (g.atom (p 6 6 34 35) (g.spelled (k.Name (codes "y") false))) g.none)))) (g.part (g.atom (p 8 8 37 43) (g.spelled (k.Name (codes "point?") false))) (g.part (g.list (p 9 12 44 50) (g.part (g.atom (p 10 10 45 46) (g.spelled (k.Name (codes "x") false))) (g.part (g.atom (p 11 11 47 49) (g.spelled (k.Name (codes "px") false))) g.none))) (g.part (g.list (p 13 16 51 57) (g.part (g.atom (p 14 14 52 53) (g.spelled (k.Name (codes "y") false))) (g.part (g.atom (p 15 15 54 56) (g.spelled (k.Name (codes "py") false))) g.none))) g.none)))))))) ∷ []) ((s 0 1) ∷ (s 1 19) ∷ (s 20 25) ∷ (s 26 27) ∷ (s 27 31) ∷ (s 32 33) ∷ (s 34 35) ∷ (s 35 36) ∷ (s 37 43) ∷ (s 44 45) ∷ (s 45 46) ∷ (s 47 49) ∷ (s 49 50) ∷ (s 51 52) ∷ (s 52 53) ∷ (s 54 56) ∷ (s 56 57) ∷ (s 57 58) ∷ [])) ∷ []) (Some (codes "z")) (((codes "(define-record-type point (make x y) point? (x px) (y py))")) ∷ []) 0 45 (codes "z") ≡ w.Edits ((es 0 ((e 32 33 (codes "z")) ∷ (e 45 46 (codes "z")) ∷ [])) ∷ [])
unfolding base_names standard_libraries prelude encode_utf8 chars spelled is_numeral is_identifier is_initial is_subsequent
record-field = refl

pub renamed-import : rename_rows (((codes "(import (scheme base) (rename (stack) (push add))) (add 1 '())"), r (((g.list (p 0 16 0 50) (g.part (g.atom (p 1 1 1 7) (g.spelled (k.Name (codes "import") false))) (g.part (g.list (p 2 5 8 21) (g.part (g.atom (p 3 3 9 15) (g.spelled (k.Name (codes "scheme") false))) (g.part (g.atom (p 4 4 16 20) (g.spelled (k.Name (codes "base") false))) g.none))) (g.part (g.list (p 6 15 22 49) (g.part (g.atom (p 7 7 23 29) (g.spelled (k.Name (codes "rename") false))) (g.part (g.list (p 8 10 30 37) (g.part (g.atom (p 9 9 31 36) (g.spelled (k.Name (codes "stack") false))) g.none)) (g.part (g.list (p 11 14 38 48) (g.part (g.atom (p 12 12 39 43) (g.spelled (k.Name (codes "push") false))) (g.part (g.atom (p 13 13 44 47) (g.spelled (k.Name (codes "add") false))) g.none))) g.none)))) g.none))))) ∷ ((g.list (p 17 23 51 62) (g.part (g.atom (p 18 18 52 55) (g.spelled (k.Name (codes "add") false))) (g.part (g.atom (p 19 19 56 57) (g.spelled (k.Numeral (codes "1")))) (g.part (g.list (p 20 22 58 61) (g.part (g.atom (p 20 20 58 59) (g.implied k.Quote)) (g.part (g.list (p 21 22 59 61) g.none) g.none))) g.none))))) ∷ []) ((s 0 1) ∷ (s 1 7) ∷ (s 8 9) ∷ (s 9 15) ∷ (s 16 20) ∷ (s 20 21) ∷ (s 22 23) ∷ (s 23 29) ∷ (s 30 31) ∷ (s 31 36) ∷ (s 36 37) ∷ (s 38 39) ∷ (s 39 43) ∷ (s 44 47) ∷ (s 47 48) ∷ (s 48 49) ∷ (s 49 50) ∷ (s 51 52) ∷ (s 52 55) ∷ (s 56 57) ∷ (s 58 59) ∷ (s 59 60) ∷ (s 60 61) ∷ (s 61 62) ∷ [])) ∷ ((codes "(define-library (stack) (export push) (import (scheme base)) (begin (define (push x s) (cons x s))))"), r (((g.list (p 0 32 0 100) (g.part (g.atom (p 1 1 1 15) (g.spelled (k.Name (codes "define-library") false))) (g.part (g.list (p 2 4 16 23) (g.part (g.atom (p 3 3 17 22) (g.spelled (k.Name (codes "stack") false))) g.none)) (g.part (g.list (p 5 8 24 37) (g.part (g.atom (p 6 6 25 31) (g.spelled (k.Name (codes "export") false))) (g.part (g.atom (p 7 7 32 36) (g.spelled (k.Name (codes "push") false))) g.none))) (g.part (g.list (p 9 15 38 60) (g.part (g.atom (p 10 10 39 45) (g.spelled (k.Name (codes "import") false))) (g.part (g.list (p 11 14 46 59) (g.part (g.atom (p 12 12 47 53) (g.spelled (k.Name (codes "scheme") false))) (g.part (g.atom (p 13 13 54 58) (g.spelled (k.Name (codes "base") false))) g.none))) g.none))) (g.part (g.list (p 16 31 61 99) (g.part (g.atom (p 17 17 62 67) (g.spelled (k.Name (codes "begin") false))) (g.part (g.list (p 18 30 68 98) (g.part (g.atom (p 19 19 69 75) (g.spelled (k.Name (codes "define") false))) (g.part (g.list (p 20 24 76 86) (g.part (g.atom (p 21 21 77 81) (g.spelled (k.Name (codes "push") false))) (g.part (g.atom (p 22 22 82 83) (g.spelled (k.Name (codes "x") false))) (g.part (g.atom (p 23 23 84 85) (g.spelled (k.Name (codes "s") false))) g.none)))) (g.part (g.list (p 25 29 87 97) (g.part (g.atom (p 26 26 88 92) (g.spelled (k.Name (codes "cons") false))) (g.part (g.atom (p 27 27 93 94) (g.spelled (k.Name (codes "x") false))) (g.part (g.atom (p 28 28 95 96) (g.spelled (k.Name (codes "s") false))) g.none)))) g.none)))) g.none))) g.none))))))) ∷ []) ((s 0 1) ∷ (s 1 15) ∷ (s 16 17) ∷ (s 17 22) ∷ (s 22 23) ∷ (s 24 25) ∷ (s 25 31) ∷ (s 32 36) ∷ (s 36 37) ∷ (s 38 39) ∷ (s 39 45) ∷ (s 46 47) ∷ (s 47 53) ∷ (s 54 58) ∷ (s 58 59) ∷ (s 59 60) ∷ (s 61 62) ∷ (s 62 67) ∷ (s 68 69) ∷ (s 69 75) ∷ (s 76 77) ∷ (s 77 81) ∷ (s 82 83) ∷ (s 84 85) ∷ (s 85 86) ∷ (s 87 88) ∷ (s 88 92) ∷ (s 93 94) ∷ (s 95 96) ∷ (s 96 97) ∷ (s 97 98) ∷ (s 98 99) ∷ (s 99 100) ∷ [])) ∷ []) (Some (codes "plus")) (((codes "(import (scheme base) (rename (stack) (push add))) (add 1 '())")) ∷ ((codes "(define-library (stack) (export push) (import (scheme base)) (begin (define (push x s) (cons x s))))")) ∷ []) 0 52 (codes "plus") ≡ w.Edits ((es 0 ((e 44 47 (codes "plus")) ∷ (e 52 55 (codes "plus")) ∷ [])) ∷ [])
unfolding base_names standard_libraries prelude encode_utf8 chars spelled is_numeral is_identifier is_initial is_subsequent
renamed-import = refl

pub quoted : rename_rows (((40 ∷ 100 ∷ 101 ∷ 102 ∷ 105 ∷ 110 ∷ 101 ∷ 45 ∷ 115 ∷ 121 ∷ 110 ∷ 116 ∷ 97 ∷ 120 ∷ 32 ∷ 110 ∷ 97 ∷ 109 ∷ 101 ∷ 100 ∷ 32 ∷ 40 ∷ 115 ∷ 121 ∷ 110 ∷ 116 ∷ 97 ∷ 120 ∷ 45 ∷ 114 ∷ 117 ∷ 108 ∷ 101 ∷ 115 ∷ 32 ∷ 40 ∷ 41 ∷ 32 ∷ 40 ∷ 40 ∷ 95 ∷ 32 ∷ 120 ∷ 32 ∷ 101 ∷ 41 ∷ 32 ∷ 40 ∷ 100 ∷ 101 ∷ 102 ∷ 105 ∷ 110 ∷ 101 ∷ 32 ∷ 120 ∷ 32 ∷ 40 ∷ 119 ∷ 114 ∷ 97 ∷ 112 ∷ 32 ∷ 39 ∷ 120 ∷ 32 ∷ 101 ∷ 41 ∷ 41 ∷ 41 ∷ 41 ∷ 41 ∷ 10 ∷ 40 ∷ 100 ∷ 101 ∷ 102 ∷ 105 ∷ 110 ∷ 101 ∷ 32 ∷ 40 ∷ 119 ∷ 114 ∷ 97 ∷ 112 ∷ 32 ∷ 110 ∷ 32 ∷ 118 ∷ 41 ∷ 32 ∷ 118 ∷ 41 ∷ 10 ∷ 40 ∷ 110 ∷ 97 ∷ 109 ∷ 101 ∷ 100 ∷ 32 ∷ 97 ∷ 108 ∷ 112 ∷ 104 ∷ 97 ∷ 32 ∷ 49 ∷ 41 ∷ []), r (((g.list (p 0 25 0 72) (g.part (g.atom (p 1 1 1 14) (g.spelled (k.Name (codes "define-syntax") false))) (g.part (g.atom (p 2 2 15 20) (g.spelled (k.Name (codes "named") false))) (g.part (g.list (p 3 24 21 71) (g.part (g.atom (p 4 4 22 34) (g.spelled (k.Name (codes "syntax-rules") false))) (g.part (g.list (p 5 6 35 37) g.none) (g.part (g.list (p 7 23 38 70) (g.part (g.list (p 8 12 39 46) (g.part (g.atom (p 9 9 40 41) (g.spelled (k.Name (codes "_") false))) (g.part (g.atom (p 10 10 42 43) (g.spelled (k.Name (codes "x") false))) (g.part (g.atom (p 11 11 44 45) (g.spelled (k.Name (codes "e") false))) g.none)))) (g.part (g.list (p 13 22 47 69) (g.part (g.atom (p 14 14 48 54) (g.spelled (k.Name (codes "define") false))) (g.part (g.atom (p 15 15 55 56) (g.spelled (k.Name (codes "x") false))) (g.part (g.list (p 16 21 57 68) (g.part (g.atom (p 17 17 58 62) (g.spelled (k.Name (codes "wrap") false))) (g.part (g.list (p 18 19 63 65) (g.part (g.atom (p 18 18 63 64) (g.implied k.Quote)) (g.part (g.atom (p 19 19 64 65) (g.spelled (k.Name (codes "x") false))) g.none))) (g.part (g.atom (p 20 20 66 67) (g.spelled (k.Name (codes "e") false))) g.none)))) g.none)))) g.none))) g.none)))) g.none))))) ∷ ((g.list (p 26 34 73 94) (g.part (g.atom (p 27 27 74 80) (g.spelled (k.Name (codes "define") false))) (g.part (g.list (p 28 32 81 91) (g.part (g.atom (p 29 29 82 86) (g.spelled (k.Name (codes "wrap") false))) (g.part (g.atom (p 30 30 87 88) (g.spelled (k.Name (codes "n") false))) (g.part (g.atom (p 31 31 89 90) (g.spelled (k.Name (codes "v") false))) g.none)))) (g.part (g.atom (p 33 33 92 93) (g.spelled (k.Name (codes "v") false))) g.none))))) ∷ ((g.list (p 35 39 95 110) (g.part (g.atom (p 36 36 96 101) (g.spelled (k.Name (codes "named") false))) (g.part (g.atom (p 37 37 102 107) (g.spelled (k.Name (codes "alpha") false))) (g.part (g.atom (p 38 38 108 109) (g.spelled (k.Numeral (codes "1")))) g.none))))) ∷ []) ((s 0 1) ∷ (s 1 14) ∷ (s 15 20) ∷ (s 21 22) ∷ (s 22 34) ∷ (s 35 36) ∷ (s 36 37) ∷ (s 38 39) ∷ (s 39 40) ∷ (s 40 41) ∷ (s 42 43) ∷ (s 44 45) ∷ (s 45 46) ∷ (s 47 48) ∷ (s 48 54) ∷ (s 55 56) ∷ (s 57 58) ∷ (s 58 62) ∷ (s 63 64) ∷ (s 64 65) ∷ (s 66 67) ∷ (s 67 68) ∷ (s 68 69) ∷ (s 69 70) ∷ (s 70 71) ∷ (s 71 72) ∷ (s 73 74) ∷ (s 74 80) ∷ (s 81 82) ∷ (s 82 86) ∷ (s 87 88) ∷ (s 89 90) ∷ (s 90 91) ∷ (s 92 93) ∷ (s 93 94) ∷ (s 95 96) ∷ (s 96 101) ∷ (s 102 107) ∷ (s 108 109) ∷ (s 109 110) ∷ [])) ∷ []) (Some (codes "beta")) (((40 ∷ 100 ∷ 101 ∷ 102 ∷ 105 ∷ 110 ∷ 101 ∷ 45 ∷ 115 ∷ 121 ∷ 110 ∷ 116 ∷ 97 ∷ 120 ∷ 32 ∷ 110 ∷ 97 ∷ 109 ∷ 101 ∷ 100 ∷ 32 ∷ 40 ∷ 115 ∷ 121 ∷ 110 ∷ 116 ∷ 97 ∷ 120 ∷ 45 ∷ 114 ∷ 117 ∷ 108 ∷ 101 ∷ 115 ∷ 32 ∷ 40 ∷ 41 ∷ 32 ∷ 40 ∷ 40 ∷ 95 ∷ 32 ∷ 120 ∷ 32 ∷ 101 ∷ 41 ∷ 32 ∷ 40 ∷ 100 ∷ 101 ∷ 102 ∷ 105 ∷ 110 ∷ 101 ∷ 32 ∷ 120 ∷ 32 ∷ 40 ∷ 119 ∷ 114 ∷ 97 ∷ 112 ∷ 32 ∷ 39 ∷ 120 ∷ 32 ∷ 101 ∷ 41 ∷ 41 ∷ 41 ∷ 41 ∷ 41 ∷ 10 ∷ 40 ∷ 100 ∷ 101 ∷ 102 ∷ 105 ∷ 110 ∷ 101 ∷ 32 ∷ 40 ∷ 119 ∷ 114 ∷ 97 ∷ 112 ∷ 32 ∷ 110 ∷ 32 ∷ 118 ∷ 41 ∷ 32 ∷ 118 ∷ 41 ∷ 10 ∷ 40 ∷ 110 ∷ 97 ∷ 109 ∷ 101 ∷ 100 ∷ 32 ∷ 97 ∷ 108 ∷ 112 ∷ 104 ∷ 97 ∷ 32 ∷ 49 ∷ 41 ∷ [])) ∷ []) 0 102 (codes "beta") ≡ w.Differs d.IsQuoted 0 102 (w.Symbol (codes "alpha")) (w.Symbol (codes "beta"))
unfolding base_names standard_libraries prelude encode_utf8 chars spelled is_numeral is_identifier is_initial is_subsequent
quoted = refl

pub circle-in-reach : rename_rows (((codes "(define-library (a) (export f) (import (scheme base)) (begin (define (f x) x)))"), r (((g.list (p 0 27 0 79) (g.part (g.atom (p 1 1 1 15) (g.spelled (k.Name (codes "define-library") false))) (g.part (g.list (p 2 4 16 19) (g.part (g.atom (p 3 3 17 18) (g.spelled (k.Name (codes "a") false))) g.none)) (g.part (g.list (p 5 8 20 30) (g.part (g.atom (p 6 6 21 27) (g.spelled (k.Name (codes "export") false))) (g.part (g.atom (p 7 7 28 29) (g.spelled (k.Name (codes "f") false))) g.none))) (g.part (g.list (p 9 15 31 53) (g.part (g.atom (p 10 10 32 38) (g.spelled (k.Name (codes "import") false))) (g.part (g.list (p 11 14 39 52) (g.part (g.atom (p 12 12 40 46) (g.spelled (k.Name (codes "scheme") false))) (g.part (g.atom (p 13 13 47 51) (g.spelled (k.Name (codes "base") false))) g.none))) g.none))) (g.part (g.list (p 16 26 54 78) (g.part (g.atom (p 17 17 55 60) (g.spelled (k.Name (codes "begin") false))) (g.part (g.list (p 18 25 61 77) (g.part (g.atom (p 19 19 62 68) (g.spelled (k.Name (codes "define") false))) (g.part (g.list (p 20 23 69 74) (g.part (g.atom (p 21 21 70 71) (g.spelled (k.Name (codes "f") false))) (g.part (g.atom (p 22 22 72 73) (g.spelled (k.Name (codes "x") false))) g.none))) (g.part (g.atom (p 24 24 75 76) (g.spelled (k.Name (codes "x") false))) g.none)))) g.none))) g.none))))))) ∷ []) ((s 0 1) ∷ (s 1 15) ∷ (s 16 17) ∷ (s 17 18) ∷ (s 18 19) ∷ (s 20 21) ∷ (s 21 27) ∷ (s 28 29) ∷ (s 29 30) ∷ (s 31 32) ∷ (s 32 38) ∷ (s 39 40) ∷ (s 40 46) ∷ (s 47 51) ∷ (s 51 52) ∷ (s 52 53) ∷ (s 54 55) ∷ (s 55 60) ∷ (s 61 62) ∷ (s 62 68) ∷ (s 69 70) ∷ (s 70 71) ∷ (s 72 73) ∷ (s 73 74) ∷ (s 75 76) ∷ (s 76 77) ∷ (s 77 78) ∷ (s 78 79) ∷ [])) ∷ ((codes "(define-library (b) (export) (import (a) (c)) (begin))"), r (((g.list (p 0 20 0 54) (g.part (g.atom (p 1 1 1 15) (g.spelled (k.Name (codes "define-library") false))) (g.part (g.list (p 2 4 16 19) (g.part (g.atom (p 3 3 17 18) (g.spelled (k.Name (codes "b") false))) g.none)) (g.part (g.list (p 5 7 20 28) (g.part (g.atom (p 6 6 21 27) (g.spelled (k.Name (codes "export") false))) g.none)) (g.part (g.list (p 8 16 29 45) (g.part (g.atom (p 9 9 30 36) (g.spelled (k.Name (codes "import") false))) (g.part (g.list (p 10 12 37 40) (g.part (g.atom (p 11 11 38 39) (g.spelled (k.Name (codes "a") false))) g.none)) (g.part (g.list (p 13 15 41 44) (g.part (g.atom (p 14 14 42 43) (g.spelled (k.Name (codes "c") false))) g.none)) g.none)))) (g.part (g.list (p 17 19 46 53) (g.part (g.atom (p 18 18 47 52) (g.spelled (k.Name (codes "begin") false))) g.none)) g.none))))))) ∷ []) ((s 0 1) ∷ (s 1 15) ∷ (s 16 17) ∷ (s 17 18) ∷ (s 18 19) ∷ (s 20 21) ∷ (s 21 27) ∷ (s 27 28) ∷ (s 29 30) ∷ (s 30 36) ∷ (s 37 38) ∷ (s 38 39) ∷ (s 39 40) ∷ (s 41 42) ∷ (s 42 43) ∷ (s 43 44) ∷ (s 44 45) ∷ (s 46 47) ∷ (s 47 52) ∷ (s 52 53) ∷ (s 53 54) ∷ [])) ∷ ((codes "(define-library (c) (export) (import (b)) (begin))"), r (((g.list (p 0 17 0 50) (g.part (g.atom (p 1 1 1 15) (g.spelled (k.Name (codes "define-library") false))) (g.part (g.list (p 2 4 16 19) (g.part (g.atom (p 3 3 17 18) (g.spelled (k.Name (codes "c") false))) g.none)) (g.part (g.list (p 5 7 20 28) (g.part (g.atom (p 6 6 21 27) (g.spelled (k.Name (codes "export") false))) g.none)) (g.part (g.list (p 8 13 29 41) (g.part (g.atom (p 9 9 30 36) (g.spelled (k.Name (codes "import") false))) (g.part (g.list (p 10 12 37 40) (g.part (g.atom (p 11 11 38 39) (g.spelled (k.Name (codes "b") false))) g.none)) g.none))) (g.part (g.list (p 14 16 42 49) (g.part (g.atom (p 15 15 43 48) (g.spelled (k.Name (codes "begin") false))) g.none)) g.none))))))) ∷ []) ((s 0 1) ∷ (s 1 15) ∷ (s 16 17) ∷ (s 17 18) ∷ (s 18 19) ∷ (s 20 21) ∷ (s 21 27) ∷ (s 27 28) ∷ (s 29 30) ∷ (s 30 36) ∷ (s 37 38) ∷ (s 38 39) ∷ (s 39 40) ∷ (s 40 41) ∷ (s 42 43) ∷ (s 43 48) ∷ (s 48 49) ∷ (s 49 50) ∷ [])) ∷ []) (Some (codes "g")) (((codes "(define-library (a) (export f) (import (scheme base)) (begin (define (f x) x)))")) ∷ ((codes "(define-library (b) (export) (import (a) (c)) (begin))")) ∷ ((codes "(define-library (c) (export) (import (b)) (begin))")) ∷ []) 0 70 (codes "g") ≡ w.BrokenUnit 1 0 62
unfolding base_names standard_libraries prelude encode_utf8 chars spelled is_numeral is_identifier is_initial is_subsequent
circle-in-reach = refl

pub duplicate-definition : rename_rows (((codes "(define-library (l) (export) (import (scheme base)) (begin (define a 1) (define b a)))"), r (((g.list (p 0 28 0 86) (g.part (g.atom (p 1 1 1 15) (g.spelled (k.Name (codes "define-library") false))) (g.part (g.list (p 2 4 16 19) (g.part (g.atom (p 3 3 17 18) (g.spelled (k.Name (codes "l") false))) g.none)) (g.part (g.list (p 5 7 20 28) (g.part (g.atom (p 6 6 21 27) (g.spelled (k.Name (codes "export") false))) g.none)) (g.part (g.list (p 8 14 29 51) (g.part (g.atom (p 9 9 30 36) (g.spelled (k.Name (codes "import") false))) (g.part (g.list (p 10 13 37 50) (g.part (g.atom (p 11 11 38 44) (g.spelled (k.Name (codes "scheme") false))) (g.part (g.atom (p 12 12 45 49) (g.spelled (k.Name (codes "base") false))) g.none))) g.none))) (g.part (g.list (p 15 27 52 85) (g.part (g.atom (p 16 16 53 58) (g.spelled (k.Name (codes "begin") false))) (g.part (g.list (p 17 21 59 71) (g.part (g.atom (p 18 18 60 66) (g.spelled (k.Name (codes "define") false))) (g.part (g.atom (p 19 19 67 68) (g.spelled (k.Name (codes "a") false))) (g.part (g.atom (p 20 20 69 70) (g.spelled (k.Numeral (codes "1")))) g.none)))) (g.part (g.list (p 22 26 72 84) (g.part (g.atom (p 23 23 73 79) (g.spelled (k.Name (codes "define") false))) (g.part (g.atom (p 24 24 80 81) (g.spelled (k.Name (codes "b") false))) (g.part (g.atom (p 25 25 82 83) (g.spelled (k.Name (codes "a") false))) g.none)))) g.none)))) g.none))))))) ∷ []) ((s 0 1) ∷ (s 1 15) ∷ (s 16 17) ∷ (s 17 18) ∷ (s 18 19) ∷ (s 20 21) ∷ (s 21 27) ∷ (s 27 28) ∷ (s 29 30) ∷ (s 30 36) ∷ (s 37 38) ∷ (s 38 44) ∷ (s 45 49) ∷ (s 49 50) ∷ (s 50 51) ∷ (s 52 53) ∷ (s 53 58) ∷ (s 59 60) ∷ (s 60 66) ∷ (s 67 68) ∷ (s 69 70) ∷ (s 70 71) ∷ (s 72 73) ∷ (s 73 79) ∷ (s 80 81) ∷ (s 82 83) ∷ (s 83 84) ∷ (s 84 85) ∷ (s 85 86) ∷ [])) ∷ []) (Some (codes "b")) (((codes "(define-library (l) (export) (import (scheme base)) (begin (define a 1) (define b a)))")) ∷ []) 0 67 (codes "b") ≡ w.Differs d.IsBroken 0 72 w.Nothing w.Nothing
unfolding base_names standard_libraries prelude encode_utf8 chars spelled is_numeral is_identifier is_initial is_subsequent
duplicate-definition = refl

pub first-error-by-start : rename_rows (((40 ∷ 100 ∷ 101 ∷ 102 ∷ 105 ∷ 110 ∷ 101 ∷ 32 ∷ 120 ∷ 32 ∷ 49 ∷ 41 ∷ 10 ∷ 40 ∷ 105 ∷ 102 ∷ 41 ∷ 10 ∷ 40 ∷ 108 ∷ 101 ∷ 116 ∷ 32 ∷ 40 ∷ 40 ∷ 97 ∷ 41 ∷ 41 ∷ 32 ∷ 97 ∷ 41 ∷ 10 ∷ 40 ∷ 100 ∷ 101 ∷ 102 ∷ 105 ∷ 110 ∷ 101 ∷ 45 ∷ 118 ∷ 97 ∷ 108 ∷ 117 ∷ 101 ∷ 115 ∷ 32 ∷ 40 ∷ 98 ∷ 32 ∷ 98 ∷ 41 ∷ 32 ∷ 120 ∷ 41 ∷ []), r (((g.list (p 0 4 0 12) (g.part (g.atom (p 1 1 1 7) (g.spelled (k.Name (codes "define") false))) (g.part (g.atom (p 2 2 8 9) (g.spelled (k.Name (codes "x") false))) (g.part (g.atom (p 3 3 10 11) (g.spelled (k.Numeral (codes "1")))) g.none))))) ∷ ((g.list (p 5 7 13 17) (g.part (g.atom (p 6 6 14 16) (g.spelled (k.Name (codes "if") false))) g.none))) ∷ ((g.list (p 8 16 18 31) (g.part (g.atom (p 9 9 19 22) (g.spelled (k.Name (codes "let") false))) (g.part (g.list (p 10 14 23 28) (g.part (g.list (p 11 13 24 27) (g.part (g.atom (p 12 12 25 26) (g.spelled (k.Name (codes "a") false))) g.none)) g.none)) (g.part (g.atom (p 15 15 29 30) (g.spelled (k.Name (codes "a") false))) g.none))))) ∷ ((g.list (p 17 24 32 55) (g.part (g.atom (p 18 18 33 46) (g.spelled (k.Name (codes "define-values") false))) (g.part (g.list (p 19 22 47 52) (g.part (g.atom (p 20 20 48 49) (g.spelled (k.Name (codes "b") false))) (g.part (g.atom (p 21 21 50 51) (g.spelled (k.Name (codes "b") false))) g.none))) (g.part (g.atom (p 23 23 53 54) (g.spelled (k.Name (codes "x") false))) g.none))))) ∷ []) ((s 0 1) ∷ (s 1 7) ∷ (s 8 9) ∷ (s 10 11) ∷ (s 11 12) ∷ (s 13 14) ∷ (s 14 16) ∷ (s 16 17) ∷ (s 18 19) ∷ (s 19 22) ∷ (s 23 24) ∷ (s 24 25) ∷ (s 25 26) ∷ (s 26 27) ∷ (s 27 28) ∷ (s 29 30) ∷ (s 30 31) ∷ (s 32 33) ∷ (s 33 46) ∷ (s 47 48) ∷ (s 48 49) ∷ (s 50 51) ∷ (s 51 52) ∷ (s 53 54) ∷ (s 54 55) ∷ [])) ∷ []) (Some (codes "y")) (((40 ∷ 100 ∷ 101 ∷ 102 ∷ 105 ∷ 110 ∷ 101 ∷ 32 ∷ 120 ∷ 32 ∷ 49 ∷ 41 ∷ 10 ∷ 40 ∷ 105 ∷ 102 ∷ 41 ∷ 10 ∷ 40 ∷ 108 ∷ 101 ∷ 116 ∷ 32 ∷ 40 ∷ 40 ∷ 97 ∷ 41 ∷ 41 ∷ 32 ∷ 97 ∷ 41 ∷ 10 ∷ 40 ∷ 100 ∷ 101 ∷ 102 ∷ 105 ∷ 110 ∷ 101 ∷ 45 ∷ 118 ∷ 97 ∷ 108 ∷ 117 ∷ 101 ∷ 115 ∷ 32 ∷ 40 ∷ 98 ∷ 32 ∷ 98 ∷ 41 ∷ 32 ∷ 120 ∷ 41 ∷ [])) ∷ []) 0 8 (codes "y") ≡ w.BrokenUnit 0 13 31
unfolding base_names standard_libraries prelude encode_utf8 chars spelled is_numeral is_identifier is_initial is_subsequent
first-error-by-start = refl

pub three-libraries-outer-name : rename_rows (((codes "(define-library (a) (export f) (import (scheme base)) (begin (define (f x) x)))"), r (((g.list (p 0 27 0 79) (g.part (g.atom (p 1 1 1 15) (g.spelled (k.Name (codes "define-library") false))) (g.part (g.list (p 2 4 16 19) (g.part (g.atom (p 3 3 17 18) (g.spelled (k.Name (codes "a") false))) g.none)) (g.part (g.list (p 5 8 20 30) (g.part (g.atom (p 6 6 21 27) (g.spelled (k.Name (codes "export") false))) (g.part (g.atom (p 7 7 28 29) (g.spelled (k.Name (codes "f") false))) g.none))) (g.part (g.list (p 9 15 31 53) (g.part (g.atom (p 10 10 32 38) (g.spelled (k.Name (codes "import") false))) (g.part (g.list (p 11 14 39 52) (g.part (g.atom (p 12 12 40 46) (g.spelled (k.Name (codes "scheme") false))) (g.part (g.atom (p 13 13 47 51) (g.spelled (k.Name (codes "base") false))) g.none))) g.none))) (g.part (g.list (p 16 26 54 78) (g.part (g.atom (p 17 17 55 60) (g.spelled (k.Name (codes "begin") false))) (g.part (g.list (p 18 25 61 77) (g.part (g.atom (p 19 19 62 68) (g.spelled (k.Name (codes "define") false))) (g.part (g.list (p 20 23 69 74) (g.part (g.atom (p 21 21 70 71) (g.spelled (k.Name (codes "f") false))) (g.part (g.atom (p 22 22 72 73) (g.spelled (k.Name (codes "x") false))) g.none))) (g.part (g.atom (p 24 24 75 76) (g.spelled (k.Name (codes "x") false))) g.none)))) g.none))) g.none))))))) ∷ []) ((s 0 1) ∷ (s 1 15) ∷ (s 16 17) ∷ (s 17 18) ∷ (s 18 19) ∷ (s 20 21) ∷ (s 21 27) ∷ (s 28 29) ∷ (s 29 30) ∷ (s 31 32) ∷ (s 32 38) ∷ (s 39 40) ∷ (s 40 46) ∷ (s 47 51) ∷ (s 51 52) ∷ (s 52 53) ∷ (s 54 55) ∷ (s 55 60) ∷ (s 61 62) ∷ (s 62 68) ∷ (s 69 70) ∷ (s 70 71) ∷ (s 72 73) ∷ (s 73 74) ∷ (s 75 76) ∷ (s 76 77) ∷ (s 77 78) ∷ (s 78 79) ∷ [])) ∷ ((codes "(define-library (b) (export (rename p:f q)) (import (scheme base) (prefix (a) p:)) (begin (define (h) (p:f 1))))"), r (((g.list (p 0 40 0 112) (g.part (g.atom (p 1 1 1 15) (g.spelled (k.Name (codes "define-library") false))) (g.part (g.list (p 2 4 16 19) (g.part (g.atom (p 3 3 17 18) (g.spelled (k.Name (codes "b") false))) g.none)) (g.part (g.list (p 5 12 20 43) (g.part (g.atom (p 6 6 21 27) (g.spelled (k.Name (codes "export") false))) (g.part (g.list (p 7 11 28 42) (g.part (g.atom (p 8 8 29 35) (g.spelled (k.Name (codes "rename") false))) (g.part (g.atom (p 9 9 36 39) (g.spelled (k.Name (codes "p:f") false))) (g.part (g.atom (p 10 10 40 41) (g.spelled (k.Name (codes "q") false))) g.none)))) g.none))) (g.part (g.list (p 13 26 44 82) (g.part (g.atom (p 14 14 45 51) (g.spelled (k.Name (codes "import") false))) (g.part (g.list (p 15 18 52 65) (g.part (g.atom (p 16 16 53 59) (g.spelled (k.Name (codes "scheme") false))) (g.part (g.atom (p 17 17 60 64) (g.spelled (k.Name (codes "base") false))) g.none))) (g.part (g.list (p 19 25 66 81) (g.part (g.atom (p 20 20 67 73) (g.spelled (k.Name (codes "prefix") false))) (g.part (g.list (p 21 23 74 77) (g.part (g.atom (p 22 22 75 76) (g.spelled (k.Name (codes "a") false))) g.none)) (g.part (g.atom (p 24 24 78 80) (g.spelled (k.Name (codes "p:") false))) g.none)))) g.none)))) (g.part (g.list (p 27 39 83 111) (g.part (g.atom (p 28 28 84 89) (g.spelled (k.Name (codes "begin") false))) (g.part (g.list (p 29 38 90 110) (g.part (g.atom (p 30 30 91 97) (g.spelled (k.Name (codes "define") false))) (g.part (g.list (p 31 33 98 101) (g.part (g.atom (p 32 32 99 100) (g.spelled (k.Name (codes "h") false))) g.none)) (g.part (g.list (p 34 37 102 109) (g.part (g.atom (p 35 35 103 106) (g.spelled (k.Name (codes "p:f") false))) (g.part (g.atom (p 36 36 107 108) (g.spelled (k.Numeral (codes "1")))) g.none))) g.none)))) g.none))) g.none))))))) ∷ []) ((s 0 1) ∷ (s 1 15) ∷ (s 16 17) ∷ (s 17 18) ∷ (s 18 19) ∷ (s 20 21) ∷ (s 21 27) ∷ (s 28 29) ∷ (s 29 35) ∷ (s 36 39) ∷ (s 40 41) ∷ (s 41 42) ∷ (s 42 43) ∷ (s 44 45) ∷ (s 45 51) ∷ (s 52 53) ∷ (s 53 59) ∷ (s 60 64) ∷ (s 64 65) ∷ (s 66 67) ∷ (s 67 73) ∷ (s 74 75) ∷ (s 75 76) ∷ (s 76 77) ∷ (s 78 80) ∷ (s 80 81) ∷ (s 81 82) ∷ (s 83 84) ∷ (s 84 89) ∷ (s 90 91) ∷ (s 91 97) ∷ (s 98 99) ∷ (s 99 100) ∷ (s 100 101) ∷ (s 102 103) ∷ (s 103 106) ∷ (s 107 108) ∷ (s 108 109) ∷ (s 109 110) ∷ (s 110 111) ∷ (s 111 112) ∷ [])) ∷ ((codes "(define-library (c) (export q) (import (scheme base) (b)) (begin (define (k) (q 2))))"), r (((g.list (p 0 32 0 85) (g.part (g.atom (p 1 1 1 15) (g.spelled (k.Name (codes "define-library") false))) (g.part (g.list (p 2 4 16 19) (g.part (g.atom (p 3 3 17 18) (g.spelled (k.Name (codes "c") false))) g.none)) (g.part (g.list (p 5 8 20 30) (g.part (g.atom (p 6 6 21 27) (g.spelled (k.Name (codes "export") false))) (g.part (g.atom (p 7 7 28 29) (g.spelled (k.Name (codes "q") false))) g.none))) (g.part (g.list (p 9 18 31 57) (g.part (g.atom (p 10 10 32 38) (g.spelled (k.Name (codes "import") false))) (g.part (g.list (p 11 14 39 52) (g.part (g.atom (p 12 12 40 46) (g.spelled (k.Name (codes "scheme") false))) (g.part (g.atom (p 13 13 47 51) (g.spelled (k.Name (codes "base") false))) g.none))) (g.part (g.list (p 15 17 53 56) (g.part (g.atom (p 16 16 54 55) (g.spelled (k.Name (codes "b") false))) g.none)) g.none)))) (g.part (g.list (p 19 31 58 84) (g.part (g.atom (p 20 20 59 64) (g.spelled (k.Name (codes "begin") false))) (g.part (g.list (p 21 30 65 83) (g.part (g.atom (p 22 22 66 72) (g.spelled (k.Name (codes "define") false))) (g.part (g.list (p 23 25 73 76) (g.part (g.atom (p 24 24 74 75) (g.spelled (k.Name (codes "k") false))) g.none)) (g.part (g.list (p 26 29 77 82) (g.part (g.atom (p 27 27 78 79) (g.spelled (k.Name (codes "q") false))) (g.part (g.atom (p 28 28 80 81) (g.spelled (k.Numeral (codes "2")))) g.none))) g.none)))) g.none))) g.none))))))) ∷ []) ((s 0 1) ∷ (s 1 15) ∷ (s 16 17) ∷ (s 17 18) ∷ (s 18 19) ∷ (s 20 21) ∷ (s 21 27) ∷ (s 28 29) ∷ (s 29 30) ∷ (s 31 32) ∷ (s 32 38) ∷ (s 39 40) ∷ (s 40 46) ∷ (s 47 51) ∷ (s 51 52) ∷ (s 53 54) ∷ (s 54 55) ∷ (s 55 56) ∷ (s 56 57) ∷ (s 58 59) ∷ (s 59 64) ∷ (s 65 66) ∷ (s 66 72) ∷ (s 73 74) ∷ (s 74 75) ∷ (s 75 76) ∷ (s 77 78) ∷ (s 78 79) ∷ (s 80 81) ∷ (s 81 82) ∷ (s 82 83) ∷ (s 83 84) ∷ (s 84 85) ∷ [])) ∷ []) (Some (codes "r")) (((codes "(define-library (a) (export f) (import (scheme base)) (begin (define (f x) x)))")) ∷ ((codes "(define-library (b) (export (rename p:f q)) (import (scheme base) (prefix (a) p:)) (begin (define (h) (p:f 1))))")) ∷ ((codes "(define-library (c) (export q) (import (scheme base) (b)) (begin (define (k) (q 2))))")) ∷ []) 2 78 (codes "r") ≡ w.Edits ((es 1 ((e 40 41 (codes "r")) ∷ [])) ∷ (es 2 ((e 28 29 (codes "r")) ∷ (e 78 79 (codes "r")) ∷ [])) ∷ [])
unfolding base_names standard_libraries prelude encode_utf8 chars spelled is_numeral is_identifier is_initial is_subsequent
three-libraries-outer-name = refl

pub prefix-alone : rename_rows (((codes "(import (scheme base) (prefix (stack) s:)) (s:push 1 '())"), r (((g.list (p 0 13 0 42) (g.part (g.atom (p 1 1 1 7) (g.spelled (k.Name (codes "import") false))) (g.part (g.list (p 2 5 8 21) (g.part (g.atom (p 3 3 9 15) (g.spelled (k.Name (codes "scheme") false))) (g.part (g.atom (p 4 4 16 20) (g.spelled (k.Name (codes "base") false))) g.none))) (g.part (g.list (p 6 12 22 41) (g.part (g.atom (p 7 7 23 29) (g.spelled (k.Name (codes "prefix") false))) (g.part (g.list (p 8 10 30 37) (g.part (g.atom (p 9 9 31 36) (g.spelled (k.Name (codes "stack") false))) g.none)) (g.part (g.atom (p 11 11 38 40) (g.spelled (k.Name (codes "s:") false))) g.none)))) g.none))))) ∷ ((g.list (p 14 20 43 57) (g.part (g.atom (p 15 15 44 50) (g.spelled (k.Name (codes "s:push") false))) (g.part (g.atom (p 16 16 51 52) (g.spelled (k.Numeral (codes "1")))) (g.part (g.list (p 17 19 53 56) (g.part (g.atom (p 17 17 53 54) (g.implied k.Quote)) (g.part (g.list (p 18 19 54 56) g.none) g.none))) g.none))))) ∷ []) ((s 0 1) ∷ (s 1 7) ∷ (s 8 9) ∷ (s 9 15) ∷ (s 16 20) ∷ (s 20 21) ∷ (s 22 23) ∷ (s 23 29) ∷ (s 30 31) ∷ (s 31 36) ∷ (s 36 37) ∷ (s 38 40) ∷ (s 40 41) ∷ (s 41 42) ∷ (s 43 44) ∷ (s 44 50) ∷ (s 51 52) ∷ (s 53 54) ∷ (s 54 55) ∷ (s 55 56) ∷ (s 56 57) ∷ [])) ∷ ((codes "(define-library (stack) (export push) (import (scheme base)) (begin (define (push x s) (cons x s))))"), r (((g.list (p 0 32 0 100) (g.part (g.atom (p 1 1 1 15) (g.spelled (k.Name (codes "define-library") false))) (g.part (g.list (p 2 4 16 23) (g.part (g.atom (p 3 3 17 22) (g.spelled (k.Name (codes "stack") false))) g.none)) (g.part (g.list (p 5 8 24 37) (g.part (g.atom (p 6 6 25 31) (g.spelled (k.Name (codes "export") false))) (g.part (g.atom (p 7 7 32 36) (g.spelled (k.Name (codes "push") false))) g.none))) (g.part (g.list (p 9 15 38 60) (g.part (g.atom (p 10 10 39 45) (g.spelled (k.Name (codes "import") false))) (g.part (g.list (p 11 14 46 59) (g.part (g.atom (p 12 12 47 53) (g.spelled (k.Name (codes "scheme") false))) (g.part (g.atom (p 13 13 54 58) (g.spelled (k.Name (codes "base") false))) g.none))) g.none))) (g.part (g.list (p 16 31 61 99) (g.part (g.atom (p 17 17 62 67) (g.spelled (k.Name (codes "begin") false))) (g.part (g.list (p 18 30 68 98) (g.part (g.atom (p 19 19 69 75) (g.spelled (k.Name (codes "define") false))) (g.part (g.list (p 20 24 76 86) (g.part (g.atom (p 21 21 77 81) (g.spelled (k.Name (codes "push") false))) (g.part (g.atom (p 22 22 82 83) (g.spelled (k.Name (codes "x") false))) (g.part (g.atom (p 23 23 84 85) (g.spelled (k.Name (codes "s") false))) g.none)))) (g.part (g.list (p 25 29 87 97) (g.part (g.atom (p 26 26 88 92) (g.spelled (k.Name (codes "cons") false))) (g.part (g.atom (p 27 27 93 94) (g.spelled (k.Name (codes "x") false))) (g.part (g.atom (p 28 28 95 96) (g.spelled (k.Name (codes "s") false))) g.none)))) g.none)))) g.none))) g.none))))))) ∷ []) ((s 0 1) ∷ (s 1 15) ∷ (s 16 17) ∷ (s 17 22) ∷ (s 22 23) ∷ (s 24 25) ∷ (s 25 31) ∷ (s 32 36) ∷ (s 36 37) ∷ (s 38 39) ∷ (s 39 45) ∷ (s 46 47) ∷ (s 47 53) ∷ (s 54 58) ∷ (s 58 59) ∷ (s 59 60) ∷ (s 61 62) ∷ (s 62 67) ∷ (s 68 69) ∷ (s 69 75) ∷ (s 76 77) ∷ (s 77 81) ∷ (s 82 83) ∷ (s 84 85) ∷ (s 85 86) ∷ (s 87 88) ∷ (s 88 92) ∷ (s 93 94) ∷ (s 95 96) ∷ (s 96 97) ∷ (s 97 98) ∷ (s 98 99) ∷ (s 99 100) ∷ [])) ∷ []) (Some (codes "s:")) (((codes "(import (scheme base) (prefix (stack) s:)) (s:push 1 '())")) ∷ ((codes "(define-library (stack) (export push) (import (scheme base)) (begin (define (push x s) (cons x s))))")) ∷ []) 0 44 (codes "s:") ≡ w.PrefixLost (codes "s:")
unfolding base_names standard_libraries prelude encode_utf8 chars spelled is_numeral is_identifier is_initial is_subsequent
prefix-alone = refl

pub template-stays : rename_rows (((40 ∷ 100 ∷ 101 ∷ 102 ∷ 105 ∷ 110 ∷ 101 ∷ 45 ∷ 115 ∷ 121 ∷ 110 ∷ 116 ∷ 97 ∷ 120 ∷ 32 ∷ 109 ∷ 121 ∷ 45 ∷ 111 ∷ 114 ∷ 32 ∷ 40 ∷ 115 ∷ 121 ∷ 110 ∷ 116 ∷ 97 ∷ 120 ∷ 45 ∷ 114 ∷ 117 ∷ 108 ∷ 101 ∷ 115 ∷ 32 ∷ 40 ∷ 41 ∷ 32 ∷ 40 ∷ 40 ∷ 95 ∷ 32 ∷ 97 ∷ 32 ∷ 98 ∷ 41 ∷ 32 ∷ 40 ∷ 108 ∷ 101 ∷ 116 ∷ 32 ∷ 40 ∷ 40 ∷ 116 ∷ 32 ∷ 97 ∷ 41 ∷ 41 ∷ 32 ∷ 40 ∷ 105 ∷ 102 ∷ 32 ∷ 116 ∷ 32 ∷ 116 ∷ 32 ∷ 98 ∷ 41 ∷ 41 ∷ 41 ∷ 41 ∷ 41 ∷ 10 ∷ 40 ∷ 100 ∷ 101 ∷ 102 ∷ 105 ∷ 110 ∷ 101 ∷ 32 ∷ 116 ∷ 32 ∷ 53 ∷ 41 ∷ 10 ∷ 40 ∷ 109 ∷ 121 ∷ 45 ∷ 111 ∷ 114 ∷ 32 ∷ 35 ∷ 102 ∷ 32 ∷ 116 ∷ 41 ∷ []), r (((g.list (p 0 30 0 74) (g.part (g.atom (p 1 1 1 14) (g.spelled (k.Name (codes "define-syntax") false))) (g.part (g.atom (p 2 2 15 20) (g.spelled (k.Name (codes "my-or") false))) (g.part (g.list (p 3 29 21 73) (g.part (g.atom (p 4 4 22 34) (g.spelled (k.Name (codes "syntax-rules") false))) (g.part (g.list (p 5 6 35 37) g.none) (g.part (g.list (p 7 28 38 72) (g.part (g.list (p 8 12 39 46) (g.part (g.atom (p 9 9 40 41) (g.spelled (k.Name (codes "_") false))) (g.part (g.atom (p 10 10 42 43) (g.spelled (k.Name (codes "a") false))) (g.part (g.atom (p 11 11 44 45) (g.spelled (k.Name (codes "b") false))) g.none)))) (g.part (g.list (p 13 27 47 71) (g.part (g.atom (p 14 14 48 51) (g.spelled (k.Name (codes "let") false))) (g.part (g.list (p 15 20 52 59) (g.part (g.list (p 16 19 53 58) (g.part (g.atom (p 17 17 54 55) (g.spelled (k.Name (codes "t") false))) (g.part (g.atom (p 18 18 56 57) (g.spelled (k.Name (codes "a") false))) g.none))) g.none)) (g.part (g.list (p 21 26 60 70) (g.part (g.atom (p 22 22 61 63) (g.spelled (k.Name (codes "if") false))) (g.part (g.atom (p 23 23 64 65) (g.spelled (k.Name (codes "t") false))) (g.part (g.atom (p 24 24 66 67) (g.spelled (k.Name (codes "t") false))) (g.part (g.atom (p 25 25 68 69) (g.spelled (k.Name (codes "b") false))) g.none))))) g.none)))) g.none))) g.none)))) g.none))))) ∷ ((g.list (p 31 35 75 87) (g.part (g.atom (p 32 32 76 82) (g.spelled (k.Name (codes "define") false))) (g.part (g.atom (p 33 33 83 84) (g.spelled (k.Name (codes "t") false))) (g.part (g.atom (p 34 34 85 86) (g.spelled (k.Numeral (codes "5")))) g.none))))) ∷ ((g.list (p 36 40 88 100) (g.part (g.atom (p 37 37 89 94) (g.spelled (k.Name (codes "my-or") false))) (g.part (g.atom (p 38 38 95 97) (g.spelled (k.Truth false))) (g.part (g.atom (p 39 39 98 99) (g.spelled (k.Name (codes "t") false))) g.none))))) ∷ []) ((s 0 1) ∷ (s 1 14) ∷ (s 15 20) ∷ (s 21 22) ∷ (s 22 34) ∷ (s 35 36) ∷ (s 36 37) ∷ (s 38 39) ∷ (s 39 40) ∷ (s 40 41) ∷ (s 42 43) ∷ (s 44 45) ∷ (s 45 46) ∷ (s 47 48) ∷ (s 48 51) ∷ (s 52 53) ∷ (s 53 54) ∷ (s 54 55) ∷ (s 56 57) ∷ (s 57 58) ∷ (s 58 59) ∷ (s 60 61) ∷ (s 61 63) ∷ (s 64 65) ∷ (s 66 67) ∷ (s 68 69) ∷ (s 69 70) ∷ (s 70 71) ∷ (s 71 72) ∷ (s 72 73) ∷ (s 73 74) ∷ (s 75 76) ∷ (s 76 82) ∷ (s 83 84) ∷ (s 85 86) ∷ (s 86 87) ∷ (s 88 89) ∷ (s 89 94) ∷ (s 95 97) ∷ (s 98 99) ∷ (s 99 100) ∷ [])) ∷ []) (Some (codes "u")) (((40 ∷ 100 ∷ 101 ∷ 102 ∷ 105 ∷ 110 ∷ 101 ∷ 45 ∷ 115 ∷ 121 ∷ 110 ∷ 116 ∷ 97 ∷ 120 ∷ 32 ∷ 109 ∷ 121 ∷ 45 ∷ 111 ∷ 114 ∷ 32 ∷ 40 ∷ 115 ∷ 121 ∷ 110 ∷ 116 ∷ 97 ∷ 120 ∷ 45 ∷ 114 ∷ 117 ∷ 108 ∷ 101 ∷ 115 ∷ 32 ∷ 40 ∷ 41 ∷ 32 ∷ 40 ∷ 40 ∷ 95 ∷ 32 ∷ 97 ∷ 32 ∷ 98 ∷ 41 ∷ 32 ∷ 40 ∷ 108 ∷ 101 ∷ 116 ∷ 32 ∷ 40 ∷ 40 ∷ 116 ∷ 32 ∷ 97 ∷ 41 ∷ 41 ∷ 32 ∷ 40 ∷ 105 ∷ 102 ∷ 32 ∷ 116 ∷ 32 ∷ 116 ∷ 32 ∷ 98 ∷ 41 ∷ 41 ∷ 41 ∷ 41 ∷ 41 ∷ 10 ∷ 40 ∷ 100 ∷ 101 ∷ 102 ∷ 105 ∷ 110 ∷ 101 ∷ 32 ∷ 116 ∷ 32 ∷ 53 ∷ 41 ∷ 10 ∷ 40 ∷ 109 ∷ 121 ∷ 45 ∷ 111 ∷ 114 ∷ 32 ∷ 35 ∷ 102 ∷ 32 ∷ 116 ∷ 41 ∷ [])) ∷ []) 0 83 (codes "u") ≡ w.Edits ((es 0 ((e 83 84 (codes "u")) ∷ (e 98 99 (codes "u")) ∷ [])) ∷ [])
unfolding base_names standard_libraries prelude encode_utf8 chars spelled is_numeral is_identifier is_initial is_subsequent
template-stays = refl

pub renames-12 : rename_rows (((40 ∷ 100 ∷ 101 ∷ 102 ∷ 105 ∷ 110 ∷ 101 ∷ 45 ∷ 115 ∷ 121 ∷ 110 ∷ 116 ∷ 97 ∷ 120 ∷ 32 ∷ 98 ∷ 32 ∷ 40 ∷ 115 ∷ 121 ∷ 110 ∷ 116 ∷ 97 ∷ 120 ∷ 45 ∷ 114 ∷ 117 ∷ 108 ∷ 101 ∷ 115 ∷ 32 ∷ 40 ∷ 101 ∷ 108 ∷ 115 ∷ 101 ∷ 41 ∷ 32 ∷ 40 ∷ 40 ∷ 95 ∷ 32 ∷ 101 ∷ 108 ∷ 115 ∷ 101 ∷ 32 ∷ 113 ∷ 32 ∷ 120 ∷ 32 ∷ 46 ∷ 46 ∷ 46 ∷ 41 ∷ 32 ∷ 40 ∷ 100 ∷ 101 ∷ 102 ∷ 105 ∷ 110 ∷ 101 ∷ 45 ∷ 115 ∷ 121 ∷ 110 ∷ 116 ∷ 97 ∷ 120 ∷ 32 ∷ 102 ∷ 32 ∷ 40 ∷ 115 ∷ 121 ∷ 110 ∷ 116 ∷ 97 ∷ 120 ∷ 45 ∷ 114 ∷ 117 ∷ 108 ∷ 101 ∷ 115 ∷ 32 ∷ 40 ∷ 41 ∷ 32 ∷ 40 ∷ 40 ∷ 95 ∷ 32 ∷ 107 ∷ 32 ∷ 40 ∷ 46 ∷ 46 ∷ 46 ∷ 32 ∷ 46 ∷ 46 ∷ 46 ∷ 41 ∷ 41 ∷ 32 ∷ 40 ∷ 108 ∷ 105 ∷ 115 ∷ 116 ∷ 32 ∷ 107 ∷ 32 ∷ 40 ∷ 46 ∷ 46 ∷ 46 ∷ 32 ∷ 46 ∷ 46 ∷ 46 ∷ 41 ∷ 32 ∷ 107 ∷ 32 ∷ 113 ∷ 41 ∷ 41 ∷ 41 ∷ 41 ∷ 41 ∷ 41 ∷ 41 ∷ 10 ∷ 40 ∷ 100 ∷ 101 ∷ 102 ∷ 105 ∷ 110 ∷ 101 ∷ 45 ∷ 115 ∷ 121 ∷ 110 ∷ 116 ∷ 97 ∷ 120 ∷ 32 ∷ 107 ∷ 32 ∷ 40 ∷ 115 ∷ 121 ∷ 110 ∷ 116 ∷ 97 ∷ 120 ∷ 45 ∷ 114 ∷ 117 ∷ 108 ∷ 101 ∷ 115 ∷ 32 ∷ 40 ∷ 41 ∷ 32 ∷ 40 ∷ 40 ∷ 95 ∷ 32 ∷ 40 ∷ 116 ∷ 109 ∷ 112 ∷ 32 ∷ 103 ∷ 32 ∷ 46 ∷ 46 ∷ 46 ∷ 41 ∷ 32 ∷ 46 ∷ 46 ∷ 46 ∷ 41 ∷ 32 ∷ 39 ∷ 40 ∷ 97 ∷ 32 ∷ 103 ∷ 32 ∷ 46 ∷ 46 ∷ 46 ∷ 32 ∷ 46 ∷ 46 ∷ 46 ∷ 41 ∷ 41 ∷ 41 ∷ 41 ∷ 10 ∷ 40 ∷ 100 ∷ 101 ∷ 102 ∷ 105 ∷ 110 ∷ 101 ∷ 45 ∷ 115 ∷ 121 ∷ 110 ∷ 116 ∷ 97 ∷ 120 ∷ 32 ∷ 121 ∷ 32 ∷ 40 ∷ 115 ∷ 121 ∷ 110 ∷ 116 ∷ 97 ∷ 120 ∷ 45 ∷ 114 ∷ 117 ∷ 108 ∷ 101 ∷ 115 ∷ 32 ∷ 58 ∷ 58 ∷ 58 ∷ 32 ∷ 40 ∷ 41 ∷ 32 ∷ 40 ∷ 40 ∷ 95 ∷ 32 ∷ 41 ∷ 32 ∷ 40 ∷ 98 ∷ 101 ∷ 103 ∷ 105 ∷ 110 ∷ 32 ∷ 40 ∷ 100 ∷ 101 ∷ 102 ∷ 105 ∷ 110 ∷ 101 ∷ 32 ∷ 98 ∷ 32 ∷ 40 ∷ 108 ∷ 105 ∷ 115 ∷ 116 ∷ 32 ∷ 109 ∷ 32 ∷ 98 ∷ 41 ∷ 41 ∷ 32 ∷ 40 ∷ 100 ∷ 101 ∷ 102 ∷ 105 ∷ 110 ∷ 101 ∷ 32 ∷ 116 ∷ 109 ∷ 112 ∷ 32 ∷ 40 ∷ 108 ∷ 101 ∷ 116 ∷ 32 ∷ 40 ∷ 41 ∷ 32 ∷ 40 ∷ 100 ∷ 101 ∷ 102 ∷ 105 ∷ 110 ∷ 101 ∷ 45 ∷ 115 ∷ 121 ∷ 110 ∷ 116 ∷ 97 ∷ 120 ∷ 32 ∷ 107 ∷ 32 ∷ 40 ∷ 115 ∷ 121 ∷ 110 ∷ 116 ∷ 97 ∷ 120 ∷ 45 ∷ 114 ∷ 117 ∷ 108 ∷ 101 ∷ 115 ∷ 32 ∷ 40 ∷ 41 ∷ 32 ∷ 40 ∷ 40 ∷ 95 ∷ 41 ∷ 32 ∷ 97 ∷ 41 ∷ 41 ∷ 41 ∷ 32 ∷ 40 ∷ 100 ∷ 101 ∷ 102 ∷ 105 ∷ 110 ∷ 101 ∷ 32 ∷ 61 ∷ 62 ∷ 32 ∷ 97 ∷ 41 ∷ 32 ∷ 40 ∷ 107 ∷ 41 ∷ 41 ∷ 41 ∷ 41 ∷ 41 ∷ 41 ∷ 41 ∷ 10 ∷ 40 ∷ 100 ∷ 101 ∷ 102 ∷ 105 ∷ 110 ∷ 101 ∷ 32 ∷ 40 ∷ 109 ∷ 32 ∷ 116 ∷ 109 ∷ 112 ∷ 41 ∷ 32 ∷ 103 ∷ 41 ∷ []), r (((g.list (p 0 47 0 135) (g.part (g.atom (p 1 1 1 14) (g.spelled (k.Name (codes "define-syntax") false))) (g.part (g.atom (p 2 2 15 16) (g.spelled (k.Name (codes "b") false))) (g.part (g.list (p 3 46 17 134) (g.part (g.atom (p 4 4 18 30) (g.spelled (k.Name (codes "syntax-rules") false))) (g.part (g.list (p 5 7 31 37) (g.part (g.atom (p 6 6 32 36) (g.spelled (k.Name (codes "else") false))) g.none)) (g.part (g.list (p 8 45 38 133) (g.part (g.list (p 9 15 39 55) (g.part (g.atom (p 10 10 40 41) (g.spelled (k.Name (codes "_") false))) (g.part (g.atom (p 11 11 42 46) (g.spelled (k.Name (codes "else") false))) (g.part (g.atom (p 12 12 47 48) (g.spelled (k.Name (codes "q") false))) (g.part (g.atom (p 13 13 49 50) (g.spelled (k.Name (codes "x") false))) (g.part (g.atom (p 14 14 51 54) (g.spelled (k.Name (codes "...") false))) g.none)))))) (g.part (g.list (p 16 44 56 132) (g.part (g.atom (p 17 17 57 70) (g.spelled (k.Name (codes "define-syntax") false))) (g.part (g.atom (p 18 18 71 72) (g.spelled (k.Name (codes "f") false))) (g.part (g.list (p 19 43 73 131) (g.part (g.atom (p 20 20 74 86) (g.spelled (k.Name (codes "syntax-rules") false))) (g.part (g.list (p 21 22 87 89) g.none) (g.part (g.list (p 23 42 90 130) (g.part (g.list (p 24 31 91 106) (g.part (g.atom (p 25 25 92 93) (g.spelled (k.Name (codes "_") false))) (g.part (g.atom (p 26 26 94 95) (g.spelled (k.Name (codes "k") false))) (g.part (g.list (p 27 30 96 105) (g.part (g.atom (p 28 28 97 100) (g.spelled (k.Name (codes "...") false))) (g.part (g.atom (p 29 29 101 104) (g.spelled (k.Name (codes "...") false))) g.none))) g.none)))) (g.part (g.list (p 32 41 107 129) (g.part (g.atom (p 33 33 108 112) (g.spelled (k.Name (codes "list") false))) (g.part (g.atom (p 34 34 113 114) (g.spelled (k.Name (codes "k") false))) (g.part (g.list (p 35 38 115 124) (g.part (g.atom (p 36 36 116 119) (g.spelled (k.Name (codes "...") false))) (g.part (g.atom (p 37 37 120 123) (g.spelled (k.Name (codes "...") false))) g.none))) (g.part (g.atom (p 39 39 125 126) (g.spelled (k.Name (codes "k") false))) (g.part (g.atom (p 40 40 127 128) (g.spelled (k.Name (codes "q") false))) g.none)))))) g.none))) g.none)))) g.none)))) g.none))) g.none)))) g.none))))) ∷ ((g.list (p 48 74 136 208) (g.part (g.atom (p 49 49 137 150) (g.spelled (k.Name (codes "define-syntax") false))) (g.part (g.atom (p 50 50 151 152) (g.spelled (k.Name (codes "k") false))) (g.part (g.list (p 51 73 153 207) (g.part (g.atom (p 52 52 154 166) (g.spelled (k.Name (codes "syntax-rules") false))) (g.part (g.list (p 53 54 167 169) g.none) (g.part (g.list (p 55 72 170 206) (g.part (g.list (p 56 64 171 190) (g.part (g.atom (p 57 57 172 173) (g.spelled (k.Name (codes "_") false))) (g.part (g.list (p 58 62 174 185) (g.part (g.atom (p 59 59 175 178) (g.spelled (k.Name (codes "tmp") false))) (g.part (g.atom (p 60 60 179 180) (g.spelled (k.Name (codes "g") false))) (g.part (g.atom (p 61 61 181 184) (g.spelled (k.Name (codes "...") false))) g.none)))) (g.part (g.atom (p 63 63 186 189) (g.spelled (k.Name (codes "...") false))) g.none)))) (g.part (g.list (p 65 71 191 205) (g.part (g.atom (p 65 65 191 192) (g.implied k.Quote)) (g.part (g.list (p 66 71 192 205) (g.part (g.atom (p 67 67 193 194) (g.spelled (k.Name (codes "a") false))) (g.part (g.atom (p 68 68 195 196) (g.spelled (k.Name (codes "g") false))) (g.part (g.atom (p 69 69 197 200) (g.spelled (k.Name (codes "...") false))) (g.part (g.atom (p 70 70 201 204) (g.spelled (k.Name (codes "...") false))) g.none))))) g.none))) g.none))) g.none)))) g.none))))) ∷ ((g.list (p 75 133 209 369) (g.part (g.atom (p 76 76 210 223) (g.spelled (k.Name (codes "define-syntax") false))) (g.part (g.atom (p 77 77 224 225) (g.spelled (k.Name (codes "y") false))) (g.part (g.list (p 78 132 226 368) (g.part (g.atom (p 79 79 227 239) (g.spelled (k.Name (codes "syntax-rules") false))) (g.part (g.atom (p 80 80 240 243) (g.spelled (k.Name (codes ":::") false))) (g.part (g.list (p 81 82 244 246) g.none) (g.part (g.list (p 83 131 247 367) (g.part (g.list (p 84 86 248 252) (g.part (g.atom (p 85 85 249 250) (g.spelled (k.Name (codes "_") false))) g.none)) (g.part (g.list (p 87 130 253 366) (g.part (g.atom (p 88 88 254 259) (g.spelled (k.Name (codes "begin") false))) (g.part (g.list (p 89 97 260 281) (g.part (g.atom (p 90 90 261 267) (g.spelled (k.Name (codes "define") false))) (g.part (g.atom (p 91 91 268 269) (g.spelled (k.Name (codes "b") false))) (g.part (g.list (p 92 96 270 280) (g.part (g.atom (p 93 93 271 275) (g.spelled (k.Name (codes "list") false))) (g.part (g.atom (p 94 94 276 277) (g.spelled (k.Name (codes "m") false))) (g.part (g.atom (p 95 95 278 279) (g.spelled (k.Name (codes "b") false))) g.none)))) g.none)))) (g.part (g.list (p 98 129 282 365) (g.part (g.atom (p 99 99 283 289) (g.spelled (k.Name (codes "define") false))) (g.part (g.atom (p 100 100 290 293) (g.spelled (k.Name (codes "tmp") false))) (g.part (g.list (p 101 128 294 364) (g.part (g.atom (p 102 102 295 298) (g.spelled (k.Name (codes "let") false))) (g.part (g.list (p 103 104 299 301) g.none) (g.part (g.list (p 105 119 302 345) (g.part (g.atom (p 106 106 303 316) (g.spelled (k.Name (codes "define-syntax") false))) (g.part (g.atom (p 107 107 317 318) (g.spelled (k.Name (codes "k") false))) (g.part (g.list (p 108 118 319 344) (g.part (g.atom (p 109 109 320 332) (g.spelled (k.Name (codes "syntax-rules") false))) (g.part (g.list (p 110 111 333 335) g.none) (g.part (g.list (p 112 117 336 343) (g.part (g.list (p 113 115 337 340) (g.part (g.atom (p 114 114 338 339) (g.spelled (k.Name (codes "_") false))) g.none)) (g.part (g.atom (p 116 116 341 342) (g.spelled (k.Name (codes "a") false))) g.none))) g.none)))) g.none)))) (g.part (g.list (p 120 124 346 359) (g.part (g.atom (p 121 121 347 353) (g.spelled (k.Name (codes "define") false))) (g.part (g.atom (p 122 122 354 356) (g.spelled (k.Name (codes "=>") false))) (g.part (g.atom (p 123 123 357 358) (g.spelled (k.Name (codes "a") false))) g.none)))) (g.part (g.list (p 125 127 360 363) (g.part (g.atom (p 126 126 361 362) (g.spelled (k.Name (codes "k") false))) g.none)) g.none)))))) g.none)))) g.none)))) g.none))) g.none))))) g.none))))) ∷ ((g.list (p 134 141 370 388) (g.part (g.atom (p 135 135 371 377) (g.spelled (k.Name (codes "define") false))) (g.part (g.list (p 136 139 378 385) (g.part (g.atom (p 137 137 379 380) (g.spelled (k.Name (codes "m") false))) (g.part (g.atom (p 138 138 381 384) (g.spelled (k.Name (codes "tmp") false))) g.none))) (g.part (g.atom (p 140 140 386 387) (g.spelled (k.Name (codes "g") false))) g.none))))) ∷ []) ((s 0 1) ∷ (s 1 14) ∷ (s 15 16) ∷ (s 17 18) ∷ (s 18 30) ∷ (s 31 32) ∷ (s 32 36) ∷ (s 36 37) ∷ (s 38 39) ∷ (s 39 40) ∷ (s 40 41) ∷ (s 42 46) ∷ (s 47 48) ∷ (s 49 50) ∷ (s 51 54) ∷ (s 54 55) ∷ (s 56 57) ∷ (s 57 70) ∷ (s 71 72) ∷ (s 73 74) ∷ (s 74 86) ∷ (s 87 88) ∷ (s 88 89) ∷ (s 90 91) ∷ (s 91 92) ∷ (s 92 93) ∷ (s 94 95) ∷ (s 96 97) ∷ (s 97 100) ∷ (s 101 104) ∷ (s 104 105) ∷ (s 105 106) ∷ (s 107 108) ∷ (s 108 112) ∷ (s 113 114) ∷ (s 115 116) ∷ (s 116 119) ∷ (s 120 123) ∷ (s 123 124) ∷ (s 125 126) ∷ (s 127 128) ∷ (s 128 129) ∷ (s 129 130) ∷ (s 130 131) ∷ (s 131 132) ∷ (s 132 133) ∷ (s 133 134) ∷ (s 134 135) ∷ (s 136 137) ∷ (s 137 150) ∷ (s 151 152) ∷ (s 153 154) ∷ (s 154 166) ∷ (s 167 168) ∷ (s 168 169) ∷ (s 170 171) ∷ (s 171 172) ∷ (s 172 173) ∷ (s 174 175) ∷ (s 175 178) ∷ (s 179 180) ∷ (s 181 184) ∷ (s 184 185) ∷ (s 186 189) ∷ (s 189 190) ∷ (s 191 192) ∷ (s 192 193) ∷ (s 193 194) ∷ (s 195 196) ∷ (s 197 200) ∷ (s 201 204) ∷ (s 204 205) ∷ (s 205 206) ∷ (s 206 207) ∷ (s 207 208) ∷ (s 209 210) ∷ (s 210 223) ∷ (s 224 225) ∷ (s 226 227) ∷ (s 227 239) ∷ (s 240 243) ∷ (s 244 245) ∷ (s 245 246) ∷ (s 247 248) ∷ (s 248 249) ∷ (s 249 250) ∷ (s 251 252) ∷ (s 253 254) ∷ (s 254 259) ∷ (s 260 261) ∷ (s 261 267) ∷ (s 268 269) ∷ (s 270 271) ∷ (s 271 275) ∷ (s 276 277) ∷ (s 278 279) ∷ (s 279 280) ∷ (s 280 281) ∷ (s 282 283) ∷ (s 283 289) ∷ (s 290 293) ∷ (s 294 295) ∷ (s 295 298) ∷ (s 299 300) ∷ (s 300 301) ∷ (s 302 303) ∷ (s 303 316) ∷ (s 317 318) ∷ (s 319 320) ∷ (s 320 332) ∷ (s 333 334) ∷ (s 334 335) ∷ (s 336 337) ∷ (s 337 338) ∷ (s 338 339) ∷ (s 339 340) ∷ (s 341 342) ∷ (s 342 343) ∷ (s 343 344) ∷ (s 344 345) ∷ (s 346 347) ∷ (s 347 353) ∷ (s 354 356) ∷ (s 357 358) ∷ (s 358 359) ∷ (s 360 361) ∷ (s 361 362) ∷ (s 362 363) ∷ (s 363 364) ∷ (s 364 365) ∷ (s 365 366) ∷ (s 366 367) ∷ (s 367 368) ∷ (s 368 369) ∷ (s 370 371) ∷ (s 371 377) ∷ (s 378 379) ∷ (s 379 380) ∷ (s 381 384) ∷ (s 384 385) ∷ (s 386 387) ∷ (s 387 388) ∷ [])) ∷ []) (Some (codes "zz")) (((40 ∷ 100 ∷ 101 ∷ 102 ∷ 105 ∷ 110 ∷ 101 ∷ 45 ∷ 115 ∷ 121 ∷ 110 ∷ 116 ∷ 97 ∷ 120 ∷ 32 ∷ 98 ∷ 32 ∷ 40 ∷ 115 ∷ 121 ∷ 110 ∷ 116 ∷ 97 ∷ 120 ∷ 45 ∷ 114 ∷ 117 ∷ 108 ∷ 101 ∷ 115 ∷ 32 ∷ 40 ∷ 101 ∷ 108 ∷ 115 ∷ 101 ∷ 41 ∷ 32 ∷ 40 ∷ 40 ∷ 95 ∷ 32 ∷ 101 ∷ 108 ∷ 115 ∷ 101 ∷ 32 ∷ 113 ∷ 32 ∷ 120 ∷ 32 ∷ 46 ∷ 46 ∷ 46 ∷ 41 ∷ 32 ∷ 40 ∷ 100 ∷ 101 ∷ 102 ∷ 105 ∷ 110 ∷ 101 ∷ 45 ∷ 115 ∷ 121 ∷ 110 ∷ 116 ∷ 97 ∷ 120 ∷ 32 ∷ 102 ∷ 32 ∷ 40 ∷ 115 ∷ 121 ∷ 110 ∷ 116 ∷ 97 ∷ 120 ∷ 45 ∷ 114 ∷ 117 ∷ 108 ∷ 101 ∷ 115 ∷ 32 ∷ 40 ∷ 41 ∷ 32 ∷ 40 ∷ 40 ∷ 95 ∷ 32 ∷ 107 ∷ 32 ∷ 40 ∷ 46 ∷ 46 ∷ 46 ∷ 32 ∷ 46 ∷ 46 ∷ 46 ∷ 41 ∷ 41 ∷ 32 ∷ 40 ∷ 108 ∷ 105 ∷ 115 ∷ 116 ∷ 32 ∷ 107 ∷ 32 ∷ 40 ∷ 46 ∷ 46 ∷ 46 ∷ 32 ∷ 46 ∷ 46 ∷ 46 ∷ 41 ∷ 32 ∷ 107 ∷ 32 ∷ 113 ∷ 41 ∷ 41 ∷ 41 ∷ 41 ∷ 41 ∷ 41 ∷ 41 ∷ 10 ∷ 40 ∷ 100 ∷ 101 ∷ 102 ∷ 105 ∷ 110 ∷ 101 ∷ 45 ∷ 115 ∷ 121 ∷ 110 ∷ 116 ∷ 97 ∷ 120 ∷ 32 ∷ 107 ∷ 32 ∷ 40 ∷ 115 ∷ 121 ∷ 110 ∷ 116 ∷ 97 ∷ 120 ∷ 45 ∷ 114 ∷ 117 ∷ 108 ∷ 101 ∷ 115 ∷ 32 ∷ 40 ∷ 41 ∷ 32 ∷ 40 ∷ 40 ∷ 95 ∷ 32 ∷ 40 ∷ 116 ∷ 109 ∷ 112 ∷ 32 ∷ 103 ∷ 32 ∷ 46 ∷ 46 ∷ 46 ∷ 41 ∷ 32 ∷ 46 ∷ 46 ∷ 46 ∷ 41 ∷ 32 ∷ 39 ∷ 40 ∷ 97 ∷ 32 ∷ 103 ∷ 32 ∷ 46 ∷ 46 ∷ 46 ∷ 32 ∷ 46 ∷ 46 ∷ 46 ∷ 41 ∷ 41 ∷ 41 ∷ 41 ∷ 10 ∷ 40 ∷ 100 ∷ 101 ∷ 102 ∷ 105 ∷ 110 ∷ 101 ∷ 45 ∷ 115 ∷ 121 ∷ 110 ∷ 116 ∷ 97 ∷ 120 ∷ 32 ∷ 121 ∷ 32 ∷ 40 ∷ 115 ∷ 121 ∷ 110 ∷ 116 ∷ 97 ∷ 120 ∷ 45 ∷ 114 ∷ 117 ∷ 108 ∷ 101 ∷ 115 ∷ 32 ∷ 58 ∷ 58 ∷ 58 ∷ 32 ∷ 40 ∷ 41 ∷ 32 ∷ 40 ∷ 40 ∷ 95 ∷ 32 ∷ 41 ∷ 32 ∷ 40 ∷ 98 ∷ 101 ∷ 103 ∷ 105 ∷ 110 ∷ 32 ∷ 40 ∷ 100 ∷ 101 ∷ 102 ∷ 105 ∷ 110 ∷ 101 ∷ 32 ∷ 98 ∷ 32 ∷ 40 ∷ 108 ∷ 105 ∷ 115 ∷ 116 ∷ 32 ∷ 109 ∷ 32 ∷ 98 ∷ 41 ∷ 41 ∷ 32 ∷ 40 ∷ 100 ∷ 101 ∷ 102 ∷ 105 ∷ 110 ∷ 101 ∷ 32 ∷ 116 ∷ 109 ∷ 112 ∷ 32 ∷ 40 ∷ 108 ∷ 101 ∷ 116 ∷ 32 ∷ 40 ∷ 41 ∷ 32 ∷ 40 ∷ 100 ∷ 101 ∷ 102 ∷ 105 ∷ 110 ∷ 101 ∷ 45 ∷ 115 ∷ 121 ∷ 110 ∷ 116 ∷ 97 ∷ 120 ∷ 32 ∷ 107 ∷ 32 ∷ 40 ∷ 115 ∷ 121 ∷ 110 ∷ 116 ∷ 97 ∷ 120 ∷ 45 ∷ 114 ∷ 117 ∷ 108 ∷ 101 ∷ 115 ∷ 32 ∷ 40 ∷ 41 ∷ 32 ∷ 40 ∷ 40 ∷ 95 ∷ 41 ∷ 32 ∷ 97 ∷ 41 ∷ 41 ∷ 41 ∷ 32 ∷ 40 ∷ 100 ∷ 101 ∷ 102 ∷ 105 ∷ 110 ∷ 101 ∷ 32 ∷ 61 ∷ 62 ∷ 32 ∷ 97 ∷ 41 ∷ 32 ∷ 40 ∷ 107 ∷ 41 ∷ 41 ∷ 41 ∷ 41 ∷ 41 ∷ 41 ∷ 41 ∷ 10 ∷ 40 ∷ 100 ∷ 101 ∷ 102 ∷ 105 ∷ 110 ∷ 101 ∷ 32 ∷ 40 ∷ 109 ∷ 32 ∷ 116 ∷ 109 ∷ 112 ∷ 41 ∷ 32 ∷ 103 ∷ 41 ∷ [])) ∷ []) 0 113 (codes "zz") ≡ w.Edits ((es 0 ((e 94 95 (codes "zz")) ∷ (e 113 114 (codes "zz")) ∷ (e 125 126 (codes "zz")) ∷ (e 151 152 (codes "zz")) ∷ (e 317 318 (codes "zz")) ∷ (e 361 362 (codes "zz")) ∷ [])) ∷ [])
unfolding base_names standard_libraries prelude encode_utf8 chars spelled is_numeral is_identifier is_initial is_subsequent
renames-12 = refl

pub renames-25 : rename_rows (((40 ∷ 100 ∷ 101 ∷ 102 ∷ 105 ∷ 110 ∷ 101 ∷ 45 ∷ 115 ∷ 121 ∷ 110 ∷ 116 ∷ 97 ∷ 120 ∷ 32 ∷ 116 ∷ 109 ∷ 112 ∷ 32 ∷ 40 ∷ 115 ∷ 121 ∷ 110 ∷ 116 ∷ 97 ∷ 120 ∷ 45 ∷ 114 ∷ 117 ∷ 108 ∷ 101 ∷ 115 ∷ 32 ∷ 40 ∷ 41 ∷ 32 ∷ 40 ∷ 40 ∷ 95 ∷ 32 ∷ 97 ∷ 32 ∷ 46 ∷ 46 ∷ 46 ∷ 32 ∷ 98 ∷ 41 ∷ 32 ∷ 40 ∷ 115 ∷ 101 ∷ 116 ∷ 33 ∷ 32 ∷ 98 ∷ 32 ∷ 98 ∷ 41 ∷ 41 ∷ 32 ∷ 40 ∷ 40 ∷ 95 ∷ 32 ∷ 46 ∷ 32 ∷ 114 ∷ 101 ∷ 115 ∷ 116 ∷ 41 ∷ 32 ∷ 103 ∷ 41 ∷ 41 ∷ 41 ∷ 10 ∷ 40 ∷ 98 ∷ 101 ∷ 103 ∷ 105 ∷ 110 ∷ 32 ∷ 40 ∷ 100 ∷ 101 ∷ 102 ∷ 105 ∷ 110 ∷ 101 ∷ 45 ∷ 115 ∷ 121 ∷ 110 ∷ 116 ∷ 97 ∷ 120 ∷ 32 ∷ 109 ∷ 32 ∷ 40 ∷ 115 ∷ 121 ∷ 110 ∷ 116 ∷ 97 ∷ 120 ∷ 45 ∷ 114 ∷ 117 ∷ 108 ∷ 101 ∷ 115 ∷ 32 ∷ 40 ∷ 101 ∷ 108 ∷ 115 ∷ 101 ∷ 41 ∷ 32 ∷ 40 ∷ 40 ∷ 95 ∷ 32 ∷ 101 ∷ 108 ∷ 115 ∷ 101 ∷ 32 ∷ 98 ∷ 32 ∷ 46 ∷ 46 ∷ 46 ∷ 41 ∷ 32 ∷ 40 ∷ 98 ∷ 101 ∷ 103 ∷ 105 ∷ 110 ∷ 32 ∷ 40 ∷ 100 ∷ 101 ∷ 102 ∷ 105 ∷ 110 ∷ 101 ∷ 32 ∷ 97 ∷ 32 ∷ 40 ∷ 105 ∷ 102 ∷ 32 ∷ 120 ∷ 32 ∷ 107 ∷ 32 ∷ 107 ∷ 41 ∷ 41 ∷ 41 ∷ 41 ∷ 41 ∷ 41 ∷ 32 ∷ 40 ∷ 109 ∷ 32 ∷ 101 ∷ 108 ∷ 115 ∷ 101 ∷ 41 ∷ 41 ∷ []), r (((g.list (p 0 29 0 77) (g.part (g.atom (p 1 1 1 14) (g.spelled (k.Name (codes "define-syntax") false))) (g.part (g.atom (p 2 2 15 18) (g.spelled (k.Name (codes "tmp") false))) (g.part (g.list (p 3 28 19 76) (g.part (g.atom (p 4 4 20 32) (g.spelled (k.Name (codes "syntax-rules") false))) (g.part (g.list (p 5 6 33 35) g.none) (g.part (g.list (p 7 19 36 60) (g.part (g.list (p 8 13 37 48) (g.part (g.atom (p 9 9 38 39) (g.spelled (k.Name (codes "_") false))) (g.part (g.atom (p 10 10 40 41) (g.spelled (k.Name (codes "a") false))) (g.part (g.atom (p 11 11 42 45) (g.spelled (k.Name (codes "...") false))) (g.part (g.atom (p 12 12 46 47) (g.spelled (k.Name (codes "b") false))) g.none))))) (g.part (g.list (p 14 18 49 59) (g.part (g.atom (p 15 15 50 54) (g.spelled (k.Name (codes "set!") false))) (g.part (g.atom (p 16 16 55 56) (g.spelled (k.Name (codes "b") false))) (g.part (g.atom (p 17 17 57 58) (g.spelled (k.Name (codes "b") false))) g.none)))) g.none))) (g.part (g.list (p 20 27 61 75) (g.part (g.list (p 21 25 62 72) (g.part (g.atom (p 22 22 63 64) (g.spelled (k.Name (codes "_") false))) (g.tail (g.atom (p 24 24 67 71) (g.spelled (k.Name (codes "rest") false)))))) (g.part (g.atom (p 26 26 73 74) (g.spelled (k.Name (codes "g") false))) g.none))) g.none))))) g.none))))) ∷ ((g.list (p 30 67 78 181) (g.part (g.atom (p 31 31 79 84) (g.spelled (k.Name (codes "begin") false))) (g.part (g.list (p 32 62 85 171) (g.part (g.atom (p 33 33 86 99) (g.spelled (k.Name (codes "define-syntax") false))) (g.part (g.atom (p 34 34 100 101) (g.spelled (k.Name (codes "m") false))) (g.part (g.list (p 35 61 102 170) (g.part (g.atom (p 36 36 103 115) (g.spelled (k.Name (codes "syntax-rules") false))) (g.part (g.list (p 37 39 116 122) (g.part (g.atom (p 38 38 117 121) (g.spelled (k.Name (codes "else") false))) g.none)) (g.part (g.list (p 40 60 123 169) (g.part (g.list (p 41 46 124 138) (g.part (g.atom (p 42 42 125 126) (g.spelled (k.Name (codes "_") false))) (g.part (g.atom (p 43 43 127 131) (g.spelled (k.Name (codes "else") false))) (g.part (g.atom (p 44 44 132 133) (g.spelled (k.Name (codes "b") false))) (g.part (g.atom (p 45 45 134 137) (g.spelled (k.Name (codes "...") false))) g.none))))) (g.part (g.list (p 47 59 139 168) (g.part (g.atom (p 48 48 140 145) (g.spelled (k.Name (codes "begin") false))) (g.part (g.list (p 49 58 146 167) (g.part (g.atom (p 50 50 147 153) (g.spelled (k.Name (codes "define") false))) (g.part (g.atom (p 51 51 154 155) (g.spelled (k.Name (codes "a") false))) (g.part (g.list (p 52 57 156 166) (g.part (g.atom (p 53 53 157 159) (g.spelled (k.Name (codes "if") false))) (g.part (g.atom (p 54 54 160 161) (g.spelled (k.Name (codes "x") false))) (g.part (g.atom (p 55 55 162 163) (g.spelled (k.Name (codes "k") false))) (g.part (g.atom (p 56 56 164 165) (g.spelled (k.Name (codes "k") false))) g.none))))) g.none)))) g.none))) g.none))) g.none)))) g.none)))) (g.part (g.list (p 63 66 172 180) (g.part (g.atom (p 64 64 173 174) (g.spelled (k.Name (codes "m") false))) (g.part (g.atom (p 65 65 175 179) (g.spelled (k.Name (codes "else") false))) g.none))) g.none))))) ∷ []) ((s 0 1) ∷ (s 1 14) ∷ (s 15 18) ∷ (s 19 20) ∷ (s 20 32) ∷ (s 33 34) ∷ (s 34 35) ∷ (s 36 37) ∷ (s 37 38) ∷ (s 38 39) ∷ (s 40 41) ∷ (s 42 45) ∷ (s 46 47) ∷ (s 47 48) ∷ (s 49 50) ∷ (s 50 54) ∷ (s 55 56) ∷ (s 57 58) ∷ (s 58 59) ∷ (s 59 60) ∷ (s 61 62) ∷ (s 62 63) ∷ (s 63 64) ∷ (s 65 66) ∷ (s 67 71) ∷ (s 71 72) ∷ (s 73 74) ∷ (s 74 75) ∷ (s 75 76) ∷ (s 76 77) ∷ (s 78 79) ∷ (s 79 84) ∷ (s 85 86) ∷ (s 86 99) ∷ (s 100 101) ∷ (s 102 103) ∷ (s 103 115) ∷ (s 116 117) ∷ (s 117 121) ∷ (s 121 122) ∷ (s 123 124) ∷ (s 124 125) ∷ (s 125 126) ∷ (s 127 131) ∷ (s 132 133) ∷ (s 134 137) ∷ (s 137 138) ∷ (s 139 140) ∷ (s 140 145) ∷ (s 146 147) ∷ (s 147 153) ∷ (s 154 155) ∷ (s 156 157) ∷ (s 157 159) ∷ (s 160 161) ∷ (s 162 163) ∷ (s 164 165) ∷ (s 165 166) ∷ (s 166 167) ∷ (s 167 168) ∷ (s 168 169) ∷ (s 169 170) ∷ (s 170 171) ∷ (s 172 173) ∷ (s 173 174) ∷ (s 175 179) ∷ (s 179 180) ∷ (s 180 181) ∷ [])) ∷ []) (Some (codes "zz")) (((40 ∷ 100 ∷ 101 ∷ 102 ∷ 105 ∷ 110 ∷ 101 ∷ 45 ∷ 115 ∷ 121 ∷ 110 ∷ 116 ∷ 97 ∷ 120 ∷ 32 ∷ 116 ∷ 109 ∷ 112 ∷ 32 ∷ 40 ∷ 115 ∷ 121 ∷ 110 ∷ 116 ∷ 97 ∷ 120 ∷ 45 ∷ 114 ∷ 117 ∷ 108 ∷ 101 ∷ 115 ∷ 32 ∷ 40 ∷ 41 ∷ 32 ∷ 40 ∷ 40 ∷ 95 ∷ 32 ∷ 97 ∷ 32 ∷ 46 ∷ 46 ∷ 46 ∷ 32 ∷ 98 ∷ 41 ∷ 32 ∷ 40 ∷ 115 ∷ 101 ∷ 116 ∷ 33 ∷ 32 ∷ 98 ∷ 32 ∷ 98 ∷ 41 ∷ 41 ∷ 32 ∷ 40 ∷ 40 ∷ 95 ∷ 32 ∷ 46 ∷ 32 ∷ 114 ∷ 101 ∷ 115 ∷ 116 ∷ 41 ∷ 32 ∷ 103 ∷ 41 ∷ 41 ∷ 41 ∷ 10 ∷ 40 ∷ 98 ∷ 101 ∷ 103 ∷ 105 ∷ 110 ∷ 32 ∷ 40 ∷ 100 ∷ 101 ∷ 102 ∷ 105 ∷ 110 ∷ 101 ∷ 45 ∷ 115 ∷ 121 ∷ 110 ∷ 116 ∷ 97 ∷ 120 ∷ 32 ∷ 109 ∷ 32 ∷ 40 ∷ 115 ∷ 121 ∷ 110 ∷ 116 ∷ 97 ∷ 120 ∷ 45 ∷ 114 ∷ 117 ∷ 108 ∷ 101 ∷ 115 ∷ 32 ∷ 40 ∷ 101 ∷ 108 ∷ 115 ∷ 101 ∷ 41 ∷ 32 ∷ 40 ∷ 40 ∷ 95 ∷ 32 ∷ 101 ∷ 108 ∷ 115 ∷ 101 ∷ 32 ∷ 98 ∷ 32 ∷ 46 ∷ 46 ∷ 46 ∷ 41 ∷ 32 ∷ 40 ∷ 98 ∷ 101 ∷ 103 ∷ 105 ∷ 110 ∷ 32 ∷ 40 ∷ 100 ∷ 101 ∷ 102 ∷ 105 ∷ 110 ∷ 101 ∷ 32 ∷ 97 ∷ 32 ∷ 40 ∷ 105 ∷ 102 ∷ 32 ∷ 120 ∷ 32 ∷ 107 ∷ 32 ∷ 107 ∷ 41 ∷ 41 ∷ 41 ∷ 41 ∷ 41 ∷ 41 ∷ 32 ∷ 40 ∷ 109 ∷ 32 ∷ 101 ∷ 108 ∷ 115 ∷ 101 ∷ 41 ∷ 41 ∷ [])) ∷ []) 0 173 (codes "zz") ≡ w.Edits ((es 0 ((e 100 101 (codes "zz")) ∷ (e 173 174 (codes "zz")) ∷ [])) ∷ [])
unfolding base_names standard_libraries prelude encode_utf8 chars spelled is_numeral is_identifier is_initial is_subsequent
renames-25 = refl

pub renames-26 : rename_rows (((40 ∷ 100 ∷ 101 ∷ 102 ∷ 105 ∷ 110 ∷ 101 ∷ 45 ∷ 115 ∷ 121 ∷ 110 ∷ 116 ∷ 97 ∷ 120 ∷ 32 ∷ 116 ∷ 109 ∷ 112 ∷ 32 ∷ 40 ∷ 115 ∷ 121 ∷ 110 ∷ 116 ∷ 97 ∷ 120 ∷ 45 ∷ 114 ∷ 117 ∷ 108 ∷ 101 ∷ 115 ∷ 32 ∷ 40 ∷ 41 ∷ 32 ∷ 40 ∷ 40 ∷ 95 ∷ 32 ∷ 97 ∷ 32 ∷ 46 ∷ 46 ∷ 46 ∷ 32 ∷ 98 ∷ 41 ∷ 32 ∷ 40 ∷ 115 ∷ 101 ∷ 116 ∷ 33 ∷ 32 ∷ 98 ∷ 32 ∷ 98 ∷ 41 ∷ 41 ∷ 32 ∷ 40 ∷ 40 ∷ 95 ∷ 32 ∷ 46 ∷ 32 ∷ 114 ∷ 101 ∷ 115 ∷ 116 ∷ 41 ∷ 32 ∷ 103 ∷ 41 ∷ 41 ∷ 41 ∷ 10 ∷ 40 ∷ 98 ∷ 101 ∷ 103 ∷ 105 ∷ 110 ∷ 32 ∷ 40 ∷ 100 ∷ 101 ∷ 102 ∷ 105 ∷ 110 ∷ 101 ∷ 45 ∷ 115 ∷ 121 ∷ 110 ∷ 116 ∷ 97 ∷ 120 ∷ 32 ∷ 109 ∷ 32 ∷ 40 ∷ 115 ∷ 121 ∷ 110 ∷ 116 ∷ 97 ∷ 120 ∷ 45 ∷ 114 ∷ 117 ∷ 108 ∷ 101 ∷ 115 ∷ 32 ∷ 40 ∷ 101 ∷ 108 ∷ 115 ∷ 101 ∷ 41 ∷ 32 ∷ 40 ∷ 40 ∷ 95 ∷ 32 ∷ 101 ∷ 108 ∷ 115 ∷ 101 ∷ 32 ∷ 98 ∷ 32 ∷ 46 ∷ 46 ∷ 46 ∷ 41 ∷ 32 ∷ 40 ∷ 98 ∷ 101 ∷ 103 ∷ 105 ∷ 110 ∷ 32 ∷ 40 ∷ 100 ∷ 101 ∷ 102 ∷ 105 ∷ 110 ∷ 101 ∷ 32 ∷ 97 ∷ 32 ∷ 40 ∷ 105 ∷ 102 ∷ 32 ∷ 120 ∷ 32 ∷ 107 ∷ 32 ∷ 107 ∷ 41 ∷ 41 ∷ 41 ∷ 41 ∷ 41 ∷ 41 ∷ 32 ∷ 40 ∷ 109 ∷ 32 ∷ 101 ∷ 108 ∷ 115 ∷ 101 ∷ 41 ∷ 41 ∷ []), r (((g.list (p 0 29 0 77) (g.part (g.atom (p 1 1 1 14) (g.spelled (k.Name (codes "define-syntax") false))) (g.part (g.atom (p 2 2 15 18) (g.spelled (k.Name (codes "tmp") false))) (g.part (g.list (p 3 28 19 76) (g.part (g.atom (p 4 4 20 32) (g.spelled (k.Name (codes "syntax-rules") false))) (g.part (g.list (p 5 6 33 35) g.none) (g.part (g.list (p 7 19 36 60) (g.part (g.list (p 8 13 37 48) (g.part (g.atom (p 9 9 38 39) (g.spelled (k.Name (codes "_") false))) (g.part (g.atom (p 10 10 40 41) (g.spelled (k.Name (codes "a") false))) (g.part (g.atom (p 11 11 42 45) (g.spelled (k.Name (codes "...") false))) (g.part (g.atom (p 12 12 46 47) (g.spelled (k.Name (codes "b") false))) g.none))))) (g.part (g.list (p 14 18 49 59) (g.part (g.atom (p 15 15 50 54) (g.spelled (k.Name (codes "set!") false))) (g.part (g.atom (p 16 16 55 56) (g.spelled (k.Name (codes "b") false))) (g.part (g.atom (p 17 17 57 58) (g.spelled (k.Name (codes "b") false))) g.none)))) g.none))) (g.part (g.list (p 20 27 61 75) (g.part (g.list (p 21 25 62 72) (g.part (g.atom (p 22 22 63 64) (g.spelled (k.Name (codes "_") false))) (g.tail (g.atom (p 24 24 67 71) (g.spelled (k.Name (codes "rest") false)))))) (g.part (g.atom (p 26 26 73 74) (g.spelled (k.Name (codes "g") false))) g.none))) g.none))))) g.none))))) ∷ ((g.list (p 30 67 78 181) (g.part (g.atom (p 31 31 79 84) (g.spelled (k.Name (codes "begin") false))) (g.part (g.list (p 32 62 85 171) (g.part (g.atom (p 33 33 86 99) (g.spelled (k.Name (codes "define-syntax") false))) (g.part (g.atom (p 34 34 100 101) (g.spelled (k.Name (codes "m") false))) (g.part (g.list (p 35 61 102 170) (g.part (g.atom (p 36 36 103 115) (g.spelled (k.Name (codes "syntax-rules") false))) (g.part (g.list (p 37 39 116 122) (g.part (g.atom (p 38 38 117 121) (g.spelled (k.Name (codes "else") false))) g.none)) (g.part (g.list (p 40 60 123 169) (g.part (g.list (p 41 46 124 138) (g.part (g.atom (p 42 42 125 126) (g.spelled (k.Name (codes "_") false))) (g.part (g.atom (p 43 43 127 131) (g.spelled (k.Name (codes "else") false))) (g.part (g.atom (p 44 44 132 133) (g.spelled (k.Name (codes "b") false))) (g.part (g.atom (p 45 45 134 137) (g.spelled (k.Name (codes "...") false))) g.none))))) (g.part (g.list (p 47 59 139 168) (g.part (g.atom (p 48 48 140 145) (g.spelled (k.Name (codes "begin") false))) (g.part (g.list (p 49 58 146 167) (g.part (g.atom (p 50 50 147 153) (g.spelled (k.Name (codes "define") false))) (g.part (g.atom (p 51 51 154 155) (g.spelled (k.Name (codes "a") false))) (g.part (g.list (p 52 57 156 166) (g.part (g.atom (p 53 53 157 159) (g.spelled (k.Name (codes "if") false))) (g.part (g.atom (p 54 54 160 161) (g.spelled (k.Name (codes "x") false))) (g.part (g.atom (p 55 55 162 163) (g.spelled (k.Name (codes "k") false))) (g.part (g.atom (p 56 56 164 165) (g.spelled (k.Name (codes "k") false))) g.none))))) g.none)))) g.none))) g.none))) g.none)))) g.none)))) (g.part (g.list (p 63 66 172 180) (g.part (g.atom (p 64 64 173 174) (g.spelled (k.Name (codes "m") false))) (g.part (g.atom (p 65 65 175 179) (g.spelled (k.Name (codes "else") false))) g.none))) g.none))))) ∷ []) ((s 0 1) ∷ (s 1 14) ∷ (s 15 18) ∷ (s 19 20) ∷ (s 20 32) ∷ (s 33 34) ∷ (s 34 35) ∷ (s 36 37) ∷ (s 37 38) ∷ (s 38 39) ∷ (s 40 41) ∷ (s 42 45) ∷ (s 46 47) ∷ (s 47 48) ∷ (s 49 50) ∷ (s 50 54) ∷ (s 55 56) ∷ (s 57 58) ∷ (s 58 59) ∷ (s 59 60) ∷ (s 61 62) ∷ (s 62 63) ∷ (s 63 64) ∷ (s 65 66) ∷ (s 67 71) ∷ (s 71 72) ∷ (s 73 74) ∷ (s 74 75) ∷ (s 75 76) ∷ (s 76 77) ∷ (s 78 79) ∷ (s 79 84) ∷ (s 85 86) ∷ (s 86 99) ∷ (s 100 101) ∷ (s 102 103) ∷ (s 103 115) ∷ (s 116 117) ∷ (s 117 121) ∷ (s 121 122) ∷ (s 123 124) ∷ (s 124 125) ∷ (s 125 126) ∷ (s 127 131) ∷ (s 132 133) ∷ (s 134 137) ∷ (s 137 138) ∷ (s 139 140) ∷ (s 140 145) ∷ (s 146 147) ∷ (s 147 153) ∷ (s 154 155) ∷ (s 156 157) ∷ (s 157 159) ∷ (s 160 161) ∷ (s 162 163) ∷ (s 164 165) ∷ (s 165 166) ∷ (s 166 167) ∷ (s 167 168) ∷ (s 168 169) ∷ (s 169 170) ∷ (s 170 171) ∷ (s 172 173) ∷ (s 173 174) ∷ (s 175 179) ∷ (s 179 180) ∷ (s 180 181) ∷ [])) ∷ []) (Some (codes "if")) (((40 ∷ 100 ∷ 101 ∷ 102 ∷ 105 ∷ 110 ∷ 101 ∷ 45 ∷ 115 ∷ 121 ∷ 110 ∷ 116 ∷ 97 ∷ 120 ∷ 32 ∷ 116 ∷ 109 ∷ 112 ∷ 32 ∷ 40 ∷ 115 ∷ 121 ∷ 110 ∷ 116 ∷ 97 ∷ 120 ∷ 45 ∷ 114 ∷ 117 ∷ 108 ∷ 101 ∷ 115 ∷ 32 ∷ 40 ∷ 41 ∷ 32 ∷ 40 ∷ 40 ∷ 95 ∷ 32 ∷ 97 ∷ 32 ∷ 46 ∷ 46 ∷ 46 ∷ 32 ∷ 98 ∷ 41 ∷ 32 ∷ 40 ∷ 115 ∷ 101 ∷ 116 ∷ 33 ∷ 32 ∷ 98 ∷ 32 ∷ 98 ∷ 41 ∷ 41 ∷ 32 ∷ 40 ∷ 40 ∷ 95 ∷ 32 ∷ 46 ∷ 32 ∷ 114 ∷ 101 ∷ 115 ∷ 116 ∷ 41 ∷ 32 ∷ 103 ∷ 41 ∷ 41 ∷ 41 ∷ 10 ∷ 40 ∷ 98 ∷ 101 ∷ 103 ∷ 105 ∷ 110 ∷ 32 ∷ 40 ∷ 100 ∷ 101 ∷ 102 ∷ 105 ∷ 110 ∷ 101 ∷ 45 ∷ 115 ∷ 121 ∷ 110 ∷ 116 ∷ 97 ∷ 120 ∷ 32 ∷ 109 ∷ 32 ∷ 40 ∷ 115 ∷ 121 ∷ 110 ∷ 116 ∷ 97 ∷ 120 ∷ 45 ∷ 114 ∷ 117 ∷ 108 ∷ 101 ∷ 115 ∷ 32 ∷ 40 ∷ 101 ∷ 108 ∷ 115 ∷ 101 ∷ 41 ∷ 32 ∷ 40 ∷ 40 ∷ 95 ∷ 32 ∷ 101 ∷ 108 ∷ 115 ∷ 101 ∷ 32 ∷ 98 ∷ 32 ∷ 46 ∷ 46 ∷ 46 ∷ 41 ∷ 32 ∷ 40 ∷ 98 ∷ 101 ∷ 103 ∷ 105 ∷ 110 ∷ 32 ∷ 40 ∷ 100 ∷ 101 ∷ 102 ∷ 105 ∷ 110 ∷ 101 ∷ 32 ∷ 97 ∷ 32 ∷ 40 ∷ 105 ∷ 102 ∷ 32 ∷ 120 ∷ 32 ∷ 107 ∷ 32 ∷ 107 ∷ 41 ∷ 41 ∷ 41 ∷ 41 ∷ 41 ∷ 41 ∷ 32 ∷ 40 ∷ 109 ∷ 32 ∷ 101 ∷ 108 ∷ 115 ∷ 101 ∷ 41 ∷ 41 ∷ [])) ∷ []) 0 46 (codes "if") ≡ w.Edits ((es 0 ((e 46 47 (codes "if")) ∷ (e 55 56 (codes "if")) ∷ (e 57 58 (codes "if")) ∷ [])) ∷ [])
unfolding base_names standard_libraries prelude encode_utf8 chars spelled is_numeral is_identifier is_initial is_subsequent
renames-26 = refl

pub renames-31 : rename_rows (((40 ∷ 105 ∷ 109 ∷ 112 ∷ 111 ∷ 114 ∷ 116 ∷ 32 ∷ 40 ∷ 115 ∷ 99 ∷ 104 ∷ 101 ∷ 109 ∷ 101 ∷ 32 ∷ 98 ∷ 97 ∷ 115 ∷ 101 ∷ 41 ∷ 41 ∷ 10 ∷ 40 ∷ 100 ∷ 101 ∷ 102 ∷ 105 ∷ 110 ∷ 101 ∷ 45 ∷ 115 ∷ 121 ∷ 110 ∷ 116 ∷ 97 ∷ 120 ∷ 32 ∷ 116 ∷ 32 ∷ 40 ∷ 115 ∷ 121 ∷ 110 ∷ 116 ∷ 97 ∷ 120 ∷ 45 ∷ 114 ∷ 117 ∷ 108 ∷ 101 ∷ 115 ∷ 32 ∷ 40 ∷ 41 ∷ 32 ∷ 40 ∷ 40 ∷ 95 ∷ 32 ∷ 40 ∷ 110 ∷ 32 ∷ 116 ∷ 109 ∷ 112 ∷ 41 ∷ 32 ∷ 46 ∷ 46 ∷ 46 ∷ 41 ∷ 32 ∷ 40 ∷ 98 ∷ 101 ∷ 103 ∷ 105 ∷ 110 ∷ 32 ∷ 40 ∷ 100 ∷ 101 ∷ 102 ∷ 105 ∷ 110 ∷ 101 ∷ 32 ∷ 116 ∷ 32 ∷ 40 ∷ 108 ∷ 105 ∷ 115 ∷ 116 ∷ 32 ∷ 40 ∷ 99 ∷ 97 ∷ 114 ∷ 32 ∷ 116 ∷ 109 ∷ 112 ∷ 41 ∷ 32 ∷ 46 ∷ 46 ∷ 46 ∷ 32 ∷ 121 ∷ 41 ∷ 41 ∷ 41 ∷ 41 ∷ 41 ∷ 41 ∷ 10 ∷ 50 ∷ 10 ∷ 40 ∷ 100 ∷ 101 ∷ 102 ∷ 105 ∷ 110 ∷ 101 ∷ 45 ∷ 115 ∷ 121 ∷ 110 ∷ 116 ∷ 97 ∷ 120 ∷ 32 ∷ 121 ∷ 32 ∷ 40 ∷ 115 ∷ 121 ∷ 110 ∷ 116 ∷ 97 ∷ 120 ∷ 45 ∷ 114 ∷ 117 ∷ 108 ∷ 101 ∷ 115 ∷ 32 ∷ 40 ∷ 41 ∷ 32 ∷ 40 ∷ 40 ∷ 95 ∷ 32 ∷ 40 ∷ 98 ∷ 32 ∷ 116 ∷ 109 ∷ 112 ∷ 41 ∷ 32 ∷ 46 ∷ 46 ∷ 46 ∷ 41 ∷ 32 ∷ 40 ∷ 98 ∷ 101 ∷ 103 ∷ 105 ∷ 110 ∷ 32 ∷ 40 ∷ 100 ∷ 101 ∷ 102 ∷ 105 ∷ 110 ∷ 101 ∷ 32 ∷ 120 ∷ 32 ∷ 40 ∷ 108 ∷ 101 ∷ 116 ∷ 45 ∷ 115 ∷ 121 ∷ 110 ∷ 116 ∷ 97 ∷ 120 ∷ 32 ∷ 40 ∷ 40 ∷ 120 ∷ 32 ∷ 40 ∷ 115 ∷ 121 ∷ 110 ∷ 116 ∷ 97 ∷ 120 ∷ 45 ∷ 114 ∷ 117 ∷ 108 ∷ 101 ∷ 115 ∷ 32 ∷ 40 ∷ 41 ∷ 32 ∷ 40 ∷ 40 ∷ 95 ∷ 32 ∷ 120 ∷ 41 ∷ 32 ∷ 40 ∷ 108 ∷ 105 ∷ 115 ∷ 116 ∷ 32 ∷ 116 ∷ 32 ∷ 120 ∷ 41 ∷ 41 ∷ 41 ∷ 41 ∷ 41 ∷ 32 ∷ 40 ∷ 120 ∷ 32 ∷ 116 ∷ 41 ∷ 41 ∷ 41 ∷ 32 ∷ 40 ∷ 100 ∷ 101 ∷ 102 ∷ 105 ∷ 110 ∷ 101 ∷ 32 ∷ 120 ∷ 32 ∷ 40 ∷ 116 ∷ 41 ∷ 41 ∷ 41 ∷ 41 ∷ 41 ∷ 41 ∷ []), r (((g.list (p 0 6 0 22) (g.part (g.atom (p 1 1 1 7) (g.spelled (k.Name (codes "import") false))) (g.part (g.list (p 2 5 8 21) (g.part (g.atom (p 3 3 9 15) (g.spelled (k.Name (codes "scheme") false))) (g.part (g.atom (p 4 4 16 20) (g.spelled (k.Name (codes "base") false))) g.none))) g.none)))) ∷ ((g.list (p 7 41 23 118) (g.part (g.atom (p 8 8 24 37) (g.spelled (k.Name (codes "define-syntax") false))) (g.part (g.atom (p 9 9 38 39) (g.spelled (k.Name (codes "t") false))) (g.part (g.list (p 10 40 40 117) (g.part (g.atom (p 11 11 41 53) (g.spelled (k.Name (codes "syntax-rules") false))) (g.part (g.list (p 12 13 54 56) g.none) (g.part (g.list (p 14 39 57 116) (g.part (g.list (p 15 22 58 73) (g.part (g.atom (p 16 16 59 60) (g.spelled (k.Name (codes "_") false))) (g.part (g.list (p 17 20 61 68) (g.part (g.atom (p 18 18 62 63) (g.spelled (k.Name (codes "n") false))) (g.part (g.atom (p 19 19 64 67) (g.spelled (k.Name (codes "tmp") false))) g.none))) (g.part (g.atom (p 21 21 69 72) (g.spelled (k.Name (codes "...") false))) g.none)))) (g.part (g.list (p 23 38 74 115) (g.part (g.atom (p 24 24 75 80) (g.spelled (k.Name (codes "begin") false))) (g.part (g.list (p 25 37 81 114) (g.part (g.atom (p 26 26 82 88) (g.spelled (k.Name (codes "define") false))) (g.part (g.atom (p 27 27 89 90) (g.spelled (k.Name (codes "t") false))) (g.part (g.list (p 28 36 91 113) (g.part (g.atom (p 29 29 92 96) (g.spelled (k.Name (codes "list") false))) (g.part (g.list (p 30 33 97 106) (g.part (g.atom (p 31 31 98 101) (g.spelled (k.Name (codes "car") false))) (g.part (g.atom (p 32 32 102 105) (g.spelled (k.Name (codes "tmp") false))) g.none))) (g.part (g.atom (p 34 34 107 110) (g.spelled (k.Name (codes "...") false))) (g.part (g.atom (p 35 35 111 112) (g.spelled (k.Name (codes "y") false))) g.none))))) g.none)))) g.none))) g.none))) g.none)))) g.none))))) ∷ ((g.atom (p 42 42 119 120) (g.spelled (k.Numeral (codes "2"))))) ∷ ((g.list (p 43 103 121 270) (g.part (g.atom (p 44 44 122 135) (g.spelled (k.Name (codes "define-syntax") false))) (g.part (g.atom (p 45 45 136 137) (g.spelled (k.Name (codes "y") false))) (g.part (g.list (p 46 102 138 269) (g.part (g.atom (p 47 47 139 151) (g.spelled (k.Name (codes "syntax-rules") false))) (g.part (g.list (p 48 49 152 154) g.none) (g.part (g.list (p 50 101 155 268) (g.part (g.list (p 51 58 156 171) (g.part (g.atom (p 52 52 157 158) (g.spelled (k.Name (codes "_") false))) (g.part (g.list (p 53 56 159 166) (g.part (g.atom (p 54 54 160 161) (g.spelled (k.Name (codes "b") false))) (g.part (g.atom (p 55 55 162 165) (g.spelled (k.Name (codes "tmp") false))) g.none))) (g.part (g.atom (p 57 57 167 170) (g.spelled (k.Name (codes "...") false))) g.none)))) (g.part (g.list (p 59 100 172 267) (g.part (g.atom (p 60 60 173 178) (g.spelled (k.Name (codes "begin") false))) (g.part (g.list (p 61 92 179 251) (g.part (g.atom (p 62 62 180 186) (g.spelled (k.Name (codes "define") false))) (g.part (g.atom (p 63 63 187 188) (g.spelled (k.Name (codes "x") false))) (g.part (g.list (p 64 91 189 250) (g.part (g.atom (p 65 65 190 200) (g.spelled (k.Name (codes "let-syntax") false))) (g.part (g.list (p 66 86 201 243) (g.part (g.list (p 67 85 202 242) (g.part (g.atom (p 68 68 203 204) (g.spelled (k.Name (codes "x") false))) (g.part (g.list (p 69 84 205 241) (g.part (g.atom (p 70 70 206 218) (g.spelled (k.Name (codes "syntax-rules") false))) (g.part (g.list (p 71 72 219 221) g.none) (g.part (g.list (p 73 83 222 240) (g.part (g.list (p 74 77 223 228) (g.part (g.atom (p 75 75 224 225) (g.spelled (k.Name (codes "_") false))) (g.part (g.atom (p 76 76 226 227) (g.spelled (k.Name (codes "x") false))) g.none))) (g.part (g.list (p 78 82 229 239) (g.part (g.atom (p 79 79 230 234) (g.spelled (k.Name (codes "list") false))) (g.part (g.atom (p 80 80 235 236) (g.spelled (k.Name (codes "t") false))) (g.part (g.atom (p 81 81 237 238) (g.spelled (k.Name (codes "x") false))) g.none)))) g.none))) g.none)))) g.none))) g.none)) (g.part (g.list (p 87 90 244 249) (g.part (g.atom (p 88 88 245 246) (g.spelled (k.Name (codes "x") false))) (g.part (g.atom (p 89 89 247 248) (g.spelled (k.Name (codes "t") false))) g.none))) g.none)))) g.none)))) (g.part (g.list (p 93 99 252 266) (g.part (g.atom (p 94 94 253 259) (g.spelled (k.Name (codes "define") false))) (g.part (g.atom (p 95 95 260 261) (g.spelled (k.Name (codes "x") false))) (g.part (g.list (p 96 98 262 265) (g.part (g.atom (p 97 97 263 264) (g.spelled (k.Name (codes "t") false))) g.none)) g.none)))) g.none)))) g.none))) g.none)))) g.none))))) ∷ []) ((s 0 1) ∷ (s 1 7) ∷ (s 8 9) ∷ (s 9 15) ∷ (s 16 20) ∷ (s 20 21) ∷ (s 21 22) ∷ (s 23 24) ∷ (s 24 37) ∷ (s 38 39) ∷ (s 40 41) ∷ (s 41 53) ∷ (s 54 55) ∷ (s 55 56) ∷ (s 57 58) ∷ (s 58 59) ∷ (s 59 60) ∷ (s 61 62) ∷ (s 62 63) ∷ (s 64 67) ∷ (s 67 68) ∷ (s 69 72) ∷ (s 72 73) ∷ (s 74 75) ∷ (s 75 80) ∷ (s 81 82) ∷ (s 82 88) ∷ (s 89 90) ∷ (s 91 92) ∷ (s 92 96) ∷ (s 97 98) ∷ (s 98 101) ∷ (s 102 105) ∷ (s 105 106) ∷ (s 107 110) ∷ (s 111 112) ∷ (s 112 113) ∷ (s 113 114) ∷ (s 114 115) ∷ (s 115 116) ∷ (s 116 117) ∷ (s 117 118) ∷ (s 119 120) ∷ (s 121 122) ∷ (s 122 135) ∷ (s 136 137) ∷ (s 138 139) ∷ (s 139 151) ∷ (s 152 153) ∷ (s 153 154) ∷ (s 155 156) ∷ (s 156 157) ∷ (s 157 158) ∷ (s 159 160) ∷ (s 160 161) ∷ (s 162 165) ∷ (s 165 166) ∷ (s 167 170) ∷ (s 170 171) ∷ (s 172 173) ∷ (s 173 178) ∷ (s 179 180) ∷ (s 180 186) ∷ (s 187 188) ∷ (s 189 190) ∷ (s 190 200) ∷ (s 201 202) ∷ (s 202 203) ∷ (s 203 204) ∷ (s 205 206) ∷ (s 206 218) ∷ (s 219 220) ∷ (s 220 221) ∷ (s 222 223) ∷ (s 223 224) ∷ (s 224 225) ∷ (s 226 227) ∷ (s 227 228) ∷ (s 229 230) ∷ (s 230 234) ∷ (s 235 236) ∷ (s 237 238) ∷ (s 238 239) ∷ (s 239 240) ∷ (s 240 241) ∷ (s 241 242) ∷ (s 242 243) ∷ (s 244 245) ∷ (s 245 246) ∷ (s 247 248) ∷ (s 248 249) ∷ (s 249 250) ∷ (s 250 251) ∷ (s 252 253) ∷ (s 253 259) ∷ (s 260 261) ∷ (s 262 263) ∷ (s 263 264) ∷ (s 264 265) ∷ (s 265 266) ∷ (s 266 267) ∷ (s 267 268) ∷ (s 268 269) ∷ (s 269 270) ∷ [])) ∷ []) (Some (codes "zz")) (((40 ∷ 105 ∷ 109 ∷ 112 ∷ 111 ∷ 114 ∷ 116 ∷ 32 ∷ 40 ∷ 115 ∷ 99 ∷ 104 ∷ 101 ∷ 109 ∷ 101 ∷ 32 ∷ 98 ∷ 97 ∷ 115 ∷ 101 ∷ 41 ∷ 41 ∷ 10 ∷ 40 ∷ 100 ∷ 101 ∷ 102 ∷ 105 ∷ 110 ∷ 101 ∷ 45 ∷ 115 ∷ 121 ∷ 110 ∷ 116 ∷ 97 ∷ 120 ∷ 32 ∷ 116 ∷ 32 ∷ 40 ∷ 115 ∷ 121 ∷ 110 ∷ 116 ∷ 97 ∷ 120 ∷ 45 ∷ 114 ∷ 117 ∷ 108 ∷ 101 ∷ 115 ∷ 32 ∷ 40 ∷ 41 ∷ 32 ∷ 40 ∷ 40 ∷ 95 ∷ 32 ∷ 40 ∷ 110 ∷ 32 ∷ 116 ∷ 109 ∷ 112 ∷ 41 ∷ 32 ∷ 46 ∷ 46 ∷ 46 ∷ 41 ∷ 32 ∷ 40 ∷ 98 ∷ 101 ∷ 103 ∷ 105 ∷ 110 ∷ 32 ∷ 40 ∷ 100 ∷ 101 ∷ 102 ∷ 105 ∷ 110 ∷ 101 ∷ 32 ∷ 116 ∷ 32 ∷ 40 ∷ 108 ∷ 105 ∷ 115 ∷ 116 ∷ 32 ∷ 40 ∷ 99 ∷ 97 ∷ 114 ∷ 32 ∷ 116 ∷ 109 ∷ 112 ∷ 41 ∷ 32 ∷ 46 ∷ 46 ∷ 46 ∷ 32 ∷ 121 ∷ 41 ∷ 41 ∷ 41 ∷ 41 ∷ 41 ∷ 41 ∷ 10 ∷ 50 ∷ 10 ∷ 40 ∷ 100 ∷ 101 ∷ 102 ∷ 105 ∷ 110 ∷ 101 ∷ 45 ∷ 115 ∷ 121 ∷ 110 ∷ 116 ∷ 97 ∷ 120 ∷ 32 ∷ 121 ∷ 32 ∷ 40 ∷ 115 ∷ 121 ∷ 110 ∷ 116 ∷ 97 ∷ 120 ∷ 45 ∷ 114 ∷ 117 ∷ 108 ∷ 101 ∷ 115 ∷ 32 ∷ 40 ∷ 41 ∷ 32 ∷ 40 ∷ 40 ∷ 95 ∷ 32 ∷ 40 ∷ 98 ∷ 32 ∷ 116 ∷ 109 ∷ 112 ∷ 41 ∷ 32 ∷ 46 ∷ 46 ∷ 46 ∷ 41 ∷ 32 ∷ 40 ∷ 98 ∷ 101 ∷ 103 ∷ 105 ∷ 110 ∷ 32 ∷ 40 ∷ 100 ∷ 101 ∷ 102 ∷ 105 ∷ 110 ∷ 101 ∷ 32 ∷ 120 ∷ 32 ∷ 40 ∷ 108 ∷ 101 ∷ 116 ∷ 45 ∷ 115 ∷ 121 ∷ 110 ∷ 116 ∷ 97 ∷ 120 ∷ 32 ∷ 40 ∷ 40 ∷ 120 ∷ 32 ∷ 40 ∷ 115 ∷ 121 ∷ 110 ∷ 116 ∷ 97 ∷ 120 ∷ 45 ∷ 114 ∷ 117 ∷ 108 ∷ 101 ∷ 115 ∷ 32 ∷ 40 ∷ 41 ∷ 32 ∷ 40 ∷ 40 ∷ 95 ∷ 32 ∷ 120 ∷ 41 ∷ 32 ∷ 40 ∷ 108 ∷ 105 ∷ 115 ∷ 116 ∷ 32 ∷ 116 ∷ 32 ∷ 120 ∷ 41 ∷ 41 ∷ 41 ∷ 41 ∷ 41 ∷ 32 ∷ 40 ∷ 120 ∷ 32 ∷ 116 ∷ 41 ∷ 41 ∷ 41 ∷ 32 ∷ 40 ∷ 100 ∷ 101 ∷ 102 ∷ 105 ∷ 110 ∷ 101 ∷ 32 ∷ 120 ∷ 32 ∷ 40 ∷ 116 ∷ 41 ∷ 41 ∷ 41 ∷ 41 ∷ 41 ∷ 41 ∷ [])) ∷ []) 0 247 (codes "zz") ≡ w.Edits ((es 0 ((e 38 39 (codes "zz")) ∷ (e 89 90 (codes "zz")) ∷ (e 235 236 (codes "zz")) ∷ (e 247 248 (codes "zz")) ∷ (e 263 264 (codes "zz")) ∷ [])) ∷ [])
unfolding base_names standard_libraries prelude encode_utf8 chars spelled is_numeral is_identifier is_initial is_subsequent
renames-31 = refl

pub renames-44 : rename_rows (((40 ∷ 105 ∷ 109 ∷ 112 ∷ 111 ∷ 114 ∷ 116 ∷ 32 ∷ 40 ∷ 115 ∷ 99 ∷ 104 ∷ 101 ∷ 109 ∷ 101 ∷ 32 ∷ 98 ∷ 97 ∷ 115 ∷ 101 ∷ 41 ∷ 41 ∷ 10 ∷ 40 ∷ 100 ∷ 101 ∷ 102 ∷ 105 ∷ 110 ∷ 101 ∷ 32 ∷ 40 ∷ 121 ∷ 32 ∷ 120 ∷ 41 ∷ 32 ∷ 40 ∷ 40 ∷ 100 ∷ 111 ∷ 32 ∷ 40 ∷ 40 ∷ 116 ∷ 32 ∷ 97 ∷ 32 ∷ 50 ∷ 41 ∷ 41 ∷ 32 ∷ 40 ∷ 124 ∷ 120 ∷ 124 ∷ 41 ∷ 32 ∷ 98 ∷ 41 ∷ 32 ∷ 40 ∷ 105 ∷ 102 ∷ 32 ∷ 49 ∷ 32 ∷ 97 ∷ 32 ∷ 121 ∷ 41 ∷ 32 ∷ 40 ∷ 121 ∷ 41 ∷ 41 ∷ 41 ∷ 10 ∷ 39 ∷ 116 ∷ 10 ∷ 40 ∷ 100 ∷ 101 ∷ 102 ∷ 105 ∷ 110 ∷ 101 ∷ 32 ∷ 97 ∷ 32 ∷ 97 ∷ 41 ∷ []), r (((g.list (p 0 6 0 22) (g.part (g.atom (p 1 1 1 7) (g.spelled (k.Name (codes "import") false))) (g.part (g.list (p 2 5 8 21) (g.part (g.atom (p 3 3 9 15) (g.spelled (k.Name (codes "scheme") false))) (g.part (g.atom (p 4 4 16 20) (g.spelled (k.Name (codes "base") false))) g.none))) g.none)))) ∷ ((g.list (p 7 38 23 77) (g.part (g.atom (p 8 8 24 30) (g.spelled (k.Name (codes "define") false))) (g.part (g.list (p 9 12 31 36) (g.part (g.atom (p 10 10 32 33) (g.spelled (k.Name (codes "y") false))) (g.part (g.atom (p 11 11 34 35) (g.spelled (k.Name (codes "x") false))) g.none))) (g.part (g.list (p 13 37 37 76) (g.part (g.list (p 14 27 38 60) (g.part (g.atom (p 15 15 39 41) (g.spelled (k.Name (codes "do") false))) (g.part (g.list (p 16 22 42 51) (g.part (g.list (p 17 21 43 50) (g.part (g.atom (p 18 18 44 45) (g.spelled (k.Name (codes "t") false))) (g.part (g.atom (p 19 19 46 47) (g.spelled (k.Name (codes "a") false))) (g.part (g.atom (p 20 20 48 49) (g.spelled (k.Numeral (codes "2")))) g.none)))) g.none)) (g.part (g.list (p 23 25 52 57) (g.part (g.atom (p 24 24 53 56) (g.spelled (k.Name (codes "x") true))) g.none)) (g.part (g.atom (p 26 26 58 59) (g.spelled (k.Name (codes "b") false))) g.none))))) (g.part (g.list (p 28 33 61 71) (g.part (g.atom (p 29 29 62 64) (g.spelled (k.Name (codes "if") false))) (g.part (g.atom (p 30 30 65 66) (g.spelled (k.Numeral (codes "1")))) (g.part (g.atom (p 31 31 67 68) (g.spelled (k.Name (codes "a") false))) (g.part (g.atom (p 32 32 69 70) (g.spelled (k.Name (codes "y") false))) g.none))))) (g.part (g.list (p 34 36 72 75) (g.part (g.atom (p 35 35 73 74) (g.spelled (k.Name (codes "y") false))) g.none)) g.none)))) g.none))))) ∷ ((g.list (p 39 40 78 80) (g.part (g.atom (p 39 39 78 79) (g.implied k.Quote)) (g.part (g.atom (p 40 40 79 80) (g.spelled (k.Name (codes "t") false))) g.none)))) ∷ ((g.list (p 41 45 81 93) (g.part (g.atom (p 42 42 82 88) (g.spelled (k.Name (codes "define") false))) (g.part (g.atom (p 43 43 89 90) (g.spelled (k.Name (codes "a") false))) (g.part (g.atom (p 44 44 91 92) (g.spelled (k.Name (codes "a") false))) g.none))))) ∷ []) ((s 0 1) ∷ (s 1 7) ∷ (s 8 9) ∷ (s 9 15) ∷ (s 16 20) ∷ (s 20 21) ∷ (s 21 22) ∷ (s 23 24) ∷ (s 24 30) ∷ (s 31 32) ∷ (s 32 33) ∷ (s 34 35) ∷ (s 35 36) ∷ (s 37 38) ∷ (s 38 39) ∷ (s 39 41) ∷ (s 42 43) ∷ (s 43 44) ∷ (s 44 45) ∷ (s 46 47) ∷ (s 48 49) ∷ (s 49 50) ∷ (s 50 51) ∷ (s 52 53) ∷ (s 53 56) ∷ (s 56 57) ∷ (s 58 59) ∷ (s 59 60) ∷ (s 61 62) ∷ (s 62 64) ∷ (s 65 66) ∷ (s 67 68) ∷ (s 69 70) ∷ (s 70 71) ∷ (s 72 73) ∷ (s 73 74) ∷ (s 74 75) ∷ (s 75 76) ∷ (s 76 77) ∷ (s 78 79) ∷ (s 79 80) ∷ (s 81 82) ∷ (s 82 88) ∷ (s 89 90) ∷ (s 91 92) ∷ (s 92 93) ∷ [])) ∷ []) (Some (codes "let")) (((40 ∷ 105 ∷ 109 ∷ 112 ∷ 111 ∷ 114 ∷ 116 ∷ 32 ∷ 40 ∷ 115 ∷ 99 ∷ 104 ∷ 101 ∷ 109 ∷ 101 ∷ 32 ∷ 98 ∷ 97 ∷ 115 ∷ 101 ∷ 41 ∷ 41 ∷ 10 ∷ 40 ∷ 100 ∷ 101 ∷ 102 ∷ 105 ∷ 110 ∷ 101 ∷ 32 ∷ 40 ∷ 121 ∷ 32 ∷ 120 ∷ 41 ∷ 32 ∷ 40 ∷ 40 ∷ 100 ∷ 111 ∷ 32 ∷ 40 ∷ 40 ∷ 116 ∷ 32 ∷ 97 ∷ 32 ∷ 50 ∷ 41 ∷ 41 ∷ 32 ∷ 40 ∷ 124 ∷ 120 ∷ 124 ∷ 41 ∷ 32 ∷ 98 ∷ 41 ∷ 32 ∷ 40 ∷ 105 ∷ 102 ∷ 32 ∷ 49 ∷ 32 ∷ 97 ∷ 32 ∷ 121 ∷ 41 ∷ 32 ∷ 40 ∷ 121 ∷ 41 ∷ 41 ∷ 41 ∷ 10 ∷ 39 ∷ 116 ∷ 10 ∷ 40 ∷ 100 ∷ 101 ∷ 102 ∷ 105 ∷ 110 ∷ 101 ∷ 32 ∷ 97 ∷ 32 ∷ 97 ∷ 41 ∷ [])) ∷ []) 0 46 (codes "let") ≡ w.Edits ((es 0 ((e 46 47 (codes "let")) ∷ (e 67 68 (codes "let")) ∷ (e 89 90 (codes "let")) ∷ (e 91 92 (codes "let")) ∷ [])) ∷ [])
unfolding base_names standard_libraries prelude encode_utf8 chars spelled is_numeral is_identifier is_initial is_subsequent
renames-44 = refl

pub renames-45 : rename_rows (((40 ∷ 105 ∷ 109 ∷ 112 ∷ 111 ∷ 114 ∷ 116 ∷ 32 ∷ 40 ∷ 115 ∷ 99 ∷ 104 ∷ 101 ∷ 109 ∷ 101 ∷ 32 ∷ 98 ∷ 97 ∷ 115 ∷ 101 ∷ 41 ∷ 41 ∷ 10 ∷ 40 ∷ 100 ∷ 101 ∷ 102 ∷ 105 ∷ 110 ∷ 101 ∷ 32 ∷ 40 ∷ 121 ∷ 32 ∷ 120 ∷ 41 ∷ 32 ∷ 40 ∷ 40 ∷ 100 ∷ 111 ∷ 32 ∷ 40 ∷ 40 ∷ 116 ∷ 32 ∷ 97 ∷ 32 ∷ 50 ∷ 41 ∷ 41 ∷ 32 ∷ 40 ∷ 124 ∷ 120 ∷ 124 ∷ 41 ∷ 32 ∷ 98 ∷ 41 ∷ 32 ∷ 40 ∷ 105 ∷ 102 ∷ 32 ∷ 49 ∷ 32 ∷ 97 ∷ 32 ∷ 121 ∷ 41 ∷ 32 ∷ 40 ∷ 121 ∷ 41 ∷ 41 ∷ 41 ∷ 10 ∷ 39 ∷ 116 ∷ 10 ∷ 40 ∷ 100 ∷ 101 ∷ 102 ∷ 105 ∷ 110 ∷ 101 ∷ 32 ∷ 97 ∷ 32 ∷ 97 ∷ 41 ∷ []), r (((g.list (p 0 6 0 22) (g.part (g.atom (p 1 1 1 7) (g.spelled (k.Name (codes "import") false))) (g.part (g.list (p 2 5 8 21) (g.part (g.atom (p 3 3 9 15) (g.spelled (k.Name (codes "scheme") false))) (g.part (g.atom (p 4 4 16 20) (g.spelled (k.Name (codes "base") false))) g.none))) g.none)))) ∷ ((g.list (p 7 38 23 77) (g.part (g.atom (p 8 8 24 30) (g.spelled (k.Name (codes "define") false))) (g.part (g.list (p 9 12 31 36) (g.part (g.atom (p 10 10 32 33) (g.spelled (k.Name (codes "y") false))) (g.part (g.atom (p 11 11 34 35) (g.spelled (k.Name (codes "x") false))) g.none))) (g.part (g.list (p 13 37 37 76) (g.part (g.list (p 14 27 38 60) (g.part (g.atom (p 15 15 39 41) (g.spelled (k.Name (codes "do") false))) (g.part (g.list (p 16 22 42 51) (g.part (g.list (p 17 21 43 50) (g.part (g.atom (p 18 18 44 45) (g.spelled (k.Name (codes "t") false))) (g.part (g.atom (p 19 19 46 47) (g.spelled (k.Name (codes "a") false))) (g.part (g.atom (p 20 20 48 49) (g.spelled (k.Numeral (codes "2")))) g.none)))) g.none)) (g.part (g.list (p 23 25 52 57) (g.part (g.atom (p 24 24 53 56) (g.spelled (k.Name (codes "x") true))) g.none)) (g.part (g.atom (p 26 26 58 59) (g.spelled (k.Name (codes "b") false))) g.none))))) (g.part (g.list (p 28 33 61 71) (g.part (g.atom (p 29 29 62 64) (g.spelled (k.Name (codes "if") false))) (g.part (g.atom (p 30 30 65 66) (g.spelled (k.Numeral (codes "1")))) (g.part (g.atom (p 31 31 67 68) (g.spelled (k.Name (codes "a") false))) (g.part (g.atom (p 32 32 69 70) (g.spelled (k.Name (codes "y") false))) g.none))))) (g.part (g.list (p 34 36 72 75) (g.part (g.atom (p 35 35 73 74) (g.spelled (k.Name (codes "y") false))) g.none)) g.none)))) g.none))))) ∷ ((g.list (p 39 40 78 80) (g.part (g.atom (p 39 39 78 79) (g.implied k.Quote)) (g.part (g.atom (p 40 40 79 80) (g.spelled (k.Name (codes "t") false))) g.none)))) ∷ ((g.list (p 41 45 81 93) (g.part (g.atom (p 42 42 82 88) (g.spelled (k.Name (codes "define") false))) (g.part (g.atom (p 43 43 89 90) (g.spelled (k.Name (codes "a") false))) (g.part (g.atom (p 44 44 91 92) (g.spelled (k.Name (codes "a") false))) g.none))))) ∷ []) ((s 0 1) ∷ (s 1 7) ∷ (s 8 9) ∷ (s 9 15) ∷ (s 16 20) ∷ (s 20 21) ∷ (s 21 22) ∷ (s 23 24) ∷ (s 24 30) ∷ (s 31 32) ∷ (s 32 33) ∷ (s 34 35) ∷ (s 35 36) ∷ (s 37 38) ∷ (s 38 39) ∷ (s 39 41) ∷ (s 42 43) ∷ (s 43 44) ∷ (s 44 45) ∷ (s 46 47) ∷ (s 48 49) ∷ (s 49 50) ∷ (s 50 51) ∷ (s 52 53) ∷ (s 53 56) ∷ (s 56 57) ∷ (s 58 59) ∷ (s 59 60) ∷ (s 61 62) ∷ (s 62 64) ∷ (s 65 66) ∷ (s 67 68) ∷ (s 69 70) ∷ (s 70 71) ∷ (s 72 73) ∷ (s 73 74) ∷ (s 74 75) ∷ (s 75 76) ∷ (s 76 77) ∷ (s 78 79) ∷ (s 79 80) ∷ (s 81 82) ∷ (s 82 88) ∷ (s 89 90) ∷ (s 91 92) ∷ (s 92 93) ∷ [])) ∷ []) (Some (codes "zz")) (((40 ∷ 105 ∷ 109 ∷ 112 ∷ 111 ∷ 114 ∷ 116 ∷ 32 ∷ 40 ∷ 115 ∷ 99 ∷ 104 ∷ 101 ∷ 109 ∷ 101 ∷ 32 ∷ 98 ∷ 97 ∷ 115 ∷ 101 ∷ 41 ∷ 41 ∷ 10 ∷ 40 ∷ 100 ∷ 101 ∷ 102 ∷ 105 ∷ 110 ∷ 101 ∷ 32 ∷ 40 ∷ 121 ∷ 32 ∷ 120 ∷ 41 ∷ 32 ∷ 40 ∷ 40 ∷ 100 ∷ 111 ∷ 32 ∷ 40 ∷ 40 ∷ 116 ∷ 32 ∷ 97 ∷ 32 ∷ 50 ∷ 41 ∷ 41 ∷ 32 ∷ 40 ∷ 124 ∷ 120 ∷ 124 ∷ 41 ∷ 32 ∷ 98 ∷ 41 ∷ 32 ∷ 40 ∷ 105 ∷ 102 ∷ 32 ∷ 49 ∷ 32 ∷ 97 ∷ 32 ∷ 121 ∷ 41 ∷ 32 ∷ 40 ∷ 121 ∷ 41 ∷ 41 ∷ 41 ∷ 10 ∷ 39 ∷ 116 ∷ 10 ∷ 40 ∷ 100 ∷ 101 ∷ 102 ∷ 105 ∷ 110 ∷ 101 ∷ 32 ∷ 97 ∷ 32 ∷ 97 ∷ 41 ∷ [])) ∷ []) 0 32 (codes "zz") ≡ w.Edits ((es 0 ((e 32 33 (codes "zz")) ∷ (e 69 70 (codes "zz")) ∷ (e 73 74 (codes "zz")) ∷ [])) ∷ [])
unfolding base_names standard_libraries prelude encode_utf8 chars spelled is_numeral is_identifier is_initial is_subsequent
renames-45 = refl

pub renames-50 : rename_rows (((96 ∷ 40 ∷ 40 ∷ 113 ∷ 41 ∷ 32 ∷ 44 ∷ 116 ∷ 109 ∷ 112 ∷ 32 ∷ 44 ∷ 64 ∷ 96 ∷ 40 ∷ 113 ∷ 32 ∷ 44 ∷ 40 ∷ 108 ∷ 101 ∷ 116 ∷ 114 ∷ 101 ∷ 99 ∷ 32 ∷ 40 ∷ 40 ∷ 102 ∷ 32 ∷ 40 ∷ 108 ∷ 97 ∷ 109 ∷ 98 ∷ 100 ∷ 97 ∷ 32 ∷ 40 ∷ 98 ∷ 41 ∷ 32 ∷ 97 ∷ 41 ∷ 41 ∷ 41 ∷ 32 ∷ 35 ∷ 116 ∷ 41 ∷ 32 ∷ 44 ∷ 64 ∷ 40 ∷ 120 ∷ 32 ∷ 34 ∷ 115 ∷ 34 ∷ 41 ∷ 32 ∷ 46 ∷ 32 ∷ 116 ∷ 41 ∷ 32 ∷ 46 ∷ 32 ∷ 116 ∷ 41 ∷ 10 ∷ 120 ∷ []), r (((g.list (p 0 38 0 70) (g.part (g.atom (p 0 0 0 1) (g.implied k.Quasi)) (g.part (g.list (p 1 38 1 70) (g.part (g.list (p 2 4 2 5) (g.part (g.atom (p 3 3 3 4) (g.spelled (k.Name (codes "q") false))) g.none)) (g.part (g.list (p 5 6 6 10) (g.part (g.atom (p 5 5 6 7) (g.implied k.Unquote)) (g.part (g.atom (p 6 6 7 10) (g.spelled (k.Name (codes "tmp") false))) g.none))) (g.part (g.list (p 7 35 11 65) (g.part (g.atom (p 7 7 11 13) (g.implied k.Splice)) (g.part (g.list (p 8 35 13 65) (g.part (g.atom (p 8 8 13 14) (g.implied k.Quasi)) (g.part (g.list (p 9 35 14 65) (g.part (g.atom (p 10 10 15 16) (g.spelled (k.Name (codes "q") false))) (g.part (g.list (p 11 27 17 50) (g.part (g.atom (p 11 11 17 18) (g.implied k.Unquote)) (g.part (g.list (p 12 27 18 50) (g.part (g.atom (p 13 13 19 25) (g.spelled (k.Name (codes "letrec") false))) (g.part (g.list (p 14 25 26 46) (g.part (g.list (p 15 24 27 45) (g.part (g.atom (p 16 16 28 29) (g.spelled (k.Name (codes "f") false))) (g.part (g.list (p 17 23 30 44) (g.part (g.atom (p 18 18 31 37) (g.spelled (k.Name (codes "lambda") false))) (g.part (g.list (p 19 21 38 41) (g.part (g.atom (p 20 20 39 40) (g.spelled (k.Name (codes "b") false))) g.none)) (g.part (g.atom (p 22 22 42 43) (g.spelled (k.Name (codes "a") false))) g.none)))) g.none))) g.none)) (g.part (g.atom (p 26 26 47 49) (g.spelled (k.Truth true))) g.none)))) g.none))) (g.part (g.list (p 28 32 51 60) (g.part (g.atom (p 28 28 51 53) (g.implied k.Splice)) (g.part (g.list (p 29 32 53 60) (g.part (g.atom (p 30 30 54 55) (g.spelled (k.Name (codes "x") false))) (g.part (g.atom (p 31 31 56 59) (g.spelled (k.Quoted (codes "s")))) g.none))) g.none))) (g.tail (g.atom (p 34 34 63 64) (g.spelled (k.Name (codes "t") false)))))))) g.none))) g.none))) (g.tail (g.atom (p 37 37 68 69) (g.spelled (k.Name (codes "t") false)))))))) g.none)))) ∷ ((g.atom (p 39 39 71 72) (g.spelled (k.Name (codes "x") false)))) ∷ []) ((s 0 1) ∷ (s 1 2) ∷ (s 2 3) ∷ (s 3 4) ∷ (s 4 5) ∷ (s 6 7) ∷ (s 7 10) ∷ (s 11 13) ∷ (s 13 14) ∷ (s 14 15) ∷ (s 15 16) ∷ (s 17 18) ∷ (s 18 19) ∷ (s 19 25) ∷ (s 26 27) ∷ (s 27 28) ∷ (s 28 29) ∷ (s 30 31) ∷ (s 31 37) ∷ (s 38 39) ∷ (s 39 40) ∷ (s 40 41) ∷ (s 42 43) ∷ (s 43 44) ∷ (s 44 45) ∷ (s 45 46) ∷ (s 47 49) ∷ (s 49 50) ∷ (s 51 53) ∷ (s 53 54) ∷ (s 54 55) ∷ (s 56 59) ∷ (s 59 60) ∷ (s 61 62) ∷ (s 63 64) ∷ (s 64 65) ∷ (s 66 67) ∷ (s 68 69) ∷ (s 69 70) ∷ (s 71 72) ∷ [])) ∷ []) (Some (codes "s:zz")) (((96 ∷ 40 ∷ 40 ∷ 113 ∷ 41 ∷ 32 ∷ 44 ∷ 116 ∷ 109 ∷ 112 ∷ 32 ∷ 44 ∷ 64 ∷ 96 ∷ 40 ∷ 113 ∷ 32 ∷ 44 ∷ 40 ∷ 108 ∷ 101 ∷ 116 ∷ 114 ∷ 101 ∷ 99 ∷ 32 ∷ 40 ∷ 40 ∷ 102 ∷ 32 ∷ 40 ∷ 108 ∷ 97 ∷ 109 ∷ 98 ∷ 100 ∷ 97 ∷ 32 ∷ 40 ∷ 98 ∷ 41 ∷ 32 ∷ 97 ∷ 41 ∷ 41 ∷ 41 ∷ 32 ∷ 35 ∷ 116 ∷ 41 ∷ 32 ∷ 44 ∷ 64 ∷ 40 ∷ 120 ∷ 32 ∷ 34 ∷ 115 ∷ 34 ∷ 41 ∷ 32 ∷ 46 ∷ 32 ∷ 116 ∷ 41 ∷ 32 ∷ 46 ∷ 32 ∷ 116 ∷ 41 ∷ 10 ∷ 120 ∷ [])) ∷ []) 0 39 (codes "s:zz") ≡ w.Edits ((es 0 ((e 39 40 (codes "s:zz")) ∷ [])) ∷ [])
unfolding base_names standard_libraries prelude encode_utf8 chars spelled is_numeral is_identifier is_initial is_subsequent
renames-50 = refl

pub renames-62 : rename_rows (((40 ∷ 100 ∷ 101 ∷ 102 ∷ 105 ∷ 110 ∷ 101 ∷ 45 ∷ 108 ∷ 105 ∷ 98 ∷ 114 ∷ 97 ∷ 114 ∷ 121 ∷ 32 ∷ 40 ∷ 108 ∷ 48 ∷ 41 ∷ 10 ∷ 32 ∷ 40 ∷ 101 ∷ 120 ∷ 112 ∷ 111 ∷ 114 ∷ 116 ∷ 32 ∷ 120 ∷ 41 ∷ 10 ∷ 32 ∷ 40 ∷ 105 ∷ 109 ∷ 112 ∷ 111 ∷ 114 ∷ 116 ∷ 32 ∷ 40 ∷ 115 ∷ 99 ∷ 104 ∷ 101 ∷ 109 ∷ 101 ∷ 32 ∷ 98 ∷ 97 ∷ 115 ∷ 101 ∷ 41 ∷ 41 ∷ 10 ∷ 32 ∷ 40 ∷ 98 ∷ 101 ∷ 103 ∷ 105 ∷ 110 ∷ 10 ∷ 32 ∷ 32 ∷ 40 ∷ 40 ∷ 98 ∷ 41 ∷ 32 ∷ 35 ∷ 92 ∷ 99 ∷ 41 ∷ 10 ∷ 32 ∷ 32 ∷ 39 ∷ 40 ∷ 120 ∷ 32 ∷ 35 ∷ 116 ∷ 41 ∷ 10 ∷ 32 ∷ 32 ∷ 40 ∷ 100 ∷ 101 ∷ 102 ∷ 105 ∷ 110 ∷ 101 ∷ 32 ∷ 120 ∷ 32 ∷ 116 ∷ 41 ∷ 10 ∷ 32 ∷ 32 ∷ 40 ∷ 108 ∷ 101 ∷ 116 ∷ 32 ∷ 120 ∷ 32 ∷ 40 ∷ 40 ∷ 120 ∷ 32 ∷ 116 ∷ 41 ∷ 41 ∷ 32 ∷ 40 ∷ 108 ∷ 101 ∷ 116 ∷ 114 ∷ 101 ∷ 99 ∷ 32 ∷ 40 ∷ 40 ∷ 120 ∷ 32 ∷ 40 ∷ 108 ∷ 97 ∷ 109 ∷ 98 ∷ 100 ∷ 97 ∷ 32 ∷ 40 ∷ 98 ∷ 41 ∷ 32 ∷ 98 ∷ 41 ∷ 41 ∷ 41 ∷ 32 ∷ 121 ∷ 41 ∷ 41 ∷ 41 ∷ 41 ∷ []), r (((g.list (p 0 61 0 153) (g.part (g.atom (p 1 1 1 15) (g.spelled (k.Name (codes "define-library") false))) (g.part (g.list (p 2 4 16 20) (g.part (g.atom (p 3 3 17 19) (g.spelled (k.Name (codes "l0") false))) g.none)) (g.part (g.list (p 5 8 22 32) (g.part (g.atom (p 6 6 23 29) (g.spelled (k.Name (codes "export") false))) (g.part (g.atom (p 7 7 30 31) (g.spelled (k.Name (codes "x") false))) g.none))) (g.part (g.list (p 9 15 34 56) (g.part (g.atom (p 10 10 35 41) (g.spelled (k.Name (codes "import") false))) (g.part (g.list (p 11 14 42 55) (g.part (g.atom (p 12 12 43 49) (g.spelled (k.Name (codes "scheme") false))) (g.part (g.atom (p 13 13 50 54) (g.spelled (k.Name (codes "base") false))) g.none))) g.none))) (g.part (g.list (p 16 60 58 152) (g.part (g.atom (p 17 17 59 64) (g.spelled (k.Name (codes "begin") false))) (g.part (g.list (p 18 23 67 76) (g.part (g.list (p 19 21 68 71) (g.part (g.atom (p 20 20 69 70) (g.spelled (k.Name (codes "b") false))) g.none)) (g.part (g.atom (p 22 22 72 75) (g.spelled (k.Character 99))) g.none))) (g.part (g.list (p 24 28 79 86) (g.part (g.atom (p 24 24 79 80) (g.implied k.Quote)) (g.part (g.list (p 25 28 80 86) (g.part (g.atom (p 26 26 81 82) (g.spelled (k.Name (codes "x") false))) (g.part (g.atom (p 27 27 83 85) (g.spelled (k.Truth true))) g.none))) g.none))) (g.part (g.list (p 29 33 89 101) (g.part (g.atom (p 30 30 90 96) (g.spelled (k.Name (codes "define") false))) (g.part (g.atom (p 31 31 97 98) (g.spelled (k.Name (codes "x") false))) (g.part (g.atom (p 32 32 99 100) (g.spelled (k.Name (codes "t") false))) g.none)))) (g.part (g.list (p 34 59 104 151) (g.part (g.atom (p 35 35 105 108) (g.spelled (k.Name (codes "let") false))) (g.part (g.atom (p 36 36 109 110) (g.spelled (k.Name (codes "x") false))) (g.part (g.list (p 37 42 111 118) (g.part (g.list (p 38 41 112 117) (g.part (g.atom (p 39 39 113 114) (g.spelled (k.Name (codes "x") false))) (g.part (g.atom (p 40 40 115 116) (g.spelled (k.Name (codes "t") false))) g.none))) g.none)) (g.part (g.list (p 43 58 119 150) (g.part (g.atom (p 44 44 120 126) (g.spelled (k.Name (codes "letrec") false))) (g.part (g.list (p 45 56 127 147) (g.part (g.list (p 46 55 128 146) (g.part (g.atom (p 47 47 129 130) (g.spelled (k.Name (codes "x") false))) (g.part (g.list (p 48 54 131 145) (g.part (g.atom (p 49 49 132 138) (g.spelled (k.Name (codes "lambda") false))) (g.part (g.list (p 50 52 139 142) (g.part (g.atom (p 51 51 140 141) (g.spelled (k.Name (codes "b") false))) g.none)) (g.part (g.atom (p 53 53 143 144) (g.spelled (k.Name (codes "b") false))) g.none)))) g.none))) g.none)) (g.part (g.atom (p 57 57 148 149) (g.spelled (k.Name (codes "y") false))) g.none)))) g.none))))) g.none)))))) g.none))))))) ∷ []) ((s 0 1) ∷ (s 1 15) ∷ (s 16 17) ∷ (s 17 19) ∷ (s 19 20) ∷ (s 22 23) ∷ (s 23 29) ∷ (s 30 31) ∷ (s 31 32) ∷ (s 34 35) ∷ (s 35 41) ∷ (s 42 43) ∷ (s 43 49) ∷ (s 50 54) ∷ (s 54 55) ∷ (s 55 56) ∷ (s 58 59) ∷ (s 59 64) ∷ (s 67 68) ∷ (s 68 69) ∷ (s 69 70) ∷ (s 70 71) ∷ (s 72 75) ∷ (s 75 76) ∷ (s 79 80) ∷ (s 80 81) ∷ (s 81 82) ∷ (s 83 85) ∷ (s 85 86) ∷ (s 89 90) ∷ (s 90 96) ∷ (s 97 98) ∷ (s 99 100) ∷ (s 100 101) ∷ (s 104 105) ∷ (s 105 108) ∷ (s 109 110) ∷ (s 111 112) ∷ (s 112 113) ∷ (s 113 114) ∷ (s 115 116) ∷ (s 116 117) ∷ (s 117 118) ∷ (s 119 120) ∷ (s 120 126) ∷ (s 127 128) ∷ (s 128 129) ∷ (s 129 130) ∷ (s 131 132) ∷ (s 132 138) ∷ (s 139 140) ∷ (s 140 141) ∷ (s 141 142) ∷ (s 143 144) ∷ (s 144 145) ∷ (s 145 146) ∷ (s 146 147) ∷ (s 148 149) ∷ (s 149 150) ∷ (s 150 151) ∷ (s 151 152) ∷ (s 152 153) ∷ [])) ∷ ((40 ∷ 100 ∷ 101 ∷ 102 ∷ 105 ∷ 110 ∷ 101 ∷ 45 ∷ 108 ∷ 105 ∷ 98 ∷ 114 ∷ 97 ∷ 114 ∷ 121 ∷ 32 ∷ 40 ∷ 108 ∷ 49 ∷ 41 ∷ 10 ∷ 32 ∷ 40 ∷ 101 ∷ 120 ∷ 112 ∷ 111 ∷ 114 ∷ 116 ∷ 32 ∷ 40 ∷ 114 ∷ 101 ∷ 110 ∷ 97 ∷ 109 ∷ 101 ∷ 32 ∷ 97 ∷ 32 ∷ 116 ∷ 41 ∷ 32 ∷ 120 ∷ 41 ∷ 10 ∷ 32 ∷ 40 ∷ 105 ∷ 109 ∷ 112 ∷ 111 ∷ 114 ∷ 116 ∷ 32 ∷ 40 ∷ 115 ∷ 99 ∷ 104 ∷ 101 ∷ 109 ∷ 101 ∷ 32 ∷ 98 ∷ 97 ∷ 115 ∷ 101 ∷ 41 ∷ 32 ∷ 40 ∷ 101 ∷ 120 ∷ 99 ∷ 101 ∷ 112 ∷ 116 ∷ 32 ∷ 40 ∷ 112 ∷ 114 ∷ 101 ∷ 102 ∷ 105 ∷ 120 ∷ 32 ∷ 40 ∷ 108 ∷ 48 ∷ 41 ∷ 32 ∷ 112 ∷ 45 ∷ 41 ∷ 32 ∷ 112 ∷ 45 ∷ 120 ∷ 41 ∷ 41 ∷ 10 ∷ 32 ∷ 40 ∷ 98 ∷ 101 ∷ 103 ∷ 105 ∷ 110 ∷ 10 ∷ 32 ∷ 32 ∷ 40 ∷ 100 ∷ 101 ∷ 102 ∷ 105 ∷ 110 ∷ 101 ∷ 45 ∷ 115 ∷ 121 ∷ 110 ∷ 116 ∷ 97 ∷ 120 ∷ 32 ∷ 120 ∷ 32 ∷ 40 ∷ 115 ∷ 121 ∷ 110 ∷ 116 ∷ 97 ∷ 120 ∷ 45 ∷ 114 ∷ 117 ∷ 108 ∷ 101 ∷ 115 ∷ 32 ∷ 40 ∷ 41 ∷ 32 ∷ 40 ∷ 40 ∷ 95 ∷ 32 ∷ 110 ∷ 32 ∷ 102 ∷ 32 ∷ 40 ∷ 121 ∷ 32 ∷ 99 ∷ 97 ∷ 114 ∷ 41 ∷ 41 ∷ 32 ∷ 40 ∷ 108 ∷ 97 ∷ 109 ∷ 98 ∷ 100 ∷ 97 ∷ 32 ∷ 40 ∷ 120 ∷ 41 ∷ 32 ∷ 40 ∷ 116 ∷ 32 ∷ 102 ∷ 41 ∷ 41 ∷ 41 ∷ 41 ∷ 41 ∷ 10 ∷ 32 ∷ 32 ∷ 40 ∷ 100 ∷ 101 ∷ 102 ∷ 105 ∷ 110 ∷ 101 ∷ 45 ∷ 118 ∷ 97 ∷ 108 ∷ 117 ∷ 101 ∷ 115 ∷ 32 ∷ 40 ∷ 121 ∷ 32 ∷ 97 ∷ 41 ∷ 32 ∷ 116 ∷ 41 ∷ 10 ∷ 32 ∷ 32 ∷ 40 ∷ 120 ∷ 32 ∷ 40 ∷ 115 ∷ 101 ∷ 116 ∷ 33 ∷ 32 ∷ 116 ∷ 32 ∷ 35 ∷ 116 ∷ 41 ∷ 32 ∷ 116 ∷ 32 ∷ 40 ∷ 97 ∷ 32 ∷ 40 ∷ 99 ∷ 97 ∷ 115 ∷ 101 ∷ 45 ∷ 108 ∷ 97 ∷ 109 ∷ 98 ∷ 100 ∷ 97 ∷ 32 ∷ 40 ∷ 40 ∷ 97 ∷ 41 ∷ 32 ∷ 121 ∷ 41 ∷ 32 ∷ 40 ∷ 40 ∷ 97 ∷ 32 ∷ 46 ∷ 32 ∷ 98 ∷ 41 ∷ 32 ∷ 120 ∷ 41 ∷ 41 ∷ 41 ∷ 41 ∷ 41 ∷ 41 ∷ []), r (((g.list (p 0 102 0 268) (g.part (g.atom (p 1 1 1 15) (g.spelled (k.Name (codes "define-library") false))) (g.part (g.list (p 2 4 16 20) (g.part (g.atom (p 3 3 17 19) (g.spelled (k.Name (codes "l1") false))) g.none)) (g.part (g.list (p 5 13 22 45) (g.part (g.atom (p 6 6 23 29) (g.spelled (k.Name (codes "export") false))) (g.part (g.list (p 7 11 30 42) (g.part (g.atom (p 8 8 31 37) (g.spelled (k.Name (codes "rename") false))) (g.part (g.atom (p 9 9 38 39) (g.spelled (k.Name (codes "a") false))) (g.part (g.atom (p 10 10 40 41) (g.spelled (k.Name (codes "t") false))) g.none)))) (g.part (g.atom (p 12 12 43 44) (g.spelled (k.Name (codes "x") false))) g.none)))) (g.part (g.list (p 14 31 47 99) (g.part (g.atom (p 15 15 48 54) (g.spelled (k.Name (codes "import") false))) (g.part (g.list (p 16 19 55 68) (g.part (g.atom (p 17 17 56 62) (g.spelled (k.Name (codes "scheme") false))) (g.part (g.atom (p 18 18 63 67) (g.spelled (k.Name (codes "base") false))) g.none))) (g.part (g.list (p 20 30 69 98) (g.part (g.atom (p 21 21 70 76) (g.spelled (k.Name (codes "except") false))) (g.part (g.list (p 22 28 77 93) (g.part (g.atom (p 23 23 78 84) (g.spelled (k.Name (codes "prefix") false))) (g.part (g.list (p 24 26 85 89) (g.part (g.atom (p 25 25 86 88) (g.spelled (k.Name (codes "l0") false))) g.none)) (g.part (g.atom (p 27 27 90 92) (g.spelled (k.Name (codes "p-") false))) g.none)))) (g.part (g.atom (p 29 29 94 97) (g.spelled (k.Name (codes "p-x") false))) g.none)))) g.none)))) (g.part (g.list (p 32 101 101 267) (g.part (g.atom (p 33 33 102 107) (g.spelled (k.Name (codes "begin") false))) (g.part (g.list (p 34 63 110 182) (g.part (g.atom (p 35 35 111 124) (g.spelled (k.Name (codes "define-syntax") false))) (g.part (g.atom (p 36 36 125 126) (g.spelled (k.Name (codes "x") false))) (g.part (g.list (p 37 62 127 181) (g.part (g.atom (p 38 38 128 140) (g.spelled (k.Name (codes "syntax-rules") false))) (g.part (g.list (p 39 40 141 143) g.none) (g.part (g.list (p 41 61 144 180) (g.part (g.list (p 42 50 145 160) (g.part (g.atom (p 43 43 146 147) (g.spelled (k.Name (codes "_") false))) (g.part (g.atom (p 44 44 148 149) (g.spelled (k.Name (codes "n") false))) (g.part (g.atom (p 45 45 150 151) (g.spelled (k.Name (codes "f") false))) (g.part (g.list (p 46 49 152 159) (g.part (g.atom (p 47 47 153 154) (g.spelled (k.Name (codes "y") false))) (g.part (g.atom (p 48 48 155 158) (g.spelled (k.Name (codes "car") false))) g.none))) g.none))))) (g.part (g.list (p 51 60 161 179) (g.part (g.atom (p 52 52 162 168) (g.spelled (k.Name (codes "lambda") false))) (g.part (g.list (p 53 55 169 172) (g.part (g.atom (p 54 54 170 171) (g.spelled (k.Name (codes "x") false))) g.none)) (g.part (g.list (p 56 59 173 178) (g.part (g.atom (p 57 57 174 175) (g.spelled (k.Name (codes "t") false))) (g.part (g.atom (p 58 58 176 177) (g.spelled (k.Name (codes "f") false))) g.none))) g.none)))) g.none))) g.none)))) g.none)))) (g.part (g.list (p 64 71 185 208) (g.part (g.atom (p 65 65 186 199) (g.spelled (k.Name (codes "define-values") false))) (g.part (g.list (p 66 69 200 205) (g.part (g.atom (p 67 67 201 202) (g.spelled (k.Name (codes "y") false))) (g.part (g.atom (p 68 68 203 204) (g.spelled (k.Name (codes "a") false))) g.none))) (g.part (g.atom (p 70 70 206 207) (g.spelled (k.Name (codes "t") false))) g.none)))) (g.part (g.list (p 72 100 211 266) (g.part (g.atom (p 73 73 212 213) (g.spelled (k.Name (codes "x") false))) (g.part (g.list (p 74 78 214 225) (g.part (g.atom (p 75 75 215 219) (g.spelled (k.Name (codes "set!") false))) (g.part (g.atom (p 76 76 220 221) (g.spelled (k.Name (codes "t") false))) (g.part (g.atom (p 77 77 222 224) (g.spelled (k.Truth true))) g.none)))) (g.part (g.atom (p 79 79 226 227) (g.spelled (k.Name (codes "t") false))) (g.part (g.list (p 80 99 228 265) (g.part (g.atom (p 81 81 229 230) (g.spelled (k.Name (codes "a") false))) (g.part (g.list (p 82 98 231 264) (g.part (g.atom (p 83 83 232 243) (g.spelled (k.Name (codes "case-lambda") false))) (g.part (g.list (p 84 89 244 251) (g.part (g.list (p 85 87 245 248) (g.part (g.atom (p 86 86 246 247) (g.spelled (k.Name (codes "a") false))) g.none)) (g.part (g.atom (p 88 88 249 250) (g.spelled (k.Name (codes "y") false))) g.none))) (g.part (g.list (p 90 97 252 263) (g.part (g.list (p 91 95 253 260) (g.part (g.atom (p 92 92 254 255) (g.spelled (k.Name (codes "a") false))) (g.tail (g.atom (p 94 94 258 259) (g.spelled (k.Name (codes "b") false)))))) (g.part (g.atom (p 96 96 261 262) (g.spelled (k.Name (codes "x") false))) g.none))) g.none)))) g.none))) g.none))))) g.none))))) g.none))))))) ∷ []) ((s 0 1) ∷ (s 1 15) ∷ (s 16 17) ∷ (s 17 19) ∷ (s 19 20) ∷ (s 22 23) ∷ (s 23 29) ∷ (s 30 31) ∷ (s 31 37) ∷ (s 38 39) ∷ (s 40 41) ∷ (s 41 42) ∷ (s 43 44) ∷ (s 44 45) ∷ (s 47 48) ∷ (s 48 54) ∷ (s 55 56) ∷ (s 56 62) ∷ (s 63 67) ∷ (s 67 68) ∷ (s 69 70) ∷ (s 70 76) ∷ (s 77 78) ∷ (s 78 84) ∷ (s 85 86) ∷ (s 86 88) ∷ (s 88 89) ∷ (s 90 92) ∷ (s 92 93) ∷ (s 94 97) ∷ (s 97 98) ∷ (s 98 99) ∷ (s 101 102) ∷ (s 102 107) ∷ (s 110 111) ∷ (s 111 124) ∷ (s 125 126) ∷ (s 127 128) ∷ (s 128 140) ∷ (s 141 142) ∷ (s 142 143) ∷ (s 144 145) ∷ (s 145 146) ∷ (s 146 147) ∷ (s 148 149) ∷ (s 150 151) ∷ (s 152 153) ∷ (s 153 154) ∷ (s 155 158) ∷ (s 158 159) ∷ (s 159 160) ∷ (s 161 162) ∷ (s 162 168) ∷ (s 169 170) ∷ (s 170 171) ∷ (s 171 172) ∷ (s 173 174) ∷ (s 174 175) ∷ (s 176 177) ∷ (s 177 178) ∷ (s 178 179) ∷ (s 179 180) ∷ (s 180 181) ∷ (s 181 182) ∷ (s 185 186) ∷ (s 186 199) ∷ (s 200 201) ∷ (s 201 202) ∷ (s 203 204) ∷ (s 204 205) ∷ (s 206 207) ∷ (s 207 208) ∷ (s 211 212) ∷ (s 212 213) ∷ (s 214 215) ∷ (s 215 219) ∷ (s 220 221) ∷ (s 222 224) ∷ (s 224 225) ∷ (s 226 227) ∷ (s 228 229) ∷ (s 229 230) ∷ (s 231 232) ∷ (s 232 243) ∷ (s 244 245) ∷ (s 245 246) ∷ (s 246 247) ∷ (s 247 248) ∷ (s 249 250) ∷ (s 250 251) ∷ (s 252 253) ∷ (s 253 254) ∷ (s 254 255) ∷ (s 256 257) ∷ (s 258 259) ∷ (s 259 260) ∷ (s 261 262) ∷ (s 262 263) ∷ (s 263 264) ∷ (s 264 265) ∷ (s 265 266) ∷ (s 266 267) ∷ (s 267 268) ∷ [])) ∷ ((codes "(import (rename (scheme base) (car kar) (if iff) (else otherwise)) (l0) (l1))"), r (((g.list (p 0 27 0 77) (g.part (g.atom (p 1 1 1 7) (g.spelled (k.Name (codes "import") false))) (g.part (g.list (p 2 20 8 66) (g.part (g.atom (p 3 3 9 15) (g.spelled (k.Name (codes "rename") false))) (g.part (g.list (p 4 7 16 29) (g.part (g.atom (p 5 5 17 23) (g.spelled (k.Name (codes "scheme") false))) (g.part (g.atom (p 6 6 24 28) (g.spelled (k.Name (codes "base") false))) g.none))) (g.part (g.list (p 8 11 30 39) (g.part (g.atom (p 9 9 31 34) (g.spelled (k.Name (codes "car") false))) (g.part (g.atom (p 10 10 35 38) (g.spelled (k.Name (codes "kar") false))) g.none))) (g.part (g.list (p 12 15 40 48) (g.part (g.atom (p 13 13 41 43) (g.spelled (k.Name (codes "if") false))) (g.part (g.atom (p 14 14 44 47) (g.spelled (k.Name (codes "iff") false))) g.none))) (g.part (g.list (p 16 19 49 65) (g.part (g.atom (p 17 17 50 54) (g.spelled (k.Name (codes "else") false))) (g.part (g.atom (p 18 18 55 64) (g.spelled (k.Name (codes "otherwise") false))) g.none))) g.none)))))) (g.part (g.list (p 21 23 67 71) (g.part (g.atom (p 22 22 68 70) (g.spelled (k.Name (codes "l0") false))) g.none)) (g.part (g.list (p 24 26 72 76) (g.part (g.atom (p 25 25 73 75) (g.spelled (k.Name (codes "l1") false))) g.none)) g.none)))))) ∷ []) ((s 0 1) ∷ (s 1 7) ∷ (s 8 9) ∷ (s 9 15) ∷ (s 16 17) ∷ (s 17 23) ∷ (s 24 28) ∷ (s 28 29) ∷ (s 30 31) ∷ (s 31 34) ∷ (s 35 38) ∷ (s 38 39) ∷ (s 40 41) ∷ (s 41 43) ∷ (s 44 47) ∷ (s 47 48) ∷ (s 49 50) ∷ (s 50 54) ∷ (s 55 64) ∷ (s 64 65) ∷ (s 65 66) ∷ (s 67 68) ∷ (s 68 70) ∷ (s 70 71) ∷ (s 72 73) ∷ (s 73 75) ∷ (s 75 76) ∷ (s 76 77) ∷ [])) ∷ []) (Some (codes "zz")) (((40 ∷ 100 ∷ 101 ∷ 102 ∷ 105 ∷ 110 ∷ 101 ∷ 45 ∷ 108 ∷ 105 ∷ 98 ∷ 114 ∷ 97 ∷ 114 ∷ 121 ∷ 32 ∷ 40 ∷ 108 ∷ 48 ∷ 41 ∷ 10 ∷ 32 ∷ 40 ∷ 101 ∷ 120 ∷ 112 ∷ 111 ∷ 114 ∷ 116 ∷ 32 ∷ 120 ∷ 41 ∷ 10 ∷ 32 ∷ 40 ∷ 105 ∷ 109 ∷ 112 ∷ 111 ∷ 114 ∷ 116 ∷ 32 ∷ 40 ∷ 115 ∷ 99 ∷ 104 ∷ 101 ∷ 109 ∷ 101 ∷ 32 ∷ 98 ∷ 97 ∷ 115 ∷ 101 ∷ 41 ∷ 41 ∷ 10 ∷ 32 ∷ 40 ∷ 98 ∷ 101 ∷ 103 ∷ 105 ∷ 110 ∷ 10 ∷ 32 ∷ 32 ∷ 40 ∷ 40 ∷ 98 ∷ 41 ∷ 32 ∷ 35 ∷ 92 ∷ 99 ∷ 41 ∷ 10 ∷ 32 ∷ 32 ∷ 39 ∷ 40 ∷ 120 ∷ 32 ∷ 35 ∷ 116 ∷ 41 ∷ 10 ∷ 32 ∷ 32 ∷ 40 ∷ 100 ∷ 101 ∷ 102 ∷ 105 ∷ 110 ∷ 101 ∷ 32 ∷ 120 ∷ 32 ∷ 116 ∷ 41 ∷ 10 ∷ 32 ∷ 32 ∷ 40 ∷ 108 ∷ 101 ∷ 116 ∷ 32 ∷ 120 ∷ 32 ∷ 40 ∷ 40 ∷ 120 ∷ 32 ∷ 116 ∷ 41 ∷ 41 ∷ 32 ∷ 40 ∷ 108 ∷ 101 ∷ 116 ∷ 114 ∷ 101 ∷ 99 ∷ 32 ∷ 40 ∷ 40 ∷ 120 ∷ 32 ∷ 40 ∷ 108 ∷ 97 ∷ 109 ∷ 98 ∷ 100 ∷ 97 ∷ 32 ∷ 40 ∷ 98 ∷ 41 ∷ 32 ∷ 98 ∷ 41 ∷ 41 ∷ 41 ∷ 32 ∷ 121 ∷ 41 ∷ 41 ∷ 41 ∷ 41 ∷ [])) ∷ ((40 ∷ 100 ∷ 101 ∷ 102 ∷ 105 ∷ 110 ∷ 101 ∷ 45 ∷ 108 ∷ 105 ∷ 98 ∷ 114 ∷ 97 ∷ 114 ∷ 121 ∷ 32 ∷ 40 ∷ 108 ∷ 49 ∷ 41 ∷ 10 ∷ 32 ∷ 40 ∷ 101 ∷ 120 ∷ 112 ∷ 111 ∷ 114 ∷ 116 ∷ 32 ∷ 40 ∷ 114 ∷ 101 ∷ 110 ∷ 97 ∷ 109 ∷ 101 ∷ 32 ∷ 97 ∷ 32 ∷ 116 ∷ 41 ∷ 32 ∷ 120 ∷ 41 ∷ 10 ∷ 32 ∷ 40 ∷ 105 ∷ 109 ∷ 112 ∷ 111 ∷ 114 ∷ 116 ∷ 32 ∷ 40 ∷ 115 ∷ 99 ∷ 104 ∷ 101 ∷ 109 ∷ 101 ∷ 32 ∷ 98 ∷ 97 ∷ 115 ∷ 101 ∷ 41 ∷ 32 ∷ 40 ∷ 101 ∷ 120 ∷ 99 ∷ 101 ∷ 112 ∷ 116 ∷ 32 ∷ 40 ∷ 112 ∷ 114 ∷ 101 ∷ 102 ∷ 105 ∷ 120 ∷ 32 ∷ 40 ∷ 108 ∷ 48 ∷ 41 ∷ 32 ∷ 112 ∷ 45 ∷ 41 ∷ 32 ∷ 112 ∷ 45 ∷ 120 ∷ 41 ∷ 41 ∷ 10 ∷ 32 ∷ 40 ∷ 98 ∷ 101 ∷ 103 ∷ 105 ∷ 110 ∷ 10 ∷ 32 ∷ 32 ∷ 40 ∷ 100 ∷ 101 ∷ 102 ∷ 105 ∷ 110 ∷ 101 ∷ 45 ∷ 115 ∷ 121 ∷ 110 ∷ 116 ∷ 97 ∷ 120 ∷ 32 ∷ 120 ∷ 32 ∷ 40 ∷ 115 ∷ 121 ∷ 110 ∷ 116 ∷ 97 ∷ 120 ∷ 45 ∷ 114 ∷ 117 ∷ 108 ∷ 101 ∷ 115 ∷ 32 ∷ 40 ∷ 41 ∷ 32 ∷ 40 ∷ 40 ∷ 95 ∷ 32 ∷ 110 ∷ 32 ∷ 102 ∷ 32 ∷ 40 ∷ 121 ∷ 32 ∷ 99 ∷ 97 ∷ 114 ∷ 41 ∷ 41 ∷ 32 ∷ 40 ∷ 108 ∷ 97 ∷ 109 ∷ 98 ∷ 100 ∷ 97 ∷ 32 ∷ 40 ∷ 120 ∷ 41 ∷ 32 ∷ 40 ∷ 116 ∷ 32 ∷ 102 ∷ 41 ∷ 41 ∷ 41 ∷ 41 ∷ 41 ∷ 10 ∷ 32 ∷ 32 ∷ 40 ∷ 100 ∷ 101 ∷ 102 ∷ 105 ∷ 110 ∷ 101 ∷ 45 ∷ 118 ∷ 97 ∷ 108 ∷ 117 ∷ 101 ∷ 115 ∷ 32 ∷ 40 ∷ 121 ∷ 32 ∷ 97 ∷ 41 ∷ 32 ∷ 116 ∷ 41 ∷ 10 ∷ 32 ∷ 32 ∷ 40 ∷ 120 ∷ 32 ∷ 40 ∷ 115 ∷ 101 ∷ 116 ∷ 33 ∷ 32 ∷ 116 ∷ 32 ∷ 35 ∷ 116 ∷ 41 ∷ 32 ∷ 116 ∷ 32 ∷ 40 ∷ 97 ∷ 32 ∷ 40 ∷ 99 ∷ 97 ∷ 115 ∷ 101 ∷ 45 ∷ 108 ∷ 97 ∷ 109 ∷ 98 ∷ 100 ∷ 97 ∷ 32 ∷ 40 ∷ 40 ∷ 97 ∷ 41 ∷ 32 ∷ 121 ∷ 41 ∷ 32 ∷ 40 ∷ 40 ∷ 97 ∷ 32 ∷ 46 ∷ 32 ∷ 98 ∷ 41 ∷ 32 ∷ 120 ∷ 41 ∷ 41 ∷ 41 ∷ 41 ∷ 41 ∷ 41 ∷ [])) ∷ ((codes "(import (rename (scheme base) (car kar) (if iff) (else otherwise)) (l0) (l1))")) ∷ []) 1 261 (codes "zz") ≡ w.NotBound
unfolding base_names standard_libraries prelude encode_utf8 chars spelled is_numeral is_identifier is_initial is_subsequent
renames-62 = refl

pub renames-142 : rename_rows ([]) (Some (codes "f")) (((codes "(begin (define-syntax k (syntax-rules () ((_ ) (lambda (n) (list f x))))) (define-syntax b (syntax-rules () ((_ n) (define-syntax n (syntax-rules () ((_ tmp ) (list tmp  n g)))))")) ∷ []) 0 25 (codes "f") ≡ w.NotBound
unfolding base_names standard_libraries prelude encode_utf8 chars spelled is_numeral is_identifier is_initial is_subsequent
renames-142 = refl

pub renames-166 : rename_rows (((40 ∷ 100 ∷ 101 ∷ 102 ∷ 105 ∷ 110 ∷ 101 ∷ 45 ∷ 115 ∷ 121 ∷ 110 ∷ 116 ∷ 97 ∷ 120 ∷ 32 ∷ 98 ∷ 32 ∷ 40 ∷ 115 ∷ 121 ∷ 110 ∷ 116 ∷ 97 ∷ 120 ∷ 45 ∷ 114 ∷ 117 ∷ 108 ∷ 101 ∷ 115 ∷ 32 ∷ 40 ∷ 41 ∷ 32 ∷ 40 ∷ 40 ∷ 95 ∷ 32 ∷ 41 ∷ 32 ∷ 40 ∷ 100 ∷ 101 ∷ 102 ∷ 105 ∷ 110 ∷ 101 ∷ 45 ∷ 115 ∷ 121 ∷ 110 ∷ 116 ∷ 97 ∷ 120 ∷ 32 ∷ 120 ∷ 32 ∷ 40 ∷ 115 ∷ 121 ∷ 110 ∷ 116 ∷ 97 ∷ 120 ∷ 45 ∷ 114 ∷ 117 ∷ 108 ∷ 101 ∷ 115 ∷ 32 ∷ 40 ∷ 41 ∷ 32 ∷ 40 ∷ 40 ∷ 95 ∷ 32 ∷ 121 ∷ 32 ∷ 40 ∷ 46 ∷ 46 ∷ 46 ∷ 32 ∷ 46 ∷ 46 ∷ 46 ∷ 41 ∷ 41 ∷ 32 ∷ 40 ∷ 108 ∷ 105 ∷ 115 ∷ 116 ∷ 32 ∷ 121 ∷ 32 ∷ 40 ∷ 46 ∷ 46 ∷ 46 ∷ 32 ∷ 46 ∷ 46 ∷ 46 ∷ 41 ∷ 32 ∷ 113 ∷ 117 ∷ 111 ∷ 116 ∷ 101 ∷ 32 ∷ 116 ∷ 109 ∷ 112 ∷ 41 ∷ 41 ∷ 41 ∷ 41 ∷ 41 ∷ 41 ∷ 41 ∷ 10 ∷ 40 ∷ 98 ∷ 41 ∷ 10 ∷ 40 ∷ 98 ∷ 41 ∷ 10 ∷ 40 ∷ 100 ∷ 101 ∷ 102 ∷ 105 ∷ 110 ∷ 101 ∷ 32 ∷ 110 ∷ 32 ∷ 120 ∷ 41 ∷ 10 ∷ 39 ∷ 40 ∷ 49 ∷ 41 ∷ 10 ∷ 40 ∷ 98 ∷ 41 ∷ []), r (((g.list (p 0 42 0 125) (g.part (g.atom (p 1 1 1 14) (g.spelled (k.Name (codes "define-syntax") false))) (g.part (g.atom (p 2 2 15 16) (g.spelled (k.Name (codes "b") false))) (g.part (g.list (p 3 41 17 124) (g.part (g.atom (p 4 4 18 30) (g.spelled (k.Name (codes "syntax-rules") false))) (g.part (g.list (p 5 6 31 33) g.none) (g.part (g.list (p 7 40 34 123) (g.part (g.list (p 8 10 35 39) (g.part (g.atom (p 9 9 36 37) (g.spelled (k.Name (codes "_") false))) g.none)) (g.part (g.list (p 11 39 40 122) (g.part (g.atom (p 12 12 41 54) (g.spelled (k.Name (codes "define-syntax") false))) (g.part (g.atom (p 13 13 55 56) (g.spelled (k.Name (codes "x") false))) (g.part (g.list (p 14 38 57 121) (g.part (g.atom (p 15 15 58 70) (g.spelled (k.Name (codes "syntax-rules") false))) (g.part (g.list (p 16 17 71 73) g.none) (g.part (g.list (p 18 37 74 120) (g.part (g.list (p 19 26 75 90) (g.part (g.atom (p 20 20 76 77) (g.spelled (k.Name (codes "_") false))) (g.part (g.atom (p 21 21 78 79) (g.spelled (k.Name (codes "y") false))) (g.part (g.list (p 22 25 80 89) (g.part (g.atom (p 23 23 81 84) (g.spelled (k.Name (codes "...") false))) (g.part (g.atom (p 24 24 85 88) (g.spelled (k.Name (codes "...") false))) g.none))) g.none)))) (g.part (g.list (p 27 36 91 119) (g.part (g.atom (p 28 28 92 96) (g.spelled (k.Name (codes "list") false))) (g.part (g.atom (p 29 29 97 98) (g.spelled (k.Name (codes "y") false))) (g.part (g.list (p 30 33 99 108) (g.part (g.atom (p 31 31 100 103) (g.spelled (k.Name (codes "...") false))) (g.part (g.atom (p 32 32 104 107) (g.spelled (k.Name (codes "...") false))) g.none))) (g.part (g.atom (p 34 34 109 114) (g.spelled (k.Name (codes "quote") false))) (g.part (g.atom (p 35 35 115 118) (g.spelled (k.Name (codes "tmp") false))) g.none)))))) g.none))) g.none)))) g.none)))) g.none))) g.none)))) g.none))))) ∷ ((g.list (p 43 45 126 129) (g.part (g.atom (p 44 44 127 128) (g.spelled (k.Name (codes "b") false))) g.none))) ∷ ((g.list (p 46 48 130 133) (g.part (g.atom (p 47 47 131 132) (g.spelled (k.Name (codes "b") false))) g.none))) ∷ ((g.list (p 49 53 134 146) (g.part (g.atom (p 50 50 135 141) (g.spelled (k.Name (codes "define") false))) (g.part (g.atom (p 51 51 142 143) (g.spelled (k.Name (codes "n") false))) (g.part (g.atom (p 52 52 144 145) (g.spelled (k.Name (codes "x") false))) g.none))))) ∷ ((g.list (p 54 57 147 151) (g.part (g.atom (p 54 54 147 148) (g.implied k.Quote)) (g.part (g.list (p 55 57 148 151) (g.part (g.atom (p 56 56 149 150) (g.spelled (k.Numeral (codes "1")))) g.none)) g.none)))) ∷ ((g.list (p 58 60 152 155) (g.part (g.atom (p 59 59 153 154) (g.spelled (k.Name (codes "b") false))) g.none))) ∷ []) ((s 0 1) ∷ (s 1 14) ∷ (s 15 16) ∷ (s 17 18) ∷ (s 18 30) ∷ (s 31 32) ∷ (s 32 33) ∷ (s 34 35) ∷ (s 35 36) ∷ (s 36 37) ∷ (s 38 39) ∷ (s 40 41) ∷ (s 41 54) ∷ (s 55 56) ∷ (s 57 58) ∷ (s 58 70) ∷ (s 71 72) ∷ (s 72 73) ∷ (s 74 75) ∷ (s 75 76) ∷ (s 76 77) ∷ (s 78 79) ∷ (s 80 81) ∷ (s 81 84) ∷ (s 85 88) ∷ (s 88 89) ∷ (s 89 90) ∷ (s 91 92) ∷ (s 92 96) ∷ (s 97 98) ∷ (s 99 100) ∷ (s 100 103) ∷ (s 104 107) ∷ (s 107 108) ∷ (s 109 114) ∷ (s 115 118) ∷ (s 118 119) ∷ (s 119 120) ∷ (s 120 121) ∷ (s 121 122) ∷ (s 122 123) ∷ (s 123 124) ∷ (s 124 125) ∷ (s 126 127) ∷ (s 127 128) ∷ (s 128 129) ∷ (s 130 131) ∷ (s 131 132) ∷ (s 132 133) ∷ (s 134 135) ∷ (s 135 141) ∷ (s 142 143) ∷ (s 144 145) ∷ (s 145 146) ∷ (s 147 148) ∷ (s 148 149) ∷ (s 149 150) ∷ (s 150 151) ∷ (s 152 153) ∷ (s 153 154) ∷ (s 154 155) ∷ [])) ∷ []) (Some (codes "tmp")) (((40 ∷ 100 ∷ 101 ∷ 102 ∷ 105 ∷ 110 ∷ 101 ∷ 45 ∷ 115 ∷ 121 ∷ 110 ∷ 116 ∷ 97 ∷ 120 ∷ 32 ∷ 98 ∷ 32 ∷ 40 ∷ 115 ∷ 121 ∷ 110 ∷ 116 ∷ 97 ∷ 120 ∷ 45 ∷ 114 ∷ 117 ∷ 108 ∷ 101 ∷ 115 ∷ 32 ∷ 40 ∷ 41 ∷ 32 ∷ 40 ∷ 40 ∷ 95 ∷ 32 ∷ 41 ∷ 32 ∷ 40 ∷ 100 ∷ 101 ∷ 102 ∷ 105 ∷ 110 ∷ 101 ∷ 45 ∷ 115 ∷ 121 ∷ 110 ∷ 116 ∷ 97 ∷ 120 ∷ 32 ∷ 120 ∷ 32 ∷ 40 ∷ 115 ∷ 121 ∷ 110 ∷ 116 ∷ 97 ∷ 120 ∷ 45 ∷ 114 ∷ 117 ∷ 108 ∷ 101 ∷ 115 ∷ 32 ∷ 40 ∷ 41 ∷ 32 ∷ 40 ∷ 40 ∷ 95 ∷ 32 ∷ 121 ∷ 32 ∷ 40 ∷ 46 ∷ 46 ∷ 46 ∷ 32 ∷ 46 ∷ 46 ∷ 46 ∷ 41 ∷ 41 ∷ 32 ∷ 40 ∷ 108 ∷ 105 ∷ 115 ∷ 116 ∷ 32 ∷ 121 ∷ 32 ∷ 40 ∷ 46 ∷ 46 ∷ 46 ∷ 32 ∷ 46 ∷ 46 ∷ 46 ∷ 41 ∷ 32 ∷ 113 ∷ 117 ∷ 111 ∷ 116 ∷ 101 ∷ 32 ∷ 116 ∷ 109 ∷ 112 ∷ 41 ∷ 41 ∷ 41 ∷ 41 ∷ 41 ∷ 41 ∷ 41 ∷ 10 ∷ 40 ∷ 98 ∷ 41 ∷ 10 ∷ 40 ∷ 98 ∷ 41 ∷ 10 ∷ 40 ∷ 100 ∷ 101 ∷ 102 ∷ 105 ∷ 110 ∷ 101 ∷ 32 ∷ 110 ∷ 32 ∷ 120 ∷ 41 ∷ 10 ∷ 39 ∷ 40 ∷ 49 ∷ 41 ∷ 10 ∷ 40 ∷ 98 ∷ 41 ∷ [])) ∷ []) 0 142 (codes "tmp") ≡ w.Differs d.IsTemplate 0 115 (w.Unbound (codes "tmp")) (w.Binder 0 142)
unfolding base_names standard_libraries prelude encode_utf8 chars spelled is_numeral is_identifier is_initial is_subsequent
renames-166 = refl

pub renames-169 : rename_rows (((98 ∷ 10 ∷ 121 ∷ 10 ∷ 40 ∷ 100 ∷ 101 ∷ 102 ∷ 105 ∷ 110 ∷ 101 ∷ 32 ∷ 120 ∷ 32 ∷ 96 ∷ 40 ∷ 121 ∷ 32 ∷ 44 ∷ 121 ∷ 32 ∷ 44 ∷ 64 ∷ 40 ∷ 115 ∷ 101 ∷ 116 ∷ 33 ∷ 32 ∷ 98 ∷ 32 ∷ 49 ∷ 41 ∷ 32 ∷ 46 ∷ 32 ∷ 120 ∷ 41 ∷ 41 ∷ 10 ∷ 40 ∷ 100 ∷ 101 ∷ 102 ∷ 105 ∷ 110 ∷ 101 ∷ 32 ∷ 97 ∷ 32 ∷ 121 ∷ 41 ∷ []), r (((g.atom (p 0 0 0 1) (g.spelled (k.Name (codes "b") false)))) ∷ ((g.atom (p 1 1 2 3) (g.spelled (k.Name (codes "y") false)))) ∷ ((g.list (p 2 19 4 39) (g.part (g.atom (p 3 3 5 11) (g.spelled (k.Name (codes "define") false))) (g.part (g.atom (p 4 4 12 13) (g.spelled (k.Name (codes "x") false))) (g.part (g.list (p 5 18 14 38) (g.part (g.atom (p 5 5 14 15) (g.implied k.Quasi)) (g.part (g.list (p 6 18 15 38) (g.part (g.atom (p 7 7 16 17) (g.spelled (k.Name (codes "y") false))) (g.part (g.list (p 8 9 18 20) (g.part (g.atom (p 8 8 18 19) (g.implied k.Unquote)) (g.part (g.atom (p 9 9 19 20) (g.spelled (k.Name (codes "y") false))) g.none))) (g.part (g.list (p 10 15 21 33) (g.part (g.atom (p 10 10 21 23) (g.implied k.Splice)) (g.part (g.list (p 11 15 23 33) (g.part (g.atom (p 12 12 24 28) (g.spelled (k.Name (codes "set!") false))) (g.part (g.atom (p 13 13 29 30) (g.spelled (k.Name (codes "b") false))) (g.part (g.atom (p 14 14 31 32) (g.spelled (k.Numeral (codes "1")))) g.none)))) g.none))) (g.tail (g.atom (p 17 17 36 37) (g.spelled (k.Name (codes "x") false)))))))) g.none))) g.none))))) ∷ ((g.list (p 20 24 40 52) (g.part (g.atom (p 21 21 41 47) (g.spelled (k.Name (codes "define") false))) (g.part (g.atom (p 22 22 48 49) (g.spelled (k.Name (codes "a") false))) (g.part (g.atom (p 23 23 50 51) (g.spelled (k.Name (codes "y") false))) g.none))))) ∷ []) ((s 0 1) ∷ (s 2 3) ∷ (s 4 5) ∷ (s 5 11) ∷ (s 12 13) ∷ (s 14 15) ∷ (s 15 16) ∷ (s 16 17) ∷ (s 18 19) ∷ (s 19 20) ∷ (s 21 23) ∷ (s 23 24) ∷ (s 24 28) ∷ (s 29 30) ∷ (s 31 32) ∷ (s 32 33) ∷ (s 34 35) ∷ (s 36 37) ∷ (s 37 38) ∷ (s 38 39) ∷ (s 40 41) ∷ (s 41 47) ∷ (s 48 49) ∷ (s 50 51) ∷ (s 51 52) ∷ [])) ∷ []) (Some (codes "x")) (((98 ∷ 10 ∷ 121 ∷ 10 ∷ 40 ∷ 100 ∷ 101 ∷ 102 ∷ 105 ∷ 110 ∷ 101 ∷ 32 ∷ 120 ∷ 32 ∷ 96 ∷ 40 ∷ 121 ∷ 32 ∷ 44 ∷ 121 ∷ 32 ∷ 44 ∷ 64 ∷ 40 ∷ 115 ∷ 101 ∷ 116 ∷ 33 ∷ 32 ∷ 98 ∷ 32 ∷ 49 ∷ 41 ∷ 32 ∷ 46 ∷ 32 ∷ 120 ∷ 41 ∷ 41 ∷ 10 ∷ 40 ∷ 100 ∷ 101 ∷ 102 ∷ 105 ∷ 110 ∷ 101 ∷ 32 ∷ 97 ∷ 32 ∷ 121 ∷ 41 ∷ [])) ∷ []) 0 48 (codes "x") ≡ w.Differs d.IsStructure 0 40 w.Nothing w.Nothing
unfolding base_names standard_libraries prelude encode_utf8 chars spelled is_numeral is_identifier is_initial is_subsequent
renames-169 = refl
