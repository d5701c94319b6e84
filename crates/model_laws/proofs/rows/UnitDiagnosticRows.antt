-- Open documents and their diagnostics, from outside.
-- Written by tests/definitions/rows; each row is checked by computing it.
use Rattle.std.specs.Prelude.{◌≡◌, ℕ, false, List, [], ◌∷◌, Some, codes, refl}
use Rattle.scheme_model.specs.StandardNames.{base_names}
use Rattle.scheme_model.proofs.Shown.{ArrowRow, diagnostic_rows}
use Rattle.std.specs.Char.{encode_utf8}
use Rattle.scheme_model.specs.StandardLibraries.{standard_libraries}
use Rattle.scheme_model.specs.Prelude.{prelude}
use Rattle.scheme_model.specs.Kinds as k
use Rattle.scheme_model.specs.Data as g
use Rattle.scheme_model.specs.Diagnostics.{Span, Bytes, Diagnostic}

abbrev s : ℕ → ℕ → Span
s start end = record { start = start; end = end }

abbrev p : ℕ → ℕ → ℕ → ℕ → g.Place
p first last start end = record { first = first; last = last; start = start; end = end }

abbrev b : ℕ → ℕ → ℕ → Bytes
b document start end = record { document = document; span = record { start = start; end = end } }

abbrev a : Bytes → Bytes → ArrowRow
a binder target = record { binder = binder; target = target }

abbrev q : ℕ → ℕ → ℕ → ℕ → List ℕ → Diagnostic
q document start end code text = record { document = document; start = start; end = end; code = code; text = text }

pub fault-alone : diagnostic_rows (((s 0 1) ∷ (s 1 7) ∷ (s 8 9) ∷ (s 9 15) ∷ (s 16 20) ∷ (s 20 21) ∷ (s 21 22) ∷ (s 23 24) ∷ (s 24 30) ∷ (s 31 32) ∷ (s 32 36) ∷ (s 37 38) ∷ (s 38 39) ∷ (s 40 41) ∷ (s 41 43) ∷ (s 43 44) ∷ (s 44 45) ∷ []) ∷ []) ((Some (((g.list (p 0 6 0 22) (g.part (g.atom (p 1 1 1 7) (g.spelled (k.Name (codes "import") false))) (g.part (g.list (p 2 5 8 21) (g.part (g.atom (p 3 3 9 15) (g.spelled (k.Name (codes "scheme") false))) (g.part (g.atom (p 4 4 16 20) (g.spelled (k.Name (codes "base") false))) g.none))) g.none)))) ∷ ((g.list (p 7 16 23 45) (g.part (g.atom (p 8 8 24 30) (g.spelled (k.Name (codes "define") false))) (g.part (g.list (p 9 12 31 39) (g.part (g.atom (p 10 10 32 36) (g.spelled (k.Name (codes "list") false))) (g.part (g.atom (p 11 11 37 38) (g.spelled (k.Name (codes "x") false))) g.none))) (g.part (g.list (p 13 15 40 44) (g.part (g.atom (p 14 14 41 43) (g.spelled (k.Name (codes "if") false))) g.none)) g.none))))) ∷ [])) ∷ []) ≡ ((q 0 40 41 31 (codes "bad form")) ∷ [])
unfolding base_names standard_libraries prelude encode_utf8
fault-alone = refl

pub no-fault-hides : diagnostic_rows (((s 0 1) ∷ (s 1 7) ∷ (s 8 9) ∷ (s 9 15) ∷ (s 16 20) ∷ (s 20 21) ∷ (s 21 22) ∷ (s 23 24) ∷ (s 24 30) ∷ (s 31 32) ∷ (s 32 36) ∷ (s 37 38) ∷ (s 38 39) ∷ (s 40 41) ∷ (s 41 43) ∷ (s 44 45) ∷ (s 46 47) ∷ (s 48 49) ∷ (s 49 50) ∷ (s 50 51) ∷ []) ∷ []) ((Some (((g.list (p 0 6 0 22) (g.part (g.atom (p 1 1 1 7) (g.spelled (k.Name (codes "import") false))) (g.part (g.list (p 2 5 8 21) (g.part (g.atom (p 3 3 9 15) (g.spelled (k.Name (codes "scheme") false))) (g.part (g.atom (p 4 4 16 20) (g.spelled (k.Name (codes "base") false))) g.none))) g.none)))) ∷ ((g.list (p 7 19 23 51) (g.part (g.atom (p 8 8 24 30) (g.spelled (k.Name (codes "define") false))) (g.part (g.list (p 9 12 31 39) (g.part (g.atom (p 10 10 32 36) (g.spelled (k.Name (codes "list") false))) (g.part (g.atom (p 11 11 37 38) (g.spelled (k.Name (codes "x") false))) g.none))) (g.part (g.list (p 13 18 40 50) (g.part (g.atom (p 14 14 41 43) (g.spelled (k.Name (codes "if") false))) (g.part (g.atom (p 15 15 44 45) (g.spelled (k.Name (codes "x") false))) (g.part (g.atom (p 16 16 46 47) (g.spelled (k.Numeral (codes "1")))) (g.part (g.atom (p 17 17 48 49) (g.spelled (k.Numeral (codes "2")))) g.none))))) g.none))))) ∷ [])) ∷ []) ≡ ((q 0 32 36 101 (codes "definition hides import list")) ∷ [])
unfolding base_names standard_libraries prelude encode_utf8
no-fault-hides = refl

pub fault-of-another-form : diagnostic_rows (((s 0 1) ∷ (s 1 7) ∷ (s 8 9) ∷ (s 9 15) ∷ (s 16 20) ∷ (s 20 21) ∷ (s 21 22) ∷ (s 23 24) ∷ (s 24 30) ∷ (s 31 34) ∷ (s 35 36) ∷ (s 36 37) ∷ (s 38 39) ∷ (s 39 45) ∷ (s 46 47) ∷ (s 47 50) ∷ (s 51 52) ∷ (s 52 53) ∷ (s 54 55) ∷ (s 55 57) ∷ (s 57 58) ∷ (s 58 59) ∷ []) ∷ []) ((Some (((g.list (p 0 6 0 22) (g.part (g.atom (p 1 1 1 7) (g.spelled (k.Name (codes "import") false))) (g.part (g.list (p 2 5 8 21) (g.part (g.atom (p 3 3 9 15) (g.spelled (k.Name (codes "scheme") false))) (g.part (g.atom (p 4 4 16 20) (g.spelled (k.Name (codes "base") false))) g.none))) g.none)))) ∷ ((g.list (p 7 11 23 37) (g.part (g.atom (p 8 8 24 30) (g.spelled (k.Name (codes "define") false))) (g.part (g.atom (p 9 9 31 34) (g.spelled (k.Name (codes "car") false))) (g.part (g.atom (p 10 10 35 36) (g.spelled (k.Numeral (codes "1")))) g.none))))) ∷ ((g.list (p 12 21 38 59) (g.part (g.atom (p 13 13 39 45) (g.spelled (k.Name (codes "define") false))) (g.part (g.list (p 14 17 46 53) (g.part (g.atom (p 15 15 47 50) (g.spelled (k.Name (codes "cdr") false))) (g.part (g.atom (p 16 16 51 52) (g.spelled (k.Name (codes "x") false))) g.none))) (g.part (g.list (p 18 20 54 58) (g.part (g.atom (p 19 19 55 57) (g.spelled (k.Name (codes "if") false))) g.none)) g.none))))) ∷ [])) ∷ []) ≡ ((q 0 31 34 101 (codes "definition hides import car")) ∷ (q 0 54 55 31 (codes "bad form")) ∷ [])
unfolding base_names standard_libraries prelude encode_utf8
fault-of-another-form = refl

pub fault-behind-a-definition : diagnostic_rows (((s 0 1) ∷ (s 1 7) ∷ (s 8 9) ∷ (s 9 15) ∷ (s 16 20) ∷ (s 20 21) ∷ (s 21 22) ∷ (s 23 24) ∷ (s 24 29) ∷ (s 30 31) ∷ (s 31 37) ∷ (s 38 41) ∷ (s 42 43) ∷ (s 43 44) ∷ (s 45 46) ∷ (s 46 52) ∷ (s 53 54) ∷ (s 54 55) ∷ (s 55 56) ∷ (s 57 58) ∷ (s 58 60) ∷ (s 60 61) ∷ (s 61 62) ∷ (s 62 63) ∷ []) ∷ []) ((Some (((g.list (p 0 6 0 22) (g.part (g.atom (p 1 1 1 7) (g.spelled (k.Name (codes "import") false))) (g.part (g.list (p 2 5 8 21) (g.part (g.atom (p 3 3 9 15) (g.spelled (k.Name (codes "scheme") false))) (g.part (g.atom (p 4 4 16 20) (g.spelled (k.Name (codes "base") false))) g.none))) g.none)))) ∷ ((g.list (p 7 23 23 63) (g.part (g.atom (p 8 8 24 29) (g.spelled (k.Name (codes "begin") false))) (g.part (g.list (p 9 13 30 44) (g.part (g.atom (p 10 10 31 37) (g.spelled (k.Name (codes "define") false))) (g.part (g.atom (p 11 11 38 41) (g.spelled (k.Name (codes "car") false))) (g.part (g.atom (p 12 12 42 43) (g.spelled (k.Numeral (codes "1")))) g.none)))) (g.part (g.list (p 14 22 45 62) (g.part (g.atom (p 15 15 46 52) (g.spelled (k.Name (codes "define") false))) (g.part (g.list (p 16 18 53 56) (g.part (g.atom (p 17 17 54 55) (g.spelled (k.Name (codes "f") false))) g.none)) (g.part (g.list (p 19 21 57 61) (g.part (g.atom (p 20 20 58 60) (g.spelled (k.Name (codes "if") false))) g.none)) g.none)))) g.none))))) ∷ [])) ∷ []) ≡ ((q 0 57 58 31 (codes "bad form")) ∷ [])
unfolding base_names standard_libraries prelude encode_utf8
fault-behind-a-definition = refl

pub fault-of-the-second : diagnostic_rows (((s 0 1) ∷ (s 1 15) ∷ (s 16 17) ∷ (s 17 18) ∷ (s 18 19) ∷ (s 20 21) ∷ (s 21 27) ∷ (s 28 29) ∷ (s 29 35) ∷ (s 36 40) ∷ (s 40 41) ∷ (s 41 42) ∷ (s 43 44) ∷ (s 44 49) ∷ (s 50 51) ∷ (s 51 57) ∷ (s 58 62) ∷ (s 63 64) ∷ (s 64 65) ∷ (s 66 67) ∷ (s 67 73) ∷ (s 74 78) ∷ (s 79 80) ∷ (s 80 81) ∷ (s 81 82) ∷ (s 82 83) ∷ []) ∷ []) ((Some (((g.list (p 0 25 0 83) (g.part (g.atom (p 1 1 1 15) (g.spelled (k.Name (codes "define-library") false))) (g.part (g.list (p 2 4 16 19) (g.part (g.atom (p 3 3 17 18) (g.spelled (k.Name (codes "l") false))) g.none)) (g.part (g.list (p 5 11 20 42) (g.part (g.atom (p 6 6 21 27) (g.spelled (k.Name (codes "import") false))) (g.part (g.list (p 7 10 28 41) (g.part (g.atom (p 8 8 29 35) (g.spelled (k.Name (codes "scheme") false))) (g.part (g.atom (p 9 9 36 40) (g.spelled (k.Name (codes "base") false))) g.none))) g.none))) (g.part (g.list (p 12 24 43 82) (g.part (g.atom (p 13 13 44 49) (g.spelled (k.Name (codes "begin") false))) (g.part (g.list (p 14 18 50 65) (g.part (g.atom (p 15 15 51 57) (g.spelled (k.Name (codes "define") false))) (g.part (g.atom (p 16 16 58 62) (g.spelled (k.Name (codes "list") false))) (g.part (g.atom (p 17 17 63 64) (g.spelled (k.Numeral (codes "1")))) g.none)))) (g.part (g.list (p 19 23 66 81) (g.part (g.atom (p 20 20 67 73) (g.spelled (k.Name (codes "define") false))) (g.part (g.atom (p 21 21 74 78) (g.spelled (k.Name (codes "list") false))) (g.part (g.atom (p 22 22 79 80) (g.spelled (k.Numeral (codes "2")))) g.none)))) g.none)))) g.none)))))) ∷ [])) ∷ []) ≡ ((q 0 58 62 101 (codes "definition hides import list")) ∷ (q 0 74 78 42 (codes "duplicate definition list")) ∷ [])
unfolding base_names standard_libraries prelude encode_utf8
fault-of-the-second = refl

pub hiding-without-a-token : diagnostic_rows (((s 0 1) ∷ (s 1 7) ∷ (s 8 9) ∷ (s 9 15) ∷ (s 16 20) ∷ (s 20 21) ∷ (s 21 22) ∷ (s 23 24) ∷ (s 24 30) ∷ (s 31 32) ∷ (s 33 34) ∷ (s 34 35) ∷ (s 35 36) ∷ []) ∷ []) ((Some (((g.list (p 0 6 0 22) (g.part (g.atom (p 1 1 1 7) (g.spelled (k.Name (codes "import") false))) (g.part (g.list (p 2 5 8 21) (g.part (g.atom (p 3 3 9 15) (g.spelled (k.Name (codes "scheme") false))) (g.part (g.atom (p 4 4 16 20) (g.spelled (k.Name (codes "base") false))) g.none))) g.none)))) ∷ ((g.list (p 7 12 23 36) (g.part (g.atom (p 8 8 24 30) (g.spelled (k.Name (codes "define") false))) (g.part (g.atom (p 10 10 33 34) (g.implied k.Quote)) (g.part (g.atom (p 11 11 34 35) (g.spelled (k.Name (codes "x") false))) g.none))))) ∷ [])) ∷ []) ≡ ((q 0 23 24 101 (codes "definition hides import quote")) ∷ (q 0 34 35 103 (codes "unbound x")) ∷ [])
unfolding base_names standard_libraries prelude encode_utf8
hiding-without-a-token = refl

pub fault-hides-for-uses : diagnostic_rows (((s 0 1) ∷ (s 1 7) ∷ (s 8 9) ∷ (s 9 15) ∷ (s 16 20) ∷ (s 20 21) ∷ (s 21 22) ∷ (s 23 24) ∷ (s 24 30) ∷ (s 31 32) ∷ (s 32 36) ∷ (s 37 38) ∷ (s 38 39) ∷ (s 40 41) ∷ (s 41 43) ∷ (s 43 44) ∷ (s 44 45) ∷ (s 46 47) ∷ (s 47 51) ∷ (s 52 53) ∷ (s 53 54) ∷ []) ∷ []) ((Some (((g.list (p 0 6 0 22) (g.part (g.atom (p 1 1 1 7) (g.spelled (k.Name (codes "import") false))) (g.part (g.list (p 2 5 8 21) (g.part (g.atom (p 3 3 9 15) (g.spelled (k.Name (codes "scheme") false))) (g.part (g.atom (p 4 4 16 20) (g.spelled (k.Name (codes "base") false))) g.none))) g.none)))) ∷ ((g.list (p 7 16 23 45) (g.part (g.atom (p 8 8 24 30) (g.spelled (k.Name (codes "define") false))) (g.part (g.list (p 9 12 31 39) (g.part (g.atom (p 10 10 32 36) (g.spelled (k.Name (codes "list") false))) (g.part (g.atom (p 11 11 37 38) (g.spelled (k.Name (codes "x") false))) g.none))) (g.part (g.list (p 13 15 40 44) (g.part (g.atom (p 14 14 41 43) (g.spelled (k.Name (codes "if") false))) g.none)) g.none))))) ∷ ((g.list (p 17 20 46 54) (g.part (g.atom (p 18 18 47 51) (g.spelled (k.Name (codes "list") false))) (g.part (g.atom (p 19 19 52 53) (g.spelled (k.Numeral (codes "1")))) g.none)))) ∷ [])) ∷ []) ≡ ((q 0 40 41 31 (codes "bad form")) ∷ [])
unfolding base_names standard_libraries prelude encode_utf8
fault-hides-for-uses = refl

pub include-declared : diagnostic_rows (((s 0 1) ∷ (s 1 15) ∷ (s 16 17) ∷ (s 17 18) ∷ (s 18 19) ∷ (s 20 21) ∷ (s 21 27) ∷ (s 28 31) ∷ (s 31 32) ∷ (s 33 34) ∷ (s 34 40) ∷ (s 41 42) ∷ (s 42 48) ∷ (s 49 53) ∷ (s 53 54) ∷ (s 54 55) ∷ (s 56 57) ∷ (s 57 64) ∷ (s 65 72) ∷ (s 72 73) ∷ (s 73 74) ∷ []) ∷ []) ((Some (((g.list (p 0 20 0 74) (g.part (g.atom (p 1 1 1 15) (g.spelled (k.Name (codes "define-library") false))) (g.part (g.list (p 2 4 16 19) (g.part (g.atom (p 3 3 17 18) (g.spelled (k.Name (codes "l") false))) g.none)) (g.part (g.list (p 5 8 20 32) (g.part (g.atom (p 6 6 21 27) (g.spelled (k.Name (codes "export") false))) (g.part (g.atom (p 7 7 28 31) (g.spelled (k.Name (codes "fun") false))) g.none))) (g.part (g.list (p 9 15 33 55) (g.part (g.atom (p 10 10 34 40) (g.spelled (k.Name (codes "import") false))) (g.part (g.list (p 11 14 41 54) (g.part (g.atom (p 12 12 42 48) (g.spelled (k.Name (codes "scheme") false))) (g.part (g.atom (p 13 13 49 53) (g.spelled (k.Name (codes "base") false))) g.none))) g.none))) (g.part (g.list (p 16 19 56 73) (g.part (g.atom (p 17 17 57 64) (g.spelled (k.Name (codes "include") false))) (g.part (g.atom (p 18 18 65 72) (g.spelled (k.Quoted (codes "a.scm")))) g.none))) g.none))))))) ∷ [])) ∷ []) ≡ ((q 0 28 31 64 (codes "not defined fun")) ∷ (q 0 65 72 105 (codes "included text not usable a.scm")) ∷ [])
unfolding base_names standard_libraries prelude encode_utf8
include-declared = refl

pub include-ci-declared : diagnostic_rows (((s 0 1) ∷ (s 1 15) ∷ (s 16 17) ∷ (s 17 18) ∷ (s 18 19) ∷ (s 20 21) ∷ (s 21 27) ∷ (s 28 31) ∷ (s 31 32) ∷ (s 33 34) ∷ (s 34 40) ∷ (s 41 42) ∷ (s 42 48) ∷ (s 49 53) ∷ (s 53 54) ∷ (s 54 55) ∷ (s 56 57) ∷ (s 57 67) ∷ (s 68 75) ∷ (s 75 76) ∷ (s 77 78) ∷ (s 78 83) ∷ (s 84 85) ∷ (s 85 91) ∷ (s 92 95) ∷ (s 96 97) ∷ (s 97 98) ∷ (s 98 99) ∷ (s 99 100) ∷ []) ∷ []) ((Some (((g.list (p 0 28 0 100) (g.part (g.atom (p 1 1 1 15) (g.spelled (k.Name (codes "define-library") false))) (g.part (g.list (p 2 4 16 19) (g.part (g.atom (p 3 3 17 18) (g.spelled (k.Name (codes "l") false))) g.none)) (g.part (g.list (p 5 8 20 32) (g.part (g.atom (p 6 6 21 27) (g.spelled (k.Name (codes "export") false))) (g.part (g.atom (p 7 7 28 31) (g.spelled (k.Name (codes "fun") false))) g.none))) (g.part (g.list (p 9 15 33 55) (g.part (g.atom (p 10 10 34 40) (g.spelled (k.Name (codes "import") false))) (g.part (g.list (p 11 14 41 54) (g.part (g.atom (p 12 12 42 48) (g.spelled (k.Name (codes "scheme") false))) (g.part (g.atom (p 13 13 49 53) (g.spelled (k.Name (codes "base") false))) g.none))) g.none))) (g.part (g.list (p 16 19 56 76) (g.part (g.atom (p 17 17 57 67) (g.spelled (k.Name (codes "include-ci") false))) (g.part (g.atom (p 18 18 68 75) (g.spelled (k.Quoted (codes "a.scm")))) g.none))) (g.part (g.list (p 20 27 77 99) (g.part (g.atom (p 21 21 78 83) (g.spelled (k.Name (codes "begin") false))) (g.part (g.list (p 22 26 84 98) (g.part (g.atom (p 23 23 85 91) (g.spelled (k.Name (codes "define") false))) (g.part (g.atom (p 24 24 92 95) (g.spelled (k.Name (codes "fun") false))) (g.part (g.atom (p 25 25 96 97) (g.spelled (k.Numeral (codes "1")))) g.none)))) g.none))) g.none)))))))) ∷ [])) ∷ []) ≡ ((q 0 56 57 48 (codes "include is refused")) ∷ [])
unfolding base_names standard_libraries prelude encode_utf8
include-ci-declared = refl

pub include-declarations-declared : diagnostic_rows (((s 0 1) ∷ (s 1 15) ∷ (s 16 17) ∷ (s 17 18) ∷ (s 18 19) ∷ (s 20 21) ∷ (s 21 27) ∷ (s 28 31) ∷ (s 31 32) ∷ (s 33 34) ∷ (s 34 40) ∷ (s 41 42) ∷ (s 42 48) ∷ (s 49 53) ∷ (s 53 54) ∷ (s 54 55) ∷ (s 56 57) ∷ (s 57 85) ∷ (s 86 93) ∷ (s 94 101) ∷ (s 101 102) ∷ (s 103 104) ∷ (s 104 109) ∷ (s 110 111) ∷ (s 111 117) ∷ (s 118 121) ∷ (s 122 123) ∷ (s 123 124) ∷ (s 124 125) ∷ (s 125 126) ∷ []) ∷ []) ((Some (((g.list (p 0 29 0 126) (g.part (g.atom (p 1 1 1 15) (g.spelled (k.Name (codes "define-library") false))) (g.part (g.list (p 2 4 16 19) (g.part (g.atom (p 3 3 17 18) (g.spelled (k.Name (codes "l") false))) g.none)) (g.part (g.list (p 5 8 20 32) (g.part (g.atom (p 6 6 21 27) (g.spelled (k.Name (codes "export") false))) (g.part (g.atom (p 7 7 28 31) (g.spelled (k.Name (codes "fun") false))) g.none))) (g.part (g.list (p 9 15 33 55) (g.part (g.atom (p 10 10 34 40) (g.spelled (k.Name (codes "import") false))) (g.part (g.list (p 11 14 41 54) (g.part (g.atom (p 12 12 42 48) (g.spelled (k.Name (codes "scheme") false))) (g.part (g.atom (p 13 13 49 53) (g.spelled (k.Name (codes "base") false))) g.none))) g.none))) (g.part (g.list (p 16 20 56 102) (g.part (g.atom (p 17 17 57 85) (g.spelled (k.Name (codes "include-library-declarations") false))) (g.part (g.atom (p 18 18 86 93) (g.spelled (k.Quoted (codes "a.scm")))) (g.part (g.atom (p 19 19 94 101) (g.spelled (k.Quoted (codes "b.scm")))) g.none)))) (g.part (g.list (p 21 28 103 125) (g.part (g.atom (p 22 22 104 109) (g.spelled (k.Name (codes "begin") false))) (g.part (g.list (p 23 27 110 124) (g.part (g.atom (p 24 24 111 117) (g.spelled (k.Name (codes "define") false))) (g.part (g.atom (p 25 25 118 121) (g.spelled (k.Name (codes "fun") false))) (g.part (g.atom (p 26 26 122 123) (g.spelled (k.Numeral (codes "1")))) g.none)))) g.none))) g.none)))))))) ∷ [])) ∷ []) ≡ ((q 0 86 93 105 (codes "included text not usable a.scm")) ∷ (q 0 94 101 105 (codes "included text not usable b.scm")) ∷ [])
unfolding base_names standard_libraries prelude encode_utf8
include-declarations-declared = refl

pub include-of-nothing : diagnostic_rows (((s 0 1) ∷ (s 1 15) ∷ (s 16 17) ∷ (s 17 18) ∷ (s 18 19) ∷ (s 20 21) ∷ (s 21 27) ∷ (s 28 31) ∷ (s 31 32) ∷ (s 33 34) ∷ (s 34 40) ∷ (s 41 42) ∷ (s 42 48) ∷ (s 49 53) ∷ (s 53 54) ∷ (s 54 55) ∷ (s 56 57) ∷ (s 57 64) ∷ (s 64 65) ∷ (s 66 67) ∷ (s 67 72) ∷ (s 73 74) ∷ (s 74 80) ∷ (s 81 84) ∷ (s 85 86) ∷ (s 86 87) ∷ (s 87 88) ∷ (s 88 89) ∷ []) ∷ []) ((Some (((g.list (p 0 27 0 89) (g.part (g.atom (p 1 1 1 15) (g.spelled (k.Name (codes "define-library") false))) (g.part (g.list (p 2 4 16 19) (g.part (g.atom (p 3 3 17 18) (g.spelled (k.Name (codes "l") false))) g.none)) (g.part (g.list (p 5 8 20 32) (g.part (g.atom (p 6 6 21 27) (g.spelled (k.Name (codes "export") false))) (g.part (g.atom (p 7 7 28 31) (g.spelled (k.Name (codes "fun") false))) g.none))) (g.part (g.list (p 9 15 33 55) (g.part (g.atom (p 10 10 34 40) (g.spelled (k.Name (codes "import") false))) (g.part (g.list (p 11 14 41 54) (g.part (g.atom (p 12 12 42 48) (g.spelled (k.Name (codes "scheme") false))) (g.part (g.atom (p 13 13 49 53) (g.spelled (k.Name (codes "base") false))) g.none))) g.none))) (g.part (g.list (p 16 18 56 65) (g.part (g.atom (p 17 17 57 64) (g.spelled (k.Name (codes "include") false))) g.none)) (g.part (g.list (p 19 26 66 88) (g.part (g.atom (p 20 20 67 72) (g.spelled (k.Name (codes "begin") false))) (g.part (g.list (p 21 25 73 87) (g.part (g.atom (p 22 22 74 80) (g.spelled (k.Name (codes "define") false))) (g.part (g.atom (p 23 23 81 84) (g.spelled (k.Name (codes "fun") false))) (g.part (g.atom (p 24 24 85 86) (g.spelled (k.Numeral (codes "1")))) g.none)))) g.none))) g.none)))))))) ∷ [])) ∷ []) ≡ ((q 0 56 65 61 (codes "bad declaration")) ∷ [])
unfolding base_names standard_libraries prelude encode_utf8
include-of-nothing = refl

pub include-twice : diagnostic_rows (((s 0 1) ∷ (s 1 15) ∷ (s 16 17) ∷ (s 17 18) ∷ (s 18 19) ∷ (s 20 21) ∷ (s 21 27) ∷ (s 28 31) ∷ (s 31 32) ∷ (s 33 34) ∷ (s 34 40) ∷ (s 41 42) ∷ (s 42 48) ∷ (s 49 53) ∷ (s 53 54) ∷ (s 54 55) ∷ (s 56 57) ∷ (s 57 64) ∷ (s 65 68) ∷ (s 68 69) ∷ (s 70 71) ∷ (s 71 76) ∷ (s 77 78) ∷ (s 78 84) ∷ (s 85 88) ∷ (s 89 90) ∷ (s 90 91) ∷ (s 91 92) ∷ (s 93 94) ∷ (s 94 101) ∷ (s 102 105) ∷ (s 105 106) ∷ (s 106 107) ∷ []) ∷ []) ((Some (((g.list (p 0 32 0 107) (g.part (g.atom (p 1 1 1 15) (g.spelled (k.Name (codes "define-library") false))) (g.part (g.list (p 2 4 16 19) (g.part (g.atom (p 3 3 17 18) (g.spelled (k.Name (codes "l") false))) g.none)) (g.part (g.list (p 5 8 20 32) (g.part (g.atom (p 6 6 21 27) (g.spelled (k.Name (codes "export") false))) (g.part (g.atom (p 7 7 28 31) (g.spelled (k.Name (codes "fun") false))) g.none))) (g.part (g.list (p 9 15 33 55) (g.part (g.atom (p 10 10 34 40) (g.spelled (k.Name (codes "import") false))) (g.part (g.list (p 11 14 41 54) (g.part (g.atom (p 12 12 42 48) (g.spelled (k.Name (codes "scheme") false))) (g.part (g.atom (p 13 13 49 53) (g.spelled (k.Name (codes "base") false))) g.none))) g.none))) (g.part (g.list (p 16 19 56 69) (g.part (g.atom (p 17 17 57 64) (g.spelled (k.Name (codes "include") false))) (g.part (g.atom (p 18 18 65 68) (g.spelled (k.Quoted (codes "x")))) g.none))) (g.part (g.list (p 20 27 70 92) (g.part (g.atom (p 21 21 71 76) (g.spelled (k.Name (codes "begin") false))) (g.part (g.list (p 22 26 77 91) (g.part (g.atom (p 23 23 78 84) (g.spelled (k.Name (codes "define") false))) (g.part (g.atom (p 24 24 85 88) (g.spelled (k.Name (codes "fun") false))) (g.part (g.atom (p 25 25 89 90) (g.spelled (k.Numeral (codes "1")))) g.none)))) g.none))) (g.part (g.list (p 28 31 93 106) (g.part (g.atom (p 29 29 94 101) (g.spelled (k.Name (codes "include") false))) (g.part (g.atom (p 30 30 102 105) (g.spelled (k.Quoted (codes "y")))) g.none))) g.none))))))))) ∷ [])) ∷ []) ≡ ((q 0 65 68 105 (codes "included text not usable x")) ∷ (q 0 102 105 105 (codes "included text not usable y")) ∷ [])
unfolding base_names standard_libraries prelude encode_utf8
include-twice = refl

pub include-chosen : diagnostic_rows (((s 0 1) ∷ (s 1 15) ∷ (s 16 17) ∷ (s 17 18) ∷ (s 18 19) ∷ (s 20 21) ∷ (s 21 27) ∷ (s 28 31) ∷ (s 31 32) ∷ (s 33 34) ∷ (s 34 40) ∷ (s 41 42) ∷ (s 42 48) ∷ (s 49 53) ∷ (s 53 54) ∷ (s 54 55) ∷ (s 56 57) ∷ (s 57 68) ∷ (s 69 70) ∷ (s 70 74) ∷ (s 75 76) ∷ (s 76 83) ∷ (s 84 87) ∷ (s 87 88) ∷ (s 89 90) ∷ (s 90 95) ∷ (s 96 97) ∷ (s 97 103) ∷ (s 104 107) ∷ (s 108 109) ∷ (s 109 110) ∷ (s 110 111) ∷ (s 111 112) ∷ (s 113 114) ∷ (s 114 118) ∷ (s 119 120) ∷ (s 120 127) ∷ (s 128 131) ∷ (s 131 132) ∷ (s 132 133) ∷ (s 133 134) ∷ (s 134 135) ∷ []) ∷ []) ((Some (((g.list (p 0 41 0 135) (g.part (g.atom (p 1 1 1 15) (g.spelled (k.Name (codes "define-library") false))) (g.part (g.list (p 2 4 16 19) (g.part (g.atom (p 3 3 17 18) (g.spelled (k.Name (codes "l") false))) g.none)) (g.part (g.list (p 5 8 20 32) (g.part (g.atom (p 6 6 21 27) (g.spelled (k.Name (codes "export") false))) (g.part (g.atom (p 7 7 28 31) (g.spelled (k.Name (codes "fun") false))) g.none))) (g.part (g.list (p 9 15 33 55) (g.part (g.atom (p 10 10 34 40) (g.spelled (k.Name (codes "import") false))) (g.part (g.list (p 11 14 41 54) (g.part (g.atom (p 12 12 42 48) (g.spelled (k.Name (codes "scheme") false))) (g.part (g.atom (p 13 13 49 53) (g.spelled (k.Name (codes "base") false))) g.none))) g.none))) (g.part (g.list (p 16 40 56 134) (g.part (g.atom (p 17 17 57 68) (g.spelled (k.Name (codes "cond-expand") false))) (g.part (g.list (p 18 32 69 112) (g.part (g.atom (p 19 19 70 74) (g.spelled (k.Name (codes "r7rs") false))) (g.part (g.list (p 20 23 75 88) (g.part (g.atom (p 21 21 76 83) (g.spelled (k.Name (codes "include") false))) (g.part (g.atom (p 22 22 84 87) (g.spelled (k.Quoted (codes "x")))) g.none))) (g.part (g.list (p 24 31 89 111) (g.part (g.atom (p 25 25 90 95) (g.spelled (k.Name (codes "begin") false))) (g.part (g.list (p 26 30 96 110) (g.part (g.atom (p 27 27 97 103) (g.spelled (k.Name (codes "define") false))) (g.part (g.atom (p 28 28 104 107) (g.spelled (k.Name (codes "fun") false))) (g.part (g.atom (p 29 29 108 109) (g.spelled (k.Numeral (codes "1")))) g.none)))) g.none))) g.none)))) (g.part (g.list (p 33 39 113 133) (g.part (g.atom (p 34 34 114 118) (g.spelled (k.Name (codes "else") false))) (g.part (g.list (p 35 38 119 132) (g.part (g.atom (p 36 36 120 127) (g.spelled (k.Name (codes "include") false))) (g.part (g.atom (p 37 37 128 131) (g.spelled (k.Quoted (codes "y")))) g.none))) g.none))) g.none)))) g.none))))))) ∷ [])) ∷ []) ≡ ((q 0 84 87 105 (codes "included text not usable x")) ∷ [])
unfolding base_names standard_libraries prelude encode_utf8
include-chosen = refl

pub include-not-chosen : diagnostic_rows (((s 0 1) ∷ (s 1 15) ∷ (s 16 17) ∷ (s 17 18) ∷ (s 18 19) ∷ (s 20 21) ∷ (s 21 27) ∷ (s 28 31) ∷ (s 31 32) ∷ (s 33 34) ∷ (s 34 40) ∷ (s 41 42) ∷ (s 42 48) ∷ (s 49 53) ∷ (s 53 54) ∷ (s 54 55) ∷ (s 56 57) ∷ (s 57 68) ∷ (s 69 70) ∷ (s 70 71) ∷ (s 71 74) ∷ (s 75 79) ∷ (s 79 80) ∷ (s 81 82) ∷ (s 82 89) ∷ (s 90 93) ∷ (s 93 94) ∷ (s 94 95) ∷ (s 96 97) ∷ (s 97 101) ∷ (s 102 103) ∷ (s 103 108) ∷ (s 109 110) ∷ (s 110 116) ∷ (s 117 120) ∷ (s 121 122) ∷ (s 122 123) ∷ (s 123 124) ∷ (s 124 125) ∷ (s 125 126) ∷ (s 126 127) ∷ []) ∷ []) ((Some (((g.list (p 0 40 0 127) (g.part (g.atom (p 1 1 1 15) (g.spelled (k.Name (codes "define-library") false))) (g.part (g.list (p 2 4 16 19) (g.part (g.atom (p 3 3 17 18) (g.spelled (k.Name (codes "l") false))) g.none)) (g.part (g.list (p 5 8 20 32) (g.part (g.atom (p 6 6 21 27) (g.spelled (k.Name (codes "export") false))) (g.part (g.atom (p 7 7 28 31) (g.spelled (k.Name (codes "fun") false))) g.none))) (g.part (g.list (p 9 15 33 55) (g.part (g.atom (p 10 10 34 40) (g.spelled (k.Name (codes "import") false))) (g.part (g.list (p 11 14 41 54) (g.part (g.atom (p 12 12 42 48) (g.spelled (k.Name (codes "scheme") false))) (g.part (g.atom (p 13 13 49 53) (g.spelled (k.Name (codes "base") false))) g.none))) g.none))) (g.part (g.list (p 16 39 56 126) (g.part (g.atom (p 17 17 57 68) (g.spelled (k.Name (codes "cond-expand") false))) (g.part (g.list (p 18 27 69 95) (g.part (g.list (p 19 22 70 80) (g.part (g.atom (p 20 20 71 74) (g.spelled (k.Name (codes "not") false))) (g.part (g.atom (p 21 21 75 79) (g.spelled (k.Name (codes "r7rs") false))) g.none))) (g.part (g.list (p 23 26 81 94) (g.part (g.atom (p 24 24 82 89) (g.spelled (k.Name (codes "include") false))) (g.part (g.atom (p 25 25 90 93) (g.spelled (k.Quoted (codes "x")))) g.none))) g.none))) (g.part (g.list (p 28 38 96 125) (g.part (g.atom (p 29 29 97 101) (g.spelled (k.Name (codes "else") false))) (g.part (g.list (p 30 37 102 124) (g.part (g.atom (p 31 31 103 108) (g.spelled (k.Name (codes "begin") false))) (g.part (g.list (p 32 36 109 123) (g.part (g.atom (p 33 33 110 116) (g.spelled (k.Name (codes "define") false))) (g.part (g.atom (p 34 34 117 120) (g.spelled (k.Name (codes "fun") false))) (g.part (g.atom (p 35 35 121 122) (g.spelled (k.Numeral (codes "1")))) g.none)))) g.none))) g.none))) g.none)))) g.none))))))) ∷ [])) ∷ []) ≡ ([])
unfolding base_names standard_libraries prelude encode_utf8
include-not-chosen = refl

pub include-dotted : diagnostic_rows (((s 0 1) ∷ (s 1 15) ∷ (s 16 17) ∷ (s 17 18) ∷ (s 18 19) ∷ (s 20 21) ∷ (s 21 27) ∷ (s 28 31) ∷ (s 31 32) ∷ (s 33 34) ∷ (s 34 40) ∷ (s 41 42) ∷ (s 42 48) ∷ (s 49 53) ∷ (s 53 54) ∷ (s 54 55) ∷ (s 56 57) ∷ (s 57 64) ∷ (s 65 66) ∷ (s 67 70) ∷ (s 70 71) ∷ (s 71 72) ∷ []) ∷ []) ((Some (((g.list (p 0 21 0 72) (g.part (g.atom (p 1 1 1 15) (g.spelled (k.Name (codes "define-library") false))) (g.part (g.list (p 2 4 16 19) (g.part (g.atom (p 3 3 17 18) (g.spelled (k.Name (codes "l") false))) g.none)) (g.part (g.list (p 5 8 20 32) (g.part (g.atom (p 6 6 21 27) (g.spelled (k.Name (codes "export") false))) (g.part (g.atom (p 7 7 28 31) (g.spelled (k.Name (codes "fun") false))) g.none))) (g.part (g.list (p 9 15 33 55) (g.part (g.atom (p 10 10 34 40) (g.spelled (k.Name (codes "import") false))) (g.part (g.list (p 11 14 41 54) (g.part (g.atom (p 12 12 42 48) (g.spelled (k.Name (codes "scheme") false))) (g.part (g.atom (p 13 13 49 53) (g.spelled (k.Name (codes "base") false))) g.none))) g.none))) (g.part (g.list (p 16 20 56 71) (g.part (g.atom (p 17 17 57 64) (g.spelled (k.Name (codes "include") false))) (g.tail (g.atom (p 19 19 67 70) (g.spelled (k.Quoted (codes "a"))))))) g.none))))))) ∷ [])) ∷ []) ≡ ((q 0 56 71 61 (codes "bad declaration")) ∷ [])
unfolding base_names standard_libraries prelude encode_utf8
include-dotted = refl

pub include-in-begin : diagnostic_rows (((s 0 1) ∷ (s 1 15) ∷ (s 16 17) ∷ (s 17 18) ∷ (s 18 19) ∷ (s 20 21) ∷ (s 21 27) ∷ (s 28 31) ∷ (s 31 32) ∷ (s 33 34) ∷ (s 34 40) ∷ (s 41 42) ∷ (s 42 48) ∷ (s 49 53) ∷ (s 53 54) ∷ (s 54 55) ∷ (s 56 57) ∷ (s 57 62) ∷ (s 63 64) ∷ (s 64 70) ∷ (s 71 74) ∷ (s 75 76) ∷ (s 76 77) ∷ (s 78 79) ∷ (s 79 86) ∷ (s 87 90) ∷ (s 90 91) ∷ (s 91 92) ∷ (s 92 93) ∷ []) ∷ []) ((Some (((g.list (p 0 28 0 93) (g.part (g.atom (p 1 1 1 15) (g.spelled (k.Name (codes "define-library") false))) (g.part (g.list (p 2 4 16 19) (g.part (g.atom (p 3 3 17 18) (g.spelled (k.Name (codes "l") false))) g.none)) (g.part (g.list (p 5 8 20 32) (g.part (g.atom (p 6 6 21 27) (g.spelled (k.Name (codes "export") false))) (g.part (g.atom (p 7 7 28 31) (g.spelled (k.Name (codes "fun") false))) g.none))) (g.part (g.list (p 9 15 33 55) (g.part (g.atom (p 10 10 34 40) (g.spelled (k.Name (codes "import") false))) (g.part (g.list (p 11 14 41 54) (g.part (g.atom (p 12 12 42 48) (g.spelled (k.Name (codes "scheme") false))) (g.part (g.atom (p 13 13 49 53) (g.spelled (k.Name (codes "base") false))) g.none))) g.none))) (g.part (g.list (p 16 27 56 92) (g.part (g.atom (p 17 17 57 62) (g.spelled (k.Name (codes "begin") false))) (g.part (g.list (p 18 22 63 77) (g.part (g.atom (p 19 19 64 70) (g.spelled (k.Name (codes "define") false))) (g.part (g.atom (p 20 20 71 74) (g.spelled (k.Name (codes "fun") false))) (g.part (g.atom (p 21 21 75 76) (g.spelled (k.Numeral (codes "1")))) g.none)))) (g.part (g.list (p 23 26 78 91) (g.part (g.atom (p 24 24 79 86) (g.spelled (k.Name (codes "include") false))) (g.part (g.atom (p 25 25 87 90) (g.spelled (k.Quoted (codes "x")))) g.none))) g.none)))) g.none))))))) ∷ [])) ∷ []) ≡ ((q 0 87 90 105 (codes "included text not usable x")) ∷ [])
unfolding base_names standard_libraries prelude encode_utf8
include-in-begin = refl

pub include-in-begin-unbound : diagnostic_rows (((s 0 1) ∷ (s 1 15) ∷ (s 16 17) ∷ (s 17 18) ∷ (s 18 19) ∷ (s 20 21) ∷ (s 21 27) ∷ (s 28 29) ∷ (s 29 33) ∷ (s 34 35) ∷ (s 35 41) ∷ (s 42 46) ∷ (s 46 47) ∷ (s 48 54) ∷ (s 54 55) ∷ (s 55 56) ∷ (s 57 58) ∷ (s 58 63) ∷ (s 64 65) ∷ (s 65 71) ∷ (s 72 75) ∷ (s 76 77) ∷ (s 77 78) ∷ (s 79 80) ∷ (s 80 87) ∷ (s 88 91) ∷ (s 91 92) ∷ (s 92 93) ∷ (s 93 94) ∷ []) ∷ []) ((Some (((g.list (p 0 28 0 94) (g.part (g.atom (p 1 1 1 15) (g.spelled (k.Name (codes "define-library") false))) (g.part (g.list (p 2 4 16 19) (g.part (g.atom (p 3 3 17 18) (g.spelled (k.Name (codes "l") false))) g.none)) (g.part (g.list (p 5 15 20 56) (g.part (g.atom (p 6 6 21 27) (g.spelled (k.Name (codes "import") false))) (g.part (g.list (p 7 14 28 55) (g.part (g.atom (p 8 8 29 33) (g.spelled (k.Name (codes "only") false))) (g.part (g.list (p 9 12 34 47) (g.part (g.atom (p 10 10 35 41) (g.spelled (k.Name (codes "scheme") false))) (g.part (g.atom (p 11 11 42 46) (g.spelled (k.Name (codes "base") false))) g.none))) (g.part (g.atom (p 13 13 48 54) (g.spelled (k.Name (codes "define") false))) g.none)))) g.none))) (g.part (g.list (p 16 27 57 93) (g.part (g.atom (p 17 17 58 63) (g.spelled (k.Name (codes "begin") false))) (g.part (g.list (p 18 22 64 78) (g.part (g.atom (p 19 19 65 71) (g.spelled (k.Name (codes "define") false))) (g.part (g.atom (p 20 20 72 75) (g.spelled (k.Name (codes "fun") false))) (g.part (g.atom (p 21 21 76 77) (g.spelled (k.Numeral (codes "1")))) g.none)))) (g.part (g.list (p 23 26 79 92) (g.part (g.atom (p 24 24 80 87) (g.spelled (k.Name (codes "include") false))) (g.part (g.atom (p 25 25 88 91) (g.spelled (k.Quoted (codes "x")))) g.none))) g.none)))) g.none)))))) ∷ [])) ∷ []) ≡ ((q 0 88 91 105 (codes "included text not usable x")) ∷ [])
unfolding base_names standard_libraries prelude encode_utf8
include-in-begin-unbound = refl

pub include-declared-without-imports : diagnostic_rows (((s 0 1) ∷ (s 1 15) ∷ (s 16 17) ∷ (s 17 18) ∷ (s 18 19) ∷ (s 20 21) ∷ (s 21 28) ∷ (s 29 32) ∷ (s 32 33) ∷ (s 33 34) ∷ []) ∷ []) ((Some (((g.list (p 0 9 0 34) (g.part (g.atom (p 1 1 1 15) (g.spelled (k.Name (codes "define-library") false))) (g.part (g.list (p 2 4 16 19) (g.part (g.atom (p 3 3 17 18) (g.spelled (k.Name (codes "l") false))) g.none)) (g.part (g.list (p 5 8 20 33) (g.part (g.atom (p 6 6 21 28) (g.spelled (k.Name (codes "include") false))) (g.part (g.atom (p 7 7 29 32) (g.spelled (k.Quoted (codes "x")))) g.none))) g.none))))) ∷ [])) ∷ []) ≡ ((q 0 29 32 105 (codes "included text not usable x")) ∷ [])
unfolding base_names standard_libraries prelude encode_utf8
include-declared-without-imports = refl

pub include-in-a-program : diagnostic_rows (((s 0 1) ∷ (s 1 7) ∷ (s 8 9) ∷ (s 9 15) ∷ (s 16 20) ∷ (s 20 21) ∷ (s 21 22) ∷ (s 23 24) ∷ (s 24 31) ∷ (s 32 35) ∷ (s 35 36) ∷ []) ∷ []) ((Some (((g.list (p 0 6 0 22) (g.part (g.atom (p 1 1 1 7) (g.spelled (k.Name (codes "import") false))) (g.part (g.list (p 2 5 8 21) (g.part (g.atom (p 3 3 9 15) (g.spelled (k.Name (codes "scheme") false))) (g.part (g.atom (p 4 4 16 20) (g.spelled (k.Name (codes "base") false))) g.none))) g.none)))) ∷ ((g.list (p 7 10 23 36) (g.part (g.atom (p 8 8 24 31) (g.spelled (k.Name (codes "include") false))) (g.part (g.atom (p 9 9 32 35) (g.spelled (k.Quoted (codes "x")))) g.none)))) ∷ [])) ∷ []) ≡ ((q 0 32 35 105 (codes "included text not usable x")) ∷ [])
unfolding base_names standard_libraries prelude encode_utf8
include-in-a-program = refl

pub include-beside-definitions : diagnostic_rows (((s 0 1) ∷ (s 1 15) ∷ (s 16 17) ∷ (s 17 18) ∷ (s 18 19) ∷ (s 20 21) ∷ (s 21 27) ∷ (s 28 31) ∷ (s 31 32) ∷ (s 33 34) ∷ (s 34 40) ∷ (s 41 42) ∷ (s 42 48) ∷ (s 49 53) ∷ (s 53 54) ∷ (s 54 55) ∷ (s 56 57) ∷ (s 57 64) ∷ (s 65 72) ∷ (s 72 73) ∷ (s 74 75) ∷ (s 75 80) ∷ (s 81 82) ∷ (s 82 88) ∷ (s 89 92) ∷ (s 93 94) ∷ (s 94 95) ∷ (s 95 96) ∷ (s 96 97) ∷ []) ∷ ((s 0 1) ∷ (s 1 7) ∷ (s 8 9) ∷ (s 9 15) ∷ (s 16 20) ∷ (s 20 21) ∷ (s 22 23) ∷ (s 23 24) ∷ (s 24 25) ∷ (s 25 26) ∷ (s 27 28) ∷ (s 28 32) ∷ (s 33 36) ∷ (s 36 37) ∷ []) ∷ []) ((Some (((g.list (p 0 28 0 97) (g.part (g.atom (p 1 1 1 15) (g.spelled (k.Name (codes "define-library") false))) (g.part (g.list (p 2 4 16 19) (g.part (g.atom (p 3 3 17 18) (g.spelled (k.Name (codes "l") false))) g.none)) (g.part (g.list (p 5 8 20 32) (g.part (g.atom (p 6 6 21 27) (g.spelled (k.Name (codes "export") false))) (g.part (g.atom (p 7 7 28 31) (g.spelled (k.Name (codes "fun") false))) g.none))) (g.part (g.list (p 9 15 33 55) (g.part (g.atom (p 10 10 34 40) (g.spelled (k.Name (codes "import") false))) (g.part (g.list (p 11 14 41 54) (g.part (g.atom (p 12 12 42 48) (g.spelled (k.Name (codes "scheme") false))) (g.part (g.atom (p 13 13 49 53) (g.spelled (k.Name (codes "base") false))) g.none))) g.none))) (g.part (g.list (p 16 19 56 73) (g.part (g.atom (p 17 17 57 64) (g.spelled (k.Name (codes "include") false))) (g.part (g.atom (p 18 18 65 72) (g.spelled (k.Quoted (codes "a.scm")))) g.none))) (g.part (g.list (p 20 27 74 96) (g.part (g.atom (p 21 21 75 80) (g.spelled (k.Name (codes "begin") false))) (g.part (g.list (p 22 26 81 95) (g.part (g.atom (p 23 23 82 88) (g.spelled (k.Name (codes "define") false))) (g.part (g.atom (p 24 24 89 92) (g.spelled (k.Name (codes "fun") false))) (g.part (g.atom (p 25 25 93 94) (g.spelled (k.Numeral (codes "1")))) g.none)))) g.none))) g.none)))))))) ∷ [])) ∷ (Some (((g.list (p 0 9 0 26) (g.part (g.atom (p 1 1 1 7) (g.spelled (k.Name (codes "import") false))) (g.part (g.list (p 2 5 8 21) (g.part (g.atom (p 3 3 9 15) (g.spelled (k.Name (codes "scheme") false))) (g.part (g.atom (p 4 4 16 20) (g.spelled (k.Name (codes "base") false))) g.none))) (g.part (g.list (p 6 8 22 25) (g.part (g.atom (p 7 7 23 24) (g.spelled (k.Name (codes "l") false))) g.none)) g.none))))) ∷ ((g.list (p 10 13 27 37) (g.part (g.atom (p 11 11 28 32) (g.spelled (k.Name (codes "list") false))) (g.part (g.atom (p 12 12 33 36) (g.spelled (k.Name (codes "fun") false))) g.none)))) ∷ [])) ∷ []) ≡ ((q 0 65 72 105 (codes "included text not usable a.scm")) ∷ [])
unfolding base_names standard_libraries prelude encode_utf8
include-beside-definitions = refl

pub include-is-a-form : diagnostic_rows (((s 0 1) ∷ (s 1 15) ∷ (s 16 17) ∷ (s 17 18) ∷ (s 18 19) ∷ (s 20 21) ∷ (s 21 31) ∷ (s 32 35) ∷ (s 35 36) ∷ (s 37 38) ∷ (s 38 44) ∷ (s 45 46) ∷ (s 46 52) ∷ (s 53 57) ∷ (s 57 58) ∷ (s 58 59) ∷ (s 60 61) ∷ (s 61 66) ∷ (s 67 68) ∷ (s 68 69) ∷ (s 69 70) ∷ []) ∷ []) ((Some (((g.list (p 0 20 0 70) (g.part (g.atom (p 1 1 1 15) (g.spelled (k.Name (codes "define-library") false))) (g.part (g.list (p 2 4 16 19) (g.part (g.atom (p 3 3 17 18) (g.spelled (k.Name (codes "l") false))) g.none)) (g.part (g.list (p 5 8 20 36) (g.part (g.atom (p 6 6 21 31) (g.spelled (k.Name (codes "include-ci") false))) (g.part (g.atom (p 7 7 32 35) (g.spelled (k.Quoted (codes "a")))) g.none))) (g.part (g.list (p 9 15 37 59) (g.part (g.atom (p 10 10 38 44) (g.spelled (k.Name (codes "import") false))) (g.part (g.list (p 11 14 45 58) (g.part (g.atom (p 12 12 46 52) (g.spelled (k.Name (codes "scheme") false))) (g.part (g.atom (p 13 13 53 57) (g.spelled (k.Name (codes "base") false))) g.none))) g.none))) (g.part (g.list (p 16 19 60 69) (g.part (g.atom (p 17 17 61 66) (g.spelled (k.Name (codes "begin") false))) (g.part (g.atom (p 18 18 67 68) (g.spelled (k.Numeral (codes "1")))) g.none))) g.none))))))) ∷ [])) ∷ []) ≡ ((q 0 20 21 48 (codes "include is refused")) ∷ [])
unfolding base_names standard_libraries prelude encode_utf8
include-is-a-form = refl

pub standard-name-in-a-circle : diagnostic_rows (((s 0 1) ∷ (s 1 15) ∷ (s 16 17) ∷ (s 17 23) ∷ (s 24 28) ∷ (s 28 29) ∷ (s 30 31) ∷ (s 31 37) ∷ (s 38 39) ∷ (s 39 43) ∷ (s 43 44) ∷ (s 44 45) ∷ (s 45 46) ∷ []) ∷ ((s 0 1) ∷ (s 1 15) ∷ (s 16 17) ∷ (s 17 21) ∷ (s 21 22) ∷ (s 23 24) ∷ (s 24 30) ∷ (s 31 34) ∷ (s 34 35) ∷ (s 36 37) ∷ (s 37 43) ∷ (s 44 45) ∷ (s 45 51) ∷ (s 52 56) ∷ (s 56 57) ∷ (s 57 58) ∷ (s 59 60) ∷ (s 60 65) ∷ (s 66 67) ∷ (s 67 73) ∷ (s 74 75) ∷ (s 75 78) ∷ (s 78 79) ∷ (s 80 81) ∷ (s 81 84) ∷ (s 85 86) ∷ (s 86 87) ∷ (s 87 88) ∷ (s 88 89) ∷ (s 89 90) ∷ []) ∷ []) ((Some (((g.list (p 0 12 0 46) (g.part (g.atom (p 1 1 1 15) (g.spelled (k.Name (codes "define-library") false))) (g.part (g.list (p 2 5 16 29) (g.part (g.atom (p 3 3 17 23) (g.spelled (k.Name (codes "scheme") false))) (g.part (g.atom (p 4 4 24 28) (g.spelled (k.Name (codes "base") false))) g.none))) (g.part (g.list (p 6 11 30 45) (g.part (g.atom (p 7 7 31 37) (g.spelled (k.Name (codes "import") false))) (g.part (g.list (p 8 10 38 44) (g.part (g.atom (p 9 9 39 43) (g.spelled (k.Name (codes "impl") false))) g.none)) g.none))) g.none))))) ∷ [])) ∷ (Some (((g.list (p 0 29 0 90) (g.part (g.atom (p 1 1 1 15) (g.spelled (k.Name (codes "define-library") false))) (g.part (g.list (p 2 4 16 22) (g.part (g.atom (p 3 3 17 21) (g.spelled (k.Name (codes "impl") false))) g.none)) (g.part (g.list (p 5 8 23 35) (g.part (g.atom (p 6 6 24 30) (g.spelled (k.Name (codes "export") false))) (g.part (g.atom (p 7 7 31 34) (g.spelled (k.Name (codes "fun") false))) g.none))) (g.part (g.list (p 9 15 36 58) (g.part (g.atom (p 10 10 37 43) (g.spelled (k.Name (codes "import") false))) (g.part (g.list (p 11 14 44 57) (g.part (g.atom (p 12 12 45 51) (g.spelled (k.Name (codes "scheme") false))) (g.part (g.atom (p 13 13 52 56) (g.spelled (k.Name (codes "base") false))) g.none))) g.none))) (g.part (g.list (p 16 28 59 89) (g.part (g.atom (p 17 17 60 65) (g.spelled (k.Name (codes "begin") false))) (g.part (g.list (p 18 27 66 88) (g.part (g.atom (p 19 19 67 73) (g.spelled (k.Name (codes "define") false))) (g.part (g.list (p 20 22 74 79) (g.part (g.atom (p 21 21 75 78) (g.spelled (k.Name (codes "fun") false))) g.none)) (g.part (g.list (p 23 26 80 87) (g.part (g.atom (p 24 24 81 84) (g.spelled (k.Name (codes "car") false))) (g.part (g.atom (p 25 25 85 86) (g.spelled (k.Numeral (codes "1")))) g.none))) g.none)))) g.none))) g.none))))))) ∷ [])) ∷ []) ≡ ((q 0 0 1 63 (codes "library defined twice")) ∷ [])
unfolding base_names standard_libraries prelude encode_utf8
standard-name-in-a-circle = refl

pub standard-name-of-itself : diagnostic_rows (((s 0 1) ∷ (s 1 15) ∷ (s 16 17) ∷ (s 17 23) ∷ (s 24 29) ∷ (s 29 30) ∷ (s 31 32) ∷ (s 32 38) ∷ (s 39 40) ∷ (s 40 46) ∷ (s 47 52) ∷ (s 52 53) ∷ (s 53 54) ∷ (s 54 55) ∷ []) ∷ []) ((Some (((g.list (p 0 13 0 55) (g.part (g.atom (p 1 1 1 15) (g.spelled (k.Name (codes "define-library") false))) (g.part (g.list (p 2 5 16 30) (g.part (g.atom (p 3 3 17 23) (g.spelled (k.Name (codes "scheme") false))) (g.part (g.atom (p 4 4 24 29) (g.spelled (k.Name (codes "write") false))) g.none))) (g.part (g.list (p 6 12 31 54) (g.part (g.atom (p 7 7 32 38) (g.spelled (k.Name (codes "import") false))) (g.part (g.list (p 8 11 39 53) (g.part (g.atom (p 9 9 40 46) (g.spelled (k.Name (codes "scheme") false))) (g.part (g.atom (p 10 10 47 52) (g.spelled (k.Name (codes "write") false))) g.none))) g.none))) g.none))))) ∷ [])) ∷ []) ≡ ((q 0 0 1 63 (codes "library defined twice")) ∷ [])
unfolding base_names standard_libraries prelude encode_utf8
standard-name-of-itself = refl

pub standard-name-defined : diagnostic_rows (((s 0 1) ∷ (s 1 15) ∷ (s 16 17) ∷ (s 17 23) ∷ (s 24 28) ∷ (s 28 29) ∷ (s 30 31) ∷ (s 31 37) ∷ (s 38 41) ∷ (s 41 42) ∷ (s 43 44) ∷ (s 44 49) ∷ (s 50 51) ∷ (s 51 57) ∷ (s 58 61) ∷ (s 62 63) ∷ (s 63 64) ∷ (s 64 65) ∷ (s 65 66) ∷ []) ∷ ((s 0 1) ∷ (s 1 7) ∷ (s 8 9) ∷ (s 9 15) ∷ (s 16 20) ∷ (s 20 21) ∷ (s 21 22) ∷ (s 23 24) ∷ (s 24 27) ∷ (s 28 29) ∷ (s 29 30) ∷ []) ∷ []) ((Some (((g.list (p 0 18 0 66) (g.part (g.atom (p 1 1 1 15) (g.spelled (k.Name (codes "define-library") false))) (g.part (g.list (p 2 5 16 29) (g.part (g.atom (p 3 3 17 23) (g.spelled (k.Name (codes "scheme") false))) (g.part (g.atom (p 4 4 24 28) (g.spelled (k.Name (codes "base") false))) g.none))) (g.part (g.list (p 6 9 30 42) (g.part (g.atom (p 7 7 31 37) (g.spelled (k.Name (codes "export") false))) (g.part (g.atom (p 8 8 38 41) (g.spelled (k.Name (codes "car") false))) g.none))) (g.part (g.list (p 10 17 43 65) (g.part (g.atom (p 11 11 44 49) (g.spelled (k.Name (codes "begin") false))) (g.part (g.list (p 12 16 50 64) (g.part (g.atom (p 13 13 51 57) (g.spelled (k.Name (codes "define") false))) (g.part (g.atom (p 14 14 58 61) (g.spelled (k.Name (codes "car") false))) (g.part (g.atom (p 15 15 62 63) (g.spelled (k.Numeral (codes "1")))) g.none)))) g.none))) g.none)))))) ∷ [])) ∷ (Some (((g.list (p 0 6 0 22) (g.part (g.atom (p 1 1 1 7) (g.spelled (k.Name (codes "import") false))) (g.part (g.list (p 2 5 8 21) (g.part (g.atom (p 3 3 9 15) (g.spelled (k.Name (codes "scheme") false))) (g.part (g.atom (p 4 4 16 20) (g.spelled (k.Name (codes "base") false))) g.none))) g.none)))) ∷ ((g.list (p 7 10 23 30) (g.part (g.atom (p 8 8 24 27) (g.spelled (k.Name (codes "car") false))) (g.part (g.atom (p 9 9 28 29) (g.spelled (k.Numeral (codes "1")))) g.none)))) ∷ [])) ∷ []) ≡ ((q 0 0 1 63 (codes "library defined twice")) ∷ [])
unfolding base_names standard_libraries prelude encode_utf8
standard-name-defined = refl

pub standard-name-between : diagnostic_rows (((s 0 1) ∷ (s 1 15) ∷ (s 16 17) ∷ (s 17 18) ∷ (s 18 19) ∷ (s 20 21) ∷ (s 21 27) ∷ (s 27 28) ∷ (s 29 30) ∷ (s 30 36) ∷ (s 37 38) ∷ (s 38 44) ∷ (s 45 49) ∷ (s 49 50) ∷ (s 50 51) ∷ (s 51 52) ∷ []) ∷ ((s 0 1) ∷ (s 1 15) ∷ (s 16 17) ∷ (s 17 23) ∷ (s 24 28) ∷ (s 28 29) ∷ (s 30 31) ∷ (s 31 37) ∷ (s 38 39) ∷ (s 39 40) ∷ (s 40 41) ∷ (s 41 42) ∷ (s 42 43) ∷ []) ∷ ((s 0 1) ∷ (s 1 15) ∷ (s 16 17) ∷ (s 17 18) ∷ (s 18 19) ∷ (s 20 21) ∷ (s 21 27) ∷ (s 28 29) ∷ (s 29 30) ∷ (s 30 31) ∷ (s 31 32) ∷ (s 32 33) ∷ []) ∷ []) ((Some (((g.list (p 0 15 0 52) (g.part (g.atom (p 1 1 1 15) (g.spelled (k.Name (codes "define-library") false))) (g.part (g.list (p 2 4 16 19) (g.part (g.atom (p 3 3 17 18) (g.spelled (k.Name (codes "a") false))) g.none)) (g.part (g.list (p 5 7 20 28) (g.part (g.atom (p 6 6 21 27) (g.spelled (k.Name (codes "export") false))) g.none)) (g.part (g.list (p 8 14 29 51) (g.part (g.atom (p 9 9 30 36) (g.spelled (k.Name (codes "import") false))) (g.part (g.list (p 10 13 37 50) (g.part (g.atom (p 11 11 38 44) (g.spelled (k.Name (codes "scheme") false))) (g.part (g.atom (p 12 12 45 49) (g.spelled (k.Name (codes "base") false))) g.none))) g.none))) g.none)))))) ∷ [])) ∷ (Some (((g.list (p 0 12 0 43) (g.part (g.atom (p 1 1 1 15) (g.spelled (k.Name (codes "define-library") false))) (g.part (g.list (p 2 5 16 29) (g.part (g.atom (p 3 3 17 23) (g.spelled (k.Name (codes "scheme") false))) (g.part (g.atom (p 4 4 24 28) (g.spelled (k.Name (codes "base") false))) g.none))) (g.part (g.list (p 6 11 30 42) (g.part (g.atom (p 7 7 31 37) (g.spelled (k.Name (codes "import") false))) (g.part (g.list (p 8 10 38 41) (g.part (g.atom (p 9 9 39 40) (g.spelled (k.Name (codes "b") false))) g.none)) g.none))) g.none))))) ∷ [])) ∷ (Some (((g.list (p 0 11 0 33) (g.part (g.atom (p 1 1 1 15) (g.spelled (k.Name (codes "define-library") false))) (g.part (g.list (p 2 4 16 19) (g.part (g.atom (p 3 3 17 18) (g.spelled (k.Name (codes "b") false))) g.none)) (g.part (g.list (p 5 10 20 32) (g.part (g.atom (p 6 6 21 27) (g.spelled (k.Name (codes "import") false))) (g.part (g.list (p 7 9 28 31) (g.part (g.atom (p 8 8 29 30) (g.spelled (k.Name (codes "a") false))) g.none)) g.none))) g.none))))) ∷ [])) ∷ []) ≡ ((q 1 0 1 63 (codes "library defined twice")) ∷ [])
unfolding base_names standard_libraries prelude encode_utf8
standard-name-between = refl

pub standard-name-beside-a-circle : diagnostic_rows (((s 0 1) ∷ (s 1 15) ∷ (s 16 17) ∷ (s 17 18) ∷ (s 18 19) ∷ (s 20 21) ∷ (s 21 27) ∷ (s 28 29) ∷ (s 29 35) ∷ (s 36 40) ∷ (s 40 41) ∷ (s 42 43) ∷ (s 43 44) ∷ (s 44 45) ∷ (s 45 46) ∷ (s 46 47) ∷ []) ∷ ((s 0 1) ∷ (s 1 15) ∷ (s 16 17) ∷ (s 17 23) ∷ (s 24 28) ∷ (s 28 29) ∷ (s 30 31) ∷ (s 31 37) ∷ (s 38 39) ∷ (s 39 40) ∷ (s 40 41) ∷ (s 41 42) ∷ (s 42 43) ∷ []) ∷ ((s 0 1) ∷ (s 1 15) ∷ (s 16 17) ∷ (s 17 18) ∷ (s 18 19) ∷ (s 20 21) ∷ (s 21 27) ∷ (s 28 29) ∷ (s 29 30) ∷ (s 30 31) ∷ (s 31 32) ∷ (s 32 33) ∷ []) ∷ []) ((Some (((g.list (p 0 15 0 47) (g.part (g.atom (p 1 1 1 15) (g.spelled (k.Name (codes "define-library") false))) (g.part (g.list (p 2 4 16 19) (g.part (g.atom (p 3 3 17 18) (g.spelled (k.Name (codes "a") false))) g.none)) (g.part (g.list (p 5 14 20 46) (g.part (g.atom (p 6 6 21 27) (g.spelled (k.Name (codes "import") false))) (g.part (g.list (p 7 10 28 41) (g.part (g.atom (p 8 8 29 35) (g.spelled (k.Name (codes "scheme") false))) (g.part (g.atom (p 9 9 36 40) (g.spelled (k.Name (codes "base") false))) g.none))) (g.part (g.list (p 11 13 42 45) (g.part (g.atom (p 12 12 43 44) (g.spelled (k.Name (codes "b") false))) g.none)) g.none)))) g.none))))) ∷ [])) ∷ (Some (((g.list (p 0 12 0 43) (g.part (g.atom (p 1 1 1 15) (g.spelled (k.Name (codes "define-library") false))) (g.part (g.list (p 2 5 16 29) (g.part (g.atom (p 3 3 17 23) (g.spelled (k.Name (codes "scheme") false))) (g.part (g.atom (p 4 4 24 28) (g.spelled (k.Name (codes "base") false))) g.none))) (g.part (g.list (p 6 11 30 42) (g.part (g.atom (p 7 7 31 37) (g.spelled (k.Name (codes "import") false))) (g.part (g.list (p 8 10 38 41) (g.part (g.atom (p 9 9 39 40) (g.spelled (k.Name (codes "b") false))) g.none)) g.none))) g.none))))) ∷ [])) ∷ (Some (((g.list (p 0 11 0 33) (g.part (g.atom (p 1 1 1 15) (g.spelled (k.Name (codes "define-library") false))) (g.part (g.list (p 2 4 16 19) (g.part (g.atom (p 3 3 17 18) (g.spelled (k.Name (codes "b") false))) g.none)) (g.part (g.list (p 5 10 20 32) (g.part (g.atom (p 6 6 21 27) (g.spelled (k.Name (codes "import") false))) (g.part (g.list (p 7 9 28 31) (g.part (g.atom (p 8 8 29 30) (g.spelled (k.Name (codes "a") false))) g.none)) g.none))) g.none))))) ∷ [])) ∷ []) ≡ ((q 0 0 1 62 (codes "import cycle")) ∷ (q 1 0 1 63 (codes "library defined twice")) ∷ (q 2 0 1 62 (codes "import cycle")) ∷ [])
unfolding base_names standard_libraries prelude encode_utf8
standard-name-beside-a-circle = refl

pub imports-itself : diagnostic_rows (((s 0 1) ∷ (s 1 15) ∷ (s 16 17) ∷ (s 17 18) ∷ (s 18 19) ∷ (s 20 21) ∷ (s 21 27) ∷ (s 28 29) ∷ (s 29 30) ∷ (s 30 31) ∷ (s 31 32) ∷ (s 32 33) ∷ []) ∷ []) ((Some (((g.list (p 0 11 0 33) (g.part (g.atom (p 1 1 1 15) (g.spelled (k.Name (codes "define-library") false))) (g.part (g.list (p 2 4 16 19) (g.part (g.atom (p 3 3 17 18) (g.spelled (k.Name (codes "a") false))) g.none)) (g.part (g.list (p 5 10 20 32) (g.part (g.atom (p 6 6 21 27) (g.spelled (k.Name (codes "import") false))) (g.part (g.list (p 7 9 28 31) (g.part (g.atom (p 8 8 29 30) (g.spelled (k.Name (codes "a") false))) g.none)) g.none))) g.none))))) ∷ [])) ∷ []) ≡ ((q 0 0 1 62 (codes "import cycle")) ∷ [])
unfolding base_names standard_libraries prelude encode_utf8
imports-itself = refl

pub imports-nothing : diagnostic_rows (((s 0 1) ∷ (s 1 7) ∷ (s 7 8) ∷ []) ∷ []) ((Some (((g.list (p 0 2 0 8) (g.part (g.atom (p 1 1 1 7) (g.spelled (k.Name (codes "import") false))) g.none))) ∷ [])) ∷ []) ≡ ([])
unfolding base_names standard_libraries prelude encode_utf8
imports-nothing = refl

pub imports-nothing-uses : diagnostic_rows (((s 0 1) ∷ (s 1 7) ∷ (s 7 8) ∷ (s 9 10) ∷ (s 10 13) ∷ (s 14 15) ∷ (s 15 16) ∷ []) ∷ []) ((Some (((g.list (p 0 2 0 8) (g.part (g.atom (p 1 1 1 7) (g.spelled (k.Name (codes "import") false))) g.none))) ∷ ((g.list (p 3 6 9 16) (g.part (g.atom (p 4 4 10 13) (g.spelled (k.Name (codes "car") false))) (g.part (g.atom (p 5 5 14 15) (g.spelled (k.Numeral (codes "1")))) g.none)))) ∷ [])) ∷ []) ≡ ((q 0 10 13 103 (codes "unbound car")) ∷ [])
unfolding base_names standard_libraries prelude encode_utf8
imports-nothing-uses = refl

pub has-no-import : diagnostic_rows (((s 0 1) ∷ (s 1 4) ∷ (s 5 6) ∷ (s 6 7) ∷ []) ∷ []) ((Some (((g.list (p 0 3 0 7) (g.part (g.atom (p 1 1 1 4) (g.spelled (k.Name (codes "car") false))) (g.part (g.atom (p 2 2 5 6) (g.spelled (k.Numeral (codes "1")))) g.none)))) ∷ [])) ∷ []) ≡ ((q 0 0 1 104 (codes "no import, (scheme base) is used")) ∷ [])
unfolding base_names standard_libraries prelude encode_utf8
has-no-import = refl

pub import-dotted : diagnostic_rows (((s 0 1) ∷ (s 1 7) ∷ (s 8 9) ∷ (s 10 11) ∷ (s 11 12) ∷ []) ∷ []) ((Some (((g.list (p 0 4 0 12) (g.part (g.atom (p 1 1 1 7) (g.spelled (k.Name (codes "import") false))) (g.tail (g.atom (p 3 3 10 11) (g.spelled (k.Name (codes "x") false))))))) ∷ [])) ∷ []) ≡ ((q 0 0 1 31 (codes "bad form")) ∷ (q 0 0 1 104 (codes "no import, (scheme base) is used")) ∷ [])
unfolding base_names standard_libraries prelude encode_utf8
import-dotted = refl

pub imports-nothing-and-base : diagnostic_rows (((s 0 1) ∷ (s 1 7) ∷ (s 7 8) ∷ (s 9 10) ∷ (s 10 16) ∷ (s 17 18) ∷ (s 18 24) ∷ (s 25 29) ∷ (s 29 30) ∷ (s 30 31) ∷ (s 32 33) ∷ (s 33 36) ∷ (s 37 38) ∷ (s 38 39) ∷ []) ∷ []) ((Some (((g.list (p 0 2 0 8) (g.part (g.atom (p 1 1 1 7) (g.spelled (k.Name (codes "import") false))) g.none))) ∷ ((g.list (p 3 9 9 31) (g.part (g.atom (p 4 4 10 16) (g.spelled (k.Name (codes "import") false))) (g.part (g.list (p 5 8 17 30) (g.part (g.atom (p 6 6 18 24) (g.spelled (k.Name (codes "scheme") false))) (g.part (g.atom (p 7 7 25 29) (g.spelled (k.Name (codes "base") false))) g.none))) g.none)))) ∷ ((g.list (p 10 13 32 39) (g.part (g.atom (p 11 11 33 36) (g.spelled (k.Name (codes "car") false))) (g.part (g.atom (p 12 12 37 38) (g.spelled (k.Numeral (codes "1")))) g.none)))) ∷ [])) ∷ []) ≡ ([])
unfolding base_names standard_libraries prelude encode_utf8
imports-nothing-and-base = refl

pub library-imports-nothing : diagnostic_rows (((s 0 1) ∷ (s 1 15) ∷ (s 16 17) ∷ (s 17 18) ∷ (s 18 19) ∷ (s 20 21) ∷ (s 21 27) ∷ (s 27 28) ∷ (s 29 30) ∷ (s 30 35) ∷ (s 36 37) ∷ (s 37 40) ∷ (s 41 42) ∷ (s 42 43) ∷ (s 43 44) ∷ (s 44 45) ∷ []) ∷ []) ((Some (((g.list (p 0 15 0 45) (g.part (g.atom (p 1 1 1 15) (g.spelled (k.Name (codes "define-library") false))) (g.part (g.list (p 2 4 16 19) (g.part (g.atom (p 3 3 17 18) (g.spelled (k.Name (codes "l") false))) g.none)) (g.part (g.list (p 5 7 20 28) (g.part (g.atom (p 6 6 21 27) (g.spelled (k.Name (codes "import") false))) g.none)) (g.part (g.list (p 8 14 29 44) (g.part (g.atom (p 9 9 30 35) (g.spelled (k.Name (codes "begin") false))) (g.part (g.list (p 10 13 36 43) (g.part (g.atom (p 11 11 37 40) (g.spelled (k.Name (codes "car") false))) (g.part (g.atom (p 12 12 41 42) (g.spelled (k.Numeral (codes "1")))) g.none))) g.none))) g.none)))))) ∷ [])) ∷ []) ≡ ((q 0 37 40 103 (codes "unbound car")) ∷ [])
unfolding base_names standard_libraries prelude encode_utf8
library-imports-nothing = refl

pub library-has-no-import : diagnostic_rows (((s 0 1) ∷ (s 1 15) ∷ (s 16 17) ∷ (s 17 18) ∷ (s 18 19) ∷ (s 20 21) ∷ (s 21 26) ∷ (s 27 28) ∷ (s 28 31) ∷ (s 32 33) ∷ (s 33 34) ∷ (s 34 35) ∷ (s 35 36) ∷ []) ∷ []) ((Some (((g.list (p 0 12 0 36) (g.part (g.atom (p 1 1 1 15) (g.spelled (k.Name (codes "define-library") false))) (g.part (g.list (p 2 4 16 19) (g.part (g.atom (p 3 3 17 18) (g.spelled (k.Name (codes "l") false))) g.none)) (g.part (g.list (p 5 11 20 35) (g.part (g.atom (p 6 6 21 26) (g.spelled (k.Name (codes "begin") false))) (g.part (g.list (p 7 10 27 34) (g.part (g.atom (p 8 8 28 31) (g.spelled (k.Name (codes "car") false))) (g.part (g.atom (p 9 9 32 33) (g.spelled (k.Numeral (codes "1")))) g.none))) g.none))) g.none))))) ∷ [])) ∷ []) ≡ ((q 0 28 31 103 (codes "unbound car")) ∷ [])
unfolding base_names standard_libraries prelude encode_utf8
library-has-no-import = refl

pub import-not-in-front : diagnostic_rows (((s 0 1) ∷ (s 1 4) ∷ (s 5 6) ∷ (s 6 7) ∷ (s 8 9) ∷ (s 9 15) ∷ (s 15 16) ∷ []) ∷ []) ((Some (((g.list (p 0 3 0 7) (g.part (g.atom (p 1 1 1 4) (g.spelled (k.Name (codes "car") false))) (g.part (g.atom (p 2 2 5 6) (g.spelled (k.Numeral (codes "1")))) g.none)))) ∷ ((g.list (p 4 6 8 16) (g.part (g.atom (p 5 5 9 15) (g.spelled (k.Name (codes "import") false))) g.none))) ∷ [])) ∷ []) ≡ ((q 0 0 1 104 (codes "no import, (scheme base) is used")) ∷ (q 0 9 15 103 (codes "unbound import")) ∷ [])
unfolding base_names standard_libraries prelude encode_utf8
import-not-in-front = refl

pub rename-unknown : diagnostic_rows (((s 0 1) ∷ (s 1 7) ∷ (s 8 9) ∷ (s 9 15) ∷ (s 16 17) ∷ (s 17 20) ∷ (s 20 21) ∷ (s 22 23) ∷ (s 23 27) ∷ (s 28 31) ∷ (s 31 32) ∷ (s 32 33) ∷ (s 33 34) ∷ []) ∷ []) ((Some (((g.list (p 0 12 0 34) (g.part (g.atom (p 1 1 1 7) (g.spelled (k.Name (codes "import") false))) (g.part (g.list (p 2 11 8 33) (g.part (g.atom (p 3 3 9 15) (g.spelled (k.Name (codes "rename") false))) (g.part (g.list (p 4 6 16 21) (g.part (g.atom (p 5 5 17 20) (g.spelled (k.Name (codes "unk") false))) g.none)) (g.part (g.list (p 7 10 22 32) (g.part (g.atom (p 8 8 23 27) (g.spelled (k.Name (codes "nope") false))) (g.part (g.atom (p 9 9 28 31) (g.spelled (k.Name (codes "add") false))) g.none))) g.none)))) g.none)))) ∷ [])) ∷ []) ≡ ((q 0 16 21 102 (codes "library not known")) ∷ [])
unfolding base_names standard_libraries prelude encode_utf8
rename-unknown = refl

pub rename-lacking : diagnostic_rows (((s 0 1) ∷ (s 1 7) ∷ (s 8 9) ∷ (s 9 15) ∷ (s 16 17) ∷ (s 17 23) ∷ (s 24 29) ∷ (s 29 30) ∷ (s 31 32) ∷ (s 32 36) ∷ (s 37 41) ∷ (s 41 42) ∷ (s 42 43) ∷ (s 43 44) ∷ []) ∷ []) ((Some (((g.list (p 0 13 0 44) (g.part (g.atom (p 1 1 1 7) (g.spelled (k.Name (codes "import") false))) (g.part (g.list (p 2 12 8 43) (g.part (g.atom (p 3 3 9 15) (g.spelled (k.Name (codes "rename") false))) (g.part (g.list (p 4 7 16 30) (g.part (g.atom (p 5 5 17 23) (g.spelled (k.Name (codes "scheme") false))) (g.part (g.atom (p 6 6 24 29) (g.spelled (k.Name (codes "write") false))) g.none))) (g.part (g.list (p 8 11 31 42) (g.part (g.atom (p 9 9 32 36) (g.spelled (k.Name (codes "nope") false))) (g.part (g.atom (p 10 10 37 41) (g.spelled (k.Name (codes "show") false))) g.none))) g.none)))) g.none)))) ∷ [])) ∷ []) ≡ ((q 0 32 36 51 (codes "not exported nope")) ∷ [])
unfolding base_names standard_libraries prelude encode_utf8
rename-lacking = refl

pub rename-given : diagnostic_rows (((s 0 1) ∷ (s 1 7) ∷ (s 8 9) ∷ (s 9 15) ∷ (s 16 17) ∷ (s 17 23) ∷ (s 24 29) ∷ (s 29 30) ∷ (s 31 32) ∷ (s 32 39) ∷ (s 40 44) ∷ (s 44 45) ∷ (s 45 46) ∷ (s 46 47) ∷ (s 48 49) ∷ (s 49 53) ∷ (s 54 55) ∷ (s 55 56) ∷ []) ∷ []) ((Some (((g.list (p 0 13 0 47) (g.part (g.atom (p 1 1 1 7) (g.spelled (k.Name (codes "import") false))) (g.part (g.list (p 2 12 8 46) (g.part (g.atom (p 3 3 9 15) (g.spelled (k.Name (codes "rename") false))) (g.part (g.list (p 4 7 16 30) (g.part (g.atom (p 5 5 17 23) (g.spelled (k.Name (codes "scheme") false))) (g.part (g.atom (p 6 6 24 29) (g.spelled (k.Name (codes "write") false))) g.none))) (g.part (g.list (p 8 11 31 45) (g.part (g.atom (p 9 9 32 39) (g.spelled (k.Name (codes "display") false))) (g.part (g.atom (p 10 10 40 44) (g.spelled (k.Name (codes "show") false))) g.none))) g.none)))) g.none)))) ∷ ((g.list (p 14 17 48 56) (g.part (g.atom (p 15 15 49 53) (g.spelled (k.Name (codes "show") false))) (g.part (g.atom (p 16 16 54 55) (g.spelled (k.Numeral (codes "1")))) g.none)))) ∷ [])) ∷ []) ≡ ([])
unfolding base_names standard_libraries prelude encode_utf8
rename-given = refl

pub rename-below-prefix : diagnostic_rows (((s 0 1) ∷ (s 1 7) ∷ (s 8 9) ∷ (s 9 15) ∷ (s 16 17) ∷ (s 17 23) ∷ (s 24 25) ∷ (s 25 28) ∷ (s 28 29) ∷ (s 30 31) ∷ (s 31 34) ∷ (s 35 38) ∷ (s 38 39) ∷ (s 39 40) ∷ (s 41 43) ∷ (s 43 44) ∷ (s 44 45) ∷ []) ∷ []) ((Some (((g.list (p 0 16 0 45) (g.part (g.atom (p 1 1 1 7) (g.spelled (k.Name (codes "import") false))) (g.part (g.list (p 2 15 8 44) (g.part (g.atom (p 3 3 9 15) (g.spelled (k.Name (codes "prefix") false))) (g.part (g.list (p 4 13 16 40) (g.part (g.atom (p 5 5 17 23) (g.spelled (k.Name (codes "rename") false))) (g.part (g.list (p 6 8 24 29) (g.part (g.atom (p 7 7 25 28) (g.spelled (k.Name (codes "unk") false))) g.none)) (g.part (g.list (p 9 12 30 39) (g.part (g.atom (p 10 10 31 34) (g.spelled (k.Name (codes "one") false))) (g.part (g.atom (p 11 11 35 38) (g.spelled (k.Name (codes "two") false))) g.none))) g.none)))) (g.part (g.atom (p 14 14 41 43) (g.spelled (k.Name (codes "p:") false))) g.none)))) g.none)))) ∷ [])) ∷ []) ≡ ((q 0 24 29 102 (codes "library not known")) ∷ [])
unfolding base_names standard_libraries prelude encode_utf8
rename-below-prefix = refl

pub rename-above-a-fault : diagnostic_rows (((s 0 1) ∷ (s 1 7) ∷ (s 8 9) ∷ (s 9 15) ∷ (s 16 17) ∷ (s 17 21) ∷ (s 22 23) ∷ (s 23 29) ∷ (s 30 35) ∷ (s 35 36) ∷ (s 37 41) ∷ (s 41 42) ∷ (s 43 44) ∷ (s 44 47) ∷ (s 48 51) ∷ (s 51 52) ∷ (s 52 53) ∷ (s 53 54) ∷ []) ∷ []) ((Some (((g.list (p 0 17 0 54) (g.part (g.atom (p 1 1 1 7) (g.spelled (k.Name (codes "import") false))) (g.part (g.list (p 2 16 8 53) (g.part (g.atom (p 3 3 9 15) (g.spelled (k.Name (codes "rename") false))) (g.part (g.list (p 4 11 16 42) (g.part (g.atom (p 5 5 17 21) (g.spelled (k.Name (codes "only") false))) (g.part (g.list (p 6 9 22 36) (g.part (g.atom (p 7 7 23 29) (g.spelled (k.Name (codes "scheme") false))) (g.part (g.atom (p 8 8 30 35) (g.spelled (k.Name (codes "write") false))) g.none))) (g.part (g.atom (p 10 10 37 41) (g.spelled (k.Name (codes "nope") false))) g.none)))) (g.part (g.list (p 12 15 43 52) (g.part (g.atom (p 13 13 44 47) (g.spelled (k.Name (codes "one") false))) (g.part (g.atom (p 14 14 48 51) (g.spelled (k.Name (codes "two") false))) g.none))) g.none)))) g.none)))) ∷ [])) ∷ []) ≡ ((q 0 37 41 51 (codes "not exported nope")) ∷ [])
unfolding base_names standard_libraries prelude encode_utf8
rename-above-a-fault = refl

pub rename-without-shape : diagnostic_rows (((s 0 1) ∷ (s 1 7) ∷ (s 8 9) ∷ (s 9 15) ∷ (s 16 17) ∷ (s 17 21) ∷ (s 22 23) ∷ (s 23 29) ∷ (s 30 35) ∷ (s 35 36) ∷ (s 37 38) ∷ (s 38 39) ∷ (s 40 41) ∷ (s 41 44) ∷ (s 45 48) ∷ (s 48 49) ∷ (s 49 50) ∷ (s 50 51) ∷ []) ∷ []) ((Some (((g.list (p 0 17 0 51) (g.part (g.atom (p 1 1 1 7) (g.spelled (k.Name (codes "import") false))) (g.part (g.list (p 2 16 8 50) (g.part (g.atom (p 3 3 9 15) (g.spelled (k.Name (codes "rename") false))) (g.part (g.list (p 4 11 16 39) (g.part (g.atom (p 5 5 17 21) (g.spelled (k.Name (codes "only") false))) (g.part (g.list (p 6 9 22 36) (g.part (g.atom (p 7 7 23 29) (g.spelled (k.Name (codes "scheme") false))) (g.part (g.atom (p 8 8 30 35) (g.spelled (k.Name (codes "write") false))) g.none))) (g.part (g.atom (p 10 10 37 38) (g.spelled (k.Numeral (codes "5")))) g.none)))) (g.part (g.list (p 12 15 40 49) (g.part (g.atom (p 13 13 41 44) (g.spelled (k.Name (codes "one") false))) (g.part (g.atom (p 14 14 45 48) (g.spelled (k.Name (codes "two") false))) g.none))) g.none)))) g.none)))) ∷ [])) ∷ []) ≡ ((q 0 8 50 53 (codes "bad import set")) ∷ [])
unfolding base_names standard_libraries prelude encode_utf8
rename-without-shape = refl

pub rename-twice : diagnostic_rows (((s 0 1) ∷ (s 1 7) ∷ (s 8 9) ∷ (s 9 15) ∷ (s 16 17) ∷ (s 17 20) ∷ (s 20 21) ∷ (s 22 23) ∷ (s 23 26) ∷ (s 27 30) ∷ (s 30 31) ∷ (s 32 33) ∷ (s 33 38) ∷ (s 39 42) ∷ (s 42 43) ∷ (s 43 44) ∷ (s 44 45) ∷ []) ∷ []) ((Some (((g.list (p 0 16 0 45) (g.part (g.atom (p 1 1 1 7) (g.spelled (k.Name (codes "import") false))) (g.part (g.list (p 2 15 8 44) (g.part (g.atom (p 3 3 9 15) (g.spelled (k.Name (codes "rename") false))) (g.part (g.list (p 4 6 16 21) (g.part (g.atom (p 5 5 17 20) (g.spelled (k.Name (codes "unk") false))) g.none)) (g.part (g.list (p 7 10 22 31) (g.part (g.atom (p 8 8 23 26) (g.spelled (k.Name (codes "one") false))) (g.part (g.atom (p 9 9 27 30) (g.spelled (k.Name (codes "two") false))) g.none))) (g.part (g.list (p 11 14 32 43) (g.part (g.atom (p 12 12 33 38) (g.spelled (k.Name (codes "three") false))) (g.part (g.atom (p 13 13 39 42) (g.spelled (k.Name (codes "two") false))) g.none))) g.none))))) g.none)))) ∷ [])) ∷ []) ≡ ((q 0 16 21 102 (codes "library not known")) ∷ [])
unfolding base_names standard_libraries prelude encode_utf8
rename-twice = refl

pub rename-exported : diagnostic_rows (((s 0 1) ∷ (s 1 15) ∷ (s 16 17) ∷ (s 17 18) ∷ (s 18 19) ∷ (s 20 21) ∷ (s 21 27) ∷ (s 28 31) ∷ (s 31 32) ∷ (s 33 34) ∷ (s 34 40) ∷ (s 41 42) ∷ (s 42 48) ∷ (s 49 50) ∷ (s 50 53) ∷ (s 53 54) ∷ (s 55 56) ∷ (s 56 60) ∷ (s 61 64) ∷ (s 64 65) ∷ (s 65 66) ∷ (s 66 67) ∷ (s 67 68) ∷ []) ∷ []) ((Some (((g.list (p 0 22 0 68) (g.part (g.atom (p 1 1 1 15) (g.spelled (k.Name (codes "define-library") false))) (g.part (g.list (p 2 4 16 19) (g.part (g.atom (p 3 3 17 18) (g.spelled (k.Name (codes "l") false))) g.none)) (g.part (g.list (p 5 8 20 32) (g.part (g.atom (p 6 6 21 27) (g.spelled (k.Name (codes "export") false))) (g.part (g.atom (p 7 7 28 31) (g.spelled (k.Name (codes "fun") false))) g.none))) (g.part (g.list (p 9 21 33 67) (g.part (g.atom (p 10 10 34 40) (g.spelled (k.Name (codes "import") false))) (g.part (g.list (p 11 20 41 66) (g.part (g.atom (p 12 12 42 48) (g.spelled (k.Name (codes "rename") false))) (g.part (g.list (p 13 15 49 54) (g.part (g.atom (p 14 14 50 53) (g.spelled (k.Name (codes "unk") false))) g.none)) (g.part (g.list (p 16 19 55 65) (g.part (g.atom (p 17 17 56 60) (g.spelled (k.Name (codes "nope") false))) (g.part (g.atom (p 18 18 61 64) (g.spelled (k.Name (codes "fun") false))) g.none))) g.none)))) g.none))) g.none)))))) ∷ [])) ∷ []) ≡ ((q 0 28 31 64 (codes "not defined fun")) ∷ (q 0 49 54 102 (codes "library not known")) ∷ [])
unfolding base_names standard_libraries prelude encode_utf8
rename-exported = refl

pub rename-in-a-library : diagnostic_rows (((s 0 1) ∷ (s 1 15) ∷ (s 16 17) ∷ (s 17 18) ∷ (s 18 19) ∷ (s 20 21) ∷ (s 21 27) ∷ (s 28 29) ∷ (s 29 35) ∷ (s 36 37) ∷ (s 37 43) ∷ (s 44 45) ∷ (s 45 48) ∷ (s 48 49) ∷ (s 50 51) ∷ (s 51 54) ∷ (s 55 58) ∷ (s 58 59) ∷ (s 59 60) ∷ (s 61 62) ∷ (s 62 67) ∷ (s 68 72) ∷ (s 72 73) ∷ (s 73 74) ∷ (s 74 75) ∷ (s 75 76) ∷ []) ∷ []) ((Some (((g.list (p 0 25 0 76) (g.part (g.atom (p 1 1 1 15) (g.spelled (k.Name (codes "define-library") false))) (g.part (g.list (p 2 4 16 19) (g.part (g.atom (p 3 3 17 18) (g.spelled (k.Name (codes "l") false))) g.none)) (g.part (g.list (p 5 24 20 75) (g.part (g.atom (p 6 6 21 27) (g.spelled (k.Name (codes "import") false))) (g.part (g.list (p 7 23 28 74) (g.part (g.atom (p 8 8 29 35) (g.spelled (k.Name (codes "rename") false))) (g.part (g.list (p 9 18 36 60) (g.part (g.atom (p 10 10 37 43) (g.spelled (k.Name (codes "rename") false))) (g.part (g.list (p 11 13 44 49) (g.part (g.atom (p 12 12 45 48) (g.spelled (k.Name (codes "unk") false))) g.none)) (g.part (g.list (p 14 17 50 59) (g.part (g.atom (p 15 15 51 54) (g.spelled (k.Name (codes "one") false))) (g.part (g.atom (p 16 16 55 58) (g.spelled (k.Name (codes "two") false))) g.none))) g.none)))) (g.part (g.list (p 19 22 61 73) (g.part (g.atom (p 20 20 62 67) (g.spelled (k.Name (codes "three") false))) (g.part (g.atom (p 21 21 68 72) (g.spelled (k.Name (codes "four") false))) g.none))) g.none)))) g.none))) g.none))))) ∷ [])) ∷ []) ≡ ((q 0 44 49 102 (codes "library not known")) ∷ [])
unfolding base_names standard_libraries prelude encode_utf8
rename-in-a-library = refl

pub implied-export : diagnostic_rows (((s 0 1) ∷ (s 1 15) ∷ (s 16 17) ∷ (s 17 18) ∷ (s 18 19) ∷ (s 20 21) ∷ (s 21 27) ∷ (s 28 29) ∷ (s 30 31) ∷ (s 31 34) ∷ (s 34 35) ∷ (s 36 37) ∷ (s 37 43) ∷ (s 44 45) ∷ (s 45 51) ∷ (s 52 56) ∷ (s 56 57) ∷ (s 57 58) ∷ (s 58 59) ∷ []) ∷ ((s 0 1) ∷ (s 1 7) ∷ (s 8 9) ∷ (s 9 10) ∷ (s 10 11) ∷ (s 11 12) ∷ (s 13 14) ∷ (s 14 17) ∷ (s 18 19) ∷ (s 19 20) ∷ (s 20 21) ∷ (s 21 22) ∷ []) ∷ []) ((Some (((g.list (p 0 18 0 59) (g.part (g.atom (p 1 1 1 15) (g.spelled (k.Name (codes "define-library") false))) (g.part (g.list (p 2 4 16 19) (g.part (g.atom (p 3 3 17 18) (g.spelled (k.Name (codes "l") false))) g.none)) (g.part (g.list (p 5 10 20 35) (g.part (g.atom (p 6 6 21 27) (g.spelled (k.Name (codes "export") false))) (g.part (g.atom (p 8 8 30 31) (g.implied k.Quote)) (g.part (g.atom (p 9 9 31 34) (g.spelled (k.Name (codes "car") false))) g.none)))) (g.part (g.list (p 11 17 36 58) (g.part (g.atom (p 12 12 37 43) (g.spelled (k.Name (codes "import") false))) (g.part (g.list (p 13 16 44 57) (g.part (g.atom (p 14 14 45 51) (g.spelled (k.Name (codes "scheme") false))) (g.part (g.atom (p 15 15 52 56) (g.spelled (k.Name (codes "base") false))) g.none))) g.none))) g.none)))))) ∷ [])) ∷ (Some (((g.list (p 0 5 0 12) (g.part (g.atom (p 1 1 1 7) (g.spelled (k.Name (codes "import") false))) (g.part (g.list (p 2 4 8 11) (g.part (g.atom (p 3 3 9 10) (g.spelled (k.Name (codes "l") false))) g.none)) g.none)))) ∷ ((g.list (p 6 11 13 22) (g.part (g.atom (p 7 7 14 17) (g.spelled (k.Name (codes "car") false))) (g.part (g.list (p 8 10 18 21) (g.part (g.atom (p 8 8 18 19) (g.implied k.Quote)) (g.part (g.list (p 9 10 19 21) g.none) g.none))) g.none)))) ∷ [])) ∷ []) ≡ ([])
unfolding base_names standard_libraries prelude encode_utf8
implied-export = refl

pub implied-export-not-defined : diagnostic_rows (((s 0 1) ∷ (s 1 15) ∷ (s 16 17) ∷ (s 17 18) ∷ (s 18 19) ∷ (s 20 21) ∷ (s 21 27) ∷ (s 28 29) ∷ (s 30 31) ∷ (s 31 34) ∷ (s 34 35) ∷ (s 35 36) ∷ []) ∷ []) ((Some (((g.list (p 0 11 0 36) (g.part (g.atom (p 1 1 1 15) (g.spelled (k.Name (codes "define-library") false))) (g.part (g.list (p 2 4 16 19) (g.part (g.atom (p 3 3 17 18) (g.spelled (k.Name (codes "l") false))) g.none)) (g.part (g.list (p 5 10 20 35) (g.part (g.atom (p 6 6 21 27) (g.spelled (k.Name (codes "export") false))) (g.part (g.atom (p 8 8 30 31) (g.implied k.Quote)) (g.part (g.atom (p 9 9 31 34) (g.spelled (k.Name (codes "car") false))) g.none)))) g.none))))) ∷ [])) ∷ []) ≡ ((q 0 20 21 64 (codes "not defined quote")) ∷ (q 0 31 34 64 (codes "not defined car")) ∷ [])
unfolding base_names standard_libraries prelude encode_utf8
implied-export-not-defined = refl

pub implied-export-behind : diagnostic_rows (((s 0 1) ∷ (s 1 15) ∷ (s 16 17) ∷ (s 17 18) ∷ (s 18 19) ∷ (s 20 21) ∷ (s 21 27) ∷ (s 28 31) ∷ (s 32 33) ∷ (s 34 35) ∷ (s 35 38) ∷ (s 38 39) ∷ (s 39 40) ∷ []) ∷ []) ((Some (((g.list (p 0 12 0 40) (g.part (g.atom (p 1 1 1 15) (g.spelled (k.Name (codes "define-library") false))) (g.part (g.list (p 2 4 16 19) (g.part (g.atom (p 3 3 17 18) (g.spelled (k.Name (codes "l") false))) g.none)) (g.part (g.list (p 5 11 20 39) (g.part (g.atom (p 6 6 21 27) (g.spelled (k.Name (codes "export") false))) (g.part (g.atom (p 7 7 28 31) (g.spelled (k.Name (codes "one") false))) (g.part (g.atom (p 9 9 34 35) (g.implied k.Quote)) (g.part (g.atom (p 10 10 35 38) (g.spelled (k.Name (codes "two") false))) g.none))))) g.none))))) ∷ [])) ∷ []) ≡ ((q 0 20 21 64 (codes "not defined quote")) ∷ (q 0 28 31 64 (codes "not defined one")) ∷ (q 0 35 38 64 (codes "not defined two")) ∷ [])
unfolding base_names standard_libraries prelude encode_utf8
implied-export-behind = refl

pub implied-export-again : diagnostic_rows (((s 0 1) ∷ (s 1 15) ∷ (s 16 17) ∷ (s 17 18) ∷ (s 18 19) ∷ (s 20 21) ∷ (s 21 27) ∷ (s 28 29) ∷ (s 29 35) ∷ (s 36 40) ∷ (s 40 41) ∷ (s 41 42) ∷ (s 43 44) ∷ (s 44 50) ∷ (s 51 56) ∷ (s 56 57) ∷ (s 58 59) ∷ (s 59 65) ∷ (s 66 67) ∷ (s 68 69) ∷ (s 69 72) ∷ (s 72 73) ∷ (s 73 74) ∷ []) ∷ []) ((Some (((g.list (p 0 22 0 74) (g.part (g.atom (p 1 1 1 15) (g.spelled (k.Name (codes "define-library") false))) (g.part (g.list (p 2 4 16 19) (g.part (g.atom (p 3 3 17 18) (g.spelled (k.Name (codes "l") false))) g.none)) (g.part (g.list (p 5 11 20 42) (g.part (g.atom (p 6 6 21 27) (g.spelled (k.Name (codes "import") false))) (g.part (g.list (p 7 10 28 41) (g.part (g.atom (p 8 8 29 35) (g.spelled (k.Name (codes "scheme") false))) (g.part (g.atom (p 9 9 36 40) (g.spelled (k.Name (codes "base") false))) g.none))) g.none))) (g.part (g.list (p 12 15 43 57) (g.part (g.atom (p 13 13 44 50) (g.spelled (k.Name (codes "export") false))) (g.part (g.atom (p 14 14 51 56) (g.spelled (k.Name (codes "quote") false))) g.none))) (g.part (g.list (p 16 21 58 73) (g.part (g.atom (p 17 17 59 65) (g.spelled (k.Name (codes "export") false))) (g.part (g.atom (p 19 19 68 69) (g.implied k.Quote)) (g.part (g.atom (p 20 20 69 72) (g.spelled (k.Name (codes "car") false))) g.none)))) g.none))))))) ∷ [])) ∷ []) ≡ ((q 0 58 59 65 (codes "exported twice quote")) ∷ [])
unfolding base_names standard_libraries prelude encode_utf8
implied-export-again = refl

pub implied-export-first : diagnostic_rows (((s 0 1) ∷ (s 1 15) ∷ (s 16 17) ∷ (s 17 18) ∷ (s 18 19) ∷ (s 20 21) ∷ (s 21 27) ∷ (s 28 29) ∷ (s 29 35) ∷ (s 36 40) ∷ (s 40 41) ∷ (s 41 42) ∷ (s 43 44) ∷ (s 44 50) ∷ (s 51 52) ∷ (s 53 54) ∷ (s 54 57) ∷ (s 57 58) ∷ (s 59 60) ∷ (s 60 66) ∷ (s 67 72) ∷ (s 72 73) ∷ (s 73 74) ∷ []) ∷ []) ((Some (((g.list (p 0 22 0 74) (g.part (g.atom (p 1 1 1 15) (g.spelled (k.Name (codes "define-library") false))) (g.part (g.list (p 2 4 16 19) (g.part (g.atom (p 3 3 17 18) (g.spelled (k.Name (codes "l") false))) g.none)) (g.part (g.list (p 5 11 20 42) (g.part (g.atom (p 6 6 21 27) (g.spelled (k.Name (codes "import") false))) (g.part (g.list (p 7 10 28 41) (g.part (g.atom (p 8 8 29 35) (g.spelled (k.Name (codes "scheme") false))) (g.part (g.atom (p 9 9 36 40) (g.spelled (k.Name (codes "base") false))) g.none))) g.none))) (g.part (g.list (p 12 17 43 58) (g.part (g.atom (p 13 13 44 50) (g.spelled (k.Name (codes "export") false))) (g.part (g.atom (p 15 15 53 54) (g.implied k.Quote)) (g.part (g.atom (p 16 16 54 57) (g.spelled (k.Name (codes "car") false))) g.none)))) (g.part (g.list (p 18 21 59 73) (g.part (g.atom (p 19 19 60 66) (g.spelled (k.Name (codes "export") false))) (g.part (g.atom (p 20 20 67 72) (g.spelled (k.Name (codes "quote") false))) g.none))) g.none))))))) ∷ [])) ∷ []) ≡ ((q 0 67 72 65 (codes "exported twice quote")) ∷ [])
unfolding base_names standard_libraries prelude encode_utf8
implied-export-first = refl

pub implied-export-renamed : diagnostic_rows (((s 0 1) ∷ (s 1 15) ∷ (s 16 17) ∷ (s 17 18) ∷ (s 18 19) ∷ (s 20 21) ∷ (s 21 27) ∷ (s 28 29) ∷ (s 29 35) ∷ (s 36 40) ∷ (s 40 41) ∷ (s 41 42) ∷ (s 43 44) ∷ (s 44 50) ∷ (s 51 52) ∷ (s 52 58) ∷ (s 59 60) ∷ (s 61 62) ∷ (s 62 64) ∷ (s 64 65) ∷ (s 65 66) ∷ (s 66 67) ∷ []) ∷ ((s 0 1) ∷ (s 1 7) ∷ (s 8 9) ∷ (s 9 10) ∷ (s 10 11) ∷ (s 11 12) ∷ (s 13 14) ∷ (s 14 16) ∷ (s 17 20) ∷ (s 20 21) ∷ []) ∷ []) ((Some (((g.list (p 0 21 0 67) (g.part (g.atom (p 1 1 1 15) (g.spelled (k.Name (codes "define-library") false))) (g.part (g.list (p 2 4 16 19) (g.part (g.atom (p 3 3 17 18) (g.spelled (k.Name (codes "l") false))) g.none)) (g.part (g.list (p 5 11 20 42) (g.part (g.atom (p 6 6 21 27) (g.spelled (k.Name (codes "import") false))) (g.part (g.list (p 7 10 28 41) (g.part (g.atom (p 8 8 29 35) (g.spelled (k.Name (codes "scheme") false))) (g.part (g.atom (p 9 9 36 40) (g.spelled (k.Name (codes "base") false))) g.none))) g.none))) (g.part (g.list (p 12 20 43 66) (g.part (g.atom (p 13 13 44 50) (g.spelled (k.Name (codes "export") false))) (g.part (g.list (p 14 19 51 65) (g.part (g.atom (p 15 15 52 58) (g.spelled (k.Name (codes "rename") false))) (g.part (g.atom (p 17 17 61 62) (g.implied k.Quote)) (g.part (g.atom (p 18 18 62 64) (g.spelled (k.Name (codes "kw") false))) g.none)))) g.none))) g.none)))))) ∷ [])) ∷ (Some (((g.list (p 0 5 0 12) (g.part (g.atom (p 1 1 1 7) (g.spelled (k.Name (codes "import") false))) (g.part (g.list (p 2 4 8 11) (g.part (g.atom (p 3 3 9 10) (g.spelled (k.Name (codes "l") false))) g.none)) g.none)))) ∷ ((g.list (p 6 9 13 21) (g.part (g.atom (p 7 7 14 16) (g.spelled (k.Name (codes "kw") false))) (g.part (g.atom (p 8 8 17 20) (g.spelled (k.Name (codes "one") false))) g.none)))) ∷ [])) ∷ []) ≡ ([])
unfolding base_names standard_libraries prelude encode_utf8
implied-export-renamed = refl

pub implied-export-before-a-rename : diagnostic_rows (((s 0 1) ∷ (s 1 15) ∷ (s 16 17) ∷ (s 17 18) ∷ (s 18 19) ∷ (s 20 21) ∷ (s 21 27) ∷ (s 28 29) ∷ (s 29 35) ∷ (s 36 40) ∷ (s 40 41) ∷ (s 41 42) ∷ (s 43 44) ∷ (s 44 50) ∷ (s 51 52) ∷ (s 53 54) ∷ (s 54 55) ∷ (s 55 61) ∷ (s 62 65) ∷ (s 66 69) ∷ (s 69 70) ∷ (s 70 71) ∷ (s 71 72) ∷ []) ∷ ((s 0 1) ∷ (s 1 7) ∷ (s 8 9) ∷ (s 9 10) ∷ (s 10 11) ∷ (s 11 12) ∷ (s 13 14) ∷ (s 14 17) ∷ (s 18 19) ∷ (s 19 22) ∷ (s 22 23) ∷ []) ∷ []) ((Some (((g.list (p 0 22 0 72) (g.part (g.atom (p 1 1 1 15) (g.spelled (k.Name (codes "define-library") false))) (g.part (g.list (p 2 4 16 19) (g.part (g.atom (p 3 3 17 18) (g.spelled (k.Name (codes "l") false))) g.none)) (g.part (g.list (p 5 11 20 42) (g.part (g.atom (p 6 6 21 27) (g.spelled (k.Name (codes "import") false))) (g.part (g.list (p 7 10 28 41) (g.part (g.atom (p 8 8 29 35) (g.spelled (k.Name (codes "scheme") false))) (g.part (g.atom (p 9 9 36 40) (g.spelled (k.Name (codes "base") false))) g.none))) g.none))) (g.part (g.list (p 12 21 43 71) (g.part (g.atom (p 13 13 44 50) (g.spelled (k.Name (codes "export") false))) (g.part (g.atom (p 15 15 53 54) (g.implied k.Quote)) (g.part (g.list (p 16 20 54 70) (g.part (g.atom (p 17 17 55 61) (g.spelled (k.Name (codes "rename") false))) (g.part (g.atom (p 18 18 62 65) (g.spelled (k.Name (codes "car") false))) (g.part (g.atom (p 19 19 66 69) (g.spelled (k.Name (codes "kar") false))) g.none)))) g.none)))) g.none)))))) ∷ [])) ∷ (Some (((g.list (p 0 5 0 12) (g.part (g.atom (p 1 1 1 7) (g.spelled (k.Name (codes "import") false))) (g.part (g.list (p 2 4 8 11) (g.part (g.atom (p 3 3 9 10) (g.spelled (k.Name (codes "l") false))) g.none)) g.none)))) ∷ ((g.list (p 6 10 13 23) (g.part (g.atom (p 7 7 14 17) (g.spelled (k.Name (codes "kar") false))) (g.part (g.list (p 8 9 18 22) (g.part (g.atom (p 8 8 18 19) (g.implied k.Quote)) (g.part (g.atom (p 9 9 19 22) (g.spelled (k.Name (codes "one") false))) g.none))) g.none)))) ∷ [])) ∷ []) ≡ ([])
unfolding base_names standard_libraries prelude encode_utf8
implied-export-before-a-rename = refl

pub implied-export-of-three : diagnostic_rows (((s 0 1) ∷ (s 1 15) ∷ (s 16 17) ∷ (s 17 18) ∷ (s 18 19) ∷ (s 20 21) ∷ (s 21 27) ∷ (s 28 29) ∷ (s 29 35) ∷ (s 36 39) ∷ (s 40 41) ∷ (s 42 43) ∷ (s 43 46) ∷ (s 46 47) ∷ (s 47 48) ∷ (s 48 49) ∷ []) ∷ []) ((Some (((g.list (p 0 15 0 49) (g.part (g.atom (p 1 1 1 15) (g.spelled (k.Name (codes "define-library") false))) (g.part (g.list (p 2 4 16 19) (g.part (g.atom (p 3 3 17 18) (g.spelled (k.Name (codes "l") false))) g.none)) (g.part (g.list (p 5 14 20 48) (g.part (g.atom (p 6 6 21 27) (g.spelled (k.Name (codes "export") false))) (g.part (g.list (p 7 13 28 47) (g.part (g.atom (p 8 8 29 35) (g.spelled (k.Name (codes "rename") false))) (g.part (g.atom (p 9 9 36 39) (g.spelled (k.Name (codes "one") false))) (g.part (g.atom (p 11 11 42 43) (g.implied k.Quote)) (g.part (g.atom (p 12 12 43 46) (g.spelled (k.Name (codes "two") false))) g.none))))) g.none))) g.none))))) ∷ [])) ∷ []) ≡ ((q 0 20 48 61 (codes "bad declaration")) ∷ [])
unfolding base_names standard_libraries prelude encode_utf8
implied-export-of-three = refl

pub implied-only-lacks : diagnostic_rows (((s 0 1) ∷ (s 1 7) ∷ (s 8 9) ∷ (s 9 13) ∷ (s 14 15) ∷ (s 15 21) ∷ (s 22 27) ∷ (s 27 28) ∷ (s 29 30) ∷ (s 31 32) ∷ (s 32 33) ∷ (s 33 34) ∷ (s 34 35) ∷ []) ∷ []) ((Some (((g.list (p 0 12 0 35) (g.part (g.atom (p 1 1 1 7) (g.spelled (k.Name (codes "import") false))) (g.part (g.list (p 2 11 8 34) (g.part (g.atom (p 3 3 9 13) (g.spelled (k.Name (codes "only") false))) (g.part (g.list (p 4 7 14 28) (g.part (g.atom (p 5 5 15 21) (g.spelled (k.Name (codes "scheme") false))) (g.part (g.atom (p 6 6 22 27) (g.spelled (k.Name (codes "write") false))) g.none))) (g.part (g.atom (p 9 9 31 32) (g.implied k.Quote)) (g.part (g.atom (p 10 10 32 33) (g.spelled (k.Name (codes "x") false))) g.none))))) g.none)))) ∷ [])) ∷ []) ≡ ((q 0 8 34 51 (codes "not exported quote")) ∷ [])
unfolding base_names standard_libraries prelude encode_utf8
implied-only-lacks = refl

pub implied-only-lacks-first : diagnostic_rows (((s 0 1) ∷ (s 1 7) ∷ (s 8 9) ∷ (s 9 13) ∷ (s 14 15) ∷ (s 15 21) ∷ (s 22 27) ∷ (s 27 28) ∷ (s 29 33) ∷ (s 34 35) ∷ (s 36 37) ∷ (s 37 44) ∷ (s 44 45) ∷ (s 45 46) ∷ []) ∷ []) ((Some (((g.list (p 0 13 0 46) (g.part (g.atom (p 1 1 1 7) (g.spelled (k.Name (codes "import") false))) (g.part (g.list (p 2 12 8 45) (g.part (g.atom (p 3 3 9 13) (g.spelled (k.Name (codes "only") false))) (g.part (g.list (p 4 7 14 28) (g.part (g.atom (p 5 5 15 21) (g.spelled (k.Name (codes "scheme") false))) (g.part (g.atom (p 6 6 22 27) (g.spelled (k.Name (codes "write") false))) g.none))) (g.part (g.atom (p 8 8 29 33) (g.spelled (k.Name (codes "nope") false))) (g.part (g.atom (p 10 10 36 37) (g.implied k.Quote)) (g.part (g.atom (p 11 11 37 44) (g.spelled (k.Name (codes "display") false))) g.none)))))) g.none)))) ∷ [])) ∷ []) ≡ ((q 0 29 33 51 (codes "not exported nope")) ∷ [])
unfolding base_names standard_libraries prelude encode_utf8
implied-only-lacks-first = refl

pub implied-only : diagnostic_rows (((s 0 1) ∷ (s 1 7) ∷ (s 8 9) ∷ (s 9 13) ∷ (s 14 15) ∷ (s 15 21) ∷ (s 22 26) ∷ (s 26 27) ∷ (s 28 29) ∷ (s 30 31) ∷ (s 31 34) ∷ (s 34 35) ∷ (s 35 36) ∷ (s 37 38) ∷ (s 38 41) ∷ (s 42 43) ∷ (s 43 44) ∷ (s 44 45) ∷ (s 45 46) ∷ []) ∷ []) ((Some (((g.list (p 0 12 0 36) (g.part (g.atom (p 1 1 1 7) (g.spelled (k.Name (codes "import") false))) (g.part (g.list (p 2 11 8 35) (g.part (g.atom (p 3 3 9 13) (g.spelled (k.Name (codes "only") false))) (g.part (g.list (p 4 7 14 27) (g.part (g.atom (p 5 5 15 21) (g.spelled (k.Name (codes "scheme") false))) (g.part (g.atom (p 6 6 22 26) (g.spelled (k.Name (codes "base") false))) g.none))) (g.part (g.atom (p 9 9 30 31) (g.implied k.Quote)) (g.part (g.atom (p 10 10 31 34) (g.spelled (k.Name (codes "car") false))) g.none))))) g.none)))) ∷ ((g.list (p 13 18 37 46) (g.part (g.atom (p 14 14 38 41) (g.spelled (k.Name (codes "car") false))) (g.part (g.list (p 15 17 42 45) (g.part (g.atom (p 15 15 42 43) (g.implied k.Quote)) (g.part (g.list (p 16 17 43 45) g.none) g.none))) g.none)))) ∷ [])) ∷ []) ≡ ([])
unfolding base_names standard_libraries prelude encode_utf8
implied-only = refl

pub implied-except : diagnostic_rows (((s 0 1) ∷ (s 1 7) ∷ (s 8 9) ∷ (s 9 15) ∷ (s 16 17) ∷ (s 17 23) ∷ (s 24 28) ∷ (s 28 29) ∷ (s 30 31) ∷ (s 32 33) ∷ (s 33 36) ∷ (s 36 37) ∷ (s 37 38) ∷ (s 39 40) ∷ (s 40 43) ∷ (s 44 45) ∷ (s 45 46) ∷ (s 46 47) ∷ []) ∷ []) ((Some (((g.list (p 0 12 0 38) (g.part (g.atom (p 1 1 1 7) (g.spelled (k.Name (codes "import") false))) (g.part (g.list (p 2 11 8 37) (g.part (g.atom (p 3 3 9 15) (g.spelled (k.Name (codes "except") false))) (g.part (g.list (p 4 7 16 29) (g.part (g.atom (p 5 5 17 23) (g.spelled (k.Name (codes "scheme") false))) (g.part (g.atom (p 6 6 24 28) (g.spelled (k.Name (codes "base") false))) g.none))) (g.part (g.atom (p 9 9 32 33) (g.implied k.Quote)) (g.part (g.atom (p 10 10 33 36) (g.spelled (k.Name (codes "car") false))) g.none))))) g.none)))) ∷ ((g.list (p 13 17 39 47) (g.part (g.atom (p 14 14 40 43) (g.spelled (k.Name (codes "cdr") false))) (g.part (g.list (p 15 16 44 46) (g.part (g.atom (p 15 15 44 45) (g.implied k.Quote)) (g.part (g.atom (p 16 16 45 46) (g.spelled (k.Name (codes "x") false))) g.none))) g.none)))) ∷ [])) ∷ []) ≡ ((q 0 45 46 103 (codes "unbound x")) ∷ [])
unfolding base_names standard_libraries prelude encode_utf8
implied-except = refl

pub implied-rename-lacks : diagnostic_rows (((s 0 1) ∷ (s 1 7) ∷ (s 8 9) ∷ (s 9 15) ∷ (s 16 17) ∷ (s 17 23) ∷ (s 24 29) ∷ (s 29 30) ∷ (s 31 32) ∷ (s 32 36) ∷ (s 36 37) ∷ (s 37 38) ∷ []) ∷ []) ((Some (((g.list (p 0 11 0 38) (g.part (g.atom (p 1 1 1 7) (g.spelled (k.Name (codes "import") false))) (g.part (g.list (p 2 10 8 37) (g.part (g.atom (p 3 3 9 15) (g.spelled (k.Name (codes "rename") false))) (g.part (g.list (p 4 7 16 30) (g.part (g.atom (p 5 5 17 23) (g.spelled (k.Name (codes "scheme") false))) (g.part (g.atom (p 6 6 24 29) (g.spelled (k.Name (codes "write") false))) g.none))) (g.part (g.list (p 8 9 31 36) (g.part (g.atom (p 8 8 31 32) (g.implied k.Quote)) (g.part (g.atom (p 9 9 32 36) (g.spelled (k.Name (codes "show") false))) g.none))) g.none)))) g.none)))) ∷ [])) ∷ []) ≡ ((q 0 8 37 51 (codes "not exported quote")) ∷ [])
unfolding base_names standard_libraries prelude encode_utf8
implied-rename-lacks = refl

pub implied-rename : diagnostic_rows (((s 0 1) ∷ (s 1 7) ∷ (s 8 9) ∷ (s 9 15) ∷ (s 16 17) ∷ (s 17 23) ∷ (s 24 28) ∷ (s 28 29) ∷ (s 30 31) ∷ (s 31 33) ∷ (s 33 34) ∷ (s 34 35) ∷ (s 36 37) ∷ (s 37 39) ∷ (s 40 41) ∷ (s 41 42) ∷ []) ∷ []) ((Some (((g.list (p 0 11 0 35) (g.part (g.atom (p 1 1 1 7) (g.spelled (k.Name (codes "import") false))) (g.part (g.list (p 2 10 8 34) (g.part (g.atom (p 3 3 9 15) (g.spelled (k.Name (codes "rename") false))) (g.part (g.list (p 4 7 16 29) (g.part (g.atom (p 5 5 17 23) (g.spelled (k.Name (codes "scheme") false))) (g.part (g.atom (p 6 6 24 28) (g.spelled (k.Name (codes "base") false))) g.none))) (g.part (g.list (p 8 9 30 33) (g.part (g.atom (p 8 8 30 31) (g.implied k.Quote)) (g.part (g.atom (p 9 9 31 33) (g.spelled (k.Name (codes "kw") false))) g.none))) g.none)))) g.none)))) ∷ ((g.list (p 12 15 36 42) (g.part (g.atom (p 13 13 37 39) (g.spelled (k.Name (codes "kw") false))) (g.part (g.atom (p 14 14 40 41) (g.spelled (k.Name (codes "x") false))) g.none)))) ∷ [])) ∷ []) ≡ ([])
unfolding base_names standard_libraries prelude encode_utf8
implied-rename = refl

pub implied-below-a-modifier : diagnostic_rows (((s 0 1) ∷ (s 1 7) ∷ (s 8 9) ∷ (s 9 15) ∷ (s 16 17) ∷ (s 17 21) ∷ (s 22 23) ∷ (s 23 29) ∷ (s 30 35) ∷ (s 35 36) ∷ (s 37 38) ∷ (s 39 40) ∷ (s 40 41) ∷ (s 41 42) ∷ (s 43 45) ∷ (s 45 46) ∷ (s 46 47) ∷ []) ∷ []) ((Some (((g.list (p 0 16 0 47) (g.part (g.atom (p 1 1 1 7) (g.spelled (k.Name (codes "import") false))) (g.part (g.list (p 2 15 8 46) (g.part (g.atom (p 3 3 9 15) (g.spelled (k.Name (codes "prefix") false))) (g.part (g.list (p 4 13 16 42) (g.part (g.atom (p 5 5 17 21) (g.spelled (k.Name (codes "only") false))) (g.part (g.list (p 6 9 22 36) (g.part (g.atom (p 7 7 23 29) (g.spelled (k.Name (codes "scheme") false))) (g.part (g.atom (p 8 8 30 35) (g.spelled (k.Name (codes "write") false))) g.none))) (g.part (g.atom (p 11 11 39 40) (g.implied k.Quasi)) (g.part (g.atom (p 12 12 40 41) (g.spelled (k.Name (codes "x") false))) g.none))))) (g.part (g.atom (p 14 14 43 45) (g.spelled (k.Name (codes "p:") false))) g.none)))) g.none)))) ∷ [])) ∷ []) ≡ ((q 0 8 46 51 (codes "not exported quasiquote")) ∷ [])
unfolding base_names standard_libraries prelude encode_utf8
implied-below-a-modifier = refl

pub implied-library-name : diagnostic_rows (((s 0 1) ∷ (s 1 15) ∷ (s 16 17) ∷ (s 17 18) ∷ (s 19 20) ∷ (s 20 26) ∷ (s 27 30) ∷ (s 30 31) ∷ (s 32 33) ∷ (s 33 39) ∷ (s 40 41) ∷ (s 41 47) ∷ (s 48 52) ∷ (s 52 53) ∷ (s 53 54) ∷ (s 55 56) ∷ (s 56 61) ∷ (s 62 63) ∷ (s 63 69) ∷ (s 70 73) ∷ (s 74 75) ∷ (s 75 76) ∷ (s 76 77) ∷ (s 77 78) ∷ []) ∷ ((s 0 1) ∷ (s 1 7) ∷ (s 8 9) ∷ (s 9 15) ∷ (s 16 20) ∷ (s 20 21) ∷ (s 22 23) ∷ (s 23 24) ∷ (s 24 25) ∷ (s 26 27) ∷ (s 27 31) ∷ (s 32 35) ∷ (s 35 36) ∷ []) ∷ []) ((Some (((g.list (p 0 23 0 78) (g.part (g.atom (p 1 1 1 15) (g.spelled (k.Name (codes "define-library") false))) (g.part (g.list (p 2 3 16 18) (g.part (g.atom (p 2 2 16 17) (g.implied k.Quote)) (g.part (g.atom (p 3 3 17 18) (g.spelled (k.Name (codes "l") false))) g.none))) (g.part (g.list (p 4 7 19 31) (g.part (g.atom (p 5 5 20 26) (g.spelled (k.Name (codes "export") false))) (g.part (g.atom (p 6 6 27 30) (g.spelled (k.Name (codes "fun") false))) g.none))) (g.part (g.list (p 8 14 32 54) (g.part (g.atom (p 9 9 33 39) (g.spelled (k.Name (codes "import") false))) (g.part (g.list (p 10 13 40 53) (g.part (g.atom (p 11 11 41 47) (g.spelled (k.Name (codes "scheme") false))) (g.part (g.atom (p 12 12 48 52) (g.spelled (k.Name (codes "base") false))) g.none))) g.none))) (g.part (g.list (p 15 22 55 77) (g.part (g.atom (p 16 16 56 61) (g.spelled (k.Name (codes "begin") false))) (g.part (g.list (p 17 21 62 76) (g.part (g.atom (p 18 18 63 69) (g.spelled (k.Name (codes "define") false))) (g.part (g.atom (p 19 19 70 73) (g.spelled (k.Name (codes "fun") false))) (g.part (g.atom (p 20 20 74 75) (g.spelled (k.Numeral (codes "1")))) g.none)))) g.none))) g.none))))))) ∷ [])) ∷ (Some (((g.list (p 0 8 0 25) (g.part (g.atom (p 1 1 1 7) (g.spelled (k.Name (codes "import") false))) (g.part (g.list (p 2 5 8 21) (g.part (g.atom (p 3 3 9 15) (g.spelled (k.Name (codes "scheme") false))) (g.part (g.atom (p 4 4 16 20) (g.spelled (k.Name (codes "base") false))) g.none))) (g.part (g.list (p 6 7 22 24) (g.part (g.atom (p 6 6 22 23) (g.implied k.Quote)) (g.part (g.atom (p 7 7 23 24) (g.spelled (k.Name (codes "l") false))) g.none))) g.none))))) ∷ ((g.list (p 9 12 26 36) (g.part (g.atom (p 10 10 27 31) (g.spelled (k.Name (codes "list") false))) (g.part (g.atom (p 11 11 32 35) (g.spelled (k.Name (codes "fun") false))) g.none)))) ∷ [])) ∷ []) ≡ ([])
unfolding base_names standard_libraries prelude encode_utf8
implied-library-name = refl

pub implied-set : diagnostic_rows (((s 0 1) ∷ (s 1 7) ∷ (s 8 9) ∷ (s 10 11) ∷ (s 11 12) ∷ (s 12 13) ∷ []) ∷ []) ((Some (((g.list (p 0 5 0 13) (g.part (g.atom (p 1 1 1 7) (g.spelled (k.Name (codes "import") false))) (g.part (g.atom (p 3 3 10 11) (g.implied k.Quote)) (g.part (g.atom (p 4 4 11 12) (g.spelled (k.Name (codes "x") false))) g.none))))) ∷ [])) ∷ []) ≡ ((q 0 10 11 53 (codes "bad import set")) ∷ (q 0 11 12 53 (codes "bad import set")) ∷ [])
unfolding base_names standard_libraries prelude encode_utf8
implied-set = refl

pub implied-clause : diagnostic_rows (((s 0 1) ∷ (s 1 15) ∷ (s 16 17) ∷ (s 17 18) ∷ (s 18 19) ∷ (s 20 21) ∷ (s 21 27) ∷ (s 28 31) ∷ (s 31 32) ∷ (s 33 34) ∷ (s 34 40) ∷ (s 41 42) ∷ (s 42 48) ∷ (s 49 53) ∷ (s 53 54) ∷ (s 54 55) ∷ (s 56 57) ∷ (s 57 68) ∷ (s 69 70) ∷ (s 71 72) ∷ (s 72 76) ∷ (s 76 77) ∷ (s 77 78) ∷ []) ∷ []) ((Some (((g.list (p 0 22 0 78) (g.part (g.atom (p 1 1 1 15) (g.spelled (k.Name (codes "define-library") false))) (g.part (g.list (p 2 4 16 19) (g.part (g.atom (p 3 3 17 18) (g.spelled (k.Name (codes "l") false))) g.none)) (g.part (g.list (p 5 8 20 32) (g.part (g.atom (p 6 6 21 27) (g.spelled (k.Name (codes "export") false))) (g.part (g.atom (p 7 7 28 31) (g.spelled (k.Name (codes "fun") false))) g.none))) (g.part (g.list (p 9 15 33 55) (g.part (g.atom (p 10 10 34 40) (g.spelled (k.Name (codes "import") false))) (g.part (g.list (p 11 14 41 54) (g.part (g.atom (p 12 12 42 48) (g.spelled (k.Name (codes "scheme") false))) (g.part (g.atom (p 13 13 49 53) (g.spelled (k.Name (codes "base") false))) g.none))) g.none))) (g.part (g.list (p 16 21 56 77) (g.part (g.atom (p 17 17 57 68) (g.spelled (k.Name (codes "cond-expand") false))) (g.part (g.atom (p 19 19 71 72) (g.implied k.Quote)) (g.part (g.atom (p 20 20 72 76) (g.spelled (k.Name (codes "r7rs") false))) g.none)))) g.none))))))) ∷ [])) ∷ []) ≡ ((q 0 56 77 61 (codes "bad declaration")) ∷ [])
unfolding base_names standard_libraries prelude encode_utf8
implied-clause = refl

pub implied-requirement : diagnostic_rows (((s 0 1) ∷ (s 1 15) ∷ (s 16 17) ∷ (s 17 18) ∷ (s 18 19) ∷ (s 20 21) ∷ (s 21 27) ∷ (s 28 31) ∷ (s 31 32) ∷ (s 33 34) ∷ (s 34 40) ∷ (s 41 42) ∷ (s 42 48) ∷ (s 49 53) ∷ (s 53 54) ∷ (s 54 55) ∷ (s 56 57) ∷ (s 57 62) ∷ (s 63 64) ∷ (s 64 70) ∷ (s 71 74) ∷ (s 75 76) ∷ (s 76 77) ∷ (s 77 78) ∷ (s 79 80) ∷ (s 80 91) ∷ (s 92 93) ∷ (s 93 94) ∷ (s 94 96) ∷ (s 97 98) ∷ (s 99 100) ∷ (s 100 104) ∷ (s 104 105) ∷ (s 106 107) ∷ (s 107 113) ∷ (s 114 117) ∷ (s 117 118) ∷ (s 118 119) ∷ (s 119 120) ∷ (s 120 121) ∷ []) ∷ []) ((Some (((g.list (p 0 39 0 121) (g.part (g.atom (p 1 1 1 15) (g.spelled (k.Name (codes "define-library") false))) (g.part (g.list (p 2 4 16 19) (g.part (g.atom (p 3 3 17 18) (g.spelled (k.Name (codes "l") false))) g.none)) (g.part (g.list (p 5 8 20 32) (g.part (g.atom (p 6 6 21 27) (g.spelled (k.Name (codes "export") false))) (g.part (g.atom (p 7 7 28 31) (g.spelled (k.Name (codes "fun") false))) g.none))) (g.part (g.list (p 9 15 33 55) (g.part (g.atom (p 10 10 34 40) (g.spelled (k.Name (codes "import") false))) (g.part (g.list (p 11 14 41 54) (g.part (g.atom (p 12 12 42 48) (g.spelled (k.Name (codes "scheme") false))) (g.part (g.atom (p 13 13 49 53) (g.spelled (k.Name (codes "base") false))) g.none))) g.none))) (g.part (g.list (p 16 23 56 78) (g.part (g.atom (p 17 17 57 62) (g.spelled (k.Name (codes "begin") false))) (g.part (g.list (p 18 22 63 77) (g.part (g.atom (p 19 19 64 70) (g.spelled (k.Name (codes "define") false))) (g.part (g.atom (p 20 20 71 74) (g.spelled (k.Name (codes "fun") false))) (g.part (g.atom (p 21 21 75 76) (g.spelled (k.Numeral (codes "1")))) g.none)))) g.none))) (g.part (g.list (p 24 38 79 120) (g.part (g.atom (p 25 25 80 91) (g.spelled (k.Name (codes "cond-expand") false))) (g.part (g.list (p 26 37 92 119) (g.part (g.list (p 27 32 93 105) (g.part (g.atom (p 28 28 94 96) (g.spelled (k.Name (codes "or") false))) (g.part (g.atom (p 30 30 99 100) (g.implied k.Quote)) (g.part (g.atom (p 31 31 100 104) (g.spelled (k.Name (codes "r7rs") false))) g.none)))) (g.part (g.list (p 33 36 106 118) (g.part (g.atom (p 34 34 107 113) (g.spelled (k.Name (codes "export") false))) (g.part (g.atom (p 35 35 114 117) (g.spelled (k.Name (codes "car") false))) g.none))) g.none))) g.none))) g.none)))))))) ∷ [])) ∷ []) ≡ ([])
unfolding base_names standard_libraries prelude encode_utf8
implied-requirement = refl

pub implied-definition : diagnostic_rows (((s 0 1) ∷ (s 1 7) ∷ (s 8 9) ∷ (s 9 13) ∷ (s 14 15) ∷ (s 15 21) ∷ (s 22 26) ∷ (s 26 27) ∷ (s 28 34) ∷ (s 34 35) ∷ (s 35 36) ∷ (s 37 38) ∷ (s 38 44) ∷ (s 45 50) ∷ (s 51 52) ∷ (s 52 53) ∷ (s 54 55) ∷ (s 55 56) ∷ []) ∷ []) ((Some (((g.list (p 0 10 0 36) (g.part (g.atom (p 1 1 1 7) (g.spelled (k.Name (codes "import") false))) (g.part (g.list (p 2 9 8 35) (g.part (g.atom (p 3 3 9 13) (g.spelled (k.Name (codes "only") false))) (g.part (g.list (p 4 7 14 27) (g.part (g.atom (p 5 5 15 21) (g.spelled (k.Name (codes "scheme") false))) (g.part (g.atom (p 6 6 22 26) (g.spelled (k.Name (codes "base") false))) g.none))) (g.part (g.atom (p 8 8 28 34) (g.spelled (k.Name (codes "define") false))) g.none)))) g.none)))) ∷ ((g.list (p 11 15 37 53) (g.part (g.atom (p 12 12 38 44) (g.spelled (k.Name (codes "define") false))) (g.part (g.atom (p 13 13 45 50) (g.spelled (k.Name (codes "quote") false))) (g.part (g.atom (p 14 14 51 52) (g.spelled (k.Numeral (codes "1")))) g.none))))) ∷ ((g.list (p 16 17 54 56) (g.part (g.atom (p 16 16 54 55) (g.implied k.Quote)) (g.part (g.atom (p 17 17 55 56) (g.spelled (k.Name (codes "x") false))) g.none)))) ∷ [])) ∷ []) ≡ ((q 0 55 56 103 (codes "unbound x")) ∷ [])
unfolding base_names standard_libraries prelude encode_utf8
implied-definition = refl

pub implied-unquote : diagnostic_rows (((s 0 1) ∷ (s 1 15) ∷ (s 16 17) ∷ (s 17 18) ∷ (s 18 19) ∷ (s 20 21) ∷ (s 21 27) ∷ (s 28 29) ∷ (s 30 32) ∷ (s 32 35) ∷ (s 35 36) ∷ (s 36 37) ∷ []) ∷ []) ((Some (((g.list (p 0 11 0 37) (g.part (g.atom (p 1 1 1 15) (g.spelled (k.Name (codes "define-library") false))) (g.part (g.list (p 2 4 16 19) (g.part (g.atom (p 3 3 17 18) (g.spelled (k.Name (codes "l") false))) g.none)) (g.part (g.list (p 5 10 20 36) (g.part (g.atom (p 6 6 21 27) (g.spelled (k.Name (codes "export") false))) (g.part (g.atom (p 8 8 30 32) (g.implied k.Splice)) (g.part (g.atom (p 9 9 32 35) (g.spelled (k.Name (codes "car") false))) g.none)))) g.none))))) ∷ [])) ∷ []) ≡ ((q 0 20 21 64 (codes "not defined unquote-splicing")) ∷ (q 0 32 35 64 (codes "not defined car")) ∷ [])
unfolding base_names standard_libraries prelude encode_utf8
implied-unquote = refl
