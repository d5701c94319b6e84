-- Open documents before and after an event, and the forms that would be carried if questions of one kind weren't asked.
-- Written by tests/definitions/rows; each row is checked by computing it.
use Rattle.std.specs.Prelude.{◌≡◌, ℕ, false, [], ◌∷◌, Some, codes, refl}
use Rattle.std.specs.Char.{encode_utf8}
use Rattle.scheme_model.specs.StandardNames.{base_names}
use Rattle.scheme_model.specs.StandardLibraries.{standard_libraries}
use Rattle.scheme_model.specs.Prelude.{prelude}
use Rattle.scheme_model.specs.Kinds as k
use Rattle.scheme_model.specs.Data as g
use Rattle.carried_forms.proofs.ShownCarried.{LookUp, Keyword, Rules, Comparison, Assignment, Library, Outcome, without_rows}

abbrev p : ℕ → ℕ → ℕ → ℕ → g.Place
p first last start end = record { first = first; last = last; start = start; end = end }

pub asked_a_comparison : without_rows Comparison (((codes "file:///l.sld"), Some (((g.list (p 0 43 0 119) (g.part (g.atom (p 1 1 1 15) (g.spelled (k.Name (codes "define-library") false))) (g.part (g.list (p 2 4 16 19) (g.part (g.atom (p 3 3 17 18) (g.spelled (k.Name (codes "l") false))) g.none)) (g.part (g.list (p 5 8 20 30) (g.part (g.atom (p 6 6 21 27) (g.spelled (k.Name (codes "export") false))) (g.part (g.atom (p 7 7 28 29) (g.spelled (k.Name (codes "m") false))) g.none))) (g.part (g.list (p 9 15 31 53) (g.part (g.atom (p 10 10 32 38) (g.spelled (k.Name (codes "import") false))) (g.part (g.list (p 11 14 39 52) (g.part (g.atom (p 12 12 40 46) (g.spelled (k.Name (codes "scheme") false))) (g.part (g.atom (p 13 13 47 51) (g.spelled (k.Name (codes "base") false))) g.none))) g.none))) (g.part (g.list (p 16 42 54 118) (g.part (g.atom (p 17 17 55 60) (g.spelled (k.Name (codes "begin") false))) (g.part (g.list (p 18 41 61 117) (g.part (g.atom (p 19 19 62 75) (g.spelled (k.Name (codes "define-syntax") false))) (g.part (g.atom (p 20 20 76 77) (g.spelled (k.Name (codes "m") false))) (g.part (g.list (p 21 40 78 116) (g.part (g.atom (p 22 22 79 91) (g.spelled (k.Name (codes "syntax-rules") false))) (g.part (g.list (p 23 25 92 95) (g.part (g.atom (p 24 24 93 94) (g.spelled (k.Name (codes "k") false))) g.none)) (g.part (g.list (p 26 32 96 105) (g.part (g.list (p 27 30 97 102) (g.part (g.atom (p 28 28 98 99) (g.spelled (k.Name (codes "_") false))) (g.part (g.atom (p 29 29 100 101) (g.spelled (k.Name (codes "k") false))) g.none))) (g.part (g.atom (p 31 31 103 104) (g.spelled (k.Numeral (codes "1")))) g.none))) (g.part (g.list (p 33 39 106 115) (g.part (g.list (p 34 37 107 112) (g.part (g.atom (p 35 35 108 109) (g.spelled (k.Name (codes "_") false))) (g.part (g.atom (p 36 36 110 111) (g.spelled (k.Name (codes "a") false))) g.none))) (g.part (g.atom (p 38 38 113 114) (g.spelled (k.Numeral (codes "2")))) g.none))) g.none))))) g.none)))) g.none))) g.none))))))) ∷ [])) ∷ ((codes "file:///m.scm"), Some (((g.list (p 0 9 0 26) (g.part (g.atom (p 1 1 1 7) (g.spelled (k.Name (codes "import") false))) (g.part (g.list (p 2 5 8 21) (g.part (g.atom (p 3 3 9 15) (g.spelled (k.Name (codes "scheme") false))) (g.part (g.atom (p 4 4 16 20) (g.spelled (k.Name (codes "base") false))) g.none))) (g.part (g.list (p 6 8 22 25) (g.part (g.atom (p 7 7 23 24) (g.spelled (k.Name (codes "l") false))) g.none)) g.none))))) ∷ ((g.list (p 10 14 27 39) (g.part (g.atom (p 11 11 28 34) (g.spelled (k.Name (codes "define") false))) (g.part (g.atom (p 12 12 35 36) (g.spelled (k.Name (codes "k") false))) (g.part (g.atom (p 13 13 37 38) (g.spelled (k.Numeral (codes "1")))) g.none))))) ∷ ((g.list (p 15 18 40 45) (g.part (g.atom (p 16 16 41 42) (g.spelled (k.Name (codes "m") false))) (g.part (g.atom (p 17 17 43 44) (g.spelled (k.Name (codes "k") false))) g.none)))) ∷ [])) ∷ []) (((codes "file:///l.sld"), Some (((g.list (p 0 43 0 119) (g.part (g.atom (p 1 1 1 15) (g.spelled (k.Name (codes "define-library") false))) (g.part (g.list (p 2 4 16 19) (g.part (g.atom (p 3 3 17 18) (g.spelled (k.Name (codes "l") false))) g.none)) (g.part (g.list (p 5 8 20 30) (g.part (g.atom (p 6 6 21 27) (g.spelled (k.Name (codes "export") false))) (g.part (g.atom (p 7 7 28 29) (g.spelled (k.Name (codes "m") false))) g.none))) (g.part (g.list (p 9 15 31 53) (g.part (g.atom (p 10 10 32 38) (g.spelled (k.Name (codes "import") false))) (g.part (g.list (p 11 14 39 52) (g.part (g.atom (p 12 12 40 46) (g.spelled (k.Name (codes "scheme") false))) (g.part (g.atom (p 13 13 47 51) (g.spelled (k.Name (codes "base") false))) g.none))) g.none))) (g.part (g.list (p 16 42 54 118) (g.part (g.atom (p 17 17 55 60) (g.spelled (k.Name (codes "begin") false))) (g.part (g.list (p 18 41 61 117) (g.part (g.atom (p 19 19 62 75) (g.spelled (k.Name (codes "define-syntax") false))) (g.part (g.atom (p 20 20 76 77) (g.spelled (k.Name (codes "m") false))) (g.part (g.list (p 21 40 78 116) (g.part (g.atom (p 22 22 79 91) (g.spelled (k.Name (codes "syntax-rules") false))) (g.part (g.list (p 23 25 92 95) (g.part (g.atom (p 24 24 93 94) (g.spelled (k.Name (codes "k") false))) g.none)) (g.part (g.list (p 26 32 96 105) (g.part (g.list (p 27 30 97 102) (g.part (g.atom (p 28 28 98 99) (g.spelled (k.Name (codes "_") false))) (g.part (g.atom (p 29 29 100 101) (g.spelled (k.Name (codes "k") false))) g.none))) (g.part (g.atom (p 31 31 103 104) (g.spelled (k.Numeral (codes "1")))) g.none))) (g.part (g.list (p 33 39 106 115) (g.part (g.list (p 34 37 107 112) (g.part (g.atom (p 35 35 108 109) (g.spelled (k.Name (codes "_") false))) (g.part (g.atom (p 36 36 110 111) (g.spelled (k.Name (codes "a") false))) g.none))) (g.part (g.atom (p 38 38 113 114) (g.spelled (k.Numeral (codes "2")))) g.none))) g.none))))) g.none)))) g.none))) g.none))))))) ∷ [])) ∷ ((codes "file:///m.scm"), Some (((g.list (p 0 9 0 26) (g.part (g.atom (p 1 1 1 7) (g.spelled (k.Name (codes "import") false))) (g.part (g.list (p 2 5 8 21) (g.part (g.atom (p 3 3 9 15) (g.spelled (k.Name (codes "scheme") false))) (g.part (g.atom (p 4 4 16 20) (g.spelled (k.Name (codes "base") false))) g.none))) (g.part (g.list (p 6 8 22 25) (g.part (g.atom (p 7 7 23 24) (g.spelled (k.Name (codes "l") false))) g.none)) g.none))))) ∷ ((g.list (p 10 14 27 39) (g.part (g.atom (p 11 11 28 34) (g.spelled (k.Name (codes "define") false))) (g.part (g.atom (p 12 12 35 36) (g.spelled (k.Name (codes "j") false))) (g.part (g.atom (p 13 13 37 38) (g.spelled (k.Numeral (codes "1")))) g.none))))) ∷ ((g.list (p 15 18 40 45) (g.part (g.atom (p 16 16 41 42) (g.spelled (k.Name (codes "m") false))) (g.part (g.atom (p 17 17 43 44) (g.spelled (k.Name (codes "k") false))) g.none)))) ∷ [])) ∷ []) ≡ ((0, 2) ∷ (1, 2) ∷ [])
unfolding base_names standard_libraries prelude encode_utf8
asked_a_comparison = refl

pub smallest_what_a_name_means : without_rows LookUp (((codes "file:///a.scm"), Some (((g.atom (p 0 0 0 1) (g.spelled (k.Name (codes "x") false)))) ∷ [])) ∷ []) (((codes "file:///a.scm"), Some (((g.atom (p 0 0 0 1) (g.spelled (k.Name (codes "x") false)))) ∷ ((g.list (p 1 5 2 14) (g.part (g.atom (p 2 2 3 9) (g.spelled (k.Name (codes "define") false))) (g.part (g.atom (p 3 3 10 11) (g.spelled (k.Name (codes "x") false))) (g.part (g.atom (p 4 4 12 13) (g.spelled (k.Numeral (codes "1")))) g.none))))) ∷ [])) ∷ []) ≡ ((0, 0) ∷ [])
unfolding base_names standard_libraries prelude encode_utf8
smallest_what_a_name_means = refl

pub smallest_whether_it_is_a_keyword : without_rows Keyword (((codes "file:///a.scm"), Some (((g.list (p 0 4 0 12) (g.part (g.atom (p 1 1 1 7) (g.spelled (k.Name (codes "define") false))) (g.part (g.atom (p 2 2 8 9) (g.spelled (k.Name (codes "x") false))) (g.part (g.atom (p 3 3 10 11) (g.spelled (k.Numeral (codes "1")))) g.none))))) ∷ ((g.atom (p 5 5 13 14) (g.spelled (k.Name (codes "x") false)))) ∷ [])) ∷ []) (((codes "file:///a.scm"), Some (((g.list (p 0 8 0 35) (g.part (g.atom (p 1 1 1 14) (g.spelled (k.Name (codes "define-syntax") false))) (g.part (g.atom (p 2 2 15 16) (g.spelled (k.Name (codes "x") false))) (g.part (g.list (p 3 7 17 34) (g.part (g.atom (p 4 4 18 30) (g.spelled (k.Name (codes "syntax-rules") false))) (g.part (g.list (p 5 6 31 33) g.none) g.none))) g.none))))) ∷ ((g.atom (p 9 9 36 37) (g.spelled (k.Name (codes "x") false)))) ∷ [])) ∷ []) ≡ ((0, 1) ∷ [])
unfolding base_names standard_libraries prelude encode_utf8
smallest_whether_it_is_a_keyword = refl

pub smallest_the_rules : without_rows Rules (((codes "file:///a.scm"), Some (((g.list (p 0 14 0 43) (g.part (g.atom (p 1 1 1 14) (g.spelled (k.Name (codes "define-syntax") false))) (g.part (g.atom (p 2 2 15 16) (g.spelled (k.Name (codes "m") false))) (g.part (g.list (p 3 13 17 42) (g.part (g.atom (p 4 4 18 30) (g.spelled (k.Name (codes "syntax-rules") false))) (g.part (g.list (p 5 6 31 33) g.none) (g.part (g.list (p 7 12 34 41) (g.part (g.list (p 8 10 35 38) (g.part (g.atom (p 9 9 36 37) (g.spelled (k.Name (codes "_") false))) g.none)) (g.part (g.atom (p 11 11 39 40) (g.spelled (k.Numeral (codes "1")))) g.none))) g.none)))) g.none))))) ∷ ((g.list (p 15 17 44 47) (g.part (g.atom (p 16 16 45 46) (g.spelled (k.Name (codes "m") false))) g.none))) ∷ [])) ∷ []) (((codes "file:///a.scm"), Some (((g.list (p 0 14 0 43) (g.part (g.atom (p 1 1 1 14) (g.spelled (k.Name (codes "define-syntax") false))) (g.part (g.atom (p 2 2 15 16) (g.spelled (k.Name (codes "m") false))) (g.part (g.list (p 3 13 17 42) (g.part (g.atom (p 4 4 18 30) (g.spelled (k.Name (codes "syntax-rules") false))) (g.part (g.list (p 5 6 31 33) g.none) (g.part (g.list (p 7 12 34 41) (g.part (g.list (p 8 10 35 38) (g.part (g.atom (p 9 9 36 37) (g.spelled (k.Name (codes "_") false))) g.none)) (g.part (g.atom (p 11 11 39 40) (g.spelled (k.Numeral (codes "2")))) g.none))) g.none)))) g.none))))) ∷ ((g.list (p 15 17 44 47) (g.part (g.atom (p 16 16 45 46) (g.spelled (k.Name (codes "m") false))) g.none))) ∷ [])) ∷ []) ≡ ((0, 1) ∷ [])
unfolding base_names standard_libraries prelude encode_utf8
smallest_the_rules = refl

pub smallest_a_comparison : without_rows Comparison (((codes "file:///a.scm"), Some (((g.list (p 0 4 0 15) (g.part (g.atom (p 1 1 1 7) (g.spelled (k.Name (codes "define") false))) (g.part (g.atom (p 2 2 8 12) (g.spelled (k.Name (codes "else") false))) (g.part (g.atom (p 3 3 13 14) (g.spelled (k.Numeral (codes "1")))) g.none))))) ∷ ((g.list (p 5 12 16 33) (g.part (g.atom (p 6 6 17 21) (g.spelled (k.Name (codes "case") false))) (g.part (g.atom (p 7 7 22 23) (g.spelled (k.Numeral (codes "1")))) (g.part (g.list (p 8 11 24 32) (g.part (g.atom (p 9 9 25 29) (g.spelled (k.Name (codes "else") false))) (g.part (g.atom (p 10 10 30 31) (g.spelled (k.Numeral (codes "2")))) g.none))) g.none))))) ∷ [])) ∷ []) (((codes "file:///a.scm"), Some (((g.list (p 0 4 0 12) (g.part (g.atom (p 1 1 1 7) (g.spelled (k.Name (codes "define") false))) (g.part (g.atom (p 2 2 8 9) (g.spelled (k.Name (codes "x") false))) (g.part (g.atom (p 3 3 10 11) (g.spelled (k.Numeral (codes "1")))) g.none))))) ∷ ((g.list (p 5 12 13 30) (g.part (g.atom (p 6 6 14 18) (g.spelled (k.Name (codes "case") false))) (g.part (g.atom (p 7 7 19 20) (g.spelled (k.Numeral (codes "1")))) (g.part (g.list (p 8 11 21 29) (g.part (g.atom (p 9 9 22 26) (g.spelled (k.Name (codes "else") false))) (g.part (g.atom (p 10 10 27 28) (g.spelled (k.Numeral (codes "2")))) g.none))) g.none))))) ∷ [])) ∷ []) ≡ ((0, 1) ∷ [])
unfolding base_names standard_libraries prelude encode_utf8
smallest_a_comparison = refl

pub smallest_a_library : without_rows Library (((codes "file:///a.scm"), Some (((g.list (p 0 15 0 40) (g.part (g.atom (p 1 1 1 12) (g.spelled (k.Name (codes "cond-expand") false))) (g.part (g.list (p 2 10 13 30) (g.part (g.list (p 3 8 14 27) (g.part (g.atom (p 4 4 15 22) (g.spelled (k.Name (codes "library") false))) (g.part (g.list (p 5 7 23 26) (g.part (g.atom (p 6 6 24 25) (g.spelled (k.Name (codes "l") false))) g.none)) g.none))) (g.part (g.atom (p 9 9 28 29) (g.spelled (k.Numeral (codes "1")))) g.none))) (g.part (g.list (p 11 14 31 39) (g.part (g.atom (p 12 12 32 36) (g.spelled (k.Name (codes "else") false))) (g.part (g.atom (p 13 13 37 38) (g.spelled (k.Numeral (codes "2")))) g.none))) g.none))))) ∷ [])) ∷ []) (((codes "file:///a.scm"), Some (((g.list (p 0 15 0 40) (g.part (g.atom (p 1 1 1 12) (g.spelled (k.Name (codes "cond-expand") false))) (g.part (g.list (p 2 10 13 30) (g.part (g.list (p 3 8 14 27) (g.part (g.atom (p 4 4 15 22) (g.spelled (k.Name (codes "library") false))) (g.part (g.list (p 5 7 23 26) (g.part (g.atom (p 6 6 24 25) (g.spelled (k.Name (codes "l") false))) g.none)) g.none))) (g.part (g.atom (p 9 9 28 29) (g.spelled (k.Numeral (codes "1")))) g.none))) (g.part (g.list (p 11 14 31 39) (g.part (g.atom (p 12 12 32 36) (g.spelled (k.Name (codes "else") false))) (g.part (g.atom (p 13 13 37 38) (g.spelled (k.Numeral (codes "2")))) g.none))) g.none))))) ∷ [])) ∷ ((codes "file:///l.sld"), Some (((g.list (p 0 5 0 20) (g.part (g.atom (p 1 1 1 15) (g.spelled (k.Name (codes "define-library") false))) (g.part (g.list (p 2 4 16 19) (g.part (g.atom (p 3 3 17 18) (g.spelled (k.Name (codes "l") false))) g.none)) g.none)))) ∷ [])) ∷ []) ≡ ((0, 0) ∷ [])
unfolding base_names standard_libraries prelude encode_utf8
smallest_a_library = refl

pub smallest_how_a_definition_ends : without_rows Outcome (((codes "file:///a.scm"), Some (((g.list (p 0 2 0 6) (g.part (g.atom (p 1 1 1 5) (g.spelled (k.Name (codes "list") false))) g.none))) ∷ ((g.list (p 3 7 7 20) (g.part (g.atom (p 4 4 8 14) (g.spelled (k.Name (codes "define") false))) (g.part (g.atom (p 5 5 15 17) (g.spelled (k.Name (codes "if") false))) (g.part (g.atom (p 6 6 18 19) (g.spelled (k.Numeral (codes "1")))) g.none))))) ∷ [])) ∷ []) (((codes "file:///a.scm"), Some (((g.list (p 0 4 0 8) (g.part (g.atom (p 1 1 1 3) (g.spelled (k.Name (codes "if") false))) (g.part (g.atom (p 2 2 4 5) (g.spelled (k.Numeral (codes "1")))) (g.part (g.atom (p 3 3 6 7) (g.spelled (k.Numeral (codes "2")))) g.none))))) ∷ ((g.list (p 5 9 9 22) (g.part (g.atom (p 6 6 10 16) (g.spelled (k.Name (codes "define") false))) (g.part (g.atom (p 7 7 17 19) (g.spelled (k.Name (codes "if") false))) (g.part (g.atom (p 8 8 20 21) (g.spelled (k.Numeral (codes "1")))) g.none))))) ∷ [])) ∷ []) ≡ ((0, 1) ∷ [])
unfolding base_names standard_libraries prelude encode_utf8
smallest_how_a_definition_ends = refl

pub smallest_whether_a_definition_is_an_assignment : without_rows Assignment (((codes "file:///a.scm"), Some (((g.list (p 0 23 0 66) (g.part (g.atom (p 1 1 1 6) (g.spelled (k.Name (codes "begin") false))) (g.part (g.list (p 2 17 7 52) (g.part (g.atom (p 3 3 8 21) (g.spelled (k.Name (codes "define-syntax") false))) (g.part (g.atom (p 4 4 22 23) (g.spelled (k.Name (codes "q") false))) (g.part (g.list (p 5 16 24 51) (g.part (g.atom (p 6 6 25 37) (g.spelled (k.Name (codes "syntax-rules") false))) (g.part (g.list (p 7 8 38 40) g.none) (g.part (g.list (p 9 15 41 50) (g.part (g.list (p 10 13 42 47) (g.part (g.atom (p 11 11 43 44) (g.spelled (k.Name (codes "_") false))) (g.part (g.atom (p 12 12 45 46) (g.spelled (k.Name (codes "a") false))) g.none))) (g.part (g.atom (p 14 14 48 49) (g.spelled (k.Numeral (codes "1")))) g.none))) g.none)))) g.none)))) (g.part (g.list (p 18 22 53 65) (g.part (g.atom (p 19 19 54 60) (g.spelled (k.Name (codes "define") false))) (g.part (g.atom (p 20 20 61 62) (g.spelled (k.Name (codes "x") false))) (g.part (g.atom (p 21 21 63 64) (g.spelled (k.Numeral (codes "1")))) g.none)))) g.none))))) ∷ ((g.list (p 24 28 67 79) (g.part (g.atom (p 25 25 68 74) (g.spelled (k.Name (codes "define") false))) (g.part (g.atom (p 26 26 75 76) (g.spelled (k.Name (codes "x") false))) (g.part (g.atom (p 27 27 77 78) (g.spelled (k.Numeral (codes "2")))) g.none))))) ∷ ((g.list (p 29 32 80 85) (g.part (g.atom (p 30 30 81 82) (g.spelled (k.Name (codes "q") false))) (g.part (g.atom (p 31 31 83 84) (g.spelled (k.Name (codes "x") false))) g.none)))) ∷ [])) ∷ []) (((codes "file:///a.scm"), Some (((g.list (p 0 19 0 56) (g.part (g.atom (p 1 1 1 14) (g.spelled (k.Name (codes "define-syntax") false))) (g.part (g.atom (p 2 2 15 16) (g.spelled (k.Name (codes "q") false))) (g.part (g.list (p 3 18 17 55) (g.part (g.atom (p 4 4 18 30) (g.spelled (k.Name (codes "syntax-rules") false))) (g.part (g.list (p 5 6 31 33) g.none) (g.part (g.list (p 7 17 34 54) (g.part (g.list (p 8 11 35 40) (g.part (g.atom (p 9 9 36 37) (g.spelled (k.Name (codes "_") false))) (g.part (g.atom (p 10 10 38 39) (g.spelled (k.Name (codes "a") false))) g.none))) (g.part (g.list (p 12 16 41 53) (g.part (g.atom (p 13 13 42 48) (g.spelled (k.Name (codes "define") false))) (g.part (g.atom (p 14 14 49 50) (g.spelled (k.Name (codes "a") false))) (g.part (g.atom (p 15 15 51 52) (g.spelled (k.Numeral (codes "1")))) g.none)))) g.none))) g.none)))) g.none))))) ∷ ((g.list (p 20 24 57 69) (g.part (g.atom (p 21 21 58 64) (g.spelled (k.Name (codes "define") false))) (g.part (g.atom (p 22 22 65 66) (g.spelled (k.Name (codes "x") false))) (g.part (g.atom (p 23 23 67 68) (g.spelled (k.Numeral (codes "2")))) g.none))))) ∷ ((g.list (p 25 28 70 75) (g.part (g.atom (p 26 26 71 72) (g.spelled (k.Name (codes "q") false))) (g.part (g.atom (p 27 27 73 74) (g.spelled (k.Name (codes "x") false))) g.none)))) ∷ [])) ∷ []) ≡ ((0, 1) ∷ [])
unfolding base_names standard_libraries prelude encode_utf8
smallest_whether_a_definition_is_an_assignment = refl
