-- Open documents, and what is answered about a place in one of them, from outside.
-- Written by tests/definitions/rows; each row is checked by computing it.
use Rattle.std.specs.Prelude.{◌≡◌, ℕ, true, false, [], ◌∷◌, Some, None, codes, refl}
use Rattle.scheme_model.specs.StandardNames.{base_names}
use Rattle.scheme_model.proofs.Shown.{answer_rows}
use Rattle.std.specs.Char.{encode_utf8}
use Rattle.scheme_model.specs.StandardLibraries.{standard_libraries}
use Rattle.scheme_model.specs.Prelude.{prelude}
use Rattle.scheme_model.specs.Kinds as k
use Rattle.scheme_model.specs.Data as g
use Rattle.scheme_model.specs.Diagnostics.{Span, Bytes}
use Rattle.scheme_model.specs.Session.{Definition, References, Highlights, Prepare, Arrows}
use Rattle.scheme_model.specs.Answers.{Nothing, Places, Lit, Prepared, Drawn}
use Rattle.std.specs.Prelude.{true, false}

abbrev s : ℕ → ℕ → Span
s start end = record { start = start; end = end }

abbrev p : ℕ → ℕ → ℕ → ℕ → g.Place
p first last start end = record { first = first; last = last; start = start; end = end }

abbrev b : ℕ → ℕ → ℕ → Bytes
b document start end = record { document = document; span = record { start = start; end = end } }

pub renamed-import-definition : answer_rows (((s 0 1) ∷ (s 1 7) ∷ (s 8 9) ∷ (s 9 15) ∷ (s 16 20) ∷ (s 20 21) ∷ (s 22 23) ∷ (s 23 29) ∷ (s 30 31) ∷ (s 31 36) ∷ (s 36 37) ∷ (s 38 39) ∷ (s 39 43) ∷ (s 44 47) ∷ (s 47 48) ∷ (s 48 49) ∷ (s 49 50) ∷ (s 51 52) ∷ (s 52 55) ∷ (s 56 57) ∷ (s 58 59) ∷ (s 59 60) ∷ (s 60 61) ∷ (s 61 62) ∷ []) ∷ ((s 0 1) ∷ (s 1 15) ∷ (s 16 17) ∷ (s 17 22) ∷ (s 22 23) ∷ (s 24 25) ∷ (s 25 31) ∷ (s 32 36) ∷ (s 36 37) ∷ (s 38 39) ∷ (s 39 45) ∷ (s 46 47) ∷ (s 47 53) ∷ (s 54 58) ∷ (s 58 59) ∷ (s 59 60) ∷ (s 61 62) ∷ (s 62 67) ∷ (s 68 69) ∷ (s 69 75) ∷ (s 76 77) ∷ (s 77 81) ∷ (s 82 83) ∷ (s 84 85) ∷ (s 85 86) ∷ (s 87 88) ∷ (s 88 92) ∷ (s 93 94) ∷ (s 95 96) ∷ (s 96 97) ∷ (s 97 98) ∷ (s 98 99) ∷ (s 99 100) ∷ []) ∷ []) ((Some (((g.list (p 0 16 0 50) (g.part (g.atom (p 1 1 1 7) (g.spelled (k.Name (codes "import") false))) (g.part (g.list (p 2 5 8 21) (g.part (g.atom (p 3 3 9 15) (g.spelled (k.Name (codes "scheme") false))) (g.part (g.atom (p 4 4 16 20) (g.spelled (k.Name (codes "base") false))) g.none))) (g.part (g.list (p 6 15 22 49) (g.part (g.atom (p 7 7 23 29) (g.spelled (k.Name (codes "rename") false))) (g.part (g.list (p 8 10 30 37) (g.part (g.atom (p 9 9 31 36) (g.spelled (k.Name (codes "stack") false))) g.none)) (g.part (g.list (p 11 14 38 48) (g.part (g.atom (p 12 12 39 43) (g.spelled (k.Name (codes "push") false))) (g.part (g.atom (p 13 13 44 47) (g.spelled (k.Name (codes "add") false))) g.none))) g.none)))) g.none))))) ∷ ((g.list (p 17 23 51 62) (g.part (g.atom (p 18 18 52 55) (g.spelled (k.Name (codes "add") false))) (g.part (g.atom (p 19 19 56 57) (g.spelled (k.Numeral (codes "1")))) (g.part (g.list (p 20 22 58 61) (g.part (g.atom (p 20 20 58 59) (g.implied k.Quote)) (g.part (g.list (p 21 22 59 61) g.none) g.none))) g.none))))) ∷ [])) ∷ (Some (((g.list (p 0 32 0 100) (g.part (g.atom (p 1 1 1 15) (g.spelled (k.Name (codes "define-library") false))) (g.part (g.list (p 2 4 16 23) (g.part (g.atom (p 3 3 17 22) (g.spelled (k.Name (codes "stack") false))) g.none)) (g.part (g.list (p 5 8 24 37) (g.part (g.atom (p 6 6 25 31) (g.spelled (k.Name (codes "export") false))) (g.part (g.atom (p 7 7 32 36) (g.spelled (k.Name (codes "push") false))) g.none))) (g.part (g.list (p 9 15 38 60) (g.part (g.atom (p 10 10 39 45) (g.spelled (k.Name (codes "import") false))) (g.part (g.list (p 11 14 46 59) (g.part (g.atom (p 12 12 47 53) (g.spelled (k.Name (codes "scheme") false))) (g.part (g.atom (p 13 13 54 58) (g.spelled (k.Name (codes "base") false))) g.none))) g.none))) (g.part (g.list (p 16 31 61 99) (g.part (g.atom (p 17 17 62 67) (g.spelled (k.Name (codes "begin") false))) (g.part (g.list (p 18 30 68 98) (g.part (g.atom (p 19 19 69 75) (g.spelled (k.Name (codes "define") false))) (g.part (g.list (p 20 24 76 86) (g.part (g.atom (p 21 21 77 81) (g.spelled (k.Name (codes "push") false))) (g.part (g.atom (p 22 22 82 83) (g.spelled (k.Name (codes "x") false))) (g.part (g.atom (p 23 23 84 85) (g.spelled (k.Name (codes "s") false))) g.none)))) (g.part (g.list (p 25 29 87 97) (g.part (g.atom (p 26 26 88 92) (g.spelled (k.Name (codes "cons") false))) (g.part (g.atom (p 27 27 93 94) (g.spelled (k.Name (codes "x") false))) (g.part (g.atom (p 28 28 95 96) (g.spelled (k.Name (codes "s") false))) g.none)))) g.none)))) g.none))) g.none))))))) ∷ [])) ∷ []) 0 52 Definition ≡ Places (((b 1 77 81)) ∷ [])
unfolding base_names standard_libraries prelude encode_utf8
renamed-import-definition = refl

pub prefixed-import-definition : answer_rows (((s 0 1) ∷ (s 1 7) ∷ (s 8 9) ∷ (s 9 15) ∷ (s 16 20) ∷ (s 20 21) ∷ (s 22 23) ∷ (s 23 29) ∷ (s 30 31) ∷ (s 31 36) ∷ (s 36 37) ∷ (s 38 40) ∷ (s 40 41) ∷ (s 41 42) ∷ (s 43 44) ∷ (s 44 50) ∷ (s 51 52) ∷ (s 53 54) ∷ (s 54 55) ∷ (s 55 56) ∷ (s 56 57) ∷ []) ∷ ((s 0 1) ∷ (s 1 15) ∷ (s 16 17) ∷ (s 17 22) ∷ (s 22 23) ∷ (s 24 25) ∷ (s 25 31) ∷ (s 32 36) ∷ (s 36 37) ∷ (s 38 39) ∷ (s 39 45) ∷ (s 46 47) ∷ (s 47 53) ∷ (s 54 58) ∷ (s 58 59) ∷ (s 59 60) ∷ (s 61 62) ∷ (s 62 67) ∷ (s 68 69) ∷ (s 69 75) ∷ (s 76 77) ∷ (s 77 81) ∷ (s 82 83) ∷ (s 84 85) ∷ (s 85 86) ∷ (s 87 88) ∷ (s 88 92) ∷ (s 93 94) ∷ (s 95 96) ∷ (s 96 97) ∷ (s 97 98) ∷ (s 98 99) ∷ (s 99 100) ∷ []) ∷ []) ((Some (((g.list (p 0 13 0 42) (g.part (g.atom (p 1 1 1 7) (g.spelled (k.Name (codes "import") false))) (g.part (g.list (p 2 5 8 21) (g.part (g.atom (p 3 3 9 15) (g.spelled (k.Name (codes "scheme") false))) (g.part (g.atom (p 4 4 16 20) (g.spelled (k.Name (codes "base") false))) g.none))) (g.part (g.list (p 6 12 22 41) (g.part (g.atom (p 7 7 23 29) (g.spelled (k.Name (codes "prefix") false))) (g.part (g.list (p 8 10 30 37) (g.part (g.atom (p 9 9 31 36) (g.spelled (k.Name (codes "stack") false))) g.none)) (g.part (g.atom (p 11 11 38 40) (g.spelled (k.Name (codes "s:") false))) g.none)))) g.none))))) ∷ ((g.list (p 14 20 43 57) (g.part (g.atom (p 15 15 44 50) (g.spelled (k.Name (codes "s:push") false))) (g.part (g.atom (p 16 16 51 52) (g.spelled (k.Numeral (codes "1")))) (g.part (g.list (p 17 19 53 56) (g.part (g.atom (p 17 17 53 54) (g.implied k.Quote)) (g.part (g.list (p 18 19 54 56) g.none) g.none))) g.none))))) ∷ [])) ∷ (Some (((g.list (p 0 32 0 100) (g.part (g.atom (p 1 1 1 15) (g.spelled (k.Name (codes "define-library") false))) (g.part (g.list (p 2 4 16 23) (g.part (g.atom (p 3 3 17 22) (g.spelled (k.Name (codes "stack") false))) g.none)) (g.part (g.list (p 5 8 24 37) (g.part (g.atom (p 6 6 25 31) (g.spelled (k.Name (codes "export") false))) (g.part (g.atom (p 7 7 32 36) (g.spelled (k.Name (codes "push") false))) g.none))) (g.part (g.list (p 9 15 38 60) (g.part (g.atom (p 10 10 39 45) (g.spelled (k.Name (codes "import") false))) (g.part (g.list (p 11 14 46 59) (g.part (g.atom (p 12 12 47 53) (g.spelled (k.Name (codes "scheme") false))) (g.part (g.atom (p 13 13 54 58) (g.spelled (k.Name (codes "base") false))) g.none))) g.none))) (g.part (g.list (p 16 31 61 99) (g.part (g.atom (p 17 17 62 67) (g.spelled (k.Name (codes "begin") false))) (g.part (g.list (p 18 30 68 98) (g.part (g.atom (p 19 19 69 75) (g.spelled (k.Name (codes "define") false))) (g.part (g.list (p 20 24 76 86) (g.part (g.atom (p 21 21 77 81) (g.spelled (k.Name (codes "push") false))) (g.part (g.atom (p 22 22 82 83) (g.spelled (k.Name (codes "x") false))) (g.part (g.atom (p 23 23 84 85) (g.spelled (k.Name (codes "s") false))) g.none)))) (g.part (g.list (p 25 29 87 97) (g.part (g.atom (p 26 26 88 92) (g.spelled (k.Name (codes "cons") false))) (g.part (g.atom (p 27 27 93 94) (g.spelled (k.Name (codes "x") false))) (g.part (g.atom (p 28 28 95 96) (g.spelled (k.Name (codes "s") false))) g.none)))) g.none)))) g.none))) g.none))))))) ∷ [])) ∷ []) 0 46 Definition ≡ Places (((b 1 77 81)) ∷ [])
unfolding base_names standard_libraries prelude encode_utf8
prefixed-import-definition = refl

pub prefixed-import-references : answer_rows (((s 0 1) ∷ (s 1 7) ∷ (s 8 9) ∷ (s 9 15) ∷ (s 16 20) ∷ (s 20 21) ∷ (s 22 23) ∷ (s 23 29) ∷ (s 30 31) ∷ (s 31 36) ∷ (s 36 37) ∷ (s 38 40) ∷ (s 40 41) ∷ (s 41 42) ∷ (s 43 44) ∷ (s 44 50) ∷ (s 51 52) ∷ (s 53 54) ∷ (s 54 55) ∷ (s 55 56) ∷ (s 56 57) ∷ []) ∷ ((s 0 1) ∷ (s 1 15) ∷ (s 16 17) ∷ (s 17 22) ∷ (s 22 23) ∷ (s 24 25) ∷ (s 25 31) ∷ (s 32 36) ∷ (s 36 37) ∷ (s 38 39) ∷ (s 39 45) ∷ (s 46 47) ∷ (s 47 53) ∷ (s 54 58) ∷ (s 58 59) ∷ (s 59 60) ∷ (s 61 62) ∷ (s 62 67) ∷ (s 68 69) ∷ (s 69 75) ∷ (s 76 77) ∷ (s 77 81) ∷ (s 82 83) ∷ (s 84 85) ∷ (s 85 86) ∷ (s 87 88) ∷ (s 88 92) ∷ (s 93 94) ∷ (s 95 96) ∷ (s 96 97) ∷ (s 97 98) ∷ (s 98 99) ∷ (s 99 100) ∷ []) ∷ []) ((Some (((g.list (p 0 13 0 42) (g.part (g.atom (p 1 1 1 7) (g.spelled (k.Name (codes "import") false))) (g.part (g.list (p 2 5 8 21) (g.part (g.atom (p 3 3 9 15) (g.spelled (k.Name (codes "scheme") false))) (g.part (g.atom (p 4 4 16 20) (g.spelled (k.Name (codes "base") false))) g.none))) (g.part (g.list (p 6 12 22 41) (g.part (g.atom (p 7 7 23 29) (g.spelled (k.Name (codes "prefix") false))) (g.part (g.list (p 8 10 30 37) (g.part (g.atom (p 9 9 31 36) (g.spelled (k.Name (codes "stack") false))) g.none)) (g.part (g.atom (p 11 11 38 40) (g.spelled (k.Name (codes "s:") false))) g.none)))) g.none))))) ∷ ((g.list (p 14 20 43 57) (g.part (g.atom (p 15 15 44 50) (g.spelled (k.Name (codes "s:push") false))) (g.part (g.atom (p 16 16 51 52) (g.spelled (k.Numeral (codes "1")))) (g.part (g.list (p 17 19 53 56) (g.part (g.atom (p 17 17 53 54) (g.implied k.Quote)) (g.part (g.list (p 18 19 54 56) g.none) g.none))) g.none))))) ∷ [])) ∷ (Some (((g.list (p 0 32 0 100) (g.part (g.atom (p 1 1 1 15) (g.spelled (k.Name (codes "define-library") false))) (g.part (g.list (p 2 4 16 23) (g.part (g.atom (p 3 3 17 22) (g.spelled (k.Name (codes "stack") false))) g.none)) (g.part (g.list (p 5 8 24 37) (g.part (g.atom (p 6 6 25 31) (g.spelled (k.Name (codes "export") false))) (g.part (g.atom (p 7 7 32 36) (g.spelled (k.Name (codes "push") false))) g.none))) (g.part (g.list (p 9 15 38 60) (g.part (g.atom (p 10 10 39 45) (g.spelled (k.Name (codes "import") false))) (g.part (g.list (p 11 14 46 59) (g.part (g.atom (p 12 12 47 53) (g.spelled (k.Name (codes "scheme") false))) (g.part (g.atom (p 13 13 54 58) (g.spelled (k.Name (codes "base") false))) g.none))) g.none))) (g.part (g.list (p 16 31 61 99) (g.part (g.atom (p 17 17 62 67) (g.spelled (k.Name (codes "begin") false))) (g.part (g.list (p 18 30 68 98) (g.part (g.atom (p 19 19 69 75) (g.spelled (k.Name (codes "define") false))) (g.part (g.list (p 20 24 76 86) (g.part (g.atom (p 21 21 77 81) (g.spelled (k.Name (codes "push") false))) (g.part (g.atom (p 22 22 82 83) (g.spelled (k.Name (codes "x") false))) (g.part (g.atom (p 23 23 84 85) (g.spelled (k.Name (codes "s") false))) g.none)))) (g.part (g.list (p 25 29 87 97) (g.part (g.atom (p 26 26 88 92) (g.spelled (k.Name (codes "cons") false))) (g.part (g.atom (p 27 27 93 94) (g.spelled (k.Name (codes "x") false))) (g.part (g.atom (p 28 28 95 96) (g.spelled (k.Name (codes "s") false))) g.none)))) g.none)))) g.none))) g.none))))))) ∷ [])) ∷ []) 1 77 (References true) ≡ Places (((b 0 44 50)) ∷ ((b 1 32 36)) ∷ ((b 1 77 81)) ∷ [])
unfolding base_names standard_libraries prelude encode_utf8
prefixed-import-references = refl

pub prefixed-import-prepare : answer_rows (((s 0 1) ∷ (s 1 7) ∷ (s 8 9) ∷ (s 9 15) ∷ (s 16 20) ∷ (s 20 21) ∷ (s 22 23) ∷ (s 23 29) ∷ (s 30 31) ∷ (s 31 36) ∷ (s 36 37) ∷ (s 38 40) ∷ (s 40 41) ∷ (s 41 42) ∷ (s 43 44) ∷ (s 44 50) ∷ (s 51 52) ∷ (s 53 54) ∷ (s 54 55) ∷ (s 55 56) ∷ (s 56 57) ∷ []) ∷ ((s 0 1) ∷ (s 1 15) ∷ (s 16 17) ∷ (s 17 22) ∷ (s 22 23) ∷ (s 24 25) ∷ (s 25 31) ∷ (s 32 36) ∷ (s 36 37) ∷ (s 38 39) ∷ (s 39 45) ∷ (s 46 47) ∷ (s 47 53) ∷ (s 54 58) ∷ (s 58 59) ∷ (s 59 60) ∷ (s 61 62) ∷ (s 62 67) ∷ (s 68 69) ∷ (s 69 75) ∷ (s 76 77) ∷ (s 77 81) ∷ (s 82 83) ∷ (s 84 85) ∷ (s 85 86) ∷ (s 87 88) ∷ (s 88 92) ∷ (s 93 94) ∷ (s 95 96) ∷ (s 96 97) ∷ (s 97 98) ∷ (s 98 99) ∷ (s 99 100) ∷ []) ∷ []) ((Some (((g.list (p 0 13 0 42) (g.part (g.atom (p 1 1 1 7) (g.spelled (k.Name (codes "import") false))) (g.part (g.list (p 2 5 8 21) (g.part (g.atom (p 3 3 9 15) (g.spelled (k.Name (codes "scheme") false))) (g.part (g.atom (p 4 4 16 20) (g.spelled (k.Name (codes "base") false))) g.none))) (g.part (g.list (p 6 12 22 41) (g.part (g.atom (p 7 7 23 29) (g.spelled (k.Name (codes "prefix") false))) (g.part (g.list (p 8 10 30 37) (g.part (g.atom (p 9 9 31 36) (g.spelled (k.Name (codes "stack") false))) g.none)) (g.part (g.atom (p 11 11 38 40) (g.spelled (k.Name (codes "s:") false))) g.none)))) g.none))))) ∷ ((g.list (p 14 20 43 57) (g.part (g.atom (p 15 15 44 50) (g.spelled (k.Name (codes "s:push") false))) (g.part (g.atom (p 16 16 51 52) (g.spelled (k.Numeral (codes "1")))) (g.part (g.list (p 17 19 53 56) (g.part (g.atom (p 17 17 53 54) (g.implied k.Quote)) (g.part (g.list (p 18 19 54 56) g.none) g.none))) g.none))))) ∷ [])) ∷ (Some (((g.list (p 0 32 0 100) (g.part (g.atom (p 1 1 1 15) (g.spelled (k.Name (codes "define-library") false))) (g.part (g.list (p 2 4 16 23) (g.part (g.atom (p 3 3 17 22) (g.spelled (k.Name (codes "stack") false))) g.none)) (g.part (g.list (p 5 8 24 37) (g.part (g.atom (p 6 6 25 31) (g.spelled (k.Name (codes "export") false))) (g.part (g.atom (p 7 7 32 36) (g.spelled (k.Name (codes "push") false))) g.none))) (g.part (g.list (p 9 15 38 60) (g.part (g.atom (p 10 10 39 45) (g.spelled (k.Name (codes "import") false))) (g.part (g.list (p 11 14 46 59) (g.part (g.atom (p 12 12 47 53) (g.spelled (k.Name (codes "scheme") false))) (g.part (g.atom (p 13 13 54 58) (g.spelled (k.Name (codes "base") false))) g.none))) g.none))) (g.part (g.list (p 16 31 61 99) (g.part (g.atom (p 17 17 62 67) (g.spelled (k.Name (codes "begin") false))) (g.part (g.list (p 18 30 68 98) (g.part (g.atom (p 19 19 69 75) (g.spelled (k.Name (codes "define") false))) (g.part (g.list (p 20 24 76 86) (g.part (g.atom (p 21 21 77 81) (g.spelled (k.Name (codes "push") false))) (g.part (g.atom (p 22 22 82 83) (g.spelled (k.Name (codes "x") false))) (g.part (g.atom (p 23 23 84 85) (g.spelled (k.Name (codes "s") false))) g.none)))) (g.part (g.list (p 25 29 87 97) (g.part (g.atom (p 26 26 88 92) (g.spelled (k.Name (codes "cons") false))) (g.part (g.atom (p 27 27 93 94) (g.spelled (k.Name (codes "x") false))) (g.part (g.atom (p 28 28 95 96) (g.spelled (k.Name (codes "s") false))) g.none)))) g.none)))) g.none))) g.none))))))) ∷ [])) ∷ []) 0 50 Prepare ≡ Prepared (b 0 44 50)
unfolding base_names standard_libraries prelude encode_utf8
prefixed-import-prepare = refl

pub prefixed-import-arrows : answer_rows (((s 0 1) ∷ (s 1 7) ∷ (s 8 9) ∷ (s 9 15) ∷ (s 16 20) ∷ (s 20 21) ∷ (s 22 23) ∷ (s 23 29) ∷ (s 30 31) ∷ (s 31 36) ∷ (s 36 37) ∷ (s 38 40) ∷ (s 40 41) ∷ (s 41 42) ∷ (s 43 44) ∷ (s 44 50) ∷ (s 51 52) ∷ (s 53 54) ∷ (s 54 55) ∷ (s 55 56) ∷ (s 56 57) ∷ []) ∷ ((s 0 1) ∷ (s 1 15) ∷ (s 16 17) ∷ (s 17 22) ∷ (s 22 23) ∷ (s 24 25) ∷ (s 25 31) ∷ (s 32 36) ∷ (s 36 37) ∷ (s 38 39) ∷ (s 39 45) ∷ (s 46 47) ∷ (s 47 53) ∷ (s 54 58) ∷ (s 58 59) ∷ (s 59 60) ∷ (s 61 62) ∷ (s 62 67) ∷ (s 68 69) ∷ (s 69 75) ∷ (s 76 77) ∷ (s 77 81) ∷ (s 82 83) ∷ (s 84 85) ∷ (s 85 86) ∷ (s 87 88) ∷ (s 88 92) ∷ (s 93 94) ∷ (s 95 96) ∷ (s 96 97) ∷ (s 97 98) ∷ (s 98 99) ∷ (s 99 100) ∷ []) ∷ []) ((Some (((g.list (p 0 13 0 42) (g.part (g.atom (p 1 1 1 7) (g.spelled (k.Name (codes "import") false))) (g.part (g.list (p 2 5 8 21) (g.part (g.atom (p 3 3 9 15) (g.spelled (k.Name (codes "scheme") false))) (g.part (g.atom (p 4 4 16 20) (g.spelled (k.Name (codes "base") false))) g.none))) (g.part (g.list (p 6 12 22 41) (g.part (g.atom (p 7 7 23 29) (g.spelled (k.Name (codes "prefix") false))) (g.part (g.list (p 8 10 30 37) (g.part (g.atom (p 9 9 31 36) (g.spelled (k.Name (codes "stack") false))) g.none)) (g.part (g.atom (p 11 11 38 40) (g.spelled (k.Name (codes "s:") false))) g.none)))) g.none))))) ∷ ((g.list (p 14 20 43 57) (g.part (g.atom (p 15 15 44 50) (g.spelled (k.Name (codes "s:push") false))) (g.part (g.atom (p 16 16 51 52) (g.spelled (k.Numeral (codes "1")))) (g.part (g.list (p 17 19 53 56) (g.part (g.atom (p 17 17 53 54) (g.implied k.Quote)) (g.part (g.list (p 18 19 54 56) g.none) g.none))) g.none))))) ∷ [])) ∷ (Some (((g.list (p 0 32 0 100) (g.part (g.atom (p 1 1 1 15) (g.spelled (k.Name (codes "define-library") false))) (g.part (g.list (p 2 4 16 23) (g.part (g.atom (p 3 3 17 22) (g.spelled (k.Name (codes "stack") false))) g.none)) (g.part (g.list (p 5 8 24 37) (g.part (g.atom (p 6 6 25 31) (g.spelled (k.Name (codes "export") false))) (g.part (g.atom (p 7 7 32 36) (g.spelled (k.Name (codes "push") false))) g.none))) (g.part (g.list (p 9 15 38 60) (g.part (g.atom (p 10 10 39 45) (g.spelled (k.Name (codes "import") false))) (g.part (g.list (p 11 14 46 59) (g.part (g.atom (p 12 12 47 53) (g.spelled (k.Name (codes "scheme") false))) (g.part (g.atom (p 13 13 54 58) (g.spelled (k.Name (codes "base") false))) g.none))) g.none))) (g.part (g.list (p 16 31 61 99) (g.part (g.atom (p 17 17 62 67) (g.spelled (k.Name (codes "begin") false))) (g.part (g.list (p 18 30 68 98) (g.part (g.atom (p 19 19 69 75) (g.spelled (k.Name (codes "define") false))) (g.part (g.list (p 20 24 76 86) (g.part (g.atom (p 21 21 77 81) (g.spelled (k.Name (codes "push") false))) (g.part (g.atom (p 22 22 82 83) (g.spelled (k.Name (codes "x") false))) (g.part (g.atom (p 23 23 84 85) (g.spelled (k.Name (codes "s") false))) g.none)))) (g.part (g.list (p 25 29 87 97) (g.part (g.atom (p 26 26 88 92) (g.spelled (k.Name (codes "cons") false))) (g.part (g.atom (p 27 27 93 94) (g.spelled (k.Name (codes "x") false))) (g.part (g.atom (p 28 28 95 96) (g.spelled (k.Name (codes "s") false))) g.none)))) g.none)))) g.none))) g.none))))))) ∷ [])) ∷ []) 0 0 Arrows ≡ Drawn (((b 1 77 81, b 0 44 50)) ∷ [])
unfolding base_names standard_libraries prelude encode_utf8
prefixed-import-arrows = refl

pub export-highlights : answer_rows (((s 0 1) ∷ (s 1 7) ∷ (s 8 9) ∷ (s 9 15) ∷ (s 16 20) ∷ (s 20 21) ∷ (s 22 23) ∷ (s 23 29) ∷ (s 30 31) ∷ (s 31 36) ∷ (s 36 37) ∷ (s 38 40) ∷ (s 40 41) ∷ (s 41 42) ∷ (s 43 44) ∷ (s 44 50) ∷ (s 51 52) ∷ (s 53 54) ∷ (s 54 55) ∷ (s 55 56) ∷ (s 56 57) ∷ []) ∷ ((s 0 1) ∷ (s 1 15) ∷ (s 16 17) ∷ (s 17 22) ∷ (s 22 23) ∷ (s 24 25) ∷ (s 25 31) ∷ (s 32 36) ∷ (s 36 37) ∷ (s 38 39) ∷ (s 39 45) ∷ (s 46 47) ∷ (s 47 53) ∷ (s 54 58) ∷ (s 58 59) ∷ (s 59 60) ∷ (s 61 62) ∷ (s 62 67) ∷ (s 68 69) ∷ (s 69 75) ∷ (s 76 77) ∷ (s 77 81) ∷ (s 82 83) ∷ (s 84 85) ∷ (s 85 86) ∷ (s 87 88) ∷ (s 88 92) ∷ (s 93 94) ∷ (s 95 96) ∷ (s 96 97) ∷ (s 97 98) ∷ (s 98 99) ∷ (s 99 100) ∷ []) ∷ []) ((Some (((g.list (p 0 13 0 42) (g.part (g.atom (p 1 1 1 7) (g.spelled (k.Name (codes "import") false))) (g.part (g.list (p 2 5 8 21) (g.part (g.atom (p 3 3 9 15) (g.spelled (k.Name (codes "scheme") false))) (g.part (g.atom (p 4 4 16 20) (g.spelled (k.Name (codes "base") false))) g.none))) (g.part (g.list (p 6 12 22 41) (g.part (g.atom (p 7 7 23 29) (g.spelled (k.Name (codes "prefix") false))) (g.part (g.list (p 8 10 30 37) (g.part (g.atom (p 9 9 31 36) (g.spelled (k.Name (codes "stack") false))) g.none)) (g.part (g.atom (p 11 11 38 40) (g.spelled (k.Name (codes "s:") false))) g.none)))) g.none))))) ∷ ((g.list (p 14 20 43 57) (g.part (g.atom (p 15 15 44 50) (g.spelled (k.Name (codes "s:push") false))) (g.part (g.atom (p 16 16 51 52) (g.spelled (k.Numeral (codes "1")))) (g.part (g.list (p 17 19 53 56) (g.part (g.atom (p 17 17 53 54) (g.implied k.Quote)) (g.part (g.list (p 18 19 54 56) g.none) g.none))) g.none))))) ∷ [])) ∷ (Some (((g.list (p 0 32 0 100) (g.part (g.atom (p 1 1 1 15) (g.spelled (k.Name (codes "define-library") false))) (g.part (g.list (p 2 4 16 23) (g.part (g.atom (p 3 3 17 22) (g.spelled (k.Name (codes "stack") false))) g.none)) (g.part (g.list (p 5 8 24 37) (g.part (g.atom (p 6 6 25 31) (g.spelled (k.Name (codes "export") false))) (g.part (g.atom (p 7 7 32 36) (g.spelled (k.Name (codes "push") false))) g.none))) (g.part (g.list (p 9 15 38 60) (g.part (g.atom (p 10 10 39 45) (g.spelled (k.Name (codes "import") false))) (g.part (g.list (p 11 14 46 59) (g.part (g.atom (p 12 12 47 53) (g.spelled (k.Name (codes "scheme") false))) (g.part (g.atom (p 13 13 54 58) (g.spelled (k.Name (codes "base") false))) g.none))) g.none))) (g.part (g.list (p 16 31 61 99) (g.part (g.atom (p 17 17 62 67) (g.spelled (k.Name (codes "begin") false))) (g.part (g.list (p 18 30 68 98) (g.part (g.atom (p 19 19 69 75) (g.spelled (k.Name (codes "define") false))) (g.part (g.list (p 20 24 76 86) (g.part (g.atom (p 21 21 77 81) (g.spelled (k.Name (codes "push") false))) (g.part (g.atom (p 22 22 82 83) (g.spelled (k.Name (codes "x") false))) (g.part (g.atom (p 23 23 84 85) (g.spelled (k.Name (codes "s") false))) g.none)))) (g.part (g.list (p 25 29 87 97) (g.part (g.atom (p 26 26 88 92) (g.spelled (k.Name (codes "cons") false))) (g.part (g.atom (p 27 27 93 94) (g.spelled (k.Name (codes "x") false))) (g.part (g.atom (p 28 28 95 96) (g.spelled (k.Name (codes "s") false))) g.none)))) g.none)))) g.none))) g.none))))))) ∷ [])) ∷ []) 1 33 Highlights ≡ Lit (((b 1 32 36, 1)) ∷ ((b 1 77 81, 3)) ∷ [])
unfolding base_names standard_libraries prelude encode_utf8
export-highlights = refl

pub assigned-highlights : answer_rows (((s 0 1) ∷ (s 1 7) ∷ (s 8 9) ∷ (s 9 10) ∷ (s 11 12) ∷ (s 12 13) ∷ (s 14 15) ∷ (s 15 19) ∷ (s 20 21) ∷ (s 22 23) ∷ (s 23 24) ∷ (s 25 26) ∷ (s 26 30) ∷ (s 31 32) ∷ (s 32 33) ∷ (s 33 34) ∷ []) ∷ []) ((Some (((g.list (p 0 15 0 34) (g.part (g.atom (p 1 1 1 7) (g.spelled (k.Name (codes "define") false))) (g.part (g.list (p 2 5 8 13) (g.part (g.atom (p 3 3 9 10) (g.spelled (k.Name (codes "f") false))) (g.part (g.atom (p 4 4 11 12) (g.spelled (k.Name (codes "x") false))) g.none))) (g.part (g.list (p 6 10 14 24) (g.part (g.atom (p 7 7 15 19) (g.spelled (k.Name (codes "set!") false))) (g.part (g.atom (p 8 8 20 21) (g.spelled (k.Name (codes "x") false))) (g.part (g.atom (p 9 9 22 23) (g.spelled (k.Numeral (codes "2")))) g.none)))) (g.part (g.list (p 11 14 25 33) (g.part (g.atom (p 12 12 26 30) (g.spelled (k.Name (codes "list") false))) (g.part (g.atom (p 13 13 31 32) (g.spelled (k.Name (codes "x") false))) g.none))) g.none)))))) ∷ [])) ∷ []) 0 11 Highlights ≡ Lit (((b 0 11 12, 3)) ∷ ((b 0 20 21, 3)) ∷ ((b 0 31 32, 2)) ∷ [])
unfolding base_names standard_libraries prelude encode_utf8
assigned-highlights = refl

pub assigned-uses : answer_rows (((s 0 1) ∷ (s 1 7) ∷ (s 8 9) ∷ (s 9 10) ∷ (s 11 12) ∷ (s 12 13) ∷ (s 14 15) ∷ (s 15 19) ∷ (s 20 21) ∷ (s 22 23) ∷ (s 23 24) ∷ (s 25 26) ∷ (s 26 30) ∷ (s 31 32) ∷ (s 32 33) ∷ (s 33 34) ∷ []) ∷ []) ((Some (((g.list (p 0 15 0 34) (g.part (g.atom (p 1 1 1 7) (g.spelled (k.Name (codes "define") false))) (g.part (g.list (p 2 5 8 13) (g.part (g.atom (p 3 3 9 10) (g.spelled (k.Name (codes "f") false))) (g.part (g.atom (p 4 4 11 12) (g.spelled (k.Name (codes "x") false))) g.none))) (g.part (g.list (p 6 10 14 24) (g.part (g.atom (p 7 7 15 19) (g.spelled (k.Name (codes "set!") false))) (g.part (g.atom (p 8 8 20 21) (g.spelled (k.Name (codes "x") false))) (g.part (g.atom (p 9 9 22 23) (g.spelled (k.Numeral (codes "2")))) g.none)))) (g.part (g.list (p 11 14 25 33) (g.part (g.atom (p 12 12 26 30) (g.spelled (k.Name (codes "list") false))) (g.part (g.atom (p 13 13 31 32) (g.spelled (k.Name (codes "x") false))) g.none))) g.none)))))) ∷ [])) ∷ []) 0 32 (References false) ≡ Places (((b 0 20 21)) ∷ ((b 0 31 32)) ∷ [])
unfolding base_names standard_libraries prelude encode_utf8
assigned-uses = refl

pub quoted-definition : answer_rows (((s 0 1) ∷ (s 1 7) ∷ (s 8 9) ∷ (s 10 11) ∷ (s 11 12) ∷ (s 12 13) ∷ (s 14 15) ∷ (s 15 16) ∷ (s 16 17) ∷ (s 18 19) ∷ (s 19 20) ∷ (s 21 22) ∷ (s 22 23) ∷ []) ∷ []) ((Some (((g.list (p 0 8 0 17) (g.part (g.atom (p 1 1 1 7) (g.spelled (k.Name (codes "define") false))) (g.part (g.atom (p 2 2 8 9) (g.spelled (k.Name (codes "x") false))) (g.part (g.list (p 3 7 10 16) (g.part (g.atom (p 3 3 10 11) (g.implied k.Quote)) (g.part (g.list (p 4 7 11 16) (g.part (g.atom (p 5 5 12 13) (g.spelled (k.Name (codes "x") false))) (g.part (g.atom (p 6 6 14 15) (g.spelled (k.Name (codes "y") false))) g.none))) g.none))) g.none))))) ∷ ((g.list (p 9 12 18 23) (g.part (g.atom (p 10 10 19 20) (g.spelled (k.Name (codes "f") false))) (g.part (g.atom (p 11 11 21 22) (g.spelled (k.Name (codes "x") false))) g.none)))) ∷ [])) ∷ []) 0 12 Definition ≡ Places ([])
unfolding base_names standard_libraries prelude encode_utf8
quoted-definition = refl

pub quoted-prepare : answer_rows (((s 0 1) ∷ (s 1 7) ∷ (s 8 9) ∷ (s 10 11) ∷ (s 11 12) ∷ (s 12 13) ∷ (s 14 15) ∷ (s 15 16) ∷ (s 16 17) ∷ (s 18 19) ∷ (s 19 20) ∷ (s 21 22) ∷ (s 22 23) ∷ []) ∷ []) ((Some (((g.list (p 0 8 0 17) (g.part (g.atom (p 1 1 1 7) (g.spelled (k.Name (codes "define") false))) (g.part (g.atom (p 2 2 8 9) (g.spelled (k.Name (codes "x") false))) (g.part (g.list (p 3 7 10 16) (g.part (g.atom (p 3 3 10 11) (g.implied k.Quote)) (g.part (g.list (p 4 7 11 16) (g.part (g.atom (p 5 5 12 13) (g.spelled (k.Name (codes "x") false))) (g.part (g.atom (p 6 6 14 15) (g.spelled (k.Name (codes "y") false))) g.none))) g.none))) g.none))))) ∷ ((g.list (p 9 12 18 23) (g.part (g.atom (p 10 10 19 20) (g.spelled (k.Name (codes "f") false))) (g.part (g.atom (p 11 11 21 22) (g.spelled (k.Name (codes "x") false))) g.none)))) ∷ [])) ∷ []) 0 12 Prepare ≡ Nothing
unfolding base_names standard_libraries prelude encode_utf8
quoted-prepare = refl

pub binder-definition : answer_rows (((s 0 1) ∷ (s 1 7) ∷ (s 8 9) ∷ (s 10 11) ∷ (s 11 12) ∷ (s 12 13) ∷ (s 14 15) ∷ (s 15 16) ∷ (s 16 17) ∷ (s 18 19) ∷ (s 19 20) ∷ (s 21 22) ∷ (s 22 23) ∷ []) ∷ []) ((Some (((g.list (p 0 8 0 17) (g.part (g.atom (p 1 1 1 7) (g.spelled (k.Name (codes "define") false))) (g.part (g.atom (p 2 2 8 9) (g.spelled (k.Name (codes "x") false))) (g.part (g.list (p 3 7 10 16) (g.part (g.atom (p 3 3 10 11) (g.implied k.Quote)) (g.part (g.list (p 4 7 11 16) (g.part (g.atom (p 5 5 12 13) (g.spelled (k.Name (codes "x") false))) (g.part (g.atom (p 6 6 14 15) (g.spelled (k.Name (codes "y") false))) g.none))) g.none))) g.none))))) ∷ ((g.list (p 9 12 18 23) (g.part (g.atom (p 10 10 19 20) (g.spelled (k.Name (codes "f") false))) (g.part (g.atom (p 11 11 21 22) (g.spelled (k.Name (codes "x") false))) g.none)))) ∷ [])) ∷ []) 0 8 Definition ≡ Places (((b 0 8 9)) ∷ [])
unfolding base_names standard_libraries prelude encode_utf8
binder-definition = refl

pub unbound-prepare : answer_rows (((s 0 1) ∷ (s 1 7) ∷ (s 8 9) ∷ (s 10 11) ∷ (s 11 12) ∷ (s 12 13) ∷ (s 14 15) ∷ (s 15 16) ∷ (s 16 17) ∷ (s 18 19) ∷ (s 19 20) ∷ (s 21 22) ∷ (s 22 23) ∷ []) ∷ []) ((Some (((g.list (p 0 8 0 17) (g.part (g.atom (p 1 1 1 7) (g.spelled (k.Name (codes "define") false))) (g.part (g.atom (p 2 2 8 9) (g.spelled (k.Name (codes "x") false))) (g.part (g.list (p 3 7 10 16) (g.part (g.atom (p 3 3 10 11) (g.implied k.Quote)) (g.part (g.list (p 4 7 11 16) (g.part (g.atom (p 5 5 12 13) (g.spelled (k.Name (codes "x") false))) (g.part (g.atom (p 6 6 14 15) (g.spelled (k.Name (codes "y") false))) g.none))) g.none))) g.none))))) ∷ ((g.list (p 9 12 18 23) (g.part (g.atom (p 10 10 19 20) (g.spelled (k.Name (codes "f") false))) (g.part (g.atom (p 11 11 21 22) (g.spelled (k.Name (codes "x") false))) g.none)))) ∷ [])) ∷ []) 0 19 Prepare ≡ Nothing
unfolding base_names standard_libraries prelude encode_utf8
unbound-prepare = refl

pub standard-prepare : answer_rows (((s 0 1) ∷ (s 1 7) ∷ (s 8 9) ∷ (s 10 11) ∷ (s 11 12) ∷ (s 12 13) ∷ (s 14 15) ∷ (s 15 16) ∷ (s 16 17) ∷ (s 18 19) ∷ (s 19 20) ∷ (s 21 22) ∷ (s 22 23) ∷ []) ∷ []) ((Some (((g.list (p 0 8 0 17) (g.part (g.atom (p 1 1 1 7) (g.spelled (k.Name (codes "define") false))) (g.part (g.atom (p 2 2 8 9) (g.spelled (k.Name (codes "x") false))) (g.part (g.list (p 3 7 10 16) (g.part (g.atom (p 3 3 10 11) (g.implied k.Quote)) (g.part (g.list (p 4 7 11 16) (g.part (g.atom (p 5 5 12 13) (g.spelled (k.Name (codes "x") false))) (g.part (g.atom (p 6 6 14 15) (g.spelled (k.Name (codes "y") false))) g.none))) g.none))) g.none))))) ∷ ((g.list (p 9 12 18 23) (g.part (g.atom (p 10 10 19 20) (g.spelled (k.Name (codes "f") false))) (g.part (g.atom (p 11 11 21 22) (g.spelled (k.Name (codes "x") false))) g.none)))) ∷ [])) ∷ []) 0 1 Prepare ≡ Nothing
unfolding base_names standard_libraries prelude encode_utf8
standard-prepare = refl

pub standard-highlights : answer_rows (((s 0 1) ∷ (s 1 7) ∷ (s 8 9) ∷ (s 10 11) ∷ (s 11 12) ∷ (s 12 13) ∷ (s 14 15) ∷ (s 15 16) ∷ (s 16 17) ∷ (s 18 19) ∷ (s 19 20) ∷ (s 21 22) ∷ (s 22 23) ∷ []) ∷ []) ((Some (((g.list (p 0 8 0 17) (g.part (g.atom (p 1 1 1 7) (g.spelled (k.Name (codes "define") false))) (g.part (g.atom (p 2 2 8 9) (g.spelled (k.Name (codes "x") false))) (g.part (g.list (p 3 7 10 16) (g.part (g.atom (p 3 3 10 11) (g.implied k.Quote)) (g.part (g.list (p 4 7 11 16) (g.part (g.atom (p 5 5 12 13) (g.spelled (k.Name (codes "x") false))) (g.part (g.atom (p 6 6 14 15) (g.spelled (k.Name (codes "y") false))) g.none))) g.none))) g.none))))) ∷ ((g.list (p 9 12 18 23) (g.part (g.atom (p 10 10 19 20) (g.spelled (k.Name (codes "f") false))) (g.part (g.atom (p 11 11 21 22) (g.spelled (k.Name (codes "x") false))) g.none)))) ∷ [])) ∷ []) 0 1 Highlights ≡ Lit ([])
unfolding base_names standard_libraries prelude encode_utf8
standard-highlights = refl

pub comment-definition : answer_rows (((s 4 5) ∷ (s 5 11) ∷ (s 12 13) ∷ (s 14 15) ∷ (s 15 16) ∷ []) ∷ []) ((Some (((g.list (p 0 4 4 16) (g.part (g.atom (p 1 1 5 11) (g.spelled (k.Name (codes "define") false))) (g.part (g.atom (p 2 2 12 13) (g.spelled (k.Name (codes "x") false))) (g.part (g.atom (p 3 3 14 15) (g.spelled (k.Numeral (codes "1")))) g.none))))) ∷ [])) ∷ []) 0 2 Definition ≡ Places ([])
unfolding base_names standard_libraries prelude encode_utf8
comment-definition = refl

pub keyword-highlights : answer_rows (((s 0 1) ∷ (s 1 14) ∷ (s 15 16) ∷ (s 17 18) ∷ (s 18 30) ∷ (s 31 32) ∷ (s 32 35) ∷ (s 35 36) ∷ (s 37 38) ∷ (s 38 39) ∷ (s 39 40) ∷ (s 41 42) ∷ (s 43 46) ∷ (s 46 47) ∷ (s 48 49) ∷ (s 49 53) ∷ (s 54 55) ∷ (s 56 57) ∷ (s 57 58) ∷ (s 58 59) ∷ (s 59 60) ∷ (s 60 61) ∷ (s 62 63) ∷ (s 63 69) ∷ (s 70 73) ∷ (s 74 75) ∷ (s 75 76) ∷ (s 77 78) ∷ (s 78 79) ∷ (s 80 81) ∷ (s 82 85) ∷ (s 85 86) ∷ []) ∷ []) ((Some (((g.list (p 0 21 0 61) (g.part (g.atom (p 1 1 1 14) (g.spelled (k.Name (codes "define-syntax") false))) (g.part (g.atom (p 2 2 15 16) (g.spelled (k.Name (codes "m") false))) (g.part (g.list (p 3 20 17 60) (g.part (g.atom (p 4 4 18 30) (g.spelled (k.Name (codes "syntax-rules") false))) (g.part (g.list (p 5 7 31 36) (g.part (g.atom (p 6 6 32 35) (g.spelled (k.Name (codes "lit") false))) g.none)) (g.part (g.list (p 8 19 37 59) (g.part (g.list (p 9 13 38 47) (g.part (g.atom (p 10 10 39 40) (g.spelled (k.Name (codes "_") false))) (g.part (g.atom (p 11 11 41 42) (g.spelled (k.Name (codes "b") false))) (g.part (g.atom (p 12 12 43 46) (g.spelled (k.Name (codes "lit") false))) g.none)))) (g.part (g.list (p 14 18 48 58) (g.part (g.atom (p 15 15 49 53) (g.spelled (k.Name (codes "list") false))) (g.part (g.atom (p 16 16 54 55) (g.spelled (k.Name (codes "b") false))) (g.part (g.atom (p 17 17 56 57) (g.spelled (k.Name (codes "b") false))) g.none)))) g.none))) g.none)))) g.none))))) ∷ ((g.list (p 22 26 62 76) (g.part (g.atom (p 23 23 63 69) (g.spelled (k.Name (codes "define") false))) (g.part (g.atom (p 24 24 70 73) (g.spelled (k.Name (codes "lit") false))) (g.part (g.atom (p 25 25 74 75) (g.spelled (k.Numeral (codes "5")))) g.none))))) ∷ ((g.list (p 27 31 77 86) (g.part (g.atom (p 28 28 78 79) (g.spelled (k.Name (codes "m") false))) (g.part (g.atom (p 29 29 80 81) (g.spelled (k.Numeral (codes "1")))) (g.part (g.atom (p 30 30 82 85) (g.spelled (k.Name (codes "lit") false))) g.none))))) ∷ [])) ∷ []) 0 15 Highlights ≡ Lit (((b 0 15 16, 3)) ∷ ((b 0 78 79, 2)) ∷ [])
unfolding base_names standard_libraries prelude encode_utf8
keyword-highlights = refl

pub pattern-variable-highlights : answer_rows (((s 0 1) ∷ (s 1 14) ∷ (s 15 16) ∷ (s 17 18) ∷ (s 18 30) ∷ (s 31 32) ∷ (s 32 35) ∷ (s 35 36) ∷ (s 37 38) ∷ (s 38 39) ∷ (s 39 40) ∷ (s 41 42) ∷ (s 43 46) ∷ (s 46 47) ∷ (s 48 49) ∷ (s 49 53) ∷ (s 54 55) ∷ (s 56 57) ∷ (s 57 58) ∷ (s 58 59) ∷ (s 59 60) ∷ (s 60 61) ∷ (s 62 63) ∷ (s 63 69) ∷ (s 70 73) ∷ (s 74 75) ∷ (s 75 76) ∷ (s 77 78) ∷ (s 78 79) ∷ (s 80 81) ∷ (s 82 85) ∷ (s 85 86) ∷ []) ∷ []) ((Some (((g.list (p 0 21 0 61) (g.part (g.atom (p 1 1 1 14) (g.spelled (k.Name (codes "define-syntax") false))) (g.part (g.atom (p 2 2 15 16) (g.spelled (k.Name (codes "m") false))) (g.part (g.list (p 3 20 17 60) (g.part (g.atom (p 4 4 18 30) (g.spelled (k.Name (codes "syntax-rules") false))) (g.part (g.list (p 5 7 31 36) (g.part (g.atom (p 6 6 32 35) (g.spelled (k.Name (codes "lit") false))) g.none)) (g.part (g.list (p 8 19 37 59) (g.part (g.list (p 9 13 38 47) (g.part (g.atom (p 10 10 39 40) (g.spelled (k.Name (codes "_") false))) (g.part (g.atom (p 11 11 41 42) (g.spelled (k.Name (codes "b") false))) (g.part (g.atom (p 12 12 43 46) (g.spelled (k.Name (codes "lit") false))) g.none)))) (g.part (g.list (p 14 18 48 58) (g.part (g.atom (p 15 15 49 53) (g.spelled (k.Name (codes "list") false))) (g.part (g.atom (p 16 16 54 55) (g.spelled (k.Name (codes "b") false))) (g.part (g.atom (p 17 17 56 57) (g.spelled (k.Name (codes "b") false))) g.none)))) g.none))) g.none)))) g.none))))) ∷ ((g.list (p 22 26 62 76) (g.part (g.atom (p 23 23 63 69) (g.spelled (k.Name (codes "define") false))) (g.part (g.atom (p 24 24 70 73) (g.spelled (k.Name (codes "lit") false))) (g.part (g.atom (p 25 25 74 75) (g.spelled (k.Numeral (codes "5")))) g.none))))) ∷ ((g.list (p 27 31 77 86) (g.part (g.atom (p 28 28 78 79) (g.spelled (k.Name (codes "m") false))) (g.part (g.atom (p 29 29 80 81) (g.spelled (k.Numeral (codes "1")))) (g.part (g.atom (p 30 30 82 85) (g.spelled (k.Name (codes "lit") false))) g.none))))) ∷ [])) ∷ []) 0 41 Highlights ≡ Lit (((b 0 41 42, 3)) ∷ ((b 0 54 55, 1)) ∷ ((b 0 56 57, 1)) ∷ [])
unfolding base_names standard_libraries prelude encode_utf8
pattern-variable-highlights = refl

pub literal-highlights : answer_rows (((s 0 1) ∷ (s 1 14) ∷ (s 15 16) ∷ (s 17 18) ∷ (s 18 30) ∷ (s 31 32) ∷ (s 32 35) ∷ (s 35 36) ∷ (s 37 38) ∷ (s 38 39) ∷ (s 39 40) ∷ (s 41 42) ∷ (s 43 46) ∷ (s 46 47) ∷ (s 48 49) ∷ (s 49 53) ∷ (s 54 55) ∷ (s 56 57) ∷ (s 57 58) ∷ (s 58 59) ∷ (s 59 60) ∷ (s 60 61) ∷ (s 62 63) ∷ (s 63 69) ∷ (s 70 73) ∷ (s 74 75) ∷ (s 75 76) ∷ (s 77 78) ∷ (s 78 79) ∷ (s 80 81) ∷ (s 82 85) ∷ (s 85 86) ∷ []) ∷ []) ((Some (((g.list (p 0 21 0 61) (g.part (g.atom (p 1 1 1 14) (g.spelled (k.Name (codes "define-syntax") false))) (g.part (g.atom (p 2 2 15 16) (g.spelled (k.Name (codes "m") false))) (g.part (g.list (p 3 20 17 60) (g.part (g.atom (p 4 4 18 30) (g.spelled (k.Name (codes "syntax-rules") false))) (g.part (g.list (p 5 7 31 36) (g.part (g.atom (p 6 6 32 35) (g.spelled (k.Name (codes "lit") false))) g.none)) (g.part (g.list (p 8 19 37 59) (g.part (g.list (p 9 13 38 47) (g.part (g.atom (p 10 10 39 40) (g.spelled (k.Name (codes "_") false))) (g.part (g.atom (p 11 11 41 42) (g.spelled (k.Name (codes "b") false))) (g.part (g.atom (p 12 12 43 46) (g.spelled (k.Name (codes "lit") false))) g.none)))) (g.part (g.list (p 14 18 48 58) (g.part (g.atom (p 15 15 49 53) (g.spelled (k.Name (codes "list") false))) (g.part (g.atom (p 16 16 54 55) (g.spelled (k.Name (codes "b") false))) (g.part (g.atom (p 17 17 56 57) (g.spelled (k.Name (codes "b") false))) g.none)))) g.none))) g.none)))) g.none))))) ∷ ((g.list (p 22 26 62 76) (g.part (g.atom (p 23 23 63 69) (g.spelled (k.Name (codes "define") false))) (g.part (g.atom (p 24 24 70 73) (g.spelled (k.Name (codes "lit") false))) (g.part (g.atom (p 25 25 74 75) (g.spelled (k.Numeral (codes "5")))) g.none))))) ∷ ((g.list (p 27 31 77 86) (g.part (g.atom (p 28 28 78 79) (g.spelled (k.Name (codes "m") false))) (g.part (g.atom (p 29 29 80 81) (g.spelled (k.Numeral (codes "1")))) (g.part (g.atom (p 30 30 82 85) (g.spelled (k.Name (codes "lit") false))) g.none))))) ∷ [])) ∷ []) 0 70 Highlights ≡ Lit (((b 0 32 35, 1)) ∷ ((b 0 43 46, 1)) ∷ ((b 0 70 73, 3)) ∷ ((b 0 82 85, 1)) ∷ [])
unfolding base_names standard_libraries prelude encode_utf8
literal-highlights = refl

pub touching-definition : answer_rows (((s 0 1) ∷ (s 1 7) ∷ (s 8 9) ∷ (s 10 11) ∷ (s 11 12) ∷ (s 13 14) ∷ (s 14 20) ∷ (s 21 24) ∷ (s 25 26) ∷ (s 26 27) ∷ (s 28 29) ∷ (s 29 33) ∷ (s 34 35) ∷ (s 35 38) ∷ (s 38 39) ∷ []) ∷ []) ((Some (((g.list (p 0 4 0 12) (g.part (g.atom (p 1 1 1 7) (g.spelled (k.Name (codes "define") false))) (g.part (g.atom (p 2 2 8 9) (g.spelled (k.Name (codes "x") false))) (g.part (g.atom (p 3 3 10 11) (g.spelled (k.Numeral (codes "1")))) g.none))))) ∷ ((g.list (p 5 9 13 27) (g.part (g.atom (p 6 6 14 20) (g.spelled (k.Name (codes "define") false))) (g.part (g.atom (p 7 7 21 24) (g.spelled (k.Name (codes "y") true))) (g.part (g.atom (p 8 8 25 26) (g.spelled (k.Numeral (codes "2")))) g.none))))) ∷ ((g.list (p 10 14 28 39) (g.part (g.atom (p 11 11 29 33) (g.spelled (k.Name (codes "list") false))) (g.part (g.atom (p 12 12 34 35) (g.spelled (k.Name (codes "x") false))) (g.part (g.atom (p 13 13 35 38) (g.spelled (k.Name (codes "y") true))) g.none))))) ∷ [])) ∷ []) 0 35 Definition ≡ Places (((b 0 21 24)) ∷ [])
unfolding base_names standard_libraries prelude encode_utf8
touching-definition = refl

pub touching-definition-before : answer_rows (((s 0 1) ∷ (s 1 7) ∷ (s 8 9) ∷ (s 10 11) ∷ (s 11 12) ∷ (s 13 14) ∷ (s 14 20) ∷ (s 21 24) ∷ (s 25 26) ∷ (s 26 27) ∷ (s 28 29) ∷ (s 29 33) ∷ (s 34 35) ∷ (s 35 38) ∷ (s 38 39) ∷ []) ∷ []) ((Some (((g.list (p 0 4 0 12) (g.part (g.atom (p 1 1 1 7) (g.spelled (k.Name (codes "define") false))) (g.part (g.atom (p 2 2 8 9) (g.spelled (k.Name (codes "x") false))) (g.part (g.atom (p 3 3 10 11) (g.spelled (k.Numeral (codes "1")))) g.none))))) ∷ ((g.list (p 5 9 13 27) (g.part (g.atom (p 6 6 14 20) (g.spelled (k.Name (codes "define") false))) (g.part (g.atom (p 7 7 21 24) (g.spelled (k.Name (codes "y") true))) (g.part (g.atom (p 8 8 25 26) (g.spelled (k.Numeral (codes "2")))) g.none))))) ∷ ((g.list (p 10 14 28 39) (g.part (g.atom (p 11 11 29 33) (g.spelled (k.Name (codes "list") false))) (g.part (g.atom (p 12 12 34 35) (g.spelled (k.Name (codes "x") false))) (g.part (g.atom (p 13 13 35 38) (g.spelled (k.Name (codes "y") true))) g.none))))) ∷ [])) ∷ []) 0 34 Definition ≡ Places (((b 0 8 9)) ∷ [])
unfolding base_names standard_libraries prelude encode_utf8
touching-definition-before = refl

pub end-definition : answer_rows (((s 0 1) ∷ (s 1 7) ∷ (s 8 9) ∷ (s 10 11) ∷ (s 11 12) ∷ (s 13 14) ∷ (s 14 20) ∷ (s 21 24) ∷ (s 25 26) ∷ (s 26 27) ∷ (s 28 29) ∷ (s 29 33) ∷ (s 34 35) ∷ (s 35 38) ∷ (s 38 39) ∷ []) ∷ []) ((Some (((g.list (p 0 4 0 12) (g.part (g.atom (p 1 1 1 7) (g.spelled (k.Name (codes "define") false))) (g.part (g.atom (p 2 2 8 9) (g.spelled (k.Name (codes "x") false))) (g.part (g.atom (p 3 3 10 11) (g.spelled (k.Numeral (codes "1")))) g.none))))) ∷ ((g.list (p 5 9 13 27) (g.part (g.atom (p 6 6 14 20) (g.spelled (k.Name (codes "define") false))) (g.part (g.atom (p 7 7 21 24) (g.spelled (k.Name (codes "y") true))) (g.part (g.atom (p 8 8 25 26) (g.spelled (k.Numeral (codes "2")))) g.none))))) ∷ ((g.list (p 10 14 28 39) (g.part (g.atom (p 11 11 29 33) (g.spelled (k.Name (codes "list") false))) (g.part (g.atom (p 12 12 34 35) (g.spelled (k.Name (codes "x") false))) (g.part (g.atom (p 13 13 35 38) (g.spelled (k.Name (codes "y") true))) g.none))))) ∷ [])) ∷ []) 0 38 Definition ≡ Places (((b 0 21 24)) ∷ [])
unfolding base_names standard_libraries prelude encode_utf8
end-definition = refl

pub barred-prepare : answer_rows (((s 0 1) ∷ (s 1 7) ∷ (s 8 9) ∷ (s 10 11) ∷ (s 11 12) ∷ (s 13 14) ∷ (s 14 20) ∷ (s 21 24) ∷ (s 25 26) ∷ (s 26 27) ∷ (s 28 29) ∷ (s 29 33) ∷ (s 34 35) ∷ (s 35 38) ∷ (s 38 39) ∷ []) ∷ []) ((Some (((g.list (p 0 4 0 12) (g.part (g.atom (p 1 1 1 7) (g.spelled (k.Name (codes "define") false))) (g.part (g.atom (p 2 2 8 9) (g.spelled (k.Name (codes "x") false))) (g.part (g.atom (p 3 3 10 11) (g.spelled (k.Numeral (codes "1")))) g.none))))) ∷ ((g.list (p 5 9 13 27) (g.part (g.atom (p 6 6 14 20) (g.spelled (k.Name (codes "define") false))) (g.part (g.atom (p 7 7 21 24) (g.spelled (k.Name (codes "y") true))) (g.part (g.atom (p 8 8 25 26) (g.spelled (k.Numeral (codes "2")))) g.none))))) ∷ ((g.list (p 10 14 28 39) (g.part (g.atom (p 11 11 29 33) (g.spelled (k.Name (codes "list") false))) (g.part (g.atom (p 12 12 34 35) (g.spelled (k.Name (codes "x") false))) (g.part (g.atom (p 13 13 35 38) (g.spelled (k.Name (codes "y") true))) g.none))))) ∷ [])) ∷ []) 0 21 Prepare ≡ Prepared (b 0 21 24)
unfolding base_names standard_libraries prelude encode_utf8
barred-prepare = refl

pub unread-definition : answer_rows (([]) ∷ []) ((None) ∷ []) 0 8 Definition ≡ Places ([])
unfolding base_names standard_libraries prelude encode_utf8
unread-definition = refl

pub record-field-highlights : answer_rows (((s 0 1) ∷ (s 1 19) ∷ (s 20 21) ∷ (s 22 23) ∷ (s 23 27) ∷ (s 28 29) ∷ (s 29 30) ∷ (s 31 33) ∷ (s 34 35) ∷ (s 35 36) ∷ (s 37 40) ∷ (s 41 44) ∷ (s 44 45) ∷ (s 45 46) ∷ (s 47 48) ∷ (s 48 52) ∷ (s 53 54) ∷ (s 54 55) ∷ []) ∷ []) ((Some (((g.list (p 0 13 0 46) (g.part (g.atom (p 1 1 1 19) (g.spelled (k.Name (codes "define-record-type") false))) (g.part (g.atom (p 2 2 20 21) (g.spelled (k.Name (codes "p") false))) (g.part (g.list (p 3 6 22 30) (g.part (g.atom (p 4 4 23 27) (g.spelled (k.Name (codes "make") false))) (g.part (g.atom (p 5 5 28 29) (g.spelled (k.Name (codes "x") false))) g.none))) (g.part (g.atom (p 7 7 31 33) (g.spelled (k.Name (codes "p?") false))) (g.part (g.list (p 8 12 34 45) (g.part (g.atom (p 9 9 35 36) (g.spelled (k.Name (codes "x") false))) (g.part (g.atom (p 10 10 37 40) (g.spelled (k.Name (codes "get") false))) (g.part (g.atom (p 11 11 41 44) (g.spelled (k.Name (codes "set") false))) g.none)))) g.none))))))) ∷ ((g.list (p 14 17 47 55) (g.part (g.atom (p 15 15 48 52) (g.spelled (k.Name (codes "make") false))) (g.part (g.atom (p 16 16 53 54) (g.spelled (k.Numeral (codes "1")))) g.none)))) ∷ [])) ∷ []) 0 35 Highlights ≡ Lit (((b 0 28 29, 2)) ∷ ((b 0 35 36, 3)) ∷ [])
unfolding base_names standard_libraries prelude encode_utf8
record-field-highlights = refl

pub rename-unknown-second : answer_rows (((s 0 1) ∷ (s 1 7) ∷ (s 8 9) ∷ (s 9 15) ∷ (s 16 17) ∷ (s 17 20) ∷ (s 20 21) ∷ (s 22 23) ∷ (s 23 27) ∷ (s 28 31) ∷ (s 31 32) ∷ (s 32 33) ∷ (s 33 34) ∷ []) ∷ []) ((Some (((g.list (p 0 12 0 34) (g.part (g.atom (p 1 1 1 7) (g.spelled (k.Name (codes "import") false))) (g.part (g.list (p 2 11 8 33) (g.part (g.atom (p 3 3 9 15) (g.spelled (k.Name (codes "rename") false))) (g.part (g.list (p 4 6 16 21) (g.part (g.atom (p 5 5 17 20) (g.spelled (k.Name (codes "unk") false))) g.none)) (g.part (g.list (p 7 10 22 32) (g.part (g.atom (p 8 8 23 27) (g.spelled (k.Name (codes "nope") false))) (g.part (g.atom (p 9 9 28 31) (g.spelled (k.Name (codes "add") false))) g.none))) g.none)))) g.none)))) ∷ [])) ∷ []) 0 28 Prepare ≡ Prepared (b 0 28 31)
unfolding base_names standard_libraries prelude encode_utf8
rename-unknown-second = refl

pub rename-unknown-first : answer_rows (((s 0 1) ∷ (s 1 7) ∷ (s 8 9) ∷ (s 9 15) ∷ (s 16 17) ∷ (s 17 20) ∷ (s 20 21) ∷ (s 22 23) ∷ (s 23 27) ∷ (s 28 31) ∷ (s 31 32) ∷ (s 32 33) ∷ (s 33 34) ∷ []) ∷ []) ((Some (((g.list (p 0 12 0 34) (g.part (g.atom (p 1 1 1 7) (g.spelled (k.Name (codes "import") false))) (g.part (g.list (p 2 11 8 33) (g.part (g.atom (p 3 3 9 15) (g.spelled (k.Name (codes "rename") false))) (g.part (g.list (p 4 6 16 21) (g.part (g.atom (p 5 5 17 20) (g.spelled (k.Name (codes "unk") false))) g.none)) (g.part (g.list (p 7 10 22 32) (g.part (g.atom (p 8 8 23 27) (g.spelled (k.Name (codes "nope") false))) (g.part (g.atom (p 9 9 28 31) (g.spelled (k.Name (codes "add") false))) g.none))) g.none)))) g.none)))) ∷ [])) ∷ []) 0 23 Prepare ≡ Nothing
unfolding base_names standard_libraries prelude encode_utf8
rename-unknown-first = refl

pub rename-unknown-definition : answer_rows (((s 0 1) ∷ (s 1 7) ∷ (s 8 9) ∷ (s 9 15) ∷ (s 16 17) ∷ (s 17 20) ∷ (s 20 21) ∷ (s 22 23) ∷ (s 23 27) ∷ (s 28 31) ∷ (s 31 32) ∷ (s 32 33) ∷ (s 33 34) ∷ []) ∷ []) ((Some (((g.list (p 0 12 0 34) (g.part (g.atom (p 1 1 1 7) (g.spelled (k.Name (codes "import") false))) (g.part (g.list (p 2 11 8 33) (g.part (g.atom (p 3 3 9 15) (g.spelled (k.Name (codes "rename") false))) (g.part (g.list (p 4 6 16 21) (g.part (g.atom (p 5 5 17 20) (g.spelled (k.Name (codes "unk") false))) g.none)) (g.part (g.list (p 7 10 22 32) (g.part (g.atom (p 8 8 23 27) (g.spelled (k.Name (codes "nope") false))) (g.part (g.atom (p 9 9 28 31) (g.spelled (k.Name (codes "add") false))) g.none))) g.none)))) g.none)))) ∷ [])) ∷ []) 0 28 Definition ≡ Places ([])
unfolding base_names standard_libraries prelude encode_utf8
rename-unknown-definition = refl

pub rename-lacking-second : answer_rows (((s 0 1) ∷ (s 1 7) ∷ (s 8 9) ∷ (s 9 15) ∷ (s 16 17) ∷ (s 17 23) ∷ (s 24 29) ∷ (s 29 30) ∷ (s 31 32) ∷ (s 32 36) ∷ (s 37 41) ∷ (s 41 42) ∷ (s 42 43) ∷ (s 43 44) ∷ []) ∷ []) ((Some (((g.list (p 0 13 0 44) (g.part (g.atom (p 1 1 1 7) (g.spelled (k.Name (codes "import") false))) (g.part (g.list (p 2 12 8 43) (g.part (g.atom (p 3 3 9 15) (g.spelled (k.Name (codes "rename") false))) (g.part (g.list (p 4 7 16 30) (g.part (g.atom (p 5 5 17 23) (g.spelled (k.Name (codes "scheme") false))) (g.part (g.atom (p 6 6 24 29) (g.spelled (k.Name (codes "write") false))) g.none))) (g.part (g.list (p 8 11 31 42) (g.part (g.atom (p 9 9 32 36) (g.spelled (k.Name (codes "nope") false))) (g.part (g.atom (p 10 10 37 41) (g.spelled (k.Name (codes "show") false))) g.none))) g.none)))) g.none)))) ∷ [])) ∷ []) 0 37 Prepare ≡ Prepared (b 0 37 41)
unfolding base_names standard_libraries prelude encode_utf8
rename-lacking-second = refl

pub rename-second : answer_rows (((s 0 1) ∷ (s 1 7) ∷ (s 8 9) ∷ (s 9 15) ∷ (s 16 17) ∷ (s 17 23) ∷ (s 24 29) ∷ (s 29 30) ∷ (s 31 32) ∷ (s 32 39) ∷ (s 40 44) ∷ (s 44 45) ∷ (s 45 46) ∷ (s 46 47) ∷ (s 48 49) ∷ (s 49 53) ∷ (s 54 55) ∷ (s 55 56) ∷ []) ∷ []) ((Some (((g.list (p 0 13 0 47) (g.part (g.atom (p 1 1 1 7) (g.spelled (k.Name (codes "import") false))) (g.part (g.list (p 2 12 8 46) (g.part (g.atom (p 3 3 9 15) (g.spelled (k.Name (codes "rename") false))) (g.part (g.list (p 4 7 16 30) (g.part (g.atom (p 5 5 17 23) (g.spelled (k.Name (codes "scheme") false))) (g.part (g.atom (p 6 6 24 29) (g.spelled (k.Name (codes "write") false))) g.none))) (g.part (g.list (p 8 11 31 45) (g.part (g.atom (p 9 9 32 39) (g.spelled (k.Name (codes "display") false))) (g.part (g.atom (p 10 10 40 44) (g.spelled (k.Name (codes "show") false))) g.none))) g.none)))) g.none)))) ∷ ((g.list (p 14 17 48 56) (g.part (g.atom (p 15 15 49 53) (g.spelled (k.Name (codes "show") false))) (g.part (g.atom (p 16 16 54 55) (g.spelled (k.Numeral (codes "1")))) g.none)))) ∷ [])) ∷ []) 0 40 Prepare ≡ Prepared (b 0 40 44)
unfolding base_names standard_libraries prelude encode_utf8
rename-second = refl

pub rename-second-use : answer_rows (((s 0 1) ∷ (s 1 7) ∷ (s 8 9) ∷ (s 9 15) ∷ (s 16 17) ∷ (s 17 23) ∷ (s 24 29) ∷ (s 29 30) ∷ (s 31 32) ∷ (s 32 39) ∷ (s 40 44) ∷ (s 44 45) ∷ (s 45 46) ∷ (s 46 47) ∷ (s 48 49) ∷ (s 49 53) ∷ (s 54 55) ∷ (s 55 56) ∷ []) ∷ []) ((Some (((g.list (p 0 13 0 47) (g.part (g.atom (p 1 1 1 7) (g.spelled (k.Name (codes "import") false))) (g.part (g.list (p 2 12 8 46) (g.part (g.atom (p 3 3 9 15) (g.spelled (k.Name (codes "rename") false))) (g.part (g.list (p 4 7 16 30) (g.part (g.atom (p 5 5 17 23) (g.spelled (k.Name (codes "scheme") false))) (g.part (g.atom (p 6 6 24 29) (g.spelled (k.Name (codes "write") false))) g.none))) (g.part (g.list (p 8 11 31 45) (g.part (g.atom (p 9 9 32 39) (g.spelled (k.Name (codes "display") false))) (g.part (g.atom (p 10 10 40 44) (g.spelled (k.Name (codes "show") false))) g.none))) g.none)))) g.none)))) ∷ ((g.list (p 14 17 48 56) (g.part (g.atom (p 15 15 49 53) (g.spelled (k.Name (codes "show") false))) (g.part (g.atom (p 16 16 54 55) (g.spelled (k.Numeral (codes "1")))) g.none)))) ∷ [])) ∷ []) 0 49 Prepare ≡ Prepared (b 0 49 53)
unfolding base_names standard_libraries prelude encode_utf8
rename-second-use = refl

pub rename-first : answer_rows (((s 0 1) ∷ (s 1 7) ∷ (s 8 9) ∷ (s 9 15) ∷ (s 16 17) ∷ (s 17 23) ∷ (s 24 29) ∷ (s 29 30) ∷ (s 31 32) ∷ (s 32 39) ∷ (s 40 44) ∷ (s 44 45) ∷ (s 45 46) ∷ (s 46 47) ∷ (s 48 49) ∷ (s 49 53) ∷ (s 54 55) ∷ (s 55 56) ∷ []) ∷ []) ((Some (((g.list (p 0 13 0 47) (g.part (g.atom (p 1 1 1 7) (g.spelled (k.Name (codes "import") false))) (g.part (g.list (p 2 12 8 46) (g.part (g.atom (p 3 3 9 15) (g.spelled (k.Name (codes "rename") false))) (g.part (g.list (p 4 7 16 30) (g.part (g.atom (p 5 5 17 23) (g.spelled (k.Name (codes "scheme") false))) (g.part (g.atom (p 6 6 24 29) (g.spelled (k.Name (codes "write") false))) g.none))) (g.part (g.list (p 8 11 31 45) (g.part (g.atom (p 9 9 32 39) (g.spelled (k.Name (codes "display") false))) (g.part (g.atom (p 10 10 40 44) (g.spelled (k.Name (codes "show") false))) g.none))) g.none)))) g.none)))) ∷ ((g.list (p 14 17 48 56) (g.part (g.atom (p 15 15 49 53) (g.spelled (k.Name (codes "show") false))) (g.part (g.atom (p 16 16 54 55) (g.spelled (k.Numeral (codes "1")))) g.none)))) ∷ [])) ∷ []) 0 32 Prepare ≡ Nothing
unfolding base_names standard_libraries prelude encode_utf8
rename-first = refl

pub rename-below-prefix-second : answer_rows (((s 0 1) ∷ (s 1 7) ∷ (s 8 9) ∷ (s 9 15) ∷ (s 16 17) ∷ (s 17 23) ∷ (s 24 25) ∷ (s 25 28) ∷ (s 28 29) ∷ (s 30 31) ∷ (s 31 34) ∷ (s 35 38) ∷ (s 38 39) ∷ (s 39 40) ∷ (s 41 43) ∷ (s 43 44) ∷ (s 44 45) ∷ []) ∷ []) ((Some (((g.list (p 0 16 0 45) (g.part (g.atom (p 1 1 1 7) (g.spelled (k.Name (codes "import") false))) (g.part (g.list (p 2 15 8 44) (g.part (g.atom (p 3 3 9 15) (g.spelled (k.Name (codes "prefix") false))) (g.part (g.list (p 4 13 16 40) (g.part (g.atom (p 5 5 17 23) (g.spelled (k.Name (codes "rename") false))) (g.part (g.list (p 6 8 24 29) (g.part (g.atom (p 7 7 25 28) (g.spelled (k.Name (codes "unk") false))) g.none)) (g.part (g.list (p 9 12 30 39) (g.part (g.atom (p 10 10 31 34) (g.spelled (k.Name (codes "one") false))) (g.part (g.atom (p 11 11 35 38) (g.spelled (k.Name (codes "two") false))) g.none))) g.none)))) (g.part (g.atom (p 14 14 41 43) (g.spelled (k.Name (codes "p:") false))) g.none)))) g.none)))) ∷ [])) ∷ []) 0 35 Prepare ≡ Prepared (b 0 35 38)
unfolding base_names standard_libraries prelude encode_utf8
rename-below-prefix-second = refl

pub rename-above-a-fault-second : answer_rows (((s 0 1) ∷ (s 1 7) ∷ (s 8 9) ∷ (s 9 15) ∷ (s 16 17) ∷ (s 17 21) ∷ (s 22 23) ∷ (s 23 29) ∷ (s 30 35) ∷ (s 35 36) ∷ (s 37 41) ∷ (s 41 42) ∷ (s 43 44) ∷ (s 44 47) ∷ (s 48 51) ∷ (s 51 52) ∷ (s 52 53) ∷ (s 53 54) ∷ []) ∷ []) ((Some (((g.list (p 0 17 0 54) (g.part (g.atom (p 1 1 1 7) (g.spelled (k.Name (codes "import") false))) (g.part (g.list (p 2 16 8 53) (g.part (g.atom (p 3 3 9 15) (g.spelled (k.Name (codes "rename") false))) (g.part (g.list (p 4 11 16 42) (g.part (g.atom (p 5 5 17 21) (g.spelled (k.Name (codes "only") false))) (g.part (g.list (p 6 9 22 36) (g.part (g.atom (p 7 7 23 29) (g.spelled (k.Name (codes "scheme") false))) (g.part (g.atom (p 8 8 30 35) (g.spelled (k.Name (codes "write") false))) g.none))) (g.part (g.atom (p 10 10 37 41) (g.spelled (k.Name (codes "nope") false))) g.none)))) (g.part (g.list (p 12 15 43 52) (g.part (g.atom (p 13 13 44 47) (g.spelled (k.Name (codes "one") false))) (g.part (g.atom (p 14 14 48 51) (g.spelled (k.Name (codes "two") false))) g.none))) g.none)))) g.none)))) ∷ [])) ∷ []) 0 48 Prepare ≡ Prepared (b 0 48 51)
unfolding base_names standard_libraries prelude encode_utf8
rename-above-a-fault-second = refl

pub rename-without-shape-second : answer_rows (((s 0 1) ∷ (s 1 7) ∷ (s 8 9) ∷ (s 9 15) ∷ (s 16 17) ∷ (s 17 21) ∷ (s 22 23) ∷ (s 23 29) ∷ (s 30 35) ∷ (s 35 36) ∷ (s 37 38) ∷ (s 38 39) ∷ (s 40 41) ∷ (s 41 44) ∷ (s 45 48) ∷ (s 48 49) ∷ (s 49 50) ∷ (s 50 51) ∷ []) ∷ []) ((Some (((g.list (p 0 17 0 51) (g.part (g.atom (p 1 1 1 7) (g.spelled (k.Name (codes "import") false))) (g.part (g.list (p 2 16 8 50) (g.part (g.atom (p 3 3 9 15) (g.spelled (k.Name (codes "rename") false))) (g.part (g.list (p 4 11 16 39) (g.part (g.atom (p 5 5 17 21) (g.spelled (k.Name (codes "only") false))) (g.part (g.list (p 6 9 22 36) (g.part (g.atom (p 7 7 23 29) (g.spelled (k.Name (codes "scheme") false))) (g.part (g.atom (p 8 8 30 35) (g.spelled (k.Name (codes "write") false))) g.none))) (g.part (g.atom (p 10 10 37 38) (g.spelled (k.Numeral (codes "5")))) g.none)))) (g.part (g.list (p 12 15 40 49) (g.part (g.atom (p 13 13 41 44) (g.spelled (k.Name (codes "one") false))) (g.part (g.atom (p 14 14 45 48) (g.spelled (k.Name (codes "two") false))) g.none))) g.none)))) g.none)))) ∷ [])) ∷ []) 0 45 Prepare ≡ Nothing
unfolding base_names standard_libraries prelude encode_utf8
rename-without-shape-second = refl

pub rename-in-a-library-second : answer_rows (((s 0 1) ∷ (s 1 15) ∷ (s 16 17) ∷ (s 17 18) ∷ (s 18 19) ∷ (s 20 21) ∷ (s 21 27) ∷ (s 28 29) ∷ (s 29 35) ∷ (s 36 37) ∷ (s 37 43) ∷ (s 44 45) ∷ (s 45 48) ∷ (s 48 49) ∷ (s 50 51) ∷ (s 51 54) ∷ (s 55 58) ∷ (s 58 59) ∷ (s 59 60) ∷ (s 61 62) ∷ (s 62 67) ∷ (s 68 72) ∷ (s 72 73) ∷ (s 73 74) ∷ (s 74 75) ∷ (s 75 76) ∷ []) ∷ []) ((Some (((g.list (p 0 25 0 76) (g.part (g.atom (p 1 1 1 15) (g.spelled (k.Name (codes "define-library") false))) (g.part (g.list (p 2 4 16 19) (g.part (g.atom (p 3 3 17 18) (g.spelled (k.Name (codes "l") false))) g.none)) (g.part (g.list (p 5 24 20 75) (g.part (g.atom (p 6 6 21 27) (g.spelled (k.Name (codes "import") false))) (g.part (g.list (p 7 23 28 74) (g.part (g.atom (p 8 8 29 35) (g.spelled (k.Name (codes "rename") false))) (g.part (g.list (p 9 18 36 60) (g.part (g.atom (p 10 10 37 43) (g.spelled (k.Name (codes "rename") false))) (g.part (g.list (p 11 13 44 49) (g.part (g.atom (p 12 12 45 48) (g.spelled (k.Name (codes "unk") false))) g.none)) (g.part (g.list (p 14 17 50 59) (g.part (g.atom (p 15 15 51 54) (g.spelled (k.Name (codes "one") false))) (g.part (g.atom (p 16 16 55 58) (g.spelled (k.Name (codes "two") false))) g.none))) g.none)))) (g.part (g.list (p 19 22 61 73) (g.part (g.atom (p 20 20 62 67) (g.spelled (k.Name (codes "three") false))) (g.part (g.atom (p 21 21 68 72) (g.spelled (k.Name (codes "four") false))) g.none))) g.none)))) g.none))) g.none))))) ∷ [])) ∷ []) 0 55 Prepare ≡ Prepared (b 0 55 58)
unfolding base_names standard_libraries prelude encode_utf8
rename-in-a-library-second = refl

pub implied-rename-second : answer_rows (((s 0 1) ∷ (s 1 7) ∷ (s 8 9) ∷ (s 9 15) ∷ (s 16 17) ∷ (s 17 23) ∷ (s 24 28) ∷ (s 28 29) ∷ (s 30 31) ∷ (s 31 33) ∷ (s 33 34) ∷ (s 34 35) ∷ (s 36 37) ∷ (s 37 39) ∷ (s 40 41) ∷ (s 41 42) ∷ []) ∷ []) ((Some (((g.list (p 0 11 0 35) (g.part (g.atom (p 1 1 1 7) (g.spelled (k.Name (codes "import") false))) (g.part (g.list (p 2 10 8 34) (g.part (g.atom (p 3 3 9 15) (g.spelled (k.Name (codes "rename") false))) (g.part (g.list (p 4 7 16 29) (g.part (g.atom (p 5 5 17 23) (g.spelled (k.Name (codes "scheme") false))) (g.part (g.atom (p 6 6 24 28) (g.spelled (k.Name (codes "base") false))) g.none))) (g.part (g.list (p 8 9 30 33) (g.part (g.atom (p 8 8 30 31) (g.implied k.Quote)) (g.part (g.atom (p 9 9 31 33) (g.spelled (k.Name (codes "kw") false))) g.none))) g.none)))) g.none)))) ∷ ((g.list (p 12 15 36 42) (g.part (g.atom (p 13 13 37 39) (g.spelled (k.Name (codes "kw") false))) (g.part (g.atom (p 14 14 40 41) (g.spelled (k.Name (codes "x") false))) g.none)))) ∷ [])) ∷ []) 0 31 Prepare ≡ Prepared (b 0 31 33)
unfolding base_names standard_libraries prelude encode_utf8
implied-rename-second = refl

pub implied-has-no-token : answer_rows (((s 0 1) ∷ (s 1 7) ∷ (s 8 9) ∷ (s 9 15) ∷ (s 16 17) ∷ (s 17 23) ∷ (s 24 28) ∷ (s 28 29) ∷ (s 30 31) ∷ (s 31 33) ∷ (s 33 34) ∷ (s 34 35) ∷ (s 36 37) ∷ (s 37 39) ∷ (s 40 41) ∷ (s 41 42) ∷ []) ∷ []) ((Some (((g.list (p 0 11 0 35) (g.part (g.atom (p 1 1 1 7) (g.spelled (k.Name (codes "import") false))) (g.part (g.list (p 2 10 8 34) (g.part (g.atom (p 3 3 9 15) (g.spelled (k.Name (codes "rename") false))) (g.part (g.list (p 4 7 16 29) (g.part (g.atom (p 5 5 17 23) (g.spelled (k.Name (codes "scheme") false))) (g.part (g.atom (p 6 6 24 28) (g.spelled (k.Name (codes "base") false))) g.none))) (g.part (g.list (p 8 9 30 33) (g.part (g.atom (p 8 8 30 31) (g.implied k.Quote)) (g.part (g.atom (p 9 9 31 33) (g.spelled (k.Name (codes "kw") false))) g.none))) g.none)))) g.none)))) ∷ ((g.list (p 12 15 36 42) (g.part (g.atom (p 13 13 37 39) (g.spelled (k.Name (codes "kw") false))) (g.part (g.atom (p 14 14 40 41) (g.spelled (k.Name (codes "x") false))) g.none)))) ∷ [])) ∷ []) 0 30 Prepare ≡ Nothing
unfolding base_names standard_libraries prelude encode_utf8
implied-has-no-token = refl
