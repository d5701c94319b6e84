-- Open documents, and the occurrences that are spelled together with one of them, each with its prefix.
-- Written by tests/definitions/rows; each row is checked by computing it.
use Rattle.std.specs.Prelude.{◌≡◌, ℕ, false, List, [], ◌∷◌, Some, codes, refl}
use Rattle.scheme_model.specs.declared.Occ.{Occ}
use Rattle.scheme_model.specs.StandardNames.{base_names}
use Rattle.scheme_model.proofs.Shown.{PartRow, class_rows}
use Rattle.std.specs.Char.{encode_utf8}
use Rattle.scheme_model.specs.StandardLibraries.{standard_libraries}
use Rattle.scheme_model.specs.Prelude.{prelude}
use Rattle.scheme_model.specs.Kinds as k
use Rattle.scheme_model.specs.Data as g
use Rattle.scheme_model.specs.Diagnostics.{Span, Bytes}

abbrev s : ℕ → ℕ → Span
s start end = record { start = start; end = end }

abbrev p : ℕ → ℕ → ℕ → ℕ → g.Place
p first last start end = record { first = first; last = last; start = start; end = end }

abbrev b : ℕ → ℕ → ℕ → Bytes
b document start end = record { document = document; span = record { start = start; end = end } }

abbrev a : Bytes → List ℕ → PartRow
a place prefix = record { place = place; prefixes = prefix ∷ [] }

abbrev o : ℕ → ℕ → ℕ → Occ
o unit form token = record { unit = unit; form = form; token = token }

pub prefixed-import : class_rows (((s 0 1) ∷ (s 1 7) ∷ (s 8 9) ∷ (s 9 15) ∷ (s 16 20) ∷ (s 20 21) ∷ (s 22 23) ∷ (s 23 29) ∷ (s 30 31) ∷ (s 31 36) ∷ (s 36 37) ∷ (s 38 40) ∷ (s 40 41) ∷ (s 41 42) ∷ (s 43 44) ∷ (s 44 50) ∷ (s 51 52) ∷ (s 53 54) ∷ (s 54 55) ∷ (s 55 56) ∷ (s 56 57) ∷ []) ∷ ((s 0 1) ∷ (s 1 15) ∷ (s 16 17) ∷ (s 17 22) ∷ (s 22 23) ∷ (s 24 25) ∷ (s 25 31) ∷ (s 32 36) ∷ (s 36 37) ∷ (s 38 39) ∷ (s 39 45) ∷ (s 46 47) ∷ (s 47 53) ∷ (s 54 58) ∷ (s 58 59) ∷ (s 59 60) ∷ (s 61 62) ∷ (s 62 67) ∷ (s 68 69) ∷ (s 69 75) ∷ (s 76 77) ∷ (s 77 81) ∷ (s 82 83) ∷ (s 84 85) ∷ (s 85 86) ∷ (s 87 88) ∷ (s 88 92) ∷ (s 93 94) ∷ (s 95 96) ∷ (s 96 97) ∷ (s 97 98) ∷ (s 98 99) ∷ (s 99 100) ∷ []) ∷ []) ((Some (((g.list (p 0 13 0 42) (g.part (g.atom (p 1 1 1 7) (g.spelled (k.Name (codes "import") false))) (g.part (g.list (p 2 5 8 21) (g.part (g.atom (p 3 3 9 15) (g.spelled (k.Name (codes "scheme") false))) (g.part (g.atom (p 4 4 16 20) (g.spelled (k.Name (codes "base") false))) g.none))) (g.part (g.list (p 6 12 22 41) (g.part (g.atom (p 7 7 23 29) (g.spelled (k.Name (codes "prefix") false))) (g.part (g.list (p 8 10 30 37) (g.part (g.atom (p 9 9 31 36) (g.spelled (k.Name (codes "stack") false))) g.none)) (g.part (g.atom (p 11 11 38 40) (g.spelled (k.Name (codes "s:") false))) g.none)))) g.none))))) ∷ ((g.list (p 14 20 43 57) (g.part (g.atom (p 15 15 44 50) (g.spelled (k.Name (codes "s:push") false))) (g.part (g.atom (p 16 16 51 52) (g.spelled (k.Numeral (codes "1")))) (g.part (g.list (p 17 19 53 56) (g.part (g.atom (p 17 17 53 54) (g.implied k.Quote)) (g.part (g.list (p 18 19 54 56) g.none) g.none))) g.none))))) ∷ [])) ∷ (Some (((g.list (p 0 32 0 100) (g.part (g.atom (p 1 1 1 15) (g.spelled (k.Name (codes "define-library") false))) (g.part (g.list (p 2 4 16 23) (g.part (g.atom (p 3 3 17 22) (g.spelled (k.Name (codes "stack") false))) g.none)) (g.part (g.list (p 5 8 24 37) (g.part (g.atom (p 6 6 25 31) (g.spelled (k.Name (codes "export") false))) (g.part (g.atom (p 7 7 32 36) (g.spelled (k.Name (codes "push") false))) g.none))) (g.part (g.list (p 9 15 38 60) (g.part (g.atom (p 10 10 39 45) (g.spelled (k.Name (codes "import") false))) (g.part (g.list (p 11 14 46 59) (g.part (g.atom (p 12 12 47 53) (g.spelled (k.Name (codes "scheme") false))) (g.part (g.atom (p 13 13 54 58) (g.spelled (k.Name (codes "base") false))) g.none))) g.none))) (g.part (g.list (p 16 31 61 99) (g.part (g.atom (p 17 17 62 67) (g.spelled (k.Name (codes "begin") false))) (g.part (g.list (p 18 30 68 98) (g.part (g.atom (p 19 19 69 75) (g.spelled (k.Name (codes "define") false))) (g.part (g.list (p 20 24 76 86) (g.part (g.atom (p 21 21 77 81) (g.spelled (k.Name (codes "push") false))) (g.part (g.atom (p 22 22 82 83) (g.spelled (k.Name (codes "x") false))) (g.part (g.atom (p 23 23 84 85) (g.spelled (k.Name (codes "s") false))) g.none)))) (g.part (g.list (p 25 29 87 97) (g.part (g.atom (p 26 26 88 92) (g.spelled (k.Name (codes "cons") false))) (g.part (g.atom (p 27 27 93 94) (g.spelled (k.Name (codes "x") false))) (g.part (g.atom (p 28 28 95 96) (g.spelled (k.Name (codes "s") false))) g.none)))) g.none)))) g.none))) g.none))))))) ∷ [])) ∷ []) (o 0 1 1) ≡ ((a (b 0 44 50) (codes "s:")) ∷ (a (b 1 32 36) []) ∷ (a (b 1 77 81) []) ∷ [])
unfolding base_names standard_libraries prelude encode_utf8
prefixed-import = refl

pub renamed-import : class_rows (((s 0 1) ∷ (s 1 7) ∷ (s 8 9) ∷ (s 9 15) ∷ (s 16 20) ∷ (s 20 21) ∷ (s 22 23) ∷ (s 23 29) ∷ (s 30 31) ∷ (s 31 36) ∷ (s 36 37) ∷ (s 38 39) ∷ (s 39 43) ∷ (s 44 47) ∷ (s 47 48) ∷ (s 48 49) ∷ (s 49 50) ∷ (s 51 52) ∷ (s 52 55) ∷ (s 56 57) ∷ (s 58 59) ∷ (s 59 60) ∷ (s 60 61) ∷ (s 61 62) ∷ []) ∷ ((s 0 1) ∷ (s 1 15) ∷ (s 16 17) ∷ (s 17 22) ∷ (s 22 23) ∷ (s 24 25) ∷ (s 25 31) ∷ (s 32 36) ∷ (s 36 37) ∷ (s 38 39) ∷ (s 39 45) ∷ (s 46 47) ∷ (s 47 53) ∷ (s 54 58) ∷ (s 58 59) ∷ (s 59 60) ∷ (s 61 62) ∷ (s 62 67) ∷ (s 68 69) ∷ (s 69 75) ∷ (s 76 77) ∷ (s 77 81) ∷ (s 82 83) ∷ (s 84 85) ∷ (s 85 86) ∷ (s 87 88) ∷ (s 88 92) ∷ (s 93 94) ∷ (s 95 96) ∷ (s 96 97) ∷ (s 97 98) ∷ (s 98 99) ∷ (s 99 100) ∷ []) ∷ []) ((Some (((g.list (p 0 16 0 50) (g.part (g.atom (p 1 1 1 7) (g.spelled (k.Name (codes "import") false))) (g.part (g.list (p 2 5 8 21) (g.part (g.atom (p 3 3 9 15) (g.spelled (k.Name (codes "scheme") false))) (g.part (g.atom (p 4 4 16 20) (g.spelled (k.Name (codes "base") false))) g.none))) (g.part (g.list (p 6 15 22 49) (g.part (g.atom (p 7 7 23 29) (g.spelled (k.Name (codes "rename") false))) (g.part (g.list (p 8 10 30 37) (g.part (g.atom (p 9 9 31 36) (g.spelled (k.Name (codes "stack") false))) g.none)) (g.part (g.list (p 11 14 38 48) (g.part (g.atom (p 12 12 39 43) (g.spelled (k.Name (codes "push") false))) (g.part (g.atom (p 13 13 44 47) (g.spelled (k.Name (codes "add") false))) g.none))) g.none)))) g.none))))) ∷ ((g.list (p 17 23 51 62) (g.part (g.atom (p 18 18 52 55) (g.spelled (k.Name (codes "add") false))) (g.part (g.atom (p 19 19 56 57) (g.spelled (k.Numeral (codes "1")))) (g.part (g.list (p 20 22 58 61) (g.part (g.atom (p 20 20 58 59) (g.implied k.Quote)) (g.part (g.list (p 21 22 59 61) g.none) g.none))) g.none))))) ∷ [])) ∷ (Some (((g.list (p 0 32 0 100) (g.part (g.atom (p 1 1 1 15) (g.spelled (k.Name (codes "define-library") false))) (g.part (g.list (p 2 4 16 23) (g.part (g.atom (p 3 3 17 22) (g.spelled (k.Name (codes "stack") false))) g.none)) (g.part (g.list (p 5 8 24 37) (g.part (g.atom (p 6 6 25 31) (g.spelled (k.Name (codes "export") false))) (g.part (g.atom (p 7 7 32 36) (g.spelled (k.Name (codes "push") false))) g.none))) (g.part (g.list (p 9 15 38 60) (g.part (g.atom (p 10 10 39 45) (g.spelled (k.Name (codes "import") false))) (g.part (g.list (p 11 14 46 59) (g.part (g.atom (p 12 12 47 53) (g.spelled (k.Name (codes "scheme") false))) (g.part (g.atom (p 13 13 54 58) (g.spelled (k.Name (codes "base") false))) g.none))) g.none))) (g.part (g.list (p 16 31 61 99) (g.part (g.atom (p 17 17 62 67) (g.spelled (k.Name (codes "begin") false))) (g.part (g.list (p 18 30 68 98) (g.part (g.atom (p 19 19 69 75) (g.spelled (k.Name (codes "define") false))) (g.part (g.list (p 20 24 76 86) (g.part (g.atom (p 21 21 77 81) (g.spelled (k.Name (codes "push") false))) (g.part (g.atom (p 22 22 82 83) (g.spelled (k.Name (codes "x") false))) (g.part (g.atom (p 23 23 84 85) (g.spelled (k.Name (codes "s") false))) g.none)))) (g.part (g.list (p 25 29 87 97) (g.part (g.atom (p 26 26 88 92) (g.spelled (k.Name (codes "cons") false))) (g.part (g.atom (p 27 27 93 94) (g.spelled (k.Name (codes "x") false))) (g.part (g.atom (p 28 28 95 96) (g.spelled (k.Name (codes "s") false))) g.none)))) g.none)))) g.none))) g.none))))))) ∷ [])) ∷ []) (o 0 1 1) ≡ ((a (b 0 44 47) []) ∷ (a (b 0 52 55) []) ∷ [])
unfolding base_names standard_libraries prelude encode_utf8
renamed-import = refl

pub live-template : class_rows (((s 0 1) ∷ (s 1 14) ∷ (s 15 20) ∷ (s 21 22) ∷ (s 22 34) ∷ (s 35 36) ∷ (s 36 37) ∷ (s 38 39) ∷ (s 39 40) ∷ (s 40 41) ∷ (s 42 43) ∷ (s 44 45) ∷ (s 45 46) ∷ (s 47 48) ∷ (s 48 51) ∷ (s 52 53) ∷ (s 53 54) ∷ (s 54 55) ∷ (s 56 57) ∷ (s 57 58) ∷ (s 58 59) ∷ (s 60 61) ∷ (s 61 63) ∷ (s 64 65) ∷ (s 66 67) ∷ (s 68 69) ∷ (s 69 70) ∷ (s 70 71) ∷ (s 71 72) ∷ (s 72 73) ∷ (s 73 74) ∷ (s 75 76) ∷ (s 76 82) ∷ (s 83 84) ∷ (s 85 86) ∷ (s 86 87) ∷ (s 88 89) ∷ (s 89 94) ∷ (s 95 97) ∷ (s 98 99) ∷ (s 99 100) ∷ []) ∷ []) ((Some (((g.list (p 0 30 0 74) (g.part (g.atom (p 1 1 1 14) (g.spelled (k.Name (codes "define-syntax") false))) (g.part (g.atom (p 2 2 15 20) (g.spelled (k.Name (codes "my-or") false))) (g.part (g.list (p 3 29 21 73) (g.part (g.atom (p 4 4 22 34) (g.spelled (k.Name (codes "syntax-rules") false))) (g.part (g.list (p 5 6 35 37) g.none) (g.part (g.list (p 7 28 38 72) (g.part (g.list (p 8 12 39 46) (g.part (g.atom (p 9 9 40 41) (g.spelled (k.Name (codes "_") false))) (g.part (g.atom (p 10 10 42 43) (g.spelled (k.Name (codes "a") false))) (g.part (g.atom (p 11 11 44 45) (g.spelled (k.Name (codes "b") false))) g.none)))) (g.part (g.list (p 13 27 47 71) (g.part (g.atom (p 14 14 48 51) (g.spelled (k.Name (codes "let") false))) (g.part (g.list (p 15 20 52 59) (g.part (g.list (p 16 19 53 58) (g.part (g.atom (p 17 17 54 55) (g.spelled (k.Name (codes "t") false))) (g.part (g.atom (p 18 18 56 57) (g.spelled (k.Name (codes "a") false))) g.none))) g.none)) (g.part (g.list (p 21 26 60 70) (g.part (g.atom (p 22 22 61 63) (g.spelled (k.Name (codes "if") false))) (g.part (g.atom (p 23 23 64 65) (g.spelled (k.Name (codes "t") false))) (g.part (g.atom (p 24 24 66 67) (g.spelled (k.Name (codes "t") false))) (g.part (g.atom (p 25 25 68 69) (g.spelled (k.Name (codes "b") false))) g.none))))) g.none)))) g.none))) g.none)))) g.none))))) ∷ ((g.list (p 31 35 75 87) (g.part (g.atom (p 32 32 76 82) (g.spelled (k.Name (codes "define") false))) (g.part (g.atom (p 33 33 83 84) (g.spelled (k.Name (codes "t") false))) (g.part (g.atom (p 34 34 85 86) (g.spelled (k.Numeral (codes "5")))) g.none))))) ∷ ((g.list (p 36 40 88 100) (g.part (g.atom (p 37 37 89 94) (g.spelled (k.Name (codes "my-or") false))) (g.part (g.atom (p 38 38 95 97) (g.spelled (k.Truth false))) (g.part (g.atom (p 39 39 98 99) (g.spelled (k.Name (codes "t") false))) g.none))))) ∷ [])) ∷ []) (o 0 1 2) ≡ ((a (b 0 83 84) []) ∷ (a (b 0 98 99) []) ∷ [])
unfolding base_names standard_libraries prelude encode_utf8
live-template = refl

pub template-without-use : class_rows (((s 0 1) ∷ (s 1 14) ∷ (s 15 20) ∷ (s 21 22) ∷ (s 22 34) ∷ (s 35 36) ∷ (s 36 37) ∷ (s 38 39) ∷ (s 39 40) ∷ (s 40 41) ∷ (s 42 43) ∷ (s 44 45) ∷ (s 45 46) ∷ (s 47 48) ∷ (s 48 51) ∷ (s 52 53) ∷ (s 53 54) ∷ (s 54 55) ∷ (s 56 57) ∷ (s 57 58) ∷ (s 58 59) ∷ (s 60 61) ∷ (s 61 63) ∷ (s 64 65) ∷ (s 66 67) ∷ (s 68 69) ∷ (s 69 70) ∷ (s 70 71) ∷ (s 71 72) ∷ (s 72 73) ∷ (s 73 74) ∷ (s 75 76) ∷ (s 76 82) ∷ (s 83 84) ∷ (s 85 86) ∷ (s 86 87) ∷ []) ∷ []) ((Some (((g.list (p 0 30 0 74) (g.part (g.atom (p 1 1 1 14) (g.spelled (k.Name (codes "define-syntax") false))) (g.part (g.atom (p 2 2 15 20) (g.spelled (k.Name (codes "my-or") false))) (g.part (g.list (p 3 29 21 73) (g.part (g.atom (p 4 4 22 34) (g.spelled (k.Name (codes "syntax-rules") false))) (g.part (g.list (p 5 6 35 37) g.none) (g.part (g.list (p 7 28 38 72) (g.part (g.list (p 8 12 39 46) (g.part (g.atom (p 9 9 40 41) (g.spelled (k.Name (codes "_") false))) (g.part (g.atom (p 10 10 42 43) (g.spelled (k.Name (codes "a") false))) (g.part (g.atom (p 11 11 44 45) (g.spelled (k.Name (codes "b") false))) g.none)))) (g.part (g.list (p 13 27 47 71) (g.part (g.atom (p 14 14 48 51) (g.spelled (k.Name (codes "let") false))) (g.part (g.list (p 15 20 52 59) (g.part (g.list (p 16 19 53 58) (g.part (g.atom (p 17 17 54 55) (g.spelled (k.Name (codes "t") false))) (g.part (g.atom (p 18 18 56 57) (g.spelled (k.Name (codes "a") false))) g.none))) g.none)) (g.part (g.list (p 21 26 60 70) (g.part (g.atom (p 22 22 61 63) (g.spelled (k.Name (codes "if") false))) (g.part (g.atom (p 23 23 64 65) (g.spelled (k.Name (codes "t") false))) (g.part (g.atom (p 24 24 66 67) (g.spelled (k.Name (codes "t") false))) (g.part (g.atom (p 25 25 68 69) (g.spelled (k.Name (codes "b") false))) g.none))))) g.none)))) g.none))) g.none)))) g.none))))) ∷ ((g.list (p 31 35 75 87) (g.part (g.atom (p 32 32 76 82) (g.spelled (k.Name (codes "define") false))) (g.part (g.atom (p 33 33 83 84) (g.spelled (k.Name (codes "t") false))) (g.part (g.atom (p 34 34 85 86) (g.spelled (k.Numeral (codes "5")))) g.none))))) ∷ [])) ∷ []) (o 0 1 2) ≡ ((a (b 0 54 55) []) ∷ (a (b 0 64 65) []) ∷ (a (b 0 66 67) []) ∷ (a (b 0 83 84) []) ∷ [])
unfolding base_names standard_libraries prelude encode_utf8
template-without-use = refl

pub rename-unknown-class : class_rows (((s 0 1) ∷ (s 1 7) ∷ (s 8 9) ∷ (s 9 15) ∷ (s 16 17) ∷ (s 17 20) ∷ (s 20 21) ∷ (s 22 23) ∷ (s 23 27) ∷ (s 28 31) ∷ (s 31 32) ∷ (s 32 33) ∷ (s 33 34) ∷ []) ∷ []) ((Some (((g.list (p 0 12 0 34) (g.part (g.atom (p 1 1 1 7) (g.spelled (k.Name (codes "import") false))) (g.part (g.list (p 2 11 8 33) (g.part (g.atom (p 3 3 9 15) (g.spelled (k.Name (codes "rename") false))) (g.part (g.list (p 4 6 16 21) (g.part (g.atom (p 5 5 17 20) (g.spelled (k.Name (codes "unk") false))) g.none)) (g.part (g.list (p 7 10 22 32) (g.part (g.atom (p 8 8 23 27) (g.spelled (k.Name (codes "nope") false))) (g.part (g.atom (p 9 9 28 31) (g.spelled (k.Name (codes "add") false))) g.none))) g.none)))) g.none)))) ∷ [])) ∷ []) (o 0 0 9) ≡ ((a (b 0 28 31) []) ∷ [])
unfolding base_names standard_libraries prelude encode_utf8
rename-unknown-class = refl

pub rename-twice-class : class_rows (((s 0 1) ∷ (s 1 7) ∷ (s 8 9) ∷ (s 9 15) ∷ (s 16 17) ∷ (s 17 20) ∷ (s 20 21) ∷ (s 22 23) ∷ (s 23 26) ∷ (s 27 30) ∷ (s 30 31) ∷ (s 32 33) ∷ (s 33 38) ∷ (s 39 42) ∷ (s 42 43) ∷ (s 43 44) ∷ (s 44 45) ∷ []) ∷ []) ((Some (((g.list (p 0 16 0 45) (g.part (g.atom (p 1 1 1 7) (g.spelled (k.Name (codes "import") false))) (g.part (g.list (p 2 15 8 44) (g.part (g.atom (p 3 3 9 15) (g.spelled (k.Name (codes "rename") false))) (g.part (g.list (p 4 6 16 21) (g.part (g.atom (p 5 5 17 20) (g.spelled (k.Name (codes "unk") false))) g.none)) (g.part (g.list (p 7 10 22 31) (g.part (g.atom (p 8 8 23 26) (g.spelled (k.Name (codes "one") false))) (g.part (g.atom (p 9 9 27 30) (g.spelled (k.Name (codes "two") false))) g.none))) (g.part (g.list (p 11 14 32 43) (g.part (g.atom (p 12 12 33 38) (g.spelled (k.Name (codes "three") false))) (g.part (g.atom (p 13 13 39 42) (g.spelled (k.Name (codes "two") false))) g.none))) g.none))))) g.none)))) ∷ [])) ∷ []) (o 0 0 9) ≡ ((a (b 0 27 30) []) ∷ [])
unfolding base_names standard_libraries prelude encode_utf8
rename-twice-class = refl
