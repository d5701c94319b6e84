-- Open documents and their arrows, from outside.
-- Written by tests/definitions/rows; each row is checked by computing it.
use Rattle.std.specs.Prelude.{◌≡◌, ℕ, false, List, [], ◌∷◌, Some, codes, refl}
use Rattle.scheme_model.specs.StandardNames.{base_names}
use Rattle.scheme_model.proofs.Shown.{ArrowRow, arrow_rows}
use Rattle.std.specs.Char.{encode_utf8}
use Rattle.scheme_model.specs.StandardLibraries.{standard_libraries}
use Rattle.scheme_model.specs.Prelude.{prelude}
use Rattle.scheme_model.specs.Kinds as k
use Rattle.scheme_model.specs.Data as g
use Rattle.scheme_model.specs.Diagnostics.{Span, Bytes, Diagnostic}

abbrev s : ℕ → ℕ → Span
s start end = record { start = start; end = end }

abbrev p : ℕ → ℕ → ℕ → ℕ → g.Place
p first last start end = record { first = first; last = last; start = start; end = end }

abbrev b : ℕ → ℕ → ℕ → Bytes
b document start end = record { document = document; span = record { start = start; end = end } }

abbrev a : Bytes → Bytes → ArrowRow
a binder target = record { binder = binder; target = target }

abbrev q : ℕ → ℕ → ℕ → ℕ → List ℕ → Diagnostic
q document start end code text = record { document = document; start = start; end = end; code = code; text = text }

pub definition-of-a-broken-form : arrow_rows (((s 0 1) ∷ (s 1 7) ∷ (s 8 9) ∷ (s 9 15) ∷ (s 16 20) ∷ (s 20 21) ∷ (s 21 22) ∷ (s 23 24) ∷ (s 24 30) ∷ (s 31 32) ∷ (s 32 36) ∷ (s 37 38) ∷ (s 38 39) ∷ (s 40 41) ∷ (s 41 43) ∷ (s 43 44) ∷ (s 44 45) ∷ (s 46 47) ∷ (s 47 51) ∷ (s 52 53) ∷ (s 53 54) ∷ []) ∷ []) ((Some (((g.list (p 0 6 0 22) (g.part (g.atom (p 1 1 1 7) (g.spelled (k.Name (codes "import") false))) (g.part (g.list (p 2 5 8 21) (g.part (g.atom (p 3 3 9 15) (g.spelled (k.Name (codes "scheme") false))) (g.part (g.atom (p 4 4 16 20) (g.spelled (k.Name (codes "base") false))) g.none))) g.none)))) ∷ ((g.list (p 7 16 23 45) (g.part (g.atom (p 8 8 24 30) (g.spelled (k.Name (codes "define") false))) (g.part (g.list (p 9 12 31 39) (g.part (g.atom (p 10 10 32 36) (g.spelled (k.Name (codes "list") false))) (g.part (g.atom (p 11 11 37 38) (g.spelled (k.Name (codes "x") false))) g.none))) (g.part (g.list (p 13 15 40 44) (g.part (g.atom (p 14 14 41 43) (g.spelled (k.Name (codes "if") false))) g.none)) g.none))))) ∷ ((g.list (p 17 20 46 54) (g.part (g.atom (p 18 18 47 51) (g.spelled (k.Name (codes "list") false))) (g.part (g.atom (p 19 19 52 53) (g.spelled (k.Numeral (codes "1")))) g.none)))) ∷ [])) ∷ []) ≡ ((a (b 0 32 36) (b 0 47 51)) ∷ [])
unfolding base_names standard_libraries prelude encode_utf8
definition-of-a-broken-form = refl

pub include-beside-definitions-arrows : arrow_rows (((s 0 1) ∷ (s 1 15) ∷ (s 16 17) ∷ (s 17 18) ∷ (s 18 19) ∷ (s 20 21) ∷ (s 21 27) ∷ (s 28 31) ∷ (s 31 32) ∷ (s 33 34) ∷ (s 34 40) ∷ (s 41 42) ∷ (s 42 48) ∷ (s 49 53) ∷ (s 53 54) ∷ (s 54 55) ∷ (s 56 57) ∷ (s 57 64) ∷ (s 65 72) ∷ (s 72 73) ∷ (s 74 75) ∷ (s 75 80) ∷ (s 81 82) ∷ (s 82 88) ∷ (s 89 92) ∷ (s 93 94) ∷ (s 94 95) ∷ (s 95 96) ∷ (s 96 97) ∷ []) ∷ ((s 0 1) ∷ (s 1 7) ∷ (s 8 9) ∷ (s 9 15) ∷ (s 16 20) ∷ (s 20 21) ∷ (s 22 23) ∷ (s 23 24) ∷ (s 24 25) ∷ (s 25 26) ∷ (s 27 28) ∷ (s 28 32) ∷ (s 33 36) ∷ (s 36 37) ∷ []) ∷ []) ((Some (((g.list (p 0 28 0 97) (g.part (g.atom (p 1 1 1 15) (g.spelled (k.Name (codes "define-library") false))) (g.part (g.list (p 2 4 16 19) (g.part (g.atom (p 3 3 17 18) (g.spelled (k.Name (codes "l") false))) g.none)) (g.part (g.list (p 5 8 20 32) (g.part (g.atom (p 6 6 21 27) (g.spelled (k.Name (codes "export") false))) (g.part (g.atom (p 7 7 28 31) (g.spelled (k.Name (codes "fun") false))) g.none))) (g.part (g.list (p 9 15 33 55) (g.part (g.atom (p 10 10 34 40) (g.spelled (k.Name (codes "import") false))) (g.part (g.list (p 11 14 41 54) (g.part (g.atom (p 12 12 42 48) (g.spelled (k.Name (codes "scheme") false))) (g.part (g.atom (p 13 13 49 53) (g.spelled (k.Name (codes "base") false))) g.none))) g.none))) (g.part (g.list (p 16 19 56 73) (g.part (g.atom (p 17 17 57 64) (g.spelled (k.Name (codes "include") false))) (g.part (g.atom (p 18 18 65 72) (g.spelled (k.Quoted (codes "a.scm")))) g.none))) (g.part (g.list (p 20 27 74 96) (g.part (g.atom (p 21 21 75 80) (g.spelled (k.Name (codes "begin") false))) (g.part (g.list (p 22 26 81 95) (g.part (g.atom (p 23 23 82 88) (g.spelled (k.Name (codes "define") false))) (g.part (g.atom (p 24 24 89 92) (g.spelled (k.Name (codes "fun") false))) (g.part (g.atom (p 25 25 93 94) (g.spelled (k.Numeral (codes "1")))) g.none)))) g.none))) g.none)))))))) ∷ [])) ∷ (Some (((g.list (p 0 9 0 26) (g.part (g.atom (p 1 1 1 7) (g.spelled (k.Name (codes "import") false))) (g.part (g.list (p 2 5 8 21) (g.part (g.atom (p 3 3 9 15) (g.spelled (k.Name (codes "scheme") false))) (g.part (g.atom (p 4 4 16 20) (g.spelled (k.Name (codes "base") false))) g.none))) (g.part (g.list (p 6 8 22 25) (g.part (g.atom (p 7 7 23 24) (g.spelled (k.Name (codes "l") false))) g.none)) g.none))))) ∷ ((g.list (p 10 13 27 37) (g.part (g.atom (p 11 11 28 32) (g.spelled (k.Name (codes "list") false))) (g.part (g.atom (p 12 12 33 36) (g.spelled (k.Name (codes "fun") false))) g.none)))) ∷ [])) ∷ []) ≡ ((a (b 0 89 92) (b 0 28 31)) ∷ (a (b 0 89 92) (b 1 33 36)) ∷ [])
unfolding base_names standard_libraries prelude encode_utf8
include-beside-definitions-arrows = refl

pub standard-name-defined-arrows : arrow_rows (((s 0 1) ∷ (s 1 15) ∷ (s 16 17) ∷ (s 17 23) ∷ (s 24 28) ∷ (s 28 29) ∷ (s 30 31) ∷ (s 31 37) ∷ (s 38 41) ∷ (s 41 42) ∷ (s 43 44) ∷ (s 44 49) ∷ (s 50 51) ∷ (s 51 57) ∷ (s 58 61) ∷ (s 62 63) ∷ (s 63 64) ∷ (s 64 65) ∷ (s 65 66) ∷ []) ∷ ((s 0 1) ∷ (s 1 7) ∷ (s 8 9) ∷ (s 9 15) ∷ (s 16 20) ∷ (s 20 21) ∷ (s 21 22) ∷ (s 23 24) ∷ (s 24 27) ∷ (s 28 29) ∷ (s 29 30) ∷ []) ∷ []) ((Some (((g.list (p 0 18 0 66) (g.part (g.atom (p 1 1 1 15) (g.spelled (k.Name (codes "define-library") false))) (g.part (g.list (p 2 5 16 29) (g.part (g.atom (p 3 3 17 23) (g.spelled (k.Name (codes "scheme") false))) (g.part (g.atom (p 4 4 24 28) (g.spelled (k.Name (codes "base") false))) g.none))) (g.part (g.list (p 6 9 30 42) (g.part (g.atom (p 7 7 31 37) (g.spelled (k.Name (codes "export") false))) (g.part (g.atom (p 8 8 38 41) (g.spelled (k.Name (codes "car") false))) g.none))) (g.part (g.list (p 10 17 43 65) (g.part (g.atom (p 11 11 44 49) (g.spelled (k.Name (codes "begin") false))) (g.part (g.list (p 12 16 50 64) (g.part (g.atom (p 13 13 51 57) (g.spelled (k.Name (codes "define") false))) (g.part (g.atom (p 14 14 58 61) (g.spelled (k.Name (codes "car") false))) (g.part (g.atom (p 15 15 62 63) (g.spelled (k.Numeral (codes "1")))) g.none)))) g.none))) g.none)))))) ∷ [])) ∷ (Some (((g.list (p 0 6 0 22) (g.part (g.atom (p 1 1 1 7) (g.spelled (k.Name (codes "import") false))) (g.part (g.list (p 2 5 8 21) (g.part (g.atom (p 3 3 9 15) (g.spelled (k.Name (codes "scheme") false))) (g.part (g.atom (p 4 4 16 20) (g.spelled (k.Name (codes "base") false))) g.none))) g.none)))) ∷ ((g.list (p 7 10 23 30) (g.part (g.atom (p 8 8 24 27) (g.spelled (k.Name (codes "car") false))) (g.part (g.atom (p 9 9 28 29) (g.spelled (k.Numeral (codes "1")))) g.none)))) ∷ [])) ∷ []) ≡ ([])
unfolding base_names standard_libraries prelude encode_utf8
standard-name-defined-arrows = refl

pub implied-definition-arrows : arrow_rows (((s 0 1) ∷ (s 1 7) ∷ (s 8 9) ∷ (s 9 13) ∷ (s 14 15) ∷ (s 15 21) ∷ (s 22 26) ∷ (s 26 27) ∷ (s 28 34) ∷ (s 34 35) ∷ (s 35 36) ∷ (s 37 38) ∷ (s 38 44) ∷ (s 45 50) ∷ (s 51 52) ∷ (s 52 53) ∷ (s 54 55) ∷ (s 55 56) ∷ []) ∷ []) ((Some (((g.list (p 0 10 0 36) (g.part (g.atom (p 1 1 1 7) (g.spelled (k.Name (codes "import") false))) (g.part (g.list (p 2 9 8 35) (g.part (g.atom (p 3 3 9 13) (g.spelled (k.Name (codes "only") false))) (g.part (g.list (p 4 7 14 27) (g.part (g.atom (p 5 5 15 21) (g.spelled (k.Name (codes "scheme") false))) (g.part (g.atom (p 6 6 22 26) (g.spelled (k.Name (codes "base") false))) g.none))) (g.part (g.atom (p 8 8 28 34) (g.spelled (k.Name (codes "define") false))) g.none)))) g.none)))) ∷ ((g.list (p 11 15 37 53) (g.part (g.atom (p 12 12 38 44) (g.spelled (k.Name (codes "define") false))) (g.part (g.atom (p 13 13 45 50) (g.spelled (k.Name (codes "quote") false))) (g.part (g.atom (p 14 14 51 52) (g.spelled (k.Numeral (codes "1")))) g.none))))) ∷ ((g.list (p 16 17 54 56) (g.part (g.atom (p 16 16 54 55) (g.implied k.Quote)) (g.part (g.atom (p 17 17 55 56) (g.spelled (k.Name (codes "x") false))) g.none)))) ∷ [])) ∷ []) ≡ ([])
unfolding base_names standard_libraries prelude encode_utf8
implied-definition-arrows = refl
