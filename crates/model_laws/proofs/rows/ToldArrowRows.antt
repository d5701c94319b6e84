-- Documents that include one another, and their arrows, from outside.
-- Written by tests/definitions/rows; each row is checked by computing it.
use Rattle.std.specs.Prelude.{◌≡◌, ℕ, false, List, [], ◌∷◌, Some, codes, refl}
use Rattle.scheme_model.specs.StandardNames.{base_names}
use Rattle.scheme_model.proofs.Shown.{ArrowRow}
use Rattle.scheme_model.proofs.ShownIncludes.{told_arrows}
use Rattle.std.specs.Char.{encode_utf8}
use Rattle.scheme_model.specs.StandardLibraries.{standard_libraries}
use Rattle.scheme_model.specs.Prelude.{prelude}
use Rattle.scheme_model.specs.Kinds as k
use Rattle.scheme_model.specs.Data as g
use Rattle.scheme_model.specs.Diagnostics.{Span, Bytes, Diagnostic}

abbrev s : ℕ → ℕ → Span
s start end = record { start = start; end = end }

abbrev p : ℕ → ℕ → ℕ → ℕ → g.Place
p first last start end = record { first = first; last = last; start = start; end = end }

abbrev b : ℕ → ℕ → ℕ → Bytes
b document start end = record { document = document; span = record { start = start; end = end } }

abbrev a : Bytes → Bytes → ArrowRow
a binder target = record { binder = binder; target = target }

abbrev q : ℕ → ℕ → ℕ → ℕ → List ℕ → Diagnostic
q document start end code text = record { document = document; start = start; end = end; code = code; text = text }

pub request_arrows : told_arrows (((s 0 1) ∷ (s 1 7) ∷ (s 8 9) ∷ (s 9 12) ∷ (s 13 14) ∷ (s 14 15) ∷ (s 16 17) ∷ (s 17 18) ∷ (s 19 20) ∷ (s 21 22) ∷ (s 22 23) ∷ (s 23 24) ∷ []) ∷ ((s 0 1) ∷ (s 1 15) ∷ (s 16 17) ∷ (s 17 18) ∷ (s 18 19) ∷ (s 20 21) ∷ (s 21 27) ∷ (s 28 31) ∷ (s 31 32) ∷ (s 33 34) ∷ (s 34 40) ∷ (s 41 42) ∷ (s 42 48) ∷ (s 49 53) ∷ (s 53 54) ∷ (s 54 55) ∷ (s 56 57) ∷ (s 57 64) ∷ (s 65 74) ∷ (s 74 75) ∷ (s 75 76) ∷ []) ∷ []) ((1, (codes "lib.sld"), 1) ∷ (1, (codes "inc.scm"), 0) ∷ (0, (codes "lib.sld"), 1) ∷ (0, (codes "inc.scm"), 0) ∷ []) ((Some (((g.list (p 0 11 0 24) (g.part (g.atom (p 1 1 1 7) (g.spelled (k.Name (codes "define") false))) (g.part (g.list (p 2 5 8 15) (g.part (g.atom (p 3 3 9 12) (g.spelled (k.Name (codes "inc") false))) (g.part (g.atom (p 4 4 13 14) (g.spelled (k.Name (codes "n") false))) g.none))) (g.part (g.list (p 6 10 16 23) (g.part (g.atom (p 7 7 17 18) (g.spelled (k.Name (codes "+") false))) (g.part (g.atom (p 8 8 19 20) (g.spelled (k.Name (codes "n") false))) (g.part (g.atom (p 9 9 21 22) (g.spelled (k.Numeral (codes "1")))) g.none)))) g.none))))) ∷ [])) ∷ (Some (((g.list (p 0 20 0 76) (g.part (g.atom (p 1 1 1 15) (g.spelled (k.Name (codes "define-library") false))) (g.part (g.list (p 2 4 16 19) (g.part (g.atom (p 3 3 17 18) (g.spelled (k.Name (codes "m") false))) g.none)) (g.part (g.list (p 5 8 20 32) (g.part (g.atom (p 6 6 21 27) (g.spelled (k.Name (codes "export") false))) (g.part (g.atom (p 7 7 28 31) (g.spelled (k.Name (codes "inc") false))) g.none))) (g.part (g.list (p 9 15 33 55) (g.part (g.atom (p 10 10 34 40) (g.spelled (k.Name (codes "import") false))) (g.part (g.list (p 11 14 41 54) (g.part (g.atom (p 12 12 42 48) (g.spelled (k.Name (codes "scheme") false))) (g.part (g.atom (p 13 13 49 53) (g.spelled (k.Name (codes "base") false))) g.none))) g.none))) (g.part (g.list (p 16 19 56 75) (g.part (g.atom (p 17 17 57 64) (g.spelled (k.Name (codes "include") false))) (g.part (g.atom (p 18 18 65 74) (g.spelled (k.Quoted (codes "inc.scm")))) g.none))) g.none))))))) ∷ [])) ∷ []) ≡ ((a (b 0 9 12) (b 1 28 31)) ∷ (a (b 0 13 14) (b 0 19 20)) ∷ [])
unfolding base_names standard_libraries prelude encode_utf8
request_arrows = refl

pub macro_of_a_text_arrows : told_arrows (((s 0 1) ∷ (s 1 7) ∷ (s 8 9) ∷ (s 9 15) ∷ (s 16 20) ∷ (s 20 21) ∷ (s 21 22) ∷ (s 23 24) ∷ (s 24 31) ∷ (s 32 39) ∷ (s 39 40) ∷ (s 41 42) ∷ (s 42 46) ∷ (s 47 48) ∷ (s 49 50) ∷ (s 50 51) ∷ (s 52 53) ∷ (s 53 57) ∷ (s 58 59) ∷ (s 60 61) ∷ (s 61 62) ∷ []) ∷ ((s 0 1) ∷ (s 1 14) ∷ (s 15 19) ∷ (s 20 21) ∷ (s 21 33) ∷ (s 34 35) ∷ (s 35 36) ∷ (s 37 38) ∷ (s 38 39) ∷ (s 39 40) ∷ (s 41 42) ∷ (s 43 44) ∷ (s 44 45) ∷ (s 46 47) ∷ (s 47 51) ∷ (s 52 53) ∷ (s 54 55) ∷ (s 55 56) ∷ (s 56 57) ∷ (s 57 58) ∷ (s 58 59) ∷ []) ∷ []) ((0, (codes "m.scm"), 0) ∷ (0, (codes "p.scm"), 1) ∷ (1, (codes "m.scm"), 0) ∷ (1, (codes "p.scm"), 1) ∷ []) ((Some (((g.list (p 0 6 0 22) (g.part (g.atom (p 1 1 1 7) (g.spelled (k.Name (codes "import") false))) (g.part (g.list (p 2 5 8 21) (g.part (g.atom (p 3 3 9 15) (g.spelled (k.Name (codes "scheme") false))) (g.part (g.atom (p 4 4 16 20) (g.spelled (k.Name (codes "base") false))) g.none))) g.none)))) ∷ ((g.list (p 7 10 23 40) (g.part (g.atom (p 8 8 24 31) (g.spelled (k.Name (codes "include") false))) (g.part (g.atom (p 9 9 32 39) (g.spelled (k.Quoted (codes "p.scm")))) g.none)))) ∷ ((g.list (p 11 15 41 51) (g.part (g.atom (p 12 12 42 46) (g.spelled (k.Name (codes "swap") false))) (g.part (g.atom (p 13 13 47 48) (g.spelled (k.Numeral (codes "1")))) (g.part (g.atom (p 14 14 49 50) (g.spelled (k.Numeral (codes "2")))) g.none))))) ∷ ((g.list (p 16 20 52 62) (g.part (g.atom (p 17 17 53 57) (g.spelled (k.Name (codes "swap") false))) (g.part (g.atom (p 18 18 58 59) (g.spelled (k.Numeral (codes "3")))) (g.part (g.atom (p 19 19 60 61) (g.spelled (k.Numeral (codes "4")))) g.none))))) ∷ [])) ∷ (Some (((g.list (p 0 20 0 59) (g.part (g.atom (p 1 1 1 14) (g.spelled (k.Name (codes "define-syntax") false))) (g.part (g.atom (p 2 2 15 19) (g.spelled (k.Name (codes "swap") false))) (g.part (g.list (p 3 19 20 58) (g.part (g.atom (p 4 4 21 33) (g.spelled (k.Name (codes "syntax-rules") false))) (g.part (g.list (p 5 6 34 36) g.none) (g.part (g.list (p 7 18 37 57) (g.part (g.list (p 8 12 38 45) (g.part (g.atom (p 9 9 39 40) (g.spelled (k.Name (codes "_") false))) (g.part (g.atom (p 10 10 41 42) (g.spelled (k.Name (codes "a") false))) (g.part (g.atom (p 11 11 43 44) (g.spelled (k.Name (codes "b") false))) g.none)))) (g.part (g.list (p 13 17 46 56) (g.part (g.atom (p 14 14 47 51) (g.spelled (k.Name (codes "list") false))) (g.part (g.atom (p 15 15 52 53) (g.spelled (k.Name (codes "b") false))) (g.part (g.atom (p 16 16 54 55) (g.spelled (k.Name (codes "a") false))) g.none)))) g.none))) g.none)))) g.none))))) ∷ [])) ∷ []) ≡ ((a (b 1 15 19) (b 0 42 46)) ∷ (a (b 1 15 19) (b 0 53 57)) ∷ (a (b 1 41 42) (b 1 54 55)) ∷ (a (b 1 43 44) (b 1 52 53)) ∷ [])
unfolding base_names standard_libraries prelude encode_utf8
macro_of_a_text_arrows = refl
