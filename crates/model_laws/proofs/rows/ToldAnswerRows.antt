-- Documents that include one another, and what is answered about a place in one of them, from outside.
-- Written by tests/definitions/rows; each row is checked by computing it.
use Rattle.std.specs.Prelude.{◌≡◌, ℕ, true, false, [], ◌∷◌, Some, None, codes, refl}
use Rattle.scheme_model.specs.StandardNames.{base_names}
use Rattle.scheme_model.proofs.ShownIncludes.{told_answer}
use Rattle.std.specs.Char.{encode_utf8}
use Rattle.scheme_model.specs.StandardLibraries.{standard_libraries}
use Rattle.scheme_model.specs.Prelude.{prelude}
use Rattle.scheme_model.specs.Kinds as k
use Rattle.scheme_model.specs.Data as g
use Rattle.scheme_model.specs.Diagnostics.{Span, Bytes}
use Rattle.scheme_model.specs.Session.{Definition, References, Prepare, Arrows}
use Rattle.scheme_model.specs.Answers.{Places, Prepared, Drawn}
use Rattle.std.specs.Prelude.{true, false}

abbrev s : ℕ → ℕ → Span
s start end = record { start = start; end = end }

abbrev p : ℕ → ℕ → ℕ → ℕ → g.Place
p first last start end = record { first = first; last = last; start = start; end = end }

abbrev b : ℕ → ℕ → ℕ → Bytes
b document start end = record { document = document; span = record { start = start; end = end } }

pub request_definition : told_answer (((s 0 1) ∷ (s 1 7) ∷ (s 8 9) ∷ (s 9 12) ∷ (s 13 14) ∷ (s 14 15) ∷ (s 16 17) ∷ (s 17 18) ∷ (s 19 20) ∷ (s 21 22) ∷ (s 22 23) ∷ (s 23 24) ∷ []) ∷ ((s 0 1) ∷ (s 1 15) ∷ (s 16 17) ∷ (s 17 18) ∷ (s 18 19) ∷ (s 20 21) ∷ (s 21 27) ∷ (s 28 31) ∷ (s 31 32) ∷ (s 33 34) ∷ (s 34 40) ∷ (s 41 42) ∷ (s 42 48) ∷ (s 49 53) ∷ (s 53 54) ∷ (s 54 55) ∷ (s 56 57) ∷ (s 57 64) ∷ (s 65 74) ∷ (s 74 75) ∷ (s 75 76) ∷ []) ∷ []) ((1, (codes "lib.sld"), 1) ∷ (1, (codes "inc.scm"), 0) ∷ (0, (codes "lib.sld"), 1) ∷ (0, (codes "inc.scm"), 0) ∷ []) ((Some (((g.list (p 0 11 0 24) (g.part (g.atom (p 1 1 1 7) (g.spelled (k.Name (codes "define") false))) (g.part (g.list (p 2 5 8 15) (g.part (g.atom (p 3 3 9 12) (g.spelled (k.Name (codes "inc") false))) (g.part (g.atom (p 4 4 13 14) (g.spelled (k.Name (codes "n") false))) g.none))) (g.part (g.list (p 6 10 16 23) (g.part (g.atom (p 7 7 17 18) (g.spelled (k.Name (codes "+") false))) (g.part (g.atom (p 8 8 19 20) (g.spelled (k.Name (codes "n") false))) (g.part (g.atom (p 9 9 21 22) (g.spelled (k.Numeral (codes "1")))) g.none)))) g.none))))) ∷ [])) ∷ (Some (((g.list (p 0 20 0 76) (g.part (g.atom (p 1 1 1 15) (g.spelled (k.Name (codes "define-library") false))) (g.part (g.list (p 2 4 16 19) (g.part (g.atom (p 3 3 17 18) (g.spelled (k.Name (codes "m") false))) g.none)) (g.part (g.list (p 5 8 20 32) (g.part (g.atom (p 6 6 21 27) (g.spelled (k.Name (codes "export") false))) (g.part (g.atom (p 7 7 28 31) (g.spelled (k.Name (codes "inc") false))) g.none))) (g.part (g.list (p 9 15 33 55) (g.part (g.atom (p 10 10 34 40) (g.spelled (k.Name (codes "import") false))) (g.part (g.list (p 11 14 41 54) (g.part (g.atom (p 12 12 42 48) (g.spelled (k.Name (codes "scheme") false))) (g.part (g.atom (p 13 13 49 53) (g.spelled (k.Name (codes "base") false))) g.none))) g.none))) (g.part (g.list (p 16 19 56 75) (g.part (g.atom (p 17 17 57 64) (g.spelled (k.Name (codes "include") false))) (g.part (g.atom (p 18 18 65 74) (g.spelled (k.Quoted (codes "inc.scm")))) g.none))) g.none))))))) ∷ [])) ∷ []) 1 28 Definition ≡ Places (((b 0 9 12)) ∷ [])
unfolding base_names standard_libraries prelude encode_utf8
request_definition = refl

pub request_references : told_answer (((s 0 1) ∷ (s 1 7) ∷ (s 8 9) ∷ (s 9 12) ∷ (s 13 14) ∷ (s 14 15) ∷ (s 16 17) ∷ (s 17 18) ∷ (s 19 20) ∷ (s 21 22) ∷ (s 22 23) ∷ (s 23 24) ∷ []) ∷ ((s 0 1) ∷ (s 1 15) ∷ (s 16 17) ∷ (s 17 18) ∷ (s 18 19) ∷ (s 20 21) ∷ (s 21 27) ∷ (s 28 31) ∷ (s 31 32) ∷ (s 33 34) ∷ (s 34 40) ∷ (s 41 42) ∷ (s 42 48) ∷ (s 49 53) ∷ (s 53 54) ∷ (s 54 55) ∷ (s 56 57) ∷ (s 57 64) ∷ (s 65 74) ∷ (s 74 75) ∷ (s 75 76) ∷ []) ∷ []) ((1, (codes "lib.sld"), 1) ∷ (1, (codes "inc.scm"), 0) ∷ (0, (codes "lib.sld"), 1) ∷ (0, (codes "inc.scm"), 0) ∷ []) ((Some (((g.list (p 0 11 0 24) (g.part (g.atom (p 1 1 1 7) (g.spelled (k.Name (codes "define") false))) (g.part (g.list (p 2 5 8 15) (g.part (g.atom (p 3 3 9 12) (g.spelled (k.Name (codes "inc") false))) (g.part (g.atom (p 4 4 13 14) (g.spelled (k.Name (codes "n") false))) g.none))) (g.part (g.list (p 6 10 16 23) (g.part (g.atom (p 7 7 17 18) (g.spelled (k.Name (codes "+") false))) (g.part (g.atom (p 8 8 19 20) (g.spelled (k.Name (codes "n") false))) (g.part (g.atom (p 9 9 21 22) (g.spelled (k.Numeral (codes "1")))) g.none)))) g.none))))) ∷ [])) ∷ (Some (((g.list (p 0 20 0 76) (g.part (g.atom (p 1 1 1 15) (g.spelled (k.Name (codes "define-library") false))) (g.part (g.list (p 2 4 16 19) (g.part (g.atom (p 3 3 17 18) (g.spelled (k.Name (codes "m") false))) g.none)) (g.part (g.list (p 5 8 20 32) (g.part (g.atom (p 6 6 21 27) (g.spelled (k.Name (codes "export") false))) (g.part (g.atom (p 7 7 28 31) (g.spelled (k.Name (codes "inc") false))) g.none))) (g.part (g.list (p 9 15 33 55) (g.part (g.atom (p 10 10 34 40) (g.spelled (k.Name (codes "import") false))) (g.part (g.list (p 11 14 41 54) (g.part (g.atom (p 12 12 42 48) (g.spelled (k.Name (codes "scheme") false))) (g.part (g.atom (p 13 13 49 53) (g.spelled (k.Name (codes "base") false))) g.none))) g.none))) (g.part (g.list (p 16 19 56 75) (g.part (g.atom (p 17 17 57 64) (g.spelled (k.Name (codes "include") false))) (g.part (g.atom (p 18 18 65 74) (g.spelled (k.Quoted (codes "inc.scm")))) g.none))) g.none))))))) ∷ [])) ∷ []) 0 9 (References true) ≡ Places (((b 0 9 12)) ∷ ((b 1 28 31)) ∷ [])
unfolding base_names standard_libraries prelude encode_utf8
request_references = refl

pub request_prepare : told_answer (((s 0 1) ∷ (s 1 7) ∷ (s 8 9) ∷ (s 9 12) ∷ (s 13 14) ∷ (s 14 15) ∷ (s 16 17) ∷ (s 17 18) ∷ (s 19 20) ∷ (s 21 22) ∷ (s 22 23) ∷ (s 23 24) ∷ []) ∷ ((s 0 1) ∷ (s 1 15) ∷ (s 16 17) ∷ (s 17 18) ∷ (s 18 19) ∷ (s 20 21) ∷ (s 21 27) ∷ (s 28 31) ∷ (s 31 32) ∷ (s 33 34) ∷ (s 34 40) ∷ (s 41 42) ∷ (s 42 48) ∷ (s 49 53) ∷ (s 53 54) ∷ (s 54 55) ∷ (s 56 57) ∷ (s 57 64) ∷ (s 65 74) ∷ (s 74 75) ∷ (s 75 76) ∷ []) ∷ []) ((1, (codes "lib.sld"), 1) ∷ (1, (codes "inc.scm"), 0) ∷ (0, (codes "lib.sld"), 1) ∷ (0, (codes "inc.scm"), 0) ∷ []) ((Some (((g.list (p 0 11 0 24) (g.part (g.atom (p 1 1 1 7) (g.spelled (k.Name (codes "define") false))) (g.part (g.list (p 2 5 8 15) (g.part (g.atom (p 3 3 9 12) (g.spelled (k.Name (codes "inc") false))) (g.part (g.atom (p 4 4 13 14) (g.spelled (k.Name (codes "n") false))) g.none))) (g.part (g.list (p 6 10 16 23) (g.part (g.atom (p 7 7 17 18) (g.spelled (k.Name (codes "+") false))) (g.part (g.atom (p 8 8 19 20) (g.spelled (k.Name (codes "n") false))) (g.part (g.atom (p 9 9 21 22) (g.spelled (k.Numeral (codes "1")))) g.none)))) g.none))))) ∷ [])) ∷ (Some (((g.list (p 0 20 0 76) (g.part (g.atom (p 1 1 1 15) (g.spelled (k.Name (codes "define-library") false))) (g.part (g.list (p 2 4 16 19) (g.part (g.atom (p 3 3 17 18) (g.spelled (k.Name (codes "m") false))) g.none)) (g.part (g.list (p 5 8 20 32) (g.part (g.atom (p 6 6 21 27) (g.spelled (k.Name (codes "export") false))) (g.part (g.atom (p 7 7 28 31) (g.spelled (k.Name (codes "inc") false))) g.none))) (g.part (g.list (p 9 15 33 55) (g.part (g.atom (p 10 10 34 40) (g.spelled (k.Name (codes "import") false))) (g.part (g.list (p 11 14 41 54) (g.part (g.atom (p 12 12 42 48) (g.spelled (k.Name (codes "scheme") false))) (g.part (g.atom (p 13 13 49 53) (g.spelled (k.Name (codes "base") false))) g.none))) g.none))) (g.part (g.list (p 16 19 56 75) (g.part (g.atom (p 17 17 57 64) (g.spelled (k.Name (codes "include") false))) (g.part (g.atom (p 18 18 65 74) (g.spelled (k.Quoted (codes "inc.scm")))) g.none))) g.none))))))) ∷ [])) ∷ []) 0 9 Prepare ≡ Prepared (b 0 9 12)
unfolding base_names standard_libraries prelude encode_utf8
request_prepare = refl

pub request_drawn : told_answer (((s 0 1) ∷ (s 1 7) ∷ (s 8 9) ∷ (s 9 12) ∷ (s 13 14) ∷ (s 14 15) ∷ (s 16 17) ∷ (s 17 18) ∷ (s 19 20) ∷ (s 21 22) ∷ (s 22 23) ∷ (s 23 24) ∷ []) ∷ ((s 0 1) ∷ (s 1 15) ∷ (s 16 17) ∷ (s 17 18) ∷ (s 18 19) ∷ (s 20 21) ∷ (s 21 27) ∷ (s 28 31) ∷ (s 31 32) ∷ (s 33 34) ∷ (s 34 40) ∷ (s 41 42) ∷ (s 42 48) ∷ (s 49 53) ∷ (s 53 54) ∷ (s 54 55) ∷ (s 56 57) ∷ (s 57 64) ∷ (s 65 74) ∷ (s 74 75) ∷ (s 75 76) ∷ []) ∷ []) ((1, (codes "lib.sld"), 1) ∷ (1, (codes "inc.scm"), 0) ∷ (0, (codes "lib.sld"), 1) ∷ (0, (codes "inc.scm"), 0) ∷ []) ((Some (((g.list (p 0 11 0 24) (g.part (g.atom (p 1 1 1 7) (g.spelled (k.Name (codes "define") false))) (g.part (g.list (p 2 5 8 15) (g.part (g.atom (p 3 3 9 12) (g.spelled (k.Name (codes "inc") false))) (g.part (g.atom (p 4 4 13 14) (g.spelled (k.Name (codes "n") false))) g.none))) (g.part (g.list (p 6 10 16 23) (g.part (g.atom (p 7 7 17 18) (g.spelled (k.Name (codes "+") false))) (g.part (g.atom (p 8 8 19 20) (g.spelled (k.Name (codes "n") false))) (g.part (g.atom (p 9 9 21 22) (g.spelled (k.Numeral (codes "1")))) g.none)))) g.none))))) ∷ [])) ∷ (Some (((g.list (p 0 20 0 76) (g.part (g.atom (p 1 1 1 15) (g.spelled (k.Name (codes "define-library") false))) (g.part (g.list (p 2 4 16 19) (g.part (g.atom (p 3 3 17 18) (g.spelled (k.Name (codes "m") false))) g.none)) (g.part (g.list (p 5 8 20 32) (g.part (g.atom (p 6 6 21 27) (g.spelled (k.Name (codes "export") false))) (g.part (g.atom (p 7 7 28 31) (g.spelled (k.Name (codes "inc") false))) g.none))) (g.part (g.list (p 9 15 33 55) (g.part (g.atom (p 10 10 34 40) (g.spelled (k.Name (codes "import") false))) (g.part (g.list (p 11 14 41 54) (g.part (g.atom (p 12 12 42 48) (g.spelled (k.Name (codes "scheme") false))) (g.part (g.atom (p 13 13 49 53) (g.spelled (k.Name (codes "base") false))) g.none))) g.none))) (g.part (g.list (p 16 19 56 75) (g.part (g.atom (p 17 17 57 64) (g.spelled (k.Name (codes "include") false))) (g.part (g.atom (p 18 18 65 74) (g.spelled (k.Quoted (codes "inc.scm")))) g.none))) g.none))))))) ∷ [])) ∷ []) 0 9 Arrows ≡ Drawn (((b 0 9 12, b 1 28 31)) ∷ ((b 0 13 14, b 0 19 20)) ∷ [])
unfolding base_names standard_libraries prelude encode_utf8
request_drawn = refl

pub text_of_two_units_definition : told_answer (((s 0 1) ∷ (s 1 7) ∷ (s 8 9) ∷ (s 9 15) ∷ (s 16 20) ∷ (s 20 21) ∷ (s 21 22) ∷ (s 23 24) ∷ (s 24 31) ∷ (s 32 39) ∷ (s 39 40) ∷ (s 41 42) ∷ []) ∷ ((s 0 1) ∷ (s 1 7) ∷ (s 8 9) ∷ (s 9 15) ∷ (s 16 20) ∷ (s 20 21) ∷ (s 21 22) ∷ (s 23 24) ∷ (s 24 31) ∷ (s 32 39) ∷ (s 39 40) ∷ (s 41 42) ∷ []) ∷ ((s 0 1) ∷ (s 1 7) ∷ (s 8 9) ∷ (s 9 15) ∷ (s 16 20) ∷ (s 20 21) ∷ (s 21 22) ∷ (s 23 24) ∷ (s 24 30) ∷ (s 31 32) ∷ (s 33 34) ∷ (s 34 35) ∷ (s 36 37) ∷ []) ∷ ((s 0 1) ∷ (s 1 7) ∷ (s 8 9) ∷ (s 10 11) ∷ (s 11 12) ∷ []) ∷ []) ((0, (codes "a.scm"), 0) ∷ (0, (codes "b.scm"), 1) ∷ (0, (codes "c.scm"), 2) ∷ (0, (codes "p.scm"), 3) ∷ (1, (codes "a.scm"), 0) ∷ (1, (codes "b.scm"), 1) ∷ (1, (codes "c.scm"), 2) ∷ (1, (codes "p.scm"), 3) ∷ (2, (codes "a.scm"), 0) ∷ (2, (codes "b.scm"), 1) ∷ (2, (codes "c.scm"), 2) ∷ (2, (codes "p.scm"), 3) ∷ (3, (codes "a.scm"), 0) ∷ (3, (codes "b.scm"), 1) ∷ (3, (codes "c.scm"), 2) ∷ (3, (codes "p.scm"), 3) ∷ []) ((Some (((g.list (p 0 6 0 22) (g.part (g.atom (p 1 1 1 7) (g.spelled (k.Name (codes "import") false))) (g.part (g.list (p 2 5 8 21) (g.part (g.atom (p 3 3 9 15) (g.spelled (k.Name (codes "scheme") false))) (g.part (g.atom (p 4 4 16 20) (g.spelled (k.Name (codes "base") false))) g.none))) g.none)))) ∷ ((g.list (p 7 10 23 40) (g.part (g.atom (p 8 8 24 31) (g.spelled (k.Name (codes "include") false))) (g.part (g.atom (p 9 9 32 39) (g.spelled (k.Quoted (codes "p.scm")))) g.none)))) ∷ ((g.atom (p 11 11 41 42) (g.spelled (k.Name (codes "x") false)))) ∷ [])) ∷ (Some (((g.list (p 0 6 0 22) (g.part (g.atom (p 1 1 1 7) (g.spelled (k.Name (codes "import") false))) (g.part (g.list (p 2 5 8 21) (g.part (g.atom (p 3 3 9 15) (g.spelled (k.Name (codes "scheme") false))) (g.part (g.atom (p 4 4 16 20) (g.spelled (k.Name (codes "base") false))) g.none))) g.none)))) ∷ ((g.list (p 7 10 23 40) (g.part (g.atom (p 8 8 24 31) (g.spelled (k.Name (codes "include") false))) (g.part (g.atom (p 9 9 32 39) (g.spelled (k.Quoted (codes "p.scm")))) g.none)))) ∷ ((g.atom (p 11 11 41 42) (g.spelled (k.Name (codes "x") false)))) ∷ [])) ∷ (Some (((g.list (p 0 6 0 22) (g.part (g.atom (p 1 1 1 7) (g.spelled (k.Name (codes "import") false))) (g.part (g.list (p 2 5 8 21) (g.part (g.atom (p 3 3 9 15) (g.spelled (k.Name (codes "scheme") false))) (g.part (g.atom (p 4 4 16 20) (g.spelled (k.Name (codes "base") false))) g.none))) g.none)))) ∷ ((g.list (p 7 11 23 35) (g.part (g.atom (p 8 8 24 30) (g.spelled (k.Name (codes "define") false))) (g.part (g.atom (p 9 9 31 32) (g.spelled (k.Name (codes "x") false))) (g.part (g.atom (p 10 10 33 34) (g.spelled (k.Numeral (codes "1")))) g.none))))) ∷ ((g.atom (p 12 12 36 37) (g.spelled (k.Name (codes "x") false)))) ∷ [])) ∷ (Some (((g.list (p 0 4 0 12) (g.part (g.atom (p 1 1 1 7) (g.spelled (k.Name (codes "define") false))) (g.part (g.atom (p 2 2 8 9) (g.spelled (k.Name (codes "x") false))) (g.part (g.atom (p 3 3 10 11) (g.spelled (k.Numeral (codes "1")))) g.none))))) ∷ [])) ∷ []) 0 41 Definition ≡ Places (((b 3 8 9)) ∷ [])
unfolding base_names standard_libraries prelude encode_utf8
text_of_two_units_definition = refl

pub text_of_two_units_references : told_answer (((s 0 1) ∷ (s 1 7) ∷ (s 8 9) ∷ (s 9 15) ∷ (s 16 20) ∷ (s 20 21) ∷ (s 21 22) ∷ (s 23 24) ∷ (s 24 31) ∷ (s 32 39) ∷ (s 39 40) ∷ (s 41 42) ∷ []) ∷ ((s 0 1) ∷ (s 1 7) ∷ (s 8 9) ∷ (s 9 15) ∷ (s 16 20) ∷ (s 20 21) ∷ (s 21 22) ∷ (s 23 24) ∷ (s 24 31) ∷ (s 32 39) ∷ (s 39 40) ∷ (s 41 42) ∷ []) ∷ ((s 0 1) ∷ (s 1 7) ∷ (s 8 9) ∷ (s 9 15) ∷ (s 16 20) ∷ (s 20 21) ∷ (s 21 22) ∷ (s 23 24) ∷ (s 24 30) ∷ (s 31 32) ∷ (s 33 34) ∷ (s 34 35) ∷ (s 36 37) ∷ []) ∷ ((s 0 1) ∷ (s 1 7) ∷ (s 8 9) ∷ (s 10 11) ∷ (s 11 12) ∷ []) ∷ []) ((0, (codes "a.scm"), 0) ∷ (0, (codes "b.scm"), 1) ∷ (0, (codes "c.scm"), 2) ∷ (0, (codes "p.scm"), 3) ∷ (1, (codes "a.scm"), 0) ∷ (1, (codes "b.scm"), 1) ∷ (1, (codes "c.scm"), 2) ∷ (1, (codes "p.scm"), 3) ∷ (2, (codes "a.scm"), 0) ∷ (2, (codes "b.scm"), 1) ∷ (2, (codes "c.scm"), 2) ∷ (2, (codes "p.scm"), 3) ∷ (3, (codes "a.scm"), 0) ∷ (3, (codes "b.scm"), 1) ∷ (3, (codes "c.scm"), 2) ∷ (3, (codes "p.scm"), 3) ∷ []) ((Some (((g.list (p 0 6 0 22) (g.part (g.atom (p 1 1 1 7) (g.spelled (k.Name (codes "import") false))) (g.part (g.list (p 2 5 8 21) (g.part (g.atom (p 3 3 9 15) (g.spelled (k.Name (codes "scheme") false))) (g.part (g.atom (p 4 4 16 20) (g.spelled (k.Name (codes "base") false))) g.none))) g.none)))) ∷ ((g.list (p 7 10 23 40) (g.part (g.atom (p 8 8 24 31) (g.spelled (k.Name (codes "include") false))) (g.part (g.atom (p 9 9 32 39) (g.spelled (k.Quoted (codes "p.scm")))) g.none)))) ∷ ((g.atom (p 11 11 41 42) (g.spelled (k.Name (codes "x") false)))) ∷ [])) ∷ (Some (((g.list (p 0 6 0 22) (g.part (g.atom (p 1 1 1 7) (g.spelled (k.Name (codes "import") false))) (g.part (g.list (p 2 5 8 21) (g.part (g.atom (p 3 3 9 15) (g.spelled (k.Name (codes "scheme") false))) (g.part (g.atom (p 4 4 16 20) (g.spelled (k.Name (codes "base") false))) g.none))) g.none)))) ∷ ((g.list (p 7 10 23 40) (g.part (g.atom (p 8 8 24 31) (g.spelled (k.Name (codes "include") false))) (g.part (g.atom (p 9 9 32 39) (g.spelled (k.Quoted (codes "p.scm")))) g.none)))) ∷ ((g.atom (p 11 11 41 42) (g.spelled (k.Name (codes "x") false)))) ∷ [])) ∷ (Some (((g.list (p 0 6 0 22) (g.part (g.atom (p 1 1 1 7) (g.spelled (k.Name (codes "import") false))) (g.part (g.list (p 2 5 8 21) (g.part (g.atom (p 3 3 9 15) (g.spelled (k.Name (codes "scheme") false))) (g.part (g.atom (p 4 4 16 20) (g.spelled (k.Name (codes "base") false))) g.none))) g.none)))) ∷ ((g.list (p 7 11 23 35) (g.part (g.atom (p 8 8 24 30) (g.spelled (k.Name (codes "define") false))) (g.part (g.atom (p 9 9 31 32) (g.spelled (k.Name (codes "x") false))) (g.part (g.atom (p 10 10 33 34) (g.spelled (k.Numeral (codes "1")))) g.none))))) ∷ ((g.atom (p 12 12 36 37) (g.spelled (k.Name (codes "x") false)))) ∷ [])) ∷ (Some (((g.list (p 0 4 0 12) (g.part (g.atom (p 1 1 1 7) (g.spelled (k.Name (codes "define") false))) (g.part (g.atom (p 2 2 8 9) (g.spelled (k.Name (codes "x") false))) (g.part (g.atom (p 3 3 10 11) (g.spelled (k.Numeral (codes "1")))) g.none))))) ∷ [])) ∷ []) 3 8 (References false) ≡ Places (((b 0 41 42)) ∷ ((b 1 41 42)) ∷ [])
unfolding base_names standard_libraries prelude encode_utf8
text_of_two_units_references = refl

pub realistic_definition : told_answer (((s 0 1) ∷ (s 1 15) ∷ (s 16 17) ∷ (s 17 20) ∷ (s 20 21) ∷ (s 24 25) ∷ (s 25 31) ∷ (s 32 37) ∷ (s 38 43) ∷ (s 43 44) ∷ (s 47 48) ∷ (s 48 54) ∷ (s 55 56) ∷ (s 56 62) ∷ (s 63 67) ∷ (s 67 68) ∷ (s 68 69) ∷ (s 72 73) ∷ (s 73 78) ∷ (s 83 84) ∷ (s 84 97) ∷ (s 98 103) ∷ (s 110 111) ∷ (s 111 123) ∷ (s 124 125) ∷ (s 125 126) ∷ (s 135 136) ∷ (s 136 137) ∷ (s 137 138) ∷ (s 139 140) ∷ (s 141 142) ∷ (s 143 146) ∷ (s 146 147) ∷ (s 148 149) ∷ (s 149 152) ∷ (s 153 155) ∷ (s 156 157) ∷ (s 157 158) ∷ (s 159 160) ∷ (s 160 164) ∷ (s 165 166) ∷ (s 167 168) ∷ (s 169 172) ∷ (s 173 174) ∷ (s 174 176) ∷ (s 176 177) ∷ (s 177 178) ∷ (s 178 179) ∷ (s 179 180) ∷ (s 180 181) ∷ (s 181 182) ∷ (s 187 188) ∷ (s 188 201) ∷ (s 202 207) ∷ (s 214 215) ∷ (s 215 227) ∷ (s 228 229) ∷ (s 229 230) ∷ (s 239 240) ∷ (s 240 241) ∷ (s 241 242) ∷ (s 242 243) ∷ (s 244 246) ∷ (s 246 247) ∷ (s 256 257) ∷ (s 257 258) ∷ (s 258 259) ∷ (s 260 261) ∷ (s 261 262) ∷ (s 263 264) ∷ (s 264 265) ∷ (s 274 275) ∷ (s 275 276) ∷ (s 276 277) ∷ (s 278 279) ∷ (s 280 281) ∷ (s 282 285) ∷ (s 285 286) ∷ (s 287 288) ∷ (s 288 291) ∷ (s 292 293) ∷ (s 293 294) ∷ (s 294 295) ∷ (s 296 297) ∷ (s 297 298) ∷ (s 298 299) ∷ (s 300 301) ∷ (s 301 303) ∷ (s 304 305) ∷ (s 306 307) ∷ (s 308 309) ∷ (s 309 314) ∷ (s 315 316) ∷ (s 317 320) ∷ (s 320 321) ∷ (s 321 322) ∷ (s 322 323) ∷ (s 323 324) ∷ (s 324 325) ∷ (s 325 326) ∷ (s 326 327) ∷ (s 327 328) ∷ []) ∷ ((s 0 1) ∷ (s 1 7) ∷ (s 8 9) ∷ (s 9 15) ∷ (s 16 20) ∷ (s 20 21) ∷ (s 22 23) ∷ (s 23 29) ∷ (s 30 35) ∷ (s 35 36) ∷ (s 37 38) ∷ (s 38 42) ∷ (s 43 44) ∷ (s 44 45) ∷ (s 46 47) ∷ (s 47 52) ∷ (s 52 53) ∷ (s 54 55) ∷ (s 55 58) ∷ (s 58 59) ∷ (s 59 60) ∷ (s 61 62) ∷ (s 62 68) ∷ (s 69 70) ∷ (s 71 72) ∷ (s 72 82) ∷ (s 83 84) ∷ (s 85 86) ∷ (s 86 87) ∷ (s 87 88) ∷ (s 89 90) ∷ (s 90 96) ∷ (s 97 98) ∷ (s 98 101) ∷ (s 102 103) ∷ (s 103 104) ∷ (s 107 108) ∷ (s 108 118) ∷ (s 119 120) ∷ (s 120 121) ∷ (s 121 122) ∷ (s 122 123) ∷ (s 124 125) ∷ (s 125 126) ∷ (s 127 128) ∷ (s 128 134) ∷ (s 135 136) ∷ (s 137 138) ∷ (s 138 139) ∷ (s 139 140) ∷ (s 140 141) ∷ (s 146 147) ∷ (s 147 149) ∷ (s 150 151) ∷ (s 151 152) ∷ (s 152 153) ∷ (s 154 155) ∷ (s 156 157) ∷ (s 157 158) ∷ (s 159 160) ∷ (s 161 162) ∷ (s 162 163) ∷ (s 163 164) ∷ (s 165 166) ∷ (s 166 169) ∷ (s 170 171) ∷ (s 171 172) ∷ (s 172 173) ∷ (s 174 175) ∷ (s 175 179) ∷ (s 180 181) ∷ (s 182 185) ∷ (s 185 186) ∷ (s 186 187) ∷ (s 187 188) ∷ (s 197 198) ∷ (s 198 199) ∷ (s 199 200) ∷ (s 201 202) ∷ (s 203 204) ∷ (s 204 205) ∷ (s 206 207) ∷ (s 207 212) ∷ (s 213 214) ∷ (s 214 218) ∷ (s 219 220) ∷ (s 221 224) ∷ (s 224 225) ∷ (s 226 227) ∷ (s 227 228) ∷ (s 228 229) ∷ (s 236 237) ∷ (s 237 242) ∷ (s 243 244) ∷ (s 244 245) ∷ (s 246 247) ∷ (s 247 249) ∷ (s 250 251) ∷ (s 251 258) ∷ (s 259 260) ∷ (s 260 261) ∷ (s 261 262) ∷ (s 262 263) ∷ (s 272 273) ∷ (s 273 278) ∷ (s 279 280) ∷ (s 280 281) ∷ (s 282 283) ∷ (s 284 285) ∷ (s 285 286) ∷ (s 287 288) ∷ (s 288 292) ∷ (s 293 294) ∷ (s 295 296) ∷ (s 296 297) ∷ (s 298 299) ∷ (s 300 301) ∷ (s 301 302) ∷ (s 302 303) ∷ (s 303 304) ∷ (s 304 305) ∷ (s 305 306) ∷ (s 306 307) ∷ (s 307 308) ∷ (s 309 310) ∷ (s 310 317) ∷ (s 318 319) ∷ (s 319 322) ∷ (s 323 324) ∷ (s 324 331) ∷ (s 332 333) ∷ (s 333 334) ∷ (s 334 335) ∷ (s 335 336) ∷ []) ∷ ([]) ∷ ((s 0 1) ∷ (s 1 15) ∷ (s 16 17) ∷ (s 17 22) ∷ (s 22 23) ∷ (s 24 25) ∷ (s 25 31) ∷ (s 32 42) ∷ (s 43 50) ∷ (s 50 51) ∷ (s 52 53) ∷ (s 53 59) ∷ (s 60 61) ∷ (s 61 67) ∷ (s 68 72) ∷ (s 72 73) ∷ (s 73 74) ∷ (s 75 76) ∷ (s 76 81) ∷ (s 82 83) ∷ (s 83 101) ∷ (s 102 107) ∷ (s 108 109) ∷ (s 109 119) ∷ (s 120 121) ∷ (s 122 123) ∷ (s 123 124) ∷ (s 125 131) ∷ (s 132 133) ∷ (s 133 134) ∷ (s 135 142) ∷ (s 142 143) ∷ (s 144 145) ∷ (s 145 146) ∷ (s 147 154) ∷ (s 154 155) ∷ (s 155 156) ∷ (s 156 157) ∷ (s 157 158) ∷ []) ∷ []) ((3, (codes "point.sld"), 3) ∷ (3, (codes "ctl.sld"), 0) ∷ (3, (codes "main.scm"), 1) ∷ (3, (codes "notes.scm"), 2) ∷ (0, (codes "point.sld"), 3) ∷ (0, (codes "ctl.sld"), 0) ∷ (0, (codes "main.scm"), 1) ∷ (0, (codes "notes.scm"), 2) ∷ (1, (codes "point.sld"), 3) ∷ (1, (codes "ctl.sld"), 0) ∷ (1, (codes "main.scm"), 1) ∷ (1, (codes "notes.scm"), 2) ∷ (2, (codes "point.sld"), 3) ∷ (2, (codes "ctl.sld"), 0) ∷ (2, (codes "main.scm"), 1) ∷ (2, (codes "notes.scm"), 2) ∷ []) ((Some (((g.list (p 0 101 0 328) (g.part (g.atom (p 1 1 1 15) (g.spelled (k.Name (codes "define-library") false))) (g.part (g.list (p 2 4 16 21) (g.part (g.atom (p 3 3 17 20) (g.spelled (k.Name (codes "ctl") false))) g.none)) (g.part (g.list (p 5 9 24 44) (g.part (g.atom (p 6 6 25 31) (g.spelled (k.Name (codes "export") false))) (g.part (g.atom (p 7 7 32 37) (g.spelled (k.Name (codes "while") false))) (g.part (g.atom (p 8 8 38 43) (g.spelled (k.Name (codes "my-or") false))) g.none)))) (g.part (g.list (p 10 16 47 69) (g.part (g.atom (p 11 11 48 54) (g.spelled (k.Name (codes "import") false))) (g.part (g.list (p 12 15 55 68) (g.part (g.atom (p 13 13 56 62) (g.spelled (k.Name (codes "scheme") false))) (g.part (g.atom (p 14 14 63 67) (g.spelled (k.Name (codes "base") false))) g.none))) g.none))) (g.part (g.list (p 17 100 72 327) (g.part (g.atom (p 18 18 73 78) (g.spelled (k.Name (codes "begin") false))) (g.part (g.list (p 19 50 83 182) (g.part (g.atom (p 20 20 84 97) (g.spelled (k.Name (codes "define-syntax") false))) (g.part (g.atom (p 21 21 98 103) (g.spelled (k.Name (codes "while") false))) (g.part (g.list (p 22 49 110 181) (g.part (g.atom (p 23 23 111 123) (g.spelled (k.Name (codes "syntax-rules") false))) (g.part (g.list (p 24 25 124 126) g.none) (g.part (g.list (p 26 48 135 180) (g.part (g.list (p 27 32 136 147) (g.part (g.atom (p 28 28 137 138) (g.spelled (k.Name (codes "_") false))) (g.part (g.atom (p 29 29 139 140) (g.spelled (k.Name (codes "c") false))) (g.part (g.atom (p 30 30 141 142) (g.spelled (k.Name (codes "b") false))) (g.part (g.atom (p 31 31 143 146) (g.spelled (k.Name (codes "...") false))) g.none))))) (g.part (g.list (p 33 47 148 179) (g.part (g.atom (p 34 34 149 152) (g.spelled (k.Name (codes "let") false))) (g.part (g.atom (p 35 35 153 155) (g.spelled (k.Name (codes "lp") false))) (g.part (g.list (p 36 37 156 158) g.none) (g.part (g.list (p 38 46 159 178) (g.part (g.atom (p 39 39 160 164) (g.spelled (k.Name (codes "when") false))) (g.part (g.atom (p 40 40 165 166) (g.spelled (k.Name (codes "c") false))) (g.part (g.atom (p 41 41 167 168) (g.spelled (k.Name (codes "b") false))) (g.part (g.atom (p 42 42 169 172) (g.spelled (k.Name (codes "...") false))) (g.part (g.list (p 43 45 173 177) (g.part (g.atom (p 44 44 174 176) (g.spelled (k.Name (codes "lp") false))) g.none)) g.none)))))) g.none))))) g.none))) g.none)))) g.none)))) (g.part (g.list (p 51 99 187 326) (g.part (g.atom (p 52 52 188 201) (g.spelled (k.Name (codes "define-syntax") false))) (g.part (g.atom (p 53 53 202 207) (g.spelled (k.Name (codes "my-or") false))) (g.part (g.list (p 54 98 214 325) (g.part (g.atom (p 55 55 215 227) (g.spelled (k.Name (codes "syntax-rules") false))) (g.part (g.list (p 56 57 228 230) g.none) (g.part (g.list (p 58 63 239 247) (g.part (g.list (p 59 61 240 243) (g.part (g.atom (p 60 60 241 242) (g.spelled (k.Name (codes "_") false))) g.none)) (g.part (g.atom (p 62 62 244 246) (g.spelled (k.Truth false))) g.none))) (g.part (g.list (p 64 70 256 265) (g.part (g.list (p 65 68 257 262) (g.part (g.atom (p 66 66 258 259) (g.spelled (k.Name (codes "_") false))) (g.part (g.atom (p 67 67 260 261) (g.spelled (k.Name (codes "e") false))) g.none))) (g.part (g.atom (p 69 69 263 264) (g.spelled (k.Name (codes "e") false))) g.none))) (g.part (g.list (p 71 97 274 324) (g.part (g.list (p 72 77 275 286) (g.part (g.atom (p 73 73 276 277) (g.spelled (k.Name (codes "_") false))) (g.part (g.atom (p 74 74 278 279) (g.spelled (k.Name (codes "e") false))) (g.part (g.atom (p 75 75 280 281) (g.spelled (k.Name (codes "r") false))) (g.part (g.atom (p 76 76 282 285) (g.spelled (k.Name (codes "...") false))) g.none))))) (g.part (g.list (p 78 96 287 323) (g.part (g.atom (p 79 79 288 291) (g.spelled (k.Name (codes "let") false))) (g.part (g.list (p 80 85 292 299) (g.part (g.list (p 81 84 293 298) (g.part (g.atom (p 82 82 294 295) (g.spelled (k.Name (codes "t") false))) (g.part (g.atom (p 83 83 296 297) (g.spelled (k.Name (codes "e") false))) g.none))) g.none)) (g.part (g.list (p 86 95 300 322) (g.part (g.atom (p 87 87 301 303) (g.spelled (k.Name (codes "if") false))) (g.part (g.atom (p 88 88 304 305) (g.spelled (k.Name (codes "t") false))) (g.part (g.atom (p 89 89 306 307) (g.spelled (k.Name (codes "t") false))) (g.part (g.list (p 90 94 308 321) (g.part (g.atom (p 91 91 309 314) (g.spelled (k.Name (codes "my-or") false))) (g.part (g.atom (p 92 92 315 316) (g.spelled (k.Name (codes "r") false))) (g.part (g.atom (p 93 93 317 320) (g.spelled (k.Name (codes "...") false))) g.none)))) g.none))))) g.none)))) g.none))) g.none)))))) g.none)))) g.none)))) g.none))))))) ∷ [])) ∷ (Some (((g.list (p 0 20 0 60) (g.part (g.atom (p 1 1 1 7) (g.spelled (k.Name (codes "import") false))) (g.part (g.list (p 2 5 8 21) (g.part (g.atom (p 3 3 9 15) (g.spelled (k.Name (codes "scheme") false))) (g.part (g.atom (p 4 4 16 20) (g.spelled (k.Name (codes "base") false))) g.none))) (g.part (g.list (p 6 9 22 36) (g.part (g.atom (p 7 7 23 29) (g.spelled (k.Name (codes "scheme") false))) (g.part (g.atom (p 8 8 30 35) (g.spelled (k.Name (codes "write") false))) g.none))) (g.part (g.list (p 10 13 37 45) (g.part (g.atom (p 11 11 38 42) (g.spelled (k.Name (codes "srfi") false))) (g.part (g.atom (p 12 12 43 44) (g.spelled (k.Numeral (codes "1")))) g.none))) (g.part (g.list (p 14 16 46 53) (g.part (g.atom (p 15 15 47 52) (g.spelled (k.Name (codes "point") false))) g.none)) (g.part (g.list (p 17 19 54 59) (g.part (g.atom (p 18 18 55 58) (g.spelled (k.Name (codes "ctl") false))) g.none)) g.none)))))))) ∷ ((g.list (p 21 29 61 88) (g.part (g.atom (p 22 22 62 68) (g.spelled (k.Name (codes "define") false))) (g.part (g.atom (p 23 23 69 70) (g.spelled (k.Name (codes "t") false))) (g.part (g.list (p 24 28 71 87) (g.part (g.atom (p 25 25 72 82) (g.spelled (k.Name (codes "make-point") false))) (g.part (g.atom (p 26 26 83 84) (g.spelled (k.Numeral (codes "1")))) (g.part (g.atom (p 27 27 85 86) (g.spelled (k.Numeral (codes "2")))) g.none)))) g.none))))) ∷ ((g.list (p 30 123 89 308) (g.part (g.atom (p 31 31 90 96) (g.spelled (k.Name (codes "define") false))) (g.part (g.list (p 32 35 97 104) (g.part (g.atom (p 33 33 98 101) (g.spelled (k.Name (codes "run") false))) (g.part (g.atom (p 34 34 102 103) (g.spelled (k.Name (codes "n") false))) g.none))) (g.part (g.list (p 36 122 107 307) (g.part (g.atom (p 37 37 108 118) (g.spelled (k.Name (codes "let-values") false))) (g.part (g.list (p 38 50 119 141) (g.part (g.list (p 39 49 120 140) (g.part (g.list (p 40 43 121 126) (g.part (g.atom (p 41 41 122 123) (g.spelled (k.Name (codes "q") false))) (g.part (g.atom (p 42 42 124 125) (g.spelled (k.Name (codes "r") false))) g.none))) (g.part (g.list (p 44 48 127 139) (g.part (g.atom (p 45 45 128 134) (g.spelled (k.Name (codes "floor/") false))) (g.part (g.atom (p 46 46 135 136) (g.spelled (k.Name (codes "n") false))) (g.part (g.atom (p 47 47 137 138) (g.spelled (k.Numeral (codes "2")))) g.none)))) g.none))) g.none)) (g.part (g.list (p 51 121 146 306) (g.part (g.atom (p 52 52 147 149) (g.spelled (k.Name (codes "do") false))) (g.part (g.list (p 53 74 150 188) (g.part (g.list (p 54 62 151 164) (g.part (g.atom (p 55 55 152 153) (g.spelled (k.Name (codes "i") false))) (g.part (g.atom (p 56 56 154 155) (g.spelled (k.Numeral (codes "0")))) (g.part (g.list (p 57 61 156 163) (g.part (g.atom (p 58 58 157 158) (g.spelled (k.Name (codes "+") false))) (g.part (g.atom (p 59 59 159 160) (g.spelled (k.Name (codes "i") false))) (g.part (g.atom (p 60 60 161 162) (g.spelled (k.Numeral (codes "1")))) g.none)))) g.none)))) (g.part (g.list (p 63 73 165 187) (g.part (g.atom (p 64 64 166 169) (g.spelled (k.Name (codes "acc") false))) (g.part (g.list (p 65 67 170 173) (g.part (g.atom (p 65 65 170 171) (g.implied k.Quote)) (g.part (g.list (p 66 67 171 173) g.none) g.none))) (g.part (g.list (p 68 72 174 186) (g.part (g.atom (p 69 69 175 179) (g.spelled (k.Name (codes "cons") false))) (g.part (g.atom (p 70 70 180 181) (g.spelled (k.Name (codes "i") false))) (g.part (g.atom (p 71 71 182 185) (g.spelled (k.Name (codes "acc") false))) g.none)))) g.none)))) g.none))) (g.part (g.list (p 75 90 197 229) (g.part (g.list (p 76 80 198 205) (g.part (g.atom (p 77 77 199 200) (g.spelled (k.Name (codes "=") false))) (g.part (g.atom (p 78 78 201 202) (g.spelled (k.Name (codes "i") false))) (g.part (g.atom (p 79 79 203 204) (g.spelled (k.Name (codes "q") false))) g.none)))) (g.part (g.list (p 81 89 206 228) (g.part (g.atom (p 82 82 207 212) (g.spelled (k.Name (codes "my-or") false))) (g.part (g.list (p 83 87 213 225) (g.part (g.atom (p 84 84 214 218) (g.spelled (k.Name (codes "memv") false))) (g.part (g.atom (p 85 85 219 220) (g.spelled (k.Name (codes "r") false))) (g.part (g.atom (p 86 86 221 224) (g.spelled (k.Name (codes "acc") false))) g.none)))) (g.part (g.atom (p 88 88 226 227) (g.spelled (k.Name (codes "t") false))) g.none)))) g.none))) (g.part (g.list (p 91 120 236 305) (g.part (g.atom (p 92 92 237 242) (g.spelled (k.Name (codes "guard") false))) (g.part (g.list (p 93 102 243 263) (g.part (g.atom (p 94 94 244 245) (g.spelled (k.Name (codes "e") false))) (g.part (g.list (p 95 101 246 262) (g.part (g.atom (p 96 96 247 249) (g.spelled (k.Truth true))) (g.part (g.list (p 97 100 250 261) (g.part (g.atom (p 98 98 251 258) (g.spelled (k.Name (codes "display") false))) (g.part (g.atom (p 99 99 259 260) (g.spelled (k.Name (codes "e") false))) g.none))) g.none))) g.none))) (g.part (g.list (p 103 119 272 304) (g.part (g.atom (p 104 104 273 278) (g.spelled (k.Name (codes "while") false))) (g.part (g.list (p 105 109 279 286) (g.part (g.atom (p 106 106 280 281) (g.spelled (k.Name (codes ">") false))) (g.part (g.atom (p 107 107 282 283) (g.spelled (k.Name (codes "r") false))) (g.part (g.atom (p 108 108 284 285) (g.spelled (k.Numeral (codes "5")))) g.none)))) (g.part (g.list (p 110 118 287 303) (g.part (g.atom (p 111 111 288 292) (g.spelled (k.Name (codes "set!") false))) (g.part (g.atom (p 112 112 293 294) (g.spelled (k.Name (codes "r") false))) (g.part (g.list (p 113 117 295 302) (g.part (g.atom (p 114 114 296 297) (g.spelled (k.Name (codes "-") false))) (g.part (g.atom (p 115 115 298 299) (g.spelled (k.Name (codes "r") false))) (g.part (g.atom (p 116 116 300 301) (g.spelled (k.Numeral (codes "1")))) g.none)))) g.none)))) g.none)))) g.none)))) g.none))))) g.none)))) g.none))))) ∷ ((g.list (p 124 133 309 336) (g.part (g.atom (p 125 125 310 317) (g.spelled (k.Name (codes "display") false))) (g.part (g.list (p 126 132 318 335) (g.part (g.atom (p 127 127 319 322) (g.spelled (k.Name (codes "run") false))) (g.part (g.list (p 128 131 323 334) (g.part (g.atom (p 129 129 324 331) (g.spelled (k.Name (codes "point-x") false))) (g.part (g.atom (p 130 130 332 333) (g.spelled (k.Name (codes "t") false))) g.none))) g.none))) g.none)))) ∷ [])) ∷ (None) ∷ (Some (((g.list (p 0 38 0 158) (g.part (g.atom (p 1 1 1 15) (g.spelled (k.Name (codes "define-library") false))) (g.part (g.list (p 2 4 16 23) (g.part (g.atom (p 3 3 17 22) (g.spelled (k.Name (codes "point") false))) g.none)) (g.part (g.list (p 5 9 24 51) (g.part (g.atom (p 6 6 25 31) (g.spelled (k.Name (codes "export") false))) (g.part (g.atom (p 7 7 32 42) (g.spelled (k.Name (codes "make-point") false))) (g.part (g.atom (p 8 8 43 50) (g.spelled (k.Name (codes "point-x") false))) g.none)))) (g.part (g.list (p 10 16 52 74) (g.part (g.atom (p 11 11 53 59) (g.spelled (k.Name (codes "import") false))) (g.part (g.list (p 12 15 60 73) (g.part (g.atom (p 13 13 61 67) (g.spelled (k.Name (codes "scheme") false))) (g.part (g.atom (p 14 14 68 72) (g.spelled (k.Name (codes "base") false))) g.none))) g.none))) (g.part (g.list (p 17 37 75 157) (g.part (g.atom (p 18 18 76 81) (g.spelled (k.Name (codes "begin") false))) (g.part (g.list (p 19 36 82 156) (g.part (g.atom (p 20 20 83 101) (g.spelled (k.Name (codes "define-record-type") false))) (g.part (g.atom (p 21 21 102 107) (g.spelled (k.Name (codes "point") false))) (g.part (g.list (p 22 26 108 124) (g.part (g.atom (p 23 23 109 119) (g.spelled (k.Name (codes "make-point") false))) (g.part (g.atom (p 24 24 120 121) (g.spelled (k.Name (codes "x") false))) (g.part (g.atom (p 25 25 122 123) (g.spelled (k.Name (codes "y") false))) g.none)))) (g.part (g.atom (p 27 27 125 131) (g.spelled (k.Name (codes "point?") false))) (g.part (g.list (p 28 31 132 143) (g.part (g.atom (p 29 29 133 134) (g.spelled (k.Name (codes "x") false))) (g.part (g.atom (p 30 30 135 142) (g.spelled (k.Name (codes "point-x") false))) g.none))) (g.part (g.list (p 32 35 144 155) (g.part (g.atom (p 33 33 145 146) (g.spelled (k.Name (codes "y") false))) (g.part (g.atom (p 34 34 147 154) (g.spelled (k.Name (codes "point-y") false))) g.none))) g.none))))))) g.none))) g.none))))))) ∷ [])) ∷ []) 1 207 Definition ≡ Places (((b 0 202 207)) ∷ [])
unfolding base_names standard_libraries prelude encode_utf8
realistic_definition = refl
