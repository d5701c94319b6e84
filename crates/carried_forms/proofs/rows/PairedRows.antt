-- Open documents that include texts before and after an event, and the units and forms that are paired, from outside.
-- Written by tests/definitions/rows; each row is checked by computing it.
use Rattle.std.specs.Prelude.{◌≡◌, ℕ, Bool, true, false, List, [], ◌∷◌, Option, Some, None, codes, refl}
use Rattle.std.specs.Char.{encode_utf8}
use Rattle.scheme_model.specs.StandardNames.{base_names}
use Rattle.scheme_model.specs.StandardLibraries.{standard_libraries}
use Rattle.scheme_model.specs.Prelude.{prelude}
use Rattle.scheme_model.specs.Kinds as k
use Rattle.scheme_model.specs.Data as g
use Rattle.carried_forms.proofs.ShownPairs.{Texts, pair_rows}

abbrev p : ℕ → ℕ → ℕ → ℕ → g.Place
p first last start end = record { first = first; last = last; start = start; end = end }

abbrev t : List (List ℕ) → List (ℕ × List ℕ × ℕ) → List (Option (List g.Datum)) → Texts
t uris meant read = record { uris = uris; meant = meant; read = read }

pub included_form_changed : pair_rows (t (((codes "/l.sld")) ∷ ((codes "/p.scm")) ∷ []) ((0, (codes "l.sld"), 0) ∷ (0, (codes "p.scm"), 1) ∷ (1, (codes "l.sld"), 0) ∷ (1, (codes "p.scm"), 1) ∷ (0, (codes "/l.sld"), 0) ∷ (0, (codes "/p.scm"), 1) ∷ (1, (codes "/l.sld"), 0) ∷ (1, (codes "/p.scm"), 1) ∷ []) ((Some (((g.list (p 0 23 0 75) (g.part (g.atom (p 1 1 1 15) (g.spelled (k.Name (codes "define-library") false))) (g.part (g.list (p 2 4 16 19) (g.part (g.atom (p 3 3 17 18) (g.spelled (k.Name (codes "l") false))) g.none)) (g.part (g.list (p 5 11 20 42) (g.part (g.atom (p 6 6 21 27) (g.spelled (k.Name (codes "import") false))) (g.part (g.list (p 7 10 28 41) (g.part (g.atom (p 8 8 29 35) (g.spelled (k.Name (codes "scheme") false))) (g.part (g.atom (p 9 9 36 40) (g.spelled (k.Name (codes "base") false))) g.none))) g.none))) (g.part (g.list (p 12 15 43 60) (g.part (g.atom (p 13 13 44 51) (g.spelled (k.Name (codes "include") false))) (g.part (g.atom (p 14 14 52 59) (g.spelled (k.Quoted (codes "p.scm")))) g.none))) (g.part (g.list (p 16 22 61 74) (g.part (g.atom (p 17 17 62 67) (g.spelled (k.Name (codes "begin") false))) (g.part (g.list (p 18 21 68 73) (g.part (g.atom (p 19 19 69 70) (g.spelled (k.Name (codes "f") false))) (g.part (g.atom (p 20 20 71 72) (g.spelled (k.Numeral (codes "1")))) g.none))) g.none))) g.none))))))) ∷ [])) ∷ (Some (((g.list (p 0 4 0 12) (g.part (g.atom (p 1 1 1 7) (g.spelled (k.Name (codes "define") false))) (g.part (g.atom (p 2 2 8 9) (g.spelled (k.Name (codes "f") false))) (g.part (g.atom (p 3 3 10 11) (g.spelled (k.Numeral (codes "1")))) g.none))))) ∷ ((g.list (p 5 9 13 25) (g.part (g.atom (p 6 6 14 20) (g.spelled (k.Name (codes "define") false))) (g.part (g.atom (p 7 7 21 22) (g.spelled (k.Name (codes "g") false))) (g.part (g.atom (p 8 8 23 24) (g.spelled (k.Numeral (codes "2")))) g.none))))) ∷ [])) ∷ [])) (t (((codes "/l.sld")) ∷ ((codes "/p.scm")) ∷ []) ((0, (codes "l.sld"), 0) ∷ (0, (codes "p.scm"), 1) ∷ (1, (codes "l.sld"), 0) ∷ (1, (codes "p.scm"), 1) ∷ (0, (codes "/l.sld"), 0) ∷ (0, (codes "/p.scm"), 1) ∷ (1, (codes "/l.sld"), 0) ∷ (1, (codes "/p.scm"), 1) ∷ []) ((Some (((g.list (p 0 23 0 75) (g.part (g.atom (p 1 1 1 15) (g.spelled (k.Name (codes "define-library") false))) (g.part (g.list (p 2 4 16 19) (g.part (g.atom (p 3 3 17 18) (g.spelled (k.Name (codes "l") false))) g.none)) (g.part (g.list (p 5 11 20 42) (g.part (g.atom (p 6 6 21 27) (g.spelled (k.Name (codes "import") false))) (g.part (g.list (p 7 10 28 41) (g.part (g.atom (p 8 8 29 35) (g.spelled (k.Name (codes "scheme") false))) (g.part (g.atom (p 9 9 36 40) (g.spelled (k.Name (codes "base") false))) g.none))) g.none))) (g.part (g.list (p 12 15 43 60) (g.part (g.atom (p 13 13 44 51) (g.spelled (k.Name (codes "include") false))) (g.part (g.atom (p 14 14 52 59) (g.spelled (k.Quoted (codes "p.scm")))) g.none))) (g.part (g.list (p 16 22 61 74) (g.part (g.atom (p 17 17 62 67) (g.spelled (k.Name (codes "begin") false))) (g.part (g.list (p 18 21 68 73) (g.part (g.atom (p 19 19 69 70) (g.spelled (k.Name (codes "f") false))) (g.part (g.atom (p 20 20 71 72) (g.spelled (k.Numeral (codes "1")))) g.none))) g.none))) g.none))))))) ∷ [])) ∷ (Some (((g.list (p 0 4 0 12) (g.part (g.atom (p 1 1 1 7) (g.spelled (k.Name (codes "define") false))) (g.part (g.atom (p 2 2 8 9) (g.spelled (k.Name (codes "f") false))) (g.part (g.atom (p 3 3 10 11) (g.spelled (k.Numeral (codes "1")))) g.none))))) ∷ ((g.list (p 5 9 13 25) (g.part (g.atom (p 6 6 14 20) (g.spelled (k.Name (codes "define") false))) (g.part (g.atom (p 7 7 21 22) (g.spelled (k.Name (codes "g") false))) (g.part (g.atom (p 8 8 23 24) (g.spelled (k.Numeral (codes "3")))) g.none))))) ∷ [])) ∷ [])) ≡ ((1, 1, ((0, 0) ∷ [])) ∷ [])
unfolding base_names standard_libraries prelude encode_utf8
included_form_changed = refl

pub included_nothing_changed : pair_rows (t (((codes "/l.sld")) ∷ ((codes "/p.scm")) ∷ []) ((0, (codes "l.sld"), 0) ∷ (0, (codes "p.scm"), 1) ∷ (1, (codes "l.sld"), 0) ∷ (1, (codes "p.scm"), 1) ∷ (0, (codes "/l.sld"), 0) ∷ (0, (codes "/p.scm"), 1) ∷ (1, (codes "/l.sld"), 0) ∷ (1, (codes "/p.scm"), 1) ∷ []) ((Some (((g.list (p 0 23 0 75) (g.part (g.atom (p 1 1 1 15) (g.spelled (k.Name (codes "define-library") false))) (g.part (g.list (p 2 4 16 19) (g.part (g.atom (p 3 3 17 18) (g.spelled (k.Name (codes "l") false))) g.none)) (g.part (g.list (p 5 11 20 42) (g.part (g.atom (p 6 6 21 27) (g.spelled (k.Name (codes "import") false))) (g.part (g.list (p 7 10 28 41) (g.part (g.atom (p 8 8 29 35) (g.spelled (k.Name (codes "scheme") false))) (g.part (g.atom (p 9 9 36 40) (g.spelled (k.Name (codes "base") false))) g.none))) g.none))) (g.part (g.list (p 12 15 43 60) (g.part (g.atom (p 13 13 44 51) (g.spelled (k.Name (codes "include") false))) (g.part (g.atom (p 14 14 52 59) (g.spelled (k.Quoted (codes "p.scm")))) g.none))) (g.part (g.list (p 16 22 61 74) (g.part (g.atom (p 17 17 62 67) (g.spelled (k.Name (codes "begin") false))) (g.part (g.list (p 18 21 68 73) (g.part (g.atom (p 19 19 69 70) (g.spelled (k.Name (codes "f") false))) (g.part (g.atom (p 20 20 71 72) (g.spelled (k.Numeral (codes "1")))) g.none))) g.none))) g.none))))))) ∷ [])) ∷ (Some (((g.list (p 0 4 0 12) (g.part (g.atom (p 1 1 1 7) (g.spelled (k.Name (codes "define") false))) (g.part (g.atom (p 2 2 8 9) (g.spelled (k.Name (codes "f") false))) (g.part (g.atom (p 3 3 10 11) (g.spelled (k.Numeral (codes "1")))) g.none))))) ∷ ((g.list (p 5 9 13 25) (g.part (g.atom (p 6 6 14 20) (g.spelled (k.Name (codes "define") false))) (g.part (g.atom (p 7 7 21 22) (g.spelled (k.Name (codes "g") false))) (g.part (g.atom (p 8 8 23 24) (g.spelled (k.Numeral (codes "2")))) g.none))))) ∷ [])) ∷ [])) (t (((codes "/l.sld")) ∷ ((codes "/p.scm")) ∷ []) ((0, (codes "l.sld"), 0) ∷ (0, (codes "p.scm"), 1) ∷ (1, (codes "l.sld"), 0) ∷ (1, (codes "p.scm"), 1) ∷ (0, (codes "/l.sld"), 0) ∷ (0, (codes "/p.scm"), 1) ∷ (1, (codes "/l.sld"), 0) ∷ (1, (codes "/p.scm"), 1) ∷ []) ((Some (((g.list (p 0 23 0 75) (g.part (g.atom (p 1 1 1 15) (g.spelled (k.Name (codes "define-library") false))) (g.part (g.list (p 2 4 16 19) (g.part (g.atom (p 3 3 17 18) (g.spelled (k.Name (codes "l") false))) g.none)) (g.part (g.list (p 5 11 20 42) (g.part (g.atom (p 6 6 21 27) (g.spelled (k.Name (codes "import") false))) (g.part (g.list (p 7 10 28 41) (g.part (g.atom (p 8 8 29 35) (g.spelled (k.Name (codes "scheme") false))) (g.part (g.atom (p 9 9 36 40) (g.spelled (k.Name (codes "base") false))) g.none))) g.none))) (g.part (g.list (p 12 15 43 60) (g.part (g.atom (p 13 13 44 51) (g.spelled (k.Name (codes "include") false))) (g.part (g.atom (p 14 14 52 59) (g.spelled (k.Quoted (codes "p.scm")))) g.none))) (g.part (g.list (p 16 22 61 74) (g.part (g.atom (p 17 17 62 67) (g.spelled (k.Name (codes "begin") false))) (g.part (g.list (p 18 21 68 73) (g.part (g.atom (p 19 19 69 70) (g.spelled (k.Name (codes "f") false))) (g.part (g.atom (p 20 20 71 72) (g.spelled (k.Numeral (codes "1")))) g.none))) g.none))) g.none))))))) ∷ [])) ∷ (Some (((g.list (p 0 4 0 12) (g.part (g.atom (p 1 1 1 7) (g.spelled (k.Name (codes "define") false))) (g.part (g.atom (p 2 2 8 9) (g.spelled (k.Name (codes "f") false))) (g.part (g.atom (p 3 3 10 11) (g.spelled (k.Numeral (codes "1")))) g.none))))) ∷ ((g.list (p 5 9 13 25) (g.part (g.atom (p 6 6 14 20) (g.spelled (k.Name (codes "define") false))) (g.part (g.atom (p 7 7 21 22) (g.spelled (k.Name (codes "g") false))) (g.part (g.atom (p 8 8 23 24) (g.spelled (k.Numeral (codes "2")))) g.none))))) ∷ [])) ∷ [])) ≡ ((0, 0, ((0, 0) ∷ (1, 1) ∷ (2, 2) ∷ (3, 3) ∷ [])) ∷ (1, 1, ((0, 0) ∷ (1, 1) ∷ [])) ∷ [])
unfolding base_names standard_libraries prelude encode_utf8
included_nothing_changed = refl

pub included_comment_inserted : pair_rows (t (((codes "/l.sld")) ∷ ((codes "/p.scm")) ∷ []) ((0, (codes "l.sld"), 0) ∷ (0, (codes "p.scm"), 1) ∷ (1, (codes "l.sld"), 0) ∷ (1, (codes "p.scm"), 1) ∷ (0, (codes "/l.sld"), 0) ∷ (0, (codes "/p.scm"), 1) ∷ (1, (codes "/l.sld"), 0) ∷ (1, (codes "/p.scm"), 1) ∷ []) ((Some (((g.list (p 0 23 0 75) (g.part (g.atom (p 1 1 1 15) (g.spelled (k.Name (codes "define-library") false))) (g.part (g.list (p 2 4 16 19) (g.part (g.atom (p 3 3 17 18) (g.spelled (k.Name (codes "l") false))) g.none)) (g.part (g.list (p 5 11 20 42) (g.part (g.atom (p 6 6 21 27) (g.spelled (k.Name (codes "import") false))) (g.part (g.list (p 7 10 28 41) (g.part (g.atom (p 8 8 29 35) (g.spelled (k.Name (codes "scheme") false))) (g.part (g.atom (p 9 9 36 40) (g.spelled (k.Name (codes "base") false))) g.none))) g.none))) (g.part (g.list (p 12 15 43 60) (g.part (g.atom (p 13 13 44 51) (g.spelled (k.Name (codes "include") false))) (g.part (g.atom (p 14 14 52 59) (g.spelled (k.Quoted (codes "p.scm")))) g.none))) (g.part (g.list (p 16 22 61 74) (g.part (g.atom (p 17 17 62 67) (g.spelled (k.Name (codes "begin") false))) (g.part (g.list (p 18 21 68 73) (g.part (g.atom (p 19 19 69 70) (g.spelled (k.Name (codes "f") false))) (g.part (g.atom (p 20 20 71 72) (g.spelled (k.Numeral (codes "1")))) g.none))) g.none))) g.none))))))) ∷ [])) ∷ (Some (((g.list (p 0 4 0 12) (g.part (g.atom (p 1 1 1 7) (g.spelled (k.Name (codes "define") false))) (g.part (g.atom (p 2 2 8 9) (g.spelled (k.Name (codes "f") false))) (g.part (g.atom (p 3 3 10 11) (g.spelled (k.Numeral (codes "1")))) g.none))))) ∷ ((g.list (p 5 9 13 25) (g.part (g.atom (p 6 6 14 20) (g.spelled (k.Name (codes "define") false))) (g.part (g.atom (p 7 7 21 22) (g.spelled (k.Name (codes "g") false))) (g.part (g.atom (p 8 8 23 24) (g.spelled (k.Numeral (codes "2")))) g.none))))) ∷ [])) ∷ [])) (t (((codes "/l.sld")) ∷ ((codes "/p.scm")) ∷ []) ((0, (codes "l.sld"), 0) ∷ (0, (codes "p.scm"), 1) ∷ (1, (codes "l.sld"), 0) ∷ (1, (codes "p.scm"), 1) ∷ (0, (codes "/l.sld"), 0) ∷ (0, (codes "/p.scm"), 1) ∷ (1, (codes "/l.sld"), 0) ∷ (1, (codes "/p.scm"), 1) ∷ []) ((Some (((g.list (p 0 23 0 75) (g.part (g.atom (p 1 1 1 15) (g.spelled (k.Name (codes "define-library") false))) (g.part (g.list (p 2 4 16 19) (g.part (g.atom (p 3 3 17 18) (g.spelled (k.Name (codes "l") false))) g.none)) (g.part (g.list (p 5 11 20 42) (g.part (g.atom (p 6 6 21 27) (g.spelled (k.Name (codes "import") false))) (g.part (g.list (p 7 10 28 41) (g.part (g.atom (p 8 8 29 35) (g.spelled (k.Name (codes "scheme") false))) (g.part (g.atom (p 9 9 36 40) (g.spelled (k.Name (codes "base") false))) g.none))) g.none))) (g.part (g.list (p 12 15 43 60) (g.part (g.atom (p 13 13 44 51) (g.spelled (k.Name (codes "include") false))) (g.part (g.atom (p 14 14 52 59) (g.spelled (k.Quoted (codes "p.scm")))) g.none))) (g.part (g.list (p 16 22 61 74) (g.part (g.atom (p 17 17 62 67) (g.spelled (k.Name (codes "begin") false))) (g.part (g.list (p 18 21 68 73) (g.part (g.atom (p 19 19 69 70) (g.spelled (k.Name (codes "f") false))) (g.part (g.atom (p 20 20 71 72) (g.spelled (k.Numeral (codes "1")))) g.none))) g.none))) g.none))))))) ∷ [])) ∷ (Some (((g.list (p 0 4 8 20) (g.part (g.atom (p 1 1 9 15) (g.spelled (k.Name (codes "define") false))) (g.part (g.atom (p 2 2 16 17) (g.spelled (k.Name (codes "f") false))) (g.part (g.atom (p 3 3 18 19) (g.spelled (k.Numeral (codes "1")))) g.none))))) ∷ ((g.list (p 5 9 21 33) (g.part (g.atom (p 6 6 22 28) (g.spelled (k.Name (codes "define") false))) (g.part (g.atom (p 7 7 29 30) (g.spelled (k.Name (codes "g") false))) (g.part (g.atom (p 8 8 31 32) (g.spelled (k.Numeral (codes "2")))) g.none))))) ∷ [])) ∷ [])) ≡ ((0, 0, ((0, 0) ∷ (1, 1) ∷ (2, 2) ∷ (3, 3) ∷ [])) ∷ (1, 1, ((0, 0) ∷ (1, 1) ∷ [])) ∷ [])
unfolding base_names standard_libraries prelude encode_utf8
included_comment_inserted = refl

pub included_own_form_added : pair_rows (t (((codes "/l.sld")) ∷ ((codes "/p.scm")) ∷ []) ((0, (codes "l.sld"), 0) ∷ (0, (codes "p.scm"), 1) ∷ (1, (codes "l.sld"), 0) ∷ (1, (codes "p.scm"), 1) ∷ (0, (codes "/l.sld"), 0) ∷ (0, (codes "/p.scm"), 1) ∷ (1, (codes "/l.sld"), 0) ∷ (1, (codes "/p.scm"), 1) ∷ []) ((Some (((g.list (p 0 23 0 75) (g.part (g.atom (p 1 1 1 15) (g.spelled (k.Name (codes "define-library") false))) (g.part (g.list (p 2 4 16 19) (g.part (g.atom (p 3 3 17 18) (g.spelled (k.Name (codes "l") false))) g.none)) (g.part (g.list (p 5 11 20 42) (g.part (g.atom (p 6 6 21 27) (g.spelled (k.Name (codes "import") false))) (g.part (g.list (p 7 10 28 41) (g.part (g.atom (p 8 8 29 35) (g.spelled (k.Name (codes "scheme") false))) (g.part (g.atom (p 9 9 36 40) (g.spelled (k.Name (codes "base") false))) g.none))) g.none))) (g.part (g.list (p 12 15 43 60) (g.part (g.atom (p 13 13 44 51) (g.spelled (k.Name (codes "include") false))) (g.part (g.atom (p 14 14 52 59) (g.spelled (k.Quoted (codes "p.scm")))) g.none))) (g.part (g.list (p 16 22 61 74) (g.part (g.atom (p 17 17 62 67) (g.spelled (k.Name (codes "begin") false))) (g.part (g.list (p 18 21 68 73) (g.part (g.atom (p 19 19 69 70) (g.spelled (k.Name (codes "f") false))) (g.part (g.atom (p 20 20 71 72) (g.spelled (k.Numeral (codes "1")))) g.none))) g.none))) g.none))))))) ∷ [])) ∷ (Some (((g.list (p 0 4 0 12) (g.part (g.atom (p 1 1 1 7) (g.spelled (k.Name (codes "define") false))) (g.part (g.atom (p 2 2 8 9) (g.spelled (k.Name (codes "f") false))) (g.part (g.atom (p 3 3 10 11) (g.spelled (k.Numeral (codes "1")))) g.none))))) ∷ ((g.list (p 5 9 13 25) (g.part (g.atom (p 6 6 14 20) (g.spelled (k.Name (codes "define") false))) (g.part (g.atom (p 7 7 21 22) (g.spelled (k.Name (codes "g") false))) (g.part (g.atom (p 8 8 23 24) (g.spelled (k.Numeral (codes "2")))) g.none))))) ∷ [])) ∷ [])) (t (((codes "/l.sld")) ∷ ((codes "/p.scm")) ∷ []) ((0, (codes "l.sld"), 0) ∷ (0, (codes "p.scm"), 1) ∷ (1, (codes "l.sld"), 0) ∷ (1, (codes "p.scm"), 1) ∷ (0, (codes "/l.sld"), 0) ∷ (0, (codes "/p.scm"), 1) ∷ (1, (codes "/l.sld"), 0) ∷ (1, (codes "/p.scm"), 1) ∷ []) ((Some (((g.list (p 0 27 0 81) (g.part (g.atom (p 1 1 1 15) (g.spelled (k.Name (codes "define-library") false))) (g.part (g.list (p 2 4 16 19) (g.part (g.atom (p 3 3 17 18) (g.spelled (k.Name (codes "l") false))) g.none)) (g.part (g.list (p 5 11 20 42) (g.part (g.atom (p 6 6 21 27) (g.spelled (k.Name (codes "import") false))) (g.part (g.list (p 7 10 28 41) (g.part (g.atom (p 8 8 29 35) (g.spelled (k.Name (codes "scheme") false))) (g.part (g.atom (p 9 9 36 40) (g.spelled (k.Name (codes "base") false))) g.none))) g.none))) (g.part (g.list (p 12 15 43 60) (g.part (g.atom (p 13 13 44 51) (g.spelled (k.Name (codes "include") false))) (g.part (g.atom (p 14 14 52 59) (g.spelled (k.Quoted (codes "p.scm")))) g.none))) (g.part (g.list (p 16 26 61 80) (g.part (g.atom (p 17 17 62 67) (g.spelled (k.Name (codes "begin") false))) (g.part (g.list (p 18 21 68 73) (g.part (g.atom (p 19 19 69 70) (g.spelled (k.Name (codes "f") false))) (g.part (g.atom (p 20 20 71 72) (g.spelled (k.Numeral (codes "1")))) g.none))) (g.part (g.list (p 22 25 74 79) (g.part (g.atom (p 23 23 75 76) (g.spelled (k.Name (codes "f") false))) (g.part (g.atom (p 24 24 77 78) (g.spelled (k.Numeral (codes "2")))) g.none))) g.none)))) g.none))))))) ∷ [])) ∷ (Some (((g.list (p 0 4 0 12) (g.part (g.atom (p 1 1 1 7) (g.spelled (k.Name (codes "define") false))) (g.part (g.atom (p 2 2 8 9) (g.spelled (k.Name (codes "f") false))) (g.part (g.atom (p 3 3 10 11) (g.spelled (k.Numeral (codes "1")))) g.none))))) ∷ ((g.list (p 5 9 13 25) (g.part (g.atom (p 6 6 14 20) (g.spelled (k.Name (codes "define") false))) (g.part (g.atom (p 7 7 21 22) (g.spelled (k.Name (codes "g") false))) (g.part (g.atom (p 8 8 23 24) (g.spelled (k.Numeral (codes "2")))) g.none))))) ∷ [])) ∷ [])) ≡ ((1, 1, ((0, 0) ∷ (1, 1) ∷ [])) ∷ [])
unfolding base_names standard_libraries prelude encode_utf8
included_own_form_added = refl

pub included_form_in_front : pair_rows (t (((codes "/l.sld")) ∷ ((codes "/p.scm")) ∷ []) ((0, (codes "l.sld"), 0) ∷ (0, (codes "p.scm"), 1) ∷ (1, (codes "l.sld"), 0) ∷ (1, (codes "p.scm"), 1) ∷ (0, (codes "/l.sld"), 0) ∷ (0, (codes "/p.scm"), 1) ∷ (1, (codes "/l.sld"), 0) ∷ (1, (codes "/p.scm"), 1) ∷ []) ((Some (((g.list (p 0 23 0 75) (g.part (g.atom (p 1 1 1 15) (g.spelled (k.Name (codes "define-library") false))) (g.part (g.list (p 2 4 16 19) (g.part (g.atom (p 3 3 17 18) (g.spelled (k.Name (codes "l") false))) g.none)) (g.part (g.list (p 5 11 20 42) (g.part (g.atom (p 6 6 21 27) (g.spelled (k.Name (codes "import") false))) (g.part (g.list (p 7 10 28 41) (g.part (g.atom (p 8 8 29 35) (g.spelled (k.Name (codes "scheme") false))) (g.part (g.atom (p 9 9 36 40) (g.spelled (k.Name (codes "base") false))) g.none))) g.none))) (g.part (g.list (p 12 15 43 60) (g.part (g.atom (p 13 13 44 51) (g.spelled (k.Name (codes "include") false))) (g.part (g.atom (p 14 14 52 59) (g.spelled (k.Quoted (codes "p.scm")))) g.none))) (g.part (g.list (p 16 22 61 74) (g.part (g.atom (p 17 17 62 67) (g.spelled (k.Name (codes "begin") false))) (g.part (g.list (p 18 21 68 73) (g.part (g.atom (p 19 19 69 70) (g.spelled (k.Name (codes "f") false))) (g.part (g.atom (p 20 20 71 72) (g.spelled (k.Numeral (codes "1")))) g.none))) g.none))) g.none))))))) ∷ [])) ∷ (Some (((g.list (p 0 4 0 12) (g.part (g.atom (p 1 1 1 7) (g.spelled (k.Name (codes "define") false))) (g.part (g.atom (p 2 2 8 9) (g.spelled (k.Name (codes "f") false))) (g.part (g.atom (p 3 3 10 11) (g.spelled (k.Numeral (codes "1")))) g.none))))) ∷ ((g.list (p 5 9 13 25) (g.part (g.atom (p 6 6 14 20) (g.spelled (k.Name (codes "define") false))) (g.part (g.atom (p 7 7 21 22) (g.spelled (k.Name (codes "g") false))) (g.part (g.atom (p 8 8 23 24) (g.spelled (k.Numeral (codes "2")))) g.none))))) ∷ [])) ∷ [])) (t (((codes "/l.sld")) ∷ ((codes "/p.scm")) ∷ []) ((0, (codes "l.sld"), 0) ∷ (0, (codes "p.scm"), 1) ∷ (1, (codes "l.sld"), 0) ∷ (1, (codes "p.scm"), 1) ∷ (0, (codes "/l.sld"), 0) ∷ (0, (codes "/p.scm"), 1) ∷ (1, (codes "/l.sld"), 0) ∷ (1, (codes "/p.scm"), 1) ∷ []) ((Some (((g.list (p 0 23 0 75) (g.part (g.atom (p 1 1 1 15) (g.spelled (k.Name (codes "define-library") false))) (g.part (g.list (p 2 4 16 19) (g.part (g.atom (p 3 3 17 18) (g.spelled (k.Name (codes "l") false))) g.none)) (g.part (g.list (p 5 11 20 42) (g.part (g.atom (p 6 6 21 27) (g.spelled (k.Name (codes "import") false))) (g.part (g.list (p 7 10 28 41) (g.part (g.atom (p 8 8 29 35) (g.spelled (k.Name (codes "scheme") false))) (g.part (g.atom (p 9 9 36 40) (g.spelled (k.Name (codes "base") false))) g.none))) g.none))) (g.part (g.list (p 12 15 43 60) (g.part (g.atom (p 13 13 44 51) (g.spelled (k.Name (codes "include") false))) (g.part (g.atom (p 14 14 52 59) (g.spelled (k.Quoted (codes "p.scm")))) g.none))) (g.part (g.list (p 16 22 61 74) (g.part (g.atom (p 17 17 62 67) (g.spelled (k.Name (codes "begin") false))) (g.part (g.list (p 18 21 68 73) (g.part (g.atom (p 19 19 69 70) (g.spelled (k.Name (codes "f") false))) (g.part (g.atom (p 20 20 71 72) (g.spelled (k.Numeral (codes "1")))) g.none))) g.none))) g.none))))))) ∷ [])) ∷ (Some (((g.list (p 0 4 0 12) (g.part (g.atom (p 1 1 1 7) (g.spelled (k.Name (codes "define") false))) (g.part (g.atom (p 2 2 8 9) (g.spelled (k.Name (codes "e") false))) (g.part (g.atom (p 3 3 10 11) (g.spelled (k.Numeral (codes "0")))) g.none))))) ∷ ((g.list (p 5 9 13 25) (g.part (g.atom (p 6 6 14 20) (g.spelled (k.Name (codes "define") false))) (g.part (g.atom (p 7 7 21 22) (g.spelled (k.Name (codes "f") false))) (g.part (g.atom (p 8 8 23 24) (g.spelled (k.Numeral (codes "1")))) g.none))))) ∷ ((g.list (p 10 14 26 38) (g.part (g.atom (p 11 11 27 33) (g.spelled (k.Name (codes "define") false))) (g.part (g.atom (p 12 12 34 35) (g.spelled (k.Name (codes "g") false))) (g.part (g.atom (p 13 13 36 37) (g.spelled (k.Numeral (codes "2")))) g.none))))) ∷ [])) ∷ [])) ≡ ((1, 1, ((0, 1) ∷ (1, 2) ∷ [])) ∷ [])
unfolding base_names standard_libraries prelude encode_utf8
included_form_in_front = refl

pub include_taken_away : pair_rows (t (((codes "/l.sld")) ∷ ((codes "/p.scm")) ∷ []) ((0, (codes "l.sld"), 0) ∷ (0, (codes "p.scm"), 1) ∷ (1, (codes "l.sld"), 0) ∷ (1, (codes "p.scm"), 1) ∷ (0, (codes "/l.sld"), 0) ∷ (0, (codes "/p.scm"), 1) ∷ (1, (codes "/l.sld"), 0) ∷ (1, (codes "/p.scm"), 1) ∷ []) ((Some (((g.list (p 0 23 0 75) (g.part (g.atom (p 1 1 1 15) (g.spelled (k.Name (codes "define-library") false))) (g.part (g.list (p 2 4 16 19) (g.part (g.atom (p 3 3 17 18) (g.spelled (k.Name (codes "l") false))) g.none)) (g.part (g.list (p 5 11 20 42) (g.part (g.atom (p 6 6 21 27) (g.spelled (k.Name (codes "import") false))) (g.part (g.list (p 7 10 28 41) (g.part (g.atom (p 8 8 29 35) (g.spelled (k.Name (codes "scheme") false))) (g.part (g.atom (p 9 9 36 40) (g.spelled (k.Name (codes "base") false))) g.none))) g.none))) (g.part (g.list (p 12 15 43 60) (g.part (g.atom (p 13 13 44 51) (g.spelled (k.Name (codes "include") false))) (g.part (g.atom (p 14 14 52 59) (g.spelled (k.Quoted (codes "p.scm")))) g.none))) (g.part (g.list (p 16 22 61 74) (g.part (g.atom (p 17 17 62 67) (g.spelled (k.Name (codes "begin") false))) (g.part (g.list (p 18 21 68 73) (g.part (g.atom (p 19 19 69 70) (g.spelled (k.Name (codes "f") false))) (g.part (g.atom (p 20 20 71 72) (g.spelled (k.Numeral (codes "1")))) g.none))) g.none))) g.none))))))) ∷ [])) ∷ (Some (((g.list (p 0 4 0 12) (g.part (g.atom (p 1 1 1 7) (g.spelled (k.Name (codes "define") false))) (g.part (g.atom (p 2 2 8 9) (g.spelled (k.Name (codes "f") false))) (g.part (g.atom (p 3 3 10 11) (g.spelled (k.Numeral (codes "1")))) g.none))))) ∷ ((g.list (p 5 9 13 25) (g.part (g.atom (p 6 6 14 20) (g.spelled (k.Name (codes "define") false))) (g.part (g.atom (p 7 7 21 22) (g.spelled (k.Name (codes "g") false))) (g.part (g.atom (p 8 8 23 24) (g.spelled (k.Numeral (codes "2")))) g.none))))) ∷ [])) ∷ [])) (t (((codes "/l.sld")) ∷ ((codes "/p.scm")) ∷ []) ((0, (codes "l.sld"), 0) ∷ (0, (codes "p.scm"), 1) ∷ (1, (codes "l.sld"), 0) ∷ (1, (codes "p.scm"), 1) ∷ (0, (codes "/l.sld"), 0) ∷ (0, (codes "/p.scm"), 1) ∷ (1, (codes "/l.sld"), 0) ∷ (1, (codes "/p.scm"), 1) ∷ []) ((Some (((g.list (p 0 19 0 57) (g.part (g.atom (p 1 1 1 15) (g.spelled (k.Name (codes "define-library") false))) (g.part (g.list (p 2 4 16 19) (g.part (g.atom (p 3 3 17 18) (g.spelled (k.Name (codes "l") false))) g.none)) (g.part (g.list (p 5 11 20 42) (g.part (g.atom (p 6 6 21 27) (g.spelled (k.Name (codes "import") false))) (g.part (g.list (p 7 10 28 41) (g.part (g.atom (p 8 8 29 35) (g.spelled (k.Name (codes "scheme") false))) (g.part (g.atom (p 9 9 36 40) (g.spelled (k.Name (codes "base") false))) g.none))) g.none))) (g.part (g.list (p 12 18 43 56) (g.part (g.atom (p 13 13 44 49) (g.spelled (k.Name (codes "begin") false))) (g.part (g.list (p 14 17 50 55) (g.part (g.atom (p 15 15 51 52) (g.spelled (k.Name (codes "f") false))) (g.part (g.atom (p 16 16 53 54) (g.spelled (k.Numeral (codes "1")))) g.none))) g.none))) g.none)))))) ∷ [])) ∷ (Some (((g.list (p 0 4 0 12) (g.part (g.atom (p 1 1 1 7) (g.spelled (k.Name (codes "define") false))) (g.part (g.atom (p 2 2 8 9) (g.spelled (k.Name (codes "f") false))) (g.part (g.atom (p 3 3 10 11) (g.spelled (k.Numeral (codes "1")))) g.none))))) ∷ ((g.list (p 5 9 13 25) (g.part (g.atom (p 6 6 14 20) (g.spelled (k.Name (codes "define") false))) (g.part (g.atom (p 7 7 21 22) (g.spelled (k.Name (codes "g") false))) (g.part (g.atom (p 8 8 23 24) (g.spelled (k.Numeral (codes "2")))) g.none))))) ∷ [])) ∷ [])) ≡ ((1, 1, ((0, 0) ∷ (1, 1) ∷ [])) ∷ [])
unfolding base_names standard_libraries prelude encode_utf8
include_taken_away = refl

pub include_written_out : pair_rows (t (((codes "/l.sld")) ∷ ((codes "/p.scm")) ∷ []) ((0, (codes "l.sld"), 0) ∷ (0, (codes "p.scm"), 1) ∷ (1, (codes "l.sld"), 0) ∷ (1, (codes "p.scm"), 1) ∷ (0, (codes "/l.sld"), 0) ∷ (0, (codes "/p.scm"), 1) ∷ (1, (codes "/l.sld"), 0) ∷ (1, (codes "/p.scm"), 1) ∷ []) ((Some (((g.list (p 0 23 0 75) (g.part (g.atom (p 1 1 1 15) (g.spelled (k.Name (codes "define-library") false))) (g.part (g.list (p 2 4 16 19) (g.part (g.atom (p 3 3 17 18) (g.spelled (k.Name (codes "l") false))) g.none)) (g.part (g.list (p 5 11 20 42) (g.part (g.atom (p 6 6 21 27) (g.spelled (k.Name (codes "import") false))) (g.part (g.list (p 7 10 28 41) (g.part (g.atom (p 8 8 29 35) (g.spelled (k.Name (codes "scheme") false))) (g.part (g.atom (p 9 9 36 40) (g.spelled (k.Name (codes "base") false))) g.none))) g.none))) (g.part (g.list (p 12 15 43 60) (g.part (g.atom (p 13 13 44 51) (g.spelled (k.Name (codes "include") false))) (g.part (g.atom (p 14 14 52 59) (g.spelled (k.Quoted (codes "p.scm")))) g.none))) (g.part (g.list (p 16 22 61 74) (g.part (g.atom (p 17 17 62 67) (g.spelled (k.Name (codes "begin") false))) (g.part (g.list (p 18 21 68 73) (g.part (g.atom (p 19 19 69 70) (g.spelled (k.Name (codes "f") false))) (g.part (g.atom (p 20 20 71 72) (g.spelled (k.Numeral (codes "1")))) g.none))) g.none))) g.none))))))) ∷ [])) ∷ (Some (((g.list (p 0 4 0 12) (g.part (g.atom (p 1 1 1 7) (g.spelled (k.Name (codes "define") false))) (g.part (g.atom (p 2 2 8 9) (g.spelled (k.Name (codes "f") false))) (g.part (g.atom (p 3 3 10 11) (g.spelled (k.Numeral (codes "1")))) g.none))))) ∷ ((g.list (p 5 9 13 25) (g.part (g.atom (p 6 6 14 20) (g.spelled (k.Name (codes "define") false))) (g.part (g.atom (p 7 7 21 22) (g.spelled (k.Name (codes "g") false))) (g.part (g.atom (p 8 8 23 24) (g.spelled (k.Numeral (codes "2")))) g.none))))) ∷ [])) ∷ [])) (t (((codes "/l.sld")) ∷ ((codes "/p.scm")) ∷ []) ((0, (codes "l.sld"), 0) ∷ (0, (codes "p.scm"), 1) ∷ (1, (codes "l.sld"), 0) ∷ (1, (codes "p.scm"), 1) ∷ (0, (codes "/l.sld"), 0) ∷ (0, (codes "/p.scm"), 1) ∷ (1, (codes "/l.sld"), 0) ∷ (1, (codes "/p.scm"), 1) ∷ []) ((Some (((g.list (p 0 32 0 91) (g.part (g.atom (p 1 1 1 15) (g.spelled (k.Name (codes "define-library") false))) (g.part (g.list (p 2 4 16 19) (g.part (g.atom (p 3 3 17 18) (g.spelled (k.Name (codes "l") false))) g.none)) (g.part (g.list (p 5 11 20 42) (g.part (g.atom (p 6 6 21 27) (g.spelled (k.Name (codes "import") false))) (g.part (g.list (p 7 10 28 41) (g.part (g.atom (p 8 8 29 35) (g.spelled (k.Name (codes "scheme") false))) (g.part (g.atom (p 9 9 36 40) (g.spelled (k.Name (codes "base") false))) g.none))) g.none))) (g.part (g.list (p 12 24 43 76) (g.part (g.atom (p 13 13 44 49) (g.spelled (k.Name (codes "begin") false))) (g.part (g.list (p 14 18 50 62) (g.part (g.atom (p 15 15 51 57) (g.spelled (k.Name (codes "define") false))) (g.part (g.atom (p 16 16 58 59) (g.spelled (k.Name (codes "f") false))) (g.part (g.atom (p 17 17 60 61) (g.spelled (k.Numeral (codes "1")))) g.none)))) (g.part (g.list (p 19 23 63 75) (g.part (g.atom (p 20 20 64 70) (g.spelled (k.Name (codes "define") false))) (g.part (g.atom (p 21 21 71 72) (g.spelled (k.Name (codes "g") false))) (g.part (g.atom (p 22 22 73 74) (g.spelled (k.Numeral (codes "2")))) g.none)))) g.none)))) (g.part (g.list (p 25 31 77 90) (g.part (g.atom (p 26 26 78 83) (g.spelled (k.Name (codes "begin") false))) (g.part (g.list (p 27 30 84 89) (g.part (g.atom (p 28 28 85 86) (g.spelled (k.Name (codes "f") false))) (g.part (g.atom (p 29 29 87 88) (g.spelled (k.Numeral (codes "1")))) g.none))) g.none))) g.none))))))) ∷ [])) ∷ (Some (((g.list (p 0 4 0 12) (g.part (g.atom (p 1 1 1 7) (g.spelled (k.Name (codes "define") false))) (g.part (g.atom (p 2 2 8 9) (g.spelled (k.Name (codes "f") false))) (g.part (g.atom (p 3 3 10 11) (g.spelled (k.Numeral (codes "1")))) g.none))))) ∷ ((g.list (p 5 9 13 25) (g.part (g.atom (p 6 6 14 20) (g.spelled (k.Name (codes "define") false))) (g.part (g.atom (p 7 7 21 22) (g.spelled (k.Name (codes "g") false))) (g.part (g.atom (p 8 8 23 24) (g.spelled (k.Numeral (codes "2")))) g.none))))) ∷ [])) ∷ [])) ≡ ((1, 1, ((0, 0) ∷ (1, 1) ∷ [])) ∷ [])
unfolding base_names standard_libraries prelude encode_utf8
include_written_out = refl

pub include_of_another_text : pair_rows (t (((codes "/l.sld")) ∷ ((codes "/p.scm")) ∷ ((codes "/q.scm")) ∷ []) ((0, (codes "l.sld"), 0) ∷ (0, (codes "p.scm"), 1) ∷ (0, (codes "q.scm"), 2) ∷ (1, (codes "l.sld"), 0) ∷ (1, (codes "p.scm"), 1) ∷ (1, (codes "q.scm"), 2) ∷ (2, (codes "l.sld"), 0) ∷ (2, (codes "p.scm"), 1) ∷ (2, (codes "q.scm"), 2) ∷ (0, (codes "/l.sld"), 0) ∷ (0, (codes "/p.scm"), 1) ∷ (0, (codes "/q.scm"), 2) ∷ (1, (codes "/l.sld"), 0) ∷ (1, (codes "/p.scm"), 1) ∷ (1, (codes "/q.scm"), 2) ∷ (2, (codes "/l.sld"), 0) ∷ (2, (codes "/p.scm"), 1) ∷ (2, (codes "/q.scm"), 2) ∷ []) ((Some (((g.list (p 0 23 0 75) (g.part (g.atom (p 1 1 1 15) (g.spelled (k.Name (codes "define-library") false))) (g.part (g.list (p 2 4 16 19) (g.part (g.atom (p 3 3 17 18) (g.spelled (k.Name (codes "l") false))) g.none)) (g.part (g.list (p 5 11 20 42) (g.part (g.atom (p 6 6 21 27) (g.spelled (k.Name (codes "import") false))) (g.part (g.list (p 7 10 28 41) (g.part (g.atom (p 8 8 29 35) (g.spelled (k.Name (codes "scheme") false))) (g.part (g.atom (p 9 9 36 40) (g.spelled (k.Name (codes "base") false))) g.none))) g.none))) (g.part (g.list (p 12 15 43 60) (g.part (g.atom (p 13 13 44 51) (g.spelled (k.Name (codes "include") false))) (g.part (g.atom (p 14 14 52 59) (g.spelled (k.Quoted (codes "p.scm")))) g.none))) (g.part (g.list (p 16 22 61 74) (g.part (g.atom (p 17 17 62 67) (g.spelled (k.Name (codes "begin") false))) (g.part (g.list (p 18 21 68 73) (g.part (g.atom (p 19 19 69 70) (g.spelled (k.Name (codes "f") false))) (g.part (g.atom (p 20 20 71 72) (g.spelled (k.Numeral (codes "1")))) g.none))) g.none))) g.none))))))) ∷ [])) ∷ (Some (((g.list (p 0 4 0 12) (g.part (g.atom (p 1 1 1 7) (g.spelled (k.Name (codes "define") false))) (g.part (g.atom (p 2 2 8 9) (g.spelled (k.Name (codes "f") false))) (g.part (g.atom (p 3 3 10 11) (g.spelled (k.Numeral (codes "1")))) g.none))))) ∷ ((g.list (p 5 9 13 25) (g.part (g.atom (p 6 6 14 20) (g.spelled (k.Name (codes "define") false))) (g.part (g.atom (p 7 7 21 22) (g.spelled (k.Name (codes "g") false))) (g.part (g.atom (p 8 8 23 24) (g.spelled (k.Numeral (codes "2")))) g.none))))) ∷ [])) ∷ (Some (((g.list (p 0 4 0 12) (g.part (g.atom (p 1 1 1 7) (g.spelled (k.Name (codes "define") false))) (g.part (g.atom (p 2 2 8 9) (g.spelled (k.Name (codes "f") false))) (g.part (g.atom (p 3 3 10 11) (g.spelled (k.Numeral (codes "1")))) g.none))))) ∷ ((g.list (p 5 9 13 25) (g.part (g.atom (p 6 6 14 20) (g.spelled (k.Name (codes "define") false))) (g.part (g.atom (p 7 7 21 22) (g.spelled (k.Name (codes "g") false))) (g.part (g.atom (p 8 8 23 24) (g.spelled (k.Numeral (codes "2")))) g.none))))) ∷ [])) ∷ [])) (t (((codes "/l.sld")) ∷ ((codes "/p.scm")) ∷ ((codes "/q.scm")) ∷ []) ((0, (codes "l.sld"), 0) ∷ (0, (codes "p.scm"), 1) ∷ (0, (codes "q.scm"), 2) ∷ (1, (codes "l.sld"), 0) ∷ (1, (codes "p.scm"), 1) ∷ (1, (codes "q.scm"), 2) ∷ (2, (codes "l.sld"), 0) ∷ (2, (codes "p.scm"), 1) ∷ (2, (codes "q.scm"), 2) ∷ (0, (codes "/l.sld"), 0) ∷ (0, (codes "/p.scm"), 1) ∷ (0, (codes "/q.scm"), 2) ∷ (1, (codes "/l.sld"), 0) ∷ (1, (codes "/p.scm"), 1) ∷ (1, (codes "/q.scm"), 2) ∷ (2, (codes "/l.sld"), 0) ∷ (2, (codes "/p.scm"), 1) ∷ (2, (codes "/q.scm"), 2) ∷ []) ((Some (((g.list (p 0 23 0 75) (g.part (g.atom (p 1 1 1 15) (g.spelled (k.Name (codes "define-library") false))) (g.part (g.list (p 2 4 16 19) (g.part (g.atom (p 3 3 17 18) (g.spelled (k.Name (codes "l") false))) g.none)) (g.part (g.list (p 5 11 20 42) (g.part (g.atom (p 6 6 21 27) (g.spelled (k.Name (codes "import") false))) (g.part (g.list (p 7 10 28 41) (g.part (g.atom (p 8 8 29 35) (g.spelled (k.Name (codes "scheme") false))) (g.part (g.atom (p 9 9 36 40) (g.spelled (k.Name (codes "base") false))) g.none))) g.none))) (g.part (g.list (p 12 15 43 60) (g.part (g.atom (p 13 13 44 51) (g.spelled (k.Name (codes "include") false))) (g.part (g.atom (p 14 14 52 59) (g.spelled (k.Quoted (codes "q.scm")))) g.none))) (g.part (g.list (p 16 22 61 74) (g.part (g.atom (p 17 17 62 67) (g.spelled (k.Name (codes "begin") false))) (g.part (g.list (p 18 21 68 73) (g.part (g.atom (p 19 19 69 70) (g.spelled (k.Name (codes "f") false))) (g.part (g.atom (p 20 20 71 72) (g.spelled (k.Numeral (codes "1")))) g.none))) g.none))) g.none))))))) ∷ [])) ∷ (Some (((g.list (p 0 4 0 12) (g.part (g.atom (p 1 1 1 7) (g.spelled (k.Name (codes "define") false))) (g.part (g.atom (p 2 2 8 9) (g.spelled (k.Name (codes "f") false))) (g.part (g.atom (p 3 3 10 11) (g.spelled (k.Numeral (codes "1")))) g.none))))) ∷ ((g.list (p 5 9 13 25) (g.part (g.atom (p 6 6 14 20) (g.spelled (k.Name (codes "define") false))) (g.part (g.atom (p 7 7 21 22) (g.spelled (k.Name (codes "g") false))) (g.part (g.atom (p 8 8 23 24) (g.spelled (k.Numeral (codes "2")))) g.none))))) ∷ [])) ∷ (Some (((g.list (p 0 4 0 12) (g.part (g.atom (p 1 1 1 7) (g.spelled (k.Name (codes "define") false))) (g.part (g.atom (p 2 2 8 9) (g.spelled (k.Name (codes "f") false))) (g.part (g.atom (p 3 3 10 11) (g.spelled (k.Numeral (codes "1")))) g.none))))) ∷ ((g.list (p 5 9 13 25) (g.part (g.atom (p 6 6 14 20) (g.spelled (k.Name (codes "define") false))) (g.part (g.atom (p 7 7 21 22) (g.spelled (k.Name (codes "g") false))) (g.part (g.atom (p 8 8 23 24) (g.spelled (k.Numeral (codes "2")))) g.none))))) ∷ [])) ∷ [])) ≡ ((1, 1, ((0, 0) ∷ (1, 1) ∷ [])) ∷ (2, 2, ((0, 0) ∷ (1, 1) ∷ [])) ∷ [])
unfolding base_names standard_libraries prelude encode_utf8
include_of_another_text = refl

pub included_homes_moved : pair_rows (t (((codes "/l.sld")) ∷ ((codes "/p.scm")) ∷ []) ((0, (codes "l.sld"), 0) ∷ (0, (codes "p.scm"), 1) ∷ (1, (codes "l.sld"), 0) ∷ (1, (codes "p.scm"), 1) ∷ (0, (codes "/l.sld"), 0) ∷ (0, (codes "/p.scm"), 1) ∷ (1, (codes "/l.sld"), 0) ∷ (1, (codes "/p.scm"), 1) ∷ []) ((Some (((g.list (p 0 23 0 96) (g.part (g.atom (p 1 1 1 15) (g.spelled (k.Name (codes "define-library") false))) (g.part (g.list (p 2 4 16 19) (g.part (g.atom (p 3 3 17 18) (g.spelled (k.Name (codes "l") false))) g.none)) (g.part (g.list (p 5 11 20 42) (g.part (g.atom (p 6 6 21 27) (g.spelled (k.Name (codes "import") false))) (g.part (g.list (p 7 10 28 41) (g.part (g.atom (p 8 8 29 35) (g.spelled (k.Name (codes "scheme") false))) (g.part (g.atom (p 9 9 36 40) (g.spelled (k.Name (codes "base") false))) g.none))) g.none))) (g.part (g.list (p 12 15 43 81) (g.part (g.atom (p 13 13 44 72) (g.spelled (k.Name (codes "include-library-declarations") false))) (g.part (g.atom (p 14 14 73 80) (g.spelled (k.Quoted (codes "p.scm")))) g.none))) (g.part (g.list (p 16 22 82 95) (g.part (g.atom (p 17 17 83 88) (g.spelled (k.Name (codes "begin") false))) (g.part (g.list (p 18 21 89 94) (g.part (g.atom (p 19 19 90 91) (g.spelled (k.Name (codes "f") false))) (g.part (g.atom (p 20 20 92 93) (g.spelled (k.Numeral (codes "1")))) g.none))) g.none))) g.none))))))) ∷ [])) ∷ (Some (((g.list (p 0 7 0 20) (g.part (g.atom (p 1 1 1 6) (g.spelled (k.Name (codes "begin") false))) (g.part (g.list (p 2 6 7 19) (g.part (g.atom (p 3 3 8 14) (g.spelled (k.Name (codes "define") false))) (g.part (g.atom (p 4 4 15 16) (g.spelled (k.Name (codes "f") false))) (g.part (g.atom (p 5 5 17 18) (g.spelled (k.Numeral (codes "1")))) g.none)))) g.none)))) ∷ [])) ∷ [])) (t (((codes "/l.sld")) ∷ ((codes "/p.scm")) ∷ []) ((0, (codes "l.sld"), 0) ∷ (0, (codes "p.scm"), 1) ∷ (1, (codes "l.sld"), 0) ∷ (1, (codes "p.scm"), 1) ∷ (0, (codes "/l.sld"), 0) ∷ (0, (codes "/p.scm"), 1) ∷ (1, (codes "/l.sld"), 0) ∷ (1, (codes "/p.scm"), 1) ∷ []) ((Some (((g.list (p 0 23 0 96) (g.part (g.atom (p 1 1 1 15) (g.spelled (k.Name (codes "define-library") false))) (g.part (g.list (p 2 4 16 19) (g.part (g.atom (p 3 3 17 18) (g.spelled (k.Name (codes "l") false))) g.none)) (g.part (g.list (p 5 11 20 42) (g.part (g.atom (p 6 6 21 27) (g.spelled (k.Name (codes "import") false))) (g.part (g.list (p 7 10 28 41) (g.part (g.atom (p 8 8 29 35) (g.spelled (k.Name (codes "scheme") false))) (g.part (g.atom (p 9 9 36 40) (g.spelled (k.Name (codes "base") false))) g.none))) g.none))) (g.part (g.list (p 12 15 43 81) (g.part (g.atom (p 13 13 44 72) (g.spelled (k.Name (codes "include-library-declarations") false))) (g.part (g.atom (p 14 14 73 80) (g.spelled (k.Quoted (codes "p.scm")))) g.none))) (g.part (g.list (p 16 22 82 95) (g.part (g.atom (p 17 17 83 88) (g.spelled (k.Name (codes "begin") false))) (g.part (g.list (p 18 21 89 94) (g.part (g.atom (p 19 19 90 91) (g.spelled (k.Name (codes "f") false))) (g.part (g.atom (p 20 20 92 93) (g.spelled (k.Numeral (codes "1")))) g.none))) g.none))) g.none))))))) ∷ [])) ∷ (Some (((g.list (p 0 2 0 7) (g.part (g.atom (p 1 1 1 6) (g.spelled (k.Name (codes "begin") false))) g.none))) ∷ ((g.list (p 3 10 8 28) (g.part (g.atom (p 4 4 9 14) (g.spelled (k.Name (codes "begin") false))) (g.part (g.list (p 5 9 15 27) (g.part (g.atom (p 6 6 16 22) (g.spelled (k.Name (codes "define") false))) (g.part (g.atom (p 7 7 23 24) (g.spelled (k.Name (codes "f") false))) (g.part (g.atom (p 8 8 25 26) (g.spelled (k.Numeral (codes "1")))) g.none)))) g.none)))) ∷ [])) ∷ [])) ≡ ((1, 1, ((0, 1) ∷ [])) ∷ [])
unfolding base_names standard_libraries prelude encode_utf8
included_homes_moved = refl

pub included_token_moved_in_its_datum : pair_rows (t (((codes "/l.sld")) ∷ ((codes "/p.scm")) ∷ []) ((0, (codes "l.sld"), 0) ∷ (0, (codes "p.scm"), 1) ∷ (1, (codes "l.sld"), 0) ∷ (1, (codes "p.scm"), 1) ∷ (0, (codes "/l.sld"), 0) ∷ (0, (codes "/p.scm"), 1) ∷ (1, (codes "/l.sld"), 0) ∷ (1, (codes "/p.scm"), 1) ∷ []) ((Some (((g.list (p 0 23 0 96) (g.part (g.atom (p 1 1 1 15) (g.spelled (k.Name (codes "define-library") false))) (g.part (g.list (p 2 4 16 19) (g.part (g.atom (p 3 3 17 18) (g.spelled (k.Name (codes "l") false))) g.none)) (g.part (g.list (p 5 11 20 42) (g.part (g.atom (p 6 6 21 27) (g.spelled (k.Name (codes "import") false))) (g.part (g.list (p 7 10 28 41) (g.part (g.atom (p 8 8 29 35) (g.spelled (k.Name (codes "scheme") false))) (g.part (g.atom (p 9 9 36 40) (g.spelled (k.Name (codes "base") false))) g.none))) g.none))) (g.part (g.list (p 12 15 43 81) (g.part (g.atom (p 13 13 44 72) (g.spelled (k.Name (codes "include-library-declarations") false))) (g.part (g.atom (p 14 14 73 80) (g.spelled (k.Quoted (codes "p.scm")))) g.none))) (g.part (g.list (p 16 22 82 95) (g.part (g.atom (p 17 17 83 88) (g.spelled (k.Name (codes "begin") false))) (g.part (g.list (p 18 21 89 94) (g.part (g.atom (p 19 19 90 91) (g.spelled (k.Name (codes "f") false))) (g.part (g.atom (p 20 20 92 93) (g.spelled (k.Numeral (codes "1")))) g.none))) g.none))) g.none))))))) ∷ [])) ∷ (Some (((g.list (p 0 7 0 20) (g.part (g.atom (p 1 1 1 6) (g.spelled (k.Name (codes "begin") false))) (g.part (g.list (p 2 6 7 19) (g.part (g.atom (p 3 3 8 14) (g.spelled (k.Name (codes "define") false))) (g.part (g.atom (p 4 4 15 16) (g.spelled (k.Name (codes "f") false))) (g.part (g.atom (p 5 5 17 18) (g.spelled (k.Numeral (codes "1")))) g.none)))) g.none)))) ∷ [])) ∷ [])) (t (((codes "/l.sld")) ∷ ((codes "/p.scm")) ∷ []) ((0, (codes "l.sld"), 0) ∷ (0, (codes "p.scm"), 1) ∷ (1, (codes "l.sld"), 0) ∷ (1, (codes "p.scm"), 1) ∷ (0, (codes "/l.sld"), 0) ∷ (0, (codes "/p.scm"), 1) ∷ (1, (codes "/l.sld"), 0) ∷ (1, (codes "/p.scm"), 1) ∷ []) ((Some (((g.list (p 0 23 0 96) (g.part (g.atom (p 1 1 1 15) (g.spelled (k.Name (codes "define-library") false))) (g.part (g.list (p 2 4 16 19) (g.part (g.atom (p 3 3 17 18) (g.spelled (k.Name (codes "l") false))) g.none)) (g.part (g.list (p 5 11 20 42) (g.part (g.atom (p 6 6 21 27) (g.spelled (k.Name (codes "import") false))) (g.part (g.list (p 7 10 28 41) (g.part (g.atom (p 8 8 29 35) (g.spelled (k.Name (codes "scheme") false))) (g.part (g.atom (p 9 9 36 40) (g.spelled (k.Name (codes "base") false))) g.none))) g.none))) (g.part (g.list (p 12 15 43 81) (g.part (g.atom (p 13 13 44 72) (g.spelled (k.Name (codes "include-library-declarations") false))) (g.part (g.atom (p 14 14 73 80) (g.spelled (k.Quoted (codes "p.scm")))) g.none))) (g.part (g.list (p 16 22 82 95) (g.part (g.atom (p 17 17 83 88) (g.spelled (k.Name (codes "begin") false))) (g.part (g.list (p 18 21 89 94) (g.part (g.atom (p 19 19 90 91) (g.spelled (k.Name (codes "f") false))) (g.part (g.atom (p 20 20 92 93) (g.spelled (k.Numeral (codes "1")))) g.none))) g.none))) g.none))))))) ∷ [])) ∷ (Some (((g.list (p 0 9 0 24) (g.part (g.atom (p 1 1 1 6) (g.spelled (k.Name (codes "begin") false))) (g.part (g.list (p 4 8 11 23) (g.part (g.atom (p 5 5 12 18) (g.spelled (k.Name (codes "define") false))) (g.part (g.atom (p 6 6 19 20) (g.spelled (k.Name (codes "f") false))) (g.part (g.atom (p 7 7 21 22) (g.spelled (k.Numeral (codes "1")))) g.none)))) g.none)))) ∷ [])) ∷ [])) ≡ ((1, 1, ([])) ∷ [])
unfolding base_names standard_libraries prelude encode_utf8
included_token_moved_in_its_datum = refl

pub unit_beside_an_include : pair_rows (t (((codes "/l.sld")) ∷ ((codes "/m.scm")) ∷ ((codes "/p.scm")) ∷ []) ((0, (codes "l.sld"), 0) ∷ (0, (codes "m.scm"), 1) ∷ (0, (codes "p.scm"), 2) ∷ (1, (codes "l.sld"), 0) ∷ (1, (codes "m.scm"), 1) ∷ (1, (codes "p.scm"), 2) ∷ (2, (codes "l.sld"), 0) ∷ (2, (codes "m.scm"), 1) ∷ (2, (codes "p.scm"), 2) ∷ (0, (codes "/l.sld"), 0) ∷ (0, (codes "/m.scm"), 1) ∷ (0, (codes "/p.scm"), 2) ∷ (1, (codes "/l.sld"), 0) ∷ (1, (codes "/m.scm"), 1) ∷ (1, (codes "/p.scm"), 2) ∷ (2, (codes "/l.sld"), 0) ∷ (2, (codes "/m.scm"), 1) ∷ (2, (codes "/p.scm"), 2) ∷ []) ((Some (((g.list (p 0 23 0 75) (g.part (g.atom (p 1 1 1 15) (g.spelled (k.Name (codes "define-library") false))) (g.part (g.list (p 2 4 16 19) (g.part (g.atom (p 3 3 17 18) (g.spelled (k.Name (codes "l") false))) g.none)) (g.part (g.list (p 5 11 20 42) (g.part (g.atom (p 6 6 21 27) (g.spelled (k.Name (codes "import") false))) (g.part (g.list (p 7 10 28 41) (g.part (g.atom (p 8 8 29 35) (g.spelled (k.Name (codes "scheme") false))) (g.part (g.atom (p 9 9 36 40) (g.spelled (k.Name (codes "base") false))) g.none))) g.none))) (g.part (g.list (p 12 15 43 60) (g.part (g.atom (p 13 13 44 51) (g.spelled (k.Name (codes "include") false))) (g.part (g.atom (p 14 14 52 59) (g.spelled (k.Quoted (codes "p.scm")))) g.none))) (g.part (g.list (p 16 22 61 74) (g.part (g.atom (p 17 17 62 67) (g.spelled (k.Name (codes "begin") false))) (g.part (g.list (p 18 21 68 73) (g.part (g.atom (p 19 19 69 70) (g.spelled (k.Name (codes "f") false))) (g.part (g.atom (p 20 20 71 72) (g.spelled (k.Numeral (codes "1")))) g.none))) g.none))) g.none))))))) ∷ [])) ∷ (Some (((g.list (p 0 2 0 3) (g.part (g.atom (p 1 1 1 2) (g.spelled (k.Name (codes "a") false))) g.none))) ∷ ((g.list (p 3 5 4 7) (g.part (g.atom (p 4 4 5 6) (g.spelled (k.Name (codes "b") false))) g.none))) ∷ [])) ∷ (Some (((g.list (p 0 4 0 12) (g.part (g.atom (p 1 1 1 7) (g.spelled (k.Name (codes "define") false))) (g.part (g.atom (p 2 2 8 9) (g.spelled (k.Name (codes "f") false))) (g.part (g.atom (p 3 3 10 11) (g.spelled (k.Numeral (codes "1")))) g.none))))) ∷ ((g.list (p 5 9 13 25) (g.part (g.atom (p 6 6 14 20) (g.spelled (k.Name (codes "define") false))) (g.part (g.atom (p 7 7 21 22) (g.spelled (k.Name (codes "g") false))) (g.part (g.atom (p 8 8 23 24) (g.spelled (k.Numeral (codes "2")))) g.none))))) ∷ [])) ∷ [])) (t (((codes "/l.sld")) ∷ ((codes "/m.scm")) ∷ ((codes "/p.scm")) ∷ []) ((0, (codes "l.sld"), 0) ∷ (0, (codes "m.scm"), 1) ∷ (0, (codes "p.scm"), 2) ∷ (1, (codes "l.sld"), 0) ∷ (1, (codes "m.scm"), 1) ∷ (1, (codes "p.scm"), 2) ∷ (2, (codes "l.sld"), 0) ∷ (2, (codes "m.scm"), 1) ∷ (2, (codes "p.scm"), 2) ∷ (0, (codes "/l.sld"), 0) ∷ (0, (codes "/m.scm"), 1) ∷ (0, (codes "/p.scm"), 2) ∷ (1, (codes "/l.sld"), 0) ∷ (1, (codes "/m.scm"), 1) ∷ (1, (codes "/p.scm"), 2) ∷ (2, (codes "/l.sld"), 0) ∷ (2, (codes "/m.scm"), 1) ∷ (2, (codes "/p.scm"), 2) ∷ []) ((Some (((g.list (p 0 23 0 75) (g.part (g.atom (p 1 1 1 15) (g.spelled (k.Name (codes "define-library") false))) (g.part (g.list (p 2 4 16 19) (g.part (g.atom (p 3 3 17 18) (g.spelled (k.Name (codes "l") false))) g.none)) (g.part (g.list (p 5 11 20 42) (g.part (g.atom (p 6 6 21 27) (g.spelled (k.Name (codes "import") false))) (g.part (g.list (p 7 10 28 41) (g.part (g.atom (p 8 8 29 35) (g.spelled (k.Name (codes "scheme") false))) (g.part (g.atom (p 9 9 36 40) (g.spelled (k.Name (codes "base") false))) g.none))) g.none))) (g.part (g.list (p 12 15 43 60) (g.part (g.atom (p 13 13 44 51) (g.spelled (k.Name (codes "include") false))) (g.part (g.atom (p 14 14 52 59) (g.spelled (k.Quoted (codes "p.scm")))) g.none))) (g.part (g.list (p 16 22 61 74) (g.part (g.atom (p 17 17 62 67) (g.spelled (k.Name (codes "begin") false))) (g.part (g.list (p 18 21 68 73) (g.part (g.atom (p 19 19 69 70) (g.spelled (k.Name (codes "f") false))) (g.part (g.atom (p 20 20 71 72) (g.spelled (k.Numeral (codes "1")))) g.none))) g.none))) g.none))))))) ∷ [])) ∷ (Some (((g.list (p 0 2 0 3) (g.part (g.atom (p 1 1 1 2) (g.spelled (k.Name (codes "c") false))) g.none))) ∷ ((g.list (p 3 5 4 7) (g.part (g.atom (p 4 4 5 6) (g.spelled (k.Name (codes "a") false))) g.none))) ∷ ((g.list (p 6 8 8 11) (g.part (g.atom (p 7 7 9 10) (g.spelled (k.Name (codes "b") false))) g.none))) ∷ [])) ∷ (Some (((g.list (p 0 4 0 12) (g.part (g.atom (p 1 1 1 7) (g.spelled (k.Name (codes "define") false))) (g.part (g.atom (p 2 2 8 9) (g.spelled (k.Name (codes "f") false))) (g.part (g.atom (p 3 3 10 11) (g.spelled (k.Numeral (codes "1")))) g.none))))) ∷ [])) ∷ [])) ≡ ((1, 1, ((0, 1) ∷ (1, 2) ∷ [])) ∷ (2, 2, ((0, 0) ∷ [])) ∷ [])
unfolding base_names standard_libraries prelude encode_utf8
unit_beside_an_include = refl

pub text_becomes_a_part : pair_rows (t (((codes "/m.scm")) ∷ ((codes "/p.scm")) ∷ []) ((0, (codes "m.scm"), 0) ∷ (0, (codes "p.scm"), 1) ∷ (1, (codes "m.scm"), 0) ∷ (1, (codes "p.scm"), 1) ∷ (0, (codes "/m.scm"), 0) ∷ (0, (codes "/p.scm"), 1) ∷ (1, (codes "/m.scm"), 0) ∷ (1, (codes "/p.scm"), 1) ∷ []) ((Some (((g.list (p 0 2 0 3) (g.part (g.atom (p 1 1 1 2) (g.spelled (k.Name (codes "a") false))) g.none))) ∷ [])) ∷ (Some (((g.list (p 0 2 0 3) (g.part (g.atom (p 1 1 1 2) (g.spelled (k.Name (codes "b") false))) g.none))) ∷ ((g.list (p 3 5 4 7) (g.part (g.atom (p 4 4 5 6) (g.spelled (k.Name (codes "c") false))) g.none))) ∷ [])) ∷ [])) (t (((codes "/m.scm")) ∷ ((codes "/p.scm")) ∷ []) ((0, (codes "m.scm"), 0) ∷ (0, (codes "p.scm"), 1) ∷ (1, (codes "m.scm"), 0) ∷ (1, (codes "p.scm"), 1) ∷ (0, (codes "/m.scm"), 0) ∷ (0, (codes "/p.scm"), 1) ∷ (1, (codes "/m.scm"), 0) ∷ (1, (codes "/p.scm"), 1) ∷ []) ((Some (((g.list (p 0 2 0 3) (g.part (g.atom (p 1 1 1 2) (g.spelled (k.Name (codes "a") false))) g.none))) ∷ ((g.list (p 3 6 4 21) (g.part (g.atom (p 4 4 5 12) (g.spelled (k.Name (codes "include") false))) (g.part (g.atom (p 5 5 13 20) (g.spelled (k.Quoted (codes "p.scm")))) g.none)))) ∷ [])) ∷ (Some (((g.list (p 0 2 0 3) (g.part (g.atom (p 1 1 1 2) (g.spelled (k.Name (codes "b") false))) g.none))) ∷ ((g.list (p 3 5 4 7) (g.part (g.atom (p 4 4 5 6) (g.spelled (k.Name (codes "c") false))) g.none))) ∷ [])) ∷ [])) ≡ ((1, 1, ((0, 0) ∷ (1, 1) ∷ [])) ∷ [])
unfolding base_names standard_libraries prelude encode_utf8
text_becomes_a_part = refl

pub circle_of_includes : pair_rows (t (((codes "/m.scm")) ∷ ((codes "/p.scm")) ∷ []) ((0, (codes "m.scm"), 0) ∷ (0, (codes "p.scm"), 1) ∷ (1, (codes "m.scm"), 0) ∷ (1, (codes "p.scm"), 1) ∷ (0, (codes "/m.scm"), 0) ∷ (0, (codes "/p.scm"), 1) ∷ (1, (codes "/m.scm"), 0) ∷ (1, (codes "/p.scm"), 1) ∷ []) ((Some (((g.list (p 0 2 0 3) (g.part (g.atom (p 1 1 1 2) (g.spelled (k.Name (codes "a") false))) g.none))) ∷ [])) ∷ (Some (((g.list (p 0 2 0 3) (g.part (g.atom (p 1 1 1 2) (g.spelled (k.Name (codes "b") false))) g.none))) ∷ [])) ∷ [])) (t (((codes "/m.scm")) ∷ ((codes "/p.scm")) ∷ []) ((0, (codes "m.scm"), 0) ∷ (0, (codes "p.scm"), 1) ∷ (1, (codes "m.scm"), 0) ∷ (1, (codes "p.scm"), 1) ∷ (0, (codes "/m.scm"), 0) ∷ (0, (codes "/p.scm"), 1) ∷ (1, (codes "/m.scm"), 0) ∷ (1, (codes "/p.scm"), 1) ∷ []) ((Some (((g.list (p 0 2 0 3) (g.part (g.atom (p 1 1 1 2) (g.spelled (k.Name (codes "a") false))) g.none))) ∷ ((g.list (p 3 6 4 21) (g.part (g.atom (p 4 4 5 12) (g.spelled (k.Name (codes "include") false))) (g.part (g.atom (p 5 5 13 20) (g.spelled (k.Quoted (codes "p.scm")))) g.none)))) ∷ [])) ∷ (Some (((g.list (p 0 2 0 3) (g.part (g.atom (p 1 1 1 2) (g.spelled (k.Name (codes "b") false))) g.none))) ∷ ((g.list (p 3 6 4 21) (g.part (g.atom (p 4 4 5 12) (g.spelled (k.Name (codes "include") false))) (g.part (g.atom (p 5 5 13 20) (g.spelled (k.Quoted (codes "m.scm")))) g.none)))) ∷ [])) ∷ [])) ≡ ([])
unfolding base_names standard_libraries prelude encode_utf8
circle_of_includes = refl

pub part_of_another_name : pair_rows (t (((codes "/m.scm")) ∷ ((codes "/p.scm")) ∷ []) ((0, (codes "m.scm"), 0) ∷ (0, (codes "p.scm"), 1) ∷ (1, (codes "m.scm"), 0) ∷ (1, (codes "p.scm"), 1) ∷ (0, (codes "/m.scm"), 0) ∷ (0, (codes "/p.scm"), 1) ∷ (1, (codes "/m.scm"), 0) ∷ (1, (codes "/p.scm"), 1) ∷ []) ((Some (((g.list (p 0 3 0 17) (g.part (g.atom (p 1 1 1 8) (g.spelled (k.Name (codes "include") false))) (g.part (g.atom (p 2 2 9 16) (g.spelled (k.Quoted (codes "p.scm")))) g.none)))) ∷ [])) ∷ (Some (((g.list (p 0 2 0 3) (g.part (g.atom (p 1 1 1 2) (g.spelled (k.Name (codes "b") false))) g.none))) ∷ [])) ∷ [])) (t (((codes "/m.scm")) ∷ ((codes "/q.scm")) ∷ []) ((0, (codes "m.scm"), 0) ∷ (0, (codes "q.scm"), 1) ∷ (1, (codes "m.scm"), 0) ∷ (1, (codes "q.scm"), 1) ∷ (0, (codes "/m.scm"), 0) ∷ (0, (codes "/q.scm"), 1) ∷ (1, (codes "/m.scm"), 0) ∷ (1, (codes "/q.scm"), 1) ∷ []) ((Some (((g.list (p 0 3 0 17) (g.part (g.atom (p 1 1 1 8) (g.spelled (k.Name (codes "include") false))) (g.part (g.atom (p 2 2 9 16) (g.spelled (k.Quoted (codes "q.scm")))) g.none)))) ∷ [])) ∷ (Some (((g.list (p 0 2 0 3) (g.part (g.atom (p 1 1 1 2) (g.spelled (k.Name (codes "b") false))) g.none))) ∷ [])) ∷ [])) ≡ ([])
unfolding base_names standard_libraries prelude encode_utf8
part_of_another_name = refl

pub bad_declaration_in_a_part : pair_rows (t (((codes "/l.sld")) ∷ ((codes "/p.scm")) ∷ []) ((0, (codes "l.sld"), 0) ∷ (0, (codes "p.scm"), 1) ∷ (1, (codes "l.sld"), 0) ∷ (1, (codes "p.scm"), 1) ∷ (0, (codes "/l.sld"), 0) ∷ (0, (codes "/p.scm"), 1) ∷ (1, (codes "/l.sld"), 0) ∷ (1, (codes "/p.scm"), 1) ∷ []) ((Some (((g.list (p 0 23 0 96) (g.part (g.atom (p 1 1 1 15) (g.spelled (k.Name (codes "define-library") false))) (g.part (g.list (p 2 4 16 19) (g.part (g.atom (p 3 3 17 18) (g.spelled (k.Name (codes "l") false))) g.none)) (g.part (g.list (p 5 11 20 42) (g.part (g.atom (p 6 6 21 27) (g.spelled (k.Name (codes "import") false))) (g.part (g.list (p 7 10 28 41) (g.part (g.atom (p 8 8 29 35) (g.spelled (k.Name (codes "scheme") false))) (g.part (g.atom (p 9 9 36 40) (g.spelled (k.Name (codes "base") false))) g.none))) g.none))) (g.part (g.list (p 12 15 43 81) (g.part (g.atom (p 13 13 44 72) (g.spelled (k.Name (codes "include-library-declarations") false))) (g.part (g.atom (p 14 14 73 80) (g.spelled (k.Quoted (codes "p.scm")))) g.none))) (g.part (g.list (p 16 22 82 95) (g.part (g.atom (p 17 17 83 88) (g.spelled (k.Name (codes "begin") false))) (g.part (g.list (p 18 21 89 94) (g.part (g.atom (p 19 19 90 91) (g.spelled (k.Name (codes "f") false))) (g.part (g.atom (p 20 20 92 93) (g.spelled (k.Numeral (codes "1")))) g.none))) g.none))) g.none))))))) ∷ [])) ∷ (Some (((g.list (p 0 6 0 13) (g.part (g.atom (p 1 1 1 6) (g.spelled (k.Name (codes "begin") false))) (g.part (g.list (p 2 5 7 12) (g.part (g.atom (p 3 3 8 9) (g.spelled (k.Name (codes "f") false))) (g.part (g.atom (p 4 4 10 11) (g.spelled (k.Numeral (codes "1")))) g.none))) g.none)))) ∷ [])) ∷ [])) (t (((codes "/l.sld")) ∷ ((codes "/p.scm")) ∷ []) ((0, (codes "l.sld"), 0) ∷ (0, (codes "p.scm"), 1) ∷ (1, (codes "l.sld"), 0) ∷ (1, (codes "p.scm"), 1) ∷ (0, (codes "/l.sld"), 0) ∷ (0, (codes "/p.scm"), 1) ∷ (1, (codes "/l.sld"), 0) ∷ (1, (codes "/p.scm"), 1) ∷ []) ((Some (((g.list (p 0 23 0 96) (g.part (g.atom (p 1 1 1 15) (g.spelled (k.Name (codes "define-library") false))) (g.part (g.list (p 2 4 16 19) (g.part (g.atom (p 3 3 17 18) (g.spelled (k.Name (codes "l") false))) g.none)) (g.part (g.list (p 5 11 20 42) (g.part (g.atom (p 6 6 21 27) (g.spelled (k.Name (codes "import") false))) (g.part (g.list (p 7 10 28 41) (g.part (g.atom (p 8 8 29 35) (g.spelled (k.Name (codes "scheme") false))) (g.part (g.atom (p 9 9 36 40) (g.spelled (k.Name (codes "base") false))) g.none))) g.none))) (g.part (g.list (p 12 15 43 81) (g.part (g.atom (p 13 13 44 72) (g.spelled (k.Name (codes "include-library-declarations") false))) (g.part (g.atom (p 14 14 73 80) (g.spelled (k.Quoted (codes "p.scm")))) g.none))) (g.part (g.list (p 16 22 82 95) (g.part (g.atom (p 17 17 83 88) (g.spelled (k.Name (codes "begin") false))) (g.part (g.list (p 18 21 89 94) (g.part (g.atom (p 19 19 90 91) (g.spelled (k.Name (codes "f") false))) (g.part (g.atom (p 20 20 92 93) (g.spelled (k.Numeral (codes "1")))) g.none))) g.none))) g.none))))))) ∷ [])) ∷ (Some (((g.list (p 0 3 0 5) (g.part (g.atom (p 1 1 1 2) (g.spelled (k.Name (codes "f") false))) (g.part (g.atom (p 2 2 3 4) (g.spelled (k.Numeral (codes "1")))) g.none)))) ∷ [])) ∷ [])) ≡ ((1, 1, ([])) ∷ [])
unfolding base_names standard_libraries prelude encode_utf8
bad_declaration_in_a_part = refl

pub included_form_between_others_that_give_nothing : pair_rows (t (((codes "/l.sld")) ∷ ((codes "/p.scm")) ∷ []) ((0, (codes "l.sld"), 0) ∷ (0, (codes "p.scm"), 1) ∷ (1, (codes "l.sld"), 0) ∷ (1, (codes "p.scm"), 1) ∷ (0, (codes "/l.sld"), 0) ∷ (0, (codes "/p.scm"), 1) ∷ (1, (codes "/l.sld"), 0) ∷ (1, (codes "/p.scm"), 1) ∷ []) ((Some (((g.list (p 0 23 0 96) (g.part (g.atom (p 1 1 1 15) (g.spelled (k.Name (codes "define-library") false))) (g.part (g.list (p 2 4 16 19) (g.part (g.atom (p 3 3 17 18) (g.spelled (k.Name (codes "l") false))) g.none)) (g.part (g.list (p 5 11 20 42) (g.part (g.atom (p 6 6 21 27) (g.spelled (k.Name (codes "import") false))) (g.part (g.list (p 7 10 28 41) (g.part (g.atom (p 8 8 29 35) (g.spelled (k.Name (codes "scheme") false))) (g.part (g.atom (p 9 9 36 40) (g.spelled (k.Name (codes "base") false))) g.none))) g.none))) (g.part (g.list (p 12 15 43 81) (g.part (g.atom (p 13 13 44 72) (g.spelled (k.Name (codes "include-library-declarations") false))) (g.part (g.atom (p 14 14 73 80) (g.spelled (k.Quoted (codes "p.scm")))) g.none))) (g.part (g.list (p 16 22 82 95) (g.part (g.atom (p 17 17 83 88) (g.spelled (k.Name (codes "begin") false))) (g.part (g.list (p 18 21 89 94) (g.part (g.atom (p 19 19 90 91) (g.spelled (k.Name (codes "f") false))) (g.part (g.atom (p 20 20 92 93) (g.spelled (k.Numeral (codes "1")))) g.none))) g.none))) g.none))))))) ∷ [])) ∷ (Some (((g.list (p 0 2 0 7) (g.part (g.atom (p 1 1 1 6) (g.spelled (k.Name (codes "begin") false))) g.none))) ∷ ((g.list (p 3 10 8 28) (g.part (g.atom (p 4 4 9 14) (g.spelled (k.Name (codes "begin") false))) (g.part (g.list (p 5 9 15 27) (g.part (g.atom (p 6 6 16 22) (g.spelled (k.Name (codes "define") false))) (g.part (g.atom (p 7 7 23 24) (g.spelled (k.Name (codes "f") false))) (g.part (g.atom (p 8 8 25 26) (g.spelled (k.Numeral (codes "1")))) g.none)))) g.none)))) ∷ ((g.list (p 11 13 29 36) (g.part (g.atom (p 12 12 30 35) (g.spelled (k.Name (codes "begin") false))) g.none))) ∷ [])) ∷ [])) (t (((codes "/l.sld")) ∷ ((codes "/p.scm")) ∷ []) ((0, (codes "l.sld"), 0) ∷ (0, (codes "p.scm"), 1) ∷ (1, (codes "l.sld"), 0) ∷ (1, (codes "p.scm"), 1) ∷ (0, (codes "/l.sld"), 0) ∷ (0, (codes "/p.scm"), 1) ∷ (1, (codes "/l.sld"), 0) ∷ (1, (codes "/p.scm"), 1) ∷ []) ((Some (((g.list (p 0 23 0 96) (g.part (g.atom (p 1 1 1 15) (g.spelled (k.Name (codes "define-library") false))) (g.part (g.list (p 2 4 16 19) (g.part (g.atom (p 3 3 17 18) (g.spelled (k.Name (codes "l") false))) g.none)) (g.part (g.list (p 5 11 20 42) (g.part (g.atom (p 6 6 21 27) (g.spelled (k.Name (codes "import") false))) (g.part (g.list (p 7 10 28 41) (g.part (g.atom (p 8 8 29 35) (g.spelled (k.Name (codes "scheme") false))) (g.part (g.atom (p 9 9 36 40) (g.spelled (k.Name (codes "base") false))) g.none))) g.none))) (g.part (g.list (p 12 15 43 81) (g.part (g.atom (p 13 13 44 72) (g.spelled (k.Name (codes "include-library-declarations") false))) (g.part (g.atom (p 14 14 73 80) (g.spelled (k.Quoted (codes "p.scm")))) g.none))) (g.part (g.list (p 16 22 82 95) (g.part (g.atom (p 17 17 83 88) (g.spelled (k.Name (codes "begin") false))) (g.part (g.list (p 18 21 89 94) (g.part (g.atom (p 19 19 90 91) (g.spelled (k.Name (codes "f") false))) (g.part (g.atom (p 20 20 92 93) (g.spelled (k.Numeral (codes "1")))) g.none))) g.none))) g.none))))))) ∷ [])) ∷ (Some (((g.list (p 0 5 0 20) (g.part (g.atom (p 1 1 1 12) (g.spelled (k.Name (codes "cond-expand") false))) (g.part (g.list (p 2 4 13 19) (g.part (g.atom (p 3 3 14 18) (g.spelled (k.Name (codes "else") false))) g.none)) g.none)))) ∷ ((g.list (p 6 13 21 41) (g.part (g.atom (p 7 7 22 27) (g.spelled (k.Name (codes "begin") false))) (g.part (g.list (p 8 12 28 40) (g.part (g.atom (p 9 9 29 35) (g.spelled (k.Name (codes "define") false))) (g.part (g.atom (p 10 10 36 37) (g.spelled (k.Name (codes "f") false))) (g.part (g.atom (p 11 11 38 39) (g.spelled (k.Numeral (codes "1")))) g.none)))) g.none)))) ∷ ((g.list (p 14 19 42 62) (g.part (g.atom (p 15 15 43 54) (g.spelled (k.Name (codes "cond-expand") false))) (g.part (g.list (p 16 18 55 61) (g.part (g.atom (p 17 17 56 60) (g.spelled (k.Name (codes "else") false))) g.none)) g.none)))) ∷ [])) ∷ [])) ≡ ((0, 0, ((0, 0) ∷ (1, 1) ∷ (2, 2) ∷ [])) ∷ (1, 1, ([])) ∷ [])
unfolding base_names standard_libraries prelude encode_utf8
included_form_between_others_that_give_nothing = refl
