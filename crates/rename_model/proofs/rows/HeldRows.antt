-- Documents that include one another, and which units hold an occurrence, from outside.
-- Written by tests/definitions/rows; each row is checked by computing it.
use Rattle.std.specs.Prelude.{◌≡◌, ℕ, Bool, true, false, List, [], ◌∷◌, Option, Some, None, codes, refl}
use Rattle.std.specs.Char.{encode_utf8}
use Rattle.scheme_model.specs.declared.Occ.{Occ}
use Rattle.scheme_model.specs.StandardNames.{base_names}
use Rattle.scheme_model.specs.StandardLibraries.{standard_libraries}
use Rattle.scheme_model.specs.Prelude.{prelude}
use Rattle.scheme_model.specs.Kinds as k
use Rattle.scheme_model.specs.Data as g
use Rattle.rename_model.specs.Difference as w
use Rattle.rename_model.proofs.SameShown.{held_rows}

abbrev p : ℕ → ℕ → ℕ → ℕ → g.Place
p first last start end = record { first = first; last = last; start = start; end = end }

abbrev o : ℕ → ℕ → ℕ → Occ
o unit form token = record { unit = unit; form = form; token = token }

abbrev d : w.Kind → (unit form : ℕ) → Option Occ → (before after : w.Side) → w.Difference
d kind unit form place before after = record { kind = kind; unit = unit; form = form; occ = place; before = before; after = after }

pub held-own : held_rows ((0, (codes "a.sld"), 0) ∷ (0, (codes "b.scm"), 1) ∷ (0, (codes "c.scm"), 2) ∷ (0, (codes "p.scm"), 3) ∷ (1, (codes "a.sld"), 0) ∷ (1, (codes "b.scm"), 1) ∷ (1, (codes "c.scm"), 2) ∷ (1, (codes "p.scm"), 3) ∷ (2, (codes "a.sld"), 0) ∷ (2, (codes "b.scm"), 1) ∷ (2, (codes "c.scm"), 2) ∷ (2, (codes "p.scm"), 3) ∷ (3, (codes "a.sld"), 0) ∷ (3, (codes "b.scm"), 1) ∷ (3, (codes "c.scm"), 2) ∷ (3, (codes "p.scm"), 3) ∷ []) ((Some (((g.list (p 0 13 0 70) (g.part (g.atom (p 1 1 1 15) (g.spelled (k.Name (codes "define-library") false))) (g.part (g.list (p 2 4 16 19) (g.part (g.atom (p 3 3 17 18) (g.spelled (k.Name (codes "a") false))) g.none)) (g.part (g.list (p 5 8 20 30) (g.part (g.atom (p 6 6 21 27) (g.spelled (k.Name (codes "export") false))) (g.part (g.atom (p 7 7 28 29) (g.spelled (k.Name (codes "x") false))) g.none))) (g.part (g.list (p 9 12 31 69) (g.part (g.atom (p 10 10 32 60) (g.spelled (k.Name (codes "include-library-declarations") false))) (g.part (g.atom (p 11 11 61 68) (g.spelled (k.Quoted (codes "p.scm")))) g.none))) g.none)))))) ∷ [])) ∷ (Some (((g.list (p 0 3 0 17) (g.part (g.atom (p 1 1 1 8) (g.spelled (k.Name (codes "include") false))) (g.part (g.atom (p 2 2 9 16) (g.spelled (k.Quoted (codes "p.scm")))) g.none)))) ∷ ((g.atom (p 4 4 18 19) (g.spelled (k.Name (codes "x") false)))) ∷ [])) ∷ (Some (((g.atom (p 0 0 0 1) (g.spelled (k.Name (codes "x") false)))) ∷ [])) ∷ (Some (((g.list (p 0 12 0 33) (g.part (g.atom (p 1 1 1 6) (g.spelled (k.Name (codes "begin") false))) (g.part (g.list (p 2 6 7 19) (g.part (g.atom (p 3 3 8 14) (g.spelled (k.Name (codes "define") false))) (g.part (g.atom (p 4 4 15 16) (g.spelled (k.Name (codes "x") false))) (g.part (g.atom (p 5 5 17 18) (g.spelled (k.Numeral (codes "1")))) g.none)))) (g.part (g.list (p 7 11 20 32) (g.part (g.atom (p 8 8 21 27) (g.spelled (k.Name (codes "define") false))) (g.part (g.atom (p 9 9 28 29) (g.spelled (k.Name (codes "y") false))) (g.part (g.atom (p 10 10 30 31) (g.spelled (k.Numeral (codes "2")))) g.none)))) g.none))))) ∷ ((g.list (p 13 32 34 90) (g.part (g.atom (p 14 14 35 46) (g.spelled (k.Name (codes "cond-expand") false))) (g.part (g.list (p 15 25 47 74) (g.part (g.atom (p 16 16 48 52) (g.spelled (k.Name (codes "full") false))) (g.part (g.list (p 17 24 53 73) (g.part (g.atom (p 18 18 54 59) (g.spelled (k.Name (codes "begin") false))) (g.part (g.list (p 19 23 60 72) (g.part (g.atom (p 20 20 61 67) (g.spelled (k.Name (codes "define") false))) (g.part (g.atom (p 21 21 68 69) (g.spelled (k.Name (codes "z") false))) (g.part (g.atom (p 22 22 70 71) (g.spelled (k.Numeral (codes "3")))) g.none)))) g.none))) g.none))) (g.part (g.list (p 26 31 75 89) (g.part (g.atom (p 27 27 76 80) (g.spelled (k.Name (codes "else") false))) (g.part (g.list (p 28 30 81 88) (g.part (g.atom (p 29 29 82 87) (g.spelled (k.Name (codes "begin") false))) g.none)) g.none))) g.none))))) ∷ [])) ∷ []) (o 0 0 2) ≡ ((true) ∷ (false) ∷ (false) ∷ (false) ∷ [])
unfolding base_names standard_libraries prelude encode_utf8
held-own = refl

pub held-own-of-a-program : held_rows ((0, (codes "a.sld"), 0) ∷ (0, (codes "b.scm"), 1) ∷ (0, (codes "c.scm"), 2) ∷ (0, (codes "p.scm"), 3) ∷ (1, (codes "a.sld"), 0) ∷ (1, (codes "b.scm"), 1) ∷ (1, (codes "c.scm"), 2) ∷ (1, (codes "p.scm"), 3) ∷ (2, (codes "a.sld"), 0) ∷ (2, (codes "b.scm"), 1) ∷ (2, (codes "c.scm"), 2) ∷ (2, (codes "p.scm"), 3) ∷ (3, (codes "a.sld"), 0) ∷ (3, (codes "b.scm"), 1) ∷ (3, (codes "c.scm"), 2) ∷ (3, (codes "p.scm"), 3) ∷ []) ((Some (((g.list (p 0 13 0 70) (g.part (g.atom (p 1 1 1 15) (g.spelled (k.Name (codes "define-library") false))) (g.part (g.list (p 2 4 16 19) (g.part (g.atom (p 3 3 17 18) (g.spelled (k.Name (codes "a") false))) g.none)) (g.part (g.list (p 5 8 20 30) (g.part (g.atom (p 6 6 21 27) (g.spelled (k.Name (codes "export") false))) (g.part (g.atom (p 7 7 28 29) (g.spelled (k.Name (codes "x") false))) g.none))) (g.part (g.list (p 9 12 31 69) (g.part (g.atom (p 10 10 32 60) (g.spelled (k.Name (codes "include-library-declarations") false))) (g.part (g.atom (p 11 11 61 68) (g.spelled (k.Quoted (codes "p.scm")))) g.none))) g.none)))))) ∷ [])) ∷ (Some (((g.list (p 0 3 0 17) (g.part (g.atom (p 1 1 1 8) (g.spelled (k.Name (codes "include") false))) (g.part (g.atom (p 2 2 9 16) (g.spelled (k.Quoted (codes "p.scm")))) g.none)))) ∷ ((g.atom (p 4 4 18 19) (g.spelled (k.Name (codes "x") false)))) ∷ [])) ∷ (Some (((g.atom (p 0 0 0 1) (g.spelled (k.Name (codes "x") false)))) ∷ [])) ∷ (Some (((g.list (p 0 12 0 33) (g.part (g.atom (p 1 1 1 6) (g.spelled (k.Name (codes "begin") false))) (g.part (g.list (p 2 6 7 19) (g.part (g.atom (p 3 3 8 14) (g.spelled (k.Name (codes "define") false))) (g.part (g.atom (p 4 4 15 16) (g.spelled (k.Name (codes "x") false))) (g.part (g.atom (p 5 5 17 18) (g.spelled (k.Numeral (codes "1")))) g.none)))) (g.part (g.list (p 7 11 20 32) (g.part (g.atom (p 8 8 21 27) (g.spelled (k.Name (codes "define") false))) (g.part (g.atom (p 9 9 28 29) (g.spelled (k.Name (codes "y") false))) (g.part (g.atom (p 10 10 30 31) (g.spelled (k.Numeral (codes "2")))) g.none)))) g.none))))) ∷ ((g.list (p 13 32 34 90) (g.part (g.atom (p 14 14 35 46) (g.spelled (k.Name (codes "cond-expand") false))) (g.part (g.list (p 15 25 47 74) (g.part (g.atom (p 16 16 48 52) (g.spelled (k.Name (codes "full") false))) (g.part (g.list (p 17 24 53 73) (g.part (g.atom (p 18 18 54 59) (g.spelled (k.Name (codes "begin") false))) (g.part (g.list (p 19 23 60 72) (g.part (g.atom (p 20 20 61 67) (g.spelled (k.Name (codes "define") false))) (g.part (g.atom (p 21 21 68 69) (g.spelled (k.Name (codes "z") false))) (g.part (g.atom (p 22 22 70 71) (g.spelled (k.Numeral (codes "3")))) g.none)))) g.none))) g.none))) (g.part (g.list (p 26 31 75 89) (g.part (g.atom (p 27 27 76 80) (g.spelled (k.Name (codes "else") false))) (g.part (g.list (p 28 30 81 88) (g.part (g.atom (p 29 29 82 87) (g.spelled (k.Name (codes "begin") false))) g.none)) g.none))) g.none))))) ∷ [])) ∷ []) (o 1 2 0) ≡ ((false) ∷ (true) ∷ (false) ∷ (false) ∷ [])
unfolding base_names standard_libraries prelude encode_utf8
held-own-of-a-program = refl

pub held-of-a-part-by-both : held_rows ((0, (codes "a.sld"), 0) ∷ (0, (codes "b.scm"), 1) ∷ (0, (codes "c.scm"), 2) ∷ (0, (codes "p.scm"), 3) ∷ (1, (codes "a.sld"), 0) ∷ (1, (codes "b.scm"), 1) ∷ (1, (codes "c.scm"), 2) ∷ (1, (codes "p.scm"), 3) ∷ (2, (codes "a.sld"), 0) ∷ (2, (codes "b.scm"), 1) ∷ (2, (codes "c.scm"), 2) ∷ (2, (codes "p.scm"), 3) ∷ (3, (codes "a.sld"), 0) ∷ (3, (codes "b.scm"), 1) ∷ (3, (codes "c.scm"), 2) ∷ (3, (codes "p.scm"), 3) ∷ []) ((Some (((g.list (p 0 13 0 70) (g.part (g.atom (p 1 1 1 15) (g.spelled (k.Name (codes "define-library") false))) (g.part (g.list (p 2 4 16 19) (g.part (g.atom (p 3 3 17 18) (g.spelled (k.Name (codes "a") false))) g.none)) (g.part (g.list (p 5 8 20 30) (g.part (g.atom (p 6 6 21 27) (g.spelled (k.Name (codes "export") false))) (g.part (g.atom (p 7 7 28 29) (g.spelled (k.Name (codes "x") false))) g.none))) (g.part (g.list (p 9 12 31 69) (g.part (g.atom (p 10 10 32 60) (g.spelled (k.Name (codes "include-library-declarations") false))) (g.part (g.atom (p 11 11 61 68) (g.spelled (k.Quoted (codes "p.scm")))) g.none))) g.none)))))) ∷ [])) ∷ (Some (((g.list (p 0 3 0 17) (g.part (g.atom (p 1 1 1 8) (g.spelled (k.Name (codes "include") false))) (g.part (g.atom (p 2 2 9 16) (g.spelled (k.Quoted (codes "p.scm")))) g.none)))) ∷ ((g.atom (p 4 4 18 19) (g.spelled (k.Name (codes "x") false)))) ∷ [])) ∷ (Some (((g.atom (p 0 0 0 1) (g.spelled (k.Name (codes "x") false)))) ∷ [])) ∷ (Some (((g.list (p 0 12 0 33) (g.part (g.atom (p 1 1 1 6) (g.spelled (k.Name (codes "begin") false))) (g.part (g.list (p 2 6 7 19) (g.part (g.atom (p 3 3 8 14) (g.spelled (k.Name (codes "define") false))) (g.part (g.atom (p 4 4 15 16) (g.spelled (k.Name (codes "x") false))) (g.part (g.atom (p 5 5 17 18) (g.spelled (k.Numeral (codes "1")))) g.none)))) (g.part (g.list (p 7 11 20 32) (g.part (g.atom (p 8 8 21 27) (g.spelled (k.Name (codes "define") false))) (g.part (g.atom (p 9 9 28 29) (g.spelled (k.Name (codes "y") false))) (g.part (g.atom (p 10 10 30 31) (g.spelled (k.Numeral (codes "2")))) g.none)))) g.none))))) ∷ ((g.list (p 13 32 34 90) (g.part (g.atom (p 14 14 35 46) (g.spelled (k.Name (codes "cond-expand") false))) (g.part (g.list (p 15 25 47 74) (g.part (g.atom (p 16 16 48 52) (g.spelled (k.Name (codes "full") false))) (g.part (g.list (p 17 24 53 73) (g.part (g.atom (p 18 18 54 59) (g.spelled (k.Name (codes "begin") false))) (g.part (g.list (p 19 23 60 72) (g.part (g.atom (p 20 20 61 67) (g.spelled (k.Name (codes "define") false))) (g.part (g.atom (p 21 21 68 69) (g.spelled (k.Name (codes "z") false))) (g.part (g.atom (p 22 22 70 71) (g.spelled (k.Numeral (codes "3")))) g.none)))) g.none))) g.none))) (g.part (g.list (p 26 31 75 89) (g.part (g.atom (p 27 27 76 80) (g.spelled (k.Name (codes "else") false))) (g.part (g.list (p 28 30 81 88) (g.part (g.atom (p 29 29 82 87) (g.spelled (k.Name (codes "begin") false))) g.none)) g.none))) g.none))))) ∷ [])) ∷ []) (o 3 0 4) ≡ ((true) ∷ (true) ∷ (false) ∷ (false) ∷ [])
unfolding base_names standard_libraries prelude encode_utf8
held-of-a-part-by-both = refl

pub held-second-of-a-begin : held_rows ((0, (codes "a.sld"), 0) ∷ (0, (codes "b.scm"), 1) ∷ (0, (codes "c.scm"), 2) ∷ (0, (codes "p.scm"), 3) ∷ (1, (codes "a.sld"), 0) ∷ (1, (codes "b.scm"), 1) ∷ (1, (codes "c.scm"), 2) ∷ (1, (codes "p.scm"), 3) ∷ (2, (codes "a.sld"), 0) ∷ (2, (codes "b.scm"), 1) ∷ (2, (codes "c.scm"), 2) ∷ (2, (codes "p.scm"), 3) ∷ (3, (codes "a.sld"), 0) ∷ (3, (codes "b.scm"), 1) ∷ (3, (codes "c.scm"), 2) ∷ (3, (codes "p.scm"), 3) ∷ []) ((Some (((g.list (p 0 13 0 70) (g.part (g.atom (p 1 1 1 15) (g.spelled (k.Name (codes "define-library") false))) (g.part (g.list (p 2 4 16 19) (g.part (g.atom (p 3 3 17 18) (g.spelled (k.Name (codes "a") false))) g.none)) (g.part (g.list (p 5 8 20 30) (g.part (g.atom (p 6 6 21 27) (g.spelled (k.Name (codes "export") false))) (g.part (g.atom (p 7 7 28 29) (g.spelled (k.Name (codes "x") false))) g.none))) (g.part (g.list (p 9 12 31 69) (g.part (g.atom (p 10 10 32 60) (g.spelled (k.Name (codes "include-library-declarations") false))) (g.part (g.atom (p 11 11 61 68) (g.spelled (k.Quoted (codes "p.scm")))) g.none))) g.none)))))) ∷ [])) ∷ (Some (((g.list (p 0 3 0 17) (g.part (g.atom (p 1 1 1 8) (g.spelled (k.Name (codes "include") false))) (g.part (g.atom (p 2 2 9 16) (g.spelled (k.Quoted (codes "p.scm")))) g.none)))) ∷ ((g.atom (p 4 4 18 19) (g.spelled (k.Name (codes "x") false)))) ∷ [])) ∷ (Some (((g.atom (p 0 0 0 1) (g.spelled (k.Name (codes "x") false)))) ∷ [])) ∷ (Some (((g.list (p 0 12 0 33) (g.part (g.atom (p 1 1 1 6) (g.spelled (k.Name (codes "begin") false))) (g.part (g.list (p 2 6 7 19) (g.part (g.atom (p 3 3 8 14) (g.spelled (k.Name (codes "define") false))) (g.part (g.atom (p 4 4 15 16) (g.spelled (k.Name (codes "x") false))) (g.part (g.atom (p 5 5 17 18) (g.spelled (k.Numeral (codes "1")))) g.none)))) (g.part (g.list (p 7 11 20 32) (g.part (g.atom (p 8 8 21 27) (g.spelled (k.Name (codes "define") false))) (g.part (g.atom (p 9 9 28 29) (g.spelled (k.Name (codes "y") false))) (g.part (g.atom (p 10 10 30 31) (g.spelled (k.Numeral (codes "2")))) g.none)))) g.none))))) ∷ ((g.list (p 13 32 34 90) (g.part (g.atom (p 14 14 35 46) (g.spelled (k.Name (codes "cond-expand") false))) (g.part (g.list (p 15 25 47 74) (g.part (g.atom (p 16 16 48 52) (g.spelled (k.Name (codes "full") false))) (g.part (g.list (p 17 24 53 73) (g.part (g.atom (p 18 18 54 59) (g.spelled (k.Name (codes "begin") false))) (g.part (g.list (p 19 23 60 72) (g.part (g.atom (p 20 20 61 67) (g.spelled (k.Name (codes "define") false))) (g.part (g.atom (p 21 21 68 69) (g.spelled (k.Name (codes "z") false))) (g.part (g.atom (p 22 22 70 71) (g.spelled (k.Numeral (codes "3")))) g.none)))) g.none))) g.none))) (g.part (g.list (p 26 31 75 89) (g.part (g.atom (p 27 27 76 80) (g.spelled (k.Name (codes "else") false))) (g.part (g.list (p 28 30 81 88) (g.part (g.atom (p 29 29 82 87) (g.spelled (k.Name (codes "begin") false))) g.none)) g.none))) g.none))))) ∷ [])) ∷ []) (o 3 0 9) ≡ ((true) ∷ (true) ∷ (false) ∷ (false) ∷ [])
unfolding base_names standard_libraries prelude encode_utf8
held-second-of-a-begin = refl

pub held-head-of-a-begin : held_rows ((0, (codes "a.sld"), 0) ∷ (0, (codes "b.scm"), 1) ∷ (0, (codes "c.scm"), 2) ∷ (0, (codes "p.scm"), 3) ∷ (1, (codes "a.sld"), 0) ∷ (1, (codes "b.scm"), 1) ∷ (1, (codes "c.scm"), 2) ∷ (1, (codes "p.scm"), 3) ∷ (2, (codes "a.sld"), 0) ∷ (2, (codes "b.scm"), 1) ∷ (2, (codes "c.scm"), 2) ∷ (2, (codes "p.scm"), 3) ∷ (3, (codes "a.sld"), 0) ∷ (3, (codes "b.scm"), 1) ∷ (3, (codes "c.scm"), 2) ∷ (3, (codes "p.scm"), 3) ∷ []) ((Some (((g.list (p 0 13 0 70) (g.part (g.atom (p 1 1 1 15) (g.spelled (k.Name (codes "define-library") false))) (g.part (g.list (p 2 4 16 19) (g.part (g.atom (p 3 3 17 18) (g.spelled (k.Name (codes "a") false))) g.none)) (g.part (g.list (p 5 8 20 30) (g.part (g.atom (p 6 6 21 27) (g.spelled (k.Name (codes "export") false))) (g.part (g.atom (p 7 7 28 29) (g.spelled (k.Name (codes "x") false))) g.none))) (g.part (g.list (p 9 12 31 69) (g.part (g.atom (p 10 10 32 60) (g.spelled (k.Name (codes "include-library-declarations") false))) (g.part (g.atom (p 11 11 61 68) (g.spelled (k.Quoted (codes "p.scm")))) g.none))) g.none)))))) ∷ [])) ∷ (Some (((g.list (p 0 3 0 17) (g.part (g.atom (p 1 1 1 8) (g.spelled (k.Name (codes "include") false))) (g.part (g.atom (p 2 2 9 16) (g.spelled (k.Quoted (codes "p.scm")))) g.none)))) ∷ ((g.atom (p 4 4 18 19) (g.spelled (k.Name (codes "x") false)))) ∷ [])) ∷ (Some (((g.atom (p 0 0 0 1) (g.spelled (k.Name (codes "x") false)))) ∷ [])) ∷ (Some (((g.list (p 0 12 0 33) (g.part (g.atom (p 1 1 1 6) (g.spelled (k.Name (codes "begin") false))) (g.part (g.list (p 2 6 7 19) (g.part (g.atom (p 3 3 8 14) (g.spelled (k.Name (codes "define") false))) (g.part (g.atom (p 4 4 15 16) (g.spelled (k.Name (codes "x") false))) (g.part (g.atom (p 5 5 17 18) (g.spelled (k.Numeral (codes "1")))) g.none)))) (g.part (g.list (p 7 11 20 32) (g.part (g.atom (p 8 8 21 27) (g.spelled (k.Name (codes "define") false))) (g.part (g.atom (p 9 9 28 29) (g.spelled (k.Name (codes "y") false))) (g.part (g.atom (p 10 10 30 31) (g.spelled (k.Numeral (codes "2")))) g.none)))) g.none))))) ∷ ((g.list (p 13 32 34 90) (g.part (g.atom (p 14 14 35 46) (g.spelled (k.Name (codes "cond-expand") false))) (g.part (g.list (p 15 25 47 74) (g.part (g.atom (p 16 16 48 52) (g.spelled (k.Name (codes "full") false))) (g.part (g.list (p 17 24 53 73) (g.part (g.atom (p 18 18 54 59) (g.spelled (k.Name (codes "begin") false))) (g.part (g.list (p 19 23 60 72) (g.part (g.atom (p 20 20 61 67) (g.spelled (k.Name (codes "define") false))) (g.part (g.atom (p 21 21 68 69) (g.spelled (k.Name (codes "z") false))) (g.part (g.atom (p 22 22 70 71) (g.spelled (k.Numeral (codes "3")))) g.none)))) g.none))) g.none))) (g.part (g.list (p 26 31 75 89) (g.part (g.atom (p 27 27 76 80) (g.spelled (k.Name (codes "else") false))) (g.part (g.list (p 28 30 81 88) (g.part (g.atom (p 29 29 82 87) (g.spelled (k.Name (codes "begin") false))) g.none)) g.none))) g.none))))) ∷ [])) ∷ []) (o 3 0 1) ≡ ((false) ∷ (true) ∷ (false) ∷ (false) ∷ [])
unfolding base_names standard_libraries prelude encode_utf8
held-head-of-a-begin = refl

pub held-in-a-clause-not-taken : held_rows ((0, (codes "a.sld"), 0) ∷ (0, (codes "b.scm"), 1) ∷ (0, (codes "c.scm"), 2) ∷ (0, (codes "p.scm"), 3) ∷ (1, (codes "a.sld"), 0) ∷ (1, (codes "b.scm"), 1) ∷ (1, (codes "c.scm"), 2) ∷ (1, (codes "p.scm"), 3) ∷ (2, (codes "a.sld"), 0) ∷ (2, (codes "b.scm"), 1) ∷ (2, (codes "c.scm"), 2) ∷ (2, (codes "p.scm"), 3) ∷ (3, (codes "a.sld"), 0) ∷ (3, (codes "b.scm"), 1) ∷ (3, (codes "c.scm"), 2) ∷ (3, (codes "p.scm"), 3) ∷ []) ((Some (((g.list (p 0 13 0 70) (g.part (g.atom (p 1 1 1 15) (g.spelled (k.Name (codes "define-library") false))) (g.part (g.list (p 2 4 16 19) (g.part (g.atom (p 3 3 17 18) (g.spelled (k.Name (codes "a") false))) g.none)) (g.part (g.list (p 5 8 20 30) (g.part (g.atom (p 6 6 21 27) (g.spelled (k.Name (codes "export") false))) (g.part (g.atom (p 7 7 28 29) (g.spelled (k.Name (codes "x") false))) g.none))) (g.part (g.list (p 9 12 31 69) (g.part (g.atom (p 10 10 32 60) (g.spelled (k.Name (codes "include-library-declarations") false))) (g.part (g.atom (p 11 11 61 68) (g.spelled (k.Quoted (codes "p.scm")))) g.none))) g.none)))))) ∷ [])) ∷ (Some (((g.list (p 0 3 0 17) (g.part (g.atom (p 1 1 1 8) (g.spelled (k.Name (codes "include") false))) (g.part (g.atom (p 2 2 9 16) (g.spelled (k.Quoted (codes "p.scm")))) g.none)))) ∷ ((g.atom (p 4 4 18 19) (g.spelled (k.Name (codes "x") false)))) ∷ [])) ∷ (Some (((g.atom (p 0 0 0 1) (g.spelled (k.Name (codes "x") false)))) ∷ [])) ∷ (Some (((g.list (p 0 12 0 33) (g.part (g.atom (p 1 1 1 6) (g.spelled (k.Name (codes "begin") false))) (g.part (g.list (p 2 6 7 19) (g.part (g.atom (p 3 3 8 14) (g.spelled (k.Name (codes "define") false))) (g.part (g.atom (p 4 4 15 16) (g.spelled (k.Name (codes "x") false))) (g.part (g.atom (p 5 5 17 18) (g.spelled (k.Numeral (codes "1")))) g.none)))) (g.part (g.list (p 7 11 20 32) (g.part (g.atom (p 8 8 21 27) (g.spelled (k.Name (codes "define") false))) (g.part (g.atom (p 9 9 28 29) (g.spelled (k.Name (codes "y") false))) (g.part (g.atom (p 10 10 30 31) (g.spelled (k.Numeral (codes "2")))) g.none)))) g.none))))) ∷ ((g.list (p 13 32 34 90) (g.part (g.atom (p 14 14 35 46) (g.spelled (k.Name (codes "cond-expand") false))) (g.part (g.list (p 15 25 47 74) (g.part (g.atom (p 16 16 48 52) (g.spelled (k.Name (codes "full") false))) (g.part (g.list (p 17 24 53 73) (g.part (g.atom (p 18 18 54 59) (g.spelled (k.Name (codes "begin") false))) (g.part (g.list (p 19 23 60 72) (g.part (g.atom (p 20 20 61 67) (g.spelled (k.Name (codes "define") false))) (g.part (g.atom (p 21 21 68 69) (g.spelled (k.Name (codes "z") false))) (g.part (g.atom (p 22 22 70 71) (g.spelled (k.Numeral (codes "3")))) g.none)))) g.none))) g.none))) (g.part (g.list (p 26 31 75 89) (g.part (g.atom (p 27 27 76 80) (g.spelled (k.Name (codes "else") false))) (g.part (g.list (p 28 30 81 88) (g.part (g.atom (p 29 29 82 87) (g.spelled (k.Name (codes "begin") false))) g.none)) g.none))) g.none))))) ∷ [])) ∷ []) (o 3 1 7) ≡ ((false) ∷ (true) ∷ (false) ∷ (false) ∷ [])
unfolding base_names standard_libraries prelude encode_utf8
held-in-a-clause-not-taken = refl

pub held-behind-a-form : held_rows ((0, (codes "a.sld"), 0) ∷ (0, (codes "b.scm"), 1) ∷ (0, (codes "c.scm"), 2) ∷ (0, (codes "p.scm"), 3) ∷ (1, (codes "a.sld"), 0) ∷ (1, (codes "b.scm"), 1) ∷ (1, (codes "c.scm"), 2) ∷ (1, (codes "p.scm"), 3) ∷ (2, (codes "a.sld"), 0) ∷ (2, (codes "b.scm"), 1) ∷ (2, (codes "c.scm"), 2) ∷ (2, (codes "p.scm"), 3) ∷ (3, (codes "a.sld"), 0) ∷ (3, (codes "b.scm"), 1) ∷ (3, (codes "c.scm"), 2) ∷ (3, (codes "p.scm"), 3) ∷ []) ((Some (((g.list (p 0 13 0 70) (g.part (g.atom (p 1 1 1 15) (g.spelled (k.Name (codes "define-library") false))) (g.part (g.list (p 2 4 16 19) (g.part (g.atom (p 3 3 17 18) (g.spelled (k.Name (codes "a") false))) g.none)) (g.part (g.list (p 5 8 20 30) (g.part (g.atom (p 6 6 21 27) (g.spelled (k.Name (codes "export") false))) (g.part (g.atom (p 7 7 28 29) (g.spelled (k.Name (codes "x") false))) g.none))) (g.part (g.list (p 9 12 31 69) (g.part (g.atom (p 10 10 32 60) (g.spelled (k.Name (codes "include-library-declarations") false))) (g.part (g.atom (p 11 11 61 68) (g.spelled (k.Quoted (codes "p.scm")))) g.none))) g.none)))))) ∷ [])) ∷ (Some (((g.list (p 0 3 0 17) (g.part (g.atom (p 1 1 1 8) (g.spelled (k.Name (codes "include") false))) (g.part (g.atom (p 2 2 9 16) (g.spelled (k.Quoted (codes "p.scm")))) g.none)))) ∷ ((g.atom (p 4 4 18 19) (g.spelled (k.Name (codes "x") false)))) ∷ [])) ∷ (Some (((g.atom (p 0 0 0 1) (g.spelled (k.Name (codes "x") false)))) ∷ [])) ∷ (Some (((g.list (p 0 12 0 33) (g.part (g.atom (p 1 1 1 6) (g.spelled (k.Name (codes "begin") false))) (g.part (g.list (p 2 6 7 19) (g.part (g.atom (p 3 3 8 14) (g.spelled (k.Name (codes "define") false))) (g.part (g.atom (p 4 4 15 16) (g.spelled (k.Name (codes "x") false))) (g.part (g.atom (p 5 5 17 18) (g.spelled (k.Numeral (codes "1")))) g.none)))) (g.part (g.list (p 7 11 20 32) (g.part (g.atom (p 8 8 21 27) (g.spelled (k.Name (codes "define") false))) (g.part (g.atom (p 9 9 28 29) (g.spelled (k.Name (codes "y") false))) (g.part (g.atom (p 10 10 30 31) (g.spelled (k.Numeral (codes "2")))) g.none)))) g.none))))) ∷ ((g.list (p 13 32 34 90) (g.part (g.atom (p 14 14 35 46) (g.spelled (k.Name (codes "cond-expand") false))) (g.part (g.list (p 15 25 47 74) (g.part (g.atom (p 16 16 48 52) (g.spelled (k.Name (codes "full") false))) (g.part (g.list (p 17 24 53 73) (g.part (g.atom (p 18 18 54 59) (g.spelled (k.Name (codes "begin") false))) (g.part (g.list (p 19 23 60 72) (g.part (g.atom (p 20 20 61 67) (g.spelled (k.Name (codes "define") false))) (g.part (g.atom (p 21 21 68 69) (g.spelled (k.Name (codes "z") false))) (g.part (g.atom (p 22 22 70 71) (g.spelled (k.Numeral (codes "3")))) g.none)))) g.none))) g.none))) (g.part (g.list (p 26 31 75 89) (g.part (g.atom (p 27 27 76 80) (g.spelled (k.Name (codes "else") false))) (g.part (g.list (p 28 30 81 88) (g.part (g.atom (p 29 29 82 87) (g.spelled (k.Name (codes "begin") false))) g.none)) g.none))) g.none))))) ∷ [])) ∷ []) (o 2 0 1) ≡ ((false) ∷ (false) ∷ (false) ∷ (false) ∷ [])
unfolding base_names standard_libraries prelude encode_utf8
held-behind-a-form = refl

pub held-of-no-unit : held_rows ((0, (codes "a.sld"), 0) ∷ (0, (codes "b.scm"), 1) ∷ (0, (codes "c.scm"), 2) ∷ (0, (codes "p.scm"), 3) ∷ (1, (codes "a.sld"), 0) ∷ (1, (codes "b.scm"), 1) ∷ (1, (codes "c.scm"), 2) ∷ (1, (codes "p.scm"), 3) ∷ (2, (codes "a.sld"), 0) ∷ (2, (codes "b.scm"), 1) ∷ (2, (codes "c.scm"), 2) ∷ (2, (codes "p.scm"), 3) ∷ (3, (codes "a.sld"), 0) ∷ (3, (codes "b.scm"), 1) ∷ (3, (codes "c.scm"), 2) ∷ (3, (codes "p.scm"), 3) ∷ []) ((Some (((g.list (p 0 13 0 70) (g.part (g.atom (p 1 1 1 15) (g.spelled (k.Name (codes "define-library") false))) (g.part (g.list (p 2 4 16 19) (g.part (g.atom (p 3 3 17 18) (g.spelled (k.Name (codes "a") false))) g.none)) (g.part (g.list (p 5 8 20 30) (g.part (g.atom (p 6 6 21 27) (g.spelled (k.Name (codes "export") false))) (g.part (g.atom (p 7 7 28 29) (g.spelled (k.Name (codes "x") false))) g.none))) (g.part (g.list (p 9 12 31 69) (g.part (g.atom (p 10 10 32 60) (g.spelled (k.Name (codes "include-library-declarations") false))) (g.part (g.atom (p 11 11 61 68) (g.spelled (k.Quoted (codes "p.scm")))) g.none))) g.none)))))) ∷ [])) ∷ (Some (((g.list (p 0 3 0 17) (g.part (g.atom (p 1 1 1 8) (g.spelled (k.Name (codes "include") false))) (g.part (g.atom (p 2 2 9 16) (g.spelled (k.Quoted (codes "p.scm")))) g.none)))) ∷ ((g.atom (p 4 4 18 19) (g.spelled (k.Name (codes "x") false)))) ∷ [])) ∷ (Some (((g.atom (p 0 0 0 1) (g.spelled (k.Name (codes "x") false)))) ∷ [])) ∷ (Some (((g.list (p 0 12 0 33) (g.part (g.atom (p 1 1 1 6) (g.spelled (k.Name (codes "begin") false))) (g.part (g.list (p 2 6 7 19) (g.part (g.atom (p 3 3 8 14) (g.spelled (k.Name (codes "define") false))) (g.part (g.atom (p 4 4 15 16) (g.spelled (k.Name (codes "x") false))) (g.part (g.atom (p 5 5 17 18) (g.spelled (k.Numeral (codes "1")))) g.none)))) (g.part (g.list (p 7 11 20 32) (g.part (g.atom (p 8 8 21 27) (g.spelled (k.Name (codes "define") false))) (g.part (g.atom (p 9 9 28 29) (g.spelled (k.Name (codes "y") false))) (g.part (g.atom (p 10 10 30 31) (g.spelled (k.Numeral (codes "2")))) g.none)))) g.none))))) ∷ ((g.list (p 13 32 34 90) (g.part (g.atom (p 14 14 35 46) (g.spelled (k.Name (codes "cond-expand") false))) (g.part (g.list (p 15 25 47 74) (g.part (g.atom (p 16 16 48 52) (g.spelled (k.Name (codes "full") false))) (g.part (g.list (p 17 24 53 73) (g.part (g.atom (p 18 18 54 59) (g.spelled (k.Name (codes "begin") false))) (g.part (g.list (p 19 23 60 72) (g.part (g.atom (p 20 20 61 67) (g.spelled (k.Name (codes "define") false))) (g.part (g.atom (p 21 21 68 69) (g.spelled (k.Name (codes "z") false))) (g.part (g.atom (p 22 22 70 71) (g.spelled (k.Numeral (codes "3")))) g.none)))) g.none))) g.none))) (g.part (g.list (p 26 31 75 89) (g.part (g.atom (p 27 27 76 80) (g.spelled (k.Name (codes "else") false))) (g.part (g.list (p 28 30 81 88) (g.part (g.atom (p 29 29 82 87) (g.spelled (k.Name (codes "begin") false))) g.none)) g.none))) g.none))))) ∷ [])) ∷ []) (o 4 0 0) ≡ ((false) ∷ (false) ∷ (false) ∷ (false) ∷ [])
unfolding base_names standard_libraries prelude encode_utf8
held-of-no-unit = refl
