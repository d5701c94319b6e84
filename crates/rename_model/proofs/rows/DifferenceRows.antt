-- Two programs, some occurrences of the old one, and their first difference in all units, from outside.
-- Written by tests/definitions/rows; each row is checked by computing it.
use Rattle.std.specs.Prelude.{◌≡◌, ℕ, Bool, true, false, List, [], ◌∷◌, Option, Some, None, codes, refl}
use Rattle.std.specs.Char.{encode_utf8}
use Rattle.scheme_model.specs.declared.Occ.{Occ}
use Rattle.scheme_model.specs.StandardNames.{base_names}
use Rattle.scheme_model.specs.StandardLibraries.{standard_libraries}
use Rattle.scheme_model.specs.Prelude.{prelude}
use Rattle.scheme_model.specs.Kinds as k
use Rattle.scheme_model.specs.Data as g
use Rattle.rename_model.specs.Difference as w
use Rattle.rename_model.proofs.SameShown.{difference_rows}

abbrev p : ℕ → ℕ → ℕ → ℕ → g.Place
p first last start end = record { first = first; last = last; start = start; end = end }

abbrev o : ℕ → ℕ → ℕ → Occ
o unit form token = record { unit = unit; form = form; token = token }

abbrev d : w.Kind → (unit form : ℕ) → Option Occ → (before after : w.Side) → w.Difference
d kind unit form place before after = record { kind = kind; unit = unit; form = form; occ = place; before = before; after = after }

pub differences-5 : difference_rows ((Some (((g.list (p 0 16 0 40) (g.part (g.atom (p 1 1 1 7) (g.spelled (k.Name (codes "define") false))) (g.part (g.list (p 2 4 8 11) (g.part (g.atom (p 3 3 9 10) (g.spelled (k.Name (codes "f") false))) g.none)) (g.part (g.list (p 5 9 12 24) (g.part (g.atom (p 6 6 13 19) (g.spelled (k.Name (codes "define") false))) (g.part (g.atom (p 7 7 20 21) (g.spelled (k.Name (codes "a") false))) (g.part (g.atom (p 8 8 22 23) (g.spelled (k.Name (codes "b") false))) g.none)))) (g.part (g.list (p 10 14 25 37) (g.part (g.atom (p 11 11 26 32) (g.spelled (k.Name (codes "define") false))) (g.part (g.atom (p 12 12 33 34) (g.spelled (k.Name (codes "b") false))) (g.part (g.atom (p 13 13 35 36) (g.spelled (k.Numeral (codes "1")))) g.none)))) (g.part (g.atom (p 15 15 38 39) (g.spelled (k.Name (codes "a") false))) g.none))))))) ∷ [])) ∷ []) ((Some (((g.list (p 0 18 0 49) (g.part (g.atom (p 1 1 1 7) (g.spelled (k.Name (codes "define") false))) (g.part (g.list (p 2 4 8 11) (g.part (g.atom (p 3 3 9 10) (g.spelled (k.Name (codes "f") false))) g.none)) (g.part (g.list (p 5 9 12 24) (g.part (g.atom (p 6 6 13 19) (g.spelled (k.Name (codes "define") false))) (g.part (g.atom (p 7 7 20 21) (g.spelled (k.Name (codes "a") false))) (g.part (g.atom (p 8 8 22 23) (g.spelled (k.Name (codes "b") false))) g.none)))) (g.part (g.list (p 10 16 25 46) (g.part (g.atom (p 11 11 26 39) (g.spelled (k.Name (codes "define-values") false))) (g.part (g.list (p 12 14 40 43) (g.part (g.atom (p 13 13 41 42) (g.spelled (k.Name (codes "b") false))) g.none)) (g.part (g.atom (p 15 15 44 45) (g.spelled (k.Numeral (codes "1")))) g.none)))) (g.part (g.atom (p 17 17 47 48) (g.spelled (k.Name (codes "a") false))) g.none))))))) ∷ [])) ∷ []) ((o 0 0 2) ∷ (o 0 0 4) ∷ []) ≡ (Some (d w.IsShadowed 0 0 (Some (o 0 0 8)) (w.AtBinder (o 0 0 12)) (w.AtBinder (o 0 0 13))))
unfolding base_names standard_libraries prelude encode_utf8
differences-5 = refl

pub differences-9 : difference_rows ((Some (((g.list (p 0 24 0 58) (g.part (g.atom (p 1 1 1 14) (g.spelled (k.Name (codes "define-syntax") false))) (g.part (g.atom (p 2 2 15 16) (g.spelled (k.Name (codes "m") false))) (g.part (g.list (p 3 23 17 57) (g.part (g.atom (p 4 4 18 30) (g.spelled (k.Name (codes "syntax-rules") false))) (g.part (g.list (p 5 8 31 36) (g.part (g.atom (p 6 6 32 33) (g.spelled (k.Name (codes "x") false))) (g.part (g.atom (p 7 7 34 35) (g.spelled (k.Name (codes "y") false))) g.none))) (g.part (g.list (p 9 15 37 46) (g.part (g.list (p 10 13 38 43) (g.part (g.atom (p 11 11 39 40) (g.spelled (k.Name (codes "_") false))) (g.part (g.atom (p 12 12 41 42) (g.spelled (k.Name (codes "x") false))) g.none))) (g.part (g.atom (p 14 14 44 45) (g.spelled (k.Name (codes "y") false))) g.none))) (g.part (g.list (p 16 22 47 56) (g.part (g.list (p 17 20 48 53) (g.part (g.atom (p 18 18 49 50) (g.spelled (k.Name (codes "_") false))) (g.part (g.atom (p 19 19 51 52) (g.spelled (k.Name (codes "a") false))) g.none))) (g.part (g.atom (p 21 21 54 55) (g.spelled (k.Name (codes "z") false))) g.none))) g.none))))) g.none))))) ∷ [])) ∷ []) ((Some (((g.list (p 0 24 0 58) (g.part (g.atom (p 1 1 1 14) (g.spelled (k.Name (codes "define-syntax") false))) (g.part (g.atom (p 2 2 15 16) (g.spelled (k.Name (codes "m") false))) (g.part (g.list (p 3 23 17 57) (g.part (g.atom (p 4 4 18 30) (g.spelled (k.Name (codes "syntax-rules") false))) (g.part (g.list (p 5 8 31 36) (g.part (g.atom (p 6 6 32 33) (g.spelled (k.Name (codes "x") false))) (g.part (g.atom (p 7 7 34 35) (g.spelled (k.Name (codes "w") false))) g.none))) (g.part (g.list (p 9 15 37 46) (g.part (g.list (p 10 13 38 43) (g.part (g.atom (p 11 11 39 40) (g.spelled (k.Name (codes "_") false))) (g.part (g.atom (p 12 12 41 42) (g.spelled (k.Name (codes "x") false))) g.none))) (g.part (g.atom (p 14 14 44 45) (g.spelled (k.Name (codes "y") false))) g.none))) (g.part (g.list (p 16 22 47 56) (g.part (g.list (p 17 20 48 53) (g.part (g.atom (p 18 18 49 50) (g.spelled (k.Name (codes "_") false))) (g.part (g.atom (p 19 19 51 52) (g.spelled (k.Name (codes "a") false))) g.none))) (g.part (g.atom (p 21 21 54 55) (g.spelled (k.Name (codes "v") false))) g.none))) g.none))))) g.none))))) ∷ [])) ∷ []) ((o 0 0 2) ∷ (o 0 0 4) ∷ []) ≡ (Some (d w.IsTemplate 0 0 (Some (o 0 0 7)) (w.OfUnbound (codes "y")) (w.OfUnbound (codes "w"))))
unfolding base_names standard_libraries prelude encode_utf8
differences-9 = refl

pub differences-15 : difference_rows ((Some (((g.list (p 0 19 0 35) (g.part (g.atom (p 1 1 1 7) (g.spelled (k.Name (codes "define") false))) (g.part (g.list (p 2 5 8 13) (g.part (g.atom (p 3 3 9 10) (g.spelled (k.Name (codes "f") false))) (g.part (g.atom (p 4 4 11 12) (g.spelled (k.Name (codes "q") false))) g.none))) (g.part (g.list (p 6 18 14 34) (g.part (g.atom (p 6 6 14 15) (g.implied k.Quasi)) (g.part (g.list (p 7 18 15 34) (g.part (g.atom (p 8 8 16 17) (g.spelled (k.Name (codes "a") false))) (g.part (g.list (p 9 10 18 20) (g.part (g.atom (p 9 9 18 19) (g.implied k.Unquote)) (g.part (g.atom (p 10 10 19 20) (g.spelled (k.Name (codes "q") false))) g.none))) (g.part (g.vector (p 11 15 21 29) (g.part (g.atom (p 12 12 23 24) (g.spelled (k.Name (codes "b") false))) (g.part (g.list (p 13 14 25 28) (g.part (g.atom (p 13 13 25 27) (g.implied k.Splice)) (g.part (g.atom (p 14 14 27 28) (g.spelled (k.Name (codes "q") false))) g.none))) g.none))) (g.tail (g.atom (p 17 17 32 33) (g.spelled (k.Name (codes "c") false)))))))) g.none))) g.none))))) ∷ [])) ∷ []) ((Some (((g.list (p 0 19 0 35) (g.part (g.atom (p 1 1 1 7) (g.spelled (k.Name (codes "define") false))) (g.part (g.list (p 2 5 8 13) (g.part (g.atom (p 3 3 9 10) (g.spelled (k.Name (codes "f") false))) (g.part (g.atom (p 4 4 11 12) (g.spelled (k.Name (codes "r") false))) g.none))) (g.part (g.list (p 6 18 14 34) (g.part (g.atom (p 6 6 14 15) (g.implied k.Quasi)) (g.part (g.list (p 7 18 15 34) (g.part (g.atom (p 8 8 16 17) (g.spelled (k.Name (codes "a") false))) (g.part (g.list (p 9 10 18 20) (g.part (g.atom (p 9 9 18 19) (g.implied k.Unquote)) (g.part (g.atom (p 10 10 19 20) (g.spelled (k.Name (codes "r") false))) g.none))) (g.part (g.vector (p 11 15 21 29) (g.part (g.atom (p 12 12 23 24) (g.spelled (k.Name (codes "b") false))) (g.part (g.list (p 13 14 25 28) (g.part (g.atom (p 13 13 25 27) (g.implied k.Splice)) (g.part (g.atom (p 14 14 27 28) (g.spelled (k.Name (codes "f") false))) g.none))) g.none))) (g.tail (g.atom (p 17 17 32 33) (g.spelled (k.Name (codes "c") false)))))))) g.none))) g.none))))) ∷ [])) ∷ []) ((o 0 0 2) ∷ (o 0 0 4) ∷ []) ≡ (Some (d w.IsShadowed 0 0 (Some (o 0 0 14)) (w.AtBinder (o 0 0 4)) (w.AtBinder (o 0 0 3))))
unfolding base_names standard_libraries prelude encode_utf8
differences-15 = refl

pub differences-20 : difference_rows ((Some (((g.list (p 0 20 0 44) (g.part (g.atom (p 1 1 1 7) (g.spelled (k.Name (codes "define") false))) (g.part (g.atom (p 2 2 8 9) (g.spelled (k.Name (codes "f") false))) (g.part (g.list (p 3 19 10 43) (g.part (g.atom (p 4 4 11 22) (g.spelled (k.Name (codes "case-lambda") false))) (g.part (g.list (p 5 10 23 30) (g.part (g.list (p 6 8 24 27) (g.part (g.atom (p 7 7 25 26) (g.spelled (k.Name (codes "a") false))) g.none)) (g.part (g.atom (p 9 9 28 29) (g.spelled (k.Name (codes "a") false))) g.none))) (g.part (g.list (p 11 18 31 42) (g.part (g.list (p 12 16 32 39) (g.part (g.atom (p 13 13 33 34) (g.spelled (k.Name (codes "a") false))) (g.tail (g.atom (p 15 15 37 38) (g.spelled (k.Name (codes "b") false)))))) (g.part (g.atom (p 17 17 40 41) (g.spelled (k.Name (codes "b") false))) g.none))) g.none)))) g.none))))) ∷ [])) ∷ []) ((Some (((g.list (p 0 19 0 42) (g.part (g.atom (p 1 1 1 7) (g.spelled (k.Name (codes "define") false))) (g.part (g.atom (p 2 2 8 9) (g.spelled (k.Name (codes "f") false))) (g.part (g.list (p 3 18 10 41) (g.part (g.atom (p 4 4 11 22) (g.spelled (k.Name (codes "case-lambda") false))) (g.part (g.list (p 5 10 23 30) (g.part (g.list (p 6 8 24 27) (g.part (g.atom (p 7 7 25 26) (g.spelled (k.Name (codes "a") false))) g.none)) (g.part (g.atom (p 9 9 28 29) (g.spelled (k.Name (codes "a") false))) g.none))) (g.part (g.list (p 11 17 31 40) (g.part (g.list (p 12 15 32 37) (g.part (g.atom (p 13 13 33 34) (g.spelled (k.Name (codes "a") false))) (g.part (g.atom (p 14 14 35 36) (g.spelled (k.Name (codes "b") false))) g.none))) (g.part (g.atom (p 16 16 38 39) (g.spelled (k.Name (codes "b") false))) g.none))) g.none)))) g.none))))) ∷ [])) ∷ []) ((o 0 0 2) ∷ (o 0 0 4) ∷ []) ≡ (Some (d w.IsStructure 0 0 None w.OfNothing w.OfNothing))
unfolding base_names standard_libraries prelude encode_utf8
differences-20 = refl

pub differences-21 : difference_rows ((Some (((g.list (p 0 27 0 61) (g.part (g.atom (p 1 1 1 7) (g.spelled (k.Name (codes "define") false))) (g.part (g.list (p 2 4 8 11) (g.part (g.atom (p 3 3 9 10) (g.spelled (k.Name (codes "f") false))) g.none)) (g.part (g.list (p 5 26 12 60) (g.part (g.atom (p 6 6 13 23) (g.spelled (k.Name (codes "let-syntax") false))) (g.part (g.list (p 7 22 24 55) (g.part (g.list (p 8 21 25 54) (g.part (g.atom (p 9 9 26 27) (g.spelled (k.Name (codes "m") false))) (g.part (g.list (p 10 20 28 53) (g.part (g.atom (p 11 11 29 41) (g.spelled (k.Name (codes "syntax-rules") false))) (g.part (g.list (p 12 13 42 44) g.none) (g.part (g.list (p 14 19 45 52) (g.part (g.list (p 15 17 46 49) (g.part (g.atom (p 16 16 47 48) (g.spelled (k.Name (codes "_") false))) g.none)) (g.part (g.atom (p 18 18 50 51) (g.spelled (k.Name (codes "x") false))) g.none))) g.none)))) g.none))) g.none)) (g.part (g.list (p 23 25 56 59) (g.part (g.atom (p 24 24 57 58) (g.spelled (k.Name (codes "m") false))) g.none)) g.none)))) g.none))))) ∷ [])) ∷ []) ((Some (((g.list (p 0 27 0 61) (g.part (g.atom (p 1 1 1 7) (g.spelled (k.Name (codes "define") false))) (g.part (g.list (p 2 4 8 11) (g.part (g.atom (p 3 3 9 10) (g.spelled (k.Name (codes "f") false))) g.none)) (g.part (g.list (p 5 26 12 60) (g.part (g.atom (p 6 6 13 23) (g.spelled (k.Name (codes "let-syntax") false))) (g.part (g.list (p 7 22 24 55) (g.part (g.list (p 8 21 25 54) (g.part (g.atom (p 9 9 26 27) (g.spelled (k.Name (codes "n") false))) (g.part (g.list (p 10 20 28 53) (g.part (g.atom (p 11 11 29 41) (g.spelled (k.Name (codes "syntax-rules") false))) (g.part (g.list (p 12 13 42 44) g.none) (g.part (g.list (p 14 19 45 52) (g.part (g.list (p 15 17 46 49) (g.part (g.atom (p 16 16 47 48) (g.spelled (k.Name (codes "_") false))) g.none)) (g.part (g.atom (p 18 18 50 51) (g.spelled (k.Name (codes "x") false))) g.none))) g.none)))) g.none))) g.none)) (g.part (g.list (p 23 25 56 59) (g.part (g.atom (p 24 24 57 58) (g.spelled (k.Name (codes "n") false))) g.none)) g.none)))) g.none))))) ∷ [])) ∷ []) ((o 0 0 2) ∷ (o 0 0 4) ∷ []) ≡ None
unfolding base_names standard_libraries prelude encode_utf8
differences-21 = refl

pub differences-22 : difference_rows ((Some (((g.list (p 0 16 0 36) (g.part (g.atom (p 1 1 1 7) (g.spelled (k.Name (codes "define") false))) (g.part (g.list (p 2 5 8 13) (g.part (g.atom (p 3 3 9 10) (g.spelled (k.Name (codes "f") false))) (g.part (g.atom (p 4 4 11 12) (g.spelled (k.Name (codes "x") false))) g.none))) (g.part (g.list (p 6 10 14 24) (g.part (g.atom (p 7 7 15 19) (g.spelled (k.Name (codes "set!") false))) (g.part (g.atom (p 8 8 20 21) (g.spelled (k.Name (codes "x") false))) (g.part (g.atom (p 9 9 22 23) (g.spelled (k.Numeral (codes "1")))) g.none)))) (g.part (g.list (p 11 15 25 35) (g.part (g.atom (p 12 12 26 30) (g.spelled (k.Name (codes "set!") false))) (g.part (g.atom (p 13 13 31 32) (g.spelled (k.Name (codes "y") false))) (g.part (g.atom (p 14 14 33 34) (g.spelled (k.Numeral (codes "2")))) g.none)))) g.none)))))) ∷ [])) ∷ []) ((Some (((g.list (p 0 16 0 36) (g.part (g.atom (p 1 1 1 7) (g.spelled (k.Name (codes "define") false))) (g.part (g.list (p 2 5 8 13) (g.part (g.atom (p 3 3 9 10) (g.spelled (k.Name (codes "f") false))) (g.part (g.atom (p 4 4 11 12) (g.spelled (k.Name (codes "x") false))) g.none))) (g.part (g.list (p 6 10 14 24) (g.part (g.atom (p 7 7 15 19) (g.spelled (k.Name (codes "set!") false))) (g.part (g.atom (p 8 8 20 21) (g.spelled (k.Name (codes "x") false))) (g.part (g.atom (p 9 9 22 23) (g.spelled (k.Numeral (codes "1")))) g.none)))) (g.part (g.list (p 11 15 25 35) (g.part (g.atom (p 12 12 26 30) (g.spelled (k.Name (codes "set!") false))) (g.part (g.atom (p 13 13 31 32) (g.spelled (k.Name (codes "z") false))) (g.part (g.atom (p 14 14 33 34) (g.spelled (k.Numeral (codes "2")))) g.none)))) g.none)))))) ∷ [])) ∷ []) ((o 0 0 2) ∷ (o 0 0 4) ∷ []) ≡ (Some (d w.IsShadowed 0 0 (Some (o 0 0 13)) (w.OfUnbound (codes "y")) (w.OfUnbound (codes "z"))))
unfolding base_names standard_libraries prelude encode_utf8
differences-22 = refl

pub differences-23 : difference_rows ((Some (((g.list (p 0 9 0 19) (g.part (g.atom (p 1 1 1 7) (g.spelled (k.Name (codes "define") false))) (g.part (g.atom (p 2 2 8 9) (g.spelled (k.Name (codes "x") false))) (g.part (g.list (p 3 8 10 18) (g.part (g.atom (p 3 3 10 11) (g.implied k.Quote)) (g.part (g.list (p 4 8 11 18) (g.part (g.atom (p 5 5 12 13) (g.spelled (k.Name (codes "a") false))) (g.tail (g.atom (p 7 7 16 17) (g.spelled (k.Name (codes "b") false)))))) g.none))) g.none))))) ∷ ((g.list (p 10 20 20 47) (g.part (g.atom (p 11 11 21 27) (g.spelled (k.Name (codes "define") false))) (g.part (g.atom (p 12 12 28 29) (g.spelled (k.Name (codes "y") false))) (g.part (g.list (p 13 19 30 46) (g.part (g.atom (p 13 13 30 31) (g.implied k.Quote)) (g.part (g.vector (p 14 19 31 46) (g.part (g.atom (p 15 15 33 34) (g.spelled (k.Numeral (codes "1")))) (g.part (g.atom (p 16 16 35 38) (g.spelled (k.Quoted (codes "s")))) (g.part (g.atom (p 17 17 39 42) (g.spelled (k.Character 97))) (g.part (g.atom (p 18 18 43 45) (g.spelled (k.Truth true))) g.none))))) g.none))) g.none))))) ∷ [])) ∷ []) ((Some (((g.list (p 0 9 0 19) (g.part (g.atom (p 1 1 1 7) (g.spelled (k.Name (codes "define") false))) (g.part (g.atom (p 2 2 8 9) (g.spelled (k.Name (codes "x") false))) (g.part (g.list (p 3 8 10 18) (g.part (g.atom (p 3 3 10 11) (g.implied k.Quote)) (g.part (g.list (p 4 8 11 18) (g.part (g.atom (p 5 5 12 13) (g.spelled (k.Name (codes "a") false))) (g.tail (g.atom (p 7 7 16 17) (g.spelled (k.Name (codes "c") false)))))) g.none))) g.none))))) ∷ ((g.list (p 10 20 20 47) (g.part (g.atom (p 11 11 21 27) (g.spelled (k.Name (codes "define") false))) (g.part (g.atom (p 12 12 28 29) (g.spelled (k.Name (codes "y") false))) (g.part (g.list (p 13 19 30 46) (g.part (g.atom (p 13 13 30 31) (g.implied k.Quote)) (g.part (g.vector (p 14 19 31 46) (g.part (g.atom (p 15 15 33 34) (g.spelled (k.Numeral (codes "1")))) (g.part (g.atom (p 16 16 35 38) (g.spelled (k.Quoted (codes "s")))) (g.part (g.atom (p 17 17 39 42) (g.spelled (k.Character 97))) (g.part (g.atom (p 18 18 43 45) (g.spelled (k.Truth true))) g.none))))) g.none))) g.none))))) ∷ [])) ∷ []) ((o 0 0 2) ∷ (o 0 0 4) ∷ []) ≡ (Some (d w.IsQuoted 0 0 (Some (o 0 0 7)) (w.OfSymbol (codes "b")) (w.OfSymbol (codes "c"))))
unfolding base_names standard_libraries prelude encode_utf8
differences-23 = refl

pub differences-28 : difference_rows ((Some (((g.list (p 0 4 0 12) (g.part (g.atom (p 1 1 1 7) (g.spelled (k.Name (codes "define") false))) (g.part (g.atom (p 2 2 8 9) (g.spelled (k.Name (codes "x") false))) (g.part (g.atom (p 3 3 10 11) (g.spelled (k.Numeral (codes "1")))) g.none))))) ∷ ((g.list (p 5 8 13 19) (g.part (g.atom (p 6 6 14 16) (g.spelled (k.Name (codes "if") false))) (g.part (g.atom (p 7 7 17 18) (g.spelled (k.Name (codes "x") false))) g.none)))) ∷ [])) ∷ []) ((Some (((g.list (p 0 4 0 12) (g.part (g.atom (p 1 1 1 7) (g.spelled (k.Name (codes "define") false))) (g.part (g.atom (p 2 2 8 9) (g.spelled (k.Name (codes "x") false))) (g.part (g.atom (p 3 3 10 11) (g.spelled (k.Numeral (codes "1")))) g.none))))) ∷ ((g.list (p 5 7 13 17) (g.part (g.atom (p 6 6 14 16) (g.spelled (k.Name (codes "if") false))) g.none))) ∷ [])) ∷ []) ((o 0 0 2) ∷ (o 0 0 4) ∷ []) ≡ (Some (d w.IsBroken 0 1 None w.OfNothing w.OfNothing))
unfolding base_names standard_libraries prelude encode_utf8
differences-28 = refl

pub differences-44 : difference_rows ((Some (((g.list (p 0 65 0 177) (g.part (g.atom (p 1 1 1 15) (g.spelled (k.Name (codes "define-library") false))) (g.part (g.list (p 2 4 16 20) (g.part (g.atom (p 3 3 17 19) (g.spelled (k.Name (codes "l0") false))) g.none)) (g.part (g.list (p 5 9 22 34) (g.part (g.atom (p 6 6 23 29) (g.spelled (k.Name (codes "export") false))) (g.part (g.atom (p 7 7 30 31) (g.spelled (k.Name (codes "x") false))) (g.part (g.atom (p 8 8 32 33) (g.spelled (k.Name (codes "y") false))) g.none)))) (g.part (g.list (p 10 16 36 58) (g.part (g.atom (p 11 11 37 43) (g.spelled (k.Name (codes "import") false))) (g.part (g.list (p 12 15 44 57) (g.part (g.atom (p 13 13 45 51) (g.spelled (k.Name (codes "scheme") false))) (g.part (g.atom (p 14 14 52 56) (g.spelled (k.Name (codes "base") false))) g.none))) g.none))) (g.part (g.list (p 17 64 60 176) (g.part (g.atom (p 18 18 61 66) (g.spelled (k.Name (codes "begin") false))) (g.part (g.list (p 19 24 69 82) (g.part (g.atom (p 20 20 70 76) (g.spelled (k.Name (codes "define") false))) (g.part (g.atom (p 21 21 77 78) (g.spelled (k.Name (codes "x") false))) (g.part (g.list (p 22 23 79 81) (g.part (g.atom (p 22 22 79 80) (g.implied k.Quote)) (g.part (g.atom (p 23 23 80 81) (g.spelled (k.Name (codes "x") false))) g.none))) g.none)))) (g.part (g.list (p 25 63 85 175) (g.part (g.atom (p 26 26 86 99) (g.spelled (k.Name (codes "define-syntax") false))) (g.part (g.atom (p 27 27 100 101) (g.spelled (k.Name (codes "y") false))) (g.part (g.list (p 28 62 102 174) (g.part (g.atom (p 29 29 103 115) (g.spelled (k.Name (codes "syntax-rules") false))) (g.part (g.list (p 30 31 116 118) g.none) (g.part (g.list (p 32 61 119 173) (g.part (g.list (p 33 42 120 139) (g.part (g.atom (p 34 34 121 122) (g.spelled (k.Name (codes "_") false))) (g.part (g.atom (p 35 35 123 124) (g.spelled (k.Name (codes "f") false))) (g.part (g.list (p 36 40 125 134) (g.part (g.atom (p 37 37 126 127) (g.spelled (k.Name (codes "k") false))) (g.part (g.atom (p 38 38 128 129) (g.spelled (k.Name (codes "q") false))) (g.part (g.atom (p 39 39 130 133) (g.spelled (k.Name (codes "...") false))) g.none)))) (g.part (g.atom (p 41 41 135 138) (g.spelled (k.Name (codes "...") false))) g.none))))) (g.part (g.list (p 43 60 140 172) (g.part (g.atom (p 44 44 141 144) (g.spelled (k.Name (codes "let") false))) (g.part (g.list (p 45 50 145 152) (g.part (g.list (p 46 49 146 151) (g.part (g.atom (p 47 47 147 148) (g.spelled (k.Name (codes "f") false))) (g.part (g.atom (p 48 48 149 150) (g.spelled (k.Name (codes "f") false))) g.none))) g.none)) (g.part (g.list (p 51 59 153 171) (g.part (g.atom (p 52 52 154 158) (g.spelled (k.Name (codes "list") false))) (g.part (g.list (p 53 56 159 164) (g.part (g.atom (p 54 54 160 161) (g.spelled (k.Name (codes "f") false))) (g.part (g.atom (p 55 55 162 163) (g.spelled (k.Name (codes "k") false))) g.none))) (g.part (g.atom (p 57 57 165 168) (g.spelled (k.Name (codes "...") false))) (g.part (g.atom (p 58 58 169 170) (g.spelled (k.Name (codes "f") false))) g.none))))) g.none)))) g.none))) g.none)))) g.none)))) g.none)))) g.none))))))) ∷ [])) ∷ (Some (((g.list (p 0 89 0 253) (g.part (g.atom (p 1 1 1 15) (g.spelled (k.Name (codes "define-library") false))) (g.part (g.list (p 2 4 16 20) (g.part (g.atom (p 3 3 17 19) (g.spelled (k.Name (codes "l1") false))) g.none)) (g.part (g.list (p 5 9 22 34) (g.part (g.atom (p 6 6 23 29) (g.spelled (k.Name (codes "export") false))) (g.part (g.atom (p 7 7 30 31) (g.spelled (k.Name (codes "x") false))) (g.part (g.atom (p 8 8 32 33) (g.spelled (k.Name (codes "y") false))) g.none)))) (g.part (g.list (p 10 27 36 86) (g.part (g.atom (p 11 11 37 43) (g.spelled (k.Name (codes "import") false))) (g.part (g.list (p 12 15 44 57) (g.part (g.atom (p 13 13 45 51) (g.spelled (k.Name (codes "scheme") false))) (g.part (g.atom (p 14 14 52 56) (g.spelled (k.Name (codes "base") false))) g.none))) (g.part (g.list (p 16 26 58 85) (g.part (g.atom (p 17 17 59 65) (g.spelled (k.Name (codes "prefix") false))) (g.part (g.list (p 18 24 66 81) (g.part (g.atom (p 19 19 67 73) (g.spelled (k.Name (codes "except") false))) (g.part (g.list (p 20 22 74 78) (g.part (g.atom (p 21 21 75 77) (g.spelled (k.Name (codes "l0") false))) g.none)) (g.part (g.atom (p 23 23 79 80) (g.spelled (k.Name (codes "y") false))) g.none)))) (g.part (g.atom (p 25 25 82 84) (g.spelled (k.Name (codes "p-") false))) g.none)))) g.none)))) (g.part (g.list (p 28 88 88 252) (g.part (g.atom (p 29 29 89 94) (g.spelled (k.Name (codes "begin") false))) (g.part (g.list (p 30 59 97 171) (g.part (g.atom (p 31 31 98 111) (g.spelled (k.Name (codes "define-syntax") false))) (g.part (g.atom (p 32 32 112 113) (g.spelled (k.Name (codes "x") false))) (g.part (g.list (p 33 58 114 170) (g.part (g.atom (p 34 34 115 127) (g.spelled (k.Name (codes "syntax-rules") false))) (g.part (g.list (p 35 36 128 130) g.none) (g.part (g.list (p 37 57 131 169) (g.part (g.list (p 38 42 132 141) (g.part (g.atom (p 39 39 133 134) (g.spelled (k.Name (codes "_") false))) (g.part (g.atom (p 40 40 135 136) (g.spelled (k.Name (codes "n") false))) (g.part (g.atom (p 41 41 137 140) (g.spelled (k.Name (codes "...") false))) g.none)))) (g.part (g.list (p 43 56 142 168) (g.part (g.atom (p 44 44 143 149) (g.spelled (k.Name (codes "lambda") false))) (g.part (g.list (p 45 47 150 153) (g.part (g.atom (p 46 46 151 152) (g.spelled (k.Name (codes "y") false))) g.none)) (g.part (g.list (p 48 55 154 167) (g.part (g.atom (p 49 49 155 156) (g.spelled (k.Name (codes "t") false))) (g.part (g.list (p 50 53 157 162) (g.part (g.atom (p 51 51 158 159) (g.spelled (k.Name (codes "x") false))) (g.part (g.atom (p 52 52 160 161) (g.spelled (k.Name (codes "n") false))) g.none))) (g.part (g.atom (p 54 54 163 166) (g.spelled (k.Name (codes "...") false))) g.none)))) g.none)))) g.none))) g.none)))) g.none)))) (g.part (g.list (p 60 87 174 251) (g.part (g.atom (p 61 61 175 188) (g.spelled (k.Name (codes "define-syntax") false))) (g.part (g.atom (p 62 62 189 190) (g.spelled (k.Name (codes "y") false))) (g.part (g.list (p 63 86 191 250) (g.part (g.atom (p 64 64 192 204) (g.spelled (k.Name (codes "syntax-rules") false))) (g.part (g.list (p 65 66 205 207) g.none) (g.part (g.list (p 67 72 208 220) (g.part (g.list (p 68 70 209 213) (g.part (g.atom (p 69 69 210 211) (g.spelled (k.Name (codes "_") false))) g.none)) (g.part (g.atom (p 71 71 214 219) (g.spelled (k.Name (codes "begin") false))) g.none))) (g.part (g.list (p 73 85 221 249) (g.part (g.list (p 74 78 222 232) (g.part (g.atom (p 75 75 223 224) (g.spelled (k.Name (codes "_") false))) (g.tail (g.atom (p 77 77 227 231) (g.spelled (k.Name (codes "rest") false)))))) (g.part (g.list (p 79 84 233 248) (g.part (g.atom (p 80 80 234 236) (g.spelled (k.Name (codes "if") false))) (g.part (g.atom (p 81 81 237 238) (g.spelled (k.Name (codes "x") false))) (g.part (g.atom (p 82 82 239 245) (g.spelled (k.Name (codes "lambda") false))) (g.part (g.atom (p 83 83 246 247) (g.spelled (k.Name (codes "y") false))) g.none))))) g.none))) g.none))))) g.none)))) g.none)))) g.none))))))) ∷ [])) ∷ (Some (((g.list (p 0 26 0 62) (g.part (g.atom (p 1 1 1 7) (g.spelled (k.Name (codes "import") false))) (g.part (g.list (p 2 5 8 21) (g.part (g.atom (p 3 3 9 15) (g.spelled (k.Name (codes "scheme") false))) (g.part (g.atom (p 4 4 16 20) (g.spelled (k.Name (codes "base") false))) g.none))) (g.part (g.list (p 6 15 22 41) (g.part (g.atom (p 7 7 23 29) (g.spelled (k.Name (codes "rename") false))) (g.part (g.list (p 8 10 30 34) (g.part (g.atom (p 9 9 31 33) (g.spelled (k.Name (codes "l0") false))) g.none)) (g.part (g.list (p 11 14 35 40) (g.part (g.atom (p 12 12 36 37) (g.spelled (k.Name (codes "y") false))) (g.part (g.atom (p 13 13 38 39) (g.spelled (k.Name (codes "y") false))) g.none))) g.none)))) (g.part (g.list (p 16 25 42 61) (g.part (g.atom (p 17 17 43 49) (g.spelled (k.Name (codes "rename") false))) (g.part (g.list (p 18 20 50 54) (g.part (g.atom (p 19 19 51 53) (g.spelled (k.Name (codes "l1") false))) g.none)) (g.part (g.list (p 21 24 55 60) (g.part (g.atom (p 22 22 56 57) (g.spelled (k.Name (codes "x") false))) (g.part (g.atom (p 23 23 58 59) (g.spelled (k.Name (codes "y") false))) g.none))) g.none)))) g.none)))))) ∷ [])) ∷ []) ((Some (((g.list (p 0 65 0 176) (g.part (g.atom (p 1 1 1 15) (g.spelled (k.Name (codes "define-library") false))) (g.part (g.list (p 2 4 16 19) (g.part (g.atom (p 3 3 17 18) (g.spelled (k.Name (codes "y") false))) g.none)) (g.part (g.list (p 5 9 21 33) (g.part (g.atom (p 6 6 22 28) (g.spelled (k.Name (codes "export") false))) (g.part (g.atom (p 7 7 29 30) (g.spelled (k.Name (codes "x") false))) (g.part (g.atom (p 8 8 31 32) (g.spelled (k.Name (codes "y") false))) g.none)))) (g.part (g.list (p 10 16 35 57) (g.part (g.atom (p 11 11 36 42) (g.spelled (k.Name (codes "import") false))) (g.part (g.list (p 12 15 43 56) (g.part (g.atom (p 13 13 44 50) (g.spelled (k.Name (codes "scheme") false))) (g.part (g.atom (p 14 14 51 55) (g.spelled (k.Name (codes "base") false))) g.none))) g.none))) (g.part (g.list (p 17 64 59 175) (g.part (g.atom (p 18 18 60 65) (g.spelled (k.Name (codes "begin") false))) (g.part (g.list (p 19 24 68 81) (g.part (g.atom (p 20 20 69 75) (g.spelled (k.Name (codes "define") false))) (g.part (g.atom (p 21 21 76 77) (g.spelled (k.Name (codes "x") false))) (g.part (g.list (p 22 23 78 80) (g.part (g.atom (p 22 22 78 79) (g.implied k.Quote)) (g.part (g.atom (p 23 23 79 80) (g.spelled (k.Name (codes "x") false))) g.none))) g.none)))) (g.part (g.list (p 25 63 84 174) (g.part (g.atom (p 26 26 85 98) (g.spelled (k.Name (codes "define-syntax") false))) (g.part (g.atom (p 27 27 99 100) (g.spelled (k.Name (codes "y") false))) (g.part (g.list (p 28 62 101 173) (g.part (g.atom (p 29 29 102 114) (g.spelled (k.Name (codes "syntax-rules") false))) (g.part (g.list (p 30 31 115 117) g.none) (g.part (g.list (p 32 61 118 172) (g.part (g.list (p 33 42 119 138) (g.part (g.atom (p 34 34 120 121) (g.spelled (k.Name (codes "_") false))) (g.part (g.atom (p 35 35 122 123) (g.spelled (k.Name (codes "f") false))) (g.part (g.list (p 36 40 124 133) (g.part (g.atom (p 37 37 125 126) (g.spelled (k.Name (codes "k") false))) (g.part (g.atom (p 38 38 127 128) (g.spelled (k.Name (codes "q") false))) (g.part (g.atom (p 39 39 129 132) (g.spelled (k.Name (codes "...") false))) g.none)))) (g.part (g.atom (p 41 41 134 137) (g.spelled (k.Name (codes "...") false))) g.none))))) (g.part (g.list (p 43 60 139 171) (g.part (g.atom (p 44 44 140 143) (g.spelled (k.Name (codes "let") false))) (g.part (g.list (p 45 50 144 151) (g.part (g.list (p 46 49 145 150) (g.part (g.atom (p 47 47 146 147) (g.spelled (k.Name (codes "f") false))) (g.part (g.atom (p 48 48 148 149) (g.spelled (k.Name (codes "f") false))) g.none))) g.none)) (g.part (g.list (p 51 59 152 170) (g.part (g.atom (p 52 52 153 157) (g.spelled (k.Name (codes "list") false))) (g.part (g.list (p 53 56 158 163) (g.part (g.atom (p 54 54 159 160) (g.spelled (k.Name (codes "f") false))) (g.part (g.atom (p 55 55 161 162) (g.spelled (k.Name (codes "k") false))) g.none))) (g.part (g.atom (p 57 57 164 167) (g.spelled (k.Name (codes "...") false))) (g.part (g.atom (p 58 58 168 169) (g.spelled (k.Name (codes "f") false))) g.none))))) g.none)))) g.none))) g.none)))) g.none)))) g.none)))) g.none))))))) ∷ [])) ∷ (Some (((g.list (p 0 89 0 253) (g.part (g.atom (p 1 1 1 15) (g.spelled (k.Name (codes "define-library") false))) (g.part (g.list (p 2 4 16 20) (g.part (g.atom (p 3 3 17 19) (g.spelled (k.Name (codes "l1") false))) g.none)) (g.part (g.list (p 5 9 22 34) (g.part (g.atom (p 6 6 23 29) (g.spelled (k.Name (codes "export") false))) (g.part (g.atom (p 7 7 30 31) (g.spelled (k.Name (codes "x") false))) (g.part (g.atom (p 8 8 32 33) (g.spelled (k.Name (codes "y") false))) g.none)))) (g.part (g.list (p 10 27 36 86) (g.part (g.atom (p 11 11 37 43) (g.spelled (k.Name (codes "import") false))) (g.part (g.list (p 12 15 44 57) (g.part (g.atom (p 13 13 45 51) (g.spelled (k.Name (codes "scheme") false))) (g.part (g.atom (p 14 14 52 56) (g.spelled (k.Name (codes "base") false))) g.none))) (g.part (g.list (p 16 26 58 85) (g.part (g.atom (p 17 17 59 65) (g.spelled (k.Name (codes "prefix") false))) (g.part (g.list (p 18 24 66 81) (g.part (g.atom (p 19 19 67 73) (g.spelled (k.Name (codes "except") false))) (g.part (g.list (p 20 22 74 78) (g.part (g.atom (p 21 21 75 77) (g.spelled (k.Name (codes "l0") false))) g.none)) (g.part (g.atom (p 23 23 79 80) (g.spelled (k.Name (codes "y") false))) g.none)))) (g.part (g.atom (p 25 25 82 84) (g.spelled (k.Name (codes "p-") false))) g.none)))) g.none)))) (g.part (g.list (p 28 88 88 252) (g.part (g.atom (p 29 29 89 94) (g.spelled (k.Name (codes "begin") false))) (g.part (g.list (p 30 59 97 171) (g.part (g.atom (p 31 31 98 111) (g.spelled (k.Name (codes "define-syntax") false))) (g.part (g.atom (p 32 32 112 113) (g.spelled (k.Name (codes "x") false))) (g.part (g.list (p 33 58 114 170) (g.part (g.atom (p 34 34 115 127) (g.spelled (k.Name (codes "syntax-rules") false))) (g.part (g.list (p 35 36 128 130) g.none) (g.part (g.list (p 37 57 131 169) (g.part (g.list (p 38 42 132 141) (g.part (g.atom (p 39 39 133 134) (g.spelled (k.Name (codes "_") false))) (g.part (g.atom (p 40 40 135 136) (g.spelled (k.Name (codes "n") false))) (g.part (g.atom (p 41 41 137 140) (g.spelled (k.Name (codes "...") false))) g.none)))) (g.part (g.list (p 43 56 142 168) (g.part (g.atom (p 44 44 143 149) (g.spelled (k.Name (codes "lambda") false))) (g.part (g.list (p 45 47 150 153) (g.part (g.atom (p 46 46 151 152) (g.spelled (k.Name (codes "y") false))) g.none)) (g.part (g.list (p 48 55 154 167) (g.part (g.atom (p 49 49 155 156) (g.spelled (k.Name (codes "t") false))) (g.part (g.list (p 50 53 157 162) (g.part (g.atom (p 51 51 158 159) (g.spelled (k.Name (codes "x") false))) (g.part (g.atom (p 52 52 160 161) (g.spelled (k.Name (codes "n") false))) g.none))) (g.part (g.atom (p 54 54 163 166) (g.spelled (k.Name (codes "...") false))) g.none)))) g.none)))) g.none))) g.none)))) g.none)))) (g.part (g.list (p 60 87 174 251) (g.part (g.atom (p 61 61 175 188) (g.spelled (k.Name (codes "define-syntax") false))) (g.part (g.atom (p 62 62 189 190) (g.spelled (k.Name (codes "y") false))) (g.part (g.list (p 63 86 191 250) (g.part (g.atom (p 64 64 192 204) (g.spelled (k.Name (codes "syntax-rules") false))) (g.part (g.list (p 65 66 205 207) g.none) (g.part (g.list (p 67 72 208 220) (g.part (g.list (p 68 70 209 213) (g.part (g.atom (p 69 69 210 211) (g.spelled (k.Name (codes "_") false))) g.none)) (g.part (g.atom (p 71 71 214 219) (g.spelled (k.Name (codes "begin") false))) g.none))) (g.part (g.list (p 73 85 221 249) (g.part (g.list (p 74 78 222 232) (g.part (g.atom (p 75 75 223 224) (g.spelled (k.Name (codes "_") false))) (g.tail (g.atom (p 77 77 227 231) (g.spelled (k.Name (codes "rest") false)))))) (g.part (g.list (p 79 84 233 248) (g.part (g.atom (p 80 80 234 236) (g.spelled (k.Name (codes "if") false))) (g.part (g.atom (p 81 81 237 238) (g.spelled (k.Name (codes "x") false))) (g.part (g.atom (p 82 82 239 245) (g.spelled (k.Name (codes "lambda") false))) (g.part (g.atom (p 83 83 246 247) (g.spelled (k.Name (codes "y") false))) g.none))))) g.none))) g.none))))) g.none)))) g.none)))) g.none))))))) ∷ [])) ∷ (Some (((g.list (p 0 26 0 62) (g.part (g.atom (p 1 1 1 7) (g.spelled (k.Name (codes "import") false))) (g.part (g.list (p 2 5 8 21) (g.part (g.atom (p 3 3 9 15) (g.spelled (k.Name (codes "scheme") false))) (g.part (g.atom (p 4 4 16 20) (g.spelled (k.Name (codes "base") false))) g.none))) (g.part (g.list (p 6 15 22 41) (g.part (g.atom (p 7 7 23 29) (g.spelled (k.Name (codes "rename") false))) (g.part (g.list (p 8 10 30 34) (g.part (g.atom (p 9 9 31 33) (g.spelled (k.Name (codes "l0") false))) g.none)) (g.part (g.list (p 11 14 35 40) (g.part (g.atom (p 12 12 36 37) (g.spelled (k.Name (codes "y") false))) (g.part (g.atom (p 13 13 38 39) (g.spelled (k.Name (codes "y") false))) g.none))) g.none)))) (g.part (g.list (p 16 25 42 61) (g.part (g.atom (p 17 17 43 49) (g.spelled (k.Name (codes "rename") false))) (g.part (g.list (p 18 20 50 54) (g.part (g.atom (p 19 19 51 53) (g.spelled (k.Name (codes "l1") false))) g.none)) (g.part (g.list (p 21 24 55 60) (g.part (g.atom (p 22 22 56 57) (g.spelled (k.Name (codes "x") false))) (g.part (g.atom (p 23 23 58 59) (g.spelled (k.Name (codes "y") false))) g.none))) g.none)))) g.none)))))) ∷ [])) ∷ []) ((o 0 0 0) ∷ (o 0 0 3) ∷ (o 0 0 4) ∷ (o 0 0 6) ∷ (o 0 1 10) ∷ (o 0 3 4) ∷ (o 0 3 10) ∷ []) ≡ (Some (d w.IsStructure 0 0 None w.OfNothing w.OfNothing))
unfolding base_names standard_libraries prelude encode_utf8
differences-44 = refl

pub differences-46 : difference_rows ((Some (((g.list (p 0 42 0 133) (g.part (g.atom (p 1 1 1 15) (g.spelled (k.Name (codes "define-library") false))) (g.part (g.list (p 2 4 16 20) (g.part (g.atom (p 3 3 17 19) (g.spelled (k.Name (codes "l0") false))) g.none)) (g.part (g.list (p 5 8 22 32) (g.part (g.atom (p 6 6 23 29) (g.spelled (k.Name (codes "export") false))) (g.part (g.atom (p 7 7 30 31) (g.spelled (k.Name (codes "g") false))) g.none))) (g.part (g.list (p 9 15 34 56) (g.part (g.atom (p 10 10 35 41) (g.spelled (k.Name (codes "import") false))) (g.part (g.list (p 11 14 42 55) (g.part (g.atom (p 12 12 43 49) (g.spelled (k.Name (codes "scheme") false))) (g.part (g.atom (p 13 13 50 54) (g.spelled (k.Name (codes "base") false))) g.none))) g.none))) (g.part (g.list (p 16 41 58 132) (g.part (g.atom (p 17 17 59 64) (g.spelled (k.Name (codes "begin") false))) (g.part (g.list (p 18 36 67 121) (g.part (g.atom (p 19 19 68 81) (g.spelled (k.Name (codes "define-syntax") false))) (g.part (g.atom (p 20 20 82 83) (g.spelled (k.Name (codes "g") false))) (g.part (g.list (p 21 35 84 120) (g.part (g.atom (p 22 22 85 97) (g.spelled (k.Name (codes "syntax-rules") false))) (g.part (g.list (p 23 24 98 100) g.none) (g.part (g.list (p 25 34 101 119) (g.part (g.list (p 26 28 102 106) (g.part (g.atom (p 27 27 103 104) (g.spelled (k.Name (codes "_") false))) g.none)) (g.part (g.list (p 29 33 107 118) (g.part (g.atom (p 29 29 107 108) (g.implied k.Quote)) (g.part (g.list (p 30 33 108 118) (g.part (g.atom (p 31 31 109 115) (g.spelled (k.Name (codes "lambda") false))) (g.part (g.atom (p 32 32 116 117) (g.spelled (k.Name (codes "a") false))) g.none))) g.none))) g.none))) g.none)))) g.none)))) (g.part (g.list (p 37 39 124 127) (g.part (g.atom (p 38 38 125 126) (g.spelled (k.Name (codes "g") false))) g.none)) (g.part (g.atom (p 40 40 130 131) (g.spelled (k.Name (codes "q") false))) g.none))))) g.none))))))) ∷ [])) ∷ (Some (((g.list (p 0 24 0 72) (g.part (g.atom (p 1 1 1 7) (g.spelled (k.Name (codes "import") false))) (g.part (g.list (p 2 20 8 66) (g.part (g.atom (p 3 3 9 15) (g.spelled (k.Name (codes "rename") false))) (g.part (g.list (p 4 7 16 29) (g.part (g.atom (p 5 5 17 23) (g.spelled (k.Name (codes "scheme") false))) (g.part (g.atom (p 6 6 24 28) (g.spelled (k.Name (codes "base") false))) g.none))) (g.part (g.list (p 8 11 30 39) (g.part (g.atom (p 9 9 31 34) (g.spelled (k.Name (codes "car") false))) (g.part (g.atom (p 10 10 35 38) (g.spelled (k.Name (codes "kar") false))) g.none))) (g.part (g.list (p 12 15 40 48) (g.part (g.atom (p 13 13 41 43) (g.spelled (k.Name (codes "if") false))) (g.part (g.atom (p 14 14 44 47) (g.spelled (k.Name (codes "iff") false))) g.none))) (g.part (g.list (p 16 19 49 65) (g.part (g.atom (p 17 17 50 54) (g.spelled (k.Name (codes "else") false))) (g.part (g.atom (p 18 18 55 64) (g.spelled (k.Name (codes "otherwise") false))) g.none))) g.none)))))) (g.part (g.list (p 21 23 67 71) (g.part (g.atom (p 22 22 68 70) (g.spelled (k.Name (codes "l0") false))) g.none)) g.none))))) ∷ ((g.list (p 25 48 73 130) (g.part (g.list (p 26 28 74 77) (g.part (g.atom (p 27 27 75 76) (g.spelled (k.Name (codes "g") false))) g.none)) (g.part (g.list (p 29 46 78 127) (g.part (g.atom (p 30 30 79 85) (g.spelled (k.Name (codes "lambda") false))) (g.part (g.list (p 31 32 86 88) g.none) (g.part (g.list (p 33 44 89 124) (g.part (g.atom (p 34 34 90 103) (g.spelled (k.Name (codes "define-values") false))) (g.part (g.list (p 35 38 104 109) (g.part (g.atom (p 36 36 105 106) (g.spelled (k.Name (codes "g") false))) (g.part (g.atom (p 37 37 107 108) (g.spelled (k.Name (codes "n") false))) g.none))) (g.part (g.list (p 39 43 110 123) (g.part (g.atom (p 40 40 111 116) (g.spelled (k.Name (codes "begin") false))) (g.part (g.atom (p 41 41 117 120) (g.spelled (k.Name (codes "tmp") false))) (g.part (g.atom (p 42 42 121 122) (g.spelled (k.Name (codes "y") false))) g.none)))) g.none)))) (g.part (g.atom (p 45 45 125 126) (g.spelled (k.Name (codes "k") false))) g.none))))) (g.part (g.atom (p 47 47 128 129) (g.spelled (k.Name (codes "t") false))) g.none))))) ∷ ((g.list (p 49 51 131 134) (g.part (g.atom (p 50 50 132 133) (g.spelled (k.Name (codes "g") false))) g.none))) ∷ ((g.list (p 52 69 135 225) (g.part (g.atom (p 53 53 136 154) (g.spelled (k.Name (codes "define-record-type") false))) (g.part (g.atom (p 54 54 155 156) (g.spelled (k.Name (codes "q") false))) (g.part (g.list (p 55 58 157 176) (g.part (g.atom (p 56 56 158 162) (g.spelled (k.Name (codes "make") false))) (g.part (g.atom (p 57 57 163 175) (g.spelled (k.Name (codes "syntax-rules") false))) g.none))) (g.part (g.atom (p 59 59 177 179) (g.spelled (k.Name (codes "q?") false))) (g.part (g.list (p 60 63 180 209) (g.part (g.atom (p 61 61 181 193) (g.spelled (k.Name (codes "syntax-rules") false))) (g.part (g.atom (p 62 62 194 208) (g.spelled (k.Name (codes "syntax-rules-x") false))) g.none))) (g.part (g.list (p 64 68 210 224) (g.part (g.atom (p 65 65 211 212) (g.spelled (k.Name (codes "m") false))) (g.part (g.atom (p 66 66 213 216) (g.spelled (k.Name (codes "m-y") false))) (g.part (g.atom (p 67 67 217 223) (g.spelled (k.Name (codes "set-m!") false))) g.none)))) g.none)))))))) ∷ [])) ∷ []) ((Some (((g.list (p 0 43 0 121) (g.part (g.atom (p 1 1 1 2) (g.spelled (k.Numeral (codes "1")))) (g.part (g.list (p 2 4 3 7) (g.part (g.atom (p 3 3 4 6) (g.spelled (k.Name (codes "l0") false))) g.none)) (g.part (g.list (p 5 9 9 20) (g.part (g.atom (p 6 6 10 16) (g.spelled (k.Name (codes "export") false))) (g.part (g.list (p 7 8 17 19) g.none) g.none))) (g.part (g.list (p 10 16 22 44) (g.part (g.atom (p 11 11 23 29) (g.spelled (k.Name (codes "import") false))) (g.part (g.list (p 12 15 30 43) (g.part (g.atom (p 13 13 31 37) (g.spelled (k.Name (codes "scheme") false))) (g.part (g.atom (p 14 14 38 42) (g.spelled (k.Name (codes "base") false))) g.none))) g.none))) (g.part (g.list (p 17 42 46 120) (g.part (g.atom (p 18 18 47 52) (g.spelled (k.Name (codes "begin") false))) (g.part (g.list (p 19 37 55 109) (g.part (g.atom (p 20 20 56 69) (g.spelled (k.Name (codes "define-syntax") false))) (g.part (g.atom (p 21 21 70 71) (g.spelled (k.Name (codes "g") false))) (g.part (g.list (p 22 36 72 108) (g.part (g.atom (p 23 23 73 85) (g.spelled (k.Name (codes "syntax-rules") false))) (g.part (g.list (p 24 25 86 88) g.none) (g.part (g.list (p 26 35 89 107) (g.part (g.list (p 27 29 90 94) (g.part (g.atom (p 28 28 91 92) (g.spelled (k.Name (codes "_") false))) g.none)) (g.part (g.list (p 30 34 95 106) (g.part (g.atom (p 30 30 95 96) (g.implied k.Quote)) (g.part (g.list (p 31 34 96 106) (g.part (g.atom (p 32 32 97 103) (g.spelled (k.Name (codes "lambda") false))) (g.part (g.atom (p 33 33 104 105) (g.spelled (k.Name (codes "a") false))) g.none))) g.none))) g.none))) g.none)))) g.none)))) (g.part (g.list (p 38 40 112 115) (g.part (g.atom (p 39 39 113 114) (g.spelled (k.Name (codes "g") false))) g.none)) (g.part (g.atom (p 41 41 118 119) (g.spelled (k.Name (codes "q") false))) g.none))))) g.none))))))) ∷ [])) ∷ (Some (((g.list (p 0 24 0 72) (g.part (g.atom (p 1 1 1 7) (g.spelled (k.Name (codes "import") false))) (g.part (g.list (p 2 20 8 66) (g.part (g.atom (p 3 3 9 15) (g.spelled (k.Name (codes "rename") false))) (g.part (g.list (p 4 7 16 29) (g.part (g.atom (p 5 5 17 23) (g.spelled (k.Name (codes "scheme") false))) (g.part (g.atom (p 6 6 24 28) (g.spelled (k.Name (codes "base") false))) g.none))) (g.part (g.list (p 8 11 30 39) (g.part (g.atom (p 9 9 31 34) (g.spelled (k.Name (codes "car") false))) (g.part (g.atom (p 10 10 35 38) (g.spelled (k.Name (codes "kar") false))) g.none))) (g.part (g.list (p 12 15 40 48) (g.part (g.atom (p 13 13 41 43) (g.spelled (k.Name (codes "if") false))) (g.part (g.atom (p 14 14 44 47) (g.spelled (k.Name (codes "iff") false))) g.none))) (g.part (g.list (p 16 19 49 65) (g.part (g.atom (p 17 17 50 54) (g.spelled (k.Name (codes "else") false))) (g.part (g.atom (p 18 18 55 64) (g.spelled (k.Name (codes "otherwise") false))) g.none))) g.none)))))) (g.part (g.list (p 21 23 67 71) (g.part (g.atom (p 22 22 68 70) (g.spelled (k.Name (codes "l0") false))) g.none)) g.none))))) ∷ ((g.list (p 25 48 73 130) (g.part (g.list (p 26 28 74 77) (g.part (g.atom (p 27 27 75 76) (g.spelled (k.Name (codes "g") false))) g.none)) (g.part (g.list (p 29 46 78 127) (g.part (g.atom (p 30 30 79 85) (g.spelled (k.Name (codes "lambda") false))) (g.part (g.list (p 31 32 86 88) g.none) (g.part (g.list (p 33 44 89 124) (g.part (g.atom (p 34 34 90 103) (g.spelled (k.Name (codes "define-values") false))) (g.part (g.list (p 35 38 104 109) (g.part (g.atom (p 36 36 105 106) (g.spelled (k.Name (codes "g") false))) (g.part (g.atom (p 37 37 107 108) (g.spelled (k.Name (codes "n") false))) g.none))) (g.part (g.list (p 39 43 110 123) (g.part (g.atom (p 40 40 111 116) (g.spelled (k.Name (codes "begin") false))) (g.part (g.atom (p 41 41 117 120) (g.spelled (k.Name (codes "tmp") false))) (g.part (g.atom (p 42 42 121 122) (g.spelled (k.Name (codes "y") false))) g.none)))) g.none)))) (g.part (g.atom (p 45 45 125 126) (g.spelled (k.Name (codes "k") false))) g.none))))) (g.part (g.atom (p 47 47 128 129) (g.spelled (k.Name (codes "t") false))) g.none))))) ∷ ((g.list (p 49 51 131 134) (g.part (g.atom (p 50 50 132 133) (g.spelled (k.Name (codes "g") false))) g.none))) ∷ ((g.list (p 52 69 135 225) (g.part (g.atom (p 53 53 136 154) (g.spelled (k.Name (codes "define-record-type") false))) (g.part (g.atom (p 54 54 155 156) (g.spelled (k.Name (codes "q") false))) (g.part (g.list (p 55 58 157 176) (g.part (g.atom (p 56 56 158 162) (g.spelled (k.Name (codes "make") false))) (g.part (g.atom (p 57 57 163 175) (g.spelled (k.Name (codes "syntax-rules") false))) g.none))) (g.part (g.atom (p 59 59 177 179) (g.spelled (k.Name (codes "q?") false))) (g.part (g.list (p 60 63 180 209) (g.part (g.atom (p 61 61 181 193) (g.spelled (k.Name (codes "syntax-rules") false))) (g.part (g.atom (p 62 62 194 208) (g.spelled (k.Name (codes "syntax-rules-x") false))) g.none))) (g.part (g.list (p 64 68 210 224) (g.part (g.atom (p 65 65 211 212) (g.spelled (k.Name (codes "m") false))) (g.part (g.atom (p 66 66 213 216) (g.spelled (k.Name (codes "m-y") false))) (g.part (g.atom (p 67 67 217 223) (g.spelled (k.Name (codes "set-m!") false))) g.none)))) g.none)))))))) ∷ [])) ∷ []) ((o 0 0 0) ∷ (o 0 1 1) ∷ (o 0 1 3) ∷ (o 0 1 10) ∷ (o 0 2 2) ∷ (o 0 2 7) ∷ (o 0 2 10) ∷ (o 0 3 6) ∷ (o 0 3 8) ∷ (o 0 3 9) ∷ (o 0 3 11) ∷ []) ≡ (Some (d w.IsStructure 0 0 None w.OfNothing w.OfNothing))
unfolding base_names standard_libraries prelude encode_utf8
differences-46 = refl

pub differences-53 : difference_rows ((Some (((g.list (p 0 46 0 153) (g.part (g.atom (p 1 1 1 15) (g.spelled (k.Name (codes "define-library") false))) (g.part (g.list (p 2 4 16 20) (g.part (g.atom (p 3 3 17 19) (g.spelled (k.Name (codes "l0") false))) g.none)) (g.part (g.list (p 5 14 22 53) (g.part (g.atom (p 6 6 23 29) (g.spelled (k.Name (codes "export") false))) (g.part (g.atom (p 7 7 30 34) (g.spelled (k.Name (codes "make") false))) (g.part (g.atom (p 8 8 35 38) (g.spelled (k.Name (codes "t-y") false))) (g.part (g.list (p 9 13 39 52) (g.part (g.atom (p 10 10 40 46) (g.spelled (k.Name (codes "rename") false))) (g.part (g.atom (p 11 11 47 49) (g.spelled (k.Name (codes "y?") false))) (g.part (g.atom (p 12 12 50 51) (g.spelled (k.Name (codes "y") false))) g.none)))) g.none))))) (g.part (g.list (p 15 21 55 77) (g.part (g.atom (p 16 16 56 62) (g.spelled (k.Name (codes "import") false))) (g.part (g.list (p 17 20 63 76) (g.part (g.atom (p 18 18 64 70) (g.spelled (k.Name (codes "scheme") false))) (g.part (g.atom (p 19 19 71 75) (g.spelled (k.Name (codes "base") false))) g.none))) g.none))) (g.part (g.list (p 22 45 79 152) (g.part (g.atom (p 23 23 80 85) (g.spelled (k.Name (codes "begin") false))) (g.part (g.list (p 24 41 88 145) (g.part (g.atom (p 25 25 89 107) (g.spelled (k.Name (codes "define-record-type") false))) (g.part (g.atom (p 26 26 108 109) (g.spelled (k.Name (codes "y") false))) (g.part (g.list (p 27 30 110 118) (g.part (g.atom (p 28 28 111 115) (g.spelled (k.Name (codes "make") false))) (g.part (g.atom (p 29 29 116 117) (g.spelled (k.Name (codes "x") false))) g.none))) (g.part (g.atom (p 31 31 119 121) (g.spelled (k.Name (codes "y?") false))) (g.part (g.list (p 32 35 122 129) (g.part (g.atom (p 33 33 123 124) (g.spelled (k.Name (codes "x") false))) (g.part (g.atom (p 34 34 125 128) (g.spelled (k.Name (codes "x-x") false))) g.none))) (g.part (g.list (p 36 40 130 144) (g.part (g.atom (p 37 37 131 132) (g.spelled (k.Name (codes "t") false))) (g.part (g.atom (p 38 38 133 136) (g.spelled (k.Name (codes "t-y") false))) (g.part (g.atom (p 39 39 137 143) (g.spelled (k.Name (codes "set-t!") false))) g.none)))) g.none))))))) (g.part (g.list (p 42 44 148 151) (g.part (g.atom (p 43 43 149 150) (g.spelled (k.Name (codes "t") false))) g.none)) g.none)))) g.none))))))) ∷ [])) ∷ (Some (((g.list (p 0 22 0 63) (g.part (g.atom (p 1 1 1 7) (g.spelled (k.Name (codes "import") false))) (g.part (g.list (p 2 5 8 21) (g.part (g.atom (p 3 3 9 15) (g.spelled (k.Name (codes "scheme") false))) (g.part (g.atom (p 4 4 16 20) (g.spelled (k.Name (codes "base") false))) g.none))) (g.part (g.list (p 6 21 22 62) (g.part (g.atom (p 7 7 23 29) (g.spelled (k.Name (codes "rename") false))) (g.part (g.list (p 8 16 30 52) (g.part (g.atom (p 9 9 31 35) (g.spelled (k.Name (codes "only") false))) (g.part (g.list (p 10 12 36 40) (g.part (g.atom (p 11 11 37 39) (g.spelled (k.Name (codes "l0") false))) g.none)) (g.part (g.atom (p 13 13 41 45) (g.spelled (k.Name (codes "make") false))) (g.part (g.atom (p 14 14 46 49) (g.spelled (k.Name (codes "t-y") false))) (g.part (g.atom (p 15 15 50 51) (g.spelled (k.Name (codes "y") false))) g.none)))))) (g.part (g.list (p 17 20 53 61) (g.part (g.atom (p 18 18 54 55) (g.spelled (k.Name (codes "y") false))) (g.part (g.atom (p 19 19 56 60) (g.spelled (k.Name (codes "else") false))) g.none))) g.none)))) g.none))))) ∷ [])) ∷ []) ((Some (((g.list (p 0 46 0 153) (g.part (g.atom (p 1 1 1 15) (g.spelled (k.Name (codes "define-library") false))) (g.part (g.list (p 2 4 16 20) (g.part (g.atom (p 3 3 17 19) (g.spelled (k.Name (codes "l0") false))) g.none)) (g.part (g.list (p 5 14 22 53) (g.part (g.atom (p 6 6 23 29) (g.spelled (k.Name (codes "export") false))) (g.part (g.atom (p 7 7 30 34) (g.spelled (k.Name (codes "make") false))) (g.part (g.atom (p 8 8 35 38) (g.spelled (k.Name (codes "t-y") false))) (g.part (g.list (p 9 13 39 52) (g.part (g.atom (p 10 10 40 46) (g.spelled (k.Name (codes "rename") false))) (g.part (g.atom (p 11 11 47 49) (g.spelled (k.Name (codes "y?") false))) (g.part (g.atom (p 12 12 50 51) (g.spelled (k.Name (codes "y") false))) g.none)))) g.none))))) (g.part (g.list (p 15 21 55 77) (g.part (g.atom (p 16 16 56 62) (g.spelled (k.Name (codes "import") false))) (g.part (g.list (p 17 20 63 76) (g.part (g.atom (p 18 18 64 70) (g.spelled (k.Name (codes "scheme") false))) (g.part (g.atom (p 19 19 71 75) (g.spelled (k.Name (codes "base") false))) g.none))) g.none))) (g.part (g.list (p 22 45 79 152) (g.part (g.atom (p 23 23 80 85) (g.spelled (k.Name (codes "begin") false))) (g.part (g.list (p 24 41 88 145) (g.part (g.atom (p 25 25 89 107) (g.spelled (k.Name (codes "define-record-type") false))) (g.part (g.atom (p 26 26 108 109) (g.spelled (k.Name (codes "y") false))) (g.part (g.list (p 27 30 110 118) (g.part (g.atom (p 28 28 111 115) (g.spelled (k.Name (codes "make") false))) (g.part (g.atom (p 29 29 116 117) (g.spelled (k.Name (codes "x") false))) g.none))) (g.part (g.atom (p 31 31 119 121) (g.spelled (k.Name (codes "y?") false))) (g.part (g.list (p 32 35 122 129) (g.part (g.atom (p 33 33 123 124) (g.spelled (k.Name (codes "x") false))) (g.part (g.atom (p 34 34 125 128) (g.spelled (k.Name (codes "x-x") false))) g.none))) (g.part (g.list (p 36 40 130 144) (g.part (g.atom (p 37 37 131 132) (g.spelled (k.Name (codes "t") false))) (g.part (g.atom (p 38 38 133 136) (g.spelled (k.Name (codes "t-y") false))) (g.part (g.atom (p 39 39 137 143) (g.spelled (k.Name (codes "set-t!") false))) g.none)))) g.none))))))) (g.part (g.list (p 42 44 148 151) (g.part (g.atom (p 43 43 149 150) (g.spelled (k.Name (codes "t") false))) g.none)) g.none)))) g.none))))))) ∷ [])) ∷ (Some (((g.list (p 0 22 0 58) (g.part (g.atom (p 1 1 1 7) (g.spelled (k.Name (codes "import") false))) (g.part (g.list (p 2 5 8 16) (g.part (g.atom (p 3 3 9 13) (g.spelled (k.Name (codes "make") false))) (g.part (g.atom (p 4 4 14 15) (g.spelled (k.Name (codes "y") false))) g.none))) (g.part (g.list (p 6 21 17 57) (g.part (g.atom (p 7 7 18 24) (g.spelled (k.Name (codes "rename") false))) (g.part (g.list (p 8 16 25 47) (g.part (g.atom (p 9 9 26 30) (g.spelled (k.Name (codes "only") false))) (g.part (g.list (p 10 12 31 35) (g.part (g.atom (p 11 11 32 34) (g.spelled (k.Name (codes "l0") false))) g.none)) (g.part (g.atom (p 13 13 36 40) (g.spelled (k.Name (codes "make") false))) (g.part (g.atom (p 14 14 41 44) (g.spelled (k.Name (codes "t-y") false))) (g.part (g.atom (p 15 15 45 46) (g.spelled (k.Name (codes "y") false))) g.none)))))) (g.part (g.list (p 17 20 48 56) (g.part (g.atom (p 18 18 49 50) (g.spelled (k.Name (codes "y") false))) (g.part (g.atom (p 19 19 51 55) (g.spelled (k.Name (codes "else") false))) g.none))) g.none)))) g.none))))) ∷ [])) ∷ []) ((o 0 0 0) ∷ (o 0 0 1) ∷ (o 0 0 6) ∷ (o 0 1 0) ∷ (o 0 1 1) ∷ (o 0 2 1) ∷ (o 0 2 5) ∷ (o 0 2 7) ∷ (o 0 2 9) ∷ (o 0 2 11) ∷ (o 0 3 0) ∷ (o 0 3 3) ∷ (o 0 3 4) ∷ (o 0 3 6) ∷ (o 0 3 7) ∷ (o 0 3 8) ∷ (o 0 3 11) ∷ []) ≡ None
unfolding base_names standard_libraries prelude encode_utf8
differences-53 = refl

pub differences-58 : difference_rows ((Some (((g.list (p 0 14 0 44) (g.part (g.atom (p 1 1 1 14) (g.spelled (k.Name (codes "define-syntax") false))) (g.part (g.atom (p 2 2 15 16) (g.spelled (k.Name (codes "x") false))) (g.part (g.list (p 3 13 17 43) (g.part (g.atom (p 4 4 18 30) (g.spelled (k.Name (codes "syntax-rules") false))) (g.part (g.list (p 5 6 31 33) g.none) (g.part (g.list (p 7 12 34 42) (g.part (g.list (p 8 10 35 39) (g.part (g.atom (p 9 9 36 37) (g.spelled (k.Name (codes "_") false))) g.none)) (g.part (g.atom (p 11 11 40 41) (g.spelled (k.Name (codes "t") false))) g.none))) g.none)))) g.none))))) ∷ ((g.list (p 15 56 45 128) (g.part (g.atom (p 16 16 46 52) (g.spelled (k.Name (codes "define") false))) (g.part (g.atom (p 17 17 53 54) (g.spelled (k.Name (codes "t") false))) (g.part (g.list (p 18 55 55 127) (g.part (g.atom (p 18 18 55 56) (g.implied k.Quasi)) (g.part (g.list (p 19 55 56 127) (g.part (g.atom (p 20 20 57 58) (g.spelled (k.Name (codes "b") false))) (g.part (g.list (p 21 24 59 63) (g.part (g.atom (p 21 21 59 60) (g.implied k.Unquote)) (g.part (g.list (p 22 24 60 63) (g.part (g.atom (p 23 23 61 62) (g.spelled (k.Name (codes "x") false))) g.none)) g.none))) (g.part (g.list (p 25 52 64 122) (g.part (g.atom (p 25 25 64 66) (g.implied k.Splice)) (g.part (g.list (p 26 52 66 122) (g.part (g.list (p 27 40 67 95) (g.part (g.atom (p 28 28 68 78) (g.spelled (k.Name (codes "let-values") false))) (g.part (g.list (p 29 37 79 90) (g.part (g.list (p 30 36 80 89) (g.part (g.list (p 31 34 81 86) (g.part (g.atom (p 32 32 82 83) (g.spelled (k.Name (codes "_") false))) (g.part (g.atom (p 33 33 84 85) (g.spelled (k.Name (codes "t") false))) g.none))) (g.part (g.atom (p 35 35 87 88) (g.spelled (k.Numeral (codes "1")))) g.none))) g.none)) (g.part (g.atom (p 38 38 91 92) (g.spelled (k.Name (codes "t") false))) (g.part (g.atom (p 39 39 93 94) (g.spelled (k.Name (codes "a") false))) g.none))))) (g.part (g.list (p 41 45 96 107) (g.part (g.atom (p 42 42 97 102) (g.spelled (k.Name (codes "begin") false))) (g.part (g.atom (p 43 43 103 104) (g.spelled (k.Name (codes "b") false))) (g.part (g.atom (p 44 44 105 106) (g.spelled (k.Name (codes "y") false))) g.none)))) (g.part (g.list (p 46 51 108 121) (g.part (g.atom (p 47 47 109 115) (g.spelled (k.Name (codes "lambda") false))) (g.part (g.list (p 48 49 116 118) g.none) (g.part (g.atom (p 50 50 119 120) (g.spelled (k.Numeral (codes "2")))) g.none)))) g.none)))) g.none))) (g.tail (g.atom (p 54 54 125 126) (g.spelled (k.Name (codes "a") false)))))))) g.none))) g.none))))) ∷ [])) ∷ []) ((Some (((g.list (p 0 14 0 44) (g.part (g.atom (p 1 1 1 14) (g.spelled (k.Name (codes "define-syntax") false))) (g.part (g.atom (p 2 2 15 16) (g.spelled (k.Name (codes "a") false))) (g.part (g.list (p 3 13 17 43) (g.part (g.atom (p 4 4 18 30) (g.spelled (k.Name (codes "syntax-rules") false))) (g.part (g.list (p 5 6 31 33) g.none) (g.part (g.list (p 7 12 34 42) (g.part (g.list (p 8 10 35 39) (g.part (g.atom (p 9 9 36 37) (g.spelled (k.Name (codes "_") false))) g.none)) (g.part (g.atom (p 11 11 40 41) (g.spelled (k.Name (codes "t") false))) g.none))) g.none)))) g.none))))) ∷ ((g.list (p 15 56 45 128) (g.part (g.atom (p 16 16 46 52) (g.spelled (k.Name (codes "define") false))) (g.part (g.atom (p 17 17 53 54) (g.spelled (k.Name (codes "t") false))) (g.part (g.list (p 18 55 55 127) (g.part (g.atom (p 18 18 55 56) (g.implied k.Quasi)) (g.part (g.list (p 19 55 56 127) (g.part (g.atom (p 20 20 57 58) (g.spelled (k.Name (codes "b") false))) (g.part (g.list (p 21 24 59 63) (g.part (g.atom (p 21 21 59 60) (g.implied k.Unquote)) (g.part (g.list (p 22 24 60 63) (g.part (g.atom (p 23 23 61 62) (g.spelled (k.Name (codes "x") false))) g.none)) g.none))) (g.part (g.list (p 25 52 64 122) (g.part (g.atom (p 25 25 64 66) (g.implied k.Splice)) (g.part (g.list (p 26 52 66 122) (g.part (g.list (p 27 40 67 95) (g.part (g.atom (p 28 28 68 78) (g.spelled (k.Name (codes "let-values") false))) (g.part (g.list (p 29 37 79 90) (g.part (g.list (p 30 36 80 89) (g.part (g.list (p 31 34 81 86) (g.part (g.atom (p 32 32 82 83) (g.spelled (k.Name (codes "_") false))) (g.part (g.atom (p 33 33 84 85) (g.spelled (k.Numeral (codes "1")))) g.none))) (g.part (g.atom (p 35 35 87 88) (g.spelled (k.Numeral (codes "1")))) g.none))) g.none)) (g.part (g.atom (p 38 38 91 92) (g.spelled (k.Name (codes "t") false))) (g.part (g.atom (p 39 39 93 94) (g.spelled (k.Name (codes "a") false))) g.none))))) (g.part (g.list (p 41 45 96 107) (g.part (g.atom (p 42 42 97 102) (g.spelled (k.Name (codes "begin") false))) (g.part (g.atom (p 43 43 103 104) (g.spelled (k.Name (codes "b") false))) (g.part (g.atom (p 44 44 105 106) (g.spelled (k.Name (codes "y") false))) g.none)))) (g.part (g.list (p 46 51 108 121) (g.part (g.atom (p 47 47 109 115) (g.spelled (k.Name (codes "lambda") false))) (g.part (g.list (p 48 49 116 118) g.none) (g.part (g.atom (p 50 50 119 120) (g.spelled (k.Numeral (codes "2")))) g.none)))) g.none)))) g.none))) (g.tail (g.atom (p 54 54 125 126) (g.spelled (k.Name (codes "a") false)))))))) g.none))) g.none))))) ∷ [])) ∷ []) ((o 0 0 1) ∷ (o 0 0 5) ∷ (o 0 0 7) ∷ (o 0 0 9) ∷ (o 0 0 11) ∷ (o 0 1 1) ∷ (o 0 1 3) ∷ (o 0 1 4) ∷ (o 0 1 11) ∷ (o 0 2 0) ∷ (o 0 2 3) ∷ (o 0 2 4) ∷ (o 0 2 6) ∷ (o 0 2 7) ∷ (o 0 2 10) ∷ (o 0 2 11) ∷ (o 0 3 3) ∷ (o 0 3 7) ∷ (o 0 3 10) ∷ []) ≡ (Some (d w.IsBroken 0 1 None w.OfNothing w.OfNothing))
unfolding base_names standard_libraries prelude encode_utf8
differences-58 = refl

pub differences-64 : difference_rows ((Some (((g.list (p 0 36 0 87) (g.part (g.atom (p 1 1 1 14) (g.spelled (k.Name (codes "define-syntax") false))) (g.part (g.atom (p 2 2 15 16) (g.spelled (k.Name (codes "g") false))) (g.part (g.list (p 3 35 17 86) (g.part (g.atom (p 4 4 18 30) (g.spelled (k.Name (codes "syntax-rules") false))) (g.part (g.list (p 5 6 31 33) g.none) (g.part (g.list (p 7 23 34 66) (g.part (g.list (p 8 10 35 39) (g.part (g.atom (p 9 9 36 37) (g.spelled (k.Name (codes "_") false))) g.none)) (g.part (g.list (p 11 22 40 65) (g.part (g.atom (p 12 12 41 46) (g.spelled (k.Name (codes "begin") false))) (g.part (g.list (p 13 21 47 64) (g.part (g.atom (p 14 14 48 54) (g.spelled (k.Name (codes "define") false))) (g.part (g.atom (p 15 15 55 56) (g.spelled (k.Name (codes "m") false))) (g.part (g.list (p 16 20 57 63) (g.part (g.atom (p 16 16 57 58) (g.implied k.Quote)) (g.part (g.list (p 17 20 58 63) (g.part (g.atom (p 18 18 59 60) (g.spelled (k.Name (codes "x") false))) (g.part (g.atom (p 19 19 61 62) (g.spelled (k.Name (codes "m") false))) g.none))) g.none))) g.none)))) g.none))) g.none))) (g.part (g.list (p 24 34 67 85) (g.part (g.list (p 25 29 68 78) (g.part (g.atom (p 26 26 69 70) (g.spelled (k.Name (codes "_") false))) (g.tail (g.atom (p 28 28 73 77) (g.spelled (k.Name (codes "rest") false)))))) (g.part (g.list (p 30 33 79 84) (g.part (g.atom (p 31 31 80 81) (g.spelled (k.Name (codes "g") false))) (g.part (g.atom (p 32 32 82 83) (g.spelled (k.Name (codes "f") false))) g.none))) g.none))) g.none))))) g.none))))) ∷ ((g.list (p 37 61 88 153) (g.part (g.atom (p 38 38 89 102) (g.spelled (k.Name (codes "define-syntax") false))) (g.part (g.atom (p 39 39 103 104) (g.spelled (k.Name (codes "y") false))) (g.part (g.list (p 40 60 105 152) (g.part (g.atom (p 41 41 106 118) (g.spelled (k.Name (codes "syntax-rules") false))) (g.part (g.list (p 42 43 119 121) g.none) (g.part (g.list (p 44 59 122 151) (g.part (g.list (p 45 55 123 146) (g.part (g.atom (p 46 46 124 125) (g.spelled (k.Name (codes "_") false))) (g.part (g.list (p 47 51 126 135) (g.part (g.atom (p 48 48 127 128) (g.spelled (k.Name (codes "m") false))) (g.part (g.atom (p 49 49 129 130) (g.spelled (k.Name (codes "n") false))) (g.part (g.atom (p 50 50 131 134) (g.spelled (k.Name (codes "...") false))) g.none)))) (g.part (g.atom (p 52 52 136 139) (g.spelled (k.Name (codes "...") false))) (g.part (g.atom (p 53 53 140 143) (g.spelled (k.Name (codes "tmp") false))) (g.part (g.atom (p 54 54 144 145) (g.spelled (k.Name (codes "g") false))) g.none)))))) (g.part (g.list (p 56 58 147 150) (g.part (g.atom (p 57 57 148 149) (g.spelled (k.Name (codes "g") false))) g.none)) g.none))) g.none)))) g.none))))) ∷ [])) ∷ []) ((Some (((g.list (p 0 36 0 82) (g.part (g.atom (p 1 1 1 14) (g.spelled (k.Name (codes "define-syntax") false))) (g.part (g.atom (p 2 2 15 16) (g.spelled (k.Name (codes "g") false))) (g.part (g.list (p 3 35 17 81) (g.part (g.atom (p 4 4 18 30) (g.spelled (k.Name (codes "syntax-rules") false))) (g.part (g.list (p 5 6 31 33) g.none) (g.part (g.list (p 7 23 34 61) (g.part (g.list (p 8 10 35 39) (g.part (g.atom (p 9 9 36 37) (g.spelled (k.Name (codes "_") false))) g.none)) (g.part (g.list (p 11 22 40 60) (g.part (g.atom (p 12 12 41 46) (g.spelled (k.Name (codes "begin") false))) (g.part (g.list (p 13 21 47 59) (g.part (g.atom (p 14 14 48 49) (g.spelled (k.Numeral (codes "1")))) (g.part (g.atom (p 15 15 50 51) (g.spelled (k.Name (codes "m") false))) (g.part (g.list (p 16 20 52 58) (g.part (g.atom (p 16 16 52 53) (g.implied k.Quote)) (g.part (g.list (p 17 20 53 58) (g.part (g.atom (p 18 18 54 55) (g.spelled (k.Name (codes "x") false))) (g.part (g.atom (p 19 19 56 57) (g.spelled (k.Name (codes "m") false))) g.none))) g.none))) g.none)))) g.none))) g.none))) (g.part (g.list (p 24 34 62 80) (g.part (g.list (p 25 29 63 73) (g.part (g.atom (p 26 26 64 65) (g.spelled (k.Name (codes "_") false))) (g.tail (g.atom (p 28 28 68 72) (g.spelled (k.Name (codes "rest") false)))))) (g.part (g.list (p 30 33 74 79) (g.part (g.atom (p 31 31 75 76) (g.spelled (k.Name (codes "g") false))) (g.part (g.atom (p 32 32 77 78) (g.spelled (k.Name (codes "f") false))) g.none))) g.none))) g.none))))) g.none))))) ∷ ((g.list (p 37 61 83 148) (g.part (g.atom (p 38 38 84 97) (g.spelled (k.Name (codes "define-syntax") false))) (g.part (g.atom (p 39 39 98 99) (g.spelled (k.Name (codes "y") false))) (g.part (g.list (p 40 60 100 147) (g.part (g.atom (p 41 41 101 113) (g.spelled (k.Name (codes "syntax-rules") false))) (g.part (g.list (p 42 43 114 116) g.none) (g.part (g.list (p 44 59 117 146) (g.part (g.list (p 45 55 118 141) (g.part (g.atom (p 46 46 119 120) (g.spelled (k.Name (codes "_") false))) (g.part (g.list (p 47 51 121 130) (g.part (g.atom (p 48 48 122 123) (g.spelled (k.Name (codes "m") false))) (g.part (g.atom (p 49 49 124 125) (g.spelled (k.Name (codes "n") false))) (g.part (g.atom (p 50 50 126 129) (g.spelled (k.Name (codes "...") false))) g.none)))) (g.part (g.atom (p 52 52 131 134) (g.spelled (k.Name (codes "...") false))) (g.part (g.atom (p 53 53 135 138) (g.spelled (k.Name (codes "tmp") false))) (g.part (g.atom (p 54 54 139 140) (g.spelled (k.Name (codes "g") false))) g.none)))))) (g.part (g.list (p 56 58 142 145) (g.part (g.atom (p 57 57 143 144) (g.spelled (k.Name (codes "g") false))) g.none)) g.none))) g.none)))) g.none))))) ∷ [])) ∷ []) ((o 0 0 1) ∷ (o 0 0 2) ∷ (o 0 0 5) ∷ (o 0 0 8) ∷ (o 0 0 9) ∷ (o 0 0 11) ∷ (o 0 1 0) ∷ (o 0 1 3) ∷ (o 0 1 5) ∷ (o 0 1 10) ∷ (o 0 2 4) ∷ (o 0 3 5) ∷ (o 0 3 7) ∷ (o 0 3 9) ∷ []) ≡ (Some (d w.IsTemplate 0 0 (Some (o 0 0 14)) (w.OfStandard (codes "define")) w.OfNothing))
unfolding base_names standard_libraries prelude encode_utf8
differences-64 = refl

pub differences-94 : difference_rows ((Some (((g.list (p 0 6 0 22) (g.part (g.atom (p 1 1 1 7) (g.spelled (k.Name (codes "import") false))) (g.part (g.list (p 2 5 8 21) (g.part (g.atom (p 3 3 9 15) (g.spelled (k.Name (codes "scheme") false))) (g.part (g.atom (p 4 4 16 20) (g.spelled (k.Name (codes "base") false))) g.none))) g.none)))) ∷ ((g.list (p 7 24 23 119) (g.part (g.atom (p 8 8 24 42) (g.spelled (k.Name (codes "define-record-type") false))) (g.part (g.atom (p 9 9 43 44) (g.spelled (k.Name (codes "q") false))) (g.part (g.list (p 10 13 45 55) (g.part (g.atom (p 11 11 46 50) (g.spelled (k.Name (codes "make") false))) (g.part (g.atom (p 12 12 51 54) (g.spelled (k.Name (codes "tmp") false))) g.none))) (g.part (g.atom (p 14 14 56 58) (g.spelled (k.Name (codes "q?") false))) (g.part (g.list (p 15 18 59 70) (g.part (g.atom (p 16 16 60 63) (g.spelled (k.Name (codes "tmp") false))) (g.part (g.atom (p 17 17 64 69) (g.spelled (k.Name (codes "tmp-x") false))) g.none))) (g.part (g.list (p 19 23 71 118) (g.part (g.atom (p 20 20 72 84) (g.spelled (k.Name (codes "syntax-rules") false))) (g.part (g.atom (p 21 21 85 99) (g.spelled (k.Name (codes "syntax-rules-y") false))) (g.part (g.atom (p 22 22 100 117) (g.spelled (k.Name (codes "set-syntax-rules!") false))) g.none)))) g.none)))))))) ∷ ((g.list (p 25 140 120 358) (g.part (g.list (p 26 30 121 127) (g.part (g.atom (p 26 26 121 122) (g.implied k.Quote)) (g.part (g.list (p 27 30 122 127) (g.part (g.atom (p 28 28 123 124) (g.spelled (k.Name (codes "a") false))) (g.part (g.atom (p 29 29 125 126) (g.spelled (k.Name (codes "q") false))) g.none))) g.none))) (g.part (g.list (p 31 93 128 264) (g.part (g.atom (p 32 32 129 133) (g.spelled (k.Name (codes "cond") false))) (g.part (g.list (p 33 76 134 235) (g.part (g.list (p 34 70 135 226) (g.part (g.atom (p 35 35 136 139) (g.spelled (k.Name (codes "let") false))) (g.part (g.list (p 36 45 140 159) (g.part (g.list (p 37 40 141 152) (g.part (g.atom (p 38 38 142 149) (g.spelled (k.Name (codes "unquote") false))) (g.part (g.atom (p 39 39 150 151) (g.spelled (k.Name (codes "t") false))) g.none))) (g.part (g.list (p 41 44 153 158) (g.part (g.atom (p 42 42 154 155) (g.spelled (k.Name (codes "q") false))) (g.part (g.atom (p 43 43 156 157) (g.spelled (k.Name (codes "q") false))) g.none))) g.none))) (g.part (g.list (p 46 68 160 223) (g.part (g.atom (p 47 47 161 172) (g.spelled (k.Name (codes "cond-expand") false))) (g.part (g.list (p 48 59 173 202) (g.part (g.list (p 49 53 174 188) (g.part (g.atom (p 50 50 175 177) (g.spelled (k.Name (codes "or") false))) (g.part (g.atom (p 51 51 178 182) (g.spelled (k.Name (codes "full") false))) (g.part (g.atom (p 52 52 183 187) (g.spelled (k.Name (codes "r7rs") false))) g.none)))) (g.part (g.list (p 54 58 189 201) (g.part (g.atom (p 55 55 190 196) (g.spelled (k.Name (codes "define") false))) (g.part (g.atom (p 56 56 197 198) (g.spelled (k.Name (codes "n") false))) (g.part (g.atom (p 57 57 199 200) (g.spelled (k.Name (codes "q") false))) g.none)))) g.none))) (g.part (g.list (p 60 67 203 222) (g.part (g.atom (p 61 61 204 208) (g.spelled (k.Name (codes "else") false))) (g.part (g.list (p 62 66 209 221) (g.part (g.atom (p 63 63 210 216) (g.spelled (k.Name (codes "define") false))) (g.part (g.atom (p 64 64 217 218) (g.spelled (k.Name (codes "n") false))) (g.part (g.atom (p 65 65 219 220) (g.spelled (k.Name (codes "b") false))) g.none)))) g.none))) g.none)))) (g.part (g.atom (p 69 69 224 225) (g.spelled (k.Name (codes "b") false))) g.none))))) (g.part (g.list (p 71 75 227 234) (g.part (g.atom (p 72 72 228 229) (g.spelled (k.Name (codes "t") false))) (g.part (g.atom (p 73 73 230 231) (g.spelled (k.Name (codes "y") false))) (g.part (g.atom (p 74 74 232 233) (g.spelled (k.Name (codes "m") false))) g.none)))) g.none))) (g.part (g.list (p 77 88 236 254) (g.part (g.list (p 78 82 237 244) (g.part (g.atom (p 79 79 238 239) (g.spelled (k.Name (codes "y") false))) (g.part (g.atom (p 80 80 240 241) (g.spelled (k.Name (codes "y") false))) (g.part (g.atom (p 81 81 242 243) (g.spelled (k.Name (codes "g") false))) g.none)))) (g.part (g.atom (p 83 83 245 247) (g.spelled (k.Name (codes "=>") false))) (g.part (g.list (p 84 87 248 253) (g.part (g.atom (p 85 85 249 250) (g.spelled (k.Name (codes "q") false))) (g.part (g.atom (p 86 86 251 252) (g.spelled (k.Name (codes "g") false))) g.none))) g.none)))) (g.part (g.list (p 89 92 255 263) (g.part (g.atom (p 90 90 256 260) (g.spelled (k.Name (codes "else") false))) (g.part (g.atom (p 91 91 261 262) (g.spelled (k.Name (codes "m") false))) g.none))) g.none))))) (g.part (g.list (p 94 139 265 357) (g.part (g.atom (p 95 95 266 272) (g.spelled (k.Name (codes "letrec") false))) (g.part (g.list (p 96 122 273 323) (g.part (g.list (p 97 121 274 322) (g.part (g.atom (p 98 98 275 276) (g.spelled (k.Name (codes "g") false))) (g.part (g.list (p 99 120 277 321) (g.part (g.atom (p 100 100 278 284) (g.spelled (k.Name (codes "lambda") false))) (g.part (g.list (p 101 103 285 288) (g.part (g.atom (p 102 102 286 287) (g.spelled (k.Name (codes "g") false))) g.none)) (g.part (g.list (p 104 119 289 320) (g.part (g.atom (p 105 105 290 296) (g.spelled (k.Name (codes "letrec") false))) (g.part (g.list (p 106 117 297 317) (g.part (g.list (p 107 116 298 316) (g.part (g.atom (p 108 108 299 300) (g.spelled (k.Name (codes "m") false))) (g.part (g.list (p 109 115 301 315) (g.part (g.atom (p 110 110 302 308) (g.spelled (k.Name (codes "lambda") false))) (g.part (g.list (p 111 113 309 312) (g.part (g.atom (p 112 112 310 311) (g.spelled (k.Name (codes "y") false))) g.none)) (g.part (g.atom (p 114 114 313 314) (g.spelled (k.Name (codes "t") false))) g.none)))) g.none))) g.none)) (g.part (g.atom (p 118 118 318 319) (g.spelled (k.Name (codes "k") false))) g.none)))) g.none)))) g.none))) g.none)) (g.part (g.list (p 123 138 324 356) (g.part (g.atom (p 124 124 325 329) (g.spelled (k.Name (codes "case") false))) (g.part (g.atom (p 125 125 330 331) (g.spelled (k.Name (codes "k") false))) (g.part (g.list (p 126 132 332 343) (g.part (g.list (p 127 130 333 340) (g.part (g.atom (p 128 128 334 337) (g.spelled (k.Name (codes "tmp") false))) (g.part (g.atom (p 129 129 338 339) (g.spelled (k.Name (codes "f") false))) g.none))) (g.part (g.atom (p 131 131 341 342) (g.spelled (k.Name (codes "b") false))) g.none))) (g.part (g.list (p 133 137 344 355) (g.part (g.atom (p 134 134 345 349) (g.spelled (k.Name (codes "else") false))) (g.part (g.atom (p 135 135 350 352) (g.spelled (k.Name (codes "=>") false))) (g.part (g.atom (p 136 136 353 354) (g.spelled (k.Name (codes "y") false))) g.none)))) g.none))))) g.none)))) g.none))))) ∷ [])) ∷ []) ((Some (((g.list (p 0 6 0 17) (g.part (g.atom (p 1 1 1 7) (g.spelled (k.Name (codes "import") false))) (g.part (g.list (p 2 5 8 16) (g.part (g.atom (p 3 3 9 10) (g.spelled (k.Name (codes "f") false))) (g.part (g.atom (p 4 4 11 15) (g.spelled (k.Name (codes "base") false))) g.none))) g.none)))) ∷ ((g.list (p 7 24 18 114) (g.part (g.atom (p 8 8 19 37) (g.spelled (k.Name (codes "define-record-type") false))) (g.part (g.atom (p 9 9 38 39) (g.spelled (k.Name (codes "q") false))) (g.part (g.list (p 10 13 40 50) (g.part (g.atom (p 11 11 41 45) (g.spelled (k.Name (codes "make") false))) (g.part (g.atom (p 12 12 46 49) (g.spelled (k.Name (codes "tmp") false))) g.none))) (g.part (g.atom (p 14 14 51 53) (g.spelled (k.Name (codes "q?") false))) (g.part (g.list (p 15 18 54 65) (g.part (g.atom (p 16 16 55 58) (g.spelled (k.Name (codes "tmp") false))) (g.part (g.atom (p 17 17 59 64) (g.spelled (k.Name (codes "tmp-x") false))) g.none))) (g.part (g.list (p 19 23 66 113) (g.part (g.atom (p 20 20 67 79) (g.spelled (k.Name (codes "syntax-rules") false))) (g.part (g.atom (p 21 21 80 94) (g.spelled (k.Name (codes "syntax-rules-y") false))) (g.part (g.atom (p 22 22 95 112) (g.spelled (k.Name (codes "set-syntax-rules!") false))) g.none)))) g.none)))))))) ∷ ((g.list (p 25 140 115 353) (g.part (g.list (p 26 30 116 122) (g.part (g.atom (p 26 26 116 117) (g.implied k.Quote)) (g.part (g.list (p 27 30 117 122) (g.part (g.atom (p 28 28 118 119) (g.spelled (k.Name (codes "a") false))) (g.part (g.atom (p 29 29 120 121) (g.spelled (k.Name (codes "q") false))) g.none))) g.none))) (g.part (g.list (p 31 93 123 259) (g.part (g.atom (p 32 32 124 128) (g.spelled (k.Name (codes "cond") false))) (g.part (g.list (p 33 76 129 230) (g.part (g.list (p 34 70 130 221) (g.part (g.atom (p 35 35 131 134) (g.spelled (k.Name (codes "let") false))) (g.part (g.list (p 36 45 135 154) (g.part (g.list (p 37 40 136 147) (g.part (g.atom (p 38 38 137 144) (g.spelled (k.Name (codes "unquote") false))) (g.part (g.atom (p 39 39 145 146) (g.spelled (k.Name (codes "t") false))) g.none))) (g.part (g.list (p 41 44 148 153) (g.part (g.atom (p 42 42 149 150) (g.spelled (k.Name (codes "q") false))) (g.part (g.atom (p 43 43 151 152) (g.spelled (k.Name (codes "q") false))) g.none))) g.none))) (g.part (g.list (p 46 68 155 218) (g.part (g.atom (p 47 47 156 167) (g.spelled (k.Name (codes "cond-expand") false))) (g.part (g.list (p 48 59 168 197) (g.part (g.list (p 49 53 169 183) (g.part (g.atom (p 50 50 170 172) (g.spelled (k.Name (codes "or") false))) (g.part (g.atom (p 51 51 173 177) (g.spelled (k.Name (codes "full") false))) (g.part (g.atom (p 52 52 178 182) (g.spelled (k.Name (codes "r7rs") false))) g.none)))) (g.part (g.list (p 54 58 184 196) (g.part (g.atom (p 55 55 185 191) (g.spelled (k.Name (codes "define") false))) (g.part (g.atom (p 56 56 192 193) (g.spelled (k.Name (codes "n") false))) (g.part (g.atom (p 57 57 194 195) (g.spelled (k.Name (codes "q") false))) g.none)))) g.none))) (g.part (g.list (p 60 67 198 217) (g.part (g.atom (p 61 61 199 203) (g.spelled (k.Name (codes "else") false))) (g.part (g.list (p 62 66 204 216) (g.part (g.atom (p 63 63 205 211) (g.spelled (k.Name (codes "define") false))) (g.part (g.atom (p 64 64 212 213) (g.spelled (k.Name (codes "n") false))) (g.part (g.atom (p 65 65 214 215) (g.spelled (k.Name (codes "b") false))) g.none)))) g.none))) g.none)))) (g.part (g.atom (p 69 69 219 220) (g.spelled (k.Name (codes "b") false))) g.none))))) (g.part (g.list (p 71 75 222 229) (g.part (g.atom (p 72 72 223 224) (g.spelled (k.Name (codes "t") false))) (g.part (g.atom (p 73 73 225 226) (g.spelled (k.Name (codes "y") false))) (g.part (g.atom (p 74 74 227 228) (g.spelled (k.Name (codes "m") false))) g.none)))) g.none))) (g.part (g.list (p 77 88 231 249) (g.part (g.list (p 78 82 232 239) (g.part (g.atom (p 79 79 233 234) (g.spelled (k.Name (codes "y") false))) (g.part (g.atom (p 80 80 235 236) (g.spelled (k.Name (codes "y") false))) (g.part (g.atom (p 81 81 237 238) (g.spelled (k.Name (codes "g") false))) g.none)))) (g.part (g.atom (p 83 83 240 242) (g.spelled (k.Name (codes "=>") false))) (g.part (g.list (p 84 87 243 248) (g.part (g.atom (p 85 85 244 245) (g.spelled (k.Name (codes "q") false))) (g.part (g.atom (p 86 86 246 247) (g.spelled (k.Name (codes "g") false))) g.none))) g.none)))) (g.part (g.list (p 89 92 250 258) (g.part (g.atom (p 90 90 251 255) (g.spelled (k.Name (codes "else") false))) (g.part (g.atom (p 91 91 256 257) (g.spelled (k.Name (codes "m") false))) g.none))) g.none))))) (g.part (g.list (p 94 139 260 352) (g.part (g.atom (p 95 95 261 267) (g.spelled (k.Name (codes "letrec") false))) (g.part (g.list (p 96 122 268 318) (g.part (g.list (p 97 121 269 317) (g.part (g.atom (p 98 98 270 271) (g.spelled (k.Name (codes "g") false))) (g.part (g.list (p 99 120 272 316) (g.part (g.atom (p 100 100 273 279) (g.spelled (k.Name (codes "lambda") false))) (g.part (g.list (p 101 103 280 283) (g.part (g.atom (p 102 102 281 282) (g.spelled (k.Name (codes "g") false))) g.none)) (g.part (g.list (p 104 119 284 315) (g.part (g.atom (p 105 105 285 291) (g.spelled (k.Name (codes "letrec") false))) (g.part (g.list (p 106 117 292 312) (g.part (g.list (p 107 116 293 311) (g.part (g.atom (p 108 108 294 295) (g.spelled (k.Name (codes "m") false))) (g.part (g.list (p 109 115 296 310) (g.part (g.atom (p 110 110 297 303) (g.spelled (k.Name (codes "lambda") false))) (g.part (g.list (p 111 113 304 307) (g.part (g.atom (p 112 112 305 306) (g.spelled (k.Name (codes "y") false))) g.none)) (g.part (g.atom (p 114 114 308 309) (g.spelled (k.Name (codes "t") false))) g.none)))) g.none))) g.none)) (g.part (g.atom (p 118 118 313 314) (g.spelled (k.Name (codes "k") false))) g.none)))) g.none)))) g.none))) g.none)) (g.part (g.list (p 123 138 319 351) (g.part (g.atom (p 124 124 320 324) (g.spelled (k.Name (codes "case") false))) (g.part (g.atom (p 125 125 325 326) (g.spelled (k.Name (codes "k") false))) (g.part (g.list (p 126 132 327 338) (g.part (g.list (p 127 130 328 335) (g.part (g.atom (p 128 128 329 332) (g.spelled (k.Name (codes "tmp") false))) (g.part (g.atom (p 129 129 333 334) (g.spelled (k.Name (codes "f") false))) g.none))) (g.part (g.atom (p 131 131 336 337) (g.spelled (k.Name (codes "b") false))) g.none))) (g.part (g.list (p 133 137 339 350) (g.part (g.atom (p 134 134 340 344) (g.spelled (k.Name (codes "else") false))) (g.part (g.atom (p 135 135 345 347) (g.spelled (k.Name (codes "=>") false))) (g.part (g.atom (p 136 136 348 349) (g.spelled (k.Name (codes "y") false))) g.none)))) g.none))))) g.none)))) g.none))))) ∷ [])) ∷ []) ((o 0 0 2) ∷ (o 0 0 4) ∷ (o 0 0 7) ∷ (o 0 0 9) ∷ (o 0 0 10) ∷ (o 0 0 11) ∷ (o 0 1 0) ∷ (o 0 1 6) ∷ (o 0 1 8) ∷ (o 0 1 9) ∷ (o 0 2 8) ∷ (o 0 2 9) ∷ (o 0 2 11) ∷ (o 0 3 4) ∷ (o 0 3 6) ∷ (o 0 3 7) ∷ []) ≡ (Some (d w.IsStructure 0 1 None w.OfNothing w.OfNothing))
unfolding base_names standard_libraries prelude encode_utf8
differences-94 = refl

pub captured : difference_rows ((Some (((g.list (p 0 11 0 22) (g.part (g.atom (p 1 1 1 7) (g.spelled (k.Name (codes "define") false))) (g.part (g.list (p 2 5 8 13) (g.part (g.atom (p 3 3 9 10) (g.spelled (k.Name (codes "f") false))) (g.part (g.atom (p 4 4 11 12) (g.spelled (k.Name (codes "x") false))) g.none))) (g.part (g.list (p 6 10 14 21) (g.part (g.atom (p 7 7 15 16) (g.spelled (k.Name (codes "+") false))) (g.part (g.atom (p 8 8 17 18) (g.spelled (k.Name (codes "x") false))) (g.part (g.atom (p 9 9 19 20) (g.spelled (k.Name (codes "y") false))) g.none)))) g.none))))) ∷ ((g.list (p 12 16 23 35) (g.part (g.atom (p 13 13 24 30) (g.spelled (k.Name (codes "define") false))) (g.part (g.atom (p 14 14 31 32) (g.spelled (k.Name (codes "y") false))) (g.part (g.atom (p 15 15 33 34) (g.spelled (k.Numeral (codes "1")))) g.none))))) ∷ [])) ∷ []) ((Some (((g.list (p 0 11 0 22) (g.part (g.atom (p 1 1 1 7) (g.spelled (k.Name (codes "define") false))) (g.part (g.list (p 2 5 8 13) (g.part (g.atom (p 3 3 9 10) (g.spelled (k.Name (codes "f") false))) (g.part (g.atom (p 4 4 11 12) (g.spelled (k.Name (codes "x") false))) g.none))) (g.part (g.list (p 6 10 14 21) (g.part (g.atom (p 7 7 15 16) (g.spelled (k.Name (codes "+") false))) (g.part (g.atom (p 8 8 17 18) (g.spelled (k.Name (codes "x") false))) (g.part (g.atom (p 9 9 19 20) (g.spelled (k.Name (codes "x") false))) g.none)))) g.none))))) ∷ ((g.list (p 12 16 23 35) (g.part (g.atom (p 13 13 24 30) (g.spelled (k.Name (codes "define") false))) (g.part (g.atom (p 14 14 31 32) (g.spelled (k.Name (codes "x") false))) (g.part (g.atom (p 15 15 33 34) (g.spelled (k.Numeral (codes "1")))) g.none))))) ∷ [])) ∷ []) ((o 0 0 9) ∷ (o 0 1 2) ∷ []) ≡ (Some (d w.IsCaptured 0 0 (Some (o 0 0 9)) (w.AtBinder (o 0 1 2)) (w.AtBinder (o 0 0 4))))
unfolding base_names standard_libraries prelude encode_utf8
captured = refl

pub shadowed : difference_rows ((Some (((g.list (p 0 11 0 22) (g.part (g.atom (p 1 1 1 7) (g.spelled (k.Name (codes "define") false))) (g.part (g.list (p 2 5 8 13) (g.part (g.atom (p 3 3 9 10) (g.spelled (k.Name (codes "f") false))) (g.part (g.atom (p 4 4 11 12) (g.spelled (k.Name (codes "x") false))) g.none))) (g.part (g.list (p 6 10 14 21) (g.part (g.atom (p 7 7 15 16) (g.spelled (k.Name (codes "+") false))) (g.part (g.atom (p 8 8 17 18) (g.spelled (k.Name (codes "x") false))) (g.part (g.atom (p 9 9 19 20) (g.spelled (k.Name (codes "y") false))) g.none)))) g.none))))) ∷ ((g.list (p 12 16 23 35) (g.part (g.atom (p 13 13 24 30) (g.spelled (k.Name (codes "define") false))) (g.part (g.atom (p 14 14 31 32) (g.spelled (k.Name (codes "y") false))) (g.part (g.atom (p 15 15 33 34) (g.spelled (k.Numeral (codes "1")))) g.none))))) ∷ [])) ∷ []) ((Some (((g.list (p 0 11 0 22) (g.part (g.atom (p 1 1 1 7) (g.spelled (k.Name (codes "define") false))) (g.part (g.list (p 2 5 8 13) (g.part (g.atom (p 3 3 9 10) (g.spelled (k.Name (codes "f") false))) (g.part (g.atom (p 4 4 11 12) (g.spelled (k.Name (codes "y") false))) g.none))) (g.part (g.list (p 6 10 14 21) (g.part (g.atom (p 7 7 15 16) (g.spelled (k.Name (codes "+") false))) (g.part (g.atom (p 8 8 17 18) (g.spelled (k.Name (codes "y") false))) (g.part (g.atom (p 9 9 19 20) (g.spelled (k.Name (codes "y") false))) g.none)))) g.none))))) ∷ ((g.list (p 12 16 23 35) (g.part (g.atom (p 13 13 24 30) (g.spelled (k.Name (codes "define") false))) (g.part (g.atom (p 14 14 31 32) (g.spelled (k.Name (codes "y") false))) (g.part (g.atom (p 15 15 33 34) (g.spelled (k.Numeral (codes "1")))) g.none))))) ∷ [])) ∷ []) ((o 0 0 4) ∷ (o 0 0 8) ∷ []) ≡ (Some (d w.IsShadowed 0 0 (Some (o 0 0 9)) (w.AtBinder (o 0 1 2)) (w.AtBinder (o 0 0 4))))
unfolding base_names standard_libraries prelude encode_utf8
shadowed = refl

pub quoted-argument : difference_rows ((Some (((g.list (p 0 25 0 72) (g.part (g.atom (p 1 1 1 14) (g.spelled (k.Name (codes "define-syntax") false))) (g.part (g.atom (p 2 2 15 20) (g.spelled (k.Name (codes "named") false))) (g.part (g.list (p 3 24 21 71) (g.part (g.atom (p 4 4 22 34) (g.spelled (k.Name (codes "syntax-rules") false))) (g.part (g.list (p 5 6 35 37) g.none) (g.part (g.list (p 7 23 38 70) (g.part (g.list (p 8 12 39 46) (g.part (g.atom (p 9 9 40 41) (g.spelled (k.Name (codes "_") false))) (g.part (g.atom (p 10 10 42 43) (g.spelled (k.Name (codes "x") false))) (g.part (g.atom (p 11 11 44 45) (g.spelled (k.Name (codes "e") false))) g.none)))) (g.part (g.list (p 13 22 47 69) (g.part (g.atom (p 14 14 48 54) (g.spelled (k.Name (codes "define") false))) (g.part (g.atom (p 15 15 55 56) (g.spelled (k.Name (codes "x") false))) (g.part (g.list (p 16 21 57 68) (g.part (g.atom (p 17 17 58 62) (g.spelled (k.Name (codes "wrap") false))) (g.part (g.list (p 18 19 63 65) (g.part (g.atom (p 18 18 63 64) (g.implied k.Quote)) (g.part (g.atom (p 19 19 64 65) (g.spelled (k.Name (codes "x") false))) g.none))) (g.part (g.atom (p 20 20 66 67) (g.spelled (k.Name (codes "e") false))) g.none)))) g.none)))) g.none))) g.none)))) g.none))))) ∷ ((g.list (p 26 34 73 94) (g.part (g.atom (p 27 27 74 80) (g.spelled (k.Name (codes "define") false))) (g.part (g.list (p 28 32 81 91) (g.part (g.atom (p 29 29 82 86) (g.spelled (k.Name (codes "wrap") false))) (g.part (g.atom (p 30 30 87 88) (g.spelled (k.Name (codes "n") false))) (g.part (g.atom (p 31 31 89 90) (g.spelled (k.Name (codes "v") false))) g.none)))) (g.part (g.atom (p 33 33 92 93) (g.spelled (k.Name (codes "v") false))) g.none))))) ∷ ((g.list (p 35 39 95 110) (g.part (g.atom (p 36 36 96 101) (g.spelled (k.Name (codes "named") false))) (g.part (g.atom (p 37 37 102 107) (g.spelled (k.Name (codes "alpha") false))) (g.part (g.atom (p 38 38 108 109) (g.spelled (k.Numeral (codes "1")))) g.none))))) ∷ [])) ∷ []) ((Some (((g.list (p 0 25 0 72) (g.part (g.atom (p 1 1 1 14) (g.spelled (k.Name (codes "define-syntax") false))) (g.part (g.atom (p 2 2 15 20) (g.spelled (k.Name (codes "named") false))) (g.part (g.list (p 3 24 21 71) (g.part (g.atom (p 4 4 22 34) (g.spelled (k.Name (codes "syntax-rules") false))) (g.part (g.list (p 5 6 35 37) g.none) (g.part (g.list (p 7 23 38 70) (g.part (g.list (p 8 12 39 46) (g.part (g.atom (p 9 9 40 41) (g.spelled (k.Name (codes "_") false))) (g.part (g.atom (p 10 10 42 43) (g.spelled (k.Name (codes "x") false))) (g.part (g.atom (p 11 11 44 45) (g.spelled (k.Name (codes "e") false))) g.none)))) (g.part (g.list (p 13 22 47 69) (g.part (g.atom (p 14 14 48 54) (g.spelled (k.Name (codes "define") false))) (g.part (g.atom (p 15 15 55 56) (g.spelled (k.Name (codes "x") false))) (g.part (g.list (p 16 21 57 68) (g.part (g.atom (p 17 17 58 62) (g.spelled (k.Name (codes "wrap") false))) (g.part (g.list (p 18 19 63 65) (g.part (g.atom (p 18 18 63 64) (g.implied k.Quote)) (g.part (g.atom (p 19 19 64 65) (g.spelled (k.Name (codes "x") false))) g.none))) (g.part (g.atom (p 20 20 66 67) (g.spelled (k.Name (codes "e") false))) g.none)))) g.none)))) g.none))) g.none)))) g.none))))) ∷ ((g.list (p 26 34 73 94) (g.part (g.atom (p 27 27 74 80) (g.spelled (k.Name (codes "define") false))) (g.part (g.list (p 28 32 81 91) (g.part (g.atom (p 29 29 82 86) (g.spelled (k.Name (codes "wrap") false))) (g.part (g.atom (p 30 30 87 88) (g.spelled (k.Name (codes "n") false))) (g.part (g.atom (p 31 31 89 90) (g.spelled (k.Name (codes "v") false))) g.none)))) (g.part (g.atom (p 33 33 92 93) (g.spelled (k.Name (codes "v") false))) g.none))))) ∷ ((g.list (p 35 39 95 109) (g.part (g.atom (p 36 36 96 101) (g.spelled (k.Name (codes "named") false))) (g.part (g.atom (p 37 37 102 106) (g.spelled (k.Name (codes "beta") false))) (g.part (g.atom (p 38 38 107 108) (g.spelled (k.Numeral (codes "1")))) g.none))))) ∷ [])) ∷ []) ((o 0 2 2) ∷ []) ≡ (Some (d w.IsQuoted 0 2 (Some (o 0 2 2)) (w.OfSymbol (codes "alpha")) (w.OfSymbol (codes "beta"))))
unfolding base_names standard_libraries prelude encode_utf8
quoted-argument = refl

pub template-leaf : difference_rows ((Some (((g.list (p 0 17 0 49) (g.part (g.atom (p 1 1 1 14) (g.spelled (k.Name (codes "define-syntax") false))) (g.part (g.atom (p 2 2 15 16) (g.spelled (k.Name (codes "m") false))) (g.part (g.list (p 3 16 17 48) (g.part (g.atom (p 4 4 18 30) (g.spelled (k.Name (codes "syntax-rules") false))) (g.part (g.list (p 5 6 31 33) g.none) (g.part (g.list (p 7 15 34 47) (g.part (g.list (p 8 10 35 38) (g.part (g.atom (p 9 9 36 37) (g.spelled (k.Name (codes "_") false))) g.none)) (g.part (g.list (p 11 14 39 46) (g.part (g.atom (p 12 12 40 43) (g.spelled (k.Name (codes "car") false))) (g.part (g.atom (p 13 13 44 45) (g.spelled (k.Name (codes "x") false))) g.none))) g.none))) g.none)))) g.none))))) ∷ [])) ∷ []) ((Some (((g.list (p 0 17 0 49) (g.part (g.atom (p 1 1 1 14) (g.spelled (k.Name (codes "define-syntax") false))) (g.part (g.atom (p 2 2 15 16) (g.spelled (k.Name (codes "m") false))) (g.part (g.list (p 3 16 17 48) (g.part (g.atom (p 4 4 18 30) (g.spelled (k.Name (codes "syntax-rules") false))) (g.part (g.list (p 5 6 31 33) g.none) (g.part (g.list (p 7 15 34 47) (g.part (g.list (p 8 10 35 38) (g.part (g.atom (p 9 9 36 37) (g.spelled (k.Name (codes "_") false))) g.none)) (g.part (g.list (p 11 14 39 46) (g.part (g.atom (p 12 12 40 43) (g.spelled (k.Name (codes "cdr") false))) (g.part (g.atom (p 13 13 44 45) (g.spelled (k.Name (codes "x") false))) g.none))) g.none))) g.none)))) g.none))))) ∷ [])) ∷ []) ([]) ≡ (Some (d w.IsTemplate 0 0 (Some (o 0 0 12)) (w.OfStandard (codes "car")) (w.OfStandard (codes "cdr"))))
unfolding base_names standard_libraries prelude encode_utf8
template-leaf = refl

pub live-template-leaf : difference_rows ((Some (((g.list (p 0 17 0 49) (g.part (g.atom (p 1 1 1 14) (g.spelled (k.Name (codes "define-syntax") false))) (g.part (g.atom (p 2 2 15 16) (g.spelled (k.Name (codes "m") false))) (g.part (g.list (p 3 16 17 48) (g.part (g.atom (p 4 4 18 30) (g.spelled (k.Name (codes "syntax-rules") false))) (g.part (g.list (p 5 6 31 33) g.none) (g.part (g.list (p 7 15 34 47) (g.part (g.list (p 8 10 35 38) (g.part (g.atom (p 9 9 36 37) (g.spelled (k.Name (codes "_") false))) g.none)) (g.part (g.list (p 11 14 39 46) (g.part (g.atom (p 12 12 40 43) (g.spelled (k.Name (codes "car") false))) (g.part (g.atom (p 13 13 44 45) (g.spelled (k.Name (codes "x") false))) g.none))) g.none))) g.none)))) g.none))))) ∷ ((g.list (p 18 20 50 53) (g.part (g.atom (p 19 19 51 52) (g.spelled (k.Name (codes "m") false))) g.none))) ∷ [])) ∷ []) ((Some (((g.list (p 0 17 0 49) (g.part (g.atom (p 1 1 1 14) (g.spelled (k.Name (codes "define-syntax") false))) (g.part (g.atom (p 2 2 15 16) (g.spelled (k.Name (codes "m") false))) (g.part (g.list (p 3 16 17 48) (g.part (g.atom (p 4 4 18 30) (g.spelled (k.Name (codes "syntax-rules") false))) (g.part (g.list (p 5 6 31 33) g.none) (g.part (g.list (p 7 15 34 47) (g.part (g.list (p 8 10 35 38) (g.part (g.atom (p 9 9 36 37) (g.spelled (k.Name (codes "_") false))) g.none)) (g.part (g.list (p 11 14 39 46) (g.part (g.atom (p 12 12 40 43) (g.spelled (k.Name (codes "cdr") false))) (g.part (g.atom (p 13 13 44 45) (g.spelled (k.Name (codes "x") false))) g.none))) g.none))) g.none)))) g.none))))) ∷ ((g.list (p 18 20 50 53) (g.part (g.atom (p 19 19 51 52) (g.spelled (k.Name (codes "m") false))) g.none))) ∷ [])) ∷ []) ([]) ≡ (Some (d w.IsShadowed 0 1 (Some (o 0 0 12)) (w.OfStandard (codes "car")) (w.OfStandard (codes "cdr"))))
unfolding base_names standard_libraries prelude encode_utf8
live-template-leaf = refl

pub variable-on-one-side : difference_rows ((Some (((g.list (p 0 18 0 52) (g.part (g.atom (p 1 1 1 14) (g.spelled (k.Name (codes "define-syntax") false))) (g.part (g.atom (p 2 2 15 16) (g.spelled (k.Name (codes "m") false))) (g.part (g.list (p 3 17 17 51) (g.part (g.atom (p 4 4 18 30) (g.spelled (k.Name (codes "syntax-rules") false))) (g.part (g.list (p 5 6 31 33) g.none) (g.part (g.list (p 7 16 34 50) (g.part (g.list (p 8 11 35 40) (g.part (g.atom (p 9 9 36 37) (g.spelled (k.Name (codes "_") false))) (g.part (g.atom (p 10 10 38 39) (g.spelled (k.Name (codes "a") false))) g.none))) (g.part (g.list (p 12 15 41 49) (g.part (g.atom (p 13 13 42 46) (g.spelled (k.Name (codes "list") false))) (g.part (g.atom (p 14 14 47 48) (g.spelled (k.Name (codes "a") false))) g.none))) g.none))) g.none)))) g.none))))) ∷ [])) ∷ []) ((Some (((g.list (p 0 18 0 52) (g.part (g.atom (p 1 1 1 14) (g.spelled (k.Name (codes "define-syntax") false))) (g.part (g.atom (p 2 2 15 16) (g.spelled (k.Name (codes "m") false))) (g.part (g.list (p 3 17 17 51) (g.part (g.atom (p 4 4 18 30) (g.spelled (k.Name (codes "syntax-rules") false))) (g.part (g.list (p 5 6 31 33) g.none) (g.part (g.list (p 7 16 34 50) (g.part (g.list (p 8 11 35 40) (g.part (g.atom (p 9 9 36 37) (g.spelled (k.Name (codes "_") false))) (g.part (g.atom (p 10 10 38 39) (g.spelled (k.Name (codes "b") false))) g.none))) (g.part (g.list (p 12 15 41 49) (g.part (g.atom (p 13 13 42 46) (g.spelled (k.Name (codes "list") false))) (g.part (g.atom (p 14 14 47 48) (g.spelled (k.Name (codes "a") false))) g.none))) g.none))) g.none)))) g.none))))) ∷ [])) ∷ []) ((o 0 0 10) ∷ []) ≡ (Some (d w.IsTemplate 0 0 (Some (o 0 0 14)) (w.AtBinder (o 0 0 10)) (w.OfUnbound (codes "a"))))
unfolding base_names standard_libraries prelude encode_utf8
variable-on-one-side = refl

pub another-export : difference_rows ((Some (((g.list (p 0 29 0 88) (g.part (g.atom (p 1 1 1 15) (g.spelled (k.Name (codes "define-library") false))) (g.part (g.list (p 2 4 16 19) (g.part (g.atom (p 3 3 17 18) (g.spelled (k.Name (codes "l") false))) g.none)) (g.part (g.list (p 5 8 20 30) (g.part (g.atom (p 6 6 21 27) (g.spelled (k.Name (codes "export") false))) (g.part (g.atom (p 7 7 28 29) (g.spelled (k.Name (codes "a") false))) g.none))) (g.part (g.list (p 9 15 31 53) (g.part (g.atom (p 10 10 32 38) (g.spelled (k.Name (codes "import") false))) (g.part (g.list (p 11 14 39 52) (g.part (g.atom (p 12 12 40 46) (g.spelled (k.Name (codes "scheme") false))) (g.part (g.atom (p 13 13 47 51) (g.spelled (k.Name (codes "base") false))) g.none))) g.none))) (g.part (g.list (p 16 28 54 87) (g.part (g.atom (p 17 17 55 60) (g.spelled (k.Name (codes "begin") false))) (g.part (g.list (p 18 22 61 73) (g.part (g.atom (p 19 19 62 68) (g.spelled (k.Name (codes "define") false))) (g.part (g.atom (p 20 20 69 70) (g.spelled (k.Name (codes "a") false))) (g.part (g.atom (p 21 21 71 72) (g.spelled (k.Numeral (codes "1")))) g.none)))) (g.part (g.list (p 23 27 74 86) (g.part (g.atom (p 24 24 75 81) (g.spelled (k.Name (codes "define") false))) (g.part (g.atom (p 25 25 82 83) (g.spelled (k.Name (codes "b") false))) (g.part (g.atom (p 26 26 84 85) (g.spelled (k.Numeral (codes "2")))) g.none)))) g.none)))) g.none))))))) ∷ [])) ∷ []) ((Some (((g.list (p 0 29 0 88) (g.part (g.atom (p 1 1 1 15) (g.spelled (k.Name (codes "define-library") false))) (g.part (g.list (p 2 4 16 19) (g.part (g.atom (p 3 3 17 18) (g.spelled (k.Name (codes "l") false))) g.none)) (g.part (g.list (p 5 8 20 30) (g.part (g.atom (p 6 6 21 27) (g.spelled (k.Name (codes "export") false))) (g.part (g.atom (p 7 7 28 29) (g.spelled (k.Name (codes "b") false))) g.none))) (g.part (g.list (p 9 15 31 53) (g.part (g.atom (p 10 10 32 38) (g.spelled (k.Name (codes "import") false))) (g.part (g.list (p 11 14 39 52) (g.part (g.atom (p 12 12 40 46) (g.spelled (k.Name (codes "scheme") false))) (g.part (g.atom (p 13 13 47 51) (g.spelled (k.Name (codes "base") false))) g.none))) g.none))) (g.part (g.list (p 16 28 54 87) (g.part (g.atom (p 17 17 55 60) (g.spelled (k.Name (codes "begin") false))) (g.part (g.list (p 18 22 61 73) (g.part (g.atom (p 19 19 62 68) (g.spelled (k.Name (codes "define") false))) (g.part (g.atom (p 20 20 69 70) (g.spelled (k.Name (codes "a") false))) (g.part (g.atom (p 21 21 71 72) (g.spelled (k.Numeral (codes "1")))) g.none)))) (g.part (g.list (p 23 27 74 86) (g.part (g.atom (p 24 24 75 81) (g.spelled (k.Name (codes "define") false))) (g.part (g.atom (p 25 25 82 83) (g.spelled (k.Name (codes "b") false))) (g.part (g.atom (p 26 26 84 85) (g.spelled (k.Numeral (codes "2")))) g.none)))) g.none)))) g.none))))))) ∷ [])) ∷ []) ([]) ≡ (Some (d w.IsExport 0 0 (Some (o 0 0 2)) (w.OfSymbol (codes "a")) (w.OfSymbol (codes "b"))))
unfolding base_names standard_libraries prelude encode_utf8
another-export = refl

pub export-of-another : difference_rows ((Some (((g.list (p 0 33 0 99) (g.part (g.atom (p 1 1 1 15) (g.spelled (k.Name (codes "define-library") false))) (g.part (g.list (p 2 4 16 19) (g.part (g.atom (p 3 3 17 18) (g.spelled (k.Name (codes "l") false))) g.none)) (g.part (g.list (p 5 12 20 41) (g.part (g.atom (p 6 6 21 27) (g.spelled (k.Name (codes "export") false))) (g.part (g.list (p 7 11 28 40) (g.part (g.atom (p 8 8 29 35) (g.spelled (k.Name (codes "rename") false))) (g.part (g.atom (p 9 9 36 37) (g.spelled (k.Name (codes "a") false))) (g.part (g.atom (p 10 10 38 39) (g.spelled (k.Name (codes "c") false))) g.none)))) g.none))) (g.part (g.list (p 13 19 42 64) (g.part (g.atom (p 14 14 43 49) (g.spelled (k.Name (codes "import") false))) (g.part (g.list (p 15 18 50 63) (g.part (g.atom (p 16 16 51 57) (g.spelled (k.Name (codes "scheme") false))) (g.part (g.atom (p 17 17 58 62) (g.spelled (k.Name (codes "base") false))) g.none))) g.none))) (g.part (g.list (p 20 32 65 98) (g.part (g.atom (p 21 21 66 71) (g.spelled (k.Name (codes "begin") false))) (g.part (g.list (p 22 26 72 84) (g.part (g.atom (p 23 23 73 79) (g.spelled (k.Name (codes "define") false))) (g.part (g.atom (p 24 24 80 81) (g.spelled (k.Name (codes "a") false))) (g.part (g.atom (p 25 25 82 83) (g.spelled (k.Numeral (codes "1")))) g.none)))) (g.part (g.list (p 27 31 85 97) (g.part (g.atom (p 28 28 86 92) (g.spelled (k.Name (codes "define") false))) (g.part (g.atom (p 29 29 93 94) (g.spelled (k.Name (codes "b") false))) (g.part (g.atom (p 30 30 95 96) (g.spelled (k.Numeral (codes "2")))) g.none)))) g.none)))) g.none))))))) ∷ [])) ∷ []) ((Some (((g.list (p 0 33 0 99) (g.part (g.atom (p 1 1 1 15) (g.spelled (k.Name (codes "define-library") false))) (g.part (g.list (p 2 4 16 19) (g.part (g.atom (p 3 3 17 18) (g.spelled (k.Name (codes "l") false))) g.none)) (g.part (g.list (p 5 12 20 41) (g.part (g.atom (p 6 6 21 27) (g.spelled (k.Name (codes "export") false))) (g.part (g.list (p 7 11 28 40) (g.part (g.atom (p 8 8 29 35) (g.spelled (k.Name (codes "rename") false))) (g.part (g.atom (p 9 9 36 37) (g.spelled (k.Name (codes "b") false))) (g.part (g.atom (p 10 10 38 39) (g.spelled (k.Name (codes "c") false))) g.none)))) g.none))) (g.part (g.list (p 13 19 42 64) (g.part (g.atom (p 14 14 43 49) (g.spelled (k.Name (codes "import") false))) (g.part (g.list (p 15 18 50 63) (g.part (g.atom (p 16 16 51 57) (g.spelled (k.Name (codes "scheme") false))) (g.part (g.atom (p 17 17 58 62) (g.spelled (k.Name (codes "base") false))) g.none))) g.none))) (g.part (g.list (p 20 32 65 98) (g.part (g.atom (p 21 21 66 71) (g.spelled (k.Name (codes "begin") false))) (g.part (g.list (p 22 26 72 84) (g.part (g.atom (p 23 23 73 79) (g.spelled (k.Name (codes "define") false))) (g.part (g.atom (p 24 24 80 81) (g.spelled (k.Name (codes "a") false))) (g.part (g.atom (p 25 25 82 83) (g.spelled (k.Numeral (codes "1")))) g.none)))) (g.part (g.list (p 27 31 85 97) (g.part (g.atom (p 28 28 86 92) (g.spelled (k.Name (codes "define") false))) (g.part (g.atom (p 29 29 93 94) (g.spelled (k.Name (codes "b") false))) (g.part (g.atom (p 30 30 95 96) (g.spelled (k.Numeral (codes "2")))) g.none)))) g.none)))) g.none))))))) ∷ [])) ∷ []) ([]) ≡ (Some (d w.IsExport 0 0 (Some (o 0 0 5)) (w.AtBinder (o 0 2 2)) (w.AtBinder (o 0 3 2))))
unfolding base_names standard_libraries prelude encode_utf8
export-of-another = refl

pub another-number-of-parts : difference_rows ((Some (((g.list (p 0 4 0 10) (g.part (g.atom (p 1 1 1 5) (g.spelled (k.Name (codes "list") false))) (g.part (g.atom (p 2 2 6 7) (g.spelled (k.Numeral (codes "1")))) (g.part (g.atom (p 3 3 8 9) (g.spelled (k.Numeral (codes "2")))) g.none))))) ∷ [])) ∷ []) ((Some (((g.list (p 0 3 0 8) (g.part (g.atom (p 1 1 1 5) (g.spelled (k.Name (codes "list") false))) (g.part (g.atom (p 2 2 6 7) (g.spelled (k.Numeral (codes "1")))) g.none)))) ∷ [])) ∷ []) ([]) ≡ (Some (d w.IsStructure 0 0 None w.OfNothing w.OfNothing))
unfolding base_names standard_libraries prelude encode_utf8
another-number-of-parts = refl

pub another-constant : difference_rows ((Some (((g.list (p 0 4 0 12) (g.part (g.atom (p 1 1 1 7) (g.spelled (k.Name (codes "define") false))) (g.part (g.atom (p 2 2 8 9) (g.spelled (k.Name (codes "x") false))) (g.part (g.atom (p 3 3 10 11) (g.spelled (k.Numeral (codes "1")))) g.none))))) ∷ [])) ∷ []) ((Some (((g.list (p 0 4 0 12) (g.part (g.atom (p 1 1 1 7) (g.spelled (k.Name (codes "define") false))) (g.part (g.atom (p 2 2 8 9) (g.spelled (k.Name (codes "x") false))) (g.part (g.atom (p 3 3 10 11) (g.spelled (k.Numeral (codes "2")))) g.none))))) ∷ [])) ∷ []) ([]) ≡ (Some (d w.IsStructure 0 0 None w.OfNothing w.OfNothing))
unfolding base_names standard_libraries prelude encode_utf8
another-constant = refl

pub another-character : difference_rows ((Some (((g.atom (p 0 0 0 3) (g.spelled (k.Character 97)))) ∷ [])) ∷ []) ((Some (((g.atom (p 0 0 0 3) (g.spelled (k.Character 98)))) ∷ [])) ∷ []) ([]) ≡ (Some (d w.IsStructure 0 0 None w.OfNothing w.OfNothing))
unfolding base_names standard_libraries prelude encode_utf8
another-character = refl

pub units-exchanged : difference_rows ((Some (((g.list (p 0 12 0 43) (g.part (g.atom (p 1 1 1 15) (g.spelled (k.Name (codes "define-library") false))) (g.part (g.list (p 2 4 16 19) (g.part (g.atom (p 3 3 17 18) (g.spelled (k.Name (codes "a") false))) g.none)) (g.part (g.list (p 5 11 20 42) (g.part (g.atom (p 6 6 21 27) (g.spelled (k.Name (codes "import") false))) (g.part (g.list (p 7 10 28 41) (g.part (g.atom (p 8 8 29 35) (g.spelled (k.Name (codes "scheme") false))) (g.part (g.atom (p 9 9 36 40) (g.spelled (k.Name (codes "base") false))) g.none))) g.none))) g.none))))) ∷ ((g.list (p 13 25 44 87) (g.part (g.atom (p 14 14 45 59) (g.spelled (k.Name (codes "define-library") false))) (g.part (g.list (p 15 17 60 63) (g.part (g.atom (p 16 16 61 62) (g.spelled (k.Name (codes "b") false))) g.none)) (g.part (g.list (p 18 24 64 86) (g.part (g.atom (p 19 19 65 71) (g.spelled (k.Name (codes "import") false))) (g.part (g.list (p 20 23 72 85) (g.part (g.atom (p 21 21 73 79) (g.spelled (k.Name (codes "scheme") false))) (g.part (g.atom (p 22 22 80 84) (g.spelled (k.Name (codes "base") false))) g.none))) g.none))) g.none))))) ∷ [])) ∷ []) ((Some (((g.list (p 0 12 0 43) (g.part (g.atom (p 1 1 1 15) (g.spelled (k.Name (codes "define-library") false))) (g.part (g.list (p 2 4 16 19) (g.part (g.atom (p 3 3 17 18) (g.spelled (k.Name (codes "b") false))) g.none)) (g.part (g.list (p 5 11 20 42) (g.part (g.atom (p 6 6 21 27) (g.spelled (k.Name (codes "import") false))) (g.part (g.list (p 7 10 28 41) (g.part (g.atom (p 8 8 29 35) (g.spelled (k.Name (codes "scheme") false))) (g.part (g.atom (p 9 9 36 40) (g.spelled (k.Name (codes "base") false))) g.none))) g.none))) g.none))))) ∷ ((g.list (p 13 25 44 87) (g.part (g.atom (p 14 14 45 59) (g.spelled (k.Name (codes "define-library") false))) (g.part (g.list (p 15 17 60 63) (g.part (g.atom (p 16 16 61 62) (g.spelled (k.Name (codes "a") false))) g.none)) (g.part (g.list (p 18 24 64 86) (g.part (g.atom (p 19 19 65 71) (g.spelled (k.Name (codes "import") false))) (g.part (g.list (p 20 23 72 85) (g.part (g.atom (p 21 21 73 79) (g.spelled (k.Name (codes "scheme") false))) (g.part (g.atom (p 22 22 80 84) (g.spelled (k.Name (codes "base") false))) g.none))) g.none))) g.none))))) ∷ [])) ∷ []) ([]) ≡ (Some (d w.IsStructure 0 0 None w.OfNothing w.OfNothing))
unfolding base_names standard_libraries prelude encode_utf8
units-exchanged = refl

pub error-of-a-form : difference_rows ((Some (((g.list (p 0 4 0 12) (g.part (g.atom (p 1 1 1 7) (g.spelled (k.Name (codes "define") false))) (g.part (g.atom (p 2 2 8 9) (g.spelled (k.Name (codes "x") false))) (g.part (g.atom (p 3 3 10 11) (g.spelled (k.Numeral (codes "1")))) g.none))))) ∷ ((g.list (p 5 8 13 21) (g.part (g.atom (p 6 6 14 18) (g.spelled (k.Name (codes "list") false))) (g.part (g.atom (p 7 7 19 20) (g.spelled (k.Name (codes "x") false))) g.none)))) ∷ [])) ∷ []) ((Some (((g.list (p 0 4 0 12) (g.part (g.atom (p 1 1 1 7) (g.spelled (k.Name (codes "define") false))) (g.part (g.atom (p 2 2 8 9) (g.spelled (k.Name (codes "x") false))) (g.part (g.atom (p 3 3 10 11) (g.spelled (k.Numeral (codes "1")))) g.none))))) ∷ ((g.list (p 5 7 13 17) (g.part (g.atom (p 6 6 14 16) (g.spelled (k.Name (codes "if") false))) g.none))) ∷ [])) ∷ []) ([]) ≡ (Some (d w.IsBroken 0 1 None w.OfNothing w.OfNothing))
unfolding base_names standard_libraries prelude encode_utf8
error-of-a-form = refl

pub error-of-a-unit : difference_rows ((Some (((g.list (p 0 12 0 43) (g.part (g.atom (p 1 1 1 15) (g.spelled (k.Name (codes "define-library") false))) (g.part (g.list (p 2 4 16 19) (g.part (g.atom (p 3 3 17 18) (g.spelled (k.Name (codes "a") false))) g.none)) (g.part (g.list (p 5 11 20 42) (g.part (g.atom (p 6 6 21 27) (g.spelled (k.Name (codes "import") false))) (g.part (g.list (p 7 10 28 41) (g.part (g.atom (p 8 8 29 35) (g.spelled (k.Name (codes "scheme") false))) (g.part (g.atom (p 9 9 36 40) (g.spelled (k.Name (codes "base") false))) g.none))) g.none))) g.none))))) ∷ [])) ∷ []) ((Some (((g.list (p 0 11 0 33) (g.part (g.atom (p 1 1 1 15) (g.spelled (k.Name (codes "define-library") false))) (g.part (g.list (p 2 4 16 19) (g.part (g.atom (p 3 3 17 18) (g.spelled (k.Name (codes "a") false))) g.none)) (g.part (g.list (p 5 10 20 32) (g.part (g.atom (p 6 6 21 27) (g.spelled (k.Name (codes "import") false))) (g.part (g.list (p 7 9 28 31) (g.part (g.atom (p 8 8 29 30) (g.spelled (k.Name (codes "a") false))) g.none)) g.none))) g.none))))) ∷ [])) ∷ []) ([]) ≡ (Some (d w.IsBroken 0 0 None w.OfNothing w.OfNothing))
unfolding base_names standard_libraries prelude encode_utf8
error-of-a-unit = refl

pub error-in-both : difference_rows ((Some (((g.list (p 0 2 0 4) (g.part (g.atom (p 1 1 1 3) (g.spelled (k.Name (codes "if") false))) g.none))) ∷ [])) ∷ []) ((Some (((g.list (p 0 2 0 4) (g.part (g.atom (p 1 1 1 3) (g.spelled (k.Name (codes "if") false))) g.none))) ∷ [])) ∷ []) ([]) ≡ (Some (d w.IsBroken 0 0 None w.OfNothing w.OfNothing))
unfolding base_names standard_libraries prelude encode_utf8
error-in-both = refl

pub error-before : difference_rows ((Some (((g.list (p 0 4 0 12) (g.part (g.atom (p 1 1 1 7) (g.spelled (k.Name (codes "define") false))) (g.part (g.atom (p 2 2 8 9) (g.spelled (k.Name (codes "x") false))) (g.part (g.atom (p 3 3 10 11) (g.spelled (k.Numeral (codes "1")))) g.none))))) ∷ ((g.list (p 5 7 13 17) (g.part (g.atom (p 6 6 14 16) (g.spelled (k.Name (codes "if") false))) g.none))) ∷ [])) ∷ []) ((Some (((g.list (p 0 4 0 12) (g.part (g.atom (p 1 1 1 7) (g.spelled (k.Name (codes "define") false))) (g.part (g.atom (p 2 2 8 9) (g.spelled (k.Name (codes "x") false))) (g.part (g.atom (p 3 3 10 11) (g.spelled (k.Numeral (codes "1")))) g.none))))) ∷ ((g.list (p 5 7 13 19) (g.part (g.atom (p 6 6 14 18) (g.spelled (k.Name (codes "list") false))) g.none))) ∷ [])) ∷ []) ([]) ≡ (Some (d w.IsStructure 0 1 None w.OfNothing w.OfNothing))
unfolding base_names standard_libraries prelude encode_utf8
error-before = refl

pub another-unbound-name : difference_rows ((Some (((g.list (p 0 3 0 8) (g.part (g.atom (p 1 1 1 5) (g.spelled (k.Name (codes "list") false))) (g.part (g.atom (p 2 2 6 7) (g.spelled (k.Name (codes "a") false))) g.none)))) ∷ [])) ∷ []) ((Some (((g.list (p 0 3 0 8) (g.part (g.atom (p 1 1 1 5) (g.spelled (k.Name (codes "list") false))) (g.part (g.atom (p 2 2 6 7) (g.spelled (k.Name (codes "b") false))) g.none)))) ∷ [])) ∷ []) ([]) ≡ (Some (d w.IsShadowed 0 0 (Some (o 0 0 2)) (w.OfUnbound (codes "a")) (w.OfUnbound (codes "b"))))
unfolding base_names standard_libraries prelude encode_utf8
another-unbound-name = refl

pub a-renamed-unbound-name : difference_rows ((Some (((g.list (p 0 3 0 8) (g.part (g.atom (p 1 1 1 5) (g.spelled (k.Name (codes "list") false))) (g.part (g.atom (p 2 2 6 7) (g.spelled (k.Name (codes "a") false))) g.none)))) ∷ [])) ∷ []) ((Some (((g.list (p 0 3 0 8) (g.part (g.atom (p 1 1 1 5) (g.spelled (k.Name (codes "list") false))) (g.part (g.atom (p 2 2 6 7) (g.spelled (k.Name (codes "b") false))) g.none)))) ∷ [])) ∷ []) ((o 0 0 2) ∷ []) ≡ (Some (d w.IsCaptured 0 0 (Some (o 0 0 2)) (w.OfUnbound (codes "a")) (w.OfUnbound (codes "b"))))
unfolding base_names standard_libraries prelude encode_utf8
a-renamed-unbound-name = refl

pub standard-name-is-defined : difference_rows ((Some (((g.list (p 0 3 0 8) (g.part (g.atom (p 1 1 1 5) (g.spelled (k.Name (codes "list") false))) (g.part (g.atom (p 2 2 6 7) (g.spelled (k.Numeral (codes "1")))) g.none)))) ∷ ((g.list (p 4 8 9 21) (g.part (g.atom (p 5 5 10 16) (g.spelled (k.Name (codes "define") false))) (g.part (g.atom (p 6 6 17 18) (g.spelled (k.Name (codes "x") false))) (g.part (g.atom (p 7 7 19 20) (g.spelled (k.Numeral (codes "2")))) g.none))))) ∷ [])) ∷ []) ((Some (((g.list (p 0 3 0 8) (g.part (g.atom (p 1 1 1 5) (g.spelled (k.Name (codes "list") false))) (g.part (g.atom (p 2 2 6 7) (g.spelled (k.Numeral (codes "1")))) g.none)))) ∷ ((g.list (p 4 8 9 24) (g.part (g.atom (p 5 5 10 16) (g.spelled (k.Name (codes "define") false))) (g.part (g.atom (p 6 6 17 21) (g.spelled (k.Name (codes "list") false))) (g.part (g.atom (p 7 7 22 23) (g.spelled (k.Numeral (codes "2")))) g.none))))) ∷ [])) ∷ []) ((o 0 1 2) ∷ []) ≡ (Some (d w.IsShadowed 0 0 (Some (o 0 0 1)) (w.OfStandard (codes "list")) (w.AtBinder (o 0 1 2))))
unfolding base_names standard_libraries prelude encode_utf8
standard-name-is-defined = refl

pub local-macro-renamed : difference_rows ((Some (((g.list (p 0 21 0 48) (g.part (g.atom (p 1 1 1 11) (g.spelled (k.Name (codes "let-syntax") false))) (g.part (g.list (p 2 17 12 43) (g.part (g.list (p 3 16 13 42) (g.part (g.atom (p 4 4 14 15) (g.spelled (k.Name (codes "m") false))) (g.part (g.list (p 5 15 16 41) (g.part (g.atom (p 6 6 17 29) (g.spelled (k.Name (codes "syntax-rules") false))) (g.part (g.list (p 7 8 30 32) g.none) (g.part (g.list (p 9 14 33 40) (g.part (g.list (p 10 12 34 37) (g.part (g.atom (p 11 11 35 36) (g.spelled (k.Name (codes "_") false))) g.none)) (g.part (g.atom (p 13 13 38 39) (g.spelled (k.Numeral (codes "1")))) g.none))) g.none)))) g.none))) g.none)) (g.part (g.list (p 18 20 44 47) (g.part (g.atom (p 19 19 45 46) (g.spelled (k.Name (codes "m") false))) g.none)) g.none))))) ∷ [])) ∷ []) ((Some (((g.list (p 0 21 0 48) (g.part (g.atom (p 1 1 1 11) (g.spelled (k.Name (codes "let-syntax") false))) (g.part (g.list (p 2 17 12 43) (g.part (g.list (p 3 16 13 42) (g.part (g.atom (p 4 4 14 15) (g.spelled (k.Name (codes "n") false))) (g.part (g.list (p 5 15 16 41) (g.part (g.atom (p 6 6 17 29) (g.spelled (k.Name (codes "syntax-rules") false))) (g.part (g.list (p 7 8 30 32) g.none) (g.part (g.list (p 9 14 33 40) (g.part (g.list (p 10 12 34 37) (g.part (g.atom (p 11 11 35 36) (g.spelled (k.Name (codes "_") false))) g.none)) (g.part (g.atom (p 13 13 38 39) (g.spelled (k.Numeral (codes "1")))) g.none))) g.none)))) g.none))) g.none)) (g.part (g.list (p 18 20 44 47) (g.part (g.atom (p 19 19 45 46) (g.spelled (k.Name (codes "n") false))) g.none)) g.none))))) ∷ [])) ∷ []) ((o 0 0 4) ∷ []) ≡ None
unfolding base_names standard_libraries prelude encode_utf8
local-macro-renamed = refl

pub local-in-a-template : difference_rows ((Some (((g.list (p 0 31 0 72) (g.part (g.atom (p 1 1 1 7) (g.spelled (k.Name (codes "lambda") false))) (g.part (g.list (p 2 4 8 11) (g.part (g.atom (p 3 3 9 10) (g.spelled (k.Name (codes "x") false))) g.none)) (g.part (g.list (p 5 30 12 71) (g.part (g.atom (p 6 6 13 23) (g.spelled (k.Name (codes "let-syntax") false))) (g.part (g.list (p 7 22 24 55) (g.part (g.list (p 8 21 25 54) (g.part (g.atom (p 9 9 26 27) (g.spelled (k.Name (codes "m") false))) (g.part (g.list (p 10 20 28 53) (g.part (g.atom (p 11 11 29 41) (g.spelled (k.Name (codes "syntax-rules") false))) (g.part (g.list (p 12 13 42 44) g.none) (g.part (g.list (p 14 19 45 52) (g.part (g.list (p 15 17 46 49) (g.part (g.atom (p 16 16 47 48) (g.spelled (k.Name (codes "_") false))) g.none)) (g.part (g.atom (p 18 18 50 51) (g.spelled (k.Name (codes "x") false))) g.none))) g.none)))) g.none))) g.none)) (g.part (g.list (p 23 29 56 70) (g.part (g.atom (p 24 24 57 63) (g.spelled (k.Name (codes "lambda") false))) (g.part (g.list (p 25 27 64 67) (g.part (g.atom (p 26 26 65 66) (g.spelled (k.Name (codes "y") false))) g.none)) (g.part (g.atom (p 28 28 68 69) (g.spelled (k.Name (codes "y") false))) g.none)))) g.none)))) g.none))))) ∷ [])) ∷ []) ((Some (((g.list (p 0 31 0 72) (g.part (g.atom (p 1 1 1 7) (g.spelled (k.Name (codes "lambda") false))) (g.part (g.list (p 2 4 8 11) (g.part (g.atom (p 3 3 9 10) (g.spelled (k.Name (codes "x") false))) g.none)) (g.part (g.list (p 5 30 12 71) (g.part (g.atom (p 6 6 13 23) (g.spelled (k.Name (codes "let-syntax") false))) (g.part (g.list (p 7 22 24 55) (g.part (g.list (p 8 21 25 54) (g.part (g.atom (p 9 9 26 27) (g.spelled (k.Name (codes "m") false))) (g.part (g.list (p 10 20 28 53) (g.part (g.atom (p 11 11 29 41) (g.spelled (k.Name (codes "syntax-rules") false))) (g.part (g.list (p 12 13 42 44) g.none) (g.part (g.list (p 14 19 45 52) (g.part (g.list (p 15 17 46 49) (g.part (g.atom (p 16 16 47 48) (g.spelled (k.Name (codes "_") false))) g.none)) (g.part (g.atom (p 18 18 50 51) (g.spelled (k.Name (codes "z") false))) g.none))) g.none)))) g.none))) g.none)) (g.part (g.list (p 23 29 56 70) (g.part (g.atom (p 24 24 57 63) (g.spelled (k.Name (codes "lambda") false))) (g.part (g.list (p 25 27 64 67) (g.part (g.atom (p 26 26 65 66) (g.spelled (k.Name (codes "y") false))) g.none)) (g.part (g.atom (p 28 28 68 69) (g.spelled (k.Name (codes "y") false))) g.none)))) g.none)))) g.none))))) ∷ [])) ∷ []) ([]) ≡ (Some (d w.IsTemplate 0 0 (Some (o 0 0 18)) (w.AtBinder (o 0 0 3)) (w.OfUnbound (codes "z"))))
unfolding base_names standard_libraries prelude encode_utf8
local-in-a-template = refl

pub macro-imported-under-another-name : difference_rows ((Some (((g.list (p 0 38 0 115) (g.part (g.atom (p 1 1 1 15) (g.spelled (k.Name (codes "define-library") false))) (g.part (g.list (p 2 4 16 19) (g.part (g.atom (p 3 3 17 18) (g.spelled (k.Name (codes "l") false))) g.none)) (g.part (g.list (p 5 8 20 30) (g.part (g.atom (p 6 6 21 27) (g.spelled (k.Name (codes "export") false))) (g.part (g.atom (p 7 7 28 29) (g.spelled (k.Name (codes "m") false))) g.none))) (g.part (g.list (p 9 15 31 53) (g.part (g.atom (p 10 10 32 38) (g.spelled (k.Name (codes "import") false))) (g.part (g.list (p 11 14 39 52) (g.part (g.atom (p 12 12 40 46) (g.spelled (k.Name (codes "scheme") false))) (g.part (g.atom (p 13 13 47 51) (g.spelled (k.Name (codes "base") false))) g.none))) g.none))) (g.part (g.list (p 16 37 54 114) (g.part (g.atom (p 17 17 55 60) (g.spelled (k.Name (codes "begin") false))) (g.part (g.list (p 18 36 61 113) (g.part (g.atom (p 19 19 62 75) (g.spelled (k.Name (codes "define-syntax") false))) (g.part (g.atom (p 20 20 76 77) (g.spelled (k.Name (codes "m") false))) (g.part (g.list (p 21 35 78 112) (g.part (g.atom (p 22 22 79 91) (g.spelled (k.Name (codes "syntax-rules") false))) (g.part (g.list (p 23 24 92 94) g.none) (g.part (g.list (p 25 34 95 111) (g.part (g.list (p 26 29 96 101) (g.part (g.atom (p 27 27 97 98) (g.spelled (k.Name (codes "_") false))) (g.part (g.atom (p 28 28 99 100) (g.spelled (k.Name (codes "a") false))) g.none))) (g.part (g.list (p 30 33 102 110) (g.part (g.atom (p 31 31 103 107) (g.spelled (k.Name (codes "list") false))) (g.part (g.atom (p 32 32 108 109) (g.spelled (k.Name (codes "a") false))) g.none))) g.none))) g.none)))) g.none)))) g.none))) g.none))))))) ∷ [])) ∷ (Some (((g.list (p 0 9 0 26) (g.part (g.atom (p 1 1 1 7) (g.spelled (k.Name (codes "import") false))) (g.part (g.list (p 2 5 8 21) (g.part (g.atom (p 3 3 9 15) (g.spelled (k.Name (codes "scheme") false))) (g.part (g.atom (p 4 4 16 20) (g.spelled (k.Name (codes "base") false))) g.none))) (g.part (g.list (p 6 8 22 25) (g.part (g.atom (p 7 7 23 24) (g.spelled (k.Name (codes "l") false))) g.none)) g.none))))) ∷ ((g.list (p 10 13 27 32) (g.part (g.atom (p 11 11 28 29) (g.spelled (k.Name (codes "m") false))) (g.part (g.atom (p 12 12 30 31) (g.spelled (k.Numeral (codes "1")))) g.none)))) ∷ [])) ∷ []) ((Some (((g.list (p 0 38 0 115) (g.part (g.atom (p 1 1 1 15) (g.spelled (k.Name (codes "define-library") false))) (g.part (g.list (p 2 4 16 19) (g.part (g.atom (p 3 3 17 18) (g.spelled (k.Name (codes "l") false))) g.none)) (g.part (g.list (p 5 8 20 30) (g.part (g.atom (p 6 6 21 27) (g.spelled (k.Name (codes "export") false))) (g.part (g.atom (p 7 7 28 29) (g.spelled (k.Name (codes "m") false))) g.none))) (g.part (g.list (p 9 15 31 53) (g.part (g.atom (p 10 10 32 38) (g.spelled (k.Name (codes "import") false))) (g.part (g.list (p 11 14 39 52) (g.part (g.atom (p 12 12 40 46) (g.spelled (k.Name (codes "scheme") false))) (g.part (g.atom (p 13 13 47 51) (g.spelled (k.Name (codes "base") false))) g.none))) g.none))) (g.part (g.list (p 16 37 54 114) (g.part (g.atom (p 17 17 55 60) (g.spelled (k.Name (codes "begin") false))) (g.part (g.list (p 18 36 61 113) (g.part (g.atom (p 19 19 62 75) (g.spelled (k.Name (codes "define-syntax") false))) (g.part (g.atom (p 20 20 76 77) (g.spelled (k.Name (codes "m") false))) (g.part (g.list (p 21 35 78 112) (g.part (g.atom (p 22 22 79 91) (g.spelled (k.Name (codes "syntax-rules") false))) (g.part (g.list (p 23 24 92 94) g.none) (g.part (g.list (p 25 34 95 111) (g.part (g.list (p 26 29 96 101) (g.part (g.atom (p 27 27 97 98) (g.spelled (k.Name (codes "_") false))) (g.part (g.atom (p 28 28 99 100) (g.spelled (k.Name (codes "a") false))) g.none))) (g.part (g.list (p 30 33 102 110) (g.part (g.atom (p 31 31 103 107) (g.spelled (k.Name (codes "list") false))) (g.part (g.atom (p 32 32 108 109) (g.spelled (k.Name (codes "a") false))) g.none))) g.none))) g.none)))) g.none)))) g.none))) g.none))))))) ∷ [])) ∷ (Some (((g.list (p 0 16 0 41) (g.part (g.atom (p 1 1 1 7) (g.spelled (k.Name (codes "import") false))) (g.part (g.list (p 2 5 8 21) (g.part (g.atom (p 3 3 9 15) (g.spelled (k.Name (codes "scheme") false))) (g.part (g.atom (p 4 4 16 20) (g.spelled (k.Name (codes "base") false))) g.none))) (g.part (g.list (p 6 15 22 40) (g.part (g.atom (p 7 7 23 29) (g.spelled (k.Name (codes "rename") false))) (g.part (g.list (p 8 10 30 33) (g.part (g.atom (p 9 9 31 32) (g.spelled (k.Name (codes "l") false))) g.none)) (g.part (g.list (p 11 14 34 39) (g.part (g.atom (p 12 12 35 36) (g.spelled (k.Name (codes "m") false))) (g.part (g.atom (p 13 13 37 38) (g.spelled (k.Name (codes "k") false))) g.none))) g.none)))) g.none))))) ∷ ((g.list (p 17 20 42 47) (g.part (g.atom (p 18 18 43 44) (g.spelled (k.Name (codes "k") false))) (g.part (g.atom (p 19 19 45 46) (g.spelled (k.Numeral (codes "1")))) g.none)))) ∷ [])) ∷ []) ([]) ≡ None
unfolding base_names standard_libraries prelude encode_utf8
macro-imported-under-another-name = refl

pub exported-macro-inserts-another : difference_rows ((Some (((g.list (p 0 38 0 115) (g.part (g.atom (p 1 1 1 15) (g.spelled (k.Name (codes "define-library") false))) (g.part (g.list (p 2 4 16 19) (g.part (g.atom (p 3 3 17 18) (g.spelled (k.Name (codes "l") false))) g.none)) (g.part (g.list (p 5 8 20 30) (g.part (g.atom (p 6 6 21 27) (g.spelled (k.Name (codes "export") false))) (g.part (g.atom (p 7 7 28 29) (g.spelled (k.Name (codes "m") false))) g.none))) (g.part (g.list (p 9 15 31 53) (g.part (g.atom (p 10 10 32 38) (g.spelled (k.Name (codes "import") false))) (g.part (g.list (p 11 14 39 52) (g.part (g.atom (p 12 12 40 46) (g.spelled (k.Name (codes "scheme") false))) (g.part (g.atom (p 13 13 47 51) (g.spelled (k.Name (codes "base") false))) g.none))) g.none))) (g.part (g.list (p 16 37 54 114) (g.part (g.atom (p 17 17 55 60) (g.spelled (k.Name (codes "begin") false))) (g.part (g.list (p 18 36 61 113) (g.part (g.atom (p 19 19 62 75) (g.spelled (k.Name (codes "define-syntax") false))) (g.part (g.atom (p 20 20 76 77) (g.spelled (k.Name (codes "m") false))) (g.part (g.list (p 21 35 78 112) (g.part (g.atom (p 22 22 79 91) (g.spelled (k.Name (codes "syntax-rules") false))) (g.part (g.list (p 23 24 92 94) g.none) (g.part (g.list (p 25 34 95 111) (g.part (g.list (p 26 29 96 101) (g.part (g.atom (p 27 27 97 98) (g.spelled (k.Name (codes "_") false))) (g.part (g.atom (p 28 28 99 100) (g.spelled (k.Name (codes "a") false))) g.none))) (g.part (g.list (p 30 33 102 110) (g.part (g.atom (p 31 31 103 107) (g.spelled (k.Name (codes "list") false))) (g.part (g.atom (p 32 32 108 109) (g.spelled (k.Name (codes "a") false))) g.none))) g.none))) g.none)))) g.none)))) g.none))) g.none))))))) ∷ [])) ∷ (Some (((g.list (p 0 9 0 26) (g.part (g.atom (p 1 1 1 7) (g.spelled (k.Name (codes "import") false))) (g.part (g.list (p 2 5 8 21) (g.part (g.atom (p 3 3 9 15) (g.spelled (k.Name (codes "scheme") false))) (g.part (g.atom (p 4 4 16 20) (g.spelled (k.Name (codes "base") false))) g.none))) (g.part (g.list (p 6 8 22 25) (g.part (g.atom (p 7 7 23 24) (g.spelled (k.Name (codes "l") false))) g.none)) g.none))))) ∷ ((g.list (p 10 13 27 32) (g.part (g.atom (p 11 11 28 29) (g.spelled (k.Name (codes "m") false))) (g.part (g.atom (p 12 12 30 31) (g.spelled (k.Numeral (codes "1")))) g.none)))) ∷ [])) ∷ []) ((Some (((g.list (p 0 38 0 117) (g.part (g.atom (p 1 1 1 15) (g.spelled (k.Name (codes "define-library") false))) (g.part (g.list (p 2 4 16 19) (g.part (g.atom (p 3 3 17 18) (g.spelled (k.Name (codes "l") false))) g.none)) (g.part (g.list (p 5 8 20 30) (g.part (g.atom (p 6 6 21 27) (g.spelled (k.Name (codes "export") false))) (g.part (g.atom (p 7 7 28 29) (g.spelled (k.Name (codes "m") false))) g.none))) (g.part (g.list (p 9 15 31 53) (g.part (g.atom (p 10 10 32 38) (g.spelled (k.Name (codes "import") false))) (g.part (g.list (p 11 14 39 52) (g.part (g.atom (p 12 12 40 46) (g.spelled (k.Name (codes "scheme") false))) (g.part (g.atom (p 13 13 47 51) (g.spelled (k.Name (codes "base") false))) g.none))) g.none))) (g.part (g.list (p 16 37 54 116) (g.part (g.atom (p 17 17 55 60) (g.spelled (k.Name (codes "begin") false))) (g.part (g.list (p 18 36 61 115) (g.part (g.atom (p 19 19 62 75) (g.spelled (k.Name (codes "define-syntax") false))) (g.part (g.atom (p 20 20 76 77) (g.spelled (k.Name (codes "m") false))) (g.part (g.list (p 21 35 78 114) (g.part (g.atom (p 22 22 79 91) (g.spelled (k.Name (codes "syntax-rules") false))) (g.part (g.list (p 23 24 92 94) g.none) (g.part (g.list (p 25 34 95 113) (g.part (g.list (p 26 29 96 101) (g.part (g.atom (p 27 27 97 98) (g.spelled (k.Name (codes "_") false))) (g.part (g.atom (p 28 28 99 100) (g.spelled (k.Name (codes "a") false))) g.none))) (g.part (g.list (p 30 33 102 112) (g.part (g.atom (p 31 31 103 109) (g.spelled (k.Name (codes "vector") false))) (g.part (g.atom (p 32 32 110 111) (g.spelled (k.Name (codes "a") false))) g.none))) g.none))) g.none)))) g.none)))) g.none))) g.none))))))) ∷ [])) ∷ (Some (((g.list (p 0 9 0 26) (g.part (g.atom (p 1 1 1 7) (g.spelled (k.Name (codes "import") false))) (g.part (g.list (p 2 5 8 21) (g.part (g.atom (p 3 3 9 15) (g.spelled (k.Name (codes "scheme") false))) (g.part (g.atom (p 4 4 16 20) (g.spelled (k.Name (codes "base") false))) g.none))) (g.part (g.list (p 6 8 22 25) (g.part (g.atom (p 7 7 23 24) (g.spelled (k.Name (codes "l") false))) g.none)) g.none))))) ∷ ((g.list (p 10 13 27 32) (g.part (g.atom (p 11 11 28 29) (g.spelled (k.Name (codes "m") false))) (g.part (g.atom (p 12 12 30 31) (g.spelled (k.Numeral (codes "1")))) g.none)))) ∷ [])) ∷ []) ([]) ≡ (Some (d w.IsShadowed 1 1 (Some (o 0 2 13)) (w.OfStandard (codes "list")) (w.OfStandard (codes "vector"))))
unfolding base_names standard_libraries prelude encode_utf8
exported-macro-inserts-another = refl

pub another-definition : difference_rows ((Some (((g.list (p 0 4 0 12) (g.part (g.atom (p 1 1 1 7) (g.spelled (k.Name (codes "define") false))) (g.part (g.atom (p 2 2 8 9) (g.spelled (k.Name (codes "a") false))) (g.part (g.atom (p 3 3 10 11) (g.spelled (k.Numeral (codes "1")))) g.none))))) ∷ ((g.list (p 5 9 13 25) (g.part (g.atom (p 6 6 14 20) (g.spelled (k.Name (codes "define") false))) (g.part (g.atom (p 7 7 21 22) (g.spelled (k.Name (codes "b") false))) (g.part (g.atom (p 8 8 23 24) (g.spelled (k.Name (codes "a") false))) g.none))))) ∷ [])) ∷ []) ((Some (((g.list (p 0 4 0 12) (g.part (g.atom (p 1 1 1 7) (g.spelled (k.Name (codes "define") false))) (g.part (g.atom (p 2 2 8 9) (g.spelled (k.Name (codes "a") false))) (g.part (g.atom (p 3 3 10 11) (g.spelled (k.Numeral (codes "1")))) g.none))))) ∷ ((g.list (p 5 9 13 25) (g.part (g.atom (p 6 6 14 20) (g.spelled (k.Name (codes "define") false))) (g.part (g.atom (p 7 7 21 22) (g.spelled (k.Name (codes "b") false))) (g.part (g.atom (p 8 8 23 24) (g.spelled (k.Name (codes "b") false))) g.none))))) ∷ [])) ∷ []) ([]) ≡ (Some (d w.IsShadowed 0 1 (Some (o 0 1 3)) (w.AtBinder (o 0 0 2)) (w.AtBinder (o 0 1 2))))
unfolding base_names standard_libraries prelude encode_utf8
another-definition = refl

pub inserted-definitions : difference_rows ((Some (((g.list (p 0 18 0 54) (g.part (g.atom (p 1 1 1 14) (g.spelled (k.Name (codes "define-syntax") false))) (g.part (g.atom (p 2 2 15 16) (g.spelled (k.Name (codes "d") false))) (g.part (g.list (p 3 17 17 53) (g.part (g.atom (p 4 4 18 30) (g.spelled (k.Name (codes "syntax-rules") false))) (g.part (g.list (p 5 6 31 33) g.none) (g.part (g.list (p 7 16 34 52) (g.part (g.list (p 8 10 35 38) (g.part (g.atom (p 9 9 36 37) (g.spelled (k.Name (codes "_") false))) g.none)) (g.part (g.list (p 11 15 39 51) (g.part (g.atom (p 12 12 40 46) (g.spelled (k.Name (codes "define") false))) (g.part (g.atom (p 13 13 47 48) (g.spelled (k.Name (codes "t") false))) (g.part (g.atom (p 14 14 49 50) (g.spelled (k.Numeral (codes "1")))) g.none)))) g.none))) g.none)))) g.none))))) ∷ ((g.list (p 19 21 55 58) (g.part (g.atom (p 20 20 56 57) (g.spelled (k.Name (codes "d") false))) g.none))) ∷ ((g.list (p 22 24 59 62) (g.part (g.atom (p 23 23 60 61) (g.spelled (k.Name (codes "d") false))) g.none))) ∷ [])) ∷ []) ((Some (((g.list (p 0 18 0 54) (g.part (g.atom (p 1 1 1 14) (g.spelled (k.Name (codes "define-syntax") false))) (g.part (g.atom (p 2 2 15 16) (g.spelled (k.Name (codes "d") false))) (g.part (g.list (p 3 17 17 53) (g.part (g.atom (p 4 4 18 30) (g.spelled (k.Name (codes "syntax-rules") false))) (g.part (g.list (p 5 6 31 33) g.none) (g.part (g.list (p 7 16 34 52) (g.part (g.list (p 8 10 35 38) (g.part (g.atom (p 9 9 36 37) (g.spelled (k.Name (codes "_") false))) g.none)) (g.part (g.list (p 11 15 39 51) (g.part (g.atom (p 12 12 40 46) (g.spelled (k.Name (codes "define") false))) (g.part (g.atom (p 13 13 47 48) (g.spelled (k.Name (codes "u") false))) (g.part (g.atom (p 14 14 49 50) (g.spelled (k.Numeral (codes "1")))) g.none)))) g.none))) g.none)))) g.none))))) ∷ ((g.list (p 19 21 55 58) (g.part (g.atom (p 20 20 56 57) (g.spelled (k.Name (codes "d") false))) g.none))) ∷ ((g.list (p 22 24 59 62) (g.part (g.atom (p 23 23 60 61) (g.spelled (k.Name (codes "d") false))) g.none))) ∷ [])) ∷ []) ((o 0 0 13) ∷ []) ≡ None
unfolding base_names standard_libraries prelude encode_utf8
inserted-definitions = refl

pub inserted-definition-of-no-use : difference_rows ((Some (((g.list (p 0 18 0 54) (g.part (g.atom (p 1 1 1 14) (g.spelled (k.Name (codes "define-syntax") false))) (g.part (g.atom (p 2 2 15 16) (g.spelled (k.Name (codes "d") false))) (g.part (g.list (p 3 17 17 53) (g.part (g.atom (p 4 4 18 30) (g.spelled (k.Name (codes "syntax-rules") false))) (g.part (g.list (p 5 6 31 33) g.none) (g.part (g.list (p 7 16 34 52) (g.part (g.list (p 8 10 35 38) (g.part (g.atom (p 9 9 36 37) (g.spelled (k.Name (codes "_") false))) g.none)) (g.part (g.list (p 11 15 39 51) (g.part (g.atom (p 12 12 40 46) (g.spelled (k.Name (codes "define") false))) (g.part (g.atom (p 13 13 47 48) (g.spelled (k.Name (codes "t") false))) (g.part (g.atom (p 14 14 49 50) (g.spelled (k.Numeral (codes "1")))) g.none)))) g.none))) g.none)))) g.none))))) ∷ [])) ∷ []) ((Some (((g.list (p 0 18 0 54) (g.part (g.atom (p 1 1 1 14) (g.spelled (k.Name (codes "define-syntax") false))) (g.part (g.atom (p 2 2 15 16) (g.spelled (k.Name (codes "d") false))) (g.part (g.list (p 3 17 17 53) (g.part (g.atom (p 4 4 18 30) (g.spelled (k.Name (codes "syntax-rules") false))) (g.part (g.list (p 5 6 31 33) g.none) (g.part (g.list (p 7 16 34 52) (g.part (g.list (p 8 10 35 38) (g.part (g.atom (p 9 9 36 37) (g.spelled (k.Name (codes "_") false))) g.none)) (g.part (g.list (p 11 15 39 51) (g.part (g.atom (p 12 12 40 46) (g.spelled (k.Name (codes "define") false))) (g.part (g.atom (p 13 13 47 48) (g.spelled (k.Name (codes "u") false))) (g.part (g.atom (p 14 14 49 50) (g.spelled (k.Numeral (codes "1")))) g.none)))) g.none))) g.none)))) g.none))))) ∷ [])) ∷ []) ((o 0 0 13) ∷ []) ≡ (Some (d w.IsTemplate 0 0 (Some (o 0 0 13)) (w.OfUnbound (codes "t")) (w.OfUnbound (codes "u"))))
unfolding base_names standard_libraries prelude encode_utf8
inserted-definition-of-no-use = refl

pub another-local : difference_rows ((Some (((g.list (p 0 11 0 25) (g.part (g.atom (p 1 1 1 7) (g.spelled (k.Name (codes "lambda") false))) (g.part (g.list (p 2 5 8 13) (g.part (g.atom (p 3 3 9 10) (g.spelled (k.Name (codes "x") false))) (g.part (g.atom (p 4 4 11 12) (g.spelled (k.Name (codes "y") false))) g.none))) (g.part (g.list (p 6 10 14 24) (g.part (g.atom (p 7 7 15 19) (g.spelled (k.Name (codes "list") false))) (g.part (g.atom (p 8 8 20 21) (g.spelled (k.Name (codes "x") false))) (g.part (g.atom (p 9 9 22 23) (g.spelled (k.Name (codes "y") false))) g.none)))) g.none))))) ∷ [])) ∷ []) ((Some (((g.list (p 0 11 0 25) (g.part (g.atom (p 1 1 1 7) (g.spelled (k.Name (codes "lambda") false))) (g.part (g.list (p 2 5 8 13) (g.part (g.atom (p 3 3 9 10) (g.spelled (k.Name (codes "x") false))) (g.part (g.atom (p 4 4 11 12) (g.spelled (k.Name (codes "y") false))) g.none))) (g.part (g.list (p 6 10 14 24) (g.part (g.atom (p 7 7 15 19) (g.spelled (k.Name (codes "list") false))) (g.part (g.atom (p 8 8 20 21) (g.spelled (k.Name (codes "y") false))) (g.part (g.atom (p 9 9 22 23) (g.spelled (k.Name (codes "x") false))) g.none)))) g.none))))) ∷ [])) ∷ []) ([]) ≡ (Some (d w.IsShadowed 0 0 (Some (o 0 0 8)) (w.AtBinder (o 0 0 3)) (w.AtBinder (o 0 0 4))))
unfolding base_names standard_libraries prelude encode_utf8
another-local = refl

pub locals-exchange-their-names : difference_rows ((Some (((g.list (p 0 11 0 25) (g.part (g.atom (p 1 1 1 7) (g.spelled (k.Name (codes "lambda") false))) (g.part (g.list (p 2 5 8 13) (g.part (g.atom (p 3 3 9 10) (g.spelled (k.Name (codes "x") false))) (g.part (g.atom (p 4 4 11 12) (g.spelled (k.Name (codes "y") false))) g.none))) (g.part (g.list (p 6 10 14 24) (g.part (g.atom (p 7 7 15 19) (g.spelled (k.Name (codes "list") false))) (g.part (g.atom (p 8 8 20 21) (g.spelled (k.Name (codes "x") false))) (g.part (g.atom (p 9 9 22 23) (g.spelled (k.Name (codes "y") false))) g.none)))) g.none))))) ∷ [])) ∷ []) ((Some (((g.list (p 0 11 0 25) (g.part (g.atom (p 1 1 1 7) (g.spelled (k.Name (codes "lambda") false))) (g.part (g.list (p 2 5 8 13) (g.part (g.atom (p 3 3 9 10) (g.spelled (k.Name (codes "y") false))) (g.part (g.atom (p 4 4 11 12) (g.spelled (k.Name (codes "x") false))) g.none))) (g.part (g.list (p 6 10 14 24) (g.part (g.atom (p 7 7 15 19) (g.spelled (k.Name (codes "list") false))) (g.part (g.atom (p 8 8 20 21) (g.spelled (k.Name (codes "y") false))) (g.part (g.atom (p 9 9 22 23) (g.spelled (k.Name (codes "x") false))) g.none)))) g.none))))) ∷ [])) ∷ []) ((o 0 0 3) ∷ (o 0 0 4) ∷ (o 0 0 8) ∷ (o 0 0 9) ∷ []) ≡ None
unfolding base_names standard_libraries prelude encode_utf8
locals-exchange-their-names = refl

pub body-definitions-exchange-their-names : difference_rows ((Some (((g.list (p 0 21 0 52) (g.part (g.atom (p 1 1 1 7) (g.spelled (k.Name (codes "define") false))) (g.part (g.list (p 2 4 8 11) (g.part (g.atom (p 3 3 9 10) (g.spelled (k.Name (codes "f") false))) g.none)) (g.part (g.list (p 5 14 12 36) (g.part (g.atom (p 6 6 13 19) (g.spelled (k.Name (codes "define") false))) (g.part (g.atom (p 7 7 20 21) (g.spelled (k.Name (codes "a") false))) (g.part (g.list (p 8 13 22 35) (g.part (g.atom (p 9 9 23 29) (g.spelled (k.Name (codes "lambda") false))) (g.part (g.list (p 10 11 30 32) g.none) (g.part (g.atom (p 12 12 33 34) (g.spelled (k.Name (codes "b") false))) g.none)))) g.none)))) (g.part (g.list (p 15 19 37 49) (g.part (g.atom (p 16 16 38 44) (g.spelled (k.Name (codes "define") false))) (g.part (g.atom (p 17 17 45 46) (g.spelled (k.Name (codes "b") false))) (g.part (g.atom (p 18 18 47 48) (g.spelled (k.Numeral (codes "1")))) g.none)))) (g.part (g.atom (p 20 20 50 51) (g.spelled (k.Name (codes "a") false))) g.none))))))) ∷ [])) ∷ []) ((Some (((g.list (p 0 21 0 52) (g.part (g.atom (p 1 1 1 7) (g.spelled (k.Name (codes "define") false))) (g.part (g.list (p 2 4 8 11) (g.part (g.atom (p 3 3 9 10) (g.spelled (k.Name (codes "f") false))) g.none)) (g.part (g.list (p 5 14 12 36) (g.part (g.atom (p 6 6 13 19) (g.spelled (k.Name (codes "define") false))) (g.part (g.atom (p 7 7 20 21) (g.spelled (k.Name (codes "b") false))) (g.part (g.list (p 8 13 22 35) (g.part (g.atom (p 9 9 23 29) (g.spelled (k.Name (codes "lambda") false))) (g.part (g.list (p 10 11 30 32) g.none) (g.part (g.atom (p 12 12 33 34) (g.spelled (k.Name (codes "a") false))) g.none)))) g.none)))) (g.part (g.list (p 15 19 37 49) (g.part (g.atom (p 16 16 38 44) (g.spelled (k.Name (codes "define") false))) (g.part (g.atom (p 17 17 45 46) (g.spelled (k.Name (codes "a") false))) (g.part (g.atom (p 18 18 47 48) (g.spelled (k.Numeral (codes "1")))) g.none)))) (g.part (g.atom (p 20 20 50 51) (g.spelled (k.Name (codes "b") false))) g.none))))))) ∷ [])) ∷ []) ([]) ≡ None
unfolding base_names standard_libraries prelude encode_utf8
body-definitions-exchange-their-names = refl

pub quasiquoted-symbol : difference_rows ((Some (((g.list (p 0 4 0 12) (g.part (g.atom (p 1 1 1 7) (g.spelled (k.Name (codes "define") false))) (g.part (g.atom (p 2 2 8 9) (g.spelled (k.Name (codes "x") false))) (g.part (g.atom (p 3 3 10 11) (g.spelled (k.Numeral (codes "1")))) g.none))))) ∷ ((g.list (p 5 10 13 20) (g.part (g.atom (p 5 5 13 14) (g.implied k.Quasi)) (g.part (g.list (p 6 10 14 20) (g.part (g.atom (p 7 7 15 16) (g.spelled (k.Name (codes "a") false))) (g.part (g.list (p 8 9 17 19) (g.part (g.atom (p 8 8 17 18) (g.implied k.Unquote)) (g.part (g.atom (p 9 9 18 19) (g.spelled (k.Name (codes "x") false))) g.none))) g.none))) g.none)))) ∷ [])) ∷ []) ((Some (((g.list (p 0 4 0 12) (g.part (g.atom (p 1 1 1 7) (g.spelled (k.Name (codes "define") false))) (g.part (g.atom (p 2 2 8 9) (g.spelled (k.Name (codes "x") false))) (g.part (g.atom (p 3 3 10 11) (g.spelled (k.Numeral (codes "1")))) g.none))))) ∷ ((g.list (p 5 10 13 20) (g.part (g.atom (p 5 5 13 14) (g.implied k.Quasi)) (g.part (g.list (p 6 10 14 20) (g.part (g.atom (p 7 7 15 16) (g.spelled (k.Name (codes "b") false))) (g.part (g.list (p 8 9 17 19) (g.part (g.atom (p 8 8 17 18) (g.implied k.Unquote)) (g.part (g.atom (p 9 9 18 19) (g.spelled (k.Name (codes "x") false))) g.none))) g.none))) g.none)))) ∷ [])) ∷ []) ([]) ≡ (Some (d w.IsQuoted 0 1 (Some (o 0 1 2)) (w.OfSymbol (codes "a")) (w.OfSymbol (codes "b"))))
unfolding base_names standard_libraries prelude encode_utf8
quasiquoted-symbol = refl

pub quoted-list-is-shorter : difference_rows ((Some (((g.list (p 0 4 0 6) (g.part (g.atom (p 0 0 0 1) (g.implied k.Quote)) (g.part (g.list (p 1 4 1 6) (g.part (g.atom (p 2 2 2 3) (g.spelled (k.Name (codes "a") false))) (g.part (g.atom (p 3 3 4 5) (g.spelled (k.Name (codes "b") false))) g.none))) g.none)))) ∷ [])) ∷ []) ((Some (((g.list (p 0 3 0 4) (g.part (g.atom (p 0 0 0 1) (g.implied k.Quote)) (g.part (g.list (p 1 3 1 4) (g.part (g.atom (p 2 2 2 3) (g.spelled (k.Name (codes "a") false))) g.none)) g.none)))) ∷ [])) ∷ []) ([]) ≡ (Some (d w.IsStructure 0 0 None w.OfNothing w.OfNothing))
unfolding base_names standard_libraries prelude encode_utf8
quoted-list-is-shorter = refl

pub quoted-symbol-or-numeral : difference_rows ((Some (((g.list (p 0 1 0 2) (g.part (g.atom (p 0 0 0 1) (g.implied k.Quote)) (g.part (g.atom (p 1 1 1 2) (g.spelled (k.Name (codes "a") false))) g.none)))) ∷ [])) ∷ []) ((Some (((g.list (p 0 1 0 2) (g.part (g.atom (p 0 0 0 1) (g.implied k.Quote)) (g.part (g.atom (p 1 1 1 2) (g.spelled (k.Numeral (codes "1")))) g.none)))) ∷ [])) ∷ []) ([]) ≡ (Some (d w.IsStructure 0 0 None w.OfNothing w.OfNothing))
unfolding base_names standard_libraries prelude encode_utf8
quoted-symbol-or-numeral = refl

pub symbol-in-a-vector : difference_rows ((Some (((g.vector (p 0 3 0 6) (g.part (g.atom (p 1 1 2 3) (g.spelled (k.Name (codes "a") false))) (g.part (g.atom (p 2 2 4 5) (g.spelled (k.Name (codes "b") false))) g.none)))) ∷ [])) ∷ []) ((Some (((g.vector (p 0 3 0 6) (g.part (g.atom (p 1 1 2 3) (g.spelled (k.Name (codes "a") false))) (g.part (g.atom (p 2 2 4 5) (g.spelled (k.Name (codes "c") false))) g.none)))) ∷ [])) ∷ []) ([]) ≡ (Some (d w.IsQuoted 0 0 (Some (o 0 0 2)) (w.OfSymbol (codes "b")) (w.OfSymbol (codes "c"))))
unfolding base_names standard_libraries prelude encode_utf8
symbol-in-a-vector = refl

pub prelude-leaves-no-trace : difference_rows ((Some (((g.list (p 0 9 0 15) (g.part (g.atom (p 1 1 1 4) (g.spelled (k.Name (codes "let") false))) (g.part (g.list (p 2 7 5 12) (g.part (g.list (p 3 6 6 11) (g.part (g.atom (p 4 4 7 8) (g.spelled (k.Name (codes "x") false))) (g.part (g.atom (p 5 5 9 10) (g.spelled (k.Numeral (codes "1")))) g.none))) g.none)) (g.part (g.atom (p 8 8 13 14) (g.spelled (k.Name (codes "x") false))) g.none))))) ∷ [])) ∷ []) ((Some (((g.list (p 0 9 0 18) (g.part (g.list (p 1 7 1 15) (g.part (g.atom (p 2 2 2 8) (g.spelled (k.Name (codes "lambda") false))) (g.part (g.list (p 3 5 9 12) (g.part (g.atom (p 4 4 10 11) (g.spelled (k.Name (codes "x") false))) g.none)) (g.part (g.atom (p 6 6 13 14) (g.spelled (k.Name (codes "x") false))) g.none)))) (g.part (g.atom (p 8 8 16 17) (g.spelled (k.Numeral (codes "1")))) g.none)))) ∷ [])) ∷ []) ([]) ≡ None
unfolding base_names standard_libraries prelude encode_utf8
prelude-leaves-no-trace = refl

pub another-macro-with-this-expansion : difference_rows ((Some (((g.list (p 0 14 0 43) (g.part (g.atom (p 1 1 1 14) (g.spelled (k.Name (codes "define-syntax") false))) (g.part (g.atom (p 2 2 15 16) (g.spelled (k.Name (codes "a") false))) (g.part (g.list (p 3 13 17 42) (g.part (g.atom (p 4 4 18 30) (g.spelled (k.Name (codes "syntax-rules") false))) (g.part (g.list (p 5 6 31 33) g.none) (g.part (g.list (p 7 12 34 41) (g.part (g.list (p 8 10 35 38) (g.part (g.atom (p 9 9 36 37) (g.spelled (k.Name (codes "_") false))) g.none)) (g.part (g.atom (p 11 11 39 40) (g.spelled (k.Numeral (codes "1")))) g.none))) g.none)))) g.none))))) ∷ ((g.list (p 15 29 44 87) (g.part (g.atom (p 16 16 45 58) (g.spelled (k.Name (codes "define-syntax") false))) (g.part (g.atom (p 17 17 59 60) (g.spelled (k.Name (codes "b") false))) (g.part (g.list (p 18 28 61 86) (g.part (g.atom (p 19 19 62 74) (g.spelled (k.Name (codes "syntax-rules") false))) (g.part (g.list (p 20 21 75 77) g.none) (g.part (g.list (p 22 27 78 85) (g.part (g.list (p 23 25 79 82) (g.part (g.atom (p 24 24 80 81) (g.spelled (k.Name (codes "_") false))) g.none)) (g.part (g.atom (p 26 26 83 84) (g.spelled (k.Numeral (codes "1")))) g.none))) g.none)))) g.none))))) ∷ ((g.list (p 30 32 88 91) (g.part (g.atom (p 31 31 89 90) (g.spelled (k.Name (codes "a") false))) g.none))) ∷ [])) ∷ []) ((Some (((g.list (p 0 14 0 43) (g.part (g.atom (p 1 1 1 14) (g.spelled (k.Name (codes "define-syntax") false))) (g.part (g.atom (p 2 2 15 16) (g.spelled (k.Name (codes "a") false))) (g.part (g.list (p 3 13 17 42) (g.part (g.atom (p 4 4 18 30) (g.spelled (k.Name (codes "syntax-rules") false))) (g.part (g.list (p 5 6 31 33) g.none) (g.part (g.list (p 7 12 34 41) (g.part (g.list (p 8 10 35 38) (g.part (g.atom (p 9 9 36 37) (g.spelled (k.Name (codes "_") false))) g.none)) (g.part (g.atom (p 11 11 39 40) (g.spelled (k.Numeral (codes "1")))) g.none))) g.none)))) g.none))))) ∷ ((g.list (p 15 29 44 87) (g.part (g.atom (p 16 16 45 58) (g.spelled (k.Name (codes "define-syntax") false))) (g.part (g.atom (p 17 17 59 60) (g.spelled (k.Name (codes "b") false))) (g.part (g.list (p 18 28 61 86) (g.part (g.atom (p 19 19 62 74) (g.spelled (k.Name (codes "syntax-rules") false))) (g.part (g.list (p 20 21 75 77) g.none) (g.part (g.list (p 22 27 78 85) (g.part (g.list (p 23 25 79 82) (g.part (g.atom (p 24 24 80 81) (g.spelled (k.Name (codes "_") false))) g.none)) (g.part (g.atom (p 26 26 83 84) (g.spelled (k.Numeral (codes "1")))) g.none))) g.none)))) g.none))))) ∷ ((g.list (p 30 32 88 91) (g.part (g.atom (p 31 31 89 90) (g.spelled (k.Name (codes "b") false))) g.none))) ∷ [])) ∷ []) ([]) ≡ None
unfolding base_names standard_libraries prelude encode_utf8
another-macro-with-this-expansion = refl

pub another-number-of-binders : difference_rows ((Some (((g.list (p 0 6 0 14) (g.part (g.atom (p 1 1 1 7) (g.spelled (k.Name (codes "lambda") false))) (g.part (g.list (p 2 4 8 11) (g.part (g.atom (p 3 3 9 10) (g.spelled (k.Name (codes "x") false))) g.none)) (g.part (g.atom (p 5 5 12 13) (g.spelled (k.Numeral (codes "1")))) g.none))))) ∷ [])) ∷ []) ((Some (((g.list (p 0 7 0 16) (g.part (g.atom (p 1 1 1 7) (g.spelled (k.Name (codes "lambda") false))) (g.part (g.list (p 2 5 8 13) (g.part (g.atom (p 3 3 9 10) (g.spelled (k.Name (codes "x") false))) (g.part (g.atom (p 4 4 11 12) (g.spelled (k.Name (codes "y") false))) g.none))) (g.part (g.atom (p 6 6 14 15) (g.spelled (k.Numeral (codes "1")))) g.none))))) ∷ [])) ∷ []) ([]) ≡ (Some (d w.IsStructure 0 0 None w.OfNothing w.OfNothing))
unfolding base_names standard_libraries prelude encode_utf8
another-number-of-binders = refl

pub rest-or-not : difference_rows ((Some (((g.list (p 0 8 0 18) (g.part (g.atom (p 1 1 1 7) (g.spelled (k.Name (codes "lambda") false))) (g.part (g.list (p 2 6 8 15) (g.part (g.atom (p 3 3 9 10) (g.spelled (k.Name (codes "x") false))) (g.tail (g.atom (p 5 5 13 14) (g.spelled (k.Name (codes "y") false)))))) (g.part (g.atom (p 7 7 16 17) (g.spelled (k.Numeral (codes "1")))) g.none))))) ∷ [])) ∷ []) ((Some (((g.list (p 0 7 0 16) (g.part (g.atom (p 1 1 1 7) (g.spelled (k.Name (codes "lambda") false))) (g.part (g.list (p 2 5 8 13) (g.part (g.atom (p 3 3 9 10) (g.spelled (k.Name (codes "x") false))) (g.part (g.atom (p 4 4 11 12) (g.spelled (k.Name (codes "y") false))) g.none))) (g.part (g.atom (p 6 6 14 15) (g.spelled (k.Numeral (codes "1")))) g.none))))) ∷ [])) ∷ []) ([]) ≡ (Some (d w.IsStructure 0 0 None w.OfNothing w.OfNothing))
unfolding base_names standard_libraries prelude encode_utf8
rest-or-not = refl

pub values-or-not : difference_rows ((Some (((g.list (p 0 4 0 12) (g.part (g.atom (p 1 1 1 7) (g.spelled (k.Name (codes "define") false))) (g.part (g.atom (p 2 2 8 9) (g.spelled (k.Name (codes "x") false))) (g.part (g.atom (p 3 3 10 11) (g.spelled (k.Numeral (codes "1")))) g.none))))) ∷ [])) ∷ []) ((Some (((g.list (p 0 6 0 21) (g.part (g.atom (p 1 1 1 14) (g.spelled (k.Name (codes "define-values") false))) (g.part (g.list (p 2 4 15 18) (g.part (g.atom (p 3 3 16 17) (g.spelled (k.Name (codes "x") false))) g.none)) (g.part (g.atom (p 5 5 19 20) (g.spelled (k.Numeral (codes "1")))) g.none))))) ∷ [])) ∷ []) ([]) ≡ (Some (d w.IsStructure 0 0 None w.OfNothing w.OfNothing))
unfolding base_names standard_libraries prelude encode_utf8
values-or-not = refl

pub assigned-name-captured : difference_rows ((Some (((g.list (p 0 4 0 12) (g.part (g.atom (p 1 1 1 7) (g.spelled (k.Name (codes "define") false))) (g.part (g.atom (p 2 2 8 9) (g.spelled (k.Name (codes "y") false))) (g.part (g.atom (p 3 3 10 11) (g.spelled (k.Numeral (codes "1")))) g.none))))) ∷ ((g.list (p 5 15 13 36) (g.part (g.atom (p 6 6 14 20) (g.spelled (k.Name (codes "lambda") false))) (g.part (g.list (p 7 9 21 24) (g.part (g.atom (p 8 8 22 23) (g.spelled (k.Name (codes "x") false))) g.none)) (g.part (g.list (p 10 14 25 35) (g.part (g.atom (p 11 11 26 30) (g.spelled (k.Name (codes "set!") false))) (g.part (g.atom (p 12 12 31 32) (g.spelled (k.Name (codes "y") false))) (g.part (g.atom (p 13 13 33 34) (g.spelled (k.Numeral (codes "2")))) g.none)))) g.none))))) ∷ [])) ∷ []) ((Some (((g.list (p 0 4 0 12) (g.part (g.atom (p 1 1 1 7) (g.spelled (k.Name (codes "define") false))) (g.part (g.atom (p 2 2 8 9) (g.spelled (k.Name (codes "x") false))) (g.part (g.atom (p 3 3 10 11) (g.spelled (k.Numeral (codes "1")))) g.none))))) ∷ ((g.list (p 5 15 13 36) (g.part (g.atom (p 6 6 14 20) (g.spelled (k.Name (codes "lambda") false))) (g.part (g.list (p 7 9 21 24) (g.part (g.atom (p 8 8 22 23) (g.spelled (k.Name (codes "x") false))) g.none)) (g.part (g.list (p 10 14 25 35) (g.part (g.atom (p 11 11 26 30) (g.spelled (k.Name (codes "set!") false))) (g.part (g.atom (p 12 12 31 32) (g.spelled (k.Name (codes "x") false))) (g.part (g.atom (p 13 13 33 34) (g.spelled (k.Numeral (codes "2")))) g.none)))) g.none))))) ∷ [])) ∷ []) ((o 0 0 2) ∷ (o 0 1 7) ∷ []) ≡ (Some (d w.IsCaptured 0 1 (Some (o 0 1 7)) (w.AtBinder (o 0 0 2)) (w.AtBinder (o 0 1 3))))
unfolding base_names standard_libraries prelude encode_utf8
assigned-name-captured = refl

pub later-definition-or-new-one : difference_rows ((Some (((g.list (p 0 4 0 12) (g.part (g.atom (p 1 1 1 7) (g.spelled (k.Name (codes "define") false))) (g.part (g.atom (p 2 2 8 9) (g.spelled (k.Name (codes "x") false))) (g.part (g.atom (p 3 3 10 11) (g.spelled (k.Numeral (codes "1")))) g.none))))) ∷ ((g.list (p 5 9 13 25) (g.part (g.atom (p 6 6 14 20) (g.spelled (k.Name (codes "define") false))) (g.part (g.atom (p 7 7 21 22) (g.spelled (k.Name (codes "x") false))) (g.part (g.atom (p 8 8 23 24) (g.spelled (k.Numeral (codes "2")))) g.none))))) ∷ [])) ∷ []) ((Some (((g.list (p 0 4 0 12) (g.part (g.atom (p 1 1 1 7) (g.spelled (k.Name (codes "define") false))) (g.part (g.atom (p 2 2 8 9) (g.spelled (k.Name (codes "x") false))) (g.part (g.atom (p 3 3 10 11) (g.spelled (k.Numeral (codes "1")))) g.none))))) ∷ ((g.list (p 5 9 13 25) (g.part (g.atom (p 6 6 14 20) (g.spelled (k.Name (codes "define") false))) (g.part (g.atom (p 7 7 21 22) (g.spelled (k.Name (codes "y") false))) (g.part (g.atom (p 8 8 23 24) (g.spelled (k.Numeral (codes "2")))) g.none))))) ∷ [])) ∷ []) ([]) ≡ (Some (d w.IsStructure 0 1 None w.OfNothing w.OfNothing))
unfolding base_names standard_libraries prelude encode_utf8
later-definition-or-new-one = refl

pub field-renamed : difference_rows ((Some (((g.list (p 0 12 0 39) (g.part (g.atom (p 1 1 1 19) (g.spelled (k.Name (codes "define-record-type") false))) (g.part (g.atom (p 2 2 20 21) (g.spelled (k.Name (codes "p") false))) (g.part (g.list (p 3 6 22 28) (g.part (g.atom (p 4 4 23 25) (g.spelled (k.Name (codes "mk") false))) (g.part (g.atom (p 5 5 26 27) (g.spelled (k.Name (codes "a") false))) g.none))) (g.part (g.atom (p 7 7 29 31) (g.spelled (k.Name (codes "p?") false))) (g.part (g.list (p 8 11 32 38) (g.part (g.atom (p 9 9 33 34) (g.spelled (k.Name (codes "a") false))) (g.part (g.atom (p 10 10 35 37) (g.spelled (k.Name (codes "pa") false))) g.none))) g.none))))))) ∷ [])) ∷ []) ((Some (((g.list (p 0 12 0 39) (g.part (g.atom (p 1 1 1 19) (g.spelled (k.Name (codes "define-record-type") false))) (g.part (g.atom (p 2 2 20 21) (g.spelled (k.Name (codes "p") false))) (g.part (g.list (p 3 6 22 28) (g.part (g.atom (p 4 4 23 25) (g.spelled (k.Name (codes "mk") false))) (g.part (g.atom (p 5 5 26 27) (g.spelled (k.Name (codes "b") false))) g.none))) (g.part (g.atom (p 7 7 29 31) (g.spelled (k.Name (codes "p?") false))) (g.part (g.list (p 8 11 32 38) (g.part (g.atom (p 9 9 33 34) (g.spelled (k.Name (codes "b") false))) (g.part (g.atom (p 10 10 35 37) (g.spelled (k.Name (codes "pb") false))) g.none))) g.none))))))) ∷ [])) ∷ []) ([]) ≡ None
unfolding base_names standard_libraries prelude encode_utf8
field-renamed = refl

pub literal-means-another : difference_rows ((Some (((g.list (p 0 4 0 12) (g.part (g.atom (p 1 1 1 7) (g.spelled (k.Name (codes "define") false))) (g.part (g.atom (p 2 2 8 9) (g.spelled (k.Name (codes "j") false))) (g.part (g.atom (p 3 3 10 11) (g.spelled (k.Numeral (codes "1")))) g.none))))) ∷ ((g.list (p 5 21 13 59) (g.part (g.atom (p 6 6 14 27) (g.spelled (k.Name (codes "define-syntax") false))) (g.part (g.atom (p 7 7 28 29) (g.spelled (k.Name (codes "m") false))) (g.part (g.list (p 8 20 30 58) (g.part (g.atom (p 9 9 31 43) (g.spelled (k.Name (codes "syntax-rules") false))) (g.part (g.list (p 10 12 44 47) (g.part (g.atom (p 11 11 45 46) (g.spelled (k.Name (codes "k") false))) g.none)) (g.part (g.list (p 13 19 48 57) (g.part (g.list (p 14 17 49 54) (g.part (g.atom (p 15 15 50 51) (g.spelled (k.Name (codes "_") false))) (g.part (g.atom (p 16 16 52 53) (g.spelled (k.Name (codes "k") false))) g.none))) (g.part (g.atom (p 18 18 55 56) (g.spelled (k.Numeral (codes "1")))) g.none))) g.none)))) g.none))))) ∷ ((g.list (p 22 25 60 65) (g.part (g.atom (p 23 23 61 62) (g.spelled (k.Name (codes "m") false))) (g.part (g.atom (p 24 24 63 64) (g.spelled (k.Name (codes "k") false))) g.none)))) ∷ [])) ∷ []) ((Some (((g.list (p 0 4 0 12) (g.part (g.atom (p 1 1 1 7) (g.spelled (k.Name (codes "define") false))) (g.part (g.atom (p 2 2 8 9) (g.spelled (k.Name (codes "k") false))) (g.part (g.atom (p 3 3 10 11) (g.spelled (k.Numeral (codes "1")))) g.none))))) ∷ ((g.list (p 5 21 13 59) (g.part (g.atom (p 6 6 14 27) (g.spelled (k.Name (codes "define-syntax") false))) (g.part (g.atom (p 7 7 28 29) (g.spelled (k.Name (codes "m") false))) (g.part (g.list (p 8 20 30 58) (g.part (g.atom (p 9 9 31 43) (g.spelled (k.Name (codes "syntax-rules") false))) (g.part (g.list (p 10 12 44 47) (g.part (g.atom (p 11 11 45 46) (g.spelled (k.Name (codes "k") false))) g.none)) (g.part (g.list (p 13 19 48 57) (g.part (g.list (p 14 17 49 54) (g.part (g.atom (p 15 15 50 51) (g.spelled (k.Name (codes "_") false))) (g.part (g.atom (p 16 16 52 53) (g.spelled (k.Name (codes "k") false))) g.none))) (g.part (g.atom (p 18 18 55 56) (g.spelled (k.Numeral (codes "1")))) g.none))) g.none)))) g.none))))) ∷ ((g.list (p 22 25 60 65) (g.part (g.atom (p 23 23 61 62) (g.spelled (k.Name (codes "m") false))) (g.part (g.atom (p 24 24 63 64) (g.spelled (k.Name (codes "k") false))) g.none)))) ∷ [])) ∷ []) ((o 0 0 2) ∷ []) ≡ (Some (d w.IsTemplate 0 1 (Some (o 0 1 6)) (w.OfUnbound (codes "k")) (w.AtBinder (o 0 0 2))))
unfolding base_names standard_libraries prelude encode_utf8
literal-means-another = refl

pub own-ellipsis-or-not : difference_rows ((Some (((g.list (p 0 21 0 64) (g.part (g.atom (p 1 1 1 14) (g.spelled (k.Name (codes "define-syntax") false))) (g.part (g.atom (p 2 2 15 16) (g.spelled (k.Name (codes "m") false))) (g.part (g.list (p 3 20 17 63) (g.part (g.atom (p 4 4 18 30) (g.spelled (k.Name (codes "syntax-rules") false))) (g.part (g.atom (p 5 5 31 34) (g.spelled (k.Name (codes ":::") false))) (g.part (g.list (p 6 7 35 37) g.none) (g.part (g.list (p 8 19 38 62) (g.part (g.list (p 9 13 39 48) (g.part (g.atom (p 10 10 40 41) (g.spelled (k.Name (codes "_") false))) (g.part (g.atom (p 11 11 42 43) (g.spelled (k.Name (codes "a") false))) (g.part (g.atom (p 12 12 44 47) (g.spelled (k.Name (codes ":::") false))) g.none)))) (g.part (g.list (p 14 18 49 61) (g.part (g.atom (p 15 15 50 54) (g.spelled (k.Name (codes "list") false))) (g.part (g.atom (p 16 16 55 56) (g.spelled (k.Name (codes "a") false))) (g.part (g.atom (p 17 17 57 60) (g.spelled (k.Name (codes ":::") false))) g.none)))) g.none))) g.none))))) g.none))))) ∷ [])) ∷ []) ((Some (((g.list (p 0 20 0 60) (g.part (g.atom (p 1 1 1 14) (g.spelled (k.Name (codes "define-syntax") false))) (g.part (g.atom (p 2 2 15 16) (g.spelled (k.Name (codes "m") false))) (g.part (g.list (p 3 19 17 59) (g.part (g.atom (p 4 4 18 30) (g.spelled (k.Name (codes "syntax-rules") false))) (g.part (g.list (p 5 6 31 33) g.none) (g.part (g.list (p 7 18 34 58) (g.part (g.list (p 8 12 35 44) (g.part (g.atom (p 9 9 36 37) (g.spelled (k.Name (codes "_") false))) (g.part (g.atom (p 10 10 38 39) (g.spelled (k.Name (codes "a") false))) (g.part (g.atom (p 11 11 40 43) (g.spelled (k.Name (codes "...") false))) g.none)))) (g.part (g.list (p 13 17 45 57) (g.part (g.atom (p 14 14 46 50) (g.spelled (k.Name (codes "list") false))) (g.part (g.atom (p 15 15 51 52) (g.spelled (k.Name (codes "a") false))) (g.part (g.atom (p 16 16 53 56) (g.spelled (k.Name (codes "...") false))) g.none)))) g.none))) g.none)))) g.none))))) ∷ [])) ∷ []) ([]) ≡ (Some (d w.IsTemplate 0 0 None w.OfNothing w.OfNothing))
unfolding base_names standard_libraries prelude encode_utf8
own-ellipsis-or-not = refl

pub own-ellipsis-renamed : difference_rows ((Some (((g.list (p 0 21 0 64) (g.part (g.atom (p 1 1 1 14) (g.spelled (k.Name (codes "define-syntax") false))) (g.part (g.atom (p 2 2 15 16) (g.spelled (k.Name (codes "m") false))) (g.part (g.list (p 3 20 17 63) (g.part (g.atom (p 4 4 18 30) (g.spelled (k.Name (codes "syntax-rules") false))) (g.part (g.atom (p 5 5 31 34) (g.spelled (k.Name (codes ":::") false))) (g.part (g.list (p 6 7 35 37) g.none) (g.part (g.list (p 8 19 38 62) (g.part (g.list (p 9 13 39 48) (g.part (g.atom (p 10 10 40 41) (g.spelled (k.Name (codes "_") false))) (g.part (g.atom (p 11 11 42 43) (g.spelled (k.Name (codes "a") false))) (g.part (g.atom (p 12 12 44 47) (g.spelled (k.Name (codes ":::") false))) g.none)))) (g.part (g.list (p 14 18 49 61) (g.part (g.atom (p 15 15 50 54) (g.spelled (k.Name (codes "list") false))) (g.part (g.atom (p 16 16 55 56) (g.spelled (k.Name (codes "a") false))) (g.part (g.atom (p 17 17 57 60) (g.spelled (k.Name (codes ":::") false))) g.none)))) g.none))) g.none))))) g.none))))) ∷ [])) ∷ []) ((Some (((g.list (p 0 21 0 64) (g.part (g.atom (p 1 1 1 14) (g.spelled (k.Name (codes "define-syntax") false))) (g.part (g.atom (p 2 2 15 16) (g.spelled (k.Name (codes "m") false))) (g.part (g.list (p 3 20 17 63) (g.part (g.atom (p 4 4 18 30) (g.spelled (k.Name (codes "syntax-rules") false))) (g.part (g.atom (p 5 5 31 34) (g.spelled (k.Name (codes "***") false))) (g.part (g.list (p 6 7 35 37) g.none) (g.part (g.list (p 8 19 38 62) (g.part (g.list (p 9 13 39 48) (g.part (g.atom (p 10 10 40 41) (g.spelled (k.Name (codes "_") false))) (g.part (g.atom (p 11 11 42 43) (g.spelled (k.Name (codes "a") false))) (g.part (g.atom (p 12 12 44 47) (g.spelled (k.Name (codes "***") false))) g.none)))) (g.part (g.list (p 14 18 49 61) (g.part (g.atom (p 15 15 50 54) (g.spelled (k.Name (codes "list") false))) (g.part (g.atom (p 16 16 55 56) (g.spelled (k.Name (codes "a") false))) (g.part (g.atom (p 17 17 57 60) (g.spelled (k.Name (codes "***") false))) g.none)))) g.none))) g.none))))) g.none))))) ∷ [])) ∷ []) ([]) ≡ None
unfolding base_names standard_libraries prelude encode_utf8
own-ellipsis-renamed = refl

pub atom-of-a-template : difference_rows ((Some (((g.list (p 0 14 0 43) (g.part (g.atom (p 1 1 1 14) (g.spelled (k.Name (codes "define-syntax") false))) (g.part (g.atom (p 2 2 15 16) (g.spelled (k.Name (codes "m") false))) (g.part (g.list (p 3 13 17 42) (g.part (g.atom (p 4 4 18 30) (g.spelled (k.Name (codes "syntax-rules") false))) (g.part (g.list (p 5 6 31 33) g.none) (g.part (g.list (p 7 12 34 41) (g.part (g.list (p 8 10 35 38) (g.part (g.atom (p 9 9 36 37) (g.spelled (k.Name (codes "_") false))) g.none)) (g.part (g.atom (p 11 11 39 40) (g.spelled (k.Numeral (codes "5")))) g.none))) g.none)))) g.none))))) ∷ [])) ∷ []) ((Some (((g.list (p 0 14 0 43) (g.part (g.atom (p 1 1 1 14) (g.spelled (k.Name (codes "define-syntax") false))) (g.part (g.atom (p 2 2 15 16) (g.spelled (k.Name (codes "m") false))) (g.part (g.list (p 3 13 17 42) (g.part (g.atom (p 4 4 18 30) (g.spelled (k.Name (codes "syntax-rules") false))) (g.part (g.list (p 5 6 31 33) g.none) (g.part (g.list (p 7 12 34 41) (g.part (g.list (p 8 10 35 38) (g.part (g.atom (p 9 9 36 37) (g.spelled (k.Name (codes "_") false))) g.none)) (g.part (g.atom (p 11 11 39 40) (g.spelled (k.Numeral (codes "6")))) g.none))) g.none)))) g.none))))) ∷ [])) ∷ []) ([]) ≡ (Some (d w.IsTemplate 0 0 (Some (o 0 0 11)) w.OfNothing w.OfNothing))
unfolding base_names standard_libraries prelude encode_utf8
atom-of-a-template = refl

pub library-or-program : difference_rows ((Some (((g.list (p 0 5 0 20) (g.part (g.atom (p 1 1 1 15) (g.spelled (k.Name (codes "define-library") false))) (g.part (g.list (p 2 4 16 19) (g.part (g.atom (p 3 3 17 18) (g.spelled (k.Name (codes "a") false))) g.none)) g.none)))) ∷ [])) ∷ []) ((Some (((g.list (p 0 3 0 8) (g.part (g.atom (p 1 1 1 5) (g.spelled (k.Name (codes "list") false))) (g.part (g.atom (p 2 2 6 7) (g.spelled (k.Numeral (codes "1")))) g.none)))) ∷ [])) ∷ []) ([]) ≡ (Some (d w.IsStructure 0 0 None w.OfNothing w.OfNothing))
unfolding base_names standard_libraries prelude encode_utf8
library-or-program = refl

pub a-unit-fewer : difference_rows ((Some (((g.list (p 0 2 0 6) (g.part (g.atom (p 1 1 1 5) (g.spelled (k.Name (codes "list") false))) g.none))) ∷ [])) ∷ (Some (((g.list (p 0 2 0 6) (g.part (g.atom (p 1 1 1 5) (g.spelled (k.Name (codes "list") false))) g.none))) ∷ [])) ∷ []) ((Some (((g.list (p 0 2 0 6) (g.part (g.atom (p 1 1 1 5) (g.spelled (k.Name (codes "list") false))) g.none))) ∷ [])) ∷ (Some ([])) ∷ []) ([]) ≡ (Some (d w.IsStructure 1 0 None w.OfNothing w.OfNothing))
unfolding base_names standard_libraries prelude encode_utf8
a-unit-fewer = refl

pub a-form-fewer : difference_rows ((Some (((g.list (p 0 2 0 6) (g.part (g.atom (p 1 1 1 5) (g.spelled (k.Name (codes "list") false))) g.none))) ∷ ((g.list (p 3 5 7 13) (g.part (g.atom (p 4 4 8 12) (g.spelled (k.Name (codes "list") false))) g.none))) ∷ [])) ∷ []) ((Some (((g.list (p 0 2 0 6) (g.part (g.atom (p 1 1 1 5) (g.spelled (k.Name (codes "list") false))) g.none))) ∷ [])) ∷ []) ([]) ≡ (Some (d w.IsStructure 0 0 None w.OfNothing w.OfNothing))
unfolding base_names standard_libraries prelude encode_utf8
a-form-fewer = refl
