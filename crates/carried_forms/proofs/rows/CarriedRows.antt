-- Open documents before and after an event, the forms that are carried, and the work of the event, from outside.
-- Written by tests/definitions/rows; each row is checked by computing it.
use Rattle.std.specs.Prelude.{◌≡◌, ℕ, false, [], ◌∷◌, Some, None, codes, refl}
use Rattle.std.specs.Char.{encode_utf8}
use Rattle.scheme_model.specs.StandardNames.{base_names}
use Rattle.scheme_model.specs.StandardLibraries.{standard_libraries}
use Rattle.scheme_model.specs.Prelude.{prelude}
use Rattle.scheme_model.specs.Kinds as k
use Rattle.scheme_model.specs.Data as g
use Rattle.carried_forms.proofs.ShownCarried.{carried_rows}

abbrev p : ℕ → ℕ → ℕ → ℕ → g.Place
p first last start end = record { first = first; last = last; start = start; end = end }

pub nothing_changed : carried_rows (((codes "file:///a.scm"), Some (((g.list (p 0 15 0 45) (g.part (g.atom (p 1 1 1 14) (g.spelled (k.Name (codes "define-syntax") false))) (g.part (g.atom (p 2 2 15 16) (g.spelled (k.Name (codes "m") false))) (g.part (g.list (p 3 14 17 44) (g.part (g.atom (p 4 4 18 30) (g.spelled (k.Name (codes "syntax-rules") false))) (g.part (g.list (p 5 6 31 33) g.none) (g.part (g.list (p 7 13 34 43) (g.part (g.list (p 8 11 35 40) (g.part (g.atom (p 9 9 36 37) (g.spelled (k.Name (codes "_") false))) (g.part (g.atom (p 10 10 38 39) (g.spelled (k.Name (codes "a") false))) g.none))) (g.part (g.atom (p 12 12 41 42) (g.spelled (k.Name (codes "a") false))) g.none))) g.none)))) g.none))))) ∷ ((g.list (p 16 19 46 51) (g.part (g.atom (p 17 17 47 48) (g.spelled (k.Name (codes "m") false))) (g.part (g.atom (p 18 18 49 50) (g.spelled (k.Numeral (codes "1")))) g.none)))) ∷ [])) ∷ []) (((codes "file:///a.scm"), Some (((g.list (p 0 15 0 45) (g.part (g.atom (p 1 1 1 14) (g.spelled (k.Name (codes "define-syntax") false))) (g.part (g.atom (p 2 2 15 16) (g.spelled (k.Name (codes "m") false))) (g.part (g.list (p 3 14 17 44) (g.part (g.atom (p 4 4 18 30) (g.spelled (k.Name (codes "syntax-rules") false))) (g.part (g.list (p 5 6 31 33) g.none) (g.part (g.list (p 7 13 34 43) (g.part (g.list (p 8 11 35 40) (g.part (g.atom (p 9 9 36 37) (g.spelled (k.Name (codes "_") false))) (g.part (g.atom (p 10 10 38 39) (g.spelled (k.Name (codes "a") false))) g.none))) (g.part (g.atom (p 12 12 41 42) (g.spelled (k.Name (codes "a") false))) g.none))) g.none)))) g.none))))) ∷ ((g.list (p 16 19 46 51) (g.part (g.atom (p 17 17 47 48) (g.spelled (k.Name (codes "m") false))) (g.part (g.atom (p 18 18 49 50) (g.spelled (k.Numeral (codes "1")))) g.none)))) ∷ [])) ∷ []) ≡ ((0, 0) ∷ (0, 1) ∷ [], 0)
unfolding base_names standard_libraries prelude encode_utf8
nothing_changed = refl

pub comment_inserted : carried_rows (((codes "file:///a.scm"), Some (((g.list (p 0 15 0 45) (g.part (g.atom (p 1 1 1 14) (g.spelled (k.Name (codes "define-syntax") false))) (g.part (g.atom (p 2 2 15 16) (g.spelled (k.Name (codes "m") false))) (g.part (g.list (p 3 14 17 44) (g.part (g.atom (p 4 4 18 30) (g.spelled (k.Name (codes "syntax-rules") false))) (g.part (g.list (p 5 6 31 33) g.none) (g.part (g.list (p 7 13 34 43) (g.part (g.list (p 8 11 35 40) (g.part (g.atom (p 9 9 36 37) (g.spelled (k.Name (codes "_") false))) (g.part (g.atom (p 10 10 38 39) (g.spelled (k.Name (codes "a") false))) g.none))) (g.part (g.atom (p 12 12 41 42) (g.spelled (k.Name (codes "a") false))) g.none))) g.none)))) g.none))))) ∷ ((g.list (p 16 19 46 51) (g.part (g.atom (p 17 17 47 48) (g.spelled (k.Name (codes "m") false))) (g.part (g.atom (p 18 18 49 50) (g.spelled (k.Numeral (codes "1")))) g.none)))) ∷ [])) ∷ []) (((codes "file:///a.scm"), Some (((g.list (p 0 15 0 45) (g.part (g.atom (p 1 1 1 14) (g.spelled (k.Name (codes "define-syntax") false))) (g.part (g.atom (p 2 2 15 16) (g.spelled (k.Name (codes "m") false))) (g.part (g.list (p 3 14 17 44) (g.part (g.atom (p 4 4 18 30) (g.spelled (k.Name (codes "syntax-rules") false))) (g.part (g.list (p 5 6 31 33) g.none) (g.part (g.list (p 7 13 34 43) (g.part (g.list (p 8 11 35 40) (g.part (g.atom (p 9 9 36 37) (g.spelled (k.Name (codes "_") false))) (g.part (g.atom (p 10 10 38 39) (g.spelled (k.Name (codes "a") false))) g.none))) (g.part (g.atom (p 12 12 41 42) (g.spelled (k.Name (codes "a") false))) g.none))) g.none)))) g.none))))) ∷ ((g.list (p 16 19 52 67) (g.part (g.atom (p 17 17 53 54) (g.spelled (k.Name (codes "m") false))) (g.part (g.atom (p 18 18 65 66) (g.spelled (k.Numeral (codes "1")))) g.none)))) ∷ [])) ∷ []) ≡ ((0, 0) ∷ (0, 1) ∷ [], 0)
unfolding base_names standard_libraries prelude encode_utf8
comment_inserted = refl

pub form_in_front : carried_rows (((codes "file:///a.scm"), Some (((g.list (p 0 15 0 45) (g.part (g.atom (p 1 1 1 14) (g.spelled (k.Name (codes "define-syntax") false))) (g.part (g.atom (p 2 2 15 16) (g.spelled (k.Name (codes "m") false))) (g.part (g.list (p 3 14 17 44) (g.part (g.atom (p 4 4 18 30) (g.spelled (k.Name (codes "syntax-rules") false))) (g.part (g.list (p 5 6 31 33) g.none) (g.part (g.list (p 7 13 34 43) (g.part (g.list (p 8 11 35 40) (g.part (g.atom (p 9 9 36 37) (g.spelled (k.Name (codes "_") false))) (g.part (g.atom (p 10 10 38 39) (g.spelled (k.Name (codes "a") false))) g.none))) (g.part (g.atom (p 12 12 41 42) (g.spelled (k.Name (codes "a") false))) g.none))) g.none)))) g.none))))) ∷ ((g.list (p 16 19 46 51) (g.part (g.atom (p 17 17 47 48) (g.spelled (k.Name (codes "m") false))) (g.part (g.atom (p 18 18 49 50) (g.spelled (k.Numeral (codes "1")))) g.none)))) ∷ [])) ∷ []) (((codes "file:///a.scm"), Some (((g.list (p 0 4 0 12) (g.part (g.atom (p 1 1 1 7) (g.spelled (k.Name (codes "define") false))) (g.part (g.atom (p 2 2 8 9) (g.spelled (k.Name (codes "w") false))) (g.part (g.atom (p 3 3 10 11) (g.spelled (k.Numeral (codes "0")))) g.none))))) ∷ ((g.list (p 5 20 13 58) (g.part (g.atom (p 6 6 14 27) (g.spelled (k.Name (codes "define-syntax") false))) (g.part (g.atom (p 7 7 28 29) (g.spelled (k.Name (codes "m") false))) (g.part (g.list (p 8 19 30 57) (g.part (g.atom (p 9 9 31 43) (g.spelled (k.Name (codes "syntax-rules") false))) (g.part (g.list (p 10 11 44 46) g.none) (g.part (g.list (p 12 18 47 56) (g.part (g.list (p 13 16 48 53) (g.part (g.atom (p 14 14 49 50) (g.spelled (k.Name (codes "_") false))) (g.part (g.atom (p 15 15 51 52) (g.spelled (k.Name (codes "a") false))) g.none))) (g.part (g.atom (p 17 17 54 55) (g.spelled (k.Name (codes "a") false))) g.none))) g.none)))) g.none))))) ∷ ((g.list (p 21 24 59 64) (g.part (g.atom (p 22 22 60 61) (g.spelled (k.Name (codes "m") false))) (g.part (g.atom (p 23 23 62 63) (g.spelled (k.Numeral (codes "1")))) g.none)))) ∷ [])) ∷ []) ≡ ((0, 1) ∷ (0, 2) ∷ [], 0)
unfolding base_names standard_libraries prelude encode_utf8
form_in_front = refl

pub form_behind : carried_rows (((codes "file:///a.scm"), Some (((g.list (p 0 15 0 45) (g.part (g.atom (p 1 1 1 14) (g.spelled (k.Name (codes "define-syntax") false))) (g.part (g.atom (p 2 2 15 16) (g.spelled (k.Name (codes "m") false))) (g.part (g.list (p 3 14 17 44) (g.part (g.atom (p 4 4 18 30) (g.spelled (k.Name (codes "syntax-rules") false))) (g.part (g.list (p 5 6 31 33) g.none) (g.part (g.list (p 7 13 34 43) (g.part (g.list (p 8 11 35 40) (g.part (g.atom (p 9 9 36 37) (g.spelled (k.Name (codes "_") false))) (g.part (g.atom (p 10 10 38 39) (g.spelled (k.Name (codes "a") false))) g.none))) (g.part (g.atom (p 12 12 41 42) (g.spelled (k.Name (codes "a") false))) g.none))) g.none)))) g.none))))) ∷ ((g.list (p 16 19 46 51) (g.part (g.atom (p 17 17 47 48) (g.spelled (k.Name (codes "m") false))) (g.part (g.atom (p 18 18 49 50) (g.spelled (k.Numeral (codes "1")))) g.none)))) ∷ [])) ∷ []) (((codes "file:///a.scm"), Some (((g.list (p 0 15 0 45) (g.part (g.atom (p 1 1 1 14) (g.spelled (k.Name (codes "define-syntax") false))) (g.part (g.atom (p 2 2 15 16) (g.spelled (k.Name (codes "m") false))) (g.part (g.list (p 3 14 17 44) (g.part (g.atom (p 4 4 18 30) (g.spelled (k.Name (codes "syntax-rules") false))) (g.part (g.list (p 5 6 31 33) g.none) (g.part (g.list (p 7 13 34 43) (g.part (g.list (p 8 11 35 40) (g.part (g.atom (p 9 9 36 37) (g.spelled (k.Name (codes "_") false))) (g.part (g.atom (p 10 10 38 39) (g.spelled (k.Name (codes "a") false))) g.none))) (g.part (g.atom (p 12 12 41 42) (g.spelled (k.Name (codes "a") false))) g.none))) g.none)))) g.none))))) ∷ ((g.list (p 16 19 46 51) (g.part (g.atom (p 17 17 47 48) (g.spelled (k.Name (codes "m") false))) (g.part (g.atom (p 18 18 49 50) (g.spelled (k.Numeral (codes "1")))) g.none)))) ∷ ((g.list (p 20 27 52 68) (g.part (g.atom (p 21 21 53 59) (g.spelled (k.Name (codes "define") false))) (g.part (g.atom (p 22 22 60 61) (g.spelled (k.Name (codes "w") false))) (g.part (g.list (p 23 26 62 67) (g.part (g.atom (p 24 24 63 64) (g.spelled (k.Name (codes "m") false))) (g.part (g.atom (p 25 25 65 66) (g.spelled (k.Numeral (codes "2")))) g.none))) g.none))))) ∷ [])) ∷ []) ≡ ((0, 0) ∷ (0, 1) ∷ [], 1)
unfolding base_names standard_libraries prelude encode_utf8
form_behind = refl

pub token_changed : carried_rows (((codes "file:///a.scm"), Some (((g.list (p 0 15 0 45) (g.part (g.atom (p 1 1 1 14) (g.spelled (k.Name (codes "define-syntax") false))) (g.part (g.atom (p 2 2 15 16) (g.spelled (k.Name (codes "m") false))) (g.part (g.list (p 3 14 17 44) (g.part (g.atom (p 4 4 18 30) (g.spelled (k.Name (codes "syntax-rules") false))) (g.part (g.list (p 5 6 31 33) g.none) (g.part (g.list (p 7 13 34 43) (g.part (g.list (p 8 11 35 40) (g.part (g.atom (p 9 9 36 37) (g.spelled (k.Name (codes "_") false))) (g.part (g.atom (p 10 10 38 39) (g.spelled (k.Name (codes "a") false))) g.none))) (g.part (g.atom (p 12 12 41 42) (g.spelled (k.Name (codes "a") false))) g.none))) g.none)))) g.none))))) ∷ ((g.list (p 16 19 46 51) (g.part (g.atom (p 17 17 47 48) (g.spelled (k.Name (codes "m") false))) (g.part (g.atom (p 18 18 49 50) (g.spelled (k.Numeral (codes "1")))) g.none)))) ∷ ((g.list (p 20 23 52 57) (g.part (g.atom (p 21 21 53 54) (g.spelled (k.Name (codes "m") false))) (g.part (g.atom (p 22 22 55 56) (g.spelled (k.Numeral (codes "2")))) g.none)))) ∷ ((g.list (p 24 27 58 63) (g.part (g.atom (p 25 25 59 60) (g.spelled (k.Name (codes "m") false))) (g.part (g.atom (p 26 26 61 62) (g.spelled (k.Numeral (codes "3")))) g.none)))) ∷ [])) ∷ []) (((codes "file:///a.scm"), Some (((g.list (p 0 15 0 45) (g.part (g.atom (p 1 1 1 14) (g.spelled (k.Name (codes "define-syntax") false))) (g.part (g.atom (p 2 2 15 16) (g.spelled (k.Name (codes "m") false))) (g.part (g.list (p 3 14 17 44) (g.part (g.atom (p 4 4 18 30) (g.spelled (k.Name (codes "syntax-rules") false))) (g.part (g.list (p 5 6 31 33) g.none) (g.part (g.list (p 7 13 34 43) (g.part (g.list (p 8 11 35 40) (g.part (g.atom (p 9 9 36 37) (g.spelled (k.Name (codes "_") false))) (g.part (g.atom (p 10 10 38 39) (g.spelled (k.Name (codes "a") false))) g.none))) (g.part (g.atom (p 12 12 41 42) (g.spelled (k.Name (codes "a") false))) g.none))) g.none)))) g.none))))) ∷ ((g.list (p 16 19 46 51) (g.part (g.atom (p 17 17 47 48) (g.spelled (k.Name (codes "m") false))) (g.part (g.atom (p 18 18 49 50) (g.spelled (k.Numeral (codes "1")))) g.none)))) ∷ ((g.list (p 20 23 52 57) (g.part (g.atom (p 21 21 53 54) (g.spelled (k.Name (codes "m") false))) (g.part (g.atom (p 22 22 55 56) (g.spelled (k.Numeral (codes "2")))) g.none)))) ∷ ((g.list (p 24 27 58 63) (g.part (g.atom (p 25 25 59 60) (g.spelled (k.Name (codes "m") false))) (g.part (g.atom (p 26 26 61 62) (g.spelled (k.Numeral (codes "4")))) g.none)))) ∷ [])) ∷ []) ≡ ((0, 0) ∷ (0, 1) ∷ (0, 2) ∷ [], 1)
unfolding base_names standard_libraries prelude encode_utf8
token_changed = refl

pub token_changed_in_the_middle : carried_rows (((codes "file:///a.scm"), Some (((g.list (p 0 15 0 45) (g.part (g.atom (p 1 1 1 14) (g.spelled (k.Name (codes "define-syntax") false))) (g.part (g.atom (p 2 2 15 16) (g.spelled (k.Name (codes "m") false))) (g.part (g.list (p 3 14 17 44) (g.part (g.atom (p 4 4 18 30) (g.spelled (k.Name (codes "syntax-rules") false))) (g.part (g.list (p 5 6 31 33) g.none) (g.part (g.list (p 7 13 34 43) (g.part (g.list (p 8 11 35 40) (g.part (g.atom (p 9 9 36 37) (g.spelled (k.Name (codes "_") false))) (g.part (g.atom (p 10 10 38 39) (g.spelled (k.Name (codes "a") false))) g.none))) (g.part (g.atom (p 12 12 41 42) (g.spelled (k.Name (codes "a") false))) g.none))) g.none)))) g.none))))) ∷ ((g.list (p 16 19 46 51) (g.part (g.atom (p 17 17 47 48) (g.spelled (k.Name (codes "m") false))) (g.part (g.atom (p 18 18 49 50) (g.spelled (k.Numeral (codes "1")))) g.none)))) ∷ ((g.list (p 20 23 52 57) (g.part (g.atom (p 21 21 53 54) (g.spelled (k.Name (codes "m") false))) (g.part (g.atom (p 22 22 55 56) (g.spelled (k.Numeral (codes "2")))) g.none)))) ∷ ((g.list (p 24 27 58 63) (g.part (g.atom (p 25 25 59 60) (g.spelled (k.Name (codes "m") false))) (g.part (g.atom (p 26 26 61 62) (g.spelled (k.Numeral (codes "3")))) g.none)))) ∷ [])) ∷ []) (((codes "file:///a.scm"), Some (((g.list (p 0 15 0 45) (g.part (g.atom (p 1 1 1 14) (g.spelled (k.Name (codes "define-syntax") false))) (g.part (g.atom (p 2 2 15 16) (g.spelled (k.Name (codes "m") false))) (g.part (g.list (p 3 14 17 44) (g.part (g.atom (p 4 4 18 30) (g.spelled (k.Name (codes "syntax-rules") false))) (g.part (g.list (p 5 6 31 33) g.none) (g.part (g.list (p 7 13 34 43) (g.part (g.list (p 8 11 35 40) (g.part (g.atom (p 9 9 36 37) (g.spelled (k.Name (codes "_") false))) (g.part (g.atom (p 10 10 38 39) (g.spelled (k.Name (codes "a") false))) g.none))) (g.part (g.atom (p 12 12 41 42) (g.spelled (k.Name (codes "a") false))) g.none))) g.none)))) g.none))))) ∷ ((g.list (p 16 19 46 51) (g.part (g.atom (p 17 17 47 48) (g.spelled (k.Name (codes "m") false))) (g.part (g.atom (p 18 18 49 50) (g.spelled (k.Numeral (codes "1")))) g.none)))) ∷ ((g.list (p 20 23 52 57) (g.part (g.atom (p 21 21 53 54) (g.spelled (k.Name (codes "m") false))) (g.part (g.atom (p 22 22 55 56) (g.spelled (k.Numeral (codes "4")))) g.none)))) ∷ ((g.list (p 24 27 58 63) (g.part (g.atom (p 25 25 59 60) (g.spelled (k.Name (codes "m") false))) (g.part (g.atom (p 26 26 61 62) (g.spelled (k.Numeral (codes "3")))) g.none)))) ∷ [])) ∷ []) ≡ ((0, 0) ∷ (0, 1) ∷ (0, 3) ∷ [], 1)
unfolding base_names standard_libraries prelude encode_utf8
token_changed_in_the_middle = refl

pub skipped_datum_inserted : carried_rows (((codes "file:///a.scm"), Some (((g.list (p 0 15 0 45) (g.part (g.atom (p 1 1 1 14) (g.spelled (k.Name (codes "define-syntax") false))) (g.part (g.atom (p 2 2 15 16) (g.spelled (k.Name (codes "m") false))) (g.part (g.list (p 3 14 17 44) (g.part (g.atom (p 4 4 18 30) (g.spelled (k.Name (codes "syntax-rules") false))) (g.part (g.list (p 5 6 31 33) g.none) (g.part (g.list (p 7 13 34 43) (g.part (g.list (p 8 11 35 40) (g.part (g.atom (p 9 9 36 37) (g.spelled (k.Name (codes "_") false))) (g.part (g.atom (p 10 10 38 39) (g.spelled (k.Name (codes "a") false))) g.none))) (g.part (g.atom (p 12 12 41 42) (g.spelled (k.Name (codes "a") false))) g.none))) g.none)))) g.none))))) ∷ ((g.list (p 16 19 46 51) (g.part (g.atom (p 17 17 47 48) (g.spelled (k.Name (codes "m") false))) (g.part (g.atom (p 18 18 49 50) (g.spelled (k.Numeral (codes "1")))) g.none)))) ∷ [])) ∷ []) (((codes "file:///a.scm"), Some (((g.list (p 0 15 0 45) (g.part (g.atom (p 1 1 1 14) (g.spelled (k.Name (codes "define-syntax") false))) (g.part (g.atom (p 2 2 15 16) (g.spelled (k.Name (codes "m") false))) (g.part (g.list (p 3 14 17 44) (g.part (g.atom (p 4 4 18 30) (g.spelled (k.Name (codes "syntax-rules") false))) (g.part (g.list (p 5 6 31 33) g.none) (g.part (g.list (p 7 13 34 43) (g.part (g.list (p 8 11 35 40) (g.part (g.atom (p 9 9 36 37) (g.spelled (k.Name (codes "_") false))) (g.part (g.atom (p 10 10 38 39) (g.spelled (k.Name (codes "a") false))) g.none))) (g.part (g.atom (p 12 12 41 42) (g.spelled (k.Name (codes "a") false))) g.none))) g.none)))) g.none))))) ∷ ((g.list (p 16 21 46 55) (g.part (g.atom (p 17 17 47 48) (g.spelled (k.Name (codes "m") false))) (g.part (g.atom (p 20 20 53 54) (g.spelled (k.Numeral (codes "1")))) g.none)))) ∷ [])) ∷ []) ≡ ((0, 0) ∷ [], 1)
unfolding base_names standard_libraries prelude encode_utf8
skipped_datum_inserted = refl

pub datum_skipped_behind_the_last_leaf : carried_rows (((codes "file:///a.scm"), Some (((g.list (p 0 15 0 45) (g.part (g.atom (p 1 1 1 14) (g.spelled (k.Name (codes "define-syntax") false))) (g.part (g.atom (p 2 2 15 16) (g.spelled (k.Name (codes "m") false))) (g.part (g.list (p 3 14 17 44) (g.part (g.atom (p 4 4 18 30) (g.spelled (k.Name (codes "syntax-rules") false))) (g.part (g.list (p 5 6 31 33) g.none) (g.part (g.list (p 7 13 34 43) (g.part (g.list (p 8 11 35 40) (g.part (g.atom (p 9 9 36 37) (g.spelled (k.Name (codes "_") false))) (g.part (g.atom (p 10 10 38 39) (g.spelled (k.Name (codes "a") false))) g.none))) (g.part (g.atom (p 12 12 41 42) (g.spelled (k.Name (codes "a") false))) g.none))) g.none)))) g.none))))) ∷ ((g.list (p 16 19 46 51) (g.part (g.atom (p 17 17 47 48) (g.spelled (k.Name (codes "m") false))) (g.part (g.atom (p 18 18 49 50) (g.spelled (k.Numeral (codes "1")))) g.none)))) ∷ [])) ∷ []) (((codes "file:///a.scm"), Some (((g.list (p 0 15 0 45) (g.part (g.atom (p 1 1 1 14) (g.spelled (k.Name (codes "define-syntax") false))) (g.part (g.atom (p 2 2 15 16) (g.spelled (k.Name (codes "m") false))) (g.part (g.list (p 3 14 17 44) (g.part (g.atom (p 4 4 18 30) (g.spelled (k.Name (codes "syntax-rules") false))) (g.part (g.list (p 5 6 31 33) g.none) (g.part (g.list (p 7 13 34 43) (g.part (g.list (p 8 11 35 40) (g.part (g.atom (p 9 9 36 37) (g.spelled (k.Name (codes "_") false))) (g.part (g.atom (p 10 10 38 39) (g.spelled (k.Name (codes "a") false))) g.none))) (g.part (g.atom (p 12 12 41 42) (g.spelled (k.Name (codes "a") false))) g.none))) g.none)))) g.none))))) ∷ ((g.list (p 16 21 46 55) (g.part (g.atom (p 17 17 47 48) (g.spelled (k.Name (codes "m") false))) (g.part (g.atom (p 18 18 49 50) (g.spelled (k.Numeral (codes "1")))) g.none)))) ∷ [])) ∷ []) ≡ ((0, 0) ∷ (0, 1) ∷ [], 0)
unfolding base_names standard_libraries prelude encode_utf8
datum_skipped_behind_the_last_leaf = refl

pub form_taken_away : carried_rows (((codes "file:///a.scm"), Some (((g.list (p 0 15 0 45) (g.part (g.atom (p 1 1 1 14) (g.spelled (k.Name (codes "define-syntax") false))) (g.part (g.atom (p 2 2 15 16) (g.spelled (k.Name (codes "m") false))) (g.part (g.list (p 3 14 17 44) (g.part (g.atom (p 4 4 18 30) (g.spelled (k.Name (codes "syntax-rules") false))) (g.part (g.list (p 5 6 31 33) g.none) (g.part (g.list (p 7 13 34 43) (g.part (g.list (p 8 11 35 40) (g.part (g.atom (p 9 9 36 37) (g.spelled (k.Name (codes "_") false))) (g.part (g.atom (p 10 10 38 39) (g.spelled (k.Name (codes "a") false))) g.none))) (g.part (g.atom (p 12 12 41 42) (g.spelled (k.Name (codes "a") false))) g.none))) g.none)))) g.none))))) ∷ ((g.list (p 16 19 46 51) (g.part (g.atom (p 17 17 47 48) (g.spelled (k.Name (codes "m") false))) (g.part (g.atom (p 18 18 49 50) (g.spelled (k.Numeral (codes "1")))) g.none)))) ∷ ((g.list (p 20 23 52 57) (g.part (g.atom (p 21 21 53 54) (g.spelled (k.Name (codes "m") false))) (g.part (g.atom (p 22 22 55 56) (g.spelled (k.Numeral (codes "2")))) g.none)))) ∷ ((g.list (p 24 27 58 63) (g.part (g.atom (p 25 25 59 60) (g.spelled (k.Name (codes "m") false))) (g.part (g.atom (p 26 26 61 62) (g.spelled (k.Numeral (codes "3")))) g.none)))) ∷ [])) ∷ []) (((codes "file:///a.scm"), Some (((g.list (p 0 15 0 45) (g.part (g.atom (p 1 1 1 14) (g.spelled (k.Name (codes "define-syntax") false))) (g.part (g.atom (p 2 2 15 16) (g.spelled (k.Name (codes "m") false))) (g.part (g.list (p 3 14 17 44) (g.part (g.atom (p 4 4 18 30) (g.spelled (k.Name (codes "syntax-rules") false))) (g.part (g.list (p 5 6 31 33) g.none) (g.part (g.list (p 7 13 34 43) (g.part (g.list (p 8 11 35 40) (g.part (g.atom (p 9 9 36 37) (g.spelled (k.Name (codes "_") false))) (g.part (g.atom (p 10 10 38 39) (g.spelled (k.Name (codes "a") false))) g.none))) (g.part (g.atom (p 12 12 41 42) (g.spelled (k.Name (codes "a") false))) g.none))) g.none)))) g.none))))) ∷ ((g.list (p 16 19 46 51) (g.part (g.atom (p 17 17 47 48) (g.spelled (k.Name (codes "m") false))) (g.part (g.atom (p 18 18 49 50) (g.spelled (k.Numeral (codes "1")))) g.none)))) ∷ ((g.list (p 20 23 52 57) (g.part (g.atom (p 21 21 53 54) (g.spelled (k.Name (codes "m") false))) (g.part (g.atom (p 22 22 55 56) (g.spelled (k.Numeral (codes "3")))) g.none)))) ∷ [])) ∷ []) ≡ ((0, 0) ∷ (0, 1) ∷ (0, 2) ∷ [], 0)
unfolding base_names standard_libraries prelude encode_utf8
form_taken_away = refl

pub front_before_end : carried_rows (((codes "file:///a.scm"), Some (((g.list (p 0 5 0 10) (g.part (g.atom (p 1 1 1 3) (g.spelled (k.Name (codes "if") false))) (g.part (g.atom (p 2 2 4 5) (g.spelled (k.Numeral (codes "1")))) (g.part (g.atom (p 3 3 6 7) (g.spelled (k.Numeral (codes "2")))) (g.part (g.atom (p 4 4 8 9) (g.spelled (k.Numeral (codes "3")))) g.none)))))) ∷ ((g.list (p 6 11 11 21) (g.part (g.atom (p 7 7 12 14) (g.spelled (k.Name (codes "if") false))) (g.part (g.atom (p 8 8 15 16) (g.spelled (k.Numeral (codes "1")))) (g.part (g.atom (p 9 9 17 18) (g.spelled (k.Numeral (codes "2")))) (g.part (g.atom (p 10 10 19 20) (g.spelled (k.Numeral (codes "3")))) g.none)))))) ∷ [])) ∷ []) (((codes "file:///a.scm"), Some (((g.list (p 0 5 0 10) (g.part (g.atom (p 1 1 1 3) (g.spelled (k.Name (codes "if") false))) (g.part (g.atom (p 2 2 4 5) (g.spelled (k.Numeral (codes "1")))) (g.part (g.atom (p 3 3 6 7) (g.spelled (k.Numeral (codes "2")))) (g.part (g.atom (p 4 4 8 9) (g.spelled (k.Numeral (codes "3")))) g.none)))))) ∷ ((g.list (p 6 11 11 21) (g.part (g.atom (p 7 7 12 14) (g.spelled (k.Name (codes "if") false))) (g.part (g.atom (p 8 8 15 16) (g.spelled (k.Numeral (codes "1")))) (g.part (g.atom (p 9 9 17 18) (g.spelled (k.Numeral (codes "2")))) (g.part (g.atom (p 10 10 19 20) (g.spelled (k.Numeral (codes "3")))) g.none)))))) ∷ ((g.list (p 12 17 22 32) (g.part (g.atom (p 13 13 23 25) (g.spelled (k.Name (codes "if") false))) (g.part (g.atom (p 14 14 26 27) (g.spelled (k.Numeral (codes "1")))) (g.part (g.atom (p 15 15 28 29) (g.spelled (k.Numeral (codes "2")))) (g.part (g.atom (p 16 16 30 31) (g.spelled (k.Numeral (codes "3")))) g.none)))))) ∷ [])) ∷ []) ≡ ((0, 0) ∷ (0, 1) ∷ [], 0)
unfolding base_names standard_libraries prelude encode_utf8
front_before_end = refl

pub front_before_end_with_uses : carried_rows (((codes "file:///a.scm"), Some (((g.list (p 0 15 0 45) (g.part (g.atom (p 1 1 1 14) (g.spelled (k.Name (codes "define-syntax") false))) (g.part (g.atom (p 2 2 15 16) (g.spelled (k.Name (codes "m") false))) (g.part (g.list (p 3 14 17 44) (g.part (g.atom (p 4 4 18 30) (g.spelled (k.Name (codes "syntax-rules") false))) (g.part (g.list (p 5 6 31 33) g.none) (g.part (g.list (p 7 13 34 43) (g.part (g.list (p 8 11 35 40) (g.part (g.atom (p 9 9 36 37) (g.spelled (k.Name (codes "_") false))) (g.part (g.atom (p 10 10 38 39) (g.spelled (k.Name (codes "a") false))) g.none))) (g.part (g.atom (p 12 12 41 42) (g.spelled (k.Name (codes "a") false))) g.none))) g.none)))) g.none))))) ∷ ((g.list (p 16 19 46 51) (g.part (g.atom (p 17 17 47 48) (g.spelled (k.Name (codes "m") false))) (g.part (g.atom (p 18 18 49 50) (g.spelled (k.Numeral (codes "1")))) g.none)))) ∷ ((g.list (p 20 23 52 57) (g.part (g.atom (p 21 21 53 54) (g.spelled (k.Name (codes "m") false))) (g.part (g.atom (p 22 22 55 56) (g.spelled (k.Numeral (codes "1")))) g.none)))) ∷ [])) ∷ []) (((codes "file:///a.scm"), Some (((g.list (p 0 15 0 45) (g.part (g.atom (p 1 1 1 14) (g.spelled (k.Name (codes "define-syntax") false))) (g.part (g.atom (p 2 2 15 16) (g.spelled (k.Name (codes "m") false))) (g.part (g.list (p 3 14 17 44) (g.part (g.atom (p 4 4 18 30) (g.spelled (k.Name (codes "syntax-rules") false))) (g.part (g.list (p 5 6 31 33) g.none) (g.part (g.list (p 7 13 34 43) (g.part (g.list (p 8 11 35 40) (g.part (g.atom (p 9 9 36 37) (g.spelled (k.Name (codes "_") false))) (g.part (g.atom (p 10 10 38 39) (g.spelled (k.Name (codes "a") false))) g.none))) (g.part (g.atom (p 12 12 41 42) (g.spelled (k.Name (codes "a") false))) g.none))) g.none)))) g.none))))) ∷ ((g.list (p 16 19 46 51) (g.part (g.atom (p 17 17 47 48) (g.spelled (k.Name (codes "m") false))) (g.part (g.atom (p 18 18 49 50) (g.spelled (k.Numeral (codes "1")))) g.none)))) ∷ ((g.list (p 20 23 52 57) (g.part (g.atom (p 21 21 53 54) (g.spelled (k.Name (codes "m") false))) (g.part (g.atom (p 22 22 55 56) (g.spelled (k.Numeral (codes "1")))) g.none)))) ∷ ((g.list (p 24 27 58 63) (g.part (g.atom (p 25 25 59 60) (g.spelled (k.Name (codes "m") false))) (g.part (g.atom (p 26 26 61 62) (g.spelled (k.Numeral (codes "1")))) g.none)))) ∷ [])) ∷ []) ≡ ((0, 0) ∷ (0, 1) ∷ (0, 2) ∷ [], 1)
unfolding base_names standard_libraries prelude encode_utf8
front_before_end_with_uses = refl

pub definition_added_before_its_use : carried_rows (((codes "file:///a.scm"), Some (((g.list (p 0 15 0 45) (g.part (g.atom (p 1 1 1 14) (g.spelled (k.Name (codes "define-syntax") false))) (g.part (g.atom (p 2 2 15 16) (g.spelled (k.Name (codes "m") false))) (g.part (g.list (p 3 14 17 44) (g.part (g.atom (p 4 4 18 30) (g.spelled (k.Name (codes "syntax-rules") false))) (g.part (g.list (p 5 6 31 33) g.none) (g.part (g.list (p 7 13 34 43) (g.part (g.list (p 8 11 35 40) (g.part (g.atom (p 9 9 36 37) (g.spelled (k.Name (codes "_") false))) (g.part (g.atom (p 10 10 38 39) (g.spelled (k.Name (codes "a") false))) g.none))) (g.part (g.atom (p 12 12 41 42) (g.spelled (k.Name (codes "a") false))) g.none))) g.none)))) g.none))))) ∷ ((g.list (p 16 19 46 51) (g.part (g.atom (p 17 17 47 48) (g.spelled (k.Name (codes "m") false))) (g.part (g.atom (p 18 18 49 50) (g.spelled (k.Name (codes "x") false))) g.none)))) ∷ [])) ∷ []) (((codes "file:///a.scm"), Some (((g.list (p 0 15 0 45) (g.part (g.atom (p 1 1 1 14) (g.spelled (k.Name (codes "define-syntax") false))) (g.part (g.atom (p 2 2 15 16) (g.spelled (k.Name (codes "m") false))) (g.part (g.list (p 3 14 17 44) (g.part (g.atom (p 4 4 18 30) (g.spelled (k.Name (codes "syntax-rules") false))) (g.part (g.list (p 5 6 31 33) g.none) (g.part (g.list (p 7 13 34 43) (g.part (g.list (p 8 11 35 40) (g.part (g.atom (p 9 9 36 37) (g.spelled (k.Name (codes "_") false))) (g.part (g.atom (p 10 10 38 39) (g.spelled (k.Name (codes "a") false))) g.none))) (g.part (g.atom (p 12 12 41 42) (g.spelled (k.Name (codes "a") false))) g.none))) g.none)))) g.none))))) ∷ ((g.list (p 16 20 46 58) (g.part (g.atom (p 17 17 47 53) (g.spelled (k.Name (codes "define") false))) (g.part (g.atom (p 18 18 54 55) (g.spelled (k.Name (codes "x") false))) (g.part (g.atom (p 19 19 56 57) (g.spelled (k.Numeral (codes "1")))) g.none))))) ∷ ((g.list (p 21 24 59 64) (g.part (g.atom (p 22 22 60 61) (g.spelled (k.Name (codes "m") false))) (g.part (g.atom (p 23 23 62 63) (g.spelled (k.Name (codes "x") false))) g.none)))) ∷ [])) ∷ []) ≡ ((0, 0) ∷ [], 1)
unfolding base_names standard_libraries prelude encode_utf8
definition_added_before_its_use = refl

pub definition_added_after_its_use : carried_rows (((codes "file:///a.scm"), Some (((g.list (p 0 15 0 45) (g.part (g.atom (p 1 1 1 14) (g.spelled (k.Name (codes "define-syntax") false))) (g.part (g.atom (p 2 2 15 16) (g.spelled (k.Name (codes "m") false))) (g.part (g.list (p 3 14 17 44) (g.part (g.atom (p 4 4 18 30) (g.spelled (k.Name (codes "syntax-rules") false))) (g.part (g.list (p 5 6 31 33) g.none) (g.part (g.list (p 7 13 34 43) (g.part (g.list (p 8 11 35 40) (g.part (g.atom (p 9 9 36 37) (g.spelled (k.Name (codes "_") false))) (g.part (g.atom (p 10 10 38 39) (g.spelled (k.Name (codes "a") false))) g.none))) (g.part (g.atom (p 12 12 41 42) (g.spelled (k.Name (codes "a") false))) g.none))) g.none)))) g.none))))) ∷ ((g.list (p 16 19 46 51) (g.part (g.atom (p 17 17 47 48) (g.spelled (k.Name (codes "m") false))) (g.part (g.atom (p 18 18 49 50) (g.spelled (k.Name (codes "x") false))) g.none)))) ∷ [])) ∷ []) (((codes "file:///a.scm"), Some (((g.list (p 0 15 0 45) (g.part (g.atom (p 1 1 1 14) (g.spelled (k.Name (codes "define-syntax") false))) (g.part (g.atom (p 2 2 15 16) (g.spelled (k.Name (codes "m") false))) (g.part (g.list (p 3 14 17 44) (g.part (g.atom (p 4 4 18 30) (g.spelled (k.Name (codes "syntax-rules") false))) (g.part (g.list (p 5 6 31 33) g.none) (g.part (g.list (p 7 13 34 43) (g.part (g.list (p 8 11 35 40) (g.part (g.atom (p 9 9 36 37) (g.spelled (k.Name (codes "_") false))) (g.part (g.atom (p 10 10 38 39) (g.spelled (k.Name (codes "a") false))) g.none))) (g.part (g.atom (p 12 12 41 42) (g.spelled (k.Name (codes "a") false))) g.none))) g.none)))) g.none))))) ∷ ((g.list (p 16 19 46 51) (g.part (g.atom (p 17 17 47 48) (g.spelled (k.Name (codes "m") false))) (g.part (g.atom (p 18 18 49 50) (g.spelled (k.Name (codes "x") false))) g.none)))) ∷ ((g.list (p 20 24 52 64) (g.part (g.atom (p 21 21 53 59) (g.spelled (k.Name (codes "define") false))) (g.part (g.atom (p 22 22 60 61) (g.spelled (k.Name (codes "x") false))) (g.part (g.atom (p 23 23 62 63) (g.spelled (k.Numeral (codes "1")))) g.none))))) ∷ [])) ∷ []) ≡ ((0, 0) ∷ [], 1)
unfolding base_names standard_libraries prelude encode_utf8
definition_added_after_its_use = refl

pub definition_of_another_name_added : carried_rows (((codes "file:///a.scm"), Some (((g.list (p 0 15 0 45) (g.part (g.atom (p 1 1 1 14) (g.spelled (k.Name (codes "define-syntax") false))) (g.part (g.atom (p 2 2 15 16) (g.spelled (k.Name (codes "m") false))) (g.part (g.list (p 3 14 17 44) (g.part (g.atom (p 4 4 18 30) (g.spelled (k.Name (codes "syntax-rules") false))) (g.part (g.list (p 5 6 31 33) g.none) (g.part (g.list (p 7 13 34 43) (g.part (g.list (p 8 11 35 40) (g.part (g.atom (p 9 9 36 37) (g.spelled (k.Name (codes "_") false))) (g.part (g.atom (p 10 10 38 39) (g.spelled (k.Name (codes "a") false))) g.none))) (g.part (g.atom (p 12 12 41 42) (g.spelled (k.Name (codes "a") false))) g.none))) g.none)))) g.none))))) ∷ ((g.list (p 16 19 46 51) (g.part (g.atom (p 17 17 47 48) (g.spelled (k.Name (codes "m") false))) (g.part (g.atom (p 18 18 49 50) (g.spelled (k.Name (codes "x") false))) g.none)))) ∷ [])) ∷ []) (((codes "file:///a.scm"), Some (((g.list (p 0 15 0 45) (g.part (g.atom (p 1 1 1 14) (g.spelled (k.Name (codes "define-syntax") false))) (g.part (g.atom (p 2 2 15 16) (g.spelled (k.Name (codes "m") false))) (g.part (g.list (p 3 14 17 44) (g.part (g.atom (p 4 4 18 30) (g.spelled (k.Name (codes "syntax-rules") false))) (g.part (g.list (p 5 6 31 33) g.none) (g.part (g.list (p 7 13 34 43) (g.part (g.list (p 8 11 35 40) (g.part (g.atom (p 9 9 36 37) (g.spelled (k.Name (codes "_") false))) (g.part (g.atom (p 10 10 38 39) (g.spelled (k.Name (codes "a") false))) g.none))) (g.part (g.atom (p 12 12 41 42) (g.spelled (k.Name (codes "a") false))) g.none))) g.none)))) g.none))))) ∷ ((g.list (p 16 19 46 51) (g.part (g.atom (p 17 17 47 48) (g.spelled (k.Name (codes "m") false))) (g.part (g.atom (p 18 18 49 50) (g.spelled (k.Name (codes "x") false))) g.none)))) ∷ ((g.list (p 20 24 52 64) (g.part (g.atom (p 21 21 53 59) (g.spelled (k.Name (codes "define") false))) (g.part (g.atom (p 22 22 60 61) (g.spelled (k.Name (codes "y") false))) (g.part (g.atom (p 23 23 62 63) (g.spelled (k.Numeral (codes "1")))) g.none))))) ∷ [])) ∷ []) ≡ ((0, 0) ∷ (0, 1) ∷ [], 0)
unfolding base_names standard_libraries prelude encode_utf8
definition_of_another_name_added = refl

pub definition_changed : carried_rows (((codes "file:///a.scm"), Some (((g.list (p 0 15 0 45) (g.part (g.atom (p 1 1 1 14) (g.spelled (k.Name (codes "define-syntax") false))) (g.part (g.atom (p 2 2 15 16) (g.spelled (k.Name (codes "m") false))) (g.part (g.list (p 3 14 17 44) (g.part (g.atom (p 4 4 18 30) (g.spelled (k.Name (codes "syntax-rules") false))) (g.part (g.list (p 5 6 31 33) g.none) (g.part (g.list (p 7 13 34 43) (g.part (g.list (p 8 11 35 40) (g.part (g.atom (p 9 9 36 37) (g.spelled (k.Name (codes "_") false))) (g.part (g.atom (p 10 10 38 39) (g.spelled (k.Name (codes "a") false))) g.none))) (g.part (g.atom (p 12 12 41 42) (g.spelled (k.Name (codes "a") false))) g.none))) g.none)))) g.none))))) ∷ ((g.list (p 16 20 46 58) (g.part (g.atom (p 17 17 47 53) (g.spelled (k.Name (codes "define") false))) (g.part (g.atom (p 18 18 54 55) (g.spelled (k.Name (codes "x") false))) (g.part (g.atom (p 19 19 56 57) (g.spelled (k.Numeral (codes "1")))) g.none))))) ∷ ((g.list (p 21 24 59 64) (g.part (g.atom (p 22 22 60 61) (g.spelled (k.Name (codes "m") false))) (g.part (g.atom (p 23 23 62 63) (g.spelled (k.Name (codes "x") false))) g.none)))) ∷ [])) ∷ []) (((codes "file:///a.scm"), Some (((g.list (p 0 15 0 45) (g.part (g.atom (p 1 1 1 14) (g.spelled (k.Name (codes "define-syntax") false))) (g.part (g.atom (p 2 2 15 16) (g.spelled (k.Name (codes "m") false))) (g.part (g.list (p 3 14 17 44) (g.part (g.atom (p 4 4 18 30) (g.spelled (k.Name (codes "syntax-rules") false))) (g.part (g.list (p 5 6 31 33) g.none) (g.part (g.list (p 7 13 34 43) (g.part (g.list (p 8 11 35 40) (g.part (g.atom (p 9 9 36 37) (g.spelled (k.Name (codes "_") false))) (g.part (g.atom (p 10 10 38 39) (g.spelled (k.Name (codes "a") false))) g.none))) (g.part (g.atom (p 12 12 41 42) (g.spelled (k.Name (codes "a") false))) g.none))) g.none)))) g.none))))) ∷ ((g.list (p 16 20 46 58) (g.part (g.atom (p 17 17 47 53) (g.spelled (k.Name (codes "define") false))) (g.part (g.atom (p 18 18 54 55) (g.spelled (k.Name (codes "x") false))) (g.part (g.atom (p 19 19 56 57) (g.spelled (k.Numeral (codes "2")))) g.none))))) ∷ ((g.list (p 21 24 59 64) (g.part (g.atom (p 22 22 60 61) (g.spelled (k.Name (codes "m") false))) (g.part (g.atom (p 23 23 62 63) (g.spelled (k.Name (codes "x") false))) g.none)))) ∷ [])) ∷ []) ≡ ((0, 0) ∷ (0, 2) ∷ [], 0)
unfolding base_names standard_libraries prelude encode_utf8
definition_changed = refl

pub definition_comes_to_stand_in_another_form : carried_rows (((codes "file:///a.scm"), Some (((g.list (p 0 15 0 45) (g.part (g.atom (p 1 1 1 14) (g.spelled (k.Name (codes "define-syntax") false))) (g.part (g.atom (p 2 2 15 16) (g.spelled (k.Name (codes "m") false))) (g.part (g.list (p 3 14 17 44) (g.part (g.atom (p 4 4 18 30) (g.spelled (k.Name (codes "syntax-rules") false))) (g.part (g.list (p 5 6 31 33) g.none) (g.part (g.list (p 7 13 34 43) (g.part (g.list (p 8 11 35 40) (g.part (g.atom (p 9 9 36 37) (g.spelled (k.Name (codes "_") false))) (g.part (g.atom (p 10 10 38 39) (g.spelled (k.Name (codes "a") false))) g.none))) (g.part (g.atom (p 12 12 41 42) (g.spelled (k.Name (codes "a") false))) g.none))) g.none)))) g.none))))) ∷ ((g.list (p 16 20 46 58) (g.part (g.atom (p 17 17 47 53) (g.spelled (k.Name (codes "define") false))) (g.part (g.atom (p 18 18 54 55) (g.spelled (k.Name (codes "x") false))) (g.part (g.atom (p 19 19 56 57) (g.spelled (k.Numeral (codes "1")))) g.none))))) ∷ ((g.list (p 21 25 59 71) (g.part (g.atom (p 22 22 60 66) (g.spelled (k.Name (codes "define") false))) (g.part (g.atom (p 23 23 67 68) (g.spelled (k.Name (codes "y") false))) (g.part (g.atom (p 24 24 69 70) (g.spelled (k.Numeral (codes "2")))) g.none))))) ∷ ((g.list (p 26 29 72 77) (g.part (g.atom (p 27 27 73 74) (g.spelled (k.Name (codes "m") false))) (g.part (g.atom (p 28 28 75 76) (g.spelled (k.Name (codes "x") false))) g.none)))) ∷ [])) ∷ []) (((codes "file:///a.scm"), Some (((g.list (p 0 15 0 45) (g.part (g.atom (p 1 1 1 14) (g.spelled (k.Name (codes "define-syntax") false))) (g.part (g.atom (p 2 2 15 16) (g.spelled (k.Name (codes "m") false))) (g.part (g.list (p 3 14 17 44) (g.part (g.atom (p 4 4 18 30) (g.spelled (k.Name (codes "syntax-rules") false))) (g.part (g.list (p 5 6 31 33) g.none) (g.part (g.list (p 7 13 34 43) (g.part (g.list (p 8 11 35 40) (g.part (g.atom (p 9 9 36 37) (g.spelled (k.Name (codes "_") false))) (g.part (g.atom (p 10 10 38 39) (g.spelled (k.Name (codes "a") false))) g.none))) (g.part (g.atom (p 12 12 41 42) (g.spelled (k.Name (codes "a") false))) g.none))) g.none)))) g.none))))) ∷ ((g.list (p 16 20 46 58) (g.part (g.atom (p 17 17 47 53) (g.spelled (k.Name (codes "define") false))) (g.part (g.atom (p 18 18 54 55) (g.spelled (k.Name (codes "y") false))) (g.part (g.atom (p 19 19 56 57) (g.spelled (k.Numeral (codes "2")))) g.none))))) ∷ ((g.list (p 21 25 59 71) (g.part (g.atom (p 22 22 60 66) (g.spelled (k.Name (codes "define") false))) (g.part (g.atom (p 23 23 67 68) (g.spelled (k.Name (codes "x") false))) (g.part (g.atom (p 24 24 69 70) (g.spelled (k.Numeral (codes "1")))) g.none))))) ∷ ((g.list (p 26 29 72 77) (g.part (g.atom (p 27 27 73 74) (g.spelled (k.Name (codes "m") false))) (g.part (g.atom (p 28 28 75 76) (g.spelled (k.Name (codes "x") false))) g.none)))) ∷ [])) ∷ []) ≡ ((0, 0) ∷ (0, 3) ∷ [], 0)
unfolding base_names standard_libraries prelude encode_utf8
definition_comes_to_stand_in_another_form = refl

pub macro_redefined : carried_rows (((codes "file:///a.scm"), Some (((g.list (p 0 15 0 45) (g.part (g.atom (p 1 1 1 14) (g.spelled (k.Name (codes "define-syntax") false))) (g.part (g.atom (p 2 2 15 16) (g.spelled (k.Name (codes "m") false))) (g.part (g.list (p 3 14 17 44) (g.part (g.atom (p 4 4 18 30) (g.spelled (k.Name (codes "syntax-rules") false))) (g.part (g.list (p 5 6 31 33) g.none) (g.part (g.list (p 7 13 34 43) (g.part (g.list (p 8 11 35 40) (g.part (g.atom (p 9 9 36 37) (g.spelled (k.Name (codes "_") false))) (g.part (g.atom (p 10 10 38 39) (g.spelled (k.Name (codes "a") false))) g.none))) (g.part (g.atom (p 12 12 41 42) (g.spelled (k.Name (codes "a") false))) g.none))) g.none)))) g.none))))) ∷ ((g.list (p 16 19 46 51) (g.part (g.atom (p 17 17 47 48) (g.spelled (k.Name (codes "m") false))) (g.part (g.atom (p 18 18 49 50) (g.spelled (k.Numeral (codes "1")))) g.none)))) ∷ ((g.list (p 20 25 52 62) (g.part (g.atom (p 21 21 53 55) (g.spelled (k.Name (codes "if") false))) (g.part (g.atom (p 22 22 56 57) (g.spelled (k.Numeral (codes "1")))) (g.part (g.atom (p 23 23 58 59) (g.spelled (k.Numeral (codes "2")))) (g.part (g.atom (p 24 24 60 61) (g.spelled (k.Numeral (codes "3")))) g.none)))))) ∷ [])) ∷ []) (((codes "file:///a.scm"), Some (((g.list (p 0 17 0 47) (g.part (g.atom (p 1 1 1 14) (g.spelled (k.Name (codes "define-syntax") false))) (g.part (g.atom (p 2 2 15 16) (g.spelled (k.Name (codes "m") false))) (g.part (g.list (p 3 16 17 46) (g.part (g.atom (p 4 4 18 30) (g.spelled (k.Name (codes "syntax-rules") false))) (g.part (g.list (p 5 6 31 33) g.none) (g.part (g.list (p 7 15 34 45) (g.part (g.list (p 8 11 35 40) (g.part (g.atom (p 9 9 36 37) (g.spelled (k.Name (codes "_") false))) (g.part (g.atom (p 10 10 38 39) (g.spelled (k.Name (codes "a") false))) g.none))) (g.part (g.list (p 12 14 41 44) (g.part (g.atom (p 13 13 42 43) (g.spelled (k.Name (codes "a") false))) g.none)) g.none))) g.none)))) g.none))))) ∷ ((g.list (p 18 21 48 53) (g.part (g.atom (p 19 19 49 50) (g.spelled (k.Name (codes "m") false))) (g.part (g.atom (p 20 20 51 52) (g.spelled (k.Numeral (codes "1")))) g.none)))) ∷ ((g.list (p 22 27 54 64) (g.part (g.atom (p 23 23 55 57) (g.spelled (k.Name (codes "if") false))) (g.part (g.atom (p 24 24 58 59) (g.spelled (k.Numeral (codes "1")))) (g.part (g.atom (p 25 25 60 61) (g.spelled (k.Numeral (codes "2")))) (g.part (g.atom (p 26 26 62 63) (g.spelled (k.Numeral (codes "3")))) g.none)))))) ∷ [])) ∷ []) ≡ ((0, 2) ∷ [], 1)
unfolding base_names standard_libraries prelude encode_utf8
macro_redefined = refl

pub macro_redefined_with_equal_rules_at_other_tokens : carried_rows (((codes "file:///a.scm"), Some (((g.list (p 0 15 0 45) (g.part (g.atom (p 1 1 1 14) (g.spelled (k.Name (codes "define-syntax") false))) (g.part (g.atom (p 2 2 15 16) (g.spelled (k.Name (codes "m") false))) (g.part (g.list (p 3 14 17 44) (g.part (g.atom (p 4 4 18 30) (g.spelled (k.Name (codes "syntax-rules") false))) (g.part (g.list (p 5 6 31 33) g.none) (g.part (g.list (p 7 13 34 43) (g.part (g.list (p 8 11 35 40) (g.part (g.atom (p 9 9 36 37) (g.spelled (k.Name (codes "_") false))) (g.part (g.atom (p 10 10 38 39) (g.spelled (k.Name (codes "a") false))) g.none))) (g.part (g.atom (p 12 12 41 42) (g.spelled (k.Name (codes "a") false))) g.none))) g.none)))) g.none))))) ∷ ((g.list (p 16 19 46 51) (g.part (g.atom (p 17 17 47 48) (g.spelled (k.Name (codes "m") false))) (g.part (g.atom (p 18 18 49 50) (g.spelled (k.Numeral (codes "1")))) g.none)))) ∷ [])) ∷ []) (((codes "file:///a.scm"), Some (((g.list (p 0 17 0 49) (g.part (g.atom (p 1 1 1 14) (g.spelled (k.Name (codes "define-syntax") false))) (g.part (g.atom (p 2 2 15 16) (g.spelled (k.Name (codes "m") false))) (g.part (g.list (p 3 16 17 48) (g.part (g.atom (p 4 4 18 30) (g.spelled (k.Name (codes "syntax-rules") false))) (g.part (g.list (p 5 6 31 33) g.none) (g.part (g.list (p 9 15 38 47) (g.part (g.list (p 10 13 39 44) (g.part (g.atom (p 11 11 40 41) (g.spelled (k.Name (codes "_") false))) (g.part (g.atom (p 12 12 42 43) (g.spelled (k.Name (codes "a") false))) g.none))) (g.part (g.atom (p 14 14 45 46) (g.spelled (k.Name (codes "a") false))) g.none))) g.none)))) g.none))))) ∷ ((g.list (p 18 21 50 55) (g.part (g.atom (p 19 19 51 52) (g.spelled (k.Name (codes "m") false))) (g.part (g.atom (p 20 20 53 54) (g.spelled (k.Numeral (codes "1")))) g.none)))) ∷ [])) ∷ []) ≡ ([], 1)
unfolding base_names standard_libraries prelude encode_utf8
macro_redefined_with_equal_rules_at_other_tokens = refl

pub macro_moved_to_another_place : carried_rows (((codes "file:///a.scm"), Some (((g.list (p 0 15 0 45) (g.part (g.atom (p 1 1 1 14) (g.spelled (k.Name (codes "define-syntax") false))) (g.part (g.atom (p 2 2 15 16) (g.spelled (k.Name (codes "m") false))) (g.part (g.list (p 3 14 17 44) (g.part (g.atom (p 4 4 18 30) (g.spelled (k.Name (codes "syntax-rules") false))) (g.part (g.list (p 5 6 31 33) g.none) (g.part (g.list (p 7 13 34 43) (g.part (g.list (p 8 11 35 40) (g.part (g.atom (p 9 9 36 37) (g.spelled (k.Name (codes "_") false))) (g.part (g.atom (p 10 10 38 39) (g.spelled (k.Name (codes "a") false))) g.none))) (g.part (g.atom (p 12 12 41 42) (g.spelled (k.Name (codes "a") false))) g.none))) g.none)))) g.none))))) ∷ ((g.list (p 16 20 46 58) (g.part (g.atom (p 17 17 47 53) (g.spelled (k.Name (codes "define") false))) (g.part (g.atom (p 18 18 54 55) (g.spelled (k.Name (codes "w") false))) (g.part (g.atom (p 19 19 56 57) (g.spelled (k.Numeral (codes "0")))) g.none))))) ∷ ((g.list (p 21 24 59 64) (g.part (g.atom (p 22 22 60 61) (g.spelled (k.Name (codes "m") false))) (g.part (g.atom (p 23 23 62 63) (g.spelled (k.Numeral (codes "1")))) g.none)))) ∷ [])) ∷ []) (((codes "file:///a.scm"), Some (((g.list (p 0 4 0 12) (g.part (g.atom (p 1 1 1 7) (g.spelled (k.Name (codes "define") false))) (g.part (g.atom (p 2 2 8 9) (g.spelled (k.Name (codes "w") false))) (g.part (g.atom (p 3 3 10 11) (g.spelled (k.Numeral (codes "0")))) g.none))))) ∷ ((g.list (p 5 20 13 58) (g.part (g.atom (p 6 6 14 27) (g.spelled (k.Name (codes "define-syntax") false))) (g.part (g.atom (p 7 7 28 29) (g.spelled (k.Name (codes "m") false))) (g.part (g.list (p 8 19 30 57) (g.part (g.atom (p 9 9 31 43) (g.spelled (k.Name (codes "syntax-rules") false))) (g.part (g.list (p 10 11 44 46) g.none) (g.part (g.list (p 12 18 47 56) (g.part (g.list (p 13 16 48 53) (g.part (g.atom (p 14 14 49 50) (g.spelled (k.Name (codes "_") false))) (g.part (g.atom (p 15 15 51 52) (g.spelled (k.Name (codes "a") false))) g.none))) (g.part (g.atom (p 17 17 54 55) (g.spelled (k.Name (codes "a") false))) g.none))) g.none)))) g.none))))) ∷ ((g.list (p 21 24 59 64) (g.part (g.atom (p 22 22 60 61) (g.spelled (k.Name (codes "m") false))) (g.part (g.atom (p 23 23 62 63) (g.spelled (k.Numeral (codes "1")))) g.none)))) ∷ [])) ∷ []) ≡ ([], 1)
unfolding base_names standard_libraries prelude encode_utf8
macro_moved_to_another_place = refl

pub macro_of_a_changed_form : carried_rows (((codes "file:///a.scm"), Some (((g.list (p 0 19 0 55) (g.part (g.atom (p 1 1 1 6) (g.spelled (k.Name (codes "begin") false))) (g.part (g.list (p 2 17 7 52) (g.part (g.atom (p 3 3 8 21) (g.spelled (k.Name (codes "define-syntax") false))) (g.part (g.atom (p 4 4 22 23) (g.spelled (k.Name (codes "m") false))) (g.part (g.list (p 5 16 24 51) (g.part (g.atom (p 6 6 25 37) (g.spelled (k.Name (codes "syntax-rules") false))) (g.part (g.list (p 7 8 38 40) g.none) (g.part (g.list (p 9 15 41 50) (g.part (g.list (p 10 13 42 47) (g.part (g.atom (p 11 11 43 44) (g.spelled (k.Name (codes "_") false))) (g.part (g.atom (p 12 12 45 46) (g.spelled (k.Name (codes "a") false))) g.none))) (g.part (g.atom (p 14 14 48 49) (g.spelled (k.Name (codes "a") false))) g.none))) g.none)))) g.none)))) (g.part (g.atom (p 18 18 53 54) (g.spelled (k.Numeral (codes "1")))) g.none))))) ∷ ((g.list (p 20 23 56 61) (g.part (g.atom (p 21 21 57 58) (g.spelled (k.Name (codes "m") false))) (g.part (g.atom (p 22 22 59 60) (g.spelled (k.Numeral (codes "1")))) g.none)))) ∷ [])) ∷ []) (((codes "file:///a.scm"), Some (((g.list (p 0 19 0 55) (g.part (g.atom (p 1 1 1 6) (g.spelled (k.Name (codes "begin") false))) (g.part (g.list (p 2 17 7 52) (g.part (g.atom (p 3 3 8 21) (g.spelled (k.Name (codes "define-syntax") false))) (g.part (g.atom (p 4 4 22 23) (g.spelled (k.Name (codes "m") false))) (g.part (g.list (p 5 16 24 51) (g.part (g.atom (p 6 6 25 37) (g.spelled (k.Name (codes "syntax-rules") false))) (g.part (g.list (p 7 8 38 40) g.none) (g.part (g.list (p 9 15 41 50) (g.part (g.list (p 10 13 42 47) (g.part (g.atom (p 11 11 43 44) (g.spelled (k.Name (codes "_") false))) (g.part (g.atom (p 12 12 45 46) (g.spelled (k.Name (codes "a") false))) g.none))) (g.part (g.atom (p 14 14 48 49) (g.spelled (k.Name (codes "a") false))) g.none))) g.none)))) g.none)))) (g.part (g.atom (p 18 18 53 54) (g.spelled (k.Numeral (codes "2")))) g.none))))) ∷ ((g.list (p 20 23 56 61) (g.part (g.atom (p 21 21 57 58) (g.spelled (k.Name (codes "m") false))) (g.part (g.atom (p 22 22 59 60) (g.spelled (k.Numeral (codes "1")))) g.none)))) ∷ [])) ∷ []) ≡ ([], 1)
unfolding base_names standard_libraries prelude encode_utf8
macro_of_a_changed_form = refl

pub macro_that_defines_a_macro_moved : carried_rows (((codes "file:///a.scm"), Some (((g.list (p 0 37 0 110) (g.part (g.atom (p 1 1 1 14) (g.spelled (k.Name (codes "define-syntax") false))) (g.part (g.atom (p 2 2 15 18) (g.spelled (k.Name (codes "def") false))) (g.part (g.list (p 3 36 19 109) (g.part (g.atom (p 4 4 20 32) (g.spelled (k.Name (codes "syntax-rules") false))) (g.part (g.list (p 5 6 33 35) g.none) (g.part (g.list (p 7 35 36 108) (g.part (g.list (p 8 11 37 42) (g.part (g.atom (p 9 9 38 39) (g.spelled (k.Name (codes "_") false))) (g.part (g.atom (p 10 10 40 41) (g.spelled (k.Name (codes "n") false))) g.none))) (g.part (g.list (p 12 34 43 107) (g.part (g.atom (p 13 13 44 49) (g.spelled (k.Name (codes "begin") false))) (g.part (g.list (p 14 18 50 62) (g.part (g.atom (p 15 15 51 57) (g.spelled (k.Name (codes "define") false))) (g.part (g.atom (p 16 16 58 59) (g.spelled (k.Name (codes "t") false))) (g.part (g.atom (p 17 17 60 61) (g.spelled (k.Numeral (codes "1")))) g.none)))) (g.part (g.list (p 19 33 63 106) (g.part (g.atom (p 20 20 64 77) (g.spelled (k.Name (codes "define-syntax") false))) (g.part (g.atom (p 21 21 78 79) (g.spelled (k.Name (codes "n") false))) (g.part (g.list (p 22 32 80 105) (g.part (g.atom (p 23 23 81 93) (g.spelled (k.Name (codes "syntax-rules") false))) (g.part (g.list (p 24 25 94 96) g.none) (g.part (g.list (p 26 31 97 104) (g.part (g.list (p 27 29 98 101) (g.part (g.atom (p 28 28 99 100) (g.spelled (k.Name (codes "_") false))) g.none)) (g.part (g.atom (p 30 30 102 103) (g.spelled (k.Name (codes "t") false))) g.none))) g.none)))) g.none)))) g.none)))) g.none))) g.none)))) g.none))))) ∷ ((g.list (p 38 41 111 118) (g.part (g.atom (p 39 39 112 115) (g.spelled (k.Name (codes "def") false))) (g.part (g.atom (p 40 40 116 117) (g.spelled (k.Name (codes "f") false))) g.none)))) ∷ ((g.list (p 42 47 119 129) (g.part (g.atom (p 43 43 120 124) (g.spelled (k.Name (codes "list") false))) (g.part (g.list (p 44 46 125 128) (g.part (g.atom (p 45 45 126 127) (g.spelled (k.Name (codes "f") false))) g.none)) g.none)))) ∷ [])) ∷ []) (((codes "file:///a.scm"), Some (((g.list (p 0 4 0 12) (g.part (g.atom (p 1 1 1 7) (g.spelled (k.Name (codes "define") false))) (g.part (g.atom (p 2 2 8 9) (g.spelled (k.Name (codes "w") false))) (g.part (g.atom (p 3 3 10 11) (g.spelled (k.Numeral (codes "0")))) g.none))))) ∷ ((g.list (p 5 42 13 123) (g.part (g.atom (p 6 6 14 27) (g.spelled (k.Name (codes "define-syntax") false))) (g.part (g.atom (p 7 7 28 31) (g.spelled (k.Name (codes "def") false))) (g.part (g.list (p 8 41 32 122) (g.part (g.atom (p 9 9 33 45) (g.spelled (k.Name (codes "syntax-rules") false))) (g.part (g.list (p 10 11 46 48) g.none) (g.part (g.list (p 12 40 49 121) (g.part (g.list (p 13 16 50 55) (g.part (g.atom (p 14 14 51 52) (g.spelled (k.Name (codes "_") false))) (g.part (g.atom (p 15 15 53 54) (g.spelled (k.Name (codes "n") false))) g.none))) (g.part (g.list (p 17 39 56 120) (g.part (g.atom (p 18 18 57 62) (g.spelled (k.Name (codes "begin") false))) (g.part (g.list (p 19 23 63 75) (g.part (g.atom (p 20 20 64 70) (g.spelled (k.Name (codes "define") false))) (g.part (g.atom (p 21 21 71 72) (g.spelled (k.Name (codes "t") false))) (g.part (g.atom (p 22 22 73 74) (g.spelled (k.Numeral (codes "1")))) g.none)))) (g.part (g.list (p 24 38 76 119) (g.part (g.atom (p 25 25 77 90) (g.spelled (k.Name (codes "define-syntax") false))) (g.part (g.atom (p 26 26 91 92) (g.spelled (k.Name (codes "n") false))) (g.part (g.list (p 27 37 93 118) (g.part (g.atom (p 28 28 94 106) (g.spelled (k.Name (codes "syntax-rules") false))) (g.part (g.list (p 29 30 107 109) g.none) (g.part (g.list (p 31 36 110 117) (g.part (g.list (p 32 34 111 114) (g.part (g.atom (p 33 33 112 113) (g.spelled (k.Name (codes "_") false))) g.none)) (g.part (g.atom (p 35 35 115 116) (g.spelled (k.Name (codes "t") false))) g.none))) g.none)))) g.none)))) g.none)))) g.none))) g.none)))) g.none))))) ∷ ((g.list (p 43 46 124 131) (g.part (g.atom (p 44 44 125 128) (g.spelled (k.Name (codes "def") false))) (g.part (g.atom (p 45 45 129 130) (g.spelled (k.Name (codes "f") false))) g.none)))) ∷ ((g.list (p 47 52 132 142) (g.part (g.atom (p 48 48 133 137) (g.spelled (k.Name (codes "list") false))) (g.part (g.list (p 49 51 138 141) (g.part (g.atom (p 50 50 139 140) (g.spelled (k.Name (codes "f") false))) g.none)) g.none)))) ∷ [])) ∷ []) ≡ ((0, 1) ∷ (0, 2) ∷ (0, 3) ∷ [], 0)
unfolding base_names standard_libraries prelude encode_utf8
macro_that_defines_a_macro_moved = refl

pub macro_that_defines_a_macro_its_use_changed : carried_rows (((codes "file:///a.scm"), Some (((g.list (p 0 38 0 112) (g.part (g.atom (p 1 1 1 14) (g.spelled (k.Name (codes "define-syntax") false))) (g.part (g.atom (p 2 2 15 18) (g.spelled (k.Name (codes "def") false))) (g.part (g.list (p 3 37 19 111) (g.part (g.atom (p 4 4 20 32) (g.spelled (k.Name (codes "syntax-rules") false))) (g.part (g.list (p 5 6 33 35) g.none) (g.part (g.list (p 7 36 36 110) (g.part (g.list (p 8 12 37 44) (g.part (g.atom (p 9 9 38 39) (g.spelled (k.Name (codes "_") false))) (g.part (g.atom (p 10 10 40 41) (g.spelled (k.Name (codes "n") false))) (g.part (g.atom (p 11 11 42 43) (g.spelled (k.Name (codes "a") false))) g.none)))) (g.part (g.list (p 13 35 45 109) (g.part (g.atom (p 14 14 46 51) (g.spelled (k.Name (codes "begin") false))) (g.part (g.list (p 15 19 52 64) (g.part (g.atom (p 16 16 53 59) (g.spelled (k.Name (codes "define") false))) (g.part (g.atom (p 17 17 60 61) (g.spelled (k.Name (codes "t") false))) (g.part (g.atom (p 18 18 62 63) (g.spelled (k.Numeral (codes "1")))) g.none)))) (g.part (g.list (p 20 34 65 108) (g.part (g.atom (p 21 21 66 79) (g.spelled (k.Name (codes "define-syntax") false))) (g.part (g.atom (p 22 22 80 81) (g.spelled (k.Name (codes "n") false))) (g.part (g.list (p 23 33 82 107) (g.part (g.atom (p 24 24 83 95) (g.spelled (k.Name (codes "syntax-rules") false))) (g.part (g.list (p 25 26 96 98) g.none) (g.part (g.list (p 27 32 99 106) (g.part (g.list (p 28 30 100 103) (g.part (g.atom (p 29 29 101 102) (g.spelled (k.Name (codes "_") false))) g.none)) (g.part (g.atom (p 31 31 104 105) (g.spelled (k.Name (codes "t") false))) g.none))) g.none)))) g.none)))) g.none)))) g.none))) g.none)))) g.none))))) ∷ ((g.list (p 39 43 113 122) (g.part (g.atom (p 40 40 114 117) (g.spelled (k.Name (codes "def") false))) (g.part (g.atom (p 41 41 118 119) (g.spelled (k.Name (codes "f") false))) (g.part (g.atom (p 42 42 120 121) (g.spelled (k.Numeral (codes "1")))) g.none))))) ∷ ((g.list (p 44 49 123 133) (g.part (g.atom (p 45 45 124 128) (g.spelled (k.Name (codes "list") false))) (g.part (g.list (p 46 48 129 132) (g.part (g.atom (p 47 47 130 131) (g.spelled (k.Name (codes "f") false))) g.none)) g.none)))) ∷ [])) ∷ []) (((codes "file:///a.scm"), Some (((g.list (p 0 38 0 112) (g.part (g.atom (p 1 1 1 14) (g.spelled (k.Name (codes "define-syntax") false))) (g.part (g.atom (p 2 2 15 18) (g.spelled (k.Name (codes "def") false))) (g.part (g.list (p 3 37 19 111) (g.part (g.atom (p 4 4 20 32) (g.spelled (k.Name (codes "syntax-rules") false))) (g.part (g.list (p 5 6 33 35) g.none) (g.part (g.list (p 7 36 36 110) (g.part (g.list (p 8 12 37 44) (g.part (g.atom (p 9 9 38 39) (g.spelled (k.Name (codes "_") false))) (g.part (g.atom (p 10 10 40 41) (g.spelled (k.Name (codes "n") false))) (g.part (g.atom (p 11 11 42 43) (g.spelled (k.Name (codes "a") false))) g.none)))) (g.part (g.list (p 13 35 45 109) (g.part (g.atom (p 14 14 46 51) (g.spelled (k.Name (codes "begin") false))) (g.part (g.list (p 15 19 52 64) (g.part (g.atom (p 16 16 53 59) (g.spelled (k.Name (codes "define") false))) (g.part (g.atom (p 17 17 60 61) (g.spelled (k.Name (codes "t") false))) (g.part (g.atom (p 18 18 62 63) (g.spelled (k.Numeral (codes "1")))) g.none)))) (g.part (g.list (p 20 34 65 108) (g.part (g.atom (p 21 21 66 79) (g.spelled (k.Name (codes "define-syntax") false))) (g.part (g.atom (p 22 22 80 81) (g.spelled (k.Name (codes "n") false))) (g.part (g.list (p 23 33 82 107) (g.part (g.atom (p 24 24 83 95) (g.spelled (k.Name (codes "syntax-rules") false))) (g.part (g.list (p 25 26 96 98) g.none) (g.part (g.list (p 27 32 99 106) (g.part (g.list (p 28 30 100 103) (g.part (g.atom (p 29 29 101 102) (g.spelled (k.Name (codes "_") false))) g.none)) (g.part (g.atom (p 31 31 104 105) (g.spelled (k.Name (codes "t") false))) g.none))) g.none)))) g.none)))) g.none)))) g.none))) g.none)))) g.none))))) ∷ ((g.list (p 39 43 113 122) (g.part (g.atom (p 40 40 114 117) (g.spelled (k.Name (codes "def") false))) (g.part (g.atom (p 41 41 118 119) (g.spelled (k.Name (codes "f") false))) (g.part (g.atom (p 42 42 120 121) (g.spelled (k.Numeral (codes "2")))) g.none))))) ∷ ((g.list (p 44 49 123 133) (g.part (g.atom (p 45 45 124 128) (g.spelled (k.Name (codes "list") false))) (g.part (g.list (p 46 48 129 132) (g.part (g.atom (p 47 47 130 131) (g.spelled (k.Name (codes "f") false))) g.none)) g.none)))) ∷ [])) ∷ []) ≡ ((0, 0) ∷ [], 2)
unfolding base_names standard_libraries prelude encode_utf8
macro_that_defines_a_macro_its_use_changed = refl

pub asked_whether_it_is_a_keyword : carried_rows (((codes "file:///a.scm"), Some (((g.list (p 0 15 0 45) (g.part (g.atom (p 1 1 1 14) (g.spelled (k.Name (codes "define-syntax") false))) (g.part (g.atom (p 2 2 15 16) (g.spelled (k.Name (codes "m") false))) (g.part (g.list (p 3 14 17 44) (g.part (g.atom (p 4 4 18 30) (g.spelled (k.Name (codes "syntax-rules") false))) (g.part (g.list (p 5 6 31 33) g.none) (g.part (g.list (p 7 13 34 43) (g.part (g.list (p 8 11 35 40) (g.part (g.atom (p 9 9 36 37) (g.spelled (k.Name (codes "_") false))) (g.part (g.atom (p 10 10 38 39) (g.spelled (k.Name (codes "a") false))) g.none))) (g.part (g.atom (p 12 12 41 42) (g.spelled (k.Name (codes "a") false))) g.none))) g.none)))) g.none))))) ∷ ((g.list (p 16 20 46 58) (g.part (g.atom (p 17 17 47 53) (g.spelled (k.Name (codes "define") false))) (g.part (g.atom (p 18 18 54 55) (g.spelled (k.Name (codes "x") false))) (g.part (g.atom (p 19 19 56 57) (g.spelled (k.Numeral (codes "1")))) g.none))))) ∷ ((g.list (p 21 24 59 64) (g.part (g.atom (p 22 22 60 61) (g.spelled (k.Name (codes "m") false))) (g.part (g.atom (p 23 23 62 63) (g.spelled (k.Name (codes "x") false))) g.none)))) ∷ [])) ∷ []) (((codes "file:///a.scm"), Some (((g.list (p 0 15 0 45) (g.part (g.atom (p 1 1 1 14) (g.spelled (k.Name (codes "define-syntax") false))) (g.part (g.atom (p 2 2 15 16) (g.spelled (k.Name (codes "m") false))) (g.part (g.list (p 3 14 17 44) (g.part (g.atom (p 4 4 18 30) (g.spelled (k.Name (codes "syntax-rules") false))) (g.part (g.list (p 5 6 31 33) g.none) (g.part (g.list (p 7 13 34 43) (g.part (g.list (p 8 11 35 40) (g.part (g.atom (p 9 9 36 37) (g.spelled (k.Name (codes "_") false))) (g.part (g.atom (p 10 10 38 39) (g.spelled (k.Name (codes "a") false))) g.none))) (g.part (g.atom (p 12 12 41 42) (g.spelled (k.Name (codes "a") false))) g.none))) g.none)))) g.none))))) ∷ ((g.list (p 16 30 46 89) (g.part (g.atom (p 17 17 47 60) (g.spelled (k.Name (codes "define-syntax") false))) (g.part (g.atom (p 18 18 61 62) (g.spelled (k.Name (codes "x") false))) (g.part (g.list (p 19 29 63 88) (g.part (g.atom (p 20 20 64 76) (g.spelled (k.Name (codes "syntax-rules") false))) (g.part (g.list (p 21 22 77 79) g.none) (g.part (g.list (p 23 28 80 87) (g.part (g.list (p 24 26 81 84) (g.part (g.atom (p 25 25 82 83) (g.spelled (k.Name (codes "_") false))) g.none)) (g.part (g.atom (p 27 27 85 86) (g.spelled (k.Numeral (codes "1")))) g.none))) g.none)))) g.none))))) ∷ ((g.list (p 31 34 90 95) (g.part (g.atom (p 32 32 91 92) (g.spelled (k.Name (codes "m") false))) (g.part (g.atom (p 33 33 93 94) (g.spelled (k.Name (codes "x") false))) g.none)))) ∷ [])) ∷ []) ≡ ((0, 0) ∷ [], 1)
unfolding base_names standard_libraries prelude encode_utf8
asked_whether_it_is_a_keyword = refl

pub asked_what_a_name_means : carried_rows (((codes "file:///a.scm"), Some (((g.list (p 0 15 0 45) (g.part (g.atom (p 1 1 1 14) (g.spelled (k.Name (codes "define-syntax") false))) (g.part (g.atom (p 2 2 15 16) (g.spelled (k.Name (codes "m") false))) (g.part (g.list (p 3 14 17 44) (g.part (g.atom (p 4 4 18 30) (g.spelled (k.Name (codes "syntax-rules") false))) (g.part (g.list (p 5 6 31 33) g.none) (g.part (g.list (p 7 13 34 43) (g.part (g.list (p 8 11 35 40) (g.part (g.atom (p 9 9 36 37) (g.spelled (k.Name (codes "_") false))) (g.part (g.atom (p 10 10 38 39) (g.spelled (k.Name (codes "a") false))) g.none))) (g.part (g.atom (p 12 12 41 42) (g.spelled (k.Name (codes "a") false))) g.none))) g.none)))) g.none))))) ∷ ((g.list (p 16 19 46 54) (g.part (g.atom (p 17 17 47 48) (g.spelled (k.Name (codes "m") false))) (g.part (g.atom (p 18 18 49 53) (g.spelled (k.Name (codes "list") false))) g.none)))) ∷ [])) ∷ []) (((codes "file:///a.scm"), Some (((g.list (p 0 15 0 45) (g.part (g.atom (p 1 1 1 14) (g.spelled (k.Name (codes "define-syntax") false))) (g.part (g.atom (p 2 2 15 16) (g.spelled (k.Name (codes "m") false))) (g.part (g.list (p 3 14 17 44) (g.part (g.atom (p 4 4 18 30) (g.spelled (k.Name (codes "syntax-rules") false))) (g.part (g.list (p 5 6 31 33) g.none) (g.part (g.list (p 7 13 34 43) (g.part (g.list (p 8 11 35 40) (g.part (g.atom (p 9 9 36 37) (g.spelled (k.Name (codes "_") false))) (g.part (g.atom (p 10 10 38 39) (g.spelled (k.Name (codes "a") false))) g.none))) (g.part (g.atom (p 12 12 41 42) (g.spelled (k.Name (codes "a") false))) g.none))) g.none)))) g.none))))) ∷ ((g.list (p 16 19 46 54) (g.part (g.atom (p 17 17 47 48) (g.spelled (k.Name (codes "m") false))) (g.part (g.atom (p 18 18 49 53) (g.spelled (k.Name (codes "list") false))) g.none)))) ∷ ((g.list (p 20 24 55 70) (g.part (g.atom (p 21 21 56 62) (g.spelled (k.Name (codes "define") false))) (g.part (g.atom (p 22 22 63 67) (g.spelled (k.Name (codes "list") false))) (g.part (g.atom (p 23 23 68 69) (g.spelled (k.Numeral (codes "1")))) g.none))))) ∷ [])) ∷ []) ≡ ((0, 0) ∷ [], 1)
unfolding base_names standard_libraries prelude encode_utf8
asked_what_a_name_means = refl

pub asked_the_rules : carried_rows (((codes "file:///a.scm"), Some (((g.list (p 0 14 0 43) (g.part (g.atom (p 1 1 1 14) (g.spelled (k.Name (codes "define-syntax") false))) (g.part (g.atom (p 2 2 15 16) (g.spelled (k.Name (codes "m") false))) (g.part (g.list (p 3 13 17 42) (g.part (g.atom (p 4 4 18 30) (g.spelled (k.Name (codes "syntax-rules") false))) (g.part (g.list (p 5 6 31 33) g.none) (g.part (g.list (p 7 12 34 41) (g.part (g.list (p 8 10 35 38) (g.part (g.atom (p 9 9 36 37) (g.spelled (k.Name (codes "_") false))) g.none)) (g.part (g.atom (p 11 11 39 40) (g.spelled (k.Numeral (codes "1")))) g.none))) g.none)))) g.none))))) ∷ ((g.list (p 15 17 44 47) (g.part (g.atom (p 16 16 45 46) (g.spelled (k.Name (codes "m") false))) g.none))) ∷ [])) ∷ []) (((codes "file:///a.scm"), Some (((g.list (p 0 14 0 43) (g.part (g.atom (p 1 1 1 14) (g.spelled (k.Name (codes "define-syntax") false))) (g.part (g.atom (p 2 2 15 16) (g.spelled (k.Name (codes "m") false))) (g.part (g.list (p 3 13 17 42) (g.part (g.atom (p 4 4 18 30) (g.spelled (k.Name (codes "syntax-rules") false))) (g.part (g.list (p 5 6 31 33) g.none) (g.part (g.list (p 7 12 34 41) (g.part (g.list (p 8 10 35 38) (g.part (g.atom (p 9 9 36 37) (g.spelled (k.Name (codes "_") false))) g.none)) (g.part (g.atom (p 11 11 39 40) (g.spelled (k.Numeral (codes "2")))) g.none))) g.none)))) g.none))))) ∷ ((g.list (p 15 17 44 47) (g.part (g.atom (p 16 16 45 46) (g.spelled (k.Name (codes "m") false))) g.none))) ∷ [])) ∷ []) ≡ ([], 1)
unfolding base_names standard_libraries prelude encode_utf8
asked_the_rules = refl

pub asked_a_comparison : carried_rows (((codes "file:///l.sld"), Some (((g.list (p 0 43 0 119) (g.part (g.atom (p 1 1 1 15) (g.spelled (k.Name (codes "define-library") false))) (g.part (g.list (p 2 4 16 19) (g.part (g.atom (p 3 3 17 18) (g.spelled (k.Name (codes "l") false))) g.none)) (g.part (g.list (p 5 8 20 30) (g.part (g.atom (p 6 6 21 27) (g.spelled (k.Name (codes "export") false))) (g.part (g.atom (p 7 7 28 29) (g.spelled (k.Name (codes "m") false))) g.none))) (g.part (g.list (p 9 15 31 53) (g.part (g.atom (p 10 10 32 38) (g.spelled (k.Name (codes "import") false))) (g.part (g.list (p 11 14 39 52) (g.part (g.atom (p 12 12 40 46) (g.spelled (k.Name (codes "scheme") false))) (g.part (g.atom (p 13 13 47 51) (g.spelled (k.Name (codes "base") false))) g.none))) g.none))) (g.part (g.list (p 16 42 54 118) (g.part (g.atom (p 17 17 55 60) (g.spelled (k.Name (codes "begin") false))) (g.part (g.list (p 18 41 61 117) (g.part (g.atom (p 19 19 62 75) (g.spelled (k.Name (codes "define-syntax") false))) (g.part (g.atom (p 20 20 76 77) (g.spelled (k.Name (codes "m") false))) (g.part (g.list (p 21 40 78 116) (g.part (g.atom (p 22 22 79 91) (g.spelled (k.Name (codes "syntax-rules") false))) (g.part (g.list (p 23 25 92 95) (g.part (g.atom (p 24 24 93 94) (g.spelled (k.Name (codes "k") false))) g.none)) (g.part (g.list (p 26 32 96 105) (g.part (g.list (p 27 30 97 102) (g.part (g.atom (p 28 28 98 99) (g.spelled (k.Name (codes "_") false))) (g.part (g.atom (p 29 29 100 101) (g.spelled (k.Name (codes "k") false))) g.none))) (g.part (g.atom (p 31 31 103 104) (g.spelled (k.Numeral (codes "1")))) g.none))) (g.part (g.list (p 33 39 106 115) (g.part (g.list (p 34 37 107 112) (g.part (g.atom (p 35 35 108 109) (g.spelled (k.Name (codes "_") false))) (g.part (g.atom (p 36 36 110 111) (g.spelled (k.Name (codes "a") false))) g.none))) (g.part (g.atom (p 38 38 113 114) (g.spelled (k.Numeral (codes "2")))) g.none))) g.none))))) g.none)))) g.none))) g.none))))))) ∷ [])) ∷ ((codes "file:///m.scm"), Some (((g.list (p 0 9 0 26) (g.part (g.atom (p 1 1 1 7) (g.spelled (k.Name (codes "import") false))) (g.part (g.list (p 2 5 8 21) (g.part (g.atom (p 3 3 9 15) (g.spelled (k.Name (codes "scheme") false))) (g.part (g.atom (p 4 4 16 20) (g.spelled (k.Name (codes "base") false))) g.none))) (g.part (g.list (p 6 8 22 25) (g.part (g.atom (p 7 7 23 24) (g.spelled (k.Name (codes "l") false))) g.none)) g.none))))) ∷ ((g.list (p 10 14 27 39) (g.part (g.atom (p 11 11 28 34) (g.spelled (k.Name (codes "define") false))) (g.part (g.atom (p 12 12 35 36) (g.spelled (k.Name (codes "k") false))) (g.part (g.atom (p 13 13 37 38) (g.spelled (k.Numeral (codes "1")))) g.none))))) ∷ ((g.list (p 15 18 40 45) (g.part (g.atom (p 16 16 41 42) (g.spelled (k.Name (codes "m") false))) (g.part (g.atom (p 17 17 43 44) (g.spelled (k.Name (codes "k") false))) g.none)))) ∷ [])) ∷ []) (((codes "file:///l.sld"), Some (((g.list (p 0 43 0 119) (g.part (g.atom (p 1 1 1 15) (g.spelled (k.Name (codes "define-library") false))) (g.part (g.list (p 2 4 16 19) (g.part (g.atom (p 3 3 17 18) (g.spelled (k.Name (codes "l") false))) g.none)) (g.part (g.list (p 5 8 20 30) (g.part (g.atom (p 6 6 21 27) (g.spelled (k.Name (codes "export") false))) (g.part (g.atom (p 7 7 28 29) (g.spelled (k.Name (codes "m") false))) g.none))) (g.part (g.list (p 9 15 31 53) (g.part (g.atom (p 10 10 32 38) (g.spelled (k.Name (codes "import") false))) (g.part (g.list (p 11 14 39 52) (g.part (g.atom (p 12 12 40 46) (g.spelled (k.Name (codes "scheme") false))) (g.part (g.atom (p 13 13 47 51) (g.spelled (k.Name (codes "base") false))) g.none))) g.none))) (g.part (g.list (p 16 42 54 118) (g.part (g.atom (p 17 17 55 60) (g.spelled (k.Name (codes "begin") false))) (g.part (g.list (p 18 41 61 117) (g.part (g.atom (p 19 19 62 75) (g.spelled (k.Name (codes "define-syntax") false))) (g.part (g.atom (p 20 20 76 77) (g.spelled (k.Name (codes "m") false))) (g.part (g.list (p 21 40 78 116) (g.part (g.atom (p 22 22 79 91) (g.spelled (k.Name (codes "syntax-rules") false))) (g.part (g.list (p 23 25 92 95) (g.part (g.atom (p 24 24 93 94) (g.spelled (k.Name (codes "k") false))) g.none)) (g.part (g.list (p 26 32 96 105) (g.part (g.list (p 27 30 97 102) (g.part (g.atom (p 28 28 98 99) (g.spelled (k.Name (codes "_") false))) (g.part (g.atom (p 29 29 100 101) (g.spelled (k.Name (codes "k") false))) g.none))) (g.part (g.atom (p 31 31 103 104) (g.spelled (k.Numeral (codes "1")))) g.none))) (g.part (g.list (p 33 39 106 115) (g.part (g.list (p 34 37 107 112) (g.part (g.atom (p 35 35 108 109) (g.spelled (k.Name (codes "_") false))) (g.part (g.atom (p 36 36 110 111) (g.spelled (k.Name (codes "a") false))) g.none))) (g.part (g.atom (p 38 38 113 114) (g.spelled (k.Numeral (codes "2")))) g.none))) g.none))))) g.none)))) g.none))) g.none))))))) ∷ [])) ∷ ((codes "file:///m.scm"), Some (((g.list (p 0 9 0 26) (g.part (g.atom (p 1 1 1 7) (g.spelled (k.Name (codes "import") false))) (g.part (g.list (p 2 5 8 21) (g.part (g.atom (p 3 3 9 15) (g.spelled (k.Name (codes "scheme") false))) (g.part (g.atom (p 4 4 16 20) (g.spelled (k.Name (codes "base") false))) g.none))) (g.part (g.list (p 6 8 22 25) (g.part (g.atom (p 7 7 23 24) (g.spelled (k.Name (codes "l") false))) g.none)) g.none))))) ∷ ((g.list (p 10 14 27 39) (g.part (g.atom (p 11 11 28 34) (g.spelled (k.Name (codes "define") false))) (g.part (g.atom (p 12 12 35 36) (g.spelled (k.Name (codes "j") false))) (g.part (g.atom (p 13 13 37 38) (g.spelled (k.Numeral (codes "1")))) g.none))))) ∷ ((g.list (p 15 18 40 45) (g.part (g.atom (p 16 16 41 42) (g.spelled (k.Name (codes "m") false))) (g.part (g.atom (p 17 17 43 44) (g.spelled (k.Name (codes "k") false))) g.none)))) ∷ [])) ∷ []) ≡ ((0, 2) ∷ [], 1)
unfolding base_names standard_libraries prelude encode_utf8
asked_a_comparison = refl

pub asked_a_library : carried_rows (((codes "file:///a.scm"), Some (((g.list (p 0 15 0 45) (g.part (g.atom (p 1 1 1 14) (g.spelled (k.Name (codes "define-syntax") false))) (g.part (g.atom (p 2 2 15 16) (g.spelled (k.Name (codes "m") false))) (g.part (g.list (p 3 14 17 44) (g.part (g.atom (p 4 4 18 30) (g.spelled (k.Name (codes "syntax-rules") false))) (g.part (g.list (p 5 6 31 33) g.none) (g.part (g.list (p 7 13 34 43) (g.part (g.list (p 8 11 35 40) (g.part (g.atom (p 9 9 36 37) (g.spelled (k.Name (codes "_") false))) (g.part (g.atom (p 10 10 38 39) (g.spelled (k.Name (codes "a") false))) g.none))) (g.part (g.atom (p 12 12 41 42) (g.spelled (k.Name (codes "a") false))) g.none))) g.none)))) g.none))))) ∷ ((g.list (p 16 37 46 94) (g.part (g.atom (p 17 17 47 58) (g.spelled (k.Name (codes "cond-expand") false))) (g.part (g.list (p 18 29 59 80) (g.part (g.list (p 19 24 60 73) (g.part (g.atom (p 20 20 61 68) (g.spelled (k.Name (codes "library") false))) (g.part (g.list (p 21 23 69 72) (g.part (g.atom (p 22 22 70 71) (g.spelled (k.Name (codes "l") false))) g.none)) g.none))) (g.part (g.list (p 25 28 74 79) (g.part (g.atom (p 26 26 75 76) (g.spelled (k.Name (codes "m") false))) (g.part (g.atom (p 27 27 77 78) (g.spelled (k.Numeral (codes "1")))) g.none))) g.none))) (g.part (g.list (p 30 36 81 93) (g.part (g.atom (p 31 31 82 86) (g.spelled (k.Name (codes "else") false))) (g.part (g.list (p 32 35 87 92) (g.part (g.atom (p 33 33 88 89) (g.spelled (k.Name (codes "m") false))) (g.part (g.atom (p 34 34 90 91) (g.spelled (k.Numeral (codes "2")))) g.none))) g.none))) g.none))))) ∷ [])) ∷ []) (((codes "file:///a.scm"), Some (((g.list (p 0 15 0 45) (g.part (g.atom (p 1 1 1 14) (g.spelled (k.Name (codes "define-syntax") false))) (g.part (g.atom (p 2 2 15 16) (g.spelled (k.Name (codes "m") false))) (g.part (g.list (p 3 14 17 44) (g.part (g.atom (p 4 4 18 30) (g.spelled (k.Name (codes "syntax-rules") false))) (g.part (g.list (p 5 6 31 33) g.none) (g.part (g.list (p 7 13 34 43) (g.part (g.list (p 8 11 35 40) (g.part (g.atom (p 9 9 36 37) (g.spelled (k.Name (codes "_") false))) (g.part (g.atom (p 10 10 38 39) (g.spelled (k.Name (codes "a") false))) g.none))) (g.part (g.atom (p 12 12 41 42) (g.spelled (k.Name (codes "a") false))) g.none))) g.none)))) g.none))))) ∷ ((g.list (p 16 37 46 94) (g.part (g.atom (p 17 17 47 58) (g.spelled (k.Name (codes "cond-expand") false))) (g.part (g.list (p 18 29 59 80) (g.part (g.list (p 19 24 60 73) (g.part (g.atom (p 20 20 61 68) (g.spelled (k.Name (codes "library") false))) (g.part (g.list (p 21 23 69 72) (g.part (g.atom (p 22 22 70 71) (g.spelled (k.Name (codes "l") false))) g.none)) g.none))) (g.part (g.list (p 25 28 74 79) (g.part (g.atom (p 26 26 75 76) (g.spelled (k.Name (codes "m") false))) (g.part (g.atom (p 27 27 77 78) (g.spelled (k.Numeral (codes "1")))) g.none))) g.none))) (g.part (g.list (p 30 36 81 93) (g.part (g.atom (p 31 31 82 86) (g.spelled (k.Name (codes "else") false))) (g.part (g.list (p 32 35 87 92) (g.part (g.atom (p 33 33 88 89) (g.spelled (k.Name (codes "m") false))) (g.part (g.atom (p 34 34 90 91) (g.spelled (k.Numeral (codes "2")))) g.none))) g.none))) g.none))))) ∷ [])) ∷ ((codes "file:///l.sld"), Some (((g.list (p 0 5 0 20) (g.part (g.atom (p 1 1 1 15) (g.spelled (k.Name (codes "define-library") false))) (g.part (g.list (p 2 4 16 19) (g.part (g.atom (p 3 3 17 18) (g.spelled (k.Name (codes "l") false))) g.none)) g.none)))) ∷ [])) ∷ []) ≡ ((0, 0) ∷ [], 1)
unfolding base_names standard_libraries prelude encode_utf8
asked_a_library = refl

pub asked_another_library : carried_rows (((codes "file:///a.scm"), Some (((g.list (p 0 15 0 45) (g.part (g.atom (p 1 1 1 14) (g.spelled (k.Name (codes "define-syntax") false))) (g.part (g.atom (p 2 2 15 16) (g.spelled (k.Name (codes "m") false))) (g.part (g.list (p 3 14 17 44) (g.part (g.atom (p 4 4 18 30) (g.spelled (k.Name (codes "syntax-rules") false))) (g.part (g.list (p 5 6 31 33) g.none) (g.part (g.list (p 7 13 34 43) (g.part (g.list (p 8 11 35 40) (g.part (g.atom (p 9 9 36 37) (g.spelled (k.Name (codes "_") false))) (g.part (g.atom (p 10 10 38 39) (g.spelled (k.Name (codes "a") false))) g.none))) (g.part (g.atom (p 12 12 41 42) (g.spelled (k.Name (codes "a") false))) g.none))) g.none)))) g.none))))) ∷ ((g.list (p 16 37 46 94) (g.part (g.atom (p 17 17 47 58) (g.spelled (k.Name (codes "cond-expand") false))) (g.part (g.list (p 18 29 59 80) (g.part (g.list (p 19 24 60 73) (g.part (g.atom (p 20 20 61 68) (g.spelled (k.Name (codes "library") false))) (g.part (g.list (p 21 23 69 72) (g.part (g.atom (p 22 22 70 71) (g.spelled (k.Name (codes "l") false))) g.none)) g.none))) (g.part (g.list (p 25 28 74 79) (g.part (g.atom (p 26 26 75 76) (g.spelled (k.Name (codes "m") false))) (g.part (g.atom (p 27 27 77 78) (g.spelled (k.Numeral (codes "1")))) g.none))) g.none))) (g.part (g.list (p 30 36 81 93) (g.part (g.atom (p 31 31 82 86) (g.spelled (k.Name (codes "else") false))) (g.part (g.list (p 32 35 87 92) (g.part (g.atom (p 33 33 88 89) (g.spelled (k.Name (codes "m") false))) (g.part (g.atom (p 34 34 90 91) (g.spelled (k.Numeral (codes "2")))) g.none))) g.none))) g.none))))) ∷ [])) ∷ []) (((codes "file:///a.scm"), Some (((g.list (p 0 15 0 45) (g.part (g.atom (p 1 1 1 14) (g.spelled (k.Name (codes "define-syntax") false))) (g.part (g.atom (p 2 2 15 16) (g.spelled (k.Name (codes "m") false))) (g.part (g.list (p 3 14 17 44) (g.part (g.atom (p 4 4 18 30) (g.spelled (k.Name (codes "syntax-rules") false))) (g.part (g.list (p 5 6 31 33) g.none) (g.part (g.list (p 7 13 34 43) (g.part (g.list (p 8 11 35 40) (g.part (g.atom (p 9 9 36 37) (g.spelled (k.Name (codes "_") false))) (g.part (g.atom (p 10 10 38 39) (g.spelled (k.Name (codes "a") false))) g.none))) (g.part (g.atom (p 12 12 41 42) (g.spelled (k.Name (codes "a") false))) g.none))) g.none)))) g.none))))) ∷ ((g.list (p 16 37 46 94) (g.part (g.atom (p 17 17 47 58) (g.spelled (k.Name (codes "cond-expand") false))) (g.part (g.list (p 18 29 59 80) (g.part (g.list (p 19 24 60 73) (g.part (g.atom (p 20 20 61 68) (g.spelled (k.Name (codes "library") false))) (g.part (g.list (p 21 23 69 72) (g.part (g.atom (p 22 22 70 71) (g.spelled (k.Name (codes "l") false))) g.none)) g.none))) (g.part (g.list (p 25 28 74 79) (g.part (g.atom (p 26 26 75 76) (g.spelled (k.Name (codes "m") false))) (g.part (g.atom (p 27 27 77 78) (g.spelled (k.Numeral (codes "1")))) g.none))) g.none))) (g.part (g.list (p 30 36 81 93) (g.part (g.atom (p 31 31 82 86) (g.spelled (k.Name (codes "else") false))) (g.part (g.list (p 32 35 87 92) (g.part (g.atom (p 33 33 88 89) (g.spelled (k.Name (codes "m") false))) (g.part (g.atom (p 34 34 90 91) (g.spelled (k.Numeral (codes "2")))) g.none))) g.none))) g.none))))) ∷ [])) ∷ ((codes "file:///l.sld"), Some (((g.list (p 0 5 0 20) (g.part (g.atom (p 1 1 1 15) (g.spelled (k.Name (codes "define-library") false))) (g.part (g.list (p 2 4 16 19) (g.part (g.atom (p 3 3 17 18) (g.spelled (k.Name (codes "k") false))) g.none)) g.none)))) ∷ [])) ∷ []) ≡ ((0, 0) ∷ (0, 1) ∷ [], 0)
unfolding base_names standard_libraries prelude encode_utf8
asked_another_library = refl

pub asked_how_a_definition_ends_twice_defined : carried_rows (((codes "file:///a.scm"), Some (((g.list (p 0 39 0 114) (g.part (g.atom (p 1 1 1 15) (g.spelled (k.Name (codes "define-library") false))) (g.part (g.list (p 2 4 16 19) (g.part (g.atom (p 3 3 17 18) (g.spelled (k.Name (codes "l") false))) g.none)) (g.part (g.list (p 5 11 20 42) (g.part (g.atom (p 6 6 21 27) (g.spelled (k.Name (codes "import") false))) (g.part (g.list (p 7 10 28 41) (g.part (g.atom (p 8 8 29 35) (g.spelled (k.Name (codes "scheme") false))) (g.part (g.atom (p 9 9 36 40) (g.spelled (k.Name (codes "base") false))) g.none))) g.none))) (g.part (g.list (p 12 38 43 113) (g.part (g.atom (p 13 13 44 49) (g.spelled (k.Name (codes "begin") false))) (g.part (g.list (p 14 33 50 106) (g.part (g.atom (p 15 15 51 64) (g.spelled (k.Name (codes "define-syntax") false))) (g.part (g.atom (p 16 16 65 66) (g.spelled (k.Name (codes "d") false))) (g.part (g.list (p 17 32 67 105) (g.part (g.atom (p 18 18 68 80) (g.spelled (k.Name (codes "syntax-rules") false))) (g.part (g.list (p 19 20 81 83) g.none) (g.part (g.list (p 21 31 84 104) (g.part (g.list (p 22 25 85 90) (g.part (g.atom (p 23 23 86 87) (g.spelled (k.Name (codes "_") false))) (g.part (g.atom (p 24 24 88 89) (g.spelled (k.Name (codes "n") false))) g.none))) (g.part (g.list (p 26 30 91 103) (g.part (g.atom (p 27 27 92 98) (g.spelled (k.Name (codes "define") false))) (g.part (g.atom (p 28 28 99 100) (g.spelled (k.Name (codes "n") false))) (g.part (g.atom (p 29 29 101 102) (g.spelled (k.Numeral (codes "1")))) g.none)))) g.none))) g.none)))) g.none)))) (g.part (g.list (p 34 37 107 112) (g.part (g.atom (p 35 35 108 109) (g.spelled (k.Name (codes "d") false))) (g.part (g.atom (p 36 36 110 111) (g.spelled (k.Name (codes "x") false))) g.none))) g.none)))) g.none)))))) ∷ [])) ∷ []) (((codes "file:///a.scm"), Some (((g.list (p 0 44 0 127) (g.part (g.atom (p 1 1 1 15) (g.spelled (k.Name (codes "define-library") false))) (g.part (g.list (p 2 4 16 19) (g.part (g.atom (p 3 3 17 18) (g.spelled (k.Name (codes "l") false))) g.none)) (g.part (g.list (p 5 11 20 42) (g.part (g.atom (p 6 6 21 27) (g.spelled (k.Name (codes "import") false))) (g.part (g.list (p 7 10 28 41) (g.part (g.atom (p 8 8 29 35) (g.spelled (k.Name (codes "scheme") false))) (g.part (g.atom (p 9 9 36 40) (g.spelled (k.Name (codes "base") false))) g.none))) g.none))) (g.part (g.list (p 12 43 43 126) (g.part (g.atom (p 13 13 44 49) (g.spelled (k.Name (codes "begin") false))) (g.part (g.list (p 14 33 50 106) (g.part (g.atom (p 15 15 51 64) (g.spelled (k.Name (codes "define-syntax") false))) (g.part (g.atom (p 16 16 65 66) (g.spelled (k.Name (codes "d") false))) (g.part (g.list (p 17 32 67 105) (g.part (g.atom (p 18 18 68 80) (g.spelled (k.Name (codes "syntax-rules") false))) (g.part (g.list (p 19 20 81 83) g.none) (g.part (g.list (p 21 31 84 104) (g.part (g.list (p 22 25 85 90) (g.part (g.atom (p 23 23 86 87) (g.spelled (k.Name (codes "_") false))) (g.part (g.atom (p 24 24 88 89) (g.spelled (k.Name (codes "n") false))) g.none))) (g.part (g.list (p 26 30 91 103) (g.part (g.atom (p 27 27 92 98) (g.spelled (k.Name (codes "define") false))) (g.part (g.atom (p 28 28 99 100) (g.spelled (k.Name (codes "n") false))) (g.part (g.atom (p 29 29 101 102) (g.spelled (k.Numeral (codes "1")))) g.none)))) g.none))) g.none)))) g.none)))) (g.part (g.list (p 34 38 107 119) (g.part (g.atom (p 35 35 108 114) (g.spelled (k.Name (codes "define") false))) (g.part (g.atom (p 36 36 115 116) (g.spelled (k.Name (codes "x") false))) (g.part (g.atom (p 37 37 117 118) (g.spelled (k.Numeral (codes "0")))) g.none)))) (g.part (g.list (p 39 42 120 125) (g.part (g.atom (p 40 40 121 122) (g.spelled (k.Name (codes "d") false))) (g.part (g.atom (p 41 41 123 124) (g.spelled (k.Name (codes "x") false))) g.none))) g.none))))) g.none)))))) ∷ [])) ∷ []) ≡ ((0, 1) ∷ [], 1)
unfolding base_names standard_libraries prelude encode_utf8
asked_how_a_definition_ends_twice_defined = refl

pub asked_how_a_definition_ends_keyword_redefined : carried_rows (((codes "file:///a.scm"), Some (((g.list (p 0 43 0 124) (g.part (g.atom (p 1 1 1 15) (g.spelled (k.Name (codes "define-library") false))) (g.part (g.list (p 2 4 16 19) (g.part (g.atom (p 3 3 17 18) (g.spelled (k.Name (codes "l") false))) g.none)) (g.part (g.list (p 5 11 20 42) (g.part (g.atom (p 6 6 21 27) (g.spelled (k.Name (codes "import") false))) (g.part (g.list (p 7 10 28 41) (g.part (g.atom (p 8 8 29 35) (g.spelled (k.Name (codes "scheme") false))) (g.part (g.atom (p 9 9 36 40) (g.spelled (k.Name (codes "base") false))) g.none))) g.none))) (g.part (g.list (p 12 42 43 123) (g.part (g.atom (p 13 13 44 49) (g.spelled (k.Name (codes "begin") false))) (g.part (g.list (p 14 33 50 106) (g.part (g.atom (p 15 15 51 64) (g.spelled (k.Name (codes "define-syntax") false))) (g.part (g.atom (p 16 16 65 66) (g.spelled (k.Name (codes "d") false))) (g.part (g.list (p 17 32 67 105) (g.part (g.atom (p 18 18 68 80) (g.spelled (k.Name (codes "syntax-rules") false))) (g.part (g.list (p 19 20 81 83) g.none) (g.part (g.list (p 21 31 84 104) (g.part (g.list (p 22 25 85 90) (g.part (g.atom (p 23 23 86 87) (g.spelled (k.Name (codes "_") false))) (g.part (g.atom (p 24 24 88 89) (g.spelled (k.Name (codes "n") false))) g.none))) (g.part (g.list (p 26 30 91 103) (g.part (g.atom (p 27 27 92 98) (g.spelled (k.Name (codes "define") false))) (g.part (g.atom (p 28 28 99 100) (g.spelled (k.Name (codes "n") false))) (g.part (g.atom (p 29 29 101 102) (g.spelled (k.Numeral (codes "1")))) g.none)))) g.none))) g.none)))) g.none)))) (g.part (g.list (p 34 37 107 115) (g.part (g.atom (p 35 35 108 112) (g.spelled (k.Name (codes "list") false))) (g.part (g.atom (p 36 36 113 114) (g.spelled (k.Numeral (codes "1")))) g.none))) (g.part (g.list (p 38 41 116 122) (g.part (g.atom (p 39 39 117 118) (g.spelled (k.Name (codes "d") false))) (g.part (g.atom (p 40 40 119 121) (g.spelled (k.Name (codes "if") false))) g.none))) g.none))))) g.none)))))) ∷ [])) ∷ []) (((codes "file:///a.scm"), Some (((g.list (p 0 45 0 126) (g.part (g.atom (p 1 1 1 15) (g.spelled (k.Name (codes "define-library") false))) (g.part (g.list (p 2 4 16 19) (g.part (g.atom (p 3 3 17 18) (g.spelled (k.Name (codes "l") false))) g.none)) (g.part (g.list (p 5 11 20 42) (g.part (g.atom (p 6 6 21 27) (g.spelled (k.Name (codes "import") false))) (g.part (g.list (p 7 10 28 41) (g.part (g.atom (p 8 8 29 35) (g.spelled (k.Name (codes "scheme") false))) (g.part (g.atom (p 9 9 36 40) (g.spelled (k.Name (codes "base") false))) g.none))) g.none))) (g.part (g.list (p 12 44 43 125) (g.part (g.atom (p 13 13 44 49) (g.spelled (k.Name (codes "begin") false))) (g.part (g.list (p 14 33 50 106) (g.part (g.atom (p 15 15 51 64) (g.spelled (k.Name (codes "define-syntax") false))) (g.part (g.atom (p 16 16 65 66) (g.spelled (k.Name (codes "d") false))) (g.part (g.list (p 17 32 67 105) (g.part (g.atom (p 18 18 68 80) (g.spelled (k.Name (codes "syntax-rules") false))) (g.part (g.list (p 19 20 81 83) g.none) (g.part (g.list (p 21 31 84 104) (g.part (g.list (p 22 25 85 90) (g.part (g.atom (p 23 23 86 87) (g.spelled (k.Name (codes "_") false))) (g.part (g.atom (p 24 24 88 89) (g.spelled (k.Name (codes "n") false))) g.none))) (g.part (g.list (p 26 30 91 103) (g.part (g.atom (p 27 27 92 98) (g.spelled (k.Name (codes "define") false))) (g.part (g.atom (p 28 28 99 100) (g.spelled (k.Name (codes "n") false))) (g.part (g.atom (p 29 29 101 102) (g.spelled (k.Numeral (codes "1")))) g.none)))) g.none))) g.none)))) g.none)))) (g.part (g.list (p 34 39 107 117) (g.part (g.atom (p 35 35 108 110) (g.spelled (k.Name (codes "if") false))) (g.part (g.atom (p 36 36 111 112) (g.spelled (k.Numeral (codes "1")))) (g.part (g.atom (p 37 37 113 114) (g.spelled (k.Numeral (codes "2")))) (g.part (g.atom (p 38 38 115 116) (g.spelled (k.Numeral (codes "3")))) g.none))))) (g.part (g.list (p 40 43 118 124) (g.part (g.atom (p 41 41 119 120) (g.spelled (k.Name (codes "d") false))) (g.part (g.atom (p 42 42 121 123) (g.spelled (k.Name (codes "if") false))) g.none))) g.none))))) g.none)))))) ∷ [])) ∷ []) ≡ ((0, 1) ∷ [], 1)
unfolding base_names standard_libraries prelude encode_utf8
asked_how_a_definition_ends_keyword_redefined = refl

pub asked_how_a_definition_ends_looked_up_as_a_head : carried_rows (((codes "file:///a.scm"), Some (((g.list (p 0 53 0 151) (g.part (g.atom (p 1 1 1 15) (g.spelled (k.Name (codes "define-library") false))) (g.part (g.list (p 2 4 16 19) (g.part (g.atom (p 3 3 17 18) (g.spelled (k.Name (codes "l") false))) g.none)) (g.part (g.list (p 5 11 20 42) (g.part (g.atom (p 6 6 21 27) (g.spelled (k.Name (codes "import") false))) (g.part (g.list (p 7 10 28 41) (g.part (g.atom (p 8 8 29 35) (g.spelled (k.Name (codes "scheme") false))) (g.part (g.atom (p 9 9 36 40) (g.spelled (k.Name (codes "base") false))) g.none))) g.none))) (g.part (g.list (p 12 52 43 150) (g.part (g.atom (p 13 13 44 49) (g.spelled (k.Name (codes "begin") false))) (g.part (g.list (p 14 43 50 137) (g.part (g.atom (p 15 15 51 64) (g.spelled (k.Name (codes "define-syntax") false))) (g.part (g.atom (p 16 16 65 66) (g.spelled (k.Name (codes "d") false))) (g.part (g.list (p 17 42 67 136) (g.part (g.atom (p 18 18 68 80) (g.spelled (k.Name (codes "syntax-rules") false))) (g.part (g.list (p 19 20 81 83) g.none) (g.part (g.list (p 21 41 84 135) (g.part (g.list (p 22 25 85 90) (g.part (g.atom (p 23 23 86 87) (g.spelled (k.Name (codes "_") false))) (g.part (g.atom (p 24 24 88 89) (g.spelled (k.Name (codes "n") false))) g.none))) (g.part (g.list (p 26 40 91 134) (g.part (g.atom (p 27 27 92 105) (g.spelled (k.Name (codes "define-syntax") false))) (g.part (g.atom (p 28 28 106 107) (g.spelled (k.Name (codes "n") false))) (g.part (g.list (p 29 39 108 133) (g.part (g.atom (p 30 30 109 121) (g.spelled (k.Name (codes "syntax-rules") false))) (g.part (g.list (p 31 32 122 124) g.none) (g.part (g.list (p 33 38 125 132) (g.part (g.list (p 34 36 126 129) (g.part (g.atom (p 35 35 127 128) (g.spelled (k.Name (codes "_") false))) g.none)) (g.part (g.atom (p 37 37 130 131) (g.spelled (k.Numeral (codes "1")))) g.none))) g.none)))) g.none)))) g.none))) g.none)))) g.none)))) (g.part (g.list (p 44 47 138 143) (g.part (g.atom (p 45 45 139 140) (g.spelled (k.Name (codes "f") false))) (g.part (g.atom (p 46 46 141 142) (g.spelled (k.Numeral (codes "1")))) g.none))) (g.part (g.list (p 48 51 144 149) (g.part (g.atom (p 49 49 145 146) (g.spelled (k.Name (codes "d") false))) (g.part (g.atom (p 50 50 147 148) (g.spelled (k.Name (codes "g") false))) g.none))) g.none))))) g.none)))))) ∷ [])) ∷ []) (((codes "file:///a.scm"), Some (((g.list (p 0 53 0 151) (g.part (g.atom (p 1 1 1 15) (g.spelled (k.Name (codes "define-library") false))) (g.part (g.list (p 2 4 16 19) (g.part (g.atom (p 3 3 17 18) (g.spelled (k.Name (codes "l") false))) g.none)) (g.part (g.list (p 5 11 20 42) (g.part (g.atom (p 6 6 21 27) (g.spelled (k.Name (codes "import") false))) (g.part (g.list (p 7 10 28 41) (g.part (g.atom (p 8 8 29 35) (g.spelled (k.Name (codes "scheme") false))) (g.part (g.atom (p 9 9 36 40) (g.spelled (k.Name (codes "base") false))) g.none))) g.none))) (g.part (g.list (p 12 52 43 150) (g.part (g.atom (p 13 13 44 49) (g.spelled (k.Name (codes "begin") false))) (g.part (g.list (p 14 43 50 137) (g.part (g.atom (p 15 15 51 64) (g.spelled (k.Name (codes "define-syntax") false))) (g.part (g.atom (p 16 16 65 66) (g.spelled (k.Name (codes "d") false))) (g.part (g.list (p 17 42 67 136) (g.part (g.atom (p 18 18 68 80) (g.spelled (k.Name (codes "syntax-rules") false))) (g.part (g.list (p 19 20 81 83) g.none) (g.part (g.list (p 21 41 84 135) (g.part (g.list (p 22 25 85 90) (g.part (g.atom (p 23 23 86 87) (g.spelled (k.Name (codes "_") false))) (g.part (g.atom (p 24 24 88 89) (g.spelled (k.Name (codes "n") false))) g.none))) (g.part (g.list (p 26 40 91 134) (g.part (g.atom (p 27 27 92 105) (g.spelled (k.Name (codes "define-syntax") false))) (g.part (g.atom (p 28 28 106 107) (g.spelled (k.Name (codes "n") false))) (g.part (g.list (p 29 39 108 133) (g.part (g.atom (p 30 30 109 121) (g.spelled (k.Name (codes "syntax-rules") false))) (g.part (g.list (p 31 32 122 124) g.none) (g.part (g.list (p 33 38 125 132) (g.part (g.list (p 34 36 126 129) (g.part (g.atom (p 35 35 127 128) (g.spelled (k.Name (codes "_") false))) g.none)) (g.part (g.atom (p 37 37 130 131) (g.spelled (k.Numeral (codes "1")))) g.none))) g.none)))) g.none)))) g.none))) g.none)))) g.none)))) (g.part (g.list (p 44 47 138 143) (g.part (g.atom (p 45 45 139 140) (g.spelled (k.Name (codes "g") false))) (g.part (g.atom (p 46 46 141 142) (g.spelled (k.Numeral (codes "1")))) g.none))) (g.part (g.list (p 48 51 144 149) (g.part (g.atom (p 49 49 145 146) (g.spelled (k.Name (codes "d") false))) (g.part (g.atom (p 50 50 147 148) (g.spelled (k.Name (codes "g") false))) g.none))) g.none))))) g.none)))))) ∷ [])) ∷ []) ≡ ((0, 1) ∷ [], 1)
unfolding base_names standard_libraries prelude encode_utf8
asked_how_a_definition_ends_looked_up_as_a_head = refl

pub asked_how_a_definition_ends_a_comparison_stays : carried_rows (((codes "file:///a.scm"), Some (((g.list (p 0 67 0 177) (g.part (g.atom (p 1 1 1 15) (g.spelled (k.Name (codes "define-library") false))) (g.part (g.list (p 2 4 16 19) (g.part (g.atom (p 3 3 17 18) (g.spelled (k.Name (codes "l") false))) g.none)) (g.part (g.list (p 5 11 20 42) (g.part (g.atom (p 6 6 21 27) (g.spelled (k.Name (codes "import") false))) (g.part (g.list (p 7 10 28 41) (g.part (g.atom (p 8 8 29 35) (g.spelled (k.Name (codes "scheme") false))) (g.part (g.atom (p 9 9 36 40) (g.spelled (k.Name (codes "base") false))) g.none))) g.none))) (g.part (g.list (p 12 66 43 176) (g.part (g.atom (p 13 13 44 49) (g.spelled (k.Name (codes "begin") false))) (g.part (g.list (p 14 33 50 106) (g.part (g.atom (p 15 15 51 64) (g.spelled (k.Name (codes "define-syntax") false))) (g.part (g.atom (p 16 16 65 66) (g.spelled (k.Name (codes "d") false))) (g.part (g.list (p 17 32 67 105) (g.part (g.atom (p 18 18 68 80) (g.spelled (k.Name (codes "syntax-rules") false))) (g.part (g.list (p 19 20 81 83) g.none) (g.part (g.list (p 21 31 84 104) (g.part (g.list (p 22 25 85 90) (g.part (g.atom (p 23 23 86 87) (g.spelled (k.Name (codes "_") false))) (g.part (g.atom (p 24 24 88 89) (g.spelled (k.Name (codes "n") false))) g.none))) (g.part (g.list (p 26 30 91 103) (g.part (g.atom (p 27 27 92 98) (g.spelled (k.Name (codes "define") false))) (g.part (g.atom (p 28 28 99 100) (g.spelled (k.Name (codes "n") false))) (g.part (g.atom (p 29 29 101 102) (g.spelled (k.Numeral (codes "1")))) g.none)))) g.none))) g.none)))) g.none)))) (g.part (g.list (p 34 57 107 163) (g.part (g.atom (p 35 35 108 121) (g.spelled (k.Name (codes "define-syntax") false))) (g.part (g.atom (p 36 36 122 123) (g.spelled (k.Name (codes "m") false))) (g.part (g.list (p 37 56 124 162) (g.part (g.atom (p 38 38 125 137) (g.spelled (k.Name (codes "syntax-rules") false))) (g.part (g.list (p 39 41 138 141) (g.part (g.atom (p 40 40 139 140) (g.spelled (k.Name (codes "k") false))) g.none)) (g.part (g.list (p 42 48 142 151) (g.part (g.list (p 43 46 143 148) (g.part (g.atom (p 44 44 144 145) (g.spelled (k.Name (codes "_") false))) (g.part (g.atom (p 45 45 146 147) (g.spelled (k.Name (codes "k") false))) g.none))) (g.part (g.atom (p 47 47 149 150) (g.spelled (k.Numeral (codes "1")))) g.none))) (g.part (g.list (p 49 55 152 161) (g.part (g.list (p 50 53 153 158) (g.part (g.atom (p 51 51 154 155) (g.spelled (k.Name (codes "_") false))) (g.part (g.atom (p 52 52 156 157) (g.spelled (k.Name (codes "a") false))) g.none))) (g.part (g.atom (p 54 54 159 160) (g.spelled (k.Numeral (codes "2")))) g.none))) g.none))))) g.none)))) (g.part (g.list (p 58 61 164 169) (g.part (g.atom (p 59 59 165 166) (g.spelled (k.Name (codes "m") false))) (g.part (g.atom (p 60 60 167 168) (g.spelled (k.Name (codes "j") false))) g.none))) (g.part (g.list (p 62 65 170 175) (g.part (g.atom (p 63 63 171 172) (g.spelled (k.Name (codes "d") false))) (g.part (g.atom (p 64 64 173 174) (g.spelled (k.Name (codes "k") false))) g.none))) g.none)))))) g.none)))))) ∷ [])) ∷ []) (((codes "file:///a.scm"), Some (((g.list (p 0 67 0 177) (g.part (g.atom (p 1 1 1 15) (g.spelled (k.Name (codes "define-library") false))) (g.part (g.list (p 2 4 16 19) (g.part (g.atom (p 3 3 17 18) (g.spelled (k.Name (codes "l") false))) g.none)) (g.part (g.list (p 5 11 20 42) (g.part (g.atom (p 6 6 21 27) (g.spelled (k.Name (codes "import") false))) (g.part (g.list (p 7 10 28 41) (g.part (g.atom (p 8 8 29 35) (g.spelled (k.Name (codes "scheme") false))) (g.part (g.atom (p 9 9 36 40) (g.spelled (k.Name (codes "base") false))) g.none))) g.none))) (g.part (g.list (p 12 66 43 176) (g.part (g.atom (p 13 13 44 49) (g.spelled (k.Name (codes "begin") false))) (g.part (g.list (p 14 33 50 106) (g.part (g.atom (p 15 15 51 64) (g.spelled (k.Name (codes "define-syntax") false))) (g.part (g.atom (p 16 16 65 66) (g.spelled (k.Name (codes "d") false))) (g.part (g.list (p 17 32 67 105) (g.part (g.atom (p 18 18 68 80) (g.spelled (k.Name (codes "syntax-rules") false))) (g.part (g.list (p 19 20 81 83) g.none) (g.part (g.list (p 21 31 84 104) (g.part (g.list (p 22 25 85 90) (g.part (g.atom (p 23 23 86 87) (g.spelled (k.Name (codes "_") false))) (g.part (g.atom (p 24 24 88 89) (g.spelled (k.Name (codes "n") false))) g.none))) (g.part (g.list (p 26 30 91 103) (g.part (g.atom (p 27 27 92 98) (g.spelled (k.Name (codes "define") false))) (g.part (g.atom (p 28 28 99 100) (g.spelled (k.Name (codes "n") false))) (g.part (g.atom (p 29 29 101 102) (g.spelled (k.Numeral (codes "1")))) g.none)))) g.none))) g.none)))) g.none)))) (g.part (g.list (p 34 57 107 163) (g.part (g.atom (p 35 35 108 121) (g.spelled (k.Name (codes "define-syntax") false))) (g.part (g.atom (p 36 36 122 123) (g.spelled (k.Name (codes "m") false))) (g.part (g.list (p 37 56 124 162) (g.part (g.atom (p 38 38 125 137) (g.spelled (k.Name (codes "syntax-rules") false))) (g.part (g.list (p 39 41 138 141) (g.part (g.atom (p 40 40 139 140) (g.spelled (k.Name (codes "k") false))) g.none)) (g.part (g.list (p 42 48 142 151) (g.part (g.list (p 43 46 143 148) (g.part (g.atom (p 44 44 144 145) (g.spelled (k.Name (codes "_") false))) (g.part (g.atom (p 45 45 146 147) (g.spelled (k.Name (codes "k") false))) g.none))) (g.part (g.atom (p 47 47 149 150) (g.spelled (k.Numeral (codes "1")))) g.none))) (g.part (g.list (p 49 55 152 161) (g.part (g.list (p 50 53 153 158) (g.part (g.atom (p 51 51 154 155) (g.spelled (k.Name (codes "_") false))) (g.part (g.atom (p 52 52 156 157) (g.spelled (k.Name (codes "a") false))) g.none))) (g.part (g.atom (p 54 54 159 160) (g.spelled (k.Numeral (codes "2")))) g.none))) g.none))))) g.none)))) (g.part (g.list (p 58 61 164 169) (g.part (g.atom (p 59 59 165 166) (g.spelled (k.Name (codes "m") false))) (g.part (g.atom (p 60 60 167 168) (g.spelled (k.Name (codes "k") false))) g.none))) (g.part (g.list (p 62 65 170 175) (g.part (g.atom (p 63 63 171 172) (g.spelled (k.Name (codes "d") false))) (g.part (g.atom (p 64 64 173 174) (g.spelled (k.Name (codes "k") false))) g.none))) g.none)))))) g.none)))))) ∷ [])) ∷ []) ≡ ((0, 1) ∷ (0, 2) ∷ (0, 4) ∷ [], 1)
unfolding base_names standard_libraries prelude encode_utf8
asked_how_a_definition_ends_a_comparison_stays = refl

pub asked_how_a_definition_ends_a_comparison_comes_out_otherwise : carried_rows (((codes "file:///a.scm"), Some (((g.list (p 0 46 0 124) (g.part (g.atom (p 1 1 1 15) (g.spelled (k.Name (codes "define-library") false))) (g.part (g.list (p 2 4 16 19) (g.part (g.atom (p 3 3 17 18) (g.spelled (k.Name (codes "a") false))) g.none)) (g.part (g.list (p 5 14 20 46) (g.part (g.atom (p 6 6 21 27) (g.spelled (k.Name (codes "import") false))) (g.part (g.list (p 7 10 28 41) (g.part (g.atom (p 8 8 29 35) (g.spelled (k.Name (codes "scheme") false))) (g.part (g.atom (p 9 9 36 40) (g.spelled (k.Name (codes "base") false))) g.none))) (g.part (g.list (p 11 13 42 45) (g.part (g.atom (p 12 12 43 44) (g.spelled (k.Name (codes "l") false))) g.none)) g.none)))) (g.part (g.list (p 15 45 47 123) (g.part (g.atom (p 16 16 48 53) (g.spelled (k.Name (codes "begin") false))) (g.part (g.list (p 17 36 54 110) (g.part (g.atom (p 18 18 55 68) (g.spelled (k.Name (codes "define-syntax") false))) (g.part (g.atom (p 19 19 69 70) (g.spelled (k.Name (codes "d") false))) (g.part (g.list (p 20 35 71 109) (g.part (g.atom (p 21 21 72 84) (g.spelled (k.Name (codes "syntax-rules") false))) (g.part (g.list (p 22 23 85 87) g.none) (g.part (g.list (p 24 34 88 108) (g.part (g.list (p 25 28 89 94) (g.part (g.atom (p 26 26 90 91) (g.spelled (k.Name (codes "_") false))) (g.part (g.atom (p 27 27 92 93) (g.spelled (k.Name (codes "n") false))) g.none))) (g.part (g.list (p 29 33 95 107) (g.part (g.atom (p 30 30 96 102) (g.spelled (k.Name (codes "define") false))) (g.part (g.atom (p 31 31 103 104) (g.spelled (k.Name (codes "n") false))) (g.part (g.atom (p 32 32 105 106) (g.spelled (k.Numeral (codes "1")))) g.none)))) g.none))) g.none)))) g.none)))) (g.part (g.list (p 37 40 111 116) (g.part (g.atom (p 38 38 112 113) (g.spelled (k.Name (codes "m") false))) (g.part (g.atom (p 39 39 114 115) (g.spelled (k.Name (codes "j") false))) g.none))) (g.part (g.list (p 41 44 117 122) (g.part (g.atom (p 42 42 118 119) (g.spelled (k.Name (codes "d") false))) (g.part (g.atom (p 43 43 120 121) (g.spelled (k.Name (codes "k") false))) g.none))) g.none))))) g.none)))))) ∷ [])) ∷ ((codes "file:///l.sld"), Some (((g.list (p 0 43 0 119) (g.part (g.atom (p 1 1 1 15) (g.spelled (k.Name (codes "define-library") false))) (g.part (g.list (p 2 4 16 19) (g.part (g.atom (p 3 3 17 18) (g.spelled (k.Name (codes "l") false))) g.none)) (g.part (g.list (p 5 8 20 30) (g.part (g.atom (p 6 6 21 27) (g.spelled (k.Name (codes "export") false))) (g.part (g.atom (p 7 7 28 29) (g.spelled (k.Name (codes "m") false))) g.none))) (g.part (g.list (p 9 15 31 53) (g.part (g.atom (p 10 10 32 38) (g.spelled (k.Name (codes "import") false))) (g.part (g.list (p 11 14 39 52) (g.part (g.atom (p 12 12 40 46) (g.spelled (k.Name (codes "scheme") false))) (g.part (g.atom (p 13 13 47 51) (g.spelled (k.Name (codes "base") false))) g.none))) g.none))) (g.part (g.list (p 16 42 54 118) (g.part (g.atom (p 17 17 55 60) (g.spelled (k.Name (codes "begin") false))) (g.part (g.list (p 18 41 61 117) (g.part (g.atom (p 19 19 62 75) (g.spelled (k.Name (codes "define-syntax") false))) (g.part (g.atom (p 20 20 76 77) (g.spelled (k.Name (codes "m") false))) (g.part (g.list (p 21 40 78 116) (g.part (g.atom (p 22 22 79 91) (g.spelled (k.Name (codes "syntax-rules") false))) (g.part (g.list (p 23 25 92 95) (g.part (g.atom (p 24 24 93 94) (g.spelled (k.Name (codes "k") false))) g.none)) (g.part (g.list (p 26 32 96 105) (g.part (g.list (p 27 30 97 102) (g.part (g.atom (p 28 28 98 99) (g.spelled (k.Name (codes "_") false))) (g.part (g.atom (p 29 29 100 101) (g.spelled (k.Name (codes "k") false))) g.none))) (g.part (g.atom (p 31 31 103 104) (g.spelled (k.Numeral (codes "1")))) g.none))) (g.part (g.list (p 33 39 106 115) (g.part (g.list (p 34 37 107 112) (g.part (g.atom (p 35 35 108 109) (g.spelled (k.Name (codes "_") false))) (g.part (g.atom (p 36 36 110 111) (g.spelled (k.Name (codes "a") false))) g.none))) (g.part (g.atom (p 38 38 113 114) (g.spelled (k.Numeral (codes "2")))) g.none))) g.none))))) g.none)))) g.none))) g.none))))))) ∷ [])) ∷ []) (((codes "file:///a.scm"), Some (((g.list (p 0 46 0 124) (g.part (g.atom (p 1 1 1 15) (g.spelled (k.Name (codes "define-library") false))) (g.part (g.list (p 2 4 16 19) (g.part (g.atom (p 3 3 17 18) (g.spelled (k.Name (codes "a") false))) g.none)) (g.part (g.list (p 5 14 20 46) (g.part (g.atom (p 6 6 21 27) (g.spelled (k.Name (codes "import") false))) (g.part (g.list (p 7 10 28 41) (g.part (g.atom (p 8 8 29 35) (g.spelled (k.Name (codes "scheme") false))) (g.part (g.atom (p 9 9 36 40) (g.spelled (k.Name (codes "base") false))) g.none))) (g.part (g.list (p 11 13 42 45) (g.part (g.atom (p 12 12 43 44) (g.spelled (k.Name (codes "l") false))) g.none)) g.none)))) (g.part (g.list (p 15 45 47 123) (g.part (g.atom (p 16 16 48 53) (g.spelled (k.Name (codes "begin") false))) (g.part (g.list (p 17 36 54 110) (g.part (g.atom (p 18 18 55 68) (g.spelled (k.Name (codes "define-syntax") false))) (g.part (g.atom (p 19 19 69 70) (g.spelled (k.Name (codes "d") false))) (g.part (g.list (p 20 35 71 109) (g.part (g.atom (p 21 21 72 84) (g.spelled (k.Name (codes "syntax-rules") false))) (g.part (g.list (p 22 23 85 87) g.none) (g.part (g.list (p 24 34 88 108) (g.part (g.list (p 25 28 89 94) (g.part (g.atom (p 26 26 90 91) (g.spelled (k.Name (codes "_") false))) (g.part (g.atom (p 27 27 92 93) (g.spelled (k.Name (codes "n") false))) g.none))) (g.part (g.list (p 29 33 95 107) (g.part (g.atom (p 30 30 96 102) (g.spelled (k.Name (codes "define") false))) (g.part (g.atom (p 31 31 103 104) (g.spelled (k.Name (codes "n") false))) (g.part (g.atom (p 32 32 105 106) (g.spelled (k.Numeral (codes "1")))) g.none)))) g.none))) g.none)))) g.none)))) (g.part (g.list (p 37 40 111 116) (g.part (g.atom (p 38 38 112 113) (g.spelled (k.Name (codes "m") false))) (g.part (g.atom (p 39 39 114 115) (g.spelled (k.Name (codes "k") false))) g.none))) (g.part (g.list (p 41 44 117 122) (g.part (g.atom (p 42 42 118 119) (g.spelled (k.Name (codes "d") false))) (g.part (g.atom (p 43 43 120 121) (g.spelled (k.Name (codes "k") false))) g.none))) g.none))))) g.none)))))) ∷ [])) ∷ ((codes "file:///l.sld"), Some (((g.list (p 0 43 0 119) (g.part (g.atom (p 1 1 1 15) (g.spelled (k.Name (codes "define-library") false))) (g.part (g.list (p 2 4 16 19) (g.part (g.atom (p 3 3 17 18) (g.spelled (k.Name (codes "l") false))) g.none)) (g.part (g.list (p 5 8 20 30) (g.part (g.atom (p 6 6 21 27) (g.spelled (k.Name (codes "export") false))) (g.part (g.atom (p 7 7 28 29) (g.spelled (k.Name (codes "m") false))) g.none))) (g.part (g.list (p 9 15 31 53) (g.part (g.atom (p 10 10 32 38) (g.spelled (k.Name (codes "import") false))) (g.part (g.list (p 11 14 39 52) (g.part (g.atom (p 12 12 40 46) (g.spelled (k.Name (codes "scheme") false))) (g.part (g.atom (p 13 13 47 51) (g.spelled (k.Name (codes "base") false))) g.none))) g.none))) (g.part (g.list (p 16 42 54 118) (g.part (g.atom (p 17 17 55 60) (g.spelled (k.Name (codes "begin") false))) (g.part (g.list (p 18 41 61 117) (g.part (g.atom (p 19 19 62 75) (g.spelled (k.Name (codes "define-syntax") false))) (g.part (g.atom (p 20 20 76 77) (g.spelled (k.Name (codes "m") false))) (g.part (g.list (p 21 40 78 116) (g.part (g.atom (p 22 22 79 91) (g.spelled (k.Name (codes "syntax-rules") false))) (g.part (g.list (p 23 25 92 95) (g.part (g.atom (p 24 24 93 94) (g.spelled (k.Name (codes "k") false))) g.none)) (g.part (g.list (p 26 32 96 105) (g.part (g.list (p 27 30 97 102) (g.part (g.atom (p 28 28 98 99) (g.spelled (k.Name (codes "_") false))) (g.part (g.atom (p 29 29 100 101) (g.spelled (k.Name (codes "k") false))) g.none))) (g.part (g.atom (p 31 31 103 104) (g.spelled (k.Numeral (codes "1")))) g.none))) (g.part (g.list (p 33 39 106 115) (g.part (g.list (p 34 37 107 112) (g.part (g.atom (p 35 35 108 109) (g.spelled (k.Name (codes "_") false))) (g.part (g.atom (p 36 36 110 111) (g.spelled (k.Name (codes "a") false))) g.none))) (g.part (g.atom (p 38 38 113 114) (g.spelled (k.Numeral (codes "2")))) g.none))) g.none))))) g.none)))) g.none))) g.none))))))) ∷ [])) ∷ []) ≡ ((0, 1) ∷ (1, 2) ∷ [], 2)
unfolding base_names standard_libraries prelude encode_utf8
asked_how_a_definition_ends_a_comparison_comes_out_otherwise = refl

pub asked_whether_a_definition_is_an_assignment : carried_rows (((codes "file:///a.scm"), Some (((g.list (p 0 19 0 56) (g.part (g.atom (p 1 1 1 14) (g.spelled (k.Name (codes "define-syntax") false))) (g.part (g.atom (p 2 2 15 16) (g.spelled (k.Name (codes "d") false))) (g.part (g.list (p 3 18 17 55) (g.part (g.atom (p 4 4 18 30) (g.spelled (k.Name (codes "syntax-rules") false))) (g.part (g.list (p 5 6 31 33) g.none) (g.part (g.list (p 7 17 34 54) (g.part (g.list (p 8 11 35 40) (g.part (g.atom (p 9 9 36 37) (g.spelled (k.Name (codes "_") false))) (g.part (g.atom (p 10 10 38 39) (g.spelled (k.Name (codes "n") false))) g.none))) (g.part (g.list (p 12 16 41 53) (g.part (g.atom (p 13 13 42 48) (g.spelled (k.Name (codes "define") false))) (g.part (g.atom (p 14 14 49 50) (g.spelled (k.Name (codes "n") false))) (g.part (g.atom (p 15 15 51 52) (g.spelled (k.Numeral (codes "1")))) g.none)))) g.none))) g.none)))) g.none))))) ∷ ((g.list (p 20 23 57 62) (g.part (g.atom (p 21 21 58 59) (g.spelled (k.Name (codes "d") false))) (g.part (g.atom (p 22 22 60 61) (g.spelled (k.Name (codes "x") false))) g.none)))) ∷ [])) ∷ []) (((codes "file:///a.scm"), Some (((g.list (p 0 19 0 56) (g.part (g.atom (p 1 1 1 14) (g.spelled (k.Name (codes "define-syntax") false))) (g.part (g.atom (p 2 2 15 16) (g.spelled (k.Name (codes "d") false))) (g.part (g.list (p 3 18 17 55) (g.part (g.atom (p 4 4 18 30) (g.spelled (k.Name (codes "syntax-rules") false))) (g.part (g.list (p 5 6 31 33) g.none) (g.part (g.list (p 7 17 34 54) (g.part (g.list (p 8 11 35 40) (g.part (g.atom (p 9 9 36 37) (g.spelled (k.Name (codes "_") false))) (g.part (g.atom (p 10 10 38 39) (g.spelled (k.Name (codes "n") false))) g.none))) (g.part (g.list (p 12 16 41 53) (g.part (g.atom (p 13 13 42 48) (g.spelled (k.Name (codes "define") false))) (g.part (g.atom (p 14 14 49 50) (g.spelled (k.Name (codes "n") false))) (g.part (g.atom (p 15 15 51 52) (g.spelled (k.Numeral (codes "1")))) g.none)))) g.none))) g.none)))) g.none))))) ∷ ((g.list (p 20 24 57 69) (g.part (g.atom (p 21 21 58 64) (g.spelled (k.Name (codes "define") false))) (g.part (g.atom (p 22 22 65 66) (g.spelled (k.Name (codes "x") false))) (g.part (g.atom (p 23 23 67 68) (g.spelled (k.Numeral (codes "0")))) g.none))))) ∷ ((g.list (p 25 28 70 75) (g.part (g.atom (p 26 26 71 72) (g.spelled (k.Name (codes "d") false))) (g.part (g.atom (p 27 27 73 74) (g.spelled (k.Name (codes "x") false))) g.none)))) ∷ [])) ∷ []) ≡ ((0, 0) ∷ [], 1)
unfolding base_names standard_libraries prelude encode_utf8
asked_whether_a_definition_is_an_assignment = refl

pub asked_nothing_of_what_a_form_binds : carried_rows (((codes "file:///a.scm"), Some (((g.list (p 0 38 0 87) (g.part (g.atom (p 1 1 1 7) (g.spelled (k.Name (codes "lambda") false))) (g.part (g.list (p 2 4 8 11) (g.part (g.atom (p 3 3 9 10) (g.spelled (k.Name (codes "x") false))) g.none)) (g.part (g.list (p 5 9 12 24) (g.part (g.atom (p 6 6 13 19) (g.spelled (k.Name (codes "define") false))) (g.part (g.atom (p 7 7 20 21) (g.spelled (k.Name (codes "y") false))) (g.part (g.atom (p 8 8 22 23) (g.spelled (k.Name (codes "x") false))) g.none)))) (g.part (g.list (p 10 37 25 86) (g.part (g.atom (p 11 11 26 36) (g.spelled (k.Name (codes "let-syntax") false))) (g.part (g.list (p 12 32 37 79) (g.part (g.list (p 13 31 38 78) (g.part (g.atom (p 14 14 39 40) (g.spelled (k.Name (codes "k") false))) (g.part (g.list (p 15 30 41 77) (g.part (g.atom (p 16 16 42 54) (g.spelled (k.Name (codes "syntax-rules") false))) (g.part (g.list (p 17 18 55 57) g.none) (g.part (g.list (p 19 29 58 76) (g.part (g.list (p 20 23 59 64) (g.part (g.atom (p 21 21 60 61) (g.spelled (k.Name (codes "_") false))) (g.part (g.atom (p 22 22 62 63) (g.spelled (k.Name (codes "a") false))) g.none))) (g.part (g.list (p 24 28 65 75) (g.part (g.atom (p 25 25 66 70) (g.spelled (k.Name (codes "list") false))) (g.part (g.atom (p 26 26 71 72) (g.spelled (k.Name (codes "a") false))) (g.part (g.atom (p 27 27 73 74) (g.spelled (k.Name (codes "y") false))) g.none)))) g.none))) g.none)))) g.none))) g.none)) (g.part (g.list (p 33 36 80 85) (g.part (g.atom (p 34 34 81 82) (g.spelled (k.Name (codes "k") false))) (g.part (g.atom (p 35 35 83 84) (g.spelled (k.Name (codes "x") false))) g.none))) g.none)))) g.none)))))) ∷ [])) ∷ []) (((codes "file:///a.scm"), Some (((g.list (p 0 4 0 12) (g.part (g.atom (p 1 1 1 7) (g.spelled (k.Name (codes "define") false))) (g.part (g.atom (p 2 2 8 9) (g.spelled (k.Name (codes "x") false))) (g.part (g.atom (p 3 3 10 11) (g.spelled (k.Numeral (codes "1")))) g.none))))) ∷ ((g.list (p 5 9 13 25) (g.part (g.atom (p 6 6 14 20) (g.spelled (k.Name (codes "define") false))) (g.part (g.atom (p 7 7 21 22) (g.spelled (k.Name (codes "y") false))) (g.part (g.atom (p 8 8 23 24) (g.spelled (k.Numeral (codes "2")))) g.none))))) ∷ ((g.list (p 10 14 26 38) (g.part (g.atom (p 11 11 27 33) (g.spelled (k.Name (codes "define") false))) (g.part (g.atom (p 12 12 34 35) (g.spelled (k.Name (codes "k") false))) (g.part (g.atom (p 13 13 36 37) (g.spelled (k.Numeral (codes "3")))) g.none))))) ∷ ((g.list (p 15 53 39 126) (g.part (g.atom (p 16 16 40 46) (g.spelled (k.Name (codes "lambda") false))) (g.part (g.list (p 17 19 47 50) (g.part (g.atom (p 18 18 48 49) (g.spelled (k.Name (codes "x") false))) g.none)) (g.part (g.list (p 20 24 51 63) (g.part (g.atom (p 21 21 52 58) (g.spelled (k.Name (codes "define") false))) (g.part (g.atom (p 22 22 59 60) (g.spelled (k.Name (codes "y") false))) (g.part (g.atom (p 23 23 61 62) (g.spelled (k.Name (codes "x") false))) g.none)))) (g.part (g.list (p 25 52 64 125) (g.part (g.atom (p 26 26 65 75) (g.spelled (k.Name (codes "let-syntax") false))) (g.part (g.list (p 27 47 76 118) (g.part (g.list (p 28 46 77 117) (g.part (g.atom (p 29 29 78 79) (g.spelled (k.Name (codes "k") false))) (g.part (g.list (p 30 45 80 116) (g.part (g.atom (p 31 31 81 93) (g.spelled (k.Name (codes "syntax-rules") false))) (g.part (g.list (p 32 33 94 96) g.none) (g.part (g.list (p 34 44 97 115) (g.part (g.list (p 35 38 98 103) (g.part (g.atom (p 36 36 99 100) (g.spelled (k.Name (codes "_") false))) (g.part (g.atom (p 37 37 101 102) (g.spelled (k.Name (codes "a") false))) g.none))) (g.part (g.list (p 39 43 104 114) (g.part (g.atom (p 40 40 105 109) (g.spelled (k.Name (codes "list") false))) (g.part (g.atom (p 41 41 110 111) (g.spelled (k.Name (codes "a") false))) (g.part (g.atom (p 42 42 112 113) (g.spelled (k.Name (codes "y") false))) g.none)))) g.none))) g.none)))) g.none))) g.none)) (g.part (g.list (p 48 51 119 124) (g.part (g.atom (p 49 49 120 121) (g.spelled (k.Name (codes "k") false))) (g.part (g.atom (p 50 50 122 123) (g.spelled (k.Name (codes "x") false))) g.none))) g.none)))) g.none)))))) ∷ [])) ∷ []) ≡ ((0, 3) ∷ [], 0)
unfolding base_names standard_libraries prelude encode_utf8
asked_nothing_of_what_a_form_binds = refl

pub asked_what_a_local_macro_inserts : carried_rows (((codes "file:///a.scm"), Some (((g.list (p 0 21 0 48) (g.part (g.atom (p 1 1 1 11) (g.spelled (k.Name (codes "let-syntax") false))) (g.part (g.list (p 2 17 12 43) (g.part (g.list (p 3 16 13 42) (g.part (g.atom (p 4 4 14 15) (g.spelled (k.Name (codes "k") false))) (g.part (g.list (p 5 15 16 41) (g.part (g.atom (p 6 6 17 29) (g.spelled (k.Name (codes "syntax-rules") false))) (g.part (g.list (p 7 8 30 32) g.none) (g.part (g.list (p 9 14 33 40) (g.part (g.list (p 10 12 34 37) (g.part (g.atom (p 11 11 35 36) (g.spelled (k.Name (codes "_") false))) g.none)) (g.part (g.atom (p 13 13 38 39) (g.spelled (k.Name (codes "x") false))) g.none))) g.none)))) g.none))) g.none)) (g.part (g.list (p 18 20 44 47) (g.part (g.atom (p 19 19 45 46) (g.spelled (k.Name (codes "k") false))) g.none)) g.none))))) ∷ [])) ∷ []) (((codes "file:///a.scm"), Some (((g.list (p 0 4 0 12) (g.part (g.atom (p 1 1 1 7) (g.spelled (k.Name (codes "define") false))) (g.part (g.atom (p 2 2 8 9) (g.spelled (k.Name (codes "x") false))) (g.part (g.atom (p 3 3 10 11) (g.spelled (k.Numeral (codes "1")))) g.none))))) ∷ ((g.list (p 5 26 13 61) (g.part (g.atom (p 6 6 14 24) (g.spelled (k.Name (codes "let-syntax") false))) (g.part (g.list (p 7 22 25 56) (g.part (g.list (p 8 21 26 55) (g.part (g.atom (p 9 9 27 28) (g.spelled (k.Name (codes "k") false))) (g.part (g.list (p 10 20 29 54) (g.part (g.atom (p 11 11 30 42) (g.spelled (k.Name (codes "syntax-rules") false))) (g.part (g.list (p 12 13 43 45) g.none) (g.part (g.list (p 14 19 46 53) (g.part (g.list (p 15 17 47 50) (g.part (g.atom (p 16 16 48 49) (g.spelled (k.Name (codes "_") false))) g.none)) (g.part (g.atom (p 18 18 51 52) (g.spelled (k.Name (codes "x") false))) g.none))) g.none)))) g.none))) g.none)) (g.part (g.list (p 23 25 57 60) (g.part (g.atom (p 24 24 58 59) (g.spelled (k.Name (codes "k") false))) g.none)) g.none))))) ∷ [])) ∷ []) ≡ ([], 1)
unfolding base_names standard_libraries prelude encode_utf8
asked_what_a_local_macro_inserts = refl

pub broken_form_carried : carried_rows (((codes "file:///a.scm"), Some (((g.list (p 0 15 0 45) (g.part (g.atom (p 1 1 1 14) (g.spelled (k.Name (codes "define-syntax") false))) (g.part (g.atom (p 2 2 15 16) (g.spelled (k.Name (codes "m") false))) (g.part (g.list (p 3 14 17 44) (g.part (g.atom (p 4 4 18 30) (g.spelled (k.Name (codes "syntax-rules") false))) (g.part (g.list (p 5 6 31 33) g.none) (g.part (g.list (p 7 13 34 43) (g.part (g.list (p 8 11 35 40) (g.part (g.atom (p 9 9 36 37) (g.spelled (k.Name (codes "_") false))) (g.part (g.atom (p 10 10 38 39) (g.spelled (k.Name (codes "a") false))) g.none))) (g.part (g.atom (p 12 12 41 42) (g.spelled (k.Name (codes "a") false))) g.none))) g.none)))) g.none))))) ∷ ((g.list (p 16 18 46 49) (g.part (g.atom (p 17 17 47 48) (g.spelled (k.Name (codes "m") false))) g.none))) ∷ [])) ∷ []) (((codes "file:///a.scm"), Some (((g.list (p 0 4 0 12) (g.part (g.atom (p 1 1 1 7) (g.spelled (k.Name (codes "define") false))) (g.part (g.atom (p 2 2 8 9) (g.spelled (k.Name (codes "w") false))) (g.part (g.atom (p 3 3 10 11) (g.spelled (k.Numeral (codes "0")))) g.none))))) ∷ ((g.list (p 5 20 13 58) (g.part (g.atom (p 6 6 14 27) (g.spelled (k.Name (codes "define-syntax") false))) (g.part (g.atom (p 7 7 28 29) (g.spelled (k.Name (codes "m") false))) (g.part (g.list (p 8 19 30 57) (g.part (g.atom (p 9 9 31 43) (g.spelled (k.Name (codes "syntax-rules") false))) (g.part (g.list (p 10 11 44 46) g.none) (g.part (g.list (p 12 18 47 56) (g.part (g.list (p 13 16 48 53) (g.part (g.atom (p 14 14 49 50) (g.spelled (k.Name (codes "_") false))) (g.part (g.atom (p 15 15 51 52) (g.spelled (k.Name (codes "a") false))) g.none))) (g.part (g.atom (p 17 17 54 55) (g.spelled (k.Name (codes "a") false))) g.none))) g.none)))) g.none))))) ∷ ((g.list (p 21 23 59 62) (g.part (g.atom (p 22 22 60 61) (g.spelled (k.Name (codes "m") false))) g.none))) ∷ [])) ∷ []) ≡ ((0, 1) ∷ (0, 2) ∷ [], 0)
unfolding base_names standard_libraries prelude encode_utf8
broken_form_carried = refl

pub broken_before : carried_rows (((codes "file:///a.scm"), Some (((g.list (p 0 15 0 45) (g.part (g.atom (p 1 1 1 14) (g.spelled (k.Name (codes "define-syntax") false))) (g.part (g.atom (p 2 2 15 16) (g.spelled (k.Name (codes "m") false))) (g.part (g.list (p 3 14 17 44) (g.part (g.atom (p 4 4 18 30) (g.spelled (k.Name (codes "syntax-rules") false))) (g.part (g.list (p 5 6 31 33) g.none) (g.part (g.list (p 7 13 34 43) (g.part (g.list (p 8 11 35 40) (g.part (g.atom (p 9 9 36 37) (g.spelled (k.Name (codes "_") false))) (g.part (g.atom (p 10 10 38 39) (g.spelled (k.Name (codes "a") false))) g.none))) (g.part (g.atom (p 12 12 41 42) (g.spelled (k.Name (codes "a") false))) g.none))) g.none)))) g.none))))) ∷ ((g.list (p 16 19 46 52) (g.part (g.atom (p 17 17 47 48) (g.spelled (k.Name (codes "m") false))) (g.part (g.atom (p 18 18 49 51) (g.spelled (k.Name (codes "if") false))) g.none)))) ∷ [])) ∷ []) (((codes "file:///a.scm"), Some (((g.list (p 0 15 0 45) (g.part (g.atom (p 1 1 1 14) (g.spelled (k.Name (codes "define-syntax") false))) (g.part (g.atom (p 2 2 15 16) (g.spelled (k.Name (codes "m") false))) (g.part (g.list (p 3 14 17 44) (g.part (g.atom (p 4 4 18 30) (g.spelled (k.Name (codes "syntax-rules") false))) (g.part (g.list (p 5 6 31 33) g.none) (g.part (g.list (p 7 13 34 43) (g.part (g.list (p 8 11 35 40) (g.part (g.atom (p 9 9 36 37) (g.spelled (k.Name (codes "_") false))) (g.part (g.atom (p 10 10 38 39) (g.spelled (k.Name (codes "a") false))) g.none))) (g.part (g.atom (p 12 12 41 42) (g.spelled (k.Name (codes "a") false))) g.none))) g.none)))) g.none))))) ∷ ((g.list (p 16 19 46 52) (g.part (g.atom (p 17 17 47 48) (g.spelled (k.Name (codes "m") false))) (g.part (g.atom (p 18 18 49 51) (g.spelled (k.Name (codes "if") false))) g.none)))) ∷ ((g.list (p 20 24 53 66) (g.part (g.atom (p 21 21 54 60) (g.spelled (k.Name (codes "define") false))) (g.part (g.atom (p 22 22 61 63) (g.spelled (k.Name (codes "if") false))) (g.part (g.atom (p 23 23 64 65) (g.spelled (k.Numeral (codes "1")))) g.none))))) ∷ [])) ∷ []) ≡ ((0, 0) ∷ [], 1)
unfolding base_names standard_libraries prelude encode_utf8
broken_before = refl

pub broken_after : carried_rows (((codes "file:///a.scm"), Some (((g.list (p 0 15 0 45) (g.part (g.atom (p 1 1 1 14) (g.spelled (k.Name (codes "define-syntax") false))) (g.part (g.atom (p 2 2 15 16) (g.spelled (k.Name (codes "m") false))) (g.part (g.list (p 3 14 17 44) (g.part (g.atom (p 4 4 18 30) (g.spelled (k.Name (codes "syntax-rules") false))) (g.part (g.list (p 5 6 31 33) g.none) (g.part (g.list (p 7 13 34 43) (g.part (g.list (p 8 11 35 40) (g.part (g.atom (p 9 9 36 37) (g.spelled (k.Name (codes "_") false))) (g.part (g.atom (p 10 10 38 39) (g.spelled (k.Name (codes "a") false))) g.none))) (g.part (g.atom (p 12 12 41 42) (g.spelled (k.Name (codes "a") false))) g.none))) g.none)))) g.none))))) ∷ ((g.list (p 16 20 46 58) (g.part (g.atom (p 17 17 47 53) (g.spelled (k.Name (codes "define") false))) (g.part (g.atom (p 18 18 54 55) (g.spelled (k.Name (codes "x") false))) (g.part (g.atom (p 19 19 56 57) (g.spelled (k.Numeral (codes "1")))) g.none))))) ∷ ((g.list (p 21 24 59 64) (g.part (g.atom (p 22 22 60 61) (g.spelled (k.Name (codes "m") false))) (g.part (g.atom (p 23 23 62 63) (g.spelled (k.Name (codes "x") false))) g.none)))) ∷ [])) ∷ []) (((codes "file:///a.scm"), Some (((g.list (p 0 15 0 45) (g.part (g.atom (p 1 1 1 14) (g.spelled (k.Name (codes "define-syntax") false))) (g.part (g.atom (p 2 2 15 16) (g.spelled (k.Name (codes "m") false))) (g.part (g.list (p 3 14 17 44) (g.part (g.atom (p 4 4 18 30) (g.spelled (k.Name (codes "syntax-rules") false))) (g.part (g.list (p 5 6 31 33) g.none) (g.part (g.list (p 7 13 34 43) (g.part (g.list (p 8 11 35 40) (g.part (g.atom (p 9 9 36 37) (g.spelled (k.Name (codes "_") false))) (g.part (g.atom (p 10 10 38 39) (g.spelled (k.Name (codes "a") false))) g.none))) (g.part (g.atom (p 12 12 41 42) (g.spelled (k.Name (codes "a") false))) g.none))) g.none)))) g.none))))) ∷ ((g.list (p 16 30 46 89) (g.part (g.atom (p 17 17 47 60) (g.spelled (k.Name (codes "define-syntax") false))) (g.part (g.atom (p 18 18 61 62) (g.spelled (k.Name (codes "x") false))) (g.part (g.list (p 19 29 63 88) (g.part (g.atom (p 20 20 64 76) (g.spelled (k.Name (codes "syntax-rules") false))) (g.part (g.list (p 21 22 77 79) g.none) (g.part (g.list (p 23 28 80 87) (g.part (g.list (p 24 26 81 84) (g.part (g.atom (p 25 25 82 83) (g.spelled (k.Name (codes "_") false))) g.none)) (g.part (g.atom (p 27 27 85 86) (g.spelled (k.Numeral (codes "1")))) g.none))) g.none)))) g.none))))) ∷ ((g.list (p 31 34 90 95) (g.part (g.atom (p 32 32 91 92) (g.spelled (k.Name (codes "m") false))) (g.part (g.atom (p 33 33 93 94) (g.spelled (k.Name (codes "x") false))) g.none)))) ∷ [])) ∷ []) ≡ ((0, 0) ∷ [], 1)
unfolding base_names standard_libraries prelude encode_utf8
broken_after = refl

pub broken_form_changed : carried_rows (((codes "file:///a.scm"), Some (((g.list (p 0 15 0 45) (g.part (g.atom (p 1 1 1 14) (g.spelled (k.Name (codes "define-syntax") false))) (g.part (g.atom (p 2 2 15 16) (g.spelled (k.Name (codes "m") false))) (g.part (g.list (p 3 14 17 44) (g.part (g.atom (p 4 4 18 30) (g.spelled (k.Name (codes "syntax-rules") false))) (g.part (g.list (p 5 6 31 33) g.none) (g.part (g.list (p 7 13 34 43) (g.part (g.list (p 8 11 35 40) (g.part (g.atom (p 9 9 36 37) (g.spelled (k.Name (codes "_") false))) (g.part (g.atom (p 10 10 38 39) (g.spelled (k.Name (codes "a") false))) g.none))) (g.part (g.atom (p 12 12 41 42) (g.spelled (k.Name (codes "a") false))) g.none))) g.none)))) g.none))))) ∷ ((g.list (p 16 18 46 49) (g.part (g.atom (p 17 17 47 48) (g.spelled (k.Name (codes "m") false))) g.none))) ∷ ((g.list (p 19 22 50 55) (g.part (g.atom (p 20 20 51 52) (g.spelled (k.Name (codes "m") false))) (g.part (g.atom (p 21 21 53 54) (g.spelled (k.Numeral (codes "1")))) g.none)))) ∷ [])) ∷ []) (((codes "file:///a.scm"), Some (((g.list (p 0 15 0 45) (g.part (g.atom (p 1 1 1 14) (g.spelled (k.Name (codes "define-syntax") false))) (g.part (g.atom (p 2 2 15 16) (g.spelled (k.Name (codes "m") false))) (g.part (g.list (p 3 14 17 44) (g.part (g.atom (p 4 4 18 30) (g.spelled (k.Name (codes "syntax-rules") false))) (g.part (g.list (p 5 6 31 33) g.none) (g.part (g.list (p 7 13 34 43) (g.part (g.list (p 8 11 35 40) (g.part (g.atom (p 9 9 36 37) (g.spelled (k.Name (codes "_") false))) (g.part (g.atom (p 10 10 38 39) (g.spelled (k.Name (codes "a") false))) g.none))) (g.part (g.atom (p 12 12 41 42) (g.spelled (k.Name (codes "a") false))) g.none))) g.none)))) g.none))))) ∷ ((g.list (p 16 19 46 51) (g.part (g.atom (p 17 17 47 48) (g.spelled (k.Name (codes "m") false))) (g.part (g.atom (p 18 18 49 50) (g.spelled (k.Numeral (codes "2")))) g.none)))) ∷ ((g.list (p 20 23 52 57) (g.part (g.atom (p 21 21 53 54) (g.spelled (k.Name (codes "m") false))) (g.part (g.atom (p 22 22 55 56) (g.spelled (k.Numeral (codes "1")))) g.none)))) ∷ [])) ∷ []) ≡ ((0, 0) ∷ (0, 2) ∷ [], 1)
unfolding base_names standard_libraries prelude encode_utf8
broken_form_changed = refl

pub unreadable_before : carried_rows (((codes "file:///a.scm"), None) ∷ []) (((codes "file:///a.scm"), Some (((g.list (p 0 15 0 45) (g.part (g.atom (p 1 1 1 14) (g.spelled (k.Name (codes "define-syntax") false))) (g.part (g.atom (p 2 2 15 16) (g.spelled (k.Name (codes "m") false))) (g.part (g.list (p 3 14 17 44) (g.part (g.atom (p 4 4 18 30) (g.spelled (k.Name (codes "syntax-rules") false))) (g.part (g.list (p 5 6 31 33) g.none) (g.part (g.list (p 7 13 34 43) (g.part (g.list (p 8 11 35 40) (g.part (g.atom (p 9 9 36 37) (g.spelled (k.Name (codes "_") false))) (g.part (g.atom (p 10 10 38 39) (g.spelled (k.Name (codes "a") false))) g.none))) (g.part (g.atom (p 12 12 41 42) (g.spelled (k.Name (codes "a") false))) g.none))) g.none)))) g.none))))) ∷ ((g.list (p 16 19 46 51) (g.part (g.atom (p 17 17 47 48) (g.spelled (k.Name (codes "m") false))) (g.part (g.atom (p 18 18 49 50) (g.spelled (k.Numeral (codes "1")))) g.none)))) ∷ [])) ∷ []) ≡ ([], 1)
unfolding base_names standard_libraries prelude encode_utf8
unreadable_before = refl

pub unreadable_after : carried_rows (((codes "file:///a.scm"), Some (((g.list (p 0 15 0 45) (g.part (g.atom (p 1 1 1 14) (g.spelled (k.Name (codes "define-syntax") false))) (g.part (g.atom (p 2 2 15 16) (g.spelled (k.Name (codes "m") false))) (g.part (g.list (p 3 14 17 44) (g.part (g.atom (p 4 4 18 30) (g.spelled (k.Name (codes "syntax-rules") false))) (g.part (g.list (p 5 6 31 33) g.none) (g.part (g.list (p 7 13 34 43) (g.part (g.list (p 8 11 35 40) (g.part (g.atom (p 9 9 36 37) (g.spelled (k.Name (codes "_") false))) (g.part (g.atom (p 10 10 38 39) (g.spelled (k.Name (codes "a") false))) g.none))) (g.part (g.atom (p 12 12 41 42) (g.spelled (k.Name (codes "a") false))) g.none))) g.none)))) g.none))))) ∷ ((g.list (p 16 19 46 51) (g.part (g.atom (p 17 17 47 48) (g.spelled (k.Name (codes "m") false))) (g.part (g.atom (p 18 18 49 50) (g.spelled (k.Numeral (codes "1")))) g.none)))) ∷ [])) ∷ []) (((codes "file:///a.scm"), None) ∷ []) ≡ ([], 0)
unfolding base_names standard_libraries prelude encode_utf8
unreadable_after = refl

pub opened : carried_rows ([]) (((codes "file:///a.scm"), Some (((g.list (p 0 15 0 45) (g.part (g.atom (p 1 1 1 14) (g.spelled (k.Name (codes "define-syntax") false))) (g.part (g.atom (p 2 2 15 16) (g.spelled (k.Name (codes "m") false))) (g.part (g.list (p 3 14 17 44) (g.part (g.atom (p 4 4 18 30) (g.spelled (k.Name (codes "syntax-rules") false))) (g.part (g.list (p 5 6 31 33) g.none) (g.part (g.list (p 7 13 34 43) (g.part (g.list (p 8 11 35 40) (g.part (g.atom (p 9 9 36 37) (g.spelled (k.Name (codes "_") false))) (g.part (g.atom (p 10 10 38 39) (g.spelled (k.Name (codes "a") false))) g.none))) (g.part (g.atom (p 12 12 41 42) (g.spelled (k.Name (codes "a") false))) g.none))) g.none)))) g.none))))) ∷ ((g.list (p 16 19 46 51) (g.part (g.atom (p 17 17 47 48) (g.spelled (k.Name (codes "m") false))) (g.part (g.atom (p 18 18 49 50) (g.spelled (k.Numeral (codes "1")))) g.none)))) ∷ ((g.list (p 20 23 52 57) (g.part (g.atom (p 21 21 53 54) (g.spelled (k.Name (codes "m") false))) (g.part (g.atom (p 22 22 55 56) (g.spelled (k.Numeral (codes "2")))) g.none)))) ∷ [])) ∷ []) ≡ ([], 2)
unfolding base_names standard_libraries prelude encode_utf8
opened = refl

pub closed : carried_rows (((codes "file:///a.scm"), Some (((g.list (p 0 15 0 45) (g.part (g.atom (p 1 1 1 14) (g.spelled (k.Name (codes "define-syntax") false))) (g.part (g.atom (p 2 2 15 16) (g.spelled (k.Name (codes "m") false))) (g.part (g.list (p 3 14 17 44) (g.part (g.atom (p 4 4 18 30) (g.spelled (k.Name (codes "syntax-rules") false))) (g.part (g.list (p 5 6 31 33) g.none) (g.part (g.list (p 7 13 34 43) (g.part (g.list (p 8 11 35 40) (g.part (g.atom (p 9 9 36 37) (g.spelled (k.Name (codes "_") false))) (g.part (g.atom (p 10 10 38 39) (g.spelled (k.Name (codes "a") false))) g.none))) (g.part (g.atom (p 12 12 41 42) (g.spelled (k.Name (codes "a") false))) g.none))) g.none)))) g.none))))) ∷ ((g.list (p 16 19 46 51) (g.part (g.atom (p 17 17 47 48) (g.spelled (k.Name (codes "m") false))) (g.part (g.atom (p 18 18 49 50) (g.spelled (k.Numeral (codes "1")))) g.none)))) ∷ ((g.list (p 20 23 52 57) (g.part (g.atom (p 21 21 53 54) (g.spelled (k.Name (codes "m") false))) (g.part (g.atom (p 22 22 55 56) (g.spelled (k.Numeral (codes "2")))) g.none)))) ∷ [])) ∷ []) ([]) ≡ ([], 0)
unfolding base_names standard_libraries prelude encode_utf8
closed = refl

pub another_uri : carried_rows (((codes "file:///a.scm"), Some (((g.list (p 0 15 0 45) (g.part (g.atom (p 1 1 1 14) (g.spelled (k.Name (codes "define-syntax") false))) (g.part (g.atom (p 2 2 15 16) (g.spelled (k.Name (codes "m") false))) (g.part (g.list (p 3 14 17 44) (g.part (g.atom (p 4 4 18 30) (g.spelled (k.Name (codes "syntax-rules") false))) (g.part (g.list (p 5 6 31 33) g.none) (g.part (g.list (p 7 13 34 43) (g.part (g.list (p 8 11 35 40) (g.part (g.atom (p 9 9 36 37) (g.spelled (k.Name (codes "_") false))) (g.part (g.atom (p 10 10 38 39) (g.spelled (k.Name (codes "a") false))) g.none))) (g.part (g.atom (p 12 12 41 42) (g.spelled (k.Name (codes "a") false))) g.none))) g.none)))) g.none))))) ∷ ((g.list (p 16 19 46 51) (g.part (g.atom (p 17 17 47 48) (g.spelled (k.Name (codes "m") false))) (g.part (g.atom (p 18 18 49 50) (g.spelled (k.Numeral (codes "1")))) g.none)))) ∷ [])) ∷ []) (((codes "file:///b.scm"), Some (((g.list (p 0 15 0 45) (g.part (g.atom (p 1 1 1 14) (g.spelled (k.Name (codes "define-syntax") false))) (g.part (g.atom (p 2 2 15 16) (g.spelled (k.Name (codes "m") false))) (g.part (g.list (p 3 14 17 44) (g.part (g.atom (p 4 4 18 30) (g.spelled (k.Name (codes "syntax-rules") false))) (g.part (g.list (p 5 6 31 33) g.none) (g.part (g.list (p 7 13 34 43) (g.part (g.list (p 8 11 35 40) (g.part (g.atom (p 9 9 36 37) (g.spelled (k.Name (codes "_") false))) (g.part (g.atom (p 10 10 38 39) (g.spelled (k.Name (codes "a") false))) g.none))) (g.part (g.atom (p 12 12 41 42) (g.spelled (k.Name (codes "a") false))) g.none))) g.none)))) g.none))))) ∷ ((g.list (p 16 19 46 51) (g.part (g.atom (p 17 17 47 48) (g.spelled (k.Name (codes "m") false))) (g.part (g.atom (p 18 18 49 50) (g.spelled (k.Numeral (codes "1")))) g.none)))) ∷ [])) ∷ []) ≡ ([], 1)
unfolding base_names standard_libraries prelude encode_utf8
another_uri = refl

pub import_that_gives_one_more_name : carried_rows (((codes "file:///l.sld"), Some (((g.list (p 0 41 0 123) (g.part (g.atom (p 1 1 1 15) (g.spelled (k.Name (codes "define-library") false))) (g.part (g.list (p 2 4 16 19) (g.part (g.atom (p 3 3 17 18) (g.spelled (k.Name (codes "l") false))) g.none)) (g.part (g.list (p 5 9 20 32) (g.part (g.atom (p 6 6 21 27) (g.spelled (k.Name (codes "export") false))) (g.part (g.atom (p 7 7 28 29) (g.spelled (k.Name (codes "f") false))) (g.part (g.atom (p 8 8 30 31) (g.spelled (k.Name (codes "g") false))) g.none)))) (g.part (g.list (p 10 16 33 55) (g.part (g.atom (p 11 11 34 40) (g.spelled (k.Name (codes "import") false))) (g.part (g.list (p 12 15 41 54) (g.part (g.atom (p 13 13 42 48) (g.spelled (k.Name (codes "scheme") false))) (g.part (g.atom (p 14 14 49 53) (g.spelled (k.Name (codes "base") false))) g.none))) g.none))) (g.part (g.list (p 17 40 56 122) (g.part (g.atom (p 18 18 57 62) (g.spelled (k.Name (codes "begin") false))) (g.part (g.list (p 19 23 63 75) (g.part (g.atom (p 20 20 64 70) (g.spelled (k.Name (codes "define") false))) (g.part (g.atom (p 21 21 71 72) (g.spelled (k.Name (codes "f") false))) (g.part (g.atom (p 22 22 73 74) (g.spelled (k.Numeral (codes "1")))) g.none)))) (g.part (g.list (p 24 39 76 121) (g.part (g.atom (p 25 25 77 90) (g.spelled (k.Name (codes "define-syntax") false))) (g.part (g.atom (p 26 26 91 92) (g.spelled (k.Name (codes "g") false))) (g.part (g.list (p 27 38 93 120) (g.part (g.atom (p 28 28 94 106) (g.spelled (k.Name (codes "syntax-rules") false))) (g.part (g.list (p 29 30 107 109) g.none) (g.part (g.list (p 31 37 110 119) (g.part (g.list (p 32 35 111 116) (g.part (g.atom (p 33 33 112 113) (g.spelled (k.Name (codes "_") false))) (g.part (g.atom (p 34 34 114 115) (g.spelled (k.Name (codes "a") false))) g.none))) (g.part (g.atom (p 36 36 117 118) (g.spelled (k.Name (codes "a") false))) g.none))) g.none)))) g.none)))) g.none)))) g.none))))))) ∷ [])) ∷ ((codes "file:///m.scm"), Some (((g.list (p 0 13 0 35) (g.part (g.atom (p 1 1 1 7) (g.spelled (k.Name (codes "import") false))) (g.part (g.list (p 2 5 8 21) (g.part (g.atom (p 3 3 9 15) (g.spelled (k.Name (codes "scheme") false))) (g.part (g.atom (p 4 4 16 20) (g.spelled (k.Name (codes "base") false))) g.none))) (g.part (g.list (p 6 12 22 34) (g.part (g.atom (p 7 7 23 27) (g.spelled (k.Name (codes "only") false))) (g.part (g.list (p 8 10 28 31) (g.part (g.atom (p 9 9 29 30) (g.spelled (k.Name (codes "l") false))) g.none)) (g.part (g.atom (p 11 11 32 33) (g.spelled (k.Name (codes "f") false))) g.none)))) g.none))))) ∷ ((g.list (p 14 29 36 81) (g.part (g.atom (p 15 15 37 50) (g.spelled (k.Name (codes "define-syntax") false))) (g.part (g.atom (p 16 16 51 52) (g.spelled (k.Name (codes "m") false))) (g.part (g.list (p 17 28 53 80) (g.part (g.atom (p 18 18 54 66) (g.spelled (k.Name (codes "syntax-rules") false))) (g.part (g.list (p 19 20 67 69) g.none) (g.part (g.list (p 21 27 70 79) (g.part (g.list (p 22 25 71 76) (g.part (g.atom (p 23 23 72 73) (g.spelled (k.Name (codes "_") false))) (g.part (g.atom (p 24 24 74 75) (g.spelled (k.Name (codes "a") false))) g.none))) (g.part (g.atom (p 26 26 77 78) (g.spelled (k.Name (codes "a") false))) g.none))) g.none)))) g.none))))) ∷ ((g.list (p 30 33 82 87) (g.part (g.atom (p 31 31 83 84) (g.spelled (k.Name (codes "m") false))) (g.part (g.atom (p 32 32 85 86) (g.spelled (k.Name (codes "f") false))) g.none)))) ∷ ((g.list (p 34 40 88 97) (g.part (g.atom (p 35 35 89 90) (g.spelled (k.Name (codes "m") false))) (g.part (g.list (p 36 39 91 96) (g.part (g.atom (p 37 37 92 93) (g.spelled (k.Name (codes "g") false))) (g.part (g.atom (p 38 38 94 95) (g.spelled (k.Numeral (codes "1")))) g.none))) g.none)))) ∷ [])) ∷ []) (((codes "file:///l.sld"), Some (((g.list (p 0 41 0 123) (g.part (g.atom (p 1 1 1 15) (g.spelled (k.Name (codes "define-library") false))) (g.part (g.list (p 2 4 16 19) (g.part (g.atom (p 3 3 17 18) (g.spelled (k.Name (codes "l") false))) g.none)) (g.part (g.list (p 5 9 20 32) (g.part (g.atom (p 6 6 21 27) (g.spelled (k.Name (codes "export") false))) (g.part (g.atom (p 7 7 28 29) (g.spelled (k.Name (codes "f") false))) (g.part (g.atom (p 8 8 30 31) (g.spelled (k.Name (codes "g") false))) g.none)))) (g.part (g.list (p 10 16 33 55) (g.part (g.atom (p 11 11 34 40) (g.spelled (k.Name (codes "import") false))) (g.part (g.list (p 12 15 41 54) (g.part (g.atom (p 13 13 42 48) (g.spelled (k.Name (codes "scheme") false))) (g.part (g.atom (p 14 14 49 53) (g.spelled (k.Name (codes "base") false))) g.none))) g.none))) (g.part (g.list (p 17 40 56 122) (g.part (g.atom (p 18 18 57 62) (g.spelled (k.Name (codes "begin") false))) (g.part (g.list (p 19 23 63 75) (g.part (g.atom (p 20 20 64 70) (g.spelled (k.Name (codes "define") false))) (g.part (g.atom (p 21 21 71 72) (g.spelled (k.Name (codes "f") false))) (g.part (g.atom (p 22 22 73 74) (g.spelled (k.Numeral (codes "1")))) g.none)))) (g.part (g.list (p 24 39 76 121) (g.part (g.atom (p 25 25 77 90) (g.spelled (k.Name (codes "define-syntax") false))) (g.part (g.atom (p 26 26 91 92) (g.spelled (k.Name (codes "g") false))) (g.part (g.list (p 27 38 93 120) (g.part (g.atom (p 28 28 94 106) (g.spelled (k.Name (codes "syntax-rules") false))) (g.part (g.list (p 29 30 107 109) g.none) (g.part (g.list (p 31 37 110 119) (g.part (g.list (p 32 35 111 116) (g.part (g.atom (p 33 33 112 113) (g.spelled (k.Name (codes "_") false))) (g.part (g.atom (p 34 34 114 115) (g.spelled (k.Name (codes "a") false))) g.none))) (g.part (g.atom (p 36 36 117 118) (g.spelled (k.Name (codes "a") false))) g.none))) g.none)))) g.none)))) g.none)))) g.none))))))) ∷ [])) ∷ ((codes "file:///m.scm"), Some (((g.list (p 0 14 0 37) (g.part (g.atom (p 1 1 1 7) (g.spelled (k.Name (codes "import") false))) (g.part (g.list (p 2 5 8 21) (g.part (g.atom (p 3 3 9 15) (g.spelled (k.Name (codes "scheme") false))) (g.part (g.atom (p 4 4 16 20) (g.spelled (k.Name (codes "base") false))) g.none))) (g.part (g.list (p 6 13 22 36) (g.part (g.atom (p 7 7 23 27) (g.spelled (k.Name (codes "only") false))) (g.part (g.list (p 8 10 28 31) (g.part (g.atom (p 9 9 29 30) (g.spelled (k.Name (codes "l") false))) g.none)) (g.part (g.atom (p 11 11 32 33) (g.spelled (k.Name (codes "f") false))) (g.part (g.atom (p 12 12 34 35) (g.spelled (k.Name (codes "g") false))) g.none))))) g.none))))) ∷ ((g.list (p 15 30 38 83) (g.part (g.atom (p 16 16 39 52) (g.spelled (k.Name (codes "define-syntax") false))) (g.part (g.atom (p 17 17 53 54) (g.spelled (k.Name (codes "m") false))) (g.part (g.list (p 18 29 55 82) (g.part (g.atom (p 19 19 56 68) (g.spelled (k.Name (codes "syntax-rules") false))) (g.part (g.list (p 20 21 69 71) g.none) (g.part (g.list (p 22 28 72 81) (g.part (g.list (p 23 26 73 78) (g.part (g.atom (p 24 24 74 75) (g.spelled (k.Name (codes "_") false))) (g.part (g.atom (p 25 25 76 77) (g.spelled (k.Name (codes "a") false))) g.none))) (g.part (g.atom (p 27 27 79 80) (g.spelled (k.Name (codes "a") false))) g.none))) g.none)))) g.none))))) ∷ ((g.list (p 31 34 84 89) (g.part (g.atom (p 32 32 85 86) (g.spelled (k.Name (codes "m") false))) (g.part (g.atom (p 33 33 87 88) (g.spelled (k.Name (codes "f") false))) g.none)))) ∷ ((g.list (p 35 41 90 99) (g.part (g.atom (p 36 36 91 92) (g.spelled (k.Name (codes "m") false))) (g.part (g.list (p 37 40 93 98) (g.part (g.atom (p 38 38 94 95) (g.spelled (k.Name (codes "g") false))) (g.part (g.atom (p 39 39 96 97) (g.spelled (k.Numeral (codes "1")))) g.none))) g.none)))) ∷ [])) ∷ []) ≡ ((0, 2) ∷ (0, 3) ∷ (1, 1) ∷ (1, 2) ∷ [], 2)
unfolding base_names standard_libraries prelude encode_utf8
import_that_gives_one_more_name = refl

pub import_that_gives_a_name_that_nothing_asks : carried_rows (((codes "file:///l.sld"), Some (((g.list (p 0 41 0 123) (g.part (g.atom (p 1 1 1 15) (g.spelled (k.Name (codes "define-library") false))) (g.part (g.list (p 2 4 16 19) (g.part (g.atom (p 3 3 17 18) (g.spelled (k.Name (codes "l") false))) g.none)) (g.part (g.list (p 5 9 20 32) (g.part (g.atom (p 6 6 21 27) (g.spelled (k.Name (codes "export") false))) (g.part (g.atom (p 7 7 28 29) (g.spelled (k.Name (codes "f") false))) (g.part (g.atom (p 8 8 30 31) (g.spelled (k.Name (codes "g") false))) g.none)))) (g.part (g.list (p 10 16 33 55) (g.part (g.atom (p 11 11 34 40) (g.spelled (k.Name (codes "import") false))) (g.part (g.list (p 12 15 41 54) (g.part (g.atom (p 13 13 42 48) (g.spelled (k.Name (codes "scheme") false))) (g.part (g.atom (p 14 14 49 53) (g.spelled (k.Name (codes "base") false))) g.none))) g.none))) (g.part (g.list (p 17 40 56 122) (g.part (g.atom (p 18 18 57 62) (g.spelled (k.Name (codes "begin") false))) (g.part (g.list (p 19 23 63 75) (g.part (g.atom (p 20 20 64 70) (g.spelled (k.Name (codes "define") false))) (g.part (g.atom (p 21 21 71 72) (g.spelled (k.Name (codes "f") false))) (g.part (g.atom (p 22 22 73 74) (g.spelled (k.Numeral (codes "1")))) g.none)))) (g.part (g.list (p 24 39 76 121) (g.part (g.atom (p 25 25 77 90) (g.spelled (k.Name (codes "define-syntax") false))) (g.part (g.atom (p 26 26 91 92) (g.spelled (k.Name (codes "g") false))) (g.part (g.list (p 27 38 93 120) (g.part (g.atom (p 28 28 94 106) (g.spelled (k.Name (codes "syntax-rules") false))) (g.part (g.list (p 29 30 107 109) g.none) (g.part (g.list (p 31 37 110 119) (g.part (g.list (p 32 35 111 116) (g.part (g.atom (p 33 33 112 113) (g.spelled (k.Name (codes "_") false))) (g.part (g.atom (p 34 34 114 115) (g.spelled (k.Name (codes "a") false))) g.none))) (g.part (g.atom (p 36 36 117 118) (g.spelled (k.Name (codes "a") false))) g.none))) g.none)))) g.none)))) g.none)))) g.none))))))) ∷ [])) ∷ ((codes "file:///m.scm"), Some (((g.list (p 0 13 0 35) (g.part (g.atom (p 1 1 1 7) (g.spelled (k.Name (codes "import") false))) (g.part (g.list (p 2 5 8 21) (g.part (g.atom (p 3 3 9 15) (g.spelled (k.Name (codes "scheme") false))) (g.part (g.atom (p 4 4 16 20) (g.spelled (k.Name (codes "base") false))) g.none))) (g.part (g.list (p 6 12 22 34) (g.part (g.atom (p 7 7 23 27) (g.spelled (k.Name (codes "only") false))) (g.part (g.list (p 8 10 28 31) (g.part (g.atom (p 9 9 29 30) (g.spelled (k.Name (codes "l") false))) g.none)) (g.part (g.atom (p 11 11 32 33) (g.spelled (k.Name (codes "f") false))) g.none)))) g.none))))) ∷ ((g.list (p 14 29 36 81) (g.part (g.atom (p 15 15 37 50) (g.spelled (k.Name (codes "define-syntax") false))) (g.part (g.atom (p 16 16 51 52) (g.spelled (k.Name (codes "m") false))) (g.part (g.list (p 17 28 53 80) (g.part (g.atom (p 18 18 54 66) (g.spelled (k.Name (codes "syntax-rules") false))) (g.part (g.list (p 19 20 67 69) g.none) (g.part (g.list (p 21 27 70 79) (g.part (g.list (p 22 25 71 76) (g.part (g.atom (p 23 23 72 73) (g.spelled (k.Name (codes "_") false))) (g.part (g.atom (p 24 24 74 75) (g.spelled (k.Name (codes "a") false))) g.none))) (g.part (g.atom (p 26 26 77 78) (g.spelled (k.Name (codes "a") false))) g.none))) g.none)))) g.none))))) ∷ ((g.list (p 30 33 82 87) (g.part (g.atom (p 31 31 83 84) (g.spelled (k.Name (codes "m") false))) (g.part (g.atom (p 32 32 85 86) (g.spelled (k.Name (codes "f") false))) g.none)))) ∷ [])) ∷ []) (((codes "file:///l.sld"), Some (((g.list (p 0 41 0 123) (g.part (g.atom (p 1 1 1 15) (g.spelled (k.Name (codes "define-library") false))) (g.part (g.list (p 2 4 16 19) (g.part (g.atom (p 3 3 17 18) (g.spelled (k.Name (codes "l") false))) g.none)) (g.part (g.list (p 5 9 20 32) (g.part (g.atom (p 6 6 21 27) (g.spelled (k.Name (codes "export") false))) (g.part (g.atom (p 7 7 28 29) (g.spelled (k.Name (codes "f") false))) (g.part (g.atom (p 8 8 30 31) (g.spelled (k.Name (codes "g") false))) g.none)))) (g.part (g.list (p 10 16 33 55) (g.part (g.atom (p 11 11 34 40) (g.spelled (k.Name (codes "import") false))) (g.part (g.list (p 12 15 41 54) (g.part (g.atom (p 13 13 42 48) (g.spelled (k.Name (codes "scheme") false))) (g.part (g.atom (p 14 14 49 53) (g.spelled (k.Name (codes "base") false))) g.none))) g.none))) (g.part (g.list (p 17 40 56 122) (g.part (g.atom (p 18 18 57 62) (g.spelled (k.Name (codes "begin") false))) (g.part (g.list (p 19 23 63 75) (g.part (g.atom (p 20 20 64 70) (g.spelled (k.Name (codes "define") false))) (g.part (g.atom (p 21 21 71 72) (g.spelled (k.Name (codes "f") false))) (g.part (g.atom (p 22 22 73 74) (g.spelled (k.Numeral (codes "1")))) g.none)))) (g.part (g.list (p 24 39 76 121) (g.part (g.atom (p 25 25 77 90) (g.spelled (k.Name (codes "define-syntax") false))) (g.part (g.atom (p 26 26 91 92) (g.spelled (k.Name (codes "g") false))) (g.part (g.list (p 27 38 93 120) (g.part (g.atom (p 28 28 94 106) (g.spelled (k.Name (codes "syntax-rules") false))) (g.part (g.list (p 29 30 107 109) g.none) (g.part (g.list (p 31 37 110 119) (g.part (g.list (p 32 35 111 116) (g.part (g.atom (p 33 33 112 113) (g.spelled (k.Name (codes "_") false))) (g.part (g.atom (p 34 34 114 115) (g.spelled (k.Name (codes "a") false))) g.none))) (g.part (g.atom (p 36 36 117 118) (g.spelled (k.Name (codes "a") false))) g.none))) g.none)))) g.none)))) g.none)))) g.none))))))) ∷ [])) ∷ ((codes "file:///m.scm"), Some (((g.list (p 0 9 0 26) (g.part (g.atom (p 1 1 1 7) (g.spelled (k.Name (codes "import") false))) (g.part (g.list (p 2 5 8 21) (g.part (g.atom (p 3 3 9 15) (g.spelled (k.Name (codes "scheme") false))) (g.part (g.atom (p 4 4 16 20) (g.spelled (k.Name (codes "base") false))) g.none))) (g.part (g.list (p 6 8 22 25) (g.part (g.atom (p 7 7 23 24) (g.spelled (k.Name (codes "l") false))) g.none)) g.none))))) ∷ ((g.list (p 10 25 27 72) (g.part (g.atom (p 11 11 28 41) (g.spelled (k.Name (codes "define-syntax") false))) (g.part (g.atom (p 12 12 42 43) (g.spelled (k.Name (codes "m") false))) (g.part (g.list (p 13 24 44 71) (g.part (g.atom (p 14 14 45 57) (g.spelled (k.Name (codes "syntax-rules") false))) (g.part (g.list (p 15 16 58 60) g.none) (g.part (g.list (p 17 23 61 70) (g.part (g.list (p 18 21 62 67) (g.part (g.atom (p 19 19 63 64) (g.spelled (k.Name (codes "_") false))) (g.part (g.atom (p 20 20 65 66) (g.spelled (k.Name (codes "a") false))) g.none))) (g.part (g.atom (p 22 22 68 69) (g.spelled (k.Name (codes "a") false))) g.none))) g.none)))) g.none))))) ∷ ((g.list (p 26 29 73 78) (g.part (g.atom (p 27 27 74 75) (g.spelled (k.Name (codes "m") false))) (g.part (g.atom (p 28 28 76 77) (g.spelled (k.Name (codes "f") false))) g.none)))) ∷ [])) ∷ []) ≡ ((0, 2) ∷ (0, 3) ∷ (1, 1) ∷ (1, 2) ∷ [], 0)
unfolding base_names standard_libraries prelude encode_utf8
import_that_gives_a_name_that_nothing_asks = refl

pub library_renamed : carried_rows (((codes "file:///l.sld"), Some (((g.list (p 0 41 0 123) (g.part (g.atom (p 1 1 1 15) (g.spelled (k.Name (codes "define-library") false))) (g.part (g.list (p 2 4 16 19) (g.part (g.atom (p 3 3 17 18) (g.spelled (k.Name (codes "l") false))) g.none)) (g.part (g.list (p 5 9 20 32) (g.part (g.atom (p 6 6 21 27) (g.spelled (k.Name (codes "export") false))) (g.part (g.atom (p 7 7 28 29) (g.spelled (k.Name (codes "f") false))) (g.part (g.atom (p 8 8 30 31) (g.spelled (k.Name (codes "g") false))) g.none)))) (g.part (g.list (p 10 16 33 55) (g.part (g.atom (p 11 11 34 40) (g.spelled (k.Name (codes "import") false))) (g.part (g.list (p 12 15 41 54) (g.part (g.atom (p 13 13 42 48) (g.spelled (k.Name (codes "scheme") false))) (g.part (g.atom (p 14 14 49 53) (g.spelled (k.Name (codes "base") false))) g.none))) g.none))) (g.part (g.list (p 17 40 56 122) (g.part (g.atom (p 18 18 57 62) (g.spelled (k.Name (codes "begin") false))) (g.part (g.list (p 19 23 63 75) (g.part (g.atom (p 20 20 64 70) (g.spelled (k.Name (codes "define") false))) (g.part (g.atom (p 21 21 71 72) (g.spelled (k.Name (codes "f") false))) (g.part (g.atom (p 22 22 73 74) (g.spelled (k.Numeral (codes "1")))) g.none)))) (g.part (g.list (p 24 39 76 121) (g.part (g.atom (p 25 25 77 90) (g.spelled (k.Name (codes "define-syntax") false))) (g.part (g.atom (p 26 26 91 92) (g.spelled (k.Name (codes "g") false))) (g.part (g.list (p 27 38 93 120) (g.part (g.atom (p 28 28 94 106) (g.spelled (k.Name (codes "syntax-rules") false))) (g.part (g.list (p 29 30 107 109) g.none) (g.part (g.list (p 31 37 110 119) (g.part (g.list (p 32 35 111 116) (g.part (g.atom (p 33 33 112 113) (g.spelled (k.Name (codes "_") false))) (g.part (g.atom (p 34 34 114 115) (g.spelled (k.Name (codes "a") false))) g.none))) (g.part (g.atom (p 36 36 117 118) (g.spelled (k.Name (codes "a") false))) g.none))) g.none)))) g.none)))) g.none)))) g.none))))))) ∷ [])) ∷ ((codes "file:///m.scm"), Some (((g.list (p 0 9 0 26) (g.part (g.atom (p 1 1 1 7) (g.spelled (k.Name (codes "import") false))) (g.part (g.list (p 2 5 8 21) (g.part (g.atom (p 3 3 9 15) (g.spelled (k.Name (codes "scheme") false))) (g.part (g.atom (p 4 4 16 20) (g.spelled (k.Name (codes "base") false))) g.none))) (g.part (g.list (p 6 8 22 25) (g.part (g.atom (p 7 7 23 24) (g.spelled (k.Name (codes "l") false))) g.none)) g.none))))) ∷ ((g.list (p 10 25 27 72) (g.part (g.atom (p 11 11 28 41) (g.spelled (k.Name (codes "define-syntax") false))) (g.part (g.atom (p 12 12 42 43) (g.spelled (k.Name (codes "m") false))) (g.part (g.list (p 13 24 44 71) (g.part (g.atom (p 14 14 45 57) (g.spelled (k.Name (codes "syntax-rules") false))) (g.part (g.list (p 15 16 58 60) g.none) (g.part (g.list (p 17 23 61 70) (g.part (g.list (p 18 21 62 67) (g.part (g.atom (p 19 19 63 64) (g.spelled (k.Name (codes "_") false))) (g.part (g.atom (p 20 20 65 66) (g.spelled (k.Name (codes "a") false))) g.none))) (g.part (g.atom (p 22 22 68 69) (g.spelled (k.Name (codes "a") false))) g.none))) g.none)))) g.none))))) ∷ ((g.list (p 26 29 73 78) (g.part (g.atom (p 27 27 74 75) (g.spelled (k.Name (codes "m") false))) (g.part (g.atom (p 28 28 76 77) (g.spelled (k.Numeral (codes "1")))) g.none)))) ∷ ((g.list (p 30 33 79 84) (g.part (g.atom (p 31 31 80 81) (g.spelled (k.Name (codes "m") false))) (g.part (g.atom (p 32 32 82 83) (g.spelled (k.Name (codes "f") false))) g.none)))) ∷ ((g.list (p 34 37 85 90) (g.part (g.atom (p 35 35 86 87) (g.spelled (k.Name (codes "g") false))) (g.part (g.atom (p 36 36 88 89) (g.spelled (k.Numeral (codes "2")))) g.none)))) ∷ [])) ∷ []) (((codes "file:///l.sld"), Some (((g.list (p 0 41 0 123) (g.part (g.atom (p 1 1 1 15) (g.spelled (k.Name (codes "define-library") false))) (g.part (g.list (p 2 4 16 19) (g.part (g.atom (p 3 3 17 18) (g.spelled (k.Name (codes "k") false))) g.none)) (g.part (g.list (p 5 9 20 32) (g.part (g.atom (p 6 6 21 27) (g.spelled (k.Name (codes "export") false))) (g.part (g.atom (p 7 7 28 29) (g.spelled (k.Name (codes "f") false))) (g.part (g.atom (p 8 8 30 31) (g.spelled (k.Name (codes "g") false))) g.none)))) (g.part (g.list (p 10 16 33 55) (g.part (g.atom (p 11 11 34 40) (g.spelled (k.Name (codes "import") false))) (g.part (g.list (p 12 15 41 54) (g.part (g.atom (p 13 13 42 48) (g.spelled (k.Name (codes "scheme") false))) (g.part (g.atom (p 14 14 49 53) (g.spelled (k.Name (codes "base") false))) g.none))) g.none))) (g.part (g.list (p 17 40 56 122) (g.part (g.atom (p 18 18 57 62) (g.spelled (k.Name (codes "begin") false))) (g.part (g.list (p 19 23 63 75) (g.part (g.atom (p 20 20 64 70) (g.spelled (k.Name (codes "define") false))) (g.part (g.atom (p 21 21 71 72) (g.spelled (k.Name (codes "f") false))) (g.part (g.atom (p 22 22 73 74) (g.spelled (k.Numeral (codes "1")))) g.none)))) (g.part (g.list (p 24 39 76 121) (g.part (g.atom (p 25 25 77 90) (g.spelled (k.Name (codes "define-syntax") false))) (g.part (g.atom (p 26 26 91 92) (g.spelled (k.Name (codes "g") false))) (g.part (g.list (p 27 38 93 120) (g.part (g.atom (p 28 28 94 106) (g.spelled (k.Name (codes "syntax-rules") false))) (g.part (g.list (p 29 30 107 109) g.none) (g.part (g.list (p 31 37 110 119) (g.part (g.list (p 32 35 111 116) (g.part (g.atom (p 33 33 112 113) (g.spelled (k.Name (codes "_") false))) (g.part (g.atom (p 34 34 114 115) (g.spelled (k.Name (codes "a") false))) g.none))) (g.part (g.atom (p 36 36 117 118) (g.spelled (k.Name (codes "a") false))) g.none))) g.none)))) g.none)))) g.none)))) g.none))))))) ∷ [])) ∷ ((codes "file:///m.scm"), Some (((g.list (p 0 9 0 26) (g.part (g.atom (p 1 1 1 7) (g.spelled (k.Name (codes "import") false))) (g.part (g.list (p 2 5 8 21) (g.part (g.atom (p 3 3 9 15) (g.spelled (k.Name (codes "scheme") false))) (g.part (g.atom (p 4 4 16 20) (g.spelled (k.Name (codes "base") false))) g.none))) (g.part (g.list (p 6 8 22 25) (g.part (g.atom (p 7 7 23 24) (g.spelled (k.Name (codes "k") false))) g.none)) g.none))))) ∷ ((g.list (p 10 25 27 72) (g.part (g.atom (p 11 11 28 41) (g.spelled (k.Name (codes "define-syntax") false))) (g.part (g.atom (p 12 12 42 43) (g.spelled (k.Name (codes "m") false))) (g.part (g.list (p 13 24 44 71) (g.part (g.atom (p 14 14 45 57) (g.spelled (k.Name (codes "syntax-rules") false))) (g.part (g.list (p 15 16 58 60) g.none) (g.part (g.list (p 17 23 61 70) (g.part (g.list (p 18 21 62 67) (g.part (g.atom (p 19 19 63 64) (g.spelled (k.Name (codes "_") false))) (g.part (g.atom (p 20 20 65 66) (g.spelled (k.Name (codes "a") false))) g.none))) (g.part (g.atom (p 22 22 68 69) (g.spelled (k.Name (codes "a") false))) g.none))) g.none)))) g.none))))) ∷ ((g.list (p 26 29 73 78) (g.part (g.atom (p 27 27 74 75) (g.spelled (k.Name (codes "m") false))) (g.part (g.atom (p 28 28 76 77) (g.spelled (k.Numeral (codes "1")))) g.none)))) ∷ ((g.list (p 30 33 79 84) (g.part (g.atom (p 31 31 80 81) (g.spelled (k.Name (codes "m") false))) (g.part (g.atom (p 32 32 82 83) (g.spelled (k.Name (codes "f") false))) g.none)))) ∷ ((g.list (p 34 37 85 90) (g.part (g.atom (p 35 35 86 87) (g.spelled (k.Name (codes "g") false))) (g.part (g.atom (p 36 36 88 89) (g.spelled (k.Numeral (codes "2")))) g.none)))) ∷ [])) ∷ []) ≡ ((1, 1) ∷ (1, 2) ∷ [], 2)
unfolding base_names standard_libraries prelude encode_utf8
library_renamed = refl

pub library_renamed_its_importer_not : carried_rows (((codes "file:///l.sld"), Some (((g.list (p 0 41 0 123) (g.part (g.atom (p 1 1 1 15) (g.spelled (k.Name (codes "define-library") false))) (g.part (g.list (p 2 4 16 19) (g.part (g.atom (p 3 3 17 18) (g.spelled (k.Name (codes "l") false))) g.none)) (g.part (g.list (p 5 9 20 32) (g.part (g.atom (p 6 6 21 27) (g.spelled (k.Name (codes "export") false))) (g.part (g.atom (p 7 7 28 29) (g.spelled (k.Name (codes "f") false))) (g.part (g.atom (p 8 8 30 31) (g.spelled (k.Name (codes "g") false))) g.none)))) (g.part (g.list (p 10 16 33 55) (g.part (g.atom (p 11 11 34 40) (g.spelled (k.Name (codes "import") false))) (g.part (g.list (p 12 15 41 54) (g.part (g.atom (p 13 13 42 48) (g.spelled (k.Name (codes "scheme") false))) (g.part (g.atom (p 14 14 49 53) (g.spelled (k.Name (codes "base") false))) g.none))) g.none))) (g.part (g.list (p 17 40 56 122) (g.part (g.atom (p 18 18 57 62) (g.spelled (k.Name (codes "begin") false))) (g.part (g.list (p 19 23 63 75) (g.part (g.atom (p 20 20 64 70) (g.spelled (k.Name (codes "define") false))) (g.part (g.atom (p 21 21 71 72) (g.spelled (k.Name (codes "f") false))) (g.part (g.atom (p 22 22 73 74) (g.spelled (k.Numeral (codes "1")))) g.none)))) (g.part (g.list (p 24 39 76 121) (g.part (g.atom (p 25 25 77 90) (g.spelled (k.Name (codes "define-syntax") false))) (g.part (g.atom (p 26 26 91 92) (g.spelled (k.Name (codes "g") false))) (g.part (g.list (p 27 38 93 120) (g.part (g.atom (p 28 28 94 106) (g.spelled (k.Name (codes "syntax-rules") false))) (g.part (g.list (p 29 30 107 109) g.none) (g.part (g.list (p 31 37 110 119) (g.part (g.list (p 32 35 111 116) (g.part (g.atom (p 33 33 112 113) (g.spelled (k.Name (codes "_") false))) (g.part (g.atom (p 34 34 114 115) (g.spelled (k.Name (codes "a") false))) g.none))) (g.part (g.atom (p 36 36 117 118) (g.spelled (k.Name (codes "a") false))) g.none))) g.none)))) g.none)))) g.none)))) g.none))))))) ∷ [])) ∷ ((codes "file:///m.scm"), Some (((g.list (p 0 9 0 26) (g.part (g.atom (p 1 1 1 7) (g.spelled (k.Name (codes "import") false))) (g.part (g.list (p 2 5 8 21) (g.part (g.atom (p 3 3 9 15) (g.spelled (k.Name (codes "scheme") false))) (g.part (g.atom (p 4 4 16 20) (g.spelled (k.Name (codes "base") false))) g.none))) (g.part (g.list (p 6 8 22 25) (g.part (g.atom (p 7 7 23 24) (g.spelled (k.Name (codes "l") false))) g.none)) g.none))))) ∷ ((g.list (p 10 25 27 72) (g.part (g.atom (p 11 11 28 41) (g.spelled (k.Name (codes "define-syntax") false))) (g.part (g.atom (p 12 12 42 43) (g.spelled (k.Name (codes "m") false))) (g.part (g.list (p 13 24 44 71) (g.part (g.atom (p 14 14 45 57) (g.spelled (k.Name (codes "syntax-rules") false))) (g.part (g.list (p 15 16 58 60) g.none) (g.part (g.list (p 17 23 61 70) (g.part (g.list (p 18 21 62 67) (g.part (g.atom (p 19 19 63 64) (g.spelled (k.Name (codes "_") false))) (g.part (g.atom (p 20 20 65 66) (g.spelled (k.Name (codes "a") false))) g.none))) (g.part (g.atom (p 22 22 68 69) (g.spelled (k.Name (codes "a") false))) g.none))) g.none)))) g.none))))) ∷ ((g.list (p 26 29 73 78) (g.part (g.atom (p 27 27 74 75) (g.spelled (k.Name (codes "m") false))) (g.part (g.atom (p 28 28 76 77) (g.spelled (k.Numeral (codes "1")))) g.none)))) ∷ ((g.list (p 30 33 79 84) (g.part (g.atom (p 31 31 80 81) (g.spelled (k.Name (codes "m") false))) (g.part (g.atom (p 32 32 82 83) (g.spelled (k.Name (codes "f") false))) g.none)))) ∷ [])) ∷ []) (((codes "file:///l.sld"), Some (((g.list (p 0 41 0 123) (g.part (g.atom (p 1 1 1 15) (g.spelled (k.Name (codes "define-library") false))) (g.part (g.list (p 2 4 16 19) (g.part (g.atom (p 3 3 17 18) (g.spelled (k.Name (codes "k") false))) g.none)) (g.part (g.list (p 5 9 20 32) (g.part (g.atom (p 6 6 21 27) (g.spelled (k.Name (codes "export") false))) (g.part (g.atom (p 7 7 28 29) (g.spelled (k.Name (codes "f") false))) (g.part (g.atom (p 8 8 30 31) (g.spelled (k.Name (codes "g") false))) g.none)))) (g.part (g.list (p 10 16 33 55) (g.part (g.atom (p 11 11 34 40) (g.spelled (k.Name (codes "import") false))) (g.part (g.list (p 12 15 41 54) (g.part (g.atom (p 13 13 42 48) (g.spelled (k.Name (codes "scheme") false))) (g.part (g.atom (p 14 14 49 53) (g.spelled (k.Name (codes "base") false))) g.none))) g.none))) (g.part (g.list (p 17 40 56 122) (g.part (g.atom (p 18 18 57 62) (g.spelled (k.Name (codes "begin") false))) (g.part (g.list (p 19 23 63 75) (g.part (g.atom (p 20 20 64 70) (g.spelled (k.Name (codes "define") false))) (g.part (g.atom (p 21 21 71 72) (g.spelled (k.Name (codes "f") false))) (g.part (g.atom (p 22 22 73 74) (g.spelled (k.Numeral (codes "1")))) g.none)))) (g.part (g.list (p 24 39 76 121) (g.part (g.atom (p 25 25 77 90) (g.spelled (k.Name (codes "define-syntax") false))) (g.part (g.atom (p 26 26 91 92) (g.spelled (k.Name (codes "g") false))) (g.part (g.list (p 27 38 93 120) (g.part (g.atom (p 28 28 94 106) (g.spelled (k.Name (codes "syntax-rules") false))) (g.part (g.list (p 29 30 107 109) g.none) (g.part (g.list (p 31 37 110 119) (g.part (g.list (p 32 35 111 116) (g.part (g.atom (p 33 33 112 113) (g.spelled (k.Name (codes "_") false))) (g.part (g.atom (p 34 34 114 115) (g.spelled (k.Name (codes "a") false))) g.none))) (g.part (g.atom (p 36 36 117 118) (g.spelled (k.Name (codes "a") false))) g.none))) g.none)))) g.none)))) g.none)))) g.none))))))) ∷ [])) ∷ ((codes "file:///m.scm"), Some (((g.list (p 0 9 0 26) (g.part (g.atom (p 1 1 1 7) (g.spelled (k.Name (codes "import") false))) (g.part (g.list (p 2 5 8 21) (g.part (g.atom (p 3 3 9 15) (g.spelled (k.Name (codes "scheme") false))) (g.part (g.atom (p 4 4 16 20) (g.spelled (k.Name (codes "base") false))) g.none))) (g.part (g.list (p 6 8 22 25) (g.part (g.atom (p 7 7 23 24) (g.spelled (k.Name (codes "l") false))) g.none)) g.none))))) ∷ ((g.list (p 10 25 27 72) (g.part (g.atom (p 11 11 28 41) (g.spelled (k.Name (codes "define-syntax") false))) (g.part (g.atom (p 12 12 42 43) (g.spelled (k.Name (codes "m") false))) (g.part (g.list (p 13 24 44 71) (g.part (g.atom (p 14 14 45 57) (g.spelled (k.Name (codes "syntax-rules") false))) (g.part (g.list (p 15 16 58 60) g.none) (g.part (g.list (p 17 23 61 70) (g.part (g.list (p 18 21 62 67) (g.part (g.atom (p 19 19 63 64) (g.spelled (k.Name (codes "_") false))) (g.part (g.atom (p 20 20 65 66) (g.spelled (k.Name (codes "a") false))) g.none))) (g.part (g.atom (p 22 22 68 69) (g.spelled (k.Name (codes "a") false))) g.none))) g.none)))) g.none))))) ∷ ((g.list (p 26 29 73 78) (g.part (g.atom (p 27 27 74 75) (g.spelled (k.Name (codes "m") false))) (g.part (g.atom (p 28 28 76 77) (g.spelled (k.Numeral (codes "1")))) g.none)))) ∷ ((g.list (p 30 33 79 84) (g.part (g.atom (p 31 31 80 81) (g.spelled (k.Name (codes "m") false))) (g.part (g.atom (p 32 32 82 83) (g.spelled (k.Name (codes "f") false))) g.none)))) ∷ [])) ∷ []) ≡ ((1, 1) ∷ (1, 2) ∷ [], 1)
unfolding base_names standard_libraries prelude encode_utf8
library_renamed_its_importer_not = refl

pub two_units_exchanged : carried_rows (((codes "file:///a.scm"), Some (((g.list (p 0 43 0 125) (g.part (g.atom (p 1 1 1 15) (g.spelled (k.Name (codes "define-library") false))) (g.part (g.list (p 2 4 16 19) (g.part (g.atom (p 3 3 17 18) (g.spelled (k.Name (codes "x") false))) g.none)) (g.part (g.list (p 5 8 20 30) (g.part (g.atom (p 6 6 21 27) (g.spelled (k.Name (codes "export") false))) (g.part (g.atom (p 7 7 28 29) (g.spelled (k.Name (codes "f") false))) g.none))) (g.part (g.list (p 9 15 31 53) (g.part (g.atom (p 10 10 32 38) (g.spelled (k.Name (codes "import") false))) (g.part (g.list (p 11 14 39 52) (g.part (g.atom (p 12 12 40 46) (g.spelled (k.Name (codes "scheme") false))) (g.part (g.atom (p 13 13 47 51) (g.spelled (k.Name (codes "base") false))) g.none))) g.none))) (g.part (g.list (p 16 42 54 124) (g.part (g.atom (p 17 17 55 60) (g.spelled (k.Name (codes "begin") false))) (g.part (g.list (p 18 33 61 106) (g.part (g.atom (p 19 19 62 75) (g.spelled (k.Name (codes "define-syntax") false))) (g.part (g.atom (p 20 20 76 77) (g.spelled (k.Name (codes "f") false))) (g.part (g.list (p 21 32 78 105) (g.part (g.atom (p 22 22 79 91) (g.spelled (k.Name (codes "syntax-rules") false))) (g.part (g.list (p 23 24 92 94) g.none) (g.part (g.list (p 25 31 95 104) (g.part (g.list (p 26 29 96 101) (g.part (g.atom (p 27 27 97 98) (g.spelled (k.Name (codes "_") false))) (g.part (g.atom (p 28 28 99 100) (g.spelled (k.Name (codes "a") false))) g.none))) (g.part (g.atom (p 30 30 102 103) (g.spelled (k.Name (codes "a") false))) g.none))) g.none)))) g.none)))) (g.part (g.list (p 34 41 107 123) (g.part (g.atom (p 35 35 108 114) (g.spelled (k.Name (codes "define") false))) (g.part (g.atom (p 36 36 115 116) (g.spelled (k.Name (codes "v") false))) (g.part (g.list (p 37 40 117 122) (g.part (g.atom (p 38 38 118 119) (g.spelled (k.Name (codes "f") false))) (g.part (g.atom (p 39 39 120 121) (g.spelled (k.Numeral (codes "1")))) g.none))) g.none)))) g.none)))) g.none))))))) ∷ ((g.list (p 44 74 126 209) (g.part (g.atom (p 45 45 127 141) (g.spelled (k.Name (codes "define-library") false))) (g.part (g.list (p 46 48 142 145) (g.part (g.atom (p 47 47 143 144) (g.spelled (k.Name (codes "y") false))) g.none)) (g.part (g.list (p 49 52 146 156) (g.part (g.atom (p 50 50 147 153) (g.spelled (k.Name (codes "export") false))) (g.part (g.atom (p 51 51 154 155) (g.spelled (k.Name (codes "g") false))) g.none))) (g.part (g.list (p 53 62 157 183) (g.part (g.atom (p 54 54 158 164) (g.spelled (k.Name (codes "import") false))) (g.part (g.list (p 55 58 165 178) (g.part (g.atom (p 56 56 166 172) (g.spelled (k.Name (codes "scheme") false))) (g.part (g.atom (p 57 57 173 177) (g.spelled (k.Name (codes "base") false))) g.none))) (g.part (g.list (p 59 61 179 182) (g.part (g.atom (p 60 60 180 181) (g.spelled (k.Name (codes "x") false))) g.none)) g.none)))) (g.part (g.list (p 63 73 184 208) (g.part (g.atom (p 64 64 185 190) (g.spelled (k.Name (codes "begin") false))) (g.part (g.list (p 65 72 191 207) (g.part (g.atom (p 66 66 192 198) (g.spelled (k.Name (codes "define") false))) (g.part (g.atom (p 67 67 199 200) (g.spelled (k.Name (codes "g") false))) (g.part (g.list (p 68 71 201 206) (g.part (g.atom (p 69 69 202 203) (g.spelled (k.Name (codes "f") false))) (g.part (g.atom (p 70 70 204 205) (g.spelled (k.Numeral (codes "2")))) g.none))) g.none)))) g.none))) g.none))))))) ∷ [])) ∷ []) (((codes "file:///a.scm"), Some (((g.list (p 0 30 0 83) (g.part (g.atom (p 1 1 1 15) (g.spelled (k.Name (codes "define-library") false))) (g.part (g.list (p 2 4 16 19) (g.part (g.atom (p 3 3 17 18) (g.spelled (k.Name (codes "y") false))) g.none)) (g.part (g.list (p 5 8 20 30) (g.part (g.atom (p 6 6 21 27) (g.spelled (k.Name (codes "export") false))) (g.part (g.atom (p 7 7 28 29) (g.spelled (k.Name (codes "g") false))) g.none))) (g.part (g.list (p 9 18 31 57) (g.part (g.atom (p 10 10 32 38) (g.spelled (k.Name (codes "import") false))) (g.part (g.list (p 11 14 39 52) (g.part (g.atom (p 12 12 40 46) (g.spelled (k.Name (codes "scheme") false))) (g.part (g.atom (p 13 13 47 51) (g.spelled (k.Name (codes "base") false))) g.none))) (g.part (g.list (p 15 17 53 56) (g.part (g.atom (p 16 16 54 55) (g.spelled (k.Name (codes "x") false))) g.none)) g.none)))) (g.part (g.list (p 19 29 58 82) (g.part (g.atom (p 20 20 59 64) (g.spelled (k.Name (codes "begin") false))) (g.part (g.list (p 21 28 65 81) (g.part (g.atom (p 22 22 66 72) (g.spelled (k.Name (codes "define") false))) (g.part (g.atom (p 23 23 73 74) (g.spelled (k.Name (codes "g") false))) (g.part (g.list (p 24 27 75 80) (g.part (g.atom (p 25 25 76 77) (g.spelled (k.Name (codes "f") false))) (g.part (g.atom (p 26 26 78 79) (g.spelled (k.Numeral (codes "2")))) g.none))) g.none)))) g.none))) g.none))))))) ∷ ((g.list (p 31 74 84 209) (g.part (g.atom (p 32 32 85 99) (g.spelled (k.Name (codes "define-library") false))) (g.part (g.list (p 33 35 100 103) (g.part (g.atom (p 34 34 101 102) (g.spelled (k.Name (codes "x") false))) g.none)) (g.part (g.list (p 36 39 104 114) (g.part (g.atom (p 37 37 105 111) (g.spelled (k.Name (codes "export") false))) (g.part (g.atom (p 38 38 112 113) (g.spelled (k.Name (codes "f") false))) g.none))) (g.part (g.list (p 40 46 115 137) (g.part (g.atom (p 41 41 116 122) (g.spelled (k.Name (codes "import") false))) (g.part (g.list (p 42 45 123 136) (g.part (g.atom (p 43 43 124 130) (g.spelled (k.Name (codes "scheme") false))) (g.part (g.atom (p 44 44 131 135) (g.spelled (k.Name (codes "base") false))) g.none))) g.none))) (g.part (g.list (p 47 73 138 208) (g.part (g.atom (p 48 48 139 144) (g.spelled (k.Name (codes "begin") false))) (g.part (g.list (p 49 64 145 190) (g.part (g.atom (p 50 50 146 159) (g.spelled (k.Name (codes "define-syntax") false))) (g.part (g.atom (p 51 51 160 161) (g.spelled (k.Name (codes "f") false))) (g.part (g.list (p 52 63 162 189) (g.part (g.atom (p 53 53 163 175) (g.spelled (k.Name (codes "syntax-rules") false))) (g.part (g.list (p 54 55 176 178) g.none) (g.part (g.list (p 56 62 179 188) (g.part (g.list (p 57 60 180 185) (g.part (g.atom (p 58 58 181 182) (g.spelled (k.Name (codes "_") false))) (g.part (g.atom (p 59 59 183 184) (g.spelled (k.Name (codes "a") false))) g.none))) (g.part (g.atom (p 61 61 186 187) (g.spelled (k.Name (codes "a") false))) g.none))) g.none)))) g.none)))) (g.part (g.list (p 65 72 191 207) (g.part (g.atom (p 66 66 192 198) (g.spelled (k.Name (codes "define") false))) (g.part (g.atom (p 67 67 199 200) (g.spelled (k.Name (codes "v") false))) (g.part (g.list (p 68 71 201 206) (g.part (g.atom (p 69 69 202 203) (g.spelled (k.Name (codes "f") false))) (g.part (g.atom (p 70 70 204 205) (g.spelled (k.Numeral (codes "1")))) g.none))) g.none)))) g.none)))) g.none))))))) ∷ [])) ∷ []) ≡ ((1, 2) ∷ (1, 3) ∷ (0, 2) ∷ [], 0)
unfolding base_names standard_libraries prelude encode_utf8
two_units_exchanged = refl

pub unit_in_front : carried_rows (((codes "file:///m.sld"), Some (((g.list (p 0 43 0 125) (g.part (g.atom (p 1 1 1 15) (g.spelled (k.Name (codes "define-library") false))) (g.part (g.list (p 2 4 16 19) (g.part (g.atom (p 3 3 17 18) (g.spelled (k.Name (codes "x") false))) g.none)) (g.part (g.list (p 5 8 20 30) (g.part (g.atom (p 6 6 21 27) (g.spelled (k.Name (codes "export") false))) (g.part (g.atom (p 7 7 28 29) (g.spelled (k.Name (codes "f") false))) g.none))) (g.part (g.list (p 9 15 31 53) (g.part (g.atom (p 10 10 32 38) (g.spelled (k.Name (codes "import") false))) (g.part (g.list (p 11 14 39 52) (g.part (g.atom (p 12 12 40 46) (g.spelled (k.Name (codes "scheme") false))) (g.part (g.atom (p 13 13 47 51) (g.spelled (k.Name (codes "base") false))) g.none))) g.none))) (g.part (g.list (p 16 42 54 124) (g.part (g.atom (p 17 17 55 60) (g.spelled (k.Name (codes "begin") false))) (g.part (g.list (p 18 33 61 106) (g.part (g.atom (p 19 19 62 75) (g.spelled (k.Name (codes "define-syntax") false))) (g.part (g.atom (p 20 20 76 77) (g.spelled (k.Name (codes "f") false))) (g.part (g.list (p 21 32 78 105) (g.part (g.atom (p 22 22 79 91) (g.spelled (k.Name (codes "syntax-rules") false))) (g.part (g.list (p 23 24 92 94) g.none) (g.part (g.list (p 25 31 95 104) (g.part (g.list (p 26 29 96 101) (g.part (g.atom (p 27 27 97 98) (g.spelled (k.Name (codes "_") false))) (g.part (g.atom (p 28 28 99 100) (g.spelled (k.Name (codes "a") false))) g.none))) (g.part (g.atom (p 30 30 102 103) (g.spelled (k.Name (codes "a") false))) g.none))) g.none)))) g.none)))) (g.part (g.list (p 34 41 107 123) (g.part (g.atom (p 35 35 108 114) (g.spelled (k.Name (codes "define") false))) (g.part (g.atom (p 36 36 115 116) (g.spelled (k.Name (codes "v") false))) (g.part (g.list (p 37 40 117 122) (g.part (g.atom (p 38 38 118 119) (g.spelled (k.Name (codes "f") false))) (g.part (g.atom (p 39 39 120 121) (g.spelled (k.Numeral (codes "1")))) g.none))) g.none)))) g.none)))) g.none))))))) ∷ [])) ∷ []) (((codes "file:///a.scm"), Some (((g.list (p 0 5 0 10) (g.part (g.atom (p 1 1 1 3) (g.spelled (k.Name (codes "if") false))) (g.part (g.atom (p 2 2 4 5) (g.spelled (k.Numeral (codes "1")))) (g.part (g.atom (p 3 3 6 7) (g.spelled (k.Numeral (codes "2")))) (g.part (g.atom (p 4 4 8 9) (g.spelled (k.Numeral (codes "3")))) g.none)))))) ∷ [])) ∷ ((codes "file:///m.sld"), Some (((g.list (p 0 43 0 125) (g.part (g.atom (p 1 1 1 15) (g.spelled (k.Name (codes "define-library") false))) (g.part (g.list (p 2 4 16 19) (g.part (g.atom (p 3 3 17 18) (g.spelled (k.Name (codes "x") false))) g.none)) (g.part (g.list (p 5 8 20 30) (g.part (g.atom (p 6 6 21 27) (g.spelled (k.Name (codes "export") false))) (g.part (g.atom (p 7 7 28 29) (g.spelled (k.Name (codes "f") false))) g.none))) (g.part (g.list (p 9 15 31 53) (g.part (g.atom (p 10 10 32 38) (g.spelled (k.Name (codes "import") false))) (g.part (g.list (p 11 14 39 52) (g.part (g.atom (p 12 12 40 46) (g.spelled (k.Name (codes "scheme") false))) (g.part (g.atom (p 13 13 47 51) (g.spelled (k.Name (codes "base") false))) g.none))) g.none))) (g.part (g.list (p 16 42 54 124) (g.part (g.atom (p 17 17 55 60) (g.spelled (k.Name (codes "begin") false))) (g.part (g.list (p 18 33 61 106) (g.part (g.atom (p 19 19 62 75) (g.spelled (k.Name (codes "define-syntax") false))) (g.part (g.atom (p 20 20 76 77) (g.spelled (k.Name (codes "f") false))) (g.part (g.list (p 21 32 78 105) (g.part (g.atom (p 22 22 79 91) (g.spelled (k.Name (codes "syntax-rules") false))) (g.part (g.list (p 23 24 92 94) g.none) (g.part (g.list (p 25 31 95 104) (g.part (g.list (p 26 29 96 101) (g.part (g.atom (p 27 27 97 98) (g.spelled (k.Name (codes "_") false))) (g.part (g.atom (p 28 28 99 100) (g.spelled (k.Name (codes "a") false))) g.none))) (g.part (g.atom (p 30 30 102 103) (g.spelled (k.Name (codes "a") false))) g.none))) g.none)))) g.none)))) (g.part (g.list (p 34 41 107 123) (g.part (g.atom (p 35 35 108 114) (g.spelled (k.Name (codes "define") false))) (g.part (g.atom (p 36 36 115 116) (g.spelled (k.Name (codes "v") false))) (g.part (g.list (p 37 40 117 122) (g.part (g.atom (p 38 38 118 119) (g.spelled (k.Name (codes "f") false))) (g.part (g.atom (p 39 39 120 121) (g.spelled (k.Numeral (codes "1")))) g.none))) g.none)))) g.none)))) g.none))))))) ∷ [])) ∷ []) ≡ ((1, 2) ∷ (1, 3) ∷ [], 0)
unfolding base_names standard_libraries prelude encode_utf8
unit_in_front = refl

pub unit_in_front_with_the_prelude_s_macros : carried_rows (((codes "file:///m.scm"), Some (((g.list (p 0 4 0 12) (g.part (g.atom (p 1 1 1 7) (g.spelled (k.Name (codes "define") false))) (g.part (g.atom (p 2 2 8 9) (g.spelled (k.Name (codes "x") false))) (g.part (g.atom (p 3 3 10 11) (g.spelled (k.Numeral (codes "1")))) g.none))))) ∷ ((g.list (p 5 18 13 36) (g.part (g.atom (p 6 6 14 18) (g.spelled (k.Name (codes "case") false))) (g.part (g.atom (p 7 7 19 20) (g.spelled (k.Name (codes "x") false))) (g.part (g.list (p 8 17 21 35) (g.part (g.list (p 9 11 22 25) (g.part (g.atom (p 10 10 23 24) (g.spelled (k.Numeral (codes "1")))) g.none)) (g.part (g.list (p 12 16 26 34) (g.part (g.atom (p 13 13 27 29) (g.spelled (k.Name (codes "or") false))) (g.part (g.atom (p 14 14 30 31) (g.spelled (k.Numeral (codes "2")))) (g.part (g.atom (p 15 15 32 33) (g.spelled (k.Numeral (codes "3")))) g.none)))) g.none))) g.none))))) ∷ [])) ∷ []) (((codes "file:///a.scm"), Some (((g.list (p 0 5 0 10) (g.part (g.atom (p 1 1 1 3) (g.spelled (k.Name (codes "if") false))) (g.part (g.atom (p 2 2 4 5) (g.spelled (k.Numeral (codes "1")))) (g.part (g.atom (p 3 3 6 7) (g.spelled (k.Numeral (codes "2")))) (g.part (g.atom (p 4 4 8 9) (g.spelled (k.Numeral (codes "3")))) g.none)))))) ∷ [])) ∷ ((codes "file:///m.scm"), Some (((g.list (p 0 4 0 12) (g.part (g.atom (p 1 1 1 7) (g.spelled (k.Name (codes "define") false))) (g.part (g.atom (p 2 2 8 9) (g.spelled (k.Name (codes "x") false))) (g.part (g.atom (p 3 3 10 11) (g.spelled (k.Numeral (codes "1")))) g.none))))) ∷ ((g.list (p 5 18 13 36) (g.part (g.atom (p 6 6 14 18) (g.spelled (k.Name (codes "case") false))) (g.part (g.atom (p 7 7 19 20) (g.spelled (k.Name (codes "x") false))) (g.part (g.list (p 8 17 21 35) (g.part (g.list (p 9 11 22 25) (g.part (g.atom (p 10 10 23 24) (g.spelled (k.Numeral (codes "1")))) g.none)) (g.part (g.list (p 12 16 26 34) (g.part (g.atom (p 13 13 27 29) (g.spelled (k.Name (codes "or") false))) (g.part (g.atom (p 14 14 30 31) (g.spelled (k.Numeral (codes "2")))) (g.part (g.atom (p 15 15 32 33) (g.spelled (k.Numeral (codes "3")))) g.none)))) g.none))) g.none))))) ∷ [])) ∷ []) ≡ ((1, 0) ∷ (1, 1) ∷ [], 0)
unfolding base_names standard_libraries prelude encode_utf8
unit_in_front_with_the_prelude_s_macros = refl

pub library_defined_twice : carried_rows (((codes "file:///b.sld"), Some (((g.list (p 0 43 0 125) (g.part (g.atom (p 1 1 1 15) (g.spelled (k.Name (codes "define-library") false))) (g.part (g.list (p 2 4 16 19) (g.part (g.atom (p 3 3 17 18) (g.spelled (k.Name (codes "x") false))) g.none)) (g.part (g.list (p 5 8 20 30) (g.part (g.atom (p 6 6 21 27) (g.spelled (k.Name (codes "export") false))) (g.part (g.atom (p 7 7 28 29) (g.spelled (k.Name (codes "f") false))) g.none))) (g.part (g.list (p 9 15 31 53) (g.part (g.atom (p 10 10 32 38) (g.spelled (k.Name (codes "import") false))) (g.part (g.list (p 11 14 39 52) (g.part (g.atom (p 12 12 40 46) (g.spelled (k.Name (codes "scheme") false))) (g.part (g.atom (p 13 13 47 51) (g.spelled (k.Name (codes "base") false))) g.none))) g.none))) (g.part (g.list (p 16 42 54 124) (g.part (g.atom (p 17 17 55 60) (g.spelled (k.Name (codes "begin") false))) (g.part (g.list (p 18 33 61 106) (g.part (g.atom (p 19 19 62 75) (g.spelled (k.Name (codes "define-syntax") false))) (g.part (g.atom (p 20 20 76 77) (g.spelled (k.Name (codes "f") false))) (g.part (g.list (p 21 32 78 105) (g.part (g.atom (p 22 22 79 91) (g.spelled (k.Name (codes "syntax-rules") false))) (g.part (g.list (p 23 24 92 94) g.none) (g.part (g.list (p 25 31 95 104) (g.part (g.list (p 26 29 96 101) (g.part (g.atom (p 27 27 97 98) (g.spelled (k.Name (codes "_") false))) (g.part (g.atom (p 28 28 99 100) (g.spelled (k.Name (codes "a") false))) g.none))) (g.part (g.atom (p 30 30 102 103) (g.spelled (k.Name (codes "a") false))) g.none))) g.none)))) g.none)))) (g.part (g.list (p 34 41 107 123) (g.part (g.atom (p 35 35 108 114) (g.spelled (k.Name (codes "define") false))) (g.part (g.atom (p 36 36 115 116) (g.spelled (k.Name (codes "v") false))) (g.part (g.list (p 37 40 117 122) (g.part (g.atom (p 38 38 118 119) (g.spelled (k.Name (codes "f") false))) (g.part (g.atom (p 39 39 120 121) (g.spelled (k.Numeral (codes "1")))) g.none))) g.none)))) g.none)))) g.none))))))) ∷ [])) ∷ []) (((codes "file:///a.sld"), Some (((g.list (p 0 43 0 125) (g.part (g.atom (p 1 1 1 15) (g.spelled (k.Name (codes "define-library") false))) (g.part (g.list (p 2 4 16 19) (g.part (g.atom (p 3 3 17 18) (g.spelled (k.Name (codes "x") false))) g.none)) (g.part (g.list (p 5 8 20 30) (g.part (g.atom (p 6 6 21 27) (g.spelled (k.Name (codes "export") false))) (g.part (g.atom (p 7 7 28 29) (g.spelled (k.Name (codes "f") false))) g.none))) (g.part (g.list (p 9 15 31 53) (g.part (g.atom (p 10 10 32 38) (g.spelled (k.Name (codes "import") false))) (g.part (g.list (p 11 14 39 52) (g.part (g.atom (p 12 12 40 46) (g.spelled (k.Name (codes "scheme") false))) (g.part (g.atom (p 13 13 47 51) (g.spelled (k.Name (codes "base") false))) g.none))) g.none))) (g.part (g.list (p 16 42 54 124) (g.part (g.atom (p 17 17 55 60) (g.spelled (k.Name (codes "begin") false))) (g.part (g.list (p 18 33 61 106) (g.part (g.atom (p 19 19 62 75) (g.spelled (k.Name (codes "define-syntax") false))) (g.part (g.atom (p 20 20 76 77) (g.spelled (k.Name (codes "f") false))) (g.part (g.list (p 21 32 78 105) (g.part (g.atom (p 22 22 79 91) (g.spelled (k.Name (codes "syntax-rules") false))) (g.part (g.list (p 23 24 92 94) g.none) (g.part (g.list (p 25 31 95 104) (g.part (g.list (p 26 29 96 101) (g.part (g.atom (p 27 27 97 98) (g.spelled (k.Name (codes "_") false))) (g.part (g.atom (p 28 28 99 100) (g.spelled (k.Name (codes "a") false))) g.none))) (g.part (g.atom (p 30 30 102 103) (g.spelled (k.Name (codes "a") false))) g.none))) g.none)))) g.none)))) (g.part (g.list (p 34 41 107 123) (g.part (g.atom (p 35 35 108 114) (g.spelled (k.Name (codes "define") false))) (g.part (g.atom (p 36 36 115 116) (g.spelled (k.Name (codes "v") false))) (g.part (g.list (p 37 40 117 122) (g.part (g.atom (p 38 38 118 119) (g.spelled (k.Name (codes "f") false))) (g.part (g.atom (p 39 39 120 121) (g.spelled (k.Numeral (codes "1")))) g.none))) g.none)))) g.none)))) g.none))))))) ∷ [])) ∷ ((codes "file:///b.sld"), Some (((g.list (p 0 43 0 125) (g.part (g.atom (p 1 1 1 15) (g.spelled (k.Name (codes "define-library") false))) (g.part (g.list (p 2 4 16 19) (g.part (g.atom (p 3 3 17 18) (g.spelled (k.Name (codes "x") false))) g.none)) (g.part (g.list (p 5 8 20 30) (g.part (g.atom (p 6 6 21 27) (g.spelled (k.Name (codes "export") false))) (g.part (g.atom (p 7 7 28 29) (g.spelled (k.Name (codes "f") false))) g.none))) (g.part (g.list (p 9 15 31 53) (g.part (g.atom (p 10 10 32 38) (g.spelled (k.Name (codes "import") false))) (g.part (g.list (p 11 14 39 52) (g.part (g.atom (p 12 12 40 46) (g.spelled (k.Name (codes "scheme") false))) (g.part (g.atom (p 13 13 47 51) (g.spelled (k.Name (codes "base") false))) g.none))) g.none))) (g.part (g.list (p 16 42 54 124) (g.part (g.atom (p 17 17 55 60) (g.spelled (k.Name (codes "begin") false))) (g.part (g.list (p 18 33 61 106) (g.part (g.atom (p 19 19 62 75) (g.spelled (k.Name (codes "define-syntax") false))) (g.part (g.atom (p 20 20 76 77) (g.spelled (k.Name (codes "f") false))) (g.part (g.list (p 21 32 78 105) (g.part (g.atom (p 22 22 79 91) (g.spelled (k.Name (codes "syntax-rules") false))) (g.part (g.list (p 23 24 92 94) g.none) (g.part (g.list (p 25 31 95 104) (g.part (g.list (p 26 29 96 101) (g.part (g.atom (p 27 27 97 98) (g.spelled (k.Name (codes "_") false))) (g.part (g.atom (p 28 28 99 100) (g.spelled (k.Name (codes "a") false))) g.none))) (g.part (g.atom (p 30 30 102 103) (g.spelled (k.Name (codes "a") false))) g.none))) g.none)))) g.none)))) (g.part (g.list (p 34 41 107 123) (g.part (g.atom (p 35 35 108 114) (g.spelled (k.Name (codes "define") false))) (g.part (g.atom (p 36 36 115 116) (g.spelled (k.Name (codes "v") false))) (g.part (g.list (p 37 40 117 122) (g.part (g.atom (p 38 38 118 119) (g.spelled (k.Name (codes "f") false))) (g.part (g.atom (p 39 39 120 121) (g.spelled (k.Numeral (codes "1")))) g.none))) g.none)))) g.none)))) g.none))))))) ∷ [])) ∷ []) ≡ ([], 1)
unfolding base_names standard_libraries prelude encode_utf8
library_defined_twice = refl

pub library_defined_once_again : carried_rows (((codes "file:///a.sld"), Some (((g.list (p 0 43 0 125) (g.part (g.atom (p 1 1 1 15) (g.spelled (k.Name (codes "define-library") false))) (g.part (g.list (p 2 4 16 19) (g.part (g.atom (p 3 3 17 18) (g.spelled (k.Name (codes "x") false))) g.none)) (g.part (g.list (p 5 8 20 30) (g.part (g.atom (p 6 6 21 27) (g.spelled (k.Name (codes "export") false))) (g.part (g.atom (p 7 7 28 29) (g.spelled (k.Name (codes "f") false))) g.none))) (g.part (g.list (p 9 15 31 53) (g.part (g.atom (p 10 10 32 38) (g.spelled (k.Name (codes "import") false))) (g.part (g.list (p 11 14 39 52) (g.part (g.atom (p 12 12 40 46) (g.spelled (k.Name (codes "scheme") false))) (g.part (g.atom (p 13 13 47 51) (g.spelled (k.Name (codes "base") false))) g.none))) g.none))) (g.part (g.list (p 16 42 54 124) (g.part (g.atom (p 17 17 55 60) (g.spelled (k.Name (codes "begin") false))) (g.part (g.list (p 18 33 61 106) (g.part (g.atom (p 19 19 62 75) (g.spelled (k.Name (codes "define-syntax") false))) (g.part (g.atom (p 20 20 76 77) (g.spelled (k.Name (codes "f") false))) (g.part (g.list (p 21 32 78 105) (g.part (g.atom (p 22 22 79 91) (g.spelled (k.Name (codes "syntax-rules") false))) (g.part (g.list (p 23 24 92 94) g.none) (g.part (g.list (p 25 31 95 104) (g.part (g.list (p 26 29 96 101) (g.part (g.atom (p 27 27 97 98) (g.spelled (k.Name (codes "_") false))) (g.part (g.atom (p 28 28 99 100) (g.spelled (k.Name (codes "a") false))) g.none))) (g.part (g.atom (p 30 30 102 103) (g.spelled (k.Name (codes "a") false))) g.none))) g.none)))) g.none)))) (g.part (g.list (p 34 41 107 123) (g.part (g.atom (p 35 35 108 114) (g.spelled (k.Name (codes "define") false))) (g.part (g.atom (p 36 36 115 116) (g.spelled (k.Name (codes "v") false))) (g.part (g.list (p 37 40 117 122) (g.part (g.atom (p 38 38 118 119) (g.spelled (k.Name (codes "f") false))) (g.part (g.atom (p 39 39 120 121) (g.spelled (k.Numeral (codes "1")))) g.none))) g.none)))) g.none)))) g.none))))))) ∷ [])) ∷ ((codes "file:///b.sld"), Some (((g.list (p 0 43 0 125) (g.part (g.atom (p 1 1 1 15) (g.spelled (k.Name (codes "define-library") false))) (g.part (g.list (p 2 4 16 19) (g.part (g.atom (p 3 3 17 18) (g.spelled (k.Name (codes "x") false))) g.none)) (g.part (g.list (p 5 8 20 30) (g.part (g.atom (p 6 6 21 27) (g.spelled (k.Name (codes "export") false))) (g.part (g.atom (p 7 7 28 29) (g.spelled (k.Name (codes "f") false))) g.none))) (g.part (g.list (p 9 15 31 53) (g.part (g.atom (p 10 10 32 38) (g.spelled (k.Name (codes "import") false))) (g.part (g.list (p 11 14 39 52) (g.part (g.atom (p 12 12 40 46) (g.spelled (k.Name (codes "scheme") false))) (g.part (g.atom (p 13 13 47 51) (g.spelled (k.Name (codes "base") false))) g.none))) g.none))) (g.part (g.list (p 16 42 54 124) (g.part (g.atom (p 17 17 55 60) (g.spelled (k.Name (codes "begin") false))) (g.part (g.list (p 18 33 61 106) (g.part (g.atom (p 19 19 62 75) (g.spelled (k.Name (codes "define-syntax") false))) (g.part (g.atom (p 20 20 76 77) (g.spelled (k.Name (codes "f") false))) (g.part (g.list (p 21 32 78 105) (g.part (g.atom (p 22 22 79 91) (g.spelled (k.Name (codes "syntax-rules") false))) (g.part (g.list (p 23 24 92 94) g.none) (g.part (g.list (p 25 31 95 104) (g.part (g.list (p 26 29 96 101) (g.part (g.atom (p 27 27 97 98) (g.spelled (k.Name (codes "_") false))) (g.part (g.atom (p 28 28 99 100) (g.spelled (k.Name (codes "a") false))) g.none))) (g.part (g.atom (p 30 30 102 103) (g.spelled (k.Name (codes "a") false))) g.none))) g.none)))) g.none)))) (g.part (g.list (p 34 41 107 123) (g.part (g.atom (p 35 35 108 114) (g.spelled (k.Name (codes "define") false))) (g.part (g.atom (p 36 36 115 116) (g.spelled (k.Name (codes "v") false))) (g.part (g.list (p 37 40 117 122) (g.part (g.atom (p 38 38 118 119) (g.spelled (k.Name (codes "f") false))) (g.part (g.atom (p 39 39 120 121) (g.spelled (k.Numeral (codes "1")))) g.none))) g.none)))) g.none)))) g.none))))))) ∷ [])) ∷ []) (((codes "file:///b.sld"), Some (((g.list (p 0 43 0 125) (g.part (g.atom (p 1 1 1 15) (g.spelled (k.Name (codes "define-library") false))) (g.part (g.list (p 2 4 16 19) (g.part (g.atom (p 3 3 17 18) (g.spelled (k.Name (codes "x") false))) g.none)) (g.part (g.list (p 5 8 20 30) (g.part (g.atom (p 6 6 21 27) (g.spelled (k.Name (codes "export") false))) (g.part (g.atom (p 7 7 28 29) (g.spelled (k.Name (codes "f") false))) g.none))) (g.part (g.list (p 9 15 31 53) (g.part (g.atom (p 10 10 32 38) (g.spelled (k.Name (codes "import") false))) (g.part (g.list (p 11 14 39 52) (g.part (g.atom (p 12 12 40 46) (g.spelled (k.Name (codes "scheme") false))) (g.part (g.atom (p 13 13 47 51) (g.spelled (k.Name (codes "base") false))) g.none))) g.none))) (g.part (g.list (p 16 42 54 124) (g.part (g.atom (p 17 17 55 60) (g.spelled (k.Name (codes "begin") false))) (g.part (g.list (p 18 33 61 106) (g.part (g.atom (p 19 19 62 75) (g.spelled (k.Name (codes "define-syntax") false))) (g.part (g.atom (p 20 20 76 77) (g.spelled (k.Name (codes "f") false))) (g.part (g.list (p 21 32 78 105) (g.part (g.atom (p 22 22 79 91) (g.spelled (k.Name (codes "syntax-rules") false))) (g.part (g.list (p 23 24 92 94) g.none) (g.part (g.list (p 25 31 95 104) (g.part (g.list (p 26 29 96 101) (g.part (g.atom (p 27 27 97 98) (g.spelled (k.Name (codes "_") false))) (g.part (g.atom (p 28 28 99 100) (g.spelled (k.Name (codes "a") false))) g.none))) (g.part (g.atom (p 30 30 102 103) (g.spelled (k.Name (codes "a") false))) g.none))) g.none)))) g.none)))) (g.part (g.list (p 34 41 107 123) (g.part (g.atom (p 35 35 108 114) (g.spelled (k.Name (codes "define") false))) (g.part (g.atom (p 36 36 115 116) (g.spelled (k.Name (codes "v") false))) (g.part (g.list (p 37 40 117 122) (g.part (g.atom (p 38 38 118 119) (g.spelled (k.Name (codes "f") false))) (g.part (g.atom (p 39 39 120 121) (g.spelled (k.Numeral (codes "1")))) g.none))) g.none)))) g.none)))) g.none))))))) ∷ [])) ∷ []) ≡ ([], 1)
unfolding base_names standard_libraries prelude encode_utf8
library_defined_once_again = refl

pub library_of_another_document : carried_rows (((codes "file:///b.sld"), Some (((g.list (p 0 43 0 125) (g.part (g.atom (p 1 1 1 15) (g.spelled (k.Name (codes "define-library") false))) (g.part (g.list (p 2 4 16 19) (g.part (g.atom (p 3 3 17 18) (g.spelled (k.Name (codes "x") false))) g.none)) (g.part (g.list (p 5 8 20 30) (g.part (g.atom (p 6 6 21 27) (g.spelled (k.Name (codes "export") false))) (g.part (g.atom (p 7 7 28 29) (g.spelled (k.Name (codes "f") false))) g.none))) (g.part (g.list (p 9 15 31 53) (g.part (g.atom (p 10 10 32 38) (g.spelled (k.Name (codes "import") false))) (g.part (g.list (p 11 14 39 52) (g.part (g.atom (p 12 12 40 46) (g.spelled (k.Name (codes "scheme") false))) (g.part (g.atom (p 13 13 47 51) (g.spelled (k.Name (codes "base") false))) g.none))) g.none))) (g.part (g.list (p 16 42 54 124) (g.part (g.atom (p 17 17 55 60) (g.spelled (k.Name (codes "begin") false))) (g.part (g.list (p 18 33 61 106) (g.part (g.atom (p 19 19 62 75) (g.spelled (k.Name (codes "define-syntax") false))) (g.part (g.atom (p 20 20 76 77) (g.spelled (k.Name (codes "f") false))) (g.part (g.list (p 21 32 78 105) (g.part (g.atom (p 22 22 79 91) (g.spelled (k.Name (codes "syntax-rules") false))) (g.part (g.list (p 23 24 92 94) g.none) (g.part (g.list (p 25 31 95 104) (g.part (g.list (p 26 29 96 101) (g.part (g.atom (p 27 27 97 98) (g.spelled (k.Name (codes "_") false))) (g.part (g.atom (p 28 28 99 100) (g.spelled (k.Name (codes "a") false))) g.none))) (g.part (g.atom (p 30 30 102 103) (g.spelled (k.Name (codes "a") false))) g.none))) g.none)))) g.none)))) (g.part (g.list (p 34 41 107 123) (g.part (g.atom (p 35 35 108 114) (g.spelled (k.Name (codes "define") false))) (g.part (g.atom (p 36 36 115 116) (g.spelled (k.Name (codes "v") false))) (g.part (g.list (p 37 40 117 122) (g.part (g.atom (p 38 38 118 119) (g.spelled (k.Name (codes "f") false))) (g.part (g.atom (p 39 39 120 121) (g.spelled (k.Numeral (codes "1")))) g.none))) g.none)))) g.none)))) g.none))))))) ∷ [])) ∷ ((codes "file:///m.scm"), Some (((g.list (p 0 9 0 26) (g.part (g.atom (p 1 1 1 7) (g.spelled (k.Name (codes "import") false))) (g.part (g.list (p 2 5 8 21) (g.part (g.atom (p 3 3 9 15) (g.spelled (k.Name (codes "scheme") false))) (g.part (g.atom (p 4 4 16 20) (g.spelled (k.Name (codes "base") false))) g.none))) (g.part (g.list (p 6 8 22 25) (g.part (g.atom (p 7 7 23 24) (g.spelled (k.Name (codes "x") false))) g.none)) g.none))))) ∷ ((g.list (p 10 25 27 72) (g.part (g.atom (p 11 11 28 41) (g.spelled (k.Name (codes "define-syntax") false))) (g.part (g.atom (p 12 12 42 43) (g.spelled (k.Name (codes "m") false))) (g.part (g.list (p 13 24 44 71) (g.part (g.atom (p 14 14 45 57) (g.spelled (k.Name (codes "syntax-rules") false))) (g.part (g.list (p 15 16 58 60) g.none) (g.part (g.list (p 17 23 61 70) (g.part (g.list (p 18 21 62 67) (g.part (g.atom (p 19 19 63 64) (g.spelled (k.Name (codes "_") false))) (g.part (g.atom (p 20 20 65 66) (g.spelled (k.Name (codes "a") false))) g.none))) (g.part (g.atom (p 22 22 68 69) (g.spelled (k.Name (codes "a") false))) g.none))) g.none)))) g.none))))) ∷ ((g.list (p 26 29 73 78) (g.part (g.atom (p 27 27 74 75) (g.spelled (k.Name (codes "m") false))) (g.part (g.atom (p 28 28 76 77) (g.spelled (k.Numeral (codes "1")))) g.none)))) ∷ ((g.list (p 30 33 79 84) (g.part (g.atom (p 31 31 80 81) (g.spelled (k.Name (codes "f") false))) (g.part (g.atom (p 32 32 82 83) (g.spelled (k.Numeral (codes "2")))) g.none)))) ∷ [])) ∷ []) (((codes "file:///a.sld"), Some (((g.list (p 0 43 0 125) (g.part (g.atom (p 1 1 1 15) (g.spelled (k.Name (codes "define-library") false))) (g.part (g.list (p 2 4 16 19) (g.part (g.atom (p 3 3 17 18) (g.spelled (k.Name (codes "x") false))) g.none)) (g.part (g.list (p 5 8 20 30) (g.part (g.atom (p 6 6 21 27) (g.spelled (k.Name (codes "export") false))) (g.part (g.atom (p 7 7 28 29) (g.spelled (k.Name (codes "f") false))) g.none))) (g.part (g.list (p 9 15 31 53) (g.part (g.atom (p 10 10 32 38) (g.spelled (k.Name (codes "import") false))) (g.part (g.list (p 11 14 39 52) (g.part (g.atom (p 12 12 40 46) (g.spelled (k.Name (codes "scheme") false))) (g.part (g.atom (p 13 13 47 51) (g.spelled (k.Name (codes "base") false))) g.none))) g.none))) (g.part (g.list (p 16 42 54 124) (g.part (g.atom (p 17 17 55 60) (g.spelled (k.Name (codes "begin") false))) (g.part (g.list (p 18 33 61 106) (g.part (g.atom (p 19 19 62 75) (g.spelled (k.Name (codes "define-syntax") false))) (g.part (g.atom (p 20 20 76 77) (g.spelled (k.Name (codes "f") false))) (g.part (g.list (p 21 32 78 105) (g.part (g.atom (p 22 22 79 91) (g.spelled (k.Name (codes "syntax-rules") false))) (g.part (g.list (p 23 24 92 94) g.none) (g.part (g.list (p 25 31 95 104) (g.part (g.list (p 26 29 96 101) (g.part (g.atom (p 27 27 97 98) (g.spelled (k.Name (codes "_") false))) (g.part (g.atom (p 28 28 99 100) (g.spelled (k.Name (codes "a") false))) g.none))) (g.part (g.atom (p 30 30 102 103) (g.spelled (k.Name (codes "a") false))) g.none))) g.none)))) g.none)))) (g.part (g.list (p 34 41 107 123) (g.part (g.atom (p 35 35 108 114) (g.spelled (k.Name (codes "define") false))) (g.part (g.atom (p 36 36 115 116) (g.spelled (k.Name (codes "v") false))) (g.part (g.list (p 37 40 117 122) (g.part (g.atom (p 38 38 118 119) (g.spelled (k.Name (codes "f") false))) (g.part (g.atom (p 39 39 120 121) (g.spelled (k.Numeral (codes "1")))) g.none))) g.none)))) g.none)))) g.none))))))) ∷ [])) ∷ ((codes "file:///b.sld"), Some (((g.list (p 0 43 0 125) (g.part (g.atom (p 1 1 1 15) (g.spelled (k.Name (codes "define-library") false))) (g.part (g.list (p 2 4 16 19) (g.part (g.atom (p 3 3 17 18) (g.spelled (k.Name (codes "x") false))) g.none)) (g.part (g.list (p 5 8 20 30) (g.part (g.atom (p 6 6 21 27) (g.spelled (k.Name (codes "export") false))) (g.part (g.atom (p 7 7 28 29) (g.spelled (k.Name (codes "f") false))) g.none))) (g.part (g.list (p 9 15 31 53) (g.part (g.atom (p 10 10 32 38) (g.spelled (k.Name (codes "import") false))) (g.part (g.list (p 11 14 39 52) (g.part (g.atom (p 12 12 40 46) (g.spelled (k.Name (codes "scheme") false))) (g.part (g.atom (p 13 13 47 51) (g.spelled (k.Name (codes "base") false))) g.none))) g.none))) (g.part (g.list (p 16 42 54 124) (g.part (g.atom (p 17 17 55 60) (g.spelled (k.Name (codes "begin") false))) (g.part (g.list (p 18 33 61 106) (g.part (g.atom (p 19 19 62 75) (g.spelled (k.Name (codes "define-syntax") false))) (g.part (g.atom (p 20 20 76 77) (g.spelled (k.Name (codes "f") false))) (g.part (g.list (p 21 32 78 105) (g.part (g.atom (p 22 22 79 91) (g.spelled (k.Name (codes "syntax-rules") false))) (g.part (g.list (p 23 24 92 94) g.none) (g.part (g.list (p 25 31 95 104) (g.part (g.list (p 26 29 96 101) (g.part (g.atom (p 27 27 97 98) (g.spelled (k.Name (codes "_") false))) (g.part (g.atom (p 28 28 99 100) (g.spelled (k.Name (codes "a") false))) g.none))) (g.part (g.atom (p 30 30 102 103) (g.spelled (k.Name (codes "a") false))) g.none))) g.none)))) g.none)))) (g.part (g.list (p 34 41 107 123) (g.part (g.atom (p 35 35 108 114) (g.spelled (k.Name (codes "define") false))) (g.part (g.atom (p 36 36 115 116) (g.spelled (k.Name (codes "v") false))) (g.part (g.list (p 37 40 117 122) (g.part (g.atom (p 38 38 118 119) (g.spelled (k.Name (codes "f") false))) (g.part (g.atom (p 39 39 120 121) (g.spelled (k.Numeral (codes "1")))) g.none))) g.none)))) g.none)))) g.none))))))) ∷ [])) ∷ ((codes "file:///m.scm"), Some (((g.list (p 0 9 0 26) (g.part (g.atom (p 1 1 1 7) (g.spelled (k.Name (codes "import") false))) (g.part (g.list (p 2 5 8 21) (g.part (g.atom (p 3 3 9 15) (g.spelled (k.Name (codes "scheme") false))) (g.part (g.atom (p 4 4 16 20) (g.spelled (k.Name (codes "base") false))) g.none))) (g.part (g.list (p 6 8 22 25) (g.part (g.atom (p 7 7 23 24) (g.spelled (k.Name (codes "x") false))) g.none)) g.none))))) ∷ ((g.list (p 10 25 27 72) (g.part (g.atom (p 11 11 28 41) (g.spelled (k.Name (codes "define-syntax") false))) (g.part (g.atom (p 12 12 42 43) (g.spelled (k.Name (codes "m") false))) (g.part (g.list (p 13 24 44 71) (g.part (g.atom (p 14 14 45 57) (g.spelled (k.Name (codes "syntax-rules") false))) (g.part (g.list (p 15 16 58 60) g.none) (g.part (g.list (p 17 23 61 70) (g.part (g.list (p 18 21 62 67) (g.part (g.atom (p 19 19 63 64) (g.spelled (k.Name (codes "_") false))) (g.part (g.atom (p 20 20 65 66) (g.spelled (k.Name (codes "a") false))) g.none))) (g.part (g.atom (p 22 22 68 69) (g.spelled (k.Name (codes "a") false))) g.none))) g.none)))) g.none))))) ∷ ((g.list (p 26 29 73 78) (g.part (g.atom (p 27 27 74 75) (g.spelled (k.Name (codes "m") false))) (g.part (g.atom (p 28 28 76 77) (g.spelled (k.Numeral (codes "1")))) g.none)))) ∷ ((g.list (p 30 33 79 84) (g.part (g.atom (p 31 31 80 81) (g.spelled (k.Name (codes "f") false))) (g.part (g.atom (p 32 32 82 83) (g.spelled (k.Numeral (codes "2")))) g.none)))) ∷ [])) ∷ []) ≡ ((2, 1) ∷ (2, 2) ∷ [], 2)
unfolding base_names standard_libraries prelude encode_utf8
library_of_another_document = refl

pub two_libraries_of_one_name_exchanged : carried_rows (((codes "file:///a.scm"), Some (((g.list (p 0 43 0 125) (g.part (g.atom (p 1 1 1 15) (g.spelled (k.Name (codes "define-library") false))) (g.part (g.list (p 2 4 16 19) (g.part (g.atom (p 3 3 17 18) (g.spelled (k.Name (codes "x") false))) g.none)) (g.part (g.list (p 5 8 20 30) (g.part (g.atom (p 6 6 21 27) (g.spelled (k.Name (codes "export") false))) (g.part (g.atom (p 7 7 28 29) (g.spelled (k.Name (codes "f") false))) g.none))) (g.part (g.list (p 9 15 31 53) (g.part (g.atom (p 10 10 32 38) (g.spelled (k.Name (codes "import") false))) (g.part (g.list (p 11 14 39 52) (g.part (g.atom (p 12 12 40 46) (g.spelled (k.Name (codes "scheme") false))) (g.part (g.atom (p 13 13 47 51) (g.spelled (k.Name (codes "base") false))) g.none))) g.none))) (g.part (g.list (p 16 42 54 124) (g.part (g.atom (p 17 17 55 60) (g.spelled (k.Name (codes "begin") false))) (g.part (g.list (p 18 33 61 106) (g.part (g.atom (p 19 19 62 75) (g.spelled (k.Name (codes "define-syntax") false))) (g.part (g.atom (p 20 20 76 77) (g.spelled (k.Name (codes "f") false))) (g.part (g.list (p 21 32 78 105) (g.part (g.atom (p 22 22 79 91) (g.spelled (k.Name (codes "syntax-rules") false))) (g.part (g.list (p 23 24 92 94) g.none) (g.part (g.list (p 25 31 95 104) (g.part (g.list (p 26 29 96 101) (g.part (g.atom (p 27 27 97 98) (g.spelled (k.Name (codes "_") false))) (g.part (g.atom (p 28 28 99 100) (g.spelled (k.Name (codes "a") false))) g.none))) (g.part (g.atom (p 30 30 102 103) (g.spelled (k.Name (codes "a") false))) g.none))) g.none)))) g.none)))) (g.part (g.list (p 34 41 107 123) (g.part (g.atom (p 35 35 108 114) (g.spelled (k.Name (codes "define") false))) (g.part (g.atom (p 36 36 115 116) (g.spelled (k.Name (codes "v") false))) (g.part (g.list (p 37 40 117 122) (g.part (g.atom (p 38 38 118 119) (g.spelled (k.Name (codes "f") false))) (g.part (g.atom (p 39 39 120 121) (g.spelled (k.Numeral (codes "1")))) g.none))) g.none)))) g.none)))) g.none))))))) ∷ ((g.list (p 44 65 126 188) (g.part (g.atom (p 45 45 127 141) (g.spelled (k.Name (codes "define-library") false))) (g.part (g.list (p 46 48 142 145) (g.part (g.atom (p 47 47 143 144) (g.spelled (k.Name (codes "x") false))) g.none)) (g.part (g.list (p 49 55 146 168) (g.part (g.atom (p 50 50 147 153) (g.spelled (k.Name (codes "import") false))) (g.part (g.list (p 51 54 154 167) (g.part (g.atom (p 52 52 155 161) (g.spelled (k.Name (codes "scheme") false))) (g.part (g.atom (p 53 53 162 166) (g.spelled (k.Name (codes "base") false))) g.none))) g.none))) (g.part (g.list (p 56 64 169 187) (g.part (g.atom (p 57 57 170 175) (g.spelled (k.Name (codes "begin") false))) (g.part (g.list (p 58 63 176 186) (g.part (g.atom (p 59 59 177 179) (g.spelled (k.Name (codes "if") false))) (g.part (g.atom (p 60 60 180 181) (g.spelled (k.Numeral (codes "1")))) (g.part (g.atom (p 61 61 182 183) (g.spelled (k.Numeral (codes "2")))) (g.part (g.atom (p 62 62 184 185) (g.spelled (k.Numeral (codes "3")))) g.none))))) g.none))) g.none)))))) ∷ [])) ∷ []) (((codes "file:///a.scm"), Some (((g.list (p 0 21 0 62) (g.part (g.atom (p 1 1 1 15) (g.spelled (k.Name (codes "define-library") false))) (g.part (g.list (p 2 4 16 19) (g.part (g.atom (p 3 3 17 18) (g.spelled (k.Name (codes "x") false))) g.none)) (g.part (g.list (p 5 11 20 42) (g.part (g.atom (p 6 6 21 27) (g.spelled (k.Name (codes "import") false))) (g.part (g.list (p 7 10 28 41) (g.part (g.atom (p 8 8 29 35) (g.spelled (k.Name (codes "scheme") false))) (g.part (g.atom (p 9 9 36 40) (g.spelled (k.Name (codes "base") false))) g.none))) g.none))) (g.part (g.list (p 12 20 43 61) (g.part (g.atom (p 13 13 44 49) (g.spelled (k.Name (codes "begin") false))) (g.part (g.list (p 14 19 50 60) (g.part (g.atom (p 15 15 51 53) (g.spelled (k.Name (codes "if") false))) (g.part (g.atom (p 16 16 54 55) (g.spelled (k.Numeral (codes "1")))) (g.part (g.atom (p 17 17 56 57) (g.spelled (k.Numeral (codes "2")))) (g.part (g.atom (p 18 18 58 59) (g.spelled (k.Numeral (codes "3")))) g.none))))) g.none))) g.none)))))) ∷ ((g.list (p 22 65 63 188) (g.part (g.atom (p 23 23 64 78) (g.spelled (k.Name (codes "define-library") false))) (g.part (g.list (p 24 26 79 82) (g.part (g.atom (p 25 25 80 81) (g.spelled (k.Name (codes "x") false))) g.none)) (g.part (g.list (p 27 30 83 93) (g.part (g.atom (p 28 28 84 90) (g.spelled (k.Name (codes "export") false))) (g.part (g.atom (p 29 29 91 92) (g.spelled (k.Name (codes "f") false))) g.none))) (g.part (g.list (p 31 37 94 116) (g.part (g.atom (p 32 32 95 101) (g.spelled (k.Name (codes "import") false))) (g.part (g.list (p 33 36 102 115) (g.part (g.atom (p 34 34 103 109) (g.spelled (k.Name (codes "scheme") false))) (g.part (g.atom (p 35 35 110 114) (g.spelled (k.Name (codes "base") false))) g.none))) g.none))) (g.part (g.list (p 38 64 117 187) (g.part (g.atom (p 39 39 118 123) (g.spelled (k.Name (codes "begin") false))) (g.part (g.list (p 40 55 124 169) (g.part (g.atom (p 41 41 125 138) (g.spelled (k.Name (codes "define-syntax") false))) (g.part (g.atom (p 42 42 139 140) (g.spelled (k.Name (codes "f") false))) (g.part (g.list (p 43 54 141 168) (g.part (g.atom (p 44 44 142 154) (g.spelled (k.Name (codes "syntax-rules") false))) (g.part (g.list (p 45 46 155 157) g.none) (g.part (g.list (p 47 53 158 167) (g.part (g.list (p 48 51 159 164) (g.part (g.atom (p 49 49 160 161) (g.spelled (k.Name (codes "_") false))) (g.part (g.atom (p 50 50 162 163) (g.spelled (k.Name (codes "a") false))) g.none))) (g.part (g.atom (p 52 52 165 166) (g.spelled (k.Name (codes "a") false))) g.none))) g.none)))) g.none)))) (g.part (g.list (p 56 63 170 186) (g.part (g.atom (p 57 57 171 177) (g.spelled (k.Name (codes "define") false))) (g.part (g.atom (p 58 58 178 179) (g.spelled (k.Name (codes "v") false))) (g.part (g.list (p 59 62 180 185) (g.part (g.atom (p 60 60 181 182) (g.spelled (k.Name (codes "f") false))) (g.part (g.atom (p 61 61 183 184) (g.spelled (k.Numeral (codes "1")))) g.none))) g.none)))) g.none)))) g.none))))))) ∷ [])) ∷ []) ≡ ([], 0)
unfolding base_names standard_libraries prelude encode_utf8
two_libraries_of_one_name_exchanged = refl

pub circle_closed : carried_rows (((codes "file:///x.sld"), Some (((g.list (p 0 43 0 125) (g.part (g.atom (p 1 1 1 15) (g.spelled (k.Name (codes "define-library") false))) (g.part (g.list (p 2 4 16 19) (g.part (g.atom (p 3 3 17 18) (g.spelled (k.Name (codes "x") false))) g.none)) (g.part (g.list (p 5 8 20 30) (g.part (g.atom (p 6 6 21 27) (g.spelled (k.Name (codes "export") false))) (g.part (g.atom (p 7 7 28 29) (g.spelled (k.Name (codes "f") false))) g.none))) (g.part (g.list (p 9 15 31 53) (g.part (g.atom (p 10 10 32 38) (g.spelled (k.Name (codes "import") false))) (g.part (g.list (p 11 14 39 52) (g.part (g.atom (p 12 12 40 46) (g.spelled (k.Name (codes "scheme") false))) (g.part (g.atom (p 13 13 47 51) (g.spelled (k.Name (codes "base") false))) g.none))) g.none))) (g.part (g.list (p 16 42 54 124) (g.part (g.atom (p 17 17 55 60) (g.spelled (k.Name (codes "begin") false))) (g.part (g.list (p 18 33 61 106) (g.part (g.atom (p 19 19 62 75) (g.spelled (k.Name (codes "define-syntax") false))) (g.part (g.atom (p 20 20 76 77) (g.spelled (k.Name (codes "f") false))) (g.part (g.list (p 21 32 78 105) (g.part (g.atom (p 22 22 79 91) (g.spelled (k.Name (codes "syntax-rules") false))) (g.part (g.list (p 23 24 92 94) g.none) (g.part (g.list (p 25 31 95 104) (g.part (g.list (p 26 29 96 101) (g.part (g.atom (p 27 27 97 98) (g.spelled (k.Name (codes "_") false))) (g.part (g.atom (p 28 28 99 100) (g.spelled (k.Name (codes "a") false))) g.none))) (g.part (g.atom (p 30 30 102 103) (g.spelled (k.Name (codes "a") false))) g.none))) g.none)))) g.none)))) (g.part (g.list (p 34 41 107 123) (g.part (g.atom (p 35 35 108 114) (g.spelled (k.Name (codes "define") false))) (g.part (g.atom (p 36 36 115 116) (g.spelled (k.Name (codes "v") false))) (g.part (g.list (p 37 40 117 122) (g.part (g.atom (p 38 38 118 119) (g.spelled (k.Name (codes "f") false))) (g.part (g.atom (p 39 39 120 121) (g.spelled (k.Numeral (codes "1")))) g.none))) g.none)))) g.none)))) g.none))))))) ∷ [])) ∷ ((codes "file:///y.sld"), Some (((g.list (p 0 30 0 83) (g.part (g.atom (p 1 1 1 15) (g.spelled (k.Name (codes "define-library") false))) (g.part (g.list (p 2 4 16 19) (g.part (g.atom (p 3 3 17 18) (g.spelled (k.Name (codes "y") false))) g.none)) (g.part (g.list (p 5 8 20 30) (g.part (g.atom (p 6 6 21 27) (g.spelled (k.Name (codes "export") false))) (g.part (g.atom (p 7 7 28 29) (g.spelled (k.Name (codes "g") false))) g.none))) (g.part (g.list (p 9 18 31 57) (g.part (g.atom (p 10 10 32 38) (g.spelled (k.Name (codes "import") false))) (g.part (g.list (p 11 14 39 52) (g.part (g.atom (p 12 12 40 46) (g.spelled (k.Name (codes "scheme") false))) (g.part (g.atom (p 13 13 47 51) (g.spelled (k.Name (codes "base") false))) g.none))) (g.part (g.list (p 15 17 53 56) (g.part (g.atom (p 16 16 54 55) (g.spelled (k.Name (codes "x") false))) g.none)) g.none)))) (g.part (g.list (p 19 29 58 82) (g.part (g.atom (p 20 20 59 64) (g.spelled (k.Name (codes "begin") false))) (g.part (g.list (p 21 28 65 81) (g.part (g.atom (p 22 22 66 72) (g.spelled (k.Name (codes "define") false))) (g.part (g.atom (p 23 23 73 74) (g.spelled (k.Name (codes "g") false))) (g.part (g.list (p 24 27 75 80) (g.part (g.atom (p 25 25 76 77) (g.spelled (k.Name (codes "f") false))) (g.part (g.atom (p 26 26 78 79) (g.spelled (k.Numeral (codes "2")))) g.none))) g.none)))) g.none))) g.none))))))) ∷ [])) ∷ []) (((codes "file:///x.sld"), Some (((g.list (p 0 46 0 129) (g.part (g.atom (p 1 1 1 15) (g.spelled (k.Name (codes "define-library") false))) (g.part (g.list (p 2 4 16 19) (g.part (g.atom (p 3 3 17 18) (g.spelled (k.Name (codes "x") false))) g.none)) (g.part (g.list (p 5 8 20 30) (g.part (g.atom (p 6 6 21 27) (g.spelled (k.Name (codes "export") false))) (g.part (g.atom (p 7 7 28 29) (g.spelled (k.Name (codes "f") false))) g.none))) (g.part (g.list (p 9 18 31 57) (g.part (g.atom (p 10 10 32 38) (g.spelled (k.Name (codes "import") false))) (g.part (g.list (p 11 14 39 52) (g.part (g.atom (p 12 12 40 46) (g.spelled (k.Name (codes "scheme") false))) (g.part (g.atom (p 13 13 47 51) (g.spelled (k.Name (codes "base") false))) g.none))) (g.part (g.list (p 15 17 53 56) (g.part (g.atom (p 16 16 54 55) (g.spelled (k.Name (codes "y") false))) g.none)) g.none)))) (g.part (g.list (p 19 45 58 128) (g.part (g.atom (p 20 20 59 64) (g.spelled (k.Name (codes "begin") false))) (g.part (g.list (p 21 36 65 110) (g.part (g.atom (p 22 22 66 79) (g.spelled (k.Name (codes "define-syntax") false))) (g.part (g.atom (p 23 23 80 81) (g.spelled (k.Name (codes "f") false))) (g.part (g.list (p 24 35 82 109) (g.part (g.atom (p 25 25 83 95) (g.spelled (k.Name (codes "syntax-rules") false))) (g.part (g.list (p 26 27 96 98) g.none) (g.part (g.list (p 28 34 99 108) (g.part (g.list (p 29 32 100 105) (g.part (g.atom (p 30 30 101 102) (g.spelled (k.Name (codes "_") false))) (g.part (g.atom (p 31 31 103 104) (g.spelled (k.Name (codes "a") false))) g.none))) (g.part (g.atom (p 33 33 106 107) (g.spelled (k.Name (codes "a") false))) g.none))) g.none)))) g.none)))) (g.part (g.list (p 37 44 111 127) (g.part (g.atom (p 38 38 112 118) (g.spelled (k.Name (codes "define") false))) (g.part (g.atom (p 39 39 119 120) (g.spelled (k.Name (codes "v") false))) (g.part (g.list (p 40 43 121 126) (g.part (g.atom (p 41 41 122 123) (g.spelled (k.Name (codes "f") false))) (g.part (g.atom (p 42 42 124 125) (g.spelled (k.Numeral (codes "1")))) g.none))) g.none)))) g.none)))) g.none))))))) ∷ [])) ∷ ((codes "file:///y.sld"), Some (((g.list (p 0 30 0 83) (g.part (g.atom (p 1 1 1 15) (g.spelled (k.Name (codes "define-library") false))) (g.part (g.list (p 2 4 16 19) (g.part (g.atom (p 3 3 17 18) (g.spelled (k.Name (codes "y") false))) g.none)) (g.part (g.list (p 5 8 20 30) (g.part (g.atom (p 6 6 21 27) (g.spelled (k.Name (codes "export") false))) (g.part (g.atom (p 7 7 28 29) (g.spelled (k.Name (codes "g") false))) g.none))) (g.part (g.list (p 9 18 31 57) (g.part (g.atom (p 10 10 32 38) (g.spelled (k.Name (codes "import") false))) (g.part (g.list (p 11 14 39 52) (g.part (g.atom (p 12 12 40 46) (g.spelled (k.Name (codes "scheme") false))) (g.part (g.atom (p 13 13 47 51) (g.spelled (k.Name (codes "base") false))) g.none))) (g.part (g.list (p 15 17 53 56) (g.part (g.atom (p 16 16 54 55) (g.spelled (k.Name (codes "x") false))) g.none)) g.none)))) (g.part (g.list (p 19 29 58 82) (g.part (g.atom (p 20 20 59 64) (g.spelled (k.Name (codes "begin") false))) (g.part (g.list (p 21 28 65 81) (g.part (g.atom (p 22 22 66 72) (g.spelled (k.Name (codes "define") false))) (g.part (g.atom (p 23 23 73 74) (g.spelled (k.Name (codes "g") false))) (g.part (g.list (p 24 27 75 80) (g.part (g.atom (p 25 25 76 77) (g.spelled (k.Name (codes "f") false))) (g.part (g.atom (p 26 26 78 79) (g.spelled (k.Numeral (codes "2")))) g.none))) g.none)))) g.none))) g.none))))))) ∷ [])) ∷ []) ≡ ([], 0)
unfolding base_names standard_libraries prelude encode_utf8
circle_closed = refl

pub circle_opened : carried_rows (((codes "file:///x.sld"), Some (((g.list (p 0 46 0 129) (g.part (g.atom (p 1 1 1 15) (g.spelled (k.Name (codes "define-library") false))) (g.part (g.list (p 2 4 16 19) (g.part (g.atom (p 3 3 17 18) (g.spelled (k.Name (codes "x") false))) g.none)) (g.part (g.list (p 5 8 20 30) (g.part (g.atom (p 6 6 21 27) (g.spelled (k.Name (codes "export") false))) (g.part (g.atom (p 7 7 28 29) (g.spelled (k.Name (codes "f") false))) g.none))) (g.part (g.list (p 9 18 31 57) (g.part (g.atom (p 10 10 32 38) (g.spelled (k.Name (codes "import") false))) (g.part (g.list (p 11 14 39 52) (g.part (g.atom (p 12 12 40 46) (g.spelled (k.Name (codes "scheme") false))) (g.part (g.atom (p 13 13 47 51) (g.spelled (k.Name (codes "base") false))) g.none))) (g.part (g.list (p 15 17 53 56) (g.part (g.atom (p 16 16 54 55) (g.spelled (k.Name (codes "y") false))) g.none)) g.none)))) (g.part (g.list (p 19 45 58 128) (g.part (g.atom (p 20 20 59 64) (g.spelled (k.Name (codes "begin") false))) (g.part (g.list (p 21 36 65 110) (g.part (g.atom (p 22 22 66 79) (g.spelled (k.Name (codes "define-syntax") false))) (g.part (g.atom (p 23 23 80 81) (g.spelled (k.Name (codes "f") false))) (g.part (g.list (p 24 35 82 109) (g.part (g.atom (p 25 25 83 95) (g.spelled (k.Name (codes "syntax-rules") false))) (g.part (g.list (p 26 27 96 98) g.none) (g.part (g.list (p 28 34 99 108) (g.part (g.list (p 29 32 100 105) (g.part (g.atom (p 30 30 101 102) (g.spelled (k.Name (codes "_") false))) (g.part (g.atom (p 31 31 103 104) (g.spelled (k.Name (codes "a") false))) g.none))) (g.part (g.atom (p 33 33 106 107) (g.spelled (k.Name (codes "a") false))) g.none))) g.none)))) g.none)))) (g.part (g.list (p 37 44 111 127) (g.part (g.atom (p 38 38 112 118) (g.spelled (k.Name (codes "define") false))) (g.part (g.atom (p 39 39 119 120) (g.spelled (k.Name (codes "v") false))) (g.part (g.list (p 40 43 121 126) (g.part (g.atom (p 41 41 122 123) (g.spelled (k.Name (codes "f") false))) (g.part (g.atom (p 42 42 124 125) (g.spelled (k.Numeral (codes "1")))) g.none))) g.none)))) g.none)))) g.none))))))) ∷ [])) ∷ ((codes "file:///y.sld"), Some (((g.list (p 0 30 0 83) (g.part (g.atom (p 1 1 1 15) (g.spelled (k.Name (codes "define-library") false))) (g.part (g.list (p 2 4 16 19) (g.part (g.atom (p 3 3 17 18) (g.spelled (k.Name (codes "y") false))) g.none)) (g.part (g.list (p 5 8 20 30) (g.part (g.atom (p 6 6 21 27) (g.spelled (k.Name (codes "export") false))) (g.part (g.atom (p 7 7 28 29) (g.spelled (k.Name (codes "g") false))) g.none))) (g.part (g.list (p 9 18 31 57) (g.part (g.atom (p 10 10 32 38) (g.spelled (k.Name (codes "import") false))) (g.part (g.list (p 11 14 39 52) (g.part (g.atom (p 12 12 40 46) (g.spelled (k.Name (codes "scheme") false))) (g.part (g.atom (p 13 13 47 51) (g.spelled (k.Name (codes "base") false))) g.none))) (g.part (g.list (p 15 17 53 56) (g.part (g.atom (p 16 16 54 55) (g.spelled (k.Name (codes "x") false))) g.none)) g.none)))) (g.part (g.list (p 19 29 58 82) (g.part (g.atom (p 20 20 59 64) (g.spelled (k.Name (codes "begin") false))) (g.part (g.list (p 21 28 65 81) (g.part (g.atom (p 22 22 66 72) (g.spelled (k.Name (codes "define") false))) (g.part (g.atom (p 23 23 73 74) (g.spelled (k.Name (codes "g") false))) (g.part (g.list (p 24 27 75 80) (g.part (g.atom (p 25 25 76 77) (g.spelled (k.Name (codes "f") false))) (g.part (g.atom (p 26 26 78 79) (g.spelled (k.Numeral (codes "2")))) g.none))) g.none)))) g.none))) g.none))))))) ∷ [])) ∷ []) (((codes "file:///x.sld"), Some (((g.list (p 0 43 0 125) (g.part (g.atom (p 1 1 1 15) (g.spelled (k.Name (codes "define-library") false))) (g.part (g.list (p 2 4 16 19) (g.part (g.atom (p 3 3 17 18) (g.spelled (k.Name (codes "x") false))) g.none)) (g.part (g.list (p 5 8 20 30) (g.part (g.atom (p 6 6 21 27) (g.spelled (k.Name (codes "export") false))) (g.part (g.atom (p 7 7 28 29) (g.spelled (k.Name (codes "f") false))) g.none))) (g.part (g.list (p 9 15 31 53) (g.part (g.atom (p 10 10 32 38) (g.spelled (k.Name (codes "import") false))) (g.part (g.list (p 11 14 39 52) (g.part (g.atom (p 12 12 40 46) (g.spelled (k.Name (codes "scheme") false))) (g.part (g.atom (p 13 13 47 51) (g.spelled (k.Name (codes "base") false))) g.none))) g.none))) (g.part (g.list (p 16 42 54 124) (g.part (g.atom (p 17 17 55 60) (g.spelled (k.Name (codes "begin") false))) (g.part (g.list (p 18 33 61 106) (g.part (g.atom (p 19 19 62 75) (g.spelled (k.Name (codes "define-syntax") false))) (g.part (g.atom (p 20 20 76 77) (g.spelled (k.Name (codes "f") false))) (g.part (g.list (p 21 32 78 105) (g.part (g.atom (p 22 22 79 91) (g.spelled (k.Name (codes "syntax-rules") false))) (g.part (g.list (p 23 24 92 94) g.none) (g.part (g.list (p 25 31 95 104) (g.part (g.list (p 26 29 96 101) (g.part (g.atom (p 27 27 97 98) (g.spelled (k.Name (codes "_") false))) (g.part (g.atom (p 28 28 99 100) (g.spelled (k.Name (codes "a") false))) g.none))) (g.part (g.atom (p 30 30 102 103) (g.spelled (k.Name (codes "a") false))) g.none))) g.none)))) g.none)))) (g.part (g.list (p 34 41 107 123) (g.part (g.atom (p 35 35 108 114) (g.spelled (k.Name (codes "define") false))) (g.part (g.atom (p 36 36 115 116) (g.spelled (k.Name (codes "v") false))) (g.part (g.list (p 37 40 117 122) (g.part (g.atom (p 38 38 118 119) (g.spelled (k.Name (codes "f") false))) (g.part (g.atom (p 39 39 120 121) (g.spelled (k.Numeral (codes "1")))) g.none))) g.none)))) g.none)))) g.none))))))) ∷ [])) ∷ ((codes "file:///y.sld"), Some (((g.list (p 0 30 0 83) (g.part (g.atom (p 1 1 1 15) (g.spelled (k.Name (codes "define-library") false))) (g.part (g.list (p 2 4 16 19) (g.part (g.atom (p 3 3 17 18) (g.spelled (k.Name (codes "y") false))) g.none)) (g.part (g.list (p 5 8 20 30) (g.part (g.atom (p 6 6 21 27) (g.spelled (k.Name (codes "export") false))) (g.part (g.atom (p 7 7 28 29) (g.spelled (k.Name (codes "g") false))) g.none))) (g.part (g.list (p 9 18 31 57) (g.part (g.atom (p 10 10 32 38) (g.spelled (k.Name (codes "import") false))) (g.part (g.list (p 11 14 39 52) (g.part (g.atom (p 12 12 40 46) (g.spelled (k.Name (codes "scheme") false))) (g.part (g.atom (p 13 13 47 51) (g.spelled (k.Name (codes "base") false))) g.none))) (g.part (g.list (p 15 17 53 56) (g.part (g.atom (p 16 16 54 55) (g.spelled (k.Name (codes "x") false))) g.none)) g.none)))) (g.part (g.list (p 19 29 58 82) (g.part (g.atom (p 20 20 59 64) (g.spelled (k.Name (codes "begin") false))) (g.part (g.list (p 21 28 65 81) (g.part (g.atom (p 22 22 66 72) (g.spelled (k.Name (codes "define") false))) (g.part (g.atom (p 23 23 73 74) (g.spelled (k.Name (codes "g") false))) (g.part (g.list (p 24 27 75 80) (g.part (g.atom (p 25 25 76 77) (g.spelled (k.Name (codes "f") false))) (g.part (g.atom (p 26 26 78 79) (g.spelled (k.Numeral (codes "2")))) g.none))) g.none)))) g.none))) g.none))))))) ∷ [])) ∷ []) ≡ ([], 2)
unfolding base_names standard_libraries prelude encode_utf8
circle_opened = refl

pub bad_declaration : carried_rows (((codes "file:///a.scm"), Some (((g.list (p 0 43 0 125) (g.part (g.atom (p 1 1 1 15) (g.spelled (k.Name (codes "define-library") false))) (g.part (g.list (p 2 4 16 19) (g.part (g.atom (p 3 3 17 18) (g.spelled (k.Name (codes "x") false))) g.none)) (g.part (g.list (p 5 8 20 30) (g.part (g.atom (p 6 6 21 27) (g.spelled (k.Name (codes "export") false))) (g.part (g.atom (p 7 7 28 29) (g.spelled (k.Name (codes "f") false))) g.none))) (g.part (g.list (p 9 15 31 53) (g.part (g.atom (p 10 10 32 38) (g.spelled (k.Name (codes "import") false))) (g.part (g.list (p 11 14 39 52) (g.part (g.atom (p 12 12 40 46) (g.spelled (k.Name (codes "scheme") false))) (g.part (g.atom (p 13 13 47 51) (g.spelled (k.Name (codes "base") false))) g.none))) g.none))) (g.part (g.list (p 16 42 54 124) (g.part (g.atom (p 17 17 55 60) (g.spelled (k.Name (codes "begin") false))) (g.part (g.list (p 18 33 61 106) (g.part (g.atom (p 19 19 62 75) (g.spelled (k.Name (codes "define-syntax") false))) (g.part (g.atom (p 20 20 76 77) (g.spelled (k.Name (codes "f") false))) (g.part (g.list (p 21 32 78 105) (g.part (g.atom (p 22 22 79 91) (g.spelled (k.Name (codes "syntax-rules") false))) (g.part (g.list (p 23 24 92 94) g.none) (g.part (g.list (p 25 31 95 104) (g.part (g.list (p 26 29 96 101) (g.part (g.atom (p 27 27 97 98) (g.spelled (k.Name (codes "_") false))) (g.part (g.atom (p 28 28 99 100) (g.spelled (k.Name (codes "a") false))) g.none))) (g.part (g.atom (p 30 30 102 103) (g.spelled (k.Name (codes "a") false))) g.none))) g.none)))) g.none)))) (g.part (g.list (p 34 41 107 123) (g.part (g.atom (p 35 35 108 114) (g.spelled (k.Name (codes "define") false))) (g.part (g.atom (p 36 36 115 116) (g.spelled (k.Name (codes "v") false))) (g.part (g.list (p 37 40 117 122) (g.part (g.atom (p 38 38 118 119) (g.spelled (k.Name (codes "f") false))) (g.part (g.atom (p 39 39 120 121) (g.spelled (k.Numeral (codes "1")))) g.none))) g.none)))) g.none)))) g.none))))))) ∷ [])) ∷ []) (((codes "file:///a.scm"), Some (((g.list (p 0 43 0 125) (g.part (g.atom (p 1 1 1 15) (g.spelled (k.Name (codes "define-library") false))) (g.part (g.list (p 2 4 16 19) (g.part (g.atom (p 3 3 17 18) (g.spelled (k.Name (codes "x") false))) g.none)) (g.part (g.list (p 5 8 20 30) (g.part (g.atom (p 6 6 21 27) (g.spelled (k.Name (codes "export") false))) (g.part (g.atom (p 7 7 28 29) (g.spelled (k.Numeral (codes "1")))) g.none))) (g.part (g.list (p 9 15 31 53) (g.part (g.atom (p 10 10 32 38) (g.spelled (k.Name (codes "import") false))) (g.part (g.list (p 11 14 39 52) (g.part (g.atom (p 12 12 40 46) (g.spelled (k.Name (codes "scheme") false))) (g.part (g.atom (p 13 13 47 51) (g.spelled (k.Name (codes "base") false))) g.none))) g.none))) (g.part (g.list (p 16 42 54 124) (g.part (g.atom (p 17 17 55 60) (g.spelled (k.Name (codes "begin") false))) (g.part (g.list (p 18 33 61 106) (g.part (g.atom (p 19 19 62 75) (g.spelled (k.Name (codes "define-syntax") false))) (g.part (g.atom (p 20 20 76 77) (g.spelled (k.Name (codes "f") false))) (g.part (g.list (p 21 32 78 105) (g.part (g.atom (p 22 22 79 91) (g.spelled (k.Name (codes "syntax-rules") false))) (g.part (g.list (p 23 24 92 94) g.none) (g.part (g.list (p 25 31 95 104) (g.part (g.list (p 26 29 96 101) (g.part (g.atom (p 27 27 97 98) (g.spelled (k.Name (codes "_") false))) (g.part (g.atom (p 28 28 99 100) (g.spelled (k.Name (codes "a") false))) g.none))) (g.part (g.atom (p 30 30 102 103) (g.spelled (k.Name (codes "a") false))) g.none))) g.none)))) g.none)))) (g.part (g.list (p 34 41 107 123) (g.part (g.atom (p 35 35 108 114) (g.spelled (k.Name (codes "define") false))) (g.part (g.atom (p 36 36 115 116) (g.spelled (k.Name (codes "v") false))) (g.part (g.list (p 37 40 117 122) (g.part (g.atom (p 38 38 118 119) (g.spelled (k.Name (codes "f") false))) (g.part (g.atom (p 39 39 120 121) (g.spelled (k.Numeral (codes "1")))) g.none))) g.none)))) g.none)))) g.none))))))) ∷ [])) ∷ []) ≡ ([], 0)
unfolding base_names standard_libraries prelude encode_utf8
bad_declaration = refl

pub declaration_of_the_same_text_as_a_form : carried_rows (((codes "file:///a.scm"), Some (((g.list (p 0 12 0 43) (g.part (g.atom (p 1 1 1 15) (g.spelled (k.Name (codes "define-library") false))) (g.part (g.list (p 2 4 16 19) (g.part (g.atom (p 3 3 17 18) (g.spelled (k.Name (codes "l") false))) g.none)) (g.part (g.list (p 5 11 20 42) (g.part (g.atom (p 6 6 21 27) (g.spelled (k.Name (codes "import") false))) (g.part (g.list (p 7 10 28 41) (g.part (g.atom (p 8 8 29 35) (g.spelled (k.Name (codes "scheme") false))) (g.part (g.atom (p 9 9 36 40) (g.spelled (k.Name (codes "base") false))) g.none))) g.none))) g.none))))) ∷ [])) ∷ []) (((codes "file:///a.scm"), Some (((g.list (p 0 15 0 51) (g.part (g.atom (p 1 1 1 15) (g.spelled (k.Name (codes "define-library") false))) (g.part (g.list (p 2 4 16 19) (g.part (g.atom (p 3 3 17 18) (g.spelled (k.Name (codes "l") false))) g.none)) (g.part (g.list (p 5 14 20 50) (g.part (g.atom (p 6 6 21 26) (g.spelled (k.Name (codes "begin") false))) (g.part (g.list (p 7 13 27 49) (g.part (g.atom (p 8 8 28 34) (g.spelled (k.Name (codes "import") false))) (g.part (g.list (p 9 12 35 48) (g.part (g.atom (p 10 10 36 42) (g.spelled (k.Name (codes "scheme") false))) (g.part (g.atom (p 11 11 43 47) (g.spelled (k.Name (codes "base") false))) g.none))) g.none))) g.none))) g.none))))) ∷ [])) ∷ []) ≡ ([], 0)
unfolding base_names standard_libraries prelude encode_utf8
declaration_of_the_same_text_as_a_form = refl

pub import_becomes_a_form : carried_rows (((codes "file:///a.scm"), Some (((g.list (p 0 6 0 22) (g.part (g.atom (p 1 1 1 7) (g.spelled (k.Name (codes "import") false))) (g.part (g.list (p 2 5 8 21) (g.part (g.atom (p 3 3 9 15) (g.spelled (k.Name (codes "scheme") false))) (g.part (g.atom (p 4 4 16 20) (g.spelled (k.Name (codes "base") false))) g.none))) g.none)))) ∷ ((g.list (p 7 12 23 33) (g.part (g.atom (p 8 8 24 26) (g.spelled (k.Name (codes "if") false))) (g.part (g.atom (p 9 9 27 28) (g.spelled (k.Numeral (codes "1")))) (g.part (g.atom (p 10 10 29 30) (g.spelled (k.Numeral (codes "2")))) (g.part (g.atom (p 11 11 31 32) (g.spelled (k.Numeral (codes "3")))) g.none)))))) ∷ [])) ∷ []) (((codes "file:///a.scm"), Some (((g.list (p 0 5 0 10) (g.part (g.atom (p 1 1 1 3) (g.spelled (k.Name (codes "if") false))) (g.part (g.atom (p 2 2 4 5) (g.spelled (k.Numeral (codes "1")))) (g.part (g.atom (p 3 3 6 7) (g.spelled (k.Numeral (codes "2")))) (g.part (g.atom (p 4 4 8 9) (g.spelled (k.Numeral (codes "3")))) g.none)))))) ∷ ((g.list (p 6 12 11 33) (g.part (g.atom (p 7 7 12 18) (g.spelled (k.Name (codes "import") false))) (g.part (g.list (p 8 11 19 32) (g.part (g.atom (p 9 9 20 26) (g.spelled (k.Name (codes "scheme") false))) (g.part (g.atom (p 10 10 27 31) (g.spelled (k.Name (codes "base") false))) g.none))) g.none)))) ∷ ((g.list (p 13 18 34 44) (g.part (g.atom (p 14 14 35 37) (g.spelled (k.Name (codes "if") false))) (g.part (g.atom (p 15 15 38 39) (g.spelled (k.Numeral (codes "1")))) (g.part (g.atom (p 16 16 40 41) (g.spelled (k.Numeral (codes "2")))) (g.part (g.atom (p 17 17 42 43) (g.spelled (k.Numeral (codes "3")))) g.none)))))) ∷ [])) ∷ []) ≡ ((0, 2) ∷ [], 0)
unfolding base_names standard_libraries prelude encode_utf8
import_becomes_a_form = refl

pub requirement_of_an_import_s_library : carried_rows (((codes "file:///a.scm"), Some (((g.list (p 0 47 0 135) (g.part (g.atom (p 1 1 1 15) (g.spelled (k.Name (codes "define-library") false))) (g.part (g.list (p 2 4 16 19) (g.part (g.atom (p 3 3 17 18) (g.spelled (k.Name (codes "l") false))) g.none)) (g.part (g.list (p 5 11 20 42) (g.part (g.atom (p 6 6 21 27) (g.spelled (k.Name (codes "import") false))) (g.part (g.list (p 7 10 28 41) (g.part (g.atom (p 8 8 29 35) (g.spelled (k.Name (codes "scheme") false))) (g.part (g.atom (p 9 9 36 40) (g.spelled (k.Name (codes "base") false))) g.none))) g.none))) (g.part (g.list (p 12 46 43 134) (g.part (g.atom (p 13 13 44 55) (g.spelled (k.Name (codes "cond-expand") false))) (g.part (g.list (p 14 29 56 92) (g.part (g.list (p 15 20 57 70) (g.part (g.atom (p 16 16 58 65) (g.spelled (k.Name (codes "library") false))) (g.part (g.list (p 17 19 66 69) (g.part (g.atom (p 18 18 67 68) (g.spelled (k.Name (codes "k") false))) g.none)) g.none))) (g.part (g.list (p 21 28 71 91) (g.part (g.atom (p 22 22 72 77) (g.spelled (k.Name (codes "begin") false))) (g.part (g.list (p 23 27 78 90) (g.part (g.atom (p 24 24 79 85) (g.spelled (k.Name (codes "define") false))) (g.part (g.atom (p 25 25 86 87) (g.spelled (k.Name (codes "x") false))) (g.part (g.atom (p 26 26 88 89) (g.spelled (k.Numeral (codes "1")))) g.none)))) g.none))) g.none))) (g.part (g.list (p 30 45 93 133) (g.part (g.atom (p 31 31 94 98) (g.spelled (k.Name (codes "else") false))) (g.part (g.list (p 32 44 99 132) (g.part (g.atom (p 33 33 100 105) (g.spelled (k.Name (codes "begin") false))) (g.part (g.list (p 34 38 106 118) (g.part (g.atom (p 35 35 107 113) (g.spelled (k.Name (codes "define") false))) (g.part (g.atom (p 36 36 114 115) (g.spelled (k.Name (codes "x") false))) (g.part (g.atom (p 37 37 116 117) (g.spelled (k.Numeral (codes "1")))) g.none)))) (g.part (g.list (p 39 43 119 131) (g.part (g.atom (p 40 40 120 126) (g.spelled (k.Name (codes "define") false))) (g.part (g.atom (p 41 41 127 128) (g.spelled (k.Name (codes "y") false))) (g.part (g.atom (p 42 42 129 130) (g.spelled (k.Numeral (codes "1")))) g.none)))) g.none)))) g.none))) g.none)))) g.none)))))) ∷ [])) ∷ []) (((codes "file:///a.scm"), Some (((g.list (p 0 47 0 135) (g.part (g.atom (p 1 1 1 15) (g.spelled (k.Name (codes "define-library") false))) (g.part (g.list (p 2 4 16 19) (g.part (g.atom (p 3 3 17 18) (g.spelled (k.Name (codes "l") false))) g.none)) (g.part (g.list (p 5 11 20 42) (g.part (g.atom (p 6 6 21 27) (g.spelled (k.Name (codes "import") false))) (g.part (g.list (p 7 10 28 41) (g.part (g.atom (p 8 8 29 35) (g.spelled (k.Name (codes "scheme") false))) (g.part (g.atom (p 9 9 36 40) (g.spelled (k.Name (codes "base") false))) g.none))) g.none))) (g.part (g.list (p 12 46 43 134) (g.part (g.atom (p 13 13 44 55) (g.spelled (k.Name (codes "cond-expand") false))) (g.part (g.list (p 14 29 56 92) (g.part (g.list (p 15 20 57 70) (g.part (g.atom (p 16 16 58 65) (g.spelled (k.Name (codes "library") false))) (g.part (g.list (p 17 19 66 69) (g.part (g.atom (p 18 18 67 68) (g.spelled (k.Name (codes "k") false))) g.none)) g.none))) (g.part (g.list (p 21 28 71 91) (g.part (g.atom (p 22 22 72 77) (g.spelled (k.Name (codes "begin") false))) (g.part (g.list (p 23 27 78 90) (g.part (g.atom (p 24 24 79 85) (g.spelled (k.Name (codes "define") false))) (g.part (g.atom (p 25 25 86 87) (g.spelled (k.Name (codes "x") false))) (g.part (g.atom (p 26 26 88 89) (g.spelled (k.Numeral (codes "1")))) g.none)))) g.none))) g.none))) (g.part (g.list (p 30 45 93 133) (g.part (g.atom (p 31 31 94 98) (g.spelled (k.Name (codes "else") false))) (g.part (g.list (p 32 44 99 132) (g.part (g.atom (p 33 33 100 105) (g.spelled (k.Name (codes "begin") false))) (g.part (g.list (p 34 38 106 118) (g.part (g.atom (p 35 35 107 113) (g.spelled (k.Name (codes "define") false))) (g.part (g.atom (p 36 36 114 115) (g.spelled (k.Name (codes "x") false))) (g.part (g.atom (p 37 37 116 117) (g.spelled (k.Numeral (codes "1")))) g.none)))) (g.part (g.list (p 39 43 119 131) (g.part (g.atom (p 40 40 120 126) (g.spelled (k.Name (codes "define") false))) (g.part (g.atom (p 41 41 127 128) (g.spelled (k.Name (codes "y") false))) (g.part (g.atom (p 42 42 129 130) (g.spelled (k.Numeral (codes "1")))) g.none)))) g.none)))) g.none))) g.none)))) g.none)))))) ∷ [])) ∷ ((codes "file:///k.sld"), Some (((g.list (p 0 5 0 20) (g.part (g.atom (p 1 1 1 15) (g.spelled (k.Name (codes "define-library") false))) (g.part (g.list (p 2 4 16 19) (g.part (g.atom (p 3 3 17 18) (g.spelled (k.Name (codes "k") false))) g.none)) g.none)))) ∷ [])) ∷ []) ≡ ((0, 1) ∷ [], 0)
unfolding base_names standard_libraries prelude encode_utf8
requirement_of_an_import_s_library = refl

pub smallest_what_a_name_means : carried_rows (((codes "file:///a.scm"), Some (((g.atom (p 0 0 0 1) (g.spelled (k.Name (codes "x") false)))) ∷ [])) ∷ []) (((codes "file:///a.scm"), Some (((g.atom (p 0 0 0 1) (g.spelled (k.Name (codes "x") false)))) ∷ ((g.list (p 1 5 2 14) (g.part (g.atom (p 2 2 3 9) (g.spelled (k.Name (codes "define") false))) (g.part (g.atom (p 3 3 10 11) (g.spelled (k.Name (codes "x") false))) (g.part (g.atom (p 4 4 12 13) (g.spelled (k.Numeral (codes "1")))) g.none))))) ∷ [])) ∷ []) ≡ ([], 0)
unfolding base_names standard_libraries prelude encode_utf8
smallest_what_a_name_means = refl

pub smallest_whether_it_is_a_keyword : carried_rows (((codes "file:///a.scm"), Some (((g.list (p 0 4 0 12) (g.part (g.atom (p 1 1 1 7) (g.spelled (k.Name (codes "define") false))) (g.part (g.atom (p 2 2 8 9) (g.spelled (k.Name (codes "x") false))) (g.part (g.atom (p 3 3 10 11) (g.spelled (k.Numeral (codes "1")))) g.none))))) ∷ ((g.atom (p 5 5 13 14) (g.spelled (k.Name (codes "x") false)))) ∷ [])) ∷ []) (((codes "file:///a.scm"), Some (((g.list (p 0 8 0 35) (g.part (g.atom (p 1 1 1 14) (g.spelled (k.Name (codes "define-syntax") false))) (g.part (g.atom (p 2 2 15 16) (g.spelled (k.Name (codes "x") false))) (g.part (g.list (p 3 7 17 34) (g.part (g.atom (p 4 4 18 30) (g.spelled (k.Name (codes "syntax-rules") false))) (g.part (g.list (p 5 6 31 33) g.none) g.none))) g.none))))) ∷ ((g.atom (p 9 9 36 37) (g.spelled (k.Name (codes "x") false)))) ∷ [])) ∷ []) ≡ ([], 0)
unfolding base_names standard_libraries prelude encode_utf8
smallest_whether_it_is_a_keyword = refl

pub smallest_the_rules : carried_rows (((codes "file:///a.scm"), Some (((g.list (p 0 14 0 43) (g.part (g.atom (p 1 1 1 14) (g.spelled (k.Name (codes "define-syntax") false))) (g.part (g.atom (p 2 2 15 16) (g.spelled (k.Name (codes "m") false))) (g.part (g.list (p 3 13 17 42) (g.part (g.atom (p 4 4 18 30) (g.spelled (k.Name (codes "syntax-rules") false))) (g.part (g.list (p 5 6 31 33) g.none) (g.part (g.list (p 7 12 34 41) (g.part (g.list (p 8 10 35 38) (g.part (g.atom (p 9 9 36 37) (g.spelled (k.Name (codes "_") false))) g.none)) (g.part (g.atom (p 11 11 39 40) (g.spelled (k.Numeral (codes "1")))) g.none))) g.none)))) g.none))))) ∷ ((g.list (p 15 17 44 47) (g.part (g.atom (p 16 16 45 46) (g.spelled (k.Name (codes "m") false))) g.none))) ∷ [])) ∷ []) (((codes "file:///a.scm"), Some (((g.list (p 0 14 0 43) (g.part (g.atom (p 1 1 1 14) (g.spelled (k.Name (codes "define-syntax") false))) (g.part (g.atom (p 2 2 15 16) (g.spelled (k.Name (codes "m") false))) (g.part (g.list (p 3 13 17 42) (g.part (g.atom (p 4 4 18 30) (g.spelled (k.Name (codes "syntax-rules") false))) (g.part (g.list (p 5 6 31 33) g.none) (g.part (g.list (p 7 12 34 41) (g.part (g.list (p 8 10 35 38) (g.part (g.atom (p 9 9 36 37) (g.spelled (k.Name (codes "_") false))) g.none)) (g.part (g.atom (p 11 11 39 40) (g.spelled (k.Numeral (codes "2")))) g.none))) g.none)))) g.none))))) ∷ ((g.list (p 15 17 44 47) (g.part (g.atom (p 16 16 45 46) (g.spelled (k.Name (codes "m") false))) g.none))) ∷ [])) ∷ []) ≡ ([], 1)
unfolding base_names standard_libraries prelude encode_utf8
smallest_the_rules = refl

pub smallest_a_comparison : carried_rows (((codes "file:///a.scm"), Some (((g.list (p 0 4 0 15) (g.part (g.atom (p 1 1 1 7) (g.spelled (k.Name (codes "define") false))) (g.part (g.atom (p 2 2 8 12) (g.spelled (k.Name (codes "else") false))) (g.part (g.atom (p 3 3 13 14) (g.spelled (k.Numeral (codes "1")))) g.none))))) ∷ ((g.list (p 5 12 16 33) (g.part (g.atom (p 6 6 17 21) (g.spelled (k.Name (codes "case") false))) (g.part (g.atom (p 7 7 22 23) (g.spelled (k.Numeral (codes "1")))) (g.part (g.list (p 8 11 24 32) (g.part (g.atom (p 9 9 25 29) (g.spelled (k.Name (codes "else") false))) (g.part (g.atom (p 10 10 30 31) (g.spelled (k.Numeral (codes "2")))) g.none))) g.none))))) ∷ [])) ∷ []) (((codes "file:///a.scm"), Some (((g.list (p 0 4 0 12) (g.part (g.atom (p 1 1 1 7) (g.spelled (k.Name (codes "define") false))) (g.part (g.atom (p 2 2 8 9) (g.spelled (k.Name (codes "x") false))) (g.part (g.atom (p 3 3 10 11) (g.spelled (k.Numeral (codes "1")))) g.none))))) ∷ ((g.list (p 5 12 13 30) (g.part (g.atom (p 6 6 14 18) (g.spelled (k.Name (codes "case") false))) (g.part (g.atom (p 7 7 19 20) (g.spelled (k.Numeral (codes "1")))) (g.part (g.list (p 8 11 21 29) (g.part (g.atom (p 9 9 22 26) (g.spelled (k.Name (codes "else") false))) (g.part (g.atom (p 10 10 27 28) (g.spelled (k.Numeral (codes "2")))) g.none))) g.none))))) ∷ [])) ∷ []) ≡ ([], 3)
unfolding base_names standard_libraries prelude encode_utf8
smallest_a_comparison = refl

pub smallest_a_library : carried_rows (((codes "file:///a.scm"), Some (((g.list (p 0 15 0 40) (g.part (g.atom (p 1 1 1 12) (g.spelled (k.Name (codes "cond-expand") false))) (g.part (g.list (p 2 10 13 30) (g.part (g.list (p 3 8 14 27) (g.part (g.atom (p 4 4 15 22) (g.spelled (k.Name (codes "library") false))) (g.part (g.list (p 5 7 23 26) (g.part (g.atom (p 6 6 24 25) (g.spelled (k.Name (codes "l") false))) g.none)) g.none))) (g.part (g.atom (p 9 9 28 29) (g.spelled (k.Numeral (codes "1")))) g.none))) (g.part (g.list (p 11 14 31 39) (g.part (g.atom (p 12 12 32 36) (g.spelled (k.Name (codes "else") false))) (g.part (g.atom (p 13 13 37 38) (g.spelled (k.Numeral (codes "2")))) g.none))) g.none))))) ∷ [])) ∷ []) (((codes "file:///a.scm"), Some (((g.list (p 0 15 0 40) (g.part (g.atom (p 1 1 1 12) (g.spelled (k.Name (codes "cond-expand") false))) (g.part (g.list (p 2 10 13 30) (g.part (g.list (p 3 8 14 27) (g.part (g.atom (p 4 4 15 22) (g.spelled (k.Name (codes "library") false))) (g.part (g.list (p 5 7 23 26) (g.part (g.atom (p 6 6 24 25) (g.spelled (k.Name (codes "l") false))) g.none)) g.none))) (g.part (g.atom (p 9 9 28 29) (g.spelled (k.Numeral (codes "1")))) g.none))) (g.part (g.list (p 11 14 31 39) (g.part (g.atom (p 12 12 32 36) (g.spelled (k.Name (codes "else") false))) (g.part (g.atom (p 13 13 37 38) (g.spelled (k.Numeral (codes "2")))) g.none))) g.none))))) ∷ [])) ∷ ((codes "file:///l.sld"), Some (((g.list (p 0 5 0 20) (g.part (g.atom (p 1 1 1 15) (g.spelled (k.Name (codes "define-library") false))) (g.part (g.list (p 2 4 16 19) (g.part (g.atom (p 3 3 17 18) (g.spelled (k.Name (codes "l") false))) g.none)) g.none)))) ∷ [])) ∷ []) ≡ ([], 0)
unfolding base_names standard_libraries prelude encode_utf8
smallest_a_library = refl

pub smallest_how_a_definition_ends : carried_rows (((codes "file:///a.scm"), Some (((g.list (p 0 2 0 6) (g.part (g.atom (p 1 1 1 5) (g.spelled (k.Name (codes "list") false))) g.none))) ∷ ((g.list (p 3 7 7 20) (g.part (g.atom (p 4 4 8 14) (g.spelled (k.Name (codes "define") false))) (g.part (g.atom (p 5 5 15 17) (g.spelled (k.Name (codes "if") false))) (g.part (g.atom (p 6 6 18 19) (g.spelled (k.Numeral (codes "1")))) g.none))))) ∷ [])) ∷ []) (((codes "file:///a.scm"), Some (((g.list (p 0 4 0 8) (g.part (g.atom (p 1 1 1 3) (g.spelled (k.Name (codes "if") false))) (g.part (g.atom (p 2 2 4 5) (g.spelled (k.Numeral (codes "1")))) (g.part (g.atom (p 3 3 6 7) (g.spelled (k.Numeral (codes "2")))) g.none))))) ∷ ((g.list (p 5 9 9 22) (g.part (g.atom (p 6 6 10 16) (g.spelled (k.Name (codes "define") false))) (g.part (g.atom (p 7 7 17 19) (g.spelled (k.Name (codes "if") false))) (g.part (g.atom (p 8 8 20 21) (g.spelled (k.Numeral (codes "1")))) g.none))))) ∷ [])) ∷ []) ≡ ([], 0)
unfolding base_names standard_libraries prelude encode_utf8
smallest_how_a_definition_ends = refl

pub smallest_whether_a_definition_is_an_assignment : carried_rows (((codes "file:///a.scm"), Some (((g.list (p 0 23 0 66) (g.part (g.atom (p 1 1 1 6) (g.spelled (k.Name (codes "begin") false))) (g.part (g.list (p 2 17 7 52) (g.part (g.atom (p 3 3 8 21) (g.spelled (k.Name (codes "define-syntax") false))) (g.part (g.atom (p 4 4 22 23) (g.spelled (k.Name (codes "q") false))) (g.part (g.list (p 5 16 24 51) (g.part (g.atom (p 6 6 25 37) (g.spelled (k.Name (codes "syntax-rules") false))) (g.part (g.list (p 7 8 38 40) g.none) (g.part (g.list (p 9 15 41 50) (g.part (g.list (p 10 13 42 47) (g.part (g.atom (p 11 11 43 44) (g.spelled (k.Name (codes "_") false))) (g.part (g.atom (p 12 12 45 46) (g.spelled (k.Name (codes "a") false))) g.none))) (g.part (g.atom (p 14 14 48 49) (g.spelled (k.Numeral (codes "1")))) g.none))) g.none)))) g.none)))) (g.part (g.list (p 18 22 53 65) (g.part (g.atom (p 19 19 54 60) (g.spelled (k.Name (codes "define") false))) (g.part (g.atom (p 20 20 61 62) (g.spelled (k.Name (codes "x") false))) (g.part (g.atom (p 21 21 63 64) (g.spelled (k.Numeral (codes "1")))) g.none)))) g.none))))) ∷ ((g.list (p 24 28 67 79) (g.part (g.atom (p 25 25 68 74) (g.spelled (k.Name (codes "define") false))) (g.part (g.atom (p 26 26 75 76) (g.spelled (k.Name (codes "x") false))) (g.part (g.atom (p 27 27 77 78) (g.spelled (k.Numeral (codes "2")))) g.none))))) ∷ ((g.list (p 29 32 80 85) (g.part (g.atom (p 30 30 81 82) (g.spelled (k.Name (codes "q") false))) (g.part (g.atom (p 31 31 83 84) (g.spelled (k.Name (codes "x") false))) g.none)))) ∷ [])) ∷ []) (((codes "file:///a.scm"), Some (((g.list (p 0 19 0 56) (g.part (g.atom (p 1 1 1 14) (g.spelled (k.Name (codes "define-syntax") false))) (g.part (g.atom (p 2 2 15 16) (g.spelled (k.Name (codes "q") false))) (g.part (g.list (p 3 18 17 55) (g.part (g.atom (p 4 4 18 30) (g.spelled (k.Name (codes "syntax-rules") false))) (g.part (g.list (p 5 6 31 33) g.none) (g.part (g.list (p 7 17 34 54) (g.part (g.list (p 8 11 35 40) (g.part (g.atom (p 9 9 36 37) (g.spelled (k.Name (codes "_") false))) (g.part (g.atom (p 10 10 38 39) (g.spelled (k.Name (codes "a") false))) g.none))) (g.part (g.list (p 12 16 41 53) (g.part (g.atom (p 13 13 42 48) (g.spelled (k.Name (codes "define") false))) (g.part (g.atom (p 14 14 49 50) (g.spelled (k.Name (codes "a") false))) (g.part (g.atom (p 15 15 51 52) (g.spelled (k.Numeral (codes "1")))) g.none)))) g.none))) g.none)))) g.none))))) ∷ ((g.list (p 20 24 57 69) (g.part (g.atom (p 21 21 58 64) (g.spelled (k.Name (codes "define") false))) (g.part (g.atom (p 22 22 65 66) (g.spelled (k.Name (codes "x") false))) (g.part (g.atom (p 23 23 67 68) (g.spelled (k.Numeral (codes "2")))) g.none))))) ∷ ((g.list (p 25 28 70 75) (g.part (g.atom (p 26 26 71 72) (g.spelled (k.Name (codes "q") false))) (g.part (g.atom (p 27 27 73 74) (g.spelled (k.Name (codes "x") false))) g.none)))) ∷ [])) ∷ []) ≡ ([], 1)
unfolding base_names standard_libraries prelude encode_utf8
smallest_whether_a_definition_is_an_assignment = refl

pub unit_gets_too_large : carried_rows (((codes "file:///a.scm"), Some (((g.list (p 0 39 0 84) (g.part (g.atom (p 1 1 1 14) (g.spelled (k.Name (codes "define-syntax") false))) (g.part (g.atom (p 2 2 15 16) (g.spelled (k.Name (codes "d") false))) (g.part (g.list (p 3 38 17 83) (g.part (g.atom (p 4 4 18 30) (g.spelled (k.Name (codes "syntax-rules") false))) (g.part (g.list (p 5 6 31 33) g.none) (g.part (g.list (p 7 18 34 54) (g.part (g.list (p 8 13 35 43) (g.part (g.atom (p 9 9 36 37) (g.spelled (k.Name (codes "_") false))) (g.part (g.list (p 10 11 38 40) g.none) (g.part (g.atom (p 12 12 41 42) (g.spelled (k.Name (codes "e") false))) g.none)))) (g.part (g.list (p 14 17 44 53) (g.part (g.atom (p 15 15 45 50) (g.spelled (k.Name (codes "quote") false))) (g.part (g.atom (p 16 16 51 52) (g.spelled (k.Name (codes "e") false))) g.none))) g.none))) (g.part (g.list (p 19 37 55 82) (g.part (g.list (p 20 28 56 69) (g.part (g.atom (p 21 21 57 58) (g.spelled (k.Name (codes "_") false))) (g.part (g.list (p 22 26 59 66) (g.part (g.atom (p 23 23 60 61) (g.spelled (k.Name (codes "n") false))) (g.tail (g.atom (p 25 25 64 65) (g.spelled (k.Name (codes "m") false)))))) (g.part (g.atom (p 27 27 67 68) (g.spelled (k.Name (codes "e") false))) g.none)))) (g.part (g.list (p 29 36 70 81) (g.part (g.atom (p 30 30 71 72) (g.spelled (k.Name (codes "d") false))) (g.part (g.atom (p 31 31 73 74) (g.spelled (k.Name (codes "m") false))) (g.part (g.list (p 32 35 75 80) (g.part (g.atom (p 33 33 76 77) (g.spelled (k.Name (codes "e") false))) (g.part (g.atom (p 34 34 78 79) (g.spelled (k.Name (codes "e") false))) g.none))) g.none)))) g.none))) g.none))))) g.none))))) ∷ ((g.list (p 40 61 85 124) (g.part (g.atom (p 41 41 86 87) (g.spelled (k.Name (codes "d") false))) (g.part (g.list (p 42 59 88 121) (g.part (g.atom (p 43 43 89 90) (g.spelled (k.Numeral (codes "1")))) (g.part (g.atom (p 44 44 91 92) (g.spelled (k.Numeral (codes "1")))) (g.part (g.atom (p 45 45 93 94) (g.spelled (k.Numeral (codes "1")))) (g.part (g.atom (p 46 46 95 96) (g.spelled (k.Numeral (codes "1")))) (g.part (g.atom (p 47 47 97 98) (g.spelled (k.Numeral (codes "1")))) (g.part (g.atom (p 48 48 99 100) (g.spelled (k.Numeral (codes "1")))) (g.part (g.atom (p 49 49 101 102) (g.spelled (k.Numeral (codes "1")))) (g.part (g.atom (p 50 50 103 104) (g.spelled (k.Numeral (codes "1")))) (g.part (g.atom (p 51 51 105 106) (g.spelled (k.Numeral (codes "1")))) (g.part (g.atom (p 52 52 107 108) (g.spelled (k.Numeral (codes "1")))) (g.part (g.atom (p 53 53 109 110) (g.spelled (k.Numeral (codes "1")))) (g.part (g.atom (p 54 54 111 112) (g.spelled (k.Numeral (codes "1")))) (g.part (g.atom (p 55 55 113 114) (g.spelled (k.Numeral (codes "1")))) (g.part (g.atom (p 56 56 115 116) (g.spelled (k.Numeral (codes "1")))) (g.part (g.atom (p 57 57 117 118) (g.spelled (k.Numeral (codes "1")))) (g.part (g.atom (p 58 58 119 120) (g.spelled (k.Numeral (codes "1")))) g.none))))))))))))))))) (g.part (g.atom (p 60 60 122 123) (g.spelled (k.Name (codes "x") false))) g.none))))) ∷ ((g.list (p 62 83 125 164) (g.part (g.atom (p 63 63 126 127) (g.spelled (k.Name (codes "d") false))) (g.part (g.list (p 64 81 128 161) (g.part (g.atom (p 65 65 129 130) (g.spelled (k.Numeral (codes "1")))) (g.part (g.atom (p 66 66 131 132) (g.spelled (k.Numeral (codes "1")))) (g.part (g.atom (p 67 67 133 134) (g.spelled (k.Numeral (codes "1")))) (g.part (g.atom (p 68 68 135 136) (g.spelled (k.Numeral (codes "1")))) (g.part (g.atom (p 69 69 137 138) (g.spelled (k.Numeral (codes "1")))) (g.part (g.atom (p 70 70 139 140) (g.spelled (k.Numeral (codes "1")))) (g.part (g.atom (p 71 71 141 142) (g.spelled (k.Numeral (codes "1")))) (g.part (g.atom (p 72 72 143 144) (g.spelled (k.Numeral (codes "1")))) (g.part (g.atom (p 73 73 145 146) (g.spelled (k.Numeral (codes "1")))) (g.part (g.atom (p 74 74 147 148) (g.spelled (k.Numeral (codes "1")))) (g.part (g.atom (p 75 75 149 150) (g.spelled (k.Numeral (codes "1")))) (g.part (g.atom (p 76 76 151 152) (g.spelled (k.Numeral (codes "1")))) (g.part (g.atom (p 77 77 153 154) (g.spelled (k.Numeral (codes "1")))) (g.part (g.atom (p 78 78 155 156) (g.spelled (k.Numeral (codes "1")))) (g.part (g.atom (p 79 79 157 158) (g.spelled (k.Numeral (codes "1")))) (g.part (g.atom (p 80 80 159 160) (g.spelled (k.Numeral (codes "1")))) g.none))))))))))))))))) (g.part (g.atom (p 82 82 162 163) (g.spelled (k.Name (codes "x") false))) g.none))))) ∷ ((g.list (p 84 105 165 204) (g.part (g.atom (p 85 85 166 167) (g.spelled (k.Name (codes "d") false))) (g.part (g.list (p 86 103 168 201) (g.part (g.atom (p 87 87 169 170) (g.spelled (k.Numeral (codes "1")))) (g.part (g.atom (p 88 88 171 172) (g.spelled (k.Numeral (codes "1")))) (g.part (g.atom (p 89 89 173 174) (g.spelled (k.Numeral (codes "1")))) (g.part (g.atom (p 90 90 175 176) (g.spelled (k.Numeral (codes "1")))) (g.part (g.atom (p 91 91 177 178) (g.spelled (k.Numeral (codes "1")))) (g.part (g.atom (p 92 92 179 180) (g.spelled (k.Numeral (codes "1")))) (g.part (g.atom (p 93 93 181 182) (g.spelled (k.Numeral (codes "1")))) (g.part (g.atom (p 94 94 183 184) (g.spelled (k.Numeral (codes "1")))) (g.part (g.atom (p 95 95 185 186) (g.spelled (k.Numeral (codes "1")))) (g.part (g.atom (p 96 96 187 188) (g.spelled (k.Numeral (codes "1")))) (g.part (g.atom (p 97 97 189 190) (g.spelled (k.Numeral (codes "1")))) (g.part (g.atom (p 98 98 191 192) (g.spelled (k.Numeral (codes "1")))) (g.part (g.atom (p 99 99 193 194) (g.spelled (k.Numeral (codes "1")))) (g.part (g.atom (p 100 100 195 196) (g.spelled (k.Numeral (codes "1")))) (g.part (g.atom (p 101 101 197 198) (g.spelled (k.Numeral (codes "1")))) (g.part (g.atom (p 102 102 199 200) (g.spelled (k.Numeral (codes "1")))) g.none))))))))))))))))) (g.part (g.atom (p 104 104 202 203) (g.spelled (k.Name (codes "x") false))) g.none))))) ∷ ((g.list (p 106 115 205 221) (g.part (g.atom (p 107 107 206 210) (g.spelled (k.Name (codes "list") false))) (g.part (g.list (p 108 114 211 220) (g.part (g.atom (p 109 109 212 213) (g.spelled (k.Name (codes "d") false))) (g.part (g.list (p 110 112 214 217) (g.part (g.atom (p 111 111 215 216) (g.spelled (k.Numeral (codes "1")))) g.none)) (g.part (g.atom (p 113 113 218 219) (g.spelled (k.Name (codes "x") false))) g.none)))) g.none)))) ∷ [])) ∷ []) (((codes "file:///a.scm"), Some (((g.list (p 0 39 0 84) (g.part (g.atom (p 1 1 1 14) (g.spelled (k.Name (codes "define-syntax") false))) (g.part (g.atom (p 2 2 15 16) (g.spelled (k.Name (codes "d") false))) (g.part (g.list (p 3 38 17 83) (g.part (g.atom (p 4 4 18 30) (g.spelled (k.Name (codes "syntax-rules") false))) (g.part (g.list (p 5 6 31 33) g.none) (g.part (g.list (p 7 18 34 54) (g.part (g.list (p 8 13 35 43) (g.part (g.atom (p 9 9 36 37) (g.spelled (k.Name (codes "_") false))) (g.part (g.list (p 10 11 38 40) g.none) (g.part (g.atom (p 12 12 41 42) (g.spelled (k.Name (codes "e") false))) g.none)))) (g.part (g.list (p 14 17 44 53) (g.part (g.atom (p 15 15 45 50) (g.spelled (k.Name (codes "quote") false))) (g.part (g.atom (p 16 16 51 52) (g.spelled (k.Name (codes "e") false))) g.none))) g.none))) (g.part (g.list (p 19 37 55 82) (g.part (g.list (p 20 28 56 69) (g.part (g.atom (p 21 21 57 58) (g.spelled (k.Name (codes "_") false))) (g.part (g.list (p 22 26 59 66) (g.part (g.atom (p 23 23 60 61) (g.spelled (k.Name (codes "n") false))) (g.tail (g.atom (p 25 25 64 65) (g.spelled (k.Name (codes "m") false)))))) (g.part (g.atom (p 27 27 67 68) (g.spelled (k.Name (codes "e") false))) g.none)))) (g.part (g.list (p 29 36 70 81) (g.part (g.atom (p 30 30 71 72) (g.spelled (k.Name (codes "d") false))) (g.part (g.atom (p 31 31 73 74) (g.spelled (k.Name (codes "m") false))) (g.part (g.list (p 32 35 75 80) (g.part (g.atom (p 33 33 76 77) (g.spelled (k.Name (codes "e") false))) (g.part (g.atom (p 34 34 78 79) (g.spelled (k.Name (codes "e") false))) g.none))) g.none)))) g.none))) g.none))))) g.none))))) ∷ ((g.list (p 40 61 85 124) (g.part (g.atom (p 41 41 86 87) (g.spelled (k.Name (codes "d") false))) (g.part (g.list (p 42 59 88 121) (g.part (g.atom (p 43 43 89 90) (g.spelled (k.Numeral (codes "1")))) (g.part (g.atom (p 44 44 91 92) (g.spelled (k.Numeral (codes "1")))) (g.part (g.atom (p 45 45 93 94) (g.spelled (k.Numeral (codes "1")))) (g.part (g.atom (p 46 46 95 96) (g.spelled (k.Numeral (codes "1")))) (g.part (g.atom (p 47 47 97 98) (g.spelled (k.Numeral (codes "1")))) (g.part (g.atom (p 48 48 99 100) (g.spelled (k.Numeral (codes "1")))) (g.part (g.atom (p 49 49 101 102) (g.spelled (k.Numeral (codes "1")))) (g.part (g.atom (p 50 50 103 104) (g.spelled (k.Numeral (codes "1")))) (g.part (g.atom (p 51 51 105 106) (g.spelled (k.Numeral (codes "1")))) (g.part (g.atom (p 52 52 107 108) (g.spelled (k.Numeral (codes "1")))) (g.part (g.atom (p 53 53 109 110) (g.spelled (k.Numeral (codes "1")))) (g.part (g.atom (p 54 54 111 112) (g.spelled (k.Numeral (codes "1")))) (g.part (g.atom (p 55 55 113 114) (g.spelled (k.Numeral (codes "1")))) (g.part (g.atom (p 56 56 115 116) (g.spelled (k.Numeral (codes "1")))) (g.part (g.atom (p 57 57 117 118) (g.spelled (k.Numeral (codes "1")))) (g.part (g.atom (p 58 58 119 120) (g.spelled (k.Numeral (codes "1")))) g.none))))))))))))))))) (g.part (g.atom (p 60 60 122 123) (g.spelled (k.Name (codes "x") false))) g.none))))) ∷ ((g.list (p 62 83 125 164) (g.part (g.atom (p 63 63 126 127) (g.spelled (k.Name (codes "d") false))) (g.part (g.list (p 64 81 128 161) (g.part (g.atom (p 65 65 129 130) (g.spelled (k.Numeral (codes "1")))) (g.part (g.atom (p 66 66 131 132) (g.spelled (k.Numeral (codes "1")))) (g.part (g.atom (p 67 67 133 134) (g.spelled (k.Numeral (codes "1")))) (g.part (g.atom (p 68 68 135 136) (g.spelled (k.Numeral (codes "1")))) (g.part (g.atom (p 69 69 137 138) (g.spelled (k.Numeral (codes "1")))) (g.part (g.atom (p 70 70 139 140) (g.spelled (k.Numeral (codes "1")))) (g.part (g.atom (p 71 71 141 142) (g.spelled (k.Numeral (codes "1")))) (g.part (g.atom (p 72 72 143 144) (g.spelled (k.Numeral (codes "1")))) (g.part (g.atom (p 73 73 145 146) (g.spelled (k.Numeral (codes "1")))) (g.part (g.atom (p 74 74 147 148) (g.spelled (k.Numeral (codes "1")))) (g.part (g.atom (p 75 75 149 150) (g.spelled (k.Numeral (codes "1")))) (g.part (g.atom (p 76 76 151 152) (g.spelled (k.Numeral (codes "1")))) (g.part (g.atom (p 77 77 153 154) (g.spelled (k.Numeral (codes "1")))) (g.part (g.atom (p 78 78 155 156) (g.spelled (k.Numeral (codes "1")))) (g.part (g.atom (p 79 79 157 158) (g.spelled (k.Numeral (codes "1")))) (g.part (g.atom (p 80 80 159 160) (g.spelled (k.Numeral (codes "1")))) g.none))))))))))))))))) (g.part (g.atom (p 82 82 162 163) (g.spelled (k.Name (codes "x") false))) g.none))))) ∷ ((g.list (p 84 105 165 204) (g.part (g.atom (p 85 85 166 167) (g.spelled (k.Name (codes "d") false))) (g.part (g.list (p 86 103 168 201) (g.part (g.atom (p 87 87 169 170) (g.spelled (k.Numeral (codes "1")))) (g.part (g.atom (p 88 88 171 172) (g.spelled (k.Numeral (codes "1")))) (g.part (g.atom (p 89 89 173 174) (g.spelled (k.Numeral (codes "1")))) (g.part (g.atom (p 90 90 175 176) (g.spelled (k.Numeral (codes "1")))) (g.part (g.atom (p 91 91 177 178) (g.spelled (k.Numeral (codes "1")))) (g.part (g.atom (p 92 92 179 180) (g.spelled (k.Numeral (codes "1")))) (g.part (g.atom (p 93 93 181 182) (g.spelled (k.Numeral (codes "1")))) (g.part (g.atom (p 94 94 183 184) (g.spelled (k.Numeral (codes "1")))) (g.part (g.atom (p 95 95 185 186) (g.spelled (k.Numeral (codes "1")))) (g.part (g.atom (p 96 96 187 188) (g.spelled (k.Numeral (codes "1")))) (g.part (g.atom (p 97 97 189 190) (g.spelled (k.Numeral (codes "1")))) (g.part (g.atom (p 98 98 191 192) (g.spelled (k.Numeral (codes "1")))) (g.part (g.atom (p 99 99 193 194) (g.spelled (k.Numeral (codes "1")))) (g.part (g.atom (p 100 100 195 196) (g.spelled (k.Numeral (codes "1")))) (g.part (g.atom (p 101 101 197 198) (g.spelled (k.Numeral (codes "1")))) (g.part (g.atom (p 102 102 199 200) (g.spelled (k.Numeral (codes "1")))) g.none))))))))))))))))) (g.part (g.atom (p 104 104 202 203) (g.spelled (k.Name (codes "x") false))) g.none))))) ∷ ((g.list (p 106 127 205 244) (g.part (g.atom (p 107 107 206 207) (g.spelled (k.Name (codes "d") false))) (g.part (g.list (p 108 125 208 241) (g.part (g.atom (p 109 109 209 210) (g.spelled (k.Numeral (codes "1")))) (g.part (g.atom (p 110 110 211 212) (g.spelled (k.Numeral (codes "1")))) (g.part (g.atom (p 111 111 213 214) (g.spelled (k.Numeral (codes "1")))) (g.part (g.atom (p 112 112 215 216) (g.spelled (k.Numeral (codes "1")))) (g.part (g.atom (p 113 113 217 218) (g.spelled (k.Numeral (codes "1")))) (g.part (g.atom (p 114 114 219 220) (g.spelled (k.Numeral (codes "1")))) (g.part (g.atom (p 115 115 221 222) (g.spelled (k.Numeral (codes "1")))) (g.part (g.atom (p 116 116 223 224) (g.spelled (k.Numeral (codes "1")))) (g.part (g.atom (p 117 117 225 226) (g.spelled (k.Numeral (codes "1")))) (g.part (g.atom (p 118 118 227 228) (g.spelled (k.Numeral (codes "1")))) (g.part (g.atom (p 119 119 229 230) (g.spelled (k.Numeral (codes "1")))) (g.part (g.atom (p 120 120 231 232) (g.spelled (k.Numeral (codes "1")))) (g.part (g.atom (p 121 121 233 234) (g.spelled (k.Numeral (codes "1")))) (g.part (g.atom (p 122 122 235 236) (g.spelled (k.Numeral (codes "1")))) (g.part (g.atom (p 123 123 237 238) (g.spelled (k.Numeral (codes "1")))) (g.part (g.atom (p 124 124 239 240) (g.spelled (k.Numeral (codes "1")))) g.none))))))))))))))))) (g.part (g.atom (p 126 126 242 243) (g.spelled (k.Name (codes "x") false))) g.none))))) ∷ ((g.list (p 128 137 245 261) (g.part (g.atom (p 129 129 246 250) (g.spelled (k.Name (codes "list") false))) (g.part (g.list (p 130 136 251 260) (g.part (g.atom (p 131 131 252 253) (g.spelled (k.Name (codes "d") false))) (g.part (g.list (p 132 134 254 257) (g.part (g.atom (p 133 133 255 256) (g.spelled (k.Numeral (codes "1")))) g.none)) (g.part (g.atom (p 135 135 258 259) (g.spelled (k.Name (codes "x") false))) g.none)))) g.none)))) ∷ [])) ∷ []) ≡ ([], 68)
unfolding base_names standard_libraries prelude encode_utf8
unit_gets_too_large = refl

pub unit_was_too_large : carried_rows (((codes "file:///a.scm"), Some (((g.list (p 0 39 0 84) (g.part (g.atom (p 1 1 1 14) (g.spelled (k.Name (codes "define-syntax") false))) (g.part (g.atom (p 2 2 15 16) (g.spelled (k.Name (codes "d") false))) (g.part (g.list (p 3 38 17 83) (g.part (g.atom (p 4 4 18 30) (g.spelled (k.Name (codes "syntax-rules") false))) (g.part (g.list (p 5 6 31 33) g.none) (g.part (g.list (p 7 18 34 54) (g.part (g.list (p 8 13 35 43) (g.part (g.atom (p 9 9 36 37) (g.spelled (k.Name (codes "_") false))) (g.part (g.list (p 10 11 38 40) g.none) (g.part (g.atom (p 12 12 41 42) (g.spelled (k.Name (codes "e") false))) g.none)))) (g.part (g.list (p 14 17 44 53) (g.part (g.atom (p 15 15 45 50) (g.spelled (k.Name (codes "quote") false))) (g.part (g.atom (p 16 16 51 52) (g.spelled (k.Name (codes "e") false))) g.none))) g.none))) (g.part (g.list (p 19 37 55 82) (g.part (g.list (p 20 28 56 69) (g.part (g.atom (p 21 21 57 58) (g.spelled (k.Name (codes "_") false))) (g.part (g.list (p 22 26 59 66) (g.part (g.atom (p 23 23 60 61) (g.spelled (k.Name (codes "n") false))) (g.tail (g.atom (p 25 25 64 65) (g.spelled (k.Name (codes "m") false)))))) (g.part (g.atom (p 27 27 67 68) (g.spelled (k.Name (codes "e") false))) g.none)))) (g.part (g.list (p 29 36 70 81) (g.part (g.atom (p 30 30 71 72) (g.spelled (k.Name (codes "d") false))) (g.part (g.atom (p 31 31 73 74) (g.spelled (k.Name (codes "m") false))) (g.part (g.list (p 32 35 75 80) (g.part (g.atom (p 33 33 76 77) (g.spelled (k.Name (codes "e") false))) (g.part (g.atom (p 34 34 78 79) (g.spelled (k.Name (codes "e") false))) g.none))) g.none)))) g.none))) g.none))))) g.none))))) ∷ ((g.list (p 40 61 85 124) (g.part (g.atom (p 41 41 86 87) (g.spelled (k.Name (codes "d") false))) (g.part (g.list (p 42 59 88 121) (g.part (g.atom (p 43 43 89 90) (g.spelled (k.Numeral (codes "1")))) (g.part (g.atom (p 44 44 91 92) (g.spelled (k.Numeral (codes "1")))) (g.part (g.atom (p 45 45 93 94) (g.spelled (k.Numeral (codes "1")))) (g.part (g.atom (p 46 46 95 96) (g.spelled (k.Numeral (codes "1")))) (g.part (g.atom (p 47 47 97 98) (g.spelled (k.Numeral (codes "1")))) (g.part (g.atom (p 48 48 99 100) (g.spelled (k.Numeral (codes "1")))) (g.part (g.atom (p 49 49 101 102) (g.spelled (k.Numeral (codes "1")))) (g.part (g.atom (p 50 50 103 104) (g.spelled (k.Numeral (codes "1")))) (g.part (g.atom (p 51 51 105 106) (g.spelled (k.Numeral (codes "1")))) (g.part (g.atom (p 52 52 107 108) (g.spelled (k.Numeral (codes "1")))) (g.part (g.atom (p 53 53 109 110) (g.spelled (k.Numeral (codes "1")))) (g.part (g.atom (p 54 54 111 112) (g.spelled (k.Numeral (codes "1")))) (g.part (g.atom (p 55 55 113 114) (g.spelled (k.Numeral (codes "1")))) (g.part (g.atom (p 56 56 115 116) (g.spelled (k.Numeral (codes "1")))) (g.part (g.atom (p 57 57 117 118) (g.spelled (k.Numeral (codes "1")))) (g.part (g.atom (p 58 58 119 120) (g.spelled (k.Numeral (codes "1")))) g.none))))))))))))))))) (g.part (g.atom (p 60 60 122 123) (g.spelled (k.Name (codes "x") false))) g.none))))) ∷ ((g.list (p 62 83 125 164) (g.part (g.atom (p 63 63 126 127) (g.spelled (k.Name (codes "d") false))) (g.part (g.list (p 64 81 128 161) (g.part (g.atom (p 65 65 129 130) (g.spelled (k.Numeral (codes "1")))) (g.part (g.atom (p 66 66 131 132) (g.spelled (k.Numeral (codes "1")))) (g.part (g.atom (p 67 67 133 134) (g.spelled (k.Numeral (codes "1")))) (g.part (g.atom (p 68 68 135 136) (g.spelled (k.Numeral (codes "1")))) (g.part (g.atom (p 69 69 137 138) (g.spelled (k.Numeral (codes "1")))) (g.part (g.atom (p 70 70 139 140) (g.spelled (k.Numeral (codes "1")))) (g.part (g.atom (p 71 71 141 142) (g.spelled (k.Numeral (codes "1")))) (g.part (g.atom (p 72 72 143 144) (g.spelled (k.Numeral (codes "1")))) (g.part (g.atom (p 73 73 145 146) (g.spelled (k.Numeral (codes "1")))) (g.part (g.atom (p 74 74 147 148) (g.spelled (k.Numeral (codes "1")))) (g.part (g.atom (p 75 75 149 150) (g.spelled (k.Numeral (codes "1")))) (g.part (g.atom (p 76 76 151 152) (g.spelled (k.Numeral (codes "1")))) (g.part (g.atom (p 77 77 153 154) (g.spelled (k.Numeral (codes "1")))) (g.part (g.atom (p 78 78 155 156) (g.spelled (k.Numeral (codes "1")))) (g.part (g.atom (p 79 79 157 158) (g.spelled (k.Numeral (codes "1")))) (g.part (g.atom (p 80 80 159 160) (g.spelled (k.Numeral (codes "1")))) g.none))))))))))))))))) (g.part (g.atom (p 82 82 162 163) (g.spelled (k.Name (codes "x") false))) g.none))))) ∷ ((g.list (p 84 105 165 204) (g.part (g.atom (p 85 85 166 167) (g.spelled (k.Name (codes "d") false))) (g.part (g.list (p 86 103 168 201) (g.part (g.atom (p 87 87 169 170) (g.spelled (k.Numeral (codes "1")))) (g.part (g.atom (p 88 88 171 172) (g.spelled (k.Numeral (codes "1")))) (g.part (g.atom (p 89 89 173 174) (g.spelled (k.Numeral (codes "1")))) (g.part (g.atom (p 90 90 175 176) (g.spelled (k.Numeral (codes "1")))) (g.part (g.atom (p 91 91 177 178) (g.spelled (k.Numeral (codes "1")))) (g.part (g.atom (p 92 92 179 180) (g.spelled (k.Numeral (codes "1")))) (g.part (g.atom (p 93 93 181 182) (g.spelled (k.Numeral (codes "1")))) (g.part (g.atom (p 94 94 183 184) (g.spelled (k.Numeral (codes "1")))) (g.part (g.atom (p 95 95 185 186) (g.spelled (k.Numeral (codes "1")))) (g.part (g.atom (p 96 96 187 188) (g.spelled (k.Numeral (codes "1")))) (g.part (g.atom (p 97 97 189 190) (g.spelled (k.Numeral (codes "1")))) (g.part (g.atom (p 98 98 191 192) (g.spelled (k.Numeral (codes "1")))) (g.part (g.atom (p 99 99 193 194) (g.spelled (k.Numeral (codes "1")))) (g.part (g.atom (p 100 100 195 196) (g.spelled (k.Numeral (codes "1")))) (g.part (g.atom (p 101 101 197 198) (g.spelled (k.Numeral (codes "1")))) (g.part (g.atom (p 102 102 199 200) (g.spelled (k.Numeral (codes "1")))) g.none))))))))))))))))) (g.part (g.atom (p 104 104 202 203) (g.spelled (k.Name (codes "x") false))) g.none))))) ∷ ((g.list (p 106 127 205 244) (g.part (g.atom (p 107 107 206 207) (g.spelled (k.Name (codes "d") false))) (g.part (g.list (p 108 125 208 241) (g.part (g.atom (p 109 109 209 210) (g.spelled (k.Numeral (codes "1")))) (g.part (g.atom (p 110 110 211 212) (g.spelled (k.Numeral (codes "1")))) (g.part (g.atom (p 111 111 213 214) (g.spelled (k.Numeral (codes "1")))) (g.part (g.atom (p 112 112 215 216) (g.spelled (k.Numeral (codes "1")))) (g.part (g.atom (p 113 113 217 218) (g.spelled (k.Numeral (codes "1")))) (g.part (g.atom (p 114 114 219 220) (g.spelled (k.Numeral (codes "1")))) (g.part (g.atom (p 115 115 221 222) (g.spelled (k.Numeral (codes "1")))) (g.part (g.atom (p 116 116 223 224) (g.spelled (k.Numeral (codes "1")))) (g.part (g.atom (p 117 117 225 226) (g.spelled (k.Numeral (codes "1")))) (g.part (g.atom (p 118 118 227 228) (g.spelled (k.Numeral (codes "1")))) (g.part (g.atom (p 119 119 229 230) (g.spelled (k.Numeral (codes "1")))) (g.part (g.atom (p 120 120 231 232) (g.spelled (k.Numeral (codes "1")))) (g.part (g.atom (p 121 121 233 234) (g.spelled (k.Numeral (codes "1")))) (g.part (g.atom (p 122 122 235 236) (g.spelled (k.Numeral (codes "1")))) (g.part (g.atom (p 123 123 237 238) (g.spelled (k.Numeral (codes "1")))) (g.part (g.atom (p 124 124 239 240) (g.spelled (k.Numeral (codes "1")))) g.none))))))))))))))))) (g.part (g.atom (p 126 126 242 243) (g.spelled (k.Name (codes "x") false))) g.none))))) ∷ ((g.list (p 128 137 245 261) (g.part (g.atom (p 129 129 246 250) (g.spelled (k.Name (codes "list") false))) (g.part (g.list (p 130 136 251 260) (g.part (g.atom (p 131 131 252 253) (g.spelled (k.Name (codes "d") false))) (g.part (g.list (p 132 134 254 257) (g.part (g.atom (p 133 133 255 256) (g.spelled (k.Numeral (codes "1")))) g.none)) (g.part (g.atom (p 135 135 258 259) (g.spelled (k.Name (codes "x") false))) g.none)))) g.none)))) ∷ [])) ∷ []) (((codes "file:///a.scm"), Some (((g.list (p 0 39 0 84) (g.part (g.atom (p 1 1 1 14) (g.spelled (k.Name (codes "define-syntax") false))) (g.part (g.atom (p 2 2 15 16) (g.spelled (k.Name (codes "d") false))) (g.part (g.list (p 3 38 17 83) (g.part (g.atom (p 4 4 18 30) (g.spelled (k.Name (codes "syntax-rules") false))) (g.part (g.list (p 5 6 31 33) g.none) (g.part (g.list (p 7 18 34 54) (g.part (g.list (p 8 13 35 43) (g.part (g.atom (p 9 9 36 37) (g.spelled (k.Name (codes "_") false))) (g.part (g.list (p 10 11 38 40) g.none) (g.part (g.atom (p 12 12 41 42) (g.spelled (k.Name (codes "e") false))) g.none)))) (g.part (g.list (p 14 17 44 53) (g.part (g.atom (p 15 15 45 50) (g.spelled (k.Name (codes "quote") false))) (g.part (g.atom (p 16 16 51 52) (g.spelled (k.Name (codes "e") false))) g.none))) g.none))) (g.part (g.list (p 19 37 55 82) (g.part (g.list (p 20 28 56 69) (g.part (g.atom (p 21 21 57 58) (g.spelled (k.Name (codes "_") false))) (g.part (g.list (p 22 26 59 66) (g.part (g.atom (p 23 23 60 61) (g.spelled (k.Name (codes "n") false))) (g.tail (g.atom (p 25 25 64 65) (g.spelled (k.Name (codes "m") false)))))) (g.part (g.atom (p 27 27 67 68) (g.spelled (k.Name (codes "e") false))) g.none)))) (g.part (g.list (p 29 36 70 81) (g.part (g.atom (p 30 30 71 72) (g.spelled (k.Name (codes "d") false))) (g.part (g.atom (p 31 31 73 74) (g.spelled (k.Name (codes "m") false))) (g.part (g.list (p 32 35 75 80) (g.part (g.atom (p 33 33 76 77) (g.spelled (k.Name (codes "e") false))) (g.part (g.atom (p 34 34 78 79) (g.spelled (k.Name (codes "e") false))) g.none))) g.none)))) g.none))) g.none))))) g.none))))) ∷ ((g.list (p 40 61 85 124) (g.part (g.atom (p 41 41 86 87) (g.spelled (k.Name (codes "d") false))) (g.part (g.list (p 42 59 88 121) (g.part (g.atom (p 43 43 89 90) (g.spelled (k.Numeral (codes "1")))) (g.part (g.atom (p 44 44 91 92) (g.spelled (k.Numeral (codes "1")))) (g.part (g.atom (p 45 45 93 94) (g.spelled (k.Numeral (codes "1")))) (g.part (g.atom (p 46 46 95 96) (g.spelled (k.Numeral (codes "1")))) (g.part (g.atom (p 47 47 97 98) (g.spelled (k.Numeral (codes "1")))) (g.part (g.atom (p 48 48 99 100) (g.spelled (k.Numeral (codes "1")))) (g.part (g.atom (p 49 49 101 102) (g.spelled (k.Numeral (codes "1")))) (g.part (g.atom (p 50 50 103 104) (g.spelled (k.Numeral (codes "1")))) (g.part (g.atom (p 51 51 105 106) (g.spelled (k.Numeral (codes "1")))) (g.part (g.atom (p 52 52 107 108) (g.spelled (k.Numeral (codes "1")))) (g.part (g.atom (p 53 53 109 110) (g.spelled (k.Numeral (codes "1")))) (g.part (g.atom (p 54 54 111 112) (g.spelled (k.Numeral (codes "1")))) (g.part (g.atom (p 55 55 113 114) (g.spelled (k.Numeral (codes "1")))) (g.part (g.atom (p 56 56 115 116) (g.spelled (k.Numeral (codes "1")))) (g.part (g.atom (p 57 57 117 118) (g.spelled (k.Numeral (codes "1")))) (g.part (g.atom (p 58 58 119 120) (g.spelled (k.Numeral (codes "1")))) g.none))))))))))))))))) (g.part (g.atom (p 60 60 122 123) (g.spelled (k.Name (codes "x") false))) g.none))))) ∷ ((g.list (p 62 83 125 164) (g.part (g.atom (p 63 63 126 127) (g.spelled (k.Name (codes "d") false))) (g.part (g.list (p 64 81 128 161) (g.part (g.atom (p 65 65 129 130) (g.spelled (k.Numeral (codes "1")))) (g.part (g.atom (p 66 66 131 132) (g.spelled (k.Numeral (codes "1")))) (g.part (g.atom (p 67 67 133 134) (g.spelled (k.Numeral (codes "1")))) (g.part (g.atom (p 68 68 135 136) (g.spelled (k.Numeral (codes "1")))) (g.part (g.atom (p 69 69 137 138) (g.spelled (k.Numeral (codes "1")))) (g.part (g.atom (p 70 70 139 140) (g.spelled (k.Numeral (codes "1")))) (g.part (g.atom (p 71 71 141 142) (g.spelled (k.Numeral (codes "1")))) (g.part (g.atom (p 72 72 143 144) (g.spelled (k.Numeral (codes "1")))) (g.part (g.atom (p 73 73 145 146) (g.spelled (k.Numeral (codes "1")))) (g.part (g.atom (p 74 74 147 148) (g.spelled (k.Numeral (codes "1")))) (g.part (g.atom (p 75 75 149 150) (g.spelled (k.Numeral (codes "1")))) (g.part (g.atom (p 76 76 151 152) (g.spelled (k.Numeral (codes "1")))) (g.part (g.atom (p 77 77 153 154) (g.spelled (k.Numeral (codes "1")))) (g.part (g.atom (p 78 78 155 156) (g.spelled (k.Numeral (codes "1")))) (g.part (g.atom (p 79 79 157 158) (g.spelled (k.Numeral (codes "1")))) (g.part (g.atom (p 80 80 159 160) (g.spelled (k.Numeral (codes "1")))) g.none))))))))))))))))) (g.part (g.atom (p 82 82 162 163) (g.spelled (k.Name (codes "x") false))) g.none))))) ∷ ((g.list (p 84 105 165 204) (g.part (g.atom (p 85 85 166 167) (g.spelled (k.Name (codes "d") false))) (g.part (g.list (p 86 103 168 201) (g.part (g.atom (p 87 87 169 170) (g.spelled (k.Numeral (codes "1")))) (g.part (g.atom (p 88 88 171 172) (g.spelled (k.Numeral (codes "1")))) (g.part (g.atom (p 89 89 173 174) (g.spelled (k.Numeral (codes "1")))) (g.part (g.atom (p 90 90 175 176) (g.spelled (k.Numeral (codes "1")))) (g.part (g.atom (p 91 91 177 178) (g.spelled (k.Numeral (codes "1")))) (g.part (g.atom (p 92 92 179 180) (g.spelled (k.Numeral (codes "1")))) (g.part (g.atom (p 93 93 181 182) (g.spelled (k.Numeral (codes "1")))) (g.part (g.atom (p 94 94 183 184) (g.spelled (k.Numeral (codes "1")))) (g.part (g.atom (p 95 95 185 186) (g.spelled (k.Numeral (codes "1")))) (g.part (g.atom (p 96 96 187 188) (g.spelled (k.Numeral (codes "1")))) (g.part (g.atom (p 97 97 189 190) (g.spelled (k.Numeral (codes "1")))) (g.part (g.atom (p 98 98 191 192) (g.spelled (k.Numeral (codes "1")))) (g.part (g.atom (p 99 99 193 194) (g.spelled (k.Numeral (codes "1")))) (g.part (g.atom (p 100 100 195 196) (g.spelled (k.Numeral (codes "1")))) (g.part (g.atom (p 101 101 197 198) (g.spelled (k.Numeral (codes "1")))) (g.part (g.atom (p 102 102 199 200) (g.spelled (k.Numeral (codes "1")))) g.none))))))))))))))))) (g.part (g.atom (p 104 104 202 203) (g.spelled (k.Name (codes "x") false))) g.none))))) ∷ ((g.list (p 106 115 205 221) (g.part (g.atom (p 107 107 206 210) (g.spelled (k.Name (codes "list") false))) (g.part (g.list (p 108 114 211 220) (g.part (g.atom (p 109 109 212 213) (g.spelled (k.Name (codes "d") false))) (g.part (g.list (p 110 112 214 217) (g.part (g.atom (p 111 111 215 216) (g.spelled (k.Numeral (codes "1")))) g.none)) (g.part (g.atom (p 113 113 218 219) (g.spelled (k.Name (codes "x") false))) g.none)))) g.none)))) ∷ [])) ∷ []) ≡ ([], 53)
unfolding base_names standard_libraries prelude encode_utf8
unit_was_too_large = refl

pub unit_is_pushed_behind_the_most : carried_rows (((codes "file:///a.sld"), Some (((g.list (p 0 2 0 16) (g.part (g.atom (p 1 1 1 15) (g.spelled (k.Name (codes "define-library") false))) g.none))) ∷ ((g.list (p 3 5 17 33) (g.part (g.atom (p 4 4 18 32) (g.spelled (k.Name (codes "define-library") false))) g.none))) ∷ ((g.list (p 6 8 34 50) (g.part (g.atom (p 7 7 35 49) (g.spelled (k.Name (codes "define-library") false))) g.none))) ∷ ((g.list (p 9 11 51 67) (g.part (g.atom (p 10 10 52 66) (g.spelled (k.Name (codes "define-library") false))) g.none))) ∷ ((g.list (p 12 14 68 84) (g.part (g.atom (p 13 13 69 83) (g.spelled (k.Name (codes "define-library") false))) g.none))) ∷ ((g.list (p 15 17 85 101) (g.part (g.atom (p 16 16 86 100) (g.spelled (k.Name (codes "define-library") false))) g.none))) ∷ ((g.list (p 18 20 102 118) (g.part (g.atom (p 19 19 103 117) (g.spelled (k.Name (codes "define-library") false))) g.none))) ∷ ((g.list (p 21 23 119 135) (g.part (g.atom (p 22 22 120 134) (g.spelled (k.Name (codes "define-library") false))) g.none))) ∷ ((g.list (p 24 26 136 152) (g.part (g.atom (p 25 25 137 151) (g.spelled (k.Name (codes "define-library") false))) g.none))) ∷ ((g.list (p 27 29 153 169) (g.part (g.atom (p 28 28 154 168) (g.spelled (k.Name (codes "define-library") false))) g.none))) ∷ ((g.list (p 30 32 170 186) (g.part (g.atom (p 31 31 171 185) (g.spelled (k.Name (codes "define-library") false))) g.none))) ∷ ((g.list (p 33 35 187 203) (g.part (g.atom (p 34 34 188 202) (g.spelled (k.Name (codes "define-library") false))) g.none))) ∷ ((g.list (p 36 38 204 220) (g.part (g.atom (p 37 37 205 219) (g.spelled (k.Name (codes "define-library") false))) g.none))) ∷ ((g.list (p 39 41 221 237) (g.part (g.atom (p 40 40 222 236) (g.spelled (k.Name (codes "define-library") false))) g.none))) ∷ ((g.list (p 42 44 238 254) (g.part (g.atom (p 43 43 239 253) (g.spelled (k.Name (codes "define-library") false))) g.none))) ∷ ((g.list (p 45 47 255 271) (g.part (g.atom (p 46 46 256 270) (g.spelled (k.Name (codes "define-library") false))) g.none))) ∷ ((g.list (p 48 50 272 288) (g.part (g.atom (p 49 49 273 287) (g.spelled (k.Name (codes "define-library") false))) g.none))) ∷ ((g.list (p 51 53 289 305) (g.part (g.atom (p 52 52 290 304) (g.spelled (k.Name (codes "define-library") false))) g.none))) ∷ ((g.list (p 54 56 306 322) (g.part (g.atom (p 55 55 307 321) (g.spelled (k.Name (codes "define-library") false))) g.none))) ∷ ((g.list (p 57 59 323 339) (g.part (g.atom (p 58 58 324 338) (g.spelled (k.Name (codes "define-library") false))) g.none))) ∷ ((g.list (p 60 62 340 356) (g.part (g.atom (p 61 61 341 355) (g.spelled (k.Name (codes "define-library") false))) g.none))) ∷ ((g.list (p 63 65 357 373) (g.part (g.atom (p 64 64 358 372) (g.spelled (k.Name (codes "define-library") false))) g.none))) ∷ ((g.list (p 66 68 374 390) (g.part (g.atom (p 67 67 375 389) (g.spelled (k.Name (codes "define-library") false))) g.none))) ∷ ((g.list (p 69 71 391 407) (g.part (g.atom (p 70 70 392 406) (g.spelled (k.Name (codes "define-library") false))) g.none))) ∷ ((g.list (p 72 74 408 424) (g.part (g.atom (p 73 73 409 423) (g.spelled (k.Name (codes "define-library") false))) g.none))) ∷ ((g.list (p 75 77 425 441) (g.part (g.atom (p 76 76 426 440) (g.spelled (k.Name (codes "define-library") false))) g.none))) ∷ ((g.list (p 78 80 442 458) (g.part (g.atom (p 79 79 443 457) (g.spelled (k.Name (codes "define-library") false))) g.none))) ∷ ((g.list (p 81 83 459 475) (g.part (g.atom (p 82 82 460 474) (g.spelled (k.Name (codes "define-library") false))) g.none))) ∷ ((g.list (p 84 86 476 492) (g.part (g.atom (p 85 85 477 491) (g.spelled (k.Name (codes "define-library") false))) g.none))) ∷ ((g.list (p 87 89 493 509) (g.part (g.atom (p 88 88 494 508) (g.spelled (k.Name (codes "define-library") false))) g.none))) ∷ ((g.list (p 90 92 510 526) (g.part (g.atom (p 91 91 511 525) (g.spelled (k.Name (codes "define-library") false))) g.none))) ∷ ((g.list (p 93 95 527 543) (g.part (g.atom (p 94 94 528 542) (g.spelled (k.Name (codes "define-library") false))) g.none))) ∷ ((g.list (p 96 98 544 560) (g.part (g.atom (p 97 97 545 559) (g.spelled (k.Name (codes "define-library") false))) g.none))) ∷ ((g.list (p 99 101 561 577) (g.part (g.atom (p 100 100 562 576) (g.spelled (k.Name (codes "define-library") false))) g.none))) ∷ ((g.list (p 102 104 578 594) (g.part (g.atom (p 103 103 579 593) (g.spelled (k.Name (codes "define-library") false))) g.none))) ∷ ((g.list (p 105 107 595 611) (g.part (g.atom (p 106 106 596 610) (g.spelled (k.Name (codes "define-library") false))) g.none))) ∷ ((g.list (p 108 110 612 628) (g.part (g.atom (p 109 109 613 627) (g.spelled (k.Name (codes "define-library") false))) g.none))) ∷ ((g.list (p 111 113 629 645) (g.part (g.atom (p 112 112 630 644) (g.spelled (k.Name (codes "define-library") false))) g.none))) ∷ ((g.list (p 114 116 646 662) (g.part (g.atom (p 115 115 647 661) (g.spelled (k.Name (codes "define-library") false))) g.none))) ∷ ((g.list (p 117 119 663 679) (g.part (g.atom (p 118 118 664 678) (g.spelled (k.Name (codes "define-library") false))) g.none))) ∷ ((g.list (p 120 122 680 696) (g.part (g.atom (p 121 121 681 695) (g.spelled (k.Name (codes "define-library") false))) g.none))) ∷ ((g.list (p 123 125 697 713) (g.part (g.atom (p 124 124 698 712) (g.spelled (k.Name (codes "define-library") false))) g.none))) ∷ ((g.list (p 126 128 714 730) (g.part (g.atom (p 127 127 715 729) (g.spelled (k.Name (codes "define-library") false))) g.none))) ∷ ((g.list (p 129 131 731 747) (g.part (g.atom (p 130 130 732 746) (g.spelled (k.Name (codes "define-library") false))) g.none))) ∷ ((g.list (p 132 134 748 764) (g.part (g.atom (p 133 133 749 763) (g.spelled (k.Name (codes "define-library") false))) g.none))) ∷ ((g.list (p 135 137 765 781) (g.part (g.atom (p 136 136 766 780) (g.spelled (k.Name (codes "define-library") false))) g.none))) ∷ ((g.list (p 138 140 782 798) (g.part (g.atom (p 139 139 783 797) (g.spelled (k.Name (codes "define-library") false))) g.none))) ∷ ((g.list (p 141 143 799 815) (g.part (g.atom (p 142 142 800 814) (g.spelled (k.Name (codes "define-library") false))) g.none))) ∷ ((g.list (p 144 146 816 832) (g.part (g.atom (p 145 145 817 831) (g.spelled (k.Name (codes "define-library") false))) g.none))) ∷ ((g.list (p 147 149 833 849) (g.part (g.atom (p 148 148 834 848) (g.spelled (k.Name (codes "define-library") false))) g.none))) ∷ ((g.list (p 150 152 850 866) (g.part (g.atom (p 151 151 851 865) (g.spelled (k.Name (codes "define-library") false))) g.none))) ∷ ((g.list (p 153 155 867 883) (g.part (g.atom (p 154 154 868 882) (g.spelled (k.Name (codes "define-library") false))) g.none))) ∷ ((g.list (p 156 158 884 900) (g.part (g.atom (p 157 157 885 899) (g.spelled (k.Name (codes "define-library") false))) g.none))) ∷ ((g.list (p 159 161 901 917) (g.part (g.atom (p 160 160 902 916) (g.spelled (k.Name (codes "define-library") false))) g.none))) ∷ ((g.list (p 162 164 918 934) (g.part (g.atom (p 163 163 919 933) (g.spelled (k.Name (codes "define-library") false))) g.none))) ∷ ((g.list (p 165 167 935 951) (g.part (g.atom (p 166 166 936 950) (g.spelled (k.Name (codes "define-library") false))) g.none))) ∷ ((g.list (p 168 170 952 968) (g.part (g.atom (p 169 169 953 967) (g.spelled (k.Name (codes "define-library") false))) g.none))) ∷ ((g.list (p 171 173 969 985) (g.part (g.atom (p 172 172 970 984) (g.spelled (k.Name (codes "define-library") false))) g.none))) ∷ ((g.list (p 174 176 986 1002) (g.part (g.atom (p 175 175 987 1001) (g.spelled (k.Name (codes "define-library") false))) g.none))) ∷ ((g.list (p 177 179 1003 1019) (g.part (g.atom (p 178 178 1004 1018) (g.spelled (k.Name (codes "define-library") false))) g.none))) ∷ ((g.list (p 180 182 1020 1036) (g.part (g.atom (p 181 181 1021 1035) (g.spelled (k.Name (codes "define-library") false))) g.none))) ∷ ((g.list (p 183 185 1037 1053) (g.part (g.atom (p 184 184 1038 1052) (g.spelled (k.Name (codes "define-library") false))) g.none))) ∷ ((g.list (p 186 188 1054 1070) (g.part (g.atom (p 187 187 1055 1069) (g.spelled (k.Name (codes "define-library") false))) g.none))) ∷ ((g.list (p 189 191 1071 1087) (g.part (g.atom (p 190 190 1072 1086) (g.spelled (k.Name (codes "define-library") false))) g.none))) ∷ ((g.list (p 192 194 1088 1104) (g.part (g.atom (p 193 193 1089 1103) (g.spelled (k.Name (codes "define-library") false))) g.none))) ∷ ((g.list (p 195 197 1105 1121) (g.part (g.atom (p 196 196 1106 1120) (g.spelled (k.Name (codes "define-library") false))) g.none))) ∷ ((g.list (p 198 200 1122 1138) (g.part (g.atom (p 199 199 1123 1137) (g.spelled (k.Name (codes "define-library") false))) g.none))) ∷ ((g.list (p 201 203 1139 1155) (g.part (g.atom (p 202 202 1140 1154) (g.spelled (k.Name (codes "define-library") false))) g.none))) ∷ ((g.list (p 204 206 1156 1172) (g.part (g.atom (p 205 205 1157 1171) (g.spelled (k.Name (codes "define-library") false))) g.none))) ∷ ((g.list (p 207 209 1173 1189) (g.part (g.atom (p 208 208 1174 1188) (g.spelled (k.Name (codes "define-library") false))) g.none))) ∷ ((g.list (p 210 212 1190 1206) (g.part (g.atom (p 211 211 1191 1205) (g.spelled (k.Name (codes "define-library") false))) g.none))) ∷ ((g.list (p 213 215 1207 1223) (g.part (g.atom (p 214 214 1208 1222) (g.spelled (k.Name (codes "define-library") false))) g.none))) ∷ ((g.list (p 216 218 1224 1240) (g.part (g.atom (p 217 217 1225 1239) (g.spelled (k.Name (codes "define-library") false))) g.none))) ∷ ((g.list (p 219 221 1241 1257) (g.part (g.atom (p 220 220 1242 1256) (g.spelled (k.Name (codes "define-library") false))) g.none))) ∷ ((g.list (p 222 224 1258 1274) (g.part (g.atom (p 223 223 1259 1273) (g.spelled (k.Name (codes "define-library") false))) g.none))) ∷ ((g.list (p 225 227 1275 1291) (g.part (g.atom (p 226 226 1276 1290) (g.spelled (k.Name (codes "define-library") false))) g.none))) ∷ ((g.list (p 228 230 1292 1308) (g.part (g.atom (p 229 229 1293 1307) (g.spelled (k.Name (codes "define-library") false))) g.none))) ∷ ((g.list (p 231 233 1309 1325) (g.part (g.atom (p 232 232 1310 1324) (g.spelled (k.Name (codes "define-library") false))) g.none))) ∷ ((g.list (p 234 236 1326 1342) (g.part (g.atom (p 235 235 1327 1341) (g.spelled (k.Name (codes "define-library") false))) g.none))) ∷ ((g.list (p 237 239 1343 1359) (g.part (g.atom (p 238 238 1344 1358) (g.spelled (k.Name (codes "define-library") false))) g.none))) ∷ ((g.list (p 240 242 1360 1376) (g.part (g.atom (p 241 241 1361 1375) (g.spelled (k.Name (codes "define-library") false))) g.none))) ∷ ((g.list (p 243 245 1377 1393) (g.part (g.atom (p 244 244 1378 1392) (g.spelled (k.Name (codes "define-library") false))) g.none))) ∷ ((g.list (p 246 248 1394 1410) (g.part (g.atom (p 247 247 1395 1409) (g.spelled (k.Name (codes "define-library") false))) g.none))) ∷ ((g.list (p 249 251 1411 1427) (g.part (g.atom (p 250 250 1412 1426) (g.spelled (k.Name (codes "define-library") false))) g.none))) ∷ ((g.list (p 252 254 1428 1444) (g.part (g.atom (p 253 253 1429 1443) (g.spelled (k.Name (codes "define-library") false))) g.none))) ∷ ((g.list (p 255 257 1445 1461) (g.part (g.atom (p 256 256 1446 1460) (g.spelled (k.Name (codes "define-library") false))) g.none))) ∷ ((g.list (p 258 260 1462 1478) (g.part (g.atom (p 259 259 1463 1477) (g.spelled (k.Name (codes "define-library") false))) g.none))) ∷ ((g.list (p 261 263 1479 1495) (g.part (g.atom (p 262 262 1480 1494) (g.spelled (k.Name (codes "define-library") false))) g.none))) ∷ ((g.list (p 264 266 1496 1512) (g.part (g.atom (p 265 265 1497 1511) (g.spelled (k.Name (codes "define-library") false))) g.none))) ∷ ((g.list (p 267 269 1513 1529) (g.part (g.atom (p 268 268 1514 1528) (g.spelled (k.Name (codes "define-library") false))) g.none))) ∷ ((g.list (p 270 272 1530 1546) (g.part (g.atom (p 271 271 1531 1545) (g.spelled (k.Name (codes "define-library") false))) g.none))) ∷ ((g.list (p 273 275 1547 1563) (g.part (g.atom (p 274 274 1548 1562) (g.spelled (k.Name (codes "define-library") false))) g.none))) ∷ ((g.list (p 276 278 1564 1580) (g.part (g.atom (p 277 277 1565 1579) (g.spelled (k.Name (codes "define-library") false))) g.none))) ∷ ((g.list (p 279 281 1581 1597) (g.part (g.atom (p 280 280 1582 1596) (g.spelled (k.Name (codes "define-library") false))) g.none))) ∷ ((g.list (p 282 284 1598 1614) (g.part (g.atom (p 283 283 1599 1613) (g.spelled (k.Name (codes "define-library") false))) g.none))) ∷ ((g.list (p 285 287 1615 1631) (g.part (g.atom (p 286 286 1616 1630) (g.spelled (k.Name (codes "define-library") false))) g.none))) ∷ ((g.list (p 288 290 1632 1648) (g.part (g.atom (p 289 289 1633 1647) (g.spelled (k.Name (codes "define-library") false))) g.none))) ∷ ((g.list (p 291 293 1649 1665) (g.part (g.atom (p 292 292 1650 1664) (g.spelled (k.Name (codes "define-library") false))) g.none))) ∷ ((g.list (p 294 296 1666 1682) (g.part (g.atom (p 295 295 1667 1681) (g.spelled (k.Name (codes "define-library") false))) g.none))) ∷ ((g.list (p 297 299 1683 1699) (g.part (g.atom (p 298 298 1684 1698) (g.spelled (k.Name (codes "define-library") false))) g.none))) ∷ ((g.list (p 300 302 1700 1716) (g.part (g.atom (p 301 301 1701 1715) (g.spelled (k.Name (codes "define-library") false))) g.none))) ∷ ((g.list (p 303 305 1717 1733) (g.part (g.atom (p 304 304 1718 1732) (g.spelled (k.Name (codes "define-library") false))) g.none))) ∷ ((g.list (p 306 308 1734 1750) (g.part (g.atom (p 307 307 1735 1749) (g.spelled (k.Name (codes "define-library") false))) g.none))) ∷ ((g.list (p 309 311 1751 1767) (g.part (g.atom (p 310 310 1752 1766) (g.spelled (k.Name (codes "define-library") false))) g.none))) ∷ ((g.list (p 312 314 1768 1784) (g.part (g.atom (p 313 313 1769 1783) (g.spelled (k.Name (codes "define-library") false))) g.none))) ∷ ((g.list (p 315 317 1785 1801) (g.part (g.atom (p 316 316 1786 1800) (g.spelled (k.Name (codes "define-library") false))) g.none))) ∷ ((g.list (p 318 320 1802 1818) (g.part (g.atom (p 319 319 1803 1817) (g.spelled (k.Name (codes "define-library") false))) g.none))) ∷ ((g.list (p 321 323 1819 1835) (g.part (g.atom (p 322 322 1820 1834) (g.spelled (k.Name (codes "define-library") false))) g.none))) ∷ ((g.list (p 324 326 1836 1852) (g.part (g.atom (p 325 325 1837 1851) (g.spelled (k.Name (codes "define-library") false))) g.none))) ∷ ((g.list (p 327 329 1853 1869) (g.part (g.atom (p 328 328 1854 1868) (g.spelled (k.Name (codes "define-library") false))) g.none))) ∷ ((g.list (p 330 332 1870 1886) (g.part (g.atom (p 331 331 1871 1885) (g.spelled (k.Name (codes "define-library") false))) g.none))) ∷ ((g.list (p 333 335 1887 1903) (g.part (g.atom (p 334 334 1888 1902) (g.spelled (k.Name (codes "define-library") false))) g.none))) ∷ ((g.list (p 336 338 1904 1920) (g.part (g.atom (p 337 337 1905 1919) (g.spelled (k.Name (codes "define-library") false))) g.none))) ∷ ((g.list (p 339 341 1921 1937) (g.part (g.atom (p 340 340 1922 1936) (g.spelled (k.Name (codes "define-library") false))) g.none))) ∷ ((g.list (p 342 344 1938 1954) (g.part (g.atom (p 343 343 1939 1953) (g.spelled (k.Name (codes "define-library") false))) g.none))) ∷ ((g.list (p 345 347 1955 1971) (g.part (g.atom (p 346 346 1956 1970) (g.spelled (k.Name (codes "define-library") false))) g.none))) ∷ ((g.list (p 348 350 1972 1988) (g.part (g.atom (p 349 349 1973 1987) (g.spelled (k.Name (codes "define-library") false))) g.none))) ∷ ((g.list (p 351 353 1989 2005) (g.part (g.atom (p 352 352 1990 2004) (g.spelled (k.Name (codes "define-library") false))) g.none))) ∷ ((g.list (p 354 356 2006 2022) (g.part (g.atom (p 355 355 2007 2021) (g.spelled (k.Name (codes "define-library") false))) g.none))) ∷ ((g.list (p 357 359 2023 2039) (g.part (g.atom (p 358 358 2024 2038) (g.spelled (k.Name (codes "define-library") false))) g.none))) ∷ ((g.list (p 360 362 2040 2056) (g.part (g.atom (p 361 361 2041 2055) (g.spelled (k.Name (codes "define-library") false))) g.none))) ∷ ((g.list (p 363 365 2057 2073) (g.part (g.atom (p 364 364 2058 2072) (g.spelled (k.Name (codes "define-library") false))) g.none))) ∷ ((g.list (p 366 368 2074 2090) (g.part (g.atom (p 367 367 2075 2089) (g.spelled (k.Name (codes "define-library") false))) g.none))) ∷ ((g.list (p 369 371 2091 2107) (g.part (g.atom (p 370 370 2092 2106) (g.spelled (k.Name (codes "define-library") false))) g.none))) ∷ ((g.list (p 372 374 2108 2124) (g.part (g.atom (p 373 373 2109 2123) (g.spelled (k.Name (codes "define-library") false))) g.none))) ∷ ((g.list (p 375 377 2125 2141) (g.part (g.atom (p 376 376 2126 2140) (g.spelled (k.Name (codes "define-library") false))) g.none))) ∷ ((g.list (p 378 380 2142 2158) (g.part (g.atom (p 379 379 2143 2157) (g.spelled (k.Name (codes "define-library") false))) g.none))) ∷ [])) ∷ ((codes "file:///m.scm"), Some (((g.list (p 0 15 0 45) (g.part (g.atom (p 1 1 1 14) (g.spelled (k.Name (codes "define-syntax") false))) (g.part (g.atom (p 2 2 15 16) (g.spelled (k.Name (codes "m") false))) (g.part (g.list (p 3 14 17 44) (g.part (g.atom (p 4 4 18 30) (g.spelled (k.Name (codes "syntax-rules") false))) (g.part (g.list (p 5 6 31 33) g.none) (g.part (g.list (p 7 13 34 43) (g.part (g.list (p 8 11 35 40) (g.part (g.atom (p 9 9 36 37) (g.spelled (k.Name (codes "_") false))) (g.part (g.atom (p 10 10 38 39) (g.spelled (k.Name (codes "a") false))) g.none))) (g.part (g.atom (p 12 12 41 42) (g.spelled (k.Name (codes "a") false))) g.none))) g.none)))) g.none))))) ∷ ((g.list (p 16 19 46 51) (g.part (g.atom (p 17 17 47 48) (g.spelled (k.Name (codes "m") false))) (g.part (g.atom (p 18 18 49 50) (g.spelled (k.Numeral (codes "1")))) g.none)))) ∷ [])) ∷ []) (((codes "file:///a.sld"), Some (((g.list (p 0 2 0 16) (g.part (g.atom (p 1 1 1 15) (g.spelled (k.Name (codes "define-library") false))) g.none))) ∷ ((g.list (p 3 5 17 33) (g.part (g.atom (p 4 4 18 32) (g.spelled (k.Name (codes "define-library") false))) g.none))) ∷ ((g.list (p 6 8 34 50) (g.part (g.atom (p 7 7 35 49) (g.spelled (k.Name (codes "define-library") false))) g.none))) ∷ ((g.list (p 9 11 51 67) (g.part (g.atom (p 10 10 52 66) (g.spelled (k.Name (codes "define-library") false))) g.none))) ∷ ((g.list (p 12 14 68 84) (g.part (g.atom (p 13 13 69 83) (g.spelled (k.Name (codes "define-library") false))) g.none))) ∷ ((g.list (p 15 17 85 101) (g.part (g.atom (p 16 16 86 100) (g.spelled (k.Name (codes "define-library") false))) g.none))) ∷ ((g.list (p 18 20 102 118) (g.part (g.atom (p 19 19 103 117) (g.spelled (k.Name (codes "define-library") false))) g.none))) ∷ ((g.list (p 21 23 119 135) (g.part (g.atom (p 22 22 120 134) (g.spelled (k.Name (codes "define-library") false))) g.none))) ∷ ((g.list (p 24 26 136 152) (g.part (g.atom (p 25 25 137 151) (g.spelled (k.Name (codes "define-library") false))) g.none))) ∷ ((g.list (p 27 29 153 169) (g.part (g.atom (p 28 28 154 168) (g.spelled (k.Name (codes "define-library") false))) g.none))) ∷ ((g.list (p 30 32 170 186) (g.part (g.atom (p 31 31 171 185) (g.spelled (k.Name (codes "define-library") false))) g.none))) ∷ ((g.list (p 33 35 187 203) (g.part (g.atom (p 34 34 188 202) (g.spelled (k.Name (codes "define-library") false))) g.none))) ∷ ((g.list (p 36 38 204 220) (g.part (g.atom (p 37 37 205 219) (g.spelled (k.Name (codes "define-library") false))) g.none))) ∷ ((g.list (p 39 41 221 237) (g.part (g.atom (p 40 40 222 236) (g.spelled (k.Name (codes "define-library") false))) g.none))) ∷ ((g.list (p 42 44 238 254) (g.part (g.atom (p 43 43 239 253) (g.spelled (k.Name (codes "define-library") false))) g.none))) ∷ ((g.list (p 45 47 255 271) (g.part (g.atom (p 46 46 256 270) (g.spelled (k.Name (codes "define-library") false))) g.none))) ∷ ((g.list (p 48 50 272 288) (g.part (g.atom (p 49 49 273 287) (g.spelled (k.Name (codes "define-library") false))) g.none))) ∷ ((g.list (p 51 53 289 305) (g.part (g.atom (p 52 52 290 304) (g.spelled (k.Name (codes "define-library") false))) g.none))) ∷ ((g.list (p 54 56 306 322) (g.part (g.atom (p 55 55 307 321) (g.spelled (k.Name (codes "define-library") false))) g.none))) ∷ ((g.list (p 57 59 323 339) (g.part (g.atom (p 58 58 324 338) (g.spelled (k.Name (codes "define-library") false))) g.none))) ∷ ((g.list (p 60 62 340 356) (g.part (g.atom (p 61 61 341 355) (g.spelled (k.Name (codes "define-library") false))) g.none))) ∷ ((g.list (p 63 65 357 373) (g.part (g.atom (p 64 64 358 372) (g.spelled (k.Name (codes "define-library") false))) g.none))) ∷ ((g.list (p 66 68 374 390) (g.part (g.atom (p 67 67 375 389) (g.spelled (k.Name (codes "define-library") false))) g.none))) ∷ ((g.list (p 69 71 391 407) (g.part (g.atom (p 70 70 392 406) (g.spelled (k.Name (codes "define-library") false))) g.none))) ∷ ((g.list (p 72 74 408 424) (g.part (g.atom (p 73 73 409 423) (g.spelled (k.Name (codes "define-library") false))) g.none))) ∷ ((g.list (p 75 77 425 441) (g.part (g.atom (p 76 76 426 440) (g.spelled (k.Name (codes "define-library") false))) g.none))) ∷ ((g.list (p 78 80 442 458) (g.part (g.atom (p 79 79 443 457) (g.spelled (k.Name (codes "define-library") false))) g.none))) ∷ ((g.list (p 81 83 459 475) (g.part (g.atom (p 82 82 460 474) (g.spelled (k.Name (codes "define-library") false))) g.none))) ∷ ((g.list (p 84 86 476 492) (g.part (g.atom (p 85 85 477 491) (g.spelled (k.Name (codes "define-library") false))) g.none))) ∷ ((g.list (p 87 89 493 509) (g.part (g.atom (p 88 88 494 508) (g.spelled (k.Name (codes "define-library") false))) g.none))) ∷ ((g.list (p 90 92 510 526) (g.part (g.atom (p 91 91 511 525) (g.spelled (k.Name (codes "define-library") false))) g.none))) ∷ ((g.list (p 93 95 527 543) (g.part (g.atom (p 94 94 528 542) (g.spelled (k.Name (codes "define-library") false))) g.none))) ∷ ((g.list (p 96 98 544 560) (g.part (g.atom (p 97 97 545 559) (g.spelled (k.Name (codes "define-library") false))) g.none))) ∷ ((g.list (p 99 101 561 577) (g.part (g.atom (p 100 100 562 576) (g.spelled (k.Name (codes "define-library") false))) g.none))) ∷ ((g.list (p 102 104 578 594) (g.part (g.atom (p 103 103 579 593) (g.spelled (k.Name (codes "define-library") false))) g.none))) ∷ ((g.list (p 105 107 595 611) (g.part (g.atom (p 106 106 596 610) (g.spelled (k.Name (codes "define-library") false))) g.none))) ∷ ((g.list (p 108 110 612 628) (g.part (g.atom (p 109 109 613 627) (g.spelled (k.Name (codes "define-library") false))) g.none))) ∷ ((g.list (p 111 113 629 645) (g.part (g.atom (p 112 112 630 644) (g.spelled (k.Name (codes "define-library") false))) g.none))) ∷ ((g.list (p 114 116 646 662) (g.part (g.atom (p 115 115 647 661) (g.spelled (k.Name (codes "define-library") false))) g.none))) ∷ ((g.list (p 117 119 663 679) (g.part (g.atom (p 118 118 664 678) (g.spelled (k.Name (codes "define-library") false))) g.none))) ∷ ((g.list (p 120 122 680 696) (g.part (g.atom (p 121 121 681 695) (g.spelled (k.Name (codes "define-library") false))) g.none))) ∷ ((g.list (p 123 125 697 713) (g.part (g.atom (p 124 124 698 712) (g.spelled (k.Name (codes "define-library") false))) g.none))) ∷ ((g.list (p 126 128 714 730) (g.part (g.atom (p 127 127 715 729) (g.spelled (k.Name (codes "define-library") false))) g.none))) ∷ ((g.list (p 129 131 731 747) (g.part (g.atom (p 130 130 732 746) (g.spelled (k.Name (codes "define-library") false))) g.none))) ∷ ((g.list (p 132 134 748 764) (g.part (g.atom (p 133 133 749 763) (g.spelled (k.Name (codes "define-library") false))) g.none))) ∷ ((g.list (p 135 137 765 781) (g.part (g.atom (p 136 136 766 780) (g.spelled (k.Name (codes "define-library") false))) g.none))) ∷ ((g.list (p 138 140 782 798) (g.part (g.atom (p 139 139 783 797) (g.spelled (k.Name (codes "define-library") false))) g.none))) ∷ ((g.list (p 141 143 799 815) (g.part (g.atom (p 142 142 800 814) (g.spelled (k.Name (codes "define-library") false))) g.none))) ∷ ((g.list (p 144 146 816 832) (g.part (g.atom (p 145 145 817 831) (g.spelled (k.Name (codes "define-library") false))) g.none))) ∷ ((g.list (p 147 149 833 849) (g.part (g.atom (p 148 148 834 848) (g.spelled (k.Name (codes "define-library") false))) g.none))) ∷ ((g.list (p 150 152 850 866) (g.part (g.atom (p 151 151 851 865) (g.spelled (k.Name (codes "define-library") false))) g.none))) ∷ ((g.list (p 153 155 867 883) (g.part (g.atom (p 154 154 868 882) (g.spelled (k.Name (codes "define-library") false))) g.none))) ∷ ((g.list (p 156 158 884 900) (g.part (g.atom (p 157 157 885 899) (g.spelled (k.Name (codes "define-library") false))) g.none))) ∷ ((g.list (p 159 161 901 917) (g.part (g.atom (p 160 160 902 916) (g.spelled (k.Name (codes "define-library") false))) g.none))) ∷ ((g.list (p 162 164 918 934) (g.part (g.atom (p 163 163 919 933) (g.spelled (k.Name (codes "define-library") false))) g.none))) ∷ ((g.list (p 165 167 935 951) (g.part (g.atom (p 166 166 936 950) (g.spelled (k.Name (codes "define-library") false))) g.none))) ∷ ((g.list (p 168 170 952 968) (g.part (g.atom (p 169 169 953 967) (g.spelled (k.Name (codes "define-library") false))) g.none))) ∷ ((g.list (p 171 173 969 985) (g.part (g.atom (p 172 172 970 984) (g.spelled (k.Name (codes "define-library") false))) g.none))) ∷ ((g.list (p 174 176 986 1002) (g.part (g.atom (p 175 175 987 1001) (g.spelled (k.Name (codes "define-library") false))) g.none))) ∷ ((g.list (p 177 179 1003 1019) (g.part (g.atom (p 178 178 1004 1018) (g.spelled (k.Name (codes "define-library") false))) g.none))) ∷ ((g.list (p 180 182 1020 1036) (g.part (g.atom (p 181 181 1021 1035) (g.spelled (k.Name (codes "define-library") false))) g.none))) ∷ ((g.list (p 183 185 1037 1053) (g.part (g.atom (p 184 184 1038 1052) (g.spelled (k.Name (codes "define-library") false))) g.none))) ∷ ((g.list (p 186 188 1054 1070) (g.part (g.atom (p 187 187 1055 1069) (g.spelled (k.Name (codes "define-library") false))) g.none))) ∷ ((g.list (p 189 191 1071 1087) (g.part (g.atom (p 190 190 1072 1086) (g.spelled (k.Name (codes "define-library") false))) g.none))) ∷ ((g.list (p 192 194 1088 1104) (g.part (g.atom (p 193 193 1089 1103) (g.spelled (k.Name (codes "define-library") false))) g.none))) ∷ ((g.list (p 195 197 1105 1121) (g.part (g.atom (p 196 196 1106 1120) (g.spelled (k.Name (codes "define-library") false))) g.none))) ∷ ((g.list (p 198 200 1122 1138) (g.part (g.atom (p 199 199 1123 1137) (g.spelled (k.Name (codes "define-library") false))) g.none))) ∷ ((g.list (p 201 203 1139 1155) (g.part (g.atom (p 202 202 1140 1154) (g.spelled (k.Name (codes "define-library") false))) g.none))) ∷ ((g.list (p 204 206 1156 1172) (g.part (g.atom (p 205 205 1157 1171) (g.spelled (k.Name (codes "define-library") false))) g.none))) ∷ ((g.list (p 207 209 1173 1189) (g.part (g.atom (p 208 208 1174 1188) (g.spelled (k.Name (codes "define-library") false))) g.none))) ∷ ((g.list (p 210 212 1190 1206) (g.part (g.atom (p 211 211 1191 1205) (g.spelled (k.Name (codes "define-library") false))) g.none))) ∷ ((g.list (p 213 215 1207 1223) (g.part (g.atom (p 214 214 1208 1222) (g.spelled (k.Name (codes "define-library") false))) g.none))) ∷ ((g.list (p 216 218 1224 1240) (g.part (g.atom (p 217 217 1225 1239) (g.spelled (k.Name (codes "define-library") false))) g.none))) ∷ ((g.list (p 219 221 1241 1257) (g.part (g.atom (p 220 220 1242 1256) (g.spelled (k.Name (codes "define-library") false))) g.none))) ∷ ((g.list (p 222 224 1258 1274) (g.part (g.atom (p 223 223 1259 1273) (g.spelled (k.Name (codes "define-library") false))) g.none))) ∷ ((g.list (p 225 227 1275 1291) (g.part (g.atom (p 226 226 1276 1290) (g.spelled (k.Name (codes "define-library") false))) g.none))) ∷ ((g.list (p 228 230 1292 1308) (g.part (g.atom (p 229 229 1293 1307) (g.spelled (k.Name (codes "define-library") false))) g.none))) ∷ ((g.list (p 231 233 1309 1325) (g.part (g.atom (p 232 232 1310 1324) (g.spelled (k.Name (codes "define-library") false))) g.none))) ∷ ((g.list (p 234 236 1326 1342) (g.part (g.atom (p 235 235 1327 1341) (g.spelled (k.Name (codes "define-library") false))) g.none))) ∷ ((g.list (p 237 239 1343 1359) (g.part (g.atom (p 238 238 1344 1358) (g.spelled (k.Name (codes "define-library") false))) g.none))) ∷ ((g.list (p 240 242 1360 1376) (g.part (g.atom (p 241 241 1361 1375) (g.spelled (k.Name (codes "define-library") false))) g.none))) ∷ ((g.list (p 243 245 1377 1393) (g.part (g.atom (p 244 244 1378 1392) (g.spelled (k.Name (codes "define-library") false))) g.none))) ∷ ((g.list (p 246 248 1394 1410) (g.part (g.atom (p 247 247 1395 1409) (g.spelled (k.Name (codes "define-library") false))) g.none))) ∷ ((g.list (p 249 251 1411 1427) (g.part (g.atom (p 250 250 1412 1426) (g.spelled (k.Name (codes "define-library") false))) g.none))) ∷ ((g.list (p 252 254 1428 1444) (g.part (g.atom (p 253 253 1429 1443) (g.spelled (k.Name (codes "define-library") false))) g.none))) ∷ ((g.list (p 255 257 1445 1461) (g.part (g.atom (p 256 256 1446 1460) (g.spelled (k.Name (codes "define-library") false))) g.none))) ∷ ((g.list (p 258 260 1462 1478) (g.part (g.atom (p 259 259 1463 1477) (g.spelled (k.Name (codes "define-library") false))) g.none))) ∷ ((g.list (p 261 263 1479 1495) (g.part (g.atom (p 262 262 1480 1494) (g.spelled (k.Name (codes "define-library") false))) g.none))) ∷ ((g.list (p 264 266 1496 1512) (g.part (g.atom (p 265 265 1497 1511) (g.spelled (k.Name (codes "define-library") false))) g.none))) ∷ ((g.list (p 267 269 1513 1529) (g.part (g.atom (p 268 268 1514 1528) (g.spelled (k.Name (codes "define-library") false))) g.none))) ∷ ((g.list (p 270 272 1530 1546) (g.part (g.atom (p 271 271 1531 1545) (g.spelled (k.Name (codes "define-library") false))) g.none))) ∷ ((g.list (p 273 275 1547 1563) (g.part (g.atom (p 274 274 1548 1562) (g.spelled (k.Name (codes "define-library") false))) g.none))) ∷ ((g.list (p 276 278 1564 1580) (g.part (g.atom (p 277 277 1565 1579) (g.spelled (k.Name (codes "define-library") false))) g.none))) ∷ ((g.list (p 279 281 1581 1597) (g.part (g.atom (p 280 280 1582 1596) (g.spelled (k.Name (codes "define-library") false))) g.none))) ∷ ((g.list (p 282 284 1598 1614) (g.part (g.atom (p 283 283 1599 1613) (g.spelled (k.Name (codes "define-library") false))) g.none))) ∷ ((g.list (p 285 287 1615 1631) (g.part (g.atom (p 286 286 1616 1630) (g.spelled (k.Name (codes "define-library") false))) g.none))) ∷ ((g.list (p 288 290 1632 1648) (g.part (g.atom (p 289 289 1633 1647) (g.spelled (k.Name (codes "define-library") false))) g.none))) ∷ ((g.list (p 291 293 1649 1665) (g.part (g.atom (p 292 292 1650 1664) (g.spelled (k.Name (codes "define-library") false))) g.none))) ∷ ((g.list (p 294 296 1666 1682) (g.part (g.atom (p 295 295 1667 1681) (g.spelled (k.Name (codes "define-library") false))) g.none))) ∷ ((g.list (p 297 299 1683 1699) (g.part (g.atom (p 298 298 1684 1698) (g.spelled (k.Name (codes "define-library") false))) g.none))) ∷ ((g.list (p 300 302 1700 1716) (g.part (g.atom (p 301 301 1701 1715) (g.spelled (k.Name (codes "define-library") false))) g.none))) ∷ ((g.list (p 303 305 1717 1733) (g.part (g.atom (p 304 304 1718 1732) (g.spelled (k.Name (codes "define-library") false))) g.none))) ∷ ((g.list (p 306 308 1734 1750) (g.part (g.atom (p 307 307 1735 1749) (g.spelled (k.Name (codes "define-library") false))) g.none))) ∷ ((g.list (p 309 311 1751 1767) (g.part (g.atom (p 310 310 1752 1766) (g.spelled (k.Name (codes "define-library") false))) g.none))) ∷ ((g.list (p 312 314 1768 1784) (g.part (g.atom (p 313 313 1769 1783) (g.spelled (k.Name (codes "define-library") false))) g.none))) ∷ ((g.list (p 315 317 1785 1801) (g.part (g.atom (p 316 316 1786 1800) (g.spelled (k.Name (codes "define-library") false))) g.none))) ∷ ((g.list (p 318 320 1802 1818) (g.part (g.atom (p 319 319 1803 1817) (g.spelled (k.Name (codes "define-library") false))) g.none))) ∷ ((g.list (p 321 323 1819 1835) (g.part (g.atom (p 322 322 1820 1834) (g.spelled (k.Name (codes "define-library") false))) g.none))) ∷ ((g.list (p 324 326 1836 1852) (g.part (g.atom (p 325 325 1837 1851) (g.spelled (k.Name (codes "define-library") false))) g.none))) ∷ ((g.list (p 327 329 1853 1869) (g.part (g.atom (p 328 328 1854 1868) (g.spelled (k.Name (codes "define-library") false))) g.none))) ∷ ((g.list (p 330 332 1870 1886) (g.part (g.atom (p 331 331 1871 1885) (g.spelled (k.Name (codes "define-library") false))) g.none))) ∷ ((g.list (p 333 335 1887 1903) (g.part (g.atom (p 334 334 1888 1902) (g.spelled (k.Name (codes "define-library") false))) g.none))) ∷ ((g.list (p 336 338 1904 1920) (g.part (g.atom (p 337 337 1905 1919) (g.spelled (k.Name (codes "define-library") false))) g.none))) ∷ ((g.list (p 339 341 1921 1937) (g.part (g.atom (p 340 340 1922 1936) (g.spelled (k.Name (codes "define-library") false))) g.none))) ∷ ((g.list (p 342 344 1938 1954) (g.part (g.atom (p 343 343 1939 1953) (g.spelled (k.Name (codes "define-library") false))) g.none))) ∷ ((g.list (p 345 347 1955 1971) (g.part (g.atom (p 346 346 1956 1970) (g.spelled (k.Name (codes "define-library") false))) g.none))) ∷ ((g.list (p 348 350 1972 1988) (g.part (g.atom (p 349 349 1973 1987) (g.spelled (k.Name (codes "define-library") false))) g.none))) ∷ ((g.list (p 351 353 1989 2005) (g.part (g.atom (p 352 352 1990 2004) (g.spelled (k.Name (codes "define-library") false))) g.none))) ∷ ((g.list (p 354 356 2006 2022) (g.part (g.atom (p 355 355 2007 2021) (g.spelled (k.Name (codes "define-library") false))) g.none))) ∷ ((g.list (p 357 359 2023 2039) (g.part (g.atom (p 358 358 2024 2038) (g.spelled (k.Name (codes "define-library") false))) g.none))) ∷ ((g.list (p 360 362 2040 2056) (g.part (g.atom (p 361 361 2041 2055) (g.spelled (k.Name (codes "define-library") false))) g.none))) ∷ ((g.list (p 363 365 2057 2073) (g.part (g.atom (p 364 364 2058 2072) (g.spelled (k.Name (codes "define-library") false))) g.none))) ∷ ((g.list (p 366 368 2074 2090) (g.part (g.atom (p 367 367 2075 2089) (g.spelled (k.Name (codes "define-library") false))) g.none))) ∷ ((g.list (p 369 371 2091 2107) (g.part (g.atom (p 370 370 2092 2106) (g.spelled (k.Name (codes "define-library") false))) g.none))) ∷ ((g.list (p 372 374 2108 2124) (g.part (g.atom (p 373 373 2109 2123) (g.spelled (k.Name (codes "define-library") false))) g.none))) ∷ ((g.list (p 375 377 2125 2141) (g.part (g.atom (p 376 376 2126 2140) (g.spelled (k.Name (codes "define-library") false))) g.none))) ∷ ((g.list (p 378 380 2142 2158) (g.part (g.atom (p 379 379 2143 2157) (g.spelled (k.Name (codes "define-library") false))) g.none))) ∷ ((g.list (p 381 383 2159 2175) (g.part (g.atom (p 382 382 2160 2174) (g.spelled (k.Name (codes "define-library") false))) g.none))) ∷ [])) ∷ ((codes "file:///m.scm"), Some (((g.list (p 0 15 0 45) (g.part (g.atom (p 1 1 1 14) (g.spelled (k.Name (codes "define-syntax") false))) (g.part (g.atom (p 2 2 15 16) (g.spelled (k.Name (codes "m") false))) (g.part (g.list (p 3 14 17 44) (g.part (g.atom (p 4 4 18 30) (g.spelled (k.Name (codes "syntax-rules") false))) (g.part (g.list (p 5 6 31 33) g.none) (g.part (g.list (p 7 13 34 43) (g.part (g.list (p 8 11 35 40) (g.part (g.atom (p 9 9 36 37) (g.spelled (k.Name (codes "_") false))) (g.part (g.atom (p 10 10 38 39) (g.spelled (k.Name (codes "a") false))) g.none))) (g.part (g.atom (p 12 12 41 42) (g.spelled (k.Name (codes "a") false))) g.none))) g.none)))) g.none))))) ∷ ((g.list (p 16 19 46 51) (g.part (g.atom (p 17 17 47 48) (g.spelled (k.Name (codes "m") false))) (g.part (g.atom (p 18 18 49 50) (g.spelled (k.Numeral (codes "1")))) g.none)))) ∷ [])) ∷ []) ≡ ([], 0)
unfolding base_names standard_libraries prelude encode_utf8
unit_is_pushed_behind_the_most = refl

pub unit_was_behind_the_most : carried_rows (((codes "file:///a.sld"), Some (((g.list (p 0 2 0 16) (g.part (g.atom (p 1 1 1 15) (g.spelled (k.Name (codes "define-library") false))) g.none))) ∷ ((g.list (p 3 5 17 33) (g.part (g.atom (p 4 4 18 32) (g.spelled (k.Name (codes "define-library") false))) g.none))) ∷ ((g.list (p 6 8 34 50) (g.part (g.atom (p 7 7 35 49) (g.spelled (k.Name (codes "define-library") false))) g.none))) ∷ ((g.list (p 9 11 51 67) (g.part (g.atom (p 10 10 52 66) (g.spelled (k.Name (codes "define-library") false))) g.none))) ∷ ((g.list (p 12 14 68 84) (g.part (g.atom (p 13 13 69 83) (g.spelled (k.Name (codes "define-library") false))) g.none))) ∷ ((g.list (p 15 17 85 101) (g.part (g.atom (p 16 16 86 100) (g.spelled (k.Name (codes "define-library") false))) g.none))) ∷ ((g.list (p 18 20 102 118) (g.part (g.atom (p 19 19 103 117) (g.spelled (k.Name (codes "define-library") false))) g.none))) ∷ ((g.list (p 21 23 119 135) (g.part (g.atom (p 22 22 120 134) (g.spelled (k.Name (codes "define-library") false))) g.none))) ∷ ((g.list (p 24 26 136 152) (g.part (g.atom (p 25 25 137 151) (g.spelled (k.Name (codes "define-library") false))) g.none))) ∷ ((g.list (p 27 29 153 169) (g.part (g.atom (p 28 28 154 168) (g.spelled (k.Name (codes "define-library") false))) g.none))) ∷ ((g.list (p 30 32 170 186) (g.part (g.atom (p 31 31 171 185) (g.spelled (k.Name (codes "define-library") false))) g.none))) ∷ ((g.list (p 33 35 187 203) (g.part (g.atom (p 34 34 188 202) (g.spelled (k.Name (codes "define-library") false))) g.none))) ∷ ((g.list (p 36 38 204 220) (g.part (g.atom (p 37 37 205 219) (g.spelled (k.Name (codes "define-library") false))) g.none))) ∷ ((g.list (p 39 41 221 237) (g.part (g.atom (p 40 40 222 236) (g.spelled (k.Name (codes "define-library") false))) g.none))) ∷ ((g.list (p 42 44 238 254) (g.part (g.atom (p 43 43 239 253) (g.spelled (k.Name (codes "define-library") false))) g.none))) ∷ ((g.list (p 45 47 255 271) (g.part (g.atom (p 46 46 256 270) (g.spelled (k.Name (codes "define-library") false))) g.none))) ∷ ((g.list (p 48 50 272 288) (g.part (g.atom (p 49 49 273 287) (g.spelled (k.Name (codes "define-library") false))) g.none))) ∷ ((g.list (p 51 53 289 305) (g.part (g.atom (p 52 52 290 304) (g.spelled (k.Name (codes "define-library") false))) g.none))) ∷ ((g.list (p 54 56 306 322) (g.part (g.atom (p 55 55 307 321) (g.spelled (k.Name (codes "define-library") false))) g.none))) ∷ ((g.list (p 57 59 323 339) (g.part (g.atom (p 58 58 324 338) (g.spelled (k.Name (codes "define-library") false))) g.none))) ∷ ((g.list (p 60 62 340 356) (g.part (g.atom (p 61 61 341 355) (g.spelled (k.Name (codes "define-library") false))) g.none))) ∷ ((g.list (p 63 65 357 373) (g.part (g.atom (p 64 64 358 372) (g.spelled (k.Name (codes "define-library") false))) g.none))) ∷ ((g.list (p 66 68 374 390) (g.part (g.atom (p 67 67 375 389) (g.spelled (k.Name (codes "define-library") false))) g.none))) ∷ ((g.list (p 69 71 391 407) (g.part (g.atom (p 70 70 392 406) (g.spelled (k.Name (codes "define-library") false))) g.none))) ∷ ((g.list (p 72 74 408 424) (g.part (g.atom (p 73 73 409 423) (g.spelled (k.Name (codes "define-library") false))) g.none))) ∷ ((g.list (p 75 77 425 441) (g.part (g.atom (p 76 76 426 440) (g.spelled (k.Name (codes "define-library") false))) g.none))) ∷ ((g.list (p 78 80 442 458) (g.part (g.atom (p 79 79 443 457) (g.spelled (k.Name (codes "define-library") false))) g.none))) ∷ ((g.list (p 81 83 459 475) (g.part (g.atom (p 82 82 460 474) (g.spelled (k.Name (codes "define-library") false))) g.none))) ∷ ((g.list (p 84 86 476 492) (g.part (g.atom (p 85 85 477 491) (g.spelled (k.Name (codes "define-library") false))) g.none))) ∷ ((g.list (p 87 89 493 509) (g.part (g.atom (p 88 88 494 508) (g.spelled (k.Name (codes "define-library") false))) g.none))) ∷ ((g.list (p 90 92 510 526) (g.part (g.atom (p 91 91 511 525) (g.spelled (k.Name (codes "define-library") false))) g.none))) ∷ ((g.list (p 93 95 527 543) (g.part (g.atom (p 94 94 528 542) (g.spelled (k.Name (codes "define-library") false))) g.none))) ∷ ((g.list (p 96 98 544 560) (g.part (g.atom (p 97 97 545 559) (g.spelled (k.Name (codes "define-library") false))) g.none))) ∷ ((g.list (p 99 101 561 577) (g.part (g.atom (p 100 100 562 576) (g.spelled (k.Name (codes "define-library") false))) g.none))) ∷ ((g.list (p 102 104 578 594) (g.part (g.atom (p 103 103 579 593) (g.spelled (k.Name (codes "define-library") false))) g.none))) ∷ ((g.list (p 105 107 595 611) (g.part (g.atom (p 106 106 596 610) (g.spelled (k.Name (codes "define-library") false))) g.none))) ∷ ((g.list (p 108 110 612 628) (g.part (g.atom (p 109 109 613 627) (g.spelled (k.Name (codes "define-library") false))) g.none))) ∷ ((g.list (p 111 113 629 645) (g.part (g.atom (p 112 112 630 644) (g.spelled (k.Name (codes "define-library") false))) g.none))) ∷ ((g.list (p 114 116 646 662) (g.part (g.atom (p 115 115 647 661) (g.spelled (k.Name (codes "define-library") false))) g.none))) ∷ ((g.list (p 117 119 663 679) (g.part (g.atom (p 118 118 664 678) (g.spelled (k.Name (codes "define-library") false))) g.none))) ∷ ((g.list (p 120 122 680 696) (g.part (g.atom (p 121 121 681 695) (g.spelled (k.Name (codes "define-library") false))) g.none))) ∷ ((g.list (p 123 125 697 713) (g.part (g.atom (p 124 124 698 712) (g.spelled (k.Name (codes "define-library") false))) g.none))) ∷ ((g.list (p 126 128 714 730) (g.part (g.atom (p 127 127 715 729) (g.spelled (k.Name (codes "define-library") false))) g.none))) ∷ ((g.list (p 129 131 731 747) (g.part (g.atom (p 130 130 732 746) (g.spelled (k.Name (codes "define-library") false))) g.none))) ∷ ((g.list (p 132 134 748 764) (g.part (g.atom (p 133 133 749 763) (g.spelled (k.Name (codes "define-library") false))) g.none))) ∷ ((g.list (p 135 137 765 781) (g.part (g.atom (p 136 136 766 780) (g.spelled (k.Name (codes "define-library") false))) g.none))) ∷ ((g.list (p 138 140 782 798) (g.part (g.atom (p 139 139 783 797) (g.spelled (k.Name (codes "define-library") false))) g.none))) ∷ ((g.list (p 141 143 799 815) (g.part (g.atom (p 142 142 800 814) (g.spelled (k.Name (codes "define-library") false))) g.none))) ∷ ((g.list (p 144 146 816 832) (g.part (g.atom (p 145 145 817 831) (g.spelled (k.Name (codes "define-library") false))) g.none))) ∷ ((g.list (p 147 149 833 849) (g.part (g.atom (p 148 148 834 848) (g.spelled (k.Name (codes "define-library") false))) g.none))) ∷ ((g.list (p 150 152 850 866) (g.part (g.atom (p 151 151 851 865) (g.spelled (k.Name (codes "define-library") false))) g.none))) ∷ ((g.list (p 153 155 867 883) (g.part (g.atom (p 154 154 868 882) (g.spelled (k.Name (codes "define-library") false))) g.none))) ∷ ((g.list (p 156 158 884 900) (g.part (g.atom (p 157 157 885 899) (g.spelled (k.Name (codes "define-library") false))) g.none))) ∷ ((g.list (p 159 161 901 917) (g.part (g.atom (p 160 160 902 916) (g.spelled (k.Name (codes "define-library") false))) g.none))) ∷ ((g.list (p 162 164 918 934) (g.part (g.atom (p 163 163 919 933) (g.spelled (k.Name (codes "define-library") false))) g.none))) ∷ ((g.list (p 165 167 935 951) (g.part (g.atom (p 166 166 936 950) (g.spelled (k.Name (codes "define-library") false))) g.none))) ∷ ((g.list (p 168 170 952 968) (g.part (g.atom (p 169 169 953 967) (g.spelled (k.Name (codes "define-library") false))) g.none))) ∷ ((g.list (p 171 173 969 985) (g.part (g.atom (p 172 172 970 984) (g.spelled (k.Name (codes "define-library") false))) g.none))) ∷ ((g.list (p 174 176 986 1002) (g.part (g.atom (p 175 175 987 1001) (g.spelled (k.Name (codes "define-library") false))) g.none))) ∷ ((g.list (p 177 179 1003 1019) (g.part (g.atom (p 178 178 1004 1018) (g.spelled (k.Name (codes "define-library") false))) g.none))) ∷ ((g.list (p 180 182 1020 1036) (g.part (g.atom (p 181 181 1021 1035) (g.spelled (k.Name (codes "define-library") false))) g.none))) ∷ ((g.list (p 183 185 1037 1053) (g.part (g.atom (p 184 184 1038 1052) (g.spelled (k.Name (codes "define-library") false))) g.none))) ∷ ((g.list (p 186 188 1054 1070) (g.part (g.atom (p 187 187 1055 1069) (g.spelled (k.Name (codes "define-library") false))) g.none))) ∷ ((g.list (p 189 191 1071 1087) (g.part (g.atom (p 190 190 1072 1086) (g.spelled (k.Name (codes "define-library") false))) g.none))) ∷ ((g.list (p 192 194 1088 1104) (g.part (g.atom (p 193 193 1089 1103) (g.spelled (k.Name (codes "define-library") false))) g.none))) ∷ ((g.list (p 195 197 1105 1121) (g.part (g.atom (p 196 196 1106 1120) (g.spelled (k.Name (codes "define-library") false))) g.none))) ∷ ((g.list (p 198 200 1122 1138) (g.part (g.atom (p 199 199 1123 1137) (g.spelled (k.Name (codes "define-library") false))) g.none))) ∷ ((g.list (p 201 203 1139 1155) (g.part (g.atom (p 202 202 1140 1154) (g.spelled (k.Name (codes "define-library") false))) g.none))) ∷ ((g.list (p 204 206 1156 1172) (g.part (g.atom (p 205 205 1157 1171) (g.spelled (k.Name (codes "define-library") false))) g.none))) ∷ ((g.list (p 207 209 1173 1189) (g.part (g.atom (p 208 208 1174 1188) (g.spelled (k.Name (codes "define-library") false))) g.none))) ∷ ((g.list (p 210 212 1190 1206) (g.part (g.atom (p 211 211 1191 1205) (g.spelled (k.Name (codes "define-library") false))) g.none))) ∷ ((g.list (p 213 215 1207 1223) (g.part (g.atom (p 214 214 1208 1222) (g.spelled (k.Name (codes "define-library") false))) g.none))) ∷ ((g.list (p 216 218 1224 1240) (g.part (g.atom (p 217 217 1225 1239) (g.spelled (k.Name (codes "define-library") false))) g.none))) ∷ ((g.list (p 219 221 1241 1257) (g.part (g.atom (p 220 220 1242 1256) (g.spelled (k.Name (codes "define-library") false))) g.none))) ∷ ((g.list (p 222 224 1258 1274) (g.part (g.atom (p 223 223 1259 1273) (g.spelled (k.Name (codes "define-library") false))) g.none))) ∷ ((g.list (p 225 227 1275 1291) (g.part (g.atom (p 226 226 1276 1290) (g.spelled (k.Name (codes "define-library") false))) g.none))) ∷ ((g.list (p 228 230 1292 1308) (g.part (g.atom (p 229 229 1293 1307) (g.spelled (k.Name (codes "define-library") false))) g.none))) ∷ ((g.list (p 231 233 1309 1325) (g.part (g.atom (p 232 232 1310 1324) (g.spelled (k.Name (codes "define-library") false))) g.none))) ∷ ((g.list (p 234 236 1326 1342) (g.part (g.atom (p 235 235 1327 1341) (g.spelled (k.Name (codes "define-library") false))) g.none))) ∷ ((g.list (p 237 239 1343 1359) (g.part (g.atom (p 238 238 1344 1358) (g.spelled (k.Name (codes "define-library") false))) g.none))) ∷ ((g.list (p 240 242 1360 1376) (g.part (g.atom (p 241 241 1361 1375) (g.spelled (k.Name (codes "define-library") false))) g.none))) ∷ ((g.list (p 243 245 1377 1393) (g.part (g.atom (p 244 244 1378 1392) (g.spelled (k.Name (codes "define-library") false))) g.none))) ∷ ((g.list (p 246 248 1394 1410) (g.part (g.atom (p 247 247 1395 1409) (g.spelled (k.Name (codes "define-library") false))) g.none))) ∷ ((g.list (p 249 251 1411 1427) (g.part (g.atom (p 250 250 1412 1426) (g.spelled (k.Name (codes "define-library") false))) g.none))) ∷ ((g.list (p 252 254 1428 1444) (g.part (g.atom (p 253 253 1429 1443) (g.spelled (k.Name (codes "define-library") false))) g.none))) ∷ ((g.list (p 255 257 1445 1461) (g.part (g.atom (p 256 256 1446 1460) (g.spelled (k.Name (codes "define-library") false))) g.none))) ∷ ((g.list (p 258 260 1462 1478) (g.part (g.atom (p 259 259 1463 1477) (g.spelled (k.Name (codes "define-library") false))) g.none))) ∷ ((g.list (p 261 263 1479 1495) (g.part (g.atom (p 262 262 1480 1494) (g.spelled (k.Name (codes "define-library") false))) g.none))) ∷ ((g.list (p 264 266 1496 1512) (g.part (g.atom (p 265 265 1497 1511) (g.spelled (k.Name (codes "define-library") false))) g.none))) ∷ ((g.list (p 267 269 1513 1529) (g.part (g.atom (p 268 268 1514 1528) (g.spelled (k.Name (codes "define-library") false))) g.none))) ∷ ((g.list (p 270 272 1530 1546) (g.part (g.atom (p 271 271 1531 1545) (g.spelled (k.Name (codes "define-library") false))) g.none))) ∷ ((g.list (p 273 275 1547 1563) (g.part (g.atom (p 274 274 1548 1562) (g.spelled (k.Name (codes "define-library") false))) g.none))) ∷ ((g.list (p 276 278 1564 1580) (g.part (g.atom (p 277 277 1565 1579) (g.spelled (k.Name (codes "define-library") false))) g.none))) ∷ ((g.list (p 279 281 1581 1597) (g.part (g.atom (p 280 280 1582 1596) (g.spelled (k.Name (codes "define-library") false))) g.none))) ∷ ((g.list (p 282 284 1598 1614) (g.part (g.atom (p 283 283 1599 1613) (g.spelled (k.Name (codes "define-library") false))) g.none))) ∷ ((g.list (p 285 287 1615 1631) (g.part (g.atom (p 286 286 1616 1630) (g.spelled (k.Name (codes "define-library") false))) g.none))) ∷ ((g.list (p 288 290 1632 1648) (g.part (g.atom (p 289 289 1633 1647) (g.spelled (k.Name (codes "define-library") false))) g.none))) ∷ ((g.list (p 291 293 1649 1665) (g.part (g.atom (p 292 292 1650 1664) (g.spelled (k.Name (codes "define-library") false))) g.none))) ∷ ((g.list (p 294 296 1666 1682) (g.part (g.atom (p 295 295 1667 1681) (g.spelled (k.Name (codes "define-library") false))) g.none))) ∷ ((g.list (p 297 299 1683 1699) (g.part (g.atom (p 298 298 1684 1698) (g.spelled (k.Name (codes "define-library") false))) g.none))) ∷ ((g.list (p 300 302 1700 1716) (g.part (g.atom (p 301 301 1701 1715) (g.spelled (k.Name (codes "define-library") false))) g.none))) ∷ ((g.list (p 303 305 1717 1733) (g.part (g.atom (p 304 304 1718 1732) (g.spelled (k.Name (codes "define-library") false))) g.none))) ∷ ((g.list (p 306 308 1734 1750) (g.part (g.atom (p 307 307 1735 1749) (g.spelled (k.Name (codes "define-library") false))) g.none))) ∷ ((g.list (p 309 311 1751 1767) (g.part (g.atom (p 310 310 1752 1766) (g.spelled (k.Name (codes "define-library") false))) g.none))) ∷ ((g.list (p 312 314 1768 1784) (g.part (g.atom (p 313 313 1769 1783) (g.spelled (k.Name (codes "define-library") false))) g.none))) ∷ ((g.list (p 315 317 1785 1801) (g.part (g.atom (p 316 316 1786 1800) (g.spelled (k.Name (codes "define-library") false))) g.none))) ∷ ((g.list (p 318 320 1802 1818) (g.part (g.atom (p 319 319 1803 1817) (g.spelled (k.Name (codes "define-library") false))) g.none))) ∷ ((g.list (p 321 323 1819 1835) (g.part (g.atom (p 322 322 1820 1834) (g.spelled (k.Name (codes "define-library") false))) g.none))) ∷ ((g.list (p 324 326 1836 1852) (g.part (g.atom (p 325 325 1837 1851) (g.spelled (k.Name (codes "define-library") false))) g.none))) ∷ ((g.list (p 327 329 1853 1869) (g.part (g.atom (p 328 328 1854 1868) (g.spelled (k.Name (codes "define-library") false))) g.none))) ∷ ((g.list (p 330 332 1870 1886) (g.part (g.atom (p 331 331 1871 1885) (g.spelled (k.Name (codes "define-library") false))) g.none))) ∷ ((g.list (p 333 335 1887 1903) (g.part (g.atom (p 334 334 1888 1902) (g.spelled (k.Name (codes "define-library") false))) g.none))) ∷ ((g.list (p 336 338 1904 1920) (g.part (g.atom (p 337 337 1905 1919) (g.spelled (k.Name (codes "define-library") false))) g.none))) ∷ ((g.list (p 339 341 1921 1937) (g.part (g.atom (p 340 340 1922 1936) (g.spelled (k.Name (codes "define-library") false))) g.none))) ∷ ((g.list (p 342 344 1938 1954) (g.part (g.atom (p 343 343 1939 1953) (g.spelled (k.Name (codes "define-library") false))) g.none))) ∷ ((g.list (p 345 347 1955 1971) (g.part (g.atom (p 346 346 1956 1970) (g.spelled (k.Name (codes "define-library") false))) g.none))) ∷ ((g.list (p 348 350 1972 1988) (g.part (g.atom (p 349 349 1973 1987) (g.spelled (k.Name (codes "define-library") false))) g.none))) ∷ ((g.list (p 351 353 1989 2005) (g.part (g.atom (p 352 352 1990 2004) (g.spelled (k.Name (codes "define-library") false))) g.none))) ∷ ((g.list (p 354 356 2006 2022) (g.part (g.atom (p 355 355 2007 2021) (g.spelled (k.Name (codes "define-library") false))) g.none))) ∷ ((g.list (p 357 359 2023 2039) (g.part (g.atom (p 358 358 2024 2038) (g.spelled (k.Name (codes "define-library") false))) g.none))) ∷ ((g.list (p 360 362 2040 2056) (g.part (g.atom (p 361 361 2041 2055) (g.spelled (k.Name (codes "define-library") false))) g.none))) ∷ ((g.list (p 363 365 2057 2073) (g.part (g.atom (p 364 364 2058 2072) (g.spelled (k.Name (codes "define-library") false))) g.none))) ∷ ((g.list (p 366 368 2074 2090) (g.part (g.atom (p 367 367 2075 2089) (g.spelled (k.Name (codes "define-library") false))) g.none))) ∷ ((g.list (p 369 371 2091 2107) (g.part (g.atom (p 370 370 2092 2106) (g.spelled (k.Name (codes "define-library") false))) g.none))) ∷ ((g.list (p 372 374 2108 2124) (g.part (g.atom (p 373 373 2109 2123) (g.spelled (k.Name (codes "define-library") false))) g.none))) ∷ ((g.list (p 375 377 2125 2141) (g.part (g.atom (p 376 376 2126 2140) (g.spelled (k.Name (codes "define-library") false))) g.none))) ∷ ((g.list (p 378 380 2142 2158) (g.part (g.atom (p 379 379 2143 2157) (g.spelled (k.Name (codes "define-library") false))) g.none))) ∷ ((g.list (p 381 383 2159 2175) (g.part (g.atom (p 382 382 2160 2174) (g.spelled (k.Name (codes "define-library") false))) g.none))) ∷ [])) ∷ ((codes "file:///m.scm"), Some (((g.list (p 0 15 0 45) (g.part (g.atom (p 1 1 1 14) (g.spelled (k.Name (codes "define-syntax") false))) (g.part (g.atom (p 2 2 15 16) (g.spelled (k.Name (codes "m") false))) (g.part (g.list (p 3 14 17 44) (g.part (g.atom (p 4 4 18 30) (g.spelled (k.Name (codes "syntax-rules") false))) (g.part (g.list (p 5 6 31 33) g.none) (g.part (g.list (p 7 13 34 43) (g.part (g.list (p 8 11 35 40) (g.part (g.atom (p 9 9 36 37) (g.spelled (k.Name (codes "_") false))) (g.part (g.atom (p 10 10 38 39) (g.spelled (k.Name (codes "a") false))) g.none))) (g.part (g.atom (p 12 12 41 42) (g.spelled (k.Name (codes "a") false))) g.none))) g.none)))) g.none))))) ∷ ((g.list (p 16 19 46 51) (g.part (g.atom (p 17 17 47 48) (g.spelled (k.Name (codes "m") false))) (g.part (g.atom (p 18 18 49 50) (g.spelled (k.Numeral (codes "1")))) g.none)))) ∷ [])) ∷ []) (((codes "file:///a.sld"), Some (((g.list (p 0 2 0 16) (g.part (g.atom (p 1 1 1 15) (g.spelled (k.Name (codes "define-library") false))) g.none))) ∷ ((g.list (p 3 5 17 33) (g.part (g.atom (p 4 4 18 32) (g.spelled (k.Name (codes "define-library") false))) g.none))) ∷ ((g.list (p 6 8 34 50) (g.part (g.atom (p 7 7 35 49) (g.spelled (k.Name (codes "define-library") false))) g.none))) ∷ ((g.list (p 9 11 51 67) (g.part (g.atom (p 10 10 52 66) (g.spelled (k.Name (codes "define-library") false))) g.none))) ∷ ((g.list (p 12 14 68 84) (g.part (g.atom (p 13 13 69 83) (g.spelled (k.Name (codes "define-library") false))) g.none))) ∷ ((g.list (p 15 17 85 101) (g.part (g.atom (p 16 16 86 100) (g.spelled (k.Name (codes "define-library") false))) g.none))) ∷ ((g.list (p 18 20 102 118) (g.part (g.atom (p 19 19 103 117) (g.spelled (k.Name (codes "define-library") false))) g.none))) ∷ ((g.list (p 21 23 119 135) (g.part (g.atom (p 22 22 120 134) (g.spelled (k.Name (codes "define-library") false))) g.none))) ∷ ((g.list (p 24 26 136 152) (g.part (g.atom (p 25 25 137 151) (g.spelled (k.Name (codes "define-library") false))) g.none))) ∷ ((g.list (p 27 29 153 169) (g.part (g.atom (p 28 28 154 168) (g.spelled (k.Name (codes "define-library") false))) g.none))) ∷ ((g.list (p 30 32 170 186) (g.part (g.atom (p 31 31 171 185) (g.spelled (k.Name (codes "define-library") false))) g.none))) ∷ ((g.list (p 33 35 187 203) (g.part (g.atom (p 34 34 188 202) (g.spelled (k.Name (codes "define-library") false))) g.none))) ∷ ((g.list (p 36 38 204 220) (g.part (g.atom (p 37 37 205 219) (g.spelled (k.Name (codes "define-library") false))) g.none))) ∷ ((g.list (p 39 41 221 237) (g.part (g.atom (p 40 40 222 236) (g.spelled (k.Name (codes "define-library") false))) g.none))) ∷ ((g.list (p 42 44 238 254) (g.part (g.atom (p 43 43 239 253) (g.spelled (k.Name (codes "define-library") false))) g.none))) ∷ ((g.list (p 45 47 255 271) (g.part (g.atom (p 46 46 256 270) (g.spelled (k.Name (codes "define-library") false))) g.none))) ∷ ((g.list (p 48 50 272 288) (g.part (g.atom (p 49 49 273 287) (g.spelled (k.Name (codes "define-library") false))) g.none))) ∷ ((g.list (p 51 53 289 305) (g.part (g.atom (p 52 52 290 304) (g.spelled (k.Name (codes "define-library") false))) g.none))) ∷ ((g.list (p 54 56 306 322) (g.part (g.atom (p 55 55 307 321) (g.spelled (k.Name (codes "define-library") false))) g.none))) ∷ ((g.list (p 57 59 323 339) (g.part (g.atom (p 58 58 324 338) (g.spelled (k.Name (codes "define-library") false))) g.none))) ∷ ((g.list (p 60 62 340 356) (g.part (g.atom (p 61 61 341 355) (g.spelled (k.Name (codes "define-library") false))) g.none))) ∷ ((g.list (p 63 65 357 373) (g.part (g.atom (p 64 64 358 372) (g.spelled (k.Name (codes "define-library") false))) g.none))) ∷ ((g.list (p 66 68 374 390) (g.part (g.atom (p 67 67 375 389) (g.spelled (k.Name (codes "define-library") false))) g.none))) ∷ ((g.list (p 69 71 391 407) (g.part (g.atom (p 70 70 392 406) (g.spelled (k.Name (codes "define-library") false))) g.none))) ∷ ((g.list (p 72 74 408 424) (g.part (g.atom (p 73 73 409 423) (g.spelled (k.Name (codes "define-library") false))) g.none))) ∷ ((g.list (p 75 77 425 441) (g.part (g.atom (p 76 76 426 440) (g.spelled (k.Name (codes "define-library") false))) g.none))) ∷ ((g.list (p 78 80 442 458) (g.part (g.atom (p 79 79 443 457) (g.spelled (k.Name (codes "define-library") false))) g.none))) ∷ ((g.list (p 81 83 459 475) (g.part (g.atom (p 82 82 460 474) (g.spelled (k.Name (codes "define-library") false))) g.none))) ∷ ((g.list (p 84 86 476 492) (g.part (g.atom (p 85 85 477 491) (g.spelled (k.Name (codes "define-library") false))) g.none))) ∷ ((g.list (p 87 89 493 509) (g.part (g.atom (p 88 88 494 508) (g.spelled (k.Name (codes "define-library") false))) g.none))) ∷ ((g.list (p 90 92 510 526) (g.part (g.atom (p 91 91 511 525) (g.spelled (k.Name (codes "define-library") false))) g.none))) ∷ ((g.list (p 93 95 527 543) (g.part (g.atom (p 94 94 528 542) (g.spelled (k.Name (codes "define-library") false))) g.none))) ∷ ((g.list (p 96 98 544 560) (g.part (g.atom (p 97 97 545 559) (g.spelled (k.Name (codes "define-library") false))) g.none))) ∷ ((g.list (p 99 101 561 577) (g.part (g.atom (p 100 100 562 576) (g.spelled (k.Name (codes "define-library") false))) g.none))) ∷ ((g.list (p 102 104 578 594) (g.part (g.atom (p 103 103 579 593) (g.spelled (k.Name (codes "define-library") false))) g.none))) ∷ ((g.list (p 105 107 595 611) (g.part (g.atom (p 106 106 596 610) (g.spelled (k.Name (codes "define-library") false))) g.none))) ∷ ((g.list (p 108 110 612 628) (g.part (g.atom (p 109 109 613 627) (g.spelled (k.Name (codes "define-library") false))) g.none))) ∷ ((g.list (p 111 113 629 645) (g.part (g.atom (p 112 112 630 644) (g.spelled (k.Name (codes "define-library") false))) g.none))) ∷ ((g.list (p 114 116 646 662) (g.part (g.atom (p 115 115 647 661) (g.spelled (k.Name (codes "define-library") false))) g.none))) ∷ ((g.list (p 117 119 663 679) (g.part (g.atom (p 118 118 664 678) (g.spelled (k.Name (codes "define-library") false))) g.none))) ∷ ((g.list (p 120 122 680 696) (g.part (g.atom (p 121 121 681 695) (g.spelled (k.Name (codes "define-library") false))) g.none))) ∷ ((g.list (p 123 125 697 713) (g.part (g.atom (p 124 124 698 712) (g.spelled (k.Name (codes "define-library") false))) g.none))) ∷ ((g.list (p 126 128 714 730) (g.part (g.atom (p 127 127 715 729) (g.spelled (k.Name (codes "define-library") false))) g.none))) ∷ ((g.list (p 129 131 731 747) (g.part (g.atom (p 130 130 732 746) (g.spelled (k.Name (codes "define-library") false))) g.none))) ∷ ((g.list (p 132 134 748 764) (g.part (g.atom (p 133 133 749 763) (g.spelled (k.Name (codes "define-library") false))) g.none))) ∷ ((g.list (p 135 137 765 781) (g.part (g.atom (p 136 136 766 780) (g.spelled (k.Name (codes "define-library") false))) g.none))) ∷ ((g.list (p 138 140 782 798) (g.part (g.atom (p 139 139 783 797) (g.spelled (k.Name (codes "define-library") false))) g.none))) ∷ ((g.list (p 141 143 799 815) (g.part (g.atom (p 142 142 800 814) (g.spelled (k.Name (codes "define-library") false))) g.none))) ∷ ((g.list (p 144 146 816 832) (g.part (g.atom (p 145 145 817 831) (g.spelled (k.Name (codes "define-library") false))) g.none))) ∷ ((g.list (p 147 149 833 849) (g.part (g.atom (p 148 148 834 848) (g.spelled (k.Name (codes "define-library") false))) g.none))) ∷ ((g.list (p 150 152 850 866) (g.part (g.atom (p 151 151 851 865) (g.spelled (k.Name (codes "define-library") false))) g.none))) ∷ ((g.list (p 153 155 867 883) (g.part (g.atom (p 154 154 868 882) (g.spelled (k.Name (codes "define-library") false))) g.none))) ∷ ((g.list (p 156 158 884 900) (g.part (g.atom (p 157 157 885 899) (g.spelled (k.Name (codes "define-library") false))) g.none))) ∷ ((g.list (p 159 161 901 917) (g.part (g.atom (p 160 160 902 916) (g.spelled (k.Name (codes "define-library") false))) g.none))) ∷ ((g.list (p 162 164 918 934) (g.part (g.atom (p 163 163 919 933) (g.spelled (k.Name (codes "define-library") false))) g.none))) ∷ ((g.list (p 165 167 935 951) (g.part (g.atom (p 166 166 936 950) (g.spelled (k.Name (codes "define-library") false))) g.none))) ∷ ((g.list (p 168 170 952 968) (g.part (g.atom (p 169 169 953 967) (g.spelled (k.Name (codes "define-library") false))) g.none))) ∷ ((g.list (p 171 173 969 985) (g.part (g.atom (p 172 172 970 984) (g.spelled (k.Name (codes "define-library") false))) g.none))) ∷ ((g.list (p 174 176 986 1002) (g.part (g.atom (p 175 175 987 1001) (g.spelled (k.Name (codes "define-library") false))) g.none))) ∷ ((g.list (p 177 179 1003 1019) (g.part (g.atom (p 178 178 1004 1018) (g.spelled (k.Name (codes "define-library") false))) g.none))) ∷ ((g.list (p 180 182 1020 1036) (g.part (g.atom (p 181 181 1021 1035) (g.spelled (k.Name (codes "define-library") false))) g.none))) ∷ ((g.list (p 183 185 1037 1053) (g.part (g.atom (p 184 184 1038 1052) (g.spelled (k.Name (codes "define-library") false))) g.none))) ∷ ((g.list (p 186 188 1054 1070) (g.part (g.atom (p 187 187 1055 1069) (g.spelled (k.Name (codes "define-library") false))) g.none))) ∷ ((g.list (p 189 191 1071 1087) (g.part (g.atom (p 190 190 1072 1086) (g.spelled (k.Name (codes "define-library") false))) g.none))) ∷ ((g.list (p 192 194 1088 1104) (g.part (g.atom (p 193 193 1089 1103) (g.spelled (k.Name (codes "define-library") false))) g.none))) ∷ ((g.list (p 195 197 1105 1121) (g.part (g.atom (p 196 196 1106 1120) (g.spelled (k.Name (codes "define-library") false))) g.none))) ∷ ((g.list (p 198 200 1122 1138) (g.part (g.atom (p 199 199 1123 1137) (g.spelled (k.Name (codes "define-library") false))) g.none))) ∷ ((g.list (p 201 203 1139 1155) (g.part (g.atom (p 202 202 1140 1154) (g.spelled (k.Name (codes "define-library") false))) g.none))) ∷ ((g.list (p 204 206 1156 1172) (g.part (g.atom (p 205 205 1157 1171) (g.spelled (k.Name (codes "define-library") false))) g.none))) ∷ ((g.list (p 207 209 1173 1189) (g.part (g.atom (p 208 208 1174 1188) (g.spelled (k.Name (codes "define-library") false))) g.none))) ∷ ((g.list (p 210 212 1190 1206) (g.part (g.atom (p 211 211 1191 1205) (g.spelled (k.Name (codes "define-library") false))) g.none))) ∷ ((g.list (p 213 215 1207 1223) (g.part (g.atom (p 214 214 1208 1222) (g.spelled (k.Name (codes "define-library") false))) g.none))) ∷ ((g.list (p 216 218 1224 1240) (g.part (g.atom (p 217 217 1225 1239) (g.spelled (k.Name (codes "define-library") false))) g.none))) ∷ ((g.list (p 219 221 1241 1257) (g.part (g.atom (p 220 220 1242 1256) (g.spelled (k.Name (codes "define-library") false))) g.none))) ∷ ((g.list (p 222 224 1258 1274) (g.part (g.atom (p 223 223 1259 1273) (g.spelled (k.Name (codes "define-library") false))) g.none))) ∷ ((g.list (p 225 227 1275 1291) (g.part (g.atom (p 226 226 1276 1290) (g.spelled (k.Name (codes "define-library") false))) g.none))) ∷ ((g.list (p 228 230 1292 1308) (g.part (g.atom (p 229 229 1293 1307) (g.spelled (k.Name (codes "define-library") false))) g.none))) ∷ ((g.list (p 231 233 1309 1325) (g.part (g.atom (p 232 232 1310 1324) (g.spelled (k.Name (codes "define-library") false))) g.none))) ∷ ((g.list (p 234 236 1326 1342) (g.part (g.atom (p 235 235 1327 1341) (g.spelled (k.Name (codes "define-library") false))) g.none))) ∷ ((g.list (p 237 239 1343 1359) (g.part (g.atom (p 238 238 1344 1358) (g.spelled (k.Name (codes "define-library") false))) g.none))) ∷ ((g.list (p 240 242 1360 1376) (g.part (g.atom (p 241 241 1361 1375) (g.spelled (k.Name (codes "define-library") false))) g.none))) ∷ ((g.list (p 243 245 1377 1393) (g.part (g.atom (p 244 244 1378 1392) (g.spelled (k.Name (codes "define-library") false))) g.none))) ∷ ((g.list (p 246 248 1394 1410) (g.part (g.atom (p 247 247 1395 1409) (g.spelled (k.Name (codes "define-library") false))) g.none))) ∷ ((g.list (p 249 251 1411 1427) (g.part (g.atom (p 250 250 1412 1426) (g.spelled (k.Name (codes "define-library") false))) g.none))) ∷ ((g.list (p 252 254 1428 1444) (g.part (g.atom (p 253 253 1429 1443) (g.spelled (k.Name (codes "define-library") false))) g.none))) ∷ ((g.list (p 255 257 1445 1461) (g.part (g.atom (p 256 256 1446 1460) (g.spelled (k.Name (codes "define-library") false))) g.none))) ∷ ((g.list (p 258 260 1462 1478) (g.part (g.atom (p 259 259 1463 1477) (g.spelled (k.Name (codes "define-library") false))) g.none))) ∷ ((g.list (p 261 263 1479 1495) (g.part (g.atom (p 262 262 1480 1494) (g.spelled (k.Name (codes "define-library") false))) g.none))) ∷ ((g.list (p 264 266 1496 1512) (g.part (g.atom (p 265 265 1497 1511) (g.spelled (k.Name (codes "define-library") false))) g.none))) ∷ ((g.list (p 267 269 1513 1529) (g.part (g.atom (p 268 268 1514 1528) (g.spelled (k.Name (codes "define-library") false))) g.none))) ∷ ((g.list (p 270 272 1530 1546) (g.part (g.atom (p 271 271 1531 1545) (g.spelled (k.Name (codes "define-library") false))) g.none))) ∷ ((g.list (p 273 275 1547 1563) (g.part (g.atom (p 274 274 1548 1562) (g.spelled (k.Name (codes "define-library") false))) g.none))) ∷ ((g.list (p 276 278 1564 1580) (g.part (g.atom (p 277 277 1565 1579) (g.spelled (k.Name (codes "define-library") false))) g.none))) ∷ ((g.list (p 279 281 1581 1597) (g.part (g.atom (p 280 280 1582 1596) (g.spelled (k.Name (codes "define-library") false))) g.none))) ∷ ((g.list (p 282 284 1598 1614) (g.part (g.atom (p 283 283 1599 1613) (g.spelled (k.Name (codes "define-library") false))) g.none))) ∷ ((g.list (p 285 287 1615 1631) (g.part (g.atom (p 286 286 1616 1630) (g.spelled (k.Name (codes "define-library") false))) g.none))) ∷ ((g.list (p 288 290 1632 1648) (g.part (g.atom (p 289 289 1633 1647) (g.spelled (k.Name (codes "define-library") false))) g.none))) ∷ ((g.list (p 291 293 1649 1665) (g.part (g.atom (p 292 292 1650 1664) (g.spelled (k.Name (codes "define-library") false))) g.none))) ∷ ((g.list (p 294 296 1666 1682) (g.part (g.atom (p 295 295 1667 1681) (g.spelled (k.Name (codes "define-library") false))) g.none))) ∷ ((g.list (p 297 299 1683 1699) (g.part (g.atom (p 298 298 1684 1698) (g.spelled (k.Name (codes "define-library") false))) g.none))) ∷ ((g.list (p 300 302 1700 1716) (g.part (g.atom (p 301 301 1701 1715) (g.spelled (k.Name (codes "define-library") false))) g.none))) ∷ ((g.list (p 303 305 1717 1733) (g.part (g.atom (p 304 304 1718 1732) (g.spelled (k.Name (codes "define-library") false))) g.none))) ∷ ((g.list (p 306 308 1734 1750) (g.part (g.atom (p 307 307 1735 1749) (g.spelled (k.Name (codes "define-library") false))) g.none))) ∷ ((g.list (p 309 311 1751 1767) (g.part (g.atom (p 310 310 1752 1766) (g.spelled (k.Name (codes "define-library") false))) g.none))) ∷ ((g.list (p 312 314 1768 1784) (g.part (g.atom (p 313 313 1769 1783) (g.spelled (k.Name (codes "define-library") false))) g.none))) ∷ ((g.list (p 315 317 1785 1801) (g.part (g.atom (p 316 316 1786 1800) (g.spelled (k.Name (codes "define-library") false))) g.none))) ∷ ((g.list (p 318 320 1802 1818) (g.part (g.atom (p 319 319 1803 1817) (g.spelled (k.Name (codes "define-library") false))) g.none))) ∷ ((g.list (p 321 323 1819 1835) (g.part (g.atom (p 322 322 1820 1834) (g.spelled (k.Name (codes "define-library") false))) g.none))) ∷ ((g.list (p 324 326 1836 1852) (g.part (g.atom (p 325 325 1837 1851) (g.spelled (k.Name (codes "define-library") false))) g.none))) ∷ ((g.list (p 327 329 1853 1869) (g.part (g.atom (p 328 328 1854 1868) (g.spelled (k.Name (codes "define-library") false))) g.none))) ∷ ((g.list (p 330 332 1870 1886) (g.part (g.atom (p 331 331 1871 1885) (g.spelled (k.Name (codes "define-library") false))) g.none))) ∷ ((g.list (p 333 335 1887 1903) (g.part (g.atom (p 334 334 1888 1902) (g.spelled (k.Name (codes "define-library") false))) g.none))) ∷ ((g.list (p 336 338 1904 1920) (g.part (g.atom (p 337 337 1905 1919) (g.spelled (k.Name (codes "define-library") false))) g.none))) ∷ ((g.list (p 339 341 1921 1937) (g.part (g.atom (p 340 340 1922 1936) (g.spelled (k.Name (codes "define-library") false))) g.none))) ∷ ((g.list (p 342 344 1938 1954) (g.part (g.atom (p 343 343 1939 1953) (g.spelled (k.Name (codes "define-library") false))) g.none))) ∷ ((g.list (p 345 347 1955 1971) (g.part (g.atom (p 346 346 1956 1970) (g.spelled (k.Name (codes "define-library") false))) g.none))) ∷ ((g.list (p 348 350 1972 1988) (g.part (g.atom (p 349 349 1973 1987) (g.spelled (k.Name (codes "define-library") false))) g.none))) ∷ ((g.list (p 351 353 1989 2005) (g.part (g.atom (p 352 352 1990 2004) (g.spelled (k.Name (codes "define-library") false))) g.none))) ∷ ((g.list (p 354 356 2006 2022) (g.part (g.atom (p 355 355 2007 2021) (g.spelled (k.Name (codes "define-library") false))) g.none))) ∷ ((g.list (p 357 359 2023 2039) (g.part (g.atom (p 358 358 2024 2038) (g.spelled (k.Name (codes "define-library") false))) g.none))) ∷ ((g.list (p 360 362 2040 2056) (g.part (g.atom (p 361 361 2041 2055) (g.spelled (k.Name (codes "define-library") false))) g.none))) ∷ ((g.list (p 363 365 2057 2073) (g.part (g.atom (p 364 364 2058 2072) (g.spelled (k.Name (codes "define-library") false))) g.none))) ∷ ((g.list (p 366 368 2074 2090) (g.part (g.atom (p 367 367 2075 2089) (g.spelled (k.Name (codes "define-library") false))) g.none))) ∷ ((g.list (p 369 371 2091 2107) (g.part (g.atom (p 370 370 2092 2106) (g.spelled (k.Name (codes "define-library") false))) g.none))) ∷ ((g.list (p 372 374 2108 2124) (g.part (g.atom (p 373 373 2109 2123) (g.spelled (k.Name (codes "define-library") false))) g.none))) ∷ ((g.list (p 375 377 2125 2141) (g.part (g.atom (p 376 376 2126 2140) (g.spelled (k.Name (codes "define-library") false))) g.none))) ∷ ((g.list (p 378 380 2142 2158) (g.part (g.atom (p 379 379 2143 2157) (g.spelled (k.Name (codes "define-library") false))) g.none))) ∷ [])) ∷ ((codes "file:///m.scm"), Some (((g.list (p 0 15 0 45) (g.part (g.atom (p 1 1 1 14) (g.spelled (k.Name (codes "define-syntax") false))) (g.part (g.atom (p 2 2 15 16) (g.spelled (k.Name (codes "m") false))) (g.part (g.list (p 3 14 17 44) (g.part (g.atom (p 4 4 18 30) (g.spelled (k.Name (codes "syntax-rules") false))) (g.part (g.list (p 5 6 31 33) g.none) (g.part (g.list (p 7 13 34 43) (g.part (g.list (p 8 11 35 40) (g.part (g.atom (p 9 9 36 37) (g.spelled (k.Name (codes "_") false))) (g.part (g.atom (p 10 10 38 39) (g.spelled (k.Name (codes "a") false))) g.none))) (g.part (g.atom (p 12 12 41 42) (g.spelled (k.Name (codes "a") false))) g.none))) g.none)))) g.none))))) ∷ ((g.list (p 16 19 46 51) (g.part (g.atom (p 17 17 47 48) (g.spelled (k.Name (codes "m") false))) (g.part (g.atom (p 18 18 49 50) (g.spelled (k.Numeral (codes "1")))) g.none)))) ∷ [])) ∷ []) ≡ ([], 1)
unfolding base_names standard_libraries prelude encode_utf8
unit_was_behind_the_most = refl

pub asked_a_library_behind_the_clause_that_holds : carried_rows (((codes "file:///a.scm"), Some (((g.list (p 0 15 0 45) (g.part (g.atom (p 1 1 1 14) (g.spelled (k.Name (codes "define-syntax") false))) (g.part (g.atom (p 2 2 15 16) (g.spelled (k.Name (codes "m") false))) (g.part (g.list (p 3 14 17 44) (g.part (g.atom (p 4 4 18 30) (g.spelled (k.Name (codes "syntax-rules") false))) (g.part (g.list (p 5 6 31 33) g.none) (g.part (g.list (p 7 13 34 43) (g.part (g.list (p 8 11 35 40) (g.part (g.atom (p 9 9 36 37) (g.spelled (k.Name (codes "_") false))) (g.part (g.atom (p 10 10 38 39) (g.spelled (k.Name (codes "a") false))) g.none))) (g.part (g.atom (p 12 12 41 42) (g.spelled (k.Name (codes "a") false))) g.none))) g.none)))) g.none))))) ∷ ((g.list (p 16 37 46 94) (g.part (g.atom (p 17 17 47 58) (g.spelled (k.Name (codes "cond-expand") false))) (g.part (g.list (p 18 24 59 71) (g.part (g.atom (p 19 19 60 64) (g.spelled (k.Name (codes "r7rs") false))) (g.part (g.list (p 20 23 65 70) (g.part (g.atom (p 21 21 66 67) (g.spelled (k.Name (codes "m") false))) (g.part (g.atom (p 22 22 68 69) (g.spelled (k.Numeral (codes "1")))) g.none))) g.none))) (g.part (g.list (p 25 36 72 93) (g.part (g.list (p 26 31 73 86) (g.part (g.atom (p 27 27 74 81) (g.spelled (k.Name (codes "library") false))) (g.part (g.list (p 28 30 82 85) (g.part (g.atom (p 29 29 83 84) (g.spelled (k.Name (codes "l") false))) g.none)) g.none))) (g.part (g.list (p 32 35 87 92) (g.part (g.atom (p 33 33 88 89) (g.spelled (k.Name (codes "m") false))) (g.part (g.atom (p 34 34 90 91) (g.spelled (k.Numeral (codes "2")))) g.none))) g.none))) g.none))))) ∷ [])) ∷ []) (((codes "file:///a.scm"), Some (((g.list (p 0 15 0 45) (g.part (g.atom (p 1 1 1 14) (g.spelled (k.Name (codes "define-syntax") false))) (g.part (g.atom (p 2 2 15 16) (g.spelled (k.Name (codes "m") false))) (g.part (g.list (p 3 14 17 44) (g.part (g.atom (p 4 4 18 30) (g.spelled (k.Name (codes "syntax-rules") false))) (g.part (g.list (p 5 6 31 33) g.none) (g.part (g.list (p 7 13 34 43) (g.part (g.list (p 8 11 35 40) (g.part (g.atom (p 9 9 36 37) (g.spelled (k.Name (codes "_") false))) (g.part (g.atom (p 10 10 38 39) (g.spelled (k.Name (codes "a") false))) g.none))) (g.part (g.atom (p 12 12 41 42) (g.spelled (k.Name (codes "a") false))) g.none))) g.none)))) g.none))))) ∷ ((g.list (p 16 37 46 94) (g.part (g.atom (p 17 17 47 58) (g.spelled (k.Name (codes "cond-expand") false))) (g.part (g.list (p 18 24 59 71) (g.part (g.atom (p 19 19 60 64) (g.spelled (k.Name (codes "r7rs") false))) (g.part (g.list (p 20 23 65 70) (g.part (g.atom (p 21 21 66 67) (g.spelled (k.Name (codes "m") false))) (g.part (g.atom (p 22 22 68 69) (g.spelled (k.Numeral (codes "1")))) g.none))) g.none))) (g.part (g.list (p 25 36 72 93) (g.part (g.list (p 26 31 73 86) (g.part (g.atom (p 27 27 74 81) (g.spelled (k.Name (codes "library") false))) (g.part (g.list (p 28 30 82 85) (g.part (g.atom (p 29 29 83 84) (g.spelled (k.Name (codes "l") false))) g.none)) g.none))) (g.part (g.list (p 32 35 87 92) (g.part (g.atom (p 33 33 88 89) (g.spelled (k.Name (codes "m") false))) (g.part (g.atom (p 34 34 90 91) (g.spelled (k.Numeral (codes "2")))) g.none))) g.none))) g.none))))) ∷ [])) ∷ ((codes "file:///l.sld"), Some (((g.list (p 0 5 0 20) (g.part (g.atom (p 1 1 1 15) (g.spelled (k.Name (codes "define-library") false))) (g.part (g.list (p 2 4 16 19) (g.part (g.atom (p 3 3 17 18) (g.spelled (k.Name (codes "l") false))) g.none)) g.none)))) ∷ [])) ∷ []) ≡ ((0, 0) ∷ [], 1)
unfolding base_names standard_libraries prelude encode_utf8
asked_a_library_behind_the_clause_that_holds = refl

pub values_and_records_carried : carried_rows (((codes "file:///a.scm"), Some (((g.list (p 0 12 0 38) (g.part (g.atom (p 1 1 1 19) (g.spelled (k.Name (codes "define-record-type") false))) (g.part (g.atom (p 2 2 20 21) (g.spelled (k.Name (codes "p") false))) (g.part (g.list (p 3 6 22 27) (g.part (g.atom (p 4 4 23 24) (g.spelled (k.Name (codes "q") false))) (g.part (g.atom (p 5 5 25 26) (g.spelled (k.Name (codes "x") false))) g.none))) (g.part (g.atom (p 7 7 28 30) (g.spelled (k.Name (codes "p?") false))) (g.part (g.list (p 8 11 31 37) (g.part (g.atom (p 9 9 32 33) (g.spelled (k.Name (codes "x") false))) (g.part (g.atom (p 10 10 34 36) (g.spelled (k.Name (codes "px") false))) g.none))) g.none))))))) ∷ ((g.list (p 13 24 39 69) (g.part (g.atom (p 14 14 40 53) (g.spelled (k.Name (codes "define-values") false))) (g.part (g.list (p 15 19 54 61) (g.part (g.atom (p 16 16 55 56) (g.spelled (k.Name (codes "a") false))) (g.tail (g.atom (p 18 18 59 60) (g.spelled (k.Name (codes "b") false)))))) (g.part (g.list (p 20 23 62 68) (g.part (g.atom (p 21 21 63 65) (g.spelled (k.Name (codes "px") false))) (g.part (g.atom (p 22 22 66 67) (g.spelled (k.Numeral (codes "1")))) g.none))) g.none))))) ∷ ((g.list (p 25 29 70 80) (g.part (g.atom (p 26 26 71 75) (g.spelled (k.Name (codes "list") false))) (g.part (g.atom (p 27 27 76 77) (g.spelled (k.Name (codes "a") false))) (g.part (g.atom (p 28 28 78 79) (g.spelled (k.Name (codes "b") false))) g.none))))) ∷ [])) ∷ []) (((codes "file:///a.scm"), Some (((g.list (p 0 4 0 12) (g.part (g.atom (p 1 1 1 7) (g.spelled (k.Name (codes "define") false))) (g.part (g.atom (p 2 2 8 9) (g.spelled (k.Name (codes "w") false))) (g.part (g.atom (p 3 3 10 11) (g.spelled (k.Numeral (codes "0")))) g.none))))) ∷ ((g.list (p 5 17 13 51) (g.part (g.atom (p 6 6 14 32) (g.spelled (k.Name (codes "define-record-type") false))) (g.part (g.atom (p 7 7 33 34) (g.spelled (k.Name (codes "p") false))) (g.part (g.list (p 8 11 35 40) (g.part (g.atom (p 9 9 36 37) (g.spelled (k.Name (codes "q") false))) (g.part (g.atom (p 10 10 38 39) (g.spelled (k.Name (codes "x") false))) g.none))) (g.part (g.atom (p 12 12 41 43) (g.spelled (k.Name (codes "p?") false))) (g.part (g.list (p 13 16 44 50) (g.part (g.atom (p 14 14 45 46) (g.spelled (k.Name (codes "x") false))) (g.part (g.atom (p 15 15 47 49) (g.spelled (k.Name (codes "px") false))) g.none))) g.none))))))) ∷ ((g.list (p 18 29 52 82) (g.part (g.atom (p 19 19 53 66) (g.spelled (k.Name (codes "define-values") false))) (g.part (g.list (p 20 24 67 74) (g.part (g.atom (p 21 21 68 69) (g.spelled (k.Name (codes "a") false))) (g.tail (g.atom (p 23 23 72 73) (g.spelled (k.Name (codes "b") false)))))) (g.part (g.list (p 25 28 75 81) (g.part (g.atom (p 26 26 76 78) (g.spelled (k.Name (codes "px") false))) (g.part (g.atom (p 27 27 79 80) (g.spelled (k.Numeral (codes "1")))) g.none))) g.none))))) ∷ ((g.list (p 30 34 83 93) (g.part (g.atom (p 31 31 84 88) (g.spelled (k.Name (codes "list") false))) (g.part (g.atom (p 32 32 89 90) (g.spelled (k.Name (codes "a") false))) (g.part (g.atom (p 33 33 91 92) (g.spelled (k.Name (codes "b") false))) g.none))))) ∷ [])) ∷ []) ≡ ((0, 1) ∷ (0, 2) ∷ (0, 3) ∷ [], 0)
unfolding base_names standard_libraries prelude encode_utf8
values_and_records_carried = refl

pub values_and_records_redefined : carried_rows (((codes "file:///a.scm"), Some (((g.list (p 0 40 0 121) (g.part (g.atom (p 1 1 1 15) (g.spelled (k.Name (codes "define-library") false))) (g.part (g.list (p 2 4 16 19) (g.part (g.atom (p 3 3 17 18) (g.spelled (k.Name (codes "l") false))) g.none)) (g.part (g.list (p 5 11 20 42) (g.part (g.atom (p 6 6 21 27) (g.spelled (k.Name (codes "import") false))) (g.part (g.list (p 7 10 28 41) (g.part (g.atom (p 8 8 29 35) (g.spelled (k.Name (codes "scheme") false))) (g.part (g.atom (p 9 9 36 40) (g.spelled (k.Name (codes "base") false))) g.none))) g.none))) (g.part (g.list (p 12 39 43 120) (g.part (g.atom (p 13 13 44 49) (g.spelled (k.Name (codes "begin") false))) (g.part (g.list (p 14 26 50 88) (g.part (g.atom (p 15 15 51 69) (g.spelled (k.Name (codes "define-record-type") false))) (g.part (g.atom (p 16 16 70 71) (g.spelled (k.Name (codes "p") false))) (g.part (g.list (p 17 20 72 77) (g.part (g.atom (p 18 18 73 74) (g.spelled (k.Name (codes "q") false))) (g.part (g.atom (p 19 19 75 76) (g.spelled (k.Name (codes "x") false))) g.none))) (g.part (g.atom (p 21 21 78 80) (g.spelled (k.Name (codes "p?") false))) (g.part (g.list (p 22 25 81 87) (g.part (g.atom (p 23 23 82 83) (g.spelled (k.Name (codes "x") false))) (g.part (g.atom (p 24 24 84 86) (g.spelled (k.Name (codes "px") false))) g.none))) g.none)))))) (g.part (g.list (p 27 38 89 119) (g.part (g.atom (p 28 28 90 103) (g.spelled (k.Name (codes "define-values") false))) (g.part (g.list (p 29 33 104 111) (g.part (g.atom (p 30 30 105 106) (g.spelled (k.Name (codes "a") false))) (g.tail (g.atom (p 32 32 109 110) (g.spelled (k.Name (codes "b") false)))))) (g.part (g.list (p 34 37 112 118) (g.part (g.atom (p 35 35 113 115) (g.spelled (k.Name (codes "px") false))) (g.part (g.atom (p 36 36 116 117) (g.spelled (k.Numeral (codes "1")))) g.none))) g.none)))) g.none)))) g.none)))))) ∷ [])) ∷ []) (((codes "file:///a.scm"), Some (((g.list (p 0 45 0 134) (g.part (g.atom (p 1 1 1 15) (g.spelled (k.Name (codes "define-library") false))) (g.part (g.list (p 2 4 16 19) (g.part (g.atom (p 3 3 17 18) (g.spelled (k.Name (codes "l") false))) g.none)) (g.part (g.list (p 5 11 20 42) (g.part (g.atom (p 6 6 21 27) (g.spelled (k.Name (codes "import") false))) (g.part (g.list (p 7 10 28 41) (g.part (g.atom (p 8 8 29 35) (g.spelled (k.Name (codes "scheme") false))) (g.part (g.atom (p 9 9 36 40) (g.spelled (k.Name (codes "base") false))) g.none))) g.none))) (g.part (g.list (p 12 44 43 133) (g.part (g.atom (p 13 13 44 49) (g.spelled (k.Name (codes "begin") false))) (g.part (g.list (p 14 18 50 62) (g.part (g.atom (p 15 15 51 57) (g.spelled (k.Name (codes "define") false))) (g.part (g.atom (p 16 16 58 59) (g.spelled (k.Name (codes "b") false))) (g.part (g.atom (p 17 17 60 61) (g.spelled (k.Numeral (codes "0")))) g.none)))) (g.part (g.list (p 19 31 63 101) (g.part (g.atom (p 20 20 64 82) (g.spelled (k.Name (codes "define-record-type") false))) (g.part (g.atom (p 21 21 83 84) (g.spelled (k.Name (codes "p") false))) (g.part (g.list (p 22 25 85 90) (g.part (g.atom (p 23 23 86 87) (g.spelled (k.Name (codes "q") false))) (g.part (g.atom (p 24 24 88 89) (g.spelled (k.Name (codes "x") false))) g.none))) (g.part (g.atom (p 26 26 91 93) (g.spelled (k.Name (codes "p?") false))) (g.part (g.list (p 27 30 94 100) (g.part (g.atom (p 28 28 95 96) (g.spelled (k.Name (codes "x") false))) (g.part (g.atom (p 29 29 97 99) (g.spelled (k.Name (codes "px") false))) g.none))) g.none)))))) (g.part (g.list (p 32 43 102 132) (g.part (g.atom (p 33 33 103 116) (g.spelled (k.Name (codes "define-values") false))) (g.part (g.list (p 34 38 117 124) (g.part (g.atom (p 35 35 118 119) (g.spelled (k.Name (codes "a") false))) (g.tail (g.atom (p 37 37 122 123) (g.spelled (k.Name (codes "b") false)))))) (g.part (g.list (p 39 42 125 131) (g.part (g.atom (p 40 40 126 128) (g.spelled (k.Name (codes "px") false))) (g.part (g.atom (p 41 41 129 130) (g.spelled (k.Numeral (codes "1")))) g.none))) g.none)))) g.none))))) g.none)))))) ∷ [])) ∷ []) ≡ ((0, 2) ∷ [], 0)
unfolding base_names standard_libraries prelude encode_utf8
values_and_records_redefined = refl

pub asked_the_names_in_a_quasiquotation : carried_rows (((codes "file:///a.scm"), Some (((g.list (p 0 7 0 20) (g.part (g.atom (p 1 1 1 11) (g.spelled (k.Name (codes "quasiquote") false))) (g.part (g.list (p 2 6 12 19) (g.part (g.atom (p 3 3 13 14) (g.spelled (k.Name (codes "a") false))) (g.part (g.atom (p 4 4 15 16) (g.spelled (k.Name (codes "b") false))) (g.part (g.atom (p 5 5 17 18) (g.spelled (k.Numeral (codes "1")))) g.none)))) g.none)))) ∷ ((g.list (p 8 14 21 39) (g.part (g.atom (p 9 9 22 32) (g.spelled (k.Name (codes "quasiquote") false))) (g.part (g.list (p 10 13 33 38) (g.part (g.atom (p 11 11 34 35) (g.spelled (k.Name (codes "a") false))) (g.part (g.atom (p 12 12 36 37) (g.spelled (k.Numeral (codes "1")))) g.none))) g.none)))) ∷ [])) ∷ []) (((codes "file:///a.scm"), Some (((g.list (p 0 7 0 20) (g.part (g.atom (p 1 1 1 11) (g.spelled (k.Name (codes "quasiquote") false))) (g.part (g.list (p 2 6 12 19) (g.part (g.atom (p 3 3 13 14) (g.spelled (k.Name (codes "a") false))) (g.part (g.atom (p 4 4 15 16) (g.spelled (k.Name (codes "b") false))) (g.part (g.atom (p 5 5 17 18) (g.spelled (k.Numeral (codes "1")))) g.none)))) g.none)))) ∷ ((g.list (p 8 14 21 39) (g.part (g.atom (p 9 9 22 32) (g.spelled (k.Name (codes "quasiquote") false))) (g.part (g.list (p 10 13 33 38) (g.part (g.atom (p 11 11 34 35) (g.spelled (k.Name (codes "a") false))) (g.part (g.atom (p 12 12 36 37) (g.spelled (k.Numeral (codes "1")))) g.none))) g.none)))) ∷ ((g.list (p 15 19 40 52) (g.part (g.atom (p 16 16 41 47) (g.spelled (k.Name (codes "define") false))) (g.part (g.atom (p 17 17 48 49) (g.spelled (k.Name (codes "b") false))) (g.part (g.atom (p 18 18 50 51) (g.spelled (k.Numeral (codes "1")))) g.none))))) ∷ [])) ∷ []) ≡ ((0, 1) ∷ [], 0)
unfolding base_names standard_libraries prelude encode_utf8
asked_the_names_in_a_quasiquotation = refl
