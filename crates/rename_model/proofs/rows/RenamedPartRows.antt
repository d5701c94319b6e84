-- Documents that include one another, and how they differ from what they are once identifiers that begin at these bytes have other names.
-- Written by tests/definitions/rows; each row is checked by computing it.
use Rattle.std.specs.Prelude.{◌≡◌, ℕ, Bool, true, false, List, [], ◌∷◌, Option, Some, None, codes, refl}
use Rattle.std.specs.Char.{encode_utf8}
use Rattle.scheme_model.specs.declared.Occ.{Occ}
use Rattle.scheme_model.specs.StandardNames.{base_names}
use Rattle.scheme_model.specs.StandardLibraries.{standard_libraries}
use Rattle.scheme_model.specs.Prelude.{prelude}
use Rattle.scheme_model.specs.Kinds as k
use Rattle.scheme_model.specs.Data as g
use Rattle.rename_model.specs.Difference as w
use Rattle.rename_model.proofs.SameShown.{renamed_parts}
use Rattle.scheme_model.specs.Diagnostics.{Span}

abbrev s : ℕ → ℕ → Span
s start end = record { start = start; end = end }

abbrev p : ℕ → ℕ → ℕ → ℕ → g.Place
p first last start end = record { first = first; last = last; start = start; end = end }

abbrev o : ℕ → ℕ → ℕ → Occ
o unit form token = record { unit = unit; form = form; token = token }

abbrev d : w.Kind → (unit form : ℕ) → Option Occ → (before after : w.Side) → w.Difference
d kind unit form place before after = record { kind = kind; unit = unit; form = form; occ = place; before = before; after = after }

pub renamed_in_both_units : renamed_parts (((s 0 1) ∷ (s 1 7) ∷ (s 8 9) ∷ (s 9 15) ∷ (s 16 20) ∷ (s 20 21) ∷ (s 21 22) ∷ (s 23 24) ∷ (s 24 31) ∷ (s 32 39) ∷ (s 39 40) ∷ (s 41 42) ∷ []) ∷ ((s 0 1) ∷ (s 1 7) ∷ (s 8 9) ∷ (s 9 15) ∷ (s 16 20) ∷ (s 20 21) ∷ (s 21 22) ∷ (s 23 24) ∷ (s 24 31) ∷ (s 32 39) ∷ (s 39 40) ∷ (s 41 42) ∷ []) ∷ ((s 0 1) ∷ (s 1 7) ∷ (s 8 9) ∷ (s 9 15) ∷ (s 16 20) ∷ (s 20 21) ∷ (s 21 22) ∷ (s 23 24) ∷ (s 24 30) ∷ (s 31 32) ∷ (s 33 34) ∷ (s 34 35) ∷ (s 36 37) ∷ []) ∷ ((s 0 1) ∷ (s 1 7) ∷ (s 8 9) ∷ (s 10 11) ∷ (s 11 12) ∷ []) ∷ []) ((0, (codes "a.scm"), 0) ∷ (0, (codes "b.scm"), 1) ∷ (0, (codes "c.scm"), 2) ∷ (0, (codes "p.scm"), 3) ∷ (1, (codes "a.scm"), 0) ∷ (1, (codes "b.scm"), 1) ∷ (1, (codes "c.scm"), 2) ∷ (1, (codes "p.scm"), 3) ∷ (2, (codes "a.scm"), 0) ∷ (2, (codes "b.scm"), 1) ∷ (2, (codes "c.scm"), 2) ∷ (2, (codes "p.scm"), 3) ∷ (3, (codes "a.scm"), 0) ∷ (3, (codes "b.scm"), 1) ∷ (3, (codes "c.scm"), 2) ∷ (3, (codes "p.scm"), 3) ∷ []) ((Some (((g.list (p 0 6 0 22) (g.part (g.atom (p 1 1 1 7) (g.spelled (k.Name (codes "import") false))) (g.part (g.list (p 2 5 8 21) (g.part (g.atom (p 3 3 9 15) (g.spelled (k.Name (codes "scheme") false))) (g.part (g.atom (p 4 4 16 20) (g.spelled (k.Name (codes "base") false))) g.none))) g.none)))) ∷ ((g.list (p 7 10 23 40) (g.part (g.atom (p 8 8 24 31) (g.spelled (k.Name (codes "include") false))) (g.part (g.atom (p 9 9 32 39) (g.spelled (k.Quoted (codes "p.scm")))) g.none)))) ∷ ((g.atom (p 11 11 41 42) (g.spelled (k.Name (codes "x") false)))) ∷ [])) ∷ (Some (((g.list (p 0 6 0 22) (g.part (g.atom (p 1 1 1 7) (g.spelled (k.Name (codes "import") false))) (g.part (g.list (p 2 5 8 21) (g.part (g.atom (p 3 3 9 15) (g.spelled (k.Name (codes "scheme") false))) (g.part (g.atom (p 4 4 16 20) (g.spelled (k.Name (codes "base") false))) g.none))) g.none)))) ∷ ((g.list (p 7 10 23 40) (g.part (g.atom (p 8 8 24 31) (g.spelled (k.Name (codes "include") false))) (g.part (g.atom (p 9 9 32 39) (g.spelled (k.Quoted (codes "p.scm")))) g.none)))) ∷ ((g.atom (p 11 11 41 42) (g.spelled (k.Name (codes "x") false)))) ∷ [])) ∷ (Some (((g.list (p 0 6 0 22) (g.part (g.atom (p 1 1 1 7) (g.spelled (k.Name (codes "import") false))) (g.part (g.list (p 2 5 8 21) (g.part (g.atom (p 3 3 9 15) (g.spelled (k.Name (codes "scheme") false))) (g.part (g.atom (p 4 4 16 20) (g.spelled (k.Name (codes "base") false))) g.none))) g.none)))) ∷ ((g.list (p 7 11 23 35) (g.part (g.atom (p 8 8 24 30) (g.spelled (k.Name (codes "define") false))) (g.part (g.atom (p 9 9 31 32) (g.spelled (k.Name (codes "x") false))) (g.part (g.atom (p 10 10 33 34) (g.spelled (k.Numeral (codes "1")))) g.none))))) ∷ ((g.atom (p 12 12 36 37) (g.spelled (k.Name (codes "x") false)))) ∷ [])) ∷ (Some (((g.list (p 0 4 0 12) (g.part (g.atom (p 1 1 1 7) (g.spelled (k.Name (codes "define") false))) (g.part (g.atom (p 2 2 8 9) (g.spelled (k.Name (codes "x") false))) (g.part (g.atom (p 3 3 10 11) (g.spelled (k.Numeral (codes "1")))) g.none))))) ∷ [])) ∷ []) ((Some (((g.list (p 0 6 0 22) (g.part (g.atom (p 1 1 1 7) (g.spelled (k.Name (codes "import") false))) (g.part (g.list (p 2 5 8 21) (g.part (g.atom (p 3 3 9 15) (g.spelled (k.Name (codes "scheme") false))) (g.part (g.atom (p 4 4 16 20) (g.spelled (k.Name (codes "base") false))) g.none))) g.none)))) ∷ ((g.list (p 7 10 23 40) (g.part (g.atom (p 8 8 24 31) (g.spelled (k.Name (codes "include") false))) (g.part (g.atom (p 9 9 32 39) (g.spelled (k.Quoted (codes "p.scm")))) g.none)))) ∷ ((g.atom (p 11 11 41 42) (g.spelled (k.Name (codes "y") false)))) ∷ [])) ∷ (Some (((g.list (p 0 6 0 22) (g.part (g.atom (p 1 1 1 7) (g.spelled (k.Name (codes "import") false))) (g.part (g.list (p 2 5 8 21) (g.part (g.atom (p 3 3 9 15) (g.spelled (k.Name (codes "scheme") false))) (g.part (g.atom (p 4 4 16 20) (g.spelled (k.Name (codes "base") false))) g.none))) g.none)))) ∷ ((g.list (p 7 10 23 40) (g.part (g.atom (p 8 8 24 31) (g.spelled (k.Name (codes "include") false))) (g.part (g.atom (p 9 9 32 39) (g.spelled (k.Quoted (codes "p.scm")))) g.none)))) ∷ ((g.atom (p 11 11 41 42) (g.spelled (k.Name (codes "y") false)))) ∷ [])) ∷ (Some (((g.list (p 0 6 0 22) (g.part (g.atom (p 1 1 1 7) (g.spelled (k.Name (codes "import") false))) (g.part (g.list (p 2 5 8 21) (g.part (g.atom (p 3 3 9 15) (g.spelled (k.Name (codes "scheme") false))) (g.part (g.atom (p 4 4 16 20) (g.spelled (k.Name (codes "base") false))) g.none))) g.none)))) ∷ ((g.list (p 7 11 23 35) (g.part (g.atom (p 8 8 24 30) (g.spelled (k.Name (codes "define") false))) (g.part (g.atom (p 9 9 31 32) (g.spelled (k.Name (codes "x") false))) (g.part (g.atom (p 10 10 33 34) (g.spelled (k.Numeral (codes "1")))) g.none))))) ∷ ((g.atom (p 12 12 36 37) (g.spelled (k.Name (codes "x") false)))) ∷ [])) ∷ (Some (((g.list (p 0 4 0 12) (g.part (g.atom (p 1 1 1 7) (g.spelled (k.Name (codes "define") false))) (g.part (g.atom (p 2 2 8 9) (g.spelled (k.Name (codes "y") false))) (g.part (g.atom (p 3 3 10 11) (g.spelled (k.Numeral (codes "1")))) g.none))))) ∷ [])) ∷ []) (((0, 41), (codes "y")) ∷ ((1, 41), (codes "y")) ∷ ((3, 8), (codes "y")) ∷ []) ≡ None
unfolding base_names standard_libraries prelude encode_utf8
renamed_in_both_units = refl

pub renamed_in_one_unit_alone : renamed_parts (((s 0 1) ∷ (s 1 7) ∷ (s 8 9) ∷ (s 9 15) ∷ (s 16 20) ∷ (s 20 21) ∷ (s 21 22) ∷ (s 23 24) ∷ (s 24 31) ∷ (s 32 39) ∷ (s 39 40) ∷ (s 41 42) ∷ []) ∷ ((s 0 1) ∷ (s 1 7) ∷ (s 8 9) ∷ (s 9 15) ∷ (s 16 20) ∷ (s 20 21) ∷ (s 21 22) ∷ (s 23 24) ∷ (s 24 31) ∷ (s 32 39) ∷ (s 39 40) ∷ (s 41 42) ∷ []) ∷ ((s 0 1) ∷ (s 1 7) ∷ (s 8 9) ∷ (s 9 15) ∷ (s 16 20) ∷ (s 20 21) ∷ (s 21 22) ∷ (s 23 24) ∷ (s 24 30) ∷ (s 31 32) ∷ (s 33 34) ∷ (s 34 35) ∷ (s 36 37) ∷ []) ∷ ((s 0 1) ∷ (s 1 7) ∷ (s 8 9) ∷ (s 10 11) ∷ (s 11 12) ∷ []) ∷ []) ((0, (codes "a.scm"), 0) ∷ (0, (codes "b.scm"), 1) ∷ (0, (codes "c.scm"), 2) ∷ (0, (codes "p.scm"), 3) ∷ (1, (codes "a.scm"), 0) ∷ (1, (codes "b.scm"), 1) ∷ (1, (codes "c.scm"), 2) ∷ (1, (codes "p.scm"), 3) ∷ (2, (codes "a.scm"), 0) ∷ (2, (codes "b.scm"), 1) ∷ (2, (codes "c.scm"), 2) ∷ (2, (codes "p.scm"), 3) ∷ (3, (codes "a.scm"), 0) ∷ (3, (codes "b.scm"), 1) ∷ (3, (codes "c.scm"), 2) ∷ (3, (codes "p.scm"), 3) ∷ []) ((Some (((g.list (p 0 6 0 22) (g.part (g.atom (p 1 1 1 7) (g.spelled (k.Name (codes "import") false))) (g.part (g.list (p 2 5 8 21) (g.part (g.atom (p 3 3 9 15) (g.spelled (k.Name (codes "scheme") false))) (g.part (g.atom (p 4 4 16 20) (g.spelled (k.Name (codes "base") false))) g.none))) g.none)))) ∷ ((g.list (p 7 10 23 40) (g.part (g.atom (p 8 8 24 31) (g.spelled (k.Name (codes "include") false))) (g.part (g.atom (p 9 9 32 39) (g.spelled (k.Quoted (codes "p.scm")))) g.none)))) ∷ ((g.atom (p 11 11 41 42) (g.spelled (k.Name (codes "x") false)))) ∷ [])) ∷ (Some (((g.list (p 0 6 0 22) (g.part (g.atom (p 1 1 1 7) (g.spelled (k.Name (codes "import") false))) (g.part (g.list (p 2 5 8 21) (g.part (g.atom (p 3 3 9 15) (g.spelled (k.Name (codes "scheme") false))) (g.part (g.atom (p 4 4 16 20) (g.spelled (k.Name (codes "base") false))) g.none))) g.none)))) ∷ ((g.list (p 7 10 23 40) (g.part (g.atom (p 8 8 24 31) (g.spelled (k.Name (codes "include") false))) (g.part (g.atom (p 9 9 32 39) (g.spelled (k.Quoted (codes "p.scm")))) g.none)))) ∷ ((g.atom (p 11 11 41 42) (g.spelled (k.Name (codes "x") false)))) ∷ [])) ∷ (Some (((g.list (p 0 6 0 22) (g.part (g.atom (p 1 1 1 7) (g.spelled (k.Name (codes "import") false))) (g.part (g.list (p 2 5 8 21) (g.part (g.atom (p 3 3 9 15) (g.spelled (k.Name (codes "scheme") false))) (g.part (g.atom (p 4 4 16 20) (g.spelled (k.Name (codes "base") false))) g.none))) g.none)))) ∷ ((g.list (p 7 11 23 35) (g.part (g.atom (p 8 8 24 30) (g.spelled (k.Name (codes "define") false))) (g.part (g.atom (p 9 9 31 32) (g.spelled (k.Name (codes "x") false))) (g.part (g.atom (p 10 10 33 34) (g.spelled (k.Numeral (codes "1")))) g.none))))) ∷ ((g.atom (p 12 12 36 37) (g.spelled (k.Name (codes "x") false)))) ∷ [])) ∷ (Some (((g.list (p 0 4 0 12) (g.part (g.atom (p 1 1 1 7) (g.spelled (k.Name (codes "define") false))) (g.part (g.atom (p 2 2 8 9) (g.spelled (k.Name (codes "x") false))) (g.part (g.atom (p 3 3 10 11) (g.spelled (k.Numeral (codes "1")))) g.none))))) ∷ [])) ∷ []) ((Some (((g.list (p 0 6 0 22) (g.part (g.atom (p 1 1 1 7) (g.spelled (k.Name (codes "import") false))) (g.part (g.list (p 2 5 8 21) (g.part (g.atom (p 3 3 9 15) (g.spelled (k.Name (codes "scheme") false))) (g.part (g.atom (p 4 4 16 20) (g.spelled (k.Name (codes "base") false))) g.none))) g.none)))) ∷ ((g.list (p 7 10 23 40) (g.part (g.atom (p 8 8 24 31) (g.spelled (k.Name (codes "include") false))) (g.part (g.atom (p 9 9 32 39) (g.spelled (k.Quoted (codes "p.scm")))) g.none)))) ∷ ((g.atom (p 11 11 41 42) (g.spelled (k.Name (codes "y") false)))) ∷ [])) ∷ (Some (((g.list (p 0 6 0 22) (g.part (g.atom (p 1 1 1 7) (g.spelled (k.Name (codes "import") false))) (g.part (g.list (p 2 5 8 21) (g.part (g.atom (p 3 3 9 15) (g.spelled (k.Name (codes "scheme") false))) (g.part (g.atom (p 4 4 16 20) (g.spelled (k.Name (codes "base") false))) g.none))) g.none)))) ∷ ((g.list (p 7 10 23 40) (g.part (g.atom (p 8 8 24 31) (g.spelled (k.Name (codes "include") false))) (g.part (g.atom (p 9 9 32 39) (g.spelled (k.Quoted (codes "p.scm")))) g.none)))) ∷ ((g.atom (p 11 11 41 42) (g.spelled (k.Name (codes "x") false)))) ∷ [])) ∷ (Some (((g.list (p 0 6 0 22) (g.part (g.atom (p 1 1 1 7) (g.spelled (k.Name (codes "import") false))) (g.part (g.list (p 2 5 8 21) (g.part (g.atom (p 3 3 9 15) (g.spelled (k.Name (codes "scheme") false))) (g.part (g.atom (p 4 4 16 20) (g.spelled (k.Name (codes "base") false))) g.none))) g.none)))) ∷ ((g.list (p 7 11 23 35) (g.part (g.atom (p 8 8 24 30) (g.spelled (k.Name (codes "define") false))) (g.part (g.atom (p 9 9 31 32) (g.spelled (k.Name (codes "x") false))) (g.part (g.atom (p 10 10 33 34) (g.spelled (k.Numeral (codes "1")))) g.none))))) ∷ ((g.atom (p 12 12 36 37) (g.spelled (k.Name (codes "x") false)))) ∷ [])) ∷ (Some (((g.list (p 0 4 0 12) (g.part (g.atom (p 1 1 1 7) (g.spelled (k.Name (codes "define") false))) (g.part (g.atom (p 2 2 8 9) (g.spelled (k.Name (codes "y") false))) (g.part (g.atom (p 3 3 10 11) (g.spelled (k.Numeral (codes "1")))) g.none))))) ∷ [])) ∷ []) (((0, 41), (codes "y")) ∷ ((3, 8), (codes "y")) ∷ []) ≡ (Some (d w.IsShadowed 1 2 (Some (o 1 2 0)) (w.AtBinder (o 3 0 2)) (w.OfUnbound (codes "x"))))
unfolding base_names standard_libraries prelude encode_utf8
renamed_in_one_unit_alone = refl

pub renamed_to_include_makes_a_part : renamed_parts (((s 0 1) ∷ (s 1 7) ∷ (s 8 9) ∷ (s 9 15) ∷ (s 16 20) ∷ (s 20 21) ∷ (s 21 22) ∷ (s 23 24) ∷ (s 24 30) ∷ (s 31 32) ∷ (s 32 33) ∷ (s 34 35) ∷ (s 35 36) ∷ (s 37 38) ∷ (s 38 39) ∷ (s 40 47) ∷ (s 47 48) ∷ (s 48 49) ∷ []) ∷ ((s 0 3) ∷ []) ∷ []) ((0, (codes "a.scm"), 0) ∷ (0, (codes "p.scm"), 1) ∷ (1, (codes "a.scm"), 0) ∷ (1, (codes "p.scm"), 1) ∷ []) ((Some (((g.list (p 0 6 0 22) (g.part (g.atom (p 1 1 1 7) (g.spelled (k.Name (codes "import") false))) (g.part (g.list (p 2 5 8 21) (g.part (g.atom (p 3 3 9 15) (g.spelled (k.Name (codes "scheme") false))) (g.part (g.atom (p 4 4 16 20) (g.spelled (k.Name (codes "base") false))) g.none))) g.none)))) ∷ ((g.list (p 7 17 23 49) (g.part (g.atom (p 8 8 24 30) (g.spelled (k.Name (codes "define") false))) (g.part (g.list (p 9 12 31 36) (g.part (g.atom (p 10 10 32 33) (g.spelled (k.Name (codes "f") false))) (g.part (g.atom (p 11 11 34 35) (g.spelled (k.Name (codes "g") false))) g.none))) (g.part (g.list (p 13 16 37 48) (g.part (g.atom (p 14 14 38 39) (g.spelled (k.Name (codes "g") false))) (g.part (g.atom (p 15 15 40 47) (g.spelled (k.Quoted (codes "p.scm")))) g.none))) g.none))))) ∷ [])) ∷ (Some (((g.atom (p 0 0 0 3) (g.spelled (k.Name (codes "zzz") false)))) ∷ [])) ∷ []) ((Some (((g.list (p 0 6 0 22) (g.part (g.atom (p 1 1 1 7) (g.spelled (k.Name (codes "import") false))) (g.part (g.list (p 2 5 8 21) (g.part (g.atom (p 3 3 9 15) (g.spelled (k.Name (codes "scheme") false))) (g.part (g.atom (p 4 4 16 20) (g.spelled (k.Name (codes "base") false))) g.none))) g.none)))) ∷ ((g.list (p 7 17 23 61) (g.part (g.atom (p 8 8 24 30) (g.spelled (k.Name (codes "define") false))) (g.part (g.list (p 9 12 31 42) (g.part (g.atom (p 10 10 32 33) (g.spelled (k.Name (codes "f") false))) (g.part (g.atom (p 11 11 34 41) (g.spelled (k.Name (codes "include") false))) g.none))) (g.part (g.list (p 13 16 43 60) (g.part (g.atom (p 14 14 44 51) (g.spelled (k.Name (codes "include") false))) (g.part (g.atom (p 15 15 52 59) (g.spelled (k.Quoted (codes "p.scm")))) g.none))) g.none))))) ∷ [])) ∷ (Some (((g.atom (p 0 0 0 3) (g.spelled (k.Name (codes "zzz") false)))) ∷ [])) ∷ []) (((0, 34), (codes "include")) ∷ ((0, 38), (codes "include")) ∷ []) ≡ (Some (d w.IsStructure 1 0 None w.OfNothing w.OfNothing))
unfolding base_names standard_libraries prelude encode_utf8
renamed_to_include_makes_a_part = refl

pub renamed_from_include_leaves_no_part : renamed_parts (((s 0 1) ∷ (s 1 7) ∷ (s 8 9) ∷ (s 9 15) ∷ (s 16 20) ∷ (s 20 21) ∷ (s 21 22) ∷ (s 23 24) ∷ (s 24 30) ∷ (s 31 32) ∷ (s 32 33) ∷ (s 34 41) ∷ (s 41 42) ∷ (s 43 44) ∷ (s 44 51) ∷ (s 52 59) ∷ (s 59 60) ∷ (s 60 61) ∷ []) ∷ ((s 0 3) ∷ []) ∷ []) ((0, (codes "a.scm"), 0) ∷ (0, (codes "p.scm"), 1) ∷ (1, (codes "a.scm"), 0) ∷ (1, (codes "p.scm"), 1) ∷ []) ((Some (((g.list (p 0 6 0 22) (g.part (g.atom (p 1 1 1 7) (g.spelled (k.Name (codes "import") false))) (g.part (g.list (p 2 5 8 21) (g.part (g.atom (p 3 3 9 15) (g.spelled (k.Name (codes "scheme") false))) (g.part (g.atom (p 4 4 16 20) (g.spelled (k.Name (codes "base") false))) g.none))) g.none)))) ∷ ((g.list (p 7 17 23 61) (g.part (g.atom (p 8 8 24 30) (g.spelled (k.Name (codes "define") false))) (g.part (g.list (p 9 12 31 42) (g.part (g.atom (p 10 10 32 33) (g.spelled (k.Name (codes "f") false))) (g.part (g.atom (p 11 11 34 41) (g.spelled (k.Name (codes "include") false))) g.none))) (g.part (g.list (p 13 16 43 60) (g.part (g.atom (p 14 14 44 51) (g.spelled (k.Name (codes "include") false))) (g.part (g.atom (p 15 15 52 59) (g.spelled (k.Quoted (codes "p.scm")))) g.none))) g.none))))) ∷ [])) ∷ (Some (((g.atom (p 0 0 0 3) (g.spelled (k.Name (codes "zzz") false)))) ∷ [])) ∷ []) ((Some (((g.list (p 0 6 0 22) (g.part (g.atom (p 1 1 1 7) (g.spelled (k.Name (codes "import") false))) (g.part (g.list (p 2 5 8 21) (g.part (g.atom (p 3 3 9 15) (g.spelled (k.Name (codes "scheme") false))) (g.part (g.atom (p 4 4 16 20) (g.spelled (k.Name (codes "base") false))) g.none))) g.none)))) ∷ ((g.list (p 7 17 23 49) (g.part (g.atom (p 8 8 24 30) (g.spelled (k.Name (codes "define") false))) (g.part (g.list (p 9 12 31 36) (g.part (g.atom (p 10 10 32 33) (g.spelled (k.Name (codes "f") false))) (g.part (g.atom (p 11 11 34 35) (g.spelled (k.Name (codes "g") false))) g.none))) (g.part (g.list (p 13 16 37 48) (g.part (g.atom (p 14 14 38 39) (g.spelled (k.Name (codes "g") false))) (g.part (g.atom (p 15 15 40 47) (g.spelled (k.Quoted (codes "p.scm")))) g.none))) g.none))))) ∷ [])) ∷ (Some (((g.atom (p 0 0 0 3) (g.spelled (k.Name (codes "zzz") false)))) ∷ [])) ∷ []) (((0, 34), (codes "g")) ∷ ((0, 44), (codes "g")) ∷ []) ≡ (Some (d w.IsStructure 1 0 None w.OfNothing w.OfNothing))
unfolding base_names standard_libraries prelude encode_utf8
renamed_from_include_leaves_no_part = refl

pub captured_in_one_of_two_units : renamed_parts (((s 0 1) ∷ (s 1 7) ∷ (s 8 9) ∷ (s 9 15) ∷ (s 16 20) ∷ (s 20 21) ∷ (s 21 22) ∷ (s 23 24) ∷ (s 24 31) ∷ (s 32 39) ∷ (s 39 40) ∷ []) ∷ ((s 0 1) ∷ (s 1 7) ∷ (s 8 9) ∷ (s 9 15) ∷ (s 16 20) ∷ (s 20 21) ∷ (s 21 22) ∷ (s 23 24) ∷ (s 24 31) ∷ (s 32 39) ∷ (s 39 40) ∷ (s 41 42) ∷ (s 42 48) ∷ (s 49 50) ∷ (s 50 51) ∷ (s 52 53) ∷ (s 53 54) ∷ (s 55 56) ∷ (s 56 57) ∷ []) ∷ ((s 0 1) ∷ (s 1 7) ∷ (s 8 9) ∷ (s 10 11) ∷ (s 11 12) ∷ []) ∷ []) ((0, (codes "a.scm"), 0) ∷ (0, (codes "b.scm"), 1) ∷ (0, (codes "p.scm"), 2) ∷ (1, (codes "a.scm"), 0) ∷ (1, (codes "b.scm"), 1) ∷ (1, (codes "p.scm"), 2) ∷ (2, (codes "a.scm"), 0) ∷ (2, (codes "b.scm"), 1) ∷ (2, (codes "p.scm"), 2) ∷ []) ((Some (((g.list (p 0 6 0 22) (g.part (g.atom (p 1 1 1 7) (g.spelled (k.Name (codes "import") false))) (g.part (g.list (p 2 5 8 21) (g.part (g.atom (p 3 3 9 15) (g.spelled (k.Name (codes "scheme") false))) (g.part (g.atom (p 4 4 16 20) (g.spelled (k.Name (codes "base") false))) g.none))) g.none)))) ∷ ((g.list (p 7 10 23 40) (g.part (g.atom (p 8 8 24 31) (g.spelled (k.Name (codes "include") false))) (g.part (g.atom (p 9 9 32 39) (g.spelled (k.Quoted (codes "p.scm")))) g.none)))) ∷ [])) ∷ (Some (((g.list (p 0 6 0 22) (g.part (g.atom (p 1 1 1 7) (g.spelled (k.Name (codes "import") false))) (g.part (g.list (p 2 5 8 21) (g.part (g.atom (p 3 3 9 15) (g.spelled (k.Name (codes "scheme") false))) (g.part (g.atom (p 4 4 16 20) (g.spelled (k.Name (codes "base") false))) g.none))) g.none)))) ∷ ((g.list (p 7 10 23 40) (g.part (g.atom (p 8 8 24 31) (g.spelled (k.Name (codes "include") false))) (g.part (g.atom (p 9 9 32 39) (g.spelled (k.Quoted (codes "p.scm")))) g.none)))) ∷ ((g.list (p 11 18 41 57) (g.part (g.atom (p 12 12 42 48) (g.spelled (k.Name (codes "define") false))) (g.part (g.list (p 13 16 49 54) (g.part (g.atom (p 14 14 50 51) (g.spelled (k.Name (codes "f") false))) (g.part (g.atom (p 15 15 52 53) (g.spelled (k.Name (codes "y") false))) g.none))) (g.part (g.atom (p 17 17 55 56) (g.spelled (k.Name (codes "x") false))) g.none))))) ∷ [])) ∷ (Some (((g.list (p 0 4 0 12) (g.part (g.atom (p 1 1 1 7) (g.spelled (k.Name (codes "define") false))) (g.part (g.atom (p 2 2 8 9) (g.spelled (k.Name (codes "x") false))) (g.part (g.atom (p 3 3 10 11) (g.spelled (k.Numeral (codes "1")))) g.none))))) ∷ [])) ∷ []) ((Some (((g.list (p 0 6 0 22) (g.part (g.atom (p 1 1 1 7) (g.spelled (k.Name (codes "import") false))) (g.part (g.list (p 2 5 8 21) (g.part (g.atom (p 3 3 9 15) (g.spelled (k.Name (codes "scheme") false))) (g.part (g.atom (p 4 4 16 20) (g.spelled (k.Name (codes "base") false))) g.none))) g.none)))) ∷ ((g.list (p 7 10 23 40) (g.part (g.atom (p 8 8 24 31) (g.spelled (k.Name (codes "include") false))) (g.part (g.atom (p 9 9 32 39) (g.spelled (k.Quoted (codes "p.scm")))) g.none)))) ∷ [])) ∷ (Some (((g.list (p 0 6 0 22) (g.part (g.atom (p 1 1 1 7) (g.spelled (k.Name (codes "import") false))) (g.part (g.list (p 2 5 8 21) (g.part (g.atom (p 3 3 9 15) (g.spelled (k.Name (codes "scheme") false))) (g.part (g.atom (p 4 4 16 20) (g.spelled (k.Name (codes "base") false))) g.none))) g.none)))) ∷ ((g.list (p 7 10 23 40) (g.part (g.atom (p 8 8 24 31) (g.spelled (k.Name (codes "include") false))) (g.part (g.atom (p 9 9 32 39) (g.spelled (k.Quoted (codes "p.scm")))) g.none)))) ∷ ((g.list (p 11 18 41 57) (g.part (g.atom (p 12 12 42 48) (g.spelled (k.Name (codes "define") false))) (g.part (g.list (p 13 16 49 54) (g.part (g.atom (p 14 14 50 51) (g.spelled (k.Name (codes "f") false))) (g.part (g.atom (p 15 15 52 53) (g.spelled (k.Name (codes "y") false))) g.none))) (g.part (g.atom (p 17 17 55 56) (g.spelled (k.Name (codes "y") false))) g.none))))) ∷ [])) ∷ (Some (((g.list (p 0 4 0 12) (g.part (g.atom (p 1 1 1 7) (g.spelled (k.Name (codes "define") false))) (g.part (g.atom (p 2 2 8 9) (g.spelled (k.Name (codes "y") false))) (g.part (g.atom (p 3 3 10 11) (g.spelled (k.Numeral (codes "1")))) g.none))))) ∷ [])) ∷ []) (((1, 55), (codes "y")) ∷ ((2, 8), (codes "y")) ∷ []) ≡ (Some (d w.IsCaptured 1 2 (Some (o 1 2 6)) (w.AtBinder (o 2 0 2)) (w.AtBinder (o 1 2 4))))
unfolding base_names standard_libraries prelude encode_utf8
captured_in_one_of_two_units = refl

pub broken_in_one_of_two_units : renamed_parts (((s 0 1) ∷ (s 1 7) ∷ (s 8 9) ∷ (s 9 15) ∷ (s 16 20) ∷ (s 20 21) ∷ (s 21 22) ∷ (s 23 24) ∷ (s 24 31) ∷ (s 32 39) ∷ (s 39 40) ∷ []) ∷ ((s 0 1) ∷ (s 1 15) ∷ (s 16 17) ∷ (s 17 18) ∷ (s 18 19) ∷ (s 20 21) ∷ (s 21 27) ∷ (s 28 29) ∷ (s 29 35) ∷ (s 36 40) ∷ (s 40 41) ∷ (s 41 42) ∷ (s 43 44) ∷ (s 44 51) ∷ (s 52 59) ∷ (s 59 60) ∷ (s 61 62) ∷ (s 62 67) ∷ (s 68 69) ∷ (s 69 75) ∷ (s 76 77) ∷ (s 78 79) ∷ (s 79 80) ∷ (s 80 81) ∷ (s 81 82) ∷ []) ∷ ((s 0 1) ∷ (s 1 7) ∷ (s 8 9) ∷ (s 10 11) ∷ (s 11 12) ∷ []) ∷ []) ((0, (codes "a.scm"), 0) ∷ (0, (codes "b.sld"), 1) ∷ (0, (codes "p.scm"), 2) ∷ (1, (codes "a.scm"), 0) ∷ (1, (codes "b.sld"), 1) ∷ (1, (codes "p.scm"), 2) ∷ (2, (codes "a.scm"), 0) ∷ (2, (codes "b.sld"), 1) ∷ (2, (codes "p.scm"), 2) ∷ []) ((Some (((g.list (p 0 6 0 22) (g.part (g.atom (p 1 1 1 7) (g.spelled (k.Name (codes "import") false))) (g.part (g.list (p 2 5 8 21) (g.part (g.atom (p 3 3 9 15) (g.spelled (k.Name (codes "scheme") false))) (g.part (g.atom (p 4 4 16 20) (g.spelled (k.Name (codes "base") false))) g.none))) g.none)))) ∷ ((g.list (p 7 10 23 40) (g.part (g.atom (p 8 8 24 31) (g.spelled (k.Name (codes "include") false))) (g.part (g.atom (p 9 9 32 39) (g.spelled (k.Quoted (codes "p.scm")))) g.none)))) ∷ [])) ∷ (Some (((g.list (p 0 24 0 82) (g.part (g.atom (p 1 1 1 15) (g.spelled (k.Name (codes "define-library") false))) (g.part (g.list (p 2 4 16 19) (g.part (g.atom (p 3 3 17 18) (g.spelled (k.Name (codes "b") false))) g.none)) (g.part (g.list (p 5 11 20 42) (g.part (g.atom (p 6 6 21 27) (g.spelled (k.Name (codes "import") false))) (g.part (g.list (p 7 10 28 41) (g.part (g.atom (p 8 8 29 35) (g.spelled (k.Name (codes "scheme") false))) (g.part (g.atom (p 9 9 36 40) (g.spelled (k.Name (codes "base") false))) g.none))) g.none))) (g.part (g.list (p 12 15 43 60) (g.part (g.atom (p 13 13 44 51) (g.spelled (k.Name (codes "include") false))) (g.part (g.atom (p 14 14 52 59) (g.spelled (k.Quoted (codes "p.scm")))) g.none))) (g.part (g.list (p 16 23 61 81) (g.part (g.atom (p 17 17 62 67) (g.spelled (k.Name (codes "begin") false))) (g.part (g.list (p 18 22 68 80) (g.part (g.atom (p 19 19 69 75) (g.spelled (k.Name (codes "define") false))) (g.part (g.atom (p 20 20 76 77) (g.spelled (k.Name (codes "y") false))) (g.part (g.atom (p 21 21 78 79) (g.spelled (k.Numeral (codes "2")))) g.none)))) g.none))) g.none))))))) ∷ [])) ∷ (Some (((g.list (p 0 4 0 12) (g.part (g.atom (p 1 1 1 7) (g.spelled (k.Name (codes "define") false))) (g.part (g.atom (p 2 2 8 9) (g.spelled (k.Name (codes "x") false))) (g.part (g.atom (p 3 3 10 11) (g.spelled (k.Numeral (codes "1")))) g.none))))) ∷ [])) ∷ []) ((Some (((g.list (p 0 6 0 22) (g.part (g.atom (p 1 1 1 7) (g.spelled (k.Name (codes "import") false))) (g.part (g.list (p 2 5 8 21) (g.part (g.atom (p 3 3 9 15) (g.spelled (k.Name (codes "scheme") false))) (g.part (g.atom (p 4 4 16 20) (g.spelled (k.Name (codes "base") false))) g.none))) g.none)))) ∷ ((g.list (p 7 10 23 40) (g.part (g.atom (p 8 8 24 31) (g.spelled (k.Name (codes "include") false))) (g.part (g.atom (p 9 9 32 39) (g.spelled (k.Quoted (codes "p.scm")))) g.none)))) ∷ [])) ∷ (Some (((g.list (p 0 24 0 82) (g.part (g.atom (p 1 1 1 15) (g.spelled (k.Name (codes "define-library") false))) (g.part (g.list (p 2 4 16 19) (g.part (g.atom (p 3 3 17 18) (g.spelled (k.Name (codes "b") false))) g.none)) (g.part (g.list (p 5 11 20 42) (g.part (g.atom (p 6 6 21 27) (g.spelled (k.Name (codes "import") false))) (g.part (g.list (p 7 10 28 41) (g.part (g.atom (p 8 8 29 35) (g.spelled (k.Name (codes "scheme") false))) (g.part (g.atom (p 9 9 36 40) (g.spelled (k.Name (codes "base") false))) g.none))) g.none))) (g.part (g.list (p 12 15 43 60) (g.part (g.atom (p 13 13 44 51) (g.spelled (k.Name (codes "include") false))) (g.part (g.atom (p 14 14 52 59) (g.spelled (k.Quoted (codes "p.scm")))) g.none))) (g.part (g.list (p 16 23 61 81) (g.part (g.atom (p 17 17 62 67) (g.spelled (k.Name (codes "begin") false))) (g.part (g.list (p 18 22 68 80) (g.part (g.atom (p 19 19 69 75) (g.spelled (k.Name (codes "define") false))) (g.part (g.atom (p 20 20 76 77) (g.spelled (k.Name (codes "y") false))) (g.part (g.atom (p 21 21 78 79) (g.spelled (k.Numeral (codes "2")))) g.none)))) g.none))) g.none))))))) ∷ [])) ∷ (Some (((g.list (p 0 4 0 12) (g.part (g.atom (p 1 1 1 7) (g.spelled (k.Name (codes "define") false))) (g.part (g.atom (p 2 2 8 9) (g.spelled (k.Name (codes "y") false))) (g.part (g.atom (p 3 3 10 11) (g.spelled (k.Numeral (codes "1")))) g.none))))) ∷ [])) ∷ []) (((2, 8), (codes "y")) ∷ []) ≡ (Some (d w.IsBroken 1 2 None w.OfNothing w.OfNothing))
unfolding base_names standard_libraries prelude encode_utf8
broken_in_one_of_two_units = refl
