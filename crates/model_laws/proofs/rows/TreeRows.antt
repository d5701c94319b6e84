-- Texts by their data, from outside, and the trees that these are as forms of a unit.
-- Written by tests/definitions/rows; each row is checked by computing it.
use Rattle.std.specs.Prelude.{◌≡◌, ℕ, suc, true, false, Some, None, List, [], ◌∷◌, codes, refl}
use Rattle.std.specs.Char.{encode_utf8}
use Rattle.scheme_model.specs.declared.Occ.{Occ}
use Rattle.scheme_model.specs.Identifiers as i
use Rattle.scheme_model.specs.Trees as t
use Rattle.scheme_model.specs.DataTrees.{form_of}
use Rattle.scheme_model.specs.Kinds as k
use Rattle.scheme_model.specs.Data as d

abbrev p : ℕ → ℕ → ℕ → ℕ → d.Place
p first last start end = record { first = first; last = last; start = start; end = end }

abbrev o : ℕ → ℕ → ℕ → Occ
o unit form token = record { unit = unit; form = form; token = token }

-- the forms of data, numbered from one on
abbrev forms_from : ℕ → List d.Datum → List (t.Tree i.Name)
forms_from n [] = []
forms_from n (x ∷ xs) = form_of 0 n x ∷ forms_from (suc n) xs

pub reading-13 : forms_from 0 (((d.atom (p 0 0 0 3) (d.spelled (k.Character 97)))) ∷ []) ≡ (((t.atom (t.Character 97) (Some (o 0 0 0)))) ∷ [])
unfolding encode_utf8
reading-13 = refl

pub reading-27 : forms_from 0 (((d.atom (p 0 0 0 1) (d.spelled (k.Name (codes "b") false)))) ∷ ((d.atom (p 1 1 2 3) (d.spelled (k.Name (codes "-") false)))) ∷ ((d.atom (p 2 2 4 12) (d.spelled (k.Quoted (955 ∷ []))))) ∷ []) ≡ (((t.name (i.Written 0 (codes "b")) (Some (o 0 0 0)))) ∷ ((t.name (i.Written 0 (codes "-")) (Some (o 0 1 0)))) ∷ ((t.atom (t.Quoted (206 ∷ 187 ∷ [])) (Some (o 0 2 0)))) ∷ [])
unfolding encode_utf8
reading-27 = refl

pub reading-48 : forms_from 0 ([]) ≡ ([])
unfolding encode_utf8
reading-48 = refl

pub reading-69 : forms_from 0 (((d.list (p 0 1 0 11) (d.part (d.atom (p 0 0 0 1) (d.implied k.Unquote)) (d.part (d.atom (p 1 1 8 11) (d.spelled (k.Numeral (codes "1@2")))) d.none)))) ∷ []) ≡ (((t.list (t.tree (t.name (i.Written 0 (codes "unquote")) None) (t.tree (t.atom (t.Numeral (codes "1@2")) (Some (o 0 0 1))) t.no_trees)) t.proper (Some (o 0 0 0)))) ∷ [])
unfolding encode_utf8
reading-69 = refl

pub reading-101 : forms_from 0 ([]) ≡ ([])
unfolding encode_utf8
reading-101 = refl

pub reading-131 : forms_from 0 ([]) ≡ ([])
unfolding encode_utf8
reading-131 = refl

pub reading-160 : forms_from 0 (((d.atom (p 0 0 0 5) (d.spelled (k.Truth true)))) ∷ []) ≡ (((t.atom (t.Boolean true) (Some (o 0 0 0)))) ∷ [])
unfolding encode_utf8
reading-160 = refl

pub reading-170 : forms_from 0 (((d.atom (p 0 0 0 5) (d.spelled (k.Truth true)))) ∷ ((d.atom (p 1 1 6 9) (d.spelled (k.Name (101 ∷ 769 ∷ []) false)))) ∷ ((d.atom (p 2 2 10 14) (d.spelled (k.Name (120016 ∷ []) false)))) ∷ ((d.list (p 3 4 15 20) (d.part (d.atom (p 3 3 15 16) (d.implied k.Quote)) (d.part (d.atom (p 4 4 17 20) (d.spelled (k.Name (codes "...") false))) d.none)))) ∷ ((d.atom (p 5 5 27 29) (d.spelled (k.Truth true)))) ∷ []) ≡ (((t.atom (t.Boolean true) (Some (o 0 0 0)))) ∷ ((t.name (i.Written 0 (101 ∷ 204 ∷ 129 ∷ [])) (Some (o 0 1 0)))) ∷ ((t.name (i.Written 0 (240 ∷ 157 ∷ 147 ∷ 144 ∷ [])) (Some (o 0 2 0)))) ∷ ((t.list (t.tree (t.name (i.Written 0 (codes "quote")) None) (t.tree (t.name (i.Written 0 (codes "...")) (Some (o 0 3 1))) t.no_trees)) t.proper (Some (o 0 3 0)))) ∷ ((t.atom (t.Boolean true) (Some (o 0 4 0)))) ∷ [])
unfolding encode_utf8
reading-170 = refl

pub reading-205 : forms_from 0 (((d.list (p 0 1 2 11) (d.part (d.atom (p 0 0 2 4) (d.implied k.Splice)) (d.part (d.atom (p 1 1 5 11) (d.spelled (k.Truth false))) d.none)))) ∷ ((d.atom (p 2 2 12 14) (d.spelled (k.Name ([]) true)))) ∷ []) ≡ (((t.list (t.tree (t.name (i.Written 0 (codes "unquote-splicing")) None) (t.tree (t.atom (t.Boolean false) (Some (o 0 0 1))) t.no_trees)) t.proper (Some (o 0 0 0)))) ∷ ((t.name (i.Written 0 ([])) (Some (o 0 1 0)))) ∷ [])
unfolding encode_utf8
reading-205 = refl

pub reading-250 : forms_from 0 (((d.atom (p 0 0 0 3) (d.spelled (k.Character 97)))) ∷ []) ≡ (((t.atom (t.Character 97) (Some (o 0 0 0)))) ∷ [])
unfolding encode_utf8
reading-250 = refl

pub reading-263 : forms_from 0 (((d.list (p 0 2 0 11) (d.part (d.atom (p 0 0 0 1) (d.implied k.Quasi)) (d.part (d.list (p 1 2 1 11) (d.part (d.atom (p 1 1 1 2) (d.implied k.Quasi)) (d.part (d.atom (p 2 2 2 11) (d.spelled (k.Numeral (codes "11/21@21x")))) d.none))) d.none)))) ∷ []) ≡ (((t.list (t.tree (t.name (i.Written 0 (codes "quasiquote")) None) (t.tree (t.list (t.tree (t.name (i.Written 0 (codes "quasiquote")) None) (t.tree (t.atom (t.Numeral (codes "11/21@21x")) (Some (o 0 0 2))) t.no_trees)) t.proper (Some (o 0 0 1))) t.no_trees)) t.proper (Some (o 0 0 0)))) ∷ [])
unfolding encode_utf8
reading-263 = refl

pub reading-267 : forms_from 0 ([]) ≡ ([])
unfolding encode_utf8
reading-267 = refl

pub reading-287 : forms_from 0 (((d.atom (p 0 0 0 2) (d.spelled (k.Truth true)))) ∷ ((d.atom (p 1 1 3 6) (d.spelled (k.Character 97)))) ∷ ((d.atom (p 2 2 7 10) (d.spelled (k.Numeral (codes "1@2"))))) ∷ []) ≡ (((t.atom (t.Boolean true) (Some (o 0 0 0)))) ∷ ((t.atom (t.Character 97) (Some (o 0 1 0)))) ∷ ((t.atom (t.Numeral (codes "1@2")) (Some (o 0 2 0)))) ∷ [])
unfolding encode_utf8
reading-287 = refl

pub reading-299 : forms_from 0 (((d.atom (p 0 0 0 3) (d.spelled (k.Character 40)))) ∷ []) ≡ (((t.atom (t.Character 40) (Some (o 0 0 0)))) ∷ [])
unfolding encode_utf8
reading-299 = refl

pub reading-300 : forms_from 0 ([]) ≡ ([])
unfolding encode_utf8
reading-300 = refl
