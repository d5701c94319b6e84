-- Texts by their tokens and data, from outside: data as they are written are a relation, so each row gives how
-- its data are written, which has these tokens and means these data.
-- Written by tests/definitions/rows; each row is checked by computing it.
use Rattle.std.specs.Prelude.{◌≡◌, ℕ, true, false, List, [], ◌∷◌, codes, refl}
use Rattle.scheme_model.specs.Kinds as k
use Rattle.scheme_model.specs.Data as d
use Rattle.scheme_model.specs.Numbered as n
use Rattle.scheme_model.specs.Written as w

abbrev s : ℕ → ℕ → ℕ → n.Spot
s number start end = record { number = number; start = start; end = end }

abbrev p : ℕ → ℕ → ℕ → ℕ → d.Place
p first last start end = record { first = first; last = last; start = start; end = end }

abbrev t : k.TokenKind → ℕ → ℕ → k.Token
t kind start end = record { kind = kind; start = start; end = end }

-- the tokens of data, and what the data mean
abbrev HasRow : w.Parts → List k.Token → List d.Datum → Type 0
HasRow ps ts ds = (w.parts_tokens ps [] ≡ n.number_from 0 ts) × (w.parts_meant ps ≡ ds)

pub reading-13 : HasRow (w.next w.nothing (w.alone (s 0 0 3) (k.Character 97)) (w.last w.nothing)) ((t (k.Atomic (k.Character 97)) 0 3) ∷ []) (((d.atom (p 0 0 0 3) (d.spelled (k.Character 97)))) ∷ [])
reading-13 = (refl, refl)

pub reading-14 : HasRow (w.next w.nothing (w.alone (s 0 0 2) (k.Name ([]) true)) (w.last w.nothing)) ((t (k.Atomic (k.Name ([]) true)) 0 2) ∷ []) (((d.atom (p 0 0 0 2) (d.spelled (k.Name ([]) true)))) ∷ [])
reading-14 = (refl, refl)

pub reading-23 : HasRow (w.next w.nothing (w.alone (s 0 0 3) (k.Numeral (codes "-1#"))) (w.last w.nothing)) ((t (k.Atomic (k.Numeral (codes "-1#"))) 0 3) ∷ []) (((d.atom (p 0 0 0 3) (d.spelled (k.Numeral (codes "-1#"))))) ∷ [])
reading-23 = (refl, refl)

pub reading-27 : HasRow (w.next w.nothing (w.alone (s 0 0 1) (k.Name (codes "b") false)) (w.next w.nothing (w.alone (s 1 2 3) (k.Name (codes "-") false)) (w.next w.nothing (w.alone (s 2 4 12) (k.Quoted (955 ∷ []))) (w.last w.nothing)))) ((t (k.Atomic (k.Name (codes "b") false)) 0 1) ∷ (t (k.Atomic (k.Name (codes "-") false)) 2 3) ∷ (t (k.Atomic (k.Quoted (955 ∷ []))) 4 12) ∷ []) (((d.atom (p 0 0 0 1) (d.spelled (k.Name (codes "b") false)))) ∷ ((d.atom (p 1 1 2 3) (d.spelled (k.Name (codes "-") false)))) ∷ ((d.atom (p 2 2 4 12) (d.spelled (k.Quoted (955 ∷ []))))) ∷ [])
reading-27 = (refl, refl)

pub reading-47 : HasRow (w.next w.nothing (w.alone (s 0 0 3) (k.Numeral (codes "1e3"))) (w.last w.nothing)) ((t (k.Atomic (k.Numeral (codes "1e3"))) 0 3) ∷ []) (((d.atom (p 0 0 0 3) (d.spelled (k.Numeral (codes "1e3"))))) ∷ [])
reading-47 = (refl, refl)

pub reading-48 : HasRow (w.last w.nothing) ([]) ([])
reading-48 = (refl, refl)

pub reading-57 : HasRow (w.next w.nothing (w.alone (s 0 0 2) (k.Name ([]) true)) (w.last w.nothing)) ((t (k.Atomic (k.Name ([]) true)) 0 2) ∷ []) (((d.atom (p 0 0 0 2) (d.spelled (k.Name ([]) true)))) ∷ [])
reading-57 = (refl, refl)

pub reading-58 : HasRow (w.next w.nothing (w.alone (s 0 0 3) (k.Numeral (codes "1@2"))) (w.last w.nothing)) ((t (k.Atomic (k.Numeral (codes "1@2"))) 0 3) ∷ []) (((d.atom (p 0 0 0 3) (d.spelled (k.Numeral (codes "1@2"))))) ∷ [])
reading-58 = (refl, refl)

pub reading-69 : HasRow (w.next w.nothing (w.abbreviated (s 0 0 1) k.Unquote w.nothing (w.alone (s 1 8 11) (k.Numeral (codes "1@2")))) (w.last w.nothing)) ((t (k.Marked k.Unquote) 0 1) ∷ (t (k.Atomic (k.Numeral (codes "1@2"))) 8 11) ∷ []) (((d.list (p 0 1 0 11) (d.part (d.atom (p 0 0 0 1) (d.implied k.Unquote)) (d.part (d.atom (p 1 1 8 11) (d.spelled (k.Numeral (codes "1@2")))) d.none)))) ∷ [])
reading-69 = (refl, refl)

pub reading-77 : HasRow (w.next w.nothing (w.alone (s 0 0 4) (k.Numeral (codes "256#"))) (w.last w.nothing)) ((t (k.Atomic (k.Numeral (codes "256#"))) 0 4) ∷ []) (((d.atom (p 0 0 0 4) (d.spelled (k.Numeral (codes "256#"))))) ∷ [])
reading-77 = (refl, refl)

pub reading-83 : HasRow (w.next w.nothing (w.alone (s 0 0 2) (k.Name (955 ∷ []) false)) (w.last w.nothing)) ((t (k.Atomic (k.Name (955 ∷ []) false)) 0 2) ∷ []) (((d.atom (p 0 0 0 2) (d.spelled (k.Name (955 ∷ []) false)))) ∷ [])
reading-83 = (refl, refl)

pub reading-101 : HasRow (w.last w.nothing) ([]) ([])
reading-101 = (refl, refl)

pub reading-127 : HasRow (w.next w.nothing (w.alone (s 0 0 4) (k.Numeral (codes "1@2#"))) (w.last w.nothing)) ((t (k.Atomic (k.Numeral (codes "1@2#"))) 0 4) ∷ []) (((d.atom (p 0 0 0 4) (d.spelled (k.Numeral (codes "1@2#"))))) ∷ [])
reading-127 = (refl, refl)

pub reading-131 : HasRow (w.last w.nothing) ([]) ([])
reading-131 = (refl, refl)

pub reading-149 : HasRow (w.next w.nothing (w.alone (s 0 0 2) (k.Name (955 ∷ []) false)) (w.last (w.skipped (s 1 3 5) w.nothing (w.alone (s 2 6 11) (k.Numeral (codes "#e1.5"))) w.nothing))) ((t (k.Atomic (k.Name (955 ∷ []) false)) 0 2) ∷ (t k.Skip 3 5) ∷ (t (k.Atomic (k.Numeral (codes "#e1.5"))) 6 11) ∷ []) (((d.atom (p 0 0 0 2) (d.spelled (k.Name (955 ∷ []) false)))) ∷ [])
reading-149 = (refl, refl)

pub reading-160 : HasRow (w.next w.nothing (w.alone (s 0 0 5) (k.Truth true)) (w.last w.nothing)) ((t (k.Atomic (k.Truth true)) 0 5) ∷ []) (((d.atom (p 0 0 0 5) (d.spelled (k.Truth true)))) ∷ [])
reading-160 = (refl, refl)

pub reading-170 : HasRow (w.next w.nothing (w.alone (s 0 0 5) (k.Truth true)) (w.next w.nothing (w.alone (s 1 6 9) (k.Name (101 ∷ 769 ∷ []) false)) (w.next w.nothing (w.alone (s 2 10 14) (k.Name (120016 ∷ []) false)) (w.next w.nothing (w.abbreviated (s 3 15 16) k.Quote w.nothing (w.alone (s 4 17 20) (k.Name (codes "...") false))) (w.next w.nothing (w.alone (s 5 27 29) (k.Truth true)) (w.last w.nothing)))))) ((t (k.Atomic (k.Truth true)) 0 5) ∷ (t (k.Atomic (k.Name (101 ∷ 769 ∷ []) false)) 6 9) ∷ (t (k.Atomic (k.Name (120016 ∷ []) false)) 10 14) ∷ (t (k.Marked k.Quote) 15 16) ∷ (t (k.Atomic (k.Name (codes "...") false)) 17 20) ∷ (t (k.Atomic (k.Truth true)) 27 29) ∷ []) (((d.atom (p 0 0 0 5) (d.spelled (k.Truth true)))) ∷ ((d.atom (p 1 1 6 9) (d.spelled (k.Name (101 ∷ 769 ∷ []) false)))) ∷ ((d.atom (p 2 2 10 14) (d.spelled (k.Name (120016 ∷ []) false)))) ∷ ((d.list (p 3 4 15 20) (d.part (d.atom (p 3 3 15 16) (d.implied k.Quote)) (d.part (d.atom (p 4 4 17 20) (d.spelled (k.Name (codes "...") false))) d.none)))) ∷ ((d.atom (p 5 5 27 29) (d.spelled (k.Truth true)))) ∷ [])
reading-170 = (refl, refl)

pub reading-205 : HasRow (w.next w.nothing (w.abbreviated (s 0 2 4) k.Splice w.nothing (w.alone (s 1 5 11) (k.Truth false))) (w.next w.nothing (w.alone (s 2 12 14) (k.Name ([]) true)) (w.last w.nothing))) ((t (k.Marked k.Splice) 2 4) ∷ (t (k.Atomic (k.Truth false)) 5 11) ∷ (t (k.Atomic (k.Name ([]) true)) 12 14) ∷ []) (((d.list (p 0 1 2 11) (d.part (d.atom (p 0 0 2 4) (d.implied k.Splice)) (d.part (d.atom (p 1 1 5 11) (d.spelled (k.Truth false))) d.none)))) ∷ ((d.atom (p 2 2 12 14) (d.spelled (k.Name ([]) true)))) ∷ [])
reading-205 = (refl, refl)

pub reading-216 : HasRow (w.next w.nothing (w.alone (s 0 0 2) (k.Name (codes "..") false)) (w.last w.nothing)) ((t (k.Atomic (k.Name (codes "..") false)) 0 2) ∷ []) (((d.atom (p 0 0 0 2) (d.spelled (k.Name (codes "..") false)))) ∷ [])
reading-216 = (refl, refl)

pub reading-250 : HasRow (w.next w.nothing (w.alone (s 0 0 3) (k.Character 97)) (w.last w.nothing)) ((t (k.Atomic (k.Character 97)) 0 3) ∷ []) (((d.atom (p 0 0 0 3) (d.spelled (k.Character 97)))) ∷ [])
reading-250 = (refl, refl)

pub reading-262 : HasRow (w.next w.nothing (w.alone (s 0 0 8) (k.Name (codes "xA") true)) (w.last w.nothing)) ((t (k.Atomic (k.Name (codes "xA") true)) 0 8) ∷ []) (((d.atom (p 0 0 0 8) (d.spelled (k.Name (codes "xA") true)))) ∷ [])
reading-262 = (refl, refl)

pub reading-263 : HasRow (w.next w.nothing (w.abbreviated (s 0 0 1) k.Quasi w.nothing (w.abbreviated (s 1 1 2) k.Quasi w.nothing (w.alone (s 2 2 11) (k.Numeral (codes "11/21@21x"))))) (w.last w.nothing)) ((t (k.Marked k.Quasi) 0 1) ∷ (t (k.Marked k.Quasi) 1 2) ∷ (t (k.Atomic (k.Numeral (codes "11/21@21x"))) 2 11) ∷ []) (((d.list (p 0 2 0 11) (d.part (d.atom (p 0 0 0 1) (d.implied k.Quasi)) (d.part (d.list (p 1 2 1 11) (d.part (d.atom (p 1 1 1 2) (d.implied k.Quasi)) (d.part (d.atom (p 2 2 2 11) (d.spelled (k.Numeral (codes "11/21@21x")))) d.none))) d.none)))) ∷ [])
reading-263 = (refl, refl)

pub reading-267 : HasRow (w.last w.nothing) ([]) ([])
reading-267 = (refl, refl)

pub reading-299 : HasRow (w.next w.nothing (w.alone (s 0 0 3) (k.Character 40)) (w.last w.nothing)) ((t (k.Atomic (k.Character 40)) 0 3) ∷ []) (((d.atom (p 0 0 0 3) (d.spelled (k.Character 40)))) ∷ [])
reading-299 = (refl, refl)

pub reading-300 : HasRow (w.last w.nothing) ([]) ([])
reading-300 = (refl, refl)
