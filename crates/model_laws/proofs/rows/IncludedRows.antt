-- Documents that include one another, and the forms of their units with their homes, from outside.
-- Written by tests/definitions/rows; each row is checked by computing it.
use Rattle.std.specs.Prelude.{◌≡◌, ℕ, ◌^◌, true, false, Bool, List, [], ◌∷◌, Option, Some, None, codes, refl}
use Rattle.std.specs.Char.{encode_utf8}
use Rattle.scheme_model.specs.declared.Occ.{Occ}
use Rattle.scheme_model.specs.Kinds as k
use Rattle.scheme_model.specs.Data as g
use Rattle.scheme_model.proofs.ShownIncludes.{BytesRow, HomeRow, KindRow, ALibrary, AProgram, APart, ListedRow, listed_rows}

abbrev p : ℕ → ℕ → ℕ → ℕ → g.Place
p first last start end = record { first = first; last = last; start = start; end = end }

abbrev b : ℕ → ℕ → ℕ → BytesRow
b document start end = record { document = document; start = start; end = end }

abbrev f : BytesRow → Bool → ℕ → ℕ → ℕ → HomeRow
f bytes declared unit form token = record { bytes = bytes; declared = declared; occ = record { unit = unit; form = form; token = token } }

abbrev o : ℕ → ℕ → ℕ → Occ
o unit form token = record { unit = unit; form = form; token = token }

abbrev u : ℕ → KindRow → Option (ℕ × Option BytesRow) → List HomeRow → List BytesRow → ListedRow
u document kind fault forms lost = record { document = document; kind = kind; fault = fault; forms = forms; lost = lost }

pub limit-counts-declarations : listed_rows 3 ((0, (codes "a.sld"), 0) ∷ []) ((Some (((g.list (p 0 12 0 39) (g.part (g.atom (p 1 1 1 15) (g.spelled (k.Name (codes "define-library") false))) (g.part (g.list (p 2 4 16 19) (g.part (g.atom (p 3 3 17 18) (g.spelled (k.Name (codes "a") false))) g.none)) (g.part (g.list (p 5 7 20 28) (g.part (g.atom (p 6 6 21 27) (g.spelled (k.Name (codes "export") false))) g.none)) (g.part (g.list (p 8 11 29 38) (g.part (g.atom (p 9 9 30 35) (g.spelled (k.Name (codes "begin") false))) (g.part (g.atom (p 10 10 36 37) (g.spelled (k.Numeral (codes "1")))) g.none))) g.none)))))) ∷ [])) ∷ []) ≡ ((u 0 ALibrary (Some (66, None)) ([]) ([])) ∷ [])
unfolding encode_utf8
limit-counts-declarations = refl

pub named-in-a-quote : listed_rows (2 ^ 20) ((0, (codes "a.scm"), 0) ∷ (0, (codes "p.scm"), 1) ∷ (1, (codes "a.scm"), 0) ∷ (1, (codes "p.scm"), 1) ∷ []) ((Some (((g.list (p 0 8 0 29) (g.part (g.atom (p 1 1 1 7) (g.spelled (k.Name (codes "define") false))) (g.part (g.atom (p 2 2 8 9) (g.spelled (k.Name (codes "x") false))) (g.part (g.list (p 3 7 10 28) (g.part (g.atom (p 3 3 10 11) (g.implied k.Quote)) (g.part (g.list (p 4 7 11 28) (g.part (g.atom (p 5 5 12 19) (g.spelled (k.Name (codes "include") false))) (g.part (g.atom (p 6 6 20 27) (g.spelled (k.Quoted (codes "p.scm")))) g.none))) g.none))) g.none))))) ∷ [])) ∷ (Some (((g.atom (p 0 0 0 1) (g.spelled (k.Numeral (codes "1"))))) ∷ [])) ∷ []) ≡ ((u 0 AProgram (None) ((f (b 0 0 29) false (0) (0) (0)) ∷ []) ([])) ∷ (u 1 APart (None) ((f (b 1 0 1) false (1) (0) (0)) ∷ []) ([])) ∷ [])
unfolding encode_utf8
named-in-a-quote = refl

pub limit-passed-by-one-form : listed_rows 3 ((0, (codes "a.scm"), 0) ∷ []) ((Some (((g.list (p 0 3 0 5) (g.part (g.atom (p 1 1 1 2) (g.spelled (k.Name (codes "f") false))) (g.part (g.atom (p 2 2 3 4) (g.spelled (k.Numeral (codes "1")))) g.none)))) ∷ [])) ∷ []) ≡ ((u 0 AProgram (Some (66, None)) ([]) ([])) ∷ [])
unfolding encode_utf8
limit-passed-by-one-form = refl

pub not-named-behind-skips : listed_rows (2 ^ 20) ((0, (codes "a.scm"), 0) ∷ (0, (codes "p.scm"), 1) ∷ (1, (codes "a.scm"), 0) ∷ (1, (codes "p.scm"), 1) ∷ []) ((Some (((g.atom (p 5 5 20 21) (g.spelled (k.Numeral (codes "1"))))) ∷ [])) ∷ (Some (((g.atom (p 0 0 0 1) (g.spelled (k.Numeral (codes "2"))))) ∷ [])) ∷ []) ≡ ((u 0 AProgram (None) ((f (b 0 20 21) false (0) (0) (0)) ∷ []) ([])) ∷ (u 1 AProgram (None) ((f (b 1 0 1) false (1) (0) (0)) ∷ []) ([])) ∷ [])
unfolding encode_utf8
not-named-behind-skips = refl

pub unreadable-part : listed_rows (2 ^ 20) ((0, (codes "a.scm"), 0) ∷ (0, (codes "p.scm"), 1) ∷ (1, (codes "a.scm"), 0) ∷ (1, (codes "p.scm"), 1) ∷ []) ((Some (((g.atom (p 0 0 0 1) (g.spelled (k.Numeral (codes "1"))))) ∷ ((g.list (p 1 4 2 19) (g.part (g.atom (p 2 2 3 10) (g.spelled (k.Name (codes "include") false))) (g.part (g.atom (p 3 3 11 18) (g.spelled (k.Quoted (codes "p.scm")))) g.none)))) ∷ [])) ∷ (None) ∷ []) ≡ ((u 0 AProgram (None) ((f (b 0 0 1) false (0) (0) (0)) ∷ []) ((b 0 11 18) ∷ [])) ∷ [])
unfolding encode_utf8
unreadable-part = refl

pub escapes-in-a-string : listed_rows (2 ^ 20) ((0, (codes "a.scm"), 0) ∷ (0, (codes "p.scm"), 1) ∷ (1, (codes "a.scm"), 0) ∷ (1, (codes "p.scm"), 1) ∷ []) ((Some (((g.list (p 0 3 0 21) (g.part (g.atom (p 1 1 1 8) (g.spelled (k.Name (codes "include") false))) (g.part (g.atom (p 2 2 9 20) (g.spelled (k.Quoted (codes "p.scm")))) g.none)))) ∷ [])) ∷ (Some (((g.atom (p 0 0 0 1) (g.spelled (k.Numeral (codes "2"))))) ∷ [])) ∷ []) ≡ ((u 0 AProgram (None) ((f (b 1 0 1) false (1) (0) (0)) ∷ []) ([])) ∷ (u 1 APart (None) ((f (b 1 0 1) false (1) (0) (0)) ∷ []) ([])) ∷ [])
unfolding encode_utf8
escapes-in-a-string = refl

pub named-with-bars : listed_rows (2 ^ 20) ((0, (codes "a.scm"), 0) ∷ (0, (codes "p.scm"), 1) ∷ (1, (codes "a.scm"), 0) ∷ (1, (codes "p.scm"), 1) ∷ []) ((Some (((g.list (p 0 3 0 19) (g.part (g.atom (p 1 1 1 10) (g.spelled (k.Name (codes "include") true))) (g.part (g.atom (p 2 2 11 18) (g.spelled (k.Quoted (codes "p.scm")))) g.none)))) ∷ [])) ∷ (Some (((g.atom (p 0 0 0 1) (g.spelled (k.Numeral (codes "2"))))) ∷ [])) ∷ []) ≡ ((u 0 AProgram (None) ((f (b 1 0 1) false (1) (0) (0)) ∷ []) ([])) ∷ (u 1 APart (None) ((f (b 1 0 1) false (1) (0) (0)) ∷ []) ([])) ∷ [])
unfolding encode_utf8
named-with-bars = refl

pub named-by-a-tail-that-is-a-list : listed_rows (2 ^ 20) ((0, (codes "a.scm"), 0) ∷ (0, (codes "p.scm"), 1) ∷ (1, (codes "a.scm"), 0) ∷ (1, (codes "p.scm"), 1) ∷ []) ((Some (((g.list (p 0 6 0 21) (g.part (g.atom (p 1 1 1 8) (g.spelled (k.Name (codes "include") false))) (g.part (g.atom (p 4 4 12 19) (g.spelled (k.Quoted (codes "p.scm")))) g.none)))) ∷ [])) ∷ (Some (((g.atom (p 0 0 0 1) (g.spelled (k.Numeral (codes "2"))))) ∷ [])) ∷ []) ≡ ((u 0 AProgram (None) ((f (b 1 0 1) false (1) (0) (0)) ∷ []) ([])) ∷ (u 1 APart (None) ((f (b 1 0 1) false (1) (0) (0)) ∷ []) ([])) ∷ [])
unfolding encode_utf8
named-by-a-tail-that-is-a-list = refl

pub circle-of-one : listed_rows (2 ^ 20) ((0, (codes "a.scm"), 0) ∷ []) ((Some (((g.list (p 0 4 0 12) (g.part (g.atom (p 1 1 1 7) (g.spelled (k.Name (codes "define") false))) (g.part (g.atom (p 2 2 8 9) (g.spelled (k.Name (codes "x") false))) (g.part (g.atom (p 3 3 10 11) (g.spelled (k.Numeral (codes "1")))) g.none))))) ∷ ((g.list (p 5 8 13 30) (g.part (g.atom (p 6 6 14 21) (g.spelled (k.Name (codes "include") false))) (g.part (g.atom (p 7 7 22 29) (g.spelled (k.Quoted (codes "a.scm")))) g.none)))) ∷ [])) ∷ []) ≡ ((u 0 AProgram (Some (68, None)) ([]) ([])) ∷ [])
unfolding encode_utf8
circle-of-one = refl

pub folding-among-forms : listed_rows (2 ^ 20) ((0, (codes "a.scm"), 0) ∷ (0, (codes "q.scm"), 1) ∷ (1, (codes "a.scm"), 0) ∷ (1, (codes "q.scm"), 1) ∷ []) ((Some (((g.list (p 0 3 0 20) (g.part (g.atom (p 1 1 1 11) (g.spelled (k.Name (codes "include-ci") false))) (g.part (g.atom (p 2 2 12 19) (g.spelled (k.Quoted (codes "q.scm")))) g.none)))) ∷ [])) ∷ (Some (((g.atom (p 0 0 0 1) (g.spelled (k.Numeral (codes "1"))))) ∷ [])) ∷ []) ≡ ((u 0 AProgram (None) ((f (b 0 0 20) false (0) (0) (0)) ∷ []) ([])) ∷ (u 1 AProgram (None) ((f (b 1 0 1) false (1) (0) (0)) ∷ []) ([])) ∷ [])
unfolding encode_utf8
folding-among-forms = refl

pub empty-part : listed_rows (2 ^ 20) ((0, (codes "a.scm"), 0) ∷ (0, (codes "p.scm"), 1) ∷ (1, (codes "a.scm"), 0) ∷ (1, (codes "p.scm"), 1) ∷ []) ((Some (((g.atom (p 0 0 0 1) (g.spelled (k.Numeral (codes "1"))))) ∷ ((g.list (p 1 4 2 19) (g.part (g.atom (p 2 2 3 10) (g.spelled (k.Name (codes "include") false))) (g.part (g.atom (p 3 3 11 18) (g.spelled (k.Quoted (codes "p.scm")))) g.none)))) ∷ ((g.atom (p 5 5 20 21) (g.spelled (k.Numeral (codes "2"))))) ∷ [])) ∷ (Some ([])) ∷ []) ≡ ((u 0 AProgram (None) ((f (b 0 0 1) false (0) (0) (0)) ∷ (f (b 0 20 21) false (0) (1) (0)) ∷ []) ([])) ∷ [])
unfolding encode_utf8
empty-part = refl

pub circle-of-two : listed_rows (2 ^ 20) ((0, (codes "a.scm"), 0) ∷ (0, (codes "b.scm"), 1) ∷ (1, (codes "a.scm"), 0) ∷ (1, (codes "b.scm"), 1) ∷ []) ((Some (((g.list (p 0 3 0 17) (g.part (g.atom (p 1 1 1 8) (g.spelled (k.Name (codes "include") false))) (g.part (g.atom (p 2 2 9 16) (g.spelled (k.Quoted (codes "b.scm")))) g.none)))) ∷ [])) ∷ (Some (((g.list (p 0 3 0 17) (g.part (g.atom (p 1 1 1 8) (g.spelled (k.Name (codes "include") false))) (g.part (g.atom (p 2 2 9 16) (g.spelled (k.Quoted (codes "a.scm")))) g.none)))) ∷ [])) ∷ []) ≡ ((u 0 AProgram (Some (68, None)) ([]) ([])) ∷ (u 1 AProgram (Some (68, None)) ([]) ([])) ∷ [])
unfolding encode_utf8
circle-of-two = refl

pub bad-behind-a-missing-text : listed_rows (2 ^ 20) ((0, (codes "a.sld"), 0) ∷ []) ((Some (((g.list (p 0 10 0 46) (g.part (g.atom (p 1 1 1 15) (g.spelled (k.Name (codes "define-library") false))) (g.part (g.list (p 2 4 16 19) (g.part (g.atom (p 3 3 17 18) (g.spelled (k.Name (codes "a") false))) g.none)) (g.part (g.list (p 5 8 20 43) (g.part (g.atom (p 6 6 21 28) (g.spelled (k.Name (codes "include") false))) (g.part (g.atom (p 7 7 29 42) (g.spelled (k.Quoted (codes "nothing.scm")))) g.none))) (g.part (g.atom (p 9 9 44 45) (g.spelled (k.Numeral (codes "5")))) g.none)))))) ∷ [])) ∷ []) ≡ ((u 0 ALibrary (Some (61, Some (b 0 44 45))) ([]) ([])) ∷ [])
unfolding encode_utf8
bad-behind-a-missing-text = refl

pub one-of-two-missing : listed_rows (2 ^ 20) ((0, (codes "a.scm"), 0) ∷ (0, (codes "p.scm"), 1) ∷ (1, (codes "a.scm"), 0) ∷ (1, (codes "p.scm"), 1) ∷ []) ((Some (((g.list (p 0 4 0 25) (g.part (g.atom (p 1 1 1 8) (g.spelled (k.Name (codes "include") false))) (g.part (g.atom (p 2 2 9 16) (g.spelled (k.Quoted (codes "n.scm")))) (g.part (g.atom (p 3 3 17 24) (g.spelled (k.Quoted (codes "p.scm")))) g.none))))) ∷ [])) ∷ (Some (((g.atom (p 0 0 0 1) (g.spelled (k.Numeral (codes "2"))))) ∷ [])) ∷ []) ≡ ((u 0 AProgram (None) ((f (b 1 0 1) false (1) (0) (0)) ∷ []) ((b 0 9 16) ∷ [])) ∷ (u 1 APart (None) ((f (b 1 0 1) false (1) (0) (0)) ∷ []) ([])) ∷ [])
unfolding encode_utf8
one-of-two-missing = refl

pub all-flattened-away : listed_rows (2 ^ 20) ((0, (codes "a.scm"), 0) ∷ (0, (codes "p.scm"), 1) ∷ (1, (codes "a.scm"), 0) ∷ (1, (codes "p.scm"), 1) ∷ []) ((Some (((g.list (p 0 3 0 17) (g.part (g.atom (p 1 1 1 8) (g.spelled (k.Name (codes "include") false))) (g.part (g.atom (p 2 2 9 16) (g.spelled (k.Quoted (codes "p.scm")))) g.none)))) ∷ [])) ∷ (Some (((g.list (p 0 5 0 20) (g.part (g.atom (p 1 1 1 15) (g.spelled (k.Name (codes "define-library") false))) (g.part (g.list (p 2 4 16 19) (g.part (g.atom (p 3 3 17 18) (g.spelled (k.Name (codes "p") false))) g.none)) g.none)))) ∷ [])) ∷ []) ≡ ((u 0 AProgram (None) ([]) ([])) ∷ (u 1 ALibrary (None) ([]) ([])) ∷ [])
unfolding encode_utf8
all-flattened-away = refl

pub include-without-strings : listed_rows (2 ^ 20) ((0, (codes "a.sld"), 0) ∷ []) ((Some (((g.list (p 0 12 0 41) (g.part (g.atom (p 1 1 1 15) (g.spelled (k.Name (codes "define-library") false))) (g.part (g.list (p 2 4 16 19) (g.part (g.atom (p 3 3 17 18) (g.spelled (k.Name (codes "a") false))) g.none)) (g.part (g.list (p 5 8 20 30) (g.part (g.atom (p 6 6 21 27) (g.spelled (k.Name (codes "export") false))) (g.part (g.atom (p 7 7 28 29) (g.spelled (k.Name (codes "x") false))) g.none))) (g.part (g.list (p 9 11 31 40) (g.part (g.atom (p 10 10 32 39) (g.spelled (k.Name (codes "include") false))) g.none)) g.none)))))) ∷ [])) ∷ []) ≡ ((u 0 ALibrary (Some (61, Some (b 0 31 40))) ([]) ([])) ∷ [])
unfolding encode_utf8
include-without-strings = refl

pub limit-passed : listed_rows 7 ((0, (codes "a.scm"), 0) ∷ (0, (codes "p.scm"), 1) ∷ (1, (codes "a.scm"), 0) ∷ (1, (codes "p.scm"), 1) ∷ []) ((Some (((g.list (p 0 4 0 25) (g.part (g.atom (p 1 1 1 8) (g.spelled (k.Name (codes "include") false))) (g.part (g.atom (p 2 2 9 16) (g.spelled (k.Quoted (codes "p.scm")))) (g.part (g.atom (p 3 3 17 24) (g.spelled (k.Quoted (codes "p.scm")))) g.none))))) ∷ [])) ∷ (Some (((g.list (p 0 3 0 5) (g.part (g.atom (p 1 1 1 2) (g.spelled (k.Name (codes "f") false))) (g.part (g.atom (p 2 2 3 4) (g.spelled (k.Numeral (codes "1")))) g.none)))) ∷ [])) ∷ []) ≡ ((u 0 AProgram (Some (66, None)) ([]) ([])) ∷ (u 1 APart (None) ((f (b 1 0 5) false (1) (0) (0)) ∷ []) ([])) ∷ [])
unfolding encode_utf8
limit-passed = refl

pub limit-met : listed_rows 8 ((0, (codes "a.scm"), 0) ∷ (0, (codes "p.scm"), 1) ∷ (1, (codes "a.scm"), 0) ∷ (1, (codes "p.scm"), 1) ∷ []) ((Some (((g.list (p 0 4 0 25) (g.part (g.atom (p 1 1 1 8) (g.spelled (k.Name (codes "include") false))) (g.part (g.atom (p 2 2 9 16) (g.spelled (k.Quoted (codes "p.scm")))) (g.part (g.atom (p 3 3 17 24) (g.spelled (k.Quoted (codes "p.scm")))) g.none))))) ∷ [])) ∷ (Some (((g.list (p 0 3 0 5) (g.part (g.atom (p 1 1 1 2) (g.spelled (k.Name (codes "f") false))) (g.part (g.atom (p 2 2 3 4) (g.spelled (k.Numeral (codes "1")))) g.none)))) ∷ [])) ∷ []) ≡ ((u 0 AProgram (None) ((f (b 1 0 5) false (1) (0) (0)) ∷ (f (b 1 0 5) false (1) (0) (0)) ∷ []) ([])) ∷ (u 1 APart (None) ((f (b 1 0 5) false (1) (0) (0)) ∷ []) ([])) ∷ [])
unfolding encode_utf8
limit-met = refl

pub declarations-among-forms-stay : listed_rows (2 ^ 20) ((0, (codes "a.scm"), 0) ∷ (0, (codes "q.scm"), 1) ∷ (1, (codes "a.scm"), 0) ∷ (1, (codes "q.scm"), 1) ∷ []) ((Some (((g.list (p 0 3 0 38) (g.part (g.atom (p 1 1 1 29) (g.spelled (k.Name (codes "include-library-declarations") false))) (g.part (g.atom (p 2 2 30 37) (g.spelled (k.Quoted (codes "q.scm")))) g.none)))) ∷ [])) ∷ (Some (((g.list (p 0 4 0 12) (g.part (g.atom (p 1 1 1 7) (g.spelled (k.Name (codes "define") false))) (g.part (g.atom (p 2 2 8 9) (g.spelled (k.Name (codes "z") false))) (g.part (g.atom (p 3 3 10 11) (g.spelled (k.Numeral (codes "3")))) g.none))))) ∷ [])) ∷ []) ≡ ((u 0 AProgram (None) ((f (b 0 0 38) false (0) (0) (0)) ∷ []) ([])) ∷ (u 1 APart (None) ((f (b 1 0 12) false (1) (0) (0)) ∷ []) ([])) ∷ [])
unfolding encode_utf8
declarations-among-forms-stay = refl

pub part-that-includes-nothing-alone : listed_rows (2 ^ 20) ((0, (codes "a.scm"), 0) ∷ (0, (codes "p.scm"), 1) ∷ (0, (codes "q.scm"), 2) ∷ (1, (codes "a.scm"), 0) ∷ (1, (codes "p.scm"), 1) ∷ (1, (codes "q.scm"), 2) ∷ (2, (codes "a.scm"), 0) ∷ (2, (codes "p.scm"), 1) ∷ (2, (codes "q.scm"), 2) ∷ []) ((Some (((g.list (p 0 3 0 17) (g.part (g.atom (p 1 1 1 8) (g.spelled (k.Name (codes "include") false))) (g.part (g.atom (p 2 2 9 16) (g.spelled (k.Quoted (codes "p.scm")))) g.none)))) ∷ [])) ∷ (Some (((g.list (p 0 3 0 17) (g.part (g.atom (p 1 1 1 8) (g.spelled (k.Name (codes "include") false))) (g.part (g.atom (p 2 2 9 16) (g.spelled (k.Quoted (codes "q.scm")))) g.none)))) ∷ [])) ∷ (Some ([])) ∷ []) ≡ ((u 0 AProgram (None) ([]) ([])) ∷ (u 1 APart (None) ((f (b 1 0 17) false (1) (0) (0)) ∷ []) ([])) ∷ [])
unfolding encode_utf8
part-that-includes-nothing-alone = refl

pub include-of-a-name : listed_rows (2 ^ 20) ((0, (codes "a.sld"), 0) ∷ (0, (codes "b.scm"), 1) ∷ (1, (codes "a.sld"), 0) ∷ (1, (codes "b.scm"), 1) ∷ []) ((Some (((g.list (p 0 9 0 36) (g.part (g.atom (p 1 1 1 15) (g.spelled (k.Name (codes "define-library") false))) (g.part (g.list (p 2 4 16 19) (g.part (g.atom (p 3 3 17 18) (g.spelled (k.Name (codes "a") false))) g.none)) (g.part (g.list (p 5 8 20 35) (g.part (g.atom (p 6 6 21 28) (g.spelled (k.Name (codes "include") false))) (g.part (g.atom (p 7 7 29 34) (g.spelled (k.Name (codes "b.scm") false))) g.none))) g.none))))) ∷ [])) ∷ (Some (((g.atom (p 0 0 0 1) (g.spelled (k.Numeral (codes "1"))))) ∷ [])) ∷ []) ≡ ((u 0 ALibrary (Some (61, Some (b 0 20 35))) ([]) ([])) ∷ (u 1 AProgram (None) ((f (b 1 0 1) false (1) (0) (0)) ∷ []) ([])) ∷ [])
unfolding encode_utf8
include-of-a-name = refl

pub a-part-has-no-limit : listed_rows 3 ((0, (codes "a.scm"), 0) ∷ (0, (codes "p.scm"), 1) ∷ (1, (codes "a.scm"), 0) ∷ (1, (codes "p.scm"), 1) ∷ []) ((Some (((g.list (p 0 3 0 17) (g.part (g.atom (p 1 1 1 8) (g.spelled (k.Name (codes "include") false))) (g.part (g.atom (p 2 2 9 16) (g.spelled (k.Quoted (codes "p.scm")))) g.none)))) ∷ [])) ∷ (Some (((g.atom (p 0 0 0 1) (g.spelled (k.Numeral (codes "1"))))) ∷ ((g.atom (p 1 1 2 3) (g.spelled (k.Numeral (codes "2"))))) ∷ ((g.atom (p 2 2 4 5) (g.spelled (k.Numeral (codes "3"))))) ∷ ((g.atom (p 3 3 6 7) (g.spelled (k.Numeral (codes "4"))))) ∷ [])) ∷ []) ≡ ((u 0 AProgram (Some (66, None)) ([]) ([])) ∷ (u 1 APart (None) ((f (b 1 0 1) false (1) (0) (0)) ∷ (f (b 1 2 3) false (1) (1) (0)) ∷ (f (b 1 4 5) false (1) (2) (0)) ∷ (f (b 1 6 7) false (1) (3) (0)) ∷ []) ([])) ∷ [])
unfolding encode_utf8
a-part-has-no-limit = refl

pub include-dotted : listed_rows (2 ^ 20) ((0, (codes "a.sld"), 0) ∷ (0, (codes "b.scm"), 1) ∷ (1, (codes "a.sld"), 0) ∷ (1, (codes "b.scm"), 1) ∷ []) ((Some (((g.list (p 0 11 0 48) (g.part (g.atom (p 1 1 1 15) (g.spelled (k.Name (codes "define-library") false))) (g.part (g.list (p 2 4 16 19) (g.part (g.atom (p 3 3 17 18) (g.spelled (k.Name (codes "a") false))) g.none)) (g.part (g.list (p 5 10 20 47) (g.part (g.atom (p 6 6 21 28) (g.spelled (k.Name (codes "include") false))) (g.part (g.atom (p 7 7 29 36) (g.spelled (k.Quoted (codes "b.scm")))) (g.tail (g.atom (p 9 9 39 46) (g.spelled (k.Quoted (codes "b.scm")))))))) g.none))))) ∷ [])) ∷ (Some (((g.atom (p 0 0 0 1) (g.spelled (k.Numeral (codes "1"))))) ∷ [])) ∷ []) ≡ ((u 0 ALibrary (Some (61, Some (b 0 20 47))) ([]) ([])) ∷ (u 1 AProgram (None) ((f (b 1 0 1) false (1) (0) (0)) ∷ []) ([])) ∷ [])
unfolding encode_utf8
include-dotted = refl

pub circle-of-a-library : listed_rows (2 ^ 20) ((0, (codes "a.sld"), 0) ∷ []) ((Some (((g.list (p 0 9 0 38) (g.part (g.atom (p 1 1 1 15) (g.spelled (k.Name (codes "define-library") false))) (g.part (g.list (p 2 4 16 19) (g.part (g.atom (p 3 3 17 18) (g.spelled (k.Name (codes "m") false))) g.none)) (g.part (g.list (p 5 8 20 37) (g.part (g.atom (p 6 6 21 28) (g.spelled (k.Name (codes "include") false))) (g.part (g.atom (p 7 7 29 36) (g.spelled (k.Quoted (codes "a.sld")))) g.none))) g.none))))) ∷ ((g.list (p 10 14 39 51) (g.part (g.atom (p 11 11 40 46) (g.spelled (k.Name (codes "define") false))) (g.part (g.atom (p 12 12 47 48) (g.spelled (k.Name (codes "x") false))) (g.part (g.atom (p 13 13 49 50) (g.spelled (k.Numeral (codes "1")))) g.none))))) ∷ [])) ∷ []) ≡ ((u 0 ALibrary (Some (68, None)) ([]) ([])) ∷ (u 0 AProgram (Some (68, None)) ([]) ([])) ∷ [])
unfolding encode_utf8
circle-of-a-library = refl

pub begin-among-forms-stays : listed_rows (2 ^ 20) ((0, (codes "a.scm"), 0) ∷ (0, (codes "q.scm"), 1) ∷ (1, (codes "a.scm"), 0) ∷ (1, (codes "q.scm"), 1) ∷ []) ((Some (((g.list (p 0 6 0 25) (g.part (g.atom (p 1 1 1 6) (g.spelled (k.Name (codes "begin") false))) (g.part (g.list (p 2 5 7 24) (g.part (g.atom (p 3 3 8 15) (g.spelled (k.Name (codes "include") false))) (g.part (g.atom (p 4 4 16 23) (g.spelled (k.Quoted (codes "q.scm")))) g.none))) g.none)))) ∷ [])) ∷ (Some (((g.list (p 0 4 0 12) (g.part (g.atom (p 1 1 1 7) (g.spelled (k.Name (codes "define") false))) (g.part (g.atom (p 2 2 8 9) (g.spelled (k.Name (codes "z") false))) (g.part (g.atom (p 3 3 10 11) (g.spelled (k.Numeral (codes "3")))) g.none))))) ∷ [])) ∷ []) ≡ ((u 0 AProgram (None) ((f (b 0 0 25) false (0) (0) (0)) ∷ []) ([])) ∷ (u 1 APart (None) ((f (b 1 0 12) false (1) (0) (0)) ∷ []) ([])) ∷ [])
unfolding encode_utf8
begin-among-forms-stays = refl

pub random-1-12 : listed_rows (2 ^ 20) ((0, (codes "a.scm"), 0) ∷ (0, (codes "d/f.scm"), 1) ∷ (1, (codes "f.scm"), 1) ∷ []) ((Some (((g.list (p 0 4 0 37) (g.part (g.atom (p 1 1 1 8) (g.spelled (k.Name (codes "include") false))) (g.part (g.atom (p 2 2 9 22) (g.spelled (k.Quoted (codes "missing.scm")))) (g.part (g.atom (p 3 3 23 36) (g.spelled (k.Quoted (codes "missing.scm")))) g.none))))) ∷ ((g.list (p 5 10 38 59) (g.part (g.atom (p 6 6 39 53) (g.spelled (k.Name (codes "define-library") false))) (g.part (g.list (p 7 9 54 57) (g.part (g.atom (p 8 8 55 56) (g.spelled (k.Name (codes "l") false))) g.none)) g.none)))) ∷ [])) ∷ (None) ∷ []) ≡ ((u 0 ALibrary (None) ([]) ([])) ∷ (u 0 AProgram (None) ([]) ((b 0 9 22) ∷ (b 0 23 36) ∷ [])) ∷ [])
unfolding encode_utf8
random-1-12 = refl

pub random-1-14 : listed_rows (2 ^ 20) ((0, (codes "a.scm"), 0) ∷ (0, (codes "b.scm"), 1) ∷ (0, (codes "d/f.scm"), 2) ∷ (1, (codes "a.scm"), 0) ∷ (1, (codes "b.scm"), 1) ∷ (1, (codes "d/f.scm"), 2) ∷ (2, (codes "f.scm"), 2) ∷ []) ((Some ([])) ∷ (Some ([])) ∷ (Some ([])) ∷ []) ≡ ([])
unfolding encode_utf8
random-1-14 = refl

pub random-1-34 : listed_rows (2 ^ 20) ((0, (codes "a.scm"), 0) ∷ (0, (codes "b.scm"), 1) ∷ (1, (codes "a.scm"), 0) ∷ (1, (codes "b.scm"), 1) ∷ []) ((Some ([])) ∷ (Some (((g.list (p 0 3 0 23) (g.part (g.atom (p 1 1 1 8) (g.spelled (k.Name (codes "include") false))) (g.part (g.atom (p 2 2 9 22) (g.spelled (k.Quoted (codes "missing.scm")))) g.none)))) ∷ ((g.list (p 4 21 24 123) (g.part (g.atom (p 5 5 25 39) (g.spelled (k.Name (codes "define-library") false))) (g.part (g.list (p 6 9 40 45) (g.part (g.atom (p 7 7 41 42) (g.spelled (k.Name (codes "m") false))) (g.part (g.atom (p 8 8 43 44) (g.spelled (k.Numeral (codes "1")))) g.none))) (g.part (g.list (p 10 12 46 54) (g.part (g.atom (p 11 11 47 52) (g.spelled (k.Name (codes "begin") false))) g.none)) (g.part (g.list (p 13 15 55 63) (g.part (g.atom (p 14 14 56 61) (g.spelled (k.Name (codes "begin") false))) g.none)) (g.part (g.list (p 16 20 64 122) (g.part (g.atom (p 17 17 65 93) (g.spelled (k.Name (codes "include-library-declarations") false))) (g.part (g.atom (p 18 18 94 107) (g.spelled (k.Quoted (codes "missing.scm")))) (g.part (g.atom (p 19 19 108 121) (g.spelled (k.Quoted (codes "missing.scm")))) g.none)))) g.none))))))) ∷ ((g.list (p 22 29 124 145) (g.part (g.atom (p 23 23 125 131) (g.spelled (k.Name (codes "export") false))) (g.part (g.list (p 24 28 132 144) (g.part (g.atom (p 25 25 133 139) (g.spelled (k.Name (codes "rename") false))) (g.part (g.atom (p 26 26 140 141) (g.spelled (k.Name (codes "x") false))) (g.part (g.atom (p 27 27 142 143) (g.spelled (k.Name (codes "y") false))) g.none)))) g.none)))) ∷ [])) ∷ []) ≡ ((u 1 ALibrary (None) ([]) ((b 1 94 107) ∷ (b 1 108 121) ∷ [])) ∷ (u 1 AProgram (None) ((f (b 1 124 145) false (1) (0) (0)) ∷ []) ((b 1 9 22) ∷ [])) ∷ [])
unfolding encode_utf8
random-1-34 = refl

pub random-1-45 : listed_rows (2 ^ 20) ((0, (codes "a.scm"), 0) ∷ (0, (codes "d/f.scm"), 1) ∷ (1, (codes "f.scm"), 1) ∷ []) ((Some (((g.list (p 0 5 0 21) (g.part (g.atom (p 1 1 1 15) (g.spelled (k.Name (codes "define-library") false))) (g.part (g.list (p 2 4 16 19) (g.part (g.atom (p 3 3 17 18) (g.spelled (k.Name (codes "l") false))) g.none)) g.none)))) ∷ ((g.list (p 6 14 22 51) (g.part (g.atom (p 7 7 23 34) (g.spelled (k.Name (codes "cond-expand") false))) (g.part (g.list (p 8 10 35 42) (g.part (g.atom (p 9 9 36 40) (g.spelled (k.Name (codes "r7rs") false))) g.none)) (g.part (g.list (p 11 13 43 50) (g.part (g.atom (p 12 12 44 48) (g.spelled (k.Name (codes "full") false))) g.none)) g.none))))) ∷ [])) ∷ (Some ([])) ∷ []) ≡ ((u 0 ALibrary (None) ([]) ([])) ∷ (u 0 AProgram (None) ((f (b 0 22 51) false (1) (0) (0)) ∷ []) ([])) ∷ [])
unfolding encode_utf8
random-1-45 = refl

pub random-1-46 : listed_rows (2 ^ 20) ((0, (codes "a.scm"), 0) ∷ (0, (codes "c.scm"), 1) ∷ (1, (codes "a.scm"), 0) ∷ (1, (codes "c.scm"), 1) ∷ []) ((Some ([])) ∷ (Some (((g.atom (p 0 0 0 3) (g.spelled (k.Quoted (codes "s"))))) ∷ ((g.list (p 1 6 4 25) (g.part (g.atom (p 2 2 5 19) (g.spelled (k.Name (codes "define-library") false))) (g.part (g.list (p 3 5 20 23) (g.part (g.atom (p 4 4 21 22) (g.spelled (k.Name (codes "l") false))) g.none)) g.none)))) ∷ [])) ∷ []) ≡ ((u 1 ALibrary (None) ([]) ([])) ∷ (u 1 AProgram (None) ((f (b 1 0 3) false (1) (0) (0)) ∷ []) ([])) ∷ [])
unfolding encode_utf8
random-1-46 = refl
