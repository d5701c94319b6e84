-- Open documents, and what their units come to, from outside.
-- Written by tests/definitions/rows; each row is checked by computing it.
use Rattle.std.specs.Prelude.{◌≡◌, ℕ, Bool, true, false, List, [], ◌∷◌, Option, Some, None, codes, refl}
use Rattle.scheme_model.specs.declared.Occ.{Occ}
use Rattle.scheme_model.specs.StandardNames.{base_names}
use Rattle.scheme_model.specs.Identifiers.{Number}
use Rattle.scheme_model.specs.Ident as x
use Rattle.scheme_model.specs.Trees as t
use Rattle.scheme_model.specs.Meaning as m
use Rattle.scheme_model.specs.Cores as c
use Rattle.scheme_model.specs.Expression.{no_rules}
use Rattle.scheme_model.proofs.Shown.{hole, FaultRow, FormRow, UnitRow, unit_rows}
use Rattle.std.specs.Char.{encode_utf8}
use Rattle.scheme_model.specs.StandardLibraries.{standard_libraries}
use Rattle.scheme_model.specs.Prelude.{prelude}
use Rattle.scheme_model.specs.Kinds as k
use Rattle.scheme_model.specs.Data as g
use Rattle.scheme_model.specs.Diagnostics.{Span}

abbrev s : ℕ → ℕ → Span
s start end = record { start = start; end = end }

abbrev p : ℕ → ℕ → ℕ → ℕ → g.Place
p first last start end = record { first = first; last = last; start = start; end = end }

abbrev v : Option ℕ → List FormRow → UnitRow
v broken forms = record { broken = broken; forms = forms }

abbrev o : ℕ → ℕ → ℕ → Occ
o unit form token = record { unit = unit; form = form; token = token }

abbrev n : ℕ → ℕ → ℕ → Number
n unit form count = record { unit = unit; form = form; count = count }

abbrev u : m.Meaning → x.Ident → Option Occ → c.Target
u meaning ident occ = record { meaning = meaning; ident = ident; occ = occ }

abbrev b : c.Bound → x.Ident → Option Occ → c.Binder
b bound ident occ = record { bound = bound; ident = ident; occ = occ }

abbrev bs : List c.Binder → Bool → c.Binders
bs names rest = record { names = names; rest = rest }

abbrev l : c.Target → Bool → c.RuleLeaf
l target literal = record { target = target; literal = literal }

abbrev d : c.Binder → List c.RuleLeaf → c.MacroDef
d binder leaves = record { binder = binder; rules = no_rules; leaves = leaves }

abbrev f : ℕ → Option Occ → c.FieldUse
f field occ = record { field = field; occ = occ }

abbrev r : List c.Binder → List c.Binder → List ℕ → List c.FieldUse → c.RecordType
r binders fields modified used = record { binders = binders; fields = fields; modified = modified; used = used }

abbrev w : c.Parts → ℕ → ℕ → Option FaultRow → List c.Target → FormRow
w items uses nodes fault keywords = record { items = items; uses = uses; nodes = nodes; fault = fault; keywords = keywords }

abbrev e : ℕ → Option Occ → List ℕ → Option FaultRow
e code at symbol = Some (record { code = code; at = at; symbol = symbol })

pub workspaces-23 : unit_rows ((Some (((g.list (p 0 6 0 22) (g.part (g.atom (p 1 1 1 7) (g.spelled (k.Name (codes "import") false))) (g.part (g.list (p 2 5 8 21) (g.part (g.atom (p 3 3 9 15) (g.spelled (k.Name (codes "scheme") false))) (g.part (g.atom (p 4 4 16 20) (g.spelled (k.Name (codes "base") false))) g.none))) g.none)))) ∷ ((g.list (p 7 38 23 77) (g.part (g.atom (p 8 8 24 30) (g.spelled (k.Name (codes "define") false))) (g.part (g.list (p 9 12 31 36) (g.part (g.atom (p 10 10 32 33) (g.spelled (k.Name (codes "y") false))) (g.part (g.atom (p 11 11 34 35) (g.spelled (k.Name (codes "x") false))) g.none))) (g.part (g.list (p 13 37 37 76) (g.part (g.list (p 14 27 38 60) (g.part (g.atom (p 15 15 39 41) (g.spelled (k.Name (codes "do") false))) (g.part (g.list (p 16 22 42 51) (g.part (g.list (p 17 21 43 50) (g.part (g.atom (p 18 18 44 45) (g.spelled (k.Name (codes "t") false))) (g.part (g.atom (p 19 19 46 47) (g.spelled (k.Name (codes "a") false))) (g.part (g.atom (p 20 20 48 49) (g.spelled (k.Numeral (codes "2")))) g.none)))) g.none)) (g.part (g.list (p 23 25 52 57) (g.part (g.atom (p 24 24 53 56) (g.spelled (k.Name (codes "x") true))) g.none)) (g.part (g.atom (p 26 26 58 59) (g.spelled (k.Name (codes "b") false))) g.none))))) (g.part (g.list (p 28 33 61 71) (g.part (g.atom (p 29 29 62 64) (g.spelled (k.Name (codes "if") false))) (g.part (g.atom (p 30 30 65 66) (g.spelled (k.Numeral (codes "1")))) (g.part (g.atom (p 31 31 67 68) (g.spelled (k.Name (codes "a") false))) (g.part (g.atom (p 32 32 69 70) (g.spelled (k.Name (codes "y") false))) g.none))))) (g.part (g.list (p 34 36 72 75) (g.part (g.atom (p 35 35 73 74) (g.spelled (k.Name (codes "y") false))) g.none)) g.none)))) g.none))))) ∷ ((g.list (p 39 40 78 80) (g.part (g.atom (p 39 39 78 79) (g.implied k.Quote)) (g.part (g.atom (p 40 40 79 80) (g.spelled (k.Name (codes "t") false))) g.none)))) ∷ ((g.list (p 41 45 81 93) (g.part (g.atom (p 42 42 82 88) (g.spelled (k.Name (codes "define") false))) (g.part (g.atom (p 43 43 89 90) (g.spelled (k.Name (codes "a") false))) (g.part (g.atom (p 44 44 91 92) (g.spelled (k.Name (codes "a") false))) g.none))))) ∷ [])) ∷ []) ≡ ((v None ((w c.no_parts 0 0 None ([])) ∷ (w (c.part (c.Define (b (c.Definition 0 0) (x.Written 0 (codes "y")) (Some (o 0 1 3))) (c.Lambda (bs (((b (c.LocalNumber (n 0 1 0)) (x.Written 0 (codes "x")) (Some (o 0 1 4)))) ∷ []) false) (c.Body (c.part (c.Expression (c.Call (c.core (c.Call (c.core (c.Call (c.core (c.Lambda (bs ([]) false) (c.Body (c.part (c.Define (b (c.LocalNumber (n 0 1 1)) (x.Written 0 (codes "loop")) None) (c.Lambda (bs (((b (c.LocalNumber (n 0 1 2)) (x.Written 0 (codes "t")) (Some (o 0 1 11)))) ∷ []) false) (c.Body (c.part (c.Expression (c.If (c.core (c.Ref (u (m.Local (n 0 1 0)) (x.Written 0 (codes "x")) (Some (o 0 1 17)))) (c.core (c.Body (c.part (c.Expression (c.Const (t.Boolean false))) c.no_parts)) (c.core (c.Body (c.part (c.Expression (c.Const (t.Boolean false))) (c.part (c.Expression (c.Ref (u (m.Free (codes "b")) (x.Written 0 (codes "b")) (Some (o 0 1 19))))) (c.part (c.Expression (c.Call (c.core (c.Ref (u (m.Local (n 0 1 1)) (x.Written 0 (codes "loop")) None)) (c.core (c.Const (t.Numeral (codes "2"))) c.no_cores)))) c.no_parts)))) c.no_cores))))) c.no_parts)))) (c.part (c.Expression (c.Call (c.core (c.Lambda (bs ([]) false) (c.Body (c.part (c.Expression (c.Ref (u (m.Local (n 0 1 1)) (x.Written 0 (codes "loop")) None))) c.no_parts))) c.no_cores))) c.no_parts)))) c.no_cores)) (c.core (c.Ref (u (m.Global 0 (x.Written 0 (codes "a"))) (x.Written 0 (codes "a")) (Some (o 0 1 12)))) c.no_cores))) (c.core (c.If (c.core (c.Const (t.Numeral (codes "1"))) (c.core (c.Ref (u (m.Global 0 (x.Written 0 (codes "a"))) (x.Written 0 (codes "a")) (Some (o 0 1 24)))) (c.core (c.Ref (u (m.Global 0 (x.Written 0 (codes "y"))) (x.Written 0 (codes "y")) (Some (o 0 1 25)))) c.no_cores)))) (c.core (c.Call (c.core (c.Ref (u (m.Global 0 (x.Written 0 (codes "y"))) (x.Written 0 (codes "y")) (Some (o 0 1 28)))) c.no_cores)) c.no_cores))))) c.no_parts)))) c.no_parts) 6 93 None (((u (m.Standard (codes "define")) (x.Written 0 (codes "define")) (Some (o 0 1 1)))) ∷ ((u (m.Standard (codes "lambda")) (x.Written 0 (codes "lambda")) None)) ∷ ((u (m.Standard (codes "define")) (x.Written 0 (codes "define")) None)) ∷ ((u (m.Standard (codes "lambda")) (x.Written 0 (codes "lambda")) None)) ∷ ((u (m.Standard (codes "if")) (x.Written 0 (codes "if")) None)) ∷ ((u (m.Standard (codes "begin")) (x.Written 0 (codes "begin")) None)) ∷ ((u (m.Standard (codes "begin")) (x.Written 0 (codes "begin")) None)) ∷ ((u (m.Standard (codes "lambda")) (x.Written 0 (codes "lambda")) None)) ∷ ((u (m.Standard (codes "if")) (x.Written 0 (codes "if")) (Some (o 0 1 22)))) ∷ [])) ∷ (w (c.part (c.Expression (c.Quote (t.name (codes "t") (Some (o 0 2 1))))) c.no_parts) 0 2 None (((u (m.Standard (codes "quote")) (x.Written 0 (codes "quote")) None)) ∷ [])) ∷ (w (c.part (c.Define (b (c.Definition 0 1) (x.Written 0 (codes "a")) (Some (o 0 3 2))) (c.Ref (u (m.Global 0 (x.Written 0 (codes "a"))) (x.Written 0 (codes "a")) (Some (o 0 3 3))))) c.no_parts) 0 1 None (((u (m.Standard (codes "define")) (x.Written 0 (codes "define")) (Some (o 0 3 1)))) ∷ [])) ∷ [])) ∷ [])
unfolding base_names standard_libraries prelude encode_utf8
workspaces-23 = refl

pub workspaces-24 : unit_rows ((Some (((g.list (p 0 38 0 70) (g.part (g.atom (p 0 0 0 1) (g.implied k.Quasi)) (g.part (g.list (p 1 38 1 70) (g.part (g.list (p 2 4 2 5) (g.part (g.atom (p 3 3 3 4) (g.spelled (k.Name (codes "q") false))) g.none)) (g.part (g.list (p 5 6 6 10) (g.part (g.atom (p 5 5 6 7) (g.implied k.Unquote)) (g.part (g.atom (p 6 6 7 10) (g.spelled (k.Name (codes "tmp") false))) g.none))) (g.part (g.list (p 7 35 11 65) (g.part (g.atom (p 7 7 11 13) (g.implied k.Splice)) (g.part (g.list (p 8 35 13 65) (g.part (g.atom (p 8 8 13 14) (g.implied k.Quasi)) (g.part (g.list (p 9 35 14 65) (g.part (g.atom (p 10 10 15 16) (g.spelled (k.Name (codes "q") false))) (g.part (g.list (p 11 27 17 50) (g.part (g.atom (p 11 11 17 18) (g.implied k.Unquote)) (g.part (g.list (p 12 27 18 50) (g.part (g.atom (p 13 13 19 25) (g.spelled (k.Name (codes "letrec") false))) (g.part (g.list (p 14 25 26 46) (g.part (g.list (p 15 24 27 45) (g.part (g.atom (p 16 16 28 29) (g.spelled (k.Name (codes "f") false))) (g.part (g.list (p 17 23 30 44) (g.part (g.atom (p 18 18 31 37) (g.spelled (k.Name (codes "lambda") false))) (g.part (g.list (p 19 21 38 41) (g.part (g.atom (p 20 20 39 40) (g.spelled (k.Name (codes "b") false))) g.none)) (g.part (g.atom (p 22 22 42 43) (g.spelled (k.Name (codes "a") false))) g.none)))) g.none))) g.none)) (g.part (g.atom (p 26 26 47 49) (g.spelled (k.Truth true))) g.none)))) g.none))) (g.part (g.list (p 28 32 51 60) (g.part (g.atom (p 28 28 51 53) (g.implied k.Splice)) (g.part (g.list (p 29 32 53 60) (g.part (g.atom (p 30 30 54 55) (g.spelled (k.Name (codes "x") false))) (g.part (g.atom (p 31 31 56 59) (g.spelled (k.Quoted (codes "s")))) g.none))) g.none))) (g.tail (g.atom (p 34 34 63 64) (g.spelled (k.Name (codes "t") false)))))))) g.none))) g.none))) (g.tail (g.atom (p 37 37 68 69) (g.spelled (k.Name (codes "t") false)))))))) g.none)))) ∷ ((g.atom (p 39 39 71 72) (g.spelled (k.Name (codes "x") false)))) ∷ [])) ∷ []) ≡ ((v None ((w (c.part (c.Expression (c.Quasi hole (c.core (c.Ref (u (m.Free (codes "tmp")) (x.Written 0 (codes "tmp")) (Some (o 0 0 6)))) (c.core (c.Quasi hole (c.core (c.Call (c.core (c.Lambda (bs ([]) false) (c.Body (c.part (c.Define (b (c.LocalNumber (n 0 0 0)) (x.Written 0 (codes "f")) (Some (o 0 0 16))) (c.Lambda (bs (((b (c.LocalNumber (n 0 0 1)) (x.Written 0 (codes "b")) (Some (o 0 0 20)))) ∷ []) false) (c.Body (c.part (c.Expression (c.Ref (u (m.Free (codes "a")) (x.Written 0 (codes "a")) (Some (o 0 0 22))))) c.no_parts)))) (c.part (c.Expression (c.Call (c.core (c.Lambda (bs ([]) false) (c.Body (c.part (c.Expression (c.Const (t.Boolean true))) c.no_parts))) c.no_cores))) c.no_parts)))) c.no_cores)) (c.core (c.Call (c.core (c.Ref (u (m.Free (codes "x")) (x.Written 0 (codes "x")) (Some (o 0 0 30)))) (c.core (c.Const (t.Quoted (codes "s"))) c.no_cores))) c.no_cores))) c.no_cores)))) c.no_parts) 3 55 None (((u (m.Standard (codes "quasiquote")) (x.Written 0 (codes "quasiquote")) None)) ∷ ((u (m.Standard (codes "quasiquote")) (x.Written 0 (codes "quasiquote")) None)) ∷ ((u (m.Standard (codes "lambda")) (x.Written 0 (codes "lambda")) None)) ∷ ((u (m.Standard (codes "define")) (x.Written 0 (codes "define")) None)) ∷ ((u (m.Standard (codes "lambda")) (x.Written 0 (codes "lambda")) (Some (o 0 0 18)))) ∷ ((u (m.Standard (codes "lambda")) (x.Written 0 (codes "lambda")) None)) ∷ [])) ∷ (w (c.part (c.Expression (c.Ref (u (m.Free (codes "x")) (x.Written 0 (codes "x")) (Some (o 0 1 0))))) c.no_parts) 0 1 None ([])) ∷ [])) ∷ [])
unfolding base_names standard_libraries prelude encode_utf8
workspaces-24 = refl

pub workspaces-25 : unit_rows ((Some (((g.list (p 0 202 0 553) (g.part (g.atom (p 1 1 1 15) (g.spelled (k.Name (codes "define-library") false))) (g.part (g.list (p 2 4 16 20) (g.part (g.atom (p 3 3 17 19) (g.spelled (k.Name (codes "l0") false))) g.none)) (g.part (g.list (p 5 13 22 45) (g.part (g.atom (p 6 6 23 29) (g.spelled (k.Name (codes "export") false))) (g.part (g.atom (p 7 7 30 31) (g.spelled (k.Name (codes "g") false))) (g.part (g.list (p 8 12 32 44) (g.part (g.atom (p 9 9 33 39) (g.spelled (k.Name (codes "rename") false))) (g.part (g.atom (p 10 10 40 41) (g.spelled (k.Name (codes "t") false))) (g.part (g.atom (p 11 11 42 43) (g.spelled (k.Name (codes "f") false))) g.none)))) g.none)))) (g.part (g.list (p 14 20 47 69) (g.part (g.atom (p 15 15 48 54) (g.spelled (k.Name (codes "import") false))) (g.part (g.list (p 16 19 55 68) (g.part (g.atom (p 17 17 56 62) (g.spelled (k.Name (codes "scheme") false))) (g.part (g.atom (p 18 18 63 67) (g.spelled (k.Name (codes "base") false))) g.none))) g.none))) (g.part (g.list (p 21 201 71 552) (g.part (g.atom (p 22 22 72 77) (g.spelled (k.Name (codes "begin") false))) (g.part (g.list (p 23 58 80 187) (g.part (g.atom (p 24 24 81 92) (g.spelled (k.Name (codes "cond-expand") false))) (g.part (g.list (p 25 36 93 124) (g.part (g.list (p 26 30 94 108) (g.part (g.atom (p 27 27 95 97) (g.spelled (k.Name (codes "or") false))) (g.part (g.atom (p 28 28 98 102) (g.spelled (k.Name (codes "full") false))) (g.part (g.atom (p 29 29 103 107) (g.spelled (k.Name (codes "r7rs") false))) g.none)))) (g.part (g.list (p 31 35 109 123) (g.part (g.atom (p 32 32 110 116) (g.spelled (k.Name (codes "define") false))) (g.part (g.atom (p 33 33 117 118) (g.spelled (k.Name (codes "g") false))) (g.part (g.atom (p 34 34 119 122) (g.spelled (k.Character 99))) g.none)))) g.none))) (g.part (g.list (p 37 57 125 186) (g.part (g.atom (p 38 38 126 130) (g.spelled (k.Name (codes "else") false))) (g.part (g.list (p 39 56 131 185) (g.part (g.atom (p 40 40 132 150) (g.spelled (k.Name (codes "define-record-type") false))) (g.part (g.atom (p 41 41 151 152) (g.spelled (k.Name (codes "n") false))) (g.part (g.list (p 42 45 153 158) (g.part (g.atom (p 43 43 154 155) (g.spelled (k.Name (codes "n") false))) (g.part (g.atom (p 44 44 156 157) (g.spelled (k.Name (codes "x") false))) g.none))) (g.part (g.atom (p 46 46 159 161) (g.spelled (k.Name (codes "n?") false))) (g.part (g.list (p 47 50 162 169) (g.part (g.atom (p 48 48 163 164) (g.spelled (k.Name (codes "x") false))) (g.part (g.atom (p 49 49 165 168) (g.spelled (k.Name (codes "x-x") false))) g.none))) (g.part (g.list (p 51 55 170 184) (g.part (g.atom (p 52 52 171 172) (g.spelled (k.Name (codes "m") false))) (g.part (g.atom (p 53 53 173 176) (g.spelled (k.Name (codes "m-y") false))) (g.part (g.atom (p 54 54 177 183) (g.spelled (k.Name (codes "set-m!") false))) g.none)))) g.none))))))) g.none))) g.none)))) (g.part (g.list (p 59 112 190 333) (g.part (g.atom (p 60 60 191 204) (g.spelled (k.Name (codes "define-syntax") false))) (g.part (g.atom (p 61 61 205 206) (g.spelled (k.Name (codes "b") false))) (g.part (g.list (p 62 111 207 332) (g.part (g.atom (p 63 63 208 220) (g.spelled (k.Name (codes "syntax-rules") false))) (g.part (g.list (p 64 65 221 223) g.none) (g.part (g.list (p 66 110 224 331) (g.part (g.list (p 67 69 225 229) (g.part (g.atom (p 68 68 226 227) (g.spelled (k.Name (codes "_") false))) g.none)) (g.part (g.list (p 70 109 230 330) (g.part (g.atom (p 71 71 231 236) (g.spelled (k.Name (codes "begin") false))) (g.part (g.list (p 72 103 237 311) (g.part (g.atom (p 73 73 238 244) (g.spelled (k.Name (codes "define") false))) (g.part (g.atom (p 74 74 245 246) (g.spelled (k.Name (codes "n") false))) (g.part (g.list (p 75 102 247 310) (g.part (g.atom (p 76 76 248 258) (g.spelled (k.Name (codes "let-syntax") false))) (g.part (g.list (p 77 97 259 303) (g.part (g.list (p 78 96 260 302) (g.part (g.atom (p 79 79 261 262) (g.spelled (k.Name (codes "k") false))) (g.part (g.list (p 80 95 263 301) (g.part (g.atom (p 81 81 264 276) (g.spelled (k.Name (codes "syntax-rules") false))) (g.part (g.list (p 82 83 277 279) g.none) (g.part (g.list (p 84 94 280 300) (g.part (g.list (p 85 88 281 286) (g.part (g.atom (p 86 86 282 283) (g.spelled (k.Name (codes "_") false))) (g.part (g.atom (p 87 87 284 285) (g.spelled (k.Name (codes "t") false))) g.none))) (g.part (g.list (p 89 93 287 299) (g.part (g.atom (p 90 90 288 292) (g.spelled (k.Name (codes "list") false))) (g.part (g.atom (p 91 91 293 296) (g.spelled (k.Name (codes "tmp") false))) (g.part (g.atom (p 92 92 297 298) (g.spelled (k.Name (codes "t") false))) g.none)))) g.none))) g.none)))) g.none))) g.none)) (g.part (g.list (p 98 101 304 309) (g.part (g.atom (p 99 99 305 306) (g.spelled (k.Name (codes "k") false))) (g.part (g.atom (p 100 100 307 308) (g.spelled (k.Name (codes "q") false))) g.none))) g.none)))) g.none)))) (g.part (g.list (p 104 108 312 329) (g.part (g.atom (p 105 105 313 319) (g.spelled (k.Name (codes "define") false))) (g.part (g.atom (p 106 106 320 326) (g.spelled (k.Name (codes "lambda") false))) (g.part (g.atom (p 107 107 327 328) (g.spelled (k.Name (codes "a") false))) g.none)))) g.none)))) g.none))) g.none)))) g.none)))) (g.part (g.list (p 113 115 336 339) (g.part (g.atom (p 114 114 337 338) (g.spelled (k.Name (codes "b") false))) g.none)) (g.part (g.list (p 116 200 342 551) (g.part (g.atom (p 117 117 343 356) (g.spelled (k.Name (codes "define-syntax") false))) (g.part (g.atom (p 118 118 357 358) (g.spelled (k.Name (codes "t") false))) (g.part (g.list (p 119 199 359 550) (g.part (g.atom (p 120 120 360 372) (g.spelled (k.Name (codes "syntax-rules") false))) (g.part (g.list (p 121 122 373 375) g.none) (g.part (g.list (p 123 198 376 549) (g.part (g.list (p 124 130 377 386) (g.part (g.atom (p 125 125 378 379) (g.spelled (k.Name (codes "_") false))) (g.part (g.list (p 126 129 380 385) (g.part (g.atom (p 127 127 381 382) (g.spelled (k.Name (codes "a") false))) (g.part (g.atom (p 128 128 383 384) (g.spelled (k.Name (codes "m") false))) g.none))) g.none))) (g.part (g.list (p 131 197 387 548) (g.part (g.atom (p 132 132 388 393) (g.spelled (k.Name (codes "begin") false))) (g.part (g.list (p 133 164 394 474) (g.part (g.atom (p 134 134 395 401) (g.spelled (k.Name (codes "define") false))) (g.part (g.atom (p 135 135 402 403) (g.spelled (k.Name (codes "f") false))) (g.part (g.list (p 136 163 404 473) (g.part (g.atom (p 137 137 405 408) (g.spelled (k.Name (codes "let") false))) (g.part (g.list (p 138 139 409 411) g.none) (g.part (g.list (p 140 154 412 455) (g.part (g.atom (p 141 141 413 426) (g.spelled (k.Name (codes "define-syntax") false))) (g.part (g.atom (p 142 142 427 428) (g.spelled (k.Name (codes "a") false))) (g.part (g.list (p 143 153 429 454) (g.part (g.atom (p 144 144 430 442) (g.spelled (k.Name (codes "syntax-rules") false))) (g.part (g.list (p 145 146 443 445) g.none) (g.part (g.list (p 147 152 446 453) (g.part (g.list (p 148 150 447 450) (g.part (g.atom (p 149 149 448 449) (g.spelled (k.Name (codes "_") false))) g.none)) (g.part (g.atom (p 151 151 451 452) (g.spelled (k.Name (codes "m") false))) g.none))) g.none)))) g.none)))) (g.part (g.list (p 155 159 456 468) (g.part (g.atom (p 156 156 457 463) (g.spelled (k.Name (codes "define") false))) (g.part (g.atom (p 157 157 464 465) (g.spelled (k.Name (codes "m") false))) (g.part (g.atom (p 158 158 466 467) (g.spelled (k.Name (codes "m") false))) g.none)))) (g.part (g.list (p 160 162 469 472) (g.part (g.atom (p 161 161 470 471) (g.spelled (k.Name (codes "a") false))) g.none)) g.none)))))) g.none)))) (g.part (g.list (p 165 196 475 547) (g.part (g.atom (p 166 166 476 482) (g.spelled (k.Name (codes "define") false))) (g.part (g.atom (p 167 167 483 484) (g.spelled (k.Name (codes "a") false))) (g.part (g.list (p 168 195 485 546) (g.part (g.atom (p 169 169 486 496) (g.spelled (k.Name (codes "let-syntax") false))) (g.part (g.list (p 170 190 497 539) (g.part (g.list (p 171 189 498 538) (g.part (g.atom (p 172 172 499 500) (g.spelled (k.Name (codes "b") false))) (g.part (g.list (p 173 188 501 537) (g.part (g.atom (p 174 174 502 514) (g.spelled (k.Name (codes "syntax-rules") false))) (g.part (g.list (p 175 176 515 517) g.none) (g.part (g.list (p 177 187 518 536) (g.part (g.list (p 178 181 519 524) (g.part (g.atom (p 179 179 520 521) (g.spelled (k.Name (codes "_") false))) (g.part (g.atom (p 180 180 522 523) (g.spelled (k.Name (codes "b") false))) g.none))) (g.part (g.list (p 182 186 525 535) (g.part (g.atom (p 183 183 526 530) (g.spelled (k.Name (codes "list") false))) (g.part (g.atom (p 184 184 531 532) (g.spelled (k.Name (codes "k") false))) (g.part (g.atom (p 185 185 533 534) (g.spelled (k.Name (codes "n") false))) g.none)))) g.none))) g.none)))) g.none))) g.none)) (g.part (g.list (p 191 194 540 545) (g.part (g.atom (p 192 192 541 542) (g.spelled (k.Name (codes "b") false))) (g.part (g.atom (p 193 193 543 544) (g.spelled (k.Name (codes "a") false))) g.none))) g.none)))) g.none)))) g.none)))) g.none))) g.none)))) g.none)))) g.none)))))) g.none))))))) ∷ [])) ∷ (Some (((g.list (p 0 17 0 47) (g.part (g.atom (p 1 1 1 7) (g.spelled (k.Name (codes "import") false))) (g.part (g.list (p 2 5 8 21) (g.part (g.atom (p 3 3 9 15) (g.spelled (k.Name (codes "scheme") false))) (g.part (g.atom (p 4 4 16 20) (g.spelled (k.Name (codes "base") false))) g.none))) (g.part (g.list (p 6 16 22 46) (g.part (g.atom (p 7 7 23 29) (g.spelled (k.Name (codes "except") false))) (g.part (g.list (p 8 14 30 43) (g.part (g.atom (p 9 9 31 35) (g.spelled (k.Name (codes "only") false))) (g.part (g.list (p 10 12 36 40) (g.part (g.atom (p 11 11 37 39) (g.spelled (k.Name (codes "l0") false))) g.none)) (g.part (g.atom (p 13 13 41 42) (g.spelled (k.Name (codes "f") false))) g.none)))) (g.part (g.atom (p 15 15 44 45) (g.spelled (k.Name (codes "f") false))) g.none)))) g.none))))) ∷ ((g.list (p 18 35 48 138) (g.part (g.atom (p 19 19 49 67) (g.spelled (k.Name (codes "define-record-type") false))) (g.part (g.atom (p 20 20 68 69) (g.spelled (k.Name (codes "f") false))) (g.part (g.list (p 21 24 70 78) (g.part (g.atom (p 22 22 71 75) (g.spelled (k.Name (codes "make") false))) (g.part (g.atom (p 23 23 76 77) (g.spelled (k.Name (codes "x") false))) g.none))) (g.part (g.atom (p 25 25 79 81) (g.spelled (k.Name (codes "f?") false))) (g.part (g.list (p 26 29 82 89) (g.part (g.atom (p 27 27 83 84) (g.spelled (k.Name (codes "x") false))) (g.part (g.atom (p 28 28 85 88) (g.spelled (k.Name (codes "x-x") false))) g.none))) (g.part (g.list (p 30 34 90 137) (g.part (g.atom (p 31 31 91 103) (g.spelled (k.Name (codes "syntax-rules") false))) (g.part (g.atom (p 32 32 104 118) (g.spelled (k.Name (codes "syntax-rules-y") false))) (g.part (g.atom (p 33 33 119 136) (g.spelled (k.Name (codes "set-syntax-rules!") false))) g.none)))) g.none)))))))) ∷ ((g.list (p 36 91 139 288) (g.part (g.atom (p 37 37 140 153) (g.spelled (k.Name (codes "define-syntax") false))) (g.part (g.atom (p 38 38 154 155) (g.spelled (k.Name (codes "a") false))) (g.part (g.list (p 39 90 156 287) (g.part (g.atom (p 40 40 157 169) (g.spelled (k.Name (codes "syntax-rules") false))) (g.part (g.atom (p 41 41 170 173) (g.spelled (k.Name (codes ":::") false))) (g.part (g.list (p 42 44 174 178) (g.part (g.atom (p 43 43 175 177) (g.spelled (k.Name (codes "=>") false))) g.none)) (g.part (g.list (p 45 89 179 286) (g.part (g.list (p 46 53 180 192) (g.part (g.atom (p 47 47 181 182) (g.spelled (k.Name (codes "_") false))) (g.part (g.list (p 48 51 183 188) (g.part (g.atom (p 49 49 184 185) (g.spelled (k.Name (codes "t") false))) (g.part (g.atom (p 50 50 186 187) (g.spelled (k.Name (codes "x") false))) g.none))) (g.part (g.atom (p 52 52 189 191) (g.spelled (k.Name (codes "=>") false))) g.none)))) (g.part (g.list (p 54 88 193 285) (g.part (g.atom (p 55 55 194 199) (g.spelled (k.Name (codes "begin") false))) (g.part (g.list (p 56 87 200 284) (g.part (g.atom (p 57 57 201 207) (g.spelled (k.Name (codes "define") false))) (g.part (g.atom (p 58 58 208 209) (g.spelled (k.Name (codes "t") false))) (g.part (g.list (p 59 86 210 283) (g.part (g.atom (p 60 60 211 214) (g.spelled (k.Name (codes "let") false))) (g.part (g.list (p 61 62 215 217) g.none) (g.part (g.list (p 63 77 218 263) (g.part (g.atom (p 64 64 219 232) (g.spelled (k.Name (codes "define-syntax") false))) (g.part (g.atom (p 65 65 233 236) (g.spelled (k.Name (codes "tmp") false))) (g.part (g.list (p 66 76 237 262) (g.part (g.atom (p 67 67 238 250) (g.spelled (k.Name (codes "syntax-rules") false))) (g.part (g.list (p 68 69 251 253) g.none) (g.part (g.list (p 70 75 254 261) (g.part (g.list (p 71 73 255 258) (g.part (g.atom (p 72 72 256 257) (g.spelled (k.Name (codes "_") false))) g.none)) (g.part (g.atom (p 74 74 259 260) (g.spelled (k.Name (codes "q") false))) g.none))) g.none)))) g.none)))) (g.part (g.list (p 78 82 264 276) (g.part (g.atom (p 79 79 265 271) (g.spelled (k.Name (codes "define") false))) (g.part (g.atom (p 80 80 272 273) (g.spelled (k.Name (codes "k") false))) (g.part (g.atom (p 81 81 274 275) (g.spelled (k.Name (codes "t") false))) g.none)))) (g.part (g.list (p 83 85 277 282) (g.part (g.atom (p 84 84 278 281) (g.spelled (k.Name (codes "tmp") false))) g.none)) g.none)))))) g.none)))) g.none))) g.none))) g.none))))) g.none))))) ∷ ((g.list (p 92 96 289 301) (g.part (g.atom (p 93 93 290 296) (g.spelled (k.Name (codes "define") false))) (g.part (g.atom (p 94 94 297 298) (g.spelled (k.Name (codes "y") false))) (g.part (g.atom (p 95 95 299 300) (g.spelled (k.Name (codes "f") false))) g.none))))) ∷ ((g.list (p 97 151 302 443) (g.part (g.atom (p 98 98 303 316) (g.spelled (k.Name (codes "define-syntax") false))) (g.part (g.atom (p 99 99 317 318) (g.spelled (k.Name (codes "n") false))) (g.part (g.list (p 100 150 319 442) (g.part (g.atom (p 101 101 320 332) (g.spelled (k.Name (codes "syntax-rules") false))) (g.part (g.list (p 102 103 333 335) g.none) (g.part (g.list (p 104 149 336 441) (g.part (g.list (p 105 110 337 348) (g.part (g.atom (p 106 106 338 339) (g.spelled (k.Name (codes "_") false))) (g.part (g.atom (p 107 107 340 341) (g.spelled (k.Name (codes "m") false))) (g.part (g.atom (p 108 108 342 345) (g.spelled (k.Name (codes "...") false))) (g.part (g.atom (p 109 109 346 347) (g.spelled (k.Name (codes "b") false))) g.none))))) (g.part (g.list (p 111 148 349 440) (g.part (g.atom (p 112 112 350 352) (g.spelled (k.Name (codes "if") false))) (g.part (g.list (p 113 140 353 422) (g.part (g.atom (p 114 114 354 357) (g.spelled (k.Name (codes "let") false))) (g.part (g.list (p 115 116 358 360) g.none) (g.part (g.list (p 117 131 361 404) (g.part (g.atom (p 118 118 362 375) (g.spelled (k.Name (codes "define-syntax") false))) (g.part (g.atom (p 119 119 376 377) (g.spelled (k.Name (codes "b") false))) (g.part (g.list (p 120 130 378 403) (g.part (g.atom (p 121 121 379 391) (g.spelled (k.Name (codes "syntax-rules") false))) (g.part (g.list (p 122 123 392 394) g.none) (g.part (g.list (p 124 129 395 402) (g.part (g.list (p 125 127 396 399) (g.part (g.atom (p 126 126 397 398) (g.spelled (k.Name (codes "_") false))) g.none)) (g.part (g.atom (p 128 128 400 401) (g.spelled (k.Name (codes "n") false))) g.none))) g.none)))) g.none)))) (g.part (g.list (p 132 136 405 417) (g.part (g.atom (p 133 133 406 412) (g.spelled (k.Name (codes "define") false))) (g.part (g.atom (p 134 134 413 414) (g.spelled (k.Name (codes "b") false))) (g.part (g.atom (p 135 135 415 416) (g.spelled (k.Name (codes "b") false))) g.none)))) (g.part (g.list (p 137 139 418 421) (g.part (g.atom (p 138 138 419 420) (g.spelled (k.Name (codes "b") false))) g.none)) g.none)))))) (g.part (g.atom (p 141 141 423 424) (g.spelled (k.Name (codes "b") false))) (g.part (g.list (p 142 147 425 439) (g.part (g.atom (p 143 143 426 430) (g.spelled (k.Name (codes "list") false))) (g.part (g.atom (p 144 144 431 432) (g.spelled (k.Name (codes "m") false))) (g.part (g.atom (p 145 145 433 436) (g.spelled (k.Name (codes "...") false))) (g.part (g.atom (p 146 146 437 438) (g.spelled (k.Name (codes "b") false))) g.none))))) g.none))))) g.none))) g.none)))) g.none))))) ∷ [])) ∷ []) ≡ ((v None ((w c.no_parts 0 0 None ([])) ∷ (w c.no_parts 0 0 None ([])) ∷ (w (c.part (c.Define (b (c.Definition 0 0) (x.Written 0 (codes "g")) (Some (o 0 2 10))) (c.Const (t.Character 99))) c.no_parts) 0 3 None (((u (m.Standard (codes "cond-expand")) (x.Written 0 (codes "cond-expand")) (Some (o 0 2 1)))) ∷ ((u (m.Standard (codes "define")) (x.Written 0 (codes "define")) (Some (o 0 2 9)))) ∷ [])) ∷ (w (c.part (c.Syntax (d (b (c.Definition 0 1) (x.Written 0 (codes "b")) (Some (o 0 3 2))) ((l (u (m.Standard (codes "begin")) (x.Written 0 (codes "begin")) (Some (o 0 3 12))) false) ∷ (l (u (m.Standard (codes "define")) (x.Written 0 (codes "define")) (Some (o 0 3 14))) false) ∷ (l (u (m.Free (codes "n")) (x.Written 0 (codes "n")) (Some (o 0 3 15))) false) ∷ (l (u (m.Standard (codes "let-syntax")) (x.Written 0 (codes "let-syntax")) (Some (o 0 3 17))) false) ∷ (l (u (m.Free (codes "k")) (x.Written 0 (codes "k")) (Some (o 0 3 20))) false) ∷ (l (u (m.Standard (codes "syntax-rules")) (x.Written 0 (codes "syntax-rules")) (Some (o 0 3 22))) false) ∷ (l (u (m.Standard (codes "_")) (x.Written 0 (codes "_")) (Some (o 0 3 27))) false) ∷ (l (u (m.Global 0 (x.Written 0 (codes "t"))) (x.Written 0 (codes "t")) (Some (o 0 3 28))) false) ∷ (l (u (m.Standard (codes "list")) (x.Written 0 (codes "list")) (Some (o 0 3 31))) false) ∷ (l (u (m.Free (codes "tmp")) (x.Written 0 (codes "tmp")) (Some (o 0 3 32))) false) ∷ (l (u (m.Global 0 (x.Written 0 (codes "t"))) (x.Written 0 (codes "t")) (Some (o 0 3 33))) false) ∷ (l (u (m.Free (codes "k")) (x.Written 0 (codes "k")) (Some (o 0 3 40))) false) ∷ (l (u (m.Free (codes "q")) (x.Written 0 (codes "q")) (Some (o 0 3 41))) false) ∷ (l (u (m.Standard (codes "define")) (x.Written 0 (codes "define")) (Some (o 0 3 46))) false) ∷ (l (u (m.Standard (codes "lambda")) (x.Written 0 (codes "lambda")) (Some (o 0 3 47))) false) ∷ (l (u (m.Free (codes "a")) (x.Written 0 (codes "a")) (Some (o 0 3 48))) false) ∷ []))) c.no_parts) 0 34 None (((u (m.Standard (codes "define-syntax")) (x.Written 0 (codes "define-syntax")) (Some (o 0 3 1)))) ∷ [])) ∷ (w (c.part (c.Define (b (c.Definition 0 2) (x.Written 0 (codes "n")) (Some (o 0 3 15))) (c.LetSyntax (((d (b (c.LocalNumber (n 0 4 0)) (x.Written 0 (codes "k")) (Some (o 0 3 20))) ((l (u (m.Standard (codes "list")) (x.Written 0 (codes "list")) (Some (o 0 3 31))) false) ∷ (l (u (m.Free (codes "tmp")) (x.Written 0 (codes "tmp")) (Some (o 0 3 32))) false) ∷ []))) ∷ []) (c.Body (c.part (c.Expression (c.Call (c.core (c.Ref (u (m.Standard (codes "list")) (x.Written 0 (codes "list")) (Some (o 0 3 31)))) (c.core (c.Ref (u (m.Free (codes "tmp")) (x.Written 0 (codes "tmp")) (Some (o 0 3 32)))) (c.core (c.Ref (u (m.Free (codes "q")) (x.Written 0 (codes "q")) (Some (o 0 3 41)))) c.no_cores))))) c.no_parts)))) (c.part (c.Define (b (c.Definition 0 3) (x.Written 0 (codes "lambda")) (Some (o 0 3 47))) (c.Ref (u (m.Free (codes "a")) (x.Written 0 (codes "a")) (Some (o 0 3 48))))) c.no_parts)) 2 51 None (((u (m.Standard (codes "begin")) (x.Written 0 (codes "begin")) (Some (o 0 3 12)))) ∷ ((u (m.Standard (codes "define")) (x.Written 0 (codes "define")) (Some (o 0 3 14)))) ∷ ((u (m.Standard (codes "define")) (x.Written 0 (codes "define")) (Some (o 0 3 46)))) ∷ ((u (m.Standard (codes "let-syntax")) (x.Written 0 (codes "let-syntax")) (Some (o 0 3 17)))) ∷ [])) ∷ (w (c.part (c.Syntax (d (b (c.Definition 0 4) (x.Written 0 (codes "t")) (Some (o 0 5 2))) ((l (u (m.Standard (codes "begin")) (x.Written 0 (codes "begin")) (Some (o 0 5 16))) false) ∷ (l (u (m.Standard (codes "define")) (x.Written 0 (codes "define")) (Some (o 0 5 18))) false) ∷ (l (u (m.Free (codes "f")) (x.Written 0 (codes "f")) (Some (o 0 5 19))) false) ∷ (l (u (m.Standard (codes "let")) (x.Written 0 (codes "let")) (Some (o 0 5 21))) false) ∷ (l (u (m.Standard (codes "define-syntax")) (x.Written 0 (codes "define-syntax")) (Some (o 0 5 25))) false) ∷ (l (u (m.Standard (codes "syntax-rules")) (x.Written 0 (codes "syntax-rules")) (Some (o 0 5 28))) false) ∷ (l (u (m.Standard (codes "_")) (x.Written 0 (codes "_")) (Some (o 0 5 33))) false) ∷ (l (u (m.Standard (codes "define")) (x.Written 0 (codes "define")) (Some (o 0 5 40))) false) ∷ (l (u (m.Standard (codes "define")) (x.Written 0 (codes "define")) (Some (o 0 5 50))) false) ∷ (l (u (m.Standard (codes "let-syntax")) (x.Written 0 (codes "let-syntax")) (Some (o 0 5 53))) false) ∷ (l (u (m.Global 0 (x.Written 0 (codes "b"))) (x.Written 0 (codes "b")) (Some (o 0 5 56))) false) ∷ (l (u (m.Standard (codes "syntax-rules")) (x.Written 0 (codes "syntax-rules")) (Some (o 0 5 58))) false) ∷ (l (u (m.Standard (codes "_")) (x.Written 0 (codes "_")) (Some (o 0 5 63))) false) ∷ (l (u (m.Global 0 (x.Written 0 (codes "b"))) (x.Written 0 (codes "b")) (Some (o 0 5 64))) false) ∷ (l (u (m.Standard (codes "list")) (x.Written 0 (codes "list")) (Some (o 0 5 67))) false) ∷ (l (u (m.Free (codes "k")) (x.Written 0 (codes "k")) (Some (o 0 5 68))) false) ∷ (l (u (m.Free (codes "n")) (x.Written 0 (codes "n")) (Some (o 0 5 69))) false) ∷ (l (u (m.Global 0 (x.Written 0 (codes "b"))) (x.Written 0 (codes "b")) (Some (o 0 5 76))) false) ∷ []))) c.no_parts) 0 55 None (((u (m.Standard (codes "define-syntax")) (x.Written 0 (codes "define-syntax")) (Some (o 0 5 1)))) ∷ [])) ∷ [])) ∷ (v None ((w c.no_parts 0 0 None ([])) ∷ (w (c.part (c.Fields (r (((b (c.Definition 1 0) (x.Written 0 (codes "f")) (Some (o 1 1 2)))) ∷ ((b (c.Definition 1 1) (x.Written 0 (codes "make")) (Some (o 1 1 4)))) ∷ ((b (c.Definition 1 2) (x.Written 0 (codes "f?")) (Some (o 1 1 7)))) ∷ ((b (c.Definition 1 3) (x.Written 0 (codes "x-x")) (Some (o 1 1 10)))) ∷ ((b (c.Definition 1 4) (x.Written 0 (codes "syntax-rules-y")) (Some (o 1 1 14)))) ∷ ((b (c.Definition 1 5) (x.Written 0 (codes "set-syntax-rules!")) (Some (o 1 1 15)))) ∷ []) (((b (c.LocalNumber (n 1 1 0)) (x.Written 0 (codes "x")) (Some (o 1 1 9)))) ∷ ((b (c.LocalNumber (n 1 1 1)) (x.Written 0 (codes "syntax-rules")) (Some (o 1 1 13)))) ∷ []) ((1) ∷ []) ((f 0 (Some (o 1 1 5))) ∷ []))) c.no_parts) 0 0 None (((u (m.Standard (codes "define-record-type")) (x.Written 0 (codes "define-record-type")) (Some (o 1 1 1)))) ∷ [])) ∷ (w (c.part (c.Syntax (d (b (c.Definition 1 6) (x.Written 0 (codes "a")) (Some (o 1 2 2))) ((l (u (m.Standard (codes "=>")) (x.Written 0 (codes "=>")) (Some (o 1 2 7))) true) ∷ (l (u (m.Standard (codes "=>")) (x.Written 0 (codes "=>")) (Some (o 1 2 16))) true) ∷ (l (u (m.Standard (codes "begin")) (x.Written 0 (codes "begin")) (Some (o 1 2 19))) false) ∷ (l (u (m.Standard (codes "define")) (x.Written 0 (codes "define")) (Some (o 1 2 21))) false) ∷ (l (u (m.Standard (codes "let")) (x.Written 0 (codes "let")) (Some (o 1 2 24))) false) ∷ (l (u (m.Standard (codes "define-syntax")) (x.Written 0 (codes "define-syntax")) (Some (o 1 2 28))) false) ∷ (l (u (m.Free (codes "tmp")) (x.Written 0 (codes "tmp")) (Some (o 1 2 29))) false) ∷ (l (u (m.Standard (codes "syntax-rules")) (x.Written 0 (codes "syntax-rules")) (Some (o 1 2 31))) false) ∷ (l (u (m.Standard (codes "_")) (x.Written 0 (codes "_")) (Some (o 1 2 36))) false) ∷ (l (u (m.Free (codes "q")) (x.Written 0 (codes "q")) (Some (o 1 2 38))) false) ∷ (l (u (m.Standard (codes "define")) (x.Written 0 (codes "define")) (Some (o 1 2 43))) false) ∷ (l (u (m.Free (codes "k")) (x.Written 0 (codes "k")) (Some (o 1 2 44))) false) ∷ (l (u (m.Free (codes "tmp")) (x.Written 0 (codes "tmp")) (Some (o 1 2 48))) false) ∷ []))) c.no_parts) 0 36 None (((u (m.Standard (codes "define-syntax")) (x.Written 0 (codes "define-syntax")) (Some (o 1 2 1)))) ∷ [])) ∷ (w (c.part (c.Define (b (c.Definition 1 7) (x.Written 0 (codes "y")) (Some (o 1 3 2))) (c.Ref (u (m.Global 1 (x.Written 1 (codes "f"))) (x.Written 0 (codes "f")) (Some (o 1 3 3))))) c.no_parts) 0 1 None (((u (m.Standard (codes "define")) (x.Written 0 (codes "define")) (Some (o 1 3 1)))) ∷ [])) ∷ (w (c.part (c.Syntax (d (b (c.Definition 1 8) (x.Written 0 (codes "n")) (Some (o 1 4 2))) ((l (u (m.Standard (codes "if")) (x.Written 0 (codes "if")) (Some (o 1 4 15))) false) ∷ (l (u (m.Standard (codes "let")) (x.Written 0 (codes "let")) (Some (o 1 4 17))) false) ∷ (l (u (m.Standard (codes "define-syntax")) (x.Written 0 (codes "define-syntax")) (Some (o 1 4 21))) false) ∷ (l (u (m.Standard (codes "syntax-rules")) (x.Written 0 (codes "syntax-rules")) (Some (o 1 4 24))) false) ∷ (l (u (m.Standard (codes "_")) (x.Written 0 (codes "_")) (Some (o 1 4 29))) false) ∷ (l (u (m.Global 1 (x.Written 1 (codes "n"))) (x.Written 0 (codes "n")) (Some (o 1 4 31))) false) ∷ (l (u (m.Standard (codes "define")) (x.Written 0 (codes "define")) (Some (o 1 4 36))) false) ∷ (l (u (m.Standard (codes "list")) (x.Written 0 (codes "list")) (Some (o 1 4 46))) false) ∷ []))) c.no_parts) 0 36 None (((u (m.Standard (codes "define-syntax")) (x.Written 0 (codes "define-syntax")) (Some (o 1 4 1)))) ∷ [])) ∷ [])) ∷ [])
unfolding base_names standard_libraries prelude encode_utf8
workspaces-25 = refl

pub workspaces-43 : unit_rows ((Some (((g.list (p 0 64 0 184) (g.part (g.atom (p 1 1 1 15) (g.spelled (k.Name (codes "define-library") false))) (g.part (g.list (p 2 4 16 20) (g.part (g.atom (p 3 3 17 19) (g.spelled (k.Name (codes "l0") false))) g.none)) (g.part (g.list (p 5 13 22 54) (g.part (g.atom (p 6 6 23 29) (g.spelled (k.Name (codes "export") false))) (g.part (g.list (p 7 11 30 51) (g.part (g.atom (p 8 8 31 37) (g.spelled (k.Name (codes "rename") false))) (g.part (g.atom (p 9 9 38 43) (g.spelled (k.Name (codes "a b") true))) (g.part (g.atom (p 10 10 44 50) (g.spelled (k.Name (codes "define") false))) g.none)))) (g.part (g.atom (p 12 12 52 53) (g.spelled (k.Name (codes "y") false))) g.none)))) (g.part (g.list (p 14 20 56 78) (g.part (g.atom (p 15 15 57 63) (g.spelled (k.Name (codes "import") false))) (g.part (g.list (p 16 19 64 77) (g.part (g.atom (p 17 17 65 71) (g.spelled (k.Name (codes "scheme") false))) (g.part (g.atom (p 18 18 72 76) (g.spelled (k.Name (codes "base") false))) g.none))) g.none))) (g.part (g.list (p 21 63 80 183) (g.part (g.atom (p 22 22 81 86) (g.spelled (k.Name (codes "begin") false))) (g.part (g.atom (p 23 23 89 90) (g.spelled (k.Name (codes "m") false))) (g.part (g.atom (p 24 24 93 96) (g.spelled (k.Character 99))) (g.part (g.list (p 25 57 99 163) (g.part (g.atom (p 26 26 100 106) (g.spelled (k.Name (codes "define") false))) (g.part (g.atom (p 27 27 107 108) (g.spelled (k.Name (codes "y") false))) (g.part (g.list (p 28 56 109 162) (g.part (g.list (p 29 38 110 127) (g.part (g.atom (p 29 29 110 111) (g.implied k.Quasi)) (g.part (g.list (p 30 38 111 127) (g.part (g.atom (p 31 31 112 113) (g.spelled (k.Name (codes "y") false))) (g.part (g.list (p 32 33 114 118) (g.part (g.atom (p 32 32 114 115) (g.implied k.Unquote)) (g.part (g.atom (p 33 33 115 118) (g.spelled (k.Quoted (codes "s")))) g.none))) (g.part (g.list (p 34 35 119 122) (g.part (g.atom (p 34 34 119 121) (g.implied k.Splice)) (g.part (g.atom (p 35 35 121 122) (g.spelled (k.Name (codes "a") false))) g.none))) (g.tail (g.atom (p 37 37 125 126) (g.spelled (k.Name (codes "a") false)))))))) g.none))) (g.part (g.list (p 39 54 128 159) (g.part (g.atom (p 40 40 129 135) (g.spelled (k.Name (codes "letrec") false))) (g.part (g.list (p 41 52 136 156) (g.part (g.list (p 42 51 137 155) (g.part (g.atom (p 43 43 138 139) (g.spelled (k.Name (codes "m") false))) (g.part (g.list (p 44 50 140 154) (g.part (g.atom (p 45 45 141 147) (g.spelled (k.Name (codes "lambda") false))) (g.part (g.list (p 46 48 148 151) (g.part (g.atom (p 47 47 149 150) (g.spelled (k.Name (codes "b") false))) g.none)) (g.part (g.atom (p 49 49 152 153) (g.spelled (k.Name (codes "x") false))) g.none)))) g.none))) g.none)) (g.part (g.atom (p 53 53 157 158) (g.spelled (k.Name (codes "y") false))) g.none)))) (g.part (g.atom (p 55 55 160 161) (g.spelled (k.Name (codes "n") false))) g.none)))) g.none)))) (g.part (g.list (p 58 62 166 182) (g.part (g.atom (p 59 59 167 173) (g.spelled (k.Name (codes "define") false))) (g.part (g.atom (p 60 60 174 179) (g.spelled (k.Name (codes "a b") true))) (g.part (g.atom (p 61 61 180 181) (g.spelled (k.Name (codes "m") false))) g.none)))) g.none)))))) g.none))))))) ∷ [])) ∷ (None) ∷ []) ≡ ((v None ((w c.no_parts 0 0 None ([])) ∷ (w c.no_parts 0 0 None ([])) ∷ (w (c.part (c.Expression (c.Ref (u (m.Free (codes "m")) (x.Written 0 (codes "m")) (Some (o 0 2 0))))) c.no_parts) 0 1 None ([])) ∷ (w (c.part (c.Expression (c.Const (t.Character 99))) c.no_parts) 0 2 None ([])) ∷ (w (c.part (c.Define (b (c.Definition 0 0) (x.Written 0 (codes "y")) (Some (o 0 4 2))) (c.Call (c.core (c.Quasi hole (c.core (c.Const (t.Quoted (codes "s"))) (c.core (c.Ref (u (m.Free (codes "a")) (x.Written 0 (codes "a")) (Some (o 0 4 10)))) c.no_cores))) (c.core (c.Call (c.core (c.Lambda (bs ([]) false) (c.Body (c.part (c.Define (b (c.LocalNumber (n 0 4 0)) (x.Written 0 (codes "m")) (Some (o 0 4 18))) (c.Lambda (bs (((b (c.LocalNumber (n 0 4 1)) (x.Written 0 (codes "b")) (Some (o 0 4 22)))) ∷ []) false) (c.Body (c.part (c.Expression (c.Ref (u (m.Free (codes "x")) (x.Written 0 (codes "x")) (Some (o 0 4 24))))) c.no_parts)))) (c.part (c.Expression (c.Call (c.core (c.Lambda (bs ([]) false) (c.Body (c.part (c.Expression (c.Ref (u (m.Global 0 (x.Written 0 (codes "y"))) (x.Written 0 (codes "y")) (Some (o 0 4 28))))) c.no_parts))) c.no_cores))) c.no_parts)))) c.no_cores)) (c.core (c.Ref (u (m.Free (codes "n")) (x.Written 0 (codes "n")) (Some (o 0 4 30)))) c.no_cores))))) c.no_parts) 3 45 None (((u (m.Standard (codes "define")) (x.Written 0 (codes "define")) (Some (o 0 4 1)))) ∷ ((u (m.Standard (codes "quasiquote")) (x.Written 0 (codes "quasiquote")) None)) ∷ ((u (m.Standard (codes "lambda")) (x.Written 0 (codes "lambda")) None)) ∷ ((u (m.Standard (codes "define")) (x.Written 0 (codes "define")) None)) ∷ ((u (m.Standard (codes "lambda")) (x.Written 0 (codes "lambda")) (Some (o 0 4 20)))) ∷ ((u (m.Standard (codes "lambda")) (x.Written 0 (codes "lambda")) None)) ∷ [])) ∷ (w (c.part (c.Define (b (c.Definition 0 1) (x.Written 0 (codes "a b")) (Some (o 0 5 2))) (c.Ref (u (m.Free (codes "m")) (x.Written 0 (codes "m")) (Some (o 0 5 3))))) c.no_parts) 0 1 None (((u (m.Standard (codes "define")) (x.Written 0 (codes "define")) (Some (o 0 5 1)))) ∷ [])) ∷ [])) ∷ [])
unfolding base_names standard_libraries prelude encode_utf8
workspaces-43 = refl

pub workspaces-45 : unit_rows ((Some (((g.list (p 0 51 0 187) (g.part (g.atom (p 1 1 1 15) (g.spelled (k.Name (codes "define-library") false))) (g.part (g.list (p 2 4 16 20) (g.part (g.atom (p 3 3 17 19) (g.spelled (k.Name (codes "l0") false))) g.none)) (g.part (g.list (p 5 10 22 48) (g.part (g.atom (p 6 6 23 29) (g.spelled (k.Name (codes "export") false))) (g.part (g.atom (p 7 7 30 36) (g.spelled (k.Name (codes "define") false))) (g.part (g.atom (p 8 8 37 41) (g.spelled (k.Name (codes "else") false))) (g.part (g.atom (p 9 9 42 47) (g.spelled (k.Name (codes "quote") false))) g.none))))) (g.part (g.list (p 11 17 50 72) (g.part (g.atom (p 12 12 51 57) (g.spelled (k.Name (codes "import") false))) (g.part (g.list (p 13 16 58 71) (g.part (g.atom (p 14 14 59 65) (g.spelled (k.Name (codes "scheme") false))) (g.part (g.atom (p 15 15 66 70) (g.spelled (k.Name (codes "base") false))) g.none))) g.none))) (g.part (g.list (p 18 50 74 186) (g.part (g.atom (p 19 19 75 80) (g.spelled (k.Name (codes "begin") false))) (g.part (g.list (p 20 38 83 140) (g.part (g.atom (p 21 21 84 97) (g.spelled (k.Name (codes "define-syntax") false))) (g.part (g.atom (p 22 22 98 103) (g.spelled (k.Name (codes "quote") false))) (g.part (g.list (p 23 37 104 139) (g.part (g.atom (p 24 24 105 117) (g.spelled (k.Name (codes "syntax-rules") false))) (g.part (g.list (p 25 26 118 120) g.none) (g.part (g.list (p 27 36 121 138) (g.part (g.list (p 28 30 122 126) (g.part (g.atom (p 29 29 123 124) (g.spelled (k.Name (codes "_") false))) g.none)) (g.part (g.list (p 31 35 127 137) (g.part (g.atom (p 32 32 128 132) (g.spelled (k.Name (codes "set!") false))) (g.part (g.atom (p 33 33 133 134) (g.spelled (k.Name (codes "x") false))) (g.part (g.atom (p 34 34 135 136) (g.spelled (k.Name (codes "t") false))) g.none)))) g.none))) g.none)))) g.none)))) (g.part (g.list (p 39 41 143 150) (g.part (g.atom (p 40 40 144 149) (g.spelled (k.Name (codes "quote") false))) g.none)) (g.part (g.list (p 42 49 153 185) (g.part (g.atom (p 43 43 154 167) (g.spelled (k.Name (codes "define-values") false))) (g.part (g.list (p 44 47 168 181) (g.part (g.atom (p 45 45 169 175) (g.spelled (k.Name (codes "define") false))) (g.part (g.atom (p 46 46 176 180) (g.spelled (k.Name (codes "else") false))) g.none))) (g.part (g.atom (p 48 48 182 184) (g.spelled (k.Truth true))) g.none)))) g.none))))) g.none))))))) ∷ [])) ∷ (Some (((g.list (p 0 9 0 27) (g.part (g.atom (p 1 1 1 7) (g.spelled (k.Name (codes "import") false))) (g.part (g.list (p 2 5 8 21) (g.part (g.atom (p 3 3 9 15) (g.spelled (k.Name (codes "scheme") false))) (g.part (g.atom (p 4 4 16 20) (g.spelled (k.Name (codes "base") false))) g.none))) (g.part (g.list (p 6 8 22 26) (g.part (g.atom (p 7 7 23 25) (g.spelled (k.Name (codes "l0") false))) g.none)) g.none))))) ∷ [])) ∷ (Some (((g.list (p 0 13 0 36) (g.part (g.atom (p 1 1 1 7) (g.spelled (k.Name (codes "import") false))) (g.part (g.list (p 2 5 8 21) (g.part (g.atom (p 3 3 9 15) (g.spelled (k.Name (codes "scheme") false))) (g.part (g.atom (p 4 4 16 20) (g.spelled (k.Name (codes "base") false))) g.none))) (g.part (g.list (p 6 8 22 26) (g.part (g.atom (p 7 7 23 25) (g.spelled (k.Name (codes "l0") false))) g.none)) (g.part (g.list (p 9 12 27 35) (g.part (g.atom (p 10 10 28 32) (g.spelled (k.Name (codes "srfi") false))) (g.part (g.atom (p 11 11 33 34) (g.spelled (k.Numeral (codes "1")))) g.none))) g.none)))))) ∷ [])) ∷ []) ≡ ((v None ((w c.no_parts 0 0 None ([])) ∷ (w c.no_parts 0 0 None ([])) ∷ (w (c.part (c.Syntax (d (b (c.Definition 0 0) (x.Written 0 (codes "quote")) (Some (o 0 2 2))) ((l (u (m.Standard (codes "set!")) (x.Written 0 (codes "set!")) (Some (o 0 2 12))) false) ∷ (l (u (m.Free (codes "x")) (x.Written 0 (codes "x")) (Some (o 0 2 13))) false) ∷ (l (u (m.Free (codes "t")) (x.Written 0 (codes "t")) (Some (o 0 2 14))) false) ∷ []))) c.no_parts) 0 10 None (((u (m.Standard (codes "define-syntax")) (x.Written 0 (codes "define-syntax")) (Some (o 0 2 1)))) ∷ [])) ∷ (w (c.part (c.Expression (c.Set (u (m.Free (codes "x")) (x.Written 0 (codes "x")) (Some (o 0 2 13))) (c.Ref (u (m.Free (codes "t")) (x.Written 0 (codes "t")) (Some (o 0 2 14)))))) c.no_parts) 1 6 None (((u (m.Standard (codes "set!")) (x.Written 0 (codes "set!")) (Some (o 0 2 12)))) ∷ [])) ∷ (w (c.part (c.Values (bs (((b (c.Definition 0 1) (x.Written 0 (codes "define")) (Some (o 0 4 3)))) ∷ ((b (c.Definition 0 2) (x.Written 0 (codes "else")) (Some (o 0 4 4)))) ∷ []) false) (c.Const (t.Boolean true))) c.no_parts) 0 2 None (((u (m.Standard (codes "define-values")) (x.Written 0 (codes "define-values")) (Some (o 0 4 1)))) ∷ [])) ∷ [])) ∷ (v None ((w c.no_parts 0 0 None ([])) ∷ [])) ∷ (v None ((w c.no_parts 0 0 None ([])) ∷ [])) ∷ [])
unfolding base_names standard_libraries prelude encode_utf8
workspaces-45 = refl

pub workspaces-79 : unit_rows ((Some (((g.list (p 0 16 0 38) (g.part (g.atom (p 1 1 1 7) (g.spelled (k.Name (codes "define") false))) (g.part (g.list (p 2 5 8 13) (g.part (g.atom (p 3 3 9 10) (g.spelled (k.Name (codes "b") false))) (g.part (g.atom (p 4 4 11 12) (g.spelled (k.Name (codes "x") false))) g.none))) (g.part (g.list (p 6 15 14 37) (g.part (g.atom (p 7 7 15 19) (g.spelled (k.Name (codes "set!") false))) (g.part (g.atom (p 8 8 20 21) (g.spelled (k.Name (codes "a") false))) (g.part (g.list (p 9 14 22 36) (g.part (g.atom (p 10 10 23 25) (g.spelled (k.Name (codes "if") false))) (g.part (g.atom (p 11 11 26 27) (g.spelled (k.Name (codes "x") false))) (g.part (g.atom (p 12 12 28 30) (g.spelled (k.Truth true))) (g.part (g.atom (p 13 13 31 35) (g.spelled (k.Name (codes "cond") false))) g.none))))) g.none)))) g.none))))) ∷ ((g.list (p 17 51 39 116) (g.part (g.atom (p 18 18 40 53) (g.spelled (k.Name (codes "define-syntax") false))) (g.part (g.atom (p 19 19 54 55) (g.spelled (k.Name (codes "a") false))) (g.part (g.list (p 20 50 56 115) (g.part (g.atom (p 21 21 57 69) (g.spelled (k.Name (codes "syntax-rules") false))) (g.part (g.list (p 22 23 70 72) g.none) (g.part (g.list (p 24 38 73 95) (g.part (g.list (p 25 27 74 78) (g.part (g.atom (p 26 26 75 76) (g.spelled (k.Name (codes "_") false))) g.none)) (g.part (g.list (p 28 37 79 94) (g.part (g.atom (p 29 29 80 82) (g.spelled (k.Name (codes "if") false))) (g.part (g.atom (p 30 30 83 84) (g.spelled (k.Name (codes "y") false))) (g.part (g.list (p 31 35 85 91) (g.part (g.atom (p 31 31 85 86) (g.implied k.Quote)) (g.part (g.list (p 32 35 86 91) (g.part (g.atom (p 33 33 87 88) (g.spelled (k.Name (codes "y") false))) (g.part (g.atom (p 34 34 89 90) (g.spelled (k.Name (codes "y") false))) g.none))) g.none))) (g.part (g.atom (p 36 36 92 93) (g.spelled (k.Name (codes "a") false))) g.none))))) g.none))) (g.part (g.list (p 39 49 96 114) (g.part (g.list (p 40 44 97 107) (g.part (g.atom (p 41 41 98 99) (g.spelled (k.Name (codes "_") false))) (g.tail (g.atom (p 43 43 102 106) (g.spelled (k.Name (codes "rest") false)))))) (g.part (g.list (p 45 48 108 113) (g.part (g.atom (p 46 46 109 110) (g.spelled (k.Name (codes "a") false))) (g.part (g.atom (p 47 47 111 112) (g.spelled (k.Name (codes "b") false))) g.none))) g.none))) g.none))))) g.none))))) ∷ ((g.list (p 52 222 117 494) (g.part (g.list (p 53 167 118 396) (g.part (g.atom (p 54 54 119 121) (g.spelled (k.Name (codes "do") false))) (g.part (g.list (p 55 61 122 131) (g.part (g.list (p 56 60 123 130) (g.part (g.atom (p 57 57 124 125) (g.spelled (k.Name (codes "b") false))) (g.part (g.atom (p 58 58 126 127) (g.spelled (k.Name (codes "t") false))) (g.part (g.atom (p 59 59 128 129) (g.spelled (k.Name (codes "x") false))) g.none)))) g.none)) (g.part (g.list (p 62 129 132 295) (g.part (g.list (p 63 128 133 294) (g.part (g.atom (p 64 64 134 147) (g.spelled (k.Name (codes "letrec-syntax") false))) (g.part (g.list (p 65 126 148 289) (g.part (g.list (p 66 107 149 241) (g.part (g.atom (p 67 67 150 151) (g.spelled (k.Name (codes "a") false))) (g.part (g.list (p 68 106 152 240) (g.part (g.atom (p 69 69 153 165) (g.spelled (k.Name (codes "syntax-rules") false))) (g.part (g.atom (p 70 70 166 169) (g.spelled (k.Name (codes ":::") false))) (g.part (g.list (p 71 72 170 172) g.none) (g.part (g.list (p 73 91 173 211) (g.part (g.list (p 74 82 174 189) (g.part (g.atom (p 75 75 175 176) (g.spelled (k.Name (codes "_") false))) (g.part (g.list (p 76 79 177 182) (g.part (g.atom (p 77 77 178 179) (g.spelled (k.Name (codes "k") false))) (g.part (g.atom (p 78 78 180 181) (g.spelled (k.Name (codes "a") false))) g.none))) (g.part (g.atom (p 80 80 183 186) (g.spelled (k.Name (codes ":::") false))) (g.part (g.atom (p 81 81 187 188) (g.spelled (k.Name (codes "t") false))) g.none))))) (g.part (g.list (p 83 90 190 210) (g.part (g.atom (p 84 84 191 196) (g.spelled (k.Name (codes "begin") false))) (g.part (g.list (p 85 89 197 209) (g.part (g.atom (p 86 86 198 204) (g.spelled (k.Name (codes "define") false))) (g.part (g.atom (p 87 87 205 206) (g.spelled (k.Name (codes "t") false))) (g.part (g.atom (p 88 88 207 208) (g.spelled (k.Name (codes "t") false))) g.none)))) g.none))) g.none))) (g.part (g.list (p 92 105 212 239) (g.part (g.list (p 93 97 213 223) (g.part (g.atom (p 94 94 214 215) (g.spelled (k.Name (codes "_") false))) (g.tail (g.atom (p 96 96 218 222) (g.spelled (k.Name (codes "rest") false)))))) (g.part (g.list (p 98 104 224 238) (g.part (g.atom (p 99 99 225 231) (g.spelled (k.Name (codes "lambda") false))) (g.part (g.list (p 100 102 232 235) (g.part (g.atom (p 101 101 233 234) (g.spelled (k.Name (codes "x") false))) g.none)) (g.part (g.atom (p 103 103 236 237) (g.spelled (k.Name (codes "t") false))) g.none)))) g.none))) g.none)))))) g.none))) (g.part (g.list (p 108 125 242 288) (g.part (g.atom (p 109 109 243 247) (g.spelled (k.Name (codes "list") false))) (g.part (g.list (p 110 124 248 287) (g.part (g.atom (p 111 111 249 261) (g.spelled (k.Name (codes "syntax-rules") false))) (g.part (g.list (p 112 113 262 264) g.none) (g.part (g.list (p 114 123 265 286) (g.part (g.list (p 115 121 266 279) (g.part (g.atom (p 116 116 267 268) (g.spelled (k.Name (codes "_") false))) (g.part (g.list (p 117 120 269 278) (g.part (g.atom (p 118 118 270 271) (g.spelled (k.Name (codes "b") false))) (g.part (g.atom (p 119 119 272 277) (g.spelled (k.Name (codes "begin") false))) g.none))) g.none))) (g.part (g.atom (p 122 122 280 285) (g.spelled (k.Name (codes "begin") false))) g.none))) g.none)))) g.none))) g.none))) (g.part (g.atom (p 127 127 290 293) (g.spelled (k.Quoted (codes "s")))) g.none)))) g.none)) (g.part (g.list (p 130 166 296 395) (g.part (g.atom (p 131 131 297 300) (g.spelled (k.Name (codes "let") false))) (g.part (g.list (p 132 141 301 319) (g.part (g.list (p 133 136 302 310) (g.part (g.atom (p 134 134 303 307) (g.spelled (k.Name (codes "list") false))) (g.part (g.atom (p 135 135 308 309) (g.spelled (k.Name (codes "b") false))) g.none))) (g.part (g.list (p 137 140 311 318) (g.part (g.atom (p 138 138 312 313) (g.spelled (k.Name (codes "t") false))) (g.part (g.atom (p 139 139 314 317) (g.spelled (k.Quoted (codes "s")))) g.none))) g.none))) (g.part (g.list (p 142 146 320 334) (g.part (g.atom (p 143 143 321 327) (g.spelled (k.Name (codes "define") false))) (g.part (g.atom (p 144 144 328 329) (g.spelled (k.Name (codes "b") false))) (g.part (g.atom (p 145 145 330 333) (g.spelled (k.Quoted (codes "s")))) g.none)))) (g.part (g.list (p 147 164 335 392) (g.part (g.atom (p 148 148 336 354) (g.spelled (k.Name (codes "define-record-type") false))) (g.part (g.atom (p 149 149 355 356) (g.spelled (k.Name (codes "a") false))) (g.part (g.list (p 150 153 357 365) (g.part (g.atom (p 151 151 358 362) (g.spelled (k.Name (codes "make") false))) (g.part (g.atom (p 152 152 363 364) (g.spelled (k.Name (codes "b") false))) g.none))) (g.part (g.atom (p 154 154 366 368) (g.spelled (k.Name (codes "a?") false))) (g.part (g.list (p 155 158 369 376) (g.part (g.atom (p 156 156 370 371) (g.spelled (k.Name (codes "b") false))) (g.part (g.atom (p 157 157 372 375) (g.spelled (k.Name (codes "b-x") false))) g.none))) (g.part (g.list (p 159 163 377 391) (g.part (g.atom (p 160 160 378 379) (g.spelled (k.Name (codes "t") false))) (g.part (g.atom (p 161 161 380 383) (g.spelled (k.Name (codes "t-y") false))) (g.part (g.atom (p 162 162 384 390) (g.spelled (k.Name (codes "set-t!") false))) g.none)))) g.none))))))) (g.part (g.atom (p 165 165 393 394) (g.spelled (k.Name (codes "a") false))) g.none)))))) g.none))))) (g.part (g.list (p 168 183 397 420) (g.part (g.atom (p 169 169 398 401) (g.spelled (k.Name (codes "let") false))) (g.part (g.atom (p 170 170 402 403) (g.spelled (k.Name (codes "b") false))) (g.part (g.list (p 171 178 404 413) (g.part (g.list (p 172 177 405 412) (g.part (g.atom (p 173 173 406 407) (g.spelled (k.Name (codes "t") false))) (g.part (g.list (p 174 176 408 411) (g.part (g.atom (p 175 175 409 410) (g.spelled (k.Name (codes "a") false))) g.none)) g.none))) g.none)) (g.part (g.list (p 179 182 414 419) (g.part (g.atom (p 180 180 415 416) (g.spelled (k.Name (codes "y") false))) (g.part (g.atom (p 181 181 417 418) (g.spelled (k.Name (codes "a") false))) g.none))) g.none))))) (g.part (g.list (p 184 221 421 493) (g.part (g.atom (p 185 185 422 433) (g.spelled (k.Name (codes "case-lambda") false))) (g.part (g.list (p 186 200 434 455) (g.part (g.list (p 187 189 435 438) (g.part (g.atom (p 188 188 436 437) (g.spelled (k.Name (codes "y") false))) g.none)) (g.part (g.list (p 190 199 439 454) (g.part (g.atom (p 191 191 440 443) (g.spelled (k.Name (codes "let") false))) (g.part (g.list (p 192 197 444 451) (g.part (g.list (p 193 196 445 450) (g.part (g.atom (p 194 194 446 447) (g.spelled (k.Name (codes "x") false))) (g.part (g.atom (p 195 195 448 449) (g.spelled (k.Name (codes "a") false))) g.none))) g.none)) (g.part (g.atom (p 198 198 452 453) (g.spelled (k.Name (codes "y") false))) g.none)))) g.none))) (g.part (g.list (p 201 220 456 492) (g.part (g.list (p 202 206 457 464) (g.part (g.atom (p 203 203 458 459) (g.spelled (k.Name (codes "a") false))) (g.tail (g.atom (p 205 205 462 463) (g.spelled (k.Name (codes "a") false)))))) (g.part (g.list (p 207 219 465 491) (g.part (g.atom (p 208 208 466 476) (g.spelled (k.Name (codes "let-values") false))) (g.part (g.list (p 209 217 477 488) (g.part (g.list (p 210 216 478 487) (g.part (g.list (p 211 214 479 484) (g.part (g.atom (p 212 212 480 481) (g.spelled (k.Name (codes "x") false))) (g.part (g.atom (p 213 213 482 483) (g.spelled (k.Name (codes "y") false))) g.none))) (g.part (g.atom (p 215 215 485 486) (g.spelled (k.Name (codes "t") false))) g.none))) g.none)) (g.part (g.atom (p 218 218 489 490) (g.spelled (k.Name (codes "t") false))) g.none)))) g.none))) g.none)))) g.none))))) ∷ [])) ∷ []) ≡ ((v None ((w c.no_parts 0 2 (e 43 (Some (o 0 0 8)) (codes "a")) ([])) ∷ (w (c.part (c.Syntax (d (b (c.Definition 0 1) (x.Written 0 (codes "a")) (Some (o 0 1 2))) ((l (u (m.Standard (codes "if")) (x.Written 0 (codes "if")) (Some (o 0 1 12))) false) ∷ (l (u (m.Free (codes "y")) (x.Written 0 (codes "y")) (Some (o 0 1 13))) false) ∷ (l (u (m.Standard (codes "quote")) (x.Written 0 (codes "quote")) None) false) ∷ (l (u (m.Free (codes "y")) (x.Written 0 (codes "y")) (Some (o 0 1 16))) false) ∷ (l (u (m.Free (codes "y")) (x.Written 0 (codes "y")) (Some (o 0 1 17))) false) ∷ (l (u (m.Global 0 (x.Written 0 (codes "a"))) (x.Written 0 (codes "a")) (Some (o 0 1 19))) false) ∷ (l (u (m.Global 0 (x.Written 0 (codes "a"))) (x.Written 0 (codes "a")) (Some (o 0 1 29))) false) ∷ (l (u (m.Global 0 (x.Written 0 (codes "b"))) (x.Written 0 (codes "b")) (Some (o 0 1 30))) false) ∷ []))) c.no_parts) 0 22 None (((u (m.Standard (codes "define-syntax")) (x.Written 0 (codes "define-syntax")) (Some (o 0 1 1)))) ∷ [])) ∷ (w c.no_parts 11 185 (e 43 (Some (o 0 2 129)) (codes "a")) ([])) ∷ [])) ∷ [])
unfolding base_names standard_libraries prelude encode_utf8
workspaces-79 = refl
