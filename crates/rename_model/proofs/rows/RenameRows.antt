-- Open documents, and how they differ from what they are once identifiers that begin at these bytes have other names.
-- Written by tests/definitions/rows; each row is checked by computing it.
use Rattle.std.specs.Prelude.{◌≡◌, ℕ, Bool, true, false, List, [], ◌∷◌, Option, Some, None, codes, refl}
use Rattle.std.specs.Char.{encode_utf8}
use Rattle.scheme_model.specs.declared.Occ.{Occ}
use Rattle.scheme_model.specs.StandardNames.{base_names}
use Rattle.scheme_model.specs.StandardLibraries.{standard_libraries}
use Rattle.scheme_model.specs.Prelude.{prelude}
use Rattle.scheme_model.specs.Kinds as k
use Rattle.scheme_model.specs.Data as g
use Rattle.rename_model.specs.Difference as w
use Rattle.rename_model.proofs.SameShown.{renamed_rows}
use Rattle.scheme_model.specs.Diagnostics.{Span}

abbrev s : ℕ → ℕ → Span
s start end = record { start = start; end = end }

abbrev p : ℕ → ℕ → ℕ → ℕ → g.Place
p first last start end = record { first = first; last = last; start = start; end = end }

abbrev o : ℕ → ℕ → ℕ → Occ
o unit form token = record { unit = unit; form = form; token = token }

abbrev d : w.Kind → (unit form : ℕ) → Option Occ → (before after : w.Side) → w.Difference
d kind unit form place before after = record { kind = kind; unit = unit; form = form; occ = place; before = before; after = after }

pub renames-30 : renamed_rows (((s 0 1) ∷ (s 1 14) ∷ (s 15 18) ∷ (s 19 20) ∷ (s 20 32) ∷ (s 33 34) ∷ (s 34 35) ∷ (s 36 37) ∷ (s 37 38) ∷ (s 38 39) ∷ (s 40 41) ∷ (s 42 45) ∷ (s 46 47) ∷ (s 47 48) ∷ (s 49 50) ∷ (s 50 54) ∷ (s 55 56) ∷ (s 57 58) ∷ (s 58 59) ∷ (s 59 60) ∷ (s 61 62) ∷ (s 62 63) ∷ (s 63 64) ∷ (s 65 66) ∷ (s 67 71) ∷ (s 71 72) ∷ (s 73 74) ∷ (s 74 75) ∷ (s 75 76) ∷ (s 76 77) ∷ (s 78 79) ∷ (s 79 84) ∷ (s 85 86) ∷ (s 86 99) ∷ (s 100 101) ∷ (s 102 103) ∷ (s 103 115) ∷ (s 116 117) ∷ (s 117 121) ∷ (s 121 122) ∷ (s 123 124) ∷ (s 124 125) ∷ (s 125 126) ∷ (s 127 131) ∷ (s 132 133) ∷ (s 134 137) ∷ (s 137 138) ∷ (s 139 140) ∷ (s 140 145) ∷ (s 146 147) ∷ (s 147 153) ∷ (s 154 155) ∷ (s 156 157) ∷ (s 157 159) ∷ (s 160 161) ∷ (s 162 163) ∷ (s 164 165) ∷ (s 165 166) ∷ (s 166 167) ∷ (s 167 168) ∷ (s 168 169) ∷ (s 169 170) ∷ (s 170 171) ∷ (s 172 173) ∷ (s 173 174) ∷ (s 175 179) ∷ (s 179 180) ∷ (s 180 181) ∷ []) ∷ []) ((Some (((g.list (p 0 29 0 77) (g.part (g.atom (p 1 1 1 14) (g.spelled (k.Name (codes "define-syntax") false))) (g.part (g.atom (p 2 2 15 18) (g.spelled (k.Name (codes "tmp") false))) (g.part (g.list (p 3 28 19 76) (g.part (g.atom (p 4 4 20 32) (g.spelled (k.Name (codes "syntax-rules") false))) (g.part (g.list (p 5 6 33 35) g.none) (g.part (g.list (p 7 19 36 60) (g.part (g.list (p 8 13 37 48) (g.part (g.atom (p 9 9 38 39) (g.spelled (k.Name (codes "_") false))) (g.part (g.atom (p 10 10 40 41) (g.spelled (k.Name (codes "a") false))) (g.part (g.atom (p 11 11 42 45) (g.spelled (k.Name (codes "...") false))) (g.part (g.atom (p 12 12 46 47) (g.spelled (k.Name (codes "b") false))) g.none))))) (g.part (g.list (p 14 18 49 59) (g.part (g.atom (p 15 15 50 54) (g.spelled (k.Name (codes "set!") false))) (g.part (g.atom (p 16 16 55 56) (g.spelled (k.Name (codes "b") false))) (g.part (g.atom (p 17 17 57 58) (g.spelled (k.Name (codes "b") false))) g.none)))) g.none))) (g.part (g.list (p 20 27 61 75) (g.part (g.list (p 21 25 62 72) (g.part (g.atom (p 22 22 63 64) (g.spelled (k.Name (codes "_") false))) (g.tail (g.atom (p 24 24 67 71) (g.spelled (k.Name (codes "rest") false)))))) (g.part (g.atom (p 26 26 73 74) (g.spelled (k.Name (codes "g") false))) g.none))) g.none))))) g.none))))) ∷ ((g.list (p 30 67 78 181) (g.part (g.atom (p 31 31 79 84) (g.spelled (k.Name (codes "begin") false))) (g.part (g.list (p 32 62 85 171) (g.part (g.atom (p 33 33 86 99) (g.spelled (k.Name (codes "define-syntax") false))) (g.part (g.atom (p 34 34 100 101) (g.spelled (k.Name (codes "m") false))) (g.part (g.list (p 35 61 102 170) (g.part (g.atom (p 36 36 103 115) (g.spelled (k.Name (codes "syntax-rules") false))) (g.part (g.list (p 37 39 116 122) (g.part (g.atom (p 38 38 117 121) (g.spelled (k.Name (codes "else") false))) g.none)) (g.part (g.list (p 40 60 123 169) (g.part (g.list (p 41 46 124 138) (g.part (g.atom (p 42 42 125 126) (g.spelled (k.Name (codes "_") false))) (g.part (g.atom (p 43 43 127 131) (g.spelled (k.Name (codes "else") false))) (g.part (g.atom (p 44 44 132 133) (g.spelled (k.Name (codes "b") false))) (g.part (g.atom (p 45 45 134 137) (g.spelled (k.Name (codes "...") false))) g.none))))) (g.part (g.list (p 47 59 139 168) (g.part (g.atom (p 48 48 140 145) (g.spelled (k.Name (codes "begin") false))) (g.part (g.list (p 49 58 146 167) (g.part (g.atom (p 50 50 147 153) (g.spelled (k.Name (codes "define") false))) (g.part (g.atom (p 51 51 154 155) (g.spelled (k.Name (codes "a") false))) (g.part (g.list (p 52 57 156 166) (g.part (g.atom (p 53 53 157 159) (g.spelled (k.Name (codes "if") false))) (g.part (g.atom (p 54 54 160 161) (g.spelled (k.Name (codes "x") false))) (g.part (g.atom (p 55 55 162 163) (g.spelled (k.Name (codes "k") false))) (g.part (g.atom (p 56 56 164 165) (g.spelled (k.Name (codes "k") false))) g.none))))) g.none)))) g.none))) g.none))) g.none)))) g.none)))) (g.part (g.list (p 63 66 172 180) (g.part (g.atom (p 64 64 173 174) (g.spelled (k.Name (codes "m") false))) (g.part (g.atom (p 65 65 175 179) (g.spelled (k.Name (codes "else") false))) g.none))) g.none))))) ∷ [])) ∷ []) ((Some (((g.list (p 0 29 0 75) (g.part (g.atom (p 1 1 1 14) (g.spelled (k.Name (codes "define-syntax") false))) (g.part (g.atom (p 2 2 15 18) (g.spelled (k.Name (codes "tmp") false))) (g.part (g.list (p 3 28 19 74) (g.part (g.atom (p 4 4 20 32) (g.spelled (k.Name (codes "syntax-rules") false))) (g.part (g.list (p 5 6 33 35) g.none) (g.part (g.list (p 7 19 36 60) (g.part (g.list (p 8 13 37 48) (g.part (g.atom (p 9 9 38 39) (g.spelled (k.Name (codes "_") false))) (g.part (g.atom (p 10 10 40 41) (g.spelled (k.Name (codes "a") false))) (g.part (g.atom (p 11 11 42 45) (g.spelled (k.Name (codes "...") false))) (g.part (g.atom (p 12 12 46 47) (g.spelled (k.Name (codes "b") false))) g.none))))) (g.part (g.list (p 14 18 49 59) (g.part (g.atom (p 15 15 50 54) (g.spelled (k.Name (codes "set!") false))) (g.part (g.atom (p 16 16 55 56) (g.spelled (k.Name (codes "b") false))) (g.part (g.atom (p 17 17 57 58) (g.spelled (k.Name (codes "b") false))) g.none)))) g.none))) (g.part (g.list (p 20 27 61 73) (g.part (g.list (p 21 25 62 70) (g.part (g.atom (p 22 22 63 64) (g.spelled (k.Name (codes "_") false))) (g.tail (g.atom (p 24 24 67 69) (g.spelled (k.Name (codes "zz") false)))))) (g.part (g.atom (p 26 26 71 72) (g.spelled (k.Name (codes "g") false))) g.none))) g.none))))) g.none))))) ∷ ((g.list (p 30 67 76 179) (g.part (g.atom (p 31 31 77 82) (g.spelled (k.Name (codes "begin") false))) (g.part (g.list (p 32 62 83 169) (g.part (g.atom (p 33 33 84 97) (g.spelled (k.Name (codes "define-syntax") false))) (g.part (g.atom (p 34 34 98 99) (g.spelled (k.Name (codes "m") false))) (g.part (g.list (p 35 61 100 168) (g.part (g.atom (p 36 36 101 113) (g.spelled (k.Name (codes "syntax-rules") false))) (g.part (g.list (p 37 39 114 120) (g.part (g.atom (p 38 38 115 119) (g.spelled (k.Name (codes "else") false))) g.none)) (g.part (g.list (p 40 60 121 167) (g.part (g.list (p 41 46 122 136) (g.part (g.atom (p 42 42 123 124) (g.spelled (k.Name (codes "_") false))) (g.part (g.atom (p 43 43 125 129) (g.spelled (k.Name (codes "else") false))) (g.part (g.atom (p 44 44 130 131) (g.spelled (k.Name (codes "b") false))) (g.part (g.atom (p 45 45 132 135) (g.spelled (k.Name (codes "...") false))) g.none))))) (g.part (g.list (p 47 59 137 166) (g.part (g.atom (p 48 48 138 143) (g.spelled (k.Name (codes "begin") false))) (g.part (g.list (p 49 58 144 165) (g.part (g.atom (p 50 50 145 151) (g.spelled (k.Name (codes "define") false))) (g.part (g.atom (p 51 51 152 153) (g.spelled (k.Name (codes "a") false))) (g.part (g.list (p 52 57 154 164) (g.part (g.atom (p 53 53 155 157) (g.spelled (k.Name (codes "if") false))) (g.part (g.atom (p 54 54 158 159) (g.spelled (k.Name (codes "x") false))) (g.part (g.atom (p 55 55 160 161) (g.spelled (k.Name (codes "k") false))) (g.part (g.atom (p 56 56 162 163) (g.spelled (k.Name (codes "k") false))) g.none))))) g.none)))) g.none))) g.none))) g.none)))) g.none)))) (g.part (g.list (p 63 66 170 178) (g.part (g.atom (p 64 64 171 172) (g.spelled (k.Name (codes "m") false))) (g.part (g.atom (p 65 65 173 177) (g.spelled (k.Name (codes "else") false))) g.none))) g.none))))) ∷ [])) ∷ []) (((0, 67), (codes "zz")) ∷ []) ≡ None
unfolding base_names standard_libraries prelude encode_utf8
renames-30 = refl

pub renames-34 : renamed_rows (((s 0 1) ∷ (s 1 7) ∷ (s 8 9) ∷ (s 9 15) ∷ (s 16 20) ∷ (s 20 21) ∷ (s 21 22) ∷ (s 23 24) ∷ (s 24 37) ∷ (s 38 39) ∷ (s 40 41) ∷ (s 41 53) ∷ (s 54 55) ∷ (s 55 56) ∷ (s 57 58) ∷ (s 58 59) ∷ (s 59 60) ∷ (s 61 62) ∷ (s 62 63) ∷ (s 64 67) ∷ (s 67 68) ∷ (s 69 72) ∷ (s 72 73) ∷ (s 74 75) ∷ (s 75 80) ∷ (s 81 82) ∷ (s 82 88) ∷ (s 89 90) ∷ (s 91 92) ∷ (s 92 96) ∷ (s 97 98) ∷ (s 98 101) ∷ (s 102 105) ∷ (s 105 106) ∷ (s 107 110) ∷ (s 111 112) ∷ (s 112 113) ∷ (s 113 114) ∷ (s 114 115) ∷ (s 115 116) ∷ (s 116 117) ∷ (s 117 118) ∷ (s 119 120) ∷ (s 121 122) ∷ (s 122 135) ∷ (s 136 137) ∷ (s 138 139) ∷ (s 139 151) ∷ (s 152 153) ∷ (s 153 154) ∷ (s 155 156) ∷ (s 156 157) ∷ (s 157 158) ∷ (s 159 160) ∷ (s 160 161) ∷ (s 162 165) ∷ (s 165 166) ∷ (s 167 170) ∷ (s 170 171) ∷ (s 172 173) ∷ (s 173 178) ∷ (s 179 180) ∷ (s 180 186) ∷ (s 187 188) ∷ (s 189 190) ∷ (s 190 200) ∷ (s 201 202) ∷ (s 202 203) ∷ (s 203 204) ∷ (s 205 206) ∷ (s 206 218) ∷ (s 219 220) ∷ (s 220 221) ∷ (s 222 223) ∷ (s 223 224) ∷ (s 224 225) ∷ (s 226 227) ∷ (s 227 228) ∷ (s 229 230) ∷ (s 230 234) ∷ (s 235 236) ∷ (s 237 238) ∷ (s 238 239) ∷ (s 239 240) ∷ (s 240 241) ∷ (s 241 242) ∷ (s 242 243) ∷ (s 244 245) ∷ (s 245 246) ∷ (s 247 248) ∷ (s 248 249) ∷ (s 249 250) ∷ (s 250 251) ∷ (s 252 253) ∷ (s 253 259) ∷ (s 260 261) ∷ (s 262 263) ∷ (s 263 264) ∷ (s 264 265) ∷ (s 265 266) ∷ (s 266 267) ∷ (s 267 268) ∷ (s 268 269) ∷ (s 269 270) ∷ []) ∷ []) ((Some (((g.list (p 0 6 0 22) (g.part (g.atom (p 1 1 1 7) (g.spelled (k.Name (codes "import") false))) (g.part (g.list (p 2 5 8 21) (g.part (g.atom (p 3 3 9 15) (g.spelled (k.Name (codes "scheme") false))) (g.part (g.atom (p 4 4 16 20) (g.spelled (k.Name (codes "base") false))) g.none))) g.none)))) ∷ ((g.list (p 7 41 23 118) (g.part (g.atom (p 8 8 24 37) (g.spelled (k.Name (codes "define-syntax") false))) (g.part (g.atom (p 9 9 38 39) (g.spelled (k.Name (codes "t") false))) (g.part (g.list (p 10 40 40 117) (g.part (g.atom (p 11 11 41 53) (g.spelled (k.Name (codes "syntax-rules") false))) (g.part (g.list (p 12 13 54 56) g.none) (g.part (g.list (p 14 39 57 116) (g.part (g.list (p 15 22 58 73) (g.part (g.atom (p 16 16 59 60) (g.spelled (k.Name (codes "_") false))) (g.part (g.list (p 17 20 61 68) (g.part (g.atom (p 18 18 62 63) (g.spelled (k.Name (codes "n") false))) (g.part (g.atom (p 19 19 64 67) (g.spelled (k.Name (codes "tmp") false))) g.none))) (g.part (g.atom (p 21 21 69 72) (g.spelled (k.Name (codes "...") false))) g.none)))) (g.part (g.list (p 23 38 74 115) (g.part (g.atom (p 24 24 75 80) (g.spelled (k.Name (codes "begin") false))) (g.part (g.list (p 25 37 81 114) (g.part (g.atom (p 26 26 82 88) (g.spelled (k.Name (codes "define") false))) (g.part (g.atom (p 27 27 89 90) (g.spelled (k.Name (codes "t") false))) (g.part (g.list (p 28 36 91 113) (g.part (g.atom (p 29 29 92 96) (g.spelled (k.Name (codes "list") false))) (g.part (g.list (p 30 33 97 106) (g.part (g.atom (p 31 31 98 101) (g.spelled (k.Name (codes "car") false))) (g.part (g.atom (p 32 32 102 105) (g.spelled (k.Name (codes "tmp") false))) g.none))) (g.part (g.atom (p 34 34 107 110) (g.spelled (k.Name (codes "...") false))) (g.part (g.atom (p 35 35 111 112) (g.spelled (k.Name (codes "y") false))) g.none))))) g.none)))) g.none))) g.none))) g.none)))) g.none))))) ∷ ((g.atom (p 42 42 119 120) (g.spelled (k.Numeral (codes "2"))))) ∷ ((g.list (p 43 103 121 270) (g.part (g.atom (p 44 44 122 135) (g.spelled (k.Name (codes "define-syntax") false))) (g.part (g.atom (p 45 45 136 137) (g.spelled (k.Name (codes "y") false))) (g.part (g.list (p 46 102 138 269) (g.part (g.atom (p 47 47 139 151) (g.spelled (k.Name (codes "syntax-rules") false))) (g.part (g.list (p 48 49 152 154) g.none) (g.part (g.list (p 50 101 155 268) (g.part (g.list (p 51 58 156 171) (g.part (g.atom (p 52 52 157 158) (g.spelled (k.Name (codes "_") false))) (g.part (g.list (p 53 56 159 166) (g.part (g.atom (p 54 54 160 161) (g.spelled (k.Name (codes "b") false))) (g.part (g.atom (p 55 55 162 165) (g.spelled (k.Name (codes "tmp") false))) g.none))) (g.part (g.atom (p 57 57 167 170) (g.spelled (k.Name (codes "...") false))) g.none)))) (g.part (g.list (p 59 100 172 267) (g.part (g.atom (p 60 60 173 178) (g.spelled (k.Name (codes "begin") false))) (g.part (g.list (p 61 92 179 251) (g.part (g.atom (p 62 62 180 186) (g.spelled (k.Name (codes "define") false))) (g.part (g.atom (p 63 63 187 188) (g.spelled (k.Name (codes "x") false))) (g.part (g.list (p 64 91 189 250) (g.part (g.atom (p 65 65 190 200) (g.spelled (k.Name (codes "let-syntax") false))) (g.part (g.list (p 66 86 201 243) (g.part (g.list (p 67 85 202 242) (g.part (g.atom (p 68 68 203 204) (g.spelled (k.Name (codes "x") false))) (g.part (g.list (p 69 84 205 241) (g.part (g.atom (p 70 70 206 218) (g.spelled (k.Name (codes "syntax-rules") false))) (g.part (g.list (p 71 72 219 221) g.none) (g.part (g.list (p 73 83 222 240) (g.part (g.list (p 74 77 223 228) (g.part (g.atom (p 75 75 224 225) (g.spelled (k.Name (codes "_") false))) (g.part (g.atom (p 76 76 226 227) (g.spelled (k.Name (codes "x") false))) g.none))) (g.part (g.list (p 78 82 229 239) (g.part (g.atom (p 79 79 230 234) (g.spelled (k.Name (codes "list") false))) (g.part (g.atom (p 80 80 235 236) (g.spelled (k.Name (codes "t") false))) (g.part (g.atom (p 81 81 237 238) (g.spelled (k.Name (codes "x") false))) g.none)))) g.none))) g.none)))) g.none))) g.none)) (g.part (g.list (p 87 90 244 249) (g.part (g.atom (p 88 88 245 246) (g.spelled (k.Name (codes "x") false))) (g.part (g.atom (p 89 89 247 248) (g.spelled (k.Name (codes "t") false))) g.none))) g.none)))) g.none)))) (g.part (g.list (p 93 99 252 266) (g.part (g.atom (p 94 94 253 259) (g.spelled (k.Name (codes "define") false))) (g.part (g.atom (p 95 95 260 261) (g.spelled (k.Name (codes "x") false))) (g.part (g.list (p 96 98 262 265) (g.part (g.atom (p 97 97 263 264) (g.spelled (k.Name (codes "t") false))) g.none)) g.none)))) g.none)))) g.none))) g.none)))) g.none))))) ∷ [])) ∷ []) ((Some (((g.list (p 0 6 0 22) (g.part (g.atom (p 1 1 1 7) (g.spelled (k.Name (codes "import") false))) (g.part (g.list (p 2 5 8 21) (g.part (g.atom (p 3 3 9 15) (g.spelled (k.Name (codes "scheme") false))) (g.part (g.atom (p 4 4 16 20) (g.spelled (k.Name (codes "base") false))) g.none))) g.none)))) ∷ ((g.list (p 7 41 23 118) (g.part (g.atom (p 8 8 24 37) (g.spelled (k.Name (codes "define-syntax") false))) (g.part (g.atom (p 9 9 38 39) (g.spelled (k.Name (codes "t") false))) (g.part (g.list (p 10 40 40 117) (g.part (g.atom (p 11 11 41 53) (g.spelled (k.Name (codes "syntax-rules") false))) (g.part (g.list (p 12 13 54 56) g.none) (g.part (g.list (p 14 39 57 116) (g.part (g.list (p 15 22 58 73) (g.part (g.atom (p 16 16 59 60) (g.spelled (k.Name (codes "_") false))) (g.part (g.list (p 17 20 61 68) (g.part (g.atom (p 18 18 62 63) (g.spelled (k.Name (codes "n") false))) (g.part (g.atom (p 19 19 64 67) (g.spelled (k.Name (codes "tmp") false))) g.none))) (g.part (g.atom (p 21 21 69 72) (g.spelled (k.Name (codes "...") false))) g.none)))) (g.part (g.list (p 23 38 74 115) (g.part (g.atom (p 24 24 75 80) (g.spelled (k.Name (codes "begin") false))) (g.part (g.list (p 25 37 81 114) (g.part (g.atom (p 26 26 82 88) (g.spelled (k.Name (codes "define") false))) (g.part (g.atom (p 27 27 89 90) (g.spelled (k.Name (codes "t") false))) (g.part (g.list (p 28 36 91 113) (g.part (g.atom (p 29 29 92 96) (g.spelled (k.Name (codes "list") false))) (g.part (g.list (p 30 33 97 106) (g.part (g.atom (p 31 31 98 101) (g.spelled (k.Name (codes "car") false))) (g.part (g.atom (p 32 32 102 105) (g.spelled (k.Name (codes "tmp") false))) g.none))) (g.part (g.atom (p 34 34 107 110) (g.spelled (k.Name (codes "...") false))) (g.part (g.atom (p 35 35 111 112) (g.spelled (k.Name (codes "y") false))) g.none))))) g.none)))) g.none))) g.none))) g.none)))) g.none))))) ∷ ((g.atom (p 42 42 119 120) (g.spelled (k.Numeral (codes "2"))))) ∷ ((g.list (p 43 103 121 270) (g.part (g.atom (p 44 44 122 135) (g.spelled (k.Name (codes "define-syntax") false))) (g.part (g.atom (p 45 45 136 137) (g.spelled (k.Name (codes "y") false))) (g.part (g.list (p 46 102 138 269) (g.part (g.atom (p 47 47 139 151) (g.spelled (k.Name (codes "syntax-rules") false))) (g.part (g.list (p 48 49 152 154) g.none) (g.part (g.list (p 50 101 155 268) (g.part (g.list (p 51 58 156 171) (g.part (g.atom (p 52 52 157 158) (g.spelled (k.Name (codes "_") false))) (g.part (g.list (p 53 56 159 166) (g.part (g.atom (p 54 54 160 161) (g.spelled (k.Name (codes "f") false))) (g.part (g.atom (p 55 55 162 165) (g.spelled (k.Name (codes "tmp") false))) g.none))) (g.part (g.atom (p 57 57 167 170) (g.spelled (k.Name (codes "...") false))) g.none)))) (g.part (g.list (p 59 100 172 267) (g.part (g.atom (p 60 60 173 178) (g.spelled (k.Name (codes "begin") false))) (g.part (g.list (p 61 92 179 251) (g.part (g.atom (p 62 62 180 186) (g.spelled (k.Name (codes "define") false))) (g.part (g.atom (p 63 63 187 188) (g.spelled (k.Name (codes "x") false))) (g.part (g.list (p 64 91 189 250) (g.part (g.atom (p 65 65 190 200) (g.spelled (k.Name (codes "let-syntax") false))) (g.part (g.list (p 66 86 201 243) (g.part (g.list (p 67 85 202 242) (g.part (g.atom (p 68 68 203 204) (g.spelled (k.Name (codes "x") false))) (g.part (g.list (p 69 84 205 241) (g.part (g.atom (p 70 70 206 218) (g.spelled (k.Name (codes "syntax-rules") false))) (g.part (g.list (p 71 72 219 221) g.none) (g.part (g.list (p 73 83 222 240) (g.part (g.list (p 74 77 223 228) (g.part (g.atom (p 75 75 224 225) (g.spelled (k.Name (codes "_") false))) (g.part (g.atom (p 76 76 226 227) (g.spelled (k.Name (codes "x") false))) g.none))) (g.part (g.list (p 78 82 229 239) (g.part (g.atom (p 79 79 230 234) (g.spelled (k.Name (codes "list") false))) (g.part (g.atom (p 80 80 235 236) (g.spelled (k.Name (codes "t") false))) (g.part (g.atom (p 81 81 237 238) (g.spelled (k.Name (codes "x") false))) g.none)))) g.none))) g.none)))) g.none))) g.none)) (g.part (g.list (p 87 90 244 249) (g.part (g.atom (p 88 88 245 246) (g.spelled (k.Name (codes "x") false))) (g.part (g.atom (p 89 89 247 248) (g.spelled (k.Name (codes "t") false))) g.none))) g.none)))) g.none)))) (g.part (g.list (p 93 99 252 266) (g.part (g.atom (p 94 94 253 259) (g.spelled (k.Name (codes "define") false))) (g.part (g.atom (p 95 95 260 261) (g.spelled (k.Name (codes "x") false))) (g.part (g.list (p 96 98 262 265) (g.part (g.atom (p 97 97 263 264) (g.spelled (k.Name (codes "t") false))) g.none)) g.none)))) g.none)))) g.none))) g.none)))) g.none))))) ∷ [])) ∷ []) (((0, 160), (codes "f")) ∷ []) ≡ None
unfolding base_names standard_libraries prelude encode_utf8
renames-34 = refl

pub renames-39 : renamed_rows (((s 0 1) ∷ (s 1 15) ∷ (s 16 17) ∷ (s 17 19) ∷ (s 19 20) ∷ (s 22 23) ∷ (s 23 29) ∷ (s 30 31) ∷ (s 31 32) ∷ (s 34 35) ∷ (s 35 41) ∷ (s 42 43) ∷ (s 43 49) ∷ (s 50 54) ∷ (s 54 55) ∷ (s 55 56) ∷ (s 58 59) ∷ (s 59 64) ∷ (s 67 68) ∷ (s 68 69) ∷ (s 72 73) ∷ (s 73 84) ∷ (s 85 86) ∷ (s 86 87) ∷ (s 87 89) ∷ (s 90 94) ∷ (s 95 99) ∷ (s 99 100) ∷ (s 101 102) ∷ (s 102 115) ∷ (s 116 117) ∷ (s 117 118) ∷ (s 119 120) ∷ (s 120 121) ∷ (s 122 123) ∷ (s 123 124) ∷ (s 124 125) ∷ (s 126 127) ∷ (s 127 131) ∷ (s 132 133) ∷ (s 133 139) ∷ (s 140 141) ∷ (s 142 143) ∷ (s 143 146) ∷ (s 147 148) ∷ (s 148 149) ∷ (s 149 150) ∷ (s 151 152) ∷ (s 152 153) ∷ (s 153 154) ∷ (s 155 156) ∷ (s 156 157) ∷ (s 158 159) ∷ (s 160 162) ∷ (s 162 163) ∷ (s 164 165) ∷ (s 166 167) ∷ (s 167 180) ∷ (s 181 182) ∷ (s 183 184) ∷ (s 184 196) ∷ (s 197 198) ∷ (s 198 200) ∷ (s 200 201) ∷ (s 202 203) ∷ (s 203 204) ∷ (s 204 205) ∷ (s 206 207) ∷ (s 208 210) ∷ (s 210 211) ∷ (s 212 213) ∷ (s 213 218) ∷ (s 219 220) ∷ (s 220 226) ∷ (s 227 228) ∷ (s 229 230) ∷ (s 230 231) ∷ (s 232 233) ∷ (s 233 239) ∷ (s 240 241) ∷ (s 242 243) ∷ (s 243 249) ∷ (s 250 251) ∷ (s 251 252) ∷ (s 252 253) ∷ (s 254 255) ∷ (s 255 261) ∷ (s 262 263) ∷ (s 264 265) ∷ (s 265 266) ∷ (s 267 268) ∷ (s 268 269) ∷ (s 269 270) ∷ (s 270 271) ∷ (s 271 272) ∷ (s 272 273) ∷ (s 273 274) ∷ (s 275 276) ∷ (s 276 277) ∷ (s 277 278) ∷ (s 278 279) ∷ (s 279 280) ∷ (s 280 281) ∷ (s 281 282) ∷ []) ∷ ((s 0 1) ∷ (s 1 7) ∷ (s 8 9) ∷ (s 9 15) ∷ (s 16 20) ∷ (s 20 21) ∷ (s 21 22) ∷ (s 23 24) ∷ (s 24 26) ∷ (s 26 27) ∷ (s 28 29) ∷ (s 29 40) ∷ (s 41 42) ∷ (s 42 43) ∷ (s 43 45) ∷ (s 46 50) ∷ (s 51 55) ∷ (s 55 56) ∷ (s 57 58) ∷ (s 58 64) ∷ (s 65 66) ∷ (s 67 68) ∷ (s 68 69) ∷ (s 69 70) ∷ (s 70 71) ∷ (s 71 72) ∷ (s 73 74) ∷ (s 74 78) ∷ (s 79 80) ∷ (s 80 86) ∷ (s 87 88) ∷ (s 89 90) ∷ (s 90 94) ∷ (s 95 96) ∷ (s 96 97) ∷ (s 97 98) ∷ (s 99 100) ∷ (s 100 101) ∷ (s 102 103) ∷ (s 103 104) ∷ (s 105 108) ∷ (s 109 110) ∷ (s 110 111) ∷ (s 111 112) ∷ (s 113 114) ∷ (s 114 115) ∷ (s 115 125) ∷ (s 126 127) ∷ (s 127 128) ∷ (s 128 129) ∷ (s 129 130) ∷ (s 131 132) ∷ (s 132 133) ∷ (s 134 136) ∷ (s 136 137) ∷ (s 137 138) ∷ (s 139 140) ∷ (s 140 141) ∷ (s 142 144) ∷ (s 145 146) ∷ (s 146 149) ∷ (s 150 151) ∷ (s 151 152) ∷ (s 152 153) ∷ (s 154 155) ∷ (s 155 156) ∷ (s 156 157) ∷ (s 158 159) ∷ (s 159 172) ∷ (s 173 174) ∷ (s 174 175) ∷ (s 176 177) ∷ (s 177 178) ∷ (s 179 180) ∷ (s 180 181) ∷ (s 182 183) ∷ (s 184 185) ∷ (s 185 186) ∷ (s 186 187) ∷ (s 188 189) ∷ (s 189 193) ∷ (s 194 195) ∷ (s 195 198) ∷ (s 199 200) ∷ (s 200 201) ∷ (s 202 203) ∷ (s 204 205) ∷ (s 205 206) ∷ (s 206 207) ∷ (s 207 208) ∷ (s 208 209) ∷ (s 209 210) ∷ (s 210 211) ∷ []) ∷ []) ((Some (((g.list (p 0 103 0 282) (g.part (g.atom (p 1 1 1 15) (g.spelled (k.Name (codes "define-library") false))) (g.part (g.list (p 2 4 16 20) (g.part (g.atom (p 3 3 17 19) (g.spelled (k.Name (codes "l0") false))) g.none)) (g.part (g.list (p 5 8 22 32) (g.part (g.atom (p 6 6 23 29) (g.spelled (k.Name (codes "export") false))) (g.part (g.atom (p 7 7 30 31) (g.spelled (k.Name (codes "t") false))) g.none))) (g.part (g.list (p 9 15 34 56) (g.part (g.atom (p 10 10 35 41) (g.spelled (k.Name (codes "import") false))) (g.part (g.list (p 11 14 42 55) (g.part (g.atom (p 12 12 43 49) (g.spelled (k.Name (codes "scheme") false))) (g.part (g.atom (p 13 13 50 54) (g.spelled (k.Name (codes "base") false))) g.none))) g.none))) (g.part (g.list (p 16 102 58 281) (g.part (g.atom (p 17 17 59 64) (g.spelled (k.Name (codes "begin") false))) (g.part (g.list (p 18 19 67 69) (g.part (g.atom (p 18 18 67 68) (g.implied k.Quote)) (g.part (g.atom (p 19 19 68 69) (g.spelled (k.Name (codes "y") false))) g.none))) (g.part (g.list (p 20 101 72 280) (g.part (g.atom (p 21 21 73 84) (g.spelled (k.Name (codes "cond-expand") false))) (g.part (g.list (p 22 36 85 125) (g.part (g.list (p 23 27 86 100) (g.part (g.atom (p 24 24 87 89) (g.spelled (k.Name (codes "or") false))) (g.part (g.atom (p 25 25 90 94) (g.spelled (k.Name (codes "full") false))) (g.part (g.atom (p 26 26 95 99) (g.spelled (k.Name (codes "r7rs") false))) g.none)))) (g.part (g.list (p 28 35 101 124) (g.part (g.atom (p 29 29 102 115) (g.spelled (k.Name (codes "define-values") false))) (g.part (g.list (p 30 33 116 121) (g.part (g.atom (p 31 31 117 118) (g.spelled (k.Name (codes "y") false))) (g.part (g.atom (p 32 32 119 120) (g.spelled (k.Name (codes "t") false))) g.none))) (g.part (g.atom (p 34 34 122 123) (g.spelled (k.Numeral (codes "2")))) g.none)))) g.none))) (g.part (g.list (p 37 100 126 279) (g.part (g.atom (p 38 38 127 131) (g.spelled (k.Name (codes "else") false))) (g.part (g.list (p 39 99 132 278) (g.part (g.atom (p 40 40 133 139) (g.spelled (k.Name (codes "define") false))) (g.part (g.atom (p 41 41 140 141) (g.spelled (k.Name (codes "t") false))) (g.part (g.list (p 42 98 142 277) (g.part (g.atom (p 43 43 143 146) (g.spelled (k.Name (codes "let") false))) (g.part (g.list (p 44 49 147 154) (g.part (g.list (p 45 48 148 153) (g.part (g.atom (p 46 46 149 150) (g.spelled (k.Name (codes "a") false))) (g.part (g.atom (p 47 47 151 152) (g.spelled (k.Name (codes "y") false))) g.none))) g.none)) (g.part (g.list (p 50 54 155 163) (g.part (g.atom (p 51 51 156 157) (g.spelled (k.Name (codes "y") false))) (g.part (g.atom (p 52 52 158 159) (g.spelled (k.Numeral (codes "1")))) (g.part (g.atom (p 53 53 160 162) (g.spelled (k.Name (codes "in") false))) g.none)))) (g.part (g.atom (p 55 55 164 165) (g.spelled (k.Name (codes "b") false))) (g.part (g.list (p 56 96 166 274) (g.part (g.atom (p 57 57 167 180) (g.spelled (k.Name (codes "define-syntax") false))) (g.part (g.atom (p 58 58 181 182) (g.spelled (k.Name (codes "y") false))) (g.part (g.list (p 59 95 183 273) (g.part (g.atom (p 60 60 184 196) (g.spelled (k.Name (codes "syntax-rules") false))) (g.part (g.list (p 61 63 197 201) (g.part (g.atom (p 62 62 198 200) (g.spelled (k.Name (codes "in") false))) g.none)) (g.part (g.list (p 64 94 202 272) (g.part (g.list (p 65 69 203 211) (g.part (g.atom (p 66 66 204 205) (g.spelled (k.Name (codes "_") false))) (g.part (g.atom (p 67 67 206 207) (g.spelled (k.Name (codes "q") false))) (g.part (g.atom (p 68 68 208 210) (g.spelled (k.Name (codes "in") false))) g.none)))) (g.part (g.list (p 70 93 212 271) (g.part (g.atom (p 71 71 213 218) (g.spelled (k.Name (codes "begin") false))) (g.part (g.list (p 72 76 219 231) (g.part (g.atom (p 73 73 220 226) (g.spelled (k.Name (codes "define") false))) (g.part (g.atom (p 74 74 227 228) (g.spelled (k.Name (codes "q") false))) (g.part (g.atom (p 75 75 229 230) (g.spelled (k.Name (codes "a") false))) g.none)))) (g.part (g.list (p 77 92 232 270) (g.part (g.atom (p 78 78 233 239) (g.spelled (k.Name (codes "define") false))) (g.part (g.atom (p 79 79 240 241) (g.spelled (k.Name (codes "x") false))) (g.part (g.list (p 80 91 242 269) (g.part (g.atom (p 81 81 243 249) (g.spelled (k.Name (codes "lambda") false))) (g.part (g.list (p 82 84 250 253) (g.part (g.atom (p 83 83 251 252) (g.spelled (k.Name (codes "q") false))) g.none)) (g.part (g.list (p 85 89 254 266) (g.part (g.atom (p 86 86 255 261) (g.spelled (k.Name (codes "define") false))) (g.part (g.atom (p 87 87 262 263) (g.spelled (k.Name (codes "y") false))) (g.part (g.atom (p 88 88 264 265) (g.spelled (k.Name (codes "q") false))) g.none)))) (g.part (g.atom (p 90 90 267 268) (g.spelled (k.Name (codes "t") false))) g.none))))) g.none)))) g.none)))) g.none))) g.none)))) g.none)))) (g.part (g.atom (p 97 97 275 276) (g.spelled (k.Name (codes "y") false))) g.none))))))) g.none)))) g.none))) g.none)))) g.none)))) g.none))))))) ∷ [])) ∷ (Some (((g.list (p 0 6 0 22) (g.part (g.atom (p 1 1 1 7) (g.spelled (k.Name (codes "import") false))) (g.part (g.list (p 2 5 8 21) (g.part (g.atom (p 3 3 9 15) (g.spelled (k.Name (codes "scheme") false))) (g.part (g.atom (p 4 4 16 20) (g.spelled (k.Name (codes "base") false))) g.none))) g.none)))) ∷ ((g.list (p 7 9 23 27) (g.part (g.atom (p 7 7 23 24) (g.implied k.Quote)) (g.part (g.vector (p 8 9 24 27) g.none) g.none)))) ∷ ((g.list (p 10 92 28 211) (g.part (g.atom (p 11 11 29 40) (g.spelled (k.Name (codes "cond-expand") false))) (g.part (g.list (p 12 25 41 72) (g.part (g.list (p 13 17 42 56) (g.part (g.atom (p 14 14 43 45) (g.spelled (k.Name (codes "or") false))) (g.part (g.atom (p 15 15 46 50) (g.spelled (k.Name (codes "full") false))) (g.part (g.atom (p 16 16 51 55) (g.spelled (k.Name (codes "r7rs") false))) g.none)))) (g.part (g.list (p 18 24 57 71) (g.part (g.atom (p 19 19 58 64) (g.spelled (k.Name (codes "define") false))) (g.part (g.atom (p 20 20 65 66) (g.spelled (k.Name (codes "y") false))) (g.part (g.list (p 21 23 67 70) (g.part (g.atom (p 22 22 68 69) (g.spelled (k.Name (codes "b") false))) g.none)) g.none)))) g.none))) (g.part (g.list (p 26 91 73 210) (g.part (g.atom (p 27 27 74 78) (g.spelled (k.Name (codes "else") false))) (g.part (g.list (p 28 90 79 209) (g.part (g.atom (p 29 29 80 86) (g.spelled (k.Name (codes "define") false))) (g.part (g.atom (p 30 30 87 88) (g.spelled (k.Name (codes "t") false))) (g.part (g.list (p 31 89 89 208) (g.part (g.atom (p 32 32 90 94) (g.spelled (k.Name (codes "cond") false))) (g.part (g.list (p 33 43 95 112) (g.part (g.list (p 34 37 96 101) (g.part (g.atom (p 35 35 97 98) (g.spelled (k.Numeral (codes "2")))) (g.part (g.atom (p 36 36 99 100) (g.spelled (k.Name (codes "x") false))) g.none))) (g.part (g.list (p 38 42 102 111) (g.part (g.atom (p 39 39 103 104) (g.spelled (k.Name (codes "y") false))) (g.part (g.atom (p 40 40 105 108) (g.spelled (k.Character 99))) (g.part (g.atom (p 41 41 109 110) (g.spelled (k.Name (codes "x") false))) g.none)))) g.none))) (g.part (g.list (p 44 78 113 187) (g.part (g.list (p 45 57 114 141) (g.part (g.atom (p 46 46 115 125) (g.spelled (k.Name (codes "let-values") false))) (g.part (g.list (p 47 55 126 138) (g.part (g.list (p 48 54 127 137) (g.part (g.list (p 49 52 128 133) (g.part (g.atom (p 50 50 129 130) (g.spelled (k.Name (codes "b") false))) (g.part (g.atom (p 51 51 131 132) (g.spelled (k.Name (codes "x") false))) g.none))) (g.part (g.atom (p 53 53 134 136) (g.spelled (k.Truth true))) g.none))) g.none)) (g.part (g.atom (p 56 56 139 140) (g.spelled (k.Name (codes "x") false))) g.none)))) (g.part (g.atom (p 58 58 142 144) (g.spelled (k.Name (codes "=>") false))) (g.part (g.list (p 59 77 145 186) (g.part (g.atom (p 60 60 146 149) (g.spelled (k.Name (codes "let") false))) (g.part (g.list (p 61 66 150 157) (g.part (g.list (p 62 65 151 156) (g.part (g.atom (p 63 63 152 153) (g.spelled (k.Name (codes "x") false))) (g.part (g.atom (p 64 64 154 155) (g.spelled (k.Name (codes "x") false))) g.none))) g.none)) (g.part (g.list (p 67 74 158 181) (g.part (g.atom (p 68 68 159 172) (g.spelled (k.Name (codes "define-values") false))) (g.part (g.list (p 69 72 173 178) (g.part (g.atom (p 70 70 174 175) (g.spelled (k.Name (codes "y") false))) (g.part (g.atom (p 71 71 176 177) (g.spelled (k.Name (codes "b") false))) g.none))) (g.part (g.atom (p 73 73 179 180) (g.spelled (k.Name (codes "t") false))) g.none)))) (g.part (g.atom (p 75 75 182 183) (g.spelled (k.Name (codes "t") false))) (g.part (g.atom (p 76 76 184 185) (g.spelled (k.Name (codes "a") false))) g.none)))))) g.none)))) (g.part (g.list (p 79 88 188 207) (g.part (g.atom (p 80 80 189 193) (g.spelled (k.Name (codes "else") false))) (g.part (g.list (p 81 87 194 206) (g.part (g.atom (p 82 82 195 198) (g.spelled (k.Name (codes "let") false))) (g.part (g.list (p 83 84 199 201) g.none) (g.part (g.atom (p 85 85 202 203) (g.spelled (k.Name (codes "a") false))) (g.part (g.atom (p 86 86 204 205) (g.spelled (k.Name (codes "b") false))) g.none))))) g.none))) g.none))))) g.none)))) g.none))) g.none))))) ∷ [])) ∷ []) ((Some (((g.list (p 0 103 0 282) (g.part (g.atom (p 1 1 1 15) (g.spelled (k.Name (codes "define-library") false))) (g.part (g.list (p 2 4 16 20) (g.part (g.atom (p 3 3 17 19) (g.spelled (k.Name (codes "l0") false))) g.none)) (g.part (g.list (p 5 8 22 32) (g.part (g.atom (p 6 6 23 29) (g.spelled (k.Name (codes "export") false))) (g.part (g.atom (p 7 7 30 31) (g.spelled (k.Name (codes "t") false))) g.none))) (g.part (g.list (p 9 15 34 56) (g.part (g.atom (p 10 10 35 41) (g.spelled (k.Name (codes "import") false))) (g.part (g.list (p 11 14 42 55) (g.part (g.atom (p 12 12 43 49) (g.spelled (k.Name (codes "scheme") false))) (g.part (g.atom (p 13 13 50 54) (g.spelled (k.Name (codes "base") false))) g.none))) g.none))) (g.part (g.list (p 16 102 58 281) (g.part (g.atom (p 17 17 59 64) (g.spelled (k.Name (codes "begin") false))) (g.part (g.list (p 18 19 67 69) (g.part (g.atom (p 18 18 67 68) (g.implied k.Quote)) (g.part (g.atom (p 19 19 68 69) (g.spelled (k.Name (codes "y") false))) g.none))) (g.part (g.list (p 20 101 72 280) (g.part (g.atom (p 21 21 73 84) (g.spelled (k.Name (codes "cond-expand") false))) (g.part (g.list (p 22 36 85 125) (g.part (g.list (p 23 27 86 100) (g.part (g.atom (p 24 24 87 89) (g.spelled (k.Name (codes "or") false))) (g.part (g.atom (p 25 25 90 94) (g.spelled (k.Name (codes "full") false))) (g.part (g.atom (p 26 26 95 99) (g.spelled (k.Name (codes "r7rs") false))) g.none)))) (g.part (g.list (p 28 35 101 124) (g.part (g.atom (p 29 29 102 115) (g.spelled (k.Name (codes "define-values") false))) (g.part (g.list (p 30 33 116 121) (g.part (g.atom (p 31 31 117 118) (g.spelled (k.Name (codes "y") false))) (g.part (g.atom (p 32 32 119 120) (g.spelled (k.Name (codes "t") false))) g.none))) (g.part (g.atom (p 34 34 122 123) (g.spelled (k.Numeral (codes "2")))) g.none)))) g.none))) (g.part (g.list (p 37 100 126 279) (g.part (g.atom (p 38 38 127 131) (g.spelled (k.Name (codes "else") false))) (g.part (g.list (p 39 99 132 278) (g.part (g.atom (p 40 40 133 139) (g.spelled (k.Name (codes "define") false))) (g.part (g.atom (p 41 41 140 141) (g.spelled (k.Name (codes "t") false))) (g.part (g.list (p 42 98 142 277) (g.part (g.atom (p 43 43 143 146) (g.spelled (k.Name (codes "let") false))) (g.part (g.list (p 44 49 147 154) (g.part (g.list (p 45 48 148 153) (g.part (g.atom (p 46 46 149 150) (g.spelled (k.Name (codes "a") false))) (g.part (g.atom (p 47 47 151 152) (g.spelled (k.Name (codes "y") false))) g.none))) g.none)) (g.part (g.list (p 50 54 155 163) (g.part (g.atom (p 51 51 156 157) (g.spelled (k.Name (codes "y") false))) (g.part (g.atom (p 52 52 158 159) (g.spelled (k.Numeral (codes "1")))) (g.part (g.atom (p 53 53 160 162) (g.spelled (k.Name (codes "in") false))) g.none)))) (g.part (g.atom (p 55 55 164 165) (g.spelled (k.Name (codes "b") false))) (g.part (g.list (p 56 96 166 274) (g.part (g.atom (p 57 57 167 180) (g.spelled (k.Name (codes "define-syntax") false))) (g.part (g.atom (p 58 58 181 182) (g.spelled (k.Name (codes "y") false))) (g.part (g.list (p 59 95 183 273) (g.part (g.atom (p 60 60 184 196) (g.spelled (k.Name (codes "syntax-rules") false))) (g.part (g.list (p 61 63 197 201) (g.part (g.atom (p 62 62 198 200) (g.spelled (k.Name (codes "in") false))) g.none)) (g.part (g.list (p 64 94 202 272) (g.part (g.list (p 65 69 203 211) (g.part (g.atom (p 66 66 204 205) (g.spelled (k.Name (codes "_") false))) (g.part (g.atom (p 67 67 206 207) (g.spelled (k.Name (codes "q") false))) (g.part (g.atom (p 68 68 208 210) (g.spelled (k.Name (codes "in") false))) g.none)))) (g.part (g.list (p 70 93 212 271) (g.part (g.atom (p 71 71 213 218) (g.spelled (k.Name (codes "begin") false))) (g.part (g.list (p 72 76 219 231) (g.part (g.atom (p 73 73 220 226) (g.spelled (k.Name (codes "define") false))) (g.part (g.atom (p 74 74 227 228) (g.spelled (k.Name (codes "q") false))) (g.part (g.atom (p 75 75 229 230) (g.spelled (k.Name (codes "a") false))) g.none)))) (g.part (g.list (p 77 92 232 270) (g.part (g.atom (p 78 78 233 239) (g.spelled (k.Name (codes "define") false))) (g.part (g.atom (p 79 79 240 241) (g.spelled (k.Name (codes "x") false))) (g.part (g.list (p 80 91 242 269) (g.part (g.atom (p 81 81 243 249) (g.spelled (k.Name (codes "lambda") false))) (g.part (g.list (p 82 84 250 253) (g.part (g.atom (p 83 83 251 252) (g.spelled (k.Name (codes "q") false))) g.none)) (g.part (g.list (p 85 89 254 266) (g.part (g.atom (p 86 86 255 261) (g.spelled (k.Name (codes "define") false))) (g.part (g.atom (p 87 87 262 263) (g.spelled (k.Name (codes "y") false))) (g.part (g.atom (p 88 88 264 265) (g.spelled (k.Name (codes "q") false))) g.none)))) (g.part (g.atom (p 90 90 267 268) (g.spelled (k.Name (codes "t") false))) g.none))))) g.none)))) g.none)))) g.none))) g.none)))) g.none)))) (g.part (g.atom (p 97 97 275 276) (g.spelled (k.Name (codes "y") false))) g.none))))))) g.none)))) g.none))) g.none)))) g.none)))) g.none))))))) ∷ [])) ∷ (Some (((g.list (p 0 6 0 22) (g.part (g.atom (p 1 1 1 7) (g.spelled (k.Name (codes "import") false))) (g.part (g.list (p 2 5 8 21) (g.part (g.atom (p 3 3 9 15) (g.spelled (k.Name (codes "scheme") false))) (g.part (g.atom (p 4 4 16 20) (g.spelled (k.Name (codes "base") false))) g.none))) g.none)))) ∷ ((g.list (p 7 9 23 27) (g.part (g.atom (p 7 7 23 24) (g.implied k.Quote)) (g.part (g.vector (p 8 9 24 27) g.none) g.none)))) ∷ ((g.list (p 10 92 28 211) (g.part (g.atom (p 11 11 29 40) (g.spelled (k.Name (codes "cond-expand") false))) (g.part (g.list (p 12 25 41 72) (g.part (g.list (p 13 17 42 56) (g.part (g.atom (p 14 14 43 45) (g.spelled (k.Name (codes "or") false))) (g.part (g.atom (p 15 15 46 50) (g.spelled (k.Name (codes "full") false))) (g.part (g.atom (p 16 16 51 55) (g.spelled (k.Name (codes "r7rs") false))) g.none)))) (g.part (g.list (p 18 24 57 71) (g.part (g.atom (p 19 19 58 64) (g.spelled (k.Name (codes "define") false))) (g.part (g.atom (p 20 20 65 66) (g.spelled (k.Name (codes "n") false))) (g.part (g.list (p 21 23 67 70) (g.part (g.atom (p 22 22 68 69) (g.spelled (k.Name (codes "b") false))) g.none)) g.none)))) g.none))) (g.part (g.list (p 26 91 73 210) (g.part (g.atom (p 27 27 74 78) (g.spelled (k.Name (codes "else") false))) (g.part (g.list (p 28 90 79 209) (g.part (g.atom (p 29 29 80 86) (g.spelled (k.Name (codes "define") false))) (g.part (g.atom (p 30 30 87 88) (g.spelled (k.Name (codes "t") false))) (g.part (g.list (p 31 89 89 208) (g.part (g.atom (p 32 32 90 94) (g.spelled (k.Name (codes "cond") false))) (g.part (g.list (p 33 43 95 112) (g.part (g.list (p 34 37 96 101) (g.part (g.atom (p 35 35 97 98) (g.spelled (k.Numeral (codes "2")))) (g.part (g.atom (p 36 36 99 100) (g.spelled (k.Name (codes "x") false))) g.none))) (g.part (g.list (p 38 42 102 111) (g.part (g.atom (p 39 39 103 104) (g.spelled (k.Name (codes "y") false))) (g.part (g.atom (p 40 40 105 108) (g.spelled (k.Character 99))) (g.part (g.atom (p 41 41 109 110) (g.spelled (k.Name (codes "x") false))) g.none)))) g.none))) (g.part (g.list (p 44 78 113 187) (g.part (g.list (p 45 57 114 141) (g.part (g.atom (p 46 46 115 125) (g.spelled (k.Name (codes "let-values") false))) (g.part (g.list (p 47 55 126 138) (g.part (g.list (p 48 54 127 137) (g.part (g.list (p 49 52 128 133) (g.part (g.atom (p 50 50 129 130) (g.spelled (k.Name (codes "b") false))) (g.part (g.atom (p 51 51 131 132) (g.spelled (k.Name (codes "x") false))) g.none))) (g.part (g.atom (p 53 53 134 136) (g.spelled (k.Truth true))) g.none))) g.none)) (g.part (g.atom (p 56 56 139 140) (g.spelled (k.Name (codes "x") false))) g.none)))) (g.part (g.atom (p 58 58 142 144) (g.spelled (k.Name (codes "=>") false))) (g.part (g.list (p 59 77 145 186) (g.part (g.atom (p 60 60 146 149) (g.spelled (k.Name (codes "let") false))) (g.part (g.list (p 61 66 150 157) (g.part (g.list (p 62 65 151 156) (g.part (g.atom (p 63 63 152 153) (g.spelled (k.Name (codes "x") false))) (g.part (g.atom (p 64 64 154 155) (g.spelled (k.Name (codes "x") false))) g.none))) g.none)) (g.part (g.list (p 67 74 158 181) (g.part (g.atom (p 68 68 159 172) (g.spelled (k.Name (codes "define-values") false))) (g.part (g.list (p 69 72 173 178) (g.part (g.atom (p 70 70 174 175) (g.spelled (k.Name (codes "y") false))) (g.part (g.atom (p 71 71 176 177) (g.spelled (k.Name (codes "b") false))) g.none))) (g.part (g.atom (p 73 73 179 180) (g.spelled (k.Name (codes "t") false))) g.none)))) (g.part (g.atom (p 75 75 182 183) (g.spelled (k.Name (codes "t") false))) (g.part (g.atom (p 76 76 184 185) (g.spelled (k.Name (codes "a") false))) g.none)))))) g.none)))) (g.part (g.list (p 79 88 188 207) (g.part (g.atom (p 80 80 189 193) (g.spelled (k.Name (codes "else") false))) (g.part (g.list (p 81 87 194 206) (g.part (g.atom (p 82 82 195 198) (g.spelled (k.Name (codes "let") false))) (g.part (g.list (p 83 84 199 201) g.none) (g.part (g.atom (p 85 85 202 203) (g.spelled (k.Name (codes "a") false))) (g.part (g.atom (p 86 86 204 205) (g.spelled (k.Name (codes "b") false))) g.none))))) g.none))) g.none))))) g.none)))) g.none))) g.none))))) ∷ [])) ∷ []) (((1, 65), (codes "n")) ∷ []) ≡ None
unfolding base_names standard_libraries prelude encode_utf8
renames-39 = refl

pub renames-45 : renamed_rows (((s 0 1) ∷ (s 1 7) ∷ (s 8 9) ∷ (s 9 15) ∷ (s 16 20) ∷ (s 20 21) ∷ (s 21 22) ∷ (s 23 24) ∷ (s 24 30) ∷ (s 31 32) ∷ (s 32 33) ∷ (s 34 35) ∷ (s 35 36) ∷ (s 37 38) ∷ (s 38 39) ∷ (s 39 41) ∷ (s 42 43) ∷ (s 43 44) ∷ (s 44 45) ∷ (s 46 47) ∷ (s 48 49) ∷ (s 49 50) ∷ (s 50 51) ∷ (s 52 53) ∷ (s 53 56) ∷ (s 56 57) ∷ (s 58 59) ∷ (s 59 60) ∷ (s 61 62) ∷ (s 62 64) ∷ (s 65 66) ∷ (s 67 68) ∷ (s 69 70) ∷ (s 70 71) ∷ (s 72 73) ∷ (s 73 74) ∷ (s 74 75) ∷ (s 75 76) ∷ (s 76 77) ∷ (s 78 79) ∷ (s 79 80) ∷ (s 81 82) ∷ (s 82 88) ∷ (s 89 90) ∷ (s 91 92) ∷ (s 92 93) ∷ []) ∷ []) ((Some (((g.list (p 0 6 0 22) (g.part (g.atom (p 1 1 1 7) (g.spelled (k.Name (codes "import") false))) (g.part (g.list (p 2 5 8 21) (g.part (g.atom (p 3 3 9 15) (g.spelled (k.Name (codes "scheme") false))) (g.part (g.atom (p 4 4 16 20) (g.spelled (k.Name (codes "base") false))) g.none))) g.none)))) ∷ ((g.list (p 7 38 23 77) (g.part (g.atom (p 8 8 24 30) (g.spelled (k.Name (codes "define") false))) (g.part (g.list (p 9 12 31 36) (g.part (g.atom (p 10 10 32 33) (g.spelled (k.Name (codes "y") false))) (g.part (g.atom (p 11 11 34 35) (g.spelled (k.Name (codes "x") false))) g.none))) (g.part (g.list (p 13 37 37 76) (g.part (g.list (p 14 27 38 60) (g.part (g.atom (p 15 15 39 41) (g.spelled (k.Name (codes "do") false))) (g.part (g.list (p 16 22 42 51) (g.part (g.list (p 17 21 43 50) (g.part (g.atom (p 18 18 44 45) (g.spelled (k.Name (codes "t") false))) (g.part (g.atom (p 19 19 46 47) (g.spelled (k.Name (codes "a") false))) (g.part (g.atom (p 20 20 48 49) (g.spelled (k.Numeral (codes "2")))) g.none)))) g.none)) (g.part (g.list (p 23 25 52 57) (g.part (g.atom (p 24 24 53 56) (g.spelled (k.Name (codes "x") true))) g.none)) (g.part (g.atom (p 26 26 58 59) (g.spelled (k.Name (codes "b") false))) g.none))))) (g.part (g.list (p 28 33 61 71) (g.part (g.atom (p 29 29 62 64) (g.spelled (k.Name (codes "if") false))) (g.part (g.atom (p 30 30 65 66) (g.spelled (k.Numeral (codes "1")))) (g.part (g.atom (p 31 31 67 68) (g.spelled (k.Name (codes "a") false))) (g.part (g.atom (p 32 32 69 70) (g.spelled (k.Name (codes "y") false))) g.none))))) (g.part (g.list (p 34 36 72 75) (g.part (g.atom (p 35 35 73 74) (g.spelled (k.Name (codes "y") false))) g.none)) g.none)))) g.none))))) ∷ ((g.list (p 39 40 78 80) (g.part (g.atom (p 39 39 78 79) (g.implied k.Quote)) (g.part (g.atom (p 40 40 79 80) (g.spelled (k.Name (codes "t") false))) g.none)))) ∷ ((g.list (p 41 45 81 93) (g.part (g.atom (p 42 42 82 88) (g.spelled (k.Name (codes "define") false))) (g.part (g.atom (p 43 43 89 90) (g.spelled (k.Name (codes "a") false))) (g.part (g.atom (p 44 44 91 92) (g.spelled (k.Name (codes "a") false))) g.none))))) ∷ [])) ∷ []) ((Some (((g.list (p 0 6 0 22) (g.part (g.atom (p 1 1 1 7) (g.spelled (k.Name (codes "import") false))) (g.part (g.list (p 2 5 8 21) (g.part (g.atom (p 3 3 9 15) (g.spelled (k.Name (codes "scheme") false))) (g.part (g.atom (p 4 4 16 20) (g.spelled (k.Name (codes "base") false))) g.none))) g.none)))) ∷ ((g.list (p 7 38 23 80) (g.part (g.atom (p 8 8 24 30) (g.spelled (k.Name (codes "define") false))) (g.part (g.list (p 9 12 31 37) (g.part (g.atom (p 10 10 32 34) (g.spelled (k.Name (codes "zz") false))) (g.part (g.atom (p 11 11 35 36) (g.spelled (k.Name (codes "x") false))) g.none))) (g.part (g.list (p 13 37 38 79) (g.part (g.list (p 14 27 39 61) (g.part (g.atom (p 15 15 40 42) (g.spelled (k.Name (codes "do") false))) (g.part (g.list (p 16 22 43 52) (g.part (g.list (p 17 21 44 51) (g.part (g.atom (p 18 18 45 46) (g.spelled (k.Name (codes "t") false))) (g.part (g.atom (p 19 19 47 48) (g.spelled (k.Name (codes "a") false))) (g.part (g.atom (p 20 20 49 50) (g.spelled (k.Numeral (codes "2")))) g.none)))) g.none)) (g.part (g.list (p 23 25 53 58) (g.part (g.atom (p 24 24 54 57) (g.spelled (k.Name (codes "x") true))) g.none)) (g.part (g.atom (p 26 26 59 60) (g.spelled (k.Name (codes "b") false))) g.none))))) (g.part (g.list (p 28 33 62 73) (g.part (g.atom (p 29 29 63 65) (g.spelled (k.Name (codes "if") false))) (g.part (g.atom (p 30 30 66 67) (g.spelled (k.Numeral (codes "1")))) (g.part (g.atom (p 31 31 68 69) (g.spelled (k.Name (codes "a") false))) (g.part (g.atom (p 32 32 70 72) (g.spelled (k.Name (codes "zz") false))) g.none))))) (g.part (g.list (p 34 36 74 78) (g.part (g.atom (p 35 35 75 77) (g.spelled (k.Name (codes "zz") false))) g.none)) g.none)))) g.none))))) ∷ ((g.list (p 39 40 81 83) (g.part (g.atom (p 39 39 81 82) (g.implied k.Quote)) (g.part (g.atom (p 40 40 82 83) (g.spelled (k.Name (codes "t") false))) g.none)))) ∷ ((g.list (p 41 45 84 96) (g.part (g.atom (p 42 42 85 91) (g.spelled (k.Name (codes "define") false))) (g.part (g.atom (p 43 43 92 93) (g.spelled (k.Name (codes "a") false))) (g.part (g.atom (p 44 44 94 95) (g.spelled (k.Name (codes "a") false))) g.none))))) ∷ [])) ∷ []) (((0, 32), (codes "zz")) ∷ ((0, 69), (codes "zz")) ∷ ((0, 73), (codes "zz")) ∷ []) ≡ None
unfolding base_names standard_libraries prelude encode_utf8
renames-45 = refl

pub renames-51 : renamed_rows (((s 0 1) ∷ (s 1 2) ∷ (s 2 3) ∷ (s 3 4) ∷ (s 4 5) ∷ (s 6 7) ∷ (s 7 10) ∷ (s 11 13) ∷ (s 13 14) ∷ (s 14 15) ∷ (s 15 16) ∷ (s 17 18) ∷ (s 18 19) ∷ (s 19 25) ∷ (s 26 27) ∷ (s 27 28) ∷ (s 28 29) ∷ (s 30 31) ∷ (s 31 37) ∷ (s 38 39) ∷ (s 39 40) ∷ (s 40 41) ∷ (s 42 43) ∷ (s 43 44) ∷ (s 44 45) ∷ (s 45 46) ∷ (s 47 49) ∷ (s 49 50) ∷ (s 51 53) ∷ (s 53 54) ∷ (s 54 55) ∷ (s 56 59) ∷ (s 59 60) ∷ (s 61 62) ∷ (s 63 64) ∷ (s 64 65) ∷ (s 66 67) ∷ (s 68 69) ∷ (s 69 70) ∷ (s 71 72) ∷ []) ∷ []) ((Some (((g.list (p 0 38 0 70) (g.part (g.atom (p 0 0 0 1) (g.implied k.Quasi)) (g.part (g.list (p 1 38 1 70) (g.part (g.list (p 2 4 2 5) (g.part (g.atom (p 3 3 3 4) (g.spelled (k.Name (codes "q") false))) g.none)) (g.part (g.list (p 5 6 6 10) (g.part (g.atom (p 5 5 6 7) (g.implied k.Unquote)) (g.part (g.atom (p 6 6 7 10) (g.spelled (k.Name (codes "tmp") false))) g.none))) (g.part (g.list (p 7 35 11 65) (g.part (g.atom (p 7 7 11 13) (g.implied k.Splice)) (g.part (g.list (p 8 35 13 65) (g.part (g.atom (p 8 8 13 14) (g.implied k.Quasi)) (g.part (g.list (p 9 35 14 65) (g.part (g.atom (p 10 10 15 16) (g.spelled (k.Name (codes "q") false))) (g.part (g.list (p 11 27 17 50) (g.part (g.atom (p 11 11 17 18) (g.implied k.Unquote)) (g.part (g.list (p 12 27 18 50) (g.part (g.atom (p 13 13 19 25) (g.spelled (k.Name (codes "letrec") false))) (g.part (g.list (p 14 25 26 46) (g.part (g.list (p 15 24 27 45) (g.part (g.atom (p 16 16 28 29) (g.spelled (k.Name (codes "f") false))) (g.part (g.list (p 17 23 30 44) (g.part (g.atom (p 18 18 31 37) (g.spelled (k.Name (codes "lambda") false))) (g.part (g.list (p 19 21 38 41) (g.part (g.atom (p 20 20 39 40) (g.spelled (k.Name (codes "b") false))) g.none)) (g.part (g.atom (p 22 22 42 43) (g.spelled (k.Name (codes "a") false))) g.none)))) g.none))) g.none)) (g.part (g.atom (p 26 26 47 49) (g.spelled (k.Truth true))) g.none)))) g.none))) (g.part (g.list (p 28 32 51 60) (g.part (g.atom (p 28 28 51 53) (g.implied k.Splice)) (g.part (g.list (p 29 32 53 60) (g.part (g.atom (p 30 30 54 55) (g.spelled (k.Name (codes "x") false))) (g.part (g.atom (p 31 31 56 59) (g.spelled (k.Quoted (codes "s")))) g.none))) g.none))) (g.tail (g.atom (p 34 34 63 64) (g.spelled (k.Name (codes "t") false)))))))) g.none))) g.none))) (g.tail (g.atom (p 37 37 68 69) (g.spelled (k.Name (codes "t") false)))))))) g.none)))) ∷ ((g.atom (p 39 39 71 72) (g.spelled (k.Name (codes "x") false)))) ∷ [])) ∷ []) ((Some (((g.list (p 0 38 0 72) (g.part (g.atom (p 0 0 0 1) (g.implied k.Quasi)) (g.part (g.list (p 1 38 1 72) (g.part (g.list (p 2 4 2 5) (g.part (g.atom (p 3 3 3 4) (g.spelled (k.Name (codes "q") false))) g.none)) (g.part (g.list (p 5 6 6 10) (g.part (g.atom (p 5 5 6 7) (g.implied k.Unquote)) (g.part (g.atom (p 6 6 7 10) (g.spelled (k.Name (codes "tmp") false))) g.none))) (g.part (g.list (p 7 35 11 67) (g.part (g.atom (p 7 7 11 13) (g.implied k.Splice)) (g.part (g.list (p 8 35 13 67) (g.part (g.atom (p 8 8 13 14) (g.implied k.Quasi)) (g.part (g.list (p 9 35 14 67) (g.part (g.atom (p 10 10 15 16) (g.spelled (k.Name (codes "q") false))) (g.part (g.list (p 11 27 17 52) (g.part (g.atom (p 11 11 17 18) (g.implied k.Unquote)) (g.part (g.list (p 12 27 18 52) (g.part (g.atom (p 13 13 19 25) (g.spelled (k.Name (codes "letrec") false))) (g.part (g.list (p 14 25 26 48) (g.part (g.list (p 15 24 27 47) (g.part (g.atom (p 16 16 28 31) (g.spelled (k.Name (codes "let") false))) (g.part (g.list (p 17 23 32 46) (g.part (g.atom (p 18 18 33 39) (g.spelled (k.Name (codes "lambda") false))) (g.part (g.list (p 19 21 40 43) (g.part (g.atom (p 20 20 41 42) (g.spelled (k.Name (codes "b") false))) g.none)) (g.part (g.atom (p 22 22 44 45) (g.spelled (k.Name (codes "a") false))) g.none)))) g.none))) g.none)) (g.part (g.atom (p 26 26 49 51) (g.spelled (k.Truth true))) g.none)))) g.none))) (g.part (g.list (p 28 32 53 62) (g.part (g.atom (p 28 28 53 55) (g.implied k.Splice)) (g.part (g.list (p 29 32 55 62) (g.part (g.atom (p 30 30 56 57) (g.spelled (k.Name (codes "x") false))) (g.part (g.atom (p 31 31 58 61) (g.spelled (k.Quoted (codes "s")))) g.none))) g.none))) (g.tail (g.atom (p 34 34 65 66) (g.spelled (k.Name (codes "t") false)))))))) g.none))) g.none))) (g.tail (g.atom (p 37 37 70 71) (g.spelled (k.Name (codes "t") false)))))))) g.none)))) ∷ ((g.atom (p 39 39 73 74) (g.spelled (k.Name (codes "x") false)))) ∷ [])) ∷ []) (((0, 28), (codes "let")) ∷ []) ≡ None
unfolding base_names standard_libraries prelude encode_utf8
renames-51 = refl

pub error-out-of-reach : renamed_rows (((s 0 1) ∷ (s 1 7) ∷ (s 8 9) ∷ (s 10 11) ∷ (s 11 12) ∷ []) ∷ ((s 0 1) ∷ (s 1 3) ∷ (s 3 4) ∷ []) ∷ []) ((Some (((g.list (p 0 4 0 12) (g.part (g.atom (p 1 1 1 7) (g.spelled (k.Name (codes "define") false))) (g.part (g.atom (p 2 2 8 9) (g.spelled (k.Name (codes "x") false))) (g.part (g.atom (p 3 3 10 11) (g.spelled (k.Numeral (codes "1")))) g.none))))) ∷ [])) ∷ (Some (((g.list (p 0 2 0 4) (g.part (g.atom (p 1 1 1 3) (g.spelled (k.Name (codes "if") false))) g.none))) ∷ [])) ∷ []) ((Some (((g.list (p 0 4 0 12) (g.part (g.atom (p 1 1 1 7) (g.spelled (k.Name (codes "define") false))) (g.part (g.atom (p 2 2 8 9) (g.spelled (k.Name (codes "y") false))) (g.part (g.atom (p 3 3 10 11) (g.spelled (k.Numeral (codes "1")))) g.none))))) ∷ [])) ∷ (Some (((g.list (p 0 2 0 4) (g.part (g.atom (p 1 1 1 3) (g.spelled (k.Name (codes "if") false))) g.none))) ∷ [])) ∷ []) (((0, 8), (codes "y")) ∷ []) ≡ None
unfolding base_names standard_libraries prelude encode_utf8
error-out-of-reach = refl

pub error-of-an-importer : renamed_rows (((s 0 1) ∷ (s 1 15) ∷ (s 16 17) ∷ (s 17 18) ∷ (s 18 19) ∷ (s 20 21) ∷ (s 21 27) ∷ (s 28 29) ∷ (s 29 30) ∷ (s 31 32) ∷ (s 32 38) ∷ (s 39 40) ∷ (s 40 46) ∷ (s 47 51) ∷ (s 51 52) ∷ (s 52 53) ∷ (s 54 55) ∷ (s 55 60) ∷ (s 61 62) ∷ (s 62 68) ∷ (s 69 71) ∷ (s 72 73) ∷ (s 73 74) ∷ (s 75 76) ∷ (s 76 82) ∷ (s 83 84) ∷ (s 85 87) ∷ (s 87 88) ∷ (s 88 89) ∷ (s 89 90) ∷ []) ∷ ((s 0 1) ∷ (s 1 7) ∷ (s 8 9) ∷ (s 9 15) ∷ (s 16 20) ∷ (s 20 21) ∷ (s 22 23) ∷ (s 23 24) ∷ (s 24 25) ∷ (s 25 26) ∷ (s 27 28) ∷ (s 28 30) ∷ (s 30 31) ∷ []) ∷ []) ((Some (((g.list (p 0 29 0 90) (g.part (g.atom (p 1 1 1 15) (g.spelled (k.Name (codes "define-library") false))) (g.part (g.list (p 2 4 16 19) (g.part (g.atom (p 3 3 17 18) (g.spelled (k.Name (codes "l") false))) g.none)) (g.part (g.list (p 5 8 20 30) (g.part (g.atom (p 6 6 21 27) (g.spelled (k.Name (codes "export") false))) (g.part (g.atom (p 7 7 28 29) (g.spelled (k.Name (codes "a") false))) g.none))) (g.part (g.list (p 9 15 31 53) (g.part (g.atom (p 10 10 32 38) (g.spelled (k.Name (codes "import") false))) (g.part (g.list (p 11 14 39 52) (g.part (g.atom (p 12 12 40 46) (g.spelled (k.Name (codes "scheme") false))) (g.part (g.atom (p 13 13 47 51) (g.spelled (k.Name (codes "base") false))) g.none))) g.none))) (g.part (g.list (p 16 28 54 89) (g.part (g.atom (p 17 17 55 60) (g.spelled (k.Name (codes "begin") false))) (g.part (g.list (p 18 22 61 74) (g.part (g.atom (p 19 19 62 68) (g.spelled (k.Name (codes "define") false))) (g.part (g.atom (p 20 20 69 71) (g.spelled (k.Name (codes "yy") false))) (g.part (g.atom (p 21 21 72 73) (g.spelled (k.Numeral (codes "1")))) g.none)))) (g.part (g.list (p 23 27 75 88) (g.part (g.atom (p 24 24 76 82) (g.spelled (k.Name (codes "define") false))) (g.part (g.atom (p 25 25 83 84) (g.spelled (k.Name (codes "a") false))) (g.part (g.atom (p 26 26 85 87) (g.spelled (k.Name (codes "yy") false))) g.none)))) g.none)))) g.none))))))) ∷ [])) ∷ (Some (((g.list (p 0 9 0 26) (g.part (g.atom (p 1 1 1 7) (g.spelled (k.Name (codes "import") false))) (g.part (g.list (p 2 5 8 21) (g.part (g.atom (p 3 3 9 15) (g.spelled (k.Name (codes "scheme") false))) (g.part (g.atom (p 4 4 16 20) (g.spelled (k.Name (codes "base") false))) g.none))) (g.part (g.list (p 6 8 22 25) (g.part (g.atom (p 7 7 23 24) (g.spelled (k.Name (codes "l") false))) g.none)) g.none))))) ∷ ((g.list (p 10 12 27 31) (g.part (g.atom (p 11 11 28 30) (g.spelled (k.Name (codes "if") false))) g.none))) ∷ [])) ∷ []) ((Some (((g.list (p 0 29 0 88) (g.part (g.atom (p 1 1 1 15) (g.spelled (k.Name (codes "define-library") false))) (g.part (g.list (p 2 4 16 19) (g.part (g.atom (p 3 3 17 18) (g.spelled (k.Name (codes "l") false))) g.none)) (g.part (g.list (p 5 8 20 30) (g.part (g.atom (p 6 6 21 27) (g.spelled (k.Name (codes "export") false))) (g.part (g.atom (p 7 7 28 29) (g.spelled (k.Name (codes "a") false))) g.none))) (g.part (g.list (p 9 15 31 53) (g.part (g.atom (p 10 10 32 38) (g.spelled (k.Name (codes "import") false))) (g.part (g.list (p 11 14 39 52) (g.part (g.atom (p 12 12 40 46) (g.spelled (k.Name (codes "scheme") false))) (g.part (g.atom (p 13 13 47 51) (g.spelled (k.Name (codes "base") false))) g.none))) g.none))) (g.part (g.list (p 16 28 54 87) (g.part (g.atom (p 17 17 55 60) (g.spelled (k.Name (codes "begin") false))) (g.part (g.list (p 18 22 61 73) (g.part (g.atom (p 19 19 62 68) (g.spelled (k.Name (codes "define") false))) (g.part (g.atom (p 20 20 69 70) (g.spelled (k.Name (codes "z") false))) (g.part (g.atom (p 21 21 71 72) (g.spelled (k.Numeral (codes "1")))) g.none)))) (g.part (g.list (p 23 27 74 86) (g.part (g.atom (p 24 24 75 81) (g.spelled (k.Name (codes "define") false))) (g.part (g.atom (p 25 25 82 83) (g.spelled (k.Name (codes "a") false))) (g.part (g.atom (p 26 26 84 85) (g.spelled (k.Name (codes "z") false))) g.none)))) g.none)))) g.none))))))) ∷ [])) ∷ (Some (((g.list (p 0 9 0 26) (g.part (g.atom (p 1 1 1 7) (g.spelled (k.Name (codes "import") false))) (g.part (g.list (p 2 5 8 21) (g.part (g.atom (p 3 3 9 15) (g.spelled (k.Name (codes "scheme") false))) (g.part (g.atom (p 4 4 16 20) (g.spelled (k.Name (codes "base") false))) g.none))) (g.part (g.list (p 6 8 22 25) (g.part (g.atom (p 7 7 23 24) (g.spelled (k.Name (codes "l") false))) g.none)) g.none))))) ∷ ((g.list (p 10 12 27 31) (g.part (g.atom (p 11 11 28 30) (g.spelled (k.Name (codes "if") false))) g.none))) ∷ [])) ∷ []) (((0, 69), (codes "z")) ∷ ((0, 85), (codes "z")) ∷ []) ≡ (Some (d w.IsBroken 1 1 None w.OfNothing w.OfNothing))
unfolding base_names standard_libraries prelude encode_utf8
error-of-an-importer = refl

pub error-of-an-importer-of-an-importer : renamed_rows (((s 0 1) ∷ (s 1 15) ∷ (s 16 17) ∷ (s 17 18) ∷ (s 18 19) ∷ (s 20 21) ∷ (s 21 27) ∷ (s 28 29) ∷ (s 29 30) ∷ (s 31 32) ∷ (s 32 38) ∷ (s 39 40) ∷ (s 40 46) ∷ (s 47 51) ∷ (s 51 52) ∷ (s 52 53) ∷ (s 54 55) ∷ (s 55 60) ∷ (s 61 62) ∷ (s 62 68) ∷ (s 69 71) ∷ (s 72 73) ∷ (s 73 74) ∷ (s 75 76) ∷ (s 76 82) ∷ (s 83 84) ∷ (s 85 87) ∷ (s 87 88) ∷ (s 88 89) ∷ (s 89 90) ∷ []) ∷ ((s 0 1) ∷ (s 1 15) ∷ (s 16 17) ∷ (s 17 18) ∷ (s 18 19) ∷ (s 20 21) ∷ (s 21 27) ∷ (s 28 29) ∷ (s 29 30) ∷ (s 30 31) ∷ (s 31 32) ∷ (s 32 33) ∷ []) ∷ ((s 0 1) ∷ (s 1 7) ∷ (s 8 9) ∷ (s 9 15) ∷ (s 16 20) ∷ (s 20 21) ∷ (s 22 23) ∷ (s 23 24) ∷ (s 24 25) ∷ (s 25 26) ∷ (s 27 28) ∷ (s 28 30) ∷ (s 30 31) ∷ []) ∷ []) ((Some (((g.list (p 0 29 0 90) (g.part (g.atom (p 1 1 1 15) (g.spelled (k.Name (codes "define-library") false))) (g.part (g.list (p 2 4 16 19) (g.part (g.atom (p 3 3 17 18) (g.spelled (k.Name (codes "l") false))) g.none)) (g.part (g.list (p 5 8 20 30) (g.part (g.atom (p 6 6 21 27) (g.spelled (k.Name (codes "export") false))) (g.part (g.atom (p 7 7 28 29) (g.spelled (k.Name (codes "a") false))) g.none))) (g.part (g.list (p 9 15 31 53) (g.part (g.atom (p 10 10 32 38) (g.spelled (k.Name (codes "import") false))) (g.part (g.list (p 11 14 39 52) (g.part (g.atom (p 12 12 40 46) (g.spelled (k.Name (codes "scheme") false))) (g.part (g.atom (p 13 13 47 51) (g.spelled (k.Name (codes "base") false))) g.none))) g.none))) (g.part (g.list (p 16 28 54 89) (g.part (g.atom (p 17 17 55 60) (g.spelled (k.Name (codes "begin") false))) (g.part (g.list (p 18 22 61 74) (g.part (g.atom (p 19 19 62 68) (g.spelled (k.Name (codes "define") false))) (g.part (g.atom (p 20 20 69 71) (g.spelled (k.Name (codes "yy") false))) (g.part (g.atom (p 21 21 72 73) (g.spelled (k.Numeral (codes "1")))) g.none)))) (g.part (g.list (p 23 27 75 88) (g.part (g.atom (p 24 24 76 82) (g.spelled (k.Name (codes "define") false))) (g.part (g.atom (p 25 25 83 84) (g.spelled (k.Name (codes "a") false))) (g.part (g.atom (p 26 26 85 87) (g.spelled (k.Name (codes "yy") false))) g.none)))) g.none)))) g.none))))))) ∷ [])) ∷ (Some (((g.list (p 0 11 0 33) (g.part (g.atom (p 1 1 1 15) (g.spelled (k.Name (codes "define-library") false))) (g.part (g.list (p 2 4 16 19) (g.part (g.atom (p 3 3 17 18) (g.spelled (k.Name (codes "m") false))) g.none)) (g.part (g.list (p 5 10 20 32) (g.part (g.atom (p 6 6 21 27) (g.spelled (k.Name (codes "import") false))) (g.part (g.list (p 7 9 28 31) (g.part (g.atom (p 8 8 29 30) (g.spelled (k.Name (codes "l") false))) g.none)) g.none))) g.none))))) ∷ [])) ∷ (Some (((g.list (p 0 9 0 26) (g.part (g.atom (p 1 1 1 7) (g.spelled (k.Name (codes "import") false))) (g.part (g.list (p 2 5 8 21) (g.part (g.atom (p 3 3 9 15) (g.spelled (k.Name (codes "scheme") false))) (g.part (g.atom (p 4 4 16 20) (g.spelled (k.Name (codes "base") false))) g.none))) (g.part (g.list (p 6 8 22 25) (g.part (g.atom (p 7 7 23 24) (g.spelled (k.Name (codes "m") false))) g.none)) g.none))))) ∷ ((g.list (p 10 12 27 31) (g.part (g.atom (p 11 11 28 30) (g.spelled (k.Name (codes "if") false))) g.none))) ∷ [])) ∷ []) ((Some (((g.list (p 0 29 0 88) (g.part (g.atom (p 1 1 1 15) (g.spelled (k.Name (codes "define-library") false))) (g.part (g.list (p 2 4 16 19) (g.part (g.atom (p 3 3 17 18) (g.spelled (k.Name (codes "l") false))) g.none)) (g.part (g.list (p 5 8 20 30) (g.part (g.atom (p 6 6 21 27) (g.spelled (k.Name (codes "export") false))) (g.part (g.atom (p 7 7 28 29) (g.spelled (k.Name (codes "a") false))) g.none))) (g.part (g.list (p 9 15 31 53) (g.part (g.atom (p 10 10 32 38) (g.spelled (k.Name (codes "import") false))) (g.part (g.list (p 11 14 39 52) (g.part (g.atom (p 12 12 40 46) (g.spelled (k.Name (codes "scheme") false))) (g.part (g.atom (p 13 13 47 51) (g.spelled (k.Name (codes "base") false))) g.none))) g.none))) (g.part (g.list (p 16 28 54 87) (g.part (g.atom (p 17 17 55 60) (g.spelled (k.Name (codes "begin") false))) (g.part (g.list (p 18 22 61 73) (g.part (g.atom (p 19 19 62 68) (g.spelled (k.Name (codes "define") false))) (g.part (g.atom (p 20 20 69 70) (g.spelled (k.Name (codes "z") false))) (g.part (g.atom (p 21 21 71 72) (g.spelled (k.Numeral (codes "1")))) g.none)))) (g.part (g.list (p 23 27 74 86) (g.part (g.atom (p 24 24 75 81) (g.spelled (k.Name (codes "define") false))) (g.part (g.atom (p 25 25 82 83) (g.spelled (k.Name (codes "a") false))) (g.part (g.atom (p 26 26 84 85) (g.spelled (k.Name (codes "z") false))) g.none)))) g.none)))) g.none))))))) ∷ [])) ∷ (Some (((g.list (p 0 11 0 33) (g.part (g.atom (p 1 1 1 15) (g.spelled (k.Name (codes "define-library") false))) (g.part (g.list (p 2 4 16 19) (g.part (g.atom (p 3 3 17 18) (g.spelled (k.Name (codes "m") false))) g.none)) (g.part (g.list (p 5 10 20 32) (g.part (g.atom (p 6 6 21 27) (g.spelled (k.Name (codes "import") false))) (g.part (g.list (p 7 9 28 31) (g.part (g.atom (p 8 8 29 30) (g.spelled (k.Name (codes "l") false))) g.none)) g.none))) g.none))))) ∷ [])) ∷ (Some (((g.list (p 0 9 0 26) (g.part (g.atom (p 1 1 1 7) (g.spelled (k.Name (codes "import") false))) (g.part (g.list (p 2 5 8 21) (g.part (g.atom (p 3 3 9 15) (g.spelled (k.Name (codes "scheme") false))) (g.part (g.atom (p 4 4 16 20) (g.spelled (k.Name (codes "base") false))) g.none))) (g.part (g.list (p 6 8 22 25) (g.part (g.atom (p 7 7 23 24) (g.spelled (k.Name (codes "m") false))) g.none)) g.none))))) ∷ ((g.list (p 10 12 27 31) (g.part (g.atom (p 11 11 28 30) (g.spelled (k.Name (codes "if") false))) g.none))) ∷ [])) ∷ []) (((0, 69), (codes "z")) ∷ ((0, 85), (codes "z")) ∷ []) ≡ (Some (d w.IsBroken 2 1 None w.OfNothing w.OfNothing))
unfolding base_names standard_libraries prelude encode_utf8
error-of-an-importer-of-an-importer = refl

pub export-renamed : renamed_rows (((s 0 1) ∷ (s 1 15) ∷ (s 16 17) ∷ (s 17 18) ∷ (s 18 19) ∷ (s 20 21) ∷ (s 21 27) ∷ (s 28 30) ∷ (s 30 31) ∷ (s 32 33) ∷ (s 33 39) ∷ (s 40 41) ∷ (s 41 47) ∷ (s 48 52) ∷ (s 52 53) ∷ (s 53 54) ∷ (s 55 56) ∷ (s 56 61) ∷ (s 62 63) ∷ (s 63 69) ∷ (s 70 72) ∷ (s 73 74) ∷ (s 74 75) ∷ (s 75 76) ∷ (s 76 77) ∷ []) ∷ ((s 0 1) ∷ (s 1 7) ∷ (s 8 9) ∷ (s 9 15) ∷ (s 16 20) ∷ (s 20 21) ∷ (s 22 23) ∷ (s 23 24) ∷ (s 24 25) ∷ (s 25 26) ∷ (s 27 28) ∷ (s 28 32) ∷ (s 33 35) ∷ (s 35 36) ∷ []) ∷ []) ((Some (((g.list (p 0 24 0 77) (g.part (g.atom (p 1 1 1 15) (g.spelled (k.Name (codes "define-library") false))) (g.part (g.list (p 2 4 16 19) (g.part (g.atom (p 3 3 17 18) (g.spelled (k.Name (codes "l") false))) g.none)) (g.part (g.list (p 5 8 20 31) (g.part (g.atom (p 6 6 21 27) (g.spelled (k.Name (codes "export") false))) (g.part (g.atom (p 7 7 28 30) (g.spelled (k.Name (codes "aa") false))) g.none))) (g.part (g.list (p 9 15 32 54) (g.part (g.atom (p 10 10 33 39) (g.spelled (k.Name (codes "import") false))) (g.part (g.list (p 11 14 40 53) (g.part (g.atom (p 12 12 41 47) (g.spelled (k.Name (codes "scheme") false))) (g.part (g.atom (p 13 13 48 52) (g.spelled (k.Name (codes "base") false))) g.none))) g.none))) (g.part (g.list (p 16 23 55 76) (g.part (g.atom (p 17 17 56 61) (g.spelled (k.Name (codes "begin") false))) (g.part (g.list (p 18 22 62 75) (g.part (g.atom (p 19 19 63 69) (g.spelled (k.Name (codes "define") false))) (g.part (g.atom (p 20 20 70 72) (g.spelled (k.Name (codes "aa") false))) (g.part (g.atom (p 21 21 73 74) (g.spelled (k.Numeral (codes "1")))) g.none)))) g.none))) g.none))))))) ∷ [])) ∷ (Some (((g.list (p 0 9 0 26) (g.part (g.atom (p 1 1 1 7) (g.spelled (k.Name (codes "import") false))) (g.part (g.list (p 2 5 8 21) (g.part (g.atom (p 3 3 9 15) (g.spelled (k.Name (codes "scheme") false))) (g.part (g.atom (p 4 4 16 20) (g.spelled (k.Name (codes "base") false))) g.none))) (g.part (g.list (p 6 8 22 25) (g.part (g.atom (p 7 7 23 24) (g.spelled (k.Name (codes "l") false))) g.none)) g.none))))) ∷ ((g.list (p 10 13 27 36) (g.part (g.atom (p 11 11 28 32) (g.spelled (k.Name (codes "list") false))) (g.part (g.atom (p 12 12 33 35) (g.spelled (k.Name (codes "aa") false))) g.none)))) ∷ [])) ∷ []) ((Some (((g.list (p 0 24 0 77) (g.part (g.atom (p 1 1 1 15) (g.spelled (k.Name (codes "define-library") false))) (g.part (g.list (p 2 4 16 19) (g.part (g.atom (p 3 3 17 18) (g.spelled (k.Name (codes "l") false))) g.none)) (g.part (g.list (p 5 8 20 31) (g.part (g.atom (p 6 6 21 27) (g.spelled (k.Name (codes "export") false))) (g.part (g.atom (p 7 7 28 30) (g.spelled (k.Name (codes "bb") false))) g.none))) (g.part (g.list (p 9 15 32 54) (g.part (g.atom (p 10 10 33 39) (g.spelled (k.Name (codes "import") false))) (g.part (g.list (p 11 14 40 53) (g.part (g.atom (p 12 12 41 47) (g.spelled (k.Name (codes "scheme") false))) (g.part (g.atom (p 13 13 48 52) (g.spelled (k.Name (codes "base") false))) g.none))) g.none))) (g.part (g.list (p 16 23 55 76) (g.part (g.atom (p 17 17 56 61) (g.spelled (k.Name (codes "begin") false))) (g.part (g.list (p 18 22 62 75) (g.part (g.atom (p 19 19 63 69) (g.spelled (k.Name (codes "define") false))) (g.part (g.atom (p 20 20 70 72) (g.spelled (k.Name (codes "bb") false))) (g.part (g.atom (p 21 21 73 74) (g.spelled (k.Numeral (codes "1")))) g.none)))) g.none))) g.none))))))) ∷ [])) ∷ (Some (((g.list (p 0 9 0 26) (g.part (g.atom (p 1 1 1 7) (g.spelled (k.Name (codes "import") false))) (g.part (g.list (p 2 5 8 21) (g.part (g.atom (p 3 3 9 15) (g.spelled (k.Name (codes "scheme") false))) (g.part (g.atom (p 4 4 16 20) (g.spelled (k.Name (codes "base") false))) g.none))) (g.part (g.list (p 6 8 22 25) (g.part (g.atom (p 7 7 23 24) (g.spelled (k.Name (codes "l") false))) g.none)) g.none))))) ∷ ((g.list (p 10 13 27 36) (g.part (g.atom (p 11 11 28 32) (g.spelled (k.Name (codes "list") false))) (g.part (g.atom (p 12 12 33 35) (g.spelled (k.Name (codes "bb") false))) g.none)))) ∷ [])) ∷ []) (((0, 28), (codes "bb")) ∷ ((0, 70), (codes "bb")) ∷ ((1, 33), (codes "bb")) ∷ []) ≡ None
unfolding base_names standard_libraries prelude encode_utf8
export-renamed = refl

pub export-captured-where-imported : renamed_rows (((s 0 1) ∷ (s 1 15) ∷ (s 16 17) ∷ (s 17 18) ∷ (s 18 19) ∷ (s 20 21) ∷ (s 21 27) ∷ (s 28 30) ∷ (s 30 31) ∷ (s 32 33) ∷ (s 33 39) ∷ (s 40 41) ∷ (s 41 47) ∷ (s 48 52) ∷ (s 52 53) ∷ (s 53 54) ∷ (s 55 56) ∷ (s 56 61) ∷ (s 62 63) ∷ (s 63 69) ∷ (s 70 72) ∷ (s 73 74) ∷ (s 74 75) ∷ (s 75 76) ∷ (s 76 77) ∷ []) ∷ ((s 0 1) ∷ (s 1 7) ∷ (s 8 9) ∷ (s 9 15) ∷ (s 16 20) ∷ (s 20 21) ∷ (s 22 23) ∷ (s 23 24) ∷ (s 24 25) ∷ (s 25 26) ∷ (s 27 28) ∷ (s 28 34) ∷ (s 35 36) ∷ (s 36 38) ∷ (s 38 39) ∷ (s 40 42) ∷ (s 42 43) ∷ []) ∷ []) ((Some (((g.list (p 0 24 0 77) (g.part (g.atom (p 1 1 1 15) (g.spelled (k.Name (codes "define-library") false))) (g.part (g.list (p 2 4 16 19) (g.part (g.atom (p 3 3 17 18) (g.spelled (k.Name (codes "l") false))) g.none)) (g.part (g.list (p 5 8 20 31) (g.part (g.atom (p 6 6 21 27) (g.spelled (k.Name (codes "export") false))) (g.part (g.atom (p 7 7 28 30) (g.spelled (k.Name (codes "aa") false))) g.none))) (g.part (g.list (p 9 15 32 54) (g.part (g.atom (p 10 10 33 39) (g.spelled (k.Name (codes "import") false))) (g.part (g.list (p 11 14 40 53) (g.part (g.atom (p 12 12 41 47) (g.spelled (k.Name (codes "scheme") false))) (g.part (g.atom (p 13 13 48 52) (g.spelled (k.Name (codes "base") false))) g.none))) g.none))) (g.part (g.list (p 16 23 55 76) (g.part (g.atom (p 17 17 56 61) (g.spelled (k.Name (codes "begin") false))) (g.part (g.list (p 18 22 62 75) (g.part (g.atom (p 19 19 63 69) (g.spelled (k.Name (codes "define") false))) (g.part (g.atom (p 20 20 70 72) (g.spelled (k.Name (codes "aa") false))) (g.part (g.atom (p 21 21 73 74) (g.spelled (k.Numeral (codes "1")))) g.none)))) g.none))) g.none))))))) ∷ [])) ∷ (Some (((g.list (p 0 9 0 26) (g.part (g.atom (p 1 1 1 7) (g.spelled (k.Name (codes "import") false))) (g.part (g.list (p 2 5 8 21) (g.part (g.atom (p 3 3 9 15) (g.spelled (k.Name (codes "scheme") false))) (g.part (g.atom (p 4 4 16 20) (g.spelled (k.Name (codes "base") false))) g.none))) (g.part (g.list (p 6 8 22 25) (g.part (g.atom (p 7 7 23 24) (g.spelled (k.Name (codes "l") false))) g.none)) g.none))))) ∷ ((g.list (p 10 16 27 43) (g.part (g.atom (p 11 11 28 34) (g.spelled (k.Name (codes "lambda") false))) (g.part (g.list (p 12 14 35 39) (g.part (g.atom (p 13 13 36 38) (g.spelled (k.Name (codes "bb") false))) g.none)) (g.part (g.atom (p 15 15 40 42) (g.spelled (k.Name (codes "aa") false))) g.none))))) ∷ [])) ∷ []) ((Some (((g.list (p 0 24 0 77) (g.part (g.atom (p 1 1 1 15) (g.spelled (k.Name (codes "define-library") false))) (g.part (g.list (p 2 4 16 19) (g.part (g.atom (p 3 3 17 18) (g.spelled (k.Name (codes "l") false))) g.none)) (g.part (g.list (p 5 8 20 31) (g.part (g.atom (p 6 6 21 27) (g.spelled (k.Name (codes "export") false))) (g.part (g.atom (p 7 7 28 30) (g.spelled (k.Name (codes "bb") false))) g.none))) (g.part (g.list (p 9 15 32 54) (g.part (g.atom (p 10 10 33 39) (g.spelled (k.Name (codes "import") false))) (g.part (g.list (p 11 14 40 53) (g.part (g.atom (p 12 12 41 47) (g.spelled (k.Name (codes "scheme") false))) (g.part (g.atom (p 13 13 48 52) (g.spelled (k.Name (codes "base") false))) g.none))) g.none))) (g.part (g.list (p 16 23 55 76) (g.part (g.atom (p 17 17 56 61) (g.spelled (k.Name (codes "begin") false))) (g.part (g.list (p 18 22 62 75) (g.part (g.atom (p 19 19 63 69) (g.spelled (k.Name (codes "define") false))) (g.part (g.atom (p 20 20 70 72) (g.spelled (k.Name (codes "bb") false))) (g.part (g.atom (p 21 21 73 74) (g.spelled (k.Numeral (codes "1")))) g.none)))) g.none))) g.none))))))) ∷ [])) ∷ (Some (((g.list (p 0 9 0 26) (g.part (g.atom (p 1 1 1 7) (g.spelled (k.Name (codes "import") false))) (g.part (g.list (p 2 5 8 21) (g.part (g.atom (p 3 3 9 15) (g.spelled (k.Name (codes "scheme") false))) (g.part (g.atom (p 4 4 16 20) (g.spelled (k.Name (codes "base") false))) g.none))) (g.part (g.list (p 6 8 22 25) (g.part (g.atom (p 7 7 23 24) (g.spelled (k.Name (codes "l") false))) g.none)) g.none))))) ∷ ((g.list (p 10 16 27 43) (g.part (g.atom (p 11 11 28 34) (g.spelled (k.Name (codes "lambda") false))) (g.part (g.list (p 12 14 35 39) (g.part (g.atom (p 13 13 36 38) (g.spelled (k.Name (codes "bb") false))) g.none)) (g.part (g.atom (p 15 15 40 42) (g.spelled (k.Name (codes "bb") false))) g.none))))) ∷ [])) ∷ []) (((0, 28), (codes "bb")) ∷ ((0, 70), (codes "bb")) ∷ ((1, 40), (codes "bb")) ∷ []) ≡ (Some (d w.IsCaptured 1 1 (Some (o 1 1 5)) (w.AtBinder (o 0 2 2)) (w.AtBinder (o 1 1 3))))
unfolding base_names standard_libraries prelude encode_utf8
export-captured-where-imported = refl

pub export-renamed-by-its-outer-name : renamed_rows (((s 0 1) ∷ (s 1 15) ∷ (s 16 17) ∷ (s 17 18) ∷ (s 18 19) ∷ (s 20 21) ∷ (s 21 27) ∷ (s 28 29) ∷ (s 29 35) ∷ (s 36 38) ∷ (s 39 41) ∷ (s 41 42) ∷ (s 42 43) ∷ (s 44 45) ∷ (s 45 51) ∷ (s 52 53) ∷ (s 53 59) ∷ (s 60 64) ∷ (s 64 65) ∷ (s 65 66) ∷ (s 67 68) ∷ (s 68 73) ∷ (s 74 75) ∷ (s 75 81) ∷ (s 82 84) ∷ (s 85 86) ∷ (s 86 87) ∷ (s 87 88) ∷ (s 88 89) ∷ []) ∷ ((s 0 1) ∷ (s 1 7) ∷ (s 8 9) ∷ (s 9 15) ∷ (s 16 20) ∷ (s 20 21) ∷ (s 22 23) ∷ (s 23 24) ∷ (s 24 25) ∷ (s 25 26) ∷ (s 27 28) ∷ (s 28 32) ∷ (s 33 35) ∷ (s 35 36) ∷ []) ∷ []) ((Some (((g.list (p 0 28 0 89) (g.part (g.atom (p 1 1 1 15) (g.spelled (k.Name (codes "define-library") false))) (g.part (g.list (p 2 4 16 19) (g.part (g.atom (p 3 3 17 18) (g.spelled (k.Name (codes "l") false))) g.none)) (g.part (g.list (p 5 12 20 43) (g.part (g.atom (p 6 6 21 27) (g.spelled (k.Name (codes "export") false))) (g.part (g.list (p 7 11 28 42) (g.part (g.atom (p 8 8 29 35) (g.spelled (k.Name (codes "rename") false))) (g.part (g.atom (p 9 9 36 38) (g.spelled (k.Name (codes "aa") false))) (g.part (g.atom (p 10 10 39 41) (g.spelled (k.Name (codes "cc") false))) g.none)))) g.none))) (g.part (g.list (p 13 19 44 66) (g.part (g.atom (p 14 14 45 51) (g.spelled (k.Name (codes "import") false))) (g.part (g.list (p 15 18 52 65) (g.part (g.atom (p 16 16 53 59) (g.spelled (k.Name (codes "scheme") false))) (g.part (g.atom (p 17 17 60 64) (g.spelled (k.Name (codes "base") false))) g.none))) g.none))) (g.part (g.list (p 20 27 67 88) (g.part (g.atom (p 21 21 68 73) (g.spelled (k.Name (codes "begin") false))) (g.part (g.list (p 22 26 74 87) (g.part (g.atom (p 23 23 75 81) (g.spelled (k.Name (codes "define") false))) (g.part (g.atom (p 24 24 82 84) (g.spelled (k.Name (codes "aa") false))) (g.part (g.atom (p 25 25 85 86) (g.spelled (k.Numeral (codes "1")))) g.none)))) g.none))) g.none))))))) ∷ [])) ∷ (Some (((g.list (p 0 9 0 26) (g.part (g.atom (p 1 1 1 7) (g.spelled (k.Name (codes "import") false))) (g.part (g.list (p 2 5 8 21) (g.part (g.atom (p 3 3 9 15) (g.spelled (k.Name (codes "scheme") false))) (g.part (g.atom (p 4 4 16 20) (g.spelled (k.Name (codes "base") false))) g.none))) (g.part (g.list (p 6 8 22 25) (g.part (g.atom (p 7 7 23 24) (g.spelled (k.Name (codes "l") false))) g.none)) g.none))))) ∷ ((g.list (p 10 13 27 36) (g.part (g.atom (p 11 11 28 32) (g.spelled (k.Name (codes "list") false))) (g.part (g.atom (p 12 12 33 35) (g.spelled (k.Name (codes "cc") false))) g.none)))) ∷ [])) ∷ []) ((Some (((g.list (p 0 28 0 89) (g.part (g.atom (p 1 1 1 15) (g.spelled (k.Name (codes "define-library") false))) (g.part (g.list (p 2 4 16 19) (g.part (g.atom (p 3 3 17 18) (g.spelled (k.Name (codes "l") false))) g.none)) (g.part (g.list (p 5 12 20 43) (g.part (g.atom (p 6 6 21 27) (g.spelled (k.Name (codes "export") false))) (g.part (g.list (p 7 11 28 42) (g.part (g.atom (p 8 8 29 35) (g.spelled (k.Name (codes "rename") false))) (g.part (g.atom (p 9 9 36 38) (g.spelled (k.Name (codes "aa") false))) (g.part (g.atom (p 10 10 39 41) (g.spelled (k.Name (codes "bb") false))) g.none)))) g.none))) (g.part (g.list (p 13 19 44 66) (g.part (g.atom (p 14 14 45 51) (g.spelled (k.Name (codes "import") false))) (g.part (g.list (p 15 18 52 65) (g.part (g.atom (p 16 16 53 59) (g.spelled (k.Name (codes "scheme") false))) (g.part (g.atom (p 17 17 60 64) (g.spelled (k.Name (codes "base") false))) g.none))) g.none))) (g.part (g.list (p 20 27 67 88) (g.part (g.atom (p 21 21 68 73) (g.spelled (k.Name (codes "begin") false))) (g.part (g.list (p 22 26 74 87) (g.part (g.atom (p 23 23 75 81) (g.spelled (k.Name (codes "define") false))) (g.part (g.atom (p 24 24 82 84) (g.spelled (k.Name (codes "aa") false))) (g.part (g.atom (p 25 25 85 86) (g.spelled (k.Numeral (codes "1")))) g.none)))) g.none))) g.none))))))) ∷ [])) ∷ (Some (((g.list (p 0 9 0 26) (g.part (g.atom (p 1 1 1 7) (g.spelled (k.Name (codes "import") false))) (g.part (g.list (p 2 5 8 21) (g.part (g.atom (p 3 3 9 15) (g.spelled (k.Name (codes "scheme") false))) (g.part (g.atom (p 4 4 16 20) (g.spelled (k.Name (codes "base") false))) g.none))) (g.part (g.list (p 6 8 22 25) (g.part (g.atom (p 7 7 23 24) (g.spelled (k.Name (codes "l") false))) g.none)) g.none))))) ∷ ((g.list (p 10 13 27 36) (g.part (g.atom (p 11 11 28 32) (g.spelled (k.Name (codes "list") false))) (g.part (g.atom (p 12 12 33 35) (g.spelled (k.Name (codes "bb") false))) g.none)))) ∷ [])) ∷ []) (((0, 39), (codes "bb")) ∷ ((1, 33), (codes "bb")) ∷ []) ≡ None
unfolding base_names standard_libraries prelude encode_utf8
export-renamed-by-its-outer-name = refl
