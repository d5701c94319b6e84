-- Open documents, and the edits by which an identifier gets a new name, from outside.
-- Written by tests/definitions/rows; each row is checked by computing it.
use Rattle.std.specs.Prelude.{◌≡◌, ℕ, true, false, List, [], ◌∷◌, Some, codes, refl}
use Rattle.scheme_model.specs.StandardNames.{base_names}
use Rattle.text_edits.proofs.Shown.{edit_rows}
use Rattle.std.specs.Char.{encode_utf8}
use Rattle.scheme_model.specs.StandardLibraries.{standard_libraries}
use Rattle.scheme_model.specs.Prelude.{prelude}
use Rattle.scheme_model.specs.Kinds as k
use Rattle.scheme_model.specs.Data as g
use Rattle.scheme_model.specs.Diagnostics.{Span}
use Rattle.std.specs.Str.{chars}
use Rattle.scheme_tokens.specs.Lexical.{is_initial, is_subsequent}
use Rattle.scheme_tokens.specs.Mirror.Spelled.{spelled}
use Rattle.scheme_tokens.specs.Mirror.Words.{is_identifier, is_numeral}
use Rattle.text_edits.specs.Edits.{Edit}
use Rattle.unicode.proofs.CategoryComputing.{ucd_category}

abbrev s : ℕ → ℕ → Span
s start end = record { start = start; end = end }

abbrev p : ℕ → ℕ → ℕ → ℕ → g.Place
p first last start end = record { first = first; last = last; start = start; end = end }

abbrev e : ℕ → ℕ → List ℕ → Edit
e start end text = record { start = start; end = end; text = text }

pub renames-8 : edit_rows (((s 0 1) ∷ (s 1 14) ∷ (s 15 16) ∷ (s 17 18) ∷ (s 18 30) ∷ (s 31 32) ∷ (s 32 36) ∷ (s 36 37) ∷ (s 38 39) ∷ (s 39 40) ∷ (s 40 41) ∷ (s 42 46) ∷ (s 47 48) ∷ (s 49 50) ∷ (s 51 54) ∷ (s 54 55) ∷ (s 56 57) ∷ (s 57 70) ∷ (s 71 72) ∷ (s 73 74) ∷ (s 74 86) ∷ (s 87 88) ∷ (s 88 89) ∷ (s 90 91) ∷ (s 91 92) ∷ (s 92 93) ∷ (s 94 95) ∷ (s 96 97) ∷ (s 97 100) ∷ (s 101 104) ∷ (s 104 105) ∷ (s 105 106) ∷ (s 107 108) ∷ (s 108 112) ∷ (s 113 114) ∷ (s 115 116) ∷ (s 116 119) ∷ (s 120 123) ∷ (s 123 124) ∷ (s 125 126) ∷ (s 127 128) ∷ (s 128 129) ∷ (s 129 130) ∷ (s 130 131) ∷ (s 131 132) ∷ (s 132 133) ∷ (s 133 134) ∷ (s 134 135) ∷ (s 136 137) ∷ (s 137 150) ∷ (s 151 152) ∷ (s 153 154) ∷ (s 154 166) ∷ (s 167 168) ∷ (s 168 169) ∷ (s 170 171) ∷ (s 171 172) ∷ (s 172 173) ∷ (s 174 175) ∷ (s 175 178) ∷ (s 179 180) ∷ (s 181 184) ∷ (s 184 185) ∷ (s 186 189) ∷ (s 189 190) ∷ (s 191 192) ∷ (s 192 193) ∷ (s 193 194) ∷ (s 195 196) ∷ (s 197 200) ∷ (s 201 204) ∷ (s 204 205) ∷ (s 205 206) ∷ (s 206 207) ∷ (s 207 208) ∷ (s 209 210) ∷ (s 210 223) ∷ (s 224 225) ∷ (s 226 227) ∷ (s 227 239) ∷ (s 240 243) ∷ (s 244 245) ∷ (s 245 246) ∷ (s 247 248) ∷ (s 248 249) ∷ (s 249 250) ∷ (s 251 252) ∷ (s 253 254) ∷ (s 254 259) ∷ (s 260 261) ∷ (s 261 267) ∷ (s 268 269) ∷ (s 270 271) ∷ (s 271 275) ∷ (s 276 277) ∷ (s 278 279) ∷ (s 279 280) ∷ (s 280 281) ∷ (s 282 283) ∷ (s 283 289) ∷ (s 290 293) ∷ (s 294 295) ∷ (s 295 298) ∷ (s 299 300) ∷ (s 300 301) ∷ (s 302 303) ∷ (s 303 316) ∷ (s 317 318) ∷ (s 319 320) ∷ (s 320 332) ∷ (s 333 334) ∷ (s 334 335) ∷ (s 336 337) ∷ (s 337 338) ∷ (s 338 339) ∷ (s 339 340) ∷ (s 341 342) ∷ (s 342 343) ∷ (s 343 344) ∷ (s 344 345) ∷ (s 346 347) ∷ (s 347 353) ∷ (s 354 356) ∷ (s 357 358) ∷ (s 358 359) ∷ (s 360 361) ∷ (s 361 362) ∷ (s 362 363) ∷ (s 363 364) ∷ (s 364 365) ∷ (s 365 366) ∷ (s 366 367) ∷ (s 367 368) ∷ (s 368 369) ∷ (s 370 371) ∷ (s 371 377) ∷ (s 378 379) ∷ (s 379 380) ∷ (s 381 384) ∷ (s 384 385) ∷ (s 386 387) ∷ (s 387 388) ∷ []) ∷ []) ((Some (((g.list (p 0 47 0 135) (g.part (g.atom (p 1 1 1 14) (g.spelled (k.Name (codes "define-syntax") false))) (g.part (g.atom (p 2 2 15 16) (g.spelled (k.Name (codes "b") false))) (g.part (g.list (p 3 46 17 134) (g.part (g.atom (p 4 4 18 30) (g.spelled (k.Name (codes "syntax-rules") false))) (g.part (g.list (p 5 7 31 37) (g.part (g.atom (p 6 6 32 36) (g.spelled (k.Name (codes "else") false))) g.none)) (g.part (g.list (p 8 45 38 133) (g.part (g.list (p 9 15 39 55) (g.part (g.atom (p 10 10 40 41) (g.spelled (k.Name (codes "_") false))) (g.part (g.atom (p 11 11 42 46) (g.spelled (k.Name (codes "else") false))) (g.part (g.atom (p 12 12 47 48) (g.spelled (k.Name (codes "q") false))) (g.part (g.atom (p 13 13 49 50) (g.spelled (k.Name (codes "x") false))) (g.part (g.atom (p 14 14 51 54) (g.spelled (k.Name (codes "...") false))) g.none)))))) (g.part (g.list (p 16 44 56 132) (g.part (g.atom (p 17 17 57 70) (g.spelled (k.Name (codes "define-syntax") false))) (g.part (g.atom (p 18 18 71 72) (g.spelled (k.Name (codes "f") false))) (g.part (g.list (p 19 43 73 131) (g.part (g.atom (p 20 20 74 86) (g.spelled (k.Name (codes "syntax-rules") false))) (g.part (g.list (p 21 22 87 89) g.none) (g.part (g.list (p 23 42 90 130) (g.part (g.list (p 24 31 91 106) (g.part (g.atom (p 25 25 92 93) (g.spelled (k.Name (codes "_") false))) (g.part (g.atom (p 26 26 94 95) (g.spelled (k.Name (codes "k") false))) (g.part (g.list (p 27 30 96 105) (g.part (g.atom (p 28 28 97 100) (g.spelled (k.Name (codes "...") false))) (g.part (g.atom (p 29 29 101 104) (g.spelled (k.Name (codes "...") false))) g.none))) g.none)))) (g.part (g.list (p 32 41 107 129) (g.part (g.atom (p 33 33 108 112) (g.spelled (k.Name (codes "list") false))) (g.part (g.atom (p 34 34 113 114) (g.spelled (k.Name (codes "k") false))) (g.part (g.list (p 35 38 115 124) (g.part (g.atom (p 36 36 116 119) (g.spelled (k.Name (codes "...") false))) (g.part (g.atom (p 37 37 120 123) (g.spelled (k.Name (codes "...") false))) g.none))) (g.part (g.atom (p 39 39 125 126) (g.spelled (k.Name (codes "k") false))) (g.part (g.atom (p 40 40 127 128) (g.spelled (k.Name (codes "q") false))) g.none)))))) g.none))) g.none)))) g.none)))) g.none))) g.none)))) g.none))))) ∷ ((g.list (p 48 74 136 208) (g.part (g.atom (p 49 49 137 150) (g.spelled (k.Name (codes "define-syntax") false))) (g.part (g.atom (p 50 50 151 152) (g.spelled (k.Name (codes "k") false))) (g.part (g.list (p 51 73 153 207) (g.part (g.atom (p 52 52 154 166) (g.spelled (k.Name (codes "syntax-rules") false))) (g.part (g.list (p 53 54 167 169) g.none) (g.part (g.list (p 55 72 170 206) (g.part (g.list (p 56 64 171 190) (g.part (g.atom (p 57 57 172 173) (g.spelled (k.Name (codes "_") false))) (g.part (g.list (p 58 62 174 185) (g.part (g.atom (p 59 59 175 178) (g.spelled (k.Name (codes "tmp") false))) (g.part (g.atom (p 60 60 179 180) (g.spelled (k.Name (codes "g") false))) (g.part (g.atom (p 61 61 181 184) (g.spelled (k.Name (codes "...") false))) g.none)))) (g.part (g.atom (p 63 63 186 189) (g.spelled (k.Name (codes "...") false))) g.none)))) (g.part (g.list (p 65 71 191 205) (g.part (g.atom (p 65 65 191 192) (g.implied k.Quote)) (g.part (g.list (p 66 71 192 205) (g.part (g.atom (p 67 67 193 194) (g.spelled (k.Name (codes "a") false))) (g.part (g.atom (p 68 68 195 196) (g.spelled (k.Name (codes "g") false))) (g.part (g.atom (p 69 69 197 200) (g.spelled (k.Name (codes "...") false))) (g.part (g.atom (p 70 70 201 204) (g.spelled (k.Name (codes "...") false))) g.none))))) g.none))) g.none))) g.none)))) g.none))))) ∷ ((g.list (p 75 133 209 369) (g.part (g.atom (p 76 76 210 223) (g.spelled (k.Name (codes "define-syntax") false))) (g.part (g.atom (p 77 77 224 225) (g.spelled (k.Name (codes "y") false))) (g.part (g.list (p 78 132 226 368) (g.part (g.atom (p 79 79 227 239) (g.spelled (k.Name (codes "syntax-rules") false))) (g.part (g.atom (p 80 80 240 243) (g.spelled (k.Name (codes ":::") false))) (g.part (g.list (p 81 82 244 246) g.none) (g.part (g.list (p 83 131 247 367) (g.part (g.list (p 84 86 248 252) (g.part (g.atom (p 85 85 249 250) (g.spelled (k.Name (codes "_") false))) g.none)) (g.part (g.list (p 87 130 253 366) (g.part (g.atom (p 88 88 254 259) (g.spelled (k.Name (codes "begin") false))) (g.part (g.list (p 89 97 260 281) (g.part (g.atom (p 90 90 261 267) (g.spelled (k.Name (codes "define") false))) (g.part (g.atom (p 91 91 268 269) (g.spelled (k.Name (codes "b") false))) (g.part (g.list (p 92 96 270 280) (g.part (g.atom (p 93 93 271 275) (g.spelled (k.Name (codes "list") false))) (g.part (g.atom (p 94 94 276 277) (g.spelled (k.Name (codes "m") false))) (g.part (g.atom (p 95 95 278 279) (g.spelled (k.Name (codes "b") false))) g.none)))) g.none)))) (g.part (g.list (p 98 129 282 365) (g.part (g.atom (p 99 99 283 289) (g.spelled (k.Name (codes "define") false))) (g.part (g.atom (p 100 100 290 293) (g.spelled (k.Name (codes "tmp") false))) (g.part (g.list (p 101 128 294 364) (g.part (g.atom (p 102 102 295 298) (g.spelled (k.Name (codes "let") false))) (g.part (g.list (p 103 104 299 301) g.none) (g.part (g.list (p 105 119 302 345) (g.part (g.atom (p 106 106 303 316) (g.spelled (k.Name (codes "define-syntax") false))) (g.part (g.atom (p 107 107 317 318) (g.spelled (k.Name (codes "k") false))) (g.part (g.list (p 108 118 319 344) (g.part (g.atom (p 109 109 320 332) (g.spelled (k.Name (codes "syntax-rules") false))) (g.part (g.list (p 110 111 333 335) g.none) (g.part (g.list (p 112 117 336 343) (g.part (g.list (p 113 115 337 340) (g.part (g.atom (p 114 114 338 339) (g.spelled (k.Name (codes "_") false))) g.none)) (g.part (g.atom (p 116 116 341 342) (g.spelled (k.Name (codes "a") false))) g.none))) g.none)))) g.none)))) (g.part (g.list (p 120 124 346 359) (g.part (g.atom (p 121 121 347 353) (g.spelled (k.Name (codes "define") false))) (g.part (g.atom (p 122 122 354 356) (g.spelled (k.Name (codes "=>") false))) (g.part (g.atom (p 123 123 357 358) (g.spelled (k.Name (codes "a") false))) g.none)))) (g.part (g.list (p 125 127 360 363) (g.part (g.atom (p 126 126 361 362) (g.spelled (k.Name (codes "k") false))) g.none)) g.none)))))) g.none)))) g.none)))) g.none))) g.none))))) g.none))))) ∷ ((g.list (p 134 141 370 388) (g.part (g.atom (p 135 135 371 377) (g.spelled (k.Name (codes "define") false))) (g.part (g.list (p 136 139 378 385) (g.part (g.atom (p 137 137 379 380) (g.spelled (k.Name (codes "m") false))) (g.part (g.atom (p 138 138 381 384) (g.spelled (k.Name (codes "tmp") false))) g.none))) (g.part (g.atom (p 140 140 386 387) (g.spelled (k.Name (codes "g") false))) g.none))))) ∷ [])) ∷ []) (((40 ∷ 100 ∷ 101 ∷ 102 ∷ 105 ∷ 110 ∷ 101 ∷ 45 ∷ 115 ∷ 121 ∷ 110 ∷ 116 ∷ 97 ∷ 120 ∷ 32 ∷ 98 ∷ 32 ∷ 40 ∷ 115 ∷ 121 ∷ 110 ∷ 116 ∷ 97 ∷ 120 ∷ 45 ∷ 114 ∷ 117 ∷ 108 ∷ 101 ∷ 115 ∷ 32 ∷ 40 ∷ 101 ∷ 108 ∷ 115 ∷ 101 ∷ 41 ∷ 32 ∷ 40 ∷ 40 ∷ 95 ∷ 32 ∷ 101 ∷ 108 ∷ 115 ∷ 101 ∷ 32 ∷ 113 ∷ 32 ∷ 120 ∷ 32 ∷ 46 ∷ 46 ∷ 46 ∷ 41 ∷ 32 ∷ 40 ∷ 100 ∷ 101 ∷ 102 ∷ 105 ∷ 110 ∷ 101 ∷ 45 ∷ 115 ∷ 121 ∷ 110 ∷ 116 ∷ 97 ∷ 120 ∷ 32 ∷ 102 ∷ 32 ∷ 40 ∷ 115 ∷ 121 ∷ 110 ∷ 116 ∷ 97 ∷ 120 ∷ 45 ∷ 114 ∷ 117 ∷ 108 ∷ 101 ∷ 115 ∷ 32 ∷ 40 ∷ 41 ∷ 32 ∷ 40 ∷ 40 ∷ 95 ∷ 32 ∷ 107 ∷ 32 ∷ 40 ∷ 46 ∷ 46 ∷ 46 ∷ 32 ∷ 46 ∷ 46 ∷ 46 ∷ 41 ∷ 41 ∷ 32 ∷ 40 ∷ 108 ∷ 105 ∷ 115 ∷ 116 ∷ 32 ∷ 107 ∷ 32 ∷ 40 ∷ 46 ∷ 46 ∷ 46 ∷ 32 ∷ 46 ∷ 46 ∷ 46 ∷ 41 ∷ 32 ∷ 107 ∷ 32 ∷ 113 ∷ 41 ∷ 41 ∷ 41 ∷ 41 ∷ 41 ∷ 41 ∷ 41 ∷ 10 ∷ 40 ∷ 100 ∷ 101 ∷ 102 ∷ 105 ∷ 110 ∷ 101 ∷ 45 ∷ 115 ∷ 121 ∷ 110 ∷ 116 ∷ 97 ∷ 120 ∷ 32 ∷ 107 ∷ 32 ∷ 40 ∷ 115 ∷ 121 ∷ 110 ∷ 116 ∷ 97 ∷ 120 ∷ 45 ∷ 114 ∷ 117 ∷ 108 ∷ 101 ∷ 115 ∷ 32 ∷ 40 ∷ 41 ∷ 32 ∷ 40 ∷ 40 ∷ 95 ∷ 32 ∷ 40 ∷ 116 ∷ 109 ∷ 112 ∷ 32 ∷ 103 ∷ 32 ∷ 46 ∷ 46 ∷ 46 ∷ 41 ∷ 32 ∷ 46 ∷ 46 ∷ 46 ∷ 41 ∷ 32 ∷ 39 ∷ 40 ∷ 97 ∷ 32 ∷ 103 ∷ 32 ∷ 46 ∷ 46 ∷ 46 ∷ 32 ∷ 46 ∷ 46 ∷ 46 ∷ 41 ∷ 41 ∷ 41 ∷ 41 ∷ 10 ∷ 40 ∷ 100 ∷ 101 ∷ 102 ∷ 105 ∷ 110 ∷ 101 ∷ 45 ∷ 115 ∷ 121 ∷ 110 ∷ 116 ∷ 97 ∷ 120 ∷ 32 ∷ 121 ∷ 32 ∷ 40 ∷ 115 ∷ 121 ∷ 110 ∷ 116 ∷ 97 ∷ 120 ∷ 45 ∷ 114 ∷ 117 ∷ 108 ∷ 101 ∷ 115 ∷ 32 ∷ 58 ∷ 58 ∷ 58 ∷ 32 ∷ 40 ∷ 41 ∷ 32 ∷ 40 ∷ 40 ∷ 95 ∷ 32 ∷ 41 ∷ 32 ∷ 40 ∷ 98 ∷ 101 ∷ 103 ∷ 105 ∷ 110 ∷ 32 ∷ 40 ∷ 100 ∷ 101 ∷ 102 ∷ 105 ∷ 110 ∷ 101 ∷ 32 ∷ 98 ∷ 32 ∷ 40 ∷ 108 ∷ 105 ∷ 115 ∷ 116 ∷ 32 ∷ 109 ∷ 32 ∷ 98 ∷ 41 ∷ 41 ∷ 32 ∷ 40 ∷ 100 ∷ 101 ∷ 102 ∷ 105 ∷ 110 ∷ 101 ∷ 32 ∷ 116 ∷ 109 ∷ 112 ∷ 32 ∷ 40 ∷ 108 ∷ 101 ∷ 116 ∷ 32 ∷ 40 ∷ 41 ∷ 32 ∷ 40 ∷ 100 ∷ 101 ∷ 102 ∷ 105 ∷ 110 ∷ 101 ∷ 45 ∷ 115 ∷ 121 ∷ 110 ∷ 116 ∷ 97 ∷ 120 ∷ 32 ∷ 107 ∷ 32 ∷ 40 ∷ 115 ∷ 121 ∷ 110 ∷ 116 ∷ 97 ∷ 120 ∷ 45 ∷ 114 ∷ 117 ∷ 108 ∷ 101 ∷ 115 ∷ 32 ∷ 40 ∷ 41 ∷ 32 ∷ 40 ∷ 40 ∷ 95 ∷ 41 ∷ 32 ∷ 97 ∷ 41 ∷ 41 ∷ 41 ∷ 32 ∷ 40 ∷ 100 ∷ 101 ∷ 102 ∷ 105 ∷ 110 ∷ 101 ∷ 32 ∷ 61 ∷ 62 ∷ 32 ∷ 97 ∷ 41 ∷ 32 ∷ 40 ∷ 107 ∷ 41 ∷ 41 ∷ 41 ∷ 41 ∷ 41 ∷ 41 ∷ 41 ∷ 10 ∷ 40 ∷ 100 ∷ 101 ∷ 102 ∷ 105 ∷ 110 ∷ 101 ∷ 32 ∷ 40 ∷ 109 ∷ 32 ∷ 116 ∷ 109 ∷ 112 ∷ 41 ∷ 32 ∷ 103 ∷ 41 ∷ [])) ∷ []) 0 47 (codes "zz") ≡ (((e 47 48 (codes "zz")) ∷ (e 127 128 (codes "zz")) ∷ []) ∷ [])
unfolding base_names standard_libraries prelude encode_utf8 chars spelled is_numeral is_identifier is_initial is_subsequent ucd_category
renames-8 = refl

pub renames-12 : edit_rows (((s 0 1) ∷ (s 1 14) ∷ (s 15 16) ∷ (s 17 18) ∷ (s 18 30) ∷ (s 31 32) ∷ (s 32 36) ∷ (s 36 37) ∷ (s 38 39) ∷ (s 39 40) ∷ (s 40 41) ∷ (s 42 46) ∷ (s 47 48) ∷ (s 49 50) ∷ (s 51 54) ∷ (s 54 55) ∷ (s 56 57) ∷ (s 57 70) ∷ (s 71 72) ∷ (s 73 74) ∷ (s 74 86) ∷ (s 87 88) ∷ (s 88 89) ∷ (s 90 91) ∷ (s 91 92) ∷ (s 92 93) ∷ (s 94 95) ∷ (s 96 97) ∷ (s 97 100) ∷ (s 101 104) ∷ (s 104 105) ∷ (s 105 106) ∷ (s 107 108) ∷ (s 108 112) ∷ (s 113 114) ∷ (s 115 116) ∷ (s 116 119) ∷ (s 120 123) ∷ (s 123 124) ∷ (s 125 126) ∷ (s 127 128) ∷ (s 128 129) ∷ (s 129 130) ∷ (s 130 131) ∷ (s 131 132) ∷ (s 132 133) ∷ (s 133 134) ∷ (s 134 135) ∷ (s 136 137) ∷ (s 137 150) ∷ (s 151 152) ∷ (s 153 154) ∷ (s 154 166) ∷ (s 167 168) ∷ (s 168 169) ∷ (s 170 171) ∷ (s 171 172) ∷ (s 172 173) ∷ (s 174 175) ∷ (s 175 178) ∷ (s 179 180) ∷ (s 181 184) ∷ (s 184 185) ∷ (s 186 189) ∷ (s 189 190) ∷ (s 191 192) ∷ (s 192 193) ∷ (s 193 194) ∷ (s 195 196) ∷ (s 197 200) ∷ (s 201 204) ∷ (s 204 205) ∷ (s 205 206) ∷ (s 206 207) ∷ (s 207 208) ∷ (s 209 210) ∷ (s 210 223) ∷ (s 224 225) ∷ (s 226 227) ∷ (s 227 239) ∷ (s 240 243) ∷ (s 244 245) ∷ (s 245 246) ∷ (s 247 248) ∷ (s 248 249) ∷ (s 249 250) ∷ (s 251 252) ∷ (s 253 254) ∷ (s 254 259) ∷ (s 260 261) ∷ (s 261 267) ∷ (s 268 269) ∷ (s 270 271) ∷ (s 271 275) ∷ (s 276 277) ∷ (s 278 279) ∷ (s 279 280) ∷ (s 280 281) ∷ (s 282 283) ∷ (s 283 289) ∷ (s 290 293) ∷ (s 294 295) ∷ (s 295 298) ∷ (s 299 300) ∷ (s 300 301) ∷ (s 302 303) ∷ (s 303 316) ∷ (s 317 318) ∷ (s 319 320) ∷ (s 320 332) ∷ (s 333 334) ∷ (s 334 335) ∷ (s 336 337) ∷ (s 337 338) ∷ (s 338 339) ∷ (s 339 340) ∷ (s 341 342) ∷ (s 342 343) ∷ (s 343 344) ∷ (s 344 345) ∷ (s 346 347) ∷ (s 347 353) ∷ (s 354 356) ∷ (s 357 358) ∷ (s 358 359) ∷ (s 360 361) ∷ (s 361 362) ∷ (s 362 363) ∷ (s 363 364) ∷ (s 364 365) ∷ (s 365 366) ∷ (s 366 367) ∷ (s 367 368) ∷ (s 368 369) ∷ (s 370 371) ∷ (s 371 377) ∷ (s 378 379) ∷ (s 379 380) ∷ (s 381 384) ∷ (s 384 385) ∷ (s 386 387) ∷ (s 387 388) ∷ []) ∷ []) ((Some (((g.list (p 0 47 0 135) (g.part (g.atom (p 1 1 1 14) (g.spelled (k.Name (codes "define-syntax") false))) (g.part (g.atom (p 2 2 15 16) (g.spelled (k.Name (codes "b") false))) (g.part (g.list (p 3 46 17 134) (g.part (g.atom (p 4 4 18 30) (g.spelled (k.Name (codes "syntax-rules") false))) (g.part (g.list (p 5 7 31 37) (g.part (g.atom (p 6 6 32 36) (g.spelled (k.Name (codes "else") false))) g.none)) (g.part (g.list (p 8 45 38 133) (g.part (g.list (p 9 15 39 55) (g.part (g.atom (p 10 10 40 41) (g.spelled (k.Name (codes "_") false))) (g.part (g.atom (p 11 11 42 46) (g.spelled (k.Name (codes "else") false))) (g.part (g.atom (p 12 12 47 48) (g.spelled (k.Name (codes "q") false))) (g.part (g.atom (p 13 13 49 50) (g.spelled (k.Name (codes "x") false))) (g.part (g.atom (p 14 14 51 54) (g.spelled (k.Name (codes "...") false))) g.none)))))) (g.part (g.list (p 16 44 56 132) (g.part (g.atom (p 17 17 57 70) (g.spelled (k.Name (codes "define-syntax") false))) (g.part (g.atom (p 18 18 71 72) (g.spelled (k.Name (codes "f") false))) (g.part (g.list (p 19 43 73 131) (g.part (g.atom (p 20 20 74 86) (g.spelled (k.Name (codes "syntax-rules") false))) (g.part (g.list (p 21 22 87 89) g.none) (g.part (g.list (p 23 42 90 130) (g.part (g.list (p 24 31 91 106) (g.part (g.atom (p 25 25 92 93) (g.spelled (k.Name (codes "_") false))) (g.part (g.atom (p 26 26 94 95) (g.spelled (k.Name (codes "k") false))) (g.part (g.list (p 27 30 96 105) (g.part (g.atom (p 28 28 97 100) (g.spelled (k.Name (codes "...") false))) (g.part (g.atom (p 29 29 101 104) (g.spelled (k.Name (codes "...") false))) g.none))) g.none)))) (g.part (g.list (p 32 41 107 129) (g.part (g.atom (p 33 33 108 112) (g.spelled (k.Name (codes "list") false))) (g.part (g.atom (p 34 34 113 114) (g.spelled (k.Name (codes "k") false))) (g.part (g.list (p 35 38 115 124) (g.part (g.atom (p 36 36 116 119) (g.spelled (k.Name (codes "...") false))) (g.part (g.atom (p 37 37 120 123) (g.spelled (k.Name (codes "...") false))) g.none))) (g.part (g.atom (p 39 39 125 126) (g.spelled (k.Name (codes "k") false))) (g.part (g.atom (p 40 40 127 128) (g.spelled (k.Name (codes "q") false))) g.none)))))) g.none))) g.none)))) g.none)))) g.none))) g.none)))) g.none))))) ∷ ((g.list (p 48 74 136 208) (g.part (g.atom (p 49 49 137 150) (g.spelled (k.Name (codes "define-syntax") false))) (g.part (g.atom (p 50 50 151 152) (g.spelled (k.Name (codes "k") false))) (g.part (g.list (p 51 73 153 207) (g.part (g.atom (p 52 52 154 166) (g.spelled (k.Name (codes "syntax-rules") false))) (g.part (g.list (p 53 54 167 169) g.none) (g.part (g.list (p 55 72 170 206) (g.part (g.list (p 56 64 171 190) (g.part (g.atom (p 57 57 172 173) (g.spelled (k.Name (codes "_") false))) (g.part (g.list (p 58 62 174 185) (g.part (g.atom (p 59 59 175 178) (g.spelled (k.Name (codes "tmp") false))) (g.part (g.atom (p 60 60 179 180) (g.spelled (k.Name (codes "g") false))) (g.part (g.atom (p 61 61 181 184) (g.spelled (k.Name (codes "...") false))) g.none)))) (g.part (g.atom (p 63 63 186 189) (g.spelled (k.Name (codes "...") false))) g.none)))) (g.part (g.list (p 65 71 191 205) (g.part (g.atom (p 65 65 191 192) (g.implied k.Quote)) (g.part (g.list (p 66 71 192 205) (g.part (g.atom (p 67 67 193 194) (g.spelled (k.Name (codes "a") false))) (g.part (g.atom (p 68 68 195 196) (g.spelled (k.Name (codes "g") false))) (g.part (g.atom (p 69 69 197 200) (g.spelled (k.Name (codes "...") false))) (g.part (g.atom (p 70 70 201 204) (g.spelled (k.Name (codes "...") false))) g.none))))) g.none))) g.none))) g.none)))) g.none))))) ∷ ((g.list (p 75 133 209 369) (g.part (g.atom (p 76 76 210 223) (g.spelled (k.Name (codes "define-syntax") false))) (g.part (g.atom (p 77 77 224 225) (g.spelled (k.Name (codes "y") false))) (g.part (g.list (p 78 132 226 368) (g.part (g.atom (p 79 79 227 239) (g.spelled (k.Name (codes "syntax-rules") false))) (g.part (g.atom (p 80 80 240 243) (g.spelled (k.Name (codes ":::") false))) (g.part (g.list (p 81 82 244 246) g.none) (g.part (g.list (p 83 131 247 367) (g.part (g.list (p 84 86 248 252) (g.part (g.atom (p 85 85 249 250) (g.spelled (k.Name (codes "_") false))) g.none)) (g.part (g.list (p 87 130 253 366) (g.part (g.atom (p 88 88 254 259) (g.spelled (k.Name (codes "begin") false))) (g.part (g.list (p 89 97 260 281) (g.part (g.atom (p 90 90 261 267) (g.spelled (k.Name (codes "define") false))) (g.part (g.atom (p 91 91 268 269) (g.spelled (k.Name (codes "b") false))) (g.part (g.list (p 92 96 270 280) (g.part (g.atom (p 93 93 271 275) (g.spelled (k.Name (codes "list") false))) (g.part (g.atom (p 94 94 276 277) (g.spelled (k.Name (codes "m") false))) (g.part (g.atom (p 95 95 278 279) (g.spelled (k.Name (codes "b") false))) g.none)))) g.none)))) (g.part (g.list (p 98 129 282 365) (g.part (g.atom (p 99 99 283 289) (g.spelled (k.Name (codes "define") false))) (g.part (g.atom (p 100 100 290 293) (g.spelled (k.Name (codes "tmp") false))) (g.part (g.list (p 101 128 294 364) (g.part (g.atom (p 102 102 295 298) (g.spelled (k.Name (codes "let") false))) (g.part (g.list (p 103 104 299 301) g.none) (g.part (g.list (p 105 119 302 345) (g.part (g.atom (p 106 106 303 316) (g.spelled (k.Name (codes "define-syntax") false))) (g.part (g.atom (p 107 107 317 318) (g.spelled (k.Name (codes "k") false))) (g.part (g.list (p 108 118 319 344) (g.part (g.atom (p 109 109 320 332) (g.spelled (k.Name (codes "syntax-rules") false))) (g.part (g.list (p 110 111 333 335) g.none) (g.part (g.list (p 112 117 336 343) (g.part (g.list (p 113 115 337 340) (g.part (g.atom (p 114 114 338 339) (g.spelled (k.Name (codes "_") false))) g.none)) (g.part (g.atom (p 116 116 341 342) (g.spelled (k.Name (codes "a") false))) g.none))) g.none)))) g.none)))) (g.part (g.list (p 120 124 346 359) (g.part (g.atom (p 121 121 347 353) (g.spelled (k.Name (codes "define") false))) (g.part (g.atom (p 122 122 354 356) (g.spelled (k.Name (codes "=>") false))) (g.part (g.atom (p 123 123 357 358) (g.spelled (k.Name (codes "a") false))) g.none)))) (g.part (g.list (p 125 127 360 363) (g.part (g.atom (p 126 126 361 362) (g.spelled (k.Name (codes "k") false))) g.none)) g.none)))))) g.none)))) g.none)))) g.none))) g.none))))) g.none))))) ∷ ((g.list (p 134 141 370 388) (g.part (g.atom (p 135 135 371 377) (g.spelled (k.Name (codes "define") false))) (g.part (g.list (p 136 139 378 385) (g.part (g.atom (p 137 137 379 380) (g.spelled (k.Name (codes "m") false))) (g.part (g.atom (p 138 138 381 384) (g.spelled (k.Name (codes "tmp") false))) g.none))) (g.part (g.atom (p 140 140 386 387) (g.spelled (k.Name (codes "g") false))) g.none))))) ∷ [])) ∷ []) (((40 ∷ 100 ∷ 101 ∷ 102 ∷ 105 ∷ 110 ∷ 101 ∷ 45 ∷ 115 ∷ 121 ∷ 110 ∷ 116 ∷ 97 ∷ 120 ∷ 32 ∷ 98 ∷ 32 ∷ 40 ∷ 115 ∷ 121 ∷ 110 ∷ 116 ∷ 97 ∷ 120 ∷ 45 ∷ 114 ∷ 117 ∷ 108 ∷ 101 ∷ 115 ∷ 32 ∷ 40 ∷ 101 ∷ 108 ∷ 115 ∷ 101 ∷ 41 ∷ 32 ∷ 40 ∷ 40 ∷ 95 ∷ 32 ∷ 101 ∷ 108 ∷ 115 ∷ 101 ∷ 32 ∷ 113 ∷ 32 ∷ 120 ∷ 32 ∷ 46 ∷ 46 ∷ 46 ∷ 41 ∷ 32 ∷ 40 ∷ 100 ∷ 101 ∷ 102 ∷ 105 ∷ 110 ∷ 101 ∷ 45 ∷ 115 ∷ 121 ∷ 110 ∷ 116 ∷ 97 ∷ 120 ∷ 32 ∷ 102 ∷ 32 ∷ 40 ∷ 115 ∷ 121 ∷ 110 ∷ 116 ∷ 97 ∷ 120 ∷ 45 ∷ 114 ∷ 117 ∷ 108 ∷ 101 ∷ 115 ∷ 32 ∷ 40 ∷ 41 ∷ 32 ∷ 40 ∷ 40 ∷ 95 ∷ 32 ∷ 107 ∷ 32 ∷ 40 ∷ 46 ∷ 46 ∷ 46 ∷ 32 ∷ 46 ∷ 46 ∷ 46 ∷ 41 ∷ 41 ∷ 32 ∷ 40 ∷ 108 ∷ 105 ∷ 115 ∷ 116 ∷ 32 ∷ 107 ∷ 32 ∷ 40 ∷ 46 ∷ 46 ∷ 46 ∷ 32 ∷ 46 ∷ 46 ∷ 46 ∷ 41 ∷ 32 ∷ 107 ∷ 32 ∷ 113 ∷ 41 ∷ 41 ∷ 41 ∷ 41 ∷ 41 ∷ 41 ∷ 41 ∷ 10 ∷ 40 ∷ 100 ∷ 101 ∷ 102 ∷ 105 ∷ 110 ∷ 101 ∷ 45 ∷ 115 ∷ 121 ∷ 110 ∷ 116 ∷ 97 ∷ 120 ∷ 32 ∷ 107 ∷ 32 ∷ 40 ∷ 115 ∷ 121 ∷ 110 ∷ 116 ∷ 97 ∷ 120 ∷ 45 ∷ 114 ∷ 117 ∷ 108 ∷ 101 ∷ 115 ∷ 32 ∷ 40 ∷ 41 ∷ 32 ∷ 40 ∷ 40 ∷ 95 ∷ 32 ∷ 40 ∷ 116 ∷ 109 ∷ 112 ∷ 32 ∷ 103 ∷ 32 ∷ 46 ∷ 46 ∷ 46 ∷ 41 ∷ 32 ∷ 46 ∷ 46 ∷ 46 ∷ 41 ∷ 32 ∷ 39 ∷ 40 ∷ 97 ∷ 32 ∷ 103 ∷ 32 ∷ 46 ∷ 46 ∷ 46 ∷ 32 ∷ 46 ∷ 46 ∷ 46 ∷ 41 ∷ 41 ∷ 41 ∷ 41 ∷ 10 ∷ 40 ∷ 100 ∷ 101 ∷ 102 ∷ 105 ∷ 110 ∷ 101 ∷ 45 ∷ 115 ∷ 121 ∷ 110 ∷ 116 ∷ 97 ∷ 120 ∷ 32 ∷ 121 ∷ 32 ∷ 40 ∷ 115 ∷ 121 ∷ 110 ∷ 116 ∷ 97 ∷ 120 ∷ 45 ∷ 114 ∷ 117 ∷ 108 ∷ 101 ∷ 115 ∷ 32 ∷ 58 ∷ 58 ∷ 58 ∷ 32 ∷ 40 ∷ 41 ∷ 32 ∷ 40 ∷ 40 ∷ 95 ∷ 32 ∷ 41 ∷ 32 ∷ 40 ∷ 98 ∷ 101 ∷ 103 ∷ 105 ∷ 110 ∷ 32 ∷ 40 ∷ 100 ∷ 101 ∷ 102 ∷ 105 ∷ 110 ∷ 101 ∷ 32 ∷ 98 ∷ 32 ∷ 40 ∷ 108 ∷ 105 ∷ 115 ∷ 116 ∷ 32 ∷ 109 ∷ 32 ∷ 98 ∷ 41 ∷ 41 ∷ 32 ∷ 40 ∷ 100 ∷ 101 ∷ 102 ∷ 105 ∷ 110 ∷ 101 ∷ 32 ∷ 116 ∷ 109 ∷ 112 ∷ 32 ∷ 40 ∷ 108 ∷ 101 ∷ 116 ∷ 32 ∷ 40 ∷ 41 ∷ 32 ∷ 40 ∷ 100 ∷ 101 ∷ 102 ∷ 105 ∷ 110 ∷ 101 ∷ 45 ∷ 115 ∷ 121 ∷ 110 ∷ 116 ∷ 97 ∷ 120 ∷ 32 ∷ 107 ∷ 32 ∷ 40 ∷ 115 ∷ 121 ∷ 110 ∷ 116 ∷ 97 ∷ 120 ∷ 45 ∷ 114 ∷ 117 ∷ 108 ∷ 101 ∷ 115 ∷ 32 ∷ 40 ∷ 41 ∷ 32 ∷ 40 ∷ 40 ∷ 95 ∷ 41 ∷ 32 ∷ 97 ∷ 41 ∷ 41 ∷ 41 ∷ 32 ∷ 40 ∷ 100 ∷ 101 ∷ 102 ∷ 105 ∷ 110 ∷ 101 ∷ 32 ∷ 61 ∷ 62 ∷ 32 ∷ 97 ∷ 41 ∷ 32 ∷ 40 ∷ 107 ∷ 41 ∷ 41 ∷ 41 ∷ 41 ∷ 41 ∷ 41 ∷ 41 ∷ 10 ∷ 40 ∷ 100 ∷ 101 ∷ 102 ∷ 105 ∷ 110 ∷ 101 ∷ 32 ∷ 40 ∷ 109 ∷ 32 ∷ 116 ∷ 109 ∷ 112 ∷ 41 ∷ 32 ∷ 103 ∷ 41 ∷ [])) ∷ []) 0 113 (codes "zz") ≡ (((e 94 95 (codes "zz")) ∷ (e 113 114 (codes "zz")) ∷ (e 125 126 (codes "zz")) ∷ (e 151 152 (codes "zz")) ∷ (e 317 318 (codes "zz")) ∷ (e 361 362 (codes "zz")) ∷ []) ∷ [])
unfolding base_names standard_libraries prelude encode_utf8 chars spelled is_numeral is_identifier is_initial is_subsequent ucd_category
renames-12 = refl

pub renames-14 : edit_rows (((s 0 1) ∷ (s 2 3) ∷ (s 3 6) ∷ (s 7 9) ∷ (s 10 11) ∷ (s 11 12) ∷ (s 12 13) ∷ (s 14 15) ∷ (s 15 16) ∷ (s 16 17) ∷ (s 17 18) ∷ (s 19 20) ∷ (s 20 26) ∷ (s 27 28) ∷ (s 28 29) ∷ (s 30 31) ∷ (s 31 32) ∷ (s 33 35) ∷ (s 35 36) ∷ (s 37 38) ∷ (s 38 42) ∷ (s 43 44) ∷ (s 44 46) ∷ (s 47 48) ∷ (s 48 49) ∷ (s 49 50) ∷ (s 51 52) ∷ (s 53 54) ∷ (s 54 55) ∷ (s 55 56) ∷ (s 57 58) ∷ (s 58 59) ∷ (s 59 60) ∷ (s 61 62) ∷ (s 62 63) ∷ (s 64 65) ∷ (s 65 66) ∷ (s 66 67) ∷ (s 68 69) ∷ (s 69 70) ∷ (s 71 72) ∷ (s 72 73) ∷ (s 74 75) ∷ (s 75 79) ∷ (s 80 82) ∷ (s 83 84) ∷ (s 84 87) ∷ (s 88 89) ∷ (s 89 90) ∷ (s 90 91) ∷ (s 92 93) ∷ (s 93 94) ∷ (s 94 95) ∷ (s 96 97) ∷ (s 97 108) ∷ (s 109 110) ∷ (s 110 111) ∷ (s 111 113) ∷ (s 114 118) ∷ (s 119 123) ∷ (s 123 124) ∷ (s 125 126) ∷ (s 126 132) ∷ (s 133 134) ∷ (s 135 136) ∷ (s 136 137) ∷ (s 137 138) ∷ (s 139 140) ∷ (s 140 144) ∷ (s 145 146) ∷ (s 146 152) ∷ (s 153 154) ∷ (s 155 156) ∷ (s 156 157) ∷ (s 157 158) ∷ (s 158 159) ∷ (s 160 161) ∷ (s 161 167) ∷ (s 168 169) ∷ (s 170 171) ∷ (s 171 172) ∷ (s 173 174) ∷ (s 175 178) ∷ (s 178 179) ∷ (s 179 180) ∷ (s 180 181) ∷ (s 181 182) ∷ (s 183 184) ∷ (s 184 190) ∷ (s 191 192) ∷ (s 192 193) ∷ (s 194 195) ∷ (s 195 196) ∷ (s 197 198) ∷ (s 198 211) ∷ (s 212 213) ∷ (s 214 215) ∷ (s 215 227) ∷ (s 228 229) ∷ (s 229 231) ∷ (s 231 232) ∷ (s 233 234) ∷ (s 234 235) ∷ (s 235 236) ∷ (s 237 239) ∷ (s 239 240) ∷ (s 241 242) ∷ (s 242 248) ∷ (s 249 250) ∷ (s 250 251) ∷ (s 251 252) ∷ (s 253 254) ∷ (s 254 260) ∷ (s 261 262) ∷ (s 263 264) ∷ (s 264 265) ∷ (s 266 267) ∷ (s 267 269) ∷ (s 270 271) ∷ (s 271 272) ∷ (s 273 274) ∷ (s 274 275) ∷ (s 276 277) ∷ (s 277 278) ∷ (s 279 280) ∷ (s 280 281) ∷ (s 282 283) ∷ (s 283 284) ∷ (s 284 285) ∷ (s 285 286) ∷ (s 287 288) ∷ (s 288 289) ∷ (s 289 290) ∷ (s 291 292) ∷ (s 293 297) ∷ (s 297 298) ∷ (s 299 300) ∷ (s 300 301) ∷ (s 301 302) ∷ (s 303 304) ∷ (s 304 305) ∷ (s 305 306) ∷ (s 306 307) ∷ (s 307 308) ∷ (s 309 310) ∷ (s 310 311) ∷ (s 312 314) ∷ []) ∷ []) ((Some (((g.atom (p 0 0 0 1) (g.spelled (k.Name (codes "x") false)))) ∷ ((g.list (p 1 86 2 182) (g.part (g.atom (p 2 2 3 6) (g.spelled (k.Name (codes "let") false))) (g.part (g.atom (p 3 3 7 9) (g.spelled (k.Name (codes "=>") false))) (g.part (g.list (p 4 10 10 18) (g.part (g.list (p 5 9 11 17) (g.part (g.atom (p 6 6 12 13) (g.spelled (k.Name (codes "y") false))) (g.part (g.list (p 7 8 14 16) (g.part (g.atom (p 7 7 14 15) (g.implied k.Quote)) (g.part (g.atom (p 8 8 15 16) (g.spelled (k.Name (codes "x") false))) g.none))) g.none))) g.none)) (g.part (g.list (p 11 18 19 36) (g.part (g.atom (p 12 12 20 26) (g.spelled (k.Name (codes "define") false))) (g.part (g.list (p 13 16 27 32) (g.part (g.atom (p 14 14 28 29) (g.spelled (k.Name (codes "t") false))) (g.part (g.atom (p 15 15 30 31) (g.spelled (k.Name (codes "t") false))) g.none))) (g.part (g.atom (p 17 17 33 35) (g.spelled (k.Truth true))) g.none)))) (g.part (g.list (p 19 85 37 181) (g.part (g.atom (p 20 20 38 42) (g.spelled (k.Name (codes "case") false))) (g.part (g.list (p 21 34 43 63) (g.part (g.atom (p 22 22 44 46) (g.spelled (k.Name (codes "do") false))) (g.part (g.list (p 23 29 47 56) (g.part (g.list (p 24 28 48 55) (g.part (g.atom (p 25 25 49 50) (g.spelled (k.Name (codes "t") false))) (g.part (g.atom (p 26 26 51 52) (g.spelled (k.Name (codes "x") false))) (g.part (g.atom (p 27 27 53 54) (g.spelled (k.Numeral (codes "2")))) g.none)))) g.none)) (g.part (g.list (p 30 32 57 60) (g.part (g.atom (p 31 31 58 59) (g.spelled (k.Name (codes "t") false))) g.none)) (g.part (g.atom (p 33 33 61 62) (g.spelled (k.Name (codes "x") false))) g.none))))) (g.part (g.list (p 35 41 64 73) (g.part (g.list (p 36 39 65 70) (g.part (g.atom (p 37 37 66 67) (g.spelled (k.Name (codes "y") false))) (g.part (g.atom (p 38 38 68 69) (g.spelled (k.Numeral (codes "2")))) g.none))) (g.part (g.atom (p 40 40 71 72) (g.spelled (k.Name (codes "x") false))) g.none))) (g.part (g.list (p 42 84 74 180) (g.part (g.atom (p 43 43 75 79) (g.spelled (k.Name (codes "else") false))) (g.part (g.atom (p 44 44 80 82) (g.spelled (k.Name (codes "=>") false))) (g.part (g.list (p 45 83 83 179) (g.part (g.atom (p 46 46 84 87) (g.spelled (k.Name (codes "let") false))) (g.part (g.list (p 47 52 88 95) (g.part (g.list (p 48 51 89 94) (g.part (g.atom (p 49 49 90 91) (g.spelled (k.Name (codes "y") false))) (g.part (g.atom (p 50 50 92 93) (g.spelled (k.Name (codes "x") false))) g.none))) g.none)) (g.part (g.list (p 53 75 96 159) (g.part (g.atom (p 54 54 97 108) (g.spelled (k.Name (codes "cond-expand") false))) (g.part (g.list (p 55 66 109 138) (g.part (g.list (p 56 60 110 124) (g.part (g.atom (p 57 57 111 113) (g.spelled (k.Name (codes "or") false))) (g.part (g.atom (p 58 58 114 118) (g.spelled (k.Name (codes "full") false))) (g.part (g.atom (p 59 59 119 123) (g.spelled (k.Name (codes "r7rs") false))) g.none)))) (g.part (g.list (p 61 65 125 137) (g.part (g.atom (p 62 62 126 132) (g.spelled (k.Name (codes "define") false))) (g.part (g.atom (p 63 63 133 134) (g.spelled (k.Name (codes "y") false))) (g.part (g.atom (p 64 64 135 136) (g.spelled (k.Name (codes "t") false))) g.none)))) g.none))) (g.part (g.list (p 67 74 139 158) (g.part (g.atom (p 68 68 140 144) (g.spelled (k.Name (codes "else") false))) (g.part (g.list (p 69 73 145 157) (g.part (g.atom (p 70 70 146 152) (g.spelled (k.Name (codes "define") false))) (g.part (g.atom (p 71 71 153 154) (g.spelled (k.Name (codes "y") false))) (g.part (g.atom (p 72 72 155 156) (g.spelled (k.Name (codes "x") false))) g.none)))) g.none))) g.none)))) (g.part (g.list (p 76 80 160 172) (g.part (g.atom (p 77 77 161 167) (g.spelled (k.Name (codes "define") false))) (g.part (g.atom (p 78 78 168 169) (g.spelled (k.Name (codes "x") false))) (g.part (g.atom (p 79 79 170 171) (g.spelled (k.Name (codes "x") false))) g.none)))) (g.part (g.atom (p 81 81 173 174) (g.spelled (k.Name (codes "y") false))) (g.part (g.atom (p 82 82 175 178) (g.spelled (k.Quoted (codes "s")))) g.none))))))) g.none)))) g.none))))) g.none))))))) ∷ ((g.list (p 87 145 183 311) (g.part (g.atom (p 88 88 184 190) (g.spelled (k.Name (codes "define") false))) (g.part (g.list (p 89 92 191 196) (g.part (g.atom (p 90 90 192 193) (g.spelled (k.Name (codes "t") false))) (g.part (g.atom (p 91 91 194 195) (g.spelled (k.Name (codes "x") false))) g.none))) (g.part (g.list (p 93 143 197 308) (g.part (g.atom (p 94 94 198 211) (g.spelled (k.Name (codes "define-syntax") false))) (g.part (g.atom (p 95 95 212 213) (g.spelled (k.Name (codes "y") false))) (g.part (g.list (p 96 142 214 307) (g.part (g.atom (p 97 97 215 227) (g.spelled (k.Name (codes "syntax-rules") false))) (g.part (g.list (p 98 100 228 232) (g.part (g.atom (p 99 99 229 231) (g.spelled (k.Name (codes "in") false))) g.none)) (g.part (g.list (p 101 129 233 286) (g.part (g.list (p 102 105 234 240) (g.part (g.atom (p 103 103 235 236) (g.spelled (k.Name (codes "_") false))) (g.part (g.atom (p 104 104 237 239) (g.spelled (k.Name (codes "in") false))) g.none))) (g.part (g.list (p 106 128 241 285) (g.part (g.atom (p 107 107 242 248) (g.spelled (k.Name (codes "lambda") false))) (g.part (g.list (p 108 110 249 252) (g.part (g.atom (p 109 109 250 251) (g.spelled (k.Name (codes "t") false))) g.none)) (g.part (g.list (p 111 115 253 265) (g.part (g.atom (p 112 112 254 260) (g.spelled (k.Name (codes "define") false))) (g.part (g.atom (p 113 113 261 262) (g.spelled (k.Name (codes "x") false))) (g.part (g.atom (p 114 114 263 264) (g.spelled (k.Name (codes "y") false))) g.none)))) (g.part (g.list (p 116 127 266 284) (g.part (g.atom (p 117 117 267 269) (g.spelled (k.Name (codes "if") false))) (g.part (g.list (p 118 121 270 275) (g.part (g.atom (p 119 119 271 272) (g.spelled (k.Name (codes "t") false))) (g.part (g.atom (p 120 120 273 274) (g.spelled (k.Name (codes "y") false))) g.none))) (g.part (g.list (p 122 125 276 281) (g.part (g.atom (p 123 123 277 278) (g.spelled (k.Name (codes "x") false))) (g.part (g.atom (p 124 124 279 280) (g.spelled (k.Name (codes "y") false))) g.none))) (g.part (g.atom (p 126 126 282 283) (g.spelled (k.Name (codes "t") false))) g.none))))) g.none))))) g.none))) (g.part (g.list (p 130 141 287 306) (g.part (g.list (p 131 135 288 298) (g.part (g.atom (p 132 132 289 290) (g.spelled (k.Name (codes "_") false))) (g.tail (g.atom (p 134 134 293 297) (g.spelled (k.Name (codes "rest") false)))))) (g.part (g.list (p 136 140 299 305) (g.part (g.atom (p 136 136 299 300) (g.implied k.Quote)) (g.part (g.list (p 137 140 300 305) (g.part (g.atom (p 138 138 301 302) (g.spelled (k.Name (codes "y") false))) (g.part (g.atom (p 139 139 303 304) (g.spelled (k.Name (codes "t") false))) g.none))) g.none))) g.none))) g.none))))) g.none)))) (g.part (g.atom (p 144 144 309 310) (g.spelled (k.Name (codes "x") false))) g.none)))))) ∷ ((g.atom (p 146 146 312 314) (g.spelled (k.Truth true)))) ∷ [])) ∷ []) (((120 ∷ 10 ∷ 40 ∷ 108 ∷ 101 ∷ 116 ∷ 32 ∷ 61 ∷ 62 ∷ 32 ∷ 40 ∷ 40 ∷ 121 ∷ 32 ∷ 39 ∷ 120 ∷ 41 ∷ 41 ∷ 32 ∷ 40 ∷ 100 ∷ 101 ∷ 102 ∷ 105 ∷ 110 ∷ 101 ∷ 32 ∷ 40 ∷ 116 ∷ 32 ∷ 116 ∷ 41 ∷ 32 ∷ 35 ∷ 116 ∷ 41 ∷ 32 ∷ 40 ∷ 99 ∷ 97 ∷ 115 ∷ 101 ∷ 32 ∷ 40 ∷ 100 ∷ 111 ∷ 32 ∷ 40 ∷ 40 ∷ 116 ∷ 32 ∷ 120 ∷ 32 ∷ 50 ∷ 41 ∷ 41 ∷ 32 ∷ 40 ∷ 116 ∷ 41 ∷ 32 ∷ 120 ∷ 41 ∷ 32 ∷ 40 ∷ 40 ∷ 121 ∷ 32 ∷ 50 ∷ 41 ∷ 32 ∷ 120 ∷ 41 ∷ 32 ∷ 40 ∷ 101 ∷ 108 ∷ 115 ∷ 101 ∷ 32 ∷ 61 ∷ 62 ∷ 32 ∷ 40 ∷ 108 ∷ 101 ∷ 116 ∷ 32 ∷ 40 ∷ 40 ∷ 121 ∷ 32 ∷ 120 ∷ 41 ∷ 41 ∷ 32 ∷ 40 ∷ 99 ∷ 111 ∷ 110 ∷ 100 ∷ 45 ∷ 101 ∷ 120 ∷ 112 ∷ 97 ∷ 110 ∷ 100 ∷ 32 ∷ 40 ∷ 40 ∷ 111 ∷ 114 ∷ 32 ∷ 102 ∷ 117 ∷ 108 ∷ 108 ∷ 32 ∷ 114 ∷ 55 ∷ 114 ∷ 115 ∷ 41 ∷ 32 ∷ 40 ∷ 100 ∷ 101 ∷ 102 ∷ 105 ∷ 110 ∷ 101 ∷ 32 ∷ 121 ∷ 32 ∷ 116 ∷ 41 ∷ 41 ∷ 32 ∷ 40 ∷ 101 ∷ 108 ∷ 115 ∷ 101 ∷ 32 ∷ 40 ∷ 100 ∷ 101 ∷ 102 ∷ 105 ∷ 110 ∷ 101 ∷ 32 ∷ 121 ∷ 32 ∷ 120 ∷ 41 ∷ 41 ∷ 41 ∷ 32 ∷ 40 ∷ 100 ∷ 101 ∷ 102 ∷ 105 ∷ 110 ∷ 101 ∷ 32 ∷ 120 ∷ 32 ∷ 120 ∷ 41 ∷ 32 ∷ 121 ∷ 32 ∷ 34 ∷ 115 ∷ 34 ∷ 41 ∷ 41 ∷ 41 ∷ 41 ∷ 10 ∷ 40 ∷ 100 ∷ 101 ∷ 102 ∷ 105 ∷ 110 ∷ 101 ∷ 32 ∷ 40 ∷ 116 ∷ 32 ∷ 120 ∷ 41 ∷ 32 ∷ 40 ∷ 100 ∷ 101 ∷ 102 ∷ 105 ∷ 110 ∷ 101 ∷ 45 ∷ 115 ∷ 121 ∷ 110 ∷ 116 ∷ 97 ∷ 120 ∷ 32 ∷ 121 ∷ 32 ∷ 40 ∷ 115 ∷ 121 ∷ 110 ∷ 116 ∷ 97 ∷ 120 ∷ 45 ∷ 114 ∷ 117 ∷ 108 ∷ 101 ∷ 115 ∷ 32 ∷ 40 ∷ 105 ∷ 110 ∷ 41 ∷ 32 ∷ 40 ∷ 40 ∷ 95 ∷ 32 ∷ 105 ∷ 110 ∷ 41 ∷ 32 ∷ 40 ∷ 108 ∷ 97 ∷ 109 ∷ 98 ∷ 100 ∷ 97 ∷ 32 ∷ 40 ∷ 116 ∷ 41 ∷ 32 ∷ 40 ∷ 100 ∷ 101 ∷ 102 ∷ 105 ∷ 110 ∷ 101 ∷ 32 ∷ 120 ∷ 32 ∷ 121 ∷ 41 ∷ 32 ∷ 40 ∷ 105 ∷ 102 ∷ 32 ∷ 40 ∷ 116 ∷ 32 ∷ 121 ∷ 41 ∷ 32 ∷ 40 ∷ 120 ∷ 32 ∷ 121 ∷ 41 ∷ 32 ∷ 116 ∷ 41 ∷ 41 ∷ 41 ∷ 32 ∷ 40 ∷ 40 ∷ 95 ∷ 32 ∷ 46 ∷ 32 ∷ 114 ∷ 101 ∷ 115 ∷ 116 ∷ 41 ∷ 32 ∷ 39 ∷ 40 ∷ 121 ∷ 32 ∷ 116 ∷ 41 ∷ 41 ∷ 41 ∷ 41 ∷ 32 ∷ 120 ∷ 41 ∷ 10 ∷ 35 ∷ 116 ∷ [])) ∷ []) 0 168 (codes "zz") ≡ (((e 168 169 (codes "zz")) ∷ (e 170 171 (codes "zz")) ∷ []) ∷ [])
unfolding base_names standard_libraries prelude encode_utf8 chars spelled is_numeral is_identifier is_initial is_subsequent ucd_category
renames-14 = refl

pub renames-25 : edit_rows (((s 0 1) ∷ (s 1 14) ∷ (s 15 18) ∷ (s 19 20) ∷ (s 20 32) ∷ (s 33 34) ∷ (s 34 35) ∷ (s 36 37) ∷ (s 37 38) ∷ (s 38 39) ∷ (s 40 41) ∷ (s 42 45) ∷ (s 46 47) ∷ (s 47 48) ∷ (s 49 50) ∷ (s 50 54) ∷ (s 55 56) ∷ (s 57 58) ∷ (s 58 59) ∷ (s 59 60) ∷ (s 61 62) ∷ (s 62 63) ∷ (s 63 64) ∷ (s 65 66) ∷ (s 67 71) ∷ (s 71 72) ∷ (s 73 74) ∷ (s 74 75) ∷ (s 75 76) ∷ (s 76 77) ∷ (s 78 79) ∷ (s 79 84) ∷ (s 85 86) ∷ (s 86 99) ∷ (s 100 101) ∷ (s 102 103) ∷ (s 103 115) ∷ (s 116 117) ∷ (s 117 121) ∷ (s 121 122) ∷ (s 123 124) ∷ (s 124 125) ∷ (s 125 126) ∷ (s 127 131) ∷ (s 132 133) ∷ (s 134 137) ∷ (s 137 138) ∷ (s 139 140) ∷ (s 140 145) ∷ (s 146 147) ∷ (s 147 153) ∷ (s 154 155) ∷ (s 156 157) ∷ (s 157 159) ∷ (s 160 161) ∷ (s 162 163) ∷ (s 164 165) ∷ (s 165 166) ∷ (s 166 167) ∷ (s 167 168) ∷ (s 168 169) ∷ (s 169 170) ∷ (s 170 171) ∷ (s 172 173) ∷ (s 173 174) ∷ (s 175 179) ∷ (s 179 180) ∷ (s 180 181) ∷ []) ∷ []) ((Some (((g.list (p 0 29 0 77) (g.part (g.atom (p 1 1 1 14) (g.spelled (k.Name (codes "define-syntax") false))) (g.part (g.atom (p 2 2 15 18) (g.spelled (k.Name (codes "tmp") false))) (g.part (g.list (p 3 28 19 76) (g.part (g.atom (p 4 4 20 32) (g.spelled (k.Name (codes "syntax-rules") false))) (g.part (g.list (p 5 6 33 35) g.none) (g.part (g.list (p 7 19 36 60) (g.part (g.list (p 8 13 37 48) (g.part (g.atom (p 9 9 38 39) (g.spelled (k.Name (codes "_") false))) (g.part (g.atom (p 10 10 40 41) (g.spelled (k.Name (codes "a") false))) (g.part (g.atom (p 11 11 42 45) (g.spelled (k.Name (codes "...") false))) (g.part (g.atom (p 12 12 46 47) (g.spelled (k.Name (codes "b") false))) g.none))))) (g.part (g.list (p 14 18 49 59) (g.part (g.atom (p 15 15 50 54) (g.spelled (k.Name (codes "set!") false))) (g.part (g.atom (p 16 16 55 56) (g.spelled (k.Name (codes "b") false))) (g.part (g.atom (p 17 17 57 58) (g.spelled (k.Name (codes "b") false))) g.none)))) g.none))) (g.part (g.list (p 20 27 61 75) (g.part (g.list (p 21 25 62 72) (g.part (g.atom (p 22 22 63 64) (g.spelled (k.Name (codes "_") false))) (g.tail (g.atom (p 24 24 67 71) (g.spelled (k.Name (codes "rest") false)))))) (g.part (g.atom (p 26 26 73 74) (g.spelled (k.Name (codes "g") false))) g.none))) g.none))))) g.none))))) ∷ ((g.list (p 30 67 78 181) (g.part (g.atom (p 31 31 79 84) (g.spelled (k.Name (codes "begin") false))) (g.part (g.list (p 32 62 85 171) (g.part (g.atom (p 33 33 86 99) (g.spelled (k.Name (codes "define-syntax") false))) (g.part (g.atom (p 34 34 100 101) (g.spelled (k.Name (codes "m") false))) (g.part (g.list (p 35 61 102 170) (g.part (g.atom (p 36 36 103 115) (g.spelled (k.Name (codes "syntax-rules") false))) (g.part (g.list (p 37 39 116 122) (g.part (g.atom (p 38 38 117 121) (g.spelled (k.Name (codes "else") false))) g.none)) (g.part (g.list (p 40 60 123 169) (g.part (g.list (p 41 46 124 138) (g.part (g.atom (p 42 42 125 126) (g.spelled (k.Name (codes "_") false))) (g.part (g.atom (p 43 43 127 131) (g.spelled (k.Name (codes "else") false))) (g.part (g.atom (p 44 44 132 133) (g.spelled (k.Name (codes "b") false))) (g.part (g.atom (p 45 45 134 137) (g.spelled (k.Name (codes "...") false))) g.none))))) (g.part (g.list (p 47 59 139 168) (g.part (g.atom (p 48 48 140 145) (g.spelled (k.Name (codes "begin") false))) (g.part (g.list (p 49 58 146 167) (g.part (g.atom (p 50 50 147 153) (g.spelled (k.Name (codes "define") false))) (g.part (g.atom (p 51 51 154 155) (g.spelled (k.Name (codes "a") false))) (g.part (g.list (p 52 57 156 166) (g.part (g.atom (p 53 53 157 159) (g.spelled (k.Name (codes "if") false))) (g.part (g.atom (p 54 54 160 161) (g.spelled (k.Name (codes "x") false))) (g.part (g.atom (p 55 55 162 163) (g.spelled (k.Name (codes "k") false))) (g.part (g.atom (p 56 56 164 165) (g.spelled (k.Name (codes "k") false))) g.none))))) g.none)))) g.none))) g.none))) g.none)))) g.none)))) (g.part (g.list (p 63 66 172 180) (g.part (g.atom (p 64 64 173 174) (g.spelled (k.Name (codes "m") false))) (g.part (g.atom (p 65 65 175 179) (g.spelled (k.Name (codes "else") false))) g.none))) g.none))))) ∷ [])) ∷ []) (((40 ∷ 100 ∷ 101 ∷ 102 ∷ 105 ∷ 110 ∷ 101 ∷ 45 ∷ 115 ∷ 121 ∷ 110 ∷ 116 ∷ 97 ∷ 120 ∷ 32 ∷ 116 ∷ 109 ∷ 112 ∷ 32 ∷ 40 ∷ 115 ∷ 121 ∷ 110 ∷ 116 ∷ 97 ∷ 120 ∷ 45 ∷ 114 ∷ 117 ∷ 108 ∷ 101 ∷ 115 ∷ 32 ∷ 40 ∷ 41 ∷ 32 ∷ 40 ∷ 40 ∷ 95 ∷ 32 ∷ 97 ∷ 32 ∷ 46 ∷ 46 ∷ 46 ∷ 32 ∷ 98 ∷ 41 ∷ 32 ∷ 40 ∷ 115 ∷ 101 ∷ 116 ∷ 33 ∷ 32 ∷ 98 ∷ 32 ∷ 98 ∷ 41 ∷ 41 ∷ 32 ∷ 40 ∷ 40 ∷ 95 ∷ 32 ∷ 46 ∷ 32 ∷ 114 ∷ 101 ∷ 115 ∷ 116 ∷ 41 ∷ 32 ∷ 103 ∷ 41 ∷ 41 ∷ 41 ∷ 10 ∷ 40 ∷ 98 ∷ 101 ∷ 103 ∷ 105 ∷ 110 ∷ 32 ∷ 40 ∷ 100 ∷ 101 ∷ 102 ∷ 105 ∷ 110 ∷ 101 ∷ 45 ∷ 115 ∷ 121 ∷ 110 ∷ 116 ∷ 97 ∷ 120 ∷ 32 ∷ 109 ∷ 32 ∷ 40 ∷ 115 ∷ 121 ∷ 110 ∷ 116 ∷ 97 ∷ 120 ∷ 45 ∷ 114 ∷ 117 ∷ 108 ∷ 101 ∷ 115 ∷ 32 ∷ 40 ∷ 101 ∷ 108 ∷ 115 ∷ 101 ∷ 41 ∷ 32 ∷ 40 ∷ 40 ∷ 95 ∷ 32 ∷ 101 ∷ 108 ∷ 115 ∷ 101 ∷ 32 ∷ 98 ∷ 32 ∷ 46 ∷ 46 ∷ 46 ∷ 41 ∷ 32 ∷ 40 ∷ 98 ∷ 101 ∷ 103 ∷ 105 ∷ 110 ∷ 32 ∷ 40 ∷ 100 ∷ 101 ∷ 102 ∷ 105 ∷ 110 ∷ 101 ∷ 32 ∷ 97 ∷ 32 ∷ 40 ∷ 105 ∷ 102 ∷ 32 ∷ 120 ∷ 32 ∷ 107 ∷ 32 ∷ 107 ∷ 41 ∷ 41 ∷ 41 ∷ 41 ∷ 41 ∷ 41 ∷ 32 ∷ 40 ∷ 109 ∷ 32 ∷ 101 ∷ 108 ∷ 115 ∷ 101 ∷ 41 ∷ 41 ∷ [])) ∷ []) 0 173 (codes "zz") ≡ (((e 100 101 (codes "zz")) ∷ (e 173 174 (codes "zz")) ∷ []) ∷ [])
unfolding base_names standard_libraries prelude encode_utf8 chars spelled is_numeral is_identifier is_initial is_subsequent ucd_category
renames-25 = refl

pub renames-26 : edit_rows (((s 0 1) ∷ (s 1 14) ∷ (s 15 18) ∷ (s 19 20) ∷ (s 20 32) ∷ (s 33 34) ∷ (s 34 35) ∷ (s 36 37) ∷ (s 37 38) ∷ (s 38 39) ∷ (s 40 41) ∷ (s 42 45) ∷ (s 46 47) ∷ (s 47 48) ∷ (s 49 50) ∷ (s 50 54) ∷ (s 55 56) ∷ (s 57 58) ∷ (s 58 59) ∷ (s 59 60) ∷ (s 61 62) ∷ (s 62 63) ∷ (s 63 64) ∷ (s 65 66) ∷ (s 67 71) ∷ (s 71 72) ∷ (s 73 74) ∷ (s 74 75) ∷ (s 75 76) ∷ (s 76 77) ∷ (s 78 79) ∷ (s 79 84) ∷ (s 85 86) ∷ (s 86 99) ∷ (s 100 101) ∷ (s 102 103) ∷ (s 103 115) ∷ (s 116 117) ∷ (s 117 121) ∷ (s 121 122) ∷ (s 123 124) ∷ (s 124 125) ∷ (s 125 126) ∷ (s 127 131) ∷ (s 132 133) ∷ (s 134 137) ∷ (s 137 138) ∷ (s 139 140) ∷ (s 140 145) ∷ (s 146 147) ∷ (s 147 153) ∷ (s 154 155) ∷ (s 156 157) ∷ (s 157 159) ∷ (s 160 161) ∷ (s 162 163) ∷ (s 164 165) ∷ (s 165 166) ∷ (s 166 167) ∷ (s 167 168) ∷ (s 168 169) ∷ (s 169 170) ∷ (s 170 171) ∷ (s 172 173) ∷ (s 173 174) ∷ (s 175 179) ∷ (s 179 180) ∷ (s 180 181) ∷ []) ∷ []) ((Some (((g.list (p 0 29 0 77) (g.part (g.atom (p 1 1 1 14) (g.spelled (k.Name (codes "define-syntax") false))) (g.part (g.atom (p 2 2 15 18) (g.spelled (k.Name (codes "tmp") false))) (g.part (g.list (p 3 28 19 76) (g.part (g.atom (p 4 4 20 32) (g.spelled (k.Name (codes "syntax-rules") false))) (g.part (g.list (p 5 6 33 35) g.none) (g.part (g.list (p 7 19 36 60) (g.part (g.list (p 8 13 37 48) (g.part (g.atom (p 9 9 38 39) (g.spelled (k.Name (codes "_") false))) (g.part (g.atom (p 10 10 40 41) (g.spelled (k.Name (codes "a") false))) (g.part (g.atom (p 11 11 42 45) (g.spelled (k.Name (codes "...") false))) (g.part (g.atom (p 12 12 46 47) (g.spelled (k.Name (codes "b") false))) g.none))))) (g.part (g.list (p 14 18 49 59) (g.part (g.atom (p 15 15 50 54) (g.spelled (k.Name (codes "set!") false))) (g.part (g.atom (p 16 16 55 56) (g.spelled (k.Name (codes "b") false))) (g.part (g.atom (p 17 17 57 58) (g.spelled (k.Name (codes "b") false))) g.none)))) g.none))) (g.part (g.list (p 20 27 61 75) (g.part (g.list (p 21 25 62 72) (g.part (g.atom (p 22 22 63 64) (g.spelled (k.Name (codes "_") false))) (g.tail (g.atom (p 24 24 67 71) (g.spelled (k.Name (codes "rest") false)))))) (g.part (g.atom (p 26 26 73 74) (g.spelled (k.Name (codes "g") false))) g.none))) g.none))))) g.none))))) ∷ ((g.list (p 30 67 78 181) (g.part (g.atom (p 31 31 79 84) (g.spelled (k.Name (codes "begin") false))) (g.part (g.list (p 32 62 85 171) (g.part (g.atom (p 33 33 86 99) (g.spelled (k.Name (codes "define-syntax") false))) (g.part (g.atom (p 34 34 100 101) (g.spelled (k.Name (codes "m") false))) (g.part (g.list (p 35 61 102 170) (g.part (g.atom (p 36 36 103 115) (g.spelled (k.Name (codes "syntax-rules") false))) (g.part (g.list (p 37 39 116 122) (g.part (g.atom (p 38 38 117 121) (g.spelled (k.Name (codes "else") false))) g.none)) (g.part (g.list (p 40 60 123 169) (g.part (g.list (p 41 46 124 138) (g.part (g.atom (p 42 42 125 126) (g.spelled (k.Name (codes "_") false))) (g.part (g.atom (p 43 43 127 131) (g.spelled (k.Name (codes "else") false))) (g.part (g.atom (p 44 44 132 133) (g.spelled (k.Name (codes "b") false))) (g.part (g.atom (p 45 45 134 137) (g.spelled (k.Name (codes "...") false))) g.none))))) (g.part (g.list (p 47 59 139 168) (g.part (g.atom (p 48 48 140 145) (g.spelled (k.Name (codes "begin") false))) (g.part (g.list (p 49 58 146 167) (g.part (g.atom (p 50 50 147 153) (g.spelled (k.Name (codes "define") false))) (g.part (g.atom (p 51 51 154 155) (g.spelled (k.Name (codes "a") false))) (g.part (g.list (p 52 57 156 166) (g.part (g.atom (p 53 53 157 159) (g.spelled (k.Name (codes "if") false))) (g.part (g.atom (p 54 54 160 161) (g.spelled (k.Name (codes "x") false))) (g.part (g.atom (p 55 55 162 163) (g.spelled (k.Name (codes "k") false))) (g.part (g.atom (p 56 56 164 165) (g.spelled (k.Name (codes "k") false))) g.none))))) g.none)))) g.none))) g.none))) g.none)))) g.none)))) (g.part (g.list (p 63 66 172 180) (g.part (g.atom (p 64 64 173 174) (g.spelled (k.Name (codes "m") false))) (g.part (g.atom (p 65 65 175 179) (g.spelled (k.Name (codes "else") false))) g.none))) g.none))))) ∷ [])) ∷ []) (((40 ∷ 100 ∷ 101 ∷ 102 ∷ 105 ∷ 110 ∷ 101 ∷ 45 ∷ 115 ∷ 121 ∷ 110 ∷ 116 ∷ 97 ∷ 120 ∷ 32 ∷ 116 ∷ 109 ∷ 112 ∷ 32 ∷ 40 ∷ 115 ∷ 121 ∷ 110 ∷ 116 ∷ 97 ∷ 120 ∷ 45 ∷ 114 ∷ 117 ∷ 108 ∷ 101 ∷ 115 ∷ 32 ∷ 40 ∷ 41 ∷ 32 ∷ 40 ∷ 40 ∷ 95 ∷ 32 ∷ 97 ∷ 32 ∷ 46 ∷ 46 ∷ 46 ∷ 32 ∷ 98 ∷ 41 ∷ 32 ∷ 40 ∷ 115 ∷ 101 ∷ 116 ∷ 33 ∷ 32 ∷ 98 ∷ 32 ∷ 98 ∷ 41 ∷ 41 ∷ 32 ∷ 40 ∷ 40 ∷ 95 ∷ 32 ∷ 46 ∷ 32 ∷ 114 ∷ 101 ∷ 115 ∷ 116 ∷ 41 ∷ 32 ∷ 103 ∷ 41 ∷ 41 ∷ 41 ∷ 10 ∷ 40 ∷ 98 ∷ 101 ∷ 103 ∷ 105 ∷ 110 ∷ 32 ∷ 40 ∷ 100 ∷ 101 ∷ 102 ∷ 105 ∷ 110 ∷ 101 ∷ 45 ∷ 115 ∷ 121 ∷ 110 ∷ 116 ∷ 97 ∷ 120 ∷ 32 ∷ 109 ∷ 32 ∷ 40 ∷ 115 ∷ 121 ∷ 110 ∷ 116 ∷ 97 ∷ 120 ∷ 45 ∷ 114 ∷ 117 ∷ 108 ∷ 101 ∷ 115 ∷ 32 ∷ 40 ∷ 101 ∷ 108 ∷ 115 ∷ 101 ∷ 41 ∷ 32 ∷ 40 ∷ 40 ∷ 95 ∷ 32 ∷ 101 ∷ 108 ∷ 115 ∷ 101 ∷ 32 ∷ 98 ∷ 32 ∷ 46 ∷ 46 ∷ 46 ∷ 41 ∷ 32 ∷ 40 ∷ 98 ∷ 101 ∷ 103 ∷ 105 ∷ 110 ∷ 32 ∷ 40 ∷ 100 ∷ 101 ∷ 102 ∷ 105 ∷ 110 ∷ 101 ∷ 32 ∷ 97 ∷ 32 ∷ 40 ∷ 105 ∷ 102 ∷ 32 ∷ 120 ∷ 32 ∷ 107 ∷ 32 ∷ 107 ∷ 41 ∷ 41 ∷ 41 ∷ 41 ∷ 41 ∷ 41 ∷ 32 ∷ 40 ∷ 109 ∷ 32 ∷ 101 ∷ 108 ∷ 115 ∷ 101 ∷ 41 ∷ 41 ∷ [])) ∷ []) 0 46 (codes "if") ≡ (((e 46 47 (codes "if")) ∷ (e 55 56 (codes "if")) ∷ (e 57 58 (codes "if")) ∷ []) ∷ [])
unfolding base_names standard_libraries prelude encode_utf8 chars spelled is_numeral is_identifier is_initial is_subsequent ucd_category
renames-26 = refl

pub renames-31 : edit_rows (((s 0 1) ∷ (s 1 7) ∷ (s 8 9) ∷ (s 9 15) ∷ (s 16 20) ∷ (s 20 21) ∷ (s 21 22) ∷ (s 23 24) ∷ (s 24 37) ∷ (s 38 39) ∷ (s 40 41) ∷ (s 41 53) ∷ (s 54 55) ∷ (s 55 56) ∷ (s 57 58) ∷ (s 58 59) ∷ (s 59 60) ∷ (s 61 62) ∷ (s 62 63) ∷ (s 64 67) ∷ (s 67 68) ∷ (s 69 72) ∷ (s 72 73) ∷ (s 74 75) ∷ (s 75 80) ∷ (s 81 82) ∷ (s 82 88) ∷ (s 89 90) ∷ (s 91 92) ∷ (s 92 96) ∷ (s 97 98) ∷ (s 98 101) ∷ (s 102 105) ∷ (s 105 106) ∷ (s 107 110) ∷ (s 111 112) ∷ (s 112 113) ∷ (s 113 114) ∷ (s 114 115) ∷ (s 115 116) ∷ (s 116 117) ∷ (s 117 118) ∷ (s 119 120) ∷ (s 121 122) ∷ (s 122 135) ∷ (s 136 137) ∷ (s 138 139) ∷ (s 139 151) ∷ (s 152 153) ∷ (s 153 154) ∷ (s 155 156) ∷ (s 156 157) ∷ (s 157 158) ∷ (s 159 160) ∷ (s 160 161) ∷ (s 162 165) ∷ (s 165 166) ∷ (s 167 170) ∷ (s 170 171) ∷ (s 172 173) ∷ (s 173 178) ∷ (s 179 180) ∷ (s 180 186) ∷ (s 187 188) ∷ (s 189 190) ∷ (s 190 200) ∷ (s 201 202) ∷ (s 202 203) ∷ (s 203 204) ∷ (s 205 206) ∷ (s 206 218) ∷ (s 219 220) ∷ (s 220 221) ∷ (s 222 223) ∷ (s 223 224) ∷ (s 224 225) ∷ (s 226 227) ∷ (s 227 228) ∷ (s 229 230) ∷ (s 230 234) ∷ (s 235 236) ∷ (s 237 238) ∷ (s 238 239) ∷ (s 239 240) ∷ (s 240 241) ∷ (s 241 242) ∷ (s 242 243) ∷ (s 244 245) ∷ (s 245 246) ∷ (s 247 248) ∷ (s 248 249) ∷ (s 249 250) ∷ (s 250 251) ∷ (s 252 253) ∷ (s 253 259) ∷ (s 260 261) ∷ (s 262 263) ∷ (s 263 264) ∷ (s 264 265) ∷ (s 265 266) ∷ (s 266 267) ∷ (s 267 268) ∷ (s 268 269) ∷ (s 269 270) ∷ []) ∷ []) ((Some (((g.list (p 0 6 0 22) (g.part (g.atom (p 1 1 1 7) (g.spelled (k.Name (codes "import") false))) (g.part (g.list (p 2 5 8 21) (g.part (g.atom (p 3 3 9 15) (g.spelled (k.Name (codes "scheme") false))) (g.part (g.atom (p 4 4 16 20) (g.spelled (k.Name (codes "base") false))) g.none))) g.none)))) ∷ ((g.list (p 7 41 23 118) (g.part (g.atom (p 8 8 24 37) (g.spelled (k.Name (codes "define-syntax") false))) (g.part (g.atom (p 9 9 38 39) (g.spelled (k.Name (codes "t") false))) (g.part (g.list (p 10 40 40 117) (g.part (g.atom (p 11 11 41 53) (g.spelled (k.Name (codes "syntax-rules") false))) (g.part (g.list (p 12 13 54 56) g.none) (g.part (g.list (p 14 39 57 116) (g.part (g.list (p 15 22 58 73) (g.part (g.atom (p 16 16 59 60) (g.spelled (k.Name (codes "_") false))) (g.part (g.list (p 17 20 61 68) (g.part (g.atom (p 18 18 62 63) (g.spelled (k.Name (codes "n") false))) (g.part (g.atom (p 19 19 64 67) (g.spelled (k.Name (codes "tmp") false))) g.none))) (g.part (g.atom (p 21 21 69 72) (g.spelled (k.Name (codes "...") false))) g.none)))) (g.part (g.list (p 23 38 74 115) (g.part (g.atom (p 24 24 75 80) (g.spelled (k.Name (codes "begin") false))) (g.part (g.list (p 25 37 81 114) (g.part (g.atom (p 26 26 82 88) (g.spelled (k.Name (codes "define") false))) (g.part (g.atom (p 27 27 89 90) (g.spelled (k.Name (codes "t") false))) (g.part (g.list (p 28 36 91 113) (g.part (g.atom (p 29 29 92 96) (g.spelled (k.Name (codes "list") false))) (g.part (g.list (p 30 33 97 106) (g.part (g.atom (p 31 31 98 101) (g.spelled (k.Name (codes "car") false))) (g.part (g.atom (p 32 32 102 105) (g.spelled (k.Name (codes "tmp") false))) g.none))) (g.part (g.atom (p 34 34 107 110) (g.spelled (k.Name (codes "...") false))) (g.part (g.atom (p 35 35 111 112) (g.spelled (k.Name (codes "y") false))) g.none))))) g.none)))) g.none))) g.none))) g.none)))) g.none))))) ∷ ((g.atom (p 42 42 119 120) (g.spelled (k.Numeral (codes "2"))))) ∷ ((g.list (p 43 103 121 270) (g.part (g.atom (p 44 44 122 135) (g.spelled (k.Name (codes "define-syntax") false))) (g.part (g.atom (p 45 45 136 137) (g.spelled (k.Name (codes "y") false))) (g.part (g.list (p 46 102 138 269) (g.part (g.atom (p 47 47 139 151) (g.spelled (k.Name (codes "syntax-rules") false))) (g.part (g.list (p 48 49 152 154) g.none) (g.part (g.list (p 50 101 155 268) (g.part (g.list (p 51 58 156 171) (g.part (g.atom (p 52 52 157 158) (g.spelled (k.Name (codes "_") false))) (g.part (g.list (p 53 56 159 166) (g.part (g.atom (p 54 54 160 161) (g.spelled (k.Name (codes "b") false))) (g.part (g.atom (p 55 55 162 165) (g.spelled (k.Name (codes "tmp") false))) g.none))) (g.part (g.atom (p 57 57 167 170) (g.spelled (k.Name (codes "...") false))) g.none)))) (g.part (g.list (p 59 100 172 267) (g.part (g.atom (p 60 60 173 178) (g.spelled (k.Name (codes "begin") false))) (g.part (g.list (p 61 92 179 251) (g.part (g.atom (p 62 62 180 186) (g.spelled (k.Name (codes "define") false))) (g.part (g.atom (p 63 63 187 188) (g.spelled (k.Name (codes "x") false))) (g.part (g.list (p 64 91 189 250) (g.part (g.atom (p 65 65 190 200) (g.spelled (k.Name (codes "let-syntax") false))) (g.part (g.list (p 66 86 201 243) (g.part (g.list (p 67 85 202 242) (g.part (g.atom (p 68 68 203 204) (g.spelled (k.Name (codes "x") false))) (g.part (g.list (p 69 84 205 241) (g.part (g.atom (p 70 70 206 218) (g.spelled (k.Name (codes "syntax-rules") false))) (g.part (g.list (p 71 72 219 221) g.none) (g.part (g.list (p 73 83 222 240) (g.part (g.list (p 74 77 223 228) (g.part (g.atom (p 75 75 224 225) (g.spelled (k.Name (codes "_") false))) (g.part (g.atom (p 76 76 226 227) (g.spelled (k.Name (codes "x") false))) g.none))) (g.part (g.list (p 78 82 229 239) (g.part (g.atom (p 79 79 230 234) (g.spelled (k.Name (codes "list") false))) (g.part (g.atom (p 80 80 235 236) (g.spelled (k.Name (codes "t") false))) (g.part (g.atom (p 81 81 237 238) (g.spelled (k.Name (codes "x") false))) g.none)))) g.none))) g.none)))) g.none))) g.none)) (g.part (g.list (p 87 90 244 249) (g.part (g.atom (p 88 88 245 246) (g.spelled (k.Name (codes "x") false))) (g.part (g.atom (p 89 89 247 248) (g.spelled (k.Name (codes "t") false))) g.none))) g.none)))) g.none)))) (g.part (g.list (p 93 99 252 266) (g.part (g.atom (p 94 94 253 259) (g.spelled (k.Name (codes "define") false))) (g.part (g.atom (p 95 95 260 261) (g.spelled (k.Name (codes "x") false))) (g.part (g.list (p 96 98 262 265) (g.part (g.atom (p 97 97 263 264) (g.spelled (k.Name (codes "t") false))) g.none)) g.none)))) g.none)))) g.none))) g.none)))) g.none))))) ∷ [])) ∷ []) (((40 ∷ 105 ∷ 109 ∷ 112 ∷ 111 ∷ 114 ∷ 116 ∷ 32 ∷ 40 ∷ 115 ∷ 99 ∷ 104 ∷ 101 ∷ 109 ∷ 101 ∷ 32 ∷ 98 ∷ 97 ∷ 115 ∷ 101 ∷ 41 ∷ 41 ∷ 10 ∷ 40 ∷ 100 ∷ 101 ∷ 102 ∷ 105 ∷ 110 ∷ 101 ∷ 45 ∷ 115 ∷ 121 ∷ 110 ∷ 116 ∷ 97 ∷ 120 ∷ 32 ∷ 116 ∷ 32 ∷ 40 ∷ 115 ∷ 121 ∷ 110 ∷ 116 ∷ 97 ∷ 120 ∷ 45 ∷ 114 ∷ 117 ∷ 108 ∷ 101 ∷ 115 ∷ 32 ∷ 40 ∷ 41 ∷ 32 ∷ 40 ∷ 40 ∷ 95 ∷ 32 ∷ 40 ∷ 110 ∷ 32 ∷ 116 ∷ 109 ∷ 112 ∷ 41 ∷ 32 ∷ 46 ∷ 46 ∷ 46 ∷ 41 ∷ 32 ∷ 40 ∷ 98 ∷ 101 ∷ 103 ∷ 105 ∷ 110 ∷ 32 ∷ 40 ∷ 100 ∷ 101 ∷ 102 ∷ 105 ∷ 110 ∷ 101 ∷ 32 ∷ 116 ∷ 32 ∷ 40 ∷ 108 ∷ 105 ∷ 115 ∷ 116 ∷ 32 ∷ 40 ∷ 99 ∷ 97 ∷ 114 ∷ 32 ∷ 116 ∷ 109 ∷ 112 ∷ 41 ∷ 32 ∷ 46 ∷ 46 ∷ 46 ∷ 32 ∷ 121 ∷ 41 ∷ 41 ∷ 41 ∷ 41 ∷ 41 ∷ 41 ∷ 10 ∷ 50 ∷ 10 ∷ 40 ∷ 100 ∷ 101 ∷ 102 ∷ 105 ∷ 110 ∷ 101 ∷ 45 ∷ 115 ∷ 121 ∷ 110 ∷ 116 ∷ 97 ∷ 120 ∷ 32 ∷ 121 ∷ 32 ∷ 40 ∷ 115 ∷ 121 ∷ 110 ∷ 116 ∷ 97 ∷ 120 ∷ 45 ∷ 114 ∷ 117 ∷ 108 ∷ 101 ∷ 115 ∷ 32 ∷ 40 ∷ 41 ∷ 32 ∷ 40 ∷ 40 ∷ 95 ∷ 32 ∷ 40 ∷ 98 ∷ 32 ∷ 116 ∷ 109 ∷ 112 ∷ 41 ∷ 32 ∷ 46 ∷ 46 ∷ 46 ∷ 41 ∷ 32 ∷ 40 ∷ 98 ∷ 101 ∷ 103 ∷ 105 ∷ 110 ∷ 32 ∷ 40 ∷ 100 ∷ 101 ∷ 102 ∷ 105 ∷ 110 ∷ 101 ∷ 32 ∷ 120 ∷ 32 ∷ 40 ∷ 108 ∷ 101 ∷ 116 ∷ 45 ∷ 115 ∷ 121 ∷ 110 ∷ 116 ∷ 97 ∷ 120 ∷ 32 ∷ 40 ∷ 40 ∷ 120 ∷ 32 ∷ 40 ∷ 115 ∷ 121 ∷ 110 ∷ 116 ∷ 97 ∷ 120 ∷ 45 ∷ 114 ∷ 117 ∷ 108 ∷ 101 ∷ 115 ∷ 32 ∷ 40 ∷ 41 ∷ 32 ∷ 40 ∷ 40 ∷ 95 ∷ 32 ∷ 120 ∷ 41 ∷ 32 ∷ 40 ∷ 108 ∷ 105 ∷ 115 ∷ 116 ∷ 32 ∷ 116 ∷ 32 ∷ 120 ∷ 41 ∷ 41 ∷ 41 ∷ 41 ∷ 41 ∷ 32 ∷ 40 ∷ 120 ∷ 32 ∷ 116 ∷ 41 ∷ 41 ∷ 41 ∷ 32 ∷ 40 ∷ 100 ∷ 101 ∷ 102 ∷ 105 ∷ 110 ∷ 101 ∷ 32 ∷ 120 ∷ 32 ∷ 40 ∷ 116 ∷ 41 ∷ 41 ∷ 41 ∷ 41 ∷ 41 ∷ 41 ∷ [])) ∷ []) 0 247 (codes "zz") ≡ (((e 38 39 (codes "zz")) ∷ (e 89 90 (codes "zz")) ∷ (e 235 236 (codes "zz")) ∷ (e 247 248 (codes "zz")) ∷ (e 263 264 (codes "zz")) ∷ []) ∷ [])
unfolding base_names standard_libraries prelude encode_utf8 chars spelled is_numeral is_identifier is_initial is_subsequent ucd_category
renames-31 = refl

pub renames-36 : edit_rows (((s 0 1) ∷ (s 1 7) ∷ (s 8 9) ∷ (s 9 15) ∷ (s 16 20) ∷ (s 20 21) ∷ (s 21 22) ∷ (s 23 24) ∷ (s 24 37) ∷ (s 38 39) ∷ (s 40 41) ∷ (s 41 53) ∷ (s 54 55) ∷ (s 55 56) ∷ (s 57 58) ∷ (s 58 59) ∷ (s 59 60) ∷ (s 61 62) ∷ (s 62 63) ∷ (s 64 67) ∷ (s 67 68) ∷ (s 69 72) ∷ (s 72 73) ∷ (s 74 75) ∷ (s 75 80) ∷ (s 81 82) ∷ (s 82 88) ∷ (s 89 90) ∷ (s 91 92) ∷ (s 92 96) ∷ (s 97 98) ∷ (s 98 101) ∷ (s 102 105) ∷ (s 105 106) ∷ (s 107 110) ∷ (s 111 112) ∷ (s 112 113) ∷ (s 113 114) ∷ (s 114 115) ∷ (s 115 116) ∷ (s 116 117) ∷ (s 117 118) ∷ (s 119 120) ∷ (s 121 122) ∷ (s 122 135) ∷ (s 136 137) ∷ (s 138 139) ∷ (s 139 151) ∷ (s 152 153) ∷ (s 153 154) ∷ (s 155 156) ∷ (s 156 157) ∷ (s 157 158) ∷ (s 159 160) ∷ (s 160 161) ∷ (s 162 165) ∷ (s 165 166) ∷ (s 167 170) ∷ (s 170 171) ∷ (s 172 173) ∷ (s 173 178) ∷ (s 179 180) ∷ (s 180 186) ∷ (s 187 188) ∷ (s 189 190) ∷ (s 190 200) ∷ (s 201 202) ∷ (s 202 203) ∷ (s 203 204) ∷ (s 205 206) ∷ (s 206 218) ∷ (s 219 220) ∷ (s 220 221) ∷ (s 222 223) ∷ (s 223 224) ∷ (s 224 225) ∷ (s 226 227) ∷ (s 227 228) ∷ (s 229 230) ∷ (s 230 234) ∷ (s 235 236) ∷ (s 237 238) ∷ (s 238 239) ∷ (s 239 240) ∷ (s 240 241) ∷ (s 241 242) ∷ (s 242 243) ∷ (s 244 245) ∷ (s 245 246) ∷ (s 247 248) ∷ (s 248 249) ∷ (s 249 250) ∷ (s 250 251) ∷ (s 252 253) ∷ (s 253 259) ∷ (s 260 261) ∷ (s 262 263) ∷ (s 263 264) ∷ (s 264 265) ∷ (s 265 266) ∷ (s 266 267) ∷ (s 267 268) ∷ (s 268 269) ∷ (s 269 270) ∷ []) ∷ []) ((Some (((g.list (p 0 6 0 22) (g.part (g.atom (p 1 1 1 7) (g.spelled (k.Name (codes "import") false))) (g.part (g.list (p 2 5 8 21) (g.part (g.atom (p 3 3 9 15) (g.spelled (k.Name (codes "scheme") false))) (g.part (g.atom (p 4 4 16 20) (g.spelled (k.Name (codes "base") false))) g.none))) g.none)))) ∷ ((g.list (p 7 41 23 118) (g.part (g.atom (p 8 8 24 37) (g.spelled (k.Name (codes "define-syntax") false))) (g.part (g.atom (p 9 9 38 39) (g.spelled (k.Name (codes "t") false))) (g.part (g.list (p 10 40 40 117) (g.part (g.atom (p 11 11 41 53) (g.spelled (k.Name (codes "syntax-rules") false))) (g.part (g.list (p 12 13 54 56) g.none) (g.part (g.list (p 14 39 57 116) (g.part (g.list (p 15 22 58 73) (g.part (g.atom (p 16 16 59 60) (g.spelled (k.Name (codes "_") false))) (g.part (g.list (p 17 20 61 68) (g.part (g.atom (p 18 18 62 63) (g.spelled (k.Name (codes "n") false))) (g.part (g.atom (p 19 19 64 67) (g.spelled (k.Name (codes "tmp") false))) g.none))) (g.part (g.atom (p 21 21 69 72) (g.spelled (k.Name (codes "...") false))) g.none)))) (g.part (g.list (p 23 38 74 115) (g.part (g.atom (p 24 24 75 80) (g.spelled (k.Name (codes "begin") false))) (g.part (g.list (p 25 37 81 114) (g.part (g.atom (p 26 26 82 88) (g.spelled (k.Name (codes "define") false))) (g.part (g.atom (p 27 27 89 90) (g.spelled (k.Name (codes "t") false))) (g.part (g.list (p 28 36 91 113) (g.part (g.atom (p 29 29 92 96) (g.spelled (k.Name (codes "list") false))) (g.part (g.list (p 30 33 97 106) (g.part (g.atom (p 31 31 98 101) (g.spelled (k.Name (codes "car") false))) (g.part (g.atom (p 32 32 102 105) (g.spelled (k.Name (codes "tmp") false))) g.none))) (g.part (g.atom (p 34 34 107 110) (g.spelled (k.Name (codes "...") false))) (g.part (g.atom (p 35 35 111 112) (g.spelled (k.Name (codes "y") false))) g.none))))) g.none)))) g.none))) g.none))) g.none)))) g.none))))) ∷ ((g.atom (p 42 42 119 120) (g.spelled (k.Numeral (codes "2"))))) ∷ ((g.list (p 43 103 121 270) (g.part (g.atom (p 44 44 122 135) (g.spelled (k.Name (codes "define-syntax") false))) (g.part (g.atom (p 45 45 136 137) (g.spelled (k.Name (codes "y") false))) (g.part (g.list (p 46 102 138 269) (g.part (g.atom (p 47 47 139 151) (g.spelled (k.Name (codes "syntax-rules") false))) (g.part (g.list (p 48 49 152 154) g.none) (g.part (g.list (p 50 101 155 268) (g.part (g.list (p 51 58 156 171) (g.part (g.atom (p 52 52 157 158) (g.spelled (k.Name (codes "_") false))) (g.part (g.list (p 53 56 159 166) (g.part (g.atom (p 54 54 160 161) (g.spelled (k.Name (codes "b") false))) (g.part (g.atom (p 55 55 162 165) (g.spelled (k.Name (codes "tmp") false))) g.none))) (g.part (g.atom (p 57 57 167 170) (g.spelled (k.Name (codes "...") false))) g.none)))) (g.part (g.list (p 59 100 172 267) (g.part (g.atom (p 60 60 173 178) (g.spelled (k.Name (codes "begin") false))) (g.part (g.list (p 61 92 179 251) (g.part (g.atom (p 62 62 180 186) (g.spelled (k.Name (codes "define") false))) (g.part (g.atom (p 63 63 187 188) (g.spelled (k.Name (codes "x") false))) (g.part (g.list (p 64 91 189 250) (g.part (g.atom (p 65 65 190 200) (g.spelled (k.Name (codes "let-syntax") false))) (g.part (g.list (p 66 86 201 243) (g.part (g.list (p 67 85 202 242) (g.part (g.atom (p 68 68 203 204) (g.spelled (k.Name (codes "x") false))) (g.part (g.list (p 69 84 205 241) (g.part (g.atom (p 70 70 206 218) (g.spelled (k.Name (codes "syntax-rules") false))) (g.part (g.list (p 71 72 219 221) g.none) (g.part (g.list (p 73 83 222 240) (g.part (g.list (p 74 77 223 228) (g.part (g.atom (p 75 75 224 225) (g.spelled (k.Name (codes "_") false))) (g.part (g.atom (p 76 76 226 227) (g.spelled (k.Name (codes "x") false))) g.none))) (g.part (g.list (p 78 82 229 239) (g.part (g.atom (p 79 79 230 234) (g.spelled (k.Name (codes "list") false))) (g.part (g.atom (p 80 80 235 236) (g.spelled (k.Name (codes "t") false))) (g.part (g.atom (p 81 81 237 238) (g.spelled (k.Name (codes "x") false))) g.none)))) g.none))) g.none)))) g.none))) g.none)) (g.part (g.list (p 87 90 244 249) (g.part (g.atom (p 88 88 245 246) (g.spelled (k.Name (codes "x") false))) (g.part (g.atom (p 89 89 247 248) (g.spelled (k.Name (codes "t") false))) g.none))) g.none)))) g.none)))) (g.part (g.list (p 93 99 252 266) (g.part (g.atom (p 94 94 253 259) (g.spelled (k.Name (codes "define") false))) (g.part (g.atom (p 95 95 260 261) (g.spelled (k.Name (codes "x") false))) (g.part (g.list (p 96 98 262 265) (g.part (g.atom (p 97 97 263 264) (g.spelled (k.Name (codes "t") false))) g.none)) g.none)))) g.none)))) g.none))) g.none)))) g.none))))) ∷ [])) ∷ []) (((40 ∷ 105 ∷ 109 ∷ 112 ∷ 111 ∷ 114 ∷ 116 ∷ 32 ∷ 40 ∷ 115 ∷ 99 ∷ 104 ∷ 101 ∷ 109 ∷ 101 ∷ 32 ∷ 98 ∷ 97 ∷ 115 ∷ 101 ∷ 41 ∷ 41 ∷ 10 ∷ 40 ∷ 100 ∷ 101 ∷ 102 ∷ 105 ∷ 110 ∷ 101 ∷ 45 ∷ 115 ∷ 121 ∷ 110 ∷ 116 ∷ 97 ∷ 120 ∷ 32 ∷ 116 ∷ 32 ∷ 40 ∷ 115 ∷ 121 ∷ 110 ∷ 116 ∷ 97 ∷ 120 ∷ 45 ∷ 114 ∷ 117 ∷ 108 ∷ 101 ∷ 115 ∷ 32 ∷ 40 ∷ 41 ∷ 32 ∷ 40 ∷ 40 ∷ 95 ∷ 32 ∷ 40 ∷ 110 ∷ 32 ∷ 116 ∷ 109 ∷ 112 ∷ 41 ∷ 32 ∷ 46 ∷ 46 ∷ 46 ∷ 41 ∷ 32 ∷ 40 ∷ 98 ∷ 101 ∷ 103 ∷ 105 ∷ 110 ∷ 32 ∷ 40 ∷ 100 ∷ 101 ∷ 102 ∷ 105 ∷ 110 ∷ 101 ∷ 32 ∷ 116 ∷ 32 ∷ 40 ∷ 108 ∷ 105 ∷ 115 ∷ 116 ∷ 32 ∷ 40 ∷ 99 ∷ 97 ∷ 114 ∷ 32 ∷ 116 ∷ 109 ∷ 112 ∷ 41 ∷ 32 ∷ 46 ∷ 46 ∷ 46 ∷ 32 ∷ 121 ∷ 41 ∷ 41 ∷ 41 ∷ 41 ∷ 41 ∷ 41 ∷ 10 ∷ 50 ∷ 10 ∷ 40 ∷ 100 ∷ 101 ∷ 102 ∷ 105 ∷ 110 ∷ 101 ∷ 45 ∷ 115 ∷ 121 ∷ 110 ∷ 116 ∷ 97 ∷ 120 ∷ 32 ∷ 121 ∷ 32 ∷ 40 ∷ 115 ∷ 121 ∷ 110 ∷ 116 ∷ 97 ∷ 120 ∷ 45 ∷ 114 ∷ 117 ∷ 108 ∷ 101 ∷ 115 ∷ 32 ∷ 40 ∷ 41 ∷ 32 ∷ 40 ∷ 40 ∷ 95 ∷ 32 ∷ 40 ∷ 98 ∷ 32 ∷ 116 ∷ 109 ∷ 112 ∷ 41 ∷ 32 ∷ 46 ∷ 46 ∷ 46 ∷ 41 ∷ 32 ∷ 40 ∷ 98 ∷ 101 ∷ 103 ∷ 105 ∷ 110 ∷ 32 ∷ 40 ∷ 100 ∷ 101 ∷ 102 ∷ 105 ∷ 110 ∷ 101 ∷ 32 ∷ 120 ∷ 32 ∷ 40 ∷ 108 ∷ 101 ∷ 116 ∷ 45 ∷ 115 ∷ 121 ∷ 110 ∷ 116 ∷ 97 ∷ 120 ∷ 32 ∷ 40 ∷ 40 ∷ 120 ∷ 32 ∷ 40 ∷ 115 ∷ 121 ∷ 110 ∷ 116 ∷ 97 ∷ 120 ∷ 45 ∷ 114 ∷ 117 ∷ 108 ∷ 101 ∷ 115 ∷ 32 ∷ 40 ∷ 41 ∷ 32 ∷ 40 ∷ 40 ∷ 95 ∷ 32 ∷ 120 ∷ 41 ∷ 32 ∷ 40 ∷ 108 ∷ 105 ∷ 115 ∷ 116 ∷ 32 ∷ 116 ∷ 32 ∷ 120 ∷ 41 ∷ 41 ∷ 41 ∷ 41 ∷ 41 ∷ 32 ∷ 40 ∷ 120 ∷ 32 ∷ 116 ∷ 41 ∷ 41 ∷ 41 ∷ 32 ∷ 40 ∷ 100 ∷ 101 ∷ 102 ∷ 105 ∷ 110 ∷ 101 ∷ 32 ∷ 120 ∷ 32 ∷ 40 ∷ 116 ∷ 41 ∷ 41 ∷ 41 ∷ 41 ∷ 41 ∷ 41 ∷ [])) ∷ []) 0 64 (codes "zz") ≡ (((e 64 67 (codes "zz")) ∷ (e 102 105 (codes "zz")) ∷ []) ∷ [])
unfolding base_names standard_libraries prelude encode_utf8 chars spelled is_numeral is_identifier is_initial is_subsequent ucd_category
renames-36 = refl

pub renames-37 : edit_rows (((s 0 1) ∷ (s 1 15) ∷ (s 16 17) ∷ (s 17 19) ∷ (s 19 20) ∷ (s 22 23) ∷ (s 23 29) ∷ (s 30 31) ∷ (s 31 32) ∷ (s 34 35) ∷ (s 35 41) ∷ (s 42 43) ∷ (s 43 49) ∷ (s 50 54) ∷ (s 54 55) ∷ (s 55 56) ∷ (s 58 59) ∷ (s 59 64) ∷ (s 67 68) ∷ (s 68 69) ∷ (s 72 73) ∷ (s 73 84) ∷ (s 85 86) ∷ (s 86 87) ∷ (s 87 89) ∷ (s 90 94) ∷ (s 95 99) ∷ (s 99 100) ∷ (s 101 102) ∷ (s 102 115) ∷ (s 116 117) ∷ (s 117 118) ∷ (s 119 120) ∷ (s 120 121) ∷ (s 122 123) ∷ (s 123 124) ∷ (s 124 125) ∷ (s 126 127) ∷ (s 127 131) ∷ (s 132 133) ∷ (s 133 139) ∷ (s 140 141) ∷ (s 142 143) ∷ (s 143 146) ∷ (s 147 148) ∷ (s 148 149) ∷ (s 149 150) ∷ (s 151 152) ∷ (s 152 153) ∷ (s 153 154) ∷ (s 155 156) ∷ (s 156 157) ∷ (s 158 159) ∷ (s 160 162) ∷ (s 162 163) ∷ (s 164 165) ∷ (s 166 167) ∷ (s 167 180) ∷ (s 181 182) ∷ (s 183 184) ∷ (s 184 196) ∷ (s 197 198) ∷ (s 198 200) ∷ (s 200 201) ∷ (s 202 203) ∷ (s 203 204) ∷ (s 204 205) ∷ (s 206 207) ∷ (s 208 210) ∷ (s 210 211) ∷ (s 212 213) ∷ (s 213 218) ∷ (s 219 220) ∷ (s 220 226) ∷ (s 227 228) ∷ (s 229 230) ∷ (s 230 231) ∷ (s 232 233) ∷ (s 233 239) ∷ (s 240 241) ∷ (s 242 243) ∷ (s 243 249) ∷ (s 250 251) ∷ (s 251 252) ∷ (s 252 253) ∷ (s 254 255) ∷ (s 255 261) ∷ (s 262 263) ∷ (s 264 265) ∷ (s 265 266) ∷ (s 267 268) ∷ (s 268 269) ∷ (s 269 270) ∷ (s 270 271) ∷ (s 271 272) ∷ (s 272 273) ∷ (s 273 274) ∷ (s 275 276) ∷ (s 276 277) ∷ (s 277 278) ∷ (s 278 279) ∷ (s 279 280) ∷ (s 280 281) ∷ (s 281 282) ∷ []) ∷ ((s 0 1) ∷ (s 1 7) ∷ (s 8 9) ∷ (s 9 15) ∷ (s 16 20) ∷ (s 20 21) ∷ (s 21 22) ∷ (s 23 24) ∷ (s 24 26) ∷ (s 26 27) ∷ (s 28 29) ∷ (s 29 40) ∷ (s 41 42) ∷ (s 42 43) ∷ (s 43 45) ∷ (s 46 50) ∷ (s 51 55) ∷ (s 55 56) ∷ (s 57 58) ∷ (s 58 64) ∷ (s 65 66) ∷ (s 67 68) ∷ (s 68 69) ∷ (s 69 70) ∷ (s 70 71) ∷ (s 71 72) ∷ (s 73 74) ∷ (s 74 78) ∷ (s 79 80) ∷ (s 80 86) ∷ (s 87 88) ∷ (s 89 90) ∷ (s 90 94) ∷ (s 95 96) ∷ (s 96 97) ∷ (s 97 98) ∷ (s 99 100) ∷ (s 100 101) ∷ (s 102 103) ∷ (s 103 104) ∷ (s 105 108) ∷ (s 109 110) ∷ (s 110 111) ∷ (s 111 112) ∷ (s 113 114) ∷ (s 114 115) ∷ (s 115 125) ∷ (s 126 127) ∷ (s 127 128) ∷ (s 128 129) ∷ (s 129 130) ∷ (s 131 132) ∷ (s 132 133) ∷ (s 134 136) ∷ (s 136 137) ∷ (s 137 138) ∷ (s 139 140) ∷ (s 140 141) ∷ (s 142 144) ∷ (s 145 146) ∷ (s 146 149) ∷ (s 150 151) ∷ (s 151 152) ∷ (s 152 153) ∷ (s 154 155) ∷ (s 155 156) ∷ (s 156 157) ∷ (s 158 159) ∷ (s 159 172) ∷ (s 173 174) ∷ (s 174 175) ∷ (s 176 177) ∷ (s 177 178) ∷ (s 179 180) ∷ (s 180 181) ∷ (s 182 183) ∷ (s 184 185) ∷ (s 185 186) ∷ (s 186 187) ∷ (s 188 189) ∷ (s 189 193) ∷ (s 194 195) ∷ (s 195 198) ∷ (s 199 200) ∷ (s 200 201) ∷ (s 202 203) ∷ (s 204 205) ∷ (s 205 206) ∷ (s 206 207) ∷ (s 207 208) ∷ (s 208 209) ∷ (s 209 210) ∷ (s 210 211) ∷ []) ∷ []) ((Some (((g.list (p 0 103 0 282) (g.part (g.atom (p 1 1 1 15) (g.spelled (k.Name (codes "define-library") false))) (g.part (g.list (p 2 4 16 20) (g.part (g.atom (p 3 3 17 19) (g.spelled (k.Name (codes "l0") false))) g.none)) (g.part (g.list (p 5 8 22 32) (g.part (g.atom (p 6 6 23 29) (g.spelled (k.Name (codes "export") false))) (g.part (g.atom (p 7 7 30 31) (g.spelled (k.Name (codes "t") false))) g.none))) (g.part (g.list (p 9 15 34 56) (g.part (g.atom (p 10 10 35 41) (g.spelled (k.Name (codes "import") false))) (g.part (g.list (p 11 14 42 55) (g.part (g.atom (p 12 12 43 49) (g.spelled (k.Name (codes "scheme") false))) (g.part (g.atom (p 13 13 50 54) (g.spelled (k.Name (codes "base") false))) g.none))) g.none))) (g.part (g.list (p 16 102 58 281) (g.part (g.atom (p 17 17 59 64) (g.spelled (k.Name (codes "begin") false))) (g.part (g.list (p 18 19 67 69) (g.part (g.atom (p 18 18 67 68) (g.implied k.Quote)) (g.part (g.atom (p 19 19 68 69) (g.spelled (k.Name (codes "y") false))) g.none))) (g.part (g.list (p 20 101 72 280) (g.part (g.atom (p 21 21 73 84) (g.spelled (k.Name (codes "cond-expand") false))) (g.part (g.list (p 22 36 85 125) (g.part (g.list (p 23 27 86 100) (g.part (g.atom (p 24 24 87 89) (g.spelled (k.Name (codes "or") false))) (g.part (g.atom (p 25 25 90 94) (g.spelled (k.Name (codes "full") false))) (g.part (g.atom (p 26 26 95 99) (g.spelled (k.Name (codes "r7rs") false))) g.none)))) (g.part (g.list (p 28 35 101 124) (g.part (g.atom (p 29 29 102 115) (g.spelled (k.Name (codes "define-values") false))) (g.part (g.list (p 30 33 116 121) (g.part (g.atom (p 31 31 117 118) (g.spelled (k.Name (codes "y") false))) (g.part (g.atom (p 32 32 119 120) (g.spelled (k.Name (codes "t") false))) g.none))) (g.part (g.atom (p 34 34 122 123) (g.spelled (k.Numeral (codes "2")))) g.none)))) g.none))) (g.part (g.list (p 37 100 126 279) (g.part (g.atom (p 38 38 127 131) (g.spelled (k.Name (codes "else") false))) (g.part (g.list (p 39 99 132 278) (g.part (g.atom (p 40 40 133 139) (g.spelled (k.Name (codes "define") false))) (g.part (g.atom (p 41 41 140 141) (g.spelled (k.Name (codes "t") false))) (g.part (g.list (p 42 98 142 277) (g.part (g.atom (p 43 43 143 146) (g.spelled (k.Name (codes "let") false))) (g.part (g.list (p 44 49 147 154) (g.part (g.list (p 45 48 148 153) (g.part (g.atom (p 46 46 149 150) (g.spelled (k.Name (codes "a") false))) (g.part (g.atom (p 47 47 151 152) (g.spelled (k.Name (codes "y") false))) g.none))) g.none)) (g.part (g.list (p 50 54 155 163) (g.part (g.atom (p 51 51 156 157) (g.spelled (k.Name (codes "y") false))) (g.part (g.atom (p 52 52 158 159) (g.spelled (k.Numeral (codes "1")))) (g.part (g.atom (p 53 53 160 162) (g.spelled (k.Name (codes "in") false))) g.none)))) (g.part (g.atom (p 55 55 164 165) (g.spelled (k.Name (codes "b") false))) (g.part (g.list (p 56 96 166 274) (g.part (g.atom (p 57 57 167 180) (g.spelled (k.Name (codes "define-syntax") false))) (g.part (g.atom (p 58 58 181 182) (g.spelled (k.Name (codes "y") false))) (g.part (g.list (p 59 95 183 273) (g.part (g.atom (p 60 60 184 196) (g.spelled (k.Name (codes "syntax-rules") false))) (g.part (g.list (p 61 63 197 201) (g.part (g.atom (p 62 62 198 200) (g.spelled (k.Name (codes "in") false))) g.none)) (g.part (g.list (p 64 94 202 272) (g.part (g.list (p 65 69 203 211) (g.part (g.atom (p 66 66 204 205) (g.spelled (k.Name (codes "_") false))) (g.part (g.atom (p 67 67 206 207) (g.spelled (k.Name (codes "q") false))) (g.part (g.atom (p 68 68 208 210) (g.spelled (k.Name (codes "in") false))) g.none)))) (g.part (g.list (p 70 93 212 271) (g.part (g.atom (p 71 71 213 218) (g.spelled (k.Name (codes "begin") false))) (g.part (g.list (p 72 76 219 231) (g.part (g.atom (p 73 73 220 226) (g.spelled (k.Name (codes "define") false))) (g.part (g.atom (p 74 74 227 228) (g.spelled (k.Name (codes "q") false))) (g.part (g.atom (p 75 75 229 230) (g.spelled (k.Name (codes "a") false))) g.none)))) (g.part (g.list (p 77 92 232 270) (g.part (g.atom (p 78 78 233 239) (g.spelled (k.Name (codes "define") false))) (g.part (g.atom (p 79 79 240 241) (g.spelled (k.Name (codes "x") false))) (g.part (g.list (p 80 91 242 269) (g.part (g.atom (p 81 81 243 249) (g.spelled (k.Name (codes "lambda") false))) (g.part (g.list (p 82 84 250 253) (g.part (g.atom (p 83 83 251 252) (g.spelled (k.Name (codes "q") false))) g.none)) (g.part (g.list (p 85 89 254 266) (g.part (g.atom (p 86 86 255 261) (g.spelled (k.Name (codes "define") false))) (g.part (g.atom (p 87 87 262 263) (g.spelled (k.Name (codes "y") false))) (g.part (g.atom (p 88 88 264 265) (g.spelled (k.Name (codes "q") false))) g.none)))) (g.part (g.atom (p 90 90 267 268) (g.spelled (k.Name (codes "t") false))) g.none))))) g.none)))) g.none)))) g.none))) g.none)))) g.none)))) (g.part (g.atom (p 97 97 275 276) (g.spelled (k.Name (codes "y") false))) g.none))))))) g.none)))) g.none))) g.none)))) g.none)))) g.none))))))) ∷ [])) ∷ (Some (((g.list (p 0 6 0 22) (g.part (g.atom (p 1 1 1 7) (g.spelled (k.Name (codes "import") false))) (g.part (g.list (p 2 5 8 21) (g.part (g.atom (p 3 3 9 15) (g.spelled (k.Name (codes "scheme") false))) (g.part (g.atom (p 4 4 16 20) (g.spelled (k.Name (codes "base") false))) g.none))) g.none)))) ∷ ((g.list (p 7 9 23 27) (g.part (g.atom (p 7 7 23 24) (g.implied k.Quote)) (g.part (g.vector (p 8 9 24 27) g.none) g.none)))) ∷ ((g.list (p 10 92 28 211) (g.part (g.atom (p 11 11 29 40) (g.spelled (k.Name (codes "cond-expand") false))) (g.part (g.list (p 12 25 41 72) (g.part (g.list (p 13 17 42 56) (g.part (g.atom (p 14 14 43 45) (g.spelled (k.Name (codes "or") false))) (g.part (g.atom (p 15 15 46 50) (g.spelled (k.Name (codes "full") false))) (g.part (g.atom (p 16 16 51 55) (g.spelled (k.Name (codes "r7rs") false))) g.none)))) (g.part (g.list (p 18 24 57 71) (g.part (g.atom (p 19 19 58 64) (g.spelled (k.Name (codes "define") false))) (g.part (g.atom (p 20 20 65 66) (g.spelled (k.Name (codes "y") false))) (g.part (g.list (p 21 23 67 70) (g.part (g.atom (p 22 22 68 69) (g.spelled (k.Name (codes "b") false))) g.none)) g.none)))) g.none))) (g.part (g.list (p 26 91 73 210) (g.part (g.atom (p 27 27 74 78) (g.spelled (k.Name (codes "else") false))) (g.part (g.list (p 28 90 79 209) (g.part (g.atom (p 29 29 80 86) (g.spelled (k.Name (codes "define") false))) (g.part (g.atom (p 30 30 87 88) (g.spelled (k.Name (codes "t") false))) (g.part (g.list (p 31 89 89 208) (g.part (g.atom (p 32 32 90 94) (g.spelled (k.Name (codes "cond") false))) (g.part (g.list (p 33 43 95 112) (g.part (g.list (p 34 37 96 101) (g.part (g.atom (p 35 35 97 98) (g.spelled (k.Numeral (codes "2")))) (g.part (g.atom (p 36 36 99 100) (g.spelled (k.Name (codes "x") false))) g.none))) (g.part (g.list (p 38 42 102 111) (g.part (g.atom (p 39 39 103 104) (g.spelled (k.Name (codes "y") false))) (g.part (g.atom (p 40 40 105 108) (g.spelled (k.Character 99))) (g.part (g.atom (p 41 41 109 110) (g.spelled (k.Name (codes "x") false))) g.none)))) g.none))) (g.part (g.list (p 44 78 113 187) (g.part (g.list (p 45 57 114 141) (g.part (g.atom (p 46 46 115 125) (g.spelled (k.Name (codes "let-values") false))) (g.part (g.list (p 47 55 126 138) (g.part (g.list (p 48 54 127 137) (g.part (g.list (p 49 52 128 133) (g.part (g.atom (p 50 50 129 130) (g.spelled (k.Name (codes "b") false))) (g.part (g.atom (p 51 51 131 132) (g.spelled (k.Name (codes "x") false))) g.none))) (g.part (g.atom (p 53 53 134 136) (g.spelled (k.Truth true))) g.none))) g.none)) (g.part (g.atom (p 56 56 139 140) (g.spelled (k.Name (codes "x") false))) g.none)))) (g.part (g.atom (p 58 58 142 144) (g.spelled (k.Name (codes "=>") false))) (g.part (g.list (p 59 77 145 186) (g.part (g.atom (p 60 60 146 149) (g.spelled (k.Name (codes "let") false))) (g.part (g.list (p 61 66 150 157) (g.part (g.list (p 62 65 151 156) (g.part (g.atom (p 63 63 152 153) (g.spelled (k.Name (codes "x") false))) (g.part (g.atom (p 64 64 154 155) (g.spelled (k.Name (codes "x") false))) g.none))) g.none)) (g.part (g.list (p 67 74 158 181) (g.part (g.atom (p 68 68 159 172) (g.spelled (k.Name (codes "define-values") false))) (g.part (g.list (p 69 72 173 178) (g.part (g.atom (p 70 70 174 175) (g.spelled (k.Name (codes "y") false))) (g.part (g.atom (p 71 71 176 177) (g.spelled (k.Name (codes "b") false))) g.none))) (g.part (g.atom (p 73 73 179 180) (g.spelled (k.Name (codes "t") false))) g.none)))) (g.part (g.atom (p 75 75 182 183) (g.spelled (k.Name (codes "t") false))) (g.part (g.atom (p 76 76 184 185) (g.spelled (k.Name (codes "a") false))) g.none)))))) g.none)))) (g.part (g.list (p 79 88 188 207) (g.part (g.atom (p 80 80 189 193) (g.spelled (k.Name (codes "else") false))) (g.part (g.list (p 81 87 194 206) (g.part (g.atom (p 82 82 195 198) (g.spelled (k.Name (codes "let") false))) (g.part (g.list (p 83 84 199 201) g.none) (g.part (g.atom (p 85 85 202 203) (g.spelled (k.Name (codes "a") false))) (g.part (g.atom (p 86 86 204 205) (g.spelled (k.Name (codes "b") false))) g.none))))) g.none))) g.none))))) g.none)))) g.none))) g.none))))) ∷ [])) ∷ []) (((40 ∷ 100 ∷ 101 ∷ 102 ∷ 105 ∷ 110 ∷ 101 ∷ 45 ∷ 108 ∷ 105 ∷ 98 ∷ 114 ∷ 97 ∷ 114 ∷ 121 ∷ 32 ∷ 40 ∷ 108 ∷ 48 ∷ 41 ∷ 10 ∷ 32 ∷ 40 ∷ 101 ∷ 120 ∷ 112 ∷ 111 ∷ 114 ∷ 116 ∷ 32 ∷ 116 ∷ 41 ∷ 10 ∷ 32 ∷ 40 ∷ 105 ∷ 109 ∷ 112 ∷ 111 ∷ 114 ∷ 116 ∷ 32 ∷ 40 ∷ 115 ∷ 99 ∷ 104 ∷ 101 ∷ 109 ∷ 101 ∷ 32 ∷ 98 ∷ 97 ∷ 115 ∷ 101 ∷ 41 ∷ 41 ∷ 10 ∷ 32 ∷ 40 ∷ 98 ∷ 101 ∷ 103 ∷ 105 ∷ 110 ∷ 10 ∷ 32 ∷ 32 ∷ 39 ∷ 121 ∷ 10 ∷ 32 ∷ 32 ∷ 40 ∷ 99 ∷ 111 ∷ 110 ∷ 100 ∷ 45 ∷ 101 ∷ 120 ∷ 112 ∷ 97 ∷ 110 ∷ 100 ∷ 32 ∷ 40 ∷ 40 ∷ 111 ∷ 114 ∷ 32 ∷ 102 ∷ 117 ∷ 108 ∷ 108 ∷ 32 ∷ 114 ∷ 55 ∷ 114 ∷ 115 ∷ 41 ∷ 32 ∷ 40 ∷ 100 ∷ 101 ∷ 102 ∷ 105 ∷ 110 ∷ 101 ∷ 45 ∷ 118 ∷ 97 ∷ 108 ∷ 117 ∷ 101 ∷ 115 ∷ 32 ∷ 40 ∷ 121 ∷ 32 ∷ 116 ∷ 41 ∷ 32 ∷ 50 ∷ 41 ∷ 41 ∷ 32 ∷ 40 ∷ 101 ∷ 108 ∷ 115 ∷ 101 ∷ 32 ∷ 40 ∷ 100 ∷ 101 ∷ 102 ∷ 105 ∷ 110 ∷ 101 ∷ 32 ∷ 116 ∷ 32 ∷ 40 ∷ 108 ∷ 101 ∷ 116 ∷ 32 ∷ 40 ∷ 40 ∷ 97 ∷ 32 ∷ 121 ∷ 41 ∷ 41 ∷ 32 ∷ 40 ∷ 121 ∷ 32 ∷ 49 ∷ 32 ∷ 105 ∷ 110 ∷ 41 ∷ 32 ∷ 98 ∷ 32 ∷ 40 ∷ 100 ∷ 101 ∷ 102 ∷ 105 ∷ 110 ∷ 101 ∷ 45 ∷ 115 ∷ 121 ∷ 110 ∷ 116 ∷ 97 ∷ 120 ∷ 32 ∷ 121 ∷ 32 ∷ 40 ∷ 115 ∷ 121 ∷ 110 ∷ 116 ∷ 97 ∷ 120 ∷ 45 ∷ 114 ∷ 117 ∷ 108 ∷ 101 ∷ 115 ∷ 32 ∷ 40 ∷ 105 ∷ 110 ∷ 41 ∷ 32 ∷ 40 ∷ 40 ∷ 95 ∷ 32 ∷ 113 ∷ 32 ∷ 105 ∷ 110 ∷ 41 ∷ 32 ∷ 40 ∷ 98 ∷ 101 ∷ 103 ∷ 105 ∷ 110 ∷ 32 ∷ 40 ∷ 100 ∷ 101 ∷ 102 ∷ 105 ∷ 110 ∷ 101 ∷ 32 ∷ 113 ∷ 32 ∷ 97 ∷ 41 ∷ 32 ∷ 40 ∷ 100 ∷ 101 ∷ 102 ∷ 105 ∷ 110 ∷ 101 ∷ 32 ∷ 120 ∷ 32 ∷ 40 ∷ 108 ∷ 97 ∷ 109 ∷ 98 ∷ 100 ∷ 97 ∷ 32 ∷ 40 ∷ 113 ∷ 41 ∷ 32 ∷ 40 ∷ 100 ∷ 101 ∷ 102 ∷ 105 ∷ 110 ∷ 101 ∷ 32 ∷ 121 ∷ 32 ∷ 113 ∷ 41 ∷ 32 ∷ 116 ∷ 41 ∷ 41 ∷ 41 ∷ 41 ∷ 41 ∷ 41 ∷ 32 ∷ 121 ∷ 41 ∷ 41 ∷ 41 ∷ 41 ∷ 41 ∷ 41 ∷ [])) ∷ ((40 ∷ 105 ∷ 109 ∷ 112 ∷ 111 ∷ 114 ∷ 116 ∷ 32 ∷ 40 ∷ 115 ∷ 99 ∷ 104 ∷ 101 ∷ 109 ∷ 101 ∷ 32 ∷ 98 ∷ 97 ∷ 115 ∷ 101 ∷ 41 ∷ 41 ∷ 10 ∷ 39 ∷ 35 ∷ 40 ∷ 41 ∷ 10 ∷ 40 ∷ 99 ∷ 111 ∷ 110 ∷ 100 ∷ 45 ∷ 101 ∷ 120 ∷ 112 ∷ 97 ∷ 110 ∷ 100 ∷ 32 ∷ 40 ∷ 40 ∷ 111 ∷ 114 ∷ 32 ∷ 102 ∷ 117 ∷ 108 ∷ 108 ∷ 32 ∷ 114 ∷ 55 ∷ 114 ∷ 115 ∷ 41 ∷ 32 ∷ 40 ∷ 100 ∷ 101 ∷ 102 ∷ 105 ∷ 110 ∷ 101 ∷ 32 ∷ 121 ∷ 32 ∷ 40 ∷ 98 ∷ 41 ∷ 41 ∷ 41 ∷ 32 ∷ 40 ∷ 101 ∷ 108 ∷ 115 ∷ 101 ∷ 32 ∷ 40 ∷ 100 ∷ 101 ∷ 102 ∷ 105 ∷ 110 ∷ 101 ∷ 32 ∷ 116 ∷ 32 ∷ 40 ∷ 99 ∷ 111 ∷ 110 ∷ 100 ∷ 32 ∷ 40 ∷ 40 ∷ 50 ∷ 32 ∷ 120 ∷ 41 ∷ 32 ∷ 40 ∷ 121 ∷ 32 ∷ 35 ∷ 92 ∷ 99 ∷ 32 ∷ 120 ∷ 41 ∷ 41 ∷ 32 ∷ 40 ∷ 40 ∷ 108 ∷ 101 ∷ 116 ∷ 45 ∷ 118 ∷ 97 ∷ 108 ∷ 117 ∷ 101 ∷ 115 ∷ 32 ∷ 40 ∷ 40 ∷ 40 ∷ 98 ∷ 32 ∷ 120 ∷ 41 ∷ 32 ∷ 35 ∷ 116 ∷ 41 ∷ 41 ∷ 32 ∷ 120 ∷ 41 ∷ 32 ∷ 61 ∷ 62 ∷ 32 ∷ 40 ∷ 108 ∷ 101 ∷ 116 ∷ 32 ∷ 40 ∷ 40 ∷ 120 ∷ 32 ∷ 120 ∷ 41 ∷ 41 ∷ 32 ∷ 40 ∷ 100 ∷ 101 ∷ 102 ∷ 105 ∷ 110 ∷ 101 ∷ 45 ∷ 118 ∷ 97 ∷ 108 ∷ 117 ∷ 101 ∷ 115 ∷ 32 ∷ 40 ∷ 121 ∷ 32 ∷ 98 ∷ 41 ∷ 32 ∷ 116 ∷ 41 ∷ 32 ∷ 116 ∷ 32 ∷ 97 ∷ 41 ∷ 41 ∷ 32 ∷ 40 ∷ 101 ∷ 108 ∷ 115 ∷ 101 ∷ 32 ∷ 40 ∷ 108 ∷ 101 ∷ 116 ∷ 32 ∷ 40 ∷ 41 ∷ 32 ∷ 97 ∷ 32 ∷ 98 ∷ 41 ∷ 41 ∷ 41 ∷ 41 ∷ 41 ∷ 41 ∷ [])) ∷ []) 0 119 (codes "x") ≡ (((e 30 31 (codes "x")) ∷ (e 119 120 (codes "x")) ∷ []) ∷ ([]) ∷ [])
unfolding base_names standard_libraries prelude encode_utf8 chars spelled is_numeral is_identifier is_initial is_subsequent ucd_category
renames-37 = refl

pub renames-44 : edit_rows (((s 0 1) ∷ (s 1 7) ∷ (s 8 9) ∷ (s 9 15) ∷ (s 16 20) ∷ (s 20 21) ∷ (s 21 22) ∷ (s 23 24) ∷ (s 24 30) ∷ (s 31 32) ∷ (s 32 33) ∷ (s 34 35) ∷ (s 35 36) ∷ (s 37 38) ∷ (s 38 39) ∷ (s 39 41) ∷ (s 42 43) ∷ (s 43 44) ∷ (s 44 45) ∷ (s 46 47) ∷ (s 48 49) ∷ (s 49 50) ∷ (s 50 51) ∷ (s 52 53) ∷ (s 53 56) ∷ (s 56 57) ∷ (s 58 59) ∷ (s 59 60) ∷ (s 61 62) ∷ (s 62 64) ∷ (s 65 66) ∷ (s 67 68) ∷ (s 69 70) ∷ (s 70 71) ∷ (s 72 73) ∷ (s 73 74) ∷ (s 74 75) ∷ (s 75 76) ∷ (s 76 77) ∷ (s 78 79) ∷ (s 79 80) ∷ (s 81 82) ∷ (s 82 88) ∷ (s 89 90) ∷ (s 91 92) ∷ (s 92 93) ∷ []) ∷ []) ((Some (((g.list (p 0 6 0 22) (g.part (g.atom (p 1 1 1 7) (g.spelled (k.Name (codes "import") false))) (g.part (g.list (p 2 5 8 21) (g.part (g.atom (p 3 3 9 15) (g.spelled (k.Name (codes "scheme") false))) (g.part (g.atom (p 4 4 16 20) (g.spelled (k.Name (codes "base") false))) g.none))) g.none)))) ∷ ((g.list (p 7 38 23 77) (g.part (g.atom (p 8 8 24 30) (g.spelled (k.Name (codes "define") false))) (g.part (g.list (p 9 12 31 36) (g.part (g.atom (p 10 10 32 33) (g.spelled (k.Name (codes "y") false))) (g.part (g.atom (p 11 11 34 35) (g.spelled (k.Name (codes "x") false))) g.none))) (g.part (g.list (p 13 37 37 76) (g.part (g.list (p 14 27 38 60) (g.part (g.atom (p 15 15 39 41) (g.spelled (k.Name (codes "do") false))) (g.part (g.list (p 16 22 42 51) (g.part (g.list (p 17 21 43 50) (g.part (g.atom (p 18 18 44 45) (g.spelled (k.Name (codes "t") false))) (g.part (g.atom (p 19 19 46 47) (g.spelled (k.Name (codes "a") false))) (g.part (g.atom (p 20 20 48 49) (g.spelled (k.Numeral (codes "2")))) g.none)))) g.none)) (g.part (g.list (p 23 25 52 57) (g.part (g.atom (p 24 24 53 56) (g.spelled (k.Name (codes "x") true))) g.none)) (g.part (g.atom (p 26 26 58 59) (g.spelled (k.Name (codes "b") false))) g.none))))) (g.part (g.list (p 28 33 61 71) (g.part (g.atom (p 29 29 62 64) (g.spelled (k.Name (codes "if") false))) (g.part (g.atom (p 30 30 65 66) (g.spelled (k.Numeral (codes "1")))) (g.part (g.atom (p 31 31 67 68) (g.spelled (k.Name (codes "a") false))) (g.part (g.atom (p 32 32 69 70) (g.spelled (k.Name (codes "y") false))) g.none))))) (g.part (g.list (p 34 36 72 75) (g.part (g.atom (p 35 35 73 74) (g.spelled (k.Name (codes "y") false))) g.none)) g.none)))) g.none))))) ∷ ((g.list (p 39 40 78 80) (g.part (g.atom (p 39 39 78 79) (g.implied k.Quote)) (g.part (g.atom (p 40 40 79 80) (g.spelled (k.Name (codes "t") false))) g.none)))) ∷ ((g.list (p 41 45 81 93) (g.part (g.atom (p 42 42 82 88) (g.spelled (k.Name (codes "define") false))) (g.part (g.atom (p 43 43 89 90) (g.spelled (k.Name (codes "a") false))) (g.part (g.atom (p 44 44 91 92) (g.spelled (k.Name (codes "a") false))) g.none))))) ∷ [])) ∷ []) (((40 ∷ 105 ∷ 109 ∷ 112 ∷ 111 ∷ 114 ∷ 116 ∷ 32 ∷ 40 ∷ 115 ∷ 99 ∷ 104 ∷ 101 ∷ 109 ∷ 101 ∷ 32 ∷ 98 ∷ 97 ∷ 115 ∷ 101 ∷ 41 ∷ 41 ∷ 10 ∷ 40 ∷ 100 ∷ 101 ∷ 102 ∷ 105 ∷ 110 ∷ 101 ∷ 32 ∷ 40 ∷ 121 ∷ 32 ∷ 120 ∷ 41 ∷ 32 ∷ 40 ∷ 40 ∷ 100 ∷ 111 ∷ 32 ∷ 40 ∷ 40 ∷ 116 ∷ 32 ∷ 97 ∷ 32 ∷ 50 ∷ 41 ∷ 41 ∷ 32 ∷ 40 ∷ 124 ∷ 120 ∷ 124 ∷ 41 ∷ 32 ∷ 98 ∷ 41 ∷ 32 ∷ 40 ∷ 105 ∷ 102 ∷ 32 ∷ 49 ∷ 32 ∷ 97 ∷ 32 ∷ 121 ∷ 41 ∷ 32 ∷ 40 ∷ 121 ∷ 41 ∷ 41 ∷ 41 ∷ 10 ∷ 39 ∷ 116 ∷ 10 ∷ 40 ∷ 100 ∷ 101 ∷ 102 ∷ 105 ∷ 110 ∷ 101 ∷ 32 ∷ 97 ∷ 32 ∷ 97 ∷ 41 ∷ [])) ∷ []) 0 46 (codes "let") ≡ (((e 46 47 (codes "let")) ∷ (e 67 68 (codes "let")) ∷ (e 89 90 (codes "let")) ∷ (e 91 92 (codes "let")) ∷ []) ∷ [])
unfolding base_names standard_libraries prelude encode_utf8 chars spelled is_numeral is_identifier is_initial is_subsequent ucd_category
renames-44 = refl

pub renames-45 : edit_rows (((s 0 1) ∷ (s 1 7) ∷ (s 8 9) ∷ (s 9 15) ∷ (s 16 20) ∷ (s 20 21) ∷ (s 21 22) ∷ (s 23 24) ∷ (s 24 30) ∷ (s 31 32) ∷ (s 32 33) ∷ (s 34 35) ∷ (s 35 36) ∷ (s 37 38) ∷ (s 38 39) ∷ (s 39 41) ∷ (s 42 43) ∷ (s 43 44) ∷ (s 44 45) ∷ (s 46 47) ∷ (s 48 49) ∷ (s 49 50) ∷ (s 50 51) ∷ (s 52 53) ∷ (s 53 56) ∷ (s 56 57) ∷ (s 58 59) ∷ (s 59 60) ∷ (s 61 62) ∷ (s 62 64) ∷ (s 65 66) ∷ (s 67 68) ∷ (s 69 70) ∷ (s 70 71) ∷ (s 72 73) ∷ (s 73 74) ∷ (s 74 75) ∷ (s 75 76) ∷ (s 76 77) ∷ (s 78 79) ∷ (s 79 80) ∷ (s 81 82) ∷ (s 82 88) ∷ (s 89 90) ∷ (s 91 92) ∷ (s 92 93) ∷ []) ∷ []) ((Some (((g.list (p 0 6 0 22) (g.part (g.atom (p 1 1 1 7) (g.spelled (k.Name (codes "import") false))) (g.part (g.list (p 2 5 8 21) (g.part (g.atom (p 3 3 9 15) (g.spelled (k.Name (codes "scheme") false))) (g.part (g.atom (p 4 4 16 20) (g.spelled (k.Name (codes "base") false))) g.none))) g.none)))) ∷ ((g.list (p 7 38 23 77) (g.part (g.atom (p 8 8 24 30) (g.spelled (k.Name (codes "define") false))) (g.part (g.list (p 9 12 31 36) (g.part (g.atom (p 10 10 32 33) (g.spelled (k.Name (codes "y") false))) (g.part (g.atom (p 11 11 34 35) (g.spelled (k.Name (codes "x") false))) g.none))) (g.part (g.list (p 13 37 37 76) (g.part (g.list (p 14 27 38 60) (g.part (g.atom (p 15 15 39 41) (g.spelled (k.Name (codes "do") false))) (g.part (g.list (p 16 22 42 51) (g.part (g.list (p 17 21 43 50) (g.part (g.atom (p 18 18 44 45) (g.spelled (k.Name (codes "t") false))) (g.part (g.atom (p 19 19 46 47) (g.spelled (k.Name (codes "a") false))) (g.part (g.atom (p 20 20 48 49) (g.spelled (k.Numeral (codes "2")))) g.none)))) g.none)) (g.part (g.list (p 23 25 52 57) (g.part (g.atom (p 24 24 53 56) (g.spelled (k.Name (codes "x") true))) g.none)) (g.part (g.atom (p 26 26 58 59) (g.spelled (k.Name (codes "b") false))) g.none))))) (g.part (g.list (p 28 33 61 71) (g.part (g.atom (p 29 29 62 64) (g.spelled (k.Name (codes "if") false))) (g.part (g.atom (p 30 30 65 66) (g.spelled (k.Numeral (codes "1")))) (g.part (g.atom (p 31 31 67 68) (g.spelled (k.Name (codes "a") false))) (g.part (g.atom (p 32 32 69 70) (g.spelled (k.Name (codes "y") false))) g.none))))) (g.part (g.list (p 34 36 72 75) (g.part (g.atom (p 35 35 73 74) (g.spelled (k.Name (codes "y") false))) g.none)) g.none)))) g.none))))) ∷ ((g.list (p 39 40 78 80) (g.part (g.atom (p 39 39 78 79) (g.implied k.Quote)) (g.part (g.atom (p 40 40 79 80) (g.spelled (k.Name (codes "t") false))) g.none)))) ∷ ((g.list (p 41 45 81 93) (g.part (g.atom (p 42 42 82 88) (g.spelled (k.Name (codes "define") false))) (g.part (g.atom (p 43 43 89 90) (g.spelled (k.Name (codes "a") false))) (g.part (g.atom (p 44 44 91 92) (g.spelled (k.Name (codes "a") false))) g.none))))) ∷ [])) ∷ []) (((40 ∷ 105 ∷ 109 ∷ 112 ∷ 111 ∷ 114 ∷ 116 ∷ 32 ∷ 40 ∷ 115 ∷ 99 ∷ 104 ∷ 101 ∷ 109 ∷ 101 ∷ 32 ∷ 98 ∷ 97 ∷ 115 ∷ 101 ∷ 41 ∷ 41 ∷ 10 ∷ 40 ∷ 100 ∷ 101 ∷ 102 ∷ 105 ∷ 110 ∷ 101 ∷ 32 ∷ 40 ∷ 121 ∷ 32 ∷ 120 ∷ 41 ∷ 32 ∷ 40 ∷ 40 ∷ 100 ∷ 111 ∷ 32 ∷ 40 ∷ 40 ∷ 116 ∷ 32 ∷ 97 ∷ 32 ∷ 50 ∷ 41 ∷ 41 ∷ 32 ∷ 40 ∷ 124 ∷ 120 ∷ 124 ∷ 41 ∷ 32 ∷ 98 ∷ 41 ∷ 32 ∷ 40 ∷ 105 ∷ 102 ∷ 32 ∷ 49 ∷ 32 ∷ 97 ∷ 32 ∷ 121 ∷ 41 ∷ 32 ∷ 40 ∷ 121 ∷ 41 ∷ 41 ∷ 41 ∷ 10 ∷ 39 ∷ 116 ∷ 10 ∷ 40 ∷ 100 ∷ 101 ∷ 102 ∷ 105 ∷ 110 ∷ 101 ∷ 32 ∷ 97 ∷ 32 ∷ 97 ∷ 41 ∷ [])) ∷ []) 0 32 (codes "zz") ≡ (((e 32 33 (codes "zz")) ∷ (e 69 70 (codes "zz")) ∷ (e 73 74 (codes "zz")) ∷ []) ∷ [])
unfolding base_names standard_libraries prelude encode_utf8 chars spelled is_numeral is_identifier is_initial is_subsequent ucd_category
renames-45 = refl

pub renames-50 : edit_rows (((s 0 1) ∷ (s 1 2) ∷ (s 2 3) ∷ (s 3 4) ∷ (s 4 5) ∷ (s 6 7) ∷ (s 7 10) ∷ (s 11 13) ∷ (s 13 14) ∷ (s 14 15) ∷ (s 15 16) ∷ (s 17 18) ∷ (s 18 19) ∷ (s 19 25) ∷ (s 26 27) ∷ (s 27 28) ∷ (s 28 29) ∷ (s 30 31) ∷ (s 31 37) ∷ (s 38 39) ∷ (s 39 40) ∷ (s 40 41) ∷ (s 42 43) ∷ (s 43 44) ∷ (s 44 45) ∷ (s 45 46) ∷ (s 47 49) ∷ (s 49 50) ∷ (s 51 53) ∷ (s 53 54) ∷ (s 54 55) ∷ (s 56 59) ∷ (s 59 60) ∷ (s 61 62) ∷ (s 63 64) ∷ (s 64 65) ∷ (s 66 67) ∷ (s 68 69) ∷ (s 69 70) ∷ (s 71 72) ∷ []) ∷ []) ((Some (((g.list (p 0 38 0 70) (g.part (g.atom (p 0 0 0 1) (g.implied k.Quasi)) (g.part (g.list (p 1 38 1 70) (g.part (g.list (p 2 4 2 5) (g.part (g.atom (p 3 3 3 4) (g.spelled (k.Name (codes "q") false))) g.none)) (g.part (g.list (p 5 6 6 10) (g.part (g.atom (p 5 5 6 7) (g.implied k.Unquote)) (g.part (g.atom (p 6 6 7 10) (g.spelled (k.Name (codes "tmp") false))) g.none))) (g.part (g.list (p 7 35 11 65) (g.part (g.atom (p 7 7 11 13) (g.implied k.Splice)) (g.part (g.list (p 8 35 13 65) (g.part (g.atom (p 8 8 13 14) (g.implied k.Quasi)) (g.part (g.list (p 9 35 14 65) (g.part (g.atom (p 10 10 15 16) (g.spelled (k.Name (codes "q") false))) (g.part (g.list (p 11 27 17 50) (g.part (g.atom (p 11 11 17 18) (g.implied k.Unquote)) (g.part (g.list (p 12 27 18 50) (g.part (g.atom (p 13 13 19 25) (g.spelled (k.Name (codes "letrec") false))) (g.part (g.list (p 14 25 26 46) (g.part (g.list (p 15 24 27 45) (g.part (g.atom (p 16 16 28 29) (g.spelled (k.Name (codes "f") false))) (g.part (g.list (p 17 23 30 44) (g.part (g.atom (p 18 18 31 37) (g.spelled (k.Name (codes "lambda") false))) (g.part (g.list (p 19 21 38 41) (g.part (g.atom (p 20 20 39 40) (g.spelled (k.Name (codes "b") false))) g.none)) (g.part (g.atom (p 22 22 42 43) (g.spelled (k.Name (codes "a") false))) g.none)))) g.none))) g.none)) (g.part (g.atom (p 26 26 47 49) (g.spelled (k.Truth true))) g.none)))) g.none))) (g.part (g.list (p 28 32 51 60) (g.part (g.atom (p 28 28 51 53) (g.implied k.Splice)) (g.part (g.list (p 29 32 53 60) (g.part (g.atom (p 30 30 54 55) (g.spelled (k.Name (codes "x") false))) (g.part (g.atom (p 31 31 56 59) (g.spelled (k.Quoted (codes "s")))) g.none))) g.none))) (g.tail (g.atom (p 34 34 63 64) (g.spelled (k.Name (codes "t") false)))))))) g.none))) g.none))) (g.tail (g.atom (p 37 37 68 69) (g.spelled (k.Name (codes "t") false)))))))) g.none)))) ∷ ((g.atom (p 39 39 71 72) (g.spelled (k.Name (codes "x") false)))) ∷ [])) ∷ []) (((96 ∷ 40 ∷ 40 ∷ 113 ∷ 41 ∷ 32 ∷ 44 ∷ 116 ∷ 109 ∷ 112 ∷ 32 ∷ 44 ∷ 64 ∷ 96 ∷ 40 ∷ 113 ∷ 32 ∷ 44 ∷ 40 ∷ 108 ∷ 101 ∷ 116 ∷ 114 ∷ 101 ∷ 99 ∷ 32 ∷ 40 ∷ 40 ∷ 102 ∷ 32 ∷ 40 ∷ 108 ∷ 97 ∷ 109 ∷ 98 ∷ 100 ∷ 97 ∷ 32 ∷ 40 ∷ 98 ∷ 41 ∷ 32 ∷ 97 ∷ 41 ∷ 41 ∷ 41 ∷ 32 ∷ 35 ∷ 116 ∷ 41 ∷ 32 ∷ 44 ∷ 64 ∷ 40 ∷ 120 ∷ 32 ∷ 34 ∷ 115 ∷ 34 ∷ 41 ∷ 32 ∷ 46 ∷ 32 ∷ 116 ∷ 41 ∷ 32 ∷ 46 ∷ 32 ∷ 116 ∷ 41 ∷ 10 ∷ 120 ∷ [])) ∷ []) 0 39 (codes "s:zz") ≡ (((e 39 40 (codes "s:zz")) ∷ []) ∷ [])
unfolding base_names standard_libraries prelude encode_utf8 chars spelled is_numeral is_identifier is_initial is_subsequent ucd_category
renames-50 = refl

pub renames-51 : edit_rows (((s 0 1) ∷ (s 1 2) ∷ (s 2 3) ∷ (s 3 4) ∷ (s 4 5) ∷ (s 6 7) ∷ (s 7 10) ∷ (s 11 13) ∷ (s 13 14) ∷ (s 14 15) ∷ (s 15 16) ∷ (s 17 18) ∷ (s 18 19) ∷ (s 19 25) ∷ (s 26 27) ∷ (s 27 28) ∷ (s 28 29) ∷ (s 30 31) ∷ (s 31 37) ∷ (s 38 39) ∷ (s 39 40) ∷ (s 40 41) ∷ (s 42 43) ∷ (s 43 44) ∷ (s 44 45) ∷ (s 45 46) ∷ (s 47 49) ∷ (s 49 50) ∷ (s 51 53) ∷ (s 53 54) ∷ (s 54 55) ∷ (s 56 59) ∷ (s 59 60) ∷ (s 61 62) ∷ (s 63 64) ∷ (s 64 65) ∷ (s 66 67) ∷ (s 68 69) ∷ (s 69 70) ∷ (s 71 72) ∷ []) ∷ []) ((Some (((g.list (p 0 38 0 70) (g.part (g.atom (p 0 0 0 1) (g.implied k.Quasi)) (g.part (g.list (p 1 38 1 70) (g.part (g.list (p 2 4 2 5) (g.part (g.atom (p 3 3 3 4) (g.spelled (k.Name (codes "q") false))) g.none)) (g.part (g.list (p 5 6 6 10) (g.part (g.atom (p 5 5 6 7) (g.implied k.Unquote)) (g.part (g.atom (p 6 6 7 10) (g.spelled (k.Name (codes "tmp") false))) g.none))) (g.part (g.list (p 7 35 11 65) (g.part (g.atom (p 7 7 11 13) (g.implied k.Splice)) (g.part (g.list (p 8 35 13 65) (g.part (g.atom (p 8 8 13 14) (g.implied k.Quasi)) (g.part (g.list (p 9 35 14 65) (g.part (g.atom (p 10 10 15 16) (g.spelled (k.Name (codes "q") false))) (g.part (g.list (p 11 27 17 50) (g.part (g.atom (p 11 11 17 18) (g.implied k.Unquote)) (g.part (g.list (p 12 27 18 50) (g.part (g.atom (p 13 13 19 25) (g.spelled (k.Name (codes "letrec") false))) (g.part (g.list (p 14 25 26 46) (g.part (g.list (p 15 24 27 45) (g.part (g.atom (p 16 16 28 29) (g.spelled (k.Name (codes "f") false))) (g.part (g.list (p 17 23 30 44) (g.part (g.atom (p 18 18 31 37) (g.spelled (k.Name (codes "lambda") false))) (g.part (g.list (p 19 21 38 41) (g.part (g.atom (p 20 20 39 40) (g.spelled (k.Name (codes "b") false))) g.none)) (g.part (g.atom (p 22 22 42 43) (g.spelled (k.Name (codes "a") false))) g.none)))) g.none))) g.none)) (g.part (g.atom (p 26 26 47 49) (g.spelled (k.Truth true))) g.none)))) g.none))) (g.part (g.list (p 28 32 51 60) (g.part (g.atom (p 28 28 51 53) (g.implied k.Splice)) (g.part (g.list (p 29 32 53 60) (g.part (g.atom (p 30 30 54 55) (g.spelled (k.Name (codes "x") false))) (g.part (g.atom (p 31 31 56 59) (g.spelled (k.Quoted (codes "s")))) g.none))) g.none))) (g.tail (g.atom (p 34 34 63 64) (g.spelled (k.Name (codes "t") false)))))))) g.none))) g.none))) (g.tail (g.atom (p 37 37 68 69) (g.spelled (k.Name (codes "t") false)))))))) g.none)))) ∷ ((g.atom (p 39 39 71 72) (g.spelled (k.Name (codes "x") false)))) ∷ [])) ∷ []) (((96 ∷ 40 ∷ 40 ∷ 113 ∷ 41 ∷ 32 ∷ 44 ∷ 116 ∷ 109 ∷ 112 ∷ 32 ∷ 44 ∷ 64 ∷ 96 ∷ 40 ∷ 113 ∷ 32 ∷ 44 ∷ 40 ∷ 108 ∷ 101 ∷ 116 ∷ 114 ∷ 101 ∷ 99 ∷ 32 ∷ 40 ∷ 40 ∷ 102 ∷ 32 ∷ 40 ∷ 108 ∷ 97 ∷ 109 ∷ 98 ∷ 100 ∷ 97 ∷ 32 ∷ 40 ∷ 98 ∷ 41 ∷ 32 ∷ 97 ∷ 41 ∷ 41 ∷ 41 ∷ 32 ∷ 35 ∷ 116 ∷ 41 ∷ 32 ∷ 44 ∷ 64 ∷ 40 ∷ 120 ∷ 32 ∷ 34 ∷ 115 ∷ 34 ∷ 41 ∷ 32 ∷ 46 ∷ 32 ∷ 116 ∷ 41 ∷ 32 ∷ 46 ∷ 32 ∷ 116 ∷ 41 ∷ 10 ∷ 120 ∷ [])) ∷ []) 0 28 (codes "let") ≡ (((e 28 29 (codes "let")) ∷ []) ∷ [])
unfolding base_names standard_libraries prelude encode_utf8 chars spelled is_numeral is_identifier is_initial is_subsequent ucd_category
renames-51 = refl

pub edits-neighbours : edit_rows (((s 0 1) ∷ (s 1 7) ∷ (s 8 9) ∷ (s 10 11) ∷ (s 11 12) ∷ (s 13 14) ∷ (s 14 18) ∷ (s 19 20) ∷ (s 20 23) ∷ (s 23 24) ∷ (s 24 25) ∷ (s 25 29) ∷ (s 30 31) ∷ (s 31 32) ∷ (s 32 33) ∷ (s 36 37) ∷ (s 37 40) ∷ (s 40 41) ∷ (s 42 44) ∷ (s 44 45) ∷ (s 46 47) ∷ (s 53 54) ∷ (s 54 55) ∷ []) ∷ []) ((Some (((g.list (p 0 4 0 12) (g.part (g.atom (p 1 1 1 7) (g.spelled (k.Name (codes "define") false))) (g.part (g.atom (p 2 2 8 9) (g.spelled (k.Name (codes "a") false))) (g.part (g.atom (p 3 3 10 11) (g.spelled (k.Numeral (codes "1")))) g.none))))) ∷ ((g.list (p 5 22 13 55) (g.part (g.atom (p 6 6 14 18) (g.spelled (k.Name (codes "list") false))) (g.part (g.atom (p 7 7 19 20) (g.spelled (k.Name (codes "a") false))) (g.part (g.atom (p 8 8 20 23) (g.spelled (k.Quoted (codes "s")))) (g.part (g.atom (p 9 9 23 24) (g.spelled (k.Name (codes "a") false))) (g.part (g.list (p 10 13 24 32) (g.part (g.atom (p 11 11 25 29) (g.spelled (k.Name (codes "list") false))) (g.part (g.atom (p 12 12 30 31) (g.spelled (k.Name (codes "a") false))) g.none))) (g.part (g.atom (p 14 14 32 33) (g.spelled (k.Name (codes "a") false))) (g.part (g.atom (p 15 15 36 37) (g.spelled (k.Name (codes "a") false))) (g.part (g.atom (p 16 16 37 40) (g.spelled (k.Name (codes "b") true))) (g.part (g.atom (p 17 17 40 41) (g.spelled (k.Name (codes "a") false))) (g.part (g.atom (p 20 20 46 47) (g.spelled (k.Name (codes "a") false))) (g.part (g.atom (p 21 21 53 54) (g.spelled (k.Name (codes "a") false))) g.none))))))))))))) ∷ [])) ∷ []) (((40 ∷ 100 ∷ 101 ∷ 102 ∷ 105 ∷ 110 ∷ 101 ∷ 32 ∷ 97 ∷ 32 ∷ 49 ∷ 41 ∷ 10 ∷ 40 ∷ 108 ∷ 105 ∷ 115 ∷ 116 ∷ 32 ∷ 97 ∷ 34 ∷ 115 ∷ 34 ∷ 97 ∷ 40 ∷ 108 ∷ 105 ∷ 115 ∷ 116 ∷ 32 ∷ 97 ∷ 41 ∷ 97 ∷ 59 ∷ 120 ∷ 10 ∷ 97 ∷ 124 ∷ 98 ∷ 124 ∷ 97 ∷ 32 ∷ 35 ∷ 59 ∷ 97 ∷ 32 ∷ 97 ∷ 32 ∷ 35 ∷ 124 ∷ 110 ∷ 124 ∷ 35 ∷ 97 ∷ 41 ∷ [])) ∷ []) 0 8 (codes "zz") ≡ (((e 8 9 (codes "zz")) ∷ (e 19 20 (codes "zz")) ∷ (e 23 24 (codes "zz")) ∷ (e 30 31 (codes "zz")) ∷ (e 32 33 (codes "zz")) ∷ (e 36 37 (codes "zz")) ∷ (e 40 41 (codes "zz")) ∷ (e 46 47 (codes "zz")) ∷ (e 53 54 (codes "zz")) ∷ []) ∷ [])
unfolding base_names standard_libraries prelude encode_utf8 chars spelled is_numeral is_identifier is_initial is_subsequent ucd_category
edits-neighbours = refl

pub edits-neighbours_bars : edit_rows (((s 0 1) ∷ (s 1 7) ∷ (s 8 9) ∷ (s 10 11) ∷ (s 11 12) ∷ (s 13 14) ∷ (s 14 18) ∷ (s 19 20) ∷ (s 20 23) ∷ (s 23 24) ∷ (s 24 25) ∷ (s 25 29) ∷ (s 30 31) ∷ (s 31 32) ∷ (s 32 33) ∷ (s 36 37) ∷ (s 37 40) ∷ (s 40 41) ∷ (s 42 44) ∷ (s 44 45) ∷ (s 46 47) ∷ (s 53 54) ∷ (s 54 55) ∷ []) ∷ []) ((Some (((g.list (p 0 4 0 12) (g.part (g.atom (p 1 1 1 7) (g.spelled (k.Name (codes "define") false))) (g.part (g.atom (p 2 2 8 9) (g.spelled (k.Name (codes "a") false))) (g.part (g.atom (p 3 3 10 11) (g.spelled (k.Numeral (codes "1")))) g.none))))) ∷ ((g.list (p 5 22 13 55) (g.part (g.atom (p 6 6 14 18) (g.spelled (k.Name (codes "list") false))) (g.part (g.atom (p 7 7 19 20) (g.spelled (k.Name (codes "a") false))) (g.part (g.atom (p 8 8 20 23) (g.spelled (k.Quoted (codes "s")))) (g.part (g.atom (p 9 9 23 24) (g.spelled (k.Name (codes "a") false))) (g.part (g.list (p 10 13 24 32) (g.part (g.atom (p 11 11 25 29) (g.spelled (k.Name (codes "list") false))) (g.part (g.atom (p 12 12 30 31) (g.spelled (k.Name (codes "a") false))) g.none))) (g.part (g.atom (p 14 14 32 33) (g.spelled (k.Name (codes "a") false))) (g.part (g.atom (p 15 15 36 37) (g.spelled (k.Name (codes "a") false))) (g.part (g.atom (p 16 16 37 40) (g.spelled (k.Name (codes "b") true))) (g.part (g.atom (p 17 17 40 41) (g.spelled (k.Name (codes "a") false))) (g.part (g.atom (p 20 20 46 47) (g.spelled (k.Name (codes "a") false))) (g.part (g.atom (p 21 21 53 54) (g.spelled (k.Name (codes "a") false))) g.none))))))))))))) ∷ [])) ∷ []) (((40 ∷ 100 ∷ 101 ∷ 102 ∷ 105 ∷ 110 ∷ 101 ∷ 32 ∷ 97 ∷ 32 ∷ 49 ∷ 41 ∷ 10 ∷ 40 ∷ 108 ∷ 105 ∷ 115 ∷ 116 ∷ 32 ∷ 97 ∷ 34 ∷ 115 ∷ 34 ∷ 97 ∷ 40 ∷ 108 ∷ 105 ∷ 115 ∷ 116 ∷ 32 ∷ 97 ∷ 41 ∷ 97 ∷ 59 ∷ 120 ∷ 10 ∷ 97 ∷ 124 ∷ 98 ∷ 124 ∷ 97 ∷ 32 ∷ 35 ∷ 59 ∷ 97 ∷ 32 ∷ 97 ∷ 32 ∷ 35 ∷ 124 ∷ 110 ∷ 124 ∷ 35 ∷ 97 ∷ 41 ∷ [])) ∷ []) 0 8 (codes "a b") ≡ (((e 8 9 (124 ∷ 97 ∷ 32 ∷ 98 ∷ 124 ∷ [])) ∷ (e 19 20 (124 ∷ 97 ∷ 32 ∷ 98 ∷ 124 ∷ [])) ∷ (e 23 24 (124 ∷ 97 ∷ 32 ∷ 98 ∷ 124 ∷ [])) ∷ (e 30 31 (124 ∷ 97 ∷ 32 ∷ 98 ∷ 124 ∷ [])) ∷ (e 32 33 (124 ∷ 97 ∷ 32 ∷ 98 ∷ 124 ∷ [])) ∷ (e 36 37 (124 ∷ 97 ∷ 32 ∷ 98 ∷ 124 ∷ [])) ∷ (e 40 41 (124 ∷ 97 ∷ 32 ∷ 98 ∷ 124 ∷ [])) ∷ (e 46 47 (124 ∷ 97 ∷ 32 ∷ 98 ∷ 124 ∷ [])) ∷ (e 53 54 (124 ∷ 97 ∷ 32 ∷ 98 ∷ 124 ∷ [])) ∷ []) ∷ [])
unfolding base_names standard_libraries prelude encode_utf8 chars spelled is_numeral is_identifier is_initial is_subsequent ucd_category
edits-neighbours_bars = refl

pub edits-end : edit_rows (((s 0 1) ∷ (s 1 7) ∷ (s 8 9) ∷ (s 10 11) ∷ (s 11 12) ∷ (s 12 13) ∷ []) ∷ []) ((Some (((g.list (p 0 4 0 12) (g.part (g.atom (p 1 1 1 7) (g.spelled (k.Name (codes "define") false))) (g.part (g.atom (p 2 2 8 9) (g.spelled (k.Name (codes "a") false))) (g.part (g.atom (p 3 3 10 11) (g.spelled (k.Numeral (codes "1")))) g.none))))) ∷ ((g.atom (p 5 5 12 13) (g.spelled (k.Name (codes "a") false)))) ∷ [])) ∷ []) (((codes "(define a 1)a")) ∷ []) 0 8 (codes "zz") ≡ (((e 8 9 (codes "zz")) ∷ (e 12 13 (codes "zz")) ∷ []) ∷ [])
unfolding base_names standard_libraries prelude encode_utf8 chars spelled is_numeral is_identifier is_initial is_subsequent ucd_category
edits-end = refl

pub edits-in_bars : edit_rows (((s 0 1) ∷ (s 1 7) ∷ (s 8 11) ∷ (s 12 13) ∷ (s 13 14) ∷ (s 14 15) ∷ (s 15 19) ∷ (s 20 21) ∷ (s 22 25) ∷ (s 25 26) ∷ (s 27 34) ∷ (s 34 37) ∷ (s 37 40) ∷ (s 40 43) ∷ (s 43 44) ∷ []) ∷ []) ((Some (((g.list (p 0 4 0 14) (g.part (g.atom (p 1 1 1 7) (g.spelled (k.Name (codes "define") false))) (g.part (g.atom (p 2 2 8 11) (g.spelled (k.Name (codes "a") true))) (g.part (g.atom (p 3 3 12 13) (g.spelled (k.Numeral (codes "1")))) g.none))))) ∷ ((g.list (p 5 14 14 44) (g.part (g.atom (p 6 6 15 19) (g.spelled (k.Name (codes "list") false))) (g.part (g.atom (p 7 7 20 21) (g.spelled (k.Name (codes "a") false))) (g.part (g.atom (p 8 8 22 25) (g.spelled (k.Name (codes "a") true))) (g.part (g.atom (p 9 9 25 26) (g.spelled (k.Name (codes "b") false))) (g.part (g.atom (p 10 10 27 34) (g.spelled (k.Name (codes "a") true))) (g.part (g.atom (p 11 11 34 37) (g.spelled (k.Quoted (codes "s")))) (g.part (g.atom (p 12 12 37 40) (g.spelled (k.Name (codes "a") true))) (g.part (g.atom (p 13 13 40 43) (g.spelled (k.Name (codes "a") true))) g.none)))))))))) ∷ [])) ∷ []) (((40 ∷ 100 ∷ 101 ∷ 102 ∷ 105 ∷ 110 ∷ 101 ∷ 32 ∷ 124 ∷ 97 ∷ 124 ∷ 32 ∷ 49 ∷ 41 ∷ 40 ∷ 108 ∷ 105 ∷ 115 ∷ 116 ∷ 32 ∷ 97 ∷ 32 ∷ 124 ∷ 97 ∷ 124 ∷ 98 ∷ 32 ∷ 124 ∷ 92 ∷ 120 ∷ 54 ∷ 49 ∷ 59 ∷ 124 ∷ 34 ∷ 115 ∷ 34 ∷ 124 ∷ 97 ∷ 124 ∷ 124 ∷ 97 ∷ 124 ∷ 41 ∷ [])) ∷ []) 0 8 (codes "zz") ≡ (((e 8 11 (124 ∷ 122 ∷ 122 ∷ 124 ∷ [])) ∷ (e 20 21 (codes "zz")) ∷ (e 22 25 (124 ∷ 122 ∷ 122 ∷ 124 ∷ [])) ∷ (e 27 34 (124 ∷ 122 ∷ 122 ∷ 124 ∷ [])) ∷ (e 37 40 (124 ∷ 122 ∷ 122 ∷ 124 ∷ [])) ∷ (e 40 43 (124 ∷ 122 ∷ 122 ∷ 124 ∷ [])) ∷ []) ∷ [])
unfolding base_names standard_libraries prelude encode_utf8 chars spelled is_numeral is_identifier is_initial is_subsequent ucd_category
edits-in_bars = refl

pub edits-in_bars_empty : edit_rows (((s 0 1) ∷ (s 1 7) ∷ (s 8 10) ∷ (s 11 12) ∷ (s 12 13) ∷ (s 14 15) ∷ (s 15 19) ∷ (s 20 22) ∷ (s 22 24) ∷ (s 24 25) ∷ []) ∷ []) ((Some (((g.list (p 0 4 0 13) (g.part (g.atom (p 1 1 1 7) (g.spelled (k.Name (codes "define") false))) (g.part (g.atom (p 2 2 8 10) (g.spelled (k.Name ([]) true))) (g.part (g.atom (p 3 3 11 12) (g.spelled (k.Numeral (codes "1")))) g.none))))) ∷ ((g.list (p 5 9 14 25) (g.part (g.atom (p 6 6 15 19) (g.spelled (k.Name (codes "list") false))) (g.part (g.atom (p 7 7 20 22) (g.spelled (k.Name ([]) true))) (g.part (g.atom (p 8 8 22 24) (g.spelled (k.Name ([]) true))) g.none))))) ∷ [])) ∷ []) (((40 ∷ 100 ∷ 101 ∷ 102 ∷ 105 ∷ 110 ∷ 101 ∷ 32 ∷ 124 ∷ 124 ∷ 32 ∷ 49 ∷ 41 ∷ 10 ∷ 40 ∷ 108 ∷ 105 ∷ 115 ∷ 116 ∷ 32 ∷ 124 ∷ 124 ∷ 124 ∷ 124 ∷ 41 ∷ [])) ∷ []) 0 8 (codes "zz") ≡ (((e 8 10 (124 ∷ 122 ∷ 122 ∷ 124 ∷ [])) ∷ (e 20 22 (124 ∷ 122 ∷ 122 ∷ 124 ∷ [])) ∷ (e 22 24 (124 ∷ 122 ∷ 122 ∷ 124 ∷ [])) ∷ []) ∷ [])
unfolding base_names standard_libraries prelude encode_utf8 chars spelled is_numeral is_identifier is_initial is_subsequent ucd_category
edits-in_bars_empty = refl

pub edits-four_bytes : edit_rows (((s 0 1) ∷ (s 1 7) ∷ (s 8 12) ∷ (s 13 19) ∷ (s 19 20) ∷ (s 21 22) ∷ (s 22 26) ∷ (s 27 33) ∷ (s 34 38) ∷ (s 39 45) ∷ (s 46 50) ∷ (s 50 51) ∷ []) ∷ []) ((Some (((g.list (p 0 4 0 20) (g.part (g.atom (p 1 1 1 7) (g.spelled (k.Name (codes "define") false))) (g.part (g.atom (p 2 2 8 12) (g.spelled (k.Name (120572 ∷ []) false))) (g.part (g.atom (p 3 3 13 19) (g.spelled (k.Quoted (128512 ∷ [])))) g.none))))) ∷ ((g.list (p 5 11 21 51) (g.part (g.atom (p 6 6 22 26) (g.spelled (k.Name (codes "list") false))) (g.part (g.atom (p 7 7 27 33) (g.spelled (k.Quoted (128512 ∷ [])))) (g.part (g.atom (p 8 8 34 38) (g.spelled (k.Name (120572 ∷ []) false))) (g.part (g.atom (p 9 9 39 45) (g.spelled (k.Character 128512))) (g.part (g.atom (p 10 10 46 50) (g.spelled (k.Name (120572 ∷ []) false))) g.none))))))) ∷ [])) ∷ []) (((40 ∷ 100 ∷ 101 ∷ 102 ∷ 105 ∷ 110 ∷ 101 ∷ 32 ∷ 240 ∷ 157 ∷ 155 ∷ 188 ∷ 32 ∷ 34 ∷ 240 ∷ 159 ∷ 152 ∷ 128 ∷ 34 ∷ 41 ∷ 10 ∷ 40 ∷ 108 ∷ 105 ∷ 115 ∷ 116 ∷ 32 ∷ 34 ∷ 240 ∷ 159 ∷ 152 ∷ 128 ∷ 34 ∷ 32 ∷ 240 ∷ 157 ∷ 155 ∷ 188 ∷ 32 ∷ 35 ∷ 92 ∷ 240 ∷ 159 ∷ 152 ∷ 128 ∷ 32 ∷ 240 ∷ 157 ∷ 155 ∷ 188 ∷ 41 ∷ [])) ∷ []) 0 8 (codes "b") ≡ (((e 8 12 (codes "b")) ∷ (e 34 38 (codes "b")) ∷ (e 46 50 (codes "b")) ∷ []) ∷ [])
unfolding base_names standard_libraries prelude encode_utf8 chars spelled is_numeral is_identifier is_initial is_subsequent ucd_category
edits-four_bytes = refl

pub edits-to_four_bytes : edit_rows (((s 0 1) ∷ (s 1 7) ∷ (s 8 9) ∷ (s 10 16) ∷ (s 16 17) ∷ (s 18 19) ∷ []) ∷ []) ((Some (((g.list (p 0 4 0 17) (g.part (g.atom (p 1 1 1 7) (g.spelled (k.Name (codes "define") false))) (g.part (g.atom (p 2 2 8 9) (g.spelled (k.Name (codes "a") false))) (g.part (g.atom (p 3 3 10 16) (g.spelled (k.Quoted (128512 ∷ [])))) g.none))))) ∷ ((g.atom (p 5 5 18 19) (g.spelled (k.Name (codes "a") false)))) ∷ [])) ∷ []) (((40 ∷ 100 ∷ 101 ∷ 102 ∷ 105 ∷ 110 ∷ 101 ∷ 32 ∷ 97 ∷ 32 ∷ 34 ∷ 240 ∷ 159 ∷ 152 ∷ 128 ∷ 34 ∷ 41 ∷ 32 ∷ 97 ∷ [])) ∷ []) 0 8 (240 ∷ 157 ∷ 155 ∷ 188 ∷ []) ≡ (((e 8 9 (240 ∷ 157 ∷ 155 ∷ 188 ∷ [])) ∷ (e 18 19 (240 ∷ 157 ∷ 155 ∷ 188 ∷ [])) ∷ []) ∷ [])
unfolding base_names standard_libraries prelude encode_utf8 chars spelled is_numeral is_identifier is_initial is_subsequent ucd_category
edits-to_four_bytes = refl

pub edits-emoji : edit_rows (((s 0 1) ∷ (s 1 7) ∷ (s 8 9) ∷ (s 10 11) ∷ (s 11 12) ∷ (s 13 14) ∷ []) ∷ []) ((Some (((g.list (p 0 4 0 12) (g.part (g.atom (p 1 1 1 7) (g.spelled (k.Name (codes "define") false))) (g.part (g.atom (p 2 2 8 9) (g.spelled (k.Name (codes "a") false))) (g.part (g.atom (p 3 3 10 11) (g.spelled (k.Numeral (codes "1")))) g.none))))) ∷ ((g.atom (p 5 5 13 14) (g.spelled (k.Name (codes "a") false)))) ∷ [])) ∷ []) (((codes "(define a 1) a")) ∷ []) 0 8 (240 ∷ 159 ∷ 152 ∷ 128 ∷ []) ≡ (((e 8 9 (240 ∷ 159 ∷ 152 ∷ 128 ∷ [])) ∷ (e 13 14 (240 ∷ 159 ∷ 152 ∷ 128 ∷ [])) ∷ []) ∷ [])
unfolding base_names standard_libraries prelude encode_utf8 chars spelled is_numeral is_identifier is_initial is_subsequent ucd_category
edits-emoji = refl

pub edits-line_ends : edit_rows (((s 0 1) ∷ (s 1 7) ∷ (s 8 9) ∷ (s 10 11) ∷ (s 11 12) ∷ (s 14 15) ∷ (s 17 18) ∷ (s 18 22) ∷ (s 23 24) ∷ (s 25 26) ∷ (s 26 27) ∷ []) ∷ []) ((Some (((g.list (p 0 4 0 12) (g.part (g.atom (p 1 1 1 7) (g.spelled (k.Name (codes "define") false))) (g.part (g.atom (p 2 2 8 9) (g.spelled (k.Name (codes "a") false))) (g.part (g.atom (p 3 3 10 11) (g.spelled (k.Numeral (codes "1")))) g.none))))) ∷ ((g.atom (p 5 5 14 15) (g.spelled (k.Name (codes "a") false)))) ∷ ((g.list (p 6 10 17 27) (g.part (g.atom (p 7 7 18 22) (g.spelled (k.Name (codes "list") false))) (g.part (g.atom (p 8 8 23 24) (g.spelled (k.Name (codes "a") false))) (g.part (g.atom (p 9 9 25 26) (g.spelled (k.Name (codes "a") false))) g.none))))) ∷ [])) ∷ []) (((40 ∷ 100 ∷ 101 ∷ 102 ∷ 105 ∷ 110 ∷ 101 ∷ 32 ∷ 97 ∷ 32 ∷ 49 ∷ 41 ∷ 13 ∷ 10 ∷ 97 ∷ 13 ∷ 10 ∷ 40 ∷ 108 ∷ 105 ∷ 115 ∷ 116 ∷ 32 ∷ 97 ∷ 13 ∷ 97 ∷ 41 ∷ 13 ∷ 10 ∷ [])) ∷ []) 0 8 (codes "zz") ≡ (((e 8 9 (codes "zz")) ∷ (e 14 15 (codes "zz")) ∷ (e 23 24 (codes "zz")) ∷ (e 25 26 (codes "zz")) ∷ []) ∷ [])
unfolding base_names standard_libraries prelude encode_utf8 chars spelled is_numeral is_identifier is_initial is_subsequent ucd_category
edits-line_ends = refl

pub edits-order_mark : edit_rows (((s 3 4) ∷ (s 5 6) ∷ (s 6 12) ∷ (s 13 14) ∷ (s 15 16) ∷ (s 16 17) ∷ []) ∷ []) ((Some (((g.atom (p 0 0 3 4) (g.spelled (k.Name (codes "a") false)))) ∷ ((g.list (p 1 5 5 17) (g.part (g.atom (p 2 2 6 12) (g.spelled (k.Name (codes "define") false))) (g.part (g.atom (p 3 3 13 14) (g.spelled (k.Name (codes "a") false))) (g.part (g.atom (p 4 4 15 16) (g.spelled (k.Numeral (codes "1")))) g.none))))) ∷ [])) ∷ []) (((239 ∷ 187 ∷ 191 ∷ 97 ∷ 32 ∷ 40 ∷ 100 ∷ 101 ∷ 102 ∷ 105 ∷ 110 ∷ 101 ∷ 32 ∷ 97 ∷ 32 ∷ 49 ∷ 41 ∷ [])) ∷ []) 0 13 (codes "zz") ≡ (((e 3 4 (codes "zz")) ∷ (e 13 14 (codes "zz")) ∷ []) ∷ [])
unfolding base_names standard_libraries prelude encode_utf8 chars spelled is_numeral is_identifier is_initial is_subsequent ucd_category
edits-order_mark = refl

pub edits-order_mark_bars : edit_rows (((s 3 4) ∷ (s 4 5) ∷ (s 5 11) ∷ (s 12 13) ∷ (s 14 15) ∷ (s 15 16) ∷ []) ∷ []) ((Some (((g.atom (p 0 0 3 4) (g.spelled (k.Name (codes "a") false)))) ∷ ((g.list (p 1 5 4 16) (g.part (g.atom (p 2 2 5 11) (g.spelled (k.Name (codes "define") false))) (g.part (g.atom (p 3 3 12 13) (g.spelled (k.Name (codes "a") false))) (g.part (g.atom (p 4 4 14 15) (g.spelled (k.Numeral (codes "1")))) g.none))))) ∷ [])) ∷ []) (((239 ∷ 187 ∷ 191 ∷ 97 ∷ 40 ∷ 100 ∷ 101 ∷ 102 ∷ 105 ∷ 110 ∷ 101 ∷ 32 ∷ 97 ∷ 32 ∷ 49 ∷ 41 ∷ [])) ∷ []) 0 12 (codes "z z") ≡ (((e 3 4 (124 ∷ 122 ∷ 32 ∷ 122 ∷ 124 ∷ [])) ∷ (e 12 13 (124 ∷ 122 ∷ 32 ∷ 122 ∷ 124 ∷ [])) ∷ []) ∷ [])
unfolding base_names standard_libraries prelude encode_utf8 chars spelled is_numeral is_identifier is_initial is_subsequent ucd_category
edits-order_mark_bars = refl

pub edits-at_sign : edit_rows (((s 0 1) ∷ (s 1 7) ∷ (s 8 9) ∷ (s 10 11) ∷ (s 11 12) ∷ (s 12 13) ∷ (s 13 14) ∷ (s 15 16) ∷ (s 16 17) ∷ (s 17 18) ∷ (s 18 19) ∷ (s 20 22) ∷ (s 22 23) ∷ (s 23 24) ∷ []) ∷ []) ((Some (((g.list (p 0 6 0 14) (g.part (g.atom (p 1 1 1 7) (g.spelled (k.Name (codes "define") false))) (g.part (g.atom (p 2 2 8 9) (g.spelled (k.Name (codes "a") false))) (g.part (g.list (p 3 5 10 13) (g.part (g.atom (p 3 3 10 11) (g.implied k.Quote)) (g.part (g.list (p 4 5 11 13) g.none) g.none))) g.none))))) ∷ ((g.list (p 7 13 15 24) (g.part (g.atom (p 7 7 15 16) (g.implied k.Quasi)) (g.part (g.list (p 8 13 16 24) (g.part (g.list (p 9 10 17 19) (g.part (g.atom (p 9 9 17 18) (g.implied k.Unquote)) (g.part (g.atom (p 10 10 18 19) (g.spelled (k.Name (codes "a") false))) g.none))) (g.part (g.list (p 11 12 20 23) (g.part (g.atom (p 11 11 20 22) (g.implied k.Splice)) (g.part (g.atom (p 12 12 22 23) (g.spelled (k.Name (codes "a") false))) g.none))) g.none))) g.none)))) ∷ [])) ∷ []) (((40 ∷ 100 ∷ 101 ∷ 102 ∷ 105 ∷ 110 ∷ 101 ∷ 32 ∷ 97 ∷ 32 ∷ 39 ∷ 40 ∷ 41 ∷ 41 ∷ 10 ∷ 96 ∷ 40 ∷ 44 ∷ 97 ∷ 32 ∷ 44 ∷ 64 ∷ 97 ∷ 41 ∷ [])) ∷ []) 0 8 (codes "@x") ≡ (((e 8 9 (124 ∷ 64 ∷ 120 ∷ 124 ∷ [])) ∷ (e 18 19 (124 ∷ 64 ∷ 120 ∷ 124 ∷ [])) ∷ (e 22 23 (124 ∷ 64 ∷ 120 ∷ 124 ∷ [])) ∷ []) ∷ [])
unfolding base_names standard_libraries prelude encode_utf8 chars spelled is_numeral is_identifier is_initial is_subsequent ucd_category
edits-at_sign = refl

pub edits-after_marks : edit_rows (((s 0 1) ∷ (s 1 7) ∷ (s 8 9) ∷ (s 10 11) ∷ (s 11 12) ∷ (s 12 13) ∷ (s 13 14) ∷ (s 15 16) ∷ (s 16 17) ∷ (s 17 18) ∷ (s 18 19) ∷ (s 20 22) ∷ (s 22 23) ∷ (s 24 26) ∷ (s 26 27) ∷ (s 27 28) ∷ (s 28 29) ∷ (s 30 31) ∷ (s 32 33) ∷ (s 33 34) ∷ (s 34 35) ∷ []) ∷ []) ((Some (((g.list (p 0 6 0 14) (g.part (g.atom (p 1 1 1 7) (g.spelled (k.Name (codes "define") false))) (g.part (g.atom (p 2 2 8 9) (g.spelled (k.Name (codes "a") false))) (g.part (g.list (p 3 5 10 13) (g.part (g.atom (p 3 3 10 11) (g.implied k.Quote)) (g.part (g.list (p 4 5 11 13) g.none) g.none))) g.none))))) ∷ ((g.list (p 7 20 15 35) (g.part (g.atom (p 7 7 15 16) (g.implied k.Quasi)) (g.part (g.list (p 8 20 16 35) (g.part (g.list (p 9 10 17 19) (g.part (g.atom (p 9 9 17 18) (g.implied k.Unquote)) (g.part (g.atom (p 10 10 18 19) (g.spelled (k.Name (codes "a") false))) g.none))) (g.part (g.list (p 11 12 20 23) (g.part (g.atom (p 11 11 20 22) (g.implied k.Splice)) (g.part (g.atom (p 12 12 22 23) (g.spelled (k.Name (codes "a") false))) g.none))) (g.part (g.vector (p 13 16 24 29) (g.part (g.list (p 14 15 26 28) (g.part (g.atom (p 14 14 26 27) (g.implied k.Unquote)) (g.part (g.atom (p 15 15 27 28) (g.spelled (k.Name (codes "a") false))) g.none))) g.none)) (g.part (g.atom (p 18 18 32 33) (g.implied k.Unquote)) (g.part (g.atom (p 19 19 33 34) (g.spelled (k.Name (codes "a") false))) g.none)))))) g.none)))) ∷ [])) ∷ []) (((40 ∷ 100 ∷ 101 ∷ 102 ∷ 105 ∷ 110 ∷ 101 ∷ 32 ∷ 97 ∷ 32 ∷ 39 ∷ 40 ∷ 41 ∷ 41 ∷ 10 ∷ 96 ∷ 40 ∷ 44 ∷ 97 ∷ 32 ∷ 44 ∷ 64 ∷ 97 ∷ 32 ∷ 35 ∷ 40 ∷ 44 ∷ 97 ∷ 41 ∷ 32 ∷ 46 ∷ 32 ∷ 44 ∷ 97 ∷ 41 ∷ [])) ∷ []) 0 8 (codes "x@") ≡ (((e 8 9 (codes "x@")) ∷ (e 18 19 (codes "x@")) ∷ (e 22 23 (codes "x@")) ∷ (e 27 28 (codes "x@")) ∷ (e 33 34 (codes "x@")) ∷ []) ∷ [])
unfolding base_names standard_libraries prelude encode_utf8 chars spelled is_numeral is_identifier is_initial is_subsequent ucd_category
edits-after_marks = refl

pub edits-name_0 : edit_rows (((s 0 1) ∷ (s 1 7) ∷ (s 8 9) ∷ (s 10 11) ∷ (s 11 12) ∷ (s 13 14) ∷ []) ∷ []) ((Some (((g.list (p 0 4 0 12) (g.part (g.atom (p 1 1 1 7) (g.spelled (k.Name (codes "define") false))) (g.part (g.atom (p 2 2 8 9) (g.spelled (k.Name (codes "a") false))) (g.part (g.atom (p 3 3 10 11) (g.spelled (k.Numeral (codes "1")))) g.none))))) ∷ ((g.atom (p 5 5 13 14) (g.spelled (k.Name (codes "a") false)))) ∷ [])) ∷ []) (((codes "(define a 1) a")) ∷ []) 0 8 (codes "+") ≡ (((e 8 9 (codes "+")) ∷ (e 13 14 (codes "+")) ∷ []) ∷ [])
unfolding base_names standard_libraries prelude encode_utf8 chars spelled is_numeral is_identifier is_initial is_subsequent ucd_category
edits-name_0 = refl

pub edits-name_1 : edit_rows (((s 0 1) ∷ (s 1 7) ∷ (s 8 9) ∷ (s 10 11) ∷ (s 11 12) ∷ (s 13 14) ∷ []) ∷ []) ((Some (((g.list (p 0 4 0 12) (g.part (g.atom (p 1 1 1 7) (g.spelled (k.Name (codes "define") false))) (g.part (g.atom (p 2 2 8 9) (g.spelled (k.Name (codes "a") false))) (g.part (g.atom (p 3 3 10 11) (g.spelled (k.Numeral (codes "1")))) g.none))))) ∷ ((g.atom (p 5 5 13 14) (g.spelled (k.Name (codes "a") false)))) ∷ [])) ∷ []) (((codes "(define a 1) a")) ∷ []) 0 8 (codes "-") ≡ (((e 8 9 (codes "-")) ∷ (e 13 14 (codes "-")) ∷ []) ∷ [])
unfolding base_names standard_libraries prelude encode_utf8 chars spelled is_numeral is_identifier is_initial is_subsequent ucd_category
edits-name_1 = refl

pub edits-name_2 : edit_rows (((s 0 1) ∷ (s 1 7) ∷ (s 8 9) ∷ (s 10 11) ∷ (s 11 12) ∷ (s 13 14) ∷ []) ∷ []) ((Some (((g.list (p 0 4 0 12) (g.part (g.atom (p 1 1 1 7) (g.spelled (k.Name (codes "define") false))) (g.part (g.atom (p 2 2 8 9) (g.spelled (k.Name (codes "a") false))) (g.part (g.atom (p 3 3 10 11) (g.spelled (k.Numeral (codes "1")))) g.none))))) ∷ ((g.atom (p 5 5 13 14) (g.spelled (k.Name (codes "a") false)))) ∷ [])) ∷ []) (((codes "(define a 1) a")) ∷ []) 0 8 (codes "1+") ≡ (((e 8 9 (124 ∷ 49 ∷ 43 ∷ 124 ∷ [])) ∷ (e 13 14 (124 ∷ 49 ∷ 43 ∷ 124 ∷ [])) ∷ []) ∷ [])
unfolding base_names standard_libraries prelude encode_utf8 chars spelled is_numeral is_identifier is_initial is_subsequent ucd_category
edits-name_2 = refl

pub edits-name_3 : edit_rows (((s 0 1) ∷ (s 1 7) ∷ (s 8 9) ∷ (s 10 11) ∷ (s 11 12) ∷ (s 13 14) ∷ []) ∷ []) ((Some (((g.list (p 0 4 0 12) (g.part (g.atom (p 1 1 1 7) (g.spelled (k.Name (codes "define") false))) (g.part (g.atom (p 2 2 8 9) (g.spelled (k.Name (codes "a") false))) (g.part (g.atom (p 3 3 10 11) (g.spelled (k.Numeral (codes "1")))) g.none))))) ∷ ((g.atom (p 5 5 13 14) (g.spelled (k.Name (codes "a") false)))) ∷ [])) ∷ []) (((codes "(define a 1) a")) ∷ []) 0 8 (codes "+i") ≡ (((e 8 9 (124 ∷ 43 ∷ 105 ∷ 124 ∷ [])) ∷ (e 13 14 (124 ∷ 43 ∷ 105 ∷ 124 ∷ [])) ∷ []) ∷ [])
unfolding base_names standard_libraries prelude encode_utf8 chars spelled is_numeral is_identifier is_initial is_subsequent ucd_category
edits-name_3 = refl

pub edits-name_4 : edit_rows (((s 0 1) ∷ (s 1 7) ∷ (s 8 9) ∷ (s 10 11) ∷ (s 11 12) ∷ (s 13 14) ∷ []) ∷ []) ((Some (((g.list (p 0 4 0 12) (g.part (g.atom (p 1 1 1 7) (g.spelled (k.Name (codes "define") false))) (g.part (g.atom (p 2 2 8 9) (g.spelled (k.Name (codes "a") false))) (g.part (g.atom (p 3 3 10 11) (g.spelled (k.Numeral (codes "1")))) g.none))))) ∷ ((g.atom (p 5 5 13 14) (g.spelled (k.Name (codes "a") false)))) ∷ [])) ∷ []) (((codes "(define a 1) a")) ∷ []) 0 8 (codes "-i") ≡ (((e 8 9 (124 ∷ 45 ∷ 105 ∷ 124 ∷ [])) ∷ (e 13 14 (124 ∷ 45 ∷ 105 ∷ 124 ∷ [])) ∷ []) ∷ [])
unfolding base_names standard_libraries prelude encode_utf8 chars spelled is_numeral is_identifier is_initial is_subsequent ucd_category
edits-name_4 = refl

pub edits-name_5 : edit_rows (((s 0 1) ∷ (s 1 7) ∷ (s 8 9) ∷ (s 10 11) ∷ (s 11 12) ∷ (s 13 14) ∷ []) ∷ []) ((Some (((g.list (p 0 4 0 12) (g.part (g.atom (p 1 1 1 7) (g.spelled (k.Name (codes "define") false))) (g.part (g.atom (p 2 2 8 9) (g.spelled (k.Name (codes "a") false))) (g.part (g.atom (p 3 3 10 11) (g.spelled (k.Numeral (codes "1")))) g.none))))) ∷ ((g.atom (p 5 5 13 14) (g.spelled (k.Name (codes "a") false)))) ∷ [])) ∷ []) (((codes "(define a 1) a")) ∷ []) 0 8 (codes "+inf.0") ≡ (((e 8 9 (124 ∷ 43 ∷ 105 ∷ 110 ∷ 102 ∷ 46 ∷ 48 ∷ 124 ∷ [])) ∷ (e 13 14 (124 ∷ 43 ∷ 105 ∷ 110 ∷ 102 ∷ 46 ∷ 48 ∷ 124 ∷ [])) ∷ []) ∷ [])
unfolding base_names standard_libraries prelude encode_utf8 chars spelled is_numeral is_identifier is_initial is_subsequent ucd_category
edits-name_5 = refl

pub edits-name_6 : edit_rows (((s 0 1) ∷ (s 1 7) ∷ (s 8 9) ∷ (s 10 11) ∷ (s 11 12) ∷ (s 13 14) ∷ []) ∷ []) ((Some (((g.list (p 0 4 0 12) (g.part (g.atom (p 1 1 1 7) (g.spelled (k.Name (codes "define") false))) (g.part (g.atom (p 2 2 8 9) (g.spelled (k.Name (codes "a") false))) (g.part (g.atom (p 3 3 10 11) (g.spelled (k.Numeral (codes "1")))) g.none))))) ∷ ((g.atom (p 5 5 13 14) (g.spelled (k.Name (codes "a") false)))) ∷ [])) ∷ []) (((codes "(define a 1) a")) ∷ []) 0 8 (codes "+x") ≡ (((e 8 9 (codes "+x")) ∷ (e 13 14 (codes "+x")) ∷ []) ∷ [])
unfolding base_names standard_libraries prelude encode_utf8 chars spelled is_numeral is_identifier is_initial is_subsequent ucd_category
edits-name_6 = refl

pub edits-name_7 : edit_rows (((s 0 1) ∷ (s 1 7) ∷ (s 8 9) ∷ (s 10 11) ∷ (s 11 12) ∷ (s 13 14) ∷ []) ∷ []) ((Some (((g.list (p 0 4 0 12) (g.part (g.atom (p 1 1 1 7) (g.spelled (k.Name (codes "define") false))) (g.part (g.atom (p 2 2 8 9) (g.spelled (k.Name (codes "a") false))) (g.part (g.atom (p 3 3 10 11) (g.spelled (k.Numeral (codes "1")))) g.none))))) ∷ ((g.atom (p 5 5 13 14) (g.spelled (k.Name (codes "a") false)))) ∷ [])) ∷ []) (((codes "(define a 1) a")) ∷ []) 0 8 (codes ".5") ≡ (((e 8 9 (124 ∷ 46 ∷ 53 ∷ 124 ∷ [])) ∷ (e 13 14 (124 ∷ 46 ∷ 53 ∷ 124 ∷ [])) ∷ []) ∷ [])
unfolding base_names standard_libraries prelude encode_utf8 chars spelled is_numeral is_identifier is_initial is_subsequent ucd_category
edits-name_7 = refl

pub edits-name_8 : edit_rows (((s 0 1) ∷ (s 1 7) ∷ (s 8 9) ∷ (s 10 11) ∷ (s 11 12) ∷ (s 13 14) ∷ []) ∷ []) ((Some (((g.list (p 0 4 0 12) (g.part (g.atom (p 1 1 1 7) (g.spelled (k.Name (codes "define") false))) (g.part (g.atom (p 2 2 8 9) (g.spelled (k.Name (codes "a") false))) (g.part (g.atom (p 3 3 10 11) (g.spelled (k.Numeral (codes "1")))) g.none))))) ∷ ((g.atom (p 5 5 13 14) (g.spelled (k.Name (codes "a") false)))) ∷ [])) ∷ []) (((codes "(define a 1) a")) ∷ []) 0 8 (codes ".") ≡ (((e 8 9 (124 ∷ 46 ∷ 124 ∷ [])) ∷ (e 13 14 (124 ∷ 46 ∷ 124 ∷ [])) ∷ []) ∷ [])
unfolding base_names standard_libraries prelude encode_utf8 chars spelled is_numeral is_identifier is_initial is_subsequent ucd_category
edits-name_8 = refl

pub edits-name_9 : edit_rows (((s 0 1) ∷ (s 1 7) ∷ (s 8 9) ∷ (s 10 11) ∷ (s 11 12) ∷ (s 13 14) ∷ []) ∷ []) ((Some (((g.list (p 0 4 0 12) (g.part (g.atom (p 1 1 1 7) (g.spelled (k.Name (codes "define") false))) (g.part (g.atom (p 2 2 8 9) (g.spelled (k.Name (codes "a") false))) (g.part (g.atom (p 3 3 10 11) (g.spelled (k.Numeral (codes "1")))) g.none))))) ∷ ((g.atom (p 5 5 13 14) (g.spelled (k.Name (codes "a") false)))) ∷ [])) ∷ []) (((codes "(define a 1) a")) ∷ []) 0 8 (codes ".a") ≡ (((e 8 9 (codes ".a")) ∷ (e 13 14 (codes ".a")) ∷ []) ∷ [])
unfolding base_names standard_libraries prelude encode_utf8 chars spelled is_numeral is_identifier is_initial is_subsequent ucd_category
edits-name_9 = refl

pub edits-name_10 : edit_rows (((s 0 1) ∷ (s 1 7) ∷ (s 8 9) ∷ (s 10 11) ∷ (s 11 12) ∷ (s 13 14) ∷ []) ∷ []) ((Some (((g.list (p 0 4 0 12) (g.part (g.atom (p 1 1 1 7) (g.spelled (k.Name (codes "define") false))) (g.part (g.atom (p 2 2 8 9) (g.spelled (k.Name (codes "a") false))) (g.part (g.atom (p 3 3 10 11) (g.spelled (k.Numeral (codes "1")))) g.none))))) ∷ ((g.atom (p 5 5 13 14) (g.spelled (k.Name (codes "a") false)))) ∷ [])) ∷ []) (((codes "(define a 1) a")) ∷ []) 0 8 (codes "..") ≡ (((e 8 9 (codes "..")) ∷ (e 13 14 (codes "..")) ∷ []) ∷ [])
unfolding base_names standard_libraries prelude encode_utf8 chars spelled is_numeral is_identifier is_initial is_subsequent ucd_category
edits-name_10 = refl

pub edits-name_11 : edit_rows (((s 0 1) ∷ (s 1 7) ∷ (s 8 9) ∷ (s 10 11) ∷ (s 11 12) ∷ (s 13 14) ∷ []) ∷ []) ((Some (((g.list (p 0 4 0 12) (g.part (g.atom (p 1 1 1 7) (g.spelled (k.Name (codes "define") false))) (g.part (g.atom (p 2 2 8 9) (g.spelled (k.Name (codes "a") false))) (g.part (g.atom (p 3 3 10 11) (g.spelled (k.Numeral (codes "1")))) g.none))))) ∷ ((g.atom (p 5 5 13 14) (g.spelled (k.Name (codes "a") false)))) ∷ [])) ∷ []) (((codes "(define a 1) a")) ∷ []) 0 8 (codes "-.a") ≡ (((e 8 9 (codes "-.a")) ∷ (e 13 14 (codes "-.a")) ∷ []) ∷ [])
unfolding base_names standard_libraries prelude encode_utf8 chars spelled is_numeral is_identifier is_initial is_subsequent ucd_category
edits-name_11 = refl

pub edits-name_12 : edit_rows (((s 0 1) ∷ (s 1 7) ∷ (s 8 9) ∷ (s 10 11) ∷ (s 11 12) ∷ (s 13 14) ∷ []) ∷ []) ((Some (((g.list (p 0 4 0 12) (g.part (g.atom (p 1 1 1 7) (g.spelled (k.Name (codes "define") false))) (g.part (g.atom (p 2 2 8 9) (g.spelled (k.Name (codes "a") false))) (g.part (g.atom (p 3 3 10 11) (g.spelled (k.Numeral (codes "1")))) g.none))))) ∷ ((g.atom (p 5 5 13 14) (g.spelled (k.Name (codes "a") false)))) ∷ [])) ∷ []) (((codes "(define a 1) a")) ∷ []) 0 8 (codes "-.1") ≡ (((e 8 9 (124 ∷ 45 ∷ 46 ∷ 49 ∷ 124 ∷ [])) ∷ (e 13 14 (124 ∷ 45 ∷ 46 ∷ 49 ∷ 124 ∷ [])) ∷ []) ∷ [])
unfolding base_names standard_libraries prelude encode_utf8 chars spelled is_numeral is_identifier is_initial is_subsequent ucd_category
edits-name_12 = refl

pub edits-name_13 : edit_rows (((s 0 1) ∷ (s 1 7) ∷ (s 8 9) ∷ (s 10 11) ∷ (s 11 12) ∷ (s 13 14) ∷ []) ∷ []) ((Some (((g.list (p 0 4 0 12) (g.part (g.atom (p 1 1 1 7) (g.spelled (k.Name (codes "define") false))) (g.part (g.atom (p 2 2 8 9) (g.spelled (k.Name (codes "a") false))) (g.part (g.atom (p 3 3 10 11) (g.spelled (k.Numeral (codes "1")))) g.none))))) ∷ ((g.atom (p 5 5 13 14) (g.spelled (k.Name (codes "a") false)))) ∷ [])) ∷ []) (((codes "(define a 1) a")) ∷ []) 0 8 (97 ∷ 124 ∷ 98 ∷ []) ≡ (((e 8 9 (124 ∷ 97 ∷ 92 ∷ 124 ∷ 98 ∷ 124 ∷ [])) ∷ (e 13 14 (124 ∷ 97 ∷ 92 ∷ 124 ∷ 98 ∷ 124 ∷ [])) ∷ []) ∷ [])
unfolding base_names standard_libraries prelude encode_utf8 chars spelled is_numeral is_identifier is_initial is_subsequent ucd_category
edits-name_13 = refl

pub edits-name_14 : edit_rows (((s 0 1) ∷ (s 1 7) ∷ (s 8 9) ∷ (s 10 11) ∷ (s 11 12) ∷ (s 13 14) ∷ []) ∷ []) ((Some (((g.list (p 0 4 0 12) (g.part (g.atom (p 1 1 1 7) (g.spelled (k.Name (codes "define") false))) (g.part (g.atom (p 2 2 8 9) (g.spelled (k.Name (codes "a") false))) (g.part (g.atom (p 3 3 10 11) (g.spelled (k.Numeral (codes "1")))) g.none))))) ∷ ((g.atom (p 5 5 13 14) (g.spelled (k.Name (codes "a") false)))) ∷ [])) ∷ []) (((codes "(define a 1) a")) ∷ []) 0 8 (97 ∷ 92 ∷ 98 ∷ []) ≡ (((e 8 9 (124 ∷ 97 ∷ 92 ∷ 120 ∷ 53 ∷ 99 ∷ 59 ∷ 98 ∷ 124 ∷ [])) ∷ (e 13 14 (124 ∷ 97 ∷ 92 ∷ 120 ∷ 53 ∷ 99 ∷ 59 ∷ 98 ∷ 124 ∷ [])) ∷ []) ∷ [])
unfolding base_names standard_libraries prelude encode_utf8 chars spelled is_numeral is_identifier is_initial is_subsequent ucd_category
edits-name_14 = refl

pub edits-name_15 : edit_rows (((s 0 1) ∷ (s 1 7) ∷ (s 8 9) ∷ (s 10 11) ∷ (s 11 12) ∷ (s 13 14) ∷ []) ∷ []) ((Some (((g.list (p 0 4 0 12) (g.part (g.atom (p 1 1 1 7) (g.spelled (k.Name (codes "define") false))) (g.part (g.atom (p 2 2 8 9) (g.spelled (k.Name (codes "a") false))) (g.part (g.atom (p 3 3 10 11) (g.spelled (k.Numeral (codes "1")))) g.none))))) ∷ ((g.atom (p 5 5 13 14) (g.spelled (k.Name (codes "a") false)))) ∷ [])) ∷ []) (((codes "(define a 1) a")) ∷ []) 0 8 (97 ∷ 9 ∷ 98 ∷ []) ≡ (((e 8 9 (124 ∷ 97 ∷ 92 ∷ 120 ∷ 57 ∷ 59 ∷ 98 ∷ 124 ∷ [])) ∷ (e 13 14 (124 ∷ 97 ∷ 92 ∷ 120 ∷ 57 ∷ 59 ∷ 98 ∷ 124 ∷ [])) ∷ []) ∷ [])
unfolding base_names standard_libraries prelude encode_utf8 chars spelled is_numeral is_identifier is_initial is_subsequent ucd_category
edits-name_15 = refl

pub edits-name_16 : edit_rows (((s 0 1) ∷ (s 1 7) ∷ (s 8 9) ∷ (s 10 11) ∷ (s 11 12) ∷ (s 13 14) ∷ []) ∷ []) ((Some (((g.list (p 0 4 0 12) (g.part (g.atom (p 1 1 1 7) (g.spelled (k.Name (codes "define") false))) (g.part (g.atom (p 2 2 8 9) (g.spelled (k.Name (codes "a") false))) (g.part (g.atom (p 3 3 10 11) (g.spelled (k.Numeral (codes "1")))) g.none))))) ∷ ((g.atom (p 5 5 13 14) (g.spelled (k.Name (codes "a") false)))) ∷ [])) ∷ []) (((codes "(define a 1) a")) ∷ []) 0 8 (97 ∷ 10 ∷ 98 ∷ []) ≡ (((e 8 9 (124 ∷ 97 ∷ 92 ∷ 120 ∷ 97 ∷ 59 ∷ 98 ∷ 124 ∷ [])) ∷ (e 13 14 (124 ∷ 97 ∷ 92 ∷ 120 ∷ 97 ∷ 59 ∷ 98 ∷ 124 ∷ [])) ∷ []) ∷ [])
unfolding base_names standard_libraries prelude encode_utf8 chars spelled is_numeral is_identifier is_initial is_subsequent ucd_category
edits-name_16 = refl

pub edits-name_17 : edit_rows (((s 0 1) ∷ (s 1 7) ∷ (s 8 9) ∷ (s 10 11) ∷ (s 11 12) ∷ (s 13 14) ∷ []) ∷ []) ((Some (((g.list (p 0 4 0 12) (g.part (g.atom (p 1 1 1 7) (g.spelled (k.Name (codes "define") false))) (g.part (g.atom (p 2 2 8 9) (g.spelled (k.Name (codes "a") false))) (g.part (g.atom (p 3 3 10 11) (g.spelled (k.Numeral (codes "1")))) g.none))))) ∷ ((g.atom (p 5 5 13 14) (g.spelled (k.Name (codes "a") false)))) ∷ [])) ∷ []) (((codes "(define a 1) a")) ∷ []) 0 8 (127 ∷ []) ≡ (((e 8 9 (124 ∷ 92 ∷ 120 ∷ 55 ∷ 102 ∷ 59 ∷ 124 ∷ [])) ∷ (e 13 14 (124 ∷ 92 ∷ 120 ∷ 55 ∷ 102 ∷ 59 ∷ 124 ∷ [])) ∷ []) ∷ [])
unfolding base_names standard_libraries prelude encode_utf8 chars spelled is_numeral is_identifier is_initial is_subsequent ucd_category
edits-name_17 = refl

pub edits-name_18 : edit_rows (((s 0 1) ∷ (s 1 7) ∷ (s 8 9) ∷ (s 10 11) ∷ (s 11 12) ∷ (s 13 14) ∷ []) ∷ []) ((Some (((g.list (p 0 4 0 12) (g.part (g.atom (p 1 1 1 7) (g.spelled (k.Name (codes "define") false))) (g.part (g.atom (p 2 2 8 9) (g.spelled (k.Name (codes "a") false))) (g.part (g.atom (p 3 3 10 11) (g.spelled (k.Numeral (codes "1")))) g.none))))) ∷ ((g.atom (p 5 5 13 14) (g.spelled (k.Name (codes "a") false)))) ∷ [])) ∷ []) (((codes "(define a 1) a")) ∷ []) 0 8 (97 ∷ 34 ∷ 98 ∷ []) ≡ (((e 8 9 (124 ∷ 97 ∷ 34 ∷ 98 ∷ 124 ∷ [])) ∷ (e 13 14 (124 ∷ 97 ∷ 34 ∷ 98 ∷ 124 ∷ [])) ∷ []) ∷ [])
unfolding base_names standard_libraries prelude encode_utf8 chars spelled is_numeral is_identifier is_initial is_subsequent ucd_category
edits-name_18 = refl

pub edits-name_19 : edit_rows (((s 0 1) ∷ (s 1 7) ∷ (s 8 9) ∷ (s 10 11) ∷ (s 11 12) ∷ (s 13 14) ∷ []) ∷ []) ((Some (((g.list (p 0 4 0 12) (g.part (g.atom (p 1 1 1 7) (g.spelled (k.Name (codes "define") false))) (g.part (g.atom (p 2 2 8 9) (g.spelled (k.Name (codes "a") false))) (g.part (g.atom (p 3 3 10 11) (g.spelled (k.Numeral (codes "1")))) g.none))))) ∷ ((g.atom (p 5 5 13 14) (g.spelled (k.Name (codes "a") false)))) ∷ [])) ∷ []) (((codes "(define a 1) a")) ∷ []) 0 8 (codes "a;b") ≡ (((e 8 9 (124 ∷ 97 ∷ 59 ∷ 98 ∷ 124 ∷ [])) ∷ (e 13 14 (124 ∷ 97 ∷ 59 ∷ 98 ∷ 124 ∷ [])) ∷ []) ∷ [])
unfolding base_names standard_libraries prelude encode_utf8 chars spelled is_numeral is_identifier is_initial is_subsequent ucd_category
edits-name_19 = refl

pub edits-name_20 : edit_rows (((s 0 1) ∷ (s 1 7) ∷ (s 8 9) ∷ (s 10 11) ∷ (s 11 12) ∷ (s 13 14) ∷ []) ∷ []) ((Some (((g.list (p 0 4 0 12) (g.part (g.atom (p 1 1 1 7) (g.spelled (k.Name (codes "define") false))) (g.part (g.atom (p 2 2 8 9) (g.spelled (k.Name (codes "a") false))) (g.part (g.atom (p 3 3 10 11) (g.spelled (k.Numeral (codes "1")))) g.none))))) ∷ ((g.atom (p 5 5 13 14) (g.spelled (k.Name (codes "a") false)))) ∷ [])) ∷ []) (((codes "(define a 1) a")) ∷ []) 0 8 (codes "a(b") ≡ (((e 8 9 (124 ∷ 97 ∷ 40 ∷ 98 ∷ 124 ∷ [])) ∷ (e 13 14 (124 ∷ 97 ∷ 40 ∷ 98 ∷ 124 ∷ [])) ∷ []) ∷ [])
unfolding base_names standard_libraries prelude encode_utf8 chars spelled is_numeral is_identifier is_initial is_subsequent ucd_category
edits-name_20 = refl

pub edits-name_21 : edit_rows (((s 0 1) ∷ (s 1 7) ∷ (s 8 9) ∷ (s 10 11) ∷ (s 11 12) ∷ (s 13 14) ∷ []) ∷ []) ((Some (((g.list (p 0 4 0 12) (g.part (g.atom (p 1 1 1 7) (g.spelled (k.Name (codes "define") false))) (g.part (g.atom (p 2 2 8 9) (g.spelled (k.Name (codes "a") false))) (g.part (g.atom (p 3 3 10 11) (g.spelled (k.Numeral (codes "1")))) g.none))))) ∷ ((g.atom (p 5 5 13 14) (g.spelled (k.Name (codes "a") false)))) ∷ [])) ∷ []) (((codes "(define a 1) a")) ∷ []) 0 8 (codes "#a") ≡ (((e 8 9 (124 ∷ 35 ∷ 97 ∷ 124 ∷ [])) ∷ (e 13 14 (124 ∷ 35 ∷ 97 ∷ 124 ∷ [])) ∷ []) ∷ [])
unfolding base_names standard_libraries prelude encode_utf8 chars spelled is_numeral is_identifier is_initial is_subsequent ucd_category
edits-name_21 = refl

pub edits-name_22 : edit_rows (((s 0 1) ∷ (s 1 7) ∷ (s 8 9) ∷ (s 10 11) ∷ (s 11 12) ∷ (s 13 14) ∷ []) ∷ []) ((Some (((g.list (p 0 4 0 12) (g.part (g.atom (p 1 1 1 7) (g.spelled (k.Name (codes "define") false))) (g.part (g.atom (p 2 2 8 9) (g.spelled (k.Name (codes "a") false))) (g.part (g.atom (p 3 3 10 11) (g.spelled (k.Numeral (codes "1")))) g.none))))) ∷ ((g.atom (p 5 5 13 14) (g.spelled (k.Name (codes "a") false)))) ∷ [])) ∷ []) (((codes "(define a 1) a")) ∷ []) 0 8 (codes "a'b") ≡ (((e 8 9 (124 ∷ 97 ∷ 39 ∷ 98 ∷ 124 ∷ [])) ∷ (e 13 14 (124 ∷ 97 ∷ 39 ∷ 98 ∷ 124 ∷ [])) ∷ []) ∷ [])
unfolding base_names standard_libraries prelude encode_utf8 chars spelled is_numeral is_identifier is_initial is_subsequent ucd_category
edits-name_22 = refl

pub edits-name_23 : edit_rows (((s 0 1) ∷ (s 1 7) ∷ (s 8 9) ∷ (s 10 11) ∷ (s 11 12) ∷ (s 13 14) ∷ []) ∷ []) ((Some (((g.list (p 0 4 0 12) (g.part (g.atom (p 1 1 1 7) (g.spelled (k.Name (codes "define") false))) (g.part (g.atom (p 2 2 8 9) (g.spelled (k.Name (codes "a") false))) (g.part (g.atom (p 3 3 10 11) (g.spelled (k.Numeral (codes "1")))) g.none))))) ∷ ((g.atom (p 5 5 13 14) (g.spelled (k.Name (codes "a") false)))) ∷ [])) ∷ []) (((codes "(define a 1) a")) ∷ []) 0 8 (codes "a#") ≡ (((e 8 9 (124 ∷ 97 ∷ 35 ∷ 124 ∷ [])) ∷ (e 13 14 (124 ∷ 97 ∷ 35 ∷ 124 ∷ [])) ∷ []) ∷ [])
unfolding base_names standard_libraries prelude encode_utf8 chars spelled is_numeral is_identifier is_initial is_subsequent ucd_category
edits-name_23 = refl

pub edits-name_24 : edit_rows (((s 0 1) ∷ (s 1 7) ∷ (s 8 9) ∷ (s 10 11) ∷ (s 11 12) ∷ (s 13 14) ∷ []) ∷ []) ((Some (((g.list (p 0 4 0 12) (g.part (g.atom (p 1 1 1 7) (g.spelled (k.Name (codes "define") false))) (g.part (g.atom (p 2 2 8 9) (g.spelled (k.Name (codes "a") false))) (g.part (g.atom (p 3 3 10 11) (g.spelled (k.Numeral (codes "1")))) g.none))))) ∷ ((g.atom (p 5 5 13 14) (g.spelled (k.Name (codes "a") false)))) ∷ [])) ∷ []) (((codes "(define a 1) a")) ∷ []) 0 8 (codes "A") ≡ (((e 8 9 (codes "A")) ∷ (e 13 14 (codes "A")) ∷ []) ∷ [])
unfolding base_names standard_libraries prelude encode_utf8 chars spelled is_numeral is_identifier is_initial is_subsequent ucd_category
edits-name_24 = refl

pub edits-name_25 : edit_rows (((s 0 1) ∷ (s 1 7) ∷ (s 8 9) ∷ (s 10 11) ∷ (s 11 12) ∷ (s 13 14) ∷ []) ∷ []) ((Some (((g.list (p 0 4 0 12) (g.part (g.atom (p 1 1 1 7) (g.spelled (k.Name (codes "define") false))) (g.part (g.atom (p 2 2 8 9) (g.spelled (k.Name (codes "a") false))) (g.part (g.atom (p 3 3 10 11) (g.spelled (k.Numeral (codes "1")))) g.none))))) ∷ ((g.atom (p 5 5 13 14) (g.spelled (k.Name (codes "a") false)))) ∷ [])) ∷ []) (((codes "(define a 1) a")) ∷ []) 0 8 (239 ∷ 187 ∷ 191 ∷ []) ≡ (((e 8 9 (124 ∷ 239 ∷ 187 ∷ 191 ∷ 124 ∷ [])) ∷ (e 13 14 (124 ∷ 239 ∷ 187 ∷ 191 ∷ 124 ∷ [])) ∷ []) ∷ [])
unfolding base_names standard_libraries prelude encode_utf8 chars spelled is_numeral is_identifier is_initial is_subsequent ucd_category
edits-name_25 = refl

pub edits-name_26 : edit_rows (((s 0 1) ∷ (s 1 7) ∷ (s 8 9) ∷ (s 10 11) ∷ (s 11 12) ∷ (s 13 14) ∷ []) ∷ []) ((Some (((g.list (p 0 4 0 12) (g.part (g.atom (p 1 1 1 7) (g.spelled (k.Name (codes "define") false))) (g.part (g.atom (p 2 2 8 9) (g.spelled (k.Name (codes "a") false))) (g.part (g.atom (p 3 3 10 11) (g.spelled (k.Numeral (codes "1")))) g.none))))) ∷ ((g.atom (p 5 5 13 14) (g.spelled (k.Name (codes "a") false)))) ∷ [])) ∷ []) (((codes "(define a 1) a")) ∷ []) 0 8 (97 ∷ 226 ∷ 128 ∷ 141 ∷ []) ≡ (((e 8 9 (97 ∷ 226 ∷ 128 ∷ 141 ∷ [])) ∷ (e 13 14 (97 ∷ 226 ∷ 128 ∷ 141 ∷ [])) ∷ []) ∷ [])
unfolding base_names standard_libraries prelude encode_utf8 chars spelled is_numeral is_identifier is_initial is_subsequent ucd_category
edits-name_26 = refl

pub edits-name_27 : edit_rows (((s 0 1) ∷ (s 1 7) ∷ (s 8 9) ∷ (s 10 11) ∷ (s 11 12) ∷ (s 13 14) ∷ []) ∷ []) ((Some (((g.list (p 0 4 0 12) (g.part (g.atom (p 1 1 1 7) (g.spelled (k.Name (codes "define") false))) (g.part (g.atom (p 2 2 8 9) (g.spelled (k.Name (codes "a") false))) (g.part (g.atom (p 3 3 10 11) (g.spelled (k.Numeral (codes "1")))) g.none))))) ∷ ((g.atom (p 5 5 13 14) (g.spelled (k.Name (codes "a") false)))) ∷ [])) ∷ []) (((codes "(define a 1) a")) ∷ []) 0 8 (226 ∷ 128 ∷ 141 ∷ []) ≡ (((e 8 9 (226 ∷ 128 ∷ 141 ∷ [])) ∷ (e 13 14 (226 ∷ 128 ∷ 141 ∷ [])) ∷ []) ∷ [])
unfolding base_names standard_libraries prelude encode_utf8 chars spelled is_numeral is_identifier is_initial is_subsequent ucd_category
edits-name_27 = refl

pub edits-name_28 : edit_rows (((s 0 1) ∷ (s 1 7) ∷ (s 8 9) ∷ (s 10 11) ∷ (s 11 12) ∷ (s 13 14) ∷ []) ∷ []) ((Some (((g.list (p 0 4 0 12) (g.part (g.atom (p 1 1 1 7) (g.spelled (k.Name (codes "define") false))) (g.part (g.atom (p 2 2 8 9) (g.spelled (k.Name (codes "a") false))) (g.part (g.atom (p 3 3 10 11) (g.spelled (k.Numeral (codes "1")))) g.none))))) ∷ ((g.atom (p 5 5 13 14) (g.spelled (k.Name (codes "a") false)))) ∷ [])) ∷ []) (((codes "(define a 1) a")) ∷ []) 0 8 (195 ∷ 169 ∷ []) ≡ (((e 8 9 (195 ∷ 169 ∷ [])) ∷ (e 13 14 (195 ∷ 169 ∷ [])) ∷ []) ∷ [])
unfolding base_names standard_libraries prelude encode_utf8 chars spelled is_numeral is_identifier is_initial is_subsequent ucd_category
edits-name_28 = refl

pub edits-name_29 : edit_rows (((s 0 1) ∷ (s 1 7) ∷ (s 8 9) ∷ (s 10 11) ∷ (s 11 12) ∷ (s 13 14) ∷ []) ∷ []) ((Some (((g.list (p 0 4 0 12) (g.part (g.atom (p 1 1 1 7) (g.spelled (k.Name (codes "define") false))) (g.part (g.atom (p 2 2 8 9) (g.spelled (k.Name (codes "a") false))) (g.part (g.atom (p 3 3 10 11) (g.spelled (k.Numeral (codes "1")))) g.none))))) ∷ ((g.atom (p 5 5 13 14) (g.spelled (k.Name (codes "a") false)))) ∷ [])) ∷ []) (((codes "(define a 1) a")) ∷ []) 0 8 (217 ∷ 163 ∷ []) ≡ (((e 8 9 (124 ∷ 217 ∷ 163 ∷ 124 ∷ [])) ∷ (e 13 14 (124 ∷ 217 ∷ 163 ∷ 124 ∷ [])) ∷ []) ∷ [])
unfolding base_names standard_libraries prelude encode_utf8 chars spelled is_numeral is_identifier is_initial is_subsequent ucd_category
edits-name_29 = refl

pub edits-name_30 : edit_rows (((s 0 1) ∷ (s 1 7) ∷ (s 8 9) ∷ (s 10 11) ∷ (s 11 12) ∷ (s 13 14) ∷ []) ∷ []) ((Some (((g.list (p 0 4 0 12) (g.part (g.atom (p 1 1 1 7) (g.spelled (k.Name (codes "define") false))) (g.part (g.atom (p 2 2 8 9) (g.spelled (k.Name (codes "a") false))) (g.part (g.atom (p 3 3 10 11) (g.spelled (k.Numeral (codes "1")))) g.none))))) ∷ ((g.atom (p 5 5 13 14) (g.spelled (k.Name (codes "a") false)))) ∷ [])) ∷ []) (((codes "(define a 1) a")) ∷ []) 0 8 (97 ∷ 217 ∷ 163 ∷ []) ≡ (((e 8 9 (97 ∷ 217 ∷ 163 ∷ [])) ∷ (e 13 14 (97 ∷ 217 ∷ 163 ∷ [])) ∷ []) ∷ [])
unfolding base_names standard_libraries prelude encode_utf8 chars spelled is_numeral is_identifier is_initial is_subsequent ucd_category
edits-name_30 = refl

pub edits-name_31 : edit_rows (((s 0 1) ∷ (s 1 7) ∷ (s 8 9) ∷ (s 10 11) ∷ (s 11 12) ∷ (s 13 14) ∷ []) ∷ []) ((Some (((g.list (p 0 4 0 12) (g.part (g.atom (p 1 1 1 7) (g.spelled (k.Name (codes "define") false))) (g.part (g.atom (p 2 2 8 9) (g.spelled (k.Name (codes "a") false))) (g.part (g.atom (p 3 3 10 11) (g.spelled (k.Numeral (codes "1")))) g.none))))) ∷ ((g.atom (p 5 5 13 14) (g.spelled (k.Name (codes "a") false)))) ∷ [])) ∷ []) (((codes "(define a 1) a")) ∷ []) 0 8 (codes "+e") ≡ (((e 8 9 (codes "+e")) ∷ (e 13 14 (codes "+e")) ∷ []) ∷ [])
unfolding base_names standard_libraries prelude encode_utf8 chars spelled is_numeral is_identifier is_initial is_subsequent ucd_category
edits-name_31 = refl

pub edits-name_32 : edit_rows (((s 0 1) ∷ (s 1 7) ∷ (s 8 9) ∷ (s 10 11) ∷ (s 11 12) ∷ (s 13 14) ∷ []) ∷ []) ((Some (((g.list (p 0 4 0 12) (g.part (g.atom (p 1 1 1 7) (g.spelled (k.Name (codes "define") false))) (g.part (g.atom (p 2 2 8 9) (g.spelled (k.Name (codes "a") false))) (g.part (g.atom (p 3 3 10 11) (g.spelled (k.Numeral (codes "1")))) g.none))))) ∷ ((g.atom (p 5 5 13 14) (g.spelled (k.Name (codes "a") false)))) ∷ [])) ∷ []) (((codes "(define a 1) a")) ∷ []) 0 8 (codes "1") ≡ (((e 8 9 (124 ∷ 49 ∷ 124 ∷ [])) ∷ (e 13 14 (124 ∷ 49 ∷ 124 ∷ [])) ∷ []) ∷ [])
unfolding base_names standard_libraries prelude encode_utf8 chars spelled is_numeral is_identifier is_initial is_subsequent ucd_category
edits-name_32 = refl

pub edits-name_33 : edit_rows (((s 0 1) ∷ (s 1 7) ∷ (s 8 9) ∷ (s 10 11) ∷ (s 11 12) ∷ (s 13 14) ∷ []) ∷ []) ((Some (((g.list (p 0 4 0 12) (g.part (g.atom (p 1 1 1 7) (g.spelled (k.Name (codes "define") false))) (g.part (g.atom (p 2 2 8 9) (g.spelled (k.Name (codes "a") false))) (g.part (g.atom (p 3 3 10 11) (g.spelled (k.Numeral (codes "1")))) g.none))))) ∷ ((g.atom (p 5 5 13 14) (g.spelled (k.Name (codes "a") false)))) ∷ [])) ∷ []) (((codes "(define a 1) a")) ∷ []) 0 8 (codes "->x") ≡ (((e 8 9 (codes "->x")) ∷ (e 13 14 (codes "->x")) ∷ []) ∷ [])
unfolding base_names standard_libraries prelude encode_utf8 chars spelled is_numeral is_identifier is_initial is_subsequent ucd_category
edits-name_33 = refl

pub edits-name_34 : edit_rows (((s 0 1) ∷ (s 1 7) ∷ (s 8 9) ∷ (s 10 11) ∷ (s 11 12) ∷ (s 13 14) ∷ []) ∷ []) ((Some (((g.list (p 0 4 0 12) (g.part (g.atom (p 1 1 1 7) (g.spelled (k.Name (codes "define") false))) (g.part (g.atom (p 2 2 8 9) (g.spelled (k.Name (codes "a") false))) (g.part (g.atom (p 3 3 10 11) (g.spelled (k.Numeral (codes "1")))) g.none))))) ∷ ((g.atom (p 5 5 13 14) (g.spelled (k.Name (codes "a") false)))) ∷ [])) ∷ []) (((codes "(define a 1) a")) ∷ []) 0 8 (codes "s:...") ≡ (((e 8 9 (codes "s:...")) ∷ (e 13 14 (codes "s:...")) ∷ []) ∷ [])
unfolding base_names standard_libraries prelude encode_utf8 chars spelled is_numeral is_identifier is_initial is_subsequent ucd_category
edits-name_34 = refl

pub edits-name_35 : edit_rows (((s 0 1) ∷ (s 1 7) ∷ (s 8 9) ∷ (s 10 11) ∷ (s 11 12) ∷ (s 13 14) ∷ []) ∷ []) ((Some (((g.list (p 0 4 0 12) (g.part (g.atom (p 1 1 1 7) (g.spelled (k.Name (codes "define") false))) (g.part (g.atom (p 2 2 8 9) (g.spelled (k.Name (codes "a") false))) (g.part (g.atom (p 3 3 10 11) (g.spelled (k.Numeral (codes "1")))) g.none))))) ∷ ((g.atom (p 5 5 13 14) (g.spelled (k.Name (codes "a") false)))) ∷ [])) ∷ []) (((codes "(define a 1) a")) ∷ []) 0 8 (codes "@") ≡ (((e 8 9 (124 ∷ 64 ∷ 124 ∷ [])) ∷ (e 13 14 (124 ∷ 64 ∷ 124 ∷ [])) ∷ []) ∷ [])
unfolding base_names standard_libraries prelude encode_utf8 chars spelled is_numeral is_identifier is_initial is_subsequent ucd_category
edits-name_35 = refl

pub edits-name_36 : edit_rows (((s 0 1) ∷ (s 1 7) ∷ (s 8 9) ∷ (s 10 11) ∷ (s 11 12) ∷ (s 13 14) ∷ []) ∷ []) ((Some (((g.list (p 0 4 0 12) (g.part (g.atom (p 1 1 1 7) (g.spelled (k.Name (codes "define") false))) (g.part (g.atom (p 2 2 8 9) (g.spelled (k.Name (codes "a") false))) (g.part (g.atom (p 3 3 10 11) (g.spelled (k.Numeral (codes "1")))) g.none))))) ∷ ((g.atom (p 5 5 13 14) (g.spelled (k.Name (codes "a") false)))) ∷ [])) ∷ []) (((codes "(define a 1) a")) ∷ []) 0 8 (codes "a@b") ≡ (((e 8 9 (codes "a@b")) ∷ (e 13 14 (codes "a@b")) ∷ []) ∷ [])
unfolding base_names standard_libraries prelude encode_utf8 chars spelled is_numeral is_identifier is_initial is_subsequent ucd_category
edits-name_36 = refl

pub edits-name_37 : edit_rows (((s 0 1) ∷ (s 1 7) ∷ (s 8 9) ∷ (s 10 11) ∷ (s 11 12) ∷ (s 13 14) ∷ []) ∷ []) ((Some (((g.list (p 0 4 0 12) (g.part (g.atom (p 1 1 1 7) (g.spelled (k.Name (codes "define") false))) (g.part (g.atom (p 2 2 8 9) (g.spelled (k.Name (codes "a") false))) (g.part (g.atom (p 3 3 10 11) (g.spelled (k.Numeral (codes "1")))) g.none))))) ∷ ((g.atom (p 5 5 13 14) (g.spelled (k.Name (codes "a") false)))) ∷ [])) ∷ []) (((codes "(define a 1) a")) ∷ []) 0 8 (codes " ") ≡ (((e 8 9 (124 ∷ 32 ∷ 124 ∷ [])) ∷ (e 13 14 (124 ∷ 32 ∷ 124 ∷ [])) ∷ []) ∷ [])
unfolding base_names standard_libraries prelude encode_utf8 chars spelled is_numeral is_identifier is_initial is_subsequent ucd_category
edits-name_37 = refl

pub edits-prefix : edit_rows (((s 0 1) ∷ (s 1 15) ∷ (s 16 17) ∷ (s 17 18) ∷ (s 18 19) ∷ (s 21 22) ∷ (s 22 28) ∷ (s 29 30) ∷ (s 30 31) ∷ (s 33 34) ∷ (s 34 40) ∷ (s 41 42) ∷ (s 42 48) ∷ (s 49 53) ∷ (s 53 54) ∷ (s 54 55) ∷ (s 57 58) ∷ (s 58 63) ∷ (s 64 65) ∷ (s 65 71) ∷ (s 72 73) ∷ (s 74 75) ∷ (s 75 76) ∷ (s 78 79) ∷ (s 79 85) ∷ (s 86 87) ∷ (s 87 88) ∷ (s 88 89) ∷ (s 90 91) ∷ (s 91 92) ∷ (s 92 93) ∷ (s 93 94) ∷ []) ∷ ((s 0 1) ∷ (s 1 7) ∷ (s 8 9) ∷ (s 9 15) ∷ (s 16 20) ∷ (s 20 21) ∷ (s 22 23) ∷ (s 23 29) ∷ (s 30 31) ∷ (s 31 32) ∷ (s 32 33) ∷ (s 34 36) ∷ (s 36 37) ∷ (s 37 38) ∷ (s 39 40) ∷ (s 40 44) ∷ (s 45 48) ∷ (s 49 54) ∷ (s 55 56) ∷ (s 56 57) ∷ []) ∷ []) ((Some (((g.list (p 0 31 0 94) (g.part (g.atom (p 1 1 1 15) (g.spelled (k.Name (codes "define-library") false))) (g.part (g.list (p 2 4 16 19) (g.part (g.atom (p 3 3 17 18) (g.spelled (k.Name (codes "l") false))) g.none)) (g.part (g.list (p 5 8 21 31) (g.part (g.atom (p 6 6 22 28) (g.spelled (k.Name (codes "export") false))) (g.part (g.atom (p 7 7 29 30) (g.spelled (k.Name (codes "x") false))) g.none))) (g.part (g.list (p 9 15 33 55) (g.part (g.atom (p 10 10 34 40) (g.spelled (k.Name (codes "import") false))) (g.part (g.list (p 11 14 41 54) (g.part (g.atom (p 12 12 42 48) (g.spelled (k.Name (codes "scheme") false))) (g.part (g.atom (p 13 13 49 53) (g.spelled (k.Name (codes "base") false))) g.none))) g.none))) (g.part (g.list (p 16 30 57 93) (g.part (g.atom (p 17 17 58 63) (g.spelled (k.Name (codes "begin") false))) (g.part (g.list (p 18 22 64 76) (g.part (g.atom (p 19 19 65 71) (g.spelled (k.Name (codes "define") false))) (g.part (g.atom (p 20 20 72 73) (g.spelled (k.Name (codes "x") false))) (g.part (g.atom (p 21 21 74 75) (g.spelled (k.Numeral (codes "1")))) g.none)))) (g.part (g.list (p 23 29 78 92) (g.part (g.atom (p 24 24 79 85) (g.spelled (k.Name (codes "define") false))) (g.part (g.list (p 25 27 86 89) (g.part (g.atom (p 26 26 87 88) (g.spelled (k.Name (codes "f") false))) g.none)) (g.part (g.atom (p 28 28 90 91) (g.spelled (k.Name (codes "x") false))) g.none)))) g.none)))) g.none))))))) ∷ [])) ∷ (Some (((g.list (p 0 13 0 38) (g.part (g.atom (p 1 1 1 7) (g.spelled (k.Name (codes "import") false))) (g.part (g.list (p 2 5 8 21) (g.part (g.atom (p 3 3 9 15) (g.spelled (k.Name (codes "scheme") false))) (g.part (g.atom (p 4 4 16 20) (g.spelled (k.Name (codes "base") false))) g.none))) (g.part (g.list (p 6 12 22 37) (g.part (g.atom (p 7 7 23 29) (g.spelled (k.Name (codes "prefix") false))) (g.part (g.list (p 8 10 30 33) (g.part (g.atom (p 9 9 31 32) (g.spelled (k.Name (codes "l") false))) g.none)) (g.part (g.atom (p 11 11 34 36) (g.spelled (k.Name (codes "s:") false))) g.none)))) g.none))))) ∷ ((g.list (p 14 19 39 57) (g.part (g.atom (p 15 15 40 44) (g.spelled (k.Name (codes "list") false))) (g.part (g.atom (p 16 16 45 48) (g.spelled (k.Name (codes "s:x") false))) (g.part (g.atom (p 17 17 49 54) (g.spelled (k.Name (codes "s:x") true))) (g.part (g.atom (p 18 18 55 56) (g.spelled (k.Name (codes "x") false))) g.none)))))) ∷ [])) ∷ []) (((40 ∷ 100 ∷ 101 ∷ 102 ∷ 105 ∷ 110 ∷ 101 ∷ 45 ∷ 108 ∷ 105 ∷ 98 ∷ 114 ∷ 97 ∷ 114 ∷ 121 ∷ 32 ∷ 40 ∷ 108 ∷ 41 ∷ 10 ∷ 32 ∷ 40 ∷ 101 ∷ 120 ∷ 112 ∷ 111 ∷ 114 ∷ 116 ∷ 32 ∷ 120 ∷ 41 ∷ 10 ∷ 32 ∷ 40 ∷ 105 ∷ 109 ∷ 112 ∷ 111 ∷ 114 ∷ 116 ∷ 32 ∷ 40 ∷ 115 ∷ 99 ∷ 104 ∷ 101 ∷ 109 ∷ 101 ∷ 32 ∷ 98 ∷ 97 ∷ 115 ∷ 101 ∷ 41 ∷ 41 ∷ 10 ∷ 32 ∷ 40 ∷ 98 ∷ 101 ∷ 103 ∷ 105 ∷ 110 ∷ 32 ∷ 40 ∷ 100 ∷ 101 ∷ 102 ∷ 105 ∷ 110 ∷ 101 ∷ 32 ∷ 120 ∷ 32 ∷ 49 ∷ 41 ∷ 10 ∷ 32 ∷ 40 ∷ 100 ∷ 101 ∷ 102 ∷ 105 ∷ 110 ∷ 101 ∷ 32 ∷ 40 ∷ 102 ∷ 41 ∷ 32 ∷ 120 ∷ 41 ∷ 41 ∷ 41 ∷ [])) ∷ ((40 ∷ 105 ∷ 109 ∷ 112 ∷ 111 ∷ 114 ∷ 116 ∷ 32 ∷ 40 ∷ 115 ∷ 99 ∷ 104 ∷ 101 ∷ 109 ∷ 101 ∷ 32 ∷ 98 ∷ 97 ∷ 115 ∷ 101 ∷ 41 ∷ 32 ∷ 40 ∷ 112 ∷ 114 ∷ 101 ∷ 102 ∷ 105 ∷ 120 ∷ 32 ∷ 40 ∷ 108 ∷ 41 ∷ 32 ∷ 115 ∷ 58 ∷ 41 ∷ 41 ∷ 10 ∷ 40 ∷ 108 ∷ 105 ∷ 115 ∷ 116 ∷ 32 ∷ 115 ∷ 58 ∷ 120 ∷ 32 ∷ 124 ∷ 115 ∷ 58 ∷ 120 ∷ 124 ∷ 32 ∷ 120 ∷ 41 ∷ [])) ∷ []) 1 45 (codes "s:y") ≡ (((e 29 30 (codes "y")) ∷ (e 72 73 (codes "y")) ∷ (e 90 91 (codes "y")) ∷ []) ∷ ((e 45 48 (codes "s:y")) ∷ (e 49 54 (124 ∷ 115 ∷ 58 ∷ 121 ∷ 124 ∷ [])) ∷ []) ∷ [])
unfolding base_names standard_libraries prelude encode_utf8 chars spelled is_numeral is_identifier is_initial is_subsequent ucd_category
edits-prefix = refl

pub edits-prefix_bars : edit_rows (((s 0 1) ∷ (s 1 15) ∷ (s 16 17) ∷ (s 17 18) ∷ (s 18 19) ∷ (s 21 22) ∷ (s 22 28) ∷ (s 29 30) ∷ (s 30 31) ∷ (s 33 34) ∷ (s 34 40) ∷ (s 41 42) ∷ (s 42 48) ∷ (s 49 53) ∷ (s 53 54) ∷ (s 54 55) ∷ (s 57 58) ∷ (s 58 63) ∷ (s 64 65) ∷ (s 65 71) ∷ (s 72 73) ∷ (s 74 75) ∷ (s 75 76) ∷ (s 78 79) ∷ (s 79 85) ∷ (s 86 87) ∷ (s 87 88) ∷ (s 88 89) ∷ (s 90 91) ∷ (s 91 92) ∷ (s 92 93) ∷ (s 93 94) ∷ []) ∷ ((s 0 1) ∷ (s 1 7) ∷ (s 8 9) ∷ (s 9 15) ∷ (s 16 20) ∷ (s 20 21) ∷ (s 22 23) ∷ (s 23 29) ∷ (s 30 31) ∷ (s 31 32) ∷ (s 32 33) ∷ (s 34 36) ∷ (s 36 37) ∷ (s 37 38) ∷ (s 39 40) ∷ (s 40 44) ∷ (s 45 48) ∷ (s 49 54) ∷ (s 55 56) ∷ (s 56 57) ∷ []) ∷ []) ((Some (((g.list (p 0 31 0 94) (g.part (g.atom (p 1 1 1 15) (g.spelled (k.Name (codes "define-library") false))) (g.part (g.list (p 2 4 16 19) (g.part (g.atom (p 3 3 17 18) (g.spelled (k.Name (codes "l") false))) g.none)) (g.part (g.list (p 5 8 21 31) (g.part (g.atom (p 6 6 22 28) (g.spelled (k.Name (codes "export") false))) (g.part (g.atom (p 7 7 29 30) (g.spelled (k.Name (codes "x") false))) g.none))) (g.part (g.list (p 9 15 33 55) (g.part (g.atom (p 10 10 34 40) (g.spelled (k.Name (codes "import") false))) (g.part (g.list (p 11 14 41 54) (g.part (g.atom (p 12 12 42 48) (g.spelled (k.Name (codes "scheme") false))) (g.part (g.atom (p 13 13 49 53) (g.spelled (k.Name (codes "base") false))) g.none))) g.none))) (g.part (g.list (p 16 30 57 93) (g.part (g.atom (p 17 17 58 63) (g.spelled (k.Name (codes "begin") false))) (g.part (g.list (p 18 22 64 76) (g.part (g.atom (p 19 19 65 71) (g.spelled (k.Name (codes "define") false))) (g.part (g.atom (p 20 20 72 73) (g.spelled (k.Name (codes "x") false))) (g.part (g.atom (p 21 21 74 75) (g.spelled (k.Numeral (codes "1")))) g.none)))) (g.part (g.list (p 23 29 78 92) (g.part (g.atom (p 24 24 79 85) (g.spelled (k.Name (codes "define") false))) (g.part (g.list (p 25 27 86 89) (g.part (g.atom (p 26 26 87 88) (g.spelled (k.Name (codes "f") false))) g.none)) (g.part (g.atom (p 28 28 90 91) (g.spelled (k.Name (codes "x") false))) g.none)))) g.none)))) g.none))))))) ∷ [])) ∷ (Some (((g.list (p 0 13 0 38) (g.part (g.atom (p 1 1 1 7) (g.spelled (k.Name (codes "import") false))) (g.part (g.list (p 2 5 8 21) (g.part (g.atom (p 3 3 9 15) (g.spelled (k.Name (codes "scheme") false))) (g.part (g.atom (p 4 4 16 20) (g.spelled (k.Name (codes "base") false))) g.none))) (g.part (g.list (p 6 12 22 37) (g.part (g.atom (p 7 7 23 29) (g.spelled (k.Name (codes "prefix") false))) (g.part (g.list (p 8 10 30 33) (g.part (g.atom (p 9 9 31 32) (g.spelled (k.Name (codes "l") false))) g.none)) (g.part (g.atom (p 11 11 34 36) (g.spelled (k.Name (codes "s:") false))) g.none)))) g.none))))) ∷ ((g.list (p 14 19 39 57) (g.part (g.atom (p 15 15 40 44) (g.spelled (k.Name (codes "list") false))) (g.part (g.atom (p 16 16 45 48) (g.spelled (k.Name (codes "s:x") false))) (g.part (g.atom (p 17 17 49 54) (g.spelled (k.Name (codes "s:x") true))) (g.part (g.atom (p 18 18 55 56) (g.spelled (k.Name (codes "x") false))) g.none)))))) ∷ [])) ∷ []) (((40 ∷ 100 ∷ 101 ∷ 102 ∷ 105 ∷ 110 ∷ 101 ∷ 45 ∷ 108 ∷ 105 ∷ 98 ∷ 114 ∷ 97 ∷ 114 ∷ 121 ∷ 32 ∷ 40 ∷ 108 ∷ 41 ∷ 10 ∷ 32 ∷ 40 ∷ 101 ∷ 120 ∷ 112 ∷ 111 ∷ 114 ∷ 116 ∷ 32 ∷ 120 ∷ 41 ∷ 10 ∷ 32 ∷ 40 ∷ 105 ∷ 109 ∷ 112 ∷ 111 ∷ 114 ∷ 116 ∷ 32 ∷ 40 ∷ 115 ∷ 99 ∷ 104 ∷ 101 ∷ 109 ∷ 101 ∷ 32 ∷ 98 ∷ 97 ∷ 115 ∷ 101 ∷ 41 ∷ 41 ∷ 10 ∷ 32 ∷ 40 ∷ 98 ∷ 101 ∷ 103 ∷ 105 ∷ 110 ∷ 32 ∷ 40 ∷ 100 ∷ 101 ∷ 102 ∷ 105 ∷ 110 ∷ 101 ∷ 32 ∷ 120 ∷ 32 ∷ 49 ∷ 41 ∷ 10 ∷ 32 ∷ 40 ∷ 100 ∷ 101 ∷ 102 ∷ 105 ∷ 110 ∷ 101 ∷ 32 ∷ 40 ∷ 102 ∷ 41 ∷ 32 ∷ 120 ∷ 41 ∷ 41 ∷ 41 ∷ [])) ∷ ((40 ∷ 105 ∷ 109 ∷ 112 ∷ 111 ∷ 114 ∷ 116 ∷ 32 ∷ 40 ∷ 115 ∷ 99 ∷ 104 ∷ 101 ∷ 109 ∷ 101 ∷ 32 ∷ 98 ∷ 97 ∷ 115 ∷ 101 ∷ 41 ∷ 32 ∷ 40 ∷ 112 ∷ 114 ∷ 101 ∷ 102 ∷ 105 ∷ 120 ∷ 32 ∷ 40 ∷ 108 ∷ 41 ∷ 32 ∷ 115 ∷ 58 ∷ 41 ∷ 41 ∷ 10 ∷ 40 ∷ 108 ∷ 105 ∷ 115 ∷ 116 ∷ 32 ∷ 115 ∷ 58 ∷ 120 ∷ 32 ∷ 124 ∷ 115 ∷ 58 ∷ 120 ∷ 124 ∷ 32 ∷ 120 ∷ 41 ∷ [])) ∷ []) 1 49 (codes "s:y z") ≡ (((e 29 30 (124 ∷ 121 ∷ 32 ∷ 122 ∷ 124 ∷ [])) ∷ (e 72 73 (124 ∷ 121 ∷ 32 ∷ 122 ∷ 124 ∷ [])) ∷ (e 90 91 (124 ∷ 121 ∷ 32 ∷ 122 ∷ 124 ∷ [])) ∷ []) ∷ ((e 45 48 (124 ∷ 115 ∷ 58 ∷ 121 ∷ 32 ∷ 122 ∷ 124 ∷ [])) ∷ (e 49 54 (124 ∷ 115 ∷ 58 ∷ 121 ∷ 32 ∷ 122 ∷ 124 ∷ [])) ∷ []) ∷ [])
unfolding base_names standard_libraries prelude encode_utf8 chars spelled is_numeral is_identifier is_initial is_subsequent ucd_category
edits-prefix_bars = refl

pub edits-prefix_inside : edit_rows (((s 0 1) ∷ (s 1 15) ∷ (s 16 17) ∷ (s 17 18) ∷ (s 18 19) ∷ (s 21 22) ∷ (s 22 28) ∷ (s 29 30) ∷ (s 30 31) ∷ (s 33 34) ∷ (s 34 40) ∷ (s 41 42) ∷ (s 42 48) ∷ (s 49 53) ∷ (s 53 54) ∷ (s 54 55) ∷ (s 57 58) ∷ (s 58 63) ∷ (s 64 65) ∷ (s 65 71) ∷ (s 72 73) ∷ (s 74 75) ∷ (s 75 76) ∷ (s 78 79) ∷ (s 79 85) ∷ (s 86 87) ∷ (s 87 88) ∷ (s 88 89) ∷ (s 90 91) ∷ (s 91 92) ∷ (s 92 93) ∷ (s 93 94) ∷ []) ∷ ((s 0 1) ∷ (s 1 7) ∷ (s 8 9) ∷ (s 9 15) ∷ (s 16 20) ∷ (s 20 21) ∷ (s 22 23) ∷ (s 23 29) ∷ (s 30 31) ∷ (s 31 32) ∷ (s 32 33) ∷ (s 34 36) ∷ (s 36 37) ∷ (s 37 38) ∷ (s 39 40) ∷ (s 40 44) ∷ (s 45 48) ∷ (s 49 54) ∷ (s 55 56) ∷ (s 56 57) ∷ []) ∷ []) ((Some (((g.list (p 0 31 0 94) (g.part (g.atom (p 1 1 1 15) (g.spelled (k.Name (codes "define-library") false))) (g.part (g.list (p 2 4 16 19) (g.part (g.atom (p 3 3 17 18) (g.spelled (k.Name (codes "l") false))) g.none)) (g.part (g.list (p 5 8 21 31) (g.part (g.atom (p 6 6 22 28) (g.spelled (k.Name (codes "export") false))) (g.part (g.atom (p 7 7 29 30) (g.spelled (k.Name (codes "x") false))) g.none))) (g.part (g.list (p 9 15 33 55) (g.part (g.atom (p 10 10 34 40) (g.spelled (k.Name (codes "import") false))) (g.part (g.list (p 11 14 41 54) (g.part (g.atom (p 12 12 42 48) (g.spelled (k.Name (codes "scheme") false))) (g.part (g.atom (p 13 13 49 53) (g.spelled (k.Name (codes "base") false))) g.none))) g.none))) (g.part (g.list (p 16 30 57 93) (g.part (g.atom (p 17 17 58 63) (g.spelled (k.Name (codes "begin") false))) (g.part (g.list (p 18 22 64 76) (g.part (g.atom (p 19 19 65 71) (g.spelled (k.Name (codes "define") false))) (g.part (g.atom (p 20 20 72 73) (g.spelled (k.Name (codes "x") false))) (g.part (g.atom (p 21 21 74 75) (g.spelled (k.Numeral (codes "1")))) g.none)))) (g.part (g.list (p 23 29 78 92) (g.part (g.atom (p 24 24 79 85) (g.spelled (k.Name (codes "define") false))) (g.part (g.list (p 25 27 86 89) (g.part (g.atom (p 26 26 87 88) (g.spelled (k.Name (codes "f") false))) g.none)) (g.part (g.atom (p 28 28 90 91) (g.spelled (k.Name (codes "x") false))) g.none)))) g.none)))) g.none))))))) ∷ [])) ∷ (Some (((g.list (p 0 13 0 38) (g.part (g.atom (p 1 1 1 7) (g.spelled (k.Name (codes "import") false))) (g.part (g.list (p 2 5 8 21) (g.part (g.atom (p 3 3 9 15) (g.spelled (k.Name (codes "scheme") false))) (g.part (g.atom (p 4 4 16 20) (g.spelled (k.Name (codes "base") false))) g.none))) (g.part (g.list (p 6 12 22 37) (g.part (g.atom (p 7 7 23 29) (g.spelled (k.Name (codes "prefix") false))) (g.part (g.list (p 8 10 30 33) (g.part (g.atom (p 9 9 31 32) (g.spelled (k.Name (codes "l") false))) g.none)) (g.part (g.atom (p 11 11 34 36) (g.spelled (k.Name (codes "s:") false))) g.none)))) g.none))))) ∷ ((g.list (p 14 19 39 57) (g.part (g.atom (p 15 15 40 44) (g.spelled (k.Name (codes "list") false))) (g.part (g.atom (p 16 16 45 48) (g.spelled (k.Name (codes "s:x") false))) (g.part (g.atom (p 17 17 49 54) (g.spelled (k.Name (codes "s:x") true))) (g.part (g.atom (p 18 18 55 56) (g.spelled (k.Name (codes "x") false))) g.none)))))) ∷ [])) ∷ []) (((40 ∷ 100 ∷ 101 ∷ 102 ∷ 105 ∷ 110 ∷ 101 ∷ 45 ∷ 108 ∷ 105 ∷ 98 ∷ 114 ∷ 97 ∷ 114 ∷ 121 ∷ 32 ∷ 40 ∷ 108 ∷ 41 ∷ 10 ∷ 32 ∷ 40 ∷ 101 ∷ 120 ∷ 112 ∷ 111 ∷ 114 ∷ 116 ∷ 32 ∷ 120 ∷ 41 ∷ 10 ∷ 32 ∷ 40 ∷ 105 ∷ 109 ∷ 112 ∷ 111 ∷ 114 ∷ 116 ∷ 32 ∷ 40 ∷ 115 ∷ 99 ∷ 104 ∷ 101 ∷ 109 ∷ 101 ∷ 32 ∷ 98 ∷ 97 ∷ 115 ∷ 101 ∷ 41 ∷ 41 ∷ 10 ∷ 32 ∷ 40 ∷ 98 ∷ 101 ∷ 103 ∷ 105 ∷ 110 ∷ 32 ∷ 40 ∷ 100 ∷ 101 ∷ 102 ∷ 105 ∷ 110 ∷ 101 ∷ 32 ∷ 120 ∷ 32 ∷ 49 ∷ 41 ∷ 10 ∷ 32 ∷ 40 ∷ 100 ∷ 101 ∷ 102 ∷ 105 ∷ 110 ∷ 101 ∷ 32 ∷ 40 ∷ 102 ∷ 41 ∷ 32 ∷ 120 ∷ 41 ∷ 41 ∷ 41 ∷ [])) ∷ ((40 ∷ 105 ∷ 109 ∷ 112 ∷ 111 ∷ 114 ∷ 116 ∷ 32 ∷ 40 ∷ 115 ∷ 99 ∷ 104 ∷ 101 ∷ 109 ∷ 101 ∷ 32 ∷ 98 ∷ 97 ∷ 115 ∷ 101 ∷ 41 ∷ 32 ∷ 40 ∷ 112 ∷ 114 ∷ 101 ∷ 102 ∷ 105 ∷ 120 ∷ 32 ∷ 40 ∷ 108 ∷ 41 ∷ 32 ∷ 115 ∷ 58 ∷ 41 ∷ 41 ∷ 10 ∷ 40 ∷ 108 ∷ 105 ∷ 115 ∷ 116 ∷ 32 ∷ 115 ∷ 58 ∷ 120 ∷ 32 ∷ 124 ∷ 115 ∷ 58 ∷ 120 ∷ 124 ∷ 32 ∷ 120 ∷ 41 ∷ [])) ∷ []) 0 29 (codes "y") ≡ (((e 29 30 (codes "y")) ∷ (e 72 73 (codes "y")) ∷ (e 90 91 (codes "y")) ∷ []) ∷ ((e 45 48 (codes "s:y")) ∷ (e 49 54 (124 ∷ 115 ∷ 58 ∷ 121 ∷ 124 ∷ [])) ∷ []) ∷ [])
unfolding base_names standard_libraries prelude encode_utf8 chars spelled is_numeral is_identifier is_initial is_subsequent ucd_category
edits-prefix_inside = refl

pub edits-prefix_dots : edit_rows (((s 0 1) ∷ (s 1 15) ∷ (s 16 17) ∷ (s 17 18) ∷ (s 18 19) ∷ (s 21 22) ∷ (s 22 28) ∷ (s 29 30) ∷ (s 30 31) ∷ (s 33 34) ∷ (s 34 40) ∷ (s 41 42) ∷ (s 42 48) ∷ (s 49 53) ∷ (s 53 54) ∷ (s 54 55) ∷ (s 57 58) ∷ (s 58 63) ∷ (s 64 65) ∷ (s 65 71) ∷ (s 72 73) ∷ (s 74 75) ∷ (s 75 76) ∷ (s 78 79) ∷ (s 79 85) ∷ (s 86 87) ∷ (s 87 88) ∷ (s 88 89) ∷ (s 90 91) ∷ (s 91 92) ∷ (s 92 93) ∷ (s 93 94) ∷ []) ∷ ((s 0 1) ∷ (s 1 7) ∷ (s 8 9) ∷ (s 9 15) ∷ (s 16 20) ∷ (s 20 21) ∷ (s 22 23) ∷ (s 23 29) ∷ (s 30 31) ∷ (s 31 32) ∷ (s 32 33) ∷ (s 34 36) ∷ (s 36 37) ∷ (s 37 38) ∷ (s 39 40) ∷ (s 40 44) ∷ (s 45 48) ∷ (s 49 54) ∷ (s 55 56) ∷ (s 56 57) ∷ []) ∷ []) ((Some (((g.list (p 0 31 0 94) (g.part (g.atom (p 1 1 1 15) (g.spelled (k.Name (codes "define-library") false))) (g.part (g.list (p 2 4 16 19) (g.part (g.atom (p 3 3 17 18) (g.spelled (k.Name (codes "l") false))) g.none)) (g.part (g.list (p 5 8 21 31) (g.part (g.atom (p 6 6 22 28) (g.spelled (k.Name (codes "export") false))) (g.part (g.atom (p 7 7 29 30) (g.spelled (k.Name (codes "x") false))) g.none))) (g.part (g.list (p 9 15 33 55) (g.part (g.atom (p 10 10 34 40) (g.spelled (k.Name (codes "import") false))) (g.part (g.list (p 11 14 41 54) (g.part (g.atom (p 12 12 42 48) (g.spelled (k.Name (codes "scheme") false))) (g.part (g.atom (p 13 13 49 53) (g.spelled (k.Name (codes "base") false))) g.none))) g.none))) (g.part (g.list (p 16 30 57 93) (g.part (g.atom (p 17 17 58 63) (g.spelled (k.Name (codes "begin") false))) (g.part (g.list (p 18 22 64 76) (g.part (g.atom (p 19 19 65 71) (g.spelled (k.Name (codes "define") false))) (g.part (g.atom (p 20 20 72 73) (g.spelled (k.Name (codes "x") false))) (g.part (g.atom (p 21 21 74 75) (g.spelled (k.Numeral (codes "1")))) g.none)))) (g.part (g.list (p 23 29 78 92) (g.part (g.atom (p 24 24 79 85) (g.spelled (k.Name (codes "define") false))) (g.part (g.list (p 25 27 86 89) (g.part (g.atom (p 26 26 87 88) (g.spelled (k.Name (codes "f") false))) g.none)) (g.part (g.atom (p 28 28 90 91) (g.spelled (k.Name (codes "x") false))) g.none)))) g.none)))) g.none))))))) ∷ [])) ∷ (Some (((g.list (p 0 13 0 38) (g.part (g.atom (p 1 1 1 7) (g.spelled (k.Name (codes "import") false))) (g.part (g.list (p 2 5 8 21) (g.part (g.atom (p 3 3 9 15) (g.spelled (k.Name (codes "scheme") false))) (g.part (g.atom (p 4 4 16 20) (g.spelled (k.Name (codes "base") false))) g.none))) (g.part (g.list (p 6 12 22 37) (g.part (g.atom (p 7 7 23 29) (g.spelled (k.Name (codes "prefix") false))) (g.part (g.list (p 8 10 30 33) (g.part (g.atom (p 9 9 31 32) (g.spelled (k.Name (codes "l") false))) g.none)) (g.part (g.atom (p 11 11 34 36) (g.spelled (k.Name (codes "s:") false))) g.none)))) g.none))))) ∷ ((g.list (p 14 19 39 57) (g.part (g.atom (p 15 15 40 44) (g.spelled (k.Name (codes "list") false))) (g.part (g.atom (p 16 16 45 48) (g.spelled (k.Name (codes "s:x") false))) (g.part (g.atom (p 17 17 49 54) (g.spelled (k.Name (codes "s:x") true))) (g.part (g.atom (p 18 18 55 56) (g.spelled (k.Name (codes "x") false))) g.none)))))) ∷ [])) ∷ []) (((40 ∷ 100 ∷ 101 ∷ 102 ∷ 105 ∷ 110 ∷ 101 ∷ 45 ∷ 108 ∷ 105 ∷ 98 ∷ 114 ∷ 97 ∷ 114 ∷ 121 ∷ 32 ∷ 40 ∷ 108 ∷ 41 ∷ 10 ∷ 32 ∷ 40 ∷ 101 ∷ 120 ∷ 112 ∷ 111 ∷ 114 ∷ 116 ∷ 32 ∷ 120 ∷ 41 ∷ 10 ∷ 32 ∷ 40 ∷ 105 ∷ 109 ∷ 112 ∷ 111 ∷ 114 ∷ 116 ∷ 32 ∷ 40 ∷ 115 ∷ 99 ∷ 104 ∷ 101 ∷ 109 ∷ 101 ∷ 32 ∷ 98 ∷ 97 ∷ 115 ∷ 101 ∷ 41 ∷ 41 ∷ 10 ∷ 32 ∷ 40 ∷ 98 ∷ 101 ∷ 103 ∷ 105 ∷ 110 ∷ 32 ∷ 40 ∷ 100 ∷ 101 ∷ 102 ∷ 105 ∷ 110 ∷ 101 ∷ 32 ∷ 120 ∷ 32 ∷ 49 ∷ 41 ∷ 10 ∷ 32 ∷ 40 ∷ 100 ∷ 101 ∷ 102 ∷ 105 ∷ 110 ∷ 101 ∷ 32 ∷ 40 ∷ 102 ∷ 41 ∷ 32 ∷ 120 ∷ 41 ∷ 41 ∷ 41 ∷ [])) ∷ ((40 ∷ 105 ∷ 109 ∷ 112 ∷ 111 ∷ 114 ∷ 116 ∷ 32 ∷ 40 ∷ 115 ∷ 99 ∷ 104 ∷ 101 ∷ 109 ∷ 101 ∷ 32 ∷ 98 ∷ 97 ∷ 115 ∷ 101 ∷ 41 ∷ 32 ∷ 40 ∷ 112 ∷ 114 ∷ 101 ∷ 102 ∷ 105 ∷ 120 ∷ 32 ∷ 40 ∷ 108 ∷ 41 ∷ 32 ∷ 115 ∷ 58 ∷ 41 ∷ 41 ∷ 10 ∷ 40 ∷ 108 ∷ 105 ∷ 115 ∷ 116 ∷ 32 ∷ 115 ∷ 58 ∷ 120 ∷ 32 ∷ 124 ∷ 115 ∷ 58 ∷ 120 ∷ 124 ∷ 32 ∷ 120 ∷ 41 ∷ [])) ∷ []) 1 45 (codes "s:...") ≡ (((e 29 30 (codes "...")) ∷ (e 72 73 (codes "...")) ∷ (e 90 91 (codes "...")) ∷ []) ∷ ((e 45 48 (codes "s:...")) ∷ (e 49 54 (124 ∷ 115 ∷ 58 ∷ 46 ∷ 46 ∷ 46 ∷ 124 ∷ [])) ∷ []) ∷ [])
unfolding base_names standard_libraries prelude encode_utf8 chars spelled is_numeral is_identifier is_initial is_subsequent ucd_category
edits-prefix_dots = refl

pub edits-pattern : edit_rows (((s 0 1) ∷ (s 1 14) ∷ (s 15 16) ∷ (s 17 18) ∷ (s 18 30) ∷ (s 31 32) ∷ (s 32 33) ∷ (s 34 35) ∷ (s 35 36) ∷ (s 36 37) ∷ (s 38 39) ∷ (s 40 41) ∷ (s 41 42) ∷ (s 43 44) ∷ (s 44 48) ∷ (s 49 50) ∷ (s 51 52) ∷ (s 53 54) ∷ (s 55 56) ∷ (s 56 57) ∷ (s 57 58) ∷ (s 58 59) ∷ (s 59 60) ∷ []) ∷ []) ((Some (((g.list (p 0 22 0 60) (g.part (g.atom (p 1 1 1 14) (g.spelled (k.Name (codes "define-syntax") false))) (g.part (g.atom (p 2 2 15 16) (g.spelled (k.Name (codes "m") false))) (g.part (g.list (p 3 21 17 59) (g.part (g.atom (p 4 4 18 30) (g.spelled (k.Name (codes "syntax-rules") false))) (g.part (g.list (p 5 6 31 33) g.none) (g.part (g.list (p 7 20 34 58) (g.part (g.list (p 8 12 35 42) (g.part (g.atom (p 9 9 36 37) (g.spelled (k.Name (codes "_") false))) (g.part (g.atom (p 10 10 38 39) (g.spelled (k.Name (codes "x") false))) (g.part (g.atom (p 11 11 40 41) (g.spelled (k.Name (codes "y") false))) g.none)))) (g.part (g.list (p 13 19 43 57) (g.part (g.atom (p 14 14 44 48) (g.spelled (k.Name (codes "list") false))) (g.part (g.atom (p 15 15 49 50) (g.spelled (k.Name (codes "x") false))) (g.part (g.atom (p 16 16 51 52) (g.spelled (k.Name (codes "y") false))) (g.part (g.atom (p 17 17 53 54) (g.spelled (k.Name (codes "z") false))) (g.part (g.atom (p 18 18 55 56) (g.spelled (k.Name (codes "x") false))) g.none)))))) g.none))) g.none)))) g.none))))) ∷ [])) ∷ []) (((codes "(define-syntax m (syntax-rules () ((_ x y) (list x y z x))))")) ∷ []) 0 38 (codes "w") ≡ (((e 38 39 (codes "w")) ∷ (e 49 50 (codes "w")) ∷ (e 55 56 (codes "w")) ∷ []) ∷ [])
unfolding base_names standard_libraries prelude encode_utf8 chars spelled is_numeral is_identifier is_initial is_subsequent ucd_category
edits-pattern = refl

pub edits-only_its_class : edit_rows (((s 0 1) ∷ (s 1 7) ∷ (s 8 9) ∷ (s 10 11) ∷ (s 11 12) ∷ (s 13 14) ∷ (s 14 20) ∷ (s 21 22) ∷ (s 22 23) ∷ (s 24 25) ∷ (s 25 26) ∷ (s 27 28) ∷ (s 28 29) ∷ (s 30 31) ∷ (s 31 35) ∷ (s 36 37) ∷ (s 38 39) ∷ (s 39 40) ∷ (s 41 42) ∷ (s 42 43) ∷ []) ∷ []) ((Some (((g.list (p 0 4 0 12) (g.part (g.atom (p 1 1 1 7) (g.spelled (k.Name (codes "define") false))) (g.part (g.atom (p 2 2 8 9) (g.spelled (k.Name (codes "a") false))) (g.part (g.atom (p 3 3 10 11) (g.spelled (k.Numeral (codes "1")))) g.none))))) ∷ ((g.list (p 5 12 13 29) (g.part (g.atom (p 6 6 14 20) (g.spelled (k.Name (codes "define") false))) (g.part (g.list (p 7 10 21 26) (g.part (g.atom (p 8 8 22 23) (g.spelled (k.Name (codes "f") false))) (g.part (g.atom (p 9 9 24 25) (g.spelled (k.Name (codes "a") false))) g.none))) (g.part (g.atom (p 11 11 27 28) (g.spelled (k.Name (codes "a") false))) g.none))))) ∷ ((g.list (p 13 19 30 43) (g.part (g.atom (p 14 14 31 35) (g.spelled (k.Name (codes "list") false))) (g.part (g.atom (p 15 15 36 37) (g.spelled (k.Name (codes "a") false))) (g.part (g.list (p 16 17 38 40) (g.part (g.atom (p 16 16 38 39) (g.implied k.Quote)) (g.part (g.atom (p 17 17 39 40) (g.spelled (k.Name (codes "a") false))) g.none))) (g.part (g.atom (p 18 18 41 42) (g.spelled (k.Name (codes "b") false))) g.none)))))) ∷ [])) ∷ []) (((40 ∷ 100 ∷ 101 ∷ 102 ∷ 105 ∷ 110 ∷ 101 ∷ 32 ∷ 97 ∷ 32 ∷ 49 ∷ 41 ∷ 10 ∷ 40 ∷ 100 ∷ 101 ∷ 102 ∷ 105 ∷ 110 ∷ 101 ∷ 32 ∷ 40 ∷ 102 ∷ 32 ∷ 97 ∷ 41 ∷ 32 ∷ 97 ∷ 41 ∷ 10 ∷ 40 ∷ 108 ∷ 105 ∷ 115 ∷ 116 ∷ 32 ∷ 97 ∷ 32 ∷ 39 ∷ 97 ∷ 32 ∷ 98 ∷ 41 ∷ [])) ∷ []) 0 8 (codes "zz") ≡ (((e 8 9 (codes "zz")) ∷ (e 36 37 (codes "zz")) ∷ []) ∷ [])
unfolding base_names standard_libraries prelude encode_utf8 chars spelled is_numeral is_identifier is_initial is_subsequent ucd_category
edits-only_its_class = refl

pub edits-same_name : edit_rows (((s 0 1) ∷ (s 1 7) ∷ (s 8 9) ∷ (s 10 11) ∷ (s 11 12) ∷ (s 13 16) ∷ []) ∷ []) ((Some (((g.list (p 0 4 0 12) (g.part (g.atom (p 1 1 1 7) (g.spelled (k.Name (codes "define") false))) (g.part (g.atom (p 2 2 8 9) (g.spelled (k.Name (codes "a") false))) (g.part (g.atom (p 3 3 10 11) (g.spelled (k.Numeral (codes "1")))) g.none))))) ∷ ((g.atom (p 5 5 13 16) (g.spelled (k.Name (codes "a") true)))) ∷ [])) ∷ []) (((40 ∷ 100 ∷ 101 ∷ 102 ∷ 105 ∷ 110 ∷ 101 ∷ 32 ∷ 97 ∷ 32 ∷ 49 ∷ 41 ∷ 32 ∷ 124 ∷ 97 ∷ 124 ∷ [])) ∷ []) 0 8 (codes "a") ≡ (((e 8 9 (codes "a")) ∷ (e 13 16 (124 ∷ 97 ∷ 124 ∷ [])) ∷ []) ∷ [])
unfolding base_names standard_libraries prelude encode_utf8 chars spelled is_numeral is_identifier is_initial is_subsequent ucd_category
edits-same_name = refl

pub edits-worked_template : edit_rows (((s 0 1) ∷ (s 1 14) ∷ (s 15 20) ∷ (s 21 22) ∷ (s 22 34) ∷ (s 35 36) ∷ (s 36 37) ∷ (s 38 39) ∷ (s 39 40) ∷ (s 40 41) ∷ (s 42 43) ∷ (s 44 45) ∷ (s 45 46) ∷ (s 47 48) ∷ (s 48 51) ∷ (s 52 53) ∷ (s 53 54) ∷ (s 54 55) ∷ (s 56 57) ∷ (s 57 58) ∷ (s 58 59) ∷ (s 60 61) ∷ (s 61 63) ∷ (s 64 65) ∷ (s 66 67) ∷ (s 68 69) ∷ (s 69 70) ∷ (s 70 71) ∷ (s 71 72) ∷ (s 72 73) ∷ (s 73 74) ∷ (s 75 76) ∷ (s 76 82) ∷ (s 83 84) ∷ (s 85 86) ∷ (s 86 87) ∷ (s 88 89) ∷ (s 89 94) ∷ (s 95 97) ∷ (s 98 99) ∷ (s 99 100) ∷ []) ∷ []) ((Some (((g.list (p 0 30 0 74) (g.part (g.atom (p 1 1 1 14) (g.spelled (k.Name (codes "define-syntax") false))) (g.part (g.atom (p 2 2 15 20) (g.spelled (k.Name (codes "my-or") false))) (g.part (g.list (p 3 29 21 73) (g.part (g.atom (p 4 4 22 34) (g.spelled (k.Name (codes "syntax-rules") false))) (g.part (g.list (p 5 6 35 37) g.none) (g.part (g.list (p 7 28 38 72) (g.part (g.list (p 8 12 39 46) (g.part (g.atom (p 9 9 40 41) (g.spelled (k.Name (codes "_") false))) (g.part (g.atom (p 10 10 42 43) (g.spelled (k.Name (codes "a") false))) (g.part (g.atom (p 11 11 44 45) (g.spelled (k.Name (codes "b") false))) g.none)))) (g.part (g.list (p 13 27 47 71) (g.part (g.atom (p 14 14 48 51) (g.spelled (k.Name (codes "let") false))) (g.part (g.list (p 15 20 52 59) (g.part (g.list (p 16 19 53 58) (g.part (g.atom (p 17 17 54 55) (g.spelled (k.Name (codes "t") false))) (g.part (g.atom (p 18 18 56 57) (g.spelled (k.Name (codes "a") false))) g.none))) g.none)) (g.part (g.list (p 21 26 60 70) (g.part (g.atom (p 22 22 61 63) (g.spelled (k.Name (codes "if") false))) (g.part (g.atom (p 23 23 64 65) (g.spelled (k.Name (codes "t") false))) (g.part (g.atom (p 24 24 66 67) (g.spelled (k.Name (codes "t") false))) (g.part (g.atom (p 25 25 68 69) (g.spelled (k.Name (codes "b") false))) g.none))))) g.none)))) g.none))) g.none)))) g.none))))) ∷ ((g.list (p 31 35 75 87) (g.part (g.atom (p 32 32 76 82) (g.spelled (k.Name (codes "define") false))) (g.part (g.atom (p 33 33 83 84) (g.spelled (k.Name (codes "t") false))) (g.part (g.atom (p 34 34 85 86) (g.spelled (k.Numeral (codes "5")))) g.none))))) ∷ ((g.list (p 36 40 88 100) (g.part (g.atom (p 37 37 89 94) (g.spelled (k.Name (codes "my-or") false))) (g.part (g.atom (p 38 38 95 97) (g.spelled (k.Truth false))) (g.part (g.atom (p 39 39 98 99) (g.spelled (k.Name (codes "t") false))) g.none))))) ∷ [])) ∷ []) (((40 ∷ 100 ∷ 101 ∷ 102 ∷ 105 ∷ 110 ∷ 101 ∷ 45 ∷ 115 ∷ 121 ∷ 110 ∷ 116 ∷ 97 ∷ 120 ∷ 32 ∷ 109 ∷ 121 ∷ 45 ∷ 111 ∷ 114 ∷ 32 ∷ 40 ∷ 115 ∷ 121 ∷ 110 ∷ 116 ∷ 97 ∷ 120 ∷ 45 ∷ 114 ∷ 117 ∷ 108 ∷ 101 ∷ 115 ∷ 32 ∷ 40 ∷ 41 ∷ 32 ∷ 40 ∷ 40 ∷ 95 ∷ 32 ∷ 97 ∷ 32 ∷ 98 ∷ 41 ∷ 32 ∷ 40 ∷ 108 ∷ 101 ∷ 116 ∷ 32 ∷ 40 ∷ 40 ∷ 116 ∷ 32 ∷ 97 ∷ 41 ∷ 41 ∷ 32 ∷ 40 ∷ 105 ∷ 102 ∷ 32 ∷ 116 ∷ 32 ∷ 116 ∷ 32 ∷ 98 ∷ 41 ∷ 41 ∷ 41 ∷ 41 ∷ 41 ∷ 10 ∷ 40 ∷ 100 ∷ 101 ∷ 102 ∷ 105 ∷ 110 ∷ 101 ∷ 32 ∷ 116 ∷ 32 ∷ 53 ∷ 41 ∷ 10 ∷ 40 ∷ 109 ∷ 121 ∷ 45 ∷ 111 ∷ 114 ∷ 32 ∷ 35 ∷ 102 ∷ 32 ∷ 116 ∷ 41 ∷ [])) ∷ []) 0 83 (codes "u") ≡ (((e 83 84 (codes "u")) ∷ (e 98 99 (codes "u")) ∷ []) ∷ [])
unfolding base_names standard_libraries prelude encode_utf8 chars spelled is_numeral is_identifier is_initial is_subsequent ucd_category
edits-worked_template = refl

pub edits-worked_prefix : edit_rows (((s 0 1) ∷ (s 1 7) ∷ (s 8 9) ∷ (s 9 15) ∷ (s 16 20) ∷ (s 20 21) ∷ (s 22 23) ∷ (s 23 29) ∷ (s 30 31) ∷ (s 31 36) ∷ (s 36 37) ∷ (s 38 40) ∷ (s 40 41) ∷ (s 41 42) ∷ (s 43 44) ∷ (s 44 50) ∷ (s 51 52) ∷ (s 53 54) ∷ (s 54 55) ∷ (s 55 56) ∷ (s 56 57) ∷ []) ∷ ((s 0 1) ∷ (s 1 15) ∷ (s 16 17) ∷ (s 17 22) ∷ (s 22 23) ∷ (s 24 25) ∷ (s 25 31) ∷ (s 32 36) ∷ (s 36 37) ∷ (s 38 39) ∷ (s 39 45) ∷ (s 46 47) ∷ (s 47 53) ∷ (s 54 58) ∷ (s 58 59) ∷ (s 59 60) ∷ (s 61 62) ∷ (s 62 67) ∷ (s 68 69) ∷ (s 69 75) ∷ (s 76 77) ∷ (s 77 81) ∷ (s 82 83) ∷ (s 84 85) ∷ (s 85 86) ∷ (s 87 88) ∷ (s 88 92) ∷ (s 93 94) ∷ (s 95 96) ∷ (s 96 97) ∷ (s 97 98) ∷ (s 98 99) ∷ (s 99 100) ∷ []) ∷ []) ((Some (((g.list (p 0 13 0 42) (g.part (g.atom (p 1 1 1 7) (g.spelled (k.Name (codes "import") false))) (g.part (g.list (p 2 5 8 21) (g.part (g.atom (p 3 3 9 15) (g.spelled (k.Name (codes "scheme") false))) (g.part (g.atom (p 4 4 16 20) (g.spelled (k.Name (codes "base") false))) g.none))) (g.part (g.list (p 6 12 22 41) (g.part (g.atom (p 7 7 23 29) (g.spelled (k.Name (codes "prefix") false))) (g.part (g.list (p 8 10 30 37) (g.part (g.atom (p 9 9 31 36) (g.spelled (k.Name (codes "stack") false))) g.none)) (g.part (g.atom (p 11 11 38 40) (g.spelled (k.Name (codes "s:") false))) g.none)))) g.none))))) ∷ ((g.list (p 14 20 43 57) (g.part (g.atom (p 15 15 44 50) (g.spelled (k.Name (codes "s:push") false))) (g.part (g.atom (p 16 16 51 52) (g.spelled (k.Numeral (codes "1")))) (g.part (g.list (p 17 19 53 56) (g.part (g.atom (p 17 17 53 54) (g.implied k.Quote)) (g.part (g.list (p 18 19 54 56) g.none) g.none))) g.none))))) ∷ [])) ∷ (Some (((g.list (p 0 32 0 100) (g.part (g.atom (p 1 1 1 15) (g.spelled (k.Name (codes "define-library") false))) (g.part (g.list (p 2 4 16 23) (g.part (g.atom (p 3 3 17 22) (g.spelled (k.Name (codes "stack") false))) g.none)) (g.part (g.list (p 5 8 24 37) (g.part (g.atom (p 6 6 25 31) (g.spelled (k.Name (codes "export") false))) (g.part (g.atom (p 7 7 32 36) (g.spelled (k.Name (codes "push") false))) g.none))) (g.part (g.list (p 9 15 38 60) (g.part (g.atom (p 10 10 39 45) (g.spelled (k.Name (codes "import") false))) (g.part (g.list (p 11 14 46 59) (g.part (g.atom (p 12 12 47 53) (g.spelled (k.Name (codes "scheme") false))) (g.part (g.atom (p 13 13 54 58) (g.spelled (k.Name (codes "base") false))) g.none))) g.none))) (g.part (g.list (p 16 31 61 99) (g.part (g.atom (p 17 17 62 67) (g.spelled (k.Name (codes "begin") false))) (g.part (g.list (p 18 30 68 98) (g.part (g.atom (p 19 19 69 75) (g.spelled (k.Name (codes "define") false))) (g.part (g.list (p 20 24 76 86) (g.part (g.atom (p 21 21 77 81) (g.spelled (k.Name (codes "push") false))) (g.part (g.atom (p 22 22 82 83) (g.spelled (k.Name (codes "x") false))) (g.part (g.atom (p 23 23 84 85) (g.spelled (k.Name (codes "s") false))) g.none)))) (g.part (g.list (p 25 29 87 97) (g.part (g.atom (p 26 26 88 92) (g.spelled (k.Name (codes "cons") false))) (g.part (g.atom (p 27 27 93 94) (g.spelled (k.Name (codes "x") false))) (g.part (g.atom (p 28 28 95 96) (g.spelled (k.Name (codes "s") false))) g.none)))) g.none)))) g.none))) g.none))))))) ∷ [])) ∷ []) (((codes "(import (scheme base) (prefix (stack) s:)) (s:push 1 '())")) ∷ ((codes "(define-library (stack) (export push) (import (scheme base)) (begin (define (push x s) (cons x s))))")) ∷ []) 0 44 (codes "s:put") ≡ (((e 44 50 (codes "s:put")) ∷ []) ∷ ((e 32 36 (codes "put")) ∷ (e 77 81 (codes "put")) ∷ []) ∷ [])
unfolding base_names standard_libraries prelude encode_utf8 chars spelled is_numeral is_identifier is_initial is_subsequent ucd_category
edits-worked_prefix = refl

pub edits-worked_rename : edit_rows (((s 0 1) ∷ (s 1 7) ∷ (s 8 9) ∷ (s 9 15) ∷ (s 16 20) ∷ (s 20 21) ∷ (s 22 23) ∷ (s 23 29) ∷ (s 30 31) ∷ (s 31 36) ∷ (s 36 37) ∷ (s 38 39) ∷ (s 39 43) ∷ (s 44 47) ∷ (s 47 48) ∷ (s 48 49) ∷ (s 49 50) ∷ (s 51 52) ∷ (s 52 55) ∷ (s 56 57) ∷ (s 58 59) ∷ (s 59 60) ∷ (s 60 61) ∷ (s 61 62) ∷ []) ∷ ((s 0 1) ∷ (s 1 15) ∷ (s 16 17) ∷ (s 17 22) ∷ (s 22 23) ∷ (s 24 25) ∷ (s 25 31) ∷ (s 32 36) ∷ (s 36 37) ∷ (s 38 39) ∷ (s 39 45) ∷ (s 46 47) ∷ (s 47 53) ∷ (s 54 58) ∷ (s 58 59) ∷ (s 59 60) ∷ (s 61 62) ∷ (s 62 67) ∷ (s 68 69) ∷ (s 69 75) ∷ (s 76 77) ∷ (s 77 81) ∷ (s 82 83) ∷ (s 84 85) ∷ (s 85 86) ∷ (s 87 88) ∷ (s 88 92) ∷ (s 93 94) ∷ (s 95 96) ∷ (s 96 97) ∷ (s 97 98) ∷ (s 98 99) ∷ (s 99 100) ∷ []) ∷ []) ((Some (((g.list (p 0 16 0 50) (g.part (g.atom (p 1 1 1 7) (g.spelled (k.Name (codes "import") false))) (g.part (g.list (p 2 5 8 21) (g.part (g.atom (p 3 3 9 15) (g.spelled (k.Name (codes "scheme") false))) (g.part (g.atom (p 4 4 16 20) (g.spelled (k.Name (codes "base") false))) g.none))) (g.part (g.list (p 6 15 22 49) (g.part (g.atom (p 7 7 23 29) (g.spelled (k.Name (codes "rename") false))) (g.part (g.list (p 8 10 30 37) (g.part (g.atom (p 9 9 31 36) (g.spelled (k.Name (codes "stack") false))) g.none)) (g.part (g.list (p 11 14 38 48) (g.part (g.atom (p 12 12 39 43) (g.spelled (k.Name (codes "push") false))) (g.part (g.atom (p 13 13 44 47) (g.spelled (k.Name (codes "add") false))) g.none))) g.none)))) g.none))))) ∷ ((g.list (p 17 23 51 62) (g.part (g.atom (p 18 18 52 55) (g.spelled (k.Name (codes "add") false))) (g.part (g.atom (p 19 19 56 57) (g.spelled (k.Numeral (codes "1")))) (g.part (g.list (p 20 22 58 61) (g.part (g.atom (p 20 20 58 59) (g.implied k.Quote)) (g.part (g.list (p 21 22 59 61) g.none) g.none))) g.none))))) ∷ [])) ∷ (Some (((g.list (p 0 32 0 100) (g.part (g.atom (p 1 1 1 15) (g.spelled (k.Name (codes "define-library") false))) (g.part (g.list (p 2 4 16 23) (g.part (g.atom (p 3 3 17 22) (g.spelled (k.Name (codes "stack") false))) g.none)) (g.part (g.list (p 5 8 24 37) (g.part (g.atom (p 6 6 25 31) (g.spelled (k.Name (codes "export") false))) (g.part (g.atom (p 7 7 32 36) (g.spelled (k.Name (codes "push") false))) g.none))) (g.part (g.list (p 9 15 38 60) (g.part (g.atom (p 10 10 39 45) (g.spelled (k.Name (codes "import") false))) (g.part (g.list (p 11 14 46 59) (g.part (g.atom (p 12 12 47 53) (g.spelled (k.Name (codes "scheme") false))) (g.part (g.atom (p 13 13 54 58) (g.spelled (k.Name (codes "base") false))) g.none))) g.none))) (g.part (g.list (p 16 31 61 99) (g.part (g.atom (p 17 17 62 67) (g.spelled (k.Name (codes "begin") false))) (g.part (g.list (p 18 30 68 98) (g.part (g.atom (p 19 19 69 75) (g.spelled (k.Name (codes "define") false))) (g.part (g.list (p 20 24 76 86) (g.part (g.atom (p 21 21 77 81) (g.spelled (k.Name (codes "push") false))) (g.part (g.atom (p 22 22 82 83) (g.spelled (k.Name (codes "x") false))) (g.part (g.atom (p 23 23 84 85) (g.spelled (k.Name (codes "s") false))) g.none)))) (g.part (g.list (p 25 29 87 97) (g.part (g.atom (p 26 26 88 92) (g.spelled (k.Name (codes "cons") false))) (g.part (g.atom (p 27 27 93 94) (g.spelled (k.Name (codes "x") false))) (g.part (g.atom (p 28 28 95 96) (g.spelled (k.Name (codes "s") false))) g.none)))) g.none)))) g.none))) g.none))))))) ∷ [])) ∷ []) (((codes "(import (scheme base) (rename (stack) (push add))) (add 1 '())")) ∷ ((codes "(define-library (stack) (export push) (import (scheme base)) (begin (define (push x s) (cons x s))))")) ∷ []) 0 52 (codes "plus") ≡ (((e 44 47 (codes "plus")) ∷ (e 52 55 (codes "plus")) ∷ []) ∷ ([]) ∷ [])
unfolding base_names standard_libraries prelude encode_utf8 chars spelled is_numeral is_identifier is_initial is_subsequent ucd_category
edits-worked_rename = refl
