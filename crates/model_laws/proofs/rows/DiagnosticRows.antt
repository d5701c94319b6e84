-- Open documents and their diagnostics, from outside.
-- Written by tests/definitions/rows; each row is checked by computing it.
use Rattle.std.specs.Prelude.{◌≡◌, ℕ, true, false, List, [], ◌∷◌, Some, codes, refl}
use Rattle.scheme_model.specs.StandardNames.{base_names}
use Rattle.scheme_model.proofs.Shown.{ArrowRow, diagnostic_rows}
use Rattle.std.specs.Char.{encode_utf8}
use Rattle.scheme_model.specs.StandardLibraries.{standard_libraries}
use Rattle.scheme_model.specs.Prelude.{prelude}
use Rattle.scheme_model.specs.Kinds as k
use Rattle.scheme_model.specs.Data as g
use Rattle.scheme_model.specs.Diagnostics.{Span, Bytes, Diagnostic}

abbrev s : ℕ → ℕ → Span
s start end = record { start = start; end = end }

abbrev p : ℕ → ℕ → ℕ → ℕ → g.Place
p first last start end = record { first = first; last = last; start = start; end = end }

abbrev b : ℕ → ℕ → ℕ → Bytes
b document start end = record { document = document; span = record { start = start; end = end } }

abbrev a : Bytes → Bytes → ArrowRow
a binder target = record { binder = binder; target = target }

abbrev q : ℕ → ℕ → ℕ → ℕ → List ℕ → Diagnostic
q document start end code text = record { document = document; start = start; end = end; code = code; text = text }

pub macros-5 : diagnostic_rows (((s 0 1) ∷ (s 1 7) ∷ (s 8 9) ∷ (s 9 15) ∷ (s 16 20) ∷ (s 20 21) ∷ (s 22 23) ∷ (s 23 29) ∷ (s 30 41) ∷ (s 41 42) ∷ (s 42 43) ∷ (s 44 45) ∷ (s 45 51) ∷ (s 52 53) ∷ (s 54 55) ∷ (s 55 56) ∷ (s 57 58) ∷ (s 58 64) ∷ (s 65 66) ∷ (s 66 67) ∷ (s 68 69) ∷ (s 69 70) ∷ (s 71 72) ∷ (s 72 73) ∷ (s 74 75) ∷ (s 75 79) ∷ (s 80 81) ∷ (s 82 83) ∷ (s 83 84) ∷ (s 85 86) ∷ (s 86 87) ∷ (s 88 89) ∷ (s 89 90) ∷ (s 90 91) ∷ (s 91 92) ∷ (s 93 94) ∷ (s 94 107) ∷ (s 108 109) ∷ (s 110 111) ∷ (s 111 123) ∷ (s 124 125) ∷ (s 125 126) ∷ (s 127 128) ∷ (s 128 129) ∷ (s 129 130) ∷ (s 131 132) ∷ (s 133 134) ∷ (s 134 135) ∷ (s 135 136) ∷ (s 137 138) ∷ (s 138 139) ∷ (s 139 140) ∷ (s 140 141) ∷ (s 141 142) ∷ (s 143 144) ∷ []) ∷ []) ((Some (((g.list (p 0 10 0 43) (g.part (g.atom (p 1 1 1 7) (g.spelled (k.Name (codes "import") false))) (g.part (g.list (p 2 5 8 21) (g.part (g.atom (p 3 3 9 15) (g.spelled (k.Name (codes "scheme") false))) (g.part (g.atom (p 4 4 16 20) (g.spelled (k.Name (codes "base") false))) g.none))) (g.part (g.list (p 6 9 22 42) (g.part (g.atom (p 7 7 23 29) (g.spelled (k.Name (codes "scheme") false))) (g.part (g.atom (p 8 8 30 41) (g.spelled (k.Name (codes "case-lambda") false))) g.none))) g.none))))) ∷ ((g.list (p 11 15 44 56) (g.part (g.atom (p 12 12 45 51) (g.spelled (k.Name (codes "define") false))) (g.part (g.atom (p 13 13 52 53) (g.spelled (k.Name (codes "b") false))) (g.part (g.atom (p 14 14 54 55) (g.spelled (k.Name (codes "a") false))) g.none))))) ∷ ((g.list (p 16 34 57 92) (g.part (g.atom (p 17 17 58 64) (g.spelled (k.Name (codes "define") false))) (g.part (g.list (p 18 21 65 70) (g.part (g.atom (p 19 19 66 67) (g.spelled (k.Name (codes "a") false))) (g.part (g.atom (p 20 20 68 69) (g.spelled (k.Name (codes "x") false))) g.none))) (g.part (g.list (p 22 33 71 91) (g.part (g.atom (p 23 23 72 73) (g.spelled (k.Name (codes "y") false))) (g.part (g.list (p 24 28 74 84) (g.part (g.atom (p 25 25 75 79) (g.spelled (k.Name (codes "set!") false))) (g.part (g.atom (p 26 26 80 81) (g.spelled (k.Name (codes "t") false))) (g.part (g.atom (p 27 27 82 83) (g.spelled (k.Name (codes "a") false))) g.none)))) (g.part (g.list (p 29 32 85 90) (g.part (g.atom (p 30 30 86 87) (g.spelled (k.Name (codes "t") false))) (g.part (g.atom (p 31 31 88 89) (g.spelled (k.Name (codes "k") false))) g.none))) g.none)))) g.none))))) ∷ ((g.list (p 35 53 93 142) (g.part (g.atom (p 36 36 94 107) (g.spelled (k.Name (codes "define-syntax") false))) (g.part (g.atom (p 37 37 108 109) (g.spelled (k.Name (codes "n") false))) (g.part (g.list (p 38 52 110 141) (g.part (g.atom (p 39 39 111 123) (g.spelled (k.Name (codes "syntax-rules") false))) (g.part (g.list (p 40 41 124 126) g.none) (g.part (g.list (p 42 51 127 140) (g.part (g.list (p 43 45 128 132) (g.part (g.atom (p 44 44 129 130) (g.spelled (k.Name (codes "_") false))) g.none)) (g.part (g.list (p 46 50 133 139) (g.part (g.atom (p 46 46 133 134) (g.implied k.Quote)) (g.part (g.list (p 47 50 134 139) (g.part (g.atom (p 48 48 135 136) (g.spelled (k.Name (codes "a") false))) (g.part (g.atom (p 49 49 137 138) (g.spelled (k.Name (codes "f") false))) g.none))) g.none))) g.none))) g.none)))) g.none))))) ∷ ((g.atom (p 54 54 143 144) (g.spelled (k.Name (codes "m") false)))) ∷ [])) ∷ []) ≡ ((q 0 72 73 103 (codes "unbound y")) ∷ (q 0 80 81 103 (codes "unbound t")) ∷ (q 0 86 87 103 (codes "unbound t")) ∷ (q 0 88 89 103 (codes "unbound k")) ∷ (q 0 143 144 103 (codes "unbound m")) ∷ [])
unfolding base_names standard_libraries prelude encode_utf8
macros-5 = refl

pub workspaces-13 : diagnostic_rows (((s 0 1) ∷ (s 1 15) ∷ (s 16 17) ∷ (s 17 19) ∷ (s 19 20) ∷ (s 22 23) ∷ (s 23 29) ∷ (s 30 31) ∷ (s 33 34) ∷ (s 34 40) ∷ (s 41 42) ∷ (s 42 48) ∷ (s 49 53) ∷ (s 53 54) ∷ (s 54 55) ∷ (s 57 58) ∷ (s 58 63) ∷ (s 66 67) ∷ (s 67 73) ∷ (s 74 75) ∷ (s 75 76) ∷ (s 77 78) ∷ (s 78 79) ∷ (s 80 81) ∷ (s 81 82) ∷ (s 82 83) ∷ (s 86 87) ∷ (s 87 89) ∷ (s 89 90) ∷ (s 90 91) ∷ (s 91 92) ∷ []) ∷ ((s 0 1) ∷ (s 1 15) ∷ (s 16 17) ∷ (s 17 19) ∷ (s 19 20) ∷ (s 22 23) ∷ (s 23 29) ∷ (s 30 31) ∷ (s 32 33) ∷ (s 33 39) ∷ (s 40 41) ∷ (s 42 46) ∷ (s 46 47) ∷ (s 47 48) ∷ (s 50 51) ∷ (s 51 57) ∷ (s 58 59) ∷ (s 59 65) ∷ (s 66 70) ∷ (s 70 71) ∷ (s 71 72) ∷ (s 74 75) ∷ (s 75 80) ∷ (s 83 84) ∷ (s 84 90) ∷ (s 91 92) ∷ (s 92 93) ∷ (s 94 95) ∷ (s 95 96) ∷ (s 97 98) ∷ (s 98 100) ∷ (s 101 102) ∷ (s 103 104) ∷ (s 105 106) ∷ (s 106 107) ∷ (s 108 109) ∷ (s 109 122) ∷ (s 123 124) ∷ (s 124 125) ∷ (s 126 127) ∷ (s 127 128) ∷ (s 129 130) ∷ (s 130 136) ∷ (s 137 138) ∷ (s 138 139) ∷ (s 139 140) ∷ (s 141 142) ∷ (s 142 148) ∷ (s 149 150) ∷ (s 150 151) ∷ (s 151 152) ∷ (s 153 154) ∷ (s 154 155) ∷ (s 155 156) ∷ (s 156 157) ∷ (s 158 159) ∷ (s 159 160) ∷ (s 160 161) ∷ (s 162 163) ∷ (s 163 166) ∷ (s 167 168) ∷ (s 169 170) ∷ (s 170 171) ∷ (s 171 172) ∷ (s 173 176) ∷ (s 176 177) ∷ (s 177 178) ∷ (s 179 180) ∷ (s 181 182) ∷ (s 182 183) ∷ (s 184 185) ∷ (s 185 191) ∷ (s 192 193) ∷ (s 193 194) ∷ (s 195 196) ∷ (s 196 197) ∷ (s 198 199) ∷ (s 199 205) ∷ (s 206 207) ∷ (s 207 208) ∷ (s 209 210) ∷ (s 210 211) ∷ (s 212 213) ∷ (s 213 224) ∷ (s 225 226) ∷ (s 226 227) ∷ (s 227 229) ∷ (s 230 234) ∷ (s 235 239) ∷ (s 239 240) ∷ (s 241 242) ∷ (s 242 248) ∷ (s 249 250) ∷ (s 250 251) ∷ (s 252 253) ∷ (s 253 254) ∷ (s 255 256) ∷ (s 257 258) ∷ (s 258 259) ∷ (s 259 260) ∷ (s 261 262) ∷ (s 262 266) ∷ (s 267 268) ∷ (s 268 273) ∷ (s 274 275) ∷ (s 275 288) ∷ (s 289 290) ∷ (s 291 292) ∷ (s 292 304) ∷ (s 305 306) ∷ (s 306 310) ∷ (s 310 311) ∷ (s 312 313) ∷ (s 313 314) ∷ (s 314 315) ∷ (s 316 317) ∷ (s 317 318) ∷ (s 319 320) ∷ (s 320 321) ∷ (s 322 326) ∷ (s 326 327) ∷ (s 328 329) ∷ (s 329 334) ∷ (s 335 336) ∷ (s 336 342) ∷ (s 343 344) ∷ (s 345 346) ∷ (s 346 349) ∷ (s 350 351) ∷ (s 351 352) ∷ (s 352 353) ∷ (s 354 357) ∷ (s 357 358) ∷ (s 358 359) ∷ (s 360 361) ∷ (s 361 367) ∷ (s 368 369) ∷ (s 370 376) ∷ (s 376 377) ∷ (s 378 379) ∷ (s 379 380) ∷ (s 380 381) ∷ (s 382 383) ∷ (s 383 389) ∷ (s 390 391) ∷ (s 392 393) ∷ (s 393 396) ∷ (s 397 398) ∷ (s 398 399) ∷ (s 399 402) ∷ (s 403 404) ∷ (s 404 405) ∷ (s 405 406) ∷ (s 407 408) ∷ (s 408 409) ∷ (s 409 410) ∷ (s 410 411) ∷ (s 411 412) ∷ (s 412 413) ∷ (s 413 414) ∷ (s 415 416) ∷ (s 416 422) ∷ (s 423 424) ∷ (s 424 425) ∷ (s 426 427) ∷ (s 427 428) ∷ (s 429 430) ∷ (s 430 436) ∷ (s 437 438) ∷ (s 439 440) ∷ (s 440 441) ∷ (s 442 443) ∷ (s 443 444) ∷ (s 444 445) ∷ (s 445 446) ∷ (s 446 447) ∷ (s 448 449) ∷ (s 450 451) ∷ (s 451 452) ∷ (s 453 454) ∷ (s 454 455) ∷ (s 455 456) ∷ (s 459 460) ∷ (s 460 461) ∷ (s 461 462) ∷ (s 463 464) ∷ (s 464 465) ∷ (s 466 468) ∷ (s 468 469) ∷ (s 469 473) ∷ (s 473 474) ∷ (s 475 476) ∷ (s 477 478) ∷ (s 478 479) ∷ (s 482 483) ∷ (s 483 489) ∷ (s 490 491) ∷ (s 491 492) ∷ (s 493 494) ∷ (s 494 495) ∷ (s 496 497) ∷ (s 497 503) ∷ (s 504 505) ∷ (s 505 506) ∷ (s 507 508) ∷ (s 508 509) ∷ (s 510 511) ∷ (s 511 517) ∷ (s 518 519) ∷ (s 519 522) ∷ (s 523 524) ∷ (s 524 525) ∷ (s 526 527) ∷ (s 527 528) ∷ (s 529 530) ∷ (s 530 531) ∷ (s 532 533) ∷ (s 533 538) ∷ (s 539 540) ∷ (s 541 542) ∷ (s 542 543) ∷ (s 543 544) ∷ (s 544 545) ∷ (s 545 546) ∷ []) ∷ ((s 0 1) ∷ (s 1 15) ∷ (s 16 17) ∷ (s 17 19) ∷ (s 19 20) ∷ (s 22 23) ∷ (s 23 29) ∷ (s 30 31) ∷ (s 33 34) ∷ (s 34 40) ∷ (s 41 42) ∷ (s 42 48) ∷ (s 49 53) ∷ (s 53 54) ∷ (s 55 56) ∷ (s 56 58) ∷ (s 58 59) ∷ (s 59 60) ∷ (s 62 63) ∷ (s 63 68) ∷ (s 71 72) ∷ (s 72 82) ∷ (s 83 84) ∷ (s 84 85) ∷ (s 85 86) ∷ (s 86 87) ∷ (s 88 89) ∷ (s 89 90) ∷ (s 91 92) ∷ (s 92 95) ∷ (s 96 97) ∷ (s 97 98) ∷ (s 98 99) ∷ (s 99 100) ∷ (s 101 102) ∷ (s 102 115) ∷ (s 116 117) ∷ (s 117 118) ∷ (s 119 120) ∷ (s 120 121) ∷ (s 122 123) ∷ (s 123 124) ∷ (s 124 125) ∷ (s 125 126) ∷ (s 127 128) ∷ (s 128 139) ∷ (s 140 141) ∷ (s 141 142) ∷ (s 142 144) ∷ (s 145 149) ∷ (s 150 154) ∷ (s 154 155) ∷ (s 156 157) ∷ (s 157 170) ∷ (s 171 174) ∷ (s 175 176) ∷ (s 176 188) ∷ (s 189 190) ∷ (s 190 191) ∷ (s 192 193) ∷ (s 193 194) ∷ (s 194 195) ∷ (s 196 197) ∷ (s 198 199) ∷ (s 199 201) ∷ (s 202 203) ∷ (s 203 204) ∷ (s 204 205) ∷ (s 206 207) ∷ (s 207 208) ∷ (s 209 210) ∷ (s 210 211) ∷ (s 211 212) ∷ (s 213 214) ∷ (s 214 215) ∷ (s 216 217) ∷ (s 217 218) ∷ (s 218 219) ∷ (s 220 221) ∷ (s 221 222) ∷ (s 222 223) ∷ (s 224 225) ∷ (s 226 230) ∷ (s 230 231) ∷ (s 232 233) ∷ (s 233 239) ∷ (s 240 241) ∷ (s 241 242) ∷ (s 242 243) ∷ (s 244 245) ∷ (s 245 251) ∷ (s 252 253) ∷ (s 254 256) ∷ (s 256 257) ∷ (s 258 259) ∷ (s 259 260) ∷ (s 260 261) ∷ (s 261 262) ∷ (s 262 263) ∷ (s 263 264) ∷ (s 265 266) ∷ (s 266 270) ∷ (s 271 272) ∷ (s 272 278) ∷ (s 279 280) ∷ (s 281 282) ∷ (s 282 283) ∷ (s 283 284) ∷ (s 284 285) ∷ (s 286 287) ∷ (s 287 290) ∷ (s 290 291) ∷ (s 291 292) ∷ (s 295 296) ∷ (s 299 300) ∷ (s 300 301) ∷ (s 301 302) ∷ (s 302 303) ∷ (s 303 304) ∷ []) ∷ ((s 0 1) ∷ (s 1 7) ∷ (s 8 9) ∷ (s 9 15) ∷ (s 16 20) ∷ (s 20 21) ∷ (s 22 23) ∷ (s 23 25) ∷ (s 25 26) ∷ (s 27 28) ∷ (s 28 34) ∷ (s 35 36) ∷ (s 36 38) ∷ (s 38 39) ∷ (s 40 44) ∷ (s 44 45) ∷ (s 46 47) ∷ (s 47 49) ∷ (s 49 50) ∷ (s 50 51) ∷ (s 52 53) ∷ (s 53 56) ∷ (s 57 58) ∷ (s 58 59) ∷ (s 60 61) ∷ (s 61 62) ∷ (s 62 63) ∷ (s 64 65) ∷ (s 65 66) ∷ (s 67 68) ∷ (s 68 74) ∷ (s 75 76) ∷ (s 76 77) ∷ (s 77 78) ∷ (s 79 80) ∷ (s 80 86) ∷ (s 87 88) ∷ (s 88 89) ∷ (s 89 90) ∷ (s 91 92) ∷ (s 92 93) ∷ (s 93 94) ∷ (s 94 95) ∷ (s 96 97) ∷ (s 97 98) ∷ (s 99 102) ∷ (s 102 103) ∷ (s 104 105) ∷ (s 105 111) ∷ (s 112 113) ∷ (s 114 115) ∷ (s 115 118) ∷ (s 118 119) ∷ (s 120 121) ∷ (s 121 127) ∷ (s 128 129) ∷ (s 129 130) ∷ (s 131 132) ∷ (s 132 133) ∷ (s 134 135) ∷ (s 136 139) ∷ (s 139 140) ∷ (s 141 142) ∷ (s 142 147) ∷ (s 148 149) ∷ (s 149 150) ∷ (s 151 152) ∷ (s 153 156) ∷ (s 156 157) ∷ (s 158 159) ∷ (s 159 160) ∷ (s 161 164) ∷ (s 165 166) ∷ (s 166 167) ∷ (s 167 168) ∷ (s 168 169) ∷ (s 170 171) ∷ (s 172 173) ∷ (s 174 175) ∷ (s 175 181) ∷ (s 182 194) ∷ (s 195 198) ∷ (s 198 199) ∷ (s 200 201) ∷ (s 201 207) ∷ (s 208 209) ∷ (s 209 213) ∷ (s 214 215) ∷ (s 215 216) ∷ (s 217 218) ∷ (s 218 219) ∷ (s 219 223) ∷ (s 224 225) ∷ (s 226 227) ∷ (s 227 228) ∷ (s 229 230) ∷ (s 230 231) ∷ (s 232 233) ∷ (s 233 234) ∷ (s 234 235) ∷ (s 236 237) ∷ (s 237 241) ∷ (s 242 243) ∷ (s 243 244) ∷ (s 245 248) ∷ (s 249 250) ∷ (s 250 251) ∷ (s 252 253) ∷ (s 253 254) ∷ (s 254 255) ∷ (s 256 257) ∷ (s 257 258) ∷ (s 259 260) ∷ (s 260 262) ∷ (s 263 264) ∷ (s 264 265) ∷ (s 265 266) ∷ (s 267 268) ∷ (s 269 270) ∷ (s 270 271) ∷ (s 271 272) ∷ (s 273 274) ∷ (s 274 275) ∷ (s 275 276) ∷ (s 277 279) ∷ (s 279 280) ∷ (s 280 281) ∷ (s 282 283) ∷ (s 283 287) ∷ (s 288 290) ∷ (s 291 292) ∷ (s 292 294) ∷ (s 295 296) ∷ (s 297 298) ∷ (s 299 300) ∷ (s 300 301) ∷ (s 301 302) ∷ (s 302 303) ∷ (s 303 304) ∷ []) ∷ []) ((Some (((g.list (p 0 30 0 92) (g.part (g.atom (p 1 1 1 15) (g.spelled (k.Name (codes "define-library") false))) (g.part (g.list (p 2 4 16 20) (g.part (g.atom (p 3 3 17 19) (g.spelled (k.Name (codes "l0") false))) g.none)) (g.part (g.list (p 5 7 22 31) (g.part (g.atom (p 6 6 23 29) (g.spelled (k.Name (codes "export") false))) g.none)) (g.part (g.list (p 8 14 33 55) (g.part (g.atom (p 9 9 34 40) (g.spelled (k.Name (codes "import") false))) (g.part (g.list (p 10 13 41 54) (g.part (g.atom (p 11 11 42 48) (g.spelled (k.Name (codes "scheme") false))) (g.part (g.atom (p 12 12 49 53) (g.spelled (k.Name (codes "base") false))) g.none))) g.none))) (g.part (g.list (p 15 29 57 91) (g.part (g.atom (p 16 16 58 63) (g.spelled (k.Name (codes "begin") false))) (g.part (g.list (p 17 25 66 83) (g.part (g.atom (p 18 18 67 73) (g.spelled (k.Name (codes "lambda") false))) (g.part (g.list (p 19 20 74 76) g.none) (g.part (g.list (p 21 24 77 82) (g.part (g.atom (p 22 22 78 79) (g.spelled (k.Name (codes "a") false))) (g.part (g.atom (p 23 23 80 81) (g.spelled (k.Numeral (codes "2")))) g.none))) g.none)))) (g.part (g.list (p 26 28 86 90) (g.part (g.atom (p 26 26 86 87) (g.implied k.Quote)) (g.part (g.vector (p 27 28 87 90) g.none) g.none))) g.none)))) g.none))))))) ∷ [])) ∷ (Some (((g.list (p 0 223 0 546) (g.part (g.atom (p 1 1 1 15) (g.spelled (k.Name (codes "define-library") false))) (g.part (g.list (p 2 4 16 20) (g.part (g.atom (p 3 3 17 19) (g.spelled (k.Name (codes "l1") false))) g.none)) (g.part (g.list (p 5 13 22 48) (g.part (g.atom (p 6 6 23 29) (g.spelled (k.Name (codes "export") false))) (g.part (g.atom (p 7 7 30 31) (g.spelled (k.Name (codes "f") false))) (g.part (g.list (p 8 12 32 47) (g.part (g.atom (p 9 9 33 39) (g.spelled (k.Name (codes "rename") false))) (g.part (g.atom (p 10 10 40 41) (g.spelled (k.Name (codes "m") false))) (g.part (g.atom (p 11 11 42 46) (g.spelled (k.Name (codes "else") false))) g.none)))) g.none)))) (g.part (g.list (p 14 20 50 72) (g.part (g.atom (p 15 15 51 57) (g.spelled (k.Name (codes "import") false))) (g.part (g.list (p 16 19 58 71) (g.part (g.atom (p 17 17 59 65) (g.spelled (k.Name (codes "scheme") false))) (g.part (g.atom (p 18 18 66 70) (g.spelled (k.Name (codes "base") false))) g.none))) g.none))) (g.part (g.list (p 21 222 74 545) (g.part (g.atom (p 22 22 75 80) (g.spelled (k.Name (codes "begin") false))) (g.part (g.list (p 23 181 83 456) (g.part (g.atom (p 24 24 84 90) (g.spelled (k.Name (codes "define") false))) (g.part (g.list (p 25 28 91 96) (g.part (g.atom (p 26 26 92 93) (g.spelled (k.Name (codes "m") false))) (g.part (g.atom (p 27 27 94 95) (g.spelled (k.Name (codes "g") false))) g.none))) (g.part (g.list (p 29 34 97 107) (g.part (g.atom (p 30 30 98 100) (g.spelled (k.Name (codes "if") false))) (g.part (g.atom (p 31 31 101 102) (g.spelled (k.Numeral (codes "2")))) (g.part (g.atom (p 32 32 103 104) (g.spelled (k.Name (codes "b") false))) (g.part (g.atom (p 33 33 105 106) (g.spelled (k.Name (codes "y") false))) g.none))))) (g.part (g.list (p 35 57 108 161) (g.part (g.atom (p 36 36 109 122) (g.spelled (k.Name (codes "define-values") false))) (g.part (g.list (p 37 40 123 128) (g.part (g.atom (p 38 38 124 125) (g.spelled (k.Name (codes "q") false))) (g.part (g.atom (p 39 39 126 127) (g.spelled (k.Name (codes "b") false))) g.none))) (g.part (g.list (p 41 56 129 160) (g.part (g.atom (p 42 42 130 136) (g.spelled (k.Name (codes "letrec") false))) (g.part (g.list (p 43 54 137 157) (g.part (g.list (p 44 53 138 156) (g.part (g.atom (p 45 45 139 140) (g.spelled (k.Name (codes "t") false))) (g.part (g.list (p 46 52 141 155) (g.part (g.atom (p 47 47 142 148) (g.spelled (k.Name (codes "lambda") false))) (g.part (g.list (p 48 50 149 152) (g.part (g.atom (p 49 49 150 151) (g.spelled (k.Name (codes "m") false))) g.none)) (g.part (g.atom (p 51 51 153 154) (g.spelled (k.Name (codes "k") false))) g.none)))) g.none))) g.none)) (g.part (g.atom (p 55 55 158 159) (g.spelled (k.Name (codes "x") false))) g.none)))) g.none)))) (g.part (g.list (p 58 69 162 183) (g.part (g.atom (p 59 59 163 166) (g.spelled (k.Name (codes "let") false))) (g.part (g.atom (p 60 60 167 168) (g.spelled (k.Name (codes "f") false))) (g.part (g.list (p 61 66 169 178) (g.part (g.list (p 62 65 170 177) (g.part (g.atom (p 63 63 171 172) (g.spelled (k.Name (codes "n") false))) (g.part (g.atom (p 64 64 173 176) (g.spelled (k.Quoted (codes "s")))) g.none))) g.none)) (g.part (g.atom (p 67 67 179 180) (g.spelled (k.Name (codes "a") false))) (g.part (g.atom (p 68 68 181 182) (g.spelled (k.Name (codes "m") false))) g.none)))))) (g.part (g.list (p 70 180 184 455) (g.part (g.atom (p 71 71 185 191) (g.spelled (k.Name (codes "define") false))) (g.part (g.list (p 72 75 192 197) (g.part (g.atom (p 73 73 193 194) (g.spelled (k.Name (codes "m") false))) (g.part (g.atom (p 74 74 195 196) (g.spelled (k.Name (codes "f") false))) g.none))) (g.part (g.list (p 76 178 198 452) (g.part (g.atom (p 77 77 199 205) (g.spelled (k.Name (codes "define") false))) (g.part (g.list (p 78 81 206 211) (g.part (g.atom (p 79 79 207 208) (g.spelled (k.Name (codes "g") false))) (g.part (g.atom (p 80 80 209 210) (g.spelled (k.Name (codes "n") false))) g.none))) (g.part (g.list (p 82 175 212 447) (g.part (g.atom (p 83 83 213 224) (g.spelled (k.Name (codes "cond-expand") false))) (g.part (g.list (p 84 99 225 260) (g.part (g.list (p 85 89 226 240) (g.part (g.atom (p 86 86 227 229) (g.spelled (k.Name (codes "or") false))) (g.part (g.atom (p 87 87 230 234) (g.spelled (k.Name (codes "full") false))) (g.part (g.atom (p 88 88 235 239) (g.spelled (k.Name (codes "r7rs") false))) g.none)))) (g.part (g.list (p 90 98 241 259) (g.part (g.atom (p 91 91 242 248) (g.spelled (k.Name (codes "define") false))) (g.part (g.list (p 92 95 249 254) (g.part (g.atom (p 93 93 250 251) (g.spelled (k.Name (codes "y") false))) (g.part (g.atom (p 94 94 252 253) (g.spelled (k.Name (codes "x") false))) g.none))) (g.part (g.atom (p 96 96 255 256) (g.spelled (k.Name (codes "g") false))) (g.part (g.atom (p 97 97 257 258) (g.spelled (k.Name (codes "a") false))) g.none))))) g.none))) (g.part (g.list (p 100 174 261 446) (g.part (g.atom (p 101 101 262 266) (g.spelled (k.Name (codes "else") false))) (g.part (g.list (p 102 173 267 445) (g.part (g.atom (p 103 103 268 273) (g.spelled (k.Name (codes "begin") false))) (g.part (g.list (p 104 159 274 414) (g.part (g.atom (p 105 105 275 288) (g.spelled (k.Name (codes "define-syntax") false))) (g.part (g.atom (p 106 106 289 290) (g.spelled (k.Name (codes "q") false))) (g.part (g.list (p 107 158 291 413) (g.part (g.atom (p 108 108 292 304) (g.spelled (k.Name (codes "syntax-rules") false))) (g.part (g.list (p 109 111 305 311) (g.part (g.atom (p 110 110 306 310) (g.spelled (k.Name (codes "else") false))) g.none)) (g.part (g.list (p 112 157 312 412) (g.part (g.list (p 113 120 313 327) (g.part (g.atom (p 114 114 314 315) (g.spelled (k.Name (codes "_") false))) (g.part (g.list (p 115 118 316 321) (g.part (g.atom (p 116 116 317 318) (g.spelled (k.Name (codes "g") false))) (g.part (g.atom (p 117 117 319 320) (g.spelled (k.Name (codes "y") false))) g.none))) (g.part (g.atom (p 119 119 322 326) (g.spelled (k.Name (codes "else") false))) g.none)))) (g.part (g.list (p 121 156 328 411) (g.part (g.atom (p 122 122 329 334) (g.spelled (k.Name (codes "begin") false))) (g.part (g.list (p 123 141 335 381) (g.part (g.atom (p 124 124 336 342) (g.spelled (k.Name (codes "define") false))) (g.part (g.atom (p 125 125 343 344) (g.spelled (k.Name (codes "x") false))) (g.part (g.list (p 126 140 345 380) (g.part (g.atom (p 127 127 346 349) (g.spelled (k.Name (codes "let") false))) (g.part (g.list (p 128 133 350 359) (g.part (g.list (p 129 132 351 358) (g.part (g.atom (p 130 130 352 353) (g.spelled (k.Name (codes "y") false))) (g.part (g.atom (p 131 131 354 357) (g.spelled (k.Name (codes "tmp") false))) g.none))) g.none)) (g.part (g.list (p 134 138 360 377) (g.part (g.atom (p 135 135 361 367) (g.spelled (k.Name (codes "define") false))) (g.part (g.atom (p 136 136 368 369) (g.spelled (k.Name (codes "y") false))) (g.part (g.atom (p 137 137 370 376) (g.spelled (k.Name (codes "lambda") false))) g.none)))) (g.part (g.atom (p 139 139 378 379) (g.spelled (k.Name (codes "y") false))) g.none))))) g.none)))) (g.part (g.list (p 142 155 382 410) (g.part (g.atom (p 143 143 383 389) (g.spelled (k.Name (codes "define") false))) (g.part (g.atom (p 144 144 390 391) (g.spelled (k.Name (codes "g") false))) (g.part (g.list (p 145 154 392 409) (g.part (g.atom (p 146 146 393 396) (g.spelled (k.Name (codes "let") false))) (g.part (g.list (p 147 152 397 406) (g.part (g.list (p 148 151 398 405) (g.part (g.atom (p 149 149 399 402) (g.spelled (k.Name (codes "tmp") false))) (g.part (g.atom (p 150 150 403 404) (g.spelled (k.Name (codes "t") false))) g.none))) g.none)) (g.part (g.atom (p 153 153 407 408) (g.spelled (k.Name (codes "g") false))) g.none)))) g.none)))) g.none)))) g.none))) g.none)))) g.none)))) (g.part (g.list (p 160 172 415 444) (g.part (g.atom (p 161 161 416 422) (g.spelled (k.Name (codes "define") false))) (g.part (g.list (p 162 165 423 428) (g.part (g.atom (p 163 163 424 425) (g.spelled (k.Name (codes "g") false))) (g.part (g.atom (p 164 164 426 427) (g.spelled (k.Name (codes "f") false))) g.none))) (g.part (g.list (p 166 170 429 441) (g.part (g.atom (p 167 167 430 436) (g.spelled (k.Name (codes "define") false))) (g.part (g.atom (p 168 168 437 438) (g.spelled (k.Name (codes "k") false))) (g.part (g.atom (p 169 169 439 440) (g.spelled (k.Name (codes "n") false))) g.none)))) (g.part (g.atom (p 171 171 442 443) (g.spelled (k.Name (codes "k") false))) g.none))))) g.none)))) g.none))) g.none)))) (g.part (g.atom (p 176 176 448 449) (g.spelled (k.Name (codes "g") false))) (g.part (g.atom (p 177 177 450 451) (g.spelled (k.Numeral (codes "2")))) g.none)))))) (g.part (g.atom (p 179 179 453 454) (g.spelled (k.Name (codes "t") false))) g.none))))) g.none))))))) (g.part (g.list (p 182 193 459 479) (g.part (g.atom (p 182 182 459 460) (g.implied k.Quasi)) (g.part (g.list (p 183 193 460 479) (g.part (g.atom (p 184 184 461 462) (g.spelled (k.Numeral (codes "1")))) (g.part (g.list (p 185 186 463 465) (g.part (g.atom (p 185 185 463 464) (g.implied k.Unquote)) (g.part (g.atom (p 186 186 464 465) (g.spelled (k.Name (codes "k") false))) g.none))) (g.part (g.list (p 187 190 466 474) (g.part (g.atom (p 187 187 466 468) (g.implied k.Splice)) (g.part (g.list (p 188 190 468 474) (g.part (g.atom (p 189 189 469 473) (g.spelled (k.Name (codes "list") false))) g.none)) g.none))) (g.tail (g.atom (p 192 192 477 478) (g.spelled (k.Name (codes "t") false)))))))) g.none))) (g.part (g.list (p 194 221 482 544) (g.part (g.atom (p 195 195 483 489) (g.spelled (k.Name (codes "define") false))) (g.part (g.list (p 196 199 490 495) (g.part (g.atom (p 197 197 491 492) (g.spelled (k.Name (codes "f") false))) (g.part (g.atom (p 198 198 493 494) (g.spelled (k.Name (codes "k") false))) g.none))) (g.part (g.list (p 200 215 496 531) (g.part (g.atom (p 201 201 497 503) (g.spelled (k.Name (codes "define") false))) (g.part (g.list (p 202 205 504 509) (g.part (g.atom (p 203 203 505 506) (g.spelled (k.Name (codes "n") false))) (g.part (g.atom (p 204 204 507 508) (g.spelled (k.Name (codes "m") false))) g.none))) (g.part (g.list (p 206 213 510 528) (g.part (g.atom (p 207 207 511 517) (g.spelled (k.Name (codes "define") false))) (g.part (g.list (p 208 211 518 525) (g.part (g.atom (p 209 209 519 522) (g.spelled (k.Name (codes "tmp") false))) (g.part (g.atom (p 210 210 523 524) (g.spelled (k.Name (codes "y") false))) g.none))) (g.part (g.atom (p 212 212 526 527) (g.spelled (k.Name (codes "x") false))) g.none)))) (g.part (g.atom (p 214 214 529 530) (g.spelled (k.Name (codes "k") false))) g.none))))) (g.part (g.list (p 216 220 532 543) (g.part (g.atom (p 217 217 533 538) (g.spelled (k.Name (codes "begin") false))) (g.part (g.atom (p 218 218 539 540) (g.spelled (k.Name (codes "q") false))) (g.part (g.atom (p 219 219 541 542) (g.spelled (k.Name (codes "x") false))) g.none)))) g.none))))) g.none))))) g.none))))))) ∷ [])) ∷ (Some (((g.list (p 0 118 0 304) (g.part (g.atom (p 1 1 1 15) (g.spelled (k.Name (codes "define-library") false))) (g.part (g.list (p 2 4 16 20) (g.part (g.atom (p 3 3 17 19) (g.spelled (k.Name (codes "l2") false))) g.none)) (g.part (g.list (p 5 7 22 31) (g.part (g.atom (p 6 6 23 29) (g.spelled (k.Name (codes "export") false))) g.none)) (g.part (g.list (p 8 17 33 60) (g.part (g.atom (p 9 9 34 40) (g.spelled (k.Name (codes "import") false))) (g.part (g.list (p 10 13 41 54) (g.part (g.atom (p 11 11 42 48) (g.spelled (k.Name (codes "scheme") false))) (g.part (g.atom (p 12 12 49 53) (g.spelled (k.Name (codes "base") false))) g.none))) (g.part (g.list (p 14 16 55 59) (g.part (g.atom (p 15 15 56 58) (g.spelled (k.Name (codes "l0") false))) g.none)) g.none)))) (g.part (g.list (p 18 117 62 303) (g.part (g.atom (p 19 19 63 68) (g.spelled (k.Name (codes "begin") false))) (g.part (g.list (p 20 112 71 292) (g.part (g.atom (p 21 21 72 82) (g.spelled (k.Name (codes "let-values") false))) (g.part (g.list (p 22 33 83 100) (g.part (g.list (p 23 32 84 99) (g.part (g.list (p 24 27 85 90) (g.part (g.atom (p 25 25 86 87) (g.spelled (k.Name (codes "g") false))) (g.part (g.atom (p 26 26 88 89) (g.spelled (k.Name (codes "m") false))) g.none))) (g.part (g.list (p 28 31 91 98) (g.part (g.atom (p 29 29 92 95) (g.spelled (k.Quoted (codes "s")))) (g.part (g.atom (p 30 30 96 97) (g.spelled (k.Numeral (codes "2")))) g.none))) g.none))) g.none)) (g.part (g.list (p 34 43 101 126) (g.part (g.atom (p 35 35 102 115) (g.spelled (k.Name (codes "define-values") false))) (g.part (g.list (p 36 39 116 121) (g.part (g.atom (p 37 37 117 118) (g.spelled (k.Name (codes "q") false))) (g.part (g.atom (p 38 38 119 120) (g.spelled (k.Name (codes "b") false))) g.none))) (g.part (g.list (p 40 42 122 125) (g.part (g.atom (p 41 41 123 124) (g.spelled (k.Name (codes "a") false))) g.none)) g.none)))) (g.part (g.list (p 44 108 127 285) (g.part (g.atom (p 45 45 128 139) (g.spelled (k.Name (codes "cond-expand") false))) (g.part (g.list (p 46 99 140 264) (g.part (g.list (p 47 51 141 155) (g.part (g.atom (p 48 48 142 144) (g.spelled (k.Name (codes "or") false))) (g.part (g.atom (p 49 49 145 149) (g.spelled (k.Name (codes "full") false))) (g.part (g.atom (p 50 50 150 154) (g.spelled (k.Name (codes "r7rs") false))) g.none)))) (g.part (g.list (p 52 98 156 263) (g.part (g.atom (p 53 53 157 170) (g.spelled (k.Name (codes "define-syntax") false))) (g.part (g.atom (p 54 54 171 174) (g.spelled (k.Name (codes "tmp") false))) (g.part (g.list (p 55 97 175 262) (g.part (g.atom (p 56 56 176 188) (g.spelled (k.Name (codes "syntax-rules") false))) (g.part (g.list (p 57 58 189 191) g.none) (g.part (g.list (p 59 77 192 219) (g.part (g.list (p 60 62 193 197) (g.part (g.atom (p 61 61 194 195) (g.spelled (k.Name (codes "_") false))) g.none)) (g.part (g.list (p 63 76 198 218) (g.part (g.atom (p 64 64 199 201) (g.spelled (k.Name (codes "if") false))) (g.part (g.list (p 65 69 202 208) (g.part (g.atom (p 65 65 202 203) (g.implied k.Quote)) (g.part (g.list (p 66 69 203 208) (g.part (g.atom (p 67 67 204 205) (g.spelled (k.Name (codes "a") false))) (g.part (g.atom (p 68 68 206 207) (g.spelled (k.Name (codes "k") false))) g.none))) g.none))) (g.part (g.list (p 70 74 209 215) (g.part (g.atom (p 70 70 209 210) (g.implied k.Quote)) (g.part (g.list (p 71 74 210 215) (g.part (g.atom (p 72 72 211 212) (g.spelled (k.Name (codes "n") false))) (g.part (g.atom (p 73 73 213 214) (g.spelled (k.Name (codes "a") false))) g.none))) g.none))) (g.part (g.atom (p 75 75 216 217) (g.spelled (k.Name (codes "a") false))) g.none))))) g.none))) (g.part (g.list (p 78 96 220 261) (g.part (g.list (p 79 83 221 231) (g.part (g.atom (p 80 80 222 223) (g.spelled (k.Name (codes "_") false))) (g.tail (g.atom (p 82 82 226 230) (g.spelled (k.Name (codes "rest") false)))))) (g.part (g.list (p 84 95 232 260) (g.part (g.atom (p 85 85 233 239) (g.spelled (k.Name (codes "lambda") false))) (g.part (g.list (p 86 88 240 243) (g.part (g.atom (p 87 87 241 242) (g.spelled (k.Name (codes "m") false))) g.none)) (g.part (g.list (p 89 93 244 257) (g.part (g.atom (p 90 90 245 251) (g.spelled (k.Name (codes "define") false))) (g.part (g.atom (p 91 91 252 253) (g.spelled (k.Name (codes "t") false))) (g.part (g.atom (p 92 92 254 256) (g.spelled (k.Name (codes "if") false))) g.none)))) (g.part (g.atom (p 94 94 258 259) (g.spelled (k.Name (codes "x") false))) g.none))))) g.none))) g.none))))) g.none)))) g.none))) (g.part (g.list (p 100 107 265 284) (g.part (g.atom (p 101 101 266 270) (g.spelled (k.Name (codes "else") false))) (g.part (g.list (p 102 106 271 283) (g.part (g.atom (p 103 103 272 278) (g.spelled (k.Name (codes "define") false))) (g.part (g.atom (p 104 104 279 280) (g.spelled (k.Name (codes "q") false))) (g.part (g.atom (p 105 105 281 282) (g.spelled (k.Name (codes "a") false))) g.none)))) g.none))) g.none)))) (g.part (g.list (p 109 111 286 291) (g.part (g.atom (p 110 110 287 290) (g.spelled (k.Name (codes "tmp") false))) g.none)) g.none)))))) (g.part (g.atom (p 113 113 295 296) (g.spelled (k.Name (codes "b") false))) (g.part (g.list (p 114 116 299 302) (g.part (g.atom (p 115 115 300 301) (g.spelled (k.Name (codes "m") false))) g.none)) g.none))))) g.none))))))) ∷ [])) ∷ (Some (((g.list (p 0 19 0 51) (g.part (g.atom (p 1 1 1 7) (g.spelled (k.Name (codes "import") false))) (g.part (g.list (p 2 5 8 21) (g.part (g.atom (p 3 3 9 15) (g.spelled (k.Name (codes "scheme") false))) (g.part (g.atom (p 4 4 16 20) (g.spelled (k.Name (codes "base") false))) g.none))) (g.part (g.list (p 6 8 22 26) (g.part (g.atom (p 7 7 23 25) (g.spelled (k.Name (codes "l0") false))) g.none)) (g.part (g.list (p 9 15 27 45) (g.part (g.atom (p 10 10 28 34) (g.spelled (k.Name (codes "except") false))) (g.part (g.list (p 11 13 35 39) (g.part (g.atom (p 12 12 36 38) (g.spelled (k.Name (codes "l1") false))) g.none)) (g.part (g.atom (p 14 14 40 44) (g.spelled (k.Name (codes "else") false))) g.none)))) (g.part (g.list (p 16 18 46 50) (g.part (g.atom (p 17 17 47 49) (g.spelled (k.Name (codes "l2") false))) g.none)) g.none))))))) ∷ ((g.list (p 20 75 52 169) (g.part (g.atom (p 21 21 53 56) (g.spelled (k.Name (codes "let") false))) (g.part (g.list (p 22 23 57 59) g.none) (g.part (g.list (p 24 46 60 103) (g.part (g.list (p 25 28 61 66) (g.part (g.atom (p 26 26 62 63) (g.spelled (k.Name (codes "g") false))) (g.part (g.atom (p 27 27 64 65) (g.spelled (k.Name (codes "y") false))) g.none))) (g.part (g.list (p 29 44 67 98) (g.part (g.atom (p 30 30 68 74) (g.spelled (k.Name (codes "letrec") false))) (g.part (g.list (p 31 42 75 95) (g.part (g.list (p 32 41 76 94) (g.part (g.atom (p 33 33 77 78) (g.spelled (k.Name (codes "a") false))) (g.part (g.list (p 34 40 79 93) (g.part (g.atom (p 35 35 80 86) (g.spelled (k.Name (codes "lambda") false))) (g.part (g.list (p 36 38 87 90) (g.part (g.atom (p 37 37 88 89) (g.spelled (k.Name (codes "k") false))) g.none)) (g.part (g.atom (p 39 39 91 92) (g.spelled (k.Name (codes "m") false))) g.none)))) g.none))) g.none)) (g.part (g.atom (p 43 43 96 97) (g.spelled (k.Name (codes "m") false))) g.none)))) (g.part (g.atom (p 45 45 99 102) (g.spelled (k.Name (codes "x") true))) g.none)))) (g.part (g.list (p 47 52 104 119) (g.part (g.atom (p 48 48 105 111) (g.spelled (k.Name (codes "define") false))) (g.part (g.atom (p 49 49 112 113) (g.spelled (k.Name (codes "b") false))) (g.part (g.list (p 50 51 114 118) (g.part (g.atom (p 50 50 114 115) (g.implied k.Quote)) (g.part (g.atom (p 51 51 115 118) (g.spelled (k.Character 99))) g.none))) g.none)))) (g.part (g.list (p 53 61 120 140) (g.part (g.atom (p 54 54 121 127) (g.spelled (k.Name (codes "define") false))) (g.part (g.list (p 55 58 128 133) (g.part (g.atom (p 56 56 129 130) (g.spelled (k.Name (codes "k") false))) (g.part (g.atom (p 57 57 131 132) (g.spelled (k.Name (codes "b") false))) g.none))) (g.part (g.atom (p 59 59 134 135) (g.spelled (k.Name (codes "f") false))) (g.part (g.atom (p 60 60 136 139) (g.spelled (k.Name (codes "tmp") false))) g.none))))) (g.part (g.list (p 62 74 141 168) (g.part (g.atom (p 63 63 142 147) (g.spelled (k.Name (codes "begin") false))) (g.part (g.list (p 64 68 148 157) (g.part (g.atom (p 65 65 149 150) (g.spelled (k.Name (codes "x") false))) (g.part (g.atom (p 66 66 151 152) (g.spelled (k.Name (codes "f") false))) (g.part (g.atom (p 67 67 153 156) (g.spelled (k.Name (codes "tmp") false))) g.none)))) (g.part (g.list (p 69 73 158 167) (g.part (g.atom (p 70 70 159 160) (g.spelled (k.Name (codes "g") false))) (g.part (g.atom (p 71 71 161 164) (g.spelled (k.Character 99))) (g.part (g.atom (p 72 72 165 166) (g.spelled (k.Name (codes "g") false))) g.none)))) g.none)))) g.none)))))))) ∷ ((g.atom (p 76 76 170 171) (g.spelled (k.Name (codes "k") false)))) ∷ ((g.atom (p 77 77 172 173) (g.spelled (k.Name (codes "a") false)))) ∷ ((g.list (p 78 82 174 199) (g.part (g.atom (p 79 79 175 181) (g.spelled (k.Name (codes "define") false))) (g.part (g.atom (p 80 80 182 194) (g.spelled (k.Name (codes "syntax-rules") false))) (g.part (g.atom (p 81 81 195 198) (g.spelled (k.Name (codes "tmp") false))) g.none))))) ∷ ((g.list (p 83 138 200 304) (g.part (g.atom (p 84 84 201 207) (g.spelled (k.Name (codes "define") false))) (g.part (g.list (p 85 88 208 216) (g.part (g.atom (p 86 86 209 213) (g.spelled (k.Name (codes "cond") false))) (g.part (g.atom (p 87 87 214 215) (g.spelled (k.Name (codes "t") false))) g.none))) (g.part (g.list (p 89 99 217 235) (g.part (g.list (p 90 94 218 228) (g.part (g.atom (p 91 91 219 223) (g.spelled (k.Name (codes "set!") false))) (g.part (g.atom (p 92 92 224 225) (g.spelled (k.Name (codes "f") false))) (g.part (g.atom (p 93 93 226 227) (g.spelled (k.Numeral (codes "2")))) g.none)))) (g.part (g.list (p 95 98 229 234) (g.part (g.atom (p 96 96 230 231) (g.spelled (k.Name (codes "q") false))) (g.part (g.atom (p 97 97 232 233) (g.spelled (k.Name (codes "b") false))) g.none))) g.none))) (g.part (g.list (p 100 137 236 303) (g.part (g.atom (p 101 101 237 241) (g.spelled (k.Name (codes "case") false))) (g.part (g.list (p 102 106 242 251) (g.part (g.atom (p 103 103 243 244) (g.spelled (k.Name (codes "t") false))) (g.part (g.atom (p 104 104 245 248) (g.spelled (k.Name (codes "tmp") false))) (g.part (g.atom (p 105 105 249 250) (g.spelled (k.Name (codes "x") false))) g.none)))) (g.part (g.list (p 107 126 252 281) (g.part (g.list (p 108 111 253 258) (g.part (g.atom (p 109 109 254 255) (g.spelled (k.Name (codes "a") false))) (g.part (g.atom (p 110 110 256 257) (g.spelled (k.Name (codes "n") false))) g.none))) (g.part (g.list (p 112 125 259 280) (g.part (g.atom (p 113 113 260 262) (g.spelled (k.Name (codes "do") false))) (g.part (g.list (p 114 120 263 272) (g.part (g.list (p 115 119 264 271) (g.part (g.atom (p 116 116 265 266) (g.spelled (k.Name (codes "m") false))) (g.part (g.atom (p 117 117 267 268) (g.spelled (k.Name (codes "y") false))) (g.part (g.atom (p 118 118 269 270) (g.spelled (k.Name (codes "b") false))) g.none)))) g.none)) (g.part (g.list (p 121 123 273 276) (g.part (g.atom (p 122 122 274 275) (g.spelled (k.Name (codes "f") false))) g.none)) (g.part (g.atom (p 124 124 277 279) (g.spelled (k.Truth true))) g.none))))) g.none))) (g.part (g.list (p 127 136 282 302) (g.part (g.atom (p 128 128 283 287) (g.spelled (k.Name (codes "else") false))) (g.part (g.atom (p 129 129 288 290) (g.spelled (k.Name (codes "=>") false))) (g.part (g.list (p 130 135 291 301) (g.part (g.atom (p 131 131 292 294) (g.spelled (k.Name (codes "if") false))) (g.part (g.atom (p 132 132 295 296) (g.spelled (k.Name (codes "x") false))) (g.part (g.atom (p 133 133 297 298) (g.spelled (k.Name (codes "g") false))) (g.part (g.atom (p 134 134 299 300) (g.spelled (k.Name (codes "k") false))) g.none))))) g.none)))) g.none))))) g.none)))))) ∷ [])) ∷ []) ≡ ((q 0 78 79 103 (codes "unbound a")) ∷ (q 1 105 106 103 (codes "unbound y")) ∷ (q 1 153 154 103 (codes "unbound k")) ∷ (q 1 158 159 103 (codes "unbound x")) ∷ (q 1 179 180 103 (codes "unbound a")) ∷ (q 1 257 258 103 (codes "unbound a")) ∷ (q 1 453 454 103 (codes "unbound t")) ∷ (q 1 464 465 103 (codes "unbound k")) ∷ (q 1 526 527 103 (codes "unbound x")) ∷ (q 1 539 540 103 (codes "unbound q")) ∷ (q 1 541 542 103 (codes "unbound x")) ∷ (q 2 123 124 103 (codes "unbound a")) ∷ (q 2 216 217 103 (codes "unbound a")) ∷ (q 2 295 296 103 (codes "unbound b")) ∷ (q 2 300 301 103 (codes "unbound m")) ∷ (q 3 62 63 103 (codes "unbound g")) ∷ (q 3 64 65 103 (codes "unbound y")) ∷ (q 3 91 92 103 (codes "unbound m")) ∷ (q 3 96 97 103 (codes "unbound m")) ∷ (q 3 99 102 103 (codes "unbound x")) ∷ (q 3 136 139 103 (codes "unbound tmp")) ∷ (q 3 149 150 103 (codes "unbound x")) ∷ (q 3 153 156 103 (codes "unbound tmp")) ∷ (q 3 159 160 103 (codes "unbound g")) ∷ (q 3 165 166 103 (codes "unbound g")) ∷ (q 3 170 171 103 (codes "unbound k")) ∷ (q 3 172 173 103 (codes "unbound a")) ∷ (q 3 182 194 101 (codes "definition hides import syntax-rules")) ∷ (q 3 195 198 103 (codes "unbound tmp")) ∷ (q 3 209 213 101 (codes "definition hides import cond")) ∷ (q 3 230 231 103 (codes "unbound q")) ∷ (q 3 232 233 103 (codes "unbound b")) ∷ (q 3 245 248 103 (codes "unbound tmp")) ∷ (q 3 249 250 103 (codes "unbound x")) ∷ (q 3 267 268 103 (codes "unbound y")) ∷ (q 3 269 270 103 (codes "unbound b")) ∷ (q 3 295 296 103 (codes "unbound x")) ∷ (q 3 297 298 103 (codes "unbound g")) ∷ (q 3 299 300 103 (codes "unbound k")) ∷ [])
unfolding base_names standard_libraries prelude encode_utf8
workspaces-13 = refl

pub macros-15 : diagnostic_rows (((s 0 1) ∷ (s 1 7) ∷ (s 8 9) ∷ (s 10 11) ∷ (s 11 12) ∷ (s 12 13) ∷ (s 13 14) ∷ (s 15 16) ∷ (s 16 17) ∷ (s 17 22) ∷ (s 22 23) ∷ (s 24 26) ∷ (s 26 27) ∷ (s 27 31) ∷ (s 32 33) ∷ (s 34 35) ∷ (s 35 36) ∷ (s 37 38) ∷ (s 39 40) ∷ (s 40 41) ∷ (s 42 43) ∷ (s 43 44) ∷ (s 44 46) ∷ (s 47 48) ∷ (s 49 50) ∷ (s 51 52) ∷ (s 52 53) ∷ (s 53 54) ∷ (s 54 55) ∷ (s 55 56) ∷ (s 57 58) ∷ (s 58 59) ∷ (s 59 61) ∷ (s 62 63) ∷ (s 63 69) ∷ (s 70 71) ∷ (s 71 75) ∷ (s 76 77) ∷ (s 78 79) ∷ (s 79 80) ∷ (s 81 82) ∷ (s 82 95) ∷ (s 96 97) ∷ (s 98 99) ∷ (s 99 111) ∷ (s 112 113) ∷ (s 113 114) ∷ (s 114 115) ∷ (s 116 117) ∷ (s 117 118) ∷ (s 118 119) ∷ (s 120 124) ∷ (s 125 126) ∷ (s 126 127) ∷ (s 128 129) ∷ (s 130 133) ∷ (s 133 134) ∷ (s 135 138) ∷ (s 139 140) ∷ (s 140 141) ∷ (s 142 143) ∷ (s 143 147) ∷ (s 148 149) ∷ (s 150 153) ∷ (s 154 158) ∷ (s 158 159) ∷ (s 159 160) ∷ (s 160 161) ∷ (s 161 162) ∷ (s 163 164) ∷ (s 165 166) ∷ (s 166 167) ∷ (s 168 169) ∷ (s 169 175) ∷ (s 176 177) ∷ (s 178 179) ∷ (s 180 183) ∷ (s 183 184) ∷ (s 184 185) ∷ (s 186 187) ∷ (s 188 189) ∷ (s 189 194) ∷ (s 195 196) ∷ (s 197 198) ∷ (s 198 199) ∷ (s 199 200) ∷ (s 200 201) ∷ []) ∷ []) ((Some (((g.list (p 0 29 0 56) (g.part (g.atom (p 1 1 1 7) (g.spelled (k.Name (codes "define") false))) (g.part (g.atom (p 2 2 8 9) (g.spelled (k.Name (codes "t") false))) (g.part (g.list (p 3 28 10 55) (g.part (g.list (p 4 19 11 41) (g.part (g.atom (p 4 4 11 12) (g.implied k.Quasi)) (g.part (g.list (p 5 19 12 41) (g.part (g.atom (p 6 6 13 14) (g.spelled (k.Name (codes "f") false))) (g.part (g.list (p 7 10 15 23) (g.part (g.atom (p 7 7 15 16) (g.implied k.Unquote)) (g.part (g.list (p 8 10 16 23) (g.part (g.atom (p 9 9 17 22) (g.spelled (k.Name (codes "a b") true))) g.none)) g.none))) (g.part (g.list (p 11 16 24 36) (g.part (g.atom (p 11 11 24 26) (g.implied k.Splice)) (g.part (g.list (p 12 16 26 36) (g.part (g.atom (p 13 13 27 31) (g.spelled (k.Name (codes "set!") false))) (g.part (g.atom (p 14 14 32 33) (g.spelled (k.Name (codes "a") false))) (g.part (g.atom (p 15 15 34 35) (g.spelled (k.Name (codes "k") false))) g.none)))) g.none))) (g.tail (g.atom (p 18 18 39 40) (g.spelled (k.Name (codes "n") false)))))))) g.none))) (g.part (g.list (p 20 27 42 54) (g.part (g.list (p 21 26 43 53) (g.part (g.atom (p 22 22 44 46) (g.spelled (k.Name (codes "if") false))) (g.part (g.atom (p 23 23 47 48) (g.spelled (k.Name (codes "b") false))) (g.part (g.atom (p 24 24 49 50) (g.spelled (k.Numeral (codes "2")))) (g.part (g.atom (p 25 25 51 52) (g.spelled (k.Numeral (codes "2")))) g.none))))) g.none)) g.none))) g.none))))) ∷ ((g.list (p 30 86 57 201) (g.part (g.list (p 31 78 58 185) (g.part (g.atom (p 32 32 59 61) (g.spelled (k.Name (codes "if") false))) (g.part (g.list (p 33 71 62 167) (g.part (g.atom (p 34 34 63 69) (g.spelled (k.Name (codes "lambda") false))) (g.part (g.list (p 35 39 70 80) (g.part (g.atom (p 36 36 71 75) (g.spelled (k.Name (codes "list") false))) (g.tail (g.atom (p 38 38 78 79) (g.spelled (k.Name (codes "m") false)))))) (g.part (g.list (p 40 68 81 162) (g.part (g.atom (p 41 41 82 95) (g.spelled (k.Name (codes "define-syntax") false))) (g.part (g.atom (p 42 42 96 97) (g.spelled (k.Name (codes "q") false))) (g.part (g.list (p 43 67 98 161) (g.part (g.atom (p 44 44 99 111) (g.spelled (k.Name (codes "syntax-rules") false))) (g.part (g.list (p 45 47 112 115) (g.part (g.atom (p 46 46 113 114) (g.spelled (k.Name (codes "k") false))) g.none)) (g.part (g.list (p 48 66 116 160) (g.part (g.list (p 49 59 117 141) (g.part (g.atom (p 50 50 118 119) (g.spelled (k.Name (codes "_") false))) (g.part (g.atom (p 51 51 120 124) (g.spelled (k.Name (codes "cons") false))) (g.part (g.list (p 52 56 125 134) (g.part (g.atom (p 53 53 126 127) (g.spelled (k.Name (codes "q") false))) (g.part (g.atom (p 54 54 128 129) (g.spelled (k.Name (codes "m") false))) (g.part (g.atom (p 55 55 130 133) (g.spelled (k.Name (codes "...") false))) g.none)))) (g.part (g.atom (p 57 57 135 138) (g.spelled (k.Name (codes "...") false))) (g.part (g.atom (p 58 58 139 140) (g.spelled (k.Name (codes "k") false))) g.none)))))) (g.part (g.list (p 60 65 142 159) (g.part (g.atom (p 61 61 143 147) (g.spelled (k.Name (codes "list") false))) (g.part (g.atom (p 62 62 148 149) (g.spelled (k.Name (codes "q") false))) (g.part (g.atom (p 63 63 150 153) (g.spelled (k.Name (codes "...") false))) (g.part (g.atom (p 64 64 154 158) (g.spelled (k.Name (codes "cons") false))) g.none))))) g.none))) g.none)))) g.none)))) (g.part (g.atom (p 69 69 163 164) (g.spelled (k.Name (codes "g") false))) (g.part (g.atom (p 70 70 165 166) (g.spelled (k.Name (codes "k") false))) g.none)))))) (g.part (g.list (p 72 77 168 184) (g.part (g.atom (p 73 73 169 175) (g.spelled (k.Name (codes "lambda") false))) (g.part (g.atom (p 74 74 176 177) (g.spelled (k.Name (codes "m") false))) (g.part (g.atom (p 75 75 178 179) (g.spelled (k.Name (codes "t") false))) (g.part (g.atom (p 76 76 180 183) (g.spelled (k.Character 99))) g.none))))) g.none)))) (g.part (g.atom (p 79 79 186 187) (g.spelled (k.Name (codes "a") false))) (g.part (g.list (p 80 85 188 200) (g.part (g.atom (p 81 81 189 194) (g.spelled (k.Name (codes "begin") false))) (g.part (g.atom (p 82 82 195 196) (g.spelled (k.Name (codes "b") false))) (g.part (g.list (p 83 84 197 199) (g.part (g.atom (p 83 83 197 198) (g.implied k.Quote)) (g.part (g.atom (p 84 84 198 199) (g.spelled (k.Numeral (codes "1")))) g.none))) g.none)))) g.none))))) ∷ [])) ∷ []) ≡ ((q 0 0 1 104 (codes "no import, (scheme base) is used")) ∷ (q 0 17 22 103 (codes "unbound a b")) ∷ (q 0 32 33 103 (codes "unbound a")) ∷ (q 0 34 35 103 (codes "unbound k")) ∷ (q 0 47 48 103 (codes "unbound b")) ∷ (q 0 163 164 103 (codes "unbound g")) ∷ (q 0 165 166 103 (codes "unbound k")) ∷ (q 0 186 187 103 (codes "unbound a")) ∷ (q 0 195 196 103 (codes "unbound b")) ∷ [])
unfolding base_names standard_libraries prelude encode_utf8
macros-15 = refl

pub workspaces-24 : diagnostic_rows (((s 0 1) ∷ (s 1 2) ∷ (s 2 3) ∷ (s 3 4) ∷ (s 4 5) ∷ (s 6 7) ∷ (s 7 10) ∷ (s 11 13) ∷ (s 13 14) ∷ (s 14 15) ∷ (s 15 16) ∷ (s 17 18) ∷ (s 18 19) ∷ (s 19 25) ∷ (s 26 27) ∷ (s 27 28) ∷ (s 28 29) ∷ (s 30 31) ∷ (s 31 37) ∷ (s 38 39) ∷ (s 39 40) ∷ (s 40 41) ∷ (s 42 43) ∷ (s 43 44) ∷ (s 44 45) ∷ (s 45 46) ∷ (s 47 49) ∷ (s 49 50) ∷ (s 51 53) ∷ (s 53 54) ∷ (s 54 55) ∷ (s 56 59) ∷ (s 59 60) ∷ (s 61 62) ∷ (s 63 64) ∷ (s 64 65) ∷ (s 66 67) ∷ (s 68 69) ∷ (s 69 70) ∷ (s 71 72) ∷ []) ∷ []) ((Some (((g.list (p 0 38 0 70) (g.part (g.atom (p 0 0 0 1) (g.implied k.Quasi)) (g.part (g.list (p 1 38 1 70) (g.part (g.list (p 2 4 2 5) (g.part (g.atom (p 3 3 3 4) (g.spelled (k.Name (codes "q") false))) g.none)) (g.part (g.list (p 5 6 6 10) (g.part (g.atom (p 5 5 6 7) (g.implied k.Unquote)) (g.part (g.atom (p 6 6 7 10) (g.spelled (k.Name (codes "tmp") false))) g.none))) (g.part (g.list (p 7 35 11 65) (g.part (g.atom (p 7 7 11 13) (g.implied k.Splice)) (g.part (g.list (p 8 35 13 65) (g.part (g.atom (p 8 8 13 14) (g.implied k.Quasi)) (g.part (g.list (p 9 35 14 65) (g.part (g.atom (p 10 10 15 16) (g.spelled (k.Name (codes "q") false))) (g.part (g.list (p 11 27 17 50) (g.part (g.atom (p 11 11 17 18) (g.implied k.Unquote)) (g.part (g.list (p 12 27 18 50) (g.part (g.atom (p 13 13 19 25) (g.spelled (k.Name (codes "letrec") false))) (g.part (g.list (p 14 25 26 46) (g.part (g.list (p 15 24 27 45) (g.part (g.atom (p 16 16 28 29) (g.spelled (k.Name (codes "f") false))) (g.part (g.list (p 17 23 30 44) (g.part (g.atom (p 18 18 31 37) (g.spelled (k.Name (codes "lambda") false))) (g.part (g.list (p 19 21 38 41) (g.part (g.atom (p 20 20 39 40) (g.spelled (k.Name (codes "b") false))) g.none)) (g.part (g.atom (p 22 22 42 43) (g.spelled (k.Name (codes "a") false))) g.none)))) g.none))) g.none)) (g.part (g.atom (p 26 26 47 49) (g.spelled (k.Truth true))) g.none)))) g.none))) (g.part (g.list (p 28 32 51 60) (g.part (g.atom (p 28 28 51 53) (g.implied k.Splice)) (g.part (g.list (p 29 32 53 60) (g.part (g.atom (p 30 30 54 55) (g.spelled (k.Name (codes "x") false))) (g.part (g.atom (p 31 31 56 59) (g.spelled (k.Quoted (codes "s")))) g.none))) g.none))) (g.tail (g.atom (p 34 34 63 64) (g.spelled (k.Name (codes "t") false)))))))) g.none))) g.none))) (g.tail (g.atom (p 37 37 68 69) (g.spelled (k.Name (codes "t") false)))))))) g.none)))) ∷ ((g.atom (p 39 39 71 72) (g.spelled (k.Name (codes "x") false)))) ∷ [])) ∷ []) ≡ ((q 0 0 1 104 (codes "no import, (scheme base) is used")) ∷ (q 0 7 10 103 (codes "unbound tmp")) ∷ (q 0 42 43 103 (codes "unbound a")) ∷ (q 0 54 55 103 (codes "unbound x")) ∷ (q 0 71 72 103 (codes "unbound x")) ∷ [])
unfolding base_names standard_libraries prelude encode_utf8
workspaces-24 = refl

pub workspaces-45 : diagnostic_rows (((s 0 1) ∷ (s 1 15) ∷ (s 16 17) ∷ (s 17 19) ∷ (s 19 20) ∷ (s 22 23) ∷ (s 23 29) ∷ (s 30 36) ∷ (s 37 41) ∷ (s 42 47) ∷ (s 47 48) ∷ (s 50 51) ∷ (s 51 57) ∷ (s 58 59) ∷ (s 59 65) ∷ (s 66 70) ∷ (s 70 71) ∷ (s 71 72) ∷ (s 74 75) ∷ (s 75 80) ∷ (s 83 84) ∷ (s 84 97) ∷ (s 98 103) ∷ (s 104 105) ∷ (s 105 117) ∷ (s 118 119) ∷ (s 119 120) ∷ (s 121 122) ∷ (s 122 123) ∷ (s 123 124) ∷ (s 125 126) ∷ (s 127 128) ∷ (s 128 132) ∷ (s 133 134) ∷ (s 135 136) ∷ (s 136 137) ∷ (s 137 138) ∷ (s 138 139) ∷ (s 139 140) ∷ (s 143 144) ∷ (s 144 149) ∷ (s 149 150) ∷ (s 153 154) ∷ (s 154 167) ∷ (s 168 169) ∷ (s 169 175) ∷ (s 176 180) ∷ (s 180 181) ∷ (s 182 184) ∷ (s 184 185) ∷ (s 185 186) ∷ (s 186 187) ∷ []) ∷ ((s 0 1) ∷ (s 1 7) ∷ (s 8 9) ∷ (s 9 15) ∷ (s 16 20) ∷ (s 20 21) ∷ (s 22 23) ∷ (s 23 25) ∷ (s 25 26) ∷ (s 26 27) ∷ []) ∷ ((s 0 1) ∷ (s 1 7) ∷ (s 8 9) ∷ (s 9 15) ∷ (s 16 20) ∷ (s 20 21) ∷ (s 22 23) ∷ (s 23 25) ∷ (s 25 26) ∷ (s 27 28) ∷ (s 28 32) ∷ (s 33 34) ∷ (s 34 35) ∷ (s 35 36) ∷ []) ∷ []) ((Some (((g.list (p 0 51 0 187) (g.part (g.atom (p 1 1 1 15) (g.spelled (k.Name (codes "define-library") false))) (g.part (g.list (p 2 4 16 20) (g.part (g.atom (p 3 3 17 19) (g.spelled (k.Name (codes "l0") false))) g.none)) (g.part (g.list (p 5 10 22 48) (g.part (g.atom (p 6 6 23 29) (g.spelled (k.Name (codes "export") false))) (g.part (g.atom (p 7 7 30 36) (g.spelled (k.Name (codes "define") false))) (g.part (g.atom (p 8 8 37 41) (g.spelled (k.Name (codes "else") false))) (g.part (g.atom (p 9 9 42 47) (g.spelled (k.Name (codes "quote") false))) g.none))))) (g.part (g.list (p 11 17 50 72) (g.part (g.atom (p 12 12 51 57) (g.spelled (k.Name (codes "import") false))) (g.part (g.list (p 13 16 58 71) (g.part (g.atom (p 14 14 59 65) (g.spelled (k.Name (codes "scheme") false))) (g.part (g.atom (p 15 15 66 70) (g.spelled (k.Name (codes "base") false))) g.none))) g.none))) (g.part (g.list (p 18 50 74 186) (g.part (g.atom (p 19 19 75 80) (g.spelled (k.Name (codes "begin") false))) (g.part (g.list (p 20 38 83 140) (g.part (g.atom (p 21 21 84 97) (g.spelled (k.Name (codes "define-syntax") false))) (g.part (g.atom (p 22 22 98 103) (g.spelled (k.Name (codes "quote") false))) (g.part (g.list (p 23 37 104 139) (g.part (g.atom (p 24 24 105 117) (g.spelled (k.Name (codes "syntax-rules") false))) (g.part (g.list (p 25 26 118 120) g.none) (g.part (g.list (p 27 36 121 138) (g.part (g.list (p 28 30 122 126) (g.part (g.atom (p 29 29 123 124) (g.spelled (k.Name (codes "_") false))) g.none)) (g.part (g.list (p 31 35 127 137) (g.part (g.atom (p 32 32 128 132) (g.spelled (k.Name (codes "set!") false))) (g.part (g.atom (p 33 33 133 134) (g.spelled (k.Name (codes "x") false))) (g.part (g.atom (p 34 34 135 136) (g.spelled (k.Name (codes "t") false))) g.none)))) g.none))) g.none)))) g.none)))) (g.part (g.list (p 39 41 143 150) (g.part (g.atom (p 40 40 144 149) (g.spelled (k.Name (codes "quote") false))) g.none)) (g.part (g.list (p 42 49 153 185) (g.part (g.atom (p 43 43 154 167) (g.spelled (k.Name (codes "define-values") false))) (g.part (g.list (p 44 47 168 181) (g.part (g.atom (p 45 45 169 175) (g.spelled (k.Name (codes "define") false))) (g.part (g.atom (p 46 46 176 180) (g.spelled (k.Name (codes "else") false))) g.none))) (g.part (g.atom (p 48 48 182 184) (g.spelled (k.Truth true))) g.none)))) g.none))))) g.none))))))) ∷ [])) ∷ (Some (((g.list (p 0 9 0 27) (g.part (g.atom (p 1 1 1 7) (g.spelled (k.Name (codes "import") false))) (g.part (g.list (p 2 5 8 21) (g.part (g.atom (p 3 3 9 15) (g.spelled (k.Name (codes "scheme") false))) (g.part (g.atom (p 4 4 16 20) (g.spelled (k.Name (codes "base") false))) g.none))) (g.part (g.list (p 6 8 22 26) (g.part (g.atom (p 7 7 23 25) (g.spelled (k.Name (codes "l0") false))) g.none)) g.none))))) ∷ [])) ∷ (Some (((g.list (p 0 13 0 36) (g.part (g.atom (p 1 1 1 7) (g.spelled (k.Name (codes "import") false))) (g.part (g.list (p 2 5 8 21) (g.part (g.atom (p 3 3 9 15) (g.spelled (k.Name (codes "scheme") false))) (g.part (g.atom (p 4 4 16 20) (g.spelled (k.Name (codes "base") false))) g.none))) (g.part (g.list (p 6 8 22 26) (g.part (g.atom (p 7 7 23 25) (g.spelled (k.Name (codes "l0") false))) g.none)) (g.part (g.list (p 9 12 27 35) (g.part (g.atom (p 10 10 28 32) (g.spelled (k.Name (codes "srfi") false))) (g.part (g.atom (p 11 11 33 34) (g.spelled (k.Numeral (codes "1")))) g.none))) g.none)))))) ∷ [])) ∷ []) ≡ ((q 0 98 103 101 (codes "definition hides import quote")) ∷ (q 0 133 134 103 (codes "unbound x")) ∷ (q 0 135 136 103 (codes "unbound t")) ∷ (q 0 169 175 101 (codes "definition hides import define")) ∷ (q 0 176 180 101 (codes "definition hides import else")) ∷ (q 1 22 26 52 (codes "import clash define")) ∷ (q 1 22 26 52 (codes "import clash else")) ∷ (q 1 22 26 52 (codes "import clash quote")) ∷ (q 2 22 26 52 (codes "import clash define")) ∷ (q 2 22 26 52 (codes "import clash else")) ∷ (q 2 22 26 52 (codes "import clash quote")) ∷ (q 2 27 35 102 (codes "library not known")) ∷ [])
unfolding base_names standard_libraries prelude encode_utf8
workspaces-45 = refl

pub workspaces-48 : diagnostic_rows (((s 0 1) ∷ (s 1 15) ∷ (s 16 17) ∷ (s 17 19) ∷ (s 19 20) ∷ (s 22 23) ∷ (s 23 29) ∷ (s 30 31) ∷ (s 31 37) ∷ (s 38 39) ∷ (s 40 41) ∷ (s 41 42) ∷ (s 42 43) ∷ (s 45 46) ∷ (s 46 52) ∷ (s 53 54) ∷ (s 54 60) ∷ (s 61 65) ∷ (s 65 66) ∷ (s 66 67) ∷ (s 69 70) ∷ (s 70 75) ∷ (s 78 79) ∷ (s 79 84) ∷ (s 85 86) ∷ (s 87 88) ∷ (s 88 90) ∷ (s 91 92) ∷ (s 93 94) ∷ (s 95 96) ∷ (s 96 97) ∷ (s 97 98) ∷ (s 101 102) ∷ (s 102 108) ∷ (s 109 110) ∷ (s 111 112) ∷ (s 112 116) ∷ (s 117 118) ∷ (s 119 120) ∷ (s 120 127) ∷ (s 127 128) ∷ (s 128 129) ∷ (s 132 133) ∷ (s 133 139) ∷ (s 140 141) ∷ (s 141 142) ∷ (s 143 144) ∷ (s 144 145) ∷ (s 146 147) ∷ (s 147 153) ∷ (s 154 155) ∷ (s 156 157) ∷ (s 157 161) ∷ (s 162 163) ∷ (s 163 164) ∷ (s 165 168) ∷ (s 168 169) ∷ (s 170 171) ∷ (s 171 172) ∷ (s 173 175) ∷ (s 176 177) ∷ (s 177 178) ∷ (s 179 180) ∷ (s 180 184) ∷ (s 185 188) ∷ (s 188 189) ∷ (s 189 190) ∷ (s 190 191) ∷ (s 192 193) ∷ (s 193 194) ∷ (s 194 195) ∷ (s 195 196) ∷ []) ∷ ((s 0 1) ∷ (s 1 15) ∷ (s 16 17) ∷ (s 17 19) ∷ (s 19 20) ∷ (s 22 23) ∷ (s 23 29) ∷ (s 30 31) ∷ (s 33 34) ∷ (s 34 40) ∷ (s 41 42) ∷ (s 42 48) ∷ (s 49 53) ∷ (s 53 54) ∷ (s 55 56) ∷ (s 56 62) ∷ (s 63 64) ∷ (s 64 66) ∷ (s 66 67) ∷ (s 68 69) ∷ (s 69 70) ∷ (s 70 71) ∷ (s 73 74) ∷ (s 74 79) ∷ (s 82 83) ∷ (s 83 84) ∷ (s 84 85) ∷ (s 86 87) ∷ (s 88 89) ∷ (s 89 90) ∷ (s 90 91) ∷ (s 94 95) ∷ (s 95 96) ∷ (s 96 97) ∷ []) ∷ ((s 0 1) ∷ (s 1 7) ∷ (s 8 9) ∷ (s 9 15) ∷ (s 16 20) ∷ (s 20 21) ∷ (s 22 23) ∷ (s 23 29) ∷ (s 30 31) ∷ (s 31 33) ∷ (s 33 34) ∷ (s 35 36) ∷ (s 36 37) ∷ (s 38 39) ∷ (s 39 40) ∷ (s 40 41) ∷ (s 42 43) ∷ (s 43 45) ∷ (s 45 46) ∷ (s 46 47) ∷ (s 48 49) ∷ (s 50 51) ∷ []) ∷ []) ((Some (((g.list (p 0 71 0 196) (g.part (g.atom (p 1 1 1 15) (g.spelled (k.Name (codes "define-library") false))) (g.part (g.list (p 2 4 16 20) (g.part (g.atom (p 3 3 17 19) (g.spelled (k.Name (codes "l0") false))) g.none)) (g.part (g.list (p 5 12 22 43) (g.part (g.atom (p 6 6 23 29) (g.spelled (k.Name (codes "export") false))) (g.part (g.list (p 7 11 30 42) (g.part (g.atom (p 8 8 31 37) (g.spelled (k.Name (codes "rename") false))) (g.part (g.atom (p 9 9 38 39) (g.spelled (k.Name (codes "f") false))) (g.part (g.atom (p 10 10 40 41) (g.spelled (k.Name (codes "b") false))) g.none)))) g.none))) (g.part (g.list (p 13 19 45 67) (g.part (g.atom (p 14 14 46 52) (g.spelled (k.Name (codes "import") false))) (g.part (g.list (p 15 18 53 66) (g.part (g.atom (p 16 16 54 60) (g.spelled (k.Name (codes "scheme") false))) (g.part (g.atom (p 17 17 61 65) (g.spelled (k.Name (codes "base") false))) g.none))) g.none))) (g.part (g.list (p 20 70 69 195) (g.part (g.atom (p 21 21 70 75) (g.spelled (k.Name (codes "begin") false))) (g.part (g.list (p 22 31 78 98) (g.part (g.atom (p 23 23 79 84) (g.spelled (k.Name (codes "begin") false))) (g.part (g.atom (p 24 24 85 86) (g.spelled (k.Numeral (codes "1")))) (g.part (g.list (p 25 30 87 97) (g.part (g.atom (p 26 26 88 90) (g.spelled (k.Name (codes "if") false))) (g.part (g.atom (p 27 27 91 92) (g.spelled (k.Name (codes "m") false))) (g.part (g.atom (p 28 28 93 94) (g.spelled (k.Name (codes "b") false))) (g.part (g.atom (p 29 29 95 96) (g.spelled (k.Name (codes "q") false))) g.none))))) g.none)))) (g.part (g.list (p 32 41 101 129) (g.part (g.atom (p 33 33 102 108) (g.spelled (k.Name (codes "define") false))) (g.part (g.atom (p 34 34 109 110) (g.spelled (k.Name (codes "_") false))) (g.part (g.list (p 35 40 111 128) (g.part (g.atom (p 36 36 112 116) (g.spelled (k.Name (codes "set!") false))) (g.part (g.atom (p 37 37 117 118) (g.spelled (k.Name (codes "b") false))) (g.part (g.list (p 38 39 119 127) (g.part (g.atom (p 38 38 119 120) (g.implied k.Quote)) (g.part (g.atom (p 39 39 120 127) (g.spelled (k.Name (codes "unquote") false))) g.none))) g.none)))) g.none)))) (g.part (g.list (p 42 69 132 194) (g.part (g.atom (p 43 43 133 139) (g.spelled (k.Name (codes "define") false))) (g.part (g.list (p 44 47 140 145) (g.part (g.atom (p 45 45 141 142) (g.spelled (k.Name (codes "f") false))) (g.part (g.atom (p 46 46 143 144) (g.spelled (k.Name (codes "_") false))) g.none))) (g.part (g.list (p 48 67 146 191) (g.part (g.atom (p 49 49 147 153) (g.spelled (k.Name (codes "define") false))) (g.part (g.atom (p 50 50 154 155) (g.spelled (k.Name (codes "a") false))) (g.part (g.list (p 51 66 156 190) (g.part (g.atom (p 52 52 157 161) (g.spelled (k.Name (codes "cond") false))) (g.part (g.list (p 53 56 162 169) (g.part (g.atom (p 54 54 163 164) (g.spelled (k.Name (codes "y") false))) (g.part (g.atom (p 55 55 165 168) (g.spelled (k.Quoted (codes "s")))) g.none))) (g.part (g.list (p 57 61 170 178) (g.part (g.atom (p 58 58 171 172) (g.spelled (k.Name (codes "q") false))) (g.part (g.atom (p 59 59 173 175) (g.spelled (k.Name (codes "=>") false))) (g.part (g.atom (p 60 60 176 177) (g.spelled (k.Name (codes "x") false))) g.none)))) (g.part (g.list (p 62 65 179 189) (g.part (g.atom (p 63 63 180 184) (g.spelled (k.Name (codes "else") false))) (g.part (g.atom (p 64 64 185 188) (g.spelled (k.Character 99))) g.none))) g.none))))) g.none)))) (g.part (g.atom (p 68 68 192 193) (g.spelled (k.Name (codes "x") false))) g.none))))) g.none))))) g.none))))))) ∷ [])) ∷ (Some (((g.list (p 0 33 0 97) (g.part (g.atom (p 1 1 1 15) (g.spelled (k.Name (codes "define-library") false))) (g.part (g.list (p 2 4 16 20) (g.part (g.atom (p 3 3 17 19) (g.spelled (k.Name (codes "l1") false))) g.none)) (g.part (g.list (p 5 7 22 31) (g.part (g.atom (p 6 6 23 29) (g.spelled (k.Name (codes "export") false))) g.none)) (g.part (g.list (p 8 21 33 71) (g.part (g.atom (p 9 9 34 40) (g.spelled (k.Name (codes "import") false))) (g.part (g.list (p 10 13 41 54) (g.part (g.atom (p 11 11 42 48) (g.spelled (k.Name (codes "scheme") false))) (g.part (g.atom (p 12 12 49 53) (g.spelled (k.Name (codes "base") false))) g.none))) (g.part (g.list (p 14 20 55 70) (g.part (g.atom (p 15 15 56 62) (g.spelled (k.Name (codes "except") false))) (g.part (g.list (p 16 18 63 67) (g.part (g.atom (p 17 17 64 66) (g.spelled (k.Name (codes "l0") false))) g.none)) (g.part (g.atom (p 19 19 68 69) (g.spelled (k.Name (codes "b") false))) g.none)))) g.none)))) (g.part (g.list (p 22 32 73 96) (g.part (g.atom (p 23 23 74 79) (g.spelled (k.Name (codes "begin") false))) (g.part (g.list (p 24 30 82 91) (g.part (g.list (p 25 29 83 90) (g.part (g.atom (p 26 26 84 85) (g.spelled (k.Name (codes "g") false))) (g.part (g.atom (p 27 27 86 87) (g.spelled (k.Name (codes "q") false))) (g.part (g.atom (p 28 28 88 89) (g.spelled (k.Name (codes "t") false))) g.none)))) g.none)) (g.part (g.atom (p 31 31 94 95) (g.spelled (k.Name (codes "t") false))) g.none)))) g.none))))))) ∷ [])) ∷ (Some (((g.list (p 0 19 0 47) (g.part (g.atom (p 1 1 1 7) (g.spelled (k.Name (codes "import") false))) (g.part (g.list (p 2 5 8 21) (g.part (g.atom (p 3 3 9 15) (g.spelled (k.Name (codes "scheme") false))) (g.part (g.atom (p 4 4 16 20) (g.spelled (k.Name (codes "base") false))) g.none))) (g.part (g.list (p 6 15 22 41) (g.part (g.atom (p 7 7 23 29) (g.spelled (k.Name (codes "rename") false))) (g.part (g.list (p 8 10 30 34) (g.part (g.atom (p 9 9 31 33) (g.spelled (k.Name (codes "l0") false))) g.none)) (g.part (g.list (p 11 14 35 40) (g.part (g.atom (p 12 12 36 37) (g.spelled (k.Name (codes "b") false))) (g.part (g.atom (p 13 13 38 39) (g.spelled (k.Name (codes "n") false))) g.none))) g.none)))) (g.part (g.list (p 16 18 42 46) (g.part (g.atom (p 17 17 43 45) (g.spelled (k.Name (codes "l1") false))) g.none)) g.none)))))) ∷ ((g.atom (p 20 20 48 49) (g.spelled (k.Name (codes "a") false)))) ∷ ((g.atom (p 21 21 50 51) (g.spelled (k.Name (codes "b") false)))) ∷ [])) ∷ []) ≡ ((q 0 91 92 103 (codes "unbound m")) ∷ (q 0 93 94 103 (codes "unbound b")) ∷ (q 0 95 96 103 (codes "unbound q")) ∷ (q 0 109 110 101 (codes "definition hides import _")) ∷ (q 0 117 118 103 (codes "unbound b")) ∷ (q 0 163 164 103 (codes "unbound y")) ∷ (q 0 171 172 103 (codes "unbound q")) ∷ (q 0 176 177 103 (codes "unbound x")) ∷ (q 0 192 193 103 (codes "unbound x")) ∷ (q 1 84 85 103 (codes "unbound g")) ∷ (q 1 86 87 103 (codes "unbound q")) ∷ (q 1 88 89 103 (codes "unbound t")) ∷ (q 1 94 95 103 (codes "unbound t")) ∷ (q 2 48 49 103 (codes "unbound a")) ∷ (q 2 50 51 103 (codes "unbound b")) ∷ [])
unfolding base_names standard_libraries prelude encode_utf8
workspaces-48 = refl

pub workspaces-74 : diagnostic_rows (((s 0 1) ∷ (s 1 15) ∷ (s 16 17) ∷ (s 17 19) ∷ (s 19 20) ∷ (s 22 23) ∷ (s 23 29) ∷ (s 30 31) ∷ (s 33 34) ∷ (s 34 40) ∷ (s 41 42) ∷ (s 42 48) ∷ (s 49 53) ∷ (s 53 54) ∷ (s 54 55) ∷ (s 57 58) ∷ (s 58 63) ∷ (s 66 67) ∷ (s 67 70) ∷ (s 71 72) ∷ (s 73 74) ∷ (s 74 75) ∷ (s 75 76) ∷ (s 77 78) ∷ (s 78 82) ∷ (s 83 84) ∷ (s 85 86) ∷ (s 86 87) ∷ (s 87 88) ∷ (s 88 89) ∷ (s 90 91) ∷ (s 91 96) ∷ (s 97 98) ∷ (s 99 102) ∷ (s 102 103) ∷ (s 104 105) ∷ (s 105 106) ∷ (s 109 110) ∷ (s 110 111) ∷ (s 111 112) ∷ (s 113 114) ∷ (s 114 115) ∷ (s 115 116) ∷ (s 116 117) ∷ (s 117 118) ∷ []) ∷ ((s 0 1) ∷ (s 1 7) ∷ (s 8 9) ∷ (s 9 15) ∷ (s 16 20) ∷ (s 20 21) ∷ (s 22 23) ∷ (s 23 25) ∷ (s 25 26) ∷ (s 26 27) ∷ (s 28 29) ∷ (s 29 35) ∷ (s 36 37) ∷ (s 38 39) ∷ (s 39 40) ∷ (s 41 42) ∷ (s 42 52) ∷ (s 53 54) ∷ (s 54 55) ∷ (s 55 56) ∷ (s 56 57) ∷ (s 58 61) ∷ (s 61 62) ∷ (s 63 64) ∷ (s 64 65) ∷ (s 65 66) ∷ (s 67 68) ∷ (s 68 81) ∷ (s 82 83) ∷ (s 84 85) ∷ (s 85 97) ∷ (s 98 99) ∷ (s 99 100) ∷ (s 101 102) ∷ (s 102 103) ∷ (s 103 104) ∷ (s 105 106) ∷ (s 107 110) ∷ (s 110 111) ∷ (s 112 113) ∷ (s 113 114) ∷ (s 114 115) ∷ (s 115 116) ∷ (s 117 118) ∷ (s 118 124) ∷ (s 125 126) ∷ (s 127 128) ∷ (s 128 129) ∷ (s 129 130) ∷ (s 130 131) ∷ (s 131 132) ∷ (s 132 133) ∷ (s 134 135) ∷ (s 135 136) ∷ (s 137 138) ∷ (s 138 139) ∷ (s 139 140) ∷ (s 140 141) ∷ (s 142 143) ∷ (s 143 144) ∷ []) ∷ []) ((Some (((g.list (p 0 44 0 118) (g.part (g.atom (p 1 1 1 15) (g.spelled (k.Name (codes "define-library") false))) (g.part (g.list (p 2 4 16 20) (g.part (g.atom (p 3 3 17 19) (g.spelled (k.Name (codes "l0") false))) g.none)) (g.part (g.list (p 5 7 22 31) (g.part (g.atom (p 6 6 23 29) (g.spelled (k.Name (codes "export") false))) g.none)) (g.part (g.list (p 8 14 33 55) (g.part (g.atom (p 9 9 34 40) (g.spelled (k.Name (codes "import") false))) (g.part (g.list (p 10 13 41 54) (g.part (g.atom (p 11 11 42 48) (g.spelled (k.Name (codes "scheme") false))) (g.part (g.atom (p 12 12 49 53) (g.spelled (k.Name (codes "base") false))) g.none))) g.none))) (g.part (g.list (p 15 43 57 117) (g.part (g.atom (p 16 16 58 63) (g.spelled (k.Name (codes "begin") false))) (g.part (g.list (p 17 36 66 106) (g.part (g.atom (p 18 18 67 70) (g.spelled (k.Name (codes "let") false))) (g.part (g.atom (p 19 19 71 72) (g.spelled (k.Name (codes "k") false))) (g.part (g.list (p 20 29 73 89) (g.part (g.list (p 21 28 74 88) (g.part (g.atom (p 22 22 75 76) (g.spelled (k.Name (codes "t") false))) (g.part (g.list (p 23 27 77 87) (g.part (g.atom (p 24 24 78 82) (g.spelled (k.Name (codes "set!") false))) (g.part (g.atom (p 25 25 83 84) (g.spelled (k.Name (codes "n") false))) (g.part (g.atom (p 26 26 85 86) (g.spelled (k.Name (codes "x") false))) g.none)))) g.none))) g.none)) (g.part (g.list (p 30 34 90 103) (g.part (g.atom (p 31 31 91 96) (g.spelled (k.Name (codes "begin") false))) (g.part (g.atom (p 32 32 97 98) (g.spelled (k.Name (codes "q") false))) (g.part (g.atom (p 33 33 99 102) (g.spelled (k.Character 99))) g.none)))) (g.part (g.atom (p 35 35 104 105) (g.spelled (k.Name (codes "t") false))) g.none)))))) (g.part (g.list (p 37 42 109 116) (g.part (g.list (p 38 41 110 115) (g.part (g.atom (p 39 39 111 112) (g.spelled (k.Name (codes "g") false))) (g.part (g.atom (p 40 40 113 114) (g.spelled (k.Name (codes "x") false))) g.none))) g.none)) g.none)))) g.none))))))) ∷ [])) ∷ (Some (((g.list (p 0 9 0 27) (g.part (g.atom (p 1 1 1 7) (g.spelled (k.Name (codes "import") false))) (g.part (g.list (p 2 5 8 21) (g.part (g.atom (p 3 3 9 15) (g.spelled (k.Name (codes "scheme") false))) (g.part (g.atom (p 4 4 16 20) (g.spelled (k.Name (codes "base") false))) g.none))) (g.part (g.list (p 6 8 22 26) (g.part (g.atom (p 7 7 23 25) (g.spelled (k.Name (codes "l0") false))) g.none)) g.none))))) ∷ ((g.list (p 10 14 28 40) (g.part (g.atom (p 11 11 29 35) (g.spelled (k.Name (codes "define") false))) (g.part (g.atom (p 12 12 36 37) (g.spelled (k.Name (codes "q") false))) (g.part (g.atom (p 13 13 38 39) (g.spelled (k.Name (codes "x") false))) g.none))))) ∷ ((g.list (p 15 59 41 144) (g.part (g.atom (p 16 16 42 52) (g.spelled (k.Name (codes "let-values") false))) (g.part (g.list (p 17 25 53 66) (g.part (g.list (p 18 24 54 65) (g.part (g.list (p 19 22 55 62) (g.part (g.atom (p 20 20 56 57) (g.spelled (k.Name (codes "n") false))) (g.part (g.atom (p 21 21 58 61) (g.spelled (k.Name (codes "tmp") false))) g.none))) (g.part (g.atom (p 23 23 63 64) (g.spelled (k.Name (codes "k") false))) g.none))) g.none)) (g.part (g.list (p 26 42 67 116) (g.part (g.atom (p 27 27 68 81) (g.spelled (k.Name (codes "define-syntax") false))) (g.part (g.atom (p 28 28 82 83) (g.spelled (k.Name (codes "n") false))) (g.part (g.list (p 29 41 84 115) (g.part (g.atom (p 30 30 85 97) (g.spelled (k.Name (codes "syntax-rules") false))) (g.part (g.list (p 31 32 98 100) g.none) (g.part (g.list (p 33 40 101 114) (g.part (g.list (p 34 38 102 111) (g.part (g.atom (p 35 35 103 104) (g.spelled (k.Name (codes "_") false))) (g.part (g.atom (p 36 36 105 106) (g.spelled (k.Name (codes "f") false))) (g.part (g.atom (p 37 37 107 110) (g.spelled (k.Name (codes "...") false))) g.none)))) (g.part (g.atom (p 39 39 112 113) (g.spelled (k.Name (codes "g") false))) g.none))) g.none)))) g.none)))) (g.part (g.list (p 43 51 117 133) (g.part (g.atom (p 44 44 118 124) (g.spelled (k.Name (codes "define") false))) (g.part (g.atom (p 45 45 125 126) (g.spelled (k.Name (codes "g") false))) (g.part (g.list (p 46 50 127 132) (g.part (g.list (p 47 49 128 131) (g.part (g.atom (p 48 48 129 130) (g.spelled (k.Name (codes "n") false))) g.none)) g.none)) g.none)))) (g.part (g.list (p 52 57 134 141) (g.part (g.atom (p 53 53 135 136) (g.spelled (k.Name (codes "n") false))) (g.part (g.list (p 54 56 137 140) (g.part (g.atom (p 55 55 138 139) (g.spelled (k.Name (codes "n") false))) g.none)) g.none))) (g.part (g.atom (p 58 58 142 143) (g.spelled (k.Name (codes "k") false))) g.none)))))))) ∷ [])) ∷ []) ≡ ((q 0 83 84 103 (codes "unbound n")) ∷ (q 0 85 86 103 (codes "unbound x")) ∷ (q 0 97 98 103 (codes "unbound q")) ∷ (q 0 111 112 103 (codes "unbound g")) ∷ (q 0 113 114 103 (codes "unbound x")) ∷ (q 1 38 39 103 (codes "unbound x")) ∷ (q 1 63 64 103 (codes "unbound k")) ∷ (q 1 142 143 103 (codes "unbound k")) ∷ [])
unfolding base_names standard_libraries prelude encode_utf8
workspaces-74 = refl

pub macros-78 : diagnostic_rows (((s 0 1) ∷ (s 1 7) ∷ (s 8 9) ∷ (s 9 15) ∷ (s 16 20) ∷ (s 20 21) ∷ (s 22 23) ∷ (s 23 29) ∷ (s 30 41) ∷ (s 41 42) ∷ (s 42 43) ∷ (s 44 45) ∷ (s 46 47) ∷ (s 47 60) ∷ (s 61 62) ∷ (s 63 64) ∷ (s 64 76) ∷ (s 77 78) ∷ (s 78 79) ∷ (s 80 81) ∷ (s 81 82) ∷ (s 82 83) ∷ (s 84 85) ∷ (s 85 86) ∷ (s 87 88) ∷ (s 88 89) ∷ (s 90 91) ∷ (s 91 92) ∷ (s 93 96) ∷ (s 97 100) ∷ (s 100 101) ∷ (s 102 105) ∷ (s 105 106) ∷ (s 107 108) ∷ (s 108 121) ∷ (s 122 123) ∷ (s 124 125) ∷ (s 125 137) ∷ (s 138 139) ∷ (s 139 140) ∷ (s 141 142) ∷ (s 142 143) ∷ (s 143 144) ∷ (s 145 148) ∷ (s 149 150) ∷ (s 150 153) ∷ (s 154 157) ∷ (s 157 158) ∷ (s 158 159) ∷ (s 160 161) ∷ (s 161 165) ∷ (s 166 169) ∷ (s 170 171) ∷ (s 171 174) ∷ (s 175 178) ∷ (s 178 179) ∷ (s 180 181) ∷ (s 182 183) ∷ (s 183 184) ∷ (s 184 185) ∷ (s 185 186) ∷ (s 186 187) ∷ (s 187 188) ∷ (s 189 190) ∷ (s 190 191) ∷ (s 191 192) ∷ (s 193 194) ∷ (s 195 196) ∷ (s 196 197) ∷ (s 198 204) ∷ (s 204 205) ∷ (s 205 206) ∷ (s 206 207) ∷ (s 208 209) ∷ (s 209 214) ∷ (s 215 216) ∷ (s 216 217) ∷ (s 217 222) ∷ (s 223 224) ∷ (s 225 226) ∷ (s 226 227) ∷ (s 228 229) ∷ (s 229 232) ∷ (s 233 234) ∷ (s 235 238) ∷ (s 238 239) ∷ (s 240 241) ∷ (s 241 242) ∷ (s 243 244) ∷ (s 245 246) ∷ (s 246 247) ∷ (s 247 248) ∷ (s 249 250) ∷ (s 250 251) ∷ (s 252 253) ∷ (s 253 254) ∷ (s 255 256) ∷ (s 256 257) ∷ (s 257 258) ∷ (s 258 259) ∷ []) ∷ []) ((Some (((g.list (p 0 10 0 43) (g.part (g.atom (p 1 1 1 7) (g.spelled (k.Name (codes "import") false))) (g.part (g.list (p 2 5 8 21) (g.part (g.atom (p 3 3 9 15) (g.spelled (k.Name (codes "scheme") false))) (g.part (g.atom (p 4 4 16 20) (g.spelled (k.Name (codes "base") false))) g.none))) (g.part (g.list (p 6 9 22 42) (g.part (g.atom (p 7 7 23 29) (g.spelled (k.Name (codes "scheme") false))) (g.part (g.atom (p 8 8 30 41) (g.spelled (k.Name (codes "case-lambda") false))) g.none))) g.none))))) ∷ ((g.atom (p 11 11 44 45) (g.spelled (k.Name (codes "t") false)))) ∷ ((g.list (p 12 72 46 207) (g.part (g.atom (p 13 13 47 60) (g.spelled (k.Name (codes "define-syntax") false))) (g.part (g.atom (p 14 14 61 62) (g.spelled (k.Name (codes "x") false))) (g.part (g.list (p 15 71 63 206) (g.part (g.atom (p 16 16 64 76) (g.spelled (k.Name (codes "syntax-rules") false))) (g.part (g.list (p 17 18 77 79) g.none) (g.part (g.list (p 19 62 80 188) (g.part (g.list (p 20 32 81 106) (g.part (g.atom (p 21 21 82 83) (g.spelled (k.Name (codes "_") false))) (g.part (g.list (p 22 25 84 89) (g.part (g.atom (p 23 23 85 86) (g.spelled (k.Name (codes "a") false))) (g.part (g.atom (p 24 24 87 88) (g.spelled (k.Name (codes "b") false))) g.none))) (g.part (g.list (p 26 30 90 101) (g.part (g.atom (p 27 27 91 92) (g.spelled (k.Name (codes "q") false))) (g.part (g.atom (p 28 28 93 96) (g.spelled (k.Name (codes "...") false))) (g.part (g.atom (p 29 29 97 100) (g.spelled (k.Name (codes "...") false))) g.none)))) (g.part (g.atom (p 31 31 102 105) (g.spelled (k.Name (codes "...") false))) g.none))))) (g.part (g.list (p 33 61 107 187) (g.part (g.atom (p 34 34 108 121) (g.spelled (k.Name (codes "define-syntax") false))) (g.part (g.atom (p 35 35 122 123) (g.spelled (k.Name (codes "b") false))) (g.part (g.list (p 36 60 124 186) (g.part (g.atom (p 37 37 125 137) (g.spelled (k.Name (codes "syntax-rules") false))) (g.part (g.list (p 38 39 138 140) g.none) (g.part (g.list (p 40 59 141 185) (g.part (g.list (p 41 48 142 159) (g.part (g.atom (p 42 42 143 144) (g.spelled (k.Name (codes "_") false))) (g.part (g.atom (p 43 43 145 148) (g.spelled (k.Name (codes "car") false))) (g.part (g.list (p 44 47 149 158) (g.part (g.atom (p 45 45 150 153) (g.spelled (k.Name (codes "...") false))) (g.part (g.atom (p 46 46 154 157) (g.spelled (k.Name (codes "...") false))) g.none))) g.none)))) (g.part (g.list (p 49 58 160 184) (g.part (g.atom (p 50 50 161 165) (g.spelled (k.Name (codes "list") false))) (g.part (g.atom (p 51 51 166 169) (g.spelled (k.Name (codes "car") false))) (g.part (g.list (p 52 55 170 179) (g.part (g.atom (p 53 53 171 174) (g.spelled (k.Name (codes "...") false))) (g.part (g.atom (p 54 54 175 178) (g.spelled (k.Name (codes "...") false))) g.none))) (g.part (g.atom (p 56 56 180 181) (g.spelled (k.Name (codes "y") false))) (g.part (g.atom (p 57 57 182 183) (g.spelled (k.Name (codes "y") false))) g.none)))))) g.none))) g.none)))) g.none)))) g.none))) (g.part (g.list (p 63 70 189 205) (g.part (g.list (p 64 68 190 197) (g.part (g.atom (p 65 65 191 192) (g.spelled (k.Name (codes "_") false))) (g.part (g.atom (p 66 66 193 194) (g.spelled (k.Name (codes "y") false))) (g.part (g.atom (p 67 67 195 196) (g.spelled (k.Name (codes "t") false))) g.none)))) (g.part (g.atom (p 69 69 198 204) (g.spelled (k.Name (codes "lambda") false))) g.none))) g.none))))) g.none))))) ∷ ((g.list (p 73 99 208 259) (g.part (g.atom (p 74 74 209 214) (g.spelled (k.Name (codes "begin") false))) (g.part (g.list (p 75 91 215 248) (g.part (g.list (p 76 80 216 227) (g.part (g.atom (p 77 77 217 222) (g.spelled (k.Name (codes "begin") false))) (g.part (g.atom (p 78 78 223 224) (g.spelled (k.Name (codes "y") false))) (g.part (g.atom (p 79 79 225 226) (g.spelled (k.Name (codes "x") false))) g.none)))) (g.part (g.list (p 81 85 228 239) (g.part (g.atom (p 82 82 229 232) (g.spelled (k.Quoted (codes "s")))) (g.part (g.atom (p 83 83 233 234) (g.spelled (k.Name (codes "y") false))) (g.part (g.atom (p 84 84 235 238) (g.spelled (k.Quoted (codes "s")))) g.none)))) (g.part (g.list (p 86 90 240 247) (g.part (g.atom (p 87 87 241 242) (g.spelled (k.Name (codes "y") false))) (g.part (g.atom (p 88 88 243 244) (g.spelled (k.Name (codes "y") false))) (g.part (g.atom (p 89 89 245 246) (g.spelled (k.Name (codes "y") false))) g.none)))) g.none)))) (g.part (g.list (p 92 98 249 258) (g.part (g.atom (p 93 93 250 251) (g.spelled (k.Name (codes "x") false))) (g.part (g.list (p 94 97 252 257) (g.part (g.atom (p 95 95 253 254) (g.spelled (k.Name (codes "t") false))) (g.part (g.atom (p 96 96 255 256) (g.spelled (k.Numeral (codes "1")))) g.none))) g.none))) g.none))))) ∷ [])) ∷ []) ≡ ((q 0 44 45 103 (codes "unbound t")) ∷ (q 0 46 47 22 (codes "two ellipses")) ∷ (q 0 223 224 103 (codes "unbound y")) ∷ (q 0 225 226 103 (codes "unbound x")) ∷ (q 0 233 234 103 (codes "unbound y")) ∷ (q 0 241 242 103 (codes "unbound y")) ∷ (q 0 243 244 103 (codes "unbound y")) ∷ (q 0 245 246 103 (codes "unbound y")) ∷ (q 0 250 251 103 (codes "unbound x")) ∷ (q 0 253 254 103 (codes "unbound t")) ∷ [])
unfolding base_names standard_libraries prelude encode_utf8
macros-78 = refl

pub macros-123 : diagnostic_rows (((s 0 1) ∷ (s 1 2) ∷ (s 2 3) ∷ (s 4 5) ∷ (s 5 9) ∷ (s 10 11) ∷ (s 12 13) ∷ (s 13 15) ∷ (s 15 16) ∷ (s 16 17) ∷ (s 18 19) ∷ (s 19 23) ∷ (s 24 25) ∷ (s 26 27) ∷ (s 27 33) ∷ (s 34 35) ∷ (s 35 36) ∷ (s 37 43) ∷ (s 43 44) ∷ (s 45 46) ∷ (s 46 48) ∷ (s 49 50) ∷ (s 50 51) ∷ (s 52 53) ∷ (s 53 59) ∷ (s 60 64) ∷ (s 65 66) ∷ (s 66 72) ∷ (s 73 74) ∷ (s 75 76) ∷ (s 77 78) ∷ (s 78 79) ∷ (s 79 80) ∷ (s 80 81) ∷ (s 81 82) ∷ (s 83 84) ∷ (s 84 97) ∷ (s 98 99) ∷ (s 100 101) ∷ (s 101 113) ∷ (s 114 117) ∷ (s 118 119) ∷ (s 119 120) ∷ (s 121 122) ∷ (s 122 123) ∷ (s 123 124) ∷ (s 125 126) ∷ (s 127 128) ∷ (s 128 133) ∷ (s 134 135) ∷ (s 135 141) ∷ (s 142 145) ∷ (s 146 147) ∷ (s 147 151) ∷ (s 152 153) ∷ (s 154 155) ∷ (s 155 156) ∷ (s 156 157) ∷ (s 157 158) ∷ (s 158 159) ∷ (s 159 160) ∷ (s 160 161) ∷ (s 162 163) ∷ (s 163 181) ∷ (s 182 183) ∷ (s 184 185) ∷ (s 185 189) ∷ (s 190 191) ∷ (s 191 192) ∷ (s 193 195) ∷ (s 196 197) ∷ (s 197 198) ∷ (s 199 202) ∷ (s 202 203) ∷ (s 204 205) ∷ (s 205 206) ∷ (s 207 210) ∷ (s 211 217) ∷ (s 217 218) ∷ (s 218 219) ∷ []) ∷ []) ((Some (((g.list (p 0 2 0 3) (g.part (g.atom (p 1 1 1 2) (g.spelled (k.Name (codes "m") false))) g.none))) ∷ ((g.list (p 3 9 4 17) (g.part (g.atom (p 4 4 5 9) (g.spelled (k.Name (codes "set!") false))) (g.part (g.atom (p 5 5 10 11) (g.spelled (k.Name (codes "x") false))) (g.part (g.list (p 6 8 12 16) (g.part (g.atom (p 6 6 12 13) (g.implied k.Quote)) (g.part (g.vector (p 7 8 13 16) g.none) g.none))) g.none))))) ∷ ((g.list (p 10 34 18 82) (g.part (g.atom (p 11 11 19 23) (g.spelled (k.Name (codes "set!") false))) (g.part (g.atom (p 12 12 24 25) (g.spelled (k.Name (codes "k") false))) (g.part (g.list (p 13 33 26 81) (g.part (g.atom (p 14 14 27 33) (g.spelled (k.Name (codes "lambda") false))) (g.part (g.list (p 15 18 34 44) (g.part (g.atom (p 16 16 35 36) (g.spelled (k.Name (codes "m") false))) (g.part (g.atom (p 17 17 37 43) (g.spelled (k.Name (codes "lambda") false))) g.none))) (g.part (g.list (p 19 22 45 51) (g.part (g.atom (p 20 20 46 48) (g.spelled (k.Truth true))) (g.part (g.atom (p 21 21 49 50) (g.spelled (k.Name (codes "b") false))) g.none))) (g.part (g.list (p 23 32 52 80) (g.part (g.atom (p 24 24 53 59) (g.spelled (k.Name (codes "define") false))) (g.part (g.atom (p 25 25 60 64) (g.spelled (k.Name (codes "cons") false))) (g.part (g.list (p 26 31 65 79) (g.part (g.atom (p 27 27 66 72) (g.spelled (k.Name (codes "lambda") false))) (g.part (g.atom (p 28 28 73 74) (g.spelled (k.Name (codes "m") false))) (g.part (g.atom (p 29 29 75 76) (g.spelled (k.Name (codes "b") false))) (g.part (g.atom (p 30 30 77 78) (g.spelled (k.Name (codes "q") false))) g.none))))) g.none)))) g.none))))) g.none))))) ∷ ((g.list (p 35 61 83 161) (g.part (g.atom (p 36 36 84 97) (g.spelled (k.Name (codes "define-syntax") false))) (g.part (g.atom (p 37 37 98 99) (g.spelled (k.Name (codes "a") false))) (g.part (g.list (p 38 60 100 160) (g.part (g.atom (p 39 39 101 113) (g.spelled (k.Name (codes "syntax-rules") false))) (g.part (g.atom (p 40 40 114 117) (g.spelled (k.Name (codes ":::") false))) (g.part (g.list (p 41 42 118 120) g.none) (g.part (g.list (p 43 59 121 159) (g.part (g.list (p 44 46 122 126) (g.part (g.atom (p 45 45 123 124) (g.spelled (k.Name (codes "_") false))) g.none)) (g.part (g.list (p 47 58 127 158) (g.part (g.atom (p 48 48 128 133) (g.spelled (k.Name (codes "begin") false))) (g.part (g.list (p 49 57 134 157) (g.part (g.atom (p 50 50 135 141) (g.spelled (k.Name (codes "define") false))) (g.part (g.atom (p 51 51 142 145) (g.spelled (k.Name (codes "...") false))) (g.part (g.list (p 52 56 146 156) (g.part (g.atom (p 53 53 147 151) (g.spelled (k.Name (codes "list") false))) (g.part (g.atom (p 54 54 152 153) (g.spelled (k.Name (codes "k") false))) (g.part (g.atom (p 55 55 154 155) (g.spelled (k.Name (codes "y") false))) g.none)))) g.none)))) g.none))) g.none))) g.none))))) g.none))))) ∷ ((g.list (p 62 79 162 219) (g.part (g.atom (p 63 63 163 181) (g.spelled (k.Name (codes "define-record-type") false))) (g.part (g.atom (p 64 64 182 183) (g.spelled (k.Name (codes "f") false))) (g.part (g.list (p 65 68 184 192) (g.part (g.atom (p 66 66 185 189) (g.spelled (k.Name (codes "make") false))) (g.part (g.atom (p 67 67 190 191) (g.spelled (k.Name (codes "m") false))) g.none))) (g.part (g.atom (p 69 69 193 195) (g.spelled (k.Name (codes "f?") false))) (g.part (g.list (p 70 73 196 203) (g.part (g.atom (p 71 71 197 198) (g.spelled (k.Name (codes "m") false))) (g.part (g.atom (p 72 72 199 202) (g.spelled (k.Name (codes "m-x") false))) g.none))) (g.part (g.list (p 74 78 204 218) (g.part (g.atom (p 75 75 205 206) (g.spelled (k.Name (codes "b") false))) (g.part (g.atom (p 76 76 207 210) (g.spelled (k.Name (codes "b-y") false))) (g.part (g.atom (p 77 77 211 217) (g.spelled (k.Name (codes "set-b!") false))) g.none)))) g.none)))))))) ∷ [])) ∷ []) ≡ ((q 0 0 1 104 (codes "no import, (scheme base) is used")) ∷ (q 0 1 2 103 (codes "unbound m")) ∷ (q 0 10 11 103 (codes "unbound x")) ∷ (q 0 24 25 103 (codes "unbound k")) ∷ (q 0 49 50 103 (codes "unbound b")) ∷ (q 0 75 76 103 (codes "unbound b")) ∷ (q 0 77 78 103 (codes "unbound q")) ∷ [])
unfolding base_names standard_libraries prelude encode_utf8
macros-123 = refl

pub macros-201 : diagnostic_rows (((s 0 1) ∷ (s 2 3) ∷ (s 3 9) ∷ (s 10 17) ∷ (s 18 20) ∷ (s 20 21) ∷ (s 22 25) ∷ (s 26 27) ∷ (s 27 40) ∷ (s 41 42) ∷ (s 43 44) ∷ (s 44 56) ∷ (s 57 58) ∷ (s 58 59) ∷ (s 60 61) ∷ (s 61 62) ∷ (s 62 63) ∷ (s 64 65) ∷ (s 66 67) ∷ (s 67 72) ∷ (s 73 74) ∷ (s 74 80) ∷ (s 81 82) ∷ (s 83 84) ∷ (s 84 85) ∷ (s 86 87) ∷ (s 87 93) ∷ (s 94 95) ∷ (s 96 97) ∷ (s 97 101) ∷ (s 102 103) ∷ (s 104 105) ∷ (s 105 106) ∷ (s 106 107) ∷ (s 107 108) ∷ (s 108 109) ∷ (s 109 110) ∷ (s 110 111) ∷ []) ∷ []) ((Some (((g.atom (p 0 0 0 1) (g.spelled (k.Name (codes "b") false)))) ∷ ((g.list (p 1 5 2 21) (g.part (g.atom (p 2 2 3 9) (g.spelled (k.Name (codes "define") false))) (g.part (g.atom (p 3 3 10 17) (g.spelled (k.Name (codes "unquote") false))) (g.part (g.atom (p 4 4 18 20) (g.spelled (k.Truth true))) g.none))))) ∷ ((g.atom (p 6 6 22 25) (g.spelled (k.Character 99)))) ∷ ((g.list (p 7 37 26 111) (g.part (g.atom (p 8 8 27 40) (g.spelled (k.Name (codes "define-syntax") false))) (g.part (g.atom (p 9 9 41 42) (g.spelled (k.Name (codes "t") false))) (g.part (g.list (p 10 36 43 110) (g.part (g.atom (p 11 11 44 56) (g.spelled (k.Name (codes "syntax-rules") false))) (g.part (g.list (p 12 13 57 59) g.none) (g.part (g.list (p 14 35 60 109) (g.part (g.list (p 15 17 61 65) (g.part (g.atom (p 16 16 62 63) (g.spelled (k.Name (codes "_") false))) g.none)) (g.part (g.list (p 18 34 66 108) (g.part (g.atom (p 19 19 67 72) (g.spelled (k.Name (codes "begin") false))) (g.part (g.list (p 20 24 73 85) (g.part (g.atom (p 21 21 74 80) (g.spelled (k.Name (codes "define") false))) (g.part (g.atom (p 22 22 81 82) (g.spelled (k.Name (codes "b") false))) (g.part (g.atom (p 23 23 83 84) (g.spelled (k.Name (codes "t") false))) g.none)))) (g.part (g.list (p 25 33 86 107) (g.part (g.atom (p 26 26 87 93) (g.spelled (k.Name (codes "define") false))) (g.part (g.atom (p 27 27 94 95) (g.spelled (k.Name (codes "x") false))) (g.part (g.list (p 28 32 96 106) (g.part (g.atom (p 29 29 97 101) (g.spelled (k.Name (codes "list") false))) (g.part (g.atom (p 30 30 102 103) (g.spelled (k.Name (codes "b") false))) (g.part (g.atom (p 31 31 104 105) (g.spelled (k.Name (codes "a") false))) g.none)))) g.none)))) g.none)))) g.none))) g.none)))) g.none))))) ∷ [])) ∷ []) ≡ ((q 0 0 1 103 (codes "unbound b")) ∷ (q 0 0 1 104 (codes "no import, (scheme base) is used")) ∷ (q 0 10 17 101 (codes "definition hides import unquote")) ∷ [])
unfolding base_names standard_libraries prelude encode_utf8
macros-201 = refl

pub literal-of-a-later-form : diagnostic_rows (((s 0 1) ∷ (s 1 14) ∷ (s 15 16) ∷ (s 17 18) ∷ (s 18 30) ∷ (s 31 32) ∷ (s 32 35) ∷ (s 35 36) ∷ (s 37 38) ∷ (s 38 39) ∷ (s 39 40) ∷ (s 41 44) ∷ (s 44 45) ∷ (s 46 47) ∷ (s 47 48) ∷ (s 48 49) ∷ (s 49 50) ∷ (s 51 52) ∷ (s 52 53) ∷ (s 54 57) ∷ (s 57 58) ∷ (s 59 60) ∷ (s 60 66) ∷ (s 67 70) ∷ (s 71 72) ∷ (s 72 73) ∷ []) ∷ []) ((Some (((g.list (p 0 16 0 50) (g.part (g.atom (p 1 1 1 14) (g.spelled (k.Name (codes "define-syntax") false))) (g.part (g.atom (p 2 2 15 16) (g.spelled (k.Name (codes "m") false))) (g.part (g.list (p 3 15 17 49) (g.part (g.atom (p 4 4 18 30) (g.spelled (k.Name (codes "syntax-rules") false))) (g.part (g.list (p 5 7 31 36) (g.part (g.atom (p 6 6 32 35) (g.spelled (k.Name (codes "lit") false))) g.none)) (g.part (g.list (p 8 14 37 48) (g.part (g.list (p 9 12 38 45) (g.part (g.atom (p 10 10 39 40) (g.spelled (k.Name (codes "_") false))) (g.part (g.atom (p 11 11 41 44) (g.spelled (k.Name (codes "lit") false))) g.none))) (g.part (g.atom (p 13 13 46 47) (g.spelled (k.Numeral (codes "1")))) g.none))) g.none)))) g.none))))) ∷ ((g.list (p 17 20 51 58) (g.part (g.atom (p 18 18 52 53) (g.spelled (k.Name (codes "m") false))) (g.part (g.atom (p 19 19 54 57) (g.spelled (k.Name (codes "lit") false))) g.none)))) ∷ ((g.list (p 21 25 59 73) (g.part (g.atom (p 22 22 60 66) (g.spelled (k.Name (codes "define") false))) (g.part (g.atom (p 23 23 67 70) (g.spelled (k.Name (codes "lit") false))) (g.part (g.atom (p 24 24 71 72) (g.spelled (k.Numeral (codes "2")))) g.none))))) ∷ [])) ∷ []) ≡ ((q 0 0 1 104 (codes "no import, (scheme base) is used")) ∷ [])
unfolding base_names standard_libraries prelude encode_utf8
literal-of-a-later-form = refl

pub literal-of-a-body : diagnostic_rows (((s 0 1) ∷ (s 1 7) ∷ (s 8 9) ∷ (s 10 11) ∷ (s 11 12) ∷ (s 13 14) ∷ (s 14 20) ∷ (s 21 22) ∷ (s 22 23) ∷ (s 23 24) ∷ (s 25 26) ∷ (s 26 39) ∷ (s 40 41) ∷ (s 42 43) ∷ (s 43 55) ∷ (s 56 57) ∷ (s 57 58) ∷ (s 58 59) ∷ (s 60 61) ∷ (s 61 62) ∷ (s 62 63) ∷ (s 64 65) ∷ (s 65 66) ∷ (s 67 68) ∷ (s 68 74) ∷ (s 75 76) ∷ (s 77 78) ∷ (s 78 79) ∷ (s 79 80) ∷ (s 80 81) ∷ (s 81 82) ∷ (s 83 84) ∷ (s 84 85) ∷ (s 86 87) ∷ (s 87 88) ∷ (s 89 90) ∷ (s 90 96) ∷ (s 97 98) ∷ (s 99 100) ∷ (s 100 101) ∷ (s 102 103) ∷ (s 103 104) ∷ []) ∷ []) ((Some (((g.list (p 0 4 0 12) (g.part (g.atom (p 1 1 1 7) (g.spelled (k.Name (codes "define") false))) (g.part (g.atom (p 2 2 8 9) (g.spelled (k.Name (codes "k") false))) (g.part (g.atom (p 3 3 10 11) (g.spelled (k.Numeral (codes "0")))) g.none))))) ∷ ((g.list (p 5 41 13 104) (g.part (g.atom (p 6 6 14 20) (g.spelled (k.Name (codes "define") false))) (g.part (g.list (p 7 9 21 24) (g.part (g.atom (p 8 8 22 23) (g.spelled (k.Name (codes "f") false))) g.none)) (g.part (g.list (p 10 30 25 82) (g.part (g.atom (p 11 11 26 39) (g.spelled (k.Name (codes "define-syntax") false))) (g.part (g.atom (p 12 12 40 41) (g.spelled (k.Name (codes "n") false))) (g.part (g.list (p 13 29 42 81) (g.part (g.atom (p 14 14 43 55) (g.spelled (k.Name (codes "syntax-rules") false))) (g.part (g.list (p 15 17 56 59) (g.part (g.atom (p 16 16 57 58) (g.spelled (k.Name (codes "k") false))) g.none)) (g.part (g.list (p 18 28 60 80) (g.part (g.list (p 19 22 61 66) (g.part (g.atom (p 20 20 62 63) (g.spelled (k.Name (codes "_") false))) (g.part (g.atom (p 21 21 64 65) (g.spelled (k.Name (codes "k") false))) g.none))) (g.part (g.list (p 23 27 67 79) (g.part (g.atom (p 24 24 68 74) (g.spelled (k.Name (codes "define") false))) (g.part (g.atom (p 25 25 75 76) (g.spelled (k.Name (codes "q") false))) (g.part (g.atom (p 26 26 77 78) (g.spelled (k.Numeral (codes "1")))) g.none)))) g.none))) g.none)))) g.none)))) (g.part (g.list (p 31 34 83 88) (g.part (g.atom (p 32 32 84 85) (g.spelled (k.Name (codes "n") false))) (g.part (g.atom (p 33 33 86 87) (g.spelled (k.Name (codes "k") false))) g.none))) (g.part (g.list (p 35 39 89 101) (g.part (g.atom (p 36 36 90 96) (g.spelled (k.Name (codes "define") false))) (g.part (g.atom (p 37 37 97 98) (g.spelled (k.Name (codes "k") false))) (g.part (g.atom (p 38 38 99 100) (g.spelled (k.Numeral (codes "2")))) g.none)))) (g.part (g.atom (p 40 40 102 103) (g.spelled (k.Name (codes "k") false))) g.none)))))))) ∷ [])) ∷ []) ≡ ((q 0 0 1 104 (codes "no import, (scheme base) is used")) ∷ [])
unfolding base_names standard_libraries prelude encode_utf8
literal-of-a-body = refl

pub literal-of-the-body-around : diagnostic_rows (((s 0 1) ∷ (s 1 7) ∷ (s 8 9) ∷ (s 9 10) ∷ (s 10 11) ∷ (s 12 13) ∷ (s 13 19) ∷ (s 20 21) ∷ (s 21 22) ∷ (s 22 23) ∷ (s 24 25) ∷ (s 25 38) ∷ (s 39 40) ∷ (s 41 42) ∷ (s 42 54) ∷ (s 55 56) ∷ (s 56 57) ∷ (s 57 58) ∷ (s 59 60) ∷ (s 60 61) ∷ (s 61 62) ∷ (s 63 64) ∷ (s 64 65) ∷ (s 66 67) ∷ (s 67 73) ∷ (s 74 75) ∷ (s 76 77) ∷ (s 77 78) ∷ (s 78 79) ∷ (s 79 80) ∷ (s 80 81) ∷ (s 82 83) ∷ (s 83 84) ∷ (s 85 86) ∷ (s 86 87) ∷ (s 88 89) ∷ (s 89 90) ∷ (s 91 92) ∷ (s 92 98) ∷ (s 99 100) ∷ (s 101 102) ∷ (s 102 103) ∷ (s 104 105) ∷ (s 105 106) ∷ (s 106 107) ∷ (s 107 108) ∷ []) ∷ []) ((Some (((g.list (p 0 45 0 108) (g.part (g.atom (p 1 1 1 7) (g.spelled (k.Name (codes "define") false))) (g.part (g.list (p 2 4 8 11) (g.part (g.atom (p 3 3 9 10) (g.spelled (k.Name (codes "f") false))) g.none)) (g.part (g.list (p 5 36 12 90) (g.part (g.atom (p 6 6 13 19) (g.spelled (k.Name (codes "define") false))) (g.part (g.list (p 7 9 20 23) (g.part (g.atom (p 8 8 21 22) (g.spelled (k.Name (codes "g") false))) g.none)) (g.part (g.list (p 10 30 24 81) (g.part (g.atom (p 11 11 25 38) (g.spelled (k.Name (codes "define-syntax") false))) (g.part (g.atom (p 12 12 39 40) (g.spelled (k.Name (codes "n") false))) (g.part (g.list (p 13 29 41 80) (g.part (g.atom (p 14 14 42 54) (g.spelled (k.Name (codes "syntax-rules") false))) (g.part (g.list (p 15 17 55 58) (g.part (g.atom (p 16 16 56 57) (g.spelled (k.Name (codes "k") false))) g.none)) (g.part (g.list (p 18 28 59 79) (g.part (g.list (p 19 22 60 65) (g.part (g.atom (p 20 20 61 62) (g.spelled (k.Name (codes "_") false))) (g.part (g.atom (p 21 21 63 64) (g.spelled (k.Name (codes "k") false))) g.none))) (g.part (g.list (p 23 27 66 78) (g.part (g.atom (p 24 24 67 73) (g.spelled (k.Name (codes "define") false))) (g.part (g.atom (p 25 25 74 75) (g.spelled (k.Name (codes "q") false))) (g.part (g.atom (p 26 26 76 77) (g.spelled (k.Numeral (codes "1")))) g.none)))) g.none))) g.none)))) g.none)))) (g.part (g.list (p 31 34 82 87) (g.part (g.atom (p 32 32 83 84) (g.spelled (k.Name (codes "n") false))) (g.part (g.atom (p 33 33 85 86) (g.spelled (k.Name (codes "k") false))) g.none))) (g.part (g.atom (p 35 35 88 89) (g.spelled (k.Numeral (codes "1")))) g.none)))))) (g.part (g.list (p 37 41 91 103) (g.part (g.atom (p 38 38 92 98) (g.spelled (k.Name (codes "define") false))) (g.part (g.atom (p 39 39 99 100) (g.spelled (k.Name (codes "k") false))) (g.part (g.atom (p 40 40 101 102) (g.spelled (k.Numeral (codes "2")))) g.none)))) (g.part (g.list (p 42 44 104 107) (g.part (g.atom (p 43 43 105 106) (g.spelled (k.Name (codes "g") false))) g.none)) g.none))))))) ∷ [])) ∷ []) ≡ ((q 0 0 1 104 (codes "no import, (scheme base) is used")) ∷ [])
unfolding base_names standard_libraries prelude encode_utf8
literal-of-the-body-around = refl

pub literal-over-a-parameter : diagnostic_rows (((s 0 1) ∷ (s 1 7) ∷ (s 8 9) ∷ (s 9 10) ∷ (s 10 11) ∷ (s 12 13) ∷ (s 13 26) ∷ (s 27 28) ∷ (s 29 30) ∷ (s 30 42) ∷ (s 43 44) ∷ (s 44 45) ∷ (s 45 46) ∷ (s 47 48) ∷ (s 48 49) ∷ (s 49 50) ∷ (s 51 52) ∷ (s 52 53) ∷ (s 54 55) ∷ (s 55 61) ∷ (s 62 63) ∷ (s 64 65) ∷ (s 65 66) ∷ (s 66 67) ∷ (s 67 68) ∷ (s 68 69) ∷ (s 70 71) ∷ (s 71 72) ∷ (s 73 74) ∷ (s 74 75) ∷ (s 76 77) ∷ (s 77 83) ∷ (s 84 85) ∷ (s 86 87) ∷ (s 87 88) ∷ (s 89 90) ∷ (s 90 91) ∷ []) ∷ []) ((Some (((g.list (p 0 36 0 91) (g.part (g.atom (p 1 1 1 7) (g.spelled (k.Name (codes "lambda") false))) (g.part (g.list (p 2 4 8 11) (g.part (g.atom (p 3 3 9 10) (g.spelled (k.Name (codes "k") false))) g.none)) (g.part (g.list (p 5 25 12 69) (g.part (g.atom (p 6 6 13 26) (g.spelled (k.Name (codes "define-syntax") false))) (g.part (g.atom (p 7 7 27 28) (g.spelled (k.Name (codes "n") false))) (g.part (g.list (p 8 24 29 68) (g.part (g.atom (p 9 9 30 42) (g.spelled (k.Name (codes "syntax-rules") false))) (g.part (g.list (p 10 12 43 46) (g.part (g.atom (p 11 11 44 45) (g.spelled (k.Name (codes "k") false))) g.none)) (g.part (g.list (p 13 23 47 67) (g.part (g.list (p 14 17 48 53) (g.part (g.atom (p 15 15 49 50) (g.spelled (k.Name (codes "_") false))) (g.part (g.atom (p 16 16 51 52) (g.spelled (k.Name (codes "k") false))) g.none))) (g.part (g.list (p 18 22 54 66) (g.part (g.atom (p 19 19 55 61) (g.spelled (k.Name (codes "define") false))) (g.part (g.atom (p 20 20 62 63) (g.spelled (k.Name (codes "q") false))) (g.part (g.atom (p 21 21 64 65) (g.spelled (k.Numeral (codes "1")))) g.none)))) g.none))) g.none)))) g.none)))) (g.part (g.list (p 26 29 70 75) (g.part (g.atom (p 27 27 71 72) (g.spelled (k.Name (codes "n") false))) (g.part (g.atom (p 28 28 73 74) (g.spelled (k.Name (codes "k") false))) g.none))) (g.part (g.list (p 30 34 76 88) (g.part (g.atom (p 31 31 77 83) (g.spelled (k.Name (codes "define") false))) (g.part (g.atom (p 32 32 84 85) (g.spelled (k.Name (codes "k") false))) (g.part (g.atom (p 33 33 86 87) (g.spelled (k.Numeral (codes "2")))) g.none)))) (g.part (g.atom (p 35 35 89 90) (g.spelled (k.Name (codes "k") false))) g.none)))))))) ∷ [])) ∷ []) ≡ ((q 0 0 1 104 (codes "no import, (scheme base) is used")) ∷ [])
unfolding base_names standard_libraries prelude encode_utf8
literal-over-a-parameter = refl

pub literal-of-a-local-macro-defined-in-its-body : diagnostic_rows (((s 0 1) ∷ (s 1 7) ∷ (s 8 9) ∷ (s 9 10) ∷ (s 10 11) ∷ (s 12 13) ∷ (s 13 23) ∷ (s 24 25) ∷ (s 25 26) ∷ (s 26 27) ∷ (s 28 29) ∷ (s 29 41) ∷ (s 42 43) ∷ (s 43 44) ∷ (s 44 45) ∷ (s 46 47) ∷ (s 47 48) ∷ (s 48 49) ∷ (s 50 51) ∷ (s 51 52) ∷ (s 53 54) ∷ (s 54 60) ∷ (s 61 62) ∷ (s 63 64) ∷ (s 64 65) ∷ (s 65 66) ∷ (s 66 67) ∷ (s 67 68) ∷ (s 68 69) ∷ (s 70 71) ∷ (s 71 72) ∷ (s 73 74) ∷ (s 74 75) ∷ (s 76 77) ∷ (s 77 83) ∷ (s 84 85) ∷ (s 86 87) ∷ (s 87 88) ∷ (s 89 90) ∷ (s 90 91) ∷ (s 92 93) ∷ (s 93 94) ∷ []) ∷ []) ((Some (((g.list (p 0 41 0 94) (g.part (g.atom (p 1 1 1 7) (g.spelled (k.Name (codes "define") false))) (g.part (g.list (p 2 4 8 11) (g.part (g.atom (p 3 3 9 10) (g.spelled (k.Name (codes "f") false))) g.none)) (g.part (g.list (p 5 39 12 91) (g.part (g.atom (p 6 6 13 23) (g.spelled (k.Name (codes "let-syntax") false))) (g.part (g.list (p 7 28 24 69) (g.part (g.list (p 8 27 25 68) (g.part (g.atom (p 9 9 26 27) (g.spelled (k.Name (codes "n") false))) (g.part (g.list (p 10 26 28 67) (g.part (g.atom (p 11 11 29 41) (g.spelled (k.Name (codes "syntax-rules") false))) (g.part (g.list (p 12 14 42 45) (g.part (g.atom (p 13 13 43 44) (g.spelled (k.Name (codes "k") false))) g.none)) (g.part (g.list (p 15 25 46 66) (g.part (g.list (p 16 19 47 52) (g.part (g.atom (p 17 17 48 49) (g.spelled (k.Name (codes "_") false))) (g.part (g.atom (p 18 18 50 51) (g.spelled (k.Name (codes "k") false))) g.none))) (g.part (g.list (p 20 24 53 65) (g.part (g.atom (p 21 21 54 60) (g.spelled (k.Name (codes "define") false))) (g.part (g.atom (p 22 22 61 62) (g.spelled (k.Name (codes "q") false))) (g.part (g.atom (p 23 23 63 64) (g.spelled (k.Numeral (codes "1")))) g.none)))) g.none))) g.none)))) g.none))) g.none)) (g.part (g.list (p 29 32 70 75) (g.part (g.atom (p 30 30 71 72) (g.spelled (k.Name (codes "n") false))) (g.part (g.atom (p 31 31 73 74) (g.spelled (k.Name (codes "k") false))) g.none))) (g.part (g.list (p 33 37 76 88) (g.part (g.atom (p 34 34 77 83) (g.spelled (k.Name (codes "define") false))) (g.part (g.atom (p 35 35 84 85) (g.spelled (k.Name (codes "k") false))) (g.part (g.atom (p 36 36 86 87) (g.spelled (k.Numeral (codes "2")))) g.none)))) (g.part (g.atom (p 38 38 89 90) (g.spelled (k.Name (codes "k") false))) g.none)))))) (g.part (g.atom (p 40 40 92 93) (g.spelled (k.Numeral (codes "1")))) g.none)))))) ∷ [])) ∷ []) ≡ ((q 0 0 1 104 (codes "no import, (scheme base) is used")) ∷ (q 0 84 85 41 (codes "keyword redefined k")) ∷ [])
unfolding base_names standard_libraries prelude encode_utf8
literal-of-a-local-macro-defined-in-its-body = refl

pub literal-of-a-local-macro-defined-around : diagnostic_rows (((s 0 1) ∷ (s 1 7) ∷ (s 8 9) ∷ (s 9 10) ∷ (s 10 11) ∷ (s 12 13) ∷ (s 13 23) ∷ (s 24 25) ∷ (s 25 26) ∷ (s 26 27) ∷ (s 28 29) ∷ (s 29 41) ∷ (s 42 43) ∷ (s 43 44) ∷ (s 44 45) ∷ (s 46 47) ∷ (s 47 48) ∷ (s 48 49) ∷ (s 50 51) ∷ (s 51 52) ∷ (s 53 54) ∷ (s 54 60) ∷ (s 61 62) ∷ (s 63 64) ∷ (s 64 65) ∷ (s 65 66) ∷ (s 66 67) ∷ (s 67 68) ∷ (s 68 69) ∷ (s 70 71) ∷ (s 71 72) ∷ (s 73 74) ∷ (s 74 75) ∷ (s 76 77) ∷ (s 77 78) ∷ (s 79 80) ∷ (s 80 86) ∷ (s 87 88) ∷ (s 89 90) ∷ (s 90 91) ∷ (s 92 93) ∷ (s 93 94) ∷ []) ∷ []) ((Some (((g.list (p 0 41 0 94) (g.part (g.atom (p 1 1 1 7) (g.spelled (k.Name (codes "define") false))) (g.part (g.list (p 2 4 8 11) (g.part (g.atom (p 3 3 9 10) (g.spelled (k.Name (codes "f") false))) g.none)) (g.part (g.list (p 5 34 12 78) (g.part (g.atom (p 6 6 13 23) (g.spelled (k.Name (codes "let-syntax") false))) (g.part (g.list (p 7 28 24 69) (g.part (g.list (p 8 27 25 68) (g.part (g.atom (p 9 9 26 27) (g.spelled (k.Name (codes "n") false))) (g.part (g.list (p 10 26 28 67) (g.part (g.atom (p 11 11 29 41) (g.spelled (k.Name (codes "syntax-rules") false))) (g.part (g.list (p 12 14 42 45) (g.part (g.atom (p 13 13 43 44) (g.spelled (k.Name (codes "k") false))) g.none)) (g.part (g.list (p 15 25 46 66) (g.part (g.list (p 16 19 47 52) (g.part (g.atom (p 17 17 48 49) (g.spelled (k.Name (codes "_") false))) (g.part (g.atom (p 18 18 50 51) (g.spelled (k.Name (codes "k") false))) g.none))) (g.part (g.list (p 20 24 53 65) (g.part (g.atom (p 21 21 54 60) (g.spelled (k.Name (codes "define") false))) (g.part (g.atom (p 22 22 61 62) (g.spelled (k.Name (codes "q") false))) (g.part (g.atom (p 23 23 63 64) (g.spelled (k.Numeral (codes "1")))) g.none)))) g.none))) g.none)))) g.none))) g.none)) (g.part (g.list (p 29 32 70 75) (g.part (g.atom (p 30 30 71 72) (g.spelled (k.Name (codes "n") false))) (g.part (g.atom (p 31 31 73 74) (g.spelled (k.Name (codes "k") false))) g.none))) (g.part (g.atom (p 33 33 76 77) (g.spelled (k.Numeral (codes "1")))) g.none))))) (g.part (g.list (p 35 39 79 91) (g.part (g.atom (p 36 36 80 86) (g.spelled (k.Name (codes "define") false))) (g.part (g.atom (p 37 37 87 88) (g.spelled (k.Name (codes "k") false))) (g.part (g.atom (p 38 38 89 90) (g.spelled (k.Numeral (codes "2")))) g.none)))) (g.part (g.atom (p 40 40 92 93) (g.spelled (k.Name (codes "k") false))) g.none))))))) ∷ [])) ∷ []) ≡ ((q 0 0 1 104 (codes "no import, (scheme base) is used")) ∷ [])
unfolding base_names standard_libraries prelude encode_utf8
literal-of-a-local-macro-defined-around = refl

pub literal-that-a-use-inserted : diagnostic_rows (((s 0 1) ∷ (s 1 14) ∷ (s 15 16) ∷ (s 17 18) ∷ (s 18 30) ∷ (s 31 32) ∷ (s 32 33) ∷ (s 33 34) ∷ (s 35 36) ∷ (s 36 37) ∷ (s 37 38) ∷ (s 39 40) ∷ (s 40 41) ∷ (s 42 43) ∷ (s 43 44) ∷ (s 44 45) ∷ (s 45 46) ∷ (s 47 48) ∷ (s 48 61) ∷ (s 62 63) ∷ (s 64 65) ∷ (s 65 77) ∷ (s 78 79) ∷ (s 79 80) ∷ (s 81 82) ∷ (s 82 83) ∷ (s 83 84) ∷ (s 84 85) ∷ (s 86 87) ∷ (s 87 88) ∷ (s 89 90) ∷ (s 90 91) ∷ (s 91 92) ∷ (s 92 93) ∷ (s 93 94) ∷ (s 95 96) ∷ (s 96 97) ∷ (s 97 98) ∷ (s 99 100) ∷ (s 100 106) ∷ (s 107 108) ∷ (s 109 110) ∷ (s 110 111) ∷ []) ∷ []) ((Some (((g.list (p 0 16 0 46) (g.part (g.atom (p 1 1 1 14) (g.spelled (k.Name (codes "define-syntax") false))) (g.part (g.atom (p 2 2 15 16) (g.spelled (k.Name (codes "n") false))) (g.part (g.list (p 3 15 17 45) (g.part (g.atom (p 4 4 18 30) (g.spelled (k.Name (codes "syntax-rules") false))) (g.part (g.list (p 5 7 31 34) (g.part (g.atom (p 6 6 32 33) (g.spelled (k.Name (codes "k") false))) g.none)) (g.part (g.list (p 8 14 35 44) (g.part (g.list (p 9 12 36 41) (g.part (g.atom (p 10 10 37 38) (g.spelled (k.Name (codes "_") false))) (g.part (g.atom (p 11 11 39 40) (g.spelled (k.Name (codes "k") false))) g.none))) (g.part (g.atom (p 13 13 42 43) (g.spelled (k.Numeral (codes "1")))) g.none))) g.none)))) g.none))))) ∷ ((g.list (p 17 34 47 94) (g.part (g.atom (p 18 18 48 61) (g.spelled (k.Name (codes "define-syntax") false))) (g.part (g.atom (p 19 19 62 63) (g.spelled (k.Name (codes "u") false))) (g.part (g.list (p 20 33 64 93) (g.part (g.atom (p 21 21 65 77) (g.spelled (k.Name (codes "syntax-rules") false))) (g.part (g.list (p 22 23 78 80) g.none) (g.part (g.list (p 24 32 81 92) (g.part (g.list (p 25 27 82 85) (g.part (g.atom (p 26 26 83 84) (g.spelled (k.Name (codes "_") false))) g.none)) (g.part (g.list (p 28 31 86 91) (g.part (g.atom (p 29 29 87 88) (g.spelled (k.Name (codes "n") false))) (g.part (g.atom (p 30 30 89 90) (g.spelled (k.Name (codes "k") false))) g.none))) g.none))) g.none)))) g.none))))) ∷ ((g.list (p 35 37 95 98) (g.part (g.atom (p 36 36 96 97) (g.spelled (k.Name (codes "u") false))) g.none))) ∷ ((g.list (p 38 42 99 111) (g.part (g.atom (p 39 39 100 106) (g.spelled (k.Name (codes "define") false))) (g.part (g.atom (p 40 40 107 108) (g.spelled (k.Name (codes "k") false))) (g.part (g.atom (p 41 41 109 110) (g.spelled (k.Numeral (codes "2")))) g.none))))) ∷ [])) ∷ []) ≡ ((q 0 0 1 104 (codes "no import, (scheme base) is used")) ∷ [])
unfolding base_names standard_libraries prelude encode_utf8
literal-that-a-use-inserted = refl

pub inserted-literal-defined-by-its-use : diagnostic_rows (((s 0 1) ∷ (s 1 7) ∷ (s 8 9) ∷ (s 9 10) ∷ (s 10 11) ∷ (s 12 13) ∷ (s 13 26) ∷ (s 27 28) ∷ (s 29 30) ∷ (s 30 42) ∷ (s 43 44) ∷ (s 44 45) ∷ (s 45 46) ∷ (s 47 48) ∷ (s 48 49) ∷ (s 49 50) ∷ (s 51 52) ∷ (s 52 53) ∷ (s 54 55) ∷ (s 55 61) ∷ (s 62 63) ∷ (s 64 65) ∷ (s 65 66) ∷ (s 66 67) ∷ (s 67 68) ∷ (s 68 69) ∷ (s 70 71) ∷ (s 71 84) ∷ (s 85 86) ∷ (s 87 88) ∷ (s 88 100) ∷ (s 101 102) ∷ (s 102 103) ∷ (s 104 105) ∷ (s 105 106) ∷ (s 106 107) ∷ (s 107 108) ∷ (s 109 110) ∷ (s 110 115) ∷ (s 116 117) ∷ (s 117 118) ∷ (s 119 120) ∷ (s 120 121) ∷ (s 122 123) ∷ (s 123 129) ∷ (s 130 131) ∷ (s 132 133) ∷ (s 133 134) ∷ (s 134 135) ∷ (s 135 136) ∷ (s 136 137) ∷ (s 137 138) ∷ (s 139 140) ∷ (s 140 141) ∷ (s 141 142) ∷ (s 143 144) ∷ (s 144 145) ∷ []) ∷ []) ((Some (((g.list (p 0 56 0 145) (g.part (g.atom (p 1 1 1 7) (g.spelled (k.Name (codes "define") false))) (g.part (g.list (p 2 4 8 11) (g.part (g.atom (p 3 3 9 10) (g.spelled (k.Name (codes "f") false))) g.none)) (g.part (g.list (p 5 25 12 69) (g.part (g.atom (p 6 6 13 26) (g.spelled (k.Name (codes "define-syntax") false))) (g.part (g.atom (p 7 7 27 28) (g.spelled (k.Name (codes "n") false))) (g.part (g.list (p 8 24 29 68) (g.part (g.atom (p 9 9 30 42) (g.spelled (k.Name (codes "syntax-rules") false))) (g.part (g.list (p 10 12 43 46) (g.part (g.atom (p 11 11 44 45) (g.spelled (k.Name (codes "k") false))) g.none)) (g.part (g.list (p 13 23 47 67) (g.part (g.list (p 14 17 48 53) (g.part (g.atom (p 15 15 49 50) (g.spelled (k.Name (codes "_") false))) (g.part (g.atom (p 16 16 51 52) (g.spelled (k.Name (codes "k") false))) g.none))) (g.part (g.list (p 18 22 54 66) (g.part (g.atom (p 19 19 55 61) (g.spelled (k.Name (codes "define") false))) (g.part (g.atom (p 20 20 62 63) (g.spelled (k.Name (codes "q") false))) (g.part (g.atom (p 21 21 64 65) (g.spelled (k.Numeral (codes "1")))) g.none)))) g.none))) g.none)))) g.none)))) (g.part (g.list (p 26 51 70 138) (g.part (g.atom (p 27 27 71 84) (g.spelled (k.Name (codes "define-syntax") false))) (g.part (g.atom (p 28 28 85 86) (g.spelled (k.Name (codes "u") false))) (g.part (g.list (p 29 50 87 137) (g.part (g.atom (p 30 30 88 100) (g.spelled (k.Name (codes "syntax-rules") false))) (g.part (g.list (p 31 32 101 103) g.none) (g.part (g.list (p 33 49 104 136) (g.part (g.list (p 34 36 105 108) (g.part (g.atom (p 35 35 106 107) (g.spelled (k.Name (codes "_") false))) g.none)) (g.part (g.list (p 37 48 109 135) (g.part (g.atom (p 38 38 110 115) (g.spelled (k.Name (codes "begin") false))) (g.part (g.list (p 39 42 116 121) (g.part (g.atom (p 40 40 117 118) (g.spelled (k.Name (codes "n") false))) (g.part (g.atom (p 41 41 119 120) (g.spelled (k.Name (codes "k") false))) g.none))) (g.part (g.list (p 43 47 122 134) (g.part (g.atom (p 44 44 123 129) (g.spelled (k.Name (codes "define") false))) (g.part (g.atom (p 45 45 130 131) (g.spelled (k.Name (codes "k") false))) (g.part (g.atom (p 46 46 132 133) (g.spelled (k.Numeral (codes "3")))) g.none)))) g.none)))) g.none))) g.none)))) g.none)))) (g.part (g.list (p 52 54 139 142) (g.part (g.atom (p 53 53 140 141) (g.spelled (k.Name (codes "u") false))) g.none)) (g.part (g.atom (p 55 55 143 144) (g.spelled (k.Numeral (codes "1")))) g.none)))))))) ∷ [])) ∷ []) ≡ ((q 0 0 1 104 (codes "no import, (scheme base) is used")) ∷ (q 0 130 131 41 (codes "keyword redefined k")) ∷ [])
unfolding base_names standard_libraries prelude encode_utf8
inserted-literal-defined-by-its-use = refl

pub literal-of-the-same-form : diagnostic_rows (((s 0 1) ∷ (s 1 14) ∷ (s 15 16) ∷ (s 17 18) ∷ (s 18 30) ∷ (s 31 32) ∷ (s 32 35) ∷ (s 35 36) ∷ (s 37 38) ∷ (s 38 39) ∷ (s 39 40) ∷ (s 41 44) ∷ (s 44 45) ∷ (s 46 47) ∷ (s 47 48) ∷ (s 48 49) ∷ (s 49 50) ∷ (s 51 52) ∷ (s 52 57) ∷ (s 58 59) ∷ (s 59 60) ∷ (s 61 64) ∷ (s 64 65) ∷ (s 66 67) ∷ (s 67 73) ∷ (s 74 77) ∷ (s 78 79) ∷ (s 79 80) ∷ (s 80 81) ∷ []) ∷ []) ((Some (((g.list (p 0 16 0 50) (g.part (g.atom (p 1 1 1 14) (g.spelled (k.Name (codes "define-syntax") false))) (g.part (g.atom (p 2 2 15 16) (g.spelled (k.Name (codes "m") false))) (g.part (g.list (p 3 15 17 49) (g.part (g.atom (p 4 4 18 30) (g.spelled (k.Name (codes "syntax-rules") false))) (g.part (g.list (p 5 7 31 36) (g.part (g.atom (p 6 6 32 35) (g.spelled (k.Name (codes "lit") false))) g.none)) (g.part (g.list (p 8 14 37 48) (g.part (g.list (p 9 12 38 45) (g.part (g.atom (p 10 10 39 40) (g.spelled (k.Name (codes "_") false))) (g.part (g.atom (p 11 11 41 44) (g.spelled (k.Name (codes "lit") false))) g.none))) (g.part (g.atom (p 13 13 46 47) (g.spelled (k.Numeral (codes "1")))) g.none))) g.none)))) g.none))))) ∷ ((g.list (p 17 28 51 81) (g.part (g.atom (p 18 18 52 57) (g.spelled (k.Name (codes "begin") false))) (g.part (g.list (p 19 22 58 65) (g.part (g.atom (p 20 20 59 60) (g.spelled (k.Name (codes "m") false))) (g.part (g.atom (p 21 21 61 64) (g.spelled (k.Name (codes "lit") false))) g.none))) (g.part (g.list (p 23 27 66 80) (g.part (g.atom (p 24 24 67 73) (g.spelled (k.Name (codes "define") false))) (g.part (g.atom (p 25 25 74 77) (g.spelled (k.Name (codes "lit") false))) (g.part (g.atom (p 26 26 78 79) (g.spelled (k.Numeral (codes "2")))) g.none)))) g.none))))) ∷ [])) ∷ []) ≡ ((q 0 0 1 104 (codes "no import, (scheme base) is used")) ∷ [])
unfolding base_names standard_libraries prelude encode_utf8
literal-of-the-same-form = refl

pub literal-of-a-broken-form : diagnostic_rows (((s 0 1) ∷ (s 1 14) ∷ (s 15 16) ∷ (s 17 18) ∷ (s 18 30) ∷ (s 31 32) ∷ (s 32 35) ∷ (s 35 36) ∷ (s 37 38) ∷ (s 38 39) ∷ (s 39 40) ∷ (s 41 44) ∷ (s 44 45) ∷ (s 46 47) ∷ (s 47 48) ∷ (s 48 49) ∷ (s 49 50) ∷ (s 51 52) ∷ (s 52 57) ∷ (s 58 59) ∷ (s 59 60) ∷ (s 61 64) ∷ (s 64 65) ∷ (s 66 67) ∷ (s 67 69) ∷ (s 69 70) ∷ (s 70 71) ∷ (s 72 73) ∷ (s 73 79) ∷ (s 80 83) ∷ (s 84 85) ∷ (s 85 86) ∷ []) ∷ []) ((Some (((g.list (p 0 16 0 50) (g.part (g.atom (p 1 1 1 14) (g.spelled (k.Name (codes "define-syntax") false))) (g.part (g.atom (p 2 2 15 16) (g.spelled (k.Name (codes "m") false))) (g.part (g.list (p 3 15 17 49) (g.part (g.atom (p 4 4 18 30) (g.spelled (k.Name (codes "syntax-rules") false))) (g.part (g.list (p 5 7 31 36) (g.part (g.atom (p 6 6 32 35) (g.spelled (k.Name (codes "lit") false))) g.none)) (g.part (g.list (p 8 14 37 48) (g.part (g.list (p 9 12 38 45) (g.part (g.atom (p 10 10 39 40) (g.spelled (k.Name (codes "_") false))) (g.part (g.atom (p 11 11 41 44) (g.spelled (k.Name (codes "lit") false))) g.none))) (g.part (g.atom (p 13 13 46 47) (g.spelled (k.Numeral (codes "1")))) g.none))) g.none)))) g.none))))) ∷ ((g.list (p 17 26 51 71) (g.part (g.atom (p 18 18 52 57) (g.spelled (k.Name (codes "begin") false))) (g.part (g.list (p 19 22 58 65) (g.part (g.atom (p 20 20 59 60) (g.spelled (k.Name (codes "m") false))) (g.part (g.atom (p 21 21 61 64) (g.spelled (k.Name (codes "lit") false))) g.none))) (g.part (g.list (p 23 25 66 70) (g.part (g.atom (p 24 24 67 69) (g.spelled (k.Name (codes "if") false))) g.none)) g.none))))) ∷ ((g.list (p 27 31 72 86) (g.part (g.atom (p 28 28 73 79) (g.spelled (k.Name (codes "define") false))) (g.part (g.atom (p 29 29 80 83) (g.spelled (k.Name (codes "lit") false))) (g.part (g.atom (p 30 30 84 85) (g.spelled (k.Numeral (codes "2")))) g.none))))) ∷ [])) ∷ []) ≡ ((q 0 0 1 104 (codes "no import, (scheme base) is used")) ∷ (q 0 66 67 31 (codes "bad form")) ∷ [])
unfolding base_names standard_libraries prelude encode_utf8
literal-of-a-broken-form = refl

pub literal-defined-as-a-macro : diagnostic_rows (((s 0 1) ∷ (s 1 14) ∷ (s 15 16) ∷ (s 17 18) ∷ (s 18 30) ∷ (s 31 32) ∷ (s 32 35) ∷ (s 35 36) ∷ (s 37 38) ∷ (s 38 39) ∷ (s 39 40) ∷ (s 41 44) ∷ (s 44 45) ∷ (s 46 47) ∷ (s 47 48) ∷ (s 48 49) ∷ (s 49 50) ∷ (s 51 52) ∷ (s 52 53) ∷ (s 54 57) ∷ (s 57 58) ∷ (s 59 60) ∷ (s 60 73) ∷ (s 74 77) ∷ (s 78 79) ∷ (s 79 91) ∷ (s 92 93) ∷ (s 93 94) ∷ (s 95 96) ∷ (s 96 97) ∷ (s 97 98) ∷ (s 98 99) ∷ (s 100 101) ∷ (s 101 102) ∷ (s 102 103) ∷ (s 103 104) ∷ (s 105 106) ∷ (s 106 109) ∷ (s 109 110) ∷ []) ∷ []) ((Some (((g.list (p 0 16 0 50) (g.part (g.atom (p 1 1 1 14) (g.spelled (k.Name (codes "define-syntax") false))) (g.part (g.atom (p 2 2 15 16) (g.spelled (k.Name (codes "m") false))) (g.part (g.list (p 3 15 17 49) (g.part (g.atom (p 4 4 18 30) (g.spelled (k.Name (codes "syntax-rules") false))) (g.part (g.list (p 5 7 31 36) (g.part (g.atom (p 6 6 32 35) (g.spelled (k.Name (codes "lit") false))) g.none)) (g.part (g.list (p 8 14 37 48) (g.part (g.list (p 9 12 38 45) (g.part (g.atom (p 10 10 39 40) (g.spelled (k.Name (codes "_") false))) (g.part (g.atom (p 11 11 41 44) (g.spelled (k.Name (codes "lit") false))) g.none))) (g.part (g.atom (p 13 13 46 47) (g.spelled (k.Numeral (codes "1")))) g.none))) g.none)))) g.none))))) ∷ ((g.list (p 17 20 51 58) (g.part (g.atom (p 18 18 52 53) (g.spelled (k.Name (codes "m") false))) (g.part (g.atom (p 19 19 54 57) (g.spelled (k.Name (codes "lit") false))) g.none)))) ∷ ((g.list (p 21 35 59 104) (g.part (g.atom (p 22 22 60 73) (g.spelled (k.Name (codes "define-syntax") false))) (g.part (g.atom (p 23 23 74 77) (g.spelled (k.Name (codes "lit") false))) (g.part (g.list (p 24 34 78 103) (g.part (g.atom (p 25 25 79 91) (g.spelled (k.Name (codes "syntax-rules") false))) (g.part (g.list (p 26 27 92 94) g.none) (g.part (g.list (p 28 33 95 102) (g.part (g.list (p 29 31 96 99) (g.part (g.atom (p 30 30 97 98) (g.spelled (k.Name (codes "_") false))) g.none)) (g.part (g.atom (p 32 32 100 101) (g.spelled (k.Numeral (codes "1")))) g.none))) g.none)))) g.none))))) ∷ ((g.list (p 36 38 105 110) (g.part (g.atom (p 37 37 106 109) (g.spelled (k.Name (codes "lit") false))) g.none))) ∷ [])) ∷ []) ≡ ((q 0 0 1 104 (codes "no import, (scheme base) is used")) ∷ [])
unfolding base_names standard_libraries prelude encode_utf8
literal-defined-as-a-macro = refl

pub record-defines-a-name-twice-in-a-body : diagnostic_rows (((s 0 1) ∷ (s 1 7) ∷ (s 8 9) ∷ (s 9 10) ∷ (s 10 11) ∷ (s 12 13) ∷ (s 13 31) ∷ (s 32 33) ∷ (s 34 35) ∷ (s 35 36) ∷ (s 37 38) ∷ (s 38 39) ∷ (s 40 41) ∷ (s 42 43) ∷ (s 43 44) ∷ (s 45 46) ∷ (s 46 47) ∷ (s 47 48) ∷ (s 49 50) ∷ (s 50 51) ∷ []) ∷ []) ((Some (((g.list (p 0 19 0 51) (g.part (g.atom (p 1 1 1 7) (g.spelled (k.Name (codes "define") false))) (g.part (g.list (p 2 4 8 11) (g.part (g.atom (p 3 3 9 10) (g.spelled (k.Name (codes "f") false))) g.none)) (g.part (g.list (p 5 17 12 48) (g.part (g.atom (p 6 6 13 31) (g.spelled (k.Name (codes "define-record-type") false))) (g.part (g.atom (p 7 7 32 33) (g.spelled (k.Name (codes "p") false))) (g.part (g.list (p 8 11 34 39) (g.part (g.atom (p 9 9 35 36) (g.spelled (k.Name (codes "p") false))) (g.part (g.atom (p 10 10 37 38) (g.spelled (k.Name (codes "x") false))) g.none))) (g.part (g.atom (p 12 12 40 41) (g.spelled (k.Name (codes "q") false))) (g.part (g.list (p 13 16 42 47) (g.part (g.atom (p 14 14 43 44) (g.spelled (k.Name (codes "x") false))) (g.part (g.atom (p 15 15 45 46) (g.spelled (k.Name (codes "a") false))) g.none))) g.none)))))) (g.part (g.atom (p 18 18 49 50) (g.spelled (k.Numeral (codes "1")))) g.none)))))) ∷ [])) ∷ []) ≡ ((q 0 0 1 104 (codes "no import, (scheme base) is used")) ∷ (q 0 35 36 42 (codes "duplicate definition p")) ∷ [])
unfolding base_names standard_libraries prelude encode_utf8
record-defines-a-name-twice-in-a-body = refl

pub record-defines-a-name-twice : diagnostic_rows (((s 0 1) ∷ (s 1 19) ∷ (s 20 21) ∷ (s 22 23) ∷ (s 23 24) ∷ (s 25 26) ∷ (s 26 27) ∷ (s 28 29) ∷ (s 30 31) ∷ (s 31 32) ∷ (s 33 34) ∷ (s 34 35) ∷ (s 35 36) ∷ []) ∷ []) ((Some (((g.list (p 0 12 0 36) (g.part (g.atom (p 1 1 1 19) (g.spelled (k.Name (codes "define-record-type") false))) (g.part (g.atom (p 2 2 20 21) (g.spelled (k.Name (codes "p") false))) (g.part (g.list (p 3 6 22 27) (g.part (g.atom (p 4 4 23 24) (g.spelled (k.Name (codes "p") false))) (g.part (g.atom (p 5 5 25 26) (g.spelled (k.Name (codes "x") false))) g.none))) (g.part (g.atom (p 7 7 28 29) (g.spelled (k.Name (codes "q") false))) (g.part (g.list (p 8 11 30 35) (g.part (g.atom (p 9 9 31 32) (g.spelled (k.Name (codes "x") false))) (g.part (g.atom (p 10 10 33 34) (g.spelled (k.Name (codes "a") false))) g.none))) g.none))))))) ∷ [])) ∷ []) ≡ ((q 0 0 1 104 (codes "no import, (scheme base) is used")) ∷ (q 0 23 24 42 (codes "duplicate definition p")) ∷ [])
unfolding base_names standard_libraries prelude encode_utf8
record-defines-a-name-twice = refl

pub record-defines-what-values-did : diagnostic_rows (((s 0 1) ∷ (s 1 7) ∷ (s 8 9) ∷ (s 9 10) ∷ (s 10 11) ∷ (s 12 13) ∷ (s 13 26) ∷ (s 27 28) ∷ (s 28 29) ∷ (s 30 31) ∷ (s 31 32) ∷ (s 33 34) ∷ (s 34 35) ∷ (s 36 37) ∷ (s 37 55) ∷ (s 56 57) ∷ (s 58 59) ∷ (s 59 61) ∷ (s 62 63) ∷ (s 63 64) ∷ (s 65 66) ∷ (s 67 68) ∷ (s 68 69) ∷ (s 70 71) ∷ (s 71 72) ∷ (s 72 73) ∷ (s 74 75) ∷ (s 75 76) ∷ []) ∷ []) ((Some (((g.list (p 0 27 0 76) (g.part (g.atom (p 1 1 1 7) (g.spelled (k.Name (codes "define") false))) (g.part (g.list (p 2 4 8 11) (g.part (g.atom (p 3 3 9 10) (g.spelled (k.Name (codes "f") false))) g.none)) (g.part (g.list (p 5 12 12 35) (g.part (g.atom (p 6 6 13 26) (g.spelled (k.Name (codes "define-values") false))) (g.part (g.list (p 7 10 27 32) (g.part (g.atom (p 8 8 28 29) (g.spelled (k.Name (codes "a") false))) (g.part (g.atom (p 9 9 30 31) (g.spelled (k.Name (codes "b") false))) g.none))) (g.part (g.atom (p 11 11 33 34) (g.spelled (k.Numeral (codes "1")))) g.none)))) (g.part (g.list (p 13 25 36 73) (g.part (g.atom (p 14 14 37 55) (g.spelled (k.Name (codes "define-record-type") false))) (g.part (g.atom (p 15 15 56 57) (g.spelled (k.Name (codes "r") false))) (g.part (g.list (p 16 19 58 64) (g.part (g.atom (p 17 17 59 61) (g.spelled (k.Name (codes "mk") false))) (g.part (g.atom (p 18 18 62 63) (g.spelled (k.Name (codes "x") false))) g.none))) (g.part (g.atom (p 20 20 65 66) (g.spelled (k.Name (codes "b") false))) (g.part (g.list (p 21 24 67 72) (g.part (g.atom (p 22 22 68 69) (g.spelled (k.Name (codes "x") false))) (g.part (g.atom (p 23 23 70 71) (g.spelled (k.Name (codes "y") false))) g.none))) g.none)))))) (g.part (g.atom (p 26 26 74 75) (g.spelled (k.Numeral (codes "1")))) g.none))))))) ∷ [])) ∷ []) ≡ ((q 0 0 1 104 (codes "no import, (scheme base) is used")) ∷ (q 0 65 66 42 (codes "duplicate definition b")) ∷ [])
unfolding base_names standard_libraries prelude encode_utf8
record-defines-what-values-did = refl

pub rules-no-list-in-an-expression : diagnostic_rows (((s 0 1) ∷ (s 1 5) ∷ (s 6 7) ∷ (s 7 20) ∷ (s 21 22) ∷ (s 23 24) ∷ (s 24 25) ∷ (s 25 26) ∷ []) ∷ []) ((Some (((g.list (p 0 7 0 26) (g.part (g.atom (p 1 1 1 5) (g.spelled (k.Name (codes "list") false))) (g.part (g.list (p 2 6 6 25) (g.part (g.atom (p 3 3 7 20) (g.spelled (k.Name (codes "define-syntax") false))) (g.part (g.atom (p 4 4 21 22) (g.spelled (k.Name (codes "x") false))) (g.part (g.atom (p 5 5 23 24) (g.spelled (k.Numeral (codes "5")))) g.none)))) g.none)))) ∷ [])) ∷ []) ≡ ((q 0 0 1 104 (codes "no import, (scheme base) is used")) ∷ (q 0 6 7 31 (codes "bad form")) ∷ [])
unfolding base_names standard_libraries prelude encode_utf8
rules-no-list-in-an-expression = refl

pub rules-an-identifier-in-an-expression : diagnostic_rows (((s 0 1) ∷ (s 1 5) ∷ (s 6 7) ∷ (s 7 20) ∷ (s 21 22) ∷ (s 23 24) ∷ (s 24 25) ∷ (s 25 26) ∷ []) ∷ []) ((Some (((g.list (p 0 7 0 26) (g.part (g.atom (p 1 1 1 5) (g.spelled (k.Name (codes "list") false))) (g.part (g.list (p 2 6 6 25) (g.part (g.atom (p 3 3 7 20) (g.spelled (k.Name (codes "define-syntax") false))) (g.part (g.atom (p 4 4 21 22) (g.spelled (k.Name (codes "x") false))) (g.part (g.atom (p 5 5 23 24) (g.spelled (k.Name (codes "y") false))) g.none)))) g.none)))) ∷ [])) ∷ []) ≡ ((q 0 0 1 104 (codes "no import, (scheme base) is used")) ∷ (q 0 6 7 31 (codes "bad form")) ∷ [])
unfolding base_names standard_libraries prelude encode_utf8
rules-an-identifier-in-an-expression = refl

pub rules-a-vector-in-an-expression : diagnostic_rows (((s 0 1) ∷ (s 1 5) ∷ (s 6 7) ∷ (s 7 20) ∷ (s 21 22) ∷ (s 23 25) ∷ (s 25 37) ∷ (s 38 39) ∷ (s 39 40) ∷ (s 40 41) ∷ (s 41 42) ∷ (s 42 43) ∷ []) ∷ []) ((Some (((g.list (p 0 11 0 43) (g.part (g.atom (p 1 1 1 5) (g.spelled (k.Name (codes "list") false))) (g.part (g.list (p 2 10 6 42) (g.part (g.atom (p 3 3 7 20) (g.spelled (k.Name (codes "define-syntax") false))) (g.part (g.atom (p 4 4 21 22) (g.spelled (k.Name (codes "x") false))) (g.part (g.vector (p 5 9 23 41) (g.part (g.atom (p 6 6 25 37) (g.spelled (k.Name (codes "syntax-rules") false))) (g.part (g.list (p 7 8 38 40) g.none) g.none))) g.none)))) g.none)))) ∷ [])) ∷ []) ≡ ((q 0 0 1 104 (codes "no import, (scheme base) is used")) ∷ (q 0 6 7 31 (codes "bad form")) ∷ [])
unfolding base_names standard_libraries prelude encode_utf8
rules-a-vector-in-an-expression = refl

pub rules-a-list-in-an-expression : diagnostic_rows (((s 0 1) ∷ (s 1 5) ∷ (s 6 7) ∷ (s 7 20) ∷ (s 21 22) ∷ (s 23 24) ∷ (s 24 27) ∷ (s 27 28) ∷ (s 28 29) ∷ (s 29 30) ∷ []) ∷ []) ((Some (((g.list (p 0 9 0 30) (g.part (g.atom (p 1 1 1 5) (g.spelled (k.Name (codes "list") false))) (g.part (g.list (p 2 8 6 29) (g.part (g.atom (p 3 3 7 20) (g.spelled (k.Name (codes "define-syntax") false))) (g.part (g.atom (p 4 4 21 22) (g.spelled (k.Name (codes "x") false))) (g.part (g.list (p 5 7 23 28) (g.part (g.atom (p 6 6 24 27) (g.spelled (k.Name (codes "foo") false))) g.none)) g.none)))) g.none)))) ∷ [])) ∷ []) ≡ ((q 0 0 1 104 (codes "no import, (scheme base) is used")) ∷ (q 0 6 7 33 (codes "definition in expression place")) ∷ [])
unfolding base_names standard_libraries prelude encode_utf8
rules-a-list-in-an-expression = refl

pub rules-in-an-expression : diagnostic_rows (((s 0 1) ∷ (s 1 5) ∷ (s 6 7) ∷ (s 7 20) ∷ (s 21 22) ∷ (s 23 24) ∷ (s 24 36) ∷ (s 37 38) ∷ (s 38 39) ∷ (s 40 41) ∷ (s 41 42) ∷ (s 42 43) ∷ (s 43 44) ∷ (s 45 46) ∷ (s 46 47) ∷ (s 47 48) ∷ (s 48 49) ∷ (s 49 50) ∷ []) ∷ []) ((Some (((g.list (p 0 17 0 50) (g.part (g.atom (p 1 1 1 5) (g.spelled (k.Name (codes "list") false))) (g.part (g.list (p 2 16 6 49) (g.part (g.atom (p 3 3 7 20) (g.spelled (k.Name (codes "define-syntax") false))) (g.part (g.atom (p 4 4 21 22) (g.spelled (k.Name (codes "x") false))) (g.part (g.list (p 5 15 23 48) (g.part (g.atom (p 6 6 24 36) (g.spelled (k.Name (codes "syntax-rules") false))) (g.part (g.list (p 7 8 37 39) g.none) (g.part (g.list (p 9 14 40 47) (g.part (g.list (p 10 12 41 44) (g.part (g.atom (p 11 11 42 43) (g.spelled (k.Name (codes "_") false))) g.none)) (g.part (g.atom (p 13 13 45 46) (g.spelled (k.Numeral (codes "1")))) g.none))) g.none)))) g.none)))) g.none)))) ∷ [])) ∷ []) ≡ ((q 0 0 1 104 (codes "no import, (scheme base) is used")) ∷ (q 0 6 7 33 (codes "definition in expression place")) ∷ [])
unfolding base_names standard_libraries prelude encode_utf8
rules-in-an-expression = refl

pub rules-no-list-of-equal-names : diagnostic_rows (((s 0 1) ∷ (s 1 11) ∷ (s 12 13) ∷ (s 13 14) ∷ (s 14 15) ∷ (s 16 17) ∷ (s 17 18) ∷ (s 19 20) ∷ (s 20 21) ∷ (s 22 23) ∷ (s 23 24) ∷ (s 24 25) ∷ (s 26 27) ∷ (s 27 28) ∷ []) ∷ []) ((Some (((g.list (p 0 13 0 28) (g.part (g.atom (p 1 1 1 11) (g.spelled (k.Name (codes "let-syntax") false))) (g.part (g.list (p 2 11 12 25) (g.part (g.list (p 3 6 13 18) (g.part (g.atom (p 4 4 14 15) (g.spelled (k.Name (codes "x") false))) (g.part (g.atom (p 5 5 16 17) (g.spelled (k.Numeral (codes "5")))) g.none))) (g.part (g.list (p 7 10 19 24) (g.part (g.atom (p 8 8 20 21) (g.spelled (k.Name (codes "x") false))) (g.part (g.atom (p 9 9 22 23) (g.spelled (k.Numeral (codes "6")))) g.none))) g.none))) (g.part (g.atom (p 12 12 26 27) (g.spelled (k.Numeral (codes "1")))) g.none))))) ∷ [])) ∷ []) ≡ ((q 0 0 1 31 (codes "bad form")) ∷ (q 0 0 1 104 (codes "no import, (scheme base) is used")) ∷ [])
unfolding base_names standard_libraries prelude encode_utf8
rules-no-list-of-equal-names = refl

pub rules-one-no-list-of-equal-names : diagnostic_rows (((s 0 1) ∷ (s 1 14) ∷ (s 15 16) ∷ (s 16 17) ∷ (s 17 18) ∷ (s 19 20) ∷ (s 20 23) ∷ (s 23 24) ∷ (s 24 25) ∷ (s 26 27) ∷ (s 27 28) ∷ (s 29 30) ∷ (s 30 31) ∷ (s 31 32) ∷ (s 33 34) ∷ (s 34 35) ∷ []) ∷ []) ((Some (((g.list (p 0 15 0 35) (g.part (g.atom (p 1 1 1 14) (g.spelled (k.Name (codes "letrec-syntax") false))) (g.part (g.list (p 2 13 15 32) (g.part (g.list (p 3 8 16 25) (g.part (g.atom (p 4 4 17 18) (g.spelled (k.Name (codes "x") false))) (g.part (g.list (p 5 7 19 24) (g.part (g.atom (p 6 6 20 23) (g.spelled (k.Name (codes "foo") false))) g.none)) g.none))) (g.part (g.list (p 9 12 26 31) (g.part (g.atom (p 10 10 27 28) (g.spelled (k.Name (codes "x") false))) (g.part (g.atom (p 11 11 29 30) (g.spelled (k.Numeral (codes "6")))) g.none))) g.none))) (g.part (g.atom (p 14 14 33 34) (g.spelled (k.Numeral (codes "1")))) g.none))))) ∷ [])) ∷ []) ≡ ((q 0 0 1 31 (codes "bad form")) ∷ (q 0 0 1 104 (codes "no import, (scheme base) is used")) ∷ [])
unfolding base_names standard_libraries prelude encode_utf8
rules-one-no-list-of-equal-names = refl

pub rules-lists-of-equal-names : diagnostic_rows (((s 0 1) ∷ (s 1 11) ∷ (s 12 13) ∷ (s 13 14) ∷ (s 14 15) ∷ (s 16 17) ∷ (s 17 20) ∷ (s 20 21) ∷ (s 21 22) ∷ (s 23 24) ∷ (s 24 25) ∷ (s 26 27) ∷ (s 27 30) ∷ (s 30 31) ∷ (s 31 32) ∷ (s 32 33) ∷ (s 34 35) ∷ (s 35 36) ∷ []) ∷ []) ((Some (((g.list (p 0 17 0 36) (g.part (g.atom (p 1 1 1 11) (g.spelled (k.Name (codes "let-syntax") false))) (g.part (g.list (p 2 15 12 33) (g.part (g.list (p 3 8 13 22) (g.part (g.atom (p 4 4 14 15) (g.spelled (k.Name (codes "x") false))) (g.part (g.list (p 5 7 16 21) (g.part (g.atom (p 6 6 17 20) (g.spelled (k.Name (codes "foo") false))) g.none)) g.none))) (g.part (g.list (p 9 14 23 32) (g.part (g.atom (p 10 10 24 25) (g.spelled (k.Name (codes "x") false))) (g.part (g.list (p 11 13 26 31) (g.part (g.atom (p 12 12 27 30) (g.spelled (k.Name (codes "foo") false))) g.none)) g.none))) g.none))) (g.part (g.atom (p 16 16 34 35) (g.spelled (k.Numeral (codes "1")))) g.none))))) ∷ [])) ∷ []) ≡ ((q 0 0 1 104 (codes "no import, (scheme base) is used")) ∷ (q 0 24 25 32 (codes "duplicate binder x")) ∷ [])
unfolding base_names standard_libraries prelude encode_utf8
rules-lists-of-equal-names = refl

pub rules-lists-of-equal-names-recursive : diagnostic_rows (((s 0 1) ∷ (s 1 14) ∷ (s 15 16) ∷ (s 16 17) ∷ (s 17 18) ∷ (s 19 20) ∷ (s 20 23) ∷ (s 23 24) ∷ (s 24 25) ∷ (s 26 27) ∷ (s 27 28) ∷ (s 29 30) ∷ (s 30 33) ∷ (s 33 34) ∷ (s 34 35) ∷ (s 35 36) ∷ (s 37 38) ∷ (s 38 39) ∷ []) ∷ []) ((Some (((g.list (p 0 17 0 39) (g.part (g.atom (p 1 1 1 14) (g.spelled (k.Name (codes "letrec-syntax") false))) (g.part (g.list (p 2 15 15 36) (g.part (g.list (p 3 8 16 25) (g.part (g.atom (p 4 4 17 18) (g.spelled (k.Name (codes "x") false))) (g.part (g.list (p 5 7 19 24) (g.part (g.atom (p 6 6 20 23) (g.spelled (k.Name (codes "foo") false))) g.none)) g.none))) (g.part (g.list (p 9 14 26 35) (g.part (g.atom (p 10 10 27 28) (g.spelled (k.Name (codes "x") false))) (g.part (g.list (p 11 13 29 34) (g.part (g.atom (p 12 12 30 33) (g.spelled (k.Name (codes "bar") false))) g.none)) g.none))) g.none))) (g.part (g.atom (p 16 16 37 38) (g.spelled (k.Numeral (codes "1")))) g.none))))) ∷ [])) ∷ []) ≡ ((q 0 0 1 104 (codes "no import, (scheme base) is used")) ∷ (q 0 27 28 32 (codes "duplicate binder x")) ∷ [])
unfolding base_names standard_libraries prelude encode_utf8
rules-lists-of-equal-names-recursive = refl

pub rules-of-another-head-locally : diagnostic_rows (((s 0 1) ∷ (s 1 11) ∷ (s 12 13) ∷ (s 13 14) ∷ (s 14 15) ∷ (s 16 17) ∷ (s 17 20) ∷ (s 20 21) ∷ (s 21 22) ∷ (s 23 24) ∷ (s 24 25) ∷ (s 26 27) ∷ (s 27 39) ∷ (s 39 40) ∷ (s 40 41) ∷ (s 41 42) ∷ (s 43 44) ∷ (s 44 45) ∷ []) ∷ []) ((Some (((g.list (p 0 17 0 45) (g.part (g.atom (p 1 1 1 11) (g.spelled (k.Name (codes "let-syntax") false))) (g.part (g.list (p 2 15 12 42) (g.part (g.list (p 3 8 13 22) (g.part (g.atom (p 4 4 14 15) (g.spelled (k.Name (codes "x") false))) (g.part (g.list (p 5 7 16 21) (g.part (g.atom (p 6 6 17 20) (g.spelled (k.Name (codes "foo") false))) g.none)) g.none))) (g.part (g.list (p 9 14 23 41) (g.part (g.atom (p 10 10 24 25) (g.spelled (k.Name (codes "y") false))) (g.part (g.list (p 11 13 26 40) (g.part (g.atom (p 12 12 27 39) (g.spelled (k.Name (codes "syntax-rules") false))) g.none)) g.none))) g.none))) (g.part (g.atom (p 16 16 43 44) (g.spelled (k.Numeral (codes "1")))) g.none))))) ∷ [])) ∷ []) ≡ ((q 0 0 1 31 (codes "bad form")) ∷ (q 0 0 1 104 (codes "no import, (scheme base) is used")) ∷ [])
unfolding base_names standard_libraries prelude encode_utf8
rules-of-another-head-locally = refl

pub rules-no-list : diagnostic_rows (((s 0 1) ∷ (s 1 14) ∷ (s 15 16) ∷ (s 17 18) ∷ (s 18 19) ∷ []) ∷ []) ((Some (((g.list (p 0 4 0 19) (g.part (g.atom (p 1 1 1 14) (g.spelled (k.Name (codes "define-syntax") false))) (g.part (g.atom (p 2 2 15 16) (g.spelled (k.Name (codes "x") false))) (g.part (g.atom (p 3 3 17 18) (g.spelled (k.Numeral (codes "5")))) g.none))))) ∷ [])) ∷ []) ≡ ((q 0 0 1 31 (codes "bad form")) ∷ (q 0 0 1 104 (codes "no import, (scheme base) is used")) ∷ [])
unfolding base_names standard_libraries prelude encode_utf8
rules-no-list = refl

pub rules-no-list-in-a-body : diagnostic_rows (((s 0 1) ∷ (s 1 7) ∷ (s 8 9) ∷ (s 9 10) ∷ (s 10 11) ∷ (s 12 13) ∷ (s 13 26) ∷ (s 27 28) ∷ (s 29 30) ∷ (s 30 31) ∷ (s 32 33) ∷ (s 33 34) ∷ []) ∷ []) ((Some (((g.list (p 0 11 0 34) (g.part (g.atom (p 1 1 1 7) (g.spelled (k.Name (codes "define") false))) (g.part (g.list (p 2 4 8 11) (g.part (g.atom (p 3 3 9 10) (g.spelled (k.Name (codes "f") false))) g.none)) (g.part (g.list (p 5 9 12 31) (g.part (g.atom (p 6 6 13 26) (g.spelled (k.Name (codes "define-syntax") false))) (g.part (g.atom (p 7 7 27 28) (g.spelled (k.Name (codes "x") false))) (g.part (g.atom (p 8 8 29 30) (g.spelled (k.Numeral (codes "5")))) g.none)))) (g.part (g.atom (p 10 10 32 33) (g.spelled (k.Numeral (codes "1")))) g.none)))))) ∷ [])) ∷ []) ≡ ((q 0 0 1 104 (codes "no import, (scheme base) is used")) ∷ (q 0 12 13 31 (codes "bad form")) ∷ [])
unfolding base_names standard_libraries prelude encode_utf8
rules-no-list-in-a-body = refl

pub rules-of-another-head : diagnostic_rows (((s 0 1) ∷ (s 1 14) ∷ (s 15 16) ∷ (s 17 18) ∷ (s 18 21) ∷ (s 21 22) ∷ (s 22 23) ∷ []) ∷ []) ((Some (((g.list (p 0 6 0 23) (g.part (g.atom (p 1 1 1 14) (g.spelled (k.Name (codes "define-syntax") false))) (g.part (g.atom (p 2 2 15 16) (g.spelled (k.Name (codes "x") false))) (g.part (g.list (p 3 5 17 22) (g.part (g.atom (p 4 4 18 21) (g.spelled (k.Name (codes "foo") false))) g.none)) g.none))))) ∷ [])) ∷ []) ≡ ((q 0 0 1 31 (codes "bad form")) ∷ (q 0 0 1 104 (codes "no import, (scheme base) is used")) ∷ [])
unfolding base_names standard_libraries prelude encode_utf8
rules-of-another-head = refl

pub rules-dotted : diagnostic_rows (((s 0 1) ∷ (s 1 14) ∷ (s 15 16) ∷ (s 17 18) ∷ (s 18 30) ∷ (s 31 32) ∷ (s 32 33) ∷ (s 34 35) ∷ (s 36 37) ∷ (s 37 38) ∷ (s 38 39) ∷ []) ∷ []) ((Some (((g.list (p 0 10 0 39) (g.part (g.atom (p 1 1 1 14) (g.spelled (k.Name (codes "define-syntax") false))) (g.part (g.atom (p 2 2 15 16) (g.spelled (k.Name (codes "x") false))) (g.part (g.list (p 3 9 17 38) (g.part (g.atom (p 4 4 18 30) (g.spelled (k.Name (codes "syntax-rules") false))) (g.part (g.list (p 5 6 31 33) g.none) (g.tail (g.atom (p 8 8 36 37) (g.spelled (k.Name (codes "y") false))))))) g.none))))) ∷ [])) ∷ []) ≡ ((q 0 0 1 21 (codes "bad syntax-rules")) ∷ (q 0 0 1 104 (codes "no import, (scheme base) is used")) ∷ [])
unfolding base_names standard_libraries prelude encode_utf8
rules-dotted = refl

pub rules-no-list-of-a-keyword : diagnostic_rows (((s 0 1) ∷ (s 1 5) ∷ (s 6 7) ∷ (s 7 8) ∷ (s 9 10) ∷ (s 10 23) ∷ (s 24 28) ∷ (s 29 30) ∷ (s 30 31) ∷ []) ∷ []) ((Some (((g.list (p 0 3 0 8) (g.part (g.atom (p 1 1 1 5) (g.spelled (k.Name (codes "list") false))) (g.part (g.atom (p 2 2 6 7) (g.spelled (k.Numeral (codes "1")))) g.none)))) ∷ ((g.list (p 4 8 9 31) (g.part (g.atom (p 5 5 10 23) (g.spelled (k.Name (codes "define-syntax") false))) (g.part (g.atom (p 6 6 24 28) (g.spelled (k.Name (codes "list") false))) (g.part (g.atom (p 7 7 29 30) (g.spelled (k.Numeral (codes "5")))) g.none))))) ∷ [])) ∷ []) ≡ ((q 0 0 1 104 (codes "no import, (scheme base) is used")) ∷ (q 0 9 10 31 (codes "bad form")) ∷ [])
unfolding base_names standard_libraries prelude encode_utf8
rules-no-list-of-a-keyword = refl

pub random-115610 : diagnostic_rows (((s 0 1) ∷ (s 1 14) ∷ (s 15 16) ∷ (s 17 18) ∷ (s 18 30) ∷ (s 31 32) ∷ (s 32 33) ∷ (s 33 34) ∷ (s 35 36) ∷ (s 36 37) ∷ (s 37 38) ∷ (s 39 40) ∷ (s 40 41) ∷ (s 42 43) ∷ (s 43 44) ∷ (s 45 46) ∷ (s 46 47) ∷ (s 47 48) ∷ (s 49 50) ∷ (s 50 51) ∷ (s 52 53) ∷ (s 53 54) ∷ (s 55 56) ∷ (s 56 57) ∷ (s 57 58) ∷ (s 58 59) ∷ (s 59 60) ∷ (s 61 62) ∷ (s 62 63) ∷ (s 64 65) ∷ (s 65 66) ∷ (s 67 68) ∷ (s 68 74) ∷ (s 75 76) ∷ (s 77 78) ∷ (s 78 80) ∷ (s 81 82) ∷ (s 83 84) ∷ (s 84 85) ∷ (s 85 86) ∷ []) ∷ []) ((Some (((g.list (p 0 26 0 60) (g.part (g.atom (p 1 1 1 14) (g.spelled (k.Name (codes "define-syntax") false))) (g.part (g.atom (p 2 2 15 16) (g.spelled (k.Name (codes "m") false))) (g.part (g.list (p 3 25 17 59) (g.part (g.atom (p 4 4 18 30) (g.spelled (k.Name (codes "syntax-rules") false))) (g.part (g.list (p 5 7 31 34) (g.part (g.atom (p 6 6 32 33) (g.spelled (k.Name (codes "f") false))) g.none)) (g.part (g.list (p 8 14 35 44) (g.part (g.list (p 9 12 36 41) (g.part (g.atom (p 10 10 37 38) (g.spelled (k.Name (codes "_") false))) (g.part (g.atom (p 11 11 39 40) (g.spelled (k.Name (codes "f") false))) g.none))) (g.part (g.atom (p 13 13 42 43) (g.spelled (k.Name (codes "a") false))) g.none))) (g.part (g.list (p 15 24 45 58) (g.part (g.list (p 16 19 46 51) (g.part (g.atom (p 17 17 47 48) (g.spelled (k.Name (codes "_") false))) (g.part (g.atom (p 18 18 49 50) (g.spelled (k.Name (codes "v") false))) g.none))) (g.part (g.list (p 20 23 52 57) (g.part (g.atom (p 21 21 53 54) (g.spelled (k.Name (codes "f") false))) (g.part (g.atom (p 22 22 55 56) (g.spelled (k.Name (codes "n") false))) g.none))) g.none))) g.none))))) g.none))))) ∷ ((g.list (p 27 30 61 66) (g.part (g.atom (p 28 28 62 63) (g.spelled (k.Name (codes "m") false))) (g.part (g.atom (p 29 29 64 65) (g.spelled (k.Name (codes "f") false))) g.none)))) ∷ ((g.list (p 31 39 67 86) (g.part (g.atom (p 32 32 68 74) (g.spelled (k.Name (codes "define") false))) (g.part (g.atom (p 33 33 75 76) (g.spelled (k.Name (codes "f") false))) (g.part (g.list (p 34 38 77 85) (g.part (g.atom (p 35 35 78 80) (g.spelled (k.Name (codes "if") false))) (g.part (g.atom (p 36 36 81 82) (g.spelled (k.Numeral (codes "1")))) (g.part (g.atom (p 37 37 83 84) (g.spelled (k.Numeral (codes "1")))) g.none)))) g.none))))) ∷ [])) ∷ []) ≡ ((q 0 0 1 104 (codes "no import, (scheme base) is used")) ∷ (q 0 42 43 103 (codes "unbound a")) ∷ [])
unfolding base_names standard_libraries prelude encode_utf8
random-115610 = refl

pub random-141594 : diagnostic_rows (((s 0 1) ∷ (s 1 14) ∷ (s 15 16) ∷ (s 17 18) ∷ (s 18 30) ∷ (s 31 32) ∷ (s 32 33) ∷ (s 33 34) ∷ (s 35 36) ∷ (s 36 37) ∷ (s 37 38) ∷ (s 39 40) ∷ (s 40 41) ∷ (s 42 43) ∷ (s 43 44) ∷ (s 45 46) ∷ (s 46 47) ∷ (s 47 48) ∷ (s 48 49) ∷ (s 49 50) ∷ (s 51 52) ∷ (s 52 53) ∷ (s 54 55) ∷ (s 55 56) ∷ (s 57 58) ∷ (s 58 64) ∷ (s 65 66) ∷ (s 67 68) ∷ (s 68 70) ∷ (s 71 72) ∷ (s 72 76) ∷ (s 77 78) ∷ (s 79 80) ∷ (s 80 81) ∷ (s 82 83) ∷ (s 83 87) ∷ (s 88 89) ∷ (s 90 91) ∷ (s 91 92) ∷ (s 92 93) ∷ (s 93 94) ∷ []) ∷ []) ((Some (((g.list (p 0 19 0 50) (g.part (g.atom (p 1 1 1 14) (g.spelled (k.Name (codes "define-syntax") false))) (g.part (g.atom (p 2 2 15 16) (g.spelled (k.Name (codes "a") false))) (g.part (g.list (p 3 18 17 49) (g.part (g.atom (p 4 4 18 30) (g.spelled (k.Name (codes "syntax-rules") false))) (g.part (g.list (p 5 7 31 34) (g.part (g.atom (p 6 6 32 33) (g.spelled (k.Name (codes "f") false))) g.none)) (g.part (g.list (p 8 17 35 48) (g.part (g.list (p 9 12 36 41) (g.part (g.atom (p 10 10 37 38) (g.spelled (k.Name (codes "_") false))) (g.part (g.atom (p 11 11 39 40) (g.spelled (k.Name (codes "f") false))) g.none))) (g.part (g.list (p 13 16 42 47) (g.part (g.atom (p 14 14 43 44) (g.spelled (k.Name (codes "m") false))) (g.part (g.atom (p 15 15 45 46) (g.spelled (k.Name (codes "f") false))) g.none))) g.none))) g.none)))) g.none))))) ∷ ((g.list (p 20 23 51 56) (g.part (g.atom (p 21 21 52 53) (g.spelled (k.Name (codes "a") false))) (g.part (g.atom (p 22 22 54 55) (g.spelled (k.Name (codes "f") false))) g.none)))) ∷ ((g.list (p 24 40 57 94) (g.part (g.atom (p 25 25 58 64) (g.spelled (k.Name (codes "define") false))) (g.part (g.atom (p 26 26 65 66) (g.spelled (k.Name (codes "f") false))) (g.part (g.list (p 27 39 67 93) (g.part (g.atom (p 28 28 68 70) (g.spelled (k.Name (codes "if") false))) (g.part (g.list (p 29 33 71 81) (g.part (g.atom (p 30 30 72 76) (g.spelled (k.Name (codes "list") false))) (g.part (g.atom (p 31 31 77 78) (g.spelled (k.Numeral (codes "1")))) (g.part (g.atom (p 32 32 79 80) (g.spelled (k.Name (codes "a") false))) g.none)))) (g.part (g.list (p 34 38 82 92) (g.part (g.atom (p 35 35 83 87) (g.spelled (k.Name (codes "list") false))) (g.part (g.atom (p 36 36 88 89) (g.spelled (k.Name (codes "f") false))) (g.part (g.atom (p 37 37 90 91) (g.spelled (k.Name (codes "n") false))) g.none)))) g.none)))) g.none))))) ∷ [])) ∷ []) ≡ ((q 0 0 1 104 (codes "no import, (scheme base) is used")) ∷ (q 0 43 44 103 (codes "unbound m")) ∷ (q 0 79 80 43 (codes "keyword used as value a")) ∷ [])
unfolding base_names standard_libraries prelude encode_utf8
random-141594 = refl

pub random-80231 : diagnostic_rows (((s 0 1) ∷ (s 1 2) ∷ (s 3 4) ∷ (s 4 17) ∷ (s 18 19) ∷ (s 20 21) ∷ (s 21 22) ∷ (s 22 23) ∷ (s 24 25) ∷ (s 25 38) ∷ (s 39 40) ∷ (s 41 42) ∷ (s 42 54) ∷ (s 55 56) ∷ (s 56 57) ∷ (s 57 58) ∷ (s 59 60) ∷ (s 60 61) ∷ (s 61 62) ∷ (s 63 64) ∷ (s 64 65) ∷ (s 66 67) ∷ (s 67 72) ∷ (s 73 74) ∷ (s 74 75) ∷ (s 76 77) ∷ (s 77 78) ∷ (s 79 80) ∷ (s 80 86) ∷ (s 87 88) ∷ (s 89 90) ∷ (s 90 91) ∷ (s 91 92) ∷ (s 92 93) ∷ (s 93 94) ∷ (s 94 95) ∷ (s 96 97) ∷ (s 97 98) ∷ (s 99 100) ∷ (s 100 101) ∷ []) ∷ []) ((Some (((g.list (p 0 7 0 23) (g.part (g.atom (p 1 1 1 2) (g.spelled (k.Name (codes "m") false))) (g.part (g.list (p 2 6 3 22) (g.part (g.atom (p 3 3 4 17) (g.spelled (k.Name (codes "define-syntax") false))) (g.part (g.atom (p 4 4 18 19) (g.spelled (k.Name (codes "a") false))) (g.part (g.atom (p 5 5 20 21) (g.spelled (k.Numeral (codes "5")))) g.none)))) g.none)))) ∷ ((g.list (p 8 35 24 95) (g.part (g.atom (p 9 9 25 38) (g.spelled (k.Name (codes "define-syntax") false))) (g.part (g.atom (p 10 10 39 40) (g.spelled (k.Name (codes "k") false))) (g.part (g.list (p 11 34 41 94) (g.part (g.atom (p 12 12 42 54) (g.spelled (k.Name (codes "syntax-rules") false))) (g.part (g.list (p 13 15 55 58) (g.part (g.atom (p 14 14 56 57) (g.spelled (k.Name (codes "k") false))) g.none)) (g.part (g.list (p 16 33 59 93) (g.part (g.list (p 17 20 60 65) (g.part (g.atom (p 18 18 61 62) (g.spelled (k.Name (codes "_") false))) (g.part (g.atom (p 19 19 63 64) (g.spelled (k.Name (codes "k") false))) g.none))) (g.part (g.list (p 21 32 66 92) (g.part (g.atom (p 22 22 67 72) (g.spelled (k.Name (codes "begin") false))) (g.part (g.list (p 23 26 73 78) (g.part (g.atom (p 24 24 74 75) (g.spelled (k.Name (codes "f") false))) (g.part (g.atom (p 25 25 76 77) (g.spelled (k.Name (codes "f") false))) g.none))) (g.part (g.list (p 27 31 79 91) (g.part (g.atom (p 28 28 80 86) (g.spelled (k.Name (codes "define") false))) (g.part (g.atom (p 29 29 87 88) (g.spelled (k.Name (codes "m") false))) (g.part (g.atom (p 30 30 89 90) (g.spelled (k.Numeral (codes "1")))) g.none)))) g.none)))) g.none))) g.none)))) g.none))))) ∷ ((g.list (p 36 39 96 101) (g.part (g.atom (p 37 37 97 98) (g.spelled (k.Name (codes "k") false))) (g.part (g.atom (p 38 38 99 100) (g.spelled (k.Name (codes "k") false))) g.none)))) ∷ [])) ∷ []) ≡ ((q 0 0 1 104 (codes "no import, (scheme base) is used")) ∷ (q 0 3 4 31 (codes "bad form")) ∷ (q 0 74 75 103 (codes "unbound f")) ∷ (q 0 76 77 103 (codes "unbound f")) ∷ [])
unfolding base_names standard_libraries prelude encode_utf8
random-80231 = refl

pub random-49957 : diagnostic_rows (((s 0 1) ∷ (s 1 14) ∷ (s 15 16) ∷ (s 17 18) ∷ (s 18 30) ∷ (s 31 32) ∷ (s 32 33) ∷ (s 33 34) ∷ (s 35 36) ∷ (s 36 37) ∷ (s 37 38) ∷ (s 39 40) ∷ (s 40 41) ∷ (s 42 43) ∷ (s 43 44) ∷ (s 45 46) ∷ (s 46 47) ∷ (s 47 48) ∷ (s 49 50) ∷ (s 50 51) ∷ (s 52 53) ∷ (s 53 59) ∷ (s 60 61) ∷ (s 62 63) ∷ (s 63 64) ∷ (s 64 65) ∷ (s 65 66) ∷ (s 66 67) ∷ (s 68 69) ∷ (s 69 70) ∷ (s 71 72) ∷ (s 72 73) ∷ (s 74 75) ∷ (s 75 81) ∷ (s 82 83) ∷ (s 84 85) ∷ (s 85 90) ∷ (s 91 92) ∷ (s 92 93) ∷ (s 94 95) ∷ (s 95 96) ∷ (s 97 98) ∷ (s 98 99) ∷ (s 100 101) ∷ (s 101 102) ∷ (s 102 103) ∷ (s 103 104) ∷ []) ∷ []) ((Some (((g.list (p 0 27 0 67) (g.part (g.atom (p 1 1 1 14) (g.spelled (k.Name (codes "define-syntax") false))) (g.part (g.atom (p 2 2 15 16) (g.spelled (k.Name (codes "m") false))) (g.part (g.list (p 3 26 17 66) (g.part (g.atom (p 4 4 18 30) (g.spelled (k.Name (codes "syntax-rules") false))) (g.part (g.list (p 5 7 31 34) (g.part (g.atom (p 6 6 32 33) (g.spelled (k.Name (codes "f") false))) g.none)) (g.part (g.list (p 8 14 35 44) (g.part (g.list (p 9 12 36 41) (g.part (g.atom (p 10 10 37 38) (g.spelled (k.Name (codes "_") false))) (g.part (g.atom (p 11 11 39 40) (g.spelled (k.Name (codes "f") false))) g.none))) (g.part (g.atom (p 13 13 42 43) (g.spelled (k.Name (codes "k") false))) g.none))) (g.part (g.list (p 15 25 45 65) (g.part (g.list (p 16 19 46 51) (g.part (g.atom (p 17 17 47 48) (g.spelled (k.Name (codes "_") false))) (g.part (g.atom (p 18 18 49 50) (g.spelled (k.Name (codes "f") false))) g.none))) (g.part (g.list (p 20 24 52 64) (g.part (g.atom (p 21 21 53 59) (g.spelled (k.Name (codes "define") false))) (g.part (g.atom (p 22 22 60 61) (g.spelled (k.Name (codes "n") false))) (g.part (g.atom (p 23 23 62 63) (g.spelled (k.Name (codes "f") false))) g.none)))) g.none))) g.none))))) g.none))))) ∷ ((g.list (p 28 31 68 73) (g.part (g.atom (p 29 29 69 70) (g.spelled (k.Name (codes "m") false))) (g.part (g.atom (p 30 30 71 72) (g.spelled (k.Name (codes "f") false))) g.none)))) ∷ ((g.list (p 32 46 74 104) (g.part (g.atom (p 33 33 75 81) (g.spelled (k.Name (codes "define") false))) (g.part (g.atom (p 34 34 82 83) (g.spelled (k.Name (codes "f") false))) (g.part (g.list (p 35 45 84 103) (g.part (g.atom (p 36 36 85 90) (g.spelled (k.Name (codes "begin") false))) (g.part (g.list (p 37 40 91 96) (g.part (g.atom (p 38 38 92 93) (g.spelled (k.Name (codes "a") false))) (g.part (g.atom (p 39 39 94 95) (g.spelled (k.Name (codes "n") false))) g.none))) (g.part (g.list (p 41 44 97 102) (g.part (g.atom (p 42 42 98 99) (g.spelled (k.Name (codes "a") false))) (g.part (g.atom (p 43 43 100 101) (g.spelled (k.Name (codes "k") false))) g.none))) g.none)))) g.none))))) ∷ [])) ∷ []) ≡ ((q 0 0 1 104 (codes "no import, (scheme base) is used")) ∷ (q 0 42 43 103 (codes "unbound k")) ∷ (q 0 92 93 103 (codes "unbound a")) ∷ (q 0 94 95 103 (codes "unbound n")) ∷ (q 0 98 99 103 (codes "unbound a")) ∷ (q 0 100 101 103 (codes "unbound k")) ∷ [])
unfolding base_names standard_libraries prelude encode_utf8
random-49957 = refl

pub random-186777 : diagnostic_rows (((s 0 1) ∷ (s 1 6) ∷ (s 7 8) ∷ (s 8 21) ∷ (s 22 23) ∷ (s 24 25) ∷ (s 25 37) ∷ (s 38 39) ∷ (s 39 40) ∷ (s 41 42) ∷ (s 42 43) ∷ (s 44 45) ∷ (s 45 46) ∷ (s 46 47) ∷ (s 47 48) ∷ (s 49 50) ∷ (s 50 56) ∷ (s 57 58) ∷ (s 59 60) ∷ (s 60 61) ∷ (s 61 62) ∷ (s 63 64) ∷ (s 64 65) ∷ (s 65 66) ∷ (s 67 68) ∷ (s 68 69) ∷ (s 70 71) ∷ (s 71 75) ∷ (s 76 77) ∷ (s 78 79) ∷ (s 79 80) ∷ (s 80 81) ∷ (s 81 82) ∷ (s 82 83) ∷ (s 84 85) ∷ (s 85 86) ∷ (s 87 88) ∷ (s 88 89) ∷ (s 89 90) ∷ (s 91 92) ∷ (s 92 105) ∷ (s 106 107) ∷ (s 107 108) ∷ (s 109 110) ∷ (s 110 111) ∷ (s 112 113) ∷ (s 113 117) ∷ (s 118 119) ∷ (s 120 121) ∷ (s 121 122) ∷ (s 122 123) ∷ []) ∷ []) ((Some (((g.list (p 0 38 0 90) (g.part (g.atom (p 1 1 1 6) (g.spelled (k.Name (codes "begin") false))) (g.part (g.list (p 2 33 7 83) (g.part (g.atom (p 3 3 8 21) (g.spelled (k.Name (codes "define-syntax") false))) (g.part (g.atom (p 4 4 22 23) (g.spelled (k.Name (codes "n") false))) (g.part (g.list (p 5 32 24 82) (g.part (g.atom (p 6 6 25 37) (g.spelled (k.Name (codes "syntax-rules") false))) (g.part (g.list (p 7 10 38 43) (g.part (g.atom (p 8 8 39 40) (g.spelled (k.Name (codes "f") false))) (g.part (g.atom (p 9 9 41 42) (g.spelled (k.Name (codes "m") false))) g.none))) (g.part (g.list (p 11 20 44 62) (g.part (g.list (p 12 14 45 48) (g.part (g.atom (p 13 13 46 47) (g.spelled (k.Name (codes "_") false))) g.none)) (g.part (g.list (p 15 19 49 61) (g.part (g.atom (p 16 16 50 56) (g.spelled (k.Name (codes "define") false))) (g.part (g.atom (p 17 17 57 58) (g.spelled (k.Name (codes "n") false))) (g.part (g.atom (p 18 18 59 60) (g.spelled (k.Name (codes "f") false))) g.none)))) g.none))) (g.part (g.list (p 21 31 63 81) (g.part (g.list (p 22 25 64 69) (g.part (g.atom (p 23 23 65 66) (g.spelled (k.Name (codes "_") false))) (g.part (g.atom (p 24 24 67 68) (g.spelled (k.Name (codes "f") false))) g.none))) (g.part (g.list (p 26 30 70 80) (g.part (g.atom (p 27 27 71 75) (g.spelled (k.Name (codes "list") false))) (g.part (g.atom (p 28 28 76 77) (g.spelled (k.Name (codes "m") false))) (g.part (g.atom (p 29 29 78 79) (g.spelled (k.Name (codes "a") false))) g.none)))) g.none))) g.none))))) g.none)))) (g.part (g.list (p 34 37 84 89) (g.part (g.atom (p 35 35 85 86) (g.spelled (k.Name (codes "n") false))) (g.part (g.atom (p 36 36 87 88) (g.spelled (k.Name (codes "f") false))) g.none))) g.none))))) ∷ ((g.list (p 39 50 91 123) (g.part (g.atom (p 40 40 92 105) (g.spelled (k.Name (codes "define-values") false))) (g.part (g.list (p 41 44 106 111) (g.part (g.atom (p 42 42 107 108) (g.spelled (k.Name (codes "f") false))) (g.part (g.atom (p 43 43 109 110) (g.spelled (k.Name (codes "m") false))) g.none))) (g.part (g.list (p 45 49 112 122) (g.part (g.atom (p 46 46 113 117) (g.spelled (k.Name (codes "list") false))) (g.part (g.atom (p 47 47 118 119) (g.spelled (k.Numeral (codes "1")))) (g.part (g.atom (p 48 48 120 121) (g.spelled (k.Name (codes "a") false))) g.none)))) g.none))))) ∷ [])) ∷ []) ≡ ((q 0 0 1 104 (codes "no import, (scheme base) is used")) ∷ (q 0 78 79 103 (codes "unbound a")) ∷ (q 0 120 121 103 (codes "unbound a")) ∷ [])
unfolding base_names standard_libraries prelude encode_utf8
random-186777 = refl

pub random-119149 : diagnostic_rows (((s 0 1) ∷ (s 1 6) ∷ (s 7 8) ∷ (s 8 21) ∷ (s 22 23) ∷ (s 24 25) ∷ (s 25 37) ∷ (s 38 39) ∷ (s 39 40) ∷ (s 40 41) ∷ (s 42 43) ∷ (s 43 44) ∷ (s 44 45) ∷ (s 46 47) ∷ (s 48 49) ∷ (s 49 50) ∷ (s 51 52) ∷ (s 52 57) ∷ (s 58 59) ∷ (s 59 65) ∷ (s 66 67) ∷ (s 68 69) ∷ (s 69 70) ∷ (s 71 72) ∷ (s 72 73) ∷ (s 74 75) ∷ (s 75 76) ∷ (s 76 77) ∷ (s 77 78) ∷ (s 79 80) ∷ (s 80 81) ∷ (s 81 82) ∷ (s 83 84) ∷ (s 84 85) ∷ (s 86 87) ∷ (s 87 91) ∷ (s 92 93) ∷ (s 94 95) ∷ (s 95 96) ∷ (s 96 97) ∷ (s 97 98) ∷ (s 98 99) ∷ (s 100 101) ∷ (s 101 102) ∷ (s 103 104) ∷ (s 105 106) ∷ (s 106 107) ∷ (s 107 108) ∷ (s 109 110) ∷ (s 110 111) ∷ (s 112 113) ∷ (s 113 114) ∷ (s 115 116) ∷ (s 116 129) ∷ (s 130 131) ∷ (s 131 132) ∷ (s 133 134) ∷ (s 134 135) ∷ (s 136 137) ∷ (s 137 138) ∷ []) ∷ []) ((Some (((g.list (p 0 47 0 108) (g.part (g.atom (p 1 1 1 6) (g.spelled (k.Name (codes "begin") false))) (g.part (g.list (p 2 41 7 99) (g.part (g.atom (p 3 3 8 21) (g.spelled (k.Name (codes "define-syntax") false))) (g.part (g.atom (p 4 4 22 23) (g.spelled (k.Name (codes "m") false))) (g.part (g.list (p 5 40 24 98) (g.part (g.atom (p 6 6 25 37) (g.spelled (k.Name (codes "syntax-rules") false))) (g.part (g.list (p 7 9 38 41) (g.part (g.atom (p 8 8 39 40) (g.spelled (k.Name (codes "a") false))) g.none)) (g.part (g.list (p 10 28 42 78) (g.part (g.list (p 11 15 43 50) (g.part (g.atom (p 12 12 44 45) (g.spelled (k.Name (codes "_") false))) (g.part (g.atom (p 13 13 46 47) (g.spelled (k.Name (codes "a") false))) (g.part (g.atom (p 14 14 48 49) (g.spelled (k.Name (codes "w") false))) g.none)))) (g.part (g.list (p 16 27 51 77) (g.part (g.atom (p 17 17 52 57) (g.spelled (k.Name (codes "begin") false))) (g.part (g.list (p 18 22 58 70) (g.part (g.atom (p 19 19 59 65) (g.spelled (k.Name (codes "define") false))) (g.part (g.atom (p 20 20 66 67) (g.spelled (k.Name (codes "n") false))) (g.part (g.atom (p 21 21 68 69) (g.spelled (k.Numeral (codes "1")))) g.none)))) (g.part (g.list (p 23 26 71 76) (g.part (g.atom (p 24 24 72 73) (g.spelled (k.Name (codes "f") false))) (g.part (g.atom (p 25 25 74 75) (g.spelled (k.Name (codes "n") false))) g.none))) g.none)))) g.none))) (g.part (g.list (p 29 39 79 97) (g.part (g.list (p 30 33 80 85) (g.part (g.atom (p 31 31 81 82) (g.spelled (k.Name (codes "_") false))) (g.part (g.atom (p 32 32 83 84) (g.spelled (k.Name (codes "a") false))) g.none))) (g.part (g.list (p 34 38 86 96) (g.part (g.atom (p 35 35 87 91) (g.spelled (k.Name (codes "list") false))) (g.part (g.atom (p 36 36 92 93) (g.spelled (k.Name (codes "k") false))) (g.part (g.atom (p 37 37 94 95) (g.spelled (k.Name (codes "n") false))) g.none)))) g.none))) g.none))))) g.none)))) (g.part (g.list (p 42 46 100 107) (g.part (g.atom (p 43 43 101 102) (g.spelled (k.Name (codes "k") false))) (g.part (g.atom (p 44 44 103 104) (g.spelled (k.Name (codes "a") false))) (g.part (g.atom (p 45 45 105 106) (g.spelled (k.Name (codes "n") false))) g.none)))) g.none))))) ∷ ((g.list (p 48 51 109 114) (g.part (g.atom (p 49 49 110 111) (g.spelled (k.Name (codes "m") false))) (g.part (g.atom (p 50 50 112 113) (g.spelled (k.Name (codes "a") false))) g.none)))) ∷ ((g.list (p 52 59 115 138) (g.part (g.atom (p 53 53 116 129) (g.spelled (k.Name (codes "define-values") false))) (g.part (g.list (p 54 57 130 135) (g.part (g.atom (p 55 55 131 132) (g.spelled (k.Name (codes "a") false))) (g.part (g.atom (p 56 56 133 134) (g.spelled (k.Name (codes "k") false))) g.none))) (g.part (g.atom (p 58 58 136 137) (g.spelled (k.Name (codes "f") false))) g.none))))) ∷ [])) ∷ []) ≡ ((q 0 0 1 104 (codes "no import, (scheme base) is used")) ∷ (q 0 94 95 103 (codes "unbound n")) ∷ (q 0 105 106 103 (codes "unbound n")) ∷ (q 0 136 137 103 (codes "unbound f")) ∷ [])
unfolding base_names standard_libraries prelude encode_utf8
random-119149 = refl

pub random-144289 : diagnostic_rows (((s 0 1) ∷ (s 1 14) ∷ (s 15 16) ∷ (s 17 18) ∷ (s 18 30) ∷ (s 31 32) ∷ (s 32 33) ∷ (s 33 34) ∷ (s 35 36) ∷ (s 36 37) ∷ (s 37 38) ∷ (s 39 40) ∷ (s 40 41) ∷ (s 42 43) ∷ (s 43 44) ∷ (s 45 46) ∷ (s 46 47) ∷ (s 47 48) ∷ (s 49 50) ∷ (s 50 51) ∷ (s 51 52) ∷ (s 52 53) ∷ (s 54 55) ∷ (s 55 60) ∷ (s 61 62) ∷ (s 62 63) ∷ (s 64 65) ∷ (s 65 66) ∷ (s 67 68) ∷ (s 68 74) ∷ (s 75 76) ∷ (s 77 78) ∷ (s 78 79) ∷ (s 79 80) ∷ (s 80 81) ∷ (s 81 82) ∷ (s 82 83) ∷ (s 84 85) ∷ (s 85 86) ∷ (s 87 88) ∷ (s 88 89) ∷ (s 90 91) ∷ (s 91 92) ∷ (s 93 94) ∷ (s 94 95) ∷ (s 96 97) ∷ (s 97 110) ∷ (s 111 112) ∷ (s 113 114) ∷ (s 114 126) ∷ (s 127 128) ∷ (s 128 129) ∷ (s 129 130) ∷ (s 131 132) ∷ (s 132 133) ∷ (s 133 134) ∷ (s 135 136) ∷ (s 136 137) ∷ (s 137 138) ∷ (s 138 139) ∷ (s 140 141) ∷ (s 141 142) ∷ (s 142 143) ∷ (s 143 144) ∷ []) ∷ []) ((Some (((g.list (p 0 36 0 83) (g.part (g.atom (p 1 1 1 14) (g.spelled (k.Name (codes "define-syntax") false))) (g.part (g.atom (p 2 2 15 16) (g.spelled (k.Name (codes "k") false))) (g.part (g.list (p 3 35 17 82) (g.part (g.atom (p 4 4 18 30) (g.spelled (k.Name (codes "syntax-rules") false))) (g.part (g.list (p 5 7 31 34) (g.part (g.atom (p 6 6 32 33) (g.spelled (k.Name (codes "n") false))) g.none)) (g.part (g.list (p 8 14 35 44) (g.part (g.list (p 9 12 36 41) (g.part (g.atom (p 10 10 37 38) (g.spelled (k.Name (codes "_") false))) (g.part (g.atom (p 11 11 39 40) (g.spelled (k.Name (codes "n") false))) g.none))) (g.part (g.atom (p 13 13 42 43) (g.spelled (k.Name (codes "a") false))) g.none))) (g.part (g.list (p 15 34 45 81) (g.part (g.list (p 16 21 46 53) (g.part (g.atom (p 17 17 47 48) (g.spelled (k.Name (codes "_") false))) (g.part (g.list (p 18 20 49 52) (g.part (g.atom (p 19 19 50 51) (g.spelled (k.Name (codes "n") false))) g.none)) g.none))) (g.part (g.list (p 22 33 54 80) (g.part (g.atom (p 23 23 55 60) (g.spelled (k.Name (codes "begin") false))) (g.part (g.list (p 24 27 61 66) (g.part (g.atom (p 25 25 62 63) (g.spelled (k.Name (codes "k") false))) (g.part (g.atom (p 26 26 64 65) (g.spelled (k.Name (codes "m") false))) g.none))) (g.part (g.list (p 28 32 67 79) (g.part (g.atom (p 29 29 68 74) (g.spelled (k.Name (codes "define") false))) (g.part (g.atom (p 30 30 75 76) (g.spelled (k.Name (codes "k") false))) (g.part (g.atom (p 31 31 77 78) (g.spelled (k.Name (codes "k") false))) g.none)))) g.none)))) g.none))) g.none))))) g.none))))) ∷ ((g.list (p 37 40 84 89) (g.part (g.atom (p 38 38 85 86) (g.spelled (k.Name (codes "k") false))) (g.part (g.atom (p 39 39 87 88) (g.spelled (k.Name (codes "n") false))) g.none)))) ∷ ((g.list (p 41 44 90 95) (g.part (g.atom (p 42 42 91 92) (g.spelled (k.Name (codes "a") false))) (g.part (g.atom (p 43 43 93 94) (g.spelled (k.Name (codes "f") false))) g.none)))) ∷ ((g.list (p 45 63 96 144) (g.part (g.atom (p 46 46 97 110) (g.spelled (k.Name (codes "define-syntax") false))) (g.part (g.atom (p 47 47 111 112) (g.spelled (k.Name (codes "n") false))) (g.part (g.list (p 48 62 113 143) (g.part (g.atom (p 49 49 114 126) (g.spelled (k.Name (codes "syntax-rules") false))) (g.part (g.list (p 50 52 127 130) (g.part (g.atom (p 51 51 128 129) (g.spelled (k.Name (codes "k") false))) g.none)) (g.part (g.list (p 53 61 131 142) (g.part (g.list (p 54 59 132 139) (g.part (g.atom (p 55 55 133 134) (g.spelled (k.Name (codes "_") false))) (g.part (g.list (p 56 58 135 138) (g.part (g.atom (p 57 57 136 137) (g.spelled (k.Name (codes "k") false))) g.none)) g.none))) (g.part (g.atom (p 60 60 140 141) (g.spelled (k.Numeral (codes "1")))) g.none))) g.none)))) g.none))))) ∷ [])) ∷ []) ≡ ((q 0 0 1 104 (codes "no import, (scheme base) is used")) ∷ (q 0 42 43 103 (codes "unbound a")) ∷ (q 0 91 92 103 (codes "unbound a")) ∷ (q 0 93 94 103 (codes "unbound f")) ∷ [])
unfolding base_names standard_libraries prelude encode_utf8
random-144289 = refl

pub random-44664 : diagnostic_rows (((s 0 1) ∷ (s 1 2) ∷ (s 2 3) ∷ (s 4 5) ∷ (s 5 18) ∷ (s 19 20) ∷ (s 21 22) ∷ (s 22 34) ∷ (s 35 36) ∷ (s 36 37) ∷ (s 37 38) ∷ (s 39 40) ∷ (s 40 41) ∷ (s 41 42) ∷ (s 43 44) ∷ (s 44 45) ∷ (s 46 47) ∷ (s 47 53) ∷ (s 54 55) ∷ (s 56 57) ∷ (s 57 58) ∷ (s 58 59) ∷ (s 59 60) ∷ (s 60 61) ∷ (s 62 63) ∷ (s 63 64) ∷ (s 65 66) ∷ (s 66 67) ∷ (s 68 69) ∷ (s 69 82) ∷ (s 83 84) ∷ (s 85 86) ∷ (s 86 98) ∷ (s 99 100) ∷ (s 100 101) ∷ (s 102 103) ∷ (s 103 104) ∷ (s 105 106) ∷ (s 106 107) ∷ (s 107 108) ∷ (s 108 109) ∷ (s 110 111) ∷ (s 111 116) ∷ (s 117 118) ∷ (s 118 119) ∷ (s 120 121) ∷ (s 121 122) ∷ (s 123 124) ∷ (s 124 130) ∷ (s 131 132) ∷ (s 133 134) ∷ (s 134 135) ∷ (s 135 136) ∷ (s 136 137) ∷ (s 138 139) ∷ (s 139 140) ∷ (s 140 141) ∷ (s 142 143) ∷ (s 143 144) ∷ (s 145 146) ∷ (s 146 147) ∷ (s 147 148) ∷ (s 148 149) ∷ []) ∷ []) ((Some (((g.list (p 0 2 0 3) (g.part (g.atom (p 1 1 1 2) (g.spelled (k.Name (codes "a") false))) g.none))) ∷ ((g.list (p 3 23 4 61) (g.part (g.atom (p 4 4 5 18) (g.spelled (k.Name (codes "define-syntax") false))) (g.part (g.atom (p 5 5 19 20) (g.spelled (k.Name (codes "k") false))) (g.part (g.list (p 6 22 21 60) (g.part (g.atom (p 7 7 22 34) (g.spelled (k.Name (codes "syntax-rules") false))) (g.part (g.list (p 8 10 35 38) (g.part (g.atom (p 9 9 36 37) (g.spelled (k.Name (codes "n") false))) g.none)) (g.part (g.list (p 11 21 39 59) (g.part (g.list (p 12 15 40 45) (g.part (g.atom (p 13 13 41 42) (g.spelled (k.Name (codes "_") false))) (g.part (g.atom (p 14 14 43 44) (g.spelled (k.Name (codes "n") false))) g.none))) (g.part (g.list (p 16 20 46 58) (g.part (g.atom (p 17 17 47 53) (g.spelled (k.Name (codes "define") false))) (g.part (g.atom (p 18 18 54 55) (g.spelled (k.Name (codes "m") false))) (g.part (g.atom (p 19 19 56 57) (g.spelled (k.Numeral (codes "1")))) g.none)))) g.none))) g.none)))) g.none))))) ∷ ((g.list (p 24 27 62 67) (g.part (g.atom (p 25 25 63 64) (g.spelled (k.Name (codes "k") false))) (g.part (g.atom (p 26 26 65 66) (g.spelled (k.Name (codes "n") false))) g.none)))) ∷ ((g.list (p 28 62 68 149) (g.part (g.atom (p 29 29 69 82) (g.spelled (k.Name (codes "define-syntax") false))) (g.part (g.atom (p 30 30 83 84) (g.spelled (k.Name (codes "n") false))) (g.part (g.list (p 31 61 85 148) (g.part (g.atom (p 32 32 86 98) (g.spelled (k.Name (codes "syntax-rules") false))) (g.part (g.list (p 33 36 99 104) (g.part (g.atom (p 34 34 100 101) (g.spelled (k.Name (codes "a") false))) (g.part (g.atom (p 35 35 102 103) (g.spelled (k.Name (codes "k") false))) g.none))) (g.part (g.list (p 37 53 105 137) (g.part (g.list (p 38 40 106 109) (g.part (g.atom (p 39 39 107 108) (g.spelled (k.Name (codes "_") false))) g.none)) (g.part (g.list (p 41 52 110 136) (g.part (g.atom (p 42 42 111 116) (g.spelled (k.Name (codes "begin") false))) (g.part (g.list (p 43 46 117 122) (g.part (g.atom (p 44 44 118 119) (g.spelled (k.Name (codes "n") false))) (g.part (g.atom (p 45 45 120 121) (g.spelled (k.Name (codes "k") false))) g.none))) (g.part (g.list (p 47 51 123 135) (g.part (g.atom (p 48 48 124 130) (g.spelled (k.Name (codes "define") false))) (g.part (g.atom (p 49 49 131 132) (g.spelled (k.Name (codes "m") false))) (g.part (g.atom (p 50 50 133 134) (g.spelled (k.Name (codes "n") false))) g.none)))) g.none)))) g.none))) (g.part (g.list (p 54 60 138 147) (g.part (g.list (p 55 58 139 144) (g.part (g.atom (p 56 56 140 141) (g.spelled (k.Name (codes "_") false))) (g.part (g.atom (p 57 57 142 143) (g.spelled (k.Name (codes "v") false))) g.none))) (g.part (g.atom (p 59 59 145 146) (g.spelled (k.Numeral (codes "1")))) g.none))) g.none))))) g.none))))) ∷ [])) ∷ []) ≡ ((q 0 0 1 104 (codes "no import, (scheme base) is used")) ∷ (q 0 1 2 103 (codes "unbound a")) ∷ [])
unfolding base_names standard_libraries prelude encode_utf8
random-44664 = refl
