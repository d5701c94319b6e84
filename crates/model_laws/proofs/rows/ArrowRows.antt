-- Open documents and their arrows, from outside.
-- Written by tests/definitions/rows; each row is checked by computing it.
use Rattle.std.specs.Prelude.{◌≡◌, ℕ, true, false, List, [], ◌∷◌, Some, codes, refl}
use Rattle.scheme_model.specs.StandardNames.{base_names}
use Rattle.scheme_model.proofs.Shown.{ArrowRow, arrow_rows}
use Rattle.std.specs.Char.{encode_utf8}
use Rattle.scheme_model.specs.StandardLibraries.{standard_libraries}
use Rattle.scheme_model.specs.Prelude.{prelude}
use Rattle.scheme_model.specs.Kinds as k
use Rattle.scheme_model.specs.Data as g
use Rattle.scheme_model.specs.Diagnostics.{Span, Bytes, Diagnostic}

abbrev s : ℕ → ℕ → Span
s start end = record { start = start; end = end }

abbrev p : ℕ → ℕ → ℕ → ℕ → g.Place
p first last start end = record { first = first; last = last; start = start; end = end }

abbrev b : ℕ → ℕ → ℕ → Bytes
b document start end = record { document = document; span = record { start = start; end = end } }

abbrev a : Bytes → Bytes → ArrowRow
a binder target = record { binder = binder; target = target }

abbrev q : ℕ → ℕ → ℕ → ℕ → List ℕ → Diagnostic
q document start end code text = record { document = document; start = start; end = end; code = code; text = text }

pub macros-14 : arrow_rows (((s 0 1) ∷ (s 1 7) ∷ (s 8 9) ∷ (s 9 15) ∷ (s 16 20) ∷ (s 20 21) ∷ (s 22 23) ∷ (s 23 29) ∷ (s 30 41) ∷ (s 41 42) ∷ (s 42 43) ∷ (s 44 45) ∷ (s 45 58) ∷ (s 59 60) ∷ (s 60 61) ∷ (s 61 62) ∷ (s 63 64) ∷ (s 64 76) ∷ (s 77 80) ∷ (s 81 82) ∷ (s 82 83) ∷ (s 84 85) ∷ (s 85 86) ∷ (s 86 87) ∷ (s 88 89) ∷ (s 90 91) ∷ (s 91 92) ∷ (s 92 93) ∷ (s 94 95) ∷ (s 95 96) ∷ (s 96 97) ∷ (s 97 98) ∷ (s 98 99) ∷ (s 99 100) ∷ (s 101 102) ∷ (s 102 103) ∷ (s 103 104) ∷ (s 105 106) ∷ (s 106 112) ∷ (s 113 114) ∷ (s 114 115) ∷ (s 116 117) ∷ (s 117 118) ∷ (s 119 120) ∷ (s 120 124) ∷ (s 125 126) ∷ (s 127 128) ∷ (s 128 129) ∷ (s 129 130) ∷ (s 130 131) ∷ (s 132 133) ∷ (s 133 139) ∷ (s 140 141) ∷ (s 142 143) ∷ (s 143 146) ∷ (s 146 147) ∷ []) ∷ []) ((Some (((g.list (p 0 10 0 43) (g.part (g.atom (p 1 1 1 7) (g.spelled (k.Name (codes "import") false))) (g.part (g.list (p 2 5 8 21) (g.part (g.atom (p 3 3 9 15) (g.spelled (k.Name (codes "scheme") false))) (g.part (g.atom (p 4 4 16 20) (g.spelled (k.Name (codes "base") false))) g.none))) (g.part (g.list (p 6 9 22 42) (g.part (g.atom (p 7 7 23 29) (g.spelled (k.Name (codes "scheme") false))) (g.part (g.atom (p 8 8 30 41) (g.spelled (k.Name (codes "case-lambda") false))) g.none))) g.none))))) ∷ ((g.list (p 11 49 44 131) (g.part (g.atom (p 12 12 45 58) (g.spelled (k.Name (codes "letrec-syntax") false))) (g.part (g.list (p 13 33 59 100) (g.part (g.list (p 14 32 60 99) (g.part (g.atom (p 15 15 61 62) (g.spelled (k.Name (codes "k") false))) (g.part (g.list (p 16 31 63 98) (g.part (g.atom (p 17 17 64 76) (g.spelled (k.Name (codes "syntax-rules") false))) (g.part (g.atom (p 18 18 77 80) (g.spelled (k.Name (codes ":::") false))) (g.part (g.list (p 19 20 81 83) g.none) (g.part (g.list (p 21 30 84 97) (g.part (g.list (p 22 24 85 89) (g.part (g.atom (p 23 23 86 87) (g.spelled (k.Name (codes "_") false))) g.none)) (g.part (g.list (p 25 29 90 96) (g.part (g.atom (p 25 25 90 91) (g.implied k.Quote)) (g.part (g.list (p 26 29 91 96) (g.part (g.atom (p 27 27 92 93) (g.spelled (k.Name (codes "t") false))) (g.part (g.atom (p 28 28 94 95) (g.spelled (k.Name (codes "f") false))) g.none))) g.none))) g.none))) g.none))))) g.none))) g.none)) (g.part (g.list (p 34 36 101 104) (g.part (g.atom (p 35 35 102 103) (g.spelled (k.Name (codes "q") false))) g.none)) (g.part (g.list (p 37 48 105 130) (g.part (g.atom (p 38 38 106 112) (g.spelled (k.Name (codes "lambda") false))) (g.part (g.list (p 39 42 113 118) (g.part (g.atom (p 40 40 114 115) (g.spelled (k.Name (codes "g") false))) (g.part (g.atom (p 41 41 116 117) (g.spelled (k.Name (codes "t") false))) g.none))) (g.part (g.list (p 43 47 119 129) (g.part (g.atom (p 44 44 120 124) (g.spelled (k.Name (codes "set!") false))) (g.part (g.atom (p 45 45 125 126) (g.spelled (k.Name (codes "n") false))) (g.part (g.atom (p 46 46 127 128) (g.spelled (k.Name (codes "m") false))) g.none)))) g.none)))) g.none)))))) ∷ ((g.list (p 50 55 132 147) (g.part (g.atom (p 51 51 133 139) (g.spelled (k.Name (codes "define") false))) (g.part (g.atom (p 52 52 140 141) (g.spelled (k.Name (codes "m") false))) (g.part (g.list (p 53 54 142 146) (g.part (g.atom (p 53 53 142 143) (g.implied k.Quote)) (g.part (g.atom (p 54 54 143 146) (g.spelled (k.Name (codes "car") false))) g.none))) g.none))))) ∷ [])) ∷ []) ≡ ((a (b 0 140 141) (b 0 127 128)) ∷ [])
unfolding base_names standard_libraries prelude encode_utf8
macros-14 = refl

pub workspaces-24 : arrow_rows (((s 0 1) ∷ (s 1 2) ∷ (s 2 3) ∷ (s 3 4) ∷ (s 4 5) ∷ (s 6 7) ∷ (s 7 10) ∷ (s 11 13) ∷ (s 13 14) ∷ (s 14 15) ∷ (s 15 16) ∷ (s 17 18) ∷ (s 18 19) ∷ (s 19 25) ∷ (s 26 27) ∷ (s 27 28) ∷ (s 28 29) ∷ (s 30 31) ∷ (s 31 37) ∷ (s 38 39) ∷ (s 39 40) ∷ (s 40 41) ∷ (s 42 43) ∷ (s 43 44) ∷ (s 44 45) ∷ (s 45 46) ∷ (s 47 49) ∷ (s 49 50) ∷ (s 51 53) ∷ (s 53 54) ∷ (s 54 55) ∷ (s 56 59) ∷ (s 59 60) ∷ (s 61 62) ∷ (s 63 64) ∷ (s 64 65) ∷ (s 66 67) ∷ (s 68 69) ∷ (s 69 70) ∷ (s 71 72) ∷ []) ∷ []) ((Some (((g.list (p 0 38 0 70) (g.part (g.atom (p 0 0 0 1) (g.implied k.Quasi)) (g.part (g.list (p 1 38 1 70) (g.part (g.list (p 2 4 2 5) (g.part (g.atom (p 3 3 3 4) (g.spelled (k.Name (codes "q") false))) g.none)) (g.part (g.list (p 5 6 6 10) (g.part (g.atom (p 5 5 6 7) (g.implied k.Unquote)) (g.part (g.atom (p 6 6 7 10) (g.spelled (k.Name (codes "tmp") false))) g.none))) (g.part (g.list (p 7 35 11 65) (g.part (g.atom (p 7 7 11 13) (g.implied k.Splice)) (g.part (g.list (p 8 35 13 65) (g.part (g.atom (p 8 8 13 14) (g.implied k.Quasi)) (g.part (g.list (p 9 35 14 65) (g.part (g.atom (p 10 10 15 16) (g.spelled (k.Name (codes "q") false))) (g.part (g.list (p 11 27 17 50) (g.part (g.atom (p 11 11 17 18) (g.implied k.Unquote)) (g.part (g.list (p 12 27 18 50) (g.part (g.atom (p 13 13 19 25) (g.spelled (k.Name (codes "letrec") false))) (g.part (g.list (p 14 25 26 46) (g.part (g.list (p 15 24 27 45) (g.part (g.atom (p 16 16 28 29) (g.spelled (k.Name (codes "f") false))) (g.part (g.list (p 17 23 30 44) (g.part (g.atom (p 18 18 31 37) (g.spelled (k.Name (codes "lambda") false))) (g.part (g.list (p 19 21 38 41) (g.part (g.atom (p 20 20 39 40) (g.spelled (k.Name (codes "b") false))) g.none)) (g.part (g.atom (p 22 22 42 43) (g.spelled (k.Name (codes "a") false))) g.none)))) g.none))) g.none)) (g.part (g.atom (p 26 26 47 49) (g.spelled (k.Truth true))) g.none)))) g.none))) (g.part (g.list (p 28 32 51 60) (g.part (g.atom (p 28 28 51 53) (g.implied k.Splice)) (g.part (g.list (p 29 32 53 60) (g.part (g.atom (p 30 30 54 55) (g.spelled (k.Name (codes "x") false))) (g.part (g.atom (p 31 31 56 59) (g.spelled (k.Quoted (codes "s")))) g.none))) g.none))) (g.tail (g.atom (p 34 34 63 64) (g.spelled (k.Name (codes "t") false)))))))) g.none))) g.none))) (g.tail (g.atom (p 37 37 68 69) (g.spelled (k.Name (codes "t") false)))))))) g.none)))) ∷ ((g.atom (p 39 39 71 72) (g.spelled (k.Name (codes "x") false)))) ∷ [])) ∷ []) ≡ ([])
unfolding base_names standard_libraries prelude encode_utf8
workspaces-24 = refl

pub workspaces-25 : arrow_rows (((s 0 1) ∷ (s 1 15) ∷ (s 16 17) ∷ (s 17 19) ∷ (s 19 20) ∷ (s 22 23) ∷ (s 23 29) ∷ (s 30 31) ∷ (s 32 33) ∷ (s 33 39) ∷ (s 40 41) ∷ (s 42 43) ∷ (s 43 44) ∷ (s 44 45) ∷ (s 47 48) ∷ (s 48 54) ∷ (s 55 56) ∷ (s 56 62) ∷ (s 63 67) ∷ (s 67 68) ∷ (s 68 69) ∷ (s 71 72) ∷ (s 72 77) ∷ (s 80 81) ∷ (s 81 92) ∷ (s 93 94) ∷ (s 94 95) ∷ (s 95 97) ∷ (s 98 102) ∷ (s 103 107) ∷ (s 107 108) ∷ (s 109 110) ∷ (s 110 116) ∷ (s 117 118) ∷ (s 119 122) ∷ (s 122 123) ∷ (s 123 124) ∷ (s 125 126) ∷ (s 126 130) ∷ (s 131 132) ∷ (s 132 150) ∷ (s 151 152) ∷ (s 153 154) ∷ (s 154 155) ∷ (s 156 157) ∷ (s 157 158) ∷ (s 159 161) ∷ (s 162 163) ∷ (s 163 164) ∷ (s 165 168) ∷ (s 168 169) ∷ (s 170 171) ∷ (s 171 172) ∷ (s 173 176) ∷ (s 177 183) ∷ (s 183 184) ∷ (s 184 185) ∷ (s 185 186) ∷ (s 186 187) ∷ (s 190 191) ∷ (s 191 204) ∷ (s 205 206) ∷ (s 207 208) ∷ (s 208 220) ∷ (s 221 222) ∷ (s 222 223) ∷ (s 224 225) ∷ (s 225 226) ∷ (s 226 227) ∷ (s 228 229) ∷ (s 230 231) ∷ (s 231 236) ∷ (s 237 238) ∷ (s 238 244) ∷ (s 245 246) ∷ (s 247 248) ∷ (s 248 258) ∷ (s 259 260) ∷ (s 260 261) ∷ (s 261 262) ∷ (s 263 264) ∷ (s 264 276) ∷ (s 277 278) ∷ (s 278 279) ∷ (s 280 281) ∷ (s 281 282) ∷ (s 282 283) ∷ (s 284 285) ∷ (s 285 286) ∷ (s 287 288) ∷ (s 288 292) ∷ (s 293 296) ∷ (s 297 298) ∷ (s 298 299) ∷ (s 299 300) ∷ (s 300 301) ∷ (s 301 302) ∷ (s 302 303) ∷ (s 304 305) ∷ (s 305 306) ∷ (s 307 308) ∷ (s 308 309) ∷ (s 309 310) ∷ (s 310 311) ∷ (s 312 313) ∷ (s 313 319) ∷ (s 320 326) ∷ (s 327 328) ∷ (s 328 329) ∷ (s 329 330) ∷ (s 330 331) ∷ (s 331 332) ∷ (s 332 333) ∷ (s 336 337) ∷ (s 337 338) ∷ (s 338 339) ∷ (s 342 343) ∷ (s 343 356) ∷ (s 357 358) ∷ (s 359 360) ∷ (s 360 372) ∷ (s 373 374) ∷ (s 374 375) ∷ (s 376 377) ∷ (s 377 378) ∷ (s 378 379) ∷ (s 380 381) ∷ (s 381 382) ∷ (s 383 384) ∷ (s 384 385) ∷ (s 385 386) ∷ (s 387 388) ∷ (s 388 393) ∷ (s 394 395) ∷ (s 395 401) ∷ (s 402 403) ∷ (s 404 405) ∷ (s 405 408) ∷ (s 409 410) ∷ (s 410 411) ∷ (s 412 413) ∷ (s 413 426) ∷ (s 427 428) ∷ (s 429 430) ∷ (s 430 442) ∷ (s 443 444) ∷ (s 444 445) ∷ (s 446 447) ∷ (s 447 448) ∷ (s 448 449) ∷ (s 449 450) ∷ (s 451 452) ∷ (s 452 453) ∷ (s 453 454) ∷ (s 454 455) ∷ (s 456 457) ∷ (s 457 463) ∷ (s 464 465) ∷ (s 466 467) ∷ (s 467 468) ∷ (s 469 470) ∷ (s 470 471) ∷ (s 471 472) ∷ (s 472 473) ∷ (s 473 474) ∷ (s 475 476) ∷ (s 476 482) ∷ (s 483 484) ∷ (s 485 486) ∷ (s 486 496) ∷ (s 497 498) ∷ (s 498 499) ∷ (s 499 500) ∷ (s 501 502) ∷ (s 502 514) ∷ (s 515 516) ∷ (s 516 517) ∷ (s 518 519) ∷ (s 519 520) ∷ (s 520 521) ∷ (s 522 523) ∷ (s 523 524) ∷ (s 525 526) ∷ (s 526 530) ∷ (s 531 532) ∷ (s 533 534) ∷ (s 534 535) ∷ (s 535 536) ∷ (s 536 537) ∷ (s 537 538) ∷ (s 538 539) ∷ (s 540 541) ∷ (s 541 542) ∷ (s 543 544) ∷ (s 544 545) ∷ (s 545 546) ∷ (s 546 547) ∷ (s 547 548) ∷ (s 548 549) ∷ (s 549 550) ∷ (s 550 551) ∷ (s 551 552) ∷ (s 552 553) ∷ []) ∷ ((s 0 1) ∷ (s 1 7) ∷ (s 8 9) ∷ (s 9 15) ∷ (s 16 20) ∷ (s 20 21) ∷ (s 22 23) ∷ (s 23 29) ∷ (s 30 31) ∷ (s 31 35) ∷ (s 36 37) ∷ (s 37 39) ∷ (s 39 40) ∷ (s 41 42) ∷ (s 42 43) ∷ (s 44 45) ∷ (s 45 46) ∷ (s 46 47) ∷ (s 48 49) ∷ (s 49 67) ∷ (s 68 69) ∷ (s 70 71) ∷ (s 71 75) ∷ (s 76 77) ∷ (s 77 78) ∷ (s 79 81) ∷ (s 82 83) ∷ (s 83 84) ∷ (s 85 88) ∷ (s 88 89) ∷ (s 90 91) ∷ (s 91 103) ∷ (s 104 118) ∷ (s 119 136) ∷ (s 136 137) ∷ (s 137 138) ∷ (s 139 140) ∷ (s 140 153) ∷ (s 154 155) ∷ (s 156 157) ∷ (s 157 169) ∷ (s 170 173) ∷ (s 174 175) ∷ (s 175 177) ∷ (s 177 178) ∷ (s 179 180) ∷ (s 180 181) ∷ (s 181 182) ∷ (s 183 184) ∷ (s 184 185) ∷ (s 186 187) ∷ (s 187 188) ∷ (s 189 191) ∷ (s 191 192) ∷ (s 193 194) ∷ (s 194 199) ∷ (s 200 201) ∷ (s 201 207) ∷ (s 208 209) ∷ (s 210 211) ∷ (s 211 214) ∷ (s 215 216) ∷ (s 216 217) ∷ (s 218 219) ∷ (s 219 232) ∷ (s 233 236) ∷ (s 237 238) ∷ (s 238 250) ∷ (s 251 252) ∷ (s 252 253) ∷ (s 254 255) ∷ (s 255 256) ∷ (s 256 257) ∷ (s 257 258) ∷ (s 259 260) ∷ (s 260 261) ∷ (s 261 262) ∷ (s 262 263) ∷ (s 264 265) ∷ (s 265 271) ∷ (s 272 273) ∷ (s 274 275) ∷ (s 275 276) ∷ (s 277 278) ∷ (s 278 281) ∷ (s 281 282) ∷ (s 282 283) ∷ (s 283 284) ∷ (s 284 285) ∷ (s 285 286) ∷ (s 286 287) ∷ (s 287 288) ∷ (s 289 290) ∷ (s 290 296) ∷ (s 297 298) ∷ (s 299 300) ∷ (s 300 301) ∷ (s 302 303) ∷ (s 303 316) ∷ (s 317 318) ∷ (s 319 320) ∷ (s 320 332) ∷ (s 333 334) ∷ (s 334 335) ∷ (s 336 337) ∷ (s 337 338) ∷ (s 338 339) ∷ (s 340 341) ∷ (s 342 345) ∷ (s 346 347) ∷ (s 347 348) ∷ (s 349 350) ∷ (s 350 352) ∷ (s 353 354) ∷ (s 354 357) ∷ (s 358 359) ∷ (s 359 360) ∷ (s 361 362) ∷ (s 362 375) ∷ (s 376 377) ∷ (s 378 379) ∷ (s 379 391) ∷ (s 392 393) ∷ (s 393 394) ∷ (s 395 396) ∷ (s 396 397) ∷ (s 397 398) ∷ (s 398 399) ∷ (s 400 401) ∷ (s 401 402) ∷ (s 402 403) ∷ (s 403 404) ∷ (s 405 406) ∷ (s 406 412) ∷ (s 413 414) ∷ (s 415 416) ∷ (s 416 417) ∷ (s 418 419) ∷ (s 419 420) ∷ (s 420 421) ∷ (s 421 422) ∷ (s 423 424) ∷ (s 425 426) ∷ (s 426 430) ∷ (s 431 432) ∷ (s 433 436) ∷ (s 437 438) ∷ (s 438 439) ∷ (s 439 440) ∷ (s 440 441) ∷ (s 441 442) ∷ (s 442 443) ∷ []) ∷ []) ((Some (((g.list (p 0 202 0 553) (g.part (g.atom (p 1 1 1 15) (g.spelled (k.Name (codes "define-library") false))) (g.part (g.list (p 2 4 16 20) (g.part (g.atom (p 3 3 17 19) (g.spelled (k.Name (codes "l0") false))) g.none)) (g.part (g.list (p 5 13 22 45) (g.part (g.atom (p 6 6 23 29) (g.spelled (k.Name (codes "export") false))) (g.part (g.atom (p 7 7 30 31) (g.spelled (k.Name (codes "g") false))) (g.part (g.list (p 8 12 32 44) (g.part (g.atom (p 9 9 33 39) (g.spelled (k.Name (codes "rename") false))) (g.part (g.atom (p 10 10 40 41) (g.spelled (k.Name (codes "t") false))) (g.part (g.atom (p 11 11 42 43) (g.spelled (k.Name (codes "f") false))) g.none)))) g.none)))) (g.part (g.list (p 14 20 47 69) (g.part (g.atom (p 15 15 48 54) (g.spelled (k.Name (codes "import") false))) (g.part (g.list (p 16 19 55 68) (g.part (g.atom (p 17 17 56 62) (g.spelled (k.Name (codes "scheme") false))) (g.part (g.atom (p 18 18 63 67) (g.spelled (k.Name (codes "base") false))) g.none))) g.none))) (g.part (g.list (p 21 201 71 552) (g.part (g.atom (p 22 22 72 77) (g.spelled (k.Name (codes "begin") false))) (g.part (g.list (p 23 58 80 187) (g.part (g.atom (p 24 24 81 92) (g.spelled (k.Name (codes "cond-expand") false))) (g.part (g.list (p 25 36 93 124) (g.part (g.list (p 26 30 94 108) (g.part (g.atom (p 27 27 95 97) (g.spelled (k.Name (codes "or") false))) (g.part (g.atom (p 28 28 98 102) (g.spelled (k.Name (codes "full") false))) (g.part (g.atom (p 29 29 103 107) (g.spelled (k.Name (codes "r7rs") false))) g.none)))) (g.part (g.list (p 31 35 109 123) (g.part (g.atom (p 32 32 110 116) (g.spelled (k.Name (codes "define") false))) (g.part (g.atom (p 33 33 117 118) (g.spelled (k.Name (codes "g") false))) (g.part (g.atom (p 34 34 119 122) (g.spelled (k.Character 99))) g.none)))) g.none))) (g.part (g.list (p 37 57 125 186) (g.part (g.atom (p 38 38 126 130) (g.spelled (k.Name (codes "else") false))) (g.part (g.list (p 39 56 131 185) (g.part (g.atom (p 40 40 132 150) (g.spelled (k.Name (codes "define-record-type") false))) (g.part (g.atom (p 41 41 151 152) (g.spelled (k.Name (codes "n") false))) (g.part (g.list (p 42 45 153 158) (g.part (g.atom (p 43 43 154 155) (g.spelled (k.Name (codes "n") false))) (g.part (g.atom (p 44 44 156 157) (g.spelled (k.Name (codes "x") false))) g.none))) (g.part (g.atom (p 46 46 159 161) (g.spelled (k.Name (codes "n?") false))) (g.part (g.list (p 47 50 162 169) (g.part (g.atom (p 48 48 163 164) (g.spelled (k.Name (codes "x") false))) (g.part (g.atom (p 49 49 165 168) (g.spelled (k.Name (codes "x-x") false))) g.none))) (g.part (g.list (p 51 55 170 184) (g.part (g.atom (p 52 52 171 172) (g.spelled (k.Name (codes "m") false))) (g.part (g.atom (p 53 53 173 176) (g.spelled (k.Name (codes "m-y") false))) (g.part (g.atom (p 54 54 177 183) (g.spelled (k.Name (codes "set-m!") false))) g.none)))) g.none))))))) g.none))) g.none)))) (g.part (g.list (p 59 112 190 333) (g.part (g.atom (p 60 60 191 204) (g.spelled (k.Name (codes "define-syntax") false))) (g.part (g.atom (p 61 61 205 206) (g.spelled (k.Name (codes "b") false))) (g.part (g.list (p 62 111 207 332) (g.part (g.atom (p 63 63 208 220) (g.spelled (k.Name (codes "syntax-rules") false))) (g.part (g.list (p 64 65 221 223) g.none) (g.part (g.list (p 66 110 224 331) (g.part (g.list (p 67 69 225 229) (g.part (g.atom (p 68 68 226 227) (g.spelled (k.Name (codes "_") false))) g.none)) (g.part (g.list (p 70 109 230 330) (g.part (g.atom (p 71 71 231 236) (g.spelled (k.Name (codes "begin") false))) (g.part (g.list (p 72 103 237 311) (g.part (g.atom (p 73 73 238 244) (g.spelled (k.Name (codes "define") false))) (g.part (g.atom (p 74 74 245 246) (g.spelled (k.Name (codes "n") false))) (g.part (g.list (p 75 102 247 310) (g.part (g.atom (p 76 76 248 258) (g.spelled (k.Name (codes "let-syntax") false))) (g.part (g.list (p 77 97 259 303) (g.part (g.list (p 78 96 260 302) (g.part (g.atom (p 79 79 261 262) (g.spelled (k.Name (codes "k") false))) (g.part (g.list (p 80 95 263 301) (g.part (g.atom (p 81 81 264 276) (g.spelled (k.Name (codes "syntax-rules") false))) (g.part (g.list (p 82 83 277 279) g.none) (g.part (g.list (p 84 94 280 300) (g.part (g.list (p 85 88 281 286) (g.part (g.atom (p 86 86 282 283) (g.spelled (k.Name (codes "_") false))) (g.part (g.atom (p 87 87 284 285) (g.spelled (k.Name (codes "t") false))) g.none))) (g.part (g.list (p 89 93 287 299) (g.part (g.atom (p 90 90 288 292) (g.spelled (k.Name (codes "list") false))) (g.part (g.atom (p 91 91 293 296) (g.spelled (k.Name (codes "tmp") false))) (g.part (g.atom (p 92 92 297 298) (g.spelled (k.Name (codes "t") false))) g.none)))) g.none))) g.none)))) g.none))) g.none)) (g.part (g.list (p 98 101 304 309) (g.part (g.atom (p 99 99 305 306) (g.spelled (k.Name (codes "k") false))) (g.part (g.atom (p 100 100 307 308) (g.spelled (k.Name (codes "q") false))) g.none))) g.none)))) g.none)))) (g.part (g.list (p 104 108 312 329) (g.part (g.atom (p 105 105 313 319) (g.spelled (k.Name (codes "define") false))) (g.part (g.atom (p 106 106 320 326) (g.spelled (k.Name (codes "lambda") false))) (g.part (g.atom (p 107 107 327 328) (g.spelled (k.Name (codes "a") false))) g.none)))) g.none)))) g.none))) g.none)))) g.none)))) (g.part (g.list (p 113 115 336 339) (g.part (g.atom (p 114 114 337 338) (g.spelled (k.Name (codes "b") false))) g.none)) (g.part (g.list (p 116 200 342 551) (g.part (g.atom (p 117 117 343 356) (g.spelled (k.Name (codes "define-syntax") false))) (g.part (g.atom (p 118 118 357 358) (g.spelled (k.Name (codes "t") false))) (g.part (g.list (p 119 199 359 550) (g.part (g.atom (p 120 120 360 372) (g.spelled (k.Name (codes "syntax-rules") false))) (g.part (g.list (p 121 122 373 375) g.none) (g.part (g.list (p 123 198 376 549) (g.part (g.list (p 124 130 377 386) (g.part (g.atom (p 125 125 378 379) (g.spelled (k.Name (codes "_") false))) (g.part (g.list (p 126 129 380 385) (g.part (g.atom (p 127 127 381 382) (g.spelled (k.Name (codes "a") false))) (g.part (g.atom (p 128 128 383 384) (g.spelled (k.Name (codes "m") false))) g.none))) g.none))) (g.part (g.list (p 131 197 387 548) (g.part (g.atom (p 132 132 388 393) (g.spelled (k.Name (codes "begin") false))) (g.part (g.list (p 133 164 394 474) (g.part (g.atom (p 134 134 395 401) (g.spelled (k.Name (codes "define") false))) (g.part (g.atom (p 135 135 402 403) (g.spelled (k.Name (codes "f") false))) (g.part (g.list (p 136 163 404 473) (g.part (g.atom (p 137 137 405 408) (g.spelled (k.Name (codes "let") false))) (g.part (g.list (p 138 139 409 411) g.none) (g.part (g.list (p 140 154 412 455) (g.part (g.atom (p 141 141 413 426) (g.spelled (k.Name (codes "define-syntax") false))) (g.part (g.atom (p 142 142 427 428) (g.spelled (k.Name (codes "a") false))) (g.part (g.list (p 143 153 429 454) (g.part (g.atom (p 144 144 430 442) (g.spelled (k.Name (codes "syntax-rules") false))) (g.part (g.list (p 145 146 443 445) g.none) (g.part (g.list (p 147 152 446 453) (g.part (g.list (p 148 150 447 450) (g.part (g.atom (p 149 149 448 449) (g.spelled (k.Name (codes "_") false))) g.none)) (g.part (g.atom (p 151 151 451 452) (g.spelled (k.Name (codes "m") false))) g.none))) g.none)))) g.none)))) (g.part (g.list (p 155 159 456 468) (g.part (g.atom (p 156 156 457 463) (g.spelled (k.Name (codes "define") false))) (g.part (g.atom (p 157 157 464 465) (g.spelled (k.Name (codes "m") false))) (g.part (g.atom (p 158 158 466 467) (g.spelled (k.Name (codes "m") false))) g.none)))) (g.part (g.list (p 160 162 469 472) (g.part (g.atom (p 161 161 470 471) (g.spelled (k.Name (codes "a") false))) g.none)) g.none)))))) g.none)))) (g.part (g.list (p 165 196 475 547) (g.part (g.atom (p 166 166 476 482) (g.spelled (k.Name (codes "define") false))) (g.part (g.atom (p 167 167 483 484) (g.spelled (k.Name (codes "a") false))) (g.part (g.list (p 168 195 485 546) (g.part (g.atom (p 169 169 486 496) (g.spelled (k.Name (codes "let-syntax") false))) (g.part (g.list (p 170 190 497 539) (g.part (g.list (p 171 189 498 538) (g.part (g.atom (p 172 172 499 500) (g.spelled (k.Name (codes "b") false))) (g.part (g.list (p 173 188 501 537) (g.part (g.atom (p 174 174 502 514) (g.spelled (k.Name (codes "syntax-rules") false))) (g.part (g.list (p 175 176 515 517) g.none) (g.part (g.list (p 177 187 518 536) (g.part (g.list (p 178 181 519 524) (g.part (g.atom (p 179 179 520 521) (g.spelled (k.Name (codes "_") false))) (g.part (g.atom (p 180 180 522 523) (g.spelled (k.Name (codes "b") false))) g.none))) (g.part (g.list (p 182 186 525 535) (g.part (g.atom (p 183 183 526 530) (g.spelled (k.Name (codes "list") false))) (g.part (g.atom (p 184 184 531 532) (g.spelled (k.Name (codes "k") false))) (g.part (g.atom (p 185 185 533 534) (g.spelled (k.Name (codes "n") false))) g.none)))) g.none))) g.none)))) g.none))) g.none)) (g.part (g.list (p 191 194 540 545) (g.part (g.atom (p 192 192 541 542) (g.spelled (k.Name (codes "b") false))) (g.part (g.atom (p 193 193 543 544) (g.spelled (k.Name (codes "a") false))) g.none))) g.none)))) g.none)))) g.none)))) g.none))) g.none)))) g.none)))) g.none)))))) g.none))))))) ∷ [])) ∷ (Some (((g.list (p 0 17 0 47) (g.part (g.atom (p 1 1 1 7) (g.spelled (k.Name (codes "import") false))) (g.part (g.list (p 2 5 8 21) (g.part (g.atom (p 3 3 9 15) (g.spelled (k.Name (codes "scheme") false))) (g.part (g.atom (p 4 4 16 20) (g.spelled (k.Name (codes "base") false))) g.none))) (g.part (g.list (p 6 16 22 46) (g.part (g.atom (p 7 7 23 29) (g.spelled (k.Name (codes "except") false))) (g.part (g.list (p 8 14 30 43) (g.part (g.atom (p 9 9 31 35) (g.spelled (k.Name (codes "only") false))) (g.part (g.list (p 10 12 36 40) (g.part (g.atom (p 11 11 37 39) (g.spelled (k.Name (codes "l0") false))) g.none)) (g.part (g.atom (p 13 13 41 42) (g.spelled (k.Name (codes "f") false))) g.none)))) (g.part (g.atom (p 15 15 44 45) (g.spelled (k.Name (codes "f") false))) g.none)))) g.none))))) ∷ ((g.list (p 18 35 48 138) (g.part (g.atom (p 19 19 49 67) (g.spelled (k.Name (codes "define-record-type") false))) (g.part (g.atom (p 20 20 68 69) (g.spelled (k.Name (codes "f") false))) (g.part (g.list (p 21 24 70 78) (g.part (g.atom (p 22 22 71 75) (g.spelled (k.Name (codes "make") false))) (g.part (g.atom (p 23 23 76 77) (g.spelled (k.Name (codes "x") false))) g.none))) (g.part (g.atom (p 25 25 79 81) (g.spelled (k.Name (codes "f?") false))) (g.part (g.list (p 26 29 82 89) (g.part (g.atom (p 27 27 83 84) (g.spelled (k.Name (codes "x") false))) (g.part (g.atom (p 28 28 85 88) (g.spelled (k.Name (codes "x-x") false))) g.none))) (g.part (g.list (p 30 34 90 137) (g.part (g.atom (p 31 31 91 103) (g.spelled (k.Name (codes "syntax-rules") false))) (g.part (g.atom (p 32 32 104 118) (g.spelled (k.Name (codes "syntax-rules-y") false))) (g.part (g.atom (p 33 33 119 136) (g.spelled (k.Name (codes "set-syntax-rules!") false))) g.none)))) g.none)))))))) ∷ ((g.list (p 36 91 139 288) (g.part (g.atom (p 37 37 140 153) (g.spelled (k.Name (codes "define-syntax") false))) (g.part (g.atom (p 38 38 154 155) (g.spelled (k.Name (codes "a") false))) (g.part (g.list (p 39 90 156 287) (g.part (g.atom (p 40 40 157 169) (g.spelled (k.Name (codes "syntax-rules") false))) (g.part (g.atom (p 41 41 170 173) (g.spelled (k.Name (codes ":::") false))) (g.part (g.list (p 42 44 174 178) (g.part (g.atom (p 43 43 175 177) (g.spelled (k.Name (codes "=>") false))) g.none)) (g.part (g.list (p 45 89 179 286) (g.part (g.list (p 46 53 180 192) (g.part (g.atom (p 47 47 181 182) (g.spelled (k.Name (codes "_") false))) (g.part (g.list (p 48 51 183 188) (g.part (g.atom (p 49 49 184 185) (g.spelled (k.Name (codes "t") false))) (g.part (g.atom (p 50 50 186 187) (g.spelled (k.Name (codes "x") false))) g.none))) (g.part (g.atom (p 52 52 189 191) (g.spelled (k.Name (codes "=>") false))) g.none)))) (g.part (g.list (p 54 88 193 285) (g.part (g.atom (p 55 55 194 199) (g.spelled (k.Name (codes "begin") false))) (g.part (g.list (p 56 87 200 284) (g.part (g.atom (p 57 57 201 207) (g.spelled (k.Name (codes "define") false))) (g.part (g.atom (p 58 58 208 209) (g.spelled (k.Name (codes "t") false))) (g.part (g.list (p 59 86 210 283) (g.part (g.atom (p 60 60 211 214) (g.spelled (k.Name (codes "let") false))) (g.part (g.list (p 61 62 215 217) g.none) (g.part (g.list (p 63 77 218 263) (g.part (g.atom (p 64 64 219 232) (g.spelled (k.Name (codes "define-syntax") false))) (g.part (g.atom (p 65 65 233 236) (g.spelled (k.Name (codes "tmp") false))) (g.part (g.list (p 66 76 237 262) (g.part (g.atom (p 67 67 238 250) (g.spelled (k.Name (codes "syntax-rules") false))) (g.part (g.list (p 68 69 251 253) g.none) (g.part (g.list (p 70 75 254 261) (g.part (g.list (p 71 73 255 258) (g.part (g.atom (p 72 72 256 257) (g.spelled (k.Name (codes "_") false))) g.none)) (g.part (g.atom (p 74 74 259 260) (g.spelled (k.Name (codes "q") false))) g.none))) g.none)))) g.none)))) (g.part (g.list (p 78 82 264 276) (g.part (g.atom (p 79 79 265 271) (g.spelled (k.Name (codes "define") false))) (g.part (g.atom (p 80 80 272 273) (g.spelled (k.Name (codes "k") false))) (g.part (g.atom (p 81 81 274 275) (g.spelled (k.Name (codes "t") false))) g.none)))) (g.part (g.list (p 83 85 277 282) (g.part (g.atom (p 84 84 278 281) (g.spelled (k.Name (codes "tmp") false))) g.none)) g.none)))))) g.none)))) g.none))) g.none))) g.none))))) g.none))))) ∷ ((g.list (p 92 96 289 301) (g.part (g.atom (p 93 93 290 296) (g.spelled (k.Name (codes "define") false))) (g.part (g.atom (p 94 94 297 298) (g.spelled (k.Name (codes "y") false))) (g.part (g.atom (p 95 95 299 300) (g.spelled (k.Name (codes "f") false))) g.none))))) ∷ ((g.list (p 97 151 302 443) (g.part (g.atom (p 98 98 303 316) (g.spelled (k.Name (codes "define-syntax") false))) (g.part (g.atom (p 99 99 317 318) (g.spelled (k.Name (codes "n") false))) (g.part (g.list (p 100 150 319 442) (g.part (g.atom (p 101 101 320 332) (g.spelled (k.Name (codes "syntax-rules") false))) (g.part (g.list (p 102 103 333 335) g.none) (g.part (g.list (p 104 149 336 441) (g.part (g.list (p 105 110 337 348) (g.part (g.atom (p 106 106 338 339) (g.spelled (k.Name (codes "_") false))) (g.part (g.atom (p 107 107 340 341) (g.spelled (k.Name (codes "m") false))) (g.part (g.atom (p 108 108 342 345) (g.spelled (k.Name (codes "...") false))) (g.part (g.atom (p 109 109 346 347) (g.spelled (k.Name (codes "b") false))) g.none))))) (g.part (g.list (p 111 148 349 440) (g.part (g.atom (p 112 112 350 352) (g.spelled (k.Name (codes "if") false))) (g.part (g.list (p 113 140 353 422) (g.part (g.atom (p 114 114 354 357) (g.spelled (k.Name (codes "let") false))) (g.part (g.list (p 115 116 358 360) g.none) (g.part (g.list (p 117 131 361 404) (g.part (g.atom (p 118 118 362 375) (g.spelled (k.Name (codes "define-syntax") false))) (g.part (g.atom (p 119 119 376 377) (g.spelled (k.Name (codes "b") false))) (g.part (g.list (p 120 130 378 403) (g.part (g.atom (p 121 121 379 391) (g.spelled (k.Name (codes "syntax-rules") false))) (g.part (g.list (p 122 123 392 394) g.none) (g.part (g.list (p 124 129 395 402) (g.part (g.list (p 125 127 396 399) (g.part (g.atom (p 126 126 397 398) (g.spelled (k.Name (codes "_") false))) g.none)) (g.part (g.atom (p 128 128 400 401) (g.spelled (k.Name (codes "n") false))) g.none))) g.none)))) g.none)))) (g.part (g.list (p 132 136 405 417) (g.part (g.atom (p 133 133 406 412) (g.spelled (k.Name (codes "define") false))) (g.part (g.atom (p 134 134 413 414) (g.spelled (k.Name (codes "b") false))) (g.part (g.atom (p 135 135 415 416) (g.spelled (k.Name (codes "b") false))) g.none)))) (g.part (g.list (p 137 139 418 421) (g.part (g.atom (p 138 138 419 420) (g.spelled (k.Name (codes "b") false))) g.none)) g.none)))))) (g.part (g.atom (p 141 141 423 424) (g.spelled (k.Name (codes "b") false))) (g.part (g.list (p 142 147 425 439) (g.part (g.atom (p 143 143 426 430) (g.spelled (k.Name (codes "list") false))) (g.part (g.atom (p 144 144 431 432) (g.spelled (k.Name (codes "m") false))) (g.part (g.atom (p 145 145 433 436) (g.spelled (k.Name (codes "...") false))) (g.part (g.atom (p 146 146 437 438) (g.spelled (k.Name (codes "b") false))) g.none))))) g.none))))) g.none))) g.none)))) g.none))))) ∷ [])) ∷ []) ≡ ((a (b 0 117 118) (b 0 30 31)) ∷ (a (b 0 205 206) (b 0 337 338)) ∷ (a (b 0 205 206) (b 0 499 500)) ∷ (a (b 0 205 206) (b 0 522 523)) ∷ (a (b 0 205 206) (b 0 541 542)) ∷ (a (b 0 261 262) (b 0 305 306)) ∷ (a (b 0 284 285) (b 0 297 298)) ∷ (a (b 0 357 358) (b 0 40 41)) ∷ (a (b 0 357 358) (b 0 42 43)) ∷ (a (b 0 357 358) (b 0 284 285)) ∷ (a (b 0 357 358) (b 0 297 298)) ∷ (a (b 0 357 358) (b 1 41 42)) ∷ (a (b 0 357 358) (b 1 44 45)) ∷ (a (b 0 381 382) (b 0 427 428)) ∷ (a (b 0 381 382) (b 0 470 471)) ∷ (a (b 0 381 382) (b 0 483 484)) ∷ (a (b 0 381 382) (b 0 543 544)) ∷ (a (b 0 383 384) (b 0 451 452)) ∷ (a (b 0 383 384) (b 0 464 465)) ∷ (a (b 0 383 384) (b 0 466 467)) ∷ (a (b 1 68 69) (b 1 299 300)) ∷ (a (b 1 83 84) (b 1 76 77)) ∷ (a (b 1 184 185) (b 1 208 209)) ∷ (a (b 1 184 185) (b 1 274 275)) ∷ (a (b 1 317 318) (b 1 400 401)) ∷ (a (b 1 340 341) (b 1 431 432)) ∷ (a (b 1 346 347) (b 1 376 377)) ∷ (a (b 1 346 347) (b 1 413 414)) ∷ (a (b 1 346 347) (b 1 415 416)) ∷ (a (b 1 346 347) (b 1 419 420)) ∷ (a (b 1 346 347) (b 1 423 424)) ∷ (a (b 1 346 347) (b 1 437 438)) ∷ [])
unfolding base_names standard_libraries prelude encode_utf8
workspaces-25 = refl

pub workspaces-57 : arrow_rows (((s 0 1) ∷ (s 1 15) ∷ (s 16 17) ∷ (s 17 19) ∷ (s 19 20) ∷ (s 22 23) ∷ (s 23 29) ∷ (s 30 31) ∷ (s 31 32) ∷ (s 34 35) ∷ (s 35 41) ∷ (s 42 43) ∷ (s 43 49) ∷ (s 50 54) ∷ (s 54 55) ∷ (s 55 56) ∷ (s 58 59) ∷ (s 59 64) ∷ (s 67 68) ∷ (s 68 81) ∷ (s 82 83) ∷ (s 84 85) ∷ (s 85 97) ∷ (s 98 99) ∷ (s 99 100) ∷ (s 101 102) ∷ (s 102 103) ∷ (s 103 104) ∷ (s 105 106) ∷ (s 107 108) ∷ (s 108 109) ∷ (s 109 115) ∷ (s 116 117) ∷ (s 117 118) ∷ (s 118 119) ∷ (s 119 120) ∷ (s 120 121) ∷ (s 124 125) ∷ (s 125 126) ∷ (s 126 127) ∷ (s 130 131) ∷ (s 131 132) ∷ (s 132 133) ∷ []) ∷ ((s 0 1) ∷ (s 1 7) ∷ (s 8 9) ∷ (s 9 15) ∷ (s 16 17) ∷ (s 17 23) ∷ (s 24 28) ∷ (s 28 29) ∷ (s 30 31) ∷ (s 31 34) ∷ (s 35 38) ∷ (s 38 39) ∷ (s 40 41) ∷ (s 41 43) ∷ (s 44 47) ∷ (s 47 48) ∷ (s 49 50) ∷ (s 50 54) ∷ (s 55 64) ∷ (s 64 65) ∷ (s 65 66) ∷ (s 67 68) ∷ (s 68 70) ∷ (s 70 71) ∷ (s 71 72) ∷ (s 73 74) ∷ (s 74 75) ∷ (s 75 76) ∷ (s 76 77) ∷ (s 78 79) ∷ (s 79 85) ∷ (s 86 87) ∷ (s 87 88) ∷ (s 89 90) ∷ (s 90 103) ∷ (s 104 105) ∷ (s 105 106) ∷ (s 107 108) ∷ (s 108 109) ∷ (s 110 111) ∷ (s 111 116) ∷ (s 117 120) ∷ (s 121 122) ∷ (s 122 123) ∷ (s 123 124) ∷ (s 125 126) ∷ (s 126 127) ∷ (s 128 129) ∷ (s 129 130) ∷ (s 131 132) ∷ (s 132 133) ∷ (s 133 134) ∷ (s 135 136) ∷ (s 136 154) ∷ (s 155 156) ∷ (s 157 158) ∷ (s 158 162) ∷ (s 163 175) ∷ (s 175 176) ∷ (s 177 179) ∷ (s 180 181) ∷ (s 181 193) ∷ (s 194 208) ∷ (s 208 209) ∷ (s 210 211) ∷ (s 211 212) ∷ (s 213 216) ∷ (s 217 223) ∷ (s 223 224) ∷ (s 224 225) ∷ []) ∷ []) ((Some (((g.list (p 0 42 0 133) (g.part (g.atom (p 1 1 1 15) (g.spelled (k.Name (codes "define-library") false))) (g.part (g.list (p 2 4 16 20) (g.part (g.atom (p 3 3 17 19) (g.spelled (k.Name (codes "l0") false))) g.none)) (g.part (g.list (p 5 8 22 32) (g.part (g.atom (p 6 6 23 29) (g.spelled (k.Name (codes "export") false))) (g.part (g.atom (p 7 7 30 31) (g.spelled (k.Name (codes "g") false))) g.none))) (g.part (g.list (p 9 15 34 56) (g.part (g.atom (p 10 10 35 41) (g.spelled (k.Name (codes "import") false))) (g.part (g.list (p 11 14 42 55) (g.part (g.atom (p 12 12 43 49) (g.spelled (k.Name (codes "scheme") false))) (g.part (g.atom (p 13 13 50 54) (g.spelled (k.Name (codes "base") false))) g.none))) g.none))) (g.part (g.list (p 16 41 58 132) (g.part (g.atom (p 17 17 59 64) (g.spelled (k.Name (codes "begin") false))) (g.part (g.list (p 18 36 67 121) (g.part (g.atom (p 19 19 68 81) (g.spelled (k.Name (codes "define-syntax") false))) (g.part (g.atom (p 20 20 82 83) (g.spelled (k.Name (codes "g") false))) (g.part (g.list (p 21 35 84 120) (g.part (g.atom (p 22 22 85 97) (g.spelled (k.Name (codes "syntax-rules") false))) (g.part (g.list (p 23 24 98 100) g.none) (g.part (g.list (p 25 34 101 119) (g.part (g.list (p 26 28 102 106) (g.part (g.atom (p 27 27 103 104) (g.spelled (k.Name (codes "_") false))) g.none)) (g.part (g.list (p 29 33 107 118) (g.part (g.atom (p 29 29 107 108) (g.implied k.Quote)) (g.part (g.list (p 30 33 108 118) (g.part (g.atom (p 31 31 109 115) (g.spelled (k.Name (codes "lambda") false))) (g.part (g.atom (p 32 32 116 117) (g.spelled (k.Name (codes "a") false))) g.none))) g.none))) g.none))) g.none)))) g.none)))) (g.part (g.list (p 37 39 124 127) (g.part (g.atom (p 38 38 125 126) (g.spelled (k.Name (codes "g") false))) g.none)) (g.part (g.atom (p 40 40 130 131) (g.spelled (k.Name (codes "q") false))) g.none))))) g.none))))))) ∷ [])) ∷ (Some (((g.list (p 0 24 0 72) (g.part (g.atom (p 1 1 1 7) (g.spelled (k.Name (codes "import") false))) (g.part (g.list (p 2 20 8 66) (g.part (g.atom (p 3 3 9 15) (g.spelled (k.Name (codes "rename") false))) (g.part (g.list (p 4 7 16 29) (g.part (g.atom (p 5 5 17 23) (g.spelled (k.Name (codes "scheme") false))) (g.part (g.atom (p 6 6 24 28) (g.spelled (k.Name (codes "base") false))) g.none))) (g.part (g.list (p 8 11 30 39) (g.part (g.atom (p 9 9 31 34) (g.spelled (k.Name (codes "car") false))) (g.part (g.atom (p 10 10 35 38) (g.spelled (k.Name (codes "kar") false))) g.none))) (g.part (g.list (p 12 15 40 48) (g.part (g.atom (p 13 13 41 43) (g.spelled (k.Name (codes "if") false))) (g.part (g.atom (p 14 14 44 47) (g.spelled (k.Name (codes "iff") false))) g.none))) (g.part (g.list (p 16 19 49 65) (g.part (g.atom (p 17 17 50 54) (g.spelled (k.Name (codes "else") false))) (g.part (g.atom (p 18 18 55 64) (g.spelled (k.Name (codes "otherwise") false))) g.none))) g.none)))))) (g.part (g.list (p 21 23 67 71) (g.part (g.atom (p 22 22 68 70) (g.spelled (k.Name (codes "l0") false))) g.none)) g.none))))) ∷ ((g.list (p 25 48 73 130) (g.part (g.list (p 26 28 74 77) (g.part (g.atom (p 27 27 75 76) (g.spelled (k.Name (codes "g") false))) g.none)) (g.part (g.list (p 29 46 78 127) (g.part (g.atom (p 30 30 79 85) (g.spelled (k.Name (codes "lambda") false))) (g.part (g.list (p 31 32 86 88) g.none) (g.part (g.list (p 33 44 89 124) (g.part (g.atom (p 34 34 90 103) (g.spelled (k.Name (codes "define-values") false))) (g.part (g.list (p 35 38 104 109) (g.part (g.atom (p 36 36 105 106) (g.spelled (k.Name (codes "g") false))) (g.part (g.atom (p 37 37 107 108) (g.spelled (k.Name (codes "n") false))) g.none))) (g.part (g.list (p 39 43 110 123) (g.part (g.atom (p 40 40 111 116) (g.spelled (k.Name (codes "begin") false))) (g.part (g.atom (p 41 41 117 120) (g.spelled (k.Name (codes "tmp") false))) (g.part (g.atom (p 42 42 121 122) (g.spelled (k.Name (codes "y") false))) g.none)))) g.none)))) (g.part (g.atom (p 45 45 125 126) (g.spelled (k.Name (codes "k") false))) g.none))))) (g.part (g.atom (p 47 47 128 129) (g.spelled (k.Name (codes "t") false))) g.none))))) ∷ ((g.list (p 49 51 131 134) (g.part (g.atom (p 50 50 132 133) (g.spelled (k.Name (codes "g") false))) g.none))) ∷ ((g.list (p 52 69 135 225) (g.part (g.atom (p 53 53 136 154) (g.spelled (k.Name (codes "define-record-type") false))) (g.part (g.atom (p 54 54 155 156) (g.spelled (k.Name (codes "q") false))) (g.part (g.list (p 55 58 157 176) (g.part (g.atom (p 56 56 158 162) (g.spelled (k.Name (codes "make") false))) (g.part (g.atom (p 57 57 163 175) (g.spelled (k.Name (codes "syntax-rules") false))) g.none))) (g.part (g.atom (p 59 59 177 179) (g.spelled (k.Name (codes "q?") false))) (g.part (g.list (p 60 63 180 209) (g.part (g.atom (p 61 61 181 193) (g.spelled (k.Name (codes "syntax-rules") false))) (g.part (g.atom (p 62 62 194 208) (g.spelled (k.Name (codes "syntax-rules-x") false))) g.none))) (g.part (g.list (p 64 68 210 224) (g.part (g.atom (p 65 65 211 212) (g.spelled (k.Name (codes "m") false))) (g.part (g.atom (p 66 66 213 216) (g.spelled (k.Name (codes "m-y") false))) (g.part (g.atom (p 67 67 217 223) (g.spelled (k.Name (codes "set-m!") false))) g.none)))) g.none)))))))) ∷ [])) ∷ []) ≡ ((a (b 0 82 83) (b 0 30 31)) ∷ (a (b 0 82 83) (b 0 125 126)) ∷ (a (b 0 82 83) (b 1 75 76)) ∷ (a (b 0 82 83) (b 1 132 133)) ∷ (a (b 1 181 193) (b 1 163 175)) ∷ [])
unfolding base_names standard_libraries prelude encode_utf8
workspaces-57 = refl

pub macros-201 : arrow_rows (((s 0 1) ∷ (s 2 3) ∷ (s 3 9) ∷ (s 10 17) ∷ (s 18 20) ∷ (s 20 21) ∷ (s 22 25) ∷ (s 26 27) ∷ (s 27 40) ∷ (s 41 42) ∷ (s 43 44) ∷ (s 44 56) ∷ (s 57 58) ∷ (s 58 59) ∷ (s 60 61) ∷ (s 61 62) ∷ (s 62 63) ∷ (s 64 65) ∷ (s 66 67) ∷ (s 67 72) ∷ (s 73 74) ∷ (s 74 80) ∷ (s 81 82) ∷ (s 83 84) ∷ (s 84 85) ∷ (s 86 87) ∷ (s 87 93) ∷ (s 94 95) ∷ (s 96 97) ∷ (s 97 101) ∷ (s 102 103) ∷ (s 104 105) ∷ (s 105 106) ∷ (s 106 107) ∷ (s 107 108) ∷ (s 108 109) ∷ (s 109 110) ∷ (s 110 111) ∷ []) ∷ []) ((Some (((g.atom (p 0 0 0 1) (g.spelled (k.Name (codes "b") false)))) ∷ ((g.list (p 1 5 2 21) (g.part (g.atom (p 2 2 3 9) (g.spelled (k.Name (codes "define") false))) (g.part (g.atom (p 3 3 10 17) (g.spelled (k.Name (codes "unquote") false))) (g.part (g.atom (p 4 4 18 20) (g.spelled (k.Truth true))) g.none))))) ∷ ((g.atom (p 6 6 22 25) (g.spelled (k.Character 99)))) ∷ ((g.list (p 7 37 26 111) (g.part (g.atom (p 8 8 27 40) (g.spelled (k.Name (codes "define-syntax") false))) (g.part (g.atom (p 9 9 41 42) (g.spelled (k.Name (codes "t") false))) (g.part (g.list (p 10 36 43 110) (g.part (g.atom (p 11 11 44 56) (g.spelled (k.Name (codes "syntax-rules") false))) (g.part (g.list (p 12 13 57 59) g.none) (g.part (g.list (p 14 35 60 109) (g.part (g.list (p 15 17 61 65) (g.part (g.atom (p 16 16 62 63) (g.spelled (k.Name (codes "_") false))) g.none)) (g.part (g.list (p 18 34 66 108) (g.part (g.atom (p 19 19 67 72) (g.spelled (k.Name (codes "begin") false))) (g.part (g.list (p 20 24 73 85) (g.part (g.atom (p 21 21 74 80) (g.spelled (k.Name (codes "define") false))) (g.part (g.atom (p 22 22 81 82) (g.spelled (k.Name (codes "b") false))) (g.part (g.atom (p 23 23 83 84) (g.spelled (k.Name (codes "t") false))) g.none)))) (g.part (g.list (p 25 33 86 107) (g.part (g.atom (p 26 26 87 93) (g.spelled (k.Name (codes "define") false))) (g.part (g.atom (p 27 27 94 95) (g.spelled (k.Name (codes "x") false))) (g.part (g.list (p 28 32 96 106) (g.part (g.atom (p 29 29 97 101) (g.spelled (k.Name (codes "list") false))) (g.part (g.atom (p 30 30 102 103) (g.spelled (k.Name (codes "b") false))) (g.part (g.atom (p 31 31 104 105) (g.spelled (k.Name (codes "a") false))) g.none)))) g.none)))) g.none)))) g.none))) g.none)))) g.none))))) ∷ [])) ∷ []) ≡ ((a (b 0 41 42) (b 0 83 84)) ∷ [])
unfolding base_names standard_libraries prelude encode_utf8
macros-201 = refl

pub macros-331 : arrow_rows (((s 0 1) ∷ (s 1 7) ∷ (s 8 9) ∷ (s 9 15) ∷ (s 16 20) ∷ (s 20 21) ∷ (s 22 23) ∷ (s 23 29) ∷ (s 30 41) ∷ (s 41 42) ∷ (s 42 43) ∷ (s 44 45) ∷ (s 45 58) ∷ (s 59 60) ∷ (s 60 61) ∷ (s 62 63) ∷ (s 63 64) ∷ (s 65 66) ∷ (s 66 70) ∷ (s 71 72) ∷ (s 73 74) ∷ (s 74 76) ∷ (s 77 78) ∷ (s 79 80) ∷ (s 80 86) ∷ (s 87 92) ∷ (s 93 94) ∷ (s 94 107) ∷ (s 108 109) ∷ (s 110 111) ∷ (s 111 123) ∷ (s 124 125) ∷ (s 125 126) ∷ (s 127 128) ∷ (s 128 129) ∷ (s 129 130) ∷ (s 131 132) ∷ (s 132 133) ∷ (s 134 135) ∷ (s 135 136) ∷ (s 136 137) ∷ (s 137 138) ∷ (s 139 140) ∷ (s 141 142) ∷ (s 142 143) ∷ (s 144 145) ∷ (s 145 156) ∷ (s 157 158) ∷ (s 158 159) ∷ (s 159 162) ∷ (s 163 167) ∷ (s 167 168) ∷ (s 169 170) ∷ (s 170 171) ∷ (s 172 173) ∷ (s 173 177) ∷ (s 178 179) ∷ (s 180 181) ∷ (s 181 182) ∷ (s 182 183) ∷ (s 183 184) ∷ (s 184 185) ∷ (s 185 186) ∷ (s 187 188) ∷ (s 188 194) ∷ (s 195 196) ∷ (s 197 200) ∷ (s 200 201) ∷ (s 202 203) ∷ (s 203 204) ∷ []) ∷ []) ((Some (((g.list (p 0 10 0 43) (g.part (g.atom (p 1 1 1 7) (g.spelled (k.Name (codes "import") false))) (g.part (g.list (p 2 5 8 21) (g.part (g.atom (p 3 3 9 15) (g.spelled (k.Name (codes "scheme") false))) (g.part (g.atom (p 4 4 16 20) (g.spelled (k.Name (codes "base") false))) g.none))) (g.part (g.list (p 6 9 22 42) (g.part (g.atom (p 7 7 23 29) (g.spelled (k.Name (codes "scheme") false))) (g.part (g.atom (p 8 8 30 41) (g.spelled (k.Name (codes "case-lambda") false))) g.none))) g.none))))) ∷ ((g.list (p 11 62 44 186) (g.part (g.atom (p 12 12 45 58) (g.spelled (k.Name (codes "define-values") false))) (g.part (g.list (p 13 16 59 64) (g.part (g.atom (p 14 14 60 61) (g.spelled (k.Name (codes "y") false))) (g.part (g.atom (p 15 15 62 63) (g.spelled (k.Name (codes "a") false))) g.none))) (g.part (g.list (p 17 61 65 185) (g.part (g.atom (p 18 18 66 70) (g.spelled (k.Name (codes "set!") false))) (g.part (g.atom (p 19 19 71 72) (g.spelled (k.Name (codes "x") false))) (g.part (g.list (p 20 60 73 184) (g.part (g.atom (p 21 21 74 76) (g.spelled (k.Name (codes "if") false))) (g.part (g.atom (p 22 22 77 78) (g.spelled (k.Name (codes "x") false))) (g.part (g.list (p 23 44 79 143) (g.part (g.atom (p 24 24 80 86) (g.spelled (k.Name (codes "lambda") false))) (g.part (g.atom (p 25 25 87 92) (g.spelled (k.Name (codes "quote") false))) (g.part (g.list (p 26 41 93 138) (g.part (g.atom (p 27 27 94 107) (g.spelled (k.Name (codes "define-syntax") false))) (g.part (g.atom (p 28 28 108 109) (g.spelled (k.Name (codes "k") false))) (g.part (g.list (p 29 40 110 137) (g.part (g.atom (p 30 30 111 123) (g.spelled (k.Name (codes "syntax-rules") false))) (g.part (g.list (p 31 32 124 126) g.none) (g.part (g.list (p 33 39 127 136) (g.part (g.list (p 34 37 128 133) (g.part (g.atom (p 35 35 129 130) (g.spelled (k.Name (codes "_") false))) (g.part (g.atom (p 36 36 131 132) (g.spelled (k.Name (codes "x") false))) g.none))) (g.part (g.atom (p 38 38 134 135) (g.spelled (k.Name (codes "x") false))) g.none))) g.none)))) g.none)))) (g.part (g.atom (p 42 42 139 140) (g.spelled (k.Name (codes "q") false))) (g.part (g.atom (p 43 43 141 142) (g.spelled (k.Name (codes "f") false))) g.none)))))) (g.part (g.list (p 45 59 144 183) (g.part (g.atom (p 46 46 145 156) (g.spelled (k.Name (codes "cond-expand") false))) (g.part (g.list (p 47 53 157 171) (g.part (g.list (p 48 51 158 168) (g.part (g.atom (p 49 49 159 162) (g.spelled (k.Name (codes "not") false))) (g.part (g.atom (p 50 50 163 167) (g.spelled (k.Name (codes "r7rs") false))) g.none))) (g.part (g.atom (p 52 52 169 170) (g.spelled (k.Name (codes "g") false))) g.none))) (g.part (g.list (p 54 58 172 182) (g.part (g.atom (p 55 55 173 177) (g.spelled (k.Name (codes "else") false))) (g.part (g.atom (p 56 56 178 179) (g.spelled (k.Numeral (codes "1")))) (g.part (g.atom (p 57 57 180 181) (g.spelled (k.Name (codes "y") false))) g.none)))) g.none)))) g.none))))) g.none)))) g.none))))) ∷ ((g.list (p 63 67 187 201) (g.part (g.atom (p 64 64 188 194) (g.spelled (k.Name (codes "define") false))) (g.part (g.atom (p 65 65 195 196) (g.spelled (k.Name (codes "a") false))) (g.part (g.atom (p 66 66 197 200) (g.spelled (k.Character 99))) g.none))))) ∷ ((g.list (p 68 69 202 204) (g.part (g.atom (p 68 68 202 203) (g.implied k.Quote)) (g.part (g.atom (p 69 69 203 204) (g.spelled (k.Name (codes "g") false))) g.none)))) ∷ [])) ∷ []) ≡ ((a (b 0 60 61) (b 0 180 181)) ∷ (a (b 0 62 63) (b 0 195 196)) ∷ (a (b 0 131 132) (b 0 134 135)) ∷ [])
unfolding base_names standard_libraries prelude encode_utf8
macros-331 = refl

pub literal-of-a-later-form : arrow_rows (((s 0 1) ∷ (s 1 14) ∷ (s 15 16) ∷ (s 17 18) ∷ (s 18 30) ∷ (s 31 32) ∷ (s 32 35) ∷ (s 35 36) ∷ (s 37 38) ∷ (s 38 39) ∷ (s 39 40) ∷ (s 41 44) ∷ (s 44 45) ∷ (s 46 47) ∷ (s 47 48) ∷ (s 48 49) ∷ (s 49 50) ∷ (s 51 52) ∷ (s 52 53) ∷ (s 54 57) ∷ (s 57 58) ∷ (s 59 60) ∷ (s 60 66) ∷ (s 67 70) ∷ (s 71 72) ∷ (s 72 73) ∷ []) ∷ []) ((Some (((g.list (p 0 16 0 50) (g.part (g.atom (p 1 1 1 14) (g.spelled (k.Name (codes "define-syntax") false))) (g.part (g.atom (p 2 2 15 16) (g.spelled (k.Name (codes "m") false))) (g.part (g.list (p 3 15 17 49) (g.part (g.atom (p 4 4 18 30) (g.spelled (k.Name (codes "syntax-rules") false))) (g.part (g.list (p 5 7 31 36) (g.part (g.atom (p 6 6 32 35) (g.spelled (k.Name (codes "lit") false))) g.none)) (g.part (g.list (p 8 14 37 48) (g.part (g.list (p 9 12 38 45) (g.part (g.atom (p 10 10 39 40) (g.spelled (k.Name (codes "_") false))) (g.part (g.atom (p 11 11 41 44) (g.spelled (k.Name (codes "lit") false))) g.none))) (g.part (g.atom (p 13 13 46 47) (g.spelled (k.Numeral (codes "1")))) g.none))) g.none)))) g.none))))) ∷ ((g.list (p 17 20 51 58) (g.part (g.atom (p 18 18 52 53) (g.spelled (k.Name (codes "m") false))) (g.part (g.atom (p 19 19 54 57) (g.spelled (k.Name (codes "lit") false))) g.none)))) ∷ ((g.list (p 21 25 59 73) (g.part (g.atom (p 22 22 60 66) (g.spelled (k.Name (codes "define") false))) (g.part (g.atom (p 23 23 67 70) (g.spelled (k.Name (codes "lit") false))) (g.part (g.atom (p 24 24 71 72) (g.spelled (k.Numeral (codes "2")))) g.none))))) ∷ [])) ∷ []) ≡ ((a (b 0 15 16) (b 0 52 53)) ∷ (a (b 0 67 70) (b 0 32 35)) ∷ (a (b 0 67 70) (b 0 41 44)) ∷ (a (b 0 67 70) (b 0 54 57)) ∷ [])
unfolding base_names standard_libraries prelude encode_utf8
literal-of-a-later-form = refl

pub literal-of-a-body : arrow_rows (((s 0 1) ∷ (s 1 7) ∷ (s 8 9) ∷ (s 10 11) ∷ (s 11 12) ∷ (s 13 14) ∷ (s 14 20) ∷ (s 21 22) ∷ (s 22 23) ∷ (s 23 24) ∷ (s 25 26) ∷ (s 26 39) ∷ (s 40 41) ∷ (s 42 43) ∷ (s 43 55) ∷ (s 56 57) ∷ (s 57 58) ∷ (s 58 59) ∷ (s 60 61) ∷ (s 61 62) ∷ (s 62 63) ∷ (s 64 65) ∷ (s 65 66) ∷ (s 67 68) ∷ (s 68 74) ∷ (s 75 76) ∷ (s 77 78) ∷ (s 78 79) ∷ (s 79 80) ∷ (s 80 81) ∷ (s 81 82) ∷ (s 83 84) ∷ (s 84 85) ∷ (s 86 87) ∷ (s 87 88) ∷ (s 89 90) ∷ (s 90 96) ∷ (s 97 98) ∷ (s 99 100) ∷ (s 100 101) ∷ (s 102 103) ∷ (s 103 104) ∷ []) ∷ []) ((Some (((g.list (p 0 4 0 12) (g.part (g.atom (p 1 1 1 7) (g.spelled (k.Name (codes "define") false))) (g.part (g.atom (p 2 2 8 9) (g.spelled (k.Name (codes "k") false))) (g.part (g.atom (p 3 3 10 11) (g.spelled (k.Numeral (codes "0")))) g.none))))) ∷ ((g.list (p 5 41 13 104) (g.part (g.atom (p 6 6 14 20) (g.spelled (k.Name (codes "define") false))) (g.part (g.list (p 7 9 21 24) (g.part (g.atom (p 8 8 22 23) (g.spelled (k.Name (codes "f") false))) g.none)) (g.part (g.list (p 10 30 25 82) (g.part (g.atom (p 11 11 26 39) (g.spelled (k.Name (codes "define-syntax") false))) (g.part (g.atom (p 12 12 40 41) (g.spelled (k.Name (codes "n") false))) (g.part (g.list (p 13 29 42 81) (g.part (g.atom (p 14 14 43 55) (g.spelled (k.Name (codes "syntax-rules") false))) (g.part (g.list (p 15 17 56 59) (g.part (g.atom (p 16 16 57 58) (g.spelled (k.Name (codes "k") false))) g.none)) (g.part (g.list (p 18 28 60 80) (g.part (g.list (p 19 22 61 66) (g.part (g.atom (p 20 20 62 63) (g.spelled (k.Name (codes "_") false))) (g.part (g.atom (p 21 21 64 65) (g.spelled (k.Name (codes "k") false))) g.none))) (g.part (g.list (p 23 27 67 79) (g.part (g.atom (p 24 24 68 74) (g.spelled (k.Name (codes "define") false))) (g.part (g.atom (p 25 25 75 76) (g.spelled (k.Name (codes "q") false))) (g.part (g.atom (p 26 26 77 78) (g.spelled (k.Numeral (codes "1")))) g.none)))) g.none))) g.none)))) g.none)))) (g.part (g.list (p 31 34 83 88) (g.part (g.atom (p 32 32 84 85) (g.spelled (k.Name (codes "n") false))) (g.part (g.atom (p 33 33 86 87) (g.spelled (k.Name (codes "k") false))) g.none))) (g.part (g.list (p 35 39 89 101) (g.part (g.atom (p 36 36 90 96) (g.spelled (k.Name (codes "define") false))) (g.part (g.atom (p 37 37 97 98) (g.spelled (k.Name (codes "k") false))) (g.part (g.atom (p 38 38 99 100) (g.spelled (k.Numeral (codes "2")))) g.none)))) (g.part (g.atom (p 40 40 102 103) (g.spelled (k.Name (codes "k") false))) g.none)))))))) ∷ [])) ∷ []) ≡ ((a (b 0 40 41) (b 0 84 85)) ∷ (a (b 0 97 98) (b 0 57 58)) ∷ (a (b 0 97 98) (b 0 64 65)) ∷ (a (b 0 97 98) (b 0 86 87)) ∷ (a (b 0 97 98) (b 0 102 103)) ∷ [])
unfolding base_names standard_libraries prelude encode_utf8
literal-of-a-body = refl

pub literal-of-the-body-around : arrow_rows (((s 0 1) ∷ (s 1 7) ∷ (s 8 9) ∷ (s 9 10) ∷ (s 10 11) ∷ (s 12 13) ∷ (s 13 19) ∷ (s 20 21) ∷ (s 21 22) ∷ (s 22 23) ∷ (s 24 25) ∷ (s 25 38) ∷ (s 39 40) ∷ (s 41 42) ∷ (s 42 54) ∷ (s 55 56) ∷ (s 56 57) ∷ (s 57 58) ∷ (s 59 60) ∷ (s 60 61) ∷ (s 61 62) ∷ (s 63 64) ∷ (s 64 65) ∷ (s 66 67) ∷ (s 67 73) ∷ (s 74 75) ∷ (s 76 77) ∷ (s 77 78) ∷ (s 78 79) ∷ (s 79 80) ∷ (s 80 81) ∷ (s 82 83) ∷ (s 83 84) ∷ (s 85 86) ∷ (s 86 87) ∷ (s 88 89) ∷ (s 89 90) ∷ (s 91 92) ∷ (s 92 98) ∷ (s 99 100) ∷ (s 101 102) ∷ (s 102 103) ∷ (s 104 105) ∷ (s 105 106) ∷ (s 106 107) ∷ (s 107 108) ∷ []) ∷ []) ((Some (((g.list (p 0 45 0 108) (g.part (g.atom (p 1 1 1 7) (g.spelled (k.Name (codes "define") false))) (g.part (g.list (p 2 4 8 11) (g.part (g.atom (p 3 3 9 10) (g.spelled (k.Name (codes "f") false))) g.none)) (g.part (g.list (p 5 36 12 90) (g.part (g.atom (p 6 6 13 19) (g.spelled (k.Name (codes "define") false))) (g.part (g.list (p 7 9 20 23) (g.part (g.atom (p 8 8 21 22) (g.spelled (k.Name (codes "g") false))) g.none)) (g.part (g.list (p 10 30 24 81) (g.part (g.atom (p 11 11 25 38) (g.spelled (k.Name (codes "define-syntax") false))) (g.part (g.atom (p 12 12 39 40) (g.spelled (k.Name (codes "n") false))) (g.part (g.list (p 13 29 41 80) (g.part (g.atom (p 14 14 42 54) (g.spelled (k.Name (codes "syntax-rules") false))) (g.part (g.list (p 15 17 55 58) (g.part (g.atom (p 16 16 56 57) (g.spelled (k.Name (codes "k") false))) g.none)) (g.part (g.list (p 18 28 59 79) (g.part (g.list (p 19 22 60 65) (g.part (g.atom (p 20 20 61 62) (g.spelled (k.Name (codes "_") false))) (g.part (g.atom (p 21 21 63 64) (g.spelled (k.Name (codes "k") false))) g.none))) (g.part (g.list (p 23 27 66 78) (g.part (g.atom (p 24 24 67 73) (g.spelled (k.Name (codes "define") false))) (g.part (g.atom (p 25 25 74 75) (g.spelled (k.Name (codes "q") false))) (g.part (g.atom (p 26 26 76 77) (g.spelled (k.Numeral (codes "1")))) g.none)))) g.none))) g.none)))) g.none)))) (g.part (g.list (p 31 34 82 87) (g.part (g.atom (p 32 32 83 84) (g.spelled (k.Name (codes "n") false))) (g.part (g.atom (p 33 33 85 86) (g.spelled (k.Name (codes "k") false))) g.none))) (g.part (g.atom (p 35 35 88 89) (g.spelled (k.Numeral (codes "1")))) g.none)))))) (g.part (g.list (p 37 41 91 103) (g.part (g.atom (p 38 38 92 98) (g.spelled (k.Name (codes "define") false))) (g.part (g.atom (p 39 39 99 100) (g.spelled (k.Name (codes "k") false))) (g.part (g.atom (p 40 40 101 102) (g.spelled (k.Numeral (codes "2")))) g.none)))) (g.part (g.list (p 42 44 104 107) (g.part (g.atom (p 43 43 105 106) (g.spelled (k.Name (codes "g") false))) g.none)) g.none))))))) ∷ [])) ∷ []) ≡ ((a (b 0 21 22) (b 0 105 106)) ∷ (a (b 0 39 40) (b 0 83 84)) ∷ (a (b 0 99 100) (b 0 56 57)) ∷ (a (b 0 99 100) (b 0 63 64)) ∷ (a (b 0 99 100) (b 0 85 86)) ∷ [])
unfolding base_names standard_libraries prelude encode_utf8
literal-of-the-body-around = refl

pub literal-over-a-parameter : arrow_rows (((s 0 1) ∷ (s 1 7) ∷ (s 8 9) ∷ (s 9 10) ∷ (s 10 11) ∷ (s 12 13) ∷ (s 13 26) ∷ (s 27 28) ∷ (s 29 30) ∷ (s 30 42) ∷ (s 43 44) ∷ (s 44 45) ∷ (s 45 46) ∷ (s 47 48) ∷ (s 48 49) ∷ (s 49 50) ∷ (s 51 52) ∷ (s 52 53) ∷ (s 54 55) ∷ (s 55 61) ∷ (s 62 63) ∷ (s 64 65) ∷ (s 65 66) ∷ (s 66 67) ∷ (s 67 68) ∷ (s 68 69) ∷ (s 70 71) ∷ (s 71 72) ∷ (s 73 74) ∷ (s 74 75) ∷ (s 76 77) ∷ (s 77 83) ∷ (s 84 85) ∷ (s 86 87) ∷ (s 87 88) ∷ (s 89 90) ∷ (s 90 91) ∷ []) ∷ []) ((Some (((g.list (p 0 36 0 91) (g.part (g.atom (p 1 1 1 7) (g.spelled (k.Name (codes "lambda") false))) (g.part (g.list (p 2 4 8 11) (g.part (g.atom (p 3 3 9 10) (g.spelled (k.Name (codes "k") false))) g.none)) (g.part (g.list (p 5 25 12 69) (g.part (g.atom (p 6 6 13 26) (g.spelled (k.Name (codes "define-syntax") false))) (g.part (g.atom (p 7 7 27 28) (g.spelled (k.Name (codes "n") false))) (g.part (g.list (p 8 24 29 68) (g.part (g.atom (p 9 9 30 42) (g.spelled (k.Name (codes "syntax-rules") false))) (g.part (g.list (p 10 12 43 46) (g.part (g.atom (p 11 11 44 45) (g.spelled (k.Name (codes "k") false))) g.none)) (g.part (g.list (p 13 23 47 67) (g.part (g.list (p 14 17 48 53) (g.part (g.atom (p 15 15 49 50) (g.spelled (k.Name (codes "_") false))) (g.part (g.atom (p 16 16 51 52) (g.spelled (k.Name (codes "k") false))) g.none))) (g.part (g.list (p 18 22 54 66) (g.part (g.atom (p 19 19 55 61) (g.spelled (k.Name (codes "define") false))) (g.part (g.atom (p 20 20 62 63) (g.spelled (k.Name (codes "q") false))) (g.part (g.atom (p 21 21 64 65) (g.spelled (k.Numeral (codes "1")))) g.none)))) g.none))) g.none)))) g.none)))) (g.part (g.list (p 26 29 70 75) (g.part (g.atom (p 27 27 71 72) (g.spelled (k.Name (codes "n") false))) (g.part (g.atom (p 28 28 73 74) (g.spelled (k.Name (codes "k") false))) g.none))) (g.part (g.list (p 30 34 76 88) (g.part (g.atom (p 31 31 77 83) (g.spelled (k.Name (codes "define") false))) (g.part (g.atom (p 32 32 84 85) (g.spelled (k.Name (codes "k") false))) (g.part (g.atom (p 33 33 86 87) (g.spelled (k.Numeral (codes "2")))) g.none)))) (g.part (g.atom (p 35 35 89 90) (g.spelled (k.Name (codes "k") false))) g.none)))))))) ∷ [])) ∷ []) ≡ ((a (b 0 27 28) (b 0 71 72)) ∷ (a (b 0 84 85) (b 0 44 45)) ∷ (a (b 0 84 85) (b 0 51 52)) ∷ (a (b 0 84 85) (b 0 73 74)) ∷ (a (b 0 84 85) (b 0 89 90)) ∷ [])
unfolding base_names standard_libraries prelude encode_utf8
literal-over-a-parameter = refl

pub literal-of-a-local-macro-defined-around : arrow_rows (((s 0 1) ∷ (s 1 7) ∷ (s 8 9) ∷ (s 9 10) ∷ (s 10 11) ∷ (s 12 13) ∷ (s 13 23) ∷ (s 24 25) ∷ (s 25 26) ∷ (s 26 27) ∷ (s 28 29) ∷ (s 29 41) ∷ (s 42 43) ∷ (s 43 44) ∷ (s 44 45) ∷ (s 46 47) ∷ (s 47 48) ∷ (s 48 49) ∷ (s 50 51) ∷ (s 51 52) ∷ (s 53 54) ∷ (s 54 60) ∷ (s 61 62) ∷ (s 63 64) ∷ (s 64 65) ∷ (s 65 66) ∷ (s 66 67) ∷ (s 67 68) ∷ (s 68 69) ∷ (s 70 71) ∷ (s 71 72) ∷ (s 73 74) ∷ (s 74 75) ∷ (s 76 77) ∷ (s 77 78) ∷ (s 79 80) ∷ (s 80 86) ∷ (s 87 88) ∷ (s 89 90) ∷ (s 90 91) ∷ (s 92 93) ∷ (s 93 94) ∷ []) ∷ []) ((Some (((g.list (p 0 41 0 94) (g.part (g.atom (p 1 1 1 7) (g.spelled (k.Name (codes "define") false))) (g.part (g.list (p 2 4 8 11) (g.part (g.atom (p 3 3 9 10) (g.spelled (k.Name (codes "f") false))) g.none)) (g.part (g.list (p 5 34 12 78) (g.part (g.atom (p 6 6 13 23) (g.spelled (k.Name (codes "let-syntax") false))) (g.part (g.list (p 7 28 24 69) (g.part (g.list (p 8 27 25 68) (g.part (g.atom (p 9 9 26 27) (g.spelled (k.Name (codes "n") false))) (g.part (g.list (p 10 26 28 67) (g.part (g.atom (p 11 11 29 41) (g.spelled (k.Name (codes "syntax-rules") false))) (g.part (g.list (p 12 14 42 45) (g.part (g.atom (p 13 13 43 44) (g.spelled (k.Name (codes "k") false))) g.none)) (g.part (g.list (p 15 25 46 66) (g.part (g.list (p 16 19 47 52) (g.part (g.atom (p 17 17 48 49) (g.spelled (k.Name (codes "_") false))) (g.part (g.atom (p 18 18 50 51) (g.spelled (k.Name (codes "k") false))) g.none))) (g.part (g.list (p 20 24 53 65) (g.part (g.atom (p 21 21 54 60) (g.spelled (k.Name (codes "define") false))) (g.part (g.atom (p 22 22 61 62) (g.spelled (k.Name (codes "q") false))) (g.part (g.atom (p 23 23 63 64) (g.spelled (k.Numeral (codes "1")))) g.none)))) g.none))) g.none)))) g.none))) g.none)) (g.part (g.list (p 29 32 70 75) (g.part (g.atom (p 30 30 71 72) (g.spelled (k.Name (codes "n") false))) (g.part (g.atom (p 31 31 73 74) (g.spelled (k.Name (codes "k") false))) g.none))) (g.part (g.atom (p 33 33 76 77) (g.spelled (k.Numeral (codes "1")))) g.none))))) (g.part (g.list (p 35 39 79 91) (g.part (g.atom (p 36 36 80 86) (g.spelled (k.Name (codes "define") false))) (g.part (g.atom (p 37 37 87 88) (g.spelled (k.Name (codes "k") false))) (g.part (g.atom (p 38 38 89 90) (g.spelled (k.Numeral (codes "2")))) g.none)))) (g.part (g.atom (p 40 40 92 93) (g.spelled (k.Name (codes "k") false))) g.none))))))) ∷ [])) ∷ []) ≡ ((a (b 0 26 27) (b 0 71 72)) ∷ (a (b 0 87 88) (b 0 43 44)) ∷ (a (b 0 87 88) (b 0 50 51)) ∷ (a (b 0 87 88) (b 0 73 74)) ∷ (a (b 0 87 88) (b 0 92 93)) ∷ [])
unfolding base_names standard_libraries prelude encode_utf8
literal-of-a-local-macro-defined-around = refl

pub literal-that-a-use-inserted : arrow_rows (((s 0 1) ∷ (s 1 14) ∷ (s 15 16) ∷ (s 17 18) ∷ (s 18 30) ∷ (s 31 32) ∷ (s 32 33) ∷ (s 33 34) ∷ (s 35 36) ∷ (s 36 37) ∷ (s 37 38) ∷ (s 39 40) ∷ (s 40 41) ∷ (s 42 43) ∷ (s 43 44) ∷ (s 44 45) ∷ (s 45 46) ∷ (s 47 48) ∷ (s 48 61) ∷ (s 62 63) ∷ (s 64 65) ∷ (s 65 77) ∷ (s 78 79) ∷ (s 79 80) ∷ (s 81 82) ∷ (s 82 83) ∷ (s 83 84) ∷ (s 84 85) ∷ (s 86 87) ∷ (s 87 88) ∷ (s 89 90) ∷ (s 90 91) ∷ (s 91 92) ∷ (s 92 93) ∷ (s 93 94) ∷ (s 95 96) ∷ (s 96 97) ∷ (s 97 98) ∷ (s 99 100) ∷ (s 100 106) ∷ (s 107 108) ∷ (s 109 110) ∷ (s 110 111) ∷ []) ∷ []) ((Some (((g.list (p 0 16 0 46) (g.part (g.atom (p 1 1 1 14) (g.spelled (k.Name (codes "define-syntax") false))) (g.part (g.atom (p 2 2 15 16) (g.spelled (k.Name (codes "n") false))) (g.part (g.list (p 3 15 17 45) (g.part (g.atom (p 4 4 18 30) (g.spelled (k.Name (codes "syntax-rules") false))) (g.part (g.list (p 5 7 31 34) (g.part (g.atom (p 6 6 32 33) (g.spelled (k.Name (codes "k") false))) g.none)) (g.part (g.list (p 8 14 35 44) (g.part (g.list (p 9 12 36 41) (g.part (g.atom (p 10 10 37 38) (g.spelled (k.Name (codes "_") false))) (g.part (g.atom (p 11 11 39 40) (g.spelled (k.Name (codes "k") false))) g.none))) (g.part (g.atom (p 13 13 42 43) (g.spelled (k.Numeral (codes "1")))) g.none))) g.none)))) g.none))))) ∷ ((g.list (p 17 34 47 94) (g.part (g.atom (p 18 18 48 61) (g.spelled (k.Name (codes "define-syntax") false))) (g.part (g.atom (p 19 19 62 63) (g.spelled (k.Name (codes "u") false))) (g.part (g.list (p 20 33 64 93) (g.part (g.atom (p 21 21 65 77) (g.spelled (k.Name (codes "syntax-rules") false))) (g.part (g.list (p 22 23 78 80) g.none) (g.part (g.list (p 24 32 81 92) (g.part (g.list (p 25 27 82 85) (g.part (g.atom (p 26 26 83 84) (g.spelled (k.Name (codes "_") false))) g.none)) (g.part (g.list (p 28 31 86 91) (g.part (g.atom (p 29 29 87 88) (g.spelled (k.Name (codes "n") false))) (g.part (g.atom (p 30 30 89 90) (g.spelled (k.Name (codes "k") false))) g.none))) g.none))) g.none)))) g.none))))) ∷ ((g.list (p 35 37 95 98) (g.part (g.atom (p 36 36 96 97) (g.spelled (k.Name (codes "u") false))) g.none))) ∷ ((g.list (p 38 42 99 111) (g.part (g.atom (p 39 39 100 106) (g.spelled (k.Name (codes "define") false))) (g.part (g.atom (p 40 40 107 108) (g.spelled (k.Name (codes "k") false))) (g.part (g.atom (p 41 41 109 110) (g.spelled (k.Numeral (codes "2")))) g.none))))) ∷ [])) ∷ []) ≡ ((a (b 0 15 16) (b 0 87 88)) ∷ (a (b 0 62 63) (b 0 96 97)) ∷ (a (b 0 107 108) (b 0 32 33)) ∷ (a (b 0 107 108) (b 0 39 40)) ∷ (a (b 0 107 108) (b 0 89 90)) ∷ [])
unfolding base_names standard_libraries prelude encode_utf8
literal-that-a-use-inserted = refl

pub literal-of-the-same-form : arrow_rows (((s 0 1) ∷ (s 1 14) ∷ (s 15 16) ∷ (s 17 18) ∷ (s 18 30) ∷ (s 31 32) ∷ (s 32 35) ∷ (s 35 36) ∷ (s 37 38) ∷ (s 38 39) ∷ (s 39 40) ∷ (s 41 44) ∷ (s 44 45) ∷ (s 46 47) ∷ (s 47 48) ∷ (s 48 49) ∷ (s 49 50) ∷ (s 51 52) ∷ (s 52 57) ∷ (s 58 59) ∷ (s 59 60) ∷ (s 61 64) ∷ (s 64 65) ∷ (s 66 67) ∷ (s 67 73) ∷ (s 74 77) ∷ (s 78 79) ∷ (s 79 80) ∷ (s 80 81) ∷ []) ∷ []) ((Some (((g.list (p 0 16 0 50) (g.part (g.atom (p 1 1 1 14) (g.spelled (k.Name (codes "define-syntax") false))) (g.part (g.atom (p 2 2 15 16) (g.spelled (k.Name (codes "m") false))) (g.part (g.list (p 3 15 17 49) (g.part (g.atom (p 4 4 18 30) (g.spelled (k.Name (codes "syntax-rules") false))) (g.part (g.list (p 5 7 31 36) (g.part (g.atom (p 6 6 32 35) (g.spelled (k.Name (codes "lit") false))) g.none)) (g.part (g.list (p 8 14 37 48) (g.part (g.list (p 9 12 38 45) (g.part (g.atom (p 10 10 39 40) (g.spelled (k.Name (codes "_") false))) (g.part (g.atom (p 11 11 41 44) (g.spelled (k.Name (codes "lit") false))) g.none))) (g.part (g.atom (p 13 13 46 47) (g.spelled (k.Numeral (codes "1")))) g.none))) g.none)))) g.none))))) ∷ ((g.list (p 17 28 51 81) (g.part (g.atom (p 18 18 52 57) (g.spelled (k.Name (codes "begin") false))) (g.part (g.list (p 19 22 58 65) (g.part (g.atom (p 20 20 59 60) (g.spelled (k.Name (codes "m") false))) (g.part (g.atom (p 21 21 61 64) (g.spelled (k.Name (codes "lit") false))) g.none))) (g.part (g.list (p 23 27 66 80) (g.part (g.atom (p 24 24 67 73) (g.spelled (k.Name (codes "define") false))) (g.part (g.atom (p 25 25 74 77) (g.spelled (k.Name (codes "lit") false))) (g.part (g.atom (p 26 26 78 79) (g.spelled (k.Numeral (codes "2")))) g.none)))) g.none))))) ∷ [])) ∷ []) ≡ ((a (b 0 15 16) (b 0 59 60)) ∷ (a (b 0 74 77) (b 0 32 35)) ∷ (a (b 0 74 77) (b 0 41 44)) ∷ (a (b 0 74 77) (b 0 61 64)) ∷ [])
unfolding base_names standard_libraries prelude encode_utf8
literal-of-the-same-form = refl

pub literal-of-a-broken-form : arrow_rows (((s 0 1) ∷ (s 1 14) ∷ (s 15 16) ∷ (s 17 18) ∷ (s 18 30) ∷ (s 31 32) ∷ (s 32 35) ∷ (s 35 36) ∷ (s 37 38) ∷ (s 38 39) ∷ (s 39 40) ∷ (s 41 44) ∷ (s 44 45) ∷ (s 46 47) ∷ (s 47 48) ∷ (s 48 49) ∷ (s 49 50) ∷ (s 51 52) ∷ (s 52 57) ∷ (s 58 59) ∷ (s 59 60) ∷ (s 61 64) ∷ (s 64 65) ∷ (s 66 67) ∷ (s 67 69) ∷ (s 69 70) ∷ (s 70 71) ∷ (s 72 73) ∷ (s 73 79) ∷ (s 80 83) ∷ (s 84 85) ∷ (s 85 86) ∷ []) ∷ []) ((Some (((g.list (p 0 16 0 50) (g.part (g.atom (p 1 1 1 14) (g.spelled (k.Name (codes "define-syntax") false))) (g.part (g.atom (p 2 2 15 16) (g.spelled (k.Name (codes "m") false))) (g.part (g.list (p 3 15 17 49) (g.part (g.atom (p 4 4 18 30) (g.spelled (k.Name (codes "syntax-rules") false))) (g.part (g.list (p 5 7 31 36) (g.part (g.atom (p 6 6 32 35) (g.spelled (k.Name (codes "lit") false))) g.none)) (g.part (g.list (p 8 14 37 48) (g.part (g.list (p 9 12 38 45) (g.part (g.atom (p 10 10 39 40) (g.spelled (k.Name (codes "_") false))) (g.part (g.atom (p 11 11 41 44) (g.spelled (k.Name (codes "lit") false))) g.none))) (g.part (g.atom (p 13 13 46 47) (g.spelled (k.Numeral (codes "1")))) g.none))) g.none)))) g.none))))) ∷ ((g.list (p 17 26 51 71) (g.part (g.atom (p 18 18 52 57) (g.spelled (k.Name (codes "begin") false))) (g.part (g.list (p 19 22 58 65) (g.part (g.atom (p 20 20 59 60) (g.spelled (k.Name (codes "m") false))) (g.part (g.atom (p 21 21 61 64) (g.spelled (k.Name (codes "lit") false))) g.none))) (g.part (g.list (p 23 25 66 70) (g.part (g.atom (p 24 24 67 69) (g.spelled (k.Name (codes "if") false))) g.none)) g.none))))) ∷ ((g.list (p 27 31 72 86) (g.part (g.atom (p 28 28 73 79) (g.spelled (k.Name (codes "define") false))) (g.part (g.atom (p 29 29 80 83) (g.spelled (k.Name (codes "lit") false))) (g.part (g.atom (p 30 30 84 85) (g.spelled (k.Numeral (codes "2")))) g.none))))) ∷ [])) ∷ []) ≡ ((a (b 0 80 83) (b 0 32 35)) ∷ (a (b 0 80 83) (b 0 41 44)) ∷ [])
unfolding base_names standard_libraries prelude encode_utf8
literal-of-a-broken-form = refl

pub literal-of-later-values : arrow_rows (((s 0 1) ∷ (s 1 14) ∷ (s 15 16) ∷ (s 17 18) ∷ (s 18 30) ∷ (s 31 32) ∷ (s 32 35) ∷ (s 35 36) ∷ (s 37 38) ∷ (s 38 39) ∷ (s 39 40) ∷ (s 41 44) ∷ (s 44 45) ∷ (s 46 47) ∷ (s 47 48) ∷ (s 48 49) ∷ (s 49 50) ∷ (s 51 52) ∷ (s 52 53) ∷ (s 54 57) ∷ (s 57 58) ∷ (s 59 60) ∷ (s 60 73) ∷ (s 74 75) ∷ (s 75 76) ∷ (s 77 80) ∷ (s 80 81) ∷ (s 82 83) ∷ (s 83 89) ∷ (s 90 91) ∷ (s 92 93) ∷ (s 93 94) ∷ (s 94 95) ∷ []) ∷ []) ((Some (((g.list (p 0 16 0 50) (g.part (g.atom (p 1 1 1 14) (g.spelled (k.Name (codes "define-syntax") false))) (g.part (g.atom (p 2 2 15 16) (g.spelled (k.Name (codes "m") false))) (g.part (g.list (p 3 15 17 49) (g.part (g.atom (p 4 4 18 30) (g.spelled (k.Name (codes "syntax-rules") false))) (g.part (g.list (p 5 7 31 36) (g.part (g.atom (p 6 6 32 35) (g.spelled (k.Name (codes "lit") false))) g.none)) (g.part (g.list (p 8 14 37 48) (g.part (g.list (p 9 12 38 45) (g.part (g.atom (p 10 10 39 40) (g.spelled (k.Name (codes "_") false))) (g.part (g.atom (p 11 11 41 44) (g.spelled (k.Name (codes "lit") false))) g.none))) (g.part (g.atom (p 13 13 46 47) (g.spelled (k.Numeral (codes "1")))) g.none))) g.none)))) g.none))))) ∷ ((g.list (p 17 20 51 58) (g.part (g.atom (p 18 18 52 53) (g.spelled (k.Name (codes "m") false))) (g.part (g.atom (p 19 19 54 57) (g.spelled (k.Name (codes "lit") false))) g.none)))) ∷ ((g.list (p 21 32 59 95) (g.part (g.atom (p 22 22 60 73) (g.spelled (k.Name (codes "define-values") false))) (g.part (g.list (p 23 26 74 81) (g.part (g.atom (p 24 24 75 76) (g.spelled (k.Name (codes "a") false))) (g.part (g.atom (p 25 25 77 80) (g.spelled (k.Name (codes "lit") false))) g.none))) (g.part (g.list (p 27 31 82 94) (g.part (g.atom (p 28 28 83 89) (g.spelled (k.Name (codes "values") false))) (g.part (g.atom (p 29 29 90 91) (g.spelled (k.Numeral (codes "1")))) (g.part (g.atom (p 30 30 92 93) (g.spelled (k.Numeral (codes "2")))) g.none)))) g.none))))) ∷ [])) ∷ []) ≡ ((a (b 0 15 16) (b 0 52 53)) ∷ (a (b 0 77 80) (b 0 32 35)) ∷ (a (b 0 77 80) (b 0 41 44)) ∷ (a (b 0 77 80) (b 0 54 57)) ∷ [])
unfolding base_names standard_libraries prelude encode_utf8
literal-of-later-values = refl

pub literal-of-values-in-a-body : arrow_rows (((s 0 1) ∷ (s 1 7) ∷ (s 8 9) ∷ (s 9 10) ∷ (s 10 11) ∷ (s 12 13) ∷ (s 13 26) ∷ (s 27 28) ∷ (s 29 30) ∷ (s 30 42) ∷ (s 43 44) ∷ (s 44 45) ∷ (s 45 46) ∷ (s 47 48) ∷ (s 48 49) ∷ (s 49 50) ∷ (s 51 52) ∷ (s 52 53) ∷ (s 54 55) ∷ (s 55 61) ∷ (s 62 63) ∷ (s 64 65) ∷ (s 65 66) ∷ (s 66 67) ∷ (s 67 68) ∷ (s 68 69) ∷ (s 70 71) ∷ (s 71 72) ∷ (s 73 74) ∷ (s 74 75) ∷ (s 76 77) ∷ (s 77 90) ∷ (s 91 92) ∷ (s 92 93) ∷ (s 94 95) ∷ (s 96 97) ∷ (s 98 99) ∷ (s 99 100) ∷ (s 101 102) ∷ (s 102 103) ∷ (s 104 105) ∷ (s 106 107) ∷ (s 108 109) ∷ (s 109 110) ∷ (s 110 111) ∷ (s 112 113) ∷ (s 113 114) ∷ []) ∷ []) ((Some (((g.list (p 0 46 0 114) (g.part (g.atom (p 1 1 1 7) (g.spelled (k.Name (codes "define") false))) (g.part (g.list (p 2 4 8 11) (g.part (g.atom (p 3 3 9 10) (g.spelled (k.Name (codes "f") false))) g.none)) (g.part (g.list (p 5 25 12 69) (g.part (g.atom (p 6 6 13 26) (g.spelled (k.Name (codes "define-syntax") false))) (g.part (g.atom (p 7 7 27 28) (g.spelled (k.Name (codes "n") false))) (g.part (g.list (p 8 24 29 68) (g.part (g.atom (p 9 9 30 42) (g.spelled (k.Name (codes "syntax-rules") false))) (g.part (g.list (p 10 12 43 46) (g.part (g.atom (p 11 11 44 45) (g.spelled (k.Name (codes "k") false))) g.none)) (g.part (g.list (p 13 23 47 67) (g.part (g.list (p 14 17 48 53) (g.part (g.atom (p 15 15 49 50) (g.spelled (k.Name (codes "_") false))) (g.part (g.atom (p 16 16 51 52) (g.spelled (k.Name (codes "k") false))) g.none))) (g.part (g.list (p 18 22 54 66) (g.part (g.atom (p 19 19 55 61) (g.spelled (k.Name (codes "define") false))) (g.part (g.atom (p 20 20 62 63) (g.spelled (k.Name (codes "q") false))) (g.part (g.atom (p 21 21 64 65) (g.spelled (k.Numeral (codes "1")))) g.none)))) g.none))) g.none)))) g.none)))) (g.part (g.list (p 26 29 70 75) (g.part (g.atom (p 27 27 71 72) (g.spelled (k.Name (codes "n") false))) (g.part (g.atom (p 28 28 73 74) (g.spelled (k.Name (codes "k") false))) g.none))) (g.part (g.list (p 30 44 76 111) (g.part (g.atom (p 31 31 77 90) (g.spelled (k.Name (codes "define-values") false))) (g.part (g.list (p 32 37 91 100) (g.part (g.atom (p 33 33 92 93) (g.spelled (k.Name (codes "a") false))) (g.part (g.atom (p 34 34 94 95) (g.spelled (k.Name (codes "k") false))) (g.tail (g.atom (p 36 36 98 99) (g.spelled (k.Name (codes "b") false))))))) (g.part (g.list (p 38 43 101 110) (g.part (g.atom (p 39 39 102 103) (g.spelled (k.Name (codes "g") false))) (g.part (g.atom (p 40 40 104 105) (g.spelled (k.Name (codes "a") false))) (g.part (g.atom (p 41 41 106 107) (g.spelled (k.Name (codes "k") false))) (g.part (g.atom (p 42 42 108 109) (g.spelled (k.Name (codes "b") false))) g.none))))) g.none)))) (g.part (g.atom (p 45 45 112 113) (g.spelled (k.Name (codes "k") false))) g.none)))))))) ∷ [])) ∷ []) ≡ ((a (b 0 27 28) (b 0 71 72)) ∷ (a (b 0 92 93) (b 0 104 105)) ∷ (a (b 0 94 95) (b 0 44 45)) ∷ (a (b 0 94 95) (b 0 51 52)) ∷ (a (b 0 94 95) (b 0 73 74)) ∷ (a (b 0 94 95) (b 0 106 107)) ∷ (a (b 0 94 95) (b 0 112 113)) ∷ (a (b 0 98 99) (b 0 108 109)) ∷ [])
unfolding base_names standard_libraries prelude encode_utf8
literal-of-values-in-a-body = refl

pub literal-of-a-record-in-a-body : arrow_rows (((s 0 1) ∷ (s 1 7) ∷ (s 8 9) ∷ (s 9 10) ∷ (s 10 11) ∷ (s 12 13) ∷ (s 13 26) ∷ (s 27 28) ∷ (s 29 30) ∷ (s 30 42) ∷ (s 43 44) ∷ (s 44 45) ∷ (s 45 46) ∷ (s 47 48) ∷ (s 48 49) ∷ (s 49 50) ∷ (s 51 52) ∷ (s 52 53) ∷ (s 54 55) ∷ (s 55 61) ∷ (s 62 63) ∷ (s 64 65) ∷ (s 65 66) ∷ (s 66 67) ∷ (s 67 68) ∷ (s 68 69) ∷ (s 70 71) ∷ (s 71 72) ∷ (s 73 74) ∷ (s 74 75) ∷ (s 76 77) ∷ (s 77 95) ∷ (s 96 97) ∷ (s 98 99) ∷ (s 99 100) ∷ (s 101 102) ∷ (s 102 103) ∷ (s 104 105) ∷ (s 106 107) ∷ (s 107 108) ∷ (s 109 110) ∷ (s 110 111) ∷ (s 111 112) ∷ (s 113 114) ∷ (s 114 115) ∷ (s 116 117) ∷ (s 117 118) ∷ (s 118 119) ∷ []) ∷ []) ((Some (((g.list (p 0 47 0 119) (g.part (g.atom (p 1 1 1 7) (g.spelled (k.Name (codes "define") false))) (g.part (g.list (p 2 4 8 11) (g.part (g.atom (p 3 3 9 10) (g.spelled (k.Name (codes "f") false))) g.none)) (g.part (g.list (p 5 25 12 69) (g.part (g.atom (p 6 6 13 26) (g.spelled (k.Name (codes "define-syntax") false))) (g.part (g.atom (p 7 7 27 28) (g.spelled (k.Name (codes "n") false))) (g.part (g.list (p 8 24 29 68) (g.part (g.atom (p 9 9 30 42) (g.spelled (k.Name (codes "syntax-rules") false))) (g.part (g.list (p 10 12 43 46) (g.part (g.atom (p 11 11 44 45) (g.spelled (k.Name (codes "k") false))) g.none)) (g.part (g.list (p 13 23 47 67) (g.part (g.list (p 14 17 48 53) (g.part (g.atom (p 15 15 49 50) (g.spelled (k.Name (codes "_") false))) (g.part (g.atom (p 16 16 51 52) (g.spelled (k.Name (codes "k") false))) g.none))) (g.part (g.list (p 18 22 54 66) (g.part (g.atom (p 19 19 55 61) (g.spelled (k.Name (codes "define") false))) (g.part (g.atom (p 20 20 62 63) (g.spelled (k.Name (codes "q") false))) (g.part (g.atom (p 21 21 64 65) (g.spelled (k.Numeral (codes "1")))) g.none)))) g.none))) g.none)))) g.none)))) (g.part (g.list (p 26 29 70 75) (g.part (g.atom (p 27 27 71 72) (g.spelled (k.Name (codes "n") false))) (g.part (g.atom (p 28 28 73 74) (g.spelled (k.Name (codes "k") false))) g.none))) (g.part (g.list (p 30 42 76 112) (g.part (g.atom (p 31 31 77 95) (g.spelled (k.Name (codes "define-record-type") false))) (g.part (g.atom (p 32 32 96 97) (g.spelled (k.Name (codes "r") false))) (g.part (g.list (p 33 36 98 103) (g.part (g.atom (p 34 34 99 100) (g.spelled (k.Name (codes "k") false))) (g.part (g.atom (p 35 35 101 102) (g.spelled (k.Name (codes "x") false))) g.none))) (g.part (g.atom (p 37 37 104 105) (g.spelled (k.Name (codes "p") false))) (g.part (g.list (p 38 41 106 111) (g.part (g.atom (p 39 39 107 108) (g.spelled (k.Name (codes "x") false))) (g.part (g.atom (p 40 40 109 110) (g.spelled (k.Name (codes "a") false))) g.none))) g.none)))))) (g.part (g.list (p 43 46 113 118) (g.part (g.atom (p 44 44 114 115) (g.spelled (k.Name (codes "k") false))) (g.part (g.atom (p 45 45 116 117) (g.spelled (k.Numeral (codes "1")))) g.none))) g.none)))))))) ∷ [])) ∷ []) ≡ ((a (b 0 27 28) (b 0 71 72)) ∷ (a (b 0 99 100) (b 0 44 45)) ∷ (a (b 0 99 100) (b 0 51 52)) ∷ (a (b 0 99 100) (b 0 73 74)) ∷ (a (b 0 99 100) (b 0 114 115)) ∷ (a (b 0 107 108) (b 0 101 102)) ∷ [])
unfolding base_names standard_libraries prelude encode_utf8
literal-of-a-record-in-a-body = refl

pub literal-beside-a-nested-body : arrow_rows (((s 0 1) ∷ (s 1 7) ∷ (s 8 9) ∷ (s 10 11) ∷ (s 11 12) ∷ (s 13 14) ∷ (s 14 20) ∷ (s 21 22) ∷ (s 22 23) ∷ (s 23 24) ∷ (s 25 26) ∷ (s 26 39) ∷ (s 40 41) ∷ (s 42 43) ∷ (s 43 55) ∷ (s 56 57) ∷ (s 57 58) ∷ (s 58 59) ∷ (s 60 61) ∷ (s 61 62) ∷ (s 62 63) ∷ (s 64 65) ∷ (s 65 66) ∷ (s 67 68) ∷ (s 68 74) ∷ (s 75 76) ∷ (s 77 78) ∷ (s 78 79) ∷ (s 79 80) ∷ (s 80 81) ∷ (s 81 82) ∷ (s 83 84) ∷ (s 84 85) ∷ (s 86 87) ∷ (s 87 88) ∷ (s 89 90) ∷ (s 90 96) ∷ (s 97 98) ∷ (s 98 99) ∷ (s 99 100) ∷ (s 101 102) ∷ (s 102 108) ∷ (s 109 110) ∷ (s 111 112) ∷ (s 112 113) ∷ (s 114 115) ∷ (s 115 116) ∷ (s 117 118) ∷ (s 118 124) ∷ (s 125 126) ∷ (s 127 128) ∷ (s 128 129) ∷ (s 130 131) ∷ (s 131 132) ∷ (s 132 133) ∷ (s 133 134) ∷ []) ∷ []) ((Some (((g.list (p 0 4 0 12) (g.part (g.atom (p 1 1 1 7) (g.spelled (k.Name (codes "define") false))) (g.part (g.atom (p 2 2 8 9) (g.spelled (k.Name (codes "k") false))) (g.part (g.atom (p 3 3 10 11) (g.spelled (k.Numeral (codes "0")))) g.none))))) ∷ ((g.list (p 5 55 13 134) (g.part (g.atom (p 6 6 14 20) (g.spelled (k.Name (codes "define") false))) (g.part (g.list (p 7 9 21 24) (g.part (g.atom (p 8 8 22 23) (g.spelled (k.Name (codes "f") false))) g.none)) (g.part (g.list (p 10 30 25 82) (g.part (g.atom (p 11 11 26 39) (g.spelled (k.Name (codes "define-syntax") false))) (g.part (g.atom (p 12 12 40 41) (g.spelled (k.Name (codes "n") false))) (g.part (g.list (p 13 29 42 81) (g.part (g.atom (p 14 14 43 55) (g.spelled (k.Name (codes "syntax-rules") false))) (g.part (g.list (p 15 17 56 59) (g.part (g.atom (p 16 16 57 58) (g.spelled (k.Name (codes "k") false))) g.none)) (g.part (g.list (p 18 28 60 80) (g.part (g.list (p 19 22 61 66) (g.part (g.atom (p 20 20 62 63) (g.spelled (k.Name (codes "_") false))) (g.part (g.atom (p 21 21 64 65) (g.spelled (k.Name (codes "k") false))) g.none))) (g.part (g.list (p 23 27 67 79) (g.part (g.atom (p 24 24 68 74) (g.spelled (k.Name (codes "define") false))) (g.part (g.atom (p 25 25 75 76) (g.spelled (k.Name (codes "q") false))) (g.part (g.atom (p 26 26 77 78) (g.spelled (k.Numeral (codes "1")))) g.none)))) g.none))) g.none)))) g.none)))) (g.part (g.list (p 31 34 83 88) (g.part (g.atom (p 32 32 84 85) (g.spelled (k.Name (codes "n") false))) (g.part (g.atom (p 33 33 86 87) (g.spelled (k.Name (codes "k") false))) g.none))) (g.part (g.list (p 35 46 89 116) (g.part (g.atom (p 36 36 90 96) (g.spelled (k.Name (codes "define") false))) (g.part (g.list (p 37 39 97 100) (g.part (g.atom (p 38 38 98 99) (g.spelled (k.Name (codes "g") false))) g.none)) (g.part (g.list (p 40 44 101 113) (g.part (g.atom (p 41 41 102 108) (g.spelled (k.Name (codes "define") false))) (g.part (g.atom (p 42 42 109 110) (g.spelled (k.Name (codes "k") false))) (g.part (g.atom (p 43 43 111 112) (g.spelled (k.Numeral (codes "3")))) g.none)))) (g.part (g.atom (p 45 45 114 115) (g.spelled (k.Name (codes "k") false))) g.none))))) (g.part (g.list (p 47 51 117 129) (g.part (g.atom (p 48 48 118 124) (g.spelled (k.Name (codes "define") false))) (g.part (g.atom (p 49 49 125 126) (g.spelled (k.Name (codes "k") false))) (g.part (g.atom (p 50 50 127 128) (g.spelled (k.Numeral (codes "2")))) g.none)))) (g.part (g.list (p 52 54 130 133) (g.part (g.atom (p 53 53 131 132) (g.spelled (k.Name (codes "g") false))) g.none)) g.none))))))))) ∷ [])) ∷ []) ≡ ((a (b 0 40 41) (b 0 84 85)) ∷ (a (b 0 98 99) (b 0 131 132)) ∷ (a (b 0 109 110) (b 0 114 115)) ∷ (a (b 0 125 126) (b 0 57 58)) ∷ (a (b 0 125 126) (b 0 64 65)) ∷ (a (b 0 125 126) (b 0 86 87)) ∷ [])
unfolding base_names standard_libraries prelude encode_utf8
literal-beside-a-nested-body = refl

pub literal-in-an-expression : arrow_rows (((s 0 1) ∷ (s 1 7) ∷ (s 8 9) ∷ (s 9 10) ∷ (s 10 11) ∷ (s 12 13) ∷ (s 13 26) ∷ (s 27 28) ∷ (s 29 30) ∷ (s 30 42) ∷ (s 43 44) ∷ (s 44 45) ∷ (s 45 46) ∷ (s 47 48) ∷ (s 48 49) ∷ (s 49 50) ∷ (s 51 52) ∷ (s 52 53) ∷ (s 54 55) ∷ (s 55 56) ∷ (s 56 57) ∷ (s 57 58) ∷ (s 59 60) ∷ (s 60 66) ∷ (s 67 68) ∷ (s 69 70) ∷ (s 70 71) ∷ (s 72 73) ∷ (s 73 74) ∷ (s 74 75) ∷ (s 76 77) ∷ (s 77 83) ∷ (s 84 85) ∷ (s 86 87) ∷ (s 87 88) ∷ (s 89 90) ∷ (s 90 91) ∷ []) ∷ []) ((Some (((g.list (p 0 36 0 91) (g.part (g.atom (p 1 1 1 7) (g.spelled (k.Name (codes "define") false))) (g.part (g.list (p 2 4 8 11) (g.part (g.atom (p 3 3 9 10) (g.spelled (k.Name (codes "f") false))) g.none)) (g.part (g.list (p 5 21 12 58) (g.part (g.atom (p 6 6 13 26) (g.spelled (k.Name (codes "define-syntax") false))) (g.part (g.atom (p 7 7 27 28) (g.spelled (k.Name (codes "n") false))) (g.part (g.list (p 8 20 29 57) (g.part (g.atom (p 9 9 30 42) (g.spelled (k.Name (codes "syntax-rules") false))) (g.part (g.list (p 10 12 43 46) (g.part (g.atom (p 11 11 44 45) (g.spelled (k.Name (codes "k") false))) g.none)) (g.part (g.list (p 13 19 47 56) (g.part (g.list (p 14 17 48 53) (g.part (g.atom (p 15 15 49 50) (g.spelled (k.Name (codes "_") false))) (g.part (g.atom (p 16 16 51 52) (g.spelled (k.Name (codes "k") false))) g.none))) (g.part (g.atom (p 18 18 54 55) (g.spelled (k.Numeral (codes "1")))) g.none))) g.none)))) g.none)))) (g.part (g.list (p 22 29 59 75) (g.part (g.atom (p 23 23 60 66) (g.spelled (k.Name (codes "define") false))) (g.part (g.atom (p 24 24 67 68) (g.spelled (k.Name (codes "a") false))) (g.part (g.list (p 25 28 69 74) (g.part (g.atom (p 26 26 70 71) (g.spelled (k.Name (codes "n") false))) (g.part (g.atom (p 27 27 72 73) (g.spelled (k.Name (codes "k") false))) g.none))) g.none)))) (g.part (g.list (p 30 34 76 88) (g.part (g.atom (p 31 31 77 83) (g.spelled (k.Name (codes "define") false))) (g.part (g.atom (p 32 32 84 85) (g.spelled (k.Name (codes "k") false))) (g.part (g.atom (p 33 33 86 87) (g.spelled (k.Numeral (codes "2")))) g.none)))) (g.part (g.atom (p 35 35 89 90) (g.spelled (k.Name (codes "a") false))) g.none)))))))) ∷ [])) ∷ []) ≡ ((a (b 0 27 28) (b 0 70 71)) ∷ (a (b 0 67 68) (b 0 89 90)) ∷ (a (b 0 84 85) (b 0 44 45)) ∷ (a (b 0 84 85) (b 0 51 52)) ∷ (a (b 0 84 85) (b 0 72 73)) ∷ [])
unfolding base_names standard_libraries prelude encode_utf8
literal-in-an-expression = refl

pub literal-not-of-another-body : arrow_rows (((s 0 1) ∷ (s 1 14) ∷ (s 15 16) ∷ (s 17 18) ∷ (s 18 30) ∷ (s 31 32) ∷ (s 32 35) ∷ (s 35 36) ∷ (s 37 38) ∷ (s 38 39) ∷ (s 39 40) ∷ (s 41 44) ∷ (s 44 45) ∷ (s 46 47) ∷ (s 47 48) ∷ (s 48 49) ∷ (s 49 50) ∷ (s 51 52) ∷ (s 52 53) ∷ (s 54 57) ∷ (s 57 58) ∷ (s 59 60) ∷ (s 60 66) ∷ (s 67 68) ∷ (s 68 69) ∷ (s 69 70) ∷ (s 71 72) ∷ (s 72 78) ∷ (s 79 82) ∷ (s 83 84) ∷ (s 84 85) ∷ (s 86 89) ∷ (s 89 90) ∷ []) ∷ []) ((Some (((g.list (p 0 16 0 50) (g.part (g.atom (p 1 1 1 14) (g.spelled (k.Name (codes "define-syntax") false))) (g.part (g.atom (p 2 2 15 16) (g.spelled (k.Name (codes "m") false))) (g.part (g.list (p 3 15 17 49) (g.part (g.atom (p 4 4 18 30) (g.spelled (k.Name (codes "syntax-rules") false))) (g.part (g.list (p 5 7 31 36) (g.part (g.atom (p 6 6 32 35) (g.spelled (k.Name (codes "lit") false))) g.none)) (g.part (g.list (p 8 14 37 48) (g.part (g.list (p 9 12 38 45) (g.part (g.atom (p 10 10 39 40) (g.spelled (k.Name (codes "_") false))) (g.part (g.atom (p 11 11 41 44) (g.spelled (k.Name (codes "lit") false))) g.none))) (g.part (g.atom (p 13 13 46 47) (g.spelled (k.Numeral (codes "1")))) g.none))) g.none)))) g.none))))) ∷ ((g.list (p 17 20 51 58) (g.part (g.atom (p 18 18 52 53) (g.spelled (k.Name (codes "m") false))) (g.part (g.atom (p 19 19 54 57) (g.spelled (k.Name (codes "lit") false))) g.none)))) ∷ ((g.list (p 21 32 59 90) (g.part (g.atom (p 22 22 60 66) (g.spelled (k.Name (codes "define") false))) (g.part (g.list (p 23 25 67 70) (g.part (g.atom (p 24 24 68 69) (g.spelled (k.Name (codes "f") false))) g.none)) (g.part (g.list (p 26 30 71 85) (g.part (g.atom (p 27 27 72 78) (g.spelled (k.Name (codes "define") false))) (g.part (g.atom (p 28 28 79 82) (g.spelled (k.Name (codes "lit") false))) (g.part (g.atom (p 29 29 83 84) (g.spelled (k.Numeral (codes "2")))) g.none)))) (g.part (g.atom (p 31 31 86 89) (g.spelled (k.Name (codes "lit") false))) g.none)))))) ∷ [])) ∷ []) ≡ ((a (b 0 15 16) (b 0 52 53)) ∷ (a (b 0 79 82) (b 0 86 89)) ∷ [])
unfolding base_names standard_libraries prelude encode_utf8
literal-not-of-another-body = refl

pub literal-defined-as-a-macro : arrow_rows (((s 0 1) ∷ (s 1 14) ∷ (s 15 16) ∷ (s 17 18) ∷ (s 18 30) ∷ (s 31 32) ∷ (s 32 35) ∷ (s 35 36) ∷ (s 37 38) ∷ (s 38 39) ∷ (s 39 40) ∷ (s 41 44) ∷ (s 44 45) ∷ (s 46 47) ∷ (s 47 48) ∷ (s 48 49) ∷ (s 49 50) ∷ (s 51 52) ∷ (s 52 53) ∷ (s 54 57) ∷ (s 57 58) ∷ (s 59 60) ∷ (s 60 73) ∷ (s 74 77) ∷ (s 78 79) ∷ (s 79 91) ∷ (s 92 93) ∷ (s 93 94) ∷ (s 95 96) ∷ (s 96 97) ∷ (s 97 98) ∷ (s 98 99) ∷ (s 100 101) ∷ (s 101 102) ∷ (s 102 103) ∷ (s 103 104) ∷ (s 105 106) ∷ (s 106 109) ∷ (s 109 110) ∷ []) ∷ []) ((Some (((g.list (p 0 16 0 50) (g.part (g.atom (p 1 1 1 14) (g.spelled (k.Name (codes "define-syntax") false))) (g.part (g.atom (p 2 2 15 16) (g.spelled (k.Name (codes "m") false))) (g.part (g.list (p 3 15 17 49) (g.part (g.atom (p 4 4 18 30) (g.spelled (k.Name (codes "syntax-rules") false))) (g.part (g.list (p 5 7 31 36) (g.part (g.atom (p 6 6 32 35) (g.spelled (k.Name (codes "lit") false))) g.none)) (g.part (g.list (p 8 14 37 48) (g.part (g.list (p 9 12 38 45) (g.part (g.atom (p 10 10 39 40) (g.spelled (k.Name (codes "_") false))) (g.part (g.atom (p 11 11 41 44) (g.spelled (k.Name (codes "lit") false))) g.none))) (g.part (g.atom (p 13 13 46 47) (g.spelled (k.Numeral (codes "1")))) g.none))) g.none)))) g.none))))) ∷ ((g.list (p 17 20 51 58) (g.part (g.atom (p 18 18 52 53) (g.spelled (k.Name (codes "m") false))) (g.part (g.atom (p 19 19 54 57) (g.spelled (k.Name (codes "lit") false))) g.none)))) ∷ ((g.list (p 21 35 59 104) (g.part (g.atom (p 22 22 60 73) (g.spelled (k.Name (codes "define-syntax") false))) (g.part (g.atom (p 23 23 74 77) (g.spelled (k.Name (codes "lit") false))) (g.part (g.list (p 24 34 78 103) (g.part (g.atom (p 25 25 79 91) (g.spelled (k.Name (codes "syntax-rules") false))) (g.part (g.list (p 26 27 92 94) g.none) (g.part (g.list (p 28 33 95 102) (g.part (g.list (p 29 31 96 99) (g.part (g.atom (p 30 30 97 98) (g.spelled (k.Name (codes "_") false))) g.none)) (g.part (g.atom (p 32 32 100 101) (g.spelled (k.Numeral (codes "1")))) g.none))) g.none)))) g.none))))) ∷ ((g.list (p 36 38 105 110) (g.part (g.atom (p 37 37 106 109) (g.spelled (k.Name (codes "lit") false))) g.none))) ∷ [])) ∷ []) ≡ ((a (b 0 15 16) (b 0 52 53)) ∷ (a (b 0 74 77) (b 0 32 35)) ∷ (a (b 0 74 77) (b 0 41 44)) ∷ (a (b 0 74 77) (b 0 54 57)) ∷ (a (b 0 74 77) (b 0 106 109)) ∷ [])
unfolding base_names standard_libraries prelude encode_utf8
literal-defined-as-a-macro = refl

pub values-read-their-names : arrow_rows (((s 0 1) ∷ (s 1 7) ∷ (s 8 9) ∷ (s 9 10) ∷ (s 10 11) ∷ (s 12 13) ∷ (s 13 26) ∷ (s 27 28) ∷ (s 28 29) ∷ (s 30 31) ∷ (s 32 33) ∷ (s 34 35) ∷ (s 35 36) ∷ (s 37 38) ∷ (s 38 39) ∷ (s 40 41) ∷ (s 42 43) ∷ (s 44 45) ∷ (s 45 46) ∷ (s 46 47) ∷ (s 48 49) ∷ (s 49 50) ∷ (s 51 52) ∷ (s 53 54) ∷ (s 55 56) ∷ (s 56 57) ∷ (s 57 58) ∷ []) ∷ []) ((Some (((g.list (p 0 26 0 58) (g.part (g.atom (p 1 1 1 7) (g.spelled (k.Name (codes "define") false))) (g.part (g.list (p 2 4 8 11) (g.part (g.atom (p 3 3 9 10) (g.spelled (k.Name (codes "f") false))) g.none)) (g.part (g.list (p 5 19 12 47) (g.part (g.atom (p 6 6 13 26) (g.spelled (k.Name (codes "define-values") false))) (g.part (g.list (p 7 12 27 36) (g.part (g.atom (p 8 8 28 29) (g.spelled (k.Name (codes "a") false))) (g.part (g.atom (p 9 9 30 31) (g.spelled (k.Name (codes "b") false))) (g.tail (g.atom (p 11 11 34 35) (g.spelled (k.Name (codes "c") false))))))) (g.part (g.list (p 13 18 37 46) (g.part (g.atom (p 14 14 38 39) (g.spelled (k.Name (codes "g") false))) (g.part (g.atom (p 15 15 40 41) (g.spelled (k.Name (codes "a") false))) (g.part (g.atom (p 16 16 42 43) (g.spelled (k.Name (codes "b") false))) (g.part (g.atom (p 17 17 44 45) (g.spelled (k.Name (codes "c") false))) g.none))))) g.none)))) (g.part (g.list (p 20 25 48 57) (g.part (g.atom (p 21 21 49 50) (g.spelled (k.Name (codes "g") false))) (g.part (g.atom (p 22 22 51 52) (g.spelled (k.Name (codes "c") false))) (g.part (g.atom (p 23 23 53 54) (g.spelled (k.Name (codes "b") false))) (g.part (g.atom (p 24 24 55 56) (g.spelled (k.Name (codes "a") false))) g.none))))) g.none)))))) ∷ [])) ∷ []) ≡ ((a (b 0 28 29) (b 0 40 41)) ∷ (a (b 0 28 29) (b 0 55 56)) ∷ (a (b 0 30 31) (b 0 42 43)) ∷ (a (b 0 30 31) (b 0 53 54)) ∷ (a (b 0 34 35) (b 0 44 45)) ∷ (a (b 0 34 35) (b 0 51 52)) ∷ [])
unfolding base_names standard_libraries prelude encode_utf8
values-read-their-names = refl

pub random-115610 : arrow_rows (((s 0 1) ∷ (s 1 14) ∷ (s 15 16) ∷ (s 17 18) ∷ (s 18 30) ∷ (s 31 32) ∷ (s 32 33) ∷ (s 33 34) ∷ (s 35 36) ∷ (s 36 37) ∷ (s 37 38) ∷ (s 39 40) ∷ (s 40 41) ∷ (s 42 43) ∷ (s 43 44) ∷ (s 45 46) ∷ (s 46 47) ∷ (s 47 48) ∷ (s 49 50) ∷ (s 50 51) ∷ (s 52 53) ∷ (s 53 54) ∷ (s 55 56) ∷ (s 56 57) ∷ (s 57 58) ∷ (s 58 59) ∷ (s 59 60) ∷ (s 61 62) ∷ (s 62 63) ∷ (s 64 65) ∷ (s 65 66) ∷ (s 67 68) ∷ (s 68 74) ∷ (s 75 76) ∷ (s 77 78) ∷ (s 78 80) ∷ (s 81 82) ∷ (s 83 84) ∷ (s 84 85) ∷ (s 85 86) ∷ []) ∷ []) ((Some (((g.list (p 0 26 0 60) (g.part (g.atom (p 1 1 1 14) (g.spelled (k.Name (codes "define-syntax") false))) (g.part (g.atom (p 2 2 15 16) (g.spelled (k.Name (codes "m") false))) (g.part (g.list (p 3 25 17 59) (g.part (g.atom (p 4 4 18 30) (g.spelled (k.Name (codes "syntax-rules") false))) (g.part (g.list (p 5 7 31 34) (g.part (g.atom (p 6 6 32 33) (g.spelled (k.Name (codes "f") false))) g.none)) (g.part (g.list (p 8 14 35 44) (g.part (g.list (p 9 12 36 41) (g.part (g.atom (p 10 10 37 38) (g.spelled (k.Name (codes "_") false))) (g.part (g.atom (p 11 11 39 40) (g.spelled (k.Name (codes "f") false))) g.none))) (g.part (g.atom (p 13 13 42 43) (g.spelled (k.Name (codes "a") false))) g.none))) (g.part (g.list (p 15 24 45 58) (g.part (g.list (p 16 19 46 51) (g.part (g.atom (p 17 17 47 48) (g.spelled (k.Name (codes "_") false))) (g.part (g.atom (p 18 18 49 50) (g.spelled (k.Name (codes "v") false))) g.none))) (g.part (g.list (p 20 23 52 57) (g.part (g.atom (p 21 21 53 54) (g.spelled (k.Name (codes "f") false))) (g.part (g.atom (p 22 22 55 56) (g.spelled (k.Name (codes "n") false))) g.none))) g.none))) g.none))))) g.none))))) ∷ ((g.list (p 27 30 61 66) (g.part (g.atom (p 28 28 62 63) (g.spelled (k.Name (codes "m") false))) (g.part (g.atom (p 29 29 64 65) (g.spelled (k.Name (codes "f") false))) g.none)))) ∷ ((g.list (p 31 39 67 86) (g.part (g.atom (p 32 32 68 74) (g.spelled (k.Name (codes "define") false))) (g.part (g.atom (p 33 33 75 76) (g.spelled (k.Name (codes "f") false))) (g.part (g.list (p 34 38 77 85) (g.part (g.atom (p 35 35 78 80) (g.spelled (k.Name (codes "if") false))) (g.part (g.atom (p 36 36 81 82) (g.spelled (k.Numeral (codes "1")))) (g.part (g.atom (p 37 37 83 84) (g.spelled (k.Numeral (codes "1")))) g.none)))) g.none))))) ∷ [])) ∷ []) ≡ ((a (b 0 15 16) (b 0 62 63)) ∷ (a (b 0 75 76) (b 0 32 33)) ∷ (a (b 0 75 76) (b 0 39 40)) ∷ (a (b 0 75 76) (b 0 53 54)) ∷ (a (b 0 75 76) (b 0 64 65)) ∷ [])
unfolding base_names standard_libraries prelude encode_utf8
random-115610 = refl

pub random-141594 : arrow_rows (((s 0 1) ∷ (s 1 14) ∷ (s 15 16) ∷ (s 17 18) ∷ (s 18 30) ∷ (s 31 32) ∷ (s 32 33) ∷ (s 33 34) ∷ (s 35 36) ∷ (s 36 37) ∷ (s 37 38) ∷ (s 39 40) ∷ (s 40 41) ∷ (s 42 43) ∷ (s 43 44) ∷ (s 45 46) ∷ (s 46 47) ∷ (s 47 48) ∷ (s 48 49) ∷ (s 49 50) ∷ (s 51 52) ∷ (s 52 53) ∷ (s 54 55) ∷ (s 55 56) ∷ (s 57 58) ∷ (s 58 64) ∷ (s 65 66) ∷ (s 67 68) ∷ (s 68 70) ∷ (s 71 72) ∷ (s 72 76) ∷ (s 77 78) ∷ (s 79 80) ∷ (s 80 81) ∷ (s 82 83) ∷ (s 83 87) ∷ (s 88 89) ∷ (s 90 91) ∷ (s 91 92) ∷ (s 92 93) ∷ (s 93 94) ∷ []) ∷ []) ((Some (((g.list (p 0 19 0 50) (g.part (g.atom (p 1 1 1 14) (g.spelled (k.Name (codes "define-syntax") false))) (g.part (g.atom (p 2 2 15 16) (g.spelled (k.Name (codes "a") false))) (g.part (g.list (p 3 18 17 49) (g.part (g.atom (p 4 4 18 30) (g.spelled (k.Name (codes "syntax-rules") false))) (g.part (g.list (p 5 7 31 34) (g.part (g.atom (p 6 6 32 33) (g.spelled (k.Name (codes "f") false))) g.none)) (g.part (g.list (p 8 17 35 48) (g.part (g.list (p 9 12 36 41) (g.part (g.atom (p 10 10 37 38) (g.spelled (k.Name (codes "_") false))) (g.part (g.atom (p 11 11 39 40) (g.spelled (k.Name (codes "f") false))) g.none))) (g.part (g.list (p 13 16 42 47) (g.part (g.atom (p 14 14 43 44) (g.spelled (k.Name (codes "m") false))) (g.part (g.atom (p 15 15 45 46) (g.spelled (k.Name (codes "f") false))) g.none))) g.none))) g.none)))) g.none))))) ∷ ((g.list (p 20 23 51 56) (g.part (g.atom (p 21 21 52 53) (g.spelled (k.Name (codes "a") false))) (g.part (g.atom (p 22 22 54 55) (g.spelled (k.Name (codes "f") false))) g.none)))) ∷ ((g.list (p 24 40 57 94) (g.part (g.atom (p 25 25 58 64) (g.spelled (k.Name (codes "define") false))) (g.part (g.atom (p 26 26 65 66) (g.spelled (k.Name (codes "f") false))) (g.part (g.list (p 27 39 67 93) (g.part (g.atom (p 28 28 68 70) (g.spelled (k.Name (codes "if") false))) (g.part (g.list (p 29 33 71 81) (g.part (g.atom (p 30 30 72 76) (g.spelled (k.Name (codes "list") false))) (g.part (g.atom (p 31 31 77 78) (g.spelled (k.Numeral (codes "1")))) (g.part (g.atom (p 32 32 79 80) (g.spelled (k.Name (codes "a") false))) g.none)))) (g.part (g.list (p 34 38 82 92) (g.part (g.atom (p 35 35 83 87) (g.spelled (k.Name (codes "list") false))) (g.part (g.atom (p 36 36 88 89) (g.spelled (k.Name (codes "f") false))) (g.part (g.atom (p 37 37 90 91) (g.spelled (k.Name (codes "n") false))) g.none)))) g.none)))) g.none))))) ∷ [])) ∷ []) ≡ ((a (b 0 15 16) (b 0 52 53)) ∷ (a (b 0 65 66) (b 0 32 33)) ∷ (a (b 0 65 66) (b 0 39 40)) ∷ (a (b 0 65 66) (b 0 45 46)) ∷ (a (b 0 65 66) (b 0 54 55)) ∷ [])
unfolding base_names standard_libraries prelude encode_utf8
random-141594 = refl

pub random-80231 : arrow_rows (((s 0 1) ∷ (s 1 2) ∷ (s 3 4) ∷ (s 4 17) ∷ (s 18 19) ∷ (s 20 21) ∷ (s 21 22) ∷ (s 22 23) ∷ (s 24 25) ∷ (s 25 38) ∷ (s 39 40) ∷ (s 41 42) ∷ (s 42 54) ∷ (s 55 56) ∷ (s 56 57) ∷ (s 57 58) ∷ (s 59 60) ∷ (s 60 61) ∷ (s 61 62) ∷ (s 63 64) ∷ (s 64 65) ∷ (s 66 67) ∷ (s 67 72) ∷ (s 73 74) ∷ (s 74 75) ∷ (s 76 77) ∷ (s 77 78) ∷ (s 79 80) ∷ (s 80 86) ∷ (s 87 88) ∷ (s 89 90) ∷ (s 90 91) ∷ (s 91 92) ∷ (s 92 93) ∷ (s 93 94) ∷ (s 94 95) ∷ (s 96 97) ∷ (s 97 98) ∷ (s 99 100) ∷ (s 100 101) ∷ []) ∷ []) ((Some (((g.list (p 0 7 0 23) (g.part (g.atom (p 1 1 1 2) (g.spelled (k.Name (codes "m") false))) (g.part (g.list (p 2 6 3 22) (g.part (g.atom (p 3 3 4 17) (g.spelled (k.Name (codes "define-syntax") false))) (g.part (g.atom (p 4 4 18 19) (g.spelled (k.Name (codes "a") false))) (g.part (g.atom (p 5 5 20 21) (g.spelled (k.Numeral (codes "5")))) g.none)))) g.none)))) ∷ ((g.list (p 8 35 24 95) (g.part (g.atom (p 9 9 25 38) (g.spelled (k.Name (codes "define-syntax") false))) (g.part (g.atom (p 10 10 39 40) (g.spelled (k.Name (codes "k") false))) (g.part (g.list (p 11 34 41 94) (g.part (g.atom (p 12 12 42 54) (g.spelled (k.Name (codes "syntax-rules") false))) (g.part (g.list (p 13 15 55 58) (g.part (g.atom (p 14 14 56 57) (g.spelled (k.Name (codes "k") false))) g.none)) (g.part (g.list (p 16 33 59 93) (g.part (g.list (p 17 20 60 65) (g.part (g.atom (p 18 18 61 62) (g.spelled (k.Name (codes "_") false))) (g.part (g.atom (p 19 19 63 64) (g.spelled (k.Name (codes "k") false))) g.none))) (g.part (g.list (p 21 32 66 92) (g.part (g.atom (p 22 22 67 72) (g.spelled (k.Name (codes "begin") false))) (g.part (g.list (p 23 26 73 78) (g.part (g.atom (p 24 24 74 75) (g.spelled (k.Name (codes "f") false))) (g.part (g.atom (p 25 25 76 77) (g.spelled (k.Name (codes "f") false))) g.none))) (g.part (g.list (p 27 31 79 91) (g.part (g.atom (p 28 28 80 86) (g.spelled (k.Name (codes "define") false))) (g.part (g.atom (p 29 29 87 88) (g.spelled (k.Name (codes "m") false))) (g.part (g.atom (p 30 30 89 90) (g.spelled (k.Numeral (codes "1")))) g.none)))) g.none)))) g.none))) g.none)))) g.none))))) ∷ ((g.list (p 36 39 96 101) (g.part (g.atom (p 37 37 97 98) (g.spelled (k.Name (codes "k") false))) (g.part (g.atom (p 38 38 99 100) (g.spelled (k.Name (codes "k") false))) g.none)))) ∷ [])) ∷ []) ≡ ((a (b 0 39 40) (b 0 56 57)) ∷ (a (b 0 39 40) (b 0 63 64)) ∷ (a (b 0 39 40) (b 0 97 98)) ∷ (a (b 0 39 40) (b 0 99 100)) ∷ [])
unfolding base_names standard_libraries prelude encode_utf8
random-80231 = refl

pub random-49957 : arrow_rows (((s 0 1) ∷ (s 1 14) ∷ (s 15 16) ∷ (s 17 18) ∷ (s 18 30) ∷ (s 31 32) ∷ (s 32 33) ∷ (s 33 34) ∷ (s 35 36) ∷ (s 36 37) ∷ (s 37 38) ∷ (s 39 40) ∷ (s 40 41) ∷ (s 42 43) ∷ (s 43 44) ∷ (s 45 46) ∷ (s 46 47) ∷ (s 47 48) ∷ (s 49 50) ∷ (s 50 51) ∷ (s 52 53) ∷ (s 53 59) ∷ (s 60 61) ∷ (s 62 63) ∷ (s 63 64) ∷ (s 64 65) ∷ (s 65 66) ∷ (s 66 67) ∷ (s 68 69) ∷ (s 69 70) ∷ (s 71 72) ∷ (s 72 73) ∷ (s 74 75) ∷ (s 75 81) ∷ (s 82 83) ∷ (s 84 85) ∷ (s 85 90) ∷ (s 91 92) ∷ (s 92 93) ∷ (s 94 95) ∷ (s 95 96) ∷ (s 97 98) ∷ (s 98 99) ∷ (s 100 101) ∷ (s 101 102) ∷ (s 102 103) ∷ (s 103 104) ∷ []) ∷ []) ((Some (((g.list (p 0 27 0 67) (g.part (g.atom (p 1 1 1 14) (g.spelled (k.Name (codes "define-syntax") false))) (g.part (g.atom (p 2 2 15 16) (g.spelled (k.Name (codes "m") false))) (g.part (g.list (p 3 26 17 66) (g.part (g.atom (p 4 4 18 30) (g.spelled (k.Name (codes "syntax-rules") false))) (g.part (g.list (p 5 7 31 34) (g.part (g.atom (p 6 6 32 33) (g.spelled (k.Name (codes "f") false))) g.none)) (g.part (g.list (p 8 14 35 44) (g.part (g.list (p 9 12 36 41) (g.part (g.atom (p 10 10 37 38) (g.spelled (k.Name (codes "_") false))) (g.part (g.atom (p 11 11 39 40) (g.spelled (k.Name (codes "f") false))) g.none))) (g.part (g.atom (p 13 13 42 43) (g.spelled (k.Name (codes "k") false))) g.none))) (g.part (g.list (p 15 25 45 65) (g.part (g.list (p 16 19 46 51) (g.part (g.atom (p 17 17 47 48) (g.spelled (k.Name (codes "_") false))) (g.part (g.atom (p 18 18 49 50) (g.spelled (k.Name (codes "f") false))) g.none))) (g.part (g.list (p 20 24 52 64) (g.part (g.atom (p 21 21 53 59) (g.spelled (k.Name (codes "define") false))) (g.part (g.atom (p 22 22 60 61) (g.spelled (k.Name (codes "n") false))) (g.part (g.atom (p 23 23 62 63) (g.spelled (k.Name (codes "f") false))) g.none)))) g.none))) g.none))))) g.none))))) ∷ ((g.list (p 28 31 68 73) (g.part (g.atom (p 29 29 69 70) (g.spelled (k.Name (codes "m") false))) (g.part (g.atom (p 30 30 71 72) (g.spelled (k.Name (codes "f") false))) g.none)))) ∷ ((g.list (p 32 46 74 104) (g.part (g.atom (p 33 33 75 81) (g.spelled (k.Name (codes "define") false))) (g.part (g.atom (p 34 34 82 83) (g.spelled (k.Name (codes "f") false))) (g.part (g.list (p 35 45 84 103) (g.part (g.atom (p 36 36 85 90) (g.spelled (k.Name (codes "begin") false))) (g.part (g.list (p 37 40 91 96) (g.part (g.atom (p 38 38 92 93) (g.spelled (k.Name (codes "a") false))) (g.part (g.atom (p 39 39 94 95) (g.spelled (k.Name (codes "n") false))) g.none))) (g.part (g.list (p 41 44 97 102) (g.part (g.atom (p 42 42 98 99) (g.spelled (k.Name (codes "a") false))) (g.part (g.atom (p 43 43 100 101) (g.spelled (k.Name (codes "k") false))) g.none))) g.none)))) g.none))))) ∷ [])) ∷ []) ≡ ((a (b 0 15 16) (b 0 69 70)) ∷ (a (b 0 82 83) (b 0 32 33)) ∷ (a (b 0 82 83) (b 0 39 40)) ∷ (a (b 0 82 83) (b 0 49 50)) ∷ (a (b 0 82 83) (b 0 62 63)) ∷ (a (b 0 82 83) (b 0 71 72)) ∷ [])
unfolding base_names standard_libraries prelude encode_utf8
random-49957 = refl

pub random-186777 : arrow_rows (((s 0 1) ∷ (s 1 6) ∷ (s 7 8) ∷ (s 8 21) ∷ (s 22 23) ∷ (s 24 25) ∷ (s 25 37) ∷ (s 38 39) ∷ (s 39 40) ∷ (s 41 42) ∷ (s 42 43) ∷ (s 44 45) ∷ (s 45 46) ∷ (s 46 47) ∷ (s 47 48) ∷ (s 49 50) ∷ (s 50 56) ∷ (s 57 58) ∷ (s 59 60) ∷ (s 60 61) ∷ (s 61 62) ∷ (s 63 64) ∷ (s 64 65) ∷ (s 65 66) ∷ (s 67 68) ∷ (s 68 69) ∷ (s 70 71) ∷ (s 71 75) ∷ (s 76 77) ∷ (s 78 79) ∷ (s 79 80) ∷ (s 80 81) ∷ (s 81 82) ∷ (s 82 83) ∷ (s 84 85) ∷ (s 85 86) ∷ (s 87 88) ∷ (s 88 89) ∷ (s 89 90) ∷ (s 91 92) ∷ (s 92 105) ∷ (s 106 107) ∷ (s 107 108) ∷ (s 109 110) ∷ (s 110 111) ∷ (s 112 113) ∷ (s 113 117) ∷ (s 118 119) ∷ (s 120 121) ∷ (s 121 122) ∷ (s 122 123) ∷ []) ∷ []) ((Some (((g.list (p 0 38 0 90) (g.part (g.atom (p 1 1 1 6) (g.spelled (k.Name (codes "begin") false))) (g.part (g.list (p 2 33 7 83) (g.part (g.atom (p 3 3 8 21) (g.spelled (k.Name (codes "define-syntax") false))) (g.part (g.atom (p 4 4 22 23) (g.spelled (k.Name (codes "n") false))) (g.part (g.list (p 5 32 24 82) (g.part (g.atom (p 6 6 25 37) (g.spelled (k.Name (codes "syntax-rules") false))) (g.part (g.list (p 7 10 38 43) (g.part (g.atom (p 8 8 39 40) (g.spelled (k.Name (codes "f") false))) (g.part (g.atom (p 9 9 41 42) (g.spelled (k.Name (codes "m") false))) g.none))) (g.part (g.list (p 11 20 44 62) (g.part (g.list (p 12 14 45 48) (g.part (g.atom (p 13 13 46 47) (g.spelled (k.Name (codes "_") false))) g.none)) (g.part (g.list (p 15 19 49 61) (g.part (g.atom (p 16 16 50 56) (g.spelled (k.Name (codes "define") false))) (g.part (g.atom (p 17 17 57 58) (g.spelled (k.Name (codes "n") false))) (g.part (g.atom (p 18 18 59 60) (g.spelled (k.Name (codes "f") false))) g.none)))) g.none))) (g.part (g.list (p 21 31 63 81) (g.part (g.list (p 22 25 64 69) (g.part (g.atom (p 23 23 65 66) (g.spelled (k.Name (codes "_") false))) (g.part (g.atom (p 24 24 67 68) (g.spelled (k.Name (codes "f") false))) g.none))) (g.part (g.list (p 26 30 70 80) (g.part (g.atom (p 27 27 71 75) (g.spelled (k.Name (codes "list") false))) (g.part (g.atom (p 28 28 76 77) (g.spelled (k.Name (codes "m") false))) (g.part (g.atom (p 29 29 78 79) (g.spelled (k.Name (codes "a") false))) g.none)))) g.none))) g.none))))) g.none)))) (g.part (g.list (p 34 37 84 89) (g.part (g.atom (p 35 35 85 86) (g.spelled (k.Name (codes "n") false))) (g.part (g.atom (p 36 36 87 88) (g.spelled (k.Name (codes "f") false))) g.none))) g.none))))) ∷ ((g.list (p 39 50 91 123) (g.part (g.atom (p 40 40 92 105) (g.spelled (k.Name (codes "define-values") false))) (g.part (g.list (p 41 44 106 111) (g.part (g.atom (p 42 42 107 108) (g.spelled (k.Name (codes "f") false))) (g.part (g.atom (p 43 43 109 110) (g.spelled (k.Name (codes "m") false))) g.none))) (g.part (g.list (p 45 49 112 122) (g.part (g.atom (p 46 46 113 117) (g.spelled (k.Name (codes "list") false))) (g.part (g.atom (p 47 47 118 119) (g.spelled (k.Numeral (codes "1")))) (g.part (g.atom (p 48 48 120 121) (g.spelled (k.Name (codes "a") false))) g.none)))) g.none))))) ∷ [])) ∷ []) ≡ ((a (b 0 22 23) (b 0 57 58)) ∷ (a (b 0 22 23) (b 0 85 86)) ∷ (a (b 0 107 108) (b 0 39 40)) ∷ (a (b 0 107 108) (b 0 59 60)) ∷ (a (b 0 107 108) (b 0 67 68)) ∷ (a (b 0 107 108) (b 0 87 88)) ∷ (a (b 0 109 110) (b 0 41 42)) ∷ (a (b 0 109 110) (b 0 76 77)) ∷ [])
unfolding base_names standard_libraries prelude encode_utf8
random-186777 = refl

pub random-119149 : arrow_rows (((s 0 1) ∷ (s 1 6) ∷ (s 7 8) ∷ (s 8 21) ∷ (s 22 23) ∷ (s 24 25) ∷ (s 25 37) ∷ (s 38 39) ∷ (s 39 40) ∷ (s 40 41) ∷ (s 42 43) ∷ (s 43 44) ∷ (s 44 45) ∷ (s 46 47) ∷ (s 48 49) ∷ (s 49 50) ∷ (s 51 52) ∷ (s 52 57) ∷ (s 58 59) ∷ (s 59 65) ∷ (s 66 67) ∷ (s 68 69) ∷ (s 69 70) ∷ (s 71 72) ∷ (s 72 73) ∷ (s 74 75) ∷ (s 75 76) ∷ (s 76 77) ∷ (s 77 78) ∷ (s 79 80) ∷ (s 80 81) ∷ (s 81 82) ∷ (s 83 84) ∷ (s 84 85) ∷ (s 86 87) ∷ (s 87 91) ∷ (s 92 93) ∷ (s 94 95) ∷ (s 95 96) ∷ (s 96 97) ∷ (s 97 98) ∷ (s 98 99) ∷ (s 100 101) ∷ (s 101 102) ∷ (s 103 104) ∷ (s 105 106) ∷ (s 106 107) ∷ (s 107 108) ∷ (s 109 110) ∷ (s 110 111) ∷ (s 112 113) ∷ (s 113 114) ∷ (s 115 116) ∷ (s 116 129) ∷ (s 130 131) ∷ (s 131 132) ∷ (s 133 134) ∷ (s 134 135) ∷ (s 136 137) ∷ (s 137 138) ∷ []) ∷ []) ((Some (((g.list (p 0 47 0 108) (g.part (g.atom (p 1 1 1 6) (g.spelled (k.Name (codes "begin") false))) (g.part (g.list (p 2 41 7 99) (g.part (g.atom (p 3 3 8 21) (g.spelled (k.Name (codes "define-syntax") false))) (g.part (g.atom (p 4 4 22 23) (g.spelled (k.Name (codes "m") false))) (g.part (g.list (p 5 40 24 98) (g.part (g.atom (p 6 6 25 37) (g.spelled (k.Name (codes "syntax-rules") false))) (g.part (g.list (p 7 9 38 41) (g.part (g.atom (p 8 8 39 40) (g.spelled (k.Name (codes "a") false))) g.none)) (g.part (g.list (p 10 28 42 78) (g.part (g.list (p 11 15 43 50) (g.part (g.atom (p 12 12 44 45) (g.spelled (k.Name (codes "_") false))) (g.part (g.atom (p 13 13 46 47) (g.spelled (k.Name (codes "a") false))) (g.part (g.atom (p 14 14 48 49) (g.spelled (k.Name (codes "w") false))) g.none)))) (g.part (g.list (p 16 27 51 77) (g.part (g.atom (p 17 17 52 57) (g.spelled (k.Name (codes "begin") false))) (g.part (g.list (p 18 22 58 70) (g.part (g.atom (p 19 19 59 65) (g.spelled (k.Name (codes "define") false))) (g.part (g.atom (p 20 20 66 67) (g.spelled (k.Name (codes "n") false))) (g.part (g.atom (p 21 21 68 69) (g.spelled (k.Numeral (codes "1")))) g.none)))) (g.part (g.list (p 23 26 71 76) (g.part (g.atom (p 24 24 72 73) (g.spelled (k.Name (codes "f") false))) (g.part (g.atom (p 25 25 74 75) (g.spelled (k.Name (codes "n") false))) g.none))) g.none)))) g.none))) (g.part (g.list (p 29 39 79 97) (g.part (g.list (p 30 33 80 85) (g.part (g.atom (p 31 31 81 82) (g.spelled (k.Name (codes "_") false))) (g.part (g.atom (p 32 32 83 84) (g.spelled (k.Name (codes "a") false))) g.none))) (g.part (g.list (p 34 38 86 96) (g.part (g.atom (p 35 35 87 91) (g.spelled (k.Name (codes "list") false))) (g.part (g.atom (p 36 36 92 93) (g.spelled (k.Name (codes "k") false))) (g.part (g.atom (p 37 37 94 95) (g.spelled (k.Name (codes "n") false))) g.none)))) g.none))) g.none))))) g.none)))) (g.part (g.list (p 42 46 100 107) (g.part (g.atom (p 43 43 101 102) (g.spelled (k.Name (codes "k") false))) (g.part (g.atom (p 44 44 103 104) (g.spelled (k.Name (codes "a") false))) (g.part (g.atom (p 45 45 105 106) (g.spelled (k.Name (codes "n") false))) g.none)))) g.none))))) ∷ ((g.list (p 48 51 109 114) (g.part (g.atom (p 49 49 110 111) (g.spelled (k.Name (codes "m") false))) (g.part (g.atom (p 50 50 112 113) (g.spelled (k.Name (codes "a") false))) g.none)))) ∷ ((g.list (p 52 59 115 138) (g.part (g.atom (p 53 53 116 129) (g.spelled (k.Name (codes "define-values") false))) (g.part (g.list (p 54 57 130 135) (g.part (g.atom (p 55 55 131 132) (g.spelled (k.Name (codes "a") false))) (g.part (g.atom (p 56 56 133 134) (g.spelled (k.Name (codes "k") false))) g.none))) (g.part (g.atom (p 58 58 136 137) (g.spelled (k.Name (codes "f") false))) g.none))))) ∷ [])) ∷ []) ≡ ((a (b 0 22 23) (b 0 110 111)) ∷ (a (b 0 131 132) (b 0 39 40)) ∷ (a (b 0 131 132) (b 0 46 47)) ∷ (a (b 0 131 132) (b 0 83 84)) ∷ (a (b 0 131 132) (b 0 103 104)) ∷ (a (b 0 131 132) (b 0 112 113)) ∷ (a (b 0 133 134) (b 0 92 93)) ∷ (a (b 0 133 134) (b 0 101 102)) ∷ [])
unfolding base_names standard_libraries prelude encode_utf8
random-119149 = refl

pub random-144289 : arrow_rows (((s 0 1) ∷ (s 1 14) ∷ (s 15 16) ∷ (s 17 18) ∷ (s 18 30) ∷ (s 31 32) ∷ (s 32 33) ∷ (s 33 34) ∷ (s 35 36) ∷ (s 36 37) ∷ (s 37 38) ∷ (s 39 40) ∷ (s 40 41) ∷ (s 42 43) ∷ (s 43 44) ∷ (s 45 46) ∷ (s 46 47) ∷ (s 47 48) ∷ (s 49 50) ∷ (s 50 51) ∷ (s 51 52) ∷ (s 52 53) ∷ (s 54 55) ∷ (s 55 60) ∷ (s 61 62) ∷ (s 62 63) ∷ (s 64 65) ∷ (s 65 66) ∷ (s 67 68) ∷ (s 68 74) ∷ (s 75 76) ∷ (s 77 78) ∷ (s 78 79) ∷ (s 79 80) ∷ (s 80 81) ∷ (s 81 82) ∷ (s 82 83) ∷ (s 84 85) ∷ (s 85 86) ∷ (s 87 88) ∷ (s 88 89) ∷ (s 90 91) ∷ (s 91 92) ∷ (s 93 94) ∷ (s 94 95) ∷ (s 96 97) ∷ (s 97 110) ∷ (s 111 112) ∷ (s 113 114) ∷ (s 114 126) ∷ (s 127 128) ∷ (s 128 129) ∷ (s 129 130) ∷ (s 131 132) ∷ (s 132 133) ∷ (s 133 134) ∷ (s 135 136) ∷ (s 136 137) ∷ (s 137 138) ∷ (s 138 139) ∷ (s 140 141) ∷ (s 141 142) ∷ (s 142 143) ∷ (s 143 144) ∷ []) ∷ []) ((Some (((g.list (p 0 36 0 83) (g.part (g.atom (p 1 1 1 14) (g.spelled (k.Name (codes "define-syntax") false))) (g.part (g.atom (p 2 2 15 16) (g.spelled (k.Name (codes "k") false))) (g.part (g.list (p 3 35 17 82) (g.part (g.atom (p 4 4 18 30) (g.spelled (k.Name (codes "syntax-rules") false))) (g.part (g.list (p 5 7 31 34) (g.part (g.atom (p 6 6 32 33) (g.spelled (k.Name (codes "n") false))) g.none)) (g.part (g.list (p 8 14 35 44) (g.part (g.list (p 9 12 36 41) (g.part (g.atom (p 10 10 37 38) (g.spelled (k.Name (codes "_") false))) (g.part (g.atom (p 11 11 39 40) (g.spelled (k.Name (codes "n") false))) g.none))) (g.part (g.atom (p 13 13 42 43) (g.spelled (k.Name (codes "a") false))) g.none))) (g.part (g.list (p 15 34 45 81) (g.part (g.list (p 16 21 46 53) (g.part (g.atom (p 17 17 47 48) (g.spelled (k.Name (codes "_") false))) (g.part (g.list (p 18 20 49 52) (g.part (g.atom (p 19 19 50 51) (g.spelled (k.Name (codes "n") false))) g.none)) g.none))) (g.part (g.list (p 22 33 54 80) (g.part (g.atom (p 23 23 55 60) (g.spelled (k.Name (codes "begin") false))) (g.part (g.list (p 24 27 61 66) (g.part (g.atom (p 25 25 62 63) (g.spelled (k.Name (codes "k") false))) (g.part (g.atom (p 26 26 64 65) (g.spelled (k.Name (codes "m") false))) g.none))) (g.part (g.list (p 28 32 67 79) (g.part (g.atom (p 29 29 68 74) (g.spelled (k.Name (codes "define") false))) (g.part (g.atom (p 30 30 75 76) (g.spelled (k.Name (codes "k") false))) (g.part (g.atom (p 31 31 77 78) (g.spelled (k.Name (codes "k") false))) g.none)))) g.none)))) g.none))) g.none))))) g.none))))) ∷ ((g.list (p 37 40 84 89) (g.part (g.atom (p 38 38 85 86) (g.spelled (k.Name (codes "k") false))) (g.part (g.atom (p 39 39 87 88) (g.spelled (k.Name (codes "n") false))) g.none)))) ∷ ((g.list (p 41 44 90 95) (g.part (g.atom (p 42 42 91 92) (g.spelled (k.Name (codes "a") false))) (g.part (g.atom (p 43 43 93 94) (g.spelled (k.Name (codes "f") false))) g.none)))) ∷ ((g.list (p 45 63 96 144) (g.part (g.atom (p 46 46 97 110) (g.spelled (k.Name (codes "define-syntax") false))) (g.part (g.atom (p 47 47 111 112) (g.spelled (k.Name (codes "n") false))) (g.part (g.list (p 48 62 113 143) (g.part (g.atom (p 49 49 114 126) (g.spelled (k.Name (codes "syntax-rules") false))) (g.part (g.list (p 50 52 127 130) (g.part (g.atom (p 51 51 128 129) (g.spelled (k.Name (codes "k") false))) g.none)) (g.part (g.list (p 53 61 131 142) (g.part (g.list (p 54 59 132 139) (g.part (g.atom (p 55 55 133 134) (g.spelled (k.Name (codes "_") false))) (g.part (g.list (p 56 58 135 138) (g.part (g.atom (p 57 57 136 137) (g.spelled (k.Name (codes "k") false))) g.none)) g.none))) (g.part (g.atom (p 60 60 140 141) (g.spelled (k.Numeral (codes "1")))) g.none))) g.none)))) g.none))))) ∷ [])) ∷ []) ≡ ((a (b 0 15 16) (b 0 62 63)) ∷ (a (b 0 15 16) (b 0 75 76)) ∷ (a (b 0 15 16) (b 0 77 78)) ∷ (a (b 0 15 16) (b 0 85 86)) ∷ (a (b 0 15 16) (b 0 128 129)) ∷ (a (b 0 15 16) (b 0 136 137)) ∷ (a (b 0 111 112) (b 0 32 33)) ∷ (a (b 0 111 112) (b 0 39 40)) ∷ (a (b 0 111 112) (b 0 50 51)) ∷ (a (b 0 111 112) (b 0 87 88)) ∷ [])
unfolding base_names standard_libraries prelude encode_utf8
random-144289 = refl

pub random-44664 : arrow_rows (((s 0 1) ∷ (s 1 2) ∷ (s 2 3) ∷ (s 4 5) ∷ (s 5 18) ∷ (s 19 20) ∷ (s 21 22) ∷ (s 22 34) ∷ (s 35 36) ∷ (s 36 37) ∷ (s 37 38) ∷ (s 39 40) ∷ (s 40 41) ∷ (s 41 42) ∷ (s 43 44) ∷ (s 44 45) ∷ (s 46 47) ∷ (s 47 53) ∷ (s 54 55) ∷ (s 56 57) ∷ (s 57 58) ∷ (s 58 59) ∷ (s 59 60) ∷ (s 60 61) ∷ (s 62 63) ∷ (s 63 64) ∷ (s 65 66) ∷ (s 66 67) ∷ (s 68 69) ∷ (s 69 82) ∷ (s 83 84) ∷ (s 85 86) ∷ (s 86 98) ∷ (s 99 100) ∷ (s 100 101) ∷ (s 102 103) ∷ (s 103 104) ∷ (s 105 106) ∷ (s 106 107) ∷ (s 107 108) ∷ (s 108 109) ∷ (s 110 111) ∷ (s 111 116) ∷ (s 117 118) ∷ (s 118 119) ∷ (s 120 121) ∷ (s 121 122) ∷ (s 123 124) ∷ (s 124 130) ∷ (s 131 132) ∷ (s 133 134) ∷ (s 134 135) ∷ (s 135 136) ∷ (s 136 137) ∷ (s 138 139) ∷ (s 139 140) ∷ (s 140 141) ∷ (s 142 143) ∷ (s 143 144) ∷ (s 145 146) ∷ (s 146 147) ∷ (s 147 148) ∷ (s 148 149) ∷ []) ∷ []) ((Some (((g.list (p 0 2 0 3) (g.part (g.atom (p 1 1 1 2) (g.spelled (k.Name (codes "a") false))) g.none))) ∷ ((g.list (p 3 23 4 61) (g.part (g.atom (p 4 4 5 18) (g.spelled (k.Name (codes "define-syntax") false))) (g.part (g.atom (p 5 5 19 20) (g.spelled (k.Name (codes "k") false))) (g.part (g.list (p 6 22 21 60) (g.part (g.atom (p 7 7 22 34) (g.spelled (k.Name (codes "syntax-rules") false))) (g.part (g.list (p 8 10 35 38) (g.part (g.atom (p 9 9 36 37) (g.spelled (k.Name (codes "n") false))) g.none)) (g.part (g.list (p 11 21 39 59) (g.part (g.list (p 12 15 40 45) (g.part (g.atom (p 13 13 41 42) (g.spelled (k.Name (codes "_") false))) (g.part (g.atom (p 14 14 43 44) (g.spelled (k.Name (codes "n") false))) g.none))) (g.part (g.list (p 16 20 46 58) (g.part (g.atom (p 17 17 47 53) (g.spelled (k.Name (codes "define") false))) (g.part (g.atom (p 18 18 54 55) (g.spelled (k.Name (codes "m") false))) (g.part (g.atom (p 19 19 56 57) (g.spelled (k.Numeral (codes "1")))) g.none)))) g.none))) g.none)))) g.none))))) ∷ ((g.list (p 24 27 62 67) (g.part (g.atom (p 25 25 63 64) (g.spelled (k.Name (codes "k") false))) (g.part (g.atom (p 26 26 65 66) (g.spelled (k.Name (codes "n") false))) g.none)))) ∷ ((g.list (p 28 62 68 149) (g.part (g.atom (p 29 29 69 82) (g.spelled (k.Name (codes "define-syntax") false))) (g.part (g.atom (p 30 30 83 84) (g.spelled (k.Name (codes "n") false))) (g.part (g.list (p 31 61 85 148) (g.part (g.atom (p 32 32 86 98) (g.spelled (k.Name (codes "syntax-rules") false))) (g.part (g.list (p 33 36 99 104) (g.part (g.atom (p 34 34 100 101) (g.spelled (k.Name (codes "a") false))) (g.part (g.atom (p 35 35 102 103) (g.spelled (k.Name (codes "k") false))) g.none))) (g.part (g.list (p 37 53 105 137) (g.part (g.list (p 38 40 106 109) (g.part (g.atom (p 39 39 107 108) (g.spelled (k.Name (codes "_") false))) g.none)) (g.part (g.list (p 41 52 110 136) (g.part (g.atom (p 42 42 111 116) (g.spelled (k.Name (codes "begin") false))) (g.part (g.list (p 43 46 117 122) (g.part (g.atom (p 44 44 118 119) (g.spelled (k.Name (codes "n") false))) (g.part (g.atom (p 45 45 120 121) (g.spelled (k.Name (codes "k") false))) g.none))) (g.part (g.list (p 47 51 123 135) (g.part (g.atom (p 48 48 124 130) (g.spelled (k.Name (codes "define") false))) (g.part (g.atom (p 49 49 131 132) (g.spelled (k.Name (codes "m") false))) (g.part (g.atom (p 50 50 133 134) (g.spelled (k.Name (codes "n") false))) g.none)))) g.none)))) g.none))) (g.part (g.list (p 54 60 138 147) (g.part (g.list (p 55 58 139 144) (g.part (g.atom (p 56 56 140 141) (g.spelled (k.Name (codes "_") false))) (g.part (g.atom (p 57 57 142 143) (g.spelled (k.Name (codes "v") false))) g.none))) (g.part (g.atom (p 59 59 145 146) (g.spelled (k.Numeral (codes "1")))) g.none))) g.none))))) g.none))))) ∷ [])) ∷ []) ≡ ((a (b 0 19 20) (b 0 63 64)) ∷ (a (b 0 19 20) (b 0 102 103)) ∷ (a (b 0 19 20) (b 0 120 121)) ∷ (a (b 0 83 84) (b 0 36 37)) ∷ (a (b 0 83 84) (b 0 43 44)) ∷ (a (b 0 83 84) (b 0 65 66)) ∷ (a (b 0 83 84) (b 0 118 119)) ∷ (a (b 0 83 84) (b 0 133 134)) ∷ [])
unfolding base_names standard_libraries prelude encode_utf8
random-44664 = refl
