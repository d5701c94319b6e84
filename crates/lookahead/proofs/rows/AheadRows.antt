-- Messages of a session, of which some are cancelled, and the replies; from outside.
-- Written by tests/definitions/rows; each row is checked by computing it.
use Rattle.std.specs.Prelude.{◌≡◌, ℕ, pos, neg_ℤ, true, List, [], ◌∷◌, Some, None, codes, refl}
use Rattle.std.specs.FinMap.{empty}
use Rattle.scheme_model.specs.Texts.{Offsets, Utf16}
use Rattle.scheme_model.specs.Session.{Answers, Arrows, Ask, BadRequest, Capabilities, Clean, Early, Error, Exit, Id, Initialize, Message, Name, Notice, Number, Other, Rename, Renamed, Reply, Request, Result, Shutdown, UnknownMethod, begin}
use Rattle.lookahead.specs.Ahead.{run_ahead}

-- no position is looked at; each question has an answer of its own
abbrev o : Offsets
o encoding text position = 0

abbrev a : Answers ℕ
a = record { null = 0; query = λ encoding texts uri position query. 1; rename = λ encoding texts uri position new_name. 2; lists = λ encoding before after uri. 3 }

abbrev q : Id → Message
q id = Request id (Ask [] (record { line = 0; character = 0 }) Arrows)

abbrev n : Id → Message
n id = Request id (Rename [] (record { line = 0; character = 0 }) [])

abbrev e : Id → ℕ → List ℕ → Reply ℕ
e id code text = Error (Some id) (neg_ℤ (pos code)) text

pub reply-1 : ((run_ahead o a ((Request (Number (pos 1)) (Initialize true Utf16), None) ∷ (q (Number (pos 5)), Some (Number (pos 5))) ∷ (Request (Number (pos 6)) Shutdown, None) ∷ (Notice Exit, None) ∷ []) (begin empty)).replies ≡ (Capabilities (Number (pos 1)) true Utf16) ∷ (e (Number (pos 5)) 32800 (codes "request cancelled")) ∷ (Result (Number (pos 6)) 0) ∷ []) × ((run_ahead o a ((Request (Number (pos 1)) (Initialize true Utf16), None) ∷ (q (Number (pos 5)), Some (Number (pos 5))) ∷ (Request (Number (pos 6)) Shutdown, None) ∷ (Notice Exit, None) ∷ []) (begin empty)).end ≡ Some Clean)
reply-1 = (refl, refl)

pub reply-2 : ((run_ahead o a ((Request (Number (pos 1)) (Initialize true Utf16), None) ∷ (q (Number (pos 5)), None) ∷ (Request (Number (pos 6)) Shutdown, None) ∷ (Notice Exit, None) ∷ []) (begin empty)).replies ≡ (Capabilities (Number (pos 1)) true Utf16) ∷ (Result (Number (pos 5)) 1) ∷ (Result (Number (pos 6)) 0) ∷ []) × ((run_ahead o a ((Request (Number (pos 1)) (Initialize true Utf16), None) ∷ (q (Number (pos 5)), None) ∷ (Request (Number (pos 6)) Shutdown, None) ∷ (Notice Exit, None) ∷ []) (begin empty)).end ≡ Some Clean)
reply-2 = (refl, refl)

pub reply-3 : ((run_ahead o a ((q (Number (pos 5)), Some (Number (pos 5))) ∷ (Notice Exit, None) ∷ []) (begin empty)).replies ≡ (e (Number (pos 5)) 32002 (codes "server not initialized")) ∷ []) × ((run_ahead o a ((q (Number (pos 5)), Some (Number (pos 5))) ∷ (Notice Exit, None) ∷ []) (begin empty)).end ≡ Some Early)
reply-3 = (refl, refl)

pub reply-4 : ((run_ahead o a ((Request (Number (pos 1)) (Initialize true Utf16), None) ∷ (Request (Number (pos 2)) Shutdown, None) ∷ (q (Name (codes "x")), Some (Name (codes "x"))) ∷ (UnknownMethod (Number (pos 3)), Some (Number (pos 3))) ∷ (Notice Exit, None) ∷ []) (begin empty)).replies ≡ (Capabilities (Number (pos 1)) true Utf16) ∷ (Result (Number (pos 2)) 0) ∷ (e (Name (codes "x")) 32600 (codes "invalid request")) ∷ (e (Number (pos 3)) 32600 (codes "invalid request")) ∷ []) × ((run_ahead o a ((Request (Number (pos 1)) (Initialize true Utf16), None) ∷ (Request (Number (pos 2)) Shutdown, None) ∷ (q (Name (codes "x")), Some (Name (codes "x"))) ∷ (UnknownMethod (Number (pos 3)), Some (Number (pos 3))) ∷ (Notice Exit, None) ∷ []) (begin empty)).end ≡ Some Clean)
reply-4 = (refl, refl)

pub reply-5 : ((run_ahead o a ((Request (Number (pos 1)) (Initialize true Utf16), None) ∷ (UnknownMethod (Number (pos 2)), Some (Number (pos 2))) ∷ (UnknownMethod (Number (pos 3)), None) ∷ (BadRequest (Number (pos 4)), Some (Number (pos 4))) ∷ (BadRequest (Number (pos 5)), None) ∷ (n (Number (pos 6)), Some (Number (pos 6))) ∷ (n (Number (pos 7)), None) ∷ []) (begin empty)).replies ≡ (Capabilities (Number (pos 1)) true Utf16) ∷ (e (Number (pos 2)) 32800 (codes "request cancelled")) ∷ (e (Number (pos 3)) 32601 (codes "method not found")) ∷ (e (Number (pos 4)) 32800 (codes "request cancelled")) ∷ (e (Number (pos 5)) 32602 (codes "invalid params")) ∷ (e (Number (pos 6)) 32800 (codes "request cancelled")) ∷ (Renamed (Number (pos 7)) 2) ∷ []) × ((run_ahead o a ((Request (Number (pos 1)) (Initialize true Utf16), None) ∷ (UnknownMethod (Number (pos 2)), Some (Number (pos 2))) ∷ (UnknownMethod (Number (pos 3)), None) ∷ (BadRequest (Number (pos 4)), Some (Number (pos 4))) ∷ (BadRequest (Number (pos 5)), None) ∷ (n (Number (pos 6)), Some (Number (pos 6))) ∷ (n (Number (pos 7)), None) ∷ []) (begin empty)).end ≡ None)
reply-5 = (refl, refl)

pub reply-6 : ((run_ahead o a ((Request (Number (pos 1)) (Initialize true Utf16), None) ∷ (Notice Exit, None) ∷ (q (Number (pos 5)), Some (Number (pos 5))) ∷ []) (begin empty)).replies ≡ (Capabilities (Number (pos 1)) true Utf16) ∷ []) × ((run_ahead o a ((Request (Number (pos 1)) (Initialize true Utf16), None) ∷ (Notice Exit, None) ∷ (q (Number (pos 5)), Some (Number (pos 5))) ∷ []) (begin empty)).end ≡ Some Early)
reply-6 = (refl, refl)

pub reply-7 : ((run_ahead o a ((UnknownMethod (Name (codes "a")), Some (Name (codes "a"))) ∷ (Notice Other, None) ∷ (Request (Number (pos 1)) (Initialize true Utf16), None) ∷ (Notice Other, None) ∷ (Request (Number (pos 2)) (Initialize true Utf16), None) ∷ []) (begin empty)).replies ≡ (e (Name (codes "a")) 32002 (codes "server not initialized")) ∷ (Capabilities (Number (pos 1)) true Utf16) ∷ (e (Number (pos 2)) 32600 (codes "invalid request")) ∷ []) × ((run_ahead o a ((UnknownMethod (Name (codes "a")), Some (Name (codes "a"))) ∷ (Notice Other, None) ∷ (Request (Number (pos 1)) (Initialize true Utf16), None) ∷ (Notice Other, None) ∷ (Request (Number (pos 2)) (Initialize true Utf16), None) ∷ []) (begin empty)).end ≡ None)
reply-7 = (refl, refl)
