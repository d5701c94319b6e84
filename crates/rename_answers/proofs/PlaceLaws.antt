-- Places of the code as they are told.
use Rattle.std.proofs.Common.{◌≡◌, ℕ, zero, suc, List, [], ◌∷◌, Some, slice_get, refl, sym, ap, ◌∙◌}
use Rattle.ls_base.specs.Positions.{position_of}
use Rattle.ls_base.specs.declared.encoding.Encoding.{Encoding}
use Rattle.ls_base.specs.declared.places.Place.{Place}
use Rattle.ls_base.specs.declared.places.Pos.{Pos}
use Rattle.scheme_model.specs.Diagnostics.{Bytes}
use Rattle.document_store.specs.Texts.{Document}
use Rattle.program_answers.specs.Placed.{IsPlace}
use Rattle.program_answers.specs.ToldAnswers.{document_at, place_told, text_of}
use Rattle.rename_answers.specs.RefusalTexts.{place_text, start_text}

pub document_got : (ds : List (List ℕ × Document)) (n : ℕ) (d : List ℕ × Document) → slice_get ds n ≡ Some d → document_at ds n ≡ d
document_got [] n d h = absurd cc
document_got (e ∷ ds) zero d h = cc
document_got (e ∷ ds) (suc n) d h = document_got ds n d h

pub place_is : (e : Encoding) (ds : List (List ℕ × Document)) (b : Bytes) (p : Place) → IsPlace e ds b p → p ≡ place_told e ds b
place_is e ds b p h =
    let d = document_got ds b.document h.0 h.1 in
    let uri : p.uri ≡ (document_at ds b.document).0 = h.2 ∙ ap (λ (x : List ℕ × Document). x.0) (sym d) in
    let start : p.range.start ≡ position_of e (text_of ds b.document) b.span.start = h.3 ∙ ap (λ (x : List ℕ × Document). position_of e x.1.1 b.span.start) (sym d) in
    let end : p.range.end ≡ position_of e (text_of ds b.document) b.span.end = h.4 ∙ ap (λ (x : List ℕ × Document). position_of e x.1.1 b.span.end) (sym d) in
    λ j. record { uri = uri j; range = record { start = start j; end = end j } }

pub start_is : (e : Encoding) (ds : List (List ℕ × Document)) (b : Bytes) (p : Place) → IsPlace e ds b p → start_text p.uri p.range.start ≡ place_text e ds b
start_is e ds b p h = ap (λ (q : Place). start_text q.uri q.range.start) (place_is e ds b p h)
