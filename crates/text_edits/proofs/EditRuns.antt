-- Edits one behind another: how they are made token by token, and how they change a text edit by edit.
use Rattle.std.proofs.Common.{◌≡◌, ℕ, suc, ◌+◌, ◌-◌, ◌<◌, ◌≤◌, arith, length, List, [], ◌∷◌, ◌++◌, map, take, drop, get_or, sym, ap, ◌∙◌, append_assoc, append-nil, Option, Some, None}
use Rattle.std.specs.List.{slice_range}
use Rattle.std.proofs.lemmas.List.{drop-drop, length-map, length-take-le, map-append, take_more}
use Rattle.ls_base.specs.declared.places.Span as code_span
use Rattle.scheme_model.specs.Diagnostics.{Span}
use Rattle.text_edits.specs.declared.edits.Edit as code
use Rattle.text_edits.specs.Edits.{Edit, edited_from}
use Rattle.text_edits.specs.NewNames.{begins_with_bar, edit_if, edits_from, written}
use Rattle.text_edits.specs.Views.{edit_of, span_seen}

-- ---- token by token

pub edits_more : (new : ℕ → Option (List ℕ)) (text : List ℕ) (n : ℕ) (ss : List Span) (s : Span) →
    edits_from new text n (ss ++ s ∷ []) ≡ edits_from new text n ss ++ edit_if text s (new (n + length ss))
edits_more new text n [] s = append-nil (edit_if text s (new n)) ∙ ap (λ (m : ℕ). edit_if text s (new m)) (omega arith)
edits_more new text n (r ∷ ss) s =
    ap (λ (q : List Edit). edit_if text r (new n) ++ q) (edits_more new text (suc n) ss s ∙ ap (λ (m : ℕ). edits_from new text (suc n) ss ++ edit_if text s (new m)) (omega arith))
    ∙ sym (append_assoc (edit_if text r (new n)) (edits_from new text (suc n) ss) (edit_if text s (new (n + suc (length ss)))))

-- ---- edit by edit

-- the text in front of an edit, its own text, and what comes behind it
pub edited_step : (text : List ℕ) (at : ℕ) (e : Edit) (es : List Edit) → at ≤ e.start → e.start ≤ e.end →
    edited_from at (e ∷ es) (drop at text) ≡ slice_range text at e.start ++ (e.text ++ edited_from e.end es (drop e.end text))
edited_step text at e es h k =
    let place : at + (e.end - at) ≡ e.end = omega (arith, h, k) in
    ap (λ (q : List ℕ). slice_range text at e.start ++ (e.text ++ edited_from e.end es q)) (drop-drop (e.end - at) at text ∙ ap (λ (n : ℕ). drop n text) place)

-- ---- of the code

edits_next : (new : ℕ → Option (List ℕ)) (text : List ℕ) (spans : List code_span.Span) (i : ℕ) (d : code_span.Span) → i < length spans →
    edits_from new text 0 (map span_seen (take (i + 1) spans)) ≡ edits_from new text 0 (map span_seen (take i spans)) ++ edit_if text (span_seen (get_or spans i d)) (new i)
edits_next new text spans i d h =
    let s = get_or spans i d in
    let count : 0 + length (map span_seen (take i spans)) ≡ i = omega (arith, h, length-map (take i spans) span_seen, length-take-le i spans (omega (arith, h))) in
    ap (λ (q : List code_span.Span). edits_from new text 0 (map span_seen q)) (take_more spans i d h)
    ∙ ap (edits_from new text 0) (map-append span_seen (take i spans) (s ∷ []))
    ∙ edits_more new text 0 (map span_seen (take i spans)) (span_seen s)
    ∙ ap (λ (m : ℕ). edits_from new text 0 (map span_seen (take i spans)) ++ edit_if text (span_seen s) (new m)) count

pub edits_some : (new : ℕ → Option (List ℕ)) (text : List ℕ) (spans : List code_span.Span) (i : ℕ) (d : code_span.Span) (name : List ℕ) (before after : List Edit) → i < length spans →
    before ≡ edits_from new text 0 (map span_seen (take i spans)) → Some name ≡ new i → after ≡ before ++ edit_if text (span_seen (get_or spans i d)) (Some name) →
    after ≡ edits_from new text 0 (map span_seen (take (i + 1) spans))
edits_some new text spans i d name before after h b e a =
    a ∙ (λ j. b j ++ edit_if text (span_seen (get_or spans i d)) (e j)) ∙ sym (edits_next new text spans i d h)

pub edits_none : (new : ℕ → Option (List ℕ)) (text : List ℕ) (spans : List code_span.Span) (i : ℕ) (d : code_span.Span) (before : List Edit) → i < length spans →
    before ≡ edits_from new text 0 (map span_seen (take i spans)) → None ≡ new i → before ≡ edits_from new text 0 (map span_seen (take (i + 1) spans))
edits_none new text spans i d before h b e =
    sym (append-nil before) ∙ (λ j. b j ++ edit_if text (span_seen (get_or spans i d)) (e j)) ∙ sym (edits_next new text spans i d h)

pub edit_pushed : (old new : List code.Edit) (text name written_name : List ℕ) (s : code_span.Span) → new ≡ old ++ record { span = s; text = written_name } ∷ [] →
    written_name ≡ written name (begins_with_bar (drop s.start text)) → map edit_of new ≡ map edit_of old ++ edit_if text (span_seen s) (Some name)
edit_pushed old new text name written_name s h e =
    ap (map edit_of) h ∙ map-append edit_of old (record { span = s; text = written_name } ∷ [])
    ∙ (λ j. map edit_of old ++ record { start = s.start; end = s.end; text = e j } ∷ [])
