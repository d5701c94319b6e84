-- The nth document is there, with its edits.
use mir.Val.{SFits}
use Rattle.std.proofs.Common.{◌≡◌, ℕ, ℤ, List, map, slice_get, option_map, Option, Some, None, Bool, true, false, cond, not, sym, ap, ◌∙◌, subst, rules, w64, to_z, of_z}
use Rattle.std.proofs.lemmas.Int.{to_z-of_z}
use Rattle.std.specs.FinMap.{entries, insert}
use Rattle.document_store.specs.Texts.{Document, Refusal, Texts, TooLong, TooMany, added, has_room, is_long}
use Rattle.read_documents.specs.Stored.{CopiesTo, opened}
use Rattle.read_documents.specs.declared.opened.Opened.{Opened}
use Rattle.ls_base.specs.declared.answers.TextEdit.{TextEdit}
use Rattle.program_answers.specs.ToldAnswers.{text_of}
use Rattle.text_edits.specs.Edits.{Edit, edited}
use Rattle.text_edits.specs.Views.{AreCuts, edit_of}
use Rattle.text_edits.specs.declared.edits.Edit as code
use Rattle.document_changes.specs.Edited.{edit_in, edits_for, edited_document}
use Rattle.document_changes.proofs.EditedLaws.{text_at}
use Rattle.document_changes.proofs.edited.add_edited.Goals as goal

-- a document that was added stands under its uri
when : (texts new : Texts) (uri : List ℕ) (d : Document) (b c : Bool) → cond {A = Texts × Option Refusal} b (texts, Some TooMany) (cond {A = Texts × Option Refusal} c (texts, Some TooLong) (insert texts uri d, None)) ≡ (new, None) → new ≡ insert texts uri d
when texts new uri d true c h = absurd (some_none TooMany (ap (λ (p : Texts × Option Refusal). p.1) h))
  where
    some_none : (r : Refusal) → Some r ≡ None → ⊥
    some_none r e = cc
when texts new uri d false true h = absurd (some_none TooLong (ap (λ (p : Texts × Option Refusal). p.1) h))
  where
    some_none : (r : Refusal) → Some r ≡ None → ⊥
    some_none r e = cc
when texts new uri d false false h = sym (ap (λ (p : Texts × Option Refusal). p.0) h)

added_one : (texts new : Texts) (uri : List ℕ) (v : ℤ) (t : List ℕ) → added texts uri v t ≡ (new, None) → new ≡ insert texts uri (v, t)
added_one texts new uri v t h = when texts new uri (v, t) (not (has_room texts uri)) (is_long t) h

-- the nth document of the store is that of the texts
there : (texts seen : Texts) (n : ℕ) (d : Opened) → seen ≡ texts → option_map opened (Some d) ≡ slice_get (entries seen) n → slice_get (entries texts) n ≡ Some (opened d)
there texts seen n d same is = ap (λ (m : Texts). slice_get (entries m) n) (sym same) ∙ sym is

-- its edits in the code are those of the definition
whole : (ds : List (List ℕ × Document)) (n : ℕ) (d : List ℕ × Document) → slice_get ds n ≡ Some d → (f : List ℕ → TextEdit → Edit) (es : List code.Edit) (ts us : List TextEdit) →
    map edit_of es ≡ map (f (text_of ds n)) ts → ts ≡ us → map edit_of es ≡ map (f d.1.1) us
whole ds n d at f es ts us is same = is ∙ (λ j. map (f (text_at ds n d at j)) (same j))

pub edited_text-requires : goal.edited_text-requires
edited_text-requires c =
    let d = c.in-Some.field-0 in let ds = entries c.args.texts.now in let n = c.args.n in
    let at = there c.args.texts.now c.store.result.now n d c.store.ensures c.in-Some.ensures.exact in
    let is : map edit_of c.as_slice.result.now ≡ map (edit_in c.args.encoding (text_of ds n)) c.edits_for.result.now = ap (λ (es : List code.Edit). map edit_of es) c.as_slice.ensures.value ∙ c.in_ok-edits.ensures in
    let all = whole ds n (opened d) at (edit_in c.args.encoding) c.as_slice.result.now c.edits_for.result.now (edits_for c.args.edits.now d.uri.now) is c.edits_for.ensures in
    record { cuts = subst (λ (es : List Edit). AreCuts d.text.now 0 es) (sym all) (c.requires.cuts n (opened d) at) }

pub returns-in-Ok-clause-copies : goal.returns-in-Ok-clause-copies
returns-in-Ok-clause-copies c =
    let fits : SFits w64 c.in-Some.field-0.version = search rules in
    let d = c.in-Some.field-0 in let ds = entries c.args.texts.now in let n = c.args.n in
    let at = there c.args.texts.now c.store.result.now n d c.store.ensures c.in-Some.ensures.exact in
    let is : map edit_of c.as_slice.result.now ≡ map (edit_in c.args.encoding (text_of ds n)) c.edits_for.result.now = ap (λ (es : List code.Edit). map edit_of es) c.as_slice.ensures.value ∙ c.in_ok-edits.ensures in
    let all = whole ds n (opened d) at (edit_in c.args.encoding) c.as_slice.result.now c.edits_for.result.now (edits_for c.args.edits.now d.uri.now) is c.edits_for.ensures in
    subst (λ (o : Option (List ℕ × Document)). CopiesTo c.args.store.now c.add.new.self (option_map (edited_document c.args.encoding c.args.edits.now) o)) (sym at)
    (added_one c.args.store.now c.add.new.self d.uri.now (to_z w64 (of_z w64 d.version)) c.as_str.result.now c.in-Ok.ensures.event
    ∙ ap (λ (v : ℤ). insert c.args.store.now d.uri.now (v, c.as_str.result.now)) (to_z-of_z w64 d.version fits)
    ∙ ap (λ (t : List ℕ). insert c.args.store.now d.uri.now (d.version, t)) (c.as_str.ensures ∙ c.in_ok-text.ensures ∙ ap (λ (es : List Edit). edited es d.text.now) all))
