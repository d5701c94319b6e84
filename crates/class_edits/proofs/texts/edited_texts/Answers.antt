use Rattle.std.proofs.Common.{◌+◌, ◌++◌, ◌∷◌, [], List, ℕ, drop, map, sym, ap, ◌∙◌, subst, arith, append_assoc, append-nil}
use Rattle.std.specs.FinMap.{entries}
use Rattle.document_store.specs.Texts.{Document}
use Rattle.program_answers.specs.ToldAnswers.{text_of}
use Rattle.text_edits.specs.Edits.{edited}
use Rattle.text_edits.specs.Views.{CanEdit, edit_of}
use Rattle.class_edits.specs.DocumentEdits.{all_edited, seen}
use Rattle.class_edits.proofs.DocumentLaws.{all_gone, as_many, can_one, next_edited}
use Rattle.class_edits.proofs.texts.edited_texts.Goals as goal

pub text-requires : goal.text-requires
text-requires c = omega (arith, as_many (entries c.args.texts.now) c.args.all.now c.requires)

pub edited_text-requires : goal.edited_text-requires
edited_text-requires c =
    let ds = entries c.args.texts.now in
    let i = c.loop-number.number in
    subst (λ (t : List ℕ). CanEdit t c.as_slice.result.now) (sym c.text.ensures)
    (subst (CanEdit (text_of ds i)) (sym c.as_slice.ensures) (can_one ds c.args.all.now i c.index-all-number.result c.requires (omega arith) c.index-all-number.is))

pub loop-number-preserved : goal.loop-number-preserved
loop-number-preserved c =
    let ds = entries c.args.texts.now in
    let all = c.args.all.now in
    let i = c.loop-number.number in
    let es = c.index-all-number.result in
    let rest = all_edited (drop (i + 1) ds) (seen (drop (i + 1) all)) in
    ap (λ (ts : List (List ℕ)). ts ++ rest) c.in_ok-push.ensures.ok ∙ append_assoc c.loop-number.edited (c.in_ok-edited_text.field-0 ∷ []) rest
    ∙ (λ j. c.loop-number.edited ++ (c.in_ok-edited_text.ensures ∙ (λ k. edited (map edit_of (c.as_slice.ensures k)) (c.text.ensures k))) j ∷ rest)
    ∙ sym (ap (λ (ts : List (List ℕ)). c.loop-number.edited ++ ts) (next_edited ds all i es c.requires (omega arith) c.index-all-number.is)) ∙ c.loop-number.invariant

pub returns : goal.returns
returns c =
    sym (append-nil c.loop-number.edited)
    ∙ sym (ap (λ (ds : List (List ℕ × Document)). c.loop-number.edited ++ all_edited ds (seen (drop c.loop-number.number c.args.all.now))) (all_gone (entries c.args.texts.now) c.args.all.now c.loop-number.number c.requires (omega arith)))
    ∙ c.loop-number.invariant
