use Rattle.std.proofs.Common.{◌+◌, ◌++◌, List, ℕ, drop, map, sym, ap, ◌∙◌, arith, append_assoc, append-nil}
use Rattle.std.specs.FinMap.{entries}
use Rattle.document_store.specs.Texts.{Document}
use Rattle.program_answers.specs.ToldAnswers.{document_at, text_of}
use Rattle.ls_base.specs.declared.answers.DocEdits.{DocEdits}
use Rattle.text_edits.specs.Views.{edit_of, edit_told}
use Rattle.class_edits.specs.DocumentEdits as edits
use Rattle.class_edits.specs.DocumentEdits.{seen, told_of}
use Rattle.class_edits.proofs.DocumentLaws.{all_gone, as_many, next_told}
use Rattle.class_edits.proofs.texts.told_edits.Goals as goal

pub document-document-requires : goal.document-document-requires
document-document-requires c = omega (arith, as_many (entries c.args.texts.now) c.args.all.now c.requires)

pub text-text-requires : goal.text-text-requires
text-text-requires c = omega (arith, as_many (entries c.args.texts.now) c.args.all.now c.requires)

pub loop-number-preserved : goal.loop-number-preserved
loop-number-preserved c =
    let ds = entries c.args.texts.now in
    let all = c.args.all.now in
    let encoding = c.args.encoding in
    let i = c.loop-number.number in
    let es = c.index-all-number.result in
    let rest = edits.told encoding (drop (i + 1) ds) (seen (drop (i + 1) all)) in
    let here = told_of (document_at ds i).0 (map (edit_told encoding (text_of ds i)) (map edit_of es)) in
    ap (λ (xs : List DocEdits). xs ++ rest) (c.in_ok-push_told.ensures
    ∙ (λ j. c.loop-number.told ++ told_of (c.document-document.ensures.uri j) ((c.in_ok-placed.ensures ∙ (λ k. map (edit_told encoding (c.text-text.ensures k)) (map edit_of (c.as_slice.ensures k)))) j)))
    ∙ append_assoc c.loop-number.told here rest ∙ sym (ap (λ (xs : List DocEdits). c.loop-number.told ++ xs) (next_told ds all encoding i es c.requires (omega arith) c.index-all-number.is)) ∙ c.loop-number.invariant

pub returns : goal.returns
returns c =
    sym (append-nil c.loop-number.told)
    ∙ sym (ap (λ (ds : List (List ℕ × Document)). c.loop-number.told ++ edits.told c.args.encoding ds (seen (drop c.loop-number.number c.args.all.now))) (all_gone (entries c.args.texts.now) c.args.all.now c.loop-number.number c.requires (omega arith)))
    ∙ c.loop-number.invariant
