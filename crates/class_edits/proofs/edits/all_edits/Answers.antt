use Rattle.std.proofs.Common.{◌<◌, ◌≤◌, ◌++◌, ℕ, List, Option, length, sym, ap, ◌∙◌, subst, arith, append-nil}
use Rattle.std.specs.BTreeMap.{get}
use Rattle.std.specs.FinMap.{entries}
use Rattle.std.proofs.lemmas.List.{take_all}
use Rattle.scheme_model.specs.declared.Occ.{Occ}
use Rattle.document_store.specs.Texts.{Document}
use Rattle.read_documents.specs.Readings.{program_in}
use Rattle.program_answers.proofs.TextLaws as texts
use Rattle.text_edits.specs.Edits.{Edit}
use Rattle.text_edits.specs.Views.{occ_cmp}
use Rattle.class_edits.specs.DocumentEdits.{CanEditAll, seen}
use Rattle.class_edits.specs.Named.{edits_by}
use Rattle.class_edits.proofs.DocumentLaws.{can_more, made_more, no_edits}
use Rattle.class_edits.proofs.edits.all_edits.Goals as goal

pub document_edits-requires : goal.document_edits-requires
document_edits-requires c = omega (arith, texts.as_many (entries c.args.texts.now) c.documents-document-end.result.now c.documents-document-end.ensures)

pub loop-document-preserved : goal.loop-document-preserved
loop-document-preserved c =
    let ds = entries c.args.texts.now in
    let i = c.loop-document.document in
    let below : i < length ds = omega (arith, texts.as_many ds c.documents-document-end.result.now c.documents-document-end.ensures) in
    record {
      exact = λ rs are.
          let name : Occ → Option (List ℕ) = λ o. get occ_cmp c.args.members.now o in
          let us = (program_in rs).units in
          made_more name us i ds rs (edits_by name us 0 ds rs) c.loop-document.all c.push.new.self c.in_ok-edits.edits are below (c.loop-document.invariant.exact rs are) c.in_ok-push.ensures.ok (c.in_ok-edits.ensures.exact rs are);
      made = can_more i ds c.loop-document.all c.push.new.self c.in_ok-edits.edits below c.loop-document.invariant.made c.in_ok-push.ensures.ok c.in_ok-edits.ensures.made;
    }

pub returns-clause-exact : goal.returns-clause-exact
returns-clause-exact c = λ rs are.
    let ds = entries c.args.texts.now in
    let i = c.loop-document.document in
    let name : Occ → Option (List ℕ) = λ o. get occ_cmp c.args.members.now o in
    let us = (program_in rs).units in
    let over : length ds ≤ i = omega (arith, texts.as_many ds c.documents-document-end.result.now c.documents-document-end.ensures) in
    sym (append-nil (seen c.loop-document.all)) ∙ sym (ap (λ (es : List (List Edit)). seen c.loop-document.all ++ es) (no_edits name us i i ds rs over)) ∙ c.loop-document.invariant.exact rs are

pub returns-clause-made : goal.returns-clause-made
returns-clause-made c =
    let ds = entries c.args.texts.now in
    let over : length ds ≤ c.loop-document.document = omega (arith, texts.as_many ds c.documents-document-end.result.now c.documents-document-end.ensures) in
    subst (λ (es : List (List ℕ × Document)). CanEditAll es c.loop-document.all) (take_all c.loop-document.document ds over) c.loop-document.invariant.made
