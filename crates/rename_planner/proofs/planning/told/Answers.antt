use Rattle.std.proofs.Common.{◌≡◌, ◌≤◌, ℕ, List, Option, Some, map, length, slice_get, refl, sym, ap, ◌∙◌, subst}
use Rattle.std.specs.BTreeMap.{get}
use Rattle.std.specs.FinMap.{entries}
use Rattle.ls_base.specs.declared.answers.DocEdits.{DocEdits}
use Rattle.scheme_model.specs.declared.Occ.{Occ}
use Rattle.scheme_model.specs.Program.{units_of}
use Rattle.scheme_model.specs.Spelling.{is_member}
use Rattle.scheme_tokens.specs.LibraryNames.{library_text}
use Rattle.document_store.specs.Texts.{Document}
use Rattle.read_documents.specs.Readings.{documents_in, program_in}
use Rattle.program_answers.specs.ToldAnswers.{facts_in}
use Rattle.text_edits.specs.Edits.{Edit}
use Rattle.text_edits.specs.Views.{occ_cmp}
use Rattle.class_edits.specs.DocumentEdits as code
use Rattle.rename_laws.proofs.GivenLaws.{exports_are_given}
use Rattle.document_changes.specs.Edited.{edits_in}
use Rattle.rename_answers.specs.ReadDocuments.{read_as}
use Rattle.rename_planner.proofs.ChangeLaws.{changes_same}
use Rattle.rename_answers.proofs.EditLaws.{edited_same, told_same}
use Rattle.rename_answers.proofs.MemberLaws.{parts_members}
use Rattle.rename_answers.proofs.TriedLaws.{again, can_try, nth, seen_many, stand_apart, texts_made}
use Rattle.rename_planner.proofs.planning.told.Goals as goal

pub returns-clause-exact : goal.returns-clause-exact
returns-clause-exact c = λ rs o stem are is named same.
    let ds = entries c.args.ws.now.texts in
    let e = c.args.ws.now.encoding in
    let links = (facts_in rs).links in
    let name : Occ → Option (List ℕ) = λ x. get occ_cmp c.args.members.now x in
    let seen = rw c.open.ensures at c.see_texts.ensures in
    let edits = (rw (c.open-2.ensures, c.encoding.ensures) at c.in_ok-edits.ensures) ∙ ap (code.told e ds) same in
    let count = ap (λ (xs : List (List Edit)). length xs) (sym same) ∙ seen_many ds c.args.all.now c.requires.made in
    record {
      edits = edits ∙ told_same e ds rs o stem are;
      texts = texts_made e c.in_ok-edits.edits ds (code.edits_of_class ds rs stem o) count
          (λ n d at. ap (λ (x : List DocEdits). edits_in e x d) edits ∙ again e ds rs o stem are (stand_apart c.args.ws.now.texts) (λ m x there. (seen m x there).short) (λ m x there. (seen m x there).utf8) n d at)
          ∙ edited_same ds rs o stem are;
      members = λ x. ap (λ (os : List Occ). is_member os x) (rw c.as_slice.ensures at c.in_ok-class.ensures) ∙ parts_members links o c.args.class.now.parts is.parts x;
      exports = (rw c.as_slice-2.ensures at c.in_ok-exports.ensures)
          ∙ changes_same (read_as ds rs) o stem name named c.args.ws.now.expansion.work library_text (map (λ d. d.0) ds) (units_of (documents_in rs)) (program_in rs) c.program.result.now.units refl
          (c.program.ensures.of_texts rs are) (exports_are_given (documents_in rs));
    }

pub returns-clause-tried : goal.returns-clause-tried
returns-clause-tried c = λ rs o stem are same.
    let ds = entries c.args.ws.now.texts in
    let e = c.args.ws.now.encoding in
    let seen = rw c.open.ensures at c.see_texts.ensures in
    let edits = (rw (c.open-2.ensures, c.encoding.ensures) at c.in_ok-edits.ensures) ∙ ap (code.told e ds) same in
    can_try e c.in_ok-edits.edits ds c.args.all.now c.requires.made c.requires.fit (seen_many ds c.args.all.now c.requires.made)
    (λ n d at. ap (λ (x : List DocEdits). edits_in e x d) edits ∙ again e ds rs o stem are (stand_apart c.args.ws.now.texts) (λ m x there. (seen m x there).short) (λ m x there. (seen m x there).utf8) n d at
    ∙ ap (λ (xs : List (List Edit)). nth xs n) (sym same))
