-- The program that there is and that of edited texts can be compared, and what is found is told so.
use Rattle.std.proofs.Common.{◌≡◌, ℕ, List, [], ◌∷◌, map, Option, Some, None, Ok, Err, refl, ap, ◌∙◌, subst}
use Rattle.std.specs.FinMap.{entries}
use Rattle.ls_base.specs.declared.answers.DocEdits.{DocEdits}
use Rattle.ls_base.specs.declared.encoding.Encoding.{Encoding}
use Rattle.scheme_model.specs.Program.{units_of}
use Rattle.scheme_tokens.specs.LibraryNames.{library_text}
use Rattle.syntax_tree.specs.declared.trees.Work.{Work}
use Rattle.core_tree.specs.Units.{ProgramStands}
use Rattle.core_tree.specs.declared.units.Program.{Program}
use Rattle.document_store.specs.Texts.{Document, Texts}
use Rattle.read_documents.specs.Readings.{Read, AreReadAs, documents_in, program_in}
use Rattle.program_answers.proofs.TextLists.{some_row}
use Rattle.program_differences.specs.Both.{AreComparable}
use Rattle.program_differences.specs.Differences.{AreOne}
use Rattle.program_differences.specs.declared.plan.Difference as code
use Rattle.rename_model.specs.Difference.{Difference}
use Rattle.rename_laws.proofs.GivenLaws.{exports_are_given}
use Rattle.rename_conditions.specs.Renames.{Differs, unless}
use Rattle.document_changes.specs.Edited.{edited_documents, edited_texts}
use Rattle.workspace_state.specs.ProgramOfTexts.{IsProgramOfTexts}
use Rattle.document_changes.proofs.EditedLaws.{edited_entries}
use Rattle.rename_planner.specs.Planning.{ComesTo, Holds}
use Rattle.rename_answers.specs.ToldRenames.{uris_of}
use Rattle.rename_answers.specs.declared.faults.RenameFault.TheVariants as faults
use Rattle.rename_answers.proofs.DistinctLaws.{uris_distinct}
use Rattle.rename_answers.proofs.TellsLaws.{names_tell}

uris_stay : (e : Encoding) (edits : List DocEdits) (ds : List (List ℕ × Document)) → uris_of (edited_documents e edits ds) ≡ uris_of ds
uris_stay e edits [] = refl
uris_stay e edits (d ∷ ds) = ap (λ us. d.0 ∷ us) (uris_stay e edits ds)

-- the edited texts stand at the same uris
pub same_uris : (e : Encoding) (edits : List DocEdits) (texts : Texts) → uris_of (entries (edited_texts e edits texts)) ≡ uris_of (entries texts)
same_uris e edits texts = ap uris_of (edited_entries e edits texts) ∙ uris_stay e edits (entries texts)

pub new_stands : (e : Encoding) (edits : List DocEdits) (texts : Texts) (work : Work) (new : Program) (ts : List Read) → IsProgramOfTexts (edited_texts e edits texts) work new → AreReadAs (entries (edited_texts e edits texts)) ts →
    ProgramStands work library_text (uris_of (entries texts)) (units_of (documents_in ts)) new (program_in ts)
new_stands e edits texts work new ts is are = subst (λ us. ProgramStands work library_text us (units_of (documents_in ts)) new (program_in ts)) (same_uris e edits texts) (is ts are)

pub comparable : (e : Encoding) (edits : List DocEdits) (texts : Texts) (work : Work) (old new : Program) → IsProgramOfTexts texts work old → IsProgramOfTexts (edited_texts e edits texts) work new → AreComparable work old new
comparable e edits texts work old new was now =
    let rs = some_row (entries texts) in
    let ts = some_row (entries (edited_texts e edits texts)) in record {
      text = library_text;
      uris = uris_of (entries texts);
      before = units_of (documents_in rs.0);
      after = units_of (documents_in ts.0);
      p = program_in rs.0;
      q = program_in ts.0;
      tells = names_tell (documents_in rs.0) (documents_in ts.0);
      distinct = uris_distinct texts;
      old_stands = was rs.0 rs.1;
      new_stands = new_stands e edits texts work new ts.0 now ts.1;
      old_given = exports_are_given (documents_in rs.0);
      new_given = exports_are_given (documents_in ts.0);
    }

-- ---- what is found

pub differs : (e : Encoding) (ds : List (List ℕ × Document)) (c : code.Difference) (o : Option Difference) → AreOne (Some c) o → ComesTo {B = Unit {0}} e ds Holds (unless o Differs) (Err (faults.Differs c))
differs e ds c None h = absurd h
differs e ds c (Some d) h = (d, refl, h)

pub same_program : (B : Type 0) (b : B) (e : Encoding) (ds : List (List ℕ × Document)) (o : Option Difference) → AreOne None o → ComesTo e ds Holds (unless o Differs) (Ok b)
same_program B b e ds None h = tt
same_program B b e ds (Some d) h = absurd h
