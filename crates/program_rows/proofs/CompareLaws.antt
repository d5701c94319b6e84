-- The programs of documents with the same uris can be compared.
use Rattle.std.proofs.Common.{◌≡◌, subst, sym}
use Rattle.std.specs.FinMap.{entries, keys}
use Rattle.scheme_model.specs.Program.{units_of}
use Rattle.scheme_tokens.specs.LibraryNames.{library_text}
use Rattle.syntax_tree.specs.declared.trees.Work.{Work}
use Rattle.core_tree.specs.Units.{ProgramStands}
use Rattle.core_tree.specs.declared.units.Program.{Program}
use Rattle.document_store.specs.Texts.{Texts}
use Rattle.read_documents.specs.Readings.{documents_in, program_in}
use Rattle.program_answers.proofs.TextLists.{some_row}
use Rattle.program_differences.specs.Both.{AreComparable}
use Rattle.rename_laws.proofs.GivenLaws.{exports_are_given}
use Rattle.workspace_state.specs.ProgramOfTexts.{IsProgramOfTexts}
use Rattle.rename_answers.proofs.DistinctLaws.{uris_distinct}
use Rattle.rename_answers.proofs.TellsLaws.{names_tell}

pub comparable : (one other : Texts) (work : Work) (old new : Program) → keys one ≡ keys other → IsProgramOfTexts one work old → IsProgramOfTexts other work new → AreComparable work old new
comparable one other work old new same was now =
    let rs = some_row (entries one) in
    let ts = some_row (entries other) in record {
      text = library_text;
      uris = keys one;
      before = units_of (documents_in rs.0);
      after = units_of (documents_in ts.0);
      p = program_in rs.0;
      q = program_in ts.0;
      tells = names_tell (documents_in rs.0) (documents_in ts.0);
      distinct = uris_distinct one;
      old_stands = was rs.0 rs.1;
      new_stands = subst (λ us. ProgramStands work library_text us (units_of (documents_in ts.0)) new (program_in ts.0)) (sym same) (now ts.0 ts.1);
      old_given = exports_are_given (documents_in rs.0);
      new_given = exports_are_given (documents_in ts.0);
    }
