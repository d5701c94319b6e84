-- The index of the program of the open documents.
use Rattle.std.proofs.Common.{◌≡◌, List, map, sym, subst}
use Rattle.std.specs.FinMap.{entries}
use Rattle.document_store.specs.Texts.{Texts}
use Rattle.scheme_model.specs.Program.{units_of}
use Rattle.scheme_tokens.specs.LibraryNames.{library_text}
use Rattle.syntax_tree.specs.declared.trees.Work.{Work}
use Rattle.core_tree.specs.Units.{IsProgramOf}
use Rattle.core_tree.specs.declared.units.Program.{Program}
use Rattle.arrow_index.specs.declared.index.Index.{Index}
use Rattle.program_answers.specs.AskedOf.{IsSource}
use Rattle.workspace_state.specs.Expansions.{IsIndexFor}
use Rattle.workspace_state.specs.ProgramOfTexts.{IsProgramOfTexts}
use Rattle.read_documents.specs.Readings.{Read, AreReadAs, documents_in, program_in}
use Rattle.program_answers.proofs.TextLists.{some_row}

-- documents are read somehow, so units stand for those of a program
pub some_program : (texts : Texts) (work : Work) (program : Program) → IsProgramOfTexts texts work program → IsProgramOf work program
some_program texts work program h =
    let row = some_row (entries texts) in
    (library_text, map (λ d. d.0) (entries texts), units_of (documents_in row.0), program_in row.0, h row.0 row.1)

pub source_of : (texts : Texts) (work : Work) (program : Program) (i : Index) (rs : List Read) → IsProgramOfTexts texts work program → IsIndexFor work program i → AreReadAs (entries texts) rs → IsSource texts rs i
source_of texts work program i rs h right are = record { read = are; index = right.is library_text (map (λ d. d.0) (entries texts)) (units_of (documents_in rs)) (program_in rs) (h rs are) }

pub same_source : (texts seen : Texts) (i j : Index) (rs : List Read) → seen ≡ texts → j ≡ i → IsSource texts rs i → IsSource seen rs j
same_source texts seen i j rs e k h = subst (λ (t : Texts). IsSource t rs j) (sym e) (subst (IsSource texts rs) (sym k) h)
