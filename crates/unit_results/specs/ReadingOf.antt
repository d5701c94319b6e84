-- What the open documents are read and expanded to.
use Rattle.std.specs.Prelude.{◌≡◌, List, length, map}
use Rattle.std.specs.FinMap.{entries}
use Rattle.document_store.specs.Texts.{Texts}
use Rattle.scheme_model.specs.Program.{units_of}
use Rattle.scheme_tokens.specs.LibraryNames.{library_text}
use Rattle.syntax_tree.specs.declared.trees.Work.{Work}
use Rattle.core_tree.specs.Units.{ProgramStands}
use Rattle.core_tree.specs.declared.units.Program.{Program}
use Rattle.unit_results.specs.declared.collecting.Reading.{Reading}
use Rattle.read_documents.specs.Listed.{AreFoundOf}
use Rattle.read_documents.specs.Readings.{AreReadAs, Read, documents_in, program_in}
use Rattle.program_leaves.specs.Formed.{AreFormedIn}
use Rattle.read_documents.specs.Belongs.{Belongs}

-- the program of texts that are read so
abbrev pub HasProgram : Texts → List Read → Work → Program → Type 0
HasProgram texts rs work p = ProgramStands work library_text (map (λ d. d.0) (entries texts)) (units_of (documents_in rs)) p (program_in rs)

-- there is a list of findings for each, and the forms of the units stand for something among these trees; what is found and the program
-- are the definition's
pub record IsReading (texts : Texts) (work : Work) (r : Reading) : Type 0 where
  pub belongs : Belongs texts r.documents.items r.heads.items r.errors.items
  pub findings : length r.findings.items ≡ length r.documents.items
  pub formed : AreFormedIn work r.program.units
  pub found : (rs : List Read) → AreReadAs (entries texts) rs → AreFoundOf rs r.findings.items
  pub program : (rs : List Read) → AreReadAs (entries texts) rs → HasProgram texts rs work r.program
