-- The program of the open documents, as the code has it (R7RS 5).
use Rattle.std.specs.Prelude.{List}
use Rattle.std.specs.FinMap.{entries}
use Rattle.syntax_tree.specs.declared.trees.Work.{Work}
use Rattle.core_tree.specs.declared.units.Program.{Program}
use Rattle.document_store.specs.Texts.{Texts}
use Rattle.unit_results.specs.ReadingOf.{HasProgram}
use Rattle.read_documents.specs.Readings.{Read, AreReadAs}

-- units stand for those of the program that the texts are, however these are read
abbrev pub IsProgramOfTexts : Texts → Work → Program → Type 0
IsProgramOfTexts texts work program = (rs : List Read) → AreReadAs (entries texts) rs → HasProgram texts rs work program
