-- The program of the open documents stands in trees that have grown.
use Rattle.std.proofs.Common.{◌≡◌, map, sym, subst}
use Rattle.std.specs.FinMap.{entries}
use Rattle.scheme_model.specs.Program.{units_of}
use Rattle.scheme_tokens.specs.LibraryNames.{library_text}
use Rattle.syntax_tree.specs.Names.{KeepsNames}
use Rattle.syntax_tree.specs.Works.{KeepsTrees}
use Rattle.syntax_tree.specs.declared.trees.Work.{Work}
use Rattle.core_tree.specs.Units.{ProgramStands}
use Rattle.core_tree.specs.declared.units.Program.{Program}
use Rattle.document_store.specs.Texts.{Texts}
use Rattle.read_documents.specs.Readings.{documents_in, program_in}
use Rattle.program_expansion.proofs.ProgramKept.{program_kept}
use Rattle.workspace_state.specs.ProgramOfTexts.{IsProgramOfTexts}

pub program_grown : (old new : Work) → KeepsTrees old new → KeepsNames old.symbols new.symbols → (texts : Texts) (was now : Program) → now ≡ was → IsProgramOfTexts texts old was → IsProgramOfTexts texts new now
program_grown old new trees names texts was now same h = λ rs are.
    let uris = map (λ d. d.0) (entries texts) in let all = units_of (documents_in rs) in
    subst (λ (p : Program). ProgramStands new library_text uris all p (program_in rs)) (sym same) (program_kept old new trees names library_text uris all was (program_in rs) (h rs are))
