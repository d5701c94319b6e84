-- However the texts are read, the program is that of them.
use Rattle.std.proofs.Common.{map, ap, sym, subst}
use Rattle.std.specs.FinMap.{entries}
use Rattle.scheme_model.specs.Program.{units_of}
use Rattle.scheme_tokens.specs.LibraryNames.{library_text}
use Rattle.syntax_tree.specs.declared.trees.Work.{Work}
use Rattle.core_tree.specs.Units.{ProgramStands}
use Rattle.core_tree.specs.declared.units.Program.{Program}
use Rattle.read_documents.specs.Readings.{documents_in, program_in}
use Rattle.workspace_state.specs.State.{State}
use Rattle.program_answers.proofs.TextLists.{some_row}
use Rattle.workspace_state.proofs.workspace.Workspace.program.Goals as goal

pub returns-clause-stands : goal.returns-clause-stands
returns-clause-stands c =
    let texts = c.self.inside.texts in
    let row = some_row (entries texts) in
    let uris = map (λ d. d.0) (entries texts) in
    let all = units_of (documents_in row.0) in
    let whole = program_in row.0 in
    let stands = c.self.invariant.program row.0 row.1 in
    let work = ap (λ (s : State). s.expansion.work) c.self.view_is in (
      library_text,
      uris,
      all,
      whole,
      subst (λ (w : Work). ProgramStands w library_text uris all c.program.result.now whole) work
          (subst (λ (p : Program). ProgramStands c.self.inside.expansion.work library_text uris all p whole) (sym c.program.ensures.program) stands),
    )
