-- The program's units import what those of the texts' program do.
use Rattle.std.proofs.Common.{map, sym, subst}
use Rattle.std.specs.FinMap.{entries}
use Rattle.scheme_model.specs.Program.{units_of}
use Rattle.scheme_tokens.specs.LibraryNames.{library_text}
use Rattle.core_tree.specs.Units.{ProgramStands}
use Rattle.core_tree.specs.declared.units.Program.{Program}
use Rattle.read_documents.specs.Readings.{AreReadAs, documents_in, program_in}
use Rattle.program_differences.proofs.ReachLaws.{have_imports}
use Rattle.workspace_state.specs.State.{State}
use Rattle.workspace_state.proofs.workspace.Workspace.in_reach.Goals as goal

pub returns : goal.returns
returns c = λ rs are.
    let inside = c.self.inside in
    let work = inside.expansion.work in
    let uris = map (λ d. d.0) (entries inside.texts) in
    let all = units_of (documents_in rs) in
    let p = program_in rs in
    let program = c.program.result.now in
    let seen = subst (λ (s : State). AreReadAs (entries s.texts) rs) (sym c.self.view_is) are in
    let stands = subst (λ (q : Program). ProgramStands work library_text uris all q p) (sym c.program.ensures.program) (c.self.invariant.program rs seen) in
    c.in_ok-units.ensures p.units (have_imports work library_text uris all p 0 program.units p.units stands)
