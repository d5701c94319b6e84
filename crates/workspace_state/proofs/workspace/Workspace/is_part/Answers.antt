-- The marks are those of the texts, however these are read.
use Rattle.std.proofs.Common.{◌≡◌, ◌<◌, ℕ, List, Bool, Option, Some, length, sym, ap, ◌∙◌, subst, arith}
use Rattle.std.specs.Prelude.{IfSome}
use Rattle.std.specs.FinMap.{entries}
use Rattle.read_documents.specs.Readings.{AreReadAs, documents_in}
use Rattle.program_answers.specs.ToldAnswers.{number_of}
use Rattle.document_changes.specs.Parts.{is_part_at, mark_at, parts_in}
use Rattle.workspace_state.specs.State.{State}
use Rattle.document_changes.proofs.PartMarks.{mark_told}
use Rattle.workspace_state.proofs.PlaceLaws.{documents_many, some_within}
use Rattle.workspace_state.proofs.workspace.Workspace.is_part.Goals as goal

pub returns : goal.returns
returns c = λ rs are.
    let ds = documents_in rs in
    let seen = subst (λ (s : State). AreReadAs (entries s.texts) rs) (sym c.self.view_is) are in
    let parts : c.as_slice.result.now ≡ parts_in ds = c.as_slice.ensures.value ∙ c.self.invariant.parts rs seen in
    let place = c.number_of.result in
    let within = some_within place (length (entries c.self.inside.texts)) (length ds) (documents_many (entries c.self.inside.texts) rs seen) c.number_of.ensures.inside in
    c.is_marked.ensures ∙ (ap (λ (bs : List Bool). mark_at bs place) parts ∙ (mark_told ds place within
    ∙ ap (is_part_at ds) (c.number_of.ensures.exact ∙ ap (λ (s : State). number_of (entries s.texts) c.args.uri.now) c.self.view_is)))
