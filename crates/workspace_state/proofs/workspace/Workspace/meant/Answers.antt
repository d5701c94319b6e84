-- The uris of the documents are those of the texts.
use Rattle.std.proofs.Common.{◌≡◌, ◌<◌, ℕ, List, Option, length, sym, ap, ◌∙◌, subst}
use Rattle.std.specs.Prelude.{IfSome}
use Rattle.std.specs.FinMap.{entries, keys}
use Rattle.program_answers.specs.ToldAnswers.{number_of}
use Rattle.program_answers.proofs.TextLaws.{as_many}
use Rattle.program_expansion.proofs.TokensAlike.{uris_are}
use Rattle.document_changes.specs.Parts.{meant_by}
use Rattle.workspace_state.specs.State.{State}
use Rattle.workspace_state.proofs.workspace.Workspace.meant.Goals as goal

pub meant_uri-requires : goal.meant_uri-requires
meant_uri-requires c =
    let many = as_many (entries c.self.inside.texts) c.documents.result.now c.documents.ensures in
    subst (λ (k : ℕ). IfSome c.number_of-place.result (λ (n : ℕ). n < k)) (sym many) c.number_of-place.ensures.inside

pub returns : goal.returns
returns c =
    let uris = uris_are (entries c.self.inside.texts) c.documents.result.now c.documents.ensures in
    c.in_ok-meant_uri.ensures ∙ ((λ j. meant_by (uris j) (c.number_of-place.ensures.exact j) c.args.string.now) ∙ ap (λ (s : State). meant_by (keys s.texts) (number_of (entries s.texts) c.args.uri.now) c.args.string.now) c.self.view_is)
