use Rattle.std.proofs.Common.{◌≡◌, ℕ, ap, sym, ◌∙◌, subst}
use Rattle.std.specs.FinMap.{entries}
use Rattle.command_lines.specs.Counts.{count_lines}
use Rattle.ls_base.specs.declared.encoding.Encoding.TheVariants.{Utf16}
use Rattle.document_store.specs.Texts.{Texts}
use Rattle.read_documents.specs.Readings.{AreReadAs}
use Rattle.program_answers.specs.Updates.{list_at}
use Rattle.rename_answers.specs.ToldRenames.{rename_uses}
use Rattle.workspace_state.specs.State.{State}
use Rattle.generated_workspace.specs.Generated.{library_uri, selfrun_texts}
use Rattle.generated_workspace.specs.Known.{IsKnownOf}
use Rattle.generated_workspace.specs.Selfrun.{counts_of, defined_at, new_name, opening_uses, uses_of}
use Rattle.generated_workspace.proofs.KnownLaws.{nothing_at, nothing_known}
use Rattle.generated_workspace.proofs.OpenLaws.{all_uses}
use Rattle.generated_workspace.proofs.command.lines_of.Goals as goal

pub open_all-requires : goal.open_all-requires
open_all-requires g c = record {
  some = c.requires.some;
  few = c.requires.few;
  none = c.requires.none;
  encoding = c.requires.encoding;
  known = nothing_known Utf16 c.args.workspace.now.texts (list_at c.new-known.result) c.requires.none (nothing_at c.new-known.result c.new-known.ensures.empty);
}

pub count_all-requires : goal.count_all-requires
count_all-requires g c =
    let same = c.in_ok-collect.ensures in
    record {
      encoding = ap (λ (w : State). w.encoding) same ∙ c.open_all.ensures.encoding;
      known = subst (λ (w : State). IsKnownOf Utf16 w.texts (list_at c.open_all.new.known)) (sym same) c.in_ok-open_all.ensures.known;
    }

pub returns-clause-lines : goal.returns-clause-lines
returns-clause-lines g c = λ r rs is are.
    let texts : c.collect.new.self.texts ≡ selfrun_texts c.args.libraries = ap (λ (w : State). w.texts) c.in_ok-collect.ensures ∙ c.in_ok-open_all.ensures.texts in
    let read : AreReadAs (entries c.collect.new.self.texts) rs = subst (λ (t : Texts). AreReadAs (entries t) rs) (sym texts) are in
    c.from_string.ensures ∙ c.in_ok-count_lines.ensures ∙ ap count_lines (c.in_ok-counts.ensures.counts r rs is read ∙ ap (λ (t : Texts). counts_of r (entries t) rs) texts)

pub returns-clause-steps : goal.returns-clause-steps
returns-clause-steps g c = λ r is.
    let n = c.args.libraries in
    let texts : c.collect.new.self.texts ≡ selfrun_texts n = ap (λ (w : State). w.texts) c.in_ok-collect.ensures ∙ c.in_ok-open_all.ensures.texts in
    let renames : Texts → ℕ = λ t. rename_uses r Utf16 (entries t) (library_uri 0) defined_at new_name in
    all_uses c.args.steps.now (opening_uses r n) (uses_of r (selfrun_texts n)) (renames c.collect.new.self.texts) c.open_all.new.steps c.count_all.new.steps (renames (selfrun_texts n))
    (c.in_ok-open_all.ensures.steps r is) (ap renames texts) (c.in_ok-counts.ensures.steps r is)
