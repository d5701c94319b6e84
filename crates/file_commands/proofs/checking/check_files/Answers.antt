-- What is printed is of the lists of those that are opened, and of the others.
use Rattle.std.proofs.Common.{◌≡◌, ◌∙◌, List, map, sym, ap, subst}
use Rattle.std.specs.FinMap.{entries}
use Rattle.std.specs.List.{fold, zip}
use Rattle.ls_base.specs.declared.encoding.Encoding.TheVariants.{Utf16}
use Rattle.document_store.specs.Texts.{Texts}
use Rattle.read_documents.specs.Listed.{lists_of}
use Rattle.read_documents.specs.Readings.{AreReadAs}
use Rattle.file_commands.specs.Checking.{Listed, bytes_in, opened, printed, with_file}
use Rattle.file_commands.proofs.checking.check_files.Goals as goal

pub returns-clause-checked : goal.returns-clause-checked
returns-clause-checked g c = λ rs are.
    let names = c.args.names.now in
    let bytes = bytes_in c.args.contents.now in
    let is : c.in_ok-store.store ≡ opened names bytes = c.in_ok-store.ensures in
    let listed = c.in_ok-lists.ensures.listed rs (subst (λ (t : Texts). AreReadAs (entries t) rs) (sym is) are) ∙ (λ k. map (λ l. (l.uri, l.list)) (lists_of Utf16 (entries (is k)) rs)) in
    c.in_ok-printed.ensures ∙ ap printed (c.in_ok-add_unopened.ensures ∙ ap (λ (ls : List Listed). fold with_file ls (zip names bytes)) listed)

pub returns-clause-steps : goal.returns-clause-steps
returns-clause-steps g c = λ rs are. c.in_ok-lists.ensures.steps rs (subst (λ (t : Texts). AreReadAs (entries t) rs) (sym c.in_ok-store.ensures) are)
