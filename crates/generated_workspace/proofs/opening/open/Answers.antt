use Rattle.std.proofs.Common.{subst}
use Rattle.ls_base.specs.declared.encoding.Encoding.{Encoding}
use Rattle.ls_base.specs.declared.encoding.Encoding.TheVariants.{Utf16}
use Rattle.program_answers.specs.Updates.{IsNewsOf, list_at}
use Rattle.generated_workspace.specs.Known.{with_published}
use Rattle.std.specs.List.{fold}
use Rattle.generated_workspace.proofs.KnownLaws.{known_after, known_alike}
use Rattle.generated_workspace.proofs.OpenLaws.{is_news, is_opened, uses_counted}
use Rattle.generated_workspace.proofs.opening.open.Goals as goal

pub returns-clause-texts : goal.returns-clause-texts
returns-clause-texts g c =
    is_opened c.args.workspace.now.encoding c.args.workspace.now.texts c.update.new.self.texts c.args.uri c.args.text c.requires.room c.requires.short c.in_ok-lists.ensures.texts

pub returns-clause-known : goal.returns-clause-known
returns-clause-known g c =
    let before = c.args.workspace.now.texts in
    let now = c.update.new.self.texts in
    let lists = c.in_ok-lists.field-0.lists in
    let news = is_news c.args.workspace.now.encoding before now c.args.uri c.args.text c.requires.room c.requires.short lists c.in_ok-lists.ensures.published in
    known_alike Utf16 now (fold with_published (list_at c.args.known.now) lists) (list_at c.learn.new.known)
    (known_after Utf16 before now c.args.uri lists (list_at c.args.known.now) c.requires.known (subst (λ (e : Encoding). IsNewsOf e before now c.args.uri lists) c.requires.encoding news)) c.in_ok-learn.ensures

pub returns-clause-steps : goal.returns-clause-steps
returns-clause-steps g c = λ r is.
    uses_counted c.args.workspace.now.encoding c.args.workspace.now.texts c.update.new.self.texts c.args.uri c.args.text c.requires.room c.requires.short c.args.steps.now c.update.new.steps c.in_ok-lists.ensures.steps r is
