use Rattle.std.proofs.Common.{◌≡◌, sym, ◌∙◌, subst}
use Rattle.form_notes.specs.Noted.{Since, beginning}
use Rattle.form_notes.specs.Standing.{HaveNotes, NotingStands}
use Rattle.noted_steps.proofs.PartBegins.{nothing_noted, part_begins}
use Rattle.noted_steps.proofs.parts.begin_at.Goals as goal

pub returns-clause-begun : goal.returns-clause-begun
returns-clause-begun c = λ work ls s exact before editions ms e tells count have.
    let u = c.args.units.now in
    let x = c.restart.new.self in
    let n = c.args.begun in
    let same : beginning u.unit u.form.number n editions ≡ beginning s.unit s.form n editions = (λ j. beginning (e.unit j) (e.form.number j) n editions) in
    part_begins work u ls s x exact before n editions ms e tells
    (λ told. subst (λ (r : Since). NotingStands work.symbols x r ms) same (c.restart.ensures.begins work.symbols editions ms (subst (λ (r : Since). HaveNotes work.symbols r u.form.trace.notes.notes ms) (sym same) (have told))))
    (λ told. record {
      before = c.restart.ensures.before ∙ (c.count-before.ensures ∙ count told);
      first = λ none. c.restart.ensures.first ∙ nothing_noted work.symbols (beginning s.unit s.form n editions) u.form.trace.notes.notes ms (have told) none;
    })
