-- A declaration has a set for each part behind its head, and another form has none.
use Rattle.std.proofs.Common.{◌++◌, List, ℕ, append-nil, sym, ap, ◌∙◌}
use Rattle.unit_sources.specs.UnitsRead.{form_of}
use Rattle.unit_imports.proofs.SetErrors.{sets_in, no_sets_in}
use Rattle.unit_imports.proofs.entries.add_set_forms.Goals as goal

pub returns-then-is_import : goal.returns-then-is_import
returns-then-is_import c = λ unit.
    c.in_ok-add_for_each.ensures
    ∙ ap (λ (ns : List ℕ). c.args.all.now.items ++ ns) (sets_in unit c.args.number (form_of c.args.form.now) c.behind_first.result.now (sym c.is_import.ensures ∙ c.if-is_import.true) c.behind_first.ensures)

pub returns : goal.returns
returns c = λ unit.
    sym (append-nil c.args.all.now.items) ∙ ap (λ (ns : List ℕ). c.args.all.now.items ++ ns) (no_sets_in unit c.args.number (form_of c.args.form.now) (sym c.is_import.ensures ∙ c.if-is_import.false))
