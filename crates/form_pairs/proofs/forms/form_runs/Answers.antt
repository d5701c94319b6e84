use Rattle.std.proofs.Common.{◌∙◌, ℕ, length, drop, Some, ap}
use Rattle.std.specs.Prelude.{reverse}
use Rattle.std.specs.List.{list_any}
use Rattle.form_pairs.specs.Fronts.{front_of, is_included, runs}
use Rattle.form_pairs.specs.Units.{uri_in, forms_in}
use Rattle.form_pairs.proofs.UnitTexts.{by_ends_found, all_found, none_found}
use Rattle.form_pairs.proofs.forms.form_runs.Goals as goal

pub returns-then-not-includes-clause-pairs : goal.returns-then-not-includes-clause-pairs
returns-then-not-includes-clause-pairs c =
    let before = c.args.before.now in
    let after = c.args.after.now in
    by_ends_found (uri_in before.units.now) (uri_in after.units.now) before.unit after.unit (forms_in before.units.now before.unit) (forms_in after.units.now after.unit) c.includes.result c.includes-2.result
    (c.includes.ensures ∙ ap (list_any is_included) c.forms_at-old.ensures) (c.includes-2.ensures ∙ ap (list_any is_included) c.forms_at-new.ensures)
    c.in_ok-by_ends.field-0.front c.in_ok-by_ends.field-0.end c.if-not-includes.true
    (c.in_ok-by_ends.ensures.front ∙ (λ j. front_of (c.forms_at-old.ensures j) (c.forms_at-new.ensures j)))
    (c.in_ok-by_ends.ensures.end ∙ (λ j. front_of (reverse (drop c.in_ok-by_ends.field-0.front (c.forms_at-old.ensures j))) (reverse (drop c.in_ok-by_ends.field-0.front (c.forms_at-new.ensures j)))))

pub returns-then-not-branch-clause-pairs : goal.returns-then-not-branch-clause-pairs
returns-then-not-branch-clause-pairs c =
    let before = c.args.before.now in
    let after = c.args.after.now in
    none_found (uri_in before.units.now) (uri_in after.units.now) before.unit after.unit (forms_in before.units.now before.unit) (forms_in after.units.now after.unit) c.includes.result c.includes-2.result
    (c.includes.ensures ∙ ap (list_any is_included) c.forms_at-old.ensures) (c.includes-2.ensures ∙ ap (list_any is_included) c.forms_at-new.ensures)
    c.in_ok-are_same_at_home.field-0 c.if-not-includes.false c.in_ok-are_same_at_home.ensures.same c.if-not-branch.true

pub returns-clause-pairs : goal.returns-clause-pairs
returns-clause-pairs c =
    let before = c.args.before.now in
    let after = c.args.after.now in
    ap (λ (n : ℕ). Some (runs (length (forms_in before.units.now before.unit)) (length (forms_in after.units.now after.unit)) n 0)) (ap length c.forms_at-old.ensures)
    ∙ all_found (uri_in before.units.now) (uri_in after.units.now) before.unit after.unit (forms_in before.units.now before.unit) (forms_in after.units.now after.unit) c.includes.result c.includes-2.result
    (c.includes.ensures ∙ ap (list_any is_included) c.forms_at-old.ensures) (c.includes-2.ensures ∙ ap (list_any is_included) c.forms_at-new.ensures)
    c.in_ok-are_same_at_home.field-0 c.if-not-includes.false c.in_ok-are_same_at_home.ensures.same c.if-not-branch.false
