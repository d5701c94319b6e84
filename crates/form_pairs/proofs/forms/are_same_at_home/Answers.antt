use Rattle.std.proofs.Common.{◌≡◌, ◌∙◌, ◌<◌, List, length, get_or, sym, ap, subst, arith}
use Rattle.unit_sources.specs.declared.units.UnitForm.{UnitForm}
use Rattle.form_pairs.specs.Units.{uri_in, forms_in}
use Rattle.form_pairs.proofs.UnitTexts.{other_lengths, at_home_so_far, not_at_home, all_at_home}
use Rattle.form_pairs.proofs.forms.are_same_at_home.Goals as goal

pub returns-then-old-new-clause-same : goal.returns-then-old-new-clause-same
returns-then-old-new-clause-same c =
    let before = c.args.before.now in
    let after = c.args.after.now in
    other_lengths (uri_in before.units.now) (uri_in after.units.now) before.unit after.unit (forms_in before.units.now before.unit) (forms_in after.units.now after.unit)
    (λ same. c.if-old-new.true (ap length c.forms_at-old.ensures ∙ same ∙ sym (ap length c.forms_at-new.ensures)))

pub returns-then-not-branch-clause-same : goal.returns-then-not-branch-clause-same
returns-then-not-branch-clause-same c =
    let before = c.args.before.now in
    let after = c.args.after.now in
    let k = c.loop-k.k in
    let f = c.index-old-k.result in
    let g = c.index-new-k.result in
    let old = c.forms_at-old.ensures in
    let new = c.forms_at-new.ensures in
    not_at_home (uri_in before.units.now) (uri_in after.units.now) before.unit after.unit (forms_in before.units.now before.unit) (forms_in after.units.now after.unit) k f g
    (subst (λ (xs : List UnitForm). k < length xs) old c.loop-k-test.true) (subst (λ (xs : List UnitForm). k < length xs) new (omega (arith, c.loop-k-test.true, c.if-old-new.false)))
    (subst (λ (xs : List UnitForm). f ≡ get_or xs k f) old c.index-old-k.is) (subst (λ (xs : List UnitForm). g ≡ get_or xs k g) new c.index-new-k.is)
    c.in_ok-is_same_at_home.field-0 c.in_ok-is_same_at_home.ensures c.loop-k.invariant c.if-not-branch.true

pub loop-k-preserved : goal.loop-k-preserved
loop-k-preserved c =
    let before = c.args.before.now in
    let after = c.args.after.now in
    let k = c.loop-k.k in
    let f = c.index-old-k.result in
    let g = c.index-new-k.result in
    let old = c.forms_at-old.ensures in
    let new = c.forms_at-new.ensures in
    at_home_so_far (uri_in before.units.now) (uri_in after.units.now) before.unit after.unit (forms_in before.units.now before.unit) (forms_in after.units.now after.unit) k f g
    (subst (λ (xs : List UnitForm). k < length xs) old c.loop-k-test.true) (subst (λ (xs : List UnitForm). k < length xs) new (omega (arith, c.loop-k-test.true, c.if-old-new.false)))
    (subst (λ (xs : List UnitForm). f ≡ get_or xs k f) old c.index-old-k.is) (subst (λ (xs : List UnitForm). g ≡ get_or xs k g) new c.index-new-k.is)
    c.in_ok-is_same_at_home.field-0 c.in_ok-is_same_at_home.ensures c.loop-k.invariant c.if-not-branch.false

pub returns-clause-same : goal.returns-clause-same
returns-clause-same c =
    let before = c.args.before.now in
    let after = c.args.after.now in
    all_at_home (uri_in before.units.now) (uri_in after.units.now) before.unit after.unit (forms_in before.units.now before.unit) (forms_in after.units.now after.unit) c.loop-k.k
    (sym (ap length c.forms_at-old.ensures) ∙ c.if-old-new.false ∙ ap length c.forms_at-new.ensures)
    (omega (arith, c.loop-k-test.false, c.loop-k.auto.k-end) ∙ ap length c.forms_at-old.ensures) c.loop-k.invariant
