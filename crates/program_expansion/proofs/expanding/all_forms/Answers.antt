-- The forms of a part are blank, and stand for what comes of none; among those of other units declarations that include are refused.
use Rattle.std.proofs.Common.{◌≡◌, List, length, sym, ap, ◌∙◌, subst}
use Rattle.scheme_model.specs.Program.{form_trees, with_refused}
use Rattle.core_tree.specs.Units.{FormsStand}
use Rattle.form_expansion.specs.Ends.{numbers_of}
use Rattle.unit_sources.specs.UnitsRead.{forms_of}
use Rattle.unit_sources.specs.declared.units.UnitForm.{UnitForm}
use Rattle.program_expansion.proofs.WorkedForms.{blank_are, blank_definitions, blank_stands, other_worked, part_worked}
use Rattle.program_expansion.proofs.expanding.all_forms.Goals as goal

pub refuse-requires : goal.refuse-requires
refuse-requires c =
    let same = other_worked c.args.source.now (sym c.is_part.ensures ∙ c.if-is_part.false) in
    ap (λ (ss : List UnitForm). length ss) (c.as_slice-2.ensures ∙ sym same) ∙ sym c.requires

pub returns-then-is_part-clause-definitions : goal.returns-then-is_part-clause-definitions
returns-then-is_part-clause-definitions c =
    let none = part_worked c.args.source.now (sym c.is_part.ensures ∙ c.if-is_part.true) in
    blank_definitions _ c.args.forms c.in_ok-blank_forms.field-0 none c.requires c.in_ok-blank_forms.ensures.blank

pub returns-then-is_part-clause-formed : goal.returns-then-is_part-clause-formed
returns-then-is_part-clause-formed c = λ work formed.
    let none = part_worked c.args.source.now (sym c.is_part.ensures ∙ c.if-is_part.true) in
    blank_are work c.args.unit _ c.args.forms c.in_ok-blank_forms.field-0 none c.requires c.in_ok-blank_forms.ensures.blank formed

pub returns-then-is_part-clause-stand : goal.returns-then-is_part-clause-stand
returns-then-is_part-clause-stand c = λ work fs stand numbers.
    let none = part_worked c.args.source.now (sym c.is_part.ensures ∙ c.if-is_part.true) in
    blank_stands work c.args.unit _ c.args.forms c.in_ok-blank_forms.field-0 fs none c.requires c.in_ok-blank_forms.ensures.blank stand

pub returns-clause-stand : goal.returns-clause-stand
returns-clause-stand c = λ work fs stand numbers.
    let same : c.as_slice-2.result.now ≡ _ = c.as_slice-2.ensures ∙ sym (other_worked c.args.source.now (sym c.is_part.ensures ∙ c.if-is_part.false)) in
    subst (λ (ss : List UnitForm). FormsStand work c.args.unit 0 c.in_ok-refuse.field-0 (with_refused c.args.unit 0 (forms_of ss) fs)) same
    (c.in_ok-refuse.ensures.stand work fs stand (numbers ∙ ap (λ (ss : List UnitForm). numbers_of (form_trees c.args.unit 0 (forms_of ss))) (sym same)))
