use Rattle.std.proofs.Common.{List, length, sym, ap, ◌∙◌, subst}
use Rattle.core_tree.specs.Units.{FormsStand, definitions_from}
use Rattle.core_tree.specs.declared.units.UnitForm as code
use Rattle.scheme_model.specs.Program.{with_refused}
use Rattle.unit_sources.specs.UnitsRead.{forms_of}
use Rattle.form_expansion.specs.Forms.{AreFormed}
use Rattle.form_expansion.specs.Refused.{refused_forms}
use Rattle.form_expansion.proofs.RefusedLaws.{any_formed, refused_definitions, refused_length, refused_stand}
use Rattle.form_expansion.proofs.refused.refuse.Goals as goal

pub returns-clause-count : goal.returns-clause-count
returns-clause-count c =
    ap (λ (fs : List code.UnitForm). length fs) (c.from_vec.ensures ∙ c.in_ok-refuse_all.ensures ∙ ap (λ (fs : List code.UnitForm). refused_forms c.args.unit 0 c.args.sources.now fs) c.into_vec-all.ensures)
    ∙ refused_length c.args.unit 0 c.args.sources.now c.args.forms

pub returns-clause-definitions : goal.returns-clause-definitions
returns-clause-definitions c =
    ap (λ (fs : List code.UnitForm). definitions_from 0 fs) (c.from_vec.ensures ∙ c.in_ok-refuse_all.ensures ∙ ap (λ (fs : List code.UnitForm). refused_forms c.args.unit 0 c.args.sources.now fs) c.into_vec-all.ensures)
    ∙ refused_definitions c.args.unit 0 c.args.sources.now c.args.forms

pub returns-clause-formed : goal.returns-clause-formed
returns-clause-formed c = λ work formed.
    subst (λ (fs : List code.UnitForm). AreFormed work c.args.unit fs)
    (sym (c.from_vec.ensures ∙ c.in_ok-refuse_all.ensures ∙ ap (λ (fs : List code.UnitForm). refused_forms c.args.unit 0 c.args.sources.now fs) c.into_vec-all.ensures))
    (any_formed work c.args.unit c.args.sources.now c.args.forms formed c.requires)

pub returns-clause-stand : goal.returns-clause-stand
returns-clause-stand c = λ work fs stand numbers.
    subst (λ (cs : List code.UnitForm). FormsStand work c.args.unit 0 cs (with_refused c.args.unit 0 (forms_of c.args.sources.now) fs))
    (sym (c.from_vec.ensures ∙ c.in_ok-refuse_all.ensures ∙ ap (λ (cs : List code.UnitForm). refused_forms c.args.unit 0 c.args.sources.now cs) c.into_vec-all.ensures))
    (refused_stand work c.args.unit 0 c.args.sources.now c.args.forms fs c.requires stand numbers)
