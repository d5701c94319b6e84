use Rattle.std.proofs.Common.{ap, ◌∙◌}
use Rattle.scheme_model.specs.Trees.{Trees}
use Rattle.scheme_model.specs.Ident.{Ident as Identifier}
use Rattle.scheme_model.specs.Shapes.{constructor_of}
use Rattle.core_forms.specs.Steps.{behind_name, behind_constructor}
use Rattle.core_forms.specs.Ends.{IsRecordType}
use Rattle.core_forms.proofs.Reading.{then_err, then_ok, ends_same}
use Rattle.core_forms.proofs.records.behind_name.Goals as goal

pub returns-in_err-constructor-in-Parts : goal.returns-in_err-constructor-in-Parts
returns-in_err-constructor-in-Parts c = λ n ts named stands.
    let w = c.args.work.now in
    let l = c.in-Parts.ensures.read ts stands in
    then_err w (IsRecordType w) (constructor_of l.0) (λ k. behind_constructor n k l.1) (behind_name n ts) c.from_residual.result c.in_err-constructor-in-Parts.field-0.0
    (ap (λ (x : Trees Identifier). behind_name n x) l.2) c.from_residual.ensures.1 (c.in_err-constructor-in-Parts.ensures l.0 l.3)

pub returns-in_ok-constructor-in-Parts : goal.returns-in_ok-constructor-in-Parts
returns-in_ok-constructor-in-Parts c = λ n ts named stands.
    let w = c.args.work.now in
    let l = c.in-Parts.ensures.read ts stands in
    let k = c.in_ok-constructor-in-Parts.ensures l.0 l.3 in
    ends_same w (IsRecordType w) (behind_name n ts) (behind_constructor n k.0 l.1) c.behind_constructor.result (ap (λ (x : Trees Identifier). behind_name n x) l.2 ∙ then_ok (constructor_of l.0) (λ k. behind_constructor n k l.1) k.0 k.1) (c.behind_constructor.ensures n k.0 l.1 named k.2 l.4)
