use Rattle.std.proofs.Common.{ap, ◌∙◌}
use Rattle.scheme_model.specs.Trees.{Trees}
use Rattle.scheme_model.specs.ExpansionFaults.{◌>>◌}
use Rattle.scheme_model.specs.Ident.{Ident as Identifier}
use Rattle.scheme_model.specs.Shapes.{name_of, fields_of}
use Rattle.core_forms.specs.Steps.{behind_constructor, record_with}
use Rattle.core_forms.specs.Ends.{IsRecordType}
use Rattle.core_forms.proofs.Reading.{then_err, then_ok, ends_same}
use Rattle.core_forms.proofs.records.behind_constructor.Goals as goal

pub returns-in_err-predicate-in-Parts : goal.returns-in_err-predicate-in-Parts
returns-in_err-predicate-in-Parts c = λ n k ts named made stands.
    let w = c.args.work.now in
    let l = c.in-Parts.ensures.read ts stands in
    then_err w (IsRecordType w) (name_of l.0) (λ p. fields_of l.1 >> λ f. record_with n k p f) (behind_constructor n k ts) c.from_residual.result c.in_err-predicate-in-Parts.field-0.0
    (ap (λ (x : Trees Identifier). behind_constructor n k x) l.2) c.from_residual.ensures.1 (c.in_err-predicate-in-Parts.ensures l.0 l.3)

pub returns-in_err-fields-in-Parts : goal.returns-in_err-fields-in-Parts
returns-in_err-fields-in-Parts c = λ n k ts named made stands.
    let w = c.args.work.now in
    let l = c.in-Parts.ensures.read ts stands in
    let p = c.in_ok-predicate-in-Parts.ensures l.0 l.3 in
    then_err w (IsRecordType w) (fields_of l.1) (λ f. record_with n k p.0 f) (behind_constructor n k ts) c.from_residual-in_err-fields-in-Parts.result c.in_err-fields-in-Parts.field-0.0
    (ap (λ (x : Trees Identifier). behind_constructor n k x) l.2 ∙ then_ok (name_of l.0) (λ p. fields_of l.1 >> λ f. record_with n k p f) p.0 p.1) c.from_residual-in_err-fields-in-Parts.ensures.1 (c.in_err-fields-in-Parts.ensures l.1 l.4)

pub returns-in_ok-fields-in-Parts : goal.returns-in_ok-fields-in-Parts
returns-in_ok-fields-in-Parts c = λ n k ts named made stands.
    let w = c.args.work.now in
    let l = c.in-Parts.ensures.read ts stands in
    let p = c.in_ok-predicate-in-Parts.ensures l.0 l.3 in
    let f = c.in_ok-fields-in-Parts.ensures l.1 l.4 in
    ends_same w (IsRecordType w) (behind_constructor n k ts) (record_with n k p.0 f.0) c.record_with.result (ap (λ (x : Trees Identifier). behind_constructor n k x) l.2 ∙ then_ok (name_of l.0) (λ p. fields_of l.1 >> λ f. record_with n k p f) p.0 p.1 ∙ then_ok (fields_of l.1) (λ f. record_with n k p.0 f) f.0 f.1) (c.record_with.ensures n k p.0 f.0 named made p.2 f.2)
