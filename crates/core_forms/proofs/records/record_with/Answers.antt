use Rattle.std.proofs.Common.{sym, ap, ◌∙◌, subst, refl, map, List, Ok, Err}
use Rattle.std.specs.Prelude.{if◌then◌else◌}
use Rattle.scheme_model.specs.ExpansionFaults.{BadForm}
use Rattle.scheme_model.specs.Shapes.{distinct, all_among}
use Rattle.scheme_model.specs.Ident.{same_ident}
use Rattle.core_forms.specs.declared.shape.NamePart.{NamePart}
use Rattle.core_forms.specs.declared.shape.FieldShape.{FieldShape}
use Rattle.core_forms.specs.Parts.{AllMatch, IsName}
use Rattle.core_forms.specs.Steps.{record_with}
use Rattle.core_forms.specs.Ends.{IsRecordType}
use Rattle.core_forms.proofs.Reading.{then_err}
use Rattle.core_forms.proofs.Distinct.{field_names_are, uses_all, uses_not}
use Rattle.core_forms.proofs.records.record_with.Goals as goal

pub returns-in_err-distinct : goal.returns-in_err-distinct
returns-in_err-distinct c = λ n k p fs named made tested fields.
    let w = c.args.work.now in
    let ms = map (λ f. f.field) fs in
    let are = subst (λ (ns : List NamePart). AllMatch (IsName w) ns ms) (sym (c.as_slice-2.ensures.value ∙ c.in_ok-names.ensures ∙ ap (map (λ (x : FieldShape). x.name)) c.as_slice.ensures.value)) (field_names_are w _ fs fields) in
    then_err w (IsRecordType w) (distinct same_ident ms) (λ u. if all_among same_ident k.1 ms then Ok (record { type = n; constructor = k.0; used = k.1; predicate = p; fields = fs }) else Err BadForm) (record_with n k p fs) c.from_residual-in_err-distinct.result c.in_err-distinct.field-0.0
    refl c.from_residual-in_err-distinct.ensures.1 (c.in_err-distinct.ensures ms are)

pub returns-then-not-branch : goal.returns-then-not-branch
returns-then-not-branch c = λ n k p fs named made tested fields.
    let w = c.args.work.now in
    let ms = map (λ f. f.field) fs in
    let are = subst (λ (ns : List NamePart). AllMatch (IsName w) ns ms) (sym (c.as_slice-2.ensures.value ∙ c.in_ok-names.ensures ∙ ap (map (λ (x : FieldShape). x.name)) c.as_slice.ensures.value)) (field_names_are w _ fs fields) in
    let used = subst (λ (ns : List NamePart). AllMatch (IsName w) ns k.1) (sym c.as_slice-3.ensures.value) made.1 in
    let those = subst (λ (ns : List NamePart). AllMatch (IsName w) ns ms) (c.as_slice-2.ensures.value ∙ sym c.as_slice-4.ensures.value) are in
    let done = c.in_ok-distinct.ensures ms are in
    uses_not n k p fs done.0 done.1 (sym (c.in_ok-uses_fields.ensures k.1 ms used those) ∙ c.if-not-branch.true)

pub returns : goal.returns
returns c = λ n k p fs named made tested fields.
    let w = c.args.work.now in
    let ms = map (λ f. f.field) fs in
    let are = subst (λ (ns : List NamePart). AllMatch (IsName w) ns ms) (sym (c.as_slice-2.ensures.value ∙ c.in_ok-names.ensures ∙ ap (map (λ (x : FieldShape). x.name)) c.as_slice.ensures.value)) (field_names_are w _ fs fields) in
    let used = subst (λ (ns : List NamePart). AllMatch (IsName w) ns k.1) (sym c.as_slice-3.ensures.value) made.1 in
    let those = subst (λ (ns : List NamePart). AllMatch (IsName w) ns ms) (c.as_slice-2.ensures.value ∙ sym c.as_slice-4.ensures.value) are in
    let done = c.in_ok-distinct.ensures ms are in (
      record { type = n; constructor = k.0; used = k.1; predicate = p; fields = fs },
      uses_all n k p fs done.0 done.1 (sym (c.in_ok-uses_fields.ensures k.1 ms used those) ∙ c.if-not-branch.false),
      (_, (_, (_, (_, (_, refl, record { type = named; constructor = made.0; used = made.1; predicate = tested; fields = fields }))))),
    )
