-- The identifiers of one form more.
use Rattle.std.proofs.Common.{◌≡◌, ◌<◌, length, refl, sym, subst, arith, add-one, take}
use Rattle.std.proofs.lemmas.Option.{slice_get_read}
use Rattle.unit_sources.specs.UnitsRead.{forms_of}
use Rattle.scheme_model.specs.Sites.{names_in_forms}
use Rattle.document_units.proofs.IdentifierLaws.{form_added}
use Rattle.document_units.proofs.identifiers.names_of.Goals as goal

pub loop-number-preserved : goal.loop-number-preserved
loop-number-preserved c =
    let n = c.loop-number.number in
    let fs = c.args.forms.now in
    let below : n < length fs = omega arith in
    subst (λ k. c.add_form.new.names.items ≡ names_in_forms c.args.unit 0 (forms_of (take k fs))) (sym (add-one n))
    (form_added c.args.unit n fs c.index-forms-number.result c.loop-number.names.items c.add_form.new.names.items (slice_get_read fs (length fs) n c.index-forms-number.result refl below c.index-forms-number.is)
    c.loop-number.invariant c.in_ok-add_form.ensures)
