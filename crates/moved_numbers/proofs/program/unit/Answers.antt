use Rattle.std.proofs.Common.{◌≡◌, List, map, length, ap, ◌∙◌}
use Rattle.std.proofs.lemmas.List.{with_items_is, length-map}
use Rattle.core_tree.specs.declared.units.UnitForm.{UnitForm}
use Rattle.moved_numbers.specs.Standing.{FormMoves}
use Rattle.moved_numbers.specs.Values.{form_as}
use Rattle.moves.specs.Numbers.{numbers_of}
use Rattle.moved_numbers.proofs.Fronts.{match_as}
use Rattle.moved_numbers.proofs.program.unit.Goals as goal

pub returns-clause-forms : goal.returns-clause-forms
returns-clause-forms c =
    let f = form_as (numbers_of c.args.moves.now) in
    let all = c.take-all.result in
    let moved = c.unit_forms.new.all in
    let long : length moved ≡ all.len = ap (λ (l : List UnitForm). length l) c.unit_forms.ensures.value ∙ length-map c.as_mut_slice.result.now f ∙ c.as_mut_slice.ensures.len in
    match_as (FormMoves (numbers_of c.args.moves.now)) c.as_mut_slice.result.now c.args.it.now.forms moved c.from_vec.result (c.as_mut_slice.ensures.value ∙ c.take-all.ensures) (c.from_vec.ensures ∙ with_items_is all moved long) c.unit_forms.ensures.forms

pub returns-clause-value : goal.returns-clause-value
returns-clause-value c =
    let f = form_as (numbers_of c.args.moves.now) in
    let all = c.take-all.result in
    let moved = c.unit_forms.new.all in
    let long : length moved ≡ all.len = ap (λ (l : List UnitForm). length l) c.unit_forms.ensures.value ∙ length-map c.as_mut_slice.result.now f ∙ c.as_mut_slice.ensures.len in
    λ i. record c.args.it.now { forms = (c.from_vec.ensures ∙ with_items_is all moved long ∙ c.unit_forms.ensures.value ∙ ap (map f) (c.as_mut_slice.ensures.value ∙ c.take-all.ensures)) i }
