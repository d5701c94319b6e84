use Rattle.std.proofs.Common.{◌<◌, ◌++◌, length, map, ◌∙◌, arith}
use Rattle.std.proofs.lemmas.List.{length-map}
use Rattle.core_tree.specs.Units.{definitions_from}
use Rattle.core_tree.specs.declared.cores.Binder.{Binder}
use Rattle.unit_imports.proofs.DefinedLaws.{definitions_more, form_at, referred}
use Rattle.unit_imports.proofs.defined.definitions.Goals as goal

pub loop-place-preserved : goal.loop-place-preserved
loop-place-preserved c =
    let old = c.loop-place.all.items in
    let forms = c.args.forms.now in
    let below : c.loop-place.place < length forms = omega arith in
    definitions_more (map referred forms) c.loop-place.place c.index-forms-place.result.now old c.add_definitions.new.all.items (definitions_from 0 (map referred forms)) (omega (arith, length-map forms referred)) (form_at forms c.loop-place.place c.index-forms-place.result below c.index-forms-place.is)
    (c.in_ok-add_definitions.ensures ∙ (λ j. old ++ map (λ (b : Binder). (c.in_ok-number.ensures j, b)) (c.as_slice.ensures j))) c.loop-place.invariant
