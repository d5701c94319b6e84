use Rattle.std.proofs.Common.{List, None, ap, ◌∙◌, sym, arith}
use Rattle.std.specs.BTreeMap.{get}
use Rattle.core_tree.specs.declared.units.UnitForm.{UnitForm}
use Rattle.core_tree.specs.declared.units.Unit.{Unit as CodeUnit}
use Rattle.program_leaves.specs.Placed.{global_cmp, forms_given, given_after, units_given}
use Rattle.program_leaves.proofs.GivenLaws.{units_more}
use Rattle.program_leaves.proofs.gathering.definitions_of.Goals as goal

pub loop-place-preserved : goal.loop-place-preserved
loop-place-preserved c = λ k.
    let old = get global_cmp c.loop-place.definitions k in
    let us = c.as_slice-units.result.now in
    units_more us c.loop-place.place c.index-units-place.result k old (get global_cmp c.add_unit_definitions.new.definitions k) (given_after (units_given 0 us) k None) (omega arith) c.index-units-place.is (c.loop-place.invariant k)
    (c.in_ok-add_unit_definitions.ensures k ∙ ap (λ (cs : List UnitForm). given_after (forms_given c.loop-place.place cs) k old) (c.as_slice.ensures ∙ ap (λ (u : CodeUnit). u.forms) (sym c.index-units-place.is)))
