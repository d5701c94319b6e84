use Rattle.std.proofs.Common.{List, None, ap, ◌∙◌, sym, arith}
use Rattle.std.specs.BTreeMap.{get}
use Rattle.core_tree.specs.declared.units.UnitForm.{UnitForm}
use Rattle.core_tree.specs.declared.units.Unit.{Unit as CodeUnit}
use Rattle.program_leaves.specs.Placed.{global_cmp, forms_given, units_given}
use Rattle.alpha_equal.specs.Numbered.{number_after}
use Rattle.alpha_equal.proofs.NumberLaws.{units_more}
use Rattle.alpha_equal.proofs.numbers.numbers_of.Goals as goal

pub loop-place-preserved : goal.loop-place-preserved
loop-place-preserved c = λ k.
    let old = get global_cmp c.loop-place.numbers k in
    let us = c.as_slice-units.result.now in
    units_more us c.loop-place.place c.index-units-place.result k old (get global_cmp c.add_unit.new.numbers k) (number_after (units_given 0 us) k None) (omega arith) c.index-units-place.is (c.loop-place.invariant k)
    (c.in_ok-add_unit.ensures k ∙ ap (λ (cs : List UnitForm). number_after (forms_given c.loop-place.place cs) k old) (c.as_slice.ensures ∙ ap (λ (u : CodeUnit). u.forms) (sym c.index-units-place.is)))
