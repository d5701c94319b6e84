use Rattle.std.proofs.Common.{List, ap, ◌∙◌, arith}
use Rattle.std.specs.BTreeMap.{get}
use Rattle.core_tree.specs.declared.cores.Binder.{Binder}
use Rattle.program_leaves.specs.Placed.{global_cmp, given_by}
use Rattle.alpha_equal.specs.Numbered.{number_after}
use Rattle.alpha_equal.proofs.NumberLaws.{forms_more}
use Rattle.alpha_equal.proofs.numbers.add_unit.Goals as goal

pub loop-form-preserved : goal.loop-form-preserved
loop-form-preserved c = λ k.
    let old = get global_cmp c.loop-form.numbers k in
    forms_more c.args.unit c.args.forms.now c.loop-form.form-index c.form-item.result k (get global_cmp c.args.numbers.now k) old (get global_cmp c.add_definitions.new.numbers k) (omega arith) c.form-item.is (c.loop-form.invariant k)
    (c.in_ok-add_definitions.ensures k ∙ ap (λ (bs : List Binder). number_after (given_by c.args.unit bs) k old) c.as_slice.ensures)
