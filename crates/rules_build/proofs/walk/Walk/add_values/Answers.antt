use Rattle.std.proofs.Common.{ℕ, sym, subst, arith}
use Rattle.std.specs.Prelude.{Option, Ok}
use Rattle.scheme_model.specs.Trees.{name}
use Rattle.scheme_model.specs.Building.{build_tree}
use Rattle.syntax_tree.specs.declared.rules.Binding as code_binding
use Rattle.rules_build.specs.Values.{IsBoundTo}
use Rattle.rules_build.specs.Builds.{inserting, Plans}
use Rattle.rules_build.proofs.RowSteps.{values_start, values_more, values_end}
use Rattle.rules_build.proofs.walk.Walk.add_values.Goals as goal

pub loop-binding-init : goal.loop-binding-init
loop-binding-init c = λ region k dots i o j vs h is same are. values_start c.args.self.now.work.now region k dots i o j vs c.args.values.now c.args.room.now c.args.plans.now.items are

pub loop-binding-preserved : goal.loop-binding-preserved
loop-binding-preserved c = λ region k dots i o j vs h is same are.
    let w = c.args.self.now.work.now in
    values_more w region k dots i o j same vs c.loop-binding.binding-index c.args.values.now c.binding-item.result c.args.room.now c.loop-binding.room c.spend.result c.args.plans.now.items c.loop-binding.plans.items c.keep.new.plans.items
    c.valued-plan.result c.bound_by.result.value c.loop-binding-test.true (c.loop-binding.invariant region k dots i o j vs h is same are)
    (λ v x g. (c.bound_by.ensures w region v x (subst (λ (b : code_binding.Binding). IsBoundTo w region b v x) (sym c.binding-item.is) g)).1) (λ ms found.
    subst (λ (n : Option ℕ). Plans w region k c.loop-binding.room n (build_tree (inserting k) dots (name i o) ms) (Ok c.valued-plan.result)) (sym c.spend.ensures) (c.valued-plan.ensures region k dots i o ms c.loop-binding.room h is found))
    (λ b g. c.in_ok-keep.ensures w region k b g)

pub returns : goal.returns
returns c = λ region k dots i o j vs h is same are.
    values_end c.args.self.now.work.now region k dots i o j vs c.loop-binding.binding-index c.args.values.now c.args.room.now c.loop-binding.room c.args.plans.now.items c.loop-binding.plans.items (omega arith)
    (c.loop-binding.invariant region k dots i o j vs h is same are)
