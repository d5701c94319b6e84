use Rattle.std.proofs.Common.{◌≡◌, ◌++◌, ◌∙◌, List, [], ◌∷◌, true, false, sym, ap, subst, arith}
use Rattle.std.specs.Prelude.{Vec}
use Rattle.std.specs.declared.alloc.Global.{Global}
use Rattle.rules_build.specs.declared.values.Bound as code
use Rattle.rules_build.specs.Values.{IsBound}
use Rattle.rules_build.proofs.RowLaws.{UsedOf, used_none, used_more, used_all}
use Rattle.rules_build.proofs.used.used_of_few.Goals.{then-stands+in_ok-push, else-stands}
use Rattle.rules_build.proofs.used.used_of_few.Goals as goal

pub loop-bound-init : goal.loop-bound-init
loop-bound-init c = λ region t h. subst (λ (zs : List code.Bound). UsedOf c.args.work.now region t [] zs) (sym c.in_ok-used.ensures.items) (used_none c.args.work.now region t)

pub loop-bound-preserved : goal.loop-bound-preserved
loop-bound-preserved c = λ region t h.
    let w = c.args.work.now in
    let bs = c.args.bounds.now in
    let k = c.loop-bound.bound-index in
    let d = c.bound-item.result in
    let zs = c.loop-bound.used.items in
    elim c.if-stands.branch [
      | then-stands+in_ok-push x ↦
          used_more w region t bs k d zs c.if-stands.used.items true c.loop-bound-test.true (c.loop-bound.invariant region t h)
          (ap (λ (v : Vec code.Bound Global). v.items) x.used-is ∙ x.in_ok-push.ensures.items ∙ ap (λ (b : code.Bound). zs ++ b ∷ []) c.bound-item.is)
          (λ m g. let b = subst (λ (y : code.Bound). IsBound w region y m) (sym c.bound-item.is) g in sym (c.stands.ensures t m.variable h b.0) ∙ x.if-stands.true)
      | else-stands x ↦
          used_more w region t bs k d zs c.if-stands.used.items false c.loop-bound-test.true (c.loop-bound.invariant region t h) (ap (λ (v : Vec code.Bound Global). v.items) x.used-is)
          (λ m g. let b = subst (λ (y : code.Bound). IsBound w region y m) (sym c.bound-item.is) g in sym (c.stands.ensures t m.variable h b.0) ∙ x.if-stands.false)
    ]

pub returns : goal.returns
returns c = λ region t ms h are. used_all c.args.work.now region t c.args.bounds.now c.loop-bound.bound-index c.loop-bound.used.items (omega arith) (c.loop-bound.invariant region t h) ms are
