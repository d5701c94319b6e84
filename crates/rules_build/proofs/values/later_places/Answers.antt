use Rattle.std.proofs.Common.{sym, subst}
use Rattle.scheme_model.specs.Building.{later_places}
use Rattle.rules_build.specs.declared.values.Bound as code
use Rattle.rules_build.specs.Values.{IsBound}
use Rattle.rules_build.proofs.PairLaws.{made_more}
use Rattle.rules_build.proofs.ValueLaws.{later_one, later_last}
use Rattle.rules_build.proofs.values.later_places.Goals as goal

pub loop-bound-preserved : goal.loop-bound-preserved
loop-bound-preserved c = λ work region.
    made_more (IsBound work region) (IsBound work region) later_places later_one later_last c.args.bounds.now c.loop-bound.bound-index c.bound-item.result c.loop-bound.later.items c.push.new.self.items _ c.loop-bound-test.true (c.loop-bound.invariant work region) c.in_ok-push.ensures.items
    (λ m h. let g = subst (λ (b : code.Bound). IsBound work region b m) (sym c.bound-item.is) h in (g.0, c.later_values.ensures work region m.value g.1))
