use Rattle.std.proofs.Common.{ℕ, refl, sym, subst}
use Rattle.syntax_tree.specs.Macros.{IsIdent}
use Rattle.syntax_tree.specs.declared.rules.Binding as code_binding
use Rattle.rules_build.specs.Values.{IsBoundOne, IsBound}
use Rattle.rules_build.proofs.PairLaws.{made_more}
use Rattle.rules_build.proofs.values.all_bound.Goals as goal

pub loop-binding-preserved : goal.loop-binding-preserved
loop-binding-preserved c = λ work region.
    made_more (IsBoundOne work region) (IsBound work region) (λ ms. ms) (λ m. m) (λ ms m. refl) c.args.bindings.now c.loop-binding.binding-index c.binding-item.result c.loop-binding.bounds.items c.push.new.self.items _ c.loop-binding-test.true (c.loop-binding.invariant work region) c.in_ok-push.ensures.items
    (λ m h.
    let g = subst (λ (b : code_binding.Binding). IsBoundOne work region b m) (sym c.binding-item.is) h in
    let q = c.bound_by.ensures work region g.0 m.value g.2 in
    (subst (λ (n : ℕ). IsIdent work.symbols n m.variable) (sym q.0) g.1, q.1))
