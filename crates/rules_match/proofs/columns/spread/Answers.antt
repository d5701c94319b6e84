use Rattle.std.proofs.Common.{arith, [], ◌∷◌, ◌++◌, ap, ◌∙◌}
use Rattle.std.proofs.lemmas.List.{length_push}
use Rattle.std.proofs.lemmas.Iterator.Adapters.{YieldsList-from_vec}
use Rattle.std.proofs.lemmas.Iterator.Consumers.{YieldsList-turn}
use Rattle.rules_match.specs.declared.columns.Column.{Column}
use Rattle.rules_match.proofs.ColumnLaws.{spreads_count, spreads_more}
use Rattle.rules_match.proofs.columns.spread.Goals as goal

pub index_mut-requires : goal.index_mut-requires
index_mut-requires c =
    let t = YieldsList-turn (YieldsList-from_vec c.args.place.items (cc) (cc)) c.loop-binding.yielded c.loop-binding.binding-iterator c.loop-binding.yielded_by c.next.result c.next.new.self c.in-Some.binding c.in-Some.is c.next.ensures.steps in
    let n = spreads_count c.loop-binding.yielded c.args.columns.now.items c.loop-binding.columns.items c.loop-binding.invariant.1 in
    omega (arith, t.0)

pub loop-binding-preserved : goal.loop-binding-preserved
loop-binding-preserved c =
    let t = YieldsList-turn (YieldsList-from_vec c.args.place.items (cc) (cc)) c.loop-binding.yielded c.loop-binding.binding-iterator c.loop-binding.yielded_by c.next.result c.next.new.self c.in-Some.binding c.in-Some.is c.next.ensures.steps in
    let n = spreads_count c.loop-binding.yielded c.args.columns.now.items c.loop-binding.columns.items c.loop-binding.invariant.1 in
    let p = length_push c.loop-binding.yielded c.in-Some.binding in (
      omega arith,
      spreads_more c.loop-binding.yielded c.in-Some.binding c.loop-binding.k c.args.columns.now.items c.loop-binding.columns.items c.index_mut.result.now (record { variable = c.index_mut.result.now.variable; values = c.push.new.self })
          c.loop-binding.invariant.0 (omega (arith, t.0)) c.loop-binding.invariant.1 (ap (λ (k : Column). k.variable) c.index_mut.ensures.value) (c.in_ok-push.ensures.items ∙ ap (λ (k : Column). k.values.items ++ c.in-Some.binding ∷ []) c.index_mut.ensures.value),
    )
