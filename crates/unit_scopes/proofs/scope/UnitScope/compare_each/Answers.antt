use Rattle.std.proofs.Common.{◌+◌, List, map, take, subst, sym, arith}
use Rattle.std.proofs.lemmas.Option.{slice_get_within}
use Rattle.syntax_tree.specs.declared.rules.IdPair.{IdPair}
use Rattle.core_tree.specs.Names.{AllMatch}
use Rattle.unit_scopes.specs.Used.{ComparisonFor, comparison_of}
use Rattle.unit_scopes.specs.declared.uses.Comparison.{Comparison}
use Rattle.unit_scopes.proofs.MatchLists.{match_at, as_long, all_next, all_done, IsPair, pairs_match}
use Rattle.unit_scopes.proofs.scope.UnitScope.compare_each.Goals as goal

pub comparison-requires-clause-literal : goal.comparison-requires-clause-literal
comparison-requires-clause-literal c =
    let work = c.args.work.now in
    let ps = c.args.pairs.now in
    let d : IdPair = record { literal = 0; ident = 0 } in
    let h = match_at (IsPair work) ps c.requires.pairs.0 c.loop-pair.pair-index d (pairs_match work ps c.requires.pairs.0 c.requires.pairs.1) c.loop-pair-test.true in
    slice_get_within work.symbols.idents _ h.0.0 h.2.0

pub comparison-requires-clause-ident : goal.comparison-requires-clause-ident
comparison-requires-clause-ident c =
    let work = c.args.work.now in
    let ps = c.args.pairs.now in
    let d : IdPair = record { literal = 0; ident = 0 } in
    let h = match_at (IsPair work) ps c.requires.pairs.0 c.loop-pair.pair-index d (pairs_match work ps c.requires.pairs.0 c.requires.pairs.1) c.loop-pair-test.true in
    slice_get_within work.symbols.idents _ h.0.1 h.2.1

pub loop-pair-preserved : goal.loop-pair-preserved
loop-pair-preserved c = λ ls s gs fs qs stands there at are.
    let work = c.args.work.now in
    let ps = c.args.pairs.now in
    let k = c.loop-pair.pair-index in
    let d : IdPair = record { literal = 0; ident = 0 } in
    let Q = ComparisonFor work ls c.args.literal_scope c.args.scope in
    let h = match_at (IsPair work) ps qs k d (pairs_match work ps qs are) c.loop-pair-test.true in
    subst (λ (out : List Comparison). AllMatch Q out (map (comparison_of s gs fs) (take (k + 1) qs))) (sym {A = List Comparison} c.in_ok-push.ensures.items)
    (all_next Q (comparison_of s gs fs) k c.loop-pair.comparisons.items qs c.comparison.result h.0 (c.loop-pair.invariant ls s gs fs qs stands there at are) h.1
    (c.comparison.ensures ls s gs fs h.0.0 h.0.1 stands there at h.2.0 h.2.1))

pub returns : goal.returns
returns c = λ ls s gs fs qs stands there at are.
    let work = c.args.work.now in
    let ps = c.args.pairs.now in
    all_done (ComparisonFor work ls c.args.literal_scope c.args.scope) (comparison_of s gs fs) c.loop-pair.pair-index c.loop-pair.comparisons.items qs
    (omega (arith, as_long (IsPair work) ps qs (pairs_match work ps qs are), c.loop-pair-test.false)) (c.loop-pair.invariant ls s gs fs qs stands there at are)
