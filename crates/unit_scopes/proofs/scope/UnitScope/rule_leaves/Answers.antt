use Rattle.std.proofs.Common.{◌+◌, List, map, take, None, false, subst, sym, ◌∙◌, arith}
use Rattle.std.proofs.lemmas.Option.{slice_get_within}
use Rattle.rules_check.specs.Gathered as gathered
use Rattle.rules_check.specs.declared.leaf.RuleLeaf.{RuleLeaf}
use Rattle.core_tree.specs.Names.{AllMatch, IsLeaf}
use Rattle.core_tree.specs.declared.cores.RuleLeaf as code_leaf
use Rattle.unit_scopes.specs.RulesTold.{definition_leaf}
use Rattle.unit_scopes.proofs.MatchLists.{match_at, as_long, all_next, all_done, leaves_match}
use Rattle.unit_scopes.proofs.scope.UnitScope.rule_leaves.Goals as goal

abbrev d : RuleLeaf
d = record { name = record { ident = 0; occ = None }; literal = false }

pub target-requires-clause-ident : goal.target-requires-clause-ident
target-requires-clause-ident c =
    let names = c.args.work.now.symbols in
    let ls = c.args.leaves.now in
    let h = match_at (gathered.IsLeaf names) ls c.requires.leaves.0 c.loop-leaf.leaf-index d (leaves_match names ls c.requires.leaves.0 c.requires.leaves.1) c.loop-leaf-test.true in
    rw c.part.ensures.ident (slice_get_within names.idents _ h.0.leaf.name h.2.0.0)

pub loop-leaf-preserved : goal.loop-leaf-preserved
loop-leaf-preserved c = λ ls s fs ms stands at are.
    let names = c.args.work.now.symbols in
    let xs = c.args.leaves.now in
    let k = c.loop-leaf.leaf-index in
    let Q = IsLeaf names s.unit s.form in
    let h = match_at (gathered.IsLeaf names) xs ms k d (leaves_match names xs ms are) c.loop-leaf-test.true in
    let target = c.target.ensures ls s fs h.0.leaf stands at (rw c.part.ensures.ident h.2.0.0, c.part.ensures.place ∙ h.2.0.1) in
    subst (λ (out : List code_leaf.RuleLeaf). AllMatch Q out (map (definition_leaf s fs) (take (k + 1) ms))) (sym c.in_ok-push.ensures.items)
    (all_next Q (definition_leaf s fs) k c.loop-leaf.found.items ms _ h.0 (c.loop-leaf.invariant ls s fs ms stands at are) h.1 (record { target = target; literal = h.2.1 }))

pub returns : goal.returns
returns c = λ ls s fs ms stands at are.
    let names = c.args.work.now.symbols in
    let xs = c.args.leaves.now in
    all_done (IsLeaf names s.unit s.form) (definition_leaf s fs) c.loop-leaf.leaf-index c.loop-leaf.found.items ms
    (omega (arith, as_long (gathered.IsLeaf names) xs ms (leaves_match names xs ms are), c.loop-leaf-test.false)) (c.loop-leaf.invariant ls s fs ms stands at are)
