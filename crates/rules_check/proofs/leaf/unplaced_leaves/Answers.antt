use Rattle.std.proofs.Common.{List, ℕ, [], ◌++◌, map, refl, sym, ap, ◌∙◌, subst}
use Rattle.scheme_model.specs.Leaves.{all_rule_leaves, leaves_of}
use Rattle.syntax_tree.specs.declared.rules.Rule as code_rule
use Rattle.syntax_tree.specs.Macros.{identifiers, AreRolesOf, AreRules}
use Rattle.rules_check.specs.Gathered.{AreLeaves, unplaced_leaf}
use Rattle.rules_check.specs.declared.leaf.RuleLeaf.{RuleLeaf}
use Rattle.rules_check.proofs.Faults.{tells}
use Rattle.rules_check.proofs.Gathering.{literals, unplaced_are, adds_both, all_are}
use Rattle.rules_check.proofs.leaf.unplaced_leaves.Goals as goal

pub in_rules-requires : goal.in_rules-requires
in_rules-requires c = (c.requires.0.rules, subst (λ (ns : List code_rule.Rule). AreRules c.args.work.now ns c.requires.0.rules) (sym c.as_slice-3.ensures) c.requires.1.rules)

pub returns : goal.returns
returns c = λ r of unplaced.
    let w = c.args.work.now in
    let rules = c.args.rules.now in
    let roles = subst (λ (ls : List ℕ). AreRolesOf c.in_ok-roles.roles rules.ellipsis ls) c.as_slice.ensures c.in_ok-roles.ensures in
    let told = tells w.symbols c.in_ok-roles.roles rules r roles of.ellipsis of.literals in
    let are = subst (λ (ns : List code_rule.Rule). AreRules w ns r.rules) (sym c.as_slice-3.ensures) of.rules in
    let mid = c.in_ok-leaves.leaves.items in
    let new = c.in_rules.new.leaves.items in
    let first = literals r.literals in
    let rest = all_rule_leaves identifiers r r.rules in
    let here : AreLeaves w.symbols mid first = subst (λ (ls : List RuleLeaf). AreLeaves w.symbols ls first) (sym (c.in_ok-leaves.ensures ∙ ap (map unplaced_leaf) c.as_slice-2.ensures)) (unplaced_are w.symbols rules.literals r.literals of.literals unplaced) in
    all_are w.symbols [] new (first ++ rest) refl (adds_both w.symbols [] mid new first rest (record { more = mid; added = refl; are = here }) (c.in_ok-in_rules.ensures r r.rules told are))
