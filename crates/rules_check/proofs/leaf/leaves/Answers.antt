use Rattle.std.proofs.Common.{List, ℕ, ◌++◌, sym, ap, subst}
use Rattle.scheme_model.specs.Leaves.{all_rule_leaves, leaves_of}
use Rattle.syntax_tree.specs.declared.rules.Rule as code_rule
use Rattle.syntax_tree.specs.Macros.{identifiers, AreRolesOf, AreRules}
use Rattle.rules_check.specs.Gathered.{listed_in, name_leaves}
use Rattle.rules_check.proofs.Faults.{tells}
use Rattle.rules_check.proofs.Gathering.{listed, adds_both, adds_same, all_are}
use Rattle.rules_check.proofs.leaf.leaves.Goals as goal

pub in_form-requires : goal.in_form-requires
in_form-requires c = (c.requires.0, c.requires.2)

pub in_rules-requires : goal.in_rules-requires
in_rules-requires c = (c.requires.1.rules, subst (λ (ns : List code_rule.Rule). AreRules c.args.work.now ns c.requires.1.rules) (sym c.as_slice-2.ensures) c.requires.4.rules)

pub returns : goal.returns
returns c = λ t r stands is of.
    let w = c.args.work.now in
    let rules = c.args.rules.now in
    let roles = subst (λ (ls : List ℕ). AreRolesOf c.in_ok-roles.roles rules.ellipsis ls) c.as_slice.ensures c.in_ok-roles.ensures in
    let told = tells w.symbols c.in_ok-roles.roles rules r roles of.ellipsis of.literals in
    let are = subst (λ (ns : List code_rule.Rule). AreRules w ns r.rules) (sym c.as_slice-2.ensures) of.rules in
    let old = c.new-leaves.result.items in
    let mid = c.in_form.new.leaves.items in
    let new = c.in_rules.new.leaves.items in
    let first = name_leaves (listed_in t) in
    let rest = all_rule_leaves identifiers r r.rules in
    let both = adds_both w.symbols old mid new first rest (c.in_ok-in_form.ensures t stands) (c.in_ok-in_rules.ensures r r.rules told are) in
    all_are w.symbols old new (leaves_of identifiers r) c.new-leaves.ensures.items (adds_same w.symbols old new (first ++ rest) (leaves_of identifiers r) (ap (λ ls. ls ++ rest) (listed t r is)) both)
