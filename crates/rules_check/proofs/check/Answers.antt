use Rattle.std.proofs.Common.{List, ℕ, sym, subst}
use Rattle.syntax_tree.specs.declared.rules.Rule as code_rule
use Rattle.syntax_tree.specs.Macros.{AreRolesOf, AreRules, RulesFor}
use Rattle.rules_check.specs.Checked.{rules_in_form}
use Rattle.rules_check.proofs.ReadLaws.{ends_err}
use Rattle.rules_check.proofs.Faults.{tells, form_refused, form_passed}
use Rattle.rules_check.proofs.check.Goals as goal

pub returns-in_err-check_rules : goal.returns-in_err-check_rules
returns-in_err-check_rules c = λ t h.
    let w = c.args.work.now in
    let read = c.in_ok-rules.ensures t h in
    let rules = c.in_ok-rules.rules in
    let roles = subst (λ (ls : List ℕ). AreRolesOf c.in_ok-roles.roles rules.ellipsis ls) c.as_slice.ensures c.in_ok-roles.ensures in
    let told = tells w.symbols c.in_ok-roles.roles rules read.0 roles read.2.ellipsis read.2.literals in
    let are = subst (λ (ns : List code_rule.Rule). AreRules w ns read.0.rules) (sym c.as_slice-2.ensures) read.2.rules in
    let e = c.in_err-check_rules.field-0.0 in
    ends_err w (RulesFor w) (rules_in_form t) c.from_residual-in_err-check_rules.result e c.from_residual-in_err-check_rules.ensures.1
    (form_refused w t read.0 e read.1 (c.in_err-check_rules.ensures read.0 read.0.rules told are))

pub returns : goal.returns
returns c = λ t h.
    let w = c.args.work.now in
    let read = c.in_ok-rules.ensures t h in
    let rules = c.in_ok-rules.rules in
    let roles = subst (λ (ls : List ℕ). AreRolesOf c.in_ok-roles.roles rules.ellipsis ls) c.as_slice.ensures c.in_ok-roles.ensures in
    let told = tells w.symbols c.in_ok-roles.roles rules read.0 roles read.2.ellipsis read.2.literals in
    let are = subst (λ (ns : List code_rule.Rule). AreRules w ns read.0.rules) (sym c.as_slice-2.ensures) read.2.rules in
    let done = c.in_ok-check_rules.ensures read.0 read.0.rules told are in
    (read.0, form_passed t read.0 done.0 read.1 done.1, read.2)
