use Rattle.std.proofs.Common.{arith, ℕ, ◌≡◌, ◌≤◌, ◌∙◌, ap, length, List, [], subst, sym}
use Rattle.std.proofs.lemmas.Bool.Decides.{nat_tests}
use Rattle.syntax_tree.specs.Macros.{AreRolesOf, AreRules}
use Rattle.syntax_tree.proofs.Looking.{count_stands}
use Rattle.syntax_tree.specs.declared.rules.Rule as code_rule
use Rattle.rules_match.proofs.RuleLaws.{tells, whole_pairs}
use Rattle.scheme_model.specs.Ident.{Ident as Identifier}
use Rattle.syntax_tree.specs.declared.rules.IdPair.{IdPair}
use Rattle.rules_match.specs.Matches.{ArePairs, compared_in}
use Rattle.rules_match.proofs.NoLiterals.{no_literals, none_compared_in}
use Rattle.rules_match.proofs.literal_pairs.Goals as goal

pub returns-in-List : goal.returns-in-List
returns-in-List c = λ r t rules_for stands.
    let w = c.args.work.now in
    let rules = c.args.rules.now in
    let q = c.in-List.ensures.look t stands in
    let of = subst (λ (ls : List ℕ). AreRolesOf c.in_ok-roles.roles rules.ellipsis ls) c.as_slice-2.ensures c.in_ok-roles.ensures in
    let told = tells w.symbols c.in_ok-roles.roles rules r of rules_for.ellipsis rules_for.literals in
    let are = subst (λ (ns : List code_rule.Rule). AreRules w ns r.rules) (sym c.as_slice-in-List.ensures) rules_for.rules in
    let n = count_stands w c.in-List.items.now q.0 q.4 in
    let some : 1 ≤ length c.in-List.items.now = grind (arith, nat_tests) in
    whole_pairs w r t q.0 q.1 q.2 c.new-pairs.result c.compare_rules.new.pairs c.from_vec.result q.3 (omega arith) c.new-pairs.ensures.items c.from_vec.ensures
    (c.in_ok-compare_rules-in-List.ensures r r.rules q.0 q.1 told are (record { parts = q.4; tail = q.5 }))

pub returns-then-is_empty : goal.returns-then-is_empty
returns-then-is_empty c = λ r t rules_for stands.
    let w = c.args.work.now in
    let empty : length c.as_slice.result.now ≡ 0 = grind (arith, nat_tests) in
    let none = no_literals w.symbols c.args.rules.now.literals r.literals rules_for.literals (ap (λ (ns : List ℕ). length ns) (sym c.as_slice.ensures) ∙ empty) in
    subst (λ (ps : List IdPair). ArePairs w ps (compared_in r t)) (sym c.new.ensures) (subst (λ (qs : List (Identifier × Identifier)). ArePairs w [] qs) (sym (none_compared_in r none t)) tt)
