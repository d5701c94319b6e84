use Rattle.std.proofs.Common.{arith, ◌≡◌, ℕ, ◌≤◌, List, length, sym, ap, ◌∙◌, subst}
use Rattle.std.proofs.lemmas.Bool.Decides.{nat_tests}
use Rattle.std.specs.Prelude.{Ok, Err}
use Rattle.scheme_model.specs.Ident.{Ident as Identifier}
use Rattle.syntax_tree.specs.Works.{StandsFor}
use Rattle.syntax_tree.specs.Macros.{AreRolesOf, AreRules, IsIdent}
use Rattle.syntax_tree.specs.declared.rules.Rule as code_rule
use Rattle.syntax_tree.specs.declared.rules.IdPair.{IdPair}
use Rattle.syntax_tree.proofs.Looking.{count_stands}
use Rattle.rules_match.specs.Matches.{match_in, means_same}
use Rattle.rules_match.proofs.KnownLaws.{known_means}
use Rattle.rules_match.proofs.RuleLaws.{tells, whole_match, no_head, fault_handed_on}
use Rattle.rules_match.proofs.match_rules.Goals as goal

pub returns-then-is_empty-clause-finds : goal.returns-then-is_empty-clause-finds
returns-then-is_empty-clause-finds c = λ r t rules_for stands.
    let w = c.args.work.now in
    let q = c.in-List.ensures.look t stands in
    let n = count_stands w c.in-List.items.now q.0 q.4 in
    let none : length c.in-List.items.now ≡ 0 = grind (arith, nat_tests) in
    no_head r (means_same w c.args.same.now) t q.0 q.1 q.2 q.3 (omega arith)

pub matching_rule-requires-clause-rules : goal.matching_rule-requires-clause-rules
matching_rule-requires-clause-rules c =
    let w = c.args.work.now in
    let rules = c.args.rules.now in
    let r = c.requires.rules.0 in
    let rules_for = c.requires.rules.1 in
    let of = subst (λ (ls : List ℕ). AreRolesOf c.in_ok-roles.roles rules.ellipsis ls) c.as_slice.ensures c.in_ok-roles.ensures in
    let told = tells w.symbols c.in_ok-roles.roles rules r of rules_for.ellipsis rules_for.literals in
    let are = subst (λ (ns : List code_rule.Rule). AreRules w ns r.rules) (sym c.as_slice-in-List.ensures) rules_for.rules in
    (r, (means_same w c.args.same.now, record { tells = told; means = λ n m i j h g. c.in_ok-known.ensures n m ∙ known_means w c.told_apart.ensures.idents n m i j h g c.as_slice-2.result.now ∙ ap (λ (ps : List IdPair). means_same w ps i j) c.as_slice-2.ensures }, are))

pub matching_rule-requires-clause-form : goal.matching_rule-requires-clause-form
matching_rule-requires-clause-form c =
    let q = c.in-List.ensures.look c.requires.form.0 c.requires.form.1 in
    (q.0, (q.1, record { place = q.2; whole = subst (StandsFor c.args.work.now c.args.form) q.3 c.requires.form.1; stands = record { parts = q.4; tail = q.5 } }))

pub returns-in_err-matching_rule-in-List-clause-finds : goal.returns-in_err-matching_rule-in-List-clause-finds
returns-in_err-matching_rule-in-List-clause-finds c = λ r t rules_for stands.
    let w = c.args.work.now in
    let rules = c.args.rules.now in
    let same = means_same w c.args.same.now in
    let q = c.in-List.ensures.look t stands in
    let n = count_stands w c.in-List.items.now q.0 q.4 in
    let some : 1 ≤ length c.in-List.items.now = grind (arith, nat_tests) in
    let of = subst (λ (ls : List ℕ). AreRolesOf c.in_ok-roles.roles rules.ellipsis ls) c.as_slice.ensures c.in_ok-roles.ensures in
    let told = tells w.symbols c.in_ok-roles.roles rules r of rules_for.ellipsis rules_for.literals in
    let are = subst (λ (ns : List code_rule.Rule). AreRules w ns r.rules) (sym c.as_slice-in-List.ensures) rules_for.rules in
    let means = λ (n : ℕ) (m : ℕ) (i : Identifier) (j : Identifier) (h : IsIdent w.symbols n i) (g : IsIdent w.symbols m j).
    c.in_ok-known.ensures n m ∙ known_means w c.told_apart.ensures.idents n m i j h g c.as_slice-2.result.now ∙ ap (λ (ps : List IdPair). means_same w ps i j) c.as_slice-2.ensures in
    fault_handed_on w r (match_in r same t) c.from_residual-in_err-matching_rule-in-List.result c.in_err-matching_rule-in-List.field-0.0 c.from_residual-in_err-matching_rule-in-List.ensures.1
    (whole_match w r same t q.0 q.1 q.2 (Err c.in_err-matching_rule-in-List.field-0.0) q.3 (omega arith)
    (c.in_err-matching_rule-in-List.ensures.finds r same q.0 q.1 (record { tells = told; means = means }) are (record { place = q.2; whole = subst (StandsFor w c.args.form) q.3 stands; stands = record { parts = q.4; tail = q.5 } })))

pub returns-in-List-clause-finds : goal.returns-in-List-clause-finds
returns-in-List-clause-finds c = λ r t rules_for stands.
    let w = c.args.work.now in
    let rules = c.args.rules.now in
    let same = means_same w c.args.same.now in
    let q = c.in-List.ensures.look t stands in
    let n = count_stands w c.in-List.items.now q.0 q.4 in
    let some : 1 ≤ length c.in-List.items.now = grind (arith, nat_tests) in
    let of = subst (λ (ls : List ℕ). AreRolesOf c.in_ok-roles.roles rules.ellipsis ls) c.as_slice.ensures c.in_ok-roles.ensures in
    let told = tells w.symbols c.in_ok-roles.roles rules r of rules_for.ellipsis rules_for.literals in
    let are = subst (λ (ns : List code_rule.Rule). AreRules w ns r.rules) (sym c.as_slice-in-List.ensures) rules_for.rules in
    let means = λ (n : ℕ) (m : ℕ) (i : Identifier) (j : Identifier) (h : IsIdent w.symbols n i) (g : IsIdent w.symbols m j).
    c.in_ok-known.ensures n m ∙ known_means w c.told_apart.ensures.idents n m i j h g c.as_slice-2.result.now ∙ ap (λ (ps : List IdPair). means_same w ps i j) c.as_slice-2.ensures in
    whole_match w r same t q.0 q.1 q.2 (Ok c.in_ok-matching_rule-in-List.field-0) q.3 (omega arith)
    (c.in_ok-matching_rule-in-List.ensures.finds r same q.0 q.1 (record { tells = told; means = means }) are (record { place = q.2; whole = subst (StandsFor w c.args.form) q.3 stands; stands = record { parts = q.4; tail = q.5 } }))

pub returns-in-List-clause-named : goal.returns-in-List-clause-named
returns-in-List-clause-named c = λ region can. c.in_ok-matching_rule-in-List.ensures.named region can (c.in-List.ensures.named region can)

pub returns-in-List-clause-matched : goal.returns-in-List-clause-matched
returns-in-List-clause-matched c = λ region can.
    let r = c.requires.rules.0 in
    let rules_for = c.requires.rules.1 in
    let t = c.requires.form.0 in
    let stands = c.requires.form.1 in
    let named = c.in_ok-matching_rule-in-List.ensures.named region can (c.in-List.ensures.named region can) in
    let w = c.args.work.now in
    let rules = c.args.rules.now in
    let same = means_same w c.args.same.now in
    let q = c.in-List.ensures.look t stands in
    let n = count_stands w c.in-List.items.now q.0 q.4 in
    let some : 1 ≤ length c.in-List.items.now = grind (arith, nat_tests) in
    let of = subst (λ (ls : List ℕ). AreRolesOf c.in_ok-roles.roles rules.ellipsis ls) c.as_slice.ensures c.in_ok-roles.ensures in
    let told = tells w.symbols c.in_ok-roles.roles rules r of rules_for.ellipsis rules_for.literals in
    let are = subst (λ (ns : List code_rule.Rule). AreRules w ns r.rules) (sym c.as_slice-in-List.ensures) rules_for.rules in
    let means = λ (n : ℕ) (m : ℕ) (i : Identifier) (j : Identifier) (h : IsIdent w.symbols n i) (g : IsIdent w.symbols m j).
    c.in_ok-known.ensures n m ∙ known_means w c.told_apart.ensures.idents n m i j h g c.as_slice-2.result.now ∙ ap (λ (ps : List IdPair). means_same w ps i j) c.as_slice-2.ensures in
    let m = whole_match w r same t q.0 q.1 q.2 (Ok c.in_ok-matching_rule-in-List.field-0) q.3 (omega arith)
    (c.in_ok-matching_rule-in-List.ensures.finds r same q.0 q.1 (record { tells = told; means = means }) are (record { place = q.2; whole = subst (StandsFor w c.args.form) q.3 stands; stands = record { parts = q.4; tail = q.5 } })) in
    (r, m.0, rules_for, m.2, named m.0.match.bindings)
