use Rattle.std.proofs.Common.{List, [], sym, ap, ◌∙◌, subst}
use Rattle.std.specs.Prelude.{Option}
use Rattle.scheme_model.specs.Trees.{name, list, tree}
use Rattle.scheme_model.specs.RulesShape.{check_rule, depth_of, first_twice, pattern_variables}
use Rattle.syntax_tree.specs.Macros.{identifiers}
use Rattle.rules_check.specs.declared.pattern.Variable.{Variable}
use Rattle.rules_check.specs.Checked.{Passes}
use Rattle.syntax_tree.specs.declared.rules.Named.{Named}
use Rattle.rules_check.specs.Templates.{HasDepths}
use Rattle.rules_check.specs.Lowest.{depth_by_number, twice_by_number}
use Rattle.rules_check.proofs.ReadLaws.{ends_err}
use Rattle.rules_check.proofs.Faults.{IsTwice, twice_is, depth_is, rule_passes}
use Rattle.rules_check.proofs.rule.check_rule.Goals as goal

pub find_pattern-requires : goal.find_pattern-requires
find_pattern-requires c = let m = c.requires.1 in (list (tree (name m.head m.head_place) c.requires.0.parts) c.requires.0.tail m.place, m.pattern)

pub returns-in_err-lowest : goal.returns-in_err-lowest
returns-in_err-lowest c = λ r m tells h.
    let w = c.args.work.now in
    let apart = c.told_apart.ensures.idents in
    let found = c.in_ok-found.found in
    let f = c.in_ok-found.ensures r (name h.head h.head_place) m.parts m.tail h.place tells h.pattern in
    let vs = found.variables.items in
    let ws = pattern_variables identifiers r m in
    let depth = depth_of identifiers.same ws in
    let has : HasDepths w c.in_ok-depths.depths depth =
    λ n i g. c.in_ok-depths.ensures n ∙ ap (λ (xs : List Variable). depth_by_number xs n) c.as_slice.ensures.value ∙ depth_is w apart vs ws f.are n i g in
    let seen = c.see-seen.ensures r depth m.template tells has h.template in
    let whole = c.is_dots-whole.ensures r m.template tells h.template in
    let twice = subst (λ (o : Option Named). IsTwice w o (first_twice identifiers.same [] ws)) (sym (c.in_ok-twice.ensures ∙ ap (twice_by_number []) c.as_slice-2.ensures.value)) (twice_is w apart [] [] vs ws tt f.are) in
    let passes = subst (Passes w (check_rule identifiers r m)) (sym c.lowest.ensures) (rule_passes w r m found c.is_dots-whole.result c.in_ok-twice.twice c.see-seen.result f whole twice seen) in
    let e = c.in_err-lowest.field-0.0 in
    ends_err w (λ done also. Unit {0}) (check_rule identifiers r m) c.from_residual-in_err-lowest.result e c.from_residual-in_err-lowest.ensures.1 (subst (Passes w (check_rule identifiers r m)) c.in_err-lowest.was passes)

pub returns : goal.returns
returns c = λ r m tells h.
    let w = c.args.work.now in
    let apart = c.told_apart.ensures.idents in
    let found = c.in_ok-found.found in
    let f = c.in_ok-found.ensures r (name h.head h.head_place) m.parts m.tail h.place tells h.pattern in
    let vs = found.variables.items in
    let ws = pattern_variables identifiers r m in
    let depth = depth_of identifiers.same ws in
    let has : HasDepths w c.in_ok-depths.depths depth =
    λ n i g. c.in_ok-depths.ensures n ∙ ap (λ (xs : List Variable). depth_by_number xs n) c.as_slice.ensures.value ∙ depth_is w apart vs ws f.are n i g in
    let seen = c.see-seen.ensures r depth m.template tells has h.template in
    let whole = c.is_dots-whole.ensures r m.template tells h.template in
    let twice = subst (λ (o : Option Named). IsTwice w o (first_twice identifiers.same [] ws)) (sym (c.in_ok-twice.ensures ∙ ap (twice_by_number []) c.as_slice-2.ensures.value)) (twice_is w apart [] [] vs ws tt f.are) in
    let passes = subst (Passes w (check_rule identifiers r m)) (sym c.lowest.ensures) (rule_passes w r m found c.is_dots-whole.result c.in_ok-twice.twice c.see-seen.result f whole twice seen) in
    subst (Passes w (check_rule identifiers r m)) c.in_ok-lowest.was passes
