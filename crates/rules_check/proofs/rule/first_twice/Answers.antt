use Rattle.std.proofs.Common.{None, ◌+◌, ◌∷◌, get_or, drop, sym, ◌∙◌, arith}
use Rattle.std.specs.BTreeSet.{contains}
use Rattle.std.specs.Ordering.{nat_cmp}
use Rattle.std.proofs.lemmas.Grind.{common_steps}
use Rattle.std.proofs.lemmas.List.{drop_more}
use Rattle.rules_check.specs.declared.pattern.Variable.{Variable}
use Rattle.rules_check.proofs.Faults.{twice_more, not_true}
use Rattle.rules_check.proofs.rule.first_twice.Goals as goal

pub loop-variable-preserved : goal.loop-variable-preserved
loop-variable-preserved c =
    let i = c.loop-variable.variable-index in
    let all = c.args.variables.now in
    let v : Variable = get_or all i (record { name = record { ident = 0; occ = None }; depth = 0 }) in
    let inv = c.loop-variable.invariant in
    let fresh = sym (inv.2 v.name.ident) ∙ not_true (contains nat_cmp c.loop-variable.seen v.name.ident) (sym c.in_ok-insert.ensures.added ∙ c.if-not-branch.false) in
    (v.name.ident ∷ inv.0, inv.1 ∙ twice_more inv.0 (drop i all) (drop (i + 1) all) v (drop_more all i (record { name = record { ident = 0; occ = None }; depth = 0 }) c.loop-variable-test.true) fresh, λ q. grind (arith, common_steps, inv.2 q))
