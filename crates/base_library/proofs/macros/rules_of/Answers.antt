use Rattle.std.proofs.Common.{◌≡◌, ℕ, ◌+◌, ◌*◌, List, [], ◌∷◌, ◌++◌, get_or, take, sym, ap, ◌∙◌, arith}
use Rattle.syntax_tree.specs.declared.trees.nodes.Tree as number
use Rattle.syntax_tree.specs.declared.rules.Rule as code_rule
use Rattle.base_library.specs.Sketched.{paired}
use Rattle.base_library.proofs.MacroLaws.{pair_more, pair_all}
use Rattle.base_library.proofs.macros.rules_of.Goals as goal

pub loop-k-preserved : goal.loop-k-preserved
loop-k-preserved c =
    let ns = c.args.trees.now in
    let k = c.loop-k.k in
    let d : number.Tree = record { number = 0 } in
    let rule : code_rule.Rule = record { pattern = get_or ns (2 * k) d; template = get_or ns (2 * k + 1) d } in
    let next : 2 * k + 2 ≡ 2 * (k + 1) = omega arith in
    c.in_ok-push.ensures.ok
    ∙ ap (λ (rs : List code_rule.Rule). rs ++ rule ∷ []) c.loop-k.invariant
    ∙ sym (pair_more k ns d d (omega arith))
    ∙ ap (λ (i : ℕ). paired (take i ns)) next

pub returns : goal.returns
returns c = c.loop-k.invariant ∙ pair_all c.args.trees.now c.loop-k.k (omega arith)
