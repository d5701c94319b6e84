use Rattle.std.proofs.Common.{None, ◌≡◌, ◌+◌, ◌∷◌, [], ◌++◌, ℕ, List, take, get_or, sym, ap, ◌∙◌}
use Rattle.std.specs.BTreeMap.{BTreeMap, get}
use Rattle.std.specs.Ordering.{nat_cmp}
use Rattle.std.proofs.lemmas.List.{take_more}
use Rattle.rules_check.specs.declared.pattern.Variable.{Variable}
use Rattle.rules_check.specs.Lowest.{depth_by_number}
use Rattle.rules_check.proofs.Faults.{none_is, some_is, depth_added, depth_kept}
use Rattle.rules_check.proofs.rule.depths_of.Goals as goal
use Rattle.rules_check.proofs.rule.depths_of.Goals.{then-not-contains_key+in_ok-insert, else-not-contains_key}

pub loop-variable-preserved : goal.loop-variable-preserved
loop-variable-preserved c = λ n.
    let i = c.loop-variable.variable-index in
    let all = c.args.variables.now in
    let old = c.loop-variable.depths in
    let v : Variable = get_or all i (record { name = record { ident = 0; occ = None }; depth = 0 }) in
    let vs = take i all in
    let more : take (i + 1) all ≡ vs ++ v ∷ [] = take_more all i (record { name = record { ident = 0; occ = None }; depth = 0 }) c.loop-variable-test.true in
    let whole = ap (λ (xs : List Variable). depth_by_number xs n) (sym more) in
    elim c.if-not-contains_key.branch [
      | then-not-contains_key+in_ok-insert w ↦
          ap (λ (d : BTreeMap ℕ ℕ). get nat_cmp d n) w.depths-is
          ∙ depth_added vs v n (get nat_cmp old n) (get nat_cmp w.insert.new.self n) (c.loop-variable.invariant n)
          (sym (c.loop-variable.invariant v.name.ident) ∙ none_is (get nat_cmp old v.name.ident) (sym c.contains_key.ensures ∙ w.if-not-contains_key.true)) (w.in_ok-insert.ensures.updates.0 n) ∙ whole
      | else-not-contains_key w ↦
          let d = some_is (get nat_cmp old v.name.ident) (sym c.contains_key.ensures ∙ w.if-not-contains_key.false) in
          ap (λ (d : BTreeMap ℕ ℕ). get nat_cmp d n) w.depths-is ∙ c.loop-variable.invariant n ∙ depth_kept vs v n d.0 (sym (c.loop-variable.invariant v.name.ident) ∙ d.1) ∙ whole
    ]
