use Rattle.std.proofs.Common.{◌≡◌, ℕ, List, map, take, length, false, refl, sym, ap, ◌∙◌, subst}
use Rattle.rules_check.specs.declared.leaf.RuleLeaf.{RuleLeaf}
use Rattle.equal_trees.proofs.EqualLaws.{is_not}
use Rattle.equal_trees.proofs.rules.same_literals.Goals as goal

pub returns-then-other_count-count : goal.returns-then-other_count-count
returns-then-other_count-count c =
    let n = ap (λ (xs : List ℕ). length xs) c.as_slice-count.ensures in
    let m = ap (λ (xs : List ℕ). length xs) c.as_slice-other_count.ensures in
    is_not false refl (λ p. c.if-other_count-count.true (m ∙ (sym p.0 ∙ sym n)))

pub returns : goal.returns
returns c =
    let n = ap (λ (xs : List ℕ). length xs) c.as_slice-count.ensures in
    let m = ap (λ (xs : List ℕ). length xs) c.as_slice-other_count.ensures in
    let same : ℕ → Type 0 = λ k. take k (map (λ (l : RuleLeaf). l.name) c.args.leaves.now) ≡ take k (map (λ (l : RuleLeaf). l.name) c.args.others.now) in
    (λ h. (sym n ∙ (sym c.if-other_count-count.false ∙ m), subst same n (c.same_names.ensures.0 h)), λ p. c.same_names.ensures.1 (subst same (sym n) p.1))
