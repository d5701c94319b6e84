-- Tails by number, and rows of ellipses.
use Rattle.std.proofs.Common.{◌≡◌, ℕ, suc, ◌+◌, ◌≤◌, Bool, true, false, Option, Some, None, refl, sym, ap, ◌∙◌, subst, arith}
use Rattle.std.specs.Prelude.{if◌then◌else◌}
use Rattle.std.proofs.lemmas.Option.{same_Some}
use Rattle.scheme_model.specs.Trees.{Tree, name, atom, list, vector, Trees, no_trees, tree, Tail, proper, dotted}
use Rattle.scheme_model.specs.RulesShape.{is_dots, starts_dots, leading, nowhere}
use Rattle.scheme_model.specs.Ident.{Ident as Identifier}
use Rattle.scheme_model.specs.Measures.{tail_depth}
use Rattle.syntax_tree.specs.Standing.{is_list}
use Rattle.syntax_tree.specs.Looks.{EndStands, StandsWithin, EndWithin}
use Rattle.syntax_tree.specs.Works.{StandsFor}
use Rattle.syntax_tree.specs.declared.trees.Work.{Work}
use Rattle.syntax_tree.specs.declared.trees.nodes.Tree as number

module _ (work : Work) where
  pub end_proper : (end : Option number.Tree) (tail : Tail Identifier) → end ≡ None → EndStands work end tail → tail ≡ proper
  end_proper None proper e h = refl
  end_proper None (dotted t) e h = absurd h
  end_proper (Some n) tail e h = absurd cc

  pub end_dotted : (end : Option number.Tree) (tail : Tail Identifier) (n : number.Tree) → end ≡ Some n → EndStands work end tail → (t : Tree Identifier) × (tail ≡ dotted t) × (is_list t ≡ false) × StandsFor work n t
  end_dotted None tail n e h = absurd cc
  end_dotted (Some m) proper n e h = absurd h
  end_dotted (Some m) (dotted t) n e h = (t, refl, h.0, subst (λ x. StandsFor work x t) (same_Some m n e) h.1)

  pub tail_within : (end : Option number.Tree) (n : number.Tree) (depth : ℕ) → end ≡ Some n → EndWithin work end depth → StandsWithin work n depth
  tail_within end n depth e h =
      let p = end_dotted end h.0 n e h.1 in
      let deep : tail_depth (dotted p.0) ≤ depth = subst (λ (x : Tail Identifier). tail_depth x ≤ depth) p.1 h.2 in
      (p.0, p.3, deep)

pub leading_stop : (dots : Identifier → Bool) (ts : Trees Identifier) (t : Tree Identifier) (us : Trees Identifier) → ts ≡ tree t us → is_dots dots t ≡ false → leading dots ts ≡ 0
leading_stop dots ts t us e h = ap (leading dots) e ∙ ap (λ (b : Bool). if b then suc (leading dots us) else 0) h

pub leading_more : (dots : Identifier → Bool) (ts : Trees Identifier) (t : Tree Identifier) (us : Trees Identifier) → ts ≡ tree t us → is_dots dots t ≡ true → leading dots ts ≡ 1 + leading dots us
leading_more dots ts t us e h =
    let s : suc (leading dots us) ≡ 1 + leading dots us = omega arith in
    ap (leading dots) e ∙ ap (λ (b : Bool). if b then suc (leading dots us) else 0) h ∙ s

pub leading_none : (dots : Identifier → Bool) (ts : Trees Identifier) → ts ≡ no_trees → leading dots ts ≡ 0
leading_none dots ts e = ap (leading dots) e

pub not_leading : (dots : Identifier → Bool) (ts : Trees Identifier) → starts_dots dots ts ≡ false → 0 ≡ leading dots ts
not_leading dots no_trees h = refl
not_leading dots (tree t ts) h = sym (leading_stop dots (tree t ts) t ts refl h)

pub starts_nowhere : (ts : Trees Identifier) → starts_dots nowhere ts ≡ false
starts_nowhere no_trees = refl
starts_nowhere (tree (name i o) ts) = refl
starts_nowhere (tree (atom a o) ts) = refl
starts_nowhere (tree (list us tail o) ts) = refl
starts_nowhere (tree (vector us o) ts) = refl
