use Rattle.std.proofs.Common.{[], ◌∷◌, refl, sym, ap, ◌∙◌, subst}
use Rattle.scheme_model.specs.ExpansionFaults.{named as named_at}
use Rattle.scheme_model.specs.RulesShape.{Role, role_of}
use Rattle.syntax_tree.specs.Macros.{identifiers}
use Rattle.syntax_tree.specs.Placed.{IsNamed}
use Rattle.program_leaves.specs.Variables.{if_variable}
use Rattle.program_leaves.proofs.AddLaws.{adds_none, adds_one, adds_same}
use Rattle.alpha_equal.specs.declared.trees.TreeNode.{TreeNode}
use Rattle.alpha_equal.specs.Nodes.{IsNode}
use Rattle.program_differences.specs.Variables.{variable_in}
use Rattle.alpha_equal.proofs.MeaningLaws.{within}
use Rattle.program_differences.proofs.rules.add_variable.Goals as goal

pub role-requires : goal.role-requires
role-requires c =
    let at = subst (λ (x : TreeNode). IsNode c.args.work.now.symbols x c.requires.0) c.in-Name.is c.requires.1 in
    within c.args.work.now.symbols.idents c.in-Name.ident at.0 at.2

pub returns-in_ok-push-in-Variable : goal.returns-in_ok-push-in-Variable
returns-in_ok-push-in-Variable c = λ r t tells is.
    let named = IsNamed c.args.work.now.symbols in
    let old = c.args.found.now.items in
    let at = subst (λ (x : TreeNode). IsNode c.args.work.now.symbols x t) c.in-Name.is is in
    let it = named_at at.0 c.in-Name.occ in
    adds_same named old c.push.new.self.items (it ∷ []) (variable_in (role_of identifiers r) t) (ap (λ (x : Role). if_variable x it) (c.in-Variable.ensures r at.0 tells at.2) ∙ ap (variable_in (role_of identifiers r)) (sym at.1))
    (adds_one named old c.push.new.self.items _ it c.in_ok-push-in-Variable.ensures.items (at.2, refl))

pub returns-in-Literal : goal.returns-in-Literal
returns-in-Literal c = λ r t tells is.
    let named = IsNamed c.args.work.now.symbols in
    let old = c.args.found.now.items in
    let at = subst (λ (x : TreeNode). IsNode c.args.work.now.symbols x t) c.in-Name.is is in
    adds_same named old old [] (variable_in (role_of identifiers r) t) (ap (λ (x : Role). if_variable x (named_at at.0 c.in-Name.occ)) (c.in-Literal.ensures r at.0 tells at.2) ∙ ap (variable_in (role_of identifiers r)) (sym at.1)) (adds_none named old)

pub returns-in-Ellipsis : goal.returns-in-Ellipsis
returns-in-Ellipsis c = λ r t tells is.
    let named = IsNamed c.args.work.now.symbols in
    let old = c.args.found.now.items in
    let at = subst (λ (x : TreeNode). IsNode c.args.work.now.symbols x t) c.in-Name.is is in
    adds_same named old old [] (variable_in (role_of identifiers r) t) (ap (λ (x : Role). if_variable x (named_at at.0 c.in-Name.occ)) (c.in-Ellipsis.ensures r at.0 tells at.2) ∙ ap (variable_in (role_of identifiers r)) (sym at.1)) (adds_none named old)

pub returns-in-Any : goal.returns-in-Any
returns-in-Any c = λ r t tells is.
    let named = IsNamed c.args.work.now.symbols in
    let old = c.args.found.now.items in
    let at = subst (λ (x : TreeNode). IsNode c.args.work.now.symbols x t) c.in-Name.is is in
    adds_same named old old [] (variable_in (role_of identifiers r) t) (ap (λ (x : Role). if_variable x (named_at at.0 c.in-Name.occ)) (c.in-Any.ensures r at.0 tells at.2) ∙ ap (variable_in (role_of identifiers r)) (sym at.1)) (adds_none named old)

pub returns-in-Atom : goal.returns-in-Atom
returns-in-Atom c = λ r t tells is.
    let named = IsNamed c.args.work.now.symbols in
    let old = c.args.found.now.items in
    let at = subst (λ (x : TreeNode). IsNode c.args.work.now.symbols x t) c.in-Atom.is is in
    adds_same named old old [] (variable_in (role_of identifiers r) t) (ap (variable_in (role_of identifiers r)) (sym at.1)) (adds_none named old)

pub returns-in-List : goal.returns-in-List
returns-in-List c = λ r t tells is.
    let named = IsNamed c.args.work.now.symbols in
    let old = c.args.found.now.items in
    let at = subst (λ (x : TreeNode). IsNode c.args.work.now.symbols x t) c.in-List.is is in
    adds_same named old old [] (variable_in (role_of identifiers r) t) (ap (variable_in (role_of identifiers r)) (sym at)) (adds_none named old)

pub returns-in-Vector : goal.returns-in-Vector
returns-in-Vector c = λ r t tells is.
    let named = IsNamed c.args.work.now.symbols in
    let old = c.args.found.now.items in
    let at = subst (λ (x : TreeNode). IsNode c.args.work.now.symbols x t) c.in-Vector.is is in
    adds_same named old old [] (variable_in (role_of identifiers r) t) (ap (variable_in (role_of identifiers r)) (sym at)) (adds_none named old)

pub returns-in-Escape : goal.returns-in-Escape
returns-in-Escape c = λ r t tells is.
    let named = IsNamed c.args.work.now.symbols in
    let old = c.args.found.now.items in
    let at = subst (λ (x : TreeNode). IsNode c.args.work.now.symbols x t) c.in-Escape.is is in
    adds_same named old old [] (variable_in (role_of identifiers r) t) (ap (variable_in (role_of identifiers r)) (sym at)) (adds_none named old)
