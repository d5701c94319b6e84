use Rattle.std.proofs.Common.{Bool, sym, ap, ◌∙◌}
use Rattle.scheme_model.specs.RulesShape.{acts_as_ellipsis}
use Rattle.alpha_equal.specs.Nodes.{dots_where}
use Rattle.alpha_equal.proofs.trees.acts_as_dots.Goals as goal

pub returns-then-escaped : goal.returns-then-escaped
returns-then-escaped c = λ r i tells is. sym (ap (λ (b : Bool). dots_where b r i) c.if-escaped.true)

pub returns-in-Ellipsis : goal.returns-in-Ellipsis
returns-in-Ellipsis c = λ r i tells is. ap acts_as_ellipsis (c.in-Ellipsis.ensures r i tells is) ∙ sym (ap (λ (b : Bool). dots_where b r i) c.if-escaped.false)

pub returns-in-Literal : goal.returns-in-Literal
returns-in-Literal c = λ r i tells is. ap acts_as_ellipsis (c.in-Literal.ensures r i tells is) ∙ sym (ap (λ (b : Bool). dots_where b r i) c.if-escaped.false)

pub returns-in-Any : goal.returns-in-Any
returns-in-Any c = λ r i tells is. ap acts_as_ellipsis (c.in-Any.ensures r i tells is) ∙ sym (ap (λ (b : Bool). dots_where b r i) c.if-escaped.false)

pub returns-in-Variable : goal.returns-in-Variable
returns-in-Variable c = λ r i tells is. ap acts_as_ellipsis (c.in-Variable.ensures r i tells is) ∙ sym (ap (λ (b : Bool). dots_where b r i) c.if-escaped.false)
