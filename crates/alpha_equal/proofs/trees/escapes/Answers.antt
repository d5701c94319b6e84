use Rattle.std.proofs.Common.{Bool, sym, ap, ◌∙◌}
use Rattle.scheme_model.specs.Building.{is_escape}
use Rattle.alpha_equal.specs.Nodes.{dots_where}
use Rattle.alpha_equal.proofs.NodeLaws.{no_escape}
use Rattle.alpha_equal.proofs.trees.escapes.Goals as goal

pub returns-then-escaped : goal.returns-then-escaped
returns-then-escaped c = λ r ts tail tells parts ends. sym (ap (λ (b : Bool). is_escape (dots_where b r) ts tail) c.if-escaped.true ∙ no_escape ts tail)

pub returns : goal.returns
returns c = λ r ts tail tells parts ends. c.is_dots_first.ensures r ts tail tells parts ends ∙ sym (ap (λ (b : Bool). is_escape (dots_where b r) ts tail) c.if-escaped.false)
