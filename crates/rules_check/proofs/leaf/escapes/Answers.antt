use Rattle.std.proofs.Common.{Bool, sym, ap, ◌∙◌}
use Rattle.std.specs.Prelude.{is_some}
use Rattle.scheme_model.specs.RulesShape.{escape_of}
use Rattle.rules_check.specs.Templates.{dots_where}
use Rattle.rules_check.proofs.Sights.{no_escape}
use Rattle.rules_check.proofs.leaf.escapes.Goals as goal

pub returns-then-escaped : goal.returns-then-escaped
returns-then-escaped c = λ r ts tail tells parts ends. sym (ap (λ (b : Bool). is_some (escape_of (dots_where b r) ts tail)) c.if-escaped.true ∙ ap is_some (no_escape ts tail))

pub returns : goal.returns
returns c = λ r ts tail tells parts ends. c.is_escape.ensures r ts tail tells parts ends ∙ sym (ap (λ (b : Bool). is_some (escape_of (dots_where b r) ts tail)) c.if-escaped.false)
