use Rattle.std.proofs.Common.{Bool, sym, ap, ◌∙◌}
use Rattle.scheme_model.specs.RulesShape.{starts_dots}
use Rattle.scheme_model.specs.Matching.{behind}
use Rattle.rules_build.specs.Builds.{dots_where}
use Rattle.rules_build.proofs.Tails.{starts_nowhere}
use Rattle.rules_build.proofs.walk.Walk.dots_at.Goals as goal

pub returns-then-escaped : goal.returns-then-escaped
returns-then-escaped c = λ r ts tells h. sym (ap (λ (b : Bool). starts_dots (dots_where b r) (behind c.args.k ts)) c.if-escaped.true ∙ starts_nowhere (behind c.args.k ts))

pub returns : goal.returns
returns c = λ r ts tells h. c.dots_at.ensures r ts tells h ∙ ap (λ (b : Bool). starts_dots (dots_where b r) (behind c.args.k ts)) (sym c.if-escaped.false)
