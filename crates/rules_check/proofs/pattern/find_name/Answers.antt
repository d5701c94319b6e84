use Rattle.std.proofs.Common.{refl}
use Rattle.scheme_model.specs.RulesShape.{IsLiteral, IsEllipsis, IsAny}
use Rattle.rules_check.proofs.Contents.{variable_found, other_found}
use Rattle.rules_check.proofs.pattern.find_name.Goals as goal

pub returns-in_ok-push-in-Variable : goal.returns-in_ok-push-in-Variable
returns-in_ok-push-in-Variable c = λ r i o tells is.
    variable_found c.args.work.now c.args.found.now (record { misplaced = c.args.found.now.misplaced; two = c.args.found.now.two; variables = c.push.new.self }) r i o c.args.depth c.args.name refl refl c.in_ok-push-in-Variable.ensures.items is
    (c.in-Variable.ensures r i tells is.0)

pub returns-in-Literal : goal.returns-in-Literal
returns-in-Literal c = λ r i o tells is. other_found c.args.work.now c.args.found.now r i o c.args.depth IsLiteral refl (c.in-Literal.ensures r i tells is.0)

pub returns-in-Ellipsis : goal.returns-in-Ellipsis
returns-in-Ellipsis c = λ r i o tells is. other_found c.args.work.now c.args.found.now r i o c.args.depth IsEllipsis refl (c.in-Ellipsis.ensures r i tells is.0)

pub returns-in-Any : goal.returns-in-Any
returns-in-Any c = λ r i o tells is. other_found c.args.work.now c.args.found.now r i o c.args.depth IsAny refl (c.in-Any.ensures r i tells is.0)
