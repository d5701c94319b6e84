use Rattle.std.proofs.Common.{[], ◌∷◌, ap}
use Rattle.scheme_model.specs.RulesShape.{Role, role_of}
use Rattle.syntax_tree.specs.Macros.{identifiers}
use Rattle.syntax_tree.specs.Placed.{IsNamed}
use Rattle.program_leaves.specs.Variables.{if_variable}
use Rattle.program_leaves.proofs.AddLaws.{adds_none, adds_one, adds_same}
use Rattle.program_leaves.proofs.variables.add_variable.Goals as goal

pub returns-in_ok-push-in-Variable : goal.returns-in_ok-push-in-Variable
returns-in_ok-push-in-Variable c = λ r m tells is.
    let named = IsNamed c.args.work.now.symbols in
    let old = c.args.found.now.items in
    adds_same named old c.push.new.self.items (m ∷ []) (if_variable (role_of identifiers r m.name) m) (ap (λ (x : Role). if_variable x m) (c.in-Variable.ensures r m.name tells is.0))
    (adds_one named old c.push.new.self.items c.args.name m c.in_ok-push-in-Variable.ensures.items is)

pub returns-in-Literal : goal.returns-in-Literal
returns-in-Literal c = λ r m tells is.
    let named = IsNamed c.args.work.now.symbols in
    let old = c.args.found.now.items in
    adds_same named old old [] (if_variable (role_of identifiers r m.name) m) (ap (λ (x : Role). if_variable x m) (c.in-Literal.ensures r m.name tells is.0)) (adds_none named old)

pub returns-in-Ellipsis : goal.returns-in-Ellipsis
returns-in-Ellipsis c = λ r m tells is.
    let named = IsNamed c.args.work.now.symbols in
    let old = c.args.found.now.items in
    adds_same named old old [] (if_variable (role_of identifiers r m.name) m) (ap (λ (x : Role). if_variable x m) (c.in-Ellipsis.ensures r m.name tells is.0)) (adds_none named old)

pub returns-in-Any : goal.returns-in-Any
returns-in-Any c = λ r m tells is.
    let named = IsNamed c.args.work.now.symbols in
    let old = c.args.found.now.items in
    adds_same named old old [] (if_variable (role_of identifiers r m.name) m) (ap (λ (x : Role). if_variable x m) (c.in-Any.ensures r m.name tells is.0)) (adds_none named old)
