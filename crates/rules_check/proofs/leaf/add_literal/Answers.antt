use Rattle.std.proofs.Common.{[], ◌∷◌, refl, true, ap}
use Rattle.scheme_model.specs.ExpansionFaults.{named}
use Rattle.scheme_model.specs.RulesShape.{Role, role_of}
use Rattle.scheme_model.specs.Leaves.{literal_at}
use Rattle.syntax_tree.specs.Macros.{identifiers}
use Rattle.rules_check.proofs.Gathering.{adds_none, adds_one, adds_same}
use Rattle.rules_check.proofs.leaf.add_literal.Goals as goal

pub returns-in_ok-push-in-Literal : goal.returns-in_ok-push-in-Literal
returns-in_ok-push-in-Literal c = λ r i o tells is.
    let names = c.args.work.now.symbols in
    let old = c.args.leaves.now.items in
    adds_same names old c.push.new.self.items (record { leaf = named i o; literal = true } ∷ []) (literal_at (role_of identifiers r i) (named i o)) (ap (λ (x : Role). literal_at x (named i o)) (c.in-Literal.ensures r i tells is.0))
    (adds_one names old c.push.new.self.items (record { name = c.args.name; literal = true }) (record { leaf = named i o; literal = true }) c.in_ok-push-in-Literal.ensures.items (is, refl))

pub returns-in-Ellipsis : goal.returns-in-Ellipsis
returns-in-Ellipsis c = λ r i o tells is.
    let old = c.args.leaves.now.items in
    adds_same c.args.work.now.symbols old old [] (literal_at (role_of identifiers r i) (named i o)) (ap (λ (x : Role). literal_at x (named i o)) (c.in-Ellipsis.ensures r i tells is.0)) (adds_none c.args.work.now.symbols old)

pub returns-in-Any : goal.returns-in-Any
returns-in-Any c = λ r i o tells is.
    let old = c.args.leaves.now.items in
    adds_same c.args.work.now.symbols old old [] (literal_at (role_of identifiers r i) (named i o)) (ap (λ (x : Role). literal_at x (named i o)) (c.in-Any.ensures r i tells is.0)) (adds_none c.args.work.now.symbols old)

pub returns-in-Variable : goal.returns-in-Variable
returns-in-Variable c = λ r i o tells is.
    let old = c.args.leaves.now.items in
    adds_same c.args.work.now.symbols old old [] (literal_at (role_of identifiers r i) (named i o)) (ap (λ (x : Role). literal_at x (named i o)) (c.in-Variable.ensures r i tells is.0)) (adds_none c.args.work.now.symbols old)
