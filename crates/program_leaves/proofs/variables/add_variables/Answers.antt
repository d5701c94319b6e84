use Rattle.std.proofs.Common.{◌++◌, take, None, sym, ap, arith}
use Rattle.scheme_model.specs.RulesShape.{role_of}
use Rattle.syntax_tree.specs.Macros.{identifiers}
use Rattle.syntax_tree.specs.Placed.{IsNamed}
use Rattle.program_leaves.specs.Variables.{if_variable, chosen}
use Rattle.program_leaves.proofs.AddLaws.{adds_none, adds_both, adds_same}
use Rattle.program_leaves.proofs.VariableLaws.{match_at, match_all, chosen_more}
use Rattle.program_leaves.proofs.variables.add_variables.Goals as goal

pub loop-name-init : goal.loop-name-init
loop-name-init c = λ r ms tells match. adds_none (IsNamed c.args.work.now.symbols) c.args.found.now.items

pub add_variable-requires : goal.add_variable-requires
add_variable-requires c =
    let is = IsNamed c.args.work.now.symbols in
    let a = match_at is c.args.names.now c.requires.0 c.loop-name.name-index (record { ident = 0; occ = None }) c.requires.1 (omega arith) in
    (a.item.name, a.is.0)

pub loop-name-preserved : goal.loop-name-preserved
loop-name-preserved c = λ r ms tells match.
    let is = IsNamed c.args.work.now.symbols in
    let role = role_of identifiers r in
    let k = c.loop-name.name-index in
    let a = match_at is c.args.names.now ms k (record { ident = 0; occ = None }) match (omega arith) in
    adds_same is c.args.found.now.items c.add_variable.new.found.items (chosen role (take k ms) ++ if_variable (role a.item.name) a.item) _ (sym (chosen_more role ms k a.item a.more))
    (adds_both is c.args.found.now.items c.loop-name.found.items c.add_variable.new.found.items (chosen role (take k ms)) (if_variable (role a.item.name) a.item) (c.loop-name.invariant r ms tells match) (c.in_ok-add_variable.ensures r a.item tells a.is))

pub returns : goal.returns
returns c = λ r ms tells match.
    let is = IsNamed c.args.work.now.symbols in
    let role = role_of identifiers r in
    adds_same is c.args.found.now.items c.loop-name.found.items _ (chosen role ms) (ap (chosen role) (match_all is c.args.names.now ms c.loop-name.name-index match (omega arith))) (c.loop-name.invariant r ms tells match)
