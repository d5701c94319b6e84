use Rattle.std.proofs.Common.{◌+◌, List, None, take, get_or, sym, ap, ◌∙◌, subst, arith}
use Rattle.std.specs.List.{flat_map}
use Rattle.scheme_model.specs.ExpansionFaults.{Named}
use Rattle.scheme_model.specs.Ident.{Ident as Identifier}
use Rattle.scheme_model.specs.Trees.{name, list, tree}
use Rattle.scheme_model.specs.RulesShape.{pattern_variables}
use Rattle.scheme_model.specs.ProgramArrows.{places_at, variable_places}
use Rattle.syntax_tree.specs.declared.rules.Named as code
use Rattle.syntax_tree.specs.Macros.{identifiers}
use Rattle.syntax_tree.specs.Placed.{IsNamed}
use Rattle.core_tree.specs.Names.{AllMatch}
use Rattle.program_leaves.proofs.Growing.{flat_next, flat_all}
use Rattle.program_leaves.proofs.VariableLaws.{variables_are}
use Rattle.program_leaves.proofs.PlaceSteps.{some_added, both_added, variables_at}
use Rattle.program_leaves.proofs.variables.add_rule_binders.Goals as goal

pub variables-requires : goal.variables-requires
variables-requires c = let m = c.requires.1 in (list (tree (name m.head m.head_place) c.requires.0.parts) c.requires.0.tail m.place, m.pattern)

pub loop-variable-preserved : goal.loop-variable-preserved
loop-variable-preserved c =
    let d : code.Named = record { ident = 0; occ = None } in
    let vs = c.as_slice-variable-items.result.now in
    let k = c.loop-variable.variable-index in
    let g = λ (n : code.Named). places_at n.occ in
    both_added c.args.places.now.items c.loop-variable.places.items c.add_place.new.places.items (flat_map g (take k vs)) (g (get_or vs k d)) (flat_map g (take (k + 1) vs)) c.loop-variable.invariant c.in_ok-add_place.ensures (flat_next g vs k d (omega arith))

pub returns : goal.returns
returns c = λ r m tells is.
    let named = IsNamed c.args.work.now.symbols in
    let vs = c.in_ok-variables.variables.items in
    let found = c.in_ok-variables.ensures r (list (tree (name is.head is.head_place) m.parts) m.tail is.place) tells is.pattern in
    let match = subst (λ (ms : List (Named Identifier)). AllMatch named vs ms) (variables_are r m) found in
    let g = λ (n : code.Named). places_at n.occ in
    let all = variables_at c.args.work.now.symbols vs (pattern_variables identifiers r m) match in
    let whole = flat_all g c.as_slice-variable-items.result.now c.loop-variable.variable-index (omega arith) ∙ ap (flat_map g) c.as_slice-variable-items.ensures.value ∙ all in
    some_added c.args.places.now.items c.loop-variable.places.items _ (variable_places (pattern_variables identifiers r m)) c.loop-variable.invariant (sym whole)
