use Rattle.std.proofs.Common.{List, sym, subst}
use Rattle.scheme_model.specs.RulesShape.{role_of}
use Rattle.syntax_tree.specs.declared.rules.Named.{Named}
use Rattle.syntax_tree.specs.Macros.{identifiers}
use Rattle.syntax_tree.specs.Placed.{IsNamed}
use Rattle.core_tree.specs.Names.{AllMatch}
use Rattle.program_leaves.specs.Names.{pattern_names}
use Rattle.program_leaves.specs.Variables.{chosen}
use Rattle.program_leaves.proofs.AddLaws.{all_match}
use Rattle.program_leaves.proofs.variables.variables.Goals as goal

pub add_variables-requires : goal.add_variables-requires
add_variables-requires c =
    let is = IsNamed c.args.work.now.symbols in
    let t = c.requires.0 in
    let match = all_match is c.new-names.result.items c.add_pattern.new.names.items (pattern_names t) c.new-names.ensures.items (c.in_ok-add_pattern.ensures t c.requires.1) in
    (pattern_names t, subst (λ (ns : List Named). AllMatch is ns (pattern_names t)) (sym c.as_slice.ensures.value) match)

pub returns : goal.returns
returns c = λ r t tells h.
    let is = IsNamed c.args.work.now.symbols in
    let match = all_match is c.new-names.result.items c.add_pattern.new.names.items (pattern_names t) c.new-names.ensures.items (c.in_ok-add_pattern.ensures t h) in
    let seen = subst (λ (ns : List Named). AllMatch is ns (pattern_names t)) (sym c.as_slice.ensures.value) match in
    all_match is c.new-found.result.items c.add_variables.new.found.items (chosen (role_of identifiers r) (pattern_names t)) c.new-found.ensures.items (c.in_ok-add_variables.ensures r (pattern_names t) tells seen)
