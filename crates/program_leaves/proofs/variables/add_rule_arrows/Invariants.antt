use Rattle.std.proofs.Common.{◌≡◌, ◌++◌, map, take}
use Rattle.std.specs.List.{flat_map}
use Rattle.scheme_model.specs.ProgramArrows.{arrow_of}
use Rattle.syntax_tree.specs.declared.rules.Named.{Named}
use Rattle.program_leaves.specs.Pairs.{as_arrow}
use Rattle.program_leaves.specs.Placed.{place_in}
use Rattle.program_leaves.specs.Variables.{place_among}
use Rattle.program_leaves.proofs.variables.add_rule_arrows.Given as goal

abbrev pub invariant-loop-name : goal.invariant-loop-name
invariant-loop-name l =
    map as_arrow l.pairs.items ≡ map as_arrow l.fn.pairs.items ++ flat_map (λ (n : Named). arrow_of (place_in (place_among l.variables.items n.ident)) n.occ) (take l.name-index l.name-items)
