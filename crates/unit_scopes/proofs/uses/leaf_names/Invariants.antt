use Rattle.std.proofs.Common.{List, map, take}
use Rattle.scheme_model.specs.ExpansionFaults.{Named}
use Rattle.scheme_model.specs.Ident.{Ident as Identifier}
use Rattle.syntax_tree.specs.Macros.{AreLeaves}
use Rattle.core_forms.specs.Parts.{IsName}
use Rattle.core_tree.specs.Names.{AllMatch}
use Rattle.unit_scopes.proofs.uses.leaf_names.Given as goal

abbrev pub invariant-loop-leaf : goal.invariant-loop-leaf
invariant-loop-leaf l = (ns : List (Named Identifier)) → AreLeaves l.work l.leaves ns → AllMatch (IsName l.work) l.names.items (map (λ n. n) (take l.leaf-index ns))
