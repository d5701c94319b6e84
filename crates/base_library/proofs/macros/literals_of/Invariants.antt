use Rattle.std.proofs.Common.{map, take}
use Rattle.syntax_tree.specs.Names.{KeepsNames}
use Rattle.base_library.specs.Macros.{Each}
use Rattle.base_library.specs.Sketched.{IsNamed}
use Rattle.base_library.proofs.macros.literals_of.Given as goal

abbrev pub invariant-loop-name : goal.invariant-loop-name
invariant-loop-name l = KeepsNames l.fn.symbols l.symbols × Each (IsNamed l.symbols) l.ids (map (λ s. s.now) (take l.name-index l.names))
