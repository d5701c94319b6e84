use Rattle.std.proofs.Common.{◌≡◌, take, map}
use Rattle.core_tree.specs.Names.{AllMatch}
use Rattle.syntax_tree.specs.Names.{KeepsNames}
use Rattle.standard_scopes.specs.Begun.{IsStandardName}
use Rattle.standard_scopes.proofs.StandardNames.{names_in}
use Rattle.standard_scopes.proofs.prelude.all_standard.Given as goal

abbrev pub invariant-loop-library : goal.invariant-loop-library
invariant-loop-library l = record {
  are : AllMatch (IsStandardName l.work.symbols) l.imports.items (names_in (map (λ s. s.now) (take l.library-index l.library-items)));
  trees : l.work.trees ≡ l.fn.work.trees;
  names : KeepsNames l.fn.work.symbols l.work.symbols;
}
