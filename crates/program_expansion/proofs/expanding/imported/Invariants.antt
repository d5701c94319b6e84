use Rattle.std.proofs.Common.{◌≡◌, take}
use Rattle.syntax_tree.specs.Names.{KeepsNames}
use Rattle.core_tree.specs.Names.{AllMatch}
use Rattle.standard_scopes.specs.Begun.{IsImport}
use Rattle.program_expansion.proofs.expanding.imported.Given as goal

abbrev pub invariant-loop-entry : goal.invariant-loop-entry
invariant-loop-entry l = record {
  are : AllMatch (IsImport l.work.symbols) l.imports.items (take l.entry-index l.entries);
  trees : l.work.trees ≡ l.fn.work.trees;
  names : KeepsNames l.fn.work.symbols l.work.symbols;
}
