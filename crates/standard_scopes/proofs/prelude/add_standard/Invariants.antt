use Rattle.std.proofs.Common.{◌≡◌, take}
use Rattle.syntax_tree.specs.Names.{KeepsNames}
use Rattle.standard_scopes.specs.Begun.{AddsStandard}
use Rattle.standard_scopes.proofs.prelude.add_standard.Given as goal

abbrev pub invariant-loop-name : goal.invariant-loop-name
invariant-loop-name l = record {
  adds : AddsStandard l.work.symbols l.fn.imports.items l.imports.items (take l.name-index l.names);
  trees : l.work.trees ≡ l.fn.work.trees;
  names : KeepsNames l.fn.work.symbols l.work.symbols;
}
