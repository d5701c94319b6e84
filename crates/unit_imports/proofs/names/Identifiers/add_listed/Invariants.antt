use Rattle.std.proofs.Common.{List, map, take}
use Rattle.scheme_model.specs.Entries.{Entry}
use Rattle.scheme_model.specs.Live.{listed_uses}
use Rattle.syntax_tree.specs.Names.{KeepsNames}
use Rattle.syntax_tree.specs.Meant.{AreEntries}
use Rattle.import_sets.specs.Sets.{named}
use Rattle.unit_imports.specs.NamesUsed.{AddsNames}
use Rattle.unit_imports.proofs.names.Identifiers.add_listed.Given as goal

abbrev pub invariant-loop-name : goal.invariant-loop-name
invariant-loop-name l = record {
  names : KeepsNames l.initial.symbols l.symbols;
  adds : (es : List Entry) → AreEntries l.initial.symbols l.inner es → AddsNames l.symbols l.initial.self l.self (listed_uses es (map named (take l.name-index l.names)));
}
