use Rattle.std.proofs.Common.{List, map, take}
use Rattle.scheme_model.specs.Entries.{Entry}
use Rattle.scheme_model.specs.Live.{pair_uses}
use Rattle.syntax_tree.specs.Names.{KeepsNames}
use Rattle.syntax_tree.specs.Meant.{AreEntries}
use Rattle.import_sets.specs.Sets.{paired}
use Rattle.unit_imports.specs.NamesUsed.{AddsNames}
use Rattle.unit_imports.proofs.names.Identifiers.add_pairs.Given as goal

abbrev pub invariant-loop-from : goal.invariant-loop-from
invariant-loop-from l = record {
  names : KeepsNames l.initial.symbols l.symbols;
  adds : (es : List Entry) → AreEntries l.initial.symbols l.inner es → AddsNames l.symbols l.initial.self l.self (pair_uses es (map paired (take l.from-index l.pairs)));
}
