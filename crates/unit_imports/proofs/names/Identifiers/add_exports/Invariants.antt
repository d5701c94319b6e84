use Rattle.std.proofs.Common.{ℕ, List, Option, take}
use Rattle.scheme_model.specs.Entries.{Entry}
use Rattle.scheme_model.specs.Live.{all_export_uses}
use Rattle.scheme_model.specs.Program.{ExportSpec}
use Rattle.syntax_tree.specs.Names.{KeepsNames}
use Rattle.unit_sources.specs.Sources.{AreExports}
use Rattle.unit_imports.specs.Defined.{FindsNames}
use Rattle.unit_imports.specs.NamesUsed.{AddsNames}
use Rattle.unit_imports.proofs.names.Identifiers.add_exports.Given as goal

abbrev pub invariant-loop-spec : goal.invariant-loop-spec
invariant-loop-spec l = record {
  names : KeepsNames l.initial.symbols l.symbols;
  adds : (find : List ℕ → Option Entry) → FindsNames l.initial.symbols l.found.entries.now find → (xs : List ExportSpec) → AreExports l.specs xs →
      AddsNames l.symbols l.initial.self l.self (all_export_uses find (take l.spec-index xs));
}
